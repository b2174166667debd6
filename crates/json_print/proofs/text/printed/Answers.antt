use Rattle.std.proofs.Common.{◌++◌, ◌∙◌, ap, sym, subst, true≢false}
use Rattle.std.specs.Prelude.{IsUtf8, is_ok}
use Rattle.json.specs.Print.{print}
use Rattle.json_print.proofs.text.printed.Goals as goal

pub unreachable-requires : goal.unreachable-requires
unreachable-requires c =
    true≢false (sym (c.from_utf8.ensures.succeeds (subst IsUtf8 (sym (c.into_inner.ensures.items ∙ ap (λ b. b ++ print c.args.writer.tokens) c.requires)) c.into_inner.ensures.utf8)) ∙ ap is_ok c.in_default.is)
