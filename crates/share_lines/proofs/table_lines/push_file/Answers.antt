use Rattle.std.proofs.Common.{◌≡◌, ◌++◌, ◌∷◌, [], OnOk, subst}
use Rattle.share_lines.specs.Printing.{line_text}
use Rattle.share_lines.specs.Parts.{line_of}
use Rattle.share_lines.specs.declared.parts.FileKind.TheVariants as kind
use Rattle.share_lines.proofs.table_lines.push_file.Goals as goal

pub returns-clause-line : goal.returns-clause-line
returns-clause-line c =
    subst (λ f. OnOk c.push_file_parts.result (c.push_file_parts.new.out.items ≡ c.args.out.now.items ++ (line_text (line_of kind.File f) ++ 10 ∷ []))) c.of_add.ensures c.push_file_parts.ensures.line
