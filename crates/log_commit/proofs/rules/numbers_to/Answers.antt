use Rattle.std.proofs.Common.{suc, ◌+◌, ◌≡◌, ◌∷◌, ◌++◌, [], ◌∙◌, ap, sym, arith}
use Rattle.std.specs.List.{range_with_len}
use Rattle.log_commit.proofs.CommitRules.{range_more}
use Rattle.log_commit.proofs.rules.numbers_to.Goals as goal

pub loop-place-preserved : goal.loop-place-preserved
loop-place-preserved c =
    let e : c.loop-place.place + 1 ≡ 1 + c.loop-place.place = omega arith in
    let s : suc c.loop-place.place ≡ c.loop-place.place + 1 = omega arith in
    c.in_ok-push.ensures.items ∙ ap (λ ns. ns ++ (c.loop-place.place + 1) ∷ []) c.loop-place.invariant ∙ ap (λ v. range_with_len 1 c.loop-place.place ++ v ∷ []) e ∙ sym (range_more 1 c.loop-place.place) ∙ ap (range_with_len 1) s
