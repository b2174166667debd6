use Rattle.std.proofs.Common.{◌≡◌, sym, subst, rules, Ok, Equal, ◌∙◌}
use Rattle.std.specs.List.Sorted.{IsBinarySearchResult}
use Rattle.std.specs.Ordering.{nat_cmp}
use Rattle.std.specs.Cmp.Lexicographic.{slice_cmp}
use Rattle.std.proofs.lemmas.Fn.{always_returns_same}
use Rattle.pred_tree.proofs.Halving.{found, missing}
use Rattle.pred_tree.proofs.look.text_among.Goals as goal

pub returns-in-Ok : goal.returns-in-Ok
returns-in-Ok c =
    let ps = c.args.pairs.now in
    let name = c.args.name.now in
    let p = c.index-pairs-place.result in
    let ends = c.binary_search_by.ensures.position (λ p. slice_cmp nat_cmp p.name name) (always_returns_same _ _ _ (λ a r f called. (search rules, search rules))) in
    let ties : IsBinarySearchResult (λ p. slice_cmp nat_cmp p.name name) ps (Ok c.in-Ok.place) = subst (IsBinarySearchResult (λ p. slice_cmp nat_cmp p.name name) ps) c.in-Ok.is ends in
    let same : slice_cmp nat_cmp p.name name ≡ Equal = subst (λ x. slice_cmp nat_cmp x.name name ≡ Equal) (sym c.index-pairs-place.is) (ties p) in
    c.text_of.ensures ∙ sym (found name ps c.in-Ok.place p c.requires c.in-Ok.ensures.bound c.index-pairs-place.is same)

pub returns-in-Err : goal.returns-in-Err
returns-in-Err c =
    let ps = c.args.pairs.now in
    let name = c.args.name.now in
    let ends = c.binary_search_by.ensures.position (λ p. slice_cmp nat_cmp p.name name) (always_returns_same _ _ _ (λ a r f called. (search rules, search rules))) in
    sym (missing name ps c.in-Err.field-0 c.requires (subst (IsBinarySearchResult (λ p. slice_cmp nat_cmp p.name name) ps) c.in-Err.is ends))
