use Rattle.std.proofs.Common.{◌≡◌, string_bytes, sym, ◌∙◌, ap, map, [], ◌∷◌, ◌++◌, Some, append-nil}
use Rattle.std.proofs.lemmas.List.{map-append}
use Rattle.json_tree.specs.Lists.{pair_of}
use Rattle.json_tree.specs.Fields.{pair_in, pairs_of}
use Rattle.serde_json.specs.View.{view, members_view}
use Rattle.json_tree.proofs.Rest.{onto, onto-more, found}
use Rattle.json_tree.proofs.Order.{IsPairs-members}
use Rattle.json_tree.proofs.fields.pairs_in.Goals as goal

pub loop-name-preserved : goal.loop-name-preserved
loop-name-preserved c =
    let l = c.loop-name in
    let name = string_bytes c.in-Some.name.now in
    let value = view c.in-Some.value.now in
    let rest = pairs_of (members_view c.next.new.self) in
    let read : pair_in name value ≡ Some (pair_of c.in_ok-pair_in.field-0) = found _ _ (rw c.deref.ensures at c.in_ok-pair_in.ensures) in
    let items : map pair_of c.push.new.self.items ≡ map pair_of l.items.items ++ pair_of c.in_ok-pair_in.field-0 ∷ [] = ap (map pair_of) c.in_ok-push.ensures.items ∙ map-append pair_of l.items.items _ in
    ap (λ front. onto front rest) items
    ∙ sym (onto-more (map pair_of l.items.items) (pair_of c.in_ok-pair_in.field-0) (pair_in name value) rest read)
    ∙ ap (λ es. onto (map pair_of l.items.items) (pairs_of (members_view es))) (sym c.in-Some.ensures.steps)
    ∙ l.invariant

pub in_order-requires : goal.in_order-requires
in_order-requires c =
    let l = c.loop-name in
    let all : pairs_of (members_view c.args.members.now.entries) ≡ Some (map pair_of l.items.items) =
    sym l.invariant ∙ ap (λ es. onto (map pair_of l.items.items) (pairs_of (members_view es))) c.in-None.ensures.steps.0 ∙ ap Some (append-nil (map pair_of l.items.items)) in
    IsPairs-members c.args.members.now.entries (map pair_of l.items.items) c.iter-name-items.ensures.ordered all
