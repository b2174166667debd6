use Rattle.std.proofs.Common.{◌≡◌, ◌++◌, List, length, map, get_or, drop, sym, ap, ◌∙◌, rules}
use Rattle.std.proofs.lemmas.List.{length-map}
use Rattle.share_nodes.specs.Steps.{Named, Step, World, moved, node_at, node_in, placed, with_node}
use Rattle.std.specs.Arc.{arc_value}
use Rattle.log_actions.specs.declared.actions.Action.{Action}
use Rattle.share_nodes.specs.Code.{named_of, node_of, step_of, world_in}
use Rattle.share_nodes.specs.declared.seat.Seat.{Seat}
use Rattle.share_nodes.proofs.Runs.{on_ok, seat_is, stepped, taken}
use Rattle.share_nodes.proofs.run.take.Goals as goal

versions : (c : goal.After-seats-1) → c.len-versions.result ≡ length c.args.store.now.items
versions c = search rules

lent : (c : goal.After-seats-1) → c.deref_mut.result.now ≡ c.seat_of.new.seats.items
lent c = c.deref_mut.ensures.value

size : (c : goal.After-seats-1) → length c.act_at.new.seats ≡ c.seat_of.new.seats.len
size c = search rules

found : (c : goal.After-seats-1) → c.index.result.now ≡ get_or c.seat_of.new.seats.items c.in_ok-at.at c.index.result.now
found c = search rules

pub returns : goal.returns
returns c =
    let w : World (List Action) = world_in c.args.store.now.items c.args.seats.now.items in
    let now : World (List Action) = world_in c.push.new.store.items c.act_at.new.seats in
    let s : Step (List Action) = step_of c.args.step.now in
    let mid : List Named = map named_of c.seat_of.new.seats.items in
    let many : c.len-versions.result ≡ length w.store = versions c ∙ sym (length-map c.args.store.now.items arc_value) in
    let at = c.in_ok-at.ensures.at in
    let node : node_of c.index.result.now ≡ node_at w s.node =
    ap node_of (found c) ∙ seat_is s.node c.seat_of.new.seats.items c.in_ok-at.at c.index.result.now at.0 at.1 ∙ c.in_ok-at.ensures.node in
    let store : now.store ≡ w.store ++ placed (length w.store) (node_at w s.node) s.move =
    c.in_ok-push.ensures ∙ ap (λ (l : List (List Action)). w.store ++ l) (c.placed.ensures ∙ (λ i. placed (many i) (node i) s.move)) in
    on_ok c.act_at.result
    (λ e.
    ap (λ (l : List Seat). world_in c.push.new.store.items l) (taken c.seat_of.new.seats.len c.act_at.new.seats (drop (length c.act_at.new.seats) c.seat_of.new.seats.items) (size c))
    ∙ stepped w now s mid store c.in_ok-at.ensures.node c.in_ok-at.ensures.others
    (e ∙ (λ i. with_node s.node (moved (many i) (node_in s.node (map named_of (lent c i))) s.move) (map named_of (lent c i)))))
    c.act_at.ensures
