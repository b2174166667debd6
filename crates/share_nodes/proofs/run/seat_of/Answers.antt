use Rattle.std.proofs.Common.{◌≡◌, length, map, sym, ◌∙◌, rules, arith}
use Rattle.share_nodes.specs.Code.{named_of, place_in}
use Rattle.share_nodes.proofs.Runs.{Pushed, found_within, pushed}
use Rattle.share_nodes.proofs.run.seat_of.Goals as goal

at_end : (c : goal.In_ok-push) → c.find-at.result ≡ length c.args.seats.now.items
at_end c = search rules

placed_at : (c : goal.In_ok-push) → c.find-at.result ≡ place_in c.args.number (map named_of c.args.seats.now.items)
placed_at c = search rules

new_seat : (c : goal.In_ok-push) → Pushed c.args.number c.args.seats.now.items c.push.new.self.items
new_seat c =
    pushed c.args.number c.args.seats.now.items c.push.new.self.items c.new.result c.in_ok-push.ensures.items c.new.ensures.node c.new.ensures.number (sym (placed_at c) ∙ at_end c)

pub returns-in_ok-push-clause-at : goal.returns-in_ok-push-clause-at
returns-in_ok-push-clause-at c = (omega (arith, at_end c, (new_seat c).within), at_end c ∙ sym (new_seat c).place)

pub returns-in_ok-push-clause-node : goal.returns-in_ok-push-clause-node
returns-in_ok-push-clause-node c = (new_seat c).node

pub returns-in_ok-push-clause-others : goal.returns-in_ok-push-clause-others
returns-in_ok-push-clause-others c = (new_seat c).others

at_found : (c : goal.Else-at-len) → c.find-at.result ≡ place_in c.args.number (map named_of c.args.seats.now.items)
at_found c = search rules

len_is : (c : goal.Else-at-len) → c.len.result ≡ length c.args.seats.now.items
len_is c = search rules

pub returns-else-at-len-clause-at : goal.returns-else-at-len-clause-at
returns-else-at-len-clause-at c = (found_within c.args.number c.args.seats.now.items c.find-at.result (at_found c) (λ e. c.if-at-len.false (e ∙ sym (len_is c))), at_found c)
