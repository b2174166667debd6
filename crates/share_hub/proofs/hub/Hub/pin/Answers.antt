use Rattle.std.proofs.Common.{◌≡◌, List, rules, sym, ap, ◌∙◌, subst}
use Rattle.std.specs.Result.{IfOk}
use Rattle.share_book.specs.Bases.{MakesFound}
use Rattle.share_book.specs.BookView.{BookView}
use Rattle.share_book.specs.Looks.{commits_of, glance_of, who_of}
use Rattle.share_book.specs.Views.{held_view}
use Rattle.share_book.specs.declared.entry.Entry.{Entry}
use Rattle.share_hub.proofs.hub.Hub.pin.Goals.{in-Ok, in_default}
use Rattle.share_hub.proofs.hub.Hub.pin.Goals as goal

pub returns-clause-seen : goal.returns-clause-seen
returns-clause-seen g c =
    let book : c.match-pinned.turn.value ≡ c.take-turn.result.value = elim c.match-pinned.branch [ in-Ok w ↦ search rules | in_default w ↦ search rules ] in
    let seen = c.give.ensures.seen ∙ ap (λ (b : BookView). b.past.history) book in
    subst (λ (h : List Entry). IfOk c.pin-pinned.result (λ p. p.look.seen ≡ glance_of (held_view h (who_of c.args.ask.now.who)) c.args.ask.now.want)) (sym seen) c.pin-pinned.ensures.seen

pub returns-clause-makes : goal.returns-clause-makes
returns-clause-makes g c =
    let book : c.match-pinned.turn.value ≡ c.take-turn.result.value = elim c.match-pinned.branch [ in-Ok w ↦ search rules | in_default w ↦ search rules ] in
    let seen = c.give.ensures.seen ∙ ap (λ (b : BookView). b.past.history) book in
    subst (λ (h : List Entry). IfOk c.pin-pinned.result (λ p. MakesFound (commits_of (held_view h (who_of c.args.ask.now.who)) c.args.ask.now.want) p.replay)) (sym seen) c.pin-pinned.ensures.makes
