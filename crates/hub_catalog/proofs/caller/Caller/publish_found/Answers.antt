use Rattle.std.proofs.Common.{ℕ, Some, List, sym, ap, ◌∙◌, subst}
use Rattle.share_catalog.specs.declared.edit.Edit.{Edit}
use Rattle.share_catalog.specs.Catalogue.{refusal_of}
use Rattle.share_book.specs.History.{edits, open_on, starts}
use Rattle.share_book.specs.Legal.{IsLegal}
use Rattle.hub_calls.proofs.Passes.{stands}
use Rattle.hub_catalog.proofs.CatalogPasses.{fits_same, publishes, publishes_idle, publishes_own}
use Rattle.hub_catalog.proofs.caller.Caller.publish_found.Goals as goal

pub publish_in-published-requires-clause-begun : goal.publish_in-published-requires-clause-begun
publish_in-published-requires-clause-begun g c = let a = c.take-turn.ensures in
    let s = stands c.args.pass.now c.take-turn.new.pass (record { same = a.same; seen = a.seen; kept = a.mine }) (subst IsLegal a.value.0 c.len.ensures.legal) c.requires.begun in
    ap (open_on 0) a.value.0 ∙ (s.holder ∙ ap (λ (i : ℕ). Some i) (sym c.number-number.ensures))

pub publish_in-published-requires-clause-takes : goal.publish_in-published-requires-clause-takes
publish_in-published-requires-clause-takes g c = let a = c.take-turn.ensures in
    let s = stands c.args.pass.now c.take-turn.new.pass (record { same = a.same; seen = a.seen; kept = a.mine }) (subst IsLegal a.value.0 c.len.ensures.legal) c.requires.begun in (
      c.requires.takes.0,
      ap (λ (l : List Edit). refusal_of l c.args.new.edit) (ap edits a.value.0 ∙ s.edits) ∙ c.requires.takes.1,
      fits_same c.args.pass.now.seen c.take-turn.result.value.past.history c.args.new.edit c.args.new.load (ap starts a.value.0 ∙ s.starts) c.requires.takes.2,
    )

pub returns-clause-same : goal.returns-clause-same
returns-clause-same g c = let a = c.take-turn.ensures in let b = c.give.ensures in
    publishes_idle c.publish_in-published.result c.args.pass.now c.take-turn.new.pass c.give.new.pass _ c.args.new.edit c.args.new.load _ _ c.publish_in-published.ensures.published a.value.0 (record { same = a.same; seen = a.seen; kept = a.mine }) (record { same = b.same; idle = b.idle; seen = b.seen; kept = b.mine })

pub returns-clause-found : goal.returns-clause-found
returns-clause-found g c = let a = c.take-turn.ensures in let b = c.give.ensures in
    publishes c.publish_in-published.result c.args.pass.now c.take-turn.new.pass c.give.new.pass _ c.args.new.edit c.args.new.load _ _ c.number-number.ensures c.publish_in-published.ensures.published a.value.0 (record { same = a.same; seen = a.seen; kept = a.mine }) (record { same = b.same; idle = b.idle; seen = b.seen; kept = b.mine }) (subst IsLegal a.value.0 c.len.ensures.legal) c.requires.begun

pub give-requires-clause-grown : goal.give-requires-clause-grown
give-requires-clause-grown g c = let a = c.take-turn.ensures in
    publishes_own c.publish_in-published.result c.args.pass.now c.take-turn.new.pass _ c.args.new.edit c.args.new.load _ _ c.publish_in-published.ensures.published a.value.0 a.same.1 c.number-number.ensures
