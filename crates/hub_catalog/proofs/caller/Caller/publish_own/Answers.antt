use Rattle.std.proofs.Common.{ℕ, Some, List, ◌++◌, sym, ap, ◌∙◌, subst}
use Rattle.share_catalog.specs.declared.edit.Edit.{Edit}
use Rattle.share_catalog.specs.Catalogue.{refusal_of}
use Rattle.share_book.specs.declared.entry.Entry.{Entry}
use Rattle.share_book.specs.declared.entry.Act.TheVariants.{OwnEdit}
use Rattle.share_book.specs.History.{edits, open_on, starts}
use Rattle.share_book.specs.Legal.{IsLegal}
use Rattle.hub_catalog.specs.CatalogTurns.{loading}
use Rattle.hub_calls.proofs.Passes.{stands}
use Rattle.hub_catalog.proofs.CatalogPasses.{fits_same, owns, owns_idle, stops}
use Rattle.hub_catalog.proofs.caller.Caller.publish_own.Goals as goal

pub own_in-requires-clause-begun : goal.own_in-requires-clause-begun
own_in-requires-clause-begun g c = let a = c.take-turn.ensures in
    let s = stands c.args.pass.now c.take-turn.new.pass (record { same = a.same; seen = a.seen; kept = a.mine }) (subst IsLegal a.value.0 c.len.ensures.legal) c.requires.begun in
    ap (open_on 0) a.value.0 ∙ (s.holder ∙ ap (λ (i : ℕ). Some i) (sym c.number-number.ensures))

pub own_in-requires-clause-takes : goal.own_in-requires-clause-takes
own_in-requires-clause-takes g c = let a = c.take-turn.ensures in
    let s = stands c.args.pass.now c.take-turn.new.pass (record { same = a.same; seen = a.seen; kept = a.mine }) (subst IsLegal a.value.0 c.len.ensures.legal) c.requires.begun in (
      c.requires.takes.0,
      ap (λ (l : List Edit). refusal_of l c.args.new.edit) (ap edits a.value.0 ∙ s.edits) ∙ c.requires.takes.1,
      fits_same c.args.pass.now.seen c.take-turn.result.value.past.history c.args.new.edit c.args.new.load (ap starts a.value.0 ∙ s.starts) c.requires.takes.2,
    )

pub returns-clause-ended : goal.returns-clause-ended
returns-clause-ended g c = let a = c.take-turn.ensures in let b = c.give.ensures in
    stops c.args.pass.now c.take-turn.new.pass _ _ c.args.new.load (OwnEdit c.args.new.edit) (record { same = a.same; seen = a.seen; kept = a.mine }) (record { same = b.same; idle = b.idle; seen = b.seen; kept = b.mine }) (subst IsLegal a.value.0 c.len.ensures.legal) c.requires.begun _ c.number-number.ensures
    (c.own_in.ensures.added ∙ ap (λ (l : List Entry). l ++ loading c.number-number.result c.args.new.load (OwnEdit c.args.new.edit)) a.value.0)

pub give-requires-clause-grown : goal.give-requires-clause-grown
give-requires-clause-grown g c = let a = c.take-turn.ensures in
    owns c.args.pass.now c.take-turn.new.pass _ (OwnEdit c.args.new.edit) c.args.new.load _ _ c.own_in.ensures.added a.value.0 a.same.1 c.number-number.ensures

pub returns-clause-same : goal.returns-clause-same
returns-clause-same g c = let a = c.take-turn.ensures in let b = c.give.ensures in
    owns_idle c.args.pass.now c.take-turn.new.pass c.give.new.pass _ (OwnEdit c.args.new.edit) c.args.new.load _ _ c.own_in.ensures.added a.value.0 (record { same = a.same; seen = a.seen; kept = a.mine }) (record { same = b.same; idle = b.idle; seen = b.seen; kept = b.mine })
