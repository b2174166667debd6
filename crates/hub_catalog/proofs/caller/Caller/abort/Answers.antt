use Rattle.std.proofs.Common.{ℕ, Some, None, List, ◌++◌, ◌∷◌, [], sym, ap, ◌∙◌, subst}
use Rattle.share_book.specs.declared.entry.Entry.{Entry}
use Rattle.share_book.specs.declared.entry.Act.TheVariants.{Abort}
use Rattle.share_book.specs.History.{entry, open_on}
use Rattle.share_book.specs.Legal.{IsLegal}
use Rattle.hub_calls.proofs.Passes.{stands}
use Rattle.hub_catalog.proofs.CatalogPasses.{stops}
use Rattle.hub_catalog.proofs.caller.Caller.abort.Goals as goal

pub abort_in-requires-clause-begun : goal.abort_in-requires-clause-begun
abort_in-requires-clause-begun g c = let a = c.take-turn.ensures in
    let s = stands c.args.pass.now c.take-turn.new.pass (record { same = a.same; seen = a.seen; kept = a.mine }) (subst IsLegal a.value.0 c.len.ensures.legal) c.requires.begun in
    ap (open_on 0) a.value.0 ∙ (s.holder ∙ ap (λ (i : ℕ). Some i) (sym c.number-number.ensures))

pub returns-clause-ended : goal.returns-clause-ended
returns-clause-ended g c = let a = c.take-turn.ensures in let b = c.give.ensures in
    stops c.args.pass.now c.take-turn.new.pass _ _ None Abort (record { same = a.same; seen = a.seen; kept = a.mine }) (record { same = b.same; idle = b.idle; seen = b.seen; kept = b.mine }) (subst IsLegal a.value.0 c.len.ensures.legal) c.requires.begun _ c.number-number.ensures
    (c.abort_in.ensures.added ∙ ap (λ (l : List Entry). l ++ entry c.number-number.result 0 Abort ∷ []) a.value.0)
