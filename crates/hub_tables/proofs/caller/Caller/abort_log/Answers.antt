use Rattle.std.proofs.Common.{ℕ, Some, List, ◌++◌, ◌∷◌, [], sym, ap, ◌∙◌, subst}
use Rattle.share_book.specs.declared.entry.Entry.{Entry}
use Rattle.share_book.specs.declared.entry.Act.TheVariants.{Abort}
use Rattle.share_book.specs.History.{entry, open_on}
use Rattle.share_book.specs.Legal.{IsLegal}
use Rattle.hub_tables.specs.TableTurns.{IsLog}
use Rattle.hub_tables.proofs.TablePasses.{is_log_later, stands_on, stops_on}
use Rattle.hub_tables.proofs.caller.Caller.abort_log.Goals as goal

pub abort_log_in-requires-clause-there : goal.abort_log_in-requires-clause-there
abort_log_in-requires-clause-there g c = let a = c.take-turn.ensures in subst (IsLog c.args.log) (sym a.value.0) (is_log_later c.args.log _ _ a.seen c.requires.there)

pub abort_log_in-requires-clause-begun : goal.abort_log_in-requires-clause-begun
abort_log_in-requires-clause-begun g c = let a = c.take-turn.ensures in
    let s = stands_on c.args.log c.args.pass.now c.take-turn.new.pass (record { same = a.same; seen = a.seen; kept = a.mine }) (subst IsLegal a.value.0 c.len.ensures.legal) c.requires.there c.requires.begun in
    ap (open_on c.args.log) a.value.0 ∙ (s.holder ∙ ap (λ (i : ℕ). Some i) (sym c.number-number.ensures))

pub returns-clause-ended : goal.returns-clause-ended
returns-clause-ended g c = let a = c.take-turn.ensures in let b = c.give.ensures in
    stops_on c.args.log c.args.pass.now c.take-turn.new.pass _ _ (Abort ∷ []) (record { same = a.same; seen = a.seen; kept = a.mine }) (record { same = b.same; idle = b.idle; seen = b.seen; kept = b.mine }) (subst IsLegal a.value.0 c.len.ensures.legal) c.requires.there c.requires.begun _ c.number-number.ensures
    (c.abort_log_in.ensures.added ∙ ap (λ (l : List Entry). l ++ entry c.number-number.result c.args.log Abort ∷ []) a.value.0)
