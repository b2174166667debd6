use Rattle.std.proofs.Common.{◌≡◌, ℕ, Some, true, List, ◌++◌, ◌∷◌, [], sym, ap, ◌∙◌, subst}
use Rattle.share_book.specs.declared.entry.Entry.{Entry}
use Rattle.share_book.specs.declared.entry.Act.TheVariants.{Own}
use Rattle.share_book.specs.History.{entry, open_on, table_on}
use Rattle.share_book.specs.Legal.{IsLegal}
use Rattle.commit_check.specs.Lawful.{is_lawful}
use Rattle.hub_tables.specs.TableTurns.{IsLog}
use Rattle.hub_tables.proofs.TablePasses.{is_log_later, stands_on, stops_on, takes_same, there_same}
use Rattle.hub_tables.proofs.caller.Caller.own_commit.Goals as goal

pub own_commit_in-requires-clause-there : goal.own_commit_in-requires-clause-there
own_commit_in-requires-clause-there g c = let a = c.take-turn.ensures in subst (IsLog c.args.log) (sym a.value.0) (is_log_later c.args.log _ _ a.seen c.requires.there)

pub own_commit_in-requires-clause-begun : goal.own_commit_in-requires-clause-begun
own_commit_in-requires-clause-begun g c = let a = c.take-turn.ensures in
    let s = stands_on c.args.log c.args.pass.now c.take-turn.new.pass (record { same = a.same; seen = a.seen; kept = a.mine }) (subst IsLegal a.value.0 c.len.ensures.legal) c.requires.there c.requires.begun in
    ap (open_on c.args.log) a.value.0 ∙ (s.holder ∙ ap (λ (i : ℕ). Some i) (sym c.number-number.ensures))

pub own_commit_in-requires-clause-takes : goal.own_commit_in-requires-clause-takes
own_commit_in-requires-clause-takes g c = let a = c.take-turn.ensures in
    let s = stands_on c.args.log c.args.pass.now c.take-turn.new.pass (record { same = a.same; seen = a.seen; kept = a.mine }) (subst IsLegal a.value.0 c.len.ensures.legal) c.requires.there c.requires.begun in
    (c.requires.takes.0, c.requires.takes.1, takes_same c.args.log c.args.pass.now.seen c.take-turn.result.value.past.history c.args.new.commit.value (ap (table_on c.args.log) a.value.0 ∙ s.table) c.requires.takes.2)

pub own_commit_in-requires-clause-lawful : goal.own_commit_in-requires-clause-lawful
own_commit_in-requires-clause-lawful g c = let a = c.take-turn.ensures in
    let s = stands_on c.args.log c.args.pass.now c.take-turn.new.pass (record { same = a.same; seen = a.seen; kept = a.mine }) (subst IsLegal a.value.0 c.len.ensures.legal) c.requires.there c.requires.begun in
    there_same (λ t. is_lawful t.commits c.args.new.commit.value ≡ true) _ _ (ap (table_on c.args.log) a.value.0 ∙ s.table) c.requires.lawful

pub returns-clause-ended : goal.returns-clause-ended
returns-clause-ended g c = let a = c.take-turn.ensures in let b = c.give.ensures in
    stops_on c.args.log c.args.pass.now c.take-turn.new.pass _ _ (Own c.args.new.commit.value ∷ []) (record { same = a.same; seen = a.seen; kept = a.mine }) (record { same = b.same; idle = b.idle; seen = b.seen; kept = b.mine }) (subst IsLegal a.value.0 c.len.ensures.legal) c.requires.there c.requires.begun _ c.number-number.ensures
    (c.own_commit_in.ensures.added ∙ ap (λ (l : List Entry). l ++ entry c.number-number.result c.args.log (Own c.args.new.commit.value) ∷ []) a.value.0)
