use Rattle.std.proofs.Common.{ℕ, Some, sym, ap, ◌∙◌, subst}
use Rattle.share_book.specs.History.{open_on, table_on}
use Rattle.share_book.specs.Legal.{IsLegal}
use Rattle.hub_tables.specs.TableTurns.{IsLog}
use Rattle.hub_tables.proofs.TablePasses.{is_log_later, publishes_commit, publishes_commit_idle, stands_on, takes_same}
use Rattle.hub_tables.proofs.caller.Caller.publish_commit.Goals as goal

pub publish_commit_in-published-requires-clause-there : goal.publish_commit_in-published-requires-clause-there
publish_commit_in-published-requires-clause-there g c = let a = c.take-turn.ensures in subst (IsLog c.args.log) (sym a.value.0) (is_log_later c.args.log _ _ a.seen c.requires.there)

pub publish_commit_in-published-requires-clause-begun : goal.publish_commit_in-published-requires-clause-begun
publish_commit_in-published-requires-clause-begun g c = let a = c.take-turn.ensures in
    let s = stands_on c.args.log c.args.pass.now c.take-turn.new.pass (record { same = a.same; seen = a.seen; kept = a.mine }) (subst IsLegal a.value.0 c.len.ensures.legal) c.requires.there c.requires.begun in
    ap (open_on c.args.log) a.value.0 ∙ (s.holder ∙ ap (λ (i : ℕ). Some i) (sym c.number-number.ensures))

pub publish_commit_in-published-requires-clause-takes : goal.publish_commit_in-published-requires-clause-takes
publish_commit_in-published-requires-clause-takes g c = let a = c.take-turn.ensures in
    let s = stands_on c.args.log c.args.pass.now c.take-turn.new.pass (record { same = a.same; seen = a.seen; kept = a.mine }) (subst IsLegal a.value.0 c.len.ensures.legal) c.requires.there c.requires.begun in
    (c.requires.takes.0, c.requires.takes.1, takes_same c.args.log c.args.pass.now.seen c.take-turn.result.value.past.history c.args.new.commit.value (ap (table_on c.args.log) a.value.0 ∙ s.table) c.requires.takes.2)

pub returns-clause-same : goal.returns-clause-same
returns-clause-same g c = let a = c.take-turn.ensures in let b = c.give.ensures in
    publishes_commit_idle c.publish_commit_in-published.result c.args.pass.now c.take-turn.new.pass c.give.new.pass _ c.args.log c.args.new.commit.value _ _ c.publish_commit_in-published.ensures.published a.value.0 (record { same = a.same; seen = a.seen; kept = a.mine }) (record { same = b.same; idle = b.idle; seen = b.seen; kept = b.mine })

pub returns-clause-found : goal.returns-clause-found
returns-clause-found g c = let a = c.take-turn.ensures in let b = c.give.ensures in
    publishes_commit c.publish_commit_in-published.result c.args.pass.now c.take-turn.new.pass c.give.new.pass _ c.args.log c.args.new.commit.value _ _ c.number-number.ensures c.publish_commit_in-published.ensures.published a.value.0 (record { same = a.same; seen = a.seen; kept = a.mine }) (record { same = b.same; idle = b.idle; seen = b.seen; kept = b.mine }) (subst IsLegal a.value.0 c.len.ensures.legal) c.requires.there c.requires.begun
