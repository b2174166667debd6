use Rattle.std.proofs.Common.{◌≡◌, ℕ, Some, None, sym, ap, ◌∙◌, subst}
use Rattle.share_book.specs.History.{open_on, table_on}
use Rattle.share_book.specs.Legal.{IsLegal}
use Rattle.hub_tables.specs.TableTurns.{IsLog}
use Rattle.hub_tables.proofs.TablePasses.{blocks_log, blocks_log_idle, is_log_later, stands_on, there_same}
use Rattle.hub_tables.proofs.caller.Caller.block_log.Goals as goal

pub block_log_in-requires-clause-there : goal.block_log_in-requires-clause-there
block_log_in-requires-clause-there g c = let a = c.take-turn.ensures in subst (IsLog c.args.log) (sym a.value.0) (is_log_later c.args.log _ _ a.seen c.requires.there)

pub block_log_in-requires-clause-begun : goal.block_log_in-requires-clause-begun
block_log_in-requires-clause-begun g c = let a = c.take-turn.ensures in
    let s = stands_on c.args.log c.args.pass.now c.take-turn.new.pass (record { same = a.same; seen = a.seen; kept = a.mine }) (subst IsLegal a.value.0 c.len.ensures.legal) c.requires.there c.requires.begun in
    ap (open_on c.args.log) a.value.0 ∙ (s.holder ∙ ap (λ (i : ℕ). Some i) (sym c.number-number.ensures))

pub block_log_in-requires-clause-free : goal.block_log_in-requires-clause-free
block_log_in-requires-clause-free g c = let a = c.take-turn.ensures in
    let s = stands_on c.args.log c.args.pass.now c.take-turn.new.pass (record { same = a.same; seen = a.seen; kept = a.mine }) (subst IsLegal a.value.0 c.len.ensures.legal) c.requires.there c.requires.begun in
    there_same (λ t. t.block ≡ None) _ _ (ap (table_on c.args.log) a.value.0 ∙ s.table) c.requires.free

pub returns-clause-same : goal.returns-clause-same
returns-clause-same g c = let a = c.take-turn.ensures in let b = c.give.ensures in
    blocks_log_idle c.args.log c.args.pass.now c.take-turn.new.pass c.give.new.pass _ _ (record { same = a.same; seen = a.seen; kept = a.mine }) (record { same = b.same; idle = b.idle; seen = b.seen; kept = b.mine }) _ a.value.0 c.block_log_in.ensures.blocked

pub returns-clause-blocked : goal.returns-clause-blocked
returns-clause-blocked g c = let a = c.take-turn.ensures in let b = c.give.ensures in
    blocks_log c.args.log c.args.pass.now c.take-turn.new.pass c.give.new.pass _ _ (record { same = a.same; seen = a.seen; kept = a.mine }) (record { same = b.same; idle = b.idle; seen = b.seen; kept = b.mine }) (subst IsLegal a.value.0 c.len.ensures.legal) c.requires.there c.requires.begun _ c.number-number.ensures a.value.0 c.block_log_in.ensures.blocked
