use Rattle.std.proofs.Common.{◌-◌, Ok, Err, refl, sym, ◌∙◌, arith}
use Rattle.std.proofs.lemmas.Result.{err_from_is_err_and}
use Rattle.http_wire.specs.declared.head.HeadRead.TheVariants as read
use Rattle.http_wire.proofs.Passing.{passed_none, passed_more, passed_ends, passed_switch}
use Rattle.http_wire.proofs.head.read_final_head.Goals as goal

pub heads-init : goal.heads-init
heads-init g c =
    record { later = omega arith; read = passed_none g.S.Source.left c.args.inbox.now c.args.source.now }

pub overflow_sub-room : goal.overflow_sub-room
overflow_sub-room g c =
    (passed_more g.S.Source.left c.heads.room (c.heads.room - c.in-Whole.len) _ _ _ _ _ _ c.in-Whole.head c.in-Whole.len c.heads.invariant.read (rw c.in-Whole.is at c.in_ok-head.ensures.read) (sym c.is_interim.ensures ∙ c.if-not-is_interim.false) refl).2

pub heads-preserved : goal.heads-preserved
heads-preserved g c =
    record { later = omega (arith, c.heads.invariant.later, c.in_ok-head.ensures.later); read = (passed_more g.S.Source.left c.heads.room (c.heads.room - c.in-Whole.len) _ _ _ _ _ _ c.in-Whole.head c.in-Whole.len c.heads.invariant.read (rw c.in-Whole.is at c.in_ok-head.ensures.read) (sym c.is_interim.ensures ∙ c.if-not-is_interim.false) refl).0 }

pub heads-smaller : goal.heads-smaller
heads-smaller g c =
    let m = passed_more g.S.Source.left c.heads.room (c.heads.room - c.in-Whole.len) _ _ _ _ _ _ c.in-Whole.head c.in-Whole.len c.heads.invariant.read (rw c.in-Whole.is at c.in_ok-head.ensures.read) (sym c.is_interim.ensures ∙ c.if-not-is_interim.false) refl in
    omega (arith, m.1, m.2)

pub returns-in_err-head-clause-read : goal.returns-in_err-head-clause-read
returns-in_err-head-clause-read g c =
    let p = err_from_is_err_and c.from_residual.result c.from_residual.ensures.1 in
    rw p.1 (passed_ends g.S.Source.left c.heads.room _ _ _ _ _ _ (Err p.0) c.heads.invariant.read c.in_err-head.ensures.read tt)

pub returns-then-head-eq101-clause-read : goal.returns-then-head-eq101-clause-read
returns-then-head-eq101-clause-read g c =
    passed_switch g.S.Source.left c.heads.room _ _ _ _ _ _ c.in-Whole.head c.in-Whole.len c.heads.invariant.read (rw c.in-Whole.is at c.in_ok-head.ensures.read) c.if-head-eq101.true

pub returns-then-not-is_interim-clause-read : goal.returns-then-not-is_interim-clause-read
returns-then-not-is_interim-clause-read g c =
    passed_ends g.S.Source.left c.heads.room _ _ _ _ _ _ (Ok (read.Whole c.in-Whole.head c.in-Whole.len)) c.heads.invariant.read (rw c.in-Whole.is at c.in_ok-head.ensures.read) (sym c.is_interim.ensures ∙ c.if-not-is_interim.true, c.if-head-eq101.false)

pub returns-in-Nothing-clause-read : goal.returns-in-Nothing-clause-read
returns-in-Nothing-clause-read g c =
    passed_ends g.S.Source.left c.heads.room _ _ _ _ _ _ (Ok read.Nothing) c.heads.invariant.read (rw c.in-Nothing.is at c.in_ok-head.ensures.read) tt

pub returns-in-Cut-clause-read : goal.returns-in-Cut-clause-read
returns-in-Cut-clause-read g c =
    passed_ends g.S.Source.left c.heads.room _ _ _ _ _ _ (Ok read.Cut) c.heads.invariant.read (rw c.in-Cut.is at c.in_ok-head.ensures.read) tt

pub returns-in-Refused-clause-read : goal.returns-in-Refused-clause-read
returns-in-Refused-clause-read g c =
    passed_ends g.S.Source.left c.heads.room _ _ _ _ _ _ (Ok (read.Refused c.in-Refused.flaw)) c.heads.invariant.read (rw c.in-Refused.is at c.in_ok-head.ensures.read) tt
