use Rattle.std.proofs.Common.{option_map, sym}
use Rattle.std.proofs.lemmas.Result.{err_from_is_err_and}
use Rattle.commit_check.proofs.Order.{told_commit, told_early, told_late, told_made, told_won}
use Rattle.commit_check.proofs.admission.admit.Goals as goal

pub returns-in-Some : goal.returns-in-Some
returns-in-Some c = λ log counted winners is_at is_head.
    let head = option_map (λ s. s.now) c.args.head in
    let at = option_map (λ s. s.now) c.args.at in
    told_early log c.args.now c.args.offer.now head at c.args.versions c.refused_early.result c.in-Some.conflict c.into.result
    (record { is_head = is_head; is_at = is_at; counted = sym counted })
    c.refused_early.ensures c.in-Some.is c.into.ensures

pub returns-in_err-commit : goal.returns-in_err-commit
returns-in_err-commit c = λ log counted winners is_at is_head.
    let head = option_map (λ s. s.now) c.args.head in
    let at = option_map (λ s. s.now) c.args.at in
    let p = err_from_is_err_and c.from_residual.result c.from_residual.ensures.1 in
    rw (p.1, p.2) (told_made log c.args.now c.args.offer.now head at c.args.versions c.refused_early.result c.in_err-commit.field-0.0
    (record { is_head = is_head; is_at = is_at; counted = sym counted })
    c.refused_early.ensures c.in_default.is (c.in_err-commit.ensures log counted is_head))

pub returns-in-Some-refused_late : goal.returns-in-Some-refused_late
returns-in-Some-refused_late c = λ log counted winners is_at is_head.
    let head = option_map (λ s. s.now) c.args.head in
    let at = option_map (λ s. s.now) c.args.at in
    told_late log c.args.now c.args.offer.now head at c.args.versions c.refused_early.result c.refused_late.result c.in_ok-commit.commit c.in-Some-refused_late.conflict c.into-in-Some-refused_late.result
    (record { is_head = is_head; is_at = is_at; counted = sym counted })
    c.refused_early.ensures c.in_default.is (c.in_ok-commit.ensures log counted is_head)
    c.refused_late.ensures c.in-Some-refused_late.is c.into-in-Some-refused_late.ensures

pub returns-in-Some-2 : goal.returns-in-Some-2
returns-in-Some-2 c = λ log counted winners is_at is_head.
    let head = option_map (λ s. s.now) c.args.head in
    let at = option_map (λ s. s.now) c.args.at in
    told_won log c.args.now c.args.offer.now head at c.args.versions c.refused_early.result c.refused_late.result c.in_ok-conflict.field-0 c.in_ok-commit.commit c.in-Some-2.conflict c.into-in-Some-2.result
    (record { is_head = is_head; is_at = is_at; counted = sym counted })
    c.refused_early.ensures c.in_default.is (c.in_ok-commit.ensures log counted is_head)
    c.refused_late.ensures c.in_default-refused_late.is (c.in_ok-conflict.ensures log winners is_at) c.in-Some-2.is c.into-in-Some-2.ensures

pub returns-in-None : goal.returns-in-None
returns-in-None c = λ log counted winners is_at is_head.
    let head = option_map (λ s. s.now) c.args.head in
    let at = option_map (λ s. s.now) c.args.at in
    told_commit log c.args.now c.args.offer.now head at c.args.versions c.refused_early.result c.refused_late.result c.in_ok-conflict.field-0 c.in_ok-commit.commit
    (record { is_head = is_head; is_at = is_at; counted = sym counted })
    c.refused_early.ensures c.in_default.is (c.in_ok-commit.ensures log counted is_head)
    c.refused_late.ensures c.in_default-refused_late.is (c.in_ok-conflict.ensures log winners is_at) c.in-None.is
