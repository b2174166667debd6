use Rattle.commit_check.proofs.Trial.{told_broken, told_unfit, told_whole}
use Rattle.commit_check.proofs.made.made.Goals as goal

pub returns-in-Err-Fault : goal.returns-in-Err-Fault
returns-in-Err-Fault c = λ log len is.
    told_broken log c.args.now c.args.offer.now c.items-actions.result.now c.in_ok-all.all c.in_ok-unfit.unfit c.in-Err-Fault.fault c.lesser.result c.place_of.result c.into.result
    (record { offered = c.items-actions.ensures; whole = c.in_ok-all.ensures; first = c.in_ok-unfit.ensures; made = rw c.in-Err-Fault.field-0-is at c.in-Err-Fault.ensures.value })
    c.place_of.ensures c.lesser.ensures c.into.ensures

pub returns-in-Some : goal.returns-in-Some
returns-in-Some c = λ log len is.
    told_unfit log c.args.now c.args.offer.now c.items-actions.result.now c.in_ok-all.all c.in-Ok.commit c.in_ok-unfit.unfit c.in-Some.n c.into-in-Some.result
    (record { offered = c.items-actions.ensures; whole = c.in_ok-all.ensures; first = c.in_ok-unfit.ensures; made = c.in-Ok.ensures.value })
    c.in-Some.is c.into-in-Some.ensures

pub returns-in-None : goal.returns-in-None
returns-in-None c = λ log len is.
    told_whole log c.args.now c.args.offer.now c.items-actions.result.now c.in_ok-all.all c.in-Ok.commit c.in_ok-unfit.unfit c.whole.result
    (record { offered = c.items-actions.ensures; whole = c.in_ok-all.ensures; first = c.in_ok-unfit.ensures; made = c.in-Ok.ensures.value })
    c.in-None.is (c.whole.ensures log len is)
