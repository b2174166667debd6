use Rattle.std.proofs.Common.{arith}
use Rattle.bucket_store.proofs.Checking.{checked}
use Rattle.bucket_store.proofs.Knowing.{known_as, known_then, known_thrice}
use Rattle.bucket_store.proofs.check.check_bucket.Goals as goal

pub returns-in-Err-clause-told : goal.returns-in-Err-clause-told
returns-in-Err-clause-told g c = known_as c.in-Err.ensures (λ s t _. tt)

pub returns-in-Err-is_there-clause-rises : goal.returns-in-Err-is_there-clause-rises
returns-in-Err-is_there-clause-rises g c = c.put_once-first.ensures.rises

pub returns-in-Err-is_there-clause-told : goal.returns-in-Err-is_there-clause-told
returns-in-Err-is_there-clause-told g c = known_then c.in-Ok.ensures c.put_once-first.ensures.told (λ s t u _ _. tt)

pub returns-clause-rises : goal.returns-clause-rises
returns-clause-rises g c = omega (arith, c.put_once-first.ensures.rises, c.put_once-second.ensures.rises)

pub returns-clause-told : goal.returns-clause-told
returns-clause-told g c =
    known_thrice c.in-Ok.ensures c.put_once-first.ensures.told c.put_once-second.ensures.told
    (λ s t u v. checked c.args.place.now c.args.mark.now c.args.number.now c.put_once-first.new.number c.put_once-second.new.number c.put_once-first.result.put c.put_once-second.result.put
    c.is_kept.result s t u v c.put_once-first.ensures.number c.put_once-second.ensures.number c.in-Ok-is_there.ensures c.is_kept.ensures)
