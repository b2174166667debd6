use Rattle.bucket_store.proofs.Sending.{body_failed, head_failed}
use Rattle.bucket_store.proofs.exchange.send.Goals as goal

pub returns-in-Err : goal.returns-in-Err
returns-in-Err g c = head_failed _ _ _ _ _ _ _ c.in-Err.ensures.wrote.1 c.in-Err.ensures.wrote.2

pub returns-in-Err-write_all : goal.returns-in-Err-write_all
returns-in-Err-write_all g c = body_failed _ _ _ _ _ _ _ _ c.in-Ok.ensures.wrote c.in-Err-write_all.ensures.wrote.1 c.in-Err-write_all.ensures.wrote.2
