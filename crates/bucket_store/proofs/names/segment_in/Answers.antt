use Rattle.std.proofs.Common.{◌≡◌, subst}
use Rattle.std.specs.Prelude.{IfOk, option_and_then}
use Rattle.bucket_store.specs.Folders.{segment}
use Rattle.bucket_store.proofs.names.segment_in.Goals as goal

pub returns-in-Some : goal.returns-in-Some
returns-in-Some c = subst (λ o. IfOk c.segment_of.result (λ s. s ≡ option_and_then segment o)) c.in-Some.ensures c.segment_of.ensures
