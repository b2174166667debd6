use Rattle.std.proofs.Common.{◌∙◌, ap, string_bytes}
use Rattle.bucket_store.specs.Folders.{segment}
use Rattle.bucket_store.proofs.Naming.{segment_is}
use Rattle.bucket_store.proofs.names.segment_of.Goals as goal

pub returns : goal.returns
returns c = segment_is c.of.result (string_bytes c.in_ok-owned.owned) c.of.ensures ∙ ap (λ t. segment t) c.in_ok-owned.ensures.ok
