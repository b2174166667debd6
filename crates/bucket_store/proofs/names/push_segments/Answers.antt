use Rattle.std.proofs.Common.{◌∙◌, ap, arith}
use Rattle.std.specs.Prelude.{option_and_then}
use Rattle.edge_core.specs.Objects.{after_prefix}
use Rattle.bucket_store.specs.Folders.{segment}
use Rattle.bucket_store.proofs.Naming.{names_more}
use Rattle.bucket_store.proofs.names.push_segments.Goals as goal

pub loop-key-preserved : goal.loop-key-preserved
loop-key-preserved c =
    let front = c.args.front.now in
    let found = c.in_ok-segment.ensures ∙ ap (λ k. option_and_then segment (after_prefix front k)) c.as_str.ensures in
    names_more front c.args.segments.now.items _ _ c.args.keys.now c.loop-key.key-index c.key-item.result _ (omega arith) c.key-item.is c.loop-key.invariant found c.in_ok-push_some.ensures
