use Rattle.std.proofs.Common.{◌≡◌, ◌++◌, take}
use Rattle.bucket_store.specs.Folders.{segments_of}
use Rattle.bucket_store.proofs.names.push_segments.Given as goal

-- the names so far
abbrev pub invariant-loop-key : goal.invariant-loop-key
invariant-loop-key l = l.segments.items ≡ l.fn.segments.items ++ segments_of l.fn.front (take l.key-index l.keys)
