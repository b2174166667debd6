use Rattle.std.proofs.Common.{◌≡◌, ◌≤◌, ◌*◌, take, length}
use Rattle.log_replay.specs.Listing.{listed, starts_of}
use Rattle.log_replay.proofs.places.starts.Given as goal

abbrev pub invariant-loop-part : goal.invariant-loop-part
invariant-loop-part l = record {
  starts : l.starts.items ≡ starts_of 0 (take l.part-index l.parts);
  len : l.len ≡ length (listed (take l.part-index l.parts));
  most : l.len ≤ 256 * l.part-index;
}
