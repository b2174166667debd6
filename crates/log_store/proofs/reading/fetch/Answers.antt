use Rattle.std.proofs.Common.{arith, ◌≡◌, length, ◌++◌, ◌∙◌, take}
use Rattle.log_store.proofs.Growing.{looks_more}
use Rattle.log_store.proofs.Fetching.{got_more}
use Rattle.log_store.proofs.reading.fetch.Goals as goal

pub loop-store-preserved : goal.loop-store-preserved
loop-store-preserved g c =
    let l = c.loop-store.invariant in
    let from : c.len-in-loop-store.result ≡ length c.loop-store.bytes.items = omega arith in
    let is : c.extend_from_slice.new.self.items ≡ c.loop-store.bytes.items ++ take c.in-Bytes.n c.get.new.out = c.in_ok-extend_from_slice-in-Bytes.ensures.items in
    record {
      looked = looks_more _ _ _ _ _ _ l.looked (c.in-Bytes.ensures.bytes).0 c.in-Bytes.ensures.stays;
      front = got_more _ _ _ _ _ c.get.new.out _ _ c.in-Bytes.n from is l.front c.in-Bytes.ensures.bytes;
      later = omega arith;
      stored = c.in-Bytes.ensures.stored ∙ l.stored;
    }
