use Rattle.std.proofs.Common.{arith, replicate, drop, length, ◌≡◌, ◌++◌, nat_lt, false}
use Rattle.std.proofs.lemmas.List.{drop-replicate}
use Rattle.hmac_core.proofs.key.key_block.Goals as goal

pub returns-else-key-gt-BLOCK : goal.returns-else-key-gt-BLOCK
returns-else-key-gt-BLOCK c =
    let e : c.fill_front-else-key-gt-BLOCK.new.block ≡ c.args.key.now ++ drop (length c.args.key.now) (replicate 64 0) = c.fill_front-else-key-gt-BLOCK.ensures in
    let n = c.if-key-gt-BLOCK.false in
    let t : nat_lt 64 (length c.args.key.now) ≡ false = grind arith in
    rw (t, e, drop-replicate)
