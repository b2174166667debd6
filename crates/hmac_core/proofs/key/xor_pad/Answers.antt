use Rattle.std.proofs.Common.{ℕ, ◌≡◌, ◌<◌, ◌≤◌, ◌+◌, List, take, map, length, set, get_or, bit_xor, arith, refl, ◌∙◌, sym, ap, length-set}
use Rattle.std.proofs.lemmas.List.{take_more_set, take_more, map-append, take_all}
use Rattle.hmac_core.proofs.key.xor_pad.Goals as goal

-- one more byte
step : (f : ℕ → ℕ) (out block : List ℕ) (i : ℕ) → i < length out → i < length block
    → take i out ≡ map f (take i block)
    → take (i + 1) (set out i (f (get_or block i 0))) ≡ map f (take (i + 1) block)
step f out block i a b h =
    rw (take_more_set out i (f (get_or block i 0)) a, take_more block i 0 b, map-append, h) refl

-- all of them
whole : (f : ℕ → ℕ) (out block : List ℕ) (i : ℕ) → length out ≤ i → length block ≤ i
    → take i out ≡ map f (take i block) → out ≡ map f block
whole f out block i a b h = sym (take_all i out a) ∙ h ∙ ap (map f) (take_all i block b)

pub loop-i-preserved : goal.loop-i-preserved
loop-i-preserved c = record {
  long = rw length-set c.loop-i.invariant.long;
  done = step (λ b. bit_xor b c.args.pad) _ _ _ (omega arith) (omega arith) c.loop-i.invariant.done;
}

pub returns : goal.returns
returns c = whole (λ b. bit_xor b c.args.pad) _ _ c.loop-i.i (omega arith) (omega arith) c.loop-i.invariant.done
