use Rattle.std.proofs.Common.{◌≡◌, ℕ, ◌+◌, ◌*◌, ◌^◌, ◌<◌, ◌≤◌, get_or, lit<, sym, ◌∙◌, add-one, arith}
use Rattle.std.specs.Char.{is_ascii_digit, digit_value}
use Rattle.std.proofs.Math.Nat.{pow-le-pow_right, pow-suc}
use Rattle.std.proofs.lemmas.Bool.{and_from}
use Rattle.std.proofs.lemmas.Bool.Decides.{nat_tests}
use Rattle.std.proofs.lemmas.Int.Digits.{digits_value_more}
use Rattle.std.proofs.lemmas.List.Folds.{list_all_more}
use Rattle.http_message.proofs.framing.length_in.Goals as goal

small : (i : ℕ) → i < 18 → 10 ^ i ≤ 10 ^ 17
small i below =
    let le : i ≤ 17 = omega arith in
    pow-le-pow_right (lit< tt) le

ten_more : (i size digit : ℕ) → size < 10 ^ i → digit < 10 → size * 10 + digit < 10 ^ (i + 1)
ten_more i size digit below small =
    let next : 10 ^ (i + 1) ≡ 10 ^ i * 10 = rw add-one (pow-suc 10 i) in
    omega arith

pub overflow_mul-size : goal.overflow_mul-size
overflow_mul-size c =
    let bound = small c.loop-digit.digit-index (omega arith) in
    omega (arith, bound, c.loop-digit.invariant.below)

pub overflow_add-size : goal.overflow_add-size
overflow_add-size c =
    let bound = small c.loop-digit.digit-index (omega arith) in
    omega (arith, bound, c.loop-digit.invariant.below)

pub loop-digit-preserved : goal.loop-digit-preserved
loop-digit-preserved c =
    let value = c.args.value.now in
    let i = c.loop-digit.digit-index in
    let digit : digit_value (get_or value i 0) ≡ c.from.result = grind (arith, nat_tests) in
    let low : c.from.result < 10 = grind (arith, nat_tests) in
    record {
      value = omega (arith, digits_value_more 10 value i c.loop-digit-test.true, c.loop-digit.invariant.value);
      digits = list_all_more is_ascii_digit value i 0 c.loop-digit-test.true ∙ and_from _ _ c.loop-digit.invariant.digits (sym c.if-not-is_ascii_digit.ensures.value);
      below = ten_more i c.loop-digit.size c.from.result c.loop-digit.invariant.below low;
    }
