use Rattle.std.proofs.Common.{◌≡◌, true, false, w64, FitsSigned, refl, sym}
use Rattle.std.specs.Int.RustNames.{int_le}
use Rattle.std.specs.Str.Parse.{signed_digits_value}
use Rattle.std.proofs.lemmas.Bool.{both_ways}
use Rattle.std.proofs.lemmas.Int.{to_z-of_z}
use Rattle.std.proofs.lemmas.Fmt.{parse-signed_decimal}
use Rattle.part_values.specs.Whole.{is_shortest}
use Rattle.part_values.proofs.Numerals.{fits, found, is_shortest-written, missing, shortest}
use Rattle.part_values.proofs.whole.whole_of.Goals.{else-low-number-via-then-low-number+then-number-high+else-is_shortest, else-low-number-via-then-low-number+else-number-high, else-low-number-via-else-low-number}
use Rattle.part_values.proofs.whole.whole_of.Goals as goal

pub returns-in_default : goal.returns-in_default
returns-in_default c = sym (missing c.args.low c.args.high c.args.text.now (λ e below above.
    let f = fits c.args.low _ c.args.high below above c.ranges.low c.ranges.high in
    c.in_default.not-Ok _ (parse-signed_decimal w64 _ c.args.text.now c.parse.result f f.sfits e c.parse.ensures.value.0)))

pub returns-then-is_shortest : goal.returns-then-is_shortest
returns-then-is_shortest c =
    let value : c.in-Ok.number ≡ signed_digits_value 10 c.args.text.now = c.in-Ok.ensures.value.0.1 in
    let f : FitsSigned w64 c.in-Ok.number = rw value c.in-Ok.ensures.value.0.0.1 in
    let short : is_shortest c.args.text.now ≡ true = rw (← c.as_bytes.ensures.value, ← c.if-is_shortest.ensures) refl in
    let low : int_le c.args.low c.in-Ok.number ≡ true = rw (to_z-of_z w64 c.in-Ok.number f, to_z-of_z w64 c.args.low c.ranges.low) at c.if-low-number.true in
    let high : int_le c.in-Ok.number c.args.high ≡ true = rw (to_z-of_z w64 c.in-Ok.number f, to_z-of_z w64 c.args.high c.ranges.high) at c.if-number-high.true in
    rw (to_z-of_z w64 c.in-Ok.number f, found c.args.low c.args.high c.args.text.now (shortest c.args.text.now short c.in-Ok.ensures.value.0.0.0 c.in-Ok.ensures.value.0.0.1) (rw value at low) (rw value at high), value) refl

pub returns-else-low-number : goal.returns-else-low-number
returns-else-low-number c = sym (missing c.args.low c.args.high c.args.text.now (λ e below above.
    let value : c.in-Ok.number ≡ signed_digits_value 10 c.args.text.now = c.in-Ok.ensures.value.0.1 in
    let f : FitsSigned w64 c.in-Ok.number = rw value c.in-Ok.ensures.value.0.0.1 in
    let low : int_le c.args.low c.in-Ok.number ≡ true = rw value below in
    let high : int_le c.in-Ok.number c.args.high ≡ true = rw value above in
    let written : is_shortest c.args.text.now ≡ true = rw e (is_shortest-written (signed_digits_value 10 c.args.text.now) c.in-Ok.ensures.value.0.0.1) in
    elim c.else-low-number.branch [
      | else-low-number-via-then-low-number+then-number-high+else-is_shortest w ↦
          let short : is_shortest c.args.text.now ≡ false = rw (← w.as_bytes.ensures.value, ← w.if-is_shortest.ensures) refl in
          both_ways _ short written
      | else-low-number-via-then-low-number+else-number-high w ↦
          let over : int_le c.in-Ok.number c.args.high ≡ false = rw (to_z-of_z w64 c.in-Ok.number f, to_z-of_z w64 c.args.high c.ranges.high) at w.if-number-high.false in
          both_ways _ over high
      | else-low-number-via-else-low-number w ↦
          let under : int_le c.args.low c.in-Ok.number ≡ false = rw (to_z-of_z w64 c.in-Ok.number f, to_z-of_z w64 c.args.low c.ranges.low) at w.if-low-number.false in
          both_ways _ under low
    ]))
