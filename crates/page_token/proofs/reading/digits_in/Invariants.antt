use Rattle.std.proofs.Common.{◌≡◌, ◌<◌, drop}
use Rattle.page_token.specs.Reading.{digits_after}
use Rattle.page_token.proofs.reading.digits_in.Given as goal

-- the number so far, followed by what is left, is the whole
abbrev pub invariant-loop-digit : goal.invariant-loop-digit
invariant-loop-digit l = record {
  value : digits_after l.limit 0 l.digits ≡ digits_after l.limit l.number (drop l.digit-index l.digits);
  below : l.number < l.limit;
}
