use Rattle.std.proofs.Common.{◌≡◌, drop, map}
use Rattle.bucket_text.specs.Listings.{keys_of, with_key}
use Rattle.bucket_text.specs.Steps.{steps}
use Rattle.bucket_text.proofs.listing.keys_of.Given as goal

-- what the texts that are left come to
abbrev pub invariant-loop-text : goal.invariant-loop-text
invariant-loop-text l =
    keys_of (map (λ x. x.now) l.texts) ≡ steps with_key l.keys.items (drop l.text-index (map (λ x. x.now) l.texts))
