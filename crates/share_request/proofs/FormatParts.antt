-- The parts of a head's fields, field by field.
use Rattle.std.proofs.Common.{◌≡◌, ℕ, ◌+◌, ◌<◌, List, [], length, drop, get_or, Bool, true, false, cond, ◌&&◌, Some, None, refl, ap, sym, ◌∙◌}
use Rattle.std.specs.Prelude.{codes, ◌==◌}
use Rattle.std.specs.Option.{option_or}
use Rattle.std.specs.List.{find, slice_split}
use Rattle.std.specs.Str.{is_utf8}
use Rattle.std.proofs.lemmas.List.{drop_more}
use Rattle.std.proofs.lemmas.List.Folds.{find-append}
use Rattle.http_message.specs.Fields.{is_named}
use Rattle.http_message.specs.Framing.{Pairs}
use Rattle.share_request.specs.Capabilities.{capability_parts, field_parts, names_formats}

-- those of a field of that name whose value is text
pub parts_are : (field : List ℕ × List ℕ) → is_named (codes "delta-sharing-capabilities") field ≡ true → is_utf8 field.1 ≡ true → field_parts field ≡ slice_split (λ b. b == 59) field.1
parts_are field named text = λ i. cond (named i && text i) (slice_split (λ b. b == 59) field.1) []

no_parts_by : (b c : Bool) (parts : List (List ℕ)) → c ≡ false → cond (b && c) parts [] ≡ []
no_parts_by true c parts e = ap (λ t. cond t parts []) e
no_parts_by false c parts e = refl

-- and of one whose value isn't
pub no_parts : (field : List ℕ × List ℕ) → is_utf8 field.1 ≡ false → field_parts field ≡ []
no_parts field none = no_parts_by (is_named (codes "delta-sharing-capabilities") field) (is_utf8 field.1) (slice_split (λ b. b == 59) field.1) none

first_at : (fields : Pairs) (i : ℕ) → i < length fields
    → find names_formats (capability_parts (drop i fields)) ≡ option_or (find names_formats (field_parts (get_or fields i ([], [])))) (find names_formats (capability_parts (drop (i + 1) fields)))
first_at fields i within =
    ap (λ x. find names_formats (capability_parts x)) (drop_more fields i ([], []) within)
    ∙ find-append names_formats (field_parts (get_or fields i ([], []))) (capability_parts (drop (i + 1) fields))

module _ (fields : Pairs) (i : ℕ) (within : i < length fields) (so_far : find names_formats (capability_parts (drop i fields)) ≡ find names_formats (capability_parts fields)) where
  -- where a field has one, that is the first of all
  pub first_here : (part : List ℕ) → Some part ≡ find names_formats (field_parts (get_or fields i ([], []))) → Some part ≡ find names_formats (capability_parts fields)
  first_here part is =
      ap (λ o. option_or o (find names_formats (capability_parts (drop (i + 1) fields)))) is ∙ sym (first_at fields i within) ∙ so_far

  -- and else it is behind that field
  pub first_behind : None ≡ find names_formats (field_parts (get_or fields i ([], []))) → find names_formats (capability_parts (drop (i + 1) fields)) ≡ find names_formats (capability_parts fields)
  first_behind none =
      ap (λ o. option_or o (find names_formats (capability_parts (drop (i + 1) fields)))) none ∙ sym (first_at fields i within) ∙ so_far
