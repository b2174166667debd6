-- The types by name, as fields come in.
use Rattle.std.proofs.Common.{◌≡◌, ◌∙◌, ℕ, List, Option, Some, None, Bool, true, false, cond, refl, bytes_eq, codes}
use Rattle.std.specs.Borrow.{Bor}
use Rattle.std.specs.BTreeMap.{BTreeMap}
use Rattle.serde_json.specs.Data.{Data}
use Rattle.part_values.specs.Columns.{kind_by, kind_of, or_kind, text_in}
use Rattle.part_values.specs.Kinds.{kind_at}
use Rattle.part_values.specs.declared.value.PartType.{PartType}

picked : (b : Bool) (k : PartType) (old : Option PartType) → cond b (Some k) old ≡ or_kind (cond b (Some k) None) old
picked true k old = refl
picked false k old = refl

pub puts : (name q : List ℕ) (field : Data) (old new : BTreeMap (Bor (List ℕ)) PartType) → text_in (codes "name") field ≡ Some name
    → kind_at new q ≡ cond (bytes_eq name q) (Some (kind_of field)) (kind_at old q)
    → kind_at new q ≡ or_kind (kind_by q field) (kind_at old q)
puts name q field old new named updated = updated ∙ rw named (picked (bytes_eq name q) (kind_of field) (kind_at old q))
