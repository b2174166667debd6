-- The values of partition columns (Delta Lake PROTOCOL.md, "Partition Value Serialization").
use Rattle.std.specs.Prelude.{ℕ, ℤ, pos, neg_ℤ, ◌^◌, ◌-◌, Bool, true, false, List, [], ◌∷◌, Option, Some, None, codes, if◌then◌else◌}
use Rattle.std.specs.Str.{bytes_eq}
use Rattle.part_values.specs.Day.{day_of}
use Rattle.part_values.specs.Whole.{whole_of}
use Rattle.part_values.specs.declared.value.PartType.{PartType}
use Rattle.part_values.specs.declared.value.PartType.TheVariants as kind
use Rattle.part_values.specs.declared.value.PartValue.{PartValue}
use Rattle.part_values.specs.declared.value.PartValue.TheVariants as value

-- what a value is: nothing, a truth value, a whole number, a text, the number of a day since
-- 1970-01-01, or a text that isn't in the form of its type
pub data Typed : Type 0 where
  null : Typed
  boolean : Bool → Typed
  whole : ℤ → Typed
  text : List ℕ → Typed
  day : ℤ → Typed
  unread : Typed

-- the value that the code's enum stands for, its text as bytes
abbrev pub seen : PartValue → Typed
seen value.Null = null
seen (value.Bool b) = boolean b
seen (value.Whole n) = whole n
seen (value.Text t) = text t.now
seen (value.Day d) = day d
seen value.Unread = unread

-- the truth value that a text names
abbrev pub bool_of : List ℕ → Option Bool
bool_of t =
    if bytes_eq t (codes "true") then Some true
    else (if bytes_eq t (codes "false") then Some false else None)

abbrev pub or_unread : {X : Type 0} → (X → Typed) → Option X → Typed
or_unread make None = unread
or_unread make (Some x) = make x

abbrev pub of_bool : Option Bool → Typed
of_bool o = or_unread boolean o

abbrev pub of_whole : Option ℤ → Typed
of_whole o = or_unread whole o

abbrev pub of_day : Option ℤ → Typed
of_day o = or_unread day o

-- a whole number in the range of so many bits with sign
abbrev pub signed : ℕ → List ℕ → Typed
signed bits t = of_whole (whole_of (neg_ℤ (pos (2 ^ (bits - 1)))) (pos (2 ^ (bits - 1) - 1)) t)

-- the value of a text that isn't empty
abbrev pub typed_text : List ℕ → PartType → Typed
typed_text t kind.Bool = of_bool (bool_of t)
typed_text t kind.Byte = signed 8 t
typed_text t kind.Short = signed 16 t
typed_text t kind.Int = signed 32 t
typed_text t kind.Long = signed 64 t
typed_text t kind.Str = text t
typed_text t kind.Date = of_day (day_of t)
typed_text t kind.Other = unread

-- the value of a text at a type: nothing and the empty text are null at every type
abbrev pub typed : Option (List ℕ) → PartType → Typed
typed None k = null
typed (Some []) k = null
typed (Some (c ∷ cs)) k = typed_text (c ∷ cs) k
