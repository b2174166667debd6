-- What a reader answers.
use Rattle.std.specs.Prelude.{◌≡◌, Bool, true, false, Result, Ok, Err, ⊤}
use Rattle.json_tree.specs.declared.fields.FieldFault.{FieldFault}
use Rattle.json_tree.specs.declared.fields.FieldFault.TheVariants as fault

-- The fault is what is read, but where it is want of memory, which says nothing.
abbrev pub Fails : {Y F : Type 0} → Bool → F → Result Y F → Type 0
Fails true e read = ⊤
Fails false e read = read ≡ Err e

-- The answer, seen by `seen`, is the value or the fault that is read. A fault for want of memory says nothing.
abbrev pub AnswersBy : {X Y F : Type 0} → (F → Bool) → (X → Y) → Result X F → Result Y F → Type 0
AnswersBy lacks_memory seen (Ok x) read = read ≡ Ok (seen x)
AnswersBy lacks_memory seen (Err e) read = Fails (lacks_memory e) e read

abbrev pub Answers : {X F : Type 0} → (F → Bool) → Result X F → Result X F → Type 0
Answers lacks_memory result read = AnswersBy lacks_memory (λ x. x) result read

-- ---- a reader of a field

abbrev pub lacks_memory : FieldFault → Bool
lacks_memory fault.WrongKind = false
lacks_memory fault.NoMemory = true

abbrev pub GivesBy : {X Y : Type 0} → (X → Y) → Result X FieldFault → Result Y FieldFault → Type 0
GivesBy seen result read = AnswersBy lacks_memory seen result read

abbrev pub Gives : {X : Type 0} → Result X FieldFault → Result X FieldFault → Type 0
Gives result read = Answers lacks_memory result read
