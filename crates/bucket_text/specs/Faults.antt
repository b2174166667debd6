-- What a function that reads an answer returns.
use Rattle.std.specs.Prelude.{◌≡◌, Option, Some, None, Result, Ok, Err, ⊤}
use Rattle.bucket_text.specs.declared.fault.Fault.{Fault}
use Rattle.bucket_text.specs.declared.fault.Fault.TheVariants as fault

-- It is bad exactly where there is nothing that it says. Want of memory says nothing.
abbrev pub IsFault : {Y : Type 0} → Fault → Option Y → Type 0
IsFault fault.NoMemory said = ⊤
IsFault fault.Bad said = said ≡ None

-- what was returned, seen by `seen`, is what is said
abbrev pub Gives : {X Y : Type 0} → (X → Y) → Result X Fault → Option Y → Type 0
Gives seen (Ok x) said = said ≡ Some (seen x)
Gives seen (Err e) said = IsFault e said
