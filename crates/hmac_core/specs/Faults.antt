-- What a function that reads a signed text returns.
use Rattle.std.specs.Prelude.{◌≡◌, Option, Some, None, Result, Ok, Err, ⊤}
use Rattle.hmac_core.specs.declared.fault.Fault.{Fault}
use Rattle.hmac_core.specs.declared.fault.Fault.TheVariants as fault

-- What a function returned, seen by view, is what reading gives. Want of memory says nothing.
abbrev pub Fails : {Y : Type 0} → Fault → Option Y → Type 0
Fails fault.NoMemory read = ⊤
Fails fault.NotSpelt read = read ≡ None

abbrev pub Gives : {X Y : Type 0} → (X → Y) → Result X Fault → Option Y → Type 0
Gives view (Ok x) read = read ≡ Some (view x)
Gives view (Err e) read = Fails e read
