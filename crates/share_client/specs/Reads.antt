-- What is told of a page that is read into a list.
use Rattle.std.specs.Prelude.{◌≡◌, ℕ, List, ◌++◌, Option, Some, None, Result, Ok, Err, ⊤}
use Rattle.serde_json.specs.Data.{Data, Items}
use Rattle.share_client.specs.Lists.{Listing, all_in}
use Rattle.share_client.specs.declared.fault.ClientFault.{ClientFault}
use Rattle.share_client.specs.declared.fault.ClientFault.TheVariants as fault

-- nothing is read, or memory is wanting
abbrev pub Unread : {X : Type 0} → Option X → ClientFault → Type 0
Unread read (fault.BadReply at) = (at ≡ 0) × (read ≡ None)
Unread read fault.NoMemory = ⊤
Unread read _ = ⊥

abbrev pub GivesText : Result (Option (List ℕ)) ClientFault → Option (Option (List ℕ)) → Type 0
GivesText (Ok text) read = read ≡ Some text
GivesText (Err e) read = Unread read e

-- what is read stands behind what was there
abbrev pub ReadsItems : {X : Type 0} → (Data → Option X) → (was now : List X) → Items → Result ⊤ ClientFault → Type 0
ReadsItems reads was now values (Ok all) = (items : List _) × (all_in reads values ≡ Some items) × (now ≡ was ++ items)
ReadsItems reads was now values (Err e) = Unread (all_in reads values) e

abbrev pub ReadsPage : {X : Type 0} → (was now : List X) → Option (Listing X) → Result (Option (List ℕ)) ClientFault → Type 0
ReadsPage was now read (Ok token) = (items : List _) × (read ≡ Some (items, token)) × (now ≡ was ++ items)
ReadsPage was now read (Err e) = Unread read e
