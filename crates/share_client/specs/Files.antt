-- A file that is fetched by its link (Delta Sharing PROTOCOL.md, "File"): a GET without a token.
use Rattle.std.specs.Prelude.{◌≡◌, ℕ, ◌⊎◌, List, [], ◌∷◌, ◌++◌, length, Option, Some, None, Result, Ok, Err, ⊤}
use Rattle.std.specs.Io.KnownBytes.{append_known}
use mathlib.Core.List.{IsPrefix}
use Rattle.edge_core.specs.Faults.{Rose}
use Rattle.share_client.specs.Asking.{Answers, Asks}
use Rattle.share_client.specs.Requests.{get_text}
use Rattle.share_client.specs.Sides.{CausedBy, Counts, Side}
use Rattle.share_client.specs.Targets.{target_in}
use Rattle.share_client.specs.declared.fault.ClientFault.{ClientFault}
use Rattle.share_client.specs.declared.fault.ClientFault.TheVariants as fault
use Rattle.share_client.specs.declared.exchange.Response.{Response}
use Rattle.share_client.specs.declared.target.Target.{Target}

abbrev pub query_tail : Option (List ℕ) → List ℕ
query_tail None = []
query_tail (Some query) = 63 ∷ query

-- the request of a link, without a token: who has the link may read
abbrev pub link_text : Target → List ℕ
link_text target = get_text (target.path ++ query_tail target.query) target.host_field None

-- the link wasn't asked for, or in vain, and nothing was delivered
abbrev pub NotFetched : Target → (held held_new : Option (List ℕ)) → ClientFault → Side → Side → Type 0
NotFetched target held held_new e old new =
    (held_new ≡ held) × (((e ≡ fault.NoMemory) × (new ≡ old)) ⊎ Asks target (link_text target) (Err e) old new)

-- the body came, and the sink failed behind a front of it
abbrev pub NotDelivered : Target → (held held_new : Option (List ℕ)) → ClientFault → Side → Side → Type 0
NotDelivered target held held_new e old new =
    (r : Response) × Answers target (link_text target) r old new × (e ≡ fault.WriteFault)
    × ((front : List ℕ) × IsPrefix front r.body.items × (held_new ≡ append_known held front))

-- what is delivered to a sink that held something, where it tells: the body, whose length is answered
abbrev pub FetchesFrom : Target → (held held_new : Option (List ℕ)) → Result ℕ ClientFault → Side → Side → Type 0
FetchesFrom target held held_new (Ok n) old new =
    (r : Response) × Answers target (link_text target) r old new × (held_new ≡ append_known held r.body.items) × (n ≡ length r.body.items)
FetchesFrom target held held_new (Err e) old new = NotFetched target held held_new e old new ⊎ NotDelivered target held held_new e old new

-- no link: nothing is opened
abbrev pub NoLink : (held held_new : Option (List ℕ)) → Result ℕ ClientFault → Side → Side → Type 0
NoLink held held_new result old new = (held_new ≡ held) × (new ≡ old) × ((result ≡ Err fault.BadUrl) ⊎ (result ≡ Err fault.NoMemory))

abbrev pub FetchesAt : Option Target → (held held_new : Option (List ℕ)) → Result ℕ ClientFault → Side → Side → Type 0
FetchesAt None held held_new result old new = NoLink held held_new result old new
FetchesAt (Some target) held held_new result old new = FetchesFrom target held held_new result old new

-- the file of that text
abbrev pub Fetches : List ℕ → (held held_new : Option (List ℕ)) → Result ℕ ClientFault → Side → Side → Type 0
Fetches url held held_new result old new = FetchesAt (target_in url) held held_new result old new

-- A text that is no link is told, but where memory is wanting, and only such a one.
abbrev pub TellsUrl : Option Target → Result ℕ ClientFault → Type 0
TellsUrl None result = (result ≡ Err fault.BadUrl) ⊎ (result ≡ Err fault.NoMemory)
TellsUrl (Some target) result = ¬ (result ≡ Err fault.BadUrl)

-- a fault comes only where the link's count of it rose, or for a write the sink's
abbrev pub FetchCause : {A : Type 0} → Result A ClientFault → (old new : Counts) → (before now : ℕ) → Type 0
FetchCause (Err fault.BadUrl) old new before now = ⊤
FetchCause (Err fault.WriteFault) old new before now = Rose old.writes new.writes ⊎ Rose before now
FetchCause result old new before now = CausedBy result (Rose old.opens new.opens) (Rose old.reads new.reads) ⊤
