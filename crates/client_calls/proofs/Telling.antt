-- What is known of a call, and of the sink that gets its text.
use Rattle.std.proofs.Common.{ℕ, List, Option, Result, Ok, Err, inr}
use Rattle.std.specs.Prelude.{⊤}
use Rattle.share_client.specs.Sides.{Side}
use Rattle.share_client.specs.Steps.{Sends}
use Rattle.share_client.specs.declared.fault.ClientFault.{ClientFault}
use Rattle.client_calls.specs.Calls.{Prints}

-- a text that was made is sent
pub sent : (Says : Result (List ℕ) ClientFault → Side → Side → Type 0) (held held_new : Option (List ℕ)) (before now : ℕ) (text : List ℕ) (result : Result ⊤ ClientFault) (s t : Side)
    → Sends held held_new before now text result → Says (Ok text) s t → Prints Says held held_new result s t
sent Says held held_new before now text (Ok done) s t sends says = (text, says, sends)
sent Says held held_new before now text (Err e) s t sends says = inr (text, says, inr (sends.0, sends.2))
