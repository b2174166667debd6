-- The bodies of refusals (Delta Sharing PROTOCOL.md, the errors of the REST APIs): compact JSON (RFC 8259) of the refusal's word and a message.
use Rattle.std.specs.Prelude.{◌≡◌, ◌==◌, ◌||◌, List, [], ◌∷◌, ◌++◌, ℕ, Bool, IsTrue, Some, length, codes}
use Rattle.serde_json.specs.Data.{Data, string}
use Rattle.serde_json.specs.Written.{compact_text}
use Rattle.json_print.specs.Fields.{Field, object_of}
use Rattle.case_table.specs.Refusals.{refusal_row}
use Rattle.case_table.specs.declared.refuse.Refusal.{Refusal}

abbrev pub error_fields : List ℕ → List ℕ → List Field
error_fields word message = (codes "errorCode", Some (string word)) ∷ (codes "message", Some (string message)) ∷ []

abbrev pub error_data : List ℕ → List ℕ → Data
error_data word message = object_of (error_fields word message)

-- whether the message may end in that detail: it is empty where the message has none
abbrev pub takes_detail : Refusal → List ℕ → Bool
takes_detail refusal detail = (length detail == 0) || (refusal_row refusal).has_detail

-- the body of the refusal: its word, and the fixed words of its message with the detail behind them
abbrev pub error_body : Refusal → List ℕ → List ℕ
error_body refusal detail = compact_text (error_data (refusal_row refusal).word ((refusal_row refusal).message ++ detail))

-- the bytes are the body of that refusal with that detail
abbrev pub IsErrorBody : Refusal → List ℕ → List ℕ → Type 0
IsErrorBody refusal detail bytes = IsTrue (takes_detail refusal detail) × (error_body refusal detail ≡ bytes)
