-- Lines, and texts that are put on.
use Rattle.std.proofs.Common.{◌≡◌, ℕ, List, [], ◌∷◌, ◌++◌, Result, Ok, Err, OnOk, Some, cond, arith, sym, ap, ◌∙◌}
use Rattle.std.specs.Prelude.{codes, is_ok}
use Rattle.std.proofs.lemmas.Fmt.{decimal_digit}
use Rattle.json.specs.Token.{Token, begin_object, end_object, key}
use Rattle.json.specs.Print.{print, quoted}
use Rattle.serde_json.specs.Data.{Data}
use Rattle.serde_json.proofs.Texts.{print-outline}
use Rattle.json_print.specs.Fields.{object_of}
use Rattle.json_print.specs.Tokens.{value_tokens}
use Rattle.serde_json.specs.Written.{compact_text}
use Rattle.share_lines.specs.Lines.{protocol_line}

-- a text that is put on after another
pub put_on : {E : Type 0} (r : Result (Unit {0}) E) (new old text wanted : List ℕ) → new ≡ cond (is_ok r) (old ++ text) old → text ≡ wanted → OnOk r (new ≡ old ++ wanted)
put_on (Ok x) new old text wanted is same = is ∙ ap (λ t. old ++ t) same
put_on (Err e) new old text wanted is same = tt

-- the protocol line with other digits for its version
abbrev pub protocol_with : List ℕ → List ℕ
protocol_with digits = 123 ∷ (quoted (codes "protocol") ++ 58 ∷ ((123 ∷ (quoted (codes "minReaderVersion") ++ 58 ∷ (digits ++ 125 ∷ []))) ++ 125 ∷ [])) ++ 10 ∷ []

pub protocol_is : protocol_with (49 ∷ []) ≡ protocol_line
protocol_is = ap protocol_with (sym (decimal_digit 1 (omega arith)))
