-- Bytes that are text, and bytes that aren't.
use Rattle.std.proofs.Common.{◌≡◌, ℕ, List, Bool, true, false, cond, Result, Err, refl, ap}
use Rattle.std.specs.Prelude.{IsUtf8}
use Rattle.std.specs.Str.{is_utf8}
use Rattle.std.proofs.lemmas.Str.{IsUtf8-from_is_utf8, is_utf8-from_IsUtf8}
use Rattle.serde_json.specs.Data.{Data}
use Rattle.serde_json.specs.Read.{read}
use Rattle.json_tree.specs.declared.tree.TreeFault.{TreeFault}
use Rattle.json_tree.specs.declared.tree.TreeFault.TheVariants as fault
use Rattle.json_tree.specs.Tree.{of_read, tree_in}

pub text_yes : (bytes : List ℕ) → IsUtf8 bytes → tree_in bytes ≡ of_read (read bytes)
text_yes bytes u = ap (λ b. cond b (of_read (read bytes)) (Err fault.NotUtf8)) (is_utf8-from_IsUtf8 bytes u)

no_case : (bytes : List ℕ) (b : Bool) (x y : Result Data TreeFault) → is_utf8 bytes ≡ b → ¬ (IsUtf8 bytes) → cond b x y ≡ y
no_case bytes true x y e not_text = absurd (not_text (IsUtf8-from_is_utf8 bytes e))
no_case bytes false x y e not_text = refl

pub text_no : (bytes : List ℕ) → ¬ (IsUtf8 bytes) → tree_in bytes ≡ Err fault.NotUtf8
text_no bytes not_text = no_case bytes (is_utf8 bytes) (of_read (read bytes)) (Err fault.NotUtf8) refl not_text
