-- Reading by parts.
use Rattle.std.proofs.Common.{◌≡◌, ℕ, List, Bool, true, false, cond, Some, None, refl}
use Rattle.std.specs.Str.{IsUtf8, is_utf8}
use Rattle.std.specs.Prelude.{bytes_eq}
use Rattle.std.proofs.lemmas.Str.{IsUtf8-from_is_utf8}
use Rattle.std.proofs.lemmas.Cmp.{nat_list_eq_equiv}
use Rattle.page_token.specs.declared.cursor.Cursor.{Cursor}
use Rattle.page_token.specs.Reading.{text_of}

not_chosen : (b : Bool) (text : List ℕ) → (b ≡ true → ⊥) → cond b (Some text) None ≡ None
not_chosen true text h = absurd (h refl)
not_chosen false text h = refl

pub text_none : (bytes : List ℕ) → ¬ (IsUtf8 bytes) → text_of bytes ≡ None
text_none bytes h = not_chosen (is_utf8 bytes) bytes (λ e. h (IsUtf8-from_is_utf8 bytes e))

pub same_some : (c d : Cursor) → Some c ≡ Some d → c ≡ d
same_some c d e = cc

-- bytes that are told apart aren't the same
pub differs : (a b : List ℕ) → false ≡ bytes_eq a b → a ≡ b → ⊥
differs a b e same =
    let yes : bytes_eq a b ≡ true = rw same (nat_list_eq_equiv.refl b) in
    cc
