-- Bytes that are a text.
use Rattle.std.proofs.Common.{◌≡◌, ℕ, List, Some, None, ap, sym, ◌∙◌}
use Rattle.std.specs.Str.{IsUtf8, is_utf8}
use Rattle.std.proofs.lemmas.Bool.{cond-true, cond-false, false_from_ne_true}
use Rattle.std.proofs.lemmas.Str.{is_utf8-from_IsUtf8, IsUtf8-from_is_utf8}
use Rattle.bucket_text.specs.Texts.{text_of}

pub is_text : (bytes text : List ℕ) → IsUtf8 bytes → text ≡ bytes → text_of bytes ≡ Some text
is_text bytes text utf8 is =
    cond-true (is_utf8 bytes) (Some bytes) None (is_utf8-from_IsUtf8 bytes utf8) ∙ ap (λ x. Some x) (sym is)

pub no_text : (bytes : List ℕ) → ¬ (IsUtf8 bytes) → text_of bytes ≡ None
no_text bytes none =
    cond-false (is_utf8 bytes) (Some bytes) None (false_from_ne_true (is_utf8 bytes) (λ so. none (IsUtf8-from_is_utf8 bytes so)))
