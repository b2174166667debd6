-- What escaped paths are read as.
use Rattle.std.proofs.Common.{◌≡◌, ◌≢◌, ℕ, List, All, Some, None, cond, refl, ap, sym, ◌∙◌}
use Rattle.std.specs.Str.{IsUtf8, is_utf8}
use Rattle.std.proofs.lemmas.Bool.{cond-true, cond-false, false_from_ne_true}
use Rattle.std.proofs.lemmas.Str.{is_utf8-from_IsUtf8, IsUtf8-from_is_utf8}
use Rattle.percent_encoding.specs.Percent.{percent_decode}
use Rattle.text_forms.specs.Escape.{escaped}
use Rattle.text_forms.proofs.Escapes.{free_of_question_mark, percent_decode-escaped}
use Rattle.signed_link.specs.Reading.{path_of}
use Rattle.hmac_core.proofs.Bytes.{utf8_bytes}

pub path_read : (text decoded path : List ℕ) → decoded ≡ percent_decode text → IsUtf8 decoded → path ≡ decoded → path_of text ≡ Some path
path_read text decoded path e utf8 is =
    ap (λ x. cond (is_utf8 x) (Some x) None) (sym e)
    ∙ cond-true (is_utf8 decoded) (Some decoded) None (is_utf8-from_IsUtf8 decoded utf8)
    ∙ ap (λ x. Some x) (sym is)

pub not_path : (text decoded : List ℕ) → decoded ≡ percent_decode text → ¬ (IsUtf8 decoded) → path_of text ≡ None
not_path text decoded e none =
    ap (λ x. cond (is_utf8 x) (Some x) None) (sym e)
    ∙ cond-false (is_utf8 decoded) (Some decoded) None (false_from_ne_true (is_utf8 decoded) (λ yes. none (IsUtf8-from_is_utf8 decoded yes)))

pub path_again : (path : List ℕ) → IsUtf8 path → path_of (escaped path) ≡ Some path
path_again path text = path_read (escaped path) path path (sym (percent_decode-escaped path (utf8_bytes path text))) text refl

-- no question mark
pub escaped_free : (path : List ℕ) → IsUtf8 path → All (λ b. b ≢ 63) (escaped path)
escaped_free path text = free_of_question_mark path (utf8_bytes path text)
