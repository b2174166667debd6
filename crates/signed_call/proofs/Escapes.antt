-- The set of `src/escape.rt` against the words of the specification.
use Rattle.std.proofs.Common.{◌≡◌, ℕ, ◌==◌, ◌<◌, ◌||◌, Bool, true, false, not, cond, List, [], ◌∷◌, ◌++◌, All, refl, ap, ◌∙◌}
use Rattle.std.proofs.lemmas.Bool.{agree_below, agree_below_at}
use Rattle.std.proofs.lemmas.List.Elements.{All-head, All-tail}
use Rattle.percent_encoding.specs.AsciiSet.{should_percent_encode}
use Rattle.percent_encoding.specs.Percent.{percent_encode_byte, encode_byte, percent_encode}
use Rattle.percent_encoding.proofs.PercentLemmas.{IsByte}
use Rattle.signed_call.specs.declared.escape.TheConstants.{RESERVED}
use Rattle.text_forms.specs.Escape.{is_unreserved}
use Rattle.signed_call.specs.Paths.{escaped_path_byte, escaped_path}

set_agrees : agree_below (should_percent_encode RESERVED) (λ b. not ((b == 47) || is_unreserved b)) 256 ≡ true
unfolding should_percent_encode
set_agrees = refl

other_way : (b : ℕ) (slash kept : Bool) → cond (not (slash || kept)) (percent_encode_byte b) (b ∷ []) ≡ cond slash (b ∷ []) (cond kept (b ∷ []) (percent_encode_byte b))
other_way b true kept = refl
other_way b false true = refl
other_way b false false = refl

one_byte : (b : ℕ) → b < 256 → encode_byte RESERVED b ≡ escaped_path_byte b
one_byte b small =
    ap (λ x. cond x (percent_encode_byte b) (b ∷ [])) (agree_below_at (should_percent_encode RESERVED) (λ x. not ((x == 47) || is_unreserved x)) 256 b set_agrees small)
    ∙ other_way b (b == 47) (is_unreserved b)

pub percent_encode-escaped_path : (bytes : List ℕ) → All IsByte bytes → percent_encode RESERVED bytes ≡ escaped_path bytes
unfolding percent_encode escaped_path
percent_encode-escaped_path [] small = refl
percent_encode-escaped_path (b ∷ bytes) small =
    let first : encode_byte RESERVED b ≡ escaped_path_byte b = one_byte b (All-head IsByte b bytes small) in
    let rest : percent_encode RESERVED bytes ≡ escaped_path bytes = percent_encode-escaped_path bytes (All-tail IsByte b bytes small) in
    ap (λ x. x ++ percent_encode RESERVED bytes) first ∙ ap (λ x. escaped_path_byte b ++ x) rest
