-- Fields written one after another are the text of their list.
use Rattle.std.proofs.Common.{◌≡◌, ℕ, List, [], ◌∷◌, ◌++◌, append_assoc, sym, ap, ◌∙◌}
use Rattle.std.proofs.lemmas.Grind.{flat_map-append}
use Rattle.response_text.specs.Heads.{Fields, field_line, fields_text, line}

two : (text : List ℕ) (a b : Fields) → text ++ fields_text a ++ fields_text b ≡ text ++ fields_text (a ++ b)
two text a b = append_assoc text (fields_text a) (fields_text b) ∙ ap (λ t. text ++ t) (sym (flat_map-append (λ field. line (field_line field)) a b))

pub fields_text-in_order :
    (text : List ℕ) (first fifth : List ℕ × List ℕ) (b c e : Fields)
    → text ++ fields_text (first ∷ []) ++ fields_text b ++ fields_text c ++ fields_text (fifth ∷ []) ++ fields_text e
    ≡ text ++ fields_text (first ∷ (b ++ (c ++ (fifth ∷ e))))
fields_text-in_order text first fifth b c e =
    two (text ++ fields_text (first ∷ []) ++ fields_text b ++ fields_text c) (fifth ∷ []) e
    ∙ two (text ++ fields_text (first ∷ []) ++ fields_text b) c (fifth ∷ e)
    ∙ two (text ++ fields_text (first ∷ [])) b (c ++ (fifth ∷ e))
    ∙ two text (first ∷ []) (b ++ (c ++ (fifth ∷ e)))
