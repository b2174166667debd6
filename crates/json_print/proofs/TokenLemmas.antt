-- Tokens that come in one after another.
use Rattle.std.proofs.Common.{◌≡◌, ℕ, ◌+◌, ◌<◌, ℤ, pos, negsuc, List, [], ◌∷◌, ◌++◌, length, get_or, drop, map, Some, None, refl, sym, ap, ◌∙◌, append_assoc, drop-cons, add-one}
use Rattle.std.specs.Fmt.{signed_decimal}
use Rattle.json.specs.Written.{Written}
use Rattle.json.specs.Token.{Token, begin_object, end_object, key, string}
use Rattle.json.specs.Tree.{items_tokens, members_tokens}
use Rattle.json.specs.Print.{print}
use Rattle.serde_json.specs.Data.{Data}
use Rattle.serde_json.specs.Find.{of_integer}
use Rattle.serde_json.specs.Written.{number_text, items_outline, members_outline, compact_text}
use Rattle.serde_json.proofs.Texts.{print-outline}
use Rattle.json_tree.specs.Lists.{pair_of}
use Rattle.json_tree.specs.declared.pairs.Pair.{Pair}
use Rattle.json_print.specs.Values.{text_or_null, text_items, pair_members}
use Rattle.json_print.specs.Fields.{Field, members_of, object_of}
use Rattle.json_print.specs.TokenLaws as written
use Rattle.json_print.specs.Tokens.{Adds, value_tokens, field_tokens}

pub then : {a b c : Written} {xs ys : List Token} → Adds a b xs → Adds b c ys → Adds a c (xs ++ ys)
then {a} {b} {c} {xs} {ys} first second = written.then a b c xs ys first second

-- by the law of what takes the tokens
pub next : {S : Type 0} {adds : S → S → List Token → Type 0} {a b c : S} {xs ys : List Token} → ((a b c : S) (xs ys : List Token) → adds a b xs → adds b c ys → adds a c (xs ++ ys))
    → adds a b xs → adds b c ys → adds a c (xs ++ ys)
next {S} {adds} {a} {b} {c} {xs} {ys} law first second = law a b c xs ys first second

-- one token more
pub wrote : (a b : Written) {t : Token} → b.before ≡ a.before → b.tokens ≡ a.tokens ++ t ∷ [] → Adds a b (t ∷ [])
wrote a b before tokens = record { before = before; tokens = tokens }

-- a whole number is written as it is in decimal
pub whole_text : (z : ℤ) → number_text (of_integer z) ≡ signed_decimal z
whole_text (pos n) = refl
whole_text (negsuc n) = refl

-- one text more of an array
pub texts_more : (texts : List (List ℕ)) (i : ℕ) (d : List ℕ) (done whole : List Token) → i < length texts → done ++ items_tokens (items_outline (text_items (drop i texts))) ≡ whole
    → (done ++ string (get_or texts i d) ∷ []) ++ items_tokens (items_outline (text_items (drop (i + 1) texts))) ≡ whole
texts_more texts i d done whole h e =
    append_assoc done (string (get_or texts i d) ∷ []) (items_tokens (items_outline (text_items (drop (i + 1) texts))))
    ∙ ap (λ n. done ++ string (get_or texts i d) ∷ items_tokens (items_outline (text_items (drop n texts)))) (add-one i)
    ∙ ap (λ ts. done ++ items_tokens (items_outline (text_items ts))) (sym (drop-cons texts i d h)) ∙ e

-- one pair more of an object
pub pairs_more : (pairs : List Pair) (i : ℕ) (d : Pair) (done whole : List Token) → i < length pairs → done ++ members_tokens (members_outline (pair_members (map pair_of (drop i pairs)))) ≡ whole
    → (done ++ key (get_or pairs i d).name ∷ value_tokens (text_or_null (get_or pairs i d).value)) ++ members_tokens (members_outline (pair_members (map pair_of (drop (i + 1) pairs)))) ≡ whole
pairs_more pairs i d done whole h e =
    append_assoc done (key (get_or pairs i d).name ∷ value_tokens (text_or_null (get_or pairs i d).value)) (members_tokens (members_outline (pair_members (map pair_of (drop (i + 1) pairs)))))
    ∙ ap (λ n. done ++ key (get_or pairs i d).name ∷ (value_tokens (text_or_null (get_or pairs i d).value) ++ members_tokens (members_outline (pair_members (map pair_of (drop n pairs)))))) (add-one i)
    ∙ ap (λ (ps : List Pair). done ++ members_tokens (members_outline (pair_members (map pair_of ps)))) (sym (drop-cons pairs i d h)) ∙ e

-- the fields one after another, and the object's end
abbrev pub rest_tokens : List Field → List Token
rest_tokens [] = end_object ∷ []
rest_tokens (f ∷ more) = field_tokens f ++ rest_tokens more

rest_written : (fields : List Field) → rest_tokens fields ≡ members_tokens (members_outline (members_of fields))
rest_written [] = refl
rest_written ((name, None) ∷ more) = rest_written more
rest_written ((name, Some d) ∷ more) = ap (λ ts. key name ∷ (value_tokens d ++ ts)) (rest_written more)

-- an object's tokens are those of its fields, between its ends
pub object_written : (fields : List Field) → begin_object ∷ rest_tokens fields ≡ value_tokens (object_of fields)
object_written fields = ap (λ ts. begin_object ∷ ts) (rest_written fields)

-- what is printed for a value's tokens is its text
pub text_written : {old new : Written} (d : Data) → Adds old new (value_tokens d) → old.tokens ≡ [] → print new.tokens ≡ compact_text d
text_written d added nothing = ap print (added.tokens ∙ ap (λ ts. ts ++ value_tokens d) nothing) ∙ print-outline d
