-- The texts of listings.
use Rattle.std.proofs.Common.{◌≡◌, ℕ, ◌+◌, ◌<◌, List, [], ◌∷◌, ◌++◌, length, get_or, drop, take, Bool, true, false, cond, Option, Some, None, refl, sym, ap, ◌∙◌, arith, append_assoc, drop-cons, add-one}
use Rattle.std.specs.Prelude.{nat_lt, option_map}
use Rattle.json.specs.Token.{Token}
use Rattle.json.specs.Tree.{items_tokens}
use Rattle.serde_json.specs.Written.{items_outline}
use Rattle.json_print.specs.Fields.{object_of}
use Rattle.json_print.specs.Tokens.{value_tokens}
use Rattle.page_token.specs.Token.{token_text}
use Rattle.page_token.specs.declared.cursor.Cursor.TheVariants as cursor
use Rattle.page_token.specs.declared.cursor.ListCursor.{ListCursor}
use Rattle.page_token.specs.declared.cursor.ListKind.{ListKind}
use Rattle.share_book.specs.NamesView.{NamesView}
use Rattle.share_reply.specs.Bodies.{name_fields, name_items, names_data}
use Rattle.share_reply.specs.Listings.{page_data, token_behind}
use Rattle.share_reply.specs.Lists.{Listing, Names, last_given, list_cursor, names_behind, names_from, text_of}
use Rattle.share_reply.specs.Walks.{IsGathered, texts, texts_of}
use Rattle.share_reply.specs.declared.keys.ReplyKeys.{ReplyKeys}
use Rattle.share_reply.specs.declared.walk.Gathered.{Gathered}
use Rattle.share_reply.specs.declared.walk.Listed.{Listed}

-- one name more of an array
pub names_more : (k : ListKind) (share schema : List ℕ) (names : List Listed) (i : ℕ) (d : Listed) (done all : List Token) → i < length names
    → done ++ items_tokens (items_outline (name_items k share schema (texts (drop i names)))) ≡ all
    → (done ++ value_tokens (object_of (name_fields k share schema (texts_of (get_or names i d))))) ++ items_tokens (items_outline (name_items k share schema (texts (drop (i + 1) names)))) ≡ all
names_more k share schema names i d done all h e =
    append_assoc done (value_tokens (object_of (name_fields k share schema (texts_of (get_or names i d))))) (items_tokens (items_outline (name_items k share schema (texts (drop (i + 1) names)))))
    ∙ ap (λ n. done ++ (value_tokens (object_of (name_fields k share schema (texts_of (get_or names i d)))) ++ items_tokens (items_outline (name_items k share schema (texts (drop n names)))))) (add-one i)
    ∙ ap (λ (ns : List Listed). done ++ items_tokens (items_outline (name_items k share schema (texts ns)))) (sym (drop-cons names i d h)) ∙ e

-- the token of a page's next names
abbrev text_next : ReplyKeys → Option ListCursor → Option (List ℕ)
text_next keys next = option_map (λ c. token_text keys.token (cursor.List c)) next

behind : (keys : ReplyKeys) (recipient : List ℕ) (l : Listing) (after : List ℕ) (names : Names) (left : Bool)
    → cond left (Some (token_text keys.token (cursor.List (list_cursor recipient l (last_given names after))))) None
    ≡ text_next keys (cond left (Some (list_cursor recipient l (last_given names after))) None)
behind keys recipient l after names true = refl
behind keys recipient l after names false = refl

data_next : (keys : ReplyKeys) (k : ListKind) (share schema : List ℕ) (names : Names) (next : Option ListCursor)
    → page_data k share schema names (text_next keys next) ≡ names_data keys (record { kind = k; share = share; schema = schema; names = names; next = next })
data_next keys k share schema names None = refl
data_next keys k share schema names (Some c) = refl

-- what is gathered has the text of the page
pub page_is : (keys : ReplyKeys) (recipient : List ℕ) (seen : NamesView) (l : Listing) (after : List ℕ) (page : Gathered) → IsGathered l.most (names_behind seen l after) page
    → page_data l.kind l.share l.schema (texts page.names.items) (token_behind keys recipient l after page) ≡ names_data keys (names_from recipient seen l after)
page_is keys recipient seen l after page is =
    let all : Names = names_behind seen l after in
    ap (λ t. page_data l.kind l.share l.schema (texts page.names.items) t) (behind keys recipient l after (texts page.names.items) page.is_left)
    ∙ ap (λ (names : Names). page_data l.kind l.share l.schema names (text_next keys (cond page.is_left (Some (list_cursor recipient l (last_given names after))) None))) is.given
    ∙ ap (λ left. page_data l.kind l.share l.schema (take l.most all) (text_next keys (cond left (Some (list_cursor recipient l (last_given (take l.most all) after))) None))) is.left
    ∙ data_next keys l.kind l.share l.schema (take l.most all) (cond (nat_lt l.most (length all)) (Some (list_cursor recipient l (last_given (take l.most all) after))) None)

-- ---- the last name given

last_of : (front : List Listed) (x : Listed) (after : List ℕ) → last_given (texts (front ++ x ∷ [])) after ≡ text_of (texts_of x)
last_of [] x after = refl
last_of (y ∷ []) x after = refl
last_of (y ∷ z ∷ front) x after = last_of (z ∷ front) x after

pub last_is : (names : List Listed) (front : List Listed) (x : Listed) (after : List ℕ) → names ≡ front ++ x ∷ [] → last_given (texts names) after ≡ text_of (texts_of x)
last_is names front x after is = ap (λ (v : List Listed). last_given (texts v) after) is ∙ last_of front x after

pub none_given : (names : List Listed) (after : List ℕ) → length names ≡ 0 → last_given (texts names) after ≡ after
none_given [] after none = refl
none_given (x ∷ names) after none = absurd (omega (arith, none))
