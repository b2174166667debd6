-- A text put into an object without floats.
use Rattle.std.proofs.Common.{◌≡◌, List, ℕ, Bool, true, false, ◌||◌, Result, Ok, Err, String, BTreeMap, Global, string_bytes, string_cmp, codes, IfOk, refl, ap, subst, rules, ◌∙◌}
use Rattle.std.specs.BTreeMap.{insert_entry}
use Rattle.std.specs.Ordering.{nat_cmp, match_ordering}
use Rattle.std.specs.Cmp.Lexicographic.{slice_cmp}
use Rattle.std.specs.declared.cmp.Ordering.{Ordering}
use Rattle.std.specs.declared.cmp.Ordering.TheVariants.{Less, Equal, Greater}
use Rattle.serde_json.specs.Data.{object, string, Members, no_members, member, put}
use Rattle.serde_json.specs.View.{view, members_view}
use Rattle.serde_json.specs.Written.{compact_text, has_float, members_have_float}
use Rattle.serde_json.specs.declared.value.Value.{Value, Object, the_lemmas}
use Rattle.serde_json.proofs.Views.{Entry, view-Object, members_view-insert_entry}
use Rattle.edge_core.proofs.Basics.{neither, not_true}
use Rattle.share_client.specs.Bodies.{is_query}

each_order : (o : Ordering) (a b c : Members) → members_have_float a ≡ false → members_have_float b ≡ false → members_have_float c ≡ false
    → members_have_float (match_ordering o a b c) ≡ false
each_order Less a b c x y z = x
each_order Equal a b c x y z = y
each_order Greater a b c x y z = z

behind : (a b : Bool) → a ≡ false → b ≡ false → (a || b) ≡ false
behind a b x y = ap (λ t. t || b) x ∙ y

pub put_text : (name text : List ℕ) (ms : Members) → members_have_float ms ≡ false → members_have_float (put name (string text) ms) ≡ false
put_text name text no_members none = refl
put_text name text (member l d ms) none =
    let parts = neither (has_float d) (members_have_float ms) none in
    each_order (slice_cmp nat_cmp name l) (member name (string text) (member l d ms)) (member l (string text) ms) (member l d (put name (string text) ms))
    none parts.1 (behind (has_float d) _ parts.0 (put_text name text ms parts.1))

-- an object that is a query's has no float
pub members_plain : (m : BTreeMap (String Global) Value) → is_query (view (Object m)) ≡ true → members_have_float (members_view m.entries) ≡ false
members_plain m query = not_true (members_have_float (members_view m.entries)) (subst (λ d. is_query d ≡ true) (view-Object m) query)

view-String : (s : String Global) → view (Value.String s) ≡ string (string_bytes s)
view-String s = search (rules, the_lemmas)

-- what is printed of an object without floats into which a text was put
pub printed_with : {E : Type 0} (r : Result (String Global) E) (m : BTreeMap (String Global) Value) (es : List Entry) (k s : String Global) (token : List ℕ)
    → m.entries ≡ insert_entry string_cmp es k (Value.String s) → string_bytes k ≡ codes "pageToken" → string_bytes s ≡ token
    → members_have_float (members_view es) ≡ false
    → IfOk r (λ t. has_float (view (Object m)) ≡ false → string_bytes t ≡ compact_text (view (Object m)))
    → IfOk r (λ t. string_bytes t ≡ compact_text (object (put (codes "pageToken") (string token) (members_view es))))
printed_with (Err e) m es k s token is named text plain prints = tt
printed_with (Ok t) m es k s token is named text plain prints =
    let e : view (Object m) ≡ object (put (codes "pageToken") (string token) (members_view es)) =
    view-Object m ∙ ap (λ entries. object (members_view entries)) is ∙ ap object (members_view-insert_entry es k (Value.String s))
    ∙ ap (λ name. object (put name (view (Value.String s)) (members_view es))) named
    ∙ ap (λ d. object (put (codes "pageToken") d (members_view es))) (view-String s ∙ ap string text) in
    prints (ap has_float e ∙ put_text (codes "pageToken") token (members_view es) plain) ∙ ap compact_text e
