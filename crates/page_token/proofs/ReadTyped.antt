-- What is read is in range, and its texts are UTF-8.
use Rattle.std.proofs.Common.{◌≡◌, ℕ, ◌+◌, ◌-◌, ◌*◌, ◌^◌, ◌<◌, List, [], ◌∷◌, Bool, true, false, cond, ltb, eqb, ◌&&◌, Option, Some, None, refl, subst, arith}
use Rattle.std.specs.Prelude.{ℤ, pos, negsuc, FitsSigned, IfSome}
use Rattle.std.specs.Int.{w128}
use Rattle.std.specs.Char.{is_ascii_digit}
use Rattle.std.specs.Str.{IsUtf8, is_utf8}
use Rattle.std.proofs.lemmas.Bool.{and_parts, ltb-true}
use Rattle.std.proofs.lemmas.Str.{IsUtf8-from_is_utf8}
use Rattle.page_token.specs.declared.cursor.ListKind.{ListKind}
use Rattle.page_token.specs.declared.cursor.ListKind.TheVariants as kind
use Rattle.page_token.specs.declared.cursor.Asked.{Asked}
use Rattle.page_token.specs.declared.cursor.Asked.TheVariants as asked
use Rattle.page_token.specs.declared.cursor.ListCursor.{ListCursor}
use Rattle.page_token.specs.declared.cursor.TableAccess.{TableAccess}
use Rattle.page_token.specs.declared.cursor.FilesCursor.{FilesCursor}
use Rattle.page_token.specs.declared.cursor.FeedCursor.{FeedCursor}
use Rattle.page_token.specs.declared.cursor.Cursor.{Cursor}
use Rattle.page_token.specs.declared.cursor.Cursor.TheVariants as cursor
use Rattle.page_token.specs.Payload.{IsAccessInRange, IsAccessValue, IsAskedInRange, IsAskedValue, IsFilesInRange, IsFeedInRange, IsInRange, IsListValue, IsFilesValue, IsFeedValue, IsValue}
use Rattle.json_tree.specs.Options.{◌>>=◌}
use Rattle.page_token.specs.Reading.{digits_after, digits_in, field_in, number_in, moment_of, asked_of, text_of, hint_of, list_in, access_in, files_in, feed_in, listing_in, by_first, cursor_in}

-- the steps of what was read
first_step : {A B : Type 0} (o : Option A) (f : A → Option B) (y : B) → (o >>= f) ≡ Some y → (x : A) × (o ≡ Some x) × (f x ≡ Some y)
first_step (Some x) f y e = (x, refl, e)
first_step None f y e = absurd cc

step : {A B P : Type 0} (o : Option A) (f : A → Option B) (y : B) → (o >>= f) ≡ Some y → ((x : A) → o ≡ Some x → f x ≡ Some y → P) → P
step (Some x) f y e then = then x refl e
step None f y e then = absurd cc

same : {A : Type 0} (x y : A) → Some x ≡ Some y → x ≡ y
same x y e = cc

cond_none : {A : Type 0} (b : Bool) (o : Option A) (y : A) → cond b o None ≡ Some y → (b ≡ true) × (o ≡ Some y)
cond_none true o y e = (refl, e)
cond_none false o y e = absurd cc

digits_below : (limit n k : ℕ) (ds : List ℕ) → n < limit → digits_after limit n ds ≡ Some k → k < limit
digits_below limit n k [] small e = subst (λ x. x < limit) (same n k e) small
digits_below limit n k (d ∷ ds) small e =
    let more = cond_none (is_ascii_digit d && ltb (n * 10 + (d - 48)) limit) (digits_after limit (n * 10 + (d - 48)) ds) k e in
    digits_below limit (n * 10 + (d - 48)) k ds (ltb-true _ _ (and_parts (is_ascii_digit d) (ltb (n * 10 + (d - 48)) limit) more.0).1) more.1

number_below : (bytes : List ℕ) (x : ℕ × List ℕ) → number_in bytes ≡ Some x → x.0 < 2 ^ 63
unfolding number_in
number_below bytes x e =
    let f = first_step (field_in bytes) _ x e in
    let n = first_step (digits_in (2 ^ 63) f.0.0) _ x f.2 in
    let below : n.0 < 2 ^ 63 = digits_below (2 ^ 63) 0 n.0 f.0.0 (omega arith) n.1 in
    subst (λ (y : ℕ × List ℕ). y.0 < 2 ^ 63) (same _ x n.2) below

text_utf8 : (bytes t : List ℕ) → text_of bytes ≡ Some t → IsUtf8 t
text_utf8 bytes t e =
    let found = cond_none (is_utf8 bytes) (Some bytes) t e in
    subst IsUtf8 (same bytes t found.1) (IsUtf8-from_is_utf8 bytes found.0)

hint_cond : (a b : Bool) (bs : List ℕ) (h : Option (List ℕ))
    → cond a (Some None) (cond b (text_of bs >>= λ t. Some (Some t)) None) ≡ Some h → IfSome h IsUtf8
hint_cond true b bs h e = subst (λ x. IfSome x IsUtf8) (same None h e) tt
hint_cond false b bs h e =
    let found = cond_none b (text_of bs >>= λ t. Some (Some t)) h e in
    let t = first_step (text_of bs) (λ t. Some (Some t)) h found.1 in
    subst (λ x. IfSome x IsUtf8) (same _ h t.2) (text_utf8 bs t.0 t.1)

hint_utf8 : (bytes : List ℕ) (h : Option (List ℕ)) → hint_of bytes ≡ Some h → IfSome h IsUtf8
unfolding hint_of
hint_utf8 [] h e = absurd cc
hint_utf8 (b ∷ bs) h e = hint_cond (eqb b 45) (eqb b 43) bs h e

abbrev IsTypedAsked : Asked → Type 0
IsTypedAsked a = IsAskedInRange a × IsAskedValue a

zero_cond : (b : Bool) (n : ℕ) (z : ℤ) → (b ≡ eqb n 0) → n < 2 ^ 127 + 1 → cond b None (Some (negsuc (n - 1))) ≡ Some z → FitsSigned w128 z
zero_cond true n z is small e = absurd cc
zero_cond false n z is small e = subst (FitsSigned w128) (same _ z e) (record { sfits = omega arith })

moment_cond : (b : Bool) (c : ℕ) (cs : List ℕ) (z : ℤ)
    → cond b (digits_in (2 ^ 127 + 1) cs >>= λ n. cond (eqb n 0) None (Some (negsuc (n - 1)))) (digits_in (2 ^ 127) (c ∷ cs) >>= λ n. Some (pos n)) ≡ Some z
    → FitsSigned w128 z
moment_cond true c cs z e =
    let n = first_step (digits_in (2 ^ 127 + 1) cs) _ z e in
    zero_cond (eqb n.0 0) n.0 z refl (digits_below (2 ^ 127 + 1) 0 n.0 cs (omega arith) n.1) n.2
moment_cond false c cs z e =
    let n = first_step (digits_in (2 ^ 127) (c ∷ cs)) _ z e in
    let below : n.0 < 2 ^ 127 = digits_below (2 ^ 127) 0 n.0 (c ∷ cs) (omega arith) n.1 in
    subst (FitsSigned w128) (same _ z n.2) (record { sfits = omega arith })

moment_fits : (bytes : List ℕ) (z : ℤ) → moment_of bytes ≡ Some z → FitsSigned w128 z
unfolding moment_of
moment_fits [] z e = absurd cc
moment_fits (c ∷ cs) z e = moment_cond (eqb c 45) c cs z e

asked_cond : (l v m : Bool) (bs : List ℕ) (a : Asked)
    → cond l (Some asked.Latest) (cond v (digits_in (2 ^ 63) bs >>= λ n. Some (asked.Version n)) (cond m (moment_of bs >>= λ z. Some (asked.Moment z)) None)) ≡ Some a
    → IsTypedAsked a
asked_cond true v m bs a e = subst IsTypedAsked (same _ a e) (tt, tt)
asked_cond false true m bs a e =
    let n = first_step (digits_in (2 ^ 63) bs) _ a e in
    subst IsTypedAsked (same _ a n.2) (digits_below (2 ^ 63) 0 n.0 bs (omega arith) n.1, tt)
asked_cond false false m bs a e =
    let found = cond_none m (moment_of bs >>= λ z. Some (asked.Moment z)) a e in
    let z = first_step (moment_of bs) _ a found.1 in
    subst IsTypedAsked (same _ a z.2) (tt, moment_fits bs z.0 z.1)

asked_typed : (bytes : List ℕ) (a : Asked) → asked_of bytes ≡ Some a → IsTypedAsked a
unfolding asked_of
asked_typed [] a e = absurd cc
asked_typed (b ∷ bs) a e = asked_cond (eqb b 108) (eqb b 118) (eqb b 109) bs a e

list_typed : (k : ListKind) (x : List ℕ) (c : ListCursor) → list_in k x ≡ Some c → IsListValue c
unfolding list_in
list_typed k x c e0 =
    step (field_in x) _ c e0 (λ r r-is e1.
    step (field_in r.1) _ c e1 (λ s s-is e2.
    step (field_in s.1) _ c e2 (λ d d-is e3.
    step (field_in d.1) _ c e3 (λ a a-is e4.
    step (text_of r.0) _ c e4 (λ rt rt-is e5.
    step (text_of s.0) _ c e5 (λ st st-is e6.
    step (text_of d.0) _ c e6 (λ dt dt-is e7.
    step (text_of a.0) _ c e7 (λ at at-is e8.
    subst IsListValue (same _ c e8) (text_utf8 _ rt rt-is, text_utf8 _ st st-is, text_utf8 _ dt dt-is, text_utf8 _ at at-is)))))))))

access_typed : (x : List ℕ) (a : TableAccess × List ℕ) → access_in x ≡ Some a → IsAccessValue a.0 × IsAccessInRange a.0
unfolding access_in
access_typed x a e0 =
    step (field_in x) _ a e0 (λ r r-is e1.
    step (field_in r.1) _ a e1 (λ s s-is e2.
    step (field_in s.1) _ a e2 (λ d d-is e3.
    step (field_in d.1) _ a e3 (λ t t-is e4.
    step (number_in t.1) _ a e4 (λ g g-is e5.
    step (number_in g.1) _ a e5 (λ b b-is e6.
    step (text_of r.0) _ a e6 (λ rt rt-is e7.
    step (text_of s.0) _ a e7 (λ st st-is e8.
    step (text_of d.0) _ a e8 (λ dt dt-is e9.
    step (text_of t.0) _ a e9 (λ bt bt-is e10.
    subst (λ (y : TableAccess × List ℕ). IsAccessValue y.0 × IsAccessInRange y.0) (same _ a e10) (
      (text_utf8 _ rt rt-is, text_utf8 _ st st-is, text_utf8 _ dt dt-is, text_utf8 _ bt bt-is),
      (number_below _ g g-is, number_below _ b b-is),
    )))))))))))

files_typed : (x : List ℕ) (c : FilesCursor) → files_in x ≡ Some c → IsFilesValue c × IsFilesInRange c
unfolding files_in
files_typed x c e0 =
    step (access_in x) _ c e0 (λ k k-is e1.
    step (field_in k.1) _ c e1 (λ a a-is e2.
    step (number_in a.1) _ c e2 (λ v v-is e3.
    step (field_in v.1) _ c e3 (λ h h-is e4.
    step (number_in h.1) _ c e4 (λ p p-is e5.
    step (hint_of h.0) _ c e5 (λ ht ht-is e6.
    step (asked_of a.0) _ c e6 (λ at at-is e7.
    let access = access_typed _ k k-is in
    subst (λ y. IsFilesValue y × IsFilesInRange y) (same _ c e7) (
      (access.0, (asked_typed _ at at-is).1, hint_utf8 _ ht ht-is),
      (access.1, (asked_typed _ at at-is).0, number_below _ v v-is, number_below _ p p-is),
    ))))))))

feed_typed : (x : List ℕ) (c : FeedCursor) → feed_in x ≡ Some c → IsFeedValue c × IsFeedInRange c
unfolding feed_in
feed_typed x c e0 =
    step (access_in x) _ c e0 (λ k k-is e1.
    step (field_in k.1) _ c e1 (λ a a-is e2.
    step (field_in a.1) _ c e2 (λ l l-is e3.
    step (number_in l.1) _ c e3 (λ v v-is e4.
    step (number_in v.1) _ c e4 (λ w w-is e5.
    step (number_in w.1) _ c e5 (λ p p-is e6.
    step (asked_of a.0) _ c e6 (λ at at-is e7.
    step (asked_of l.0) _ c e7 (λ lt lt-is e8.
    let access = access_typed _ k k-is in
    subst (λ y. IsFeedValue y × IsFeedInRange y) (same _ c e8) (
      (access.0, (asked_typed _ at at-is).1, (asked_typed _ lt lt-is).1),
      (access.1, (asked_typed _ at at-is).0, (asked_typed _ lt lt-is).0, number_below _ v v-is, number_below _ w w-is, number_below _ p p-is),
    )))))))))

abbrev IsTyped : Cursor → Type 0
IsTyped c = IsValue c × IsInRange c

listing_typed : (k : ListKind) (x : List ℕ) (c : Cursor) → listing_in k x ≡ Some c → IsTyped c
listing_typed k x c e =
    let l = first_step (list_in k x) _ c e in
    subst IsTyped (same _ c l.2) (list_typed k x l.0 l.1, tt)

last_kinds : (q f : Bool) (x : List ℕ) (c : Cursor)
    → cond q (files_in x >>= λ y. Some (cursor.Files y)) (cond f (feed_in x >>= λ y. Some (cursor.Feed y)) None) ≡ Some c → IsTyped c
last_kinds true f x c e = let y = first_step (files_in x) _ c e in subst IsTyped (same _ c y.2) (files_typed x y.0 y.1)
last_kinds false f x c e =
    let found = cond_none f (feed_in x >>= λ y. Some (cursor.Feed y)) c e in
    let y = first_step (feed_in x) _ c found.1 in
    subst IsTyped (same _ c y.2) (feed_typed x y.0 y.1)

or_listing : (b : Bool) (k : ListKind) (x : List ℕ) (c : Cursor) (o : Option Cursor) → (o ≡ Some c → IsTyped c) → cond b (listing_in k x) o ≡ Some c → IsTyped c
or_listing true k x c o other e = listing_typed k x c e
or_listing false k x c o other e = other e

first_typed : (bytes x : List ℕ) (c : Cursor) → by_first bytes x ≡ Some c → IsTyped c
unfolding by_first
first_typed [] x c e = absurd cc
first_typed (b ∷ bs) x c e =
    or_listing (eqb b 115) kind.Shares x c _ (or_listing (eqb b 99) kind.Schemas x c _ (or_listing (eqb b 116) kind.Tables x c _
    (or_listing (eqb b 97) kind.AllTables x c _ (last_kinds (eqb b 113) (eqb b 102) x c)))) e

pub read_typed : (payload : List ℕ) (c : Cursor) → cursor_in payload ≡ Some c → IsValue c × IsInRange c
unfolding cursor_in
read_typed payload c e = let first = first_step (field_in payload) _ c e in first_typed first.0.0 first.0.1 c first.2
