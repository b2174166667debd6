-- The record of an edit is read as the edit.
use Rattle.std.proofs.Common.{◌≡◌, ℕ, suc, ◌<◌, ◌≤◌, ◌^◌, ◌+◌, ◌-◌, List, [], ◌∷◌, ◌++◌, Bool, true, cond, Option, Some, None, Result, Ok, option_map, option_and_then, refl, sym, ap, ◌∙◌, subst, arith, codes, length, take, length-append, bytes_eq, IsUtf8, IfSome, lt-ltb}
use Rattle.std.specs.Prelude.{slice_get}
use Rattle.serde_json.specs.Data.{Data, depth, string}
use Rattle.serde_json.specs.Read.{read, max_depth}
use Rattle.serde_json.specs.Written.{compact_text}
use Rattle.hex.specs.Hex.{decode_sized, encode_lower}
use Rattle.hex.proofs.HexLemmas.{decode_sized-encode_lower}
use Rattle.json_tree.specs.Fields.{present}
use Rattle.json_tree.specs.Tree.{of_read, tree_in}
use Rattle.json_tree.proofs.Trees.{text_yes}
use Rattle.json_print.specs.Fields.{object_of, ascend}
use Rattle.json_print.specs.Values.{count_value}
use Rattle.json_print.proofs.RoundTrip.{read-compact_text}
use Rattle.json_print.proofs.Plainness.{ArePlainTo, IsPlainTo, plain-object_of, plain-text_or_none}
use Rattle.std.proofs.lemmas.Slice.Eq.{bytes_eq-Decides}
use Rattle.std.proofs.Math.Seq.{take-append_seam}
use Rattle.share_catalog.specs.Grammar.{is_catalog_name}
use Rattle.share_catalog.specs.Restrictions.{is_restriction}
use Rattle.share_catalog.specs.declared.credential.Credential.{Credential}
use Rattle.share_catalog.specs.declared.table_name.TableName.{TableName}
use Rattle.share_catalog.specs.declared.edit.Binding.{Binding}
use Rattle.share_catalog.specs.declared.edit.Edit.{Edit}
use Rattle.share_catalog.specs.declared.edit.Edit.TheVariants as edit
use Rattle.catalog_log.specs.Printing.{Kept, KeptBinding, KeptCredential, KeptLocation, KeptRestriction, KeptTable, bind_fields, edit_data, edit_fields, expiry_value, kind_name, record_data, record_line, record_text, recipient_fields, table_fields}
use Rattle.json_tree.specs.Options.{◌>>=◌}
use Rattle.catalog_log.specs.Reading.{binding_in, credential_in, digest_of, edit_by, expiry_of, is_location_text, name_in, natural, passing, same_digits, table_in, text_in}
use Rattle.catalog_log.specs.Records.{is_line_feed, of_tree, or_bad, record_in, without_line_feed}
use Rattle.catalog_log.specs.declared.version.RecordVersion.TheVariants as version

-- ---- the fields

passes : {X : Type 0} (test : X → Bool) (t : X) → test t ≡ true → passing test t ≡ Some t
passes test t e = ap (λ b. cond b (Some t) None) e

chain1 : {X Y : Type 0} (a : Option X) (x : X) (f : X → Option Y) → a ≡ Some x → (a >>= f) ≡ f x
chain1 a x f e = ap (λ o. o >>= f) e

chain2 : {X Y Z : Type 0} (a : Option X) (b : Option Y) (x : X) (y : Y) (f : X → Y → Option Z) → a ≡ Some x → b ≡ Some y → (a >>= λ s. b >>= λ t. f s t) ≡ f x y
chain2 a b x y f p q = rw (p, q) refl

chain3 : {X Y Z W : Type 0} (a : Option X) (b : Option Y) (c : Option Z) (x : X) (y : Y) (z : Z) (f : X → Y → Z → Option W) → a ≡ Some x → b ≡ Some y → c ≡ Some z
    → (a >>= λ s. b >>= λ t. c >>= λ u. f s t u) ≡ f x y z
chain3 a b c x y z f p q r = rw (p, q, r) refl

bytes_refl : (x : List ℕ) → bytes_eq x x ≡ true
bytes_refl x = (bytes_eq-Decides x x).1 refl

digest_back : (bytes : List ℕ) → decode_sized (encode_lower bytes) 32 ≡ Ok bytes → digest_of (encode_lower bytes) ≡ Some bytes
digest_back bytes e = ap (same_digits (encode_lower bytes)) e ∙ ap (λ b. cond b (Some bytes) None) (bytes_refl (encode_lower bytes))

natural_back : (n : ℕ) → n < 2 ^ 63 → natural (count_value n) ≡ Some n
natural_back n small = rw (lt-ltb n (2 ^ 63) small) refl

expiry_back : (digest : List ℕ) (name : List ℕ) (o : Option ℕ) → IfSome o (λ n. n < 2 ^ 63) → expiry_of (present (codes "expires") (object_of ((codes "digest", Some (string digest)) ∷ (codes "expires", Some (expiry_value o)) ∷ (codes "name", Some (string name)) ∷ []))) ≡ Some o
expiry_back digest name None small = refl
expiry_back digest name (Some n) small = ap (option_map Some) (natural_back n small)

credential_back : (name : List ℕ) (c : Credential) → KeptCredential c → credential_in (object_of (recipient_fields name c)) ≡ Some c
credential_back name c k =
    chain2 (digest_of (encode_lower c.digest)) (expiry_of (present (codes "expires") (object_of (recipient_fields name c)))) c.digest c.expires (λ d e. Some (record { digest = d; expires = e }))
    (digest_back c.digest (decode_sized-encode_lower c.digest 32 k.long k.bytes)) (expiry_back (encode_lower c.digest) name c.expires k.expires)

name_back : (field : List ℕ) (d : Data) (n : List ℕ) → is_catalog_name n ≡ true → text_in field d ≡ Some n → name_in field d ≡ Some n
name_back field d n k e = ap (λ o. o >>= passing is_catalog_name) e ∙ passes is_catalog_name n k

table_back : (d : Data) (t : TableName) → KeptTable t → text_in (codes "share") d ≡ Some t.share → text_in (codes "schema") d ≡ Some t.schema → text_in (codes "table") d ≡ Some t.table → table_in d ≡ Some t
table_back d t k share schema table =
    chain3 (name_in (codes "share") d) (name_in (codes "schema") d) (name_in (codes "table") d) t.share t.schema t.table (λ a b c. Some (record { share = a; schema = b; table = c }))
    (name_back (codes "share") d t.share k.share share) (name_back (codes "schema") d t.schema k.schema schema) (name_back (codes "table") d t.table k.table table)

abbrev bound : Bool → ℕ → Option (List ℕ) → List ℕ → Binding
bound history first only location = record { history = history; first = first; only = only; location = location }

-- a restriction that isn't there is left out, so what stands behind it is looked up by cases
bound_table_back : (t : TableName) (history : Bool) (first : ℕ) (only : Option (List ℕ)) (location : List ℕ) → KeptTable t → table_in (object_of (bind_fields t (bound history first only location))) ≡ Some t
bound_table_back t history first None location k = table_back (object_of (bind_fields t (bound history first None location))) t k refl refl refl
bound_table_back t history first (Some s) location k = table_back (object_of (bind_fields t (bound history first (Some s) location))) t k refl refl refl

bound_back : (t : TableName) (history : Bool) (first : ℕ) (only : Option (List ℕ)) (location : List ℕ) → first < 2 ^ 63 → IfSome only KeptRestriction → KeptLocation location
    → binding_in version.Two (object_of (bind_fields t (bound history first only location))) ≡ Some (bound history first only location)
bound_back t history first None location small kept at =
    chain2 (natural (count_value first)) (passing is_location_text location) first location (λ f l. Some (bound history f None l)) (natural_back first small) (passes is_location_text location at)
bound_back t history first (Some s) location small kept at =
    chain3 (natural (count_value first)) (option_map Some (passing is_restriction s)) (passing is_location_text location) first (Some s) location (λ f o l. Some (bound history f o l))
    (natural_back first small) (ap (option_map Some) (passes is_restriction s kept)) (passes is_location_text location at)

binding_back : (t : TableName) (b : Binding) → KeptBinding b → binding_in version.Two (object_of (bind_fields t b)) ≡ Some b
binding_back t b k = bound_back t b.history b.first b.only b.location k.first k.only k.location

-- ---- the edit

edit_back : (e : Edit) → Kept e → edit_by version.Two (edit_data e) ≡ Some e
edit_back (edit.NewShare n) k = chain1 (passing is_catalog_name n) n (λ n. Some (edit.NewShare n)) (passes is_catalog_name n k)
edit_back (edit.DropShare n) k = chain1 (passing is_catalog_name n) n (λ n. Some (edit.DropShare n)) (passes is_catalog_name n k)
edit_back (edit.Bind t b) k = chain2 (table_in (object_of (bind_fields t b))) (binding_in version.Two (object_of (bind_fields t b))) t b (λ t b. Some (edit.Bind t b)) (bound_table_back t b.history b.first b.only b.location k.0) (binding_back t b k.1)
edit_back (edit.Unbind t) k = chain1 (table_in (object_of (table_fields t))) t (λ t. Some (edit.Unbind t)) (table_back (object_of (table_fields t)) t k refl refl refl)
edit_back (edit.NewRecipient n c) k = chain2 (passing is_catalog_name n) (credential_in (object_of (recipient_fields n c))) n c (λ n c. Some (edit.NewRecipient n c)) (passes is_catalog_name n k.0) (credential_back n c k.1)
edit_back (edit.Rotate n c) k = chain2 (passing is_catalog_name n) (credential_in (object_of (recipient_fields n c))) n c (λ n c. Some (edit.Rotate n c)) (passes is_catalog_name n k.0) (credential_back n c k.1)
edit_back (edit.DropRecipient n) k = chain1 (passing is_catalog_name n) n (λ n. Some (edit.DropRecipient n)) (passes is_catalog_name n k)
edit_back (edit.Grant r s) k = chain2 (passing is_catalog_name r) (passing is_catalog_name s) r s (λ r s. Some (edit.Grant r s)) (passes is_catalog_name r k.0) (passes is_catalog_name s k.1)
edit_back (edit.Revoke r s) k = chain2 (passing is_catalog_name r) (passing is_catalog_name s) r s (λ r s. Some (edit.Revoke r s)) (passes is_catalog_name r k.0) (passes is_catalog_name s k.1)

-- ---- plain data

expiry_plain : (o : Option ℕ) → IfSome o (λ n. n < 2 ^ 63) → IsPlainTo 2 (expiry_value o)
expiry_plain None small = (tt, omega arith)
expiry_plain (Some n) small = let low : n < 2 ^ 63 = small in (omega arith, omega arith)

text_plain : (s : List ℕ) → IsPlainTo 2 (string s)
text_plain s = (tt, omega arith)

fields_plain : (e : Edit) → Kept e → ArePlainTo 2 (edit_fields e)
fields_plain (edit.NewShare n) k = (text_plain n, tt)
fields_plain (edit.DropShare n) k = (text_plain n, tt)
fields_plain (edit.Bind t b) k =
    let low : b.first < 2 ^ 63 = k.1.first in
    ((omega arith, omega arith), ((tt, omega arith), (text_plain b.location, (plain-text_or_none 2 b.only, (text_plain t.schema, (text_plain t.share, (text_plain t.table, tt)))))))
fields_plain (edit.Unbind t) k = (text_plain t.schema, (text_plain t.share, (text_plain t.table, tt)))
fields_plain (edit.NewRecipient n c) k = (text_plain (encode_lower c.digest), (expiry_plain c.expires k.1.expires, (text_plain n, tt)))
fields_plain (edit.Rotate n c) k = (text_plain (encode_lower c.digest), (expiry_plain c.expires k.1.expires, (text_plain n, tt)))
fields_plain (edit.DropRecipient n) k = (text_plain n, tt)
fields_plain (edit.Grant r s) k = (text_plain r, (text_plain s, tt))
fields_plain (edit.Revoke r s) k = (text_plain r, (text_plain s, tt))

fields_ascend : (e : Edit) → ascend (edit_fields e) ≡ true
fields_ascend (edit.NewShare n) = refl
fields_ascend (edit.DropShare n) = refl
fields_ascend (edit.Bind t b) = refl
fields_ascend (edit.Unbind t) = refl
fields_ascend (edit.NewRecipient n c) = refl
fields_ascend (edit.Rotate n c) = refl
fields_ascend (edit.DropRecipient n) = refl
fields_ascend (edit.Grant r s) = refl
fields_ascend (edit.Revoke r s) = refl

record_plain : (e : Edit) → Kept e → IsPlainTo 5 (record_data e)
record_plain e k = plain-object_of 4 ((codes "edit", Some (edit_data e)) ∷ (codes "version", Some (count_value 2)) ∷ []) refl
    (plain-object_of 3 ((kind_name e, Some (object_of (edit_fields e))) ∷ []) refl (plain-object_of 2 (edit_fields e) (fields_ascend e) (fields_plain e k), tt), ((omega arith, omega arith), tt))

-- ---- the text

last_is : (t : List ℕ) → slice_get (t ++ 10 ∷ []) (length t) ≡ Some 10
last_is [] = refl
last_is (x ∷ t) = last_is t

one_less : (t : List ℕ) → length (t ++ 10 ∷ []) - 1 ≡ length t
one_less t = let e = length-append t (10 ∷ []) in omega arith

pub line_feed_gone : (t : List ℕ) → without_line_feed (t ++ 10 ∷ []) ≡ t
line_feed_gone t =
    ap (λ n. cond (is_line_feed (slice_get (t ++ 10 ∷ []) n)) (take n (t ++ 10 ∷ [])) (t ++ 10 ∷ [])) (one_less t)
    ∙ ap (λ o. cond (is_line_feed o) (take (length t) (t ++ 10 ∷ [])) (t ++ 10 ∷ [])) (last_is t)
    ∙ take-append_seam t (10 ∷ [])

line_read : (e : Edit) → Kept e → IsUtf8 (record_line e) → tree_in (record_line e) ≡ Ok (record_data e)
unfolding record_line
line_read e k u =
    let plain = record_plain e k in
    let shallow : depth (record_data e) ≤ max_depth = (let b : depth (record_data e) ≤ 5 = plain.1 in omega arith) in
    text_yes (compact_text (record_data e)) u ∙ ap of_read (read-compact_text (record_data e) plain.0 shallow)

pub record_back : (e : Edit) → Kept e → IsUtf8 (record_line e) → record_in (record_text e) ≡ Ok e
record_back e k u =
    ap (λ t. of_tree (tree_in t)) (line_feed_gone (record_line e)) ∙ ap of_tree (line_read e k u) ∙ ap or_bad (edit_back e k)
