-- The one spelling of links.
use Rattle.std.proofs.Common.{◌≡◌, ◌≢◌, ℕ, List, [], ◌∷◌, ◌++◌, Bool, true, false, cond, eqb, All, Option, Some, None, ◌&&◌, not, refl, ap, sym, subst, ◌∙◌, append_assoc, arith}
use Rattle.std.specs.Prelude.{IsTrue, codes, option_and_then, option_map, unwrap_or}
use Rattle.std.specs.List.{after_first, before_first, list_all}
use Rattle.std.specs.Fmt.{decimal}
use Rattle.std.proofs.lemmas.Bool.{agree_below, agree_below_at, and_parts, cond-true}
use Rattle.std.proofs.lemmas.Bool.Decides.{nat_tests}
use Rattle.std.proofs.lemmas.List.Elements.{All-cons, All-drop, All-nil, All-take, All-append}
use Rattle.hmac_core.proofs.Bytes.{utf8_bytes}
use Rattle.case_table.specs.declared.routing.Method.TheVariants as method
use Rattle.http_message.specs.declared.head.Head.{Head}
use Rattle.percent_encoding.specs.Percent.{percent_decode}
use Rattle.percent_encoding.proofs.PercentLemmas.{All-percent_decode, IsByte}
use Rattle.share_catalog.specs.Grammar.{is_name_byte, is_catalog_name}
use Rattle.signed_link.specs.declared.parts.LinkParts.{LinkParts}
use Rattle.text_forms.specs.Escape.{escaped, escaped_byte, is_unreserved}
use Rattle.text_forms.proofs.Escapes.{free_of_slash, percent_decode-escaped}
use Rattle.signed_link.specs.Link.{query, tag_text, unsigned, IsValue}
use Rattle.signed_link.specs.Reading.{after, cut}
use Rattle.signed_link.proofs.Cuts.{cut_again}
use Rattle.signed_link.proofs.Escapes as link
use Rattle.signed_link.proofs.PartsOf.{same_two}
use Rattle.share_request.specs.Laws.{LinksAreRead, OneSpelling, SpellingKeepsNames, names_and_path}
use Rattle.share_request.specs.Requests.{has_method, link_request, request_in}
use Rattle.share_request.specs.Targets.{link_parts, link_target, one_spelling, parts_spelling, path_spelling, query_text, split_query}

abbrev Four : Type 0
Four = List ℕ × List ℕ × List ℕ × List ℕ

-- ---- targets with the same parts

spelt_by : (below : List ℕ) (o : Option Four) (parts : Four)
    → option_map (λ (p : Four). (percent_decode p.0, percent_decode p.1, percent_decode p.2, percent_decode p.3)) o ≡ Some parts
    → parts_spelling below o ≡ (escaped parts.0 ++ codes "/") ++ ((escaped parts.1 ++ codes "/") ++ ((escaped parts.2 ++ codes "/") ++ escaped parts.3))
spelt_by below None parts e = absurd cc
spelt_by below (Some p) parts e =
    let decoded : Four = (percent_decode p.0, percent_decode p.1, percent_decode p.2, percent_decode p.3) in
    let same : decoded ≡ parts = ap (λ o. unwrap_or o decoded) e in
    ap (λ (q : Four). (escaped q.0 ++ codes "/") ++ ((escaped q.1 ++ codes "/") ++ ((escaped q.2 ++ codes "/") ++ escaped q.3))) same

pub one_spelling_of_links : OneSpelling
one_spelling_of_links below other query parts e f =
    ap (λ path. codes "/delta-sharing/files/" ++ path ++ query_text query) (spelt_by below (link_parts below) parts e ∙ sym (spelt_by other (link_parts other) parts f))

-- ---- the one spelling says the same

regrouped : (a b c d : List ℕ) → (a ++ codes "/") ++ ((b ++ codes "/") ++ ((c ++ codes "/") ++ d)) ≡ a ++ 47 ∷ (b ++ 47 ∷ (c ++ 47 ∷ d))
regrouped a b c d = simp append_assoc

parts_again : (a b c d : List ℕ) → All (λ x. x ≢ 47) a → All (λ x. x ≢ 47) b → All (λ x. x ≢ 47) c
    → link_parts ((a ++ codes "/") ++ ((b ++ codes "/") ++ ((c ++ codes "/") ++ d))) ≡ Some (a, b, c, d)
parts_again a b c d free_a free_b free_c =
    ap link_parts (regrouped a b c d)
    ∙ rw (cut_again 47 a (b ++ 47 ∷ (c ++ 47 ∷ d)) free_a, cut_again 47 b (c ++ 47 ∷ d) free_b, cut_again 47 c d free_c) refl

cut_by : (P : ℕ → Type 0) (c : ℕ) (text f r : List ℕ) (test : Bool)
    → cond {A = Option (List ℕ × List ℕ)} test (Some (before_first (λ b. eqb b c) text, after_first (λ b. eqb b c) text)) None ≡ Some (f, r) → All P text → All P f × All P r
cut_by P c text f r true e all =
    let pair = same_two _ f _ r e in
    (subst (All P) pair.0 (All-take P _ text all), subst (All P) pair.1 (All-drop P _ text all))
cut_by P c text f r false e all = absurd cc

cut_all : (P : ℕ → Type 0) (c : ℕ) (text f r : List ℕ) → cut c text ≡ Some (f, r) → All P text → All P f × All P r
unfolding cut
cut_all P c text f r e all = cut_by P c text f r _ e all

-- the parts of bytes are bytes
pub record AreBytes (p : Four) : Type 0 where
  pub share : All IsByte p.0
  pub schema : All IsByte p.1
  pub table : All IsByte p.2
  pub path : All IsByte p.3

table_bytes : (share schema : List ℕ) (c : Option (List ℕ × List ℕ)) (rest : List ℕ) (p : Four) → cut 47 rest ≡ c
    → option_and_then (λ table. Some (share, schema, table.0, table.1)) c ≡ Some p → All IsByte share → All IsByte schema → All IsByte rest → AreBytes p
table_bytes share schema None rest p is e b0 b1 all = absurd cc
table_bytes share schema (Some c) rest p is e b0 b1 all =
    let parts = cut_all IsByte 47 rest c.0 c.1 is all in
    let found : Four = (share, schema, c.0, c.1) in
    let same : found ≡ p = ap (λ o. unwrap_or o found) e in
    subst AreBytes same (record { share = b0; schema = b1; table = parts.0; path = parts.1 })

schema_bytes : (share : List ℕ) (c : Option (List ℕ × List ℕ)) (rest : List ℕ) (p : Four) → cut 47 rest ≡ c
    → option_and_then (λ schema. option_and_then (λ table. Some (share, schema.0, table.0, table.1)) (cut 47 schema.1)) c ≡ Some p → All IsByte share → All IsByte rest → AreBytes p
schema_bytes share None rest p is e b0 all = absurd cc
schema_bytes share (Some c) rest p is e b0 all =
    let parts = cut_all IsByte 47 rest c.0 c.1 is all in
    table_bytes share c.0 (cut 47 c.1) c.1 p refl e b0 parts.0 parts.1

share_bytes : (c : Option (List ℕ × List ℕ)) (below : List ℕ) (p : Four) → cut 47 below ≡ c
    → option_and_then (λ share. option_and_then (λ schema. option_and_then (λ table. Some (share.0, schema.0, table.0, table.1)) (cut 47 schema.1)) (cut 47 share.1)) c ≡ Some p → All IsByte below → AreBytes p
share_bytes None below p is e all = absurd cc
share_bytes (Some c) below p is e all =
    let parts = cut_all IsByte 47 below c.0 c.1 is all in
    schema_bytes c.0 (cut 47 c.1) c.1 p refl e parts.0 parts.1

keeps_by : (below : List ℕ) (o : Option Four) → link_parts below ≡ o → All IsByte below
    → names_and_path (parts_spelling below o) ≡ option_map (λ (p : Four). (percent_decode p.0, percent_decode p.1, percent_decode p.2, percent_decode p.3)) o
keeps_by below None is all = ap (option_map (λ (p : Four). (percent_decode p.0, percent_decode p.1, percent_decode p.2, percent_decode p.3))) is
keeps_by below (Some p) is all =
    let bytes = share_bytes (cut 47 below) below p refl is all in
    let d0 = All-percent_decode p.0 bytes.share in
    let d1 = All-percent_decode p.1 bytes.schema in
    let d2 = All-percent_decode p.2 bytes.table in
    let d3 = All-percent_decode p.3 bytes.path in
    ap (option_map (λ (p : Four). (percent_decode p.0, percent_decode p.1, percent_decode p.2, percent_decode p.3)))
    (parts_again (escaped (percent_decode p.0)) (escaped (percent_decode p.1)) (escaped (percent_decode p.2)) (escaped (percent_decode p.3))
    (free_of_slash (percent_decode p.0) d0) (free_of_slash (percent_decode p.1) d1) (free_of_slash (percent_decode p.2) d2))
    ∙ rw (percent_decode-escaped (percent_decode p.0) d0, percent_decode-escaped (percent_decode p.1) d1, percent_decode-escaped (percent_decode p.2) d2, percent_decode-escaped (percent_decode p.3) d3) refl

pub spelling_keeps_names : SpellingKeepsNames
spelling_keeps_names below all = keeps_by below (link_parts below) refl all

-- ---- links keep their spelling

other_byte : (b c : ℕ) → is_name_byte b ≡ true → is_name_byte c ≡ false → b ≢ c
other_byte b c good bad same =
    let also : is_name_byte c ≡ true = subst (λ x. is_name_byte x ≡ true) same good in
    absurd cc

bytes_free : (name : List ℕ) (c : ℕ) → is_name_byte c ≡ false → list_all is_name_byte name ≡ true → All (λ b. b ≢ c) name
bytes_free [] c bad all = All-nil (λ b. b ≢ c)
bytes_free (b ∷ bs) c bad all =
    let parts = and_parts (is_name_byte b) (list_all is_name_byte bs) all in
    All-cons (λ x. x ≢ c) b bs (other_byte b c parts.0 bad) (bytes_free bs c bad parts.1)

name_bytes : (name : List ℕ) → IsTrue (is_catalog_name name) → list_all is_name_byte name ≡ true
name_bytes name good = (and_parts _ _ (and_parts _ _ good).1).1

set_within : agree_below (λ b. is_name_byte b && not (is_unreserved b)) (λ b. false) 256 ≡ true
set_within = refl

second_true : (x y : Bool) → x ≡ true → (x && not y) ≡ false → y ≡ true
second_true x true is e = refl
second_true true false is e = absurd cc
second_true false false is e = absurd cc

small_byte : (b : ℕ) → is_name_byte b ≡ true → IsByte b
small_byte b h = grind (arith, nat_tests)

unreserved : (b : ℕ) → is_name_byte b ≡ true → is_unreserved b ≡ true
unreserved b h = second_true (is_name_byte b) (is_unreserved b) h (agree_below_at (λ x. is_name_byte x && not (is_unreserved x)) (λ x. false) 256 b set_within (small_byte b h))

kept : (name : List ℕ) → list_all is_name_byte name ≡ true → escaped name ≡ name
unfolding escaped
kept [] all = refl
kept (b ∷ bs) all =
    let parts = and_parts (is_name_byte b) (list_all is_name_byte bs) all in
    let first : escaped_byte b ≡ b ∷ [] = cond-true (is_unreserved b) (b ∷ []) _ (unreserved b parts.0) in
    ap (λ x. x ++ escaped bs) first ∙ ap (λ x. b ∷ x) (kept bs parts.1)

all_small : (name : List ℕ) → list_all is_name_byte name ≡ true → All IsByte name
all_small [] all = All-nil IsByte
all_small (b ∷ bs) all =
    let parts = and_parts (is_name_byte b) (list_all is_name_byte bs) all in
    All-cons IsByte b bs (small_byte b parts.0) (all_small bs parts.1)

-- a name is its own spelling
name_kept : (name : List ℕ) → IsTrue (is_catalog_name name) → one_spelling name ≡ name
name_kept name good =
    let all = name_bytes name good in
    let decoded : percent_decode name ≡ name = ap percent_decode (sym (kept name all)) ∙ percent_decode-escaped name (all_small name all) in
    ap escaped decoded ∙ kept name all

path_kept : (path : List ℕ) → All IsByte path → one_spelling (escaped path) ≡ escaped path
path_kept path small = ap escaped (percent_decode-escaped path small)

-- what stands below `files/` of a link keeps its spelling
below_kept : (p : LinkParts) → IsValue p
    → path_spelling (p.table.share ++ 47 ∷ (p.table.schema ++ 47 ∷ (p.table.table ++ 47 ∷ escaped p.path)))
    ≡ p.table.share ++ 47 ∷ (p.table.schema ++ 47 ∷ (p.table.table ++ 47 ∷ escaped p.path))
below_kept p value =
    let share = p.table.share in
    let schema = p.table.schema in
    let table = p.table.table in
    let path = escaped p.path in
    let below = share ++ 47 ∷ (schema ++ 47 ∷ (table ++ 47 ∷ path)) in
    let cut_is : link_parts below ≡ Some (share, schema, table, path) =
    rw (
      cut_again 47 share (schema ++ 47 ∷ (table ++ 47 ∷ path)) (bytes_free share 47 refl (name_bytes share value.table.share)),
      cut_again 47 schema (table ++ 47 ∷ path) (bytes_free schema 47 refl (name_bytes schema value.table.schema)),
      cut_again 47 table path (bytes_free table 47 refl (name_bytes table value.table.table)),
    ) refl in
    ap (parts_spelling below) cut_is
    ∙ rw (name_kept share value.table.share, name_kept schema value.table.schema, name_kept table value.table.table, path_kept p.path (utf8_bytes p.path value.path)) refl
    ∙ regrouped share schema table path

-- the parts of a link's text, its path before the query
link_regrouped : (d f s share schema table path b0 b e0 e g0 g r0 r tag : List ℕ)
    → d ++ (f ++ s ++ share ++ s ++ schema ++ s ++ table ++ s ++ path ++ (b0 ++ b ++ e0 ++ e ++ g0 ++ g ++ r0 ++ r) ++ tag)
    ≡ (d ++ (f ++ (s ++ (share ++ (s ++ (schema ++ (s ++ (table ++ (s ++ path))))))))) ++ (b0 ++ (b ++ e0 ++ e ++ g0 ++ g ++ r0 ++ r ++ tag))
link_regrouped d f s share schema table path b0 b e0 e g0 g r0 r tag = simp append_assoc

target_is : (share schema table path b e g recipient tag : List ℕ)
    → codes "/delta-sharing" ++ (codes "/files" ++ codes "/" ++ share ++ codes "/" ++ schema ++ codes "/" ++ table ++ codes "/" ++ path
    ++ (codes "?b=" ++ b ++ codes "&e=" ++ e ++ codes "&g=" ++ g ++ codes "&r=" ++ recipient) ++ tag)
    ≡ (codes "/delta-sharing/files/" ++ (share ++ 47 ∷ (schema ++ 47 ∷ (table ++ 47 ∷ path))))
    ++ 63 ∷ (codes "b=" ++ b ++ codes "&e=" ++ e ++ codes "&g=" ++ g ++ codes "&r=" ++ recipient ++ tag)
target_is share schema table path b e g recipient tag =
    link_regrouped (codes "/delta-sharing") (codes "/files") (codes "/") share schema table path (codes "?b=") b (codes "&e=") e (codes "&g=") g (codes "&r=") recipient tag

slash_other : ◌≢◌ {A = ℕ} 47 63
slash_other e = absurd (omega arith)

test_free : (bytes : List ℕ) → list_all (λ b. not (eqb b 63)) bytes ≡ true → All (λ b. b ≢ 63) bytes
test_free [] all = All-nil (λ b. b ≢ 63)
test_free (b ∷ bs) all =
    let parts = and_parts (not (eqb b 63)) (list_all (λ b. not (eqb b 63)) bs) all in
    All-cons (λ x. x ≢ 63) b bs (λ e. absurd (grind (arith, nat_tests))) (test_free bs parts.1)

prefix_free : All (λ b. b ≢ 63) (codes "/delta-sharing/files/")
prefix_free = test_free (codes "/delta-sharing/files/") refl

front_free : (p : LinkParts) → IsValue p
    → All (λ b. b ≢ 63) (codes "/delta-sharing/files/" ++ (p.table.share ++ 47 ∷ (p.table.schema ++ 47 ∷ (p.table.table ++ 47 ∷ escaped p.path))))
front_free p value =
    let P = λ (b : ℕ). b ≢ 63 in
    All-append P (codes "/delta-sharing/files/") _ prefix_free
    (All-append P p.table.share _ (bytes_free p.table.share 63 refl (name_bytes p.table.share value.table.share))
    (All-cons P 47 _ slash_other
    (All-append P p.table.schema _ (bytes_free p.table.schema 63 refl (name_bytes p.table.schema value.table.schema))
    (All-cons P 47 _ slash_other
    (All-append P p.table.table _ (bytes_free p.table.table 63 refl (name_bytes p.table.table value.table.table))
    (All-cons P 47 _ slash_other (link.escaped_free p.path value.path)))))))

-- a target whose path stands so below the endpoint is a link's
read_by : (head : Head) (below query body : List ℕ) → All (λ b. b ≢ 63) (codes "/delta-sharing/files/" ++ below)
    → head.target ≡ (codes "/delta-sharing/files/" ++ below) ++ 63 ∷ query → has_method method.GetOrHead head.method ≡ true
    → request_in head body ≡ link_request head (link_target below (Some query))
unfolding after
read_by head below query body free is allowed =
    let split : split_query head.target ≡ (codes "/delta-sharing/files/" ++ below, Some query) = rw (is, cut_again 63 (codes "/delta-sharing/files/" ++ below) query free) refl in
    rw (split, allowed) refl

pub links_are_read : LinksAreRead
links_are_read head body key p h allowed =
    let spelt : head.target ≡ (codes "/delta-sharing/files/" ++ (p.table.share ++ 47 ∷ (p.table.schema ++ 47 ∷ (p.table.table ++ 47 ∷ escaped p.path))))
    ++ 63 ∷ (codes "b=" ++ decimal p.binding ++ codes "&e=" ++ decimal p.expires ++ codes "&g=" ++ decimal p.grant ++ codes "&r=" ++ p.recipient ++ tag_text key (unsigned p)) =
    h.spelt ∙ target_is p.table.share p.table.schema p.table.table (escaped p.path) (decimal p.binding) (decimal p.expires) (decimal p.grant) p.recipient (tag_text key (unsigned p)) in
    read_by head _ _ body (front_free p h.value) spelt allowed
    ∙ ap (λ below. link_request head ((codes "/delta-sharing/files/" ++ below) ++ 63 ∷ (codes "b=" ++ decimal p.binding ++ codes "&e=" ++ decimal p.expires ++ codes "&g=" ++ decimal p.grant ++ codes "&r=" ++ p.recipient ++ tag_text key (unsigned p)))) (below_kept p h.value)
    ∙ ap (λ t. link_request head t) (sym spelt)
