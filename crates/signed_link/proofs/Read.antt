-- A link that is spelt is read.
use Rattle.std.proofs.Common.{◌≡◌, ◌≢◌, ℕ, List, [], ◌∷◌, ◌++◌, true, false, All, Some, None, refl, sym, ap, subst, ◌∙◌, append_assoc}
use Rattle.std.specs.Prelude.{IsTrue, codes, bytes_eq}
use Rattle.std.specs.List.{list_all}
use Rattle.std.specs.Fmt.{decimal}
use Rattle.std.proofs.lemmas.Bool.{and_parts, cond-true}
use Rattle.std.proofs.lemmas.Cmp.{nat_list_eq_equiv}
use Rattle.std.proofs.lemmas.List.Elements.{All-nil, All-cons}
use Rattle.hex.specs.Hex.{encode_lower}
use Rattle.hmac_core.specs.Hmac.{hmac}
use Rattle.share_catalog.specs.Grammar.{is_name_byte, is_catalog_name}
use Rattle.signed_link.specs.declared.parts.LinkParts.{LinkParts}
use Rattle.text_forms.specs.Escape.{escaped}
use Rattle.signed_link.specs.Link.{unsigned, link_text, IsValue, IsInRange, IsLink}
use Rattle.signed_link.specs.Reading.{cut, after, value_in, number_in, name_of, path_of, parts_in}
use Rattle.signed_link.proofs.Cuts.{cut_again, after_again, value_again}
use Rattle.signed_link.proofs.Escapes.{escaped_free, path_again}
use Rattle.signed_link.proofs.Numbers.{number_again}

-- ---- names

other_byte : (b c : ℕ) → is_name_byte b ≡ true → is_name_byte c ≡ false → b ≢ c
other_byte b c good bad same =
    let also : is_name_byte c ≡ true = subst (λ x. is_name_byte x ≡ true) same good in
    absurd cc

bytes_free : (name : List ℕ) (c : ℕ) → is_name_byte c ≡ false → list_all is_name_byte name ≡ true → All (λ b. b ≢ c) name
bytes_free [] c bad all = All-nil (λ b. b ≢ c)
bytes_free (b ∷ bs) c bad all =
    let parts = and_parts (is_name_byte b) (list_all is_name_byte bs) all in
    All-cons (λ x. x ≢ c) b bs (other_byte b c parts.0 bad) (bytes_free bs c bad parts.1)

name_free : (name : List ℕ) (c : ℕ) → is_name_byte c ≡ false → IsTrue (is_catalog_name name) → All (λ b. b ≢ c) name
name_free name c bad good = bytes_free name c bad (and_parts _ _ (and_parts _ _ good).1).1

name_again : (name : List ℕ) → IsTrue (is_catalog_name name) → name_of name ≡ Some name
name_again name good = cond-true (is_catalog_name name) (Some name) None good

-- ---- links

-- the parts of a link's text, from left to right
regrouped : (endpoint a0 a1 a2 a3 a4 a5 a6 a7 a8 b0 b1 b2 b3 b4 b5 b6 b7 t0 t1 : List ℕ)
    → endpoint ++ (a0 ++ a1 ++ a2 ++ a3 ++ a4 ++ a5 ++ a6 ++ a7 ++ a8 ++ (b0 ++ b1 ++ b2 ++ b3 ++ b4 ++ b5 ++ b6 ++ b7) ++ (t0 ++ t1))
    ≡ endpoint ++ (a0 ++ (a1 ++ (a2 ++ (a3 ++ (a4 ++ (a5 ++ (a6 ++ (a7 ++ (a8 ++ (b0 ++ (b1 ++ (b2 ++ (b3 ++ (b4 ++ (b5 ++ (b6 ++ (b7 ++ (t0 ++ t1))))))))))))))))))
regrouped endpoint a0 a1 a2 a3 a4 a5 a6 a7 a8 b0 b1 b2 b3 b4 b5 b6 b7 t0 t1 = simp append_assoc

steps : (endpoint x0 x1 x2 x3 x4 x5 x6 x7 x8 x9 x10 path : List ℕ) (p : LinkParts)
    → after endpoint x0 ≡ Some x1 → after (codes "/files/") x1 ≡ Some x2
    → cut 47 x2 ≡ Some (p.table.share, x3) → cut 47 x3 ≡ Some (p.table.schema, x4) → cut 47 x4 ≡ Some (p.table.table, x5)
    → cut 63 x5 ≡ Some (path, x6)
    → number_in (codes "b=") x6 ≡ Some (p.binding, x7) → number_in (codes "e=") x7 ≡ Some (p.expires, x8)
    → number_in (codes "g=") x8 ≡ Some (p.grant, x9) → value_in (codes "r=") x9 ≡ Some (p.recipient, x10)
    → name_of p.table.share ≡ Some p.table.share → name_of p.table.schema ≡ Some p.table.schema → name_of p.table.table ≡ Some p.table.table
    → name_of p.recipient ≡ Some p.recipient → path_of path ≡ Some p.path
    → parts_in endpoint x0 ≡ Some p
unfolding parts_in
steps endpoint x0 x1 x2 x3 x4 x5 x6 x7 x8 x9 x10 path p e0 e1 e2 e3 e4 e5 e6 e7 e8 e9 n0 n1 n2 n3 n4 =
    rw (e0, e1, e2, e3, e4, e5, e6, e7, e8, e9, n0, n1, n2, n3, n4) refl

parts_again : (key endpoint : List ℕ) (p : LinkParts) → IsValue p → IsInRange p → parts_in endpoint (link_text key endpoint p) ≡ Some p
parts_again key endpoint p value range =
    ap (parts_in endpoint) (regrouped endpoint
    (codes "/files") (codes "/") p.table.share (codes "/") p.table.schema (codes "/") p.table.table (codes "/") (escaped p.path)
    (codes "?b=") (decimal p.binding) (codes "&e=") (decimal p.expires) (codes "&g=") (decimal p.grant) (codes "&r=") p.recipient
    (codes "&t=") (encode_lower (hmac key (unsigned p))))
    ∙ steps endpoint _ _ _ _ _ _ _ _ _ _ _ (escaped p.path) p
    (after_again endpoint _ _ refl) (after_again (codes "/files/") _ _ refl)
    (cut_again 47 p.table.share _ (name_free p.table.share 47 refl value.table.share))
    (cut_again 47 p.table.schema _ (name_free p.table.schema 47 refl value.table.schema))
    (cut_again 47 p.table.table _ (name_free p.table.table 47 refl value.table.table))
    (cut_again 63 (escaped p.path) _ (escaped_free p.path value.path))
    (number_again (codes "b=") p.binding _ range.binding)
    (number_again (codes "e=") p.expires _ range.expires)
    (number_again (codes "g=") p.grant _ range.grant)
    (value_again (codes "r=") p.recipient _ (name_free p.recipient 38 refl value.recipient))
    (name_again p.table.share value.table.share) (name_again p.table.schema value.table.schema) (name_again p.table.table value.table.table)
    (name_again p.recipient value.recipient) (path_again p.path value.path)

pub link_again : (key endpoint text : List ℕ) (p : LinkParts) → IsLink key endpoint text p → parts_in endpoint text ≡ Some p
link_again key endpoint text p h = ap (parts_in endpoint) h.spelt ∙ parts_again key endpoint p h.value h.in_range

pub same_parts : (p q : LinkParts) → Some p ≡ Some q → p ≡ q
same_parts p q e = cc

-- both are what the text is read as
pub one_link : (key endpoint text : List ℕ) (p q : LinkParts) → IsLink key endpoint text p → IsLink key endpoint text q → p ≡ q
one_link key endpoint text p q h k = same_parts p q (sym (link_again key endpoint text p h) ∙ link_again key endpoint text q k)

-- bytes that are told apart aren't the same
pub differs : (a b : List ℕ) → false ≡ bytes_eq a b → a ≡ b → ⊥
differs a b e same =
    let yes : bytes_eq a b ≡ true = rw same (nat_list_eq_equiv.refl b) in
    cc
