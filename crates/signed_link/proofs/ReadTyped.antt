-- What is read is in range, its names are names and its path is UTF-8.
use Rattle.std.proofs.Common.{◌≡◌, ℕ, ◌^◌, ◌<◌, List, length, Bool, true, false, cond, ltb, ◌&&◌, Option, Some, None, refl, subst}
use Rattle.std.specs.Prelude.{IsTrue, codes}
use Rattle.std.specs.Str.{IsUtf8, is_utf8, all_ascii_digits}
use Rattle.std.specs.Str.Parse.{digits_value, without_leading_plus}
use Rattle.std.proofs.lemmas.Bool.{and_parts, ltb-true}
use Rattle.std.proofs.lemmas.Str.{IsUtf8-from_is_utf8}
use Rattle.percent_encoding.specs.Percent.{percent_decode}
use Rattle.share_catalog.specs.Grammar.{is_catalog_name}
use Rattle.signed_link.specs.declared.parts.LinkParts.{LinkParts}
use Rattle.signed_link.specs.Link.{IsInRange, IsValue}
use Rattle.json_tree.specs.Options.{◌>>=◌}
use Rattle.signed_link.specs.Reading.{cut, after, value_in, number_of, number_in, name_of, path_of, parts_in}
use Rattle.signed_link.proofs.Read.{same_parts}

-- the next of the steps of what was read
step : {A B P : Type 0} (o : Option A) (f : A → Option B) (y : B) → (o >>= f) ≡ Some y → ((x : A) → o ≡ Some x → f x ≡ Some y → P) → P
step (Some x) f y e then = then x refl e
step None f y e then = absurd cc

same : {A : Type 0} (x y : A) → Some x ≡ Some y → x ≡ y
same x y e = cc

cond_none : {A : Type 0} (b : Bool) (x y : A) → cond b (Some x) None ≡ Some y → (b ≡ true) × (x ≡ y)
cond_none true x y e = (refl, same x y e)
cond_none false x y e = absurd cc

name_good : (text n : List ℕ) → name_of text ≡ Some n → IsTrue (is_catalog_name n)
name_good text n e =
    let found = cond_none (is_catalog_name text) text n e in
    subst (λ x. IsTrue (is_catalog_name x)) found.1 found.0

path_utf8 : (text t : List ℕ) → path_of text ≡ Some t → IsUtf8 t
path_utf8 text t e =
    let found = cond_none (is_utf8 (percent_decode text)) (percent_decode text) t e in
    subst IsUtf8 found.1 (IsUtf8-from_is_utf8 (percent_decode text) found.0)

value_below : (text : List ℕ) (n : ℕ) → number_of text ≡ Some n → n < 2 ^ 63
unfolding number_of
value_below text n e =
    let digits = without_leading_plus text in
    let found = cond_none (ltb 0 (length digits) && all_ascii_digits digits && ltb (digits_value 10 digits) (2 ^ 63)) (digits_value 10 digits) n e in
    subst (λ x. x < 2 ^ 63) found.1 (ltb-true _ _ (and_parts _ (ltb (digits_value 10 digits) (2 ^ 63)) found.0).1)

number_below : (name text : List ℕ) (x : ℕ × List ℕ) → number_in name text ≡ Some x → x.0 < 2 ^ 63
unfolding number_in
number_below name text x e =
    step (value_in name text) _ x e (λ v v-is e1.
    step (number_of v.0) _ x e1 (λ n n-is e2.
    subst (λ (y : ℕ × List ℕ). y.0 < 2 ^ 63) (same _ x e2) (value_below v.0 n n-is)))

pub read_typed : (endpoint text : List ℕ) (p : LinkParts) → parts_in endpoint text ≡ Some p → IsValue p × IsInRange p
unfolding parts_in
read_typed endpoint text p e0 =
    step (after endpoint text) _ p e0 (λ l l-is e1.
    step (after (codes "/files/") l) _ p e1 (λ b b-is e2.
    step (cut 47 b) _ p e2 (λ s s-is e3.
    step (cut 47 s.1) _ p e3 (λ c c-is e4.
    step (cut 47 c.1) _ p e4 (λ t t-is e5.
    step (cut 63 t.1) _ p e5 (λ h h-is e6.
    step (number_in (codes "b=") h.1) _ p e6 (λ bn bn-is e7.
    step (number_in (codes "e=") bn.1) _ p e7 (λ en en-is e8.
    step (number_in (codes "g=") en.1) _ p e8 (λ gn gn-is e9.
    step (value_in (codes "r=") gn.1) _ p e9 (λ r r-is e10.
    step (name_of s.0) _ p e10 (λ sn sn-is e11.
    step (name_of c.0) _ p e11 (λ cn cn-is e12.
    step (name_of t.0) _ p e12 (λ tn tn-is e13.
    step (name_of r.0) _ p e13 (λ rn rn-is e14.
    step (path_of h.0) _ p e14 (λ ht ht-is e15.
    subst (λ q. IsValue q × IsInRange q) (same_parts _ p e15) (
      record {
        table = record { share = name_good s.0 sn sn-is; schema = name_good c.0 cn cn-is; table = name_good t.0 tn tn-is };
        recipient = name_good r.0 rn rn-is;
        path = path_utf8 h.0 ht ht-is;
      },
      record { binding = number_below (codes "b=") h.1 bn bn-is; expires = number_below (codes "e=") bn.1 en en-is; grant = number_below (codes "g=") en.1 gn gn-is },
    ))))))))))))))))
