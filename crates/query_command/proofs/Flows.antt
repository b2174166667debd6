-- Writing piece after piece.
use Rattle.std.proofs.Common.{◌≡◌, ℕ, ◌≤◌, ◌+◌, arith, min, List, [], ◌++◌, length, take, Option, Some, None, refl, sym, ap, ◌∙◌, subst, append_assoc}
use Rattle.std.specs.Prelude.{Bool, true, false}
use Rattle.std.specs.Io.KnownBytes.{append_known}
use Rattle.std.proofs.lemmas.List.{append-nil, take-append-le, take_all, take_min}
use Rattle.std.proofs.Math.Seq.{take-append-add}
use Rattle.edge_core.specs.Faults.{Rose}
use Rattle.query_command.specs.WritingSteps.{Wrote}

pub append_known-append : (known : Option (List ℕ)) (xs ys : List ℕ) → append_known (append_known known xs) ys ≡ append_known known (xs ++ ys)
append_known-append None xs ys = refl
append_known-append (Some held) xs ys = ap Some (append_assoc held xs ys)

pub append_known-nil : (known : Option (List ℕ)) → append_known known [] ≡ known
append_known-nil None = refl
append_known-nil (Some held) = ap Some (append-nil held)

Rose-from : (before mid after : ℕ) → before ≤ mid → Rose mid after → Rose before after
Rose-from before mid after le rose = omega (arith, le, rose)

-- one text after another
pub Wrote-on : (a b c : Option (List ℕ)) (before mid after : ℕ) (xs ys : List ℕ) (all : Bool) → Wrote a b before mid xs true → Wrote b c mid after ys all → Wrote a c before after (xs ++ ys) all
Wrote-on a b c before mid after xs ys true w v = (v.0 ∙ ap (λ known. append_known known ys) w.0 ∙ append_known-append a xs ys, omega (arith, w.1, v.1))
Wrote-on a b c before mid after xs ys false w ((n, held), rose, later) = (
  (length xs + n, held ∙ ap (λ known. append_known known (take n ys)) w.0 ∙ append_known-append a xs (take n ys) ∙ ap (append_known a) (sym (take-append-add xs ys n))),
  Rose-from before mid after w.1 rose,
  omega (arith, w.1, later),
)

-- a front of a text is a front of more
take-front : (n : ℕ) (xs ys : List ℕ) → take n xs ≡ take (min n (length xs)) (xs ++ ys)
take-front n xs ys = sym (take_min n xs) ∙ sym (take-append-le (min n (length xs)) xs ys (omega arith))

-- a text that stops short stops short before more
pub Wrote-before : (a b : Option (List ℕ)) (before after : ℕ) (xs ys : List ℕ) → Wrote a b before after xs false → Wrote a b before after (xs ++ ys) false
Wrote-before a b before after xs ys ((n, held), rose, later) = ((min n (length xs), held ∙ ap (append_known a) (take-front n xs ys)), rose, later)

-- nothing was written
pub Wrote-nothing : (a : Option (List ℕ)) (before : ℕ) → Wrote a a before before [] true
Wrote-nothing a before = (sym (append_known-nil a), omega arith)

-- the same text by another name, written whole
pub whole : (a b : Option (List ℕ)) (before after : ℕ) (xs ys : List ℕ) (all : Bool) → xs ≡ ys → all ≡ true → Wrote a b before after xs all → Wrote a b before after ys true
whole a b before after xs ys all same done w = subst (λ zs. Wrote a b before after zs true) same (subst (λ r. Wrote a b before after xs r) done w)

-- the same text by another name, a front of which was written, with more after it
pub short : (a b : Option (List ℕ)) (before after : ℕ) (xs ys more : List ℕ) (all : Bool) → xs ≡ ys → all ≡ false → Wrote a b before after xs all → Wrote a b before after (ys ++ more) false
short a b before after xs ys more all same stopped w =
    Wrote-before a b before after ys more (subst (λ zs. Wrote a b before after zs false) same (subst (λ r. Wrote a b before after xs r) stopped w))

-- a text that was written whole and not handed on
pub kept_back : (a b c : Option (List ℕ)) (before mid after : ℕ) (xs : List ℕ) (all : Bool) → all ≡ true → Wrote a b before mid xs all → c ≡ b → Rose mid after → mid ≤ after → Wrote a c before after xs false
kept_back a b c before mid after xs all done w same rose later =
    let written : Wrote a b before mid xs true = subst (λ r. Wrote a b before mid xs r) done w in
    ((length xs, same ∙ written.0 ∙ ap (append_known a) (sym (take_all (length xs) xs (omega arith)))), Rose-from before mid after written.1 rose, omega (arith, written.1, later))
