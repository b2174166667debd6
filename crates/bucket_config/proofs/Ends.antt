-- What stands before an end of a text.
use Rattle.std.proofs.Common.{◌≡◌, ◌≢◌, ℕ, ◌-◌, List, ◌++◌, length, take, true, false, eqb, Option, Some, None, option_map, MatchOption, refl, ap, sym, ◌∙◌, arith, length-append}
use Rattle.std.specs.List.{ends_with}
use Rattle.std.specs.Borrow.{Bor}
use Rattle.std.specs.Str.Pattern.{FindsTextSuffix, StripsSuffix}
use Rattle.std.proofs.lemmas.Bool.{false_from_ne_true}
use Rattle.std.proofs.lemmas.Bool.Decides.{Decides-eqb}
use Rattle.std.proofs.lemmas.List.{take_at}
use Rattle.std.proofs.lemmas.Slice.Eq.{ends_is}
use Rattle.bucket_config.specs.Words.{before}

before_some : (end text front : List ℕ) → text ≡ front ++ end → before end text ≡ Some front
before_some end text front e =
    let ends : ends_with eqb text end ≡ true = (ends_is Decides-eqb text end _ refl).1 front e in
    let size : length front ≡ length text - length end = omega (arith, ap length e, length-append front end) in
    let back : take (length text - length end) text ≡ front = ap (take (length text - length end)) e ∙ take_at front end (length text - length end) size in
    rw (ends, back) refl

before_none : (end text : List ℕ) → ((front : List ℕ) → text ≢ front ++ end) → before end text ≡ None
before_none end text none =
    let no : ends_with eqb text end ≡ false = false_from_ne_true _ (λ e. none _ ((ends_is Decides-eqb text end _ refl).0 e)) in
    rw no refl

pub strips_end : (p s : List ℕ) (r : Option (Bor (List ℕ))) → MatchOption r ((front : List ℕ) → s ≢ front ++ p) (λ x. StripsSuffix (FindsTextSuffix p) s x.now) → option_map (λ x. x.now) r ≡ before p s
strips_end p s None lacks = sym (before_none p s lacks)
strips_end p s (Some x) found = sym (before_some p s x.now (found.1.1 ∙ ap (λ front. front ++ p) (sym found.2)))
