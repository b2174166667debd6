-- What stands behind a front of a text and before an end of it.
use Rattle.std.proofs.Common.{◌≡◌, ◌≢◌, ℕ, ◌-◌, List, ◌++◌, length, take, drop, true, false, eqb, Option, Some, None, option_map, MatchOption, refl, ap, sym, ◌∙◌, arith, length-append}
use Rattle.std.specs.List.{starts_with, ends_with}
use Rattle.std.specs.Borrow.{Bor}
use Rattle.std.specs.Str.Pattern.{LacksTextAt, FindsTextPrefix, FindsTextSuffix, StripsPrefix, StripsSuffix}
use Rattle.std.proofs.lemmas.Bool.{false_from_ne_true}
use Rattle.std.proofs.lemmas.Bool.Decides.{Decides-eqb}
use Rattle.std.proofs.lemmas.List.{take_at, drop_at}
use Rattle.std.proofs.lemmas.Slice.Eq.{starts_is, ends_is}
use Rattle.share_config.specs.Texts.{after, before}

after_some : (front text rest : List ℕ) → text ≡ front ++ rest → after front text ≡ Some rest
after_some front text rest e =
    let starts : starts_with eqb text front ≡ true = (starts_is Decides-eqb text front _ refl).1 rest e in
    let back : drop (length front) text ≡ rest = ap (drop (length front)) e ∙ drop_at front rest (length front) refl in
    rw (starts, back) refl

after_none : (front text : List ℕ) → ((rest : List ℕ) → text ≢ front ++ rest) → after front text ≡ None
after_none front text none =
    let no : starts_with eqb text front ≡ false = false_from_ne_true _ (λ e. none _ ((starts_is Decides-eqb text front _ refl).0 e)) in
    rw no refl

before_some : (end text front : List ℕ) → text ≡ front ++ end → before end text ≡ Some front
before_some end text front e =
    let ends : ends_with eqb text end ≡ true = (ends_is Decides-eqb text end _ refl).1 front e in
    let size : length front ≡ length text - length end = omega (arith, ap length e, length-append front end) in
    let back : take (length text - length end) text ≡ front = ap (take (length text - length end)) e ∙ take_at front end (length text - length end) size in
    rw (ends, back) refl

before_none : (end text : List ℕ) → ((front : List ℕ) → text ≢ front ++ end) → before end text ≡ None
before_none end text none =
    let no : ends_with eqb text end ≡ false = false_from_ne_true _ (λ e. none _ ((ends_is Decides-eqb text end _ refl).0 e)) in
    rw no refl

pub strips_front : (p s : List ℕ) (r : Option (Bor (List ℕ))) → MatchOption r (LacksTextAt p s 0) (λ x. StripsPrefix (FindsTextPrefix p) s x.now) → option_map (λ x. x.now) r ≡ after p s
strips_front p s None lacks = sym (after_none p s lacks)
strips_front p s (Some x) found = sym (after_some p s x.now (found.1.1 ∙ ap (λ rest. p ++ rest) (sym found.2)))

pub strips_end : (p s : List ℕ) (r : Option (Bor (List ℕ))) → MatchOption r ((front : List ℕ) → s ≢ front ++ p) (λ x. StripsSuffix (FindsTextSuffix p) s x.now) → option_map (λ x. x.now) r ≡ before p s
strips_end p s None lacks = sym (before_none p s lacks)
strips_end p s (Some x) found = sym (before_some p s x.now (found.1.1 ∙ ap (λ front. front ++ p) (sym found.2)))
