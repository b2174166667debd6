-- Where the head of a stream ends, from its front.
use Rattle.std.proofs.Common.{◌≡◌, ℕ, ◌+◌, ◌-◌, ◌<◌, ◌≤◌, inl, inr, cond, eqb, List, [], ◌++◌, length, take, None, sym, ap, ◌∙◌, subst, arith, append_assoc}
use Rattle.std.proofs.lemmas.Bool.{cases_lt, le-leb, lt-leb, eq-eqb, ne_eqb}
use Rattle.std.proofs.lemmas.List.{append-nil, length-append, take-append-le, take_all, length-take}
use Rattle.std.proofs.Math.Seq.{take-append-add}
use Rattle.http_message.specs.Ends.{blank_len, HasNoEnd, IsFirstEnd}
use Rattle.http_message.specs.HeadReadings.{nothing, cut, faulty, headless}
use Rattle.http_message.specs.declared.refusal.Flaw.TheVariants.{HeadTooLarge}
use Rattle.http_message.proofs.CutFacts.{blank_len-append}
use Rattle.http_message.proofs.Growth.{first_end-append, no_room}
use Rattle.http_wire.specs.Heads.{TellsStreamEnd, IsHeadOpen, EndsAt}
use Rattle.http_wire.specs.Parts.{IsBlankOpen, IsEndOpen}

pub take_front : (n : ℕ) (xs ys : List ℕ) → take n (xs ++ ys) ≡ take n xs ++ take (n - length xs) ys
take_front n xs ys =
    elim (cases_lt (length xs) n) [
      | inl over ↦
          let e : n ≡ length xs + (n - length xs) = omega arith in
          ap (λ k. take k (xs ++ ys)) e ∙ take-append-add xs ys (n - length xs) ∙ ap (λ x. x ++ take (n - length xs) ys) (sym (take_all n xs (omega arith)))
      | inr within ↦
          let none : n - length xs ≡ 0 = omega arith in
          take-append-le n xs ys within ∙ sym (ap (λ k. take n xs ++ take k ys) none ∙ append-nil (take n xs))
    ]

-- the empty lines in front are the same with more bytes, where two bytes stand behind them
pub start_more : (most : ℕ) (u more : List ℕ) → blank_len (take most u) + 2 ≤ length (take most u) → blank_len (take most (u ++ more)) ≡ blank_len (take most u)
start_more most u more room = ap blank_len (take_front most u more) ∙ blank_len-append (take most u) (take (most - length u) more) room

pub found_more : (n : ℕ) (u more : List ℕ) (start end : ℕ) → IsFirstEnd (take n u) start end → IsFirstEnd (take n (u ++ more)) start end
found_more n u more start end found =
    subst (λ w. IsFirstEnd w start end) (sym (take_front n u more)) (first_end-append (take n u) (take (n - length u) more) start end found)

-- where the empty lines in front end, found in the front u of what is there
start_of : (most : ℕ) (u v m more : List ℕ) (start : ℕ) → v ≡ u ++ m → start ≡ blank_len (take most u) → start + 2 ≤ length (take most u) → start ≡ blank_len (take most (v ++ more))
start_of most u v m more start grown is room =
    let whole : v ++ more ≡ u ++ (m ++ more) = ap (λ x. x ++ more) grown ∙ append_assoc u m more in
    is ∙ sym (ap (λ x. blank_len (take most x)) whole ∙ start_more most u (m ++ more) (omega arith))

pub end_found : (most : ℕ) (u v m : List ℕ) (start end : ℕ) → v ≡ u ++ m → start ≡ blank_len (take most u) → start + 2 ≤ length (take most u) → IsFirstEnd (take most v) start end
    → EndsAt most v end
end_found most u v m start end grown is room found =
    let sized = length-take most v in
    record {
      found = λ more. subst (λ s. IsFirstEnd (take most (v ++ more)) s end) (start_of most u v m more start grown is room) (found_more most v more start end found);
      within = omega (arith, found.within, sized);
      some = omega (arith, found.after);
      fits = omega (arith, found.within, sized);
    }

pub headless_long : {H : Type 0} (most : ℕ) (xs : List ℕ) → most ≤ length xs → headless {H = H} most xs ≡ faulty HeadTooLarge
headless_long most xs long = ap (λ b. cond b (faulty HeadTooLarge) (cond (eqb (blank_len xs) (length xs)) nothing cut)) (le-leb most (length xs) long)

pub headless_blank : {H : Type 0} (most : ℕ) (xs : List ℕ) → length xs < most → blank_len xs ≡ length xs → headless {H = H} most xs ≡ nothing
headless_blank most xs short all =
    ap (λ b. cond b (faulty HeadTooLarge) (cond (eqb (blank_len xs) (length xs)) nothing cut)) (lt-leb most (length xs) short)
    ∙ ap (λ b. cond b nothing cut) (eq-eqb (blank_len xs) (length xs) all)

pub headless_cut : {H : Type 0} (most : ℕ) (xs : List ℕ) → length xs < most → ¬ (blank_len xs ≡ length xs) → headless {H = H} most xs ≡ cut
headless_cut most xs short text =
    ap (λ b. cond b (faulty HeadTooLarge) (cond (eqb (blank_len xs) (length xs)) nothing cut)) (lt-leb most (length xs) short)
    ∙ ap (λ b. cond b nothing cut) (ne_eqb (blank_len xs) (length xs) text)

pub none_found : (most : ℕ) (u v m : List ℕ) (start : ℕ) → v ≡ u ++ m → start ≡ blank_len (take most u) → start + 2 ≤ length (take most u) → HasNoEnd (take most v) start → most ≤ length v
    → (more : List ℕ) → TellsStreamEnd most (v ++ more) None
none_found most u v m start grown is room none long more =
    let same : take most v ≡ take most (v ++ more) = sym (take-append-le most v more long) in
    subst (λ s. HasNoEnd (take most (v ++ more)) s) (start_of most u v m more start grown is room) (subst (λ w. HasNoEnd w start) same none)

-- the most bytes with no room for a head
pub no_head : (most : ℕ) (v : List ℕ) → most ≤ length v → length (take most v) < blank_len (take most v) + 2 → (more : List ℕ) → TellsStreamEnd most (v ++ more) None
no_head most v long small more =
    let same : take most v ≡ take most (v ++ more) = sym (take-append-le most v more long) in
    subst (λ w. HasNoEnd w (blank_len w)) same (no_room (take most v) small)

-- the input ended, and there is no room for a head
pub end_no_room : (most : ℕ) (v : List ℕ) → length v < most → length v < blank_len v + 2 → TellsStreamEnd most v None
end_no_room most v short small = subst (λ w. HasNoEnd w (blank_len w)) (sym (take_all most v (omega arith))) (no_room v small)

-- the input ended inside a head
pub end_inside : (most : ℕ) (u v m : List ℕ) (start : ℕ) → v ≡ u ++ m → start ≡ blank_len (take most u) → start + 2 ≤ length (take most u) → HasNoEnd v start → length v < most
    → TellsStreamEnd most v None × ¬ (blank_len v ≡ length v)
end_inside most u v m start grown is room none short =
    let all : take most v ≡ v = take_all most v (omega arith) in
    let begins : start ≡ blank_len (take most v) = start_of most u v m [] start grown is room ∙ ap (λ x. blank_len (take most x)) (append-nil v) in
    let fits : length (take most u) ≤ length v = omega (arith, length-take most u, ap length grown, length-append u m) in (
      subst (λ s. HasNoEnd (take most v) s) begins (subst (λ w. HasNoEnd w start) (sym all) none),
      λ same. omega (arith, same, begins, ap blank_len all, fits, room),
    )

pub blank_open : (most : ℕ) (y : List ℕ) → IsBlankOpen most y → IsHeadOpen most y
blank_open most y is = record { none = end_no_room most y is.0 is.1; short = is.0 }

pub end_open : (most : ℕ) (u y : List ℕ) (start : ℕ) → start ≡ blank_len (take most u) → start + 2 ≤ length (take most u) → IsEndOpen most start u y → IsHeadOpen most y
end_open most u y start is room open_end = record { none = (end_inside most u y open_end.0 start open_end.1 is room open_end.2 open_end.3).0; short = open_end.3 }
