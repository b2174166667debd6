-- The first conflict, as the code comes to it.
use Rattle.std.proofs.Common.{◌≡◌, ℕ, List, Option, Some, None, Result, Ok, Err, is_some, option_map, length, refl, sym, ap, ◌∙◌, subst, true≢false}
use Rattle.std.specs.Option.{option_or}
use Rattle.log_actions.specs.declared.actions.Action.{Action}
use Rattle.log_replay.specs.Reconciliation.{actions_in, last_meta, last_protocol}
use Rattle.log_replay.specs.State.{IsHead, State}
use Rattle.log_replay.proofs.HeadLemmas.{head_stands}
use Rattle.commit_check.specs.Admission.{Answers, absent, admitted, appends_only, bad_offer, read_ahead, unless_conflict, unwritten, winners_conflict}
use Rattle.commit_check.specs.Offers.{commit_with, read_state}
use Rattle.commit_check.specs.declared.conflict.Conflict.{Conflict}
use Rattle.commit_check.specs.declared.conflict.NotAdmitted.{NotAdmitted}
use Rattle.commit_check.specs.declared.conflict.NotAdmitted.TheVariants as not_admitted
use Rattle.commit_check.specs.declared.offer.Offer.{Offer}

-- ---- five conflicts of which the first counts

abbrev chained : Option Conflict → Option Conflict → Option Conflict → Option Conflict → Option Conflict → Option Conflict
chained a u b l w = option_or (option_or a (option_or u (option_or b l))) w

no_none : (c : Conflict) → None ≡ Some c → ⊥
no_none c e = true≢false (sym (ap is_some e))

early_chain : (a u b l w : Option Conflict) (c : Conflict) → option_or a u ≡ Some c → chained a u b l w ≡ Some c
early_chain None None b l w c e = absurd (no_none c e)
early_chain None (Some x) b l w c e = e
early_chain (Some x) u b l w c e = e

later_chain : (a u b l w : Option Conflict) → option_or a u ≡ None → chained a u b l w ≡ option_or (option_or b l) w
later_chain None None b l w e = refl
later_chain None (Some x) b l w e = absurd (no_none x (sym e))
later_chain (Some x) u b l w e = absurd (no_none x (sym e))

bad_chain : (b l w : Option Conflict) (c : Conflict) → b ≡ Some c → option_or (option_or b l) w ≡ Some c
bad_chain b l w c e = ap (λ o. option_or (option_or o l) w) e

late_chain : (b l w : Option Conflict) (c : Conflict) → b ≡ None → l ≡ Some c → option_or (option_or b l) w ≡ Some c
late_chain b l w c none e = ap (λ o. option_or (option_or o l) w) none ∙ ap (λ o. option_or o w) e

last_chain : (b l w : Option Conflict) → b ≡ None → l ≡ None → option_or (option_or b l) w ≡ w
last_chain b l w none also = ap (λ o. option_or (option_or o l) w) none ∙ ap (λ o. option_or o w) also

-- ---- what is known when the code comes there

-- the head, the state that was read and the number of versions are the log's
pub record Given (log : List (List Action)) (head at : Option State) (versions : ℕ) (offer : Offer) : Type 0 where
  pub is_head : IsHead log head
  pub is_at : at ≡ read_state log offer.read
  pub counted : versions ≡ length log

abbrev pub early_by : ℕ → Option State → Offer → Option Conflict
early_by versions head offer = option_or (read_ahead versions offer.read) (unwritten (option_map (λ s. s.protocol) head) offer.actions)

abbrev pub late_by : Option State → Option State → Offer → Option Conflict
late_by head at offer = option_or (appends_only (option_map (λ s. s.meta) head) offer.actions) (absent at offer.actions)

abbrev ahead : List (List Action) → Offer → Option Conflict
ahead log offer = read_ahead (length log) offer.read

abbrev unwrote : List (List Action) → Offer → Option Conflict
unwrote log offer = unwritten (last_protocol (actions_in log)) offer.actions

abbrev late_in : List (List Action) → Offer → Option Conflict
late_in log offer = option_or (appends_only (last_meta (actions_in log)) offer.actions) (absent (read_state log offer.read) offer.actions)

abbrev won_in : List (List Action) → Offer → Option Conflict
won_in log offer = winners_conflict log (read_state log offer.read) offer

early_is : (log : List (List Action)) (head at : Option State) (versions : ℕ) (offer : Offer) → Given log head at versions offer → early_by versions head offer ≡ option_or (ahead log offer) (unwrote log offer)
early_is log head at versions offer g =
    ap (λ n. option_or (read_ahead n offer.read) (unwritten (option_map (λ s. s.protocol) head) offer.actions)) g.counted
    ∙ ap (λ p. option_or (read_ahead (length log) offer.read) (unwritten p offer.actions)) (head_stands log head g.is_head).1

late_is : (log : List (List Action)) (head at : Option State) (versions : ℕ) (offer : Offer) → Given log head at versions offer → late_by head at offer ≡ late_in log offer
late_is log head at versions offer g =
    ap (λ m. option_or (appends_only m offer.actions) (absent at offer.actions)) (head_stands log head g.is_head).2
    ∙ ap (λ s. option_or (appends_only (last_meta (actions_in log)) offer.actions) (absent s offer.actions)) g.is_at

abbrev or_conflict : Conflict → Result (List Action) Conflict → Conflict
or_conflict c (Ok x) = c
or_conflict c (Err d) = d

abbrev or_actions : List Action → Result (List Action) Conflict → List Action
or_actions xs (Ok x) = x
or_actions xs (Err d) = xs

no_err : (all : List Action) (c : Conflict) → Ok all ≡ Err c → ⊥
no_err all c e = cc

no_ok : (c : Conflict) (all : List Action) → Err c ≡ Ok all → ⊥
no_ok c all e = cc

bad_is : (b : Option Conflict) (all : List Action) (c : Conflict) → unless_conflict b all ≡ Err c → b ≡ Some c
bad_is None all c e = absurd (no_err all c e)
bad_is (Some d) all c e = ap (λ r. Some (or_conflict c r)) e

good_is : (b : Option Conflict) (all commit : List Action) → unless_conflict b all ≡ Ok commit → b ≡ None
good_is None all commit e = refl
good_is (Some d) all commit e = absurd (no_ok d commit e)

made_is : (b : Option Conflict) (all commit : List Action) → unless_conflict b all ≡ Ok commit → all ≡ commit
made_is None all commit e = ap (or_actions all) e
made_is (Some d) all commit e = absurd (no_ok d commit e)

abbrev Told : List (List Action) → ℕ → Offer → Result (List Action) NotAdmitted → Type 0
Told log now offer result = Answers result (admitted log now offer)

abbrev Made : List (List Action) → ℕ → Offer → Result (List Action) NotAdmitted → Type 0
Made log now offer result = Answers result (unless_conflict (bad_offer log now offer) (commit_with now offer.actions))

-- a conflict of the chain is told
told : (log : List (List Action)) (now : ℕ) (offer : Offer) (c : Conflict) (e : NotAdmitted) → chained (ahead log offer) (unwrote log offer) (bad_offer log now offer) (late_in log offer) (won_in log offer) ≡ Some c
    → e ≡ not_admitted.Conflict c → Told log now offer (Err e)
told log now offer c e first is = subst (λ x. Told log now offer (Err x)) (sym is) (ap (λ o. unless_conflict o (commit_with now offer.actions)) first)

-- ---- step by step

pub told_early : (log : List (List Action)) (now : ℕ) (offer : Offer) (head at : Option State) (versions : ℕ) (found : Option Conflict) (c : Conflict) (e : NotAdmitted) → Given log head at versions offer
    → found ≡ early_by versions head offer → found ≡ Some c → e ≡ not_admitted.Conflict c → Told log now offer (Err e)
told_early log now offer head at versions found c e g early is to =
    told log now offer c e
    (early_chain (ahead log offer) (unwrote log offer) (bad_offer log now offer) (late_in log offer) (won_in log offer) c (sym (early ∙ early_is log head at versions offer g) ∙ is)) to

none_early : (log : List (List Action)) (now : ℕ) (offer : Offer) (head at : Option State) (versions : ℕ) (found : Option Conflict) → Given log head at versions offer → found ≡ early_by versions head offer → found ≡ None
    → chained (ahead log offer) (unwrote log offer) (bad_offer log now offer) (late_in log offer) (won_in log offer) ≡ option_or (option_or (bad_offer log now offer) (late_in log offer)) (won_in log offer)
none_early log now offer head at versions found g early none =
    later_chain (ahead log offer) (unwrote log offer) (bad_offer log now offer) (late_in log offer) (won_in log offer) (sym (early ∙ early_is log head at versions offer g) ∙ none)

pub told_made : (log : List (List Action)) (now : ℕ) (offer : Offer) (head at : Option State) (versions : ℕ) (found : Option Conflict) (e : NotAdmitted) → Given log head at versions offer
    → found ≡ early_by versions head offer → found ≡ None → Made log now offer (Err e) → Told log now offer (Err e)
told_made log now offer head at versions found not_admitted.NoMemory g early none made = tt
told_made log now offer head at versions found (not_admitted.Conflict c) g early none made =
    told log now offer c (not_admitted.Conflict c)
    (none_early log now offer head at versions found g early none ∙ bad_chain (bad_offer log now offer) (late_in log offer) (won_in log offer) c (bad_is (bad_offer log now offer) (commit_with now offer.actions) c made)) refl

pub told_late : (log : List (List Action)) (now : ℕ) (offer : Offer) (head at : Option State) (versions : ℕ) (found late : Option Conflict) (commit : List Action) (c : Conflict) (e : NotAdmitted) → Given log head at versions offer
    → found ≡ early_by versions head offer → found ≡ None → Made log now offer (Ok commit) → late ≡ late_by head at offer → late ≡ Some c → e ≡ not_admitted.Conflict c → Told log now offer (Err e)
told_late log now offer head at versions found late commit c e g early none made of is to =
    told log now offer c e
    (none_early log now offer head at versions found g early none
    ∙ late_chain (bad_offer log now offer) (late_in log offer) (won_in log offer) c (good_is (bad_offer log now offer) (commit_with now offer.actions) commit made) (sym (of ∙ late_is log head at versions offer g) ∙ is)) to

none_late : (log : List (List Action)) (now : ℕ) (offer : Offer) (head at : Option State) (versions : ℕ) (found late : Option Conflict) (commit : List Action) → Given log head at versions offer
    → found ≡ early_by versions head offer → found ≡ None → Made log now offer (Ok commit) → late ≡ late_by head at offer → late ≡ None
    → chained (ahead log offer) (unwrote log offer) (bad_offer log now offer) (late_in log offer) (won_in log offer) ≡ won_in log offer
none_late log now offer head at versions found late commit g early none made of also =
    none_early log now offer head at versions found g early none
    ∙ last_chain (bad_offer log now offer) (late_in log offer) (won_in log offer) (good_is (bad_offer log now offer) (commit_with now offer.actions) commit made) (sym (of ∙ late_is log head at versions offer g) ∙ also)

pub told_won : (log : List (List Action)) (now : ℕ) (offer : Offer) (head at : Option State) (versions : ℕ) (found late won : Option Conflict) (commit : List Action) (c : Conflict) (e : NotAdmitted) → Given log head at versions offer
    → found ≡ early_by versions head offer → found ≡ None → Made log now offer (Ok commit) → late ≡ late_by head at offer → late ≡ None → won ≡ won_in log offer → won ≡ Some c → e ≡ not_admitted.Conflict c → Told log now offer (Err e)
told_won log now offer head at versions found late won commit c e g early none made of also by is to =
    told log now offer c e (none_late log now offer head at versions found late commit g early none made of also ∙ sym by ∙ is) to

pub told_commit : (log : List (List Action)) (now : ℕ) (offer : Offer) (head at : Option State) (versions : ℕ) (found late won : Option Conflict) (commit : List Action) → Given log head at versions offer
    → found ≡ early_by versions head offer → found ≡ None → Made log now offer (Ok commit) → late ≡ late_by head at offer → late ≡ None → won ≡ won_in log offer → won ≡ None → admitted log now offer ≡ Ok commit
told_commit log now offer head at versions found late won commit g early none made of also by last =
    ap (λ o. unless_conflict o (commit_with now offer.actions)) (none_late log now offer head at versions found late commit g early none made of also ∙ sym by ∙ last)
    ∙ ap Ok (made_is (bad_offer log now offer) (commit_with now offer.actions) commit made)
