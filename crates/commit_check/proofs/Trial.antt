-- What comes of making an offer's commit.
use Rattle.std.proofs.Common.{◌≡◌, ℕ, List, [], ◌∷◌, ◌++◌, cond, Option, Some, None, Result, Ok, Err, is_some, option_map, length, refl, sym, ap, ◌∙◌, subst}
use Rattle.std.specs.Prelude.{◌||◌}
use Rattle.std.specs.List.{position_from}
use Rattle.std.specs.Option.{option_or}
use Rattle.log_actions.specs.declared.actions.Action.{Action}
use Rattle.log_commit.specs.Rules.{commit_from}
use Rattle.log_commit.specs.declared.faults.CommitFault.{CommitFault}
use Rattle.log_replay.specs.Support.{refusal_of}
use Rattle.commit_check.specs.Admission.{Answers, bad_offer, begins_badly, first_bad, is_long, is_unfit, unless_conflict, whole_place}
use Rattle.commit_check.specs.Offers.{commit_with}
use Rattle.commit_check.specs.Places.{lesser, place_in}
use Rattle.commit_check.specs.declared.conflict.Conflict.TheVariants as conflict
use Rattle.commit_check.specs.declared.conflict.NotAdmitted.{NotAdmitted}
use Rattle.commit_check.specs.declared.conflict.NotAdmitted.TheVariants as not_admitted
use Rattle.commit_check.specs.declared.offer.Offer.{Offer}
use Rattle.commit_check.proofs.Badness.{bad_where_broken, bad_where_unbroken, commit_is}

-- the actions of an offer, those that can't be there, and what is made of them
pub record Tried (now : ℕ) (offer : Offer) (actions all : List Action) (unfit : Option ℕ) (what : Result (List Action) CommitFault) : Type 0 where
  pub offered : actions ≡ offer.actions
  pub whole : all ≡ commit_with now actions
  pub first : unfit ≡ position_from (is_unfit offer.location) 0 actions
  pub made : commit_from all ≡ what

of_offer : (now : ℕ) (offer : Offer) (actions all : List Action) (unfit : Option ℕ) (what : Result (List Action) CommitFault) → Tried now offer actions all unfit what → commit_from (commit_with now offer.actions) ≡ what
of_offer now offer actions all unfit what t = ap commit_from (sym (t.whole ∙ ap (commit_with now) t.offered)) ∙ t.made

unfit_is : (now : ℕ) (offer : Offer) (actions all : List Action) (unfit : Option ℕ) (what : Result (List Action) CommitFault) → Tried now offer actions all unfit what → unfit ≡ position_from (is_unfit offer.location) 0 offer.actions
unfit_is now offer actions all unfit what t = t.first ∙ ap (position_from (is_unfit offer.location) 0) t.offered

abbrev Told : List (List Action) → ℕ → Offer → Result (List Action) NotAdmitted → Type 0
Told log now offer result = Answers result (unless_conflict (bad_offer log now offer) (commit_with now offer.actions))

-- an action that can't be there is told
told_bad : (log : List (List Action)) (now : ℕ) (offer : Offer) (n m : ℕ) (e : NotAdmitted) → first_bad offer.location [] offer.actions ≡ Some m → n ≡ m → e ≡ not_admitted.Conflict (conflict.BadOffer n) → Told log now offer (Err e)
told_bad log now offer n m e first at is =
    subst (λ x. Told log now offer (Err x)) (sym is)
    (ap (λ o. unless_conflict (option_map (λ k. conflict.BadOffer k) (option_or o (whole_place log now offer))) (commit_with now offer.actions)) first ∙ ap (λ k. Err (conflict.BadOffer k)) (sym at))

pub told_broken : (log : List (List Action)) (now : ℕ) (offer : Offer) (actions all : List Action) (unfit : Option ℕ) (f : CommitFault) (n place : ℕ) (e : NotAdmitted) → Tried now offer actions all unfit (Err f)
    → place ≡ place_in f → n ≡ lesser unfit place → e ≡ not_admitted.Conflict (conflict.BadOffer n) → Told log now offer (Err e)
told_broken log now offer actions all unfit f n place e t at least is =
    told_bad log now offer n (lesser unfit (place_in f)) e
    (bad_where_broken offer.location now offer.actions f unfit (unfit_is now offer actions all unfit (Err f) t) (of_offer now offer actions all unfit (Err f) t))
    (least ∙ ap (lesser unfit) at) is

pub told_unfit : (log : List (List Action)) (now : ℕ) (offer : Offer) (actions all commit : List Action) (unfit : Option ℕ) (n : ℕ) (e : NotAdmitted) → Tried now offer actions all unfit (Ok commit)
    → unfit ≡ Some n → e ≡ not_admitted.Conflict (conflict.BadOffer n) → Told log now offer (Err e)
told_unfit log now offer actions all commit unfit n e t here is =
    told_bad log now offer n n e
    (bad_where_unbroken offer.location now offer.actions commit unfit (unfit_is now offer actions all unfit (Ok commit) t) (of_offer now offer actions all unfit (Ok commit) t) ∙ here)
    refl is

abbrev Whole : List (List Action) → Offer → Result (List Action) NotAdmitted → List Action → Type 0
Whole log offer result commit =
    Answers result (unless_conflict (option_map (λ n. conflict.BadOffer n) (cond (is_some (refusal_of (log ++ commit ∷ [])) || (begins_badly offer.read offer.actions || is_long commit)) (Some (length offer.actions)) None)) commit)

-- where each action can be there, the whole tells
pub told_whole : (log : List (List Action)) (now : ℕ) (offer : Offer) (actions all commit : List Action) (unfit : Option ℕ) (result : Result (List Action) NotAdmitted) → Tried now offer actions all unfit (Ok commit)
    → unfit ≡ None → Whole log offer result commit → Told log now offer result
told_whole log now offer actions all commit unfit result t none whole =
    let made = of_offer now offer actions all unfit (Ok commit) t in
    let first = bad_where_unbroken offer.location now offer.actions commit unfit (unfit_is now offer actions all unfit (Ok commit) t) made ∙ none in
    subst (λ o. Answers result (unless_conflict (option_map (λ n. conflict.BadOffer n) (option_or o (whole_place log now offer))) (commit_with now offer.actions))) (sym first)
    (subst (Whole log offer result) (commit_is now offer.actions commit made) whole)
