use Rattle.std.proofs.Common.{◌≡◌, List, ℕ, Option, Some, option_map, sym, ap, ◌∙◌, subst}
use Rattle.std.specs.Prelude.{All, IfSome, option_copied}
use Rattle.std.specs.Arc.{arc_value}
use Rattle.std.proofs.lemmas.List.Elements.{All-contains}
use Rattle.log_replay.specs.State.{State}
use Rattle.share_book.specs.Placed.{AreAt, IsListOf, IsPlaces}
use Rattle.share_book.specs.Views.{shown_state}
use Rattle.share_book.proofs.Placing.{found_at}
use Rattle.share_book.proofs.snapshot.SharedSnapshot.shown.Goals as goal

pub at-requires : goal.at-requires
at-requires c =
    let state : State = c.deref-in-Some-lists.result.now in
    let places = c.in_ok-find-in-Some-lists.field-0.now in
    let kept = subst (λ o. IfSome (option_map arc_value o) (All (IsListOf c.self.inside.held.value))) c.in-Some-lists.is c.self.invariant in
    let lists = subst (All (IsListOf c.self.inside.held.value)) (sym c.deref-in-Some-lists-2.ensures) kept in
    let listed = All-contains (IsListOf c.self.inside.held.value) c.deref-in-Some-lists-2.result.now _ lists c.in_ok-find-in-Some-lists.ensures in
    let here : IsPlaces c.in-Some.only.now state places = subst (λ (s : State). IsPlaces c.in-Some.only.now s places) (sym c.deref-in-Some-lists.ensures) listed in
    subst (AreAt state.files places) (sym (found_at state.files places (shown_state (Some c.in-Some.only.now) state).files here)) here

pub returns-in_ok-find-in-Some-lists : goal.returns-in_ok-find-in-Some-lists
returns-in_ok-find-in-Some-lists c =
    let state : State = c.deref-in-Some-lists.result.now in
    let places = c.in_ok-find-in-Some-lists.field-0.now in
    let kept = subst (λ o. IfSome (option_map arc_value o) (All (IsListOf c.self.inside.held.value))) c.in-Some-lists.is c.self.invariant in
    let lists = subst (All (IsListOf c.self.inside.held.value)) (sym c.deref-in-Some-lists-2.ensures) kept in
    let listed = All-contains (IsListOf c.self.inside.held.value) c.deref-in-Some-lists-2.result.now _ lists c.in_ok-find-in-Some-lists.ensures in
    let here : IsPlaces c.in-Some.only.now state places = subst (λ (s : State). IsPlaces c.in-Some.only.now s places) (sym c.deref-in-Some-lists.ensures) listed in
    let only : Some c.in-Some.only.now ≡ option_copied c.args.only = sym (ap option_copied c.in-Some.is) in
    c.at.ensures ∙ found_at state.files places (shown_state (Some c.in-Some.only.now) state).files here
    ∙ ap (λ (s : State). (shown_state (Some c.in-Some.only.now) s).files) (c.deref-in-Some-lists.ensures ∙ c.self.view_is)
    ∙ ap (λ (o : Option (List ℕ)). (shown_state o c.args.self.now).files) only
