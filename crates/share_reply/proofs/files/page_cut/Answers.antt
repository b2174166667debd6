use Rattle.std.proofs.Common.{◌≡◌, ℕ, List, Option, ap, ◌∙◌, subst}
use Rattle.log_replay.specs.State.{State}
use Rattle.pred_tree.specs.Shown.{IsShown, shown_in}
use Rattle.std.specs.Prelude.{filter}
use Rattle.share_book.specs.Views.{shown_state}
use Rattle.share_reply.proofs.ShownParts.{cut_shown, files_shown}
use Rattle.share_reply.proofs.files.page_cut.Goals as goal

pub returns-in-Some : goal.returns-in-Some
returns-in-Some c =
    let only = c.args.spot.now.only in
    let state = c.args.state.now in
    let meta = c.meta-meta.ensures ∙ ap (λ (s : State). s.meta) c.get-snapshot.ensures in
    let files : c.in-Some.files ≡ (shown_state only state).files = c.in-Some.ensures ∙ ap (λ (o : Option (List ℕ)). (shown_state o state).files) c.only.ensures in
    cut_shown c.listed_cut.result c.args.begin.now.hint only state c.in_ok-filter.filter c.meta-meta.result.now c.args.query.now.max c.get-place.result c.args.begin.now.place c.in-Some.files meta c.in_ok-filter.ensures c.get-place.ensures.value
    files c.listed_cut.ensures

pub returns : goal.returns
returns c =
    let only = c.args.spot.now.only in
    let state = c.args.state.now in
    let meta = c.meta-meta.ensures ∙ ap (λ (s : State). s.meta) c.get-snapshot.ensures in
    let is_shown = subst (λ (o : Option (List ℕ)). IsShown o c.meta-meta.result.now c.in_ok-shown-in-None.shown) c.only-in-None.ensures c.in_ok-shown-in-None.ensures in
    let files = ap (λ (s : State). filter (shown_in c.in_ok-shown-in-None.shown) s.files) c.get-snapshot.ensures ∙ files_shown only state c.in_ok-shown-in-None.shown c.meta-meta.result.now meta is_shown in
    cut_shown c.shown_cut.result c.args.begin.now.hint only state c.in_ok-filter.filter c.meta-meta.result.now c.args.query.now.max c.get-place.result c.args.begin.now.place _ meta c.in_ok-filter.ensures c.get-place.ensures.value
    files c.shown_cut.ensures
