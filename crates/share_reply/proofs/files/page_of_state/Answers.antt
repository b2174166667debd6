use Rattle.std.proofs.Common.{◌≡◌, Err, true, ap, sym, ◌∙◌, arith, length, subst}
use Rattle.std.specs.Prelude.{nat_le}
use Rattle.std.proofs.lemmas.Bool.Decides.{nat_tests}
use Rattle.log_replay.specs.State.{State}
use Rattle.share_book.specs.Views.{shown_state}
use Rattle.share_reply.specs.Starts.{files_start}
use Rattle.share_reply.specs.Answer.{ends_with}
use Rattle.share_reply.specs.Access.{expiry}
use Rattle.share_reply.specs.Cuts.{IsCutOf}
use Rattle.share_reply.specs.Files.{files_cursor, files_page, is_paged, lists, page_of_state}
use Rattle.share_reply.specs.Pages.{given, next_place}
use Rattle.share_reply.specs.Stops.{GivesPage}
use Rattle.share_reply.proofs.Paging.{files_paged, paged_with, state_paged}
use Rattle.share_reply.proofs.ShownParts.{shown_meta, shown_protocol, state_ahead}
use Rattle.share_reply.proofs.Spelt.{end_spelt, files_spelt}
use Rattle.share_reply.proofs.files.page_of_state.Goals as goal

pub returns-in_default : goal.returns-in_default
returns-in_default c =
    let keys = c.args.keys.now in
    let start = files_start c.args.begin.now in
    let state = shown_state c.args.spot.now.only c.args.state.now in
    let few = subst (IsCutOf (lists start.hint state) c.args.query.now.max start.place state.files) c.in_default.is c.in_ok-found.ensures in
    subst (λ s. GivesPage keys (Err s) (page_of_state keys c.args.access c.args.now c.args.query.now start state)) (sym c.refuse.ensures) (state_ahead keys c.args.access c.args.now c.args.query.now start state few)

pub returns : goal.returns
returns c =
    let keys = c.args.keys.now in
    let query = c.args.query.now in
    let start = files_start c.args.begin.now in
    let state = shown_state c.args.spot.now.only c.args.state.now in
    let cut = c.in-Some.cut in
    let is = subst (IsCutOf (lists start.hint state) query.max start.place state.files) c.in-Some.is c.in_ok-found.ensures in
    let within : nat_le start.place (length state.files) ≡ true = grind (arith, nat_tests, is.within) in
    let protocol : c.protocol-protocol.result.now ≡ state.protocol = c.protocol-protocol.ensures ∙ ap (λ (s : State). s.protocol) c.get-snapshot.ensures ∙ sym (shown_protocol c.args.spot.now.only c.args.state.now) in
    let meta : c.meta-meta.result.now ≡ state.meta = c.meta-meta.ensures ∙ ap (λ (s : State). s.meta) c.get-snapshot.ensures ∙ sym (shown_meta c.args.spot.now.only c.args.state.now) in (
      state_paged keys c.args.access c.args.now query start state _ within
          (ap (λ lines. paged_with c.get.result lines) c.of.ensures
          ∙ files_paged keys c.args.access c.args.now query start state c.in_ok-expires.expires c.get.result c.protocol-protocol.result.now c.meta-meta.result.now cut.files cut.next c.in_ok-end.end
          c.in_ok-expires.ensures c.get.ensures.value protocol meta is.found_is is.next_is c.in_ok-end.ensures.line),
      files_spelt keys (files_page keys c.args.access c.args.now query start state) (nat_le start.place (length state.files))
          (end_spelt keys (files_cursor c.args.access start) (ends_with (expiry keys c.args.now) (given (lists start.hint state) query.max start.place state.files)) cut.next (next_place (lists start.hint state) query.max start.place state.files) (is_paged query.max query.token) is.next_is c.in_ok-end.ensures.spelt),
    )
