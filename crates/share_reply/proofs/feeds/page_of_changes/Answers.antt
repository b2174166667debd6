use Rattle.std.proofs.Common.{◌≡◌, Option, Some, true, ap, ◌∙◌, arith, length}
use Rattle.std.specs.Prelude.{nat_le}
use Rattle.std.proofs.lemmas.Bool.Decides.{nat_tests}
use Rattle.log_actions.specs.declared.actions.Protocol.{Protocol}
use Rattle.log_replay.specs.Reconciliation.{last_meta, last_protocol}
use Rattle.share_reply.specs.Access.{expiry}
use Rattle.share_reply.specs.Answer.{ends_with}
use Rattle.share_reply.specs.Feeds.{feed_cursor, feed_page, lists_all, told_protocol}
use Rattle.share_reply.specs.Files.{is_paged}
use Rattle.share_reply.specs.Pages.{given, next_place}
use Rattle.share_reply.specs.Planned.{lines_of}
use Rattle.share_reply.specs.Starts.{behind, end_of, feed_start, query_in}
use Rattle.share_reply.specs.declared.lines.Content.TheVariants as content
use Rattle.share_reply.proofs.Paging.{changes_paged, feed_ending_with, feed_paged, paged_with}
use Rattle.share_reply.proofs.Spelt.{changes_spelt, end_spelt}
use Rattle.share_reply.proofs.Trailing.{behind_is}
use Rattle.share_reply.proofs.feeds.page_of_changes.Goals as goal

pub returns : goal.returns
returns c =
    let keys = c.args.keys.now in
    let asked = c.args.asked.now in
    let items = c.args.changes.items in
    let place = c.get-place.result in
    let start = feed_start c.args.begin.now in
    let held = last_protocol c.args.feed.now.protocol in
    let meta = c.in-Some.meta.now in
    let last : Some meta ≡ last_meta c.args.feed.now.meta = c.in-Some.ensures in
    let count : c.len-count.result ≡ length items = c.len-count.ensures ∙ c.args.changes.ok.0 in
    let within : nat_le start.place (length items) ≡ true = grind (arith, nat_tests, count, c.get-place.ensures.value) in
    let next : c.place_behind-next.result ≡ next_place lists_all asked.max start.place items =
    c.place_behind-next.ensures ∙ ap (λ n. behind n asked.max place) count ∙ behind_is asked.max place items ∙ ap (λ p. next_place lists_all asked.max p items) c.get-place.ensures.value in (
      changes_paged keys c.args.access c.args.now (query_in asked) start held (last_meta c.args.feed.now.meta) meta items _ within last
          (ap (λ lines. paged_with c.get.result lines) c.of.ensures
          ∙ ap (λ (o : Option Protocol). paged_with c.get.result (lines_of keys c.args.access c.in_ok-expires.expires (told_protocol o) meta (content.Changes c.in_ok-page.page) c.in_ok-end.end)) c.held_protocol-protocol.ensures
          ∙ feed_paged keys c.args.access c.args.now (query_in asked) start (told_protocol held) meta items c.in_ok-expires.expires c.get.result c.in_ok-page.page c.place_behind-next.result c.in_ok-end.end
          c.in_ok-expires.ensures c.get.ensures.value
          (c.in_ok-page.ensures ∙ ap (λ p. given lists_all asked.max p items) c.get-place.ensures.value)
          next
          (c.in_ok-end.ensures.line ∙ ap (λ ys. end_of keys (is_paged asked.max asked.token.now) (feed_ending_with c.args.access c.in_ok-expires.expires start ys c.place_behind-next.result)) c.deref.ensures.value)),
      changes_spelt keys (λ m. feed_page keys c.args.access c.args.now (query_in asked) start (told_protocol held) m items) (last_meta c.args.feed.now.meta) (nat_le start.place (length items))
          (λ m. end_spelt keys (feed_cursor c.args.access start) (ends_with (expiry keys c.args.now) (given lists_all asked.max start.place items)) c.place_behind-next.result (next_place lists_all asked.max start.place items) (is_paged asked.max asked.token.now) next c.in_ok-end.ensures.spelt),
    )
