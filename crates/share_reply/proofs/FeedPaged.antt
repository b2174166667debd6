-- What a page of changes tells of the log that it was answered from.
use Rattle.std.proofs.Common.{◌≡◌, ℕ, ◌<◌, ◌≤◌, List, [], ◌∷◌, Bool, true, false, cond, Option, Some, None, Result, Ok, Err, refl, sym, ap, ◌∙◌, arith, length}
use Rattle.std.specs.Prelude.{is_none, nat_le, nat_lt, not}
use Rattle.std.proofs.lemmas.Bool.Decides.{nat_tests}
use Rattle.case_table.specs.declared.refuse.Refusal.TheVariants.{ChangesRestricted}
use Rattle.change_feed.specs.Changes.{ChangedFile}
use Rattle.change_feed.specs.Feed.{feed_of}
use Rattle.change_feed.specs.Shown.{feed_from as feed_in}
use Rattle.change_feed.proofs.RangeLemmas.{ranged_feed}
use Rattle.log_actions.specs.declared.actions.MetaData.{MetaData}
use Rattle.log_actions.specs.declared.actions.Protocol.{Protocol}
use Rattle.log_replay.specs.Reconciliation.{last_meta, last_protocol}
use Rattle.log_replay.specs.declared.times.Unresolved.{Unresolved}
use Rattle.page_token.specs.Cursors.{cursor_of}
use Rattle.page_token.specs.declared.cursor.Cursor.{Cursor}
use Rattle.page_token.specs.declared.cursor.Cursor.TheVariants as cursor
use Rattle.page_token.specs.declared.cursor.FeedCursor.{FeedCursor}
use Rattle.page_token.specs.declared.cursor.TableAccess.{TableAccess}
use Rattle.share_book.specs.Parts as parts
use Rattle.share_book.specs.Parts.{feed_by, feed_found, found_of, pinned_feed, resolved_at, unrestricted}
use Rattle.share_book.specs.Views.{Log}
use Rattle.share_book.specs.declared.look.FeedPart.{FeedPart}
use Rattle.share_book.specs.declared.look.PartFound.{PartFound}
use Rattle.share_book.specs.declared.look.PartFound.TheVariants as part_found
use Rattle.share_book.specs.declared.look.TableRefusal.TheVariants as refusal
use Rattle.share_catalog.specs.Views.{Spot}
use Rattle.share_reply.specs.Access.{is_same_edition, is_same_table}
use Rattle.share_reply.specs.Answer.{Page}
use Rattle.share_reply.specs.Asking.{asked_at, feed_by as part_by, feed_part, first_bound, last_bound}
use Rattle.share_reply.specs.Feeds as feeds
use Rattle.share_reply.specs.Feeds.{ChangesQuery, FeedStart, agrees, changes_page, feed_from, feed_page, feed_with, first_start, later_feed, or_off, or_unsupported, start_at, told_protocol}
use Rattle.share_reply.specs.Refusing.{Refused, where_all}
use Rattle.share_reply.specs.declared.keys.ReplyKeys.{ReplyKeys}
use Rattle.share_reply.proofs.FilesPaged.{ok_is, passed, same_access}
use Rattle.share_book.proofs.Versions.{IsWhole, pinned_kept, resolved_kept}

-- the changes of a range of a log, and the page that is made of them
pub record Ranged (keys : ReplyKeys) (a : TableAccess) (now : ℕ) (q : ChangesQuery) (start : FeedStart) (p : Page) (log : Log) (from to : ℕ) : Type 0 where
  pub kept : to < length log.commits
  pub changes : List ChangedFile
  pub is_feed : feed_of log.commits from to ≡ Ok changes
  pub within : start.place ≤ length changes
  pub protocol : Protocol
  pub meta : MetaData
  pub page_is : p ≡ feed_page keys a now q start protocol meta changes

meta_from : (keys : ReplyKeys) (a : TableAccess) (now : ℕ) (q : ChangesQuery) (start : FeedStart) (p : Page) (log : Log) (from to : ℕ) (protocol : Protocol) (changes : List ChangedFile) (o : Option MetaData) → to < length log.commits
    → feed_of log.commits from to ≡ Ok changes → nat_le start.place (length changes) ≡ true → feeds.with_meta keys a now q start protocol changes (or_unsupported o) ≡ Ok p → Ranged keys a now q start p log from to
meta_from keys a now q start p log from to protocol changes None kept is within e = absurd cc
meta_from keys a now q start p log from to protocol changes (Some meta) kept is within e = record {
  kept = kept;
  changes = changes;
  is_feed = is;
  within = grind (arith, nat_tests, within);
  protocol = protocol;
  meta = meta;
  page_is = ok_is (feed_page keys a now q start protocol meta changes) p (Ok (feed_page keys a now q start protocol meta changes)) refl e;
}

changes_from : (keys : ReplyKeys) (a : TableAccess) (now : ℕ) (q : ChangesQuery) (start : FeedStart) (p : Page) (log : Log) (from to : ℕ) (protocol : Protocol) (o : Option MetaData) (r : Result (List ChangedFile) ℕ) → to < length log.commits
    → feed_of log.commits from to ≡ r → feeds.with_changes keys a now q start protocol o (or_off r) ≡ Ok p → Ranged keys a now q start p log from to
changes_from keys a now q start p log from to protocol o (Err version) kept is e = absurd cc
changes_from keys a now q start p log from to protocol o (Ok changes) kept is e =
    let (within, rest) = passed (nat_le start.place (length changes)) _ [] (feeds.with_meta keys a now q start protocol changes (or_unsupported o)) p e in
    meta_from keys a now q start p log from to protocol changes o kept is within rest

abbrev range_feed : Log → ℕ → ℕ → Result (List ChangedFile) ℕ
range_feed log from to = feed_in from (parts.between from to log.marks) (parts.between from to log.commits)

-- of a log that is shown whole
whole_feed : (log : Log) (from to : ℕ) → IsWhole log → to < length log.commits → feed_of log.commits from to ≡ range_feed log from to
whole_feed log from to whole kept = sym (ap (λ (l : Log). feed_in from (parts.between from to l.marks) (parts.between from to log.commits)) whole ∙ ranged_feed log.commits from to kept)

-- the range is of versions that are shared
pub record Shared (keys : ReplyKeys) (a : TableAccess) (now : ℕ) (q : ChangesQuery) (start : FeedStart) (p : Page) (spot : Spot) (log : Log) (from to : ℕ) : Type 0 where
  pub shared : spot.first ≤ from
  pub ranged : Ranged keys a now q start p log from to

from_first : (keys : ReplyKeys) (a : TableAccess) (now : ℕ) (q : ChangesQuery) (start : FeedPart → FeedStart) (p : Page) (spot : Spot) (log : Log) (from to : ℕ) (b : Bool) → IsWhole log → to < length log.commits → nat_lt from spot.first ≡ b
    → feed_from keys a now q start (cond b (part_found.Refused (refusal.NotShared spot.first)) (part_found.Feed (parts.feed_of log from to))) ≡ Ok p → Shared keys a now q (start (parts.feed_of log from to)) p spot log from to
from_first keys a now q start p spot log from to true whole kept t e = absurd cc
from_first keys a now q start p spot log from to false whole kept t e = record {
  shared = grind (arith, nat_tests, t);
  ranged = changes_from keys a now q (start (parts.feed_of log from to)) p log from to (told_protocol (last_protocol (parts.feed_of log from to).protocol)) (last_meta (parts.feed_of log from to).meta) (range_feed log from to) kept (whole_feed log from to whole kept) e;
}

between_from : (keys : ReplyKeys) (a : TableAccess) (now : ℕ) (q : ChangesQuery) (start : FeedPart → FeedStart) (p : Page) (spot : Spot) (log : Log) (from to : ℕ) (b : Bool) → IsWhole log → to < length log.commits → nat_lt to from ≡ b
    → feed_from keys a now q start (cond b (part_found.Refused refusal.VersionRange) (parts.from_first spot.first from (part_found.Feed (parts.feed_of log from to)))) ≡ Ok p
    → (from ≤ to) × Shared keys a now q (start (parts.feed_of log from to)) p spot log from to
between_from keys a now q start p spot log from to true whole kept t e = absurd cc
between_from keys a now q start p spot log from to false whole kept t e = (grind (arith, nat_tests, t), from_first keys a now q start p spot log from to (nat_lt from spot.first) whole kept refl e)

-- ---- of a table that is shared whole

-- changes are given of no other
pub shared_whole : (only : Option (List ℕ)) (x : Result Page Refused) (p : Page) → where_all ((is_none only, ChangesRestricted) ∷ []) x ≡ Ok p → (only ≡ None) × (x ≡ Ok p)
shared_whole None x p e = (refl, e)
shared_whole (Some text) x p e = absurd cc

-- ---- a first page

pub record FirstFeed (keys : ReplyKeys) (a : TableAccess) (now : ℕ) (q : ChangesQuery) (spot : Spot) (log : Log) (p : Page) : Type 0 where
  pub from : ℕ
  pub to : ℕ
  pub is_from : resolved_at log (first_bound (asked_at q.from)) ≡ Ok from
  pub is_to : resolved_at log (last_bound (asked_at q.to)) ≡ Ok to
  pub from_kept : from < length log.commits
  pub order : from ≤ to
  pub ranged : Shared keys a now q (record { asked_from = asked_at q.from; asked_to = asked_at q.to; from = from; to = to; place = 0 }) p spot log from to

first_ends : (keys : ReplyKeys) (a : TableAccess) (now : ℕ) (q : ChangesQuery) (spot : Spot) (log : Log) (p : Page) (r s : Result ℕ Unresolved) → IsWhole log
    → resolved_at log (first_bound (asked_at q.from)) ≡ r → resolved_at log (last_bound (asked_at q.to)) ≡ s
    → feed_from keys a now q (first_start q) (feed_by spot log r s) ≡ Ok p → FirstFeed keys a now q spot log p
first_ends keys a now q spot log p (Err why) s whole is_from is_to e = absurd cc
first_ends keys a now q spot log p (Ok from) (Err why) whole is_from is_to e = absurd cc
first_ends keys a now q spot log p (Ok from) (Ok to) whole is_from is_to e =
    let (order, ranged) = between_from keys a now q (first_start q) p spot log from to (nat_lt to from) whole (resolved_kept log whole (last_bound (asked_at q.to)) to is_to) refl e in
    record {
      from = from;
      to = to;
      is_from = is_from;
      is_to = is_to;
      from_kept = resolved_kept log whole (first_bound (asked_at q.from)) from is_from;
      order = order;
      ranged = ranged;
    }

first_shared : (keys : ReplyKeys) (a : TableAccess) (now : ℕ) (q : ChangesQuery) (spot : Spot) (log : Log) (p : Page) (b : Bool) → IsWhole log
    → feed_from keys a now q (first_start q) (cond b (part_found.Refused refusal.NoHistory) (feed_by spot log (resolved_at log (first_bound (asked_at q.from))) (resolved_at log (last_bound (asked_at q.to))))) ≡ Ok p → FirstFeed keys a now q spot log p
first_shared keys a now q spot log p true whole e = absurd cc
first_shared keys a now q spot log p false whole e = first_ends keys a now q spot log p (resolved_at log (first_bound (asked_at q.from))) (resolved_at log (last_bound (asked_at q.to))) whole refl refl e

unrestricted_from : (keys : ReplyKeys) (a : TableAccess) (now : ℕ) (q : ChangesQuery) (start : FeedPart → FeedStart) (p : Page) (only : Option (List ℕ)) (x : PartFound) → feed_from keys a now q start (unrestricted only x) ≡ Ok p → feed_from keys a now q start x ≡ Ok p
unrestricted_from keys a now q start p None x e = e
unrestricted_from keys a now q start p (Some text) x e = absurd cc

pub first : (keys : ReplyKeys) (a : TableAccess) (now : ℕ) (q : ChangesQuery) (spot : Spot) (log : Log) (p : Page) → IsWhole log → q.token ≡ None
    → changes_page keys a now q (found_of spot log (feed_part keys q.from q.to q.token)) ≡ Ok p → FirstFeed keys a now q spot log p
first keys a now q spot log p whole none e =
    let here : feed_from keys a now q (first_start q) (feed_found spot log (first_bound (asked_at q.from)) (last_bound (asked_at q.to))) ≡ Ok p =
    sym (ap (λ (o : Option (List ℕ)). feed_with keys a now q o (found_of spot log (feed_part keys q.from q.to o))) none) ∙ e in
    first_shared keys a now q spot log p (not spot.history) whole (unrestricted_from keys a now q (first_start q) p spot.only _ here)

-- ---- a later page

pub record LaterFeed (keys : ReplyKeys) (a : TableAccess) (now : ℕ) (q : ChangesQuery) (c : FeedCursor) (spot : Spot) (log : Log) (p : Page) : Type 0 where
  pub same : a ≡ c.access
  pub ranged : Shared keys a now q (start_at c) p spot log c.from c.to

later_kept : (keys : ReplyKeys) (a : TableAccess) (now : ℕ) (q : ChangesQuery) (c : FeedCursor) (spot : Spot) (log : Log) (p : Page) (b : Bool) → IsWhole log → a ≡ c.access → nat_lt c.to (length log.states) ≡ b
    → feed_from keys a now q (λ f. start_at c) (cond b (parts.from_first spot.first c.from (part_found.Feed (parts.feed_of log c.from c.to))) (part_found.Refused refusal.Ahead)) ≡ Ok p → LaterFeed keys a now q c spot log p
later_kept keys a now q c spot log p false whole same is e = absurd cc
later_kept keys a now q c spot log p true whole same is e =
    record { same = same; ranged = from_first keys a now q (λ f. start_at c) p spot log c.from c.to (nat_lt c.from spot.first) whole (pinned_kept log whole c.to is) refl e }

later_by : (keys : ReplyKeys) (a : TableAccess) (now : ℕ) (q : ChangesQuery) (c : FeedCursor) (spot : Spot) (log : Log) (p : Page) → IsWhole log → later_feed keys a now q c (pinned_feed spot log c.from c.to) ≡ Ok p → LaterFeed keys a now q c spot log p
later_by keys a now q c spot log p whole e =
    let x = feed_from keys a now q (λ f. start_at c) (pinned_feed spot log c.from c.to) in
    let (table, e1) = passed (is_same_table c.access a) _ _ x p e in
    let (edition, e2) = passed (is_same_edition c.access a) _ _ x p e1 in
    let (agree, e3) = passed (agrees q c) _ [] x p e2 in
    later_kept keys a now q c spot log p (nat_lt c.to (length log.states)) whole (same_access c.access a table edition) refl (unrestricted_from keys a now q (λ f. start_at c) p spot.only _ e3)

pub later : (keys : ReplyKeys) (a : TableAccess) (now : ℕ) (q : ChangesQuery) (c : FeedCursor) (text : List ℕ) (spot : Spot) (log : Log) (p : Page) → IsWhole log
    → cursor_of keys.token text ≡ Some (cursor.Feed c) → q.token ≡ Some text
    → changes_page keys a now q (found_of spot log (feed_part keys q.from q.to q.token)) ≡ Ok p → LaterFeed keys a now q c spot log p
later keys a now q c text spot log p whole again is e =
    let by_text : feeds.feed_by keys a now q (cursor_of keys.token text) (found_of spot log (part_by (cursor_of keys.token text))) ≡ Ok p =
    sym (ap (λ (o : Option (List ℕ)). feed_with keys a now q o (found_of spot log (feed_part keys q.from q.to o))) is) ∙ e in
    let by_cursor : later_feed keys a now q c (pinned_feed spot log c.from c.to) ≡ Ok p =
    sym (ap (λ (o : Option Cursor). feeds.feed_by keys a now q o (found_of spot log (part_by o))) again) ∙ by_text in
    later_by keys a now q c spot log p whole by_cursor
