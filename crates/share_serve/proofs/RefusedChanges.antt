-- Why queries of changes are refused.
use Rattle.std.proofs.Common.{◌≡◌, ℕ, ◌≤◌, ◌<◌, List, [], ◌∷◌, Bool, true, false, cond, not, length, Option, Some, None, Result, Ok, Err, refl, sym, ap, ◌∙◌, subst, arith, true≢false}
use Rattle.std.specs.Prelude.{is_none, nat_le, nat_lt}
use Rattle.std.specs.Fmt.{decimal}
use Rattle.std.proofs.lemmas.Bool.Decides.{nat_tests}
use Rattle.case_table.specs.declared.refuse.Refusal.TheVariants as refusal
use Rattle.change_feed.specs.Changes.{ChangedFile}
use Rattle.change_feed.specs.Feed.{feed_of}
use Rattle.log_actions.specs.declared.actions.MetaData.{MetaData}
use Rattle.log_actions.specs.declared.actions.Protocol.{Protocol}
use Rattle.log_replay.specs.Reconciliation.{last_meta, last_protocol, meta_at}
use Rattle.log_replay.specs.declared.times.Unresolved.{Unresolved}
use Rattle.page_token.specs.Cursors.{cursor_of}
use Rattle.page_token.specs.declared.cursor.Cursor.{Cursor}
use Rattle.page_token.specs.declared.cursor.Cursor.TheVariants as cursor
use Rattle.page_token.specs.declared.cursor.FeedCursor.{FeedCursor}
use Rattle.page_token.specs.declared.cursor.TableAccess.{TableAccess}
use Rattle.share_book.specs.Parts as parts
use Rattle.share_book.specs.Parts.{feed_by, from_first, refused_by, resolved_at, unrestricted}
use Rattle.share_book.specs.Shown.{show_part}
use Rattle.share_book.specs.Views.{Log}
use Rattle.share_book.specs.declared.look.FeedPart.{FeedPart}
use Rattle.share_book.specs.declared.look.Part.TheVariants as part
use Rattle.share_book.specs.declared.look.PartFound.{PartFound}
use Rattle.share_book.specs.declared.look.PartFound.TheVariants as part_found
use Rattle.share_book.specs.declared.look.TableRefusal.TheVariants as table_refusal
use Rattle.share_book.proofs.Versions.{IsWhole, pinned_kept, resolved_kept, states_whole}
use Rattle.share_catalog.specs.Views.{Spot, spot_with}
use Rattle.share_catalog.specs.declared.edit.Binding.{Binding}
use Rattle.share_catalog.specs.declared.table_name.TableName.{TableName}
use Rattle.share_reply.specs.Access.{is_same_edition, is_same_table}
use Rattle.share_reply.specs.Answer.{Answer, Page, of, page, refused}
use Rattle.share_reply.specs.Asking.{asked_at, feed_by as part_by, feed_part, first_bound, last_bound}
use Rattle.share_reply.specs.Feeds as feeds
use Rattle.share_reply.specs.Feeds.{ChangesQuery, FeedStart, agrees, feed_from, feed_with, first_start, later_feed, or_off, or_unsupported, start_at, told_protocol, unrestricted_changes}
use Rattle.share_reply.specs.Files.{refused_for}
use Rattle.share_reply.specs.Refusing.{Refused, plain, where_all}
use Rattle.share_serve.specs.Entitled.{Asking, HasFeed, access_now, changes_asked}
use Rattle.share_serve.specs.RefusalCauses.{ChangesCause, ChangesHaveCauses, FeedTokenCause, IsRefused, RangeCause, TableCause, backward, before_first, begins_early, feed_ahead, feed_bare, feed_behind, feed_foreign, feed_restricted, feed_stale, feed_unknown, feed_unlike, feed_within, hidden, no_first, no_last, off, restricted, unresolved_as, within}
use Rattle.share_serve.proofs.GivenChanges.{changes_restricted, meta_is, meta_told, range_feed}
use Rattle.share_serve.proofs.GivenTables.{binding_of, grant_of, same_edition, shown_of}
use Rattle.share_serve.proofs.RefusedFiles.{same_names}
use Rattle.share_serve.proofs.RefusedNames.{refused_same}
use Rattle.share_serve.proofs.RefusedTables.{page_apart, table_cause, unresolved_is}

-- ---- a range

told_not : (m : MetaData) (o : Option MetaData) (P : Type 0) → o ≡ Some m → o ≡ None → P
told_not m o P some none = absurd cc

-- where the feed is on some metaData is told
never_bare : (log : Log) (from to : ℕ) (changes : List ChangedFile) (P : Type 0) → IsWhole log → from ≤ to → to < length log.commits → feed_of log.commits from to ≡ Ok changes → last_meta (parts.feed_of log from to).meta ≡ None → P
never_bare log from to changes P whole forward kept is none =
    let has : HasFeed log from to changes = record { forward = forward; kept = kept; is_feed = is } in
    let meta = meta_is log from to changes whole has in
    told_not meta.0 (last_meta (parts.feed_of log from to).meta) P meta.1 none

-- no metaData is told where none holds alone
unmarked : (log : Log) (from to : ℕ) (o : Option MetaData) → IsWhole log → to < length log.commits → meta_at log.commits to ≡ o → last_meta (parts.feed_of log from to).meta ≡ None → meta_at log.commits to ≡ None
unmarked log from to None whole kept is none = is
unmarked log from to (Some m) whole kept is none = told_not m (last_meta (parts.feed_of log from to).meta) (meta_at log.commits to ≡ None) (meta_told log from to m whole kept is) none

-- its changes are given up to a place behind their end
module _ (a : Asking) (m : TableAccess) (q : ChangesQuery) (log : Log) (whole : IsWhole log) (binding : Binding) (from to : ℕ) (kept : to < length log.commits) (start : FeedPart → FeedStart) (x : Refused) (Cause : Type 0)
    (ranged : RangeCause log binding from to x → Cause)
    (behind : (changes : List ChangedFile) → feed_of log.commits from to ≡ Ok changes → length changes < (start (parts.feed_of log from to)).place → refused (plain refusal.TokenAhead) ≡ refused x → Cause)
    (bare : (changes : List ChangedFile) → feed_of log.commits from to ≡ Ok changes → last_meta (parts.feed_of log from to).meta ≡ None → refused (plain refusal.UnsupportedTable) ≡ refused x → Cause) where
  abbrev feed : FeedPart
  feed = parts.feed_of log from to

  abbrev protocol : Protocol
  protocol = told_protocol (last_protocol feed.protocol)

  by_meta : (changes : List ChangedFile) (o : Option MetaData) → feed_of log.commits from to ≡ Ok changes → last_meta feed.meta ≡ o → of page (feeds.with_meta a.keys m a.now q (start feed) protocol changes (or_unsupported o)) ≡ refused x → Cause
  by_meta changes (Some meta) is said e = page_apart _ x Cause e
  by_meta changes None is said e = bare changes is said e

  by_place : (changes : List ChangedFile) (t : Bool) → feed_of log.commits from to ≡ Ok changes → nat_le (start feed).place (length changes) ≡ t
      → of page (where_all ((t, refusal.TokenAhead) ∷ []) (feeds.with_meta a.keys m a.now q (start feed) protocol changes (or_unsupported (last_meta feed.meta)))) ≡ refused x → Cause
  by_place changes true is t e = by_meta changes (last_meta feed.meta) is refl e
  by_place changes false is t e = behind changes is (grind (arith, nat_tests, t)) e

  by_feed : (r : Result (List ChangedFile) ℕ) → feed_of log.commits from to ≡ r → of page (feeds.with_changes a.keys m a.now q (start feed) protocol (last_meta feed.meta) (or_off r)) ≡ refused x → Cause
  by_feed (Ok changes) is e = by_place changes (nat_le (start feed).place (length changes)) is refl e
  by_feed (Err version) is e = ranged (subst (RangeCause log binding from to) (sym (refused_same (record { refusal = refusal.ChangesNotEnabled; detail = decimal version }) x e)) (off version is))

  pub by_first : (t : Bool) → nat_lt from binding.first ≡ t
      → of page (feed_from a.keys m a.now q start (show_part binding.only (cond t (part_found.Refused (table_refusal.NotShared binding.first)) (part_found.Feed feed)))) ≡ refused x → Cause
  by_first true is e = ranged (subst (RangeCause log binding from to) (sym (refused_same (before_first binding.first) x e)) (begins_early (grind (arith, nat_tests, is))))
  by_first false is e =
      by_feed (feed_of log.commits from to) refl
      (sym (ap (λ (r : Result (List ChangedFile) Refused). of page (feeds.with_changes a.keys m a.now q (start feed) protocol (last_meta feed.meta) r)) (range_feed log from to whole kept)) ∙ e)

-- ---- a table that is shared in part

unless_restricted : (only : Option (List ℕ)) (y : Result Page Refused) (x : Refused) (P : Type 0) → ((text : List ℕ) → only ≡ Some text → refused (plain refusal.ChangesRestricted) ≡ refused x → P)
    → (only ≡ None → of page y ≡ refused x → P) → of page (where_all ((is_none only, refusal.ChangesRestricted) ∷ []) y) ≡ refused x → P
unless_restricted None y x P part all e = all refl e
unless_restricted (Some text) y x P part all e = part text refl e

-- ---- a first page

module _ (a : Asking) (x : Refused) (name : TableName) (q : ChangesQuery) (log : Log) (whole : IsWhole log) (binding : Binding) where
  abbrev m : TableAccess
  m = access_now a.point a.recipient name

  abbrev spot : Spot
  spot = spot_with (grant_of a name) (binding, binding_of a name)

  abbrev Cause : Type 0
  Cause = ChangesCause log binding q x

  first_told : (y : Refused) → refused y ≡ refused x → ChangesCause log binding q y → Cause
  first_told y e row = subst (ChangesCause log binding q) (sym (refused_same y x e)) row

  unresolved : (why : Unresolved) → refused (refused_for (refused_by why)) ≡ refused x → ChangesCause log binding q (unresolved_as why) → Cause
  unresolved why e row = first_told (refused_for (refused_by why)) e (subst (ChangesCause log binding q) (sym (unresolved_is why)) row)

  none_behind : (n : ℕ) → n < 0 → Cause
  none_behind n lt = absurd (omega (arith, lt))

  by_order : (from to : ℕ) (t : Bool) → resolved_at log (first_bound (asked_at q.from)) ≡ Ok from → resolved_at log (last_bound (asked_at q.to)) ≡ Ok to → nat_lt to from ≡ t
      → of page (feed_from a.keys m a.now q (first_start q) (show_part binding.only (cond t (part_found.Refused table_refusal.VersionRange) (from_first binding.first from (part_found.Feed (parts.feed_of log from to)))))) ≡ refused x → Cause
  by_order from to true is_from is_to back e = first_told (plain refusal.VersionRange) e (backward from to is_from is_to (grind (arith, nat_tests, back)))
  by_order from to false is_from is_to order e =
      let forward : from ≤ to = grind (arith, nat_tests, order) in
      let kept = resolved_kept log whole (last_bound (asked_at q.to)) to is_to in
      by_first a m q log whole binding from to kept (first_start q) x Cause (within from to x is_from is_to) (λ changes is lt told. none_behind (length changes) lt)
      (λ changes is none told. never_bare log from to changes Cause whole forward kept is none) (nat_lt from binding.first) refl e

  by_ends : (r s : Result ℕ Unresolved) → resolved_at log (first_bound (asked_at q.from)) ≡ r → resolved_at log (last_bound (asked_at q.to)) ≡ s
      → of page (feed_from a.keys m a.now q (first_start q) (show_part binding.only (feed_by spot log r s))) ≡ refused x → Cause
  by_ends (Err why) s is_from is_to e = unresolved why e (no_first why is_from)
  by_ends (Ok from) (Err why) is_from is_to e = unresolved why e (no_last why is_to)
  by_ends (Ok from) (Ok to) is_from is_to e = by_order from to (nat_lt to from) is_from is_to refl e

  by_history : (h : Bool) → binding.history ≡ h
      → of page (feed_from a.keys m a.now q (first_start q) (show_part binding.only (cond (not h) (part_found.Refused table_refusal.NoHistory) (feed_by spot log (resolved_at log (first_bound (asked_at q.from))) (resolved_at log (last_bound (asked_at q.to))))))) ≡ refused x
      → Cause
  by_history true is e = by_ends (resolved_at log (first_bound (asked_at q.from))) (resolved_at log (last_bound (asked_at q.to))) refl refl e
  by_history false is e = first_told (plain refusal.HistoryNotShared) e (hidden is)

  -- the feed where the table isn't shared in part
  abbrev feed_of_all : PartFound
  feed_of_all = cond (not binding.history) (part_found.Refused table_refusal.NoHistory) (feed_by spot log (resolved_at log (first_bound (asked_at q.from))) (resolved_at log (last_bound (asked_at q.to))))

  first_cause : of page (where_all ((is_none binding.only, refusal.ChangesRestricted) ∷ [])
      (feed_from a.keys m a.now q (first_start q) (shown_of a name binding (part.Feed (first_bound (asked_at q.from)) (last_bound (asked_at q.to))) log))) ≡ refused x → Cause
  first_cause e =
      unless_restricted binding.only _ x Cause (λ text is so. first_told (plain refusal.ChangesRestricted) so (restricted text is))
      (λ none so. by_history binding.history refl (sym (ap (λ (o : Option (List ℕ)). of page (feed_from a.keys m a.now q (first_start q) (show_part binding.only (unrestricted o feed_of_all)))) none) ∙ so)) e

-- ---- a later page

module _ (a : Asking) (name : TableName) (log : Log) (whole : IsWhole log) (binding : Binding) (q : ChangesQuery) (text : List ℕ) (x : Refused) where
  abbrev Row : Refused → Type 0
  Row y = FeedTokenCause a name log binding q text y

  abbrev now : TableAccess
  now = access_now a.point a.recipient name

  -- the row of what is told
  told : (y : Refused) → refused y ≡ refused x → Row y → Row x
  told y e row = subst Row (sym (refused_same y x e)) row

  module _ (c : FeedCursor) (read : cursor_of a.keys.token text ≡ Some (cursor.Feed c)) where
    by_way : (changes : List ChangedFile) (t : Bool) → c.to < length log.commits → feed_of log.commits c.from c.to ≡ Ok changes → last_meta (parts.feed_of log c.from c.to).meta ≡ None → nat_lt c.to c.from ≡ t
        → refused (plain refusal.UnsupportedTable) ≡ refused x → Row x
    by_way changes true kept is none back e = told (plain refusal.UnsupportedTable) e (feed_bare c read (grind (arith, nat_tests, back)) (unmarked log c.from c.to (meta_at log.commits c.to) whole kept refl none))
    by_way changes false kept is none order e = let forward : c.from ≤ c.to = grind (arith, nat_tests, order) in never_bare log c.from c.to changes (Row x) whole forward kept is none

    -- what is found of it
    abbrev feed_pinned : PartFound
    feed_pinned = from_first binding.first c.from (part_found.Feed (parts.feed_of log c.from c.to))

    by_kept : (t : Bool) → nat_lt c.to (length log.states) ≡ t → of page (feed_from a.keys now a.now q (λ f. start_at c) (show_part binding.only (cond t feed_pinned (part_found.Refused table_refusal.Ahead)))) ≡ refused x → Row x
    by_kept true is e =
        let kept = pinned_kept log whole c.to is in
        by_first a now q log whole binding c.from c.to kept (λ f. start_at c) x (Row x) (λ cause. feed_within c x read cause) (λ changes made lt says. told (plain refusal.TokenAhead) says (feed_behind c read changes made lt))
        (λ changes made none says. by_way changes (nat_lt c.to c.from) kept made none refl says) (nat_lt c.from binding.first) refl e
    by_kept false is e = let all = states_whole log whole in told (plain refusal.TokenAhead) e (feed_ahead c read (grind (arith, nat_tests, is, all)))

    by_tests : (s t u : Bool) → is_same_table c.access now ≡ s → is_same_edition c.access now ≡ t → agrees q c ≡ u → binding.only ≡ None
        → of page (where_all ((s, refusal.TokenInvalid) ∷ (t, refusal.TokenStale) ∷ (u, refusal.TokenMismatch) ∷ []) (feed_from a.keys now a.now q (λ f. start_at c) (shown_of a name binding (part.PinnedFeed c.from c.to) log))) ≡ refused x → Row x
    by_tests false t u names editions agree none e = told (plain refusal.TokenInvalid) e (feed_foreign c read (λ is. true≢false (sym (same_names c.access a name is) ∙ names)))
    by_tests true false u names editions agree none e = told (plain refusal.TokenStale) e (feed_stale c read (λ is. true≢false (sym (same_edition c.access now is) ∙ editions)))
    by_tests true true false names editions agree none e = told (plain refusal.TokenMismatch) e (feed_unlike c read agree)
    by_tests true true true names editions agree none e =
        let kept : PartFound = cond (nat_lt c.to (length log.states)) feed_pinned (part_found.Refused table_refusal.Ahead) in
        by_kept (nat_lt c.to (length log.states)) refl (sym (ap (λ (o : Option (List ℕ)). of page (feed_from a.keys now a.now q (λ f. start_at c) (show_part binding.only (unrestricted o kept)))) none) ∙ e)

    cursor_cause : binding.only ≡ None → of page (later_feed a.keys now a.now q c (shown_of a name binding (part.PinnedFeed c.from c.to) log)) ≡ refused x → Row x
    cursor_cause none e = by_tests (is_same_table c.access now) (is_same_edition c.access now) (agrees q c) refl refl refl none e

  other : (o : Option Cursor) → cursor_of a.keys.token text ≡ o → ((c : FeedCursor) → o ≡ Some (cursor.Feed c) → ⊥) → refused (plain refusal.TokenInvalid) ≡ refused x → Row x
  other o read apart e = told (plain refusal.TokenInvalid) e (feed_unknown (λ c is. apart c (sym read ∙ is)))

  by_cursor : (o : Option Cursor) → cursor_of a.keys.token text ≡ o → binding.only ≡ None → of page (feeds.feed_by a.keys now a.now q o (shown_of a name binding (part_by o) log)) ≡ refused x → Row x
  by_cursor None read none e = other None read (λ c is. absurd cc) e
  by_cursor (Some (cursor.List l)) read none e = other (Some (cursor.List l)) read (λ c is. absurd cc) e
  by_cursor (Some (cursor.Files f)) read none e = other (Some (cursor.Files f)) read (λ c is. absurd cc) e
  by_cursor (Some (cursor.Feed c)) read none e = cursor_cause c read none e

  later_cause : of page (where_all ((is_none binding.only, refusal.ChangesRestricted) ∷ []) (feeds.feed_by a.keys now a.now q (cursor_of a.keys.token text) (shown_of a name binding (part_by (cursor_of a.keys.token text)) log))) ≡ refused x → Row x
  later_cause e =
      unless_restricted binding.only _ x (Row x) (λ only is so. told (plain refusal.ChangesRestricted) so (feed_restricted only is))
      (λ none so. by_cursor (cursor_of a.keys.token text) refl none so) e

-- ---- both

-- what a query of changes is answered, of what is found
abbrev changes_of : Asking → TableAccess → ChangesQuery → Option (List ℕ) → PartFound → Answer
changes_of a m q only p = of page (unrestricted_changes a.keys only m a.now q p)

at_token : (a : Asking) (name : TableName) (m : TableAccess) (q : ChangesQuery) (log : Log) (binding : Binding) (x : Refused) (o : Option (List ℕ)) → q.token ≡ o
    → changes_of a m q binding.only (shown_of a name binding (feed_part a.keys q.from q.to q.token) log) ≡ refused x
    → of page (where_all ((is_none binding.only, refusal.ChangesRestricted) ∷ []) (feed_with a.keys m a.now q o (shown_of a name binding (feed_part a.keys q.from q.to o) log))) ≡ refused x
at_token a name m q log binding x o is e =
    sym
    (ap
    (λ (z : Option (List ℕ)). of page (where_all ((is_none binding.only, refusal.ChangesRestricted) ∷ []) (feed_with a.keys m a.now q z (shown_of a name binding (feed_part a.keys q.from q.to z) log))))
    is)
    ∙ e

first_has : (a : Asking) (name : TableName) (q : ChangesQuery) (x : Refused) → q.token ≡ None → IsRefused a (changes_asked name q) x → TableCause a name (λ log binding. ChangesCause log binding q x) x
first_has a name q x none e =
    let m : TableAccess = access_now a.point a.recipient name in
    table_cause a (changes_asked name q) name (feed_part a.keys q.from q.to q.token) (changes_of a m q) (λ log binding. ChangesCause log binding q x) x refl refl (λ t. refl)
    (λ log binding whole is. first_cause a x name q log whole binding (at_token a name m q log binding x None none is)) e

later_has : (a : Asking) (name : TableName) (q : ChangesQuery) (text : List ℕ) (x : Refused) → q.token ≡ Some text → IsRefused a (changes_asked name q) x → TableCause a name (λ log binding. FeedTokenCause a name log binding q text x) x
later_has a name q text x has e =
    let m : TableAccess = access_now a.point a.recipient name in
    table_cause a (changes_asked name q) name (feed_part a.keys q.from q.to q.token) (changes_of a m q) (λ log binding. FeedTokenCause a name log binding q text x) x refl refl (λ t. refl)
    (λ log binding whole is. later_cause a name log whole binding q text x (at_token a name m q log binding x (Some text) has is)) e

pub changes_have_causes : ChangesHaveCauses
changes_have_causes = record { restricted = changes_restricted; first = first_has; later = later_has }
