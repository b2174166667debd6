-- The pages of a chain of changes are the changes of the range that the first one was of.
use Rattle.std.proofs.Common.{◌≡◌, ℕ, ◌<◌, ◌⊎◌, inl, inr, List, [], ◌∷◌, Option, Some, None, Result, Ok, refl, sym, ap, ◌∙◌, subst, length, drop, filter}
use Rattle.std.specs.Prelude.{⊤, All, is_some}
use Rattle.std.proofs.lemmas.List.Elements.{All-cons, All-nil}
use mathlib.Core.List.{IsPrefix}
use Rattle.change_feed.specs.Changes.{ChangedFile}
use Rattle.change_feed.specs.Feed.{feed_of}
use Rattle.change_feed.proofs.LawLemmas.{later_commits_leave}
use Rattle.log_actions.specs.declared.actions.Action.{Action}
use Rattle.log_actions.specs.declared.actions.MetaData.{MetaData}
use Rattle.log_actions.specs.declared.actions.Protocol.{Protocol}
use Rattle.page_token.specs.Token.{token_text}
use Rattle.page_token.specs.declared.cursor.Cursor.TheVariants as cursor
use Rattle.page_token.specs.declared.cursor.FeedCursor.{FeedCursor}
use Rattle.page_token.specs.declared.cursor.TableAccess.{TableAccess}
use Rattle.share_book.specs.Looks.{log_in}
use Rattle.share_book.specs.Parts.{found_of}
use Rattle.share_book.specs.Views.{Log, view_by}
use Rattle.share_book.specs.declared.entry.Entry.{Entry}
use Rattle.share_catalog.specs.Views.{Spot, token}
use Rattle.share_catalog.specs.declared.table_name.TableName.{TableName}
use Rattle.share_request.specs.declared.asked.What.TheVariants as what
use Rattle.share_reply.specs.Access.{access}
use Rattle.share_reply.specs.Answer.{Page, page}
use Rattle.share_reply.specs.Asking.{asked_at, feed_part}
use Rattle.share_reply.specs.Chains.{AreSpelt, FeedChainsAreWhole, Gives, IsChain, IsChainAfter, IsSpelt, NextIsSpelt, PinsRange, Sees, Turn, answer_at, by_changes, linked_change, next_in, next_token}
use Rattle.share_reply.specs.Feeds.{ChangesQuery, FeedStart, changes_page, feed_cursor, feed_page, lists_all, start_at, unrestricted_changes}
use Rattle.share_reply.specs.Pages.{next_place}
use Rattle.share_reply.specs.declared.keys.ReplyKeys.{ReplyKeys}
use Rattle.share_reply.proofs.AtTable.{AtTable, at_table}
use Rattle.share_reply.proofs.ChainCore.{NextIs, end_says, one_page, read_again}
use Rattle.share_reply.proofs.FeedPaged.{FirstFeed, LaterFeed, Ranged, first, later as later_page, shared_whole}
use Rattle.share_book.proofs.Versions.{IsWhole}
use Rattle.share_reply.proofs.SeenTable.{Grown, IsBound, either_log, is_bound, is_whole}

says_next : (keys : ReplyKeys) (a : TableAccess) (now : ℕ) (q : ChangesQuery) (start : FeedStart) (protocol : Protocol) (meta : MetaData) (changes : List ChangedFile)
    → NextIs (feed_cursor a start) (next_place lists_all q.max start.place changes) (next_in (feed_page keys a now q start protocol meta changes))
says_next keys a now q start protocol meta changes = end_says (feed_cursor a start) lists_all q.max (is_some q.token) start.place changes _

-- ---- a turn's answer

abbrev pub TurnAt : ReplyKeys → TableName → Turn ChangesQuery → Page → Type 0
TurnAt keys name t p = AtTable (token t.digest) t.point name (feed_part keys t.query.from t.query.to t.query.token) (λ spot a x. unrestricted_changes keys spot.only a t.moment t.query x) p

pub turn_at : (keys : ReplyKeys) (name : TableName) (t : Turn ChangesQuery) (p : Page) → answer_at by_changes keys name t ≡ page p → TurnAt keys name t p
turn_at keys name t p e =
    at_table keys (token t.digest) t.point t.moment name (feed_part keys t.query.from t.query.to t.query.token) (what.Changes name t.query.from t.query.to t.query.max t.query.token) (λ spot a x. unrestricted_changes keys spot.only a t.moment t.query x) p
    (view_by t.point (token t.digest)) (λ r x. refl) refl e

bound_at : (keys : ReplyKeys) (name : TableName) (t : Turn ChangesQuery) (p : Page) (T : TurnAt keys name t p) → IsBound t.point name T.spot (log_in T.view name)
bound_at keys name t p T = is_bound t.point (token t.digest) T.view name T.spot T.is_view T.is_spot

sees_at : (keys : ReplyKeys) (name : TableName) (t : Turn ChangesQuery) (p : Page) (T : TurnAt keys name t p) → Sees t name T.spot (log_in T.view name) (access T.view.catalog.recipient name T.spot)
sees_at keys name t p T = record { view = T.view; is_view = T.is_view; is_spot = T.is_spot; is_log = refl; is_access = refl }

-- its table is shared whole, and so is its log
pub record Unrestricted (keys : ReplyKeys) (name : TableName) (t : Turn ChangesQuery) (p : Page) (T : TurnAt keys name t p) : Type 0 where
  pub none : T.spot.only ≡ None
  pub whole : IsWhole (log_in T.view name)
  pub page_is : changes_page keys (access T.view.catalog.recipient name T.spot) t.moment t.query (found_of T.spot (log_in T.view name) (feed_part keys t.query.from t.query.to t.query.token)) ≡ Ok p

pub unrestricted_at : (keys : ReplyKeys) (name : TableName) (t : Turn ChangesQuery) (p : Page) (T : TurnAt keys name t p) → Unrestricted keys name t p T
unrestricted_at keys name t p T =
    let (none, is) = shared_whole T.spot.only _ p T.page_is in
    record { none = none; whole = is_whole t.point name T.spot (log_in T.view name) (bound_at keys name t p T) none; page_is = is }

-- ---- a later point

-- what is known of a cursor at the point where it was given: the range has these changes
record Held (point : List Entry) (name : TableName) (c : FeedCursor) (changes : List ChangedFile) : Type 0 where
  spot : Spot
  log : Log
  is_bound : IsBound point name spot log
  binding : spot.binding ≡ c.access.binding
  none : spot.only ≡ None
  kept : c.to < length log.commits
  is_feed : feed_of log.commits c.from c.to ≡ Ok changes

same_changes : (r r' : Result (List ChangedFile) ℕ) (xs ys : List ChangedFile) → r ≡ Ok xs → r' ≡ Ok ys → r' ≡ r → ys ≡ xs
same_changes r r' xs ys e f g = cc

page_same : (keys : ReplyKeys) (a a' : TableAccess) (now : ℕ) (q : ChangesQuery) (start : FeedStart) (protocol : Protocol) (meta : MetaData) (xs ys : List ChangedFile) → a ≡ a' → xs ≡ ys → feed_page keys a now q start protocol meta xs ≡ feed_page keys a' now q start protocol meta ys
page_same keys a a' now q start protocol meta xs ys e g = λ i. feed_page keys (e i) now q start protocol meta (g i)

grown_feeds : (only : Option (List ℕ)) (log log' : Log) (from to : ℕ) → Grown only log log' → only ≡ None → to < length log.commits → feed_of log'.commits from to ≡ feed_of log.commits from to
grown_feeds only log log' from to g none kept = let (more, grown) = g.commits none in ap (λ (cs : List (List Action)). feed_of cs from to) grown ∙ later_commits_leave log.commits more from to kept

either_feeds : (only only' : Option (List ℕ)) (log log' : Log) (from to : ℕ) → Grown only log log' ⊎ Grown only' log' log → only ≡ None → only' ≡ None → to < length log.commits → to < length log'.commits
    → feed_of log'.commits from to ≡ feed_of log.commits from to
either_feeds only only' log log' from to (inl g) none none' kept kept' = grown_feeds only log log' from to g none kept
either_feeds only only' log log' from to (inr g) none none' kept kept' = sym (grown_feeds only' log' log from to g none' kept')

-- of whose turns nothing more is asked
abbrev Any : Turn ChangesQuery → Type 0
Any t = ⊤

all_turns : (ts : List (Turn ChangesQuery)) → All Any ts
all_turns [] = All-nil Any
all_turns (t ∷ ts) = All-cons Any t ts tt (all_turns ts)

later : (keys : ReplyKeys) (name : TableName) (ts : List (Turn ChangesQuery)) (history before : List Entry) (c : FeedCursor) (changes : List ChangedFile) → IsPrefix before history → Held before name c changes
    → IsSpelt keys (cursor.Feed c) → AreSpelt by_changes keys name ts → IsChainAfter by_changes keys name history (Some (token_text keys.token (cursor.Feed c))) ts
    → Gives by_changes keys name (linked_change keys c.access) ts (filter lists_all (drop c.place changes))
later keys name [] history before c changes stands held spelt all chain = absurd chain
later keys name (t ∷ ts) history before c changes stands held spelt (spelt_here, spelt_later) (goes, has, (p, answered, chain)) =
    let T : TurnAt keys name t p = turn_at keys name t p answered in
    let a : TableAccess = access T.view.catalog.recipient name T.spot in
    let log : Log = log_in T.view name in
    let U : Unrestricted keys name t p T = unrestricted_at keys name t p T in
    let P : LaterFeed keys a t.moment t.query c T.spot log p = later_page keys a t.moment t.query c (token_text keys.token (cursor.Feed c)) T.spot log p U.whole (read_again keys (cursor.Feed c) spelt) has U.page_is in
    let here : IsBound t.point name T.spot log = bound_at keys name t p T in
    let binding : T.spot.binding ≡ c.access.binding = ap (λ (x : TableAccess). x.binding) P.same in
    let S : Ranged keys a t.moment t.query (start_at c) p log c.from c.to = P.ranged.ranged in
    let feed_stays : feed_of log.commits c.from c.to ≡ feed_of held.log.commits c.from c.to =
    either_feeds held.spot.only T.spot.only held.log log c.from c.to (either_log history before t.point name held.spot T.spot held.log log held.is_bound here stands goes (binding ∙ sym held.binding)) held.none U.none held.kept S.kept in
    let changes_here : S.changes ≡ changes = same_changes (feed_of held.log.commits c.from c.to) (feed_of log.commits c.from c.to) changes S.changes held.is_feed S.is_feed feed_stays in
    let page_is : p ≡ feed_page keys c.access t.moment t.query (start_at c) S.protocol S.meta changes = S.page_is ∙ page_same keys a c.access t.moment t.query (start_at c) S.protocol S.meta S.changes changes P.same changes_here in
    let answered_here : answer_at by_changes keys name t ≡ page (feed_page keys c.access t.moment t.query (start_at c) S.protocol S.meta changes) = answered ∙ ap page page_is in
    (one_page by_changes keys name (linked_change keys c.access) Any history t ts lists_all t.query.max c.place changes (feed_cursor c.access (start_at c)) (feed_page keys c.access t.moment t.query (start_at c) S.protocol S.meta changes)
    (next_in (feed_page keys c.access t.moment t.query (start_at c) S.protocol S.meta changes)) answered_here refl
    (says_next keys c.access t.moment t.query (start_at c) S.protocol S.meta changes) (subst (NextIsSpelt keys) answered_here spelt_here)
    (subst (λ (x : Page). IsChainAfter by_changes keys name history (next_token keys x) ts) page_is chain)
    tt
    (λ place spelt_next chain_next. (
      later keys name ts history t.point (record { access = c.access; asked_from = c.asked_from; asked_to = c.asked_to; from = c.from; to = c.to; place = place }) changes goes
          (record { spot = T.spot; log = log; is_bound = here; binding = binding; none = U.none; kept = S.kept; is_feed = feed_stays ∙ held.is_feed })
          spelt_next spelt_later chain_next,
      all_turns ts,
    ))).0

-- ---- the whole chain

all_listed : (xs : List ChangedFile) → filter lists_all xs ≡ xs
all_listed [] = refl
all_listed (x ∷ xs) = ap (λ l. x ∷ l) (all_listed xs)

abbrev Whole : ReplyKeys → TableName → Turn ChangesQuery → List (Turn ChangesQuery) → Type 0
Whole keys name t ts = (spot : Spot) × (log : Log) × (a : TableAccess) × Sees t name spot log a × ((changes : List ChangedFile) × PinsRange t.query log changes × Gives by_changes keys name (linked_change keys a) (t ∷ ts) changes)

abbrev start_of : ChangesQuery → ℕ → ℕ → FeedStart
start_of q from to = record { asked_from = asked_at q.from; asked_to = asked_at q.to; from = from; to = to; place = 0 }

whole_if_spelt : (keys : ReplyKeys) (name : TableName) (history : List Entry) (t : Turn ChangesQuery) (ts : List (Turn ChangesQuery)) → IsChain by_changes keys name history t ts → AreSpelt by_changes keys name (t ∷ ts) → Whole keys name t ts
whole_if_spelt keys name history t ts (stands, none, (p, answered, chain)) (spelt_here, spelt_later) =
    let T : TurnAt keys name t p = turn_at keys name t p answered in
    let a : TableAccess = access T.view.catalog.recipient name T.spot in
    let log : Log = log_in T.view name in
    let U : Unrestricted keys name t p T = unrestricted_at keys name t p T in
    let F : FirstFeed keys a t.moment t.query T.spot log p = first keys a t.moment t.query T.spot log p U.whole none U.page_is in
    let start : FeedStart = start_of t.query F.from F.to in
    let S : Ranged keys a t.moment t.query start p log F.from F.to = F.ranged.ranged in
    let answered_here : answer_at by_changes keys name t ≡ page (feed_page keys a t.moment t.query start S.protocol S.meta S.changes) = answered ∙ ap page S.page_is in
    let gives : Gives by_changes keys name (linked_change keys a) (t ∷ ts) (filter lists_all S.changes) =
    (one_page by_changes keys name (linked_change keys a) Any history t ts lists_all t.query.max 0 S.changes (feed_cursor a start) (feed_page keys a t.moment t.query start S.protocol S.meta S.changes)
    (next_in (feed_page keys a t.moment t.query start S.protocol S.meta S.changes)) answered_here refl
    (says_next keys a t.moment t.query start S.protocol S.meta S.changes) (subst (NextIsSpelt keys) answered_here spelt_here)
    (subst (λ (x : Page). IsChainAfter by_changes keys name history (next_token keys x) ts) S.page_is chain)
    tt
    (λ place spelt_next chain_next. (
      later keys name ts history t.point (record { access = a; asked_from = start.asked_from; asked_to = start.asked_to; from = start.from; to = start.to; place = place }) S.changes stands
          (record { spot = T.spot; log = log; is_bound = bound_at keys name t p T; binding = refl; none = U.none; kept = S.kept; is_feed = S.is_feed })
          spelt_next spelt_later chain_next,
      all_turns ts,
    ))).0 in (
      T.spot,
      log,
      a,
      sees_at keys name t p T,
      (S.changes, record { from = F.from; to = F.to; is_from = F.is_from; is_to = F.is_to; is_feed = S.is_feed }, subst (Gives by_changes keys name (linked_change keys a) (t ∷ ts)) (all_listed S.changes) gives),
    )

pub feed_chains_are_whole : FeedChainsAreWhole
feed_chains_are_whole = whole_if_spelt
