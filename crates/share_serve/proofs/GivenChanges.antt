-- Changes of a table that is shared, and objects of links.
use Rattle.std.proofs.Common.{◌≡◌, ℕ, ◌+◌, ◌-◌, ◌≤◌, ◌<◌, List, [], ◌∷◌, Bool, true, false, cond, not, ◌&&◌, length, Option, Some, None, Result, Ok, refl, sym, ap, ◌∙◌, arith, option_map, option_and_then}
use Rattle.std.specs.Prelude.{nat_le, nat_lt, ◌==◌}
use Rattle.std.proofs.lemmas.Bool.Decides.{nat_tests}
use Rattle.case_table.specs.declared.refuse.Refusal.TheVariants.{ChangesRestricted, LinkExpired, LinkRevoked, TokenAhead}
use Rattle.change_feed.specs.Changes.{ChangedFile}
use Rattle.change_feed.specs.Feed.{changes_between, feed_of, first_off, is_on, unless_off}
use Rattle.change_feed.proofs.RangeLemmas.{ranged_feed}
use Rattle.log_actions.specs.Paths.{name_under}
use Rattle.log_actions.specs.declared.actions.MetaData.{MetaData}
use Rattle.log_actions.specs.declared.actions.Protocol.{Protocol}
use Rattle.log_replay.specs.Reconciliation.{last_meta, last_protocol, meta_at}
use Rattle.log_replay.specs.Times.{has_feed}
use Rattle.log_replay.specs.declared.times.Unresolved.{Unresolved}
use Rattle.page_token.specs.declared.cursor.Cursor.{Cursor}
use Rattle.page_token.specs.declared.cursor.FeedCursor.{FeedCursor}
use Rattle.page_token.specs.declared.cursor.TableAccess.{TableAccess}
use Rattle.share_book.specs.History.{edits}
use Rattle.share_book.specs.Looks.{found_in, look_of}
use Rattle.share_book.specs.Parts as parts
use Rattle.share_book.specs.Parts.{feed_between, feed_by, found_of, from_first, resolved_at, unrestricted}
use Rattle.share_book.specs.Shown.{show_part}
use Rattle.share_book.specs.Views.{Log, log_at, shown, view_with}
use Rattle.share_book.specs.declared.entry.Entry.{Entry}
use Rattle.share_book.specs.declared.look.Found.{Found}
use Rattle.share_book.specs.declared.look.Part.TheVariants as part
use Rattle.share_book.specs.declared.look.PartFound.{PartFound}
use Rattle.share_book.specs.declared.look.PartFound.TheVariants as part_found
use Rattle.share_book.specs.declared.look.TableRefusal.TheVariants as refusal
use Rattle.share_book.specs.declared.look.Want.TheVariants as want
use Rattle.share_book.proofs.Versions.{IsWhole, states_whole}
use Rattle.share_catalog.specs.Views as catalog
use Rattle.share_catalog.specs.Views.{Spot}
use Rattle.share_catalog.specs.declared.credential.Credential.{Credential}
use Rattle.share_catalog.specs.declared.table_name.TableName.{TableName}
use Rattle.signed_link.specs.declared.parts.LinkParts.{LinkParts}
use Rattle.file_ranges.specs.declared.span.Span.{Span}
use Rattle.share_reply.specs.Answer.{Answer, of, of_object, page, refused}
use Rattle.share_reply.specs.Asking.{ask_by, asked_at, feed_by as part_by, feed_part, first_bound, last_bound}
use Rattle.share_reply.specs.Feeds as feeds
use Rattle.share_reply.specs.Feeds.{ChangesQuery, FeedStart, agrees, feed_from, feed_page, feed_with, first_start, later_feed, or_off, or_unsupported, page_of_feed, start_at, told_protocol, unrestricted_changes}
use Rattle.share_reply.specs.Links.{linked_object, object_in, object_or}
use Rattle.share_reply.specs.Refusing.{plain, where_all}
use Rattle.share_reply.specs.Replies.{answer_what, answered_at, seen_in, view_asked}
use Rattle.share_reply.specs.declared.keys.ReplyKeys.{ReplyKeys}
use Rattle.share_serve.specs.Entitled.{Asking, ChangesAreGiven, HasFeed, IsFeedToken, IsGiven, LinksAreGiven, Means, Shares, changes_asked, request_for, shared_log}
use Rattle.share_serve.proofs.Asked.{answered_is, passes, spot_at, table_is, view_at}
use Rattle.share_serve.proofs.GivenTables.{log_whole, mine, own_token, page_given, part_at, shown_of}
use Rattle.share_serve.proofs.Meant.{from_is, resolved_is, whole_at}
use Rattle.share_serve.proofs.Metas.{meta_marked, none_within}

-- ---- the changes of a range

forward_is : (spot : Spot) (log : Log) (from to : ℕ) → spot.first ≤ from → from ≤ to → feed_between spot log from to ≡ part_found.Feed (parts.feed_of log from to)
forward_is spot log from to le forward =
    let test : nat_lt to from ≡ false = grind (arith, nat_tests, forward) in
    ap (λ (b : Bool). cond b (part_found.Refused refusal.VersionRange) (from_first spot.first from (part_found.Feed (parts.feed_of log from to)))) test
    ∙ from_is spot.first from (part_found.Feed (parts.feed_of log from to)) le

-- the feed of a part of a whole log
pub range_feed : (log : Log) (from to : ℕ) → IsWhole log → to < length log.commits → feeds.changes_in (parts.feed_of log from to) ≡ or_off (feed_of log.commits from to)
range_feed log from to whole kept =
    ap (λ (l : Log). feeds.changes_in (parts.feed_of l from to)) whole ∙ ap or_off (ranged_feed log.commits from to kept)

ranged_is : (log : Log) (from to : ℕ) (changes : List ChangedFile) → IsWhole log → HasFeed log from to changes → feeds.changes_in (parts.feed_of log from to) ≡ Ok changes
ranged_is log from to changes whole has = range_feed log from to whole has.kept ∙ ap or_off has.is_feed

-- ---- its metaData

none_off : (o : Option ℕ) (xs changes : List ChangedFile) → unless_off o xs ≡ Ok changes → o ≡ None
none_off None xs changes e = refl
none_off (Some version) xs changes e = absurd cc

turned_on : (o : Option MetaData) → not (has_feed o) ≡ false → (m : MetaData) × (o ≡ Some m)
turned_on None e = absurd cc
turned_on (Some m) e = (m, refl)

-- the metaData that holds at the range's last version
pub meta_told : (log : Log) (from to : ℕ) (m : MetaData) → IsWhole log → to < length log.commits → meta_at log.commits to ≡ Some m → last_meta (parts.feed_of log from to).meta ≡ Some m
meta_told log from to m whole kept is = ap (λ (l : Log). last_meta (parts.feed_of l from to).meta) whole ∙ meta_marked log.commits to m kept is

-- where the feed is on there is one
pub meta_is : (log : Log) (from to : ℕ) (changes : List ChangedFile) → IsWhole log → HasFeed log from to changes → (m : MetaData) × (last_meta (parts.feed_of log from to).meta ≡ Some m)
meta_is log from to changes whole has =
    let forward = has.forward in
    let off : first_off log.commits from to ≡ None = none_off (first_off log.commits from to) (changes_between log.commits from to) changes has.is_feed in
    let last : from + (to - from) ≡ to = omega (arith, forward) in
    let on = none_within (λ version. not (is_on log.commits version)) from (to + 1 - from) (to - from) off (omega (arith, forward)) in
    let m = turned_on (meta_at log.commits to) (ap (λ version. not (is_on log.commits version)) (sym last) ∙ on) in
    (m.0, meta_told log from to m.0 whole has.kept m.1)

-- the protocol that is told of the range
abbrev protocol_in : Log → ℕ → ℕ → Protocol
protocol_in log from to = told_protocol (last_protocol (parts.feed_of log from to).protocol)

page_is : (keys : ReplyKeys) (x : TableAccess) (now : ℕ) (q : ChangesQuery) (s : FeedStart) (log : Log) (from to : ℕ) (changes : List ChangedFile) (meta : MetaData) → IsWhole log → HasFeed log from to changes → last_meta (parts.feed_of log from to).meta ≡ Some meta → s.place ≤ length changes
    → page_of_feed keys x now q s (parts.feed_of log from to) ≡ Ok (feed_page keys x now q s (protocol_in log from to) meta changes)
page_is keys x now q s log from to changes meta whole has is_meta within =
    let test : nat_le s.place (length changes) ≡ true = grind (arith, nat_tests, within) in
    ap (feeds.with_changes keys x now q s (protocol_in log from to) (last_meta (parts.feed_of log from to).meta)) (ranged_is log from to changes whole has)
    ∙ passes (nat_le s.place (length changes)) TokenAhead [] (feeds.with_meta keys x now q s (protocol_in log from to) changes (or_unsupported (last_meta (parts.feed_of log from to).meta))) test
    ∙ ap (λ (o : Option MetaData). feeds.with_meta keys x now q s (protocol_in log from to) changes (or_unsupported o)) is_meta

-- what a query of changes is answered of the table
changes_are : (a : Asking) (name : TableName) (t : Shares a.point a.recipient name) (q : ChangesQuery)
    → answered_at a.keys a.point a.now (request_for a (changes_asked name q))
    ≡ of page (unrestricted_changes a.keys t.binding.only (mine a name t) a.now q (part_at a name t (feed_part a.keys q.from q.to q.token)))
changes_are a name t q =
    answered_is a (changes_asked name q)
    ∙ ap (λ (f : Found). answer_what a.keys a.recipient a.now (changes_asked name q) f) (table_is a.point a.recipient a.credential name (feed_part a.keys q.from q.to q.token) t)

-- of a table that is shared in part
pub changes_restricted : (a : Asking) (name : TableName) (t : Shares a.point a.recipient name) (q : ChangesQuery) (only : List ℕ) → t.binding.only ≡ Some only
    → answered_at a.keys a.point a.now (request_for a (changes_asked name q)) ≡ refused (plain ChangesRestricted)
changes_restricted a name t q only is =
    changes_are a name t q
    ∙ ap (λ (o : Option (List ℕ)). of page (unrestricted_changes a.keys o (mine a name t) a.now q (part_at a name t (feed_part a.keys q.from q.to q.token)))) is

-- and of one that isn't
changes_whole : (a : Asking) (name : TableName) (t : Shares a.point a.recipient name) (q : ChangesQuery) → t.binding.only ≡ None
    → answered_at a.keys a.point a.now (request_for a (changes_asked name q)) ≡ of page (feed_with a.keys (mine a name t) a.now q q.token (part_at a name t (feed_part a.keys q.from q.to q.token)))
changes_whole a name t q none =
    changes_are a name t q
    ∙ ap (λ (o : Option (List ℕ)). of page (unrestricted_changes a.keys o (mine a name t) a.now q (part_at a name t (feed_part a.keys q.from q.to q.token)))) none

range_is : (spot : Spot) (log : Log) (q : ChangesQuery) (from to : ℕ) → IsWhole log → spot.only ≡ None → spot.history ≡ true → spot.first ≤ from
    → Means log (first_bound (asked_at q.from)) from → Means log (last_bound (asked_at q.to)) to → from ≤ to
    → found_of spot log (part.Feed (first_bound (asked_at q.from)) (last_bound (asked_at q.to))) ≡ part_found.Feed (parts.feed_of log from to)
range_is spot log q from to whole none history le means_from means_to forward =
    let first = first_bound (asked_at q.from) in
    let last = last_bound (asked_at q.to) in
    ap (λ (o : Option (List ℕ)). unrestricted o (cond (not spot.history) (part_found.Refused refusal.NoHistory) (feed_by spot log (resolved_at log first) (resolved_at log last)))) none
    ∙ ap (λ (b : Bool). cond (not b) (part_found.Refused refusal.NoHistory) (feed_by spot log (resolved_at log first) (resolved_at log last))) history
    ∙ ap (λ (r : Result ℕ Unresolved). feed_by spot log r (resolved_at log last)) (resolved_is log first from whole means_from)
    ∙ ap (λ (r : Result ℕ Unresolved). feed_by spot log (Ok from) r) (resolved_is log last to whole means_to)
    ∙ forward_is spot log from to le forward

first_given : (a : Asking) (name : TableName) (t : Shares a.point a.recipient name) (q : ChangesQuery) (from to : ℕ) (changes : List ChangedFile) (log : Log) → log ≡ shared_log a.point a.recipient name t → q.token ≡ None
    → t.binding.only ≡ None → t.binding.history ≡ true → t.binding.first ≤ from
    → Means log (first_bound (asked_at q.from)) from → Means log (last_bound (asked_at q.to)) to → HasFeed log from to changes → IsGiven a (changes_asked name q) (Some to)
first_given a name t q from to changes log is none only history le means_from means_to has =
    let start : FeedStart = first_start q (parts.feed_of log from to) in
    let whole = log_whole a name t log is in
    let meta = meta_is log from to changes whole has in
    page_given a (changes_asked name q) (feed_page a.keys (mine a name t) a.now q start (protocol_in log from to) meta.0 changes) (
    changes_whole a name t q only
    ∙ ap (λ (o : Option (List ℕ)). of page (feed_with a.keys (mine a name t) a.now q o (part_at a name t (feed_part a.keys q.from q.to o)))) none
    ∙ ap (λ (l : Log). of page (feed_from a.keys (mine a name t) a.now q (first_start q) (shown_of a name t.binding (part.Feed (first_bound (asked_at q.from)) (last_bound (asked_at q.to))) l))) (sym is)
    ∙ ap
    (λ (x : PartFound). of page (feed_from a.keys (mine a name t) a.now q (first_start q) (show_part t.binding.only x)))
    (range_is (spot_at a.point a.recipient name t) log q from to whole only history le means_from means_to has.forward)
    ∙ ap (of page) (page_is a.keys (mine a name t) a.now q start log from to changes meta.0 whole has meta.1 (omega arith))
    )

pinned_is : (spot : Spot) (log : Log) (from to : ℕ) → IsWhole log → spot.only ≡ None → spot.first ≤ from → to < length log.commits → found_of spot log (part.PinnedFeed from to) ≡ part_found.Feed (parts.feed_of log from to)
pinned_is spot log from to whole none le kept =
    let all = states_whole log whole in
    let test : nat_lt to (length log.states) ≡ true = grind (arith, nat_tests, kept, all) in
    let feed : PartFound = part_found.Feed (parts.feed_of log from to) in
    ap (λ (o : Option (List ℕ)). unrestricted o (cond (nat_lt to (length log.states)) (from_first spot.first from feed) (part_found.Refused refusal.Ahead))) none
    ∙ ap (λ (b : Bool). cond b (from_first spot.first from feed) (part_found.Refused refusal.Ahead)) test
    ∙ from_is spot.first from feed le

later_given : (a : Asking) (name : TableName) (t : Shares a.point a.recipient name) (q : ChangesQuery) (text : List ℕ) (c : FeedCursor) → q.token ≡ Some text → t.binding.only ≡ None
    → IsFeedToken a name (shared_log a.point a.recipient name t) t.binding q text c → IsGiven a (changes_asked name q) (Some c.to)
later_given a name t q text c has only is =
    let log : Log = shared_log a.point a.recipient name t in
    let whole = whole_at a.point t.binding.location in
    let feed : PartFound = part_found.Feed (parts.feed_of log c.from c.to) in
    let meta = meta_is log c.from c.to is.changes whole is.feed in
    page_given a (changes_asked name q) (feed_page a.keys (mine a name t) a.now q (start_at c) (protocol_in log c.from c.to) meta.0 is.changes) (
    changes_whole a name t q only
    ∙ ap (λ (o : Option (List ℕ)). of page (feed_with a.keys (mine a name t) a.now q o (part_at a name t (feed_part a.keys q.from q.to o)))) has
    ∙ ap (λ (o : Option Cursor). of page (feeds.feed_by a.keys (mine a name t) a.now q o (part_at a name t (part_by o)))) is.is_cursor
    ∙ ap
    (λ (x : PartFound). of page (later_feed a.keys (mine a name t) a.now q c (show_part t.binding.only x)))
    (pinned_is (spot_at a.point a.recipient name t) log c.from c.to whole only is.from_first is.feed.kept)
    ∙ ap (of page) (own_token c.access (mine a name t) (agrees q c) _ _ _ (feed_from a.keys (mine a name t) a.now q (λ f. start_at c) feed) is.own is.agrees)
    ∙ ap (of page) (page_is a.keys (mine a name t) a.now q (start_at c) log c.from c.to is.changes meta.0 whole is.feed meta.1 is.within)
    )

pub changes_are_given : ChangesAreGiven
changes_are_given = record { first = first_given; later = later_given }

-- ---- links

-- what is answered to a link that was read so
abbrev pub to_link : List Entry → ℕ → Option Span → Option LinkParts → Answer
to_link point now span o = of_object span (linked_object (option_and_then (seen_in (option_and_then (view_asked point) (ask_by o))) (ask_by o)) now o)

pub same_number : (n m : ℕ) → m ≡ n → (n == m) ≡ true
same_number n m e = grind (arith, nat_tests, e)

pub links_are_given : LinksAreGiven
links_are_given keys point now r name is =
    let link : LinkParts = is.link in
    let w = want.Table link.table part.Place in
    let spot = spot_at point link.recipient link.table is.stands.shares in
    let fresh : nat_le link.expires now ≡ false = (let before = is.is_fresh in grind (arith, nat_tests, before)) in
    let seen = found_in found_of (view_at point link.recipient is.stands.credential) w in
    ap (to_link point now r.span) is.is_link
    ∙ ap
    (λ (o : Option Credential). of_object r.span (linked_object (look_of (option_map (view_with (edits point) (shown (log_at point))) (option_map (catalog.view_with (edits point) link.recipient) o)) w) now (Some link)))
    is.stands.is_credential
    ∙ ap (λ (b : Bool). of_object r.span (where_all ((not b, LinkExpired) ∷ []) (object_in link seen))) fresh
    ∙ ap (λ (f : Found). of_object r.span (object_in link f)) (table_is point link.recipient is.stands.credential link.table part.Place is.stands.shares)
    ∙ ap
    (of_object r.span)
    (passes (spot.grant == link.grant && spot.binding == link.binding) LinkRevoked [] (object_or (name_under spot.location link.path))
    (λ i. same_number spot.grant link.grant is.stands.grant i && same_number spot.binding link.binding is.stands.binding i))
    ∙ ap (λ (o : Option (List ℕ)). of_object r.span (object_or o)) is.is_name
