-- The laws of tables that are shared in part.
use Rattle.std.proofs.Common.{◌≡◌, ℕ, ℤ, zero, suc, ◌+◌, ◌-◌, ◌≤◌, List, [], ◌∷◌, Bool, true, false, cond, Contains, Option, Some, None, Result, Ok, Err, refl, sym, ap, ◌∙◌, subst, length, map, drop, filter, arith}
use Rattle.std.specs.Prelude.{All, IfSome, filter_map, flat_map}
use Rattle.std.specs.FinMap as maps
use Rattle.std.specs.List.{cons_option, list_any, range_with_len}
use Rattle.std.proofs.lemmas.List.Elements.{All-append, All-cons, All-contains_itself, All-drop, All-filter, All-head, All-map, All-nil, All-tail, All-take, All-weaker, filter_passes}
use Rattle.change_feed.specs.Changes.{ChangedFile, file_change, is_cdc, row_change}
use Rattle.change_feed.specs.Feed.{changes_at, commit_at, feed_of, first_off, time_at, unless_off}
use Rattle.delta_lines.specs.declared.kinds.DeltaFile.{DeltaFile}
use Rattle.log_actions.specs.declared.actions.Action.{Action}
use Rattle.log_actions.specs.declared.actions.Action.TheVariants as action
use Rattle.log_actions.specs.declared.actions.AddFile.{AddFile}
use Rattle.log_replay.specs.State.{State}
use Rattle.log_replay.specs.declared.refusal.ReplayRefusal.{ReplayRefusal}
use Rattle.page_token.specs.Cursors.{cursor_of}
use Rattle.page_token.specs.declared.cursor.Cursor.{Cursor}
use Rattle.page_token.specs.declared.cursor.Cursor.TheVariants as cursor
use Rattle.page_token.specs.declared.cursor.FeedCursor.{FeedCursor}
use Rattle.page_token.specs.declared.cursor.TableAccess.{TableAccess}
use Rattle.pred_tree.specs.Shown.{shows}
use Rattle.query_body.specs.declared.query.QueryBody.{QueryBody}
use Rattle.share_book.specs.History.{edits}
use Rattle.share_book.specs.Looks.{log_in, look_of}
use Rattle.share_book.specs.Parts.{found_of, state_at}
use Rattle.share_book.specs.Views.{Log, View, log_at, shown_log, shown_result, shown_state, view_by}
use Rattle.share_book.specs.declared.entry.Entry.{Entry}
use Rattle.share_book.specs.declared.look.Part.{Part}
use Rattle.share_book.specs.declared.look.Part.TheVariants as part
use Rattle.share_book.specs.declared.look.PartFound.{PartFound}
use Rattle.share_book.specs.declared.look.PartFound.TheVariants as part_found
use Rattle.share_book.specs.declared.look.Want.TheVariants as want
use Rattle.share_book.specs.Shown.{IsFrom}
use Rattle.share_book.proofs.Showing.{nothing_before_first}
use Rattle.share_book.proofs.Versions.{IsWhole, shown_get}
use Rattle.share_catalog.specs.Catalogue.{bound}
use Rattle.share_catalog.specs.TableNames.{parts_of}
use Rattle.share_catalog.specs.Views.{Spot, token}
use Rattle.share_catalog.specs.declared.edit.Binding.{Binding}
use Rattle.share_catalog.specs.declared.table_name.TableName.{TableName}
use Rattle.share_request.specs.declared.asked.What.{What}
use Rattle.share_request.specs.declared.asked.What.TheVariants as what
use Rattle.share_reply.specs.Access.{access, expiry}
use Rattle.share_reply.specs.Answer.{Answer, Page, at_version, of, page, refused}
use Rattle.share_reply.specs.Asking.{asked_at, feed_by, feed_part, files_by as part_by, files_part, from_bound, last_bound}
use Rattle.share_reply.specs.Chains.{linked_file}
use Rattle.share_reply.specs.Feeds.{ChangesQuery, FeedStart, changes_page, feed_page, given_change, lists_all, unrestricted_changes}
use Rattle.share_reply.specs.Feeds as feeds
use Rattle.share_reply.specs.Files.{FilesStart, files_by, files_with, first_start, lists, metadata_page, query_page, start_at, version_in}
use Rattle.share_reply.specs.Laws as laws
use Rattle.share_reply.specs.Laws.{HiddenFilesAreNotGiven, IsOfShown, NothingBeforeFirst, RunsOn, versions_told}
use Rattle.share_reply.specs.Pages.{given}
use Rattle.share_reply.specs.Refusing.{Refused}
use Rattle.share_reply.specs.Replies.{answer_to}
use Rattle.share_reply.specs.declared.keys.ReplyKeys.{ReplyKeys}
use Rattle.share_reply.proofs.AtTable.{Asks, AtTable, answer_in, at_table, at_view}
use Rattle.share_reply.proofs.FeedPaged as feed_paged
use Rattle.share_reply.proofs.FeedPaged.{Ranged, shared_whole}
use Rattle.share_reply.proofs.FilesPaged as files_paged
use Rattle.share_reply.proofs.FilesPaged.{First, Later, Stated}
use Rattle.share_reply.proofs.FoundLemmas.{FoundBy, Refuses, found_by}
use Rattle.share_reply.proofs.SeenTable.{IsBound, is_bound, is_whole, marks_kept}

-- ---- the binding that holds

same_bound : (o : Option Binding) (b b' : Binding) → o ≡ Some b → o ≡ Some b' → b' ≡ b
same_bound o b b' is is' = cc

-- ---- pages of files

-- a page of the files of a version
record Filed (keys : ReplyKeys) (now : ℕ) (spot : Spot) (log : Log) (p : Page) : Type 0 where
  version : ℕ
  is_version : p.version ≡ version
  shared : spot.first ≤ version
  state : State
  is_state : state_at log version ≡ Ok state
  a : TableAccess
  test : AddFile → Bool
  most : Option ℕ
  place : ℕ
  content : p.content ≡ map (linked_file keys a now) (given test most place state.files)

among_given : (test : AddFile → Bool) (most : Option ℕ) (place : ℕ) (xs : List AddFile) (P : AddFile → Type 0) → All P xs → All P (given test most place xs)
among_given test None place xs P all = All-filter test P (drop place xs) (All-drop P place xs all)
among_given test (Some most) place xs P all = All-take P most (filter test (drop place xs)) (All-filter test P (drop place xs) (All-drop P place xs all))

by_stated : (keys : ReplyKeys) (a : TableAccess) (now : ℕ) (q : QueryBody) (start : FilesStart) (spot : Spot) (log : Log) (p : Page) → spot.first ≤ start.version → Stated keys a now q start p (state_at log start.version) → Filed keys now spot log p
by_stated keys a now q start spot log p shared S = record {
  version = start.version;
  is_version = ap (λ (x : Page). x.version) S.page_is;
  shared = shared;
  state = S.state;
  is_state = S.is_state;
  a = a;
  test = lists start.hint S.state;
  most = q.max;
  place = start.place;
  content = ap (λ (x : Page). x.content) S.page_is;
}

by_cursor : (keys : ReplyKeys) (a : TableAccess) (now : ℕ) (q : QueryBody) (spot : Spot) (log : Log) (p : Page) (text : List ℕ) (o : Option Cursor) → cursor_of keys.token text ≡ o → q.token ≡ Some text
    → query_page keys a now q (found_of spot log (files_part keys q q.token)) ≡ Ok p → files_by keys a now q o (found_of spot log (part_by o)) ≡ Ok p → Filed keys now spot log p
by_cursor keys a now q spot log p text None read has e none = absurd cc
by_cursor keys a now q spot log p text (Some (cursor.List c)) read has e none = absurd cc
by_cursor keys a now q spot log p text (Some (cursor.Feed c)) read has e none = absurd cc
by_cursor keys a now q spot log p text (Some (cursor.Files c)) read has e some =
    let P : Later keys a now q c spot log p = files_paged.later keys a now q c text spot log p read has e in
    by_stated keys a now q (start_at c) spot log p P.shared P.stated

filed : (keys : ReplyKeys) (a : TableAccess) (now : ℕ) (q : QueryBody) (spot : Spot) (log : Log) (p : Page) (o : Option (List ℕ)) → length log.marks ≤ length log.states → q.token ≡ o
    → query_page keys a now q (found_of spot log (files_part keys q q.token)) ≡ Ok p → Filed keys now spot log p
filed keys a now q spot log p None few none e =
    let F : First keys a now q spot log p = files_paged.first keys a now q spot log p few none e in
    by_stated keys a now q (first_start q F.version) spot log p F.shared F.stated
filed keys a now q spot log p (Some text) few has e =
    by_cursor keys a now q spot log p text (cursor_of keys.token text) refl has e
    (sym (ap (λ (o : Option (List ℕ)). files_with keys a now q o (found_of spot log (files_part keys q o))) has) ∙ e)

meta_refuses : Refuses metadata_page
meta_refuses why p e = absurd cc

meta_filed : (keys : ReplyKeys) (now : ℕ) (a : TableAccess) (spot : Spot) (log : Log) (p : Page) (b : _) → metadata_page (found_of spot log (part.Files b)) ≡ Ok p → Filed keys now spot log p
meta_filed keys now a spot log p b e =
    let F : FoundBy spot log b metadata_page p = found_by spot log b metadata_page p meta_refuses e in
    let is : Page = record { version = F.version; protocol = _; meta = _; content = []; end = None } in
    let same : p ≡ is = files_paged.ok_is is p (metadata_page (part_found.Files F.version F.found.state)) refl F.found.page_is in
    record {
      version = F.version;
      is_version = ap (λ (x : Page). x.version) same;
      shared = F.found.shared;
      state = F.found.state;
      is_state = F.found.is_state;
      a = a;
      test = λ f. true;
      most = Some 0;
      place = 0;
      content = ap (λ (x : Page). x.content) same;
    }

-- ---- no hidden file

-- a version of a log that is shown by a text is a version of the log
shown_of : (text : List ℕ) (r : Result State ReplayRefusal) (s : State) → shown_result (Some text) r ≡ Ok s → (whole : State) × (r ≡ Ok whole) × (s ≡ shown_state (Some text) whole)
shown_of text (Ok whole) s e = (whole, refl, cc)
shown_of text (Err why) s e = absurd cc

both : (P Q : AddFile → Type 0) (xs : List AddFile) → All P xs → All Q xs → All (λ f. P f × Q f) xs
both P Q xs h g = λ k d lt. (h k d lt, g k d lt)

-- the files that the text shows are of the whole, and shown
shown_among : (text : List ℕ) (whole : State) → All (λ f. Contains whole.files f × (shows (Some text) whole.meta f ≡ true)) (shown_state (Some text) whole).files
shown_among text whole =
    let test : AddFile → Bool = shows (Some text) whole.meta in
    both (Contains whole.files) (λ f. test f ≡ true) (filter test whole.files) (All-filter test (Contains whole.files) whole.files (All-contains_itself whole.files)) (filter_passes test whole.files)

lines_shown : (keys : ReplyKeys) (now : ℕ) (spot : Spot) (log : Log) (p : Page) (text : List ℕ) (whole : State) (F : Filed keys now spot log p) → F.state ≡ shown_state (Some text) whole → All (IsOfShown keys now text whole) p.content
lines_shown keys now spot log p text whole F same =
    let Q : AddFile → Type 0 = λ f. Contains whole.files f × (shows (Some text) whole.meta f ≡ true) in
    let files : List AddFile = given F.test F.most F.place F.state.files in
    let all : All Q files = among_given F.test F.most F.place F.state.files Q (subst (λ (s : State). All Q s.files) (sym same) (shown_among text whole)) in
    subst (All (IsOfShown keys now text whole)) (sym F.content)
    (All-map (IsOfShown keys now text whole) (linked_file keys F.a now) files (All-weaker Q (λ f. IsOfShown keys now text whole (linked_file keys F.a now f)) (λ f q. (f, q.0, q.1, (F.a, refl))) files all))

abbrev GivesShown : ReplyKeys → ℕ → List Entry → Binding → List ℕ → Page → Type 0
GivesShown keys now history b text p = (state : State) × (state_at (log_at history b.location) p.version ≡ Ok state) × All (IsOfShown keys now text state) p.content

gives_shown : (keys : ReplyKeys) (now : ℕ) (history : List Entry) (name : TableName) (spot : Spot) (log : Log) (b : Binding) (text : List ℕ) (p : Page) → IsBound history name spot log → bound (edits history) name ≡ Some b → b.only ≡ Some text → Filed keys now spot log p → GivesShown keys now history b text p
gives_shown keys now history name spot log b text p s is only F =
    let same : s.binding ≡ b = same_bound (bound (edits history) name) b s.binding is s.is_bound in
    let only_is : spot.only ≡ Some text = s.only ∙ ap (λ (x : Binding). x.only) same ∙ only in
    let location : spot.location ≡ b.location = s.location ∙ ap (λ (x : Binding). x.location) same in
    let log_is : log ≡ shown_log (Some text) (log_at history b.location) = s.is_log ∙ (λ i. shown_log (only_is i) (log_at history (location i))) in
    let state_is : shown_result (Some text) (state_at (log_at history b.location) F.version) ≡ Ok F.state = sym (shown_get text (log_at history b.location) F.version) ∙ ap (λ (l : Log). state_at l F.version) (sym log_is) ∙ F.is_state in
    let (whole, whole_is, shown_is) = shown_of text (state_at (log_at history b.location) F.version) F.state state_is in
    (whole, ap (state_at (log_at history b.location)) F.is_version ∙ whole_is, lines_shown keys now spot log p text whole F shown_is)

-- a restricted binding has no page of changes
restricted : (only : Option (List ℕ)) (text : List ℕ) → only ≡ None → only ≡ Some text → ⊥
restricted only text none some = cc

no_version : (r : Result ℕ Refused) (p : Page) → of at_version r ≡ page p → ⊥
no_version (Ok v) p e = cc
no_version (Err why) p e = cc

pub hidden_files_are_not_given : HiddenFilesAreNotGiven
hidden_files_are_not_given keys history now digest r f name w b text p (laws.version from) is only e =
    at_view keys (token digest) history now name (part.Head (from_bound from)) (what.Version name from) (λ s a x. of at_version (version_in x)) (λ answer. answer ≡ page p → GivesShown keys now history b text p) (view_by history (token digest)) (λ r x. refl)
    (λ why no. absurd cc) (λ view spot v at same. absurd (no_version (version_in (found_of spot (log_in view name) (part.Head (from_bound from)))) p same)) refl e
hidden_files_are_not_given keys history now digest r f name w b text p (laws.metadata at) is only e =
    let T : AtTable (token digest) history name (part.Files (last_bound (asked_at at))) (λ s a x. metadata_page x) p =
    at_table keys (token digest) history now name (part.Files (last_bound (asked_at at))) (what.Metadata name at) (λ s a x. metadata_page x) p (view_by history (token digest)) (λ r x. refl) refl e in
    let s = is_bound history (token digest) T.view name T.spot T.is_view T.is_spot in
    gives_shown keys now history name T.spot (log_in T.view name) b text p s is only (meta_filed keys now (access T.view.catalog.recipient name T.spot) T.spot (log_in T.view name) p (last_bound (asked_at at)) T.page_is)
hidden_files_are_not_given keys history now digest r f name w b text p (laws.query q) is only e =
    let T : AtTable (token digest) history name (files_part keys q q.token) (λ s a x. query_page keys a now q x) p =
    at_table keys (token digest) history now name (files_part keys q q.token) (what.Query name q) (λ s a x. query_page keys a now q x) p (view_by history (token digest)) (λ r x. refl) refl e in
    let s = is_bound history (token digest) T.view name T.spot T.is_view T.is_spot in
    gives_shown keys now history name T.spot (log_in T.view name) b text p s is only
    (filed keys (access T.view.catalog.recipient name T.spot) now q T.spot (log_in T.view name) p q.token (marks_kept history name T.spot (log_in T.view name) s) refl T.page_is)
hidden_files_are_not_given keys history now digest r f name w b text p (laws.changes from to max t) is only e =
    let q : ChangesQuery = record { from = from; to = to; max = max; token = t } in
    let T : AtTable (token digest) history name (feed_part keys from to t) (λ s a x. unrestricted_changes keys s.only a now q x) p =
    at_table keys (token digest) history now name (feed_part keys from to t) (what.Changes name from to max t) (λ s a x. unrestricted_changes keys s.only a now q x) p (view_by history (token digest)) (λ r x. refl) refl e in
    let s = is_bound history (token digest) T.view name T.spot T.is_view T.is_spot in
    let same : s.binding ≡ b = same_bound (bound (edits history) name) b s.binding is s.is_bound in
    let (none, rest) = shared_whole T.spot.only _ p T.page_is in
    absurd (restricted T.spot.only text none (s.only ∙ ap (λ (x : Binding). x.only) same ∙ only))

-- ---- changes

-- a change of such a version
abbrev Comes : ℕ → ChangedFile → Type 0
Comes version c = c.version ≡ version

one_of : {X : Type 0} (P : X → Type 0) (o : Option X) (xs : List X) → IfSome o P → All P xs → All P (cons_option o xs)
one_of P None xs h all = all
one_of P (Some x) xs h all = All-cons P x xs h all

row_comes : (version : ℕ) (time : ℤ) (x : Action) → IfSome (row_change version time x) (Comes version)
row_comes version time (action.Protocol a) = tt
row_comes version time (action.MetaData a) = tt
row_comes version time (action.Add a) = tt
row_comes version time (action.Remove a) = tt
row_comes version time (action.Cdc a) = refl
row_comes version time (action.Txn a) = tt
row_comes version time (action.CommitInfo a) = tt

changed : (version : ℕ) (b : Bool) (c : ChangedFile) → Comes version c → IfSome (cond b (Some c) None) (Comes version)
changed version true c is = is
changed version false c is = tt

file_comes : (version : ℕ) (time : ℤ) (x : Action) → IfSome (file_change version time x) (Comes version)
file_comes version time (action.Protocol a) = tt
file_comes version time (action.MetaData a) = tt
file_comes version time (action.Add a) = changed version a.data_change _ refl
file_comes version time (action.Remove a) = changed version a.data_change _ refl
file_comes version time (action.Cdc a) = tt
file_comes version time (action.Txn a) = tt
file_comes version time (action.CommitInfo a) = tt

all_come : (version : ℕ) (f : Action → Option ChangedFile) (xs : List Action) → ((x : Action) → IfSome (f x) (Comes version)) → All (Comes version) (filter_map f xs)
all_come version f [] each = All-nil (Comes version)
all_come version f (x ∷ xs) each = one_of (Comes version) (f x) (filter_map f xs) (each x) (all_come version f xs each)

commit_comes : (version : ℕ) (time : ℤ) (xs : List Action) (b : Bool) → All (Comes version) (cond b (filter_map (row_change version time) xs) (filter_map (file_change version time) xs))
commit_comes version time xs true = all_come version (row_change version time) xs (row_comes version time)
commit_comes version time xs false = all_come version (file_change version time) xs (file_comes version time)

-- a change of a version at or after one
abbrev IsLate : ℕ → ChangedFile → Type 0
IsLate first c = first ≤ c.version

range_late : (log : List (List Action)) (first from n : ℕ) → first ≤ from → All (IsLate first) (flat_map (changes_at log) (range_with_len from n))
range_late log first from zero low = All-nil (IsLate first)
range_late log first from (suc n) low =
    All-append (IsLate first) (changes_at log from) (flat_map (changes_at log) (range_with_len (from + 1) n))
    (All-weaker (Comes from) (IsLate first) (λ c is. omega (arith, is, low)) (changes_at log from) (commit_comes from (time_at log from) (commit_at log from) (list_any is_cdc (commit_at log from))))
    (range_late log first (from + 1) n (omega (arith, low)))

unless_late : (first : ℕ) (o : Option ℕ) (xs ys : List ChangedFile) → All (IsLate first) xs → unless_off o xs ≡ Ok ys → All (IsLate first) ys
unless_late first None xs ys all e = let same : xs ≡ ys = cc in subst (All (IsLate first)) same all
unless_late first (Some version) xs ys all e = absurd cc

feed_late : (log : List (List Action)) (first from to : ℕ) (ys : List ChangedFile) → first ≤ from → feed_of log from to ≡ Ok ys → All (IsLate first) ys
feed_late log first from to ys low e = unless_late first (first_off log from to) _ ys (range_late log first from (to + 1 - from) low) e

-- the version that is told of a file: of a change its own
abbrev version_told : DeltaFile → Option ℕ
version_told f = f.version

changes_told : (keys : ReplyKeys) (a : TableAccess) (expires first : ℕ) (xs : List ChangedFile) → All (IsLate first) xs → All (λ v. first ≤ v) (filter_map version_told (map (given_change keys a expires) xs))
changes_told keys a expires first [] all = All-nil (λ v. first ≤ v)
changes_told keys a expires first (x ∷ xs) all =
    let rest = changes_told keys a expires first xs (All-tail (IsLate first) x xs all) in
    one_of (λ v. first ≤ v) (Some x.version) _ (All-head (IsLate first) x xs all) rest

-- ---- nothing before the first

files_told : (keys : ReplyKeys) (a : TableAccess) (now : ℕ) (xs : List AddFile) → filter_map version_told (map (linked_file keys a now) xs) ≡ []
files_told keys a now [] = refl
files_told keys a now (x ∷ xs) = files_told keys a now xs

abbrev Late : ℕ → Answer → Type 0
Late first answer = All (λ v. first ≤ v) (versions_told answer)

refused_late : (first : ℕ) (why : Refused) → Late first (refused why)
refused_late first why = All-nil (λ v. first ≤ v)

version_late : (first : ℕ) (x : PartFound) → IsFrom first x → Late first (of at_version (version_in x))
version_late first part_found.Nothing from = All-nil (λ v. first ≤ v)
version_late first (part_found.Version v) from = All-cons (λ v. first ≤ v) v [] from (All-nil (λ v. first ≤ v))
version_late first (part_found.Files v s) from = All-nil (λ v. first ≤ v)
version_late first (part_found.Feed f) from = All-nil (λ v. first ≤ v)
version_late first (part_found.Refused why) from = All-nil (λ v. first ≤ v)

-- of a page, if one is given
page_late : (first : ℕ) (r : Result Page Refused) → ((p : Page) → r ≡ Ok p → Late first (page p)) → Late first (of page r)
page_late first (Ok p) each = each p refl
page_late first (Err why) each = refused_late first why

filed_late : (keys : ReplyKeys) (now : ℕ) (spot : Spot) (log : Log) (p : Page) → Filed keys now spot log p → Late spot.first (page p)
filed_late keys now spot log p F =
    let none : filter_map version_told p.content ≡ [] = ap (filter_map version_told) F.content ∙ files_told keys F.a now (given F.test F.most F.place F.state.files) in
    All-cons (λ v. spot.first ≤ v) p.version _ (subst (λ (v : ℕ). spot.first ≤ v) (sym F.is_version) F.shared) (subst (All (λ v. spot.first ≤ v)) (sym none) (All-nil (λ v. spot.first ≤ v)))

ranged_late : (keys : ReplyKeys) (a : TableAccess) (now : ℕ) (q : ChangesQuery) (start : FeedStart) (p : Page) (spot : Spot) (log : Log) → start.from ≤ start.to → feed_paged.Shared keys a now q start p spot log start.from start.to → Late spot.first (page p)
ranged_late keys a now q start p spot log order S =
    let R : Ranged keys a now q start p log start.from start.to = S.ranged in
    let low = S.shared in
    let here : Page = feed_page keys a now q start R.protocol R.meta R.changes in
    let late : All (IsLate spot.first) (given lists_all q.max start.place R.changes) = given_late q.max (feed_late log.commits spot.first start.from start.to R.changes low R.is_feed) in
    subst (λ (x : Page). Late spot.first (page x)) (sym R.page_is)
    (All-cons (λ v. spot.first ≤ v) here.version _ (omega (arith, low, order)) (changes_told keys a (expiry keys now) spot.first (given lists_all q.max start.place R.changes) late)) where
      given_late : (most : Option ℕ) → All (IsLate spot.first) S.ranged.changes → All (IsLate spot.first) (given lists_all most start.place S.ranged.changes)
      given_late None all = All-filter lists_all (IsLate spot.first) _ (All-drop (IsLate spot.first) start.place S.ranged.changes all)
      given_late (Some most) all = All-take (IsLate spot.first) most _ (All-filter lists_all (IsLate spot.first) _ (All-drop (IsLate spot.first) start.place S.ranged.changes all))

feed_cursor_late : (keys : ReplyKeys) (a : TableAccess) (now : ℕ) (q : ChangesQuery) (spot : Spot) (log : Log) (p : Page) (text : List ℕ) (o : Option Cursor) → IsWhole log → ((c : FeedCursor) → o ≡ Some (cursor.Feed c) → c.from ≤ c.to) → cursor_of keys.token text ≡ o → q.token ≡ Some text
    → changes_page keys a now q (found_of spot log (feed_part keys q.from q.to q.token)) ≡ Ok p → feeds.feed_by keys a now q o (found_of spot log (feed_by o)) ≡ Ok p → Late spot.first (page p)
feed_cursor_late keys a now q spot log p text None whole on read has e none = absurd cc
feed_cursor_late keys a now q spot log p text (Some (cursor.List c)) whole on read has e none = absurd cc
feed_cursor_late keys a now q spot log p text (Some (cursor.Files c)) whole on read has e none = absurd cc
feed_cursor_late keys a now q spot log p text (Some (cursor.Feed c)) whole on read has e some =
    let P : feed_paged.LaterFeed keys a now q c spot log p = feed_paged.later keys a now q c text spot log p whole read has e in
    ranged_late keys a now q (feeds.start_at c) p spot log (on c refl) P.ranged

changes_late : (keys : ReplyKeys) (a : TableAccess) (now : ℕ) (q : ChangesQuery) (spot : Spot) (log : Log) (p : Page) (o : Option (List ℕ)) → IsWhole log → RunsOn keys o → q.token ≡ o
    → changes_page keys a now q (found_of spot log (feed_part keys q.from q.to q.token)) ≡ Ok p → Late spot.first (page p)
changes_late keys a now q spot log p None whole on none e =
    let F : feed_paged.FirstFeed keys a now q spot log p = feed_paged.first keys a now q spot log p whole none e in
    ranged_late keys a now q (record { asked_from = asked_at q.from; asked_to = asked_at q.to; from = F.from; to = F.to; place = 0 }) p spot log F.order F.ranged
changes_late keys a now q spot log p (Some text) whole on has e =
    feed_cursor_late keys a now q spot log p text (cursor_of keys.token text) whole on refl has e
    (sym (ap (λ (o : Option (List ℕ)). feeds.feed_with keys a now q o (found_of spot log (feed_part keys q.from q.to o))) has) ∙ e)

-- the first version that the binding shares is the spot's
first_bound : (history : List Entry) (digest : List ℕ) (name : TableName) (view : View) (spot : Spot) (b : Binding) → view_by history (token digest) ≡ Some view → maps.get view.catalog.tables (parts_of name) ≡ Some spot → bound (edits history) name ≡ Some b → spot.first ≡ b.first
first_bound history digest name view spot b v at is =
    let s = is_bound history (token digest) view name spot v at in
    s.first ∙ ap (λ (x : Binding). x.first) (same_bound (bound (edits history) name) b s.binding is s.is_bound)

-- what is answered from each view is late enough
late_at : (keys : ReplyKeys) (history : List Entry) (now : ℕ) (digest : List ℕ) (name : TableName) (part : Part) (w : What) (g : Spot → TableAccess → PartFound → Answer) (b : Binding) → Asks keys now w name g → bound (edits history) name ≡ Some b
    → ((view : View) (spot : Spot) → IsBound history name spot (log_in view name) → Late spot.first (answer_in name part g view spot))
    → Late b.first (answer_to keys now (Ok w) (look_of (view_by history (token digest)) (want.Table name part)))
late_at keys history now digest name part w g b asks is each =
    at_view keys (token digest) history now name part w g (Late b.first) (view_by history (token digest)) asks (refused_late b.first)
    (λ view spot v at. subst (λ (n : ℕ). Late n (answer_in name part g view spot)) (first_bound history digest name view spot b v at is) (each view spot (is_bound history (token digest) view name spot v at)))
    refl

pub nothing_is_before_first : NothingBeforeFirst
nothing_is_before_first keys history now digest r f name w b (laws.version from) on is =
    late_at keys history now digest name (part.Head (from_bound from)) (what.Version name from) (λ s a x. of at_version (version_in x)) b (λ r x. refl) is
    (λ view spot s. version_late spot.first (found_of spot (log_in view name) (part.Head (from_bound from))) (nothing_before_first spot (log_in view name) (part.Head (from_bound from))))
nothing_is_before_first keys history now digest r f name w b (laws.metadata at) on is =
    let bd = last_bound (asked_at at) in
    late_at keys history now digest name (part.Files bd) (what.Metadata name at) (λ s a x. of page (metadata_page x)) b (λ r x. refl) is
    (λ view spot s. page_late spot.first (metadata_page (found_of spot (log_in view name) (part.Files bd))) (λ p e. filed_late keys now spot (log_in view name) p (meta_filed keys now (access view.catalog.recipient name spot) spot (log_in view name) p bd e)))
nothing_is_before_first keys history now digest r f name w b (laws.query q) on is =
    late_at keys history now digest name (files_part keys q q.token) (what.Query name q) (λ s a x. of page (query_page keys a now q x)) b (λ r x. refl) is
    (λ view spot s. page_late spot.first (query_page keys (access view.catalog.recipient name spot) now q (found_of spot (log_in view name) (files_part keys q q.token)))
    (λ p e. filed_late keys now spot (log_in view name) p (filed keys (access view.catalog.recipient name spot) now q spot (log_in view name) p q.token (marks_kept history name spot (log_in view name) s) refl e)))
nothing_is_before_first keys history now digest r f name w b (laws.changes from to max t) on is =
    let q : ChangesQuery = record { from = from; to = to; max = max; token = t } in
    late_at keys history now digest name (feed_part keys from to t) (what.Changes name from to max t) (λ s a x. of page (unrestricted_changes keys s.only a now q x)) b (λ r x. refl) is
    (λ view spot s. page_late spot.first (unrestricted_changes keys spot.only (access view.catalog.recipient name spot) now q (found_of spot (log_in view name) (feed_part keys from to t)))
    (λ p e. let (none, rest) = shared_whole spot.only _ p e in changes_late keys (access view.catalog.recipient name spot) now q spot (log_in view name) p t (is_whole history name spot (log_in view name) s none) on refl rest))
