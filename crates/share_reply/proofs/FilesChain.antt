-- The pages of a chain are the files of the version that the first one was of.
use Rattle.std.proofs.Common.{◌≡◌, ℕ, ◌<◌, List, [], ◌∷◌, ◌++◌, Some, Result, Ok, refl, sym, ap, ◌∙◌, subst, length, map, drop, filter}
use Rattle.std.specs.Prelude.{All, is_some}
use Rattle.std.proofs.lemmas.List.{map-append}
use Rattle.std.proofs.lemmas.Simd.{map-map}
use mathlib.Core.List.{IsPrefix}
use Rattle.delta_lines.specs.declared.kinds.DeltaFile.{DeltaFile}
use Rattle.delta_lines.specs.declared.kinds.FileAction.{FileAction}
use Rattle.delta_lines.specs.declared.kinds.FileAction.TheVariants as action
use Rattle.log_actions.specs.declared.actions.AddFile.{AddFile}
use Rattle.log_replay.specs.State.{State}
use Rattle.log_replay.specs.declared.refusal.ReplayRefusal.{ReplayRefusal}
use Rattle.page_token.specs.Token.{token_text}
use Rattle.page_token.specs.declared.cursor.Cursor.TheVariants as cursor
use Rattle.page_token.specs.declared.cursor.FilesCursor.{FilesCursor}
use Rattle.page_token.specs.declared.cursor.TableAccess.{TableAccess}
use Rattle.share_book.specs.Looks.{log_in}
use Rattle.share_book.specs.Parts.{state_at}
use Rattle.share_book.specs.Views.{Log, view_by}
use Rattle.share_book.specs.declared.entry.Entry.{Entry}
use Rattle.share_catalog.specs.Views.{Spot, token}
use Rattle.share_catalog.specs.declared.table_name.TableName.{TableName}
use Rattle.share_request.specs.declared.asked.What.TheVariants as what
use Rattle.query_body.specs.declared.query.QueryBody.{QueryBody}
use Rattle.share_reply.specs.Access.{access}
use Rattle.share_reply.specs.Answer.{Page, page}
use Rattle.share_reply.specs.Asking.{files_part}
use Rattle.share_reply.specs.Chains.{AreSpelt, ChainsAreWhole, ChainsGiveActions, Gives, IsChain, IsChainAfter, IsPageOf, IsSpelt, NextIsSpelt, Pins, Sees, Turn, actions_given, answer_at, by_files, linked_file, next_in, next_token}
use Rattle.share_reply.specs.Files.{FilesStart, files_cursor, files_page, first_start, listed_files, lists, query_page, start_at, used_hint}
use Rattle.share_reply.specs.Pages.{next_place}
use Rattle.share_reply.specs.declared.keys.ReplyKeys.{ReplyKeys}
use Rattle.share_reply.proofs.AtTable.{AtTable, at_table}
use Rattle.share_reply.proofs.FilesPaged.{First, Later, Stated, first, later as later_page}
use Rattle.share_reply.proofs.ChainCore.{NextIs, end_says, one_page, read_again}
use Rattle.share_reply.proofs.SeenTable.{IsBound, either_log, either_states, is_bound, marks_kept}

says_next : (keys : ReplyKeys) (a : TableAccess) (now : ℕ) (q : QueryBody) (start : FilesStart) (state : State) → NextIs (files_cursor a start) (next_place (lists start.hint state) q.max start.place state.files) (next_in (files_page keys a now q start state))
says_next keys a now q start state = end_says (files_cursor a start) (lists start.hint state) q.max (is_some q.token) start.place state.files _

-- ---- a turn's answer

abbrev pub TurnAt : ReplyKeys → TableName → Turn QueryBody → Page → Type 0
TurnAt keys name t p = AtTable (token t.digest) t.point name (files_part keys t.query t.query.token) (λ spot a x. query_page keys a t.moment t.query x) p

pub turn_at : (keys : ReplyKeys) (name : TableName) (t : Turn QueryBody) (p : Page) → answer_at by_files keys name t ≡ page p → TurnAt keys name t p
turn_at keys name t p e =
    at_table keys (token t.digest) t.point t.moment name (files_part keys t.query t.query.token) (what.Query name t.query) (λ spot a x. query_page keys a t.moment t.query x) p (view_by t.point (token t.digest)) (λ r x. refl) refl e

abbrev access_of : (keys : ReplyKeys) (name : TableName) (t : Turn QueryBody) (p : Page) → TurnAt keys name t p → TableAccess
access_of keys name t p T = access T.view.catalog.recipient name T.spot

abbrev log_of : (keys : ReplyKeys) (name : TableName) (t : Turn QueryBody) (p : Page) → TurnAt keys name t p → Log
log_of keys name t p T = log_in T.view name

bound_at : (keys : ReplyKeys) (name : TableName) (t : Turn QueryBody) (p : Page) (T : TurnAt keys name t p) → IsBound t.point name T.spot (log_in T.view name)
bound_at keys name t p T = is_bound t.point (token t.digest) T.view name T.spot T.is_view T.is_spot

sees_at : (keys : ReplyKeys) (name : TableName) (t : Turn QueryBody) (p : Page) (T : TurnAt keys name t p) → Sees t name T.spot (log_in T.view name) (access T.view.catalog.recipient name T.spot)
sees_at keys name t p T = record { view = T.view; is_view = T.is_view; is_spot = T.is_spot; is_log = refl; is_access = refl }

-- ---- a later point

-- what is known of a cursor at the point where it was given: its version has this state
record Held (point : List Entry) (name : TableName) (c : FilesCursor) (state : State) : Type 0 where
  spot : Spot
  log : Log
  is_bound : IsBound point name spot log
  binding : spot.binding ≡ c.access.binding
  kept : c.version < length log.states
  is_state : state_at log c.version ≡ Ok state

same_state : (r r' : Result State ReplayRefusal) (s s' : State) → r ≡ Ok s → r' ≡ Ok s' → r' ≡ r → s' ≡ s
same_state r r' s s' is is' e = cc

page_same : (keys : ReplyKeys) (a a' : TableAccess) (now : ℕ) (q : QueryBody) (start : FilesStart) (state state' : State) → a ≡ a' → state ≡ state' → files_page keys a now q start state ≡ files_page keys a' now q start state'
page_same keys a a' now q start state state' e g = λ i. files_page keys (e i) now q start (g i)

-- the cursor of another place
abbrev at_place : FilesCursor → ℕ → FilesCursor
at_place c place = record { access = c.access; asked = c.asked; version = c.version; hint = c.hint; place = place }

-- a later turn: its page is of the state that is known, and so is each cursor that it may give
record Went (keys : ReplyKeys) (name : TableName) (t : Turn QueryBody) (p : Page) (c : FilesCursor) (state : State) : Type 0 where
  page_is : p ≡ files_page keys c.access t.moment t.query (start_at c) state
  held : (place : ℕ) → Held t.point name (at_place c place) state

went : (keys : ReplyKeys) (name : TableName) (t : Turn QueryBody) (p : Page) (history before : List Entry) (c : FilesCursor) (state : State) → IsPrefix before history → Held before name c state
    → IsSpelt keys (cursor.Files c) → IsPrefix t.point history → by_files.token_of t.query ≡ Some (token_text keys.token (cursor.Files c)) → answer_at by_files keys name t ≡ page p → Went keys name t p c state
went keys name t p history before c state stands held spelt goes has answered =
    let T : TurnAt keys name t p = turn_at keys name t p answered in
    let a : TableAccess = access T.view.catalog.recipient name T.spot in
    let log : Log = log_in T.view name in
    let P : Later keys a t.moment t.query c T.spot log p = later_page keys a t.moment t.query c (token_text keys.token (cursor.Files c)) T.spot log p (read_again keys (cursor.Files c) spelt) has T.page_is in
    let here : IsBound t.point name T.spot log = bound_at keys name t p T in
    let binding : T.spot.binding ≡ c.access.binding = ap (λ (x : TableAccess). x.binding) P.same in
    let stays : state_at log c.version ≡ state_at held.log c.version =
    either_states held.spot.only T.spot.only held.log log c.version (either_log history before t.point name held.spot T.spot held.log log held.is_bound here stands goes (binding ∙ sym held.binding)) held.kept P.kept in
    let S : Stated keys a t.moment t.query (start_at c) p (state_at log c.version) = P.stated in
    let state_here : S.state ≡ state = same_state (state_at held.log c.version) (state_at log c.version) state S.state held.is_state S.is_state stays in
    record {
      page_is = S.page_is ∙ page_same keys a c.access t.moment t.query (start_at c) S.state state P.same state_here;
      held = λ place. record { spot = T.spot; log = log; is_bound = here; binding = binding; kept = P.kept; is_state = stays ∙ held.is_state };
    }

-- a turn's answer is a page of that version
abbrev Heads : ReplyKeys → TableName → ℕ → State → Turn QueryBody → Type 0
Heads keys name version state t = IsPageOf version state.protocol state.meta (answer_at by_files keys name t)

abbrev LaterGive : ReplyKeys → TableName → List (Turn QueryBody) → FilesCursor → State → Type 0
LaterGive keys name ts c state = Gives by_files keys name (linked_file keys c.access) ts (filter (lists c.hint state) (drop c.place state.files)) × All (Heads keys name c.version state) ts

later : (keys : ReplyKeys) (name : TableName) (ts : List (Turn QueryBody)) (history before : List Entry) (c : FilesCursor) (state : State) → IsPrefix before history → Held before name c state
    → IsSpelt keys (cursor.Files c) → AreSpelt by_files keys name ts → IsChainAfter by_files keys name history (Some (token_text keys.token (cursor.Files c))) ts → LaterGive keys name ts c state
later keys name [] history before c state stands held spelt all chain = absurd chain
later keys name (t ∷ ts) history before c state stands held spelt (spelt_here, spelt_later) (goes, has, (p, answered, chain)) =
    let W : Went keys name t p c state = went keys name t p history before c state stands held spelt goes has answered in
    let answered_here : answer_at by_files keys name t ≡ page (files_page keys c.access t.moment t.query (start_at c) state) = answered ∙ ap page W.page_is in
    one_page by_files keys name (linked_file keys c.access) (Heads keys name c.version state) history t ts (lists c.hint state) t.query.max c.place state.files (files_cursor c.access (start_at c)) (files_page keys c.access t.moment t.query (start_at c) state)
    (next_in (files_page keys c.access t.moment t.query (start_at c) state)) answered_here refl
    (says_next keys c.access t.moment t.query (start_at c) state) (subst (NextIsSpelt keys) answered_here spelt_here)
    (subst (λ (x : Page). IsChainAfter by_files keys name history (next_token keys x) ts) W.page_is chain)
    (record { page = files_page keys c.access t.moment t.query (start_at c) state; is_page = answered_here; is_version = refl; is_protocol = refl; is_meta = refl })
    (λ place spelt_next chain_next. later keys name ts history t.point (at_place c place) state goes (W.held place) spelt_next spelt_later chain_next)

-- ---- the whole chain

-- what its pages give, and of what version each is
abbrev Whole : ReplyKeys → TableName → Turn QueryBody → List (Turn QueryBody) → Type 0
Whole keys name t ts = (spot : Spot) × (log : Log) × (a : TableAccess) × Sees t name spot log a × ((state : State) × (pins : Pins t.query log state)
    × Gives by_files keys name (linked_file keys a) (t ∷ ts) (listed_files (used_hint t.query.hint) state) × All (Heads keys name pins.version state) (t ∷ ts))

whole_if_spelt : (keys : ReplyKeys) (name : TableName) (history : List Entry) (t : Turn QueryBody) (ts : List (Turn QueryBody)) → IsChain by_files keys name history t ts → AreSpelt by_files keys name (t ∷ ts) → Whole keys name t ts
whole_if_spelt keys name history t ts (stands, none, (p, answered, chain)) (spelt_here, spelt_later) =
    let T : TurnAt keys name t p = turn_at keys name t p answered in
    let a : TableAccess = access T.view.catalog.recipient name T.spot in
    let log : Log = log_in T.view name in
    let F : First keys a t.moment t.query T.spot log p = first keys a t.moment t.query T.spot log p (marks_kept t.point name T.spot log (bound_at keys name t p T)) none T.page_is in
    let start : FilesStart = first_start t.query F.version in
    let S : Stated keys a t.moment t.query start p (state_at log F.version) = F.stated in
    let answered_here : answer_at by_files keys name t ≡ page (files_page keys a t.moment t.query start S.state) = answered ∙ ap page S.page_is in
    let c : FilesCursor = record { access = a; asked = start.asked; version = start.version; hint = start.hint; place = 0 } in
    let gives : Gives by_files keys name (linked_file keys a) (t ∷ ts) (filter (lists start.hint S.state) S.state.files) × All (Heads keys name F.version S.state) (t ∷ ts) =
    one_page by_files keys name (linked_file keys a) (Heads keys name F.version S.state) history t ts (lists start.hint S.state) t.query.max 0 S.state.files (files_cursor a start) (files_page keys a t.moment t.query start S.state)
    (next_in (files_page keys a t.moment t.query start S.state)) answered_here refl
    (says_next keys a t.moment t.query start S.state) (subst (NextIsSpelt keys) answered_here spelt_here)
    (subst (λ (x : Page). IsChainAfter by_files keys name history (next_token keys x) ts) S.page_is chain)
    (record { page = files_page keys a t.moment t.query start S.state; is_page = answered_here; is_version = refl; is_protocol = refl; is_meta = refl })
    (λ place spelt_next chain_next.
    later keys name ts history t.point (at_place c place) S.state stands
    (record { spot = T.spot; log = log; is_bound = bound_at keys name t p T; binding = refl; kept = F.kept; is_state = S.is_state })
    spelt_next spelt_later chain_next) in
    (T.spot, log, a, sees_at keys name t p T, (S.state, record { version = F.version; is_version = F.is_version; is_state = S.is_state }, gives.0, gives.1))

pub chains_are_whole : ChainsAreWhole
chains_are_whole keys name history t ts chain spelt =
    let (spot, log, a, sees, (state, pins, gives, heads)) = whole_if_spelt keys name history t ts chain spelt in
    (spot, log, a, sees, (state, pins, gives))

-- ---- the actions

pub actions_are : (keys : ReplyKeys) (name : TableName) (a : TableAccess) (ts : List (Turn QueryBody)) (files : List AddFile) → Gives by_files keys name (linked_file keys a) ts files → actions_given by_files keys name ts ≡ map (λ f. action.Add f) files
actions_are keys name a [] files none = ap (map (λ f. action.Add f)) (sym none)
actions_are keys name a (t ∷ ts) files (here, later, is, content, rest) =
    (λ i. map (λ (f : DeltaFile). f.action) (content i) ++ actions_are keys name a ts later rest i)
    ∙ ap (λ (xs : List FileAction). xs ++ map (λ f. action.Add f) later) (map-map (λ (f : DeltaFile). f.action) (linked_file keys a t.moment) here)
    ∙ sym (map-append (λ f. action.Add f) here later)
    ∙ ap (map (λ f. action.Add f)) (sym is)

pub chains_give_actions : ChainsGiveActions
chains_give_actions keys name history t ts chain spelt =
    let (spot, log, a, sees, (state, pins, gives, heads)) = whole_if_spelt keys name history t ts chain spelt in
    (spot, log, a, sees, (state, pins, actions_are keys name a (t ∷ ts) _ gives, heads))
