-- Versions, metadata and files of a table that is shared.
use Rattle.std.proofs.Common.{◌≡◌, ℕ, ◌≤◌, List, [], ◌∷◌, Bool, true, ◌&&◌, length, Option, Some, None, Result, Ok, refl, sym, ap, ◌∙◌, subst, arith}
use Rattle.std.specs.Prelude.{nat_le, ◌==◌}
use Rattle.std.proofs.lemmas.Bool.Decides.{nat_tests}
use Rattle.case_table.specs.declared.refuse.Refusal.{Refusal}
use Rattle.case_table.specs.declared.refuse.Refusal.TheVariants.{TokenAhead}
use Rattle.log_replay.specs.State.{State, state_of}
use Rattle.page_token.specs.declared.cursor.Cursor.{Cursor}
use Rattle.page_token.specs.declared.cursor.FilesCursor.{FilesCursor}
use Rattle.page_token.specs.declared.cursor.TableAccess.{TableAccess}
use Rattle.share_book.specs.History.{edits}
use Rattle.share_book.specs.Parts.{found_of, up_to}
use Rattle.share_book.specs.Shown.{show_part}
use Rattle.share_book.specs.Views.{Log, shown_state}
use Rattle.share_book.specs.declared.look.Found.{Found}
use Rattle.share_book.specs.declared.look.Part.{Part}
use Rattle.share_book.specs.declared.look.Part.TheVariants as part
use Rattle.share_book.specs.declared.look.PartFound.{PartFound}
use Rattle.share_book.specs.declared.look.PartFound.TheVariants as part_found
use Rattle.share_book.proofs.Versions.{IsWhole}
use Rattle.share_catalog.specs.Catalogue.{binding_edition, grant_edition}
use Rattle.share_catalog.specs.Views.{spot_with}
use Rattle.share_catalog.specs.declared.edit.Binding.{Binding}
use Rattle.share_catalog.specs.declared.table_name.TableName.{TableName}
use Rattle.share_catalog.proofs.KeyTests.{bytes_refl}
use Rattle.share_request.specs.declared.asked.What.{What}
use Rattle.share_request.specs.declared.asked.What.TheVariants as what
use Rattle.query_body.specs.declared.query.QueryBody.{QueryBody}
use Rattle.share_reply.specs.Access.{access, is_same_edition, is_same_table}
use Rattle.share_reply.specs.Answer.{Answer, Page, at_version, of, page}
use Rattle.share_reply.specs.Asking.{asked_at, asked_by, files_by as part_by, files_part, from_bound, last_bound}
use Rattle.share_reply.specs.Bodies.{page_texts, reply_of}
use Rattle.share_reply.specs.Formats.{body_of}
use Rattle.share_reply.specs.Files.{FilesStart, agrees, files_by, files_from, files_page, files_with, first_start, later_files, metadata_page, start_at, version_in}
use Rattle.share_reply.specs.Refusing.{Refused, where_all}
use Rattle.share_reply.specs.Replies.{answer_what, answered_at}
use Rattle.share_serve.specs.Entitled.{Asking, FilesAreGiven, IsFilesToken, IsGiven, MetadataIsGiven, Shares, Tells, VersionsAreGiven, request_for, shared_log}
use Rattle.share_serve.specs.Responses.{lines_response, response_of, version_response}
use Rattle.share_serve.proofs.Asked.{answered_is, passes, spot_at, table_is}
use Rattle.share_serve.proofs.Meant.{files_are, head_is, pinned_files_are, whole_at}

-- ---- responses of answers

pub page_given : (a : Asking) (w : What) (p : Page) → answered_at a.keys a.point a.now (request_for a w) ≡ page p → IsGiven a w (Some p.version)
page_given a w p so = (lines_response a.format p.version (body_of (page_texts a.keys a.format p)), ap (λ (x : Answer). response_of (reply_of a.keys a.format x)) so, refl)

-- to whom a table is given
abbrev pub mine : (a : Asking) (name : TableName) → Shares a.point a.recipient name → TableAccess
mine a name t = access a.recipient name (spot_at a.point a.recipient name t)

-- a table's editions
abbrev pub grant_of : Asking → TableName → ℕ
grant_of a name = grant_edition (edits a.point) a.recipient name.share

abbrev pub binding_of : Asking → TableName → ℕ
binding_of a name = binding_edition (edits a.point) name

-- what is found of a log, as a binding shows it
abbrev pub shown_of : Asking → TableName → Binding → Part → Log → PartFound
shown_of a name binding p log = show_part binding.only (found_of (spot_with (grant_of a name) (binding, binding_of a name)) log p)

-- the part of a table that is shared
abbrev pub part_at : (a : Asking) (name : TableName) → Shares a.point a.recipient name → Part → PartFound
part_at a name t p = shown_of a name t.binding p (shared_log a.point a.recipient name t)

-- its log is whole
pub log_whole : (a : Asking) (name : TableName) (t : Shares a.point a.recipient name) (log : Log) → log ≡ shared_log a.point a.recipient name t → IsWhole log
log_whole a name t log is = subst IsWhole (sym is) (whole_at a.point t.binding.location)

-- ---- versions

pub versions_are_given : VersionsAreGiven
versions_are_given a name t from version tells =
    let w : What = what.Version name from in
    let log = shared_log a.point a.recipient name t in
    let head : part_at a name t (part.Head (from_bound from)) ≡ part_found.Version version =
    ap (show_part t.binding.only) (head_is log (whole_at a.point t.binding.location) (grant_of a name) (binding_of a name) t.binding (from_bound from) version tells) in
    let so : answered_at a.keys a.point a.now (request_for a w) ≡ at_version version =
    answered_is a w
    ∙ ap (λ (f : Found). answer_what a.keys a.recipient a.now w f) (table_is a.point a.recipient a.credential name (part.Head (from_bound from)) t)
    ∙ ap (λ (x : PartFound). of at_version (version_in x)) head in
    (version_response version, ap (λ (x : Answer). response_of (reply_of a.keys a.format x)) so, refl)

pub metadata_is_given : MetadataIsGiven
metadata_is_given a name t at version state log is tells made =
    let w : What = what.Metadata name at in
    let found : shown_of a name t.binding (part.Files (last_bound (asked_at at))) log ≡ part_found.Files version (shown_state t.binding.only state) =
    ap (show_part t.binding.only) (files_are log (log_whole a name t log is) (grant_of a name) (binding_of a name) t.binding (last_bound (asked_at at)) version state tells made) in
    page_given a w _ (
    answered_is a w
    ∙ ap (λ (f : Found). answer_what a.keys a.recipient a.now w f) (table_is a.point a.recipient a.credential name (part.Files (last_bound (asked_at at))) t)
    ∙ ap (λ (l : Log). of page (metadata_page (shown_of a name t.binding (part.Files (last_bound (asked_at at))) l))) (sym is)
    ∙ ap (λ (x : PartFound). of page (metadata_page x)) found
    )

-- ---- files

-- what a query is answered of the table
pub query_is : (a : Asking) (name : TableName) (t : Shares a.point a.recipient name) (q : QueryBody)
    → answered_at a.keys a.point a.now (request_for a (what.Query name q)) ≡ of page (files_with a.keys (mine a name t) a.now q q.token (part_at a name t (files_part a.keys q q.token)))
query_is a name t q =
    answered_is a (what.Query name q)
    ∙ ap (λ (f : Found). answer_what a.keys a.recipient a.now (what.Query name q) f) (table_is a.point a.recipient a.credential name (files_part a.keys q q.token) t)

within_is : (a : Asking) (x : TableAccess) (q : QueryBody) (s : FilesStart) (state : State) → s.place ≤ length state.files
    → where_all ((nat_le s.place (length state.files), TokenAhead) ∷ []) (Ok (files_page a.keys x a.now q s state)) ≡ Ok (files_page a.keys x a.now q s state)
within_is a x q s state within =
    let test : nat_le s.place (length state.files) ≡ true = grind (arith, nat_tests, within) in
    passes (nat_le s.place (length state.files)) TokenAhead [] (Ok (files_page a.keys x a.now q s state)) test

first_given : (a : Asking) (name : TableName) (t : Shares a.point a.recipient name) (q : QueryBody) (version : ℕ) (state : State) (log : Log) → log ≡ shared_log a.point a.recipient name t → q.token ≡ None
    → Tells log t.binding (last_bound (asked_by q.version q.moment)) version → state_of (up_to log version) ≡ Ok state → IsGiven a (what.Query name q) (Some version)
first_given a name t q version state log is none tells made =
    let bound = last_bound (asked_by q.version q.moment) in
    let shown : State = shown_state t.binding.only state in
    let found : shown_of a name t.binding (part.Files bound) log ≡ part_found.Files version shown =
    ap (show_part t.binding.only) (files_are log (log_whole a name t log is) (grant_of a name) (binding_of a name) t.binding bound version state tells made) in
    page_given a (what.Query name q) (files_page a.keys (mine a name t) a.now q (first_start q version) shown) (
    query_is a name t q
    ∙ ap (λ (o : Option (List ℕ)). of page (files_with a.keys (mine a name t) a.now q o (part_at a name t (files_part a.keys q o)))) none
    ∙ ap (λ (l : Log). of page (files_from a.keys (mine a name t) a.now q (first_start q) (shown_of a name t.binding (part.Files bound) l))) (sym is)
    ∙ ap (λ (x : PartFound). of page (files_from a.keys (mine a name t) a.now q (first_start q) x)) found
    ∙ ap (of page) (within_is a (mine a name t) q (first_start q version) shown (omega arith))
    )

-- ---- a token of one's own

same_table : (x y : TableAccess) → x ≡ y → is_same_table x y ≡ true
same_table x y e =
    ap (λ (z : TableAccess). is_same_table z y) e
    ∙ (λ i. bytes_refl y.recipient i && (bytes_refl y.share i && (bytes_refl y.schema i && bytes_refl y.table i)))

same_number : (n : ℕ) → (n == n) ≡ true
same_number n = grind (arith, nat_tests)

pub same_edition : (x y : TableAccess) → x ≡ y → is_same_edition x y ≡ true
same_edition x y e = ap (λ (z : TableAccess). is_same_edition z y) e ∙ (λ i. same_number y.grant i && same_number y.binding i)

three : {X : Type 0} (b c d : Bool) (r s t : Refusal) (x : Result X Refused) → b ≡ true → c ≡ true → d ≡ true → where_all ((b, r) ∷ (c, s) ∷ (d, t) ∷ []) x ≡ x
three b c d r s t x e f g = passes b r ((c, s) ∷ (d, t) ∷ []) x e ∙ passes c s ((d, t) ∷ []) x f ∙ passes d t [] x g

-- the tests of a token that is one's own, of such a query
pub own_token : {X : Type 0} (x y : TableAccess) (agree : Bool) (r s t : Refusal) (z : Result X Refused) → x ≡ y → agree ≡ true → where_all ((is_same_table x y, r) ∷ (is_same_edition x y, s) ∷ (agree, t) ∷ []) z ≡ z
own_token x y agree r s t z e f = three (is_same_table x y) (is_same_edition x y) agree r s t z (same_table x y e) (same_edition x y e) f

later_given : (a : Asking) (name : TableName) (t : Shares a.point a.recipient name) (q : QueryBody) (text : List ℕ) (c : FilesCursor) → q.token ≡ Some text
    → IsFilesToken a name (shared_log a.point a.recipient name t) t.binding q text c → IsGiven a (what.Query name q) (Some c.version)
later_given a name t q text c has is =
    let shown : State = shown_state t.binding.only is.state in
    let log = shared_log a.point a.recipient name t in
    let found : part_at a name t (part.PinnedFiles c.version) ≡ part_found.Files c.version shown =
    ap (show_part t.binding.only) (pinned_files_are log (whole_at a.point t.binding.location) (grant_of a name) (binding_of a name) t.binding c.version is.state is.kept is.from_first is.is_state) in
    page_given a (what.Query name q) (files_page a.keys (mine a name t) a.now q (start_at c) shown) (
    query_is a name t q
    ∙ ap (λ (o : Option (List ℕ)). of page (files_with a.keys (mine a name t) a.now q o (part_at a name t (files_part a.keys q o)))) has
    ∙ ap (λ (o : Option Cursor). of page (files_by a.keys (mine a name t) a.now q o (part_at a name t (part_by o)))) is.is_cursor
    ∙ ap (λ (x : PartFound). of page (later_files a.keys (mine a name t) a.now q c x)) found
    ∙ ap (of page) (own_token c.access (mine a name t) (agrees q c) _ _ _ (files_from a.keys (mine a name t) a.now q (λ version. start_at c) (part_found.Files c.version shown)) is.own is.agrees)
    ∙ ap (of page) (within_is a (mine a name t) q (start_at c) shown is.within)
    )

pub files_are_given : FilesAreGiven
files_are_given = record { first = first_given; later = later_given }
