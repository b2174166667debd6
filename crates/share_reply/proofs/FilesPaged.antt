-- What a page of files tells of the log that it was answered from.
use Rattle.std.proofs.Common.{◌≡◌, ℕ, ◌<◌, ◌≤◌, List, [], ◌∷◌, Bool, true, false, ◌&&◌, Option, Some, None, Result, Ok, refl, sym, ap, ◌∙◌, arith, length, bytes_eq}
use Rattle.std.specs.Prelude.{nat_le, ◌==◌}
use Rattle.std.proofs.lemmas.Bool.Decides.{nat_tests}
use Rattle.std.proofs.lemmas.Slice.Eq.{bytes_eq-Decides}
use Rattle.case_table.specs.declared.refuse.Refusal.{Refusal}
use Rattle.log_replay.specs.State.{State}
use Rattle.log_replay.specs.declared.refusal.ReplayRefusal.{ReplayRefusal}
use Rattle.page_token.specs.Cursors.{cursor_of}
use Rattle.page_token.specs.declared.cursor.Cursor.{Cursor}
use Rattle.page_token.specs.declared.cursor.Cursor.TheVariants as cursor
use Rattle.page_token.specs.declared.cursor.FilesCursor.{FilesCursor}
use Rattle.page_token.specs.declared.cursor.TableAccess.{TableAccess}
use Rattle.share_book.specs.Parts.{found_of, head_found, pinned_found, resolved_at, state_at, with_files}
use Rattle.share_book.specs.Views.{Log}
use Rattle.share_catalog.specs.Views.{Spot}
use Rattle.query_body.specs.declared.query.QueryBody.{QueryBody}
use Rattle.share_reply.specs.Answer.{Page}
use Rattle.share_reply.specs.Asking.{asked_by, files_by as part_by, files_part, last_bound}
use Rattle.share_reply.specs.Files.{FilesStart, agrees, files_by, files_from, files_page, files_with, first_start, later_files, query_page, start_at}
use Rattle.share_reply.specs.Access.{is_same_edition, is_same_table}
use Rattle.share_reply.specs.Refusing.{Refused, where_all}
use Rattle.share_reply.specs.declared.keys.ReplyKeys.{ReplyKeys}
use Rattle.share_reply.proofs.FoundLemmas.{FoundAt, FoundBy, Refuses, found_by, pinned_at}
use Rattle.share_book.proofs.ResolvedLemmas.{resolved_below}

-- a test that was passed
pub passed : {X : Type 0} (b : Bool) (refusal : Refusal) (tests : List (Bool × Refusal)) (x : Result X Refused) (y : X) → where_all ((b, refusal) ∷ tests) x ≡ Ok y → (b ≡ true) × (where_all tests x ≡ Ok y)
passed true refusal tests x y e = (refl, e)
passed false refusal tests x y e = absurd cc

pub ok_is : {X : Type 0} (x y : X) (r : Result X Refused) → r ≡ Ok x → r ≡ Ok y → y ≡ x
ok_is x y r e f = cc

-- the state, and the page that is made of it
pub record Stated (keys : ReplyKeys) (a : TableAccess) (now : ℕ) (q : QueryBody) (start : FilesStart) (p : Page) (r : Result State ReplayRefusal) : Type 0 where
  pub state : State
  pub is_state : r ≡ Ok state
  pub within : start.place ≤ length state.files
  pub page_is : p ≡ files_page keys a now q start state

stated_at : (keys : ReplyKeys) (a : TableAccess) (now : ℕ) (q : QueryBody) (start : ℕ → FilesStart) (spot : Spot) (log : Log) (p : Page) (v : ℕ) → FoundAt spot log (files_from keys a now q start) p v → Stated keys a now q (start v) p (state_at log v)
stated_at keys a now q start spot log p v F =
    let (within, is) = passed (nat_le (start v).place (length F.state.files)) _ [] (Ok (files_page keys a now q (start v) F.state)) p F.page_is in
    record { state = F.state; is_state = F.is_state; within = grind (arith, nat_tests, within); page_is = ok_is (files_page keys a now q (start v) F.state) p (Ok (files_page keys a now q (start v) F.state)) refl is }

refuses : (keys : ReplyKeys) (a : TableAccess) (now : ℕ) (q : QueryBody) (start : ℕ → FilesStart) → Refuses (files_from keys a now q start)
refuses keys a now q start why p e = absurd cc

-- ---- a first page

pub record First (keys : ReplyKeys) (a : TableAccess) (now : ℕ) (q : QueryBody) (spot : Spot) (log : Log) (p : Page) : Type 0 where
  pub version : ℕ
  pub is_version : resolved_at log (last_bound (asked_by q.version q.moment)) ≡ Ok version
  pub kept : version < length log.states
  pub shared : spot.first ≤ version
  pub stated : Stated keys a now q (first_start q version) p (state_at log version)

pub first : (keys : ReplyKeys) (a : TableAccess) (now : ℕ) (q : QueryBody) (spot : Spot) (log : Log) (p : Page) → length log.marks ≤ length log.states → q.token ≡ None
    → query_page keys a now q (found_of spot log (files_part keys q q.token)) ≡ Ok p → First keys a now q spot log p
first keys a now q spot log p few none e =
    let b = last_bound (asked_by q.version q.moment) in
    let here : files_from keys a now q (first_start q) (with_files log (head_found spot log b)) ≡ Ok p = sym (ap (λ (o : Option (List ℕ)). files_with keys a now q o (found_of spot log (files_part keys q o))) none) ∙ e in
    let F : FoundBy spot log b (files_from keys a now q (first_start q)) p = found_by spot log b (files_from keys a now q (first_start q)) p (refuses keys a now q (first_start q)) here in
    let below = resolved_below log.marks log.blocked b F.version F.is_version in
    record {
      version = F.version;
      is_version = F.is_version;
      kept = omega (arith, below, few);
      shared = F.found.shared;
      stated = stated_at keys a now q (first_start q) spot log p F.version F.found;
    }

-- ---- a later page

pub record Later (keys : ReplyKeys) (a : TableAccess) (now : ℕ) (q : QueryBody) (c : FilesCursor) (spot : Spot) (log : Log) (p : Page) : Type 0 where
  pub same : a ≡ c.access
  pub kept : c.version < length log.states
  pub shared : spot.first ≤ c.version
  pub stated : Stated keys a now q (start_at c) p (state_at log c.version)

both : (a b : Bool) → (a && b) ≡ true → (a ≡ true) × (b ≡ true)
both true b e = (refl, e)
both false b e = absurd cc

text_is : (x y : List ℕ) → bytes_eq x y ≡ true → x ≡ y
text_is x y e = (bytes_eq-Decides x y).0 e

pub same_access : (given a : TableAccess) → is_same_table given a ≡ true → is_same_edition given a ≡ true → a ≡ given
same_access given a table edition =
    let (recipient, names) = both (bytes_eq given.recipient a.recipient) _ table in
    let (share, names') = both (bytes_eq given.share a.share) _ names in
    let (schema, named) = both (bytes_eq given.schema a.schema) _ names' in
    let (grant, binding) = both (given.grant == a.grant) _ edition in
    let recipient_is : given.recipient ≡ a.recipient = text_is _ _ recipient in
    let share_is : given.share ≡ a.share = text_is _ _ share in
    let schema_is : given.schema ≡ a.schema = text_is _ _ schema in
    let table_is : given.table ≡ a.table = text_is _ _ named in
    let grant_is : given.grant ≡ a.grant = grind (arith, nat_tests, grant) in
    let binding_is : given.binding ≡ a.binding = grind (arith, nat_tests, binding) in
    λ i. record { recipient = sym recipient_is i; share = sym share_is i; schema = sym schema_is i; table = sym table_is i; grant = sym grant_is i; binding = sym binding_is i }

later_by : (keys : ReplyKeys) (a : TableAccess) (now : ℕ) (q : QueryBody) (c : FilesCursor) (spot : Spot) (log : Log) (p : Page) → later_files keys a now q c (with_files log (pinned_found spot log c.version)) ≡ Ok p → Later keys a now q c spot log p
later_by keys a now q c spot log p e =
    let f = files_from keys a now q (λ version. start_at c) in
    let x = f (with_files log (pinned_found spot log c.version)) in
    let (table, e1) = passed (is_same_table c.access a) _ _ x p e in
    let (edition, e2) = passed (is_same_edition c.access a) _ _ x p e1 in
    let (agree, e3) = passed (agrees q c) _ [] x p e2 in
    let (kept, F) = pinned_at spot log c.version f p (refuses keys a now q (λ version. start_at c)) e3 in
    record { same = same_access c.access a table edition; kept = kept; shared = F.shared; stated = stated_at keys a now q (λ version. start_at c) spot log p c.version F }

pub later : (keys : ReplyKeys) (a : TableAccess) (now : ℕ) (q : QueryBody) (c : FilesCursor) (text : List ℕ) (spot : Spot) (log : Log) (p : Page)
    → cursor_of keys.token text ≡ Some (cursor.Files c) → q.token ≡ Some text
    → query_page keys a now q (found_of spot log (files_part keys q q.token)) ≡ Ok p → Later keys a now q c spot log p
later keys a now q c text spot log p again is e =
    let by_text : files_by keys a now q (cursor_of keys.token text) (found_of spot log (part_by (cursor_of keys.token text))) ≡ Ok p =
    sym (ap (λ (o : Option (List ℕ)). files_with keys a now q o (found_of spot log (files_part keys q o))) is) ∙ e in
    let by_cursor : later_files keys a now q c (with_files log (pinned_found spot log c.version)) ≡ Ok p =
    sym (ap (λ (o : Option Cursor). files_by keys a now q o (found_of spot log (part_by o))) again) ∙ by_text in
    later_by keys a now q c spot log p by_cursor
