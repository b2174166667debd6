-- Why queries of files are refused.
use Rattle.std.proofs.Common.{◌≡◌, ℕ, ◌<◌, List, [], ◌∷◌, Bool, true, false, cond, ◌&&◌, length, Option, Some, None, Result, Ok, Err, refl, sym, ap, ◌∙◌, subst, arith, true≢false, bytes_eq}
use Rattle.std.specs.Prelude.{nat_le, nat_lt}
use Rattle.std.proofs.lemmas.Bool.Decides.{nat_tests}
use Rattle.case_table.specs.declared.refuse.Refusal.TheVariants as refusal
use Rattle.log_replay.specs.State.{State, state_of}
use Rattle.log_replay.specs.declared.refusal.ReplayRefusal.{ReplayRefusal}
use Rattle.log_replay.specs.declared.times.Bound.{Bound}
use Rattle.page_token.specs.Cursors.{cursor_of}
use Rattle.page_token.specs.declared.cursor.Cursor.{Cursor}
use Rattle.page_token.specs.declared.cursor.Cursor.TheVariants as cursor
use Rattle.page_token.specs.declared.cursor.FilesCursor.{FilesCursor}
use Rattle.page_token.specs.declared.cursor.TableAccess.{TableAccess}
use Rattle.share_book.specs.Parts.{files_of, found_of, from_first, state_at, up_to, with_files}
use Rattle.share_book.specs.Shown.{show_part}
use Rattle.share_book.specs.Views.{Log, shown_state}
use Rattle.share_book.specs.declared.look.Part.TheVariants as part
use Rattle.share_book.specs.declared.look.PartFound.{PartFound}
use Rattle.share_book.specs.declared.look.PartFound.TheVariants as part_found
use Rattle.share_book.specs.declared.look.TableRefusal.TheVariants as table_refusal
use Rattle.share_book.proofs.Versions.{IsWhole, pinned_kept, state_whole, states_whole}
use Rattle.share_catalog.specs.Views.{spot_with}
use Rattle.share_catalog.specs.declared.edit.Binding.{Binding}
use Rattle.share_catalog.specs.declared.table_name.TableName.{TableName}
use Rattle.share_catalog.proofs.KeyTests.{bytes_refl}
use Rattle.share_request.specs.declared.asked.What.TheVariants as what
use Rattle.query_body.specs.declared.query.QueryBody.{QueryBody}
use Rattle.share_reply.specs.Access.{is_same_edition, is_same_table}
use Rattle.share_reply.specs.Answer.{Answer, of, page, refused}
use Rattle.share_reply.specs.Asking.{asked_by, files_by as part_by, files_part, last_bound}
use Rattle.share_reply.specs.Files.{agrees, files_by, files_from, files_page, files_with, first_start, later_files, start_at}
use Rattle.share_reply.specs.Refusing.{Refused, plain, where_all}
use Rattle.share_serve.specs.Entitled.{Asking, access_now}
use Rattle.share_serve.specs.RefusalCauses.{FilesHaveCauses, FilesTokenCause, IsOf, IsRefused, TableCause, ahead, before_first, behind, early, foreign, stale, stateless, unknown, unlike}
use Rattle.share_serve.proofs.GivenTables.{binding_of, grant_of, same_edition, shown_of}
use Rattle.share_serve.proofs.RefusedNames.{refused_same}
use Rattle.share_serve.proofs.RefusedTables.{FilesCause, files_cause, page_apart, table_cause}

-- ---- a first page

module _ (a : Asking) (x : Refused) (m : TableAccess) (q : QueryBody) (log : Log) (binding : Binding) where
  abbrev b : Bound
  b = last_bound (asked_by q.version q.moment)

  abbrev Cause : Type 0
  Cause = FilesCause log binding b x

  by_place : (v : ℕ) (state : State) (t : Bool) → nat_le 0 (length state.files) ≡ t → of page (where_all ((t, refusal.TokenAhead) ∷ []) (Ok (files_page a.keys m a.now q (first_start q v) state))) ≡ refused x → Cause
  by_place v state true is e = page_apart _ x Cause e
  by_place v state false is e = absurd (grind (arith, nat_tests, is))

  first_cause : (grant edition : ℕ) → IsWhole log → of page (files_from a.keys m a.now q (first_start q) (show_part binding.only (found_of (spot_with grant (binding, edition)) log (part.Files b)))) ≡ refused x → Cause
  first_cause grant edition whole e =
      files_cause log whole binding grant edition b x (λ p. of page (files_from a.keys m a.now q (first_start q) p)) (λ why. refl) (λ v state so. by_place v state (nat_le 0 (length state.files)) refl so) e

-- ---- a later page

pub same_names : (x : TableAccess) (a : Asking) (name : TableName) → IsOf x a.recipient name → is_same_table x (access_now a.point a.recipient name) ≡ true
same_names x a name is =
    (λ i. bytes_eq (is.recipient i) a.recipient && (bytes_eq (is.share i) name.share && (bytes_eq (is.schema i) name.schema && bytes_eq (is.table i) name.table)))
    ∙ (λ i. bytes_refl a.recipient i && (bytes_refl name.share i && (bytes_refl name.schema i && bytes_refl name.table i)))

module _ (a : Asking) (name : TableName) (log : Log) (whole : IsWhole log) (binding : Binding) (q : QueryBody) (text : List ℕ) (x : Refused) where
  abbrev Row : Refused → Type 0
  Row y = FilesTokenCause a name log binding q text y

  abbrev now : TableAccess
  now = access_now a.point a.recipient name

  -- the row of what is told
  told : (y : Refused) → refused y ≡ refused x → Row y → Row x
  told y e row = subst Row (sym (refused_same y x e)) row

  module _ (c : FilesCursor) (read : cursor_of a.keys.token text ≡ Some (cursor.Files c)) where
    later_place : (state : State) (t : Bool) → state_of (up_to log c.version) ≡ Ok state → nat_le c.place (length (shown_state binding.only state).files) ≡ t
        → of page (where_all ((t, refusal.TokenAhead) ∷ []) (Ok (files_page a.keys now a.now q (start_at c) (shown_state binding.only state)))) ≡ refused x → Row x
    later_place state true made is e = page_apart _ x (Row x) e
    later_place state false made is e = told (plain refusal.TokenAhead) e (behind c read state made (grind (arith, nat_tests, is)))

    later_state : (r : Result State ReplayRefusal) → state_of (up_to log c.version) ≡ r
        → of page (files_from a.keys now a.now q (λ version. start_at c) (show_part binding.only (files_of c.version r))) ≡ refused x → Row x
    later_state (Ok state) is e = later_place state (nat_le c.place (length (shown_state binding.only state).files)) is refl e
    later_state (Err why) is e = told (plain refusal.UnsupportedTable) e (stateless c read why is)

    by_first : (t : Bool) → c.version < length log.commits → nat_lt c.version binding.first ≡ t
        → of page (files_from a.keys now a.now q (λ version. start_at c) (show_part binding.only (with_files log (cond t (part_found.Refused (table_refusal.NotShared binding.first)) (part_found.Version c.version))))) ≡ refused x → Row x
    by_first true kept is e = told (before_first binding.first) e (early c read (grind (arith, nat_tests, is)))
    by_first false kept is e = later_state (state_at log c.version) (sym (state_whole log whole c.version kept)) e

    by_kept : (t : Bool) → nat_lt c.version (length log.states) ≡ t
        → of page (files_from a.keys now a.now q (λ version. start_at c)
        (show_part binding.only (with_files log (cond t (from_first binding.first c.version (part_found.Version c.version)) (part_found.Refused table_refusal.Ahead))))) ≡ refused x → Row x
    by_kept true is e = by_first (nat_lt c.version binding.first) (pinned_kept log whole c.version is) refl e
    by_kept false is e = let all = states_whole log whole in told (plain refusal.TokenAhead) e (ahead c read (grind (arith, nat_tests, is, all)))

    by_tests : (s t u : Bool) → is_same_table c.access now ≡ s → is_same_edition c.access now ≡ t → agrees q c ≡ u
        → of page (where_all ((s, refusal.TokenInvalid) ∷ (t, refusal.TokenStale) ∷ (u, refusal.TokenMismatch) ∷ []) (files_from a.keys now a.now q (λ version. start_at c) (shown_of a name binding (part.PinnedFiles c.version) log))) ≡ refused x → Row x
    by_tests false t u names editions agree e = told (plain refusal.TokenInvalid) e (foreign c read (λ is. true≢false (sym (same_names c.access a name is) ∙ names)))
    by_tests true false u names editions agree e = told (plain refusal.TokenStale) e (stale c read (λ is. true≢false (sym (same_edition c.access now is) ∙ editions)))
    by_tests true true false names editions agree e = told (plain refusal.TokenMismatch) e (unlike c read agree)
    by_tests true true true names editions agree e = by_kept (nat_lt c.version (length log.states)) refl e

    cursor_cause : of page (later_files a.keys now a.now q c (shown_of a name binding (part.PinnedFiles c.version) log)) ≡ refused x → Row x
    cursor_cause e = by_tests (is_same_table c.access now) (is_same_edition c.access now) (agrees q c) refl refl refl e

  other : (o : Option Cursor) → cursor_of a.keys.token text ≡ o → ((c : FilesCursor) → o ≡ Some (cursor.Files c) → ⊥) → refused (plain refusal.TokenInvalid) ≡ refused x → Row x
  other o read apart e = told (plain refusal.TokenInvalid) e (unknown (λ c is. apart c (sym read ∙ is)))

  by_cursor : (o : Option Cursor) → cursor_of a.keys.token text ≡ o → of page (files_by a.keys now a.now q o (shown_of a name binding (part_by o) log)) ≡ refused x → Row x
  by_cursor None read e = other None read (λ c is. absurd cc) e
  by_cursor (Some (cursor.List l)) read e = other (Some (cursor.List l)) read (λ c is. absurd cc) e
  by_cursor (Some (cursor.Files c)) read e = cursor_cause c read e
  by_cursor (Some (cursor.Feed f)) read e = other (Some (cursor.Feed f)) read (λ c is. absurd cc) e

-- ---- both

-- what a query is answered, of what is found
abbrev query_of : Asking → TableAccess → QueryBody → PartFound → Answer
query_of a m q p = of page (files_with a.keys m a.now q q.token p)

-- what is told of the table where its token is that
at_token : (a : Asking) (name : TableName) (m : TableAccess) (q : QueryBody) (log : Log) (binding : Binding) (x : Refused) (o : Option (List ℕ)) → q.token ≡ o → query_of a m q (shown_of a name binding (files_part a.keys q q.token) log) ≡ refused x
    → of page (files_with a.keys m a.now q o (shown_of a name binding (files_part a.keys q o) log)) ≡ refused x
at_token a name m q log binding x o is e = sym (ap (λ (z : Option (List ℕ)). of page (files_with a.keys m a.now q z (shown_of a name binding (files_part a.keys q z) log))) is) ∙ e

first_has : (a : Asking) (name : TableName) (q : QueryBody) (x : Refused) → q.token ≡ None → IsRefused a (what.Query name q) x
    → TableCause a name (λ log binding. FilesCause log binding (last_bound (asked_by q.version q.moment)) x) x
first_has a name q x none e =
    let m : TableAccess = access_now a.point a.recipient name in
    table_cause a (what.Query name q) name (files_part a.keys q q.token) (λ only. query_of a m q) (λ log binding. FilesCause log binding (last_bound (asked_by q.version q.moment)) x) x refl refl (λ t. refl)
    (λ log binding whole is. first_cause a x m q log binding (grant_of a name) (binding_of a name) whole (at_token a name m q log binding x None none is)) e

later_has : (a : Asking) (name : TableName) (q : QueryBody) (text : List ℕ) (x : Refused) → q.token ≡ Some text → IsRefused a (what.Query name q) x → TableCause a name (λ log binding. FilesTokenCause a name log binding q text x) x
later_has a name q text x has e =
    let m : TableAccess = access_now a.point a.recipient name in
    table_cause a (what.Query name q) name (files_part a.keys q q.token) (λ only. query_of a m q) (λ log binding. FilesTokenCause a name log binding q text x) x refl refl (λ t. refl)
    (λ log binding whole is. by_cursor a name log whole binding q text x (cursor_of a.keys.token text) refl (at_token a name m q log binding x (Some text) has is)) e

pub files_have_causes : FilesHaveCauses
files_have_causes = record { first = first_has; later = later_has }
