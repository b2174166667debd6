-- What isn't in a recipient's view leaves it.
use Rattle.std.proofs.Common.{◌≡◌, ◌≢◌, ℕ, ◌+◌, ◌-◌, ◌<◌, ◌==◌, List, [], ◌∷◌, ◌++◌, Bool, true, false, Option, Some, None, option_map, option_and_then, length, refl, sym, ap, ◌∙◌, subst, arith}
use Rattle.std.specs.FinMap as maps
use Rattle.std.specs.List.{position, slice_get}
use Rattle.std.specs.Option.{IfSome}
use Rattle.std.proofs.lemmas.Bool.{ne_eqb}
use Rattle.std.proofs.lemmas.List.Elements.{filter_map-append}
use Rattle.share_catalog.specs.Catalogue.{credential, tables_bound}
use Rattle.share_catalog.specs.TableNames.{parts_of, texts_cmp}
use Rattle.share_catalog.specs.Views.{CatalogView, Spot, named, shared, table_of, tables_of, view_of}
use Rattle.share_catalog.specs.Views as catalog
use Rattle.share_catalog.specs.declared.credential.Credential.{Credential}
use Rattle.share_catalog.specs.declared.edit.Edit.{Edit}
use Rattle.share_catalog.specs.declared.table_name.TableName.{TableName}
use Rattle.share_catalog.proofs.KeptViews.{edits_leave_views, views_are_shown}
use Rattle.share_catalog.proofs.KeyTests.{bytes_is}
use Rattle.share_catalog.proofs.LawProofs.{leaves_others}
use Rattle.share_catalog.proofs.ListingLemmas.{same_texts}
use Rattle.share_catalog.proofs.Orders.{texts_total}
use Rattle.share_catalog.proofs.ViewLemmas.{none_in_map, tables_are_shown}
use Rattle.share_book.specs.History.{block_of, block_on, commit_of, commit_on, edit_in, edits, grown, start_in, starts, table_on}
use Rattle.share_book.specs.Laws.{ForeignEntriesLeaveViews, IsForeign, IsForeignEdit, ViewsAreShown}
use Rattle.share_book.specs.Legal.{is_at}
use Rattle.share_book.specs.Legal.{log_at as number_at}
use Rattle.share_book.specs.Views.{Log, log_at, log_of, logs_of, seen_log, shown, shown_log, view_by, view_with}
use Rattle.share_book.specs.declared.entry.Entry.{Entry}
use Rattle.share_book.specs.declared.entry.LogStart.{LogStart}
use Rattle.share_book.proofs.Growth.{position_goes_on, still_none}
use Rattle.share_book.proofs.Bookkeeping.{slice_get_left}
use Rattle.share_book.proofs.Logs.{position_less}
use Rattle.share_book.proofs.Looking.{logs_are_shown}
use Rattle.share_book.proofs.Pushes.{elsewhere}
use Rattle.share_book.proofs.Words.{loud, quiet}

-- ---- a view's logs are no more than what they show

no_log : (es : List Edit) (logs : Spot → Log) (r : List ℕ) (q : List (List ℕ)) → (length q ≡ 3 → ⊥) → maps.get (logs_of es logs r) q ≡ None
no_log es logs r q apart = maps.get-entries (logs_of es logs r) q ∙ none_in_map parts_of (log_of es logs r) q (λ t. apart) (tables_bound es)

module _ (es others : List Edit) (logs other_logs : Spot → Log) (r : List ℕ) where
  no_logs : (q : List (List ℕ)) → (length q ≡ 3 → ⊥) → maps.get (logs_of es logs r) q ≡ maps.get (logs_of others other_logs r) q
  no_logs q apart = no_log es logs r q apart ∙ sym (no_log others other_logs r q apart)

  same_log : ((t : TableName) → log_of es logs r t ≡ log_of others other_logs r t) → (q : List (List ℕ)) → maps.get (logs_of es logs r) q ≡ maps.get (logs_of others other_logs r) q
  same_log same [] = no_logs [] (λ e. absurd (omega (arith, e)))
  same_log same (a ∷ []) = no_logs (a ∷ []) (λ e. absurd (omega (arith, e)))
  same_log same (a ∷ b ∷ []) = no_logs (a ∷ b ∷ []) (λ e. absurd (omega (arith, e)))
  same_log same (a ∷ b ∷ c ∷ []) = logs_are_shown es logs r (table_of a (b, c)) ∙ same (table_of a (b, c)) ∙ sym (logs_are_shown others other_logs r (table_of a (b, c)))
  same_log same (a ∷ b ∷ c ∷ d ∷ more) = no_logs (a ∷ b ∷ c ∷ d ∷ more) (λ e. absurd (omega (arith, e)))

  same_logs : ((t : TableName) → log_of es logs r t ≡ log_of others other_logs r t) → logs_of es logs r ≡ logs_of others other_logs r
  same_logs same = maps.same_map texts_total same_texts (logs_of es logs r) (logs_of others other_logs r) (same_log same)

log_shown : (logs other_logs : Spot → Log) (o : Option Spot) → ((s : Spot) → o ≡ Some s → logs s ≡ other_logs s) → option_map logs o ≡ option_map other_logs o
log_shown logs other_logs None same = refl
log_shown logs other_logs (Some s) same = ap Some (same s refl)

-- ---- equal views

view_case : (h other : List Entry) (r : List ℕ) (o : Option Credential) → logs_of (edits h) (shown (log_at h)) r ≡ logs_of (edits other) (shown (log_at other)) r
    → option_map (view_with (edits h) (shown (log_at h))) (option_map (catalog.view_with (edits h) r) o) ≡ option_map (view_with (edits other) (shown (log_at other))) (option_map (catalog.view_with (edits h) r) o)
view_case h other r None same = refl
view_case h other r (Some c) same = λ i. Some (record { catalog = catalog.view_with (edits h) r c; logs = same i })

-- where the catalogue's views and the logs are the same, the views are
view_by_parts : (h other : List Entry) (r : List ℕ) → view_of (edits h) r ≡ view_of (edits other) r → logs_of (edits h) (shown (log_at h)) r ≡ logs_of (edits other) (shown (log_at other)) r → view_by h (named r) ≡ view_by other (named r)
view_by_parts h other r views logs = view_case h other r (credential (edits h) r) logs ∙ ap (option_map (view_with (edits other) (shown (log_at other)))) views

pub book_views_are_shown : ViewsAreShown
book_views_are_shown h other r same =
    view_by_parts h other r (views_are_shown (edits h) (edits other) r same.recipient same.grants same.tables)
    (same_logs (edits h) (edits other) (shown (log_at h)) (shown (log_at other)) r (λ t. log_shown (shown (log_at h)) (shown (log_at other)) (shared (edits h) r t) (same.logs t) ∙ ap (option_map (shown (log_at other))) (same.tables t)))

-- ---- a foreign entry and the catalogue

views_by : (h : List Entry) (r : List ℕ) (e : Entry) (o : Option Edit) → edit_in e ≡ o → IsForeign h r e → view_of (edits (h ++ e ∷ [])) r ≡ view_of (edits h) r
views_by h r e None is foreign = ap (λ (es : List Edit). view_of es r) (quiet edit_in h e is)
views_by h r e (Some x) is foreign =
    let said : IsForeignEdit h r x = subst (λ (o : Option Edit). IfSome o (IsForeignEdit h r)) is foreign.edit in
    ap (λ (es : List Edit). view_of es r) (loud edit_in h e x is) ∙ edits_leave_views (edits h) x r said.0 said.1

pub credential_by : (h : List Entry) (r : List ℕ) (e : Entry) (o : Option Edit) → edit_in e ≡ o → IsForeign h r e → credential (edits (h ++ e ∷ [])) r ≡ credential (edits h) r
credential_by h r e None is foreign = ap (λ (es : List Edit). credential es r) (quiet edit_in h e is)
credential_by h r e (Some x) is foreign =
    let said : IsForeignEdit h r x = subst (λ (o : Option Edit). IfSome o (IsForeignEdit h r)) is foreign.edit in
    ap (λ (es : List Edit). credential es r) (loud edit_in h e x is) ∙ (leaves_others (edits h) x r said.0).0

some_same : {X : Type 0} (x y : X) → Some x ≡ Some y → x ≡ y
some_same x y e = cc

tables_same : (es others : List Edit) (r : List ℕ) (c : Credential) → credential es r ≡ Some c → credential others r ≡ Some c → view_of es r ≡ view_of others r → tables_of es r ≡ tables_of others r
tables_same es others r c is are same =
    ap (λ (v : CatalogView). v.tables) (some_same (catalog.view_with es r c) (catalog.view_with others r c) (sym (ap (option_map (catalog.view_with es r)) is) ∙ (same ∙ ap (option_map (catalog.view_with others r)) are)))

shared_same : (es others : List Edit) (r : List ℕ) (t : TableName) → tables_of es r ≡ tables_of others r → shared es r t ≡ shared others r t
shared_same es others r t same = sym (tables_are_shown es r t) ∙ (ap (λ (m : maps.FinMap texts_cmp Spot). maps.get m (parts_of t)) same ∙ tables_are_shown others r t)

-- ---- a foreign entry and a log

test_false : (location other : List ℕ) (b : Bool) → is_at location (record { location = other; commits = []; block = None }) ≡ b → other ≢ location → b ≡ false
test_false location other false is apart = refl
test_false location other true is apart = absurd (apart (bytes_is other location is))

none_after : (h : List Entry) (e : Entry) (location : List ℕ) (o : Option LogStart) → start_in e ≡ o → IfSome o (λ l. l.location ≢ location) → position (is_at location) (starts h) ≡ None → position (is_at location) (starts (h ++ e ∷ [])) ≡ None
none_after h e location None is apart none = ap (position (is_at location)) (quiet start_in h e is) ∙ none
none_after h e location (Some s) is apart none = ap (position (is_at location)) (loud start_in h e s is) ∙ still_none (is_at location) (starts h) s none (test_false location s.location _ refl apart)

abbrev log_by : List Entry → Option ℕ → Log
log_by h place = seen_log (option_and_then (λ number. table_on number h) (option_map (λ i. i + 1) place))

start_stays : (h : List Entry) (e : Entry) (n : ℕ) (o : Option LogStart) → start_in e ≡ o → n < length (starts h) → slice_get (starts (h ++ e ∷ [])) n ≡ slice_get (starts h) n
start_stays h e n None is less = ap (λ (l : List LogStart). slice_get l n) (quiet start_in h e is)
start_stays h e n (Some s) is less = ap (λ (l : List LogStart). slice_get l n) (loud start_in h e s is) ∙ slice_get_left (starts h) (s ∷ []) n less

log_stays : (h : List Entry) (e : Entry) (location : List ℕ) (o : Option ℕ) → position (is_at location) (starts h) ≡ o → (number_at h location ≢ Some e.log) → IfSome (start_in e) (λ l. l.location ≢ location) → log_at (h ++ e ∷ []) location ≡ log_by h o
log_stays h e location None is off apart = ap (log_by (h ++ e ∷ [])) (none_after h e location (start_in e) refl apart is)
log_stays h e location (Some i) is off apart =
    let less : i < length (starts h) = position_less (is_at location) (starts h) i is in
    let first : position (is_at location) (starts (h ++ e ∷ [])) ≡ Some i = ap (position (is_at location)) (filter_map-append start_in h (e ∷ [])) ∙ position_goes_on (is_at location) (starts h) (starts (e ∷ [])) i is in
    let at : number_at h location ≡ Some (i + 1) = ap (option_map (λ n. n + 1)) is in
    let other : (e.log == i + 1) ≡ false = ne_eqb e.log (i + 1) (λ same. off (at ∙ ap Some (sym same))) in
    let commits = quiet (commit_on (i + 1)) h e (elsewhere (i + 1) e (commit_of e.act) other) in
    let blocks = quiet (block_on (i + 1)) h e (elsewhere (i + 1) e (block_of e.act) other) in
    let start = start_stays h e (i + 1 - 1) (start_in e) refl (omega (arith, less)) in
    ap (log_by (h ++ e ∷ [])) first ∙ (λ k. seen_log (option_map (grown (commits k) (blocks k)) (start k)))

-- ---- a foreign entry and a view

left_by : (h : List Entry) (e : Entry) (r : List ℕ) (o : Option Credential) → credential (edits h) r ≡ o → IsForeign h r e → view_by (h ++ e ∷ []) (named r) ≡ view_by h (named r)
left_by h e r None none foreign =
    let nobody : credential (edits (h ++ e ∷ [])) r ≡ None = credential_by h r e (edit_in e) refl foreign ∙ none in
    ap (λ (o : Option Credential). option_map (view_with (edits (h ++ e ∷ [])) (shown (log_at (h ++ e ∷ [])))) (option_map (catalog.view_with (edits (h ++ e ∷ [])) r) o)) nobody
    ∙ sym (ap (λ (o : Option Credential). option_map (view_with (edits h) (shown (log_at h))) (option_map (catalog.view_with (edits h) r) o)) none)
left_by h e r (Some c) there foreign =
    let views = views_by h r e (edit_in e) refl foreign in
    let tables = tables_same (edits (h ++ e ∷ [])) (edits h) r c (credential_by h r e (edit_in e) refl foreign ∙ there) there views in
    let shares = λ (t : TableName). shared_same (edits (h ++ e ∷ [])) (edits h) r t tables in
    view_by_parts (h ++ e ∷ []) h r views
    (same_logs (edits (h ++ e ∷ [])) (edits h) (shown (log_at (h ++ e ∷ []))) (shown (log_at h)) r (λ t.
    ap (option_map (shown (log_at (h ++ e ∷ [])))) (shares t)
    ∙ log_shown (shown (log_at (h ++ e ∷ []))) (shown (log_at h)) (shared (edits h) r t) (λ s is. ap (shown_log s.only) (log_stays h e s.location (position (is_at s.location) (starts h)) refl (foreign.log t s is) (foreign.load t s is)))))

pub foreign_entries_leave_views : ForeignEntriesLeaveViews
foreign_entries_leave_views h e r foreign = left_by h e r (credential (edits h) r) refl foreign
