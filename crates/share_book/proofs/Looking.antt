-- What is found of a view is what is found of the edits and the logs that it is made of.
use Rattle.std.proofs.Common.{◌≡◌, ℕ, List, Option, Some, None, option_map, option_and_then, unwrap_or, refl, sym, ap, ◌∙◌, subst}
use Rattle.std.specs.Prelude.{IfSome}
use Rattle.std.specs.FinMap as maps
use Rattle.std.specs.Ordering.{eq_by_cmp}
use Rattle.log_actions.specs.declared.actions.Action.{Action}
use Rattle.share_catalog.specs.Catalogue.{binding_edition, bound, credential, is_table, tables_bound}
use Rattle.share_catalog.specs.TableNames.{parts_of, texts_cmp}
use Rattle.share_catalog.specs.Views.{Spot, Who, binding, grant, name_of, shared, spot_with, view_among}
use Rattle.share_catalog.specs.Views as catalog
use Rattle.share_catalog.specs.declared.credential.Credential.{Credential}
use Rattle.share_catalog.specs.declared.edit.Binding.{Binding}
use Rattle.share_catalog.specs.declared.edit.Edit.{Edit}
use Rattle.share_catalog.specs.declared.table_name.TableName.{TableName}
use Rattle.share_catalog.proofs.KeyTests.{table_is, table_tie}
use Rattle.share_catalog.proofs.Silent.{unbound}
use Rattle.share_catalog.proofs.ViewLemmas.{get-keyed, tables_are_shown}
use Rattle.share_catalog.proofs.Words.{any_same}
use Rattle.share_book.specs.History.{edits}
use Rattle.share_book.specs.Looked.{IsKept, commits_by, found_by, log_by}
use Rattle.share_book.specs.Bases.{FilesStand, MakesFound}
use Rattle.share_book.specs.Looks.{GlancesBecomeLooks, commits_in, commits_of, found_in, found_with, glance_of, log_in, look_of, part_with, seen_with, table_commits, table_found}
use Rattle.share_book.specs.declared.replay.Replay.{Replay}
use Rattle.share_book.proofs.FilesStanding.{found_stands}
use Rattle.share_book.proofs.Versions.{IsWhole, head_kept, seen_whole, state_whole, told_kept}
use Rattle.share_book.specs.Parts as parts
use Rattle.share_book.specs.Parts.{commits_for, files_of, found_of, version_of, with_files}
use Rattle.share_book.specs.Views.{Log, View, held, held_view, log_at, log_of, logs_of, seen_log, view_with}
use Rattle.share_book.specs.declared.entry.Entry.{Entry}
use Rattle.share_book.specs.declared.look.Found.{Found}
use Rattle.share_book.specs.declared.look.Found.TheVariants as found
use Rattle.share_book.specs.declared.look.Part.{Part}
use Rattle.share_book.specs.declared.look.Part.TheVariants as part
use Rattle.share_book.specs.declared.look.PartFound.{PartFound}
use Rattle.share_book.specs.declared.look.PartFound.TheVariants as part_found
use Rattle.share_book.specs.declared.look.Want.{Want}
use Rattle.share_book.specs.declared.look.Want.TheVariants as want

-- ---- a view's logs

none_bound : (es : List Edit) (t : TableName) → bound es t ≡ None → binding es t ≡ None
none_bound es t none = ap (option_map (λ (b : Binding). (b, binding_edition es t))) none

none_shared : (es : List Edit) (r : List ℕ) (t : TableName) (o : Option ℕ) → binding es t ≡ None → option_and_then (λ edition. option_map (spot_with edition) (binding es t)) o ≡ None
none_shared es r t None none = refl
none_shared es r t (Some n) none = ap (option_map (spot_with n)) none

-- the logs of a view are those of the tables that are shared
pub logs_are_shown : (es : List Edit) (log : Spot → Log) (r : List ℕ) (t : TableName) → maps.get (logs_of es log r) (parts_of t) ≡ log_of es log r t
logs_are_shown es log r t =
    get-keyed parts_of (log_of es log r) (λ x y e. ap (log_of es log r) (table_is x y (sym (table_tie x y) ∙ e))) t (tables_bound es)
    (λ none. ap (option_map log) (none_shared es r t (grant es r t.share) (none_bound es t (unbound t es (any_same (is_table t) (λ u. eq_by_cmp texts_cmp (parts_of t) (parts_of u)) (λ u. sym (table_tie t u)) (tables_bound es) ∙ none)))))

log_case : (h : List Entry) (o : Option Spot) → unwrap_or (option_map (held (log_at h)) o) (seen_log None) ≡ log_by h o
log_case h None = refl
log_case h (Some s) = refl

abbrev view_at : List Entry → List ℕ → Credential → View
view_at h r c = view_with (edits h) (held (log_at h)) (catalog.view_with (edits h) r c)

log_is : (h : List Entry) (r : List ℕ) (t : TableName) → unwrap_or (maps.get (logs_of (edits h) (held (log_at h)) r) (parts_of t)) (seen_log None) ≡ log_by h (shared (edits h) r t)
log_is h r t = ap (λ (o : Option Log). unwrap_or o (seen_log None)) (logs_are_shown (edits h) (held (log_at h)) r t) ∙ log_case h (shared (edits h) r t)

-- ---- what is found of a view

found_is : (find : Spot → Log → Part → PartFound) (h : List Entry) (r : List ℕ) (c : Credential) (w : Want) → found_in find (view_at h r c) w ≡ found_by find h r w
found_is find h r c want.Names = refl
found_is find h r c (want.Table t p) =
    let tables = tables_are_shown (edits h) r t in
    let log = log_is h r t in
    λ i. table_found find (log i) p (tables i)

commits_are : (h : List Entry) (r : List ℕ) (c : Credential) (w : Want) → commits_in w (view_at h r c) ≡ commits_by h r w
commits_are h r c want.Names = refl
commits_are h r c (want.Table t p) =
    let tables = tables_are_shown (edits h) r t in
    let log = log_is h r t in
    λ i. table_commits (log i) p (tables i)

view_none : (h : List Entry) (r : List ℕ) (o : Option Credential) → o ≡ None → option_map (view_with (edits h) (held (log_at h))) (option_map (catalog.view_with (edits h) r) o) ≡ None
view_none h r o none = ap (λ (x : Option Credential). option_map (view_with (edits h) (held (log_at h))) (option_map (catalog.view_with (edits h) r) x)) none

-- nobody is found where there is no name, or no recipient of that name
pub nobody_named : (h : List Entry) (who : Who) → name_of (edits h) who ≡ None → held_view h who ≡ None
nobody_named h who none = ap (λ (o : Option (List ℕ)). option_map (view_with (edits h) (held (log_at h))) (option_and_then (catalog.view_of (edits h)) o)) none

pub nobody_there : (h : List Entry) (who : Who) (r : List ℕ) → name_of (edits h) who ≡ Some r → credential (edits h) r ≡ None → held_view h who ≡ None
nobody_there h who r named none =
    ap (λ (o : Option (List ℕ)). option_map (view_with (edits h) (held (log_at h))) (option_and_then (catalog.view_of (edits h)) o)) named
    ∙ view_none h r (credential (edits h) r) none

-- somebody is found
pub view_found : (h : List Entry) (who : Who) (r : List ℕ) (c : Credential) → name_of (edits h) who ≡ Some r → credential (edits h) r ≡ Some c → held_view h who ≡ Some (view_at h r c)
view_found h who r c named there =
    ap (λ (o : Option (List ℕ)). option_map (view_with (edits h) (held (log_at h))) (option_and_then (catalog.view_of (edits h)) o)) named
    ∙ ap (λ (x : Option Credential). option_map (view_with (edits h) (held (log_at h))) (option_map (catalog.view_with (edits h) r) x)) there

pub glance_is : (h : List Entry) (who : Who) (r : List ℕ) (c : Credential) (w : Want) (f : Found) → name_of (edits h) who ≡ Some r → credential (edits h) r ≡ Some c
    → f ≡ found_by version_of h r w → Some (record { recipient = r; expires = c.expires; found = f }) ≡ glance_of (held_view h who) w
glance_is h who r c w f named there is =
    let e : f ≡ found_in version_of (view_at h r c) w = is ∙ sym (found_is version_of h r c w) in
    (λ i. Some (record { recipient = r; expires = c.expires; found = e i })) ∙ sym (ap (λ (v : Option View). glance_of v w) (view_found h who r c named there))

pub makes_is : (h : List Entry) (who : Who) (r : List ℕ) (c : Credential) (w : Want) (made : Option Replay) → name_of (edits h) who ≡ Some r → credential (edits h) r ≡ Some c
    → MakesFound (commits_by h r w) made → MakesFound (commits_of (held_view h who) w) made
makes_is h who r c w made named there m =
    subst (λ (cs : Option (List (List Action))). MakesFound cs made) (sym (commits_are h r c w) ∙ sym (ap (λ (v : Option View). commits_of v w) (view_found h who r c named there))) m

-- ---- files

part_is : (log : Log) → IsWhole log → (p : PartFound) → IsKept log p → part_with (parts.commits_by log p) p ≡ with_files log p
part_is log whole part_found.Nothing kept = refl
part_is log whole (part_found.Version version) kept = ap (files_of version) (sym (state_whole log whole version kept))
part_is log whole (part_found.Files version state) kept = refl
part_is log whole (part_found.Feed feed) kept = refl
part_is log whole (part_found.Refused why) kept = refl

found_part : (spot : Spot) (log : Log) → IsWhole log → (p : Part) → part_with (commits_for log p (version_of spot log p)) (version_of spot log p) ≡ found_of spot log p
found_part spot log whole part.Place = refl
found_part spot log whole (part.Head b) = refl
found_part spot log whole (part.Files b) = part_is log whole (parts.head_found spot log b) (head_kept spot log whole b)
found_part spot log whole (part.Feed from to) = refl
found_part spot log whole (part.PinnedFiles version) = part_is log whole (parts.pinned_found spot log version) (told_kept spot log whole version)
found_part spot log whole (part.PinnedFeed from to) = refl

found_table : (log : Log) → IsWhole log → (p : Part) (o : Option Spot) → found_with (table_commits log p o) (table_found version_of log p o) ≡ table_found found_of log p o
found_table log whole p None = refl
found_table log whole p (Some s) = ap (found.Table s) (found_part s log whole p)

-- a view whose logs are whole
abbrev HoldsWhole : View → Type 0
HoldsWhole view = (t : TableName) → IsWhole (log_in view t)

found_whole : (w : Want) (view : View) → HoldsWhole view → found_with (commits_in w view) (found_in version_of view w) ≡ found_in found_of view w
found_whole want.Names view whole = refl
found_whole (want.Table t p) view whole = found_table (log_in view t) (whole t) p (maps.get view.catalog.tables (parts_of t))

whole_looks : (view : View) (w : Want) → HoldsWhole view → option_map (seen_with (commits_of (Some view) w)) (glance_of (Some view) w) ≡ look_of (Some view) w
whole_looks view w whole =
    let e = found_whole w view whole in
    λ i. Some (record { recipient = view.catalog.recipient; expires = view.catalog.credential.expires; found = e i })

whole_by : (h : List Entry) (o : Option Spot) → IsWhole (log_by h o)
whole_by h None = seen_whole None
whole_by h (Some s) = seen_whole _

holds_whole : (h : List Entry) (r : List ℕ) (c : Credential) → HoldsWhole (view_at h r c)
holds_whole h r c t = subst IsWhole (sym (log_is h r t)) (whole_by h (shared (edits h) r t))

glance_case : (h : List Entry) (w : Want) (o : Option (List ℕ)) (q : Option Credential) → option_and_then (credential (edits h)) o ≡ q
    → (v : Option View) → v ≡ option_map (view_with (edits h) (held (log_at h))) (option_and_then (catalog.view_of (edits h)) o) → option_map (seen_with (commits_of v w)) (glance_of v w) ≡ look_of v w
glance_case h w None q there v is = subst (λ (x : Option View). option_map (seen_with (commits_of x w)) (glance_of x w) ≡ look_of x w) (sym is) refl
glance_case h w (Some r) None there v is =
    subst (λ (x : Option View). option_map (seen_with (commits_of x w)) (glance_of x w) ≡ look_of x w) (sym (is ∙ ap (λ (x : Option Credential). option_map (view_with (edits h) (held (log_at h))) (option_map (catalog.view_with (edits h) r) x)) there)) refl
glance_case h w (Some r) (Some c) there v is =
    subst (λ (x : Option View). option_map (seen_with (commits_of x w)) (glance_of x w) ≡ look_of x w) (sym (is ∙ ap (λ (x : Option Credential). option_map (view_with (edits h) (held (log_at h))) (option_map (catalog.view_with (edits h) r) x)) there)) (whole_looks (view_at h r c) w (holds_whole h r c))

pub glances_become_looks : GlancesBecomeLooks
glances_become_looks h who w = glance_case h w (name_of (edits h) who) (option_and_then (credential (edits h)) (name_of (edits h) who)) refl (held_view h who) refl

-- ---- what was looked at stands

seen_stands : (h : List Entry) (who : Who) (w : Want) (o : Option (List ℕ)) (q : Option Credential) → name_of (edits h) who ≡ o → option_and_then (credential (edits h)) o ≡ q → IfSome (look_of (held_view h who) w) (λ s. FilesStand h s.found)
seen_stands h who w None q named there = subst (λ (v : Option View). IfSome (look_of v w) (λ s. FilesStand h s.found)) (sym (nobody_named h who named)) tt
seen_stands h who w (Some r) None named there = subst (λ (v : Option View). IfSome (look_of v w) (λ s. FilesStand h s.found)) (sym (nobody_there h who r named there)) tt
seen_stands h who w (Some r) (Some c) named there =
    subst (λ (v : Option View). IfSome (look_of v w) (λ s. FilesStand h s.found)) (sym (view_found h who r c named there)) (subst (FilesStand h) (sym (found_is found_of h r c w)) (found_stands h r w))

-- the files that are found by a look are states of their logs
pub look_stands : (h : List Entry) (who : Who) (w : Want) → IfSome (look_of (held_view h who) w) (λ s. FilesStand h s.found)
look_stands h who w = seen_stands h who w (name_of (edits h) who) (option_and_then (credential (edits h)) (name_of (edits h) who)) refl refl
