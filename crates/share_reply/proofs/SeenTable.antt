-- What a view shows of a table, by the history that it is of.
use Rattle.std.proofs.Common.{◌≡◌, ℕ, ◌<◌, ◌≤◌, ◌⊎◌, inl, inr, ⊎_elim, List, [], ◌∷◌, ◌++◌, Bool, true, false, Option, Some, None, option_map, refl, sym, ap, ◌∙◌, subst, length, arith}
use Rattle.std.specs.Prelude.{option_and_then, unwrap_or}
use Rattle.std.specs.FinMap as maps
use mathlib.Core.List.{IsPrefix}
use Rattle.std.proofs.lemmas.List.{length-map}
use Rattle.std.proofs.lemmas.List.Elements.{filter_map-append}
use Rattle.log_actions.specs.declared.actions.Action.{Action}
use Rattle.share_catalog.specs.Catalogue.{binding_edition, bound, credential, grant_edition, granted, said}
use Rattle.share_catalog.specs.TableNames.{parts_of}
use Rattle.share_catalog.specs.Views.{Spot, Who, binding, grant, name_of, shared, spot_with}
use Rattle.share_catalog.specs.Views as catalog
use Rattle.share_catalog.specs.declared.credential.Credential.{Credential}
use Rattle.share_catalog.specs.declared.edit.Binding.{Binding}
use Rattle.share_catalog.specs.declared.edit.Edit.{Edit}
use Rattle.share_catalog.specs.declared.table_name.TableName.{TableName}
use Rattle.share_catalog.proofs.ViewLemmas.{tables_are_shown}
use Rattle.share_book.specs.History.{edit_in, edits}
use Rattle.share_book.specs.Looks.{log_in}
use Rattle.share_book.specs.Parts.{state_at}
use Rattle.share_book.specs.Views.{Log, View, bare, log_at, logs_of, seen_log, shown, shown_log, shown_result, view_by, view_with}
use Rattle.share_book.specs.declared.entry.Entry.{Entry}
use Rattle.share_book.proofs.Growth.{logs_grow}
use Rattle.share_book.proofs.Looking.{logs_are_shown}
use Rattle.share_book.proofs.Versions.{IsWhole, marks_whole, seen_whole, states_whole}
use Rattle.share_reply.proofs.BindingLemmas.{same_binding}

-- a table stands in a view as it is bound
pub record IsBound (point : List Entry) (name : TableName) (spot : Spot) (log : Log) : Type 0 where
  pub binding : Binding
  pub is_bound : bound (edits point) name ≡ Some binding
  pub edition : spot.binding ≡ binding_edition (edits point) name
  pub first : spot.first ≡ binding.first
  pub only : spot.only ≡ binding.only
  pub location : spot.location ≡ binding.location
  pub is_log : log ≡ shown (log_at point) spot

spot_case : (edition : ℕ) (b : ℕ) (o : Option Binding) (spot : Spot) → option_map (spot_with edition) (option_map (λ (x : Binding). (x, b)) o) ≡ Some spot → (x : Binding) × (o ≡ Some x) × (spot ≡ spot_with edition (x, b))
spot_case edition b None spot e = absurd cc
spot_case edition b (Some x) spot e = (x, refl, cc)

grant_case : (es : List Edit) (name : TableName) (o : Option ℕ) (spot : Spot) → option_and_then (λ edition. option_map (spot_with edition) (binding es name)) o ≡ Some spot
    → (edition : ℕ) × (x : Binding) × (bound es name ≡ Some x) × (spot ≡ spot_with edition (x, binding_edition es name))
grant_case es name None spot e = absurd cc
grant_case es name (Some edition) spot e = let (x, is, at) = spot_case edition (binding_edition es name) (bound es name) spot e in (edition, x, is, at)

log_case : (log : Spot → Log) (o : Option Spot) (spot : Spot) → o ≡ Some spot → unwrap_or (option_map log o) (seen_log None) ≡ log spot
log_case log None spot e = absurd cc
log_case log (Some s) spot e = let same : s ≡ spot = cc in ap log same

abbrev shown_at : List Entry → Spot → Log
shown_at h spot = shown (log_at h) spot

bound_in : (h : List Entry) (r : List ℕ) (name : TableName) (spot : Spot) → shared (edits h) r name ≡ Some spot → unwrap_or (maps.get (logs_of (edits h) (shown_at h) r) (parts_of name)) (seen_log None) ≡ shown_at h spot
bound_in h r name spot is = ap (λ (o : Option Log). unwrap_or o (seen_log None)) (logs_are_shown (edits h) (shown_at h) r name) ∙ log_case (shown_at h) (shared (edits h) r name) spot is

view_case : (h : List Entry) (r : List ℕ) (c : Credential) (view : View) (name : TableName) (spot : Spot) → view_with (edits h) (shown_at h) (catalog.view_with (edits h) r c) ≡ view
    → maps.get view.catalog.tables (parts_of name) ≡ Some spot → IsBound h name spot (log_in view name)
view_case h r c view name spot same is =
    let here : shared (edits h) r name ≡ Some spot = sym (tables_are_shown (edits h) r name) ∙ ap (λ (v : View). maps.get v.catalog.tables (parts_of name)) same ∙ is in
    let (edition, b, is_bound, at) = grant_case (edits h) name (grant (edits h) r name.share) spot here in
    record {
      binding = b;
      is_bound = is_bound;
      edition = ap (λ (s : Spot). s.binding) at;
      first = ap (λ (s : Spot). s.first) at;
      only = ap (λ (s : Spot). s.only) at;
      location = ap (λ (s : Spot). s.location) at;
      is_log = sym (ap (λ (v : View). log_in v name) same) ∙ bound_in h r name spot here;
    }

some_is : {X : Type 0} (x y : X) → Some x ≡ Some y → x ≡ y
some_is x y e = cc

credential_case : (h : List Entry) (r : List ℕ) (o : Option Credential) (view : View) (name : TableName) (spot : Spot) → option_map (view_with (edits h) (shown_at h)) (option_map (catalog.view_with (edits h) r) o) ≡ Some view
    → maps.get view.catalog.tables (parts_of name) ≡ Some spot → IsBound h name spot (log_in view name)
credential_case h r None view name spot v is = absurd cc
credential_case h r (Some c) view name spot v is = view_case h r c view name spot (some_is _ view v) is

who_case : (h : List Entry) (o : Option (List ℕ)) (view : View) (name : TableName) (spot : Spot) → option_map (view_with (edits h) (shown_at h)) (option_and_then (catalog.view_of (edits h)) o) ≡ Some view
    → maps.get view.catalog.tables (parts_of name) ≡ Some spot → IsBound h name spot (log_in view name)
who_case h None view name spot v is = absurd cc
who_case h (Some r) view name spot v is = credential_case h r (credential (edits h) r) view name spot v is

pub is_bound : (h : List Entry) (who : Who) (view : View) (name : TableName) (spot : Spot) → view_by h who ≡ Some view → maps.get view.catalog.tables (parts_of name) ≡ Some spot → IsBound h name spot (log_in view name)
is_bound h who view name spot v is = who_case h (name_of (edits h) who) view name spot v is

-- ---- its grant

granted_case : (es : List Edit) (name : TableName) (b : Bool) (n : ℕ) (spot : Spot) → option_and_then (λ edition. option_map (spot_with edition) (binding es name)) (said b n) ≡ Some spot → (b ≡ true) × (spot.grant ≡ n)
granted_case es name false n spot e = absurd cc
granted_case es name true n spot e = let (x, is, at) = spot_case n (binding_edition es name) (bound es name) spot e in (refl, ap (λ (s : Spot). s.grant) at)

-- the recipient is granted the table's share, and this is the grant's edition
abbrev pub IsGranted : List Entry → List ℕ → TableName → Spot → Type 0
IsGranted h r name spot = (granted (edits h) r name.share ≡ true) × (spot.grant ≡ grant_edition (edits h) r name.share)

view_granted : (h : List Entry) (r : List ℕ) (c : Credential) (view : View) (name : TableName) (spot : Spot) → view_with (edits h) (shown_at h) (catalog.view_with (edits h) r c) ≡ view
    → maps.get view.catalog.tables (parts_of name) ≡ Some spot → (view.catalog.recipient ≡ r) × IsGranted h r name spot
view_granted h r c view name spot same is =
    let here : shared (edits h) r name ≡ Some spot = sym (tables_are_shown (edits h) r name) ∙ ap (λ (v : View). maps.get v.catalog.tables (parts_of name)) same ∙ is in
    (sym (ap (λ (v : View). v.catalog.recipient) same), granted_case (edits h) name (granted (edits h) r name.share) (grant_edition (edits h) r name.share) spot here)

credential_granted : (h : List Entry) (r : List ℕ) (o : Option Credential) (view : View) (name : TableName) (spot : Spot) → option_map (view_with (edits h) (shown_at h)) (option_map (catalog.view_with (edits h) r) o) ≡ Some view
    → maps.get view.catalog.tables (parts_of name) ≡ Some spot → (view.catalog.recipient ≡ r) × IsGranted h r name spot
credential_granted h r None view name spot v is = absurd cc
credential_granted h r (Some c) view name spot v is = view_granted h r c view name spot (some_is _ view v) is

who_granted : (h : List Entry) (o : Option (List ℕ)) (view : View) (name : TableName) (spot : Spot) → option_map (view_with (edits h) (shown_at h)) (option_and_then (catalog.view_of (edits h)) o) ≡ Some view
    → maps.get view.catalog.tables (parts_of name) ≡ Some spot → IsGranted h view.catalog.recipient name spot
who_granted h None view name spot v is = absurd cc
who_granted h (Some r) view name spot v is =
    let (same, granted_is) = credential_granted h r (credential (edits h) r) view name spot v is in
    subst (λ (x : List ℕ). IsGranted h x name spot) (sym same) granted_is

pub is_granted : (h : List Entry) (who : Who) (view : View) (name : TableName) (spot : Spot) → view_by h who ≡ Some view → maps.get view.catalog.tables (parts_of name) ≡ Some spot → IsGranted h view.catalog.recipient name spot
is_granted h who view name spot v is = who_granted h (name_of (edits h) who) view name spot v is

-- of a recipient that is found by its name
pub named_granted : (h : List Entry) (r : List ℕ) (view : View) (name : TableName) (spot : Spot) → view_by h (catalog.named r) ≡ Some view → maps.get view.catalog.tables (parts_of name) ≡ Some spot → IsGranted h r name spot
named_granted h r view name spot v is = (credential_granted h r (credential (edits h) r) view name spot v is).1

-- ---- its log

-- a history that goes on
abbrev Continues : List Entry → List Entry → Type 0
Continues before after = (more : List Entry) × (after ≡ before ++ more)

-- A log that has grown: the states that it had are as they were, and where it is shown whole it has more commits at its end.
pub record Grown (only : Option (List ℕ)) (log grown : Log) : Type 0 where
  pub states : (version : ℕ) → version < length log.states → state_at grown version ≡ state_at log version
  pub commits : only ≡ None → (more : List (List Action)) × (grown.commits ≡ log.commits ++ more)

-- a log that is shown whole
pub shown_whole : (point : List Entry) (name : TableName) (spot : Spot) (log : Log) → IsBound point name spot log → spot.only ≡ None → log ≡ log_at point spot.location
shown_whole point name spot log s none = s.is_log ∙ ap (λ (o : Option (List ℕ)). shown_log o (log_at point spot.location)) none

-- Where a table is seen under the edition of its binding that it had, its log is the same, and has grown.
same_log : (before now : List Entry) (name : TableName) (spot spot' : Spot) (log log' : Log) → IsBound before name spot log → IsBound now name spot' log' → Continues before now → spot'.binding ≡ spot.binding → Grown spot.only log log'
same_log before now name spot spot' log log' s s' (later, goes) same =
    let joined : edits now ≡ edits before ++ edits later = ap edits goes ∙ filter_map-append edit_in before later in
    let editions : binding_edition (edits before ++ edits later) name ≡ binding_edition (edits before) name = ap (λ (es : List Edit). binding_edition es name) (sym joined) ∙ sym s'.edition ∙ same ∙ s.edition in
    let b_is : s'.binding ≡ s.binding = same_binding (edits before) (edits later) name s.binding s'.binding editions s.is_bound (ap (λ (es : List Edit). bound es name) (sym joined) ∙ s'.is_bound) in
    let only : spot'.only ≡ spot.only = s'.only ∙ ap (λ (b : Binding). b.only) b_is ∙ sym s.only in
    let location : spot'.location ≡ spot.location = s'.location ∙ ap (λ (b : Binding). b.location) b_is ∙ sym s.location in
    let here : log' ≡ shown (log_at (before ++ later)) spot = s'.is_log ∙ (λ i. shown_log (only i) (log_at (goes i) (location i))) in
    record {
      states = λ version kept.
          ap (λ (l : Log). state_at l version) here
          ∙ logs_grow.shows before later spot version (subst (λ (l : Log). version < length l.states) s.is_log kept)
          ∙ ap (λ (l : Log). state_at l version) (sym s.is_log);
      commits = λ none.
          let whole = λ (h : List Entry). ap (λ (o : Option (List ℕ)). (shown_log o (log_at h spot.location)).commits) none in
          let (more, grown) = logs_grow.grows before later spot.location in (
            more,
            ap (λ (l : Log). l.commits) here ∙ whole (before ++ later) ∙ grown ∙ ap (λ (cs : List (List Action)). cs ++ more) (sym (ap (λ (l : Log). l.commits) s.is_log ∙ whole before)),
          );
    }

-- ---- two points of one history, in any order

-- two beginnings of one list: one begins the other
either_begins : {A : Type 0} (xs ys zs : List A) → IsPrefix xs zs → IsPrefix ys zs → IsPrefix xs ys ⊎ IsPrefix ys xs
either_begins [] ys zs p q = inl (ys, refl)
either_begins (x ∷ xs) [] zs p q = inr (x ∷ xs, refl)
either_begins (x ∷ xs) (y ∷ ys) [] p q = absurd (cc (p.1))
either_begins (x ∷ xs) (y ∷ ys) (z ∷ zs) p q =
    let heads : x ≡ y = cc (p.1, q.1) in
    ⊎_elim
    (λ r. inl (r.0, cc (heads, r.1)))
    (λ r. inr (r.0, cc (heads, r.1)))
    (either_begins xs ys zs (p.0, cc (p.1)) (q.0, cc (q.1)))

goes_on : (before now : List Entry) → IsPrefix before now → Continues before now
goes_on before now p = (p.0, sym p.1)

-- Where a table is seen under one edition of its binding at two points, of two logs the one has grown to be the other.
pub either_log : (history before now : List Entry) (name : TableName) (spot spot' : Spot) (log log' : Log) → IsBound before name spot log → IsBound now name spot' log' → IsPrefix before history → IsPrefix now history → spot'.binding ≡ spot.binding
    → Grown spot.only log log' ⊎ Grown spot'.only log' log
either_log history before now name spot spot' log log' s s' at at' same =
    ⊎_elim
    (λ r. inl (same_log before now name spot spot' log log' s s' (goes_on before now r) same))
    (λ r. inr (same_log now before name spot' spot log' log s' s (goes_on now before r) (sym same)))
    (either_begins before now history at at')

-- so a version that both have has one state
pub either_states : (only only' : Option (List ℕ)) (log log' : Log) (version : ℕ) → Grown only log log' ⊎ Grown only' log' log → version < length log.states → version < length log'.states → state_at log' version ≡ state_at log version
either_states only only' log log' version (inl g) kept kept' = g.states version kept
either_states only only' log log' version (inr g) kept kept' = sym (g.states version kept')

-- ---- a log as it is shown

-- one that is shown whole is that of its commits
pub is_whole : (point : List Entry) (name : TableName) (spot : Spot) (log : Log) → IsBound point name spot log → spot.only ≡ None → IsWhole log
is_whole point name spot log s none = subst IsWhole (sym (shown_whole point name spot log s none)) (seen_whole _)

shown_counted : (only : Option (List ℕ)) (log : Log) → length log.marks ≤ length log.states → length (shown_log only log).marks ≤ length (shown_log only log).states
shown_counted None log few = few
shown_counted (Some text) log few =
    let marks = length-map log.marks bare in
    let states = length-map log.states (shown_result (Some text)) in
    omega (arith, marks, states, few)

whole_counted : (log : Log) → IsWhole log → length log.marks ≤ length log.states
whole_counted log whole =
    let marks = marks_whole log whole in
    let states = states_whole log whole in
    omega (arith, marks, states)

-- each version that has a mark is kept
pub marks_kept : (point : List Entry) (name : TableName) (spot : Spot) (log : Log) → IsBound point name spot log → length log.marks ≤ length log.states
marks_kept point name spot log s = subst (λ (l : Log). length l.marks ≤ length l.states) (sym s.is_log) (shown_counted spot.only (log_at point spot.location) (whole_counted (log_at point spot.location) (seen_whole _)))
