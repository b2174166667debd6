-- The rules that the actions of one commit keep.
use Rattle.std.specs.Prelude.{◌≡◌, ℕ, ◌&&◌, List, Bool, true, false, Option, Some, None, filter_map, bytes_eq, nat_le, if◌then◌else◌}
use Rattle.std.specs.List.{list_all, count_by}
use Rattle.log_actions.specs.declared.actions.Action.{Action}
use Rattle.log_actions.specs.declared.actions.Action.TheVariants as action
use Rattle.log_actions.specs.Paths.{is_good_path}

abbrev pub is_protocol : Action → Bool
is_protocol (action.Protocol p) = true
is_protocol _ = false

abbrev pub is_meta_data : Action → Bool
is_meta_data (action.MetaData m) = true
is_meta_data _ = false

-- whether the path that an action has, if it has one, is good
abbrev pub has_good_path : Action → Bool
has_good_path (action.Add f) = is_good_path f.path
has_good_path (action.Remove f) = is_good_path f.path
has_good_path (action.Cdc f) = is_good_path f.path
has_good_path _ = true

abbrev pub unless : Bool → List ℕ → Option (List ℕ)
unless vector path = if vector then None else Some path

-- the path of an add or a remove without a deletion vector
abbrev pub counted_path : Action → Option (List ℕ)
counted_path (action.Add f) = unless f.vector f.path
counted_path (action.Remove f) = unless f.vector f.path
counted_path _ = None

-- each stands among them once
abbrev pub are_distinct : List (List ℕ) → Bool
are_distinct paths = list_all (λ path. nat_le (count_by (bytes_eq path) paths) 1) paths

-- at most one protocol and one metaData, good paths, and no path in two adds or removes without a deletion vector
abbrev pub is_commit : List Action → Bool
is_commit actions = nat_le (count_by is_protocol actions) 1 && (nat_le (count_by is_meta_data actions) 1
    && (list_all has_good_path actions && are_distinct (filter_map counted_path actions)))

abbrev pub IsCommit : List Action → Type 0
IsCommit actions = is_commit actions ≡ true
