-- The rules that the actions of a commit keep, and the first that is broken.
use Rattle.std.specs.Prelude.{ℕ, ◌&&◌, not, List, [], ◌∷◌, ◌++◌, Bool, false, Option, Some, None, Result, Ok, Err, filter_map, length, bytes_eq, if◌then◌else◌}
use Rattle.std.specs.List.{list_any, range_with_len}
use Rattle.std.specs.Option.{option_map_or}
use Rattle.log_actions.specs.Commits.{counted_path, has_good_path, is_meta_data, is_protocol}
use Rattle.log_actions.specs.declared.actions.Action.{Action}
use Rattle.log_commit.specs.declared.faults.CommitFault.{CommitFault}
use Rattle.log_commit.specs.declared.faults.CommitFault.TheVariants as fault

-- whether the action counts for a path that one of those before it counts for
abbrev pub has_path_again : List Action → Action → Bool
has_path_again before a = option_map_or (λ path. list_any (bytes_eq path) (filter_map counted_path before)) (counted_path a) false

-- the first rule that the action of line n breaks after the actions before it
abbrev pub broken_rule : ℕ → List Action → Action → Option CommitFault
broken_rule n before a =
    if is_protocol a && list_any is_protocol before then Some (fault.TwoProtocols n)
    else if is_meta_data a && list_any is_meta_data before then Some (fault.TwoMetaData n)
    else if not (has_good_path a) then Some (fault.BadPath n)
    else if has_path_again before a then Some (fault.PathTwice n)
    else None

abbrev pub or_else : Option CommitFault → Option CommitFault → Option CommitFault
or_else (Some e) rest = Some e
or_else None rest = rest

-- the first rule that an action of numbered lines breaks, after those in front
abbrev pub first_broken : List Action → List ℕ → List Action → Option CommitFault
first_broken front [] actions = None
first_broken front (n ∷ ns) [] = None
first_broken front (n ∷ ns) (a ∷ actions) = or_else (broken_rule n front a) (first_broken (front ++ a ∷ []) ns actions)

abbrev pub unless_broken : Option CommitFault → List Action → Result (List Action) CommitFault
unless_broken None actions = Ok actions
unless_broken (Some e) actions = Err e

-- the commit of these actions, or the first rule that one of them breaks, by its place among them: the first is 1
abbrev pub commit_from : List Action → Result (List Action) CommitFault
commit_from actions = unless_broken (first_broken [] (range_with_len 1 (length actions)) actions) actions
