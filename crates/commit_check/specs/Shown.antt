-- What the code finds that an action shows.
use Rattle.std.specs.Prelude.{◌||◌, ℕ, List, Bool, Option, option_map}
use Rattle.std.specs.List.{list_any, position_from}
use Rattle.std.specs.Option.{option_or}
use Rattle.log_actions.specs.Commits.{is_meta_data, is_protocol}
use Rattle.log_actions.specs.declared.actions.Action.{Action}
use Rattle.commit_check.specs.Lookups.{has_one}
use Rattle.commit_check.specs.Offers.{added_file, added_path, app_of, removed_path}
use Rattle.commit_check.specs.ReadFiles.{has_file_of, has_path_of}
use Rattle.commit_check.specs.declared.offered.Offered.{Offered}
use Rattle.commit_check.specs.declared.reading.Reading.{Reading}
use Rattle.commit_check.specs.declared.conflict.Conflict.{Conflict}
use Rattle.commit_check.specs.declared.conflict.Conflict.TheVariants as conflict
use Rattle.commit_check.specs.declared.winners.Sign.{Sign}
use Rattle.commit_check.specs.declared.winners.Sign.TheVariants as sign

abbrev pub shown : Sign → Offered → Reading → Action → Bool
shown sign.Protocol o r a = is_protocol a
shown sign.MetaData o r a = is_meta_data a
shown sign.Transaction o r a = has_one o.apps (app_of a)
shown sign.DeleteDelete o r a = has_one o.removed (removed_path a)
shown sign.AddAdd o r a = has_one o.added (added_path a) || (has_one o.removed (added_path a) || has_one o.added (removed_path a))
shown sign.DeleteRead o r a = has_path_of r (added_path a) || has_path_of r (removed_path a)
shown sign.Append o r a = has_file_of r (added_file a)

-- the first of some commits that has an action which passes, where they have the versions from one on
abbrev pub first_from : (Action → Bool) → ℕ → List (List Action) → Option ℕ
first_from test from commits = position_from (list_any test) from commits

abbrev pub told : (ℕ → Conflict) → Sign → Offered → Reading → ℕ → List (List Action) → Option Conflict
told conflict sign o r from commits = option_map conflict (first_from (shown sign o r) from commits)

-- the first conflict that commits of the versions from one on show
abbrev pub first_shown : Offered → Reading → ℕ → List (List Action) → Option Conflict
first_shown o r from commits =
    option_or (told (λ v. conflict.ProtocolChanged v) sign.Protocol o r from commits)
    (option_or (told (λ v. conflict.MetadataChanged v) sign.MetaData o r from commits)
    (option_or (told (λ v. conflict.ConcurrentTransaction v) sign.Transaction o r from commits)
    (option_or (told (λ v. conflict.ConcurrentDeleteDelete v) sign.DeleteDelete o r from commits)
    (option_or (told (λ v. conflict.ConcurrentAddAdd v) sign.AddAdd o r from commits)
    (option_or (told (λ v. conflict.ConcurrentDeleteRead v) sign.DeleteRead o r from commits)
    (told (λ v. conflict.ConcurrentAppend v) sign.Append o r from commits))))))
