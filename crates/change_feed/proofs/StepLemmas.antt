-- The loops over a commit's actions and over a range's commits.
use Rattle.std.proofs.Common.{◌≡◌, ℕ, ℤ, ◌+◌, ◌<◌, ◌≤◌, List, [], ◌∷◌, ◌++◌, Bool, true, false, length, get_or, drop, map, refl, sym, ap, ◌∙◌, arith, append_assoc}
use Rattle.std.specs.Prelude.{filter_map, if◌then◌else◌}
use Rattle.std.specs.List.{list_any}
use Rattle.std.proofs.lemmas.List.{append-nil, drop_all, drop_more, get_or-map, length-map}
use Rattle.std.specs.Arc.{arc_value}
use Rattle.std.specs.declared.sync.Arc.{Arc}
use Rattle.std.specs.declared.alloc.Global.{Global}
use Rattle.log_actions.specs.declared.actions.Action.{Action}
use Rattle.log_replay.specs.declared.times.Mark.{Mark}
use Rattle.change_feed.specs.Changes.{ChangedFile, commit_changes, file_change, is_cdc, row_change}
use Rattle.change_feed.specs.Known.{change_by}
use Rattle.change_feed.specs.Shown.{changes_from}

by_rows : (rows : Bool) (version : ℕ) (time : ℤ) (actions : List Action)
    → (if rows then filter_map (row_change version time) actions else filter_map (file_change version time) actions) ≡ filter_map (change_by rows version time) actions
by_rows true version time actions = refl
by_rows false version time actions = refl

pub commit_by : (version : ℕ) (time : ℤ) (actions : List Action) → commit_changes version time actions ≡ filter_map (change_by (list_any is_cdc actions) version time) actions
commit_by version time actions = by_rows (list_any is_cdc actions) version time actions

abbrev pub Arcs : Type 0
Arcs = List (Arc (List Action) Global)

-- the first version of a range, and the rest
first_of : (version i : ℕ) (marks : List Mark) (commits : List (List Action)) (d : Mark) (c : List Action) → i < length marks → i < length commits → c ≡ get_or commits i c
    → changes_from (version + i) (drop i marks) (drop i commits) ≡ commit_changes (version + i) (get_or marks i d).time c ++ changes_from (version + (i + 1)) (drop (i + 1) marks) (drop (i + 1) commits)
first_of version i marks commits d c marked kept is =
    let ms : drop i marks ≡ get_or marks i d ∷ drop (i + 1) marks = drop_more marks i d marked in
    let cs : drop i commits ≡ c ∷ drop (i + 1) commits = drop_more commits i c kept ∙ ap (λ x. x ∷ drop (i + 1) commits) (sym is) in
    let next : version + i + 1 ≡ version + (i + 1) = omega arith in
    ap (λ l. changes_from (version + i) l (drop i commits)) ms
    ∙ ap (changes_from (version + i) (get_or marks i d ∷ drop (i + 1) marks)) cs
    ∙ ap (λ v. commit_changes (version + i) (get_or marks i d).time c ++ changes_from v (drop (i + 1) marks) (drop (i + 1) commits)) next

-- one version more is listed
pub one_more : (from i j version : ℕ) (marks : List Mark) (arcs : Arcs) (d : Mark) (arc : Arc (List Action) Global) (commit actions : List Action) (rows : Bool) (before after whole : List ChangedFile)
    → i < length arcs → length arcs ≡ length marks → arc ≡ get_or arcs i arc → commit ≡ arc_value arc → actions ≡ commit → version ≡ from + i → rows ≡ list_any is_cdc actions → length actions ≤ j
    → after ++ filter_map (change_by rows version (get_or marks i d).time) (drop j actions) ≡ before ++ filter_map (change_by rows version (get_or marks i d).time) actions
    → before ++ changes_from (from + i) (drop i marks) (drop i (map arc_value arcs)) ≡ whole
    → after ++ changes_from (from + (i + 1)) (drop (i + 1) marks) (drop (i + 1) (map arc_value arcs)) ≡ whole
one_more from i j version marks arcs d arc commit actions rows before after whole lt long is held same at are_rows all inner outer =
    let t : ℤ = (get_or marks i d).time in
    let later : List ChangedFile = changes_from (from + (i + 1)) (drop (i + 1) marks) (drop (i + 1) (map arc_value arcs)) in
    let marked : i < length marks = omega (arith, lt, long) in
    let count : length (map arc_value arcs) ≡ length arcs = length-map arcs arc_value in
    let kept : i < length (map arc_value arcs) = omega (arith, lt, count) in
    let here : arc_value arc ≡ get_or (map arc_value arcs) i (arc_value arc) = ap arc_value is ∙ sym (get_or-map arc_value arcs i arc (arc_value arc) lt) in
    let ended : drop j actions ≡ [] = drop_all j actions all in
    let pushed : after ≡ before ++ filter_map (change_by rows version t) actions = sym (append-nil after) ∙ ap (λ l. after ++ filter_map (change_by rows version t) l) (sym ended) ∙ inner in
    let own : filter_map (change_by rows version t) actions ≡ commit_changes (from + i) t (arc_value arc) =
    ap (λ b. filter_map (change_by b version t) actions) are_rows ∙ sym (commit_by version t actions) ∙ ap (λ v. commit_changes v t actions) at ∙ ap (commit_changes (from + i) t) (same ∙ held) in
    ap (λ l. l ++ later) (pushed ∙ ap (λ l. before ++ l) own)
    ∙ append_assoc before (commit_changes (from + i) t (arc_value arc)) later
    ∙ ap (λ l. before ++ l) (sym (first_of from i marks (map arc_value arcs) d (arc_value arc) marked kept here))
    ∙ outer
