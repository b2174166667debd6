-- A feed is what stands between two versions.
use Rattle.std.proofs.Common.{◌≡◌, ℕ, ◌+◌, ◌-◌, ◌<◌, Bool, true, false, cond, List, [], ◌∷◌, Option, Some, arith, drop, get_or, length, map, min, nat_le, nat_lt, refl, take, unwrap_or, sym, ap, ◌∙◌}
use Rattle.std.specs.List.{drop-map, slice_get, take-map}
use Rattle.std.specs.Option.{option_map}
use Rattle.std.specs.Arc.{arc_value}
use Rattle.std.specs.declared.alloc.Global.{Global}
use Rattle.std.specs.declared.sync.Arc.{Arc}
use Rattle.std.proofs.lemmas.Bool.Decides.{nat_tests}
use Rattle.std.proofs.lemmas.Option.{slice_get-get_or}
use Rattle.log_actions.specs.declared.actions.Action.{Action}
use Rattle.log_replay.specs.Times.{marks_in}
use Rattle.log_replay.specs.declared.times.Mark.{Mark}
use Rattle.share_book.specs.Parts as parts
use Rattle.share_catalog.specs.Views.{Spot}
use Rattle.share_book.specs.Views.{Log, whole_log}
use Rattle.share_book.specs.declared.look.FeedPart.{FeedPart}
use Rattle.share_book.specs.declared.look.PartFound.TheVariants as part_found
use Rattle.share_book.specs.declared.look.TableRefusal.TheVariants as refusal

abbrev log_of : List (Arc (List Action) Global) → Bool → Log
log_of commits blocked = whole_log (map arc_value commits) blocked

-- the first commits of a list
pub up_to_is : (commits : List (Arc (List Action) Global)) (n : ℕ) (cs : List (List Action)) → cs ≡ map arc_value (take n commits) → cs ≡ take n (map arc_value commits)
up_to_is commits n cs is = is ∙ sym (take-map arc_value n commits)

-- the commit of a version that a mark points at
commit_is : (commits : List (Arc (List Action) Global)) (blocked : Bool) (at : Mark → ℕ) (mark : Mark) (o : Option Mark) (commit : List Action) → o ≡ Some mark → Some commit ≡ slice_get (map arc_value commits) (at mark) → commit ≡ parts.commit_at (log_of commits blocked) (option_map at o)
commit_is commits blocked at mark o commit is found = ap (λ (x : Option (List Action)). unwrap_or x []) found ∙ sym (ap (λ (x : Option Mark). parts.commit_at (log_of commits blocked) (option_map at x)) is)

pub feed_is : (commits : List (Arc (List Action) Global)) (marks : List Mark) (from to : ℕ) (default : Mark) (blocked : Bool) (cs : List (List Action)) (ms : List Mark) (meta protocol : List Action) → marks ≡ marks_in (map arc_value commits) → to < length marks
    → cs ≡ map arc_value (take (to + 1 - from) (drop from commits)) → ms ≡ take (to + 1 - from) (drop from marks) → Some meta ≡ slice_get (map arc_value commits) (get_or marks to default).meta_at → Some protocol ≡ slice_get (map arc_value commits) (get_or marks to default).protocol_at
    → record { from = from; to = to; commits = cs; marks = ms; meta = meta; protocol = protocol } ≡ parts.feed_of (log_of commits blocked) from to
feed_is commits marks from to default blocked cs ms meta protocol marked less cs_are ms_are metas protocols =
    let mark : Mark = get_or marks to default in
    let at : slice_get (marks_in (map arc_value commits)) to ≡ Some mark = sym (ap (λ (xs : List Mark). slice_get xs to) marked) ∙ slice_get-get_or marks to default less in
    let cut : cs ≡ parts.between from to (map arc_value commits) = cs_are ∙ (sym (take-map arc_value (to + 1 - from) (drop from commits)) ∙ ap (take (to + 1 - from)) (sym (drop-map arc_value from commits))) in
    let marks_cut : ms ≡ parts.between from to (marks_in (map arc_value commits)) = ms_are ∙ ap (parts.between from to) marked in
    let meta_is = commit_is commits blocked (λ m. m.meta_at) mark (slice_get (marks_in (map arc_value commits)) to) meta at metas in
    let protocol_is = commit_is commits blocked (λ m. m.protocol_at) mark (slice_get (marks_in (map arc_value commits)) to) protocol at protocols in
    λ i. record { from = from; to = to; commits = cut i; marks = marks_cut i; meta = meta_is i; protocol = protocol_is i }

pub feed_since : (spot : Spot) (log : Log) (from to : ℕ) (feed : FeedPart) → nat_lt from spot.first ≡ false → feed ≡ parts.feed_of log from to → part_found.Feed feed ≡ parts.from_first spot.first from (part_found.Feed (parts.feed_of log from to))
feed_since spot log from to feed since is =
    ap part_found.Feed is ∙ sym (ap (λ b. cond b (part_found.Refused (refusal.NotShared spot.first)) (part_found.Feed (parts.feed_of log from to))) since)

take_none : {X : Type 0} (xs : List X) → take 0 xs ≡ []
take_none [] = refl
take_none (x ∷ xs) = refl

cut_case : {X : Type 0} (from to first : ℕ) (xs : List X) (c : Bool) → nat_le from (to + 1) ≡ c → first ≡ min (to + 1) from → take (to + 1 - first) (drop first xs) ≡ take (to + 1 - from) (drop from xs)
cut_case from to first xs true le is = let same : first ≡ from = grind (arith, nat_tests, le, is) in ap (λ n. take (to + 1 - n) (drop n xs)) same
cut_case from to first xs false le is =
    let none : to + 1 - first ≡ 0 = grind (arith, nat_tests, le, is) in
    let few : to + 1 - from ≡ 0 = grind (arith, nat_tests, le) in
    ap (λ n. take n (drop first xs)) none ∙ (take_none (drop first xs) ∙ sym (take_none (drop from xs))) ∙ sym (ap (λ n. take n (drop from xs)) few)

-- versions from a later one are none
pub cut_is : {X : Type 0} (from to first : ℕ) (xs : List X) → first ≡ min (to + 1) from → take (to + 1 - first) (drop first xs) ≡ take (to + 1 - from) (drop from xs)
cut_is from to first xs is = cut_case from to first xs (nat_le from (to + 1)) refl is
