use Rattle.std.proofs.Common.{sym, subst, rules, map, ap, ◌∙◌}
use Rattle.std.specs.Prelude.{MatchResult}
use Rattle.std.specs.Arc.{arc_value}
use Rattle.std.specs.Ordering.{nat_cmp}
use Rattle.std.specs.Cmp.Lexicographic.{slice_cmp}
use Rattle.std.proofs.lemmas.Fn.{always_returns_same}
use Rattle.log_replay.specs.Listing.{CutsAt, StandsAt}
use Rattle.log_replay.specs.Snapshots.{PathsRise}
use Rattle.log_replay.proofs.SpotLemmas.{part_searched}
use Rattle.log_replay.proofs.part.Part.search.Goals as goal

pub returns : goal.returns
returns c =
    let here = ap (map arc_value) c.deref.ensures.value ∙ c.self.view_is in
    subst (λ v. MatchResult c.binary_search_by.result (StandsAt c.args.path.now v) (CutsAt c.args.path.now v)) here
    (part_searched c.args.path.now c.deref.result.now c.binary_search_by.result (subst PathsRise (sym here) c.requires) c.binary_search_by.ensures.bound
    (c.binary_search_by.ensures.position (λ a. slice_cmp nat_cmp (arc_value a).path c.args.path.now) (always_returns_same _ _ _ (λ a r f called. (search rules, search rules)))))
