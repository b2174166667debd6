use Rattle.std.proofs.Common.{◌≡◌, ◌+◌, ◌<◌, List, length, map, take, drop, sym, ap, ◌∙◌, subst, arith}
use Rattle.std.specs.Arc.{arc_value}
use Rattle.std.proofs.lemmas.List.{length-map, length-take, take-map}
use Rattle.log_actions.specs.declared.actions.Action.{Action}
use Rattle.log_replay.specs.Standing.{IsSupported}
use Rattle.share_book.specs.Views.{Log}
use Rattle.share_book.proofs.States.{first_within, rest_of, supported_up_to}
use Rattle.share_book.proofs.log_part.SeenLog.replay.Goals as goal

pub first_left-first-requires : goal.first_left-first-requires
first_left-first-requires c =
    let front : List (List Action) = take (c.args.version + 1) c.args.self.now.commits in
    let within = first_within front c.in_ok-base.base c.in_ok-base.ensures in
    let long = length-take (c.args.version + 1) c.args.self.now.commits in
    let log : map arc_value c.self.inside.commits.now ≡ c.args.self.now.commits = ap (λ (l : Log). l.commits) c.self.view_is in
    let same : length c.args.self.now.commits ≡ length c.self.inside.commits.now = ap (λ (l : List (List Action)). length l) (sym log) ∙ length-map c.self.inside.commits.now arc_value in
    let room = c.self.told.0 in
    omega arith

pub returns-clause-makes : goal.returns-clause-makes
returns-clause-makes c =
    let n = c.args.version + 1 in
    let log : map arc_value c.self.inside.commits.now ≡ c.args.self.now.commits = ap (λ (l : Log). l.commits) c.self.view_is in
    let good : IsSupported c.args.self.now.commits = subst IsSupported log c.self.invariant.supported in
    let long = length-take n c.args.self.now.commits in
    let kept : c.args.version < length c.args.self.now.commits = c.requires in
    let front : map arc_value (take n c.self.inside.commits.now) ≡ take n c.args.self.now.commits = sym (take-map arc_value n c.self.inside.commits.now) ∙ ap (take n) log in
    let left = rest_of (take n c.self.inside.commits.now) c.first_left-first.result c.of.result (c.of.ensures ∙ c.in_ok-after.ensures) in (
      supported_up_to c.args.self.now.commits n good,
      omega arith,
      (c.in_ok-base.ensures, left ∙ ap (drop c.first_left-first.result) front ∙ ap (λ k. drop k (take n c.args.self.now.commits)) c.first_left-first.ensures),
    )
