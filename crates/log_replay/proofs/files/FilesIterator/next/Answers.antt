use Rattle.std.proofs.Common.{◌≡◌, ◌∷◌, subst}
use Rattle.std.proofs.lemmas.List.Elements.{All-tail}
use Rattle.log_replay.specs.Listing.{AllSized}
use Rattle.log_replay.proofs.SpotLemmas.{Sized}
use Rattle.log_replay.proofs.files.FilesIterator.next.Goals as goal

pub invariant_of-self-2 : goal.invariant_of-self-2
invariant_of-self-2 c =
    let all : c.self.inside.later.now ≡ c.in_ok-first.first.now ∷ c.in_ok-first.later.now = c.in_ok-first.ensures.cases.0 in
    All-tail Sized c.in_ok-first.first.now c.in_ok-first.later.now (subst AllSized all c.self.invariant)
