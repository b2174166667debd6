-- What a replay makes of what was found.
use Rattle.std.proofs.Common.{◌≡◌, ◌<◌, List, length, Option, Some, None, Result, Ok, sym, refl, subst}
use Rattle.log_actions.specs.declared.actions.Action.{Action}
use Rattle.log_replay.specs.Snapshots.{Answers}
use Rattle.log_replay.specs.Standing.{IsSupported}
use Rattle.log_replay.specs.State.{State, state_of}
use Rattle.log_replay.specs.declared.refusal.NoState.{NoState}
use Rattle.share_book.specs.Bases.{Makes, MakesFound}
use Rattle.share_book.specs.Making.{IsMade}
use Rattle.share_book.specs.declared.replay.Replay.{Replay}

-- the commits of which the files are made
pub found_made : (o : Option (List (List Action))) (r : Replay) → MakesFound o (Some r) → (cs : List (List Action)) × (o ≡ Some cs) × IsSupported cs × (0 < length cs) × Makes cs r
found_made None r m = absurd m
found_made (Some cs) r m = (cs, refl, m.0, m.1, m.2)

pub is_made : (cs : List (List Action)) (answer : Result State NoState) (s : State) (made : Option State) → Answers answer (state_of cs) → answer ≡ Ok s → made ≡ Some s → IsMade made (state_of cs)
is_made cs answer s made told ok is = subst (λ (m : Option State). IsMade m (state_of cs)) (sym is) (subst (λ (r : Result State NoState). Answers r (state_of cs)) ok told)
