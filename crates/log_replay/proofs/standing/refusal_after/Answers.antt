use Rattle.std.proofs.Common.{◌≡◌, sym, ◌∙◌, refl, Result, Ok, Err}
use Rattle.std.specs.Result.{result_err}
use Rattle.log_replay.specs.declared.refusal.ReplayRefusal.{ReplayRefusal}
use Rattle.log_replay.specs.Standing.{standing_of}
use Rattle.log_replay.proofs.HeadLemmas.{head_stands}
use Rattle.log_replay.proofs.NextLemmas.{newer_is, standing_told}
use Rattle.log_replay.proofs.RefusalLemmas.{refusal_in}
use Rattle.log_replay.proofs.standing.refusal_after.Goals as goal

told : (r : Result (Unit {0}) ReplayRefusal) → refusal_in r ≡ result_err r
told (Ok x) = refl
told (Err e) = refl

pub returns : goal.returns
returns c = λ log count head.
    let k = head_stands log _ head in
    standing_told (standing_of log) log c.args.actions.now c.args.versions _ _ c.args.actions.now _ refl k.0 (sym count)
    (newer_is _ _ _ _ _ c.or-protocol.ensures c.protocol_in.ensures (c.head_protocol.ensures ∙ k.1))
    (newer_is _ _ _ _ _ c.or-meta.ensures c.meta_in.ensures (c.head_meta.ensures ∙ k.2))
    refl (sym c.check.ensures)
    ∙ told _ ∙ sym c.err.ensures.value
