use Rattle.std.proofs.Common.{arith, ◌≡◌, ◌∙◌, ap, ◌-◌, take, drop, length, sym}
use Rattle.std.proofs.Math.Seq.{take-add}
use Rattle.std.specs.Io.KnownBytes.{append_known}
use Rattle.std.proofs.lemmas.List.{take_all, length-drop}
use Rattle.edge_core.proofs.Flows.{append_known-append}
use Rattle.edge_core.proofs.writing.write_all.Goals as goal

pub loop-at-preserved : goal.loop-at-preserved
loop-at-preserved g c =
    let l = c.loop-at.invariant in
    let b = c.args.bytes.now in
    let at = c.loop-at.at in
    let whole : take (length b - at) (drop at b) ≡ drop at b = take_all (length b - at) (drop at b) (omega (arith, length-drop at b)) in
    let written = rw whole at c.in-Bytes.ensures.bytes in
    record {
      within = omega (arith, length-drop at b, written.1);
      held = written.2 ∙ ap (λ known. append_known known (take c.in-Bytes.count (drop at b))) l.held
          ∙ append_known-append _ _ _ ∙ ap (append_known (g.K.Sink.holds c.args.sink.now)) (sym (take-add at c.in-Bytes.count b));
      later = omega (arith, c.in-Bytes.ensures.cause.later);
    }
