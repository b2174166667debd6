use Rattle.std.proofs.Common.{arith, ◌≡◌, ◌-◌, ◌+◌, ◌∙◌, ap, take, drop, length}
use Rattle.std.specs.Io.KnownBytes.{append_known}
use Rattle.std.proofs.lemmas.List.{take_all, length-drop}
use Rattle.edge_core.proofs.Gatherings.{handed_on}
use Rattle.edge_core.proofs.gathering.Gathering.hand_on.Goals as goal

pub returns-in-Err-clause-held : goal.returns-in-Err-clause-held
returns-in-Err-clause-held g c =
    let xs = c.args.self.now.kept.items in
    let at = c.args.self.now.handed in
    let ys = c.deref.result.now in
    let whole : take (length ys - at) (drop at ys) ≡ drop at xs =
    ap (λ l. take (length l - at) (drop at l)) c.deref.ensures.value ∙ take_all (length xs - at) (drop at xs) (omega (arith, length-drop at xs)) in
    let wrote = rw whole at c.in-Err.ensures.wrote in
    ap (λ known. append_known known (drop (at + c.in-Err.written) xs)) wrote.1 ∙ handed_on _ xs at c.in-Err.written
