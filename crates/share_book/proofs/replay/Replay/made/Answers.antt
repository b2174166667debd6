use Rattle.share_book.proofs.States.{replays}
use Rattle.share_book.proofs.replay.Replay.made.Goals as goal

pub unreachable-requires : goal.unreachable-requires
unreachable-requires c =
    let of = c.requires.of in
    replays of.0 c.state.result c.in-Err-Refusal.field-0 c.in-Err-Refusal.field-0-0 c.in-Err-Refusal.is c.in-Err-Refusal.field-0-is (c.state.ensures.state of.0 of.1 of.3) of.1 of.2
