use Rattle.std.proofs.Common.{◌<◌, vec_len}
use Rattle.query_command.proofs.input.piece_room.Given as goal

abbrev pub invariant-loop-i : goal.invariant-loop-i
invariant-loop-i l = 0 < vec_len l.room
