use Rattle.share_commands.proofs.Numbers.{piece_within}
use Rattle.share_commands.proofs.words.piece_of.Goals as goal

pub returns-in-Some : goal.returns-in-Some
returns-in-Some c = piece_within c.args.word.now c.in-Some.bytes c.of.result c.in-Some.ensures c.of.ensures
