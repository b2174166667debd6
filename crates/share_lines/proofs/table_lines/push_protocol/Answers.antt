use Rattle.std.proofs.Common.{◌∷◌, []}
use Rattle.json.specs.Print.{escape_byte}
use Rattle.share_lines.specs.Lines.{protocol_line}
use Rattle.share_lines.proofs.TokenLemmas.{put_on, protocol_with, protocol_is}
use Rattle.share_lines.proofs.table_lines.push_protocol.Goals as goal

pub returns-clause-line : goal.returns-clause-line
unfolding escape_byte
returns-clause-line c = put_on c.extend_from_slice.result c.extend_from_slice.new.self.items c.args.out.now.items (protocol_with (49 ∷ [])) protocol_line c.extend_from_slice.ensures.items protocol_is
