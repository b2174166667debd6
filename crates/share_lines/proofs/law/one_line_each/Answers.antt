use Rattle.json_print.proofs.LineFeeds.{text_free}
use Rattle.share_lines.specs.Printing.{line_data}
use Rattle.share_lines.proofs.BodyBack.{body_back, lines_apart}
use Rattle.share_lines.proofs.law.one_line_each.Goals as goal

pub returns : goal.returns
returns c = record { free = λ line. text_free (line_data line); apart = lines_apart; back = body_back }
