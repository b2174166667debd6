use Rattle.json_print.proofs.LineFeeds.{text_free}
use Rattle.delta_lines.specs.Delta.{delta_line_data}
use Rattle.delta_lines.proofs.BodyBack.{body_back}
use Rattle.delta_lines.proofs.ReadBack.{lines_apart}
use Rattle.delta_lines.proofs.law.one_delta_line_each.Goals as goal

pub returns : goal.returns
returns c = record { free = λ line. text_free (delta_line_data line); apart = lines_apart; back = body_back }
