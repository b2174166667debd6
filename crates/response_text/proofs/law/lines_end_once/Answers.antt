use Rattle.response_text.proofs.LineLemmas.{fields_clean, status_line_clean}
use Rattle.response_text.proofs.law.lines_end_once.Goals as goal

pub returns : goal.returns
returns c head = (status_line_clean head.status, fields_clean head)
