use Rattle.share_book.proofs.Growth.{others_leave_catalogue, others_leave_logs}
use Rattle.share_book.proofs.laws.others_leave_what_is_begun.Goals as goal

pub returns-clause-logs : goal.returns-clause-logs
returns-clause-logs c = others_leave_logs

pub returns-clause-catalogue : goal.returns-clause-catalogue
returns-clause-catalogue c = others_leave_catalogue
