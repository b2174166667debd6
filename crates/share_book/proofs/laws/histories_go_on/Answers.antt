use Rattle.share_book.proofs.Growth.{book_editions_rise, fronts_are_legal, logs_grow}
use Rattle.share_book.proofs.laws.histories_go_on.Goals as goal

pub returns-clause-logs : goal.returns-clause-logs
returns-clause-logs c = logs_grow

pub returns-clause-editions : goal.returns-clause-editions
returns-clause-editions c = book_editions_rise

pub returns-clause-fronts : goal.returns-clause-fronts
returns-clause-fronts c = fronts_are_legal
