use Rattle.share_book.proofs.Foreign.{book_views_are_shown, foreign_entries_leave_views}
use Rattle.share_book.proofs.Tokens.{tokens_show_views}
use Rattle.share_book.proofs.laws.foreign_entries_leave_views.Goals as goal

pub returns-clause-shown : goal.returns-clause-shown
returns-clause-shown c = book_views_are_shown

pub returns-clause-entries : goal.returns-clause-entries
returns-clause-entries c = foreign_entries_leave_views

pub returns-clause-tokens : goal.returns-clause-tokens
returns-clause-tokens c = tokens_show_views
