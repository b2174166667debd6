use Rattle.share_book.proofs.Showing.{looks_are_shown, nothing_before_first, shown_parts_are_found}
use Rattle.share_book.proofs.laws.what_is_shown_is_seen.Goals as goal

pub returns-clause-parts : goal.returns-clause-parts
returns-clause-parts c = shown_parts_are_found

pub returns-clause-looks : goal.returns-clause-looks
returns-clause-looks c = looks_are_shown

pub returns-clause-first : goal.returns-clause-first
returns-clause-first c = nothing_before_first
