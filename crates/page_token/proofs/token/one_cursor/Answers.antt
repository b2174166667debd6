use Rattle.page_token.proofs.CursorOf.{one_cursor}
use Rattle.page_token.proofs.token.one_cursor.Goals as goal

pub returns : goal.returns
returns c = one_cursor
