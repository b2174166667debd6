use Rattle.http_message.proofs.LineFacts.{bad_from_long, bad_from_open, line_here}
use Rattle.http_message.proofs.chunk.chunk_line.Goals as goal

pub returns-then-len-gt256 : goal.returns-then-len-gt256
returns-then-len-gt256 c =
    let at = rw c.in-Ok-Complete.field-0-is at c.in-Ok-Complete.ensures.complete in
    bad_from_long _ c.in-Ok-Complete.len c.in-Ok-Complete.size at.0 at.1 c.if-len-gt256.true

pub returns-else-len-gt256 : goal.returns-else-len-gt256
returns-else-len-gt256 c =
    let at = rw c.in-Ok-Complete.field-0-is at c.in-Ok-Complete.ensures.complete in
    line_here _ c.in-Ok-Complete.len c.in-Ok-Complete.size at.0 at.1 c.if-len-gt256.false

pub returns-then-bytes-ge256 : goal.returns-then-bytes-ge256
returns-then-bytes-ge256 c =
    let none = rw c.in-Ok-Partial.field-0-is at c.in-Ok-Partial.ensures.partial in
    bad_from_open _ none c.if-bytes-ge256.true
