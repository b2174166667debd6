use Rattle.http_message.proofs.HeadFacts.{lacks_section, no_section, some_section, short_section}
use Rattle.http_message.proofs.head.is_trailers.Goals as goal

pub returns-then-len-text : goal.returns-then-len-text
returns-then-len-text c =
    let held = rw c.in-Ok-Complete.field-0-is at c.in-Ok-Complete.ensures.complete in
    some_section c.in-Ok-Complete.len _ c.in-Ok-Complete.headers.now held.0 held.1 held.2 c.if-len-text.true

pub returns-else-len-text : goal.returns-else-len-text
returns-else-len-text c =
    let held = rw c.in-Ok-Complete.field-0-is at c.in-Ok-Complete.ensures.complete in
    short_section c.in-Ok-Complete.len _ c.in-Ok-Complete.headers.now held.0 held.1 held.2 c.if-len-text.false

pub returns-in-Ok-Partial : goal.returns-in-Ok-Partial
returns-in-Ok-Partial c =
    let none = rw c.in-Ok-Partial.field-0-is at c.in-Ok-Partial.ensures.partial in
    no_section _ none

pub returns-in-Err-TooManyHeaders : goal.returns-in-Err-TooManyHeaders
returns-in-Err-TooManyHeaders c = lacks_section _ c.in-Err-TooManyHeaders.ensures.no_room

pub returns-in-Err : goal.returns-in-Err
returns-in-Err c = lacks_section _ c.in-Err.ensures.no_room
