-- What private functions answer.
use Rattle.std.specs.Prelude.{◌≡◌, ⊤, List, Result, Ok, Err, Vec}
use Rattle.std.specs.declared.alloc.Global.{Global}
use Rattle.share_reply.specs.Answer.{Page, of, page}
use Rattle.share_reply.specs.Bodies.{page_lines}
use Rattle.share_reply.specs.Chains.{NextIsSpelt}
use Rattle.share_reply.specs.declared.keys.ReplyKeys.{ReplyKeys}
use Rattle.share_reply.specs.declared.page.Paged.{Paged}
use Rattle.share_reply.specs.Refusing.{Refused}
use Rattle.share_reply.specs.declared.stop.Stop.{Stop}
use Rattle.share_reply.specs.declared.stop.Stop.TheVariants as stop

-- The answer is what is given, or the refusal. Want of memory says nothing.
abbrev pub Gives : {X : Type 0} → Result X Stop → Result X Refused → Type 0
Gives (Ok x) given = given ≡ Ok x
Gives (Err (stop.Refused r)) given = given ≡ Err r
Gives (Err stop.NoMemory) given = ⊤

-- a page as its version and its lines
abbrev pub as_lines : ReplyKeys → Result Page Refused → Result Paged Refused
as_lines keys (Ok p) = Ok (record { version = p.version; lines = page_lines keys p })
as_lines keys (Err r) = Err r

-- a page is given as its lines, with a token of where the next one begins; or the refusal
abbrev pub GivesPage : ReplyKeys → Result Paged Stop → Result Page Refused → Type 0
GivesPage keys (Ok x) given = (as_lines keys given ≡ Ok x) × NextIsSpelt keys (of page given)
GivesPage keys (Err (stop.Refused r)) given = as_lines keys given ≡ Err r
GivesPage keys (Err stop.NoMemory) given = ⊤

-- the same of a list
abbrev pub GivesItems : {X : Type 0} → Result (Vec X Global) Stop → Result (List X) Refused → Type 0
GivesItems (Ok v) given = given ≡ Ok v.items
GivesItems (Err (stop.Refused r)) given = given ≡ Err r
GivesItems (Err stop.NoMemory) given = ⊤
