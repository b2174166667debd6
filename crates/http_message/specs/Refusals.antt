-- The refusals that answer messages with flaws.
use Rattle.case_table.specs.declared.refuse.Refusal.{Refusal}
use Rattle.case_table.specs.declared.refuse.Refusal.TheVariants as refusal
use Rattle.http_message.specs.declared.refusal.Flaw.{Flaw}
use Rattle.http_message.specs.declared.refusal.Flaw.TheVariants.{BadMessage, BodyTooLarge, HeadTooLarge, TransferCoding}

abbrev pub refusal_of : Flaw → Refusal
refusal_of BadMessage = refusal.BadMessage
refusal_of BodyTooLarge = refusal.BodyTooLarge
refusal_of HeadTooLarge = refusal.HeadTooLarge
refusal_of TransferCoding = refusal.TransferCoding
