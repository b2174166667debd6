use Rattle.std.proofs.Common.{◌∙◌, ap}
use Rattle.share_book.specs.History.{pending}
use Rattle.share_book.proofs.Rests.{aborted_rests, ready_rests}
use Rattle.hub_catalog.proofs.catalog_turns.go_on.Goals as goal

pub returns-in-Ok-clause-rests : goal.returns-in-Ok-clause-rests
returns-in-Ok-clause-rests c = let r = c.reserve_catalog.ensures in ready_rests _ c.in-Ok.ensures.ready (ap pending r.raised.history ∙ c.requires.settled) (r.others c.requires.others)

pub returns-in-Err-clause-rests : goal.returns-in-Err-clause-rests
returns-in-Err-clause-rests c = let r = c.reserve_catalog.ensures in aborted_rests _ _ c.args.caller c.abort.ensures.added (c.abort.ensures.others (r.others c.requires.others))
