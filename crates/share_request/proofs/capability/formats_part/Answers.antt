use Rattle.std.proofs.Common.{rules, tests, lit<}
use Rattle.std.proofs.lemmas.Iterator.Search.{find_from_yields_List}
use Rattle.std.proofs.lemmas.Iterator.Splits.{YieldsList-from_str_split}
use Rattle.share_request.specs.Capabilities.{names_formats}
use Rattle.share_request.proofs.capability.formats_part.Goals as goal

pub returns : goal.returns
returns c =
    find_from_yields_List names_formats _ _ _ c.find.ensures.ran
    (YieldsList-from_str_split 59 c.args.value.now (lit< tt) c.split.ensures.text c.split.ensures.has_more c.split.ensures.pattern)
    (λ x b q k. search (rules, tests))
