use Rattle.std.proofs.Common.{rules, tests, lit<}
use Rattle.std.proofs.lemmas.Iterator.Search.{any_from_yields_List}
use Rattle.std.proofs.lemmas.Iterator.Splits.{YieldsList-from_str_split}
use Rattle.httparse.specs.Grammar.{trim_ows}
use Rattle.http_message.specs.Fields.{same_text}
use Rattle.share_request.proofs.capability.lists.Goals as goal

pub returns : goal.returns
returns c =
    any_from_yields_List (λ element. same_text (trim_ows element) c.args.word.now) _ _ _ c.any.ensures.ran
    (YieldsList-from_str_split 44 c.args.list.now (lit< tt) c.split.ensures.text c.split.ensures.has_more c.split.ensures.pattern)
    (λ x b q k. search (rules, tests))
