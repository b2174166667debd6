use Rattle.std.proofs.Common.{Some, ap, ◌∙◌}
use Rattle.share_book.proofs.Listed.{holder_is, none_of, some_of}
use Rattle.share_book.proofs.spots.recipient_of.Goals as goal

pub returns-in-Some : goal.returns-in-Some
returns-in-Some c =
    ap Some c.as_str.ensures.value ∙ some_of c.holder.result c.in-Some.name (λ n. n.now) c.in-Some.is ∙ holder_is c.args.catalog.now.edits c.in-Token.digest c.holder.result c.args.who.now (λ n. n.now) c.in-Token.is c.holder.ensures

pub returns-in-None : goal.returns-in-None
returns-in-None c =
    none_of c.holder.result (λ n. n.now) c.in-None.is ∙ holder_is c.args.catalog.now.edits c.in-Token.digest c.holder.result c.args.who.now (λ n. n.now) c.in-Token.is c.holder.ensures
