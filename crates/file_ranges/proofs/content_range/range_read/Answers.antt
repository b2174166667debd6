use Rattle.std.proofs.lemmas.Option.{IfSome_then}
use Rattle.file_ranges.proofs.PieceFacts.{no_pieces, spelled_again, spelled_joins}
use Rattle.file_ranges.proofs.content_range.range_read.Goals as goal

pub returns-in_err-first-clause-back : goal.returns-in_err-first-clause-back
returns-in_err-first-clause-back c range valid small is = absurd (no_pieces c.args.bytes.now range c.in_err-first.ensures valid small is)

pub returns-clause-reads : goal.returns-clause-reads
returns-clause-reads c =
    IfSome_then c.range_of.result c.range_of.ensures.reads
    (λ range both. (both.0, spelled_joins c.args.bytes.now c.in_ok-first.first.now c.in_ok-first.last.now c.in_ok-first.size.now range c.in_ok-first.ensures both.1))

pub returns-clause-back : goal.returns-clause-back
returns-clause-back c range valid small is =
    c.range_of.ensures.back range valid small
    (spelled_again c.args.bytes.now c.in_ok-first.first.now c.in_ok-first.last.now c.in_ok-first.size.now range c.in_ok-first.ensures valid small is)
