use Rattle.std.proofs.Common.{◌+◌, take}
use Rattle.share_book.proofs.States.{supported_up_to}
use Rattle.hub_tables.proofs.Admissions.{front_made, makes_read, read_found}
use Rattle.hub_tables.proofs.admission.state_read.Goals as goal

pub made-requires-clause-of : goal.made-requires-clause-of
made-requires-clause-of c =
    let of = c.requires.of in
    let m = makes_read of.0 of.1 c.args.log.now.read c.in-Some.replay of.2.read c.in-Some.is in
    front_made of.1 m.0 c.in-Some.replay of.2.supported m.2 m.3

pub returns-in_ok-made-in-Some : goal.returns-in_ok-made-in-Some
returns-in_ok-made-in-Some c = λ read commits is.
    let m = makes_read read commits c.args.log.now.read c.in-Some.replay is.read c.in-Some.is in
    read_found read commits m.0 c.in_ok-made-in-Some.field-0 m.1 m.2 (c.in_ok-made-in-Some.ensures (take (m.0 + 1) commits) (supported_up_to commits (m.0 + 1) is.supported) m.3)
