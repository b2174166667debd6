use Rattle.std.proofs.Common.{◌≤◌, get_or, Option, sym, subst, arith}
use Rattle.share_book.specs.declared.entry.LogStart.{LogStart}
use Rattle.hub_catalog.specs.CatalogTurns.{IsReadyFor, LoadFits}
use Rattle.share_book.proofs.Rests.{has_begun, others, settled}
use Rattle.hub_catalog.proofs.Loads.{ready_none, ready_some, takes_log}
use Rattle.hub_catalog.proofs.catalog_turns.load_in.Goals as goal

pub load_log-requires-clause-room : goal.load_log-requires-clause-room
load_log-requires-clause-room c =
    let n = c.len.ensures.rooms in
    let r : 3 ≤ get_or c.args.book.now.past.rooms 0 0 = (has_begun c.args.book.now c.args.caller c.requires.rests (omega arith) c.requires.begun).0 in
    omega arith

pub load_log-requires-clause-line : goal.load_log-requires-clause-line
load_log-requires-clause-line c = let n = c.len.ensures.rooms in (has_begun c.args.book.now c.args.caller c.requires.rests (omega arith) c.requires.begun).2

pub load_log-requires-clause-settled : goal.load_log-requires-clause-settled
load_log-requires-clause-settled c = settled c.args.book.now c.requires.rests

pub load_log-requires-clause-fresh : goal.load_log-requires-clause-fresh
load_log-requires-clause-fresh c = takes_log c.args.book.now c.args.edit.now c.in-Some.log c.len.ensures.legal c.requires.rests c.requires.admitted (subst (LoadFits c.args.book.now.past.history c.args.edit.now) c.in-Some.is c.requires.fits)

pub returns-in-Some : goal.returns-in-Some
returns-in-Some c =
    let n = c.len.ensures.rooms in
    subst (λ (l : Option LogStart). IsReadyFor c.args.caller c.args.edit.now l c.args.book.now c.load_log.new.self) (sym c.in-Some.is)
    (ready_some c.args.caller c.args.edit.now c.in-Some.log c.args.book.now c.load_log.new.self (omega arith) c.requires.rests c.requires.begun (subst (LoadFits c.args.book.now.past.history c.args.edit.now) c.in-Some.is c.requires.fits) c.load_log.ensures.loaded (c.load_log.ensures.others (others c.args.book.now 0 c.requires.rests)))

pub returns-in-None : goal.returns-in-None
returns-in-None c =
    let n = c.len.ensures.rooms in
    subst (λ (l : Option LogStart). IsReadyFor c.args.caller c.args.edit.now l c.args.book.now c.args.book.now) (sym c.in-None.is)
    (ready_none c.args.caller c.args.edit.now c.args.book.now (omega arith) c.requires.rests c.requires.begun (subst (LoadFits c.args.book.now.past.history c.args.edit.now) c.in-None.is c.requires.fits) (others c.args.book.now 0 c.requires.rests))
