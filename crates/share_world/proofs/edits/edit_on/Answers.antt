use Rattle.std.proofs.Common.{◌∙◌, ap, arith}
use Rattle.share_catalog.specs.Catalogue.{refusal_of}
use Rattle.share_catalog.specs.CatalogState.{unless}
use Rattle.share_catalog.specs.declared.edit.Edit.{Edit}
use Rattle.share_book.specs.History as history
use Rattle.share_book.specs.History.{pending}
use Rattle.share_world.proofs.EditSteps.{takes_loads}
use Rattle.share_world.proofs.Turns.{accepted, begun_edit, ready_by}
use Rattle.share_world.proofs.edits.edit_on.Goals as goal

pub begin-requires-clause-settled : goal.begin-requires-clause-settled
begin-requires-clause-settled c = ap pending c.reserve_catalog.ensures.raised.history ∙ c.requires.idle.settled

pub load_in-requires-clause-settled : goal.load_in-requires-clause-settled
load_in-requires-clause-settled c =
    let n = c.reserve_catalog.ensures.raised.count in
    let t = c.len.ensures.rooms in
    (begun_edit c.reserve_catalog.new.self c.begin.new.self c.args.book.now.past.history (omega arith) c.in_ok-reserve_catalog.ensures.ready c.reserve_catalog.ensures.raised.history c.if-begin.ensures.begun.1).holds.settled

pub load_in-requires-clause-begun : goal.load_in-requires-clause-begun
load_in-requires-clause-begun c =
    let n = c.reserve_catalog.ensures.raised.count in
    let t = c.len.ensures.rooms in
    (begun_edit c.reserve_catalog.new.self c.begin.new.self c.args.book.now.past.history (omega arith) c.in_ok-reserve_catalog.ensures.ready c.reserve_catalog.ensures.raised.history c.if-begin.ensures.begun.1).holds.holder

pub load_in-requires-clause-fresh : goal.load_in-requires-clause-fresh
load_in-requires-clause-fresh c =
    let n = c.reserve_catalog.ensures.raised.count in
    let t = c.len.ensures.rooms in
    let h = c.args.book.now.past.history in
    let begun = begun_edit c.reserve_catalog.new.self c.begin.new.self h (omega arith) c.in_ok-reserve_catalog.ensures.ready c.reserve_catalog.ensures.raised.history c.if-begin.ensures.begun.1 in
    takes_loads h c.begin.new.self.past.history c.args.edit.now c.args.load c.requires.idle c.requires.admitted c.requires.fits begun.history

pub edit-requires-clause-begun : goal.edit-requires-clause-begun
edit-requires-clause-begun c =
    let n = c.reserve_catalog.ensures.raised.count in
    let t = c.len.ensures.rooms in
    let h = c.args.book.now.past.history in
    let begun = begun_edit c.reserve_catalog.new.self c.begin.new.self h (omega arith) c.in_ok-reserve_catalog.ensures.ready c.reserve_catalog.ensures.raised.history c.if-begin.ensures.begun.1 in
    (ready_by h c.begin.new.self c.load_in.new.book c.args.edit.now c.args.load begun c.requires.fits c.load_in.ensures).holder

pub edit-requires-clause-located : goal.edit-requires-clause-located
edit-requires-clause-located c =
    let n = c.reserve_catalog.ensures.raised.count in
    let t = c.len.ensures.rooms in
    let h = c.args.book.now.past.history in
    let begun = begun_edit c.reserve_catalog.new.self c.begin.new.self h (omega arith) c.in_ok-reserve_catalog.ensures.ready c.reserve_catalog.ensures.raised.history c.if-begin.ensures.begun.1 in
    rw c.in_ok-own.ensures ((ready_by h c.begin.new.self c.load_in.new.book c.args.edit.now c.args.load begun c.requires.fits c.load_in.ensures).located)

pub edit-requires-clause-follows : goal.edit-requires-clause-follows
edit-requires-clause-follows c =
    let n = c.reserve_catalog.ensures.raised.count in
    let t = c.len.ensures.rooms in
    let h = c.args.book.now.past.history in
    let begun = begun_edit c.reserve_catalog.new.self c.begin.new.self h (omega arith) c.in_ok-reserve_catalog.ensures.ready c.reserve_catalog.ensures.raised.history c.if-begin.ensures.begun.1 in
    rw c.in_ok-own.ensures ((ready_by h c.begin.new.self c.load_in.new.book c.args.edit.now c.args.load begun c.requires.fits c.load_in.ensures).follows)

pub unreachable-requires : goal.unreachable-requires
unreachable-requires c =
    let n = c.reserve_catalog.ensures.raised.count in
    let t = c.len.ensures.rooms in
    let h = c.args.book.now.past.history in
    let begun = begun_edit c.reserve_catalog.new.self c.begin.new.self h (omega arith) c.in_ok-reserve_catalog.ensures.ready c.reserve_catalog.ensures.raised.history c.if-begin.ensures.begun.1 in
    let ready = ready_by h c.begin.new.self c.load_in.new.book c.args.edit.now c.args.load begun c.requires.fits c.load_in.ensures in
    accepted h c.load_in.new.book c.args.edit.now c.edit.result c.in-Err.field-0 ready c.requires.admitted
    (c.edit.ensures.answer ∙ ap (λ (e : Edit). unless (refusal_of (history.edits c.load_in.new.book.past.history) e)) c.in_ok-own.ensures) c.in-Err.is
