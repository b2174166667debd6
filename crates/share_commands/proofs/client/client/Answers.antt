use Rattle.share_commands.proofs.Calling.{called_runs, notes_none, notes_on, uncalled_runs}
use Rattle.share_commands.proofs.client.client.Goals as goal

pub returns-in-Ok-clause-runs : goal.returns-in-Ok-clause-runs
returns-in-Ok-clause-runs g c =
    called_runs g.V.Link.coming g.V.Link.closed g.V.Link.faults g.V.Link.read_faults g.V.Link.write_faults c.args.profile.now c.args.call_words c.args.edge.now c.prepare.new.edge c.go.new.edge c.end_called.result c.in-Ok.profile c.in-Ok.call c.go.result c.args.way.now c.go.new.way
    c.in-Ok.ensures.looks c.go.ensures.rest c.end_called.ensures c.in-Ok.ensures.prepares c.go.ensures.goes

pub returns-in-Ok-clause-notes : goal.returns-in-Ok-clause-notes
returns-in-Ok-clause-notes g c = notes_on c.args.edge.now c.prepare.new.edge c.go.new.edge c.in-Ok.ensures.looks c.go.ensures.rest

pub returns-in-Err-clause-runs : goal.returns-in-Err-clause-runs
returns-in-Err-clause-runs g c =
    uncalled_runs g.V.Link.coming g.V.Link.closed g.V.Link.faults g.V.Link.read_faults g.V.Link.write_faults c.args.profile.now c.args.call_words c.args.edge.now c.prepare.new.edge c.end_uncalled.result c.in-Err.why c.args.way.now
    c.in-Err.ensures.looks c.end_uncalled.ensures c.in-Err.ensures.prepares

pub returns-in-Err-clause-notes : goal.returns-in-Err-clause-notes
returns-in-Err-clause-notes g c = notes_none c.args.edge.now c.prepare.new.edge c.in-Err.ensures.looks
