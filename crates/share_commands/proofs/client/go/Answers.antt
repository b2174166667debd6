use Rattle.share_commands.proofs.client.go.Goals as goal

pub returns-clause-goes : goal.returns-clause-goes
returns-clause-goes g c =
    rw (← c.edge.view_is, ← c.new.ensures)
    (record { told = c.perform.ensures.told; cause = c.perform.ensures.cause; url = c.perform.ensures.url; later = c.perform.ensures.later })
