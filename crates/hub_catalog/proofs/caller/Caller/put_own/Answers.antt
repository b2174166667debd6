use Rattle.hub_catalog.proofs.caller.Caller.put_own.Goals as goal

pub put_made-requires-clause-made : goal.put_made-requires-clause-made
put_made-requires-clause-made g c = (c.args.load.now, c.in-Ok.ensures, c.requires.fits)

pub returns-in-Ok-clause-tried : goal.returns-in-Ok-clause-tried
returns-in-Ok-clause-tried g c = c.put_made.ensures.tried c.args.load.now c.in-Ok.ensures
