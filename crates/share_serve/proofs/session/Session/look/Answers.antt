use Rattle.std.proofs.Common.{sym, ◌∙◌}
use Rattle.share_serve.proofs.Shown.{look_shown}
use Rattle.share_serve.proofs.session.Session.look.Goals as goal

pub returns-in_ok-look-in-Some-clause-seen : goal.returns-in_ok-look-in-Some-clause-seen
returns-in_ok-look-in-Some-clause-seen g c =
    look_shown c.args.self.now.server.now.keys c.args.request.now c.look.new.pass.seen c.in-Some.ask c.in_ok-look-in-Some.field-0.seen (sym c.in-Some.is ∙ c.in_ok-ask.ensures) c.in_ok-look-in-Some.ensures.seen
