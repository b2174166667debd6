use Rattle.std.proofs.Common.{◌∙◌, ap, sym}
use Rattle.change_feed.specs.Changes.{ChangedFile}
use Rattle.share_reply.specs.Feeds.{action_of}
use Rattle.share_reply.proofs.given.came_by.Goals as goal

pub returns-clause-action : goal.returns-clause-action
returns-clause-action c = let change = c.args.change.now in c.action_of.ensures.action change.version change.time ∙ ap (λ (x : ChangedFile). action_of x.action) (sym c.action.ensures)

pub returns-clause-path : goal.returns-clause-path
returns-clause-path c = let change = c.args.change.now in c.action_of.ensures.path change.version change.time ∙ ap (λ (x : ChangedFile). x.path) (sym c.action.ensures)
