use Rattle.std.proofs.Common.{Err, ap, sym, ◌∙◌, subst}
use Rattle.share_book.specs.Shown.{show_part}
use Rattle.share_reply.specs.Feeds.{unrestricted_changes}
use Rattle.share_reply.specs.Starts.{query_in}
use Rattle.share_reply.specs.Stops.{GivesPage, as_lines}
use Rattle.share_reply.proofs.ShownParts.{changes_restricted, changes_whole}
use Rattle.share_reply.proofs.feeds.changes_page.Goals as goal

pub returns-then-is_restricted : goal.returns-then-is_restricted
returns-then-is_restricted c =
    let keys = c.args.keys.now in
    let only = c.args.spot.now.only in
    let asked = query_in c.args.asked.now in
    let found = show_part only c.args.found.now in
    subst (λ s. GivesPage keys (Err s) (unrestricted_changes keys only c.args.access c.args.now asked found)) (sym c.refuse.ensures)
    (ap (as_lines keys) (changes_restricted keys only c.args.access c.args.now asked found (sym c.is_restricted.ensures ∙ c.if-is_restricted.true)))

pub returns : goal.returns
returns c =
    let keys = c.args.keys.now in
    let only = c.args.spot.now.only in
    subst (GivesPage keys c.whole_changes.result) (sym (changes_whole keys only c.args.access c.args.now (query_in c.args.asked.now) c.args.found.now (sym c.is_restricted.ensures ∙ c.if-is_restricted.false))) c.whole_changes.ensures
