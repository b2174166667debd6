use Rattle.std.proofs.Common.{length}
use Rattle.share_client.proofs.Contents.{OntoContent}
use Rattle.share_client.proofs.table_page.read_content.Given as goal

abbrev pub invariant-loop-line : goal.invariant-loop-line
invariant-loop-line g l = OntoContent g.T.Line.PageLine.form g.T.Content.reads l.initial.found.items l.found.items l.initial.lines.items l.lines.items

abbrev pub decreases-loop-line : goal.decreases-loop-line
decreases-loop-line g l = length l.lines.items
