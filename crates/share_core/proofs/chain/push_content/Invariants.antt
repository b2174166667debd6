use Rattle.std.proofs.Common.{◌≡◌, ◌++◌, length}
use Rattle.std.specs.Prelude.{filter}
use Rattle.share_core.specs.Chains.{is_content}
use Rattle.share_core.proofs.chain.push_content.Given as goal

abbrev pub invariant-loop-line : goal.invariant-loop-line
invariant-loop-line l = l.content.items ++ filter is_content l.lines.items ≡ l.initial.content.items ++ filter is_content l.initial.lines.items

abbrev pub decreases-loop-line : goal.decreases-loop-line
decreases-loop-line l = length l.lines.items
