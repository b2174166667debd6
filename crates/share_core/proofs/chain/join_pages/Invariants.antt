use Rattle.share_core.proofs.Chaining.{Onto}
use Rattle.share_core.proofs.chain.join_pages.Given as goal

abbrev pub invariant-loop-reply : goal.invariant-loop-reply
invariant-loop-reply l = Onto l.replies l.reply-index l.content.items
