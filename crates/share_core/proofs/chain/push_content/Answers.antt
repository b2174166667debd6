use Rattle.std.proofs.Common.{◌≡◌, ◌++◌, ◌∷◌, List, rules, subst}
use Rattle.std.specs.Prelude.{filter}
use Rattle.share_lines.specs.declared.kinds.Line.{Line}
use Rattle.share_core.specs.Chains.{is_content}
use Rattle.share_core.proofs.Chaining.{content_next}
use Rattle.share_core.proofs.chain.push_content.Goals as goal

pub loop-line-preserved : goal.loop-line-preserved
loop-line-preserved c =
    let was = c.args.content.now.items in
    let all = c.args.lines.items in
    let here = c.loop-line.content.items in
    let rest : c.loop-line.lines.items ≡ c.in-Some.line ∷ c.pop_front.new.self.items = search rules in
    content_next was here c.push_line.new.content.items c.pop_front.new.self.items all c.in-Some.line
    (subst (λ (ls : List Line). here ++ filter is_content ls ≡ was ++ filter is_content all) rest c.loop-line.invariant) c.in_ok-push_line.ensures
