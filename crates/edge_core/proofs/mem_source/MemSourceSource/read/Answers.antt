use Rattle.std.proofs.Common.{arith, ◌+◌, ◌++◌, drop, ◌∙◌, ap, Some}
use Rattle.std.proofs.lemmas.Grind.{common_steps}
use Rattle.edge_core.proofs.Parts.{front_and_rest}
use Rattle.edge_core.proofs.mem_source.MemSourceSource.read.Goals as goal

pub returns-clause-bytes : goal.returns-clause-bytes
returns-clause-bytes c = (
  c.piece-size.ensures.some,
  grind (arith, common_steps),
  ap Some (front_and_rest c.args.self.now.bytes.items c.args.self.now.at c.piece-size.result
      ∙ ap (λ f. f ++ drop (c.args.self.now.at + c.piece-size.result) c.args.self.now.bytes.items) (grind (arith, common_steps))),
)
