use Rattle.log_actions.proofs.GoodPaths.{good_answer}
use Rattle.log_actions.proofs.paths.path_name.Goals as goal

pub returns-clause-good : goal.returns-clause-good
returns-clause-good c = good_answer c.args.location.now c.args.path.now c.name_of_path.result c.as_str.ensures.good (rw c.as_str.ensures.value at c.name_of_path.ensures)
