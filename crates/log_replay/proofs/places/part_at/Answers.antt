use Rattle.log_replay.proofs.StartLemmas.{after_start, found_start}
use Rattle.log_replay.proofs.places.part_at.Goals as goal

pub overflow_sub-result : goal.overflow_sub-result
overflow_sub-result c = (after_start c.args.starts.now c.args.place c.in-Err.after c.requires.rising c.requires.first c.in-Err.ensures.position).0

pub returns-in-Ok-clause-high : goal.returns-in-Ok-clause-high
returns-in-Ok-clause-high c = found_start c.args.starts.now c.args.place c.in-Ok.part c.requires.rising c.in-Ok.ensures.position

pub returns-in-Err-clause-low : goal.returns-in-Err-clause-low
returns-in-Err-clause-low c = (after_start c.args.starts.now c.args.place c.in-Err.after c.requires.rising c.requires.first c.in-Err.ensures.position).1

pub returns-in-Err-clause-high : goal.returns-in-Err-clause-high
returns-in-Err-clause-high c = (after_start c.args.starts.now c.args.place c.in-Err.after c.requires.rising c.requires.first c.in-Err.ensures.position).2
