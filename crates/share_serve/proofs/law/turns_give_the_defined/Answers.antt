use Rattle.share_serve.proofs.GivenTurns.{objects_are_given, parts_are_given, turns_are_given, turns_give}
use Rattle.share_serve.proofs.law.turns_give_the_defined.Goals as goal

pub returns-clause-turns : goal.returns-clause-turns
returns-clause-turns c = turns_give

pub returns-clause-granted : goal.returns-clause-granted
returns-clause-granted c = turns_are_given

pub returns-clause-objects : goal.returns-clause-objects
returns-clause-objects c = objects_are_given

pub returns-clause-parts : goal.returns-clause-parts
returns-clause-parts c = parts_are_given c.part_has_asked.ensures
