use Rattle.std.proofs.lemmas.Bool.Decides.{same_from_decides}
use Rattle.std.proofs.lemmas.Slice.Eq.{bytes_eq-Decides}
use Rattle.log_replay.proofs.settings.turns_on.Goals as goal

pub returns : goal.returns
returns c = same_from_decides _ _ (rw c.as_bytes.ensures.value at c.eq_ignore_ascii_case.ensures.test) (bytes_eq-Decides _ _)
