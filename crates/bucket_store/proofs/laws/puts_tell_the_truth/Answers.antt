use Rattle.bucket_store.proofs.Truth.{truth}
use Rattle.bucket_store.proofs.laws.puts_tell_the_truth.Goals as goal

pub returns : goal.returns
returns c = truth
