-- What a store that tells nothing of its objects owes for an answer.
use Rattle.std.proofs.Common.{ℕ, List, length, None, refl, false}
use Rattle.edge_core.specs.Objects.{Gets, Looks, Measures, Puts}
use Rattle.edge_core.specs.declared.store.Got.{Got}
use Rattle.edge_core.specs.declared.store.Got.TheVariants as got
use Rattle.edge_core.specs.declared.store.Measured.{Measured}
use Rattle.edge_core.specs.declared.store.Measured.TheVariants as measured
use Rattle.edge_core.specs.declared.store.Put.{Put}
use Rattle.edge_core.specs.declared.store.Put.TheVariants as put
use Rattle.bucket_store.specs.Bounds.{IsWithin}

looks : Looks None None false
looks = record { grows = refl; same = tt }

pub gets_untold : (name : List ℕ) (from : ℕ) (r : Got) (out : List ℕ) → IsWithin (length out) r → Gets None None false name from r out
gets_untold name from (got.Bytes n) out within = (looks, within, tt)
gets_untold name from got.Absent out within = (looks, tt)
gets_untold name from got.Failed out within = looks

pub measures_untold : (name : List ℕ) (r : Measured) → Measures None None false name r
measures_untold name (measured.Size n) = (looks, tt)
measures_untold name measured.Absent = (looks, tt)
measures_untold name measured.Failed = looks

pub puts_untold : (name bytes : List ℕ) (r : Put) → Puts None None false name bytes r
puts_untold name bytes put.Stored = record { grows = refl; absent = tt; there = tt; only = tt }
puts_untold name bytes put.Exists = (looks, tt)
puts_untold name bytes put.Failed = record { grows = refl; only = tt }
