-- What is known of a link over one call after another.
use Rattle.std.proofs.Common.{List, Option}
use Rattle.edge_core.specs.Lines.{ClosedLine, PeerLine}
use Rattle.share_client.specs.Sides.{Known, Side}

module _ {L : Type 0} (coming : L → Option (List PeerLine)) (closed : L → Option (List ClosedLine)) where
  pub known_as : (a b : L) (P Q : Side → Side → Type 0) → ((s t : Side) → P s t → Q s t) → Known coming closed a b P → Known coming closed a b Q
  known_as a b P Q f known s tells = let k = known s tells in (k.0, k.1, f s k.0 k.2)

  pub known_same : (a : L) (R : Side → Side → Type 0) → ((s : Side) → R s s) → Known coming closed a a R
  known_same a R f s tells = (s, tells, f s)

  pub known_then :
      (a b c : L) (P Q R : Side → Side → Type 0) → ((s t u : Side) → P s t → Q t u → R s u)
      → Known coming closed a b P → Known coming closed b c Q → Known coming closed a c R
  known_then a b c P Q R f first second s tells =
      let k = first s tells in let m = second k.0 k.1 in (m.0, m.1, f s k.0 m.0 k.2 m.2)
