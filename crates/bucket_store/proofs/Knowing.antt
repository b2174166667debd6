-- What is known over one call after another.
use Rattle.bucket_store.specs.Sides.{Known, Side, Told}

pub known_as : {a b : Told} {P Q : Side → Side → Type 0} → Known a b P → ((s t : Side) → P s t → Q s t) → Known a b Q
known_as known f = record { at = λ s tells. let k = known.at s tells in (k.0, k.1, f s k.0 k.2) }

pub known_same : {a : Told} {R : Side → Side → Type 0} → ((s : Side) → R s s) → Known a a R
known_same f = record { at = λ s tells. (s, tells, f s) }

pub known_then :
    {a b c : Told} {P Q R : Side → Side → Type 0}
    → Known a b P → Known b c Q → ((s t u : Side) → P s t → Q t u → R s u) → Known a c R
known_then first second f =
    record { at = λ s tells. let k = first.at s tells in let m = second.at k.0 k.1 in (m.0, m.1, f s k.0 m.0 k.2 m.2) }

pub known_thrice :
    {a b c d : Told} {P Q R S : Side → Side → Type 0}
    → Known a b P → Known b c Q → Known c d R → ((s t u v : Side) → P s t → Q t u → R u v → S s v) → Known a d S
known_thrice first second third f =
    record {
      at = λ s tells.
          let k = first.at s tells in
          let m = second.at k.0 k.1 in
          let n = third.at m.0 m.1 in (n.0, n.1, f s k.0 m.0 n.0 k.2 m.2 n.2);
    }
