-- Objects that grow over calls that store nothing.
use Rattle.std.proofs.Common.{◌≡◌, ℕ, List, Option, refl, ◌∙◌, subst, Bool, true, false}
use Rattle.std.specs.Bool.{OnTrue}
use Rattle.edge_core.specs.Objects.{Grows, Objects, Looks}
use Rattle.edge_core.proofs.Growth.{Grows-itself, Grows-on}
use Rattle.log_store.specs.Backed.{WasPut}
use Rattle.log_store.specs.Loads.{Looked}

same_still : (b : Bool) (o : Option Objects) → OnTrue b (o ≡ o)
same_still true o = refl
same_still false o = tt

stays_still : (b : Bool) → OnTrue b (b ≡ true)
stays_still true = refl
stays_still false = tt

pub looked_refl : (old : Option Objects) (was : Bool) → Looked old old was was
looked_refl old was = record { grows = Grows-itself old; same = same_still was old; stays = stays_still was }

same_more : (a b : Bool) (x y z : Option Objects) → OnTrue a (b ≡ true) → OnTrue a (y ≡ x) → OnTrue b (z ≡ y) → OnTrue a (z ≡ x)
same_more false b x y z h i k = tt
same_more true b x y z h i k = subst (λ t. OnTrue t (z ≡ y)) h k ∙ i

stays_more : (a b c : Bool) → OnTrue a (b ≡ true) → OnTrue b (c ≡ true) → OnTrue a (c ≡ true)
stays_more false b c h k = tt
stays_more true b c h k = subst (λ t. OnTrue t (c ≡ true)) h k

pub looked_more : (a b c : Option Objects) (p q r : Bool) → Looked a b p q → Looked b c q r → Looked a c p r
looked_more a b c p q r h k = record { grows = Grows-on a b c h.grows k.grows; same = same_more p q a b c h.stays h.same k.same; stays = stays_more p q r h.stays k.stays }

pub looked_once : (a b : Option Objects) (p q : Bool) → Looks a b p → OnTrue p (q ≡ true) → Looked a b p q
looked_once a b p q h stays = record { grows = h.grows; same = h.same; stays = stays }

-- one call more
pub looks_more : (a b c : Option Objects) (p q r : Bool) → Looked a b p q → Looks b c q → OnTrue q (r ≡ true) → Looked a c p r
looks_more a b c p q r h k stays = looked_more a b c p q r h (looked_once b c q r k stays)

-- what was put within a call was put within a longer one
pub put_wider : (a b c d : Option Objects) (name bytes : List ℕ) → Grows a b → Grows c d → WasPut b c name bytes → WasPut a d name bytes
put_wider a b c d name bytes g h p = record { before = p.before; after = p.after; from = Grows-on a b p.before g p.from; absent = p.absent; there = p.there; to = Grows-on p.after c d p.to h }
