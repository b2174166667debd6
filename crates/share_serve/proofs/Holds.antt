-- What calls one after another leave.
use Rattle.std.proofs.Common.{◌≡◌, ◌≤◌, Bool, true, false, [], refl, sym, arith}
use Rattle.std.proofs.lemmas.List.{append-nil}
use Rattle.std.specs.Bool.{OnTrue}
use Rattle.edge_core.proofs.Growth.{Grows-itself, Grows-on}
use Rattle.hub_calls.specs.Calls.{Adds, IsIdle, P}
use Rattle.hub_calls.proofs.Passes.{idle_more}
use Rattle.share_serve.specs.Sides.{hold}
use Rattle.share_serve.specs.Turns.{Grew, Hold, OnlyLooks, Shelf}
use Rattle.share_serve.proofs.Basics.{prefix_self}

-- a pass of which nothing was made
pub idle_itself : (p : P) → p.holds ≡ false → IsIdle p p
idle_itself p is = record { cell = refl; number = refl; holds = is; seen = prefix_self p.seen }

-- nothing is added
pub adds_none : (p : P) → Adds p p []
adds_none p = sym (append-nil _)

pub stays_itself : (b : Bool) → OnTrue b (b ≡ true)
stays_itself true = refl
stays_itself false = tt

pub stays_on : (a b c : Bool) → OnTrue a (b ≡ true) → OnTrue b (c ≡ true) → OnTrue a (c ≡ true)
stays_on false b c p q = tt
stays_on true true c p q = q
stays_on true false c p q = absurd cc

pub grew_itself : (h : Hold) → h.pass.holds ≡ false → Grew h h
grew_itself h is = record {
  pass = idle_itself h.pass is;
  objects = Grows-itself h.shelf.objects;
  stays = stays_itself h.shelf.alone;
  faults = omega arith;
  stored = omega arith;
}

pub grew_on : (a b c : Hold) → Grew a b → Grew b c → Grew a c
grew_on a b c p q = record {
  pass = idle_more a.pass b.pass c.pass p.pass q.pass;
  objects = Grows-on a.shelf.objects b.shelf.objects c.shelf.objects p.objects q.objects;
  stays = stays_on a.shelf.alone b.shelf.alone c.shelf.alone p.stays q.stays;
  faults = (let x = p.faults in let y = q.faults in omega arith);
  stored = (let x = p.stored in let y = q.stored in omega arith);
}

-- a look leaves the store as it was
pub looked : (p q : P) (s : Shelf) → IsIdle p q → Grew (hold p s) (hold q s)
looked p q s is = record {
  pass = is;
  objects = Grows-itself s.objects;
  stays = stays_itself s.alone;
  faults = omega arith;
  stored = omega arith;
}

-- what follows it only looks at the store
pub replied : (p q : P) (s t : Shelf) → IsIdle p q → OnlyLooks s t → s.faults ≤ t.faults → Grew (hold p s) (hold q t)
replied p q s t is looks le = record {
  pass = is;
  objects = looks.looked.grows;
  stays = looks.looked.stays;
  faults = le;
  stored = (let same = looks.stored in omega arith);
}
