-- Counts of faults over several calls.
use Rattle.std.proofs.Common.{◌≡◌, ℕ, Bool, true, false, Result, Ok, Err, arith}
use Rattle.edge_core.specs.Faults.{Rose, counted}
use Rattle.share_client.specs.Sides.{Counts, HasCause, Later, Stays}
use Rattle.share_client.specs.declared.fault.ClientFault.{ClientFault}
use Rattle.share_client.specs.declared.fault.ClientFault.TheVariants as fault

pub counted_stays : (before : ℕ) (failed : Bool) → Stays before (counted before failed)
counted_stays before true = omega arith
counted_stays before false = omega arith

pub stays_along : (before now : ℕ) (failed : Bool) → now ≡ counted before failed → Stays before now
stays_along before now true e = omega (arith, e)
stays_along before now false e = omega (arith, e)

pub stays_twice : (a b c : ℕ) → Stays a b → Stays b c → Stays a c
stays_twice a b c ab bc = omega arith

pub rises_after : (a b c : ℕ) → Stays a b → Rose b c → Rose a c
rises_after a b c ab bc = omega arith

pub later_twice : (a b c : Counts) → Later a b → Later b c → Later a c
later_twice a b c ab bc =
    record {
      opens = omega (arith, ab.opens, bc.opens);
      reads = stays_twice a.reads b.reads c.reads ab.reads bc.reads;
      writes = stays_twice a.writes b.writes c.writes ab.writes bc.writes;
    }

pub cause_after : {A : Type 0} (a b c : Counts) (r : Result A ClientFault) → Later a b → HasCause r b c → HasCause r a c
cause_after a b c (Ok x) ab bc = bc
cause_after a b c (Err fault.PeerFault) ab bc = omega (arith, ab.opens, bc)
cause_after a b c (Err fault.ReadFault) ab bc = rises_after a.reads b.reads c.reads ab.reads bc
cause_after a b c (Err fault.WriteFault) ab bc = rises_after a.writes b.writes c.writes ab.writes bc
cause_after a b c (Err (fault.Refused status refusal)) ab bc = bc
cause_after a b c (Err (fault.BadReply at)) ab bc = bc
cause_after a b c (Err (fault.PageChanged first other)) ab bc = bc
cause_after a b c (Err (fault.SizeChanged first other)) ab bc = bc
cause_after a b c (Err fault.TooManyPages) ab bc = bc
cause_after a b c (Err fault.BadUrl) ab bc = bc
cause_after a b c (Err fault.NoMemory) ab bc = bc
