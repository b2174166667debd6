-- Bodies that are cut, and responses that have gone out.
use Rattle.std.proofs.Common.{List, ℕ}
use Rattle.share_serve.specs.Sends.{CutOnly, HasGoneOut, IsHandedOn, delivered_of}
use Rattle.share_serve.specs.declared.send.Delivered.{Delivered}
use Rattle.share_serve.specs.declared.send.Delivered.TheVariants as delivered
use Rattle.share_serve.specs.declared.send.Sent.{Sent}
use Rattle.share_serve.specs.declared.send.Sent.TheVariants as sent

-- a response that is held whole is never cut
pub uncut : (s : Sent) (P : Type 0) → CutOnly (delivered_of s) P
uncut sent.Whole P = tt
uncut sent.WriteFault P = tt
uncut sent.NoMemory P = tt

-- where nothing is cut, nothing is cut otherwise
pub cut_never : (end : Delivered) (P : Type 0) → CutOnly end ⊥ → CutOnly end P
cut_never delivered.Whole P c = tt
cut_never delivered.WriteFault P c = tt
cut_never delivered.NoMemory P c = tt
cut_never (delivered.Cut n) P c = absurd c

-- where P holds, a body may be cut where it does
pub cut_where : (end : Delivered) (P : Type 0) → P → CutOnly end P
cut_where delivered.Whole P p = tt
cut_where delivered.WriteFault P p = tt
cut_where delivered.NoMemory P p = tt
cut_where (delivered.Cut n) P p = p

pub cut_then : (end : Delivered) (P Q : Type 0) → (P → Q) → CutOnly end P → CutOnly end Q
cut_then delivered.Whole P Q f c = tt
cut_then delivered.WriteFault P Q f c = tt
cut_then delivered.NoMemory P Q f c = tt
cut_then (delivered.Cut n) P Q f c = f c

pub out_of_sent : (s : Sent) (kept : List ℕ) → IsHandedOn s kept → HasGoneOut (delivered_of s) kept
out_of_sent sent.Whole kept h = h
out_of_sent sent.WriteFault kept h = tt
out_of_sent sent.NoMemory kept h = tt
