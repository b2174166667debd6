-- What a look keeps, and what is found again.
use Rattle.std.proofs.Common.{List, Option, Some, None, Result, Ok, Err, subst}
use Rattle.std.specs.Prelude.{IfSome, OnOk}
use mathlib.Core.List.{IsPrefix}
use Rattle.share_book.specs.Bases.{FilesStand}
use Rattle.share_book.specs.declared.entry.Entry.{Entry}
use Rattle.share_book.specs.declared.look.Seen.{Seen}
use Rattle.share_book.proofs.FilesStanding.{stands_later}

-- files that were found are still states of their logs
pub found_later : (o : Option Seen) (h k : List Entry) → IsPrefix h k → IfSome o (λ s. FilesStand h s.found) → IfSome o (λ s. FilesStand k s.found)
found_later None h k p w = tt
found_later (Some s) h k p w = subst (λ (x : List Entry). FilesStand x s.found) p.1 (stands_later h p.0 s.found w)

-- what follows from what holds where there is an answer
pub on_ok : {A E : Type 0} (r : Result A E) (P Q : Type 0) → (P → Q) → OnOk r P → OnOk r Q
on_ok (Ok x) P Q f p = f p
on_ok (Err e) P Q f p = tt
