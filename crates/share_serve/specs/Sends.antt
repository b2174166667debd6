-- What of a response was written.
use Rattle.std.specs.Prelude.{◌≡◌, ◌⊎◌, ℕ, Bool, ◌<◌, List, [], ◌++◌, length, take, Option, Some, Result, Ok, Err, IfSome, ⊤}
use Rattle.std.specs.FinMap as map
use Rattle.std.specs.Io.KnownBytes.{append_known}
use Rattle.std.specs.declared.alloc.AllocError.{AllocError}
use mathlib.Core.List.{IsPrefix}
use Rattle.edge_core.specs.Faults.{Rose}
use Rattle.edge_core.specs.Objects.{Objects}
use Rattle.file_ranges.specs.Ranges.{Range, bytes_at}
use Rattle.file_ranges.specs.declared.span.Span.{Span}
use Rattle.response_text.specs.declared.status.Status.{Status}
use Rattle.share_serve.specs.Responses.{body_sent, bytes_response, object_response, response_head, response_text}
use Rattle.share_serve.specs.Turns.{IsObject}
use Rattle.share_serve.specs.declared.response.Delivery.{Delivery}
use Rattle.share_serve.specs.declared.response.Response.{Response}
use Rattle.share_serve.specs.declared.send.Sent.{Sent}
use Rattle.share_serve.specs.declared.send.Sent.TheVariants as sent
use Rattle.share_serve.specs.declared.file.Copied.{Copied}
use Rattle.share_serve.specs.declared.file.Copied.TheVariants as copied
use Rattle.share_serve.specs.declared.send.Delivered.{Delivered}
use Rattle.share_serve.specs.declared.send.Delivered.TheVariants as delivered

-- the first bytes of the text were written
abbrev pub IsInPart : List ℕ → Option (List ℕ) → Option (List ℕ) → Type 0
IsInPart text old new = (part : List ℕ) × IsPrefix part text × (new ≡ append_known old part)

-- the text was written, or the first bytes of it
abbrev pub IsSent : Sent → List ℕ → Option (List ℕ) → Option (List ℕ) → Type 0
IsSent sent.Whole text old new = new ≡ append_known old text
IsSent sent.WriteFault text old new = IsInPart text old new
IsSent sent.NoMemory text old new = IsInPart text old new

abbrev pub RoseWhereUnsent : Sent → ℕ → ℕ → Type 0
RoseWhereUnsent sent.Whole n m = ⊤
RoseWhereUnsent sent.WriteFault n m = Rose n m
RoseWhereUnsent sent.NoMemory n m = ⊤

-- behind a whole text nothing of it is kept back
abbrev pub IsHandedOn : Sent → (kept : List ℕ) → Type 0
IsHandedOn sent.Whole kept = kept ≡ []
IsHandedOn sent.WriteFault kept = ⊤
IsHandedOn sent.NoMemory kept = ⊤

-- ---- responses

-- so many bytes of the body were written behind the head, and not all
abbrev pub IsCutBody : ℕ → Delivery → Response → Option (List ℕ) → Option (List ℕ) → Type 0
IsCutBody n d r w w' =
    (part : List ℕ) × IsPrefix part r.body × (length part ≡ n) × (n < length r.body) × (w' ≡ append_known w (response_head d r.status r.form (length r.body) ++ part))

-- the response was written: whole, in part, or up to a byte of its body
abbrev pub IsWritten : Delivered → Delivery → Response → (w w' : Option (List ℕ)) → Type 0
IsWritten delivered.Whole d r w w' = w' ≡ append_known w (response_text d r)
IsWritten delivered.WriteFault d r w w' = IsInPart (response_text d r) w w'
IsWritten delivered.NoMemory d r w w' = IsInPart (response_text d r) w w'
IsWritten (delivered.Cut n) d r w w' = IsCutBody n d r w w'

-- A response of which P holds was written. Or memory was wanting for one, and Q holds.
abbrev pub Writes : Delivered → Delivery → (P : Response → Type 0) → (Q : Type 0) → (w w' : Option (List ℕ)) → Type 0
Writes end d P Q w w' = ((end ≡ delivered.NoMemory) × Q × (w' ≡ w)) ⊎ ((r : Response) × P r × IsWritten end d r w w')

-- the same of a response that is held whole, where there was memory for it
abbrev pub WholeSent : Delivered → Delivery → Result Response AllocError → (w w' : Option (List ℕ)) → Type 0
WholeSent end d (Ok r) w w' = IsWritten end d r w w'
WholeSent end d (Err e) w w' = (end ≡ delivered.NoMemory) × (w' ≡ w)

abbrev pub DeliveryCause : Delivered → Option Objects → (n m a b : ℕ) → Type 0
DeliveryCause delivered.Whole objects n m a b = ⊤
DeliveryCause delivered.WriteFault objects n m a b = Rose a b
DeliveryCause delivered.NoMemory objects n m a b = ⊤
DeliveryCause (delivered.Cut sent) objects n m a b = IfSome objects (λ _. Rose n m)

-- behind a whole response nothing of it is kept back
abbrev pub HasGoneOut : Delivered → (kept : List ℕ) → Type 0
HasGoneOut delivered.Whole kept = kept ≡ []
HasGoneOut _ kept = ⊤

-- a body is cut only where P holds
abbrev pub CutOnly : Delivered → (P : Type 0) → Type 0
CutOnly (delivered.Cut n) P = P
CutOnly _ P = ⊤

-- what came of a response that is held whole
abbrev pub delivered_of : Sent → Delivered
delivered_of sent.Whole = delivered.Whole
delivered_of sent.WriteFault = delivered.WriteFault
delivered_of sent.NoMemory = delivered.NoMemory

-- ---- objects

-- where the store tells, an object of that size is there
abbrev pub HasSize : ℕ → List ℕ → Option Objects → Type 0
HasSize size name objects = IfSome objects (λ os. (bytes : List ℕ) × (map.get os name ≡ Some bytes) × (length bytes ≡ size))

-- the first bytes of an object of that size were read, or passed over
pub record HasRead (name : List ℕ) (size at : ℕ) (objects : Option Objects) (part : List ℕ) : Type 0 where
  pub count : length part ≡ at
  pub told : IfSome objects (λ os. (bytes : List ℕ) × (map.get os name ≡ Some bytes) × (length bytes ≡ size) × (part ≡ take at bytes))

-- The bytes of a range were passed over up to its first, and from there on read.
abbrev pub HasReadOf : (name : List ℕ) → Range → (at : ℕ) → Option Objects → (given : List ℕ) → Type 0
HasReadOf name range at objects given = (before : List ℕ) × (length before ≡ range.first) × HasRead name range.size at objects (before ++ given)

-- all bytes were written; or a part; or so many, and then the store had no more of them
abbrev pub CopiedPart : Copied → List ℕ → Option (List ℕ) → Option (List ℕ) → Type 0
CopiedPart copied.Whole bytes old new = new ≡ append_known old bytes
CopiedPart copied.WriteFault bytes old new = IsInPart bytes old new
CopiedPart (copied.Cut sent) bytes old new = (part : List ℕ) × IsPrefix part bytes × (length part ≡ sent) × (sent < length bytes) × (new ≡ append_known old part)

-- The bytes are those of a range of the object's. A store that doesn't tell has some of that size in which what it gave stands there.
abbrev pub IsCopied : Copied → List ℕ → Range → Option Objects → Option (List ℕ) → Option (List ℕ) → Type 0
IsCopied r name range objects old new = (bytes : List ℕ) × (length bytes ≡ range.size) × IsObject name objects bytes × CopiedPart r (bytes_at range bytes) old new

-- a copy is cut only where the store's count rose, or, where it doesn't tell, by its answer
abbrev pub HasCopyCause : Copied → Option Objects → (n m a b : ℕ) → Type 0
HasCopyCause copied.Whole objects n m a b = ⊤
HasCopyCause copied.WriteFault objects n m a b = Rose a b
HasCopyCause (copied.Cut sent) objects n m a b = IfSome objects (λ _. Rose n m)

-- what was written of a body, where there is to be one
abbrev pub BodySent : Delivered → Bool → List ℕ → Option (List ℕ) → Option (List ℕ) → Type 0
BodySent delivered.Whole to_head bytes w w' = w' ≡ append_known w (body_sent to_head bytes)
BodySent delivered.WriteFault to_head bytes w w' = IsInPart (body_sent to_head bytes) w w'
BodySent delivered.NoMemory to_head bytes w w' = IsInPart (body_sent to_head bytes) w w'
BodySent (delivered.Cut n) to_head bytes w w' = (part : List ℕ) × IsPrefix part bytes × (length part ≡ n) × (n < length bytes) × (w' ≡ append_known w part)

-- the same of a body that is a range of an object
abbrev pub CopySent : Delivered → Bool → List ℕ → Range → Option Objects → Option (List ℕ) → Option (List ℕ) → Type 0
CopySent r to_head name range objects w w' = (bytes : List ℕ) × (length bytes ≡ range.size) × IsObject name objects bytes × BodySent r to_head (bytes_at range bytes) w w'

-- what was written of the response of that status that has a range of an object
abbrev pub PartSent : Delivered → Delivery → Status → List ℕ → Range → Option Objects → Option (List ℕ) → Option (List ℕ) → Type 0
PartSent r d s name range objects w w' =
    (bytes : List ℕ) × (length bytes ≡ range.size) × IsObject name objects bytes × IsWritten r d (bytes_response s (bytes_at range bytes)) w w'

-- what was written of the response that an object is, by which of its bytes are asked for
abbrev pub FileSent : Delivered → Delivery → List ℕ → Option Span → Option Objects → Option (List ℕ) → Option (List ℕ) → Type 0
FileSent r d name span objects w w' = (bytes : List ℕ) × IsObject name objects bytes × IsWritten r d (object_response span bytes) w w'
