-- A file that is fetched in pieces (RFC 9110, sections 14.2, 14.4 and 15.3.7).
use Rattle.std.specs.Prelude.{◌≡◌, ◌≢◌, ℕ, ◌+◌, ◌-◌, ◌*◌, ◌/◌, ◌<◌, ◌≤◌, ◌^◌, ◌==◌, ◌⊎◌, Bool, true, false, min, List, [], ◌∷◌, ◌++◌, length, Option, Some, None, Result, Ok, Err, ⊤, codes}
use Rattle.std.specs.Io.KnownBytes.{append_known}
use Rattle.std.specs.List.{concat}
use mathlib.Core.List.{IsPrefix}
use Rattle.file_ranges.specs.Ranges.{IsRange, Range, bytes_at, range_text}
use Rattle.http_message.specs.Fields.{first_named}
use Rattle.share_client.specs.Asking.{AnswersWith, AsksFor}
use Rattle.share_client.specs.Files.{NoLink, query_tail}
use Rattle.share_client.specs.Requests.{part_text}
use Rattle.share_client.specs.Sides.{Side}
use Rattle.share_client.specs.Sizes.{SizesFrom}
use Rattle.share_client.specs.declared.ask.Wanted.TheVariants as wanted
use Rattle.share_client.specs.declared.exchange.Response.{Response}
use Rattle.share_client.specs.declared.fault.ClientFault.{ClientFault}
use Rattle.share_client.specs.declared.fault.ClientFault.TheVariants as fault
use Rattle.share_client.specs.declared.target.Target.{Target}

-- ---- which ranges are asked for

-- of a file of so many bytes that of that number, counted from 0: so many bytes as a piece has, or those that are left
abbrev pub piece_range : (piece size k : ℕ) → Range
piece_range piece size k = record { first = k * piece; last = min (k * piece + piece) size - 1; size = size }

-- how many there are
abbrev pub pieces_in : (piece size : ℕ) → ℕ
pieces_in piece size = (size + piece - 1) / piece

-- the request for a range, without a token
abbrev pub piece_text : Target → Range → List ℕ
piece_text target range = part_text (target.path ++ query_tail target.query) target.host_field range

-- ---- what is taken of a response

-- the part that it says it is
pub record Names (r : Response) (range : Range) : Type 0 where
  pub is_range : IsRange range
  pub small : range.size < 2 ^ 64
  pub said : first_named (codes "content-range") r.fields ≡ range_text range

-- it is the part that was asked for, and as long
pub record IsPart (range : Range) (r : Response) : Type 0 where
  pub names : Names r range
  pub long : length r.body.items ≡ range.last + 1 - range.first

-- It is one of a file of another size, which is tested first; or another part, or it doesn't say which one, or has another length.
abbrev pub PartFails : Range → Response → ClientFault → Type 0
PartFails range r (fault.SizeChanged first other) = (named : Range) × Names r named × (first ≡ range.size) × (other ≡ named.size) × (other ≢ first)
PartFails range r (fault.BadReply at) = (at ≡ 0) × ¬ (IsPart range r) × ((named : Range) → Names r named → named.size ≡ range.size)
PartFails range r e = ⊥

abbrev pub TakesPart : Range → Response → Result (List ℕ) ClientFault → Type 0
TakesPart range r (Ok given) = IsPart range r × (given ≡ r.body.items)
TakesPart range r (Err e) = PartFails range r e

-- of the whole file, where it has the size, the bytes that were asked for
abbrev pub TakesOfAll : Range → Response → Result (List ℕ) ClientFault → Type 0
TakesOfAll range r (Ok given) = (length r.body.items ≡ range.size) × (given ≡ bytes_at range r.body.items)
TakesOfAll range r (Err e) = (length r.body.items ≢ range.size) × (e ≡ fault.SizeChanged range.size (length r.body.items))

abbrev pub TakesBy : Bool → Range → Response → Result (List ℕ) ClientFault → Type 0
TakesBy true range r result = TakesPart range r result
TakesBy false range r result = TakesOfAll range r result

-- 206 is a part; the other status that is fine, 200, is all
abbrev pub Takes : Range → Response → Result (List ℕ) ClientFault → Type 0
Takes range r result = TakesBy (r.status == 206) range r result

-- ---- pieces that come

-- the bytes of a range came
abbrev pub Comes : Target → Range → List ℕ → Side → Side → Type 0
Comes target range given old new = (r : Response) × AnswersWith wanted.Part target (piece_text target range) r old new × Takes range r (Ok given)

-- they didn't: they weren't asked for, for want of memory; they were asked for in vain; or what came isn't them
abbrev pub Misses : Target → Range → ClientFault → Side → Side → Type 0
Misses target range e old new =
    ((e ≡ fault.NoMemory) × (new ≡ old))
    ⊎ (AsksFor wanted.Part target (piece_text target range) (Err e) old new
    ⊎ ((r : Response) × AnswersWith wanted.Part target (piece_text target range) r old new × Takes range r (Err e)))

-- they came, and the sink failed behind a front of them
abbrev pub Spills : Target → Range → ClientFault → (held held_new : Option (List ℕ)) → Side → Side → Type 0
Spills target range e held held_new old new =
    (given : List ℕ) × Comes target range given old new × (e ≡ fault.WriteFault)
    × ((front : List ℕ) × IsPrefix front given × (held_new ≡ append_known held front))

-- one range came and was delivered, or why not
abbrev pub Delivers : Target → Range → (held held_new : Option (List ℕ)) → Result ⊤ ClientFault → Side → Side → Type 0
Delivers target range held held_new (Ok all) old new = (given : List ℕ) × Comes target range given old new × (held_new ≡ append_known held given)
Delivers target range held held_new (Err e) old new = (Misses target range e old new × (held_new ≡ held)) ⊎ Spills target range e held held_new old new

-- those from that number on came, one after another
abbrev pub Came : Target → (piece size k : ℕ) → List (List ℕ) → Side → Side → Type 0
Came target piece size k [] old new = new ≡ old
Came target piece size k (given ∷ more) old new = (mid : Side) × Comes target (piece_range piece size k) given old mid × Came target piece size (k + 1) more mid new

-- the first ones came and were delivered
pub record Begun (target : Target) (piece size : ℕ) (given : List (List ℕ)) (held held_new : Option (List ℕ)) (old new : Side) : Type 0 where
  pub came : Came target piece size 0 given old new
  pub delivered : held_new ≡ append_known held (concat given)

-- the most pieces that are asked for
abbrev pub most_pieces : ℕ
most_pieces = 100000

-- Why there are no more, where bytes are left: as many came as are asked for; or the next one didn't come, or wasn't delivered.
abbrev pub Stops : Target → (piece size k : ℕ) → ClientFault → (held held_new : Option (List ℕ)) → Side → Side → Type 0
Stops target piece size k e held held_new old new =
    (k < pieces_in piece size)
    × (((e ≡ fault.TooManyPages) × (k ≡ most_pieces) × (held_new ≡ held) × (new ≡ old))
    ⊎ ((k < most_pieces) × Delivers target (piece_range piece size k) held held_new (Err e) old new))

-- ---- a call

-- the pieces of a file of that size
abbrev pub FetchesPieces : Target → (piece size : ℕ) → (held held_new : Option (List ℕ)) → Result ⊤ ClientFault → Side → Side → Type 0
FetchesPieces target piece size held held_new (Ok all) old new =
    (given : List (List ℕ)) × Begun target piece size given held held_new old new × (length given ≡ pieces_in piece size) × (length given ≤ most_pieces)
FetchesPieces target piece size held held_new (Err e) old new =
    (given : List (List ℕ)) × (mid : Side) × (now : Option (List ℕ))
    × Begun target piece size given held now old mid × Stops target piece size (length given) e now held_new mid new

-- the size was asked, and then the pieces
abbrev pub PiecesFrom : Target → (piece : ℕ) → (held held_new : Option (List ℕ)) → Result ℕ ClientFault → Side → Side → Type 0
PiecesFrom target piece held held_new (Ok n) old new = (mid : Side) × SizesFrom target (Ok n) old mid × FetchesPieces target piece n held held_new (Ok tt) mid new
PiecesFrom target piece held held_new (Err e) old new =
    (SizesFrom target (Err e) old new × (held_new ≡ held))
    ⊎ ((n : ℕ) × (mid : Side) × SizesFrom target (Ok n) old mid × FetchesPieces target piece n held held_new (Err e) mid new)

-- of a text that is no link nothing is asked
abbrev pub PiecesAt : Option Target → (piece : ℕ) → (held held_new : Option (List ℕ)) → Result ℕ ClientFault → Side → Side → Type 0
PiecesAt None piece held held_new result old new = NoLink held held_new result old new
PiecesAt (Some target) piece held held_new result old new = PiecesFrom target piece held held_new result old new
