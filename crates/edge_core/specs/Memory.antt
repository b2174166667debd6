-- What the objects in memory stand for.
use Rattle.std.specs.Prelude.{◌≡◌, ℕ, ◌-◌, min, List, [], ◌∷◌, ◌++◌, Bool, ◌&&◌, ◌||◌, not, is_none, length, drop, nat_eq, if◌then◌else◌}
use Rattle.std.specs.FinMap as finmap
use Rattle.edge_core.specs.Calls.{among, calls_made, calls_failed, due, piece_size}
use Rattle.edge_core.specs.Objects.{Objects}
use Rattle.edge_core.specs.Stored.{Shelved, has_room, with_one}
use Rattle.edge_core.specs.Arrivals.{arrived, waiting}
use Rattle.edge_core.specs.declared.calls.Calls.{Calls}
use Rattle.edge_core.specs.declared.foreign.Foreign.{Foreign}
use Rattle.edge_core.specs.declared.source.Took.{Took}
use Rattle.edge_core.specs.declared.source.Took.TheVariants as took
use Rattle.edge_core.specs.declared.sink.Gave.{Gave}
use Rattle.edge_core.specs.declared.sink.Gave.TheVariants as gave
use Rattle.edge_core.specs.declared.mem_source.MemSource.{MemSource}
use Rattle.edge_core.specs.declared.mem_sink.MemSink.{MemSink}
use Rattle.edge_core.specs.declared.mem_store.MemStore.{MemStore}

-- the bytes that a source has left
abbrev pub source_left : MemSource → List ℕ
source_left s = drop s.at s.bytes.items

-- the sizes of its pieces, by number of the call
abbrev pub source_sizes : MemSource → List ℕ
source_sizes s = s.sizes.items

abbrev pub source_calls : MemSource → Calls
source_calls s = s.calls

-- a read gives the piece of its call, cut to what is left and to what fits
abbrev pub IsCut : MemSource → ℕ → Took → Type 0
IsCut s fits (took.Bytes n) = n ≡ piece_size (source_sizes s) (calls_made (source_calls s)) (min (length (source_left s)) fits)
IsCut s fits took.End = source_left s ≡ []
IsCut s fits took.Failed = Unit

-- the bytes that were written to a sink
abbrev pub sink_bytes : MemSink → List ℕ
sink_bytes s = s.bytes.items

-- how many bytes each write wrote
abbrev pub sink_pieces : MemSink → List ℕ
sink_pieces s = s.pieces.items

-- for how many more bytes there is room
abbrev pub sink_bytes_left : MemSink → ℕ
sink_bytes_left s = s.most_bytes - length s.bytes.items

-- for how many more pieces there is room
abbrev pub sink_pieces_left : MemSink → ℕ
sink_pieces_left s = s.most_pieces - length s.pieces.items

-- the sizes of its pieces, by number of the call
abbrev pub sink_sizes : MemSink → List ℕ
sink_sizes s = s.sizes.items

abbrev pub sink_calls : MemSink → Calls
sink_calls s = s.calls

-- whether a write fails: the call is to fail, or there is no room left
abbrev pub sink_fails : MemSink → Bool
sink_fails s = due (sink_calls s) || (nat_eq (sink_bytes_left s) 0 || nat_eq (sink_pieces_left s) 0)

-- the pieces and the room after a write
pub record HasPieces (new : MemSink) (sizes : List ℕ) (bytes more : ℕ) : Type 0 where
  pub pieces : sink_pieces new ≡ sizes
  pub bytes_left : sink_bytes_left new ≡ bytes
  pub pieces_left : sink_pieces_left new ≡ more

-- a write takes the piece of its call, cut to what is given and to the room
abbrev pub IsKept : MemSink → MemSink → ℕ → Gave → Type 0
IsKept old new given (gave.Bytes n) = (n ≡ piece_size (sink_sizes old) (calls_made (sink_calls old)) (min (sink_bytes_left old) given))
    × HasPieces new (sink_pieces old ++ n ∷ []) (sink_bytes_left old - n) (sink_pieces_left old - 1)
IsKept old new given gave.Failed = HasPieces new (sink_pieces old) (sink_bytes_left old) (sink_pieces_left old)

-- the objects of a store, and the room that is left
abbrev pub store_shelf : MemStore → Shelved
store_shelf s = s.shelf

-- the objects of a store
abbrev pub store_objects : MemStore → Objects
store_objects s = (store_shelf s).0

-- the objects of others that are to come
abbrev pub store_coming : MemStore → List Foreign
store_coming s = drop s.come s.foreign.items

abbrev pub store_calls : MemStore → Calls
store_calls s = s.calls

-- the numbers of the puts that store before they fail
abbrev pub store_late : MemStore → List ℕ
store_late s = s.late.items

abbrev pub store_faults : MemStore → ℕ
store_faults s = calls_failed (store_calls s)

-- how many puts stored
abbrev pub store_stored : MemStore → ℕ
store_stored s = s.stored

-- whether no object of others is to come
abbrev pub store_alone : MemStore → Bool
store_alone s = nat_eq (length (store_coming s)) 0

-- the objects that the next call finds, and the room
abbrev pub found_shelf : MemStore → Shelved
found_shelf s = arrived (calls_made (store_calls s)) (store_shelf s) (store_coming s)

-- whether the next call is a put that stores before it fails
abbrev pub is_late : MemStore → Bool
is_late s = among (calls_made (store_calls s)) (store_late s)

-- whether the name is absent and there is room
abbrev pub is_free : Shelved → List ℕ → List ℕ → Bool
is_free shelf name bytes = is_none (finmap.get shelf.0 name) && has_room shelf name bytes

-- whether a put stores: the name is absent, there is room, and the call isn't to fail before it stores
abbrev pub put_stores : MemStore → List ℕ → List ℕ → Bool
put_stores s name bytes = (not (due (store_calls s)) || is_late s) && is_free (found_shelf s) name bytes

-- the objects and the room after a put
abbrev pub put_shelf : MemStore → List ℕ → List ℕ → Shelved
put_shelf s name bytes = if put_stores s name bytes then with_one (found_shelf s) name bytes else found_shelf s

-- whether a put fails: the call is to fail, or the name is absent and there is no room
abbrev pub put_fails : MemStore → List ℕ → List ℕ → Bool
put_fails s name bytes = (due (store_calls s) || is_late s)
    || (is_none (finmap.get (found_shelf s).0 name) && not (has_room (found_shelf s) name bytes))

-- what a call leaves as it was, and the objects that are to come after it
pub record Waits (old new : MemStore) : Type 0 where
  pub coming : store_coming new ≡ waiting (calls_made (store_calls old)) (store_coming old)
  pub late : store_late new ≡ store_late old
