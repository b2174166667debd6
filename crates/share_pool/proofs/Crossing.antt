-- What of a worker's things may cross threads. A catalogue and a book keep what they remember for proofs alone in a type that holds
-- itself, so their law is put together here from those of their parts.
use denote.RattleType.{RattleType}
use denote.Builtin.{One}
use denote.Param.Send.{AllSync, IsSend, IsSync, recorded_sync, sendable, shr_sync, struct_sync}
use denote.Ref.{NamedLft}
use denote.Struct.Field.{shr_ref_field}
use denote.Struct.Declared as Declared
use denote.Struct.Struct.{Struct}
use denote.Struct.Tuple.{TupleAt, type_at}
use mathlib.Core.List.{List, [], ◌∷◌}
use Prim.Native.Nat.{ℕ}
use Rattle.std.proofs.alloc.Global.TheSendSync as global
use Rattle.std.specs.contracts.alloc.Global as Global
use Rattle.std.proofs.Crossing.{crosses}
use Rattle.std.proofs.marker.PhantomData.TheSendSync as phantom
use Rattle.std.proofs.option.Option.TheSendSync as option
use Rattle.step_count.proofs.Count.TheLaws.TheKnot as count
use Rattle.turn_cell.proofs.cell.TurnCell.TheSendSync as cell
use Rattle.turn_cell.proofs.pass.Pass.TheSendSync as pass
use Rattle.share_catalog.proofs.changes.Spare.TheSendSync as spare
use Rattle.share_catalog.proofs.location.Location.TheSendSync as location
use Rattle.share_catalog.proofs.name.CatalogName.TheSendSync as name
use Rattle.share_catalog.proofs.past.Past.TheLaws.TheKnot as edits
use Rattle.share_catalog.specs.contracts.catalog.Catalog as Catalog
use Rattle.share_book.proofs.past.Past.TheSendSync as past
use Rattle.share_book.proofs.table.Table.TheSendSync as table
use Rattle.share_book.specs.contracts.book.Book as Book
use Rattle.share_hub.specs.contracts.hub.Hub as Hub
use Rattle.share_serve.specs.contracts.server.Server as Server
use Rattle.share_pool.specs.contracts.desk.Desk as Desk
use Rattle.share_pool.proofs.desk.ServeEnd.TheSendSync as ended

catalog_send : IsSend Catalog.the_row
catalog_send = search (sendable, crosses, spare.the_send, edits.send-Past, location.the_send, name.the_send) depth 40 fits 20000

book_send : IsSend Book.the_row
book_send = search (sendable, crosses, past.the_send, table.the_send, catalog_send) depth 40 fits 20000

pub hub_sync : IsSync Hub.the_row
hub_sync = search (sendable, crosses, cell.the_sync, book_send) depth 40 fits 20000

pub server_sync : IsSync Server.the_row
server_sync = search (sendable, crosses) depth 40 fits 20000

pub desk_send : (N W C L : RattleType) → IsSend N → IsSend W → IsSend C → IsSend L → IsSend (Desk.the_row N W C L)
desk_send N W C L n w c l = search (sendable, crosses, option.the_send, phantom.the_send, pass.the_send, count.send-Count, ended.the_send, book_send) depth 40 fits 20000

-- what lends these five may be shared
pub lent_sync : (ν : List ℕ) (a b c d e : NamedLft) (R G : RattleType) (one : One R.mir) (two : One G.mir) → IsSync R → IsSync G
    → IsSync (TupleAt ν ((shr_ref_field a R one).row ∷ (shr_ref_field b Global.the_row tt).row ∷ (shr_ref_field c Hub.the_row tt).row ∷ (shr_ref_field d Server.the_row tt).row ∷ (shr_ref_field e G two).row ∷ []))
lent_sync ν a b c d e R G one two r g =
    let T = type_at ν ((shr_ref_field a R one).row ∷ (shr_ref_field b Global.the_row tt).row ∷ (shr_ref_field c Hub.the_row tt).row ∷ (shr_ref_field d Server.the_row tt).row ∷ (shr_ref_field e G two).row ∷ []) in
    let all : AllSync (Declared.shape T).fields =
    (shr_sync a.mir a.lft R r, (shr_sync b.mir b.lft Global.the_row global.the_sync, (shr_sync c.mir c.lft Hub.the_row hub_sync, (shr_sync d.mir d.lft Server.the_row server_sync, (shr_sync e.mir e.lft G g, tt))))) in
    recorded_sync (Struct (Declared.shape T)) T.D T.to T.to_one (struct_sync (Declared.shape T) all)
