-- What of a store may cross threads. A store that counts what it stored has a counter that stands for proofs alone in a type that holds
-- itself, so its law is put together here from those of its parts.
use denote.RattleType.{RattleType}
use denote.Param.Send.{IsSend, sendable}
use denote.Param.SendFields.{declared_send}
use Rattle.std.proofs.Crossing.{crosses}
use Rattle.std.proofs.option.Option.TheSendSync as option
use Rattle.step_count.proofs.Count.TheLaws.TheKnot as count
use Rattle.json_tree.proofs.text.Text.TheSendSync as text
use Rattle.edge_std.proofs.file_store.Opened.TheSendSync as opened
use Rattle.edge_std.proofs.std_clock.StdClock.TheSendSync as clock
use Rattle.edge_std.proofs.tcp_way.TcpWay.TheSendSync as way
use Rattle.edge_std.specs.contracts.file_store.FileStore as FileStore
use Rattle.edge_std.specs.contracts.std_clock.StdClock as StdClock
use Rattle.edge_std.specs.contracts.tcp_way.TcpWay as TcpWay
use Rattle.bucket_store.proofs.ends.ObjectEnd.TheSendSync as end
use Rattle.bucket_store.specs.contracts.store.BucketStore as BucketStore
use Rattle.ahead_store.proofs.store.AheadStore.TheSendSync as ahead
use Rattle.ahead_store.specs.contracts.store.AheadStore as AheadStore
use Rattle.fresh_store.proofs.store.FreshStore.TheSendSync as fresh
use Rattle.fresh_store.specs.contracts.store.FreshStore as FreshStore
use Rattle.real_store.specs.contracts.either_store.EitherStore as EitherStore
use Rattle.real_store.specs.contracts.real_store.RealStore as RealStore

folder_send : IsSend FileStore.the_row
folder_send = search (sendable, crosses, option.the_send, count.send-Count, opened.the_send) depth 40 fits 20000

bucket_send : (V C : RattleType) → IsSend V → IsSend C → IsSend (BucketStore.the_row V C)
bucket_send V C v c = search (sendable, crosses, option.the_send, count.send-Count, text.the_send, end.the_send) depth 40 fits 20000

either_send : (A B : RattleType) → IsSend A → IsSend B → IsSend (EitherStore.the_row A B)
either_send A B a b = search (sendable, crosses, count.send-Count) depth 40 fits 20000

held_send : (R : RattleType) → IsSend R → IsSend (EitherStore.the_row FileStore.the_row (FreshStore.the_row R (AheadStore.the_row (BucketStore.the_row TcpWay.the_row StdClock.the_row)) StdClock.the_row))
held_send R r = search (folder_send, bucket_send, either_send, fresh.the_send, ahead.the_send, clock.the_send, way.the_send) depth 40 fits 20000

pub store_send : (R : RattleType) → IsSend R → IsSend (RealStore.the_row R)
store_send R r = declared_send (RealStore.the_type R) (held_send R r, tt)
