use Rattle.std.proofs.Common.{◌<◌, ◌≤◌, ◌-◌, ℕ, get_or, set, length, map, refl, sym, subst, arith}
use Rattle.share_book.specs.BookView.{BookView}
use Rattle.share_book.specs.TableView.{TableView}
use Rattle.share_book.specs.Books.{OthersRest, room_left}
use Rattle.share_book.proofs.Reserves.{book_raised, others_raised, raised_self, room_here, room_there, rooms_more}
use Rattle.share_book.proofs.book.Book.reserve.Goals as goal

pub returns-in_err-reserve-clause-commits : goal.returns-in_err-reserve-clause-commits
returns-in_err-reserve-clause-commits c =
    let tables = c.self.inside.tables.items in
    let k = c.args.log - 1 in
    let there : c.args.log < length c.self.inside.past.rooms = subst (λ (b : BookView). c.args.log < length b.past.rooms) (sym c.self.view_is) c.requires.there in
    let rooms = c.len.ensures.rooms in
    let count = c.self.invariant.count in
    let pos : 0 < c.args.log = c.requires.table in
    let lt : k < length tables = omega (arith, there, rooms, count, pos) in
    let t : TableView = c.index_mut-table.result.now in
    subst (λ (b : BookView). (i : ℕ) → get_or b.commit_rooms i 0 ≤ get_or (map room_left (set tables k c.reserve.new.self)) i 0) c.self.view_is (rooms_more tables k t c.reserve.new.self lt c.index_mut-table.ensures.value c.in_err-reserve.ensures.no_fewer)

pub returns-in_err-reserve-clause-others : goal.returns-in_err-reserve-clause-others
returns-in_err-reserve-clause-others c o =
    let tables = c.self.inside.tables.items in
    let k = c.args.log - 1 in
    let there : c.args.log < length c.self.inside.past.rooms = subst (λ (b : BookView). c.args.log < length b.past.rooms) (sym c.self.view_is) c.requires.there in
    let rooms = c.len.ensures.rooms in
    let count = c.self.invariant.count in
    let pos : 0 < c.args.log = c.requires.table in
    let lt : k < length tables = omega (arith, there, rooms, count, pos) in
    let t : TableView = c.index_mut-table.result.now in
    let old : BookView = record { past = c.self.inside.past; edit_room = c.self.inside.catalog.spare; commit_rooms = map room_left tables } in
    let new : BookView = record { past = c.self.inside.past; edit_room = c.self.inside.catalog.spare; commit_rooms = map room_left (set tables k c.reserve.new.self) } in
    others_raised old new c.args.log (raised_self c.args.log c.self.inside.past) refl refl (room_there tables k t c.reserve.new.self) pos (subst (OthersRest c.args.log) (sym c.self.view_is) o)

pub invariant_of-self-in_err-reserve-2 : goal.invariant_of-self-in_err-reserve-2
invariant_of-self-in_err-reserve-2 c =
    let tables = c.self.inside.tables.items in
    let k = c.args.log - 1 in
    let there : c.args.log < length c.self.inside.past.rooms = subst (λ (b : BookView). c.args.log < length b.past.rooms) (sym c.self.view_is) c.requires.there in
    let rooms = c.len.ensures.rooms in
    let count = c.self.invariant.count in
    let pos : 0 < c.args.log = c.requires.table in
    let lt : k < length tables = omega (arith, there, rooms, count, pos) in
    let t : TableView = c.index_mut-table.result.now in
    book_raised c.self.inside.past c.reserve-2.new.self c.self.inside.catalog.edits tables _ _ c.args.log t c.reserve.new.self c.in_err-reserve-2.ensures.raised c.in_err-reserve-2.ensures.logs c.index_mut-table.ensures.value c.in_ok-reserve.ensures.same c.self.invariant

pub returns-in_err-reserve-2-clause-commits : goal.returns-in_err-reserve-2-clause-commits
returns-in_err-reserve-2-clause-commits c =
    let tables = c.self.inside.tables.items in
    let k = c.args.log - 1 in
    let there : c.args.log < length c.self.inside.past.rooms = subst (λ (b : BookView). c.args.log < length b.past.rooms) (sym c.self.view_is) c.requires.there in
    let rooms = c.len.ensures.rooms in
    let count = c.self.invariant.count in
    let pos : 0 < c.args.log = c.requires.table in
    let lt : k < length tables = omega (arith, there, rooms, count, pos) in
    let t : TableView = c.index_mut-table.result.now in
    subst (λ (b : BookView). (i : ℕ) → get_or b.commit_rooms i 0 ≤ get_or (map room_left (set tables k c.reserve.new.self)) i 0) c.self.view_is (rooms_more tables k t c.reserve.new.self lt c.index_mut-table.ensures.value c.in_ok-reserve.ensures.no_fewer)

pub returns-in_err-reserve-2-clause-others : goal.returns-in_err-reserve-2-clause-others
returns-in_err-reserve-2-clause-others c o =
    let tables = c.self.inside.tables.items in
    let k = c.args.log - 1 in
    let there : c.args.log < length c.self.inside.past.rooms = subst (λ (b : BookView). c.args.log < length b.past.rooms) (sym c.self.view_is) c.requires.there in
    let rooms = c.len.ensures.rooms in
    let count = c.self.invariant.count in
    let pos : 0 < c.args.log = c.requires.table in
    let lt : k < length tables = omega (arith, there, rooms, count, pos) in
    let t : TableView = c.index_mut-table.result.now in
    let old : BookView = record { past = c.self.inside.past; edit_room = c.self.inside.catalog.spare; commit_rooms = map room_left tables } in
    let new : BookView = record { past = c.reserve-2.new.self; edit_room = c.self.inside.catalog.spare; commit_rooms = map room_left (set tables k c.reserve.new.self) } in
    others_raised old new c.args.log c.in_err-reserve-2.ensures.raised c.in_err-reserve-2.ensures.logs refl (room_there tables k t c.reserve.new.self) pos (subst (OthersRest c.args.log) (sym c.self.view_is) o)

pub invariant_of-self-2 : goal.invariant_of-self-2
invariant_of-self-2 c =
    let tables = c.self.inside.tables.items in
    let k = c.args.log - 1 in
    let there : c.args.log < length c.self.inside.past.rooms = subst (λ (b : BookView). c.args.log < length b.past.rooms) (sym c.self.view_is) c.requires.there in
    let rooms = c.len.ensures.rooms in
    let count = c.self.invariant.count in
    let pos : 0 < c.args.log = c.requires.table in
    let lt : k < length tables = omega (arith, there, rooms, count, pos) in
    let t : TableView = c.index_mut-table.result.now in
    book_raised c.self.inside.past c.reserve-2.new.self c.self.inside.catalog.edits tables _ _ c.args.log t c.reserve.new.self c.in_ok-reserve-2.ensures.raised c.in_ok-reserve-2.ensures.logs c.index_mut-table.ensures.value c.in_ok-reserve.ensures.same c.self.invariant

pub returns-clause-commits : goal.returns-clause-commits
returns-clause-commits c =
    let tables = c.self.inside.tables.items in
    let k = c.args.log - 1 in
    let there : c.args.log < length c.self.inside.past.rooms = subst (λ (b : BookView). c.args.log < length b.past.rooms) (sym c.self.view_is) c.requires.there in
    let rooms = c.len.ensures.rooms in
    let count = c.self.invariant.count in
    let pos : 0 < c.args.log = c.requires.table in
    let lt : k < length tables = omega (arith, there, rooms, count, pos) in
    let t : TableView = c.index_mut-table.result.now in
    subst (λ (b : BookView). (i : ℕ) → get_or b.commit_rooms i 0 ≤ get_or (map room_left (set tables k c.reserve.new.self)) i 0) c.self.view_is (rooms_more tables k t c.reserve.new.self lt c.index_mut-table.ensures.value c.in_ok-reserve.ensures.no_fewer)

pub returns-clause-others : goal.returns-clause-others
returns-clause-others c o =
    let tables = c.self.inside.tables.items in
    let k = c.args.log - 1 in
    let there : c.args.log < length c.self.inside.past.rooms = subst (λ (b : BookView). c.args.log < length b.past.rooms) (sym c.self.view_is) c.requires.there in
    let rooms = c.len.ensures.rooms in
    let count = c.self.invariant.count in
    let pos : 0 < c.args.log = c.requires.table in
    let lt : k < length tables = omega (arith, there, rooms, count, pos) in
    let t : TableView = c.index_mut-table.result.now in
    let old : BookView = record { past = c.self.inside.past; edit_room = c.self.inside.catalog.spare; commit_rooms = map room_left tables } in
    let new : BookView = record { past = c.reserve-2.new.self; edit_room = c.self.inside.catalog.spare; commit_rooms = map room_left (set tables k c.reserve.new.self) } in
    others_raised old new c.args.log c.in_ok-reserve-2.ensures.raised c.in_ok-reserve-2.ensures.logs refl (room_there tables k t c.reserve.new.self) pos (subst (OthersRest c.args.log) (sym c.self.view_is) o)

pub returns-clause-ready : goal.returns-clause-ready
returns-clause-ready c =
    let tables = c.self.inside.tables.items in
    let k = c.args.log - 1 in
    let there : c.args.log < length c.self.inside.past.rooms = subst (λ (b : BookView). c.args.log < length b.past.rooms) (sym c.self.view_is) c.requires.there in
    let rooms = c.len.ensures.rooms in
    let count = c.self.invariant.count in
    let pos : 0 < c.args.log = c.requires.table in
    let lt : k < length tables = omega (arith, there, rooms, count, pos) in
    let t : TableView = c.index_mut-table.result.now in
    let here = room_here tables k t c.reserve.new.self lt in
    let some = c.in_ok-reserve.ensures.ready in
    (c.in_ok-reserve-2.ensures.ready, omega (arith, here, some))
