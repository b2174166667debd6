use Rattle.std.proofs.Common.{◌≡◌, ◌<◌, ◌≤◌, ℕ, get_or, length, map, set, ap, ◌∙◌, sym, subst, arith}
use Rattle.std.proofs.lemmas.List.{get_or-map, length-map}
use Rattle.share_book.specs.PastView.{PastView}
use Rattle.share_book.specs.declared.past.Line.{Line}
use Rattle.share_book.specs.Pasts.{Raised, room_of}
use Rattle.share_book.proofs.Pushes.{raised_room, raised_to}
use Rattle.share_book.proofs.past.Past.reserve.Goals as goal

pub returns-clause-raised : goal.returns-clause-raised
returns-clause-raised c =
    let lines = c.self.inside.lines.items in
    let there : c.args.log < length (map room_of lines) = subst (λ (p : PastView). c.args.log < length p.rooms) (sym c.self.view_is) c.requires in
    let lt : c.args.log < length lines = subst (λ (n : ℕ). c.args.log < n) (length-map lines room_of) there in
    let room : get_or (map room_of lines) c.args.log 0 ≡ c.index.result.now.room = get_or-map room_of lines c.args.log c.index.result.now 0 lt ∙ ap room_of (sym c.index.ensures) in
    let few = c.if-index-ge4.false in
    let le : get_or (map room_of lines) c.args.log 0 ≤ 4 = omega (arith, room, few) in
    let y : Line = record { holder = c.index_mut.result.now.holder; room = 4 } in
    let new : PastView = record { history = c.reserve.new.self.items; rooms = map room_of (set lines c.args.log y); log_room = c.self.inside.log_room } in
    subst (λ (p : PastView). Raised c.args.log p new) c.self.view_is (raised_to c.self.inside.history.items c.reserve.new.self.items lines c.self.inside.log_room c.args.log y c.in_ok-reserve.ensures.items lt le)

pub returns-clause-ready : goal.returns-clause-ready
returns-clause-ready c =
    let lines = c.self.inside.lines.items in
    let there : c.args.log < length (map room_of lines) = subst (λ (p : PastView). c.args.log < length p.rooms) (sym c.self.view_is) c.requires in
    let lt : c.args.log < length lines = subst (λ (n : ℕ). c.args.log < n) (length-map lines room_of) there in
    let room = raised_room lines c.args.log (record { holder = c.index_mut.result.now.holder; room = 4 }) lt in
    omega (arith, room)
