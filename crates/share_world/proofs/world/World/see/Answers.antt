use Rattle.std.proofs.Common.{◌≡◌, List, Option, sym, subst}
use Rattle.std.specs.Result.{IfOk}
use Rattle.share_book.specs.declared.entry.Entry.{Entry}
use Rattle.share_book.specs.declared.look.Seen.{Seen}
use Rattle.share_world.specs.Standing.{Stands}
use Rattle.share_world.proofs.Seeing.{seen_stands}
use Rattle.share_world.proofs.world.World.see.Goals as goal

pub returns-clause-seen : goal.returns-clause-seen
returns-clause-seen c = λ events s.
    subst (λ (x : Option Seen). IfOk c.seen_of.result (λ r. r ≡ x)) (seen_stands c.self.inside.book.past.history events (subst (λ (h : List Entry). Stands h events) (sym c.self.view_is) s) c.args.ask.now) c.seen_of.ensures.seen
