use Rattle.std.proofs.Common.{List, sym, subst}
use Rattle.std.specs.Prelude.{IfSome}
use Rattle.share_book.specs.Bases.{FilesStand}
use Rattle.share_book.specs.declared.entry.Entry.{Entry}
use Rattle.share_hub.proofs.Keeping.{found_later}
use Rattle.share_hub.proofs.hub.Hub.keep_found.Goals as goal

pub keep-requires : goal.keep-requires
keep-requires g c =
    let a = c.take-turn.ensures in
    subst (λ (h : List Entry). IfSome c.args.look.now.seen (λ s. FilesStand h s.found)) (sym a.value.0) (found_later c.args.look.now.seen c.args.pass.now.seen c.take-turn.new.pass.seen a.seen c.requires.found)
