use Rattle.std.proofs.Common.{◌≡◌, Option, option_map, sym, ap, ◌∙◌, subst}
use Rattle.std.specs.Prelude.{IfSome}
use Rattle.share_book.specs.Bases.{FilesStand}
use Rattle.share_book.specs.BookView.{BookView}
use Rattle.share_book.specs.Looks.{commits_of, look_of, seen_with, who_of}
use Rattle.share_book.specs.Views.{held_view}
use Rattle.share_book.specs.declared.look.Seen.{Seen}
use Rattle.share_book.proofs.Looking.{glances_become_looks, look_stands}
use Rattle.share_world.proofs.look.look.Goals as goal

pub keep-requires : goal.keep-requires
keep-requires c =
    let h = c.args.book.now.past.history in
    let who = who_of c.args.ask.now.who in
    let w = c.args.ask.now.want in
    let view = held_view h who in
    let seen : c.in_ok-look.look.seen ≡ look_of view w = c.in_ok-look.ensures.seen (commits_of view w) c.in_ok-pinned.ensures.makes ∙ ap (option_map (seen_with (commits_of view w))) c.in_ok-pinned.ensures.seen ∙ glances_become_looks h who w in
    subst (λ (b : BookView). IfSome c.in_ok-look.look.seen (λ s. FilesStand b.past.history s.found)) (sym c.touch.ensures) (subst (λ (o : Option Seen). IfSome o (λ s. FilesStand h s.found)) (sym seen) (look_stands h who w))

pub returns-clause-seen : goal.returns-clause-seen
returns-clause-seen c =
    let h = c.args.book.now.past.history in
    let who = who_of c.args.ask.now.who in
    let view = held_view h who in
    let w = c.args.ask.now.want in
    c.in_ok-look.ensures.seen (commits_of view w) c.in_ok-pinned.ensures.makes ∙ ap (option_map (seen_with (commits_of view w))) c.in_ok-pinned.ensures.seen ∙ glances_become_looks h who w
