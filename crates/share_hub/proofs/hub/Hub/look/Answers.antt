use Rattle.std.proofs.Common.{◌≡◌, Option, option_map, inr, sym, ap, ◌∙◌, subst}
use Rattle.std.specs.Prelude.{IfSome}
use Rattle.std.specs.Result.{IfOk}
use Rattle.share_book.specs.Bases.{FilesStand}
use Rattle.share_book.specs.Looks.{commits_of, look_of, seen_with, who_of}
use Rattle.share_book.specs.Views.{held_view}
use Rattle.share_book.specs.declared.look.Seen.{Seen}
use Rattle.share_book.proofs.Looking.{glances_become_looks, look_stands}
use Rattle.share_hub.proofs.Keeping.{on_ok}
use Rattle.hub_calls.proofs.Passes.{prefix_more}
use Rattle.share_hub.proofs.hub.Hub.look.Goals as goal

pub returns-then-not-is_behind-clause-seen : goal.returns-then-not-is_behind-clause-seen
returns-then-not-is_behind-clause-seen g c =
    let h = c.pin.new.pass.seen in
    let who = who_of c.args.ask.now.who in
    let view = held_view h who in
    let w = c.args.ask.now.want in
    c.in_ok-look.ensures.seen (commits_of view w) c.in_ok-pinned.ensures.makes ∙ ap (option_map (seen_with (commits_of view w))) c.in_ok-pinned.ensures.seen ∙ glances_become_looks h who w

pub keep_found-requires-clause-found : goal.keep_found-requires-clause-found
keep_found-requires-clause-found g c =
    let h = c.pin.new.pass.seen in
    let who = who_of c.args.ask.now.who in
    let w = c.args.ask.now.want in
    let view = held_view h who in
    let seen : c.in_ok-look.look.seen ≡ look_of view w =
    c.in_ok-look.ensures.seen (commits_of view w) c.in_ok-pinned.ensures.makes ∙ ap (option_map (seen_with (commits_of view w))) c.in_ok-pinned.ensures.seen ∙ glances_become_looks h who w in
    subst (λ (o : Option Seen). IfSome o (λ s. FilesStand h s.found)) (sym seen) (look_stands h who w)

pub returns-clause-seen : goal.returns-clause-seen
returns-clause-seen g c =
    let h = c.pin-2.new.pass.seen in
    let who = who_of c.args.ask.now.who in
    let view = held_view h who in
    let w = c.args.ask.now.want in
    let seen = ap (option_map (seen_with (commits_of view w))) c.in_ok-pin.ensures.seen ∙ glances_become_looks h who w in
    subst (λ (s : Option Seen). IfOk c.complete-2.result (λ l. l.seen ≡ s)) seen (c.complete-2.ensures.seen (commits_of view w) c.in_ok-pin.ensures.makes)

pub returns-clause-counted : goal.returns-clause-counted
returns-clause-counted g c =
    let who = who_of c.args.ask.now.who in
    let w = c.args.ask.now.want in
    let first = c.in_ok-look.ensures.counted (commits_of (held_view c.pin.new.pass.seen who) w) c.in_ok-pinned.ensures.makes in
    on_ok c.complete-2.result _ _
    (λ more. inr (
      c.pin.new.pass.seen,
      c.complete.new.steps,
      c.pin.ensures.same.seen,
      prefix_more _ _ _ c.keep_found.ensures.same.seen c.pin-2.ensures.same.seen,
      (_, c.in_ok-pinned.ensures.makes, first),
      (_, c.in_ok-pin.ensures.makes, more (commits_of (held_view c.pin-2.new.pass.seen who) w) c.in_ok-pin.ensures.makes),
    ))
    c.complete-2.ensures.counted
