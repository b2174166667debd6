use Rattle.std.proofs.Common.{◌≡◌, ◌∙◌, sym}
use Rattle.std.proofs.lemmas.Result.{on_ok_weaker}
use Rattle.share_world.specs.Standing.{start_of}
use Rattle.share_world.proofs.Taken.{edit_taken, given_of}
use Rattle.share_world.proofs.edits.edit_in.Goals as goal

pub returns-in_ok-load : goal.returns-in_ok-load
returns-in_ok-load c =
    let before = c.args.before.now in
    on_ok_weaker c.edit_on.result
    (λ is. edit_taken c.args.book.now.past.history c.edit_on.new.book.past.history before c.args.edit.now c.in_ok-load.load c.requires (sym c.does_admit.ensures ∙ c.if-does_admit.true) c.in_ok-load.ensures.fits
    (given_of c.in_ok-load.load (λ s. s ≡ start_of before s.location) c.in_ok-load.ensures.log) is) c.edit_on.ensures
