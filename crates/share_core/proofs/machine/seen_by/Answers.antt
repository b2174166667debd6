use Rattle.std.proofs.Common.{◌≡◌, Option, subst}
use Rattle.std.specs.Prelude.{IfOk}
use Rattle.share_book.specs.declared.look.Ask.{Ask}
use Rattle.share_world.specs.Worlds.{looked}
use Rattle.share_core.proofs.machine.seen_by.Goals as goal

pub returns-clause-seen : goal.returns-clause-seen
returns-clause-seen c = λ before s.
    subst (λ (ask : Option Ask). IfOk c.see.result (λ s. s ≡ looked before ask)) c.in_ok-ask.ensures (c.see.ensures.seen before s)
