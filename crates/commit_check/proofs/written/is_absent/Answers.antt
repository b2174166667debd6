use Rattle.std.proofs.Common.{◌≡◌, ap, subst, not}
use Rattle.commit_check.specs.Lawful.{is_live}
use Rattle.commit_check.proofs.Presence.{told_live}
use Rattle.commit_check.proofs.written.is_absent.Goals as goal

pub returns-in-Some : goal.returns-in-Some
returns-in-Some c =
    let fs = c.in-Some.state.now.files in
    rw (c.in-Remove.is, c.in-Some.is) (ap not (subst (λ q. c.has.result ≡ is_live fs q) c.as_str.ensures (told_live fs c.as_str.result.now c.has.result c.has.ensures)))
