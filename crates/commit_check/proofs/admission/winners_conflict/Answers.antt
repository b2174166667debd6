use Rattle.std.proofs.Common.{ap, ◌∙◌, map, subst}
use Rattle.std.specs.Arc.{arc_value}
use Rattle.commit_check.specs.Known.{Knows}
use Rattle.commit_check.specs.ReadFiles.{IsReading}
use Rattle.commit_check.specs.Shown.{first_shown}
use Rattle.commit_check.specs.Winners.{next_version}
use Rattle.commit_check.proofs.Chosen.{shown_is}
use Rattle.commit_check.proofs.admission.winners_conflict.Goals as goal

pub returns : goal.returns
returns c = λ log won is_at.
    let o = c.in_ok-offered.offered in
    let r = c.in_ok-reading.reading in
    c.first_conflict.ensures
    ∙ ap (λ n. first_shown o r n (map arc_value c.args.winners.now)) c.next_version-from.ensures.next
    ∙ ap (λ ws. first_shown o r (next_version c.args.offer.now.read) ws) won
    ∙ shown_is log c.args.offer.now o r (subst (Knows o) c.items.ensures c.in_ok-offered.ensures) (subst (λ s. IsReading c.args.offer.now.reads s r) is_at c.in_ok-reading.ensures)
