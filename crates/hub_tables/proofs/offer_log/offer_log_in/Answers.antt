use Rattle.std.proofs.Common.{◌≡◌, ℕ, drop, refl, subst}
use Rattle.share_book.specs.History.{table_on}
use Rattle.share_book.specs.Legal.{There}
use Rattle.share_book.specs.TableView.{TableLog}
use Rattle.hub_tables.proofs.Admissions.{found_there}
use Rattle.hub_tables.proofs.offer_log.offer_log_in.Goals as goal

pub returns : goal.returns
returns c =
    let table = table_on c.args.log c.args.book.now.past.history in
    let winners = subst (λ (n : ℕ). There table (λ (t : TableLog). c.in_ok-winners.winners ≡ drop n t.commits)) c.next_version-first.ensures.next c.in_ok-winners.ensures in
    found_there table c.args.offer.now.read _ c.state.result winners c.in_ok-read.ensures.makes c.in_ok-head.ensures.makes c.state.ensures refl c.in_ok-read.ensures.fits c.in_ok-head.ensures.fits
