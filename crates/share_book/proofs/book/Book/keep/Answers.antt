use Rattle.std.proofs.Common.{◌≡◌, List, Option, Some, sym, ◌∙◌, subst}
use Rattle.std.specs.Prelude.{IfSome}
use Rattle.std.specs.List.{position, slice_get}
use Rattle.log_replay.specs.State.{State}
use Rattle.share_book.specs.Bases.{FilesStand, IsStateIn, PartStands}
use Rattle.share_book.specs.BookView.{BookView}
use Rattle.share_book.specs.Books.{is_table_at}
use Rattle.share_book.specs.TableView.{TableView}
use Rattle.share_book.specs.Views.{log_at}
use Rattle.share_book.specs.declared.look.Seen.{Seen}
use Rattle.share_book.proofs.Keeping.{kept_there}
use Rattle.share_book.proofs.book.Book.keep.Goals as goal

pub keep_at-requires-clause-state : goal.keep_at-requires-clause-state
keep_at-requires-clause-state c =
    let h = c.args.self.now.past.history in
    let spot = c.in-Table.spot in
    let s = c.in-Files.state in
    let tables : List TableView = c.self.inside.tables.items in
    let seen : FilesStand h c.in-Some.seen.found = subst (λ (o : Option Seen). IfSome o (λ x. FilesStand h x.found)) c.in-Some.is c.requires in
    let stands : IsStateIn (log_at h spot.location).commits s = subst (PartStands (log_at h spot.location)) c.in-Files.is (subst (FilesStand h) c.in-Table.is seen) in
    let own : IsStateIn (log_at c.self.inside.past.history spot.location).commits s = subst (λ (b : BookView). IsStateIn (log_at b.past.history spot.location).commits s) (sym c.self.view_is) stands in
    let at = c.as_str.ensures.value ∙ c.location.ensures in
    let here : position (is_table_at spot.location) tables ≡ Some c.in-Some-place_of.place =
    sym (c.place_of.ensures ∙ (λ i. position (is_table_at (at i)) (c.deref.ensures.value i))) ∙ c.in-Some-place_of.is in
    let kept = kept_there c.self.inside.past _ tables _ _ c.self.invariant spot.location c.in-Some-place_of.place s here own in
    subst (λ (x : State). IfSome (slice_get c.deref_mut.result.now c.in-Some-place_of.place) (λ t. IsStateIn t.log.commits x)) (sym c.in_ok-share-in-Some-place_of.ensures)
    (subst (λ (ts : List TableView). IfSome (slice_get ts c.in-Some-place_of.place) (λ t. IsStateIn t.log.commits s)) (sym c.deref_mut.ensures.value) kept)
