use Rattle.std.proofs.Common.{◌≡◌, ◌<◌, length, sym, ap, ◌∙◌, subst}
use Rattle.std.specs.Prelude.{filter_map, option_copied, slice_get}
use Rattle.share_book.specs.Placed.{AreAt, AreFilled, files_at}
use Rattle.share_book.proofs.Placing.{as_many, is_place, stands_at}
use Rattle.share_book.proofs.shown.ShownFiles.file.Goals as goal

pub place_at-requires : goal.place_at-requires
place_at-requires c =
    let files = c.self.inside.snapshot.now.files in
    let places = c.in-Some.places.now in
    let found = filter_map (slice_get files) places in
    let filled : AreAt files places found = subst (AreFilled files) (ap option_copied c.in-Some.is) c.self.invariant in
    let view : found ≡ c.args.self.now = sym (ap (λ o. files_at files (option_copied o)) c.in-Some.is) ∙ c.self.view_is in
    subst (λ n. c.args.place < n) (sym (as_many files places found filled ∙ ap length view)) c.requires

pub file-requires : goal.file-requires
file-requires c =
    let files = c.self.inside.snapshot.now.files in
    let places = c.in-Some.places.now in
    let filled : AreAt files places (filter_map (slice_get files) places) = subst (AreFilled files) (ap option_copied c.in-Some.is) c.self.invariant in
    is_place files places (filter_map (slice_get files) places) c.args.place c.place_at.result filled c.place_at.ensures

pub returns-in-Some : goal.returns-in-Some
returns-in-Some c =
    let files = c.self.inside.snapshot.now.files in
    let places = c.in-Some.places.now in
    let found = filter_map (slice_get files) places in
    let filled : AreAt files places found = subst (AreFilled files) (ap option_copied c.in-Some.is) c.self.invariant in
    let view : found ≡ c.args.self.now = sym (ap (λ o. files_at files (option_copied o)) c.in-Some.is) ∙ c.self.view_is in
    ap (λ xs. slice_get xs c.args.place) (sym view) ∙ sym (stands_at files places found c.args.place c.place_at.result filled c.place_at.ensures) ∙ c.file.ensures
