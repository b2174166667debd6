use Rattle.std.proofs.Common.{◌≡◌, ◌<◌, List, Some, None, length, ap, ◌∙◌, sym}
use Rattle.std.specs.List.{position}
use Rattle.share_book.specs.BookView.{BookView}
use Rattle.share_book.specs.Books.{is_table_at}
use Rattle.share_book.specs.TableView.{TableView}
use Rattle.share_book.specs.Views.{log_at}
use Rattle.share_book.proofs.Logs.{none_seen, position_at, position_less, seen_at}
use Rattle.share_book.proofs.book.Book.seen_log.Goals as goal

pub returns-in-Some : goal.returns-in-Some
returns-in-Some c =
    let l = c.args.location.now in
    let past = c.self.inside.past in
    let tables = c.self.inside.tables.items in
    let at = position_at past _ tables _ _ c.self.invariant l in
    let here : position (is_table_at l) tables ≡ Some c.in-Some.place = sym (ap (λ (ts : List TableView). position (is_table_at l) ts) c.deref.ensures.value) ∙ sym c.place_of.ensures ∙ c.in-Some.is in
    let less : c.in-Some.place < length tables = position_less (is_table_at l) tables c.in-Some.place here in
    c.of.ensures ∙ seen_at past _ tables _ _ c.self.invariant l c.in-Some.place c.index.result.now (sym at ∙ here) less c.index.ensures ∙ ap (λ (b : BookView). log_at b.past.history l) c.self.view_is

pub returns-in-None : goal.returns-in-None
returns-in-None c =
    let l = c.args.location.now in
    let past = c.self.inside.past in
    let tables = c.self.inside.tables.items in
    let at = position_at past _ tables _ _ c.self.invariant l in
    let here : position (is_table_at l) tables ≡ None = sym (ap (λ (ts : List TableView). position (is_table_at l) ts) c.deref.ensures.value) ∙ sym c.place_of.ensures ∙ c.in-None.is in
    c.empty.ensures ∙ none_seen past.history l (sym at ∙ here) ∙ ap (λ (b : BookView). log_at b.past.history l) c.self.view_is
