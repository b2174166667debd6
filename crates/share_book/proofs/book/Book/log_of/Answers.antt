use Rattle.std.proofs.Common.{◌≡◌, ◌+◌, ◌<◌, ◌≤◌, ℕ, List, Option, Some, length, ap, ◌∙◌, sym, arith}
use Rattle.std.specs.List.{position}
use Rattle.std.specs.Option.{option_map}
use Rattle.share_book.specs.BookView.{BookView}
use Rattle.share_book.specs.TableView.{TableView}
use Rattle.share_book.specs.Books.{is_table_at}
use Rattle.share_book.specs.History.{starts}
use Rattle.share_book.specs.Legal.{is_at}
use Rattle.share_book.proofs.Logs.{few_logs, position_at, position_less}
use Rattle.share_book.proofs.book.Book.log_of.Goals as goal

pub returns-in_err-place : goal.returns-in_err-place
returns-in_err-place c =
    let l = c.args.location.now in
    let at = position_at c.self.inside.past _ c.self.inside.tables.items _ _ c.self.invariant l in
    let found : c.place_of.result ≡ position (is_at l) (starts c.args.self.now.past.history) = c.place_of.ensures ∙ ap (λ (ts : List TableView). position (is_table_at l) ts) c.deref.ensures.value ∙ at ∙ ap (λ (b : BookView). position (is_at l) (starts b.past.history)) c.self.view_is in
    c.from_residual.ensures ∙ ap (λ (o : Option ℕ). option_map (λ i. i + 1) o) (sym c.in_err-place.was ∙ found)

pub overflow_cast-result : goal.overflow_cast-result
overflow_cast-result c =
    let tables = c.self.inside.tables.items in
    let is : position (is_table_at c.args.location.now) tables ≡ Some c.in_ok-place.place = sym (ap (λ (ts : List TableView). position (is_table_at c.args.location.now) ts) c.deref.ensures.value) ∙ sym c.place_of.ensures ∙ c.in_ok-place.was in
    let less : c.in_ok-place.place < length tables = position_less (is_table_at c.args.location.now) tables c.in_ok-place.place is in
    let few : length (starts c.self.inside.past.history) ≤ 32 = few_logs c.self.inside.past.history c.len.ensures.legal in
    let count = c.self.invariant.count in
    omega (arith, less, few, count)

pub overflow_add-result : goal.overflow_add-result
overflow_add-result c =
    let tables = c.self.inside.tables.items in
    let is : position (is_table_at c.args.location.now) tables ≡ Some c.in_ok-place.place = sym (ap (λ (ts : List TableView). position (is_table_at c.args.location.now) ts) c.deref.ensures.value) ∙ sym c.place_of.ensures ∙ c.in_ok-place.was in
    let less : c.in_ok-place.place < length tables = position_less (is_table_at c.args.location.now) tables c.in_ok-place.place is in
    let few : length (starts c.self.inside.past.history) ≤ 32 = few_logs c.self.inside.past.history c.len.ensures.legal in
    let count = c.self.invariant.count in
    omega (arith, less, few, count)

pub returns : goal.returns
returns c =
    let l = c.args.location.now in
    let at = position_at c.self.inside.past _ c.self.inside.tables.items _ _ c.self.invariant l in
    let found : c.place_of.result ≡ position (is_at l) (starts c.args.self.now.past.history) = c.place_of.ensures ∙ ap (λ (ts : List TableView). position (is_table_at l) ts) c.deref.ensures.value ∙ at ∙ ap (λ (b : BookView). position (is_at l) (starts b.past.history)) c.self.view_is in
    ap (λ (o : Option ℕ). option_map (λ i. i + 1) o) (sym c.in_ok-place.was ∙ found)
