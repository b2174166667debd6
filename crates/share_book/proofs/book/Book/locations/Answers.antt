use Rattle.std.proofs.Common.{◌≡◌, List, ℕ, map, ap, ◌∙◌, subst}
use Rattle.std.specs.Result.{IfOk}
use Rattle.share_book.specs.BookView.{BookView}
use Rattle.share_book.specs.TableView.{TableView}
use Rattle.share_book.specs.Books.{location}
use Rattle.share_book.specs.Legal.{locations_of}
use Rattle.share_book.proofs.Logs.{locations_at}
use Rattle.share_book.proofs.book.Book.locations.Goals as goal

pub returns : goal.returns
returns c =
    let same : map location c.deref.result.now ≡ locations_of c.args.self.now.past.history = ap (λ (ts : List TableView). map location ts) c.deref.ensures.value ∙ locations_at c.self.inside.past _ c.self.inside.tables.items _ _ c.self.invariant ∙ ap (λ (b : BookView). locations_of b.past.history) c.self.view_is in
    subst (λ (ls : List (List ℕ)). IfOk c.locations_of.result (λ v. v.items ≡ ls)) same c.locations_of.ensures
