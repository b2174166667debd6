use Rattle.std.proofs.Common.{◌≡◌, List, Some, option_map, ap, ◌∙◌, sym}
use Rattle.std.specs.Prelude.{is_some}
use Rattle.share_catalog.specs.Catalogue.{credential}
use Rattle.share_catalog.specs.Views.{name_of, token}
use Rattle.share_catalog.specs.declared.edit.Edit.{Edit}
use Rattle.share_book.specs.BookView.{BookView}
use Rattle.share_book.specs.History.{edits}
use Rattle.share_book.proofs.TokenHolders.{known_is}
use Rattle.share_book.proofs.Listed.{some_of}
use Rattle.share_book.proofs.book.Book.knows.Goals as goal

pub returns-in-Some : goal.returns-in-Some
returns-in-Some c =
    let h = c.args.self.now.past.history in
    let who = token c.args.digest.now in
    let r = c.in-Some.recipient.now in
    let catalogue : c.self.inside.catalog.edits ≡ edits h = c.self.invariant.catalogue ∙ ap (λ (b : BookView). edits b.past.history) c.self.view_is in
    let named : name_of (edits h) who ≡ Some r = sym (ap (λ (es : List Edit). name_of es who) catalogue) ∙ sym c.recipient_of.ensures ∙ sym (some_of c.recipient_of.result c.in-Some.recipient (λ s. s.now) c.in-Some.is) in
    c.is_some.ensures ∙ ap is_some c.credential.ensures ∙ ap (λ (es : List Edit). is_some (credential es r)) catalogue ∙ known_is h who r named
