use Rattle.std.proofs.Common.{◌≡◌, List, Some, ap, ◌∙◌, sym}
use Rattle.share_catalog.specs.Catalogue.{credential}
use Rattle.share_catalog.specs.Views.{name_of}
use Rattle.share_catalog.specs.declared.edit.Edit.{Edit}
use Rattle.share_book.specs.BookView.{BookView}
use Rattle.share_book.specs.History.{edits}
use Rattle.share_book.specs.Looks.{who_of}
use Rattle.share_book.proofs.Listed.{some_of}
use Rattle.share_book.proofs.Looking.{glance_is, makes_is}
use Rattle.share_book.proofs.book.Book.pin.Goals as goal

pub returns-clause-seen : goal.returns-clause-seen
returns-clause-seen c =
    let h = c.args.self.now.past.history in
    let who = who_of c.args.ask.now.who in
    let r = c.in-Some.recipient.now in
    let catalogue : c.self.inside.catalog.edits ≡ edits h = c.self.invariant.catalogue ∙ ap (λ (b : BookView). edits b.past.history) c.self.view_is in
    let named : name_of (edits h) who ≡ Some r = sym (ap (λ (es : List Edit). name_of es who) catalogue) ∙ sym c.recipient_of.ensures ∙ sym (some_of c.recipient_of.result c.in-Some.recipient (λ s. s.now) c.in-Some.is) in
    let there : credential (edits h) r ≡ Some c.in-Some-credential.credential = sym (ap (λ (es : List Edit). credential es r) catalogue) ∙ sym c.credential.ensures ∙ c.in-Some-credential.is in
    let name : c.of.result ≡ r = c.of.ensures ∙ c.in_ok-from_str.ensures.ok in
    (λ i. Some (record { recipient = name i; expires = c.in-Some-credential.credential.expires; found = c.in_ok-found.found })) ∙ glance_is h who r c.in-Some-credential.credential c.args.ask.now.want c.in_ok-found.found named there c.in_ok-found.ensures.found

pub returns-clause-makes : goal.returns-clause-makes
returns-clause-makes c =
    let h = c.args.self.now.past.history in
    let who = who_of c.args.ask.now.who in
    let r = c.in-Some.recipient.now in
    let catalogue : c.self.inside.catalog.edits ≡ edits h = c.self.invariant.catalogue ∙ ap (λ (b : BookView). edits b.past.history) c.self.view_is in
    let named : name_of (edits h) who ≡ Some r = sym (ap (λ (es : List Edit). name_of es who) catalogue) ∙ sym c.recipient_of.ensures ∙ sym (some_of c.recipient_of.result c.in-Some.recipient (λ s. s.now) c.in-Some.is) in
    let there : credential (edits h) r ≡ Some c.in-Some-credential.credential = sym (ap (λ (es : List Edit). credential es r) catalogue) ∙ sym c.credential.ensures ∙ c.in-Some-credential.is in
    makes_is h who r c.in-Some-credential.credential c.args.ask.now.want c.in_ok-found.replay named there c.in_ok-found.ensures.makes
