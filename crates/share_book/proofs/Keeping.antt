-- Which states a table may keep.
use Rattle.std.proofs.Common.{◌≡◌, ℕ, List, Option, Some, None, get_or, refl, sym, ◌∙◌, subst}
use Rattle.std.specs.Prelude.{IfSome}
use Rattle.std.specs.List.{position, slice_get}
use Rattle.std.proofs.lemmas.Option.{slice_get-get_or}
use Rattle.log_replay.specs.State.{State}
use Rattle.share_catalog.specs.declared.edit.Edit.{Edit}
use Rattle.share_book.specs.Bases.{IsStateIn}
use Rattle.share_book.specs.Books.{IsBook, is_table_at}
use Rattle.share_book.specs.PastView.{PastView}
use Rattle.share_book.specs.TableView.{TableView}
use Rattle.share_book.specs.Views.{Log, log_at}
use Rattle.share_book.proofs.Logs.{position_at, position_less, seen_at}

-- a state of the log of a location is one of the table that is found there
pub kept_there : (past : PastView) (es : List Edit) (tables : List TableView) (tl tc : ℕ) → IsBook past es tables tl tc → (l : List ℕ) (place : ℕ) (s : State) → position (is_table_at l) tables ≡ Some place
    → IsStateIn (log_at past.history l).commits s → IfSome (slice_get tables place) (λ t. IsStateIn t.log.commits s)
kept_there past es tables tl tc b l place s here kept = by_table (slice_get tables place) refl
  where
    by_table : (o : Option TableView) → slice_get tables place ≡ o → IfSome o (λ t. IsStateIn t.log.commits s)
    by_table None e = tt
    by_table (Some t) e =
        let at = position_at past es tables tl tc b l in
        let less = position_less (is_table_at l) tables place here in
        let found : Some (get_or tables place t) ≡ Some t = sym (slice_get-get_or tables place t less) ∙ e in
        let is : t ≡ get_or tables place t = sym (cc found) in
        subst (λ (x : Log). IsStateIn x.commits s) (sym (seen_at past es tables tl tc b l place t (sym at ∙ here) less is)) kept
