-- What is made before a put.
use Rattle.std.proofs.Common.{◌≡◌, ℕ, List, Option, Some, None, refl, sym, ◌∙◌, subst}
use Rattle.share_catalog.specs.declared.edit.Edit.{Edit}
use Rattle.share_catalog.specs.Catalogue.{refusal_of}
use Rattle.share_book.specs.declared.entry.Entry.{Entry}
use Rattle.share_book.specs.declared.entry.LogStart.{LogStart}
use Rattle.share_book.specs.History.{edits}
use Rattle.hub_catalog.specs.declared.catalog_turns.NewEdit.{NewEdit}
use Rattle.hub_catalog.specs.declared.edit.Own.{Own}
use Rattle.hub_catalog.specs.CatalogTurns.{LoadFits, TakesEdit}
use Rattle.hub_catalog.specs.Rounds.{IsMade}

same_some : {A : Type 0} (x y : A) → Some x ≡ Some y → x ≡ y
same_some x y e = cc e

-- the edit that was taken is the one that was made
pub made_edit : (new : NewEdit) (o : Own) (e : Edit) (l : Option LogStart) (n : ℕ) → o.new ≡ Some new → IsMade o e l n → new ≡ record { edit = e; shared = e; load = l }
made_edit new o e l n i m = same_some new (record { edit = e; shared = e; load = l }) (sym i ∙ m.new)

pub takes_made : (h : List Entry) (new : NewEdit) (o : Own) (e : Edit) (l : Option LogStart) (n : ℕ) → o.new ≡ Some new → IsMade o e l n → refusal_of (edits h) e ≡ None → LoadFits h e l → TakesEdit h new
takes_made h new o e l n i m a f = subst (λ (x : NewEdit). TakesEdit h x) (sym (made_edit new o e l n i m)) (refl, a, f)
