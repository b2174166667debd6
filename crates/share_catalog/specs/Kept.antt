-- Which of the held grants and tables are listed.
use Rattle.std.specs.Prelude.{ℕ, List, [], ◌∷◌, Option, Some, None, option_map}
use Rattle.share_catalog.specs.declared.edit.Binding.{Binding}
use Rattle.share_catalog.specs.declared.state.GrantState.{GrantState}
use Rattle.share_catalog.specs.declared.state.RecipientState.{RecipientState}
use Rattle.share_catalog.specs.declared.state.ShareState.{ShareState}
use Rattle.share_catalog.specs.declared.state.TableState.{TableState}
use Rattle.share_catalog.specs.Catalogue.{said}
use Rattle.share_catalog.specs.Maps.{Maps, bound_by, granted_by, share_in}

abbrev pub kept_grant : Maps → Option RecipientState → List (List ℕ) → GrantState → Option ℕ
kept_grant m ro [] g = None
kept_grant m ro (s ∷ []) g = said (granted_by ro (share_in m s) (Some g)) g.edition
kept_grant m ro (s ∷ t ∷ more) g = None

abbrev pub kept_table : Option ShareState → List (List ℕ) → TableState → Option (Binding × ℕ)
kept_table so key t = option_map (λ b. (b, t.edition)) (bound_by so (Some t))
