-- Whether anybody is found by a token.
use Rattle.std.proofs.Common.{◌≡◌, ℕ, List, Bool, Option, Some, None, option_map, option_and_then, refl, sym, ap, ◌∙◌}
use Rattle.std.specs.Prelude.{is_some}
use Rattle.share_catalog.specs.Catalogue.{credential}
use Rattle.share_catalog.specs.Views.{Who, name_of}
use Rattle.share_catalog.specs.Views as catalog
use Rattle.share_book.specs.History.{edits}
use Rattle.share_book.specs.Views.{log_at, shown, view_by, view_with}
use Rattle.share_book.specs.declared.entry.Entry.{Entry}

some_mapped : {X Y : Type 0} (f : X → Y) (o : Option X) → is_some o ≡ is_some (option_map f o)
some_mapped f None = refl
some_mapped f (Some x) = refl

named_as : List Entry → Option (List ℕ) → Bool
named_as h o = is_some (option_map (view_with (edits h) (shown (log_at h))) (option_and_then (catalog.view_of (edits h)) o))

-- who has a name is found where the recipient of that name is there
pub known_is : (h : List Entry) (who : Who) (r : List ℕ) → name_of (edits h) who ≡ Some r → is_some (credential (edits h) r) ≡ is_some (view_by h who)
unfolding named_as
known_is h who r named =
    some_mapped (catalog.view_with (edits h) r) (credential (edits h) r)
    ∙ some_mapped (view_with (edits h) (shown (log_at h))) (option_map (catalog.view_with (edits h) r) (credential (edits h) r))
    ∙ sym (ap (named_as h) named)
