-- Where the catalogue takes a location that wasn't bound, fewer than 32 were.
use Rattle.std.proofs.Common.{◌≡◌, ℕ, ◌<◌, Bool, true, false, ◌&&◌, not, nat_le, List, length, Option, Some, None, refl, ap, ◌∙◌, arith, bytes_eq, inl, inr, if◌then◌else◌}
use Rattle.std.specs.List.{list_any}
use Rattle.std.specs.Option.{option_or}
use Rattle.std.proofs.lemmas.Bool.Decides.{leb_tells}
use Rattle.share_catalog.specs.declared.edit.Edit.{Edit}
use Rattle.share_catalog.specs.declared.edit.Edit.TheVariants as edit
use Rattle.share_catalog.specs.Catalogue.{bound_location, distinct, first_refusal, is_missing, is_table, is_taken, is_token_taken, limit_met, limit_passed, locations_bound, refusal_of, tables_bound}

no_full : (m k t : Bool) (f : Option ℕ) → first_refusal m k t f ≡ None → f ≡ None
no_full true k t f e = absurd cc
no_full false true t f e = absurd cc
no_full false false true f e = absurd cc
no_full false false false None e = refl
no_full false false false (Some n) e = absurd cc

neither : (a b : Option ℕ) → option_or a b ≡ None → b ≡ None
neither None b e = e
neither (Some n) b e = absurd cc

not_met : (b : Bool) (n : ℕ) → b ≡ false → if◌then◌else◌ {A = Option ℕ} (not b && nat_le 32 n) (Some 32) None ≡ None → n < 32
not_met true n b e = absurd cc
not_met false n b e = elim (leb_tells 32 n) [ inl w ↦ absurd (cc (e, w.0)) | inr w ↦ (let w1 = w.1 in omega arith) ]

pub few_bound : (es : List Edit) (x : Edit) (l : List ℕ) → bound_location x ≡ Some l → refusal_of es x ≡ None → list_any (bytes_eq l) (locations_bound es) ≡ false → length (distinct bytes_eq (locations_bound es)) < 32
few_bound es (edit.NewShare n) l is r f = absurd cc
few_bound es (edit.DropShare n) l is r f = absurd cc
few_bound es (edit.Bind t b) l is r f =
    let same : b.location ≡ l = cc is in
    let none = neither (limit_met is_table 4096 t (tables_bound es)) (limit_met bytes_eq 32 b.location (locations_bound es)) (no_full (is_missing es (edit.Bind t b)) (is_taken es (edit.Bind t b)) (is_token_taken es (edit.Bind t b)) (limit_passed es (edit.Bind t b)) r) in
    not_met (list_any (bytes_eq b.location) (locations_bound es)) (length (distinct bytes_eq (locations_bound es))) (ap (λ (y : List ℕ). list_any (bytes_eq y) (locations_bound es)) same ∙ f) none
few_bound es (edit.Unbind t) l is r f = absurd cc
few_bound es (edit.NewRecipient n c) l is r f = absurd cc
few_bound es (edit.Rotate n c) l is r f = absurd cc
few_bound es (edit.DropRecipient n) l is r f = absurd cc
few_bound es (edit.Grant n m) l is r f = absurd cc
few_bound es (edit.Revoke n m) l is r f = absurd cc
