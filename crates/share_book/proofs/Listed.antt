-- The names that are listed are those of the view.
use Rattle.std.proofs.Common.{◌≡◌, ℕ, ◌+◌, ◌<◌, List, [], ◌∷◌, ◌++◌, All, Option, Some, None, get_or, map, option_and_then, option_map, take, length, refl, sym, ap, ◌∙◌}
use Rattle.std.specs.FinMap as maps
use Rattle.std.proofs.lemmas.List.{flat_map_more, map-append, take_more}
use Rattle.std.proofs.lemmas.List.Elements.{All-head, All-tail}
use Rattle.log_replay.proofs.AppliedLemmas.{map_take_more}
use Rattle.share_catalog.specs.Catalogue.{IsHolder, binding_edition, bound}
use Rattle.share_catalog.specs.Listed.{bound_entry, grant_entry}
use Rattle.share_catalog.specs.Listing.{ListsBindings, ListsGrants}
use Rattle.share_catalog.specs.Views.{Spot, behind, bindings_of, grant, joined, name_of, shared, spot_with}
use Rattle.share_catalog.specs.declared.edit.Binding.{Binding}
use Rattle.share_catalog.specs.declared.edit.Edit.{Edit}
use Rattle.share_catalog.specs.declared.listing.Bound.{Bound}
use Rattle.share_catalog.specs.declared.listing.Granted.{Granted}
use Rattle.share_catalog.specs.declared.table_name.TableName.{TableName}
use Rattle.share_catalog.proofs.HolderLemmas.{holders_are_found}
use Rattle.share_catalog.proofs.JoinLemmas.{tables_are_joined}
use Rattle.share_catalog.proofs.ViewLemmas.{bindings_are_listed, grants_are_listed}
use Rattle.share_book.specs.Looked.{names_by, tables_in, tables_of_grants}
use Rattle.share_book.specs.Looks.{share_of, table_of, who_of}
use Rattle.share_book.specs.declared.look.Who.{Who}
use Rattle.share_book.specs.declared.look.Who.TheVariants as who

table_is : (s : List ℕ) (b : Bound) → b.table.now.share ≡ s → b.table.now ≡ table_of (s ∷ (bound_entry b).0)
table_is s b is = λ i. record { share = is i; schema = b.table.now.schema; table = b.table.now.table }

tables_are : (s : List ℕ) (items : List Bound) → All (λ b. b.table.now.share ≡ s) items → map (λ (b : Bound). b.table.now) items ≡ map (λ (e : List (List ℕ) × (Binding × ℕ)). table_of (s ∷ e.0)) (map bound_entry items)
tables_are s [] of = refl
tables_are s (b ∷ bs) of =
    let first = table_is s b (All-head (λ (x : Bound). x.table.now.share ≡ s) b bs of) in
    let rest = tables_are s bs (All-tail (λ (x : Bound). x.table.now.share ≡ s) b bs of) in
    λ i. first i ∷ rest i

-- the tables that are listed of a share are those that are bound in it
pub share_tables : (es : List Edit) (s : List ℕ) (items : List Bound) → ListsBindings es s items → map (λ (b : Bound). b.table.now) items ≡ tables_in es s
share_tables es s items lists = tables_are s items lists.of ∙ ap (map (λ (e : List (List ℕ) × (Binding × ℕ)). table_of (s ∷ e.0))) (bindings_are_listed es s items lists)

shares_are : (items : List Granted) → map (λ (g : Granted). g.share.now) items ≡ map (λ (e : List (List ℕ) × ℕ). share_of e.0) (map grant_entry items)
shares_are [] = refl
shares_are (g ∷ gs) = let rest = shares_are gs in λ i. g.share.now ∷ rest i

names_behind : (g : Granted) (entries : List (List (List ℕ) × (Binding × ℕ))) → map (λ (e : List (List ℕ) × Spot). table_of e.0) (map (behind g) entries) ≡ map (λ (e : List (List ℕ) × (Binding × ℕ)). table_of (g.share.now ∷ e.0)) entries
names_behind g [] = refl
names_behind g (e ∷ es) = let rest = names_behind g es in λ i. table_of (g.share.now ∷ e.0) ∷ rest i

names_joined : (es : List Edit) (items : List Granted) → tables_of_grants es items ≡ map (λ (e : List (List ℕ) × Spot). table_of e.0) (joined es items)
names_joined es [] = refl
names_joined es (g ∷ gs) =
    (λ i. sym (names_behind g (maps.entries (bindings_of es g.share.now))) i ++ names_joined es gs i)
    ∙ sym (map-append (λ (e : List (List ℕ) × Spot). table_of e.0) (map (behind g) (maps.entries (bindings_of es g.share.now))) (joined es gs))

-- the names that are listed of a recipient are those that it sees
pub names_are : (es : List Edit) (r : List ℕ) (items : List Granted) → ListsGrants es r items → record { shares = map (λ (g : Granted). g.share.now) items; tables = tables_of_grants es items } ≡ names_by es r
names_are es r items lists =
    let shares = shares_are items ∙ ap (map (λ (e : List (List ℕ) × ℕ). share_of e.0)) (grants_are_listed es r items lists) in
    let tables = names_joined es items ∙ ap (map (λ (e : List (List ℕ) × Spot). table_of e.0)) (tables_are_joined es r items lists) in
    λ i. record { shares = shares i; tables = tables i }

-- one grant more
pub shares_more : (gs : List Granted) (i : ℕ) (g : Granted) (old : List (List ℕ)) (x : List ℕ) → i < length gs → g ≡ get_or gs i g → old ≡ map (λ (a : Granted). a.share.now) (take i gs) → x ≡ g.share.now
    → old ++ x ∷ [] ≡ map (λ (a : Granted). a.share.now) (take (i + 1) gs)
shares_more gs i g old x less is so_far same = (λ k. so_far k ++ same k ∷ []) ∙ sym (map_take_more (λ (a : Granted). a.share.now) gs i g less is)

pub tables_more : (es : List Edit) (gs : List Granted) (i : ℕ) (g : Granted) (old more : List TableName) → i < length gs → g ≡ get_or gs i g → old ≡ tables_of_grants es (take i gs) → more ≡ tables_in es g.share.now
    → old ++ more ≡ tables_of_grants es (take (i + 1) gs)
tables_more es gs i g old more less is so_far same =
    let one : take (i + 1) gs ≡ take i gs ++ g ∷ [] = take_more gs i g less ∙ ap (λ (x : Granted). take i gs ++ x ∷ []) (sym is) in
    (λ k. so_far k ++ same k) ∙ (flat_map_more (λ (a : Granted). tables_in es a.share.now) [] (take i gs) g ∙ ap (tables_of_grants es) (sym one))

-- ---- where a table stands

pub some_of : {X : Type 0} (o : Option X) (x : X) (f : X → List ℕ) → o ≡ Some x → Some (f x) ≡ option_map f o
some_of o x f is = sym (ap (option_map f) is)

pub none_of : {X : Type 0} (o : Option X) (f : X → List ℕ) → o ≡ None → None ≡ option_map f o
none_of o f is = sym (ap (option_map f) is)

-- the holder of a digest is the recipient that a token finds
pub holder_is : {X : Type 0} (es : List Edit) (digest : List ℕ) (o : Option X) (w : Who) (f : X → List ℕ) → w ≡ who.Token digest → IsHolder es digest (option_map f o) → option_map f o ≡ name_of es (who_of w)
holder_is es digest o w f is holds = sym (holders_are_found es digest (option_map f o) holds) ∙ sym (ap (λ (x : Who). name_of es (who_of x)) is)

pub spot_is : {B : Type 0} (es : List Edit) (r : List ℕ) (t : TableName) (g : ℕ) (share : List ℕ) (o : Option B) (b : B) (f : B → Binding) → share ≡ t.share → Some g ≡ grant es r share → o ≡ Some b → option_map f o ≡ bound es t
    → Some (spot_with g (f b, binding_edition es t)) ≡ shared es r t
spot_is es r t g share o b f of granted there is =
    let grants : Some g ≡ grant es r t.share = granted ∙ ap (grant es r) of in
    let bindings : Some (f b) ≡ bound es t = sym (ap (option_map f) there) ∙ is in
    λ i. option_and_then (λ edition. option_map (spot_with edition) (option_map (λ (x : Binding). (x, binding_edition es t)) (bindings i))) (grants i)
