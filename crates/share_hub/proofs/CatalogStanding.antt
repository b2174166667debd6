-- What calls on the catalogue added stands.
use Rattle.std.proofs.Common.{◌≡◌, inl, inr, ℕ, ◌+◌, List, [], ◌∷◌, ◌++◌, length, map, Bool, Option, Some, None, Result, Ok, Err, sym, refl, ap, ◌∙◌, subst, append_assoc, length-append}
use Rattle.std.specs.Prelude.{All}
use Rattle.std.specs.List.{slice_get}
use Rattle.std.proofs.lemmas.List.Elements.{All-append, All-cons, All-nil, filter_map-append}
use Rattle.edge_core.specs.Objects.{Objects}
use Rattle.share_catalog.specs.declared.edit.Edit.{Edit}
use Rattle.share_book.specs.declared.entry.Entry.{Entry}
use Rattle.share_book.specs.declared.entry.Act.{Act}
use Rattle.share_book.specs.declared.entry.Act.TheVariants.{Abort, Begin, FoundEdit, Load, OwnEdit}
use Rattle.share_book.specs.declared.entry.LogStart.{LogStart}
use Rattle.share_book.specs.History.{edit_in as edit_said, edits, entry}
use Rattle.hub_calls.specs.Calls.{Adds, P}
use Rattle.hub_catalog.specs.CatalogCalls.{Step, edit_in, finds}
use Rattle.hub_catalog.specs.CatalogTurns.{loading}
use Rattle.hub_catalog.specs.Edits.{AreSteps, LastIs, Leaves, Ran}
use Rattle.hub_catalog.specs.Records.{HasRecord}
use Rattle.hub_catalog.specs.declared.edit.EditEnd.{EditEnd}
use Rattle.hub_catalog.specs.declared.edit.EditEnd.TheVariants as end
use Rattle.share_hub.specs.Backing.{ActStands, AddsStanding, EditStands}
use Rattle.share_hub.specs.CatalogLaws.{CatalogRefreshesStand, EditsStand}

pub next_edit : (front back : List Edit) (e : Edit) → slice_get (front ++ e ∷ back) (length front) ≡ Some e
next_edit [] back e = refl
next_edit (x ∷ front) back e = next_edit front back e

-- what stands of entries
abbrev Each : Option Objects → List Entry → List Entry → Type 0
Each new h es = All (λ e. ActStands new h e.log e.act) es

module _ (k : ℕ) (old new : Option Objects) (h : List Entry) where
  abbrev Stands : Entry → Type 0
  Stands e = ActStands new h e.log e.act

  -- an act after the log that was loaded for it
  loaded_stands : (l : Option LogStart) (a : Act) → ActStands new h 0 a → Each new h (loading k l a)
  loaded_stands None a w = All-cons Stands (entry k 0 a) [] w (All-nil Stands)
  loaded_stands (Some s) a w = All-cons Stands (entry k 0 (Load s)) (entry k 0 a ∷ []) tt (All-cons Stands (entry k 0 a) [] w (All-nil Stands))

  -- found edits
  found_stand : (front : List Edit) (xs : List Step) (back : List Edit) → edits h ≡ front ++ (map edit_in xs ++ back) → AreSteps old new (length front) xs → Each new h (finds k xs)
  found_stand front [] back is w = All-nil Stands
  found_stand front (x ∷ xs) back is w =
      let more : length (front ++ x.edit ∷ []) ≡ length front + 1 = length-append front (x.edit ∷ []) in
      let here : EditStands new h x.edit = (length front, ap (λ (es : List Edit). slice_get es (length front)) is ∙ next_edit front (map edit_in xs ++ back) x.edit, w.0.0) in
      All-append Stands (loading k x.load (FoundEdit x.edit)) (finds k xs) (loaded_stands x.load (FoundEdit x.edit) here)
      (found_stand (front ++ x.edit ∷ []) xs back (is ∙ sym (append_assoc front (x.edit ∷ []) (map edit_in xs ++ back))) (subst (λ (n : ℕ). AreSteps old new n xs) (sym more) w.1))

-- all that a call added
ran_stands : (old new : Option Objects) (p q : P) (found : List Step) (l : Option LogStart) (a : Act) → Ran old new p q found l a → ActStands new q.seen 0 a → AddsStanding p q new
ran_stands old new p q found l a ran w =
    let k : ℕ = p.number in
    let Q : Entry → Type 0 = λ e. ActStands new q.seen e.log e.act in
    let ends : List Edit = edits (entry k 0 a ∷ []) in
    let all : edits q.seen ≡ edits ran.from ++ (map edit_in found ++ ends) =
    ap edits ran.last ∙ filter_map-append edit_said ran.before (entry k 0 a ∷ []) ∙ ap (λ (es : List Edit). es ++ ends) ran.edits ∙ append_assoc (edits ran.from) (map edit_in found) ends in (
      entry k 0 Begin ∷ (finds k found ++ loading k l a),
      ran.added,
      All-cons Q (entry k 0 Begin) (finds k found ++ loading k l a) tt (All-append Q (finds k found) (loading k l a) (found_stand k old new q.seen (edits ran.from) found ends all ran.steps) (loaded_stands k old new q.seen l a w)),
    )

nothing_added : (p q : P) (new : Option Objects) → Adds p q [] → AddsStanding p q new
nothing_added p q new a = ([], a, All-nil _)

-- the caller's own edit
own_stands : (n : ℕ) (e : Edit) (new : Option Objects) (q : P) → LastIs q (OwnEdit e) (λ es. n ≡ length es) → HasRecord new n e → EditStands new q.seen e
own_stands n e new q l has =
    let all : edits q.seen ≡ edits l.before ++ e ∷ [] = ap edits l.last ∙ filter_map-append edit_said l.before (entry q.number 0 (OwnEdit e) ∷ []) in
    (n, (λ i. slice_get (all i) (l.told i)) ∙ next_edit (edits l.before) [] e, has)

pub edits_standing : EditsStand
edits_standing (Ok n) e old new was is p q w l = ran_stands old new p q w.0 w.1 (OwnEdit e) w.2 (own_stands n e new q w.4 l.read)
edits_standing (Err (end.CatalogBlocked n)) e old new was is p q w l = ran_stands old new p q w.0 None Abort w.1 tt
edits_standing (Err end.Contended) e old new was is p q w l = ran_stands old new p q w.0 None Abort w.1 tt
edits_standing (Err (end.Refused r)) e old new was is p q w l = ran_stands old new p q w.0 None Abort w.1 tt
edits_standing (Err end.StoreFault) e old new was is p q w l = ran_stands old new p q w.0 None Abort w.1 tt
edits_standing (Err end.NoMemory) e old new was is p q (inl w) l = nothing_added p q new w
edits_standing (Err end.NoMemory) e old new was is p q (inr w) l = ran_stands old new p q w.0 None Abort w.1 tt

pub refreshes_standing : CatalogRefreshesStand
refreshes_standing r old new p q (inl w) = nothing_added p q new w.0
refreshes_standing r old new p q (inr w) = ran_stands old new p q w.0.0 None Abort w.0.1 tt
