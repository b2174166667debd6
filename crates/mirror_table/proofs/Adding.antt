-- What the files of an answer add, one after another.
use Rattle.std.proofs.Common.{◌≡◌, ◌<◌, ◌+◌, ◌||◌, ℕ, Bool, true, false, cond, List, [], ◌∷◌, ◌++◌, Option, Some, None, Ok, Err, length, take, drop, get_or, refl, sym, ap, ◌∙◌, subst}
use Rattle.std.specs.Prelude.{filter_map, is_none}
use Rattle.std.specs.List.{cons_option, list_any}
use Rattle.std.proofs.lemmas.List.{drop_more, take-append-drop, take_more}
use Rattle.std.proofs.lemmas.List.Elements.{filter_map-append}
use Rattle.std.proofs.lemmas.List.Folds.{list_any-append}
use Rattle.log_actions.specs.declared.actions.AddFile.{AddFile}
use Rattle.delta_lines.specs.declared.kinds.DeltaFile.{DeltaFile}
use Rattle.mirror_table.specs.Added.{added, adds_in}
use Rattle.mirror_table.specs.declared.ends.NoTarget.TheVariants as none
use Rattle.mirror_table.specs.declared.ends.Unsuited.TheVariants as unsuited

-- whether one of the files isn't an add
abbrev pub are_mixed : List DeltaFile → Bool
are_mixed files = list_any (λ f. is_none (added f)) files

front : (files : List DeltaFile) (i : ℕ) (f : DeltaFile) → i < length files → f ≡ get_or files i f → take (i + 1) files ≡ take i files ++ f ∷ []
front files i f lt is = take_more files i f lt ∙ ap (λ x. take i files ++ x ∷ []) (sym is)

-- one add more
pub added_more : (files : List DeltaFile) (i : ℕ) (f : DeltaFile) (a : AddFile) → i < length files → f ≡ get_or files i f → Some a ≡ added f → filter_map added (take (i + 1) files) ≡ filter_map added (take i files) ++ a ∷ []
added_more files i f a lt is adds =
    ap (filter_map added) (front files i f lt is) ∙ filter_map-append added (take i files) (f ∷ []) ∙ ap (λ o. filter_map added (take i files) ++ cons_option o []) (sym adds)

pub still_adds : (files : List DeltaFile) (i : ℕ) (f : DeltaFile) (a : AddFile) → i < length files → f ≡ get_or files i f → Some a ≡ added f → are_mixed (take i files) ≡ false → are_mixed (take (i + 1) files) ≡ false
still_adds files i f a lt is adds all =
    ap are_mixed (front files i f lt is) ∙ list_any-append (λ f. is_none (added f)) (take i files) (f ∷ []) ∙ (λ j. all j || (ap is_none (sym adds) j || false))

or_one : (a b : Bool) → (a || (true || b)) ≡ true
or_one true b = refl
or_one false b = refl

-- a file that isn't an add
pub mixed_at : (files : List DeltaFile) (i : ℕ) (f : DeltaFile) → i < length files → f ≡ get_or files i f → None ≡ added f → adds_in files ≡ Err (none.Unsuited unsuited.NotAdd)
mixed_at files i f lt is none_added =
    let whole : take i files ++ f ∷ drop (i + 1) files ≡ files = ap (λ x. take i files ++ x ∷ drop (i + 1) files) is ∙ ap (λ l. take i files ++ l) (sym (drop_more files i f lt)) ∙ take-append-drop i files in
    let mixed : are_mixed (take i files ++ f ∷ drop (i + 1) files) ≡ true
    = list_any-append (λ f. is_none (added f)) (take i files) (f ∷ drop (i + 1) files)
    ∙ ap (λ o. are_mixed (take i files) || (is_none o || are_mixed (drop (i + 1) files))) (sym none_added) ∙ or_one (are_mixed (take i files)) (are_mixed (drop (i + 1) files)) in
    ap (λ b. cond b (Err (none.Unsuited unsuited.NotAdd)) (Ok (filter_map added files))) (subst (λ l. are_mixed l ≡ true) whole mixed)

pub adds_alone : (files : List DeltaFile) (adds : List AddFile) → adds ≡ filter_map added files → are_mixed files ≡ false → adds_in files ≡ Ok adds
adds_alone files adds is all = ap (λ b. cond b (Err (none.Unsuited unsuited.NotAdd)) (Ok (filter_map added files))) all ∙ ap Ok (sym is)
