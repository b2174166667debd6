-- The lines of a version under a predicate.
use Rattle.std.proofs.Common.{◌≡◌, ℕ, ◌+◌, List, [], ◌∷◌, ◌++◌, map, take, Option, Some, None, Result, Ok, Err, Vec, Global, Bool, refl, sym, ap, ◌∙◌, subst, flat_map}
use Rattle.std.specs.Prelude.{IfOk, filter}
use Rattle.std.specs.Arc.{arc_value}
use Rattle.std.specs.declared.sync.Arc.{Arc}
use Rattle.log_actions.specs.declared.actions.Action.{Action}
use Rattle.log_replay.specs.State.{State, state_of}
use Rattle.log_replay.specs.declared.times.Unresolved.{Unresolved}
use Rattle.pred_tree.specs.Listing.{IsFilter, lists, passes, pred_by}
use Rattle.pred_tree.specs.declared.filter.Filter.{Filter}
use Rattle.edge_core.specs.Objects.{Objects, Between}
use Rattle.log_store.specs.Log.{log_in}
use Rattle.log_store.specs.declared.loaded.Loaded.{Loaded}
use Rattle.share_lines.specs.Lines.{file_line, meta_line, protocol_line}
use Rattle.query_body.specs.declared.query.QueryBody.{QueryBody}
use Rattle.std.proofs.lemmas.List.{take-map}
use Rattle.std.specs.declared.alloc.AllocError.{AllocError}
use Rattle.query_command.specs.Table.{lines_at, lines_in, lines_of_log, lines_of_state, state_lines}
use Rattle.query_command.specs.TableSteps.{IsLog}
use Rattle.query_command.specs.declared.table.LinesFault.{LinesFault}

-- files that pass one test are those that pass another which tells the same
filter_same : {X : Type 0} (p q : X → Bool) (xs : List X) → ((x : X) → p x ≡ q x) → filter p xs ≡ filter q xs
filter_same p q [] same = refl
filter_same p q (x ∷ xs) same = rw (same x, filter_same p q xs same) refl

-- a text by another name
text_is : (text : List ℕ) (wanted : List ℕ) (result : Result (Vec ℕ Global) (AllocError)) → text ≡ wanted → IfOk result (λ t. t.items ≡ text) → IfOk result (λ t. t.items ≡ wanted)
text_is text wanted (Ok t) same is = is ∙ same
text_is text wanted (Err e) same is = tt

-- the lines of a state under its filter
pub state_lines_by : (hint : Option (List ℕ)) (state : State) (listing : Filter) (result : Result (Vec ℕ Global) AllocError) → IsFilter (pred_by hint) state.meta listing
    → IfOk result (λ t. t.items ≡ protocol_line ++ meta_line state.meta ++ flat_map file_line (filter (passes listing) state.files)) → IfOk result (λ t. t.items ≡ state_lines hint state)
state_lines_by hint state listing result is lines =
    text_is _ (state_lines hint state) result (ap (λ files. protocol_line ++ meta_line state.meta ++ flat_map file_line files) (filter_same (passes listing) (lists (pred_by hint) state.meta) state.files is)) lines

-- the lines at the version that is meant
pub at_version : (hint : Option (List ℕ)) (commits front : List (Arc (List Action) Global)) (meant : Result ℕ Unresolved) (version : ℕ) (result : Result (Vec ℕ Global) LinesFault) → meant ≡ Ok version → front ≡ take (version + 1) commits
    → IsLog (lines_of_state hint (state_of (map arc_value front))) result → IsLog (lines_at hint (map arc_value commits) meant) result
at_version hint commits front meant version result is part lines =
    let same : lines_of_state hint (state_of (map arc_value front)) ≡ lines_at hint (map arc_value commits) meant =
    ap (λ f. lines_of_state hint (state_of f)) (ap (map arc_value) part ∙ sym (take-map arc_value (version + 1) commits)) ∙ ap (lines_at hint (map arc_value commits)) (sym is) in
    subst (λ said. IsLog said result) same lines

-- the lines of the log that was loaded are those of the objects at that moment
pub of_loaded : (old new : Option Objects) (location : List ℕ) (query : QueryBody) (log : Loaded) (result : Result (Vec ℕ Global) LinesFault) → Between old new (λ os. log ≡ log_in location os) → IsLog (lines_of_log query log) result
    → Between old new (λ os. IsLog (lines_in location query os) result)
of_loaded old new location query log result (None, begun, ended, is) lines = (None, begun, ended, tt)
of_loaded old new location query log result (Some os, begun, ended, is) lines = (Some os, begun, ended, subst (λ l. IsLog (lines_of_log query l) result) is lines)
