use Rattle.std.proofs.Common.{ℕ, ◌+◌, ◌∙◌, ◌∷◌, [], ◌++◌, List, ap, sym, subst, arith}
use Rattle.std.proofs.lemmas.List.{length_push}
use Rattle.edge_core.specs.Objects.{Lacks}
use Rattle.edge_core.proofs.Growth.{Grows-itself}
use Rattle.catalog_log.specs.RecordNames.{record_name_of}
use Rattle.log_store.proofs.Growing.{looked_more}
use Rattle.share_book.specs.History.{entry, open_on}
use Rattle.share_book.specs.declared.entry.Entry.{Entry}
use Rattle.share_book.specs.declared.entry.Act.TheVariants.{Abort}
use Rattle.hub_catalog.proofs.Opening.{holds, no_opening, one_held, steps_held}
use Rattle.hub_catalog.proofs.Rounding.{steps_wider}
use Rattle.hub_catalog.proofs.open.read_book.Goals as goal

pub add_next-requires-clause-begun : goal.add_next-requires-clause-begun
add_next-requires-clause-begun g c = let i = c.loop-number.invariant in holds c.loop-number.book.past.history i.found.0 i.found.2

pub abort_in-requires-clause-begun : goal.abort_in-requires-clause-begun
abort_in-requires-clause-begun g c =
    let i = c.loop-number.invariant in
    let a = c.in-Absent.ensures.added in
    ap (open_on 0) a.0 ∙ holds c.loop-number.book.past.history i.found.0 i.found.2

pub loop-number-preserved : goal.loop-number-preserved
loop-number-preserved g c =
    let i = c.loop-number.invariant in
    let a = c.in-Found.ensures.added in
    let l = c.add_next.ensures.looked in
    record {
      rests = c.in-Found.ensures.rests;
      found = (i.found.0 ++ a.0 ∷ [], length_push i.found.0 a.0 ∙ ap (λ n. n + 1) i.found.1, one_held _ _ i.found.0 a.0 i.found.2 a.1, steps_held c.loop-number.number _ _ _ i.found.0 a.0 i.found.1 i.found.3 i.looked.grows l.grows a.2);
      looked = looked_more _ _ _ _ _ _ i.looked l;
      later = (let x = i.later in let y = c.add_next.ensures.cause.later in omega arith);
      stored = c.add_next.ensures.stored ∙ i.stored;
    }

pub returns-in-Absent-clause-read : goal.returns-in-Absent-clause-read
returns-in-Absent-clause-read g c =
    let i = c.loop-number.invariant in
    let a = c.in-Absent.ensures.added in (
      i.found.0,
      c.abort_in.ensures.added ∙ ap (λ (h : List Entry). h ++ entry 0 0 Abort ∷ []) (a.0 ∙ i.found.2),
      steps_wider _ _ _ _ 0 i.found.0 (Grows-itself _) c.add_next.ensures.looked.grows i.found.3,
      subst (λ (n : ℕ). Lacks (record_name_of n) (g.W.Store.objects c.add_next.new.store)) (sym i.found.1) a.1,
    )

pub returns-in-Failed-clause-read : goal.returns-in-Failed-clause-read
returns-in-Failed-clause-read g c =
    let i = c.loop-number.invariant in
    (i.found.0, steps_wider _ _ _ _ 0 i.found.0 (Grows-itself _) c.add_next.ensures.looked.grows i.found.3, no_opening c.in-Failed.refusal c.loop-number.number _ c.loop-number.book.past.history i.found.0 i.found.2 i.found.1 c.in-Failed.ensures.added)

pub returns-in-Absent-clause-looked : goal.returns-in-Absent-clause-looked
returns-in-Absent-clause-looked g c = looked_more _ _ _ _ _ _ c.loop-number.invariant.looked c.add_next.ensures.looked

pub returns-in-Failed-clause-looked : goal.returns-in-Failed-clause-looked
returns-in-Failed-clause-looked g c = looked_more _ _ _ _ _ _ c.loop-number.invariant.looked c.add_next.ensures.looked
