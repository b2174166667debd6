-- An edit that nothing is in the way of is recorded, and no name is put twice.
use Rattle.std.proofs.Common.{◌≡◌, ◌⊎◌, inl, inr, ℕ, ◌+◌, ◌^◌, ◌<◌, ◌≤◌, List, [], ◌∷◌, ◌++◌, length, map, Bool, true, false, cond, Option, Some, None, Result, Ok, Err, IfSome, option_map, true≢false, nat_cmp, sym, refl, ap, ◌∙◌, subst, arith, length-append}
use Rattle.std.specs.Prelude.{IfOk}
use Rattle.std.specs.Ordering.{is_eq}
use Rattle.std.specs.Cmp.{nat_cmp_is}
use Rattle.std.specs.Cmp.Lexicographic.{slice_cmp}
use Rattle.std.specs.declared.cmp.Ordering.{Ordering}
use Rattle.std.specs.declared.cmp.Ordering.TheVariants.{Less}
use Rattle.std.specs.FinMap as finmap
use Rattle.std.proofs.lemmas.Cmp.{nat_list_cmp_total}
use Rattle.std.proofs.lemmas.List.{append-nil, length-map, same_from_push}
use Rattle.edge_core.specs.Faults.{Cause}
use Rattle.edge_core.specs.Objects.{Grows, Lacks, Objects, with_object}
use Rattle.edge_core.proofs.Growth.{Grows-on, Grows-stays}
use Rattle.log_commit.proofs.Segments.{segment_order}
use Rattle.catalog_log.specs.Printing.{record_text}
use Rattle.catalog_log.specs.RecordNames.{record_name_of}
use Rattle.catalog_log.specs.declared.fault.RecordFault.{RecordFault}
use Rattle.share_catalog.specs.declared.edit.Edit.{Edit}
use Rattle.share_catalog.specs.declared.edit.EditRefusal.{EditRefusal}
use Rattle.share_catalog.specs.Catalogue.{refusal_of}
use Rattle.share_book.specs.declared.entry.Entry.{Entry}
use Rattle.share_book.specs.declared.entry.Act.{Act}
use Rattle.share_book.specs.declared.entry.Act.TheVariants.{Abort, OwnEdit}
use Rattle.share_book.specs.declared.entry.LogStart.{LogStart}
use Rattle.share_book.specs.Legal.{There}
use Rattle.share_book.specs.History.{edits, entry}
use Rattle.hub_calls.specs.Calls.{P}
use Rattle.hub_catalog.specs.CatalogCalls.{Step, edit_in}
use Rattle.hub_catalog.specs.Edits.{AreSteps, Blocks, Edits, IsNotTaken, LastIs, Leaves, Ran, failed_edit}
use Rattle.hub_catalog.specs.Records.{HasRecord, record_at, stored_record}
use Rattle.hub_catalog.specs.declared.edit.EditEnd.{EditEnd}
use Rattle.hub_catalog.specs.declared.edit.EditEnd.TheVariants as end
use Rattle.share_hub.specs.Backing.{IsUnfailed}
use Rattle.share_hub.specs.CatalogLaws.{EditsAreRecorded, IsBegunAfter, IsClearEdit, NamesArePutOnce, NumbersAreGivenOnce}

-- ---- the next record

none_there : (os : Objects) (n : ℕ) (e : Edit) → finmap.get os (record_name_of n) ≡ None → record_at os n ≡ Some (Ok e) → ⊥
none_there os n e absent is = let c : None ≡ Some (Ok e) = sym (ap (option_map stored_record) absent) ∙ is in cc

none_found : (before : Option Objects) (old : Objects) (new : Option Objects) (n : ℕ) (found : List Step) → new ≡ Some old → finmap.get old (record_name_of n) ≡ None → AreSteps before new n found → found ≡ []
none_found before old new n [] same absent w = refl
none_found before old new n (x ∷ xs) same absent w = absurd (none_there old n x.edit absent (subst (λ (o : Option Objects). HasRecord o n x.edit) same w.0.0))

-- the record of a number leaves what was there under a lower one
lower_stays : (os : Objects) (m n : ℕ) (bytes : List ℕ) → m < n → n < 2 ^ 64 → finmap.get (finmap.insert os (record_name_of n) bytes) (record_name_of m) ≡ finmap.get os (record_name_of m)
lower_stays os m n bytes low small =
    let order : slice_cmp nat_cmp (record_name_of m) (record_name_of n) ≡ Less = segment_order m n (omega (arith, low, small)) (omega (arith, small)) ∙ sym (nat_cmp_is m n Less low) in
    finmap.get-insert nat_list_cmp_total os (record_name_of n) bytes (record_name_of m) ∙ ap (λ (o : Ordering). cond (is_eq o) (Some bytes) (finmap.get os (record_name_of m))) order

-- what was put is the next record, since nothing was found before it
put_next : (before : Option Objects) (old : Objects) (new : Option Objects) (m n : ℕ) (bytes : List ℕ) (found : List Step) → finmap.get old (record_name_of m) ≡ None → AreSteps before new m found → n < 2 ^ 64 → n ≡ m + length found
    → new ≡ with_object (record_name_of n) bytes (Some old) → n ≡ m
put_next before old new m n bytes [] absent w small at is = omega (arith, at)
put_next before old new m n bytes (x ∷ xs) absent w small at is =
    absurd (none_there (finmap.insert old (record_name_of n) bytes) m x.edit (lower_stays old m n bytes (omega (arith, at)) small ∙ absent) (subst (λ (o : Option Objects). HasRecord o m x.edit) is w.0.0))

-- ---- the answer

no_record : (os : Objects) (n : ℕ) (es : List Edit) → finmap.get os (record_name_of n) ≡ None → There (record_at os n) (IsNotTaken es) → ⊥
no_record os n es absent there = subst (λ (o : Option (Result Edit RecordFault)). There o (IsNotTaken es)) (ap (option_map stored_record) absent) there

module _ (e : Edit) (old : Objects) (new : Option Objects) (p q : P) (clear : (from : List Entry) → IsBegunAfter p q from → IsClearEdit e old (edits from)) where
  module _ (found : List Step) (l : Option LogStart) (a : Act) (ran : Ran (Some old) new p q found l a) where
    begun : IsBegunAfter p q ran.from
    begun = record { after = ran.after; begun = ran.begun }

    absent : finmap.get old (record_name_of (length (edits ran.from))) ≡ None
    absent = (clear ran.from begun).absent

    free : refusal_of (edits ran.from) e ≡ None
    free = (clear ran.from begun).free

    -- what is told of the edits before the last act
    told_before : (Q : List Edit → Type 0) → LastIs q a Q → Q (edits ran.from ++ map edit_in found)
    told_before Q last =
        let same = same_from_push last.before ran.before (entry q.number 0 a) (entry p.number 0 a) (sym last.last ∙ ran.last) in
        subst Q (ap edits same.0 ∙ ran.edits) last.told

    none_more : new ≡ Some old → found ≡ []
    none_more same = none_found (Some old) old new (length (edits ran.from)) found same absent ran.steps

    told_begun : (Q : List Edit → Type 0) → new ≡ Some old → LastIs q a Q → Q (edits ran.from)
    told_begun Q same last = subst Q (ap (λ (xs : List Step). edits ran.from ++ map edit_in xs) (none_more same) ∙ append-nil (edits ran.from)) (told_before Q last)

    -- it is the next number
    next_number : (n : ℕ) (bytes : List ℕ) → n < 2 ^ 64 → LastIs q a (λ es. n ≡ length es) → new ≡ with_object (record_name_of n) bytes (Some old) → n ≡ length (edits ran.from)
    next_number n bytes small last is =
        let all : n ≡ length (edits ran.from ++ map edit_in found) = told_before (λ es. n ≡ length es) last in
        let long = length-append (edits ran.from) (map edit_in found) in
        let each = length-map found edit_in in
        put_next (Some old) old new (length (edits ran.from)) n bytes found absent ran.steps small (omega (arith, all, long, each)) is

    not_blocked : (n : ℕ) → new ≡ Some old → LastIs q a (λ es. (n ≡ length es) × Blocks new n es) → ⊥
    not_blocked n same last =
        let told = told_begun (λ es. (n ≡ length es) × Blocks new n es) same last in
        no_record old n (edits ran.from) (ap (λ (m : ℕ). finmap.get old (record_name_of m)) told.0 ∙ absent) (subst (λ (o : Option Objects). Blocks o n (edits ran.from)) same told.1)

    not_refused : (r : EditRefusal) → new ≡ Some old → LastIs q a (λ es. (refusal_of es e ≡ Some r) × Lacks (record_name_of (length es)) (Some old)) → ⊥
    not_refused r same last =
        let told = told_begun (λ es. (refusal_of es e ≡ Some r) × Lacks (record_name_of (length es)) (Some old)) same last in
        let c : None ≡ Some r = sym free ∙ told.0 in
        cc

    not_contended : new ≡ Some old → length found ≡ 64 → ⊥
    not_contended same many = let none = ap (λ (xs : List Step). length xs) (none_more same) in absurd (omega (arith, many, none))

  -- the next number, or memory was wanting
  abbrev Answered : Result ℕ EditEnd → Type 0
  Answered r = ((from : List Entry) × IsBegunAfter p q from × (r ≡ Ok (length (edits from)))) ⊎ ((r ≡ Err end.NoMemory) × (new ≡ Some old))

  answered : (r : Result ℕ EditEnd) (is : Bool) (faults later : ℕ) → IfOk r (λ n. n < 2 ^ 64) → Edits r e (Some old) new p q → Leaves r e (Some old) new true is q → Cause faults later (failed_edit r) → IsUnfailed faults later → Answered r
  answered (Ok n) is faults later small w l cause none =
      inl (w.2.from, begun w.0 w.1 (OwnEdit e) w.2, ap (λ (m : ℕ). Ok m) (next_number w.0 w.1 (OwnEdit e) w.2 n (record_text e) small w.4 l.one.1))
  answered (Err (end.CatalogBlocked n)) is faults later small w l cause none = absurd (not_blocked w.0 None Abort w.1 n l.same w.2.0)
  answered (Err end.Contended) is faults later small w l cause none = absurd (not_contended w.0 None Abort w.1 l.same w.2)
  answered (Err (end.Refused r)) is faults later small w l cause none = absurd (not_refused w.0 None Abort w.1 r l.same w.2.0)
  answered (Err end.StoreFault) is faults later small w l cause none = absurd (omega (arith, cause.rose, none.0, none.1))
  answered (Err end.NoMemory) is faults later small w l cause none = inr (refl, l.same)

pub recorded : EditsAreRecorded
recorded r e old new is p q faults later clear small w l cause none = answered e old new p q clear r is faults later small w l cause none

-- ---- what is put once

clash : (c : Objects) (o : Option Objects) (name bytes : List ℕ) → Grows (Some c) o → IfSome o (λ os. finmap.get os name ≡ Some bytes) → IfSome o (λ os. finmap.get os name ≡ None) → ⊥
clash c None name bytes grows is none = true≢false grows
clash c (Some os) name bytes grows is none = let e : Some bytes ≡ None = sym is ∙ none in cc

pub names_once : NamesArePutOnce
names_once a c b d name bytes others first second (inl grows) = clash c second.before name bytes second.from (Grows-stays first.after second.before name bytes grows first.there) second.absent
names_once a c b d name bytes others first second (inr grows) = clash a first.before name others first.from (Grows-stays second.after first.before name others grows second.there) first.absent

pub numbers_once : NumbersAreGivenOnce
numbers_once n e f a c b d was is will are q s one other grows =
    names_once a c b d (record_name_of n) (record_text e) (record_text f) one.put other.put
    (inl (Grows-on one.put.after b other.put.before one.put.to (Grows-on b (Some c) other.put.before grows other.put.from)))
