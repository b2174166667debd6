-- An offer that nothing is in the way of is committed.
use Rattle.std.proofs.Common.{◌≡◌, ◌⊎◌, inl, inr, ℕ, ◌^◌, ◌<◌, List, [], ◌∷◌, ◌++◌, length, Bool, true, false, cond, Option, Some, None, Result, Ok, Err, refl, sym, ap, ◌∙◌, subst, arith, codes, length-append, nat_cmp}
use Rattle.std.specs.Prelude.{IfOk, IfSome, IsSome}
use Rattle.std.specs.Option.{option_map}
use Rattle.std.specs.Ordering.{eq_by_cmp}
use Rattle.std.specs.Cmp.{nat_cmp_is}
use Rattle.std.specs.Cmp.Lexicographic.{slice_cmp}
use Rattle.std.specs.declared.cmp.Ordering.TheVariants.{Equal}
use Rattle.std.specs.FinMap as finmap
use Rattle.std.proofs.lemmas.Cmp.{nat_list_cmp_total}
use Rattle.std.proofs.lemmas.Slice.Eq.{bytes_eq-Decides}
use Rattle.std.proofs.lemmas.Map.Text.{is_eq-slice_cmp}
use Rattle.std.proofs.lemmas.List.{append-nil, append_cancel_left}
use Rattle.edge_core.specs.Faults.{Cause}
use Rattle.edge_core.specs.Objects.{Objects, with_object}
use Rattle.log_actions.specs.declared.actions.Action.{Action}
use Rattle.log_actions.specs.CommitTexts.{commit_text, printed_bytes}
use Rattle.log_commit.specs.Names.{commit_name, folder, segment_of}
use Rattle.log_commit.specs.Texts.{commit_in}
use Rattle.log_commit.proofs.Segments.{segment_order}
use Rattle.log_store.specs.Log.{cause_of, text_at}
use Rattle.commit_check.specs.Admission.{admitted}
use Rattle.commit_check.specs.declared.offer.Offer.{Offer}
use Rattle.share_book.specs.declared.entry.Act.{Act}
use Rattle.share_book.specs.Legal.{There}
use Rattle.share_book.specs.TableView.{TableLog}
use Rattle.share_book.specs.History.{table_on}
use Rattle.hub_calls.specs.Calls.{P}
use Rattle.hub_tables.specs.Commits.{CommitEnds, CommitLeaves, failed_commit}
use Rattle.hub_tables.specs.FoundCommits.{AreFound, IsUnkept}
use Rattle.hub_tables.specs.declared.commit.CommitRefusal.{CommitRefusal}
use Rattle.hub_tables.specs.declared.commit.CommitRefusal.TheVariants as refusal
use Rattle.share_hub.specs.Backing.{IsUnfailed}
use Rattle.share_hub.specs.TableLaws.{IsClear, OffersAreCommitted}

-- ---- names

tie_is : (p q : List ℕ) → eq_by_cmp (slice_cmp nat_cmp) p q ≡ true → p ≡ q
tie_is p q e = (bytes_eq-Decides p q).0 (sym (is_eq-slice_cmp p q) ∙ e)

other_by : (m : Objects) (name bytes q : List ℕ) → (q ≡ name → ⊥) → (b : Bool) → eq_by_cmp (slice_cmp nat_cmp) q name ≡ b → cond b (Some bytes) (finmap.get m q) ≡ finmap.get m q
other_by m name bytes q apart true e = absurd (apart (tie_is q name e))
other_by m name bytes q apart false e = refl

-- an object of another name leaves what was there
get_other : (m : Objects) (name bytes q : List ℕ) → (q ≡ name → ⊥) → finmap.get (finmap.insert m name bytes) q ≡ finmap.get m q
get_other m name bytes q apart = finmap.get-insert nat_list_cmp_total m name bytes q ∙ other_by m name bytes q apart (eq_by_cmp (slice_cmp nat_cmp) q name) refl

-- versions have names of their own
apart : (location : List ℕ) (u v : ℕ) → u < 10 ^ 20 → v < 10 ^ 20 → commit_name location u ≡ commit_name location v → u ≡ v
apart location u v lt less e =
    let same : segment_of u ≡ segment_of v = append_cancel_left (folder location ++ codes "/") (segment_of u) (segment_of v) e in
    let order : nat_cmp u v ≡ nat_cmp u u = sym (segment_order u v lt less) ∙ sym (ap (slice_cmp nat_cmp (segment_of u)) same) ∙ segment_order u u lt lt in
    finmap.nat_cmp-IsAntisymmetric u v (order ∙ sym (nat_cmp_is u u Equal refl))

-- ---- what a store that lacks the next version shows

module _ (location : List ℕ) where
  none_there : (os : Objects) (log : List (List Action)) (x : List Action) → finmap.get os (commit_name location (length log)) ≡ None → option_map commit_in (text_at location os (length log)) ≡ Some (Ok x) → ⊥
  none_there os log x absent is = let e : None ≡ Some (Ok x) = sym (ap (option_map commit_in) absent) ∙ is in cc

  first_of : (os : Objects) (new : Option Objects) (log xs : List (List Action)) (x : List Action) → new ≡ Some os → AreFound location new log (x ∷ xs) → option_map commit_in (text_at location os (length log)) ≡ Some (Ok x)
  first_of os new log xs x same a = subst (λ (o : Option Objects). IfSome o (λ os. option_map commit_in (text_at location os (length log)) ≡ Some (Ok x))) same a.0.1

  none_found : (old : Objects) (new : Option Objects) (log found : List (List Action)) → new ≡ Some old → finmap.get old (commit_name location (length log)) ≡ None → AreFound location new log found → found ≡ []
  none_found old new log [] same absent a = refl
  none_found old new log (x ∷ xs) same absent a = absurd (none_there old log x absent (first_of old new log xs x same a))

  longer : (log xs : List (List Action)) (x : List Action) → length (log ++ x ∷ xs) ≡ length log → ⊥
  longer log xs x e = omega (arith, e, length-append log (x ∷ xs))

  -- it was published as the next
  ok_next : (old : Objects) (new : Option Objects) (log found : List (List Action)) (v : ℕ) (bytes : List ℕ) → finmap.get old (commit_name location (length log)) ≡ None → AreFound location new log found → v < 2 ^ 64
      → v ≡ length (log ++ found) → new ≡ with_object (commit_name location v) bytes (Some old) → v ≡ length log
  ok_next old new log [] v bytes absent a small at is = at ∙ ap (λ (l : List (List Action)). length l) (append-nil log)
  ok_next old new log (x ∷ xs) v bytes absent a small at is =
      let more : Objects = finmap.insert old (commit_name location v) bytes in
      let long = length-append log (x ∷ xs) in
      let below : length log < 10 ^ 20 = omega (arith, at, long, small) in
      let less : v < 10 ^ 20 = omega (arith, small) in
      let other : finmap.get more (commit_name location (length log)) ≡ finmap.get old (commit_name location (length log)) =
      get_other old (commit_name location v) bytes (commit_name location (length log)) (λ e. longer log xs x (sym at ∙ sym (apart location (length log) v below less e))) in
      absurd (none_there more log x (other ∙ absent) (first_of more new log xs x is a))

  -- what is told of the log is told of it as the Begin found it
  at_begin : (old : Objects) (new : Option Objects) (log found : List (List Action)) → new ≡ Some old → finmap.get old (commit_name location (length log)) ≡ None → AreFound location new log found → log ++ found ≡ log
  at_begin old new log found same absent a = ap (λ (l : List (List Action)). log ++ l) (none_found old new log found same absent a) ∙ append-nil log

  no_text : (os : Objects) (log : List (List Action)) → finmap.get os (commit_name location (length log)) ≡ None → There (text_at location os (length log)) (λ bytes. IsSome (cause_of log bytes)) → ⊥
  no_text os log absent there = subst (λ (o : Option (List ℕ)). There o (λ bytes. IsSome (cause_of log bytes))) absent there

-- ---- the answer

-- the next version, or memory was wanting
abbrev Answered : Result ℕ CommitRefusal → Objects → Option Objects → TableLog → Type 0
Answered r old new t = (r ≡ Ok (length t.commits)) ⊎ ((r ≡ Err refusal.NoMemory) × (new ≡ Some old))

pub same_store : (x : CommitRefusal) (now : ℕ) (o : Offer) (old : Objects) (new : Option Objects) (is : Bool) (q : P) → failed_commit (Err x) ≡ false → CommitLeaves (Err x) now o (Some old) new true is q → new ≡ Some old
same_store x now o old new is q f (inl l) = l.1.same
same_store refusal.NotLoaded now o old new is q f (inr (j, at, l)) = l.same
same_store (refusal.Blocked n) now o old new is q f (inr (j, at, l)) = l.same
same_store refusal.Contended now o old new is q f (inr (j, at, l)) = l.same
same_store (refusal.Conflict c) now o old new is q f (inr (j, at, l)) = l.same
same_store refusal.Limit now o old new is q f (inr (j, at, l)) = l.same
same_store refusal.StoreFault now o old new is q f (inr (j, at, l)) = absurd cc
same_store refusal.NoMemory now o old new is q f (inr (j, at, l)) = l.same

module _ (now : ℕ) (o : Offer) (old : Objects) (new : Option Objects) (is : Bool) (q : P) (t : TableLog) (found : List (List Action)) (ends : List Act) (c : List Action) (clear : IsClear now o old t c) (a : AreFound o.location new t.commits found) where
  kept : (x : CommitRefusal) → failed_commit (Err x) ≡ false → CommitLeaves (Err x) now o (Some old) new true is q → t.commits ++ found ≡ t.commits
  kept x f l = at_begin o.location old new t.commits found (same_store x now o old new is q f l) clear.absent a

  answered : (r : Result ℕ CommitRefusal) (faults later : ℕ) → CommitEnds r now o (Some old) new t.block (t.commits ++ found) (length found) ends → IfOk r (λ v. v < 2 ^ 64) → CommitLeaves r now o (Some old) new true is q
      → Cause faults later (failed_commit r) → IsUnfailed faults later → Answered r old new t
  answered (Ok v) faults later told small (inl l) cause stays = absurd (let e = l.0 in cc)
  answered (Ok v) faults later told small (inr (j, at, l)) cause stays = inl (ap (λ (n : ℕ). Ok n) (ok_next o.location old new t.commits found v (commit_text l.0) clear.absent a small told.0 l.2.one.1))
  answered (Err refusal.NotLoaded) faults later told small l cause stays = absurd told
  answered (Err (refusal.Blocked n)) faults later (inl told) small l cause stays = absurd (let e : None ≡ Some n = sym clear.free ∙ told.0 in cc)
  answered (Err (refusal.Blocked n)) faults later (inr told) small l cause stays =
      let same = kept (refusal.Blocked n) refl l in
      let store = same_store (refusal.Blocked n) now o old new is q refl l in
      absurd (no_text o.location old t.commits clear.absent (subst (λ (os : Option Objects). IsUnkept o.location os t.commits) store (subst (λ (cs : List (List Action)). IsUnkept o.location new cs) same told.1)))
  answered (Err refusal.Contended) faults later told small l cause stays =
      let none = none_found o.location old new t.commits found (same_store refusal.Contended now o old new is q refl l) clear.absent a in
      absurd (omega (arith, told.0, ap (λ (cs : List (List Action)). length cs) none))
  answered (Err (refusal.Conflict k)) faults later told small l cause stays =
      absurd (let e : Ok c ≡ Err k = sym clear.admitted ∙ ap (λ (cs : List (List Action)). admitted cs now o) (sym (kept (refusal.Conflict k) refl l)) ∙ told.1 in cc)
  answered (Err refusal.Limit) faults later told small l cause stays =
      let same = kept refusal.Limit refl l in
      let d : List Action = told.1.0 in
      let e : Ok d ≡ Ok c = sym told.1.1 ∙ ap (λ (cs : List (List Action)). admitted cs now o) same ∙ clear.admitted in
      let one : d ≡ c = cc in
      let bytes : printed_bytes ((t.commits ++ found) ++ d ∷ []) ≡ printed_bytes (t.commits ++ c ∷ []) = (λ i. printed_bytes (same i ++ one i ∷ [])) in
      absurd (omega (arith, told.1.2, bytes, clear.fits))
  answered (Err refusal.StoreFault) faults later told small l cause stays = absurd (omega (arith, cause.rose, stays.0, stays.1))
  answered (Err refusal.NoMemory) faults later told small l cause stays = inr (refl, same_store refusal.NoMemory now o old new is q refl l)

there_or : (r : Result ℕ CommitRefusal) (now : ℕ) (o : Offer) (old : Objects) (new : Option Objects) (is : Bool) (q : P) (found : List (List Action)) (ends : List Act) (faults later : ℕ) (b : Option TableLog)
    → There b (λ t. (c : List Action) × IsClear now o old t c) → There b (λ t. AreFound o.location new t.commits found) → There b (λ t. CommitEnds r now o (Some old) new t.block (t.commits ++ found) (length found) ends)
    → IfOk r (λ v. v < 2 ^ 64) → CommitLeaves r now o (Some old) new true is q → Cause faults later (failed_commit r) → IsUnfailed faults later
    → There b (λ t. r ≡ Ok (length t.commits)) ⊎ ((r ≡ Err refusal.NoMemory) × (new ≡ Some old))
there_or r now o old new is q found ends faults later None clear a told small l cause stays = absurd clear
there_or r now o old new is q found ends faults later (Some t) clear a told small l cause stays = answered now o old new is q t found ends clear.0 clear.1 a r faults later told small l cause stays

pub offers : OffersAreCommitted
offers r now o old new is p q j faults later ran clear small l cause stays =
    there_or r now o old new is q ran.found ran.ends faults later (table_on j ran.ran.from) clear ran.ran.stored ran.told small l cause stays
