-- What a commit leaves in the store.
use Rattle.std.proofs.Common.{◌≡◌, ◌⊎◌, ℕ, List, [], ◌∷◌, ◌++◌, Bool, true, Option, Some, None, Result, Ok, Err, IfSome, option_map, sym, ap, ◌∙◌, subst, inl, inr}
use Rattle.std.specs.Bool.{OnTrue}
use Rattle.std.specs.FinMap as finmap
use Rattle.edge_core.specs.Objects.{Fails, Grows, Lacks, Objects, Stores}
use Rattle.edge_core.proofs.Growth.{Grows-itself, Grows-on}
use Rattle.log_actions.specs.declared.actions.Action.{Action}
use Rattle.log_actions.specs.CommitTexts.{commit_text}
use Rattle.log_commit.specs.Names.{commit_name}
use Rattle.log_commit.specs.Texts.{commit_in}
use Rattle.log_store.specs.Backed.{HasCommit, WasPut}
use Rattle.log_store.specs.Loads.{Looked}
use Rattle.log_store.proofs.Growing.{looked_more}
use Rattle.commit_check.specs.Admission.{admitted}
use Rattle.commit_check.specs.declared.offer.Offer.{Offer}
use Rattle.share_book.specs.declared.entry.Act.TheVariants.{Own, Abort}
use Rattle.share_book.specs.TableView.{TableLog}
use Rattle.share_book.specs.History.{entry, table_on}
use Rattle.share_book.specs.Legal.{There}
use Rattle.share_book.proofs.Bookkeeping.{there_from}
use Rattle.hub_tables.specs.declared.commit.CommitRefusal.{CommitRefusal}
use Rattle.hub_tables.specs.declared.commit.CommitRefusal.TheVariants as refusal
use Rattle.hub_tables.specs.declared.table_rounds.LogHead.{LogHead}
use Rattle.hub_tables.specs.declared.table_turns.KnownLog.{KnownLog}
use Rattle.hub_tables.specs.Additions.{AtMost, IsOneMore, Places}
use Rattle.hub_calls.specs.Calls.{IsIdle, P}
use Rattle.hub_tables.specs.Commits.{CommitLeaves, CommitLeft, HasNext}
use Rattle.hub_tables.specs.CommitRounds.{RoundLeft}
use Rattle.hub_tables.specs.TableCalls.{StopsOn}
use Rattle.hub_tables.specs.TableRounds.{HoldsHead}
use Rattle.hub_tables.specs.TableTurns.{FindsLog}
use Rattle.hub_tables.proofs.LogSteps.{table_stopped}
use Rattle.hub_tables.proofs.RefreshSteps.{log_at_later, versions_at}
use Rattle.hub_calls.proofs.Alone.{on_after, on_both, on_map, stays_more}
use Rattle.hub_tables.proofs.TablePasses.{with_none}

-- ---- one put

pub placed_at : (old new : Option Objects) (was is : Bool) (name name' bytes bytes' text : List ℕ) → name ≡ name' → bytes ≡ bytes' → bytes' ≡ text → Stores old new was name bytes → OnTrue was (is ≡ true) → Places old new was is name' text
placed_at old new was is name name' bytes bytes' text qn qb qt s t =
    let s' : Stores old new was name' text = subst (λ (x : List ℕ). Stores old new was name' x) (qb ∙ qt) (subst (λ (x : List ℕ). Stores old new was x bytes) qn s) in
    record { grows = s'.grows; there = s'.there; put = record { before = old; after = new; from = Grows-itself old; absent = s'.absent; there = s'.there; to = Grows-itself new }; one = on_both was (Lacks name' old) _ s'.absent s'.only; stays = t }

pub perhaps_at : (old new : Option Objects) (was is : Bool) (name name' bytes bytes' text : List ℕ) → name ≡ name' → bytes ≡ bytes' → bytes' ≡ text → Fails old new was name bytes → OnTrue was (is ≡ true) → AtMost old new was is (IsOneMore old new name' text)
perhaps_at old new was is name name' bytes bytes' text qn qb qt s t =
    let s' : Fails old new was name' text = subst (λ (x : List ℕ). Fails old new was name' x) (qb ∙ qt) (subst (λ (x : List ℕ). Fails old new was x bytes) qn s) in
    record { grows = s'.grows; one = s'.only; stays = t }

-- ---- one after another

put_after : (old mid new : Option Objects) (name text : List ℕ) → Grows old mid → WasPut mid new name text → WasPut old new name text
put_after old mid new name text g p = record { before = p.before; after = p.after; from = Grows-on old mid p.before g p.from; absent = p.absent; there = p.there; to = p.to }

-- a look that stores nothing, and then a call that stores one object
places_after : (old mid new : Option Objects) (a b c : Bool) (name text : List ℕ) → Looked old mid a b → Places mid new b c name text → Places old new a c name text
places_after old mid new a b c name text l s = record {
  grows = Grows-on old mid new l.grows s.grows;
  there = s.there;
  put = put_after old mid new name text l.grows s.put;
  one = on_after a b (mid ≡ old) (IsOneMore mid new name text) (IsOneMore old new name text) (λ v w. subst (λ (o : Option Objects). IsOneMore o new name text) v w) l.stays l.same s.one;
  stays = stays_more a b c l.stays s.stays;
}

most_after : (More : Option Objects → Type 0) (old mid new : Option Objects) (a b c : Bool) → Looked old mid a b → AtMost mid new b c (More mid) → AtMost old new a c (More old)
most_after More old mid new a b c l s = record {
  grows = Grows-on old mid new l.grows s.grows;
  one = on_after a b (mid ≡ old) ((new ≡ mid) ⊎ More mid) ((new ≡ old) ⊎ More old) (λ v w. subst (λ (o : Option Objects). (new ≡ o) ⊎ More o) v w) l.stays l.same s.one;
  stays = stays_more a b c l.stays s.stays;
}

pub looked_left : (x : CommitRefusal) (now : ℕ) (o : Offer) (j : ℕ) (old new : Option Objects) (was is : Bool) (q : P) → Looked old new was is → CommitLeft (Err x) now o j old new was is q
looked_left refusal.NotLoaded now o j old new was is q l = l
looked_left (refusal.Blocked n) now o j old new was is q l = l
looked_left refusal.Contended now o j old new was is q l = l
looked_left (refusal.Conflict c) now o j old new was is q l = l
looked_left refusal.Limit now o j old new was is q l = l
looked_left refusal.StoreFault now o j old new was is q l =
    record { grows = l.grows; one = on_map was (new ≡ old) ((new ≡ old) ⊎ There (table_on j q.seen) (λ t. HasNext now o old new t.commits)) (λ w. inl w) l.same; stays = l.stays }
looked_left refusal.NoMemory now o j old new was is q l = l

pub ended_left : (r : Option (Result ℕ CommitRefusal)) (x : CommitRefusal) (now : ℕ) (o : Offer) (j : ℕ) (old new : Option Objects) (was is : Bool) (q : P) → r ≡ Some (Err x) → Looked old new was is → RoundLeft r now o j old new was is q
ended_left r x now o j old new was is q e l = subst (λ (y : Option (Result ℕ CommitRefusal)). RoundLeft y now o j old new was is q) (sym e) (looked_left x now o j old new was is q l)

pub left_after : (r : Result ℕ CommitRefusal) (now : ℕ) (o : Offer) (j : ℕ) (old mid new : Option Objects) (a b c : Bool) (q : P) → Looked old mid a b → CommitLeft r now o j mid new b c q → CommitLeft r now o j old new a c q
left_after (Ok v) now o j old mid new a b c q l w = (w.0, w.1, places_after old mid new a b c (commit_name o.location v) (commit_text w.0) l w.2, w.3)
left_after (Err refusal.NotLoaded) now o j old mid new a b c q l w = looked_more old mid new a b c l w
left_after (Err (refusal.Blocked n)) now o j old mid new a b c q l w = looked_more old mid new a b c l w
left_after (Err refusal.Contended) now o j old mid new a b c q l w = looked_more old mid new a b c l w
left_after (Err (refusal.Conflict x)) now o j old mid new a b c q l w = looked_more old mid new a b c l w
left_after (Err refusal.Limit) now o j old mid new a b c q l w = looked_more old mid new a b c l w
left_after (Err refusal.StoreFault) now o j old mid new a b c q l w = most_after (λ (x : Option Objects). There (table_on j q.seen) (λ t. HasNext now o x new t.commits)) old mid new a b c l w
left_after (Err refusal.NoMemory) now o j old mid new a b c q l w = looked_more old mid new a b c l w

pub round_left : (r : Option (Result ℕ CommitRefusal)) (now : ℕ) (o : Offer) (j : ℕ) (old mid new : Option Objects) (a b c : Bool) (q : P) → Looked old mid a b → RoundLeft r now o j mid new b c q → RoundLeft r now o j old new a c q
round_left None now o j old mid new a b c q l w = looked_more old mid new a b c l w
round_left (Some r) now o j old mid new a b c q l w = left_after r now o j old mid new a b c q l w

pub left_grows : (r : Result ℕ CommitRefusal) (now : ℕ) (o : Offer) (j : ℕ) (old new : Option Objects) (was is : Bool) (q : P) → CommitLeft r now o j old new was is q → Grows old new
left_grows (Ok v) now o j old new was is q w = w.2.grows
left_grows (Err refusal.NotLoaded) now o j old new was is q w = w.grows
left_grows (Err (refusal.Blocked n)) now o j old new was is q w = w.grows
left_grows (Err refusal.Contended) now o j old new was is q w = w.grows
left_grows (Err (refusal.Conflict c)) now o j old new was is q w = w.grows
left_grows (Err refusal.Limit) now o j old new was is q w = w.grows
left_grows (Err refusal.StoreFault) now o j old new was is q w = w.grows
left_grows (Err refusal.NoMemory) now o j old new was is q w = w.grows

-- ---- the caller's own commit

-- a text that is read as its commit, under a version's name
has_commit : (location : List ℕ) (new : Option Objects) (version : ℕ) (c : List Action) → commit_in (commit_text c) ≡ Ok c → IfSome new (λ os. finmap.get os (commit_name location version) ≡ Some (commit_text c)) → HasCommit location new version c
has_commit location None version c back there = tt
has_commit location (Some os) version c back there = ap (option_map commit_in) there ∙ ap (λ r. Some r) back

pub own_left : (now : ℕ) (o : Offer) (j : ℕ) (h : LogHead) (version : ℕ) (old new : Option Objects) (was is : Bool) (s q : P) (c : List Action) → version ≡ h.support.versions → q.number ≡ s.number → StopsOn s q j [] (Own c ∷ []) × (commit_in (commit_text c) ≡ Ok c) → Places old new was is (commit_name o.location h.support.versions) (commit_text c)
    → CommitLeft (Ok version) now o j old new was is q
own_left now o j h version old new was is s q c v n (st, back) w =
    let placed : Places old new was is (commit_name o.location version) (commit_text c) = subst (λ (m : ℕ). Places old new was is (commit_name o.location m) (commit_text c)) (sym v) w in (
      c,
      (st.before, st.last ∙ ap (λ (k : ℕ). st.before ++ entry k j (Own c) ∷ []) (sym n)),
      placed,
      has_commit o.location new version c back placed.there,
    )

pub fault_left : (now : ℕ) (o : Offer) (j : ℕ) (h : LogHead) (old new : Option Objects) (was is : Bool) (s q : P) (c : List Action) → (x : HoldsHead s j h) → There (table_on j s.seen) (λ t. admitted t.commits now o ≡ Ok c) → StopsOn s q j [] (Abort ∷ [])
    → AtMost old new was is (IsOneMore old new (commit_name o.location h.support.versions) (commit_text c)) → CommitLeft (Err refusal.StoreFault) now o j old new was is q
fault_left now o j h old new was is s q c x a st w =
    let last : table_on j q.seen ≡ Some x.log = table_stopped s q j [] st ∙ (sym (with_none (table_on j s.seen)) ∙ x.holds.table) in
    let ok : admitted x.log.commits now o ≡ Ok c = subst (λ (y : Option TableLog). There y (λ t. admitted t.commits now o ≡ Ok c)) x.holds.table a in
    let next : IsOneMore old new (commit_name o.location h.support.versions) (commit_text c) → There (table_on j q.seen) (λ t. HasNext now o old new t.commits) =
    λ m. there_from (table_on j q.seen) x.log (λ t. HasNext now o old new t.commits) last (c, ok, subst (λ (k : ℕ). IsOneMore old new (commit_name o.location k) (commit_text c)) (versions_at s j h x) m) in
    record {
      grows = w.grows;
      one = on_map was ((new ≡ old) ⊎ IsOneMore old new (commit_name o.location h.support.versions) (commit_text c)) ((new ≡ old) ⊎ There (table_on j q.seen) (λ t. HasNext now o old new t.commits))
          (λ (m : (new ≡ old) ⊎ IsOneMore old new (commit_name o.location h.support.versions) (commit_text c)). elim m [ inl e ↦ inl e | inr e ↦ inr (next e) ]) w.one;
      stays = w.stays;
    }

-- ---- the whole call

pub leaves_on : (r : Result ℕ CommitRefusal) (now : ℕ) (o : Offer) (old new : Option Objects) (was is : Bool) (l : KnownLog) (q s : P) → IsIdle q s → FindsLog (Some l) o.location q.seen → CommitLeft r now o l.log old new was is s → CommitLeaves r now o old new was is s
leaves_on r now o old new was is l q s i f w = inr (l.log, log_at_later q.seen s.seen o.location l.log i.seen f.0, w)
