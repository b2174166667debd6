-- What a commit's call leaves in a store that nobody else writes.
use Rattle.std.proofs.Common.{◌≡◌, ◌⊎◌, inl, inr, ℕ, ◌+◌, List, [], ◌∷◌, ◌++◌, length, Bool, Option, Some, None, Ok, Err, sym, refl, ap, ◌∙◌, subst, length-append, true≢false, IfSome}
use Rattle.std.specs.Option.{option_map}
use Rattle.std.specs.FinMap as finmap
use Rattle.edge_core.specs.Objects.{Grows, Lacks, Objects}
use Rattle.edge_core.proofs.Growth.{Grows-on, Grows-stays}
use Rattle.log_actions.specs.declared.actions.Action.{Action}
use Rattle.log_actions.specs.CommitTexts.{commit_text}
use Rattle.log_commit.specs.Names.{commit_name}
use Rattle.log_store.specs.Backed.{WasPut}
use Rattle.commit_check.specs.declared.offer.Offer.{Offer}
use Rattle.share_book.specs.declared.entry.Entry.{Entry}
use Rattle.share_book.specs.declared.entry.Act.{Act}
use Rattle.share_book.specs.declared.entry.Act.TheVariants.{Own}
use Rattle.share_book.specs.History.{entry, table_on}
use Rattle.share_book.specs.Legal.{There}
use Rattle.share_book.specs.TableView.{TableLog}
use Rattle.share_book.proofs.Bookkeeping.{there_from}
use Rattle.hub_calls.specs.Calls.{P}
use Rattle.hub_tables.specs.Additions.{IsOneMore}
use Rattle.hub_tables.specs.Commits.{CommitEnds, Commits, HasNext}
use Rattle.hub_tables.specs.TableCalls.{acts_on, with_commits}
use Rattle.hub_tables.specs.declared.commit.CommitRefusal.TheVariants as refusal
use Rattle.share_hub.specs.TableLaws.{CommitsPutOne, IsNextMore, VersionsAreGivenOnce}
use Rattle.share_hub.proofs.TableStanding.{table_owned}

-- the log has this as its last version, or as the one after it
abbrev IsNextOf : Offer → Option Objects → Option Objects → TableLog → Type 0
IsNextOf o old new t = (v : ℕ) × (bytes : List ℕ) × IsOneMore old new (commit_name o.location v) bytes × ((v + 1 ≡ length t.commits) ⊎ (v ≡ length t.commits))

-- how many commits a log has with its last
length_push : (cs : List (List Action)) (c : List Action) → length cs + 1 ≡ length (cs ++ c ∷ [])
length_push cs c = sym (length-append cs (c ∷ []))

module _ (now : ℕ) (o : Offer) (old : Objects) (new : Option Objects) (is : Bool) (p q : P) where
  last_version : (j v : ℕ) (found : List (List Action)) (ends : List Act) (before : List Entry) (bytes : List ℕ) (a : Option TableLog) → q.seen ≡ before ++ acts_on p.number j ends → table_on j before ≡ option_map (with_commits found) a
      → There a (λ t. CommitEnds (Ok v) now o (Some old) new t.block (t.commits ++ found) (length found) ends) → IsOneMore (Some old) new (commit_name o.location v) bytes → There (table_on j q.seen) (IsNextOf o (Some old) new)
  last_version j v found ends before bytes None last e w one = absurd w
  last_version j v found ends before bytes (Some t) last e w one =
      let c : List Action = w.1.0 in
      let seen : q.seen ≡ before ++ entry p.number j (Own c) ∷ [] = last ∙ ap (λ (es : List Act). before ++ acts_on p.number j es) w.1.2 in
      let now_on : table_on j q.seen ≡ Some (with_commits (c ∷ []) (with_commits found t)) = ap (table_on j) seen ∙ table_owned p.number j before c ∙ ap (option_map (with_commits (c ∷ []))) e in
      there_from (table_on j q.seen) (with_commits (c ∷ []) (with_commits found t)) (IsNextOf o (Some old) new) now_on (v, bytes, one, inl (ap (λ (n : ℕ). n + 1) w.0 ∙ length_push (t.commits ++ found) c))

  ok_more : (v j : ℕ) (bytes : List ℕ) → Commits (Ok v) now o (Some old) new p q → IsOneMore (Some old) new (commit_name o.location v) bytes → IsNextMore o (Some old) new q
  ok_more v j bytes (inl w) one = absurd (let e = w.0 in cc)
  ok_more v j bytes (inr (i, at, inr w)) one = absurd (let e = w.0 in cc)
  ok_more v j bytes (inr (i, at, inl x)) one = (i, at, last_version i v x.found x.ends x.ran.before bytes (table_on i x.ran.from) x.ran.last x.ran.table x.told one)

  next_version : (a : Option TableLog) → There a (λ t. HasNext now o (Some old) new t.commits) → There a (IsNextOf o (Some old) new)
  next_version None w = absurd w
  next_version (Some t) w = (length t.commits, commit_text w.0, w.2, inr refl)

pub puts_one : CommitsPutOne
puts_one r now o old new is p q w (inl l) = inl l.1.same
puts_one (Ok v) now o old new is p q w (inr (j, at, l)) = inr (ok_more now o old new is p q v j (commit_text l.0) w l.2.one)
puts_one (Err refusal.NotLoaded) now o old new is p q w (inr (j, at, l)) = inl l.same
puts_one (Err (refusal.Blocked n)) now o old new is p q w (inr (j, at, l)) = inl l.same
puts_one (Err refusal.Contended) now o old new is p q w (inr (j, at, l)) = inl l.same
puts_one (Err (refusal.Conflict c)) now o old new is p q w (inr (j, at, l)) = inl l.same
puts_one (Err refusal.Limit) now o old new is p q w (inr (j, at, l)) = inl l.same
puts_one (Err refusal.StoreFault) now o old new is p q w (inr (j, at, l)) = elim l.one as (λ x. (new ≡ Some old) ⊎ IsNextMore o (Some old) new q) [
  | inl e ↦ inl e
  | inr m ↦ inr (j, at, next_version now o old new is p q (table_on j q.seen) m)
]
puts_one (Err refusal.NoMemory) now o old new is p q w (inr (j, at, l)) = inl l.same

-- ---- one after the other

not_both : (o : Option Objects) (c : Objects) (name bytes : List ℕ) → Grows (Some c) o → Lacks name o → IfSome o (λ os. finmap.get os name ≡ Some bytes) → ⊥
not_both None c name bytes g none there = true≢false g
not_both (Some os) c name bytes g none there = let e : None ≡ Some bytes = sym none ∙ there in cc

put_before : (a c : Objects) (b d : Option Objects) (name bytes others : List ℕ) → WasPut (Some a) b name bytes → WasPut (Some c) d name others → Grows b (Some c) → ⊥
put_before a c b d name bytes others first second g =
    let on : Grows first.after second.before = Grows-on first.after b second.before first.to (Grows-on b (Some c) second.before g second.from) in
    not_both second.before c name bytes second.from second.absent (Grows-stays first.after second.before name bytes on first.there)

pub given_once : VersionsAreGivenOnce
given_once v now later o u a c b d was is will are q s same (inl l) m g = absurd (let e = l.0 in cc)
given_once v now later o u a c b d was is will are q s same (inr (j, at, l)) (inl m) g = absurd (let e = m.0 in cc)
given_once v now later o u a c b d was is will are q s same (inr (j, at, l)) (inr (i, there, m)) g =
    put_before a c b d (commit_name u.location v) (commit_text l.0) (commit_text m.0) (subst (λ (x : List ℕ). WasPut (Some a) b (commit_name x v) (commit_text l.0)) same l.2.put) m.2.put g
