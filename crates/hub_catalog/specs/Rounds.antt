-- What the steps of an edit do, one after another.
use Rattle.std.specs.Prelude.{◌≡◌, ◌⊎◌, ℕ, ◌+◌, ◌^◌, ◌≤◌, ◌<◌, Bool, true, false, List, [], ◌∷◌, Option, Some, None, Result, Ok, Err, IfSome, IsSome, length}
use Rattle.std.specs.FinMap as finmap
use Rattle.edge_core.specs.Objects.{Grows, Lacks, Objects}
use Rattle.log_store.specs.Loads.{Looked}
use Rattle.log_store.specs.declared.refusal.LoadRefusal.{LoadRefusal}
use Rattle.log_store.specs.declared.refusal.LoadRefusal.TheVariants as load
use Rattle.catalog_log.specs.Printing.{record_text}
use Rattle.catalog_log.specs.RecordNames.{record_name_of}
use Rattle.catalog_log.specs.Records.{record_in}
use Rattle.share_catalog.specs.declared.edit.Edit.{Edit}
use Rattle.share_catalog.specs.Catalogue.{refusal_of}
use Rattle.share_book.specs.declared.entry.LogStart.{LogStart}
use Rattle.share_book.specs.declared.entry.Act.TheVariants.{OwnEdit, Abort}
use Rattle.share_book.specs.History.{edits}
use Rattle.hub_calls.specs.Calls.{P}
use Rattle.hub_catalog.specs.CatalogTurns.{LoadOf}
use Rattle.hub_catalog.specs.CatalogCalls.{Goes, Step, Stops}
use Rattle.hub_catalog.specs.Edits.{AreSteps, EndsWith, IsBlocked, IsStep, LastIs, Leaves, Perhaps, RefusesWith, Stored, failed_edit, failed_refusal}
use Rattle.hub_catalog.specs.declared.found.CatalogRefusal.{CatalogRefusal}
use Rattle.hub_catalog.specs.declared.found.CatalogRefusal.TheVariants as refusal
use Rattle.hub_catalog.specs.declared.found.Next.{Next}
use Rattle.hub_catalog.specs.declared.found.Next.TheVariants as next
use Rattle.hub_catalog.specs.declared.edit.EditEnd.{EditEnd}
use Rattle.hub_catalog.specs.declared.edit.EditEnd.TheVariants as end
use Rattle.hub_catalog.specs.declared.edit.Own.{Own}
use Rattle.hub_catalog.specs.declared.edit.Tried.{Tried}
use Rattle.hub_catalog.specs.declared.edit.Tried.TheVariants as tried
use Rattle.hub_catalog.specs.declared.edit.Round.{Round}
use Rattle.hub_catalog.specs.declared.edit.Round.TheVariants as round

abbrev pub refusal_by : LoadRefusal → CatalogRefusal
refusal_by load.StoreFault = refusal.StoreFault
refusal_by load.NoMemory = refusal.NoMemory

abbrev pub failed_next : Next → Bool
failed_next (next.Found n) = false
failed_next next.Absent = false
failed_next (next.End x) = failed_refusal x

-- the edit was published, or memory was wanting before or after
abbrev pub PublishesNext : Next → Step → P → P → Type 0
PublishesNext (next.Found m) x p q = Goes p q (x ∷ []) × (m ≡ length (edits q.seen))
PublishesNext (next.End refusal.NoMemory) x p q = Stops p q [] None Abort ⊎ Stops p q (x ∷ []) None Abort
PublishesNext _ x p q = ⊥

-- how many found edits there are in a round that ended so
abbrev pub OneFound : CatalogRefusal → ℕ → Type 0
OneFound (refusal.Blocked n) m = m ≡ 0
OneFound refusal.StoreFault m = m ≡ 0
OneFound refusal.NoMemory m = m ≤ 1

-- the next record was published; none was there, and nothing was done; or the caller ended what it began
abbrev pub Nexts : Next → ℕ → Option Objects → Option Objects → P → P → Type 0
Nexts (next.Found m) n old new p q = (x : Step) × Goes p q (x ∷ []) × (m ≡ length (edits q.seen)) × IsStep old new n x
Nexts next.Absent n old new p q = (q ≡ p) × Lacks (record_name_of n) new
Nexts (next.End y) n old new p q = (xs : List Step) × Stops p q xs None Abort × AreSteps old new n xs × RefusesWith y new q × OneFound y (length xs)

abbrev pub end_by : CatalogRefusal → EditEnd
end_by (refusal.Blocked n) = end.CatalogBlocked n
end_by refusal.StoreFault = end.StoreFault
end_by refusal.NoMemory = end.NoMemory

-- what is made before a put: the edit with its shared copy and its log, the text of its record, which is read as the edit, and the record's name
pub record IsMade (o : Own) (e : Edit) (l : Option LogStart) (n : ℕ) : Type 0 where
  pub new : o.new ≡ Some (record { edit = e; shared = e; load = l })
  pub text : o.bytes.items ≡ record_text e
  pub name : o.name ≡ record_name_of n
  pub back : record_in o.bytes.items ≡ Ok e
  pub short : length o.bytes.items ≤ 2 ^ 24

-- the record was put, and the edit published after its log; another was there, and nothing was done; or the put failed or memory
-- was wanting before it
abbrev pub Tries : Tried → Edit → Option LogStart → P → P → Type 0
Tries tried.Done e l p q = Stops p q [] l (OwnEdit e)
Tries tried.Exists e l p q = q ≡ p
Tries tried.StoreFault e l p q = Stops p q [] None Abort
Tries tried.NoMemory e l p q = Stops p q [] None Abort

abbrev pub failed_tried : Tried → Bool
failed_tried tried.StoreFault = true
failed_tried _ = false

-- how many puts the store has stored after a try
abbrev pub acknowledged_tried : ℕ → Tried → ℕ
acknowledged_tried before tried.Done = before + 1
acknowledged_tried before _ = before

abbrev pub TriedStore : Tried → Edit → ℕ → Option Objects → Option Objects → Bool → Bool → P → Type 0
TriedStore tried.Done e n old new was is q = Stored old new was is n e
TriedStore tried.Exists e n old new was is q = Looked old new was is × IfSome new (λ os. IsSome (finmap.get os (record_name_of n)))
TriedStore tried.StoreFault e n old new was is q = Perhaps old new was is e q
TriedStore tried.NoMemory e n old new was is q = Looked old new was is

-- what the answer says where a round ended, after so many edits that it found
abbrev pub EndsRound : EditEnd → Edit → Option Objects → Option Objects → P → ℕ → Type 0
EndsRound (end.CatalogBlocked n) e old new q m = IsBlocked n new q × (m ≡ 0)
EndsRound end.Contended e old new q m = ⊥
EndsRound (end.Refused r) e old new q m = LastIs q Abort (λ es. (refusal_of es e ≡ Some r) × Lacks (record_name_of (length es)) old) × (m ≡ 0)
EndsRound end.StoreFault e old new q m = m ≡ 0
EndsRound end.NoMemory e old new q m = m ≤ 1

-- a found record was published, the caller's edit was, or the caller ended what it began
abbrev pub Rounds : Round → Edit → ℕ → Option Objects → Option Objects → P → P → Type 0
Rounds (round.Found m) e n old new p q = (x : Step) × Goes p q (x ∷ []) × (m ≡ length (edits q.seen)) × IsStep old new n x
Rounds round.Done e n old new p q = (l : Option LogStart) × Stops p q [] l (OwnEdit e) × LoadOf old new e l × LastIs q (OwnEdit e) (λ es. n ≡ length es)
Rounds (round.End y) e n old new p q = (xs : List Step) × Stops p q xs None Abort × AreSteps old new n xs × EndsRound y e old new q (length xs)

-- the same over objects from before the edit's log was loaded
abbrev pub OwnRounds : Round → Edit → Option LogStart → ℕ → Option Objects → Option Objects → P → P → Type 0
OwnRounds r e l n old new p q = (before : Option Objects) → Grows before old → LoadOf before old e l → Rounds r e n before new p q

abbrev pub RoundStore : Round → Edit → ℕ → Option Objects → Option Objects → Bool → Bool → P → Type 0
RoundStore (round.Found m) e n old new was is q = Looked old new was is
RoundStore round.Done e n old new was is q = Stored old new was is n e
RoundStore (round.End y) e n old new was is q = Leaves (Err y) e old new was is q

abbrev pub failed_round : Round → Bool
failed_round (round.Found n) = false
failed_round round.Done = false
failed_round (round.End x) = failed_edit (Err x)

-- how many puts the store has stored after a round
abbrev pub acknowledged_round : ℕ → Round → ℕ
acknowledged_round before (round.Found n) = before
acknowledged_round before round.Done = before + 1
acknowledged_round before (round.End x) = before

-- from where the caller had begun on: found edits, and then its own, or Abort
abbrev pub RunsOn : Result ℕ EditEnd → Edit → Option Objects → Option Objects → P → P → Type 0
RunsOn (Ok n) e old new p q = (found : List Step) × (l : Option LogStart) × Stops p q found l (OwnEdit e) × AreSteps old new (length (edits p.seen)) found × LoadOf old new e l × LastIs q (OwnEdit e) (λ es. n ≡ length es) × (length found < 64)
RunsOn (Err x) e old new p q = (found : List Step) × Stops p q found None Abort × AreSteps old new (length (edits p.seen)) found × EndsWith x e old new q (length found)
