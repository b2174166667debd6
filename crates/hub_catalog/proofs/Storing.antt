-- What an edit leaves in the store.
use Rattle.std.proofs.Common.{◌≡◌, ◌⊎◌, ℕ, ◌^◌, ◌≤◌, List, length, Bool, true, false, Option, Some, None, Result, Ok, Err, IfSome, option_map, if◌then◌else◌, le-leb, ap, ◌∙◌, subst, inl, inr}
use Rattle.std.specs.Bool.{OnTrue}
use Rattle.std.specs.FinMap as finmap
use Rattle.edge_core.specs.Objects.{Fails, Grows, Lacks, Objects, Stores}
use Rattle.edge_core.proofs.Growth.{Grows-itself, Grows-on}
use Rattle.catalog_log.specs.Printing.{record_text}
use Rattle.catalog_log.specs.RecordNames.{record_name_of}
use Rattle.catalog_log.specs.Records.{record_in}
use Rattle.catalog_log.specs.declared.fault.RecordFault.{RecordFault}
use Rattle.catalog_log.specs.declared.fault.RecordFault.TheVariants as fault
use Rattle.log_store.specs.Loads.{Looked}
use Rattle.log_store.proofs.Growing.{looked_more, put_wider}
use Rattle.share_catalog.specs.declared.edit.Edit.{Edit}
use Rattle.share_book.specs.declared.entry.Act.TheVariants.{Abort}
use Rattle.hub_calls.proofs.Alone.{on_after, on_both, on_map, stays_more}
use Rattle.hub_catalog.specs.declared.edit.EditEnd.{EditEnd}
use Rattle.hub_catalog.specs.declared.edit.EditEnd.TheVariants as end
use Rattle.hub_catalog.specs.declared.edit.Round.{Round}
use Rattle.hub_catalog.specs.declared.edit.Round.TheVariants as round
use Rattle.hub_calls.specs.Calls.{P}
use Rattle.hub_catalog.specs.Edits.{AtMostOne, LastIs, Leaves, OneMore, Perhaps, Stored}
use Rattle.hub_catalog.specs.Records.{HasRecord, stored_record}
use Rattle.hub_catalog.specs.Rounds.{RoundStore}

-- a short text that is read as an edit is its record
stored_back : (bytes : List ℕ) (e : Edit) → record_in bytes ≡ Ok e → length bytes ≤ 2 ^ 24 → stored_record bytes ≡ Ok e
stored_back bytes e back short = ap (λ (b : Bool). if b then record_in bytes else Err fault.BadRecord) (le-leb (length bytes) (2 ^ 24) short) ∙ back

has_record : (new : Option Objects) (n : ℕ) (bytes : List ℕ) (e : Edit) → stored_record bytes ≡ Ok e → IfSome new (λ os. finmap.get os (record_name_of n) ≡ Some bytes) → HasRecord new n e
has_record None n bytes e back there = tt
has_record (Some os) n bytes e back there = ap (option_map stored_record) there ∙ ap (λ (r : Result Edit RecordFault). Some r) back

pub stored_at : (old new : Option Objects) (was is : Bool) (n : ℕ) (name bytes bytes' : List ℕ) (e : Edit) → name ≡ record_name_of n → bytes ≡ bytes' → bytes' ≡ record_text e → record_in bytes' ≡ Ok e → length bytes' ≤ 2 ^ 24 → Stores old new was name bytes
    → OnTrue was (is ≡ true) → Stored old new was is n e
stored_at old new was is n name bytes bytes' e qn qb qt back short s t =
    let s' : Stores old new was (record_name_of n) (record_text e) = subst (λ (x : List ℕ). Stores old new was (record_name_of n) x) (qb ∙ qt) (subst (λ (x : List ℕ). Stores old new was x bytes) qn s) in
    record {
      grows = s'.grows;
      there = s'.there;
      put = record { before = old; after = new; from = Grows-itself old; absent = s'.absent; there = s'.there; to = Grows-itself new };
      read = has_record new n (record_text e) e (subst (λ (x : List ℕ). stored_record x ≡ Ok e) qt (stored_back bytes' e back short)) s'.there;
      one = on_both was (Lacks (record_name_of n) old) _ s'.absent s'.only;
      stays = t;
    }

pub failed_at : (old new : Option Objects) (was is : Bool) (n : ℕ) (name bytes bytes' : List ℕ) (e : Edit) (q : P) → name ≡ record_name_of n → bytes ≡ bytes' → bytes' ≡ record_text e → Fails old new was name bytes → OnTrue was (is ≡ true) → LastIs q Abort (λ es. n ≡ length es) → Perhaps old new was is e q
failed_at old new was is n name bytes bytes' e q qn qb qt s t l =
    let s' : Fails old new was (record_name_of n) (record_text e) = subst (λ (x : List ℕ). Fails old new was (record_name_of n) x) (qb ∙ qt) (subst (λ (x : List ℕ). Fails old new was x bytes) qn s) in
    record { grows = s'.grows; one = on_map was ((new ≡ old) ⊎ OneMore old new n e) (AtMostOne old new e q) (λ (w : (new ≡ old) ⊎ OneMore old new n e). elim w [ inl a ↦ inl a | inr b ↦ inr (n, l, b) ]) s'.only; stays = t }

pub looked_leaves : (y : EditEnd) (e : Edit) (old new : Option Objects) (was is : Bool) (q : P) → Looked old new was is → Leaves (Err y) e old new was is q
looked_leaves (end.CatalogBlocked n) e old new was is q l = l
looked_leaves end.Contended e old new was is q l = l
looked_leaves (end.Refused r) e old new was is q l = l
looked_leaves end.StoreFault e old new was is q l = record { grows = l.grows; one = on_map was (new ≡ old) (AtMostOne old new e q) (λ w. inl w) l.same; stays = l.stays }
looked_leaves end.NoMemory e old new was is q l = l

one_more : (old mid new : Option Objects) (n : ℕ) (e : Edit) → mid ≡ old → OneMore mid new n e → OneMore old new n e
one_more old mid new n e s w = subst (λ (o : Option Objects). OneMore o new n e) s w

-- a look that stores nothing, and then a call that stores at most the record
pub stored_after : (old mid new : Option Objects) (a b c : Bool) (n : ℕ) (e : Edit) → Looked old mid a b → Stored mid new b c n e → Stored old new a c n e
stored_after old mid new a b c n e l s = record {
  grows = Grows-on old mid new l.grows s.grows;
  there = s.there;
  put = put_wider old mid new new (record_name_of n) (record_text e) l.grows (Grows-itself new) s.put;
  read = s.read;
  one = on_after a b (mid ≡ old) (OneMore mid new n e) (OneMore old new n e) (λ v w. one_more old mid new n e v w) l.stays l.same s.one;
  stays = stays_more a b c l.stays s.stays;
}

pub leaves_after : (y : EditEnd) (e : Edit) (old mid new : Option Objects) (a b c : Bool) (q : P) → Looked old mid a b → Leaves (Err y) e mid new b c q → Leaves (Err y) e old new a c q
leaves_after (end.CatalogBlocked n) e old mid new a b c q l w = looked_more old mid new a b c l w
leaves_after end.Contended e old mid new a b c q l w = looked_more old mid new a b c l w
leaves_after (end.Refused r) e old mid new a b c q l w = looked_more old mid new a b c l w
leaves_after end.StoreFault e old mid new a b c q l w = record {
  grows = Grows-on old mid new l.grows w.grows;
  one = on_after a b (mid ≡ old) (AtMostOne mid new e q) (AtMostOne old new e q) (λ v x. subst (λ (o : Option Objects). AtMostOne o new e q) v x) l.stays l.same w.one;
  stays = stays_more a b c l.stays w.stays;
}
leaves_after end.NoMemory e old mid new a b c q l w = looked_more old mid new a b c l w

pub round_after : (r : Round) (e : Edit) (n : ℕ) (old mid new : Option Objects) (a b c : Bool) (q : P) → Looked old mid a b → RoundStore r e n mid new b c q → RoundStore r e n old new a c q
round_after (round.Found m) e n old mid new a b c q l w = looked_more old mid new a b c l w
round_after round.Done e n old mid new a b c q l w = stored_after old mid new a b c n e l w
round_after (round.End y) e n old mid new a b c q l w = leaves_after y e old mid new a b c q l w

pub ended_store : (r : Round) (y : EditEnd) (e : Edit) (n : ℕ) (old new : Option Objects) (was is : Bool) (q : P) → r ≡ round.End y → Looked old new was is → RoundStore r e n old new was is q
ended_store r y e n old new was is q s l = rw s (looked_leaves y e old new was is q l)

pub leaves_grow : (y : EditEnd) (e : Edit) (old new : Option Objects) (was is : Bool) (q : P) → Leaves (Err y) e old new was is q → Grows old new
leaves_grow (end.CatalogBlocked n) e old new was is q l = l.grows
leaves_grow end.Contended e old new was is q l = l.grows
leaves_grow (end.Refused r) e old new was is q l = l.grows
leaves_grow end.StoreFault e old new was is q l = l.grows
leaves_grow end.NoMemory e old new was is q l = l.grows
