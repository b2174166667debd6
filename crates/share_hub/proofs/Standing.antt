-- What stands in the history and in the store goes on standing.
use Rattle.std.proofs.Common.{◌≡◌, ℕ, ◌+◌, ◌-◌, List, [], ◌∷◌, ◌++◌, Option, Some, None, Result, Ok, refl, sym, ap, ◌∙◌, subst, append_assoc}
use Rattle.std.specs.List.{All, filter_map, slice_get}
use Rattle.std.specs.Option.{option_map}
use Rattle.std.specs.FinMap as finmap
use Rattle.std.proofs.lemmas.List.{append-nil}
use Rattle.std.proofs.lemmas.List.Elements.{All-append, All-nil, filter_map-append}
use mathlib.Core.List.{IsPrefix}
use Rattle.edge_core.specs.Objects.{Grows, GrowsTo, Objects}
use Rattle.log_actions.specs.declared.actions.Action.{Action}
use Rattle.log_commit.specs.Names.{commit_name}
use Rattle.log_commit.specs.Texts.{commit_in}
use Rattle.log_store.specs.Backed.{HasCommit}
use Rattle.log_store.specs.Log.{text_at}
use Rattle.catalog_log.specs.RecordNames.{record_name_of}
use Rattle.share_catalog.specs.declared.edit.Edit.{Edit}
use Rattle.share_book.specs.declared.entry.Entry.{Entry}
use Rattle.share_book.specs.declared.entry.Act.{Act}
use Rattle.share_book.specs.declared.entry.Act.TheVariants.{Begin, Own, Found, OwnEdit, FoundEdit, Load, Blocked, Abort}
use Rattle.share_book.specs.declared.entry.LogStart.{LogStart}
use Rattle.turn_cell.specs.Passes.{mine}
use Rattle.share_book.specs.History.{block_on, caller_of, commit_on, edit_in, edits, grown, start_in, starts, table_on}
use Rattle.share_book.specs.Legal.{There}
use Rattle.share_book.specs.TableView.{TableLog}
use Rattle.share_book.proofs.Growth.{get_stays}
use Rattle.hub_calls.specs.Calls.{Adds, P}
use Rattle.hub_catalog.specs.Records.{HasRecord, stored_record}
use Rattle.share_hub.specs.Backing.{ActStands, AddsStanding, CommitStands, EditStands}

-- ---- in the store

text_later : (x y : Objects) (location : List ℕ) (v : ℕ) (c : List Action) → GrowsTo x y → (t : Option (List ℕ)) → text_at location x v ≡ t → option_map commit_in t ≡ Some (Ok c) → option_map commit_in (text_at location y v) ≡ Some (Ok c)
text_later x y location v c g None is e = absurd cc
text_later x y location v c g (Some bytes) is e = ap (option_map commit_in) (g (commit_name location v) bytes is) ∙ e

pub commit_later : (objects later : Option Objects) (location : List ℕ) (v : ℕ) (c : List Action) → Grows objects later → HasCommit location objects v c → HasCommit location later v c
commit_later None later location v c g h = subst (λ (o : Option Objects). HasCommit location o v c) (sym g) tt
commit_later (Some x) None location v c g h = absurd cc
commit_later (Some x) (Some y) location v c g h = text_later x y location v c g (text_at location x v) refl h

record_text_later : (x y : Objects) (n : ℕ) (e : Edit) → GrowsTo x y → (t : Option (List ℕ)) → finmap.get x (record_name_of n) ≡ t → option_map stored_record t ≡ Some (Ok e) → option_map stored_record (finmap.get y (record_name_of n)) ≡ Some (Ok e)
record_text_later x y n e g None is has = absurd cc
record_text_later x y n e g (Some bytes) is has = ap (option_map stored_record) (g (record_name_of n) bytes is) ∙ has

pub record_later : (objects later : Option Objects) (n : ℕ) (e : Edit) → Grows objects later → HasRecord objects n e → HasRecord later n e
record_later None later n e g h = subst (λ (o : Option Objects). HasRecord o n e) (sym g) tt
record_later (Some x) None n e g h = absurd cc
record_later (Some x) (Some y) n e g h = record_text_later x y n e g (finmap.get x (record_name_of n)) refl h

-- ---- in the history

abbrev Stands : Option Objects → List Action → TableLog → Type 0
Stands objects c t = (v : ℕ) × (slice_get t.commits v ≡ Some c) × HasCommit t.location objects v c

longer : (h more : List Entry) (j v : ℕ) (s : LogStart) (c : List Action) → slice_get (s.commits ++ filter_map (commit_on j) h) v ≡ Some c → slice_get (s.commits ++ filter_map (commit_on j) (h ++ more)) v ≡ Some c
longer h more j v s c is =
    ap (λ (cs : List (List Action)). slice_get (s.commits ++ cs) v) (filter_map-append (commit_on j) h more)
    ∙ ap (λ (cs : List (List Action)). slice_get cs v) (sym (append_assoc s.commits (filter_map (commit_on j) h) (filter_map (commit_on j) more)))
    ∙ get_stays (s.commits ++ filter_map (commit_on j) h) (filter_map (commit_on j) more) v c is

table_later : (objects later : Option Objects) (h more : List Entry) (j : ℕ) (c : List Action) → Grows objects later → (o : Option LogStart) → slice_get (starts h) (j - 1) ≡ o
    → There (option_map (grown (filter_map (commit_on j) h) (filter_map (block_on j) h)) o) (Stands objects c) → There (table_on j (h ++ more)) (Stands later c)
table_later objects later h more j c g None is w = absurd w
table_later objects later h more j c g (Some s) is w =
    let there : slice_get (starts (h ++ more)) (j - 1) ≡ Some s = ap (λ (l : List LogStart). slice_get l (j - 1)) (filter_map-append start_in h more) ∙ get_stays (starts h) (starts more) (j - 1) s is in
    subst (λ (o : Option LogStart). There (option_map (grown (filter_map (commit_on j) (h ++ more)) (filter_map (block_on j) (h ++ more))) o) (Stands later c)) (sym there)
    (w.0, longer h more j w.0 s c w.1, commit_later objects later s.location w.0 c g w.2)

pub commit_stands_later : (objects later : Option Objects) (h more : List Entry) (j : ℕ) (c : List Action) → Grows objects later → CommitStands objects h j c → CommitStands later (h ++ more) j c
commit_stands_later objects later h more j c g w = table_later objects later h more j c g (slice_get (starts h) (j - 1)) refl w

pub edit_stands_later : (objects later : Option Objects) (h more : List Entry) (e : Edit) → Grows objects later → EditStands objects h e → EditStands later (h ++ more) e
edit_stands_later objects later h more e g w =
    (w.0, ap (λ (es : List Edit). slice_get es w.0) (filter_map-append edit_in h more) ∙ get_stays (edits h) (edits more) w.0 e w.1, record_later objects later w.0 e g w.2)

pub act_later : (objects later : Option Objects) (h more : List Entry) (j : ℕ) (a : Act) → Grows objects later → ActStands objects h j a → ActStands later (h ++ more) j a
act_later objects later h more j Begin g w = tt
act_later objects later h more j (Own c) g w = commit_stands_later objects later h more j c g w
act_later objects later h more j (Found c) g w = commit_stands_later objects later h more j c g w
act_later objects later h more j (OwnEdit e) g w = edit_stands_later objects later h more e g w
act_later objects later h more j (FoundEdit e) g w = edit_stands_later objects later h more e g w
act_later objects later h more j (Load s) g w = tt
act_later objects later h more j (Blocked n) g w = tt
act_later objects later h more j Abort g w = tt

pub entries_later : (objects later : Option Objects) (h k own : List Entry) → Grows objects later → IsPrefix h k → All (λ e. ActStands objects h e.log e.act) own → All (λ e. ActStands later k e.log e.act) own
entries_later objects later h k own g p w = subst (λ (x : List Entry). All (λ e. ActStands later x e.log e.act) own) p.1 (λ n d lt. act_later objects later h p.0 _ _ g (w n d lt))

-- ---- what a caller added

pub adds_none : (p q : P) (objects : Option Objects) → Adds p q [] → AddsStanding p q objects
adds_none p q objects adds = ([], adds, All-nil _)

pub adds_same : (p : P) (objects : Option Objects) → AddsStanding p p objects
adds_same p objects = adds_none p p objects (sym (append-nil _))

pub adds_join : (p q r : P) (objects later : Option Objects) → Grows objects later → IsPrefix q.seen r.seen → AddsStanding p q objects → AddsStanding q r later → AddsStanding p r later
adds_join p q r objects later g seen first second = (
  first.0 ++ second.0,
  second.1 ∙ ap (λ (es : List Entry). es ++ second.0) first.1 ∙ append_assoc (mine caller_of p) first.0 second.0,
  All-append (λ (e : Entry). ActStands later r.seen e.log e.act) first.0 second.0 (entries_later objects later q.seen r.seen first.0 g seen first.2) second.2,
)
