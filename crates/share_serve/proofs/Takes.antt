-- Offers and edits that nothing is in the way of are made.
use Rattle.std.proofs.Common.{◌≡◌, ◌⊎◌, inl, inr, ℕ, ◌^◌, ◌≤◌, ◌<◌, Bool, true, List, [], ◌∷◌, ◌++◌, length, map, Option, Some, None, Result, Ok, Err, sym, refl, ap, ◌∙◌, subst, arith, length-append}
use Rattle.std.specs.Prelude.{IfOk}
use Rattle.std.proofs.lemmas.List.{length-map}
use Rattle.edge_core.specs.Faults.{Cause}
use Rattle.edge_core.specs.Objects.{Objects}
use Rattle.commit_check.specs.declared.offer.Offer.{Offer}
use Rattle.log_actions.specs.declared.actions.Action.{Action}
use Rattle.log_store.specs.Backed.{HasCommit}
use Rattle.share_book.specs.History.{edits, table_on}
use Rattle.share_book.specs.Legal.{There, log_at}
use Rattle.share_book.specs.TableView.{TableLog}
use Rattle.share_book.specs.declared.entry.Act.{Act}
use Rattle.share_book.specs.declared.entry.Act.TheVariants.{OwnEdit}
use Rattle.share_book.specs.declared.entry.Entry.{Entry}
use Rattle.share_catalog.specs.declared.edit.Edit.{Edit}
use Rattle.hub_calls.specs.Calls.{P}
use Rattle.hub_catalog.specs.CatalogCalls.{edit_in}
use Rattle.hub_catalog.specs.Edits.{Edits, Leaves, failed_edit}
use Rattle.hub_catalog.specs.Records.{HasRecord}
use Rattle.hub_catalog.specs.declared.edit.EditEnd.{EditEnd}
use Rattle.hub_catalog.specs.declared.edit.EditEnd.TheVariants as edit_end
use Rattle.hub_tables.specs.Commits.{CommitEnds, CommitLeaves, CommitRan, Commits, failed_commit}
use Rattle.hub_tables.specs.declared.commit.CommitRefusal.{CommitRefusal}
use Rattle.hub_tables.specs.declared.commit.CommitRefusal.TheVariants as commit_refusal
use Rattle.share_hub.specs.Backing.{IsBegunOn}
use Rattle.share_hub.specs.CatalogLaws.{EditsAreRecorded, IsClearEdit}
use Rattle.share_hub.specs.TableLaws.{IsClear, OffersAreCommitted}
use Rattle.share_hub.proofs.CatalogNodes.{all_edits, own_at}
use Rattle.share_hub.proofs.Committing.{same_store}
use Rattle.share_request.specs.Requests.{request_in}
use Rattle.share_request.specs.declared.asked.Request.{Request}
use Rattle.share_serve.specs.Callers.{By, by_request}
use Rattle.share_serve.specs.Callers as by
use Rattle.share_serve.specs.Laws.{request_of}
use Rattle.share_serve.specs.Providers.{commit_response, edit_response, record_text, version_text}
use Rattle.share_serve.specs.Responses.{json_response}
use Rattle.share_serve.specs.Taken.{EditsAreTaken, IsOffered, IsOrdered, OfBegun, OfEdits, OffersAreTaken}
use Rattle.share_serve.specs.Turns.{AnswersBy, Committed, Edited, Hold, LacksBy, LacksResponse}
use Rattle.share_serve.specs.WholeSessions.{Stays}
use Rattle.share_serve.specs.declared.response.Response.{Response}
use Rattle.share_serve.specs.declared.server.Server.{Server}
use Rattle.share_serve.proofs.Worlds.{same_some}

there_map : {X : Type 0} (o : Option X) (Q R : X → Type 0) → ((x : X) → Q x → R x) → There o Q → There o R
there_map None Q R f w = w
there_map (Some x) Q R f w = f x w

-- ---- offers

-- a version of a log of fewer than 2^63
small_version : (answer : Result ℕ CommitRefusal) (now : ℕ) (o : Offer) (old new : Option Objects) (found : List (List Action)) (ends : List Act) (b : Option TableLog) → There b (λ t. length t.commits < 2 ^ 63)
    → There b (λ t. CommitEnds answer now o old new t.block (t.commits ++ found) (length found) ends) → IfOk answer (λ v. v < 2 ^ 64)
small_version answer now o old new found ends None few w = absurd few
small_version (Ok v) now o old new found ends (Some t) few w = let at = w.0 in let less = w.2 in let all = length-append t.commits found in omega arith
small_version (Err x) now o old new found ends (Some t) few w = tt

module _ (offers : OffersAreCommitted) (now : ℕ) (o : Offer) (objects : Objects) (new : Option Objects) (is : Bool) (p q : P) (j : ℕ) (short : length o.location ≤ 256) (loaded : log_at q.seen o.location ≡ Some j) (clear : (from : List Entry) → IsBegunOn j p q from → There (table_on j from) (λ t. (length t.commits < 2 ^ 63) × ((c : List Action) × IsClear now o objects t c))) where
  -- the next version, or memory was wanting
  abbrev NextOrNone : Result ℕ CommitRefusal → Type 0
  NextOrNone answer = ((from : List Entry) × IsBegunOn j p q from × There (table_on j from) (λ t. answer ≡ Ok (length t.commits))) ⊎ ((answer ≡ Err commit_refusal.NoMemory) × (new ≡ Some objects))

  ran_next : (answer : Result ℕ CommitRefusal) (faults later : ℕ) → CommitRan answer now o (Some objects) new p q j → CommitLeaves answer now o (Some objects) new true is q → Cause faults later (failed_commit answer) → Stays faults later → NextOrNone answer
  ran_next answer faults later ran left cause stays =
      let from : List Entry = ran.ran.from in
      let begun : IsBegunOn j p q from = record { after = ran.ran.after; begun = ran.ran.begun } in
      let at = clear from begun in
      let few = there_map (table_on j from) (λ t. (length t.commits < 2 ^ 63) × ((c : List Action) × IsClear now o objects t c)) (λ t. length t.commits < 2 ^ 63) (λ t w. w.0) at in
      let none = there_map (table_on j from) (λ t. (length t.commits < 2 ^ 63) × ((c : List Action) × IsClear now o objects t c)) (λ t. (c : List Action) × IsClear now o objects t c) (λ t w. w.1) at in
      elim (offers answer now o objects new is p q j faults later ran none (small_version answer now o (Some objects) new ran.found ran.ends (table_on j from) few ran.told) left cause stays) as (λ x. NextOrNone answer) [
        | inl there ↦ inl (from, begun, there)
        | inr wanting ↦ inr wanting
      ]

  pub next : (answer : Result ℕ CommitRefusal) (faults later : ℕ) → Commits answer now o (Some objects) new p q → CommitLeaves answer now o (Some objects) new true is q → Cause faults later (failed_commit answer) → Stays faults later → NextOrNone answer
  next answer faults later (inl (e, none, inl absent)) left cause stays = absurd (let c : None ≡ Some j = sym absent ∙ loaded in cc)
  next answer faults later (inl (e, none, inr long)) left cause stays = absurd (omega (arith, long, short))
  next answer faults later (inr (i, at, inr w)) left cause stays =
      inr (w.0, same_store commit_refusal.NoMemory now o objects new is q refl (subst (λ (r : Result ℕ CommitRefusal). CommitLeaves r now o (Some objects) new true is q) w.0 left))
  next answer faults later (inr (i, at, inl ran)) left cause stays =
      let same : i ≡ j = same_some i j (sym at ∙ loaded) in
      ran_next answer faults later (subst (λ (n : ℕ). CommitRan answer now o (Some objects) new p q n) same ran) left cause stays

-- what was committed is stored
stored_next : (v now : ℕ) (o : Offer) (old new : Option Objects) (was is : Bool) (q : P) → CommitLeaves (Ok v) now o old new was is q → (c : List Action) × HasCommit o.location new v c
stored_next v now o old new was is q (inl w) = absurd (let e = w.0 in cc)
stored_next v now o old new was is q (inr (i, at, w)) = (w.0, w.3)

module _ (offers : OffersAreCommitted) (server : Server) (asked : Request) (moment : ℕ) (o : Offer) (j : ℕ) (old new : Hold) (x : IsOffered server asked moment o j old new) where
  left : (answer : Result ℕ CommitRefusal) → Committed answer moment o old new → CommitLeaves answer moment o (Some x.objects) new.shelf.objects true new.shelf.alone new.pass
  left answer c =
      subst (λ (b : Bool). CommitLeaves answer moment o (Some x.objects) new.shelf.objects b new.shelf.alone new.pass) x.sound.alone
      (subst (λ (os : Option Objects). CommitLeaves answer moment o os new.shelf.objects old.shelf.alone new.shelf.alone new.pass) x.sound.told c.stored)

  called : (answer : Result ℕ CommitRefusal) → Committed answer moment o old new → OfBegun j old new (λ t. answer ≡ Ok (length t.commits)) ⊎ ((answer ≡ Err commit_refusal.NoMemory) × (new.shelf.objects ≡ Some x.objects))
  called answer c =
      next offers moment o x.objects new.shelf.objects new.shelf.alone old.pass new.pass j x.short x.loaded x.clear answer old.shelf.faults new.shelf.faults
      (subst (λ (os : Option Objects). Commits answer moment o os new.shelf.objects old.pass new.pass) x.sound.told c.entries) (left answer c) c.cause x.sound.stays

  of_begun : (Q R : TableLog → Type 0) → ((t : TableLog) → Q t → R t) → OfBegun j old new Q → OfBegun j old new R
  of_begun Q R f w = (w.0, w.1, there_map (table_on j w.0) Q R f w.2)

  answered : (answer : Result ℕ CommitRefusal) (r : Response) → Committed answer moment o old new → commit_response answer ≡ Some r → OfBegun j old new (λ t. r ≡ json_response (version_text (length t.commits)))
  answered answer r c is = elim (called answer c) as (λ y. OfBegun j old new (λ t. r ≡ json_response (version_text (length t.commits)))) [
    | inl begun ↦ of_begun (λ t. answer ≡ Ok (length t.commits)) (λ t. r ≡ json_response (version_text (length t.commits)))
        (λ t e. same_some r (json_response (version_text (length t.commits))) (sym is ∙ ap commit_response e)) begun
    | inr none ↦ absurd (let e : None ≡ Some r = sym (ap commit_response none.0) ∙ is in cc)
  ]

  pub offer_answered : (r : Response) → AnswersBy server asked (by_request server asked) moment r old new → OfBegun j old new (λ t. r ≡ json_response (version_text (length t.commits)))
  offer_answered r is =
      let a : AnswersBy server asked (by.commit o) moment r old new = subst (λ (b : By). AnswersBy server asked b moment r old new) x.provider is in
      answered a.0 r a.1 a.2

  abbrev Kept : Type 0
  Kept = (new.shelf.objects ≡ old.shelf.objects) ⊎ OfBegun j old new (λ t. (c : List Action) × HasCommit o.location new.shelf.objects (length t.commits) c)

  kept : (answer : Result ℕ CommitRefusal) → Committed answer moment o old new → Kept
  kept answer c = elim (called answer c) as (λ y. Kept) [
    | inl begun ↦ inr (of_begun (λ t. answer ≡ Ok (length t.commits)) (λ t. (c : List Action) × HasCommit o.location new.shelf.objects (length t.commits) c)
        (λ t e. stored_next (length t.commits) moment o (Some x.objects) new.shelf.objects true new.shelf.alone new.pass
        (subst (λ (r : Result ℕ CommitRefusal). CommitLeaves r moment o (Some x.objects) new.shelf.objects true new.shelf.alone new.pass) e (left answer c))) begun)
    | inr none ↦ inl (none.1 ∙ sym x.sound.told)
  ]

  pub offer_kept : LacksResponse server asked moment old new → Kept
  offer_kept (inl is) = inl (ap (λ (h : Hold). h.shelf.objects) is)
  offer_kept (inr lacks) = let a : LacksBy (by.commit o) moment old new = subst (λ (b : By). LacksBy b moment old new) x.provider lacks in kept a.0 a.1

pub offers_taken : OffersAreCommitted → OffersAreTaken
offers_taken offers = record {
  answered = λ server t text o j old new responds x. offer_answered offers server (request_of t) t.moment o j old.hold new.hold x t.response responds.answers;
  wanting = λ server m moment o j old new wants x. offer_kept offers server (request_in m.head m.body) moment o j old.hold new.hold x wants.lacks;
}

-- ---- edits

module _ (recorded : EditsAreRecorded) (e : Edit) (objects : Objects) (new : Option Objects) (is : Bool) (p q : P) (clear : (from : List Entry) → IsBegunOn 0 p q from → (length (edits from) < 2 ^ 63) × IsClearEdit e objects (edits from)) where
  -- the number of a record of fewer than 2^63
  small_number : (answer : Result ℕ EditEnd) → Edits answer e (Some objects) new p q → IfOk answer (λ n. n < 2 ^ 64)
  small_number (Ok n) w =
      let few = (clear w.2.from (record { after = w.2.after; begun = w.2.begun })).0 in
      let all : length (edits q.seen) ≡ length ((edits w.2.from ++ map edit_in w.0) ++ e ∷ []) = ap (λ (es : List Edit). length es) (all_edits (Some objects) new p q w.0 w.1 (OwnEdit e) w.2) in
      let last = length-append (edits w.2.from ++ map edit_in w.0) (e ∷ []) in
      let long = length-append (edits w.2.from) (map edit_in w.0) in
      let each = length-map w.0 edit_in in
      let at = own_at n e q w.4 in
      let found = w.5 in
      omega (arith, few, all, last, long, each, at, found)
  small_number (Err x) w = tt

  pub next_number : (answer : Result ℕ EditEnd) (faults later : ℕ) → Edits answer e (Some objects) new p q → Leaves answer e (Some objects) new true is q → Cause faults later (failed_edit answer) → Stays faults later
      → ((from : List Entry) × IsBegunOn 0 p q from × (answer ≡ Ok (length (edits from)))) ⊎ ((answer ≡ Err edit_end.NoMemory) × (new ≡ Some objects))
  next_number answer faults later w l cause stays = recorded answer e objects new is p q faults later (λ from begun. (clear from begun).1) (small_number answer w) w l cause stays

module _ (recorded : EditsAreRecorded) (server : Server) (asked : Request) (e : Edit) (old new : Hold) (x : IsOrdered server asked e old new) where
  edit_left : (answer : Result ℕ EditEnd) → Edited answer e old new → Leaves answer e (Some x.objects) new.shelf.objects true new.shelf.alone new.pass
  edit_left answer c =
      subst (λ (b : Bool). Leaves answer e (Some x.objects) new.shelf.objects b new.shelf.alone new.pass) x.sound.alone
      (subst (λ (os : Option Objects). Leaves answer e os new.shelf.objects old.shelf.alone new.shelf.alone new.pass) x.sound.told c.stored)

  edit_called : (answer : Result ℕ EditEnd) → Edited answer e old new → OfEdits old new (λ es. answer ≡ Ok (length es)) ⊎ ((answer ≡ Err edit_end.NoMemory) × (new.shelf.objects ≡ Some x.objects))
  edit_called answer c =
      next_number recorded e x.objects new.shelf.objects new.shelf.alone old.pass new.pass x.clear answer old.shelf.faults new.shelf.faults
      (subst (λ (os : Option Objects). Edits answer e os new.shelf.objects old.pass new.pass) x.sound.told c.entries) (edit_left answer c) c.cause x.sound.stays

  edit_told : (answer : Result ℕ EditEnd) (r : Response) → Edited answer e old new → edit_response answer ≡ Some r → OfEdits old new (λ es. r ≡ json_response (record_text (length es)))
  edit_told answer r c is = elim (edit_called answer c) as (λ y. OfEdits old new (λ es. r ≡ json_response (record_text (length es)))) [
    | inl begun ↦ (begun.0, begun.1, same_some r (json_response (record_text (length (edits begun.0)))) (sym is ∙ ap edit_response begun.2))
    | inr none ↦ absurd (let c : None ≡ Some r = sym (ap edit_response none.0) ∙ is in cc)
  ]

  pub edit_answered : (moment : ℕ) (r : Response) → AnswersBy server asked (by_request server asked) moment r old new → OfEdits old new (λ es. r ≡ json_response (record_text (length es)))
  edit_answered moment r is =
      let a : AnswersBy server asked (by.edit e) moment r old new = subst (λ (b : By). AnswersBy server asked b moment r old new) x.administrator is in
      edit_told a.0 r a.1 a.2

  abbrev EditKept : Type 0
  EditKept = (new.shelf.objects ≡ old.shelf.objects) ⊎ OfEdits old new (λ es. HasRecord new.shelf.objects (length es) e)

  edit_is_kept : (answer : Result ℕ EditEnd) → Edited answer e old new → EditKept
  edit_is_kept answer c = elim (edit_called answer c) as (λ y. EditKept) [
    | inl begun ↦ inr (
      begun.0,
      begun.1,
      (let l : Leaves (Ok (length (edits begun.0))) e (Some x.objects) new.shelf.objects true new.shelf.alone new.pass =
          subst (λ (r : Result ℕ EditEnd). Leaves r e (Some x.objects) new.shelf.objects true new.shelf.alone new.pass) begun.2 (edit_left answer c) in l.read),
    )
    | inr none ↦ inl (none.1 ∙ sym x.sound.told)
  ]

  pub edit_kept : (moment : ℕ) → LacksResponse server asked moment old new → EditKept
  edit_kept moment (inl is) = inl (ap (λ (h : Hold). h.shelf.objects) is)
  edit_kept moment (inr lacks) = let a : LacksBy (by.edit e) moment old new = subst (λ (b : By). LacksBy b moment old new) x.administrator lacks in edit_is_kept a.0 a.1

pub edits_taken : EditsAreRecorded → EditsAreTaken
edits_taken recorded = record {
  answered = λ server t text e old new responds x. edit_answered recorded server (request_of t) e old.hold new.hold x t.moment t.response responds.answers;
  wanting = λ server m moment e old new wants x. edit_kept recorded server (request_in m.head m.body) e old.hold new.hold x moment wants.lacks;
}
