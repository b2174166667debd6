-- From new passes to workers that served, and from the desks that were used to all of them.
use Rattle.std.proofs.Common.{◌≡◌, ℕ, zero, suc, ◌+◌, ◌<◌, ◌≤◌, Bool, List, [], ◌∷◌, ◌++◌, length, drop, take, map, max, min, Option, Some, None, refl, sym, ap, ◌∙◌, subst, arith, slice_index_or, inl, inr}
use Rattle.std.specs.Prelude.{All}
use Rattle.std.specs.Option.{IsSomeAnd}
use Rattle.std.proofs.lemmas.List.{append-nil, get_or-take, get_or_append_left, take_all}
use mathlib.Core.List.{IsPrefix}
use Rattle.turn_cell.specs.Entries.{IsHistory}
use Rattle.std.proofs.Math.Seq.{drop-append_seam}
use Rattle.std.proofs.lemmas.List.{take-append-le}
use Rattle.turn_cell.specs.Passes.{CellId}
use Rattle.edge_core.specs.Faults.{Rose}
use Rattle.edge_core.specs.Lines.{ClosedLine}
use Rattle.edge_core.specs.Objects.{Objects}
use Rattle.share_book.specs.declared.entry.Entry.{Entry}
use Rattle.share_book.specs.History.{caller_of}
use Rattle.share_book.specs.Legal.{May}
use Rattle.share_config.specs.declared.config.Config.{Config}
use Rattle.hub_catalog.specs.CatalogCalls.{Step}
use Rattle.hub_calls.specs.Calls.{P}
use Rattle.hub_catalog.specs.Opens.{first_history}
use Rattle.share_pool.specs.Desks.{DeskWorks, HasPass, all_end}
use Rattle.share_pool.specs.OneHistory.{OneAt, Stands}
use Rattle.share_pool.proofs.Histories.{prefix_more}
use Rattle.share_pool.specs.declared.desk.Desk.{Desk}
use Rattle.share_pool.specs.declared.desk.ServeEnd.{ServeEnd}
use Rattle.share_pool.specs.declared.desk.ServeEnd.TheVariants as serve_end
use Rattle.share_serve.specs.Callers.{server_of}
use Rattle.share_serve.specs.declared.server.Server.{Server}
use Rattle.turn_cell.specs.Passes.{AllFresh, fresh}
use Rattle.query_command.specs.Outside.{Outside}
use Rattle.share_commands.specs.Serve.{AllWait, DoorFails, IsServing, OpensServer, Serves, ServesAt, UsesDesks, Waits, WorkersServe, WorksAt, end_of}
use Rattle.share_commands.specs.Stdio.{Configures, IsUnserved, end_without}
use Rattle.share_commands.specs.StdioSteps.{LooksOnly, OpensFor}
use Rattle.query_command.specs.Writing.{Tells}
use Rattle.share_commands.specs.Steps.{Runs}
use Rattle.query_command.specs.declared.ends.End.{End}
use Rattle.query_command.specs.declared.ends.End.TheVariants as ends
use Rattle.share_commands.specs.declared.opening.NoServer.{NoServer}
use Rattle.share_commands.specs.declared.opening.NoServer.TheVariants as no_server
use Rattle.share_commands.specs.declared.words.Command.{Command}
use Rattle.share_commands.specs.declared.words.Command.TheVariants as command
use Rattle.share_commands.proofs.Runs.{opens_told, unserved_still, unserved_told}

-- the pass of each number
fresh_at : (hub : CellId) (h : List Entry) (ps : List P) (n i : ℕ) (p : P) → AllFresh hub h n ps → i < length ps → slice_index_or ps i p ≡ fresh hub (n + i) h
fresh_at hub h [] n i p all less = absurd (omega (arith, less))
fresh_at hub h (q ∷ ps) n zero p all less =
    let same : n ≡ n + zero = omega arith in
    all.0 ∙ ap (λ z. fresh hub z h) same
fresh_at hub h (q ∷ ps) n (suc i) p all less =
    let same : n + 1 + i ≡ n + suc i = omega arith in
    fresh_at hub h ps (n + 1) i p all.1 (omega (arith, less)) ∙ ap (λ z. fresh hub z h) same

numbered : (hub : CellId) (h : List Entry) (ps : List P) (i : ℕ) (p : P) → AllFresh hub h 0 ps → i < length ps → slice_index_or ps i p ≡ fresh hub i h
numbered hub h ps i p all less =
    let same : 0 + i ≡ i = omega arith in
    fresh_at hub h ps 0 i p all less ∙ ap (λ z. fresh hub z h) same

module _ {N W C L : Type 0} (coming : N → Option (List (List ℕ))) (closed : N → Option (List ClosedLine)) (failed : N → ℕ) (listens : N → Option ℕ) (moments : C → Option (List ℕ)) (objects : W → Option Objects) (alone : W → Bool) (faults : W → ℕ) (stored : W → ℕ) where
  -- each desk that was made ready has its pass
  abbrev pub Seated : List P → ℕ → List (Desk N W C L) → Type 0
  Seated passes n desks = (i : ℕ) (d : Desk N W C L) (p : P) → i < n → (slice_index_or desks i d).pass ≡ Some (slice_index_or passes i p)

  seat_of : (hub : CellId) (h : List Entry) (passes : List P) (desks : List (Desk N W C L)) (n : ℕ) → AllFresh hub h 0 passes → n ≤ length passes → Seated passes n desks
      → (i : ℕ) (d : Desk N W C L) → i < n → (slice_index_or desks i d).pass ≡ Some (fresh hub i h)
  seat_of hub h passes desks n all enough ready i d less = ready i d (fresh hub i h) less ∙ ap Some (numbered hub h passes i (fresh hub i h) all (omega (arith, less, enough)))

  pub has_pass : (hub : CellId) (h : List Entry) (passes : List P) (desks : List (Desk N W C L)) (n : ℕ) → AllFresh hub h 0 passes → n ≤ length passes → Seated passes n desks → (i : ℕ) (d : Desk N W C L) → i < n → HasPass hub (slice_index_or desks i d).pass
  has_pass hub h passes desks n all enough ready i d less = subst (HasPass hub) (sym (seat_of hub h passes desks n all enough ready i d less)) (refl, refl)

  -- the history of all begins with what the hub was opened with, as what the first worker has seen does
  begun_by : (hub : CellId) (h history : List Entry) (server : Server) (ready last : Desk N W C L) → ready.pass ≡ Some (fresh hub 0 h) → DeskWorks coming closed failed listens moments objects alone faults stored hub server ready last → IsSomeAnd last.pass (Stands history) → IsPrefix h history
  begun_by hub h history server ready last is w stands =
      let before : w.before ≡ fresh hub 0 h = cc (w.had, is) in
      prefix_more h w.after.seen history (subst (λ (p : P). IsPrefix p.seen w.after.seen) before w.same.seen) (subst (λ (o : Option P). IsSomeAnd o (Stands history)) w.has stands).0

  begun_all : (hub : CellId) (h history : List Entry) (server : Server) (ready last : List (Desk N W C L)) → 0 < length last → ((d : Desk N W C L) → (slice_index_or ready 0 d).pass ≡ Some (fresh hub 0 h))
      → ((d : Desk N W C L) → DeskWorks coming closed failed listens moments objects alone faults stored hub server (slice_index_or ready 0 d) (slice_index_or last 0 d)) → All (λ d. IsSomeAnd d.pass (Stands history)) last → IsPrefix h history
  begun_all hub h history server ready [] some seat works each = absurd (omega (arith, some))
  begun_all hub h history server ready (x ∷ xs) some seat works each = begun_by hub h history server (slice_index_or ready 0 x) x (seat x) (works x) (each 0 x (omega arith))

  pub all_serve : (hub : CellId) (server : Server) (config : Config) (found : List Step) (port : ℕ) (passes : List P) (first ready last : List (Desk N W C L)) (n : ℕ) (e : ServeEnd) → server ≡ server_of config → AllFresh hub (first_history found) 0 passes → n ≤ length passes
      → AllWait coming closed failed listens moments objects alone faults stored n first ready → Seated passes n ready → ((i : ℕ) (d : Desk N W C L) → i < n → listens (slice_index_or ready i d).door ≡ Some port)
      → ((i : ℕ) (d : Desk N W C L) → i < n → DeskWorks coming closed failed listens moments objects alone faults stored hub server (slice_index_or ready i d) (slice_index_or last i d)) → e ≡ all_end (map (λ d. d.end) last) → length last ≡ n
      → 0 < n → (history : List Entry) → OneAt (max 1 n) last history → WorkersServe coming closed failed listens moments objects alone faults stored config found port n e first last
  all_serve hub server config found port passes first ready last n e is all enough waits seated listen works end count some history one = record {
    hub = hub;
    each = λ i d less. (
      slice_index_or ready i d,
      waits i d less,
      seat_of hub (first_history found) passes ready n all enough seated i d less,
      listen i d less,
      subst (λ s. DeskWorks coming closed failed listens moments objects alone faults stored hub s (slice_index_or ready i d) (slice_index_or last i d)) is (works i d less),
    );
    end = end ∙ ap (λ l. all_end (map (λ (d : Desk N W C L). d.end) l)) (sym (take_all n last (omega (arith, count))));
    history = history;
    begins = begun_all hub (first_history found) history server ready last (omega (arith, count, some)) (λ d. seat_of hub (first_history found) passes ready n all enough seated 0 d some) (λ d. works 0 d some) one.each;
    one = subst (λ (l : List (Desk N W C L)). OneAt (max 1 n) l history) (sym (take_all n last (omega (arith, count)))) one;
  }

  -- ---- the desks that were used are the first of all

  -- so many of the desks came to these
  pub record Front (used : ℕ) (desks part desks' : List (Desk N W C L)) : Type 0 where
    pub most : used ≤ length desks
    pub count : length part ≡ used
    pub rest : desks' ≡ part ++ drop used desks

  first_of : (used : ℕ) (desks part desks' : List (Desk N W C L)) → Front used desks part desks' → (i : ℕ) (d : Desk N W C L) → i < used → slice_index_or part i d ≡ slice_index_or desks' i d
  first_of used desks part desks' f i d less = sym (ap (λ l. slice_index_or l i d) f.rest ∙ get_or_append_left part (drop used desks) d i (let c = f.count in omega (arith, c, less)))

  pub behind : (used : ℕ) (desks part desks' : List (Desk N W C L)) → Front used desks part desks' → drop used desks' ≡ drop used desks
  behind used desks part desks' f = ap (drop used) f.rest ∙ ap (λ n. drop n (part ++ drop used desks)) (sym f.count) ∙ drop-append_seam part (drop used desks)

  front : (used : ℕ) (desks part desks' : List (Desk N W C L)) → Front used desks part desks' → take used desks' ≡ part
  front used desks part desks' f = ap (take used) f.rest ∙ take-append-le used part (drop used desks) (let c = f.count in omega (arith, c)) ∙ take_all used part (let c = f.count in omega (arith, c))

  -- what holds of a desk before and after holds of it among all
  among : (Q : ℕ → Desk N W C L → Desk N W C L → Type 0) (used : ℕ) (desks part desks' : List (Desk N W C L)) → Front used desks part desks' → (i : ℕ) (d : Desk N W C L) → i < used → Q i (slice_index_or (take used desks) i d) (slice_index_or part i d)
      → Q i (slice_index_or desks i d) (slice_index_or desks' i d)
  among Q used desks part desks' f i d less q =
      subst (λ x. Q i (slice_index_or desks i d) x) (first_of used desks part desks' f i d less) (subst (λ x. Q i x (slice_index_or part i d)) (get_or-take used desks i d less) q)

  pub door_fails : (used : ℕ) (desks part desks' : List (Desk N W C L)) → Front used desks part desks' → DoorFails coming closed failed listens moments objects alone faults stored used (take used desks) part → DoorFails coming closed failed listens moments objects alone faults stored used desks desks'
  door_fails used desks part desks' f (waits, (i, less, rose)) =
      ((λ j d below. among (λ n x y. Waits coming closed failed listens moments objects alone faults stored x y) used desks part desks' f j d below (waits j d below)), (i, less, λ d. among (λ n x y. Rose (failed x.door) (failed y.door)) used desks part desks' f i d less (rose d)))

  pub workers_serve : (config : Config) (found : List Step) (port used : ℕ) (e : ServeEnd) (desks part desks' : List (Desk N W C L)) → Front used desks part desks'
      → WorkersServe coming closed failed listens moments objects alone faults stored config found port used e (take used desks) part → WorkersServe coming closed failed listens moments objects alone faults stored config found port used e desks desks'
  workers_serve config found port used e desks part desks' f w = record {
    hub = w.hub;
    each = λ i d less. among (WorksAt coming closed failed listens moments objects alone faults stored w.hub config found port) used desks part desks' f i d less (w.each i d less);
    end = w.end ∙ ap (λ l. all_end (map (λ (d : Desk N W C L). d.end) l)) (take_all used part (let c = f.count in omega (arith, c)) ∙ sym (front used desks part desks' f));
    history = w.history;
    begins = w.begins;
    one = subst (λ (l : List (Desk N W C L)). OneAt (max 1 used) l w.history) (take_all used part (let c = f.count in omega (arith, c)) ∙ sym (front used desks part desks' f)) w.one;
  }

  -- ---- a run of `serve`

  -- workers at the first desks came to what a run says of all
  pub first_serve : (config : Config) (found : List Step) (port used n : ℕ) (e : ServeEnd) (desks part desks' : List (Desk N W C L)) → n ≡ used → Front used desks part desks'
      → IsServing coming closed failed listens moments objects alone faults stored config found port n e (take used desks) part → IsServing coming closed failed listens moments objects alone faults stored config found port used e desks desks'
  first_serve config found port used n e desks part desks' is f (inl (fails, end)) =
      inl (door_fails used desks part desks' f (subst (λ k. DoorFails coming closed failed listens moments objects alone faults stored k (take used desks) part) is fails), end)
  first_serve config found port used n e desks part desks' is f (inr w) =
      inr (workers_serve config found port used e desks part desks' f (subst (λ k. WorkersServe coming closed failed listens moments objects alone faults stored config found port k e (take used desks) part) is w))

  -- with no desk no worker ended
  pub none_serve : (hub : CellId) (config : Config) (found : List Step) (port n : ℕ) (first last : List (Desk N W C L)) → n ≡ 0 → IsHistory caller_of May (max 1 n) (first_history found) → WorkersServe coming closed failed listens moments objects alone faults stored config found port n (serve_end.Closed 0) first last
  none_serve hub config found port n first last none known = record {
    hub = hub;
    each = λ i d less. absurd (omega (arith, less, none));
    end = ap (λ k. all_end (map (λ (d : Desk N W C L). d.end) (take k last))) (sym none);
    history = first_history found;
    begins = ([], append-nil (first_history found));
    one = record {
      known = known;
      each = subst (λ k. All (λ (d : Desk N W C L). IsSomeAnd d.pass (Stands (first_history found))) (take k last)) (sym none) (λ i d less. absurd (omega (arith, less)));
    };
  }

  pub serves_at : (config : Config) (found : List Step) (port used workers : ℕ) (e : ServeEnd) (end : End) (old new : Outside) (desks part desks' : List (Desk N W C L)) → used ≡ min workers (length desks) → Front used desks part desks' → end ≡ end_of e → OpensServer config found old new
      → IsServing coming closed failed listens moments objects alone faults stored config found port used e desks desks' → Serves coming closed failed listens moments objects alone faults stored port workers old new end desks desks'
  serves_at config found port used workers e end old new desks part desks' is f ends opens serving =
      subst (λ k. ServesAt coming closed failed listens moments objects alone faults stored port k old new end desks desks') is (inr (e, ends, (config, found, opens, serving, behind used desks part desks' f)))

  -- what a run says of the desks it says of the outside as the notes leave it
  pub desks_told : (asked : Option Command) (old mid new : Outside) (text : List ℕ) (end : End) (desks desks' : List (Desk N W C L)) → Tells mid new text → UsesDesks coming closed failed listens moments objects alone faults stored asked old mid end desks desks'
      → UsesDesks coming closed failed listens moments objects alone faults stored asked old new end desks desks'
  desks_told None old mid new text end desks desks' tells u = u
  desks_told (Some command.Help) old mid new text end desks desks' tells u = u
  desks_told (Some command.Version) old mid new text end desks desks' tells u = u
  desks_told (Some (command.Query location)) old mid new text end desks desks' tells u = u
  desks_told (Some command.Stdio) old mid new text end desks desks' tells u = u
  desks_told (Some (command.Rehearse number)) old mid new text end desks desks' tells u = u
  desks_told (Some (command.Client name call_words)) old mid new text end desks desks' tells u = u
  desks_told (Some (command.Serve port workers)) old mid new text end desks desks' tells (inl (why, is, u, same)) = inl (why, is, unserved_told why old mid new text tells u, same)
  desks_told (Some (command.Serve port workers)) old mid new text end desks desks' tells (inr (e, is, (config, found, o, serving, rest))) = inr (e, is, (config, found, opens_told config found old mid new text tells o, serving, rest))

  pub desks_still : (asked : Option Command) (o : Outside) (desks : List (Desk N W C L)) → UsesDesks coming closed failed listens moments objects alone faults stored asked o o ends.NoMemory desks desks
  desks_still None o desks = refl
  desks_still (Some command.Help) o desks = refl
  desks_still (Some command.Version) o desks = refl
  desks_still (Some (command.Query location)) o desks = refl
  desks_still (Some command.Stdio) o desks = refl
  desks_still (Some (command.Rehearse number)) o desks = refl
  desks_still (Some (command.Client name call_words)) o desks = refl
  desks_still (Some (command.Serve port workers)) o desks = inl (no_server.NoMemory, refl, unserved_still o, refl)

-- ---- the edge

pub opens_server : (config : Config) (callers : ℕ) (hub : CellId) (passes : List P) (old mid : Outside) → LooksOnly old mid → Configures (Some config) old.objects mid.objects → (opens : OpensFor callers hub passes old.objects mid.objects) → OpensServer config opens.found old mid
opens_server config callers hub passes old mid looks configured opens = record {
  looked = looks.looked;
  stored = looks.stored;
  configured = configured;
  steps = opens.steps;
  last = opens.last;
  left = ap (λ o. o.left) looks.rest;
  held = ap (λ o. o.held) looks.rest;
  coming = ap (λ o. o.coming) looks.rest;
}

pub hosted_runs : (port workers : ℕ) (config : Config) (found : List Step) (e : ServeEnd) (end : End) (old mid : Outside) → LooksOnly old mid → end ≡ end_of e → OpensServer config found old mid → Runs (Some (command.Serve port workers)) old mid end
hosted_runs port workers config found e end old mid looks is opens = record {
  means = inr (e, is, (config, found, opens));
  notes = ap (λ o. o.noted) looks.rest;
  note_faults = ap (λ o. o.note_faults) looks.rest;
  grows = looks.looked.grows;
  same = looks.looked.same;
  stored = looks.stored;
}

pub unhosted_runs : (port workers : ℕ) (why : NoServer) (end : End) (old mid : Outside) → LooksOnly old mid → end ≡ end_without why → IsUnserved why old mid → Runs (Some (command.Serve port workers)) old mid end
unhosted_runs port workers why end old mid looks is unserved = record {
  means = inl (why, is, unserved);
  notes = ap (λ o. o.noted) looks.rest;
  note_faults = ap (λ o. o.note_faults) looks.rest;
  grows = looks.looked.grows;
  same = looks.looked.same;
  stored = looks.stored;
}
