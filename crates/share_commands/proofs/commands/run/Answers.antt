use Rattle.std.proofs.Common.{◌≡◌, ℕ, ◌≤◌, ◌++◌, ◌∙◌, length, max, min, take, drop, Some, None, refl, sym, ap, subst, arith, inl}
use Rattle.std.proofs.lemmas.List.{length-take}
use Rattle.turn_cell.specs.Entries.{IsHistory}
use Rattle.share_book.specs.History.{caller_of}
use Rattle.share_book.specs.Legal.{May}
use Rattle.hub_catalog.specs.Opens.{first_history}
use Rattle.query_command.specs.Ends.{note}
use Rattle.share_commands.specs.Steps.{Runs}
use Rattle.share_commands.specs.Words.{command_in}
use Rattle.share_commands.specs.declared.words.Command.TheVariants as command
use Rattle.share_commands.proofs.Acting.{Acts, acts_as}
use Rattle.share_commands.proofs.Calling.{client_runs, way_still, way_told}
use Rattle.share_commands.proofs.Hosting.{Front, desks_still, desks_told, first_serve, hosted_runs, opens_server, serves_at, unhosted_runs}
use Rattle.share_commands.proofs.Laws.{alone_law, exact_law}
use Rattle.share_commands.proofs.Numbers.{workers_bounded}
use Rattle.share_commands.proofs.Runs.{help_runs, query_runs, runs_still, told_runs, version_runs, wordless_runs}
use Rattle.share_commands.proofs.Serving.{unserved}
use Rattle.share_commands.proofs.commands.run.Goals.{in-Ok-Some-Help, in-Ok-Some-Version, in-Ok-Some-Query, in-Ok-Some-Stdio, in-Ok-Some-Rehearse, in-Ok-Some-Serve, in-Ok, in-Err-open_over, in-Ok-Some-Client, in-Ok-None, in-Err}
use Rattle.share_commands.proofs.commands.run.Goals as goal

pub callers_at-requires : goal.callers_at-requires
callers_at-requires g c =
    let bounds = workers_bounded c.args.words.now c.in-Ok-Some-Serve.port c.in-Ok-Some-Serve.workers (sym c.in-Ok-Some-Serve.ensures ∙ c.in-Ok-Some-Serve.field-0-is ∙ ap Some c.in-Ok-Some-Serve.field-0-0-is) in
    let most = bounds.1 in
    let used = c.used_desks-used.ensures in
    omega (arith, most, used)

pub open_over-requires : goal.open_over-requires
open_over-requires g c =
    let bounds = workers_bounded c.args.words.now c.in-Ok-Some-Serve.port c.in-Ok-Some-Serve.workers (sym c.in-Ok-Some-Serve.ensures ∙ c.in-Ok-Some-Serve.field-0-is ∙ ap Some c.in-Ok-Some-Serve.field-0-0-is) in
    let most = bounds.1 in
    let is = c.callers_at.ensures in
    let used = c.used_desks-used.ensures in
    record { callers = (omega (arith, is), omega (arith, is, used, most)) }

pub returns-clause-cause : goal.returns-clause-cause
returns-clause-cause g c =
    let asked = command_in c.args.words.now in
    let was = c.args.edge.now in
    let mid = c.match-command_of.edge in
    let end = c.match-command_of.end in
    let desks = c.args.desks.now in
    let way = c.args.way.now in
    let same = acts_as g.N.Listener.coming g.N.Listener.closed g.N.Listener.faults g.N.Listener.listens g.C.Clock.coming g.W.Store.objects g.W.Store.alone g.W.Store.faults g.W.Store.stored g.V.Link.coming g.V.Link.closed g.V.Link.faults g.V.Link.read_faults g.V.Link.write_faults in
    let acts : Acts g.N.Listener.coming g.N.Listener.closed g.N.Listener.faults g.N.Listener.listens g.C.Clock.coming g.W.Store.objects g.W.Store.alone g.W.Store.faults g.W.Store.stored g.V.Link.coming g.V.Link.closed g.V.Link.faults g.V.Link.read_faults g.V.Link.write_faults asked was mid end desks c.match-command_of.desks way c.match-command_of.way' = elim c.match-command_of.branch [
      | in-Ok-Some-Help w ↦ same (Some command.Help) _ _ _ _ _ _ _ _ _ _ _ _ (ap Some (sym w.in-Ok-Some-Help.field-0-0-is) ∙ sym w.in-Ok-Some-Help.field-0-is ∙ w.in-Ok-Some-Help.ensures) w.edge-is w.end-is w.desks-is w.way'-is (record { runs = help_runs _ _ _ _ w.as_bytes.ensures.value w.print-end.ensures.prints; by_desks = refl; by_way = refl })
      | in-Ok-Some-Version w ↦ same (Some command.Version) _ _ _ _ _ _ _ _ _ _ _ _ (ap Some (sym w.in-Ok-Some-Version.field-0-0-is) ∙ sym w.in-Ok-Some-Version.field-0-is ∙ w.in-Ok-Some-Version.ensures) w.edge-is w.end-is w.desks-is w.way'-is (record { runs = version_runs _ _ _ _ w.as_bytes-in-Ok-Some-Version.ensures.value w.print-end-in-Ok-Some-Version.ensures.prints; by_desks = refl; by_way = refl })
      | in-Ok-Some-Query w ↦ same (Some (command.Query w.in-Ok-Some-Query.location)) _ _ _ _ _ _ _ _ _ _ _ _ (ap Some (sym w.in-Ok-Some-Query.field-0-0-is) ∙ sym w.in-Ok-Some-Query.field-0-is ∙ w.in-Ok-Some-Query.ensures) w.edge-is w.end-is w.desks-is w.way'-is (record { runs = subst (λ l. Runs (Some (command.Query l)) was w.query-end.new.edge w.query-end.result) w.name.ensures.value (query_runs _ _ _ _ w.query-end.ensures); by_desks = refl; by_way = refl })
      | in-Ok-Some-Stdio w ↦ same (Some command.Stdio) _ _ _ _ _ _ _ _ _ _ _ _ (ap Some (sym w.in-Ok-Some-Stdio.field-0-0-is) ∙ sym w.in-Ok-Some-Stdio.field-0-is ∙ w.in-Ok-Some-Stdio.ensures) w.edge-is w.end-is w.desks-is w.way'-is (record { runs = w.stdio-end.ensures; by_desks = refl; by_way = refl })
      | in-Ok-Some-Rehearse w ↦ same (Some (command.Rehearse w.in-Ok-Some-Rehearse.number)) _ _ _ _ _ _ _ _ _ _ _ _ (ap Some (sym w.in-Ok-Some-Rehearse.field-0-0-is) ∙ sym w.in-Ok-Some-Rehearse.field-0-is ∙ w.in-Ok-Some-Rehearse.ensures) w.edge-is w.end-is w.desks-is w.way'-is (record { runs = w.rehearsal-end.ensures; by_desks = refl; by_way = refl })
      | in-Ok-Some-Serve w ↦
          let port = w.in-Ok-Some-Serve.port in
          let workers = w.in-Ok-Some-Serve.workers in
          let next = w.open_over.new.edge in
          let asks = ap Some (sym w.in-Ok-Some-Serve.field-0-0-is) ∙ sym w.in-Ok-Some-Serve.field-0-is ∙ w.in-Ok-Some-Serve.ensures in
          elim w.match-open_over.branch [
            | in-Ok v ↦
                let looks = v.in-Ok.ensures.looks in
                let opened = v.in-Ok.ensures.opened in
                let config = opened.0.0 in
                let found = opened.1.found in
                let opens = opens_server config w.callers_at.result v.in-Ok.opened.hub v.in-Ok.opened.passes.items was next looks opened.0.2 opened.1 in
                let used = w.used_desks-used.result in
                let part = v.serve.new.desks in
                let is : used ≡ min workers (length desks) = w.used_desks-used.ensures in
                let few : length (take used desks) ≡ used = (let a = length-take used desks in omega (arith, a, is)) in
                let most : used ≤ length desks = omega (arith, is) in
                let front : Front g.N.Listener.coming g.N.Listener.closed g.N.Listener.faults g.N.Listener.listens g.C.Clock.coming g.W.Store.objects g.W.Store.alone g.W.Store.faults g.W.Store.stored used desks part (part ++ drop used desks) = record { most = most; count = v.serve.ensures.count ∙ few; rest = refl } in
                let known = subst (λ (k : ℕ). IsHistory caller_of May k (first_history found)) (w.callers_at.ensures ∙ ap (max 1) (sym few)) opened.1.known in
                let serves = v.serve.ensures.serves config found opened.0.1 opened.1.begin known in
                let by_desks = serves_at g.N.Listener.coming g.N.Listener.closed g.N.Listener.faults g.N.Listener.listens g.C.Clock.coming g.W.Store.objects g.W.Store.alone g.W.Store.faults g.W.Store.stored config found port used workers serves.0 v.serve.result was next desks part (part ++ drop used desks) is front serves.1 opens (first_serve g.N.Listener.coming g.N.Listener.closed g.N.Listener.faults g.N.Listener.listens g.C.Clock.coming g.W.Store.objects g.W.Store.alone g.W.Store.faults g.W.Store.stored config found port used (length (take used desks)) serves.0 desks part (part ++ drop used desks) few front serves.2) in
                same (Some (command.Serve port workers)) _ _ _ _ _ _ _ _ _ _ _ _ asks w.edge-is (w.end-is ∙ v.end-is) (w.desks-is ∙ v.desks-is) w.way'-is (record { runs = hosted_runs port workers config found serves.0 v.serve.result was next looks serves.1 opens; by_desks = by_desks; by_way = refl })
            | in-Err-open_over v ↦
                let why = v.in-Err-open_over.why in
                let looks = v.in-Err-open_over.ensures.looks in
                let none = unserved why was next looks v.in-Err-open_over.ensures.opened in
                same (Some (command.Serve port workers)) _ _ _ _ _ _ _ _ _ _ _ _ asks w.edge-is (w.end-is ∙ v.end-is) (w.desks-is ∙ v.desks-is) w.way'-is (record { runs = unhosted_runs port workers why v.end_without.result was next looks v.end_without.ensures none; by_desks = inl (why, v.end_without.ensures, none, refl); by_way = refl })
          ]
      | in-Ok-Some-Client w ↦ same (Some (command.Client w.in-Ok-Some-Client.profile w.in-Ok-Some-Client.call_words)) _ _ _ _ _ _ _ _ _ _ _ _ (ap Some (sym w.in-Ok-Some-Client.field-0-0-is) ∙ sym w.in-Ok-Some-Client.field-0-is ∙ w.in-Ok-Some-Client.ensures) w.edge-is w.end-is w.desks-is w.way'-is (record { runs = client_runs g.V.Link.coming g.V.Link.closed g.V.Link.faults g.V.Link.read_faults g.V.Link.write_faults w.in-Ok-Some-Client.profile w.in-Ok-Some-Client.call_words was w.client-end.new.edge w.client-end.result way w.client-end.new.way w.client-end.ensures.runs w.client-end.ensures.notes; by_desks = refl; by_way = w.client-end.ensures.runs })
      | in-Ok-None w ↦ same None _ _ _ _ _ _ _ _ _ _ _ _ (sym w.in-Ok-None.field-0-is ∙ w.in-Ok-None.ensures) w.edge-is w.end-is w.desks-is w.way'-is (record { runs = wordless_runs was; by_desks = refl; by_way = refl })
      | in-Err w ↦ same asked _ _ _ _ _ _ _ _ _ _ _ _ refl w.edge-is w.end-is w.desks-is w.way'-is (record { runs = runs_still asked was; by_desks = desks_still g.N.Listener.coming g.N.Listener.closed g.N.Listener.faults g.N.Listener.listens g.C.Clock.coming g.W.Store.objects g.W.Store.alone g.W.Store.faults g.W.Store.stored asked was desks; by_way = way_still g.V.Link.coming g.V.Link.closed g.V.Link.faults g.V.Link.read_faults g.V.Link.write_faults asked was way })
    ] in (
      end,
      c.status.ensures,
      told_runs _ _ _ _ _ acts.runs c.tell.ensures,
      desks_told g.N.Listener.coming g.N.Listener.closed g.N.Listener.faults g.N.Listener.listens g.C.Clock.coming g.W.Store.objects g.W.Store.alone g.W.Store.faults g.W.Store.stored asked was mid c.tell.new.edge (note end) end desks c.match-command_of.desks c.tell.ensures acts.by_desks,
      way_told g.V.Link.coming g.V.Link.closed g.V.Link.faults g.V.Link.read_faults g.V.Link.write_faults asked was mid c.tell.new.edge (note end) end way c.match-command_of.way' c.tell.ensures acts.by_way,
    )

pub returns-clause-exact : goal.returns-clause-exact
returns-clause-exact g c = let cause = returns-clause-cause g c in exact_law c.args.words.now c.args.edge.now c.tell.new.edge cause.0 _ cause.1 cause.2

pub returns-clause-alone : goal.returns-clause-alone
returns-clause-alone g c = let cause = returns-clause-cause g c in alone_law c.args.words.now c.args.edge.now c.tell.new.edge cause.0 _ cause.1 cause.2
