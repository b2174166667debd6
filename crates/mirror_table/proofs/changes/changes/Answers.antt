use Rattle.std.proofs.Common.{◌∙◌, ◌++◌, ap, map, sym}
use Rattle.std.specs.Prelude.{option_map}
use Rattle.log_actions.specs.declared.actions.Action.TheVariants as action
use Rattle.log_replay.specs.Applied.{found}
use Rattle.log_replay.specs.Reconciliation.{live_files}
use Rattle.mirror_table.specs.Goals.{goal_of}
use Rattle.mirror_table.specs.Targets.{adds, files_of}
use Rattle.mirror_table.proofs.Following.{are_whole, map_adds}
use Rattle.mirror_table.proofs.changes.changes.Goals as goal

pub returns : goal.returns
returns c =
    let files = c.args.shared.now.files.now in
    let acts = map (λ f. action.Add f.now) files in
    are_whole (option_map (λ s. s.now) c.args.state) c.args.now (goal_of c.args.shared.now) acts (found c.in_ok-wanted.wanted) (map (λ f. f.now) c.in_ok-files.files.items)
    c.in_ok-actions.actions.items c.push_protocol.new.actions.items c.push_meta.new.actions.items c.push_removes.new.actions.items c.push_adds.new.actions.items
    (record {
      by_path = c.in_ok-wanted.ensures;
      wanted = ap live_files (sym (map_adds files));
      sorted = c.in_ok-files.ensures acts c.in_ok-wanted.ensures;
      begun = c.in_ok-actions.ensures;
      protocol = c.in_ok-push_protocol.ensures;
      meta = c.in_ok-push_meta.ensures;
      removed = c.in_ok-push_removes.ensures;
      added = c.in_ok-push_adds.ensures ∙ ap (λ l. c.push_removes.new.actions.items ++ adds (files_of (option_map (λ s. s.now) c.args.state)) (map (λ f. f.now) l)) c.deref.ensures.value;
    })
