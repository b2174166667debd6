-- What a command does up to the notes: to the outside, to the desks and to the way.
use Rattle.std.proofs.Common.{◌≡◌, ℕ, Bool, List, Option, sym, subst}
use Rattle.edge_core.specs.Lines.{ClosedLine, PeerLine}
use Rattle.edge_core.specs.Objects.{Objects}
use Rattle.share_pool.specs.declared.desk.Desk.{Desk}
use Rattle.query_command.specs.Outside.{Outside}
use Rattle.query_command.specs.declared.ends.End.{End}
use Rattle.share_commands.specs.Clients.{UsesWay}
use Rattle.share_commands.specs.Serve.{UsesDesks}
use Rattle.share_commands.specs.Steps.{Runs}
use Rattle.share_commands.specs.declared.words.Command.{Command}

module _ {N W C L V : Type 0} (coming : N → Option (List (List ℕ))) (closed : N → Option (List ClosedLine)) (failed : N → ℕ) (listens : N → Option ℕ) (moments : C → Option (List ℕ)) (objects : W → Option Objects) (alone : W → Bool) (faults : W → ℕ) (stored : W → ℕ) (peers : V → Option (List PeerLine)) (ended : V → Option (List ClosedLine)) (opens reads writes : V → ℕ) where
  pub record Acts (asked : Option Command) (old new : Outside) (end : End) (desks desks' : List (Desk N W C L)) (way way' : V) : Type 0 where
    pub runs : Runs asked old new end
    pub by_desks : UsesDesks coming closed failed listens moments objects alone faults stored asked old new end desks desks'
    pub by_way : UsesWay peers ended opens reads writes asked old new end way way'

  -- the same of what is equal
  pub acts_as : (asked asked' : Option Command) (old new new' : Outside) (end end' : End) (desks last last' : List (Desk N W C L)) (way past past' : V) → asked ≡ asked' → new' ≡ new → end' ≡ end → last' ≡ last → past' ≡ past
      → Acts asked old new end desks last way past → Acts asked' old new' end' desks last' way past'
  acts_as asked asked' old new new' end end' desks last last' way past past' is same_new same_end same_last same_past acts =
      subst (λ x. Acts x old new' end' desks last' way past') is
      (subst (λ x. Acts asked old x end' desks last' way past') (sym same_new)
      (subst (λ x. Acts asked old new x desks last' way past') (sym same_end) (subst (λ x. Acts asked old new end desks x way past') (sym same_last) (subst (λ x. Acts asked old new end desks last way x) (sym same_past) acts))))
