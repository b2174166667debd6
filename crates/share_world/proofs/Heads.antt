-- The state after a log's commits, and whether the log takes a further one.
use Rattle.std.proofs.Common.{◌≡◌, ℕ, ◌<◌, ◌≤◌, ◌-◌, ◌^◌, ◌&&◌, Bool, nat_le, List, [], ◌∷◌, ◌++◌, length, Option, Some, None, Ok, sym, subst}
use Rattle.std.specs.Prelude.{is_none, min}
use Rattle.log_actions.specs.declared.actions.Action.{Action}
use Rattle.log_actions.specs.CommitTexts.{commit_text}
use Rattle.log_replay.specs.Standing.{IsSupported}
use Rattle.log_replay.specs.State.{IsHead, State, state_of}
use Rattle.log_replay.specs.Support.{refusal_of}
use Rattle.log_replay.specs.declared.refusal.ReplayRefusal.{ReplayRefusal}
use Rattle.share_book.specs.Bases.{IsStateIn, Makes, MakesHead}
use Rattle.share_book.specs.Legal.{IsKeptLog, There}
use Rattle.share_book.specs.TableView.{TableLog}
use Rattle.share_book.specs.Tables.{IsState}
use Rattle.share_book.specs.declared.replay.Replay.{Replay}
use Rattle.share_book.specs.declared.table.LogState.{LogState}
use Rattle.share_book.proofs.States.{head_stands}
use Rattle.share_world.specs.Worlds.{takes}
use Rattle.share_world.proofs.Taking.{counted_whole, tested}

abbrev KnownAs : Option TableLog → LogState → Type 0
KnownAs o s = There o (λ t. IsState t s × IsKeptLog t.commits)

-- a replay of a log that is kept makes the state of its commits
pub replay_of : (o : Option TableLog) (s : LogState) (r : Replay) → KnownAs o s → There o (λ t. MakesHead t.commits (Some r)) → (commits : List (List Action)) × IsSupported commits × (0 < length commits) × Makes commits r
replay_of None s r known makes = absurd makes
replay_of (Some t) s r known makes = (t.commits, known.1.0, makes.0, makes.1)

pub head_kept : (o : Option TableLog) (s : LogState) (r : Replay) (state : State) → KnownAs o s → There o (λ t. MakesHead t.commits (Some r)) → ((commits : List (List Action)) → IsSupported commits → Makes commits r → state_of commits ≡ Ok state) → There o (λ t. IsStateIn t.commits state)
head_kept None s r state known makes made = absurd makes
head_kept (Some t) s r state known makes made = head_stands t.commits state (made t.commits known.1.0 makes.1)

pub head_is : (o : Option TableLog) (s : LogState) (r : Replay) (state : State) → KnownAs o s → There o (λ t. MakesHead t.commits (Some r)) → ((commits : List (List Action)) → IsSupported commits → Makes commits r → state_of commits ≡ Ok state) → There o (λ t. IsHead t.commits (Some state))
head_is None s r state known makes made = absurd makes
head_is (Some t) s r state known makes made = made t.commits known.1.0 makes.1

pub no_head : (o : Option TableLog) → There o (λ t. MakesHead t.commits None) → There o (λ t. IsHead t.commits None)
no_head None w = absurd w
no_head (Some t) w = w

-- the test of a commit
pub test_is : (o : Option TableLog) (s : LogState) (head : Option State) (c : List Action) (r : Option ReplayRefusal) (len : ℕ) (a b : Bool) → KnownAs o s → There o (λ t. IsHead t.commits head)
    → ((log : List (List Action)) → length log ≡ s.kept → IsHead log head → refusal_of (log ++ c ∷ []) ≡ r) → len ≡ min (length (commit_text c)) (2 ^ 64 - 1) → a ≡ is_none r → b ≡ nat_le len (2 ^ 26 - s.bytes)
    → There o (λ t. (a && b) ≡ takes t.commits c)
test_is None s head c r len a b known is refused counted x y = absurd known
test_is (Some t) s head c r len a b known is refused counted x y =
    tested t.commits c s.bytes len r a b known.0.bytes (subst (λ (n : ℕ). n ≤ 2 ^ 26) (sym known.0.bytes) known.1.1) counted (refused t.commits (sym known.0.kept) is) x y

-- the length of a commit that a log takes
pub text_counted : (o : Option TableLog) (c : List Action) (len : ℕ) → len ≡ min (length (commit_text c)) (2 ^ 64 - 1) → There o (λ t. (t.block ≡ None) × IsKeptLog (t.commits ++ c ∷ [])) → len ≡ length (commit_text c)
text_counted None c len is w = absurd w
text_counted (Some t) c len is w = counted_whole t.commits c len is w.1.1
