use Rattle.std.proofs.Common.{◌≡◌, ℕ, List, true, map, take}
use Rattle.log_actions.specs.Commits as rules
use Rattle.log_commit.specs.Passes.{holds}
use Rattle.mirror_table.proofs.TextLemmas.{among}
use Rattle.mirror_table.proofs.suits.are_distinct.Given as goal

abbrev pub invariant-loop-text : goal.invariant-loop-text
invariant-loop-text l = record {
  seen : (q : List ℕ) → holds l.seen q ≡ among (take l.text-index (map (λ t. t.now) l.texts)) q;
  distinct : rules.are_distinct (take l.text-index (map (λ t. t.now) l.texts)) ≡ true;
}
