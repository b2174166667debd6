-- The versions that bounds mean, and what is found of them.
use Rattle.std.proofs.Common.{◌≡◌, ◌⊎◌, inl, inr, ℕ, ◌+◌, ◌≤◌, ◌<◌, List, [], ◌∷◌, Bool, true, false, cond, not, ◌&&◌, length, Ok, Err, option_and_then, refl, sym, ap, ◌∙◌, subst, arith}
use Rattle.std.specs.Prelude.{nat_lt, ◌==◌}
use Rattle.std.proofs.lemmas.Bool.Decides.{nat_tests}
use Rattle.log_actions.specs.declared.actions.Action.{Action}
use Rattle.log_replay.specs.State.{State, state_of}
use Rattle.log_replay.specs.Times.{marks_in, not_kept, resolved}
use Rattle.log_replay.specs.declared.times.Bound.{Bound}
use Rattle.log_replay.specs.declared.times.Bound.TheVariants as bound
use Rattle.log_replay.specs.declared.times.Mark.{Mark}
use Rattle.log_replay.specs.declared.times.Unresolved.TheVariants as unresolved
use Rattle.log_replay.proofs.TimeLemmas.{marks_end}
use Rattle.share_book.specs.History.{table_on}
use Rattle.share_book.specs.Legal.{log_at as number_at}
use Rattle.share_book.specs.Parts.{files_of, found_of, from_first, head_found, is_latest, resolved_at, up_to, version_found, with_files}
use Rattle.share_book.specs.Views.{Log, log_at, whole_log}
use Rattle.share_book.specs.declared.entry.Entry.{Entry}
use Rattle.share_book.specs.declared.look.Part.TheVariants as part
use Rattle.share_book.specs.declared.look.PartFound.{PartFound}
use Rattle.share_book.specs.declared.look.PartFound.TheVariants as part_found
use Rattle.share_book.specs.declared.look.TableRefusal.TheVariants as refusal
use Rattle.share_book.proofs.Versions.{IsWhole, resolved_kept, seen_whole, state_whole, states_whole}
use Rattle.share_catalog.specs.Views.{Spot, spot_with}
use Rattle.share_catalog.specs.declared.edit.Binding.{Binding}
use Rattle.share_serve.specs.Entitled.{Means, Tells}

-- ---- a whole log

pub whole_at : (point : List Entry) (location : List ℕ) → IsWhole (log_at point location)
whole_at point location = seen_whole (option_and_then (λ number. table_on number point) (number_at point location))

-- ---- a version

latest_is : (marks : List Mark) (blocked : Bool) (version : ℕ) → version + 1 ≡ length marks → blocked ≡ false → resolved marks blocked bound.Latest ≡ Ok version
latest_is [] blocked version last free = absurd (omega (arith, last))
latest_is (m ∷ ms) blocked version last free =
    let same : length ms ≡ version = omega (arith, last) in
    ap (λ (b : Bool). cond (b && (length ms == length ms)) (Err unresolved.Unsupported) (Ok (length ms))) free ∙ ap (λ (n : ℕ). Ok n) same

version_is : (marks : List Mark) (blocked : Bool) (n : ℕ) → n < length marks → resolved marks blocked (bound.Version n) ≡ Ok n
version_is [] blocked n kept = absurd (omega (arith, kept))
version_is (m ∷ ms) blocked n kept =
    let test : nat_lt n (length (m ∷ ms)) ≡ true = grind (arith, nat_tests, kept) in
    ap (λ (b : Bool). cond b (Ok n) (not_kept blocked unresolved.VersionRange)) test

resolved_of : (commits : List (List Action)) (blocked : Bool) (b : Bound) (version : ℕ) → Means (whole_log commits blocked) b version → resolved_at (whole_log commits blocked) b ≡ Ok version
resolved_of commits blocked bound.Latest version is = latest_is (marks_in commits) blocked version (is.0 ∙ sym (marks_end commits).0) is.1
resolved_of commits blocked (bound.Version n) version is =
    version_is (marks_in commits) blocked n (subst (λ (k : ℕ). n < k) (sym (marks_end commits).0) is.1) ∙ ap (λ (k : ℕ). Ok k) (sym is.0)
resolved_of commits blocked (bound.AtOrBefore moment) version is = is
resolved_of commits blocked (bound.AtOrAfter moment) version is = is

pub resolved_is : (log : Log) (b : Bound) (version : ℕ) → IsWhole log → Means log b version → resolved_at log b ≡ Ok version
resolved_is log b version whole is = subst (λ (l : Log). Means l b version → resolved_at l b ≡ Ok version) (sym whole) (resolved_of log.commits log.blocked b version) is

may_tell : (history : Bool) (b : Bound) → (history ≡ true) ⊎ (b ≡ bound.Latest) → (not history && not (is_latest b)) ≡ false
may_tell true b may = refl
may_tell false b (inl shown) = absurd cc
may_tell false b (inr latest) = ap (λ (x : Bound). not (is_latest x)) latest

-- what is found from the first version on that is shared
pub from_is : (first version : ℕ) (p : PartFound) → first ≤ version → from_first first version p ≡ p
from_is first version p le =
    let test : nat_lt version first ≡ false = grind (arith, nat_tests, le) in
    ap (λ (b : Bool). cond b (part_found.Refused (refusal.NotShared first)) p) test

module _ (log : Log) (whole : IsWhole log) (grant edition : ℕ) (binding : Binding) where
  abbrev spot : Spot
  spot = spot_with grant (binding, edition)

  pub head_is : (b : Bound) (version : ℕ) → Tells log binding b version → head_found spot log b ≡ part_found.Version version
  head_is b version tells =
      ap (λ (x : Bool). cond x (part_found.Refused refusal.NoHistory) (version_found spot (resolved_at log b))) (may_tell binding.history b tells.may)
      ∙ ap (version_found spot) (resolved_is log b version whole tells.means)
      ∙ from_is binding.first version (part_found.Version version) tells.from_first

  -- ---- its files

  pub files_are : (b : Bound) (version : ℕ) (state : State) → Tells log binding b version → state_of (up_to log version) ≡ Ok state → found_of spot log (part.Files b) ≡ part_found.Files version state
  files_are b version state tells is =
      let kept = resolved_kept log whole b version (resolved_is log b version whole tells.means) in
      ap (with_files log) (head_is b version tells) ∙ ap (files_of version) (state_whole log whole version kept ∙ is)

  pub pinned_files_are : (version : ℕ) (state : State) → version < length log.commits → binding.first ≤ version → state_of (up_to log version) ≡ Ok state → found_of spot log (part.PinnedFiles version) ≡ part_found.Files version state
  pinned_files_are version state kept le is =
      let all = states_whole log whole in
      let test : nat_lt version (length log.states) ≡ true = grind (arith, nat_tests, kept, all) in
      ap (λ (b : Bool). with_files log (cond b (from_first binding.first version (part_found.Version version)) (part_found.Refused refusal.Ahead))) test
      ∙ ap (with_files log) (from_is binding.first version (part_found.Version version) le)
      ∙ ap (files_of version) (state_whole log whole version kept ∙ is)
