use Rattle.std.proofs.Common.{ℕ, Contains, nat_eq, ap, subst}
use Rattle.log_replay.specs.State.{State}
use Rattle.lru.specs.LruCache.{LruCache}
use Rattle.lru.proofs.CallerLemmas.{Contains-promoted}
use Rattle.share_book.proofs.snapshots.Snapshots.touch.Goals as goal

pub returns : goal.returns
returns c = λ e h.
    let promoted = ap (λ (x : LruCache ℕ State). x.entries) c.promote.ensures.entries in
    subst (λ l. Contains l e) c.self.view_is (Contains-promoted (nat_eq c.args.version) c.self.inside.by_version.entries e (subst (λ l. Contains l e) promoted h))
