use Rattle.std.proofs.Common.{inl, inr, ℕ, Contains, nat_eq, ap, subst}
use Rattle.log_replay.specs.State.{State}
use Rattle.lru.specs.LruCache.{LruCache}
use Rattle.lru.proofs.CallerLemmas.{Contains-put_entries}
use Rattle.share_book.proofs.snapshots.Snapshots.keep.Goals as goal

pub returns-in-Ok : goal.returns-in-Ok
returns-in-Ok c = λ e h.
    let put = ap (λ (x : LruCache ℕ State). x.entries) c.in-Ok.ensures.entries in
    elim (Contains-put_entries nat_eq c.self.inside.by_version c.version.result c.args.state e (subst (λ l. Contains l e) put h)) [
      | inl w ↦ inl (subst (λ l. Contains l e) c.self.view_is w)
      | inr p ↦ inr p.0
    ]
