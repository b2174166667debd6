use Rattle.std.proofs.Common.{◌≡◌, ℕ, List, [], None, length, subst, sym, ◌∙◌}
use Rattle.std.specs.Prelude.{IfSome, IsSome}
use Rattle.std.specs.FinMap as finmap
use Rattle.log_store.proofs.Growing.{looked_once}
use Rattle.share_book.specs.declared.entry.Act.TheVariants.{Abort, OwnEdit}
use Rattle.hub_catalog.specs.declared.catalog_turns.NewEdit.{NewEdit}
use Rattle.hub_catalog.specs.CatalogCalls.{Stops}
use Rattle.hub_catalog.proofs.Rounding.{last_is}
use Rattle.hub_catalog.proofs.Storing.{failed_at, stored_at}
use Rattle.hub_catalog.proofs.Making.{made_edit, takes_made}
use Rattle.hub_catalog.proofs.caller.Caller.put_made.Goals as goal

pub returns-in-Some-clause-store : goal.returns-in-Some-clause-store
returns-in-Some-clause-store g c = stored_at _ _ _ _ c.args.next.now.number _ _ c.args.own.now.bytes.items c.args.next.now.edit.now c.requires.made.1.name c.deref.ensures.value c.requires.made.1.text c.requires.made.1.back c.requires.made.1.short c.in-Stored.ensures.object c.in-Stored.ensures.stays

pub returns-in-Failed-clause-store : goal.returns-in-Failed-clause-store
returns-in-Failed-clause-store g c =
    failed_at _ _ _ _ c.args.next.now.number _ _ c.args.own.now.bytes.items c.args.next.now.edit.now c.abort.new.pass c.requires.made.1.name c.deref.ensures.value c.requires.made.1.text c.in-Failed.ensures.object c.in-Failed.ensures.stays
    (last_is c.args.pass.now c.abort.new.pass None Abort (λ es. c.args.next.now.number ≡ length es) c.abort.ensures.same.number c.abort.ensures.ended c.requires.begun.count)

pub returns-in-Exists-clause-store : goal.returns-in-Exists-clause-store
returns-in-Exists-clause-store g c =
    (looked_once _ _ _ _ c.in-Exists.ensures.object.0 c.in-Exists.ensures.stays, subst (λ (n : List ℕ). IfSome (g.W.Store.objects c.put_absent.new.self) (λ os. IsSome (finmap.get os n))) c.requires.made.1.name c.in-Exists.ensures.object.1)

pub publish_own-requires-clause-takes : goal.publish_own-requires-clause-takes
publish_own-requires-clause-takes g c = takes_made c.args.pass.now.seen c.in-Some.new c.args.own.now c.args.next.now.edit.now c.requires.made.0 c.args.next.now.number (sym c.take.ensures.value ∙ c.in-Some.is) c.requires.made.1 c.requires.admitted c.requires.made.2

pub returns-in-Some-clause-tried : goal.returns-in-Some-clause-tried
returns-in-Some-clause-tried g c l m =
    subst (λ (n : NewEdit). Stops c.args.pass.now c.publish_own.new.pass [] n.load (OwnEdit n.edit)) (made_edit c.in-Some.new c.args.own.now c.args.next.now.edit.now l c.args.next.now.number (sym c.take.ensures.value ∙ c.in-Some.is) m) c.publish_own.ensures.ended
