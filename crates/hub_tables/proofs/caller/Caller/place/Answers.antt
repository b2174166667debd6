use Rattle.std.proofs.Common.{◌≤◌, ◌-◌, ◌^◌, ◌∙◌, ◌∷◌, [], ℕ, List, length, true, ap, sym, subst, arith}
use Rattle.log_actions.specs.declared.actions.Action.{Action}
use Rattle.log_actions.specs.CommitTexts.{commit_text}
use Rattle.log_commit.specs.Names.{commit_name}
use Rattle.log_store.proofs.Growing.{looked_once}
use Rattle.share_book.specs.Books.{OwnIsLawful}
use Rattle.share_book.specs.Legal.{TakesCommit}
use Rattle.share_book.specs.declared.entry.Act.TheVariants.{Own}
use Rattle.hub_tables.specs.CommitRounds.{HasName}
use Rattle.hub_tables.specs.TableCalls.{StopsOn}
use Rattle.hub_tables.proofs.Admissions.{plain_own}
use Rattle.hub_tables.proofs.CommitSteps.{fits_held, short_of, takes_own}
use Rattle.hub_tables.proofs.CommitStores.{perhaps_at, placed_at}
use Rattle.hub_tables.proofs.caller.Caller.place.Goals as goal

pub returns-in-Stored-clause-store : goal.returns-in-Stored-clause-store
returns-in-Stored-clause-store g c = placed_at _ _ _ _ _ _ _ _ _ (c.in-Ok.ensures.stored.0 ∙ ap (λ (n : ℕ). commit_name c.args.stored.now.location.now n) c.versions.ensures) c.deref.ensures.value c.in-Ok.ensures.stored.1 c.in-Stored.ensures.object c.in-Stored.ensures.stays

pub returns-in-Stored-clause-placed : goal.returns-in-Stored-clause-placed
returns-in-Stored-clause-placed g c =
    let fit = fits_held c.args.pass.now c.args.stored.now.log c.args.head.now c.args.commit c.requires.begun c.requires.fits in
    (subst (λ (a : List Action). StopsOn c.args.pass.now c.own_commit.new.pass c.args.stored.now.log [] (Own a ∷ [])) c.in-Ok.ensures.same.0 c.own_commit.ensures.ended, c.in-Ok.ensures.back (plain_own c.requires.begun.log.commits c.args.commit fit.lawful) fit.short)

pub returns-in-Failed-clause-store : goal.returns-in-Failed-clause-store
returns-in-Failed-clause-store g c = perhaps_at _ _ _ _ _ _ _ _ _ (c.in-Ok.ensures.stored.0 ∙ ap (λ (n : ℕ). commit_name c.args.stored.now.location.now n) c.versions.ensures) c.deref.ensures.value c.in-Ok.ensures.stored.1 c.in-Failed.ensures.object c.in-Failed.ensures.stays

pub returns-in-Exists-clause-store : goal.returns-in-Exists-clause-store
returns-in-Exists-clause-store g c =
    (looked_once _ _ _ _ c.in-Exists.ensures.object.0 c.in-Exists.ensures.stays, subst (λ (n : List ℕ). HasName n (g.W.Store.objects c.put_absent.new.self)) (c.in-Ok.ensures.stored.0 ∙ ap (λ (n : ℕ). commit_name c.args.stored.now.location.now n) c.versions.ensures) c.in-Exists.ensures.object.1)

pub own_commit-requires-clause-takes : goal.own_commit-requires-clause-takes
own_commit-requires-clause-takes g c =
    let len = short_of c.args.pass.now c.args.stored.now.log c.args.head.now c.args.commit c.text_len-len.result c.requires.begun c.requires.fits c.text_len-len.ensures in
    let most : length (commit_text c.args.commit) ≤ 2 ^ 26 - c.args.head.now.bytes = omega arith in (
      c.in-Ok.ensures.same.1 ∙ sym c.in-Ok.ensures.same.0,
      len ∙ ap (λ (a : List Action). length (commit_text a)) (sym c.in-Ok.ensures.same.0),
      subst (λ (a : List Action). TakesCommit c.args.pass.now.seen c.args.stored.now.log a) (sym c.in-Ok.ensures.same.0) (takes_own c.args.pass.now c.args.stored.now.log c.args.head.now c.args.commit c.requires.begun c.requires.fits most).0,
    )

pub own_commit-requires-clause-lawful : goal.own_commit-requires-clause-lawful
own_commit-requires-clause-lawful g c =
    let len = short_of c.args.pass.now c.args.stored.now.log c.args.head.now c.args.commit c.text_len-len.result c.requires.begun c.requires.fits c.text_len-len.ensures in
    let most : length (commit_text c.args.commit) ≤ 2 ^ 26 - c.args.head.now.bytes = omega arith in
    subst (λ (a : List Action). OwnIsLawful true c.args.pass.now.seen c.args.stored.now.log a) (sym c.in-Ok.ensures.same.0) (takes_own c.args.pass.now c.args.stored.now.log c.args.head.now c.args.commit c.requires.begun c.requires.fits most).1
