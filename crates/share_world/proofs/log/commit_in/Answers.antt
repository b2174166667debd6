use Rattle.std.proofs.Common.{◌≡◌, ◌++◌, ◌∷◌, [], List, Some, None, true, false, sym, refl, ap, ◌∙◌, subst}
use Rattle.std.proofs.lemmas.Result.{on_ok_weaker}
use Rattle.share_book.specs.BookView.{BookView}
use Rattle.share_book.specs.History.{table_on}
use Rattle.share_book.specs.Legal.{TakesCommit}
use Rattle.share_book.specs.declared.entry.Entry.{Entry}
use Rattle.share_world.specs.Standing.{Stands, committed_history}
use Rattle.share_world.specs.declared.event.Event.TheVariants as event_is
use Rattle.share_world.proofs.CommitSteps.{unloaded}
use Rattle.share_world.proofs.Taken.{commit_passed, commit_stands, placed_at, takes_it, test_of}
use Rattle.share_world.proofs.log.commit_in.Goals as goal

pub returns-in_default : goal.returns-in_default
returns-in_default c = λ before s.
    let h = c.args.book.now.past.history in
    let place = c.args.location.now in
    unloaded h before (event_is.Commit place c.args.commit.now) place c.args.commit.now.value s refl (λ log l. refl) (placed_at h c.as_str.result.now place c.log_of.result None c.log_of.ensures c.as_str.ensures.value c.in_default.is)

pub commit_on-requires-clause-takes : goal.commit_on-requires-clause-takes
commit_on-requires-clause-takes c =
    let h = c.args.book.now.past.history in
    let place = c.args.location.now in
    let number = placed_at h c.as_str.result.now place c.log_of.result (Some c.in-Some.log) c.log_of.ensures c.as_str.ensures.value c.in-Some.is in
    let test = test_of (table_on c.in-Some.log h) c.in_ok-does_take.field-0 true c.deref.result.now c.args.commit.now.value c.in_ok-does_take.ensures.takes c.deref.ensures c.if-branch.true in
    subst (λ (b : BookView). TakesCommit b.past.history c.in-Some.log c.args.commit.now.value) (sym c.does_take.ensures.same)
    (takes_it h c.requires.0 place c.args.commit.now.value c.in-Some.log true c.requires.1 number test refl)

pub returns-then-branch : goal.returns-then-branch
returns-then-branch c = λ before s.
    let h = c.args.book.now.past.history in
    let place = c.args.location.now in
    let log = c.in-Some.log in
    let commit = c.args.commit.now.value in
    let number = placed_at h c.as_str.result.now place c.log_of.result (Some log) c.log_of.ensures c.as_str.ensures.value c.in-Some.is in
    let test = test_of (table_on log h) c.in_ok-does_take.field-0 true c.deref.result.now commit c.in_ok-does_take.ensures.takes c.deref.ensures c.if-branch.true in
    let stands = commit_stands h before place commit log true s number test (event_is.Commit place c.args.commit.now) refl (λ x l. refl) refl in
    let was : committed_history c.does_take.new.book.past.history log commit ≡ committed_history h log commit = ap (λ (b : BookView). committed_history b.past.history log commit) c.does_take.ensures.same in
    on_ok_weaker c.commit_on.result (λ is. subst (λ (x : List Entry). Stands x (before ++ event_is.Commit place c.args.commit.now ∷ [])) (sym (is ∙ was)) stands) c.commit_on.ensures

pub returns-else-branch : goal.returns-else-branch
returns-else-branch c = λ before s.
    let h = c.args.book.now.past.history in
    let place = c.args.location.now in
    let log = c.in-Some.log in
    let commit = c.args.commit.now.value in
    let number = placed_at h c.as_str.result.now place c.log_of.result (Some log) c.log_of.ensures c.as_str.ensures.value c.in-Some.is in
    let test = test_of (table_on log h) c.in_ok-does_take.field-0 false c.deref.result.now commit c.in_ok-does_take.ensures.takes c.deref.ensures c.if-branch.false in
    subst (λ (b : BookView). Stands b.past.history (before ++ event_is.Commit place c.args.commit.now ∷ [])) (sym c.does_take.ensures.same)
    (commit_passed h before place commit log false s number test (event_is.Commit place c.args.commit.now) refl (λ x l. refl) refl)
