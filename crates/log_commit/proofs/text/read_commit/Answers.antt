use Rattle.std.proofs.Common.{◌≡◌, ◌∙◌, [], None, Some, Ok, sym, ap, arith, length, subst}
use Rattle.log_actions.specs.Commits.{IsCommit}
use Rattle.json_print.specs.Lines.{lines}
use Rattle.log_commit.specs.Rules.{first_broken}
use Rattle.log_commit.proofs.Whole.{breaks, found_commit, found_same, stands, stops}
use Rattle.log_commit.proofs.text.read_commit.Goals as goal

pub first_broken-requires : goal.first_broken-requires
first_broken-requires c =
    ap length c.deref.ensures.value ∙ found_same (lines c.args.bytes.now) c.in_ok-found.found c.in_ok-found.stop c.in_ok-found.ensures ∙ sym (ap length c.deref-2.ensures.value)

pub returns-in-Some : goal.returns-in-Some
returns-in-Some c =
    let is : Some c.in-Some.fault ≡ first_broken [] c.in_ok-found.found.numbers.items c.in_ok-found.found.actions.items
    = rw (← c.deref.ensures.value, ← c.deref-2.ensures.value) (sym c.in-Some.is ∙ c.in_ok-fault.ensures) in
    breaks c.args.bytes.now c.in_ok-found.found c.in_ok-found.stop c.in-Some.fault (omega arith) c.in_ok-found.ensures is

pub of-requires-in-None-stop : goal.of-requires-in-None-stop
of-requires-in-None-stop c =
    let is : None ≡ first_broken [] c.in_ok-found.found.numbers.items c.in_ok-found.found.actions.items
    = rw (← c.deref.ensures.value, ← c.deref-2.ensures.value) (sym c.in-None.is ∙ c.in_ok-fault.ensures) in
    subst IsCommit (sym c.of.ensures) (found_commit (lines c.args.bytes.now) c.in_ok-found.found c.in_ok-found.stop c.in_ok-found.ensures is)

pub returns-in-Some-stop : goal.returns-in-Some-stop
returns-in-Some-stop c =
    let is : None ≡ first_broken [] c.in_ok-found.found.numbers.items c.in_ok-found.found.actions.items
    = rw (← c.deref.ensures.value, ← c.deref-2.ensures.value) (sym c.in-None.is ∙ c.in_ok-fault.ensures) in
    stops c.args.bytes.now c.in_ok-found.found c.in_ok-found.stop c.in-Some-stop.fault (omega arith) c.in_ok-found.ensures is c.in-Some-stop.is

pub returns-in-None-stop : goal.returns-in-None-stop
returns-in-None-stop c =
    let is : None ≡ first_broken [] c.in_ok-found.found.numbers.items c.in_ok-found.found.actions.items
    = rw (← c.deref.ensures.value, ← c.deref-2.ensures.value) (sym c.in-None.is ∙ c.in_ok-fault.ensures) in
    stands c.args.bytes.now c.in_ok-found.found c.in_ok-found.stop (omega arith) c.in_ok-found.ensures is c.in-None-stop.is ∙ ap Ok (sym (c.of-in-None-stop.ensures ∙ c.of.ensures))
