use Rattle.std.proofs.Common.{◌≡◌, ◌<◌, [], ℕ, Ok, Err, refl, length, ap, ◌∙◌, arith}
use Rattle.std.proofs.lemmas.Bool.Decides.{nat_tests}
use Rattle.std.proofs.lemmas.List.{nil_from_length}
use Rattle.std.proofs.lemmas.Result.{err_from_is_err_and}
use Rattle.http_wire.specs.Fills.{Awaits}
use Rattle.http_wire.specs.declared.inbox.Filled.TheVariants as filled
use Rattle.http_wire.proofs.Pouring.{moved_nothing, moved_drained}
use Rattle.http_wire.proofs.Streams.{awaits_none, awaits_weaken}
use Rattle.http_wire.proofs.inbox.Inbox.move_some.Goals as goal
use Rattle.http_wire.proofs.inbox.Inbox.move_some.Goals.{then-is_empty+else-most-ge-PIECE+in_ok-fill+in-More, else-is_empty}

pub returns-in_err-fill-clause-moved : goal.returns-in_err-fill-clause-moved
returns-in_err-fill-clause-moved g c =
    let zero : length c.args.self.now.0 ≡ 0 = grind (arith, nat_tests, c.if-is_empty.true, c.is_empty.ensures, ap length c.bytes.ensures) in
    let none : c.args.self.now.0 ≡ [] = nil_from_length c.args.self.now.0 zero in
    let p = err_from_is_err_and c.from_residual.result c.from_residual.ensures.1 in
    rw p.1 (moved_nothing g.S.Source.left c.args.most c.args.body.now.items c.args.body.now.items _ _ _ _ (Err p.0) (awaits_weaken g.S.Source.left (λ b. b ≡ []) (λ b. b ≡ c.args.self.now.0) _ _ _ _ (λ y same. same ∙ none) c.in_err-fill.ensures.draws) refl tt)

pub returns-in-End-clause-moved : goal.returns-in-End-clause-moved
returns-in-End-clause-moved g c =
    let told = rw c.in-End.is at c.in_ok-fill.ensures.told in
    let zero : length c.args.self.now.0 ≡ 0 = grind (arith, nat_tests, c.if-is_empty.true, c.is_empty.ensures, ap length c.bytes.ensures) in
    let none : c.args.self.now.0 ≡ [] = nil_from_length c.args.self.now.0 zero in
    moved_nothing g.S.Source.left c.args.most c.args.body.now.items c.args.body.now.items _ _ _ _ (Ok filled.End) (awaits_weaken g.S.Source.left (λ b. b ≡ []) (λ b. b ≡ c.args.self.now.0) _ _ _ _ (λ y same. same ∙ none) c.in_ok-fill.ensures.draws) refl (refl, told.0 ∙ none, told.1)

pub returns-in_err-drain-clause-moved : goal.returns-in_err-drain-clause-moved
returns-in_err-drain-clause-moved g c =
    let P : ℕ → Type 0 = λ _. Awaits g.S.Source.left (λ b. b ≡ []) c.args.self.now c.if-is_empty.self c.args.source.now c.if-is_empty.source × (0 < length c.if-is_empty.self.0) in
    let here : P 0 =
    elim c.if-is_empty.branch [
      | then-is_empty+else-most-ge-PIECE+in_ok-fill+in-More w ↦
          let zero : length c.args.self.now.0 ≡ 0 = grind (arith, nat_tests, w.if-is_empty.true, w.if-is_empty.ensures, ap length c.bytes.ensures) in
          let none : c.args.self.now.0 ≡ [] = nil_from_length c.args.self.now.0 zero in
          let more = rw w.in-More.is at w.in_ok-fill.ensures.told in
          rw (w.self-is, w.source-is) (awaits_weaken g.S.Source.left (λ b. b ≡ []) (λ b. b ≡ c.args.self.now.0) _ _ _ _ (λ y same. same ∙ none) w.in_ok-fill.ensures.draws, omega (arith, more))
      | else-is_empty w ↦
          let some : 0 < length c.args.self.now.0 = grind (arith, nat_tests, w.if-is_empty.false, ap length c.bytes.ensures) in
          (awaits_none g.S.Source.left (λ b. b ≡ []) _ _ _ _ w.self-is w.source-is, rw w.self-is some)
    ] in
    let p = err_from_is_err_and c.from_residual-in_err-drain.result c.from_residual-in_err-drain.ensures.1 in
    rw p.1 (rw c.in_err-drain.ensures.0 (moved_nothing g.S.Source.left c.args.most c.args.body.now.items c.drain.new.body.items _ _ _ _ (Err p.0) here.0 c.in_err-drain.ensures.1 tt))

pub returns-clause-moved : goal.returns-clause-moved
returns-clause-moved g c =
    let P : ℕ → Type 0 = λ _. Awaits g.S.Source.left (λ b. b ≡ []) c.args.self.now c.if-is_empty.self c.args.source.now c.if-is_empty.source × (0 < length c.if-is_empty.self.0) in
    let here : P 0 =
    elim c.if-is_empty.branch [
      | then-is_empty+else-most-ge-PIECE+in_ok-fill+in-More w ↦
          let zero : length c.args.self.now.0 ≡ 0 = grind (arith, nat_tests, w.if-is_empty.true, w.if-is_empty.ensures, ap length c.bytes.ensures) in
          let none : c.args.self.now.0 ≡ [] = nil_from_length c.args.self.now.0 zero in
          let more = rw w.in-More.is at w.in_ok-fill.ensures.told in
          rw (w.self-is, w.source-is) (awaits_weaken g.S.Source.left (λ b. b ≡ []) (λ b. b ≡ c.args.self.now.0) _ _ _ _ (λ y same. same ∙ none) w.in_ok-fill.ensures.draws, omega (arith, more))
      | else-is_empty w ↦
          let some : 0 < length c.args.self.now.0 = grind (arith, nat_tests, w.if-is_empty.false, ap length c.bytes.ensures) in
          (awaits_none g.S.Source.left (λ b. b ≡ []) _ _ _ _ w.self-is w.source-is, rw w.self-is some)
    ] in
    moved_drained g.S.Source.left c.args.most c.args.body.now.items c.drain.new.body.items c.args.self.now c.if-is_empty.self c.drain.new.self c.args.source.now c.if-is_empty.source here.0 here.1 c.requires c.in_ok-drain.ensures
