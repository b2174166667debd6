use Rattle.std.proofs.Common.{◌≡◌, ◌≤◌, [], ◌∷◌, ◌++◌, refl, length, take, drop, sym, ap, ◌∙◌, arith, rules}
use Rattle.std.proofs.lemmas.List.{drop-append-le, length-take}
use Rattle.http_wire.proofs.Streams.{draws_nothing, draws_piece}
use Rattle.http_wire.proofs.inbox.Inbox.fill.Goals as goal

pub returns-in_ok-extend_from_slice-in-Bytes-clause-draws : goal.returns-in_ok-extend_from_slice-in-Bytes-clause-draws
returns-in_ok-extend_from_slice-in-Bytes-clause-draws g c =
    let more = take c.in-Bytes.count c.read.new.out in
    let at = c.self.inside.at in
    let place : c.self.inside.place ≡ c.args.self.now.1 = search rules in
    let bytes : drop at c.self.inside.buffer.items ≡ c.args.self.now.0 = search rules in
    let items : c.extend_from_slice.new.self.items ≡ c.self.inside.buffer.items ++ more = search rules in
    let front = ap (drop at) items ∙ drop-append-le at c.self.inside.buffer.items more c.self.invariant ∙ ap (λ x. x ++ more) bytes in
    let few : length more ≤ 8192 = omega (arith, length-take c.in-Bytes.count c.read.new.out, c.in-Bytes.ensures.bytes.1) in
    (more ∷ [], draws_piece g.S.Source.left (λ b. b ≡ c.args.self.now.0) _ _ _ _ more [] refl few c.in-Bytes.ensures.bytes.2 (sym front) (λ small. omega (arith, place)))

pub returns-in-End-clause-draws : goal.returns-in-End-clause-draws
returns-in-End-clause-draws g c =
    ([] ∷ [], draws_nothing g.S.Source.left (λ b. b ≡ c.args.self.now.0) _ _ _ _ refl (search rules) (ap g.S.Source.left refl ∙ c.in-End.ensures.bytes.1))

pub returns-in-Failed-clause-draws : goal.returns-in-Failed-clause-draws
returns-in-Failed-clause-draws g c =
    ([] ∷ [], draws_nothing g.S.Source.left (λ b. b ≡ c.args.self.now.0) _ _ _ _ refl (search rules) c.in-Failed.ensures.bytes)
