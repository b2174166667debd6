use Rattle.std.proofs.Common.{◌≡◌, ◌≤◌, [], ◌∷◌, ◌++◌, refl, length, take, drop, sym, ap, ◌∙◌, arith, rules}
use Rattle.std.proofs.lemmas.List.{append-nil, length-take, take-append-le}
use Rattle.http_wire.proofs.Streams.{draws_none, draws_nothing, draws_piece}
use Rattle.std.proofs.lemmas.Grind.{common_steps}
use Rattle.std.proofs.lemmas.Result.{err_from_is_err_and}
use Rattle.http_wire.proofs.inbox.Inbox.pour.Goals as goal

pub returns-in_err-make_room-clause-moved : goal.returns-in_err-make_room-clause-moved
returns-in_err-make_room-clause-moved g c = ([], [], draws_none g.S.Source.left (λ b. b ≡ []) _ _ _ _ (search rules) refl, (record { grown = search (rules, append-nil); fits = omega arith }, (let p = err_from_is_err_and c.from_residual.result c.from_residual.ensures.1 in rw p.1 tt)))

pub returns-in_err-piece-clause-moved : goal.returns-in_err-piece-clause-moved
returns-in_err-piece-clause-moved g c = ([], [], draws_none g.S.Source.left (λ b. b ≡ []) _ _ _ _ (search rules) refl, (record { grown = search (rules, append-nil); fits = omega arith }, (let p = err_from_is_err_and c.from_residual-in_err-piece.result c.from_residual-in_err-piece.ensures.1 in rw p.1 tt)))

pub returns-in_ok-extend_from_slice-in-Bytes-clause-moved : goal.returns-in_ok-extend_from_slice-in-Bytes-clause-moved
returns-in_ok-extend_from_slice-in-Bytes-clause-moved g c =
    let more = take c.in-Bytes.count c.read.new.out in
    let none : drop c.self.inside.at c.self.inside.buffer.items ≡ [] = search rules in
    let place : c.self.inside.place ≡ c.args.self.now.1 = search rules in
    let grown : c.extend_from_slice.new.self.items ≡ c.args.body.now.items ++ more = grind (arith, common_steps, take-append-le) in
    let sized = length-take c.in-Bytes.count c.read.new.out in
    let count : length more ≡ c.in-Bytes.count = omega (arith, sized, c.in-Bytes.ensures.bytes.1) in
    let size : length c.read.new.out ≡ c.min-size.result = search rules in
    let few : length more ≤ 8192 = omega (arith, count, size, sized) in
    let spelled = ap (λ x. x ++ more) c.requires.empty ∙ sym (append-nil more) ∙ ap (λ x. more ++ x) (sym none) in
    (more ∷ [], more, draws_piece g.S.Source.left (λ b. b ≡ []) _ _ _ _ more more c.requires.empty few c.in-Bytes.ensures.bytes.2 spelled (λ small. omega (arith, place, count)), (record { grown = grown; fits = omega (arith, count, size, sized) }, omega (arith, count, c.in-Bytes.ensures.bytes.0)))

pub returns-in-End-clause-moved : goal.returns-in-End-clause-moved
returns-in-End-clause-moved g c =
    ([] ∷ [], [], draws_nothing g.S.Source.left (λ b. b ≡ []) _ _ _ _ c.requires.empty (search rules) c.in-End.ensures.bytes.1, (record { grown = search (rules, append-nil); fits = omega arith }, (refl, search rules, search rules)))

pub returns-in-Failed-clause-moved : goal.returns-in-Failed-clause-moved
returns-in-Failed-clause-moved g c =
    ([] ∷ [], [], draws_nothing g.S.Source.left (λ b. b ≡ []) _ _ _ _ c.requires.empty (search rules) c.in-Failed.ensures.bytes, (record { grown = search (rules, append-nil); fits = omega arith }, tt))
