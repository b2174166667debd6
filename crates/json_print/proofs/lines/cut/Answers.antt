use Rattle.std.proofs.Common.{◌≡◌, ◌+◌, ◌-◌, take, drop, length, arith}
use Rattle.std.proofs.lemmas.List.{take_all, length-drop}
use Rattle.json_print.proofs.Cutting.{cut_some, cut_none}
use Rattle.json_print.proofs.lines.cut.Goals as goal

pub returns-in-Some-clause-lines : goal.returns-in-Some-clause-lines
returns-in-Some-clause-lines c =
    let text = c.args.text.now in
    let n = c.in-Some.at + 1 in
    let rest : take (length text - n) (drop n text) ≡ drop n text = take_all (length text - n) (drop n text) (omega (arith, length-drop n text)) in
    rw rest (cut_some text c.in-Some.at c.memchr.result c.in-Some.is c.memchr.ensures)

pub returns-in-None-clause-lines : goal.returns-in-None-clause-lines
returns-in-None-clause-lines c = cut_none c.args.text.now c.memchr.result c.in-None.is c.memchr.ensures
