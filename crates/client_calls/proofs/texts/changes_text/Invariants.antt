use Rattle.std.proofs.Common.{◌≡◌, [], ◌++◌, take}
use Rattle.share_lines.specs.Printing.{body_text}
use Rattle.client_calls.proofs.texts.changes_text.Given as goal

abbrev pub invariant-loop-line : goal.invariant-loop-line
invariant-loop-line l = l.text.items ≡ [] ++ body_text (take l.line-index l.lines)
