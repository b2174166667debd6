use Rattle.std.proofs.Common.{◌≡◌, take}
use Rattle.std.specs.Prelude.{string_bytes}
use Rattle.share_lines.specs.Printing.{body_text}
use Rattle.share_lines.specs.Bodies.{AreReadBack}
use Rattle.share_lines.proofs.bodies.lines_text.Given as goal

-- the lines so far, and each is read back
abbrev pub invariant-loop-line : goal.invariant-loop-line
invariant-loop-line l = record {
  text : string_bytes l.body ≡ body_text (take l.line-index l.lines);
  back : AreReadBack (take l.line-index l.lines);
}
