use Rattle.std.proofs.Common.{◌∙◌, subst, IsUtf8}
use Rattle.json_print.proofs.TokenLemmas.{text_written}
use Rattle.delta_lines.specs.Delta.{delta_line_data}
use Rattle.delta_lines.specs.Parts.{line_in}
use Rattle.delta_lines.proofs.ReadBack.{line_back}
use Rattle.delta_lines.proofs.printing.text_of.Goals as goal

pub returns-clause-text : goal.returns-clause-text
returns-clause-text c =
    c.printed.ensures.text ∙ text_written (delta_line_data (line_in c.args.line)) c.in_ok-line_object.ensures.written c.in_ok-writer.ensures.1

pub returns-clause-back : goal.returns-clause-back
returns-clause-back c =
    λ printable. line_back (line_in c.args.line) printable (subst IsUtf8 (returns-clause-text c) c.printed.ensures.utf8) c.in_ok-line_object.ensures.kept
