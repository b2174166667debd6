use Rattle.std.proofs.Common.{◌∙◌, subst, IsUtf8}
use Rattle.json_print.proofs.TokenLemmas.{text_written}
use Rattle.share_lines.specs.Printing.{line_data}
use Rattle.share_lines.proofs.ReadBack.{line_back}
use Rattle.share_lines.proofs.printing.printed_line.Goals as goal

pub returns-clause-text : goal.returns-clause-text
returns-clause-text c =
    c.printed.ensures.text ∙ text_written (line_data c.args.line.now) c.in_ok-line_object.ensures.written c.in_ok-writer.ensures.1

pub returns-clause-back : goal.returns-clause-back
returns-clause-back c =
    line_back c.args.line.now c.requires (subst IsUtf8 (returns-clause-text c) c.printed.ensures.utf8) c.in_ok-line_object.ensures.kept
