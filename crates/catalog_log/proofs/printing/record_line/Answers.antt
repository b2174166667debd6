use Rattle.std.proofs.Common.{◌∙◌}
use Rattle.json_print.proofs.TokenLemmas.{text_written}
use Rattle.catalog_log.specs.Printing.{record_data, record_line}
use Rattle.catalog_log.proofs.printing.record_line.Goals as goal

pub returns-clause-text : goal.returns-clause-text
unfolding record_line
returns-clause-text c =
    c.printed.ensures.text ∙ text_written (record_data c.args.edit.now) c.in_ok-record_object.ensures.written c.in_ok-line.ensures.1
