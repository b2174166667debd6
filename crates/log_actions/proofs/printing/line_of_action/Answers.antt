use Rattle.std.proofs.Common.{◌∙◌, sym, subst, IsUtf8}
use Rattle.json_print.proofs.TokenLemmas.{text_written}
use Rattle.log_actions.specs.Printing.{action_data}
use Rattle.log_actions.proofs.ReadBack.{line_back}
use Rattle.log_actions.proofs.printing.line_of_action.Goals as goal

pub returns-clause-text : goal.returns-clause-text
returns-clause-text c =
    c.of.ensures ∙ c.printed.ensures.text ∙ text_written (action_data c.args.action.now) c.in_ok-action_object.ensures.written c.in_ok-line.ensures.1

pub returns-clause-back : goal.returns-clause-back
returns-clause-back c =
    line_back c.args.action.now c.of.result (returns-clause-text c) (subst IsUtf8 (sym c.of.ensures) c.printed.ensures.utf8) c.in_ok-action_object.ensures.kept
