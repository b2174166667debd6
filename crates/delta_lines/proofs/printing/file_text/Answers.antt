use Rattle.std.proofs.Common.{◌≡◌, Some, IfOk, IsTrue, sym, subst}
use Rattle.delta_lines.specs.Bodies.{delta_line_at}
use Rattle.delta_lines.specs.Delta.{delta_line_text, is_printable}
use Rattle.delta_lines.specs.Parts.{file_in}
use Rattle.delta_lines.specs.declared.kinds.DeltaLine.TheVariants as line
use Rattle.delta_lines.proofs.ReadBack.{given, own}
use Rattle.delta_lines.proofs.printing.file_text.Goals as goal

pub returns-clause-text : goal.returns-clause-text
returns-clause-text c =
    let same : file_in c.of_file-parts.result ≡ c.args.file.now = c.of_file-parts.ensures (own c.args.file.now c.requires).0 in
    subst (λ f. IfOk c.printed_text.result (λ t. t ≡ delta_line_text (line.File f))) same c.printed_text.ensures.text

pub returns-clause-back : goal.returns-clause-back
returns-clause-back c =
    let parts = file_in c.of_file-parts.result in
    let same : parts ≡ c.args.file.now = c.of_file-parts.ensures (own c.args.file.now c.requires).0 in
    let printable : IsTrue (is_printable (line.File parts)) = subst (λ f. IsTrue (is_printable (line.File f))) (sym same) c.requires in
    subst (λ f. IfOk c.printed_text.result (λ t. delta_line_at t ≡ Some (line.File f))) same
    (given c.printed_text.result (IsTrue (is_printable (line.File parts))) (λ t. delta_line_at t ≡ Some (line.File parts)) printable c.printed_text.ensures.back)
