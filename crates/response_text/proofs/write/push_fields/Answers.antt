use Rattle.std.proofs.Common.{◌≡◌, ◌++◌, codes, decimal}
use Rattle.response_text.specs.Dates.{date_at}
use Rattle.response_text.specs.Heads.{fields, head_of, fields_text, status_fields, form_fields, close_fields}
use Rattle.response_text.proofs.HeadLemmas.{fields_text-in_order}
use Rattle.response_text.proofs.write.push_fields.Goals as goal

pub returns-clause-text : goal.returns-clause-text
returns-clause-text c =
    let head = head_of c.args.head.now in
    let whole = fields_text-in_order c.args.text.now.items (codes "Date", date_at head.moment) (codes "Content-Length", decimal head.length) (status_fields head.status) (form_fields head.content_type head.length) (close_fields head.closes) in
    let all : c.push_length.new.text.items ++ fields_text (close_fields head.closes) ≡ c.args.text.now.items ++ fields_text (fields head) =
    rw (c.in_ok-push_length.ensures.text, c.in_ok-push_form.ensures.text, c.in_ok-push_status_field.ensures.text, c.in_ok-push_field.ensures.text, c.date_at.ensures) whole in
    rw all at c.push_close.ensures.text
