use Rattle.json_print.proofs.fields.text_field.Goals as goal

pub returns : goal.returns
returns g c = rw (← c.as_str.ensures) c.string_field.ensures
