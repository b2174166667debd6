use Rattle.query_command.proofs.printing.write_note.Goals as goal

pub returns-in-Refused : goal.returns-in-Refused
returns-in-Refused g c = rw (c.in-Refused.is, ← c.as_bytes-in-Refused.ensures.value) c.write_refused.ensures
