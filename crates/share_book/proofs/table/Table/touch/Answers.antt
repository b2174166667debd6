use Rattle.share_book.proofs.table.Table.touch.Goals as goal

pub invariant_of-self : goal.invariant_of-self
invariant_of-self c =
    let kept = c.self.invariant in
    record { kept = kept.kept; counted = kept.counted; marked = kept.marked; fits = kept.fits; marks_fit = kept.marks_fit; states = λ e h. kept.states e (c.touch.ensures e h) }
