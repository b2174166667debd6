use Rattle.std.proofs.Common.{inl, inr, sym, subst}
use Rattle.share_book.specs.Bases.{IsStateIn}
use Rattle.share_book.specs.TableView.{TableView}
use Rattle.share_book.proofs.table.Table.keep.Goals as goal

pub invariant_of-self : goal.invariant_of-self
invariant_of-self c =
    let kept = c.self.invariant in
    let own = subst (λ (t : TableView). IsStateIn t.log.commits c.args.state) (sym c.self.view_is) c.requires in
    record {
      kept = kept.kept;
      counted = kept.counted;
      marked = kept.marked;
      fits = kept.fits;
      marks_fit = kept.marks_fit;
      states = λ e h. elim (c.keep.ensures e h) [ inl was ↦ kept.states e was | inr same ↦ subst (IsStateIn _) (sym same) own ];
    }
