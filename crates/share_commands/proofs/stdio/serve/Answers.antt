use Rattle.std.proofs.Common.{◌≡◌, refl, sym, ap, ◌∙◌, slice_index_or}
use Rattle.share_commands.proofs.Serving.{cause_after}
use Rattle.share_commands.proofs.stdio.serve.Goals as goal

pub returns : goal.returns
returns g c = λ pass is.
    let same : pass ≡ c.only-pass.result = ap (λ ps. slice_index_or ps 0 pass) (sym is ∙ c.only-pass.ensures) in
    rw (same, sym c.edge.view_is) record {
      last = c.serve_conn-end.new.pass;
      kept = g.K.Sink.kept c.edge.inside.output;
      kept_new = g.K.Sink.kept c.serve_conn-end.new.sink;
      grew = c.serve_conn-end.ensures.grew;
      known = c.known.ensures;
      session = rw c.flush.ensures.held c.serve_conn-end.ensures.session;
      cause = cause_after c.serve_conn-end.result _ _ _ _ _ _ _ _ c.flush.ensures.cause.later c.serve_conn-end.ensures.cause;
      notes = refl;
      note_faults = refl;
    }
