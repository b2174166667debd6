use Rattle.std.proofs.Common.{◌≡◌, ℕ, ◌<◌, length, refl, sym, ◌∙◌, subst, arith, eqb-true, inl, inr}
use Rattle.std.proofs.lemmas.Bool.Decides.{nat_tests}
use Rattle.share_pool.specs.OneHistory.{OneAt}
use Rattle.share_pool.specs.declared.desk.ServeEnd.TheVariants as serve_end
use Rattle.share_commands.proofs.Hosting.{all_serve, has_pass, none_serve}
use Rattle.share_commands.proofs.serve.serve.Goals as goal

pub serve_all-requires-clause-ready : goal.serve_all-requires-clause-ready
serve_all-requires-clause-ready g c κs within = λ k d less.
    has_pass g.N.Listener.coming g.N.Listener.closed g.N.Listener.faults g.N.Listener.listens g.C.Clock.coming g.W.Store.objects g.W.Store.alone g.W.Store.faults g.W.Store.stored c.args.opened.hub c.requires.fresh.0 c.args.opened.passes.items c.make_all_ready.new.desks (length c.args.desks.now)
    c.requires.fresh.1 c.requires.enough c.if-not-make_all_ready.ensures.ready k d (let n = c.make_all_ready.ensures.count in omega (arith, less, n))

-- ---- a door couldn't listen

pub returns-then-not-make_all_ready-clause-serves : goal.returns-then-not-make_all_ready-clause-serves
returns-then-not-make_all_ready-clause-serves g c = λ config found is all known. (serve_end.ListenerFault, refl, inl (c.if-not-make_all_ready.ensures.fails, refl))

-- ---- there is no desk

pub returns-then-is_empty-clause-serves : goal.returns-then-is_empty-clause-serves
returns-then-is_empty-clause-serves g c = λ config found is all known. (
  serve_end.Closed 0,
  refl,
  inr (none_serve g.N.Listener.coming g.N.Listener.closed g.N.Listener.faults g.N.Listener.listens g.C.Clock.coming g.W.Store.objects g.W.Store.alone g.W.Store.faults g.W.Store.stored c.args.opened.hub config found c.args.port (length c.args.desks.now) c.args.desks.now c.make_all_ready.new.desks (let n = c.make_all_ready.ensures.count in let none = eqb-true (length c.make_all_ready.new.desks) 0 (sym c.if-is_empty.ensures) in omega (arith, n, none)) known),
)

-- ---- the workers served

pub returns-clause-serves : goal.returns-clause-serves
returns-clause-serves g c = λ config found is all known.
    let n = c.make_all_ready.ensures.count in
    let count : length c.serve_all.new.desks ≡ length c.args.desks.now = c.serve_all.ensures.count ∙ n in
    let some : 0 < length c.args.desks.now = grind (arith, nat_tests, c.if-is_empty.false, c.if-is_empty.ensures, n) in
    let one = c.serve_all.ensures.one in (
      c.serve_all.result,
      c.end_of.ensures,
      inr
          (all_serve g.N.Listener.coming g.N.Listener.closed g.N.Listener.faults g.N.Listener.listens g.C.Clock.coming g.W.Store.objects g.W.Store.alone g.W.Store.faults g.W.Store.stored c.args.opened.hub c.args.opened.server config found c.args.port c.args.opened.passes.items c.args.desks.now c.make_all_ready.new.desks c.serve_all.new.desks (length c.args.desks.now) c.serve_all.result
          is all c.requires.enough c.make_all_ready.ensures.waits c.if-not-make_all_ready.ensures.ready c.if-not-make_all_ready.ensures.listens (λ i d less. c.serve_all.ensures.each i d (omega (arith, less, n))) c.serve_all.ensures.answer count some one.0 (subst (λ (k : ℕ). OneAt k c.serve_all.new.desks one.0) c.requires.callers one.1)),
    )
