use Rattle.std.proofs.Common.{◌∙◌, ◌++◌, None, ap, refl, subst, sym}
use Rattle.std.specs.Prelude.{IsSome}
use Rattle.bucket_store.specs.Folders.{segments_of}
use Rattle.bucket_store.proofs.Knowing.{known_as, known_same, known_then}
use Rattle.bucket_store.proofs.Paging.{Reaches, end_came, more_came, nothing_yet, one_lost, one_more, some_came}
use Rattle.bucket_store.proofs.listing.list_front.Goals as goal

pub loop-turn-init : goal.loop-turn-init
loop-turn-init g c =
    let place = c.args.place.now in
    let front = c.args.front.now in
    record { told = known_same (λ s. subst (λ x. Reaches place front None x s s) (sym c.new-segments.ensures.items) (nothing_yet place front s)) }

pub loop-turn-preserved : goal.loop-turn-preserved
loop-turn-preserved g c =
    let l = c.loop-turn in
    let place = c.args.place.now in
    let front = c.args.front.now in
    let names = l.segments.items in
    let names_new = c.push_segments.new.segments.items in
    let page = c.in-Ok.page in
    let pushed = c.in-Ok-push_segments.ensures ∙ ap (λ k. names ++ segments_of front k) c.items.ensures in
    record {
      told = known_then l.invariant.told c.in-Ok.ensures
          (λ s t u reached gets. subst (λ o. Reaches place front o names_new s u) c.in-Some.is
          (one_more place front l.token names names_new page s t u pushed (subst (λ o. IsSome o) (sym c.in-Some.is) refl) reached gets));
    }

pub returns-in-Err : goal.returns-in-Err
returns-in-Err g c =
    let l = c.loop-turn in
    known_then l.invariant.told c.in-Err.ensures
    (λ s t u reached asks. one_lost c.args.place.now c.args.front.now l.token l.segments.items asks.0 asks.1 s t u reached asks.2)

pub returns-in-Err-push_segments : goal.returns-in-Err-push_segments
returns-in-Err-push_segments g c =
    let l = c.loop-turn in
    known_then l.invariant.told c.in-Ok.ensures
    (λ s t u reached gets. more_came c.args.place.now c.args.front.now l.token l.segments.items c.in-Ok.page s t u reached gets)

pub returns-in-None : goal.returns-in-None
returns-in-None g c =
    let l = c.loop-turn in
    let front = c.args.front.now in
    let names = l.segments.items in
    let pushed = c.in-Ok-push_segments.ensures ∙ ap (λ k. names ++ segments_of front k) c.items.ensures in
    known_then l.invariant.told c.in-Ok.ensures
    (λ s t u reached gets. end_came c.args.place.now front l.token names c.push_segments.new.segments.items c.in_order.result c.in-Ok.page s t u pushed c.in-None.is c.in_order.ensures reached gets)

pub returns : goal.returns
returns g c =
    let l = c.loop-turn in
    known_as l.invariant.told (λ s t reached. some_came c.args.place.now c.args.front.now l.token l.segments.items s t reached)
