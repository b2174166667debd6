use Rattle.std.proofs.Common.{ℕ, List, [], ◌∷◌, ◌++◌, Bor, Some, option_map, ap, sym, ◌∙◌, arith}
use Rattle.bucket_text.specs.Listings.{with_key}
use Rattle.bucket_text.proofs.Walks.{fault_map, step_good, step_fault, steps_end}
use Rattle.bucket_text.proofs.listing.keys_of.Goals as goal

pub loop-text-preserved : goal.loop-text-preserved
loop-text-preserved c =
    step_good with_key (λ (x : Bor (List ℕ)). x.now) _ c.args.texts.now c.loop-text.text-index _ c.loop-text.keys.items _ c.loop-text-test.true c.loop-text.invariant
    (ap (option_map (λ key. c.loop-text.keys.items ++ key ∷ [])) c.in-Ok.ensures ∙ ap (λ keys. Some keys) (sym c.in_ok-push_key-in-Ok.ensures))

pub returns-in-Err : goal.returns-in-Err
returns-in-Err c =
    step_fault with_key (λ (x : Bor (List ℕ)). x.now) _ c.args.texts.now c.loop-text.text-index _ c.loop-text.keys.items c.in-Err.fault c.loop-text-test.true c.loop-text.invariant
    (fault_map (λ key. c.loop-text.keys.items ++ key ∷ []) _ c.in-Err.fault c.in-Err.ensures)

pub returns : goal.returns
returns c =
    steps_end with_key (λ (x : Bor (List ℕ)). x.now) _ c.args.texts.now c.loop-text.text-index c.loop-text.keys.items (omega arith) c.loop-text.invariant
    ∙ ap (λ x. Some x) (sym c.of.ensures)
