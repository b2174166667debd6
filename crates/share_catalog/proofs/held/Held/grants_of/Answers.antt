use Rattle.std.proofs.lemmas.List.{take_all, length-drop}
use Rattle.std.proofs.Common.{◌≡◌, ◌∷◌, ◌-◌, [], arith, drop, length, take, map, refl, sym, ◌∙◌, subst, Less, IfOk}
use Rattle.std.specs.List.{AllWithin}
use Rattle.std.specs.Ordering.{nat_cmp}
use Rattle.std.specs.Cmp.Lexicographic.{slice_cmp}
use Rattle.share_catalog.specs.Entries.{entries, pair_texts}
use Rattle.share_catalog.specs.HeldMaps.{maps_of}
use Rattle.share_catalog.specs.Kept.{kept_grant}
use Rattle.share_catalog.specs.Listed.{grant_entry, run}
use Rattle.share_catalog.specs.Maps.{recipient_in}
use Rattle.share_catalog.proofs.ListingLemmas.{run_later, weaker}
use Rattle.share_catalog.proofs.held.Held.grants_of.Goals as goal

pub returns : goal.returns
returns c =
    let name = c.args.name.now in
    let m = maps_of c.args.self.now in
    let items = c.args.self.now.grants.items in
    let start = c.start_of_recipient-start.result in
    let whole : take (length c.deref-2.result.now - start) (drop start c.deref-2.result.now) ≡ drop start c.deref-2.result.now
    = take_all (length c.deref-2.result.now - start) (drop start c.deref-2.result.now) (omega (arith, length-drop start c.deref-2.result.now)) in
    let before : AllWithin (λ x. slice_cmp nat_cmp x.key.recipient name ≡ Less) items 0 start
    = subst (λ xs. AllWithin (λ x. slice_cmp nat_cmp x.key.recipient name ≡ Less) xs 0 start) c.deref.ensures.value c.start_of_recipient-start.ensures.before in
    let told : IfOk c.grants_in.result (λ v. map grant_entry v.items ≡ run name (kept_grant m (recipient_in m name)) (entries pair_texts (drop start items)))
    = subst (λ xs. IfOk c.grants_in.result (λ v. map grant_entry v.items ≡ run name (kept_grant m (recipient_in m name)) (entries pair_texts (drop start xs)))) c.deref-2.ensures.value
    (subst (λ ro. IfOk c.grants_in.result (λ v. map grant_entry v.items ≡ run name (kept_grant m ro) (entries pair_texts (drop start c.deref-2.result.now)))) c.recipient.ensures
    (subst (λ ys. IfOk c.grants_in.result (λ v. map grant_entry v.items ≡ run name (kept_grant m c.recipient.result) (entries pair_texts ys))) whole c.grants_in.ensures)) in
    weaker c.grants_in.result (λ v. map grant_entry v.items ≡ run name (kept_grant m (recipient_in m name)) (entries pair_texts (drop start items)))
    (λ v. map grant_entry v.items ≡ run name (kept_grant m (recipient_in m name)) (entries pair_texts items))
    (λ v is. is ∙ sym (run_later pair_texts (λ k. k.recipient) (λ k. k.share ∷ []) (λ k. refl) name (kept_grant m (recipient_in m name)) items start before)) told
