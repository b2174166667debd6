use Rattle.std.proofs.lemmas.List.{take_all, length-drop}
use Rattle.std.proofs.Common.{◌≡◌, ◌∷◌, ◌-◌, [], arith, drop, length, take, map, refl, sym, ◌∙◌, subst, Less, IfOk}
use Rattle.std.specs.List.{AllWithin}
use Rattle.std.specs.Ordering.{nat_cmp}
use Rattle.std.specs.Cmp.Lexicographic.{slice_cmp}
use Rattle.share_catalog.specs.Entries.{entries}
use Rattle.share_catalog.specs.HeldMaps.{maps_of}
use Rattle.share_catalog.specs.Kept.{kept_table}
use Rattle.share_catalog.specs.Listed.{whole_entry, whole_run}
use Rattle.share_catalog.specs.Maps.{share_in}
use Rattle.share_catalog.specs.TableNames.{parts_of}
use Rattle.share_catalog.proofs.ListingLemmas.{whole_run_later, weaker}
use Rattle.share_catalog.proofs.held.Held.bindings_of.Goals as goal

pub returns : goal.returns
returns c =
    let name = c.args.name.now in
    let items = c.args.self.now.tables.items in
    let start = c.start_of_share-start.result in
    let whole : take (length c.deref-2.result.now - start) (drop start c.deref-2.result.now) ≡ drop start c.deref-2.result.now
    = take_all (length c.deref-2.result.now - start) (drop start c.deref-2.result.now) (omega (arith, length-drop start c.deref-2.result.now)) in
    let before : AllWithin (λ x. slice_cmp nat_cmp x.key.share name ≡ Less) items 0 start
    = subst (λ xs. AllWithin (λ x. slice_cmp nat_cmp x.key.share name ≡ Less) xs 0 start) c.deref.ensures.value c.start_of_share-start.ensures.before in
    let told : IfOk c.bindings_in.result (λ v. map whole_entry v.items ≡ whole_run name (kept_table (share_in (maps_of c.args.self.now) name)) (entries parts_of (drop start items)))
    = subst (λ xs. IfOk c.bindings_in.result (λ v. map whole_entry v.items ≡ whole_run name (kept_table (share_in (maps_of c.args.self.now) name)) (entries parts_of (drop start xs)))) c.deref-2.ensures.value
    (subst (λ so. IfOk c.bindings_in.result (λ v. map whole_entry v.items ≡ whole_run name (kept_table so) (entries parts_of (drop start c.deref-2.result.now)))) c.share.ensures
    (subst (λ ys. IfOk c.bindings_in.result (λ v. map whole_entry v.items ≡ whole_run name (kept_table c.share.result) (entries parts_of ys))) whole c.bindings_in.ensures)) in
    weaker c.bindings_in.result (λ v. map whole_entry v.items ≡ whole_run name (kept_table (share_in (maps_of c.args.self.now) name)) (entries parts_of (drop start items)))
    (λ v. map whole_entry v.items ≡ whole_run name (kept_table (share_in (maps_of c.args.self.now) name)) (entries parts_of items))
    (λ v is. is ∙ sym (whole_run_later parts_of (λ k. k.share) (λ k. k.schema ∷ k.table ∷ []) (λ k. refl) name (kept_table (share_in (maps_of c.args.self.now) name)) items start before)) told
