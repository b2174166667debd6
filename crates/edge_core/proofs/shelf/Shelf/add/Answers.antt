use Rattle.std.proofs.Common.{rules, arith, ◌≡◌, ◌+◌, ◌++◌, ◌<◌, ◌≤◌, length, ap, refl, subst, true}
use Rattle.std.specs.List.{insert}
use Rattle.std.specs.Str.{IsUtf8}
use Rattle.edge_core.specs.Stored.{is_named, stored_objects, rank}
use Rattle.edge_core.proofs.Slots.{named_text, add_gives, objects_left, bytes_left}
use Rattle.edge_core.specs.declared.shelf.Slot.{Slot}
use Rattle.edge_core.proofs.shelf.Shelf.add.Goals as goal

pub invariant_of-self : goal.invariant_of-self
invariant_of-self c =
    let slot : Slot = record { at = length c.self.inside.text.items; name = length c.args.name.now; from = length c.self.inside.text.items + length c.args.name.now; size = length c.args.bytes.now } in
    let good : is_named (c.args.name.now, c.args.bytes.now) ≡ true
    = named_text c.args.name.now c.args.bytes.now (subst IsUtf8 c.as_str-text.ensures.value c.as_str-text.utf8) c.as_str-text.ensures.good in
    let at : c.place_of-place.result ≡ rank c.args.name.now (stored_objects c.self.inside.text.items c.self.inside.slots.items) = search rules in
    let text : c.append.new.text.items ≡ c.self.inside.text.items ++ (c.args.name.now ++ c.args.bytes.now) = search rules in
    let slots : c.put_slot.new.slots.items ≡ insert c.self.inside.slots.items c.place_of-place.result slot = search rules in
    let g = add_gives c.self.inside.text.items c.args.name.now c.args.bytes.now c.self.inside.slots.items slot c.place_of-place.result c.args.self.now.0
    c.self.invariant.sorted c.self.invariant.names c.self.invariant.lie_within (ap (λ v. v.0) c.self.view_is) c.requires.new good at refl refl refl refl in
    let some : 0 < c.self.inside.objects = search (arith, rules) in
    let fits : length c.as_str-text.result.now + length c.args.bytes.now ≤ c.self.inside.bytes = search (arith, rules) in
    let long : length c.append.new.text.items ≡ length c.as_str-text.result.now + length c.args.bytes.now + length c.self.inside.text.items = search rules in
    record {
      sorted = rw (text, slots) g.0;
      names = rw (text, slots) g.1.0;
      lie_within = rw (text, slots) g.1.1.0;
      objects_fit = objects_left _ _ _ _ _ some c.self.invariant.objects_fit c.put_slot.ensures.len c.put_slot.ensures.capacity;
      bytes_fit = bytes_left _ _ _ _ _ _ _ fits c.self.invariant.bytes_fit long c.append.ensures.capacity;
    }

pub returns-clause-gives : goal.returns-clause-gives
returns-clause-gives c =
    let slot : Slot = record { at = length c.self.inside.text.items; name = length c.args.name.now; from = length c.self.inside.text.items + length c.args.name.now; size = length c.args.bytes.now } in
    let good : is_named (c.args.name.now, c.args.bytes.now) ≡ true
    = named_text c.args.name.now c.args.bytes.now (subst IsUtf8 c.as_str-text.ensures.value c.as_str-text.utf8) c.as_str-text.ensures.good in
    let at : c.place_of-place.result ≡ rank c.args.name.now (stored_objects c.self.inside.text.items c.self.inside.slots.items) = search rules in
    let text : c.append.new.text.items ≡ c.self.inside.text.items ++ (c.args.name.now ++ c.args.bytes.now) = search rules in
    let slots : c.put_slot.new.slots.items ≡ insert c.self.inside.slots.items c.place_of-place.result slot = search rules in
    let g = add_gives c.self.inside.text.items c.args.name.now c.args.bytes.now c.self.inside.slots.items slot c.place_of-place.result c.args.self.now.0
    c.self.invariant.sorted c.self.invariant.names c.self.invariant.lie_within (ap (λ v. v.0) c.self.view_is) c.requires.new good at refl refl refl refl in
    rw (text, slots, c.as_str-text.ensures.value, g.1.1.1, ← c.self.view_is) refl
