use Rattle.std.proofs.Common.{◌≡◌, drop}
use Rattle.std.specs.List.{find}
use Rattle.share_request.specs.Capabilities.{capability_parts, names_formats}
use Rattle.share_request.proofs.capability.part_in.Given as goal

-- the parts of the fields that are left have the first one
abbrev pub invariant-loop-index : goal.invariant-loop-index
invariant-loop-index l = find names_formats (capability_parts (drop l.index l.fields)) ≡ find names_formats (capability_parts l.fields)
