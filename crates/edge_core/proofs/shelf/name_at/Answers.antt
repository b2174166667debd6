use Rattle.std.proofs.Common.{IsTrue}
use Rattle.std.proofs.lemmas.Str.{IsUtf8-from_is_utf8}
use Rattle.std.specs.Str.{is_utf8}
use Rattle.edge_core.proofs.shelf.name_at.Goals as goal

pub unreachable-requires : goal.unreachable-requires
unreachable-requires c =
    let text : IsTrue (is_utf8 c.part.result.now) = rw c.part.ensures c.requires in
    c.in-Err.ensures.cases.0 (IsUtf8-from_is_utf8 _ text)
