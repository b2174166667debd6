-- The names of records are names.
use Rattle.std.proofs.Common.{◌≡◌, ℕ, ◌<◌, refl, true, arith, codes}
use Rattle.std.specs.Prelude.{◌^◌}
use Rattle.edge_core.specs.Names.{is_name}
use Rattle.edge_core.proofs.NameLaws.{is_name-in_folder}
use Rattle.edge_core.proofs.Numbered.{numbered_size, numbered_is_one}
use Rattle.catalog_log.specs.RecordNames.{record_name_of, segment_of}

-- a record has a name
pub record_is_name : (number : ℕ) → number < 2 ^ 64 → is_name (record_name_of number) ≡ true
record_is_name number lt =
    let size = numbered_size number lt in
    is_name-in_folder (codes "_share_log") (segment_of number) refl (numbered_is_one number lt) (omega arith)
