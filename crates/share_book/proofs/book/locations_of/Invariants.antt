use Rattle.std.proofs.Common.{◌≡◌, map, take}
use Rattle.share_book.specs.Books.{location}
use Rattle.share_book.proofs.book.locations_of.Given as goal

abbrev pub invariant-loop-table : goal.invariant-loop-table
invariant-loop-table l = l.names.items ≡ map location (take l.table-index l.tables)
