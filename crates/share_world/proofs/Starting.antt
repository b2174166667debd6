-- A book of no entries stands for no events.
use Rattle.std.proofs.Common.{◌≡◌, List, [], refl}
use Rattle.share_book.specs.declared.entry.Entry.{Entry}
use Rattle.share_world.specs.Standing.{IsIdle, Stands}

idle_start : IsIdle []
idle_start = record { settled = refl; closed = λ j. refl; beyond = λ j less. (refl, refl); bound = λ l. refl; count = refl }

pub stands_start : (h : List Entry) → h ≡ [] → Stands h []
stands_start h is = rw is (record { idle = idle_start; edits = refl; logs = λ l has. absurd (cc has) })
