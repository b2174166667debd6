-- Fields that are written one after another are the payload.
use Rattle.std.proofs.Common.{◌≡◌, ℕ, List, [], ◌∷◌, ◌++◌, append_assoc, append-nil}
use Rattle.std.specs.Prelude.{codes}
use Rattle.std.specs.List.{flat_map}
use Rattle.std.specs.Fmt.{decimal}
use Rattle.page_token.specs.declared.cursor.FilesCursor.{FilesCursor}
use Rattle.page_token.specs.declared.cursor.FeedCursor.{FeedCursor}
use Rattle.page_token.specs.Payload.{field, asked_field, hint_field, files_fields, feed_fields}

pub joined_files : (c : FilesCursor) (p0 p1 p2 p3 p4 p5 p6 : List ℕ)
    → p0 ≡ flat_map field (codes "q" ∷ c.access.recipient ∷ c.access.share ∷ c.access.schema ∷ c.access.table ∷ [])
    → p1 ≡ p0 ++ field (decimal c.access.grant) → p2 ≡ p1 ++ field (decimal c.access.binding) → p3 ≡ p2 ++ field (asked_field c.asked)
    → p4 ≡ p3 ++ field (decimal c.version) → p5 ≡ p4 ++ field (hint_field c.hint) → p6 ≡ p5 ++ field (decimal c.place)
    → p6 ≡ flat_map field (files_fields c)
joined_files c p0 p1 p2 p3 p4 p5 p6 e0 e1 e2 e3 e4 e5 e6 = rw (e6, e5, e4, e3, e2, e1, e0) (simp (append_assoc, append-nil))

pub joined_feed : (c : FeedCursor) (p0 p1 p2 p3 p4 p5 p6 p7 : List ℕ)
    → p0 ≡ flat_map field (codes "f" ∷ c.access.recipient ∷ c.access.share ∷ c.access.schema ∷ c.access.table ∷ [])
    → p1 ≡ p0 ++ field (decimal c.access.grant) → p2 ≡ p1 ++ field (decimal c.access.binding)
    → p3 ≡ p2 ++ field (asked_field c.asked_from) → p4 ≡ p3 ++ field (asked_field c.asked_to)
    → p5 ≡ p4 ++ field (decimal c.from) → p6 ≡ p5 ++ field (decimal c.to) → p7 ≡ p6 ++ field (decimal c.place)
    → p7 ≡ flat_map field (feed_fields c)
joined_feed c p0 p1 p2 p3 p4 p5 p6 p7 e0 e1 e2 e3 e4 e5 e6 e7 = rw (e7, e6, e5, e4, e3, e2, e1, e0) (simp (append_assoc, append-nil))
