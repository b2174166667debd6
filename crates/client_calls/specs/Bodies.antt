-- The body of a query that is handed in (Delta Sharing PROTOCOL.md, "Read Data from a Table").
use Rattle.std.specs.Prelude.{ℕ, List, [], ◌∷◌, Option, codes}
use Rattle.share_client.specs.Bodies.{query_in}

-- nothing counts as an object without a member
abbrev pub or_object : List ℕ → List ℕ
or_object [] = codes "{}"
or_object (b ∷ bs) = b ∷ bs

-- the body, none where the bytes aren't one's
abbrev pub body_in : List ℕ → Option (List ℕ)
body_in bytes = query_in (or_object bytes)
