-- Which object of the store a file link is answered with.
use Rattle.std.specs.Prelude.{ℕ, ◌==◌, ◌&&◌, not, List, [], ◌∷◌, Option, Some, None, Result, Ok, Err, nat_le}
use Rattle.case_table.specs.declared.refuse.Refusal.TheVariants.{FileGone, LinkExpired, LinkInvalid, LinkRevoked}
use Rattle.log_actions.specs.Paths.{name_under}
use Rattle.share_book.specs.declared.look.Found.{Found}
use Rattle.share_book.specs.declared.look.Found.TheVariants as found
use Rattle.share_book.specs.declared.look.Seen.{Seen}
use Rattle.share_catalog.specs.Views.{Spot}
use Rattle.share_reply.specs.Refusing.{Refused, plain, where_all}
use Rattle.signed_link.specs.declared.parts.LinkParts.{LinkParts}

abbrev pub object_or : Option (List ℕ) → Result (List ℕ) Refused
object_or None = Err (plain FileGone)
object_or (Some name) = Ok name

-- the grant and the binding are still those that the link was given under
abbrev pub object_at : LinkParts → Spot → Result (List ℕ) Refused
object_at parts spot = where_all ((spot.grant == parts.grant && spot.binding == parts.binding, LinkRevoked) ∷ []) (object_or (name_under spot.location parts.path))

abbrev pub object_in : LinkParts → Found → Result (List ℕ) Refused
object_in parts (found.Names names) = Err (plain LinkRevoked)
object_in parts found.NoTable = Err (plain LinkRevoked)
object_in parts (found.Table spot part) = object_at parts spot

abbrev pub object_by : LinkParts → Option Seen → Result (List ℕ) Refused
object_by parts None = Err (plain LinkRevoked)
object_by parts (Some seen) = object_in parts seen.found

-- The name of the object that a link is answered with, or the refusal. From the moment of its expiry on a link is answered no more; a recipient's own expiry isn't asked.
abbrev pub linked_object : Option Seen → ℕ → Option LinkParts → Result (List ℕ) Refused
linked_object seen now None = Err (plain LinkInvalid)
linked_object seen now (Some parts) = where_all ((not (nat_le parts.expires now), LinkExpired) ∷ []) (object_by parts seen)
