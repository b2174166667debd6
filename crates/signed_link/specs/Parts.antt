-- The parts of the link that a request's target is, as a function: they are read, and then spelt again and compared. By the laws
-- of `Laws` they are the parts whose link the target is.
use Rattle.std.specs.Prelude.{ℕ, List, Option, Some, None, bytes_eq, if◌then◌else◌}
use Rattle.signed_link.specs.declared.parts.LinkParts.{LinkParts}
use Rattle.signed_link.specs.Link.{endpoint_path, link_text}
use Rattle.signed_link.specs.Reading.{parts_in}

-- the parts, where the target is their link
abbrev pub if_link : List ℕ → List ℕ → Option LinkParts → Option LinkParts
if_link key target None = None
if_link key target (Some parts) = if bytes_eq (link_text key endpoint_path parts) target then Some parts else None

abbrev pub parts_of : List ℕ → List ℕ → Option LinkParts
parts_of key target = if_link key target (parts_in endpoint_path target)
