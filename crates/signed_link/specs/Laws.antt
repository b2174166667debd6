-- Laws of links.
use Rattle.std.specs.Prelude.{◌≡◌, ℕ, List, Some}
use Rattle.signed_link.specs.declared.parts.LinkParts.{LinkParts}
use Rattle.signed_link.specs.Link.{endpoint_path, IsLink}
use Rattle.signed_link.specs.Parts.{parts_of}

-- what is read is what the target spells
abbrev pub LinksAreSpelt : Type 0
LinksAreSpelt = (key target : List ℕ) (p : LinkParts) → parts_of key target ≡ Some p → IsLink key endpoint_path target p

-- what a target spells is read
abbrev pub SpellingsAreRead : Type 0
SpellingsAreRead = (key target : List ℕ) (p : LinkParts) → IsLink key endpoint_path target p → parts_of key target ≡ Some p

-- under one endpoint and key no two parts have one link
abbrev pub OneLink : Type 0
OneLink = (key endpoint text : List ℕ) (p q : LinkParts) → IsLink key endpoint text p → IsLink key endpoint text q → p ≡ q
