-- To whom links and tokens of a table are given, and whether a page token is good for it
-- (Delta Sharing PROTOCOL.md, "Read Data from a Table", `pageToken`).
use Rattle.std.specs.Prelude.{ℕ, ◌+◌, ◌*◌, ◌==◌, ◌&&◌, List, [], ◌∷◌, Bool, bytes_eq}
use Rattle.case_table.specs.declared.refuse.Refusal.{Refusal}
use Rattle.case_table.specs.declared.refuse.Refusal.TheVariants.{TokenInvalid, TokenStale}
use Rattle.page_token.specs.declared.cursor.TableAccess.{TableAccess}
use Rattle.share_catalog.specs.Views.{Spot}
use Rattle.share_catalog.specs.declared.table_name.TableName.{TableName}
use Rattle.signed_link.specs.Link.{link_text}
use Rattle.signed_link.specs.declared.parts.LinkParts.{LinkParts}
use Rattle.share_reply.specs.declared.keys.ReplyKeys.{ReplyKeys}

-- who asks for which table, under which editions: what tokens and links are made for
abbrev pub access : List ℕ → TableName → Spot → TableAccess
access recipient name spot = record { recipient = recipient; share = name.share; schema = name.schema; table = name.table; grant = spot.grant; binding = spot.binding }

-- a token's are of the same recipient and table
abbrev pub is_same_table : TableAccess → TableAccess → Bool
is_same_table a b = bytes_eq a.recipient b.recipient && (bytes_eq a.share b.share && (bytes_eq a.schema b.schema && bytes_eq a.table b.table))

abbrev pub is_same_edition : TableAccess → TableAccess → Bool
is_same_edition a b = a.grant == b.grant && a.binding == b.binding

-- whose token it is, and since when: the first two tests of each token of a table
abbrev pub access_tests : TableAccess → TableAccess → List (Bool × Refusal)
access_tests now given = (is_same_table given now, TokenInvalid) ∷ (is_same_edition given now, TokenStale) ∷ []

-- when a link that is given now ends, in milliseconds
abbrev pub expiry : ReplyKeys → ℕ → ℕ
expiry keys now = now + 1000 * keys.ttl

abbrev pub link_parts : TableAccess → ℕ → List ℕ → LinkParts
link_parts a expires path = record { table = record { share = a.share; schema = a.schema; table = a.table }; path = path; binding = a.binding; expires = expires; grant = a.grant; recipient = a.recipient }

-- the link to a file of the table, with its end
abbrev pub link_to : ReplyKeys → TableAccess → ℕ → List ℕ → List ℕ
link_to keys a expires path = link_text keys.link keys.endpoint (link_parts a expires path)
