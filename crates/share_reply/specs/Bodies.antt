-- The body of a response, and what its head tells, of an answer (Delta Sharing PROTOCOL.md, "REST APIs", "API Response Format in Parquet" and "API Response Format in Delta").
use Rattle.std.specs.Prelude.{ℕ, List, [], ◌∷◌, ◌++◌, Some, codes, map, option_map, option_to_list}
use Rattle.delta_lines.specs.declared.kinds.DeltaLine.{DeltaLine}
use Rattle.delta_lines.specs.declared.kinds.DeltaLine.TheVariants as delta
use Rattle.json_print.specs.Fields.{Field, object_of}
use Rattle.page_token.specs.Token.{token_text}
use Rattle.page_token.specs.declared.cursor.Cursor.TheVariants as cursor
use Rattle.page_token.specs.declared.cursor.ListKind.{ListKind}
use Rattle.page_token.specs.declared.cursor.ListKind.TheVariants as kind
use Rattle.serde_json.specs.Data.{Data, Items, item, no_items, array, string}
use Rattle.serde_json.specs.Written.{compact_text}
use Rattle.share_lines.specs.declared.kinds.EndLine.{EndLine}
use Rattle.share_request.specs.declared.asked.ResponseFormat.{ResponseFormat}
use Rattle.share_reply.specs.Answer.{Answer, Ending, NamesPage, Page, at_version, names, object, one_share, only, page, refused}
use Rattle.share_reply.specs.Formats.{text_in}
use Rattle.share_reply.specs.declared.keys.ReplyKeys.{ReplyKeys}
use Rattle.share_reply.specs.declared.plan.Plan.{Plan}
use Rattle.share_reply.specs.declared.plan.Plan.TheVariants as plan

-- a cursor stands in a page as itself, and as its token in the printed line alone
abbrev pub end_line : ReplyKeys → Ending → EndLine
end_line keys e = record { min_expires = e.expires; token = option_map (token_text keys.token) e.next }

-- protocol, metaData, files or changes, and the end where there is one
abbrev pub page_lines : ReplyKeys → Page → List DeltaLine
page_lines keys p = delta.Protocol p.protocol ∷ delta.MetaData p.meta ∷ (map (λ f. delta.File f) p.content ++ option_to_list (option_map (λ e. delta.End (end_line keys e)) p.end))

-- the lines of a page in a format, each without a line feed
abbrev pub page_texts : ReplyKeys → ResponseFormat → Page → List (List ℕ)
page_texts keys f p = map (text_in f) (page_lines keys p)

abbrev pub share_fields : List ℕ → List Field
share_fields s = (codes "name", Some (string s)) ∷ []

-- a name that is listed
abbrev pub name_fields : ListKind → List ℕ → List ℕ → List (List ℕ) → List Field
name_fields kind.Shares share schema (s ∷ rest) = share_fields s
name_fields kind.Schemas share schema (c ∷ rest) = (codes "name", Some (string c)) ∷ (codes "share", Some (string share)) ∷ []
name_fields kind.Tables share schema (t ∷ rest) = (codes "name", Some (string t)) ∷ (codes "schema", Some (string schema)) ∷ (codes "share", Some (string share)) ∷ []
name_fields kind.AllTables share schema (c ∷ t ∷ rest) = (codes "name", Some (string t)) ∷ (codes "schema", Some (string c)) ∷ (codes "share", Some (string share)) ∷ []
name_fields kind.AllTables share schema (c ∷ []) = []
name_fields k share schema [] = []

abbrev pub name_items : ListKind → List ℕ → List ℕ → List (List (List ℕ)) → Items
name_items k share schema [] = no_items
name_items k share schema (n ∷ ns) = item (object_of (name_fields k share schema n)) (name_items k share schema ns)

abbrev pub names_data : ReplyKeys → NamesPage → Data
names_data keys n = object_of ((codes "items", Some (array (name_items n.kind n.share n.schema n.names))) ∷ (codes "nextPageToken", option_map (λ c. string (token_text keys.token (cursor.List c))) n.next) ∷ [])

abbrev pub share_data : List ℕ → Data
share_data s = object_of ((codes "share", Some (object_of (share_fields s))) ∷ [])

-- the reply that an answer is, where lines are asked for in that format
abbrev pub reply_of : ReplyKeys → ResponseFormat → Answer → Plan
reply_of keys f (refused r) = plan.Refused r
reply_of keys f (only allowed) = plan.Only allowed
reply_of keys f (names n) = plan.Json (compact_text (names_data keys n))
reply_of keys f (one_share s) = plan.Json (compact_text (share_data s))
reply_of keys f (at_version v) = plan.Version v
reply_of keys f (page p) = plan.Lines p.version f (page_texts keys f p)
reply_of keys f (object name span) = plan.File name span
