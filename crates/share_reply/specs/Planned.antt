-- The lines that the parts of a plan stand for.
use Rattle.std.specs.Prelude.{ℕ, List, [], ◌∷◌, ◌++◌, Option, Some, None, length, map, option_map, option_to_list, slice_get}
use Rattle.delta_lines.specs.Delta.{path_of}
use Rattle.delta_lines.specs.Parts.{action_in}
use Rattle.delta_lines.specs.declared.parts.ActionParts.{ActionParts}
use Rattle.delta_lines.specs.declared.parts.ActionParts.TheVariants as parts
use Rattle.delta_lines.specs.declared.kinds.DeltaFile.{DeltaFile}
use Rattle.delta_lines.specs.declared.kinds.DeltaLine.{DeltaLine}
use Rattle.delta_lines.specs.declared.kinds.DeltaLine.TheVariants as line
use Rattle.log_actions.specs.declared.actions.MetaData.{MetaData}
use Rattle.log_actions.specs.declared.actions.Protocol.{Protocol}
use Rattle.page_token.specs.declared.cursor.TableAccess.{TableAccess}
use Rattle.share_lines.specs.declared.kinds.EndLine.{EndLine}
use Rattle.share_lines.specs.declared.parts.FileKind.{FileKind}
use Rattle.share_lines.specs.declared.parts.FileKind.TheVariants as kind
use Rattle.share_reply.specs.Feeds.{given_change}
use Rattle.share_reply.specs.Files.{given_file}
use Rattle.share_reply.specs.Access.{link_to}
use Rattle.share_reply.specs.declared.keys.ReplyKeys.{ReplyKeys}
use Rattle.share_reply.specs.declared.given.Given.{Given}
use Rattle.share_reply.specs.declared.lines.Content.{Content}
use Rattle.share_reply.specs.declared.lines.Content.TheVariants as content
use Rattle.share_reply.specs.declared.lines.PlanLine.{PlanLine}
use Rattle.share_reply.specs.declared.lines.PlanLine.TheVariants as found

-- the files or the changes, with their links
abbrev pub content_lines : ReplyKeys → TableAccess → ℕ → Content → List DeltaLine
content_lines keys a expires content.Nothing = []
content_lines keys a expires (content.Files files) = map (λ f. line.File (given_file keys a expires f.now)) files.items
content_lines keys a expires (content.Changes changes) = map (λ c. line.File (given_change keys a expires c)) changes.items

abbrev pub lines_of : ReplyKeys → TableAccess → ℕ → Protocol → MetaData → Content → Option EndLine → List DeltaLine
lines_of keys a expires protocol meta c end = line.Protocol protocol ∷ line.MetaData meta ∷ (content_lines keys a expires c ++ option_to_list (option_map (λ e. line.End e) end))

-- ---- one line

-- the kind of its line in the parquet format
abbrev pub kind_by : Option ℕ → ActionParts → FileKind
kind_by None a = kind.File
kind_by (Some v) (parts.Add f) = kind.Add
kind_by (Some v) (parts.Cdc f) = kind.Cdf
kind_by (Some v) (parts.Remove f) = kind.Remove

abbrev pub kind_in : Given → FileKind
kind_in g = kind_by g.version g.action

-- what is given of an action: its file with such a link, and when that ends
abbrev pub given_in : List ℕ → ℕ → Given → DeltaFile
given_in url expires g = record { id = path_of (action_in g.action); url = url; action = action_in g.action; expires = Some expires; time = g.time; version = g.version }

abbrev pub linked_in : ReplyKeys → TableAccess → ℕ → Given → DeltaFile
linked_in keys a expires g = given_in (link_to keys a expires (path_of (action_in g.action))) expires g

-- the line of a plan that such parts are of
abbrev pub line_from : ReplyKeys → TableAccess → ℕ → PlanLine → DeltaLine
line_from keys a expires (found.Protocol p) = line.Protocol p.now
line_from keys a expires (found.Meta m) = line.MetaData m.now
line_from keys a expires (found.File g) = line.File (linked_in keys a expires g)
line_from keys a expires (found.End e) = line.End e.now

-- a line's text and a line feed
abbrev pub fed : List ℕ → List ℕ
fed text = text ++ 10 ∷ []

abbrev pub fed_or_none : Option (List ℕ) → List ℕ
fed_or_none None = []
fed_or_none (Some text) = fed text

-- the text of the line of that number, counted from 0, with a line feed; none behind the last
abbrev pub text_at : List (List ℕ) → ℕ → List ℕ
text_at texts n = fed_or_none (slice_get texts n)

abbrev pub count_of : Content → ℕ
count_of content.Nothing = 0
count_of (content.Files files) = length files.items
count_of (content.Changes changes) = length changes.items
