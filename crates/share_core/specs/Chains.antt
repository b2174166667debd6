-- The pages of a chain, joined (Delta Sharing PROTOCOL.md, "Read Data from a Table", `pageToken`).
use Rattle.std.specs.Prelude.{◌==◌, List, [], ◌∷◌, ◌++◌, Bool, true, false, Option, Some, None, Result, Ok, Err, filter, option_and_then, if◌then◌else◌}
use Rattle.share_lines.specs.Bodies.{lines_in}
use Rattle.share_lines.specs.declared.faults.LinesFault.{LinesFault}
use Rattle.share_lines.specs.declared.kinds.Line.{Line}
use Rattle.share_lines.specs.declared.kinds.Line.TheVariants as line
use Rattle.share_request.specs.declared.asked.ResponseFormat.TheVariants as format
use Rattle.share_core.specs.declared.reply.Body.{Body}
use Rattle.share_core.specs.declared.reply.Body.TheVariants as body
use Rattle.share_core.specs.declared.reply.Reply.{Reply}

-- a file or a change
abbrev pub is_content : Line → Bool
is_content (line.File f) = true
is_content (line.Add f) = true
is_content (line.Cdf f) = true
is_content (line.Remove f) = true
is_content _ = false

-- the files or changes of a text that is lines
abbrev pub content_read : Result (List Line) LinesFault → Option (List Line)
content_read (Ok lines) = Some (filter is_content lines)
content_read (Err fault) = None

-- lines of actions are no page that is joined
abbrev pub content_in : Body → Option (List Line)
content_in (body.Lines format.Parquet text) = content_read (lines_in text)
content_in _ = None

-- the files or changes of a page of status 200, none where a reply isn't one
abbrev pub page_in : Reply → Option (List Line)
page_in r = if r.status == 200 then content_in r.body else None

abbrev pub before_rest : Option (List Line) → List Line → Option (List Line)
before_rest None here = None
before_rest (Some rest) here = Some (here ++ rest)

-- those of all pages, one after another, none where a reply isn't a page
abbrev pub joined : List Reply → Option (List Line)
joined [] = Some []
joined (r ∷ rs) = option_and_then (before_rest (joined rs)) (page_in r)
