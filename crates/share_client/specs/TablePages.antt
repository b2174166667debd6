-- A page of a table's files or of its changes (Delta Sharing PROTOCOL.md, "Read Data from a Table" and "Read Change Data Feed from a
-- Table"): the protocol, the metadata, the files or changes in order, and perhaps an end with the token of the next page.
use Rattle.std.specs.Prelude.{ℕ, ◌==◌, Bool, List, [], ◌∷◌, length, bytes_eq, Option, Some, None, Result, Ok, Err, option_map, decimal, if◌then◌else◌}
use Rattle.json_tree.specs.Options.{◌>>=◌, unless_empty}
use Rattle.share_lines.specs.Bodies.{lines_in}
use Rattle.share_lines.specs.Printing.{line_text}
use Rattle.share_lines.specs.declared.faults.LinesFault.{LinesFault}
use Rattle.share_lines.specs.declared.faults.LinesFault.TheVariants as lines
use Rattle.share_lines.specs.declared.kinds.EndLine.{EndLine}
use Rattle.share_lines.specs.declared.kinds.FileLine.{FileLine}
use Rattle.share_lines.specs.declared.kinds.Line.{Line}
use Rattle.share_lines.specs.declared.kinds.Line.TheVariants as line
use Rattle.share_lines.specs.declared.kinds.MetaLine.{MetaLine}
use Rattle.share_client.specs.Listings.{or_start}
use Rattle.share_client.specs.Lists.{Listing}
use Rattle.share_client.specs.TableVersions.{version_in}
use Rattle.share_client.specs.declared.exchange.Response.{Response}
use Rattle.share_client.specs.declared.page_head.PageHead.{PageHead}

-- A form of pages: the lines of a body; what stands in front of the files or changes, and the lines behind it; the end that a line is; and the
-- text of what stands in front.
pub record Form (L F : Type 0) : Type 0 where
  pub lines : List ℕ → Result (List L) LinesFault
  pub front : List L → Option (F × List L)
  pub ends : L → Option EndLine
  pub text : F → List ℕ

-- the version and what stands in front, with its text; the files or changes; and the token
pub record TablePage (F X : Type 0) : Type 0 where
  pub head : PageHead F
  pub content : List X
  pub token : Option (List ℕ)

-- ---- the lines

-- the token of an end, which has to be the last line
abbrev pub end_token : (last : Bool) → EndLine → Option (Option (List ℕ))
end_token last e = if last then Some (unless_empty e.token) else None

abbrev pub token_of : {L F : Type 0} → Form L F → L → (last : Bool) → Option (Option (List ℕ))
token_of form l last = form.ends l >>= end_token last

-- the version, and what stands in front, with its text
abbrev pub head_with : {L F : Type 0} → Form L F → ℕ → F → PageHead F
head_with form version front = record { version = version; front = front; text = form.text front }

module _ {X : Type 0} where
  abbrev pub with_item : Option X → (rest end : Option (Listing X)) → Option (Listing X)
  with_item None rest end = end
  with_item (Some x) rest end = option_map (λ c. (x ∷ c.0, c.1)) rest

  -- an end behind no files or changes
  abbrev pub end_in : {L F : Type 0} → Form L F → L → List L → Option (Listing X)
  end_in form l ls = option_map (λ token. ([], token)) (token_of form l (length ls == 0))

  abbrev pub with_content : {F : Type 0} → F → Option (Listing X) → Option (F × Listing X)
  with_content front c = option_map (λ x. (front, x)) c

module _ {L F X : Type 0} (form : Form L F) (reads : L → Option X) where
  -- what stands behind the front: files or changes, and perhaps an end behind them
  abbrev pub content_in : List L → Option (Listing X)
  content_in [] = Some ([], None)
  content_in (l ∷ ls) = with_item (reads l) (content_in ls) (end_in form l ls)

  -- the front, and what stands behind it
  abbrev pub parts_in : List L → Option (F × Listing X)
  parts_in ls = form.front ls >>= λ f. with_content f.0 (content_in f.1)

  abbrev pub page_with : ℕ → List L → Option (TablePage F X)
  page_with version ls = option_map (λ p. record { head = head_with form version p.0; content = p.1.0; token = p.1.1 }) (parts_in ls)

  -- the version is looked at first, then the lines, each for itself, and then their order
  abbrev pub page_of_lines : ℕ → Result (List L) LinesFault → Result (TablePage F X) ℕ
  page_of_lines version (Ok ls) = or_start (page_with version ls)
  page_of_lines version (Err (lines.Bad at)) = Err at
  page_of_lines version (Err lines.NoMemory) = Err 0

  abbrev pub page_of_version : Option ℕ → List ℕ → Result (TablePage F X) ℕ
  page_of_version None body = Err 0
  page_of_version (Some version) body = page_of_lines version (form.lines body)

  -- the page of a response, or the place of what isn't one's
  abbrev pub table_page_in : Response → Result (TablePage F X) ℕ
  table_page_in r = page_of_version (version_in r) r.body.items

-- ---- the parquet format

-- the file of a line that has one
abbrev pub file_in : Line → Option FileLine
file_in (line.File f) = Some f
file_in _ = None

-- a line of a change
abbrev pub change_in : Line → Option Line
change_in (line.Add f) = Some (line.Add f)
change_in (line.Cdf f) = Some (line.Cdf f)
change_in (line.Remove f) = Some (line.Remove f)
change_in _ = None

-- the end of a line that is one
abbrev pub parquet_end : Line → Option EndLine
parquet_end (line.End e) = Some e
parquet_end _ = None

abbrev pub after_protocol : List Line → Option (List Line)
after_protocol (line.Protocol ∷ ls) = Some ls
after_protocol ls = None

abbrev pub after_meta : List Line → Option (MetaLine × List Line)
after_meta (line.MetaData m ∷ ls) = Some (m, ls)
after_meta ls = None

-- the protocol, which is the same in all pages, and the metadata
abbrev pub parquet : Form Line MetaLine
parquet = record { lines = lines_in; front = λ ls. after_protocol ls >>= after_meta; ends = parquet_end; text = λ m. line_text (line.MetaData m) }

-- ---- what all pages have alike

-- two texts that differ, or else what differs next
abbrev pub if_other : List ℕ → List ℕ → Option (List ℕ × List ℕ) → Option (List ℕ × List ℕ)
if_other first other next = if bytes_eq first other then next else Some (first, other)

-- in what a page differs from the first: the version, or the text of what stands in front
abbrev pub changed : {F : Type 0} → (first page : PageHead F) → Option (List ℕ × List ℕ)
changed first page = if_other (decimal first.version) (decimal page.version) (if_other first.text page.text None)
