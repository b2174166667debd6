-- Pages that are joined.
use Rattle.std.proofs.Common.{◌≡◌, ℕ, List, [], ◌∷◌, ◌++◌, Option, Some, None, map, flat_map, refl, ap, sym, ◌∙◌}
use Rattle.std.specs.Prelude.{filter, option_and_then, option_map, option_to_list}
use Rattle.std.proofs.lemmas.List.{append-nil, map-append}
use Rattle.std.proofs.lemmas.List.Elements.{filter-append}
use Rattle.delta_lines.specs.Formats.{as_kind, file_line_of, parquet_line, parquet_of}
use Rattle.delta_lines.specs.declared.kinds.DeltaFile.{DeltaFile}
use Rattle.delta_lines.specs.declared.kinds.DeltaLine.{DeltaLine}
use Rattle.delta_lines.specs.declared.kinds.DeltaLine.TheVariants as delta
use Rattle.delta_lines.specs.declared.kinds.FileAction.{FileAction}
use Rattle.delta_lines.specs.declared.kinds.FileAction.TheVariants as action
use Rattle.share_lines.specs.Bodies.{AreReadBack, lines_in}
use Rattle.share_lines.specs.Printing.{body_text, line_text}
use Rattle.share_lines.specs.declared.kinds.FileLine.{FileLine}
use Rattle.share_lines.specs.declared.kinds.Line.{Line}
use Rattle.share_lines.proofs.BodyBack.{body_back}
use Rattle.share_request.specs.declared.asked.ResponseFormat.TheVariants as format
use Rattle.share_reply.specs.Answer.{Answer, Ending, Page, at_version, names, object, one_share, only, page, refused}
use Rattle.share_reply.specs.Bodies.{end_line, page_lines, reply_of}
use Rattle.share_reply.specs.Formats.{body_of, text_in}
use Rattle.share_reply.specs.Chains.{content_of}
use Rattle.share_reply.specs.declared.keys.ReplyKeys.{ReplyKeys}
use Rattle.share_core.specs.Answers.{sent}
use Rattle.share_core.specs.Chains.{before_rest, content_read, is_content, joined, page_in}
use Rattle.share_core.specs.Laws.{IsPage, PagesJoin}

abbrev parquet : Answer → ReplyKeys → Option (List Line)
parquet a keys = page_in (sent (reply_of keys format.Parquet a))

-- ---- a page in the parquet format

-- its text is that of its lines
parquet_text : (ls : List DeltaLine) → body_of (map (text_in format.Parquet) ls) ≡ body_text (map parquet_line ls)
parquet_text [] = refl
parquet_text (l ∷ ls) = ap (λ rest. (line_text (parquet_line l) ++ 10 ∷ []) ++ rest) (parquet_text ls)

-- a file's line is content, whatever it came with
kept_one : (v : Option ℕ) (a : FileAction) (l : FileLine) (rest : List Line) → filter is_content (as_kind v a l ∷ rest) ≡ as_kind v a l ∷ filter is_content rest
kept_one None a l rest = refl
kept_one (Some v) (action.Add f) l rest = refl
kept_one (Some v) (action.Cdc f) l rest = refl
kept_one (Some v) (action.Remove f) l rest = refl

content_kept : (fs : List DeltaFile) → filter is_content (map parquet_line (map (λ f. delta.File f) fs)) ≡ map parquet_of fs
content_kept [] = refl
content_kept (f ∷ fs) =
    kept_one f.version f.action (file_line_of f) (map parquet_line (map (λ x. delta.File x) fs)) ∙ ap (λ rest. parquet_of f ∷ rest) (content_kept fs)

no_end : (keys : ReplyKeys) (e : Option Ending) → filter is_content (map parquet_line (option_to_list (option_map (λ x. delta.End (end_line keys x)) e))) ≡ []
no_end keys None = refl
no_end keys (Some e) = refl

-- the content of a page's lines
page_content : (keys : ReplyKeys) (p : Page) → filter is_content (map parquet_line (page_lines keys p)) ≡ map parquet_of p.content
page_content keys p =
    let files : List DeltaLine = map (λ f. delta.File f) p.content in
    let end : List DeltaLine = option_to_list (option_map (λ x. delta.End (end_line keys x)) p.end) in
    ap (filter is_content) (map-append parquet_line files end)
    ∙ filter-append is_content (map parquet_line files) (map parquet_line end)
    ∙ (λ i. content_kept p.content i ++ no_end keys p.end i) ∙ append-nil (map parquet_of p.content)

page_read : (keys : ReplyKeys) (p : Page) → AreReadBack (map parquet_line (page_lines keys p)) → parquet (page p) keys ≡ Some (map parquet_of p.content)
page_read keys p r =
    ap (λ text. content_read (lines_in text)) (parquet_text (page_lines keys p))
    ∙ ap content_read (body_back (map parquet_line (page_lines keys p)) r) ∙ ap Some (page_content keys p)

answer_read : (keys : ReplyKeys) (a : Answer) → IsPage keys a → parquet a keys ≡ Some (map parquet_of (content_of a))
answer_read keys (page p) r = page_read keys p r
answer_read keys (refused x) r = absurd r
answer_read keys (only x) r = absurd r
answer_read keys (names x) r = absurd r
answer_read keys (one_share x) r = absurd r
answer_read keys (at_version x) r = absurd r
answer_read keys (object x span) r = absurd r

-- ---- one page after another

with_rest : (here rest : Option (List Line)) (xs ys : List Line) → here ≡ Some xs → rest ≡ Some ys → option_and_then (before_rest rest) here ≡ Some (xs ++ ys)
with_rest here rest xs ys p q = (λ i. option_and_then (before_rest (q i)) (p i))

pub pages_join : PagesJoin
pages_join keys [] pages = refl
pages_join keys (a ∷ others) pages =
    with_rest (parquet a keys) (joined (map (λ x. sent (reply_of keys format.Parquet x)) others)) (map parquet_of (content_of a)) (map parquet_of (flat_map content_of others)) (answer_read keys a pages.0) (pages_join keys others pages.1)
    ∙ ap Some (sym (map-append parquet_of (content_of a) (flat_map content_of others)))
