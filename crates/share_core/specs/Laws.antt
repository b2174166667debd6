-- What joined pages are.
use Rattle.std.specs.Prelude.{◌≡◌, ⊤, List, [], ◌∷◌, Some, flat_map, map}
use Rattle.delta_lines.specs.Formats.{parquet_line, parquet_of}
use Rattle.share_lines.specs.Bodies.{AreReadBack}
use Rattle.share_reply.specs.Answer.{Answer, page}
use Rattle.share_reply.specs.Bodies.{page_lines, reply_of}
use Rattle.share_reply.specs.Chains.{content_of}
use Rattle.share_reply.specs.declared.keys.ReplyKeys.{ReplyKeys}
use Rattle.share_core.specs.Answers.{sent}
use Rattle.share_request.specs.declared.asked.ResponseFormat.TheVariants as format
use Rattle.share_core.specs.Chains.{joined}

-- an answer that is a page whose lines are read from their own texts, as those are that are printed of typed values
abbrev pub IsPage : ReplyKeys → Answer → Type 0
IsPage keys (page p) = AreReadBack (map parquet_line (page_lines keys p))
IsPage keys _ = ⊥

abbrev pub ArePages : ReplyKeys → List Answer → Type 0
ArePages keys [] = ⊤
ArePages keys (a ∷ others) = IsPage keys a × ArePages keys others

-- The replies to pages in the parquet format, joined, are the lines of the files or changes of the pages, one after another: with the law that a chain's pages are whole, those of the version that the first page was of.
abbrev pub PagesJoin : Type 0
PagesJoin =
    (keys : ReplyKeys) (answers : List Answer) → ArePages keys answers
    → joined (map (λ a. sent (reply_of keys format.Parquet a)) answers) ≡ Some (map parquet_of (flat_map content_of answers))
