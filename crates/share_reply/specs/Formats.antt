-- The texts of lines in the formats in which they are asked for (Delta Sharing PROTOCOL.md, "API Response Format in Parquet" and "API Response Format in Delta").
use Rattle.std.specs.Prelude.{ℕ, List, [], ◌∷◌, ◌++◌, flat_map}
use Rattle.delta_lines.specs.Delta.{delta_line_text}
use Rattle.delta_lines.specs.Formats.{parquet_line}
use Rattle.delta_lines.specs.declared.kinds.DeltaLine.{DeltaLine}
use Rattle.share_lines.specs.Printing.{line_text}
use Rattle.share_request.specs.declared.asked.Request.{Request}
use Rattle.share_request.specs.declared.asked.Request.TheVariants as request
use Rattle.share_request.specs.declared.asked.ResponseFormat.{ResponseFormat}
use Rattle.share_request.specs.declared.asked.ResponseFormat.TheVariants as format

-- the format that a request asks for; what has no lines is alike in both
abbrev pub format_of : Request → ResponseFormat
format_of (request.ByToken r) = r.format
format_of _ = format.Parquet

-- a line in a format, without a line feed
abbrev pub text_in : ResponseFormat → DeltaLine → List ℕ
text_in format.Parquet l = line_text (parquet_line l)
text_in format.Delta l = delta_line_text l

-- the body of lines: one after another, each with a line feed
abbrev pub body_of : List (List ℕ) → List ℕ
body_of texts = flat_map (λ t. t ++ 10 ∷ []) texts
