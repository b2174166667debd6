-- A page of a table's files in the delta format (Delta Sharing PROTOCOL.md, "API Response Format in Delta").
use Rattle.std.specs.Prelude.{ℕ, List, ◌∷◌, ◌++◌, Option, Some, None}
use Rattle.share_lines.specs.declared.kinds.EndLine.{EndLine}
use Rattle.log_actions.specs.declared.actions.MetaData.{MetaData}
use Rattle.log_actions.specs.declared.actions.Protocol.{Protocol}
use Rattle.delta_lines.specs.Bodies.{delta_lines_in}
use Rattle.delta_lines.specs.Delta.{delta_line_text}
use Rattle.delta_lines.specs.declared.kinds.DeltaFile.{DeltaFile}
use Rattle.delta_lines.specs.declared.kinds.DeltaLine.{DeltaLine}
use Rattle.delta_lines.specs.declared.kinds.DeltaLine.TheVariants as line
use Rattle.json_tree.specs.Options.{◌>>=◌}
use Rattle.share_client.specs.TablePages.{Form}
use Rattle.share_client.specs.declared.delta_page.DeltaFront.{DeltaFront}

-- the file of a line that has one
abbrev pub delta_file_in : DeltaLine → Option DeltaFile
delta_file_in (line.File f) = Some f
delta_file_in _ = None

-- the end of a line that is one
abbrev pub delta_end : DeltaLine → Option EndLine
delta_end (line.End e) = Some e
delta_end _ = None

abbrev pub after_protocol : List DeltaLine → Option (Protocol × List DeltaLine)
after_protocol (line.Protocol p ∷ ls) = Some (p, ls)
after_protocol ls = None

abbrev pub after_meta : List DeltaLine → Option (MetaData × List DeltaLine)
after_meta (line.MetaData m ∷ ls) = Some (m, ls)
after_meta ls = None

-- the protocol and the metadata
abbrev pub delta_front : List DeltaLine → Option (DeltaFront × List DeltaLine)
delta_front ls = do
  p ← after_protocol ls
  m ← after_meta p.1
  Some (record { protocol = p.0; meta = m.0 }, m.1)

-- the two lines
abbrev pub delta_front_text : DeltaFront → List ℕ
delta_front_text f = delta_line_text (line.Protocol f.protocol) ++ 10 ∷ delta_line_text (line.MetaData f.meta)

abbrev pub delta : Form DeltaLine DeltaFront
delta = record { lines = delta_lines_in; front = delta_front; ends = delta_end; text = delta_front_text }
