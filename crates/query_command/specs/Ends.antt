-- How a run can end: the status, and the line on the notes.
use Rattle.std.specs.Prelude.{ℕ, List, [], ◌++◌, Option, Some, None, codes, decimal}
use Rattle.query_command.specs.declared.ends.TableRefusal.{TableRefusal}
use Rattle.query_command.specs.declared.ends.TableRefusal.TheVariants as table
use Rattle.case_table.specs.Refusals.{refusal_row}
use Rattle.case_table.specs.declared.refuse.Refusal.{Refusal}
use Rattle.query_command.specs.declared.ends.PeerRefusal.{PeerRefusal}
use Rattle.query_command.specs.declared.ends.PeerRefusal.TheVariants as peer
use Rattle.query_command.specs.declared.ends.End.{End}
use Rattle.query_command.specs.declared.ends.End.TheVariants as ends
use Rattle.query_command.specs.declared.ends.Note.{Note}
use Rattle.query_command.specs.declared.ends.Note.TheVariants as notes

-- a table that hasn't what was asked for, and one that isn't read
abbrev pub table_status : TableRefusal → ℕ
table_status table.NoCommits = 4
table_status (table.NeedsCheckpoint lowest) = 4
table_status (table.Gap version) = 4
table_status (table.Commit version) = 4
table_status (table.Unsupported version) = 4
table_status (table.TooLarge version) = 4
table_status table.VersionRange = 3
table_status table.TimestampRange = 3

abbrev pub status : End → ℕ
status ends.Done = 0
status ends.Words = 2
status ends.Input = 3
status ends.Configuration = 3
status ends.Profile = 3
status ends.Url = 3
status (ends.Record number) = 3
status (ends.Table why) = table_status why
status (ends.Peer why) = 7
status ends.ReadFault = 5
status ends.StoreFault = 5
status ends.WriteFault = 5
status ends.ListenerFault = 5
status ends.PeerFault = 5
status ends.BodyCut = 5
status ends.NoMemory = 6

abbrev pub table_note : TableRefusal → List ℕ
table_note table.NoCommits = codes "share: table: no commits\n"
table_note (table.NeedsCheckpoint lowest) = codes "share: table: needs checkpoint, lowest " ++ (decimal lowest ++ codes "\n")
table_note (table.Gap version) = codes "share: table: gap at " ++ (decimal version ++ codes "\n")
table_note (table.Commit version) = codes "share: table: commit " ++ (decimal version ++ codes "\n")
table_note (table.Unsupported version) = codes "share: table: unsupported at " ++ (decimal version ++ codes "\n")
table_note (table.TooLarge version) = codes "share: table: too large at " ++ (decimal version ++ codes "\n")
table_note table.VersionRange = codes "share: version out of range\n"
table_note table.TimestampRange = codes "share: timestamp out of range\n"

-- the word of a refusal as it stands in the body of an error (Delta Sharing PROTOCOL.md, the errors of the REST APIs)
abbrev pub refusal_word : Option Refusal → List ℕ
refusal_word None = codes "-"
refusal_word (Some refusal) = (refusal_row refusal).word

abbrev pub peer_note : PeerRefusal → List ℕ
peer_note (peer.Refused status refusal) = codes "share: refused " ++ (decimal status ++ (codes " " ++ (refusal_word refusal ++ codes "\n")))
peer_note (peer.BadReply at) = codes "share: bad reply at " ++ (decimal at ++ codes "\n")
peer_note peer.PageChanged = codes "share: page changed\n"
peer_note peer.SizeChanged = codes "share: size changed\n"
peer_note peer.TooManyPages = codes "share: too many pages\n"

abbrev pub note : End → List ℕ
note ends.Done = []
note ends.Words = codes "share: words\n"
note ends.Input = codes "share: input\n"
note ends.Configuration = codes "share: configuration\n"
note ends.Profile = codes "share: profile\n"
note ends.Url = codes "share: url\n"
note (ends.Record number) = codes "share: catalog record " ++ (decimal number ++ codes "\n")
note (ends.Table why) = table_note why
note (ends.Peer why) = peer_note why
note ends.ReadFault = codes "share: read fault\n"
note ends.StoreFault = codes "share: store fault\n"
note ends.WriteFault = codes "share: write fault\n"
note ends.ListenerFault = codes "share: listener fault\n"
note ends.PeerFault = codes "share: peer fault\n"
note ends.BodyCut = codes "share: body cut\n"
note ends.NoMemory = codes "share: memory\n"

-- the line of a note as it is kept
abbrev pub note_line : Note → List ℕ
note_line (notes.Plain text) = text.now ++ codes "\n"
note_line (notes.Numbered text number) = text.now ++ (decimal number ++ codes "\n")
note_line (notes.Refused status word) = codes "share: refused " ++ (decimal status ++ (codes " " ++ (word.now ++ codes "\n")))

abbrev pub note_text : Option Note → List ℕ
note_text None = []
note_text (Some n) = note_line n
