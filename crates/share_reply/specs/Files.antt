-- What a query of a table's files is answered (Delta Sharing PROTOCOL.md, "Read Data from a Table").
use Rattle.std.specs.Prelude.{ℕ, ◌==◌, ◌&&◌, ◌||◌, ℤ, List, [], ◌∷◌, ◌++◌, Bool, true, false, Option, Some, None, Result, Ok, Err, filter, is_some, length, map, option_map, bytes_eq, nat_le, if◌then◌else◌}
use Rattle.std.specs.Fmt.{decimal}
use Rattle.std.specs.Ordering.{int_eq}
use Rattle.case_table.specs.declared.refuse.Refusal.TheVariants.{ChangesRestricted, HistoryNotShared, NotFound, TimestampRange, TokenAhead, TokenInvalid, TokenMismatch, UnsupportedTable, VersionNotShared, VersionRange}
use Rattle.delta_lines.specs.declared.kinds.DeltaFile.{DeltaFile}
use Rattle.delta_lines.specs.declared.kinds.FileAction.TheVariants as action
use Rattle.log_actions.specs.declared.actions.AddFile.{AddFile}
use Rattle.log_replay.specs.State.{State}
use Rattle.page_token.specs.Cursors.{cursor_of}
use Rattle.page_token.specs.declared.cursor.Asked.{Asked}
use Rattle.page_token.specs.declared.cursor.Asked.TheVariants as asked
use Rattle.page_token.specs.declared.cursor.Cursor.{Cursor}
use Rattle.page_token.specs.declared.cursor.Cursor.TheVariants as cursor
use Rattle.page_token.specs.declared.cursor.FilesCursor.{FilesCursor}
use Rattle.page_token.specs.declared.cursor.TableAccess.{TableAccess}
use Rattle.pred_tree.specs.Grammar.{predicate_in}
use Rattle.pred_tree.specs.Listing.{lists as lists_file, pred_by}
use Rattle.share_book.specs.declared.look.PartFound.{PartFound}
use Rattle.share_book.specs.declared.look.PartFound.TheVariants as part_found
use Rattle.share_book.specs.declared.look.TableRefusal.{TableRefusal}
use Rattle.share_book.specs.declared.look.TableRefusal.TheVariants as refusal
use Rattle.query_body.specs.declared.query.QueryBody.{QueryBody}
use Rattle.share_reply.specs.Access.{access_tests, expiry, link_to}
use Rattle.share_reply.specs.Answer.{Ending, Page, ends_with}
use Rattle.share_reply.specs.Asking.{asked_by}
use Rattle.share_reply.specs.Pages.{given, next_place}
use Rattle.share_reply.specs.Refusing.{Refused, plain, where_all}
use Rattle.share_reply.specs.declared.keys.ReplyKeys.{ReplyKeys}

-- ---- what isn't found of a table

abbrev pub refused_for : TableRefusal → Refused
refused_for refusal.NoHistory = plain HistoryNotShared
refused_for refusal.Unsupported = plain UnsupportedTable
refused_for refusal.VersionRange = plain VersionRange
refused_for refusal.TimestampRange = plain TimestampRange
refused_for refusal.Ahead = plain TokenAhead
refused_for (refusal.NotShared first) = record { refusal = VersionNotShared; detail = decimal first }
refused_for refusal.Restricted = plain ChangesRestricted

-- a find of another kind than was asked, which none is
abbrev pub unlike : {X : Type 0} → Result X Refused
unlike = Err (plain NotFound)

-- ---- which files are listed

-- the text, where it is a predicate; another is passed over
abbrev pub used_hint : Option (List ℕ) → Option (List ℕ)
used_hint None = None
used_hint (Some text) = if is_some (predicate_in text) then Some text else None

-- the predicate doesn't make the file False
abbrev pub lists : Option (List ℕ) → State → AddFile → Bool
lists hint state file = lists_file (pred_by hint) state.meta file

-- all files of a state that are listed
abbrev pub listed_files : Option (List ℕ) → State → List AddFile
listed_files hint state = filter (lists hint state) state.files

-- ---- where a page begins

pub record FilesStart : Type 0 where
  pub asked : Asked
  pub version : ℕ
  pub hint : Option (List ℕ)
  pub place : ℕ

abbrev pub first_start : QueryBody → ℕ → FilesStart
first_start q version = record { asked = asked_by q.version q.moment; version = version; hint = used_hint q.hint; place = 0 }

abbrev pub start_at : FilesCursor → FilesStart
start_at c = record { asked = c.asked; version = c.version; hint = c.hint; place = c.place }

-- what a request has beside its token is what the token was made for
abbrev pub is_version : Option ℕ → Asked → Bool
is_version None a = true
is_version (Some v) asked.Latest = false
is_version (Some v) (asked.Version w) = v == w
is_version (Some v) (asked.Moment z) = false

abbrev pub is_moment : Option ℤ → Asked → Bool
is_moment None a = true
is_moment (Some m) asked.Latest = false
is_moment (Some m) (asked.Version w) = false
is_moment (Some m) (asked.Moment z) = int_eq m z

abbrev pub is_text : Option (List ℕ) → Option (List ℕ) → Bool
is_text None None = true
is_text None (Some b) = false
is_text (Some a) None = false
is_text (Some a) (Some b) = bytes_eq a b

abbrev pub is_hint : Option (List ℕ) → Option (List ℕ) → Bool
is_hint None used = true
is_hint (Some text) used = is_text (used_hint (Some text)) used

abbrev pub agrees : QueryBody → FilesCursor → Bool
agrees q c = is_version q.version c.asked && (is_moment q.moment c.asked && is_hint q.hint c.hint)

-- ---- the page

-- a file with a link, and when that ends
abbrev pub file_with : List ℕ → ℕ → AddFile → DeltaFile
file_with url expires f = record { id = f.path; url = url; action = action.Add f; expires = Some expires; time = None; version = None }

abbrev pub given_file : ReplyKeys → TableAccess → ℕ → AddFile → DeltaFile
given_file keys a expires f = file_with (link_to keys a expires f.path) expires f

abbrev pub files_cursor : TableAccess → FilesStart → ℕ → Cursor
files_cursor a s place = cursor.Files (record { access = a; asked = s.asked; version = s.version; hint = s.hint; place = place })

-- a query that asks for no pages gets all files and no end
abbrev pub is_paged : Option ℕ → Option (List ℕ) → Bool
is_paged max token = is_some max || is_some token

abbrev pub files_ending : ReplyKeys → TableAccess → ℕ → QueryBody → FilesStart → State → Ending
files_ending keys a now q s state = record {
  expires = ends_with (expiry keys now) (given (lists s.hint state) q.max s.place state.files);
  next = option_map (files_cursor a s) (next_place (lists s.hint state) q.max s.place state.files);
}

-- a place counts the files that are shown, listed or not, so that it tells nothing of others
abbrev pub files_page : ReplyKeys → TableAccess → ℕ → QueryBody → FilesStart → State → Page
files_page keys a now q s state = record {
  version = s.version;
  protocol = state.protocol;
  meta = state.meta;
  content = map (given_file keys a (expiry keys now)) (given (lists s.hint state) q.max s.place state.files);
  end = if is_paged q.max q.token then Some (files_ending keys a now q s state) else None;
}

abbrev pub page_of_state : ReplyKeys → TableAccess → ℕ → QueryBody → FilesStart → State → Result Page Refused
page_of_state keys a now q s state = where_all ((nat_le s.place (length state.files), TokenAhead) ∷ []) (Ok (files_page keys a now q s state))

-- ---- of what is found

abbrev pub files_from : ReplyKeys → TableAccess → ℕ → QueryBody → (ℕ → FilesStart) → PartFound → Result Page Refused
files_from keys a now q start (part_found.Files version state) = page_of_state keys a now q (start version) state
files_from keys a now q start (part_found.Refused why) = Err (refused_for why)
files_from keys a now q start _ = unlike

-- a later page, at the version that the first one was of
abbrev pub later_files : ReplyKeys → TableAccess → ℕ → QueryBody → FilesCursor → PartFound → Result Page Refused
later_files keys a now q c found = where_all (access_tests a c.access ++ (agrees q c, TokenMismatch) ∷ []) (files_from keys a now q (λ version. start_at c) found)

abbrev pub files_by : ReplyKeys → TableAccess → ℕ → QueryBody → Option Cursor → PartFound → Result Page Refused
files_by keys a now q (Some (cursor.Files c)) found = later_files keys a now q c found
files_by keys a now q _ found = Err (plain TokenInvalid)

abbrev pub files_with : ReplyKeys → TableAccess → ℕ → QueryBody → Option (List ℕ) → PartFound → Result Page Refused
files_with keys a now q None found = files_from keys a now q (first_start q) found
files_with keys a now q (Some token) found = files_by keys a now q (cursor_of keys.token token) found

-- the page of files that a query is answered, or the refusal
abbrev pub query_page : ReplyKeys → TableAccess → ℕ → QueryBody → PartFound → Result Page Refused
query_page keys a now q found = files_with keys a now q q.token found

-- "Query Table Metadata": the same version without files
abbrev pub metadata_page : PartFound → Result Page Refused
metadata_page (part_found.Files version state) = Ok (record { version = version; protocol = state.protocol; meta = state.meta; content = []; end = None })
metadata_page (part_found.Refused why) = Err (refused_for why)
metadata_page _ = unlike

-- "Query Table Version"
abbrev pub version_in : PartFound → Result ℕ Refused
version_in (part_found.Version version) = Ok version
version_in (part_found.Refused why) = Err (refused_for why)
version_in _ = unlike
