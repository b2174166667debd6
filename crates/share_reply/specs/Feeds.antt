-- What a query of a table's changes is answered (Delta Sharing PROTOCOL.md, "Read Change Data Feed from a Table").
use Rattle.std.specs.Prelude.{ℕ, ◌==◌, ◌&&◌, List, [], ◌∷◌, ◌++◌, Bool, true, false, Option, Some, None, Result, Ok, Err, is_none, length, map, nat_le, option_map, unwrap_or, if◌then◌else◌}
use Rattle.std.specs.Fmt.{decimal}
use Rattle.std.specs.Ordering.{int_eq}
use Rattle.case_table.specs.declared.refuse.Refusal.TheVariants.{ChangesNotEnabled, ChangesRestricted, TokenAhead, TokenInvalid, TokenMismatch, UnsupportedTable}
use Rattle.change_feed.specs.Changes as came
use Rattle.change_feed.specs.Changes.{ChangedFile, FileAction as Came}
use Rattle.change_feed.specs.Shown.{feed_from as feed_in}
use Rattle.delta_lines.specs.declared.kinds.DeltaFile.{DeltaFile}
use Rattle.delta_lines.specs.declared.kinds.FileAction.{FileAction}
use Rattle.delta_lines.specs.declared.kinds.FileAction.TheVariants as action
use Rattle.json_tree.specs.Results.{◌>>=◌}
use Rattle.log_actions.specs.declared.actions.MetaData.{MetaData}
use Rattle.log_actions.specs.declared.actions.Protocol.{Protocol}
use Rattle.log_replay.specs.Reconciliation.{last_meta, last_protocol}
use Rattle.page_token.specs.Cursors.{cursor_of}
use Rattle.page_token.specs.declared.cursor.Asked.{Asked}
use Rattle.page_token.specs.declared.cursor.Asked.TheVariants as asked
use Rattle.page_token.specs.declared.cursor.Cursor.{Cursor}
use Rattle.page_token.specs.declared.cursor.Cursor.TheVariants as cursor
use Rattle.page_token.specs.declared.cursor.FeedCursor.{FeedCursor}
use Rattle.page_token.specs.declared.cursor.TableAccess.{TableAccess}
use Rattle.share_book.specs.declared.look.FeedPart.{FeedPart}
use Rattle.share_book.specs.declared.look.PartFound.{PartFound}
use Rattle.share_book.specs.declared.look.PartFound.TheVariants as part_found
use Rattle.share_request.specs.declared.asked.Bound.{Bound as At}
use Rattle.share_reply.specs.Access.{access_tests, expiry, link_to}
use Rattle.share_reply.specs.Answer.{Ending, Page, ends_with}
use Rattle.share_reply.specs.Asking.{asked_at}
use Rattle.share_reply.specs.Files.{is_paged, refused_for, unlike}
use Rattle.share_reply.specs.Pages.{given, next_place}
use Rattle.share_reply.specs.Refusing.{Refused, plain, where_all}
use Rattle.share_reply.specs.declared.keys.ReplyKeys.{ReplyKeys}

-- What is asked of a table's changes: from where, to where, at most how many of them, and with which token.
pub record ChangesQuery : Type 0 where
  pub from : Option At
  pub to : Option At
  pub max : Option ℕ
  pub token : Option (List ℕ)

-- ---- where a page begins

pub record FeedStart : Type 0 where
  pub asked_from : Asked
  pub asked_to : Asked
  pub from : ℕ
  pub to : ℕ
  pub place : ℕ

abbrev pub first_start : ChangesQuery → FeedPart → FeedStart
first_start q f = record { asked_from = asked_at q.from; asked_to = asked_at q.to; from = f.from; to = f.to; place = 0 }

abbrev pub start_at : FeedCursor → FeedStart
start_at c = record { asked_from = c.asked_from; asked_to = c.asked_to; from = c.from; to = c.to; place = c.place }

abbrev pub is_same : Asked → Asked → Bool
is_same asked.Latest asked.Latest = true
is_same (asked.Version v) (asked.Version w) = v == w
is_same (asked.Moment m) (asked.Moment z) = int_eq m z
is_same _ _ = false

-- an end that isn't given takes the token's
abbrev pub is_end : Option At → Asked → Bool
is_end None a = true
is_end (Some given) a = is_same (asked_at (Some given)) a

abbrev pub agrees : ChangesQuery → FeedCursor → Bool
agrees q c = is_end q.from c.asked_from && is_end q.to c.asked_to

-- ---- the page

-- the changes of the range, or the first version at which the feed isn't on
abbrev pub or_off : {X : Type 0} → Result X ℕ → Result X Refused
or_off (Ok x) = Ok x
or_off (Err version) = Err (record { refusal = ChangesNotEnabled; detail = decimal version })

abbrev pub changes_in : FeedPart → Result (List ChangedFile) Refused
changes_in f = or_off (feed_in f.from f.marks f.commits)

-- the action of a change
abbrev pub action_of : Came → FileAction
action_of (came.added f) = action.Add f
action_of (came.rows f) = action.Cdc f
action_of (came.removed f) = action.Remove f

-- a change with a link, and when that ends
abbrev pub change_with : List ℕ → ℕ → ChangedFile → DeltaFile
change_with url expires c = record { id = c.path; url = url; action = action_of c.action; expires = Some expires; time = Some c.time; version = Some c.version }

abbrev pub given_change : ReplyKeys → TableAccess → ℕ → ChangedFile → DeltaFile
given_change keys a expires c = change_with (link_to keys a expires c.path) expires c

abbrev pub feed_cursor : TableAccess → FeedStart → ℕ → Cursor
feed_cursor a s place = cursor.Feed (record { access = a; asked_from = s.asked_from; asked_to = s.asked_to; from = s.from; to = s.to; place = place })

-- every change is listed
abbrev pub lists_all : ChangedFile → Bool
lists_all c = true

abbrev pub feed_ending : ReplyKeys → TableAccess → ℕ → ChangesQuery → FeedStart → List ChangedFile → Ending
feed_ending keys a now q s changes = record {
  expires = ends_with (expiry keys now) (given lists_all q.max s.place changes);
  next = option_map (feed_cursor a s) (next_place lists_all q.max s.place changes);
}

-- the protocol and the metaData are those of the range's last version, and so is the version that is told
abbrev pub feed_page : ReplyKeys → TableAccess → ℕ → ChangesQuery → FeedStart → Protocol → MetaData → List ChangedFile → Page
feed_page keys a now q s protocol meta changes = record {
  version = s.to;
  protocol = protocol;
  meta = meta;
  content = map (given_change keys a (expiry keys now)) (given lists_all q.max s.place changes);
  end = if is_paged q.max q.token then Some (feed_ending keys a now q s changes) else None;
}

-- Every log in form has a protocol; of one without, reader 1 and writer 2 are told, without features (Delta Lake PROTOCOL.md, "Protocol Evolution").
abbrev pub plain_protocol : Protocol
plain_protocol = record { min_reader = 1; min_writer = 2; reader_features = None; writer_features = None }

abbrev pub told_protocol : Option Protocol → Protocol
told_protocol held = unwrap_or held plain_protocol

-- no log that is read lacks a metaData
abbrev pub or_unsupported : {X : Type 0} → Option X → Result X Refused
or_unsupported None = Err (plain UnsupportedTable)
or_unsupported (Some x) = Ok x

abbrev pub with_meta : ReplyKeys → TableAccess → ℕ → ChangesQuery → FeedStart → Protocol → List ChangedFile → Result MetaData Refused → Result Page Refused
with_meta keys a now q s protocol changes meta = meta >>= λ m. Ok (feed_page keys a now q s protocol m changes)

abbrev pub with_changes : ReplyKeys → TableAccess → ℕ → ChangesQuery → FeedStart → Protocol → Option MetaData → Result (List ChangedFile) Refused → Result Page Refused
with_changes keys a now q s protocol meta found =
    found >>= λ changes. where_all ((nat_le s.place (length changes), TokenAhead) ∷ []) (with_meta keys a now q s protocol changes (or_unsupported meta))

abbrev pub page_of_feed : ReplyKeys → TableAccess → ℕ → ChangesQuery → FeedStart → FeedPart → Result Page Refused
page_of_feed keys a now q s f = with_changes keys a now q s (told_protocol (last_protocol f.protocol)) (last_meta f.meta) (changes_in f)

-- ---- of what is found

abbrev pub feed_from : ReplyKeys → TableAccess → ℕ → ChangesQuery → (FeedPart → FeedStart) → PartFound → Result Page Refused
feed_from keys a now q start (part_found.Feed feed) = page_of_feed keys a now q (start feed) feed
feed_from keys a now q start (part_found.Refused why) = Err (refused_for why)
feed_from keys a now q start _ = unlike

-- a later page, of the range that the first one was of
abbrev pub later_feed : ReplyKeys → TableAccess → ℕ → ChangesQuery → FeedCursor → PartFound → Result Page Refused
later_feed keys a now q c found = where_all (access_tests a c.access ++ (agrees q c, TokenMismatch) ∷ []) (feed_from keys a now q (λ feed. start_at c) found)

abbrev pub feed_by : ReplyKeys → TableAccess → ℕ → ChangesQuery → Option Cursor → PartFound → Result Page Refused
feed_by keys a now q (Some (cursor.Feed c)) found = later_feed keys a now q c found
feed_by keys a now q _ found = Err (plain TokenInvalid)

abbrev pub feed_with : ReplyKeys → TableAccess → ℕ → ChangesQuery → Option (List ℕ) → PartFound → Result Page Refused
feed_with keys a now q None found = feed_from keys a now q (first_start q) found
feed_with keys a now q (Some token) found = feed_by keys a now q (cursor_of keys.token token) found

-- the page of changes that is answered, or the refusal
abbrev pub changes_page : ReplyKeys → TableAccess → ℕ → ChangesQuery → PartFound → Result Page Refused
changes_page keys a now q found = feed_with keys a now q q.token found

-- The same of a table that may be shared in part: then it is refused before any token is tested, and whatever the range is.
abbrev pub unrestricted_changes : ReplyKeys → Option (List ℕ) → TableAccess → ℕ → ChangesQuery → PartFound → Result Page Refused
unrestricted_changes keys only a now q found = where_all ((is_none only, ChangesRestricted) ∷ []) (changes_page keys a now q found)
