-- Why the server refuses a request. Words and messages stand in the bodies of errors (Delta Sharing PROTOCOL.md, the errors of the REST
-- APIs); statuses are those of RFC 9110, section 15, and RFC 6585, section 5.
use Rattle.std.specs.Prelude.{ℕ, List, [], ◌∷◌, Bool, true, false, Option, bytes_eq, codes}
use Rattle.std.specs.List.{find}
use Rattle.case_table.specs.declared.refuse.Refusal.{Refusal}
use Rattle.case_table.specs.declared.refuse.Refusal.TheVariants.{Unauthenticated, NotFound, MethodNotAllowed, BadParameter, BadBody, VersionRange, TimestampRange, HistoryNotShared, ChangesNotEnabled, UnsupportedTable, TokenInvalid, TokenStale, TokenMismatch, TokenAhead, LinkInvalid, FileGone, Conflict, Contended, StoreFault, Limit, LinkExpired, LinkRevoked, CatalogBlocked, BadMessage, BodyTooLarge, HeadTooLarge, TransferCoding, VersionNotShared, ChangesRestricted, RangeNotSatisfiable}

-- number, word, status of the response, the fixed words of the message, and whether a detail follows them
pub record RefusalRow : Type 0 where
  pub code : ℕ
  pub word : List ℕ
  pub status : ℕ
  pub message : List ℕ
  pub has_detail : Bool

abbrev row : ℕ → List ℕ → ℕ → List ℕ → Bool → RefusalRow
row code word status message has_detail = record { code = code; word = word; status = status; message = message; has_detail = has_detail }

abbrev pub refusal_row : Refusal → RefusalRow
refusal_row Unauthenticated = row 1 (codes "UNAUTHENTICATED") 401 (codes "unauthenticated") false
refusal_row NotFound = row 2 (codes "NOT_FOUND") 404 (codes "not found") false
refusal_row MethodNotAllowed = row 3 (codes "METHOD_NOT_ALLOWED") 405 (codes "method not allowed") false
refusal_row BadParameter = row 4 (codes "BAD_PARAMETER") 400 (codes "bad parameter ") true
refusal_row BadBody = row 5 (codes "BAD_BODY") 400 (codes "bad body") false
refusal_row VersionRange = row 6 (codes "VERSION_RANGE") 400 (codes "version out of range") false
refusal_row TimestampRange = row 7 (codes "TIMESTAMP_RANGE") 400 (codes "timestamp out of range") false
refusal_row HistoryNotShared = row 8 (codes "HISTORY_NOT_SHARED") 400 (codes "history not shared") false
refusal_row ChangesNotEnabled = row 9 (codes "CHANGES_NOT_ENABLED") 400 (codes "changes not enabled at version ") true
refusal_row UnsupportedTable = row 10 (codes "UNSUPPORTED_TABLE") 400 (codes "unsupported table") false
refusal_row TokenInvalid = row 11 (codes "TOKEN_INVALID") 400 (codes "token invalid") false
refusal_row TokenStale = row 12 (codes "TOKEN_STALE") 400 (codes "token stale") false
refusal_row TokenMismatch = row 13 (codes "TOKEN_MISMATCH") 400 (codes "token mismatch") false
refusal_row TokenAhead = row 14 (codes "TOKEN_AHEAD") 400 (codes "token ahead") false
refusal_row LinkInvalid = row 15 (codes "LINK_INVALID") 403 (codes "link invalid") false
refusal_row FileGone = row 16 (codes "FILE_GONE") 404 (codes "file gone") false
refusal_row Conflict = row 17 (codes "CONFLICT") 409 [] true
refusal_row Contended = row 18 (codes "CONTENDED") 409 (codes "contended") false
refusal_row StoreFault = row 19 (codes "STORE_FAULT") 503 (codes "store fault") false
refusal_row Limit = row 20 (codes "LIMIT") 400 (codes "limit ") true
refusal_row LinkExpired = row 21 (codes "LINK_EXPIRED") 403 (codes "link expired") false
refusal_row LinkRevoked = row 22 (codes "LINK_REVOKED") 403 (codes "link revoked") false
refusal_row CatalogBlocked = row 23 (codes "CATALOG_BLOCKED") 500 (codes "catalog blocked at record ") true
refusal_row BadMessage = row 24 (codes "BAD_MESSAGE") 400 (codes "bad message") false
refusal_row BodyTooLarge = row 25 (codes "BODY_TOO_LARGE") 413 (codes "body too large") false
refusal_row HeadTooLarge = row 26 (codes "HEAD_TOO_LARGE") 431 (codes "head too large") false
refusal_row TransferCoding = row 27 (codes "TRANSFER_CODING") 501 (codes "transfer coding") false
refusal_row VersionNotShared = row 28 (codes "VERSION_NOT_SHARED") 400 (codes "version not shared before ") true
refusal_row ChangesRestricted = row 29 (codes "CHANGES_RESTRICTED") 400 (codes "changes restricted") false
refusal_row RangeNotSatisfiable = row 30 (codes "RANGE_NOT_SATISFIABLE") 416 (codes "range not satisfiable") false

-- all of them, by number
abbrev pub all_refusals : List Refusal
all_refusals =
    Unauthenticated ∷ NotFound ∷ MethodNotAllowed ∷ BadParameter ∷ BadBody ∷ VersionRange ∷ TimestampRange
    ∷ HistoryNotShared ∷ ChangesNotEnabled ∷ UnsupportedTable ∷ TokenInvalid ∷ TokenStale ∷ TokenMismatch ∷ TokenAhead
    ∷ LinkInvalid ∷ FileGone ∷ Conflict ∷ Contended ∷ StoreFault ∷ Limit ∷ LinkExpired ∷ LinkRevoked ∷ CatalogBlocked
    ∷ BadMessage ∷ BodyTooLarge ∷ HeadTooLarge ∷ TransferCoding ∷ VersionNotShared ∷ ChangesRestricted ∷ RangeNotSatisfiable ∷ []

-- the refusal of a word
abbrev pub refusal_of_word : List ℕ → Option Refusal
refusal_of_word word = find (λ refusal. bytes_eq word (refusal_row refusal).word) all_refusals
