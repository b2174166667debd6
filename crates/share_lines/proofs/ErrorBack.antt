-- The body of a refusal is read as its code and variable part.
use Rattle.std.proofs.Common.{◌≡◌, ℕ, ◌≤◌, List, ◌++◌, length, take, drop, Bool, true, false, cond, Option, Some, None, Ok, refl, sym, ap, ◌∙◌, subst, arith, true≢false, bytes_eq, codes, IsUtf8}
use Rattle.std.specs.Str.{is_utf8}
use Rattle.std.proofs.lemmas.Bool.{and_parts}
use Rattle.std.proofs.lemmas.Option.{same_Some}
use Rattle.std.proofs.lemmas.Slice.Eq.{bytes_eq-Decides}
use Rattle.std.proofs.lemmas.Str.{IsUtf8-append, IsUtf8-from_is_utf8, is_utf8-from_IsUtf8}
use Rattle.std.proofs.Math.Seq.{drop-append_seam, take-append_seam}
use Rattle.json.proofs.Printed.Utf8.{IsUtf8-are_ascii, IsUtf8-quoted}
use Rattle.json.specs.Print.{escape_byte, quoted}
use Rattle.serde_json.specs.Data.{depth}
use Rattle.serde_json.specs.Read.{max_depth}
use Rattle.serde_json.specs.Written.{compact_text}
use Rattle.json_tree.specs.Tree.{of_read, tree_in}
use Rattle.json_tree.proofs.Trees.{text_yes as tree_of_text}
use Rattle.json_print.proofs.RoundTrip.{read-compact_text}
use Rattle.json_print.proofs.Plainness.{IsPlainTo, plain-object_of}
use Rattle.case_table.specs.Refusals.{refusal_row}
use Rattle.case_table.specs.declared.refuse.Refusal.{Refusal}
use Rattle.case_table.specs.declared.refuse.Refusal.TheVariants as why
use Rattle.case_table.proofs.Differ.{refusal_back}
use Rattle.share_lines.specs.ErrorReading.{as_text, behind, detail_in, guess_in, guess_of_tree, guessed, is_spelt, refusal_by_word}
use Rattle.share_lines.specs.Errors.{IsErrorBody, error_body, error_data, error_fields, takes_detail}

-- ---- texts

pub text_yes : (bytes : List ℕ) → IsUtf8 bytes → as_text bytes ≡ Some bytes
text_yes bytes u = ap (λ b. cond b (Some bytes) None) (is_utf8-from_IsUtf8 bytes u)

no_case : (bytes : List ℕ) (b : Bool) → is_utf8 bytes ≡ b → ¬ (IsUtf8 bytes) → cond b (Some bytes) None ≡ None
no_case bytes true e none = absurd (none (IsUtf8-from_is_utf8 bytes e))
no_case bytes false e none = refl

pub text_no : (bytes : List ℕ) → ¬ (IsUtf8 bytes) → as_text bytes ≡ None
text_no bytes none = no_case bytes (is_utf8 bytes) refl none

behind_back : (front what : List ℕ) → behind front (front ++ what) ≡ Some what
behind_back front what =
    let here : take (length front) (front ++ what) ≡ front = take-append_seam front what in
    let rest : drop (length front) (front ++ what) ≡ what = drop-append_seam front what in
    rw (here, rest, (bytes_eq-Decides front front).1 refl) refl

-- ---- the table

word_is_text : (refusal : Refusal) → IsUtf8 (refusal_row refusal).word
word_is_text why.Unauthenticated = IsUtf8-are_ascii _ refl
word_is_text why.NotFound = IsUtf8-are_ascii _ refl
word_is_text why.MethodNotAllowed = IsUtf8-are_ascii _ refl
word_is_text why.BadParameter = IsUtf8-are_ascii _ refl
word_is_text why.BadBody = IsUtf8-are_ascii _ refl
word_is_text why.VersionRange = IsUtf8-are_ascii _ refl
word_is_text why.TimestampRange = IsUtf8-are_ascii _ refl
word_is_text why.HistoryNotShared = IsUtf8-are_ascii _ refl
word_is_text why.ChangesNotEnabled = IsUtf8-are_ascii _ refl
word_is_text why.UnsupportedTable = IsUtf8-are_ascii _ refl
word_is_text why.TokenInvalid = IsUtf8-are_ascii _ refl
word_is_text why.TokenStale = IsUtf8-are_ascii _ refl
word_is_text why.TokenMismatch = IsUtf8-are_ascii _ refl
word_is_text why.TokenAhead = IsUtf8-are_ascii _ refl
word_is_text why.LinkInvalid = IsUtf8-are_ascii _ refl
word_is_text why.FileGone = IsUtf8-are_ascii _ refl
word_is_text why.Conflict = IsUtf8-are_ascii _ refl
word_is_text why.Contended = IsUtf8-are_ascii _ refl
word_is_text why.StoreFault = IsUtf8-are_ascii _ refl
word_is_text why.Limit = IsUtf8-are_ascii _ refl
word_is_text why.LinkExpired = IsUtf8-are_ascii _ refl
word_is_text why.LinkRevoked = IsUtf8-are_ascii _ refl
word_is_text why.CatalogBlocked = IsUtf8-are_ascii _ refl
word_is_text why.BadMessage = IsUtf8-are_ascii _ refl
word_is_text why.BodyTooLarge = IsUtf8-are_ascii _ refl
word_is_text why.HeadTooLarge = IsUtf8-are_ascii _ refl
word_is_text why.TransferCoding = IsUtf8-are_ascii _ refl
word_is_text why.VersionNotShared = IsUtf8-are_ascii _ refl
word_is_text why.ChangesRestricted = IsUtf8-are_ascii _ refl
word_is_text why.RangeNotSatisfiable = IsUtf8-are_ascii _ refl

message_is_text : (refusal : Refusal) → IsUtf8 (refusal_row refusal).message
message_is_text why.Unauthenticated = IsUtf8-are_ascii _ refl
message_is_text why.NotFound = IsUtf8-are_ascii _ refl
message_is_text why.MethodNotAllowed = IsUtf8-are_ascii _ refl
message_is_text why.BadParameter = IsUtf8-are_ascii _ refl
message_is_text why.BadBody = IsUtf8-are_ascii _ refl
message_is_text why.VersionRange = IsUtf8-are_ascii _ refl
message_is_text why.TimestampRange = IsUtf8-are_ascii _ refl
message_is_text why.HistoryNotShared = IsUtf8-are_ascii _ refl
message_is_text why.ChangesNotEnabled = IsUtf8-are_ascii _ refl
message_is_text why.UnsupportedTable = IsUtf8-are_ascii _ refl
message_is_text why.TokenInvalid = IsUtf8-are_ascii _ refl
message_is_text why.TokenStale = IsUtf8-are_ascii _ refl
message_is_text why.TokenMismatch = IsUtf8-are_ascii _ refl
message_is_text why.TokenAhead = IsUtf8-are_ascii _ refl
message_is_text why.LinkInvalid = IsUtf8-are_ascii _ refl
message_is_text why.FileGone = IsUtf8-are_ascii _ refl
message_is_text why.Conflict = IsUtf8-are_ascii _ refl
message_is_text why.Contended = IsUtf8-are_ascii _ refl
message_is_text why.StoreFault = IsUtf8-are_ascii _ refl
message_is_text why.Limit = IsUtf8-are_ascii _ refl
message_is_text why.LinkExpired = IsUtf8-are_ascii _ refl
message_is_text why.LinkRevoked = IsUtf8-are_ascii _ refl
message_is_text why.CatalogBlocked = IsUtf8-are_ascii _ refl
message_is_text why.BadMessage = IsUtf8-are_ascii _ refl
message_is_text why.BodyTooLarge = IsUtf8-are_ascii _ refl
message_is_text why.HeadTooLarge = IsUtf8-are_ascii _ refl
message_is_text why.TransferCoding = IsUtf8-are_ascii _ refl
message_is_text why.VersionNotShared = IsUtf8-are_ascii _ refl
message_is_text why.ChangesRestricted = IsUtf8-are_ascii _ refl
message_is_text why.RangeNotSatisfiable = IsUtf8-are_ascii _ refl

led_back : (refusal : Refusal) → refusal_by_word (refusal_row refusal).word ≡ Some refusal
unfolding refusal_by_word
led_back refusal = refusal_back refusal

detail_back : (refusal : Refusal) (detail : List ℕ) → IsUtf8 detail → detail_in refusal ((refusal_row refusal).message ++ detail) ≡ Some detail
unfolding detail_in
detail_back refusal detail u = rw (behind_back (refusal_row refusal).message detail) (text_yes detail u)

-- ---- the text

shape : (word message : List ℕ) → compact_text (error_data word message) ≡ codes "{\"errorCode\":" ++ (quoted word ++ (codes ",\"message\":" ++ (quoted message ++ codes "}")))
unfolding escape_byte
shape word message = refl

is_text : (word message : List ℕ) → IsUtf8 word → IsUtf8 message → IsUtf8 (compact_text (error_data word message))
is_text word message u v =
    subst IsUtf8 (sym (shape word message))
    (IsUtf8-append (codes "{\"errorCode\":") _ (IsUtf8-are_ascii _ refl)
    (IsUtf8-append (quoted word) _ (IsUtf8-quoted word u)
    (IsUtf8-append (codes ",\"message\":") _ (IsUtf8-are_ascii _ refl)
    (IsUtf8-append (quoted message) (codes "}") (IsUtf8-quoted message v) (IsUtf8-are_ascii _ refl)))))

plain : (word message : List ℕ) → IsPlainTo 1 (error_data word message)
plain word message = plain-object_of 0 (error_fields word message) refl ((tt, omega arith), ((tt, omega arith), tt))

tree_back : (word message : List ℕ) → IsUtf8 word → IsUtf8 message → tree_in (compact_text (error_data word message)) ≡ Ok (error_data word message)
tree_back word message u v =
    let flat = plain word message in
    let shallow : depth (error_data word message) ≤ max_depth = (let b : depth (error_data word message) ≤ 1 = flat.1 in omega arith) in
    tree_of_text (compact_text (error_data word message)) (is_text word message u v) ∙ ap of_read (read-compact_text (error_data word message) flat.0 shallow)

guess_steps : (word message detail : List ℕ) (refusal : Refusal) → refusal_by_word word ≡ Some refusal → detail_in refusal message ≡ Some detail
    → guessed (error_data word message) ≡ Some (refusal, detail)
guess_steps word message detail refusal r d = rw (r, d) refl

guess_back : (refusal : Refusal) (detail : List ℕ) → IsUtf8 detail → guess_in (error_body refusal detail) ≡ Some (refusal, detail)
guess_back refusal detail u =
    let word = (refusal_row refusal).word in
    let message = (refusal_row refusal).message ++ detail in
    ap guess_of_tree (tree_back word message (word_is_text refusal) (IsUtf8-append (refusal_row refusal).message detail (message_is_text refusal) u))
    ∙ guess_steps word message detail refusal (led_back refusal) (detail_back refusal detail u)

pub body_guessed : (refusal : Refusal) (detail bytes : List ℕ) → IsUtf8 detail → IsErrorBody refusal detail bytes → guess_in bytes ≡ Some (refusal, detail)
body_guessed refusal detail bytes u body = ap guess_in (sym body.1) ∙ guess_back refusal detail u

-- ---- what is answered

pub spelt_is : (refusal : Refusal) (detail bytes : List ℕ) → is_spelt refusal detail bytes ≡ true → IsErrorBody refusal detail bytes
spelt_is refusal detail bytes e =
    let parts = and_parts (takes_detail refusal detail) (bytes_eq (error_body refusal detail) bytes) e in
    (parts.0, (bytes_eq-Decides (error_body refusal detail) bytes).0 parts.1)

is_spelt_by : (refusal : Refusal) (detail bytes : List ℕ) → IsErrorBody refusal detail bytes → is_spelt refusal detail bytes ≡ true
is_spelt_by refusal detail bytes body =
    let same : bytes_eq (error_body refusal detail) bytes ≡ true = (bytes_eq-Decides (error_body refusal detail) bytes).1 body.1 in
    rw (body.0, same) refl

pub none_guessed : (bytes : List ℕ) → guess_in bytes ≡ None → (refusal : Refusal) (detail : List ℕ) → IsUtf8 detail → IsErrorBody refusal detail bytes
    → ◌≡◌ {A = Option (Refusal × List ℕ)} None (Some (refusal, detail))
none_guessed bytes none refusal detail u body = sym none ∙ body_guessed refusal detail bytes u body

pub one_guessed : (bytes : List ℕ) (guess : Refusal × List ℕ) → guess_in bytes ≡ Some guess → (refusal : Refusal) (detail : List ℕ) → IsUtf8 detail
    → IsErrorBody refusal detail bytes → Some guess ≡ Some (refusal, detail)
one_guessed bytes guess is refusal detail u body = sym is ∙ body_guessed refusal detail bytes u body

pub none_spelt : (bytes : List ℕ) (guess : Refusal × List ℕ) → guess_in bytes ≡ Some guess → is_spelt guess.0 guess.1 bytes ≡ false
    → (refusal : Refusal) (detail : List ℕ) → IsUtf8 detail → IsErrorBody refusal detail bytes → ◌≡◌ {A = Option (Refusal × List ℕ)} None (Some (refusal, detail))
none_spelt bytes guess is unlike refusal detail u body =
    let same : guess ≡ (refusal, detail) = same_Some _ _ (one_guessed bytes guess is refusal detail u body) in
    absurd (true≢false (sym (ap (λ g. is_spelt g.0 g.1 bytes) same ∙ is_spelt_by refusal detail bytes body) ∙ unlike))

pub same_error : (text detail other : List ℕ) (refusal another : Refusal) → IsUtf8 detail → IsUtf8 other → IsErrorBody refusal detail text → IsErrorBody another other text
    → (refusal ≡ another) × (detail ≡ other)
same_error text detail other refusal another u v e f =
    let same : (refusal, detail) ≡ (another, other) = same_Some _ _ (sym (body_guessed refusal detail text u e) ∙ body_guessed another other text v f) in
    (ap (λ g. g.0) same, ap (λ g. g.1) same)
