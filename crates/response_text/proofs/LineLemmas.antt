-- No part of a head has a byte below 32.
use Rattle.std.proofs.Common.{◌≡◌, ℕ, zero, suc, ◌+◌, ◌-◌, ◌≤◌, ◌==◌, ◌&&◌, ◌/◌, ◌%◌, List, [], ◌∷◌, ◌++◌, refl, ◌∙◌, Bool, true, false, cond, arith, nat_le, nat_lt, decimal, Option, Some, None, codes}
use Rattle.std.specs.List.{list_all}
use Rattle.std.specs.Prelude.{slice_index_or}
use Rattle.std.specs.Fmt.{digits, digits_onto, digit_glyph}
use Rattle.std.proofs.lemmas.Bool.Decides.{nat_tests}
use Rattle.std.proofs.lemmas.List.Folds.{list_all-append}
use Rattle.response_text.specs.Contents.{content_type_name}
use Rattle.response_text.specs.Dates.{date_at, day_at, weekday_name, month_name, two_digits, four_digits, time_text}
use Rattle.file_ranges.specs.Ranges.{Range, range_text}
use Rattle.response_text.specs.Heads.{Head, Fields, field_line, fields, is_one_line, status_line, size_fields, status_fields, unit_fields, type_fields, form_fields, close_fields, format_fields}
use Rattle.response_text.specs.Statuses.{allowed_names, code, reason}
use Rattle.response_text.specs.declared.head.ContentType.{ContentType}
use Rattle.response_text.specs.declared.head.ContentType.TheVariants as content
use Rattle.case_table.specs.declared.routing.Method.{Method}
use Rattle.case_table.specs.declared.routing.Method.TheVariants as method
use Rattle.response_text.specs.declared.status.Status.{Status}
use Rattle.response_text.specs.declared.status.Status.TheVariants as status

abbrev IsClean : List ℕ → Type 0
IsClean text = is_one_line text ≡ true

both_true : (a b : Bool) → a ≡ true → b ≡ true → (a && b) ≡ true
both_true a b p q = rw (p, q) refl

join : (s t : List ℕ) → IsClean s → IsClean t → IsClean (s ++ t)
join s t p q = list_all-append (λ b. nat_le 32 b) s t ∙ both_true _ _ p q

above : (x : ℕ) (s : List ℕ) → 32 ≤ x → IsClean s → IsClean (x ∷ s)
above x s high p = both_true (nat_le 32 x) _ (grind (arith, nat_tests)) p

-- ---- numbers

glyph_above : (b : Bool) (d : ℕ) → 32 ≤ cond b (48 + d) (87 + d)
glyph_above true d = omega arith
glyph_above false d = omega arith

digits_case : (b : Bool) (g : ℕ) (acc : List ℕ) (more : List ℕ → List ℕ) → 32 ≤ g → IsClean acc → ((next : List ℕ) → IsClean next → IsClean (more next)) → IsClean (cond b (g ∷ acc) (more (g ∷ acc)))
digits_case true g acc more high p rest = above g acc high p
digits_case false g acc more high p rest = rest (g ∷ acc) (above g acc high p)

digits_clean : (k n : ℕ) (acc : List ℕ) → IsClean acc → IsClean (digits_onto k 10 false n acc)
digits_clean zero n acc p = p
digits_clean (suc k) n acc p = digits_case (n / 10 == 0) (digit_glyph false (n % 10)) acc (digits_onto k 10 false (n / 10)) (glyph_above (nat_lt (n % 10) 10) (n % 10)) p (digits_clean k (n / 10))

decimal_clean : (n : ℕ) → IsClean (decimal n)
unfolding digits
decimal_clean n = digits_clean 64 n [] refl

-- ---- dates

two_digits_clean : (n : ℕ) → IsClean (two_digits n)
two_digits_clean n = above (48 + n / 10) ((48 + n % 10) ∷ []) (omega arith) (above (48 + n % 10) [] (omega arith) refl)

four_digits_clean : (n : ℕ) → IsClean (four_digits n)
four_digits_clean n = join (two_digits (n / 100)) (two_digits (n % 100)) (two_digits_clean (n / 100)) (two_digits_clean (n % 100))

first_true : (a b : Bool) → (a && b) ≡ true → a ≡ true
first_true true b both = refl
first_true false b both = both

rest_true : (a b : Bool) → (a && b) ≡ true → b ≡ true
rest_true true b both = both
rest_true false true both = refl
rest_true false false both = both

row_clean : (rows : List (List ℕ)) (k : ℕ) → list_all is_one_line rows ≡ true → IsClean (slice_index_or rows k [])
row_clean [] k all = refl
row_clean (row ∷ rows) zero all = first_true (is_one_line row) (list_all is_one_line rows) all
row_clean (row ∷ rows) (suc k) all = row_clean rows k (rest_true (is_one_line row) (list_all is_one_line rows) all)

weekday_clean : (days : ℕ) → IsClean (weekday_name days)
weekday_clean days = row_clean (codes "Mon" ∷ codes "Tue" ∷ codes "Wed" ∷ codes "Thu" ∷ codes "Fri" ∷ codes "Sat" ∷ codes "Sun" ∷ []) ((days + 3) % 7) refl

month_clean : (month : ℕ) → IsClean (month_name month)
month_clean month = row_clean (codes "Jan" ∷ codes "Feb" ∷ codes "Mar" ∷ codes "Apr" ∷ codes "May" ∷ codes "Jun" ∷ codes "Jul" ∷ codes "Aug" ∷ codes "Sep" ∷ codes "Oct" ∷ codes "Nov" ∷ codes "Dec" ∷ []) (month - 1) refl

time_clean : (second : ℕ) → IsClean (time_text second)
time_clean second =
    let hour = two_digits (second / 3600) in
    let minute = two_digits (second % 3600 / 60) in
    join (hour ++ codes ":" ++ minute ++ codes ":") (two_digits (second % 60))
    (join (hour ++ codes ":" ++ minute) (codes ":")
    (join (hour ++ codes ":") minute (join hour (codes ":") (two_digits_clean (second / 3600)) refl) (two_digits_clean (second % 3600 / 60))) refl)
    (two_digits_clean (second % 60))

date_clean : (now : ℕ) → IsClean (date_at now)
unfolding date_at
date_clean now =
    let days = now / 1000 / 86400 in
    let second = now / 1000 % 86400 in
    let day = day_at days in
    let upto_day = weekday_name days ++ codes ", " ++ two_digits day.day in
    let upto_month = upto_day ++ codes " " ++ month_name day.month in
    let upto_year = upto_month ++ codes " " ++ four_digits day.year in
    let one = join (weekday_name days ++ codes ", ") (two_digits day.day) (join (weekday_name days) (codes ", ") (weekday_clean days) refl) (two_digits_clean day.day) in
    let two = join (upto_day ++ codes " ") (month_name day.month) (join upto_day (codes " ") one refl) (month_clean day.month) in
    let three = join (upto_month ++ codes " ") (four_digits day.year) (join upto_month (codes " ") two refl) (four_digits_clean day.year) in
    join (upto_year ++ codes " " ++ time_text second) (codes " GMT")
    (join (upto_year ++ codes " ") (time_text second) (join upto_year (codes " ") three refl) (time_clean second)) refl

-- ---- lines

reason_clean : (s : Status) → IsClean (reason s)
reason_clean (status.Ok version) = refl
reason_clean (status.PartialContent range) = refl
reason_clean status.BadRequest = refl
reason_clean status.Unauthorized = refl
reason_clean status.Forbidden = refl
reason_clean status.NotFound = refl
reason_clean (status.MethodNotAllowed allowed) = refl
reason_clean status.Conflict = refl
reason_clean status.ContentTooLarge = refl
reason_clean (status.RangeNotSatisfiable size) = refl
reason_clean status.RequestHeaderFieldsTooLarge = refl
reason_clean status.InternalServerError = refl
reason_clean status.NotImplemented = refl
reason_clean status.ServiceUnavailable = refl

pub status_line_clean : (s : Status) → IsClean (status_line s)
status_line_clean s =
    join (codes "HTTP/1.1 ") (decimal (code s) ++ (codes " " ++ reason s)) refl
    (join (decimal (code s)) (codes " " ++ reason s) (decimal_clean (code s)) (join (codes " ") (reason s) refl (reason_clean s)))

-- ---- fields

abbrev AreClean : Fields → Type 0
AreClean fields = list_all (λ field. is_one_line (field_line field)) fields ≡ true

field_clean : (name value : List ℕ) → IsClean name → IsClean value → IsClean (field_line (name, value))
field_clean name value p q = join name (codes ": " ++ value) p (join (codes ": ") value refl q)

both_clean : (a b : Fields) → AreClean a → AreClean b → AreClean (a ++ b)
both_clean a b p q = list_all-append (λ field. is_one_line (field_line field)) a b ∙ both_true _ _ p q

one_clean : (name value : List ℕ) (more : Fields) → IsClean name → IsClean value → AreClean more → AreClean ((name, value) ∷ more)
one_clean name value more p q r = both_true _ _ (field_clean name value p q) r

allowed_clean : (m : Method) → IsClean (allowed_names m)
allowed_clean method.Get = refl
allowed_clean method.Post = refl
allowed_clean method.GetOrHead = refl

range_clean : (r : Range) → IsClean (range_text r)
range_clean r =
    let behind_last = codes "/" ++ decimal r.size in
    let behind_first = codes "-" ++ (decimal r.last ++ behind_last) in
    join (codes "bytes ") (decimal r.first ++ behind_first) refl
    (join (decimal r.first) behind_first (decimal_clean r.first)
    (join (codes "-") (decimal r.last ++ behind_last) refl
    (join (decimal r.last) behind_last (decimal_clean r.last) (join (codes "/") (decimal r.size) refl (decimal_clean r.size)))))

size_clean : (size : Option ℕ) → AreClean (size_fields size)
size_clean None = refl
size_clean (Some size) =
    one_clean (codes "Content-Range") (codes "bytes */" ++ decimal size) [] refl (join (codes "bytes */") (decimal size) refl (decimal_clean size)) refl

status_clean : (s : Status) → AreClean (status_fields s)
status_clean (status.Ok None) = refl
status_clean (status.Ok (Some version)) = one_clean (codes "Delta-Table-Version") (decimal version) [] refl (decimal_clean version) refl
status_clean (status.PartialContent range) = one_clean (codes "Content-Range") (range_text range) [] refl (range_clean range) refl
status_clean status.BadRequest = refl
status_clean status.Unauthorized = refl
status_clean status.Forbidden = refl
status_clean status.NotFound = refl
status_clean (status.MethodNotAllowed allowed) = one_clean (codes "Allow") (allowed_names allowed) [] refl (allowed_clean allowed) refl
status_clean status.Conflict = refl
status_clean status.ContentTooLarge = refl
status_clean (status.RangeNotSatisfiable size) = size_clean size
status_clean status.RequestHeaderFieldsTooLarge = refl
status_clean status.InternalServerError = refl
status_clean status.NotImplemented = refl
status_clean status.ServiceUnavailable = refl

name_clean : (form : ContentType) → IsClean (content_type_name form)
name_clean content.Json = refl
name_clean content.JsonLines = refl
name_clean content.DeltaLines = refl
name_clean content.Bytes = refl

unit_clean : (form : ContentType) → AreClean (unit_fields form)
unit_clean content.Json = refl
unit_clean content.JsonLines = refl
unit_clean content.DeltaLines = refl
unit_clean content.Bytes = one_clean (codes "Accept-Ranges") (codes "bytes") [] refl refl refl

cond_clean : (b : Bool) (x y : Fields) → AreClean x → AreClean y → AreClean (cond b x y)
cond_clean true x y p q = p
cond_clean false x y p q = q

type_clean : (form : ContentType) (length : ℕ) → AreClean (type_fields form length)
type_clean form length = cond_clean (length == 0) [] ((codes "Content-Type", content_type_name form) ∷ []) refl (one_clean (codes "Content-Type") (content_type_name form) [] refl (name_clean form) refl)

format_clean : (form : ContentType) → AreClean (format_fields form)
format_clean content.Json = refl
format_clean content.JsonLines = refl
format_clean content.DeltaLines = one_clean (codes "delta-sharing-capabilities") (codes "responseformat=delta") [] refl refl refl
format_clean content.Bytes = refl

form_clean : (form : ContentType) (length : ℕ) → AreClean (form_fields form length)
form_clean form length =
    both_clean (unit_fields form) (type_fields form length ++ format_fields form) (unit_clean form)
    (both_clean (type_fields form length) (format_fields form) (type_clean form length) (format_clean form))

close_clean : (closes : Bool) → AreClean (close_fields closes)
close_clean closes = cond_clean closes ((codes "Connection", codes "close") ∷ []) [] refl refl

pub fields_clean : (head : Head) → AreClean (fields head)
fields_clean head =
    let behind_type = (codes "Content-Length", decimal head.length) ∷ close_fields head.closes in
    let behind_status = form_fields head.content_type head.length ++ behind_type in
    one_clean (codes "Date") (date_at head.moment) (status_fields head.status ++ behind_status) refl (date_clean head.moment)
    (both_clean (status_fields head.status) behind_status (status_clean head.status)
    (both_clean (form_fields head.content_type head.length) behind_type (form_clean head.content_type head.length)
    (one_clean (codes "Content-Length") (decimal head.length) (close_fields head.closes) refl (decimal_clean head.length) (close_clean head.closes))))
