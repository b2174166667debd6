-- What the answers to a get, a look at a size and a listing decide (RFC 9110, sections 14 and 15; RFC 6585, section 4; Amazon S3 API Reference,
-- "GetObject", "HeadObject", "ListObjectsV2" and "Error responses").
use Rattle.std.specs.Prelude.{ℕ, ◌-◌, ◌==◌, ◌&&◌, Bool, true, false, Option, Some, None, nat_lt, nat_le, if◌then◌else◌}
use Rattle.bucket_store.specs.declared.looks.GetNext.{GetNext}
use Rattle.bucket_store.specs.declared.looks.GetNext.TheVariants as got
use Rattle.bucket_store.specs.declared.looks.GetReply.{GetReply}
use Rattle.bucket_store.specs.declared.looks.ListNext.{ListNext}
use Rattle.bucket_store.specs.declared.looks.ListNext.TheVariants as listed
use Rattle.bucket_store.specs.declared.looks.SizeNext.{SizeNext}
use Rattle.bucket_store.specs.declared.looks.SizeNext.TheVariants as size
use Rattle.bucket_store.specs.Puts.{is_passing}

-- a line that was lost, too
abbrev pub may_pass : Option ℕ → Bool
may_pass None = true
may_pass (Some status) = is_passing status

-- the range begins where it was asked for, ends no later, and has as many bytes as the body
abbrev pub is_front : ℕ → ℕ → ℕ → Option (ℕ × ℕ) → Bool
is_front from last length None = false
is_front from last length (Some range) =
    (range.0 == from) && nat_le range.0 range.1 && nat_le range.1 last && nat_lt 0 length && (range.1 - range.0 == length - 1)

-- again, as long as it may pass and fewer than three requests were made
abbrev pub get_again : ℕ → Option ℕ → GetNext
get_again made status = if may_pass status && nat_lt made 3 then got.Again else got.Failed

abbrev pub get_at : ℕ → ℕ → ℕ → GetReply → Option ℕ → GetNext
get_at made from last reply None = get_again made None
get_at made from last reply (Some status) =
    if status == 206 then (if is_front from last reply.length reply.range then got.Take 0 else got.Failed)
    else if status == 200 then (if nat_lt from reply.length then got.Take from else got.Empty)
    else if status == 416 then got.Empty
    else if status == 404 then (if reply.no_such_key then got.Absent else got.Failed)
    else get_again made (Some status)

-- A part, or the whole object, from which the part is taken. A place behind the end has no bytes. Of 404 only the body tells an object that is absent
-- from a bucket that is.
abbrev pub get_next : ℕ → ℕ → ℕ → GetReply → GetNext
get_next made from last reply = get_at made from last reply reply.status

abbrev pub size_again : ℕ → Option ℕ → SizeNext
size_again made status = if may_pass status && nat_lt made 3 then size.Again else size.Failed

abbrev pub size_told : Option ℕ → SizeNext
size_told None = size.Failed
size_told (Some length) = size.Size length

abbrev pub size_next : ℕ → Option ℕ → Option ℕ → SizeNext
size_next made None length = size_again made None
size_next made (Some status) length =
    if status == 200 then size_told length
    else if status == 404 then size.Absent
    else size_again made (Some status)

abbrev pub list_again : ℕ → Option ℕ → ListNext
list_again made status = if may_pass status && nat_lt made 3 then listed.Again else listed.Failed

abbrev pub list_next : ℕ → Option ℕ → ListNext
list_next made None = list_again made None
list_next made (Some status) = if status == 200 then listed.Page else list_again made (Some status)
