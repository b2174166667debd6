-- What the answers to a put decide (RFC 9110, sections 13.1.2 and 15; RFC 6585, section 4; Amazon S3 API Reference, "PutObject").
use Rattle.std.specs.Prelude.{ℕ, ◌==◌, ◌||◌, ◌&&◌, Bool, Option, Some, None, nat_lt, nat_le, if◌then◌else◌}
use Rattle.edge_core.specs.declared.store.Put.{Put}
use Rattle.edge_core.specs.declared.store.Put.TheVariants as put
use Rattle.bucket_store.specs.declared.puts.Look.{Look}
use Rattle.bucket_store.specs.declared.puts.Look.TheVariants as look
use Rattle.bucket_store.specs.declared.puts.PutNext.{PutNext}
use Rattle.bucket_store.specs.declared.puts.PutNext.TheVariants as next
use Rattle.bucket_store.specs.declared.puts.PutReply.{PutReply}
use Rattle.bucket_store.specs.declared.puts.PutReply.TheVariants as reply

-- too many requests, or a failure of the server, which may pass
abbrev pub is_passing : ℕ → Bool
is_passing status = (status == 429) || (nat_le 500 status && nat_le status 599)

-- 409 is a conflict with another request that is under way
abbrev pub put_reply : Option ℕ → PutReply
put_reply None = reply.Unsure
put_reply (Some status) =
    if status == 200 then reply.Made
    else if status == 412 then reply.Taken
    else if (status == 409) || is_passing status then reply.Unsure
    else reply.Refused

-- what follows from what came back for the request that was the made-th of its put
abbrev pub put_next : ℕ → PutReply → PutNext
put_next made reply.Made = next.Done put.Stored
put_next made reply.Taken = if nat_le made 1 then next.Done put.Exists else next.Look
put_next made reply.Unsure = if nat_lt made 3 then next.Again else next.Done put.Failed
put_next made reply.Refused = next.Done put.Failed

abbrev pub looked : Look → Put
looked look.Ours = put.Stored
looked look.Others = put.Exists
looked look.Nothing = put.Failed
