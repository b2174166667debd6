-- Puts of any number of stores on one bucket, step by step. Each put has a mark of its own, a number here, which each of its requests has.
-- A request may reach the bucket late, or twice, or never, and its answer may be lost. What came first of a put's first request is what is heard of it,
-- if anything is: nothing on the way makes a request again and hides the first answer.
use Rattle.std.specs.Prelude.{ℕ, ◌+◌, ◌==◌, Bool, false, List, [], ◌∷◌, Option, Some, None, nat_le, if◌then◌else◌}
use Rattle.std.specs.Option.{option_or}
use Rattle.edge_core.specs.declared.store.Put.{Put}
use Rattle.bucket_store.specs.declared.puts.Look.{Look}
use Rattle.bucket_store.specs.declared.puts.Look.TheVariants as look
use Rattle.bucket_store.specs.declared.puts.PutNext.{PutNext}
use Rattle.bucket_store.specs.declared.puts.PutNext.TheVariants as next
use Rattle.bucket_store.specs.declared.puts.PutReply.{PutReply}
use Rattle.bucket_store.specs.declared.puts.PutReply.TheVariants as reply
use Rattle.bucket_store.specs.Puts.{looked, put_next}

-- the mark of the put that made an object; none where somebody else made it
abbrev pub Maker : Type 0
Maker = Option ℕ

-- the objects by name, a number here, with who made them; they don't change or go
abbrev pub Bucket : Type 0
Bucket = ℕ → Option Maker

-- a put stores only where no object has the name
abbrev pub stored : Bucket → ℕ → Maker → Bucket
stored bucket name maker n = if n == name then option_or (bucket n) (Some maker) else bucket n

abbrev pub reply_of : Option Maker → PutReply
reply_of None = reply.Made
reply_of (Some maker) = reply.Taken

-- where a put is: it waits for the answer to its latest request, which is as noted where that reached the bucket; it waits for a look; or it has answered
pub data Stage : Type 0 where
  Waits : Option PutReply → Stage
  Looks : Stage
  Answered : Put → Stage

-- its name, what had that name when it began, how many requests it has made, and where it is
pub record Call : Type 0 where
  pub name : ℕ
  pub before : Option Maker
  pub made : ℕ
  pub stage : Stage

-- puts by mark
pub record World : Type 0 where
  pub bucket : Bucket
  pub calls : ℕ → Option Call

-- A put begins. Its latest request reaches the bucket for the first time. One of its requests reaches it again, or late. Its answer is heard, or is
-- unsure, or a refusal. A look is answered, or isn't. Somebody else puts an object.
pub data Move : Type 0 where
  Begin : ℕ → ℕ → Move
  Reach : ℕ → Move
  Late : ℕ → Move
  Hear : ℕ → Move
  Lose : ℕ → Move
  Refuse : ℕ → Move
  See : ℕ → Move
  Miss : ℕ → Move
  Write : ℕ → Move

abbrev pub with_call : World → ℕ → Call → World
with_call w mark call = record w { calls = λ m. if m == mark then Some call else w.calls m }

abbrev pub at_stage : Call → Stage → Call
at_stage call stage = record call { stage = stage }

-- what follows from what came back
abbrev pub followed : Call → PutNext → Call
followed call (next.Done answer) = at_stage call (Answered answer)
followed call next.Again = record call { made = call.made + 1; stage = Waits None }
followed call next.Look = at_stage call Looks

abbrev pub heard : Call → PutReply → Call
heard call back = followed call (put_next call.made back)

abbrev pub seen_by : ℕ → Option Maker → Look
seen_by mark None = look.Nothing
seen_by mark (Some None) = look.Others
seen_by mark (Some (Some maker)) = if maker == mark then look.Ours else look.Others

-- its latest request is the first, and hasn't reached the bucket
abbrev pub is_first_way : ℕ → Stage → Bool
is_first_way made (Waits None) = nat_le made 1
is_first_way made _ = false

abbrev pub reached : World → ℕ → Call → Stage → World
reached w mark call (Waits None) = record (with_call w mark (at_stage call (Waits (Some (reply_of (w.bucket call.name)))))) { bucket = stored w.bucket call.name (Some mark) }
reached w mark call _ = w

abbrev pub later : World → ℕ → Call → World
later w mark call = if is_first_way call.made call.stage then w else record w { bucket = stored w.bucket call.name (Some mark) }

abbrev pub heard_at : Call → Stage → Call
heard_at call (Waits (Some back)) = heard call back
heard_at call _ = call

abbrev pub told : PutReply → Call → Stage → Call
told back call (Waits noted) = heard call back
told back call _ = call

abbrev pub looked_at : Look → Call → Stage → Call
looked_at look call Looks = at_stage call (Answered (looked look))
looked_at look call _ = call

-- a put with this mark does something
abbrev pub acted : World → ℕ → (Call → World) → Option Call → World
acted w mark act None = w
acted w mark act (Some call) = act call

abbrev pub begun : World → ℕ → ℕ → Option Call → Option Maker → World
begun w mark name None before = with_call w mark (record { name = name; before = before; made = 1; stage = Waits None })
begun w mark name (Some call) before = w

abbrev pub after : World → Move → World
after w (Begin mark name) = begun w mark name (w.calls mark) (w.bucket name)
after w (Reach mark) = acted w mark (λ call. reached w mark call call.stage) (w.calls mark)
after w (Late mark) = acted w mark (λ call. later w mark call) (w.calls mark)
after w (Hear mark) = acted w mark (λ call. with_call w mark (heard_at call call.stage)) (w.calls mark)
after w (Lose mark) = acted w mark (λ call. with_call w mark (told reply.Unsure call call.stage)) (w.calls mark)
after w (Refuse mark) = acted w mark (λ call. with_call w mark (told reply.Refused call call.stage)) (w.calls mark)
after w (See mark) = acted w mark (λ call. with_call w mark (looked_at (seen_by mark (w.bucket call.name)) call call.stage)) (w.calls mark)
after w (Miss mark) = acted w mark (λ call. with_call w mark (looked_at look.Nothing call call.stage)) (w.calls mark)
after w (Write name) = record w { bucket = stored w.bucket name None }

abbrev pub world_from : World → List Move → World
world_from w [] = w
world_from w (m ∷ ms) = world_from (after w m) ms

-- an empty bucket, and no put
abbrev pub nothing : World
nothing = record { bucket = λ n. None; calls = λ m. None }

-- what moves leave, one after another
abbrev pub world_of : List Move → World
world_of moves = world_from nothing moves
