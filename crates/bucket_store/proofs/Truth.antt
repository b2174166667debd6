-- What is kept of a put, move after move.
use Rattle.std.proofs.Common.{◌≡◌, ◌≢◌, inl, inr, ℕ, ◌≤◌, ◌==◌, List, [], ◌∷◌, false, cond, Option, Some, None, nat_le, nat_lt, refl, sym, ap, subst, arith}
use Rattle.std.specs.Prelude.{⊤}
use Rattle.std.specs.Option.{option_or}
use Rattle.std.proofs.lemmas.Bool.{cases_eq, cond_both, eqb-true, eqb-false, eq-eqb, leb-true, le-leb}
use Rattle.edge_core.specs.declared.store.Put.{Put}
use Rattle.edge_core.specs.declared.store.Put.TheVariants as put
use Rattle.bucket_store.specs.declared.puts.Look.TheVariants as look
use Rattle.bucket_store.specs.declared.puts.PutNext.TheVariants as next
use Rattle.bucket_store.specs.declared.puts.PutReply.{PutReply}
use Rattle.bucket_store.specs.declared.puts.PutReply.TheVariants as reply
use Rattle.bucket_store.specs.Puts.{looked, put_next}
use Rattle.bucket_store.specs.Buckets.{Bucket, Call, Maker, Move, Stage, World, Begin, Reach, Late, Hear, Lose, Refuse, See, Miss, Write, Waits, Looks, Answered}
use Rattle.bucket_store.specs.Buckets.{acted, after, at_stage, begun, followed, heard, heard_at, is_first_way, later, looked_at, nothing, reached, reply_of, seen_by, stored, told, with_call, world_from, world_of}
use Rattle.bucket_store.specs.Laws.{IsTrueAnswer, PutsTellTheTruth}

-- the object has another maker
record IsOther (mark : ℕ) (there : Option Maker) : Type 0 where
  pub maker : Maker
  pub is : there ≡ Some maker
  pub other : maker ≢ Some mark

-- some object is there; another's, where the put has made one request
record IsTaken (mark made : ℕ) (there : Option Maker) : Type 0 where
  pub maker : Maker
  pub is : there ≡ Some maker
  pub other : made ≤ 1 → maker ≢ Some mark

abbrev Noted : ℕ → ℕ → Option Maker → PutReply → Type 0
Noted mark made there reply.Made = there ≡ Some (Some mark)
Noted mark made there reply.Taken = IsTaken mark made there
Noted mark made there reply.Unsure = ⊤
Noted mark made there reply.Refused = ⊤

abbrev IsAnswer : ℕ → Option Maker → Put → Type 0
IsAnswer mark there put.Stored = there ≡ Some (Some mark)
IsAnswer mark there put.Exists = IsOther mark there
IsAnswer mark there put.Failed = ⊤

abbrev AtStage : ℕ → ℕ → Option Maker → Stage → Type 0
AtStage mark made there (Waits None) = made ≤ 1 → there ≢ Some (Some mark)
AtStage mark made there (Waits (Some back)) = Noted mark made there back
AtStage mark made there Looks = ⊤
AtStage mark made there (Answered answer) = IsAnswer mark there answer

-- what is kept of a put, with what has its name now
record Fits (mark : ℕ) (call : Call) (there : Option Maker) : Type 0 where
  pub started : 1 ≤ call.made
  pub kept : (x : Maker) → call.before ≡ Some x → there ≡ Some x
  pub own : there ≡ Some (Some mark) → call.before ≡ None
  pub stage : AtStage mark call.made there call.stage

-- a put that hasn't begun has made nothing
abbrev Holds : ℕ → Bucket → Option Call → Type 0
Holds mark bucket None = (n : ℕ) → bucket n ≢ Some (Some mark)
Holds mark bucket (Some call) = Fits mark call (bucket call.name)

-- ---- another's object

other_noted : (mark made : ℕ) (maker : Maker) (back : PutReply) → Noted mark made None back → Noted mark made (Some maker) back
other_noted mark made maker reply.Made h = absurd cc
other_noted mark made maker reply.Taken h = let is = h.is in absurd cc
other_noted mark made maker reply.Unsure h = tt
other_noted mark made maker reply.Refused h = tt

other_answer : (mark : ℕ) (maker : Maker) (answer : Put) → IsAnswer mark None answer → IsAnswer mark (Some maker) answer
other_answer mark maker put.Stored h = absurd cc
other_answer mark maker put.Exists h = let is = h.is in absurd cc
other_answer mark maker put.Failed h = tt

other_stage : (mark made : ℕ) (maker : Maker) (s : Stage) → maker ≢ Some mark → AtStage mark made None s → AtStage mark made (Some maker) s
other_stage mark made maker (Waits None) differs h = λ few same. (let is : maker ≡ Some mark = cc in differs is)
other_stage mark made maker (Waits (Some back)) differs h = other_noted mark made maker back h
other_stage mark made maker Looks differs h = tt
other_stage mark made maker (Answered answer) differs h = other_answer mark maker answer h

other_stored : (mark : ℕ) (call : Call) (maker : Maker) (there : Option Maker) → maker ≢ Some mark → Fits mark call there → Fits mark call (option_or there (Some maker))
other_stored mark call maker None differs h = record {
  started = h.started;
  kept = λ x e. (let none = h.kept x e in absurd cc);
  own = λ same. (let is : maker ≡ Some mark = cc in absurd (differs is));
  stage = other_stage mark call.made maker call.stage differs h.stage;
}
other_stored mark call maker (Some x) differs h = h

-- ---- its own object

before_none : (before : Option Maker) → ((x : Maker) → before ≡ Some x → None ≡ Some x) → before ≡ None
before_none None h = refl
before_none (Some x) h = let isnt = h x refl in absurd cc

own_noted : (mark made : ℕ) (maker : Maker) (back : PutReply) → Noted mark made None back → Noted mark made (Some maker) back
own_noted mark made maker back h = other_noted mark made maker back h

not_few : (made : ℕ) → nat_le made 1 ≡ false → made ≤ 1 → ⊥
not_few made isnt few = let so = le-leb made 1 few in absurd cc

own_stage : (mark made : ℕ) (s : Stage) → is_first_way made s ≡ false → AtStage mark made None s → AtStage mark made (Some (Some mark)) s
own_stage mark made (Waits None) isnt h = λ few same. absurd (not_few made isnt few)
own_stage mark made (Waits (Some back)) isnt h = own_noted mark made (Some mark) back h
own_stage mark made Looks isnt h = tt
own_stage mark made (Answered answer) isnt h = other_answer mark (Some mark) answer h

own_later : (mark : ℕ) (call : Call) (there : Option Maker) → is_first_way call.made call.stage ≡ false → Fits mark call there → Fits mark call (option_or there (Some (Some mark)))
own_later mark call None isnt h = record {
  started = h.started;
  kept = λ x e. (let none = h.kept x e in absurd cc);
  own = λ same. before_none call.before h.kept;
  stage = own_stage mark call.made call.stage isnt h.stage;
}
own_later mark call (Some x) isnt h = h

own_reached : (mark : ℕ) (call : Call) (there : Option Maker) → call.stage ≡ Waits None → Fits mark call there
    → Fits mark (at_stage call (Waits (Some (reply_of there)))) (option_or there (Some (Some mark)))
own_reached mark call None is h = record {
  started = h.started;
  kept = λ x e. (let none = h.kept x e in absurd cc);
  own = λ same. before_none call.before h.kept;
  stage = refl;
}
own_reached mark call (Some x) is h =
    let waits : AtStage mark call.made (Some x) (Waits None) = subst (AtStage mark call.made (Some x)) is h.stage in
    record { started = h.started; kept = h.kept; own = h.own; stage = record { maker = x; is = refl; other = λ few same. waits few (ap (λ m. Some m) same) } }

-- ---- what is heard

answered : (mark : ℕ) (call : Call) (there : Option Maker) (answer : Put) → Fits mark call there → IsAnswer mark there answer → Fits mark (at_stage call (Answered answer)) there
answered mark call there answer h is = record { started = h.started; kept = h.kept; own = h.own; stage = is }

heard_fits : (mark : ℕ) (call : Call) (there : Option Maker) (back : PutReply) → Noted mark call.made there back → Fits mark call there → Fits mark (heard call back) there
heard_fits mark call there reply.Made noted h = answered mark call there put.Stored h noted
heard_fits mark call there reply.Taken noted h =
    cond_both (nat_le call.made 1) (next.Done put.Exists) next.Look (λ n. Fits mark (followed call n) there)
    (λ few. answered mark call there put.Exists h (record { maker = noted.maker; is = noted.is; other = noted.other (leb-true call.made 1 few) }))
    (λ many. record { started = h.started; kept = h.kept; own = h.own; stage = tt })
heard_fits mark call there reply.Unsure noted h =
    cond_both (nat_lt call.made 3) next.Again (next.Done put.Failed) (λ n. Fits mark (followed call n) there)
    (λ again. (let started = h.started in record { started = omega arith; kept = h.kept; own = h.own; stage = λ few same. absurd (omega arith) }))
    (λ last. answered mark call there put.Failed h tt)
heard_fits mark call there reply.Refused noted h = answered mark call there put.Failed h tt

heard_at_fits : (mark : ℕ) (call : Call) (there : Option Maker) (s : Stage) → call.stage ≡ s → Fits mark call there → Fits mark (heard_at call s) there
heard_at_fits mark call there (Waits None) is h = h
heard_at_fits mark call there (Waits (Some back)) is h = heard_fits mark call there back (subst (AtStage mark call.made there) is h.stage) h
heard_at_fits mark call there Looks is h = h
heard_at_fits mark call there (Answered answer) is h = h

lost_fits : (mark : ℕ) (call : Call) (there : Option Maker) (s : Stage) → Fits mark call there → Fits mark (told reply.Unsure call s) there
lost_fits mark call there (Waits noted) h = heard_fits mark call there reply.Unsure tt h
lost_fits mark call there Looks h = h
lost_fits mark call there (Answered answer) h = h

refused_fits : (mark : ℕ) (call : Call) (there : Option Maker) (s : Stage) → Fits mark call there → Fits mark (told reply.Refused call s) there
refused_fits mark call there (Waits noted) h = heard_fits mark call there reply.Refused tt h
refused_fits mark call there Looks h = h
refused_fits mark call there (Answered answer) h = h

seen_answer : (mark : ℕ) (there : Option Maker) → IsAnswer mark there (looked (seen_by mark there))
seen_answer mark None = tt
seen_answer mark (Some None) = record { maker = None; is = refl; other = λ same. absurd cc }
seen_answer mark (Some (Some maker)) =
    cond_both (maker == mark) look.Ours look.Others (λ l. IsAnswer mark (Some (Some maker)) (looked l))
    (λ so. ap (λ m. Some (Some m)) (eqb-true maker mark so))
    (λ isnt. record { maker = Some maker; is = refl; other = λ same. (let is : maker ≡ mark = cc in eqb-false maker mark isnt is) })

seen_fits : (mark : ℕ) (call : Call) (there : Option Maker) (s : Stage) → Fits mark call there → Fits mark (looked_at (seen_by mark there) call s) there
seen_fits mark call there (Waits noted) h = h
seen_fits mark call there Looks h = answered mark call there (looked (seen_by mark there)) h (seen_answer mark there)
seen_fits mark call there (Answered answer) h = h

missed_fits : (mark : ℕ) (call : Call) (there : Option Maker) (s : Stage) → Fits mark call there → Fits mark (looked_at look.Nothing call s) there
missed_fits mark call there (Waits noted) h = h
missed_fits mark call there Looks h = answered mark call there put.Failed h tt
missed_fits mark call there (Answered answer) h = h

-- ---- worlds

abbrev Kept : ℕ → World → Type 0
Kept mark w = Holds mark w.bucket (w.calls mark)

-- the same name, stored under
stored_here : (bucket : Bucket) (name : ℕ) (maker : Maker) → stored bucket name maker name ≡ option_or (bucket name) (Some maker)
stored_here bucket name maker = ap (λ b. cond b (option_or (bucket name) (Some maker)) (bucket name)) (eq-eqb name name refl)

or_differs : (mark : ℕ) (maker : Maker) (there : Option Maker) → maker ≢ Some mark → there ≢ Some (Some mark) → option_or there (Some maker) ≢ Some (Some mark)
or_differs mark maker None differs h = λ same. (let is : maker ≡ Some mark = cc in differs is)
or_differs mark maker (Some x) differs h = h

others_kept : (mark : ℕ) (bucket : Bucket) (name : ℕ) (maker : Maker) (o : Option Call) → maker ≢ Some mark → Holds mark bucket o → Holds mark (stored bucket name maker) o
others_kept mark bucket name maker None differs h =
    λ n. cond_both (n == name) (option_or (bucket n) (Some maker)) (bucket n) (λ x. x ≢ Some (Some mark)) (λ so. or_differs mark maker (bucket n) differs (h n)) (λ isnt. h n)
others_kept mark bucket name maker (Some call) differs h =
    cond_both (call.name == name) (option_or (bucket call.name) (Some maker)) (bucket call.name) (Fits mark call) (λ so. other_stored mark call maker (bucket call.name) differs h) (λ isnt. h)

-- a put moves, and the bucket may too: what is kept of it is shown of its own mark, and of another one what is kept of that
moved_kept : (mark m : ℕ) (w : World) (next_call : Call) (next_bucket : Bucket) → (Kept m w → Fits m next_call (next_bucket next_call.name))
    → (m ≢ mark → Holds mark next_bucket (w.calls mark)) → Kept mark w → Holds mark next_bucket (cond (mark == m) (Some next_call) (w.calls mark))
moved_kept mark m w next_call next_bucket own other h =
    cond_both (mark == m) (Some next_call) (w.calls mark) (Holds mark next_bucket)
    (λ so.
    let e : mark ≡ m = eqb-true mark m so in
    subst (λ k. Fits k next_call (next_bucket next_call.name)) (sym e) (own (subst (λ k. Kept k w) e h)))
    (λ isnt. other (λ same. eqb-false mark m isnt (sym same)))

-- what is kept of the put that moves
of_call : (m : ℕ) (w : World) (call : Call) → w.calls m ≡ Some call → Kept m w → Fits m call (w.bucket call.name)
of_call m w call is h = subst (Holds m w.bucket) is h

marks_differ : (mark m : ℕ) → m ≢ mark → Some m ≢ Some mark
marks_differ mark m differs = λ same. (let is : m ≡ mark = cc in differs is)

reached_kept : (mark m : ℕ) (w : World) (call : Call) (s : Stage) → call.stage ≡ s → w.calls m ≡ Some call → Kept mark w → Kept mark (reached w m call s)
reached_kept mark m w call (Waits None) is there h =
    let next_call = at_stage call (Waits (Some (reply_of (w.bucket call.name)))) in
    moved_kept mark m w next_call (stored w.bucket call.name (Some m))
    (λ k. subst (Fits m next_call) (sym (stored_here w.bucket call.name (Some m))) (own_reached m call (w.bucket call.name) is (of_call m w call there k)))
    (λ differs. others_kept mark w.bucket call.name (Some m) (w.calls mark) (marks_differ mark m differs) h) h
reached_kept mark m w call (Waits (Some back)) is there h = h
reached_kept mark m w call Looks is there h = h
reached_kept mark m w call (Answered answer) is there h = h

later_own : (mark m : ℕ) (w : World) (call : Call) → is_first_way call.made call.stage ≡ false → w.calls m ≡ Some call → m ≡ mark → Kept mark w
    → Holds mark (stored w.bucket call.name (Some m)) (w.calls mark)
later_own mark m w call isnt there e h =
    subst (λ k. Holds k (stored w.bucket call.name (Some m)) (w.calls k)) e
    (subst (Holds m (stored w.bucket call.name (Some m))) (sym there)
    (subst (Fits m call) (sym (stored_here w.bucket call.name (Some m))) (own_later m call (w.bucket call.name) isnt (of_call m w call there (subst (λ k. Kept k w) (sym e) h)))))

later_kept : (mark m : ℕ) (w : World) (call : Call) → w.calls m ≡ Some call → Kept mark w → Kept mark (later w m call)
later_kept mark m w call there h =
    cond_both (is_first_way call.made call.stage) w (record w { bucket = stored w.bucket call.name (Some m) }) (Kept mark) (λ so. h)
    (λ isnt.
    elim (cases_eq m mark) as (λ s. Holds mark (stored w.bucket call.name (Some m)) (w.calls mark)) [
      | inl same ↦ later_own mark m w call isnt there same h
      | inr differ ↦ others_kept mark w.bucket call.name (Some m) (w.calls mark) (marks_differ mark m differ) h
    ])

-- a put moves, and the bucket doesn't
turned_kept : (mark m : ℕ) (w : World) (call next_call : Call) → w.calls m ≡ Some call → (Fits m call (w.bucket call.name) → Fits m next_call (w.bucket next_call.name))
    → Kept mark w → Kept mark (with_call w m next_call)
turned_kept mark m w call next_call there turn h =
    moved_kept mark m w next_call w.bucket (λ k. turn (of_call m w call there k)) (λ differs. h) h

-- each move keeps the name
same_name : (mark : ℕ) (bucket : Bucket) (call next_call : Call) → next_call.name ≡ call.name → Fits mark next_call (bucket call.name) → Fits mark next_call (bucket next_call.name)
same_name mark bucket call next_call e h = subst (λ n. Fits mark next_call (bucket n)) (sym e) h

followed_name : (call : Call) (n : _) → (followed call n).name ≡ call.name
followed_name call (next.Done answer) = refl
followed_name call next.Again = refl
followed_name call next.Look = refl

heard_at_name : (call : Call) (s : Stage) → (heard_at call s).name ≡ call.name
heard_at_name call (Waits None) = refl
heard_at_name call (Waits (Some back)) = followed_name call (put_next call.made back)
heard_at_name call Looks = refl
heard_at_name call (Answered answer) = refl

told_name : (back : PutReply) (call : Call) (s : Stage) → (told back call s).name ≡ call.name
told_name back call (Waits noted) = followed_name call (put_next call.made back)
told_name back call Looks = refl
told_name back call (Answered answer) = refl

looked_at_name : (l : _) (call : Call) (s : Stage) → (looked_at l call s).name ≡ call.name
looked_at_name l call (Waits noted) = refl
looked_at_name l call Looks = refl
looked_at_name l call (Answered answer) = refl

begun_kept : (mark m name : ℕ) (w : World) (o : Option Call) → w.calls m ≡ o → Kept mark w → Kept mark (begun w m name o (w.bucket name))
begun_kept mark m name w None there h =
    let next_call : Call = record { name = name; before = w.bucket name; made = 1; stage = Waits None } in
    moved_kept mark m w next_call w.bucket
    (λ k.
    let none : (n : ℕ) → w.bucket n ≢ Some (Some m) = subst (Holds m w.bucket) there k in
    record { started = omega arith; kept = λ x e. e; own = λ same. absurd (none name same); stage = λ few same. none name same })
    (λ differs. h) h
begun_kept mark m name w (Some call) there h = h

acted_reach : (mark m : ℕ) (w : World) (o : Option Call) → w.calls m ≡ o → Kept mark w → Kept mark (acted w m (λ call. reached w m call call.stage) o)
acted_reach mark m w None there h = h
acted_reach mark m w (Some call) there h = reached_kept mark m w call call.stage refl there h

acted_later : (mark m : ℕ) (w : World) (o : Option Call) → w.calls m ≡ o → Kept mark w → Kept mark (acted w m (λ call. later w m call) o)
acted_later mark m w None there h = h
acted_later mark m w (Some call) there h = later_kept mark m w call there h

-- a put moves by a turn that keeps its name and what is kept of it
acted_turn : (mark m : ℕ) (w : World) (turn : Call → Call) (o : Option Call) → ((call : Call) → (turn call).name ≡ call.name)
    → ((call : Call) → Fits m call (w.bucket call.name) → Fits m (turn call) (w.bucket call.name)) → w.calls m ≡ o → Kept mark w → Kept mark (acted w m (λ call. with_call w m (turn call)) o)
acted_turn mark m w turn None named fits there h = h
acted_turn mark m w turn (Some call) named fits there h =
    turned_kept mark m w call (turn call) there (λ f. same_name m w.bucket call (turn call) (named call) (fits call f)) h

after_kept : (mark : ℕ) (w : World) (move : Move) → Kept mark w → Kept mark (after w move)
after_kept mark w (Begin m name) h = begun_kept mark m name w (w.calls m) refl h
after_kept mark w (Reach m) h = acted_reach mark m w (w.calls m) refl h
after_kept mark w (Late m) h = acted_later mark m w (w.calls m) refl h
after_kept mark w (Hear m) h =
    acted_turn mark m w (λ call. heard_at call call.stage) (w.calls m) (λ call. heard_at_name call call.stage) (λ call f. heard_at_fits m call (w.bucket call.name) call.stage refl f) refl h
after_kept mark w (Lose m) h =
    acted_turn mark m w (λ call. told reply.Unsure call call.stage) (w.calls m) (λ call. told_name reply.Unsure call call.stage) (λ call f. lost_fits m call (w.bucket call.name) call.stage f) refl h
after_kept mark w (Refuse m) h =
    acted_turn mark m w (λ call. told reply.Refused call call.stage) (w.calls m) (λ call. told_name reply.Refused call call.stage) (λ call f. refused_fits m call (w.bucket call.name) call.stage f) refl h
after_kept mark w (See m) h =
    acted_turn mark m w (λ call. looked_at (seen_by m (w.bucket call.name)) call call.stage) (w.calls m) (λ call. looked_at_name (seen_by m (w.bucket call.name)) call call.stage)
    (λ call f. seen_fits m call (w.bucket call.name) call.stage f) refl h
after_kept mark w (Miss m) h =
    acted_turn mark m w (λ call. looked_at look.Nothing call call.stage) (w.calls m) (λ call. looked_at_name look.Nothing call call.stage) (λ call f. missed_fits m call (w.bucket call.name) call.stage f) refl h
after_kept mark w (Write name) h = others_kept mark w.bucket name None (w.calls mark) (λ same. absurd cc) h

run_kept : (mark : ℕ) (w : World) (moves : List Move) → Kept mark w → Kept mark (world_from w moves)
run_kept mark w [] h = h
run_kept mark w (m ∷ ms) h = run_kept mark (after w m) ms (after_kept mark w m h)

nothing_kept : (mark : ℕ) → Kept mark nothing
nothing_kept mark = λ n same. absurd cc

true_answer : (mark : ℕ) (call : Call) (there : Option Maker) (answer : Put) → Fits mark call there → IsAnswer mark there answer → IsTrueAnswer mark call there answer
true_answer mark call there put.Stored h is = (is, h.own is)
true_answer mark call there put.Exists h is = (is.maker, is.is, is.other)
true_answer mark call there put.Failed h is = tt

pub truth : PutsTellTheTruth
truth moves mark call answer is stage =
    let w = world_of moves in
    let kept : Fits mark call (w.bucket call.name) = of_call mark w call is (run_kept mark nothing moves (nothing_kept mark)) in
    true_answer mark call (w.bucket call.name) answer kept (subst (AtStage mark call.made (w.bucket call.name)) stage kept.stage)
