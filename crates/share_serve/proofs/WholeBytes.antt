-- Whole requests are answered.
use Rattle.std.proofs.Common.{◌≡◌, ◌⊎◌, inl, inr, ℕ, ◌+◌, ◌-◌, ◌<◌, ◌^◌, Bool, true, false, not, ◌||◌, cond, List, [], ◌∷◌, ◌++◌, length, Option, Some, refl, sym, ap, ◌∙◌, subst, arith, true≢false}
use Rattle.std.specs.Prelude.{min, ⊤}
use Rattle.std.proofs.lemmas.List.{length-append}
use mathlib.Core.List.{IsPrefix}
use Rattle.edge_core.specs.Faults.{Rose}
use Rattle.edge_core.specs.Objects.{Objects}
use Rattle.http_message.specs.Messages.{ReadsMessage, bad, ended, request, truncated}
use Rattle.http_message.specs.Sessions.{ReadsRequests, Request as Message, place_behind}
use Rattle.http_message.specs.declared.head.Head.{Head}
use Rattle.share_serve.specs.Laws.{messages_of}
use Rattle.share_serve.specs.Sessions.{Ends, HasCause, IsSession, opening, served_in}
use Rattle.share_serve.specs.Turns.{Runs, Side, State, Turn, closes_after, stream_of}
use Rattle.share_serve.specs.WholeSessions.{AnswersAll, AreRequests, Stays, closes_within, up_to_closing}
use Rattle.share_serve.specs.declared.serve.SessionEnd.{SessionEnd}
use Rattle.share_serve.specs.declared.serve.SessionEnd.TheVariants as end
use Rattle.share_serve.specs.declared.server.Server.{Server}
use Rattle.share_serve.proofs.Ended.{reads_there}
use Rattle.share_serve.proofs.Same.{OneReading, same_request}
use Rattle.share_serve.proofs.Told.{place_small, tells}

-- ---- no fault

-- an end that no fault is the cause of
abbrev IsCalm : SessionEnd → Type 0
IsCalm (end.Done served) = ⊤
IsCalm (end.Truncated at served) = ⊤
IsCalm (end.BadMessage at flaw served) = ⊤
IsCalm (end.NoMemory served) = ⊤
IsCalm (end.ReadFault served) = ⊥
IsCalm (end.WriteFault served) = ⊥
IsCalm (end.BodyCut served sent) = ⊥

pub none_rose : (before now : ℕ) → Stays before now → Rose before now → ⊥
none_rose before now stays rose = omega (arith, stays.0, stays.1, rose)

calm : (e : SessionEnd) (n m a b p q : ℕ) (objects : Objects) → HasCause e n m a b (Some objects) p q → Stays n m → Stays a b → Stays p q → IsCalm e
calm (end.Done served) n m a b p q objects cause r w s = tt
calm (end.Truncated at served) n m a b p q objects cause r w s = tt
calm (end.BadMessage at flaw served) n m a b p q objects cause r w s = tt
calm (end.NoMemory served) n m a b p q objects cause r w s = tt
calm (end.ReadFault served) n m a b p q objects cause r w s = none_rose n m r cause
calm (end.WriteFault served) n m a b p q objects cause r w s = none_rose a b w cause
calm (end.BodyCut served sent) n m a b p q objects cause r w s = none_rose p q s cause

-- ---- what is left

-- the requests that are still to be answered
abbrev left : Bool → ℕ → List Message → List Message
left true n ms = up_to_closing n ms
left false n ms = []

-- nothing is read behind the requests, where the session goes on
abbrev NothingBehind : Bool → ℕ → List Message → List ℕ → Type 0
NothingBehind true n ms rest = ReadsMessage rest ended ⊎ (closes_within n ms ≡ true)
NothingBehind false n ms rest = ⊤

-- so much of what was wanted came
abbrev Comes : List Message → List Message → SessionEnd → Type 0
Comes came wanted (end.Done served) = came ≡ wanted
Comes came wanted (end.NoMemory served) = IsPrefix came wanted
Comes came wanted (end.Truncated at served) = ⊥
Comes came wanted (end.BadMessage at flaw served) = ⊥
Comes came wanted (end.ReadFault served) = ⊥
Comes came wanted (end.WriteFault served) = ⊥
Comes came wanted (end.BodyCut served sent) = ⊥

one_more : (m : Message) (came wanted : List Message) (e : SessionEnd) → Comes came wanted e → Comes (m ∷ came) (m ∷ wanted) e
one_more m came wanted (end.Done served) is = ap (λ ms. m ∷ ms) is
one_more m came wanted (end.NoMemory served) is = (is.0, ap (λ ms. m ∷ ms) is.1)
one_more m came wanted (end.Truncated at served) is = absurd is
one_more m came wanted (end.BadMessage at flaw served) is = absurd is
one_more m came wanted (end.ReadFault served) is = absurd is
one_more m came wanted (end.WriteFault served) is = absurd is
one_more m came wanted (end.BodyCut served sent) is = absurd is

left_behind : (closes : Bool) (n : ℕ) (m : Message) (ms : List Message) → m ∷ left (not closes) n ms ≡ m ∷ cond closes [] (up_to_closing n ms)
left_behind true n m ms = refl
left_behind false n m ms = refl

nothing_behind : (closes : Bool) (n : ℕ) (ms : List Message) (rest : List ℕ) → (ReadsMessage rest ended ⊎ ((closes || closes_within n ms) ≡ true)) → NothingBehind (not closes) n ms rest
nothing_behind true n ms rest is = tt
nothing_behind false n ms rest is = is

-- ---- where the session ends

not_request : (a : Head) (b : List ℕ) (c : Bool) (d : List ℕ) → ended ≡ request a b c d → ⊥
not_request a b c d e = cc

-- where the session goes on and no request is left, the bytes end
at_end : OneReading → (server : Server) (v : State) (e : SessionEnd) (new : Side) (bytes : List ℕ) → Ends server v e new → IsCalm e → v.goes ≡ true → stream_of v ≡ Some bytes → ReadsMessage bytes ended → Comes [] [] e
at_end one server v (end.Done served) new bytes is c g told none = refl
at_end one server v (end.NoMemory served) new bytes is c g told none = ([], refl)
at_end one server v (end.Truncated at served) new bytes is c g told none =
    let same : ended ≡ truncated = one bytes ended truncated none (reads_there server v (end.Truncated at served) new bytes is tt g told) in absurd cc
at_end one server v (end.BadMessage at flaw served) new bytes is c g told none =
    let same : ended ≡ bad flaw = one bytes ended (bad flaw) none (reads_there server v (end.BadMessage at flaw served) new bytes is tt g told) in absurd cc
at_end one server v (end.ReadFault served) new bytes is c g told none = absurd c
at_end one server v (end.WriteFault served) new bytes is c g told none = absurd c
at_end one server v (end.BodyCut served sent) new bytes is c g told none = absurd c

-- where a request is left it doesn't end but for want of memory
before_request : OneReading → (server : Server) (v : State) (e : SessionEnd) (new : Side) (bytes : List ℕ) (m : Message) (tail : List ℕ) (wanted : List Message) → Ends server v e new → IsCalm e → v.goes ≡ true
    → stream_of v ≡ Some bytes → ReadsMessage bytes (request m.head m.body m.closes tail) → Comes [] wanted e
before_request one server v (end.Done served) new bytes m tail wanted is c g told next =
    let same : ended ≡ request m.head m.body m.closes tail = one bytes ended (request m.head m.body m.closes tail) (reads_there server v (end.Done served) new bytes is tt g told) next in absurd cc
before_request one server v (end.NoMemory served) new bytes m tail wanted is c g told next = (wanted, refl)
before_request one server v (end.Truncated at served) new bytes m tail wanted is c g told next =
    let same : truncated ≡ request m.head m.body m.closes tail = one bytes truncated (request m.head m.body m.closes tail) (reads_there server v (end.Truncated at served) new bytes is tt g told) next in absurd cc
before_request one server v (end.BadMessage at flaw served) new bytes m tail wanted is c g told next =
    let same : bad flaw ≡ request m.head m.body m.closes tail = one bytes (bad flaw) (request m.head m.body m.closes tail) (reads_there server v (end.BadMessage at flaw served) new bytes is tt g told) next in absurd cc
before_request one server v (end.ReadFault served) new bytes m tail wanted is c g told next = absurd c
before_request one server v (end.WriteFault served) new bytes m tail wanted is c g told next = absurd c
before_request one server v (end.BodyCut served sent) new bytes m tail wanted is c g told next = absurd c

-- a session that doesn't go on is done
closed_end : (server : Server) (v : State) (e : SessionEnd) (new : Side) → Ends server v e new → IsCalm e → v.goes ≡ false → Comes [] [] e
closed_end server v (end.Done served) new is c g = refl
closed_end server v (end.NoMemory served) new is c g = ([], refl)
closed_end server v (end.Truncated at served) new is c g = absurd (true≢false (sym is.1 ∙ g))
closed_end server v (end.BadMessage at flaw served) new is c g = absurd (true≢false (sym is.0 ∙ g))
closed_end server v (end.ReadFault served) new is c g = absurd c
closed_end server v (end.WriteFault served) new is c g = absurd c
closed_end server v (end.BodyCut served sent) new is c g = absurd c

ends_there : OneReading → (server : Server) (v : State) (e : SessionEnd) (new : Side) (bytes : List ℕ) (ms : List Message) (q : ℕ) (rest : List ℕ) (g : Bool) → Ends server v e new → IsCalm e → v.goes ≡ g → stream_of v ≡ Some bytes
    → ReadsRequests ms v.buffer.1 bytes q rest → NothingBehind g v.served ms rest → Comes [] (left g v.served ms) e
ends_there one server v e new bytes ms q rest false is c g told reads none = closed_end server v e new is c g
ends_there one server v e new bytes (m ∷ ms) q rest true is c g told reads none = before_request one server v e new bytes m reads.1 _ is c g told reads.4
ends_there one server v e new bytes [] q rest true is c g told reads (inl none) = at_end one server v e new bytes is c g told (subst (λ z. ReadsMessage z ended) reads.0 none)
ends_there one server v e new bytes [] q rest true is c g told reads (inr closed) = absurd (true≢false (sym closed))

-- ---- one request after another

-- the same text is read
same_size : (bytes text text' tail tail' : List ℕ) → bytes ≡ text ++ tail → bytes ≡ text' ++ tail' → tail ≡ tail' → length text ≡ length text'
same_size bytes text text' tail tail' e e' same = omega (arith, ap length (sym e ∙ e'), length-append text tail, length-append text' tail', ap length same)

answers : OneReading → (server : Server) (v last : State) (turns : List Turn) (e : SessionEnd) (new : Side) (bytes : List ℕ) (ms : List Message) (q : ℕ) (rest : List ℕ) (g : Bool) → Runs server v turns last → Ends server last e new → IsCalm e
    → v.goes ≡ g → stream_of v ≡ Some bytes → v.buffer.1 < 2 ^ 64 → ReadsRequests ms v.buffer.1 bytes q rest → NothingBehind g v.served ms rest → Comes (messages_of turns) (left g v.served ms) e
answers one server v last [] e new bytes ms q rest g r is c goes told small reads none =
    ends_there one server v e new bytes ms q rest g (subst (λ (z : State). Ends server z e new) r is) c goes told reads none
answers one server v last (t ∷ turns) e new bytes ms q rest false r is c goes told small reads none = absurd (true≢false (sym r.1.was ∙ goes))
answers one server v last (t ∷ turns) e new bytes [] q rest true r is c goes told small reads (inl none) =
    let h = r.1.receives.told bytes told in
    let next : ReadsMessage bytes (request t.message.head t.message.body t.message.closes h.0) = h.2.2 in
    let same : ended ≡ request t.message.head t.message.body t.message.closes h.0 = one bytes ended _ (subst (λ z. ReadsMessage z ended) reads.0 none) next in absurd cc
answers one server v last (t ∷ turns) e new bytes [] q rest true r is c goes told small reads (inr closed) = absurd (true≢false (sym closed))
answers one server v last (t ∷ turns) e new bytes (m ∷ ms) q rest true r is c goes told small reads none =
    let h = r.1.receives.told bytes told in
    let ys : List ℕ = h.0 in
    let taken = h.2.0 in
    let text : List ℕ = reads.0 in
    let tail : List ℕ = reads.1 in
    let same = same_request t.message.head m.head t.message.body m.body t.message.closes m.closes ys tail (one bytes _ _ h.2.2 reads.4) in
    let at : t.message.at ≡ m.at = h.2.1 ∙ sym reads.3 in
    let first : t.message ≡ m = λ i. record { at = at i; head = same.0 i; body = same.1 i; closes = same.2 i } in
    let size : length taken.0 ≡ length text = same_size bytes taken.0 text ys tail taken.1 reads.2 same.3 in
    let moved : r.0.buffer.1 ≡ place_behind v.buffer.1 taken.0 = taken.2 small in
    let place : r.0.buffer.1 ≡ place_behind v.buffer.1 text = moved ∙ ap (λ n. min (v.buffer.1 + n) (2 ^ 64 - 1)) size in
    let low : r.0.buffer.1 < 2 ^ 64 = subst (λ (z : ℕ). z < 2 ^ 64) (sym moved) (place_small v.buffer.1 taken.0) in
    let here : ReadsRequests ms r.0.buffer.1 ys q rest = subst (λ z. ReadsRequests ms z ys q rest) (sym place) (subst (λ z. ReadsRequests ms (place_behind v.buffer.1 text) z q rest) (sym same.3) reads.5) in
    let closes : Bool = closes_after v.served m.closes in
    let on : r.0.goes ≡ not closes = r.1.goes ∙ ap (λ (b : Bool). not (closes_after v.served b)) same.2 in
    let behind : NothingBehind (not closes) r.0.served ms rest = subst (λ n. NothingBehind (not closes) n ms rest) (sym r.1.served) (nothing_behind closes (v.served + 1) ms rest none) in
    let later : Comes (messages_of turns) (left (not closes) r.0.served ms) e = answers one server r.0 last turns e new ys ms q rest (not closes) r.2 is c on h.1 low here behind in
    let counted : Comes (messages_of turns) (left (not closes) (v.served + 1) ms) e = subst (λ n. Comes (messages_of turns) (left (not closes) n ms) e) r.1.served later in
    let all : Comes (m ∷ messages_of turns) (m ∷ left (not closes) (v.served + 1) ms) e = one_more m (messages_of turns) (left (not closes) (v.served + 1) ms) e counted in
    subst (λ (z : Message). Comes (z ∷ messages_of turns) (up_to_closing v.served (m ∷ ms)) e) (sym first) (subst (λ z. Comes (m ∷ messages_of turns) z e) (left_behind closes (v.served + 1) m ms) all)

-- ---- the session

counts : (ms : List Message) (turns : List Turn) (e : SessionEnd) → Comes (messages_of turns) (up_to_closing 0 ms) e → served_in e ≡ length turns → AnswersAll ms turns e
counts ms turns (end.Done served) is n = (is, n)
counts ms turns (end.NoMemory served) is n = (is, n)
counts ms turns (end.Truncated at served) is n = absurd is
counts ms turns (end.BadMessage at flaw served) is n = absurd is
counts ms turns (end.ReadFault served) is n = absurd is
counts ms turns (end.WriteFault served) is n = absurd is
counts ms turns (end.BodyCut served sent) is n = absurd is

pub whole_requests : OneReading → (server : Server) (old new : Side) (e : SessionEnd) (bytes : List ℕ) (ms : List Message) (reads reads_new writes writes_new faults faults_new : ℕ) (objects : Objects) (unread : Option (List ℕ))
    (s : IsSession server (Some bytes) unread old new e) → AreRequests ms bytes → HasCause e reads reads_new writes writes_new (Some objects) faults faults_new
    → Stays reads reads_new → Stays writes writes_new → Stays faults faults_new → AnswersAll ms s.0 e
whole_requests one server old new e bytes ms reads reads_new writes writes_new faults faults_new objects unread s are cause r w f =
    let quiet : IsCalm e = calm e reads reads_new writes writes_new faults faults_new objects cause r w f in
    let told = tells server (opening (Some bytes) old) s.1 s.0 s.2 in
    let more : 0 + length s.0 ≡ length s.0 = omega arith in
    let count : served_in e ≡ length s.0 = s.3 ∙ told.served ∙ more in
    counts ms s.0 e (answers one server (opening (Some bytes) old) s.1 s.0 e new bytes ms are.0 are.1 true s.2 s.4 quiet refl refl (omega arith) are.2 are.3) count
