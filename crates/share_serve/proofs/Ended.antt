-- Whole sessions of the same bytes.
use Rattle.std.proofs.Common.{◌≡◌, ℕ, ◌+◌, Bool, true, false, not, MatchBool, List, [], ◌∷◌, length, map, Option, Some, None, IfSome, refl, sym, ap, ◌∙◌, subst, true≢false}
use Rattle.std.specs.Io.KnownBytes.{append_known}
use Rattle.edge_core.specs.Clocks.{next_moment}
use Rattle.http_message.specs.Messages.{Reading, ReadsMessage, ended, truncated, bad, request}
use Rattle.share_serve.specs.Laws.{IsComplete}
use Rattle.share_serve.specs.Sessions.{Ends, IsSession, opening, refusal_text}
use Rattle.share_serve.specs.Turns.{Runs, Side, State, Turn, closes_after, stream_of}
use Rattle.share_serve.specs.declared.serve.SessionEnd.{SessionEnd}
use Rattle.share_serve.specs.declared.serve.SessionEnd.TheVariants as end
use Rattle.share_serve.specs.declared.server.Server.{Server}
use Rattle.share_serve.proofs.Basics.{append_known-nil}
use Rattle.share_serve.proofs.Same.{OneReading, asked_of, length_map, same, same_head, ticked, writes_same}

-- what stands where a whole session ends that goes on
abbrev pub reading_of : SessionEnd → Reading
reading_of (end.Done served) = ended
reading_of (end.Truncated at served) = truncated
reading_of (end.BadMessage at flaw served) = bad flaw
reading_of (end.ReadFault served) = ended
reading_of (end.WriteFault served) = ended
reading_of (end.BodyCut served sent) = ended
reading_of (end.NoMemory served) = ended

-- what is written there
abbrev tail_of : Reading → ℕ → List ℕ
tail_of (bad flaw) moment = refusal_text flaw moment
tail_of (request head body closes rest) moment = []
tail_of ended moment = []
tail_of truncated moment = []

known : (o : Option (List ℕ)) (xs : List ℕ) (P : List ℕ → Type 0) → o ≡ Some xs → IfSome o P → P xs
known None xs P e p = absurd cc
known (Some ys) xs P e p = let same : ys ≡ xs = cc in subst P same p

pub reads_there : (server : Server) (v : State) (e : SessionEnd) (new : Side) (xs : List ℕ) → Ends server v e new → IsComplete e → v.goes ≡ true → stream_of v ≡ Some xs → ReadsMessage xs (reading_of e)
reads_there server v (end.Done served) new xs is c g told = known (stream_of v) xs (λ z. ReadsMessage z ended) told (subst (λ (b : Bool). MatchBool b (IfSome (stream_of v) (λ z. ReadsMessage z ended)) (Unit {0})) g is.1)
reads_there server v (end.Truncated at served) new xs is c g told = (known (stream_of v) xs (λ z. (at ≡ v.buffer.1) × ReadsMessage z truncated) told is.2).1
reads_there server v (end.BadMessage at flaw served) new xs is c g told = (known (stream_of v) xs (λ z. (at ≡ v.buffer.1) × ReadsMessage z (bad flaw)) told is.1).1
reads_there server v (end.ReadFault served) new xs is c g told = absurd c
reads_there server v (end.WriteFault served) new xs is c g told = absurd c
reads_there server v (end.BodyCut served sent) new xs is c g told = absurd c
reads_there server v (end.NoMemory served) new xs is c g told = absurd c

same_side : (new : Side) (v : State) → new ≡ v.side → new.written ≡ append_known v.side.written []
same_side new v is = ap (λ (s : Side). s.written) is ∙ append_known-nil v.side.written

writes_there : (server : Server) (v : State) (e : SessionEnd) (new : Side) (ms : List ℕ) → Ends server v e new → IsComplete e → v.side.coming ≡ Some ms → new.written ≡ append_known v.side.written (tail_of (reading_of e) (next_moment ms))
writes_there server v (end.Done served) new ms is c told = same_side new v is.0
writes_there server v (end.Truncated at served) new ms is c told = same_side new v is.0
writes_there server v (end.BadMessage at flaw served) new ms is c told = is.2.1.writes ∙ ap (λ (m : ℕ). append_known v.side.written (refusal_text flaw m)) (ticked v.side.coming new.coming ms is.2.0 told is.2.1.ticks).0
writes_there server v (end.ReadFault served) new ms is c told = absurd c
writes_there server v (end.WriteFault served) new ms is c told = absurd c
writes_there server v (end.BodyCut served sent) new ms is c told = absurd c
writes_there server v (end.NoMemory served) new ms is c told = absurd c

closed_done : (server : Server) (v : State) (e : SessionEnd) (new : Side) → Ends server v e new → IsComplete e → v.goes ≡ false → new.written ≡ v.side.written
closed_done server v (end.Done served) new is c g = ap (λ (s : Side). s.written) is.0
closed_done server v (end.Truncated at served) new is c g = absurd (true≢false (sym is.1 ∙ g))
closed_done server v (end.BadMessage at flaw served) new is c g = absurd (true≢false (sym is.0 ∙ g))
closed_done server v (end.ReadFault served) new is c g = absurd c
closed_done server v (end.WriteFault served) new is c g = absurd c
closed_done server v (end.BodyCut served sent) new is c g = absurd c
closed_done server v (end.NoMemory served) new is c g = absurd c

-- whether they go on
goes_same : (server server' : Server) (old new old' new' : State) (turns turns' : List Turn) → Runs server old turns new → Runs server' old' turns' new' → old.goes ≡ old'.goes → old.served ≡ old'.served → map asked_of turns ≡ map asked_of turns' → new.goes ≡ new'.goes
goes_same server server' old new old' new' [] [] r r' g n e = ap (λ (v : State). v.goes) r ∙ g ∙ sym (ap (λ (v : State). v.goes) r')
goes_same server server' old new old' new' [] (t' ∷ turns') r r' g n e = absurd cc
goes_same server server' old new old' new' (t ∷ turns) [] r r' g n e = absurd cc
goes_same server server' old new old' new' (t ∷ turns) (t' ∷ turns') r r' g n e =
    let a = same_head (asked_of t) (asked_of t') (map asked_of turns) (map asked_of turns') e in
    let closes : t.message.closes ≡ t'.message.closes = λ i. (a.0 i).1.1.0 in
    let on : r.0.goes ≡ r'.0.goes = r.1.goes ∙ ap (λ (z : ℕ). not (closes_after z t.message.closes)) n ∙ ap (λ (b : Bool). not (closes_after old'.served b)) closes ∙ sym r'.1.goes in
    goes_same server server' r.0 new r'.0 new' turns turns' r.2 r'.2 on (r.1.served ∙ ap (λ (z : ℕ). z + 1) n ∙ sym r'.1.served) a.1

by_goes : (server server' : Server) (v v' : State) (e e' : SessionEnd) (new new' : Side) (xs ms : List ℕ) (b : Bool) → OneReading → Ends server v e new → Ends server' v' e' new' → IsComplete e → IsComplete e' → v.goes ≡ b → v'.goes ≡ b
    → stream_of v ≡ Some xs → stream_of v' ≡ Some xs → v.side.coming ≡ Some ms → v'.side.coming ≡ Some ms → v.side.written ≡ v'.side.written → new.written ≡ new'.written
by_goes server server' v v' e e' new new' xs ms true one is is' c c' g g' t t' m m' w =
    let same : reading_of e ≡ reading_of e' = one xs (reading_of e) (reading_of e') (reads_there server v e new xs is c g t) (reads_there server' v' e' new' xs is' c' g' t') in
    writes_there server v e new ms is c m ∙ ap (λ (r : Reading). append_known v.side.written (tail_of r (next_moment ms))) same ∙ ap (λ (z : Option (List ℕ)). append_known z (tail_of (reading_of e') (next_moment ms))) w ∙ sym (writes_there server' v' e' new' ms is' c' m')
by_goes server server' v v' e e' new new' xs ms false one is is' c c' g g' t t' m m' w = closed_done server v e new is c g ∙ w ∙ sym (closed_done server' v' e' new' is' c' g')

pub ends_same : OneReading → (server server' : Server) (old new old' new' : Side) (e e' : SessionEnd) (bytes moments : List ℕ) (left left' : Option (List ℕ)) (s : IsSession server (Some bytes) left old new e) (s' : IsSession server' (Some bytes) left' old' new' e') → old.coming ≡ Some moments
    → old'.coming ≡ Some moments → old.written ≡ old'.written → map (λ t. t.response) s.0 ≡ map (λ t. t.response) s'.0 → IsComplete e → IsComplete e' → new.written ≡ new'.written
ends_same one server server' old new old' new' e e' bytes moments left left' s s' m m' w replies c c' =
    let count : length s.0 ≡ length s'.0 = sym (length_map (λ (t : Turn). t.response) s.0) ∙ ap length replies ∙ length_map (λ (t : Turn). t.response) s'.0 in
    let a = same one server server' (opening (Some bytes) old) s.1 (opening (Some bytes) old') s'.1 s.0 s'.0 bytes moments s.2 s'.2 refl refl m m' count in
    let g = goes_same server server' (opening (Some bytes) old) s.1 (opening (Some bytes) old') s'.1 s.0 s'.0 s.2 s'.2 refl refl a.asked in
    by_goes server server' s.1 s'.1 e e' new new' a.rest a.later s.1.goes one s.4 s'.4 c c' refl (sym g) a.rest_is (sym a.stream ∙ a.rest_is) a.later_is (sym a.coming ∙ a.later_is)
    (writes_same one server server' (opening (Some bytes) old) s.1 (opening (Some bytes) old') s'.1 s.0 s'.0 bytes moments s.2 s'.2 refl refl m m' refl w replies)
