-- Steps of a session's loop, and its ends.
use Rattle.std.proofs.Common.{◌≡◌, ◌⊎◌, inl, inr, ⊎_elim, ℕ, ◌+◌, Bool, true, false, not, List, [], ◌∷◌, Option, Some, None, IfSome, Result, Ok, refl, sym, ap, ◌∙◌, subst, Global, ◌<◌, ◌≢◌, ◌==◌, arith, true≢false}
use Rattle.std.specs.Prelude.{Vec}
use Rattle.std.specs.declared.alloc.AllocError.{AllocError}
use Rattle.http_message.specs.Messages.{ReadsMessage, request, ended, truncated, bad}
use Rattle.http_message.specs.Sessions.{Request as Message}
use Rattle.http_message.specs.declared.head.Head.{Head}
use Rattle.http_message.specs.declared.refusal.Flaw.{Flaw}
use Rattle.http_wire.specs.Streams.{Buffer, Drew, Moves, Told, stream}
use Rattle.http_wire.specs.Wires.{IsShort, TellsMessage}
use Rattle.http_wire.specs.declared.wire.Message.{Message as Answer}
use Rattle.http_wire.specs.declared.wire.Message.TheVariants as answer
use Rattle.share_book.specs.declared.entry.Entry.{Entry}
use Rattle.share_serve.specs.Sessions.{CutsBody, Ends, IsBad, IsNext, IsSessionFrom, Refuses, Wants, opening, refusal_text, served_in}
use Rattle.share_serve.specs.Sides.{state_at}
use Rattle.share_serve.specs.Turned.{RefusalEnds, TurnsInPart, TurnsWhole, message, turn}
use Rattle.share_serve.specs.Turns.{ReadsWhenDue, Serves, Side, Turn, closes_after}
use Rattle.share_serve.specs.declared.response.Response.{Response}
use Rattle.share_serve.specs.declared.serve.SessionEnd.{SessionEnd}
use Rattle.share_serve.specs.declared.serve.SessionEnd.TheVariants as end
use Rattle.share_serve.specs.declared.server.Server.{Server}

pub opens : (left : Option (List ℕ)) (s : Side) (b : Buffer) → b ≡ ([], 0) → state_at b left 0 s ≡ opening left s
opens left s b is = ap (λ (z : Buffer). state_at z left 0 s) is

-- ---- what the wire tells

told_is : (old new : Option (List ℕ)) (P : List ℕ → List ℕ → Type 0) (Q : List ℕ → Type 0) → Told old new P → ((xs ys : List ℕ) → P xs ys → Q xs) → IfSome old Q
told_is None new P Q t f = tt
told_is (Some xs) new P Q t f = let p = t xs refl in f xs p.0 p.2

-- what a call of the wire tells, with what it leaves
abbrev pub Tells : Buffer → Option (List ℕ) → Buffer → Option (List ℕ) → Result Answer AllocError → Type 0
Tells b left b' left' r = Told (stream b left) (stream b' left') (λ xs ys. TellsMessage xs b.1 ys b'.1 r)

-- what a call of the wire read
pub due : {S : Type 0} (left : S → Option (List ℕ)) (b b' : Buffer) (source source' : S) (P : List ℕ → Type 0) → Drew left IsShort b b' source source' P → ReadsWhenDue b b' (left source) (left source')
due left b b' source source' P d = (
  d.0,
  d.1,
  record { came = d.2.came; spelled = d.2.spelled; place = d.2.place; each = d.2.each; spared = λ none. ap left (d.2.spared none) },
  tt,
)

-- the next message is that request, and those bytes stand behind it
abbrev pub Hears : Buffer → Option (List ℕ) → Buffer → Option (List ℕ) → Message → Type 0
Hears b left b' left' m = Told (stream b left) (stream b' left') (λ xs ys. Moves xs b.1 ys b'.1 × (m.at ≡ b.1) × ReadsMessage xs (request m.head m.body m.closes ys))

pub hears : (b b' : Buffer) (left left' : Option (List ℕ)) (at : ℕ) (head : Head) (body : Vec ℕ Global) (closes : Bool) → Tells b left b' left' (Ok (answer.Request at head body closes)) → Hears b left b' left' (message at head body.items closes)
hears b b' left left' at head body closes told = λ xs is. let p = told xs is in (p.0, p.1, (p.2.moves, p.2.answers.0, p.2.answers.1))

hears_next : (b b' : Buffer) (left left' : Option (List ℕ)) (m : Message) (n : ℕ) (s : Side) → Hears b left b' left' m → IsNext (state_at b left n s) m
hears_next b b' left left' m n s h =
    told_is (stream b left) (stream b' left') (λ xs ys. Moves xs b.1 ys b'.1 × (m.at ≡ b.1) × ReadsMessage xs (request m.head m.body m.closes ys))
    (λ xs. (m.at ≡ b.1) × ((ys : List ℕ) × ReadsMessage xs (request m.head m.body m.closes ys))) h (λ xs ys p. (p.1, (ys, p.2)))

-- where the session goes on there are fewer than 10,000 requests so far
pub goes_few : (n : ℕ) (closes : Bool) → n < 10000 → closes_after n closes ≡ false → n + 1 < 10000
goes_few n true lt e = absurd (true≢false e)
goes_few n false lt e =
    let other : n + 1 ≢ 10000 = λ (q : n + 1 ≡ 10000). true≢false (sym (ap (λ (z : ℕ). z == 10000) q) ∙ e) in
    omega (arith, lt, other)

-- ---- the ends

module _ (server : Server) (b : Buffer) (left : Option (List ℕ)) (n : ℕ) (s : Side) where
  -- after a message that was asked for
  module _ (b' : Buffer) (left' : Option (List ℕ)) (read : ReadsWhenDue b b' left left') where
    -- it ends there, with no request more
    ends : (e : SessionEnd) (s' : Side) → served_in e ≡ n → Ends server (state_at b left n s) e s' → IsSessionFrom server (state_at b left n s) e left' s'
    ends e s' count is = ([], state_at b left n s, refl, count, is, (b', read))

    pub ends_between : Tells b left b' left' (Ok answer.End) → IsSessionFrom server (state_at b left n s) (end.Done n) left' s
    ends_between told = ends (end.Done n) s refl
        (refl, told_is (stream b left) (stream b' left') (λ xs ys. TellsMessage xs b.1 ys b'.1 (Ok answer.End)) (λ xs. ReadsMessage xs ended) told (λ xs ys p. p.answers))

    pub ends_inside : (at : ℕ) → Tells b left b' left' (Ok (answer.Truncated at)) → IsSessionFrom server (state_at b left n s) (end.Truncated at n) left' s
    ends_inside at told = ends (end.Truncated at n) s refl (
      refl,
      refl,
      told_is (stream b left) (stream b' left') (λ xs ys. TellsMessage xs b.1 ys b'.1 (Ok (answer.Truncated at))) (λ xs. (at ≡ b.1) × ReadsMessage xs truncated) told (λ xs ys p. p.answers),
    )

    bad_there : (at : ℕ) (flaw : Flaw) → Tells b left b' left' (Ok (answer.Bad at flaw)) → IfSome (stream b left) (λ xs. (at ≡ b.1) × ReadsMessage xs (bad flaw))
    bad_there at flaw told =
        told_is (stream b left) (stream b' left') (λ xs ys. TellsMessage xs b.1 ys b'.1 (Ok (answer.Bad at flaw))) (λ xs. (at ≡ b.1) × ReadsMessage xs (bad flaw)) told (λ xs ys p. p.answers)

    bad_is : (at : ℕ) (flaw : Flaw) → Tells b left b' left' (Ok (answer.Bad at flaw)) → IsBad (state_at b left n s) flaw
    bad_is at flaw told =
        told_is (stream b left) (stream b' left') (λ xs ys. TellsMessage xs b.1 ys b'.1 (Ok (answer.Bad at flaw))) (λ xs. ReadsMessage xs (bad flaw)) told (λ xs ys p. p.answers.1)

    pub ends_refused : (at : ℕ) (flaw : Flaw) (s' : Side) (e : SessionEnd) → Tells b left b' left' (Ok (answer.Bad at flaw)) → RefusalEnds e at flaw n s s' → IsSessionFrom server (state_at b left n s) e left' s'
    ends_refused at flaw s' (end.BadMessage at' flaw' served') told r = ends (end.BadMessage at' flaw' served') s' r.2 (
      refl,
      subst (λ (z : ℕ × Flaw). IfSome (stream b left) (λ xs. (z.0 ≡ b.1) × ReadsMessage xs (bad z.1))) (λ i. (sym r.0 i, sym r.1 i)) (bad_there at flaw told),
      (r.3.0, subst (λ (z : Flaw). Refuses r.3.0 (refusal_text z r.3.0) s s') (sym r.1) r.3.1),
      r.4,
    )
    ends_refused at flaw s' (end.WriteFault served') told r = ends (end.WriteFault served') s' r.0 (refl, inr (flaw, r.1.0, r.1.1, bad_is at flaw told, r.1.2, r.1.3))
    ends_refused at flaw s' (end.NoMemory served') told r = ends (end.NoMemory served') s' r.0 (refl, inr (inr (inl (flaw, r.1.0, r.1.1, bad_is at flaw told, r.1.2, r.1.3))))
    ends_refused at flaw s' (end.BodyCut served' sent) told r = absurd r
    ends_refused at flaw s' (end.Done served') told r = absurd r
    ends_refused at flaw s' (end.Truncated at' served') told r = absurd r
    ends_refused at flaw s' (end.ReadFault served') told r = absurd r

    pub ends_unread : IsSessionFrom server (state_at b left n s) (end.ReadFault n) left' s
    ends_unread = ends (end.ReadFault n) s refl (refl, refl)

    pub ends_wanting : IsSessionFrom server (state_at b left n s) (end.NoMemory n) left' s
    ends_wanting = ends (end.NoMemory n) s refl (refl, inl refl)

  -- after a request
  module _ (b' : Buffer) (left' : Option (List ℕ)) (read : ReadsWhenDue b b' left left') (m : Message) (heard : Hears b left b' left' m) (s' : Side) where
    next : IsNext (state_at b left n s) m
    next = hears_next b b' left left' m n s heard

    served_at : (goes : Bool) → goes ≡ not (closes_after n m.closes) → (w : TurnsWhole server n m s s')
        → Serves server (state_at b left n s) (turn m w.0 w.1 w.2) (record { buffer = b'; left = left'; served = n + 1; goes = goes; side = s' })
    served_at goes is w = record { was = refl; receives = record { due = read; told = heard }; responds = w.3; kept = w.4; served = refl; goes = is }

    pub goes_on : TurnsWhole server n m s s' × (closes_after n m.closes ≡ false) → (t : Turn) × Serves server (state_at b left n s) t (state_at b' left' (n + 1) s')
    goes_on w = (turn m w.0.0 w.0.1 w.0.2, served_at true (ap not (sym w.1)) w.0)

    pub ends_closed : TurnsWhole server n m s s' × (closes_after n m.closes ≡ true) → IsSessionFrom server (state_at b left n s) (end.Done (n + 1)) left' s'
    ends_closed w = (
      turn m w.0.0 w.0.1 w.0.2 ∷ [],
      record { buffer = b'; left = left'; served = n + 1; goes = false; side = s' },
      (record { buffer = b'; left = left'; served = n + 1; goes = false; side = s' }, served_at false (ap not (sym w.1)) w.0, refl),
      refl,
      (refl, tt),
      refl,
    )

    pub ends_unwritten : TurnsInPart server n m s s' → IsSessionFrom server (state_at b left n s) (end.WriteFault n) left' s'
    ends_unwritten w = ends b' left' read (end.WriteFault n) s' refl (refl, inl (turn m w.0 w.1 w.2, w.3, next, w.4, w.5))

    pub ends_cut : (sent : ℕ) → (moment : ℕ) × (point : List Entry) × (r : Response) × (part : List ℕ) × CutsBody server n (turn m moment point r) part sent s s' → IsSessionFrom server (state_at b left n s) (end.BodyCut n sent) left' s'
    ends_cut sent w = ends b' left' read (end.BodyCut n sent) s' refl (refl, (turn m w.0 w.1 w.2, w.3, next, w.4))

    pub ends_unanswered : TurnsInPart server n m s s' ⊎ ((moment : ℕ) × Wants server m moment s s') → IsSessionFrom server (state_at b left n s) (end.NoMemory n) left' s'
    ends_unanswered w = ends b' left' read (end.NoMemory n) s' refl (
      refl,
      ⊎_elim (λ p. inr (inl (turn m p.0 p.1 p.2, p.3, next, p.4, p.5))) (λ p. inr (inr (inr (m, p.0, next, p.1)))) w,
    )
