-- Sessions of the same bytes.
use Rattle.std.proofs.Common.{◌≡◌, ℕ, suc, ◌+◌, Bool, List, [], ◌∷◌, ◌++◌, length, map, Option, Some, None, IfSome, refl, sym, ap, ◌∙◌, arith}
use Rattle.std.specs.Prelude.{option_map}
use Rattle.std.specs.Io.KnownBytes.{append_known}
use Rattle.edge_core.specs.Clocks.{Ticks, later_moments, next_moment}
use Rattle.http_message.specs.Messages.{Reading, ReadsMessage, request}
use Rattle.http_message.specs.declared.head.Head.{Head}
use Rattle.share_serve.specs.Laws.{texts}
use Rattle.share_serve.specs.Turns.{Runs, State, Turn, stream_of, text_of}
use Rattle.share_serve.specs.declared.server.Server.{Server}
use Rattle.share_serve.proofs.Told.{tells}

abbrev pub OneReading : Type 0
OneReading = (stream : List ℕ) (x y : Reading) → ReadsMessage stream x → ReadsMessage stream y → x ≡ y

-- what is asked at which moment, apart from the answer and the place
abbrev pub asked_of : Turn → Head × (List ℕ × (Bool × ℕ))
asked_of t = (t.message.head, (t.message.body, (t.message.closes, t.moment)))

pub same_request : (a a' : Head) (b b' : List ℕ) (c c' : Bool) (d d' : List ℕ) → request a b c d ≡ request a' b' c' d' → (a ≡ a') × (b ≡ b') × (c ≡ c') × (d ≡ d')
same_request a a' b b' c c' d d' e = (cc, cc, cc, cc)

pub same_head : {A : Type 0} (x y : A) (xs ys : List A) → x ∷ xs ≡ y ∷ ys → (x ≡ y) × (xs ≡ ys)
same_head x y xs ys e = (cc, cc)

moment_is : (old : Option (List ℕ)) (ms : List ℕ) (n : ℕ) → old ≡ Some ms → IfSome old (λ ms. n ≡ next_moment ms) → n ≡ next_moment ms
moment_is None ms n e is = absurd cc
moment_is (Some xs) ms n e is = let same : xs ≡ ms = cc in is ∙ ap next_moment same

-- what a clock that tells told
pub ticked : (old new : Option (List ℕ)) (ms : List ℕ) (n : ℕ) → old ≡ Some ms → Ticks old new n → (n ≡ next_moment ms) × (new ≡ Some (later_moments ms))
ticked old new ms n e t = (moment_is old ms n e t.1, t.0 ∙ ap (option_map later_moments) e)

-- where two runs stand after as many requests
pub record Same (turns turns' : List Turn) (new new' : State) : Type 0 where
  pub asked : map asked_of turns ≡ map asked_of turns'
  pub stream : stream_of new ≡ stream_of new'
  pub coming : new.side.coming ≡ new'.side.coming
  pub rest : List ℕ
  pub rest_is : stream_of new ≡ Some rest
  pub later : List ℕ
  pub later_is : new.side.coming ≡ Some later

module _ (one : OneReading) (server server' : Server) where
  pub same : (old new old' new' : State) (turns turns' : List Turn) (bytes moments : List ℕ) → Runs server old turns new → Runs server' old' turns' new' → stream_of old ≡ Some bytes → stream_of old' ≡ Some bytes
      → old.side.coming ≡ Some moments → old'.side.coming ≡ Some moments → length turns ≡ length turns' → Same turns turns' new new'
  same old new old' new' [] [] bytes moments r r' a a' b b' n = record {
    asked = refl;
    stream = ap (λ (v : State). stream_of v) r ∙ a ∙ sym a' ∙ sym (ap (λ (v : State). stream_of v) r');
    coming = ap (λ (v : State). v.side.coming) r ∙ b ∙ sym b' ∙ sym (ap (λ (v : State). v.side.coming) r');
    rest = bytes;
    rest_is = ap (λ (v : State). stream_of v) r ∙ a;
    later = moments;
    later_is = ap (λ (v : State). v.side.coming) r ∙ b;
  }
  same old new old' new' [] (t' ∷ turns') bytes moments r r' a a' b b' n = absurd (omega arith)
  same old new old' new' (t ∷ turns) [] bytes moments r r' a a' b b' n = absurd (omega arith)
  same old new old' new' (t ∷ turns) (t' ∷ turns') bytes moments r r' a a' b b' n =
      let h = r.1.receives.told bytes a in
      let h' = r'.1.receives.told bytes a' in
      let q = same_request t.message.head t'.message.head t.message.body t'.message.body t.message.closes t'.message.closes h.0 h'.0 (one bytes _ _ h.2.2 h'.2.2) in
      let m = ticked old.side.coming r.0.side.coming moments t.moment b r.1.responds.ticks in
      let m' = ticked old'.side.coming r'.0.side.coming moments t'.moment b' r'.1.responds.ticks in
      let at : t.moment ≡ t'.moment = m.0 ∙ sym m'.0 in
      let rest = same r.0 new r'.0 new' turns turns' h.0 (later_moments moments) r.2 r'.2 h.1 (h'.1 ∙ ap Some (sym q.3)) m.1 m'.1 (omega arith) in record {
        asked = λ i. (q.0 i, (q.1 i, (q.2 i, at i))) ∷ rest.asked i;
        stream = rest.stream;
        coming = rest.coming;
        rest = rest.rest;
        rest_is = rest.rest_is;
        later = rest.later;
        later_is = rest.later_is;
      }

same_text : (n : ℕ) (t t' : Turn) → asked_of t ≡ asked_of t' → t.response ≡ t'.response → text_of n t ≡ text_of n t'
same_text n t t' a b = λ i. text_of n (record {
  message = record { at = t.message.at; head = (a i).0; body = (a i).1.0; closes = (a i).1.1.0 };
  moment = (a i).1.1.1;
  point = t.point;
  response = b i;
})

texts_same : (n : ℕ) (turns turns' : List Turn) → map asked_of turns ≡ map asked_of turns' → map (λ t. t.response) turns ≡ map (λ t. t.response) turns' → texts n turns ≡ texts n turns'
texts_same n [] [] e f = refl
texts_same n [] (t' ∷ turns') e f = absurd cc
texts_same n (t ∷ turns) [] e f = absurd cc
texts_same n (t ∷ turns) (t' ∷ turns') e f =
    let a = same_head (asked_of t) (asked_of t') (map asked_of turns) (map asked_of turns') e in
    let b = same_head t.response t'.response (map (λ (t : Turn). t.response) turns) (map (λ (t : Turn). t.response) turns') f in
    ap (λ (z : List ℕ). z ++ texts (n + 1) turns) (same_text n t t' a.0 b.0) ∙ ap (λ (z : List ℕ). text_of n t' ++ z) (texts_same (n + 1) turns turns' a.1 b.1)

pub length_map : {A B : Type 0} (f : A → B) (xs : List A) → length (map f xs) ≡ length xs
length_map f [] = refl
length_map f (x ∷ xs) = ap suc (length_map f xs)

-- the same responses to the same bytes at the same moments are written as the same bytes
pub writes_same : OneReading → (server server' : Server) (old new old' new' : State) (turns turns' : List Turn) (bytes moments : List ℕ) → Runs server old turns new → Runs server' old' turns' new' → stream_of old ≡ Some bytes
    → stream_of old' ≡ Some bytes → old.side.coming ≡ Some moments → old'.side.coming ≡ Some moments → old.served ≡ old'.served → old.side.written ≡ old'.side.written
    → map (λ t. t.response) turns ≡ map (λ t. t.response) turns' → new.side.written ≡ new'.side.written
writes_same one server server' old new old' new' turns turns' bytes moments r r' a a' b b' n w replies =
    let count : length turns ≡ length turns' = sym (length_map (λ (t : Turn). t.response) turns) ∙ ap length replies ∙ length_map (λ (t : Turn). t.response) turns' in
    let s = same one server server' old new old' new' turns turns' bytes moments r r' a a' b b' count in
    (tells server old new turns r).written ∙ ap (λ (z : Option (List ℕ)). append_known z (texts old.served turns)) w ∙ ap (λ (z : ℕ). append_known old'.side.written (texts z turns)) n
    ∙ ap (append_known old'.side.written) (texts_same old'.served turns turns' s.asked replies) ∙ sym (tells server' old' new' turns' r').written
