-- What a link and a clock tell of a request.
use Rattle.std.proofs.Common.{◌≡◌, ℕ, Bool, inl, inr, List, [], ◌∷◌, ◌++◌, Option, Some, None, option_map, refl, ap, ◌∙◌, subst}
use Rattle.std.specs.Prelude.{IfSome}
use Rattle.edge_core.proofs.Tellings.{told_on}
use Rattle.edge_core.specs.Clocks.{Ticks, later_moments, next_moment}
use Rattle.edge_core.specs.Lines.{ClosedLine, ComesFrom, PeerLine, closed_line, with_line}
use Rattle.signed_call.specs.declared.call.Call.{Call}
use Rattle.signed_call.specs.declared.stamp.Stamp.{Stamp}
use Rattle.signed_call.specs.Calls.{body_of}
use Rattle.signed_call.specs.Stamps.{IsStampAt}
use Rattle.signed_call.specs.Texts.{head_text}
use Rattle.bucket_store.specs.declared.exchange.Response.{Response}
use Rattle.bucket_store.specs.declared.place.BucketPlace.{BucketPlace}
use Rattle.bucket_store.specs.Exchanges.{Asks, Exchanges, Heard, Wrote, is_head, ticked}
use Rattle.bucket_store.specs.Sides.{Known, Side, Tells, told_by}

-- a line was used
pub line_used :
    (place : BucketPlace) (to_head : Bool) (text : List ℕ) (answer : Option Response)
    (coming coming_new mid : Option (List PeerLine)) (closed closed_new : Option (List ClosedLine)) (moments : Option (List ℕ))
    (left holds holds_last : Option (List ℕ)) (reads writes : ℕ)
    → ComesFrom place.address place.port coming mid left holds
    → coming_new ≡ mid
    → closed_new ≡ with_line closed (closed_line holds_last reads writes)
    → ((bytes : List ℕ) → left ≡ Some bytes → Heard to_head bytes answer)
    → (holds ≡ Some [] → (written : List ℕ) × (holds_last ≡ Some written) × Wrote text written writes)
    → Known (told_by coming closed moments) (told_by coming_new closed_new moments) (Exchanges place to_head text answer)
line_used place to_head text answer coming coming_new mid closed closed_new moments left holds holds_last reads writes comes same went heard wrote =
    record {
      at = λ old tells.
          let a = told_on coming mid _ old.coming tells.coming_is comes in
          let line = a.2 in
          let b = wrote line.3 in
          let new : Side = record { coming = a.0; closed = old.closed ++ closed_line (Some b.0) reads writes ∷ []; moments = old.moments } in (
            new,
            record {
              coming_is = same ∙ a.1;
              closed_is = went ∙ ap (λ o. with_line o (closed_line holds_last reads writes)) tells.closed_is ∙ ap (λ o. Some (old.closed ++ closed_line o reads writes ∷ [])) b.1;
              moments_are = tells.moments_are;
            },
            inr (line.0, record { came = line.1; went = (b.0, reads, writes, refl, b.2); moments = refl }, heard line.0 line.2),
          );
    }

-- none was opened
pub none_used :
    (place : BucketPlace) (to_head : Bool) (text : List ℕ) (coming coming_new : Option (List PeerLine)) (closed closed_new : Option (List ClosedLine)) (moments : Option (List ℕ))
    → coming_new ≡ coming → closed_new ≡ closed
    → Known (told_by coming closed moments) (told_by coming_new closed_new moments) (Exchanges place to_head text None)
none_used place to_head text coming coming_new closed closed_new moments same stays =
    record {
      at = λ old tells.
          (old, record { coming_is = same ∙ tells.coming_is; closed_is = stays ∙ tells.closed_is; moments_are = tells.moments_are }, inl (refl, refl));
    }

-- the clock was asked, and then the request was made
pub asked_at :
    (place : BucketPlace) (call : Call) (answer : Option Response) (stamp : Stamp) (now : ℕ) (to_head : Bool) (head body : List ℕ)
    (coming coming_new : Option (List PeerLine)) (closed closed_new : Option (List ClosedLine)) (moments moments_new : Option (List ℕ))
    → Ticks moments moments_new now → IsStampAt now stamp
    → to_head ≡ is_head call → head ≡ head_text place.key place.bucket stamp call → body ≡ body_of call
    → ((ms : Option (List ℕ)) → Known (told_by coming closed ms) (told_by coming_new closed_new ms) (Exchanges place to_head (head ++ body) answer))
    → Known (told_by coming closed moments) (told_by coming_new closed_new moments_new) (Asks place call answer)
asked_at place call answer stamp now to_head head body coming coming_new closed closed_new moments moments_new ticks is spelt_to spelt_head spelt_body exchange =
    record {
      at = λ old tells.
          let moment : now ≡ next_moment old.moments = subst (λ o. IfSome o (λ ms. now ≡ next_moment ms)) tells.moments_are ticks.1 in
          let told : Tells (told_by coming closed moments_new) (ticked old) =
          record { coming_is = tells.coming_is; closed_is = tells.closed_is; moments_are = ticks.0 ∙ ap (λ o. option_map later_moments o) tells.moments_are } in
          let made = (exchange moments_new).at (ticked old) told in
          let text = head_text place.key place.bucket stamp call in (
            made.0,
            made.1,
            (
              stamp,
              subst (λ n. IsStampAt n stamp) moment is,
              subst (λ b. Exchanges place b (text ++ body_of call) answer (ticked old) made.0) spelt_to
                  (subst (λ x. Exchanges place to_head (x ++ body_of call) answer (ticked old) made.0) spelt_head
                  (subst (λ x. Exchanges place to_head (head ++ x) answer (ticked old) made.0) spelt_body made.2)),
            ),
          );
    }

-- the clock was asked, and memory was wanting
pub not_asked :
    (place : BucketPlace) (call : Call) (stamp : Stamp) (now : ℕ) (coming : Option (List PeerLine)) (closed : Option (List ClosedLine)) (moments moments_new : Option (List ℕ))
    → Ticks moments moments_new now → IsStampAt now stamp
    → Known (told_by coming closed moments) (told_by coming closed moments_new) (Asks place call None)
not_asked place call stamp now coming closed moments moments_new ticks is =
    asked_at place call None stamp now (is_head call) (head_text place.key place.bucket stamp call) (body_of call) coming coming closed closed moments moments_new ticks is refl refl refl
    (λ ms. none_used place (is_head call) (head_text place.key place.bucket stamp call ++ body_of call) coming coming closed closed ms refl refl)
