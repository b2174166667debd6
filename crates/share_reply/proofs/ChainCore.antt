-- What chains of files and chains of changes have in common.
use Rattle.std.proofs.Common.{◌≡◌, ℕ, List, [], ◌∷◌, Bool, true, false, cond, ◌||◌, Option, Some, None, refl, sym, ap, ◌∙◌, subst, map, drop, filter, option_map}
use Rattle.std.specs.Prelude.{All, is_some, IfSome, option_and_then}
use Rattle.std.proofs.lemmas.List.Elements.{All-cons, All-nil}
use Rattle.std.proofs.lemmas.List.{append-nil}
use Rattle.delta_lines.specs.declared.kinds.DeltaFile.{DeltaFile}
use Rattle.page_token.specs.Cursors.{cursor_of}
use Rattle.page_token.specs.Token.{token_text}
use Rattle.page_token.specs.declared.cursor.Cursor.{Cursor}
use Rattle.share_book.specs.declared.entry.Entry.{Entry}
use Rattle.share_catalog.specs.declared.table_name.TableName.{TableName}
use Rattle.share_reply.specs.Answer.{Ending, Page, page}
use Rattle.share_reply.specs.Chains.{Gives, IsChainAfter, IsSpelt, Paging, Turn, answer_at, content_of}
use Rattle.share_reply.specs.Pages.{given, next_place}
use Rattle.share_reply.specs.declared.keys.ReplyKeys.{ReplyKeys}
use Rattle.share_reply.proofs.PageLemmas.{last_page, more_pages}
use Rattle.share_reply.proofs.TokenLemmas.{token_again}

pub read_again : (keys : ReplyKeys) (c : Cursor) → IsSpelt keys c → cursor_of keys.token (token_text keys.token c) ≡ Some c
read_again keys c (value, range, short) = token_again keys.token c value range short

-- ---- what a page's end says

abbrev pub NextIs : (ℕ → Cursor) → Option ℕ → Option Cursor → Type 0
NextIs cursor_at next None = next ≡ None
NextIs cursor_at next (Some c) = (place : ℕ) × (next ≡ Some place) × (c ≡ cursor_at place)

next_of : (cursor_at : ℕ → Cursor) (next : Option ℕ) → NextIs cursor_at next (option_map cursor_at next)
next_of cursor_at None = refl
next_of cursor_at (Some place) = (place, refl, refl)

-- no page ends early where no number of elements is asked
unpaged : (most : Option ℕ) (asked : Bool) (X : Type 0) (place : ℕ) (test : X → Bool) (xs : List X) → (is_some most || asked) ≡ false → next_place test most place xs ≡ None
unpaged None asked X place test xs e = refl
unpaged (Some k) asked X place test xs e = absurd cc

end_by : (cursor_at : ℕ → Cursor) (next : Option ℕ) (expires : Option ℕ) (b : Bool) → (b ≡ false → next ≡ None)
    → NextIs cursor_at next (option_and_then (λ (e : Ending). e.next) (cond b (Some (record { expires = expires; next = option_map cursor_at next })) None))
end_by cursor_at next expires true none = next_of cursor_at next
end_by cursor_at next expires false none = none refl

pub end_says : {X : Type 0} (cursor_at : ℕ → Cursor) (test : X → Bool) (most : Option ℕ) (asked : Bool) (place : ℕ) (xs : List X) (expires : Option ℕ)
    → NextIs cursor_at (next_place test most place xs) (option_and_then (λ (e : Ending). e.next) (cond (is_some most || asked) (Some (record { expires = expires; next = option_map cursor_at (next_place test most place xs) })) None))
end_says {X} cursor_at test most asked place xs expires = end_by cursor_at (next_place test most place xs) expires (is_some most || asked) (unpaged most asked X place test xs)

-- ---- one page, and those behind it

-- of each of which such a thing holds
pub one_page : {Q X : Type 0} (paging : Paging Q) (keys : ReplyKeys) (name : TableName) (file_at : ℕ → X → DeltaFile) (P : Turn Q → Type 0) (history : List Entry) (t : Turn Q) (ts : List (Turn Q))
    (test : X → Bool) (most : Option ℕ) (place : ℕ) (xs : List X) (cursor_at : ℕ → Cursor) (p : Page) (next : Option Cursor)
    → answer_at paging keys name t ≡ page p → p.content ≡ map (file_at t.moment) (given test most place xs)
    → NextIs cursor_at (next_place test most place xs) next → IfSome next (IsSpelt keys)
    → IsChainAfter paging keys name history (option_map (token_text keys.token) next) ts
    → P t
    → ((behind : ℕ) → IsSpelt keys (cursor_at behind) → IsChainAfter paging keys name history (Some (token_text keys.token (cursor_at behind))) ts → Gives paging keys name file_at ts (filter test (drop behind xs)) × All P ts)
    → Gives paging keys name file_at (t ∷ ts) (filter test (drop place xs)) × All P (t ∷ ts)
one_page paging keys name file_at P history t [] test most place xs cursor_at p None answered content next spelt chain holds later = (
  (given test most place xs, [], sym (last_page test most place xs next) ∙ sym (append-nil _), ap content_of answered ∙ content, refl),
  All-cons P t [] holds (All-nil P),
)
one_page paging keys name file_at P history t (u ∷ us) test most place xs cursor_at p None answered content next spelt chain holds later = absurd chain
one_page paging keys name file_at P history t ts test most place xs cursor_at p (Some c) answered content (behind, is, c_is) spelt chain holds later =
    let (gives, all) = later behind (subst (IsSpelt keys) c_is spelt) (subst (λ (x : Cursor). IsChainAfter paging keys name history (Some (token_text keys.token x)) ts) c_is chain) in (
      (given test most place xs, filter test (drop behind xs), more_pages test most place xs behind is, ap content_of answered ∙ content, gives),
      All-cons P t ts holds all,
    )
