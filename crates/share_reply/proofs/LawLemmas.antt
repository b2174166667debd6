-- The laws of replies.
use Rattle.std.proofs.Common.{◌≡◌, ℕ, List, [], ◌∷◌, Bool, true, false, Option, Result, Ok, refl, sym, ap, ◌∙◌, subst}
use Rattle.std.specs.Prelude.{IsErr}
use Rattle.case_table.specs.declared.refuse.Refusal.{Refusal}
use Rattle.case_table.specs.declared.refuse.Refusal.TheVariants.{NotFound}
use Rattle.share_reply.specs.Lists.{has_share}
use Rattle.page_token.specs.declared.cursor.Cursor.{Cursor}
use Rattle.share_reply.specs.Access.{is_same_edition, is_same_table}
use Rattle.share_reply.specs.Answer.{of, one_share}
use Rattle.share_reply.specs.Feeds as feeds
use Rattle.share_reply.specs.Files as files
use Rattle.share_reply.specs.Laws.{EqualViewsAnswerAlike, StaleTokensGiveNothing, UngrantedSharesAreAlike, UnseenTablesAreAlike, changes, metadata, query, version}
use Rattle.share_reply.specs.Refusing.{Refused, where_all}
use Rattle.share_reply.specs.Replies.{answered}

pub equal_views_answer_alike : EqualViewsAnswerAlike
equal_views_answer_alike keys history other now req same = ap (λ v. answered keys v now req) same

pub unseen_tables_are_alike : UnseenTablesAreAlike
unseen_tables_are_alike keys r now name w (version from) = refl
unseen_tables_are_alike keys r now name w (metadata at) = refl
unseen_tables_are_alike keys r now name w (query body) = refl
unseen_tables_are_alike keys r now name w (changes from to max text) = refl

-- the second of two tests doesn't hold
second_fails : {X : Type 0} (a b : Bool) (r s : Refusal) (tests : List (Bool × Refusal)) (x : Result X Refused) → b ≡ false → IsErr (where_all ((a, r) ∷ (b, s) ∷ tests) x)
second_fails false b r s tests x e = refl
second_fails true true r s tests x e = absurd cc
second_fails true false r s tests x e = refl

pub stale_tokens_give_nothing : StaleTokensGiveNothing
stale_tokens_give_nothing = record {
  files = λ keys a now q part text c has read stale.
      subst IsErr (sym (ap (λ (o : Option (List ℕ)). files.files_with keys a now q o part) has ∙ ap (λ (o : Option Cursor). files.files_by keys a now q o part) read))
      (second_fails (is_same_table c.access a) (is_same_edition c.access a) _ _ _ (files.files_from keys a now q (λ v. files.start_at c) part) stale);
  changes = λ keys a now q part text c has read stale.
      subst IsErr (sym (ap (λ (o : Option (List ℕ)). feeds.feed_with keys a now q o part) has ∙ ap (λ (o : Option Cursor). feeds.feed_by keys a now q o part) read))
      (second_fails (is_same_table c.access a) (is_same_edition c.access a) _ _ _ (feeds.feed_from keys a now q (λ f. feeds.start_at c) part) stale);
}

refused_by : {X : Type 0} (b : Bool) (r : Refusal) (x : Result X Refused) → b ≡ false → where_all ((b, r) ∷ []) x ≡ where_all ((false, r) ∷ []) x
refused_by b r x e = ap (λ (c : Bool). where_all ((c, r) ∷ []) x) e

pub ungranted_shares_are_alike : UngrantedSharesAreAlike
ungranted_shares_are_alike keys r now seen share none = ap (of one_share) (refused_by (has_share seen share) NotFound (Ok share) none)
