-- Of the pages that code gives: where each next one begins, of that code has a token.
use Rattle.std.proofs.Common.{◌≡◌, ℕ, List, [], ◌∷◌, Bool, true, false, Option, Some, None, Result, Ok, Err, option_map, refl, subst}
use Rattle.std.specs.Prelude.{if◌then◌else◌, IfOk, IfSome, option_and_then}
use Rattle.case_table.specs.declared.refuse.Refusal.TheVariants.{TokenAhead}
use Rattle.json_tree.specs.Results.{◌>>=◌}
use Rattle.log_actions.specs.declared.actions.MetaData.{MetaData}
use Rattle.page_token.specs.declared.cursor.Cursor.{Cursor}
use Rattle.page_token.specs.declared.cursor.TableAccess.{TableAccess}
use Rattle.share_book.specs.NamesView.{NamesView}
use Rattle.share_book.specs.declared.look.Found.{Found}
use Rattle.share_book.specs.declared.look.Found.TheVariants as found
use Rattle.share_book.specs.declared.look.PartFound.{PartFound}
use Rattle.share_catalog.specs.Views.{Spot}
use Rattle.share_catalog.specs.declared.table_name.TableName.{TableName}
use Rattle.share_request.specs.declared.fault.TurnedAway.{TurnedAway}
use Rattle.share_request.specs.declared.fault.TurnedAway.TheVariants as early
use Rattle.share_reply.specs.Answer.{Answer, Ending, Page, of, page}
use Rattle.share_reply.specs.Chains.{IsSpelt, NextIsSpelt, next_in}
use Rattle.share_reply.specs.Feeds.{or_unsupported}
use Rattle.share_reply.specs.Refusing.{Refused, where_all}
use Rattle.share_reply.specs.Replies.{answer_early, of_names, of_table}
use Rattle.share_reply.specs.declared.keys.ReplyKeys.{ReplyKeys}

abbrev ending : (ℕ → Cursor) → Option ℕ → Option ℕ → Ending
ending cursor_at expires next = record { expires = expires; next = option_map cursor_at next }

-- the end of a page, where pages are asked for
pub end_spelt : (keys : ReplyKeys) (cursor_at : ℕ → Cursor) (expires next behind : Option ℕ) (b : Bool) → next ≡ behind → (b ≡ true → IfSome (option_map cursor_at next) (IsSpelt keys))
    → IfSome (option_and_then (λ (e : Ending). e.next) (if b then Some (ending cursor_at expires behind) else None)) (IsSpelt keys)
end_spelt keys cursor_at expires next behind true is spelt = subst (λ (n : Option ℕ). IfSome (option_map cursor_at n) (IsSpelt keys)) is (spelt refl)
end_spelt keys cursor_at expires next behind false is spelt = tt

-- a page of files
pub files_spelt : (keys : ReplyKeys) (p : Page) (b : Bool) → IfSome (next_in p) (IsSpelt keys) → NextIsSpelt keys (of page (where_all ((b, TokenAhead) ∷ []) (Ok p)))
files_spelt keys p true spelt = spelt
files_spelt keys p false spelt = tt

-- and of changes
pub changes_spelt : (keys : ReplyKeys) (p : MetaData → Page) (meta : Option MetaData) (b : Bool) → ((m : MetaData) → IfSome (next_in (p m)) (IsSpelt keys))
    → NextIsSpelt keys (of page (where_all ((b, TokenAhead) ∷ []) (or_unsupported meta >>= λ m. Ok (p m))))
changes_spelt keys p (Some m) true spelt = spelt m
changes_spelt keys p None true spelt = tt
changes_spelt keys p meta false spelt = tt

-- ---- answers

-- of what is given
pub of_spelt : {X : Type 0} (keys : ReplyKeys) (answer : X → Answer) (r : Result X Refused) → ((x : X) → NextIsSpelt keys (answer x)) → NextIsSpelt keys (of answer r)
of_spelt keys answer (Ok x) spelt = spelt x
of_spelt keys answer (Err r) spelt = tt

-- of names
pub names_spelt : (keys : ReplyKeys) (answer : NamesView → Answer) (f : Found) → ((seen : NamesView) → NextIsSpelt keys (answer seen)) → NextIsSpelt keys (of_names answer f)
names_spelt keys answer (found.Names seen) spelt = spelt seen
names_spelt keys answer found.NoTable spelt = tt
names_spelt keys answer (found.Table spot part) spelt = tt

-- of a table
pub table_spelt : (keys : ReplyKeys) (recipient : List ℕ) (name : TableName) (answer : Spot → TableAccess → PartFound → Answer) (f : Found) → ((spot : Spot) (a : TableAccess) (part : PartFound) → NextIsSpelt keys (answer spot a part))
    → NextIsSpelt keys (of_table recipient name answer f)
table_spelt keys recipient name answer (found.Names seen) spelt = tt
table_spelt keys recipient name answer found.NoTable spelt = tt
table_spelt keys recipient name answer (found.Table spot part) spelt = spelt spot _ part

-- of a request that is turned away
pub early_spelt : (keys : ReplyKeys) (why : TurnedAway) → NextIsSpelt keys (answer_early why)
early_spelt keys early.NoRoute = tt
early_spelt keys (early.WrongMethod allowed) = tt
early_spelt keys early.NoBearer = tt

-- whatever is given of it
pub ok_all : {X E : Type 0} {P : Type 0} (r : Result X E) → P → IfOk r (λ _. P)
ok_all (Ok x) p = p
ok_all (Err e) p = tt
