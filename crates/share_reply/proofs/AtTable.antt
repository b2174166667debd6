-- What an answer tells of the view that it was answered from.
use Rattle.std.proofs.Common.{◌≡◌, ℕ, List, [], ◌∷◌, Bool, true, false, Option, Some, None, Result, Ok, Err, refl, sym, subst}
use Rattle.std.specs.Prelude.{not}
use Rattle.std.specs.FinMap as maps
use Rattle.case_table.specs.declared.refuse.Refusal.{Refusal}
use Rattle.page_token.specs.declared.cursor.TableAccess.{TableAccess}
use Rattle.share_book.specs.Looks.{log_in, look_of, table_found}
use Rattle.share_book.specs.Parts.{found_of}
use Rattle.share_book.specs.Views.{View, view_by}
use Rattle.share_book.specs.declared.entry.Entry.{Entry}
use Rattle.share_book.specs.declared.look.Found.{Found}
use Rattle.share_book.specs.declared.look.Part.{Part}
use Rattle.share_book.specs.declared.look.PartFound.{PartFound}
use Rattle.share_book.specs.declared.look.Want.TheVariants as want
use Rattle.share_catalog.specs.TableNames.{parts_of}
use Rattle.share_catalog.specs.Views.{Spot, Who}
use Rattle.share_catalog.specs.declared.table_name.TableName.{TableName}
use Rattle.share_request.specs.declared.asked.What.{What}
use Rattle.share_reply.specs.Access.{access}
use Rattle.share_reply.specs.Answer.{Answer, Page, of, page, refused}
use Rattle.share_reply.specs.Refusing.{Refused, where_all}
use Rattle.share_reply.specs.Replies.{answer_asked, answer_to, answer_what, is_expired, of_table}
use Rattle.share_reply.specs.declared.keys.ReplyKeys.{ReplyKeys}

-- what asks for a part of a table by a function of it
abbrev pub Asks : ReplyKeys → ℕ → What → TableName → (Spot → TableAccess → PartFound → Answer) → Type 0
Asks keys now w name g = (r : List ℕ) (x : Found) → answer_what keys r now w x ≡ of_table r name g x

-- what is found for it where a view sees the table
abbrev pub answer_in : TableName → Part → (Spot → TableAccess → PartFound → Answer) → View → Spot → Answer
answer_in name part g view spot = g spot (access view.catalog.recipient name spot) (found_of spot (log_in view name) part)

unexpired : (b : Bool) (refusal : Refusal) (x : Found) (g : Found → Answer) (Q : Answer → Type 0) → ((why : Refused) → Q (refused why)) → Q (g x) → Q (of g (where_all ((b, refusal) ∷ []) (Ok x)))
unexpired true refusal x g Q refusals given = given
unexpired false refusal x g Q refusals given = refusals _

spot_from : (who : Who) (point : List Entry) (name : TableName) (part : Part) (g : Spot → TableAccess → PartFound → Answer) (Q : Answer → Type 0) (view : View) (o : Option Spot) → ((why : Refused) → Q (refused why))
    → ((spot : Spot) → maps.get view.catalog.tables (parts_of name) ≡ Some spot → Q (answer_in name part g view spot))
    → maps.get view.catalog.tables (parts_of name) ≡ o → Q (of_table view.catalog.recipient name g (table_found found_of (log_in view name) part o))
spot_from who point name part g Q view None refusals given is = refusals _
spot_from who point name part g Q view (Some spot) refusals given is = given spot is

-- What holds of each refusal, and of what is answered from each view that sees the table, holds of the answer.
pub at_view : (keys : ReplyKeys) (who : Who) (point : List Entry) (now : ℕ) (name : TableName) (part : Part) (w : What) (g : Spot → TableAccess → PartFound → Answer) (Q : Answer → Type 0) (o : Option View) → Asks keys now w name g
    → ((why : Refused) → Q (refused why))
    → ((view : View) (spot : Spot) → view_by point who ≡ Some view → maps.get view.catalog.tables (parts_of name) ≡ Some spot → Q (answer_in name part g view spot))
    → view_by point who ≡ o → Q (answer_to keys now (Ok w) (look_of o (want.Table name part)))
at_view keys who point now name part w g Q None asks refusals given is = refusals _
at_view keys who point now name part w g Q (Some view) asks refusals given is =
    let r : List ℕ = view.catalog.recipient in
    let x : Found = table_found found_of (log_in view name) part (maps.get view.catalog.tables (parts_of name)) in
    unexpired (not (is_expired view.catalog.credential.expires now)) _ x (answer_asked keys r now (Ok w)) Q refusals
    (subst Q (sym (asks r x)) (spot_from who point name part g Q view (maps.get view.catalog.tables (parts_of name)) refusals (λ spot at. given view spot is at) refl))

-- ---- an answer that is a page

-- a page's function of a table, and the view that it was answered from
pub record AtTable (who : Who) (point : List Entry) (name : TableName) (part : Part) (f : Spot → TableAccess → PartFound → Result Page Refused) (p : Page) : Type 0 where
  pub view : View
  pub is_view : view_by point who ≡ Some view
  pub spot : Spot
  pub is_spot : maps.get view.catalog.tables (parts_of name) ≡ Some spot
  pub page_is : f spot (access view.catalog.recipient name spot) (found_of spot (log_in view name) part) ≡ Ok p

-- an answer that is a page isn't a refusal
page_ok : (r : Result Page Refused) (p : Page) → of page r ≡ page p → r ≡ Ok p
page_ok (Ok q) p e = cc
page_ok (Err x) p e = absurd cc

pub at_table : (keys : ReplyKeys) (who : Who) (point : List Entry) (now : ℕ) (name : TableName) (part : Part) (w : What) (f : Spot → TableAccess → PartFound → Result Page Refused) (p : Page) (o : Option View)
    → Asks keys now w name (λ s a x. of page (f s a x)) → view_by point who ≡ o → answer_to keys now (Ok w) (look_of o (want.Table name part)) ≡ page p → AtTable who point name part f p
at_table keys who point now name part w f p o asks is e =
    at_view keys who point now name part w (λ s a x. of page (f s a x)) (λ answer. answer ≡ page p → AtTable who point name part f p) o asks
    (λ why no. absurd cc)
    (λ view spot is_view is_spot same. record {
      view = view;
      is_view = is_view;
      spot = spot;
      is_spot = is_spot;
      page_is = page_ok (f spot (access view.catalog.recipient name spot) (found_of spot (log_in view name) part)) p same;
    })
    is e
