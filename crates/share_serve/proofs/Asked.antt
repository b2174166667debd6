-- What is answered to a recipient that asks, of its view.
use Rattle.std.proofs.Common.{◌≡◌, ℕ, ◌<◌, List, [], ◌∷◌, Bool, true, false, not, Option, Some, None, Result, Ok, IfSome, option_map, option_and_then, unwrap_or, refl, sym, ap, ◌∙◌, arith}
use Rattle.std.proofs.lemmas.Bool.Decides.{nat_tests}
use Rattle.std.specs.FinMap as maps
use Rattle.case_table.specs.declared.refuse.Refusal.{Refusal}
use Rattle.case_table.specs.declared.refuse.Refusal.TheVariants.{Unauthenticated}
use Rattle.share_book.specs.History.{edits}
use Rattle.share_book.specs.Looks.{found_in, log_in, look_of, table_found}
use Rattle.share_book.specs.Parts.{found_of}
use Rattle.share_book.specs.Shown.{show_part}
use Rattle.share_book.specs.Views.{Log, View, log_at, seen_log, shown, shown_log, view_by, view_with}
use Rattle.share_book.specs.declared.entry.Entry.{Entry}
use Rattle.share_book.specs.declared.look.Found.{Found}
use Rattle.share_book.specs.declared.look.Found.TheVariants as found
use Rattle.share_book.specs.declared.look.Part.{Part}
use Rattle.share_book.specs.declared.look.Want.TheVariants as want
use Rattle.share_book.proofs.Looking.{logs_are_shown}
use Rattle.share_book.proofs.Showing.{shown_parts_are_found}
use Rattle.share_catalog.specs.Catalogue.{binding_edition, grant_edition, said}
use Rattle.share_catalog.specs.TableNames.{parts_of}
use Rattle.share_catalog.specs.Views.{Spot, binding, grant, shared, spot_with}
use Rattle.share_catalog.specs.Views as catalog
use Rattle.share_catalog.specs.declared.credential.Credential.{Credential}
use Rattle.share_catalog.specs.declared.edit.Binding.{Binding}
use Rattle.share_catalog.specs.declared.table_name.TableName.{TableName}
use Rattle.share_catalog.proofs.ViewLemmas.{tables_are_shown}
use Rattle.share_request.specs.declared.asked.Request.TheVariants as request
use Rattle.share_request.specs.declared.asked.What.{What}
use Rattle.share_request.specs.declared.fault.RequestFault.{RequestFault}
use Rattle.share_reply.specs.Answer.{Answer, of}
use Rattle.share_reply.specs.Asking.{want_of, want_or_names}
use Rattle.share_reply.specs.Refusing.{Refused, where_all}
use Rattle.share_reply.specs.Replies.{answer_asked, answer_to, answer_what, answered_at, is_expired}
use Rattle.share_serve.specs.Entitled.{Asking, IsGranted, Shares, request_for, shared_log}

-- ---- tests that are passed

pub passes : {X : Type 0} (b : Bool) (refusal : Refusal) (tests : List (Bool × Refusal)) (x : Result X Refused) → b ≡ true → where_all ((b, refusal) ∷ tests) x ≡ where_all tests x
passes b refusal tests x e = ap (λ (c : Bool). where_all ((c, refusal) ∷ tests) x) e

-- ---- the view

abbrev pub view_at : List Entry → List ℕ → Credential → View
view_at h r c = view_with (edits h) (shown (log_at h)) (catalog.view_with (edits h) r c)

view_is : (a : Asking) → view_by a.point (catalog.token a.digest) ≡ Some (view_at a.point a.recipient a.credential)
view_is a =
    ap (λ (o : Option (List ℕ)). option_map (view_with (edits a.point) (shown (log_at a.point))) (option_and_then (catalog.view_of (edits a.point)) o)) a.has_token
    ∙ ap (λ (o : Option Credential). option_map (view_with (edits a.point) (shown (log_at a.point))) (option_map (catalog.view_with (edits a.point) a.recipient) o)) a.is_credential

unexpired : (o : Option ℕ) (now : ℕ) → IfSome o (λ end. now < end) → is_expired o now ≡ false
unexpired None now is = refl
unexpired (Some end) now is = grind (arith, nat_tests, is)

known : (b : Bool) (x : Found) (g : Found → Answer) → b ≡ false → of g (where_all ((not b, Unauthenticated) ∷ []) (Ok x)) ≡ g x
known b x g e = ap (λ (c : Bool). of g (where_all ((not c, Unauthenticated) ∷ []) (Ok x))) e

-- the answer to a recipient, of what is found in its view
pub asked_is : (a : Asking) (asked : Result What RequestFault)
    → answered_at a.keys a.point a.now (request.ByToken (record { digest = a.digest; route = a.route; format = a.format; asked = asked })) ≡ answer_asked a.keys a.recipient a.now asked (found_in found_of (view_at a.point a.recipient a.credential) (want_or_names a.keys asked))
asked_is a asked =
    ap (λ (o : Option View). answer_to a.keys a.now asked (look_of o (want_or_names a.keys asked))) (view_is a)
    ∙ known (is_expired a.credential.expires a.now) (found_in found_of (view_at a.point a.recipient a.credential) (want_or_names a.keys asked)) (answer_asked a.keys a.recipient a.now asked)
    (unexpired a.credential.expires a.now a.is_fresh)

pub answered_is : (a : Asking) (w : What) → answered_at a.keys a.point a.now (request_for a w) ≡ answer_what a.keys a.recipient a.now w (found_in found_of (view_at a.point a.recipient a.credential) (want_of a.keys w))
answered_is a w = asked_is a (Ok w)

-- ---- a table of it

abbrev pub spot_at : (point : List Entry) (r : List ℕ) (name : TableName) → Shares point r name → Spot
spot_at point r name t = spot_with (grant_edition (edits point) r name.share) (t.binding, binding_edition (edits point) name)

-- a grant that holds
pub grant_is : (point : List Entry) (r share : List ℕ) → IsGranted point r share → grant (edits point) r share ≡ Some (grant_edition (edits point) r share)
grant_is point r share is = ap (λ b. said b (grant_edition (edits point) r share)) is

pub shared_is : (point : List Entry) (r : List ℕ) (name : TableName) (t : Shares point r name) → shared (edits point) r name ≡ Some (spot_at point r name t)
shared_is point r name t =
    ap (λ (o : Option ℕ). option_and_then (λ edition. option_map (spot_with edition) (binding (edits point) name)) o) (grant_is point r name.share t.is_granted)
    ∙ ap (λ (o : Option Binding). option_map (spot_with (grant_edition (edits point) r name.share)) (option_map (λ (b : Binding). (b, binding_edition (edits point) name)) o)) t.is_bound

log_is : (point : List Entry) (r : List ℕ) (c : Credential) (name : TableName) (t : Shares point r name) → log_in (view_at point r c) name ≡ shown_log t.binding.only (shared_log point r name t)
log_is point r c name t =
    ap (λ (o : Option Log). unwrap_or o (seen_log None)) (logs_are_shown (edits point) (shown (log_at point)) r name)
    ∙ ap (λ (o : Option Spot). unwrap_or (option_map (shown (log_at point)) o) (seen_log None)) (shared_is point r name t)

-- what is found of a table that is shared: what its binding shows of what is found of the whole log
pub table_is : (point : List Entry) (r : List ℕ) (c : Credential) (name : TableName) (p : Part) (t : Shares point r name)
    → found_in found_of (view_at point r c) (want.Table name p) ≡ found.Table (spot_at point r name t) (show_part t.binding.only (found_of (spot_at point r name t) (shared_log point r name t) p))
table_is point r c name p t =
    let log = log_is point r c name t in
    let spot : maps.get (catalog.tables_of (edits point) r) (parts_of name) ≡ Some (spot_at point r name t) = tables_are_shown (edits point) r name ∙ shared_is point r name t in
    (λ i. table_found found_of (log i) p (spot i)) ∙ ap (found.Table (spot_at point r name t)) (sym (shown_parts_are_found (spot_at point r name t) (shared_log point r name t) p))
