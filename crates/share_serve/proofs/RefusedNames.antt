-- Why strangers and listings are refused.
use Rattle.std.proofs.Common.{◌≡◌, inl, inr, ℕ, ◌<◌, List, [], ◌∷◌, Bool, true, false, not, ◌&&◌, Option, Some, None, Result, Ok, Err, IfSome, option_map, option_and_then, refl, sym, ap, ◌∙◌, arith, true≢false}
use Rattle.std.proofs.lemmas.Bool.Decides.{nat_tests}
use Rattle.case_table.specs.declared.refuse.Refusal.TheVariants as refusal
use Rattle.case_table.specs.declared.routing.Route.{Route}
use Rattle.page_token.specs.Cursors.{cursor_of}
use Rattle.page_token.specs.declared.cursor.Cursor.{Cursor}
use Rattle.page_token.specs.declared.cursor.Cursor.TheVariants as cursor
use Rattle.page_token.specs.declared.cursor.ListKind.TheVariants as kind
use Rattle.share_book.specs.History.{edits}
use Rattle.share_book.specs.Looks.{look_of}
use Rattle.share_book.specs.NamesView.{NamesView}
use Rattle.share_book.specs.Views.{View, log_at, shown, view_with}
use Rattle.share_book.specs.declared.entry.Entry.{Entry}
use Rattle.share_book.specs.declared.look.Found.{Found}
use Rattle.share_catalog.specs.Views as catalog
use Rattle.share_catalog.specs.Catalogue as catalogue
use Rattle.share_catalog.specs.declared.credential.Credential.{Credential}
use Rattle.share_request.specs.declared.asked.ResponseFormat.{ResponseFormat}
use Rattle.share_request.specs.declared.asked.What.{What}
use Rattle.share_request.specs.declared.asked.What.TheVariants as what
use Rattle.share_request.specs.declared.fault.RequestFault.{RequestFault}
use Rattle.share_reply.specs.Answer.{NamesPage, names, of, one_share, refused}
use Rattle.share_reply.specs.Asking.{want_or_names}
use Rattle.share_reply.specs.Lists.{Listing, has_share, is_same_listing, is_there, listing, names_by, names_from, names_page, names_with}
use Rattle.share_reply.specs.Refusing.{Refused, plain, where_all}
use Rattle.share_reply.specs.Replies.{answer_asked, answer_to, is_expired}
use Rattle.share_reply.specs.declared.keys.ReplyKeys.{ReplyKeys}
use Rattle.share_serve.specs.Entitled.{Asking, IsGranted, IsListed}
use Rattle.share_serve.specs.RefusalCauses.{FaultsAreTold, IsRefused, IsVisible, NamesCause, NamesHaveCauses, StrangersAreRefused}
use Rattle.share_serve.proofs.Asked.{answered_is, asked_is}
use Rattle.share_serve.proofs.GivenNames.{page_by, schema_listed, seen_by, share_listed}

pub refused_same : (x y : Refused) → refused x ≡ refused y → y ≡ x
refused_same x y e = cc

-- ---- strangers

fresh_of : (o : Option ℕ) (now : ℕ) → is_expired o now ≡ false → IfSome o (λ end. now < end)
fresh_of None now e = tt
fresh_of (Some end) now e = grind (arith, nat_tests, e)

module _ (keys : ReplyKeys) (point : List Entry) (now : ℕ) (digest : List ℕ) (route : Route) (format : ResponseFormat) (asked : Result What RequestFault) (stranger : (a : Asking) → a.point ≡ point → a.now ≡ now → a.digest ≡ digest → ⊥) where
  abbrev Unknown : Option View → Type 0
  Unknown view = answer_to keys now asked (look_of view (want_or_names keys asked)) ≡ refused (plain refusal.Unauthenticated)

  by_expiry : (r : List ℕ) (c : Credential) (f : Found) (b : Bool) → catalog.name_of (edits point) (catalog.token digest) ≡ Some r → catalogue.credential (edits point) r ≡ Some c → is_expired c.expires now ≡ b
      → of (answer_asked keys r now asked) (where_all ((not b, refusal.Unauthenticated) ∷ []) (Ok f)) ≡ refused (plain refusal.Unauthenticated)
  by_expiry r c f true has is over = refl
  by_expiry r c f false has is over =
      absurd (stranger (record { keys = keys; point = point; now = now; digest = digest; route = route; format = format; recipient = r; has_token = has; credential = c; is_credential = is; is_fresh = fresh_of c.expires now over }) refl refl refl)

  by_credential : (r : List ℕ) (o : Option Credential) → catalog.name_of (edits point) (catalog.token digest) ≡ Some r → catalogue.credential (edits point) r ≡ o
      → Unknown (option_map (view_with (edits point) (shown (log_at point))) (option_map (catalog.view_with (edits point) r) o))
  by_credential r None has is = refl
  by_credential r (Some c) has is = by_expiry r c _ (is_expired c.expires now) has is refl

  by_name : (o : Option (List ℕ)) → catalog.name_of (edits point) (catalog.token digest) ≡ o → Unknown (option_map (view_with (edits point) (shown (log_at point))) (option_and_then (catalog.view_of (edits point)) o))
  by_name None has = refl
  by_name (Some r) has = by_credential r (catalogue.credential (edits point) r) has refl

pub strangers_are_refused : StrangersAreRefused
strangers_are_refused keys point now digest route format asked stranger = by_name keys point now digest route format asked stranger (catalog.name_of (edits point) (catalog.token digest)) refl

pub faults_are_told : FaultsAreTold
faults_are_told a fault = asked_is a (Err fault)

-- ---- listings

names_apart : (p : NamesPage) (x : Refused) (P : Type 0) → names p ≡ refused x → P
names_apart p x P e = absurd cc

by_same : (p : NamesPage) (x : Refused) (b : Bool) → of names (where_all ((b, refusal.TokenInvalid) ∷ []) (Ok p)) ≡ refused x → x ≡ plain refusal.TokenInvalid
by_same p x true e = names_apart p x (x ≡ plain refusal.TokenInvalid) e
by_same p x false e = refused_same (plain refusal.TokenInvalid) x e

by_cursor : (r : List ℕ) (seen : NamesView) (l : Listing) (x : Refused) (o : Option Cursor) → of names (names_by r seen l o) ≡ refused x → x ≡ plain refusal.TokenInvalid
by_cursor r seen l x None e = refused_same (plain refusal.TokenInvalid) x e
by_cursor r seen l x (Some (cursor.List c)) e = by_same (names_from r seen l c.after) x (is_same_listing r l c) e
by_cursor r seen l x (Some (cursor.Files c)) e = refused_same (plain refusal.TokenInvalid) x e
by_cursor r seen l x (Some (cursor.Feed c)) e = refused_same (plain refusal.TokenInvalid) x e

by_token : (keys : ReplyKeys) (r : List ℕ) (seen : NamesView) (l : Listing) (x : Refused) (o : Option (List ℕ)) → of names (names_with keys r seen l o) ≡ refused x → x ≡ plain refusal.TokenInvalid
by_token keys r seen l x None e = names_apart (names_from r seen l []) x (x ≡ plain refusal.TokenInvalid) e
by_token keys r seen l x (Some text) e = by_cursor r seen l x (cursor_of keys.token text) e

-- a token that this listing gave isn't refused
unlisted : (a : Asking) (seen : NamesView) (l : Listing) (x : Refused) → of names (names_with a.keys a.recipient seen l l.token) ≡ refused x → IsListed a l → ⊥
unlisted a seen l x e is = let p = page_by a seen l l.token is in names_apart p.0 x ⊥ (sym (ap (of names) p.1) ∙ e)

by_there : (a : Asking) (seen : NamesView) (l : Listing) (x : Refused) (b : Bool) → (IsVisible a l.kind l.share l.schema → is_there seen l.kind l.share l.schema ≡ true) → is_there seen l.kind l.share l.schema ≡ b
    → of names (where_all ((b, refusal.NotFound) ∷ []) (names_with a.keys a.recipient seen l l.token)) ≡ refused x → NamesCause a l x
by_there a seen l x true visible is e = inr (by_token a.keys a.recipient seen l x l.token e, unlisted a seen l x e)
by_there a seen l x false visible is e = inl (refused_same (plain refusal.NotFound) x e, λ v. true≢false (sym (visible v) ∙ is))

names_cause : (a : Asking) (l : Listing) (x : Refused) → (IsVisible a l.kind l.share l.schema → is_there (seen_by a) l.kind l.share l.schema ≡ true)
    → of names (names_page a.keys a.recipient (seen_by a) l) ≡ refused x → NamesCause a l x
names_cause a l x visible e = by_there a (seen_by a) l x (is_there (seen_by a) l.kind l.share l.schema) visible refl e

one_apart : (share : List ℕ) (x : Refused) (b : Bool) → of one_share (where_all ((b, refusal.NotFound) ∷ []) (Ok share)) ≡ refused x → (x ≡ plain refusal.NotFound) × (b ≡ false)
one_apart share x true e = absurd (apart e)
  where
    apart : one_share share ≡ refused x → ⊥
    apart e = cc
one_apart share x false e = (refused_same (plain refusal.NotFound) x e, refl)

share_cause : (a : Asking) (share : List ℕ) (x : Refused) → IsRefused a (what.GetShare share) x → (x ≡ plain refusal.NotFound) × (IsGranted a.point a.recipient share → ⊥)
share_cause a share x e =
    let so = one_apart share x (has_share (seen_by a) share) (sym (answered_is a (what.GetShare share)) ∙ e) in
    (so.0, λ granted. true≢false (sym (share_listed a.point a.recipient a.credential share granted) ∙ so.1))

schema_there : (a : Asking) (share schema : List ℕ) → IsVisible a kind.Tables share schema → is_there (seen_by a) kind.Tables share schema ≡ true
schema_there a share schema v =
    let same = v.1 in
    let within = v.2 in
    sym (λ i. is_there (seen_by a) kind.Tables (same i) (within i))
    ∙ (λ i. share_listed a.point a.recipient a.credential v.0.share v.3.is_granted i && schema_listed a.point a.recipient a.credential v.0 v.3 i)

pub names_have_causes : NamesHaveCauses
names_have_causes = record {
  shares = λ a p x e. names_cause a (listing kind.Shares [] [] p) x (λ v. refl) (sym (answered_is a (what.ListShares p)) ∙ e);
  share = share_cause;
  schemas = λ a share p x e. names_cause a (listing kind.Schemas share [] p) x (share_listed a.point a.recipient a.credential share) (sym (answered_is a (what.ListSchemas share p)) ∙ e);
  tables = λ a share schema p x e. names_cause a (listing kind.Tables share schema p) x (schema_there a share schema) (sym (answered_is a (what.ListTables share schema p)) ∙ e);
  all_tables = λ a share p x e. names_cause a (listing kind.AllTables share [] p) x (share_listed a.point a.recipient a.credential share) (sym (answered_is a (what.ListAll share p)) ∙ e);
}
