-- What was given under a grant or a binding that is over is good no more.
use Rattle.std.proofs.Common.{◌≡◌, ℕ, zero, suc, ◌+◌, ◌<◌, List, [], ◌∷◌, ◌++◌, Bool, true, false, cond, ◌&&◌, Option, Some, None, Result, Ok, Err, inl, inr, refl, sym, ap, ◌∙◌, arith}
use Rattle.std.specs.Prelude.{◌⊎◌, ◌==◌, count_by, filter_map, not, nat_le, option_and_then, unwrap_or}
use Rattle.std.specs.FinMap as maps
use Rattle.std.specs.List.{cons_option, last_or}
use Rattle.std.proofs.lemmas.Bool.Decides.{nat_tests}
use Rattle.std.proofs.lemmas.List.Elements.{filter_map-append}
use Rattle.std.proofs.lemmas.List.Sums.{sum_by-append}
use Rattle.case_table.specs.declared.refuse.Refusal.{Refusal}
use Rattle.page_token.specs.declared.cursor.TableAccess.{TableAccess}
use Rattle.share_catalog.specs.Catalogue.{binding_edition, bound, grant_edition, granted, grants_pair, last_word, said, says_grant}
use Rattle.share_catalog.specs.TableNames.{parts_of}
use Rattle.share_catalog.specs.Views.{Spot, named, token}
use Rattle.share_catalog.specs.declared.edit.Edit.{Edit}
use Rattle.share_catalog.specs.declared.edit.Edit.TheVariants as edit
use Rattle.share_catalog.specs.declared.table_name.TableName.{TableName}
use Rattle.share_book.specs.History.{edit_in, edits}
use Rattle.share_book.specs.Looks.{log_in, look_of, table_found}
use Rattle.share_book.specs.Parts.{found_of}
use Rattle.share_book.specs.Views.{Log, View, view_by}
use Rattle.share_book.specs.declared.entry.Entry.{Entry}
use Rattle.share_book.specs.declared.look.Part.TheVariants as part
use Rattle.share_book.specs.declared.look.Want.TheVariants as want
use Rattle.signed_link.specs.declared.parts.LinkParts.{LinkParts}
use Rattle.share_reply.specs.Access.{access}
use Rattle.file_ranges.specs.declared.span.Span.{Span}
use Rattle.share_reply.specs.Answer.{Answer, object, of_object}
use Rattle.share_reply.specs.Asking.{ask_by}
use Rattle.share_reply.specs.Chains.{Turn}
use Rattle.share_reply.specs.Feeds.{ChangesQuery}
use Rattle.share_reply.specs.Laws.{GivesNothing, IsRevoked, IsUnbound, RevokedGrantsGiveNothing, UnboundTablesGiveNothing, access_of}
use Rattle.share_reply.specs.Links.{linked_object, object_at, object_in, object_or}
use Rattle.share_reply.specs.Refusing.{Refused, where_all}
use Rattle.share_reply.specs.Replies.{seen_in, view_asked}
use Rattle.query_body.specs.declared.query.QueryBody.{QueryBody}
use Rattle.share_reply.proofs.BindingLemmas.{bound_again}
use Rattle.share_reply.proofs.FeedChain as feed_chain
use Rattle.share_reply.proofs.FeedPaged as feed_paged
use Rattle.share_reply.proofs.FilesChain as files_chain
use Rattle.share_reply.proofs.FilesPaged as files_paged
use Rattle.share_reply.proofs.FilesPaged.{passed}
use Rattle.share_reply.proofs.SeenTable.{IsBound, IsGranted, is_bound, is_granted, named_granted}

-- ---- a grant that comes back has a later edition

said_false : (b : Bool) → (said b false ≡ None) ⊎ (said b false ≡ Some false)
said_false true = inr refl
said_false false = inl refl

-- what an edit that doesn't grant the pair says of it: nothing, or that it isn't granted
quiet : (r s : List ℕ) (e : Edit) → grants_pair r s e ≡ false → (says_grant r s e ≡ None) ⊎ (says_grant r s e ≡ Some false)
quiet r s (edit.NewShare n) h = said_false _
quiet r s (edit.DropShare n) h = said_false _
quiet r s (edit.Bind t b) h = inl refl
quiet r s (edit.Unbind t) h = inl refl
quiet r s (edit.NewRecipient n c) h = said_false _
quiet r s (edit.Rotate n c) h = inl refl
quiet r s (edit.DropRecipient n) h = said_false _
quiet r s (edit.Grant x y) h = inl (ap (λ c. cond c (Some true) None) h)
quiet r s (edit.Revoke x y) h = said_false _

abbrev words : List ℕ → List ℕ → List Edit → List Bool
words r s es = filter_map (says_grant r s) es

last_or-append : {X : Type 0} (o : Option X) (xs ys : List X) → last_or o (xs ++ ys) ≡ last_or (last_or o xs) ys
last_or-append o [] ys = refl
last_or-append o (x ∷ xs) ys = last_or-append (Some x) xs ys

not_counted : (b : Bool) (n : ℕ) → (0 + cond b 1 0) + n ≡ 0 → (b ≡ false) × (n ≡ 0)
not_counted true n e = absurd (omega (arith, e))
not_counted false n e = (refl, omega (arith, e))

by_word : (w o : Option Bool) (ws : List Bool) → (w ≡ None) ⊎ (w ≡ Some false) → unwrap_or o false ≡ false
    → ((p : Option Bool) → unwrap_or p false ≡ false → unwrap_or (last_or p ws) false ≡ false) → unwrap_or (last_or o (cons_option w ws)) false ≡ false
by_word None o ws cases off rest = rest o off
by_word (Some false) o ws cases off rest = rest (Some false) refl
by_word (Some true) o ws (inl e) off rest = absurd cc
by_word (Some true) o ws (inr e) off rest = absurd cc

silent : (r s : List ℕ) (es : List Edit) (o : Option Bool) → count_by (grants_pair r s) es ≡ 0 → unwrap_or o false ≡ false → unwrap_or (last_or o (words r s es)) false ≡ false
silent r s [] o none off = off
silent r s (e ∷ es) o none off =
    let (unsaid, rest) = not_counted (grants_pair r s e) (count_by (grants_pair r s) es) (sym (sum_by-append (λ x. cond (grants_pair r s x) 1 0) (e ∷ []) es) ∙ none) in
    by_word (says_grant r s e) o (words r s es) (quiet r s e unsaid) off (λ p is. silent r s es p rest is)

counted : (r s : List ℕ) (es later : List Edit) (n : ℕ) → count_by (grants_pair r s) later ≡ n → granted es r s ≡ false → granted (es ++ later) r s ≡ true → grant_edition es r s < grant_edition (es ++ later) r s
counted r s es later zero none off on =
    let joined : last_word (says_grant r s) (es ++ later) ≡ last_or (last_word (says_grant r s) es) (words r s later) =
    ap (last_or None) (filter_map-append (says_grant r s) es later) ∙ last_or-append None (words r s es) (words r s later) in
    let still : granted (es ++ later) r s ≡ false = ap (λ o. unwrap_or o false) joined ∙ silent r s later (last_word (says_grant r s) es) none off in
    absurd cc
counted r s es later (suc n) some off on = omega (arith, some, sum_by-append (λ e. cond (grants_pair r s e) 1 0) es later)

-- so what was given before is of another edition
not_again : (before later : List Entry) (r s : List ℕ) (edition : ℕ) → IsRevoked before r s edition → granted (edits (before ++ later)) r s ≡ true → edition ≡ grant_edition (edits (before ++ later)) r s → ⊥
not_again before later r s edition (off, low) on is =
    let joined : edits (before ++ later) ≡ edits before ++ edits later = filter_map-append edit_in before later in
    let greater : grant_edition (edits before) r s < grant_edition (edits before ++ edits later) r s =
    counted r s (edits before) (edits later) (count_by (grants_pair r s) (edits later)) refl off (sym (ap (λ (es : List Edit). granted es r s) joined) ∙ on) in
    let here : edition ≡ grant_edition (edits before ++ edits later) r s = is ∙ ap (λ (es : List Edit). grant_edition es r s) joined in
    omega (arith, greater, low, here)

-- ---- who is given something sees its table

-- of whom a view is given, of which table, and the editions now: those that were given
record IsGiven (history : List Entry) (given : TableAccess) : Type 0 where
  recipient : List ℕ
  name : TableName
  spot : Spot
  log : Log
  same : access recipient name spot ≡ given
  granted : IsGranted history recipient name spot
  bound : IsBound history name spot log

revoked : (before later : List Entry) (given : TableAccess) → IsRevoked before given.recipient given.share given.grant → IsGiven (before ++ later) given → ⊥
revoked before later given over g =
    let recipient : g.recipient ≡ given.recipient = ap (λ (a : TableAccess). a.recipient) g.same in
    let share : g.name.share ≡ given.share = ap (λ (a : TableAccess). a.share) g.same in
    let grant : g.spot.grant ≡ given.grant = ap (λ (a : TableAccess). a.grant) g.same in
    let on : granted (edits (before ++ later)) given.recipient given.share ≡ true = (λ i. granted (edits (before ++ later)) (sym recipient i) (sym share i)) ∙ g.granted.0 in
    let is : given.grant ≡ grant_edition (edits (before ++ later)) given.recipient given.share = sym grant ∙ g.granted.1 ∙ (λ i. grant_edition (edits (before ++ later)) (recipient i) (share i)) in
    not_again before later given.recipient given.share given.grant over on is

abbrev table_of : TableAccess → TableName
table_of a = record { share = a.share; schema = a.schema; table = a.table }

unbound : (before later : List Entry) (given : TableAccess) → IsUnbound before (table_of given) given.binding → IsGiven (before ++ later) given → ⊥
unbound before later given (off, low) g =
    let name : g.name ≡ table_of given = ap table_of g.same in
    let binding : g.spot.binding ≡ given.binding = ap (λ (a : TableAccess). a.binding) g.same in
    let joined : edits (before ++ later) ≡ edits before ++ edits later = filter_map-append edit_in before later in
    let on : bound (edits before ++ edits later) (table_of given) ≡ Some g.bound.binding = (λ i. bound (sym joined i) (sym name i)) ∙ g.bound.is_bound in
    let greater : binding_edition (edits before) (table_of given) < binding_edition (edits before ++ edits later) (table_of given) = bound_again (edits before) (edits later) (table_of given) g.bound.binding off on in
    let here : given.binding ≡ binding_edition (edits before ++ edits later) (table_of given) = sym binding ∙ g.bound.edition ∙ (λ i. binding_edition (joined i) (name i)) in
    omega (arith, greater, low, here)

-- of whom a token finds
given_by : (history : List Entry) (digest : List ℕ) (view : View) (name : TableName) (spot : Spot) (given : TableAccess) → access view.catalog.recipient name spot ≡ given → view_by history (token digest) ≡ Some view
    → maps.get view.catalog.tables (parts_of name) ≡ Some spot → IsGiven history given
given_by history digest view name spot given same is_view is = record {
  recipient = view.catalog.recipient;
  name = name;
  spot = spot;
  log = log_in view name;
  same = same;
  granted = is_granted history (token digest) view name spot is_view is;
  bound = is_bound history (token digest) view name spot is_view is;
}

-- ---- links

split : (a b : Bool) → (a && b) ≡ true → (a ≡ true) × (b ≡ true)
split true b e = (refl, e)
split false b e = absurd cc

-- a test that an object passed
object_past : (s span : Option Span) (b : Bool) (refusal : Refusal) (r : Result (List ℕ) Refused) (x : List ℕ) → of_object s (where_all ((b, refusal) ∷ []) r) ≡ object x span → r ≡ Ok x
object_past s span true refusal (Ok y) x e = cc
object_past s span true refusal (Err y) x e = absurd cc
object_past s span false refusal r x e = absurd cc

both_same : (spot : Spot) (parts : LinkParts) (x : List ℕ) → object_at parts spot ≡ Ok x → access parts.recipient parts.table spot ≡ access_of parts
both_same spot parts x e =
    let (both, rest) = passed (spot.grant == parts.grant && spot.binding == parts.binding) _ [] (object_or _) x e in
    let (grant, binding) = split (spot.grant == parts.grant) (spot.binding == parts.binding) both in
    let grant_is : spot.grant ≡ parts.grant = grind (arith, nat_tests, grant) in
    let binding_is : spot.binding ≡ parts.binding = grind (arith, nat_tests, binding) in
    λ i. record { recipient = parts.recipient; share = parts.table.share; schema = parts.table.schema; table = parts.table.table; grant = grant_is i; binding = binding_is i }

spot_case : (history : List Entry) (parts : LinkParts) (view : View) (x : List ℕ) (o : Option Spot) → view_by history (named parts.recipient) ≡ Some view → maps.get view.catalog.tables (parts_of parts.table) ≡ o
    → object_in parts (table_found found_of (log_in view parts.table) part.Place o) ≡ Ok x → IsGiven history (access_of parts)
spot_case history parts view x None is_view is e = absurd cc
spot_case history parts view x (Some spot) is_view is e = record {
  recipient = parts.recipient;
  name = parts.table;
  spot = spot;
  log = log_in view parts.table;
  same = both_same spot parts x e;
  granted = named_granted history parts.recipient view parts.table spot is_view is;
  bound = is_bound history (named parts.recipient) view parts.table spot is_view is;
}

view_case : (history : List Entry) (parts : LinkParts) (now : ℕ) (s span : Option Span) (x : List ℕ) (o : Option View) → view_by history (named parts.recipient) ≡ o
    → of_object s (linked_object (look_of o (want.Table parts.table part.Place)) now (Some parts)) ≡ object x span → IsGiven history (access_of parts)
view_case history parts now s span x None is e = let r = object_past s span (not (nat_le parts.expires now)) _ _ x e in absurd (cc r)
view_case history parts now s span x (Some view) is e =
    spot_case history parts view x (maps.get view.catalog.tables (parts_of parts.table)) is refl (object_past s span (not (nat_le parts.expires now)) _ _ x e)

abbrev linked : List Entry → ℕ → Option Span → Option LinkParts → Answer
linked history now s o = of_object s (linked_object (option_and_then (seen_in (option_and_then (view_asked history) (ask_by o))) (ask_by o)) now o)

-- ---- what is over gives nothing

gives_nothing : (over : List Entry → TableAccess → Type 0) → ((before later : List Entry) (given : TableAccess) → over before given → IsGiven (before ++ later) given → ⊥) → GivesNothing over
gives_nothing over never = record {
  files = λ keys before later now digest text f name q c has read ended p e.
      let t : Turn QueryBody = record { point = before ++ later; digest = digest; format = f; moment = now; query = q } in
      let T : files_chain.TurnAt keys name t p = files_chain.turn_at keys name t p e in
      let P : files_paged.Later keys (access T.view.catalog.recipient name T.spot) now q c T.spot (log_in T.view name) p =
      files_paged.later keys (access T.view.catalog.recipient name T.spot) now q c text T.spot (log_in T.view name) p read has T.page_is in
      never before later c.access ended (given_by (before ++ later) digest T.view name T.spot c.access P.same T.is_view T.is_spot);
  changes = λ keys before later now digest text f name q c has read ended p e.
      let t : Turn ChangesQuery = record { point = before ++ later; digest = digest; format = f; moment = now; query = q } in
      let T : feed_chain.TurnAt keys name t p = feed_chain.turn_at keys name t p e in
      let U : feed_chain.Unrestricted keys name t p T = feed_chain.unrestricted_at keys name t p T in
      let P : feed_paged.LaterFeed keys (access T.view.catalog.recipient name T.spot) now q c T.spot (log_in T.view name) p =
      feed_paged.later keys (access T.view.catalog.recipient name T.spot) now q c text T.spot (log_in T.view name) p U.whole read has U.page_is in
      never before later c.access ended (given_by (before ++ later) digest T.view name T.spot c.access P.same T.is_view T.is_spot);
  links = λ keys before later now by parts read ended x span e.
      never before later (access_of parts) ended
      (view_case (before ++ later) parts now by.span span x (view_by (before ++ later) (named parts.recipient)) refl (sym (ap (linked (before ++ later) now by.span) read) ∙ e));
}

pub revoked_grants_give_nothing : RevokedGrantsGiveNothing
revoked_grants_give_nothing = gives_nothing (λ history a. IsRevoked history a.recipient a.share a.grant) revoked

pub unbound_tables_give_nothing : UnboundTablesGiveNothing
unbound_tables_give_nothing = gives_nothing (λ history a. IsUnbound history (table_of a) a.binding) unbound
