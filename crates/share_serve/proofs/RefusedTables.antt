-- Why versions, metadata and links are refused.
use Rattle.std.proofs.Common.{◌≡◌, ◌⊎◌, inl, inr, ℕ, ℤ, List, [], ◌∷◌, Bool, true, false, cond, not, ◌&&◌, Option, Some, None, Result, Ok, Err, option_map, option_and_then, refl, sym, ap, ◌∙◌, arith, true≢false}
use Rattle.std.specs.Prelude.{nat_le, nat_lt, ◌==◌}
use Rattle.std.proofs.lemmas.Bool.Decides.{nat_tests}
use Rattle.case_table.specs.declared.refuse.Refusal.TheVariants as refusal
use Rattle.log_actions.specs.Paths.{name_under}
use Rattle.log_replay.specs.State.{State}
use Rattle.log_replay.specs.declared.refusal.ReplayRefusal.{ReplayRefusal}
use Rattle.log_replay.specs.declared.times.Bound.{Bound}
use Rattle.log_replay.specs.declared.times.Bound.TheVariants as bound
use Rattle.log_replay.specs.declared.times.Unresolved.{Unresolved}
use Rattle.log_replay.specs.declared.times.Unresolved.TheVariants as unresolved
use Rattle.share_book.specs.History.{edits}
use Rattle.share_book.specs.Looks.{found_in, log_in, look_of, table_found}
use Rattle.share_book.specs.Parts.{files_of, found_of, is_latest, refused_by, resolved_at, state_at, version_found, with_files}
use Rattle.share_book.specs.Shown.{show_part}
use Rattle.share_book.specs.Views.{Log, log_at, shown, shown_state, view_with}
use Rattle.share_book.specs.declared.entry.Entry.{Entry}
use Rattle.share_book.specs.declared.look.Found.{Found}
use Rattle.share_book.specs.declared.look.Found.TheVariants as found
use Rattle.share_book.specs.declared.look.Part.{Part}
use Rattle.share_book.specs.declared.look.Part.TheVariants as part
use Rattle.share_book.specs.declared.look.PartFound.{PartFound}
use Rattle.share_book.specs.declared.look.PartFound.TheVariants as part_found
use Rattle.share_book.specs.declared.look.TableRefusal.{TableRefusal}
use Rattle.share_book.specs.declared.look.TableRefusal.TheVariants as table_refusal
use Rattle.share_book.specs.declared.look.Want.TheVariants as want
use Rattle.share_book.proofs.Versions.{IsWhole, resolved_kept, state_whole}
use Rattle.share_catalog.specs.Catalogue.{binding_edition, grant_edition, said}
use Rattle.share_catalog.specs.Catalogue as catalogue
use Rattle.share_catalog.specs.Views.{Spot, shared, spot_with}
use Rattle.share_catalog.specs.Views as catalog
use Rattle.share_catalog.specs.declared.credential.Credential.{Credential}
use Rattle.share_catalog.specs.declared.edit.Binding.{Binding}
use Rattle.share_catalog.specs.declared.table_name.TableName.{TableName}
use Rattle.share_catalog.proofs.ViewLemmas.{tables_are_shown}
use Rattle.share_request.specs.declared.asked.Bound.{Bound as At}
use Rattle.share_request.specs.declared.asked.What.{What}
use Rattle.share_request.specs.declared.asked.What.TheVariants as what
use Rattle.signed_link.specs.Parts.{parts_of}
use Rattle.signed_link.specs.declared.parts.LinkParts.{LinkParts}
use Rattle.file_ranges.specs.declared.span.Span.{Span}
use Rattle.share_reply.specs.Answer.{Answer, Page, at_version, object, of, of_object, page, refused}
use Rattle.share_reply.specs.Asking.{asked_at, from_bound, last_bound, want_of}
use Rattle.share_reply.specs.Files.{metadata_page, refused_for, version_in}
use Rattle.share_reply.specs.Links.{object_by, object_in, object_or}
use Rattle.share_reply.specs.Refusing.{Refused, plain, where_all}
use Rattle.share_reply.specs.Replies.{answer_what}
use Rattle.share_reply.specs.declared.keys.ReplyKeys.{ReplyKeys}
use Rattle.share_serve.specs.Entitled.{Asking, Shares, Stands, shared_log}
use Rattle.share_serve.specs.RefusalCauses.{IsRefused, LinkCause, LinksHaveCauses, StateCause, TableCause, VersionCause, VersionsHaveCauses, before_first, unresolved_as}
use Rattle.share_serve.proofs.Asked.{answered_is, shared_is, spot_at, table_is, view_at}
use Rattle.share_serve.proofs.GivenChanges.{same_number, to_link}
use Rattle.share_serve.proofs.GivenTables.{binding_of, grant_of, part_at, shown_of}
use Rattle.share_serve.proofs.Meant.{whole_at}
use Rattle.share_serve.proofs.RefusedNames.{refused_same}

-- ---- a table that is shared, or not

by_grant : (point : List Entry) (r : List ℕ) (name : TableName) (b : Bool) (o : Option Binding) → catalogue.granted (edits point) r name.share ≡ b → catalogue.bound (edits point) name ≡ o → Shares point r name ⊎ (shared (edits point) r name ≡ None)
by_grant point r name true (Some binding) granted is = inl (record { is_granted = granted; binding = binding; is_bound = is })
by_grant point r name true None granted is =
    let edition : ℕ = grant_edition (edits point) r name.share in
    inr (
    ap (λ (b : Bool). option_and_then (λ edition. option_map (spot_with edition) (catalog.binding (edits point) name)) (said b edition)) granted
    ∙ ap (λ (o : Option Binding). option_map (spot_with edition) (option_map (λ (b : Binding). (b, binding_edition (edits point) name)) o)) is
    )
by_grant point r name false o granted is =
    inr (ap (λ (b : Bool). option_and_then (λ edition. option_map (spot_with edition) (catalog.binding (edits point) name)) (said b (grant_edition (edits point) r name.share))) granted)

shares_or : (point : List Entry) (r : List ℕ) (name : TableName) → Shares point r name ⊎ (shared (edits point) r name ≡ None)
shares_or point r name = by_grant point r name (catalogue.granted (edits point) r name.share) (catalogue.bound (edits point) name) refl refl

not_shared : (point : List Entry) (r : List ℕ) (name : TableName) → shared (edits point) r name ≡ None → Shares point r name → ⊥
not_shared point r name none t = apart (spot_at point r name t) (sym none ∙ shared_is point r name t)
  where
    apart : (s : Spot) → None ≡ Some s → ⊥
    apart s e = cc

hidden_is : (point : List Entry) (r : List ℕ) (c : Credential) (name : TableName) (p : Part) → shared (edits point) r name ≡ None → found_in found_of (view_at point r c) (want.Table name p) ≡ found.NoTable
hidden_is point r c name p none = ap (table_found found_of (log_in (view_at point r c) name) p) (tables_are_shown (edits point) r name ∙ none)

-- what asks for a part of a table by a function of what of the table is shared and of the part
abbrev pub Asks : Asking → What → TableName → Part → (Option (List ℕ) → PartFound → Answer) → Type 0
Asks a w name p f = (t : Shares a.point a.recipient name) → answer_what a.keys a.recipient a.now w (found.Table (spot_at a.point a.recipient name t) (part_at a name t p)) ≡ f t.binding.only (part_at a name t p)

pub table_cause : (a : Asking) (w : What) (name : TableName) (p : Part) (f : Option (List ℕ) → PartFound → Answer) (Cause : Log → Binding → Type 0) (x : Refused) → want_of a.keys w ≡ want.Table name p
    → answer_what a.keys a.recipient a.now w found.NoTable ≡ refused (plain refusal.NotFound) → Asks a w name p f → ((log : Log) (binding : Binding) → IsWhole log → f binding.only (shown_of a name binding p log) ≡ refused x → Cause log binding)
    → IsRefused a w x → TableCause a name Cause x
table_cause a w name p f Cause x wants none asks cause e =
    let here : answer_what a.keys a.recipient a.now w (found_in found_of (view_at a.point a.recipient a.credential) (want.Table name p)) ≡ refused x =
    ap (λ z. answer_what a.keys a.recipient a.now w (found_in found_of (view_at a.point a.recipient a.credential) z)) (sym wants) ∙ sym (answered_is a w) ∙ e in
    elim (shares_or a.point a.recipient name) as (λ s. TableCause a name Cause x) [
      | inl t ↦ inr (
        t,
        cause (shared_log a.point a.recipient name t) t.binding (whole_at a.point t.binding.location)
            (sym (asks t) ∙ sym (ap (answer_what a.keys a.recipient a.now w) (table_is a.point a.recipient a.credential name p t)) ∙ here),
      )
      | inr hidden ↦ inl (
        refused_same (plain refusal.NotFound) x (sym none ∙ sym (ap (answer_what a.keys a.recipient a.now w) (hidden_is a.point a.recipient a.credential name p hidden)) ∙ here),
        not_shared a.point a.recipient name hidden,
      )
    ]

-- ---- a version

both_true : (a b : Bool) → (not a && not b) ≡ true → (a ≡ false) × (b ≡ false)
both_true true b e = absurd cc
both_true false true e = absurd cc
both_true false false e = (refl, refl)

not_latest : (b : Bound) → is_latest b ≡ false → b ≡ bound.Latest → ⊥
not_latest b e is = true≢false (sym (ap is_latest is) ∙ e)

pub unresolved_is : (why : Unresolved) → refused_for (refused_by why) ≡ unresolved_as why
unresolved_is unresolved.Unsupported = refl
unresolved_is unresolved.VersionRange = refl
unresolved_is unresolved.TimestampRange = refl

version_apart : (v : ℕ) (x : Refused) (P : Type 0) → at_version v ≡ refused x → P
version_apart v x P e = absurd cc

pub page_apart : (p : Page) (x : Refused) (P : Type 0) → page p ≡ refused x → P
page_apart p x P e = absurd cc

abbrev pub FilesCause : Log → Binding → Bound → Refused → Type 0
FilesCause log binding b x = VersionCause log binding b x ⊎ StateCause log b x

module _ (log : Log) (whole : IsWhole log) (binding : Binding) (grant edition : ℕ) (b : Bound) (x : Refused) where
  abbrev spot : Spot
  spot = spot_with grant (binding, edition)

  unresolved_given : (why : Unresolved) → resolved_at log b ≡ Err why → refused (refused_for (refused_by why)) ≡ refused x → VersionCause log binding b x
  unresolved_given why is e = inr (inl (why, is, refused_same (refused_for (refused_by why)) x e ∙ unresolved_is why))

  too_early : (v : ℕ) → resolved_at log b ≡ Ok v → nat_lt v binding.first ≡ true → refused (before_first binding.first) ≡ refused x → VersionCause log binding b x
  too_early v is lt e = inr (inr (v, is, grind (arith, nat_tests, lt), refused_same (before_first binding.first) x e))

  no_history : (not binding.history && not (is_latest b)) ≡ true → refused (plain refusal.HistoryNotShared) ≡ refused x → VersionCause log binding b x
  no_history is e = let so = both_true binding.history (is_latest b) is in inl (refused_same (plain refusal.HistoryNotShared) x e, so.0, not_latest b so.1)

  by_first : (v : ℕ) (c : Bool) → resolved_at log b ≡ Ok v → nat_lt v binding.first ≡ c
      → of at_version (version_in (show_part binding.only (cond c (part_found.Refused (table_refusal.NotShared binding.first)) (part_found.Version v)))) ≡ refused x → VersionCause log binding b x
  by_first v true is lt e = too_early v is lt e
  by_first v false is lt e = version_apart v x (VersionCause log binding b x) e

  by_version : (r : Result ℕ Unresolved) → resolved_at log b ≡ r → of at_version (version_in (show_part binding.only (version_found spot r))) ≡ refused x → VersionCause log binding b x
  by_version (Ok v) is e = by_first v (nat_lt v binding.first) is refl e
  by_version (Err why) is e = unresolved_given why is e

  by_history : (c : Bool) → (not binding.history && not (is_latest b)) ≡ c
      → of at_version (version_in (show_part binding.only (cond c (part_found.Refused table_refusal.NoHistory) (version_found spot (resolved_at log b))))) ≡ refused x → VersionCause log binding b x
  by_history true is e = no_history is e
  by_history false is e = by_version (resolved_at log b) refl e

  pub head_cause : of at_version (version_in (show_part binding.only (found_of spot log (part.Head b)))) ≡ refused x → VersionCause log binding b x
  head_cause e = by_history (not binding.history && not (is_latest b)) refl e

  -- what is answered of files that are found, or not
  module _ (answer : PartFound → Answer) (told : (why : TableRefusal) → answer (part_found.Refused why) ≡ refused (refused_for why))
      (given : (v : ℕ) (state : State) → answer (part_found.Files v state) ≡ refused x → FilesCause log binding b x) where
    by_state : (v : ℕ) (r : Result State ReplayRefusal) → resolved_at log b ≡ Ok v → state_at log v ≡ r → answer (show_part binding.only (files_of v r)) ≡ refused x → FilesCause log binding b x
    by_state v (Ok state) at is e = given v (shown_state binding.only state) e
    by_state v (Err why) at is e =
        inr (v, why, at, sym (state_whole log whole v (resolved_kept log whole b v at)) ∙ is, refused_same (plain refusal.UnsupportedTable) x (sym (told table_refusal.Unsupported) ∙ e))

    files_first : (v : ℕ) (c : Bool) → resolved_at log b ≡ Ok v → nat_lt v binding.first ≡ c
        → answer (show_part binding.only (with_files log (cond c (part_found.Refused (table_refusal.NotShared binding.first)) (part_found.Version v)))) ≡ refused x → FilesCause log binding b x
    files_first v true is lt e = inl (too_early v is lt (sym (told (table_refusal.NotShared binding.first)) ∙ e))
    files_first v false is lt e = by_state v (state_at log v) is refl e

    files_version : (r : Result ℕ Unresolved) → resolved_at log b ≡ r → answer (show_part binding.only (with_files log (version_found spot r))) ≡ refused x → FilesCause log binding b x
    files_version (Ok v) is e = files_first v (nat_lt v binding.first) is refl e
    files_version (Err why) is e = inl (unresolved_given why is (sym (told (refused_by why)) ∙ e))

    files_history : (c : Bool) → (not binding.history && not (is_latest b)) ≡ c
        → answer (show_part binding.only (with_files log (cond c (part_found.Refused table_refusal.NoHistory) (version_found spot (resolved_at log b))))) ≡ refused x → FilesCause log binding b x
    files_history true is e = inl (no_history is (sym (told table_refusal.NoHistory) ∙ e))
    files_history false is e = files_version (resolved_at log b) refl e

    pub files_cause : answer (show_part binding.only (found_of spot log (part.Files b))) ≡ refused x → FilesCause log binding b x
    files_cause e = files_history (not binding.history && not (is_latest b)) refl e

version_cause : (a : Asking) (name : TableName) (from : Option ℤ) (x : Refused) → IsRefused a (what.Version name from) x → TableCause a name (λ log binding. VersionCause log binding (from_bound from) x) x
version_cause a name from x e =
    table_cause a (what.Version name from) name (part.Head (from_bound from)) (λ only p. of at_version (version_in p)) (λ log binding. VersionCause log binding (from_bound from) x) x refl refl (λ t. refl)
    (λ log binding whole is. head_cause log whole binding (grant_of a name) (binding_of a name) (from_bound from) x is) e

metadata_cause : (a : Asking) (name : TableName) (at : Option At) (x : Refused) → IsRefused a (what.Metadata name at) x → TableCause a name (λ log binding. FilesCause log binding (last_bound (asked_at at)) x) x
metadata_cause a name at x e =
    table_cause a (what.Metadata name at) name (part.Files (last_bound (asked_at at))) (λ only p. of page (metadata_page p)) (λ log binding. FilesCause log binding (last_bound (asked_at at)) x) x refl refl (λ t. refl)
    (λ log binding whole is.
    files_cause log whole binding (grant_of a name) (binding_of a name) (last_bound (asked_at at)) x (λ p. of page (metadata_page p)) (λ why. refl)
    (λ v state so. page_apart _ x (FilesCause log binding (last_bound (asked_at at)) x) so) is) e

pub versions_have_causes : VersionsHaveCauses
versions_have_causes = record { version = version_cause; metadata = metadata_cause }

-- ---- links

object_apart : (name : List ℕ) (span : Option Span) (x : Refused) (P : Type 0) → object name span ≡ refused x → P
object_apart name span x P e = absurd cc

equal_numbers : (n m : ℕ) → (n == m) ≡ true → m ≡ n
equal_numbers n m e = grind (arith, nat_tests, e)

both : (a b : Bool) → (a && b) ≡ true → (a ≡ true) × (b ≡ true)
both true true e = (refl, refl)
both true false e = absurd cc
both false b e = absurd cc

module _ (point : List Entry) (now : ℕ) (span : Option Span) (link : LinkParts) (x : Refused) where
  abbrev grant_now : ℕ
  grant_now = grant_edition (edits point) link.recipient link.table.share

  abbrev binding_now : ℕ
  binding_now = binding_edition (edits point) link.table

  abbrev holds : Bool
  holds = grant_now == link.grant && binding_now == link.binding

  revoked : (Stands point link → ⊥) → refused (plain refusal.LinkRevoked) ≡ refused x → LinkCause point now link x
  revoked falls e = inr (inl (refused_same (plain refusal.LinkRevoked) x e, falls))

  by_object : (s : Stands point link) (o : Option (List ℕ)) → name_under s.shares.binding.location link.path ≡ o → of_object span (object_or o) ≡ refused x → LinkCause point now link x
  by_object s (Some name) is e = object_apart name span x (LinkCause point now link x) e
  by_object s None is e = inr (inr (refused_same (plain refusal.FileGone) x e, (s, is)))

  by_editions : (c : Credential) (t : Shares point link.recipient link.table) (b : Bool) → catalogue.credential (edits point) link.recipient ≡ Some c → holds ≡ b
      → of_object span (where_all ((b, refusal.LinkRevoked) ∷ []) (object_or (name_under t.binding.location link.path))) ≡ refused x → LinkCause point now link x
  by_editions c t true is same e =
      let so = both (grant_now == link.grant) (binding_now == link.binding) same in
      by_object (record { credential = c; is_credential = is; shares = t; grant = equal_numbers grant_now link.grant so.0; binding = equal_numbers binding_now link.binding so.1 }) (name_under t.binding.location link.path) refl e
  by_editions c t false is same e =
      revoked (λ s. true≢false (sym (λ i. same_number grant_now link.grant s.grant i && same_number binding_now link.binding s.binding i) ∙ same)) e

  by_table : (c : Credential) → catalogue.credential (edits point) link.recipient ≡ Some c → of_object span (object_in link (found_in found_of (view_at point link.recipient c) (want.Table link.table part.Place))) ≡ refused x → LinkCause point now link x
  by_table c is e =
      elim (shares_or point link.recipient link.table) as (λ s. LinkCause point now link x) [
        | inl t ↦ by_editions c t holds is refl (sym (ap (λ (f : Found). of_object span (object_in link f)) (table_is point link.recipient c link.table part.Place t)) ∙ e)
        | inr hidden ↦ revoked (λ s. not_shared point link.recipient link.table hidden s.shares) (sym (ap (λ (f : Found). of_object span (object_in link f)) (hidden_is point link.recipient c link.table part.Place hidden)) ∙ e)
      ]

  nobody : (c : Credential) → catalogue.credential (edits point) link.recipient ≡ None → catalogue.credential (edits point) link.recipient ≡ Some c → ⊥
  nobody c none is = apart (sym none ∙ is)
    where
      apart : None ≡ Some c → ⊥
      apart e = cc

  by_recipient : (o : Option Credential) → catalogue.credential (edits point) link.recipient ≡ o
      → of_object span (object_by link (look_of (option_map (view_with (edits point) (shown (log_at point))) (option_map (catalog.view_with (edits point) link.recipient) o)) (want.Table link.table part.Place))) ≡ refused x → LinkCause point now link x
  by_recipient None is e = revoked (λ s. nobody s.credential is s.is_credential) e
  by_recipient (Some c) is e = by_table c is e

  by_end : (b : Bool) → nat_le link.expires now ≡ b
      → of_object span (where_all ((not b, refusal.LinkExpired) ∷ []) (object_by link (look_of (option_map (view_with (edits point) (shown (log_at point))) (option_map (catalog.view_with (edits point) link.recipient) (catalogue.credential (edits point) link.recipient))) (want.Table link.table part.Place)))) ≡ refused x
      → LinkCause point now link x
  by_end true is e = inl (refused_same (plain refusal.LinkExpired) x e, grind (arith, nat_tests, is))
  by_end false is e = by_recipient (catalogue.credential (edits point) link.recipient) refl e

by_parts : (keys : ReplyKeys) (point : List Entry) (now : ℕ) (span : Option Span) (target : List ℕ) (x : Refused) (o : Option LinkParts) → parts_of keys.link target ≡ o → to_link point now span o ≡ refused x
    → ((x ≡ plain refusal.LinkInvalid) × (parts_of keys.link target ≡ None)) ⊎ ((link : LinkParts) × (parts_of keys.link target ≡ Some link) × LinkCause point now link x)
by_parts keys point now span target x None is e = inl (refused_same (plain refusal.LinkInvalid) x e, is)
by_parts keys point now span target x (Some link) is e = inr (link, is, by_end point now span link x (nat_le link.expires now) refl e)

pub links_have_causes : LinksHaveCauses
links_have_causes keys point now r x e = by_parts keys point now r.span r.target x (parts_of keys.link r.target) refl e
