-- What is spelt is read again.
use Rattle.std.proofs.Common.{◌≡◌, ℕ, ◌^◌, ◌<◌, List, ◌++◌, length, drop, Some, refl, sym}
use Rattle.std.specs.Prelude.{codes}
use Rattle.std.specs.Fmt.{decimal}
use Rattle.std.specs.List.{flat_map}
use Rattle.page_token.specs.declared.cursor.ListKind.{ListKind}
use Rattle.page_token.specs.declared.cursor.ListKind.TheVariants as kind
use Rattle.page_token.specs.declared.cursor.ListCursor.{ListCursor}
use Rattle.page_token.specs.declared.cursor.TableAccess.{TableAccess}
use Rattle.page_token.specs.declared.cursor.FilesCursor.{FilesCursor}
use Rattle.page_token.specs.declared.cursor.FeedCursor.{FeedCursor}
use Rattle.page_token.specs.declared.cursor.Cursor.{Cursor}
use Rattle.page_token.specs.declared.cursor.Cursor.TheVariants as cursor
use Rattle.page_token.specs.Payload.{field, kind_field, asked_field, hint_field, list_fields, files_fields, feed_fields, payload, IsAccessInRange, IsAccessValue, IsFilesInRange, IsFeedInRange, IsInRange, IsListValue, IsFilesValue, IsFeedValue, IsValue, IsPayload}
use Rattle.page_token.specs.Reading.{field_in, number_in, list_in, access_in, files_in, feed_in, by_first, cursor_in}
use Rattle.page_token.proofs.Fields.{field_again, rest_short, number_again}
use Rattle.page_token.proofs.AskedAgain.{asked_of_again, text_again, hint_again}

list_steps : (c : ListCursor) (x0 x1 x2 x3 x4 : List ℕ) → IsListValue c
    → field_in x0 ≡ Some (c.recipient, x1) → field_in x1 ≡ Some (c.share, x2) → field_in x2 ≡ Some (c.schema, x3) → field_in x3 ≡ Some (c.after, x4)
    → list_in c.kind x0 ≡ Some c
unfolding list_in
list_steps c x0 x1 x2 x3 x4 value e0 e1 e2 e3 =
    rw (e0, e1, e2, e3, text_again c.recipient value.0, text_again c.share value.1, text_again c.schema value.2, text_again c.after value.3) refl

access_steps : (a : TableAccess) (x0 x1 x2 x3 x4 x5 x6 : List ℕ) → IsAccessValue a
    → field_in x0 ≡ Some (a.recipient, x1) → field_in x1 ≡ Some (a.share, x2) → field_in x2 ≡ Some (a.schema, x3) → field_in x3 ≡ Some (a.table, x4)
    → number_in x4 ≡ Some (a.grant, x5) → number_in x5 ≡ Some (a.binding, x6)
    → access_in x0 ≡ Some (a, x6)
unfolding access_in
access_steps a x0 x1 x2 x3 x4 x5 x6 value e0 e1 e2 e3 e4 e5 =
    rw (e0, e1, e2, e3, e4, e5)
    (rw (text_again a.recipient value.0, text_again a.share value.1, text_again a.schema value.2, text_again a.table value.3) refl)

files_steps : (c : FilesCursor) (x0 x1 x2 x3 x4 x5 : List ℕ) → IsFilesValue c → IsFilesInRange c
    → access_in x0 ≡ Some (c.access, x1) → field_in x1 ≡ Some (asked_field c.asked, x2) → number_in x2 ≡ Some (c.version, x3)
    → field_in x3 ≡ Some (hint_field c.hint, x4) → number_in x4 ≡ Some (c.place, x5)
    → files_in x0 ≡ Some c
unfolding files_in
files_steps c x0 x1 x2 x3 x4 x5 value range e0 e1 e2 e3 e4 =
    rw (e0, e1, e2, e3, e4) (rw (hint_again c.hint value.2, asked_of_again c.asked range.1 value.1) refl)

feed_steps : (c : FeedCursor) (x0 x1 x2 x3 x4 x5 x6 : List ℕ) → IsFeedValue c → IsFeedInRange c
    → access_in x0 ≡ Some (c.access, x1) → field_in x1 ≡ Some (asked_field c.asked_from, x2) → field_in x2 ≡ Some (asked_field c.asked_to, x3)
    → number_in x3 ≡ Some (c.from, x4) → number_in x4 ≡ Some (c.to, x5) → number_in x5 ≡ Some (c.place, x6)
    → feed_in x0 ≡ Some c
unfolding feed_in
feed_steps c x0 x1 x2 x3 x4 x5 x6 value range e0 e1 e2 e3 e4 e5 =
    rw (e0, e1, e2, e3, e4, e5) (rw (asked_of_again c.asked_from range.1 value.1, asked_of_again c.asked_to range.2 value.2) refl)

-- what stands behind the first field
abbrev list_rest : ListCursor → List ℕ
list_rest c = flat_map field (drop 1 (list_fields c))

abbrev files_rest : FilesCursor → List ℕ
files_rest c = flat_map field (drop 1 (files_fields c))

abbrev feed_rest : FeedCursor → List ℕ
feed_rest c = flat_map field (drop 1 (feed_fields c))

-- who asked for which table, in front of a rest
abbrev access_front : TableAccess → List ℕ → List ℕ
access_front a rest = field a.recipient ++ (field a.share ++ (field a.schema ++ (field a.table ++ (field (decimal a.grant) ++ (field (decimal a.binding) ++ rest)))))

list_again : (c : ListCursor) → IsListValue c → length (list_rest c) < 2 ^ 64 → list_in c.kind (list_rest c) ≡ Some c
list_again c value h0 =
    let h1 = rest_short c.recipient _ h0 in
    let h2 = rest_short c.share _ h1 in
    let h3 = rest_short c.schema _ h2 in
    list_steps c _ _ _ _ _ value (field_again c.recipient _ h0) (field_again c.share _ h1) (field_again c.schema _ h2) (field_again c.after _ h3)

access_again : (a : TableAccess) (rest : List ℕ) → IsAccessValue a → IsAccessInRange a → length (access_front a rest) < 2 ^ 64
    → (access_in (access_front a rest) ≡ Some (a, rest)) × (length rest < 2 ^ 64)
access_again a rest value range h0 =
    let h1 = rest_short a.recipient _ h0 in
    let h2 = rest_short a.share _ h1 in
    let h3 = rest_short a.schema _ h2 in
    let h4 = rest_short a.table _ h3 in
    let h5 = rest_short (decimal a.grant) _ h4 in (
      access_steps a _ _ _ _ _ _ _ value
          (field_again a.recipient _ h0) (field_again a.share _ h1) (field_again a.schema _ h2) (field_again a.table _ h3)
          (number_again a.grant _ range.0 h4) (number_again a.binding _ range.1 h5),
      rest_short (decimal a.binding) _ h5,
    )

files_again : (c : FilesCursor) → IsFilesValue c → IsFilesInRange c → length (files_rest c) < 2 ^ 64 → files_in (files_rest c) ≡ Some c
files_again c value range h0 =
    let access = access_again c.access (flat_map field (drop 7 (files_fields c))) value.0 range.0 h0 in
    let h2 = rest_short (asked_field c.asked) _ access.1 in
    let h3 = rest_short (decimal c.version) _ h2 in
    let h4 = rest_short (hint_field c.hint) _ h3 in
    files_steps c _ _ _ _ _ _ value range access.0 (field_again (asked_field c.asked) _ access.1)
    (number_again c.version _ range.2 h2) (field_again (hint_field c.hint) _ h3) (number_again c.place _ range.3 h4)

feed_again : (c : FeedCursor) → IsFeedValue c → IsFeedInRange c → length (feed_rest c) < 2 ^ 64 → feed_in (feed_rest c) ≡ Some c
feed_again c value range h0 =
    let access = access_again c.access (flat_map field (drop 7 (feed_fields c))) value.0 range.0 h0 in
    let h2 = rest_short (asked_field c.asked_from) _ access.1 in
    let h3 = rest_short (asked_field c.asked_to) _ h2 in
    let h4 = rest_short (decimal c.from) _ h3 in
    let h5 = rest_short (decimal c.to) _ h4 in
    feed_steps c _ _ _ _ _ _ _ value range access.0 (field_again (asked_field c.asked_from) _ access.1) (field_again (asked_field c.asked_to) _ h2)
    (number_again c.from _ range.3 h3) (number_again c.to _ range.4 h4) (number_again c.place _ range.5 h5)

-- by the first field
first_then : (payload first rest : List ℕ) (c : Cursor) → field_in payload ≡ Some (first, rest) → by_first first rest ≡ Some c → cursor_in payload ≡ Some c
unfolding cursor_in
first_then payload first rest c e h = rw e h

by_kind : (k : ListKind) (rest : List ℕ) (c : ListCursor) → list_in k rest ≡ Some c → by_first (kind_field k) rest ≡ Some (cursor.List c)
unfolding by_first
by_kind kind.Shares rest c h = rw h refl
by_kind kind.Schemas rest c h = rw h refl
by_kind kind.Tables rest c h = rw h refl
by_kind kind.AllTables rest c h = rw h refl

by_q : (rest : List ℕ) (c : FilesCursor) → files_in rest ≡ Some c → by_first (codes "q") rest ≡ Some (cursor.Files c)
unfolding by_first
by_q rest c h = rw h refl

by_f : (rest : List ℕ) (c : FeedCursor) → feed_in rest ≡ Some c → by_first (codes "f") rest ≡ Some (cursor.Feed c)
unfolding by_first
by_f rest c h = rw h refl

pub payload_again : (c : Cursor) → IsValue c → IsInRange c → length (payload c) < 2 ^ 64 → cursor_in (payload c) ≡ Some c
payload_again (cursor.List c) value range short =
    first_then _ _ _ _ (field_again (kind_field c.kind) _ short) (by_kind c.kind _ c (list_again c value (rest_short (kind_field c.kind) _ short)))
payload_again (cursor.Files c) value range short =
    first_then _ _ _ _ (field_again (codes "q") _ short) (by_q _ c (files_again c value range (rest_short (codes "q") _ short)))
payload_again (cursor.Feed c) value range short =
    first_then _ _ _ _ (field_again (codes "f") _ short) (by_f _ c (feed_again c value range (rest_short (codes "f") _ short)))

pub spelt_again : (bytes : List ℕ) (c : Cursor) → length bytes < 2 ^ 64 → IsPayload bytes c → cursor_in bytes ≡ Some c
spelt_again bytes c short h =
    let small : length (payload c) < 2 ^ 64 = rw (sym h.spelt) short in
    rw h.spelt (payload_again c h.value h.in_range small)
