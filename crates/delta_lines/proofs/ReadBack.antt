-- The line of each kind is read as that line.
use Rattle.std.proofs.Common.{◌≡◌, ℕ, ◌≤◌, ◌<◌, ◌^◌, List, [], ◌∷◌, Bool, true, false, Some, Result, Ok, Err, IfOk, refl, sym, ap, ◌∙◌, arith, codes, not, IfSome, IsUtf8}
use Rattle.std.specs.Prelude.{bytes_eq, option_and_then}
use Rattle.std.proofs.lemmas.Bool.{and_parts}
use Rattle.std.proofs.lemmas.Slice.Eq.{bytes_eq-Decides}
use Rattle.serde_json.specs.Data.{Data, Members, string, depth}
use Rattle.serde_json.specs.Find.{as_str, as_object}
use Rattle.serde_json.specs.Read.{max_depth}
use Rattle.json_tree.specs.Fields.{field, non_null, present, whole}
use Rattle.json_tree.specs.Options.{◌>>=◌}
use Rattle.json_tree.specs.Pairs.{IsPairs}
use Rattle.json_tree.specs.Tree.{of_read}
use Rattle.json_tree.proofs.Trees.{text_yes}
use Rattle.json_print.specs.Fields.{members_of, object_of, ascend}
use Rattle.json_print.specs.Values.{count_value, whole_value}
use Rattle.json_print.proofs.RoundTrip.{read-compact_text}
use Rattle.json_print.proofs.Lookups.{field_back, get-members_of, text_read, some_text_read}
use Rattle.json_print.proofs.Plainness.{IsPlainTo, ArePlainTo, plain-object_of, plain-texts_value, plain-pairs_value, plain-whole_value, plain-text_or_none, plain-texts_or_none, plain-pairs_or_none, plain-whole_or_none, plain-count_or_none, some_whole_read}
use Rattle.log_actions.specs.Kept.{KeptMetaData, KeptProtocol}
use Rattle.log_actions.specs.Printing.{format_fields, meta_data_fields, protocol_fields}
use Rattle.log_actions.specs.Reading.{count}
use Rattle.log_actions.specs.declared.actions.Format.{Format}
use Rattle.log_actions.specs.declared.actions.MetaData.{MetaData}
use Rattle.log_actions.specs.declared.actions.Protocol.{Protocol}
use Rattle.share_lines.specs.Printing.{end_fields}
use Rattle.share_lines.specs.Reading.{end_of}
use Rattle.share_lines.specs.declared.kinds.EndLine.{EndLine}
use Rattle.delta_lines.specs.Bodies.{Printable, delta_line_at, of_tree}
use Rattle.delta_lines.specs.Delta.{action_fields, delta_line_data, delta_line_text, file_fields, has_vector, is_printable, kind_fields, kind_name, path_of, single_fields}
use Rattle.delta_lines.specs.Kept.{Kept, KeptAction, KeptFile}
use Rattle.delta_lines.specs.Reading.{delta_file_of, delta_line_in, found, meta_in, protocol_in, single_action, with_path}
use Rattle.delta_lines.specs.declared.kinds.FileAction.{FileAction}
use Rattle.delta_lines.specs.declared.kinds.FileAction.TheVariants as action
use Rattle.delta_lines.specs.declared.kinds.DeltaFile.{DeltaFile}
use Rattle.delta_lines.specs.declared.kinds.DeltaLine.{DeltaLine}
use Rattle.delta_lines.specs.declared.kinds.DeltaLine.TheVariants as line
use Rattle.delta_lines.proofs.Values.{meta_data_back, protocol_back, single_back, some_count_read}

-- ---- the kinds

protocol_line_back : (p : Protocol) → KeptProtocol p → protocol_in (object_of ((codes "deltaProtocol", Some (object_of (protocol_fields p))) ∷ [])) ≡ Some p
unfolding protocol_in
protocol_line_back p k = ap found (protocol_back p k)

meta_line_back : (m : MetaData) → KeptMetaData m → meta_in (object_of ((codes "deltaMetadata", Some (object_of (meta_data_fields m))) ∷ [])) ≡ Some m
unfolding meta_in
meta_line_back m k = ap found (meta_data_back m k)

own_path : (a : FileAction) (url : List ℕ) → with_path (path_of a) (with_path url a) ≡ a
own_path (action.Add f) url = refl
own_path (action.Cdc f) url = refl
own_path (action.Remove f) url = refl

new_path : (a : FileAction) (url : List ℕ) → path_of (with_path url a) ≡ url
new_path (action.Add f) url = refl
new_path (action.Cdc f) url = refl
new_path (action.Remove f) url = refl

file_read : (d single : Data) (a : FileAction) (f : DeltaFile) → present (codes "deltaSingleAction") d ≡ Some single → single_action single ≡ Some a
    → field as_str (codes "id") d ≡ Ok (Some f.id) → field (count (2 ^ 63)) (codes "expirationTimestamp") d ≡ Ok f.expires
    → field whole (codes "timestamp") d ≡ Ok f.time → field (count (2 ^ 63)) (codes "version") d ≡ Ok f.version
    → path_of a ≡ f.url → with_path f.id a ≡ f.action → delta_file_of d ≡ Some f
unfolding delta_file_of
file_read d single a f there read id expires time version url back = rw (there, read, id, expires, time, version, url, back) refl

file_back : (f : DeltaFile) → KeptFile f → path_of f.action ≡ f.id → has_vector f.action ≡ false → delta_file_of (object_of (file_fields f)) ≡ Some f
file_back f k own none =
    let fs = file_fields f in
    file_read (object_of fs) (object_of (single_fields f.url f.action)) (with_path f.url f.action) f
    (ap (option_and_then non_null) (get-members_of (codes "deltaSingleAction") fs refl))
    (single_back f.url f.action k.action none)
    (field_back as_str string (codes "id") fs (Some f.id) refl refl (text_read f.id))
    (field_back (count (2 ^ 63)) count_value (codes "expirationTimestamp") fs f.expires refl refl (some_count_read f.expires k.expires))
    (field_back whole whole_value (codes "timestamp") fs f.time refl refl (some_whole_read f.time k.time))
    (field_back (count (2 ^ 63)) count_value (codes "version") fs f.version refl refl (some_count_read f.version k.version))
    (new_path f.action f.url)
    (ap (λ path. with_path path (with_path f.url f.action)) (sym own) ∙ own_path f.action f.url)

end_read : (d : Data) (ms : Members) (e : EndLine) → as_object d ≡ Some ms → field (count (2 ^ 63)) (codes "minUrlExpirationTimestamp") d ≡ Ok e.min_expires → field as_str (codes "nextPageToken") d ≡ Ok e.token → end_of d ≡ Some e
unfolding end_of
end_read d ms e object expires token = rw (object, expires, token) refl

end_back : (e : EndLine) → IfSome e.min_expires (λ n. n < 2 ^ 63) → end_of (object_of (end_fields e)) ≡ Some e
end_back e k =
    let fs = end_fields e in
    end_read (object_of fs) (members_of fs) e refl
    (field_back (count (2 ^ 63)) count_value (codes "minUrlExpirationTimestamp") fs e.min_expires refl refl (some_count_read e.min_expires k))
    (field_back as_str string (codes "nextPageToken") fs e.token refl refl (some_text_read e.token))

-- ---- the line

unnot : (b : Bool) → not b ≡ true → b ≡ false
unnot true e = sym e
unnot false e = refl

-- what is said of a file that may be printed
pub own : (f : DeltaFile) → is_printable (line.File f) ≡ true → (path_of f.action ≡ f.id) × (has_vector f.action ≡ false)
own f p =
    let parts = and_parts (bytes_eq (path_of f.action) f.id) (not (has_vector f.action)) p in
    ((bytes_eq-Decides (path_of f.action) f.id).0 parts.0, unnot (has_vector f.action) parts.1)

data_back : (l : DeltaLine) → is_printable l ≡ true → Kept l → delta_line_in (delta_line_data l) ≡ Some l
data_back (line.Protocol x) p k = ap (λ o. o >>= λ p. Some (line.Protocol p)) (protocol_line_back x k)
data_back (line.MetaData m) p k = ap (λ o. o >>= λ m. Some (line.MetaData m)) (meta_line_back m k)
data_back (line.File f) p k = ap (λ o. o >>= λ f. Some (line.File f)) (file_back f k (own f p).0 (own f p).1)
data_back (line.End e) p k = ap (λ o. o >>= λ e. Some (line.End e)) (end_back e k)

-- ---- plain data

text_plain : (n : ℕ) (s : List ℕ) → IsPlainTo n (string s)
text_plain n s = (tt, omega arith)

format_plain : (f : Format) → IsPairs f.options → IsPlainTo 4 (object_of (format_fields f))
format_plain f h = plain-object_of 3 (format_fields f) refl (plain-pairs_value 2 f.options h, (text_plain 3 f.provider, tt))

action_plain : (url : List ℕ) (a : FileAction) → KeptAction a → ArePlainTo 3 (action_fields url a)
action_plain url (action.Add f) k = (
  (tt, omega arith),
  (
    plain-whole_value 3 f.modified k.modified,
    (
      plain-pairs_value 2 f.values k.values,
      (
        text_plain 3 url,
        ((let b : f.size < 2 ^ 63 = k.size in omega arith, omega arith), (plain-text_or_none 3 f.stats, (plain-pairs_or_none 2 f.tags k.tags, tt))),
      ),
    ),
  ),
)
action_plain url (action.Cdc f) k =
    ((tt, omega arith), (plain-pairs_value 2 f.values k.values, (text_plain 3 url, ((let b : f.size < 2 ^ 63 = k.size in omega arith, omega arith), tt))))
action_plain url (action.Remove f) k = (
  (tt, omega arith),
  (
    plain-whole_or_none 3 f.deleted k.deleted,
    (plain-pairs_or_none 2 f.values k.values, (text_plain 3 url, (plain-count_or_none 3 (2 ^ 63) f.size (omega arith) k.size, tt))),
  ),
)

action_ascends : (url : List ℕ) (a : FileAction) → ascend (action_fields url a) ≡ true
action_ascends url (action.Add f) = refl
action_ascends url (action.Cdc f) = refl
action_ascends url (action.Remove f) = refl

single_plain : (url : List ℕ) (a : FileAction) → KeptAction a → IsPlainTo 5 (object_of (single_fields url a))
single_plain url a k = plain-object_of 4 (single_fields url a) refl (plain-object_of 3 (action_fields url a) (action_ascends url a) (action_plain url a k), tt)

protocol_plain : (p : Protocol) → KeptProtocol p → ArePlainTo 4 (protocol_fields p)
protocol_plain p k = (
  (let b : p.min_reader < 2 ^ 31 = k.reader in omega arith, omega arith),
  (
    (let b : p.min_writer < 2 ^ 31 = k.writer in omega arith, omega arith),
    (plain-texts_or_none 3 p.reader_features, (plain-texts_or_none 3 p.writer_features, tt)),
  ),
)

meta_plain : (m : MetaData) → KeptMetaData m → ArePlainTo 4 (meta_data_fields m)
meta_plain m k = (
  plain-pairs_value 3 m.configuration k.configuration,
  (
    plain-whole_or_none 4 m.created k.created,
    (
      plain-text_or_none 4 m.description,
      (
        format_plain m.format k.options,
        (text_plain 4 m.id, (plain-text_or_none 4 m.name, (plain-texts_value 3 m.columns, (text_plain 4 m.schema, tt)))),
      ),
    ),
  ),
)

fields_plain : (l : DeltaLine) → Kept l → ArePlainTo 5 (kind_fields l)
fields_plain (line.Protocol p) k = (plain-object_of 4 (protocol_fields p) refl (protocol_plain p k), tt)
fields_plain (line.MetaData m) k = (plain-object_of 4 (meta_data_fields m) refl (meta_plain m k), tt)
fields_plain (line.File f) k = (
  single_plain f.url f.action k.action,
  (
    plain-count_or_none 5 (2 ^ 63) f.expires (omega arith) k.expires,
    (text_plain 5 f.id, (plain-whole_or_none 5 f.time k.time, (plain-count_or_none 5 (2 ^ 63) f.version (omega arith) k.version, tt))),
  ),
)
fields_plain (line.End e) k = (plain-count_or_none 5 (2 ^ 63) e.min_expires (omega arith) k, (plain-text_or_none 5 e.token, tt))

fields_ascend : (l : DeltaLine) → ascend (kind_fields l) ≡ true
fields_ascend (line.Protocol p) = refl
fields_ascend (line.MetaData m) = refl
fields_ascend (line.File f) = refl
fields_ascend (line.End e) = refl

data_plain : (l : DeltaLine) → Kept l → IsPlainTo 7 (delta_line_data l)
data_plain l k = plain-object_of 6 ((kind_name l, Some (object_of (kind_fields l))) ∷ []) refl (plain-object_of 5 (kind_fields l) (fields_ascend l) (fields_plain l k), tt)

pub line_back : (l : DeltaLine) → is_printable l ≡ true → IsUtf8 (delta_line_text l) → Kept l → delta_line_at (delta_line_text l) ≡ Some l
line_back l p utf8 k =
    let plain = data_plain l k in
    let shallow : depth (delta_line_data l) ≤ max_depth = (let b : depth (delta_line_data l) ≤ 7 = plain.1 in omega arith) in
    ap of_tree (text_yes (delta_line_text l) utf8 ∙ ap of_read (read-compact_text (delta_line_data l) plain.0 shallow)) ∙ data_back l p k

pub is_back : (l : DeltaLine) → Printable l → delta_line_at (delta_line_text l) ≡ Some l
is_back l p = line_back l p.printable p.utf8 p.kept

same_there : {X : Type 0} (x y : X) → Some x ≡ Some y → x ≡ y
same_there x y e = cc

-- no two lines have one text
pub lines_apart : (l other : DeltaLine) → Printable l → Printable other → delta_line_text l ≡ delta_line_text other → l ≡ other
lines_apart l other p q same = same_there l other (sym (is_back l p) ∙ ap delta_line_at same ∙ is_back other q)

-- what follows where this is given follows
pub given : {X E : Type 0} (r : Result X E) (P : Type 0) (A : X → Type 0) → P → IfOk r (λ x. P → A x) → IfOk r A
given (Ok x) P A p follows = follows p
given (Err e) P A p follows = tt
