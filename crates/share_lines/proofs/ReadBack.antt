-- The line of each kind is read as that line.
use Rattle.std.proofs.Common.{◌≡◌, ℕ, ℤ, ◌<◌, ◌≤◌, ◌^◌, List, [], ◌∷◌, true, Option, Some, None, Ok, option_map, refl, sym, ap, ap₂, ◌∙◌, arith, true≢false, codes, is_some, IfSome, IsUtf8, lt-ltb}
use Rattle.std.specs.Prelude.{◌&&◌, is_none}
use Rattle.std.proofs.lemmas.Bool.{and_parts}
use Rattle.serde_json.specs.Data.{Data, Members, string, depth}
use Rattle.serde_json.specs.Find.{as_str, as_object}
use Rattle.serde_json.specs.Read.{max_depth}
use Rattle.json_tree.specs.Fields.{field, whole, texts, pairs}
use Rattle.json_tree.specs.Pairs.{IsPairs}
use Rattle.json_tree.specs.Tree.{of_read}
use Rattle.json_tree.proofs.Trees.{text_yes}
use Rattle.json_print.specs.Fields.{members_of, object_of, ascend}
use Rattle.json_print.specs.Values.{count_value, whole_value, texts_value, pairs_value, unless_empty}
use Rattle.json_print.proofs.RoundTrip.{read-compact_text}
use Rattle.json_print.proofs.Lookups.{ReadsBack, OnSomeReadsBack, value_in, field_back, text_read, texts_read, pairs_read, some_text_read}
use Rattle.json_print.proofs.Plainness.{IsPlainTo, OnSomePlainTo, ArePlainTo, plain-object_of, plain-texts_value, plain-pairs_value, plain-whole_or_none, plain-text_or_none, plain-count_or_none, some_whole_read}
use Rattle.log_actions.specs.Reading.{count}
use Rattle.share_lines.specs.Bodies.{of_tree, line_at}
use Rattle.share_lines.specs.Kept.{KeptFile, Kept}
use Rattle.share_lines.specs.Printing.{parquet_fields, meta_fields, file_fields, end_fields, kind_name, kind_fields, line_data, line_text, is_printable}
use Rattle.json_tree.specs.Options.{◌>>=◌}
use Rattle.share_lines.specs.Reading.{optional, default_to, meta_of, file_with, file_of, change_with, add_of, end_of, line_in}
use Rattle.share_lines.specs.declared.kinds.MetaLine.{MetaLine}
use Rattle.share_lines.specs.declared.kinds.FileLine.{FileLine}
use Rattle.share_lines.specs.declared.kinds.EndLine.{EndLine}
use Rattle.share_lines.specs.declared.kinds.Line.{Line}
use Rattle.share_lines.specs.declared.kinds.Line.TheVariants as line

-- ---- counts

count_back : (limit n : ℕ) → limit ≤ 2 ^ 63 → n < limit → count limit (count_value n) ≡ Some n
count_back limit n small h =
    let long : n < 2 ^ 63 = omega arith in
    rw (lt-ltb n (2 ^ 63) long, lt-ltb n limit h)

count_read : (n : ℕ) → n < 2 ^ 63 → ReadsBack (count (2 ^ 63)) count_value n
count_read n small = (refl, count_back (2 ^ 63) n (omega arith) small)

some_count_read : (o : Option ℕ) → IfSome o (λ n. n < 2 ^ 63) → OnSomeReadsBack (count (2 ^ 63)) count_value o
some_count_read None small = tt
some_count_read (Some n) small = count_read n small

-- ---- options

none_is : {X : Type 0} (o : Option X) → is_none o ≡ true → o ≡ None
none_is None e = refl
none_is (Some x) e = absurd (true≢false (sym e))

-- ---- the kinds

meta_read : (d : Data) (m : MetaLine) → field as_str (codes "id") d ≡ Ok (Some m.id) → field as_str (codes "name") d ≡ Ok m.name → field as_str (codes "description") d ≡ Ok m.description
    → field as_str (codes "schemaString") d ≡ Ok (Some m.schema) → field texts (codes "partitionColumns") d ≡ Ok (Some m.columns) → default_to [] (field pairs (codes "configuration") d) ≡ Some m.configuration
    → meta_of d ≡ Some m
unfolding meta_of
meta_read d m id name description schema columns configuration = rw (id, name, description, schema, columns, configuration) refl

configuration_back : (m : MetaLine) (c : List (List ℕ × Option (List ℕ))) → m.configuration ≡ c → default_to [] (field pairs (codes "configuration") (object_of (meta_fields m))) ≡ Some c
configuration_back m c e =
    elim c as (λ c. m.configuration ≡ c → default_to [] (field pairs (codes "configuration") (object_of (meta_fields m))) ≡ Some c) [
      | [] ↦ λ e. ap (default_to []) (back None (ap (λ x. option_map pairs_value (unless_empty x)) e) tt)
      | p ∷ ps ↦ λ e. ap (default_to []) (back (Some (p ∷ ps)) (ap (λ x. option_map pairs_value (unless_empty x)) e) (pairs_read (p ∷ ps)))
    ] e
  where
    back : (o : Option (List (List ℕ × Option (List ℕ)))) → value_in (codes "configuration") (meta_fields m) ≡ option_map pairs_value o → OnSomeReadsBack pairs pairs_value o
        → field pairs (codes "configuration") (object_of (meta_fields m)) ≡ Ok o
    back o is reads = field_back pairs pairs_value (codes "configuration") (meta_fields m) o refl is reads

meta_back : (m : MetaLine) → meta_of (object_of (meta_fields m)) ≡ Some m
meta_back m =
    let fs = meta_fields m in
    meta_read (object_of fs) m
    (field_back as_str string (codes "id") fs (Some m.id) refl refl (text_read m.id))
    (field_back as_str string (codes "name") fs m.name refl refl (some_text_read m.name))
    (field_back as_str string (codes "description") fs m.description refl refl (some_text_read m.description))
    (field_back as_str string (codes "schemaString") fs (Some m.schema) refl refl (text_read m.schema))
    (field_back texts texts_value (codes "partitionColumns") fs (Some m.columns) refl refl (texts_read m.columns))
    (configuration_back m m.configuration refl)

file_read : (d : Data) (f : FileLine) → field as_str (codes "url") d ≡ Ok (Some f.url) → field as_str (codes "id") d ≡ Ok (Some f.id) → field pairs (codes "partitionValues") d ≡ Ok (Some f.values)
    → field (count (2 ^ 63)) (codes "size") d ≡ Ok (Some f.size) → field (count (2 ^ 63)) (codes "expirationTimestamp") d ≡ Ok f.expires
    → file_with d f.stats f.time f.version ≡ Some f
unfolding file_with
file_read d f url id values size expires = rw (url, id, values, size, expires) refl

with_back : (f : FileLine) → KeptFile f → file_with (object_of (file_fields f)) f.stats f.time f.version ≡ Some f
with_back f k =
    let fs = file_fields f in
    file_read (object_of fs) f
    (field_back as_str string (codes "url") fs (Some f.url) refl refl (text_read f.url))
    (field_back as_str string (codes "id") fs (Some f.id) refl refl (text_read f.id))
    (field_back pairs pairs_value (codes "partitionValues") fs (Some f.values) refl refl (pairs_read f.values))
    (field_back (count (2 ^ 63)) count_value (codes "size") fs (Some f.size) refl refl (count_read f.size k.size))
    (field_back (count (2 ^ 63)) count_value (codes "expirationTimestamp") fs f.expires refl refl (some_count_read f.expires k.expires))

stats_back : (f : FileLine) → optional (field as_str (codes "stats") (object_of (file_fields f))) ≡ Some f.stats
stats_back f = ap optional (field_back as_str string (codes "stats") (file_fields f) f.stats refl refl (some_text_read f.stats))

file_back : (f : FileLine) → KeptFile f → (is_none f.time && is_none f.version) ≡ true → file_of (object_of (file_fields f)) ≡ Some f
unfolding file_of
file_back f k none =
    let parts = and_parts (is_none f.time) (is_none f.version) none in
    let d = object_of (file_fields f) in
    ap (λ o. o >>= λ stats. file_with d stats None None) (stats_back f)
    ∙ ap₂ (λ t v. file_with d f.stats t v) (sym (none_is f.time parts.0)) (sym (none_is f.version parts.1))
    ∙ with_back f k

change_some : (d : Data) (stats : Option (List ℕ)) (time : Option ℤ) (version : Option ℕ) (o : Option FileLine) → field whole (codes "timestamp") d ≡ Ok time → field (count (2 ^ 63)) (codes "version") d ≡ Ok version
    → is_some time ≡ true → is_some version ≡ true → file_with d stats time version ≡ o → change_with d stats ≡ o
unfolding change_with
change_some d stats None version o t v some more is = absurd (true≢false (sym some))
change_some d stats (Some time) None o t v some more is = absurd (true≢false (sym more))
change_some d stats (Some time) (Some version) o t v some more is = rw (t, v) is

change_back : (f : FileLine) → KeptFile f → (is_some f.time && is_some f.version) ≡ true → change_with (object_of (file_fields f)) f.stats ≡ Some f
change_back f k some =
    let fs = file_fields f in
    let parts = and_parts (is_some f.time) (is_some f.version) some in
    change_some (object_of fs) f.stats f.time f.version (Some f)
    (field_back whole whole_value (codes "timestamp") fs f.time refl refl (some_whole_read f.time k.time))
    (field_back (count (2 ^ 63)) count_value (codes "version") fs f.version refl refl (some_count_read f.version k.version))
    parts.0 parts.1 (with_back f k)

add_back : (f : FileLine) → KeptFile f → (is_some f.time && is_some f.version) ≡ true → add_of (object_of (file_fields f)) ≡ Some f
unfolding add_of
add_back f k some = ap (λ o. o >>= λ stats. change_with (object_of (file_fields f)) stats) (stats_back f) ∙ change_back f k some

bare_back : (f : FileLine) → KeptFile f → ((is_some f.time && is_some f.version) && is_none f.stats) ≡ true → change_with (object_of (file_fields f)) None ≡ Some f
bare_back f k some =
    let parts = and_parts (is_some f.time && is_some f.version) (is_none f.stats) some in
    ap (change_with (object_of (file_fields f))) (sym (none_is f.stats parts.1)) ∙ change_back f k parts.0

end_read : (d : Data) (ms : Members) (e : EndLine) → as_object d ≡ Some ms → field (count (2 ^ 63)) (codes "minUrlExpirationTimestamp") d ≡ Ok e.min_expires → field as_str (codes "nextPageToken") d ≡ Ok e.token → end_of d ≡ Some e
unfolding end_of
end_read d ms e object expires token = rw (object, expires, token) refl

end_back : (e : EndLine) → IfSome e.min_expires (λ n. n < 2 ^ 63) → end_of (object_of (end_fields e)) ≡ Some e
end_back e k =
    let fs = end_fields e in
    end_read (object_of fs) (members_of fs) e refl
    (field_back (count (2 ^ 63)) count_value (codes "minUrlExpirationTimestamp") fs e.min_expires refl refl (some_count_read e.min_expires k))
    (field_back as_str string (codes "nextPageToken") fs e.token refl refl (some_text_read e.token))

-- ---- the line

data_back : (l : Line) → is_printable l ≡ true → Kept l → line_in (line_data l) ≡ Some l
data_back line.Protocol p k = refl
data_back (line.MetaData m) p k = ap (λ o. o >>= λ m. Some (line.MetaData m)) (meta_back m)
data_back (line.File f) p k = ap (λ o. o >>= λ f. Some (line.File f)) (file_back f k p)
data_back (line.Add f) p k = ap (λ o. o >>= λ f. Some (line.Add f)) (add_back f k p)
data_back (line.Cdf f) p k = ap (λ o. o >>= λ f. Some (line.Cdf f)) (bare_back f k p)
data_back (line.Remove f) p k = ap (λ o. o >>= λ f. Some (line.Remove f)) (bare_back f k p)
data_back (line.End e) p k = ap (λ o. o >>= λ e. Some (line.End e)) (end_back e k)

-- ---- plain data

text_plain : (s : List ℕ) → IsPlainTo 3 (string s)
text_plain s = (tt, omega arith)

nonempty_plain : (ps : List (List ℕ × Option (List ℕ))) → IsPairs ps → OnSomePlainTo 3 (option_map pairs_value (unless_empty ps))
nonempty_plain [] h = tt
nonempty_plain (p ∷ ps) h = plain-pairs_value 2 (p ∷ ps) h

parquet_plain : IsPlainTo 3 (object_of parquet_fields)
parquet_plain = plain-object_of 2 parquet_fields refl ((tt, omega arith), tt)

file_plain : (f : FileLine) → KeptFile f → ArePlainTo 3 (file_fields f)
file_plain f k = (
  plain-count_or_none 3 (2 ^ 63) f.expires (omega arith) k.expires,
  (
    text_plain f.id,
    (
      plain-pairs_value 2 f.values k.values,
      (
        (let b : f.size < 2 ^ 63 = k.size in omega arith, omega arith),
        (
          plain-text_or_none 3 f.stats,
          (plain-whole_or_none 3 f.time k.time, (text_plain f.url, (plain-count_or_none 3 (2 ^ 63) f.version (omega arith) k.version, tt))),
        ),
      ),
    ),
  ),
)

fields_plain : (l : Line) → Kept l → ArePlainTo 3 (kind_fields l)
fields_plain line.Protocol k = ((omega arith, omega arith), tt)
fields_plain (line.MetaData m) k = (
  nonempty_plain m.configuration k,
  (
    plain-text_or_none 3 m.description,
    (parquet_plain, (text_plain m.id, (plain-text_or_none 3 m.name, (plain-texts_value 2 m.columns, (text_plain m.schema, tt))))),
  ),
)
fields_plain (line.File f) k = file_plain f k
fields_plain (line.Add f) k = file_plain f k
fields_plain (line.Cdf f) k = file_plain f k
fields_plain (line.Remove f) k = file_plain f k
fields_plain (line.End e) k = (plain-count_or_none 3 (2 ^ 63) e.min_expires (omega arith) k, (plain-text_or_none 3 e.token, tt))

fields_ascend : (l : Line) → ascend (kind_fields l) ≡ true
fields_ascend line.Protocol = refl
fields_ascend (line.MetaData m) = refl
fields_ascend (line.File f) = refl
fields_ascend (line.Add f) = refl
fields_ascend (line.Cdf f) = refl
fields_ascend (line.Remove f) = refl
fields_ascend (line.End e) = refl

data_plain : (l : Line) → Kept l → IsPlainTo 5 (line_data l)
data_plain l k = plain-object_of 4 ((kind_name l, Some (object_of (kind_fields l))) ∷ []) refl (plain-object_of 3 (kind_fields l) (fields_ascend l) (fields_plain l k), tt)

pub line_back : (l : Line) → is_printable l ≡ true → IsUtf8 (line_text l) → Kept l → line_at (line_text l) ≡ Some l
line_back l p utf8 k =
    let plain = data_plain l k in
    let shallow : depth (line_data l) ≤ max_depth = (let b : depth (line_data l) ≤ 5 = plain.1 in omega arith) in
    ap of_tree (text_yes (line_text l) utf8 ∙ ap of_read (read-compact_text (line_data l) plain.0 shallow)) ∙ data_back l p k
