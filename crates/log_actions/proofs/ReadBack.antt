-- The line of an action is read as the action.
use Rattle.std.proofs.Common.{◌≡◌, ℕ, ◌<◌, ◌≤◌, ◌^◌, List, [], ◌∷◌, false, Option, Some, None, Ok, option_map, option_and_then, refl, sym, ap, ◌∙◌, arith, true, codes, is_some, IfSome, IsUtf8, lt-ltb}
use Rattle.serde_json.specs.Data.{Data, boolean, string, depth}
use Rattle.serde_json.specs.Find.{as_bool, as_str, as_object}
use Rattle.serde_json.specs.Read.{read, max_depth}
use Rattle.json_tree.specs.Fields.{field, present, whole, texts, pairs}
use Rattle.json_tree.specs.Pairs.{IsPairs}
use Rattle.json_tree.specs.Tree.{of_read}
use Rattle.json_tree.proofs.Trees.{text_yes}
use Rattle.json_print.specs.Fields.{object_of, ascend}
use Rattle.json_print.specs.Values.{count_value, whole_value, texts_value, pairs_value}
use Rattle.json_print.specs.Plain.{IsPlain}
use Rattle.json_print.proofs.RoundTrip.{read-compact_text}
use Rattle.json_print.proofs.Lookups.{ReadsBack, OnSomeReadsBack, field_back, absent_back, text_read, texts_read, pairs_read, some_texts_read, some_pairs_read, some_text_read}
use Rattle.json_print.proofs.Plainness.{IsPlainTo, ArePlainTo, plain-object_of, plain-texts_value, plain-pairs_value, plain-whole_value, plain-text_or_none, plain-texts_or_none, plain-pairs_or_none, plain-whole_or_none, plain-count_or_none, whole_read, some_whole_read}
use Rattle.json_tree.specs.Results.{◌>>=◌}
use Rattle.log_actions.specs.Ranges.{times_end}
use Rattle.log_actions.specs.Reading.{as_action, count, format_in, protocol_of, meta_data_of, add_of, remove_of, cdc_of, txn_of, commit_info_of}
use Rattle.log_actions.specs.Lines.{action_in, after_tree, action_at}
use Rattle.log_actions.specs.Kept.{KeptProtocol, KeptMetaData, KeptAdd, KeptRemove, KeptCdc, KeptTxn, KeptCommitInfo, Kept}
use Rattle.log_actions.specs.Printing.{protocol_fields, format_fields, meta_data_fields, add_fields, remove_fields, cdc_fields, txn_fields, commit_info_fields, action_name, action_fields, action_data, line_text, has_vector}
use Rattle.log_actions.specs.declared.actions.Action.{Action}
use Rattle.log_actions.specs.declared.actions.Action.TheVariants as action
use Rattle.log_actions.specs.declared.actions.AddFile.{AddFile}
use Rattle.log_actions.specs.declared.actions.RemoveFile.{RemoveFile}
use Rattle.log_actions.specs.declared.actions.Protocol.{Protocol}
use Rattle.log_actions.specs.declared.actions.MetaData.{MetaData}
use Rattle.log_actions.specs.declared.actions.Format.{Format}
use Rattle.log_actions.specs.declared.actions.CdcFile.{CdcFile}
use Rattle.log_actions.specs.declared.actions.Txn.{Txn}
use Rattle.log_actions.specs.declared.actions.CommitInfo.{CommitInfo}

-- ---- counts

count_back : (limit n : ℕ) → limit ≤ 2 ^ 63 → n < limit → count limit (count_value n) ≡ Some n
count_back limit n small h =
    let long : n < 2 ^ 63 = omega arith in
    rw (lt-ltb n (2 ^ 63) long, lt-ltb n limit h)

count_read : (limit n : ℕ) → limit ≤ 2 ^ 63 → n < limit → ReadsBack (count limit) count_value n
count_read limit n small h = (refl, count_back limit n small h)

some_count_read : (limit : ℕ) (o : Option ℕ) → limit ≤ 2 ^ 63 → IfSome o (λ n. n < limit) → OnSomeReadsBack (count limit) count_value o
some_count_read limit None small h = tt
some_count_read limit (Some n) small h = count_read limit n small h

-- ---- what is read of an object, field by field

protocol_read : (d : Data) (p : Protocol) → as_action d ≡ Ok tt
    → field (count (2 ^ 31)) (codes "minReaderVersion") d ≡ Ok (Some p.min_reader) → field (count (2 ^ 31)) (codes "minWriterVersion") d ≡ Ok (Some p.min_writer)
    → field texts (codes "readerFeatures") d ≡ Ok p.reader_features → field texts (codes "writerFeatures") d ≡ Ok p.writer_features
    → protocol_of d ≡ Ok p
unfolding protocol_of
protocol_read d p object reader writer reader_features writer_features = rw (object, reader, writer, reader_features, writer_features)

protocol_back : (p : Protocol) → KeptProtocol p → protocol_of (object_of (protocol_fields p)) ≡ Ok p
protocol_back p k =
    let fs = protocol_fields p in
    protocol_read (object_of fs) p refl
    (field_back (count (2 ^ 31)) count_value (codes "minReaderVersion") fs (Some p.min_reader) refl refl (count_read (2 ^ 31) p.min_reader (omega arith) k.reader))
    (field_back (count (2 ^ 31)) count_value (codes "minWriterVersion") fs (Some p.min_writer) refl refl (count_read (2 ^ 31) p.min_writer (omega arith) k.writer))
    (field_back texts texts_value (codes "readerFeatures") fs p.reader_features refl refl (some_texts_read p.reader_features))
    (field_back texts texts_value (codes "writerFeatures") fs p.writer_features refl refl (some_texts_read p.writer_features))

format_read : (d : Data) (f : Format) → is_some (as_object d) ≡ true
    → field as_str (codes "provider") d ≡ Ok (Some f.provider) → field pairs (codes "options") d ≡ Ok (Some f.options)
    → format_in d ≡ Some f
unfolding format_in
format_read d f object provider options = rw (object, provider, options)

format_back : (f : Format) → format_in (object_of (format_fields f)) ≡ Some f
format_back f =
    let fs = format_fields f in
    format_read (object_of fs) f refl
    (field_back as_str string (codes "provider") fs (Some f.provider) refl refl (text_read f.provider))
    (field_back pairs pairs_value (codes "options") fs (Some f.options) refl refl (pairs_read f.options))

meta_data_read : (d : Data) (m : MetaData) → as_action d ≡ Ok tt
    → field as_str (codes "id") d ≡ Ok (Some m.id) → field as_str (codes "name") d ≡ Ok m.name → field as_str (codes "description") d ≡ Ok m.description
    → field format_in (codes "format") d ≡ Ok (Some m.format) → field as_str (codes "schemaString") d ≡ Ok (Some m.schema)
    → field texts (codes "partitionColumns") d ≡ Ok (Some m.columns) → field pairs (codes "configuration") d ≡ Ok (Some m.configuration)
    → field whole (codes "createdTime") d ≡ Ok m.created
    → meta_data_of d ≡ Ok m
unfolding meta_data_of
meta_data_read d m object id name description format schema columns configuration created =
    rw (object, id, name, description, format, schema, columns, configuration, created)

meta_data_back : (m : MetaData) → KeptMetaData m → meta_data_of (object_of (meta_data_fields m)) ≡ Ok m
meta_data_back m k =
    let fs = meta_data_fields m in
    meta_data_read (object_of fs) m refl
    (field_back as_str string (codes "id") fs (Some m.id) refl refl (text_read m.id))
    (field_back as_str string (codes "name") fs m.name refl refl (some_text_read m.name))
    (field_back as_str string (codes "description") fs m.description refl refl (some_text_read m.description))
    (field_back format_in (λ f. object_of (format_fields f)) (codes "format") fs (Some m.format) refl refl (refl, format_back m.format))
    (field_back as_str string (codes "schemaString") fs (Some m.schema) refl refl (text_read m.schema))
    (field_back texts texts_value (codes "partitionColumns") fs (Some m.columns) refl refl (texts_read m.columns))
    (field_back pairs pairs_value (codes "configuration") fs (Some m.configuration) refl refl (pairs_read m.configuration))
    (field_back whole whole_value (codes "createdTime") fs m.created refl refl (some_whole_read m.created k.created))

add_read : (d : Data) (f : AddFile) → as_action d ≡ Ok tt
    → field as_str (codes "path") d ≡ Ok (Some f.path) → field pairs (codes "partitionValues") d ≡ Ok (Some f.values)
    → field (count (2 ^ 63)) (codes "size") d ≡ Ok (Some f.size) → field whole (codes "modificationTime") d ≡ Ok (Some f.modified)
    → field as_bool (codes "dataChange") d ≡ Ok (Some f.data_change) → field as_str (codes "stats") d ≡ Ok f.stats
    → field pairs (codes "tags") d ≡ Ok f.tags → is_some (present (codes "deletionVector") d) ≡ f.vector
    → add_of d ≡ Ok f
unfolding add_of
add_read d f object path values size modified change stats tags vector = rw (object, path, values, size, modified, change, stats, tags, vector)

add_back : (f : AddFile) → KeptAdd f → f.vector ≡ false → add_of (object_of (add_fields f)) ≡ Ok f
add_back f k none =
    let fs = add_fields f in
    add_read (object_of fs) f refl
    (field_back as_str string (codes "path") fs (Some f.path) refl refl (text_read f.path))
    (field_back pairs pairs_value (codes "partitionValues") fs (Some f.values) refl refl (pairs_read f.values))
    (field_back (count (2 ^ 63)) count_value (codes "size") fs (Some f.size) refl refl (count_read (2 ^ 63) f.size (omega arith) k.size))
    (field_back whole whole_value (codes "modificationTime") fs (Some f.modified) refl refl (whole_read f.modified k.modified))
    (field_back as_bool boolean (codes "dataChange") fs (Some f.data_change) refl refl (refl, refl))
    (field_back as_str string (codes "stats") fs f.stats refl refl (some_text_read f.stats))
    (field_back pairs pairs_value (codes "tags") fs f.tags refl refl (some_pairs_read f.tags))
    (ap is_some (absent_back (codes "deletionVector") fs refl refl) ∙ sym none)

remove_read : (d : Data) (f : RemoveFile) → as_action d ≡ Ok tt
    → field as_str (codes "path") d ≡ Ok (Some f.path) → field whole (codes "deletionTimestamp") d ≡ Ok f.deleted
    → field as_bool (codes "dataChange") d ≡ Ok (Some f.data_change) → field pairs (codes "partitionValues") d ≡ Ok f.values
    → field (count (2 ^ 63)) (codes "size") d ≡ Ok f.size → is_some (present (codes "deletionVector") d) ≡ f.vector
    → remove_of d ≡ Ok f
unfolding remove_of
remove_read d f object path deleted change values size vector = rw (object, path, deleted, change, values, size, vector)

remove_back : (f : RemoveFile) → KeptRemove f → f.vector ≡ false → remove_of (object_of (remove_fields f)) ≡ Ok f
remove_back f k none =
    let fs = remove_fields f in
    remove_read (object_of fs) f refl
    (field_back as_str string (codes "path") fs (Some f.path) refl refl (text_read f.path))
    (field_back whole whole_value (codes "deletionTimestamp") fs f.deleted refl refl (some_whole_read f.deleted k.deleted))
    (field_back as_bool boolean (codes "dataChange") fs (Some f.data_change) refl refl (refl, refl))
    (field_back pairs pairs_value (codes "partitionValues") fs f.values refl refl (some_pairs_read f.values))
    (field_back (count (2 ^ 63)) count_value (codes "size") fs f.size refl refl (some_count_read (2 ^ 63) f.size (omega arith) k.size))
    (ap is_some (absent_back (codes "deletionVector") fs refl refl) ∙ sym none)

cdc_read : (d : Data) (f : CdcFile) → as_action d ≡ Ok tt
    → field as_str (codes "path") d ≡ Ok (Some f.path) → field pairs (codes "partitionValues") d ≡ Ok (Some f.values)
    → field (count (2 ^ 63)) (codes "size") d ≡ Ok (Some f.size)
    → cdc_of d ≡ Ok f
unfolding cdc_of
cdc_read d f object path values size = rw (object, path, values, size)

cdc_back : (f : CdcFile) → KeptCdc f → cdc_of (object_of (cdc_fields f)) ≡ Ok f
cdc_back f k =
    let fs = cdc_fields f in
    cdc_read (object_of fs) f refl
    (field_back as_str string (codes "path") fs (Some f.path) refl refl (text_read f.path))
    (field_back pairs pairs_value (codes "partitionValues") fs (Some f.values) refl refl (pairs_read f.values))
    (field_back (count (2 ^ 63)) count_value (codes "size") fs (Some f.size) refl refl (count_read (2 ^ 63) f.size (omega arith) k.size))

txn_read : (d : Data) (t : Txn) → as_action d ≡ Ok tt
    → field as_str (codes "appId") d ≡ Ok (Some t.app) → field whole (codes "version") d ≡ Ok (Some t.version)
    → field whole (codes "lastUpdated") d ≡ Ok t.updated
    → txn_of d ≡ Ok t
unfolding txn_of
txn_read d t object app version updated = rw (object, app, version, updated)

txn_back : (t : Txn) → KeptTxn t → txn_of (object_of (txn_fields t)) ≡ Ok t
txn_back t k =
    let fs = txn_fields t in
    txn_read (object_of fs) t refl
    (field_back as_str string (codes "appId") fs (Some t.app) refl refl (text_read t.app))
    (field_back whole whole_value (codes "version") fs (Some t.version) refl refl (whole_read t.version k.version))
    (field_back whole whole_value (codes "lastUpdated") fs t.updated refl refl (some_whole_read t.updated k.updated))

time_back : (o : Option ℕ) → IfSome o (λ n. n < times_end)
    → option_and_then (count times_end) (present (codes "timestamp") (object_of ((codes "timestamp", option_map count_value o) ∷ []))) ≡ o
time_back None h = refl
time_back (Some n) h = count_back times_end n (omega arith) h

commit_info_back : (i : CommitInfo) → KeptCommitInfo i → commit_info_of (object_of (commit_info_fields i)) ≡ i
commit_info_back i k = ap (λ o. record { timestamp = o }) (time_back i.timestamp k)

-- ---- the line

value_back : (a : Action) → Kept a → has_vector a ≡ false → action_in (action_name a) (object_of (action_fields a)) ≡ Ok (Some a)
unfolding action_in
value_back (action.Protocol p) k none = ap (λ r. r >>= λ p. Ok (Some (action.Protocol p))) (protocol_back p k)
value_back (action.MetaData m) k none = ap (λ r. r >>= λ m. Ok (Some (action.MetaData m))) (meta_data_back m k)
value_back (action.Add f) k none = ap (λ r. r >>= λ f. Ok (Some (action.Add f))) (add_back f k none)
value_back (action.Remove f) k none = ap (λ r. r >>= λ f. Ok (Some (action.Remove f))) (remove_back f k none)
value_back (action.Cdc f) k none = ap (λ r. r >>= λ f. Ok (Some (action.Cdc f))) (cdc_back f k)
value_back (action.Txn t) k none = ap (λ r. r >>= λ t. Ok (Some (action.Txn t))) (txn_back t k)
value_back (action.CommitInfo i) k none = ap (λ i. Ok (Some (action.CommitInfo i))) (commit_info_back i k)

leaf : (d : Data) → IsPlain d → depth d ≤ 0 → IsPlainTo 3 d
leaf d p h = (p, omega arith)

format_plain : (f : Format) → IsPairs f.options → IsPlainTo 3 (object_of (format_fields f))
format_plain f h = plain-object_of 2 (format_fields f) refl (plain-pairs_value 1 f.options h, ((tt, omega arith), tt))

fields_plain : (a : Action) → Kept a → ArePlainTo 3 (action_fields a)
fields_plain (action.Protocol p) k = (
  (let b : p.min_reader < 2 ^ 31 = k.reader in omega arith, omega arith),
  (
    (let b : p.min_writer < 2 ^ 31 = k.writer in omega arith, omega arith),
    (plain-texts_or_none 2 p.reader_features, (plain-texts_or_none 2 p.writer_features, tt)),
  ),
)
fields_plain (action.MetaData m) k = (
  plain-pairs_value 2 m.configuration k.configuration,
  (
    plain-whole_or_none 3 m.created k.created,
    (
      plain-text_or_none 3 m.description,
      (format_plain m.format k.options, ((tt, omega arith), (plain-text_or_none 3 m.name, (plain-texts_value 2 m.columns, ((tt, omega arith), tt))))),
    ),
  ),
)
fields_plain (action.Add f) k = (
  (tt, omega arith),
  (
    plain-whole_value 3 f.modified k.modified,
    (
      plain-pairs_value 2 f.values k.values,
      (
        (tt, omega arith),
        ((let b : f.size < 2 ^ 63 = k.size in omega arith, omega arith), (plain-text_or_none 3 f.stats, (plain-pairs_or_none 2 f.tags k.tags, tt))),
      ),
    ),
  ),
)
fields_plain (action.Remove f) k = (
  (tt, omega arith),
  (
    plain-whole_or_none 3 f.deleted k.deleted,
    (
      plain-pairs_or_none 2 f.values k.values,
      (
        (tt, omega arith),
        (plain-count_or_none 3 (2 ^ 63) f.size (omega arith) k.size, tt),
      ),
    ),
  ),
)
fields_plain (action.Cdc f) k =
    ((tt, omega arith), (plain-pairs_value 2 f.values k.values, ((tt, omega arith), ((let b : f.size < 2 ^ 63 = k.size in omega arith, omega arith), tt))))
fields_plain (action.Txn t) k =
    ((tt, omega arith), (plain-whole_or_none 3 t.updated k.updated, (plain-whole_value 3 t.version k.version, tt)))
fields_plain (action.CommitInfo i) k = (plain-count_or_none 3 times_end i.timestamp (omega arith) k, tt)

fields_ascend : (a : Action) → ascend (action_fields a) ≡ true
fields_ascend (action.Protocol p) = refl
fields_ascend (action.MetaData m) = refl
fields_ascend (action.Add f) = refl
fields_ascend (action.Remove f) = refl
fields_ascend (action.Cdc f) = refl
fields_ascend (action.Txn t) = refl
fields_ascend (action.CommitInfo i) = refl

data_plain : (a : Action) → Kept a → IsPlainTo 5 (action_data a)
data_plain a k = plain-object_of 4 ((action_name a, Some (object_of (action_fields a))) ∷ []) refl (plain-object_of 3 (action_fields a) (fields_ascend a) (fields_plain a k), tt)

pub line_back : (a : Action) (t : List ℕ) → t ≡ line_text a → IsUtf8 t → Kept a → has_vector a ≡ false → action_at t ≡ Ok (Some a)
line_back a t is utf8 k none =
    let plain = data_plain a k in
    let shallow : depth (action_data a) ≤ max_depth = (let b : depth (action_data a) ≤ 5 = plain.1 in omega arith) in
    ap after_tree (text_yes t utf8 ∙ ap of_read (ap read is ∙ read-compact_text (action_data a) plain.0 shallow)) ∙ value_back a k none
