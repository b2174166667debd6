-- What a log says is read from what is printed of it.
use Rattle.std.proofs.Common.{◌≡◌, ℕ, ◌<◌, ◌≤◌, ◌^◌, List, false, Option, Some, None, Ok, refl, sym, ap, ◌∙◌, arith, true, codes, is_some, IfSome, lt-ltb}
use Rattle.std.specs.Prelude.{option_and_then}
use Rattle.serde_json.specs.Data.{Data, boolean, string}
use Rattle.serde_json.specs.Find.{as_bool, as_str, as_object}
use Rattle.json_tree.specs.Fields.{field, present, whole, texts, pairs}
use Rattle.json_tree.specs.Results.{◌>>=◌}
use Rattle.json_print.specs.Fields.{object_of}
use Rattle.json_print.specs.Values.{count_value, whole_value, texts_value, pairs_value}
use Rattle.json_print.proofs.Lookups.{ReadsBack, OnSomeReadsBack, field_back, absent_back, text_read, texts_read, pairs_read, some_texts_read, some_pairs_read, some_text_read}
use Rattle.json_print.proofs.Plainness.{whole_read, some_whole_read}
use Rattle.log_actions.specs.Kept.{KeptProtocol, KeptMetaData, KeptAdd, KeptRemove, KeptCdc}
use Rattle.log_actions.specs.Lines.{action_in}
use Rattle.log_actions.specs.Printing.{protocol_fields, format_fields, meta_data_fields, add_fields, remove_fields, cdc_fields}
use Rattle.log_actions.specs.Reading.{as_action, count, format_in, protocol_of, meta_data_of, add_of, remove_of, cdc_of}
use Rattle.log_actions.specs.declared.actions.Action.TheVariants as logged
use Rattle.log_actions.specs.declared.actions.AddFile.{AddFile}
use Rattle.log_actions.specs.declared.actions.CdcFile.{CdcFile}
use Rattle.log_actions.specs.declared.actions.Format.{Format}
use Rattle.log_actions.specs.declared.actions.MetaData.{MetaData}
use Rattle.log_actions.specs.declared.actions.Protocol.{Protocol}
use Rattle.log_actions.specs.declared.actions.RemoveFile.{RemoveFile}
use Rattle.delta_lines.specs.Delta.{has_vector, single_fields}
use Rattle.delta_lines.specs.Kept.{KeptAction}
use Rattle.delta_lines.specs.Reading.{file_action_or, found, single_action, unless, with_path}
use Rattle.delta_lines.specs.declared.kinds.FileAction.{FileAction}
use Rattle.delta_lines.specs.declared.kinds.FileAction.TheVariants as action

-- ---- counts

count_back : (limit n : ℕ) → limit ≤ 2 ^ 63 → n < limit → count limit (count_value n) ≡ Some n
count_back limit n small h =
    let long : n < 2 ^ 63 = omega arith in
    rw (lt-ltb n (2 ^ 63) long, lt-ltb n limit h)

count_read : (limit n : ℕ) → limit ≤ 2 ^ 63 → n < limit → ReadsBack (count limit) count_value n
count_read limit n small h = (refl, count_back limit n small h)

pub some_count_read : (o : Option ℕ) → IfSome o (λ n. n < 2 ^ 63) → OnSomeReadsBack (count (2 ^ 63)) count_value o
some_count_read None h = tt
some_count_read (Some n) h = count_read (2 ^ 63) n (omega arith) h

-- ---- a protocol and a metaData

protocol_read : (d : Data) (p : Protocol) → as_action d ≡ Ok tt
    → field (count (2 ^ 31)) (codes "minReaderVersion") d ≡ Ok (Some p.min_reader) → field (count (2 ^ 31)) (codes "minWriterVersion") d ≡ Ok (Some p.min_writer)
    → field texts (codes "readerFeatures") d ≡ Ok p.reader_features → field texts (codes "writerFeatures") d ≡ Ok p.writer_features
    → protocol_of d ≡ Ok p
unfolding protocol_of
protocol_read d p object reader writer reader_features writer_features = rw (object, reader, writer, reader_features, writer_features)

pub protocol_back : (p : Protocol) → KeptProtocol p → protocol_of (object_of (protocol_fields p)) ≡ Ok p
protocol_back p k =
    let fs = protocol_fields p in
    protocol_read (object_of fs) p refl
    (field_back (count (2 ^ 31)) count_value (codes "minReaderVersion") fs (Some p.min_reader) refl refl (count_read (2 ^ 31) p.min_reader (omega arith) k.reader))
    (field_back (count (2 ^ 31)) count_value (codes "minWriterVersion") fs (Some p.min_writer) refl refl (count_read (2 ^ 31) p.min_writer (omega arith) k.writer))
    (field_back texts texts_value (codes "readerFeatures") fs p.reader_features refl refl (some_texts_read p.reader_features))
    (field_back texts texts_value (codes "writerFeatures") fs p.writer_features refl refl (some_texts_read p.writer_features))

format_read : (d : Data) (f : Format) → is_some (as_object d) ≡ true
    → field as_str (codes "provider") d ≡ Ok (Some f.provider) → field pairs (codes "options") d ≡ Ok (Some f.options)
    → format_in d ≡ Some f
unfolding format_in
format_read d f object provider options = rw (object, provider, options)

format_back : (f : Format) → format_in (object_of (format_fields f)) ≡ Some f
format_back f =
    let fs = format_fields f in
    format_read (object_of fs) f refl
    (field_back as_str string (codes "provider") fs (Some f.provider) refl refl (text_read f.provider))
    (field_back pairs pairs_value (codes "options") fs (Some f.options) refl refl (pairs_read f.options))

meta_data_read : (d : Data) (m : MetaData) → as_action d ≡ Ok tt
    → field as_str (codes "id") d ≡ Ok (Some m.id) → field as_str (codes "name") d ≡ Ok m.name → field as_str (codes "description") d ≡ Ok m.description
    → field format_in (codes "format") d ≡ Ok (Some m.format) → field as_str (codes "schemaString") d ≡ Ok (Some m.schema)
    → field texts (codes "partitionColumns") d ≡ Ok (Some m.columns) → field pairs (codes "configuration") d ≡ Ok (Some m.configuration)
    → field whole (codes "createdTime") d ≡ Ok m.created
    → meta_data_of d ≡ Ok m
unfolding meta_data_of
meta_data_read d m object id name description format schema columns configuration created =
    rw (object, id, name, description, format, schema, columns, configuration, created)

pub meta_data_back : (m : MetaData) → KeptMetaData m → meta_data_of (object_of (meta_data_fields m)) ≡ Ok m
meta_data_back m k =
    let fs = meta_data_fields m in
    meta_data_read (object_of fs) m refl
    (field_back as_str string (codes "id") fs (Some m.id) refl refl (text_read m.id))
    (field_back as_str string (codes "name") fs m.name refl refl (some_text_read m.name))
    (field_back as_str string (codes "description") fs m.description refl refl (some_text_read m.description))
    (field_back format_in (λ f. object_of (format_fields f)) (codes "format") fs (Some m.format) refl refl (refl, format_back m.format))
    (field_back as_str string (codes "schemaString") fs (Some m.schema) refl refl (text_read m.schema))
    (field_back texts texts_value (codes "partitionColumns") fs (Some m.columns) refl refl (texts_read m.columns))
    (field_back pairs pairs_value (codes "configuration") fs (Some m.configuration) refl refl (pairs_read m.configuration))
    (field_back whole whole_value (codes "createdTime") fs m.created refl refl (some_whole_read m.created k.created))

-- ---- the actions of files

add_read : (d : Data) (f : AddFile) → as_action d ≡ Ok tt
    → field as_str (codes "path") d ≡ Ok (Some f.path) → field pairs (codes "partitionValues") d ≡ Ok (Some f.values)
    → field (count (2 ^ 63)) (codes "size") d ≡ Ok (Some f.size) → field whole (codes "modificationTime") d ≡ Ok (Some f.modified)
    → field as_bool (codes "dataChange") d ≡ Ok (Some f.data_change) → field as_str (codes "stats") d ≡ Ok f.stats
    → field pairs (codes "tags") d ≡ Ok f.tags → is_some (present (codes "deletionVector") d) ≡ f.vector
    → add_of d ≡ Ok f
unfolding add_of
add_read d f object path values size modified change stats tags vector = rw (object, path, values, size, modified, change, stats, tags, vector)

add_back : (f : AddFile) → KeptAdd f → f.vector ≡ false → add_of (object_of (add_fields f)) ≡ Ok f
add_back f k none =
    let fs = add_fields f in
    add_read (object_of fs) f refl
    (field_back as_str string (codes "path") fs (Some f.path) refl refl (text_read f.path))
    (field_back pairs pairs_value (codes "partitionValues") fs (Some f.values) refl refl (pairs_read f.values))
    (field_back (count (2 ^ 63)) count_value (codes "size") fs (Some f.size) refl refl (count_read (2 ^ 63) f.size (omega arith) k.size))
    (field_back whole whole_value (codes "modificationTime") fs (Some f.modified) refl refl (whole_read f.modified k.modified))
    (field_back as_bool boolean (codes "dataChange") fs (Some f.data_change) refl refl (refl, refl))
    (field_back as_str string (codes "stats") fs f.stats refl refl (some_text_read f.stats))
    (field_back pairs pairs_value (codes "tags") fs f.tags refl refl (some_pairs_read f.tags))
    (ap is_some (absent_back (codes "deletionVector") fs refl refl) ∙ sym none)

remove_read : (d : Data) (f : RemoveFile) → as_action d ≡ Ok tt
    → field as_str (codes "path") d ≡ Ok (Some f.path) → field whole (codes "deletionTimestamp") d ≡ Ok f.deleted
    → field as_bool (codes "dataChange") d ≡ Ok (Some f.data_change) → field pairs (codes "partitionValues") d ≡ Ok f.values
    → field (count (2 ^ 63)) (codes "size") d ≡ Ok f.size → is_some (present (codes "deletionVector") d) ≡ f.vector
    → remove_of d ≡ Ok f
unfolding remove_of
remove_read d f object path deleted change values size vector = rw (object, path, deleted, change, values, size, vector)

remove_back : (f : RemoveFile) → KeptRemove f → f.vector ≡ false → remove_of (object_of (remove_fields f)) ≡ Ok f
remove_back f k none =
    let fs = remove_fields f in
    remove_read (object_of fs) f refl
    (field_back as_str string (codes "path") fs (Some f.path) refl refl (text_read f.path))
    (field_back whole whole_value (codes "deletionTimestamp") fs f.deleted refl refl (some_whole_read f.deleted k.deleted))
    (field_back as_bool boolean (codes "dataChange") fs (Some f.data_change) refl refl (refl, refl))
    (field_back pairs pairs_value (codes "partitionValues") fs f.values refl refl (some_pairs_read f.values))
    (field_back (count (2 ^ 63)) count_value (codes "size") fs f.size refl refl (some_count_read f.size k.size))
    (ap is_some (absent_back (codes "deletionVector") fs refl refl) ∙ sym none)

cdc_read : (d : Data) (f : CdcFile) → as_action d ≡ Ok tt
    → field as_str (codes "path") d ≡ Ok (Some f.path) → field pairs (codes "partitionValues") d ≡ Ok (Some f.values)
    → field (count (2 ^ 63)) (codes "size") d ≡ Ok (Some f.size)
    → cdc_of d ≡ Ok f
unfolding cdc_of
cdc_read d f object path values size = rw (object, path, values, size)

cdc_back : (f : CdcFile) → KeptCdc f → cdc_of (object_of (cdc_fields f)) ≡ Ok f
cdc_back f k =
    let fs = cdc_fields f in
    cdc_read (object_of fs) f refl
    (field_back as_str string (codes "path") fs (Some f.path) refl refl (text_read f.path))
    (field_back pairs pairs_value (codes "partitionValues") fs (Some f.values) refl refl (pairs_read f.values))
    (field_back (count (2 ^ 63)) count_value (codes "size") fs (Some f.size) refl refl (count_read (2 ^ 63) f.size (omega arith) k.size))

-- an action is read with the path by which it was printed
pub single_back : (url : List ℕ) (a : FileAction) → KeptAction a → has_vector a ≡ false → single_action (object_of (single_fields url a)) ≡ Some (with_path url a)
unfolding single_action action_in
single_back url (action.Add f) k none =
    let g : AddFile = record f { path = url } in
    let kept : KeptAdd g = record { values = k.values; size = k.size; modified = k.modified; tags = k.tags } in
    ap (λ r. option_and_then file_action_or (found (r >>= λ f. Ok (Some (logged.Add f))))) (add_back g kept none) ∙ ap (λ v. unless v (action.Add g)) none
single_back url (action.Cdc f) k none =
    let g : CdcFile = record f { path = url } in
    let kept : KeptCdc g = record { values = k.values; size = k.size } in
    ap (λ r. option_and_then file_action_or (found (r >>= λ f. Ok (Some (logged.Cdc f))))) (cdc_back g kept)
single_back url (action.Remove f) k none =
    let g : RemoveFile = record f { path = url } in
    let kept : KeptRemove g = record { deleted = k.deleted; values = k.values; size = k.size } in
    ap (λ r. option_and_then file_action_or (found (r >>= λ f. Ok (Some (logged.Remove f))))) (remove_back g kept none) ∙ ap (λ v. unless v (action.Remove g)) none
