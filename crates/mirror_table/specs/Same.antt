-- Whether two values of actions are the same: each of their fields is.
use Rattle.std.specs.Prelude.{ℕ, ◌==◌, ◌&&◌, List, Bool, Option, bytes_eq}
use Rattle.std.specs.Bool.{beq}
use Rattle.std.specs.Option.{option_eq}
use Rattle.std.specs.Ordering.{int_eq}
use Rattle.std.specs.Cmp.Lexicographic.{pointwise}
use Rattle.log_actions.specs.declared.actions.AddFile.{AddFile}
use Rattle.log_actions.specs.declared.actions.Format.{Format}
use Rattle.log_actions.specs.declared.actions.MetaData.{MetaData}
use Rattle.log_actions.specs.declared.actions.Protocol.{Protocol}

abbrev pub same_texts : List (List ℕ) → List (List ℕ) → Bool
same_texts a b = pointwise bytes_eq a b

-- a name with a text or nothing
abbrev pub same_pair : List ℕ × Option (List ℕ) → List ℕ × Option (List ℕ) → Bool
same_pair a b = bytes_eq a.0 b.0 && option_eq bytes_eq a.1 b.1

abbrev pub same_pairs : List (List ℕ × Option (List ℕ)) → List (List ℕ × Option (List ℕ)) → Bool
same_pairs a b = pointwise same_pair a b

-- "Protocol Evolution", "Table Features"
abbrev pub same_protocol : Protocol → Protocol → Bool
same_protocol a b =
    (a.min_reader == b.min_reader) && ((a.min_writer == b.min_writer)
    && (option_eq same_texts a.reader_features b.reader_features && option_eq same_texts a.writer_features b.writer_features))

-- "Format Specification"
abbrev pub same_format : Format → Format → Bool
same_format a b = bytes_eq a.provider b.provider && same_pairs a.options b.options

-- "Change Metadata"
abbrev pub same_meta : MetaData → MetaData → Bool
same_meta a b =
    bytes_eq a.id b.id && (option_eq bytes_eq a.name b.name && (option_eq bytes_eq a.description b.description && (same_format a.format b.format
    && (bytes_eq a.schema b.schema && (same_texts a.columns b.columns && (same_pairs a.configuration b.configuration && option_eq int_eq a.created b.created))))))

-- "Add File and Remove File"
abbrev pub same_file : AddFile → AddFile → Bool
same_file a b =
    bytes_eq a.path b.path && (same_pairs a.values b.values && ((a.size == b.size) && (int_eq a.modified b.modified
    && (beq a.data_change b.data_change && (option_eq bytes_eq a.stats b.stats && (option_eq same_pairs a.tags b.tags && beq a.vector b.vector))))))
