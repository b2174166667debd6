-- The bodies of providers' and the administrator's requests (RFC 8259; they are our own).
use Rattle.std.specs.Prelude.{ℕ, Bool, true, List, [], ◌∷◌, Option, Some, None, Result, Ok, Err, is_some, option_map, bytes_eq, if◌then◌else◌, codes}
use Rattle.std.specs.Result.{result_ok}
use Rattle.serde_json.specs.Data.{Data, Items, no_items, item}
use Rattle.serde_json.specs.Find.{as_array, as_str}
use Rattle.catalog_log.specs.Reading.{from_zero, location_in, passing, text_in}
use Rattle.catalog_log.specs.Reading as catalog
use Rattle.commit_check.specs.declared.offer.Offer.{Offer}
use Rattle.commit_check.specs.declared.offer.Reads.{Reads}
use Rattle.commit_check.specs.declared.offer.Reads.TheVariants as reads
use Rattle.json_tree.specs.Fields.{present, whole}
use Rattle.json_tree.specs.Options.{◌>>=◌}
use Rattle.json_tree.specs.Tree.{tree_in}
use Rattle.log_actions.specs.Lines.{action_of_data}
use Rattle.log_actions.specs.declared.actions.Action.{Action}
use Rattle.log_actions.specs.declared.line_fault.LineFault.{LineFault}
use Rattle.pred_tree.specs.Grammar.{predicate_in}
use Rattle.share_catalog.specs.declared.edit.Edit.{Edit}
use Rattle.share_catalog.specs.declared.edit.Edit.TheVariants as edit

-- `readVersion`, a whole number from 0 to 2^63 - 1; absent or null where no version was read
abbrev pub version_or_none : Option Data → Option (Option ℕ)
version_or_none None = Some None
version_or_none (Some d) = option_map Some (whole d >>= from_zero)

abbrev pub read_in : Data → Option (Option ℕ)
read_in d = version_or_none (present (codes "readVersion") d)

-- ---- `reads`: "none", "all", or an object with the text of a predicate

abbrev pub word_reads : List ℕ → Option Reads
word_reads word =
    if bytes_eq word (codes "none") then Some reads.Nothing
    else if bytes_eq word (codes "all") then Some reads.All
    else None

abbrev pub is_predicate : List ℕ → Bool
is_predicate text = is_some (predicate_in text)

abbrev pub where_in : Data → Option Reads
where_in d = do
  text ← text_in (codes "predicate") d
  predicate ← passing is_predicate text
  Some (reads.Where predicate)

abbrev pub word_or : Option (List ℕ) → Option Reads → Option Reads
word_or None other = other
word_or (Some word) other = word_reads word

abbrev pub reads_of : Data → Option Reads
reads_of d = word_or (as_str d) (where_in d)

abbrev pub reads_in : Data → Option Reads
reads_in d = present (codes "reads") d >>= reads_of

-- ---- `actions`: an array of objects, each of one known action

abbrev pub known : Result (Option Action) LineFault → Option Action
known (Ok o) = o
known (Err e) = None

abbrev pub action_in : Data → Option Action
action_in d = known (action_of_data d)

abbrev pub actions_of : Items → Option (List Action)
actions_of no_items = Some []
actions_of (item d ds) = action_in d >>= λ action. option_map (λ rest. action ∷ rest) (actions_of ds)

abbrev pub actions_in : Data → Option (List Action)
actions_in d = present (codes "actions") d >>= λ value. as_array value >>= actions_of

-- ---- bodies

abbrev pub offer_of : Data → Option Offer
offer_of d = do
  location ← location_in d
  read ← read_in d
  reads ← reads_in d
  actions ← actions_in d
  Some (record { location = location; read = read; reads = reads; actions = actions })

-- a provider's commit
abbrev pub offer_in : List ℕ → Option Offer
offer_in body = result_ok (tree_in body) >>= offer_of

-- the location that a provider wants looked at
abbrev pub refresh_in : List ℕ → Option (List ℕ)
refresh_in body = result_ok (tree_in body) >>= location_in

-- a table that is bound is shared whole, or by a predicate
abbrev pub is_readable : Option (List ℕ) → Bool
is_readable None = true
is_readable (Some text) = is_predicate text

abbrev pub has_readable_restriction : Edit → Bool
has_readable_restriction (edit.Bind t b) = is_readable b.only
has_readable_restriction _ = true

abbrev pub edit_of : Data → Option Edit
edit_of d = catalog.edit_in d >>= passing has_readable_restriction

-- the administrator's edit, as the catalogue's records have it
abbrev pub edit_in : List ℕ → Option Edit
edit_in body = result_ok (tree_in body) >>= edit_of
