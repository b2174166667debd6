-- Each case is found again by its number and by its word, so no two cases have one.
use Rattle.std.proofs.Common.{◌≡◌, ℕ, List, [], ◌∷◌, Option, Some, None, IfSome, Bool, true, false, cond, bytes_eq, sym, ap, ◌∙◌, subst, refl}
use Rattle.std.specs.Prelude.{◌==◌, ◌&&◌}
use Rattle.std.specs.List.{find}
use Rattle.std.proofs.lemmas.Option.{same_Some}
use Rattle.std.proofs.lemmas.Slice.Eq.{bytes_eq-Decides}
use Rattle.case_table.specs.declared.action_fields.ActionKind.{ActionKind}
use Rattle.case_table.specs.declared.action_fields.Field.{Field}
use Rattle.case_table.specs.declared.action_fields.Field.TheVariants as field
use Rattle.case_table.specs.declared.refuse.Refusal.{Refusal}
use Rattle.case_table.specs.declared.refuse.Refusal.TheVariants as why
use Rattle.case_table.specs.declared.routing.Route.{Route}
use Rattle.case_table.specs.declared.routing.Route.TheVariants as route
use Rattle.case_table.specs.declared.values.ValueType.{ValueType}
use Rattle.case_table.specs.declared.values.ValueType.TheVariants as kind
use Rattle.case_table.specs.Fields.{action_word, all_fields, field_row}
use Rattle.case_table.specs.Refusals.{all_refusals, refusal_of_word, refusal_row}
use Rattle.case_table.specs.Routes.{all_routes, route_row}
use Rattle.case_table.specs.ValueTypes.{value_row, value_type_of_word}
use Rattle.case_table.specs.Laws.{FieldsDiffer, RefusalsDiffer, RoutesDiffer, ValueTypesDiffer}

-- what a search finds passes its test
found : {X : Type 0} (p : X → Bool) (xs : List X) → IfSome (find p xs) (λ x. p x ≡ true)
found p [] = tt
found p (x ∷ xs) = at_head (p x) refl (found p xs)
  where
    at_head : (b : Bool) → p x ≡ b → IfSome (find p xs) (λ y. p y ≡ true) → IfSome (cond b (Some x) (find p xs)) (λ y. p y ≡ true)
    at_head true e later = e
    at_head false e later = later

word_found : (o : Option Refusal) (word : List ℕ) → IfSome o (λ x. bytes_eq word (refusal_row x).word ≡ true) → IfSome o (λ x. (refusal_row x).word ≡ word)
word_found None word e = tt
word_found (Some x) word e = sym ((bytes_eq-Decides word (refusal_row x).word).0 e)

pub refusal_found : (word : List ℕ) → IfSome (refusal_of_word word) (λ x. (refusal_row x).word ≡ word)
refusal_found word = word_found (refusal_of_word word) word (found (λ x. bytes_eq word (refusal_row x).word) all_refusals)

-- what is found again by a key is told apart by it
told_apart : {X K : Type 0} (key : X → K) (search_by : K → Option X) → ((x : X) → search_by (key x) ≡ Some x) → (a b : X) → key a ≡ key b → a ≡ b
told_apart key search_by back a b e = same_Some _ _ (sym (back a) ∙ (ap search_by e ∙ back b))

pub refusal_back : (x : Refusal) → refusal_of_word (refusal_row x).word ≡ Some x
refusal_back why.Unauthenticated = refl
refusal_back why.NotFound = refl
refusal_back why.MethodNotAllowed = refl
refusal_back why.BadParameter = refl
refusal_back why.BadBody = refl
refusal_back why.VersionRange = refl
refusal_back why.TimestampRange = refl
refusal_back why.HistoryNotShared = refl
refusal_back why.ChangesNotEnabled = refl
refusal_back why.UnsupportedTable = refl
refusal_back why.TokenInvalid = refl
refusal_back why.TokenStale = refl
refusal_back why.TokenMismatch = refl
refusal_back why.TokenAhead = refl
refusal_back why.LinkInvalid = refl
refusal_back why.FileGone = refl
refusal_back why.Conflict = refl
refusal_back why.Contended = refl
refusal_back why.StoreFault = refl
refusal_back why.Limit = refl
refusal_back why.LinkExpired = refl
refusal_back why.LinkRevoked = refl
refusal_back why.CatalogBlocked = refl
refusal_back why.BadMessage = refl
refusal_back why.BodyTooLarge = refl
refusal_back why.HeadTooLarge = refl
refusal_back why.TransferCoding = refl
refusal_back why.VersionNotShared = refl
refusal_back why.ChangesRestricted = refl
refusal_back why.RangeNotSatisfiable = refl

abbrev refusal_of_code : ℕ → Option Refusal
refusal_of_code code = find (λ x. code == (refusal_row x).code) all_refusals

pub refusal_by_code : (x : Refusal) → refusal_of_code (refusal_row x).code ≡ Some x
refusal_by_code why.Unauthenticated = refl
refusal_by_code why.NotFound = refl
refusal_by_code why.MethodNotAllowed = refl
refusal_by_code why.BadParameter = refl
refusal_by_code why.BadBody = refl
refusal_by_code why.VersionRange = refl
refusal_by_code why.TimestampRange = refl
refusal_by_code why.HistoryNotShared = refl
refusal_by_code why.ChangesNotEnabled = refl
refusal_by_code why.UnsupportedTable = refl
refusal_by_code why.TokenInvalid = refl
refusal_by_code why.TokenStale = refl
refusal_by_code why.TokenMismatch = refl
refusal_by_code why.TokenAhead = refl
refusal_by_code why.LinkInvalid = refl
refusal_by_code why.FileGone = refl
refusal_by_code why.Conflict = refl
refusal_by_code why.Contended = refl
refusal_by_code why.StoreFault = refl
refusal_by_code why.Limit = refl
refusal_by_code why.LinkExpired = refl
refusal_by_code why.LinkRevoked = refl
refusal_by_code why.CatalogBlocked = refl
refusal_by_code why.BadMessage = refl
refusal_by_code why.BodyTooLarge = refl
refusal_by_code why.HeadTooLarge = refl
refusal_by_code why.TransferCoding = refl
refusal_by_code why.VersionNotShared = refl
refusal_by_code why.ChangesRestricted = refl
refusal_by_code why.RangeNotSatisfiable = refl

abbrev route_of_word : List ℕ → Option Route
route_of_word word = find (λ x. bytes_eq word (route_row x).word) all_routes

abbrev route_of_code : ℕ → Option Route
route_of_code code = find (λ x. code == (route_row x).code) all_routes

pub route_back : (x : Route) → route_of_word (route_row x).word ≡ Some x
route_back route.ListShares = refl
route_back route.GetShare = refl
route_back route.ListSchemas = refl
route_back route.ListTables = refl
route_back route.ListAll = refl
route_back route.Version = refl
route_back route.Metadata = refl
route_back route.Query = refl
route_back route.Changes = refl
route_back route.File = refl
route_back route.Commit = refl
route_back route.Refresh = refl
route_back route.Edit = refl

pub route_by_code : (x : Route) → route_of_code (route_row x).code ≡ Some x
route_by_code route.ListShares = refl
route_by_code route.GetShare = refl
route_by_code route.ListSchemas = refl
route_by_code route.ListTables = refl
route_by_code route.ListAll = refl
route_by_code route.Version = refl
route_by_code route.Metadata = refl
route_by_code route.Query = refl
route_by_code route.Changes = refl
route_by_code route.File = refl
route_by_code route.Commit = refl
route_by_code route.Refresh = refl
route_by_code route.Edit = refl

pub value_back : (x : ValueType) → value_type_of_word (value_row x).word ≡ Some x
value_back kind.Bool = refl
value_back kind.Int = refl
value_back kind.Long = refl
value_back kind.String = refl
value_back kind.Date = refl

abbrev field_of_words : List ℕ × List ℕ → Option Field
field_of_words words = find (λ x. bytes_eq words.0 (action_word (field_row x).kind) && bytes_eq words.1 (field_row x).name) all_fields

abbrev field_of_code : ℕ → Option Field
field_of_code code = find (λ x. code == (field_row x).code) all_fields

pub field_back : (x : Field) → field_of_words (action_word (field_row x).kind, (field_row x).name) ≡ Some x
field_back field.ProtocolMinReaderVersion = refl
field_back field.ProtocolMinWriterVersion = refl
field_back field.ProtocolReaderFeatures = refl
field_back field.ProtocolWriterFeatures = refl
field_back field.MetaDataId = refl
field_back field.MetaDataName = refl
field_back field.MetaDataDescription = refl
field_back field.MetaDataFormat = refl
field_back field.MetaDataSchemaString = refl
field_back field.MetaDataPartitionColumns = refl
field_back field.MetaDataConfiguration = refl
field_back field.MetaDataCreatedTime = refl
field_back field.AddPath = refl
field_back field.AddPartitionValues = refl
field_back field.AddSize = refl
field_back field.AddModificationTime = refl
field_back field.AddDataChange = refl
field_back field.AddStats = refl
field_back field.AddTags = refl
field_back field.RemovePath = refl
field_back field.RemoveDeletionTimestamp = refl
field_back field.RemoveDataChange = refl
field_back field.RemovePartitionValues = refl
field_back field.RemoveSize = refl
field_back field.CdcPath = refl
field_back field.CdcPartitionValues = refl
field_back field.CdcSize = refl
field_back field.TxnAppId = refl
field_back field.TxnVersion = refl
field_back field.TxnLastUpdated = refl

pub field_by_code : (x : Field) → field_of_code (field_row x).code ≡ Some x
field_by_code field.ProtocolMinReaderVersion = refl
field_by_code field.ProtocolMinWriterVersion = refl
field_by_code field.ProtocolReaderFeatures = refl
field_by_code field.ProtocolWriterFeatures = refl
field_by_code field.MetaDataId = refl
field_by_code field.MetaDataName = refl
field_by_code field.MetaDataDescription = refl
field_by_code field.MetaDataFormat = refl
field_by_code field.MetaDataSchemaString = refl
field_by_code field.MetaDataPartitionColumns = refl
field_by_code field.MetaDataConfiguration = refl
field_by_code field.MetaDataCreatedTime = refl
field_by_code field.AddPath = refl
field_by_code field.AddPartitionValues = refl
field_by_code field.AddSize = refl
field_by_code field.AddModificationTime = refl
field_by_code field.AddDataChange = refl
field_by_code field.AddStats = refl
field_by_code field.AddTags = refl
field_by_code field.RemovePath = refl
field_by_code field.RemoveDeletionTimestamp = refl
field_by_code field.RemoveDataChange = refl
field_by_code field.RemovePartitionValues = refl
field_by_code field.RemoveSize = refl
field_by_code field.CdcPath = refl
field_by_code field.CdcPartitionValues = refl
field_by_code field.CdcSize = refl
field_by_code field.TxnAppId = refl
field_by_code field.TxnVersion = refl
field_by_code field.TxnLastUpdated = refl

same_words : (a b : Field) → (field_row a).kind ≡ (field_row b).kind → (field_row a).name ≡ (field_row b).name
    → ◌≡◌ {A = List ℕ × List ℕ} (action_word (field_row a).kind, (field_row a).name) (action_word (field_row b).kind, (field_row b).name)
same_words a b k n = λ i. (action_word (k i), n i)

pub refusals_are_apart : RefusalsDiffer
refusals_are_apart = (
  told_apart (λ x. (refusal_row x).word) refusal_of_word refusal_back,
  told_apart (λ x. (refusal_row x).code) refusal_of_code refusal_by_code,
  refl,
)

pub routes_are_apart : RoutesDiffer
routes_are_apart = (
  told_apart (λ x. (route_row x).word) route_of_word route_back,
  told_apart (λ x. (route_row x).code) route_of_code route_by_code,
  refl,
)

pub values_are_apart : ValueTypesDiffer
values_are_apart = told_apart (λ x. (value_row x).word) value_type_of_word value_back

pub fields_are_apart : FieldsDiffer
fields_are_apart = (
  λ a b k n. told_apart (λ x. (action_word (field_row x).kind, (field_row x).name)) field_of_words field_back a b (same_words a b k n),
  told_apart (λ x. (field_row x).code) field_of_code field_by_code,
  refl,
)
