-- Names gathered one after another.
use Rattle.std.proofs.Common.{subst, ◌≡◌, ℕ, ◌+◌, ◌<◌, List, [], ◌∷◌, ◌++◌, length, get_or, drop, map, Bool, true, false, cond, Option, Some, None, refl, sym, ap, ◌∙◌, drop-cons, add-one}
use Rattle.std.specs.Prelude.{filter, option_to_list, bytes_eq}
use Rattle.std.specs.List.{dedup, dedup_from}
use Rattle.std.proofs.lemmas.List.Elements.{filter-append}
use Rattle.page_token.specs.declared.cursor.ListKind.{ListKind}
use Rattle.page_token.specs.declared.cursor.ListKind.TheVariants as kind
use Rattle.share_catalog.specs.declared.table_name.TableName.{TableName}
use Rattle.share_book.specs.NamesView.{NamesView}
use Rattle.share_reply.specs.Lists.{Names, is_behind, names_in, one, whole}
use Rattle.share_reply.specs.Walks.{GoesOn, IsFull, IsGathered, TakesIn, Took, added, adds, came, fresh, is_same, schema_behind, texts}
use Rattle.share_reply.specs.declared.walk.Gathered.{Gathered}
use Rattle.share_reply.specs.declared.walk.Listed.{Listed}

-- ---- texts that aren't the one before

pub fresh_from : (k : List ℕ) (xs : List (List ℕ)) → k ∷ fresh (Some k) xs ≡ dedup_from bytes_eq k xs
fresh_from k [] = refl
fresh_from k (x ∷ xs) =
    let P : Bool → Type 0 = λ b. k ∷ cond b (fresh (Some k) xs) (x ∷ fresh (Some x) xs) ≡ cond b (dedup_from bytes_eq k xs) (k ∷ dedup_from bytes_eq x xs) in
    elim (bytes_eq x k) as P [ true ↦ fresh_from k xs | false ↦ ap (λ ys. k ∷ ys) (fresh_from x xs) ]

pub fresh_dedup : (xs : List (List ℕ)) → fresh None xs ≡ dedup bytes_eq xs
fresh_dedup [] = refl
fresh_dedup (x ∷ xs) = fresh_from x xs

-- ---- what tables add

fresh_more : (c : Bool) (before : Option (List ℕ)) (x : List ℕ) (xs : List (List ℕ))
    → map one (cond c (fresh before xs) (x ∷ fresh (Some x) xs)) ≡ option_to_list (cond c None (Some (one x))) ++ map one (fresh (cond c before (Some x)) xs)
fresh_more true before x xs = refl
fresh_more false before x xs = refl

schema_more : (b : Bool) (before : Option (List ℕ)) (t : TableName) (ts : List TableName)
    → map one (fresh before (map (λ t. t.schema) (cond b (t ∷ ts) ts)))
    ≡ option_to_list (cond b (cond (is_same before t.schema) None (Some (one t.schema))) None)
    ++ map one (fresh (cond b (cond (is_same before t.schema) before (Some t.schema)) before) (map (λ t. t.schema) ts))
schema_more true before t ts = fresh_more (is_same before t.schema) before t.schema (map (λ t. t.schema) ts)
schema_more false before t ts = refl

pick : (f : TableName → List (List ℕ)) (b : Bool) (t : TableName) (ts : List TableName) → map f (cond b (t ∷ ts) ts) ≡ option_to_list (cond b (Some (f t)) None) ++ map f ts
pick f true t ts = refl
pick f false t ts = refl

table_more : (schema : List ℕ) (b : Bool) (t : TableName) (ts : List TableName)
    → map (λ t. one t.table) (filter (λ t. bytes_eq t.schema schema) (cond b (t ∷ ts) ts))
    ≡ option_to_list (cond b (cond (bytes_eq t.schema schema) (Some (one t.table)) None) None) ++ map (λ t. one t.table) (filter (λ t. bytes_eq t.schema schema) ts)
table_more schema true t ts = pick (λ t. one t.table) (bytes_eq t.schema schema) t (filter (λ t. bytes_eq t.schema schema) ts)
table_more schema false t ts = refl

added_more : (k : ListKind) (share schema : List ℕ) (before : Option (List ℕ)) (t : TableName) (ts : List TableName)
    → added k share schema before (t ∷ ts) ≡ option_to_list (adds k share schema before t) ++ added k share schema (schema_behind share before t) ts
added_more kind.Shares share schema before t ts = refl
added_more kind.Schemas share schema before t ts = schema_more (bytes_eq t.share share) before t (filter (λ t. bytes_eq t.share share) ts)
added_more kind.Tables share schema before t ts = table_more schema (bytes_eq t.share share) t (filter (λ t. bytes_eq t.share share) ts)
added_more kind.AllTables share schema before t ts = pick whole (bytes_eq t.share share) t (filter (λ t. bytes_eq t.share share) ts)

-- the next table's name, where it is behind, and the rest
pub tables_step : (k : ListKind) (share schema after : List ℕ) (before : Option (List ℕ)) (ts : List TableName) (i : ℕ) (d : TableName) → i < length ts
    → filter (is_behind k after) (added k share schema before (drop i ts))
    ≡ came k after (adds k share schema before (get_or ts i d)) ++ filter (is_behind k after) (added k share schema (schema_behind share before (get_or ts i d)) (drop (i + 1) ts))
tables_step k share schema after before ts i d h =
    let t : TableName = get_or ts i d in
    let now : drop i ts ≡ t ∷ drop (i + 1) ts = rw add-one (drop-cons ts i d h) in
    ap (λ (rest : List TableName). filter (is_behind k after) (added k share schema before rest)) now
    ∙ ap (λ names. filter (is_behind k after) names) (added_more k share schema before t (drop (i + 1) ts))
    ∙ filter-append (is_behind k after) (option_to_list (adds k share schema before t)) (added k share schema (schema_behind share before t) (drop (i + 1) ts))

pub shares_step : (k : ListKind) (after : List ℕ) (ss : List (List ℕ)) (i : ℕ) (d : List ℕ) → i < length ss
    → filter (is_behind k after) (map one (drop i ss)) ≡ came k after (Some (one (get_or ss i d))) ++ filter (is_behind k after) (map one (drop (i + 1) ss))
shares_step k after ss i d h =
    let now : drop i ss ≡ get_or ss i d ∷ drop (i + 1) ss = rw add-one (drop-cons ss i d h) in
    ap (λ (rest : List (List ℕ)). filter (is_behind k after) (map one rest)) now
    ∙ filter-append (is_behind k after) (one (get_or ss i d) ∷ []) (map one (drop (i + 1) ss))

-- ---- a page

pub cut_page : (most : ℕ) (all : Names) (page : Gathered) (names : List Listed) → IsFull most all names → page.names.items ≡ names → page.is_left ≡ true → IsGathered most all page
cut_page most all page names h is holds = record { given = ap texts is ∙ h.given; left = holds ∙ sym h.left }

-- ---- a step of a walk

-- what was taken in, of what comes
took : (most : ℕ) (all came rest whole : Names) (old new : List Listed) (full : Bool) → whole ≡ came ++ rest → TakesIn most came old new full → GoesOn most all whole old → Took full most all rest new
took most all came rest whole old new full is takes h = let P : Names → Type 0 = λ names. GoesOn most all names old in takes all rest (subst P is h)

goes_on : (most : ℕ) (all rest : Names) (new : List Listed) (full : Bool) → full ≡ false → Took full most all rest new → GoesOn most all rest new
goes_on most all rest new full fails h = let P : Bool → Type 0 = λ b. Took b most all rest new in subst P fails h

is_full : (most : ℕ) (all rest : Names) (new : List Listed) (full : Bool) → full ≡ true → Took full most all rest new → IsFull most all new
is_full most all rest new full holds h = let P : Bool → Type 0 = λ b. Took b most all rest new in subst P holds h

table_splits : (k : ListKind) (share schema after : List ℕ) (before next : Option (List ℕ)) (ts : List TableName) (i : ℕ) (t : TableName) (name : Option (List (List ℕ)))
    → i < length ts → t ≡ get_or ts i t → name ≡ adds k share schema before t → next ≡ schema_behind share before t
    → filter (is_behind k after) (added k share schema before (drop i ts)) ≡ came k after name ++ filter (is_behind k after) (added k share schema next (drop (i + 1) ts))
table_splits k share schema after before next ts i t name h is named behind =
    let P : TableName → Type 0 = λ u. filter (is_behind k after) (added k share schema before (drop i ts)) ≡ came k after (adds k share schema before u) ++ filter (is_behind k after) (added k share schema (schema_behind share before u) (drop (i + 1) ts)) in
    subst P (sym is) (tables_step k share schema after before ts i t h)
    ∙ ap (λ n. came k after n ++ filter (is_behind k after) (added k share schema (schema_behind share before t) (drop (i + 1) ts))) (sym named)
    ∙ ap (λ b. came k after name ++ filter (is_behind k after) (added k share schema b (drop (i + 1) ts))) (sym behind)

pub tables_on : (k : ListKind) (share schema after : List ℕ) (before next : Option (List ℕ)) (ts : List TableName) (i : ℕ) (t : TableName) (name : Option (List (List ℕ))) (most : ℕ) (all : Names) (old new : List Listed) (full : Bool)
    → i < length ts → t ≡ get_or ts i t → name ≡ adds k share schema before t → next ≡ schema_behind share before t → TakesIn most (came k after name) old new full → full ≡ false
    → GoesOn most all (filter (is_behind k after) (added k share schema before (drop i ts))) old → GoesOn most all (filter (is_behind k after) (added k share schema next (drop (i + 1) ts))) new
tables_on k share schema after before next ts i t name most all old new full h is named behind takes fails inv =
    goes_on most all (filter (is_behind k after) (added k share schema next (drop (i + 1) ts))) new full fails
    (took most all (came k after name) (filter (is_behind k after) (added k share schema next (drop (i + 1) ts))) (filter (is_behind k after) (added k share schema before (drop i ts))) old new full
    (table_splits k share schema after before next ts i t name h is named behind) takes inv)

pub tables_full : (k : ListKind) (share schema after : List ℕ) (before : Option (List ℕ)) (ts : List TableName) (i : ℕ) (t : TableName) (name : Option (List (List ℕ))) (most : ℕ) (all : Names) (old new : List Listed) (full : Bool)
    → i < length ts → t ≡ get_or ts i t → name ≡ adds k share schema before t → TakesIn most (came k after name) old new full → full ≡ true
    → GoesOn most all (filter (is_behind k after) (added k share schema before (drop i ts))) old → IsFull most all new
tables_full k share schema after before ts i t name most all old new full h is named takes holds inv =
    let next : Option (List ℕ) = schema_behind share before t in
    is_full most all (filter (is_behind k after) (added k share schema next (drop (i + 1) ts))) new full holds
    (took most all (came k after name) (filter (is_behind k after) (added k share schema next (drop (i + 1) ts))) (filter (is_behind k after) (added k share schema before (drop i ts))) old new full
    (table_splits k share schema after before next ts i t name h is named refl) takes inv)

share_splits : (k : ListKind) (after : List ℕ) (ss : List (List ℕ)) (i : ℕ) (s : List ℕ) → i < length ss → s ≡ get_or ss i s
    → filter (is_behind k after) (map one (drop i ss)) ≡ came k after (Some (one s)) ++ filter (is_behind k after) (map one (drop (i + 1) ss))
share_splits k after ss i s h is =
    let P : List ℕ → Type 0 = λ u. filter (is_behind k after) (map one (drop i ss)) ≡ came k after (Some (one u)) ++ filter (is_behind k after) (map one (drop (i + 1) ss)) in
    subst P (sym is) (shares_step k after ss i s h)

pub shares_on : (k : ListKind) (after : List ℕ) (ss : List (List ℕ)) (i : ℕ) (s : List ℕ) (most : ℕ) (all : Names) (old new : List Listed) (full : Bool)
    → i < length ss → s ≡ get_or ss i s → TakesIn most (came k after (Some (one s))) old new full → full ≡ false
    → GoesOn most all (filter (is_behind k after) (map one (drop i ss))) old → GoesOn most all (filter (is_behind k after) (map one (drop (i + 1) ss))) new
shares_on k after ss i s most all old new full h is takes fails inv =
    goes_on most all (filter (is_behind k after) (map one (drop (i + 1) ss))) new full fails
    (took most all (came k after (Some (one s))) (filter (is_behind k after) (map one (drop (i + 1) ss))) (filter (is_behind k after) (map one (drop i ss))) old new full (share_splits k after ss i s h is) takes inv)

pub shares_full : (k : ListKind) (after : List ℕ) (ss : List (List ℕ)) (i : ℕ) (s : List ℕ) (most : ℕ) (all : Names) (old new : List Listed) (full : Bool)
    → i < length ss → s ≡ get_or ss i s → TakesIn most (came k after (Some (one s))) old new full → full ≡ true
    → GoesOn most all (filter (is_behind k after) (map one (drop i ss))) old → IsFull most all new
shares_full k after ss i s most all old new full h is takes holds inv =
    is_full most all (filter (is_behind k after) (map one (drop (i + 1) ss))) new full holds
    (took most all (came k after (Some (one s))) (filter (is_behind k after) (map one (drop (i + 1) ss))) (filter (is_behind k after) (map one (drop i ss))) old new full (share_splits k after ss i s h is) takes inv)

-- ---- the names of a listing

-- the schemas that the tables add are its names
pub schemas_added : (k : ListKind) (share schema : List ℕ) (seen : NamesView) → k ≡ kind.Schemas → added k share schema None seen.tables ≡ names_in seen k share schema
schemas_added k share schema seen is =
    let P : ListKind → Type 0 = λ k. added k share schema None seen.tables ≡ names_in seen k share schema in
    subst P (sym is) (ap (λ names. map one names) (fresh_dedup (map (λ t. t.schema) (filter (λ t. bytes_eq t.share share) seen.tables))))
