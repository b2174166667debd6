-- What isn't known is passed over.
use Rattle.std.proofs.Common.{◌≡◌, ◌≢◌, ℕ, ◌<◌, List, [], ◌∷◌, ◌++◌, length, map, filter, get_or, Bool, true, false, cond, eqb, All, Option, Some, None, refl, ap, sym, ◌∙◌, append-nil, arith}
use Rattle.std.specs.Prelude.{bytes_eq, codes, option_and_then}
use Rattle.std.proofs.lemmas.Bool.{false_from_ne_true}
use Rattle.std.specs.List.{flat_map, join_with_byte}
use Rattle.std.proofs.lemmas.Grind.{flat_map-append}
use Rattle.std.proofs.lemmas.List.{map-append}
use Rattle.std.proofs.lemmas.List.Elements.{filter-append}
use Rattle.std.proofs.lemmas.Slice.Eq.{bytes_eq-Decides}
use Rattle.case_table.specs.Routes.{route_row}
use Rattle.case_table.specs.declared.routing.Route.{Route}
use Rattle.case_table.specs.declared.routing.Route.TheVariants as route
use Rattle.form_urlencoded.specs.Form.{is_nonempty, onto_first, raw_pairs, split, split_once, split_pair}
use Rattle.form_urlencoded.proofs.FormLemmas.{raw_pairs-nil, raw_pairs_first, split_once_after_none, split_once_before_none}
use Rattle.http_message.specs.declared.head.Head.{Head}
use Rattle.serde_json.specs.Data.{Data}
use Rattle.json_tree.specs.Fields.{present}
use Rattle.share_request.specs.Asked.{what_at}
use Rattle.share_request.specs.Bearers.{bearer_in}
use Rattle.share_request.specs.Bodies.{offer_of}
use Rattle.share_request.specs.Capabilities.{format_in}
use Rattle.share_request.specs.Laws.{with_target, UnknownFieldsPass, UnknownParametersPass, known_parameters, offer_fields}
use Rattle.share_request.specs.Parameters.{first_value, pair_of, pairs_in, text_of}
use Rattle.share_request.specs.Paths.{route_of, segments_in}
use Rattle.query_body.specs.Fields.{SameMembers}
use Rattle.query_body.proofs.Unknown.{queries_same}
use Rattle.share_request.specs.Requests.{below_in, by_route, has_method, link_or, turned_away, with_bearer}
use Rattle.share_request.specs.Targets.{below_endpoint, split_at, split_query}
use Rattle.signed_link.specs.Reading.{after}
use Rattle.signed_link.proofs.Cuts.{cut_again}
use Rattle.share_request.specs.declared.asked.Request.{Request}
use Rattle.share_request.specs.declared.asked.Request.TheVariants as request
use Rattle.share_request.specs.declared.asked.ResponseFormat.{ResponseFormat}
use Rattle.share_request.specs.declared.fault.TurnedAway.TheVariants as early
use Rattle.share_request.specs.declared.parameter.QueryPair.{QueryPair}

-- ---- query strings joined at `&`

split_some : (bytes : List ℕ) → 0 < length (split 38 bytes)
unfolding split
split_some [] = omega arith
split_some (b ∷ bytes) = split_by b (split 38 bytes) (eqb b 38) (split_some bytes)
  where
    split_by : (b : ℕ) (pieces : List (List ℕ)) (test : Bool) → 0 < length pieces → 0 < length (cond test ([] ∷ pieces) (onto_first b pieces))
    split_by b pieces true some = omega arith
    split_by b [] false some = omega arith
    split_by b (piece ∷ pieces) false some = omega arith

onto_append : (b : ℕ) (xs ys : List (List ℕ)) → 0 < length xs → onto_first b (xs ++ ys) ≡ onto_first b xs ++ ys
onto_append b [] ys some = absurd (omega arith)
onto_append b (x ∷ xs) ys some = refl

split_append : (xs ys : List ℕ) → split 38 (xs ++ 38 ∷ ys) ≡ split 38 xs ++ split 38 ys
unfolding split
split_append [] ys = refl
split_append (b ∷ xs) ys =
    append_by b (split 38 (xs ++ 38 ∷ ys)) (split 38 xs) (split 38 ys) (eqb b 38) (split_append xs ys) (split_some xs)
  where
    append_by : (b : ℕ) (whole front back : List (List ℕ)) (test : Bool) → whole ≡ front ++ back → 0 < length front
        → cond test ([] ∷ whole) (onto_first b whole) ≡ cond test ([] ∷ front) (onto_first b front) ++ back
    append_by b whole front back true e some = ap (λ x. [] ∷ x) e
    append_by b whole front back false e some = ap (onto_first b) e ∙ onto_append b front back some

raw_append : (xs ys : List ℕ) → raw_pairs (xs ++ 38 ∷ ys) ≡ raw_pairs xs ++ raw_pairs ys
unfolding raw_pairs
raw_append xs ys =
    ap (λ pieces. map split_pair (filter is_nonempty pieces)) (split_append xs ys)
    ∙ ap (map split_pair) (filter-append is_nonempty (split 38 xs) (split 38 ys))
    ∙ map-append split_pair (filter is_nonempty (split 38 xs)) (filter is_nonempty (split 38 ys))

pairs_append : (xs ys : List ℕ) → pairs_in (xs ++ 38 ∷ ys) ≡ pairs_in xs ++ pairs_in ys
pairs_append xs ys = ap (map pair_of) (raw_append xs ys) ∙ map-append pair_of (raw_pairs xs) (raw_pairs ys)

raw_one : (b : ℕ) (pair : List ℕ) → All (λ x. x ≢ 38) (b ∷ pair) → raw_pairs (b ∷ pair) ≡ split_pair (b ∷ pair) ∷ []
raw_one b pair free =
    let front : (split_once 38 (b ∷ pair)).0 ≡ b ∷ pair = split_once_before_none 38 (b ∷ pair) free in
    let back : (split_once 38 (b ∷ pair)).1 ≡ [] = split_once_after_none 38 (b ∷ pair) free in
    let some : 0 < length ((split_once 38 (b ∷ pair)).0) = rw front (omega arith) in
    raw_pairs_first (b ∷ pair) some ∙ ap (λ x. split_pair x ∷ raw_pairs ((split_once 38 (b ∷ pair)).1)) front
    ∙ ap (λ x. split_pair (b ∷ pair) ∷ raw_pairs x) back ∙ ap (λ x. split_pair (b ∷ pair) ∷ x) raw_pairs-nil

pairs_join : (pieces : List (List ℕ)) → pairs_in (join_with_byte 38 pieces) ≡ flat_map pairs_in pieces
pairs_join [] = ap (map pair_of) raw_pairs-nil
pairs_join (x ∷ []) = sym (append-nil (pairs_in x))
pairs_join (x ∷ y ∷ pieces) =
    pairs_append x (join_with_byte 38 (y ∷ pieces)) ∙ ap (λ v. pairs_in x ++ v) (pairs_join (y ∷ pieces))

-- ---- a pair of another name

skip : (name : List ℕ) (xs : List QueryPair) (p : QueryPair) (ys : List QueryPair) → p.name ≢ name → first_value name (xs ++ p ∷ ys) ≡ first_value name (xs ++ ys)
skip name [] p ys other =
    let no : bytes_eq p.name name ≡ false = false_from_ne_true _ (λ e. other ((bytes_eq-Decides p.name name).0 e)) in
    rw no refl
skip name (x ∷ xs) p ys other = ap (λ v. cond (bytes_eq x.name name) (Some x.value) v) (skip name xs p ys other)

abbrev SameValues : List QueryPair → List QueryPair → Type 0
SameValues xs ys = All (λ name. first_value name xs ≡ first_value name ys) known_parameters

what_same : (r : Route) (names : List (List ℕ)) (xs ys : List QueryPair) (body : List ℕ) → SameValues xs ys → what_at r names xs body ≡ what_at r names ys body
what_same r names xs ys body same =
    let most : first_value (codes "maxResults") xs ≡ first_value (codes "maxResults") ys = same 0 [] (omega arith) in
    let token : first_value (codes "pageToken") xs ≡ first_value (codes "pageToken") ys = same 1 [] (omega arith) in
    let start_time : first_value (codes "startingTimestamp") xs ≡ first_value (codes "startingTimestamp") ys = same 2 [] (omega arith) in
    let start : first_value (codes "startingVersion") xs ≡ first_value (codes "startingVersion") ys = same 3 [] (omega arith) in
    let end_time : first_value (codes "endingTimestamp") xs ≡ first_value (codes "endingTimestamp") ys = same 4 [] (omega arith) in
    let end : first_value (codes "endingVersion") xs ≡ first_value (codes "endingVersion") ys = same 5 [] (omega arith) in
    let max : first_value (codes "maxFiles") xs ≡ first_value (codes "maxFiles") ys = same 6 [] (omega arith) in
    let version : first_value (codes "version") xs ≡ first_value (codes "version") ys = same 7 [] (omega arith) in
    let time : first_value (codes "timestamp") xs ≡ first_value (codes "timestamp") ys = same 8 [] (omega arith) in
    what_by r names xs ys body most token start_time start end_time end max version time
  where
    what_by : (r : Route) (names : List (List ℕ)) (xs ys : List QueryPair) (body : List ℕ)
        → first_value (codes "maxResults") xs ≡ first_value (codes "maxResults") ys
        → first_value (codes "pageToken") xs ≡ first_value (codes "pageToken") ys
        → first_value (codes "startingTimestamp") xs ≡ first_value (codes "startingTimestamp") ys
        → first_value (codes "startingVersion") xs ≡ first_value (codes "startingVersion") ys
        → first_value (codes "endingTimestamp") xs ≡ first_value (codes "endingTimestamp") ys
        → first_value (codes "endingVersion") xs ≡ first_value (codes "endingVersion") ys
        → first_value (codes "maxFiles") xs ≡ first_value (codes "maxFiles") ys
        → first_value (codes "version") xs ≡ first_value (codes "version") ys
        → first_value (codes "timestamp") xs ≡ first_value (codes "timestamp") ys
        → what_at r names xs body ≡ what_at r names ys body
    what_by route.ListShares names xs ys body e0 e1 e2 e3 e4 e5 e6 e7 e8 = simp (e0, e1)
    what_by route.GetShare names xs ys body e0 e1 e2 e3 e4 e5 e6 e7 e8 = refl
    what_by route.ListSchemas names xs ys body e0 e1 e2 e3 e4 e5 e6 e7 e8 = simp (e0, e1)
    what_by route.ListTables names xs ys body e0 e1 e2 e3 e4 e5 e6 e7 e8 = simp (e0, e1)
    what_by route.ListAll names xs ys body e0 e1 e2 e3 e4 e5 e6 e7 e8 = simp (e0, e1)
    what_by route.Version names xs ys body e0 e1 e2 e3 e4 e5 e6 e7 e8 = simp e2
    what_by route.Metadata names xs ys body e0 e1 e2 e3 e4 e5 e6 e7 e8 = simp (e7, e8)
    what_by route.Query names xs ys body e0 e1 e2 e3 e4 e5 e6 e7 e8 = refl
    what_by route.Changes names xs ys body e0 e1 e2 e3 e4 e5 e6 e7 e8 = simp (e1, e2, e3, e4, e5, e6)
    what_by route.Commit names xs ys body e0 e1 e2 e3 e4 e5 e6 e7 e8 = refl
    what_by route.Refresh names xs ys body e0 e1 e2 e3 e4 e5 e6 e7 e8 = refl
    what_by route.Edit names xs ys body e0 e1 e2 e3 e4 e5 e6 e7 e8 = refl
    what_by route.File names xs ys body e0 e1 e2 e3 e4 e5 e6 e7 e8 = refl

bearer_same : (digest : Option (List ℕ)) (r : Route) (format : ResponseFormat) (names : List (List ℕ)) (p q body : List ℕ) → SameValues (pairs_in p) (pairs_in q)
    → with_bearer digest r format names (Some p) body ≡ with_bearer digest r format names (Some q) body
bearer_same None r format names p q body same = refl
bearer_same (Some digest) r format names p q body same =
    ap (λ asked. request.ByToken (record { digest = digest; route = r; format = format; asked = asked })) (what_same r names (pairs_in p) (pairs_in q) body same)

route_same : (head : Head) (s t : List ℕ) (o : Option Route) (names : List (List ℕ)) (p q body : List ℕ) → SameValues (pairs_in p) (pairs_in q)
    → by_route (with_target head s) o names (Some p) body ≡ by_route (with_target head t) o names (Some q) body
route_same head s t None names p q body same = refl
route_same head s t (Some r) names p q body same =
    ap (λ x. cond (has_method (route_row r).method head.method) x (turned_away (early.WrongMethod (route_row r).method)))
    (bearer_same (bearer_in head.fields) r (format_in head.fields) names p q body same)

link_same : (head other : Head) (file query third : Option (List ℕ)) (x y : Request) → file ≡ None → x ≡ y → link_or head file query x ≡ link_or other file third y
link_same head other None query third x y none same = same
link_same head other (Some file) query third x y none same = absurd cc

below_same : (head : Head) (s t : List ℕ) (o : Option (List ℕ)) (p q body : List ℕ) → option_and_then (after (codes "files/")) o ≡ None → SameValues (pairs_in p) (pairs_in q)
    → below_in (with_target head s) o (Some p) body ≡ below_in (with_target head t) o (Some q) body
below_same head s t None p q body none same = refl
below_same head s t (Some below) p q body none same =
    link_same (with_target head s) (with_target head t) (after (codes "files/") below) (Some p) (Some q) _ _ none
    (route_same head s t (route_of (segments_in below)) (segments_in below) p q body same)

without : (name : List ℕ) (front : List QueryPair) (pair : List ℕ) (back : List QueryPair) → All (λ b. b ≢ 38) pair
    → text_of ((split_pair pair).0) ≢ name → first_value name (front ++ (pairs_in pair ++ back)) ≡ first_value name (front ++ back)
without name front [] back free other = ap (λ x. first_value name (front ++ (map pair_of x ++ back))) raw_pairs-nil
without name front (b ∷ pair) back free other =
    ap (λ x. first_value name (front ++ (map pair_of x ++ back))) (raw_one b pair free)
    ∙ skip name front (pair_of (split_pair (b ∷ pair))) back other

same_by : (before : List (List ℕ)) (pair : List ℕ) (behind : List (List ℕ)) → All (λ b. b ≢ 38) pair
    → All (λ known. text_of ((split_pair pair).0) ≢ known) known_parameters
    → SameValues (pairs_in (join_with_byte 38 (before ++ pair ∷ behind))) (pairs_in (join_with_byte 38 (before ++ behind)))
same_by before pair behind free other k d inside =
    let name = get_or known_parameters k d in
    let long : pairs_in (join_with_byte 38 (before ++ pair ∷ behind)) ≡ flat_map pairs_in before ++ (pairs_in pair ++ flat_map pairs_in behind) =
    pairs_join (before ++ pair ∷ behind) ∙ flat_map-append pairs_in before (pair ∷ behind) in
    let short : pairs_in (join_with_byte 38 (before ++ behind)) ≡ flat_map pairs_in before ++ flat_map pairs_in behind =
    pairs_join (before ++ behind) ∙ flat_map-append pairs_in before behind in
    ap (first_value name) long
    ∙ without name (flat_map pairs_in before) pair (flat_map pairs_in behind) free (other k d inside)
    ∙ ap (first_value name) (sym short)

split_is : (path query : List ℕ) → All (λ b. b ≢ 63) path → split_query (path ++ 63 ∷ query) ≡ (path, Some query)
split_is path query plain = ap (split_at (path ++ 63 ∷ query)) (cut_again 63 path query plain)

pub unknown_parameters_pass : UnknownParametersPass
unknown_parameters_pass head path pair body before behind plain none free other =
    let long = join_with_byte 38 (before ++ pair ∷ behind) in
    let short = join_with_byte 38 (before ++ behind) in
    let s = path ++ 63 ∷ long in
    let t = path ++ 63 ∷ short in
    ap (λ (x : List ℕ × Option (List ℕ)). below_in (with_target head s) (below_endpoint x.0) x.1 body) (split_is path long plain)
    ∙ below_same head s t (below_endpoint path) long short body none (same_by before pair behind free other)
    ∙ ap (λ (x : List ℕ × Option (List ℕ)). below_in (with_target head t) (below_endpoint x.0) x.1 body) (sym (split_is path short plain))

-- ---- bodies

offers_same : (d e : Data) → SameMembers offer_fields d e → offer_of d ≡ offer_of e
offers_same d e same =
    let location : present (codes "location") d ≡ present (codes "location") e = same 0 [] (omega arith) in
    let read : present (codes "readVersion") d ≡ present (codes "readVersion") e = same 1 [] (omega arith) in
    let reads : present (codes "reads") d ≡ present (codes "reads") e = same 2 [] (omega arith) in
    let actions : present (codes "actions") d ≡ present (codes "actions") e = same 3 [] (omega arith) in
    simp (location, read, reads, actions)

pub unknown_fields_pass : UnknownFieldsPass
unknown_fields_pass = (queries_same, offers_same)
