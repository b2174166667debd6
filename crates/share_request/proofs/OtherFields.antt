-- Fields of other names, and other parts of `delta-sharing-capabilities`, say nothing.
use Rattle.std.proofs.Common.{◌≡◌, ℕ, List, [], ◌∷◌, length, filter, Bool, true, false, cond, Option, Some, None, refl, ap, sym, ◌∙◌, arith}
use Rattle.std.specs.Prelude.{codes, count_by}
use Rattle.std.specs.List.{find}
use Rattle.std.proofs.lemmas.List.Sums.{length-filter}
use Rattle.case_table.specs.Routes.{route_row}
use Rattle.case_table.specs.declared.routing.Route.{Route}
use Rattle.case_table.specs.declared.routing.Route.TheVariants as route
use Rattle.file_ranges.specs.Spans.{span_of}
use Rattle.http_message.specs.Fields.{first_named, is_named}
use Rattle.http_message.specs.Framing.{Pairs}
use Rattle.http_message.specs.declared.head.Head.{Head}
use Rattle.signed_link.specs.Reading.{after}
use Rattle.share_request.specs.Bearers.{bearer_in}
use Rattle.share_request.specs.Capabilities.{capability_parts, format_in, format_of, names_formats}
use Rattle.share_request.specs.Laws.{OtherFieldsPass, SameFields, with_fields}
use Rattle.share_request.specs.Paths.{route_of, segments_in}
use Rattle.share_request.specs.Requests.{below_in, by_route, has_method, link_or, link_request, turned_away, with_bearer}
use Rattle.share_request.specs.Targets.{below_endpoint, link_target, split_query}
use Rattle.share_request.specs.declared.asked.Request.{Request}
use Rattle.share_request.specs.declared.fault.TurnedAway.TheVariants as early

-- ---- what passes a test tells the count and the first of it

count_same : {X : Type 0} (p : X → Bool) (xs ys : List X) → filter p xs ≡ filter p ys → count_by p xs ≡ count_by p ys
count_same p xs ys same = sym (length-filter p xs) ∙ ap length same ∙ length-filter p ys

first_filter : (name : List ℕ) (fields : Pairs) → first_named name fields ≡ first_named name (filter (is_named name) fields)
first_filter name [] = refl
first_filter name (f ∷ fields) = by_test (is_named name f) refl (first_filter name fields)
  where
    by_test : (test : Bool) → is_named name f ≡ test → first_named name fields ≡ first_named name (filter (is_named name) fields)
        → cond test f.1 (first_named name fields) ≡ first_named name (cond test (f ∷ filter (is_named name) fields) (filter (is_named name) fields))
    by_test true is rest = sym (ap (λ t. cond t f.1 (first_named name (filter (is_named name) fields))) is)
    by_test false is rest = rest

first_same : (name : List ℕ) (xs ys : Pairs) → filter (is_named name) xs ≡ filter (is_named name) ys → first_named name xs ≡ first_named name ys
first_same name xs ys same = first_filter name xs ∙ ap (first_named name) same ∙ sym (first_filter name ys)

find_filter : {X : Type 0} (p : X → Bool) (xs : List X) → find p xs ≡ find p (filter p xs)
find_filter p [] = refl
find_filter p (x ∷ xs) = by_test (p x) refl (find_filter p xs)
  where
    by_test : (test : Bool) → p x ≡ test → find p xs ≡ find p (filter p xs) → cond test (Some x) (find p xs) ≡ find p (cond test (x ∷ filter p xs) (filter p xs))
    by_test true is rest = sym (ap (λ t. cond t (Some x) (find p (filter p xs))) is)
    by_test false is rest = rest

-- ---- what is read of the fields

bearer_fields : (xs ys : Pairs) → filter (is_named (codes "authorization")) xs ≡ filter (is_named (codes "authorization")) ys → bearer_in xs ≡ bearer_in ys
bearer_fields xs ys same =
    let count : count_by (is_named (codes "authorization")) xs ≡ count_by (is_named (codes "authorization")) ys =
    count_same (is_named (codes "authorization")) xs ys same in
    let first : first_named (codes "authorization") xs ≡ first_named (codes "authorization") ys = first_same (codes "authorization") xs ys same in
    simp (count, first)

format_fields : (xs ys : Pairs) → filter names_formats (capability_parts xs) ≡ filter names_formats (capability_parts ys) → format_in xs ≡ format_in ys
format_fields xs ys same =
    ap format_of (find_filter names_formats (capability_parts xs) ∙ ap (find names_formats) same ∙ sym (find_filter names_formats (capability_parts ys)))

span_fields : (head : Head) (xs ys : Pairs) → filter (is_named (codes "range")) xs ≡ filter (is_named (codes "range")) ys
    → filter (is_named (codes "if-range")) xs ≡ filter (is_named (codes "if-range")) ys → span_of (with_fields head xs) ≡ span_of (with_fields head ys)
span_fields head xs ys range if_range =
    let ranges : count_by (is_named (codes "range")) xs ≡ count_by (is_named (codes "range")) ys = count_same (is_named (codes "range")) xs ys range in
    let others : count_by (is_named (codes "if-range")) xs ≡ count_by (is_named (codes "if-range")) ys = count_same (is_named (codes "if-range")) xs ys if_range in
    let first : first_named (codes "range") xs ≡ first_named (codes "range") ys = first_same (codes "range") xs ys range in
    simp (ranges, others, first)

-- ---- the request

module _ (head : Head) (xs ys : Pairs) (same : SameFields xs ys) where
  bearer : bearer_in xs ≡ bearer_in ys
  bearer = bearer_fields xs ys (same.named 0 [] (omega arith))

  span : span_of (with_fields head xs) ≡ span_of (with_fields head ys)
  span = span_fields head xs ys (same.named 1 [] (omega arith)) (same.named 2 [] (omega arith))

  format : format_in xs ≡ format_in ys
  format = format_fields xs ys same.formats

  token_same : (r : Route) (names : List (List ℕ)) (query : Option (List ℕ)) (body : List ℕ)
      → with_bearer (bearer_in xs) r (format_in xs) names query body ≡ with_bearer (bearer_in ys) r (format_in ys) names query body
  token_same r names query body =
      ap (λ digest. with_bearer digest r (format_in xs) names query body) bearer
      ∙ ap (λ lines. with_bearer (bearer_in ys) r lines names query body) format

  route_same : (o : Option Route) (names : List (List ℕ)) (query : Option (List ℕ)) (body : List ℕ)
      → by_route (with_fields head xs) o names query body ≡ by_route (with_fields head ys) o names query body
  route_same None names query body = refl
  route_same (Some r) names query body =
      ap (λ x. cond (has_method (route_row r).method head.method) x (turned_away (early.WrongMethod (route_row r).method))) (token_same r names query body)

  asked_same : (target : List ℕ) → link_request (with_fields head xs) target ≡ link_request (with_fields head ys) target
  asked_same target = rw span refl

  link_same : (file query : Option (List ℕ)) (x y : Request) → x ≡ y → link_or (with_fields head xs) file query x ≡ link_or (with_fields head ys) file query y
  link_same None query x y is = is
  link_same (Some file) query x y is =
      ap (λ z. cond (has_method (route_row route.File).method head.method) z (turned_away (early.WrongMethod (route_row route.File).method))) (asked_same (link_target file query))

  below_same : (below query : Option (List ℕ)) (body : List ℕ) → below_in (with_fields head xs) below query body ≡ below_in (with_fields head ys) below query body
  below_same None query body = refl
  below_same (Some below) query body =
      link_same (after (codes "files/") below) query _ _ (route_same (route_of (segments_in below)) (segments_in below) query body)

pub other_fields_pass : OtherFieldsPass
other_fields_pass head fields others body same =
    below_same head fields others same (below_endpoint (split_query head.target).0) (split_query head.target).1 body
