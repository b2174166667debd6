-- What is answered is in form.
use Rattle.std.proofs.Common.{◌≡◌, ◌≢◌, ℕ, ℤ, ◌-◌, ◌^◌, ◌<◌, ◌≤◌, ◌⊎◌, List, [], ◌∷◌, Bool, true, false, cond, leb, ◌&&◌, Option, Some, None, Result, Ok, Err, inl, inr, refl, ap, sym, subst, arith}
use Rattle.std.specs.Prelude.{IfSome, IsSome, min, unwrap_or, codes}
use Rattle.std.specs.Str.Parse.{digits_value}
use Rattle.std.proofs.lemmas.Bool.{and_parts, leb-true}
use Rattle.std.proofs.lemmas.Slice.Eq.{bytes_eq-Decides}
use Rattle.case_table.specs.Routes.{route_row}
use Rattle.case_table.specs.declared.routing.Route.{Route}
use Rattle.case_table.specs.declared.routing.Route.TheVariants as route
use Rattle.file_ranges.specs.Spans.{span_of}
use Rattle.http_message.specs.declared.head.Head.{Head}
use Rattle.json_tree.specs.Results.{◌>>=◌}
use Rattle.signed_link.specs.Reading.{after}
use Rattle.share_request.specs.Asked.{as_fault, what_at}
use Rattle.share_request.specs.Asked as asked
use Rattle.text_forms.specs.Numbers.{is_digits, number_in}
use Rattle.share_request.specs.Capabilities.{format_in}
use Rattle.share_request.specs.Bearers.{bearer_in}
use Rattle.share_request.specs.Bodies.{edit_in, offer_in, refresh_in}
use Rattle.share_request.specs.Faults.{or_bad, or_bad_body, parameter_word}
use Rattle.share_request.specs.InForm.{IsAsked, IsBound, IsInForm, IsPage}
use Rattle.share_request.specs.Laws.{RequestsAreInForm}
use Rattle.share_request.specs.Parameters.{at_in, first_value, from_in, max_files_in, moment_at, most_in, number_at, one_bound, page_in, read_value, start_in, start_or_token, to_in, token_in, version_at}
use Rattle.share_request.specs.Paths.{admin_route, name_at, provider_route, route_of, segments_in, share_route, table_at, table_route}
use Rattle.query_body.specs.Query.{query_in}
use Rattle.query_body.proofs.Forms.{max_is, query_is, step, unless_empty_is, version_small}
use Rattle.share_request.specs.Requests.{at_path, below_in, by_route, has_method, is_head, link_or, link_request, pairs_or_none, turned_away, with_bearer}
use Rattle.share_request.specs.Targets.{below_endpoint, link_target, split_query}
use Rattle.share_request.specs.declared.asked.Bound.{Bound}
use Rattle.share_request.specs.declared.asked.Bound.TheVariants as bound
use Rattle.share_request.specs.declared.asked.ListPage.{ListPage}
use Rattle.share_request.specs.declared.asked.Request.{Request}
use Rattle.share_request.specs.declared.asked.Request.TheVariants as request
use Rattle.share_request.specs.declared.asked.ResponseFormat.{ResponseFormat}
use Rattle.share_request.specs.declared.fault.TurnedAway.TheVariants as early
use Rattle.share_request.specs.declared.asked.What.{What}
use Rattle.share_request.specs.declared.asked.What.TheVariants as what
use Rattle.share_request.specs.declared.fault.Parameter.{Parameter}
use Rattle.share_request.specs.declared.fault.Parameter.TheVariants as parameter
use Rattle.share_request.specs.declared.fault.RequestFault.{RequestFault}
use Rattle.share_request.specs.declared.parameter.QueryPair.{QueryPair}
use Rattle.query_body.specs.declared.query.QueryBody.{QueryBody}
use Rattle.query_body.specs.declared.query.QueryFault.{QueryFault}
use Rattle.query_body.specs.declared.query.QueryFault.TheVariants as query_fault

-- ---- numbers

bounds_by : (v n low high : ℕ) (test within : Bool) → within ≡ (leb low v && leb v high) → cond (test && within) (Some v) None ≡ Some n → (low ≤ n) × (n ≤ high)
bounds_by v n low high true true is e =
    let same : v ≡ n = cc in
    let both = and_parts (leb low v) (leb v high) (sym is) in
    let lower : low ≤ v = leb-true low v both.0 in
    let upper : v ≤ high = leb-true v high both.1 in
    (omega arith, omega arith)
bounds_by v n low high true false is e = absurd cc
bounds_by v n low high false within is e = absurd cc

number_bounds : (low high : ℕ) (text : List ℕ) (n : ℕ) → number_in low high text ≡ Some n → (low ≤ n) × (n ≤ high)
number_bounds low high text n e = bounds_by (digits_value 10 text) n low high (is_digits text) _ refl e

number_by : (p : Parameter) (low high : ℕ) (text : List ℕ) (r o : Option ℕ) → number_in low high text ≡ r → (or_bad p r >>= λ x. Ok (Some x)) ≡ Ok o → IfSome o (λ n. (low ≤ n) × (n ≤ high))
number_by p low high text None o is e = absurd cc
number_by p low high text (Some n) o is e =
    let same : Some n ≡ o = cc in
    subst (λ x. IfSome x (λ n. (low ≤ n) × (n ≤ high))) same (number_bounds low high text n is)

read_within : (p : Parameter) (low high : ℕ) (v : Option (List ℕ)) (o : Option ℕ) → read_value p (number_in low high) v ≡ Ok o → IfSome o (λ n. (low ≤ n) × (n ≤ high))
read_within p low high None o e =
    let same : None ≡ o = cc in
    subst (λ x. IfSome x (λ n. (low ≤ n) × (n ≤ high))) same tt
read_within p low high (Some text) o e = number_by p low high text (number_in low high text) o refl e

number_within : (p : Parameter) (low high : ℕ) (pairs : List QueryPair) (o : Option ℕ) → number_at p low high pairs ≡ Ok o → IfSome o (λ n. (low ≤ n) × (n ≤ high))
number_within p low high pairs o e = read_within p low high (first_value (parameter_word p) pairs) o e

-- ---- lists

page_is : (pairs : List QueryPair) (page : ListPage) → page_in pairs ≡ Ok page → IsPage page
page_is pairs page e =
    let most = step (most_in pairs) _ page e in
    let given = step (number_at parameter.MaxResults 0 (2 ^ 31 - 1) pairs) _ most.value most.first in
    let few : min (unwrap_or given.value 500) 500 ≡ most.value = cc in
    let same : ◌≡◌ {A = Result ListPage RequestFault} (Ok (record { most = most.value; token = token_in pairs })) (Ok page) = most.rest in
    let is : ◌≡◌ {A = ListPage} (record { most = most.value; token = token_in pairs }) page = cc in
    subst IsPage is (record { most = omega arith; token = unless_empty_is (first_value (codes "pageToken") pairs) })

-- ---- bounds

bound_is : (p : Parameter) (m : Option ℤ) (v : Option ℕ) (o : Option Bound) → IfSome v (λ n. n < 2 ^ 63) → one_bound p m v ≡ Ok o → IfSome o IsBound
bound_is p None None o small e = let same : None ≡ o = cc in subst (λ x. IfSome x IsBound) same tt
bound_is p None (Some n) o small e = let same : Some (bound.Version n) ≡ o = cc in subst (λ x. IfSome x IsBound) same small
bound_is p (Some m) None o small e = let same : Some (bound.Moment m) ≡ o = cc in subst (λ x. IfSome x IsBound) same tt
bound_is p (Some m) (Some n) o small e = absurd cc

version_is : (p : Parameter) (pairs : List QueryPair) (o : Option ℕ) → version_at p pairs ≡ Ok o → IfSome o (λ n. n < 2 ^ 63)
version_is p pairs o e = version_small o (number_within p 0 (2 ^ 63 - 1) pairs o e)

at_is : (pairs : List QueryPair) (o : Option Bound) → at_in pairs ≡ Ok o → IfSome o IsBound
at_is pairs o e =
    let version = step (version_at parameter.Version pairs) _ o e in
    let moment = step (moment_at parameter.Timestamp pairs) _ o version.rest in
    bound_is parameter.Timestamp moment.value version.value o (version_is parameter.Version pairs version.value version.first) moment.rest

two_is : (p q : Parameter) (pairs : List QueryPair) (o : Option Bound) → (moment_at p pairs >>= λ moment. version_at q pairs >>= λ version. one_bound q moment version) ≡ Ok o → IfSome o IsBound
two_is p q pairs o e =
    let moment = step (moment_at p pairs) _ o e in
    let version = step (version_at q pairs) _ o moment.rest in
    bound_is q moment.value version.value o (version_is q pairs version.value version.first) version.rest

start_is : (token : Option (List ℕ)) (start o : Option Bound) → IfSome start IsBound → start_or_token token start ≡ Ok o → (IsSome o ⊎ IsSome token) × IfSome o IsBound
start_is token (Some b) o is e =
    let same : Some b ≡ o = cc in
    subst (λ x. (IsSome x ⊎ IsSome token) × IfSome x IsBound) same (inl refl, is)
start_is (Some t) None o is e =
    let same : None ≡ o = cc in
    subst (λ (x : Option Bound). (IsSome x ⊎ IsSome (Some t)) × IfSome x IsBound) same (inr refl, tt)
start_is None None o is e = absurd cc

from_is : (pairs : List QueryPair) (token : Option (List ℕ)) (o : Option Bound) → from_in pairs token ≡ Ok o → (IsSome o ⊎ IsSome token) × IfSome o IsBound
from_is pairs token o e =
    let start = step (start_in pairs) _ o e in
    start_is token start.value o (two_is parameter.StartingTimestamp parameter.StartingVersion pairs start.value start.first) start.rest

-- ---- a query's body

as_fault_is : (r : Result QueryBody QueryFault) (q : QueryBody) → as_fault r ≡ Ok q → r ≡ Ok q
as_fault_is (Ok body) q e = cc
as_fault_is (Err query_fault.BadBody) q e = absurd cc
as_fault_is (Err (query_fault.BadParameter name)) q e = absurd cc
as_fault_is (Err query_fault.NoMemory) q e = absurd cc

-- ---- by route

by_what : (r : Route) (w v : What) → IsAsked r (Ok w) → ◌≡◌ {A = Result What RequestFault} (Ok w) (Ok v) → IsAsked r (Ok v)
by_what r w v h e = let same : w ≡ v = cc in subst (λ x. IsAsked r (Ok x)) same h

list_shares_is : (pairs : List QueryPair) (w : What) → asked.list_shares pairs ≡ Ok w → IsAsked route.ListShares (Ok w)
list_shares_is pairs w e =
    let page = step (page_in pairs) _ w e in
    by_what _ _ w (refl, page_is pairs page.value page.first) page.rest

get_share_is : (names : List (List ℕ)) (w : What) → asked.get_share names ≡ Ok w → IsAsked route.GetShare (Ok w)
get_share_is names w e =
    let share = step (name_at 1 names) _ w e in
    by_what _ _ w (refl, tt) share.rest

list_schemas_is : (names : List (List ℕ)) (pairs : List QueryPair) (w : What) → asked.list_schemas names pairs ≡ Ok w → IsAsked route.ListSchemas (Ok w)
list_schemas_is names pairs w e =
    let page = step (page_in pairs) _ w e in
    let share = step (name_at 1 names) _ w page.rest in
    by_what _ _ w (refl, page_is pairs page.value page.first) share.rest

list_tables_is : (names : List (List ℕ)) (pairs : List QueryPair) (w : What) → asked.list_tables names pairs ≡ Ok w → IsAsked route.ListTables (Ok w)
list_tables_is names pairs w e =
    let page = step (page_in pairs) _ w e in
    let share = step (name_at 1 names) _ w page.rest in
    let schema = step (name_at 3 names) _ w share.rest in
    by_what _ _ w (refl, page_is pairs page.value page.first) schema.rest

list_all_is : (names : List (List ℕ)) (pairs : List QueryPair) (w : What) → asked.list_all names pairs ≡ Ok w → IsAsked route.ListAll (Ok w)
list_all_is names pairs w e =
    let page = step (page_in pairs) _ w e in
    let share = step (name_at 1 names) _ w page.rest in
    by_what _ _ w (refl, page_is pairs page.value page.first) share.rest

version_asked : (names : List (List ℕ)) (pairs : List QueryPair) (w : What) → asked.version names pairs ≡ Ok w → IsAsked route.Version (Ok w)
version_asked names pairs w e =
    let from = step (moment_at parameter.StartingTimestamp pairs) _ w e in
    let table = step (table_at names) _ w from.rest in
    by_what _ _ w (refl, tt) table.rest

metadata_asked : (names : List (List ℕ)) (pairs : List QueryPair) (w : What) → asked.metadata names pairs ≡ Ok w → IsAsked route.Metadata (Ok w)
metadata_asked names pairs w e =
    let at = step (at_in pairs) _ w e in
    let table = step (table_at names) _ w at.rest in
    by_what _ _ w (refl, at_is pairs at.value at.first) table.rest

query_asked : (names : List (List ℕ)) (bytes : List ℕ) (w : What) → asked.query names bytes ≡ Ok w → IsAsked route.Query (Ok w)
query_asked names bytes w e =
    let body = step (as_fault (query_in bytes)) _ w e in
    let table = step (table_at names) _ w body.rest in
    by_what _ _ w (refl, query_is bytes body.value (as_fault_is (query_in bytes) body.value body.first)) table.rest

changes_asked : (names : List (List ℕ)) (pairs : List QueryPair) (w : What) → asked.changes names pairs ≡ Ok w → IsAsked route.Changes (Ok w)
changes_asked names pairs w e =
    let from = step (from_in pairs (token_in pairs)) _ w e in
    let to = step (to_in pairs) _ w from.rest in
    let max = step (max_files_in pairs) _ w to.rest in
    let table = step (table_at names) _ w max.rest in
    let start = from_is pairs (token_in pairs) from.value from.first in
    by_what _ _ w (
      refl,
      record {
        starts = start.0;
        start = start.1;
        end = two_is parameter.EndingTimestamp parameter.EndingVersion pairs to.value to.first;
        most = max_is max.value (number_within parameter.MaxFiles 1 (2 ^ 31 - 1) pairs max.value max.first);
        some = unless_empty_is (first_value (codes "pageToken") pairs);
      },
    ) table.rest

commit_asked : (body : List ℕ) (w : What) → (or_bad_body (offer_in body) >>= λ offer. Ok (what.Commit offer)) ≡ Ok w → IsAsked route.Commit (Ok w)
commit_asked body w e = let offer = step (or_bad_body (offer_in body)) _ w e in by_what _ _ w (refl, tt) offer.rest

refresh_asked : (body : List ℕ) (w : What) → (or_bad_body (refresh_in body) >>= λ location. Ok (what.Refresh location)) ≡ Ok w → IsAsked route.Refresh (Ok w)
refresh_asked body w e = let location = step (or_bad_body (refresh_in body)) _ w e in by_what _ _ w (refl, tt) location.rest

edit_asked : (body : List ℕ) (w : What) → (or_bad_body (edit_in body) >>= λ edit. Ok (what.Edit edit)) ≡ Ok w → IsAsked route.Edit (Ok w)
edit_asked body w e = let edit = step (or_bad_body (edit_in body)) _ w e in by_what _ _ w (refl, tt) edit.rest

what_is : (r : Route) (names : List (List ℕ)) (pairs : List QueryPair) (body : List ℕ) (w : What) → what_at r names pairs body ≡ Ok w → IsAsked r (Ok w)
what_is route.ListShares names pairs body w e = list_shares_is pairs w e
what_is route.GetShare names pairs body w e = get_share_is names w e
what_is route.ListSchemas names pairs body w e = list_schemas_is names pairs w e
what_is route.ListTables names pairs body w e = list_tables_is names pairs w e
what_is route.ListAll names pairs body w e = list_all_is names pairs w e
what_is route.Version names pairs body w e = version_asked names pairs w e
what_is route.Metadata names pairs body w e = metadata_asked names pairs w e
what_is route.Query names pairs body w e = query_asked names body w e
what_is route.Changes names pairs body w e = changes_asked names pairs w e
what_is route.Commit names pairs body w e = commit_asked body w e
what_is route.Refresh names pairs body w e = refresh_asked body w e
what_is route.Edit names pairs body w e = edit_asked body w e
what_is route.File names pairs body w e = absurd cc

asked_by : (r : Route) (names : List (List ℕ)) (pairs : List QueryPair) (body : List ℕ) (read : Result What RequestFault) → what_at r names pairs body ≡ read → IsAsked r read
asked_by r names pairs body (Ok w) e = what_is r names pairs body w e
asked_by r names pairs body (Err f) e = tt

-- ---- no path but a link's has a link's route

-- the route is no link's
abbrev IsNoLink : Option Route → Type 0
IsNoLink o = o ≢ Some route.File

if_no_link : (test : Bool) (a b : Option Route) → IsNoLink a → IsNoLink b → IsNoLink (cond test a b)
if_no_link true a b h k = h
if_no_link false a b h k = k

none_is_no_link : IsNoLink None
none_is_no_link e = absurd cc

abbrev is_link : Route → Bool
is_link route.File = true
is_link _ = false

other : (r : Route) → is_link r ≡ false → IsNoLink (Some r)
other r h e =
    let same : r ≡ route.File = cc in
    let not_so : is_link route.File ≡ false = subst (λ x. is_link x ≡ false) same h in
    absurd cc

table_no_link : (word : List ℕ) → IsNoLink (table_route word)
table_no_link word =
    if_no_link _ _ _ (other route.Version refl) (if_no_link _ _ _ (other route.Metadata refl) (if_no_link _ _ _ (other route.Query refl) (if_no_link _ _ _ (other route.Changes refl) none_is_no_link)))

share_no_link : (word : List ℕ) → IsNoLink (share_route word)
share_no_link word = if_no_link _ _ _ (other route.ListSchemas refl) (if_no_link _ _ _ (other route.ListAll refl) none_is_no_link)

provider_no_link : (word : List ℕ) → IsNoLink (provider_route word)
provider_no_link word = if_no_link _ _ _ (other route.Commit refl) (if_no_link _ _ _ (other route.Refresh refl) none_is_no_link)

admin_no_link : (word : List ℕ) → IsNoLink (admin_route word)
admin_no_link word = if_no_link _ _ _ (other route.Edit refl) none_is_no_link

route_no_link : (segments : List (List ℕ)) → IsNoLink (route_of segments)
route_no_link [] = none_is_no_link
route_no_link (a ∷ []) = if_no_link _ _ _ (other route.ListShares refl) none_is_no_link
route_no_link (a ∷ b ∷ []) =
    if_no_link _ _ _ (other route.GetShare refl) (if_no_link _ _ _ (provider_no_link b) (if_no_link _ _ _ (admin_no_link b) none_is_no_link))
route_no_link (a ∷ share ∷ c ∷ []) = if_no_link _ _ _ (share_no_link c) none_is_no_link
route_no_link (a ∷ share ∷ c ∷ schema ∷ []) = none_is_no_link
route_no_link (a ∷ share ∷ c ∷ schema ∷ e ∷ []) = if_no_link _ _ _ (other route.ListTables refl) none_is_no_link
route_no_link (a ∷ share ∷ c ∷ schema ∷ e ∷ table ∷ []) = none_is_no_link
route_no_link (a ∷ share ∷ c ∷ schema ∷ e ∷ table ∷ g ∷ []) = if_no_link _ _ _ (table_no_link g) none_is_no_link
route_no_link (a ∷ share ∷ c ∷ schema ∷ e ∷ table ∷ g ∷ more ∷ segments) = none_is_no_link

-- ---- requests

bearer_is : (digest : Option (List ℕ)) (r : Route) (format : ResponseFormat) (names : List (List ℕ)) (query : Option (List ℕ)) (body : List ℕ) → r ≢ route.File → IsInForm (with_bearer digest r format names query body)
bearer_is None r format names query body differs = tt
bearer_is (Some digest) r format names query body differs = (differs, asked_by r names (pairs_or_none query) body (what_at r names (pairs_or_none query) body) refl)

if_in_form : (test : Bool) (a b : Request) → IsInForm a → IsInForm b → IsInForm (cond test a b)
if_in_form true a b h k = h
if_in_form false a b h k = k

route_is : (head : Head) (o : Option Route) (names : List (List ℕ)) (query : Option (List ℕ)) (body : List ℕ) → IsNoLink o → IsInForm (by_route head o names query body)
route_is head None names query body differs = tt
route_is head (Some r) names query body differs =
    if_in_form (has_method (route_row r).method head.method) _ _
    (bearer_is (bearer_in head.fields) r (format_in head.fields) names query body (λ e. differs (ap (λ x. Some x) e))) tt

-- HEAD is not GET, so it asks for no part
no_part : (head : Head) → is_head head ≡ true → span_of head ≡ None
no_part head is =
    let method : head.method ≡ codes "HEAD" = (bytes_eq-Decides head.method (codes "HEAD")).0 is in
    rw method refl

link_is : (head : Head) (file query : Option (List ℕ)) (other : Request) → IsInForm other → IsInForm (link_or head file query other)
link_is head None query other h = h
link_is head (Some file) query other h =
    if_in_form (has_method (route_row route.File).method head.method) (link_request head (link_target file query)) (turned_away (early.WrongMethod (route_row route.File).method)) (no_part head) tt

below_is : (head : Head) (below query : Option (List ℕ)) (body : List ℕ) → IsInForm (below_in head below query body)
below_is head None query body = tt
below_is head (Some below) query body =
    link_is head (after (codes "files/") below) query (at_path head below query body)
    (route_is head (route_of (segments_in below)) (segments_in below) query body (route_no_link (segments_in below)))

pub requests_are_in_form : RequestsAreInForm
requests_are_in_form head body = below_is head (below_endpoint (split_query head.target).0) (split_query head.target).1 body
