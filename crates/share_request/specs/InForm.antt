-- What every request that is answered satisfies, besides the types of its fields.
use Rattle.std.specs.Prelude.{◌≡◌, ◌≢◌, ℕ, ◌^◌, ◌<◌, ◌≤◌, ◌⊎◌, List, Option, None, Result, Ok, Err, ⊤, IsSome, IfSome, IsTrue}
use Rattle.case_table.specs.declared.routing.Route.{Route}
use Rattle.case_table.specs.declared.routing.Route.TheVariants as route
use Rattle.share_request.specs.declared.asked.Bound.{Bound}
use Rattle.share_request.specs.declared.asked.Bound.TheVariants as bound
use Rattle.share_request.specs.declared.asked.ListPage.{ListPage}
use Rattle.share_request.specs.declared.asked.Request.{Request}
use Rattle.share_request.specs.declared.asked.Request.TheVariants as request
use Rattle.share_request.specs.declared.asked.What.{What}
use Rattle.share_request.specs.declared.asked.What.TheVariants as what
use Rattle.share_request.specs.declared.fault.RequestFault.{RequestFault}
use Rattle.query_body.specs.InForm.{IsMax, IsQuery, IsToken}

-- the route that asks so
abbrev pub route_of_what : What → Route
route_of_what (what.ListShares page) = route.ListShares
route_of_what (what.GetShare share) = route.GetShare
route_of_what (what.ListSchemas share page) = route.ListSchemas
route_of_what (what.ListTables share schema page) = route.ListTables
route_of_what (what.ListAll share page) = route.ListAll
route_of_what (what.Version table from) = route.Version
route_of_what (what.Metadata table at) = route.Metadata
route_of_what (what.Query table body) = route.Query
route_of_what (what.Changes table from to max token) = route.Changes
route_of_what (what.Commit offer) = route.Commit
route_of_what (what.Refresh location) = route.Refresh
route_of_what (what.Edit edit) = route.Edit

pub record IsPage (page : ListPage) : Type 0 where
  pub most : page.most ≤ 500
  pub token : IsToken page.token

abbrev pub IsBound : Bound → Type 0
IsBound (bound.Version v) = v < 2 ^ 63
IsBound (bound.Moment m) = ⊤

-- the start is there, unless the token is
pub record IsChanges (from to : Option Bound) (max : Option ℕ) (token : Option (List ℕ)) : Type 0 where
  pub starts : IsSome from ⊎ IsSome token
  pub start : IfSome from IsBound
  pub end : IfSome to IsBound
  pub most : IsMax max
  pub some : IsToken token

abbrev pub IsWhat : What → Type 0
IsWhat (what.ListShares page) = IsPage page
IsWhat (what.GetShare share) = ⊤
IsWhat (what.ListSchemas share page) = IsPage page
IsWhat (what.ListTables share schema page) = IsPage page
IsWhat (what.ListAll share page) = IsPage page
IsWhat (what.Version table from) = ⊤
IsWhat (what.Metadata table at) = IfSome at IsBound
IsWhat (what.Query table body) = IsQuery body
IsWhat (what.Changes table from to max token) = IsChanges from to max token
IsWhat (what.Commit offer) = ⊤
IsWhat (what.Refresh location) = ⊤
IsWhat (what.Edit edit) = ⊤

-- what is asked is asked by the route
abbrev pub IsAsked : Route → Result What RequestFault → Type 0
IsAsked r (Ok w) = (route_of_what w ≡ r) × IsWhat w
IsAsked r (Err f) = ⊤

abbrev pub IsInForm : Request → Type 0
IsInForm (request.TurnedAway why) = ⊤
IsInForm (request.ByToken by) = (by.route ≢ route.File) × IsAsked by.route by.asked
IsInForm (request.ByLink by) = IsTrue by.head → by.span ≡ None
