use Rattle.std.proofs.Common.{inl, inr, Ok, Err}
use Rattle.std.specs.Prelude.{MatchResult}
use Rattle.share_client.specs.Listings.{EachEnds, Lists, ListsEach, ListsTables, shares}
use Rattle.share_client.specs.Steps.{OntoAll}
use Rattle.share_client.proofs.Knowing.{known_as, known_then}
use Rattle.share_client.proofs.Listed.{match_map, tables_ended, tables_listed}
use Rattle.share_client.proofs.lists.list_tables.Goals as goal

pub returns-in-Ok-clause-told : goal.returns-in-Ok-clause-told
returns-in-Ok-clause-told g c =
    let server = c.args.server.now in
    let was = c.new-shares.result.items in
    let names = c.list_all.new.found.items in
    let each = rw c.as_slice.ensures.value at c.list_each.ensures.told in
    known_then g.L.Link.coming g.L.Link.closed c.args.link.now c.list_all.new.link c.list_each.new.link
    (OntoAll (shares server) was names)
    (λ s t. MatchResult c.list_each.result (λ v. ListsEach server names v.items s t) (λ e. EachEnds server names e s t))
    (λ s t. MatchResult c.list_each.result (λ v. ListsTables server (Ok v.items) s t) (λ e. ListsTables server (Err e) s t))
    (λ s t u a b. match_map c.list_each.result (λ v. ListsEach server names v.items t u) (λ v. ListsTables server (Ok v.items) s u) (λ e. EachEnds server names e t u) (λ e. ListsTables server (Err e) s u)
    (λ v each. tables_listed server was names v.items s t u c.new-shares.ensures.items a each)
    (λ e ends. tables_ended server was names e s t u c.new-shares.ensures.items a ends) b)
    c.in-Ok.ensures.told each

pub returns-clause-told : goal.returns-clause-told
returns-clause-told g c =
    let server = c.args.server.now in
    known_as g.L.Link.coming g.L.Link.closed c.args.link.now c.list_all.new.link
    (Lists (shares server) (Err c.in-Err.fault)) (ListsTables server (Err c.in-Err.fault))
    (λ s t lists. inr (inl lists)) c.in-Err.ensures.told
