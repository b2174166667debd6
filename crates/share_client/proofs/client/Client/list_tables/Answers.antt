use Rattle.std.proofs.Common.{Ok, Err, sym, subst}
use Rattle.std.specs.Prelude.{MatchResult}
use Rattle.share_client.specs.Listings.{ListsTables, ListsTablesOf}
use Rattle.share_client.specs.Servers.{server_in}
use Rattle.share_client.specs.declared.fault.ClientFault.TheVariants as fault
use Rattle.share_client.proofs.Knowing.{known_as, known_same}
use Rattle.share_client.proofs.Listed.{no_server}
use Rattle.share_client.proofs.client.Client.list_tables.Goals as goal

pub returns-in-Ok-clause-told : goal.returns-in-Ok-clause-told
returns-in-Ok-clause-told g c =
    let server = c.in-Ok.server in
    let profile = c.args.self.now.profile in
    let result = c.list_tables.result in
    known_as g.L.Link.coming g.L.Link.closed c.args.link.now c.list_tables.new.link
    (λ s t. MatchResult result (λ v. ListsTables server (Ok v.items) s t) (λ e. ListsTables server (Err e) s t))
    (λ s t. MatchResult result (λ v. ListsTablesOf (server_in profile) (Ok v.items) s t) (λ e. ListsTablesOf (server_in profile) (Err e) s t))
    (λ s t a. subst (λ o. MatchResult result (λ v. ListsTablesOf o (Ok v.items) s t) (λ e. ListsTablesOf o (Err e) s t)) (sym c.in-Ok.ensures) a)
    c.list_tables.ensures.told

pub returns-in-Err-clause-told : goal.returns-in-Err-clause-told
returns-in-Err-clause-told g c =
    known_same g.L.Link.coming g.L.Link.closed c.args.link.now
    (λ s t. ListsTablesOf (server_in c.args.self.now.profile) (Err fault.NoMemory) s t)
    (λ s. no_server (server_in c.args.self.now.profile) s)
