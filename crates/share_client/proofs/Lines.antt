-- What a link that tells its lines tells of one that was used.
use Rattle.std.proofs.Common.{◌≡◌, ℕ, Bool, inr, List, [], ◌∷◌, ◌++◌, Option, Some, Result, refl, ap, ◌∙◌}
use Rattle.edge_core.proofs.Tellings.{told_on}
use Rattle.edge_core.specs.Lines.{PeerLine, ClosedLine, ComesFrom, closed_line, with_line}
use Rattle.share_client.specs.Exchanges.{Exchanges, Talked}
use Rattle.share_client.specs.Sides.{Known, Side}
use Rattle.share_client.specs.declared.exchange.Response.{Response}
use Rattle.share_client.specs.declared.fault.ClientFault.{ClientFault}
use Rattle.share_client.specs.declared.target.Target.{Target}

pub line_used :
    (to_head : Bool) (t : Target) (text : List ℕ) (result : Result Response ClientFault)
    {L : Type 0} (coming : L → Option (List PeerLine)) (closed : L → Option (List ClosedLine)) (link link_new : L) (mid : Option (List PeerLine))
    (left holds holds_last : Option (List ℕ)) (reads writes : ℕ)
    → ComesFrom t.host t.port (coming link) mid left holds
    → coming link_new ≡ mid
    → closed link_new ≡ with_line (closed link) (closed_line holds_last reads writes)
    → ((bytes : List ℕ) → left ≡ Some bytes → holds ≡ Some [] → (written : List ℕ) × (holds_last ≡ Some written) × Talked to_head text bytes written result)
    → Known coming closed link link_new (Exchanges to_head t text result)
line_used to_head t text result coming closed link link_new mid left holds holds_last reads writes comes same went talk old tells =
    let a = told_on (coming link) mid _ old.coming tells.coming_is comes in
    let line = a.2 in
    let b = talk line.0 line.2 line.3 in
    let new : Side = record { coming = a.0; closed = old.closed ++ closed_line (Some b.0) reads writes ∷ [] } in (
      new,
      record {
        coming_is = same ∙ a.1;
        closed_is = went ∙ ap (λ o. with_line o (closed_line holds_last reads writes)) tells.closed_is ∙ ap (λ o. Some (old.closed ++ closed_line o reads writes ∷ [])) b.1;
      },
      inr (line.0, b.0, record { came = line.1; went = (reads, writes, refl) }, b.2),
    )
