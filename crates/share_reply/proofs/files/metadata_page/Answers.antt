use Rattle.std.proofs.Common.{◌≡◌, [], ◌∷◌, Ok, ap, sym, ◌∙◌, subst}
use Rattle.share_book.specs.Shown.{show_part}
use Rattle.share_book.specs.declared.look.PartFound.{PartFound}
use Rattle.delta_lines.specs.declared.kinds.DeltaLine.TheVariants as line
use Rattle.share_reply.specs.Answer.{of, page}
use Rattle.share_reply.specs.Chains.{NextIsSpelt}
use Rattle.share_reply.specs.Files.{metadata_page}
use Rattle.share_reply.specs.Stops.{as_lines}
use Rattle.share_reply.proofs.Paging.{paged_with}
use Rattle.share_reply.proofs.ShownParts.{shown_meta, shown_protocol}
use Rattle.share_reply.proofs.files.metadata_page.Goals as goal

pub returns-in-Files : goal.returns-in-Files
returns-in-Files c only =
    let keys = c.args.keys.now in
    let version = c.in-Files.version in
    let state = c.in-Files.state in
    let protocol : c.protocol-protocol.result.now ≡ state.protocol = c.protocol-protocol.ensures ∙ ap (λ s. s.protocol) c.get-snapshot.ensures in
    let meta : c.meta-meta.result.now ≡ state.meta = c.meta-meta.ensures ∙ ap (λ s. s.meta) c.get-snapshot.ensures in (
      ap (λ (x : PartFound). as_lines keys (metadata_page (show_part only x))) c.in-Files.is
          ∙ (λ i. Ok (paged_with version (line.Protocol ((shown_protocol only state ∙ sym protocol) i) ∷ line.MetaData ((shown_meta only state ∙ sym meta) i) ∷ [])))
          ∙ ap (λ lines. Ok (paged_with version lines)) (sym c.of.ensures),
      subst (λ (x : PartFound). NextIsSpelt keys (of page (metadata_page (show_part only x)))) (sym c.in-Files.is) tt,
    )
