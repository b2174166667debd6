use Rattle.std.proofs.Common.{◌∙◌, ap}
use Rattle.std.specs.Prelude.{codes}
use Rattle.std.proofs.lemmas.Bool.Decides.{same_from_decides}
use Rattle.std.proofs.lemmas.Slice.Eq.{bytes_eq-Decides}
use Rattle.http_message.specs.Fields.{same_text}
use Rattle.share_request.proofs.capability.is_capability.Goals as goal

pub returns : goal.returns
returns c =
    same_from_decides _ _ c.eq_ignore_ascii_case.ensures.test (bytes_eq-Decides _ _) ∙ ap (λ name. same_text name (codes "delta-sharing-capabilities")) c.name.ensures
