use Rattle.std.proofs.Common.{◌≡◌, ◌∙◌, ap}
use Rattle.std.proofs.lemmas.Bool.Decides.{same_from_decides}
use Rattle.std.proofs.lemmas.Slice.Eq.{bytes_eq-Decides}
use Rattle.httparse.specs.Grammar.{trim_ows}
use Rattle.http_message.specs.Fields.{same_text}
use Rattle.share_request.proofs.capability.is_word.Goals as goal

pub returns : goal.returns
returns c =
    let text : c.inner.result.now ≡ trim_ows c.args.text.now = c.inner.ensures ∙ ap trim_ows c.as_bytes.ensures.value in
    let word : c.as_bytes-2.result.now ≡ c.args.word.now = c.as_bytes-2.ensures.value in
    same_from_decides _ _ c.eq_ignore_ascii_case.ensures.test (bytes_eq-Decides _ _) ∙ (λ i. same_text (text i) (word i))
