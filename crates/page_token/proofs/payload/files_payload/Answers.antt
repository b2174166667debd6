use Rattle.page_token.proofs.Joined.{joined_files}
use Rattle.page_token.proofs.payload.files_payload.Goals as goal

pub returns-clause-text : goal.returns-clause-text
returns-clause-text c =
    joined_files c.args.files.now _ _ _ _ _ _ _
    c.in_ok-payload.ensures.text c.in_ok-push_edition.ensures.text c.in_ok-push_edition-2.ensures.text c.in_ok-push_asked.ensures.text
    c.in_ok-push_version.ensures.text c.in_ok-push_hint.ensures.text c.in_ok-push_place.ensures.text
