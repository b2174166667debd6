use Rattle.page_token.proofs.Joined.{joined_feed}
use Rattle.page_token.proofs.payload.feed_payload.Goals as goal

pub returns-clause-text : goal.returns-clause-text
returns-clause-text c =
    joined_feed c.args.feed.now _ _ _ _ _ _ _ _
    c.in_ok-payload.ensures.text c.in_ok-push_edition.ensures.text c.in_ok-push_edition-2.ensures.text c.in_ok-push_asked.ensures.text
    c.in_ok-push_asked-2.ensures.text c.in_ok-push_version.ensures.text c.in_ok-push_version-2.ensures.text c.in_ok-push_place.ensures.text
