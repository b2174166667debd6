use Rattle.share_commands.proofs.Promise.{equal_views, serve_keeps, stdio_keeps, writes_replies}
use Rattle.share_commands.proofs.law.headline.Goals as goal

pub returns-clause-stdio : goal.returns-clause-stdio
returns-clause-stdio g c = stdio_keeps c.chains_are_whole.ensures.files

pub returns-clause-serve : goal.returns-clause-serve
returns-clause-serve g c = serve_keeps _ _ _ _ _ _ _ _ _ _ c.chains_are_whole.ensures.files

pub returns-clause-replies : goal.returns-clause-replies
returns-clause-replies g c = writes_replies

pub returns-clause-alike : goal.returns-clause-alike
returns-clause-alike g c = equal_views
