-- Both formats of a reply.
use Rattle.std.proofs.Common.{refl}
use Rattle.share_request.specs.declared.asked.ResponseFormat.TheVariants as format
use Rattle.share_reply.specs.Answer.{Answer, at_version, names, object, one_share, only, page, refused}
use Rattle.share_reply.specs.Bodies.{page_lines, reply_of}
use Rattle.share_reply.specs.Laws.{Agree, FormatsAgree, alike, in_format, lines}
use Rattle.share_reply.specs.Replies.{answered}
use Rattle.share_reply.specs.declared.keys.ReplyKeys.{ReplyKeys}

agree : (keys : ReplyKeys) (a : Answer) → Agree (reply_of keys format.Parquet a) (reply_of keys format.Delta a)
agree keys (refused r) = alike _ tt
agree keys (only allowed) = alike _ tt
agree keys (names n) = alike _ tt
agree keys (one_share s) = alike _ tt
agree keys (at_version v) = alike _ tt
agree keys (page p) = lines p.version (page_lines keys p)
agree keys (object name span) = alike _ tt

pub formats_are_alike : FormatsAgree
formats_are_alike = record { answers = λ keys view now r. refl; replies = λ keys view now r. agree keys (answered keys view now (in_format format.Parquet r)) }
