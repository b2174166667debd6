use Rattle.std.proofs.Common.{length, take, subst}
use Rattle.std.proofs.lemmas.Result.{err_from_is_err_and}
use Rattle.http_message.specs.HeadReadings.{ReadsHead}
use Rattle.http_wire.specs.Heads.{IsHeadOpen, IsHeadShort, TellsText}
use Rattle.http_wire.proofs.HeadReads.{head_short, nothing_read, cut_read, none_read, text_found}
use Rattle.http_wire.proofs.Streams.{awaits_weaken, drew_awaits, drew_used}
use Rattle.http_wire.proofs.head.read_head.Goals as goal

pub returns-in_err-end-clause-read : goal.returns-in_err-end-clause-read
returns-in_err-end-clause-read g c =
    let p = err_from_is_err_and c.from_residual.result c.from_residual.ensures.1 in
    rw p.1 (drew_awaits g.S.Source.left (IsHeadShort (ReadsHead g.H.HeadText.is_text c.args.most)) _ _ _ _ _ (awaits_weaken g.S.Source.left (IsHeadShort (ReadsHead g.H.HeadText.is_text c.args.most)) (IsHeadOpen c.args.most) _ _ _ _ (head_short g.H.HeadText.is_text c.args.most) c.in_err-end.ensures.draws) (tt, tt))

pub returns-in_err-found-in-At-clause-read : goal.returns-in_err-found-in-At-clause-read
returns-in_err-found-in-At-clause-read g c =
    let p = err_from_is_err_and c.from_residual-in_err-found-in-At.result c.from_residual-in_err-found-in-At.ensures.1 in
    rw p.1 (drew_awaits g.S.Source.left (IsHeadShort (ReadsHead g.H.HeadText.is_text c.args.most)) _ _ _ _ _ (awaits_weaken g.S.Source.left (IsHeadShort (ReadsHead g.H.HeadText.is_text c.args.most)) (IsHeadOpen c.args.most) _ _ _ _ (head_short g.H.HeadText.is_text c.args.most) c.in_ok-end.ensures.draws) (tt, tt))

pub returns-in_ok-found-in-At-clause-read : goal.returns-in_ok-found-in-At-clause-read
returns-in_ok-found-in-At-clause-read g c =
    let told = rw c.in-At.is at c.in_ok-end.ensures.told in
    let u = c.head_end.new.inbox.0 in
    let tells : TellsText g.H.HeadText.is_text (length (take c.in-At.end u)) (take c.in-At.end u) c.in_ok-found-in-At.found = subst (λ b. TellsText g.H.HeadText.is_text (length (take c.in-At.end b)) (take c.in-At.end b) c.in_ok-found-in-At.found) c.bytes.ensures c.in_ok-found-in-At.ensures in
    drew_used g.S.Source.left (IsHeadShort (ReadsHead g.H.HeadText.is_text c.args.most)) _ _ _ _ _ c.in-At.end _ (awaits_weaken g.S.Source.left (IsHeadShort (ReadsHead g.H.HeadText.is_text c.args.most)) (IsHeadOpen c.args.most) _ _ _ _ (head_short g.H.HeadText.is_text c.args.most) c.in_ok-end.ensures.draws) told.within c.consume.ensures.bytes c.consume.ensures.place
    (text_found g.H.HeadText.is_text c.args.most u c.consume.new.self.0 _ c.in-At.end c.in_ok-found-in-At.found told c.consume.ensures.bytes tells)

pub returns-in-TooLarge-clause-read : goal.returns-in-TooLarge-clause-read
returns-in-TooLarge-clause-read g c =
    let told = rw c.in-TooLarge.is at c.in_ok-end.ensures.told in
    drew_awaits g.S.Source.left (IsHeadShort (ReadsHead g.H.HeadText.is_text c.args.most)) _ _ _ _ _ (awaits_weaken g.S.Source.left (IsHeadShort (ReadsHead g.H.HeadText.is_text c.args.most)) (IsHeadOpen c.args.most) _ _ _ _ (head_short g.H.HeadText.is_text c.args.most) c.in_ok-end.ensures.draws) ((λ ys. none_read g.H.HeadText.is_text c.args.most c.head_end.new.inbox.0 ys told.0 told.1), tt)

pub returns-in-Nothing-clause-read : goal.returns-in-Nothing-clause-read
returns-in-Nothing-clause-read g c =
    let told = rw c.in-Nothing.is at c.in_ok-end.ensures.told in
    drew_awaits g.S.Source.left (IsHeadShort (ReadsHead g.H.HeadText.is_text c.args.most)) _ _ _ _ _ (awaits_weaken g.S.Source.left (IsHeadShort (ReadsHead g.H.HeadText.is_text c.args.most)) (IsHeadOpen c.args.most) _ _ _ _ (head_short g.H.HeadText.is_text c.args.most) c.in_ok-end.ensures.draws) ((told.0, nothing_read g.H.HeadText.is_text c.args.most c.head_end.new.inbox.0 told.1 told.2), tt)

pub returns-in-Cut-clause-read : goal.returns-in-Cut-clause-read
returns-in-Cut-clause-read g c =
    let told = rw c.in-Cut.is at c.in_ok-end.ensures.told in
    drew_awaits g.S.Source.left (IsHeadShort (ReadsHead g.H.HeadText.is_text c.args.most)) _ _ _ _ _ (awaits_weaken g.S.Source.left (IsHeadShort (ReadsHead g.H.HeadText.is_text c.args.most)) (IsHeadOpen c.args.most) _ _ _ _ (head_short g.H.HeadText.is_text c.args.most) c.in_ok-end.ensures.draws) ((told.0, cut_read g.H.HeadText.is_text c.args.most c.head_end.new.inbox.0 told.1 told.2), tt)
