use Rattle.std.proofs.Common.{◌≡◌, Ok, Err, rules}
use Rattle.std.proofs.lemmas.Result.{err_from_is_err_and}
use Rattle.http_message.specs.Responses.{response_form}
use Rattle.http_wire.specs.declared.body.BodyRead.TheVariants as body
use Rattle.http_wire.proofs.Replies.{unformed, formed}
use Rattle.http_wire.proofs.responses.read_behind_head.Goals as goal

pub returns-in-Err-clause-read : goal.returns-in-Err-clause-read
returns-in-Err-clause-read g c =
    let is : response_form 268435456 c.args.to_head c.args.head ≡ Err c.in-Err.field-0 = search rules in
    unformed g.S.Source.left c.args.to_head c.args.head c.args.at c.args.inbox.now c.args.source.now c.in-Err.field-0 is

pub returns-in_err-read_body-clause-read : goal.returns-in_err-read_body-clause-read
returns-in_err-read_body-clause-read g c =
    let is : response_form 268435456 c.args.to_head c.args.head ≡ Ok c.in-Ok.form = search rules in
    let p = err_from_is_err_and c.from_residual.result c.from_residual.ensures.1 in
    rw p.1 (formed g.S.Source.left c.args.to_head c.in-Ok.form c.args.head c.args.at c.read_body.new.body _ _ _ _ (Err p.0) is c.in_err-read_body.ensures.read)

pub returns-in-Whole-clause-read : goal.returns-in-Whole-clause-read
returns-in-Whole-clause-read g c =
    let is : response_form 268435456 c.args.to_head c.args.head ≡ Ok c.in-Ok.form = search rules in
    formed g.S.Source.left c.args.to_head c.in-Ok.form c.args.head c.args.at c.read_body.new.body _ _ _ _ (Ok body.Whole) is (rw c.in-Whole.is at c.in_ok-read_body.ensures.read)

pub returns-in-Ended-clause-read : goal.returns-in-Ended-clause-read
returns-in-Ended-clause-read g c =
    let is : response_form 268435456 c.args.to_head c.args.head ≡ Ok c.in-Ok.form = search rules in
    formed g.S.Source.left c.args.to_head c.in-Ok.form c.args.head c.args.at c.read_body.new.body _ _ _ _ (Ok body.Ended) is (rw c.in-Ended.is at c.in_ok-read_body.ensures.read)

pub returns-in-Refused-clause-read : goal.returns-in-Refused-clause-read
returns-in-Refused-clause-read g c =
    let is : response_form 268435456 c.args.to_head c.args.head ≡ Ok c.in-Ok.form = search rules in
    formed g.S.Source.left c.args.to_head c.in-Ok.form c.args.head c.args.at c.read_body.new.body _ _ _ _ (Ok (body.Refused c.in-Refused.field-0)) is (rw c.in-Refused.is at c.in_ok-read_body.ensures.read)
