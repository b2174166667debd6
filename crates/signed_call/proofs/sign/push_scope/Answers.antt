use Rattle.std.proofs.Common.{◌≡◌, ◌++◌, append_assoc, codes, string_bytes}
use Rattle.signed_call.specs.Signing.{scope}
use Rattle.signed_call.proofs.Lists.{on_ok_written}
use Rattle.signed_call.proofs.sign.push_scope.Goals as goal

pub returns : goal.returns
unfolding scope
returns c =
    let whole : string_bytes c.push_str-2.new.self ++ codes "/s3/aws4_request" ≡ string_bytes c.args.out.now ++ scope c.args.region.now c.args.stamp.now =
    rw (c.in_ok-push_str-2.ensures.bytes, c.in_ok-push_str.ensures.bytes, c.in_ok-push_day.ensures) (simp append_assoc) in
    on_ok_written c.push_str-3.result (string_bytes c.push_str-2.new.self) _ (codes "/s3/aws4_request") _ c.push_str-3.ensures.bytes whole
