use Rattle.std.proofs.Common.{◌≡◌, ◌++◌, append_assoc, codes, string_bytes}
use Rattle.signed_call.specs.Texts.{first_line}
use Rattle.signed_call.proofs.Lists.{on_ok_written}
use Rattle.signed_call.proofs.head.push_first_line.Goals as goal

pub returns : goal.returns
unfolding first_line
returns c =
    let whole : string_bytes c.push_query_text.new.out ++ codes " HTTP/1.1\r\n" ≡ string_bytes c.args.out.now ++ first_line c.args.asked.now =
    rw (
      c.in_ok-push_query_text.ensures,
      c.items.ensures,
      c.in_ok-push_str-3.ensures.bytes,
      c.as_str.ensures,
      c.in_ok-push_str-2.ensures.bytes,
      c.in_ok-push_str.ensures.bytes,
      c.name.ensures,
    )
    (simp append_assoc) in
    on_ok_written c.push_str-4.result (string_bytes c.push_query_text.new.out) _ (codes " HTTP/1.1\r\n") _ c.push_str-4.ensures.bytes whole
