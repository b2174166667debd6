use Rattle.std.proofs.Common.{◌≡◌, ◌-◌, ◌≤◌, ◌<◌, length, ap, sym, ◌∙◌, arith, option_map}
use Rattle.std.specs.Prelude.{slice_get, option_to_list}
use Rattle.delta_lines.specs.declared.kinds.DeltaLine.TheVariants as line
use Rattle.share_reply.specs.Planned.{content_lines}
use Rattle.share_reply.proofs.Standing.{content_count, get_after, get_back}
use Rattle.share_reply.proofs.lines.rest_at.Goals as goal

pub returns-then-place-count-2 : goal.returns-then-place-count-2
returns-then-place-count-2 c = λ keys a expires.
    let cs = content_lines keys a expires c.args.content.now in
    let es = option_to_list (option_map (λ e. line.End e) c.args.end.now) in
    let count = content_count keys a expires c.args.content.now ∙ sym c.count_of-count.ensures in
    let within : length cs ≤ c.args.place = omega (arith, count) in
    let first : 0 ≡ c.args.place - length cs = omega (arith, count) in
    c.end_at.ensures keys a expires ∙ ap (slice_get es) first ∙ sym (get_back cs es c.args.place within)

pub returns : goal.returns
returns c = λ keys a expires.
    let cs = content_lines keys a expires c.args.content.now in
    let es = option_to_list (option_map (λ e. line.End e) c.args.end.now) in
    let count = content_count keys a expires c.args.content.now ∙ sym c.count_of-count.ensures in
    let within : length cs ≤ c.args.place = omega (arith, count) in
    let after : 0 < c.args.place - length cs = omega (arith, count) in
    sym (get_back cs es c.args.place within ∙ get_after (option_map (λ e. line.End e) c.args.end.now) (c.args.place - length cs) after)
