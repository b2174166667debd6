use Rattle.std.proofs.Common.{◌<◌, false, length, map, ap, sym, subst, ◌∙◌, ℕ}
use Rattle.std.specs.Arc.{arc_value}
use Rattle.std.specs.Prelude.{pos}
use Rattle.log_replay.specs.declared.times.Mark.{Mark}
use Rattle.share_book.proofs.Feeds.{cut_is, feed_is}
use Rattle.share_book.proofs.MarkBounds.{mark_is_below}
use Rattle.share_book.proofs.log_part.feed_of.Goals as goal

abbrev none : Mark
none = record { time = pos 0; feed = false; meta_at = 0; protocol_at = 0 }

pub commit_at-requires : goal.commit_at-requires
commit_at-requires c =
    let less : c.args.to < length c.args.marks.now = subst (λ (n : ℕ). c.args.to < n) (sym c.requires.counted) c.requires.kept in
    (mark_is_below c.args.commits.now c.args.marks.now c.args.to none c.requires.marked less).meta

pub commit_at-requires-2 : goal.commit_at-requires-2
commit_at-requires-2 c =
    let less : c.args.to < length c.args.marks.now = subst (λ (n : ℕ). c.args.to < n) (sym c.requires.counted) c.requires.kept in
    (mark_is_below c.args.commits.now c.args.marks.now c.args.to none c.requires.marked less).protocol

pub returns : goal.returns
returns c = λ blocked.
    let first = c.min-first.ensures in
    let less : c.args.to < length c.args.marks.now = subst (λ (n : ℕ). c.args.to < n) (sym c.requires.counted) c.requires.kept in
    feed_is c.args.commits.now c.args.marks.now c.args.from c.args.to none blocked c.of.result c.of-2.result c.in_ok-commit_at.field-0 c.in_ok-commit_at-2.field-0 c.requires.marked less
    (c.of.ensures ∙ c.in_ok-shared.ensures ∙ ap (map arc_value) (cut_is c.args.from c.args.to c.min-first.result c.args.commits.now first))
    (c.of-2.ensures ∙ c.in_ok-from_slice.ensures.items ∙ cut_is c.args.from c.args.to c.min-first.result c.args.marks.now first) c.in_ok-commit_at.ensures c.in_ok-commit_at-2.ensures
