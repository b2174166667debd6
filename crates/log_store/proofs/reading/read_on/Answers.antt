use Rattle.std.proofs.Common.{arith, ◌∙◌, ◌<◌, ap, Err, Some}
use Rattle.log_store.specs.Reading.{loaded_of}
use Rattle.log_store.proofs.Growing.{looked_more}
use Rattle.log_store.proofs.Keeping.{keeps_then, reading_more, reading_stops, reading_done}
use Rattle.log_store.proofs.reading.read_on.Goals as goal

pub returns-in-Err-Blocked-clause-looked : goal.returns-in-Err-Blocked-clause-looked
returns-in-Err-Blocked-clause-looked g c = looked_more _ _ _ _ _ _ c.loop-version.invariant.looked c.keep_version.ensures.looked

pub returns-in-Err-Failed-clause-looked : goal.returns-in-Err-Failed-clause-looked
returns-in-Err-Failed-clause-looked g c = looked_more _ _ _ _ _ _ c.loop-version.invariant.looked c.keep_version.ensures.looked

pub returns-in-Err-Blocked-clause-log : goal.returns-in-Err-Blocked-clause-log
returns-in-Err-Blocked-clause-log g c =
    let l = c.loop-version.invariant in
    let lt : c.loop-version.version < c.args.end = omega arith in
    let looked = looked_more _ _ _ _ _ _ l.looked c.keep_version.ensures.looked in
    reading_stops _ c.args.location.now c.loop-version.version c.args.end c.loop-version.kept c.keep_version.new.kept c.keep_version.result c.in-Err-Blocked.cause _ lt c.requires.stored
    (c.in-Err-Blocked.is ∙ ap Err c.in-Err-Blocked.field-0-is)
    (ap (λ x. loaded_of c.keep_version.new.kept (Some (record { version = c.loop-version.version; cause = x }))) c.in-Err-Blocked.cause-is) l.reading
    (keeps_then _ _ c.args.location.now c.loop-version.version c.args.end c.loop-version.kept c.keep_version.new.kept c.keep_version.result lt looked.grows c.requires.stored c.keep_version.ensures.keeps)

pub loop-version-preserved : goal.loop-version-preserved
loop-version-preserved g c =
    let l = c.loop-version.invariant in
    let lt : c.loop-version.version < c.args.end = omega arith in
    let looked = looked_more _ _ _ _ _ _ l.looked c.keep_version.ensures.looked in
    record {
      room = l.room;
      count = c.in-Ok.ensures.count;
      upto = omega (arith, lt);
      looked = looked;
      later = omega (arith, c.keep_version.ensures.cause.later);
      stored = c.keep_version.ensures.stored ∙ l.stored;
      reading = reading_more _ c.args.location.now c.loop-version.version c.args.end c.loop-version.kept c.keep_version.new.kept c.keep_version.result lt c.requires.stored c.in-Ok.is l.reading
          (keeps_then _ _ c.args.location.now c.loop-version.version c.args.end c.loop-version.kept c.keep_version.new.kept c.keep_version.result lt looked.grows c.requires.stored c.keep_version.ensures.keeps);
    }

pub returns-clause-log : goal.returns-clause-log
returns-clause-log g c = reading_done _ c.args.location.now c.loop-version.version c.args.end c.args.kept.now c.loop-version.kept (omega arith) c.requires.first c.loop-version.invariant.reading
