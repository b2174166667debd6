use Rattle.std.proofs.Common.{◌≤◌, subst, sym}
use Rattle.bucket_store.proofs.Untold.{puts_untold}
use Rattle.bucket_store.proofs.store.BucketStoreStore.put_absent.Goals as goal

pub returns-clause-object : goal.returns-clause-object
returns-clause-object g c = puts_untold c.args.name.now c.args.bytes.now c.put_numbered-end.result.put

pub returns-clause-keeps : goal.returns-clause-keeps
returns-clause-keeps g c =
    let rest = c.note_put.ensures.rest in
    record { place = rest.place; mark = rest.mark; puts = subst (λ n. c.args.self.now.puts ≤ n) (sym rest.puts) c.put_numbered-end.ensures.rises; end = rest.end }

pub returns-clause-told : goal.returns-clause-told
returns-clause-told g c =
    rw (c.note_put.ensures.rest.road, c.note_put.ensures.rest.puts) (rw (c.as_str-mark.ensures, c.as_str-text.ensures.value) at c.put_numbered-end.ensures.told)
