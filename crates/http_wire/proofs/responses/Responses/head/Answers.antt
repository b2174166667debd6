use Rattle.std.specs.declared.alloc.AllocError.{AllocError}
use Rattle.http_wire.specs.declared.inbox.Halt.{Halt}
use Rattle.http_wire.proofs.Replies.{HeadAlone, told_alone, same_head_alone}
use Rattle.http_wire.proofs.responses.Responses.head.Goals as goal
use Rattle.http_wire.proofs.responses.Responses.head.Goals.{in-Ok, in-Err-NoMemory, in-Err-Fault}

pub returns-clause-told : goal.returns-clause-told
returns-clause-told g c =
    let read : HeadAlone AllocError g.S.Source.left c.self.inside.inbox c.final_head.new.inbox c.args.source.now c.final_head.new.source c.match-final_head.result =
    elim c.match-final_head.branch [
      | in-Ok w ↦ let r = w.in-Ok.ensures.read in rw w.result-is (r.0, r.1, r.2, same_head_alone Halt AllocError _ r.1 _ _ w.in-Ok.head r.3)
      | in-Err-NoMemory w ↦ let r = w.in-Err-NoMemory.ensures.read in rw w.result-is (r.0, r.1, r.2, tt)
      | in-Err-Fault w ↦ let r = w.in-Err-Fault.ensures.read in rw w.result-is (r.0, r.1, r.2, tt)
    ] in
    rw (← c.self.view_is) (told_alone AllocError g.S.Source.left _ _ _ _ c.match-final_head.result read)
