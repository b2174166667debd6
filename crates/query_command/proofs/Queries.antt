-- From the bytes of the input to the query that they ask.
use Rattle.std.proofs.Common.{◌≡◌, ℕ, ◌<◌, ◌≤◌, List, [], ◌++◌, length, Option, Some, None, refl, sym, ap, ◌∙◌, subst, arith, append_assoc, length-append, Result, Ok, Err, Bool, true, false, true≢false}
use Rattle.std.specs.Prelude.{IfSome, nat_le, take, if◌then◌else◌}
use Rattle.std.specs.Bool.{OnTrue}
use Rattle.std.specs.Io.KnownBytes.{append_known, prepend_known}
use Rattle.std.proofs.lemmas.List.{append-nil}
use Rattle.std.proofs.lemmas.Bool.{le-leb}
use Rattle.std.proofs.lemmas.Bool.Decides.{nat_tests}
use Rattle.edge_core.specs.Faults.{Rose}
use Rattle.edge_core.specs.Objects.{Between, Grows}
use Rattle.edge_core.proofs.Growth.{Grows-itself}
use Rattle.query_body.specs.Query.{query_in}
use Rattle.query_body.specs.declared.query.QueryBody.{QueryBody}
use Rattle.query_command.specs.Outside.{Outside}
use Rattle.query_command.specs.Answer.{IsAnswer, QueryEnds, QueryRuns}
use Rattle.query_command.specs.AnswerSteps.{Found}
use Rattle.query_command.specs.Query.{IsReadToEnd, asked_in, if_whole, input_limit}
use Rattle.query_command.specs.QuerySteps.{IsAsked, IsBody}
use Rattle.query_command.specs.Table.{lines_in}
use Rattle.query_command.specs.Writing.{LeavesRest, Prints}
use Rattle.query_command.specs.declared.ends.End.{End}
use Rattle.query_command.specs.declared.ends.End.TheVariants as ends

-- one piece more was read
pub piece_more : (old mid new : Option (List ℕ)) (bytes piece : List ℕ) → old ≡ prepend_known bytes mid → mid ≡ prepend_known piece new → old ≡ prepend_known (bytes ++ piece) new
piece_more old mid None bytes piece e f = e ∙ ap (prepend_known bytes) f
piece_more old mid (Some left) bytes piece e f = e ∙ ap (prepend_known bytes) f ∙ ap Some (sym (append_assoc bytes piece left))

-- nothing is left: these bytes were all
pub all_read : (old new : Option (List ℕ)) (bytes : List ℕ) → old ≡ prepend_known bytes new → IfSome new (λ left. left ≡ []) → IfSome old (λ left. left ≡ bytes) × IsReadToEnd old new
all_read old None bytes e empty = subst (λ o. IfSome o (λ left. left ≡ bytes) × IsReadToEnd o None) (sym e) (tt, refl)
all_read old (Some left) bytes e empty =
    subst (λ o. IfSome o (λ all. all ≡ bytes) × IsReadToEnd o (Some left)) (sym e) (ap (λ l. bytes ++ l) empty ∙ append-nil bytes, ap Some empty)

-- more was read than an input may have
pub read_too_long : (old new : Option (List ℕ)) (bytes : List ℕ) → old ≡ prepend_known bytes new → input_limit < length bytes → IfSome old (λ left. input_limit < length left)
read_too_long old None bytes e long = subst (λ o. IfSome o (λ left. input_limit < length left)) (sym e) tt
read_too_long old (Some left) bytes e long = subst (λ o. IfSome o (λ all. input_limit < length all)) (sym e) (omega (arith, long, length-append bytes left))

asks_if : (fits : Bool) (asks : Option QueryBody) → fits ≡ true → (if fits then asks else None) ≡ asks
asks_if true asks is = refl
asks_if false asks is = absurd (true≢false (sym is))

asks_none : (fits : Bool) (asks : Option QueryBody) → fits ≡ false → (if fits then asks else None) ≡ None
asks_none true asks is = absurd (true≢false is)
asks_none false asks is = refl

short_asks : (bytes : List ℕ) → length bytes ≤ input_limit → asked_in bytes ≡ if_whole (query_in bytes)
short_asks bytes short = asks_if (nat_le (length bytes) input_limit) (if_whole (query_in bytes)) (le-leb (length bytes) input_limit short)

long_asks : (bytes : List ℕ) → input_limit < length bytes → asked_in bytes ≡ None
long_asks bytes long = asks_none (nat_le (length bytes) input_limit) (if_whole (query_in bytes)) (grind (arith, nat_tests, long))

each_asks : (old : Option (List ℕ)) (bytes : List ℕ) (wanted : Option QueryBody) → IfSome old (λ left. left ≡ bytes) → asked_in bytes ≡ wanted → IfSome old (λ left. asked_in left ≡ wanted)
each_asks None bytes wanted is asks = tt
each_asks (Some left) bytes wanted is asks = ap asked_in is ∙ asks

-- what the whole input asks
pub body_asked : (old new : Option (List ℕ)) (before now : ℕ) (bytes : List ℕ) (result : Result QueryBody End) → IfSome old (λ left. left ≡ bytes) → IsReadToEnd old new → length bytes ≤ input_limit
    → IsBody bytes result → IsAsked old new before now result
body_asked old new before now bytes (Ok query) is end short body = (each_asks old bytes (Some query) is (short_asks bytes short ∙ body), end)
body_asked old new before now bytes (Err ends.Input) is end short body = each_asks old bytes None is (short_asks bytes short ∙ body)
body_asked old new before now bytes (Err ends.NoMemory) is end short body = tt
body_asked old new before now bytes (Err other) is end short body = absurd body

-- too long an input asks nothing
pub long_asked : (old : Option (List ℕ)) → IfSome old (λ left. input_limit < length left) → IfSome old (λ left. asked_in left ≡ None)
long_asked None long = tt
long_asked (Some left) long = long_asks left long

-- A query ends at its input: nothing but the input changed.
abbrev pub LeavesOthers : Outside → Outside → Type 0
LeavesOthers old new = new ≡ record old { left = new.left; read_faults = new.read_faults }

same_objects : (old new : Outside) → new.objects ≡ old.objects → Grows old.objects new.objects
same_objects old new same = subst (λ o. Grows old.objects o) (sym same) (Grows-itself old.objects)

on_true : (b : Bool) (P : Type 0) → P → OnTrue b P
on_true true P p = p
on_true false P p = tt

asks_means : (location : List ℕ) (old new : Outside) (end : End) → IsAsked old.left new.left old.read_faults new.read_faults (Err end) → new.held ≡ old.held → QueryEnds location old new end
asks_means location old new ends.Input asked held = (asked, held)
asks_means location old new ends.ReadFault asked held = (asked, held)
asks_means location old new ends.NoMemory asked held = held
asks_means location old new other asked held = absurd asked

-- a query that ends at its input
pub asks_runs : (location : List ℕ) (old new : Outside) (end : End) → IsAsked old.left new.left old.read_faults new.read_faults (Err end) → LeavesOthers old new → QueryRuns location old new end
asks_runs location old new end asked rest = record {
  means = asks_means location old new end asked (ap (λ o. o.held) rest);
  notes = ap (λ o. o.noted) rest;
  note_faults = ap (λ o. o.note_faults) rest;
  grows = same_objects old new (ap (λ o. o.objects) rest);
  same = on_true old.alone _ (ap (λ o. o.objects) rest);
  stored = ap (λ o. o.stored) rest;
}

-- printing changes nothing but the output
pub prints_rest : (text : List ℕ) (old new : Outside) (end : End) → Prints text old new end → LeavesRest old new
prints_rest text old new ends.Done p = p.0
prints_rest text old new ends.WriteFault p = p.0
prints_rest text old new other p = absurd p

-- an answer speaks of the input and of the objects alone
answer_rest : (location : List ℕ) (old mid new : Outside) (text : List ℕ) → mid.left ≡ new.left → mid.objects ≡ new.objects → IsAnswer location old mid (Ok text) → IsAnswer location old new (Ok text)
answer_rest location old mid new text left objects (query, asks, end, between) =
    (query, asks, subst (IsReadToEnd old.left) left end, subst (λ o. Between old.objects o (λ os. lines_in location query os ≡ Ok text)) objects between)

printed_means : (location : List ℕ) (old mid new : Outside) (text : List ℕ) (end : End) → IsAnswer location old new (Ok text) → mid.held ≡ old.held → mid.write_faults ≡ old.write_faults → Prints text mid new end → QueryEnds location old new end
printed_means location old mid new text ends.Done answer held faults p = (text, answer, subst (λ h. new.held ≡ append_known h text) held p.1)
printed_means location old mid new text ends.WriteFault answer held faults p =
    (subst (λ n. Rose n new.write_faults) faults p.1, (text, answer, (p.2.0, subst (λ h. new.held ≡ append_known h (take p.2.0 text)) held p.2.1)))
printed_means location old mid new text other answer held faults p = absurd p

-- The lines of a table were found and printed.
pub printed_runs : (location : List ℕ) (old mid new : Outside) (text : List ℕ) (end : End) → Found location old mid text → Prints text mid new end → QueryRuns location old new end
printed_runs location old mid new text end found p =
    let rest = prints_rest text mid new end p in
    let objects : mid.objects ≡ new.objects = sym (ap (λ o. o.objects) rest) in
    record {
      means = printed_means location old mid new text end (answer_rest location old mid new text (sym (ap (λ o. o.left) rest)) objects found.answers) found.held found.write_faults p;
      notes = ap (λ o. o.noted) rest ∙ found.notes;
      note_faults = ap (λ o. o.note_faults) rest ∙ found.note_faults;
      grows = subst (λ o. Grows old.objects o) objects found.grows;
      same = subst (λ o. OnTrue old.alone (o ≡ old.objects)) objects found.same;
      stored = ap (λ o. o.stored) rest ∙ found.stored;
    }
