-- Reading a body piece by piece.
use Rattle.std.proofs.Common.{◌≡◌, ℕ, suc, ◌+◌, List, [], ◌∷◌, ◌++◌, length, take, length-append, Bool, true, false, cond, not, Option, Some, None, Result, Ok, Err, refl, sym, ap, ap₂, ◌∙◌, arith, append_assoc, true≢false}
use Rattle.std.specs.Prelude.{◌||◌, ◌≤◌, IfSome, filter_map, flat_map, option_to_list, if◌then◌else◌}
use Rattle.std.specs.List.{cons_option, list_any, position_or_len}
use Rattle.std.proofs.lemmas.List.{append-nil}
use Rattle.std.specs.Borrow.{Bor}
use Rattle.std.specs.Option.{option_map_or}
use Rattle.std.specs.Str.{is_utf8, chars}
use Rattle.json.specs.Json.{value}
use Rattle.json.specs.Lex.{punctuate, lex}
use Rattle.json_print.specs.Lines.{lines as pieces}
use Rattle.delta_lines.specs.Bodies.{delta_line_at, delta_lines_in, is_bad}
use Rattle.share_lines.specs.Bodies.{start_of}
use Rattle.delta_lines.specs.Pieces.{TakesPiece}
use Rattle.share_lines.specs.declared.faults.LinesFault.{LinesFault}
use Rattle.share_lines.specs.declared.faults.LinesFault.TheVariants as fault
use Rattle.delta_lines.specs.declared.kinds.DeltaLine.{DeltaLine}

-- an empty piece has no line
pub empty_line : delta_line_at [] ≡ None
unfolding is_utf8 chars value punctuate lex
empty_line = refl

pub empty_taken : (piece : List ℕ) (old : List DeltaLine) → length piece ≡ 0 → TakesPiece piece old old true
empty_taken [] old e = record { good = refl; lines = λ taken. sym (append-nil old) ∙ ap (λ o. old ++ option_to_list o) (sym empty_line) }
empty_taken (x ∷ piece) old e = absurd (omega (arith, e))

-- what pieces stand for from a place on, behind lines that were read
abbrev pub read_from : ℕ → List DeltaLine → List (List ℕ) → Result (List DeltaLine) LinesFault
read_from at front ps = if list_any is_bad ps then Err (fault.Bad (at + start_of (position_or_len is_bad ps) ps)) else Ok (front ++ filter_map delta_line_at ps)

pub read_all : (bytes : List ℕ) → read_from 0 [] (pieces bytes) ≡ delta_lines_in bytes
read_all bytes =
    let ps = pieces bytes in
    let place : 0 + start_of (position_or_len is_bad ps) ps ≡ start_of (position_or_len is_bad ps) ps = omega arith in
    ap (λ n. cond (list_any is_bad ps) (Err (fault.Bad n)) (Ok (filter_map delta_line_at ps))) place

bad_case : (at : ℕ) (front : List DeltaLine) (p : List ℕ) (more : List (List ℕ)) (b : Bool) → b ≡ true
    → cond (b || list_any is_bad more) (Err (fault.Bad (at + start_of (cond (not b) (1 + position_or_len is_bad more) 0) (p ∷ more)))) (Ok (front ++ filter_map delta_line_at (p ∷ more))) ≡ Err (fault.Bad at)
bad_case at front p more true e = let here : at + 0 ≡ at = omega arith in ap (λ n. Err (fault.Bad n)) here
bad_case at front p more false e = absurd (true≢false (sym e))

next_start : (n : ℕ) (p : List ℕ) (more : List (List ℕ)) → start_of (suc n) (p ∷ more) ≡ length p + 1 + start_of n more
next_start n p more = length-append (p ++ 10 ∷ []) (flat_map (λ p. p ++ 10 ∷ []) (take n more)) ∙ ap (λ k. k + start_of n more) (length-append p (10 ∷ []))

next_place : (at n : ℕ) (p : List ℕ) (more : List (List ℕ)) → at + start_of (1 + n) (p ∷ more) ≡ at + (length p + 1) + start_of n more
next_place at n p more =
    let one : 1 + n ≡ suc n = omega arith in
    let start = ap (λ k. start_of k (p ∷ more)) one ∙ next_start n p more in
    let whole : start_of (1 + n) (p ∷ more) ≡ length p + 1 + start_of n more = start in
    omega (arith, whole)

next_lines : (o : Option DeltaLine) (front rest : List DeltaLine) → front ++ cons_option o rest ≡ (front ++ option_to_list o) ++ rest
next_lines None front rest = ap (λ ls. ls ++ rest) (sym (append-nil front))
next_lines (Some l) front rest = sym (append_assoc front (l ∷ []) rest)

good_case : (at : ℕ) (front : List DeltaLine) (p : List ℕ) (more : List (List ℕ)) (b : Bool) → b ≡ false
    → cond (b || list_any is_bad more) (Err (fault.Bad (at + start_of (cond (not b) (1 + position_or_len is_bad more) 0) (p ∷ more)))) (Ok (front ++ cons_option (delta_line_at p) (filter_map delta_line_at more)))
    ≡ read_from (at + (length p + 1)) (front ++ option_to_list (delta_line_at p)) more
good_case at front p more true e = absurd (true≢false e)
good_case at front p more false e =
    ap₂ (λ n ls. cond (list_any is_bad more) (Err (fault.Bad n)) (Ok ls)) (next_place at (position_or_len is_bad more) p more) (next_lines (delta_line_at p) front (filter_map delta_line_at more))

unless_bad : (b taken : Bool) → taken ≡ not b → taken ≡ true → b ≡ false
unless_bad true taken e t = absurd (true≢false (sym t ∙ e))
unless_bad false taken e t = refl

where_bad : (b taken : Bool) → taken ≡ not b → taken ≡ false → b ≡ true
where_bad true taken e t = refl
where_bad false taken e t = absurd (true≢false (sym e ∙ t))

-- one piece more was read
pub piece_more : (at : ℕ) (front new : List DeltaLine) (p : List ℕ) (ps more : List (List ℕ)) (taken : Bool) → ps ≡ p ∷ more → TakesPiece p front new taken → taken ≡ true
    → read_from at front ps ≡ read_from (at + (length p + 1)) new more
piece_more at front new p ps more taken is takes t =
    ap (read_from at front) is ∙ good_case at front p more (is_bad p) (unless_bad (is_bad p) taken takes.good t)
    ∙ ap (λ ls. read_from (at + (length p + 1)) ls more) (sym (takes.lines t))

-- a piece is outside the grammar
pub piece_bad : (at : ℕ) (front new : List DeltaLine) (p : List ℕ) (ps more : List (List ℕ)) (taken : Bool) → ps ≡ p ∷ more → TakesPiece p front new taken → taken ≡ false
    → read_from at front ps ≡ Err (fault.Bad at)
piece_bad at front new p ps more taken is takes t =
    ap (read_from at front) is ∙ bad_case at front p more (is_bad p) (where_bad (is_bad p) taken takes.good t)

-- the bytes that are left are fewer
pub few_more : (o : Option (Bor (List ℕ))) (piece left : List ℕ) (at total : ℕ) → IfSome o (λ rest. length piece + 1 + length rest.now ≡ length left) → length piece ≤ length left → at + (length left + 1) ≤ total
    → at + (length piece + 1) + option_map_or (λ t. length t.now + 1) o 0 ≤ total
few_more None piece left at total whole short few = omega (arith, short, few)
few_more (Some rest) piece left at total whole short few = omega (arith, whole, few)
