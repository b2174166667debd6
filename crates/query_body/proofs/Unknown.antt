-- Fields that aren't known are passed over.
use Rattle.std.proofs.Common.{◌≡◌, [], cond, Result, Ok, Err, refl, ap, ◌∙◌, arith}
use Rattle.std.specs.Prelude.{codes, is_some}
use Rattle.json_tree.specs.Fields.{present}
use Rattle.json_tree.specs.Results.{◌>>=◌}
use Rattle.serde_json.specs.Data.{Data}
use Rattle.serde_json.specs.Find.{as_object}
use Rattle.query_body.specs.Fields.{SameMembers, query_fields}
use Rattle.query_body.specs.Query.{fields_in, query_of_fields, query_of_value}
use Rattle.query_body.specs.declared.query.Fields.{Fields}
use Rattle.query_body.specs.declared.query.QueryFault.TheVariants as fault

bind_same : {A B F : Type 0} (r : Result A F) (f g : A → Result B F) → ((a : A) → f a ≡ g a) → (r >>= f) ≡ (r >>= g)
bind_same (Ok a) f g same = same a
bind_same (Err e) f g same = refl

fields_same : (d e : Data) → SameMembers query_fields d e → fields_in d ≡ fields_in e
unfolding fields_in
fields_same d e same =
    let max : present (codes "maxFiles") d ≡ present (codes "maxFiles") e = same 0 [] (omega arith) in
    let version : present (codes "version") d ≡ present (codes "version") e = same 1 [] (omega arith) in
    let time : present (codes "timestamp") d ≡ present (codes "timestamp") e = same 2 [] (omega arith) in
    let hint : present (codes "jsonPredicateHints") d ≡ present (codes "jsonPredicateHints") e = same 3 [] (omega arith) in
    let token : present (codes "pageToken") d ≡ present (codes "pageToken") e = same 4 [] (omega arith) in
    simp (max, version, time, hint, token)

ranges_same : (d e : Data) (f : Fields) → SameMembers query_fields d e → query_of_fields d f ≡ query_of_fields e f
unfolding query_of_fields
ranges_same d e f same =
    let start : present (codes "startingVersion") d ≡ present (codes "startingVersion") e = same 5 [] (omega arith) in
    let end : present (codes "endingVersion") d ≡ present (codes "endingVersion") e = same 6 [] (omega arith) in
    let refresh : present (codes "refreshToken") d ≡ present (codes "refreshToken") e = same 7 [] (omega arith) in
    simp (start, end, refresh)

pub queries_same : (d e : Data) → is_some (as_object d) ≡ is_some (as_object e) → SameMembers query_fields d e → query_of_value d ≡ query_of_value e
queries_same d e object same =
    ap (λ b. cond b (fields_in d >>= query_of_fields d) (Err fault.BadBody)) object
    ∙ ap (λ r. cond (is_some (as_object e)) (r >>= query_of_fields d) (Err fault.BadBody)) (fields_same d e same)
    ∙ ap (λ r. cond (is_some (as_object e)) r (Err fault.BadBody)) (bind_same (fields_in e) (query_of_fields d) (query_of_fields e) (λ f. ranges_same d e f same))
