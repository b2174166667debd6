-- Each table tells its cases apart, and its numbers rise.
use Rattle.std.specs.Prelude.{◌≡◌, ℕ, List, [], ◌∷◌, Bool, true, ◌&&◌, map, nat_lt, IsTrue}
use Rattle.case_table.specs.declared.action_fields.Field.{Field}
use Rattle.case_table.specs.declared.refuse.Refusal.{Refusal}
use Rattle.case_table.specs.declared.routing.Route.{Route}
use Rattle.case_table.specs.declared.values.ValueType.{ValueType}
use Rattle.case_table.specs.Fields.{all_fields, field_row}
use Rattle.case_table.specs.Refusals.{all_refusals, refusal_row}
use Rattle.case_table.specs.Routes.{all_routes, route_row}
use Rattle.case_table.specs.ValueTypes.{value_row}

-- each number is above the one before it, and the first above n
abbrev pub rise_from : ℕ → List ℕ → Bool
rise_from n [] = true
rise_from n (x ∷ xs) = nat_lt n x && rise_from x xs

abbrev pub RefusalsDiffer : Type 0
RefusalsDiffer =
    ((a b : Refusal) → (refusal_row a).word ≡ (refusal_row b).word → a ≡ b)
    × ((a b : Refusal) → (refusal_row a).code ≡ (refusal_row b).code → a ≡ b)
    × IsTrue (rise_from 0 (map (λ refusal. (refusal_row refusal).code) all_refusals))

abbrev pub RoutesDiffer : Type 0
RoutesDiffer =
    ((a b : Route) → (route_row a).word ≡ (route_row b).word → a ≡ b)
    × ((a b : Route) → (route_row a).code ≡ (route_row b).code → a ≡ b)
    × IsTrue (rise_from 0 (map (λ route. (route_row route).code) all_routes))

abbrev pub ValueTypesDiffer : Type 0
ValueTypesDiffer = (a b : ValueType) → (value_row a).word ≡ (value_row b).word → a ≡ b

abbrev pub FieldsDiffer : Type 0
FieldsDiffer =
    ((a b : Field) → (field_row a).kind ≡ (field_row b).kind → (field_row a).name ≡ (field_row b).name → a ≡ b)
    × ((a b : Field) → (field_row a).code ≡ (field_row b).code → a ≡ b)
    × IsTrue (rise_from 0 (map (λ field. (field_row field).code) all_fields))
