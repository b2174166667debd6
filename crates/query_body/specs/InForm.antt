-- What every query that is read satisfies, besides the types of its fields.
use Rattle.std.specs.Prelude.{◌≢◌, ℕ, ◌^◌, ◌<◌, List, [], Option, Some, IsSome, IfSome}
use Rattle.query_body.specs.declared.query.QueryBody.{QueryBody}

-- no token is the empty text
abbrev pub IsToken : Option (List ℕ) → Type 0
IsToken token = token ≢ Some []

-- a number from 1 to 2^31 - 1
abbrev pub IsMax : Option ℕ → Type 0
IsMax max = IfSome max (λ n. (0 < n) × (n < 2 ^ 31))

-- not both a version and a moment
pub record IsQuery (body : QueryBody) : Type 0 where
  pub version : IfSome body.version (λ v. v < 2 ^ 63)
  pub one : IsSome body.version → ¬ (IsSome body.moment)
  pub max : IsMax body.max
  pub token : IsToken body.token
