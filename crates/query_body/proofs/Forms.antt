-- What is read is in form.
use Rattle.std.proofs.Common.{◌≡◌, ℕ, ℤ, ◌-◌, ◌^◌, ◌<◌, ◌≤◌, List, [], ◌∷◌, Bool, true, false, cond, leb, ◌&&◌, Option, Some, None, Result, Ok, Err, is_some, refl, sym, subst, arith}
use Rattle.std.specs.Prelude.{pos, negsuc, IfSome, IsSome, codes}
use Rattle.std.proofs.lemmas.Bool.{and_parts, leb-true}
use Rattle.json_tree.specs.Options.{unless_empty}
use Rattle.json_tree.specs.Results.{◌>>=◌}
use Rattle.json_tree.specs.Tree.{tree_in}
use Rattle.json_tree.specs.declared.tree.TreeFault.{TreeFault}
use Rattle.serde_json.specs.Data.{Data}
use Rattle.serde_json.specs.Find.{as_object}
use Rattle.query_body.specs.InForm.{IsMax, IsQuery, IsToken}
use Rattle.query_body.specs.Query.{absent, between, fields_in, moment_beside, query_in, query_of_fields, query_of_tree}
use Rattle.query_body.specs.declared.query.Fields.{Fields}
use Rattle.query_body.specs.declared.query.QueryBody.{QueryBody}
use Rattle.query_body.specs.declared.query.QueryFault.{QueryFault}
use Rattle.query_body.specs.declared.query.QueryFault.TheVariants as query_fault
use Rattle.query_body.specs.declared.query.QueryField.{QueryField}
use Rattle.query_body.specs.declared.query.QueryField.TheVariants as name

-- a step that succeeded, and what it was followed by
pub record Step {A B F : Type 0} (r : Result A F) (f : A → Result B F) (b : B) : Type 0 where
  pub value : A
  pub first : r ≡ Ok value
  pub rest : f value ≡ Ok b

pub step : {A B F : Type 0} (r : Result A F) (f : A → Result B F) (b : B) → (r >>= f) ≡ Ok b → Step r f b
step (Ok a) f b e = record { value = a; first = refl; rest = e }
step (Err x) f b e = absurd cc

pub max_is : (o : Option ℕ) → IfSome o (λ n. (1 ≤ n) × (n ≤ 2 ^ 31 - 1)) → IsMax o
max_is None h = tt
max_is (Some n) h = (omega arith, omega arith)

pub version_small : (o : Option ℕ) → IfSome o (λ n. (0 ≤ n) × (n ≤ 2 ^ 63 - 1)) → IfSome o (λ v. v < 2 ^ 63)
version_small None h = tt
version_small (Some n) h = omega arith

pub unless_empty_is : (o : Option (List ℕ)) → IsToken (unless_empty o)
unless_empty_is None = λ e. absurd cc
unless_empty_is (Some []) = λ e. absurd cc
unless_empty_is (Some (b ∷ bs)) = λ e. absurd cc

between_by : (name : QueryField) (n low high : ℕ) (test : Bool) (o : Option ℕ) → test ≡ (leb low n && leb n high)
    → ◌≡◌ {A = Result (Option ℕ) QueryFault} (cond test (Ok (Some n)) (Err (query_fault.BadParameter name))) (Ok o) → IfSome o (λ k. (low ≤ k) × (k ≤ high))
between_by name n low high true o is e =
    let both = and_parts (leb low n) (leb n high) (sym is) in
    let lower : low ≤ n = leb-true low n both.0 in
    let upper : n ≤ high = leb-true n high both.1 in
    let same : Some n ≡ o = cc in
    subst (λ x. IfSome x (λ k. (low ≤ k) × (k ≤ high))) same (lower, upper)
between_by name n low high false o is e = absurd cc

between_is : (name : QueryField) (low high : ℕ) (v : Option ℤ) (o : Option ℕ) → between name low high v ≡ Ok o → IfSome o (λ k. (low ≤ k) × (k ≤ high))
between_is name low high None o e = let same : None ≡ o = cc in subst (λ x. IfSome x (λ k. (low ≤ k) × (k ≤ high))) same tt
between_is name low high (Some (pos n)) o e = between_by name n low high _ o refl e
between_is name low high (Some (negsuc n)) o e = absurd cc

beside_is : (v : Option ℕ) (text : Option (List ℕ)) (m : Option ℤ) → moment_beside v text ≡ Ok m → IsSome v → ¬ (IsSome m)
beside_is None text m e some = absurd cc
beside_is (Some v) None m e some = let same : None ≡ m = cc in subst (λ (x : Option ℤ). ¬ (IsSome x)) same (λ no. absurd cc)
beside_is (Some v) (Some text) m e some = absurd cc

fields_are : (d : Data) (f : Fields) (q : QueryBody) → query_of_fields d f ≡ Ok q → IsQuery q
unfolding query_of_fields
fields_are d f q e =
    let max = step (between name.MaxFiles 1 (2 ^ 31 - 1) f.max) _ q e in
    let version = step (between name.Version 0 (2 ^ 63 - 1) f.version) _ q max.rest in
    let moment = step (moment_beside version.value f.timestamp) _ q version.rest in
    let start = step (absent name.StartingVersion (codes "startingVersion") d) _ q moment.rest in
    let end = step (absent name.EndingVersion (codes "endingVersion") d) _ q start.rest in
    let refresh = step (absent name.RefreshToken (codes "refreshToken") d) _ q end.rest in
    let body : QueryBody = record { version = version.value; moment = moment.value; hint = f.hint; max = max.value; token = unless_empty f.token } in
    let told : ◌≡◌ {A = Result QueryBody QueryFault} (Ok body) (Ok q) = refresh.rest in
    let is : body ≡ q = cc in
    subst IsQuery is (record {
      version = version_small version.value (between_is _ 0 (2 ^ 63 - 1) f.version version.value version.first);
      one = beside_is version.value f.timestamp moment.value moment.first;
      max = max_is max.value (between_is _ 1 (2 ^ 31 - 1) f.max max.value max.first);
      token = unless_empty_is f.token;
    })

value_by : (d : Data) (is_object : Bool) (q : QueryBody) → ◌≡◌ {A = Result QueryBody QueryFault} (cond is_object (fields_in d >>= query_of_fields d) (Err query_fault.BadBody)) (Ok q) → IsQuery q
value_by d true q e = let fields = step (fields_in d) (query_of_fields d) q e in fields_are d fields.value q fields.rest
value_by d false q e = absurd cc

tree_is : (tree : Result Data TreeFault) (q : QueryBody) → query_of_tree tree ≡ Ok q → IsQuery q
tree_is (Ok d) q e = value_by d (is_some (as_object d)) q e
tree_is (Err f) q e = absurd cc

pub query_is : (bytes : List ℕ) (q : QueryBody) → query_in bytes ≡ Ok q → IsQuery q
query_is [] q e =
    let body : QueryBody = record { version = None; moment = None; hint = None; max = None; token = None } in
    let is : body ≡ q = cc in
    subst IsQuery is (record { version = tt; one = λ some. absurd cc; max = tt; token = λ t. absurd cc })
query_is (b ∷ bytes) q e = tree_is (tree_in (b ∷ bytes)) q e
