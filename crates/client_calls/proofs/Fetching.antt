-- From the bytes of an object to the profile that they state.
use Rattle.std.proofs.Common.{◌≡◌, ℕ, ◌<◌, ◌≤◌, ◌^◌, List, length, Option, Some, None, refl, sym, ap, ◌∙◌, subst, arith, Result, Ok, Err, Bool, true, false, true≢false}
use Rattle.std.specs.Prelude.{IfOk, IfSome, nat_le, option_and_then, if◌then◌else◌}
use Rattle.std.specs.FinMap as map
use Rattle.std.proofs.lemmas.Bool.{le-leb}
use Rattle.std.proofs.lemmas.Bool.Decides.{nat_tests}
use Rattle.std.specs.Str.{IsUtf8, is_utf8}
use Rattle.std.proofs.lemmas.Str.{IsUtf8-from_is_utf8}
use Rattle.serde_json.specs.Read.{read}
use Rattle.json_tree.specs.Tree.{of_read}
use Rattle.json_tree.specs.declared.tree.TreeFault.TheVariants as tree
use Rattle.share_client.specs.Bodies.{is_query_tree, query_in}
use Rattle.edge_core.specs.Objects.{Objects}
use Rattle.log_store.specs.Loads.{IsFetched}
use Rattle.log_store.specs.declared.reading.Fetched.{Fetched}
use Rattle.log_store.specs.declared.reading.Fetched.TheVariants as fetched
use Rattle.log_store.specs.declared.refusal.LoadRefusal.{LoadRefusal}
use Rattle.share_config.specs.Profiles.{profile_in}
use Rattle.share_config.specs.declared.profile.Profile.{Profile}
use Rattle.client_calls.specs.ProfileObjects.{if_profile, profile_at, profile_of}

read_if : (fits : Bool) (read : Option Profile) → fits ≡ true → (if fits then read else None) ≡ read
read_if true read is = refl
read_if false read is = absurd (true≢false (sym is))

none_if : (fits : Bool) (read : Option Profile) → fits ≡ false → (if fits then read else None) ≡ None
none_if true read is = absurd (true≢false is)
none_if false read is = refl

short_profile : (bytes : List ℕ) → length bytes ≤ 2 ^ 24 → profile_of bytes ≡ if_profile (profile_in bytes)
short_profile bytes short = read_if (nat_le (length bytes) (2 ^ 24)) (if_profile (profile_in bytes)) (le-leb (length bytes) (2 ^ 24) short)

long_profile : (bytes : List ℕ) → 2 ^ 24 < length bytes → profile_of bytes ≡ None
long_profile bytes long = none_if (nat_le (length bytes) (2 ^ 24)) (if_profile (profile_in bytes)) (grind (arith, nat_tests, long))

-- bytes that were fetched state what the object does
pub bytes_profile : (E : Type 0) (bytes : List ℕ) (object : Option (List ℕ)) (r : Result (Option Profile) E) → (object ≡ Some bytes) × (length bytes ≤ 2 ^ 24) → IfOk r (λ found. found ≡ if_profile (profile_in bytes))
    → IfOk r (λ found. found ≡ option_and_then profile_of object)
bytes_profile E bytes object (Ok found) f is = is ∙ sym (ap (option_and_then profile_of) f.0 ∙ short_profile bytes f.1)
bytes_profile E bytes object (Err e) f is = tt

pub absent_profile : (object : Option (List ℕ)) → IsFetched (2 ^ 24) object (Ok fetched.Absent) → None ≡ option_and_then profile_of object
absent_profile object f = sym (ap (option_and_then profile_of) f)

pub long_object : (object : Option (List ℕ)) → IsFetched (2 ^ 24) object (Ok fetched.TooLong) → None ≡ option_and_then profile_of object
long_object None f = absurd f
long_object (Some bytes) f = sym (long_profile bytes f)

-- what was fetched by the name is the profile of that name
pub stored : (o : Option Objects) (name : List ℕ) (f : Fetched) (r : Result (Option Profile) LoadRefusal) → IfSome o (λ os. IsFetched (2 ^ 24) (map.get os name) (Ok f))
    → ((object : Option (List ℕ)) → IsFetched (2 ^ 24) object (Ok f) → IfOk r (λ found. found ≡ option_and_then profile_of object)) → IfSome o (λ os. IfOk r (λ found. found ≡ profile_at name os))
stored None name f r w h = tt
stored (Some os) name f r w h = h (map.get os name) w

pub nothing_stored : (o : Option Objects) (name : List ℕ) (refused : LoadRefusal) (r : Result (Option Profile) LoadRefusal) → r ≡ Err refused → IfSome o (λ os. IfOk r (λ found. found ≡ profile_at name os))
nothing_stored None name refused r e = tt
nothing_stored (Some os) name refused r e = subst (λ (x : Result (Option Profile) LoadRefusal). IfOk x (λ found. found ≡ profile_at name os)) (sym e) tt

-- ---- bytes that are no text

no_case : (bytes : List ℕ) (b : Bool) → is_utf8 bytes ≡ b → ¬ (IsUtf8 bytes) → (if is_query_tree (if b then of_read (read bytes) else Err tree.NotUtf8) then Some bytes else None) ≡ None
no_case bytes true is not_text = absurd (not_text (IsUtf8-from_is_utf8 bytes is))
no_case bytes false is not_text = refl

-- are no body
pub no_text : (bytes : List ℕ) → ¬ (IsUtf8 bytes) → query_in bytes ≡ None
no_text bytes not_text = no_case bytes (is_utf8 bytes) refl not_text
