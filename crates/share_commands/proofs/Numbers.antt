-- Numbers of the command line.
use Rattle.std.proofs.Common.{◌≡◌, ℕ, ◌^◌, ◌-◌, ◌≤◌, ◌&&◌, List, [], ◌∷◌, Bool, true, false, Option, Some, None, String, Global, leb-true, refl, sym, ap, ◌∙◌, subst, if◌then◌else◌}
use Rattle.std.specs.Prelude.{IfSome, bytes_eq, codes, nat_le, option_and_then, option_map, string_bytes}
use Rattle.std.specs.Str.Parse.{digits_value}
use Rattle.std.proofs.lemmas.Bool.{and_from, and_parts, le-leb}
use Rattle.text_forms.specs.Numbers.{is_digits}
use Rattle.text_forms.specs.Numbers as numbers
use Rattle.query_command.specs.Answer.{location_in}
use Rattle.share_commands.specs.Words.{begins_with_zero, command_in, call_words_in, name_in, number_in, serve_or_none}
use Rattle.share_commands.specs.declared.words.CallWords.{CallWords}
use Rattle.share_commands.specs.declared.words.Command.{Command}
use Rattle.share_commands.specs.declared.words.Command.TheVariants as command

-- ---- the words of `serve`

abbrev Bounded : Option Command → Type 0
Bounded None = Unit {0}
Bounded (Some command.Help) = Unit {0}
Bounded (Some command.Version) = Unit {0}
Bounded (Some (command.Query location)) = Unit {0}
Bounded (Some command.Stdio) = Unit {0}
Bounded (Some (command.Rehearse number)) = Unit {0}
Bounded (Some (command.Serve port workers)) = (1 ≤ workers) × (workers ≤ 64)
Bounded (Some (command.Client profile call_words)) = Unit {0}

bounded_if : (b : Bool) (x y : Option Command) → Bounded x → Bounded y → Bounded (if b then x else y)
bounded_if true x y p q = p
bounded_if false x y p q = q

query_bounded : (o : Option (List ℕ)) → Bounded (option_map command.Query o)
query_bounded None = tt
query_bounded (Some location) = tt

serve_bounded : (port workers : Option ℕ) → IfSome workers (λ n. (1 ≤ n) × (n ≤ 64)) → Bounded (option_and_then (λ p. option_map (λ n. command.Serve p n) workers) port)
serve_bounded None workers within = tt
serve_bounded (Some port) None within = tt
serve_bounded (Some port) (Some n) within = within

within_if : (low high value : ℕ) (digits test : Bool) → (digits && (nat_le low value && nat_le value high)) ≡ test → IfSome (if test then Some value else None) (λ n. (low ≤ n) × (n ≤ high))
within_if low high value digits true is =
    let parts = and_parts digits (nat_le low value && nat_le value high) is in
    let both = and_parts (nat_le low value) (nat_le value high) parts.1 in
    (leb-true low value both.0, leb-true value high both.1)
within_if low high value digits false is = tt

unless : (zero : Bool) (found : Option ℕ) (P : ℕ → Type 0) → IfSome found P → IfSome (if zero then None else found) P
unless true found P p = tt
unless false found P p = p

-- a number that is read lies within its bounds
pub number_within : (low high : ℕ) (word : List ℕ) → IfSome (number_in low high word) (λ n. (low ≤ n) × (n ≤ high))
number_within low high word = unless (begins_with_zero word) (numbers.number_in low high word) (λ n. (low ≤ n) × (n ≤ high)) (within_if low high (digits_value 10 word) (is_digits word) _ refl)

-- a number of these bounds is the size of a piece
pub piece_within : (word : List ℕ) (n : ℕ) (piece : Option ℕ) → Some n ≡ number_in 1 134217728 word → piece ≡ (if nat_le 1 n && nat_le n 134217728 then Some n else None) → piece ≡ number_in 1 134217728 word
piece_within word n piece read made =
    let within = subst (λ o. IfSome o (λ m. (1 ≤ m) × (m ≤ 134217728))) (sym read) (number_within 1 134217728 word) in
    made ∙ ap (λ (b : Bool). if b then Some n else None) (and_from (nat_le 1 n) (nat_le n 134217728) (le-leb 1 n within.0) (le-leb n 134217728 within.1)) ∙ read

rehearse_bounded : (number : Option ℕ) → Bounded (option_map command.Rehearse number)
rehearse_bounded None = tt
rehearse_bounded (Some n) = tt

client_bounded : (profile : Option (List ℕ)) (call_words : Option CallWords) → Bounded (option_and_then (λ p. option_map (λ e. command.Client p e) call_words) profile)
client_bounded None call_words = tt
client_bounded (Some profile) None = tt
client_bounded (Some profile) (Some e) = tt

three_bounded : (word port workers : List ℕ) (words : List (String Global)) → Bounded (serve_or_none word port workers words)
three_bounded word port workers [] = bounded_if (bytes_eq word (codes "serve")) _ None (serve_bounded (number_in 1 65535 port) (number_in 1 64 workers) (number_within 1 64 workers)) tt
three_bounded word port workers (more ∷ words) = tt

all_bounded : (words : List (String Global)) → Bounded (command_in words)
all_bounded [] = tt
all_bounded (word ∷ []) =
    bounded_if (bytes_eq (string_bytes word) (codes "stdio")) (Some command.Stdio) _ tt
    (bounded_if (bytes_eq (string_bytes word) (codes "--help")) (Some command.Help) _ tt (bounded_if (bytes_eq (string_bytes word) (codes "--version")) (Some command.Version) None tt tt))
all_bounded (word ∷ second ∷ []) =
    bounded_if (bytes_eq (string_bytes word) (codes "query")) _ _ (query_bounded (location_in (string_bytes second)))
    (bounded_if (bytes_eq (string_bytes word) (codes "rehearse")) _ None (rehearse_bounded (number_in 0 (2 ^ 32 - 1) (string_bytes second))) tt)
all_bounded (word ∷ second ∷ third ∷ words) =
    bounded_if (bytes_eq (string_bytes word) (codes "client")) _ _ (client_bounded (name_in (string_bytes third)) (call_words_in (string_bytes second) words)) (three_bounded (string_bytes word) (string_bytes second) (string_bytes third) words)

-- a server has 1 to 64 workers
pub workers_bounded : (words : List (String Global)) (port workers : ℕ) → command_in words ≡ Some (command.Serve port workers) → (1 ≤ workers) × (workers ≤ 64)
workers_bounded words port workers is = subst Bounded is (all_bounded words)
