-- What the words of the command line ask for.
use Rattle.std.specs.Prelude.{ℕ, ◌^◌, ◌-◌, ◌==◌, Bool, false, List, [], ◌∷◌, Option, Some, None, option_map, option_and_then, String, string_bytes, bytes_eq, codes, if◌then◌else◌}
use Rattle.std.specs.declared.alloc.Global.{Global}
use Rattle.edge_core.specs.Names.{is_name}
use Rattle.text_forms.specs.Numbers as numbers
use Rattle.query_command.specs.Answer.{location_in}
use Rattle.share_client.specs.declared.listing.SharedTable.{SharedTable}
use Rattle.client_calls.specs.declared.call.Call.TheVariants as calls
use Rattle.share_commands.specs.declared.words.CallWords.{CallWords}
use Rattle.share_commands.specs.declared.words.CallWords.TheVariants as worded
use Rattle.share_commands.specs.declared.words.Command.{Command}
use Rattle.share_commands.specs.declared.words.Command.TheVariants as command

-- a command of one word
abbrev pub single_in : List ℕ → Option Command
single_in word = if bytes_eq word (codes "stdio") then Some command.Stdio else if bytes_eq word (codes "--help") then Some command.Help else if bytes_eq word (codes "--version") then Some command.Version else None

-- `query LOCATION`
abbrev pub query_in : List ℕ → Option Command
query_in location = option_map command.Query (location_in location)

-- a zero stands before another byte
abbrev pub begins_with_zero : List ℕ → Bool
begins_with_zero [] = false
begins_with_zero (d ∷ []) = false
begins_with_zero (d ∷ e ∷ ds) = d == 48

-- the number from one to another, both included, that a word writes in decimal without a zero before it
abbrev pub number_in : (low high : ℕ) → List ℕ → Option ℕ
number_in low high word = if begins_with_zero word then None else numbers.number_in low high word

-- `serve PORT WORKERS`
abbrev pub serve_in : List ℕ → List ℕ → List ℕ → Option Command
serve_in word port workers =
    if bytes_eq word (codes "serve")
    then option_and_then (λ p. option_map (λ n. command.Serve p n) (number_in 1 64 workers)) (number_in 1 65535 port)
    else None

-- the version that a word writes, 0 to 2^63 - 1
abbrev pub version_in : List ℕ → Option ℕ
version_in word = number_in 0 (2 ^ 63 - 1) word

-- `rehearse NUMBER`
abbrev pub rehearse_in : List ℕ → Option Command
rehearse_in number = option_map command.Rehearse (number_in 0 (2 ^ 32 - 1) number)

-- a command of two words
abbrev pub pair_in : (word second : List ℕ) → Option Command
pair_in word second = if bytes_eq word (codes "query") then query_in second else if bytes_eq word (codes "rehearse") then rehearse_in second else None

-- the name of a profile's object
abbrev pub name_in : List ℕ → Option (List ℕ)
name_in text = if is_name text then Some text else None

-- ---- the call that the words of `client` name

-- `tables`
abbrev pub tables_in : List ℕ → Option CallWords
tables_in word = if bytes_eq word (codes "tables") then Some (worded.Whole calls.Tables) else None

-- `fetch .. URL`
abbrev pub fetch_in : (word url : List ℕ) → Option CallWords
fetch_in word url = if bytes_eq word (codes "fetch") then Some (worded.Whole (calls.Fetch url)) else None

-- `fetch .. URL PIECE`, with 1 to 134217728 bytes a piece, 2^27
abbrev pub pieces_in : (word url piece : List ℕ) → Option CallWords
pieces_in word url piece = if bytes_eq word (codes "fetch") then option_map (λ p. worded.Whole (calls.FetchPieces url p)) (number_in 1 134217728 piece) else None

-- `read .. SHARE SCHEMA TABLE`
abbrev pub read_in : (word share schema table : List ℕ) → Option CallWords
read_in word share schema table = if bytes_eq word (codes "read") then Some (worded.Read (record { share = share; schema = schema; table = table })) else None

-- `changes .. SHARE SCHEMA TABLE FROM TO`
abbrev pub changes_in : List ℕ → SharedTable → (from to : List ℕ) → Option CallWords
changes_in word table from to =
    if bytes_eq word (codes "changes")
    then option_and_then (λ f. option_map (λ t. worded.Whole (calls.Changes table f t)) (version_in to)) (version_in from)
    else None

abbrev pub call_words_in : List ℕ → List (String Global) → Option CallWords
call_words_in word [] = tables_in word
call_words_in word (url ∷ []) = fetch_in word (string_bytes url)
call_words_in word (url ∷ piece ∷ []) = pieces_in word (string_bytes url) (string_bytes piece)
call_words_in word (share ∷ schema ∷ table ∷ []) = read_in word (string_bytes share) (string_bytes schema) (string_bytes table)
call_words_in word (share ∷ schema ∷ table ∷ from ∷ []) = None
call_words_in word (share ∷ schema ∷ table ∷ from ∷ to ∷ []) =
    changes_in word (record { share = string_bytes share; schema = string_bytes schema; table = string_bytes table }) (string_bytes from) (string_bytes to)
call_words_in word (share ∷ schema ∷ table ∷ from ∷ to ∷ more ∷ words) = None

-- `client CALL PROFILE ..`
abbrev pub client_in : (word profile : List ℕ) → List (String Global) → Option Command
client_in word profile words = option_and_then (λ p. option_map (λ e. command.Client p e) (call_words_in word words)) (name_in profile)

abbrev pub serve_or_none : (word port workers : List ℕ) → List (String Global) → Option Command
serve_or_none word port workers [] = serve_in word port workers
serve_or_none word port workers (more ∷ words) = None

-- three words and more
abbrev pub long_in : (word second third : List ℕ) → List (String Global) → Option Command
long_in word second third words = if bytes_eq word (codes "client") then client_in second third words else serve_or_none word second third words

-- the command of the words, none where they are no row of the table
abbrev pub command_in : List (String Global) → Option Command
command_in [] = None
command_in (word ∷ []) = single_in (string_bytes word)
command_in (word ∷ second ∷ []) = pair_in (string_bytes word) (string_bytes second)
command_in (word ∷ second ∷ third ∷ words) = long_in (string_bytes word) (string_bytes second) (string_bytes third) words
