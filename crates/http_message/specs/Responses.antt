-- The head of a response (RFC 9112, sections 4, 5 and 6.3), by the grammar of `httparse`, with at most 64 fields.
use Rattle.std.specs.Prelude.{◌≡◌, ℕ, ◌<◌, ◌≤◌, Bool, ◌&&◌, ◌||◌, ◌==◌, List, map, length, drop, count_by, codes, Option, Some, None, Result, Ok, Err, MatchResult, ⊤, if◌then◌else◌}
use Rattle.httparse.specs.Grammar.{ResponseHead as Tree, IsResponseHead, ReadsResponse, print_response, status_code}
use Rattle.httparse.specs.Spans.{name_and_value}
use Rattle.http_message.specs.Fields.{is_named}
use Rattle.http_message.specs.Framing.{form_in}
use Rattle.http_message.specs.declared.framing.Form.{Form}
use Rattle.http_message.specs.declared.framing.Form.TheVariants as form
use Rattle.http_message.specs.declared.head.HeadFault.{HeadFault}
use Rattle.http_message.specs.declared.head.HeadFault.TheVariants.{NoHead, NoMemory}
use Rattle.http_message.specs.declared.refusal.Flaw.{Flaw}
use Rattle.http_message.specs.declared.response.ResponseHead.{ResponseHead}

-- what is kept of a head: the values without the white space around them
abbrev pub response_of_tree : Tree → ResponseHead
response_of_tree tree = record { minor = tree.minor; status = status_code tree; fields = map name_and_value tree.fields }

-- the whole text is that tree's
pub record IsResponseOf (text : List ℕ) (tree : Tree) : Type 0 where
  pub valid : IsResponseHead tree
  pub spelled : text ≡ print_response tree
  pub few : length tree.fields ≤ 64

-- the whole text is a head, and this is what is kept of it
abbrev pub IsResponseText : List ℕ → ResponseHead → Type 0
IsResponseText text head = (tree : Tree) × IsResponseOf text tree × (head ≡ response_of_tree tree)

-- ---- what parsing finds at the front

pub record IsResponseFront (text : List ℕ) (head : ResponseHead) (len : ℕ) (tree : Tree) : Type 0 where
  pub reads : ReadsResponse text tree (drop len text)
  pub len_is : len ≡ length (print_response tree)
  pub minor : head.minor ≡ tree.minor
  pub status : head.status ≡ status_code tree
  pub fields : head.fields ≡ map name_and_value tree.fields

abbrev pub LacksResponse : List ℕ → HeadFault → Type 0
LacksResponse text NoHead = (tree : Tree) (rest : List ℕ) → ReadsResponse text tree rest → 64 < length tree.fields
LacksResponse text NoMemory = ⊤

abbrev pub TellsResponseFront : List ℕ → Result (ResponseHead × ℕ) HeadFault → Type 0
TellsResponseFront text r = MatchResult r (λ p. (tree : Tree) × IsResponseFront text p.0 p.1 tree) (LacksResponse text)

-- ---- the form of the body, or none where it goes on to the end of the stream

-- A response to HEAD, and one of status 204 or 304, ends with its head, whatever its fields say.
abbrev pub is_bodiless : Bool → ResponseHead → Bool
is_bodiless to_head head = to_head || head.status == 204 || head.status == 304

abbrev pub some_form : Result Form Flaw → Result (Option Form) Flaw
some_form (Ok form) = Ok (Some form)
some_form (Err flaw) = Err flaw

-- by whether the request was HEAD
abbrev pub response_form : ℕ → Bool → ResponseHead → Result (Option Form) Flaw
response_form most to_head head =
    if is_bodiless to_head head then Ok (Some (form.Length 0))
    else if count_by (is_named (codes "content-length")) head.fields == 0 && count_by (is_named (codes "transfer-encoding")) head.fields == 0
    then Ok None else some_form (form_in most head.minor head.fields)
