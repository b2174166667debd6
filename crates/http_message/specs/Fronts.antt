-- What parsing a text finds at its front.
use Rattle.std.specs.Prelude.{◌≡◌, ℕ, ◌<◌, List, length, map, drop, Result, MatchResult, ⊤}
use Rattle.httparse.specs.Grammar.{RequestHead, ReadsRequest, print_request}
use Rattle.httparse.specs.Spans.{name_and_value}
use Rattle.http_message.specs.declared.head.Head.{Head}
use Rattle.http_message.specs.declared.head.HeadFault.{HeadFault}
use Rattle.http_message.specs.declared.head.HeadFault.TheVariants.{NoHead, NoMemory}

-- the first len bytes are that tree, and the head is what is kept of it
pub record IsFront (text : List ℕ) (head : Head) (len : ℕ) (tree : RequestHead) : Type 0 where
  pub reads : ReadsRequest text tree (drop len text)
  pub len_is : len ≡ length (print_request tree)
  pub method : head.method ≡ tree.method
  pub target : head.target ≡ tree.target
  pub minor : head.minor ≡ tree.minor
  pub fields : head.fields ≡ map name_and_value tree.fields

-- no head is at the front, or one with too many fields
abbrev pub LacksFront : List ℕ → HeadFault → Type 0
LacksFront text NoHead = (tree : RequestHead) (rest : List ℕ) → ReadsRequest text tree rest → 64 < length tree.fields
LacksFront text NoMemory = ⊤

abbrev pub TellsFront : List ℕ → Result (Head × ℕ) HeadFault → Type 0
TellsFront text r = MatchResult r (λ p. (tree : RequestHead) × IsFront text p.0 p.1 tree) (LacksFront text)
