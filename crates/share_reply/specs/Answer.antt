-- What a recipient's request is answered, as a value: before any text is made of it.
use Rattle.std.specs.Prelude.{ℕ, List, [], ◌∷◌, Option, Some, None, Result, Ok, Err}
use Rattle.case_table.specs.declared.routing.Method.{Method}
use Rattle.delta_lines.specs.declared.kinds.DeltaFile.{DeltaFile}
use Rattle.file_ranges.specs.declared.span.Span.{Span}
use Rattle.log_actions.specs.declared.actions.MetaData.{MetaData}
use Rattle.log_actions.specs.declared.actions.Protocol.{Protocol}
use Rattle.page_token.specs.declared.cursor.Cursor.{Cursor}
use Rattle.page_token.specs.declared.cursor.ListCursor.{ListCursor}
use Rattle.page_token.specs.declared.cursor.ListKind.{ListKind}
use Rattle.share_reply.specs.Refusing.{Refused}

-- the end of a page: when its links end, where it has any, and where the next page begins, where one is left
pub record Ending : Type 0 where
  pub expires : Option ℕ
  pub next : Option Cursor

-- What is given of a version, in whichever format: its protocol and its metaData, the files or the changes with their links, and the end where pages are asked for.
pub record Page : Type 0 where
  pub version : ℕ
  pub protocol : Protocol
  pub meta : MetaData
  pub content : List DeltaFile
  pub end : Option Ending

-- Names that are listed, those of a share or of a schema where the listing is of one: each a share; a schema; a table; or a schema and a table.
pub record NamesPage : Type 0 where
  pub kind : ListKind
  pub share : List ℕ
  pub schema : List ℕ
  pub names : List (List (List ℕ))
  pub next : Option ListCursor

pub data Answer : Type 0 where
  -- a refusal, with its detail
  refused : Refused → Answer
  -- the path's route has other methods
  only : Method → Answer
  names : NamesPage → Answer
  one_share : List ℕ → Answer
  at_version : ℕ → Answer
  page : Page → Answer
  -- the object of that name in the store, or the part of it that is asked for
  object : List ℕ → Option Span → Answer

-- what is given, or the refusal
abbrev pub of : {X : Type 0} → (X → Answer) → Result X Refused → Answer
of answer (Ok x) = answer x
of answer (Err r) = refused r

-- an object of which that part is asked for, or the refusal
abbrev pub of_object : Option Span → Result (List ℕ) Refused → Answer
of_object span r = of (λ name. object name span) r

-- when the links of a page end, where it has any
abbrev pub ends_with : {X : Type 0} → ℕ → List X → Option ℕ
ends_with expires [] = None
ends_with expires (x ∷ xs) = Some expires
