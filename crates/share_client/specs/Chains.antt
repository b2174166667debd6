-- Answers that come in pages (Delta Sharing PROTOCOL.md, "List Shares" and "Read Data from a Table"): each page is asked with the token
-- of the one before it, up to a page without a token.
use Rattle.std.specs.Prelude.{◌≡◌, ℕ, ◌⊎◌, List, [], ◌∷◌, length, All, Option, Some, None, Result, Ok, Err, ⊤, option_map}
use Rattle.share_client.specs.Asking.{Answers, Asks}
use Rattle.share_client.specs.Sides.{Side}
use Rattle.share_client.specs.declared.exchange.Response.{Response}
use Rattle.share_client.specs.declared.fault.ClientFault.{ClientFault}
use Rattle.share_client.specs.declared.fault.ClientFault.TheVariants as fault
use Rattle.share_client.specs.declared.target.Target.{Target}

-- How pages are asked for and read: the request by the token, none for the first page; the page of a response, or the place of what isn't
-- one's; the page's token; and in what a page differs from the first, where it may not.
pub record Paging (P : Type 0) : Type 0 where
  pub target : Target
  pub text : Option (List ℕ) → List ℕ
  pub reads : Response → Result P ℕ
  pub token : P → Option (List ℕ)
  pub differs : P → P → Option (List ℕ × List ℕ)

module _ {P : Type 0} where
  -- a page came
  pub record Gives (g : Paging P) (token : Option (List ℕ)) (page : P) (r : Response) (old new : Side) : Type 0 where
    pub answers : Answers g.target (g.text token) r old new
    pub reads : g.reads r ≡ Ok page

  abbrev pub Turn : Paging P → Option (List ℕ) → P → Side → Side → Type 0
  Turn g token page old new = (r : Response) × Gives g token page r old new

  -- what is told of a response of status 200 that is no page
  abbrev pub Misread : Result P ℕ → ClientFault → Type 0
  Misread (Ok page) e = e ≡ fault.NoMemory
  Misread (Err at) e = (e ≡ fault.BadReply at) ⊎ (e ≡ fault.NoMemory)

  -- the page wasn't asked for, for want of memory; it was asked for in vain; or what came is no page
  abbrev pub TurnFails : Paging P → Option (List ℕ) → ClientFault → Side → Side → Type 0
  TurnFails g token e old new =
      ((e ≡ fault.NoMemory) × (new ≡ old))
      ⊎ (Asks g.target (g.text token) (Err e) old new
      ⊎ ((r : Response) × Answers g.target (g.text token) r old new × Misread (g.reads r) e))

  -- These pages came, one after another. `first` is the token to ask with, and `next` that of the next page; none where no page is left.
  abbrev pub Chain : Paging P → (first : Option (Option (List ℕ))) → List P → (next : Option (Option (List ℕ))) → Side → Side → Type 0
  Chain g first [] next old new = (next ≡ first) × (new ≡ old)
  Chain g first (page ∷ pages) next old new =
      (token : Option (List ℕ)) × (mid : Side)
      × (first ≡ Some token) × Turn g token page old mid × Chain g (option_map Some (g.token page)) pages next mid new

  -- no page differs from the first
  abbrev pub Agree : Paging P → List P → Type 0
  Agree g [] = ⊤
  Agree g (first ∷ pages) = All (λ page. g.differs first page ≡ None) pages

  -- the page differs from the first
  abbrev pub Changed : Paging P → List P → P → ClientFault → Type 0
  Changed g [] page e = e ≡ fault.NoMemory
  Changed g (first ∷ pages) page (fault.PageChanged one other) = g.differs first page ≡ Some (one, other)
  Changed g (first ∷ pages) page e = e ≡ fault.NoMemory

  -- why no page is asked for behind these, or why the next one is none
  abbrev pub Stops : Paging P → List P → Option (List ℕ) → ClientFault → Side → Side → Type 0
  Stops g pages token e old new =
      ((e ≡ fault.TooManyPages) × (length pages ≡ 100000) × (new ≡ old))
      ⊎ (TurnFails g token e old new
      ⊎ ((page : P) × Turn g token page old new × Changed g pages page e))

  -- pages from the first on, with another to come
  pub record Begun (g : Paging P) (pages : List P) (token : Option (List ℕ)) (old new : Side) : Type 0 where
    pub chain : Chain g (Some None) pages (Some token) old new
    pub agree : Agree g pages

  -- all pages
  pub record Whole (g : Paging P) (pages : List P) (old new : Side) : Type 0 where
    pub chain : Chain g (Some None) pages None old new
    pub agree : Agree g pages

  -- the pages ended before the last
  abbrev pub Ends : Paging P → ClientFault → Side → Side → Type 0
  Ends g e old new =
      (pages : List P) × (token : Option (List ℕ)) × (mid : Side) × Begun g pages token old mid × Stops g pages token e mid new
