-- The pages of a table, and what is read of them.
use Rattle.std.proofs.Common.{◌≡◌, ℕ, ◌+◌, inl, inr, List, [], ◌∷◌, ◌++◌, length, Option, Some, None, option_map, Result, Ok, Err, refl, sym, ap, subst, ◌∙◌, append-nil, length-append}
use Rattle.std.specs.Prelude.{⊤}
use Rattle.std.proofs.lemmas.List.{flat_map_more}
use Rattle.std.proofs.lemmas.List.Elements.{All-append, All-cons, All-nil}
use Rattle.share_lines.specs.declared.kinds.FileLine.{FileLine}
use Rattle.share_lines.specs.declared.kinds.Line.{Line}
use Rattle.share_lines.specs.declared.kinds.Line.TheVariants as line
use Rattle.share_lines.specs.declared.kinds.MetaLine.{MetaLine}
use Rattle.delta_lines.specs.declared.kinds.DeltaFile.{DeltaFile}
use Rattle.share_client.specs.DeltaPages.{delta, delta_file_in}
use Rattle.share_client.specs.Asking.{Answers, Asks}
use Rattle.share_client.specs.Chains.{Agree, Begun, Chain, Changed, Ends, Paging, Turn}
use Rattle.share_client.specs.Sides.{Side}
use Rattle.share_client.specs.TablePages.{Form, TablePage, change_in, changed, file_in, parquet, table_page_in}
use Rattle.share_client.specs.TableRequests.{changes_text, delta_query_text, query_text}
use Rattle.share_client.specs.TableSteps.{IsBehind, PagesOnto, ReadsTablePage, TableTurn, TellsChange, first_head}
use Rattle.share_client.specs.Tables.{IsDeltaRead, IsRead, joined, ReadsChanges, ReadsChangesOf, ReadsDelta, ReadsDeltaOf, ReadsTable, ReadsTableOf, table_paging}
use Rattle.share_client.specs.declared.exchange.Response.{Response}
use Rattle.share_client.specs.declared.fault.ClientFault.{ClientFault}
use Rattle.share_client.specs.declared.fault.ClientFault.TheVariants as fault
use Rattle.share_client.specs.declared.listing.SharedTable.{SharedTable}
use Rattle.share_client.specs.declared.page_head.PageHead.{PageHead}
use Rattle.share_client.specs.declared.server.Server.{Server}
use Rattle.share_client.specs.declared.delta_page.DeltaFront.{DeltaFront}
use Rattle.share_client.specs.declared.table_read.DeltaRead.{DeltaRead}
use Rattle.share_client.specs.declared.table_read.TableRead.{TableRead}
use Rattle.share_client.proofs.Chaining.{chain_more}

-- these pages came, and what they have stands behind what was there
pub record ReachedPages {F X : Type 0} (g : Paging (TablePage F X)) (number : ℕ) (first : Option (PageHead F)) (token : Option (List ℕ)) (was now : List X) (old new : Side) (pages : List (TablePage F X)) : Type 0 where
  pub begun : Begun g pages token old new
  pub many : length pages ≡ number
  pub held : now ≡ was ++ joined pages
  pub head : first_head pages ≡ first

abbrev pub ReachesPages : {F X : Type 0} → Paging (TablePage F X) → (number : ℕ) → Option (PageHead F) → Option (List ℕ) → (was now : List X) → Side → Side → Type 0
ReachesPages g number first token was now old new = (pages : List (TablePage _ _)) × ReachedPages g number first token was now old new pages

-- behind a first page of that head and next token, so many were reached
abbrev pub GoesOn : {F X : Type 0} → Paging (TablePage F X) → (first : PageHead F) → (next : Option (List ℕ)) → (number : ℕ) → Option (List ℕ) → (was now : List X) → Side → Side → Type 0
GoesOn g first next number token was now old new =
    (start : Side) → (before : List _) → TableTurn g None before was (Ok (first, next)) start old → ReachesPages g number (Some first) token before now start new

module _ {P : Type 0} (g : Paging P) where
  -- the page may come behind these
  abbrev Fits : List P → P → Type 0
  Fits [] page = ⊤
  Fits (first ∷ pages) page = g.differs first page ≡ None

  agree_more : (pages : List P) (page : P) → Agree g pages → Fits pages page → Agree g (pages ++ page ∷ [])
  agree_more [] page agree fits = All-nil (λ p. g.differs page p ≡ None)
  agree_more (first ∷ pages) page agree fits =
      All-append (λ p. g.differs first p ≡ None) pages (page ∷ []) agree
      (All-cons (λ p. g.differs first p ≡ None) page [] fits (All-nil (λ p. g.differs first p ≡ None)))

module _ {L F X : Type 0} (form : Form L F) (reads : L → Option X) (server : Server) (text : Option (List ℕ) → List ℕ) where
  abbrev paging : Paging (TablePage F X)
  paging = table_paging form reads server text

  -- a response of status 200 came
  pub page_came :
      (token : Option (List ℕ)) (sent : List ℕ) (r : Response) (was now : List X) (result : Result (PageHead F × Option (List ℕ)) ClientFault) (old new : Side)
      → sent ≡ text token → ReadsTablePage was now (table_page_in form reads r) result
      → Answers server.target sent r old new → TableTurn paging token was now result old new
  unfolding table_paging
  page_came token sent r was now (Ok found) old new spelt (page, read, onto) came =
      (page, (r, record { answers = subst (λ t. Answers server.target t r old new) spelt came; reads = read }), onto)
  page_came token sent r was now (Err e) old new spelt misread came =
      inr (inr (r, subst (λ t. Answers server.target t r old new) spelt came, misread))

  -- none came
  pub page_failed :
      (token : Option (List ℕ)) (sent : List ℕ) (e : ClientFault) (was now : List X) (old new : Side)
      → sent ≡ text token → Asks server.target sent (Err e) old new → TableTurn paging token was now (Err e) old new
  unfolding table_paging
  page_failed token sent e was now old new spelt asks = inr (inl (subst (λ t. Asks server.target t (Err e) old new) spelt asks))

  -- a page behind these
  chained :
      (pages : List (TablePage F X)) (token : Option (List ℕ)) (page : TablePage F X) (old mid new : Side)
      → Chain paging (Some None) pages (Some token) old mid → Turn paging token page mid new
      → Chain paging (Some None) (pages ++ page ∷ []) (option_map Some page.token) old new
  unfolding table_paging
  chained pages token page old mid new chain turn = chain_more paging (Some None) pages token page old mid new chain turn

  fits_behind : (pages : List (TablePage F X)) (page : TablePage F X) (first : PageHead F) (found : PageHead F × Option (List ℕ)) (token : Option (List ℕ))
      → first_head pages ≡ Some first → found.0 ≡ page.head → IsBehind first found (Ok token) → Fits paging pages page
  unfolding table_paging
  fits_behind [] page first found token head same behind = absurd cc
  fits_behind (one ∷ pages) page first found token head same (fits, is) =
      let begins : first ≡ one.head = cc in subst (λ h. changed h page.head ≡ None) begins (subst (λ h. changed first h ≡ None) same fits)

  head_stays : (pages : List (TablePage F X)) (page : TablePage F X) (first : PageHead F) → first_head pages ≡ Some first → first_head (pages ++ page ∷ []) ≡ Some first
  head_stays [] page first head = absurd cc
  head_stays (one ∷ pages) page first head = head

  told : (first page : TablePage F X) (pages : List (TablePage F X)) (e : ClientFault) → TellsChange (changed first.head page.head) e
      → Changed paging (first ∷ pages) page e
  unfolding table_paging
  told first page pages (fault.PageChanged one other) tells = tells
  told first page pages fault.NoMemory tells = refl
  told first page pages (fault.BadReply at) tells = absurd tells
  told first page pages (fault.Refused status refusal) tells = absurd tells
  told first page pages (fault.SizeChanged one other) tells = absurd tells
  told first page pages fault.TooManyPages tells = absurd tells
  told first page pages fault.BadUrl tells = absurd tells
  told first page pages fault.PeerFault tells = absurd tells
  told first page pages fault.ReadFault tells = absurd tells
  told first page pages fault.WriteFault tells = absurd tells

  changed_behind : (pages : List (TablePage F X)) (page : TablePage F X) (first : PageHead F) (found : PageHead F × Option (List ℕ)) (e : ClientFault)
      → first_head pages ≡ Some first → found.0 ≡ page.head → IsBehind first found (Err e) → Changed paging pages page e
  changed_behind [] page first found e head same behind = absurd cc
  changed_behind (one ∷ pages) page first found e head same behind =
      let begins : first ≡ one.head = cc in
      told one page pages e (subst (λ h. TellsChange (changed h page.head) e) begins (subst (λ h. TellsChange (changed first h) e) same behind))

  module _ (was : List X) where
    held_more : (pages : List (TablePage F X)) (page : TablePage F X) (here now : List X) → here ≡ was ++ joined pages → now ≡ here ++ page.content
        → now ≡ was ++ joined (pages ++ page ∷ [])
    held_more pages page here now a b = b ∙ ap (λ xs. xs ++ page.content) a ∙ flat_map_more (λ p. p.content) was pages page

    -- the first page, with another to come
    pub first_page :
        (first : PageHead F) (next : List ℕ) (now : List X) (old new : Side)
        → TableTurn paging None was now (Ok (first, Some next)) old new → ReachesPages paging 1 (Some first) (Some next) was now old new
    first_page first next now old new (page, turn, (held, same, later)) = (
      page ∷ [],
      record {
        begun = record {
          chain = subst (λ t. Chain paging (Some None) (page ∷ []) (option_map Some t) old new) (sym later) (chained [] None page old old new (refl, refl) turn);
          agree = agree_more paging [] page tt tt;
        };
        many = refl;
        held = held_more [] page was now (sym (append-nil was)) held;
        head = ap Some (sym same);
      },
    )

    -- the only page
    pub only_page :
        (first : PageHead F) (now : List X) (old new : Side)
        → TableTurn paging None was now (Ok (first, None)) old new → PagesOnto paging was now (Ok (first, 1)) old new
    only_page first now old new (page, turn, (held, same, later)) = (
      page ∷ [],
      record {
        chain = subst (λ t. Chain paging (Some None) (page ∷ []) (option_map Some t) old new) (sym later) (chained [] None page old old new (refl, refl) turn);
        agree = agree_more paging [] page tt tt;
      },
      held_more [] page was now (sym (append-nil was)) held,
      ap Some (sym same),
      refl,
    )

    -- no first page came
    pub none_came : (e : ClientFault) (now : List X) (old new : Side) → TableTurn paging None was now (Err e) old new → PagesOnto paging was now (Err e) old new
    none_came e now old new fails = ([], None, old, record { chain = (refl, refl); agree = tt }, inr (inl fails))

    -- one more, with another to come
    pub one_page_more :
        (number : ℕ) (first : PageHead F) (token : Option (List ℕ)) (found : PageHead F × Option (List ℕ)) (next : List ℕ) (here now : List X) (old mid new : Side)
        → ReachesPages paging number (Some first) token was here old mid
        → TableTurn paging token here now (Ok found) mid new
        → IsBehind first found (Ok (Some next))
        → ReachesPages paging (number + 1) (Some first) (Some next) was now old new
    one_page_more number first token found next here now old mid new (pages, r) (page, turn, (held, same, later)) behind = (
      pages ++ page ∷ [],
      record {
        begun = record {
          chain = subst (λ t. Chain paging (Some None) (pages ++ page ∷ []) (option_map Some t) old new) (sym (behind.1 ∙ later)) (chained pages token page old mid new r.begun.chain turn);
          agree = agree_more paging pages page r.begun.agree (fits_behind pages page first found (Some next) r.head same behind);
        };
        many = length-append pages (page ∷ []) ∙ ap (λ n. n + 1) r.many;
        held = held_more pages page here now r.held held;
        head = head_stays pages page first r.head;
      },
    )

    -- the last one
    pub last_page :
        (number : ℕ) (first : PageHead F) (token : Option (List ℕ)) (found : PageHead F × Option (List ℕ)) (here now : List X) (old mid new : Side)
        → ReachesPages paging number (Some first) token was here old mid
        → TableTurn paging token here now (Ok found) mid new
        → IsBehind first found (Ok None)
        → PagesOnto paging was now (Ok (first, number + 1)) old new
    last_page number first token found here now old mid new (pages, r) (page, turn, (held, same, later)) behind = (
      pages ++ page ∷ [],
      record {
        chain = subst (λ t. Chain paging (Some None) (pages ++ page ∷ []) (option_map Some t) old new) (sym (behind.1 ∙ later)) (chained pages token page old mid new r.begun.chain turn);
        agree = agree_more paging pages page r.begun.agree (fits_behind pages page first found None r.head same behind);
      },
      held_more pages page here now r.held held,
      head_stays pages page first r.head,
      sym (length-append pages (page ∷ []) ∙ ap (λ n. n + 1) r.many),
    )

    -- none came
    pub pages_stopped :
        (number : ℕ) (first : Option (PageHead F)) (token : Option (List ℕ)) (e : ClientFault) (here now : List X) (old mid new : Side)
        → ReachesPages paging number first token was here old mid
        → TableTurn paging token here now (Err e) mid new
        → PagesOnto paging was now (Err e) old new
    pages_stopped number first token e here now old mid new (pages, r) fails = (pages, token, mid, r.begun, inr (inl fails))

    -- one came that isn't as the first
    pub page_changed :
        (number : ℕ) (first : PageHead F) (token : Option (List ℕ)) (found : PageHead F × Option (List ℕ)) (e : ClientFault) (here now : List X) (old mid new : Side)
        → ReachesPages paging number (Some first) token was here old mid
        → TableTurn paging token here now (Ok found) mid new
        → IsBehind first found (Err e)
        → PagesOnto paging was now (Err e) old new
    page_changed number first token found e here now old mid new (pages, r) (page, turn, (held, same, later)) behind =
        (pages, token, mid, r.begun, inr (inr (page, turn, changed_behind pages page first found e r.head same behind)))

    -- too many came
    pub too_many_pages :
        (first : Option (PageHead F)) (token : Option (List ℕ)) (now : List X) (old new : Side)
        → ReachesPages paging 100000 first token was now old new
        → PagesOnto paging was now (Err fault.TooManyPages) old new
    too_many_pages first token now old new (pages, r) = (pages, token, new, r.begun, inl (refl, r.many, refl))

-- what is answered of files that stand behind none
is_read : (pages : List (TablePage MetaLine FileLine)) (found : PageHead MetaLine × ℕ) (read : TableRead) → read.version ≡ found.0.version → read.meta ≡ line.MetaData found.0.front
    → read.files.items ≡ joined pages → read.pages ≡ found.1 → first_head pages ≡ Some found.0 → found.1 ≡ length pages → IsRead pages read
is_read [] found read version meta held many head count = absurd cc
is_read (first ∷ pages) found read version meta held many head count =
    let same : found.0 ≡ first.head = cc in (version ∙ ap (λ h. h.version) same, meta ∙ ap (λ h. line.MetaData h.front) same, held, many ∙ count)

pub table_read : (g : Paging (TablePage MetaLine FileLine)) (was now : List FileLine) (found : PageHead MetaLine × ℕ) (read : TableRead) (old new : Side) → was ≡ []
    → read.version ≡ found.0.version → read.meta ≡ line.MetaData found.0.front → read.files.items ≡ now → read.pages ≡ found.1
    → PagesOnto g was now (Ok found) old new → ReadsTable g (Ok read) old new
table_read g was now found read old new none version meta held many (pages, whole, onto, head, count) =
    (pages, whole, is_read pages found read version meta (held ∙ onto ∙ ap (λ xs. xs ++ joined pages) none) many head count)

is_delta_read : (pages : List (TablePage DeltaFront DeltaFile)) (found : PageHead DeltaFront × ℕ) (read : DeltaRead) → read.version ≡ found.0.version
    → read.protocol ≡ found.0.front.protocol → read.meta ≡ found.0.front.meta
    → read.files.items ≡ joined pages → read.pages ≡ found.1 → first_head pages ≡ Some found.0 → found.1 ≡ length pages → IsDeltaRead pages read
is_delta_read [] found read version protocol meta held many head count = absurd cc
is_delta_read (first ∷ pages) found read version protocol meta held many head count =
    let same : found.0 ≡ first.head = cc in
    (version ∙ ap (λ h. h.version) same, protocol ∙ ap (λ h. h.front.protocol) same, meta ∙ ap (λ h. h.front.meta) same, held, many ∙ count)

pub delta_read : (g : Paging (TablePage DeltaFront DeltaFile)) (was now : List DeltaFile) (found : PageHead DeltaFront × ℕ) (read : DeltaRead) (old new : Side) → was ≡ []
    → read.version ≡ found.0.version → read.protocol ≡ found.0.front.protocol → read.meta ≡ found.0.front.meta → read.files.items ≡ now → read.pages ≡ found.1
    → PagesOnto g was now (Ok found) old new → ReadsDelta g (Ok read) old new
delta_read g was now found read old new none version protocol meta held many (pages, whole, onto, head, count) =
    (pages, whole, is_delta_read pages found read version protocol meta (held ∙ onto ∙ ap (λ xs. xs ++ joined pages) none) many head count)

pub changes_read : (g : Paging (TablePage MetaLine Line)) (was now : List Line) (found : PageHead MetaLine × ℕ) (old new : Side) → was ≡ []
    → PagesOnto g was now (Ok found) old new → ReadsChanges g (Ok now) old new
changes_read g was now found old new none (pages, whole, onto, head, count) = (pages, whole, onto ∙ ap (λ xs. xs ++ joined pages) none)

-- want of memory before the first page was asked for
no_pages : {L F X : Type 0} (form : Form L F) (reads : L → Option X) (server : Server) (text : Option (List ℕ) → List ℕ) (s : Side)
    → Ends (table_paging form reads server text) fault.NoMemory s s
no_pages form reads server text s = ([], None, s, record { chain = (refl, refl); agree = tt }, inr (inl (inl (refl, refl))))

pub no_table : (o : Option Server) (t : SharedTable) (body : List ℕ) (s : Side) → ReadsTableOf o t body (Err fault.NoMemory) s s
no_table None t body s = (refl, refl)
no_table (Some server) t body s = no_pages parquet file_in server (query_text server t body) s

pub no_delta : (o : Option Server) (t : SharedTable) (body : List ℕ) (s : Side) → ReadsDeltaOf o t body (Err fault.NoMemory) s s
no_delta None t body s = (refl, refl)
no_delta (Some server) t body s = no_pages delta delta_file_in server (delta_query_text server t body) s

pub no_changes : (o : Option Server) (t : SharedTable) (from to : ℕ) (s : Side) → ReadsChangesOf o t from to (Err fault.NoMemory) s s
no_changes None t from to s = (refl, refl)
no_changes (Some server) t from to s = no_pages parquet change_in server (changes_text server t from to) s
