-- The pages of a list, and what is read of them.
use Rattle.std.proofs.Common.{◌≡◌, ℕ, ◌+◌, ◌<◌, ◌≤◌, inl, inr, List, [], ◌∷◌, ◌++◌, length, get_or, take, drop, Option, Some, None, option_map, Result, Ok, Err, refl, sym, ap, subst, ◌∙◌, append_assoc, append-nil, length-append}
use Rattle.std.specs.Prelude.{⊤, MatchResult}
use Rattle.std.proofs.lemmas.List.{drop_more, take_all, take_more, take-append-drop}
use Rattle.serde_json.specs.Data.{Data}
use Rattle.share_client.specs.Asking.{Answers, Asks}
use Rattle.share_client.specs.Chains.{Agree, Begun, Chain, Misread, Paging, Turn}
use Rattle.share_client.specs.Listings.{all_items, list_paging, EachEnds, Lists, ListsEach, ListsTables, ListsTablesOf, or_start, ShareEnds, shares, tables}
use Rattle.share_client.specs.Steps.{ListsOnto, ListTurn, OntoAll, ShareLists}
use Rattle.share_client.specs.Lists.{Listing, page_in}
use Rattle.share_client.specs.Reads.{ReadsPage, Unread}
use Rattle.share_client.specs.Routes.{list_text}
use Rattle.share_client.specs.Sides.{Side}
use Rattle.share_client.specs.declared.exchange.Response.{Response}
use Rattle.share_client.specs.declared.fault.ClientFault.{ClientFault}
use Rattle.share_client.specs.declared.fault.ClientFault.TheVariants as fault
use Rattle.share_client.specs.declared.listing.SharedTable.{SharedTable}
use Rattle.share_client.specs.declared.server.Server.{Server}
use Rattle.share_client.proofs.Chaining.{always_agree, chain_more}

misread_memory : {P : Type 0} (read : Result P ℕ) → Misread read fault.NoMemory
misread_memory (Ok page) = refl
misread_memory (Err at) = inr refl

misread : {P : Type 0} (read : Option P) (e : ClientFault) → Unread read e → Misread (or_start read) e
misread read (fault.BadReply at) (start, none) = subst (λ o. Misread (or_start o) (fault.BadReply at)) (sym none) (inl (ap fault.BadReply start))
misread read fault.NoMemory u = misread_memory (or_start read)
misread read (fault.Refused status refusal) u = absurd u
misread read (fault.PageChanged first other) u = absurd u
misread read (fault.SizeChanged first other) u = absurd u
misread read fault.TooManyPages u = absurd u
misread read fault.BadUrl u = absurd u
misread read fault.PeerFault u = absurd u
misread read fault.ReadFault u = absurd u
misread read fault.WriteFault u = absurd u

module _ {X : Type 0} (reads : Data → Option X) (server : Server) (route : List ℕ) where
  -- a response of status 200 came
  pub list_came :
      (token : Option (List ℕ)) (text : List ℕ) (r : Response) (was now : List X) (result : Result (Option (List ℕ)) ClientFault) (old new : Side)
      → text ≡ list_text server route token → ReadsPage was now (page_in reads r.body.items) result
      → Answers server.target text r old new → ListTurn (list_paging reads server route) token was now result old new
  unfolding list_paging
  list_came token text r was now (Ok next) old new spelt (items, read, held) came =
      (items, held, (r, record { answers = subst (λ t. Answers server.target t r old new) spelt came; reads = ap or_start read }))
  list_came token text r was now (Err e) old new spelt unread came =
      inr (inr (r, subst (λ t. Answers server.target t r old new) spelt came, misread (page_in reads r.body.items) e unread))

  -- none came
  pub list_failed :
      (token : Option (List ℕ)) (text : List ℕ) (e : ClientFault) (was now : List X) (old new : Side)
      → text ≡ list_text server route token → Asks server.target text (Err e) old new
      → ListTurn (list_paging reads server route) token was now (Err e) old new
  unfolding list_paging
  list_failed token text e was now old new spelt asks = inr (inl (subst (λ t. Asks server.target t (Err e) old new) spelt asks))

-- these pages came, and their items stand behind those that were there
pub record Reached {X : Type 0} (g : Paging (Listing X)) (number : ℕ) (token : Option (List ℕ)) (was now : List X) (old new : Side) (pages : List (Listing X)) : Type 0 where
  pub begun : Begun g pages token old new
  pub many : length pages ≡ number
  pub held : now ≡ was ++ all_items pages

abbrev pub Reaches : {X : Type 0} → Paging (Listing X) → (number : ℕ) → Option (List ℕ) → (was now : List X) → Side → Side → Type 0
Reaches g number token was now old new = (pages : List (Listing _)) × Reached g number token was now old new pages

flat_map-end : {X : Type 0} (pages : List (Listing X)) (page : Listing X) → all_items (pages ++ page ∷ []) ≡ all_items pages ++ page.0
flat_map-end [] page = append-nil page.0
flat_map-end (p ∷ pages) page = ap (λ xs. p.0 ++ xs) (flat_map-end pages page) ∙ sym (append_assoc p.0 (all_items pages) page.0)

module _ {X : Type 0} (reads : Data → Option X) (server : Server) (route : List ℕ) (was : List X) where
  -- no page yet
  pub none_reached : (s : Side) → Reaches (list_paging reads server route) 0 None was was s s
  none_reached s = ([], record { begun = record { chain = (refl, refl); agree = tt }; many = refl; held = sym (append-nil was) })

  abbrev agrees : List (Listing X) → Type 0
  agrees pages = Agree (list_paging reads server route) pages

  agreed : (pages : List (Listing X)) → agrees pages
  unfolding list_paging
  agreed pages = always_agree (list_paging reads server route) (λ p q. refl) pages

  -- the page behind these
  chained :
      (pages : List (Listing X)) (token next : Option (List ℕ)) (items : List X) (old mid new : Side)
      → Chain (list_paging reads server route) (Some None) pages (Some token) old mid
      → Turn (list_paging reads server route) token (items, next) mid new
      → Chain (list_paging reads server route) (Some None) (pages ++ (items, next) ∷ []) (option_map Some next) old new
  unfolding list_paging
  chained pages token next items old mid new chain turn = chain_more (list_paging reads server route) (Some None) pages token (items, next) old mid new chain turn

  held_more : (pages : List (Listing X)) (next : Option (List ℕ)) (items here now : List X) → here ≡ was ++ all_items pages → now ≡ here ++ items
      → now ≡ was ++ all_items (pages ++ (items, next) ∷ [])
  held_more pages next items here now a b =
      b ∙ ap (λ xs. xs ++ items) a ∙ append_assoc was (all_items pages) items ∙ ap (λ xs. was ++ xs) (sym (flat_map-end pages (items, next)))

  -- one more, with another to come
  pub one_more :
      (number : ℕ) (token : Option (List ℕ)) (next : List ℕ) (here now : List X) (old mid new : Side)
      → Reaches (list_paging reads server route) number token was here old mid
      → ListTurn (list_paging reads server route) token here now (Ok (Some next)) mid new
      → Reaches (list_paging reads server route) (number + 1) (Some next) was now old new
  one_more number token next here now old mid new (pages, r) (items, held, turn) = (
    pages ++ (items, Some next) ∷ [],
    record {
      begun = record { chain = chained pages token (Some next) items old mid new r.begun.chain turn; agree = agreed (pages ++ (items, Some next) ∷ []) };
      many = length-append pages ((items, Some next) ∷ []) ∙ ap (λ n. n + 1) r.many;
      held = held_more pages (Some next) items here now r.held held;
    },
  )

  -- the last one
  pub last_one :
      (number : ℕ) (token : Option (List ℕ)) (here now : List X) (old mid new : Side)
      → Reaches (list_paging reads server route) number token was here old mid
      → ListTurn (list_paging reads server route) token here now (Ok None) mid new
      → OntoAll (list_paging reads server route) was now old new
  last_one number token here now old mid new (pages, r) (items, held, turn) = (
    all_items (pages ++ (items, None) ∷ []),
    held_more pages None items here now r.held held,
    (
      pages ++ (items, None) ∷ [],
      refl,
      record { chain = chained pages token None items old mid new r.begun.chain turn; agree = agreed (pages ++ (items, None) ∷ []) },
    ),
  )

  -- none came
  pub stopped :
      (number : ℕ) (token : Option (List ℕ)) (e : ClientFault) (here now : List X) (old mid new : Side)
      → Reaches (list_paging reads server route) number token was here old mid
      → ListTurn (list_paging reads server route) token here now (Err e) mid new
      → ListsOnto (list_paging reads server route) was now (Err e) old new
  stopped number token e here now old mid new (pages, r) fails = (pages, token, mid, r.begun, inr (inl fails))

  -- too many came
  pub too_many :
      (token : Option (List ℕ)) (now : List X) (old new : Side)
      → Reaches (list_paging reads server route) 100000 token was now old new
      → ListsOnto (list_paging reads server route) was now (Err fault.TooManyPages) old new
  too_many token now old new (pages, r) = (pages, token, new, r.begun, inl (refl, r.many, refl))

module _ (server : Server) where
  -- the tables of one share more
  each_more :
      (done : List (List ℕ)) (share : List ℕ) (found now : List SharedTable) (old mid new : Side)
      → ListsEach server done found old mid → OntoAll (tables server share) found now mid new
      → ListsEach server (done ++ share ∷ []) now old new
  each_more [] share found now old mid new (none, still) (items, held, lists) = (
    new,
    items,
    [],
    subst (λ s. Lists (tables server share) (Ok items) s new) still lists,
    (refl, refl),
    held ∙ ap (λ xs. xs ++ items) none ∙ sym (append-nil items),
  )
  each_more (s ∷ done) share found now old mid new (one, some, more, here, rest, joined) (items, held, lists) = (
    one,
    some,
    more ++ items,
    here,
    each_more done share more (more ++ items) one mid new rest (items, refl, lists),
    held ∙ ap (λ xs. xs ++ items) joined ∙ append_assoc some more items,
  )

  pub each_at :
      (shares : List (List ℕ)) (i : ℕ) (share : List ℕ) (found now : List SharedTable) (old mid new : Side)
      → i < length shares → share ≡ get_or shares i share
      → ListsEach server (take i shares) found old mid → OntoAll (tables server share) found now mid new
      → ListsEach server (take (i + 1) shares) now old new
  each_at shares i share found now old mid new lt is each lists =
      subst (λ done. ListsEach server done now old new)
      (ap (λ x. take i shares ++ x ∷ []) is ∙ sym (take_more shares i share lt))
      (each_more (take i shares) share found now old mid new each lists)

  pub ended_at :
      (shares : List (List ℕ)) (i : ℕ) (share : List ℕ) (found : List SharedTable) (e : ClientFault) (old mid new : Side)
      → i < length shares → share ≡ get_or shares i share
      → ListsEach server (take i shares) found old mid → ShareEnds server share e mid new
      → EachEnds server shares e old new
  ended_at shares i share found e old mid new lt is each ends = (
    take i shares,
    share,
    drop (i + 1) shares,
    found,
    mid,
    sym (take-append-drop i shares) ∙ ap (λ xs. take i shares ++ xs) (drop_more shares i share lt ∙ ap (λ x. x ∷ drop (i + 1) shares) (sym is)),
    each,
    ends,
  )

  pub each_all : (shares : List (List ℕ)) (i : ℕ) (found : List SharedTable) (old new : Side) → length shares ≤ i
      → ListsEach server (take i shares) found old new → ListsEach server shares found old new
  each_all shares i found old new le each = subst (λ done. ListsEach server done found old new) (take_all i shares le) each

  pub share_listed : (share : List ℕ) (was now : List SharedTable) (result : Result ⊤ ClientFault) (old new : Side)
      → ListsOnto (tables server share) was now result old new → ShareLists server share was now result old new
  share_listed share was now (Ok all) old new lists = lists
  share_listed share was now (Err e) old new lists = inr lists

  -- the shares were listed, and then the tables of each
  pub tables_listed : (was now : List (List ℕ)) (found : List SharedTable) (old mid new : Side) → was ≡ []
      → OntoAll (shares server) was now old mid → ListsEach server now found mid new → ListsTables server (Ok found) old new
  tables_listed was now found old mid new none (items, held, lists) each =
      (items, mid, lists, subst (λ names. ListsEach server names found mid new) (held ∙ ap (λ xs. xs ++ items) none) each)

  pub tables_ended : (was now : List (List ℕ)) (e : ClientFault) (old mid new : Side) → was ≡ []
      → OntoAll (shares server) was now old mid → EachEnds server now e mid new → ListsTables server (Err e) old new
  tables_ended was now e old mid new none (items, held, lists) ends =
      inr (inr (items, mid, lists, subst (λ names. EachEnds server names e mid new) (held ∙ ap (λ xs. xs ++ items) none) ends))

pub no_server : (o : Option Server) (s : Side) → ListsTablesOf o (Err fault.NoMemory) s s
no_server None s = (refl, refl)
no_server (Some server) s = inl (refl, refl)

pub match_map : {A E : Type 0} (r : Result A E) (P Q : A → Type 0) (F G : E → Type 0)
    → ((a : A) → P a → Q a) → ((e : E) → F e → G e) → MatchResult r P F → MatchResult r Q G
match_map (Ok a) P Q F G ok err h = ok a h
match_map (Err e) P Q F G ok err h = err e h
