-- What is read of the lines of a page, after what was read of their front.
use Rattle.std.proofs.Common.{◌≡◌, ℕ, ◌==◌, Bool, List, [], ◌∷◌, ◌++◌, length, Option, Some, None, Result, Ok, Err, option_map, refl, sym, ap, subst, ◌∙◌, append_assoc, append-nil}
use Rattle.share_client.specs.Listings.{or_start}
use Rattle.share_client.specs.Lists.{Listing}
use Rattle.share_client.specs.Reads.{GivesText, ReadsPage, Unread}
use Rattle.share_client.specs.TablePages.{Form, TablePage, content_in, end_in, head_with, page_of_lines, page_of_version, page_with, parts_in, token_of, with_item}
use Rattle.share_client.specs.TableSteps.{ReadsParts, ReadsTablePage}
use Rattle.share_client.specs.declared.fault.ClientFault.{ClientFault}
use Rattle.share_client.specs.declared.fault.ClientFault.TheVariants as fault
use Rattle.share_client.specs.declared.page_head.PageHead.{PageHead}

-- the items that were found stand behind the first ones, and what is read of the other lines, behind them, is what is read of all
pub record OntoContent {L F X : Type 0} (form : Form L F) (reads : L → Option X) (was now : List X) (all rest : List L) : Type 0 where
  pub front : List X
  pub held : now ≡ was ++ front
  pub read : content_in form reads all ≡ option_map (λ c. (front ++ c.0, c.1)) (content_in form reads rest)

-- what isn't read of a part isn't read of the whole
pub unread_as : {X Y : Type 0} (part : Option X) (whole : Option Y) (e : ClientFault) → (part ≡ None → whole ≡ None) → Unread part e → Unread whole e
unread_as part whole (fault.BadReply at) f (start, none) = (start, f none)
unread_as part whole fault.NoMemory f u = tt
unread_as part whole (fault.Refused status refusal) f u = absurd u
unread_as part whole (fault.PageChanged first other) f u = absurd u
unread_as part whole (fault.SizeChanged first other) f u = absurd u
unread_as part whole fault.TooManyPages f u = absurd u
unread_as part whole fault.BadUrl f u = absurd u
unread_as part whole fault.PeerFault f u = absurd u
unread_as part whole fault.ReadFault f u = absurd u
unread_as part whole fault.WriteFault f u = absurd u

-- what is read behind a front
abbrev behind : {X : Type 0} → (front : List X) → Listing X → Listing X
behind front c = (front ++ c.0, c.1)

abbrev with_first : {X : Type 0} → X → Listing X → Listing X
with_first x c = (x ∷ c.0, c.1)

abbrev no_items : {X : Type 0} → Option (List ℕ) → Listing X
no_items token = ([], token)

module _ {L F X : Type 0} (form : Form L F) (reads : L → Option X) (was : List X) (all : List L) where
  more_behind : (front : List X) (x : X) (c : Option (Listing X))
      → option_map (behind front) (option_map (with_first x) c) ≡ option_map (behind (front ++ x ∷ [])) c
  more_behind front x None = refl
  more_behind front x (Some c) = ap (λ (xs : List X). Some (xs, c.1)) (sym (append_assoc front (x ∷ []) c.0))

  pub content_more : (here now : List X) (l : L) (ls : List L) (x : X)
      → OntoContent form reads was here all (l ∷ ls) → reads l ≡ Some x → now ≡ here ++ x ∷ [] → OntoContent form reads was now all ls
  content_more here now l ls x onto is held = record {
    front = onto.front ++ x ∷ [];
    held = held ∙ ap (λ xs. xs ++ x ∷ []) onto.held ∙ append_assoc was onto.front (x ∷ []);
    read =
        onto.read ∙ ap (λ (o : Option X). option_map (behind onto.front) (with_item o (content_in form reads ls) (end_in form l ls))) is
        ∙ more_behind onto.front x (content_in form reads ls);
  }

  -- nothing was found yet
  same_read : (c : Option (Listing X)) → c ≡ option_map (behind []) c
  same_read None = refl
  same_read (Some (items, token)) = refl

  pub content_begun : OntoContent form reads was was all all
  content_begun = record { front = []; held = sym (append-nil was); read = same_read (content_in form reads all) }

  at_front : (front : List X) (token : Option (List ℕ)) (rest : Option (Listing X)) → rest ≡ Some ([], token)
      → option_map (behind front) rest ≡ Some (front, token)
  at_front front token rest is = ap (option_map (behind front)) is ∙ ap (λ (xs : List X). Some (xs, token)) (append-nil front)

  pub content_done : (now : List X) → OntoContent form reads was now all [] → ReadsPage was now (content_in form reads all) (Ok None)
  content_done now onto = (onto.front, onto.read ∙ at_front onto.front None (Some ([], None)) refl, onto.held)

  end_at : (l : L) (ls : List L) (last : Bool) (token : Option (Option (List ℕ))) → reads l ≡ None → last ≡ (length ls == 0) → token_of form l last ≡ token
      → content_in form reads (l ∷ ls) ≡ option_map no_items token
  end_at l ls last token none is given =
      ap (λ (o : Option X). with_item o (content_in form reads ls) (end_in form l ls)) none ∙ ap (option_map (no_items {X = X})) (ap (token_of form l) (sym is) ∙ given)

  pub content_ends : (now : List X) (l : L) (ls : List L) (last : Bool) (result : Result (Option (List ℕ)) ClientFault)
      → OntoContent form reads was now all (l ∷ ls) → reads l ≡ None → last ≡ (length ls == 0) → GivesText result (token_of form l last)
      → ReadsPage was now (content_in form reads all) result
  content_ends now l ls last (Ok token) onto none is given =
      (onto.front, onto.read ∙ at_front onto.front token (content_in form reads (l ∷ ls)) (end_at l ls last (Some token) none is given), onto.held)
  content_ends now l ls last (Err e) onto none is given =
      unread_as (token_of form l last) (content_in form reads all) e
      (λ absent. onto.read ∙ ap (option_map (behind onto.front)) (end_at l ls last None none is absent)) given

-- the page of parts
pub page_read :
    {L F X : Type 0} (form : Form L F) (reads : L → Option X) (version : ℕ) (ls : List L) (was now : List X) (front : F) (token : Option (List ℕ)) (head : PageHead F)
    → ReadsParts was now (parts_in form reads ls) (Ok (front, token)) → head ≡ head_with form version front
    → ReadsTablePage was now (or_start (page_with form reads version ls)) (Ok (head, token))
page_read {L} {F} {X} form reads version ls was now front token head (content, read, held) is =
    let page : TablePage F X = record { head = head_with form version front; content = content; token = token } in
    let e : page_with form reads version ls ≡ Some page =
    ap (option_map (λ (p : F × Listing X). record { head = head_with form version p.0; content = p.1.0; token = p.1.1 })) read in
    (page, ap or_start e, (held, is, refl))

-- the page of a body whose lines these are
pub page_of_body :
    {L F X : Type 0} (form : Form L F) (reads : L → Option X) (found : Option ℕ) (version : ℕ) (body sent : List ℕ) (all ls : List L) (was now : List X)
    (result : Result (PageHead F × Option (List ℕ)) ClientFault)
    → Some version ≡ found → sent ≡ body → form.lines sent ≡ Ok all → ls ≡ all
    → ReadsTablePage was now (or_start (page_with form reads version ls)) result → ReadsTablePage was now (page_of_version form reads found body) result
page_of_body form reads found version body sent all ls was now result states is read same given =
    subst (λ o. ReadsTablePage was now (page_of_version form reads o body) result) states
    (subst (λ b. ReadsTablePage was now (page_of_lines form reads version (form.lines b)) result) is
    (subst (λ r. ReadsTablePage was now (page_of_lines form reads version r) result) (sym read)
    (subst (λ xs. ReadsTablePage was now (or_start (page_with form reads version xs)) result) same given)))
