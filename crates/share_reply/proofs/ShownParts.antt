-- What of what is found a recipient is shown: it makes a difference for files and for changes alone.
use Rattle.std.proofs.Common.{◌≡◌, ℕ, ◌<◌, List, [], ◌∷◌, Bool, true, false, Option, Some, None, Result, Ok, Err, filter, option_map, is_some, length, refl, sym, ap, ◌∙◌, subst, arith}
use Rattle.std.specs.Prelude.{IfOk, nat_le, not}
use Rattle.std.proofs.lemmas.Bool.Decides.{nat_tests}
use Rattle.case_table.specs.declared.refuse.Refusal.TheVariants.{ChangesRestricted, LinkExpired, TokenAhead}
use Rattle.log_actions.specs.declared.actions.MetaData.{MetaData}
use Rattle.log_actions.specs.declared.actions.AddFile.{AddFile}
use Rattle.log_replay.specs.State.{State}
use Rattle.page_token.specs.declared.cursor.TableAccess.{TableAccess}
use Rattle.pred_tree.specs.Listing.{IsFilter, passes, pred_by}
use Rattle.pred_tree.specs.Shown.{IsShown, shown_in}
use Rattle.pred_tree.specs.declared.filter.Filter.{Filter}
use Rattle.pred_tree.specs.declared.shown.Shown.{Shown}
use Rattle.share_book.specs.Shown.{show, show_found, show_part}
use Rattle.share_book.specs.Views.{shown_state}
use Rattle.share_book.specs.declared.look.Found.{Found}
use Rattle.share_book.specs.declared.look.Found.TheVariants as found
use Rattle.share_book.specs.declared.look.PartFound.{PartFound}
use Rattle.share_book.specs.declared.look.PartFound.TheVariants as part_found
use Rattle.share_book.specs.declared.look.Seen.{Seen}
use Rattle.query_body.specs.declared.query.QueryBody.{QueryBody}
use Rattle.signed_link.specs.declared.parts.LinkParts.{LinkParts}
use Rattle.share_reply.specs.Answer.{Page}
use Rattle.share_reply.specs.Cuts.{IsCutOf}
use Rattle.share_reply.specs.Feeds.{ChangesQuery, changes_page, unrestricted_changes}
use Rattle.share_reply.specs.Files.{FilesStart, files_page, lists, page_of_state}
use Rattle.share_reply.specs.Links.{linked_object, object_by, object_in}
use Rattle.share_reply.specs.Refusing.{Refused, plain, where_all}
use Rattle.share_reply.specs.Stops.{as_lines}
use Rattle.share_reply.specs.declared.cut.FilesCut.{FilesCut}
use Rattle.share_reply.specs.declared.keys.ReplyKeys.{ReplyKeys}
use Rattle.share_reply.proofs.Paging.{listed_by}

-- ---- files

pub shown_meta : (only : Option (List ℕ)) (state : State) → (shown_state only state).meta ≡ state.meta
shown_meta None state = refl
shown_meta (Some text) state = refl

each_passes : {X : Type 0} (test : X → Bool) (xs : List X) → ((x : X) → test x ≡ true) → filter test xs ≡ xs
each_passes test [] pass = refl
each_passes test (x ∷ xs) pass = rw (pass x) (ap (λ ys. x ∷ ys) (each_passes test xs pass))

pub shown_protocol : (only : Option (List ℕ)) (state : State) → (shown_state only state).protocol ≡ state.protocol
shown_protocol None state = refl
shown_protocol (Some text) state = refl

-- which files are shown, all where nothing is restricted
pub files_shown : (only : Option (List ℕ)) (state : State) (s : Shown) (meta : MetaData) → meta ≡ state.meta → IsShown only meta s → filter (shown_in s) state.files ≡ (shown_state only state).files
files_shown None state s meta is_meta is_shown = each_passes (shown_in s) state.files is_shown
files_shown (Some text) state s meta is_meta is_shown =
    let here = subst (λ (m : MetaData). IsShown (Some text) m s) is_meta is_shown in
    (λ i. filter (λ (f : AddFile). here f i) state.files)

-- what was cut of the files that are shown, by a filter of the hint
pub cut_shown : {E : Type 0} (r : Result (Option FilesCut) E) (hint only : Option (List ℕ)) (state : State) (f : Filter) (meta : MetaData) (most : Option ℕ) (at place : ℕ) (files : List AddFile)
    → meta ≡ state.meta → IsFilter (pred_by hint) meta f → at ≡ place → files ≡ (shown_state only state).files
    → IfOk r (IsCutOf (passes f) most at files) → IfOk r (IsCutOf (lists hint (shown_state only state)) most place (shown_state only state).files)
cut_shown r hint only state f meta most at place files is_meta is_filter is_place is_files cut =
    let listed : passes f ≡ lists hint (shown_state only state) = listed_by hint (shown_state only state) f meta (is_meta ∙ sym (shown_meta only state)) is_filter in
    subst (λ (test : AddFile → Bool). IfOk r (IsCutOf test most place (shown_state only state).files)) listed
    (subst (λ (n : ℕ). IfOk r (IsCutOf (passes f) most n (shown_state only state).files)) is_place
    (subst (λ (xs : List AddFile). IfOk r (IsCutOf (passes f) most at xs)) is_files cut))

ahead : (b : Bool) (r : Result Page Refused) (keys : ReplyKeys) → b ≡ false → as_lines keys (where_all ((b, TokenAhead) ∷ []) r) ≡ Err (plain TokenAhead)
ahead true r keys e = absurd cc
ahead false r keys e = refl

-- a place behind all that are shown
pub state_ahead : (keys : ReplyKeys) (a : TableAccess) (now : ℕ) (q : QueryBody) (s : FilesStart) (state : State) → length state.files < s.place → as_lines keys (page_of_state keys a now q s state) ≡ Err (plain TokenAhead)
state_ahead keys a now q s state few = ahead (nat_le s.place (length state.files)) (Ok (files_page keys a now q s state)) keys (grind (arith, nat_tests, few))

-- ---- changes

pub changes_restricted : (keys : ReplyKeys) (only : Option (List ℕ)) (a : TableAccess) (now : ℕ) (q : ChangesQuery) (x : PartFound) → is_some only ≡ true → unrestricted_changes keys only a now q x ≡ Err (plain ChangesRestricted)
changes_restricted keys None a now q x e = absurd cc
changes_restricted keys (Some text) a now q x e = refl

show_all : (x : PartFound) → show_part None x ≡ x
show_all part_found.Nothing = refl
show_all (part_found.Version version) = refl
show_all (part_found.Files version state) = refl
show_all (part_found.Feed feed) = refl
show_all (part_found.Refused why) = refl

pub changes_whole : (keys : ReplyKeys) (only : Option (List ℕ)) (a : TableAccess) (now : ℕ) (q : ChangesQuery) (x : PartFound) → is_some only ≡ false → unrestricted_changes keys only a now q (show_part only x) ≡ changes_page keys a now q x
changes_whole keys None a now q x e = ap (changes_page keys a now q) (show_all x)
changes_whole keys (Some text) a now q x e = absurd cc

-- ---- links

found_shown : (parts : LinkParts) (f : Found) → object_in parts (show_found f) ≡ object_in parts f
found_shown parts (found.Names names) = refl
found_shown parts found.NoTable = refl
found_shown parts (found.Table spot part) = refl

seen_shown : (parts : LinkParts) (seen : Option Seen) → object_by parts (option_map show seen) ≡ object_by parts seen
seen_shown parts None = refl
seen_shown parts (Some seen) = found_shown parts seen.found

-- a link is good whatever is shown
pub link_shown : (seen : Option Seen) (now : ℕ) (parts : Option LinkParts) → linked_object (option_map show seen) now parts ≡ linked_object seen now parts
link_shown seen now None = refl
link_shown seen now (Some parts) = ap (λ (r : Result (List ℕ) Refused). where_all ((not (nat_le parts.expires now), LinkExpired) ∷ []) r) (seen_shown parts seen)
