-- The lines of a page by what was cut for it.
use Rattle.std.proofs.Common.{◌≡◌, ℕ, List, [], ◌∷◌, ◌++◌, length, map, Vec, Option, Some, None, Ok, Bool, true, false, refl, sym, ap, ◌∙◌, subst, option_map}
use Rattle.std.specs.Prelude.{if◌then◌else◌, nat_le, option_to_list}
use Rattle.std.specs.Global.{Global}
use Rattle.std.specs.Borrow.{Bor}
use Rattle.std.proofs.lemmas.Simd.{map-map}
use Rattle.case_table.specs.declared.refuse.Refusal.TheVariants.{TokenAhead}
use Rattle.change_feed.specs.Changes.{ChangedFile}
use Rattle.delta_lines.specs.declared.kinds.DeltaFile.{DeltaFile}
use Rattle.delta_lines.specs.declared.kinds.DeltaLine.{DeltaLine}
use Rattle.delta_lines.specs.declared.kinds.DeltaLine.TheVariants as line
use Rattle.log_actions.specs.declared.actions.AddFile.{AddFile}
use Rattle.log_actions.specs.declared.actions.MetaData.{MetaData}
use Rattle.log_actions.specs.declared.actions.Protocol.{Protocol}
use Rattle.log_replay.specs.State.{State}
use Rattle.page_token.specs.declared.cursor.TableAccess.{TableAccess}
use Rattle.pred_tree.specs.Listing.{IsFilter, passes, pred_by}
use Rattle.pred_tree.specs.declared.filter.Filter.{Filter}
use Rattle.share_lines.specs.declared.kinds.EndLine.{EndLine}
use Rattle.query_body.specs.declared.query.QueryBody.{QueryBody}
use Rattle.share_reply.specs.Access.{expiry}
use Rattle.share_reply.specs.Answer.{Ending, Page, ends_with}
use Rattle.share_reply.specs.Bodies.{end_line, page_lines}
use Rattle.share_reply.specs.Feeds.{ChangesQuery, FeedStart, feed_cursor, feed_ending, feed_page, given_change, lists_all, or_unsupported, told_protocol, with_meta}
use Rattle.share_reply.specs.Files.{FilesStart, files_cursor, files_ending, files_page, given_file, is_paged, lists, page_of_state}
use Rattle.share_reply.specs.Pages.{given, next_place}
use Rattle.share_reply.specs.Planned.{content_lines, lines_of}
use Rattle.share_reply.specs.Refusing.{where_all}
use Rattle.share_reply.specs.Starts.{end_of, page_of_changes, paged}
use Rattle.share_reply.specs.Stops.{as_lines}
use Rattle.share_reply.specs.declared.keys.ReplyKeys.{ReplyKeys}
use Rattle.share_reply.specs.declared.lines.Content.{Content}
use Rattle.share_reply.specs.declared.lines.Content.TheVariants as content
use Rattle.share_reply.specs.declared.page.Paged.{Paged}

abbrev pub page_with : ℕ → Protocol → MetaData → List DeltaFile → Bool → Ending → Page
page_with version protocol meta files asked e = record { version = version; protocol = protocol; meta = meta; content = files; end = if asked then Some e else None }

abbrev pub paged_with : ℕ → List DeltaLine → Paged
paged_with version lines = record { version = version; lines = lines }

end_lines : (keys : ReplyKeys) (asked : Bool) (e : Ending) → option_to_list (option_map (λ e. line.End e) (end_of keys asked e)) ≡ option_to_list (option_map (λ e. line.End (end_line keys e)) (if asked then Some e else None))
end_lines keys true e = refl
end_lines keys false e = refl

-- the lines of a plan whose content and whose end are a page's
lines_paged : (keys : ReplyKeys) (a : TableAccess) (expires version : ℕ) (protocol : Protocol) (meta : MetaData) (c : Content) (end : Option EndLine) (found : List DeltaFile) (asked : Bool) (e : Ending)
    → content_lines keys a expires c ≡ map (λ f. line.File f) found → end ≡ end_of keys asked e → lines_of keys a expires protocol meta c end ≡ page_lines keys (page_with version protocol meta found asked e)
lines_paged keys a expires version protocol meta c end found asked e is ends =
    ap (λ files. line.Protocol protocol ∷ line.MetaData meta ∷ (files ++ option_to_list (option_map (λ e. line.End e) end))) is
    ∙ ap (λ last. line.Protocol protocol ∷ line.MetaData meta ∷ (map (λ f. line.File f) found ++ option_to_list (option_map (λ e. line.End e) last))) ends
    ∙ ap (λ last. line.Protocol protocol ∷ line.MetaData meta ∷ (map (λ f. line.File f) found ++ last)) (end_lines keys asked e)

-- ---- files

abbrev ending_with : TableAccess → ℕ → FilesStart → List AddFile → Option ℕ → Ending
ending_with a expires s files next = record { expires = ends_with expires files; next = option_map (files_cursor a s) next }

-- what a filter of the hint lets pass is what is listed
pub listed_by : (hint : Option (List ℕ)) (state : State) (filter : Filter) (meta : MetaData) → meta ≡ state.meta → IsFilter (pred_by hint) meta filter → passes filter ≡ lists hint state
listed_by hint state filter meta is_meta is_filter =
    let filter_is = subst (λ m. IsFilter (pred_by hint) m filter) is_meta is_filter in
    λ i file. filter_is file i

-- the page of the files that were cut
pub files_paged : (keys : ReplyKeys) (a : TableAccess) (now : ℕ) (q : QueryBody) (s : FilesStart) (state : State) (expires version : ℕ) (protocol : Protocol) (meta : MetaData)
    (files : Vec (Bor AddFile) Global) (next : Option ℕ) (end : Option EndLine)
    → expires ≡ expiry keys now → version ≡ s.version → protocol ≡ state.protocol → meta ≡ state.meta
    → map (λ f. f.now) files.items ≡ given (lists s.hint state) q.max s.place state.files → next ≡ next_place (lists s.hint state) q.max s.place state.files
    → end ≡ end_of keys (is_paged q.max q.token) (ending_with a expires s (map (λ f. f.now) files.items) next)
    → paged_with version (lines_of keys a expires protocol meta (content.Files files) end) ≡ paged keys (files_page keys a now q s state)
files_paged keys a now q s state expires version protocol meta files next end is_end is_version is_protocol is_meta is_files is_next is_last =
    let ending : ending_with a expires s (map (λ f. f.now) files.items) next ≡ files_ending keys a now q s state = λ i. ending_with a (is_end i) s (is_files i) (is_next i) in
    let given_lines : content_lines keys a expires (content.Files files) ≡ map (λ f. line.File f) (map (given_file keys a (expiry keys now)) (given (lists s.hint state) q.max s.place state.files)) =
    sym (map-map (λ f. line.File (given_file keys a expires f)) (λ f. f.now) files.items) ∙ (λ i. map (λ f. line.File (given_file keys a (is_end i) f)) (is_files i))
    ∙ sym (map-map (λ (f : DeltaFile). line.File f) (given_file keys a (expiry keys now)) (given (lists s.hint state) q.max s.place state.files)) in
    let lines = lines_paged keys a expires s.version protocol meta (content.Files files) end _ (is_paged q.max q.token) (files_ending keys a now q s state) given_lines (is_last ∙ ap (end_of keys (is_paged q.max q.token)) ending) in
    let here : lines_of keys a expires protocol meta (content.Files files) end ≡ page_lines keys (files_page keys a now q s state) =
    lines ∙ (λ i. page_lines keys (page_with s.version (is_protocol i) (is_meta i) (map (given_file keys a (expiry keys now)) (given (lists s.hint state) q.max s.place state.files)) (is_paged q.max q.token) (files_ending keys a now q s state))) in
    λ i. paged_with (is_version i) (here i)

-- a place within the state has that page
pub state_paged : (keys : ReplyKeys) (a : TableAccess) (now : ℕ) (q : QueryBody) (s : FilesStart) (state : State) (made : Paged)
    → nat_le s.place (length state.files) ≡ true → made ≡ paged keys (files_page keys a now q s state) → as_lines keys (page_of_state keys a now q s state) ≡ Ok made
state_paged keys a now q s state made within is =
    ap (λ b. as_lines keys (where_all ((b, TokenAhead) ∷ []) (Ok (files_page keys a now q s state)))) within ∙ ap Ok (sym is)

-- ---- changes

abbrev pub feed_ending_with : TableAccess → ℕ → FeedStart → List ChangedFile → Option ℕ → Ending
feed_ending_with a expires s page next = record { expires = ends_with expires page; next = option_map (feed_cursor a s) next }

-- the page of the changes that were cut
pub feed_paged : (keys : ReplyKeys) (a : TableAccess) (now : ℕ) (q : ChangesQuery) (s : FeedStart) (protocol : Protocol) (meta : MetaData) (changes : List ChangedFile) (expires version : ℕ)
    (page : Vec ChangedFile Global) (next : Option ℕ) (end : Option EndLine)
    → expires ≡ expiry keys now → version ≡ s.to → page.items ≡ given lists_all q.max s.place changes → next ≡ next_place lists_all q.max s.place changes
    → end ≡ end_of keys (is_paged q.max q.token) (feed_ending_with a expires s page.items next)
    → paged_with version (lines_of keys a expires protocol meta (content.Changes page) end) ≡ paged keys (feed_page keys a now q s protocol meta changes)
feed_paged keys a now q s protocol meta changes expires version page next end is_end is_version is_page is_next is_last =
    let ending : feed_ending_with a expires s page.items next ≡ feed_ending keys a now q s changes = λ i. feed_ending_with a (is_end i) s (is_page i) (is_next i) in
    let given_lines : content_lines keys a expires (content.Changes page) ≡ map (λ f. line.File f) (map (given_change keys a (expiry keys now)) (given lists_all q.max s.place changes)) =
    (λ i. map (λ c. line.File (given_change keys a (is_end i) c)) (is_page i)) ∙ sym (map-map (λ (f : DeltaFile). line.File f) (given_change keys a (expiry keys now)) (given lists_all q.max s.place changes)) in
    let here : lines_of keys a expires protocol meta (content.Changes page) end ≡ page_lines keys (feed_page keys a now q s protocol meta changes) =
    lines_paged keys a expires s.to protocol meta (content.Changes page) end _ (is_paged q.max q.token) (feed_ending keys a now q s changes) given_lines (is_last ∙ ap (end_of keys (is_paged q.max q.token)) ending) in
    λ i. paged_with (is_version i) (here i)

-- a place within the changes has that page
pub changes_paged : (keys : ReplyKeys) (a : TableAccess) (now : ℕ) (q : ChangesQuery) (s : FeedStart) (held : Option Protocol) (last : Option MetaData) (meta : MetaData) (changes : List ChangedFile) (made : Paged)
    → nat_le s.place (length changes) ≡ true → Some meta ≡ last → made ≡ paged keys (feed_page keys a now q s (told_protocol held) meta changes) → as_lines keys (page_of_changes keys a now q s held last changes) ≡ Ok made
changes_paged keys a now q s held last meta changes made within found is =
    ap (λ b. as_lines keys (where_all ((b, TokenAhead) ∷ []) (with_meta keys a now q s (told_protocol held) changes (or_unsupported last)))) within
    ∙ ap (λ o. as_lines keys (with_meta keys a now q s (told_protocol held) changes (or_unsupported o))) (sym found)
    ∙ ap Ok (sym is)
