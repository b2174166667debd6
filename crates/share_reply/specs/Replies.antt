-- What a recipient's request is answered: a function of the keys, the recipient's own view, the moment and the request. Other recipients, the numbers of logs, a cache and threads can't be in it: it has no such argument.
use Rattle.std.specs.Prelude.{ℕ, not, ◌∷◌, [], List, Bool, false, Option, Some, None, Ok, Err, Result, nat_le, option_and_then}
use Rattle.case_table.specs.declared.refuse.Refusal.TheVariants.{NotFound, Unauthenticated}
use Rattle.page_token.specs.declared.cursor.ListKind.TheVariants as kind
use Rattle.page_token.specs.declared.cursor.TableAccess.{TableAccess}
use Rattle.share_book.specs.Looks.{look_of, who_of}
use Rattle.share_book.specs.NamesView.{NamesView}
use Rattle.share_book.specs.Views.{View, view_by}
use Rattle.share_book.specs.declared.entry.Entry.{Entry}
use Rattle.share_book.specs.declared.look.Ask.{Ask}
use Rattle.share_book.specs.declared.look.Found.{Found}
use Rattle.share_book.specs.declared.look.Found.TheVariants as found
use Rattle.share_book.specs.declared.look.PartFound.{PartFound}
use Rattle.share_book.specs.declared.look.Seen.{Seen}
use Rattle.share_catalog.specs.Views.{Spot}
use Rattle.share_catalog.specs.declared.table_name.TableName.{TableName}
use Rattle.share_request.specs.Faults.{early_refusal, fault_detail, fault_refusal}
use Rattle.share_request.specs.declared.asked.Request.{Request}
use Rattle.share_request.specs.declared.asked.Request.TheVariants as request
use Rattle.share_request.specs.declared.asked.What.{What}
use Rattle.share_request.specs.declared.asked.What.TheVariants as what
use Rattle.share_request.specs.declared.fault.RequestFault.{RequestFault}
use Rattle.share_request.specs.declared.fault.TurnedAway.{TurnedAway}
use Rattle.share_request.specs.declared.fault.TurnedAway.TheVariants as early
use Rattle.signed_link.specs.Parts.{parts_of}
use Rattle.share_reply.specs.Access.{access}
use Rattle.share_reply.specs.Answer.{Answer, at_version, names, of, of_object, one_share, only, page, refused}
use Rattle.share_reply.specs.Asking.{ask_of}
use Rattle.share_reply.specs.Feeds.{unrestricted_changes}
use Rattle.share_reply.specs.Files.{metadata_page, query_page, version_in}
use Rattle.share_reply.specs.Links.{linked_object}
use Rattle.share_reply.specs.Lists.{listing, names_page, share_in}
use Rattle.share_reply.specs.Refusing.{plain, where_all}
use Rattle.share_reply.specs.declared.keys.ReplyKeys.{ReplyKeys}

-- ---- of what is found

-- of the names that a recipient sees
abbrev pub of_names : (NamesView → Answer) → Found → Answer
of_names answer (found.Names seen) = answer seen
of_names answer found.NoTable = refused (plain NotFound)
of_names answer (found.Table spot part) = refused (plain NotFound)

-- of a table: one that isn't bound in a granted share is answered like one that isn't there
abbrev pub of_table : List ℕ → TableName → (Spot → TableAccess → PartFound → Answer) → Found → Answer
of_table recipient name answer (found.Names seen) = refused (plain NotFound)
of_table recipient name answer found.NoTable = refused (plain NotFound)
of_table recipient name answer (found.Table spot part) = answer spot (access recipient name spot) part

-- the last three are no recipient's, and no recipient has them
abbrev pub answer_what : ReplyKeys → List ℕ → ℕ → What → Found → Answer
answer_what keys r now (what.ListShares p) f = of_names (λ seen. of names (names_page keys r seen (listing kind.Shares [] [] p))) f
answer_what keys r now (what.GetShare share) f = of_names (λ seen. of one_share (share_in seen share)) f
answer_what keys r now (what.ListSchemas share p) f = of_names (λ seen. of names (names_page keys r seen (listing kind.Schemas share [] p))) f
answer_what keys r now (what.ListTables share schema p) f = of_names (λ seen. of names (names_page keys r seen (listing kind.Tables share schema p))) f
answer_what keys r now (what.ListAll share p) f = of_names (λ seen. of names (names_page keys r seen (listing kind.AllTables share [] p))) f
answer_what keys r now (what.Version table from) f = of_table r table (λ spot a part. of at_version (version_in part)) f
answer_what keys r now (what.Metadata table at) f = of_table r table (λ spot a part. of page (metadata_page part)) f
answer_what keys r now (what.Query table body) f = of_table r table (λ spot a part. of page (query_page keys a now body part)) f
answer_what keys r now (what.Changes table from to max token) f =
    of_table r table (λ spot a part. of page (unrestricted_changes keys spot.only a now (record { from = from; to = to; max = max; token = token }) part)) f
answer_what keys r now (what.Commit offer) f = refused (plain NotFound)
answer_what keys r now (what.Refresh location) f = refused (plain NotFound)
answer_what keys r now (what.Edit edit) f = refused (plain NotFound)

-- a fault of the request is told once it is known who asks
abbrev pub answer_asked : ReplyKeys → List ℕ → ℕ → Result What RequestFault → Found → Answer
answer_asked keys r now (Ok w) f = answer_what keys r now w f
answer_asked keys r now (Err fault) f = refused (record { refusal = fault_refusal fault; detail = fault_detail fault })

-- a credential ends with its expiry
abbrev pub is_expired : Option ℕ → ℕ → Bool
is_expired None now = false
is_expired (Some end) now = nat_le end now

-- of a recipient that its token finds, or that none finds
abbrev pub answer_to : ReplyKeys → ℕ → Result What RequestFault → Option Seen → Answer
answer_to keys now asked None = refused (plain Unauthenticated)
answer_to keys now asked (Some seen) = of (answer_asked keys seen.recipient now asked) (where_all ((not (is_expired seen.expires now), Unauthenticated) ∷ []) (Ok seen.found))

abbrev pub answer_early : TurnedAway → Answer
answer_early early.NoRoute = refused (plain (early_refusal early.NoRoute))
answer_early (early.WrongMethod allowed) = only allowed
answer_early early.NoBearer = refused (plain (early_refusal early.NoBearer))

-- what a request is answered by what is seen for it
abbrev pub answer_from : ReplyKeys → ℕ → Request → Option Seen → Answer
answer_from keys now (request.TurnedAway why) seen = answer_early why
answer_from keys now (request.ByToken r) seen = answer_to keys now r.asked seen
answer_from keys now (request.ByLink by) seen = of_object by.span (linked_object seen now (parts_of keys.link by.target))

-- ---- of a view

abbrev pub seen_in : Option View → Ask → Option Seen
seen_in view ask = look_of view ask.want

-- what of a view is seen for a request
abbrev pub seen_for : ReplyKeys → Request → Option View → Option Seen
seen_for keys req view = option_and_then (seen_in view) (ask_of keys req)

-- what a request is answered, of the view of whom it asks for
abbrev pub answered : ReplyKeys → Option View → ℕ → Request → Answer
answered keys view now req = answer_from keys now req (seen_for keys req view)

-- whose view it is: that of the recipient that the token or the link finds at this point of the history
abbrev pub view_asked : List Entry → Ask → Option View
view_asked history ask = view_by history (who_of ask.who)

abbrev pub view_for : ReplyKeys → Request → List Entry → Option View
view_for keys req history = option_and_then (view_asked history) (ask_of keys req)

-- what a request is answered at a point of the history
abbrev pub answered_at : ReplyKeys → List Entry → ℕ → Request → Answer
answered_at keys history now req = answered keys (view_for keys req history) now req
