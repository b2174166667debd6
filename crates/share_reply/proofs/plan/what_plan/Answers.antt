use Rattle.std.proofs.Common.{◌≡◌, ℕ, List, [], Result, refl, ap, rules, ◌∙◌, subst, sym}
use Rattle.std.specs.Prelude.{IfOk}
use Rattle.page_token.specs.declared.cursor.ListKind.TheVariants as kind
use Rattle.share_book.specs.Shown.{show_found}
use Rattle.share_book.specs.declared.look.Found.{Found}
use Rattle.share_request.specs.declared.asked.ResponseFormat.{ResponseFormat}
use Rattle.share_request.specs.declared.asked.What.{What}
use Rattle.share_reply.specs.Answer.{Answer, at_version, names, of, one_share}
use Rattle.share_reply.specs.Bodies.{reply_of}
use Rattle.share_reply.specs.Chains.{NextIsSpelt}
use Rattle.share_reply.specs.Files.{version_in}
use Rattle.share_reply.specs.Lists.{Listing, listing, names_page}
use Rattle.share_reply.specs.Replies.{answer_what, of_names}
use Rattle.share_reply.specs.declared.keys.ReplyKeys.{ReplyKeys}
use Rattle.share_reply.specs.declared.plan.Plan.{Plan}
use Rattle.share_reply.proofs.Spelt.{names_spelt, of_spelt, ok_all, table_spelt}
use Rattle.share_reply.proofs.plan.what_plan.Goals as goal

pub returns-in-GetShare-clause-reply : goal.returns-in-GetShare-clause-reply
returns-in-GetShare-clause-reply c =
    let keys = c.args.keys.now in
    let P : What → Type 0 = λ what. IfOk c.share_plan.result (λ p. p ≡ reply_of keys c.args.format (answer_what keys c.args.recipient.now c.args.now what (show_found c.args.found.now))) in
    subst P (sym c.in-GetShare.is) (c.share_plan.ensures keys c.args.format)

-- of a listing
listed : {E : Type 0} (keys : ReplyKeys) (f : ResponseFormat) (r : List ℕ) (now : ℕ) (x : Found) (w v : What) (l m : Listing) (result : Result Plan E) → w ≡ v → l ≡ m
    → answer_what keys r now v x ≡ of_names (λ seen. of names (names_page keys r seen m)) x
    → IfOk result (λ p. p ≡ reply_of keys f (of_names (λ seen. of names (names_page keys r seen l)) x)) → IfOk result (λ p. p ≡ reply_of keys f (answer_what keys r now w x))
listed keys f r now x w v l m result is same answer given =
    subst (λ (a : Answer). IfOk result (λ p. p ≡ reply_of keys f a)) (ap (λ (y : Listing). of_names (λ seen. of names (names_page keys r seen y)) x) same ∙ sym answer ∙ ap (λ (y : What). answer_what keys r now y x) (sym is)) given

pub returns-in-ListShares-clause-reply : goal.returns-in-ListShares-clause-reply
returns-in-ListShares-clause-reply c =
    listed c.args.keys.now c.args.format c.args.recipient.now c.args.now (show_found c.args.found.now) c.args.what.now _ _ _ c.listing_plan.result c.in-ListShares.is c.of-listing.ensures refl (c.listing_plan.ensures c.args.format)

pub returns-in-ListSchemas-clause-reply : goal.returns-in-ListSchemas-clause-reply
returns-in-ListSchemas-clause-reply c =
    let same : c.of-listing-in-ListSchemas.result ≡ listing kind.Schemas c.in-ListSchemas.share [] c.in-ListSchemas.page = search rules in
    listed c.args.keys.now c.args.format c.args.recipient.now c.args.now (show_found c.args.found.now) c.args.what.now _ _ _ c.listing_plan-in-ListSchemas.result c.in-ListSchemas.is same refl (c.listing_plan-in-ListSchemas.ensures c.args.format)

pub returns-in-ListTables-clause-reply : goal.returns-in-ListTables-clause-reply
returns-in-ListTables-clause-reply c =
    let same : c.of-listing-in-ListTables.result ≡ listing kind.Tables c.in-ListTables.share c.in-ListTables.schema c.in-ListTables.page = search rules in
    listed c.args.keys.now c.args.format c.args.recipient.now c.args.now (show_found c.args.found.now) c.args.what.now _ _ _ c.listing_plan-in-ListTables.result c.in-ListTables.is same refl (c.listing_plan-in-ListTables.ensures c.args.format)

pub returns-in-ListAll-clause-reply : goal.returns-in-ListAll-clause-reply
returns-in-ListAll-clause-reply c =
    let same : c.of-listing-in-ListAll.result ≡ listing kind.AllTables c.in-ListAll.share [] c.in-ListAll.page = search rules in
    listed c.args.keys.now c.args.format c.args.recipient.now c.args.now (show_found c.args.found.now) c.args.what.now _ _ _ c.listing_plan-in-ListAll.result c.in-ListAll.is same refl (c.listing_plan-in-ListAll.ensures c.args.format)

-- of what is asked, which is no page
no_page : {X E : Type 0} (keys : ReplyKeys) (r : List ℕ) (now : ℕ) (f : Found) (w v : What) (result : Result X E) → w ≡ v → NextIsSpelt keys (answer_what keys r now v f) → IfOk result (λ _. NextIsSpelt keys (answer_what keys r now w f))
no_page keys r now f w v result is spelt = ok_all result (subst (λ (x : What). NextIsSpelt keys (answer_what keys r now x f)) (sym is) spelt)

pub returns-in-ListShares-clause-spelt : goal.returns-in-ListShares-clause-spelt
returns-in-ListShares-clause-spelt c =
    let keys = c.args.keys.now in
    no_page keys c.args.recipient.now c.args.now (show_found c.args.found.now) c.args.what.now _ _ c.in-ListShares.is (names_spelt keys _ (show_found c.args.found.now) (λ seen. of_spelt keys names _ (λ n. tt)))

pub returns-in-ListSchemas-clause-spelt : goal.returns-in-ListSchemas-clause-spelt
returns-in-ListSchemas-clause-spelt c =
    let keys = c.args.keys.now in
    no_page keys c.args.recipient.now c.args.now (show_found c.args.found.now) c.args.what.now _ _ c.in-ListSchemas.is (names_spelt keys _ (show_found c.args.found.now) (λ seen. of_spelt keys names _ (λ n. tt)))

pub returns-in-ListTables-clause-spelt : goal.returns-in-ListTables-clause-spelt
returns-in-ListTables-clause-spelt c =
    let keys = c.args.keys.now in
    no_page keys c.args.recipient.now c.args.now (show_found c.args.found.now) c.args.what.now _ _ c.in-ListTables.is (names_spelt keys _ (show_found c.args.found.now) (λ seen. of_spelt keys names _ (λ n. tt)))

pub returns-in-ListAll-clause-spelt : goal.returns-in-ListAll-clause-spelt
returns-in-ListAll-clause-spelt c =
    let keys = c.args.keys.now in
    no_page keys c.args.recipient.now c.args.now (show_found c.args.found.now) c.args.what.now _ _ c.in-ListAll.is (names_spelt keys _ (show_found c.args.found.now) (λ seen. of_spelt keys names _ (λ n. tt)))

pub returns-in-GetShare-clause-spelt : goal.returns-in-GetShare-clause-spelt
returns-in-GetShare-clause-spelt c =
    let keys = c.args.keys.now in
    no_page keys c.args.recipient.now c.args.now (show_found c.args.found.now) c.args.what.now _ _ c.in-GetShare.is (names_spelt keys _ (show_found c.args.found.now) (λ seen. of_spelt keys one_share _ (λ n. tt)))

pub returns-in-Version-clause-spelt : goal.returns-in-Version-clause-spelt
returns-in-Version-clause-spelt c =
    let keys = c.args.keys.now in
    no_page keys c.args.recipient.now c.args.now (show_found c.args.found.now) c.args.what.now _ _ c.in-Version.is (table_spelt keys c.args.recipient.now c.in-Version.table (λ spot a part. of at_version (version_in part)) (show_found c.args.found.now) (λ spot a part. of_spelt keys at_version (version_in part) (λ n. tt)))
