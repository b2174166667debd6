-- One more line.
use Rattle.std.proofs.Common.{◌≡◌, ℕ, ◌+◌, ◌-◌, ◌^◌, ◌||◌, min, Bool, List, [], ◌∷◌, ◌++◌, length, refl, sym, ap, ◌∙◌, subst, arith, length-append}
use Rattle.std.proofs.Math.Bool.{or-false}
use Rattle.std.proofs.lemmas.List.Folds.{list_any-append}
use Rattle.share_serve.specs.declared.server.Server.{Server}
use Rattle.share_pool.specs.Posts.{Post}
use Rattle.share_pool.specs.Visits.{Attended, Attends, Visit, any_lacks, wants}

pub attended_more : (server : Server) (old mid new : Post) (visits : List Visit) (v : Visit) → Attended server old visits mid → Attends server mid v new → Attended server old (visits ++ v ∷ []) new
attended_more server old mid new [] v r s = (new, subst (λ (z : Post). Attends server z v new) r s, refl)
attended_more server old mid new (x ∷ visits) v r s = (r.0, r.1, attended_more server r.0 mid new visits v r.2 s)

pub lacks_more : (visits : List Visit) (v : Visit) (old new : Bool) → old ≡ any_lacks visits → new ≡ (old || wants v) → new ≡ any_lacks (visits ++ v ∷ [])
lacks_more visits v old new was is =
    is ∙ ap (λ b. b || wants v) was ∙ sym (list_any-append (λ (w : Visit). wants w) visits (v ∷ []) ∙ ap (λ b. any_lacks visits || b) (or-false (wants v)))

pub count_more : (visits : List Visit) (v : Visit) (old new : ℕ) → old ≡ min (length visits) (2 ^ 64 - 1) → new ≡ min (old + 1) (2 ^ 64 - 1) → new ≡ min (length (visits ++ v ∷ [])) (2 ^ 64 - 1)
count_more visits v old new was is = let n : length (visits ++ v ∷ []) ≡ length visits + 1 = length-append visits (v ∷ []) in omega arith
