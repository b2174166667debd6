-- No route has more than seven segments, so what stands behind the eighth says nothing.
use Rattle.std.proofs.Common.{◌≡◌, ℕ, List, [], ◌∷◌, Option, Some, None, take, refl, sym, ap, ◌∙◌}
use Rattle.std.specs.Prelude.{codes}
use Rattle.case_table.specs.declared.routing.Route.{Route}
use Rattle.http_message.specs.declared.head.Head.{Head}
use Rattle.signed_link.specs.Reading.{after}
use Rattle.share_request.specs.Paths.{route_of, segments_in}
use Rattle.share_request.specs.Requests.{at_path, below_in, by_route, link_or}

by_front : (head : Head) (names : List (List ℕ)) (query : Option (List ℕ)) (body : List ℕ) → by_route head (route_of (take 8 names)) (take 8 names) query body ≡ by_route head (route_of names) names query body
by_front head [] query body = refl
by_front head (a ∷ []) query body = refl
by_front head (a ∷ b ∷ []) query body = refl
by_front head (a ∷ b ∷ c ∷ []) query body = refl
by_front head (a ∷ b ∷ c ∷ d ∷ []) query body = refl
by_front head (a ∷ b ∷ c ∷ d ∷ e ∷ []) query body = refl
by_front head (a ∷ b ∷ c ∷ d ∷ e ∷ f ∷ []) query body = refl
by_front head (a ∷ b ∷ c ∷ d ∷ e ∷ f ∷ g ∷ []) query body = refl
by_front head (a ∷ b ∷ c ∷ d ∷ e ∷ f ∷ g ∷ h ∷ names) query body = refl

-- the request by the first eight segments of a path that isn't a link's
pub request_found : (head : Head) (below : List ℕ) (query : Option (List ℕ)) (body : List ℕ) (o : Option Route) → after (codes "files/") below ≡ None → o ≡ route_of (take 8 (segments_in below))
    → by_route head o (take 8 (segments_in below)) query body ≡ below_in head (Some below) query body
request_found head below query body o none is =
    ap (λ (x : Option Route). by_route head x (take 8 (segments_in below)) query body) is
    ∙ by_front head (segments_in below) query body
    ∙ sym (ap (λ (file : Option (List ℕ)). link_or head file query (at_path head below query body)) none)
