-- Pages, one more after those that came.
use Rattle.std.proofs.Common.{◌≡◌, ℕ, List, [], ◌∷◌, ◌++◌, Option, Some, None, option_map, refl, sym, subst, All}
use Rattle.std.proofs.lemmas.List.Elements.{All-nil, All-cons}
use Rattle.share_client.specs.Chains.{Agree, Chain, Paging, Turn}
use Rattle.share_client.specs.Sides.{Side}

module _ {P : Type 0} (g : Paging P) where
  pub chain_more :
      (first : Option (Option (List ℕ))) (pages : List P) (token : Option (List ℕ)) (page : P) (old mid new : Side)
      → Chain g first pages (Some token) old mid → Turn g token page mid new → Chain g first (pages ++ page ∷ []) (option_map Some (g.token page)) old new
  chain_more first [] token page old mid new (same, still) turn =
      let from : Turn g token page old new = subst (λ s. Turn g token page s new) still turn in
      (token, new, sym same, from, (refl, refl))
  chain_more first (p ∷ pages) token page old mid new (t, s, is, here, rest) turn =
      (t, s, is, here, chain_more (option_map Some (g.token p)) pages token page s mid new rest turn)

  all_same : ((p q : P) → g.differs p q ≡ None) → (first : P) (pages : List P) → All (λ page. g.differs first page ≡ None) pages
  all_same same first [] = All-nil (λ page. g.differs first page ≡ None)
  all_same same first (page ∷ pages) = All-cons (λ p. g.differs first p ≡ None) page pages (same first page) (all_same same first pages)

  pub always_agree : ((p q : P) → g.differs p q ≡ None) → (pages : List P) → Agree g pages
  always_agree same [] = tt
  always_agree same (first ∷ pages) = all_same same first pages
