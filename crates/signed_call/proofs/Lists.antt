-- A text that is written piece by piece, one for each item of a list.
use Rattle.std.proofs.Common.{◌≡◌, ℕ, ◌+◌, ◌<◌, ◌≤◌, List, [], ◌∷◌, ◌++◌, length, get_or, take, cond, Result, Ok, Err, sym, ap, ◌∙◌}
use Rattle.std.specs.Prelude.{OnOk, is_ok}
use Rattle.std.specs.List.{flat_map}
use Rattle.std.proofs.lemmas.List.{flat_map_more, take_more, take_all}

-- a text that was written where the call succeeded
pub on_ok_written : {T E : Type 0} (r : Result T E) (before written text whole : List ℕ) → written ≡ cond (is_ok r) (before ++ text) before → before ++ text ≡ whole → OnOk r (written ≡ whole)
on_ok_written (Ok x) before written text whole h e = h ∙ e
on_ok_written (Err x) before written text whole h e = tt

-- one more item
pub piece_more : {X : Type 0} (f : X → List ℕ) (start before after : List ℕ) (xs : List X) (i : ℕ) (x : X) → i < length xs → x ≡ get_or xs i x
    → before ≡ start ++ flat_map f (take i xs) → after ≡ before ++ f x → after ≡ start ++ flat_map f (take (i + 1) xs)
piece_more f start before after xs i x within here so_far written =
    written ∙ ap (λ s. s ++ f x) so_far ∙ flat_map_more f start (take i xs) x
    ∙ ap (λ y. start ++ flat_map f (take i xs ++ y ∷ [])) here ∙ ap (λ ys. start ++ flat_map f ys) (sym (take_more xs i x within))

-- all items
pub pieces_whole : {X : Type 0} (f : X → List ℕ) (start all : List ℕ) (xs : List X) (i : ℕ) → length xs ≤ i
    → all ≡ start ++ flat_map f (take i xs) → all ≡ start ++ flat_map f xs
pieces_whole f start all xs i past so_far = so_far ∙ ap (λ ys. start ++ flat_map f ys) (take_all i xs past)
