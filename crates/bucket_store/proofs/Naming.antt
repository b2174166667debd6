-- The names of a page.
use Rattle.std.proofs.Common.{◌≡◌, ℕ, ◌+◌, ◌<◌, List, [], ◌∷◌, ◌++◌, length, get_or, take, cond, true, false, Option, Some, None, MatchOption, IsTrue, sym, ap, ◌∙◌, subst}
use Rattle.std.specs.Prelude.{option_and_then, option_to_list}
use Rattle.std.specs.List.{flat_map}
use Rattle.std.proofs.lemmas.List.{flat_map_more, take_more}
use Rattle.edge_core.specs.Names.{is_one_segment}
use Rattle.edge_core.specs.Objects.{after_prefix}
use Rattle.bucket_store.specs.Folders.{segment, segments_of}

pub segment_is : (r : Option (List ℕ)) (text : List ℕ) → MatchOption r (is_one_segment text ≡ false) (λ s. (s ≡ text) × IsTrue (is_one_segment s)) → r ≡ segment text
segment_is None text other = sym (ap (λ b. cond b (Some text) None) other)
segment_is (Some s) text is = ap (λ x. Some x) is.0 ∙ sym (ap (λ b. cond b (Some text) None) (subst (λ x. is_one_segment x ≡ true) is.0 is.1))

-- one more key
pub names_more :
    (front : List ℕ) (start before after keys : List (List ℕ)) (i : ℕ) (key : List ℕ) (found : Option (List ℕ))
    → i < length keys → key ≡ get_or keys i key → before ≡ start ++ segments_of front (take i keys)
    → found ≡ option_and_then segment (after_prefix front key) → after ≡ before ++ option_to_list found
    → after ≡ start ++ segments_of front (take (i + 1) keys)
names_more front start before after keys i key found within here so_far is written =
    let f : List ℕ → List (List ℕ) = λ k. option_to_list (option_and_then segment (after_prefix front k)) in
    written
    ∙ ap (λ x. x ++ option_to_list found) so_far
    ∙ ap (λ o. (start ++ flat_map f (take i keys)) ++ option_to_list o) is
    ∙ flat_map_more f start (take i keys) key
    ∙ ap (λ y. start ++ flat_map f (take i keys ++ y ∷ [])) here
    ∙ ap (λ ys. start ++ flat_map f ys) (sym (take_more keys i key within))
