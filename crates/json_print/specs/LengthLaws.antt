-- Tokens that are counted one after another.
use Rattle.std.proofs.Common.{[], ◌++◌, List, fold, sym, ap, ◌∙◌, refl}
use Rattle.std.proofs.lemmas.List.Sums.{fold-append}
use Rattle.json.specs.Token.{Token}
use Rattle.json_print.specs.Lengths.{Counts, with_token}
use Rattle.json_print.specs.declared.lengths.Length.{Length}

pub nothing : (a : Length) → Counts a a []
nothing a = refl

pub then : (a b c : Length) (xs ys : List Token) → Counts a b xs → Counts b c ys → Counts a c (xs ++ ys)
then a b c xs ys first second = second ∙ ap (λ at. fold with_token at ys) first ∙ sym (fold-append with_token a xs ys)
