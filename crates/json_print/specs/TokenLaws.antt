-- Tokens that come in one after another.
use Rattle.std.proofs.Common.{[], ◌++◌, List, sym, ap, ◌∙◌, append-nil, append_assoc, refl}
use Rattle.json.specs.Written.{Written}
use Rattle.json.specs.Token.{Token}
use Rattle.json_print.specs.Tokens.{Adds}

pub nothing : (a : Written) → Adds a a []
nothing a = record { before = refl; tokens = sym (append-nil a.tokens) }

pub then : (a b c : Written) (xs ys : List Token) → Adds a b xs → Adds b c ys → Adds a c (xs ++ ys)
then a b c xs ys first second = record {
  before = second.before ∙ first.before;
  tokens = second.tokens ∙ ap (λ ts. ts ++ ys) first.tokens ∙ append_assoc a.tokens xs ys;
}
