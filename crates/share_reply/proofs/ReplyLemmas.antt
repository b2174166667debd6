-- The replies of what is given.
use Rattle.std.proofs.Common.{◌≡◌, Bool, true, false, [], ◌∷◌, Ok, refl}
use Rattle.std.specs.Prelude.{not}
use Rattle.case_table.specs.declared.refuse.Refusal.TheVariants.{Unauthenticated}
use Rattle.share_book.specs.declared.look.Found.{Found}
use Rattle.share_reply.specs.Answer.{Answer, of, refused}
use Rattle.share_reply.specs.Refusing.{plain, where_all}

-- a credential that is over
pub is_over : (b : Bool) (answer : Found → Answer) (found : Found) → b ≡ true → of answer (where_all ((not b, Unauthenticated) ∷ []) (Ok found)) ≡ refused (plain Unauthenticated)
is_over true answer found over = refl
is_over false answer found over = absurd cc
