-- What is read of a list, after what was read of its front.
use Rattle.std.proofs.Common.{List, ◌++◌, Option, option_map}

-- a front before what is read
abbrev pub onto : {X : Type 0} → List X → Option (List X) → Option (List X)
onto front read = option_map (λ rest. front ++ rest) read
