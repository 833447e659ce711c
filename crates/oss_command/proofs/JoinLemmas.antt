-- What was found among words, joined with what is found among the words behind them.
use Rattle.std.proofs.Common.{ℕ, List, [], ◌∷◌, Option, Some, None}
use Rattle.oss_command.specs.Commands.{Standing, standing, the_one}
use Rattle.oss_command.specs.Commands.Standing.{absent, again, once}

-- how an option stands, that stood so before these values
abbrev pub joined : Standing → List (List ℕ) → Standing
joined absent vs = standing vs
joined (once v) [] = once v
joined (once v) (w ∷ ws) = again
joined again vs = again

-- the one word of a list, behind one that may have been found
abbrev pub one_of : Option (List ℕ) → List (List ℕ) → Option (List ℕ)
one_of None ws = the_one ws
one_of (Some w) [] = Some w
one_of (Some w) (v ∷ vs) = None
