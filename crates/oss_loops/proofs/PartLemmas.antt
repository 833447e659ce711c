-- The values of the head of a task loop where none is told.
use Rattle.std.proofs.Common.{◌≡◌, ℕ, List, [], ◌∷◌, Option, Some, None, refl}
use Rattle.oss_syntax.specs.declared.tree.expr.Expr.{Expr}
use Rattle.oss_syntax.specs.declared.tree.pragma.Clause.{Clause}
use Rattle.oss_syntax.specs.declared.tree.pragma.Clause.TheVariants as clause
use Rattle.oss_grammar.specs.TaskLoops.{first_of, grain_of}
use Rattle.oss_loops.specs.LoopParts.{or_number, turns_among}

pub grain-told : (line : ℕ) (cs : List Clause) → or_number line 1 (turns_among cs) ≡ grain_of line cs
grain-told line [] = refl
grain-told line (clause.Grain e ∷ rest) = refl
grain-told line (clause.Depend m s f xs ∷ rest) = grain-told line rest
grain-told line (clause.If e ∷ rest) = grain-told line rest
grain-told line (clause.Final e ∷ rest) = grain-told line rest
grain-told line (clause.Wait ∷ rest) = grain-told line rest
grain-told line (clause.Label t ∷ rest) = grain-told line rest
grain-told line (clause.Priority e ∷ rest) = grain-told line rest

pub first-told : (line : ℕ) (first : Option Expr) → or_number line 0 first ≡ first_of line first
first-told line None = refl
first-told line (Some e) = refl
