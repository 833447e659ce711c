-- The clauses of a task break the rules of those of a task loop with one scope inside and outside.
use Rattle.std.proofs.Common.{◌≡◌, ℕ, ◌+◌, List, [], ◌∷◌, length, refl}
use Rattle.oss_syntax.specs.declared.tree.pragma.Clause.{Clause}
use Rattle.oss_syntax.specs.declared.tree.pragma.Clause.TheVariants as clause
use Rattle.oss_syntax.specs.declared.tree.program.Item.{Item}
use Rattle.oss_syntax.specs.declared.tree.program.Local.{Local}
use Rattle.oss_grammar.specs.SectionRules.{clause_rules, clauses_rules, loop_clause_rules, loop_clauses_rules, sections_in}

module _ (all : List Item) (locals : List Local) where
  one_scope : (before : ℕ) (c : Clause) → loop_clause_rules all locals locals before c ≡ clause_rules all locals before c
  one_scope before (clause.Depend mode strong fresh ss) = refl
  one_scope before (clause.If e) = refl
  one_scope before (clause.Final e) = refl
  one_scope before clause.Wait = refl
  one_scope before (clause.Label name) = refl
  one_scope before (clause.Priority e) = refl
  one_scope before (clause.Grain e) = refl

  pub same_scope : (before : ℕ) (cs : List Clause) → loop_clauses_rules all locals locals before cs ≡ clauses_rules all locals before cs
  same_scope before [] = refl
  same_scope before (c ∷ rest) = rw (one_scope before c, same_scope (before + length (sections_in c)) rest) refl
