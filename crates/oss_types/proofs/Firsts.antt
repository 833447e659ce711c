-- The first of broken rules, in lists that are put together.
use Rattle.std.proofs.Common.{◌≡◌, ℕ, ◌+◌, ◌<◌, nat_lt, if◌then◌else◌, Bool, true, false, List, [], ◌∷◌, ◌++◌, length, map, drop, get_or, Option, Some, None, refl, sym, ap, ◌∙◌}
use Rattle.std.proofs.lemmas.List.{drop_more}
use Rattle.oss_syntax.specs.declared.tree.expr.Expr.{Expr}
use Rattle.oss_syntax.specs.declared.tree.program.Local.{Local}
use Rattle.oss_grammar.specs.ExpressionRules.{argument_rules, argument_wanted, parameters_behind}
use Rattle.oss_grammar.specs.Kinds.{Findings, all_of, placed}
use Rattle.oss_syntax.specs.declared.refusal.Refused.{Refused}
use Rattle.oss_grammar.specs.Broken.{first, rank, insert}
use Rattle.oss_grammar.specs.Scopes.{or_else}
use Rattle.oss_types.specs.Seen.{earlier}

pub first-append : (xs ys : List Refused) → first (xs ++ ys) ≡ or_else (first xs) (first ys)
first-append [] ys = refl
first-append (x ∷ xs) ys = refl

choose : (t : Bool) (b c : Refused) (xs ys : List Refused) → first (if t then b ∷ xs else c ∷ ys) ≡ (if t then Some b else Some c)
choose true b c xs ys = refl
choose false b c xs ys = refl

pub first-insert : (b : Refused) (cs : List Refused) → first (insert b cs) ≡ earlier b (first cs)
first-insert b [] = refl
first-insert b (c ∷ cs) = choose (nat_lt (rank b.kind) (rank c.kind)) b c (c ∷ cs) (insert b cs)

pub ruleset firsts = (first-append, first-insert)

-- a loop over parts, the first of which breaks a rule, or breaks none
module _ (whole left here rest : Option Refused) (so_far : left ≡ whole) (parts : left ≡ or_else here rest) where
  pub part-broken : (b : Refused) → here ≡ Some b → Some b ≡ whole
  part-broken b is = sym (sym so_far ∙ parts ∙ ap (λ o. or_else o rest) is)

  pub part-whole : here ≡ None → rest ≡ whole
  part-whole is = sym (ap (λ o. or_else o rest) is) ∙ sym parts ∙ so_far

-- the arguments from one on
pub arguments-left : (params : List Local) (found : Expr → Findings) (es : List Expr) (i : ℕ) (e : Expr) → i < length es → e ≡ get_or es i e
    → first (argument_rules params (map found (drop i es)))
    ≡ or_else (first (all_of (placed (argument_wanted params) (found e)))) (first (argument_rules (parameters_behind params) (map found (drop (i + 1) es))))
arguments-left params found es i e within at =
    ap (λ xs. first (argument_rules params (map found xs))) (drop_more es i e within)
    ∙ ap (λ x. first (argument_rules params (map found (x ∷ drop (i + 1) es)))) (sym at)
    ∙ first-append (all_of (placed (argument_wanted params) (found e))) (argument_rules (parameters_behind params) (map found (drop (i + 1) es)))
