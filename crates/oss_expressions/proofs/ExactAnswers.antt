-- What the call tells is the answer of the grammar.
use Rattle.std.proofs.Common.{◌≤◌, ℕ, List, length, Result}
use Rattle.oss_syntax.specs.declared.token.Token.{Token}
use Rattle.oss_syntax.specs.declared.tree.expr.Expr.{Expr}
use Rattle.oss_syntax.specs.declared.refusal.Refusal.{Refusal}
use Rattle.oss_grammar.specs.Refusals.{IsAnswer, IsAnsweredOnce, expressions}
use Rattle.oss_grammar.proofs.RefusalLemmas.{answered_once}
use Rattle.oss_expressions.specs.ExpressionReading.{read_expression}
use Rattle.oss_expressions.specs.ToldAt.{IsToldAt}
use Rattle.oss_expressions.proofs.ExactExpressions.{exact_expression, one_expression}
use Rattle.oss_expressions.proofs.PlaceLemmas.{answer_at}

pub expression_answer : (ts : List Token) (at : ℕ) → at ≤ length ts → (r : Result (Expr × ℕ) Refusal) → IsToldAt read_expression ts at r → IsAnswer expressions ts at r
unfolding expressions
expression_answer ts at within r told = answer_at expressions exact_expression ts at within r told

-- tokens have one answer at most
pub expression_once : (tokens : List Token) (at : ℕ) → IsAnsweredOnce expressions tokens at
unfolding expressions
expression_once tokens at = answered_once expressions one_expression tokens at
