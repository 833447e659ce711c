-- What the call tells is the answer of the grammar.
use Rattle.std.proofs.Common.{arith, ◌≡◌, ◌≤◌, ◌+◌, ℕ, suc, List, ◌∷◌, length, ap, ◌∙◌, Result}
use Rattle.std.proofs.lemmas.List.{length-append}
use Rattle.oss_syntax.specs.declared.token.Token.{Token}
use Rattle.oss_syntax.specs.declared.tree.pragma.Directive.{Directive}
use Rattle.oss_syntax.specs.declared.refusal.Refusal.{Refusal}
use Rattle.oss_grammar.specs.Refusals.{IsAnswer, IsAnsweredOnce, HasOneValue, pragmas}
use Rattle.oss_grammar.specs.Expressions.{loosest_level}
use Rattle.oss_grammar.specs.Pragmas.{IsPragma}
use Rattle.oss_grammar.proofs.AnswerLemmas.{one_value}
use Rattle.oss_grammar.proofs.RefusalLemmas.{answered_once}
use Rattle.oss_expressions.specs.ExpressionReading.{read_expression}
use Rattle.oss_expressions.specs.ToldAt.{IsToldAt}
use Rattle.oss_expressions.proofs.ExactExpressions.{exact_expression, begun_expression, exact_whole, begun_whole_at, deep_long}
use Rattle.oss_expressions.proofs.PlaceLemmas.{answer_at}
use Rattle.oss_pragma.specs.PragmaReading.{read_pragma}
use Rattle.oss_pragma.proofs.ExactPragmas.{exact_pragma}

pub pragma_answer : (ts : List Token) (at : ℕ) → at ≤ length ts → (r : Result (Directive × ℕ) Refusal) → IsToldAt (read_pragma read_expression) ts at r → IsAnswer pragmas ts at r
unfolding pragmas
pragma_answer ts at within r told = answer_at pragmas (exact_pragma exact_expression begun_expression) ts at within r told

-- tokens are one pragma at most
pub one_pragma : HasOneValue IsPragma
one_pragma xs value other v w = one_value (exact_pragma (exact_whole (suc (length xs))) (begun_whole_at (suc (length xs)))) xs (λ front t more e d.
    let long : suc (length xs) ≤ length d.inner = deep_long loosest_level (suc (length xs)) d.inner t d.excess in
    let inside : length front ≡ length d.front + length d.inner = ap length d.split ∙ length-append d.front d.inner in
    let size : length xs ≡ length front + suc (length more) = ap length e ∙ length-append front (t ∷ more) in absurd (omega arith)) value other v w

-- tokens have one answer at most
pub pragma_once : (tokens : List Token) (at : ℕ) → IsAnsweredOnce pragmas tokens at
unfolding pragmas
pragma_once tokens at = answered_once pragmas one_pragma tokens at
