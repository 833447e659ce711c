-- The order of broken rules: they stand in the order of the tokens that break them. A tree has the lines of tokens alone; as each token
-- may stand on a line of its own, the order is said of lines.
-- Read against: `int main() { b = 1; }` and `long a[0];` on the line behind it: UnknownName on line 1 comes before TooLarge on line
-- 2. NoMain stands at no token: it is the last, and has line 1.
use Rattle.std.specs.Prelude.{◌≡◌, ℕ, ◌≤◌, List, [], ◌∷◌, map, Some}
use Rattle.oss_syntax.specs.declared.refusal.Refused.{Refused}
use Rattle.oss_syntax.specs.declared.refusal.RefusedKind.{RefusedKind}
use Rattle.oss_syntax.specs.declared.refusal.RefusedKind.TheVariants as refused
use Rattle.oss_syntax.specs.declared.token.Token.{Token}
use Rattle.oss_syntax.specs.declared.tree.program.Program.{Program}
use Rattle.oss_grammar.specs.Parsing.{IsProgramText}
use Rattle.oss_grammar.specs.Places.{IsOneOf}
use Rattle.oss_grammar.specs.ProgramRules.{program_rules, refusal_of}
use Rattle.oss_grammar.specs.Programs.{IsProgram}

-- No number is less than the one before it, nor the first less than this one: `3, 3, 7` rise from 1.
pub data RisesFrom : ℕ → List ℕ → Type 0 where
  no_more : {from : ℕ} → RisesFrom from []
  next : {from n : ℕ} {rest : List ℕ} → from ≤ n → RisesFrom n rest → RisesFrom from (n ∷ rest)

-- the lines of tokens
abbrev pub token_lines : List Token → List ℕ
token_lines tokens = map (λ t. t.line) tokens

-- a rule at a token, and those behind it; NoMain is broken at none
abbrev pub unless_no_main : RefusedKind → Refused → List Refused → List Refused
unless_no_main refused.NoMain rule behind = behind
unless_no_main _ rule behind = rule ∷ behind

-- the rules that are broken at a token
abbrev pub rules_at_tokens : List Refused → List Refused
rules_at_tokens [] = []
rules_at_tokens (rule ∷ behind) = unless_no_main rule.kind rule (rules_at_tokens behind)

-- the lines of the rules that a program breaks at its tokens
abbrev pub rule_lines : Program → List ℕ
rule_lines p = map (λ rule. rule.line) (rules_at_tokens (program_rules p))

-- The rule for which a program is refused is on no line behind that of another that it breaks, NoMain aside.
abbrev pub FirstIsLeast : Program → Type 0
FirstIsLeast p = (told rule : Refused) → refusal_of p ≡ Some told → IsOneOf rule (program_rules p) → (rule.kind ≡ refused.NoMain → ⊥) → told.line ≤ rule.line

-- Where tokens whose lines rise from some line are a program, the lines of the rules that it breaks at its tokens rise from there too,
-- each of them is on the line of one of the tokens, and the program is refused for one on the least of these lines.
pub record RulesRise (tokens : List Token) : Type 0 where
  pub rise : (p : Program) (from : ℕ) → RisesFrom from (token_lines tokens) → IsProgram tokens p → RisesFrom from (rule_lines p)
  pub on_tokens : (p : Program) (from : ℕ) → RisesFrom from (token_lines tokens) → IsProgram tokens p → (rule : Refused) → IsOneOf rule (rules_at_tokens (program_rules p))
      → IsOneOf rule.line (token_lines tokens)
  pub least : (p : Program) (from : ℕ) → RisesFrom from (token_lines tokens) → IsProgram tokens p → FirstIsLeast p

-- So they do in the program that a text is.
pub record RulesOfTextRise (text : List ℕ) : Type 0 where
  pub rise : (p : Program) → IsProgramText text p → RisesFrom 1 (rule_lines p)
  pub on_tokens : (p : Program) (is : IsProgramText text p) (rule : Refused) → IsOneOf rule (rules_at_tokens (program_rules p)) → IsOneOf rule.line (token_lines is.tokens)
  pub least : (p : Program) → IsProgramText text p → FirstIsLeast p
