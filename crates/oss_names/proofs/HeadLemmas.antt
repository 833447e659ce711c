-- The rules of the head of a task loop, from those of its clauses and those behind them.
use Rattle.std.proofs.Common.{◌≡◌, ℕ, nat_le, List, ◌∷◌, [], ◌++◌, length, take, Option, sym, ap, ◌∙◌}
use Rattle.oss_syntax.specs.declared.tree.pragma.Clause.{Clause}
use Rattle.oss_syntax.specs.declared.tree.program.Item.{Item}
use Rattle.oss_syntax.specs.declared.tree.program.Local.{Local}
use Rattle.oss_syntax.specs.declared.tree.stmt.LoopHead.{LoopHead}
use Rattle.oss_syntax.specs.declared.refusal.Refused.{Refused}
use Rattle.oss_syntax.specs.declared.refusal.RefusedKind.TheVariants as refused
use Rattle.oss_grammar.specs.declared.kinds.Wanted.TheVariants as wanted
use Rattle.oss_grammar.specs.Broken.{first, where_so}
use Rattle.oss_grammar.specs.ExpressionRules.{value_rules}
use Rattle.oss_grammar.specs.Scopes.{hidden_local, loop_locals, or_else}
use Rattle.oss_grammar.specs.SectionRules.{loop_clauses_rules, optional_rules}
use Rattle.oss_grammar.specs.StaticRules.{head_rules, last_name_rules, name_rules}
use Rattle.oss_types.proofs.Firsts.{first-append}
use Rattle.oss_names.proofs.EndLemmas.{prefix-many}

-- the locals of a task loop
abbrev pub loop_more : LoopHead → List Local
loop_more head = hidden_local ∷ hidden_local ∷ hidden_local ∷ hidden_local ∷ head.variable ∷ []

-- the rules behind the clauses
abbrev pub behind_rules : List Item → List Local → LoopHead → List Refused
behind_rules all ls head =
    where_so (nat_le 251 (length ls)) refused.TooLarge head.variable.line
    ++ (optional_rules all ls head.variable.first
    ++ (name_rules head.variable.name head.tested head.stepped
    ++ (value_rules all ls wanted.Number head.end
    ++ last_name_rules head.variable.name head.tested head.stepped)))

pub head-told : (all : List Item) (ls now : List Local) (head : LoopHead) (outer : ℕ) (cs : List Clause) (clauses behind : Option Refused) → outer ≡ length ls → now ≡ loop_locals head ls → cs ≡ head.mark.clauses
    → clauses ≡ first (loop_clauses_rules all (take outer now) now 0 cs) → behind ≡ first (behind_rules all ls head) → or_else clauses behind ≡ first (head_rules all ls head)
head-told all ls now head outer cs clauses behind size is marked told rest =
    let inside : List Local = loop_locals head ls in
    let here : clauses ≡ first (loop_clauses_rules all ls inside 0 head.mark.clauses) =
    told ∙ ap (λ n. first (loop_clauses_rules all (take n now) now 0 cs)) size ∙ ap (λ x. first (loop_clauses_rules all (take (length ls) x) x 0 cs)) is
    ∙ ap (λ x. first (loop_clauses_rules all x inside 0 cs)) (prefix-many ls (loop_more head)) ∙ ap (λ x. first (loop_clauses_rules all ls inside 0 x)) marked in
    ap (λ o. or_else o behind) here ∙ ap (or_else (first (loop_clauses_rules all ls inside 0 head.mark.clauses))) rest
    ∙ sym (first-append (loop_clauses_rules all ls inside 0 head.mark.clauses) (behind_rules all ls head))
