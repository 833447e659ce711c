-- Tokens are one program at most, and a text has one answer at most.
use Rattle.std.proofs.Common.{arith, ◌≡◌, ◌≤◌, ◌<◌, ◌+◌, ℕ, suc, List, [], ◌∷◌, ◌++◌, length, sym, ap, ◌∙◌, subst}
use Rattle.std.proofs.lemmas.List.{length-append}
use Rattle.oss_syntax.specs.declared.token.Token.{Token}
use Rattle.oss_syntax.specs.declared.tree.pragma.Directive.{Directive}
use Rattle.oss_syntax.specs.declared.tree.program.Program.{Program}
use Rattle.oss_syntax.specs.declared.refusal.Refused.{Refused as RefusedData}
use Rattle.oss_grammar.specs.Expressions.{loosest_level}
use Rattle.oss_grammar.specs.Levels.{Begins, IsExcessBehind}
use Rattle.oss_grammar.specs.Parsing.{programs, end_line, RefusesText, IsParsedOnce, IsTextRefusal, IsProgramText}
use Rattle.oss_grammar.specs.Parsing.IsTextRefusal.{by_tokens, by_grammar}
use Rattle.oss_grammar.specs.Pragmas.{IsPragma}
use Rattle.oss_grammar.specs.Pragmas.IsPragma.{task, task_loop, wait_all, wait_on, release}
use Rattle.oss_grammar.specs.Programs.{IsProgram}
use Rattle.oss_grammar.specs.Refusals.{HasOneValue, IsWithin}
use Rattle.oss_grammar.specs.StatementLimits.{IsStatementExcess, IsItemExcess, IsItemsExcess}
use Rattle.oss_grammar.specs.StatementLimits.IsStatementExcess.{no_level, in_expression, under_if, under_else, under_while, under_for, under_task, under_task_loop}
use Rattle.oss_grammar.specs.StatementLimits.IsStatementExcess.{in_block as inside_block}
use Rattle.oss_grammar.specs.StatementLimits.IsItemExcess.{no_item_level, in_declaration, in_statement}
use Rattle.oss_grammar.specs.StatementLimits.IsItemsExcess.{first_item, later_item}
use Rattle.oss_grammar.proofs.AnswerLemmas.{one_value}
use Rattle.oss_grammar.proofs.RefusalLemmas.{same_refused}
use Rattle.oss_grammar.proofs.TextLemmas.{no_refusal, text_refused_once}
use Rattle.oss_lex.proofs.OneReading.{read_once}
use Rattle.oss_expressions.proofs.ExactExpressions.{exact_whole, begun_whole_at, deep_long}
use Rattle.oss_pragma.proofs.ExactPragmas.{exact_pragma, begun_pragma}
use Rattle.oss_parse.proofs.ExactPrograms.{ProgramExcess, exact_program}
use Rattle.oss_parse.proofs.ExactPrograms.ItemExcess.{mark_excess, body_excess}
use Rattle.oss_parse.proofs.ExactPrograms.ProgramExcess.{first_excess, later_excess}
use Rattle.oss_parse.proofs.ExactStatements.{exact_items, items_end}

-- a pragma has tokens
pragma_long : (xs : List Token) (d : Directive) → IsPragma xs d → 0 < length xs
pragma_long xs d (task start word inner end e k w z c o g) = let size : length xs ≡ suc (suc (length (inner ++ (end ∷ [])))) = ap length e in omega arith
pragma_long xs d (task_loop start word inner end e k w z c o) = let size : length xs ≡ suc (suc (length (inner ++ (end ∷ [])))) = ap length e in omega arith
pragma_long xs d (wait_all start word end e k w z) = let size : length xs ≡ 3 = ap length e in omega arith
pragma_long xs d (wait_on start word on opened inner closed end e k w z o c f g) = let size : length xs ≡ suc (suc (suc (suc (length (inner ++ (closed ∷ end ∷ [])))))) = ap length e in omega arith
pragma_long xs d (release start word front back end e k w z f m) = let size : length xs ≡ suc (suc (length (front ++ (back ++ (end ∷ []))))) = ap length e in omega arith

-- a part that is so many levels in has at least so many tokens before it
module _ (X : List Token → Token → Type 0) (most : ℕ) (long : (inner : List Token) (t : Token) → X inner t → most ≤ length inner) where
  behind_long : {Opens : List Token → Type 0} (xs : List Token) (t : Token) → IsExcessBehind Opens X xs t → most ≤ length xs
  behind_long xs t x = let size : length xs ≡ length x.front + length x.inner = ap length x.split ∙ length-append x.front x.inner in let less : most ≤ length x.inner = long x.inner t x.excess in omega arith

  mutual
    statement_long : (n : ℕ) (xs : List Token) (t : Token) → n ≤ most → IsStatementExcess X n xs t → n ≤ length xs
    statement_long n xs t small (no_level e v) = omega arith
    statement_long n xs t small (in_expression x) = let size : most ≤ length xs = behind_long xs t x in omega arith
    statement_long n xs t small (inside_block {n = m} opened front e b d) = let more : m ≤ length front = items_long m front t (omega arith) d in let size : length xs ≡ suc (length front) = ap length e in omega arith
    statement_long n xs t small (under_if {n = m} word opened inner closed front e k o w c d) =
        let more : m ≤ length front = statement_long m front t (omega arith) d in
        let size : length xs ≡ suc (suc (length inner + suc (length front))) = ap length e ∙ ap (λ i. suc (suc i)) (length-append inner (closed ∷ front)) in omega arith
    statement_long n xs t small (under_else {n = m} word opened inner closed middle other front e k o w c v l d) =
        let more : m ≤ length front = statement_long m front t (omega arith) d in
        let size : length xs ≡ suc (suc (length inner + suc (length (middle ++ (other ∷ front))))) = ap length e ∙ ap (λ i. suc (suc i)) (length-append inner (closed ∷ (middle ++ (other ∷ front)))) in
        let rest : length (middle ++ (other ∷ front)) ≡ length middle + suc (length front) = length-append middle (other ∷ front) in omega arith
    statement_long n xs t small (under_while {n = m} word opened inner closed front e k o w c d) =
        let more : m ≤ length front = statement_long m front t (omega arith) d in
        let size : length xs ≡ suc (suc (length inner + suc (length front))) = ap length e ∙ ap (λ i. suc (suc i)) (length-append inner (closed ∷ front)) in omega arith
    statement_long n xs t small (under_for {n = m} word opened start mark middle other end closed front e k o a c v z u b d) =
        let more : m ≤ length front = statement_long m front t (omega arith) d in
        let size : length xs ≡ suc (suc (length start + suc (length (middle ++ (other ∷ (end ++ (closed ∷ front))))))) = ap length e ∙ ap (λ i. suc (suc i)) (length-append start (mark ∷ (middle ++ (other ∷ (end ++ (closed ∷ front)))))) in
        let one : length (middle ++ (other ∷ (end ++ (closed ∷ front)))) ≡ length middle + suc (length (end ++ (closed ∷ front))) = length-append middle (other ∷ (end ++ (closed ∷ front))) in
        let two : length (end ++ (closed ∷ front)) ≡ length end + suc (length front) = length-append end (closed ∷ front) in omega arith
    statement_long n xs t small (under_task {n = m} front back e p d) =
        let more : m ≤ length back = statement_long m back t (omega arith) d in
        let size : length xs ≡ length front + length back = ap length e ∙ length-append front back in
        let some : 0 < length front = pragma_long front _ p in omega arith
    statement_long n xs t small (under_task_loop {n = m} front middle back e p l d) =
        let more : m ≤ length back = statement_long m back t (omega arith) d in
        let size : length xs ≡ length front + length (middle ++ back) = ap length e ∙ length-append front (middle ++ back) in
        let rest : length (middle ++ back) ≡ length middle + length back = length-append middle back in
        let some : 0 < length front = pragma_long front _ p in omega arith

    item_long : (n : ℕ) (xs : List Token) (t : Token) → n ≤ most → IsItemExcess X n xs t → n ≤ length xs
    item_long n xs t small (no_item_level e v) = omega arith
    item_long n xs t small (in_declaration x) = let size : most ≤ length xs = behind_long xs t x in omega arith
    item_long n xs t small (in_statement d) = statement_long n xs t small d

    items_long : (n : ℕ) (xs : List Token) (t : Token) → n ≤ most → IsItemsExcess X n xs t → n ≤ length xs
    items_long n xs t small (first_item d) = item_long n xs t small d
    items_long n xs t small (later_item front back e w d) = let more : n ≤ length back = items_long n back t small d in let size : length xs ≡ length front + length back = ap length e ∙ length-append front back in omega arith

  program_long : (xs : List Token) (t : Token) → ProgramExcess X (IsItemsExcess X most) xs t → most ≤ length xs
  program_long xs t (first_excess (mark_excess x)) = behind_long xs t x
  program_long xs t (first_excess (body_excess marked front name word opened inner closed begins within e m r n o p c s d)) =
      let more : most ≤ length within = items_long most within t (omega arith) d in
      let one : length xs ≡ length marked + length (front ++ (name ∷ opened ∷ (inner ++ (closed ∷ begins ∷ within)))) = ap length e ∙ length-append marked (front ++ (name ∷ opened ∷ (inner ++ (closed ∷ begins ∷ within)))) in
      let two : length (front ++ (name ∷ opened ∷ (inner ++ (closed ∷ begins ∷ within)))) ≡ length front + suc (suc (length (inner ++ (closed ∷ begins ∷ within)))) = length-append front (name ∷ opened ∷ (inner ++ (closed ∷ begins ∷ within))) in
      let three : length (inner ++ (closed ∷ begins ∷ within)) ≡ length inner + suc (suc (length within)) = length-append inner (closed ∷ begins ∷ within) in omega arith
  program_long xs t (later_excess front back e w d) = let more : most ≤ length back = program_long back t d in let size : length xs ≡ length front + length back = ap length e ∙ length-append front back in omega arith

-- tokens are one program at most
pub one_program : HasOneValue IsProgram
one_program xs value other v w =
    let most : ℕ = suc (length xs) in
    one_value (exact_program (exact_whole most) (begun_whole_at most)
    (exact_items (exact_whole most) (begun_whole_at most) (exact_pragma (exact_whole most) (begun_whole_at most)) (begun_pragma (exact_whole most) (begun_whole_at most)) most) items_end) xs
    (λ front t more e d.
    let long : most ≤ length front = program_long (Begins loosest_level most) most (λ inner t d. deep_long loosest_level most inner t d) front t d in
    let size : length xs ≡ length front + suc (length more) = ap length e ∙ length-append front (t ∷ more) in absurd (omega arith)) value other v w

-- a text has one answer at most
same_program : (text : List ℕ) (found other : Program) → IsProgramText text found → IsProgramText text other → found ≡ other
same_program text found other v w =
    let same : v.tokens ≡ w.tokens = (read_once text).one_list v.tokens w.tokens v.are_tokens w.are_tokens in
    one_program w.tokens found other (subst (λ ts. IsProgram ts found) same v.is_program) w.is_program

program_not_refused : (text : List ℕ) (found : Program) (refused : RefusedData) → (v : IsProgramText text found) → (tokens : List Token) → v.tokens ≡ tokens
    → RefusesText programs (end_line text) tokens refused.kind refused.line refused.token → ⊥
unfolding programs
program_not_refused text found refused v tokens same w =
    no_refusal programs (end_line text) tokens found refused.kind refused.line refused.token (subst (λ ts. IsProgram ts found) same v.is_program) (subst (λ ts. IsWithin programs ts) same v.within) w

not_both : (text : List ℕ) (found : Program) (refused : RefusedData) → IsProgramText text found → IsTextRefusal text refused → ⊥
not_both text found refused v (by_tokens stops z) = (read_once text).no_both v.tokens refused.kind refused.line v.are_tokens stops
not_both text found refused v (by_grammar tokens are w) =
    let same : v.tokens ≡ tokens = (read_once text).one_list v.tokens tokens v.are_tokens are in
    program_not_refused text found refused v tokens same w

same_refusal : (text : List ℕ) (refused other : RefusedData) → IsTextRefusal text refused → IsTextRefusal text other → refused ≡ other
same_refusal text refused other (by_tokens v z) (by_tokens w u) = let e = (read_once text).one_refusal refused.kind other.kind refused.line other.line v w in same_refused refused other e.0 e.1 (z ∙ sym u)
same_refusal text refused other (by_tokens v z) (by_grammar tokens are w) = absurd ((read_once text).no_both tokens refused.kind refused.line are v)
same_refusal text refused other (by_grammar tokens are w) (by_tokens v z) = absurd ((read_once text).no_both tokens other.kind other.line are v)
same_refusal text refused other (by_grammar tokens are v) (by_grammar others they w) =
    let same : tokens ≡ others = (read_once text).one_list tokens others are they in
    let e = text_refused_once programs (end_line text) others refused.kind other.kind refused.line other.line refused.token other.token
    (subst (λ ts. RefusesText programs (end_line text) ts refused.kind refused.line refused.token) same v) w in same_refused refused other e.0 e.1 e.2

pub parsed_once : (text : List ℕ) → IsParsedOnce text
parsed_once text = record { one_program = same_program text; no_both = not_both text; one_refusal = same_refusal text }
