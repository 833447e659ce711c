-- Readers of statements take a token at least, and how their loops go on.
use Rattle.std.proofs.Common.{◌≡◌, ℕ, zero, suc, ◌+◌, ◌-◌, ◌<◌, Bool, List, [], length, codes, refl, ap, ◌∙◌, arith, Some, None, subst, length-append}
use Rattle.oss_syntax.specs.declared.token.Token.{Token}
use Rattle.oss_syntax.specs.declared.tree.expr.Expr.{Expr}
use Rattle.oss_syntax.specs.declared.tree.pragma.Directive.{Directive}
use Rattle.oss_syntax.specs.declared.tree.pragma.Directive.TheVariants as directive
use Rattle.oss_syntax.specs.declared.tree.pragma.TaskMark.{TaskMark}
use Rattle.oss_syntax.specs.declared.tree.stmt.Stmt.{Stmt}
use Rattle.oss_grammar.specs.Reading.{Reader, begins, has, read_one, read_nothing, read_mapped, read_both, read_either}
use Rattle.oss_grammar.specs.SimpleStatements.{first_line}
use Rattle.oss_grammar.proofs.Parts.{Taken, IsRead, Exact}
use Rattle.oss_expressions.specs.TokenValues.{symbol_at, keyword_at, name_at, word_at, start_at, begins_expression}
use Rattle.oss_expressions.specs.ExpressionReading.{latter, former, and_then, read_expression}
use Rattle.oss_expressions.proofs.StepLoops.{Takes, Keeps, keeps, takes_one, keeps_nothing, takes_mapped, keeps_mapped, takes_then, takes_both, takes_either, keeps_either, keeps_steps, too_deep, Repeats, repeats}
use Rattle.oss_expressions.proofs.ExpressionLoops.{keeps_more}
use Rattle.oss_expressions.proofs.ExactExpressions.{exact_expression, begun_expression}
use Rattle.oss_pragma.specs.PragmaReading.{read_task, read_task_loop, read_taskwait, read_release, read_pragma}
use Rattle.oss_pragma.proofs.ExactPragmas.{exact_task, exact_task_loop, exact_taskwait, exact_release}
use Rattle.oss_parse.specs.Inner.{read_within, read_part, read_parts}
use Rattle.oss_parse.specs.SimpleReading.{begins_simple, begins_kind}
use Rattle.oss_parse.specs.StatementReading.{text_at, read_maybe_expression, read_maybe_simple, read_for_first, block_of, empty_at, if_of, if_else_of, while_of, for_of, return_of, break_at, continue_at, print_of, task_of, task_loop_of, loop_head_of, read_block, read_empty, read_simple_statement, read_head, read_branches, read_if, read_while, for_parts, read_for_parts, read_for_head, read_for, read_return, read_break, read_continue, read_printed, read_print, read_lined, read_loop_variable, read_loop_head, read_task_loop_statement, read_directed, read_pragma_statement, read_keyword_statement, read_statement, read_item, begins_statement, begins_item, read_items_by}
use Rattle.oss_parse.proofs.ExactLoopHeads.{exact_bounds}
use Rattle.oss_parse.proofs.SimpleLoops.{keeps_both, takes_expression, takes_between, takes_simple, takes_declaration}

-- an exact reader gives no token back
pub keeps_exact : {A : Type 0} {f : Reader A} (U : List Token → A → Type 0) (B : List Token → Token → Type 0) {goes : Token → Bool} → Exact f U B goes → Keeps f
keeps_exact {f = f} U B exact = record {
  most = λ ts value rest e.
      let w : Taken f U ts value rest = subst (λ o. IsRead f U B ts o) e (exact.reads ts) in
      let size : length ts ≡ length w.front + length rest = ap length w.split ∙ length-append w.front rest in
      omega arith;
}

pub keeps_task : (line : ℕ) → Keeps (read_task read_expression line)
keeps_task line = keeps_exact _ _ (exact_task exact_expression begun_expression line)

takes_pragma : Takes (read_pragma read_expression)
unfolding read_pragma
takes_pragma = takes_then (λ line.
    read_either (has (word_at (codes "task"))) (read_task read_expression line)
    (read_either (has (word_at (codes "taskloop"))) (read_task_loop read_expression line)
    (read_either (has (word_at (codes "taskwait"))) (read_taskwait read_expression) (read_release read_expression))))
    (takes_one start_at)
    (λ line. keeps_either (has (word_at (codes "task"))) (keeps_task line)
    (keeps_either (has (word_at (codes "taskloop"))) (keeps_exact _ _ (exact_task_loop exact_expression begun_expression line))
    (keeps_either (has (word_at (codes "taskwait"))) (keeps_exact _ _ (exact_taskwait exact_expression begun_expression)) (keeps_exact _ _ (exact_release exact_expression begun_expression)))))

-- the parts of statements, and the statements that hold no other
keeps_maybe_expression : Keeps (read_maybe_expression read_expression)
unfolding read_maybe_expression
keeps_maybe_expression = keeps_either begins_expression (keeps (takes_mapped Some takes_expression)) (keeps_nothing None)

keeps_maybe_simple : Keeps (read_maybe_simple read_expression)
unfolding read_maybe_simple
keeps_maybe_simple = keeps_either begins_simple (keeps (takes_mapped Some takes_simple)) (keeps_nothing None)

keeps_for_first : Keeps (read_for_first read_expression)
unfolding read_for_first
keeps_for_first = keeps_either begins_kind (keeps (takes_mapped Some takes_declaration)) keeps_maybe_simple

keeps_for_parts : Keeps (read_for_parts read_expression)
unfolding read_for_parts
keeps_for_parts = keeps_mapped for_parts (keeps_both keeps_for_first (keeps (takes_both (takes_one (symbol_at (codes ";"))) (keeps_both keeps_maybe_expression
    (keeps (takes_both (takes_one (symbol_at (codes ";"))) (keeps_both keeps_maybe_simple (keeps (takes_one (symbol_at (codes ")")))))))))))

takes_for_head : Takes (read_for_head read_expression)
unfolding read_for_head
takes_for_head = takes_both (takes_one (keyword_at (codes "for"))) (keeps (takes_mapped latter (takes_both (takes_one (symbol_at (codes "("))) keeps_for_parts)))

takes_head : (word : List ℕ) → Takes (read_head word read_expression)
unfolding read_head
takes_head word = takes_both (takes_one (keyword_at word)) (keeps (takes_between (codes "(") (codes ")")))

takes_empty : Takes read_empty
unfolding read_empty
takes_empty = takes_mapped empty_at (takes_one (symbol_at (codes ";")))

takes_simple_statement : Takes (read_simple_statement read_expression)
unfolding read_simple_statement
takes_simple_statement = takes_mapped former (takes_both takes_simple (keeps (takes_one (symbol_at (codes ";")))))

takes_return : Takes (read_return read_expression)
unfolding read_return
takes_return = takes_mapped return_of (takes_both (takes_one (keyword_at (codes "return"))) (keeps_both keeps_maybe_expression (keeps (takes_one (symbol_at (codes ";"))))))

takes_break : Takes read_break
unfolding read_break
takes_break = takes_mapped break_at (takes_both (takes_one (keyword_at (codes "break"))) (keeps (takes_one (symbol_at (codes ";")))))

takes_continue : Takes read_continue
unfolding read_continue
takes_continue = takes_mapped continue_at (takes_both (takes_one (keyword_at (codes "continue"))) (keeps (takes_one (symbol_at (codes ";")))))

keeps_printed : Keeps (read_printed read_expression)
unfolding read_printed
keeps_printed = keeps_mapped former (keeps_both (keeps_more takes_expression []) (keeps (takes_both (takes_one (symbol_at (codes ")"))) (keeps (takes_one (symbol_at (codes ";")))))))

takes_print : Takes (read_print read_expression)
unfolding read_print
takes_print = takes_mapped print_of (takes_both (takes_one (keyword_at (codes "printf"))) (keeps (takes_mapped latter (takes_both (takes_one (symbol_at (codes "("))) (keeps (takes_both (takes_one text_at) keeps_printed))))))

takes_loop_variable : Takes read_loop_variable
unfolding read_loop_variable
takes_loop_variable = takes_both (takes_one (keyword_at (codes "for"))) (keeps (takes_mapped latter (takes_both (takes_one (symbol_at (codes "("))) (keeps (takes_mapped latter (takes_both (takes_one (keyword_at (codes "long"))) (keeps (takes_one name_at))))))))

takes_loop_head : (mark : TaskMark) → Takes (read_loop_head read_expression mark)
unfolding read_loop_head
takes_loop_head mark = takes_mapped (loop_head_of mark) (takes_both takes_loop_variable (keeps_exact _ _ (exact_bounds exact_expression begun_expression)))

takes_lined : {A : Type 0} {f : Reader A} → Takes f → Takes (read_lined f)
takes_lined part = record { less = λ ts value rest e. (takes_mapped (λ a. (a, first_line ts)) part).less ts value rest e }

keeps_items_by : {item : Reader Stmt} → Takes item → Keeps (read_items_by item)
unfolding read_items_by
keeps_items_by {item = item} takes = keeps_steps (λ found. begins_item) (λ found. read_mapped (and_then found) item) (λ found. keeps (takes_mapped (and_then found) takes)) []

takes_block : {items : Reader (List Stmt)} → Keeps items → Takes (read_block items)
unfolding read_block
takes_block items = takes_mapped block_of (takes_both (takes_one (symbol_at (codes "{"))) (keeps_both items (keeps (takes_one (symbol_at (codes "}"))))))

-- the statements that hold others
module _ {sub : Reader Stmt} (takes : Takes sub) where
  takes_branches : (head : ℕ × Expr) → Takes (read_branches sub head)
  unfolding read_branches
  takes_branches head = takes_then (λ s. read_either (has (keyword_at (codes "else"))) (read_mapped (if_else_of head s) (read_mapped latter (read_both (read_one (keyword_at (codes "else"))) sub))) (read_nothing (if_of head s)))
      takes
      (λ s. keeps_either (has (keyword_at (codes "else"))) (keeps (takes_mapped (if_else_of head s) (takes_mapped latter (takes_both (takes_one (keyword_at (codes "else"))) (keeps takes))))) (keeps_nothing (if_of head s)))

  takes_if : Takes (read_if read_expression sub)
  unfolding read_if
  takes_if = takes_then (read_branches sub) (takes_head (codes "if")) (λ head. keeps (takes_branches head))

  takes_while : Takes (read_while read_expression sub)
  unfolding read_while
  takes_while = takes_then (λ head. read_mapped (while_of head) sub) (takes_head (codes "while")) (λ head. keeps (takes_mapped (while_of head) takes))

  takes_for : Takes (read_for read_expression sub)
  unfolding read_for
  takes_for = takes_then (λ head. read_mapped (for_of head) sub) takes_for_head (λ head. keeps (takes_mapped (for_of head) takes))

  takes_task_loop : (mark : TaskMark) → Takes (read_task_loop_statement read_expression sub mark)
  unfolding read_task_loop_statement
  takes_task_loop mark = takes_then (λ head. read_mapped (task_loop_of mark head) sub) (takes_loop_head mark) (λ head. keeps (takes_mapped (task_loop_of mark head) takes))

  keeps_directed : (d : Directive × ℕ) → Keeps (read_directed read_expression sub d)
  unfolding read_directed
  keeps_directed (directive.Task mark, line) = keeps (takes_mapped (task_of mark) takes)
  keeps_directed (directive.TaskLoop mark, line) = keeps (takes_task_loop mark)
  keeps_directed (directive.TaskWait sections, line) = keeps_nothing _
  keeps_directed (directive.Release clauses, line) = keeps_nothing _

  takes_pragma_statement : Takes (read_pragma_statement read_expression (read_pragma read_expression) sub)
  unfolding read_pragma_statement
  takes_pragma_statement = takes_then (read_directed read_expression sub) (takes_lined takes_pragma) keeps_directed

  takes_keyword_statement : Takes (read_keyword_statement read_expression (read_pragma read_expression) sub)
  unfolding read_keyword_statement
  takes_keyword_statement =
      takes_either (has (keyword_at (codes "if"))) takes_if
      (takes_either (has (keyword_at (codes "while"))) takes_while
      (takes_either (has (keyword_at (codes "for"))) takes_for
      (takes_either (has (keyword_at (codes "return"))) takes_return
      (takes_either (has (keyword_at (codes "break"))) takes_break
      (takes_either (has (keyword_at (codes "continue"))) takes_continue
      (takes_either (has (keyword_at (codes "printf"))) takes_print takes_pragma_statement))))))

  takes_statement : {items : Reader (List Stmt)} → Keeps items → Takes (read_statement read_expression (read_pragma read_expression) items sub)
  unfolding read_statement
  takes_statement items =
      takes_either (has (symbol_at (codes "{"))) (takes_block items)
      (takes_either (has (symbol_at (codes ";"))) takes_empty
      (takes_either begins_simple takes_simple_statement takes_keyword_statement))

  takes_item : {items : Reader (List Stmt)} → Keeps items → Takes (read_item read_expression (read_pragma read_expression) items sub)
  unfolding read_item
  takes_item items = takes_either begins_kind (takes_mapped former (takes_both takes_declaration (keeps (takes_one (symbol_at (codes ";")))))) (takes_statement items)

record Levelled (n : ℕ) : Type 0 where
  within : Takes (read_within n)
  part : Takes (read_part n)

levelled : (n : ℕ) → Levelled n
levelled zero = record {
  within = record { less = λ ts value rest e. too_deep begins_statement (begins begins_statement ts) ts value rest refl e };
  part = record { less = λ ts value rest e. too_deep begins_item (begins begins_item ts) ts value rest refl e };
}
levelled (suc n) =
    let before = levelled n in
    let items = keeps_items_by before.part in
    let statement = takes_statement before.within items in
    let item = takes_item before.within items in
    record { within = record { less = λ ts value rest e. statement.less ts value rest e }; part = record { less = λ ts value rest e. item.less ts value rest e } }

pub keeps_parts : (levels : ℕ) → Keeps (read_parts levels)
keeps_parts levels = keeps_items_by (levelled levels).part

pub repeats_parts : (levels : ℕ) → Repeats {S = List Stmt} (λ found. begins_item) and_then (λ found. read_part levels)
repeats_parts levels = repeats (λ found. begins_item) and_then (λ found. read_part levels) (λ found. (levelled levels).part)

-- a statement and what stands in a block, where levels are left
pub within_some : (levels : ℕ) (ts : List Token) → 0 < levels
    → read_within levels ts ≡ read_statement read_expression (read_pragma read_expression) (read_parts (levels - 1)) (read_within (levels - 1)) ts
within_some zero ts some = absurd (omega arith)
within_some (suc levels) ts some = let less : suc levels - 1 ≡ levels = omega arith in rw less refl

pub part_some : (levels : ℕ) (ts : List Token) → 0 < levels
    → read_part levels ts ≡ read_item read_expression (read_pragma read_expression) (read_parts (levels - 1)) (read_within (levels - 1)) ts
part_some zero ts some = absurd (omega arith)
part_some (suc levels) ts some = let less : suc levels - 1 ≡ levels = omega arith in rw less refl
