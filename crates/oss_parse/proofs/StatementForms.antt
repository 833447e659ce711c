-- Each form of statement is read exactly, and the choice among them by the first token.
use Rattle.std.proofs.Common.{◌≡◌, ℕ, Bool, true, false, List, [], ◌∷◌, ◌++◌, refl, Option, Some, None}
use Rattle.std.specs.Prelude.{codes}
use Rattle.oss_syntax.specs.declared.token.Token.{Token}
use Rattle.oss_syntax.specs.declared.token.TokenKind.{TokenKind}
use Rattle.oss_syntax.specs.declared.token.TokenKind.TheVariants as kinds
use Rattle.oss_syntax.specs.declared.tree.expr.Expr.{Expr}
use Rattle.oss_syntax.specs.declared.tree.pragma.Directive.{Directive}
use Rattle.oss_syntax.specs.declared.tree.pragma.Directive.TheVariants as directive
use Rattle.oss_syntax.specs.declared.tree.pragma.TaskMark.{TaskMark}
use Rattle.oss_syntax.specs.declared.tree.stmt.Stmt.{Stmt}
use Rattle.oss_syntax.specs.declared.tree.stmt.StmtKind.TheVariants as stmts
use Rattle.oss_grammar.specs.Expressions.{IsWhole, operator_of, prefix_of}
use Rattle.oss_grammar.specs.Fronts.{Viable}
use Rattle.oss_grammar.specs.Grammar.{One, Mapped, Either}
use Rattle.oss_grammar.specs.Grammar.Either.{one_way, other_way}
use Rattle.oss_grammar.specs.Levels.{IsExcessBehind, OpensPragma}
use Rattle.oss_grammar.specs.Pragmas.{IsPragma}
use Rattle.oss_grammar.specs.Reading.{Reader, has, never, one_of, read_one, read_then, read_nothing, read_mapped, read_both, read_either}
use Rattle.oss_grammar.specs.SimpleStatements.{IsSimple, step_of}
use Rattle.oss_grammar.specs.StatementLimits.{OpensSimple, OpensLoopHead, IsStatementExcess, IsItemsExcess}
use Rattle.oss_grammar.specs.Statements.{IsStmt, IsAnyStmt, IsItems, IsLoopHead}
use Rattle.oss_grammar.specs.Statements.IsItems.{no_item}
use Rattle.oss_grammar.proofs.Parts.{Exact, Begun}
use Rattle.oss_grammar.proofs.PartLemmas.{Nowhere, Nothing, exact_one, begun_one, exact_nothing, exact_mapped, begun_mapped, Then, ThenDeep, begun_then, EitherDeep, begun_either}
use Rattle.oss_grammar.proofs.PairLemmas as pairs
use Rattle.oss_expressions.specs.TokenValues.{symbol_at, keyword_at, start_at, begins_expression}
use Rattle.oss_expressions.proofs.ExactPairs.{Headed, HeadedDeep, exact_headed, begun_headed, Trailed, exact_trailed, Enclosed, exact_enclosed, begun_enclosed, BracketedDeep, Behind, exact_behind}
use Rattle.oss_expressions.proofs.TokenLemmas.{goes_on, on_symbol, has_symbol, not_symbol, not_keyword, begins_never}
use Rattle.oss_expressions.specs.ExpressionReading.{former, latter}
use Rattle.oss_parse.specs.SimpleReading.{read_simple, begins_simple}
use Rattle.oss_parse.specs.declared.forms.ForParts.{ForParts}
use Rattle.oss_parse.specs.StatementReading.{text_in, text_at, block_of, empty_at, if_of, if_else_of, while_of, for_of, return_of, break_at, continue_at, print_of, task_of, task_loop_of, read_block, read_empty, read_simple_statement, read_if, read_branches, read_while, read_for, read_return, read_break, read_continue, read_print, read_task_loop_statement, read_directed, read_lined, read_pragma_statement, read_keyword_statement, read_statement, read_printed, begins_keyword_statement, begins_statement}
use Rattle.oss_parse.specs.StatementReading as reading
use Rattle.oss_parse.proofs.BranchLemmas.{otherwise, Branches, ClosedBranches, BranchesDeep, ending_branches}
use Rattle.oss_parse.proofs.BranchLemmas.Branches.{one_branch, two_branches}
use Rattle.oss_parse.proofs.EndingLemmas.{Ending, ending_closed, ending_mapped, ending_then, ending_either}
use Rattle.oss_parse.proofs.ExactDeclarations.{exact_declaration, begun_declaration, simple_ends}
use Rattle.oss_parse.proofs.ExactLoopHeads.{exact_loop_head, begun_loop_head}
use Rattle.oss_parse.proofs.ExactSimple.{exact_simple, begun_simple, semicolon_ends}
use Rattle.oss_parse.proofs.FormLemmas as form

-- a form of statement: how it is read, what begins it, and that what goes on with no `else` is of the form
pub record Form (f : Reader Stmt) (U C : List Token → Stmt → Type 0) (B : List Token → Token → Type 0) (starts : Token → Bool) : Type 0 where
  pub ending : Ending otherwise f U C B
  pub first : Begun f starts
  pub inside : (xs : List Token) (s : Stmt) → C xs s → U xs s

-- a form with which nothing goes on
form_closed : {f : Reader Stmt} {U : List Token → Stmt → Type 0} {B : List Token → Token → Type 0} {starts : Token → Bool} → Exact f U B never → Begun f starts → Form f U U B starts
form_closed part first = record { ending = ending_closed otherwise part; first = first; inside = λ xs s w. w }

-- one of two forms that begin differently
form_either : (starts : Token → Bool) {f g : Reader Stmt} {U V C E : List Token → Stmt → Type 0} {B D : List Token → Token → Type 0} {others : Token → Bool} → Form f U C B starts → Form g V E D others
    → ((t : Token) → others t ≡ true → starts t ≡ false) → Form (read_either starts f g) (Either U V) (Either C E) (EitherDeep B D) (one_of starts others)
form_either starts {f} {g} {U} {V} {C} {E} left right apart = record {
  ending = ending_either otherwise starts left.ending left.first right.ending right.first left.inside right.inside apart;
  first = begun_either starts left.first right.first;
  inside = inside;
} where
  inside : (xs : List Token) (s : Stmt) → Either C E xs s → Either U V xs s
  inside xs s (one_way w) = one_way (left.inside xs s w)
  inside xs s (other_way w) = other_way (right.inside xs s w)

mark : List ℕ → Token
mark s = record { what = kinds.Symbol s; line = 0 }

word : List ℕ → Token
word s = record { what = kinds.Keyword s; line = 0 }

module _ {expression : Reader Expr} {X : List Token → Token → Type 0} (part : Exact expression IsWhole X goes_on) (first : Begun expression begins_expression)
    {pragma : Reader Directive} (directed : Exact pragma IsPragma (IsExcessBehind OpensPragma X) never) (first_directed : Begun pragma (has start_at))
    {n : ℕ} {items : Reader (List Stmt)} {goes_items : Token → Bool} (inside : Exact items IsItems (IsItemsExcess X n) goes_items) (brace_ends : (t : Token) → has (symbol_at (codes "}")) t ≡ true → goes_items t ≡ false)
    {sub : Reader Stmt} (below : Ending otherwise sub IsAnyStmt (IsStmt false) (IsStatementExcess X n)) (first_below : Begun sub begins_statement) where
  simple_read : Exact (read_simple expression) IsSimple (IsExcessBehind OpensSimple X) goes_on
  simple_read = exact_simple part first

  pub closed_inside : (xs : List Token) (s : Stmt) → IsStmt false xs s → IsAnyStmt xs s
  closed_inside xs s w = record { ends_open = false; is = w }

  some_below : Viable IsAnyStmt []
  some_below = pairs.some_text below.whole first_below

  semicolon : Exact (read_one (symbol_at (codes ";"))) (One (symbol_at (codes ";"))) Nowhere never
  unfolding mark
  semicolon = exact_one (symbol_at (codes ";")) (mark (codes ";")) 0 refl never

  some_semicolon : Viable (One (symbol_at (codes ";"))) []
  unfolding mark
  some_semicolon = record { more = mark (codes ";") ∷ []; value = 0; member = record { token = mark (codes ";"); only = refl; passes = refl } }

  -- "{" items "}"
  abbrev pub BlockText : List Token → Stmt → Type 0
  BlockText = Mapped block_of (Enclosed (symbol_at (codes "{")) (symbol_at (codes "}")) IsItems)

  abbrev pub BlockDeep : List Token → Token → Type 0
  BlockDeep = HeadedDeep (symbol_at (codes "{")) (IsItemsExcess X n)

  none_items : Viable IsItems []
  none_items = record { more = []; value = []; member = no_item refl }

  block_form : Form (read_block items) BlockText BlockText BlockDeep (has (symbol_at (codes "{")))
  unfolding read_block mark
  block_form = form_closed (exact_mapped block_of (exact_enclosed (symbol_at (codes "{")) (symbol_at (codes "}")) inside none_items brace_ends (mark (codes "}")) 0 refl (mark (codes "{")) 0 refl))
      (begun_mapped block_of (begun_enclosed (symbol_at (codes "{")) (symbol_at (codes "}")) inside none_items brace_ends (mark (codes "}")) 0 refl))

  -- ";"
  abbrev pub EmptyText : List Token → Stmt → Type 0
  EmptyText = Mapped empty_at (One (symbol_at (codes ";")))

  empty_form : Form read_empty EmptyText EmptyText Nowhere (has (symbol_at (codes ";")))
  unfolding read_empty
  empty_form = form_closed (exact_mapped empty_at semicolon) (begun_mapped empty_at (begun_one (symbol_at (codes ";"))))

  -- simple ";"
  abbrev pub SimpleText : List Token → Stmt → Type 0
  SimpleText = Mapped former (Trailed (symbol_at (codes ";")) IsSimple)

  simple_form : Form (read_simple_statement expression) SimpleText SimpleText (IsExcessBehind OpensSimple X) begins_simple
  unfolding read_simple_statement mark
  simple_form = form_closed (exact_mapped former (exact_trailed (symbol_at (codes ";")) simple_read semicolon_ends (mark (codes ";")) 0 refl))
      (begun_mapped former (pairs.begun_both simple_read semicolon (begun_one (symbol_at (codes ";"))) semicolon_ends (begun_simple part first)))

  -- "if" "(" expr ")" stmt [ "else" stmt ]
  abbrev pub Head : List ℕ → List Token → ℕ × Expr → Type 0
  Head s = Headed (keyword_at s) (form.Test part first (exact_simple part first) (begun_simple part first) (exact_declaration part first) (begun_declaration part first) simple_ends)

  abbrev pub HeadDeep : List ℕ → List Token → Token → Type 0
  HeadDeep s = HeadedDeep (keyword_at s) (BracketedDeep (codes "(") X)

  head : (s : List ℕ) → keyword_at s (form.some_keyword s) ≡ Some 0 → Exact {A = ℕ × Expr} (reading.read_head s expression) (Head s) (HeadDeep s) never
  head s e = form.exact_head part first (exact_simple part first) (begun_simple part first) (exact_declaration part first) (begun_declaration part first) simple_ends s e

  first_head : (s : List ℕ) → Begun {A = ℕ × Expr} (reading.read_head s expression) (has (keyword_at s))
  first_head s = form.begun_head part first (exact_simple part first) (begun_simple part first) (exact_declaration part first) (begun_declaration part first) simple_ends s

  abbrev pub IfText : List Token → Stmt → Type 0
  IfText = Then (Head (codes "if")) (Branches IsAnyStmt (IsStmt false))

  abbrev pub ClosedIf : List Token → Stmt → Type 0
  ClosedIf = Then (Head (codes "if")) (ClosedBranches (IsStmt false))

  abbrev pub IfDeep : List Token → Token → Type 0
  IfDeep = ThenDeep (HeadDeep (codes "if")) (Head (codes "if")) (λ h. BranchesDeep (IsStmt false) (IsStatementExcess X n))

  branches : (h : ℕ × Expr) → Ending otherwise (read_branches sub h) (Branches IsAnyStmt (IsStmt false) h) (ClosedBranches (IsStmt false) h) (BranchesDeep (IsStmt false) (IsStatementExcess X n))
  branches h = ending_branches below closed_inside some_below h

  some_branches : (h : ℕ × Expr) → Viable (Branches IsAnyStmt (IsStmt false) h) []
  some_branches h = let v = some_below in record { more = v.more; value = reading.if_of h v.value; member = one_branch v.value refl v.member }

  if_form : Form (read_if expression sub) IfText ClosedIf IfDeep (has (keyword_at (codes "if")))
  unfolding read_if
  if_form = record {
    ending = ending_then otherwise (head (codes "if") refl) branches some_branches;
    first = begun_then (head (codes "if") refl) (λ h. (branches h).whole) (λ h ys s rest w free. begins_never (ys ++ rest)) (λ h ys t rest w. begins_never (ys ++ (t ∷ rest))) some_branches (first_head (codes "if"));
    inside = λ xs s w. record {
      front = w.front;
      back = w.back;
      value = w.value;
      split = w.split;
      before = w.before;
      behind = let b = w.behind in two_branches b.first b.other b.front b.mark b.back b.made b.split b.marks b.before (closed_inside b.back b.other b.behind);
    };
  }

  -- a head, and a statement
  mapped_inside : (make : Stmt → Stmt) (xs : List Token) (s : Stmt) → Mapped make (IsStmt false) xs s → Mapped make IsAnyStmt xs s
  mapped_inside make xs s w = record { part = w.part; made = w.made; whole = closed_inside xs w.part w.whole }

  some_mapped : (make : Stmt → Stmt) → Viable (Mapped make IsAnyStmt) []
  some_mapped make = let v = some_below in record { more = v.more; value = make v.value; member = record { part = v.value; made = refl; whole = v.member } }

  module _ {A : Type 0} {h : Reader A} {H : List Token → A → Type 0} {D : List Token → Token → Type 0} {starts : Token → Bool} (headed : Exact h H D never) (begun : Begun h starts) (make : A → Stmt → Stmt) where
    made_tail : (a : A) → Ending otherwise (read_mapped (make a) sub) (Mapped (make a) IsAnyStmt) (Mapped (make a) (IsStmt false)) (IsStatementExcess X n)
    made_tail a = ending_mapped otherwise (make a) below

    headed_form : Form (read_then h (λ a. read_mapped (make a) sub)) (Then H (λ a. Mapped (make a) IsAnyStmt)) (Then H (λ a. Mapped (make a) (IsStmt false))) (ThenDeep D H (λ a. IsStatementExcess X n)) starts
    headed_form = record {
      ending = ending_then otherwise headed made_tail (λ a. some_mapped (make a));
      first = begun_then headed (λ a. (made_tail a).whole) (λ a ys s rest w free. begins_never (ys ++ rest)) (λ a ys t rest w. begins_never (ys ++ (t ∷ rest))) (λ a. some_mapped (make a)) begun;
      inside = λ xs s w. record { front = w.front; back = w.back; value = w.value; split = w.split; before = w.before; behind = mapped_inside (make w.value) w.back s w.behind };
    }

  -- "while" "(" expr ")" stmt
  abbrev pub WhileText : (List Token → Stmt → Type 0) → List Token → Stmt → Type 0
  WhileText U = Then (Head (codes "while")) (λ h. Mapped (while_of h) U)

  abbrev pub WhileDeep : List Token → Token → Type 0
  WhileDeep = ThenDeep (HeadDeep (codes "while")) (Head (codes "while")) (λ h. IsStatementExcess X n)

  while_form : Form (read_while expression sub) (WhileText IsAnyStmt) (WhileText (IsStmt false)) WhileDeep (has (keyword_at (codes "while")))
  unfolding read_while
  while_form = headed_form (head (codes "while") refl) (first_head (codes "while")) while_of

  -- "for" "(" parts ")" stmt
  abbrev pub ForHead : List Token → ℕ × ForParts → Type 0
  ForHead = form.ForHead part first (exact_simple part first) (begun_simple part first) (exact_declaration part first) (begun_declaration part first) simple_ends

  abbrev pub ForPartsDeep : List Token → Token → Type 0
  ForPartsDeep = form.ForPartsDeep part first (exact_simple part first) (begun_simple part first) (exact_declaration part first) (begun_declaration part first) simple_ends

  abbrev pub ForHeadDeep : List Token → Token → Type 0
  ForHeadDeep = form.ForHeadDeep part first (exact_simple part first) (begun_simple part first) (exact_declaration part first) (begun_declaration part first) simple_ends

  abbrev pub ForText : (List Token → Stmt → Type 0) → List Token → Stmt → Type 0
  ForText U = Then ForHead (λ h. Mapped (for_of h) U)

  abbrev pub ForDeep : List Token → Token → Type 0
  ForDeep = ThenDeep ForHeadDeep ForHead (λ h. IsStatementExcess X n)

  for_form : Form (read_for expression sub) (ForText IsAnyStmt) (ForText (IsStmt false)) ForDeep (has (keyword_at (codes "for")))
  unfolding read_for
  for_form = headed_form (form.exact_for_head part first (exact_simple part first) (begun_simple part first) (exact_declaration part first) (begun_declaration part first) simple_ends)
      (form.begun_for_head part first (exact_simple part first) (begun_simple part first) (exact_declaration part first) (begun_declaration part first) simple_ends) for_of

  -- jumps
  abbrev pub MaybeE : List Token → Option Expr → Type 0
  MaybeE = Either (Mapped Some IsWhole) (Nothing None)

  abbrev pub ReturnText : List Token → Stmt → Type 0
  ReturnText = Mapped return_of (Enclosed (keyword_at (codes "return")) (symbol_at (codes ";")) MaybeE)

  abbrev pub ReturnDeep : List Token → Token → Type 0
  ReturnDeep = HeadedDeep (keyword_at (codes "return")) (EitherDeep X Nowhere)

  none_expression : Viable MaybeE []
  none_expression = record { more = []; value = None; member = other_way (record { nothing = refl; same = refl }) }

  semicolon_ends_maybe : (t : Token) → has (symbol_at (codes ";")) t ≡ true → one_of begins_expression goes_on t ≡ false
  unfolding operator_of prefix_of
  semicolon_ends_maybe t e = on_symbol (one_of begins_expression goes_on) (codes ";") false (λ line. refl) t (has_symbol (codes ";") t e)

  return_form : Form (read_return expression) ReturnText ReturnText ReturnDeep (has (keyword_at (codes "return")))
  unfolding read_return mark word
  return_form =
      let maybe : Exact (reading.read_maybe_expression expression) MaybeE (EitherDeep X Nowhere) (one_of begins_expression goes_on)
      = form.exact_maybe_expression part first (exact_simple part first) (begun_simple part first) (exact_declaration part first) (begun_declaration part first) simple_ends in
      form_closed (exact_mapped return_of (exact_enclosed (keyword_at (codes "return")) (symbol_at (codes ";")) maybe none_expression semicolon_ends_maybe (mark (codes ";")) 0 refl (word (codes "return")) 0 refl))
      (begun_mapped return_of (begun_enclosed (keyword_at (codes "return")) (symbol_at (codes ";")) maybe none_expression semicolon_ends_maybe (mark (codes ";")) 0 refl))

  abbrev pub JumpText : List ℕ → (ℕ × ℕ → Stmt) → List Token → Stmt → Type 0
  JumpText s make = Mapped make (Headed (keyword_at s) (One (symbol_at (codes ";"))))

  abbrev pub JumpDeep : List ℕ → List Token → Token → Type 0
  JumpDeep s = HeadedDeep (keyword_at s) Nowhere

  break_form : Form read_break (JumpText (codes "break") break_at) (JumpText (codes "break") break_at) (JumpDeep (codes "break")) (has (keyword_at (codes "break")))
  unfolding read_break word
  break_form = form_closed (exact_mapped break_at (exact_headed (keyword_at (codes "break")) semicolon (word (codes "break")) 0 refl some_semicolon)) (begun_mapped break_at (begun_headed (keyword_at (codes "break")) semicolon))

  continue_form : Form read_continue (JumpText (codes "continue") continue_at) (JumpText (codes "continue") continue_at) (JumpDeep (codes "continue")) (has (keyword_at (codes "continue")))
  unfolding read_continue word
  continue_form = form_closed (exact_mapped continue_at (exact_headed (keyword_at (codes "continue")) semicolon (word (codes "continue")) 0 refl some_semicolon)) (begun_mapped continue_at (begun_headed (keyword_at (codes "continue")) semicolon))

  -- "printf" "(" string { "," expr } ")" ";"
  abbrev pub Printed : List Token → List Expr → Type 0
  Printed = form.Printed part first (exact_simple part first) (begun_simple part first) (exact_declaration part first) (begun_declaration part first) simple_ends

  abbrev pub PrintedDeep : List Token → Token → Type 0
  PrintedDeep = form.PrintedDeep part first (exact_simple part first) (begun_simple part first) (exact_declaration part first) (begun_declaration part first) simple_ends

  printed : Exact (read_printed expression) Printed PrintedDeep never
  printed = form.exact_printed part first (exact_simple part first) (begun_simple part first) (exact_declaration part first) (begun_declaration part first) simple_ends

  abbrev pub PrintText : List Token → Stmt → Type 0
  PrintText = Mapped print_of (Headed (keyword_at (codes "printf")) (Behind (codes "(") (Headed text_at Printed)))

  abbrev pub PrintDeep : List Token → Token → Type 0
  PrintDeep = HeadedDeep (keyword_at (codes "printf")) (BracketedDeep (codes "(") (HeadedDeep text_at PrintedDeep))

  some_text_token : Token
  some_text_token = record { what = kinds.Text []; line = 0 }

  some_printed : Viable Printed []
  some_printed = form.some_printed part first (exact_simple part first) (begun_simple part first) (exact_declaration part first) (begun_declaration part first) simple_ends

  strings : Exact {A = List ℕ × List Expr} (read_both (read_one text_at) (read_printed expression)) (Headed text_at Printed) (HeadedDeep text_at PrintedDeep) never
  unfolding some_text_token
  strings = exact_headed text_at printed some_text_token [] refl some_printed

  some_strings : Viable (Headed text_at Printed) []
  unfolding some_text_token
  some_strings = form.viable_headed text_at some_text_token [] refl some_printed

  behind_strings : Exact {A = List ℕ × List Expr} (read_mapped latter (read_both (read_one (symbol_at (codes "("))) (read_both (read_one text_at) (read_printed expression)))) (Behind (codes "(") (Headed text_at Printed)) (BracketedDeep (codes "(") (HeadedDeep text_at PrintedDeep)) never
  behind_strings = exact_behind (codes "(") strings some_strings refl

  some_behind : Viable (Behind (codes "(") (Headed text_at Printed)) []
  unfolding mark
  some_behind = let v = some_strings in record { more = mark (codes "(") ∷ v.more; value = v.value; member = record { mark = mark (codes "("); back = v.more; split = refl; marks = refl; behind = v.member } }

  print_form : Form (read_print expression) PrintText PrintText PrintDeep (has (keyword_at (codes "printf")))
  unfolding read_print word
  print_form = form_closed (exact_mapped print_of (exact_headed (keyword_at (codes "printf")) behind_strings (word (codes "printf")) 0 refl some_behind)) (begun_mapped print_of (begun_headed (keyword_at (codes "printf")) behind_strings))

  -- the head of a task loop, and a statement
  abbrev pub TaskLoopText : TaskMark → (List Token → Stmt → Type 0) → List Token → Stmt → Type 0
  TaskLoopText m U = Then (IsLoopHead m) (λ h. Mapped (task_loop_of m h) U)

  abbrev pub TaskLoopDeep : TaskMark → List Token → Token → Type 0
  TaskLoopDeep m = ThenDeep (IsExcessBehind OpensLoopHead X) (IsLoopHead m) (λ h. IsStatementExcess X n)

  task_loop_form : (m : TaskMark) → Form (read_task_loop_statement expression sub m) (TaskLoopText m IsAnyStmt) (TaskLoopText m (IsStmt false)) (TaskLoopDeep m) (has (keyword_at (codes "for")))
  unfolding read_task_loop_statement
  task_loop_form m = headed_form (exact_loop_head part first m) (begun_loop_head part first m) (task_loop_of m)

  -- task stmt | taskloop head stmt | taskwait | release
  abbrev pub LinedPragma : List Token → Directive × ℕ → Type 0
  LinedPragma = form.Lined directed first_directed

  abbrev pub DirectedText : (List Token → Stmt → Type 0) → Directive × ℕ → List Token → Stmt → Type 0
  DirectedText U (directive.Task mark, line) = Mapped (task_of mark) U
  DirectedText U (directive.TaskLoop mark, line) = TaskLoopText mark U
  DirectedText U (directive.TaskWait sections, line) = Nothing (record { what = stmts.TaskWait sections; line = line })
  DirectedText U (directive.Release clauses, line) = Nothing (record { what = stmts.Release clauses; line = line })

  abbrev pub DirectedDeep : Directive × ℕ → List Token → Token → Type 0
  DirectedDeep (directive.Task mark, line) = IsStatementExcess X n
  DirectedDeep (directive.TaskLoop mark, line) = TaskLoopDeep mark
  DirectedDeep (directive.TaskWait sections, line) = Nowhere
  DirectedDeep (directive.Release clauses, line) = Nowhere

  ending_nothing : (s : Stmt) → Ending otherwise (read_nothing s) (Nothing s) (Nothing s) Nowhere
  ending_nothing s = ending_closed otherwise (exact_nothing s never)

  directed_tail : (d : Directive × ℕ) → Ending otherwise (read_directed expression sub d) (DirectedText IsAnyStmt d) (DirectedText (IsStmt false) d) (DirectedDeep d)
  unfolding read_directed
  directed_tail (directive.Task mark, line) = ending_mapped otherwise (task_of mark) below
  directed_tail (directive.TaskLoop mark, line) = (task_loop_form mark).ending
  directed_tail (directive.TaskWait sections, line) = ending_nothing (record { what = stmts.TaskWait sections; line = line })
  directed_tail (directive.Release clauses, line) = ending_nothing (record { what = stmts.Release clauses; line = line })

  some_directed : (d : Directive × ℕ) → Viable (DirectedText IsAnyStmt d) []
  some_directed (directive.Task mark, line) = some_mapped (task_of mark)
  some_directed (directive.TaskLoop mark, line) = let form = task_loop_form mark in pairs.some_text form.ending.whole form.first
  some_directed (directive.TaskWait sections, line) = record { more = []; value = record { what = stmts.TaskWait sections; line = line }; member = record { nothing = refl; same = refl } }
  some_directed (directive.Release clauses, line) = record { more = []; value = record { what = stmts.Release clauses; line = line }; member = record { nothing = refl; same = refl } }

  directed_inside : (d : Directive × ℕ) (xs : List Token) (s : Stmt) → DirectedText (IsStmt false) d xs s → DirectedText IsAnyStmt d xs s
  directed_inside (directive.Task mark, line) xs s w = mapped_inside (task_of mark) xs s w
  directed_inside (directive.TaskLoop mark, line) xs s w = (task_loop_form mark).inside xs s w
  directed_inside (directive.TaskWait sections, line) xs s w = w
  directed_inside (directive.Release clauses, line) xs s w = w

  abbrev pub PragmaText : (List Token → Stmt → Type 0) → List Token → Stmt → Type 0
  PragmaText U = Then LinedPragma (DirectedText U)

  abbrev pub PragmaDeep : List Token → Token → Type 0
  PragmaDeep = ThenDeep (IsExcessBehind OpensPragma X) LinedPragma DirectedDeep

  lined : Exact {A = Directive × ℕ} (read_lined pragma) LinedPragma (IsExcessBehind OpensPragma X) never
  lined = form.exact_lined directed first_directed

  pragma_form : Form (read_pragma_statement expression pragma sub) (PragmaText IsAnyStmt) (PragmaText (IsStmt false)) PragmaDeep (has start_at)
  unfolding read_pragma_statement
  pragma_form = record {
    ending = ending_then otherwise lined directed_tail some_directed;
    first = begun_then lined (λ d. (directed_tail d).whole) (λ d ys s rest w free. begins_never (ys ++ rest)) (λ d ys t rest w. begins_never (ys ++ (t ∷ rest))) some_directed (form.begun_lined directed first_directed);
    inside = λ xs s w. record { front = w.front; back = w.back; value = w.value; split = w.split; before = w.before; behind = directed_inside w.value w.back s w.behind };
  }

  -- the choice, from the last form to the first
  abbrev pub KeywordText : (U : List Token → Stmt → Type 0) → (List Token → Stmt → Type 0) → List Token → Stmt → Type 0
  KeywordText U If = Either If (Either (WhileText U) (Either (ForText U) (Either ReturnText (Either (JumpText (codes "break") break_at) (Either (JumpText (codes "continue") continue_at) (Either PrintText (PragmaText U)))))))

  abbrev pub KeywordDeep : List Token → Token → Type 0
  KeywordDeep = EitherDeep IfDeep (EitherDeep WhileDeep (EitherDeep ForDeep (EitherDeep ReturnDeep (EitherDeep (JumpDeep (codes "break")) (EitherDeep (JumpDeep (codes "continue")) (EitherDeep PrintDeep PragmaDeep))))))

  abbrev has_word : List ℕ → Token → Bool
  has_word s = has (keyword_at s)

  from_print : Form (read_either (has_word (codes "printf")) (read_print expression) (read_pragma_statement expression pragma sub)) (Either PrintText (PragmaText IsAnyStmt)) (Either PrintText (PragmaText (IsStmt false))) (EitherDeep PrintDeep PragmaDeep)
      (one_of (has_word (codes "printf")) (has start_at))
  from_print = form_either (has_word (codes "printf")) print_form pragma_form (λ t e. not_keyword (has start_at) (codes "printf") (λ line. refl) t e)

  from_continue : Form (read_either (has_word (codes "continue")) read_continue (read_either (has_word (codes "printf")) (read_print expression) (read_pragma_statement expression pragma sub)))
      (Either (JumpText (codes "continue") continue_at) (Either PrintText (PragmaText IsAnyStmt))) (Either (JumpText (codes "continue") continue_at) (Either PrintText (PragmaText (IsStmt false))))
      (EitherDeep (JumpDeep (codes "continue")) (EitherDeep PrintDeep PragmaDeep)) (one_of (has_word (codes "continue")) (one_of (has_word (codes "printf")) (has start_at)))
  from_continue = form_either (has_word (codes "continue")) continue_form from_print (λ t e. not_keyword (one_of (has_word (codes "printf")) (has start_at)) (codes "continue") (λ line. refl) t e)

  abbrev from_break_starts : Token → Bool
  from_break_starts = one_of (has_word (codes "break")) (one_of (has_word (codes "continue")) (one_of (has_word (codes "printf")) (has start_at)))

  abbrev BreakText : (List Token → Stmt → Type 0) → List Token → Stmt → Type 0
  BreakText U = Either (JumpText (codes "break") break_at) (Either (JumpText (codes "continue") continue_at) (Either PrintText (PragmaText U)))

  abbrev read_from_break : Reader Stmt
  read_from_break = read_either (has_word (codes "break")) read_break (read_either (has_word (codes "continue")) read_continue (read_either (has_word (codes "printf")) (read_print expression) (read_pragma_statement expression pragma sub)))

  from_break : Form read_from_break (BreakText IsAnyStmt) (BreakText (IsStmt false)) (EitherDeep (JumpDeep (codes "break")) (EitherDeep (JumpDeep (codes "continue")) (EitherDeep PrintDeep PragmaDeep))) from_break_starts
  from_break = form_either (has_word (codes "break")) break_form from_continue
      (λ t e. not_keyword (one_of (has_word (codes "continue")) (one_of (has_word (codes "printf")) (has start_at))) (codes "break") (λ line. refl) t e)

  from_return : Form (read_either (has_word (codes "return")) (read_return expression) read_from_break) (Either ReturnText (BreakText IsAnyStmt)) (Either ReturnText (BreakText (IsStmt false)))
      (EitherDeep ReturnDeep (EitherDeep (JumpDeep (codes "break")) (EitherDeep (JumpDeep (codes "continue")) (EitherDeep PrintDeep PragmaDeep)))) (one_of (has_word (codes "return")) from_break_starts)
  from_return = form_either (has_word (codes "return")) return_form from_break (λ t e. not_keyword from_break_starts (codes "return") (λ line. refl) t e)

  abbrev from_for_starts : Token → Bool
  from_for_starts = one_of (has_word (codes "for")) (one_of (has_word (codes "return")) from_break_starts)

  from_for : Form (read_either (has_word (codes "for")) (read_for expression sub) (read_either (has_word (codes "return")) (read_return expression) read_from_break))
      (Either (ForText IsAnyStmt) (Either ReturnText (BreakText IsAnyStmt))) (Either (ForText (IsStmt false)) (Either ReturnText (BreakText (IsStmt false))))
      (EitherDeep ForDeep (EitherDeep ReturnDeep (EitherDeep (JumpDeep (codes "break")) (EitherDeep (JumpDeep (codes "continue")) (EitherDeep PrintDeep PragmaDeep))))) from_for_starts
  from_for = form_either (has_word (codes "for")) for_form from_return (λ t e. not_keyword (one_of (has_word (codes "return")) from_break_starts) (codes "for") (λ line. refl) t e)

  abbrev from_while_starts : Token → Bool
  from_while_starts = one_of (has_word (codes "while")) from_for_starts

  from_while : Form (read_either (has_word (codes "while")) (read_while expression sub) (read_either (has_word (codes "for")) (read_for expression sub) (read_either (has_word (codes "return")) (read_return expression) read_from_break)))
      (Either (WhileText IsAnyStmt) (Either (ForText IsAnyStmt) (Either ReturnText (BreakText IsAnyStmt)))) (Either (WhileText (IsStmt false)) (Either (ForText (IsStmt false)) (Either ReturnText (BreakText (IsStmt false)))))
      (EitherDeep WhileDeep (EitherDeep ForDeep (EitherDeep ReturnDeep (EitherDeep (JumpDeep (codes "break")) (EitherDeep (JumpDeep (codes "continue")) (EitherDeep PrintDeep PragmaDeep)))))) from_while_starts
  from_while = form_either (has_word (codes "while")) while_form from_for (λ t e. not_keyword from_for_starts (codes "while") (λ line. refl) t e)

  keyword_form : Form (read_keyword_statement expression pragma sub) (KeywordText IsAnyStmt IfText) (KeywordText (IsStmt false) ClosedIf) KeywordDeep begins_keyword_statement
  unfolding read_keyword_statement
  keyword_form = form_either (has_word (codes "if")) if_form from_while (λ t e. not_keyword from_while_starts (codes "if") (λ line. refl) t e)

  not_simple : (t : Token) → begins_keyword_statement t ≡ true → begins_simple t ≡ false
  unfolding step_of
  not_simple t e = on t.what e where
    on : (k : TokenKind) → begins_keyword_statement (record { what = k; line = t.line }) ≡ true → begins_simple (record { what = k; line = t.line }) ≡ false
    on (kinds.Name w) e = absurd (cc)
    on (kinds.Symbol w) e = absurd (cc)
    on (kinds.Keyword w) e = refl
    on (kinds.Number v u) e = absurd (cc)
    on (kinds.Text w) e = absurd (cc)
    on kinds.PragmaOss e = refl
    on kinds.PragmaEnd e = absurd (cc)
    on kinds.Directive e = absurd (cc)

  from_simple : Form (read_either begins_simple (read_simple_statement expression) (read_keyword_statement expression pragma sub)) (Either SimpleText (KeywordText IsAnyStmt IfText)) (Either SimpleText (KeywordText (IsStmt false) ClosedIf))
      (EitherDeep (IsExcessBehind OpensSimple X) KeywordDeep) (one_of begins_simple begins_keyword_statement)
  from_simple = form_either begins_simple simple_form keyword_form not_simple

  from_empty : Form (read_either (has (symbol_at (codes ";"))) read_empty (read_either begins_simple (read_simple_statement expression) (read_keyword_statement expression pragma sub)))
      (Either EmptyText (Either SimpleText (KeywordText IsAnyStmt IfText))) (Either EmptyText (Either SimpleText (KeywordText (IsStmt false) ClosedIf))) (EitherDeep Nowhere (EitherDeep (IsExcessBehind OpensSimple X) KeywordDeep))
      (one_of (has (symbol_at (codes ";"))) (one_of begins_simple begins_keyword_statement))
  unfolding step_of
  from_empty = form_either (has (symbol_at (codes ";"))) empty_form from_simple (λ t e. not_symbol (one_of begins_simple begins_keyword_statement) (codes ";") (λ line. refl) t e)

  abbrev pub AllText : List Token → Stmt → Type 0
  AllText = Either BlockText (Either EmptyText (Either SimpleText (KeywordText IsAnyStmt IfText)))

  abbrev pub ClosedText : List Token → Stmt → Type 0
  ClosedText = Either BlockText (Either EmptyText (Either SimpleText (KeywordText (IsStmt false) ClosedIf)))

  abbrev pub AllDeep : List Token → Token → Type 0
  AllDeep = EitherDeep BlockDeep (EitherDeep Nowhere (EitherDeep (IsExcessBehind OpensSimple X) KeywordDeep))

  pub all_forms : Form (read_statement expression pragma items sub) AllText ClosedText AllDeep begins_statement
  unfolding read_statement step_of
  all_forms = form_either (has (symbol_at (codes "{"))) block_form from_empty
      (λ t e. not_symbol (one_of (has (symbol_at (codes ";"))) (one_of begins_simple begins_keyword_statement)) (codes "{") (λ line. refl) t e)
