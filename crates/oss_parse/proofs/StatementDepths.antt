-- Where reading of a statement passes a limit, the statement passes one, and the other way round; so statements are read exactly.
use Rattle.std.proofs.Common.{◌≡◌, ℕ, suc, Bool, true, false, List, [], ◌∷◌, ◌++◌, refl, sym, ap, ◌∙◌, subst, append_assoc, Option, Some, None}
use Rattle.std.specs.Prelude.{codes}
use Rattle.oss_syntax.specs.declared.token.Token.{Token}
use Rattle.oss_syntax.specs.declared.token.TokenKind.{TokenKind}
use Rattle.oss_syntax.specs.declared.token.TokenKind.TheVariants as kinds
use Rattle.oss_syntax.specs.declared.tree.expr.Expr.{Expr}
use Rattle.oss_syntax.specs.declared.tree.pragma.Directive.{Directive}
use Rattle.oss_syntax.specs.declared.tree.pragma.Directive.TheVariants as directive
use Rattle.oss_syntax.specs.declared.tree.pragma.TaskMark.{TaskMark}
use Rattle.oss_syntax.specs.declared.tree.stmt.Stmt.{Stmt}
use Rattle.oss_grammar.specs.Expressions.{IsWhole, IsArgumentList}
use Rattle.oss_grammar.specs.Grammar.{Mapped, Either}
use Rattle.oss_grammar.specs.Levels.{IsExcessBehind, OpensPragma}
use Rattle.oss_grammar.specs.Pragmas.{IsPragma}
use Rattle.oss_grammar.specs.Reading.{Reader, has, never}
use Rattle.oss_grammar.specs.SimpleStatements.{IsSimple, IsDeclaration, first_line}
use Rattle.oss_grammar.specs.StatementLimits.{OpensSimple, OpensStatement, IsStatementExcess, IsItemsExcess}
use Rattle.oss_grammar.specs.StatementLimits.IsStatementExcess.{in_expression, under_if, under_else, under_while, under_for, under_task, under_task_loop}
use Rattle.oss_grammar.specs.StatementLimits.OpensStatement.{in_if_test, in_while_test, in_for_declaration, in_for_first, in_for_test, in_for_last, in_return, in_print, in_pragma, in_loop_head}
use Rattle.oss_grammar.specs.Statements.{IsStmt, IsAnyStmt, IsItems, IsMaybeWhole, IsMaybeSimple, IsForFirst, IsPrinted}
use Rattle.oss_grammar.specs.Statements.IsPrinted.{nothing_printed, values_printed}
use Rattle.oss_grammar.specs.Expressions.IsArgumentList.{last_argument, next_argument}
use Rattle.oss_grammar.specs.OneToken.{IsSymbol, IsKeyword, IsOpen, IsClose, IsComma}
use Rattle.oss_grammar.proofs.Parts.{Exact, Begun}
use Rattle.oss_grammar.proofs.PartLemmas.{Nowhere, nowhere, Nothing, ThenDeep, EitherDeep}
use Rattle.oss_grammar.proofs.PartLemmas.ThenDeep.{in_first, in_second}
use Rattle.oss_grammar.proofs.PartLemmas.EitherDeep.{one_deep, other_deep}
use Rattle.oss_expressions.specs.TokenValues.{symbol_at, start_at, begins_expression}
use Rattle.oss_expressions.proofs.ExactPairs.{HeadedDeep}
use Rattle.oss_expressions.proofs.TokenLemmas.{goes_on, has_keyword, symbol_token, symbol_value, keyword_token, keyword_value}
use Rattle.oss_expressions.proofs.ListLemmas.{FollowDeep}
use Rattle.oss_expressions.proofs.ListLemmas.FollowDeep.{here, there}
use Rattle.oss_parse.specs.declared.forms.ForParts.{ForParts}
use Rattle.oss_parse.specs.StatementReading.{text_in, text_at, read_statement, begins_statement}
use Rattle.oss_parse.proofs.BranchLemmas.{otherwise}
use Rattle.oss_parse.proofs.BranchLemmas.BranchesDeep.{in_one, in_other}
use Rattle.oss_parse.proofs.EndingLemmas.{Ending, ending_as}
use Rattle.oss_parse.proofs.StatementForms as forms
use Rattle.oss_parse.proofs.StatementTexts as texts

module _ {expression : Reader Expr} {X : List Token → Token → Type 0} (part : Exact expression IsWhole X goes_on) (first : Begun expression begins_expression)
    {pragma : Reader Directive} (directed : Exact pragma IsPragma (IsExcessBehind OpensPragma X) never) (first_directed : Begun pragma (has start_at))
    {n : ℕ} {items : Reader (List Stmt)} {goes_items : Token → Bool} (inside : Exact items IsItems (IsItemsExcess X n) goes_items) (brace_ends : (t : Token) → has (symbol_at (codes "}")) t ≡ true → goes_items t ≡ false)
    {sub : Reader Stmt} (below : Ending otherwise sub IsAnyStmt (IsStmt false) (IsStatementExcess X n)) (first_below : Begun sub begins_statement) where
  abbrev Head : List ℕ → List Token → ℕ × Expr → Type 0
  Head = forms.Head part first directed first_directed inside brace_ends below first_below

  abbrev HeadDeep : List ℕ → List Token → Token → Type 0
  HeadDeep = forms.HeadDeep part first directed first_directed inside brace_ends below first_below

  abbrev IfDeep : List Token → Token → Type 0
  IfDeep = forms.IfDeep part first directed first_directed inside brace_ends below first_below

  abbrev WhileDeep : List Token → Token → Type 0
  WhileDeep = forms.WhileDeep part first directed first_directed inside brace_ends below first_below

  abbrev ForHead : List Token → ℕ × ForParts → Type 0
  ForHead = forms.ForHead part first directed first_directed inside brace_ends below first_below

  abbrev ForPartsDeep : List Token → Token → Type 0
  ForPartsDeep = forms.ForPartsDeep part first directed first_directed inside brace_ends below first_below

  abbrev ForDeep : List Token → Token → Type 0
  ForDeep = forms.ForDeep part first directed first_directed inside brace_ends below first_below

  abbrev MaybeE : List Token → Option Expr → Type 0
  MaybeE = forms.MaybeE part first directed first_directed inside brace_ends below first_below

  abbrev ReturnDeep : List Token → Token → Type 0
  ReturnDeep = forms.ReturnDeep part first directed first_directed inside brace_ends below first_below

  abbrev JumpDeep : List ℕ → List Token → Token → Type 0
  JumpDeep = forms.JumpDeep part first directed first_directed inside brace_ends below first_below

  abbrev PrintedDeep : List Token → Token → Type 0
  PrintedDeep = forms.PrintedDeep part first directed first_directed inside brace_ends below first_below

  abbrev PrintDeep : List Token → Token → Type 0
  PrintDeep = forms.PrintDeep part first directed first_directed inside brace_ends below first_below

  abbrev TaskLoopDeep : TaskMark → List Token → Token → Type 0
  TaskLoopDeep = forms.TaskLoopDeep part first directed first_directed inside brace_ends below first_below

  abbrev LinedPragma : List Token → Directive × ℕ → Type 0
  LinedPragma = forms.LinedPragma part first directed first_directed inside brace_ends below first_below

  abbrev DirectedDeep : Directive × ℕ → List Token → Token → Type 0
  DirectedDeep = forms.DirectedDeep part first directed first_directed inside brace_ends below first_below

  abbrev PragmaDeep : List Token → Token → Type 0
  PragmaDeep = forms.PragmaDeep part first directed first_directed inside brace_ends below first_below

  abbrev AllText : List Token → Stmt → Type 0
  AllText = forms.AllText part first directed first_directed inside brace_ends below first_below

  abbrev ClosedText : List Token → Stmt → Type 0
  ClosedText = forms.ClosedText part first directed first_directed inside brace_ends below first_below

  abbrev AllDeep : List Token → Token → Type 0
  AllDeep = forms.AllDeep part first directed first_directed inside brace_ends below first_below

  head_split : (word : List ℕ) (xs front back : List Token) (h : ℕ × Expr) → xs ≡ front ++ back → (w : Head word front h) → xs ≡ w.token ∷ w.behind.opened ∷ (w.behind.inner ++ (w.behind.closed ∷ back))
  head_split = texts.head_split part first directed first_directed inside brace_ends below first_below

  maybe_whole : (xs : List Token) (e : Option Expr) → MaybeE xs e → IsMaybeWhole xs e
  maybe_whole = texts.maybe_whole part first directed first_directed inside brace_ends below first_below

  abbrev MaybeS : List Token → Option Stmt → Type 0
  MaybeS = Either (Mapped Some IsSimple) (Nothing None)

  maybe_simple : (xs : List Token) (s : Option Stmt) → MaybeS xs s → IsMaybeSimple xs s
  maybe_simple = texts.maybe_simple part first directed first_directed inside brace_ends below first_below

  abbrev First : List Token → Option Stmt → Type 0
  First = Either (Mapped Some IsDeclaration) MaybeS

  for_first : (xs : List Token) (s : Option Stmt) → First xs s → IsForFirst xs s
  for_first = texts.for_first part first directed first_directed inside brace_ends below first_below

  abbrev Parts : List Token → ℕ × ForParts → Type 0
  Parts = texts.Parts part first directed first_directed inside brace_ends below first_below

  parts_of : (front : List Token) (h : ℕ × ForParts) → ForHead front h → Parts front h
  parts_of = texts.parts_of part first directed first_directed inside brace_ends below first_below

  for_split : (xs front back : List Token) (h : ℕ × ForParts) → xs ≡ front ++ back → (w : Parts front h)
      → xs ≡ w.t ∷ w.opened ∷ (w.start ++ (w.first_mark ∷ (w.middle ++ (w.second_mark ∷ (w.end ++ (w.closed ∷ back))))))
  for_split = texts.for_split part first directed first_directed inside brace_ends below first_below

  text_is : (k : TokenKind) (bytes : List ℕ) → text_in k ≡ Some bytes → k ≡ kinds.Text bytes
  text_is = texts.text_is part first directed first_directed inside brace_ends below first_below

  into_all : (xs : List Token) (s : Stmt) → AllText xs s → IsAnyStmt xs s
  into_all = texts.into_all part first directed first_directed inside brace_ends below first_below

  into_closed : (xs : List Token) (s : Stmt) → ClosedText xs s → IsStmt false xs s
  into_closed = texts.into_closed part first directed first_directed inside brace_ends below first_below

  head_of : (word : List ℕ) (t opened : Token) (inner : List Token) (closed : Token) (test : Expr) → IsKeyword word t → IsOpen opened → IsClose closed → IsWhole inner test → Head word (t ∷ opened ∷ (inner ++ (closed ∷ []))) (t.line, test)
  head_of = texts.head_of part first directed first_directed inside brace_ends below first_below

  split_of_head : (xs : List Token) (t opened : Token) (inner : List Token) (closed : Token) (back : List Token) → xs ≡ t ∷ opened ∷ (inner ++ (closed ∷ back)) → xs ≡ (t ∷ opened ∷ (inner ++ (closed ∷ []))) ++ back
  split_of_head = texts.split_of_head part first directed first_directed inside brace_ends below first_below

  is_otherwise : (t : Token) → IsKeyword (codes "else") t → otherwise t ≡ true
  is_otherwise = texts.is_otherwise part first directed first_directed inside brace_ends below first_below

  whole_maybe : (xs : List Token) (e : Option Expr) → IsMaybeWhole xs e → MaybeE xs e
  whole_maybe = texts.whole_maybe part first directed first_directed inside brace_ends below first_below

  first_for : (xs : List Token) (s : Option Stmt) → IsForFirst xs s → First xs s
  first_for = texts.first_for part first directed first_directed inside brace_ends below first_below

  for_head_of : (first : Option Stmt) (test : Option Expr) (last : Option Stmt) (t opened : Token) (start : List Token) (m : Token) (middle : List Token) (other : Token) (end : List Token) (closed : Token)
      → IsKeyword (codes "for") t → IsOpen opened → IsSymbol (codes ";") m → IsSymbol (codes ";") other → IsClose closed → IsForFirst start first → IsMaybeWhole middle test → IsMaybeSimple end last
      → ForHead (t ∷ opened ∷ (start ++ (m ∷ (middle ++ (other ∷ (end ++ (closed ∷ []))))))) (t.line, record { first = first; test = test; last = last })
  for_head_of = texts.for_head_of part first directed first_directed inside brace_ends below first_below

  split_of_for : (xs : List Token) (t opened : Token) (start : List Token) (m : Token) (middle : List Token) (other : Token) (end : List Token) (closed : Token) (back : List Token)
      → xs ≡ t ∷ opened ∷ (start ++ (m ∷ (middle ++ (other ∷ (end ++ (closed ∷ back)))))) → xs ≡ (t ∷ opened ∷ (start ++ (m ∷ (middle ++ (other ∷ (end ++ (closed ∷ []))))))) ++ back
  split_of_for = texts.split_of_for part first directed first_directed inside brace_ends below first_below

  text_value : (t : Token) (bytes : List ℕ) → t.what ≡ kinds.Text bytes → text_at t ≡ Some bytes
  text_value = texts.text_value part first directed first_directed inside brace_ends below first_below

  out_all : (o : Bool) (xs : List Token) (s : Stmt) → IsStmt o xs s → AllText xs s
  out_all = texts.out_all part first directed first_directed inside brace_ends below first_below

  out_closed : (xs : List Token) (s : Stmt) → IsStmt false xs s → ClosedText xs s
  out_closed = texts.out_closed part first directed first_directed inside brace_ends below first_below

  -- where a limit is passed
  abbrev Excess : List Token → Token → Type 0
  Excess = IsStatementExcess X (suc n)

  simple_deeper : (xs : List Token) (t : Token) → IsExcessBehind OpensSimple X xs t → Excess xs t
  simple_deeper xs t x = in_expression (record { front = x.front; inner = x.inner; split = x.split; opens = OpensStatement.in_simple x.opens; excess = x.excess })

  if_deeper : (xs : List Token) (t : Token) → IfDeep xs t → Excess xs t
  if_deeper xs t (in_first d) = in_expression (record {
    front = d.token ∷ d.deep.opened ∷ [];
    inner = d.deep.inner;
    split = d.split ∙ ap (λ ys. d.token ∷ ys) d.deep.split;
    opens = in_if_test d.token d.deep.opened refl (keyword_token (codes "if") d.token d.value d.passes) d.deep.opens;
    excess = d.deep.deep;
  })
  if_deeper xs t (in_second front back h e w (in_one d)) =
      under_if w.token w.behind.opened w.behind.inner w.behind.closed back (head_split (codes "if") xs front back h e w) (keyword_token (codes "if") w.token h.0 w.passes) w.behind.opens w.behind.inside w.behind.closes d
  if_deeper xs t (in_second front back h e w (in_other s middle m rest z v begun d)) =
      under_else w.token w.behind.opened w.behind.inner w.behind.closed middle m rest
      (head_split (codes "if") xs front back h e w ∙ ap (λ ys. w.token ∷ w.behind.opened ∷ (w.behind.inner ++ (w.behind.closed ∷ ys))) z)
      (keyword_token (codes "if") w.token h.0 w.passes) w.behind.opens w.behind.inside w.behind.closes v (has_keyword (codes "else") m begun) d

  while_deeper : (xs : List Token) (t : Token) → WhileDeep xs t → Excess xs t
  while_deeper xs t (in_first d) = in_expression (record {
    front = d.token ∷ d.deep.opened ∷ [];
    inner = d.deep.inner;
    split = d.split ∙ ap (λ ys. d.token ∷ ys) d.deep.split;
    opens = in_while_test d.token d.deep.opened refl (keyword_token (codes "while") d.token d.value d.passes) d.deep.opens;
    excess = d.deep.deep;
  })
  while_deeper xs t (in_second front back h e w d) =
      under_while w.token w.behind.opened w.behind.inner w.behind.closed back (head_split (codes "while") xs front back h e w) (keyword_token (codes "while") w.token h.0 w.passes) w.behind.opens w.behind.inside w.behind.closes d

  for_parts_deeper : (xs rest : List Token) (word opened : Token) (t : Token) → xs ≡ word ∷ opened ∷ rest → IsKeyword (codes "for") word → IsOpen opened → ForPartsDeep rest t → Excess xs t
  for_parts_deeper xs rest word opened t e k o (in_first (one_deep x)) = in_expression (record {
    front = word ∷ opened ∷ x.front;
    inner = x.inner;
    split = e ∙ ap (λ ys. word ∷ opened ∷ ys) x.split;
    opens = in_for_declaration word opened x.front refl k o x.opens;
    excess = x.excess;
  })
  for_parts_deeper xs rest word opened t e k o (in_first (other_deep (one_deep x))) = in_expression (record {
    front = word ∷ opened ∷ x.front;
    inner = x.inner;
    split = e ∙ ap (λ ys. word ∷ opened ∷ ys) x.split;
    opens = in_for_first word opened x.front refl k o x.opens;
    excess = x.excess;
  })
  for_parts_deeper xs rest word opened t e k o (in_first (other_deep (other_deep x))) = nowhere rest t x
  for_parts_deeper xs rest word opened t e k o (in_second start back s b w d) = on d.deep where
    m : IsSymbol (codes ";") d.token
    m = symbol_token (codes ";") d.token d.value d.passes

    on : ThenDeep (EitherDeep X Nowhere) MaybeE (λ v. HeadedDeep (symbol_at (codes ";")) (EitherDeep (IsExcessBehind OpensSimple X) Nowhere)) d.back t → Excess xs t
    on (in_first (one_deep x)) = in_expression (record {
      front = word ∷ opened ∷ (start ++ (d.token ∷ []));
      inner = d.back;
      split = e ∙ ap (λ ys. word ∷ opened ∷ ys) (b ∙ (ap (λ ys. start ++ ys) d.split ∙ sym (append_assoc start (d.token ∷ []) d.back)));
      opens = in_for_test word opened start d.token refl k o (for_first start s w) m;
      excess = x;
    })
    on (in_first (other_deep x)) = nowhere d.back t x
    on (in_second middle left test z v u) = last u.deep where
      last : EitherDeep (IsExcessBehind OpensSimple X) Nowhere u.back t → Excess xs t
      last (other_deep x) = nowhere u.back t x
      last (one_deep x) = in_expression (record {
        front = word ∷ opened ∷ (start ++ (d.token ∷ (middle ++ (u.token ∷ x.front))));
        inner = x.inner;
        split = e ∙ ap (λ ys. word ∷ opened ∷ ys) (b ∙ (ap (λ ys. start ++ ys) (d.split ∙ ap (λ ys. d.token ∷ ys) (z ∙ (ap (λ ys. middle ++ ys) (u.split ∙ ap (λ ys. u.token ∷ ys) x.split)
            ∙ sym (append_assoc middle (u.token ∷ x.front) x.inner)))) ∙ sym (append_assoc start (d.token ∷ (middle ++ (u.token ∷ x.front))) x.inner)));
        opens = in_for_last word opened start d.token middle u.token x.front refl k o (for_first start s w) m (maybe_whole middle test v) (symbol_token (codes ";") u.token u.value u.passes) x.opens;
        excess = x.excess;
      })

  for_deeper : (xs : List Token) (t : Token) → ForDeep xs t → Excess xs t
  for_deeper xs t (in_first d) = for_parts_deeper xs d.deep.inner d.token d.deep.opened t (d.split ∙ ap (λ ys. d.token ∷ ys) d.deep.split) (keyword_token (codes "for") d.token d.value d.passes) d.deep.opens d.deep.deep
  for_deeper xs t (in_second front back h e w d) = let p = parts_of front h w in
      under_for p.t p.opened p.start p.first_mark p.middle p.second_mark p.end p.closed back (for_split xs front back h e p) p.is_for p.opens (for_first p.start h.1.first p.starts) p.marks (maybe_whole p.middle h.1.test p.tests) p.marks_again
      (maybe_simple p.end h.1.last p.ends) p.closes d

  return_deeper : (xs : List Token) (t : Token) → ReturnDeep xs t → Excess xs t
  return_deeper xs t d = on d.deep where
    on : EitherDeep X Nowhere d.back t → Excess xs t
    on (one_deep x) = in_expression (record { front = d.token ∷ []; inner = d.back; split = d.split; opens = in_return d.token refl (keyword_token (codes "return") d.token d.value d.passes); excess = x })
    on (other_deep x) = nowhere d.back t x

  arguments_more : (xs : List Token) (values : List Expr) (a : Expr) (front : List Token) (comma : Token) → IsArgumentList xs values → IsComma comma → IsWhole front a → IsArgumentList (xs ++ (comma ∷ front)) (values ++ a ∷ [])
  arguments_more xs [] a front comma w c v = elim w [ ]
  arguments_more xs (b ∷ []) a front comma (last_argument w) c v = next_argument xs comma front refl c w (last_argument v)
  arguments_more xs (b ∷ more) a front comma (next_argument one m rest e d w l) c v =
      next_argument one m (rest ++ (comma ∷ front)) (ap (λ ys. ys ++ (comma ∷ front)) e ∙ append_assoc one (m ∷ rest) (comma ∷ front)) d w (arguments_more rest more a front comma l c v)

  -- a list of values is printed, and then a comma
  printed_more : (xs ys : List Token) (values : List Expr) (a : Expr) (front : List Token) (comma : Token) → IsPrinted xs values → xs ++ (comma ∷ front) ≡ ys → IsComma comma → IsWhole front a → IsPrinted ys (values ++ a ∷ [])
  printed_more xs ys [] a front comma (nothing_printed z) e c w = values_printed comma front (sym e ∙ ap (λ zs. zs ++ (comma ∷ front)) z) c (last_argument w)
  printed_more xs ys values a front comma (values_printed m back z d l) e c w =
      values_printed m (back ++ (comma ∷ front)) (sym e ∙ ap (λ zs. zs ++ (comma ∷ front)) z) d (arguments_more back values a front comma l c w)

  printed_place : (xs before rest : List Token) (values : List Expr) (word opened string : Token) (bytes : List ℕ) (t : Token) → xs ≡ word ∷ opened ∷ string ∷ (before ++ rest) → IsKeyword (codes "printf") word → IsOpen opened
      → string.what ≡ kinds.Text bytes → IsPrinted before values → FollowDeep IsWhole X rest t → Excess xs t
  printed_place xs before rest values word opened string bytes t e k o b w (here m front z c x) = in_expression (record {
    front = word ∷ opened ∷ string ∷ (before ++ (m ∷ []));
    inner = front;
    split = e ∙ ap (λ ys. word ∷ opened ∷ string ∷ ys) (ap (λ ys. before ++ ys) z ∙ sym (append_assoc before (m ∷ []) front));
    opens = in_print word opened string bytes before m refl k o b w c;
    excess = x;
  })
  printed_place xs before rest values word opened string bytes t e k o b w (there a m front back z c v d) =
      printed_place xs (before ++ (m ∷ front)) back (values ++ a ∷ []) word opened string bytes t
      (e ∙ ap (λ ys. word ∷ opened ∷ string ∷ ys) (ap (λ ys. before ++ ys) z ∙ sym (append_assoc before (m ∷ front) back))) k o b (printed_more before (before ++ (m ∷ front)) values a front m w refl c v) d

  print_deeper : (xs : List Token) (t : Token) → PrintDeep xs t → Excess xs t
  print_deeper xs t d = on d.deep.deep.deep where
    string : HeadedDeep text_at PrintedDeep d.deep.inner t
    string = d.deep.deep

    on : PrintedDeep string.back t → Excess xs t
    on (in_first f) = printed_place xs [] string.back [] d.token d.deep.opened string.token string.value t (d.split ∙ ap (λ ys. d.token ∷ ys) (d.deep.split ∙ ap (λ ys. d.deep.opened ∷ ys) string.split))
        (keyword_token (codes "printf") d.token d.value d.passes) d.deep.opens (text_is string.token.what string.value string.passes) (nothing_printed refl) f
    on (in_second front back values e w h) = nowhere h.back t h.deep

  jump_deeper : (word : List ℕ) (xs : List Token) (t : Token) → JumpDeep word xs t → Excess xs t
  jump_deeper word xs t d = nowhere d.back t d.deep

  task_loop_deeper : (xs front back : List Token) (m : TaskMark) (t : Token) → xs ≡ front ++ back → IsPragma front (directive.TaskLoop m) → TaskLoopDeep m back t → Excess xs t
  task_loop_deeper xs front back m t e p (in_first x) = in_expression (record {
    front = front ++ x.front;
    inner = x.inner;
    split = e ∙ (ap (λ ys. front ++ ys) x.split ∙ sym (append_assoc front x.front x.inner));
    opens = in_loop_head front x.front refl p x.opens;
    excess = x.excess;
  })
  task_loop_deeper xs front back m t e p (in_second middle rest h z l d) = under_task_loop front middle rest (e ∙ ap (λ ys. front ++ ys) z) p l d

  directed_deeper : (xs front back : List Token) (d : Directive) (line : ℕ) (t : Token) → xs ≡ front ++ back → LinedPragma front (d, line) → DirectedDeep (d, line) back t → Excess xs t
  directed_deeper xs front back (directive.Task m) line t e w x = under_task front back e w.is x
  directed_deeper xs front back (directive.TaskLoop m) line t e w x = task_loop_deeper xs front back m t e w.is x
  directed_deeper xs front back (directive.TaskWait sections) line t e w x = nowhere back t x
  directed_deeper xs front back (directive.Release clauses) line t e w x = nowhere back t x

  pragma_deeper : (xs : List Token) (t : Token) → PragmaDeep xs t → Excess xs t
  pragma_deeper xs t (in_first x) = in_expression (record { front = x.front; inner = x.inner; split = x.split; opens = in_pragma x.opens; excess = x.excess })
  pragma_deeper xs t (in_second front back d e w x) = directed_deeper xs front back d.0 d.1 t e w x

  all_deeper : (xs : List Token) (t : Token) → AllDeep xs t → Excess xs t
  all_deeper xs t (one_deep d) = IsStatementExcess.in_block d.token d.back d.split (symbol_token (codes "{") d.token d.value d.passes) d.deep
  all_deeper xs t (other_deep (one_deep d)) = nowhere xs t d
  all_deeper xs t (other_deep (other_deep (one_deep d))) = simple_deeper xs t d
  all_deeper xs t (other_deep (other_deep (other_deep (one_deep d)))) = if_deeper xs t d
  all_deeper xs t (other_deep (other_deep (other_deep (other_deep (one_deep d))))) = while_deeper xs t d
  all_deeper xs t (other_deep (other_deep (other_deep (other_deep (other_deep (one_deep d)))))) = for_deeper xs t d
  all_deeper xs t (other_deep (other_deep (other_deep (other_deep (other_deep (other_deep (one_deep d))))))) = return_deeper xs t d
  all_deeper xs t (other_deep (other_deep (other_deep (other_deep (other_deep (other_deep (other_deep (one_deep d)))))))) = jump_deeper (codes "break") xs t d
  all_deeper xs t (other_deep (other_deep (other_deep (other_deep (other_deep (other_deep (other_deep (other_deep (one_deep d))))))))) = jump_deeper (codes "continue") xs t d
  all_deeper xs t (other_deep (other_deep (other_deep (other_deep (other_deep (other_deep (other_deep (other_deep (other_deep (one_deep d)))))))))) = print_deeper xs t d
  all_deeper xs t (other_deep (other_deep (other_deep (other_deep (other_deep (other_deep (other_deep (other_deep (other_deep (other_deep d)))))))))) = pragma_deeper xs t d

  -- a limit of the grammar is one at which reading stops
  in_head : (s : List ℕ) (xs before inner : List Token) (w opened : Token) (t : Token) → xs ≡ before ++ inner → before ≡ w ∷ opened ∷ [] → IsKeyword s w → IsOpen opened → X inner t → HeadDeep s xs t
  in_head s xs before inner w opened t e b k o x = record {
    token = w;
    back = opened ∷ inner;
    value = w.line;
    split = e ∙ ap (λ ys. ys ++ inner) b;
    passes = keyword_value s w k;
    deep = record { opened = opened; inner = inner; split = refl; opens = o; deep = x };
  }

  in_for_parts : (xs before inner rest : List Token) (w opened : Token) (t : Token) → xs ≡ before ++ inner → before ≡ w ∷ opened ∷ rest → IsKeyword (codes "for") w → IsOpen opened → ForPartsDeep (rest ++ inner) t → AllDeep xs t
  in_for_parts xs before inner rest w opened t e b k o d = other_deep (other_deep (other_deep (other_deep (other_deep (one_deep (in_first (record {
    token = w;
    back = opened ∷ (rest ++ inner);
    value = w.line;
    split = e ∙ ap (λ ys. ys ++ inner) b;
    passes = keyword_value (codes "for") w k;
    deep = record { opened = opened; inner = rest ++ inner; split = refl; opens = o; deep = d };
  })))))))

  list_place : (m : Token) (xs : List Token) (values : List Expr) (comma : Token) (inner : List Token) (t : Token) → IsComma m → IsArgumentList xs values → IsComma comma → X inner t → FollowDeep IsWhole X (m ∷ (xs ++ (comma ∷ inner))) t
  list_place m xs [] comma inner t d w c x = elim w [ ]
  list_place m xs (a ∷ []) comma inner t d (last_argument w) c x = there a m xs (comma ∷ inner) refl d w (here comma inner refl c x)
  list_place m xs (a ∷ more) comma inner t d (next_argument one k rest e l w v) c x =
      there a m one (k ∷ (rest ++ (comma ∷ inner))) (ap (λ ys. m ∷ (ys ++ (comma ∷ inner))) e ∙ ap (λ ys. m ∷ ys) (append_assoc one (k ∷ rest) (comma ∷ inner))) d w (list_place k rest more comma inner t l v c x)

  printed_at : (xs : List Token) (values : List Expr) (comma : Token) (inner : List Token) (t : Token) → IsPrinted xs values → IsComma comma → X inner t → FollowDeep IsWhole X (xs ++ (comma ∷ inner)) t
  printed_at xs [] comma inner t (nothing_printed z) c x = here comma inner (ap (λ ys. ys ++ (comma ∷ inner)) z) c x
  printed_at xs values comma inner t (values_printed m back z d w) c x = subst (λ ys. FollowDeep IsWhole X (ys ++ (comma ∷ inner)) t) (sym z) (list_place m back values comma inner t d w c x)

  opens_upper : (xs before inner : List Token) (t : Token) → xs ≡ before ++ inner → X inner t → OpensStatement before → AllDeep xs t
  opens_upper xs before inner t e x (OpensStatement.in_simple o) = other_deep (other_deep (one_deep (record { front = before; inner = inner; split = e; opens = o; excess = x })))
  opens_upper xs before inner t e x (in_if_test w opened b k o) = other_deep (other_deep (other_deep (one_deep (in_first (in_head (codes "if") xs before inner w opened t e b k o x)))))
  opens_upper xs before inner t e x (in_while_test w opened b k o) = other_deep (other_deep (other_deep (other_deep (one_deep (in_first (in_head (codes "while") xs before inner w opened t e b k o x))))))
  opens_upper xs before inner t e x (in_for_declaration w opened front b k o d) =
      in_for_parts xs before inner front w opened t e b k o (in_first (one_deep (record { front = front; inner = inner; split = refl; opens = d; excess = x })))
  opens_upper xs before inner t e x (in_for_first w opened front b k o d) =
      in_for_parts xs before inner front w opened t e b k o (in_first (other_deep (one_deep (record { front = front; inner = inner; split = refl; opens = d; excess = x }))))
  opens_upper xs before inner t e x (in_for_test {first = f} w opened start m b k o a c) =
      in_for_parts xs before inner (start ++ (m ∷ [])) w opened t e b k o
      (in_second start (m ∷ inner) f (append_assoc start (m ∷ []) inner) (first_for start f a) (record { token = m; back = inner; value = m.line; split = refl; passes = symbol_value (codes ";") m c; deep = in_first (one_deep x) }))
  opens_upper xs before inner t e x (in_for_last {first = f} {test = test} w opened start m middle other front b k o a c v d l) =
      in_for_parts xs before inner (start ++ (m ∷ (middle ++ (other ∷ front)))) w opened t e b k o
      (in_second start (m ∷ (middle ++ (other ∷ (front ++ inner)))) f
      (append_assoc start (m ∷ (middle ++ (other ∷ front))) inner ∙ ap (λ ys. start ++ (m ∷ ys)) (append_assoc middle (other ∷ front) inner)) (first_for start f a)
      (record {
        token = m;
        back = middle ++ (other ∷ (front ++ inner));
        value = m.line;
        split = refl;
        passes = symbol_value (codes ";") m c;
        deep = in_second middle (other ∷ (front ++ inner)) test refl (whole_maybe middle test v) (record {
          token = other;
          back = front ++ inner;
          value = other.line;
          split = refl;
          passes = symbol_value (codes ";") other d;
          deep = one_deep (record { front = front; inner = inner; split = refl; opens = l; excess = x });
        });
      }))
  opens_upper xs before inner t e x (in_return w b k) =
      other_deep (other_deep (other_deep (other_deep (other_deep (other_deep (one_deep (record { token = w; back = inner; value = w.line; split = e ∙ ap (λ ys. ys ++ inner) b; passes = keyword_value (codes "return") w k; deep = one_deep x })))))))
  opens_upper xs before inner t e x (in_print {values = values} w opened string bytes printed comma b k o s p c) =
      other_deep (other_deep (other_deep (other_deep (other_deep (other_deep (other_deep (other_deep (other_deep (one_deep (record {
        token = w;
        back = opened ∷ string ∷ ((printed ++ (comma ∷ [])) ++ inner);
        value = w.line;
        split = e ∙ ap (λ ys. ys ++ inner) b;
        passes = keyword_value (codes "printf") w k;
        deep = record {
          opened = opened;
          inner = string ∷ ((printed ++ (comma ∷ [])) ++ inner);
          split = refl;
          opens = o;
          deep = record {
            token = string;
            back = (printed ++ (comma ∷ [])) ++ inner;
            value = bytes;
            split = refl;
            passes = text_value string bytes s;
            deep = in_first (subst (λ ys. FollowDeep IsWhole X ys t) (sym (append_assoc printed (comma ∷ []) inner)) (printed_at printed values comma inner t p c x));
          };
        };
      }))))))))))
  opens_upper xs before inner t e x (in_pragma o) =
      other_deep (other_deep (other_deep (other_deep (other_deep (other_deep (other_deep (other_deep (other_deep (other_deep (in_first (record { front = before; inner = inner; split = e; opens = o; excess = x })))))))))))
  opens_upper xs before inner t e x (in_loop_head {mark = m} front back b p o) =
      other_deep (other_deep (other_deep (other_deep (other_deep (other_deep (other_deep (other_deep (other_deep (other_deep (in_second front (back ++ inner) (directive.TaskLoop m, first_line front) (e ∙ (ap (λ ys. ys ++ inner) b ∙ append_assoc front back inner)) (record { is = p; at = refl })
      (in_first (record { front = back; inner = inner; split = refl; opens = o; excess = x }))))))))))))

  all_upper : (xs : List Token) (t : Token) → Excess xs t → AllDeep xs t
  all_upper xs t (in_expression x) = opens_upper xs x.front x.inner t x.split x.excess x.opens
  all_upper xs t (IsStatementExcess.in_block opened front e b d) = one_deep (record { token = opened; back = front; value = opened.line; split = e; passes = symbol_value (codes "{") opened b; deep = d })
  all_upper xs t (under_if {test = test} w opened inner closed front e k o v c d) =
      other_deep (other_deep (other_deep (one_deep (in_second (w ∷ opened ∷ (inner ++ (closed ∷ []))) front (w.line, test) (split_of_head xs w opened inner closed front e) (head_of (codes "if") w opened inner closed test k o c v) (in_one d)))))
  all_upper xs t (under_else {test = test} {s = s} w opened inner closed middle other front e k o v c u l d) =
      other_deep (other_deep (other_deep (one_deep (in_second (w ∷ opened ∷ (inner ++ (closed ∷ []))) (middle ++ (other ∷ front)) (w.line, test) (split_of_head xs w opened inner closed (middle ++ (other ∷ front)) e)
      (head_of (codes "if") w opened inner closed test k o c v) (in_other s middle other front refl u (is_otherwise other l) d)))))
  all_upper xs t (under_while {test = test} w opened inner closed front e k o v c d) =
      other_deep (other_deep (other_deep (other_deep (one_deep (in_second (w ∷ opened ∷ (inner ++ (closed ∷ []))) front (w.line, test) (split_of_head xs w opened inner closed front e) (head_of (codes "while") w opened inner closed test k o c v) d)))))
  all_upper xs t (under_for {first = f} {test = test} {last = l} w opened start m middle other end closed front e k o a c v z u b d) =
      other_deep (other_deep (other_deep (other_deep (other_deep (one_deep (in_second (w ∷ opened ∷ (start ++ (m ∷ (middle ++ (other ∷ (end ++ (closed ∷ []))))))) front (w.line, record { first = f; test = test; last = l })
      (split_of_for xs w opened start m middle other end closed front e) (for_head_of f test l w opened start m middle other end closed k o c z b a v u) d))))))
  all_upper xs t (under_task {mark = m} front back e p d) =
      other_deep (other_deep (other_deep (other_deep (other_deep (other_deep (other_deep (other_deep (other_deep (other_deep (in_second front back (directive.Task m, first_line front) e (record { is = p; at = refl }) d))))))))))
  all_upper xs t (under_task_loop {mark = m} {head = h} front middle back e p l d) =
      other_deep (other_deep (other_deep (other_deep (other_deep (other_deep (other_deep (other_deep (other_deep (other_deep (in_second front (middle ++ back) (directive.TaskLoop m, first_line front) e (record { is = p; at = refl }) (in_second middle back h refl l d)))))))))))

  -- a statement is read exactly
  pub statement_ending : Ending otherwise (read_statement expression pragma items sub) IsAnyStmt (IsStmt false) (IsStatementExcess X (suc n))
  statement_ending = ending_as otherwise into_all (λ xs s w. out_all w.ends_open xs s w.is) into_closed out_closed all_deeper all_upper (forms.all_forms part first directed first_directed inside brace_ends below first_below).ending

  pub begun_statement : Begun (read_statement expression pragma items sub) begins_statement
  begun_statement = (forms.all_forms part first directed first_directed inside brace_ends below first_below).first
