-- What is read of the forms of statements are the statements of the grammar, and the other way round.
use Rattle.std.proofs.lemmas.List.{append-nil}
use Rattle.std.proofs.Common.{◌≡◌, ℕ, Bool, true, false, List, [], ◌∷◌, ◌++◌, refl, sym, ap, ◌∙◌, subst, append_assoc, Option, Some, None}
use Rattle.std.specs.Prelude.{codes}
use Rattle.oss_syntax.specs.declared.token.Token.{Token}
use Rattle.oss_syntax.specs.declared.token.TokenKind.{TokenKind}
use Rattle.oss_syntax.specs.declared.token.TokenKind.TheVariants as kinds
use Rattle.oss_syntax.specs.declared.tree.expr.Expr.{Expr}
use Rattle.oss_syntax.specs.declared.tree.pragma.Directive.{Directive}
use Rattle.oss_syntax.specs.declared.tree.pragma.Clause.{Clause}
use Rattle.oss_syntax.specs.declared.tree.pragma.Directive.TheVariants as directive
use Rattle.oss_syntax.specs.declared.tree.pragma.Section.{Section}
use Rattle.oss_syntax.specs.declared.tree.pragma.TaskMark.{TaskMark}
use Rattle.oss_syntax.specs.declared.tree.stmt.LoopHead.{LoopHead}
use Rattle.oss_syntax.specs.declared.tree.stmt.Stmt.{Stmt}
use Rattle.oss_syntax.specs.declared.tree.stmt.StmtKind.TheVariants as stmts
use Rattle.oss_grammar.specs.Expressions.{IsWhole, IsArgumentList}
use Rattle.oss_grammar.specs.Grammar.{Mapped, Either}
use Rattle.oss_grammar.specs.Grammar.Either.{one_way, other_way}
use Rattle.oss_grammar.specs.Levels.{IsExcessBehind, OpensPragma}
use Rattle.oss_grammar.specs.Pragmas.{IsPragma}
use Rattle.oss_grammar.specs.Reading.{Reader, has, never}
use Rattle.oss_grammar.specs.SimpleStatements.{IsSimple, IsDeclaration, first_line}
use Rattle.oss_grammar.specs.StatementLimits.{IsStatementExcess, IsItemsExcess}
use Rattle.oss_grammar.specs.Statements.{IsStmt, IsAnyStmt, IsItems, IsMaybeWhole, IsMaybeSimple, IsForFirst, IsLoopHead, IsPrinted}
use Rattle.oss_grammar.specs.Statements.IsStmt.{block, empty, simple, if_alone, if_else, while_loop, for_loop, return_jump, break_jump, continue_jump, print, task, task_loop, task_wait, release}
use Rattle.oss_grammar.specs.Statements.IsMaybeWhole.{no_expression, some_expression}
use Rattle.oss_grammar.specs.Statements.IsMaybeSimple.{no_simple, some_simple}
use Rattle.oss_grammar.specs.Statements.IsForFirst.{declared_first, other_first}
use Rattle.oss_grammar.specs.Statements.IsPrinted.{nothing_printed, values_printed}
use Rattle.oss_grammar.specs.Expressions.IsArgumentList.{last_argument, next_argument}
use Rattle.oss_grammar.specs.OneToken.{IsSymbol, IsKeyword, IsOpen, IsClose}
use Rattle.oss_grammar.proofs.Parts.{Exact, Begun}
use Rattle.oss_grammar.proofs.PartLemmas.{Nothing}
use Rattle.oss_expressions.specs.TokenValues.{symbol_at, start_at, begins_expression}
use Rattle.oss_expressions.proofs.ExactPairs.{symbol_line}
use Rattle.oss_expressions.proofs.TokenLemmas.{goes_on, has_keyword, symbol_token, symbol_value, keyword_token, keyword_value, keyword_line}
use Rattle.oss_expressions.proofs.ListLemmas.{Follow}
use Rattle.oss_expressions.proofs.ListLemmas.Follow.{none, some}
use Rattle.oss_parse.specs.declared.forms.ForParts.{ForParts}
use Rattle.oss_parse.specs.StatementReading.{text_in, text_at, if_of, if_else_of, break_at, continue_at, begins_statement}
use Rattle.oss_parse.proofs.BranchLemmas.{otherwise, Branches}
use Rattle.oss_parse.proofs.BranchLemmas.Branches.{one_branch, two_branches}
use Rattle.oss_parse.proofs.EndingLemmas.{Ending}
use Rattle.oss_parse.proofs.StatementForms as forms

module _ {expression : Reader Expr} {X : List Token → Token → Type 0} (part : Exact expression IsWhole X goes_on) (first : Begun expression begins_expression)
    {pragma : Reader Directive} (directed : Exact pragma IsPragma (IsExcessBehind OpensPragma X) never) (first_directed : Begun pragma (has start_at))
    {n : ℕ} {items : Reader (List Stmt)} {goes_items : Token → Bool} (inside : Exact items IsItems (IsItemsExcess X n) goes_items) (brace_ends : (t : Token) → has (symbol_at (codes "}")) t ≡ true → goes_items t ≡ false)
    {sub : Reader Stmt} (below : Ending otherwise sub IsAnyStmt (IsStmt false) (IsStatementExcess X n)) (first_below : Begun sub begins_statement) where
  abbrev BlockText : List Token → Stmt → Type 0
  BlockText = forms.BlockText part first directed first_directed inside brace_ends below first_below

  abbrev EmptyText : List Token → Stmt → Type 0
  EmptyText = forms.EmptyText part first directed first_directed inside brace_ends below first_below

  abbrev SimpleText : List Token → Stmt → Type 0
  SimpleText = forms.SimpleText part first directed first_directed inside brace_ends below first_below

  abbrev Head : List ℕ → List Token → ℕ × Expr → Type 0
  Head = forms.Head part first directed first_directed inside brace_ends below first_below

  abbrev HeadDeep : List ℕ → List Token → Token → Type 0
  HeadDeep = forms.HeadDeep part first directed first_directed inside brace_ends below first_below

  abbrev IfText : List Token → Stmt → Type 0
  IfText = forms.IfText part first directed first_directed inside brace_ends below first_below

  abbrev ClosedIf : List Token → Stmt → Type 0
  ClosedIf = forms.ClosedIf part first directed first_directed inside brace_ends below first_below

  abbrev IfDeep : List Token → Token → Type 0
  IfDeep = forms.IfDeep part first directed first_directed inside brace_ends below first_below

  abbrev WhileText : (List Token → Stmt → Type 0) → List Token → Stmt → Type 0
  WhileText = forms.WhileText part first directed first_directed inside brace_ends below first_below

  abbrev WhileDeep : List Token → Token → Type 0
  WhileDeep = forms.WhileDeep part first directed first_directed inside brace_ends below first_below

  abbrev ForHead : List Token → ℕ × ForParts → Type 0
  ForHead = forms.ForHead part first directed first_directed inside brace_ends below first_below

  abbrev ForPartsDeep : List Token → Token → Type 0
  ForPartsDeep = forms.ForPartsDeep part first directed first_directed inside brace_ends below first_below

  abbrev ForText : (List Token → Stmt → Type 0) → List Token → Stmt → Type 0
  ForText = forms.ForText part first directed first_directed inside brace_ends below first_below

  abbrev ForDeep : List Token → Token → Type 0
  ForDeep = forms.ForDeep part first directed first_directed inside brace_ends below first_below

  abbrev MaybeE : List Token → Option Expr → Type 0
  MaybeE = forms.MaybeE part first directed first_directed inside brace_ends below first_below

  abbrev ReturnText : List Token → Stmt → Type 0
  ReturnText = forms.ReturnText part first directed first_directed inside brace_ends below first_below

  abbrev ReturnDeep : List Token → Token → Type 0
  ReturnDeep = forms.ReturnDeep part first directed first_directed inside brace_ends below first_below

  abbrev JumpText : List ℕ → (ℕ × ℕ → Stmt) → List Token → Stmt → Type 0
  JumpText = forms.JumpText part first directed first_directed inside brace_ends below first_below

  abbrev JumpDeep : List ℕ → List Token → Token → Type 0
  JumpDeep = forms.JumpDeep part first directed first_directed inside brace_ends below first_below

  abbrev PrintedDeep : List Token → Token → Type 0
  PrintedDeep = forms.PrintedDeep part first directed first_directed inside brace_ends below first_below

  abbrev PrintText : List Token → Stmt → Type 0
  PrintText = forms.PrintText part first directed first_directed inside brace_ends below first_below

  abbrev PrintDeep : List Token → Token → Type 0
  PrintDeep = forms.PrintDeep part first directed first_directed inside brace_ends below first_below

  abbrev TaskLoopText : TaskMark → (List Token → Stmt → Type 0) → List Token → Stmt → Type 0
  TaskLoopText = forms.TaskLoopText part first directed first_directed inside brace_ends below first_below

  abbrev LinedPragma : List Token → Directive × ℕ → Type 0
  LinedPragma = forms.LinedPragma part first directed first_directed inside brace_ends below first_below

  abbrev DirectedText : (List Token → Stmt → Type 0) → Directive × ℕ → List Token → Stmt → Type 0
  DirectedText = forms.DirectedText part first directed first_directed inside brace_ends below first_below

  abbrev DirectedDeep : Directive × ℕ → List Token → Token → Type 0
  DirectedDeep = forms.DirectedDeep part first directed first_directed inside brace_ends below first_below

  abbrev PragmaText : (List Token → Stmt → Type 0) → List Token → Stmt → Type 0
  PragmaText = forms.PragmaText part first directed first_directed inside brace_ends below first_below

  abbrev PragmaDeep : List Token → Token → Type 0
  PragmaDeep = forms.PragmaDeep part first directed first_directed inside brace_ends below first_below

  abbrev AllText : List Token → Stmt → Type 0
  AllText = forms.AllText part first directed first_directed inside brace_ends below first_below

  abbrev ClosedText : List Token → Stmt → Type 0
  ClosedText = forms.ClosedText part first directed first_directed inside brace_ends below first_below

  abbrev AllDeep : List Token → Token → Type 0
  AllDeep = forms.AllDeep part first directed first_directed inside brace_ends below first_below

  -- what is read is a statement of the grammar
  into_block : (xs : List Token) (s : Stmt) → BlockText xs s → IsStmt false xs s
  into_block xs s w = let e = w.whole in
      subst (λ x. IsStmt false xs x) (ap (λ line. record { what = stmts.Block w.part.1.0; line = line }) (symbol_line (codes "{") e.opened w.part.0 e.opens) ∙ w.made)
      (block e.opened e.inner e.closed e.split (symbol_token (codes "{") e.opened w.part.0 e.opens) (symbol_token (codes "}") e.closed w.part.1.1 e.closes) e.inside)

  into_empty : (xs : List Token) (s : Stmt) → EmptyText xs s → IsStmt false xs s
  into_empty xs s w = subst (λ x. IsStmt false xs x) (ap (λ line. record { what = stmts.Empty; line = line }) (symbol_line (codes ";") w.whole.token w.part w.whole.passes) ∙ w.made)
      (empty w.whole.token w.whole.only (symbol_token (codes ";") w.whole.token w.part w.whole.passes))

  into_simple : (xs : List Token) (s : Stmt) → SimpleText xs s → IsStmt false xs s
  into_simple xs s w = simple w.whole.inner w.whole.closed w.whole.split (symbol_token (codes ";") w.whole.closed w.part.1 w.whole.passes) (subst (λ x. IsSimple w.whole.inner x) w.made w.whole.inside)

  pub head_split : (word : List ℕ) (xs front back : List Token) (h : ℕ × Expr) → xs ≡ front ++ back → (w : Head word front h) → xs ≡ w.token ∷ w.behind.opened ∷ (w.behind.inner ++ (w.behind.closed ∷ back))
  head_split word xs front back h e w =
      e ∙ (ap (λ ys. ys ++ back) (w.split ∙ ap (λ ys. w.token ∷ ys) w.behind.split) ∙ ap (λ ys. w.token ∷ w.behind.opened ∷ ys) (append_assoc w.behind.inner (w.behind.closed ∷ []) back))

  into_while : (o : Bool) (xs : List Token) (s : Stmt) → WhileText (IsStmt o) xs s → IsStmt o xs s
  into_while o xs s w = let h = w.before in
      subst (λ x. IsStmt o xs x) (ap (λ line. record { what = stmts.While w.value.1 w.behind.part; line = line }) (keyword_line (codes "while") h.token w.value.0 h.passes) ∙ w.behind.made)
      (while_loop h.token h.behind.opened h.behind.inner h.behind.closed w.back (head_split (codes "while") xs w.front w.back w.value w.split h) (keyword_token (codes "while") h.token w.value.0 h.passes)
      h.behind.opens h.behind.closes h.behind.inside w.behind.whole)

  if_alone_of : (o : Bool) (xs front back : List Token) (h : ℕ × Expr) (s e : Stmt) → xs ≡ front ++ back → Head (codes "if") front h → if_of h s ≡ e → IsStmt o back s → IsStmt true xs e
  if_alone_of o xs front back h s e split w made v =
      subst (λ x. IsStmt true xs x) (ap (λ line. record { what = stmts.If h.1 s None; line = line }) (keyword_line (codes "if") w.token h.0 w.passes) ∙ made)
      (if_alone w.token w.behind.opened w.behind.inner w.behind.closed back (head_split (codes "if") xs front back h split w) (keyword_token (codes "if") w.token h.0 w.passes) w.behind.opens w.behind.closes w.behind.inside v)

  if_else_is : (o : Bool) (xs front back : List Token) (h : ℕ × Expr) (s other e : Stmt) (middle : List Token) (mark : Token) (rest : List Token) → xs ≡ front ++ back → Head (codes "if") front h → if_else_of h s other ≡ e
      → back ≡ middle ++ (mark ∷ rest) → otherwise mark ≡ true → IsStmt false middle s → IsStmt o rest other → IsStmt o xs e
  if_else_is o xs front back h s other e middle mark rest split w made b begun v u =
      let all : xs ≡ w.token ∷ w.behind.opened ∷ (w.behind.inner ++ (w.behind.closed ∷ (middle ++ (mark ∷ rest))))
      = head_split (codes "if") xs front back h split w ∙ ap (λ ys. w.token ∷ w.behind.opened ∷ (w.behind.inner ++ (w.behind.closed ∷ ys))) b in
      subst (λ x. IsStmt o xs x) (ap (λ line. record { what = stmts.If h.1 s (Some other); line = line }) (keyword_line (codes "if") w.token h.0 w.passes) ∙ made)
      (if_else w.token w.behind.opened w.behind.inner w.behind.closed middle mark rest all (keyword_token (codes "if") w.token h.0 w.passes) w.behind.opens w.behind.closes (has_keyword (codes "else") mark begun) w.behind.inside v u)

  into_if : (xs : List Token) (s : Stmt) → IfText xs s → IsAnyStmt xs s
  into_if xs s w = on w.behind where
    on : Branches IsAnyStmt (IsStmt false) w.value w.back s → IsAnyStmt xs s
    on (one_branch b made v) = record { ends_open = true; is = if_alone_of v.ends_open xs w.front w.back w.value b s w.split w.before made v.is }
    on (two_branches b other front mark back made split begun v u) =
        record { ends_open = u.ends_open; is = if_else_is u.ends_open xs w.front w.back w.value b other s front mark back w.split w.before made split begun v u.is }

  into_closed_if : (xs : List Token) (s : Stmt) → ClosedIf xs s → IsStmt false xs s
  into_closed_if xs s w = let b = w.behind in if_else_is false xs w.front w.back w.value b.first b.other s b.front b.mark b.back w.split w.before b.made b.split b.marks b.before b.behind

  pub maybe_whole : (xs : List Token) (e : Option Expr) → MaybeE xs e → IsMaybeWhole xs e
  maybe_whole xs e (one_way w) = subst (λ x. IsMaybeWhole xs x) w.made (some_expression w.whole)
  maybe_whole xs e (other_way w) = subst (λ x. IsMaybeWhole xs x) w.same (no_expression w.nothing)

  abbrev MaybeS : List Token → Option Stmt → Type 0
  MaybeS = Either (Mapped Some IsSimple) (Nothing None)

  pub maybe_simple : (xs : List Token) (s : Option Stmt) → MaybeS xs s → IsMaybeSimple xs s
  maybe_simple xs s (one_way w) = subst (λ x. IsMaybeSimple xs x) w.made (some_simple w.whole)
  maybe_simple xs s (other_way w) = subst (λ x. IsMaybeSimple xs x) w.same (no_simple w.nothing)

  abbrev First : List Token → Option Stmt → Type 0
  First = Either (Mapped Some IsDeclaration) MaybeS

  pub for_first : (xs : List Token) (s : Option Stmt) → First xs s → IsForFirst xs s
  for_first xs s (one_way w) = subst (λ x. IsForFirst xs x) w.made (declared_first w.whole)
  for_first xs s (other_way w) = other_first (maybe_simple xs s w)

  -- the tokens of the head of a `for`
  pub record Parts (front : List Token) (h : ℕ × ForParts) : Type 0 where
    pub t : Token
    pub opened : Token
    pub start : List Token
    pub first_mark : Token
    pub middle : List Token
    pub second_mark : Token
    pub end : List Token
    pub closed : Token
    pub split : front ≡ t ∷ opened ∷ (start ++ (first_mark ∷ (middle ++ (second_mark ∷ (end ++ (closed ∷ []))))))
    pub is_for : IsKeyword (codes "for") t
    pub at : t.line ≡ h.0
    pub opens : IsOpen opened
    pub marks : IsSymbol (codes ";") first_mark
    pub marks_again : IsSymbol (codes ";") second_mark
    pub closes : IsClose closed
    pub starts : First start h.1.first
    pub tests : MaybeE middle h.1.test
    pub ends : MaybeS end h.1.last

  pub parts_of : (front : List Token) (h : ℕ × ForParts) → ForHead front h → Parts front h
  parts_of front h w =
      let inner = w.behind.behind in let both = inner.whole in let rest = both.behind in let middle = rest.behind in let last = middle.behind in let end = last.behind in record {
        t = w.token;
        opened = w.behind.mark;
        start = both.front;
        first_mark = rest.token;
        middle = middle.front;
        second_mark = last.token;
        end = end.inner;
        closed = end.closed;
        split = w.split ∙ ap (λ ys. w.token ∷ ys) (w.behind.split ∙ ap (λ ys. w.behind.mark ∷ ys) (both.split ∙ ap (λ ys. both.front ++ ys) (rest.split
            ∙ ap (λ ys. rest.token ∷ ys) (middle.split ∙ ap (λ ys. middle.front ++ ys) (last.split ∙ ap (λ ys. last.token ∷ ys) end.split)))));
        is_for = keyword_token (codes "for") w.token h.0 w.passes;
        at = keyword_line (codes "for") w.token h.0 w.passes;
        opens = w.behind.marks;
        marks = symbol_token (codes ";") rest.token inner.part.1.0 rest.passes;
        marks_again = symbol_token (codes ";") last.token inner.part.1.1.1.0 last.passes;
        closes = symbol_token (codes ")") end.closed inner.part.1.1.1.1.1 end.passes;
        starts = subst (λ (q : ForParts). First both.front q.first) inner.made both.before;
        tests = subst (λ (q : ForParts). MaybeE middle.front q.test) inner.made middle.before;
        ends = subst (λ (q : ForParts). MaybeS end.inner q.last) inner.made end.inside;
      }

  pub for_split : (xs front back : List Token) (h : ℕ × ForParts) → xs ≡ front ++ back → (w : Parts front h)
      → xs ≡ w.t ∷ w.opened ∷ (w.start ++ (w.first_mark ∷ (w.middle ++ (w.second_mark ∷ (w.end ++ (w.closed ∷ back))))))
  for_split xs front back h e w =
      e ∙ (ap (λ ys. ys ++ back) w.split
      ∙ ap (λ ys. w.t ∷ w.opened ∷ ys) (append_assoc w.start (w.first_mark ∷ (w.middle ++ (w.second_mark ∷ (w.end ++ (w.closed ∷ []))))) back
      ∙ ap (λ ys. w.start ++ (w.first_mark ∷ ys)) (append_assoc w.middle (w.second_mark ∷ (w.end ++ (w.closed ∷ []))) back
      ∙ ap (λ ys. w.middle ++ (w.second_mark ∷ ys)) (append_assoc w.end (w.closed ∷ []) back))))

  into_for : (o : Bool) (xs : List Token) (s : Stmt) → ForText (IsStmt o) xs s → IsStmt o xs s
  into_for o xs s w = let p = parts_of w.front w.value w.before in
      subst (λ x. IsStmt o xs x) (ap (λ line. record { what = stmts.For w.value.1.first w.value.1.test w.value.1.last w.behind.part; line = line }) p.at ∙ w.behind.made)
      (for_loop p.t p.opened p.start p.first_mark p.middle p.second_mark p.end p.closed w.back (for_split xs w.front w.back w.value w.split p) p.is_for p.opens p.marks p.marks_again p.closes
      (for_first p.start w.value.1.first p.starts) (maybe_whole p.middle w.value.1.test p.tests) (maybe_simple p.end w.value.1.last p.ends) w.behind.whole)

  into_return : (xs : List Token) (s : Stmt) → ReturnText xs s → IsStmt false xs s
  into_return xs s w = let e = w.whole in
      subst (λ x. IsStmt false xs x) (ap (λ line. record { what = stmts.Return w.part.1.0; line = line }) (keyword_line (codes "return") e.opened w.part.0 e.opens) ∙ w.made)
      (return_jump e.opened e.inner e.closed e.split (keyword_token (codes "return") e.opened w.part.0 e.opens) (symbol_token (codes ";") e.closed w.part.1.1 e.closes) (maybe_whole e.inner w.part.1.0 e.inside))

  into_break : (xs : List Token) (s : Stmt) → JumpText (codes "break") break_at xs s → IsStmt false xs s
  into_break xs s w = let e = w.whole in
      subst (λ x. IsStmt false xs x) (ap (λ line. record { what = stmts.Break; line = line }) (keyword_line (codes "break") e.token w.part.0 e.passes) ∙ w.made)
      (break_jump e.token e.behind.token (e.split ∙ ap (λ ys. e.token ∷ ys) e.behind.only) (keyword_token (codes "break") e.token w.part.0 e.passes) (symbol_token (codes ";") e.behind.token w.part.1 e.behind.passes))

  into_continue : (xs : List Token) (s : Stmt) → JumpText (codes "continue") continue_at xs s → IsStmt false xs s
  into_continue xs s w = let e = w.whole in
      subst (λ x. IsStmt false xs x) (ap (λ line. record { what = stmts.Continue; line = line }) (keyword_line (codes "continue") e.token w.part.0 e.passes) ∙ w.made)
      (continue_jump e.token e.behind.token (e.split ∙ ap (λ ys. e.token ∷ ys) e.behind.only) (keyword_token (codes "continue") e.token w.part.0 e.passes) (symbol_token (codes ";") e.behind.token w.part.1 e.behind.passes))

  followed_list : (xs front back : List Token) (a : Expr) (more : List Expr) → xs ≡ front ++ back → IsWhole front a → Follow IsWhole back more → IsArgumentList xs (a ∷ more)
  followed_list xs front back a [] e w (none z) = last_argument (subst (λ ys. IsWhole ys a) (sym (e ∙ (ap (λ ys. front ++ ys) z ∙ append-nil front))) w)
  followed_list xs front back a (b ∷ more) e w (some comma middle rest z c v u) = next_argument front comma (middle ++ rest) (e ∙ ap (λ ys. front ++ ys) z) c w (followed_list (middle ++ rest) middle rest b more refl v u)

  printed_is : (xs : List Token) (values : List Expr) → Follow IsWhole xs values → IsPrinted xs values
  printed_is xs [] (none e) = nothing_printed e
  printed_is xs (a ∷ more) (some comma front back e c w v) = values_printed comma (front ++ back) e c (followed_list (front ++ back) front back a more refl w v)

  pub text_is : (k : TokenKind) (bytes : List ℕ) → text_in k ≡ Some bytes → k ≡ kinds.Text bytes
  text_is (kinds.Text w) bytes e = ap kinds.Text (some_is w bytes e) where
    some_is : (a b : List ℕ) → Some a ≡ Some b → a ≡ b
    some_is a b e = cc
  text_is (kinds.Name w) bytes e = absurd (cc)
  text_is (kinds.Symbol w) bytes e = absurd (cc)
  text_is (kinds.Keyword w) bytes e = absurd (cc)
  text_is (kinds.Number v u) bytes e = absurd (cc)
  text_is kinds.PragmaOss bytes e = absurd (cc)
  text_is kinds.PragmaEnd bytes e = absurd (cc)
  text_is kinds.Directive bytes e = absurd (cc)

  into_print : (xs : List Token) (s : Stmt) → PrintText xs s → IsStmt false xs s
  into_print xs s w =
      let h = w.whole in let b = h.behind in let string = b.behind in let printed = string.behind in let both = printed.whole in let end = both.behind in
      let all : xs ≡ h.token ∷ b.mark ∷ string.token ∷ (both.front ++ (end.token ∷ end.behind.token ∷ []))
      = h.split ∙ ap (λ ys. h.token ∷ ys) (b.split ∙ ap (λ ys. b.mark ∷ ys) (string.split ∙ ap (λ ys. string.token ∷ ys) (both.split ∙ ap (λ ys. both.front ++ ys) (end.split ∙ ap (λ ys. end.token ∷ ys) end.behind.only)))) in
      subst (λ x. IsStmt false xs x) (ap (λ line. record { what = stmts.Print w.part.1.0 w.part.1.1; line = line }) (keyword_line (codes "printf") h.token w.part.0 h.passes) ∙ w.made)
      (print h.token b.mark string.token w.part.1.0 both.front end.token end.behind.token all (keyword_token (codes "printf") h.token w.part.0 h.passes) b.marks (text_is string.token.what w.part.1.0 string.passes)
      (symbol_token (codes ")") end.token printed.part.1.0 end.passes) (symbol_token (codes ";") end.behind.token printed.part.1.1 end.behind.passes)
      (subst (λ vs. IsPrinted both.front vs) printed.made (printed_is both.front printed.part.0 both.before)))

  into_task_loop : (o : Bool) (xs front back : List Token) (m : TaskMark) (s : Stmt) → xs ≡ front ++ back → IsPragma front (directive.TaskLoop m) → TaskLoopText m (IsStmt o) back s → IsStmt o xs s
  into_task_loop o xs front back m s e p w = subst (λ x. IsStmt o xs x) w.behind.made (task_loop front w.front w.back (e ∙ ap (λ ys. front ++ ys) w.split) p w.before w.behind.whole)

  task_loop_any : (xs front back : List Token) (m : TaskMark) (s : Stmt) → xs ≡ front ++ back → IsPragma front (directive.TaskLoop m) → TaskLoopText m IsAnyStmt back s → IsAnyStmt xs s
  task_loop_any xs front back m s e p w = let v = w.behind.whole in record {
    ends_open = v.ends_open;
    is = into_task_loop v.ends_open xs front back m s e p (record { front = w.front; back = w.back; value = w.value; split = w.split; before = w.before; behind = record { part = w.behind.part; made = w.behind.made; whole = v.is } });
  }

  directed_any : (xs front back : List Token) (d : Directive) (line : ℕ) (s : Stmt) → xs ≡ front ++ back → LinedPragma front (d, line) → DirectedText IsAnyStmt (d, line) back s → IsAnyStmt xs s
  directed_any xs front back (directive.Task mark) line s e w v = record { ends_open = v.whole.ends_open; is = subst (λ x. IsStmt v.whole.ends_open xs x) v.made (task front back e w.is v.whole.is) }
  directed_any xs front back (directive.TaskLoop mark) line s e w v = task_loop_any xs front back mark s e w.is v
  directed_any xs front back (directive.TaskWait sections) line s e w v = let all : xs ≡ front = e ∙ (ap (λ ys. front ++ ys) v.nothing ∙ append-nil front) in record {
    ends_open = false;
    is = subst (λ ys. IsStmt false ys s) (sym all) (subst (λ x. IsStmt false front x) (ap (λ line. record { what = stmts.TaskWait sections; line = line }) w.at ∙ v.same) (task_wait w.is));
  }
  directed_any xs front back (directive.Release clauses) line s e w v = let all : xs ≡ front = e ∙ (ap (λ ys. front ++ ys) v.nothing ∙ append-nil front) in record {
    ends_open = false;
    is = subst (λ ys. IsStmt false ys s) (sym all) (subst (λ x. IsStmt false front x) (ap (λ line. record { what = stmts.Release clauses; line = line }) w.at ∙ v.same) (release w.is));
  }

  directed_closed : (xs front back : List Token) (d : Directive) (line : ℕ) (s : Stmt) → xs ≡ front ++ back → LinedPragma front (d, line) → DirectedText (IsStmt false) (d, line) back s → IsStmt false xs s
  directed_closed xs front back (directive.Task mark) line s e w v = subst (λ x. IsStmt false xs x) v.made (task front back e w.is v.whole)
  directed_closed xs front back (directive.TaskLoop mark) line s e w v = into_task_loop false xs front back mark s e w.is v
  directed_closed xs front back (directive.TaskWait sections) line s e w v = let all : xs ≡ front = e ∙ (ap (λ ys. front ++ ys) v.nothing ∙ append-nil front) in
      subst (λ ys. IsStmt false ys s) (sym all) (subst (λ x. IsStmt false front x) (ap (λ line. record { what = stmts.TaskWait sections; line = line }) w.at ∙ v.same) (task_wait w.is))
  directed_closed xs front back (directive.Release clauses) line s e w v = let all : xs ≡ front = e ∙ (ap (λ ys. front ++ ys) v.nothing ∙ append-nil front) in
      subst (λ ys. IsStmt false ys s) (sym all) (subst (λ x. IsStmt false front x) (ap (λ line. record { what = stmts.Release clauses; line = line }) w.at ∙ v.same) (release w.is))

  any_of : (xs : List Token) (s : Stmt) → IsStmt false xs s → IsAnyStmt xs s
  any_of = forms.closed_inside part first directed first_directed inside brace_ends below first_below

  while_any : (xs : List Token) (s : Stmt) → WhileText IsAnyStmt xs s → IsAnyStmt xs s
  while_any xs s w = let v = w.behind.whole in record {
    ends_open = v.ends_open;
    is = into_while v.ends_open xs s (record { front = w.front; back = w.back; value = w.value; split = w.split; before = w.before; behind = record { part = w.behind.part; made = w.behind.made; whole = v.is } });
  }

  for_any : (xs : List Token) (s : Stmt) → ForText IsAnyStmt xs s → IsAnyStmt xs s
  for_any xs s w = let v = w.behind.whole in record {
    ends_open = v.ends_open;
    is = into_for v.ends_open xs s (record { front = w.front; back = w.back; value = w.value; split = w.split; before = w.before; behind = record { part = w.behind.part; made = w.behind.made; whole = v.is } });
  }

  pub into_all : (xs : List Token) (s : Stmt) → AllText xs s → IsAnyStmt xs s
  into_all xs s (one_way w) = any_of xs s (into_block xs s w)
  into_all xs s (other_way (one_way w)) = any_of xs s (into_empty xs s w)
  into_all xs s (other_way (other_way (one_way w))) = any_of xs s (into_simple xs s w)
  into_all xs s (other_way (other_way (other_way (one_way w)))) = into_if xs s w
  into_all xs s (other_way (other_way (other_way (other_way (one_way w))))) = while_any xs s w
  into_all xs s (other_way (other_way (other_way (other_way (other_way (one_way w)))))) = for_any xs s w
  into_all xs s (other_way (other_way (other_way (other_way (other_way (other_way (one_way w))))))) = any_of xs s (into_return xs s w)
  into_all xs s (other_way (other_way (other_way (other_way (other_way (other_way (other_way (one_way w)))))))) = any_of xs s (into_break xs s w)
  into_all xs s (other_way (other_way (other_way (other_way (other_way (other_way (other_way (other_way (one_way w))))))))) = any_of xs s (into_continue xs s w)
  into_all xs s (other_way (other_way (other_way (other_way (other_way (other_way (other_way (other_way (other_way (one_way w)))))))))) = any_of xs s (into_print xs s w)
  into_all xs s (other_way (other_way (other_way (other_way (other_way (other_way (other_way (other_way (other_way (other_way w)))))))))) = directed_any xs w.front w.back w.value.0 w.value.1 s w.split w.before w.behind

  pub into_closed : (xs : List Token) (s : Stmt) → ClosedText xs s → IsStmt false xs s
  into_closed xs s (one_way w) = into_block xs s w
  into_closed xs s (other_way (one_way w)) = into_empty xs s w
  into_closed xs s (other_way (other_way (one_way w))) = into_simple xs s w
  into_closed xs s (other_way (other_way (other_way (one_way w)))) = into_closed_if xs s w
  into_closed xs s (other_way (other_way (other_way (other_way (one_way w))))) = into_while false xs s w
  into_closed xs s (other_way (other_way (other_way (other_way (other_way (one_way w)))))) = into_for false xs s w
  into_closed xs s (other_way (other_way (other_way (other_way (other_way (other_way (one_way w))))))) = into_return xs s w
  into_closed xs s (other_way (other_way (other_way (other_way (other_way (other_way (other_way (one_way w)))))))) = into_break xs s w
  into_closed xs s (other_way (other_way (other_way (other_way (other_way (other_way (other_way (other_way (one_way w))))))))) = into_continue xs s w
  into_closed xs s (other_way (other_way (other_way (other_way (other_way (other_way (other_way (other_way (other_way (one_way w)))))))))) = into_print xs s w
  into_closed xs s (other_way (other_way (other_way (other_way (other_way (other_way (other_way (other_way (other_way (other_way w)))))))))) = directed_closed xs w.front w.back w.value.0 w.value.1 s w.split w.before w.behind

  -- a statement of the grammar is read
  out_block : (xs : List Token) (body : List Stmt) (opened : Token) (inner : List Token) (closed : Token) → xs ≡ opened ∷ (inner ++ (closed ∷ [])) → IsSymbol (codes "{") opened → IsSymbol (codes "}") closed → IsItems inner body
      → BlockText xs (record { what = stmts.Block body; line = opened.line })
  out_block xs body opened inner closed e o c w = record {
    part = (opened.line, (body, closed.line));
    made = refl;
    whole = record { opened = opened; inner = inner; closed = closed; split = e; opens = symbol_value (codes "{") opened o; closes = symbol_value (codes "}") closed c; inside = w };
  }

  out_simple : (xs : List Token) (s : Stmt) (front : List Token) (m : Token) → xs ≡ front ++ (m ∷ []) → IsSymbol (codes ";") m → IsSimple front s → SimpleText xs s
  out_simple xs s front m e c w = record { part = (s, m.line); made = refl; whole = record { inner = front; closed = m; split = e; passes = symbol_value (codes ";") m c; inside = w } }

  pub head_of : (word : List ℕ) (t opened : Token) (inner : List Token) (closed : Token) (test : Expr) → IsKeyword word t → IsOpen opened → IsClose closed → IsWhole inner test → Head word (t ∷ opened ∷ (inner ++ (closed ∷ []))) (t.line, test)
  head_of word t opened inner closed test k o c w = record {
    token = t;
    back = opened ∷ (inner ++ (closed ∷ []));
    split = refl;
    passes = keyword_value word t k;
    behind = record { opened = opened; inner = inner; closed = closed; split = refl; opens = o; closes = c; inside = w };
  }

  pub split_of_head : (xs : List Token) (t opened : Token) (inner : List Token) (closed : Token) (back : List Token) → xs ≡ t ∷ opened ∷ (inner ++ (closed ∷ back)) → xs ≡ (t ∷ opened ∷ (inner ++ (closed ∷ []))) ++ back
  split_of_head xs t opened inner closed back e = e ∙ sym (ap (λ ys. t ∷ opened ∷ ys) (append_assoc inner (closed ∷ []) back))

  out_while : (U : List Token → Stmt → Type 0) (xs : List Token) (test : Expr) (s : Stmt) (t opened : Token) (inner : List Token) (closed : Token) (back : List Token) → xs ≡ t ∷ opened ∷ (inner ++ (closed ∷ back))
      → IsKeyword (codes "while") t → IsOpen opened → IsClose closed → IsWhole inner test → U back s → WhileText U xs (record { what = stmts.While test s; line = t.line })
  out_while U xs test s t opened inner closed back e k o c w v = record {
    front = t ∷ opened ∷ (inner ++ (closed ∷ []));
    back = back;
    value = (t.line, test);
    split = split_of_head xs t opened inner closed back e;
    before = head_of (codes "while") t opened inner closed test k o c w;
    behind = record { part = s; made = refl; whole = v };
  }

  out_if : (xs : List Token) (test : Expr) (s : Stmt) (t opened : Token) (inner : List Token) (closed : Token) (back : List Token) → xs ≡ t ∷ opened ∷ (inner ++ (closed ∷ back))
      → IsKeyword (codes "if") t → IsOpen opened → IsClose closed → IsWhole inner test → IsAnyStmt back s → IfText xs (record { what = stmts.If test s None; line = t.line })
  out_if xs test s t opened inner closed back e k o c w v = record {
    front = t ∷ opened ∷ (inner ++ (closed ∷ []));
    back = back;
    value = (t.line, test);
    split = split_of_head xs t opened inner closed back e;
    before = head_of (codes "if") t opened inner closed test k o c w;
    behind = one_branch s refl v;
  }

  pub is_otherwise : (t : Token) → IsKeyword (codes "else") t → otherwise t ≡ true
  is_otherwise t k = rw k refl

  out_if_else : (xs : List Token) (test : Expr) (s other : Stmt) (t opened : Token) (inner : List Token) (closed : Token) (front : List Token) (m : Token) (back : List Token)
      → xs ≡ t ∷ opened ∷ (inner ++ (closed ∷ (front ++ (m ∷ back)))) → IsKeyword (codes "if") t → IsOpen opened → IsClose closed → IsKeyword (codes "else") m → IsWhole inner test → IsStmt false front s → IsAnyStmt back other
      → IfText xs (record { what = stmts.If test s (Some other); line = t.line })
  out_if_else xs test s other t opened inner closed front m back e k o c l w v u = record {
    front = t ∷ opened ∷ (inner ++ (closed ∷ []));
    back = front ++ (m ∷ back);
    value = (t.line, test);
    split = split_of_head xs t opened inner closed (front ++ (m ∷ back)) e;
    before = head_of (codes "if") t opened inner closed test k o c w;
    behind = two_branches s other front m back refl refl (is_otherwise m l) v u;
  }

  out_closed_if : (xs : List Token) (test : Expr) (s other : Stmt) (t opened : Token) (inner : List Token) (closed : Token) (front : List Token) (m : Token) (back : List Token)
      → xs ≡ t ∷ opened ∷ (inner ++ (closed ∷ (front ++ (m ∷ back)))) → IsKeyword (codes "if") t → IsOpen opened → IsClose closed → IsKeyword (codes "else") m → IsWhole inner test → IsStmt false front s → IsStmt false back other
      → ClosedIf xs (record { what = stmts.If test s (Some other); line = t.line })
  out_closed_if xs test s other t opened inner closed front m back e k o c l w v u = record {
    front = t ∷ opened ∷ (inner ++ (closed ∷ []));
    back = front ++ (m ∷ back);
    value = (t.line, test);
    split = split_of_head xs t opened inner closed (front ++ (m ∷ back)) e;
    before = head_of (codes "if") t opened inner closed test k o c w;
    behind = record { first = s; other = other; front = front; mark = m; back = back; made = refl; split = refl; marks = is_otherwise m l; before = v; behind = u };
  }

  pub whole_maybe : (xs : List Token) (e : Option Expr) → IsMaybeWhole xs e → MaybeE xs e
  whole_maybe xs None (no_expression z) = other_way (record { nothing = z; same = refl })
  whole_maybe xs (Some e) (some_expression w) = one_way (record { part = e; made = refl; whole = w })

  simple_maybe : (xs : List Token) (s : Option Stmt) → IsMaybeSimple xs s → MaybeS xs s
  simple_maybe xs None (no_simple z) = other_way (record { nothing = z; same = refl })
  simple_maybe xs (Some s) (some_simple w) = one_way (record { part = s; made = refl; whole = w })

  pub first_for : (xs : List Token) (s : Option Stmt) → IsForFirst xs s → First xs s
  first_for xs (Some s) (declared_first w) = one_way (record { part = s; made = refl; whole = w })
  first_for xs s (other_first w) = other_way (simple_maybe xs s w)

  pub for_head_of : (first : Option Stmt) (test : Option Expr) (last : Option Stmt) (t opened : Token) (start : List Token) (m : Token) (middle : List Token) (other : Token) (end : List Token) (closed : Token)
      → IsKeyword (codes "for") t → IsOpen opened → IsSymbol (codes ";") m → IsSymbol (codes ";") other → IsClose closed → IsForFirst start first → IsMaybeWhole middle test → IsMaybeSimple end last
      → ForHead (t ∷ opened ∷ (start ++ (m ∷ (middle ++ (other ∷ (end ++ (closed ∷ []))))))) (t.line, record { first = first; test = test; last = last })
  for_head_of first test last t opened start m middle other end closed k o c d z a b e = record {
    token = t;
    back = opened ∷ (start ++ (m ∷ (middle ++ (other ∷ (end ++ (closed ∷ []))))));
    split = refl;
    passes = keyword_value (codes "for") t k;
    behind = record {
      mark = opened;
      back = start ++ (m ∷ (middle ++ (other ∷ (end ++ (closed ∷ [])))));
      split = refl;
      marks = o;
      behind = record {
        part = (first, (m.line, (test, (other.line, (last, closed.line)))));
        made = refl;
        whole = record {
          front = start;
          back = m ∷ (middle ++ (other ∷ (end ++ (closed ∷ []))));
          split = refl;
          before = first_for start first a;
          behind = record {
            token = m;
            back = middle ++ (other ∷ (end ++ (closed ∷ [])));
            split = refl;
            passes = symbol_value (codes ";") m c;
            behind = record {
              front = middle;
              back = other ∷ (end ++ (closed ∷ []));
              split = refl;
              before = whole_maybe middle test b;
              behind = record {
                token = other;
                back = end ++ (closed ∷ []);
                split = refl;
                passes = symbol_value (codes ";") other d;
                behind = record { inner = end; closed = closed; split = refl; passes = symbol_value (codes ")") closed z; inside = simple_maybe end last e };
              };
            };
          };
        };
      };
    };
  }

  pub split_of_for : (xs : List Token) (t opened : Token) (start : List Token) (m : Token) (middle : List Token) (other : Token) (end : List Token) (closed : Token) (back : List Token)
      → xs ≡ t ∷ opened ∷ (start ++ (m ∷ (middle ++ (other ∷ (end ++ (closed ∷ back)))))) → xs ≡ (t ∷ opened ∷ (start ++ (m ∷ (middle ++ (other ∷ (end ++ (closed ∷ []))))))) ++ back
  split_of_for xs t opened start m middle other end closed back e =
      e ∙ sym (ap (λ ys. t ∷ opened ∷ ys) (append_assoc start (m ∷ (middle ++ (other ∷ (end ++ (closed ∷ []))))) back
      ∙ ap (λ ys. start ++ (m ∷ ys)) (append_assoc middle (other ∷ (end ++ (closed ∷ []))) back ∙ ap (λ ys. middle ++ (other ∷ ys)) (append_assoc end (closed ∷ []) back))))

  out_for : (U : List Token → Stmt → Type 0) (xs : List Token) (first : Option Stmt) (test : Option Expr) (last : Option Stmt) (s : Stmt) (t opened : Token) (start : List Token) (m : Token) (middle : List Token) (other : Token)
      (end : List Token) (closed : Token) (back : List Token) → xs ≡ t ∷ opened ∷ (start ++ (m ∷ (middle ++ (other ∷ (end ++ (closed ∷ back))))))
      → IsKeyword (codes "for") t → IsOpen opened → IsSymbol (codes ";") m → IsSymbol (codes ";") other → IsClose closed → IsForFirst start first → IsMaybeWhole middle test → IsMaybeSimple end last → U back s
      → ForText U xs (record { what = stmts.For first test last s; line = t.line })
  out_for U xs first test last s t opened start m middle other end closed back e k o c d z a b l v = record {
    front = t ∷ opened ∷ (start ++ (m ∷ (middle ++ (other ∷ (end ++ (closed ∷ []))))));
    back = back;
    value = (t.line, record { first = first; test = test; last = last });
    split = split_of_for xs t opened start m middle other end closed back e;
    before = for_head_of first test last t opened start m middle other end closed k o c d z a b l;
    behind = record { part = s; made = refl; whole = v };
  }

  out_return : (xs : List Token) (value : Option Expr) (t : Token) (inner : List Token) (m : Token) → xs ≡ t ∷ (inner ++ (m ∷ [])) → IsKeyword (codes "return") t → IsSymbol (codes ";") m → IsMaybeWhole inner value
      → ReturnText xs (record { what = stmts.Return value; line = t.line })
  out_return xs value t inner m e k c w = record {
    part = (t.line, (value, m.line));
    made = refl;
    whole = record { opened = t; inner = inner; closed = m; split = e; opens = keyword_value (codes "return") t k; closes = symbol_value (codes ";") m c; inside = whole_maybe inner value w };
  }

  out_jump : (word : List ℕ) (make : ℕ × ℕ → Stmt) (xs : List Token) (t m : Token) → xs ≡ t ∷ m ∷ [] → IsKeyword word t → IsSymbol (codes ";") m → JumpText word make xs (make (t.line, m.line))
  out_jump word make xs t m e k c = record {
    part = (t.line, m.line);
    made = refl;
    whole = record { token = t; back = m ∷ []; split = e; passes = keyword_value word t k; behind = record { token = m; only = refl; passes = symbol_value (codes ";") m c } };
  }

  list_follow : (comma : Token) (xs : List Token) (values : List Expr) → IsSymbol (codes ",") comma → IsArgumentList xs values → Follow IsWhole (comma ∷ xs) values
  list_follow comma xs [] c w = elim w [ ]
  list_follow comma xs (a ∷ []) c (last_argument w) = some comma xs [] (ap (λ ys. comma ∷ ys) (sym (append-nil xs))) c w (none refl)
  list_follow comma xs (a ∷ more) c (next_argument front m back e d w v) = some comma front (m ∷ back) (ap (λ ys. comma ∷ ys) e) c w (list_follow m back more d v)

  follow_printed : (xs : List Token) (values : List Expr) → IsPrinted xs values → Follow IsWhole xs values
  follow_printed xs [] (nothing_printed e) = none e
  follow_printed xs values (values_printed comma back e c w) = subst (λ ys. Follow IsWhole ys values) (sym e) (list_follow comma back values c w)

  pub text_value : (t : Token) (bytes : List ℕ) → t.what ≡ kinds.Text bytes → text_at t ≡ Some bytes
  text_value t bytes e = rw e refl

  out_print : (xs : List Token) (values : List Expr) (t opened string : Token) (bytes : List ℕ) (inner : List Token) (closed m : Token) → xs ≡ t ∷ opened ∷ string ∷ (inner ++ (closed ∷ m ∷ []))
      → IsKeyword (codes "printf") t → IsOpen opened → string.what ≡ kinds.Text bytes → IsClose closed → IsSymbol (codes ";") m → IsPrinted inner values
      → PrintText xs (record { what = stmts.Print bytes values; line = t.line })
  out_print xs values t opened string bytes inner closed m e k o b c d w = record {
    part = (t.line, (bytes, values));
    made = refl;
    whole = record {
      token = t;
      back = opened ∷ string ∷ (inner ++ (closed ∷ m ∷ []));
      split = e;
      passes = keyword_value (codes "printf") t k;
      behind = record {
        mark = opened;
        back = string ∷ (inner ++ (closed ∷ m ∷ []));
        split = refl;
        marks = o;
        behind = record {
          token = string;
          back = inner ++ (closed ∷ m ∷ []);
          split = refl;
          passes = text_value string bytes b;
          behind = record {
            part = (values, (closed.line, m.line));
            made = refl;
            whole = record {
              front = inner;
              back = closed ∷ m ∷ [];
              split = refl;
              before = follow_printed inner values w;
              behind = record { token = closed; back = m ∷ []; split = refl; passes = symbol_value (codes ")") closed c; behind = record { token = m; only = refl; passes = symbol_value (codes ";") m d } };
            };
          };
        };
      };
    };
  }

  out_task : (U : List Token → Stmt → Type 0) (xs : List Token) (m : TaskMark) (s : Stmt) (front back : List Token) → xs ≡ front ++ back → IsPragma front (directive.Task m) → U back s → PragmaText U xs (record { what = stmts.Task m s; line = m.line })
  out_task U xs m s front back e w v = record { front = front; back = back; value = (directive.Task m, first_line front); split = e; before = record { is = w; at = refl }; behind = record { part = s; made = refl; whole = v } }

  out_task_loop : (U : List Token → Stmt → Type 0) (xs : List Token) (m : TaskMark) (h : LoopHead) (s : Stmt) (front middle back : List Token) → xs ≡ front ++ (middle ++ back)
      → IsPragma front (directive.TaskLoop m) → IsLoopHead m middle h → U back s → PragmaText U xs (record { what = stmts.TaskLoop h s; line = m.line })
  out_task_loop U xs m h s front middle back e w l v = record {
    front = front;
    back = middle ++ back;
    value = (directive.TaskLoop m, first_line front);
    split = e;
    before = record { is = w; at = refl };
    behind = record { front = middle; back = back; value = h; split = refl; before = l; behind = record { part = s; made = refl; whole = v } };
  }

  out_wait : (U : List Token → Stmt → Type 0) (xs : List Token) (sections : Option (List Section)) → IsPragma xs (directive.TaskWait sections) → PragmaText U xs (record { what = stmts.TaskWait sections; line = first_line xs })
  out_wait U xs sections w = record { front = xs; back = []; value = (directive.TaskWait sections, first_line xs); split = sym (append-nil xs); before = record { is = w; at = refl }; behind = record { nothing = refl; same = refl } }

  out_release : (U : List Token → Stmt → Type 0) (xs : List Token) (clauses : List Clause) → IsPragma xs (directive.Release clauses) → PragmaText U xs (record { what = stmts.Release clauses; line = first_line xs })
  out_release U xs clauses w = record { front = xs; back = []; value = (directive.Release clauses, first_line xs); split = sym (append-nil xs); before = record { is = w; at = refl }; behind = record { nothing = refl; same = refl } }

  pub out_all : (o : Bool) (xs : List Token) (s : Stmt) → IsStmt o xs s → AllText xs s
  out_all o xs s (block {body = body} opened inner closed e a c w) = one_way (out_block xs body opened inner closed e a c w)
  out_all o xs s (empty m e c) = other_way (one_way (record { part = m.line; made = refl; whole = record { token = m; only = e; passes = symbol_value (codes ";") m c } }))
  out_all o xs s (simple front m e c w) = other_way (other_way (one_way (out_simple xs s front m e c w)))
  out_all o xs s (if_alone {o = p} {test = test} {s = b} t opened inner closed back e k a c w v) = other_way (other_way (other_way (one_way (out_if xs test b t opened inner closed back e k a c w (record { ends_open = p; is = v })))))
  out_all o xs s (if_else {test = test} {s = b} {other = other} t opened inner closed front m back e k a c l w v u) =
      other_way (other_way (other_way (one_way (out_if_else xs test b other t opened inner closed front m back e k a c l w v (record { ends_open = o; is = u })))))
  out_all o xs s (while_loop {test = test} {s = b} t opened inner closed back e k a c w v) =
      other_way (other_way (other_way (other_way (one_way (out_while IsAnyStmt xs test b t opened inner closed back e k a c w (record { ends_open = o; is = v }))))))
  out_all o xs s (for_loop {first = f} {test = test} {last = l} {s = b} t opened start m middle other end closed back e k a c d z x y u v) =
      other_way (other_way (other_way (other_way (other_way (one_way (out_for IsAnyStmt xs f test l b t opened start m middle other end closed back e k a c d z x y u (record { ends_open = o; is = v })))))))
  out_all o xs s (return_jump {value = value} t inner m e k c w) = other_way (other_way (other_way (other_way (other_way (other_way (one_way (out_return xs value t inner m e k c w)))))))
  out_all o xs s (break_jump t m e k c) = other_way (other_way (other_way (other_way (other_way (other_way (other_way (one_way (out_jump (codes "break") break_at xs t m e k c))))))))
  out_all o xs s (continue_jump t m e k c) = other_way (other_way (other_way (other_way (other_way (other_way (other_way (other_way (one_way (out_jump (codes "continue") continue_at xs t m e k c)))))))))
  out_all o xs s (print {values = values} t opened string bytes inner closed m e k a b c d w) =
      other_way (other_way (other_way (other_way (other_way (other_way (other_way (other_way (other_way (one_way (out_print xs values t opened string bytes inner closed m e k a b c d w))))))))))
  out_all o xs s (task {mark = m} {s = b} front back e w v) =
      other_way (other_way (other_way (other_way (other_way (other_way (other_way (other_way (other_way (other_way (out_task IsAnyStmt xs m b front back e w (record { ends_open = o; is = v })))))))))))
  out_all o xs s (task_loop {mark = m} {head = h} {s = b} front middle back e w l v) =
      other_way (other_way (other_way (other_way (other_way (other_way (other_way (other_way (other_way (other_way (out_task_loop IsAnyStmt xs m h b front middle back e w l (record { ends_open = o; is = v })))))))))))
  out_all o xs s (task_wait {sections = sections} w) = other_way (other_way (other_way (other_way (other_way (other_way (other_way (other_way (other_way (other_way (out_wait IsAnyStmt xs sections w))))))))))
  out_all o xs s (release {clauses = clauses} w) = other_way (other_way (other_way (other_way (other_way (other_way (other_way (other_way (other_way (other_way (out_release IsAnyStmt xs clauses w))))))))))

  pub out_closed : (xs : List Token) (s : Stmt) → IsStmt false xs s → ClosedText xs s
  out_closed xs s (block {body = body} opened inner closed e a c w) = one_way (out_block xs body opened inner closed e a c w)
  out_closed xs s (empty m e c) = other_way (one_way (record { part = m.line; made = refl; whole = record { token = m; only = e; passes = symbol_value (codes ";") m c } }))
  out_closed xs s (simple front m e c w) = other_way (other_way (one_way (out_simple xs s front m e c w)))
  out_closed xs s (if_else {test = test} {s = b} {other = other} t opened inner closed front m back e k a c l w v u) = other_way (other_way (other_way (one_way (out_closed_if xs test b other t opened inner closed front m back e k a c l w v u))))
  out_closed xs s (while_loop {test = test} {s = b} t opened inner closed back e k a c w v) = other_way (other_way (other_way (other_way (one_way (out_while (IsStmt false) xs test b t opened inner closed back e k a c w v)))))
  out_closed xs s (for_loop {first = f} {test = test} {last = l} {s = b} t opened start m middle other end closed back e k a c d z x y u v) =
      other_way (other_way (other_way (other_way (other_way (one_way (out_for (IsStmt false) xs f test l b t opened start m middle other end closed back e k a c d z x y u v))))))
  out_closed xs s (return_jump {value = value} t inner m e k c w) = other_way (other_way (other_way (other_way (other_way (other_way (one_way (out_return xs value t inner m e k c w)))))))
  out_closed xs s (break_jump t m e k c) = other_way (other_way (other_way (other_way (other_way (other_way (other_way (one_way (out_jump (codes "break") break_at xs t m e k c))))))))
  out_closed xs s (continue_jump t m e k c) = other_way (other_way (other_way (other_way (other_way (other_way (other_way (other_way (one_way (out_jump (codes "continue") continue_at xs t m e k c)))))))))
  out_closed xs s (print {values = values} t opened string bytes inner closed m e k a b c d w) =
      other_way (other_way (other_way (other_way (other_way (other_way (other_way (other_way (other_way (one_way (out_print xs values t opened string bytes inner closed m e k a b c d w))))))))))
  out_closed xs s (task {mark = m} {s = b} front back e w v) = other_way (other_way (other_way (other_way (other_way (other_way (other_way (other_way (other_way (other_way (out_task (IsStmt false) xs m b front back e w v))))))))))
  out_closed xs s (task_loop {mark = m} {head = h} {s = b} front middle back e w l v) =
      other_way (other_way (other_way (other_way (other_way (other_way (other_way (other_way (other_way (other_way (out_task_loop (IsStmt false) xs m h b front middle back e w l v))))))))))
  out_closed xs s (task_wait {sections = sections} w) = other_way (other_way (other_way (other_way (other_way (other_way (other_way (other_way (other_way (other_way (out_wait (IsStmt false) xs sections w))))))))))
  out_closed xs s (release {clauses = clauses} w) = other_way (other_way (other_way (other_way (other_way (other_way (other_way (other_way (other_way (other_way (out_release (IsStmt false) xs clauses w))))))))))
