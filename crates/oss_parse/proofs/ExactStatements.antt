-- Statements, and what stands in a block, are read exactly, with so many levels.
use Rattle.std.proofs.Common.{◌≡◌, ℕ, zero, suc, Bool, true, false, if◌then◌else◌, ◌||◌, List, [], ◌∷◌, ◌++◌, refl, sym, ap, ◌∙◌, subst, append_assoc, ◌⊎◌, inl, inr, Some, None, is_some, Ok, Err}
use Rattle.std.specs.Prelude.{codes}
use Rattle.oss_syntax.specs.declared.token.Token.{Token}
use Rattle.oss_syntax.specs.declared.tree.expr.Expr.{Expr}
use Rattle.oss_syntax.specs.declared.tree.pragma.Directive.{Directive}
use Rattle.oss_syntax.specs.declared.tree.stmt.Stmt.{Stmt}
use Rattle.oss_syntax.specs.declared.token.TokenKind.TheVariants as kinds
use Rattle.oss_grammar.specs.Expressions.{IsWhole}
use Rattle.oss_grammar.specs.Fronts.{Viable}
use Rattle.oss_grammar.specs.Grammar.{One, Mapped, Either}
use Rattle.oss_grammar.specs.Grammar.Either.{one_way, other_way}
use Rattle.oss_grammar.specs.Levels.{IsExcessBehind, OpensPragma}
use Rattle.oss_grammar.specs.OneToken.{is_keyword}
use Rattle.oss_grammar.specs.Pragmas.{IsPragma}
use Rattle.oss_grammar.specs.Reading.{Reader, begins, has, never, one_of, read_one, read_too_deep}
use Rattle.oss_grammar.specs.Reading.Stop.{Syntax, Deep}
use Rattle.oss_grammar.specs.SimpleStatements.{IsDeclaration, step_of}
use Rattle.oss_grammar.specs.StatementLimits.{OpensDeclaration, IsOneItem, IsStatementExcess, IsItemExcess, IsItemsExcess}
use Rattle.oss_grammar.specs.StatementLimits.IsOneItem.{declared_item, stated_item}
use Rattle.oss_grammar.specs.StatementLimits.IsStatementExcess.{no_level}
use Rattle.oss_grammar.specs.StatementLimits.IsItemExcess.{no_item_level, in_declaration, in_statement}
use Rattle.oss_grammar.specs.StatementLimits.IsItemsExcess.{first_item, later_item}
use Rattle.oss_grammar.specs.Statements.{IsStmt, IsAnyStmt, IsItems}
use Rattle.oss_grammar.specs.Statements.IsItems.{no_item, declaration_item, statement_item}
use Rattle.oss_grammar.proofs.Parts.{Sinks, Exact, Begun, exact_as, member_begins, deep_begins}
use Rattle.oss_grammar.proofs.PartLemmas.{Nowhere, EitherDeep, begun_one, exact_mapped, begun_mapped, exact_either, begun_either, exact_too_deep, begun_too_deep}
use Rattle.oss_grammar.proofs.PartLemmas.EitherDeep.{one_deep, other_deep}
use Rattle.oss_grammar.proofs.PairLemmas as pairs
use Rattle.oss_grammar.proofs.StepLemmas.{none_goes}
use Rattle.oss_expressions.specs.ExpressionReading.{former, and_then}
use Rattle.oss_expressions.specs.TokenValues.{symbol_at, keyword_at, start_at, begins_expression}
use Rattle.oss_expressions.proofs.ExactPairs.{Trailed, exact_trailed}
use Rattle.oss_expressions.proofs.TokenLemmas.{goes_on, on_symbol, has_symbol, symbol_token, symbol_value, not_keyword, exact_closed, exact_symbol}
use Rattle.oss_pragma.proofs.ExactRows.{Rows, RowsEnd, RowsDeep, exact_rows}
use Rattle.oss_pragma.proofs.ExactRows.Rows.{no_row, next_row}
use Rattle.oss_parse.specs.SimpleReading.{begins_kind, single_kind_at}
use Rattle.oss_parse.specs.StatementReading.{read_statement, read_item, read_items_by, read_inner_statement, read_inner_item, read_items, begins_statement, begins_item}
use Rattle.oss_parse.proofs.BeginningLemmas.{statement_begins, begins_so, item_begins, item_begins_so}
use Rattle.oss_parse.proofs.BranchLemmas.{otherwise}
use Rattle.oss_parse.proofs.EndingLemmas.{Ending}
use Rattle.oss_parse.proofs.ExactDeclarations.{exact_declaration, begun_declaration, simple_ends}
use Rattle.oss_parse.proofs.StatementDepths.{statement_ending, begun_statement}

-- what may follow what stands in a block: all that begins more of it, and an `else`
abbrev pub goes_items : Token → Bool
goes_items = one_of begins_item otherwise

former_false : (b c : Bool) → (b || c) ≡ false → b ≡ false
former_false false c e = refl
former_false true c e = absurd (cc)

latter_false : (b c : Bool) → (b || c) ≡ false → c ≡ false
latter_false false c e = e
latter_false true c e = absurd (cc)

none_or : (b c : Bool) → b ≡ false → c ≡ false → (b || c) ≡ false
none_or false c e e' = e'
none_or true c e e' = e

brace_ends : (t : Token) → has (symbol_at (codes "}")) t ≡ true → goes_items t ≡ false
unfolding step_of
brace_ends t e = on_symbol goes_items (codes "}") false (λ line. refl) t (has_symbol (codes "}") t e)

item_no_else : (t : Token) → begins_item t ≡ true → otherwise t ≡ false
unfolding step_of
item_no_else t e = not_keyword begins_item (codes "else") (λ line. refl) t e

-- a statement begins with no type
no_word : (b : Bool) (line : ℕ) → is_some (if b then Some line else None) ≡ false → b ≡ false
no_word true line e = absurd (cc)
no_word false line e = refl

neither : {A : Type 0} (b c : Bool) (one two : A) → b ≡ false → c ≡ false → is_some (if b then Some one else (if c then Some two else None)) ≡ false
neither b c one two e e' = rw e (rw e' refl)

no_kind : (t : Token) → begins_statement t ≡ true → begins_kind t ≡ false
unfolding step_of
no_kind t e = none_or (has single_kind_at t) (has (keyword_at (codes "unsigned")) t)
    (neither (is_keyword (codes "int") t.what) (is_keyword (codes "long") t.what) _ _ (no_word (is_keyword (codes "int") t.what) t.line (not_keyword begins_statement (codes "int") (λ line. refl) t e))
    (no_word (is_keyword (codes "long") t.what) t.line (not_keyword begins_statement (codes "long") (λ line. refl) t e)))
    (not_keyword begins_statement (codes "unsigned") (λ line. refl) t e)

-- with no level left
not_ok : {A : Type 0} (deepens : Token → Bool) (ts : List Token) (p : A × List Token) (b : Bool) → begins deepens ts ≡ b → read_too_deep deepens ts ≡ Ok p → ⊥
not_ok {A} deepens ts p true e told = let deep : read_too_deep {A = A} deepens ts ≡ Err (Deep ts) = rw e refl in absurd (cc)
not_ok {A} deepens ts p false e told = let stop : read_too_deep {A = A} deepens ts ≡ Err (Syntax ts) = rw e refl in absurd (cc)

module _ (X : List Token → Token → Type 0) where
  begun_at_none : (xs : List Token) (t : Token) → IsStatementExcess X 0 xs t → Viable IsAnyStmt (xs ++ (t ∷ []))
  begun_at_none xs t (no_level e v) = subst (λ ys. Viable IsAnyStmt (ys ++ (t ∷ []))) (sym e) v

  first_at_none : (xs : List Token) (t : Token) → IsStatementExcess X 0 xs t → begins begins_statement (xs ++ (t ∷ [])) ≡ true
  first_at_none xs t (no_level e v) = ap (λ ys. begins begins_statement (ys ++ (t ∷ []))) e ∙ begins_so v.member.ends_open ((t ∷ []) ++ v.more) v.value v.member.is

  some_statement : Viable IsAnyStmt []
  some_statement = let v = statement_begins (record { what = kinds.Symbol (codes ";"); line = 1 }) refl in record { more = _; value = v.value; member = v.member }

  no_statement : Exact (read_too_deep begins_statement) IsAnyStmt (IsStatementExcess X 0) otherwise
  no_statement = exact_too_deep begins_statement (λ t e. no_level refl (statement_begins t e)) some_statement (λ xs s w. begins_so w.ends_open xs s w.is) first_at_none begun_at_none otherwise

  none_ending : Ending otherwise (read_too_deep begins_statement) IsAnyStmt (IsStmt false) (IsStatementExcess X 0)
  none_ending = record {
    whole = no_statement;
    closed = λ xs s w. closed xs s (no_statement.again xs s (record { ends_open = false; is = w }));
    ends = λ ts s rest e begun front split. absurd (not_ok begins_statement ts (s, rest) (begins begins_statement ts) refl e);
  } where
    closed : (xs : List Token) (s : Stmt) → ((rest : List Token) → begins otherwise rest ≡ false → read_too_deep begins_statement (xs ++ rest) ≡ Ok (s, rest)) ⊎ Sinks {A = Stmt} (read_too_deep begins_statement) (IsStatementExcess X 0) xs
        → ((rest : List Token) → read_too_deep begins_statement (xs ++ rest) ≡ Ok (s, rest)) ⊎ Sinks {A = Stmt} (read_too_deep begins_statement) (IsStatementExcess X 0) xs
    closed xs s (inl read) = absurd (not_ok begins_statement (xs ++ []) (s, []) (begins begins_statement (xs ++ [])) refl (read [] refl))
    closed xs s (inr sink) = inr sink

  begun_no_item : (xs : List Token) (t : Token) → IsItemExcess X 0 xs t → Viable IsOneItem (xs ++ (t ∷ []))
  begun_no_item xs t (no_item_level e v) = subst (λ ys. Viable IsOneItem (ys ++ (t ∷ []))) (sym e) v

  first_no_item : (xs : List Token) (t : Token) → IsItemExcess X 0 xs t → begins begins_item (xs ++ (t ∷ [])) ≡ true
  first_no_item xs t (no_item_level e v) = ap (λ ys. begins begins_item (ys ++ (t ∷ []))) e ∙ item_begins_so ((t ∷ []) ++ v.more) v.value v.member

  some_item : Viable IsOneItem []
  some_item = let v = some_statement in record { more = v.more; value = v.value; member = stated_item v.member }

  no_item_left : Exact (read_too_deep begins_item) IsOneItem (IsItemExcess X 0) otherwise
  no_item_left = exact_too_deep begins_item (λ t e. no_item_level refl (item_begins t e)) some_item item_begins_so first_no_item begun_no_item otherwise

-- what stands in a block, by a reader of one thing in it
module _ (X : List Token → Token → Type 0) (n : ℕ) {item : Reader Stmt} (one : Exact item IsOneItem (IsItemExcess X n) otherwise) (begun_one_item : Begun item begins_item) where
  abbrev Row : List Stmt → List Token → Stmt → Type 0
  Row found = IsOneItem

  before_items : (xs front back : List Token) (s : Stmt) (more : List Stmt) → xs ≡ front ++ back → IsOneItem front s → IsItems back more → IsItems xs (s ∷ more)
  before_items xs front back s more e (declared_item ys m z c w) v = declaration_item ys m back (e ∙ (ap (λ zs. zs ++ back) z ∙ append_assoc ys (m ∷ []) back)) c w v
  before_items xs front back s more e (stated_item w) v = statement_item front back e w.is v

  rows_items : (found : List Stmt) (xs : List Token) (more : List Stmt) → Rows Row found xs more → IsItems xs more
  rows_items found xs [] (no_row e) = no_item e
  rows_items found xs (s ∷ more) (next_row front back e w r) = before_items xs front back s more e w (rows_items (and_then found s) back more r)

  items_rows : (found : List Stmt) (xs : List Token) (more : List Stmt) → IsItems xs more → Rows Row found xs more
  items_rows found xs [] (no_item e) = no_row e
  items_rows found xs (s ∷ more) (declaration_item front m back e c w v) =
      next_row (front ++ (m ∷ [])) back (e ∙ sym (append_assoc front (m ∷ []) back)) (declared_item front m refl c w) (items_rows (and_then found s) back more v)
  items_rows found xs (s ∷ more) (statement_item {o = o} front back e w v) = next_row front back e (stated_item (record { ends_open = o; is = w })) (items_rows (and_then found s) back more v)

  into_items : (xs : List Token) (all : List Stmt) → RowsEnd Row [] xs all → IsItems xs all
  into_items xs all w = subst (λ ys. IsItems xs ys) w.ends (rows_items [] xs w.more w.rows)

  out_of_items : (xs : List Token) (all : List Stmt) → IsItems xs all → RowsEnd Row [] xs all
  out_of_items xs all w = record { more = all; ends = refl; rows = items_rows [] xs all w }

  abbrev RowDeep : List Stmt → List Token → Token → Type 0
  RowDeep found = IsItemExcess X n

  rows_deeper : (found : List Stmt) (xs front back : List Token) (more : List Stmt) (t : Token) → xs ≡ front ++ back → Rows Row found front more → IsItemExcess X n back t → IsItemsExcess X n xs t
  rows_deeper found xs front back [] t e (no_row z) d = first_item (subst (λ ys. IsItemExcess X n ys t) (sym (e ∙ ap (λ ys. ys ++ back) z)) d)
  rows_deeper found xs front back (s ∷ more) t e (next_row one left z w r) d =
      later_item one (left ++ back) (e ∙ (ap (λ ys. ys ++ back) z ∙ append_assoc one left back)) w (rows_deeper (and_then found s) (left ++ back) left back more t refl r d)

  rows_upper : (found : List Stmt) (xs : List Token) (t : Token) → IsItemsExcess X n xs t → RowsDeep Row RowDeep found xs t
  rows_upper found xs t (first_item d) = record { front = []; back = xs; more = []; split = refl; rows = no_row refl; deep = d }
  rows_upper found xs t (later_item {s = s} front back e w d) = let r = rows_upper (and_then found s) back t d in record {
    front = front ++ r.front;
    back = r.back;
    more = s ∷ r.more;
    split = e ∙ (ap (λ ys. front ++ ys) r.split ∙ sym (append_assoc front r.front r.back));
    rows = next_row front r.front refl w r.rows;
    deep = r.deep;
  }

  pub exact_items_by : Exact (read_items_by item) IsItems (IsItemsExcess X n) goes_items
  unfolding read_items_by
  exact_items_by = exact_as into_items out_of_items (λ xs t w. rows_deeper [] xs w.front w.back w.more t w.split w.rows w.deep) (rows_upper [])
      (exact_rows (λ found. one) (λ found. begun_one_item) (λ found. item_no_else) (λ found t e. former_false (begins_item t) (otherwise t) e) (λ t e. latter_false (begins_item t) (otherwise t) e) [])

module _ {expression : Reader Expr} {X : List Token → Token → Type 0} (part : Exact expression IsWhole X goes_on) (first : Begun expression begins_expression)
    {pragma : Reader Directive} (directed : Exact pragma IsPragma (IsExcessBehind OpensPragma X) never) (first_directed : Begun pragma (has start_at)) where
  record At (n : ℕ) : Type 0 where
    statement : Ending otherwise (read_inner_statement expression pragma n) IsAnyStmt (IsStmt false) (IsStatementExcess X n)
    begun_statement_at : Begun (read_inner_statement expression pragma n) begins_statement
    item : Exact (read_inner_item expression pragma n) IsOneItem (IsItemExcess X n) otherwise
    begun_item_at : Begun (read_inner_item expression pragma n) begins_item

  -- one thing in a block
  abbrev Declared : List Token → Stmt → Type 0
  Declared = Mapped former (Trailed (symbol_at (codes ";")) IsDeclaration)

  abbrev OneText : List Token → Stmt → Type 0
  OneText = Either Declared IsAnyStmt

  into_one : (xs : List Token) (s : Stmt) → OneText xs s → IsOneItem xs s
  into_one xs s (one_way w) = declared_item w.whole.inner w.whole.closed w.whole.split (symbol_token (codes ";") w.whole.closed w.part.1 w.whole.passes) (subst (λ x. IsDeclaration w.whole.inner x) w.made w.whole.inside)
  into_one xs s (other_way w) = stated_item w

  out_of_one : (xs : List Token) (s : Stmt) → IsOneItem xs s → OneText xs s
  out_of_one xs s (declared_item front m e c w) = one_way (record { part = (s, m.line); made = refl; whole = record { inner = front; closed = m; split = e; passes = symbol_value (codes ";") m c; inside = w } })
  out_of_one xs s (stated_item w) = other_way w

  one_deeper : (n : ℕ) (xs : List Token) (t : Token) → EitherDeep (IsExcessBehind OpensDeclaration X) (IsStatementExcess X (suc n)) xs t → IsItemExcess X (suc n) xs t
  one_deeper n xs t (one_deep d) = in_declaration d
  one_deeper n xs t (other_deep d) = in_statement d

  one_upper : (n : ℕ) (xs : List Token) (t : Token) → IsItemExcess X (suc n) xs t → EitherDeep (IsExcessBehind OpensDeclaration X) (IsStatementExcess X (suc n)) xs t
  one_upper n xs t (in_declaration d) = one_deep d
  one_upper n xs t (in_statement d) = other_deep d

  semicolon : Exact (read_one (symbol_at (codes ";"))) (One (symbol_at (codes ";"))) Nowhere never
  semicolon = exact_symbol (codes ";") refl never

  module _ (n : ℕ) (items : Reader (List Stmt)) (sub : Reader Stmt) (statement : Ending otherwise (read_statement expression pragma items sub) IsAnyStmt (IsStmt false) (IsStatementExcess X (suc n)))
      (begun_it : Begun (read_statement expression pragma items sub) begins_statement) where
    exact_one_item : Exact (read_item expression pragma items sub) IsOneItem (IsItemExcess X (suc n)) otherwise
    unfolding read_item
    exact_one_item = exact_as into_one out_of_one (one_deeper n) (one_upper n)
        (exact_either begins_kind
        (exact_closed otherwise (exact_mapped former (exact_trailed (symbol_at (codes ";")) (exact_declaration part first) simple_ends (record { what = kinds.Symbol (codes ";"); line = 0 }) 0 refl)))
        (begun_mapped former (pairs.begun_both (exact_declaration part first) semicolon (begun_one (symbol_at (codes ";"))) simple_ends (begun_declaration part first)))
        statement.whole
        (λ ys s rest w free. none_goes begins_statement begins_kind no_kind (ys ++ rest) (member_begins statement.whole begun_it ys s rest w))
        (λ ys t rest w. none_goes begins_statement begins_kind no_kind (ys ++ (t ∷ rest)) (deep_begins statement.whole begun_it ys t rest w)))

    begun_item : Begun (read_item expression pragma items sub) begins_item
    unfolding read_item
    begun_item = begun_either begins_kind (begun_mapped former (pairs.begun_both (exact_declaration part first) semicolon (begun_one (symbol_at (codes ";"))) simple_ends (begun_declaration part first))) begun_it

  at_level : (n : ℕ) → At n
  at_level zero = record { statement = none_ending X; begun_statement_at = begun_too_deep begins_statement; item = no_item_left X; begun_item_at = begun_too_deep begins_item }
  at_level (suc n) = from (at_level n) where
    from : At n → At (suc n)
    from w =
        let items : Exact (read_items_by (read_inner_item expression pragma n)) IsItems (IsItemsExcess X n) goes_items = exact_items_by X n w.item w.begun_item_at in
        let statement : Ending otherwise (read_statement expression pragma (read_items_by (read_inner_item expression pragma n)) (read_inner_statement expression pragma n)) IsAnyStmt (IsStmt false) (IsStatementExcess X (suc n))
        = statement_ending part first directed first_directed items brace_ends w.statement w.begun_statement_at in
        let begun : Begun (read_statement expression pragma (read_items_by (read_inner_item expression pragma n)) (read_inner_statement expression pragma n)) begins_statement
        = begun_statement part first directed first_directed items brace_ends w.statement w.begun_statement_at in
        record {
          statement = statement;
          begun_statement_at = begun;
          item = exact_one_item n (read_items_by (read_inner_item expression pragma n)) (read_inner_statement expression pragma n) statement begun;
          begun_item_at = begun_item n (read_items_by (read_inner_item expression pragma n)) (read_inner_statement expression pragma n) statement begun;
        }

  -- what stands in a block is read exactly
  pub exact_items : (n : ℕ) → Exact (read_items expression pragma n) IsItems (IsItemsExcess X n) goes_items
  exact_items n = exact_items_by X n (at_level n).item (at_level n).begun_item_at

pub items_end : (t : Token) → has (symbol_at (codes "}")) t ≡ true → goes_items t ≡ false
items_end = brace_ends
