-- The reader of clauses is exact for each exact reader of expressions.
use Rattle.std.proofs.Common.{◌≡◌, ℕ, Bool, true, false, if◌then◌else◌, List, [], ◌∷◌, ◌++◌, refl, ap, ◌∙◌, subst, ◌⊎◌, inl, inr, Some, None, is_some}
use Rattle.std.specs.Prelude.{codes}
use Rattle.std.specs.List.{count_by}
use Rattle.oss_syntax.specs.declared.access.Mode.TheVariants.{Read, Fold}
use Rattle.oss_syntax.specs.declared.access.Op.{Op}
use Rattle.oss_syntax.specs.declared.access.Op.TheVariants as fold
use Rattle.oss_syntax.specs.declared.token.Token.{Token}
use Rattle.oss_syntax.specs.declared.token.TokenKind.{TokenKind}
use Rattle.oss_syntax.specs.declared.token.TokenKind.TheVariants as kinds
use Rattle.oss_syntax.specs.declared.tree.expr.Expr.{Expr}
use Rattle.oss_syntax.specs.declared.tree.pragma.Clause.{Clause}
use Rattle.oss_syntax.specs.declared.tree.pragma.Clause.TheVariants as clause
use Rattle.oss_syntax.specs.declared.tree.pragma.Section.{Section}
use Rattle.oss_grammar.specs.Expressions.{IsWhole}
use Rattle.oss_grammar.specs.Fronts.{Viable}
use Rattle.oss_grammar.specs.Grammar.{One, Mapped, Either}
use Rattle.oss_grammar.specs.Grammar.Either.{one_way, other_way}
use Rattle.oss_grammar.specs.Levels.{IsExcessBehind, OpensSections, OpensDepend, OpensLoopClause}
use Rattle.oss_grammar.specs.Levels.OpensDepend.{depend_sections}
use Rattle.oss_grammar.specs.Levels.OpensLoopClause.{task_clause, clause_grain}
use Rattle.oss_grammar.specs.Levels.OpensClause.{clause_dependency, clause_reduction, clause_condition, clause_final, clause_priority}
use Rattle.oss_grammar.specs.OneToken.{is_word, IsOpen, IsClose}
use Rattle.oss_grammar.specs.Pragmas.{IsSections, IsDepend, IsClause, IsLabel, Single, is_single, access_of, reduction_of, fold_of}
use Rattle.oss_grammar.specs.Pragmas.IsDepend.{depend}
use Rattle.oss_grammar.specs.Pragmas.IsLabel.{named, quoted}
use Rattle.oss_grammar.specs.Pragmas.IsClause.{dependency, reduction, condition, final_task, waiting, labelled, priority, grain}
use Rattle.oss_grammar.specs.Pragmas.Single.{once_if, once_final, once_wait, once_label, once_priority, once_grain}
use Rattle.oss_grammar.specs.Reading.{Reader, begins, has, one_of, never, read_one, read_mapped, read_either}
use Rattle.oss_grammar.proofs.Parts.{Exact, Begun, exact_as}
use Rattle.oss_grammar.proofs.PartLemmas.{Nowhere, nowhere, exact_one, begun_one, exact_mapped, begun_mapped, EitherDeep, begun_either}
use Rattle.oss_grammar.proofs.PartLemmas.EitherDeep.{one_deep, other_deep}
use Rattle.oss_expressions.specs.ExpressionReading.{latter, read_brackets}
use Rattle.oss_expressions.specs.TokenValues.{symbol_at, access_at, reduction_at, fold_at, label_in, label_at, stands, is_single_word, single_at, begins_expression}
use Rattle.oss_expressions.proofs.ExactPairs.{Headed, HeadedDeep, exact_headed, begun_headed, Bracketed, BracketedDeep, read_bracketed, exact_bracketed, bracketed_viable, read_behind, Behind, exact_behind, exact_or, or_apart, Failing, Perhaps, exact_or_perhaps, perhaps_either}
use Rattle.oss_expressions.proofs.ExactPairs.Perhaps.{exactly, fails_at_once}
use Rattle.oss_expressions.proofs.TokenLemmas.{goes_on, on_symbol, on_word, on_keyword, has_symbol}
use Rattle.oss_pragma.specs.PragmaReading.{read_sections, read_bracketed_sections, read_depend, dependency_of, read_folded, read_reduction, reduction_of_parts, read_single, read_label, read_waiting, read_clause}
use Rattle.oss_pragma.proofs.ExactMany.{whole_viable}
use Rattle.oss_pragma.proofs.ExactSections.{bracket_apart, exact_sections, sections_viable}
use Rattle.oss_pragma.proofs.OnceLemmas.{IsNew, depend_new, if_new, final_new, wait_new, label_new, priority_new, grain_new, single_told, tells_single, has_single, no_single, count_none, none_counts}

-- the word of a reduction is one of two
reduction_word : (a b : Bool) → is_some (if a then Some true else (if b then Some false else None)) ≡ true → (a ≡ true) ⊎ (b ≡ true)
reduction_word true b e = inl refl
reduction_word false true e = inr refl
reduction_word false false e = absurd (cc)

on_reduction : (test : Token → Bool) → ((line : ℕ) → test (record { what = kinds.Name (codes "reduction"); line = line }) ≡ false) → ((line : ℕ) → test (record { what = kinds.Name (codes "weakreduction"); line = line }) ≡ false)
    → (t : Token) → has reduction_at t ≡ true → test t ≡ false
unfolding reduction_of
on_reduction test strong weak t e = on (reduction_word (is_word (codes "reduction") t.what) (is_word (codes "weakreduction") t.what) e) where
  on : (is_word (codes "reduction") t.what ≡ true) ⊎ (is_word (codes "weakreduction") t.what ≡ true) → test t ≡ false
  on (inl w) = on_word test (codes "reduction") false strong t w
  on (inr w) = on_word test (codes "weakreduction") false weak t w

-- the words of the clauses that stand once at most
on_if : (found : List Clause) (test : Token → Bool) → ((line : ℕ) → test (record { what = kinds.Keyword (codes "if"); line = line }) ≡ false) → (t : Token) → has (single_at once_if found) t ≡ true → test t ≡ false
on_if found test told t e = on_keyword test (codes "if") false told t (has_single once_if found t e)

on_final : (found : List Clause) (test : Token → Bool) → ((line : ℕ) → test (record { what = kinds.Name (codes "final"); line = line }) ≡ false) → (t : Token) → has (single_at once_final found) t ≡ true → test t ≡ false
on_final found test told t e = on_word test (codes "final") false told t (has_single once_final found t e)

on_wait : (found : List Clause) (test : Token → Bool) → ((line : ℕ) → test (record { what = kinds.Name (codes "wait"); line = line }) ≡ false) → (t : Token) → has (single_at once_wait found) t ≡ true → test t ≡ false
on_wait found test told t e = on_word test (codes "wait") false told t (has_single once_wait found t e)

on_label : (found : List Clause) (test : Token → Bool) → ((line : ℕ) → test (record { what = kinds.Name (codes "label"); line = line }) ≡ false) → (t : Token) → has (single_at once_label found) t ≡ true → test t ≡ false
on_label found test told t e = on_word test (codes "label") false told t (has_single once_label found t e)

on_priority : (found : List Clause) (test : Token → Bool) → ((line : ℕ) → test (record { what = kinds.Name (codes "priority"); line = line }) ≡ false) → (t : Token) → has (single_at once_priority found) t ≡ true → test t ≡ false
on_priority found test told t e = on_word test (codes "priority") false told t (has_single once_priority found t e)

on_grain : (found : List Clause) (test : Token → Bool) → ((line : ℕ) → test (record { what = kinds.Name (codes "grainsize"); line = line }) ≡ false) → (t : Token) → has (single_at once_grain found) t ≡ true → test t ≡ false
on_grain found test told t e = on_word test (codes "grainsize") false told t (has_single once_grain found t e)

-- what a label is made of
label_told_in : (t : Token) (k : TokenKind) (bytes : List ℕ) → t.what ≡ k → label_in k ≡ Some bytes → IsLabel t bytes
label_told_in t (kinds.Name w) bytes e s = let same : w ≡ bytes = cc in subst (λ b. IsLabel t b) same (named e)
label_told_in t (kinds.Text w) bytes e s = let same : w ≡ bytes = cc in subst (λ b. IsLabel t b) same (quoted e)
label_told_in t (kinds.Symbol w) bytes e s = absurd (cc)
label_told_in t (kinds.Keyword w) bytes e s = absurd (cc)
label_told_in t (kinds.Number v u) bytes e s = absurd (cc)
label_told_in t kinds.PragmaOss bytes e s = absurd (cc)
label_told_in t kinds.PragmaEnd bytes e s = absurd (cc)
label_told_in t kinds.Directive bytes e s = absurd (cc)

label_told : (t : Token) (bytes : List ℕ) → label_at t ≡ Some bytes → IsLabel t bytes
label_told t bytes s = label_told_in t t.what bytes refl s

tells_label : (t : Token) (bytes : List ℕ) → IsLabel t bytes → label_at t ≡ Some bytes
tells_label t bytes (named e) = ap label_in e
tells_label t bytes (quoted e) = ap label_in e

sections_close : (t : Token) → has (symbol_at (codes ")")) t ≡ true → one_of (has (symbol_at (codes ","))) (has (symbol_at (codes "["))) t ≡ false
sections_close t e = on_symbol (one_of (has (symbol_at (codes ","))) (has (symbol_at (codes "[")))) (codes ")") false (λ line. refl) t (has_symbol (codes ")") t e)

-- the words that are tried last, from the last on
abbrev priority_on : List Clause → Token → Bool
priority_on found = one_of (has (single_at once_priority found)) (has (single_at once_grain found))

abbrev label_on : List Clause → Token → Bool
label_on found = one_of (has (single_at once_label found)) (priority_on found)

abbrev wait_on : List Clause → Token → Bool
wait_on found = one_of (has (single_at once_wait found)) (label_on found)

abbrev final_on : List Clause → Token → Bool
final_on found = one_of (has (single_at once_final found)) (wait_on found)

abbrev if_on : List Clause → Token → Bool
if_on found = one_of (has (single_at once_if found)) (final_on found)

abbrev reduction_on : List Clause → Token → Bool
reduction_on found = one_of (has reduction_at) (if_on found)

-- the words of clauses, behind those that were found
abbrev pub clause_starts : List Clause → Token → Bool
clause_starts found = one_of (has access_at) (reduction_on found)

-- a token with such a word fails a test, if each of the words does
module _ (found : List Clause) (test : Token → Bool) where
  priority_apart : ((line : ℕ) → test (record { what = kinds.Name (codes "priority"); line = line }) ≡ false) → ((line : ℕ) → test (record { what = kinds.Name (codes "grainsize"); line = line }) ≡ false)
      → (t : Token) → priority_on found t ≡ true → test t ≡ false
  priority_apart p g = or_apart (has (single_at once_priority found)) (has (single_at once_grain found)) test (on_priority found test p) (on_grain found test g)

  label_apart : ((line : ℕ) → test (record { what = kinds.Name (codes "label"); line = line }) ≡ false) → ((t : Token) → priority_on found t ≡ true → test t ≡ false) → (t : Token) → label_on found t ≡ true → test t ≡ false
  label_apart l more = or_apart (has (single_at once_label found)) (priority_on found) test (on_label found test l) more

  wait_apart : ((line : ℕ) → test (record { what = kinds.Name (codes "wait"); line = line }) ≡ false) → ((t : Token) → label_on found t ≡ true → test t ≡ false) → (t : Token) → wait_on found t ≡ true → test t ≡ false
  wait_apart w more = or_apart (has (single_at once_wait found)) (label_on found) test (on_wait found test w) more

  final_apart : ((line : ℕ) → test (record { what = kinds.Name (codes "final"); line = line }) ≡ false) → ((t : Token) → wait_on found t ≡ true → test t ≡ false) → (t : Token) → final_on found t ≡ true → test t ≡ false
  final_apart f more = or_apart (has (single_at once_final found)) (wait_on found) test (on_final found test f) more

  if_apart : ((line : ℕ) → test (record { what = kinds.Keyword (codes "if"); line = line }) ≡ false) → ((t : Token) → final_on found t ≡ true → test t ≡ false) → (t : Token) → if_on found t ≡ true → test t ≡ false
  if_apart i more = or_apart (has (single_at once_if found)) (final_on found) test (on_if found test i) more

label_last : (found : List Clause) (t : Token) → priority_on found t ≡ true → has (single_at once_label found) t ≡ false
label_last found = let test : Token → Bool = has (single_at once_label found) in priority_apart found test (λ line. refl) (λ line. refl)

wait_last : (found : List Clause) (t : Token) → label_on found t ≡ true → has (single_at once_wait found) t ≡ false
wait_last found = let test : Token → Bool = has (single_at once_wait found) in label_apart found test (λ line. refl) (priority_apart found test (λ line. refl) (λ line. refl))

final_last : (found : List Clause) (t : Token) → wait_on found t ≡ true → has (single_at once_final found) t ≡ false
final_last found = let test : Token → Bool = has (single_at once_final found) in
    wait_apart found test (λ line. refl) (label_apart found test (λ line. refl) (priority_apart found test (λ line. refl) (λ line. refl)))

if_last : (found : List Clause) (t : Token) → final_on found t ≡ true → has (single_at once_if found) t ≡ false
if_last found = let test : Token → Bool = has (single_at once_if found) in
    final_apart found test (λ line. refl) (wait_apart found test (λ line. refl) (label_apart found test (λ line. refl) (priority_apart found test (λ line. refl) (λ line. refl))))

reduction_last : (found : List Clause) (t : Token) → if_on found t ≡ true → has reduction_at t ≡ false
unfolding reduction_of
reduction_last found = let test : Token → Bool = has reduction_at in
    if_apart found test (λ line. refl) (final_apart found test (λ line. refl) (wait_apart found test (λ line. refl) (label_apart found test (λ line. refl) (priority_apart found test (λ line. refl) (λ line. refl)))))

access_last : (found : List Clause) (t : Token) → reduction_on found t ≡ true → has access_at t ≡ false
unfolding access_of
access_last found = let test : Token → Bool = has access_at in
    or_apart (has reduction_at) (if_on found) test (on_reduction test (λ line. refl) (λ line. refl))
    (if_apart found test (λ line. refl) (final_apart found test (λ line. refl) (wait_apart found test (λ line. refl) (label_apart found test (λ line. refl) (priority_apart found test (λ line. refl) (λ line. refl))))))

-- a clause of whose kind none was found, if a task or a task loop has it once at most
pub record NewClause (found : List Clause) (xs : List Token) (c : Clause) : Type 0 where
  pub is : IsClause xs c
  pub new : IsNew found c

module _ {expression : Reader Expr} {X : List Token → Token → Type 0} (part_of : Exact expression IsWhole X goes_on) (first : Begun expression begins_expression) where
  abbrev SectionsDeep : List Token → Token → Type 0
  SectionsDeep = IsExcessBehind OpensSections X

  pub exact_bracketed_sections : Exact (read_bracketed_sections expression) (Bracketed (codes "(") (codes ")") IsSections) (BracketedDeep (codes "(") (IsExcessBehind OpensSections X)) never
  unfolding read_bracketed_sections
  exact_bracketed_sections = exact_bracketed (codes "(") (codes ")") (exact_sections part_of first) sections_viable sections_close refl refl

  abbrev Depending : List Token → Clause → Type 0
  Depending = Mapped dependency_of (Headed access_at (Bracketed (codes "(") (codes ")") IsSections))

  abbrev DependingDeep : List Token → Token → Type 0
  DependingDeep = HeadedDeep access_at (BracketedDeep (codes "(") SectionsDeep)

  depend_into : (xs : List Token) (c : Clause) → Depending xs c → IsDepend xs c
  depend_into xs c w = let h = w.whole in let b = h.behind in
      subst (λ c. IsDepend xs c) w.made (depend h.token b.opened b.inner b.closed w.part.0.0 w.part.0.1 w.part.0.2 (h.split ∙ ap (λ ys. h.token ∷ ys) b.split) h.passes b.opens b.closes b.inside)

  depend_back : (xs : List Token) (c : Clause) → IsDepend xs c → Depending xs c
  depend_back xs c (depend {sections = sections} t opened inner closed mode strong fresh e a o m w) = record {
    part = ((mode, strong, fresh), sections);
    made = refl;
    whole = record { token = t; back = opened ∷ (inner ++ (closed ∷ [])); split = e; passes = a; behind = record { opened = opened; inner = inner; closed = closed; split = refl; opens = o; closes = m; inside = w } };
  }

  depend_deeper : (xs : List Token) (t : Token) → DependingDeep xs t → IsExcessBehind OpensDepend X xs t
  depend_deeper xs t d = let b = d.deep in let x = b.deep in record {
    front = d.token ∷ b.opened ∷ x.front;
    inner = x.inner;
    split = d.split ∙ ap (λ ys. d.token ∷ ys) (b.split ∙ ap (λ ys. b.opened ∷ ys) x.split);
    opens = depend_sections d.token b.opened d.value.0 d.value.1 d.value.2 x.front refl d.passes b.opens x.opens;
    excess = x.excess;
  }

  depend_upper_by : (xs before inner : List Token) (t : Token) → xs ≡ before ++ inner → X inner t → OpensDepend before → DependingDeep xs t
  depend_upper_by xs before inner t e x (depend_sections p opened mode strong fresh front s a o i) = record {
    token = p;
    back = opened ∷ (front ++ inner);
    value = (mode, strong, fresh);
    split = e ∙ ap (λ ys. ys ++ inner) s;
    passes = a;
    deep = record { opened = opened; inner = front ++ inner; split = refl; opens = o; deep = record { front = front; inner = inner; split = refl; opens = i; excess = x } };
  }

  depend_upper : (xs : List Token) (t : Token) → IsExcessBehind OpensDepend X xs t → DependingDeep xs t
  depend_upper xs t w = depend_upper_by xs w.front w.inner t w.split w.excess w.opens

  pub exact_depend : Exact (read_depend expression) IsDepend (IsExcessBehind OpensDepend X) never
  unfolding read_depend access_of
  exact_depend = exact_as depend_into depend_back depend_deeper depend_upper
      (exact_mapped dependency_of (exact_headed access_at exact_bracketed_sections (record { what = kinds.Name (codes "in"); line = 0 }) (Read, true, false) refl
      (bracketed_viable (codes "(") (codes ")") refl refl sections_viable)))

  pub begun_depend : Begun (read_depend expression) (has access_at)
  unfolding read_depend
  begun_depend = begun_mapped dependency_of (begun_headed access_at exact_bracketed_sections)

  -- reductions
  abbrev Folding : List Token → Op × List Section → Type 0
  Folding = Headed fold_at (Bracketed (codes ":") (codes ")") IsSections)

  abbrev FoldingDeep : List Token → Token → Type 0
  FoldingDeep = HeadedDeep fold_at (BracketedDeep (codes ":") SectionsDeep)

  exact_colon : Exact (read_bracketed (codes ":") (codes ")") (read_sections expression)) (Bracketed (codes ":") (codes ")") IsSections) (BracketedDeep (codes ":") SectionsDeep) never
  exact_colon = exact_bracketed (codes ":") (codes ")") (exact_sections part_of first) sections_viable sections_close refl refl

  exact_folded : Exact {A = Op × List Section} (read_folded expression) Folding FoldingDeep never
  unfolding read_folded fold_of
  exact_folded = exact_headed fold_at exact_colon (record { what = kinds.Symbol (codes "+"); line = 0 }) fold.Add refl (bracketed_viable (codes ":") (codes ")") refl refl sections_viable)

  folded_viable : Viable Folding []
  unfolding fold_of
  folded_viable = let v = bracketed_viable (codes ":") (codes ")") refl refl sections_viable in record {
    more = record { what = kinds.Symbol (codes "+"); line = 0 } ∷ v.more;
    value = (fold.Add, v.value);
    member = record { token = record { what = kinds.Symbol (codes "+"); line = 0 }; back = v.more; split = refl; passes = refl; behind = v.member };
  }

  abbrev Reducing : List Token → Clause → Type 0
  Reducing = Mapped reduction_of_parts (Headed reduction_at (Behind (codes "(") Folding))

  abbrev ReducingDeep : List Token → Token → Type 0
  ReducingDeep = HeadedDeep reduction_at (BracketedDeep (codes "(") FoldingDeep)

  exact_opened : Exact {A = Op × List Section} (read_behind (codes "(") (read_folded expression)) (Behind (codes "(") Folding) (BracketedDeep (codes "(") FoldingDeep) never
  exact_opened = exact_behind (codes "(") exact_folded folded_viable refl

  opened_viable : Viable (Behind (codes "(") Folding) []
  opened_viable = record {
    more = record { what = kinds.Symbol (codes "("); line = 0 } ∷ folded_viable.more;
    value = folded_viable.value;
    member = record { mark = record { what = kinds.Symbol (codes "("); line = 0 }; back = folded_viable.more; split = refl; marks = refl; behind = folded_viable.member };
  }

  exact_reduction : Exact (read_reduction expression) Reducing ReducingDeep never
  unfolding read_reduction reduction_of
  exact_reduction = exact_mapped reduction_of_parts (exact_headed reduction_at exact_opened (record { what = kinds.Name (codes "reduction"); line = 0 }) true refl opened_viable)

  begun_reduction : Begun (read_reduction expression) (has reduction_at)
  unfolding read_reduction
  begun_reduction = begun_mapped reduction_of_parts (begun_headed reduction_at exact_opened)

  -- a clause with an expression
  abbrev Lone : Single → List Clause → (Expr → Clause) → List Token → Clause → Type 0
  Lone s found make = Mapped make (Mapped latter (Headed (single_at s found) (Bracketed (codes "(") (codes ")") IsWhole)))

  abbrev LoneDeep : Single → List Clause → List Token → Token → Type 0
  LoneDeep s found = HeadedDeep (single_at s found) (BracketedDeep (codes "(") X)

  exact_brackets : Exact (read_brackets expression) (Bracketed (codes "(") (codes ")") IsWhole) (BracketedDeep (codes "(") X) never
  unfolding read_brackets
  exact_brackets = exact_bracketed (codes "(") (codes ")") part_of whole_viable bracket_apart refl refl

  none_begins : (starts : Token → Bool) → ((t : Token) → starts t ≡ false) → (ts : List Token) → begins starts ts ≡ false
  none_begins starts none [] = refl
  none_begins starts none (t ∷ ts) = none t

  stood : (s : Single) (found : List Clause) (t : Token) (n : ℕ) → stands s found ≡ true → single_at s found t ≡ Some n → ⊥
  stood s found t n e told = let free : stands s found ≡ false = (single_told s found t n told).1 in absurd (cc)

  begun_lone : (s : Single) (found : List Clause) (make : Expr → Clause) → Begun (read_single expression s found make) (has (single_at s found))
  unfolding read_single
  begun_lone s found make = begun_mapped make (begun_mapped latter (begun_headed (single_at s found) exact_brackets))

  exact_lone : (s : Single) (found : List Clause) (make : Expr → Clause) (word : Token) → is_single_word s word.what ≡ true → stands s found ≡ false → Exact (read_single expression s found make) (Lone s found make) (LoneDeep s found) never
  unfolding read_single
  exact_lone s found make word is free = exact_mapped make (exact_mapped latter
      (exact_headed (single_at s found) exact_brackets word word.line (tells_single s found word is free) (bracketed_viable (codes "(") (codes ")") refl refl whole_viable)))

  failing_lone : (s : Single) (found : List Clause) (make : Expr → Clause) → stands s found ≡ true → Failing (read_single expression s found make) (Lone s found make) (LoneDeep s found)
  failing_lone s found make e = record {
    fails = λ ts. (begun_lone s found make).refuses ts (none_begins (has (single_at s found)) (no_single s found e) ts);
    no_member = λ xs a w. stood s found w.whole.whole.token w.whole.part.0 e w.whole.whole.passes;
    no_place = λ xs t d. stood s found d.token d.value e d.passes;
  }

  perhaps_lone : (s : Single) (found : List Clause) (make : Expr → Clause) (word : Token) → is_single_word s word.what ≡ true → Perhaps (read_single expression s found make) (Lone s found make) (LoneDeep s found) never
  perhaps_lone s found make word is = on (stands s found) refl where
    on : (b : Bool) → stands s found ≡ b → Perhaps (read_single expression s found make) (Lone s found make) (LoneDeep s found) never
    on true e = fails_at_once (failing_lone s found make e)
    on false e = exactly (exact_lone s found make word is e)

  -- `wait`
  abbrev Waiting : List Clause → List Token → Clause → Type 0
  Waiting found = Mapped (λ line. clause.Wait) (One (single_at once_wait found))

  begun_waiting : (found : List Clause) → Begun (read_waiting found) (has (single_at once_wait found))
  unfolding read_waiting
  begun_waiting found = begun_mapped (λ line. clause.Wait) (begun_one (single_at once_wait found))

  perhaps_waiting : (found : List Clause) → Perhaps (read_waiting found) (Waiting found) Nowhere never
  unfolding read_waiting
  perhaps_waiting found = on (stands once_wait found) refl where
    on : (b : Bool) → stands once_wait found ≡ b → Perhaps (read_mapped (λ line. clause.Wait) (read_one (single_at once_wait found))) (Waiting found) Nowhere never
    on true e = fails_at_once (record {
      fails = λ ts. (begun_mapped (λ line. clause.Wait) (begun_one (single_at once_wait found))).refuses ts (none_begins (has (single_at once_wait found)) (no_single once_wait found e) ts);
      no_member = λ xs a w. stood once_wait found w.whole.token w.part e w.whole.passes;
      no_place = λ xs t d. nowhere xs t d;
    })
    on false e = exactly (exact_mapped (λ line. clause.Wait)
        (exact_one (single_at once_wait found) (record { what = kinds.Name (codes "wait"); line = 0 }) 0 (tells_single once_wait found (record { what = kinds.Name (codes "wait"); line = 0 }) refl e) never))

  -- labels
  abbrev Labelling : List Clause → List Token → Clause → Type 0
  Labelling found = Mapped clause.Label (Mapped latter (Headed (single_at once_label found) (Bracketed (codes "(") (codes ")") (One label_at))))

  abbrev LabellingDeep : List Clause → List Token → Token → Type 0
  LabellingDeep found = HeadedDeep (single_at once_label found) (BracketedDeep (codes "(") Nowhere)

  label_viable : Viable (One label_at) []
  label_viable = record { more = record { what = kinds.Name []; line = 0 } ∷ []; value = []; member = record { token = record { what = kinds.Name []; line = 0 }; only = refl; passes = refl } }

  exact_bracketed_label : Exact (read_bracketed (codes "(") (codes ")") (read_one label_at)) (Bracketed (codes "(") (codes ")") (One label_at)) (BracketedDeep (codes "(") Nowhere) never
  exact_bracketed_label = exact_bracketed (codes "(") (codes ")") (exact_one label_at (record { what = kinds.Name []; line = 0 }) [] refl never) label_viable (λ t e. refl) refl refl

  begun_labelling : (found : List Clause) → Begun (read_label found) (has (single_at once_label found))
  unfolding read_label
  begun_labelling found = begun_mapped clause.Label (begun_mapped latter (begun_headed (single_at once_label found) exact_bracketed_label))

  failing_label : (found : List Clause) → stands once_label found ≡ true → Failing (read_label found) (Labelling found) (LabellingDeep found)
  failing_label found e = record {
    fails = λ ts. (begun_labelling found).refuses ts (none_begins (has (single_at once_label found)) (no_single once_label found e) ts);
    no_member = λ xs a w. stood once_label found w.whole.whole.token w.whole.part.0 e w.whole.whole.passes;
    no_place = λ xs t d. stood once_label found d.token d.value e d.passes;
  }

  exact_label : (found : List Clause) → stands once_label found ≡ false → Exact (read_label found) (Labelling found) (LabellingDeep found) never
  unfolding read_label
  exact_label found e = exact_mapped clause.Label (exact_mapped latter
      (exact_headed (single_at once_label found) exact_bracketed_label (record { what = kinds.Name (codes "label"); line = 0 }) 0
      (tells_single once_label found (record { what = kinds.Name (codes "label"); line = 0 }) refl e) (bracketed_viable (codes "(") (codes ")") refl refl label_viable)))

  perhaps_label : (found : List Clause) → Perhaps (read_label found) (Labelling found) (LabellingDeep found) never
  perhaps_label found = on (stands once_label found) refl where
    on : (b : Bool) → stands once_label found ≡ b → Perhaps (read_label found) (Labelling found) (LabellingDeep found) never
    on true e = fails_at_once (failing_label found e)
    on false e = exactly (exact_label found e)

  abbrev PriorityOn : List Clause → List Token → Clause → Type 0
  PriorityOn found = Either (Lone once_priority found clause.Priority) (Lone once_grain found clause.Grain)

  abbrev LabelOn : List Clause → List Token → Clause → Type 0
  LabelOn found = Either (Labelling found) (PriorityOn found)

  abbrev WaitOn : List Clause → List Token → Clause → Type 0
  WaitOn found = Either (Waiting found) (LabelOn found)

  abbrev FinalOn : List Clause → List Token → Clause → Type 0
  FinalOn found = Either (Lone once_final found clause.Final) (WaitOn found)

  abbrev IfOn : List Clause → List Token → Clause → Type 0
  IfOn found = Either (Lone once_if found clause.If) (FinalOn found)

  abbrev Claused : List Clause → List Token → Clause → Type 0
  Claused found = Either IsDepend (Either Reducing (IfOn found))

  abbrev PriorityDeep : List Clause → List Token → Token → Type 0
  PriorityDeep found = EitherDeep (LoneDeep once_priority found) (LoneDeep once_grain found)

  abbrev LabelDeep : List Clause → List Token → Token → Type 0
  LabelDeep found = EitherDeep (LabellingDeep found) (PriorityDeep found)

  abbrev WaitDeep : List Clause → List Token → Token → Type 0
  WaitDeep found = EitherDeep Nowhere (LabelDeep found)

  abbrev FinalDeep : List Clause → List Token → Token → Type 0
  FinalDeep found = EitherDeep (LoneDeep once_final found) (WaitDeep found)

  abbrev IfDeep : List Clause → List Token → Token → Type 0
  IfDeep found = EitherDeep (LoneDeep once_if found) (FinalDeep found)

  abbrev ClausedDeep : List Clause → List Token → Token → Type 0
  ClausedDeep found = EitherDeep (IsExcessBehind OpensDepend X) (EitherDeep ReducingDeep (IfDeep found))

  abbrev read_priority_on : List Clause → Reader Clause
  read_priority_on found = read_either (has (single_at once_priority found)) (read_single expression once_priority found clause.Priority) (read_single expression once_grain found clause.Grain)

  abbrev read_label_on : List Clause → Reader Clause
  read_label_on found = read_either (has (single_at once_label found)) (read_label found) (read_priority_on found)

  abbrev read_wait_on : List Clause → Reader Clause
  read_wait_on found = read_either (has (single_at once_wait found)) (read_waiting found) (read_label_on found)

  abbrev read_final_on : List Clause → Reader Clause
  read_final_on found = read_either (has (single_at once_final found)) (read_single expression once_final found clause.Final) (read_wait_on found)

  abbrev read_if_on : List Clause → Reader Clause
  read_if_on found = read_either (has (single_at once_if found)) (read_single expression once_if found clause.If) (read_final_on found)

  begun_priority_on : (found : List Clause) → Begun (read_priority_on found) (priority_on found)
  begun_priority_on found = begun_either (has (single_at once_priority found)) (begun_lone once_priority found clause.Priority) (begun_lone once_grain found clause.Grain)

  begun_label_on : (found : List Clause) → Begun (read_label_on found) (label_on found)
  begun_label_on found = begun_either (has (single_at once_label found)) (begun_labelling found) (begun_priority_on found)

  begun_wait_on : (found : List Clause) → Begun (read_wait_on found) (wait_on found)
  begun_wait_on found = begun_either (has (single_at once_wait found)) (begun_waiting found) (begun_label_on found)

  begun_final_on : (found : List Clause) → Begun (read_final_on found) (final_on found)
  begun_final_on found = begun_either (has (single_at once_final found)) (begun_lone once_final found clause.Final) (begun_wait_on found)

  begun_if_on : (found : List Clause) → Begun (read_if_on found) (if_on found)
  begun_if_on found = begun_either (has (single_at once_if found)) (begun_lone once_if found clause.If) (begun_final_on found)

  perhaps_priority_on : (found : List Clause) → Perhaps (read_priority_on found) (PriorityOn found) (PriorityDeep found) never
  perhaps_priority_on found = perhaps_either (has (single_at once_priority found)) (has (single_at once_grain found)) (begun_lone once_priority found clause.Priority) (begun_lone once_grain found clause.Grain)
      (on_grain found (has (single_at once_priority found)) (λ line. refl))
      (perhaps_lone once_priority found clause.Priority (record { what = kinds.Name (codes "priority"); line = 0 }) refl) (perhaps_lone once_grain found clause.Grain (record { what = kinds.Name (codes "grainsize"); line = 0 }) refl)

  perhaps_label_on : (found : List Clause) → Perhaps (read_label_on found) (LabelOn found) (LabelDeep found) never
  perhaps_label_on found = perhaps_either (has (single_at once_label found)) (priority_on found) (begun_labelling found) (begun_priority_on found) (label_last found) (perhaps_label found) (perhaps_priority_on found)

  perhaps_wait_on : (found : List Clause) → Perhaps (read_wait_on found) (WaitOn found) (WaitDeep found) never
  perhaps_wait_on found = perhaps_either (has (single_at once_wait found)) (label_on found) (begun_waiting found) (begun_label_on found) (wait_last found) (perhaps_waiting found) (perhaps_label_on found)

  perhaps_final_on : (found : List Clause) → Perhaps (read_final_on found) (FinalOn found) (FinalDeep found) never
  perhaps_final_on found = perhaps_either (has (single_at once_final found)) (wait_on found) (begun_lone once_final found clause.Final) (begun_wait_on found) (final_last found)
      (perhaps_lone once_final found clause.Final (record { what = kinds.Name (codes "final"); line = 0 }) refl) (perhaps_wait_on found)

  perhaps_if_on : (found : List Clause) → Perhaps (read_if_on found) (IfOn found) (IfDeep found) never
  perhaps_if_on found = perhaps_either (has (single_at once_if found)) (final_on found) (begun_lone once_if found clause.If) (begun_final_on found) (if_last found)
      (perhaps_lone once_if found clause.If (record { what = kinds.Keyword (codes "if"); line = 0 }) refl) (perhaps_final_on found)

  exact_reduction_on : (found : List Clause) → Exact (read_either (has reduction_at) (read_reduction expression) (read_if_on found)) (Either Reducing (IfOn found)) (EitherDeep ReducingDeep (IfDeep found)) never
  exact_reduction_on found = exact_or_perhaps (has reduction_at) (if_on found) begun_reduction (begun_if_on found) (reduction_last found) exact_reduction (perhaps_if_on found)

  begun_reduction_on : (found : List Clause) → Begun (read_either (has reduction_at) (read_reduction expression) (read_if_on found)) (reduction_on found)
  begun_reduction_on found = begun_either (has reduction_at) begun_reduction (begun_if_on found)

  exact_claused : (found : List Clause) → Exact (read_clause expression found) (Claused found) (ClausedDeep found) never
  unfolding read_clause
  exact_claused found = exact_or (has access_at) (reduction_on found) exact_depend begun_depend (exact_reduction_on found) (begun_reduction_on found) (access_last found)

  pub begun_clause : (found : List Clause) → Begun (read_clause expression found) (clause_starts found)
  unfolding read_clause
  begun_clause found = begun_either (has access_at) begun_depend (begun_reduction_on found)

  depend_is_new : (found : List Clause) (xs : List Token) (c : Clause) → IsDepend xs c → NewClause found xs c
  depend_is_new found xs c (depend {sections = sections} t opened inner closed mode strong fresh e a o m w) =
      record { is = dependency (depend t opened inner closed mode strong fresh e a o m w); new = depend_new found mode strong fresh sections }

  if_into : (found : List Clause) (xs : List Token) (c : Clause) → Lone once_if found clause.If xs c → NewClause found xs c
  if_into found xs c w = let h = w.whole.whole in let b = h.behind in let told = single_told once_if found h.token w.whole.part.0 h.passes in
      subst (λ c. NewClause found xs c) (ap clause.If w.whole.made ∙ w.made) (record {
        is = condition h.token b.opened b.inner b.closed (h.split ∙ ap (λ ys. h.token ∷ ys) b.split) told.0 b.opens b.closes b.inside;
        new = if_new found w.whole.part.1 told.1;
      })

  final_into : (found : List Clause) (xs : List Token) (c : Clause) → Lone once_final found clause.Final xs c → NewClause found xs c
  final_into found xs c w = let h = w.whole.whole in let b = h.behind in let told = single_told once_final found h.token w.whole.part.0 h.passes in
      subst (λ c. NewClause found xs c) (ap clause.Final w.whole.made ∙ w.made) (record {
        is = final_task h.token b.opened b.inner b.closed (h.split ∙ ap (λ ys. h.token ∷ ys) b.split) told.0 b.opens b.closes b.inside;
        new = final_new found w.whole.part.1 told.1;
      })

  priority_into : (found : List Clause) (xs : List Token) (c : Clause) → Lone once_priority found clause.Priority xs c → NewClause found xs c
  priority_into found xs c w = let h = w.whole.whole in let b = h.behind in let told = single_told once_priority found h.token w.whole.part.0 h.passes in
      subst (λ c. NewClause found xs c) (ap clause.Priority w.whole.made ∙ w.made) (record {
        is = priority h.token b.opened b.inner b.closed (h.split ∙ ap (λ ys. h.token ∷ ys) b.split) told.0 b.opens b.closes b.inside;
        new = priority_new found w.whole.part.1 told.1;
      })

  grain_into : (found : List Clause) (xs : List Token) (c : Clause) → Lone once_grain found clause.Grain xs c → NewClause found xs c
  grain_into found xs c w = let h = w.whole.whole in let b = h.behind in let told = single_told once_grain found h.token w.whole.part.0 h.passes in
      subst (λ c. NewClause found xs c) (ap clause.Grain w.whole.made ∙ w.made) (record {
        is = grain h.token b.opened b.inner b.closed (h.split ∙ ap (λ ys. h.token ∷ ys) b.split) told.0 b.opens b.closes b.inside;
        new = grain_new found w.whole.part.1 told.1;
      })

  wait_into : (found : List Clause) (xs : List Token) (c : Clause) → Waiting found xs c → NewClause found xs c
  wait_into found xs c w = let told = single_told once_wait found w.whole.token w.part w.whole.passes in
      subst (λ c. NewClause found xs c) w.made (record { is = waiting w.whole.token w.whole.only told.0; new = wait_new found told.1 })

  label_into : (found : List Clause) (xs : List Token) (c : Clause) → Labelling found xs c → NewClause found xs c
  label_into found xs c w = let h = w.whole.whole in let b = h.behind in let l = b.inside in let told = single_told once_label found h.token w.whole.part.0 h.passes in
      subst (λ c. NewClause found xs c) (ap clause.Label w.whole.made ∙ w.made) (record {
        is = labelled h.token b.opened l.token b.closed w.whole.part.1 (h.split ∙ ap (λ ys. h.token ∷ ys) (b.split ∙ ap (λ ys. b.opened ∷ (ys ++ (b.closed ∷ []))) l.only)) told.0 b.opens b.closes
            (label_told l.token w.whole.part.1 l.passes);
        new = label_new found w.whole.part.1 told.1;
      })

  reduction_into : (found : List Clause) (xs : List Token) (c : Clause) → Reducing xs c → NewClause found xs c
  reduction_into found xs c w = let h = w.whole in let o = h.behind in let f = o.behind in let b = f.behind in
      subst (λ c. NewClause found xs c) w.made (record {
        is = reduction h.token o.mark f.token b.opened b.inner b.closed w.part.0 w.part.1.0
            (h.split ∙ ap (λ ys. h.token ∷ ys) (o.split ∙ ap (λ ys. o.mark ∷ ys) (f.split ∙ ap (λ ys. f.token ∷ ys) b.split))) h.passes o.marks f.passes b.opens b.closes b.inside;
        new = depend_new found (Fold w.part.1.0) w.part.0 false w.part.1.1;
      })

  clause_into : (found : List Clause) (xs : List Token) (c : Clause) → Claused found xs c → NewClause found xs c
  clause_into found xs c (one_way w) = depend_is_new found xs c w
  clause_into found xs c (other_way (one_way w)) = reduction_into found xs c w
  clause_into found xs c (other_way (other_way (one_way w))) = if_into found xs c w
  clause_into found xs c (other_way (other_way (other_way (one_way w)))) = final_into found xs c w
  clause_into found xs c (other_way (other_way (other_way (other_way (one_way w))))) = wait_into found xs c w
  clause_into found xs c (other_way (other_way (other_way (other_way (other_way (one_way w)))))) = label_into found xs c w
  clause_into found xs c (other_way (other_way (other_way (other_way (other_way (other_way (one_way w))))))) = priority_into found xs c w
  clause_into found xs c (other_way (other_way (other_way (other_way (other_way (other_way (other_way w))))))) = grain_into found xs c w

  lone_back : (s : Single) (found : List Clause) (make : Expr → Clause) (xs : List Token) (t opened : Token) (inner : List Token) (closed : Token) (v : Expr) → xs ≡ t ∷ opened ∷ (inner ++ (closed ∷ []))
      → is_single_word s t.what ≡ true → IsOpen opened → IsClose closed → IsWhole inner v → stands s found ≡ false → Lone s found make xs (make v)
  lone_back s found make xs t opened inner closed v e k o m w free = record {
    part = v;
    made = refl;
    whole = record {
      part = (t.line, v);
      made = refl;
      whole = record {
        token = t;
        back = opened ∷ (inner ++ (closed ∷ []));
        split = e;
        passes = tells_single s found t k free;
        behind = record { opened = opened; inner = inner; closed = closed; split = refl; opens = o; closes = m; inside = w };
      };
    };
  }

  clause_back_by : (found : List Clause) (xs : List Token) (c : Clause) → IsClause xs c → IsNew found c → Claused found xs c
  clause_back_by found xs c (dependency w) new = one_way w
  clause_back_by found xs c (reduction {sections = sections} t opened o colon inner closed strong operator e r p f k m w) new = other_way (one_way (record {
    part = (strong, (operator, sections));
    made = refl;
    whole = record {
      token = t;
      back = opened ∷ o ∷ colon ∷ (inner ++ (closed ∷ []));
      split = e;
      passes = r;
      behind = record {
        mark = opened;
        back = o ∷ colon ∷ (inner ++ (closed ∷ []));
        split = refl;
        marks = p;
        behind = record {
          token = o;
          back = colon ∷ (inner ++ (closed ∷ []));
          split = refl;
          passes = f;
          behind = record { opened = colon; inner = inner; closed = closed; split = refl; opens = k; closes = m; inside = w };
        };
      };
    };
  }))
  clause_back_by found xs c (condition {e = v} t opened inner closed e k o m w) new = other_way (other_way (one_way (lone_back once_if found clause.If xs t opened inner closed v e k o m w (new once_if refl))))
  clause_back_by found xs c (final_task {e = v} t opened inner closed e k o m w) new =
      other_way (other_way (other_way (one_way (lone_back once_final found clause.Final xs t opened inner closed v e k o m w (new once_final refl)))))
  clause_back_by found xs c (waiting t e k) new =
      other_way (other_way (other_way (other_way (one_way (record { part = t.line; made = refl; whole = record { token = t; only = e; passes = tells_single once_wait found t k (new once_wait refl) } })))))
  clause_back_by found xs c (labelled t opened inner closed bytes e k o m l) new = other_way (other_way (other_way (other_way (other_way (one_way (record {
    part = bytes;
    made = refl;
    whole = record {
      part = (t.line, bytes);
      made = refl;
      whole = record {
        token = t;
        back = opened ∷ inner ∷ closed ∷ [];
        split = e;
        passes = tells_single once_label found t k (new once_label refl);
        behind = record { opened = opened; inner = inner ∷ []; closed = closed; split = refl; opens = o; closes = m; inside = record { token = inner; only = refl; passes = tells_label inner bytes l } };
      };
    };
  }))))))
  clause_back_by found xs c (priority {e = v} t opened inner closed e k o m w) new =
      other_way (other_way (other_way (other_way (other_way (other_way (one_way (lone_back once_priority found clause.Priority xs t opened inner closed v e k o m w (new once_priority refl))))))))
  clause_back_by found xs c (grain {e = v} t opened inner closed e k o m w) new =
      other_way (other_way (other_way (other_way (other_way (other_way (other_way (lone_back once_grain found clause.Grain xs t opened inner closed v e k o m w (new once_grain refl))))))))

  clause_back : (found : List Clause) (xs : List Token) (c : Clause) → NewClause found xs c → Claused found xs c
  clause_back found xs c w = clause_back_by found xs c w.is w.new

  lone_place : (s : Single) (found : List Clause) (xs : List Token) (t : Token) (d : LoneDeep s found xs t) → OpensLoopClause found (d.token ∷ d.deep.opened ∷ []) → IsExcessBehind (OpensLoopClause found) X xs t
  lone_place s found xs t d o = record { front = d.token ∷ d.deep.opened ∷ []; inner = d.deep.inner; split = d.split ∙ ap (λ ys. d.token ∷ ys) d.deep.split; opens = o; excess = d.deep.deep }

  none_found : (s : Single) (found : List Clause) (t : Token) (n : ℕ) → single_at s found t ≡ Some n → count_by (is_single s) found ≡ 0
  none_found s found t n e = count_none (is_single s) found (single_told s found t n e).1

  clause_deeper : (found : List Clause) (xs : List Token) (t : Token) → ClausedDeep found xs t → IsExcessBehind (OpensLoopClause found) X xs t
  clause_deeper found xs t (one_deep d) = record { front = d.front; inner = d.inner; split = d.split; opens = task_clause (clause_dependency d.opens); excess = d.excess }
  clause_deeper found xs t (other_deep (one_deep d)) = let o = d.deep in let f = o.deep in let k = f.deep in let x = k.deep in record {
    front = d.token ∷ o.opened ∷ f.token ∷ k.opened ∷ x.front;
    inner = x.inner;
    split = d.split ∙ ap (λ ys. d.token ∷ ys) (o.split ∙ ap (λ ys. o.opened ∷ ys) (f.split ∙ ap (λ ys. f.token ∷ ys) (k.split ∙ ap (λ ys. k.opened ∷ ys) x.split)));
    opens = task_clause (clause_reduction d.token o.opened f.token k.opened d.value f.value x.front refl d.passes o.opens f.passes k.opens x.opens);
    excess = x.excess;
  }
  clause_deeper found xs t (other_deep (other_deep (one_deep d))) =
      lone_place once_if found xs t d (task_clause (clause_condition d.token d.deep.opened refl (single_told once_if found d.token d.value d.passes).0 d.deep.opens (none_found once_if found d.token d.value d.passes)))
  clause_deeper found xs t (other_deep (other_deep (other_deep (one_deep d)))) =
      lone_place once_final found xs t d (task_clause (clause_final d.token d.deep.opened refl (single_told once_final found d.token d.value d.passes).0 d.deep.opens (none_found once_final found d.token d.value d.passes)))
  clause_deeper found xs t (other_deep (other_deep (other_deep (other_deep (one_deep d))))) = nowhere xs t d
  clause_deeper found xs t (other_deep (other_deep (other_deep (other_deep (other_deep (one_deep d)))))) = nowhere d.deep.inner t d.deep.deep
  clause_deeper found xs t (other_deep (other_deep (other_deep (other_deep (other_deep (other_deep (one_deep d))))))) =
      lone_place once_priority found xs t d (task_clause (clause_priority d.token d.deep.opened refl (single_told once_priority found d.token d.value d.passes).0 d.deep.opens (none_found once_priority found d.token d.value d.passes)))
  clause_deeper found xs t (other_deep (other_deep (other_deep (other_deep (other_deep (other_deep (other_deep d))))))) =
      lone_place once_grain found xs t d (clause_grain d.token d.deep.opened refl (single_told once_grain found d.token d.value d.passes).0 d.deep.opens (none_found once_grain found d.token d.value d.passes))

  lone_deep : (s : Single) (found : List Clause) (xs before inner : List Token) (t p opened : Token) → xs ≡ before ++ inner → before ≡ p ∷ opened ∷ [] → is_single_word s p.what ≡ true → IsOpen opened
      → count_by (is_single s) found ≡ 0 → X inner t → LoneDeep s found xs t
  lone_deep s found xs before inner t p opened e b k o none x = record {
    token = p;
    back = opened ∷ inner;
    value = p.line;
    split = e ∙ ap (λ ys. ys ++ inner) b;
    passes = tells_single s found p k (none_counts (is_single s) found none);
    deep = record { opened = opened; inner = inner; split = refl; opens = o; deep = x };
  }

  clause_upper_by : (found : List Clause) (xs before inner : List Token) (t : Token) → xs ≡ before ++ inner → X inner t → OpensLoopClause found before → ClausedDeep found xs t
  clause_upper_by found xs before inner t e x (task_clause (clause_dependency o)) = one_deep (record { front = before; inner = inner; split = e; opens = o; excess = x })
  clause_upper_by found xs before inner t e x (task_clause (clause_reduction p opened o colon strong operator front b r q f k i)) = other_deep (one_deep (record {
    token = p;
    back = opened ∷ o ∷ colon ∷ (front ++ inner);
    value = strong;
    split = e ∙ ap (λ ys. ys ++ inner) b;
    passes = r;
    deep = record {
      opened = opened;
      inner = o ∷ colon ∷ (front ++ inner);
      split = refl;
      opens = q;
      deep = record {
        token = o;
        back = colon ∷ (front ++ inner);
        value = operator;
        split = refl;
        passes = f;
        deep = record { opened = colon; inner = front ++ inner; split = refl; opens = k; deep = record { front = front; inner = inner; split = refl; opens = i; excess = x } };
      };
    };
  }))
  clause_upper_by found xs before inner t e x (task_clause (clause_condition p opened b k o none)) = other_deep (other_deep (one_deep (lone_deep once_if found xs before inner t p opened e b k o none x)))
  clause_upper_by found xs before inner t e x (task_clause (clause_final p opened b k o none)) = other_deep (other_deep (other_deep (one_deep (lone_deep once_final found xs before inner t p opened e b k o none x))))
  clause_upper_by found xs before inner t e x (task_clause (clause_priority p opened b k o none)) =
      other_deep (other_deep (other_deep (other_deep (other_deep (other_deep (one_deep (lone_deep once_priority found xs before inner t p opened e b k o none x)))))))
  clause_upper_by found xs before inner t e x (clause_grain p opened b k o none) =
      other_deep (other_deep (other_deep (other_deep (other_deep (other_deep (other_deep (lone_deep once_grain found xs before inner t p opened e b k o none x)))))))

  clause_upper : (found : List Clause) (xs : List Token) (t : Token) → IsExcessBehind (OpensLoopClause found) X xs t → ClausedDeep found xs t
  clause_upper found xs t w = clause_upper_by found xs w.front w.inner t w.split w.excess w.opens

  pub exact_clause : (found : List Clause) → Exact (read_clause expression found) (NewClause found) (IsExcessBehind (OpensLoopClause found) X) never
  exact_clause found = exact_as (clause_into found) (clause_back found) (clause_deeper found) (clause_upper found) (exact_claused found)

-- there is a dependency, and so a clause
pub depend_viable : Viable IsDepend []
unfolding access_of
depend_viable = let v = sections_viable in record {
  more = record { what = kinds.Name (codes "in"); line = 0 } ∷ record { what = kinds.Symbol (codes "("); line = 0 } ∷ (v.more ++ (record { what = kinds.Symbol (codes ")"); line = 0 } ∷ []));
  value = clause.Depend Read true false v.value;
  member = depend (record { what = kinds.Name (codes "in"); line = 0 }) (record { what = kinds.Symbol (codes "("); line = 0 }) v.more (record { what = kinds.Symbol (codes ")"); line = 0 }) Read true false refl refl refl refl v.member;
}

pub clause_viable : (found : List Clause) → Viable (NewClause found) []
clause_viable found = let v = depend_viable in record { more = v.more; value = v.value; member = new_member v.more v.value v.member } where
  new_member : (xs : List Token) (c : Clause) → IsDepend xs c → NewClause found xs c
  new_member xs c (depend {sections = sections} t opened inner closed mode strong fresh e a o m w) =
      record { is = dependency (depend t opened inner closed mode strong fresh e a o m w); new = depend_new found mode strong fresh sections }
