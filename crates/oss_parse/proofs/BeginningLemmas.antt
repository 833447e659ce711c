-- What begins a statement: each token that the reader looks for begins one, and each statement begins so.
use Rattle.std.proofs.Common.{◌≡◌, ℕ, Bool, true, false, if◌then◌else◌, ◌||◌, List, [], ◌∷◌, ◌++◌, refl, ap, ◌∙◌, Option, Some, None, is_some}
use Rattle.std.specs.Prelude.{codes}
use Rattle.oss_syntax.specs.declared.token.Token.{Token}
use Rattle.oss_syntax.specs.declared.token.TokenKind.{TokenKind}
use Rattle.oss_syntax.specs.declared.token.TokenKind.TheVariants as kinds
use Rattle.oss_syntax.specs.declared.tree.expr.BinOp.{BinOp}
use Rattle.oss_syntax.specs.declared.tree.expr.BinOp.TheVariants as op
use Rattle.oss_syntax.specs.declared.tree.expr.Expr.{Expr}
use Rattle.oss_syntax.specs.declared.tree.pragma.Directive.{Directive}
use Rattle.oss_syntax.specs.declared.tree.stmt.Stmt.{Stmt}
use Rattle.oss_grammar.specs.Expressions.{IsExpr, IsWhole}
use Rattle.oss_grammar.specs.Expressions.IsExpr.{number, tighter}
use Rattle.oss_grammar.specs.Fronts.{Viable}
use Rattle.oss_grammar.specs.OneToken.{is_keyword, IsSymbol, IsKeyword}
use Rattle.oss_grammar.specs.Pragmas.{IsPragma}
use Rattle.oss_grammar.specs.Pragmas.IsPragma.{task as task_pragma, task_loop as loop_pragma, wait_all, wait_on, release as release_pragma}
use Rattle.oss_grammar.specs.Reading.{begins, has}
use Rattle.oss_grammar.specs.SimpleStatements.{IsSimple, IsTarget, IsDeclaration, IsNumKind, step_of}
use Rattle.oss_grammar.specs.SimpleStatements.IsTarget.{name_target, element_target, grid_target, pointer_target, pointed_target}
use Rattle.oss_grammar.specs.SimpleStatements.IsSimple.{assigned, stepped, step_first, called}
use Rattle.oss_grammar.specs.SimpleStatements.IsNumKind.{int_kind, long_kind, unsigned_kind}
use Rattle.oss_grammar.specs.SimpleStatements.IsDeclared.{number_declared}
use Rattle.oss_grammar.specs.SimpleStatements.IsLocal.{plain_local}
use Rattle.oss_grammar.specs.SimpleStatements.IsLocals.{last_local}
use Rattle.oss_grammar.specs.SimpleStatements.IsDeclaration.{declaration}
use Rattle.oss_grammar.specs.StatementLimits.{IsOneItem}
use Rattle.oss_grammar.specs.StatementLimits.IsOneItem.{declared_item, stated_item}
use Rattle.oss_grammar.specs.Statements.{IsStmt, IsAnyStmt}
use Rattle.oss_grammar.specs.Statements.IsStmt.{block, empty, simple, if_alone, if_else, while_loop, for_loop, return_jump, break_jump, continue_jump, print, task, task_loop, task_wait, release}
use Rattle.oss_grammar.specs.Statements.IsItems.{no_item}
use Rattle.oss_grammar.specs.Statements.IsForFirst.{other_first}
use Rattle.oss_grammar.specs.Statements.IsMaybeSimple.{no_simple}
use Rattle.oss_grammar.specs.Statements.IsMaybeWhole.{no_expression}
use Rattle.oss_grammar.specs.Statements.IsPrinted.{nothing_printed}
use Rattle.oss_expressions.specs.TokenValues.{symbol_at, keyword_at, start_in, name_at, named_in}
use Rattle.oss_expressions.proofs.TokenLemmas.{on_symbol, on_keyword, has_symbol, has_keyword}
use Rattle.oss_parse.specs.SimpleReading.{begins_simple, begins_kind, star, step_at, stepped_in, single_kind_at}
use Rattle.oss_parse.specs.StatementReading.{begins_statement, begins_keyword_statement, begins_item}

abbrev mark : List ℕ → Token
mark s = record { what = kinds.Symbol s; line = 1 }

abbrev some_name : Token
some_name = record { what = kinds.Name []; line = 1 }

abbrev zero_token : Token
zero_token = record { what = kinds.Number 0 false; line = 1 }

zero_whole : (e : Expr) → IsExpr 0 (zero_token ∷ []) e → IsWhole (zero_token ∷ []) e
zero_whole e w = tighter (tighter (tighter (tighter (tighter (tighter (tighter (tighter (tighter (tighter (tighter (tighter w)))))))))))

any : (xs more : List Token) (o : Bool) (s : Stmt) → IsStmt o (xs ++ more) s → Viable IsAnyStmt xs
any xs more o s w = record { more = more; value = s; member = record { ends_open = o; is = w } }

-- a keyword begins the statement of its word
if_begins : (t : Token) → IsKeyword (codes "if") t → Viable IsAnyStmt (t ∷ [])
if_begins t k = any (t ∷ []) (mark (codes "(") ∷ zero_token ∷ mark (codes ")") ∷ mark (codes ";") ∷ []) true _
    (if_alone t (mark (codes "(")) (zero_token ∷ []) (mark (codes ")")) (mark (codes ";") ∷ []) refl k refl refl (zero_whole _ (number zero_token 0 false refl refl)) (empty (mark (codes ";")) refl refl))

while_begins : (t : Token) → IsKeyword (codes "while") t → Viable IsAnyStmt (t ∷ [])
while_begins t k = any (t ∷ []) (mark (codes "(") ∷ zero_token ∷ mark (codes ")") ∷ mark (codes ";") ∷ []) false _
    (while_loop t (mark (codes "(")) (zero_token ∷ []) (mark (codes ")")) (mark (codes ";") ∷ []) refl k refl refl (zero_whole _ (number zero_token 0 false refl refl)) (empty (mark (codes ";")) refl refl))

for_begins : (t : Token) → IsKeyword (codes "for") t → Viable IsAnyStmt (t ∷ [])
for_begins t k = any (t ∷ []) (mark (codes "(") ∷ mark (codes ";") ∷ mark (codes ";") ∷ mark (codes ")") ∷ mark (codes ";") ∷ []) false _
    (for_loop t (mark (codes "(")) [] (mark (codes ";")) [] (mark (codes ";")) [] (mark (codes ")")) (mark (codes ";") ∷ []) refl k refl refl refl refl (other_first (no_simple refl)) (no_expression refl) (no_simple refl) (empty (mark (codes ";")) refl refl))

return_begins : (t : Token) → IsKeyword (codes "return") t → Viable IsAnyStmt (t ∷ [])
return_begins t k = any (t ∷ []) (mark (codes ";") ∷ []) false _ (return_jump t [] (mark (codes ";")) refl k refl (no_expression refl))

break_begins : (t : Token) → IsKeyword (codes "break") t → Viable IsAnyStmt (t ∷ [])
break_begins t k = any (t ∷ []) (mark (codes ";") ∷ []) false _ (break_jump t (mark (codes ";")) refl k refl)

continue_begins : (t : Token) → IsKeyword (codes "continue") t → Viable IsAnyStmt (t ∷ [])
continue_begins t k = any (t ∷ []) (mark (codes ";") ∷ []) false _ (continue_jump t (mark (codes ";")) refl k refl)

abbrev some_string : Token
some_string = record { what = kinds.Text []; line = 1 }

print_begins : (t : Token) → IsKeyword (codes "printf") t → Viable IsAnyStmt (t ∷ [])
print_begins t k = any (t ∷ []) (mark (codes "(") ∷ some_string ∷ mark (codes ")") ∷ mark (codes ";") ∷ []) false _
    (print t (mark (codes "(")) some_string [] [] (mark (codes ")")) (mark (codes ";")) refl k refl refl refl refl (nothing_printed refl))

abbrev wait_word : Token
wait_word = record { what = kinds.Name (codes "taskwait"); line = 1 }

abbrev end_token : Token
end_token = record { what = kinds.PragmaEnd; line = 1 }

start_begins : (t : Token) → t.what ≡ kinds.PragmaOss → Viable IsAnyStmt (t ∷ [])
start_begins t k = any (t ∷ []) (wait_word ∷ end_token ∷ []) false _ (task_wait (wait_all t wait_word end_token refl k refl refl))

block_begins : (t : Token) → IsSymbol (codes "{") t → Viable IsAnyStmt (t ∷ [])
block_begins t k = any (t ∷ []) (mark (codes "}") ∷ []) false _ (block t [] (mark (codes "}")) refl k refl (no_item refl))

empty_begins : (t : Token) → IsSymbol (codes ";") t → Viable IsAnyStmt (t ∷ [])
empty_begins t k = any (t ∷ []) [] false _ (empty t refl k)

name_begins : (t : Token) (word : List ℕ) → t.what ≡ kinds.Name word → Viable IsAnyStmt (t ∷ [])
unfolding step_of
name_begins t word k = any (t ∷ []) (mark (codes "++") ∷ mark (codes ";") ∷ []) false _
    (simple (t ∷ mark (codes "++") ∷ []) (mark (codes ";")) refl refl (stepped (t ∷ []) (mark (codes "++")) op.Add refl refl (name_target t word refl k)))

star_begins : (t : Token) → IsSymbol (codes "*") t → Viable IsAnyStmt (t ∷ [])
unfolding step_of
star_begins t k = any (t ∷ []) (some_name ∷ mark (codes "++") ∷ mark (codes ";") ∷ []) false _
    (simple (t ∷ some_name ∷ mark (codes "++") ∷ []) (mark (codes ";")) refl refl (stepped (t ∷ some_name ∷ []) (mark (codes "++")) op.Add refl refl (pointer_target t some_name [] refl k refl)))

step_begins : (t : Token) (operator : BinOp) → step_of t.what ≡ Some operator → Viable IsAnyStmt (t ∷ [])
step_begins t operator k = any (t ∷ []) (some_name ∷ mark (codes ";") ∷ []) false _
    (simple (t ∷ some_name ∷ []) (mark (codes ";")) refl refl (step_first t operator (some_name ∷ []) refl k (name_target some_name [] refl refl)))

-- one of several tests is passed
abbrev Either2 : {X : Type 0} → (b c : Bool) → (b ≡ true → X) → (c ≡ true → X) → (b || c) ≡ true → X
Either2 true c one two e = one refl
Either2 false c one two e = two e

step_case : {X : Type 0} (line : ℕ) (o : Option BinOp) → ((operator : BinOp) → o ≡ Some operator → X) → is_some (stepped_in line o) ≡ true → X
step_case line None go e = absurd (cc)
step_case line (Some operator) go e = go operator refl

start_case : (k : TokenKind) (line : ℕ) → is_some (start_in k line) ≡ true → k ≡ kinds.PragmaOss
start_case kinds.PragmaOss line e = refl
start_case kinds.PragmaEnd line e = absurd (cc)
start_case kinds.Directive line e = absurd (cc)
start_case (kinds.Name w) line e = absurd (cc)
start_case (kinds.Symbol w) line e = absurd (cc)
start_case (kinds.Keyword w) line e = absurd (cc)
start_case (kinds.Text w) line e = absurd (cc)
start_case (kinds.Number v u) line e = absurd (cc)

name_case : {X : Type 0} (k : TokenKind) (line : ℕ) → ((word : List ℕ) → k ≡ kinds.Name word → X) → is_some (named_in k line) ≡ true → X
name_case (kinds.Name w) line go e = go w refl
name_case kinds.PragmaOss line go e = absurd (cc)
name_case kinds.PragmaEnd line go e = absurd (cc)
name_case kinds.Directive line go e = absurd (cc)
name_case (kinds.Symbol w) line go e = absurd (cc)
name_case (kinds.Keyword w) line go e = absurd (cc)
name_case (kinds.Text w) line go e = absurd (cc)
name_case (kinds.Number v u) line go e = absurd (cc)

-- each token that begins a statement does
pub statement_begins : (t : Token) → begins_statement t ≡ true → Viable IsAnyStmt (t ∷ [])
statement_begins t e =
    Either2 (has (symbol_at (codes "{")) t) _ (λ e. block_begins t (has_symbol (codes "{") t e))
    (Either2 (has (symbol_at (codes ";")) t) _ (λ e. empty_begins t (has_symbol (codes ";") t e))
    (Either2 (begins_simple t) _
    (Either2 (has step_at t) _ (step_case t.line (step_of t.what) (λ operator k. step_begins t operator k))
    (Either2 (star t) _ (λ e. star_begins t (has_symbol (codes "*") t e)) (name_case t.what t.line (λ word k. name_begins t word k))))
    (Either2 (has (keyword_at (codes "if")) t) _ (λ e. if_begins t (has_keyword (codes "if") t e))
    (Either2 (has (keyword_at (codes "while")) t) _ (λ e. while_begins t (has_keyword (codes "while") t e))
    (Either2 (has (keyword_at (codes "for")) t) _ (λ e. for_begins t (has_keyword (codes "for") t e))
    (Either2 (has (keyword_at (codes "return")) t) _ (λ e. return_begins t (has_keyword (codes "return") t e))
    (Either2 (has (keyword_at (codes "break")) t) _ (λ e. break_begins t (has_keyword (codes "break") t e))
    (Either2 (has (keyword_at (codes "continue")) t) _ (λ e. continue_begins t (has_keyword (codes "continue") t e))
    (Either2 (has (keyword_at (codes "printf")) t) _ (λ e. print_begins t (has_keyword (codes "printf") t e)) (λ e. start_begins t (start_case t.what t.line e))))))))))) e

-- each statement begins so
front_begins : (test : Token → Bool) (xs front back : List Token) → xs ≡ front ++ back → begins test front ≡ true → begins test xs ≡ true
front_begins test xs [] back e b = absurd (cc)
front_begins test xs (x ∷ front) back e b = ap (begins test) e ∙ b

target_begins : (xs : List Token) (e : Expr) → IsTarget xs e → begins begins_statement xs ≡ true
unfolding step_of
target_begins xs e (name_target t word split k) = ap (begins begins_statement) split ∙ ap (λ w. begins_statement (record { what = w; line = t.line })) k
target_begins xs e (element_target t word opened inner closed split k o c w) = ap (begins begins_statement) split ∙ ap (λ w. begins_statement (record { what = w; line = t.line })) k
target_begins xs e (grid_target t word opened first closed again second ended split k o c a d w v) = ap (begins begins_statement) split ∙ ap (λ w. begins_statement (record { what = w; line = t.line })) k
target_begins xs e (pointer_target m t word split k n) = ap (begins begins_statement) split ∙ on_symbol begins_statement (codes "*") true (λ line. refl) m k
target_begins xs e (pointed_target m opened inner closed split k o c w) = ap (begins begins_statement) split ∙ on_symbol begins_statement (codes "*") true (λ line. refl) m k

or_true : (a b c d e : Bool) → c ≡ true → (a || (b || ((c || d) || e))) ≡ true
or_true true b c d e k = refl
or_true false true c d e k = refl
or_true false false true d e k = refl
or_true false false false d e k = absurd (cc)

simple_begins : (xs : List Token) (s : Stmt) → IsSimple xs s → begins begins_statement xs ≡ true
unfolding step_of
simple_begins xs s (assigned front m operator back e a t w) = front_begins begins_statement xs front (m ∷ back) e (target_begins front _ t)
simple_begins xs s (stepped front m operator e k t) = front_begins begins_statement xs front (m ∷ []) e (target_begins front _ t)
simple_begins xs s (step_first m operator back e k t) = ap (begins begins_statement) e
    ∙ or_true (has (symbol_at (codes "{")) m) (has (symbol_at (codes ";")) m) (has step_at m) (star m || has name_at m) (begins_keyword_statement m) (ap (λ o. is_some (stepped_in m.line o)) k)
simple_begins xs s (called t opened word inner closed e k o c w) = ap (begins begins_statement) e ∙ ap (λ w. begins_statement (record { what = w; line = t.line })) k

pragma_begins : (xs : List Token) (d : Directive) → IsPragma xs d → begins begins_statement xs ≡ true
unfolding step_of
pragma_begins xs d (task_pragma start word inner end e k w z c o g) = ap (begins begins_statement) e ∙ ap (λ w. begins_statement (record { what = w; line = start.line })) k
pragma_begins xs d (loop_pragma start word inner end e k w z c o) = ap (begins begins_statement) e ∙ ap (λ w. begins_statement (record { what = w; line = start.line })) k
pragma_begins xs d (wait_all start word end e k w z) = ap (begins begins_statement) e ∙ ap (λ w. begins_statement (record { what = w; line = start.line })) k
pragma_begins xs d (wait_on start word on opened inner closed end e k w z o c f g) = ap (begins begins_statement) e ∙ ap (λ w. begins_statement (record { what = w; line = start.line })) k
pragma_begins xs d (release_pragma start word front back end e k w z f m) = ap (begins begins_statement) e ∙ ap (λ w. begins_statement (record { what = w; line = start.line })) k

keyword_begins : (word : List ℕ) → ((line : ℕ) → begins_statement (record { what = kinds.Keyword word; line = line }) ≡ true) → (xs : List Token) (t : Token) (back : List Token) → xs ≡ t ∷ back → IsKeyword word t → begins begins_statement xs ≡ true
keyword_begins word told xs t back e k = ap (begins begins_statement) e ∙ on_keyword begins_statement word true told t k

pub begins_so : (o : Bool) (xs : List Token) (s : Stmt) → IsStmt o xs s → begins begins_statement xs ≡ true
unfolding step_of
begins_so o xs s (block opened inner closed e a c w) = ap (begins begins_statement) e ∙ on_symbol begins_statement (codes "{") true (λ line. refl) opened a
begins_so o xs s (empty m e c) = ap (begins begins_statement) e ∙ on_symbol begins_statement (codes ";") true (λ line. refl) m c
begins_so o xs s (simple front m e c w) = front_begins begins_statement xs front (m ∷ []) e (simple_begins front s w)
begins_so o xs s (if_alone t opened inner closed back e k a c w v) = keyword_begins (codes "if") (λ line. refl) xs t _ e k
begins_so o xs s (if_else t opened inner closed front m back e k a c l w v u) = keyword_begins (codes "if") (λ line. refl) xs t _ e k
begins_so o xs s (while_loop t opened inner closed back e k a c w v) = keyword_begins (codes "while") (λ line. refl) xs t _ e k
begins_so o xs s (for_loop t opened start m middle other end closed back e k a c d z x y u v) = keyword_begins (codes "for") (λ line. refl) xs t _ e k
begins_so o xs s (return_jump t inner m e k c w) = keyword_begins (codes "return") (λ line. refl) xs t _ e k
begins_so o xs s (break_jump t m e k c) = keyword_begins (codes "break") (λ line. refl) xs t _ e k
begins_so o xs s (continue_jump t m e k c) = keyword_begins (codes "continue") (λ line. refl) xs t _ e k
begins_so o xs s (print t opened string bytes inner closed m e k a b c d w) = keyword_begins (codes "printf") (λ line. refl) xs t _ e k
begins_so o xs s (task front back e w v) = front_begins begins_statement xs front back e (pragma_begins front _ w)
begins_so o xs s (task_loop front middle back e w l v) = front_begins begins_statement xs front (middle ++ back) e (pragma_begins front _ w)
begins_so o xs s (task_wait w) = pragma_begins xs _ w
begins_so o xs s (release w) = pragma_begins xs _ w

-- the same of what stands in a block
abbrev int_local : Token → List Token
int_local t = t ∷ some_name ∷ mark (codes ";") ∷ []

one_item : (xs more : List Token) (s : Stmt) → IsOneItem (xs ++ more) s → Viable IsOneItem xs
one_item xs more s w = record { more = more; value = s; member = w }

int_begins : (t : Token) → IsKeyword (codes "int") t → Viable IsOneItem (t ∷ [])
int_begins t k = one_item (t ∷ []) (some_name ∷ mark (codes ";") ∷ []) _
    (declared_item (t ∷ some_name ∷ []) (mark (codes ";")) refl refl (declaration (t ∷ []) (some_name ∷ []) refl (int_kind t refl k) (last_local (plain_local (number_declared some_name [] refl refl)))))

long_begins : (t : Token) → IsKeyword (codes "long") t → Viable IsOneItem (t ∷ [])
long_begins t k = one_item (t ∷ []) (some_name ∷ mark (codes ";") ∷ []) _
    (declared_item (t ∷ some_name ∷ []) (mark (codes ";")) refl refl (declaration (t ∷ []) (some_name ∷ []) refl (long_kind t refl k) (last_local (plain_local (number_declared some_name [] refl refl)))))

abbrev long_token : Token
long_token = record { what = kinds.Keyword (codes "long"); line = 1 }

unsigned_begins : (t : Token) → IsKeyword (codes "unsigned") t → Viable IsOneItem (t ∷ [])
unsigned_begins t k = one_item (t ∷ []) (long_token ∷ some_name ∷ mark (codes ";") ∷ []) _
    (declared_item (t ∷ long_token ∷ some_name ∷ []) (mark (codes ";")) refl refl
    (declaration (t ∷ long_token ∷ []) (some_name ∷ []) refl (unsigned_kind t long_token refl k refl) (last_local (plain_local (number_declared some_name [] refl refl)))))

abbrev single_if : {A : Type 0} → Bool → Bool → A → A → Option A
single_if b c one two = if b then Some one else (if c then Some two else None)

single_case : {A X : Type 0} (b c : Bool) (one two : A) → (b ≡ true → X) → (c ≡ true → X) → is_some (single_if b c one two) ≡ true → X
single_case true c one two f g e = f refl
single_case false true one two f g e = g refl
single_case false false one two f g e = absurd (cc)

kind_begins : (t : Token) → begins_kind t ≡ true → Viable IsOneItem (t ∷ [])
kind_begins t e =
    Either2 (has single_kind_at t) _ (single_case (is_keyword (codes "int") t.what) (is_keyword (codes "long") t.what) _ _ (int_begins t) (long_begins t)) (λ e. unsigned_begins t (has_keyword (codes "unsigned") t e)) e

pub item_begins : (t : Token) → begins_item t ≡ true → Viable IsOneItem (t ∷ [])
item_begins t e = Either2 (begins_kind t) _ (kind_begins t) (λ e. let v = statement_begins t e in record { more = v.more; value = v.value; member = stated_item v.member }) e

or_first : (b c : Bool) → b ≡ true → (b || c) ≡ true
or_first true c e = refl
or_first false c e = absurd (cc)

or_second : (b c : Bool) → c ≡ true → (b || c) ≡ true
or_second true c e = refl
or_second false c e = e

begins_as_item : (xs : List Token) → begins begins_statement xs ≡ true → begins begins_item xs ≡ true
begins_as_item [] e = absurd (cc)
begins_as_item (t ∷ xs) e = or_second (begins_kind t) (begins_statement t) e

kind_first : (xs back ys : List Token) (t : Token) → ys ≡ t ∷ xs → begins_kind t ≡ true → begins begins_item ys ≡ true
kind_first xs back ys t e k = ap (begins begins_item) e ∙ or_first (begins_kind t) (begins_statement t) k

declaration_begins : (xs : List Token) (s : Stmt) → IsDeclaration xs s → begins begins_item xs ≡ true
declaration_begins xs s (declaration front back e typed locals) = front_begins begins_item xs front back e (on front typed) where
  on : {numbers : _} → (ys : List Token) → IsNumKind ys numbers → begins begins_item ys ≡ true
  on ys (int_kind t z k) = kind_first [] [] ys t z (on_keyword begins_kind (codes "int") true (λ line. refl) t k)
  on ys (long_kind t z k) = kind_first [] [] ys t z (on_keyword begins_kind (codes "long") true (λ line. refl) t k)
  on ys (unsigned_kind t u z k l) = kind_first (u ∷ []) [] ys t z (on_keyword begins_kind (codes "unsigned") true (λ line. refl) t k)

pub item_begins_so : (xs : List Token) (s : Stmt) → IsOneItem xs s → begins begins_item xs ≡ true
item_begins_so xs s (declared_item front m e c w) = front_begins begins_item xs front (m ∷ []) e (declaration_begins front s w)
item_begins_so xs s (stated_item w) = begins_as_item xs (begins_so w.ends_open xs s w.is)
