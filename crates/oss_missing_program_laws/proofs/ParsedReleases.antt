-- In a program as which a text is read each release has dependencies alone: the grammar has no other there, and a task loop that is written out has the releases of its body.
use Rattle.std.proofs.Common.{◌≡◌, ◌∙◌, ℕ, Bool, true, false, List, [], ◌∷◌, ◌++◌, map, Option, Some, None, option_map, refl, ap, subst}
use Rattle.std.specs.Prelude.{◌&&◌, codes, if◌then◌else◌}
use Rattle.oss_syntax.specs.declared.access.Mode.{Mode}
use Rattle.oss_syntax.specs.declared.token.Token.{Token}
use Rattle.oss_syntax.specs.declared.token.TokenKind.{TokenKind}
use Rattle.oss_syntax.specs.declared.tree.expr.BinOp.TheVariants as op
use Rattle.oss_syntax.specs.declared.tree.pragma.Clause.{Clause}
use Rattle.oss_syntax.specs.declared.tree.pragma.Directive.TheVariants as directive
use Rattle.oss_syntax.specs.declared.tree.program.Function.{Function}
use Rattle.oss_syntax.specs.declared.tree.program.GlobalDef.{GlobalDef}
use Rattle.oss_syntax.specs.declared.tree.program.Item.{Item}
use Rattle.oss_syntax.specs.declared.tree.program.Item.TheVariants as items
use Rattle.oss_syntax.specs.declared.tree.program.Program.{Program}
use Rattle.oss_syntax.specs.declared.tree.stmt.LoopHead.{LoopHead}
use Rattle.oss_syntax.specs.declared.tree.stmt.Stmt.{Stmt}
use Rattle.oss_syntax.specs.declared.tree.stmt.StmtKind.TheVariants as stmts
use Rattle.oss_grammar.specs.OneToken.{is_word}
use Rattle.oss_grammar.specs.Pragmas.{IsDepend, IsMoreDepends, IsPragma, access_of}
use Rattle.oss_grammar.specs.Pragmas.IsDepend.{depend}
use Rattle.oss_grammar.specs.Pragmas.IsMoreDepends.{comma_depend, no_depend, plain_depend}
use Rattle.oss_grammar.specs.Pragmas.IsPragma.{release as release_pragma}
use Rattle.oss_grammar.specs.Programs.{IsFunction, IsItem, IsProgram, IsProgramItems}
use Rattle.oss_grammar.specs.Programs.IsFunction.{function}
use Rattle.oss_grammar.specs.Programs.IsItem.{globals, one_function}
use Rattle.oss_grammar.specs.Programs.IsProgram.{program}
use Rattle.oss_grammar.specs.Programs.IsProgramItems.{more_items, no_items}
use Rattle.oss_grammar.specs.SimpleStatements.{IsDeclaration, IsSimple, one_at}
use Rattle.oss_grammar.specs.SimpleStatements.IsDeclaration.{declaration}
use Rattle.oss_grammar.specs.SimpleStatements.IsSimple.{assigned, called, step_first, stepped}
use Rattle.oss_grammar.specs.Statements.{IsForFirst, IsItems, IsMaybeSimple, IsStmt}
use Rattle.oss_grammar.specs.Statements.IsForFirst.{declared_first, other_first}
use Rattle.oss_grammar.specs.Statements.IsItems.{declaration_item, no_item, statement_item}
use Rattle.oss_grammar.specs.Statements.IsMaybeSimple.{no_simple, some_simple}
use Rattle.oss_grammar.specs.Statements.IsStmt.{block, break_jump, continue_jump, empty, for_loop, if_alone, if_else, print, release, return_jump, simple, task, task_loop, task_wait, while_loop}
use Rattle.oss_grammar.specs.TaskLoops.{begin_name, end_name, first_of, grain_name, grain_of, item_written, joined_at, long_at, name_at, number_at, round_of, set_at, stop_name, task_clauses, task_of, turns_of, written, written_out}
use Rattle.oss_missing_program_laws.specs.Asks.{ReleasesByDependencies, TextsReleaseByDependencies, are_dependencies, body_releases, is_dependency, is_unfolded, part_holds, releases_dependencies}
use Rattle.oss_missing_program_laws.proofs.ReleaseForms.{releases-assign, releases-block, releases-break, releases-call, releases-continue, releases-declare, releases-empty, releases-for, releases-if, releases-print, releases-release, releases-return, releases-task, releases-wait, releases-while, written-assign, written-block, written-break, written-call, written-continue, written-declare, written-empty, written-for, written-if, written-print, written-release, written-return, written-task, written-task_loop, written-wait, written-while}

-- Clauses of a release

and_both : (a b : Bool) → a ≡ true → b ≡ true → (a && b) ≡ true
and_both a b left right = ap (λ c. c && b) left ∙ right

-- the mode of a word, if it has one, is none of a reduction
abbrev IsUnfoldedWord : Option (Mode × Bool × Bool) → Type 0
IsUnfoldedWord None = Unit {0}
IsUnfoldedWord (Some a) = is_unfolded a.0 ≡ true

either_unfolded : (b : Bool) (one other : Option (Mode × Bool × Bool)) → IsUnfoldedWord one → IsUnfoldedWord other → IsUnfoldedWord (if b then one else other)
either_unfolded true one other left right = left
either_unfolded false one other left right = right

word_unfolded : (k : TokenKind) → IsUnfoldedWord (access_of k)
unfolding access_of
word_unfolded k =
    either_unfolded (is_word (codes "in") k) _ _ refl
    (either_unfolded (is_word (codes "out") k) _ _ refl
    (either_unfolded (is_word (codes "inout") k) _ _ refl
    (either_unfolded (is_word (codes "weakin") k) _ _ refl
    (either_unfolded (is_word (codes "weakout") k) _ _ refl
    (either_unfolded (is_word (codes "weakinout") k) _ _ refl tt)))))

depend_plain : {ts : List Token} {c : Clause} → IsDepend ts c → is_dependency c ≡ true
depend_plain (depend t opened inner closed mode strong fresh split is o c d) = subst IsUnfoldedWord is (word_unfolded t.what)

depends_plain : {ts : List Token} {cs : List Clause} → IsMoreDepends ts cs → are_dependencies cs ≡ true
depends_plain (no_depend split) = refl
depends_plain (plain_depend {c = c} {more = more} front back split d rest) = and_both (is_dependency c) (are_dependencies more) (depend_plain d) (depends_plain rest)
depends_plain (comma_depend {c = c} {more = more} comma front back split is d rest) = and_both (is_dependency c) (are_dependencies more) (depend_plain d) (depends_plain rest)

release_plain : {ts : List Token} (clauses : List Clause) → IsPragma ts (directive.Release clauses) → are_dependencies clauses ≡ true
release_plain clauses (release_pragma {c = c} {more = more} start word front back end split is1 is2 is3 d rest) = and_both (is_dependency c) (are_dependencies more) (depend_plain d) (depends_plain rest)

-- Statements

-- the statement, its task loops written out, releases dependencies alone
abbrev IsPlainWritten : Stmt → Type 0
IsPlainWritten s = releases_dependencies (written_out s) ≡ true

abbrev IsPartPlainWritten : Option Stmt → Type 0
IsPartPlainWritten o = part_holds (option_map releases_dependencies (option_map written_out o)) ≡ true

-- a statement that is written out as this one
as_written : (s t : Stmt) → written_out s ≡ t → releases_dependencies t ≡ true → IsPlainWritten s
as_written s t is plain = ap releases_dependencies is ∙ plain

simple_plain : {ts : List Token} {s : Stmt} → IsSimple ts s → IsPlainWritten s
simple_plain {s = s} (assigned {target = t} {value = e} front mark operator back split is d f) = as_written s s (written-assign s.line t operator e) (releases-assign s.line t operator e)
simple_plain {s = s} (stepped {target = t} front mark operator split is d) = as_written s s (written-assign s.line t (Some operator) (one_at mark.line)) (releases-assign s.line t (Some operator) (one_at mark.line))
simple_plain {s = s} (step_first {target = t} mark operator back split is d) = as_written s s (written-assign s.line t (Some operator) (one_at mark.line)) (releases-assign s.line t (Some operator) (one_at mark.line))
simple_plain {s = s} (called {values = es} t opened word inner closed split is1 is2 is3 d) = as_written s s (written-call s.line word es) (releases-call s.line word es)

declaration_plain : {ts : List Token} {s : Stmt} → IsDeclaration ts s → IsPlainWritten s
declaration_plain {s = s} (declaration {locals = ls} front back split is d) = as_written s s (written-declare s.line ls) (releases-declare s.line ls)

last_plain : {ts : List Token} {o : Option Stmt} → IsMaybeSimple ts o → IsPartPlainWritten o
last_plain (no_simple split) = refl
last_plain (some_simple d) = simple_plain d

first_plain : {ts : List Token} {o : Option Stmt} → IsForFirst ts o → IsPartPlainWritten o
first_plain (declared_first d) = declaration_plain d
first_plain (other_first d) = last_plain d

-- Task loops

module _ (line : ℕ) (head : LoopHead) (body : Stmt) (plain : releases_dependencies body ≡ true) where
  turns_plain : releases_dependencies (turns_of head body) ≡ true
  turns_plain =
      let test = joined_at head.for_line op.Less (name_at head.for_line head.variable.name) (name_at head.for_line stop_name) in
      let step : Stmt = record { what = stmts.Assign (name_at head.for_line head.variable.name) (Some op.Add) (number_at head.for_line 1); line = head.for_line } in
      releases-for head.for_line None (Some test) (Some step) body
      ∙ and_both (releases_dependencies step) (releases_dependencies body) (releases-assign head.for_line (name_at head.for_line head.variable.name) (Some op.Add) (number_at head.for_line 1)) plain

  task_plain : releases_dependencies (task_of line head body) ≡ true
  task_plain = releases-task line (record { clauses = task_clauses head.mark.clauses; line = head.mark.line }) (turns_of head body) ∙ turns_plain

  round_plain : releases_dependencies (round_of line head body) ≡ true
  round_plain =
      let locals = long_at line head.variable.name (name_at line begin_name) ∷ long_at line stop_name (name_at line end_name) ∷ [] in
      let declared : Stmt = record { what = stmts.Declare locals; line = line } in
      let test = joined_at line op.More (joined_at line op.Sub (name_at line end_name) (name_at line begin_name)) (name_at line grain_name) in
      let more = joined_at line op.Add (name_at line begin_name) (name_at line grain_name) in
      let shorter : Stmt = record { what = stmts.If test (set_at line stop_name more) None; line = line } in
      let last = set_at line begin_name (name_at line stop_name) in
      releases-block line (declared ∷ shorter ∷ task_of line head body ∷ last ∷ [])
      ∙ and_both (releases_dependencies declared) _ (releases-declare line locals)
      (and_both (releases_dependencies shorter) _
      (releases-if line test (set_at line stop_name more) None ∙ and_both (releases_dependencies (set_at line stop_name more)) true (releases-assign line (name_at line stop_name) None more) refl)
      (and_both (releases_dependencies (task_of line head body)) _ task_plain (and_both (releases_dependencies last) true (releases-assign line (name_at line begin_name) None (name_at line stop_name)) refl)))

  pub loop_plain : releases_dependencies (written line head body) ≡ true
  loop_plain =
      let locals = long_at line begin_name (first_of line head.variable.first) ∷ long_at line end_name head.end ∷ long_at line grain_name (grain_of line head.mark.clauses) ∷ [] in
      let declared : Stmt = record { what = stmts.Declare locals; line = line } in
      let low = joined_at line op.Less (name_at line grain_name) (number_at line 1) in
      let raised : Stmt = record { what = stmts.If low (set_at line grain_name (number_at line 1)) None; line = line } in
      let test = joined_at line op.Less (name_at line begin_name) (name_at line end_name) in
      let turning : Stmt = record { what = stmts.While test (round_of line head body); line = line } in
      releases-block line (declared ∷ raised ∷ turning ∷ [])
      ∙ and_both (releases_dependencies declared) _ (releases-declare line locals)
      (and_both (releases_dependencies raised) _
      (releases-if line low (set_at line grain_name (number_at line 1)) None ∙ and_both (releases_dependencies (set_at line grain_name (number_at line 1))) true (releases-assign line (name_at line grain_name) None (number_at line 1)) refl)
      (and_both (releases_dependencies turning) true (releases-while line test (round_of line head body) ∙ round_plain) refl))

-- Statements with others in them

mutual
  stmt_plain : {o : Bool} {ts : List Token} {s : Stmt} → IsStmt o ts s → IsPlainWritten s
  stmt_plain {s = s} (block {body = body} opened inner closed split o c d) =
      as_written s (record { what = stmts.Block (map written_out body); line = s.line }) (written-block s.line body) (releases-block s.line (map written_out body) ∙ items_plain d)
  stmt_plain {s = s} (empty mark split is) = as_written s s (written-empty s.line) (releases-empty s.line)
  stmt_plain (simple front mark split is d) = simple_plain d
  stmt_plain {s = s} (if_alone {test = e} {s = t} tok opened inner closed back split is1 is2 is3 d f) =
      as_written s (record { what = stmts.If e (written_out t) None; line = s.line }) (written-if s.line e t None)
      (releases-if s.line e (written_out t) None ∙ and_both (releases_dependencies (written_out t)) true (stmt_plain f) refl)
  stmt_plain {s = s} (if_else {test = e} {s = t} {other = r} tok opened inner closed front mark back split is1 is2 is3 is4 d f g) =
      as_written s (record { what = stmts.If e (written_out t) (Some (written_out r)); line = s.line }) (written-if s.line e t (Some r))
      (releases-if s.line e (written_out t) (Some (written_out r)) ∙ and_both (releases_dependencies (written_out t)) (releases_dependencies (written_out r)) (stmt_plain f) (stmt_plain g))
  stmt_plain {s = s} (while_loop {test = e} {s = t} tok opened inner closed back split is1 is2 is3 d f) =
      as_written s (record { what = stmts.While e (written_out t); line = s.line }) (written-while s.line e t) (releases-while s.line e (written_out t) ∙ stmt_plain f)
  stmt_plain {s = s} (for_loop {first = first} {test = test} {last = last} {s = t} tok opened start mark middle other_mark end closed back split is1 is2 is3 is4 is5 d e f g) =
      as_written s (record { what = stmts.For (option_map written_out first) test (option_map written_out last) (written_out t); line = s.line }) (written-for s.line first test last t)
      (releases-for s.line (option_map written_out first) test (option_map written_out last) (written_out t)
      ∙ and_both (part_holds (option_map releases_dependencies (option_map written_out first))) _ (first_plain d)
      (and_both (part_holds (option_map releases_dependencies (option_map written_out last))) (releases_dependencies (written_out t)) (last_plain f) (stmt_plain g)))
  stmt_plain {s = s} (return_jump {value = o} t inner mark split is1 is2 d) = as_written s s (written-return s.line o) (releases-return s.line o)
  stmt_plain {s = s} (break_jump t mark split is1 is2) = as_written s s (written-break s.line) (releases-break s.line)
  stmt_plain {s = s} (continue_jump t mark split is1 is2) = as_written s s (written-continue s.line) (releases-continue s.line)
  stmt_plain {s = s} (print {values = values} t opened string bytes inner closed mark split is1 is2 is3 is4 is5 d) = as_written s s (written-print s.line bytes values) (releases-print s.line bytes values)
  stmt_plain {s = s} (task {mark = mark} {s = t} front back split d f) =
      as_written s (record { what = stmts.Task mark (written_out t); line = s.line }) (written-task s.line mark t) (releases-task s.line mark (written_out t) ∙ stmt_plain f)
  stmt_plain {s = s} (task_loop {head = head} {s = t} front middle back split d head_is f) =
      as_written s (written s.line head (written_out t)) (written-task_loop s.line head t) (loop_plain s.line head (written_out t) (stmt_plain f))
  stmt_plain {s = s} (task_wait {sections = sections} d) = as_written s s (written-wait s.line sections) (releases-wait s.line sections)
  stmt_plain {s = s} (release {clauses = clauses} d) = as_written s s (written-release s.line clauses) (releases-release s.line clauses ∙ release_plain clauses d)

  items_plain : {ts : List Token} {body : List Stmt} → IsItems ts body → body_releases (map written_out body) ≡ true
  items_plain (no_item split) = refl
  items_plain (declaration_item {s = s} {more = more} front mark back split is d rest) =
      and_both (releases_dependencies (written_out s)) (body_releases (map written_out more)) (declaration_plain d) (items_plain rest)
  items_plain (statement_item {s = s} {more = more} front back split d rest) = and_both (releases_dependencies (written_out s)) (body_releases (map written_out more)) (stmt_plain d) (items_plain rest)

-- Programs

releases_append : (xs ys : List Item) → ReleasesByDependencies (map item_written xs) → ReleasesByDependencies (map item_written ys) → ReleasesByDependencies (map item_written (xs ++ ys))
releases_append [] ys one other = other
releases_append (items.Global g ∷ xs) ys one other = releases_append xs ys one other
releases_append (items.Function f ∷ xs) ys one other = (one.0, releases_append xs ys one.1 other)

globals_plain : (gs : List GlobalDef) → ReleasesByDependencies (map item_written (map items.Global gs))
globals_plain [] = tt
globals_plain (g ∷ gs) = globals_plain gs

function_plain : {ts : List Token} {f : Function} → IsFunction ts f → body_releases (map written_out f.body) ≡ true
function_plain (function marked front t word opened inner closed begins within ends split m r is1 o p c is2 d is3) = items_plain d

item_plain : {ts : List Token} {found : List Item} → IsItem ts found → ReleasesByDependencies (map item_written found)
item_plain (globals {gs = gs} front middle mark split is d e) = globals_plain gs
item_plain (one_function d) = (function_plain d, tt)

program_plain : {ts : List Token} {found : List Item} → IsProgramItems ts found → ReleasesByDependencies (map item_written found)
program_plain (no_items split) = tt
program_plain (more_items {first = first} {more = more} front back split d rest) = releases_append first more (item_plain d) (program_plain rest)

written_plain : {ts : List Token} {p : Program} → IsProgram ts p → ReleasesByDependencies (map item_written p.items)
written_plain (program d) = program_plain d

pub texts_release_by_dependencies : TextsReleaseByDependencies
texts_release_by_dependencies text p is = written_plain is.is_program
