-- Redeclarations by the scopes around them, and by the places at which the rules of statements tell them.
use Rattle.std.proofs.Common.{◌≡◌, ℕ, List, [], ◌∷◌, length}
use Rattle.oss_syntax.specs.declared.tree.program.Function.{Function}
use Rattle.oss_syntax.specs.declared.tree.program.Local.{Local}
use Rattle.oss_syntax.specs.declared.tree.program.Program.{Program}
use Rattle.oss_syntax.specs.declared.tree.stmt.Stmt.{Stmt}
use Rattle.oss_syntax.specs.declared.tree.stmt.StmtKind.{out-StmtKind}
use Rattle.oss_syntax.specs.declared.tree.stmt.StmtKind.TheVariants as stmts
use Rattle.oss_grammar.specs.declared.kinds.Around.{Around}
use Rattle.oss_grammar.specs.ProgramRules.{body_around}
use Rattle.oss_grammar.specs.Scopes.{loop_locals}
use Rattle.oss_grammar.specs.StaticRules.{in_a_loop, in_a_task, in_a_task_loop, scope_in}
use Rattle.oss_grammar.specs.Places.{declarators_of}
use Rattle.oss_grammar.specs.Redeclarations.{AgainAmong, AgainInside, DeclaratorAgain, DeclaresAgain, RedeclarationsAreTold}
use Rattle.oss_grammar.specs.Redeclarations.AgainAmong.{at_declaration, in_statement, behind_statement}
use Rattle.oss_grammar.specs.Redeclarations.AgainInside.{in_block as inside_in_block, in_else as inside_in_else, in_for_body as inside_in_for_body, in_for_last as inside_in_for_last, in_for_start as inside_in_for_start, in_task_body as inside_in_task_body, in_task_loop_body as inside_in_task_loop_body, in_then as inside_in_then, in_while as inside_in_while}
use Rattle.oss_grammar.specs.Redeclarations.DeclaresAgain.{item_again, parameter_again, local_again}
use Rattle.oss_grammar.proofs.AgainLemmas.{only_told, is_told}
use Rattle.oss_grammar.proofs.ScopedPlaces.{StandsIn, StandsAmong, locals_behind, locals_behind_part, scope_behind}
use Rattle.oss_grammar.proofs.ScopedPlaces.StandsIn.{in_block as scoped_in_block, in_else as scoped_in_else, in_for_body as scoped_in_for_body, in_for_last as scoped_in_for_last, in_for_start as scoped_in_for_start, in_task_body as scoped_in_task_body, in_task_loop_body as scoped_in_task_loop_body, in_then as scoped_in_then, in_while as scoped_in_while, itself as scoped_itself}
use Rattle.oss_grammar.proofs.ScopedPlaces.StandsAmong.{in_first, in_rest}
use Rattle.oss_grammar.proofs.ScopedUses.{LocalAgain, DeclaresAgain as ScopedAgain}
use Rattle.oss_grammar.proofs.ScopedUses.DeclaresAgain.{item_again as told_as_item_again, local_again as told_as_local_again, parameter_again as told_as_parameter_again}
use Rattle.oss_grammar.proofs.VisibleLemmas.{ScopeIs, new_scope, scope_is_behind}

module _ (line : ℕ) where
  declarator_new : {start : ℕ} {visible before declared : List Local} → ScopeIs start visible before → LocalAgain start visible declared line → DeclaratorAgain before declared line
  declarator_new s d = record { front = d.before; again = d.again; behind = d.behind; split = d.split; earlier = (scope_is_behind d.before s).same.to d.again.name d.earlier; on_line = d.on_line }

  declarator_old : {start : ℕ} {visible before declared : List Local} → ScopeIs start visible before → DeclaratorAgain before declared line → LocalAgain start visible declared line
  declarator_old s d = record { before = d.front; again = d.again; behind = d.behind; split = d.split; earlier = (scope_is_behind d.front s).same.from d.again.name d.earlier; on_line = d.on_line }

  mutual
    again_in : {b : Around} {visible : List Local} {t : Stmt} {a : Around} {locals : List Local} {s : Stmt} {declared before : List Local} (rest : List Stmt) → StandsIn b visible t a locals s
        → t.what ≡ stmts.Declare declared → LocalAgain b.start visible declared line → ScopeIs a.start locals before → AgainAmong line before (s ∷ rest)
    again_in {declared = declared} rest scoped_itself is d sc = at_declaration declared is (declarator_new sc d)
    again_in {locals = locals} rest (scoped_in_block body e w) is d sc = in_statement (inside_in_block body e (again_among w is d (new_scope locals)))
    again_in {locals = locals} rest (scoped_in_then x r o e w) is d sc = in_statement (inside_in_then x r o e (again_in [] w is d (new_scope locals)))
    again_in {locals = locals} rest (scoped_in_else x r o e w) is d sc = in_statement (inside_in_else x r o e (again_in [] w is d (new_scope locals)))
    again_in {locals = locals} rest (scoped_in_while x r e w) is d sc = in_statement (inside_in_while x r e (again_in [] w is d (new_scope locals)))
    again_in {locals = locals} rest (scoped_in_for_start start test last r e w) is d sc = in_statement (inside_in_for_start start test last r e (again_in [] w is d (new_scope locals)))
    again_in {locals = locals} rest (scoped_in_for_last start test last r e w) is d sc =
        in_statement (inside_in_for_last start test last r e (again_in [] w is d (new_scope (locals_behind_part (length locals) start locals))))
    again_in {locals = locals} rest (scoped_in_for_body start test last r e w) is d sc =
        in_statement (inside_in_for_body start test last r e (again_in [] w is d (new_scope (locals_behind_part (length locals) start locals))))
    again_in {locals = locals} rest (scoped_in_task_body mark r e w) is d sc = in_statement (inside_in_task_body mark r e (again_in [] w is d (new_scope locals)))
    again_in {locals = locals} rest (scoped_in_task_loop_body head r e w) is d sc = in_statement (inside_in_task_loop_body head r e (again_in [] w is d (new_scope (loop_locals head locals))))

    again_among : {b : Around} {visible : List Local} {t : Stmt} {a : Around} {locals : List Local} {body : List Stmt} {declared before : List Local} → StandsAmong b visible t a locals body
        → t.what ≡ stmts.Declare declared → LocalAgain b.start visible declared line → ScopeIs a.start locals before → AgainAmong line before body
    again_among (in_first {rest = rest} w) is d sc = again_in rest w is d sc
    again_among (in_rest {s = s} w) is d sc = behind_statement (again_among w is d (scope_is_behind (declarators_of (out-StmtKind s.what)) sc))

  -- and the other way
  record Told (a : Around) (locals : List Local) (s : Stmt) : Type 0 where
    around : Around
    visible : List Local
    statement : Stmt
    declared : List Local
    stands : StandsIn around visible statement a locals s
    declares : statement.what ≡ stmts.Declare declared
    again : LocalAgain around.start visible declared line

  record ToldAmong (a : Around) (locals : List Local) (body : List Stmt) : Type 0 where
    around : Around
    visible : List Local
    statement : Stmt
    declared : List Local
    stands : StandsAmong around visible statement a locals body
    declares : statement.what ≡ stmts.Declare declared
    again : LocalAgain around.start visible declared line

  lift : {a b : Around} {ls ms : List Local} {s t : Stmt} → ((c : Around) (visible : List Local) (u : Stmt) → StandsIn c visible u a ls s → StandsIn c visible u b ms t) → Told a ls s → Told b ms t
  lift up t = record { around = t.around; visible = t.visible; statement = t.statement; declared = t.declared; stands = up t.around t.visible t.statement t.stands; declares = t.declares; again = t.again }

  into_first : {a : Around} {locals : List Local} {s : Stmt} (rest : List Stmt) → Told a locals s → ToldAmong a locals (s ∷ rest)
  into_first rest t = record { around = t.around; visible = t.visible; statement = t.statement; declared = t.declared; stands = in_first t.stands; declares = t.declares; again = t.again }

  into_rest : {a : Around} {locals : List Local} (s : Stmt) {rest : List Stmt} → ToldAmong a (locals_behind a.start s locals) rest → ToldAmong a locals (s ∷ rest)
  into_rest s t = record { around = t.around; visible = t.visible; statement = t.statement; declared = t.declared; stands = in_rest t.stands; declares = t.declares; again = t.again }

  into_block : {a : Around} {locals : List Local} {s : Stmt} (body : List Stmt) → s.what ≡ stmts.Block body → ToldAmong (scope_in a locals) locals body → Told a locals s
  into_block body is t = record { around = t.around; visible = t.visible; statement = t.statement; declared = t.declared; stands = scoped_in_block body is t.stands; declares = t.declares; again = t.again }

  nowhere : {C : Type 0} {c : Around} {visible : List Local} {u : Stmt} {a : Around} {ls : List Local} → StandsAmong c visible u a ls [] → C
  nowhere w = elim w [ ]

  alone_in : {c : Around} {visible : List Local} {u : Stmt} {a : Around} {ls : List Local} {s : Stmt} → StandsAmong c visible u a ls (s ∷ []) → StandsIn c visible u a ls s
  alone_in (in_first d) = d
  alone_in (in_rest d) = nowhere d

  alone : {a : Around} {ls : List Local} {s : Stmt} → ToldAmong a ls (s ∷ []) → Told a ls s
  alone t = record { around = t.around; visible = t.visible; statement = t.statement; declared = t.declared; stands = alone_in t.stands; declares = t.declares; again = t.again }

  mutual
    told_among : {before : List Local} {body : List Stmt} → AgainAmong line before body → (a : Around) (locals : List Local) → ScopeIs a.start locals before → ToldAmong a locals body
    told_among (at_declaration {s = s} {rest = rest} declared is d) a locals sc =
        into_first rest (record { around = a; visible = locals; statement = s; declared = declared; stands = scoped_itself; declares = is; again = declarator_old sc d })
    told_among (in_statement {rest = rest} w) a locals sc = into_first rest (told_in w a locals)
    told_among (behind_statement {s = s} w) a locals sc = into_rest s (told_among w a (locals_behind a.start s locals) (scope_is_behind (declarators_of (out-StmtKind s.what)) sc))

    told_in : {s : Stmt} → AgainInside line s → (a : Around) (locals : List Local) → Told a locals s
    told_in (inside_in_block body is w) a locals = into_block body is (told_among w (scope_in a locals) locals (new_scope locals))
    told_in (inside_in_then e r o is w) a locals = lift (λ c v u d. scoped_in_then e r o is d) (alone (told_among w (scope_in a locals) locals (new_scope locals)))
    told_in (inside_in_else e r o is w) a locals = lift (λ c v u d. scoped_in_else e r o is d) (alone (told_among w (scope_in a locals) locals (new_scope locals)))
    told_in (inside_in_while e r is w) a locals = lift (λ c v u d. scoped_in_while e r is d) (alone (told_among w (scope_in (in_a_loop a) locals) locals (new_scope locals)))
    told_in (inside_in_for_start start test last r is w) a locals = lift (λ c v u d. scoped_in_for_start start test last r is d) (alone (told_among w (scope_in a locals) locals (new_scope locals)))
    told_in (inside_in_for_last start test last r is w) a locals =
        lift (λ c v u d. scoped_in_for_last start test last r is d)
        (alone (told_among w (scope_in a (locals_behind_part (length locals) start locals)) (locals_behind_part (length locals) start locals) (new_scope (locals_behind_part (length locals) start locals))))
    told_in (inside_in_for_body start test last r is w) a locals =
        lift (λ c v u d. scoped_in_for_body start test last r is d)
        (alone (told_among w (scope_in (in_a_loop a) (locals_behind_part (length locals) start locals)) (locals_behind_part (length locals) start locals) (new_scope (locals_behind_part (length locals) start locals))))
    told_in (inside_in_task_body mark r is w) a locals = lift (λ c v u d. scoped_in_task_body mark r is d) (alone (told_among w (scope_in (in_a_task a) locals) locals (new_scope locals)))
    told_in (inside_in_task_loop_body head r is w) a locals =
        lift (λ c v u d. scoped_in_task_loop_body head r is d)
        (alone (told_among w (scope_in (in_a_task_loop a) (loop_locals head locals)) (loop_locals head locals) (new_scope (loop_locals head locals))))

params_scope : (f : Function) → ScopeIs 0 (scope_behind 0 f.params []) f.params
params_scope f = scope_is_behind f.params (new_scope [])

again_new : (p : Program) (line : ℕ) → ScopedAgain p line → DeclaresAgain p line
again_new p line (told_as_item_again d) = item_again d
again_new p line (told_as_parameter_again f is d) = parameter_again f is (declarator_new line (new_scope []) d)
again_new p line (told_as_local_again f around visible s declared stands declares d) = local_again f stands.is_item (again_among line stands.stands declares d (params_scope f))

again_old : (p : Program) (line : ℕ) → DeclaresAgain p line → ScopedAgain p line
again_old p line (item_again d) = told_as_item_again d
again_old p line (parameter_again f is d) = told_as_parameter_again f is (declarator_old line (new_scope []) d)
again_old p line (local_again f is w) = put (told_among line w (body_around f.result) (scope_behind 0 f.params []) (params_scope f)) where
  put : ToldAmong line (body_around f.result) (scope_behind 0 f.params []) f.body → ScopedAgain p line
  put t = told_as_local_again f t.around t.visible t.statement t.declared (record { is_item = is; stands = t.stands }) t.declares t.again

pub redeclarations_are_told : (p : Program) → RedeclarationsAreTold p
redeclarations_are_told p = record { told = λ line d. is_told p line (again_old p line d); only = λ line w. again_new p line (only_told p line w) }
