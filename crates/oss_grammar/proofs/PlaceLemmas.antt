-- A rule is among those of a statement exactly where it is one of the own rules of a statement that stands in it.
use Rattle.std.proofs.Common.{◌≡◌, ℕ, true, not, List, [], ◌∷◌, ◌++◌, length, map, refl, sym, ap, ◌∙◌, subst, ◌⊎◌, inl, inr, Option, Some, None, option_map, rules}
use Rattle.oss_syntax.specs.declared.refusal.Refused.{Refused}
use Rattle.oss_syntax.specs.declared.tree.expr.Expr.{Expr}
use Rattle.oss_syntax.specs.declared.tree.program.Item.{Item}
use Rattle.oss_syntax.specs.declared.tree.program.Local.{Local}
use Rattle.oss_syntax.specs.declared.tree.stmt.Stmt.{Stmt}
use Rattle.oss_syntax.specs.declared.tree.stmt.StmtKind.{StmtKind, out-StmtKind}
use Rattle.oss_syntax.specs.declared.tree.stmt.StmtKind.TheOpen.{StmtKind-F}
use Rattle.oss_syntax.specs.declared.tree.stmt.StmtKind.TheOpen as open_stmt
use Rattle.oss_syntax.specs.declared.tree.stmt.StmtKind.TheVariants as stmts
use Rattle.oss_syntax.specs.declared.tree.stmt.StmtKind.TheFolds.{the_lemmas as stmt_folds}
use Rattle.oss_grammar.specs.declared.kinds.Around.{Around}
use Rattle.oss_syntax.specs.declared.refusal.RefusedKind.TheVariants as refused
use Rattle.oss_grammar.specs.declared.kinds.Wanted.TheVariants as wanted
use Rattle.oss_grammar.specs.Broken.{where_so}
use Rattle.oss_grammar.specs.ExpressionRules.{call_findings, findings, value_rules}
use Rattle.oss_grammar.specs.Kinds.{all_of}
use Rattle.oss_grammar.specs.Scopes.{is_local_again, loop_locals}
use Rattle.oss_grammar.specs.Places.{IsOneOf}
use Rattle.oss_grammar.proofs.ScopedPlaces.{StandsIn, StandsAmong, scope_behind, locals_behind, locals_behind_part}
use Rattle.oss_grammar.specs.Places.IsOneOf.{first_of_them, later_of_them}
use Rattle.oss_grammar.proofs.ScopedPlaces.StandsIn.{itself, in_block, in_then, in_else, in_while, in_for_start, in_for_last, in_for_body, in_task_body, in_task_loop_body}
use Rattle.oss_grammar.proofs.ScopedPlaces.StandsAmong.{in_first, in_rest}
use Rattle.oss_grammar.specs.SectionRules.{clauses_rules, optional_rules}
use Rattle.oss_grammar.specs.StaticRules.{assign_rules, declare_all, head_rules, in_a_loop, in_a_task, in_a_task_loop, may_break, may_continue, print_rules, return_rules, rules_of, rules_of_all, part_rules, scope_in, Judged, wait_rules, with_local}
use Rattle.oss_grammar.proofs.RuleEquations.{rules-block, rules-empty, rules-declare, rules-assign, rules-call, rules-print, rules-if, rules-while, rules-for, rules-return, rules-break, rules-continue, rules-task, rules-task-loop, rules-wait, rules-release}
use Rattle.oss_grammar.proofs.TreeInduction.{Each, Any, StmtParts, stmt_induction}
use Rattle.oss_grammar.proofs.TreeInduction.Each.{each_none, each_more}
use Rattle.oss_grammar.proofs.TreeInduction.Any.{any_none, any_some}
use Rattle.oss_grammar.proofs.TreeInduction.StmtParts.{is_block, is_empty, is_declare, is_assign, is_call, is_print, is_if, is_while, is_for, is_return, is_break, is_continue, is_task, is_task_loop, is_wait, is_release}

-- one of two lists in a row
pub none_of : {A C : Type 0} {x : A} → IsOneOf x [] → C
none_of w = elim w [ ]

pub one_of_left : {A : Type 0} {x : A} {xs : List A} (ys : List A) → IsOneOf x xs → IsOneOf x (xs ++ ys)
one_of_left ys (first_of_them e) = first_of_them e
one_of_left ys (later_of_them w) = later_of_them (one_of_left ys w)

pub one_of_right : {A : Type 0} {x : A} {ys : List A} (xs : List A) → IsOneOf x ys → IsOneOf x (xs ++ ys)
one_of_right [] w = w
one_of_right (y ∷ xs) w = later_of_them (one_of_right xs w)

pub one_of_two : {A : Type 0} {x : A} (xs ys : List A) → IsOneOf x (xs ++ ys) → IsOneOf x xs ⊎ IsOneOf x ys
one_of_two [] ys w = inr w
one_of_two (y ∷ xs) ys (first_of_them e) = inl (first_of_them e)
one_of_two {A} {x} (y ∷ xs) ys (later_of_them w) = put (one_of_two xs ys w) where
  put : IsOneOf x xs ⊎ IsOneOf x ys → IsOneOf x (y ∷ xs) ⊎ IsOneOf x ys
  put (inl u) = inl (later_of_them u)
  put (inr u) = inr u

-- the rules of a statement but for those of the statements in it
abbrev pub own_of : StmtKind-F StmtKind Stmt → ℕ → List Item → Around → List Local → List Refused
own_of (open_stmt.Block body) line all a locals = []
own_of open_stmt.Empty line all a locals = []
own_of (open_stmt.Declare ls) line all a locals = (declare_all all a.start ls locals).broken
own_of (open_stmt.Assign target o e) line all a locals = assign_rules all locals o target e
own_of (open_stmt.Call name es) line all a locals = all_of (call_findings all locals name line true (map (findings all locals) es))
own_of (open_stmt.Print format es) line all a locals = print_rules all locals line format es
own_of (open_stmt.If e s o) line all a locals = value_rules all locals wanted.Number e
own_of (open_stmt.While e s) line all a locals = value_rules all locals wanted.Number e
own_of (open_stmt.For start test last s) line all a locals = optional_rules all (locals_behind_part (length locals) start locals) test
own_of (open_stmt.Return e) line all a locals = return_rules all locals a line e
own_of open_stmt.Break line all a locals = where_so (not (may_break a.nearest)) refused.BadJump line
own_of open_stmt.Continue line all a locals = where_so (not (may_continue a.nearest)) refused.BadJump line
own_of (open_stmt.Task mark s) line all a locals = clauses_rules all locals 0 mark.clauses
own_of (open_stmt.TaskLoop head s) line all a locals = head_rules all locals head
own_of (open_stmt.TaskWait sections) line all a locals = wait_rules all locals sections
own_of (open_stmt.Release clauses) line all a locals = clauses_rules all locals 0 clauses

abbrev pub own_rules : List Item → Around → List Local → Stmt → List Refused
own_rules all a locals s = own_of (out-StmtKind s.what) s.line all a locals

-- what is in scope behind declarators and statements
pub declared_scope : (all : List Item) (start : ℕ) (ls locals : List Local) → (declare_all all start ls locals).locals ≡ scope_behind start ls locals
declared_scope all start [] locals = refl
declared_scope all start (l ∷ rest) locals = declared_scope all start rest (with_local (is_local_again start locals l.name) l locals)

-- what a statement is, with no claim
nothing_each : (ss : List Stmt) → Each (λ t. Unit {0}) ss
nothing_each [] = each_none
nothing_each (s ∷ ss) = each_more tt (nothing_each ss)

nothing_any : (o : Option Stmt) → Any (λ t. Unit {0}) o
nothing_any None = any_none
nothing_any (Some s) = any_some tt

module _ {Q : Stmt → Type 0} where
  forget : {k : StmtKind} → StmtParts Q k → StmtParts (λ t. Unit {0}) k
  forget (is_block body is each) = is_block body is (nothing_each body)
  forget (is_empty is) = is_empty is
  forget (is_declare ls is) = is_declare ls is
  forget (is_assign target o e is) = is_assign target o e is
  forget (is_call name es is) = is_call name es is
  forget (is_print format es is) = is_print format es is
  forget (is_if e t o is u v) = is_if e t o is tt (nothing_any o)
  forget (is_while e t is u) = is_while e t is tt
  forget (is_for start test last t is u v w) = is_for start test last t is (nothing_any start) (nothing_any last) tt
  forget (is_return e is) = is_return e is
  forget (is_break is) = is_break is
  forget (is_continue is) = is_continue is
  forget (is_task mark t is u) = is_task mark t is tt
  forget (is_task_loop head t is u) = is_task_loop head t is tt
  forget (is_wait sections is) = is_wait sections is
  forget (is_release clauses is) = is_release clauses is

pub stmt_view : (s : Stmt) → StmtParts (λ t. Unit {0}) s.what
stmt_view = stmt_induction (λ s. StmtParts (λ t. Unit {0}) s.what) (λ s parts. forget parts)

module _ (all : List Item) (a : Around) (locals : List Local) (s : Stmt) where
  scope_by : StmtParts (λ t. Unit {0}) s.what → (rules_of s all a locals).locals ≡ locals_behind a.start s locals
  scope_by (is_block body is each) = rw (rules-block s all a locals body is, is) (search (rules, stmt_folds))
  scope_by (is_empty is) = rw (rules-empty s all a locals is, is) (search (rules, stmt_folds))
  scope_by (is_declare ls is) = rw (rules-declare s all a locals ls is, declared_scope all a.start ls locals, is) (search (rules, stmt_folds))
  scope_by (is_assign target o e is) = rw (rules-assign s all a locals target o e is, is) (search (rules, stmt_folds))
  scope_by (is_call name es is) = rw (rules-call s all a locals name es is, is) (search (rules, stmt_folds))
  scope_by (is_print format es is) = rw (rules-print s all a locals format es is, is) (search (rules, stmt_folds))
  scope_by (is_if e t o is u v) = rw (rules-if s all a locals e t o is, is) (search (rules, stmt_folds))
  scope_by (is_while e t is u) = rw (rules-while s all a locals e t is, is) (search (rules, stmt_folds))
  scope_by (is_for start test last t is u v w) = rw (rules-for s all a locals start test last t is, is) (search (rules, stmt_folds))
  scope_by (is_return e is) = rw (rules-return s all a locals e is, is) (search (rules, stmt_folds))
  scope_by (is_break is) = rw (rules-break s all a locals is, is) (search (rules, stmt_folds))
  scope_by (is_continue is) = rw (rules-continue s all a locals is, is) (search (rules, stmt_folds))
  scope_by (is_task mark t is u) = rw (rules-task s all a locals mark t is, is) (search (rules, stmt_folds))
  scope_by (is_task_loop head t is u) = rw (rules-task-loop s all a locals head t is, is) (search (rules, stmt_folds))
  scope_by (is_wait sections is) = rw (rules-wait s all a locals sections is, is) (search (rules, stmt_folds))
  scope_by (is_release clauses is) = rw (rules-release s all a locals clauses is, is) (search (rules, stmt_folds))

  pub rules_scope : (rules_of s all a locals).locals ≡ locals_behind a.start s locals
  rules_scope = scope_by (stmt_view s)

part_scope : (all : List Item) (a : Around) (locals : List Local) (o : Option Stmt) → (part_rules (option_map rules_of o) all a locals).locals ≡ locals_behind_part a.start o locals
part_scope all a locals None = refl
part_scope all a locals (Some s) = rules_scope all a locals s

-- the rules of a `for` behind its first part, with these locals in scope
abbrev pub for_behind : List Item → Around → Option Expr → Option Stmt → Stmt → List Local → List Refused
for_behind all a test last t ls = optional_rules all ls test ++ ((part_rules (option_map rules_of last) all (scope_in a ls) ls).broken ++ (rules_of t all (scope_in (in_a_loop a) ls) ls).broken)

pub for_broken : (all : List Item) (a : Around) (locals : List Local) (s : Stmt) (start : Option Stmt) (test : Option Expr) (last : Option Stmt) (t : Stmt) → s.what ≡ stmts.For start test last t
    → (rules_of s all a locals).broken ≡ (part_rules (option_map rules_of start) all (scope_in a locals) locals).broken ++ for_behind all a test last t (locals_behind_part (length locals) start locals)
for_broken all a locals s start test last t is =
    ap (λ (j : Judged). j.broken) (rules-for s all a locals start test last t is)
    ∙ ap (λ (ls : List Local). (part_rules (option_map rules_of start) all (scope_in a locals) locals).broken ++ for_behind all a test last t ls) (part_scope all (scope_in a locals) locals start)

-- a rule of a statement is one of the own rules of a statement in it
pub record Found (all : List Item) (x : Refused) (a : Around) (locals : List Local) (s : Stmt) : Type 0 where
  pub around : Around
  pub visible : List Local
  pub statement : Stmt
  pub stands : StandsIn around visible statement a locals s
  pub own : IsOneOf x (own_rules all around visible statement)

pub record FoundAmong (all : List Item) (x : Refused) (a : Around) (locals : List Local) (body : List Stmt) : Type 0 where
  pub around : Around
  pub visible : List Local
  pub statement : Stmt
  pub stands : StandsAmong around visible statement a locals body
  pub own : IsOneOf x (own_rules all around visible statement)

module _ (all : List Item) (x : Refused) where
  abbrev IsFound : Stmt → Type 0
  IsFound s = (a : Around) (locals : List Local) → IsOneOf x (rules_of s all a locals).broken → Found all x a locals s

  along : {j k : Judged} → j ≡ k → IsOneOf x j.broken → IsOneOf x k.broken
  along e w = subst (λ (i : Judged). IsOneOf x i.broken) e w

  scoped : (a : Around) {ls ms : List Local} (body : List Stmt) → ls ≡ ms → IsOneOf x (rules_of_all body all a ls).broken → IsOneOf x (rules_of_all body all a ms).broken
  scoped a body e w = subst (λ (i : List Local). IsOneOf x (rules_of_all body all a i).broken) e w

  at_itself : (a : Around) (locals : List Local) (s : Stmt) (k : StmtKind-F StmtKind Stmt) → out-StmtKind s.what ≡ k → IsOneOf x (own_of k s.line all a locals) → Found all x a locals s
  at_itself a locals s k e w = record { around = a; visible = locals; statement = s; stands = itself; own = subst (λ (i : StmtKind-F StmtKind Stmt). IsOneOf x (own_of i s.line all a locals)) (sym e) w }

  among_put : (a : Around) (locals : List Local) (s : Stmt) (rest : List Stmt)
      → Found all x a locals s ⊎ FoundAmong all x a (locals_behind a.start s locals) rest → FoundAmong all x a locals (s ∷ rest)
  among_put a locals s rest (inl f) = record { around = f.around; visible = f.visible; statement = f.statement; stands = in_first f.stands; own = f.own }
  among_put a locals s rest (inr f) = record { around = f.around; visible = f.visible; statement = f.statement; stands = in_rest f.stands; own = f.own }

  among : (body : List Stmt) → Each IsFound body → (a : Around) (locals : List Local) → IsOneOf x (rules_of_all body all a locals).broken → FoundAmong all x a locals body
  among [] each_none a locals w = none_of w
  among (s ∷ rest) (each_more q more) a locals w =
      among_put a locals s rest (elim (one_of_two (rules_of s all a locals).broken (rules_of_all rest all a (rules_of s all a locals).locals).broken w) [
        | inl u ↦ inl (q a locals u)
        | inr u ↦ inr (among rest more a (locals_behind a.start s locals) (scoped a rest (rules_scope all a locals s) u))
      ])

  -- from a part up
  up : {a b : Around} {ls ms : List Local} {s t : Stmt} → ((c : Around) (visible : List Local) (u : Stmt) → StandsIn c visible u a ls s → StandsIn c visible u b ms t) → Found all x a ls s → Found all x b ms t
  up lift f = record { around = f.around; visible = f.visible; statement = f.statement; stands = lift f.around f.visible f.statement f.stands; own = f.own }

  part_of : (o : Option Stmt) → Any IsFound o → (a : Around) (locals : List Local) → IsOneOf x (part_rules (option_map rules_of o) all a locals).broken
      → (t : Stmt) × (o ≡ Some t) × Found all x a locals t
  part_of None any_none a locals w = none_of w
  part_of (Some t) (any_some q) a locals w = (t, refl, q a locals w)

  found_by : (s : Stmt) → StmtParts IsFound s.what → IsFound s
  found_by s (is_empty is) a locals w = at_itself a locals s open_stmt.Empty (rw is (search (rules, stmt_folds))) (along (rules-empty s all a locals is) w)
  found_by s (is_declare ls is) a locals w = at_itself a locals s (open_stmt.Declare ls) (rw is (search (rules, stmt_folds))) (along (rules-declare s all a locals ls is) w)
  found_by s (is_assign target o e is) a locals w = at_itself a locals s (open_stmt.Assign target o e) (rw is (search (rules, stmt_folds))) (along (rules-assign s all a locals target o e is) w)
  found_by s (is_call name es is) a locals w = at_itself a locals s (open_stmt.Call name es) (rw is (search (rules, stmt_folds))) (along (rules-call s all a locals name es is) w)
  found_by s (is_print format es is) a locals w = at_itself a locals s (open_stmt.Print format es) (rw is (search (rules, stmt_folds))) (along (rules-print s all a locals format es is) w)
  found_by s (is_return e is) a locals w = at_itself a locals s (open_stmt.Return e) (rw is (search (rules, stmt_folds))) (along (rules-return s all a locals e is) w)
  found_by s (is_break is) a locals w = at_itself a locals s open_stmt.Break (rw is (search (rules, stmt_folds))) (along (rules-break s all a locals is) w)
  found_by s (is_continue is) a locals w = at_itself a locals s open_stmt.Continue (rw is (search (rules, stmt_folds))) (along (rules-continue s all a locals is) w)
  found_by s (is_wait sections is) a locals w = at_itself a locals s (open_stmt.TaskWait sections) (rw is (search (rules, stmt_folds))) (along (rules-wait s all a locals sections is) w)
  found_by s (is_release clauses is) a locals w = at_itself a locals s (open_stmt.Release clauses) (rw is (search (rules, stmt_folds))) (along (rules-release s all a locals clauses is) w)
  found_by s (is_block body is each) a locals w = put (among body each (scope_in a locals) locals (along (rules-block s all a locals body is) w)) where
    put : FoundAmong all x (scope_in a locals) locals body → Found all x a locals s
    put f = record { around = f.around; visible = f.visible; statement = f.statement; stands = in_block body is f.stands; own = f.own }
  found_by s (is_if e t o is u v) a locals w =
      if_rules (one_of_two (value_rules all locals wanted.Number e) ((rules_of t all (scope_in a locals) locals).broken ++ (part_rules (option_map rules_of o) all (scope_in a locals) locals).broken) (along (rules-if s all a locals e t o is) w))
    where
      in_other : (r : Stmt) × (o ≡ Some r) × Found all x (scope_in a locals) locals r → Found all x a locals s
      in_other f = up (λ c visible z d. in_else e t f.0 (is ∙ ap (λ (i : Option Stmt). stmts.If e t i) f.1) d) f.2

      if_parts : IsOneOf x (rules_of t all (scope_in a locals) locals).broken ⊎ IsOneOf x (part_rules (option_map rules_of o) all (scope_in a locals) locals).broken → Found all x a locals s
      if_parts (inl y) = up (λ c visible z d. in_then e t o is d) (u (scope_in a locals) locals y)
      if_parts (inr y) = in_other (part_of o v (scope_in a locals) locals y)

      if_rules : IsOneOf x (value_rules all locals wanted.Number e) ⊎ IsOneOf x ((rules_of t all (scope_in a locals) locals).broken ++ (part_rules (option_map rules_of o) all (scope_in a locals) locals).broken) → Found all x a locals s
      if_rules (inl y) = at_itself a locals s (open_stmt.If e t o) (rw is (search (rules, stmt_folds))) y
      if_rules (inr y) = if_parts (one_of_two (rules_of t all (scope_in a locals) locals).broken (part_rules (option_map rules_of o) all (scope_in a locals) locals).broken y)
  found_by s (is_while e t is u) a locals w = parts (one_of_two (value_rules all locals wanted.Number e) (rules_of t all (scope_in (in_a_loop a) locals) locals).broken (along (rules-while s all a locals e t is) w)) where
    parts : IsOneOf x (value_rules all locals wanted.Number e) ⊎ IsOneOf x (rules_of t all (scope_in (in_a_loop a) locals) locals).broken → Found all x a locals s
    parts (inl y) = at_itself a locals s (open_stmt.While e t) (rw is (search (rules, stmt_folds))) y
    parts (inr y) = up (λ c visible z d. in_while e t is d) (u (scope_in (in_a_loop a) locals) locals y)
  found_by s (is_task mark t is u) a locals w = parts (one_of_two (clauses_rules all locals 0 mark.clauses) (rules_of t all (scope_in (in_a_task a) locals) locals).broken (along (rules-task s all a locals mark t is) w)) where
    parts : IsOneOf x (clauses_rules all locals 0 mark.clauses) ⊎ IsOneOf x (rules_of t all (scope_in (in_a_task a) locals) locals).broken → Found all x a locals s
    parts (inl y) = at_itself a locals s (open_stmt.Task mark t) (rw is (search (rules, stmt_folds))) y
    parts (inr y) = up (λ c visible z d. in_task_body mark t is d) (u (scope_in (in_a_task a) locals) locals y)
  found_by s (is_task_loop head t is u) a locals w = parts (one_of_two (head_rules all locals head) (rules_of t all (scope_in (in_a_task_loop a) inside) inside).broken (along (rules-task-loop s all a locals head t is) w)) where
    inside : List Local
    inside = loop_locals head locals

    parts : IsOneOf x (head_rules all locals head) ⊎ IsOneOf x (rules_of t all (scope_in (in_a_task_loop a) inside) inside).broken → Found all x a locals s
    parts (inl y) = at_itself a locals s (open_stmt.TaskLoop head t) (rw is (search (rules, stmt_folds))) y
    parts (inr y) = up (λ c visible z d. in_task_loop_body head t is d) (u (scope_in (in_a_task_loop a) inside) inside y)
  found_by s (is_for start test last t is u v q) a locals w = for_parts (one_of_two from_start behind (subst (λ (i : List Refused). IsOneOf x i) (for_broken all a locals s start test last t is) w)) where
    more : List Local
    more = locals_behind_part (length locals) start locals

    from_start : List Refused
    from_start = (part_rules (option_map rules_of start) all (scope_in a locals) locals).broken

    behind : List Refused
    behind = for_behind all a test last t more

    behind_test : List Refused
    behind_test = (part_rules (option_map rules_of last) all (scope_in a more) more).broken ++ (rules_of t all (scope_in (in_a_loop a) more) more).broken

    in_start : (r : Stmt) × (start ≡ Some r) × Found all x (scope_in a locals) locals r → Found all x a locals s
    in_start f = up (λ c visible z d. in_for_start f.0 test last t (is ∙ ap (λ (i : Option Stmt). stmts.For i test last t) f.1) d) f.2

    in_last : (r : Stmt) × (last ≡ Some r) × Found all x (scope_in a more) more r → Found all x a locals s
    in_last f = up (λ c visible z d. in_for_last start test f.0 t (is ∙ ap (λ (i : Option Stmt). stmts.For start test i t) f.1) d) f.2

    last_parts : IsOneOf x (part_rules (option_map rules_of last) all (scope_in a more) more).broken ⊎ IsOneOf x (rules_of t all (scope_in (in_a_loop a) more) more).broken → Found all x a locals s
    last_parts (inl y) = in_last (part_of last v (scope_in a more) more y)
    last_parts (inr y) = up (λ c visible z d. in_for_body start test last t is d) (q (scope_in (in_a_loop a) more) more y)

    test_parts : IsOneOf x (optional_rules all more test) ⊎ IsOneOf x behind_test → Found all x a locals s
    test_parts (inl y) = at_itself a locals s (open_stmt.For start test last t) (rw is (search (rules, stmt_folds))) y
    test_parts (inr y) = last_parts (one_of_two (part_rules (option_map rules_of last) all (scope_in a more) more).broken (rules_of t all (scope_in (in_a_loop a) more) more).broken y)

    for_parts : IsOneOf x from_start ⊎ IsOneOf x behind → Found all x a locals s
    for_parts (inl y) = in_start (part_of start u (scope_in a locals) locals y)
    for_parts (inr y) = test_parts (one_of_two (optional_rules all more test) behind_test y)

  pub found_in : (s : Stmt) → IsFound s
  found_in = stmt_induction IsFound found_by

  each_found : (body : List Stmt) → Each IsFound body
  each_found [] = each_none
  each_found (s ∷ rest) = each_more (found_in s) (each_found rest)

  pub found_among : (body : List Stmt) (a : Around) (locals : List Local) → IsOneOf x (rules_of_all body all a locals).broken → FoundAmong all x a locals body
  found_among body a locals w = among body (each_found body) a locals w

  -- and the other way
  own_told : (a : Around) (locals : List Local) (s : Stmt) (k : StmtKind-F StmtKind Stmt) → out-StmtKind s.what ≡ k → IsOneOf x (own_rules all a locals s) → IsOneOf x (own_of k s.line all a locals)
  own_told a locals s k e w = subst (λ (i : StmtKind-F StmtKind Stmt). IsOneOf x (own_of i s.line all a locals)) e w

  back : {j k : Judged} → j ≡ k → IsOneOf x k.broken → IsOneOf x j.broken
  back e w = subst (λ (i : Judged). IsOneOf x i.broken) (sym e) w

  itself_told : (a : Around) (locals : List Local) (s : Stmt) → StmtParts (λ t. Unit {0}) s.what → IsOneOf x (own_rules all a locals s) → IsOneOf x (rules_of s all a locals).broken
  itself_told a locals s (is_empty is) w = back (rules-empty s all a locals is) (own_told a locals s open_stmt.Empty (rw is (search (rules, stmt_folds))) w)
  itself_told a locals s (is_declare ls is) w = back (rules-declare s all a locals ls is) (own_told a locals s (open_stmt.Declare ls) (rw is (search (rules, stmt_folds))) w)
  itself_told a locals s (is_assign target o e is) w = back (rules-assign s all a locals target o e is) (own_told a locals s (open_stmt.Assign target o e) (rw is (search (rules, stmt_folds))) w)
  itself_told a locals s (is_call name es is) w = back (rules-call s all a locals name es is) (own_told a locals s (open_stmt.Call name es) (rw is (search (rules, stmt_folds))) w)
  itself_told a locals s (is_print format es is) w = back (rules-print s all a locals format es is) (own_told a locals s (open_stmt.Print format es) (rw is (search (rules, stmt_folds))) w)
  itself_told a locals s (is_return e is) w = back (rules-return s all a locals e is) (own_told a locals s (open_stmt.Return e) (rw is (search (rules, stmt_folds))) w)
  itself_told a locals s (is_break is) w = back (rules-break s all a locals is) (own_told a locals s open_stmt.Break (rw is (search (rules, stmt_folds))) w)
  itself_told a locals s (is_continue is) w = back (rules-continue s all a locals is) (own_told a locals s open_stmt.Continue (rw is (search (rules, stmt_folds))) w)
  itself_told a locals s (is_wait sections is) w = back (rules-wait s all a locals sections is) (own_told a locals s (open_stmt.TaskWait sections) (rw is (search (rules, stmt_folds))) w)
  itself_told a locals s (is_release clauses is) w = back (rules-release s all a locals clauses is) (own_told a locals s (open_stmt.Release clauses) (rw is (search (rules, stmt_folds))) w)
  itself_told a locals s (is_block body is each) w = none_of (own_told a locals s (open_stmt.Block body) (rw is (search (rules, stmt_folds))) w)
  itself_told a locals s (is_if e t o is u v) w = back (rules-if s all a locals e t o is) (one_of_left _ (own_told a locals s (open_stmt.If e t o) (rw is (search (rules, stmt_folds))) w))
  itself_told a locals s (is_while e t is u) w = back (rules-while s all a locals e t is) (one_of_left _ (own_told a locals s (open_stmt.While e t) (rw is (search (rules, stmt_folds))) w))
  itself_told a locals s (is_for start test last t is u v q) w = subst (λ (i : List Refused). IsOneOf x i) (sym (for_broken all a locals s start test last t is)) (one_of_right (part_rules (option_map rules_of start) all (scope_in a locals) locals).broken (one_of_left _ (own_told a locals s (open_stmt.For start test last t) (rw is (search (rules, stmt_folds))) w)))
  itself_told a locals s (is_task mark t is u) w = back (rules-task s all a locals mark t is) (one_of_left _ (own_told a locals s (open_stmt.Task mark t) (rw is (search (rules, stmt_folds))) w))
  itself_told a locals s (is_task_loop head t is u) w = back (rules-task-loop s all a locals head t is) (one_of_left _ (own_told a locals s (open_stmt.TaskLoop head t) (rw is (search (rules, stmt_folds))) w))

  mutual
    pub told_in : {b : Around} {visible : List Local} {t : Stmt} {a : Around} {locals : List Local} {s : Stmt} → StandsIn b visible t a locals s → IsOneOf x (own_rules all b visible t) → IsOneOf x (rules_of s all a locals).broken
    told_in {b = b} {visible = visible} {t = t} itself w = itself_told b visible t (stmt_view t) w
    told_in {a = a} {locals = locals} {s = s} (in_block body is d) w = back (rules-block s all a locals body is) (told_among d w)
    told_in {a = a} {locals = locals} {s = s} (in_then e r o is d) w = back (rules-if s all a locals e r o is) (one_of_right (value_rules all locals wanted.Number e) (one_of_left _ (told_in d w)))
    told_in {a = a} {locals = locals} {s = s} (in_else e r o is d) w =
        back (rules-if s all a locals e r (Some o) is) (one_of_right (value_rules all locals wanted.Number e) (one_of_right (rules_of r all (scope_in a locals) locals).broken (told_in d w)))
    told_in {a = a} {locals = locals} {s = s} (in_while e r is d) w = back (rules-while s all a locals e r is) (one_of_right (value_rules all locals wanted.Number e) (told_in d w))
    told_in {a = a} {locals = locals} {s = s} (in_for_start start test last r is d) w =
        subst (λ (i : List Refused). IsOneOf x i) (sym (for_broken all a locals s (Some start) test last r is)) (one_of_left _ (told_in d w))
    told_in {a = a} {locals = locals} {s = s} (in_for_last start test last r is d) w =
        subst (λ (i : List Refused). IsOneOf x i) (sym (for_broken all a locals s start test (Some last) r is))
        (one_of_right (part_rules (option_map rules_of start) all (scope_in a locals) locals).broken
        (one_of_right (optional_rules all (locals_behind_part (length locals) start locals) test) (one_of_left _ (told_in d w))))
    told_in {a = a} {locals = locals} {s = s} (in_for_body start test last r is d) w =
        subst (λ (i : List Refused). IsOneOf x i) (sym (for_broken all a locals s start test last r is))
        (one_of_right (part_rules (option_map rules_of start) all (scope_in a locals) locals).broken
        (one_of_right (optional_rules all (locals_behind_part (length locals) start locals) test)
        (one_of_right (part_rules (option_map rules_of last) all (scope_in a (locals_behind_part (length locals) start locals)) (locals_behind_part (length locals) start locals)).broken (told_in d w))))
    told_in {a = a} {locals = locals} {s = s} (in_task_body mark r is d) w = back (rules-task s all a locals mark r is) (one_of_right (clauses_rules all locals 0 mark.clauses) (told_in d w))
    told_in {a = a} {locals = locals} {s = s} (in_task_loop_body head r is d) w = back (rules-task-loop s all a locals head r is) (one_of_right (head_rules all locals head) (told_in d w))

    pub told_among : {b : Around} {visible : List Local} {t : Stmt} {a : Around} {locals : List Local} {body : List Stmt} → StandsAmong b visible t a locals body → IsOneOf x (own_rules all b visible t)
        → IsOneOf x (rules_of_all body all a locals).broken
    told_among (in_first d) w = one_of_left _ (told_in d w)
    told_among {a = a} {locals = locals} (in_rest {s = s} {rest = rest} d) w = one_of_right (rules_of s all a locals).broken (scoped a rest (sym (rules_scope all a locals s)) (told_among d w))
