-- UnknownName is told exactly where an unknown name is used.
use Rattle.std.proofs.Common.{◌≡◌, ℕ, ◌==◌, Bool, true, false, not, List, [], ◌∷◌, ◌++◌, length, map, refl, sym, ap, ◌∙◌, subst, ◌⊎◌, inl, inr, Option, Some, None, rules}
use Rattle.std.specs.Prelude.{◌&&◌, is_some, nat_le}
use Rattle.std.specs.Str.{bytes_eq}
use Rattle.oss_syntax.specs.declared.refusal.Refused.{Refused}
use Rattle.oss_syntax.specs.declared.refusal.RefusedKind.{RefusedKind}
use Rattle.oss_syntax.specs.declared.refusal.RefusedKind.TheVariants as refused
use Rattle.oss_syntax.specs.declared.tree.expr.BinOp.{BinOp}
use Rattle.oss_syntax.specs.declared.tree.expr.Expr.{Expr}
use Rattle.oss_syntax.specs.declared.tree.pragma.Clause.{Clause}
use Rattle.oss_syntax.specs.declared.tree.pragma.Section.{Section}
use Rattle.oss_syntax.specs.declared.tree.pragma.TaskMark.{TaskMark}
use Rattle.oss_syntax.specs.declared.tree.program.Function.{Function}
use Rattle.oss_syntax.specs.declared.tree.program.Item.{Item}
use Rattle.oss_syntax.specs.declared.tree.program.Item.TheVariants as items
use Rattle.oss_syntax.specs.declared.tree.program.Kind.{Kind}
use Rattle.oss_syntax.specs.declared.tree.program.Local.{Local}
use Rattle.oss_syntax.specs.declared.tree.program.Program.{Program}
use Rattle.oss_syntax.specs.declared.tree.stmt.LoopHead.{LoopHead}
use Rattle.oss_syntax.specs.declared.tree.stmt.Stmt.{Stmt}
use Rattle.oss_syntax.specs.declared.tree.stmt.StmtKind.{StmtKind, out-StmtKind}
use Rattle.oss_syntax.specs.declared.tree.stmt.StmtKind.TheOpen.{StmtKind-F}
use Rattle.oss_syntax.specs.declared.tree.stmt.StmtKind.TheOpen as open_stmt
use Rattle.oss_syntax.specs.declared.tree.stmt.StmtKind.TheVariants as stmts
use Rattle.oss_syntax.specs.declared.tree.stmt.StmtKind.TheFolds.{the_lemmas as stmt_folds}
use Rattle.oss_grammar.specs.declared.kinds.Around.{Around}
use Rattle.oss_grammar.specs.declared.kinds.Named.TheVariants as named
use Rattle.oss_grammar.specs.declared.kinds.Wanted.{Wanted}
use Rattle.oss_grammar.specs.declared.kinds.Wanted.TheVariants as wanted
use Rattle.oss_grammar.specs.Broken.{broken, where_so}
use Rattle.oss_grammar.specs.ExpressionRules.{argument_rules, call_rules, findings, parameters_of, value_rules}
use Rattle.oss_grammar.specs.Formats.{conversions_of}
use Rattle.oss_grammar.specs.Kinds.{Findings, all_of, placed, unless, wanted_by}
use Rattle.oss_grammar.specs.Places.{IsOneOf}
use Rattle.oss_grammar.proofs.ScopedPlaces.{locals_behind_part, scope_behind}
use Rattle.oss_grammar.specs.Places.IsOneOf.{first_of_them, later_of_them}
use Rattle.oss_grammar.specs.ProgramRules.{body_around, has_main, is_wrong_function, items_rules, mark_rules, passes_cells, program_rules}
use Rattle.oss_grammar.specs.Scopes.{function_named, is_again, is_local_again, loop_locals, meaning}
use Rattle.oss_grammar.specs.SectionRules.{loop_clauses_rules, optional_rules}
use Rattle.oss_grammar.specs.StaticRules.{assign_rules, declare_all, first_rules, format_rules, head_rules, is_wrong_return, last_name_rules, local_rules, may_break, may_continue, name_rules, numbers_rules, or_anything, print_rules, return_rules, returned_rules, target_wanted, wait_rules, with_local}
use Rattle.oss_grammar.specs.UnknownNames.{Uses, UsesInClauses, UsesInSections, UsesInSome}
use Rattle.oss_grammar.proofs.ScopedUses.{UsesIn, UsesInInitial, UsesUnknown}
use Rattle.oss_grammar.proofs.ScopedUses.UsesIn.{in_initial, in_target, in_stored, as_called, in_passed, in_printed, in_if_test, in_while_test, in_for_test, in_returned, in_task_clauses, in_loop_clauses, in_loop_first, in_loop_end, in_wait_sections, in_release_clauses}
use Rattle.oss_grammar.proofs.ScopedUses.UsesUnknown.{in_pragma, in_parameter, in_statement}
use Rattle.oss_grammar.proofs.ItemLemmas.{FunctionPart, ItemPart, function_told, item_part, item_told}
use Rattle.oss_grammar.proofs.ItemLemmas.FunctionPart.{in_mark, at_name, at_kind, in_params, in_body}
use Rattle.oss_grammar.proofs.ItemLemmas.ItemPart.{at_global, at_function, behind_global, behind_function}
use Rattle.oss_grammar.proofs.KindLemmas.{Only, only_one, only_two, only_where}
use Rattle.oss_grammar.proofs.PlaceLemmas.{none_of, one_of_left, one_of_right, one_of_two, own_of, own_rules, stmt_view, FoundAmong, found_among, told_among}
use Rattle.oss_grammar.proofs.TreeInduction.{StmtParts}
use Rattle.oss_grammar.proofs.TreeInduction.StmtParts.{is_block, is_empty, is_declare, is_assign, is_call, is_print, is_if, is_while, is_for, is_return, is_break, is_continue, is_task, is_task_loop, is_wait, is_release}
use Rattle.oss_grammar.proofs.UnknownSections.{SectionsUse, ClausesUse, sections_found, sections_told, clauses_found, clauses_told, loop_clauses_found, loop_clauses_told}
use Rattle.oss_grammar.proofs.UnknownUses.{UnknownUse, UnknownIn, callee_found, callee_told, passed_found, passed_told, unless_found, unless_told, use_found, use_told, value_found, value_told}
use Rattle.oss_grammar.proofs.UseLemmas.{meaning_unknown, unknown_meaning}

abbrev other_than_name : RefusedKind → Bool
other_than_name refused.UnknownName = false
other_than_name _ = true

no_name : {C : Type 0} {xs : List Refused} {line : ℕ} → Only other_than_name xs → IsOneOf (broken refused.UnknownName line) xs → C
no_name {line = line} a w = let e : false ≡ true = a.each (broken refused.UnknownName line) w in absurd (cc)

no_rule : {C : Type 0} {line : ℕ} (b : Bool) (kind : RefusedKind) (l : ℕ) → other_than_name kind ≡ true → IsOneOf (broken refused.UnknownName line) (where_so b kind l) → C
no_rule b kind l fits w = no_name (only_where other_than_name b kind l fits) w

module _ (line : ℕ) (all : List Item) where
  abbrev x : Refused
  x = broken refused.UnknownName line

  -- the initial values of declarators
  pub record InitialUse (start : ℕ) (visible declared : List Local) : Type 0 where
    pub scope : List Local
    pub name : List ℕ
    pub uses : UsesInInitial start visible declared scope name line
    pub means : meaning all scope name ≡ named.Missing

  returned_found : (locals : List Local) (kind : Kind) (o : Option Expr) → IsOneOf x (returned_rules all locals kind o) → (e : Expr) × (o ≡ Some e) × UnknownUse line all locals e
  returned_found locals kind None w = none_of w
  returned_found locals kind (Some e) w = (e, refl, value_found line all locals (wanted_by kind) e w)

  returned_told : {name : List ℕ} (locals : List Local) (kind : Kind) (o : Option Expr) (e : Expr) → o ≡ Some e → meaning all locals name ≡ named.Missing → Uses name line e
      → IsOneOf x (returned_rules all locals kind o)
  returned_told locals kind o e is m u = rw is (value_told line all locals (wanted_by kind) e m u)

  module _ (start : ℕ) where
    here : (l : Local) (rest locals : List Local) → IsOneOf x (local_rules all start l locals) → InitialUse start locals (l ∷ rest)
    here l rest locals w = past_name (one_of_two again (large ++ first_rules all locals l) w) where
      again : List Refused
      again = where_so (is_local_again start locals l.name) refused.DuplicateName l.line

      large : List Refused
      large = where_so (nat_le 255 (length locals)) refused.TooLarge l.line

      put : (e : Expr) × (l.first ≡ Some e) × UnknownUse line all locals e → InitialUse start locals (l ∷ rest)
      put u = record { scope = locals; name = u.2.name; uses = record { before = []; declarator = l; behind = rest; split = refl; value = u.0; is_initial = u.1; scope_is = refl; uses = u.2.uses }; means = u.2.means }

      past_size : IsOneOf x large ⊎ IsOneOf x (first_rules all locals l) → InitialUse start locals (l ∷ rest)
      past_size (inl u) = no_rule (nat_le 255 (length locals)) refused.TooLarge l.line refl u
      past_size (inr u) = put (returned_found locals l.kind l.first u)

      past_name : IsOneOf x again ⊎ IsOneOf x (large ++ first_rules all locals l) → InitialUse start locals (l ∷ rest)
      past_name (inl u) = no_rule (is_local_again start locals l.name) refused.DuplicateName l.line refl u
      past_name (inr u) = past_size (one_of_two large (first_rules all locals l) u)

    later : (l : Local) (rest locals : List Local) → InitialUse start (with_local (is_local_again start locals l.name) l locals) rest → InitialUse start locals (l ∷ rest)
    later l rest locals d = record {
      scope = d.scope;
      name = d.name;
      uses = record {
        before = l ∷ d.uses.before;
        declarator = d.uses.declarator;
        behind = d.uses.behind;
        split = ap (λ (ls : List Local). l ∷ ls) d.uses.split;
        value = d.uses.value;
        is_initial = d.uses.is_initial;
        scope_is = d.uses.scope_is;
        uses = d.uses.uses;
      };
      means = d.means;
    }

    pub initial_found : (ls locals : List Local) → IsOneOf x (declare_all all start ls locals).broken → InitialUse start locals ls
    initial_found [] locals w = none_of w
    initial_found (l ∷ rest) locals w = elim (one_of_two (local_rules all start l locals) (declare_all all start rest (with_local (is_local_again start locals l.name) l locals)).broken w) [
      | inl u ↦ here l rest locals u
      | inr u ↦ later l rest locals (initial_found rest (with_local (is_local_again start locals l.name) l locals) u)
    ]

    told_at : {name : List ℕ} (before : List Local) (l : Local) (behind locals : List Local) (e : Expr) → l.first ≡ Some e → meaning all (scope_behind start before locals) name ≡ named.Missing → Uses name line e
        → IsOneOf x (declare_all all start (before ++ (l ∷ behind)) locals).broken
    told_at [] l behind locals e is m u =
        one_of_left _ (one_of_right (where_so (is_local_again start locals l.name) refused.DuplicateName l.line) (one_of_right (where_so (nat_le 255 (length locals)) refused.TooLarge l.line) (returned_told locals l.kind l.first e is m u)))
    told_at (f ∷ before) l behind locals e is m u = one_of_right (local_rules all start f locals) (told_at before l behind (with_local (is_local_again start locals f.name) f locals) e is m u)

    pub initial_told : {scope : List Local} {name : List ℕ} (ls locals : List Local) → meaning all scope name ≡ named.Missing → UsesInInitial start locals ls scope name line
        → IsOneOf x (declare_all all start ls locals).broken
    initial_told {name = name} ls locals m d =
        subst (λ (i : List Local). IsOneOf x (declare_all all start i locals).broken) (sym d.split)
        (told_at d.before d.declarator d.behind locals d.value d.is_initial (ap (λ (i : List Local). meaning all i name) d.scope_is ∙ m) d.uses)

  -- the arguments of `printf`
  numbers_found : (locals : List Local) (es : List Expr) → IsOneOf x (numbers_rules all locals es) → UnknownIn line all locals es
  numbers_found locals [] w = none_of w
  numbers_found locals (e ∷ es) w = put (elim (one_of_two (value_rules all locals wanted.Number e) (numbers_rules all locals es) w) [
    | inl u ↦ inl (value_found line all locals wanted.Number e u)
    | inr u ↦ inr (numbers_found locals es u)
  ]) where
    put : UnknownUse line all locals e ⊎ UnknownIn line all locals es → UnknownIn line all locals (e ∷ es)
    put (inl u) = record { value = e; is_listed = first_of_them refl; use_in = u }
    put (inr u) = record { value = u.value; is_listed = later_of_them u.is_listed; use_in = u.use_in }

  numbers_told : {name : List ℕ} (locals : List Local) (es : List Expr) (e : Expr) → IsOneOf e es → meaning all locals name ≡ named.Missing → Uses name line e → IsOneOf x (numbers_rules all locals es)
  numbers_told locals [] e is m u = none_of is
  numbers_told {name} locals (a ∷ es) e (first_of_them same) m u = one_of_left _ (value_told line all locals wanted.Number a m (subst (λ (i : Expr). Uses name line i) (sym same) u))
  numbers_told locals (a ∷ es) e (later_of_them is) m u = one_of_right (value_rules all locals wanted.Number a) (numbers_told locals es e is m u)

  format_kinds : (o : Option ℕ) (n l : ℕ) → Only other_than_name (format_rules o n l)
  format_kinds None n l = only_one other_than_name (broken refused.WrongKind l) refl
  format_kinds (Some m) n l = only_where other_than_name (not (m == n)) refused.WrongCount l refl

  -- statements
  pub record UseAt (a : Around) (visible : List Local) (s : Stmt) : Type 0 where
    pub scope : List Local
    pub name : List ℕ
    pub uses : UsesIn a visible s scope name line
    pub means : meaning all scope name ≡ named.Missing

  module _ (a : Around) (locals : List Local) (s : Stmt) where
    shown : (k : StmtKind-F StmtKind Stmt) → out-StmtKind s.what ≡ k → IsOneOf x (own_rules all a locals s) → IsOneOf x (own_of k s.line all a locals)
    shown k e w = subst (λ (i : StmtKind-F StmtKind Stmt). IsOneOf x (own_of i s.line all a locals)) e w

    plain : {e : Expr} → ((name : List ℕ) → Uses name line e → UsesIn a locals s locals name line) → UnknownUse line all locals e → UseAt a locals s
    plain put u = record { scope = locals; name = u.name; uses = put u.name u.uses; means = u.means }

    some : {es : List Expr} → ((name : List ℕ) → UsesInSome name line es → UsesIn a locals s locals name line) → UnknownIn line all locals es → UseAt a locals s
    some put u = record { scope = locals; name = u.use_in.name; uses = put u.use_in.name (record { value = u.value; is_listed = u.is_listed; uses = u.use_in.uses }); means = u.use_in.means }

    some_clauses : {outer inside : List Local} {cs : List Clause} → ((scope : List Local) (name : List ℕ) → UsesInClauses outer inside name line cs scope → UsesIn a locals s scope name line)
        → ClausesUse line all outer inside cs → UseAt a locals s
    some_clauses put u = record { scope = u.use_in.scope; name = u.use_in.name; uses = put u.use_in.scope u.use_in.name (record { clause = u.clause; is_listed = u.is_listed; uses = u.use_in.uses }); means = u.use_in.means }

    some_sections : {ss : List Section} → ((scope : List Local) (name : List ℕ) → UsesInSections locals name line ss scope → UsesIn a locals s scope name line) → SectionsUse line all locals ss
        → UseAt a locals s
    some_sections put u = record { scope = u.use_in.scope; name = u.use_in.name; uses = put u.use_in.scope u.use_in.name (record { section = u.section; is_listed = u.is_listed; uses = u.use_in.uses }); means = u.use_in.means }

    declare_use : (ls : List Local) → s.what ≡ stmts.Declare ls → InitialUse a.start locals ls → UseAt a locals s
    declare_use ls is u = record { scope = u.scope; name = u.name; uses = in_initial ls is u.uses; means = u.means }

    assign_use : (target : Expr) (o : Option BinOp) (e : Expr) → s.what ≡ stmts.Assign target o e → IsOneOf x (assign_rules all locals o target e) → UseAt a locals s
    assign_use target o e is w = either (one_of_two (all_of (unless (is_some stored) f)) (all_of (placed (or_anything stored) (findings all locals e))) w) where
      f : Findings
      f = findings all locals target

      stored : Option Wanted
      stored = target_wanted o f.kind f.object

      either : IsOneOf x (all_of (unless (is_some stored) f)) ⊎ IsOneOf x (all_of (placed (or_anything stored) (findings all locals e))) → UseAt a locals s
      either (inl u) = plain (λ name v. in_target target o e is v) (use_found line all locals target (unless_found line (is_some stored) f u))
      either (inr u) = plain (λ name v. in_stored target o e is v) (value_found line all locals (or_anything stored) e u)

    call_use : (name : List ℕ) (es : List Expr) → s.what ≡ stmts.Call name es → IsOneOf x (own_of (open_stmt.Call name es) s.line all a locals) → UseAt a locals s
    call_use name es is w = either (one_of_two callee (argument_rules params (map (findings all locals) es)) w) where
      callee : List Refused
      callee = call_rules (meaning all locals name) (function_named all name) s.line true (length (map (findings all locals) es))

      params : List Local
      params = parameters_of (meaning all locals name) (function_named all name)

      at_callee : (meaning all locals name ≡ named.Missing) × (s.line ≡ line) → UseAt a locals s
      at_callee c = record { scope = locals; name = name; uses = as_called es is c.1; means = c.0 }

      either : IsOneOf x callee ⊎ IsOneOf x (argument_rules params (map (findings all locals) es)) → UseAt a locals s
      either (inl u) = at_callee (callee_found line (meaning all locals name) (function_named all name) s.line true (length (map (findings all locals) es)) u)
      either (inr u) = some (λ other v. in_passed name es is v) (passed_found line all locals params es u)

    print_use : (format : List ℕ) (es : List Expr) → s.what ≡ stmts.Print format es → IsOneOf x (print_rules all locals s.line format es) → UseAt a locals s
    print_use format es is w = either (one_of_two (format_rules (conversions_of format) (length es) s.line) (numbers_rules all locals es) w) where
      either : IsOneOf x (format_rules (conversions_of format) (length es) s.line) ⊎ IsOneOf x (numbers_rules all locals es) → UseAt a locals s
      either (inl u) = no_name (format_kinds (conversions_of format) (length es) s.line) u
      either (inr u) = some (λ name v. in_printed format es is v) (numbers_found locals es u)

    return_use : (o : Option Expr) → s.what ≡ stmts.Return o → IsOneOf x (return_rules all locals a s.line o) → UseAt a locals s
    return_use o is w = past_wrong (one_of_two wrong (jump ++ value) w) where
      wrong : List Refused
      wrong = where_so (is_wrong_return a.result o) refused.WrongKind s.line

      jump : List Refused
      jump = where_so a.in_task refused.BadJump s.line

      value : List Refused
      value = returned_rules all locals a.result o

      put : (e : Expr) × (o ≡ Some e) × UnknownUse line all locals e → UseAt a locals s
      put u = plain (λ name v. in_returned u.0 (is ∙ ap (λ (i : Option Expr). stmts.Return i) u.1) v) u.2

      past_jump : IsOneOf x jump ⊎ IsOneOf x value → UseAt a locals s
      past_jump (inl u) = no_rule a.in_task refused.BadJump s.line refl u
      past_jump (inr u) = put (returned_found locals a.result o u)

      past_wrong : IsOneOf x wrong ⊎ IsOneOf x (jump ++ value) → UseAt a locals s
      past_wrong (inl u) = no_rule (is_wrong_return a.result o) refused.WrongKind s.line refl u
      past_wrong (inr u) = past_jump (one_of_two jump value u)

    for_use : (start : Option Stmt) (test : Option Expr) (last : Option Stmt) (body : Stmt) → s.what ≡ stmts.For start test last body → IsOneOf x (optional_rules all (locals_behind_part (length locals) start locals) test) → UseAt a locals s
    for_use start None last body is w = none_of w
    for_use start (Some e) last body is w = put (value_found line all (locals_behind_part (length locals) start locals) wanted.Number e w) where
      put : UnknownUse line all (locals_behind_part (length locals) start locals) e → UseAt a locals s
      put u = record { scope = locals_behind_part (length locals) start locals; name = u.name; uses = in_for_test start e last body is u.uses; means = u.means }

    wait_use : (o : Option (List Section)) → s.what ≡ stmts.TaskWait o → IsOneOf x (wait_rules all locals o) → UseAt a locals s
    wait_use None is w = none_of w
    wait_use (Some sections) is w = some_sections (λ scope name v. in_wait_sections sections is v) (sections_found line all locals false 0 sections w)

    first_use : (head : LoopHead) (t : Stmt) → s.what ≡ stmts.TaskLoop head t → (o : Option Expr) → head.variable.first ≡ o → IsOneOf x (optional_rules all locals o) → UseAt a locals s
    first_use head t is None e w = none_of w
    first_use head t is (Some l) e w = plain (λ name u. in_loop_first head t l is e u) (value_found line all locals wanted.Number l w)

    module _ (head : LoopHead) where
      abbrev clauses : List Refused
      clauses = loop_clauses_rules all locals (loop_locals head locals) 0 head.mark.clauses

      abbrev large : List Refused
      large = where_so (nat_le 251 (length locals)) refused.TooLarge head.variable.line

      abbrev from : List Refused
      from = optional_rules all locals head.variable.first

      abbrev tested : List Refused
      tested = name_rules head.variable.name head.tested head.stepped

      abbrev limit : List Refused
      limit = value_rules all locals wanted.Number head.end

      abbrev stepped : List Refused
      stepped = last_name_rules head.variable.name head.tested head.stepped

      module _ (t : Stmt) (is : s.what ≡ stmts.TaskLoop head t) where
        past_limit : IsOneOf x limit ⊎ IsOneOf x stepped → UseAt a locals s
        past_limit (inl u) = plain (λ name v. in_loop_end head t is v) (value_found line all locals wanted.Number head.end u)
        past_limit (inr u) = no_rule (bytes_eq head.tested.name head.variable.name && not (bytes_eq head.stepped.name head.variable.name)) refused.WrongKind head.stepped.line refl u

        past_tested : IsOneOf x tested ⊎ IsOneOf x (limit ++ stepped) → UseAt a locals s
        past_tested (inl u) = no_rule (not (bytes_eq head.tested.name head.variable.name)) refused.WrongKind head.tested.line refl u
        past_tested (inr u) = past_limit (one_of_two limit stepped u)

        past_from : IsOneOf x from ⊎ IsOneOf x (tested ++ (limit ++ stepped)) → UseAt a locals s
        past_from (inl u) = first_use head t is head.variable.first refl u
        past_from (inr u) = past_tested (one_of_two tested (limit ++ stepped) u)

        past_large : IsOneOf x large ⊎ IsOneOf x (from ++ (tested ++ (limit ++ stepped))) → UseAt a locals s
        past_large (inl u) = no_rule (nat_le 251 (length locals)) refused.TooLarge head.variable.line refl u
        past_large (inr u) = past_from (one_of_two from (tested ++ (limit ++ stepped)) u)

        past_clauses : IsOneOf x clauses ⊎ IsOneOf x (large ++ (from ++ (tested ++ (limit ++ stepped)))) → UseAt a locals s
        past_clauses (inl u) = some_clauses (λ scope name v. in_loop_clauses head t is v) (loop_clauses_found line all locals (loop_locals head locals) 0 head.mark.clauses u)
        past_clauses (inr u) = past_large (one_of_two large (from ++ (tested ++ (limit ++ stepped))) u)

        loop_use : IsOneOf x (head_rules all locals head) → UseAt a locals s
        loop_use w = past_clauses (one_of_two clauses (large ++ (from ++ (tested ++ (limit ++ stepped)))) w)

      from_told : {name : List ℕ} {e : Expr} → head.variable.first ≡ Some e → meaning all locals name ≡ named.Missing → Uses name line e → IsOneOf x (head_rules all locals head)
      from_told {name} {e} is m u = one_of_right clauses (one_of_right large (one_of_left (tested ++ (limit ++ stepped)) (in_first is))) where
        in_first : head.variable.first ≡ Some e → IsOneOf x (optional_rules all locals head.variable.first)
        in_first same = rw same (value_told line all locals wanted.Number e m u)

      limit_told : {name : List ℕ} → meaning all locals name ≡ named.Missing → Uses name line head.end → IsOneOf x (head_rules all locals head)
      limit_told m u = one_of_right clauses (one_of_right large (one_of_right from (one_of_right tested (one_of_left stepped (value_told line all locals wanted.Number head.end m u)))))

    pub use_by : StmtParts (λ t. Unit {0}) s.what → IsOneOf x (own_rules all a locals s) → UseAt a locals s
    use_by (is_block body is each) w = none_of (shown (open_stmt.Block body) (rw is (search (rules, stmt_folds))) w)
    use_by (is_empty is) w = none_of (shown open_stmt.Empty (rw is (search (rules, stmt_folds))) w)
    use_by (is_declare ls is) w = declare_use ls is (initial_found a.start ls locals (shown (open_stmt.Declare ls) (rw is (search (rules, stmt_folds))) w))
    use_by (is_assign target o e is) w = assign_use target o e is (shown (open_stmt.Assign target o e) (rw is (search (rules, stmt_folds))) w)
    use_by (is_call name es is) w = call_use name es is (shown (open_stmt.Call name es) (rw is (search (rules, stmt_folds))) w)
    use_by (is_print format es is) w = print_use format es is (shown (open_stmt.Print format es) (rw is (search (rules, stmt_folds))) w)
    use_by (is_if e t o is u v) w = plain (λ name y. in_if_test e t o is y) (value_found line all locals wanted.Number e (shown (open_stmt.If e t o) (rw is (search (rules, stmt_folds))) w))
    use_by (is_while e t is u) w = plain (λ name y. in_while_test e t is y) (value_found line all locals wanted.Number e (shown (open_stmt.While e t) (rw is (search (rules, stmt_folds))) w))
    use_by (is_for start test last t is u v q) w = for_use start test last t is (shown (open_stmt.For start test last t) (rw is (search (rules, stmt_folds))) w)
    use_by (is_return o is) w = return_use o is (shown (open_stmt.Return o) (rw is (search (rules, stmt_folds))) w)
    use_by (is_break is) w = no_rule (not (may_break a.nearest)) refused.BadJump s.line refl (shown open_stmt.Break (rw is (search (rules, stmt_folds))) w)
    use_by (is_continue is) w = no_rule (not (may_continue a.nearest)) refused.BadJump s.line refl (shown open_stmt.Continue (rw is (search (rules, stmt_folds))) w)
    use_by (is_task mark t is u) w = some_clauses (λ scope name y. in_task_clauses mark t is y) (clauses_found line all locals 0 mark.clauses (shown (open_stmt.Task mark t) (rw is (search (rules, stmt_folds))) w))
    use_by (is_task_loop head t is u) w = loop_use head t is (shown (open_stmt.TaskLoop head t) (rw is (search (rules, stmt_folds))) w)
    use_by (is_wait sections is) w = wait_use sections is (shown (open_stmt.TaskWait sections) (rw is (search (rules, stmt_folds))) w)
    use_by (is_release clauses is) w = some_clauses (λ scope name y. in_release_clauses clauses is y) (clauses_found line all locals 0 clauses (shown (open_stmt.Release clauses) (rw is (search (rules, stmt_folds))) w))

    kept : (k : StmtKind-F StmtKind Stmt) → out-StmtKind s.what ≡ k → IsOneOf x (own_of k s.line all a locals) → IsOneOf x (own_rules all a locals s)
    kept k e w = subst (λ (i : StmtKind-F StmtKind Stmt). IsOneOf x (own_of i s.line all a locals)) (sym e) w

    pub use_is_told : {scope : List Local} {name : List ℕ} → meaning all scope name ≡ named.Missing → UsesIn a locals s scope name line → IsOneOf x (own_rules all a locals s)
    use_is_told m (in_initial ls is u) = kept (open_stmt.Declare ls) (rw is (search (rules, stmt_folds))) (initial_told a.start ls locals m u)
    use_is_told m (in_target target o e is u) = kept (open_stmt.Assign target o e) (rw is (search (rules, stmt_folds))) (one_of_left _ (unless_told line (is_some (target_wanted o (findings all locals target).kind (findings all locals target).object)) (findings all locals target) (use_told line all locals m u)))
    use_is_told m (in_stored target o e is u) = kept (open_stmt.Assign target o e) (rw is (search (rules, stmt_folds))) (one_of_right (all_of (unless (is_some (target_wanted o (findings all locals target).kind (findings all locals target).object)) (findings all locals target))) (value_told line all locals (or_anything (target_wanted o (findings all locals target).kind (findings all locals target).object)) e m u))
    use_is_told {name = name} m (as_called es is same) = kept (open_stmt.Call name es) (rw is (search (rules, stmt_folds))) (one_of_left _ (callee_told line (function_named all name) true (length (map (findings all locals) es)) m same))
    use_is_told m (in_passed callee es is u) = kept (open_stmt.Call callee es) (rw is (search (rules, stmt_folds))) (one_of_right (call_rules (meaning all locals callee) (function_named all callee) s.line true (length (map (findings all locals) es))) (passed_told line all locals (parameters_of (meaning all locals callee) (function_named all callee)) es u.value u.is_listed (use_told line all locals m u.uses)))
    use_is_told m (in_printed format es is u) = kept (open_stmt.Print format es) (rw is (search (rules, stmt_folds))) (one_of_right (format_rules (conversions_of format) (length es) s.line) (numbers_told locals es u.value u.is_listed m u.uses))
    use_is_told m (in_if_test e t o is u) = kept (open_stmt.If e t o) (rw is (search (rules, stmt_folds))) (value_told line all locals wanted.Number e m u)
    use_is_told m (in_while_test e t is u) = kept (open_stmt.While e t) (rw is (search (rules, stmt_folds))) (value_told line all locals wanted.Number e m u)
    use_is_told m (in_for_test start e last t is u) = kept (open_stmt.For start (Some e) last t) (rw is (search (rules, stmt_folds))) (value_told line all (locals_behind_part (length locals) start locals) wanted.Number e m u)
    use_is_told m (in_returned e is u) = kept (open_stmt.Return (Some e)) (rw is (search (rules, stmt_folds))) (one_of_right (where_so (is_wrong_return a.result (Some e)) refused.WrongKind s.line) (one_of_right (where_so a.in_task refused.BadJump s.line) (value_told line all locals (wanted_by a.result) e m u)))
    use_is_told m (in_task_clauses mark t is u) = kept (open_stmt.Task mark t) (rw is (search (rules, stmt_folds))) (clauses_told line all locals 0 mark.clauses u.clause u.is_listed m u.uses)
    use_is_told m (in_loop_clauses head t is u) =
        kept (open_stmt.TaskLoop head t) (rw is (search (rules, stmt_folds))) (one_of_left _ (loop_clauses_told line all locals (loop_locals head locals) 0 head.mark.clauses u.clause u.is_listed m u.uses))
    use_is_told m (in_loop_first head t e is first u) = kept (open_stmt.TaskLoop head t) (rw is (search (rules, stmt_folds))) (from_told head first m u)
    use_is_told m (in_loop_end head t is u) = kept (open_stmt.TaskLoop head t) (rw is (search (rules, stmt_folds))) (limit_told head m u)
    use_is_told m (in_wait_sections sections is u) = kept (open_stmt.TaskWait (Some sections)) (rw is (search (rules, stmt_folds))) (sections_told line all locals false 0 sections u.section u.is_listed m u.uses)
    use_is_told m (in_release_clauses clauses is u) = kept (open_stmt.Release clauses) (rw is (search (rules, stmt_folds))) (clauses_told line all locals 0 clauses u.clause u.is_listed m u.uses)

-- functions and items
module _ (p : Program) (line : ℕ) where
  abbrev told : Refused
  told = broken refused.UnknownName line

  abbrev IsItem : Function → Type 0
  IsItem f = IsOneOf (items.Function f) p.items

  abbrev params : Function → List Local
  params f = scope_behind 0 f.params []

  mark_found : (f : Function) → IsItem f → (o : Option TaskMark) → f.mark ≡ o → IsOneOf told (mark_rules p.items (params f) o) → UsesUnknown p line
  mark_found f is None e w = none_of w
  mark_found f is (Some mark) e w = put (clauses_found line p.items (params f) 0 mark.clauses w) where
    put : ClausesUse line p.items (params f) (params f) mark.clauses → UsesUnknown p line
    put u = in_pragma f mark u.use_in.scope u.use_in.name is e (record { clause = u.clause; is_listed = u.is_listed; uses = u.use_in.uses }) (meaning_unknown p.items u.use_in.scope u.use_in.name u.use_in.means)

  body_found : (f : Function) → IsItem f → FoundAmong p.items told (body_around f.result) (params f) f.body → UsesUnknown p line
  body_found f is found = put (use_by line p.items found.around found.visible found.statement (stmt_view found.statement) found.own) where
    put : UseAt line p.items found.around found.visible found.statement → UsesUnknown p line
    put u = in_statement f found.around found.visible found.statement u.scope u.name (record { is_item = is; stands = found.stands }) u.uses (meaning_unknown p.items u.scope u.name u.means)

  params_found : (f : Function) → IsItem f → InitialUse line p.items 0 [] f.params → UsesUnknown p line
  params_found f is u = in_parameter f u.scope u.name is u.uses (meaning_unknown p.items u.scope u.name u.means)

  of_function : {i : ℕ} (f : Function) → IsItem f → FunctionPart p.items i f told → UsesUnknown p line
  of_function f is (in_mark w) = mark_found f is f.mark refl w
  of_function {i = i} f is (at_name w) = no_rule (is_again p.items i f.name) refused.DuplicateName f.line refl w
  of_function f is (at_kind w) = no_rule (is_wrong_function f) refused.WrongKind f.line refl w
  of_function f is (in_params w) = params_found f is (initial_found line p.items 0 f.params [] w)
  of_function f is (in_body w) = body_found f is (found_among p.items told f.body (body_around f.result) (params f) w)

  of_items : {i before : ℕ} {rest : List Item} → ((item : Item) → IsOneOf item rest → IsOneOf item p.items) → ItemPart p.items told i before rest → UsesUnknown p line
  of_items {i = i} {before = before} up (at_global g w) =
      no_name (only_two (only_where other_than_name (is_again p.items i g.name) refused.DuplicateName g.line refl) (only_where other_than_name (passes_cells before g.cells) refused.TooLarge g.line refl)) w
  of_items up (at_function f w) = of_function f (up (items.Function f) (first_of_them refl)) w
  of_items up (behind_global g w) = of_items (λ item is. up item (later_of_them is)) w
  of_items up (behind_function f w) = of_items (λ item is. up item (later_of_them is)) w

  pub only_told : IsOneOf told (program_rules p) → UsesUnknown p line
  only_told w = elim (one_of_two (items_rules p.items 0 0 p.items) (where_so (not (has_main p.items)) refused.NoMain 1) w) [
    | inl u ↦ of_items (λ item is. is) (item_part p.items told 0 0 p.items u)
    | inr u ↦ no_rule (not (has_main p.items)) refused.NoMain 1 refl u
  ]

  mark_told : (f : Function) (mark : TaskMark) (scope : List Local) (name : List ℕ) (o : Option TaskMark) → o ≡ Some mark → UsesInClauses (params f) (params f) name line mark.clauses scope
      → meaning p.items scope name ≡ named.Missing
      → IsOneOf told (mark_rules p.items (params f) o)
  mark_told f mark scope name o e u m = rw e (clauses_told line p.items (params f) 0 mark.clauses u.clause u.is_listed m u.uses)

  anywhere : (f : Function) → IsItem f → ((i : ℕ) → FunctionPart p.items i f told) → IsOneOf told (program_rules p)
  anywhere f is part = one_of_left _ (item_told p.items told (function_told p.items told f part 0 0 p.items is))

  pub is_told : UsesUnknown p line → IsOneOf told (program_rules p)
  is_told (in_pragma f mark scope name is e u unknown) = anywhere f is (λ i. in_mark (mark_told f mark scope name f.mark e u (unknown_meaning p.items scope name unknown)))
  is_told (in_parameter f scope name is u unknown) = anywhere f is (λ i. in_params (initial_told line p.items 0 f.params [] (unknown_meaning p.items scope name unknown) u))
  is_told (in_statement f around visible s scope name stands u unknown) =
      anywhere f stands.is_item (λ i. in_body (told_among p.items told stands.stands (use_is_told line p.items around visible s (unknown_meaning p.items scope name unknown) u)))
