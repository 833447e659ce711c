-- DuplicateName is told exactly where a name is declared again.
use Rattle.std.proofs.Common.{◌≡◌, ℕ, ◌+◌, Bool, true, false, not, List, [], ◌∷◌, ◌++◌, drop, length, refl, sym, ap, ◌∙◌, subst, ◌⊎◌, inl, inr, rules, append_assoc, arith}
use Rattle.std.specs.Prelude.{nat_le}
use Rattle.std.proofs.lemmas.List.{length-append}
use Rattle.oss_syntax.specs.declared.refusal.Refused.{Refused}
use Rattle.oss_syntax.specs.declared.refusal.RefusedKind.{RefusedKind}
use Rattle.oss_syntax.specs.declared.refusal.RefusedKind.TheVariants as refused
use Rattle.oss_syntax.specs.declared.tree.program.Function.{Function}
use Rattle.oss_syntax.specs.declared.tree.program.GlobalDef.{GlobalDef}
use Rattle.oss_syntax.specs.declared.tree.program.Item.{Item}
use Rattle.oss_syntax.specs.declared.tree.program.Item.TheVariants as items
use Rattle.oss_syntax.specs.declared.tree.program.Local.{Local}
use Rattle.oss_syntax.specs.declared.tree.program.Program.{Program}
use Rattle.oss_syntax.specs.declared.tree.stmt.Stmt.{Stmt}
use Rattle.oss_syntax.specs.declared.tree.stmt.StmtKind.{StmtKind, out-StmtKind}
use Rattle.oss_syntax.specs.declared.tree.stmt.StmtKind.TheOpen.{StmtKind-F}
use Rattle.oss_syntax.specs.declared.tree.stmt.StmtKind.TheOpen as open_stmt
use Rattle.oss_syntax.specs.declared.tree.stmt.StmtKind.TheVariants as stmts
use Rattle.oss_syntax.specs.declared.tree.stmt.StmtKind.TheFolds.{the_lemmas as stmt_folds}
use Rattle.oss_grammar.specs.declared.kinds.Around.{Around}
use Rattle.oss_grammar.specs.declared.kinds.Wanted.TheVariants as wanted
use Rattle.oss_grammar.specs.Broken.{broken, where_so}
use Rattle.oss_grammar.specs.Layout.{cells_of}
use Rattle.oss_grammar.specs.Places.{IsOneOf}
use Rattle.oss_grammar.proofs.ScopedPlaces.{locals_behind_part, scope_behind}
use Rattle.oss_grammar.specs.Places.IsOneOf.{first_of_them}
use Rattle.oss_grammar.specs.ProgramRules.{body_around, has_main, is_wrong_function, items_rules, passes_cells, program_rules}
use Rattle.oss_grammar.specs.Redeclarations.{item_line}
use Rattle.oss_grammar.proofs.ScopedUses.{DeclaresAgain, LocalAgain}
use Rattle.oss_grammar.proofs.ScopedUses.DeclaresAgain.{item_again, parameter_again, local_again}
use Rattle.oss_grammar.specs.Scopes.{is_again, is_local_again, item_name}
use Rattle.oss_grammar.specs.StaticRules.{declare_all, first_rules, is_wrong_return, local_rules, may_break, may_continue, with_local}
use Rattle.oss_grammar.proofs.ClauseKinds.{only_clauses, only_head, only_mark, only_wait}
use Rattle.oss_grammar.proofs.ItemLemmas.{FunctionPart, ItemPart, function_told, item_part, item_told}
use Rattle.oss_grammar.proofs.ItemLemmas.FunctionPart.{in_mark, at_name, at_kind, in_params, in_body}
use Rattle.oss_grammar.proofs.ItemLemmas.ItemPart.{at_global, at_function, behind_global, behind_function}
use Rattle.oss_grammar.proofs.KindLemmas.{Only, only_two, only_where, only_assign, only_call_statement, only_optional, only_print, only_value, only_returned, where_told, where_tells, same_line}
use Rattle.oss_grammar.proofs.NameLemmas.{again_named, item_is_again, local_named, names_local}
use Rattle.oss_grammar.proofs.PlaceLemmas.{none_of, one_of_left, one_of_right, one_of_two, own_of, own_rules, stmt_view, FoundAmong, found_among, told_among}
use Rattle.oss_grammar.proofs.TreeInduction.{StmtParts}
use Rattle.oss_grammar.proofs.TreeInduction.StmtParts.{is_block, is_empty, is_declare, is_assign, is_call, is_print, is_if, is_while, is_for, is_return, is_break, is_continue, is_task, is_task_loop, is_wait, is_release}

abbrev other_than_again : RefusedKind → Bool
other_than_again refused.DuplicateName = false
other_than_again _ = true

nothing_again : {C : Type 0} {xs : List Refused} {line : ℕ} → Only other_than_again xs → IsOneOf (broken refused.DuplicateName line) xs → C
nothing_again {line = line} a w = let e : false ≡ true = a.each (broken refused.DuplicateName line) w in absurd (cc)

-- the rules of declarators
module _ (all : List Item) (start line : ℕ) where
  abbrev Told : List Refused → Type 0
  Told xs = IsOneOf (broken refused.DuplicateName line) xs

  later : (l : Local) (rest locals : List Local) → LocalAgain start (with_local (is_local_again start locals l.name) l locals) rest line → LocalAgain start locals (l ∷ rest) line
  later l rest locals d = record { before = l ∷ d.before; again = d.again; behind = d.behind; split = ap (λ (ls : List Local). l ∷ ls) d.split; earlier = d.earlier; on_line = d.on_line }

  here : (l : Local) (rest locals : List Local) → Told (local_rules all start l locals) → LocalAgain start locals (l ∷ rest) line
  here l rest locals w = elim (one_of_two (where_so (is_local_again start locals l.name) refused.DuplicateName l.line) (where_so (nat_le 255 (length locals)) refused.TooLarge l.line ++ first_rules all locals l) w) [
    | inl u ↦ put (where_told (is_local_again start locals l.name) refused.DuplicateName l.line u)
    | inr u ↦ nothing_again (only_two (only_where other_than_again (nat_le 255 (length locals)) refused.TooLarge l.line refl) (only_returned other_than_again refl refl refl all locals l.kind l.first)) u
  ] where
    put : (is_local_again start locals l.name ≡ true) × (broken refused.DuplicateName l.line ≡ broken refused.DuplicateName line) → LocalAgain start locals (l ∷ rest) line
    put e = record { before = []; again = l; behind = rest; split = refl; earlier = names_local (drop start locals) l.name e.0; on_line = same_line e.1 }

  pub again_declared : (ls locals : List Local) → Told (declare_all all start ls locals).broken → LocalAgain start locals ls line
  again_declared [] locals w = none_of w
  again_declared (l ∷ rest) locals w = elim (one_of_two (local_rules all start l locals) (declare_all all start rest (with_local (is_local_again start locals l.name) l locals)).broken w) [
    | inl u ↦ here l rest locals u
    | inr u ↦ later l rest locals (again_declared rest (with_local (is_local_again start locals l.name) l locals) u)
  ]

  told_at : (before : List Local) (again : Local) (behind locals : List Local) → is_local_again start (scope_behind start before locals) again.name ≡ true → again.line ≡ line
      → Told (declare_all all start (before ++ (again ∷ behind)) locals).broken
  told_at [] again behind locals is same = one_of_left _ (one_of_left _ (where_tells refused.DuplicateName is same))
  told_at (l ∷ before) again behind locals is same = one_of_right (local_rules all start l locals) (told_at before again behind (with_local (is_local_again start locals l.name) l locals) is same)

  pub declared_again : (ls locals : List Local) → LocalAgain start locals ls line → Told (declare_all all start ls locals).broken
  declared_again ls locals d = subst (λ (i : List Local). Told (declare_all all start i locals).broken) (sym d.split) (told_at d.before d.again d.behind locals (local_named d.earlier) d.on_line)

record AgainIn (a : Around) (visible : List Local) (s : Stmt) (line : ℕ) : Type 0 where
  declared : List Local
  declares : s.what ≡ stmts.Declare declared
  again : LocalAgain a.start visible declared line

module _ (all : List Item) (a : Around) (locals : List Local) (s : Stmt) (line : ℕ) where
  shown : (k : StmtKind-F StmtKind Stmt) → out-StmtKind s.what ≡ k → IsOneOf (broken refused.DuplicateName line) (own_rules all a locals s) → IsOneOf (broken refused.DuplicateName line) (own_of k s.line all a locals)
  shown k e w = subst (λ (i : StmtKind-F StmtKind Stmt). IsOneOf (broken refused.DuplicateName line) (own_of i s.line all a locals)) e w

  again_by : StmtParts (λ t. Unit {0}) s.what → IsOneOf (broken refused.DuplicateName line) (own_rules all a locals s) → AgainIn a locals s line
  again_by (is_block body is each) w = none_of (shown (open_stmt.Block body) (rw is (search (rules, stmt_folds))) w)
  again_by (is_empty is) w = none_of (shown open_stmt.Empty (rw is (search (rules, stmt_folds))) w)
  again_by (is_declare ls is) w = record { declared = ls; declares = is; again = again_declared all a.start line ls locals (shown (open_stmt.Declare ls) (rw is (search (rules, stmt_folds))) w) }
  again_by (is_assign target o e is) w = nothing_again (only_assign other_than_again refl refl refl all locals o target e) (shown (open_stmt.Assign target o e) (rw is (search (rules, stmt_folds))) w)
  again_by (is_call name es is) w = nothing_again (only_call_statement other_than_again refl refl refl all locals name s.line es) (shown (open_stmt.Call name es) (rw is (search (rules, stmt_folds))) w)
  again_by (is_print format es is) w = nothing_again (only_print other_than_again refl refl refl all locals s.line format es) (shown (open_stmt.Print format es) (rw is (search (rules, stmt_folds))) w)
  again_by (is_if e t o is u v) w = nothing_again (only_value other_than_again refl refl refl all locals wanted.Number e) (shown (open_stmt.If e t o) (rw is (search (rules, stmt_folds))) w)
  again_by (is_while e t is u) w = nothing_again (only_value other_than_again refl refl refl all locals wanted.Number e) (shown (open_stmt.While e t) (rw is (search (rules, stmt_folds))) w)
  again_by (is_for start test last t is u v q) w = nothing_again (only_optional other_than_again refl refl refl all (locals_behind_part (length locals) start locals) test) (shown (open_stmt.For start test last t) (rw is (search (rules, stmt_folds))) w)
  again_by (is_return e is) w = nothing_again (only_two (only_where other_than_again (is_wrong_return a.result e) refused.WrongKind s.line refl) (only_two (only_where other_than_again a.in_task refused.BadJump s.line refl) (only_returned other_than_again refl refl refl all locals a.result e))) (shown (open_stmt.Return e) (rw is (search (rules, stmt_folds))) w)
  again_by (is_break is) w = nothing_again (only_where other_than_again (not (may_break a.nearest)) refused.BadJump s.line refl) (shown open_stmt.Break (rw is (search (rules, stmt_folds))) w)
  again_by (is_continue is) w = nothing_again (only_where other_than_again (not (may_continue a.nearest)) refused.BadJump s.line refl) (shown open_stmt.Continue (rw is (search (rules, stmt_folds))) w)
  again_by (is_task mark t is u) w = nothing_again (only_clauses other_than_again refl refl refl refl all locals 0 mark.clauses) (shown (open_stmt.Task mark t) (rw is (search (rules, stmt_folds))) w)
  again_by (is_task_loop head t is u) w = nothing_again (only_head other_than_again refl refl refl refl all locals head) (shown (open_stmt.TaskLoop head t) (rw is (search (rules, stmt_folds))) w)
  again_by (is_wait sections is) w = nothing_again (only_wait other_than_again refl refl refl refl all locals sections) (shown (open_stmt.TaskWait sections) (rw is (search (rules, stmt_folds))) w)
  again_by (is_release clauses is) w = nothing_again (only_clauses other_than_again refl refl refl refl all locals 0 clauses) (shown (open_stmt.Release clauses) (rw is (search (rules, stmt_folds))) w)

  again_told : (declared : List Local) → s.what ≡ stmts.Declare declared → LocalAgain a.start locals declared line → IsOneOf (broken refused.DuplicateName line) (own_rules all a locals s)
  again_told declared is d =
      let shape : out-StmtKind s.what ≡ open_stmt.Declare declared = rw is (search (rules, stmt_folds)) in
      subst (λ (i : StmtKind-F StmtKind Stmt). IsOneOf (broken refused.DuplicateName line) (own_of i s.line all a locals)) (sym shape) (declared_again all a.start line declared locals d)

-- the rules of items
module _ (p : Program) (line : ℕ) where
  abbrev x : Refused
  x = broken refused.DuplicateName line

  abbrev IsItem : Function → Type 0
  IsItem f = IsOneOf (items.Function f) p.items

  in_a_body : (f : Function) → IsItem f → FoundAmong p.items x (body_around f.result) (scope_behind 0 f.params []) f.body → DeclaresAgain p line
  in_a_body f is found = put (again_by p.items found.around found.visible found.statement line (stmt_view found.statement) found.own) where
    put : AgainIn found.around found.visible found.statement line → DeclaresAgain p line
    put at = local_again f found.around found.visible found.statement at.declared (record { is_item = is; stands = found.stands }) at.declares at.again

  item_found : (front : List Item) (item : Item) (rest : List Item) (i : ℕ) → p.items ≡ front ++ (item ∷ rest) → i ≡ length front
      → IsOneOf x (where_so (is_again p.items i (item_name item)) refused.DuplicateName (item_line item)) → DeclaresAgain p line
  item_found front item rest i split at w = put (where_told (is_again p.items i (item_name item)) refused.DuplicateName (item_line item) w) where
    put : (is_again p.items i (item_name item) ≡ true) × (broken refused.DuplicateName (item_line item) ≡ x) → DeclaresAgain p line
    put e = item_again (record {
      before = front;
      item = item;
      behind = rest;
      split = split;
      earlier = again_named (item_name item) front item rest refl (ap (λ (all : List Item). is_again all (length front) (item_name item)) (sym split) ∙ (ap (λ (k : ℕ). is_again p.items k (item_name item)) (sym at) ∙ e.0));
      on_line = same_line e.1;
    })

  of_function : (front : List Item) (f : Function) (rest : List Item) (i : ℕ) → p.items ≡ front ++ (items.Function f ∷ rest) → i ≡ length front → IsItem f → FunctionPart p.items i f x → DeclaresAgain p line
  of_function front f rest i split at is (in_mark w) = nothing_again (only_mark other_than_again refl refl refl refl p.items (scope_behind 0 f.params []) f.mark) w
  of_function front f rest i split at is (at_name w) = item_found front (items.Function f) rest i split at w
  of_function front f rest i split at is (at_kind w) = nothing_again (only_where other_than_again (is_wrong_function f) refused.WrongKind f.line refl) w
  of_function front f rest i split at is (in_params w) = parameter_again f is (again_declared p.items 0 line f.params [] w)
  of_function front f rest i split at is (in_body w) = in_a_body f is (found_among p.items x f.body (body_around f.result) (scope_behind 0 f.params []) w)

  of_global : (front : List Item) (g : GlobalDef) (rest : List Item) (i before : ℕ) → p.items ≡ front ++ (items.Global g ∷ rest) → i ≡ length front
      → IsOneOf x (where_so (is_again p.items i g.name) refused.DuplicateName g.line) ⊎ IsOneOf x (where_so (passes_cells before g.cells) refused.TooLarge g.line) → DeclaresAgain p line
  of_global front g rest i before split at (inl w) = item_found front (items.Global g) rest i split at w
  of_global front g rest i before split at (inr w) = nothing_again (only_where other_than_again (passes_cells before g.cells) refused.TooLarge g.line refl) w

  step_split : (front : List Item) (item : Item) (rest : List Item) → p.items ≡ front ++ (item ∷ rest) → p.items ≡ (front ++ (item ∷ [])) ++ rest
  step_split front item rest split = rw append_assoc split

  step_at : (front : List Item) (item : Item) (i : ℕ) → i ≡ length front → i + 1 ≡ length (front ++ (item ∷ []))
  step_at front item i at = omega (arith, at, length-append front (item ∷ []))

  listed : (front : List Item) (item : Item) (rest : List Item) → p.items ≡ front ++ (item ∷ rest) → IsOneOf item p.items
  listed front item rest split = subst (λ (all : List Item). IsOneOf item all) (sym split) (one_of_right front (first_of_them refl))

  of_items : {i before : ℕ} {rest : List Item} (front : List Item) → p.items ≡ front ++ rest → i ≡ length front → ItemPart p.items x i before rest → DeclaresAgain p line
  of_items {i = i} {before = before} front split at (at_global {rest = rest} g w) =
      of_global front g rest i before split at (one_of_two (where_so (is_again p.items i g.name) refused.DuplicateName g.line) (where_so (passes_cells before g.cells) refused.TooLarge g.line) w)
  of_items {i = i} front split at (at_function {rest = rest} f w) = of_function front f rest i split at (listed front (items.Function f) rest split) w
  of_items {i = i} front split at (behind_global {rest = rest} g w) = of_items (front ++ (items.Global g ∷ [])) (step_split front (items.Global g) rest split) (step_at front (items.Global g) i at) w
  of_items {i = i} front split at (behind_function {rest = rest} f w) = of_items (front ++ (items.Function f ∷ [])) (step_split front (items.Function f) rest split) (step_at front (items.Function f) i at) w

  pub only_told : IsOneOf x (program_rules p) → DeclaresAgain p line
  only_told w = elim (one_of_two (items_rules p.items 0 0 p.items) (where_so (not (has_main p.items)) refused.NoMain 1) w) [
    | inl u ↦ of_items [] refl refl (item_part p.items x 0 0 p.items u)
    | inr u ↦ nothing_again (only_where other_than_again (not (has_main p.items)) refused.NoMain 1 refl) u
  ]

  at_item : (item : Item) (rest : List Item) (i before : ℕ) → is_again p.items i (item_name item) ≡ true → item_line item ≡ line → ItemPart p.items x i before (item ∷ rest)
  at_item (items.Global g) rest i before is same = at_global g (one_of_left _ (where_tells refused.DuplicateName is same))
  at_item (items.Function f) rest i before is same = at_function f (at_name (where_tells refused.DuplicateName is same))

  past : (item : Item) (rest : List Item) (i before : ℕ) → ((cells : ℕ) → ItemPart p.items x (i + 1) cells rest) → ItemPart p.items x i before (item ∷ rest)
  past (items.Global g) rest i before w = behind_global g (w (before + cells_of g.cells))
  past (items.Function f) rest i before w = behind_function f (w before)

  to_item : (front : List Item) (item : Item) (rest : List Item) (i before : ℕ) → is_again p.items (i + length front) (item_name item) ≡ true → item_line item ≡ line → ItemPart p.items x i before (front ++ (item ∷ rest))
  to_item [] item rest i before is same = at_item item rest i before (let e : i + length {A = Item} [] ≡ i = omega arith in subst (λ (k : ℕ). is_again p.items k (item_name item) ≡ true) e is) same
  to_item (first ∷ front) item rest i before is same =
      past first (front ++ (item ∷ rest)) i before (λ cells. to_item front item rest (i + 1) cells (
      let e : i + length (first ∷ front) ≡ (i + 1) + length front = omega arith in subst (λ (k : ℕ). is_again p.items k (item_name item) ≡ true) e is) same)

  pub is_told : DeclaresAgain p line → IsOneOf x (program_rules p)
  is_told (item_again d) = one_of_left _ (item_told p.items x (subst (λ (all : List Item). ItemPart p.items x 0 0 all) (sym d.split) (to_item d.before d.item d.behind 0 0 again d.on_line))) where
    again : is_again p.items (0 + length d.before) (item_name d.item) ≡ true
    again =
        let zero_more : 0 + length d.before ≡ length d.before = omega arith in
        subst (λ (k : ℕ). is_again p.items k (item_name d.item) ≡ true) (sym zero_more)
        (ap (λ (all : List Item). is_again all (length d.before) (item_name d.item)) d.split ∙ item_is_again (item_name d.item) d.before d.item d.behind refl d.earlier)
  is_told (parameter_again f is d) = one_of_left _ (item_told p.items x (function_told p.items x f (λ i. in_params (declared_again p.items 0 line f.params [] d)) 0 0 p.items is))
  is_told (local_again f around visible s declared stands declares d) =
      one_of_left _ (item_told p.items x (function_told p.items x f (λ i. in_body (told_among p.items x stands.stands (again_told p.items around visible s line declared declares d))) 0 0 p.items stands.is_item))
