-- BadJump is told exactly where a jump stands that leaves what it may not.
use Rattle.std.proofs.Common.{◌≡◌, ℕ, Bool, true, false, not, List, [], ◌∷◌, ◌++◌, length, refl, sym, subst, ◌⊎◌, inl, inr, rules}
use Rattle.oss_syntax.specs.declared.refusal.Refused.{Refused}
use Rattle.oss_syntax.specs.declared.refusal.RefusedKind.{RefusedKind}
use Rattle.oss_syntax.specs.declared.refusal.RefusedKind.TheVariants as refused
use Rattle.oss_syntax.specs.declared.tree.program.Function.{Function}
use Rattle.oss_syntax.specs.declared.tree.program.Item.{Item}
use Rattle.oss_syntax.specs.declared.tree.program.Item.TheVariants as items
use Rattle.oss_syntax.specs.declared.tree.program.Local.{Local}
use Rattle.oss_syntax.specs.declared.tree.program.Program.{Program}
use Rattle.oss_syntax.specs.declared.tree.stmt.Stmt.{Stmt}
use Rattle.oss_syntax.specs.declared.tree.stmt.StmtKind.{StmtKind, out-StmtKind}
use Rattle.oss_syntax.specs.declared.tree.stmt.StmtKind.TheOpen.{StmtKind-F}
use Rattle.oss_syntax.specs.declared.tree.stmt.StmtKind.TheOpen as open_stmt
use Rattle.oss_syntax.specs.declared.tree.stmt.StmtKind.TheFolds.{the_lemmas as stmt_folds}
use Rattle.oss_grammar.specs.declared.kinds.Around.{Around}
use Rattle.oss_grammar.specs.declared.kinds.Wanted.TheVariants as wanted
use Rattle.oss_grammar.specs.Broken.{broken, where_so}
use Rattle.oss_grammar.specs.Jumps.{HasBadJump, BadJumpsAreTold}
use Rattle.oss_grammar.specs.Jumps.HasBadJump.{leaves_function, leaves_a_task}
use Rattle.oss_grammar.proofs.JumpPlaces.{JumpsOut, Out, OutAmong, JumpsAmong, among, breaks_leave, out_among, leaves_jumps, task_leaves_jumps}
use Rattle.oss_grammar.proofs.JumpPlaces.JumpsOut.{break_out, continue_out, return_out}
use Rattle.oss_grammar.proofs.JumpPlaces.Out.{leaving, breaking, returning, task_leaving}
use Rattle.oss_grammar.specs.Places.{IsOneOf}
use Rattle.oss_grammar.proofs.ScopedPlaces.{locals_behind_part, scope_behind}
use Rattle.oss_grammar.specs.ProgramRules.{body_around, has_main, is_wrong_function, items_rules, passes_cells, program_rules}
use Rattle.oss_grammar.specs.Scopes.{is_again}
use Rattle.oss_grammar.specs.Places.IsOneOf.{first_of_them, later_of_them}
use Rattle.oss_grammar.specs.StaticRules.{may_break, may_continue, returned_rules, rules_of_all, is_wrong_return}
use Rattle.oss_grammar.proofs.ClauseKinds.{only_clauses, only_head, only_wait, only_declared, only_mark}
use Rattle.oss_grammar.proofs.ItemLemmas.{FunctionPart, ItemPart, function_told, item_part, item_told}
use Rattle.oss_grammar.proofs.ItemLemmas.FunctionPart.{in_mark, at_name, at_kind, in_params, in_body}
use Rattle.oss_grammar.proofs.ItemLemmas.ItemPart.{at_global, at_function, behind_global, behind_function}
use Rattle.oss_grammar.proofs.KindLemmas.{Only, same_line, where_told, where_tells, only_two, only_where, only_assign, only_call_statement, only_optional, only_print, only_value, only_returned}
use Rattle.oss_grammar.proofs.PlaceLemmas.{none_of, one_of_left, one_of_right, one_of_two, own_of, own_rules, stmt_view, FoundAmong, found_among, told_among}
use Rattle.oss_grammar.proofs.TreeInduction.{StmtParts}
use Rattle.oss_grammar.proofs.TreeInduction.StmtParts.{is_block, is_empty, is_declare, is_assign, is_call, is_print, is_if, is_while, is_for, is_return, is_break, is_continue, is_task, is_task_loop, is_wait, is_release}

abbrev other_than_jump : RefusedKind → Bool
other_than_jump refused.BadJump = false
other_than_jump _ = true

no_jump : {C : Type 0} {xs : List Refused} {line : ℕ} → Only other_than_jump xs → IsOneOf (broken refused.BadJump line) xs → C
no_jump {line = line} a w = let e : false ≡ true = a.each (broken refused.BadJump line) w in absurd (cc)

is_false : (b : Bool) → not b ≡ true → b ≡ false
is_false true e = absurd (cc)
is_false false e = refl

is_true : (b : Bool) → b ≡ false → not b ≡ true
is_true true e = absurd (cc)
is_true false e = refl

record OutAt (a : Around) (s : Stmt) (line : ℕ) : Type 0 where
  out : JumpsOut a s
  on_line : s.line ≡ line

module _ (all : List Item) (a : Around) (locals : List Local) (s : Stmt) (line : ℕ) where
  shown : (k : StmtKind-F StmtKind Stmt) → out-StmtKind s.what ≡ k → IsOneOf (broken refused.BadJump line) (own_rules all a locals s) → IsOneOf (broken refused.BadJump line) (own_of k s.line all a locals)
  shown k e w = subst (λ (i : StmtKind-F StmtKind Stmt). IsOneOf (broken refused.BadJump line) (own_of i s.line all a locals)) e w

  jump_by : StmtParts (λ t. Unit {0}) s.what → IsOneOf (broken refused.BadJump line) (own_rules all a locals s) → OutAt a s line
  jump_by (is_block body is each) w = none_of (shown (open_stmt.Block body) (rw is (search (rules, stmt_folds))) w)
  jump_by (is_empty is) w = none_of (shown open_stmt.Empty (rw is (search (rules, stmt_folds))) w)
  jump_by (is_declare ls is) w = no_jump (only_declared other_than_jump refl refl refl refl all refl a.start ls locals) (shown (open_stmt.Declare ls) (rw is (search (rules, stmt_folds))) w)
  jump_by (is_assign target o e is) w = no_jump (only_assign other_than_jump refl refl refl all locals o target e) (shown (open_stmt.Assign target o e) (rw is (search (rules, stmt_folds))) w)
  jump_by (is_call name es is) w = no_jump (only_call_statement other_than_jump refl refl refl all locals name s.line es) (shown (open_stmt.Call name es) (rw is (search (rules, stmt_folds))) w)
  jump_by (is_print format es is) w = no_jump (only_print other_than_jump refl refl refl all locals s.line format es) (shown (open_stmt.Print format es) (rw is (search (rules, stmt_folds))) w)
  jump_by (is_if e t o is u v) w = no_jump (only_value other_than_jump refl refl refl all locals wanted.Number e) (shown (open_stmt.If e t o) (rw is (search (rules, stmt_folds))) w)
  jump_by (is_while e t is u) w = no_jump (only_value other_than_jump refl refl refl all locals wanted.Number e) (shown (open_stmt.While e t) (rw is (search (rules, stmt_folds))) w)
  jump_by (is_for start test last t is u v q) w = no_jump (only_optional other_than_jump refl refl refl all (locals_behind_part (length locals) start locals) test) (shown (open_stmt.For start test last t) (rw is (search (rules, stmt_folds))) w)
  jump_by (is_return e is) w = wrong (one_of_two (where_so (is_wrong_return a.result e) refused.WrongKind s.line) (where_so a.in_task refused.BadJump s.line ++ returned_rules all locals a.result e) (shown (open_stmt.Return e) (rw is (search (rules, stmt_folds))) w)) where
    in_task : IsOneOf (broken refused.BadJump line) (where_so a.in_task refused.BadJump s.line) ⊎ IsOneOf (broken refused.BadJump line) (returned_rules all locals a.result e) → OutAt a s line
    in_task (inl u) = record { out = return_out e is (where_told a.in_task refused.BadJump s.line u).0; on_line = same_line (where_told a.in_task refused.BadJump s.line u).1 }
    in_task (inr u) = no_jump (only_returned other_than_jump refl refl refl all locals a.result e) u

    wrong : IsOneOf (broken refused.BadJump line) (where_so (is_wrong_return a.result e) refused.WrongKind s.line)
        ⊎ IsOneOf (broken refused.BadJump line) (where_so a.in_task refused.BadJump s.line ++ returned_rules all locals a.result e) → OutAt a s line
    wrong (inl u) = no_jump (only_where other_than_jump (is_wrong_return a.result e) refused.WrongKind s.line refl) u
    wrong (inr u) = in_task (one_of_two (where_so a.in_task refused.BadJump s.line) (returned_rules all locals a.result e) u)
  jump_by (is_break is) w = put (where_told (not (may_break a.nearest)) refused.BadJump s.line (shown open_stmt.Break (rw is (search (rules, stmt_folds))) w)) where
    put : (not (may_break a.nearest) ≡ true) × (broken refused.BadJump s.line ≡ broken refused.BadJump line) → OutAt a s line
    put e = record { out = break_out is (is_false (may_break a.nearest) e.0); on_line = same_line e.1 }
  jump_by (is_continue is) w = put (where_told (not (may_continue a.nearest)) refused.BadJump s.line (shown open_stmt.Continue (rw is (search (rules, stmt_folds))) w)) where
    put : (not (may_continue a.nearest) ≡ true) × (broken refused.BadJump s.line ≡ broken refused.BadJump line) → OutAt a s line
    put e = record { out = continue_out is (is_false (may_continue a.nearest) e.0); on_line = same_line e.1 }
  jump_by (is_task mark t is u) w = no_jump (only_clauses other_than_jump refl refl refl refl all locals 0 mark.clauses) (shown (open_stmt.Task mark t) (rw is (search (rules, stmt_folds))) w)
  jump_by (is_task_loop head t is u) w = no_jump (only_head other_than_jump refl refl refl refl all locals head) (shown (open_stmt.TaskLoop head t) (rw is (search (rules, stmt_folds))) w)
  jump_by (is_wait sections is) w = no_jump (only_wait other_than_jump refl refl refl refl all locals sections) (shown (open_stmt.TaskWait sections) (rw is (search (rules, stmt_folds))) w)
  jump_by (is_release clauses is) w = no_jump (only_clauses other_than_jump refl refl refl refl all locals 0 clauses) (shown (open_stmt.Release clauses) (rw is (search (rules, stmt_folds))) w)

  kept : (k : StmtKind-F StmtKind Stmt) → out-StmtKind s.what ≡ k → IsOneOf (broken refused.BadJump line) (own_of k s.line all a locals) → IsOneOf (broken refused.BadJump line) (own_rules all a locals s)
  kept k e w = subst (λ (i : StmtKind-F StmtKind Stmt). IsOneOf (broken refused.BadJump line) (own_of i s.line all a locals)) (sym e) w

  jump_told : JumpsOut a s → s.line ≡ line → IsOneOf (broken refused.BadJump line) (own_rules all a locals s)
  jump_told (break_out is out) same = kept open_stmt.Break (rw is (search (rules, stmt_folds))) (where_tells refused.BadJump (is_true (may_break a.nearest) out) same)
  jump_told (continue_out is out) same = kept open_stmt.Continue (rw is (search (rules, stmt_folds))) (where_tells refused.BadJump (is_true (may_continue a.nearest) out) same)
  jump_told (return_out e is out) same = kept (open_stmt.Return e) (rw is (search (rules, stmt_folds)))
      (one_of_right (where_so (is_wrong_return a.result e) refused.WrongKind s.line) (one_of_left (returned_rules all locals a.result e) (where_tells refused.BadJump out same)))

-- the rules of functions and items
module _ (all : List Item) (line : ℕ) where
  abbrev x : Refused
  x = broken refused.BadJump line

  record InBody (rest : List Item) : Type 0 where
    function : Function
    is_item : IsOneOf (items.Function function) rest
    told : IsOneOf x (rules_of_all function.body all (body_around function.result) (scope_behind 0 function.params [])).broken

  deeper : (item : Item) {rest : List Item} → InBody rest → InBody (item ∷ rest)
  deeper item b = record { function = b.function; is_item = later_of_them b.is_item; told = b.told }

  of_function : {i : ℕ} {rest : List Item} (f : Function) → FunctionPart all i f x → InBody (items.Function f ∷ rest)
  of_function f (in_mark w) = no_jump (only_mark other_than_jump refl refl refl refl all (scope_behind 0 f.params []) f.mark) w
  of_function {i = i} f (at_name w) = no_jump (only_where other_than_jump (is_again all i f.name) refused.DuplicateName f.line refl) w
  of_function f (at_kind w) = no_jump (only_where other_than_jump (is_wrong_function f) refused.WrongKind f.line refl) w
  of_function f (in_params w) = no_jump (only_declared other_than_jump refl refl refl refl all refl 0 f.params []) w
  of_function f (in_body w) = record { function = f; is_item = first_of_them refl; told = w }

  of_items : {i before : ℕ} {rest : List Item} → ItemPart all x i before rest → InBody rest
  of_items {i = i} {before = before} (at_global g w) =
      no_jump (only_two (only_where other_than_jump (is_again all i g.name) refused.DuplicateName g.line refl) (only_where other_than_jump (passes_cells before g.cells) refused.TooLarge g.line refl)) w
  of_items (at_function f w) = of_function f w
  of_items (behind_global g w) = deeper (items.Global g) (of_items w)
  of_items (behind_function f w) = deeper (items.Function f) (of_items w)

module _ (p : Program) (line : ℕ) where
  abbrev params : Function → List Local
  params f = scope_behind 0 f.params []

  by_out : (f : Function) → IsOneOf (items.Function f) p.items → OutAmong line (body_around f.result) f.body → HasBadJump p line
  by_out f is o = put o.out where
    put : Out line (body_around f.result) o.statement → HasBadJump p line
    put (leaving free l) = leaves_function f o.statement is o.is_listed l
    put (breaking free b) = leaves_function f o.statement is o.is_listed (breaks_leave line b)
    put (returning held r) = absurd (cc)
    put (task_leaving l) = leaves_a_task f o.statement is o.is_listed l

  bad_jump : InBody p.items line p.items → HasBadJump p line
  bad_jump b = put (found_among p.items (broken refused.BadJump line) b.function.body (body_around b.function.result) (params b.function) b.told) where
    put : FoundAmong p.items (broken refused.BadJump line) (body_around b.function.result) (params b.function) b.function.body → HasBadJump p line
    put found = whole (jump_by p.items found.around found.visible found.statement line (stmt_view found.statement) found.own) where
      whole : OutAt found.around found.statement line → HasBadJump p line
      whole at = by_out b.function b.is_item (out_among line found.stands at.out at.on_line)

  only_told : IsOneOf (broken refused.BadJump line) (program_rules p) → HasBadJump p line
  only_told w = elim (one_of_two (items_rules p.items 0 0 p.items) (where_so (not (has_main p.items)) refused.NoMain 1) w) [
    | inl u ↦ bad_jump (of_items p.items line (item_part p.items (broken refused.BadJump line) 0 0 p.items u))
    | inr u ↦ no_jump (only_where other_than_jump (not (has_main p.items)) refused.NoMain 1 refl) u
  ]

  jumps_told : (f : Function) → IsOneOf (items.Function f) p.items → JumpsAmong line (body_around f.result) (params f) f.body → IsOneOf (broken refused.BadJump line) (program_rules p)
  jumps_told f is j = one_of_left _ (item_told p.items (broken refused.BadJump line) (function_told p.items (broken refused.BadJump line) f (λ i. in_body
      (told_among p.items (broken refused.BadJump line) j.stands (jump_told p.items j.around j.visible j.jump line j.out j.on_line))) 0 0 p.items is))

  is_told : HasBadJump p line → IsOneOf (broken refused.BadJump line) (program_rules p)
  is_told (leaves_function f s is listed l) = jumps_told f is (among line (body_around f.result) (params f) f.body listed (λ ms. leaves_jumps line l (body_around f.result) ms refl))
  is_told (leaves_a_task f s is listed l) = jumps_told f is (among line (body_around f.result) (params f) f.body listed (λ ms. task_leaves_jumps line l (body_around f.result) ms))

pub bad_jumps_are_told : (p : Program) → BadJumpsAreTold p
bad_jumps_are_told p = record { told = λ line b. is_told p line b; only = λ line w. only_told p line w }
