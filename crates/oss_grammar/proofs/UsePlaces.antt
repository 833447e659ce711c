-- Uses of names by the locals that are in scope, and by the places at which the rules of statements tell them.
use Rattle.std.proofs.Common.{◌≡◌, ℕ, List, [], ◌∷◌, ◌++◌, length, refl, subst, Option, Some, None}
use Rattle.oss_syntax.specs.declared.tree.program.Function.{Function}
use Rattle.oss_syntax.specs.declared.tree.program.Local.{Local}
use Rattle.oss_syntax.specs.declared.tree.program.Program.{Program}
use Rattle.oss_syntax.specs.declared.tree.stmt.Stmt.{Stmt}
use Rattle.oss_syntax.specs.declared.tree.stmt.StmtKind.{out-StmtKind}
use Rattle.oss_syntax.specs.declared.tree.stmt.StmtKind.TheVariants as stmts
use Rattle.oss_grammar.specs.declared.kinds.Around.{Around}
use Rattle.oss_grammar.specs.ProgramRules.{body_around}
use Rattle.oss_grammar.specs.Scopes.{loop_locals}
use Rattle.oss_grammar.specs.StaticRules.{in_a_loop, in_a_task, in_a_task_loop, scope_in}
use Rattle.oss_grammar.specs.Places.{StandsIn, StandsAmong, declarators_of, locals_behind, locals_behind_part}
use Rattle.oss_grammar.specs.Places.StandsIn.{itself, in_block, in_then, in_else, in_while, in_for_start, in_for_last, in_for_body, in_task_body, in_task_loop_body}
use Rattle.oss_grammar.specs.Places.StandsAmong.{in_first, in_rest}
use Rattle.oss_grammar.specs.UnknownNames.{UnknownNamesAreTold, UsesIn, UsesInInitial, UsesUnknown}
use Rattle.oss_grammar.specs.UnknownNames.UsesIn.{in_initial, in_target, in_stored, as_called, in_passed, in_printed, in_if_test, in_while_test, in_for_test, in_returned, in_task_clauses, in_loop_clauses, in_loop_first, in_loop_end, in_wait_sections, in_release_clauses}
use Rattle.oss_grammar.specs.UnknownNames.UsesUnknown.{in_pragma, in_parameter, in_statement}
use Rattle.oss_grammar.proofs.ClauseUses.{clauses_moved, same_loop, sections_moved}
use Rattle.oss_grammar.proofs.ScopedPlaces.{scope_behind, StandsIn as ScopedIn, StandsAmong as ScopedAmong, locals_behind as scoped_behind, locals_behind_part as scoped_behind_part}
use Rattle.oss_grammar.proofs.ScopedPlaces.StandsIn.{in_block as scoped_in_block, in_else as scoped_in_else, in_for_body as scoped_in_for_body, in_for_last as scoped_in_for_last, in_for_start as scoped_in_for_start, in_task_body as scoped_in_task_body, in_task_loop_body as scoped_in_task_loop_body, in_then as scoped_in_then, in_while as scoped_in_while, itself as scoped_itself}
use Rattle.oss_grammar.proofs.ScopedPlaces.StandsAmong.{in_first as row_in_first, in_rest as row_in_rest}
use Rattle.oss_grammar.proofs.ScopedUses.{UsesIn as ScopedUse, UsesInInitial as ScopedInitial, UsesUnknown as ScopedUnknown}
use Rattle.oss_grammar.proofs.ScopedUses.UsesIn.{as_called as used_as_called, in_for_test as used_in_for_test, in_if_test as used_in_if_test, in_initial as used_in_initial, in_loop_clauses as used_in_loop_clauses, in_loop_end as used_in_loop_end, in_loop_first as used_in_loop_first, in_passed as used_in_passed, in_printed as used_in_printed, in_release_clauses as used_in_release_clauses, in_returned as used_in_returned, in_stored as used_in_stored, in_target as used_in_target, in_task_clauses as used_in_task_clauses, in_wait_sections as used_in_wait_sections, in_while_test as used_in_while_test}
use Rattle.oss_grammar.proofs.ScopedUses.UsesUnknown.{in_parameter as told_as_in_parameter, in_pragma as told_as_in_pragma, in_statement as told_as_in_statement}
use Rattle.oss_grammar.proofs.UnknownStatements.{only_told, is_told}
use Rattle.oss_grammar.proofs.VisibleLemmas.{SameNames, same_behind, same_flip, same_known, same_refl, same_unknown}

same_part : {xs ys : List Local} (start : ℕ) (o : Option Stmt) → SameNames xs ys → SameNames (scoped_behind_part start o xs) (locals_behind_part o ys)
same_part start None same = same
same_part start (Some s) same = same_behind start (declarators_of (out-StmtKind s.what)) same

-- a place with other locals of the same names
record Place (t : Stmt) (scope locals : List Local) (s : Stmt) : Type 0 where
  visible : List Local
  stands : StandsIn visible t locals s
  same : SameNames scope visible

record PlaceAmong (t : Stmt) (scope locals : List Local) (body : List Stmt) : Type 0 where
  visible : List Local
  stands : StandsAmong visible t locals body
  same : SameNames scope visible

lift : {t : Stmt} {scope ls ms : List Local} {r s : Stmt} → ((visible : List Local) → StandsIn visible t ls r → StandsIn visible t ms s) → Place t scope ls r → Place t scope ms s
lift up p = record { visible = p.visible; stands = up p.visible p.stands; same = p.same }

into_block : {t : Stmt} {scope locals : List Local} {s : Stmt} (body : List Stmt) → s.what ≡ stmts.Block body → PlaceAmong t scope locals body → Place t scope locals s
into_block body is p = record { visible = p.visible; stands = in_block body is p.stands; same = p.same }

into_first : {t : Stmt} {scope locals : List Local} {s : Stmt} (rest : List Stmt) → Place t scope locals s → PlaceAmong t scope locals (s ∷ rest)
into_first rest p = record { visible = p.visible; stands = in_first p.stands; same = p.same }

into_rest : {t : Stmt} {scope locals : List Local} (s : Stmt) {rest : List Stmt} → PlaceAmong t scope (locals_behind s locals) rest → PlaceAmong t scope locals (s ∷ rest)
into_rest s p = record { visible = p.visible; stands = in_rest p.stands; same = p.same }

mutual
  place_in : {b : Around} {scope : List Local} {t : Stmt} {a : Around} {ls ms : List Local} {s : Stmt} → ScopedIn b scope t a ls s → SameNames ls ms → Place t scope ms s
  place_in {ms = ms} scoped_itself same = record { visible = ms; stands = itself; same = same }
  place_in (scoped_in_block body is d) same = into_block body is (place_among d same)
  place_in (scoped_in_then e r o is d) same = lift (λ v w. in_then e r o is w) (place_in d same)
  place_in (scoped_in_else e r o is d) same = lift (λ v w. in_else e r o is w) (place_in d same)
  place_in (scoped_in_while e r is d) same = lift (λ v w. in_while e r is w) (place_in d same)
  place_in (scoped_in_for_start start test last r is d) same = lift (λ v w. in_for_start start test last r is w) (place_in d same)
  place_in {ls = ls} (scoped_in_for_last start test last r is d) same = lift (λ v w. in_for_last start test last r is w) (place_in d (same_part (length ls) start same))
  place_in {ls = ls} (scoped_in_for_body start test last r is d) same = lift (λ v w. in_for_body start test last r is w) (place_in d (same_part (length ls) start same))
  place_in (scoped_in_task_body mark r is d) same = lift (λ v w. in_task_body mark r is w) (place_in d same)
  place_in (scoped_in_task_loop_body head r is d) same = lift (λ v w. in_task_loop_body head r is w) (place_in d (same_loop head same))

  place_among : {b : Around} {scope : List Local} {t : Stmt} {a : Around} {ls ms : List Local} {body : List Stmt} → ScopedAmong b scope t a ls body → SameNames ls ms → PlaceAmong t scope ms body
  place_among (row_in_first {rest = rest} d) same = into_first rest (place_in d same)
  place_among {a = a} (row_in_rest {s = s} d) same = into_rest s (place_among d (same_behind a.start (declarators_of (out-StmtKind s.what)) same))

-- and the other way
record Old (t : Stmt) (visible : List Local) (a : Around) (locals : List Local) (s : Stmt) : Type 0 where
  around : Around
  scope : List Local
  stands : ScopedIn around scope t a locals s
  same : SameNames scope visible

record OldAmong (t : Stmt) (visible : List Local) (a : Around) (locals : List Local) (body : List Stmt) : Type 0 where
  around : Around
  scope : List Local
  stands : ScopedAmong around scope t a locals body
  same : SameNames scope visible

old_up : {t : Stmt} {visible : List Local} {a b : Around} {ls ms : List Local} {r s : Stmt} → ((c : Around) (scope : List Local) → ScopedIn c scope t a ls r → ScopedIn c scope t b ms s)
    → Old t visible a ls r → Old t visible b ms s
old_up up o = record { around = o.around; scope = o.scope; stands = up o.around o.scope o.stands; same = o.same }

old_block : {t : Stmt} {visible : List Local} {a : Around} {locals : List Local} {s : Stmt} (body : List Stmt) → s.what ≡ stmts.Block body → OldAmong t visible (scope_in a locals) locals body
    → Old t visible a locals s
old_block body is o = record { around = o.around; scope = o.scope; stands = scoped_in_block body is o.stands; same = o.same }

old_first : {t : Stmt} {visible : List Local} {a : Around} {locals : List Local} {s : Stmt} (rest : List Stmt) → Old t visible a locals s → OldAmong t visible a locals (s ∷ rest)
old_first rest o = record { around = o.around; scope = o.scope; stands = row_in_first o.stands; same = o.same }

old_rest : {t : Stmt} {visible : List Local} {a : Around} {locals : List Local} (s : Stmt) {rest : List Stmt} → OldAmong t visible a (scoped_behind a.start s locals) rest → OldAmong t visible a locals (s ∷ rest)
old_rest s o = record { around = o.around; scope = o.scope; stands = row_in_rest o.stands; same = o.same }

mutual
  old_in : {visible : List Local} {t : Stmt} {ms : List Local} {s : Stmt} → StandsIn visible t ms s → (a : Around) (ls : List Local) → SameNames ls ms → Old t visible a ls s
  old_in itself a ls same = record { around = a; scope = ls; stands = scoped_itself; same = same }
  old_in (in_block body is d) a ls same = old_block body is (old_among d (scope_in a ls) ls same)
  old_in (in_then e r o is d) a ls same = old_up (λ c v w. scoped_in_then e r o is w) (old_in d (scope_in a ls) ls same)
  old_in (in_else e r o is d) a ls same = old_up (λ c v w. scoped_in_else e r o is w) (old_in d (scope_in a ls) ls same)
  old_in (in_while e r is d) a ls same = old_up (λ c v w. scoped_in_while e r is w) (old_in d (scope_in (in_a_loop a) ls) ls same)
  old_in (in_for_start start test last r is d) a ls same = old_up (λ c v w. scoped_in_for_start start test last r is w) (old_in d (scope_in a ls) ls same)
  old_in (in_for_last start test last r is d) a ls same =
      old_up (λ c v w. scoped_in_for_last start test last r is w) (old_in d (scope_in a (scoped_behind_part (length ls) start ls)) (scoped_behind_part (length ls) start ls) (same_part (length ls) start same))
  old_in (in_for_body start test last r is d) a ls same =
      old_up (λ c v w. scoped_in_for_body start test last r is w)
      (old_in d (scope_in (in_a_loop a) (scoped_behind_part (length ls) start ls)) (scoped_behind_part (length ls) start ls) (same_part (length ls) start same))
  old_in (in_task_body mark r is d) a ls same = old_up (λ c v w. scoped_in_task_body mark r is w) (old_in d (scope_in (in_a_task a) ls) ls same)
  old_in (in_task_loop_body head r is d) a ls same =
      old_up (λ c v w. scoped_in_task_loop_body head r is w) (old_in d (scope_in (in_a_task_loop a) (loop_locals head ls)) (loop_locals head ls) (same_loop head same))

  old_among : {visible : List Local} {t : Stmt} {ms : List Local} {body : List Stmt} → StandsAmong visible t ms body → (a : Around) (ls : List Local) → SameNames ls ms → OldAmong t visible a ls body
  old_among (in_first {rest = rest} d) a ls same = old_first rest (old_in d a ls same)
  old_among (in_rest {s = s} d) a ls same = old_rest s (old_among d a (scoped_behind a.start s ls) (same_behind a.start (declarators_of (out-StmtKind s.what)) same))

-- uses
record Use (visible : List Local) (s : Stmt) (scope : List Local) (name : List ℕ) (line : ℕ) : Type 0 where
  other : List Local
  uses : UsesIn visible s other name line
  same : SameNames scope other

record OldUse (a : Around) (visible : List Local) (s : Stmt) (scope : List Local) (name : List ℕ) (line : ℕ) : Type 0 where
  other : List Local
  uses : ScopedUse a visible s other name line
  same : SameNames other scope

module _ (name : List ℕ) (line : ℕ) where
  initial_new : {start : ℕ} {xs ys declared scope : List Local} → SameNames xs ys → ScopedInitial start xs declared scope name line
      → (other : List Local) × UsesInInitial ys declared other name line × SameNames scope other
  initial_new {start} {xs} {ys} same d = (
    ys ++ d.before,
    record { before = d.before; declarator = d.declarator; behind = d.behind; split = d.split; value = d.value; is_initial = d.is_initial; scope_is = refl; uses = d.uses },
    subst (λ (zs : List Local). SameNames zs (ys ++ d.before)) d.scope_is (same_behind start d.before same),
  )

  initial_old : {xs ys declared scope : List Local} (start : ℕ) → SameNames xs ys → UsesInInitial ys declared scope name line
      → (other : List Local) × ScopedInitial start xs declared other name line × SameNames other scope
  initial_old {xs} {ys} start same d = (
    scope_behind start d.before xs,
    record { before = d.before; declarator = d.declarator; behind = d.behind; split = d.split; value = d.value; is_initial = d.is_initial; scope_is = refl; uses = d.uses },
    subst (λ (zs : List Local). SameNames (scope_behind start d.before xs) zs) d.scope_is (same_behind start d.before same),
  )

  use_new : {a : Around} {xs ys : List Local} {s : Stmt} {scope : List Local} → SameNames xs ys → ScopedUse a xs s scope name line → Use ys s scope name line
  use_new same (used_in_initial declared is d) = (let n = initial_new same d in record { other = n.0; uses = in_initial declared is n.1; same = n.2 })
  use_new {ys = ys} same (used_in_target target o e is u) = record { other = ys; uses = in_target target o e is u; same = same }
  use_new {ys = ys} same (used_in_stored target o e is u) = record { other = ys; uses = in_stored target o e is u; same = same }
  use_new {ys = ys} same (used_as_called es is at) = record { other = ys; uses = as_called es is at; same = same }
  use_new {ys = ys} same (used_in_passed callee es is u) = record { other = ys; uses = in_passed callee es is u; same = same }
  use_new {ys = ys} same (used_in_printed format es is u) = record { other = ys; uses = in_printed format es is u; same = same }
  use_new {ys = ys} same (used_in_if_test e t o is u) = record { other = ys; uses = in_if_test e t o is u; same = same }
  use_new {ys = ys} same (used_in_while_test e t is u) = record { other = ys; uses = in_while_test e t is u; same = same }
  use_new {ys = ys} same (used_in_returned e is u) = record { other = ys; uses = in_returned e is u; same = same }
  use_new same (used_in_task_clauses mark t is u) = (let m = clauses_moved name line same same u in record { other = m.other; uses = in_task_clauses mark t is m.uses; same = m.same })
  use_new same (used_in_loop_clauses head t is u) = (let m = clauses_moved name line same (same_loop head same) u in record { other = m.other; uses = in_loop_clauses head t is m.uses; same = m.same })
  use_new {ys = ys} same (used_in_loop_first head t e is first u) = record { other = ys; uses = in_loop_first head t e is first u; same = same }
  use_new {ys = ys} same (used_in_loop_end head t is u) = record { other = ys; uses = in_loop_end head t is u; same = same }
  use_new same (used_in_wait_sections sections is u) = (let m = sections_moved name line same u in record { other = m.other; uses = in_wait_sections sections is m.uses; same = m.same })
  use_new same (used_in_release_clauses clauses is u) = (let m = clauses_moved name line same same u in record { other = m.other; uses = in_release_clauses clauses is m.uses; same = m.same })
  use_new {xs = xs} {ys = ys} same (used_in_for_test start e last t is u) = record { other = locals_behind_part start ys; uses = in_for_test start e last t is u; same = same_part (length xs) start same }

  use_old : {xs ys : List Local} {s : Stmt} {scope : List Local} (a : Around) → SameNames xs ys → UsesIn ys s scope name line → OldUse a xs s scope name line
  use_old a same (in_initial declared is d) = (let n = initial_old a.start same d in record { other = n.0; uses = used_in_initial declared is n.1; same = n.2 })
  use_old {xs = xs} a same (in_target target o e is u) = record { other = xs; uses = used_in_target target o e is u; same = same }
  use_old {xs = xs} a same (in_stored target o e is u) = record { other = xs; uses = used_in_stored target o e is u; same = same }
  use_old {xs = xs} a same (as_called es is at) = record { other = xs; uses = used_as_called es is at; same = same }
  use_old {xs = xs} a same (in_passed callee es is u) = record { other = xs; uses = used_in_passed callee es is u; same = same }
  use_old {xs = xs} a same (in_printed format es is u) = record { other = xs; uses = used_in_printed format es is u; same = same }
  use_old {xs = xs} a same (in_if_test e t o is u) = record { other = xs; uses = used_in_if_test e t o is u; same = same }
  use_old {xs = xs} a same (in_while_test e t is u) = record { other = xs; uses = used_in_while_test e t is u; same = same }
  use_old {xs = xs} a same (in_returned e is u) = record { other = xs; uses = used_in_returned e is u; same = same }
  use_old a same (in_task_clauses mark t is u) =
      (let m = clauses_moved name line (same_flip same) (same_flip same) u in record { other = m.other; uses = used_in_task_clauses mark t is m.uses; same = same_flip m.same })
  use_old a same (in_loop_clauses head t is u) =
      (let m = clauses_moved name line (same_flip same) (same_loop head (same_flip same)) u in record { other = m.other; uses = used_in_loop_clauses head t is m.uses; same = same_flip m.same })
  use_old {xs = xs} a same (in_loop_first head t e is first u) = record { other = xs; uses = used_in_loop_first head t e is first u; same = same }
  use_old {xs = xs} a same (in_loop_end head t is u) = record { other = xs; uses = used_in_loop_end head t is u; same = same }
  use_old a same (in_wait_sections sections is u) = (let m = sections_moved name line (same_flip same) u in record { other = m.other; uses = used_in_wait_sections sections is m.uses; same = same_flip m.same })
  use_old a same (in_release_clauses clauses is u) =
      (let m = clauses_moved name line (same_flip same) (same_flip same) u in record { other = m.other; uses = used_in_release_clauses clauses is m.uses; same = same_flip m.same })
  use_old {xs = xs} a same (in_for_test start e last t is u) = record { other = scoped_behind_part (length xs) start xs; uses = used_in_for_test start e last t is u; same = same_part (length xs) start same }

params_same : (f : Function) → SameNames (scope_behind 0 f.params []) f.params
params_same f = same_behind 0 f.params (same_refl [])

unknown_new : (p : Program) (line : ℕ) → ScopedUnknown p line → UsesUnknown p line
unknown_new p line (told_as_in_pragma f mark scope name is e u unknown) =
    (let m = clauses_moved name line (params_same f) (params_same f) u in in_pragma f mark m.other name is e m.uses (same_unknown m.same unknown))
unknown_new p line (told_as_in_parameter f scope name is d unknown) = (let n = initial_new name line (same_refl []) d in in_parameter f n.0 name is n.1 (same_unknown n.2 unknown))
unknown_new p line (told_as_in_statement f around visible s scope name stands u unknown) = put (place_among stands.stands (params_same f)) where
  put : PlaceAmong s visible f.params f.body → UsesUnknown p line
  put place = whole (use_new name line place.same u) where
    whole : Use place.visible s scope name line → UsesUnknown p line
    whole n = in_statement f place.visible s n.other name (record { is_item = stands.is_item; stands = place.stands }) n.uses (same_unknown n.same unknown)

unknown_old : (p : Program) (line : ℕ) → UsesUnknown p line → ScopedUnknown p line
unknown_old p line (in_pragma f mark scope name is e u unknown) =
    (let m = clauses_moved name line (same_flip (params_same f)) (same_flip (params_same f)) u in told_as_in_pragma f mark m.other name is e m.uses (same_unknown m.same unknown))
unknown_old p line (in_parameter f scope name is d unknown) = (let n = initial_old name line 0 (same_refl []) d in told_as_in_parameter f n.0 name is n.1 (same_known n.2 unknown))
unknown_old p line (in_statement f visible s scope name stands u unknown) = put (old_among stands.stands (body_around f.result) (scope_behind 0 f.params []) (params_same f)) where
  put : OldAmong s visible (body_around f.result) (scope_behind 0 f.params []) f.body → ScopedUnknown p line
  put old = whole (use_old name line old.around old.same u) where
    whole : OldUse old.around old.scope s scope name line → ScopedUnknown p line
    whole n = told_as_in_statement f old.around old.scope s n.other name (record { is_item = stands.is_item; stands = old.stands }) n.uses (same_known n.same unknown)

pub unknown_names_are_told : (p : Program) → UnknownNamesAreTold p
unknown_names_are_told p = record { told = λ line u. is_told p line (unknown_old p line u); only = λ line w. unknown_new p line (only_told p line w) }
