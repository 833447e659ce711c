use Rattle.std.proofs.Common.{◌≡◌, ℕ, suc, ◌+◌, refl, sym, subst, ◌∙◌, arith, Some}
use Rattle.oss_syntax.specs.declared.access.Op.{Op}
use Rattle.oss_ranges.specs.Cells.{value_at}
use Rattle.oss_deps.specs.Seen.{Seen}
use Rattle.oss_kept_tasks.specs.declared.held.Held.{Held}
use Rattle.oss_kept_tasks.specs.declared.held.Owed.TheVariants as owed
use Rattle.oss_enabled_moves.specs.Enabled.{MayFold}
use Rattle.oss_enabled_moves.proofs.CallLemmas.{seen_is}
use Rattle.oss_core.specs.Cores.{kept_of}
use Rattle.oss_core.specs.Giving.{HoldsCell}
use Rattle.oss_core.specs.Kept.{Kept}
use Rattle.oss_core.specs.Changes.{Joins}
use Rattle.oss_core.specs.Passing.{RunPassed, joins, stays}
use Rattle.oss_core.proofs.AddedLemmas.{join_waits, one_way}
use Rattle.oss_core.proofs.GoingLemmas.{read_is}
use Rattle.oss_core.proofs.KeepLemmas.{some_is}
use Rattle.oss_core.proofs.MakingLemmas.{fold_of, holds_cell, kept_is}
use Rattle.oss_core.proofs.machine.Core.pass_join.Goals as goal

pub may_fold-requires-clause-folding : goal.may_fold-requires-clause-folding
may_fold-requires-clause-folding g c = λ op e. fold_of c.requires.running.core c.args.task.0 c.args.range.lo c.index-2.result.now op (read_is c.args.self.now.tasks.items c.args.task.0 c.index-2.result.now c.requires.owes.0 c.requires.owes.1 c.index-2.ensures) e

pub returns-then-not-may_fold-clause-passed : goal.returns-then-not-may_fold-clause-passed
returns-then-not-may_fold-clause-passed g c =
    let old = kept_of g.D.Deps.seen c.args.self.now in
    let read = read_is c.args.self.now.tasks.items c.args.task.0 c.index-2.result.now c.requires.owes.0 c.requires.owes.1 c.index-2.ensures in
    let same = some_is (sym c.requires.owes.1 ∙ read) in
    let e : suc c.args.range.lo ≡ c.args.range.lo + 1 = omega arith in
    let f = c.if-not-may_fold.true in
    subst (λ (hi : ℕ). RunPassed c.args.code.now c.args.task.0 c.args.range.lo hi old (kept_of g.D.Deps.seen (record c.args.self.now { deps = c.may_fold.new.deps })) c.args.passed.now.items c.args.passed.now.items) e
    (stays
    (join_waits old c.args.task.0 c.args.range.lo c.args.range.hi c.index-2.result.now read c.args.op (λ k low high. subst (λ (h : Held). value_at h.owed.pieces k ≡ Some (owed.Join c.args.op)) same (c.requires.owes.2 k low high)) c.args.range.ordered
    (λ other may. let t = c.may_fold.ensures.may.1 (other, may) in cc))
    (kept_is c.args.self.now.tasks.items c.args.self.now.tree c.args.self.now.cells.items (g.D.Deps.seen c.args.self.now.deps) (g.D.Deps.seen c.may_fold.new.deps) c.may_fold.ensures.same)
    refl)

pub join-requires-clause-owes : goal.join-requires-clause-owes
join-requires-clause-owes g c = record { held = c.requires.owes.0; is = c.requires.owes.1; owed = owed.Join c.args.op; owes = c.requires.owes.2 c.args.range.lo (omega arith) c.args.range.ordered }

pub join-requires-clause-holds : goal.join-requires-clause-holds
join-requires-clause-holds g c =
    subst (λ (s : Seen). HoldsCell s c.args.task.0 c.args.range.lo) (sym (seen_is (g.D.Deps.seen c.args.self.now.deps) (g.D.Deps.seen c.may_fold.new.deps) c.may_fold.ensures.same))
    (holds_cell c.requires.running.core c.args.task.0 c.args.range.lo (record { held = c.requires.owes.0; is = c.requires.owes.1; owed = owed.Join c.args.op; owes = c.requires.owes.2 c.args.range.lo (omega arith) c.args.range.ordered }))

pub returns-clause-passed : goal.returns-clause-passed
returns-clause-passed g c =
    let old = kept_of g.D.Deps.seen c.args.self.now in
    let read = read_is c.args.self.now.tasks.items c.args.task.0 c.index-2.result.now c.requires.owes.0 c.requires.owes.1 c.index-2.ensures in
    let same = some_is (sym c.requires.owes.1 ∙ read) in
    let h = c.may_fold.ensures.may.0 c.if-not-may_fold.false in
    let op : h.0 ≡ c.args.op = one_way c.index-2.result.now c.args.range.lo h.0 c.args.op h.1.owes (subst (λ (x : Held). value_at x.owed.pieces c.args.range.lo ≡ Some (owed.Join c.args.op)) same (c.requires.owes.2 c.args.range.lo (omega arith) c.args.range.ordered)) in
    let may : MayFold c.index-2.result.now c.args.self.now.tree.tasks (g.D.Deps.seen c.args.self.now.deps) c.args.task.0 c.args.range.lo c.args.op
    = subst (λ (o : Op). MayFold c.index-2.result.now c.args.self.now.tree.tasks (g.D.Deps.seen c.args.self.now.deps) c.args.task.0 c.args.range.lo o) op h.1 in
    let made : Joins c.args.code.now c.args.task.0 c.args.range.lo c.args.op old (kept_of g.D.Deps.seen c.join.new.self)
    = subst (λ (k : Kept). Joins c.args.code.now c.args.task.0 c.args.range.lo c.args.op k (kept_of g.D.Deps.seen c.join.new.self))
    (kept_is c.args.self.now.tasks.items c.args.self.now.tree c.args.self.now.cells.items (g.D.Deps.seen c.args.self.now.deps) (g.D.Deps.seen c.may_fold.new.deps) c.may_fold.ensures.same) c.in_ok-join.ensures in
    let e : c.args.range.lo + 1 ≡ suc c.args.range.lo = omega arith in
    joins c.args.op e (record { held = c.index-2.result.now; is = read; folds = may }) made
    (_, record { task = refl; lo_is = refl; hi_is = refl; joined_is = refl }, c.in_ok-note.ensures)
