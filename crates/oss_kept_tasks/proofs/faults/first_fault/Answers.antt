use Rattle.std.proofs.Common.{◌≡◌, ℕ, Option, refl, subst, length, Some, sym}
use Rattle.std.specs.Prelude.{MatchOption, slice_get}
use Rattle.std.proofs.lemmas.Option.{slice_get_read, slice_get_within}
use Rattle.oss_kept_tasks.specs.declared.held.Held.{Held}
use Rattle.oss_kept_tasks.specs.FirstFault.{HasNoFault, IsFaultOf, IsLeastTo}
use Rattle.oss_kept_tasks.proofs.LeastLemmas.{faultless, first_seen, least_at}
use Rattle.oss_kept_tasks.proofs.faults.first_fault.Goals as goal

pub returns-in-Some-clause-first : goal.returns-in-Some-clause-first
returns-in-Some-clause-first c =
    let tasks = c.args.tasks.now in
    let told : IsLeastTo tasks (length tasks) (Some c.in-Some.at) = subst (λ (o : Option ℕ). IsLeastTo tasks (length tasks) o) c.in-Some.is c.least_fault.ensures.least in
    let held = c.index-tasks-at.result in
    let is : slice_get tasks c.in-Some.at ≡ Some held = slice_get_read tasks (length tasks) c.in-Some.at held refl (slice_get_within tasks c.in-Some.at told.3.fault.held told.3.fault.is) c.index-tasks-at.is in
    first_seen tasks c.in-Some.at held is (least_at tasks c.in-Some.at told) c.fault_seen.result
    (subst (λ (h : Held). MatchOption c.fault_seen.result (HasNoFault h.body) (λ one. IsFaultOf h.body one.kind one.line one.key.now)) (sym c.index-tasks-at.is) c.fault_seen.ensures)

pub returns-in-None-clause-first : goal.returns-in-None-clause-first
returns-in-None-clause-first c = faultless c.args.tasks.now (subst (λ (o : Option ℕ). IsLeastTo c.args.tasks.now (length c.args.tasks.now) o) c.in-None.is c.least_fault.ensures.least)
