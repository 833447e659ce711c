use Rattle.std.proofs.Common.{◌≡◌, ℕ, Option, refl, sym, subst, length, Some}
use Rattle.std.specs.Prelude.{slice_get}
use Rattle.std.proofs.lemmas.Option.{slice_get_read, slice_get_within}
use Rattle.oss_kept_tasks.specs.declared.held.Held.{Held}
use Rattle.oss_kept_tasks.specs.FirstFault.{HasNoFault, IsFaultOf, IsLeastTo}
use Rattle.oss_kept_tasks.proofs.LeastLemmas.{best_fault, keyed_none, keyed_point, least_earlier, least_first, least_later, least_none}
use Rattle.oss_kept_tasks.proofs.faults.least_of.Goals as goal

pub returns-in-None-clause-told : goal.returns-in-None-clause-told
returns-in-None-clause-told c =
    let tasks = c.args.tasks.now in
    let held = c.index-tasks-at.result in
    let is : slice_get tasks c.args.at ≡ Some held = slice_get_read tasks (length tasks) c.args.at held refl c.requires.there c.index-tasks-at.is in
    least_none tasks c.args.at held is (subst (λ (h : Held). HasNoFault h.body) (sym c.index-tasks-at.is) c.in-None.ensures) c.args.least c.requires.told

pub returns-in-None-clause-keyed : goal.returns-in-None-clause-keyed
returns-in-None-clause-keyed c =
    let tasks = c.args.tasks.now in
    let held = c.index-tasks-at.result in
    let is : slice_get tasks c.args.at ≡ Some held = slice_get_read tasks (length tasks) c.args.at held refl c.requires.there c.index-tasks-at.is in
    keyed_none tasks c.args.at held is (subst (λ (h : Held). HasNoFault h.body) (sym c.index-tasks-at.is) c.in-None.ensures)

pub returns-in-None-least-clause-told : goal.returns-in-None-least-clause-told
returns-in-None-least-clause-told c =
    let tasks = c.args.tasks.now in
    let held = c.index-tasks-at.result in
    let is : slice_get tasks c.args.at ≡ Some held = slice_get_read tasks (length tasks) c.args.at held refl c.requires.there c.index-tasks-at.is in
    let seen = c.in-Some.seen in
    least_first tasks c.args.at held is seen.kind seen.line seen.key.now (subst (λ (h : Held). IsFaultOf h.body seen.kind seen.line seen.key.now) (sym c.index-tasks-at.is) c.in-Some.ensures) c.as_slice-numbers.ensures.point
    (subst (λ (o : Option ℕ). IsLeastTo tasks c.args.at o) c.in-None-least.is c.requires.told)

pub returns-in-None-least-clause-keyed : goal.returns-in-None-least-clause-keyed
returns-in-None-least-clause-keyed c =
    let tasks = c.args.tasks.now in
    let held = c.index-tasks-at.result in
    let is : slice_get tasks c.args.at ≡ Some held = slice_get_read tasks (length tasks) c.args.at held refl c.requires.there c.index-tasks-at.is in
    let seen = c.in-Some.seen in
    keyed_point tasks c.args.at held seen.kind seen.line seen.key.now is (subst (λ (h : Held). IsFaultOf h.body seen.kind seen.line seen.key.now) (sym c.index-tasks-at.is) c.in-Some.ensures) c.as_slice-numbers.ensures.point

pub returns-then-comes_before-clause-told : goal.returns-then-comes_before-clause-told
returns-then-comes_before-clause-told c =
    let tasks = c.args.tasks.now in
    let held = c.index-tasks-at.result in
    let is : slice_get tasks c.args.at ≡ Some held = slice_get_read tasks (length tasks) c.args.at held refl c.requires.there c.index-tasks-at.is in
    let seen = c.in-Some.seen in
    let told : IsLeastTo tasks c.args.at (Some c.in-Some-least.best) = subst (λ (o : Option ℕ). IsLeastTo tasks c.args.at o) c.in-Some-least.is c.requires.told in
    let other = c.index-tasks-best.result in
    let there_ : slice_get tasks c.in-Some-least.best ≡ Some other = slice_get_read tasks (length tasks) c.in-Some-least.best other refl (slice_get_within tasks c.in-Some-least.best told.3.fault.held told.3.fault.is) c.index-tasks-best.is in
    let fault = subst (λ (h : Held). IsFaultOf h.body seen.kind seen.line seen.key.now) (sym c.index-tasks-at.is) c.in-Some.ensures in
    let best = best_fault tasks c.args.at held is seen.kind seen.line seen.key.now fault c.as_slice-numbers.ensures.point c.in-Some-least.best other there_ told in
    least_earlier tasks c.args.at held is seen.kind seen.line seen.key.now fault c.as_slice-numbers.ensures.point c.in-Some-least.best other there_ told
    ((c.comes_before.ensures told.0 told.1 told.2 (subst (λ (h : Held). IsFaultOf h.body told.0 told.1 told.2) c.index-tasks-best.is best)).0 c.if-comes_before.true)

pub returns-then-comes_before-clause-keyed : goal.returns-then-comes_before-clause-keyed
returns-then-comes_before-clause-keyed c =
    let tasks = c.args.tasks.now in
    let held = c.index-tasks-at.result in
    let is : slice_get tasks c.args.at ≡ Some held = slice_get_read tasks (length tasks) c.args.at held refl c.requires.there c.index-tasks-at.is in
    let seen = c.in-Some.seen in
    keyed_point tasks c.args.at held seen.kind seen.line seen.key.now is (subst (λ (h : Held). IsFaultOf h.body seen.kind seen.line seen.key.now) (sym c.index-tasks-at.is) c.in-Some.ensures) c.as_slice-numbers.ensures.point

pub returns-else-comes_before-clause-told : goal.returns-else-comes_before-clause-told
returns-else-comes_before-clause-told c =
    let tasks = c.args.tasks.now in
    let held = c.index-tasks-at.result in
    let is : slice_get tasks c.args.at ≡ Some held = slice_get_read tasks (length tasks) c.args.at held refl c.requires.there c.index-tasks-at.is in
    let seen = c.in-Some.seen in
    let told : IsLeastTo tasks c.args.at (Some c.in-Some-least.best) = subst (λ (o : Option ℕ). IsLeastTo tasks c.args.at o) c.in-Some-least.is c.requires.told in
    let other = c.index-tasks-best.result in
    let there_ : slice_get tasks c.in-Some-least.best ≡ Some other = slice_get_read tasks (length tasks) c.in-Some-least.best other refl (slice_get_within tasks c.in-Some-least.best told.3.fault.held told.3.fault.is) c.index-tasks-best.is in
    let fault = subst (λ (h : Held). IsFaultOf h.body seen.kind seen.line seen.key.now) (sym c.index-tasks-at.is) c.in-Some.ensures in
    let best = best_fault tasks c.args.at held is seen.kind seen.line seen.key.now fault c.as_slice-numbers.ensures.point c.in-Some-least.best other there_ told in
    least_later tasks c.args.at held is seen.kind seen.line seen.key.now fault c.as_slice-numbers.ensures.point c.in-Some-least.best other there_ told
    (λ b. let t = (c.comes_before.ensures told.0 told.1 told.2 (subst (λ (h : Held). IsFaultOf h.body told.0 told.1 told.2) c.index-tasks-best.is best)).1 b in let f = c.if-comes_before.false in absurd cc)

pub returns-else-comes_before-clause-keyed : goal.returns-else-comes_before-clause-keyed
returns-else-comes_before-clause-keyed c =
    let tasks = c.args.tasks.now in
    let held = c.index-tasks-at.result in
    let is : slice_get tasks c.args.at ≡ Some held = slice_get_read tasks (length tasks) c.args.at held refl c.requires.there c.index-tasks-at.is in
    let seen = c.in-Some.seen in
    keyed_point tasks c.args.at held seen.kind seen.line seen.key.now is (subst (λ (h : Held). IsFaultOf h.body seen.kind seen.line seen.key.now) (sym c.index-tasks-at.is) c.in-Some.ensures) c.as_slice-numbers.ensures.point
