use Rattle.std.proofs.Common.{◌≡◌, ℕ, List, sym, refl, subst, ◌∙◌, Some}
use Rattle.std.specs.Prelude.{slice_get}
use Rattle.oss_deps.specs.Seen.{CanOpen, Opens}
use Rattle.oss_kept_tasks.specs.declared.held.Held.{Held}
use Rattle.oss_core.specs.Changes.{IsCreated}
use Rattle.oss_core.specs.Going.{HasGoneOn}
use Rattle.oss_core.specs.Cores.{kept_of}
use Rattle.oss_core.proofs.CallLemmas.{on_ok}
use Rattle.oss_core.proofs.GoingLemmas.{created, read_is}
use Rattle.oss_core.proofs.KeepLemmas.{some_is}
use Rattle.oss_core.proofs.PushLemmas.{get_front}
use Rattle.oss_core.proofs.machine.Core.create.Goals as goal

pub open-requires : goal.open-requires
open-requires g c =
    let b = c.requires.before.before in
    let read = read_is c.args.self.now.tasks.items c.args.task.0 c.index.result.now b.held b.is c.index.ensures in
    subst (λ (n : ℕ). CanOpen (g.D.Deps.seen c.args.self.now.deps) (record { task = n; parent = c.args.task.0; accesses = c.in_ok-newborn.newborn.accesses })) (sym (c.in_ok-number.ensures.number ∙ c.requires.sizes))
    (c.requires.opens c.index.result.now c.in_ok-newborn.newborn.held c.in_ok-newborn.newborn.accesses read c.in_ok-newborn.ensures)

pub go_on-requires : goal.go_on-requires
go_on-requires g c =
    let b = c.requires.before.before in
    record {
      held = b.held;
      is = subst (λ (xs : List Held). slice_get xs c.args.task.0 ≡ Some b.held) (sym c.in_ok-push.ensures.items) (get_front c.args.self.now.tasks.items c.in_ok-newborn.newborn.held c.args.task.0 b.held b.is);
      running = b.running;
      goes = b.goes;
    }

pub returns : goal.returns
returns g c =
    on_ok c.go_on.result (λ gone.
    created c.args.code.now c.args.task.0 (kept_of g.D.Deps.seen c.args.self.now)
    (record { tasks = c.go_on.new.tasks.items; tree = c.add_to_tree.new.tree; seen = g.D.Deps.seen c.open.new.self; cells = c.args.self.now.cells.items })
    c.requires.before.before.held c.in_ok-newborn.newborn.held c.in_ok-newborn.newborn.accesses c.requires.before.before.is c.requires.before.creates_is
    (subst (λ (h : Held). IsCreated c.args.code.now h c.in_ok-newborn.newborn.held c.in_ok-newborn.newborn.accesses) (some_is (sym (read_is c.args.self.now.tasks.items c.args.task.0 c.index.result.now c.requires.before.before.held c.requires.before.before.is c.index.ensures) ∙ c.requires.before.before.is)) c.in_ok-newborn.ensures)
    (subst (λ (xs : List Held). HasGoneOn c.args.code.now c.args.task.0 0 xs c.go_on.new.tasks.items) c.in_ok-push.ensures.items gone)
    refl c.in_ok-number.ensures.tasks c.in_ok-number.ensures.prints
    (subst (λ (n : ℕ). Opens (record { task = n; parent = c.args.task.0; accesses = c.in_ok-newborn.newborn.accesses }) (g.D.Deps.seen c.args.self.now.deps) (g.D.Deps.seen c.open.new.self)) (c.in_ok-number.ensures.number ∙ c.requires.sizes) c.in_ok-open.ensures.ok)) c.go_on.ensures
