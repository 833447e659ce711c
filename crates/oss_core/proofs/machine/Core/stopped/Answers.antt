use Rattle.std.proofs.Common.{◌≡◌, ℕ, ◌<◌, List, length, Some, subst, ◌↔◌}
use Rattle.std.specs.Prelude.{IsTrue, slice_get}
use Rattle.oss_kept_tasks.specs.declared.held.Held.{Held}
use Rattle.oss_enabled_moves.specs.Enabled.{MayAnything}
use Rattle.oss_core.specs.Cores.{kept_of}
use Rattle.oss_core.proofs.MakingLemmas.{fold_of, kept_is}
use Rattle.oss_core.proofs.NeedLemmas.{is_known}
use Rattle.oss_core.proofs.StillLemmas.{still_all, still_is, stopped_is}
use Rattle.oss_core.proofs.machine.Core.stopped.Goals as goal

pub is_still-requires-clause-known : goal.is_still-requires-clause-known
is_still-requires-clause-known g c = λ v l. is_known c.requires.1.core v (subst (λ (xs : List Held). v < length xs) c.as_slice.ensures.value l)

pub is_still-requires-clause-folding : goal.is_still-requires-clause-folding
is_still-requires-clause-folding g c = λ v k held op is owes. fold_of c.requires.1.core v k held op (subst (λ (xs : List Held). slice_get xs v ≡ Some held) c.as_slice.ensures.value is) owes

pub returns-clause-still : goal.returns-clause-still
returns-clause-still g c = (λ t. still_is (kept_of g.D.Deps.seen c.args.self.now) (told.0 t), λ s. told.1 (still_all (kept_of g.D.Deps.seen c.args.self.now) s))
  where
    told : IsTrue c.is_still.result ↔ ((v : ℕ) (held : Held) → slice_get c.args.self.now.tasks.items v ≡ Some held → MayAnything held c.args.self.now.tree.tasks (g.D.Deps.seen c.args.self.now.deps) v → ⊥)
    told = subst (λ (xs : List Held). IsTrue c.is_still.result ↔ ((v : ℕ) (held : Held) → slice_get xs v ≡ Some held → MayAnything held c.args.self.now.tree.tasks (g.D.Deps.seen c.args.self.now.deps) v → ⊥)) c.as_slice.ensures.value c.is_still.ensures.still

pub returns-clause-stopped : goal.returns-clause-stopped
returns-clause-stopped g c = λ code main first s core. stopped_is core (returns-clause-still g c)

pub returns-clause-same : goal.returns-clause-same
returns-clause-same g c = kept_is c.args.self.now.tasks.items c.args.self.now.tree c.args.self.now.cells.items (g.D.Deps.seen c.args.self.now.deps) (g.D.Deps.seen c.is_still.new.deps) c.is_still.ensures.same
