-- For which other task a task waits, by what the calls find.
use Rattle.std.proofs.Common.{◌≡◌, ℕ, ◌⊎◌, inr, refl, sym, subst, ◌↔◌, List, Bool, true, false, Option, Some, None}
use Rattle.std.specs.Prelude.{IsTrue, MatchOption, slice_get}
use Rattle.oss_syntax.specs.declared.access.Range.{Range}
use Rattle.oss_model.specs.Context.{in_clauses}
use Rattle.oss_model.specs.declared.task_no.TaskNo.{TaskNo}
use Rattle.oss_meaning.specs.Clauses.{waited_for}
use Rattle.oss_meaning.specs.Sections.{declared_on}
use Rattle.oss_body.specs.declared.act.Act.{Act}
use Rattle.oss_body.specs.declared.act.Act.TheVariants as acts
use Rattle.oss_body.specs.declared.body.Body.{Body}
use Rattle.oss_body.specs.Acts.{goes_on}
use Rattle.oss_body.specs.Relation.{has_begun, is_over, pending_of}
use Rattle.oss_tree.specs.declared.task.Task.{Task as TreeTask}
use Rattle.oss_tree.specs.Tasks.{AreChildrenComplete, IsFirstUnfinished}
use Rattle.oss_deps.specs.declared.opened.Open.{Open}
use Rattle.oss_deps.specs.Hindrances.{HasUndoneChild, Hinders}
use Rattle.oss_deps.specs.Opens.{AreChildrenDone, IsMet}
use Rattle.oss_deps.specs.Seen.{IsSame, Seen}
use Rattle.oss_enabled_moves.specs.Enabled.{IsActMet, IsNewestComplete}
use Rattle.oss_enabled_moves.specs.Reasons as reasons
use Rattle.oss_enabled_moves.specs.Reasons.{IsReason}
use Rattle.oss_enabled_moves.specs.Hindering as hindering
use Rattle.oss_enabled_moves.specs.Hindering.{GoesFree, HasUndoneIn, IsAwaited, IsBarred, IsHeldBack, IsNewestOpen}
use Rattle.oss_enabled_moves.proofs.CallLemmas.{given_is, in_list, seen_is}

-- a child that is not done, in a system that is seen alike
undone_same : (a b : Seen) → IsSame a b → (v lo hi u : ℕ) → HasUndoneChild b.opens b.given v lo hi u → HasUndoneChild a.opens a.given v lo hi u
undone_same a b same v lo hi u h =
    subst (λ (os : List Open). HasUndoneChild os a.given v lo hi u) same.opens (subst (λ (g : ℕ → ℕ → Bool). HasUndoneChild b.opens g v lo hi u) (given_is a b same) h)

-- the same at a place of the ranges
pub undone_at : (seen now : Seen) → IsSame seen now → (v : ℕ) (ranges : List Range) (i : ℕ) (r : Range) → slice_get ranges i ≡ Some r → (u : ℕ) → HasUndoneChild now.opens now.given v r.lo r.hi u → HasUndoneIn seen v ranges u
undone_at seen now same v ranges i r e u h = record { one = r; listed = in_list ranges i r e; child = undone_same seen now same v r.lo r.hi u h }

-- what an act waits for, by its kind

pub await_told : (tree : List TreeTask) (seen : Seen) (v : ℕ) (act : Act) → act ≡ acts.Await → (r : Option TaskNo) → MatchOption r (IsNewestComplete tree v) (λ u. IsNewestOpen tree v u.0) → MatchOption r (IsActMet tree seen v act) (λ u. IsAwaited tree seen v act u.0)
await_told tree seen v act e None h = subst (λ (a : Act). IsActMet tree seen v a) (sym e) h
await_told tree seen v act e (Some u) h = hindering.newest e h

pub wait_told : (tree : List TreeTask) (seen : Seen) (v : ℕ) (act : Act) → act ≡ acts.Wait → (r : Option TaskNo) → MatchOption r (AreChildrenComplete tree v) (λ u. IsFirstUnfinished tree v u.0) → MatchOption r (IsActMet tree seen v act) (λ u. IsAwaited tree seen v act u.0)
wait_told tree seen v act e None h = subst (λ (a : Act). IsActMet tree seen v a) (sym e) h
wait_told tree seen v act e (Some u) h = hindering.child e (record { creator = h.creator; at_ = h.at_; place = h.place; is = h.is }) h.left

pub ranges_told : (tree : List TreeTask) (seen : Seen) (v : ℕ) (act : Act) (ranges : List Range) → act ≡ acts.WaitOn ranges → (r : Option TaskNo)
    → MatchOption r ((c : ℕ) → in_clauses (declared_on waited_for ranges) c ≡ true → AreChildrenDone seen.opens seen.given v c) (λ u. HasUndoneIn seen v ranges u.0) → MatchOption r (IsActMet tree seen v act) (λ u. IsAwaited tree seen v act u.0)
ranges_told tree seen v act ranges e None h = subst (λ (a : Act). IsActMet tree seen v a) (sym e) h
ranges_told tree seen v act ranges e (Some u) h = hindering.use_ ranges e h

-- an act that is no fault goes on
pub goes_is : (fault : Bool) (act : Act) → (IsTrue fault ↔ (goes_on act ≡ false)) → fault ≡ false → goes_on act ≡ true
goes_is fault act is none = go (goes_on act) refl
  where
    go : (b : Bool) → goes_on act ≡ b → goes_on act ≡ true
    go true e = e
    go false e = let t = is.1 e in absurd cc

-- an access stands in the way of a task that has not begun
pub obstacle_told : (b : Body) (seen : Seen) (v : ℕ) → has_begun b ≡ false → (v ≡ 0 → ⊥) → (r : Option TaskNo) → MatchOption r (IsMet seen.opens seen.given v) (λ u. Hinders seen.opens seen.given v u.0)
    → MatchOption r (has_begun b ≡ false → (v ≡ 0) ⊎ IsMet seen.opens seen.given v) (λ u. IsBarred b seen v u.0)
obstacle_told b seen v begun main None h = λ e. inr h
obstacle_told b seen v begun main (Some u) h = record { begun = begun; not_main = main; hinders = h }

pub barred_back : (b : Body) (tree : List TreeTask) (seen : Seen) (v u : ℕ) → is_over b ≡ false → goes_on (pending_of b) ≡ true → IsBarred b seen v u → IsHeldBack b tree seen v u
barred_back b tree seen v u running goes h = record { running = running; goes = goes; reason = reasons.access h.begun h.not_main h.hinders }

-- and where none does, its act may wait for a task
pub act_back : (b : Body) (tree : List TreeTask) (seen now : Seen) (v : ℕ) → IsSame seen now → is_over b ≡ false → goes_on (pending_of b) ≡ true → (has_begun b ≡ false → (v ≡ 0) ⊎ IsMet seen.opens seen.given v) → (r : Option TaskNo)
    → MatchOption r (IsActMet tree now v (pending_of b)) (λ u. IsAwaited tree now v (pending_of b) u.0) → MatchOption r (GoesFree b tree seen v) (λ u. IsHeldBack b tree seen v u.0)
act_back b tree seen now v same running goes met None h =
    hindering.steps (record { running = running; goes = goes; met = met; waits = subst (λ (s : Seen). IsActMet tree s v (pending_of b)) (seen_is seen now same) h })
act_back b tree seen now v same running goes met (Some u) h = record { running = running; goes = goes; reason = reason (subst (λ (s : Seen). IsAwaited tree s v (pending_of b) u.0) (seen_is seen now same) h) }
  where
    reason : IsAwaited tree seen v (pending_of b) u.0 → IsReason tree seen v b u.0
    reason (hindering.newest e n) = reasons.newest e n.newest n.left
    reason (hindering.child e c left) = reasons.child e c left
    reason (hindering.use_ ranges e x) = reasons.use_ ranges x.one e x.listed x.child
