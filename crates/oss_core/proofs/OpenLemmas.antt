-- A creation that the judge passes may be opened: the creator's accesses cover those of the new task.
use Rattle.std.proofs.Common.{◌≡◌, ℕ, sym, subst, ap, ◌∙◌, List, ◌⊎◌, inl, inr, Bool, true, false, Some, None}
use Rattle.std.specs.Prelude.{slice_get}
use Rattle.oss_syntax.specs.declared.access.Mode.{Mode}
use Rattle.oss_model.specs.Order.{IsIn}
use Rattle.oss_model.specs.Rights.{Right, Released, Holds, covers}
use Rattle.oss_model.specs.Context.{right_of}
use Rattle.oss_model.specs.Bodies.{Order, Program, Start, Body, stack_from, stage_act, child_start}
use Rattle.oss_model.specs.Bodies.Act.{Created}
use Rattle.oss_model.specs.Moves.{act_now, new_task}
use Rattle.oss_model.proofs.JudgeLemmas.{Covered}
use Rattle.oss_model.proofs.BodyLemmas.{stack_ok}
use Rattle.oss_model.proofs.StageLemmas.{creating}
use Rattle.oss_deps.specs.declared.opened.Open.{Open}
use Rattle.oss_deps.specs.Opens.{names, mode_of_access, HasCover, IsKnown, IsOnce}
use Rattle.oss_core.specs.Below.{MayOpen}
use Rattle.oss_core.proofs.EntryLemmas.{named_at}
use Rattle.oss_core.specs.Standing.{AreRightsOf, AreTasks}
use Rattle.oss_core.proofs.KeepLemmas.{some_is}
use Rattle.oss_core.proofs.GrowLemmas.{none_some}
use Rattle.oss_core.proofs.MatchLemmas.{named_has}

held : {x now : Right} {m : Mode} {strong : Bool} → (now ≡ x) ⊎ (now ≡ Released) → now ≡ Holds m strong → x ≡ Holds m strong
held (inl e) h = sym e ∙ h
held (inr e) h = cc

-- the creator's right from its start covers each access of the new task
covered_now : {S : Type 0} (P : Program S) (b : Start S) (past : List ℕ) (o : Order S) → stage_act P b past ≡ Created o false → (c : ℕ) (m : Mode) (strong : Bool)
    → right_of (child_start (stack_from P b past).base o).context c ≡ Holds m strong → Covered (right_of b.context c) m
unfolding child_start
covered_now P b past o a c m strong h =
    let v = (creating P b past o a).covered c m strong h in
    record { mode = v.mode; strong = v.strong; holds = held ((stack_ok P b past).right c) v.holds; covers = v.covers }

pub may_open : {S B : Type 0} (P : Program S) (body : B → Body S) (bodies : List B) (list : List Open) → AreTasks body bodies list → (v : ℕ) (one : B) → slice_get bodies v ≡ Some one → (o : Order S) → act_now P (body one) ≡ Created o false
    → (child : Body S) → child ≡ (new_task P (body one) o).body → (entry : Open) → slice_get bodies entry.task ≡ None → entry.parent ≡ v → AreRightsOf entry.accesses child.start.context → IsOnce entry.accesses → MayOpen list entry
may_open {S = S} {B = B} P body bodies list tasks v one is o a child child_is entry fresh parent rights once =
    record {
      not_main = λ z. none_some fresh (ap (λ (w : ℕ). slice_get bodies w) z ∙ tasks.main.is);
      fresh = λ k. let l = tasks.linked k.entry k.listed in none_some fresh (ap (λ (w : ℕ). slice_get bodies w) (sym k.number) ∙ l.task_is);
      parent = subst (λ (w : ℕ). IsKnown list w) (sym parent) (known (tasks.opened v one is));
      covered = λ c n. covered c n (tasks.opened v one is);
      once = once;
    }
  where
    known : (v ≡ 0) ⊎ ((q : Open) × IsIn q list × (q.task ≡ v)) → IsKnown list v
    known (inl z) = inl z
    known (inr (q, i, e)) = inr (record { entry = q; listed = i; number = e })

    covered : (c : ℕ) → names c entry ≡ true → (v ≡ 0) ⊎ ((q : Open) × IsIn q list × (q.task ≡ v)) → (entry.parent ≡ 0) ⊎ HasCover list c entry
    covered c n (inl z) = inl (parent ∙ z)
    covered c n (inr (q, i, e)) =
        let x = named_has entry c n in
        let h = ap (λ (y : Body S). right_of y.start.context c) (sym child_is) ∙ rights.held c x.0 x.1 in
        let k = covered_now P (body one).start (body one).found o a c x.0.mode x.0.strong h in
        let l = tasks.linked q i in
        let same : one ≡ l.task = some_is (sym is ∙ ap (λ (w : ℕ). slice_get bodies w) (sym e) ∙ l.task_is) in
        let g = l.rights.given c k.mode k.strong (ap (λ (b : B). right_of (body b).start.context c) (sym same) ∙ k.holds) in
        inr (record {
          above = record { entry = q; listed = i; number = e ∙ sym parent; named = named_at q c g.0 g.1 };
          covered = (λ j. covers (mode_of_access (g.1 j)) (mode_of_access (x.1 j))) ∙ ap (λ (m : Mode). covers m x.0.mode) g.2 ∙ k.covers;
        })
