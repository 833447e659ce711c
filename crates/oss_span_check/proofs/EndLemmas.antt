-- The last act of a task that has ended is its end.
use Rattle.std.proofs.Common.{◌≡◌, ℕ, suc, refl, sym, subst, ap, ◌∙◌, List, [], ◌∷◌, length, Bool, true, false, arith}
use Rattle.oss_model.specs.Bodies.{Program, Act, Frame, Start, base_after, inner_after, settled_parts, stack_after, stack_act, stack_from, stage_act, stage_created, act_of}
use Rattle.oss_model.specs.Bodies.Act.{Created, Awaited, Waited, WaitedOn, Over, Ticked, Load, Store, Folded, Releases, Printed, Ended, Fault}
use Rattle.oss_model.specs.Context.{right_of}
use Rattle.oss_model.specs.Machine.{State}
use Rattle.oss_model.specs.Order.{IsSuffix, whole}
use Rattle.oss_chain_laws.specs.Happenings.{Does, EndsWith}

ends_base : {S : Type 0} (a : Act S) (v : ℕ) (base : Frame S) → (base_after a v base).ended ≡ true → a ≡ Ended
ends_base Ended v base e = refl
ends_base (Created o true) v base e = cc
ends_base (Created o false) v base e = cc
ends_base Ticked v base e = cc
ends_base (Load c) v base e = cc
ends_base (Store c w) v base e = cc
ends_base (Folded c op w b) v base e = cc
ends_base Awaited v base e = cc
ends_base Waited v base e = cc
ends_base (WaitedOn named) v base e = cc
ends_base (Releases clauses b) v base e = cc
ends_base (Printed key text) v base e = cc
ends_base (Fault kind line key) v base e = cc
ends_base Over v base e = cc

ends_inner : {S : Type 0} (a : Act S) (v : ℕ) (base f : Frame S) (fs : List (Frame S)) → (inner_after a v base f fs).ended ≡ true → ⊥
ends_inner Ended v base f fs e = cc
ends_inner (Created o b) v base f fs e = cc
ends_inner Ticked v base f fs e = cc
ends_inner (Load c) v base f fs e = cc
ends_inner (Store c w) v base f fs e = cc
ends_inner (Folded c op w b) v base f fs e = cc
ends_inner Awaited v base f fs e = cc
ends_inner Waited v base f fs e = cc
ends_inner (WaitedOn named) v base f fs e = cc
ends_inner (Releases clauses b) v base f fs e = cc
ends_inner (Printed key text) v base f fs e = cc
ends_inner (Fault kind line key) v base f fs e = cc
ends_inner Over v base f fs e = cc

ends_by : {S : Type 0} (a : Act S) (v : ℕ) (base : Frame S) (inner : List (Frame S)) → (stack_after a v base inner).ended ≡ true → a ≡ Ended
ends_by a v base [] e = ends_base a v base e
ends_by a v base (f ∷ fs) e = absurd (ends_inner a v base f fs e)

module _ {S : Type 0} (P : Program S) where
  settled_end : (base : Frame S) (inner : List (Frame S)) (over : Bool) → (settled_parts P base inner over).ended ≡ over
  settled_end base [] over = refl
  settled_end base (f ∷ fs) over = refl

  last_ends : (b : Start S) (v : ℕ) (vs : List ℕ) → (stack_from P b (v ∷ vs)).ended ≡ true → stage_act P b vs ≡ Ended
  unfolding stack_from stage_act act_of
  last_ends b v vs e =
      let s = stack_from P b vs in
      let a = stack_act P (right_of b.context) s.base s.inner s.ended in
      let n = stack_after a v s.base s.inner in
      ends_by a v s.base s.inner (sym (settled_end n.base n.inner n.ended) ∙ e)

  pub end_act : (s : State S) {p : List ℕ} {n : ℕ} → EndsWith P s p n → (k : ℕ) × Does P s p n k Ended
  end_act s {p = p} {n = n} d = go d.task.body.found refl
    where
      go : (found : List ℕ) → d.task.body.found ≡ found → (k : ℕ) × Does P s p n k Ended
      go [] e = let l = d.number_is in let q : length d.task.body.found ≡ 0 = ap (λ (f : List ℕ). length f) e in absurd (omega (arith, l, q))
      go (v ∷ past) e = (
        stage_created P d.task.body.start past,
        record {
          task = d.task;
          at_ = d.at_;
          past = past;
          answer = v;
          done_ = subst (λ (z : List ℕ). IsSuffix (v ∷ past) z) (sym e) whole;
          number_is = (let l = d.number_is in let q : length d.task.body.found ≡ suc (length past) = ap (λ (f : List ℕ). length f) e in omega (arith, l, q));
          created_is = refl;
          act_is = last_ends d.task.body.start v past (ap (λ (f : List ℕ). (stack_from P d.task.body.start f).ended) (sym e) ∙ d.ended);
        },
      )
