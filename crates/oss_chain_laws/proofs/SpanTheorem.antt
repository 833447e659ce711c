-- The end of the sequential run: each task of an earlier stage is there and has gone on, main runs, and each task has ended.
use Rattle.std.proofs.Common.{◌≡◌, ◌≢◌, ℕ, ◌⊎◌, inl, inr, refl, sym, subst, ap, ◌∙◌, List, [], ◌∷◌, length, true, false}
use Rattle.oss_model.specs.Order.{IsSuffix, whole}
use Rattle.oss_model.specs.Bodies.{Program, Start, stack_from}
use Rattle.oss_model.specs.Bodies.Act.{Over}
use Rattle.oss_model.specs.Machine.{Task, State, At}
use Rattle.oss_model.specs.Moves.{act_now, is_ended, after_answer, found_by}
use Rattle.oss_model.specs.History.{IsMade}
use Rattle.oss_model.specs.Agreement.{MainStarts}
use Rattle.oss_model.specs.Sequence.{Running, RunsOn, Sequential, IsAtEnd}
use Rattle.oss_model.proofs.StageLemmas.{start_goes_on}
use Rattle.oss_model.proofs.OrderLemmas.{suffix_drop}
use Rattle.oss_model.proofs.TreeLemmas.{at_same}
use Rattle.oss_model.proofs.MoveLemmas.{others_forth, which_path}
use Rattle.oss_model.proofs.ProgressTheorem.{not_over}
use Rattle.oss_model.proofs.SequenceLemmas.{Stands, stands}
use Rattle.oss_chain_laws.specs.Happenings.{Happening, EndsWith}
use Rattle.oss_chain_laws.proofs.PassLemmas.{bools}
use Rattle.oss_chain_laws.proofs.RunTheorem.{Extends}

module _ {S : Type 0} (P : Program S) (main : Start S) (cells : List ℕ) (ms : MainStarts main) (s : State S) (made : IsMade P main s) (weight : Happening → ℕ) where
  pub extends_before : (x y : Running S) → Stands P main x → RunsOn P x y → Extends y.state s → Extends x.state s
  extends_before x y st r ex = record { grown = λ q u h. go q u h (which_path q x.active) }
    where
      own : (u : Task S) → u ≡ r.task → (w : Task S) × At s x.active w × (w.body.start ≡ u.body.start) × IsSuffix u.body.found w.body.found
      own u e = let g = ex.grown x.active (after_answer (found_by (act_now P r.task.body) x.state.cells) r.task) r.tasks.own in (g.0, g.1, g.2 ∙ ap (λ (t : Task S). t.body.start) (sym e), subst (λ (t : Task S). IsSuffix t.body.found g.0.body.found) (sym e) (suffix_drop g.3))

      go : (q : List ℕ) (u : Task S) → At x.state q u → (q ≡ x.active) ⊎ (q ≢ x.active) → (w : Task S) × At s q w × (w.body.start ≡ u.body.start) × IsSuffix u.body.found w.body.found
      go q u h (inl e) =
          let k = subst (λ (p : List ℕ). At x.state p u) e h in
          let g = own u (at_same x.state x.active u r.task k r.at_) in
          (g.0, subst (λ (p : List ℕ). At s p g.0) (sym e) g.1, g.2, g.3)
      go q u h (inr ne) = ex.grown q u (others_forth P main x.state y.state x.active r.task (found_by (act_now P r.task.body) x.state.cells) st.made r.at_ r.goes r.tasks q u ne h)

module _ {S : Type 0} (P : Program S) (main : Start S) (cells : List ℕ) (ms : MainStarts main) (z : Running S) (run : Sequential P main cells z) (end_ : IsAtEnd P z) (over : act_now P end_.task.body ≡ Over) (weight : Happening → ℕ) where
  st : Stands P main z
  st = stands P main cells ms z run

  -- main runs, and has ended
  pub main_runs : z.active ≡ []
  main_runs = go (which_path z.active [])
    where
      go : (z.active ≡ []) ⊎ (z.active ≢ []) → z.active ≡ []
      go (inl e) = e
      go (inr ne) = absurd (not_over P end_.task.body (st.alive end_.task end_.at_ ne) over)

  pub main_ended : is_ended P end_.task.body ≡ true
  main_ended = go (bools (is_ended P end_.task.body))
    where
      go : (is_ended P end_.task.body ≡ true) ⊎ (is_ended P end_.task.body ≡ false) → is_ended P end_.task.body ≡ true
      go (inl e) = e
      go (inr e) = absurd (not_over P end_.task.body e over)

  ended_act : (p : List ℕ) (u : Task S) → At z.state p u → is_ended P u.body ≡ true → (n : ℕ) × EndsWith P z.state p n
  ended_act p u h e = go u.body.found refl
    where
      go : (found : List ℕ) → u.body.found ≡ found → (n : ℕ) × EndsWith P z.state p n
      go [] q =
          let a = start_goes_on P u.body.start in
          let b : (stack_from P u.body.start []).ended ≡ true = subst (λ (f : List ℕ). (stack_from P u.body.start f).ended ≡ true) q e in
          cc
      go (v ∷ past) q = (length past, record { task = u; at_ = h; ended = e; number_is = ap (λ (f : List ℕ). length f) q })

  nil_only : (q : List ℕ) → IsSuffix q [] → q ≡ []
  nil_only q whole = refl

  pub all_ended : (p : List ℕ) (u : Task S) → At z.state p u → (n : ℕ) × EndsWith P z.state p n
  all_ended p u h = go (st.others p u h)
    where
      go : IsSuffix p z.active ⊎ (is_ended P u.body ≡ true) → (n : ℕ) × EndsWith P z.state p n
      go (inr e) = ended_act p u h e
      go (inl k) =
          let q = nil_only p (subst (λ (x : List ℕ). IsSuffix p x) main_runs k) in
          let i : u ≡ end_.task = at_same z.state z.active u end_.task (subst (λ (x : List ℕ). At z.state x u) (q ∙ sym main_runs) h) end_.at_ in
          ended_act p u h (subst (λ (t : Task S). is_ended P t.body ≡ true) (sym i) main_ended)
