-- What has happened in the state behind one act of the sequential run.
use Rattle.std.proofs.Common.{◌≡◌, ◌⊎◌, inl, inr, refl, sym, subst, ap, ◌∙◌, ℕ, List, length, arith}
use Rattle.oss_model.specs.Agreement.{MainStarts}
use Rattle.oss_model.specs.Bodies.{Act, Program, Start, stage_act, stage_created}
use Rattle.oss_model.specs.History.{IsMade}
use Rattle.oss_model.specs.Machine.{At, State, Task}
use Rattle.oss_model.specs.Memory.{Event, Happened}
use Rattle.oss_model.specs.Moves.{act_now, created_now}
use Rattle.oss_model.specs.Order.{whole}
use Rattle.oss_model.specs.Sequence.{Running, RunsOn}
use Rattle.oss_model.proofs.OrderLemmas.{suffix_length, suffix_trans}
use Rattle.oss_model.proofs.SequenceLemmas.{Stands, event_back, seq_event, seq_made}
use Rattle.oss_model.proofs.TreeLemmas.{at_same, path_found}
use Rattle.oss_chain_laws.specs.Happenings.{Does}
use Rattle.oss_chain_laws.proofs.RunTheorem.{Extends}
use Rattle.oss_chain_laws.proofs.SpanTheorem.{extends_before}
use Rattle.oss_chain_laws.proofs.StageTheorem.{does as now_does}

-- what is done stays done
pub does_on : {S : Type 0} (P : Program S) (x s : State S) → Extends x s → {p : List ℕ} {n k : ℕ} {a : Act S} → Does P x p n k a → Does P s p n k a
does_on P x s ex {p = p} d =
    let g = ex.grown p d.task d.at_ in
    record {
      task = g.0;
      at_ = g.1;
      past = d.past;
      answer = d.answer;
      done_ = suffix_trans d.done_ g.3;
      number_is = d.number_is;
      created_is = ap (λ (b : Start _). stage_created P b d.past) g.2 ∙ d.created_is;
      act_is = ap (λ (b : Start _). stage_act P b d.past) g.2 ∙ d.act_is;
    }

module _ {S : Type 0} (P : Program S) (main : Start S) (cells : List ℕ) (ms : MainStarts main) (z y : Running S) (st : Stands P main z) (r : RunsOn P z y) where
  pub made_next : IsMade P main y.state
  made_next = seq_made P main z y ms st r

  pub grows : Extends z.state y.state
  grows = extends_before P main cells ms y.state made_next (λ e. 0) z y st r (record { grown = λ q u h. (u, h, refl, whole) })

  -- the act of this turn
  pub does_now : Does P y.state z.active (length r.task.body.found) (created_now P r.task.body) (act_now P r.task.body)
  does_now = now_does P main y.state made_next (λ e. 0) z y st r (record { grown = λ q u h. (u, h, refl, whole) })

  -- an act of the state behind it is one of the state before, or the act of this turn
  pub record IsNow (p : List ℕ) (n : ℕ) (a : Act S) : Type 0 where
    pub path : p ≡ z.active
    pub number : n ≡ length r.task.body.found
    pub act : a ≡ act_now P r.task.body

  pub does_back : {p : List ℕ} {n k : ℕ} {a : Act S} → Does P y.state p n k a → Does P z.state p n k a ⊎ IsNow p n a
  does_back {p = p} {n = n} {k = k} {a = a} d = go (event_back P main z y ms st r event (record { task = d.task; at_ = subst (λ (q : List ℕ). At y.state q d.task) (sym path) d.at_; start = refl; found = d.done_ }))
    where
      event : Event S
      event = record { start = d.task.body.start; past = d.past; answer = d.answer }

      path : d.task.body.start.path ≡ p
      path = path_found y.state.tasks p d.task d.at_

      path_t : r.task.body.start.path ≡ z.active
      path_t = path_found z.state.tasks z.active r.task r.at_

      go : Happened z.state event ⊎ (event ≡ seq_event P main z y ms st r) → Does P z.state p n k a ⊎ IsNow p n a
      go (inl h) = inl (record {
        task = h.task;
        at_ = subst (λ (q : List ℕ). At z.state q h.task) path h.at_;
        past = d.past;
        answer = d.answer;
        done_ = h.found;
        number_is = d.number_is;
        created_is = ap (λ (b : Start S). stage_created P b d.past) h.start ∙ d.created_is;
        act_is = ap (λ (b : Start S). stage_act P b d.past) h.start ∙ d.act_is;
      })
      go (inr e) = inr (record {
        path = sym path ∙ (ap (λ (x : Event S). x.start.path) e ∙ path_t);
        number = sym d.number_is ∙ ap (λ (x : Event S). length x.past) e;
        act = sym d.act_is ∙ ap (λ (x : Event S). stage_act P x.start x.past) e;
      })

  -- the act of this turn was not done before
  pub not_before : {k : ℕ} {a : Act S} → Does P z.state z.active (length r.task.body.found) k a → ⊥
  not_before d =
      let l = suffix_length d.done_ in
      let e : length d.task.body.found ≡ length r.task.body.found = ap (λ (t : Task S). length t.body.found) (at_same z.state z.active d.task r.task d.at_ r.at_) in
      let i = d.number_is in
      omega (arith, l, e, i)
