-- Touches of the sequential run that conflict with a later one are done before it.
use Rattle.std.proofs.Common.{◌≡◌, ℕ, ◌⊎◌, inl, inr, refl, sym, subst, ap, ◌∙◌, Bool, true}
use Rattle.oss_syntax.specs.declared.access.Mode.{Mode}
use Rattle.oss_syntax.specs.declared.access.Mode.TheVariants.{Fold}
use Rattle.oss_model.specs.Order.{IsIn}
use Rattle.oss_model.specs.Rights.{Holds, Touch}
use Rattle.oss_model.specs.Context.{right_of}
use Rattle.oss_model.specs.Bodies.{Program, Start}
use Rattle.oss_model.specs.Machine.{Task, State, IsReady}
use Rattle.oss_model.specs.History.{IsMade, IsStarted}
use Rattle.oss_model.specs.Memory.{Event, Happened, DoneTouch}
use Rattle.oss_model.specs.Agreement.{MainStarts, Compatible}
use Rattle.oss_model.specs.Claims.{EarlierConflictsAreDone}
use Rattle.oss_model.proofs.Places.{IsEarlierPlace}
use Rattle.oss_model.proofs.OrderLemmas.{suffix_drop}
use Rattle.oss_model.proofs.StageLemmas.{StartsWell, stage_touch}
use Rattle.oss_model.proofs.TreeLemmas.{at_same, starts_well}
use Rattle.oss_model.proofs.OrderTheorem.{TouchIn, Granted, Concluded, in_order}
use Rattle.oss_model.proofs.MemoryLemmas.{fold_mode}
use Rattle.oss_model.proofs.SequenceLemmas.{stands}
use Rattle.oss_model.proofs.LoadTheorem.{in_or_beyond}
use Rattle.oss_model.proofs.KeyOrder.{key_place}

-- a done touch is one that is granted
granted_touch : {S : Type 0} (P : Program S) (main : Start S) (x s : State S) (ms : MainStarts main) (xm : IsMade P main x) (sm : IsMade P main s) (st : IsStarted P s) (comp : Compatible x s) (c : ℕ) (g : Event S) (u : Touch) (slot : Bool) → DoneTouch P s c g u slot
    → Granted P main x s ms xm sm st comp g c u slot
granted_touch {S = S} P main x s ms xm sm st comp c g u slot d =
    let h = d.happened in
    record {
      task = h.task;
      at_ = h.at_;
      start = h.start;
      stage = suffix_drop h.found;
      touches = d.touches;
      direct = λ e. subst (λ (z : Start S). IsReady s g.start.path z.context) h.start (st.ready g.start.path h.task g.answer g.past h.at_ h.found);
      joined = λ op e f.
          let w : StartsWell g.start.context = subst (λ (z : Start S). StartsWell z.context) h.start (starts_well P main s ms sm g.start.path h.task h.at_).0 in
          let t = stage_touch P g.start g.past c u slot w d.touches in
          let r : right_of h.task.body.start.context c ≡ Holds (Fold op) true = subst (λ (z : Start S). right_of z.context c ≡ Holds (Fold op) true) (sym h.start) (t.holds ∙ ap (λ (z : Mode). Holds z true) (fold_mode t.mode u slot op t.permits e f)) in
          st.joined g.start.path h.task c op h.at_ r (d.joined f);
    }

pub earlier_conflicts_are_done : (S : Type 0) → EarlierConflictsAreDone S
earlier_conflicts_are_done S P main cells z s e g c a b slot other set_ run agrees he te d k l = conclude (in_order P main z.state s set_.starts zm agrees.made agrees.started agrees.same e g c a b slot other tin gr k (placed_order (in_or_beyond P main cells z s set_.starts set_.memory run agrees.made agrees.same g.start.path g refl d.happened)))
  where
    zm : IsMade P main z.state
    zm = (stands P main cells set_.starts z run).made

    tin : TouchIn P main z.state s set_.starts zm agrees.made agrees.started agrees.same e c a slot
    tin = record { task = he.task; at_ = he.at_; start = he.start; found = he.found; touches = te }

    gr : Granted P main z.state s set_.starts zm agrees.made agrees.started agrees.same g c b other
    gr = granted_touch P main z.state s set_.starts zm agrees.made agrees.started agrees.same c g b other d

    placed_order : Happened z.state g ⊎ ((f : Event S) → Happened z.state f → IsEarlierPlace P f g) → IsEarlierPlace P e g
    placed_order (inl h) = key_place P main z.state zm e g he h l
    placed_order (inr f) = f e he

    conclude : Concluded P main z.state s set_.starts zm agrees.made agrees.started agrees.same e c slot → DoneTouch P s c e a slot
    conclude r =
        record {
          touches = te;
          happened = r.happened;
          joined = λ q. let h = r.given q in subst (λ (x : Task S). IsIn c x.given) (at_same s e.start.path h.task r.happened.task h.at_ r.happened.at_) h.given;
        }
