-- A job that was taken is one that its seat works with.
use Rattle.std.proofs.Common.{◌≡◌, ◌≢◌, refl, sym, subst, ap, ◌∙◌, ℕ, zero, suc, Bool, List, [], ◌∷◌, length, Option, Some, None}
use Rattle.std.specs.Global.{Box}
use Rattle.std.specs.Prelude.{IfNone, IfSome, box_value}
use Rattle.oss_body.specs.Mains.{code_main}
use Rattle.oss_code.specs.declared.code.CodeParts.{CodeParts}
use Rattle.oss_jobs.specs.declared.job.Job.{Job}
use Rattle.oss_jobs.specs.Jobs.{IsJob}
use Rattle.oss_machine.specs.Frames.{CodeScript}
use Rattle.oss_machine.specs.Machines.{asks}
use Rattle.oss_model.specs.Agreement.{Setting}
use Rattle.oss_model.specs.Bodies.{Body}
use Rattle.oss_model.specs.Context.{right_of}
use Rattle.oss_model.specs.Machine.{Task}
use Rattle.oss_model.specs.Rights.{Holds}
use Rattle.oss_model.proofs.RecallLemmas.{right_in_memory}
use Rattle.oss_model.proofs.TreeLemmas.{path_found}
use Rattle.oss_syntax.specs.declared.access.Mode.{Mode}
use Rattle.oss_words.specs.Views.{Among}
use Rattle.oss_words.proofs.SeatLemmas.{among_none}
use Rattle.oss_roles.specs.Passing.{still_there}
use Rattle.oss_roles.specs.Sights.{Making}
use Rattle.oss_roles.proofs.MoveLaw.{agrees}
use Rattle.oss_field.specs.Known.{Holding, Known, last_of}
use Rattle.oss_field.specs.Taking.{IsMissing, IsPut, IsTaken, MayPut, after_count, after_take, is_out, is_waiting}
use Rattle.oss_field.proofs.DepthLemmas.{path_depth}
use Rattle.oss_acts.specs.Working.{IsOfProgram, Rests, Works}

of_program : (code : CodeParts) (fuel t : ℕ) (job : Job) (h : Holding) → Setting (code_main code fuel) code.first → IsTaken code fuel t job h → IsOfProgram code h.body
of_program code fuel t job h setting_ taken =
    let made = (agrees (asks code) (code_main code fuel) code.first taken.state setting_ taken.reached).made in record {
      inside = λ c mode strong right. right_in_memory (asks code) (code_main code fuel) taken.state code.first c h.path mode made setting_.memory (record {
        task = taken.task;
        at_ = taken.at_;
        strong = strong;
        right = ap (λ (b : Body CodeScript). right_of b.start.context c) taken.body ∙ right;
      });
      depth =
          ap (λ (b : Body CodeScript). b.start.context.depth) (sym taken.body)
          ∙ (path_depth (asks code) (code_main code fuel) taken.state made refl h.path taken.task taken.at_
          ∙ ap (λ (p : List ℕ). length p) (sym (path_found taken.state.tasks h.path taken.task taken.at_) ∙ ap (λ (b : Body CodeScript). b.start.path) taken.body));
    }

-- after the read of a count the seat has as much work as before
counted_rests : (m t n : ℕ) (k : Known) → Rests k → Rests (after_count m t n k)
counted_rests m t zero k r = record { bears = r.bears; makes = r.makes; plans = r.plans; unlinked = r.unlinked }
counted_rests m t (suc n) k r = record { bears = r.bears; makes = r.makes; plans = r.plans; unlinked = r.unlinked }

counted_failed : (m t n : ℕ) (k : Known) → (after_count m t n k).words.failed ≡ k.words.failed
counted_failed m t zero k = refl
counted_failed m t (suc n) k = refl

taken_works : (code : CodeParts) (fuel t m : ℕ) (job : Job) (h : Holding) (k l : Known) → Setting (code_main code fuel) code.first → IsTaken code fuel t job h → Rests k → l ≡ after_take m t h (after_count m t 0 k) → Works code job h.body l
taken_works code fuel t m job h k l setting_ taken r known = subst (λ (z : Known). Works code job h.body z) (sym known) (record {
  holding = h;
  bears = ap (λ (z : List Holding). h ∷ z) r.bears;
  given = record { holds = refl; may = still_there; is = subst (λ (z : ℕ). IsJob code h.before job z h.body (last_of h)) (sym taken.number) taken.is };
  of_program = of_program code fuel t job h setting_ taken;
  makes = r.makes;
  plans = r.plans;
  unlinked = r.unlinked;
})

abbrev pub IsSome : CodeParts → ℕ → ℕ → Known → Known → Option (Box Job) → Type 0
IsSome code fuel t k l found = IfSome found (λ job. (h : Holding) × IsTaken code fuel t (box_value job) h × (l ≡ after_take (length code.first) t h (after_count (length code.first) t 0 k)))

pub some_works : (code : CodeParts) (fuel t : ℕ) (found : Option (Box Job)) (k l : Known) → Setting (code_main code fuel) code.first → Rests k → IsSome code fuel t k l found
    → IfSome found (λ job. (x : Body CodeScript) × Works code (box_value job) x l)
some_works code fuel t (Some job) k l setting_ r some = (some.0.body, taken_works code fuel t (length code.first) (box_value job) some.0 k l setting_ some.1 r some.2)
some_works code fuel t None k l setting_ r some = tt

missing_rests : (m t : ℕ) (k l : Known) → Rests k → IsMissing m t k l → Rests l
missing_rests m t k l r (is_waiting n ne known) = subst (λ (z : Known). Rests z) (sym known) (counted_rests m t n k r)
missing_rests m t k l r (is_out n ne known) = subst (λ (z : Known). Rests z) (sym known) (record { bears = r.bears; makes = r.makes; plans = r.plans; unlinked = r.unlinked })

missing_failed : (m t : ℕ) (k l : Known) → IsMissing m t k l → l.words.failed ≡ k.words.failed
missing_failed m t k l (is_waiting n ne known) = ap (λ (z : Known). z.words.failed) known ∙ counted_failed m t n k
missing_failed m t k l (is_out n ne known) = ap (λ (z : Known). z.words.failed) known

pub none_rests : (m t : ℕ) (found : Option (Box Job)) (k l : Known) → Rests k → IfNone found (IsMissing m t k l) → IfNone found (Rests l)
none_rests m t (Some job) k l r none = tt
none_rests m t None k l r none = missing_rests m t k l r none

pub take_failed : (code : CodeParts) (fuel t : ℕ) (found : Option (Box Job)) (k l : Known) → IsSome code fuel t k l found → IfNone found (IsMissing (length code.first) t k l) → l.words.failed ≡ k.words.failed
take_failed code fuel t (Some job) k l some none = ap (λ (z : Known). z.words.failed) some.2
take_failed code fuel t None k l some none = missing_failed (length code.first) t k l none

-- and it may be put
pub may_put_back : (code : CodeParts) (job : Job) (x : Body CodeScript) (k : Known) → Works code job x k → MayPut code job k
may_put_back code job x k w = record {
  holding = w.holding;
  others = [];
  bears = w.bears;
  body = x;
  given = w.given;
  makes = λ a among. absurd (let bad : ⊥ = among_none a (subst (λ (z : List Making). Among a z) w.makes among) in bad);
}

abbrev tail_of : List Holding → List Holding
tail_of [] = []
tail_of (h ∷ hs) = hs

pub put_rests : (code : CodeParts) (job : Job) (m : ℕ) (x : Body CodeScript) (k l : Known) → Works code job x k → IsPut code job m k l → Rests l
put_rests code job m x k l w p = subst (λ (z : Known). Rests z) (sym p.known) (record {
  bears = ap tail_of (sym p.may.bears ∙ w.bears);
  makes = w.makes;
  plans = w.plans;
  unlinked = w.unlinked;
})
