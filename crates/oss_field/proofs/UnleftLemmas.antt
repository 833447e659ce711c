-- The value of an entry is not left while the job of its task stands before a creation. So no child is linked below one whose value is left.
use Rattle.std.proofs.Common.{◌≡◌, inl, inr, sym, subst, ◌∙◌, ap, ℕ, true, false, List, Some}
use Rattle.std.specs.Global.{Box}
use mathlib.Core.Option as maybe
use lib.ListN.{get_elem?}
use Rattle.oss_code.specs.declared.code.CodeParts.{CodeParts}
use Rattle.oss_jobs.specs.declared.job.Job.{Job}
use Rattle.oss_machine.specs.Frames.{CodeScript}
use Rattle.oss_machine.specs.Machines.{asks}
use Rattle.oss_model.specs.Bodies.{Body, Order, Start}
use Rattle.oss_model.specs.Bodies.Act.{Created, Over}
use Rattle.oss_model.specs.Machine.{At, Task}
use Rattle.oss_model.specs.Moves.{act_now, is_ended}
use Rattle.oss_model.proofs.TreeLemmas.{at_same, over_stops}
use Rattle.oss_words.proofs.CauseLemmas.{bools}
use Rattle.oss_roles.specs.Field.{Field, Parts}
use Rattle.oss_roles.specs.Roles.{Role}
use Rattle.oss_roles.specs.Sights.{Sight, Telling}
use Rattle.oss_field.specs.Known.{Holding, Known, sight_of}
use Rattle.oss_field.proofs.OwnLemmas.{borne}

pub creator_unleft : (code : CodeParts) {main : Start CodeScript} {first : List ℕ} {is_job : Telling CodeScript (Box Job)} (n : ℕ) (k : Parts (Box Job)) (sights : List (Sight CodeScript)) (f : Field (asks code) main first is_job n k sights)
    (id : ℕ) (v : Known) (sits : get_elem? sights id ≡ maybe.some (sight_of v)) (place : ℕ) (h : Holding) (holds : get_elem? v.bears place ≡ maybe.some h) (order : Order CodeScript) → act_now (asks code) h.body ≡ Created order false
    → (e : ℕ) (r : Role) → f.role e ≡ Some r → r.path ≡ h.path → (k.states e).left ≡ false
creator_unleft code n k sights f id v sits place h holds order act e r is path = elim (bools (k.states e).left) [
  | inr off ↦ off
  | inl up ↦
      let l = f.left e r is up in
      let b = borne code n k sights f id v sits place h holds in
      let same : l.task ≡ b.task = at_same f.state h.path l.task b.task (subst (λ (z : List ℕ). At f.state z l.task) path l.at_) b.at_ in
      let body : l.task.body ≡ h.body = ap (λ (z : Task CodeScript). z.body) same ∙ b.body in
      let ended : is_ended (asks code) h.body ≡ true = subst (λ (z : Body CodeScript). is_ended (asks code) z ≡ true) body l.ended in
      let over : act_now (asks code) h.body ≡ Over = over_stops (asks code) h.body.start h.body.found ended in
      let bad : Created order false ≡ Over = sym act ∙ over in
      absurd (let never : ⊥ = cc in never)
]
