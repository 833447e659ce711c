-- What the trials know after a creation.
use Rattle.std.proofs.Common.{◌≡◌, ℕ, subst, sym, Option, Some}
use Rattle.oss_code.specs.declared.code.CodeParts.{CodeParts}
use Rattle.oss_jobs.specs.declared.job.Job.{Job}
use Rattle.oss_machine.specs.Frames.{CodeScript}
use Rattle.oss_model.specs.Bodies.{Body}
use Rattle.oss_roles.specs.Alone.{with_answer}
use Rattle.oss_field.specs.Known.{Known}
use Rattle.oss_acts.specs.Working.{HasActed, Works}
use Rattle.oss_creations.specs.Keeping.{HasMade, IsCreation}

pub was_made : (code : CodeParts) (i j : Job) (k l : Known) (r : Option ℕ) (t : ℕ) → r ≡ Some t → IsCreation code i j k l r → HasMade code i j k l
was_made code i j k l r t is made = (subst (λ (z : Option ℕ). IsCreation code i j k l z) is made).0

pub went_past : (code parts : CodeParts) (i j j' : Job) (k l : Known) → code ≡ parts → HasMade code i j k l → ((old : Job) (was : Known) → HasMade parts old j was l → HasActed parts old j' 0 was l) → (x : Body CodeScript) × Works code j' x l
went_past code parts i j j' k l same made past =
    let acted = past i k (subst (λ (z : CodeParts). HasMade z i j k l) same made) in
    (with_answer 0 acted.body, subst (λ (z : CodeParts). Works z j' (with_answer 0 acted.body) l) (sym same) acted.after)
