-- What a seat knows of the one job that it works with.
use Rattle.std.proofs.Common.{◌≡◌, refl, sym, subst, ap, ◌∙◌, ℕ, zero, suc, ◌<◌, Bool, true, false, List, [], ◌∷◌, length, set}
use mathlib.Core.Option as maybe
use lib.ListN.{get_elem?}
use Rattle.oss_body.specs.declared.act.Act.{Act}
use Rattle.oss_body.specs.declared.act.Act.TheVariants as acts
use Rattle.oss_body.specs.Acts.{goes_on}
use Rattle.oss_code.specs.declared.code.CodeParts.{CodeParts}
use Rattle.oss_machine.specs.Frames.{CodeScript}
use Rattle.oss_model.specs.Bodies.{Body, Program, Start}
use Rattle.oss_model.specs.Context.{right_of}
use Rattle.oss_model.specs.Rights.{Holds}
use Rattle.oss_syntax.specs.declared.access.Mode.{Mode}
use Rattle.oss_roles.specs.Passing.{MayGo, still_there, went_on}
use Rattle.oss_roles.specs.Sights.{Bearing, Sight}
use Rattle.oss_field.specs.Known.{Holding}
use Rattle.oss_acts.specs.Touching.{is_own}
use Rattle.oss_acts.specs.Working.{IsOfProgram}

-- the one job of a seat
one_place : (x g : Holding) (i : ℕ) → get_elem? (x ∷ []) i ≡ maybe.some g → (i ≡ 0) × (g ≡ x)
one_place x g zero e = (refl, sym (maybe.some-injective x g e))
one_place x g (suc i) e = absurd (maybe.some-ne-none g (sym e))

pub the_place : (l : List Holding) (x g : Holding) (i : ℕ) → l ≡ x ∷ [] → get_elem? l i ≡ maybe.some g → (i ≡ 0) × (g ≡ x)
the_place l x g i e at = one_place x g i (subst (λ (z : List Holding). get_elem? z i ≡ maybe.some g) e at)

pub set_one : (l : List Holding) (x y : Holding) (i : ℕ) → l ≡ x ∷ [] → i ≡ 0 → set l i y ≡ y ∷ []
set_one l x y i e z = ap (λ (m : ℕ). set l m y) z ∙ ap (λ (m : List Holding). set m 0 y) e

-- a job starts once
pub go_start : (P : Program CodeScript) (v : Sight CodeScript) (b : Bearing CodeScript) (x : Body CodeScript) → MayGo P v b x → x.start ≡ b.body.start
go_start P v b x still_there = refl
go_start P v b x (went_on {x = y} m own pass) = go_start P v b y m

pub program_on : (code : CodeParts) (x y : Body CodeScript) → x.start ≡ y.start → IsOfProgram code x → IsOfProgram code y
program_on code x y e p = record {
  inside = subst (λ (z : Start CodeScript). (c : ℕ) (mode : Mode) (strong : Bool) → right_of z.context c ≡ Holds mode strong → c < length code.first) e p.inside;
  depth = subst (λ (z : Start CodeScript). z.context.depth ≡ length z.path) e p.depth;
}

-- an act of its own goes on
pub own_goes : (p : Act) → is_own p ≡ true → goes_on p ≡ true
own_goes acts.Tick e = refl
own_goes (acts.Load c) e = refl
own_goes (acts.Store c v) e = refl
own_goes (acts.Fold c op v slot) e = refl
own_goes (acts.Create creation included) e = refl
own_goes acts.Await e = refl
own_goes acts.Wait e = refl
own_goes (acts.WaitOn ranges) e = refl
own_goes (acts.Release clauses included) e = refl
own_goes (acts.Print key text) e = refl
own_goes acts.End e = refl
own_goes (acts.Fault kind line key) e = absurd (let bad : ⊥ = cc in bad)
