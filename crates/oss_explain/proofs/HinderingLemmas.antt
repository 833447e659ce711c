-- The children that hinder a touch, behind one note more.
use Rattle.std.proofs.Common.{◌≡◌, ℕ, ◌<◌, ◌≤◌, refl, List, [], ◌∷◌, ◌++◌, arith}
use Rattle.oss_model.specs.Rights.{Folds, Holds, NoRight, Reads, Released, Right, Touch, Writes}
use Rattle.oss_judge.specs.Joined.{held_right}
use Rattle.oss_explain.specs.declared.begun.Child.{Child}
use Rattle.oss_explain.specs.declared.begun.Noted.{Noted}
use Rattle.oss_explanation.specs.Lives.{hinders}
use Rattle.oss_explain.specs.Noting.{RiseTo, hindering_after, hindering_from}

pub hindering_more : (c : ℕ) (touch : Touch) (ks : List Child) (ns : List Noted) (n : Noted) → hindering_from c touch ks (ns ++ n ∷ []) ≡ hindering_after c touch (hindering_from c touch ks ns) n
hindering_more c touch ks [] n = refl
hindering_more c touch ks (m ∷ ns) n = hindering_more c touch (hindering_after c touch ks m) ns n

-- what a child has by its accesses hinders what it has by its context
pub hinders_held : (touch : Touch) (r : Right) → hinders touch (held_right r) ≡ hinders touch r
hinders_held Reads NoRight = refl
hinders_held Reads Released = refl
hinders_held Reads (Holds m strong) = refl
hinders_held Writes NoRight = refl
hinders_held Writes Released = refl
hinders_held Writes (Holds m strong) = refl
hinders_held (Folds op) NoRight = refl
hinders_held (Folds op) Released = refl
hinders_held (Folds op) (Holds m strong) = refl

pub rise_more : (m n : ℕ) (ks : List Child) (k : Child) → RiseTo m ks → m ≤ k.number → k.number < n → RiseTo n (ks ++ k ∷ [])
rise_more m n [] k h l u = u
rise_more m n (i ∷ []) k h l u = (omega (arith, h, l), u)
rise_more m n (i ∷ j ∷ more) k h l u = (h.0, rise_more m n (j ∷ more) k h.1 l u)

pub rise_up : (m n : ℕ) (ks : List Child) → m ≤ n → RiseTo m ks → RiseTo n ks
rise_up m n [] l h = tt
rise_up m n (i ∷ []) l h = omega (arith, h, l)
rise_up m n (i ∷ j ∷ more) l h = (h.0, rise_up m n (j ∷ more) l h.1)
