-- Of each task that has ended something is told.
use Rattle.std.proofs.Common.{◌≡◌, ℕ, zero, suc, refl, ap, List, [], ◌∷◌, ◌++◌, length, Option, Some, None}
use Rattle.std.specs.Prelude.{slice_set}
use Rattle.oss_syntax.specs.declared.tree.program.Item.{Item}
use Rattle.oss_missing_lines.specs.declared.missing.Late.{Late}
use Rattle.oss_lacks.specs.Following.{AllEnded}
use Rattle.oss_missing_waits.specs.Following.{AreTold}
use Rattle.oss_missing_waits.specs.Holding.{Holding}
use Rattle.oss_missing_waits.specs.Lines.{AreLines, AreTaskLines}

-- What is told of each

pub told_more : (all : List Item) (ts : List (Option Holding)) (ks : List (List Late)) (k : List Late) → AreTold all ts ks → AreTold all (ts ++ None ∷ []) (ks ++ k ∷ [])
told_more all [] [] k h = tt
told_more all [] (x ∷ ks) k h = absurd h
told_more all (None ∷ ts) [] k h = absurd h
told_more all (Some t ∷ ts) [] k h = absurd h
told_more all (None ∷ ts) (x ∷ ks) k h = told_more all ts ks k h
told_more all (Some t ∷ ts) (x ∷ ks) k h = (h.0, told_more all ts ks k h.1)

pub told_length : (all : List Item) (ts : List (Option Holding)) (ks : List (List Late)) → AreTold all ts ks → length ts ≡ length ks
told_length all [] [] h = refl
told_length all [] (x ∷ ks) h = absurd h
told_length all (None ∷ ts) [] h = absurd h
told_length all (Some t ∷ ts) [] h = absurd h
told_length all (None ∷ ts) (x ∷ ks) h = ap suc (told_length all ts ks h)
told_length all (Some t ∷ ts) (x ∷ ks) h = ap suc (told_length all ts ks h.1)

pub told_set : (all : List Item) (ts : List (Option Holding)) (ks : List (List Late)) (i : ℕ) (t : Holding) (k : List Late) → AreTold all ts ks → AreLines all t.told k → AreTold all (slice_set ts i (Some t)) (slice_set ks i k)
told_set all [] [] i t k h m = tt
told_set all [] (x ∷ ks) i t k h m = absurd h
told_set all (None ∷ ts) [] i t k h m = absurd h
told_set all (Some u ∷ ts) [] i t k h m = absurd h
told_set all (None ∷ ts) (x ∷ ks) zero t k h m = (m, h)
told_set all (Some u ∷ ts) (x ∷ ks) zero t k h m = (m, h.1)
told_set all (None ∷ ts) (x ∷ ks) (suc i) t k h m = told_set all ts ks i t k h m
told_set all (Some u ∷ ts) (x ∷ ks) (suc i) t k h m = (h.0, told_set all ts ks i t k h.1 m)

-- At the end of all it is told of each.
pub all_told : (all : List Item) (ts : List (Option Holding)) (ks : List (List Late)) → AllEnded ts → AreTold all ts ks → AreTaskLines all ts ks
all_told all [] [] e h = tt
all_told all [] (x ∷ ks) e h = absurd h
all_told all (None ∷ ts) ks e h = absurd e
all_told all (Some t ∷ ts) [] e h = absurd h
all_told all (Some t ∷ ts) (x ∷ ks) e h = (h.0, all_told all ts ks e h.1)
