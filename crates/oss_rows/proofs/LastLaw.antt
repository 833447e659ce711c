-- The last rows of a book are the last that hang.
use Rattle.std.proofs.Common.{◌≡◌, ◌≢◌, ◌⊎◌, ℕ, ◌<◌, ◌+◌, sym, ap, subst, ◌∙◌, List, ◌∷◌, length, Option, Some, None, arith}
use Rattle.oss_words.specs.Net.{apart}
use Rattle.oss_roles.specs.Field.{AreLast, IsMaking}
use Rattle.oss_roles.specs.Roles.{Role, Site}
use Rattle.oss_roles.specs.Sights.{Sight}
use Rattle.oss_filing.specs.Filed.{IsFiled}
use Rattle.oss_filing.proofs.Basics.{none_some}
use Rattle.oss_filing.proofs.FollowLemmas.{row_within}
use Rattle.oss_filing.proofs.RolesLaw.{role_hangs}
use Rattle.oss_rows.specs.Booked.{Contents, IsBooked, IsLast, is_none, is_some, or_zero, TellsLast, ToldAreLast}

module _ (S : Type 0) (b : Contents) (role : ℕ → Option Role) (n : ℕ) (ws : List ℕ) (sights : List (Sight S)) (p : List ℕ) (last : Site → Option ℕ)
    (booked : IsBooked b role) (filed : IsFiled n b.rows ws) (tells : TellsLast b role p last) where
  less : (f : ℕ) (q : Role) → role f ≡ Some q → f < 1 + length b.rows
  less f q is = let w = booked.planned.row f q is in let l = (row_within b.rows f w.0 w.1).1 in omega (arith, l)

  told_of : (y : Site) (o : Option ℕ) → last y ≡ o → IsLast role (1 + length b.rows) p y (or_zero o)
  told_of y o is = subst (λ (z : Option ℕ). IsLast role (1 + length b.rows) p y (or_zero z)) is (tells y).0

  some_last : (y : Site) (o : ℕ) → last y ≡ Some o → IsLast role (1 + length b.rows) p y o
      → (r : Role) × (k : ℕ) × (role o ≡ Some r) × (filed.net.place o ≢ apart) × (r.path ≡ k ∷ p) × (r.site ≡ y)
      × ((f : ℕ) (q : Role) (j : ℕ) → role f ≡ Some q → filed.net.place f ≢ apart → q.path ≡ j ∷ p → q.site ≡ y → (IsMaking sights q.task → ⊥) → (f ≡ o) ⊎ (j < k))
  some_last y o is (is_none z none) = absurd ((tells y).1 (is ∙ ap (λ (x : ℕ). Some x) z))
  some_last y o is (is_some q i at path site all) =
      (q, i, at, role_hangs b.rows role booked.planned n ws filed o q at, path, site, (λ f x j fis h fpath fsite making. all f x j (less f x fis) fis fpath fsite))

  none_last : (y : Site) → IsLast role (1 + length b.rows) p y 0 → (f : ℕ) (q : Role) (j : ℕ) → role f ≡ Some q → q.path ≡ j ∷ p → q.site ≡ y → ⊥
  none_last y (is_none z none) f q j is path site = none f q j (less f q is) is path site
  none_last y (is_some x i at xpath xsite all) f q j is path site = none_some (sym booked.planned.main ∙ at)

  pub are_last : AreLast sights filed.net role p last
  are_last = record {
    some = λ y o is. some_last y o is (told_of y (Some o) is);
    none = λ y is f q j fis h path site. absurd (none_last y (told_of y None is) f q j fis path site);
  }

pub told_are_last : (S : Type 0) → ToldAreLast S
told_are_last S b role n ws sights p last booked filed tells = are_last S b role n ws sights p last booked filed tells
