-- A task with rising accesses: its rights, and what it owes.
use Rattle.std.proofs.Common.{◌≡◌, ℕ, ◌<◌, ◌≤◌, refl, sym, subst, ap, ◌∙◌, List, [], ◌∷◌, ◌⊎◌, inl, inr, Bool, true, false, arith, Some, None}
use Rattle.std.specs.Prelude.{nat_le, nat_lt, ◌||◌, if◌then◌else◌}
use Rattle.std.proofs.lemmas.Bool.Decides.{nat_tests}
use Rattle.oss_syntax.specs.declared.access.Access.{Access}
use Rattle.oss_syntax.specs.declared.access.Mode.{Mode}
use Rattle.oss_model.specs.Rights.{Right, NoRight, Released, Holds, in_access, joined_right, right_from}
use Rattle.oss_model.specs.Context.{Context, right_of}
use Rattle.oss_judge.specs.Joined as joined
use Rattle.oss_judge.specs.Joined.{held_right}
use Rattle.oss_deps.specs.Opens.{IsRising, access_at}
use Rattle.oss_core.specs.Changes.{owed_by_access}
use Rattle.oss_core.specs.Kept.{owed_by, owed_of}
use Rattle.oss_core.specs.Standing.{AreRightsOf}
use Rattle.oss_core.proofs.EntryLemmas.{both, both_of, bools}

-- accesses each of which follows the one before it rise
pub follows_rising : (accesses : List Access) → joined.IsRising accesses → IsRising accesses
follows_rising [] r = tt
follows_rising (a ∷ []) r = tt
follows_rising (a ∷ b ∷ rest) r = (r.0.behind, follows_rising (b ∷ rest) r.1)

-- the accesses begin at a cell or behind it
abbrev Behind : ℕ → List Access → Type 0
Behind cell [] = Unit {0}
Behind cell (a ∷ rest) = cell ≤ a.range.lo

-- the accesses behind the first
behind_rest : (a : Access) (rest : List Access) → IsRising (a ∷ rest) → Behind a.range.hi rest × IsRising rest
behind_rest a [] r = (tt, tt)
behind_rest a (b ∷ rest) r = (r.0, r.1)

-- a cell before an access is none of it
not_in : (a : Access) (c : ℕ) → c < a.range.lo → in_access a c ≡ false
not_in a c l = go (bools (in_access a c))
  where
    go : (in_access a c ≡ true) ⊎ (in_access a c ≡ false) → in_access a c ≡ false
    go (inl e) = let k = both (nat_le a.range.lo c) (nat_lt c a.range.hi) e in let h = k.0 in let m : a.range.lo ≤ c = grind (arith, nat_tests, h) in absurd (omega (arith, l, m))
    go (inr e) = e

-- a cell before all accesses has none
none_before : (accesses : List Access) (low c : ℕ) → IsRising accesses → Behind low accesses → c < low → (access_at accesses c ≡ None) × (right_from false accesses c ≡ NoRight)
none_before [] low c r b l = (refl, refl)
none_before (a ∷ rest) low c r b l =
    let e : in_access a c ≡ false = not_in a c (omega (arith, b, l)) in
    let k = behind_rest a rest r in
    let o = a.range.ordered in
    let n = none_before rest a.range.hi c k.1 k.0 (omega (arith, b, l, o)) in (
      ap (λ (x : Bool). if x then Some a else access_at rest c) e ∙ n.0,
      ap (λ (x : Bool). if x then joined_right a.mode (false || a.strong) (right_from false rest c) else right_from false rest c) e ∙ n.1,
    )

-- the access to a cell, and the right that all give to it
pub data Told (accesses : List Access) (c : ℕ) : Type 0 where
  nothing : access_at accesses c ≡ None → right_from false accesses c ≡ NoRight → Told accesses c
  access : (a : Access) → access_at accesses c ≡ Some a → right_from false accesses c ≡ Holds a.mode a.strong → Told accesses c

-- of each cell that is told
pub told : (accesses : List Access) (c : ℕ) → IsRising accesses → Told accesses c
told [] c r = nothing refl refl
told (a ∷ rest) c r = go (bools (in_access a c)) (told rest c (behind_rest a rest r).1)
  where
    other : in_access a c ≡ false → Told rest c → Told (a ∷ rest) c
    other e (nothing f g) = nothing
        (ap (λ (x : Bool). if x then Some a else access_at rest c) e ∙ f)
        (ap (λ (x : Bool). if x then joined_right a.mode (false || a.strong) (right_from false rest c) else right_from false rest c) e ∙ g)
    other e (access b f g) = access b
        (ap (λ (x : Bool). if x then Some a else access_at rest c) e ∙ f)
        (ap (λ (x : Bool). if x then joined_right a.mode (false || a.strong) (right_from false rest c) else right_from false rest c) e ∙ g)

    go : (in_access a c ≡ true) ⊎ (in_access a c ≡ false) → Told rest c → Told (a ∷ rest) c
    go (inl e) k =
        let h = (both (nat_le a.range.lo c) (nat_lt c a.range.hi) e).1 in
        let b = behind_rest a rest r in
        let n = none_before rest a.range.hi c b.1 b.0 (grind (arith, nat_tests, h)) in
        access a
        (ap (λ (x : Bool). if x then Some a else access_at rest c) e)
        (ap (λ (x : Bool). if x then joined_right a.mode (false || a.strong) (right_from false rest c) else right_from false rest c) e ∙ ap (λ (x : Right). joined_right a.mode (false || a.strong) x) n.1)
    go (inr e) k = other e k

-- a right that is held
held_is : (r : Right) (m : Mode) (strong : Bool) → Holds m strong ≡ held_right r → r ≡ Holds m strong
held_is NoRight m strong e = cc
held_is Released m strong e = cc
held_is (Holds n other) m strong e = sym e

module _ (accesses : List Access) (x : Context) (rising : IsRising accesses) (rights : (c : ℕ) → right_from false accesses c ≡ held_right (right_of x c)) where
  -- the accesses give the rights of the context
  pub are_rights : AreRightsOf accesses x
  are_rights = record { given = λ c m strong e. given c m strong e (told accesses c rising); held = λ c a e. held c a e (told accesses c rising) }
    where
      given : (c : ℕ) (m : Mode) (strong : Bool) → right_of x c ≡ Holds m strong → Told accesses c → (a : Access) × (access_at accesses c ≡ Some a) × (a.mode ≡ m) × (a.strong ≡ strong)
      given c m strong e (nothing f g) = let k : NoRight ≡ Holds m strong = sym g ∙ rights c ∙ ap held_right e in absurd cc
      given c m strong e (access a f g) = let k : Holds a.mode a.strong ≡ Holds m strong = sym g ∙ rights c ∙ ap held_right e in (a, f, cc, cc)

      held : (c : ℕ) (a : Access) → access_at accesses c ≡ Some a → Told accesses c → right_of x c ≡ Holds a.mode a.strong
      held c a e (nothing f g) = absurd cc
      held c a e (access b f g) = let k : b ≡ a = cc in subst (λ (z : Access). right_of x c ≡ Holds z.mode z.strong) k (held_is (right_of x c) b.mode b.strong (sym g ∙ rights c))

  -- what the task owes of a cell by its access it owes by its right
  pub owed_same : (c : ℕ) → owed_by_access (access_at accesses c) ≡ owed_by (right_of x c)
  owed_same c = go (told accesses c rising)
    where
      no_right : (r : Right) → NoRight ≡ held_right r → None ≡ owed_by r
      no_right NoRight e = refl
      no_right Released e = refl
      no_right (Holds m strong) e = absurd cc

      go : Told accesses c → owed_by_access (access_at accesses c) ≡ owed_by (right_of x c)
      go (nothing f g) = ap owed_by_access f ∙ no_right (right_of x c) (sym g ∙ rights c)
      go (access a f g) = ap owed_by_access f ∙ ap owed_by (sym (are_rights.held c a f))

-- the first access has a cell
pub first_cell : (a : Access) (rest : List Access) → access_at (a ∷ rest) a.range.lo ≡ Some a
first_cell a rest =
    let o = a.range.ordered in
    let e : in_access a a.range.lo ≡ true = both_of (nat_le a.range.lo a.range.lo) (nat_lt a.range.lo a.range.hi) (grind (arith, nat_tests)) (grind (arith, nat_tests, o)) in
    ap (λ (x : Bool). if x then Some a else access_at rest a.range.lo) e

-- a new task but main owes all to which it has a right
pub owed_by_new : (path : List ℕ) (k : ℕ) (q : List ℕ) (given : Bool) (r : Right) → path ≡ k ∷ q → given ≡ false → owed_of path given r ≡ owed_by r
owed_by_new [] k q given r e f = absurd cc
owed_by_new (j ∷ p) k q true r e f = absurd cc
owed_by_new (j ∷ p) k q false r e f = refl
