-- Where the first use of a cell needs nothing of what it was, no use does.
use Rattle.std.proofs.Common.{◌≡◌, refl, sym, ap, ◌∙◌, Bool, true, false, List, [], ◌∷◌}
use Rattle.std.specs.Prelude.{◌&&◌, ◌||◌, not}
use Rattle.oss_needs.specs.declared.demand.Demand.{Demand}
use Rattle.oss_needs.specs.declared.demand.Demand.TheVariants.{Load, Store, Fold, Release, Wait, Create}
use Rattle.oss_needs.specs.Demands.{is_write, is_own, is_use, is_used, takes_value, gives_value, has_value, needs_old, begins_fresh, writes_first, any_own}
use Rattle.oss_needs.proofs.Bools.{never, left_false, right_false, both_false, and_false, or_true, one_of, both_true, first_true, is_not}

unused_takes : (d : Demand) → is_use d ≡ false → takes_value d ≡ false
unused_takes Load e = e
unused_takes Store e = refl
unused_takes (Fold op) e = e
unused_takes (Release m) e = refl
unused_takes Wait e = refl
unused_takes (Create c) e = refl

unused_needs : (ds : List Demand) → is_used ds ≡ false → needs_old ds ≡ false
unused_needs [] e = refl
unused_needs (d ∷ ds) e =
    both_false (needs_old ds) (takes_value d && not (has_value ds)) (unused_needs ds (left_false (is_used ds) (is_use d) e))
    (ap (λ (x : Bool). x && not (has_value ds)) (unused_takes d (right_false (is_used ds) (is_use d) e)))

first_takes : (d : Demand) → writes_first d ≡ true → takes_value d ≡ false
first_takes Load e = never (sym e)
first_takes Store e = refl
first_takes (Fold op) e = never (sym e)
first_takes (Release m) e = refl
first_takes Wait e = refl
first_takes (Create c) e = refl

first_gives : (d : Demand) → writes_first d ≡ true → gives_value d ≡ true
first_gives Load e = never (sym e)
first_gives Store e = refl
first_gives (Fold op) e = refl
first_gives (Release m) e = never (sym e)
first_gives Wait e = never (sym e)
first_gives (Create c) e = first_true (is_write c.mode) c.fresh e

-- no old value is needed, and behind all the cell has one
pub record IsFresh (ds : List Demand) : Type 0 where
  pub new : needs_old ds ≡ false
  pub valued : has_value ds ≡ true

pub is_fresh : (ds : List Demand) → begins_fresh ds ≡ true → IsFresh ds
is_fresh [] e = never (sym e)
is_fresh (d ∷ ds) e = go (is_fresh ds) (begins_fresh ds) refl
  where
    go : (begins_fresh ds ≡ true → IsFresh ds) → (b : Bool) → begins_fresh ds ≡ b → IsFresh (d ∷ ds)
    go before true h =
        let i : IsFresh ds = before h in
        record {
          new = both_false (needs_old ds) (takes_value d && not (has_value ds)) i.new (ap (λ (x : Bool). takes_value d && not x) i.valued ∙ and_false (takes_value d));
          valued = ap (λ (x : Bool). x || gives_value d) i.valued;
        }
    go before false h =
        let w : (not (is_used ds) && writes_first d) ≡ true = one_of (begins_fresh ds) (not (is_used ds) && writes_first d) e h in
        let unused : is_used ds ≡ false = is_not (is_used ds) (first_true (not (is_used ds)) (writes_first d) w) in
        let first : writes_first d ≡ true = both_true (not (is_used ds)) (writes_first d) w in
        record {
          new = both_false (needs_old ds) (takes_value d && not (has_value ds)) (unused_needs ds unused) (ap (λ (x : Bool). x && not (has_value ds)) (first_takes d first));
          valued = ap (λ (x : Bool). has_value ds || x) (first_gives d first) ∙ or_true (has_value ds);
        }

-- who needs an old value uses the cell itself
takes_own : (d : Demand) → is_own d ≡ false → takes_value d ≡ false
takes_own Load e = e
takes_own Store e = refl
takes_own (Fold op) e = e
takes_own (Release m) e = refl
takes_own Wait e = refl
takes_own (Create c) e = refl

pub own_needs : (ds : List Demand) → any_own ds ≡ false → needs_old ds ≡ false
own_needs [] e = refl
own_needs (d ∷ ds) e =
    both_false (needs_old ds) (takes_value d && not (has_value ds)) (own_needs ds (left_false (any_own ds) (is_own d) e))
    (ap (λ (x : Bool). x && not (has_value ds)) (takes_own d (right_false (any_own ds) (is_own d) e)))
