-- What a deed tells of the counts of its task.
use Rattle.std.proofs.Common.{◌≡◌, ℕ, ◌<◌, refl, List, arith, Bool, true, false}
use Rattle.std.specs.Prelude.{if◌then◌else◌, nat_le, nat_lt, slice_index}
use Rattle.std.proofs.lemmas.Bool.Decides.{nat_tests}
use Rattle.oss_syntax.specs.declared.fault.FaultKind.{FaultKind}
use Rattle.oss_syntax.specs.declared.fault.FaultKind.TheVariants as fault
use Rattle.oss_model.specs.Bodies.{Ask}
use Rattle.oss_free_tasks.specs.declared.deed.Deed.{Deed}
use Rattle.oss_free_tasks.specs.declared.deed.Deed.TheVariants as deeds
use Rattle.oss_free_tasks.specs.Deeds.{creates, free_deed}

-- the deed is neither a tick nor a creation
abbrev IsOther : Deed → Type 0
IsOther deeds.Ticks = ⊥
IsOther deeds.Creates = ⊥
IsOther _ = Unit {0}

within_other : (b : Bool) (v line : ℕ) (kind : FaultKind) → IsOther (if b then deeds.Finds v else deeds.Stops kind line)
within_other true v line kind = tt
within_other false v line kind = tt

limits_other : (a b : Bool) (line : ℕ) (d : Deed) → IsOther d → IsOther (if a then deeds.Stops fault.TooDeep line else if b then deeds.Stops fault.TooManyTasks line else d)
limits_other true b line d h = tt
limits_other false true line d h = tt
limits_other false false line d h = h

no_tick : (d : Deed) → IsOther d → d ≡ deeds.Ticks → ⊥
no_tick deeds.Ticks h e = h
no_tick _ h e = cc

no_creation : (d : Deed) → IsOther d → d ≡ deeds.Creates → ⊥
no_creation deeds.Creates h e = h
no_creation _ h e = cc

fuel_left : (b : Bool) (line : ℕ) → (if b then deeds.Ticks else deeds.Stops fault.OutOfFuel line) ≡ deeds.Ticks → b ≡ true
fuel_left true line e = refl
fuel_left false line e = cc

fuel_none : (b : Bool) (line : ℕ) → (if b then deeds.Ticks else deeds.Stops fault.OutOfFuel line) ≡ deeds.Creates → ⊥
fuel_none true line e = cc
fuel_none false line e = cc

limit_left : (a b : Bool) (line : ℕ) → (if a then deeds.Stops fault.TooDeep line else if b then deeds.Stops fault.TooManyTasks line else deeds.Creates) ≡ deeds.Creates → (a ≡ false) × (b ≡ false)
limit_left true b line e = cc
limit_left false true line e = cc
limit_left false false line e = (refl, refl)

limit_tick : (a b : Bool) (line : ℕ) → (if a then deeds.Stops fault.TooDeep line else if b then deeds.Stops fault.TooManyTasks line else deeds.Creates) ≡ deeds.Ticks → ⊥
limit_tick true b line e = cc
limit_tick false true line e = cc
limit_tick false false line e = cc

module _ {S : Type 0} (n fuel depth ticks created : ℕ) (cells : List ℕ) where
  -- a tick has fuel
  pub tick_has_fuel : (awaits : Bool) (q : Ask S) (line : ℕ) → free_deed n fuel depth ticks created awaits cells q line ≡ deeds.Ticks → ticks < fuel
  tick_has_fuel true q line e = cc
  tick_has_fuel false Ask.Begin line e = absurd (no_tick _ (limits_other (nat_le 64 depth) (nat_le 65535 created) line (deeds.Stops fault.TooManyTasks line) tt) e)
  tick_has_fuel false Ask.Tick line e = let b : nat_lt ticks fuel ≡ true = fuel_left (nat_lt ticks fuel) line e in grind (arith, nat_tests, b)
  tick_has_fuel false (Ask.Read c) line e = absurd (no_tick _ (within_other (nat_lt c n) (slice_index cells c) line fault.NoRight) e)
  tick_has_fuel false (Ask.Write c v) line e = absurd (no_tick _ (within_other (nat_lt c n) 0 line fault.NoRight) e)
  tick_has_fuel false (Ask.Fold c op v) line e = absurd (no_tick _ (within_other (nat_lt c n) 0 line fault.NoRight) e)
  tick_has_fuel false (Ask.Create o) line e = absurd (limit_tick (nat_le 64 depth) (nat_le 65535 created) line e)
  tick_has_fuel false Ask.Await line e = cc
  tick_has_fuel false Ask.Wait line e = cc
  tick_has_fuel false (Ask.WaitOn named) line e = cc
  tick_has_fuel false (Ask.Release clauses) line e = cc
  tick_has_fuel false (Ask.Print text) line e = cc
  tick_has_fuel false Ask.End line e = cc
  tick_has_fuel false (Ask.Fails kind) line e = cc

  -- a creation is within the limits, and asked for
  pub creation_fits : (awaits : Bool) (q : Ask S) (line : ℕ) → free_deed n fuel depth ticks created awaits cells q line ≡ deeds.Creates → (depth < 64) × (created < 65535) × (creates q ≡ true)
  creation_fits true q line e = cc
  creation_fits false Ask.Begin line e = absurd (no_creation _ (limits_other (nat_le 64 depth) (nat_le 65535 created) line (deeds.Stops fault.TooManyTasks line) tt) e)
  creation_fits false Ask.Tick line e = absurd (fuel_none (nat_lt ticks fuel) line e)
  creation_fits false (Ask.Read c) line e = absurd (no_creation _ (within_other (nat_lt c n) (slice_index cells c) line fault.NoRight) e)
  creation_fits false (Ask.Write c v) line e = absurd (no_creation _ (within_other (nat_lt c n) 0 line fault.NoRight) e)
  creation_fits false (Ask.Fold c op v) line e = absurd (no_creation _ (within_other (nat_lt c n) 0 line fault.NoRight) e)
  creation_fits false (Ask.Create o) line e =
      let b = limit_left (nat_le 64 depth) (nat_le 65535 created) line e in
      let x : nat_le 64 depth ≡ false = b.0 in
      let y : nat_le 65535 created ≡ false = b.1 in
      (grind (arith, nat_tests, x), grind (arith, nat_tests, y), refl)
  creation_fits false Ask.Await line e = cc
  creation_fits false Ask.Wait line e = cc
  creation_fits false (Ask.WaitOn named) line e = cc
  creation_fits false (Ask.Release clauses) line e = cc
  creation_fits false (Ask.Print text) line e = cc
  creation_fits false Ask.End line e = cc
  creation_fits false (Ask.Fails kind) line e = cc
