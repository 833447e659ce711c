-- What comes of a run in phases.
-- Read against: a run of 70,002 entries is given up if a table may have 65,536, since 65,536 < 70,002. With tables of up to 131,072 entries it ends.
use Rattle.std.specs.Prelude.{◌<◌, ℕ}
use Rattle.oss_phases.specs.declared.run.Outcome.{Outcome}
use Rattle.oss_phases.specs.declared.run.Outcome.TheVariants.{Ended, TooMany}

-- A run that has ended may come to its state, and ends there with its answer. One that was given up has more entries than a table may have.
abbrev pub IsOutcome : {H A : Type 0} → (H → Type 0) → (H → A → Type 0) → (ℕ → Type 0) → ℕ → Outcome H A → Type 0
IsOutcome reached ends has most (Ended answer held) = reached held × ends held answer
IsOutcome reached ends has most TooMany = (count : ℕ) × has count × (most < count)
