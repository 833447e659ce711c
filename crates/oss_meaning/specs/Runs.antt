-- Runs: what a body asks for as its answers come.
-- A run takes the answers that are still to come, the oldest first; it is the next ask of the body that has had them all.
-- Read against: a body that loads cell 0 and stores one more than it found into cell 1 is `asking (Read 0) 3 (λ v. asking (Write 1 (v + 1)) 3
-- ..)`; without an answer it asks for the load, and after the answer 5 for the store of 6.
use Rattle.std.specs.Prelude.{ℕ, List, [], ◌∷◌}
use Rattle.oss_model.specs.Bodies.{Ask, Asked}

-- What a body of this kind of scripts asks for, once it has had these answers.
abbrev pub Run : Type 0 → Type 0
Run S = List ℕ → Asked S

-- The body asks, and goes on with the answer.
abbrev pub asking : {S : Type 0} → Ask S → ℕ → (ℕ → Run S) → Run S
asking a line go [] = record { ask = a; line = line }
asking a line go (v ∷ vs) = go v vs

-- The body asks, and never goes on: it ends, or fails.
abbrev pub ending : {S : Type 0} → Ask S → ℕ → Run S
ending a line vs = record { ask = a; line = line }
