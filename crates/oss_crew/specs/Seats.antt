-- Seats that come back from a crew.
-- Read against: two seats of the marks 5 and 7 went to work. If both workers come home, two seats of the marks 5 and 7 are back, in this order, and both rest. If one
-- worker had no memory, nobody's seat is back.
use Rattle.std.specs.Prelude.{◌≡◌, ℕ, List, [], ◌∷◌, Result, Ok, Err}
use Rattle.std.specs.declared.alloc.AllocError.{AllocError}

-- Each seat has come back, place by place: it rests, and its mark is as it was.
abbrev pub AreBack : {S : Type 0} → (S → Type 0) → (S → ℕ) → List S → List S → Type 0
AreBack rests mark [] [] = Unit {0}
AreBack rests mark (went ∷ others) (came ∷ more) = rests came × (mark came ≡ mark went) × AreBack rests mark others more
AreBack rests mark [] (came ∷ more) = ⊥
AreBack rests mark (went ∷ others) [] = ⊥

-- These are the seats of all workers, none of which was out of memory.
abbrev pub AreHome : {S : Type 0} → List (Result S AllocError) → List S → Type 0
AreHome [] [] = Unit {0}
AreHome (Ok seat ∷ more) (came ∷ others) = (seat ≡ came) × AreHome more others
AreHome [] (came ∷ others) = ⊥
AreHome (Ok seat ∷ more) [] = ⊥
AreHome (Err error ∷ more) others = ⊥
