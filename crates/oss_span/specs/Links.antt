-- Chains as they are told: which events the links of one stand for.
-- Read against: `acts 0 2 3`, `let 0.1 4` are main's acts 2, 3 and 4, and the giving of cell 4 by the task 0.1; `acts 0 2 0` stands for nothing, and no chain has it.
use Rattle.std.specs.Prelude.{◌≡◌, ℕ, zero, suc, true, List, [], ◌∷◌}
use Rattle.oss_syntax.specs.declared.access.Op.{Op}
use Rattle.oss_syntax.specs.declared.access.Mode.TheVariants.{Fold}
use Rattle.oss_model.specs.Bodies.{Program}
use Rattle.oss_model.specs.Machine.{State}
use Rattle.oss_model.specs.Order.{written}
use Rattle.oss_model.specs.Rights.{Holds}
use Rattle.oss_chain_laws.specs.Happenings.{Happening, Acting, Giving, StartsWith}
use Rattle.oss_span.specs.declared.link.Link.{Link}
use Rattle.oss_span.specs.declared.link.Link.TheVariants as links

-- So many acts of a task that follow each other, from this one on, in front of these events.
abbrev pub acts_from : List ℕ → ℕ → ℕ → List Happening → List Happening
acts_from p first zero es = es
acts_from p first (suc k) es = Acting p first ∷ acts_from p (suc first) k es

-- The cell is one of a reduction of the task itself: its slot is joined.
abbrev pub IsJoined : {S : Type 0} → State S → List ℕ → ℕ → Type 0
IsJoined s p c = (op : Op) × StartsWith s p c (Holds (Fold op) true)

-- The links stand for these events, one behind the other.
pub data Unfolds {S : Type 0} (P : Program S) (s : State S) : List Link → List Happening → Type 0 where
  nothing : Unfolds P s [] []
  acts : {point p : List ℕ} {first count : ℕ} {rest : List Link} {es : List Happening} → point ≡ written p → Unfolds P s rest es → Unfolds P s (links.Acts point first (suc count) ∷ rest) (acts_from p first (suc count) es)
  let_ : {point p : List ℕ} {c : ℕ} {rest : List Link} {es : List Happening} → point ≡ written p → (IsJoined s p c → ⊥) → Unfolds P s rest es → Unfolds P s (links.Let point c ∷ rest) (Giving p c ∷ es)
  join : {point p : List ℕ} {c : ℕ} {rest : List Link} {es : List Happening} → point ≡ written p → IsJoined s p c → Unfolds P s rest es → Unfolds P s (links.Join point c ∷ rest) (Giving p c ∷ es)
