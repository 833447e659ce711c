-- A body that has rushed: it has gone on by ticks, loads and stores alone, one after the other.
-- Read against: a main that stands before a tick, a load of cell 2, in which 5 stands, and a store of 6 there, has rushed past all three where its answers are 0, 5 and 0 and cell 2 has 6.
use Rattle.std.specs.Prelude.{◌≡◌, ℕ, ◌+◌, List, ◌∷◌, length}
use Rattle.oss_model.specs.Bodies.{Act, Program, Start, stage_act}
use Rattle.oss_model.specs.Bodies.Act.{Load, Store, Ticked}
use Rattle.oss_model.specs.Moves.{found_by}
use Rattle.oss_model.specs.Sequence.{direct_cells}
use Rattle.oss_code.specs.declared.code.CodeParts.{CodeParts}
use Rattle.oss_machine.specs.Frames.{CodeScript}
use Rattle.oss_machine.specs.Machines.{asks}
use Rattle.oss_body.specs.declared.body.Body.{Body}
use Rattle.oss_body.specs.Relation.{IsBody}

-- The act is a tick, a load or a store.
abbrev pub IsTouch : {S : Type 0} → Act S → Type 0
IsTouch Ticked = Unit {0}
IsTouch (Load c) = Unit {0}
IsTouch (Store c v) = Unit {0}
IsTouch _ = ⊥

-- A body of the definitions goes on from these answers to more of them, the newest first, by such acts alone: each answer is what the act finds in memory, which goes on by the act.
pub data Passes {S : Type 0} (P : Program S) (start : Start S) (found cells : List ℕ) : List ℕ → List ℕ → Type 0 where
  begins : Passes P start found cells found cells
  passes : {past now after : List ℕ} {v : ℕ} → Passes P start found cells past now → IsTouch (stage_act P start past) → v ≡ found_by (stage_act P start past) now → after ≡ direct_cells (stage_act P start past) now → Passes P start found cells (v ∷ past) after

-- The kept body is that of this start after so many answers more, to which it has gone on so, and memory is that behind these acts.
pub record HasRushed (code : CodeParts) (start : Start CodeScript) (found cells : List ℕ) (count : ℕ) (b : Body) (after : List ℕ) : Type 0 where
  pub past : List ℕ
  pub acts : length past ≡ count + length found
  pub passed : Passes (asks code) start found cells past after
  pub is : IsBody code start past b
