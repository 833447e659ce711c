-- The prints that a core keeps, in the order of time.
-- Read against: task 1 prints t, main prints m, and task 1, which has created nothing meanwhile, prints u. The list has t, m and u. Those of task 1 have one key,
-- and t, which its body has made first, stands before u; that t stands before m says nothing, since the print of main has another key.
use Rattle.std.specs.Prelude.{◌≡◌, ◌<◌, List, [], ◌∷◌, length, None}
use Rattle.oss_model.specs.Order.{IsIn}
use Rattle.oss_model.specs.Bodies.{Program}
use Rattle.oss_model.specs.Machine.{State}
use Rattle.oss_model.specs.Memory.{Event, key_at}
use Rattle.oss_model.specs.Answers.{DonePrint}

-- Events in an order in which those of one key stand as their body has done them.
abbrev pub InTime : {S : Type 0} → Program S → List (Event S) → Type 0
InTime P [] = Unit {0}
InTime P (e ∷ es) = ((g : Event _) → IsIn g es → key_at P e ≡ key_at P g → length e.past < length g.past) × InTime P es

-- These are the prints of the state, each once, in the order of time.
pub record ArePrints {S : Type 0} (P : Program S) (s : State S) (es : List (Event S)) : Type 0 where
  pub time : InTime P es
  pub only : (e : Event S) → IsIn e es → DonePrint P s None e
  pub all : (e : Event S) → DonePrint P s None e → IsIn e es
