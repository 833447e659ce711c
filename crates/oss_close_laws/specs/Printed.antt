-- What bodies in a list have printed.
-- Read against: main has created a, has printed `x` and then `y`, and a has printed `z`. The bodies main, a have printed `x` at 0.1, `y` at 0.1 and `z` at
-- 0.0.0, in this order, whichever came first; the bodies a, main would have `z` in front.
use Rattle.std.specs.Prelude.{◌≡◌, ℕ, List, [], ◌∷◌, ◌++◌, map}
use Rattle.oss_code.specs.declared.code.CodeParts.{CodeParts}
use Rattle.oss_core.specs.Printing.{ArePrints}
use Rattle.oss_jobs.specs.Jobs.{printed_since}
use Rattle.oss_listed_laws.specs.Listed.{AreListed}
use Rattle.oss_machine.specs.Frames.{CodeScript}
use Rattle.oss_machine.specs.Machines.{asks}
use Rattle.oss_model.specs.Agreement.{Setting}
use Rattle.oss_model.specs.Bodies.{Body, Program, Start}
use Rattle.oss_model.specs.Machine.{State}
use Rattle.oss_model.specs.Memory.{Event}
use Rattle.oss_model.specs.Moves.{Reached}
use Rattle.oss_tree.specs.declared.output.Print.{Print}
use Rattle.oss_tree.specs.Runs.{print_of}

-- What each of these bodies has printed from its start on, one body after the other.
abbrev pub printed_in : {S : Type 0} → Program S → List (Body S) → List Print
printed_in P [] = []
printed_in P (b ∷ bodies) = printed_since P b.start [] b.found ++ printed_in P bodies

-- What listed bodies of a state have printed is what a core may keep as the prints of the state.
abbrev pub ListedBodiesPrint : Type 0
ListedBodiesPrint = (code : CodeParts) (main : Start CodeScript) (first : List ℕ) (s : State CodeScript) (bodies : List (Body CodeScript))
    → Setting main first → Reached (asks code) main first s → AreListed s bodies
    → (done : List (Event CodeScript)) × ArePrints (asks code) s done × (printed_in (asks code) bodies ≡ map (print_of (asks code)) done)
