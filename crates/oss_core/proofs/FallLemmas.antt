-- What is left to do for a core falls with each move, and so with waves, passes and rounds.
use Rattle.std.proofs.Common.{ℕ, ◌<◌, ap, ◌∙◌, sym, arith, List, [], ◌∷◌, ◌≡◌, length}
use Rattle.std.specs.Prelude.{◌+◌}
use Rattle.oss_model.specs.Bodies.{Start}
use Rattle.oss_model.specs.Machine.{State}
use Rattle.oss_model.specs.Moves.{opening}
use Rattle.oss_model.specs.Sequence.{Running, opens}
use Rattle.oss_model.specs.Order.{here}
use Rattle.oss_wave_laws.specs.AtOnce.{new_from}
use Rattle.oss_wave_laws.specs.Left.{left, owed}
use Rattle.oss_wave_laws.proofs.FallLemmas.{turn_acts, turns_behind, visits_behind, round_falls_at}
use Rattle.oss_wave_laws.proofs.LeftLemmas.{moves_fall_at}
use Rattle.oss_code.specs.declared.code.CodeParts.{CodeParts}
use Rattle.oss_machine.specs.Frames.{CodeScript}
use Rattle.oss_machine.specs.Machines.{asks}
use Rattle.oss_machine.proofs.LiveTheorem.{lively}
use Rattle.oss_core.specs.CoreLeft.{core_left, CoreMovesFall, CoreWavesFall, CorePassesFall, CoreRoundsFall}
use Rattle.oss_core.specs.Kept.{Kept, IsCore}
use Rattle.oss_core.proofs.CoreLeftLemmas.{left_is, memory_size}
use Rattle.oss_core.proofs.TreeFacts.{core_agrees}

-- the sequential run at its beginning
abbrev pub begun : Start CodeScript → List ℕ → Running CodeScript
begun main first = record { state = opening main first; active = []; printed = [] }

-- where less is left in the state, less is left for the core
pub falls_with : {code : CodeParts} {main : Start CodeScript} {first : List ℕ} {old new : Kept} {s n : State CodeScript} → IsCore code main first old s → IsCore code main first new n
    → left (lively code) n < left (lively code) s → core_left code new < core_left code old
falls_with {main = main} {old = old} {new = new} a b l =
    let x = left_is a in
    let y = left_is b in
    let z = ap (λ (size : ℕ). owed (new_from main) size) (memory_size b ∙ sym (memory_size a)) in
    omega (arith, l, x, y, z)

pub core_moves_fall : CoreMovesFall
core_moves_fall code main first old new s n a b m = falls_with a b (moves_fall_at (asks code) main first (begun main first) a.setting opens (lively code) s n (core_agrees a) m)

pub core_waves_fall : CoreWavesFall
core_waves_fall code main first old new s n turn rest a b w =
    let d = turns_behind (asks code) main first (begun main first) a.setting opens (lively code) (turn ∷ rest) (core_agrees a) w.acts in
    let l = turn_acts (asks code) s turn (w.turns_are.only turn here) in
    let f = d.falls in
    falls_with a b (omega (arith, l, f))

pub core_passes_fall : CorePassesFall
core_passes_fall code main first old new s n given rest a b w =
    let d = visits_behind (asks code) main first (begun main first) a.setting opens (lively code) w.places (core_agrees a) w.visits in
    let f = d.falls in
    let one : length (given ∷ rest) ≡ length rest + 1 = omega arith in
    falls_with a b (omega (arith, f, one))

pub core_rounds_fall : CoreRoundsFall
core_rounds_fall code main first old new s n round a b moving r = falls_with a b (round_falls_at (asks code) main first (begun main first) a.setting opens (lively code) s n round (core_agrees a) moving r)
