-- Nothing is missing exactly where the program's own run ends without a fault of annotations.
use Rattle.std.specs.Prelude.{length}
use Rattle.oss_model.specs.Agreement.{main_start}
use Rattle.oss_missing_laws.specs.Missing.{EndsWell, MissingExactly, NothingMissing}
use Rattle.oss_lacks.specs.Walks.{at_stop}
use Rattle.oss_missing_laws.proofs.ExistLemmas.{waited, walked}
use Rattle.oss_missing_laws.proofs.MissingTheorem.{nothing_is_wrong, runs_end_alike}
use Rattle.oss_missing_laws.proofs.ToldTheorem.{nothing_is_missing}

pub missing_exactly : (S : Type 0) → MissingExactly S
missing_exactly S P order first fuel z run end few two named plain touches leaves = (forth, back)
  where
    forth : NothingMissing P order first fuel z end → EndsWell P (main_start order (length first) fuel) first
    forth h =
        let own = runs_end_alike S P order first fuel z end few two named h in
        record { stage = own.stage; run = own.run; own = own.own; well = λ kind line key e a. nothing_is_wrong S P order first fuel z end few two named touches leaves h own kind line key e a }

    back : EndsWell P (main_start order (length first) fuel) first → NothingMissing P order first fuel z end
    back h =
        let n = walked P (main_start order (length first) fuel) first run in
        let m = waited P (main_start order (length first) fuel) first (at_stop n.nest).ended run in
        let shown = nothing_is_missing S P order first fuel h.stage h.run h.own h.well few two named plain z end n.nest n.walks in
        record { asked = n.nest; walks = n.walks; lacks = shown.lacks; stage = z; stops = end; held = m.nest; waits = m.waits; told = shown.told z end m.nest m.waits }
