use Rattle.std.proofs.Common.{◌∙◌}
use Rattle.oss_phases.proofs.Backs.{backs}
use Rattle.oss_phases.proofs.phase.phase.Goals as goal

-- each seat that came back rests, and together they have the parts that went
pub joined-seat-requires : goal.joined-seat-requires
joined-seat-requires g c = let k = backs (g.F.Shift.rests c.in_ok-table.field-0.table) g.F.Shift.mark c.in_ok-seats.seats.items c.in_ok-back.back.items c.in_ok-back.ensures in record { rests = k.0; parts = k.1 ∙ c.in_ok-seats.ensures.parts }
