use Rattle.std.proofs.Common.{ap}
use Rattle.oss_judge.proofs.ViewLemmas.{lent_changed}
use Rattle.oss_judge.specs.Seen.{lending_told}
use Rattle.oss_model.specs.Rights.{Free}
use Rattle.oss_ranges.specs.Cells.{value_at}
use Rattle.oss_judge.proofs.context.Context.waited.Goals as goal

pub returns : goal.returns
returns c = rw (← c.self.view_is) (lent_changed c.self.inside.cells c.self.inside.rights.pieces c.self.inside.lent.pieces c.self.inside.marks.pieces (record { ticks = c.self.inside.ticks; fuel = c.self.inside.fuel; created = c.self.inside.created; depth = c.self.inside.depth; final = c.self.inside.is_final }) c.self.invariant.2 c.self.invariant.3 c.self.invariant.4 _ (λ cell lent. Free) (λ cell low. ap (λ ps. lending_told (value_at ps cell)) c.new.ensures))
