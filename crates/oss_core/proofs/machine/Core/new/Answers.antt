use Rattle.std.proofs.Common.{List, [], ◌∷◌, ◌++◌, ap, ◌∙◌}
use Rattle.oss_ranges.specs.Cells.{value_at}
use Rattle.oss_ranges.specs.declared.piece.Piece.{Piece}
use Rattle.oss_kept_tasks.specs.declared.held.Held.{Held}
use Rattle.oss_kept_tasks.specs.declared.held.Owed.{Owed}
use Rattle.oss_core.proofs.BeginLemmas.{begins}
use Rattle.oss_core.proofs.machine.Core.new.Goals as goal

pub returns : goal.returns
returns g c =
    begins c.args.code.now c.args.fuel (record { tasks = c.push.new.self.items; tree = c.in_ok-new.field-0; seen = g.D.Deps.seen c.args.deps; cells = c.in_ok-from_slice.field-0.items }) c.main_is_set.ensures
    (record { body = c.in_ok-body.body; owed = c.new.result })
    (c.in_ok-push.ensures.items ∙ ap (λ (xs : List Held). xs ++ record { body = c.in_ok-body.body; owed = c.new.result } ∷ []) c.new-tasks.ensures.items)
    c.in_ok-body.ensures (λ k. ap (λ (ps : List (Piece Owed)). value_at ps k) c.new.ensures) c.in_ok-new.ensures c.requires.opens c.requires.given (c.in_ok-from_slice.ensures.items ∙ c.as_slice.ensures ∙ c.first.ensures)
