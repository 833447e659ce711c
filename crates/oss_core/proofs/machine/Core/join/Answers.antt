use Rattle.std.proofs.Common.{◌≡◌, ℕ, List, sym, ap, subst, ◌∙◌}
use Rattle.std.specs.Prelude.{slice_index, slice_set}
use Rattle.oss_model.specs.Moves.{combine}
use Rattle.oss_body.specs.Relation.{IsBody}
use Rattle.oss_kept_tasks.specs.declared.held.Held.{Held}
use Rattle.oss_core.specs.Cores.{kept_of}
use Rattle.oss_core.proofs.ClearLemmas.{given_with}
use Rattle.oss_core.proofs.GoingLemmas.{read_is}
use Rattle.oss_core.proofs.KeepLemmas.{some_is}
use Rattle.oss_core.proofs.machine.Core.join.Goals as goal

pub returns : goal.returns
returns g c =
    let v = c.args.task.0 in
    let read = read_is c.args.self.now.tasks.items v c.index.result.now c.requires.owes.held c.requires.owes.is c.index.ensures in
    let given = c.in_ok-give_up.ensures.given in
    let before : given.before ≡ c.index.result.now = some_is (sym given.changed_is.was ∙ read) in
    record {
      gives = given_with v c.args.cell (kept_of g.D.Deps.seen c.args.self.now) (kept_of g.D.Deps.seen c.give_up.new.self) c.join_into.new.cells.items given;
      slot = c.slot-slot.result;
      slot_is = λ start found is right. c.slot-slot.ensures c.args.code.now start found c.args.op (subst (λ (h : Held). IsBody c.args.code.now start found h.body) before is) right;
      cells = c.join_into.ensures ∙ ap (λ (xs : List ℕ). slice_set xs c.args.cell (combine c.args.op (slice_index xs c.args.cell) c.slot-slot.result)) c.in_ok-give_up.ensures.cells;
    }
