use Rattle.std.proofs.Common.{◌≡◌, sym, ap, ◌∙◌}
use Rattle.oss_body.specs.Acts.{creates}
use Rattle.oss_body.specs.Relation.{pending_of}
use Rattle.oss_kept_tasks.specs.declared.held.Held.{Held}
use Rattle.oss_core.specs.Cores.{kept_of}
use Rattle.oss_core.proofs.CallLemmas.{on_ok}
use Rattle.oss_core.proofs.GoingLemmas.{read_is}
use Rattle.oss_core.proofs.KeepLemmas.{some_is}
use Rattle.oss_core.proofs.MakingLemmas.{before_act, creation_opens, creation_room, made_creation, made_step}
use Rattle.oss_core.proofs.ActingLemmas.{created_alone, stepped_alone}
use Rattle.oss_core.proofs.TreeFacts.{sizes}
use Rattle.oss_core.proofs.machine.Core.act_now.Goals as goal

pub create-requires-clause-before : goal.create-requires-clause-before
create-requires-clause-before g c =
    let may = c.requires.may in
    let same : c.index.result.now ≡ may.held = some_is (sym (read_is c.args.self.now.tasks.items c.args.task.0 c.index.result.now may.held may.is c.index.ensures) ∙ may.is) in
    record {
      before = before_act (kept_of g.D.Deps.seen c.args.self.now) c.args.task.0 may;
      creates_is = ap (λ (h : Held). creates (pending_of h.body)) (sym same) ∙ ap creates (sym c.pending.ensures.kept) ∙ sym c.is_creation.ensures ∙ c.if-is_creation.true;
    }

pub create-requires-clause-room : goal.create-requires-clause-room
create-requires-clause-room g c =
    let may = c.requires.may in
    let same : c.index.result.now ≡ may.held = some_is (sym (read_is c.args.self.now.tasks.items c.args.task.0 c.index.result.now may.held may.is c.index.ensures) ∙ may.is) in
    creation_room c.requires.running.core c.args.task.0 (before_act (kept_of g.D.Deps.seen c.args.self.now) c.args.task.0 may) (ap (λ (h : Held). creates (pending_of h.body)) (sym same) ∙ ap creates (sym c.pending.ensures.kept) ∙ sym c.is_creation.ensures ∙ c.if-is_creation.true)

pub create-requires-clause-opens : goal.create-requires-clause-opens
create-requires-clause-opens g c =
    let may = c.requires.may in
    let same : c.index.result.now ≡ may.held = some_is (sym (read_is c.args.self.now.tasks.items c.args.task.0 c.index.result.now may.held may.is c.index.ensures) ∙ may.is) in
    creation_opens c.requires.running.core c.args.task.0 (before_act (kept_of g.D.Deps.seen c.args.self.now) c.args.task.0 may) (ap (λ (h : Held). creates (pending_of h.body)) (sym same) ∙ ap creates (sym c.pending.ensures.kept) ∙ sym c.is_creation.ensures ∙ c.if-is_creation.true)

pub step-requires-clause-before : goal.step-requires-clause-before
step-requires-clause-before g c =
    let may = c.requires.may in
    let same : c.index.result.now ≡ may.held = some_is (sym (read_is c.args.self.now.tasks.items c.args.task.0 c.index.result.now may.held may.is c.index.ensures) ∙ may.is) in
    record {
      before = before_act (kept_of g.D.Deps.seen c.args.self.now) c.args.task.0 may;
      none = ap (λ (h : Held). creates (pending_of h.body)) (sym same) ∙ ap creates (sym c.pending.ensures.kept) ∙ sym c.is_creation.ensures ∙ c.if-is_creation.false;
    }

pub returns-then-is_creation-clause-made : goal.returns-then-is_creation-clause-made
returns-then-is_creation-clause-made g c = on_ok c.create.result (made_creation c.args.code.now (kept_of g.D.Deps.seen c.args.self.now) (kept_of g.D.Deps.seen c.create.new.self) c.args.task c.requires.may) c.create.ensures

pub returns-else-is_creation-clause-made : goal.returns-else-is_creation-clause-made
returns-else-is_creation-clause-made g c = on_ok c.step.result (made_step c.args.code.now (kept_of g.D.Deps.seen c.args.self.now) (kept_of g.D.Deps.seen c.step.new.self) c.args.task c.requires.may) c.step.ensures

pub returns-then-is_creation-clause-alone : goal.returns-then-is_creation-clause-alone
returns-then-is_creation-clause-alone g c = on_ok c.create.result (created_alone c.args.code.now c.args.task.0 (kept_of g.D.Deps.seen c.args.self.now) (kept_of g.D.Deps.seen c.create.new.self) (sizes c.requires.running.core)) c.create.ensures

pub returns-else-is_creation-clause-alone : goal.returns-else-is_creation-clause-alone
returns-else-is_creation-clause-alone g c = on_ok c.step.result (stepped_alone c.args.code.now c.args.task.0 (kept_of g.D.Deps.seen c.args.self.now) (kept_of g.D.Deps.seen c.step.new.self)) c.step.ensures
