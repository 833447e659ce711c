use Rattle.std.proofs.Common.{◌≡◌, ◌<◌, ℕ, length, sym, ap, subst, ◌∙◌, List}
use Rattle.std.proofs.lemmas.Option.{slice_get_within}
use Rattle.oss_body.specs.declared.act.Act.{Act}
use Rattle.oss_model.specs.Moves.{cells_after}
use Rattle.oss_body.specs.Acts.{act_seen}
use Rattle.oss_body.specs.Relation.{is_over, pending_of}
use Rattle.oss_tree.specs.declared.task.Task.{Task as TreeTask}
use Rattle.oss_kept_tasks.specs.declared.held.Held.{Held}
use Rattle.oss_enabled_moves.proofs.CallLemmas.{seen_same}
use Rattle.oss_core.specs.Changes.{found_in, noted, prints_after}
use Rattle.oss_core.specs.Going.{HasGoneOn, IsKeyed}
use Rattle.oss_core.specs.Cores.{kept_of}
use Rattle.oss_core.proofs.GoingLemmas.{read_is, stepped}
use Rattle.oss_core.proofs.KeepLemmas.{some_is}
use Rattle.oss_core.proofs.machine.Core.step.Goals as goal

pub note_end-requires : goal.note_end-requires
note_end-requires g c =
    let b = c.requires.before.before in
    let w = slice_get_within c.args.self.now.tasks.items c.args.task.0 b.held b.is in
    subst (λ (n : ℕ). c.args.task.0 < n) (sym (ap (λ (ts : List TreeTask). length ts) c.in_ok-note_print.ensures.tasks ∙ c.requires.sizes)) w

pub returns : goal.returns
returns g c =
    let b = c.requires.before.before in
    let tasks = c.args.self.now.tasks.items in
    let v = c.args.task.0 in
    let read = read_is tasks v c.index.result.now b.held b.is c.index.ensures in
    let read_again = read_is tasks v c.index-2.result.now b.held b.is c.index-2.ensures in
    let act : c.pending.result.now ≡ pending_of b.held.body = c.pending.ensures.kept ∙ ap (λ (h : Held). pending_of h.body) (some_is (sym read ∙ b.is)) in
    let act_again : c.pending-2.result.now ≡ pending_of b.held.body = c.pending-2.ensures.kept ∙ ap (λ (h : Held). pending_of h.body) (some_is (sym read_again ∙ b.is)) in
    let gone : HasGoneOn c.args.code.now v (found_in (pending_of b.held.body) c.args.self.now.cells.items) tasks c.go_on.new.tasks.items
    = subst (λ (n : ℕ). HasGoneOn c.args.code.now v n tasks c.go_on.new.tasks.items) (c.happen-loaded.ensures.found ∙ ap (λ (a : Act). found_in a c.args.self.now.cells.items) act) c.in_ok-go_on.ensures in
    stepped c.args.code.now v (kept_of g.D.Deps.seen c.args.self.now)
    (record { tasks = c.go_on.new.tasks.items; tree = c.note_end.new.tree; seen = g.D.Deps.seen c.args.self.now.deps; cells = c.happen-loaded.new.cells.items })
    b.held b.is c.requires.before.none gone (c.happen-loaded.ensures.cells ∙ ap (λ (a : Act). cells_after (act_seen a) c.args.self.now.cells.items) act) c.index-3.result.now
    (read_is c.go_on.new.tasks.items v c.index-3.result.now gone.after gone.changed_is.is c.index-3.ensures)
    (c.note_end.ensures.tasks ∙ ap (λ (ts : List TreeTask). noted v (is_over c.index-3.result.now.body) ts) c.in_ok-note_print.ensures.tasks)
    (c.note_end.ensures.prints ∙ c.in_ok-note_print.ensures.prints ∙ ap (λ (a : Act). prints_after a c.args.self.now.tree.prints) act_again) (subst IsKeyed act_again c.in_ok-note_print.ensures.keyed) (seen_same (g.D.Deps.seen c.args.self.now.deps))
