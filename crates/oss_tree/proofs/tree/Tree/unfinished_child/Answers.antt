use Rattle.std.proofs.Common.{◌≡◌, ◌<◌, length, refl, Some, sym, subst, arith, rules}
use Rattle.std.specs.Prelude.{slice_get, slice_index}
use Rattle.std.proofs.lemmas.Option.{slice_get_read}
use Rattle.std.proofs.lemmas.List.{get_or_read}
use Rattle.oss_tree.specs.Tasks.{Kept}
use Rattle.oss_tree.proofs.MarkLemmas.{first_left}
use Rattle.oss_tree.proofs.tree.Tree.unfinished_child.Goals as goal

pub returns : goal.returns
returns c =
    let tasks = c.self.inside.tasks.items in
    let marks = c.self.inside.marks.items in
    let t = c.args.task.0 in
    let within : t < length tasks = subst (λ (v : Kept). t < length v.tasks) (sym c.self.view_is) c.requires in
    let each = c.self.invariant.1.each in
    let at_ : slice_get tasks t ≡ Some c.index.result.now = slice_get_read tasks (length tasks) t c.index.result.now refl within c.index.ensures in
    let mark : c.index-mark.result.now ≡ slice_index marks t = get_or_read marks t c.index-mark.result.now (omega (arith, within, each)) c.index-mark.ensures 0 in
    let is : c.copied.result ≡ slice_get c.index.result.now.children c.index-mark.result.now = search rules in
    rw (← c.self.view_is) (first_left c.self.invariant.0 c.self.invariant.1 t c.index.result.now at_ c.index-mark.result.now mark c.copied.result is)
