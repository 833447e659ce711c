use Rattle.std.proofs.Common.{◌≡◌, IfOk, map, rules}
use Rattle.std.proofs.lemmas.List.Sorted.{answers_always}
use Rattle.oss_core.specs.Ordering.{comes_before}
use Rattle.oss_core.proofs.CallLemmas.{if_ok}
use Rattle.oss_core.proofs.PlacedLemmas.{ranks}
use Rattle.oss_core.proofs.ordering.sorted.Goals as goal

pub returns : goal.returns
returns c =
    let shown = c.sort_by.new.self.items in
    let sorted = c.in_ok-sort_by.ensures.sorted comes_before ranks (answers_always _ _ _ (λ f a r g h. search rules)) in
    let stable = c.sort_by.ensures.stable comes_before ranks (answers_always _ _ _ (λ f a r g h. search rules)) in
    let tasks : IfOk c.tasks_of.result (λ tasks. tasks.items ≡ map (λ one. one.task) shown) = search rules in
    if_ok c.tasks_of.result (λ tasks e. record { shown = shown; sorted = sorted; stable = stable; tasks_are = e }) tasks
