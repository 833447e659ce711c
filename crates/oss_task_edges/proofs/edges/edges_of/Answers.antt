use Rattle.std.proofs.Common.{List, sym, subst, rules}
use Rattle.std.specs.List.Sorted.{IsNonDecreasingBy, IsPermutation}
use Rattle.std.proofs.lemmas.List.Sorted.{IsNonDecreasingBy-from_sort_by_key}
use Rattle.oss_task_edges.specs.declared.part.Part.{Part}
use Rattle.oss_task_edges.proofs.EnterLemmas.{if_ok}
use Rattle.oss_task_edges.proofs.JoinLemmas.{joined_as}
use Rattle.oss_task_edges.proofs.edges.edges_of.Goals as goal

pub joined-requires : goal.joined-requires
joined-requires c = subst (λ (xs : List Part). IsNonDecreasingBy (λ (p : Part). p.from) xs) (sym c.as_slice.ensures.value)
    (IsNonDecreasingBy-from_sort_by_key (λ (p : Part). p.from) _ c.in_ok-sort_by_key.ensures.sorted (λ a r q k. search rules))

pub returns : goal.returns
returns c = if_ok c.joined.result (λ edges h items e. joined_as items c.args.parts.items c.as_slice.result.now (subst (λ (xs : List Part). IsPermutation c.args.parts.items xs) (sym c.as_slice.ensures.value) c.in_ok-sort_by_key.ensures.permutation) edges (h items e)) c.joined.ensures
