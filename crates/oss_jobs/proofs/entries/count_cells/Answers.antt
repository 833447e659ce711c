use Rattle.std.proofs.Common.{◌≤◌, ℕ, List, sym, subst, ap, ◌∙◌}
use Rattle.oss_syntax.specs.declared.access.Access.{Access}
use Rattle.oss_jobs.specs.Entries.{cells_in}
use Rattle.oss_jobs.proofs.EntryLemmas.{few_cells}
use Rattle.oss_jobs.proofs.entries.count_cells.Goals as goal

pub sum-requires : goal.sum-requires
sum-requires c = subst (λ (xs : List Access). cells_in xs ≤ 1048576) (sym c.as_slice.ensures) (few_cells c.args.accesses.now c.requires)

pub returns-clause-few : goal.returns-clause-few
returns-clause-few c = subst (λ (n : ℕ). n ≤ 1048576) (sym (c.sum.ensures ∙ ap (λ (xs : List Access). cells_in xs) c.as_slice.ensures)) (few_cells c.args.accesses.now c.requires)
