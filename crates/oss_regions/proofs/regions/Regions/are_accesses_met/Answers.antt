use Rattle.std.proofs.Common.{◌≡◌, ◌+◌, sym, ap, subst, ◌∙◌, List, drop, inl, inr, ◌⊎◌}
use Rattle.oss_syntax.specs.declared.access.Access.{Access}
use Rattle.oss_model.specs.Order.{IsIn}
use Rattle.oss_deps.specs.declared.opened.Open.{Open}
use Rattle.oss_deps.specs.Columns.{IsNumber}
use Rattle.oss_deps.proofs.AskLemmas.{next_item, item_in, none_left}
use Rattle.oss_regions.specs.Kept.{IsAccessMet}
use Rattle.oss_regions.proofs.WaitLemmas.{entry_of, false_tells, not_met, true_tells}
use Rattle.oss_regions.proofs.regions.Regions.are_accesses_met.Goals as goal

pub is_access_met-requires : goal.is_access_met-requires
is_access_met-requires c = (
  c.requires.0,
  c.requires.1,
  subst (λ (xs : List Access). IsIn c.access-item.result xs) (c.as_slice-access-items.ensures ∙ ap (λ (x : Open). x.accesses) (entry_of c.self.view_is c.args.number c.requires.0 c.index.result.now c.requires.1 c.index.ensures))
      (item_in c.as_slice-access-items.result.now c.loop-access.access-index c.access-item.result c.loop-access-test.true c.access-item.is),
)

pub returns-then-not-is_access_met : goal.returns-then-not-is_access_met
returns-then-not-is_access_met c = λ o number.
    false_tells
    (λ all. not_met c.args.self.now o c.access-item.result c.is_access_met.result (c.is_access_met.ensures o number) c.if-not-is_access_met.true
    (all c.access-item.result
    (subst (λ (xs : List Access). IsIn c.access-item.result xs) (c.as_slice-access-items.ensures ∙ ap (λ (x : Open). x.accesses) (entry_of c.self.view_is c.args.number o c.index.result.now number c.index.ensures))
    (item_in c.as_slice-access-items.result.now c.loop-access.access-index c.access-item.result c.loop-access-test.true c.access-item.is))))

pub loop-access-preserved : goal.loop-access-preserved
loop-access-preserved c = λ o number a i. go o number a (c.loop-access.invariant o number a i)
  where
    met : (o : Open) → IsNumber c.args.self.now.opens c.args.number o → (a : Access) → (a ≡ c.access-item.result) ⊎ IsIn a (drop (c.loop-access.access-index + 1) c.as_slice-access-items.result.now)
        → IsIn a (drop (c.loop-access.access-index + 1) c.as_slice-access-items.result.now) ⊎ IsAccessMet c.args.self.now o a
    met o number a (inl e) = inr (subst (λ (x : Access). IsAccessMet c.args.self.now o x) (sym e) ((c.is_access_met.ensures o number).0 c.if-not-is_access_met.false))
    met o number a (inr j) = inl j

    go : (o : Open) → IsNumber c.args.self.now.opens c.args.number o → (a : Access) → IsIn a (drop c.loop-access.access-index c.as_slice-access-items.result.now) ⊎ IsAccessMet c.args.self.now o a
        → IsIn a (drop (c.loop-access.access-index + 1) c.as_slice-access-items.result.now) ⊎ IsAccessMet c.args.self.now o a
    go o number a (inr m) = inr m
    go o number a (inl j) = met o number a (next_item c.as_slice-access-items.result.now c.loop-access.access-index c.access-item.result a c.loop-access-test.true c.access-item.is j)

pub returns : goal.returns
returns c = λ o number. true_tells (λ a i. go o number a (c.loop-access.invariant o number a i))
  where
    go : (o : Open) → IsNumber c.args.self.now.opens c.args.number o → (a : Access) → IsIn a (drop c.loop-access.access-index c.as_slice-access-items.result.now) ⊎ IsAccessMet c.args.self.now o a → IsAccessMet c.args.self.now o a
    go o number a (inr m) = m
    go o number a (inl j) = absurd (none_left c.as_slice-access-items.result.now c.loop-access.access-index a c.loop-access-test.false j)
