-- What is told of a pass is the spans that it gave up, one more at a time.
use Rattle.std.proofs.Common.{◌≡◌, ℕ, ◌+◌, inl, inr, refl, sym, subst, ap, ◌∙◌, arith, List, [], ◌∷◌, Bool, true, false}
use Rattle.std.specs.Prelude.{◌==◌, ◌&&◌, if◌then◌else◌}
use Rattle.std.proofs.lemmas.Bool.Decides.{nat_tests}
use Rattle.oss_model.specs.Order.{written}
use Rattle.oss_model.specs.Machine.{same_path}
use Rattle.oss_model.proofs.Exclusive.{same_self}
use Rattle.oss_model.proofs.TreeLemmas.{same_path_is}
use Rattle.oss_wave_laws.specs.Rounds.{Span, alike}
use Rattle.oss_tree.specs.declared.task.Task.{Task as TreeTask}
use Rattle.oss_tree.specs.Tasks.{HasPoint, IsTree}
use Rattle.oss_tree.proofs.TreeLemmas.{one_point}
use Rattle.std.specs.Prelude.{slice_get}
use Rattle.oss_core.specs.declared.passing.Passed.{Passed}
use Rattle.oss_core.specs.Passing.{AreBoth, Continues, IsAdded, Tells, TellsOf}
use Rattle.oss_core.proofs.KeepLemmas.{some_is}
use Rattle.oss_core.proofs.SpanLemmas.{alike_self, at_back, both_true, continues, one_span, way_is}
use Rattle.oss_core.proofs.TreeFacts.{one_path}

module _ (tasks : List TreeTask) (tree : IsTree tasks) where
  -- the second run goes on with the first just where the spans do
  goes_told : (y x : Passed) (sy sx : Span) → Tells tasks y sy → Tells tasks x sx → Continues y x → continues sy sx ≡ true
  goes_told y x sy sx ty tx g =
      let points : written sy.path ≡ written sx.path = sym ty.point.point ∙ ap (λ (t : TreeTask). t.point) (some_is (sym ty.point.at_ ∙ ap (λ (v : ℕ). slice_get tasks v) g.task ∙ tx.point.at_)) ∙ tx.point.point in
      let a : same_path sy.path sx.path ≡ true = ap (λ (p : List ℕ). same_path sy.path p) (sym (one_path sy.path sx.path points)) ∙ same_self sy.path in
      let b : alike sy.joined sx.joined ≡ true = ap (λ (j : Bool). alike sy.joined j) (sym tx.joined ∙ sym g.joined ∙ ty.joined) ∙ alike_self sy.joined in
      let e : sy.first + sy.count ≡ sx.first = sym ty.last ∙ g.touches ∙ tx.first in
      let c : (sy.first + sy.count == sx.first) ≡ true = grind (arith, nat_tests, e) in
      rw (a, b, c) refl

  told_goes : (y x : Passed) (sy sx : Span) → Tells tasks y sy → Tells tasks x sx → continues sy sx ≡ true → Continues y x
  told_goes y x sy sx ty tx h =
      let k = both_true (same_path sy.path sx.path && alike sy.joined sx.joined) (sy.first + sy.count == sx.first) h in
      let j = both_true (same_path sy.path sx.path) (alike sy.joined sx.joined) k.0 in
      let p = same_path_is sy.path sx.path j.0 in
      let c = k.1 in
      let e : sy.first + sy.count ≡ sx.first = grind (arith, nat_tests, c) in
      record {
        task = one_point tree y.task.0 x.task.0 ty.point.task tx.point.task ty.point.at_ tx.point.at_ (ty.point.point ∙ ap written p ∙ sym tx.point.point);
        joined = ty.joined ∙ way_is sy.joined sx.joined j.1 ∙ sym tx.joined;
        touches = ty.last ∙ e ∙ sym tx.first;
      }

  -- one run in place of two
  both_tells : (y x z : Passed) (sy sx : Span) → Tells tasks y sy → Tells tasks x sx → Continues y x → AreBoth y x z → Tells tasks z (one_span sy sx)
  both_tells y x z sy sx ty tx g are =
      let a = ty.last in
      let b = tx.first in
      let c = g.touches in
      let d = tx.last in
      record {
        point = subst (λ (v : ℕ). HasPoint tasks v (written sy.path)) (sym are.task) ty.point;
        first = are.lo ∙ ty.first;
        last = are.hi ∙ d ∙ omega (arith, a, b, c);
        joined = are.joined ∙ ty.joined;
      }

  last_tells : (y x : Passed) (after : List Passed) (sy sx : Span) → Tells tasks y sy → Tells tasks x sx → IsAdded x (y ∷ []) after → (b : Bool) → continues sy sx ≡ b → TellsOf tasks after (if continues sy sx then one_span sy sx ∷ [] else sy ∷ sx ∷ [])
  last_tells y x after sy sx ty tx (inl (g, (z, are, e))) true k = rw (k, e) (both_tells y x z sy sx ty tx g are, tt)
  last_tells y x after sy sx ty tx (inl (g, (z, are, e))) false k = let h = goes_told y x sy sx ty tx g in absurd cc
  last_tells y x after sy sx ty tx (inr (apart, e)) true k = absurd (apart (told_goes y x sy sx ty tx k))
  last_tells y x after sy sx ty tx (inr (apart, e)) false k = rw (k, e) (ty, (tx, tt))

  -- one run more
  pub added_tells : (x : Passed) (sx : Span) (before after : List Passed) (spans : List Span) → TellsOf tasks before spans → Tells tasks x sx → IsAdded x before after → TellsOf tasks after (at_back spans sx)
  added_tells x sx [] after [] t tx e = subst (λ (ps : List Passed). TellsOf tasks ps (sx ∷ [])) (sym e) (tx, tt)
  added_tells x sx [] after (s ∷ ss) t tx e = absurd t
  added_tells x sx (y ∷ ys) after [] t tx e = absurd t
  added_tells x sx (y ∷ []) after (sy ∷ []) t tx e = last_tells y x after sy sx t.0 tx e (continues sy sx) refl
  added_tells x sx (y ∷ []) after (sy ∷ sz ∷ ss) t tx e = absurd t.1
  added_tells x sx (y ∷ z ∷ ys) after (sy ∷ []) t tx e = absurd t.1
  added_tells x sx (y ∷ z ∷ ys) after (sy ∷ sz ∷ ss) t tx (more, add, e) =
      subst (λ (ps : List Passed). TellsOf tasks ps (sy ∷ at_back (sz ∷ ss) sx)) (sym e) (t.0, added_tells x sx (z ∷ ys) more (sz ∷ ss) t.1 tx add)
