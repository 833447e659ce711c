-- The tree has of a task just the tasks that its body has created.
use Rattle.std.proofs.Common.{◌≡◌, ℕ, zero, suc, ◌<◌, ◌≤◌, refl, sym, subst, ap, ◌∙◌, List, [], ◌∷◌, ◌++◌, false, arith, None, length}
use Rattle.std.proofs.lemmas.List.{length-reverse}
use Rattle.std.proofs.lemmas.Option.{slice_get_within}
use Rattle.oss_model.specs.Order.{written}
use Rattle.oss_model.specs.Context.{right_of, create_fault}
use Rattle.oss_model.specs.Bodies.{Order, Start, stack_from, act_of, stage_act, stage_created}
use Rattle.oss_model.specs.Bodies.Act.{Created}
use Rattle.oss_model.specs.History.{MadeBy}
use Rattle.oss_model.specs.Machine.{Task, State, At}
use Rattle.oss_model.specs.Moves.{act_now, created_now}
use Rattle.oss_model.proofs.OrderLemmas.{reverse_cons}
use Rattle.oss_model.proofs.SortLemmas.{reverse_same}
use Rattle.oss_model.proofs.StageLemmas.{creating, creation_at, creation_counts, created_grows}
use Rattle.oss_model.proofs.TreeLemmas.{at_same, starts_well}
use Rattle.oss_code.specs.declared.code.CodeParts.{CodeParts}
use Rattle.oss_machine.specs.Frames.{CodeScript}
use Rattle.oss_machine.specs.Machines.{asks}
use Rattle.oss_tree.specs.Tasks.{HasPoint, number}
use Rattle.oss_tree.proofs.ListLemmas.{there_is}
use Rattle.oss_tree.proofs.TreeLemmas as trees
use Rattle.oss_core.specs.Kept.{IsCore, Kept}
use Rattle.oss_core.proofs.CoreLemmas.{made}
use Rattle.oss_core.proofs.FullOpenLemmas.{shallow, few, stack_passed, stage_depth, path_depth}
use Rattle.oss_core.proofs.MatchLemmas.{tail_is}

-- the point of a child: that of its creator with the number of the child behind it
pub written_child : (k : ℕ) (p : List ℕ) → written (k ∷ p) ≡ written p ++ k ∷ []
written_child k p = ap (λ (q : List ℕ). 0 ∷ q) (reverse_cons k p)

module _ (code : CodeParts) (main : Start CodeScript) (first : List ℕ) (old : Kept) (s : State CodeScript) (core : IsCore code main first old s) (v : ℕ) (p : List ℕ) (t : Task CodeScript) (point : HasPoint old.tree.tasks v (written p)) (at_ : At s p t)
    (order : Order CodeScript) (act_is : act_now (asks code) t.body ≡ Created order false) where
  -- a child that the tree has is one that the body has created
  no_more : (n : ℕ) → length point.task.children ≡ suc n → suc n ≤ created_now (asks code) t.body
  no_more n e =
      let child = there_is point.task.children n (omega (arith, e)) in
      let h = core.known.tree_is.children v point.task point.at_ n child.0.0 child.1 in
      let l = slice_get_within old.tree.tasks child.0.0 h.task h.at_ in
      let z = core.known.size in
      let b = there_is core.bodies child.0.0 (omega (arith, l, z)) in
      let k = core.known.each child.0.0 b.0 h.task b.1 h.at_ in
      let q : b.0.start.path ≡ n ∷ p = same_written b.0.start.path (n ∷ p) (sym k.point ∙ h.point ∙ ap (λ (x : List ℕ). x ++ n ∷ []) point.point ∙ sym (written_child n p)) in
      let r = core.stands.there child.0.0 b.0 b.1 in
      let m = (made code main first old s core).child n p r.0 (subst (λ (x : List ℕ). At s x r.0) q r.1) in
      counts m (at_same s p m.creator t m.at_ at_)
    where
      same_written : (x y : List ℕ) → written x ≡ written y → x ≡ y
      same_written x y g = reverse_same x y (tail_is g)

      counts : {k : Task CodeScript} (m : MadeBy (asks code) s n p k) → m.creator ≡ t → suc n ≤ created_now (asks code) t.body
      counts m f =
          let a = creation_counts (asks code) m.creator.body.start m.answer m.past m.order m.act in
          let b = created_grows (asks code) m.creator.body.start m.happened in
          let c = m.number in
          let d = ap (λ (x : Task CodeScript). created_now (asks code) x.body) f in
          omega (arith, a, b, c, d)

  -- a task that the body has created is a child that the tree has
  no_less : (n : ℕ) → created_now (asks code) t.body ≡ suc n → n < length point.task.children
  no_less n e =
      let open_ = (creating (asks code) t.body.start t.body.found order act_is).open_ in
      let none = (starts_well (asks code) main s core.setting.starts (made code main first old s core) p t at_).1 in
      let x = creation_at (asks code) t.body.start t.body.found n open_ none (omega (arith, e)) in
      let u = (made code main first old s core).made p t x.past x.answer x.order at_ x.happened x.act in
      let w = core.stands.back (n ∷ p) u.0 (subst (λ (i : ℕ). At s (i ∷ p) u.0) x.number u.1) in
      let l = slice_get_within core.bodies w.0 w.1.one w.1.is in
      let z = core.known.size in
      let y = there_is old.tree.tasks w.0 (omega (arith, l, z)) in
      let k = core.known.each w.0 w.1.one y.0 w.1.is y.1 in
      let c = trees.on_way core.known.tree_is (suc w.0) w.0 y.0 v point.task n [] (omega arith) y.1 point.at_
      (k.point ∙ ap written w.1.path ∙ written_child n p ∙ ap (λ (q : List ℕ). q ++ n ∷ []) (sym point.point)) in
      slice_get_within point.task.children n (number c.0) c.1

  -- so the tree has as many
  pub children_count : length point.task.children ≡ created_now (asks code) t.body
  children_count = go (length point.task.children) refl (created_now (asks code) t.body) refl
    where
      go : (n : ℕ) → length point.task.children ≡ n → (m : ℕ) → created_now (asks code) t.body ≡ m → length point.task.children ≡ created_now (asks code) t.body
      go zero e zero f = e ∙ sym f
      go zero e (suc m) f = let l = no_less m f in absurd (omega (arith, l, e))
      go (suc n) e zero f = let l = no_more n e in absurd (omega (arith, l, f))
      go (suc n) e (suc m) f = let l = no_less m f in let k = no_more n e in omega (arith, l, k, e, f)

  -- the body may create
  passes : create_fault (stack_from (asks code) t.body.start t.body.found).base.context ≡ None
  unfolding stage_act act_of
  passes =
      let x = stack_from (asks code) t.body.start t.body.found in
      stack_passed (asks code) (right_of t.body.start.context) x.base x.inner x.ended order (creating (asks code) t.body.start t.body.found order act_is).alone act_is

  -- and there is room for one more
  pub room : length point.task.children < 65535
  unfolding stage_created
  room = let e = children_count in let f = few (stack_from (asks code) t.body.start t.body.found).base.context passes in omega (arith, e, f)

  -- which is not nested too deep
  pub low : length point.task.point ≤ 64
  low =
      let d = path_depth (asks code) main s (made code main first old s core) core.depth p t at_ in
      let e = stage_depth (asks code) t.body.start t.body.found in
      let f = shallow (stack_from (asks code) t.body.start t.body.found).base.context passes in
      let g : length point.task.point ≡ suc (length p) = ap length point.point ∙ ap suc (length-reverse p) in
      omega (arith, d, e, f, g)
