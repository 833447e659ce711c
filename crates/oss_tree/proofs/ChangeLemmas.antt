-- A tree in which one task has changed, but for its place and its children.
use Rattle.std.proofs.Common.{◌≡◌, ℕ, ◌≤◌, ◌⊎◌, inl, inr, refl, sym, ap, subst, ◌∙◌, true, false, List, [], ◌∷◌, ◌++◌, Option, Some, length}
use Rattle.std.specs.Prelude.{slice_get, slice_set, slice_index}
use Rattle.std.proofs.lemmas.List.{length-set}
use Rattle.oss_tree.specs.declared.task.Task.{Task}
use Rattle.oss_tree.specs.Tasks.{IsClosed, IsTree}
use Rattle.oss_tree.specs.Marks.{Alone, AreMarked, AreMarkedBut, Nobody, is_settled, settles}
use Rattle.oss_tree.proofs.ListLemmas.{get_set_other, get_set_same, some_is, which}
use Rattle.oss_tree.proofs.MarkLemmas.{settled_if, settled_is, sure}

-- the second stands where the first stood, with the same children
pub record SamePlace (one other : Task) : Type 0 where
  pub point : other.point ≡ one.point
  pub parent : other.parent ≡ one.parent
  pub children : other.children ≡ one.children

unchanged : (one : Task) → SamePlace one one
unchanged one = record { point = refl; parent = refl; children = refl }

record Other (tasks : List Task) (u : ℕ) (one : Task) : Type 0 where
  task : Task
  at_ : slice_get tasks u ≡ Some task
  same : SamePlace one task

record Before (tasks : List Task) (u : ℕ) (other : Task) : Type 0 where
  task : Task
  at_ : slice_get tasks u ≡ Some task
  same : SamePlace task other

module _ (tasks : List Task) (at : ℕ) (one now : Task) (is : slice_get tasks at ≡ Some one) (same : SamePlace one now) where
  abbrev pub after : List Task
  after = slice_set tasks at now

  forth : (u : ℕ) (x : Task) → slice_get tasks u ≡ Some x → Other after u x
  forth u x e = go (which u at)
    where
      go : (u ≡ at) ⊎ (u ≡ at → ⊥) → Other after u x
      go (inl a) =
          let o : one ≡ x = some_is is (ap (slice_get tasks) (sym a) ∙ e) in
          record {
            task = now;
            at_ = ap (slice_get after) a ∙ get_set_same tasks at one now is;
            same = subst (λ (z : Task). SamePlace z now) o same;
          }
      go (inr ne) = record { task = x; at_ = get_set_other tasks at u now ne ∙ e; same = unchanged x }

  back : (u : ℕ) (y : Task) → slice_get after u ≡ Some y → Before tasks u y
  back u y e = go (which u at)
    where
      go : (u ≡ at) ⊎ (u ≡ at → ⊥) → Before tasks u y
      go (inl a) =
          let o : now ≡ y = some_is (get_set_same tasks at one now is) (ap (slice_get after) (sym a) ∙ e) in
          record {
            task = one;
            at_ = ap (slice_get tasks) a ∙ is;
            same = subst (λ (z : Task). SamePlace one z) o same;
          }
      go (inr ne) = record { task = y; at_ = sym (get_set_other tasks at u now ne) ∙ e; same = unchanged y }

  pub tree_after : IsTree tasks → IsTree after
  tree_after tree =
      let m = forth 0 tree.main tree.main_at in
      record {
        main = m.task;
        main_at = m.at_;
        main_point = m.same.point ∙ tree.main_point;
        main_parent = m.same.parent ∙ tree.main_parent;
        created = λ c y l e. let x = back c y e in
            let h = tree.created c x.task l x.at_ in
            let k = forth h.number_is h.creator h.at_ in
            record {
              number_is = h.number_is;
              creator = k.task;
              at_ = k.at_;
              parent = x.same.parent ∙ h.parent;
              place = h.place;
              is = ap (λ (z : List _). slice_get z h.place) k.same.children ∙ h.is;
            };
        children = λ t y e k c f. let x = back t y e in
            let h = tree.children t x.task x.at_ k c (ap (λ (z : List _). slice_get z k) (sym x.same.children) ∙ f) in
            let o = forth c h.task h.at_ in
            record {
              task = o.task;
              at_ = o.at_;
              later = h.later;
              parent = o.same.parent ∙ h.parent;
              point = o.same.point ∙ h.point ∙ ap (λ (p : List ℕ). p ++ k ∷ []) (sym x.same.point);
            };
        few = λ t y e. let x = back t y e in let l = tree.few t x.task x.at_ in subst (λ (z : List _). length z ≤ 65535) (sym x.same.children) l;
        shallow = λ t y e. let x = back t y e in let l = tree.shallow t x.task x.at_ in subst (λ (z : List ℕ). length z ≤ 65) (sym x.same.point) l;
      }

  -- where the change can only have closed the task, it alone may be settled now

  module _ (marks : List ℕ) (closes : IsClosed one → IsClosed now) where
    settled_other : (c : ℕ) → (c ≡ at → ⊥) → is_settled after marks c ≡ is_settled tasks marks c
    settled_other c ne = ap (λ (o : Option Task). settles o (slice_index marks c)) (get_set_other tasks at c now ne)

    stays : (c : ℕ) → is_settled tasks marks c ≡ true → (c ≡ at) ⊎ (c ≡ at → ⊥) → is_settled after marks c ≡ true
    stays c s (inl a) =
        let p = settled_is tasks marks at one is (ap (is_settled tasks marks) (sym a) ∙ s) in
        ap (is_settled after marks) a ∙ settled_if after marks at now (get_set_same tasks at one now is) (closes p.closed) (p.whole ∙ ap length (sym same.children))
    stays c s (inr ne) = settled_other c ne ∙ s

    open_still : (c : ℕ) → is_settled tasks marks c ≡ false → (c ≡ at) ⊎ (c ≡ at → ⊥) → (is_settled after marks c ≡ false) ⊎ Alone at c
    open_still c s (inl a) = inr a
    open_still c s (inr ne) = inl (settled_other c ne ∙ s)

    pub marked_after : AreMarked tasks marks → AreMarkedBut after marks Nobody (Alone at)
    marked_after m =
        record {
          each = m.each ∙ sym (length-set tasks at now);
          marked = λ t y e. let x = back t y e in
              let k = m.marked t x.task x.at_ in
              record {
                within = subst (λ (z : List _). slice_index marks t ≤ length z) (sym x.same.children) k.within;
                behind = λ i c l f. inl (stays c (sure (k.behind i c l (ap (λ (z : List _). slice_get z i) (sym x.same.children) ∙ f))) (which c at));
                before = λ c f. open_still c (sure (k.before c (ap (λ (z : List _). slice_get z (slice_index marks t)) (sym x.same.children) ∙ f))) (which c at);
              };
        }
