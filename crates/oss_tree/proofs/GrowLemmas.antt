-- A tree to which one task has been added.
use Rattle.std.proofs.Common.{◌≡◌, ℕ, ◌<◌, ◌≤◌, ◌⊎◌, inl, inr, refl, sym, ap, subst, ◌∙◌, Bool, true, false, List, [], ◌∷◌, ◌++◌, Option, Some, length, arith}
use Rattle.std.specs.Prelude.{slice_get, slice_set, slice_index}
use Rattle.std.proofs.lemmas.List.{length-set, get_or_append_left}
use Rattle.std.proofs.lemmas.Option.{slice_get_within}
use Rattle.oss_tree.specs.declared.task.Task.{Task}
use Rattle.oss_tree.specs.Tasks.{HasCreator, IsChildOf, IsTree, main_task, new_task, number, with_child}
use Rattle.oss_tree.specs.Marks.{Alone, AreMarked, AreMarkedBut, IsMarked, Nobody, is_settled, settles}
use Rattle.oss_tree.proofs.ListLemmas.{get_added, get_front, get_last, get_set_other, get_set_same, longer_by, some_is, which}
use Rattle.oss_tree.proofs.TreeLemmas.{same_number}
use Rattle.oss_tree.proofs.MarkLemmas.{not_settled, sure}

-- main alone

no_place : {A : Type 0} (i : ℕ) (x : A) → slice_get [] i ≡ Some x → ⊥
no_place i x e = cc

only_main : (t : ℕ) (one : Task) → slice_get (main_task ∷ []) t ≡ Some one → (t ≡ 0) × (one ≡ main_task)
only_main t one e = go (get_added [] main_task t one e)
  where
    go : (slice_get [] t ≡ Some one) ⊎ ((t ≡ 0) × (one ≡ main_task)) → (t ≡ 0) × (one ≡ main_task)
    go (inl f) = absurd (no_place t one f)
    go (inr p) = p

pub main_tree : IsTree (main_task ∷ [])
main_tree = record {
  main = main_task;
  main_at = refl;
  main_point = refl;
  main_parent = refl;
  created = λ c one l e. let p = (only_main c one e).0 in absurd (omega (arith, l, p));
  children = λ t one e k c f. let p = (only_main t one e).1 in absurd (no_place k (number c) (ap (λ (z : Task). slice_get z.children k) (sym p) ∙ f));
  few = λ t one e. let p = (only_main t one e).1 in subst (λ (z : Task). length z.children ≤ 65535) (sym p) (omega arith);
  shallow = λ t one e. let p = (only_main t one e).1 in subst (λ (z : Task). length z.point ≤ 65) (sym p) (omega arith);
}

pub main_marked : AreMarked (main_task ∷ []) (0 ∷ [])
main_marked = record {
  each = refl;
  marked = λ t one e. let p = only_main t one e in
      let q = sym p.1 in
      let m : slice_index (0 ∷ []) t ≡ 0 = ap (slice_index (0 ∷ [])) p.0 in
      record {
        within = omega (arith, m);
        behind = λ k c l f. absurd (omega (arith, l, m));
        before = λ c f. absurd (no_place (slice_index (0 ∷ []) t) (number c) (ap (λ (z : Task). slice_get z.children (slice_index (0 ∷ []) t)) q ∙ f));
      };
}

-- one more

module _ (tasks : List Task) (p : ℕ) (creator : Task) (wait : Bool) (is : slice_get tasks p ≡ Some creator) where
  abbrev n : ℕ
  n = length tasks

  abbrev child : Task
  child = new_task creator p wait

  abbrev front : List Task
  front = slice_set tasks p (with_child creator n)

  abbrev pub more : List Task
  more = front ++ child ∷ []

  front_long : length front ≡ n
  front_long = length-set tasks p (with_child creator n)

  inside : p < n
  inside = slice_get_within tasks p creator is

  pub creator_now : slice_get more p ≡ Some (with_child creator n)
  creator_now = get_front front child p (with_child creator n) (get_set_same tasks p creator (with_child creator n) is)

  child_now : slice_get more n ≡ Some child
  child_now = ap (slice_get more) (sym front_long) ∙ get_last front child

  other_now : (u : ℕ) (x : Task) → (u ≡ p → ⊥) → slice_get tasks u ≡ Some x → slice_get more u ≡ Some x
  other_now u x ne e = get_front front child u x (get_set_other tasks p u (with_child creator n) ne ∙ e)

  -- what a task that was there is now
  record Now (u : ℕ) (x : Task) : Type 0 where
    task : Task
    at_ : slice_get more u ≡ Some task
    point : task.point ≡ x.point
    parent : task.parent ≡ x.parent
    children : (k c : ℕ) → slice_get x.children k ≡ Some (number c) → slice_get task.children k ≡ Some (number c)

  now : (u : ℕ) (x : Task) → slice_get tasks u ≡ Some x → Now u x
  now u x e = go (which u p)
    where
      go : (u ≡ p) ⊎ (u ≡ p → ⊥) → Now u x
      go (inl a) =
          let o : creator ≡ x = some_is is (ap (slice_get tasks) (sym a) ∙ e) in
          record {
            task = with_child creator n;
            at_ = ap (slice_get more) a ∙ creator_now;
            point = ap (λ (z : Task). z.point) o;
            parent = ap (λ (z : Task). z.parent) o;
            children = λ k c f. get_front creator.children (number n) k (number c) (ap (λ (z : Task). slice_get z.children k) o ∙ f);
          }
      go (inr ne) = record {
        task = x;
        at_ = other_now u x ne e;
        point = refl;
        parent = refl;
        children = λ k c f. f;
      }

  -- which task one of the grown tree is
  data Which (u : ℕ) (y : Task) : Type 0 where
    other : (u ≡ p → ⊥) → slice_get tasks u ≡ Some y → Which u y
    creating : u ≡ p → y ≡ with_child creator n → Which u y
    created : u ≡ n → y ≡ child → Which u y

  which_task : (u : ℕ) (y : Task) → slice_get more u ≡ Some y → Which u y
  which_task u y e = go (get_added front child u y e) (which u p)
    where
      go : (slice_get front u ≡ Some y) ⊎ ((u ≡ length front) × (y ≡ child)) → (u ≡ p) ⊎ (u ≡ p → ⊥) → Which u y
      go (inr (a, b)) w = created (a ∙ front_long) b
      go (inl f) (inl a) = creating a (some_is (ap (slice_get front) (sym a) ∙ f) (get_set_same tasks p creator (with_child creator n) is))
      go (inl f) (inr ne) = other ne (sym (get_set_other tasks p u (with_child creator n) ne) ∙ f)

  -- a child of the creator was there, or is the new one
  child_of_creator : (k c : ℕ) → slice_get (with_child creator n).children k ≡ Some (number c) → (slice_get creator.children k ≡ Some (number c)) ⊎ ((k ≡ length creator.children) × (c ≡ n))
  child_of_creator k c f = go (get_added creator.children (number n) k (number c) f)
    where
      go : (slice_get creator.children k ≡ Some (number c)) ⊎ ((k ≡ length creator.children) × (number c ≡ number n)) → (slice_get creator.children k ≡ Some (number c)) ⊎ ((k ≡ length creator.children) × (c ≡ n))
      go (inl e) = inl e
      go (inr (a, b)) = inr (a, same_number b)

  module _ (tree : IsTree tasks) where
    -- a child that was there is one still
    child_still : (t : ℕ) (x y : Task) (k c : ℕ) → slice_get tasks t ≡ Some x → y.point ≡ x.point → slice_get x.children k ≡ Some (number c) → IsChildOf more t y k c
    child_still t x y k c e q f =
        let h = tree.children t x e k c f in
        let o = now c h.task h.at_ in
        record {
          task = o.task;
          at_ = o.at_;
          later = h.later;
          parent = o.parent ∙ h.parent;
          point = o.point ∙ h.point ∙ ap (λ (z : List ℕ). z ++ k ∷ []) (sym q);
        }

    new_child : (k c : ℕ) → k ≡ length creator.children → c ≡ n → IsChildOf more p (with_child creator n) k c
    new_child k c a b = record {
      task = child;
      at_ = ap (slice_get more) b ∙ child_now;
      later = let l = inside in omega (arith, l, b);
      parent = refl;
      point = ap (λ (z : ℕ). creator.point ++ z ∷ []) (sym a);
    }

    children_now : (t : ℕ) (y : Task) (k c : ℕ) → Which t y → slice_get y.children k ≡ Some (number c) → IsChildOf more t y k c
    children_now t y k c (other ne e) f = child_still t y y k c e refl f
    children_now t y k c (creating a b) f =
        subst (λ (z : ℕ). IsChildOf more z y k c) (sym a) (subst (λ (z : Task). IsChildOf more p z k c) (sym b) (go (child_of_creator k c (ap (λ (z : Task). slice_get z.children k) (sym b) ∙ f))))
      where
        go : (slice_get creator.children k ≡ Some (number c)) ⊎ ((k ≡ length creator.children) × (c ≡ n)) → IsChildOf more p (with_child creator n) k c
        go (inl g) = child_still p creator (with_child creator n) k c is refl g
        go (inr (x, z)) = new_child k c x z
    children_now t y k c (created a b) f = absurd (no_place k (number c) (ap (λ (z : Task). slice_get z.children k) (sym b) ∙ f))

    creator_of : (c : ℕ) (x y : Task) → 0 < c → slice_get tasks c ≡ Some x → y.parent ≡ x.parent → HasCreator more c y
    creator_of c x y l e q =
        let h = tree.created c x l e in
        let k = now h.number_is h.creator h.at_ in
        record {
          number_is = h.number_is;
          creator = k.task;
          at_ = k.at_;
          parent = q ∙ h.parent;
          place = h.place;
          is = k.children h.place c h.is;
        }

    created_now : (c : ℕ) (y : Task) → 0 < c → Which c y → HasCreator more c y
    created_now c y l (other ne e) = creator_of c y y l e refl
    created_now c y l (creating a b) = creator_of c creator y l (ap (slice_get tasks) a ∙ is) (ap (λ (z : Task). z.parent) b)
    created_now c y l (created a b) = record {
      number_is = p;
      creator = with_child creator n;
      at_ = creator_now;
      parent = ap (λ (z : Task). z.parent) b;
      place = length creator.children;
      is = get_last creator.children (number n) ∙ ap (λ (z : ℕ). Some (number z)) (sym a);
    }

    few_now : (t : ℕ) (y : Task) → length creator.children < 65535 → Which t y → length y.children ≤ 65535
    few_now t y l (other ne e) = tree.few t y e
    few_now t y l (creating a b) = let m = ap (λ (z : Task). length z.children) b ∙ longer_by creator.children (number n) in omega (arith, m, l)
    few_now t y l (created a b) = let m = ap (λ (z : Task). length z.children) b in omega (arith, m)

    shallow_now : (t : ℕ) (y : Task) → length creator.point ≤ 64 → Which t y → length y.point ≤ 65
    shallow_now t y l (other ne e) = tree.shallow t y e
    shallow_now t y l (creating a b) = let m = ap (λ (z : Task). length z.point) b in omega (arith, m, l)
    shallow_now t y l (created a b) = let m = ap (λ (z : Task). length z.point) b ∙ longer_by creator.point (length creator.children) in omega (arith, m, l)

    pub tree_more : length creator.children < 65535 → length creator.point ≤ 64 → IsTree more
    tree_more few shallow =
        let m = now 0 tree.main tree.main_at in
        record {
          main = m.task;
          main_at = m.at_;
          main_point = m.point ∙ tree.main_point;
          main_parent = m.parent ∙ tree.main_parent;
          created = λ c y l e. created_now c y l (which_task c y e);
          children = λ t y e k c f. children_now t y k c (which_task t y e) f;
          few = λ t y e. few_now t y few (which_task t y e);
          shallow = λ t y e. shallow_now t y shallow (which_task t y e);
        }

    -- the marks, with one of the new task, and the creator open again

    module _ (marks : List ℕ) (m : AreMarked tasks marks) where
      abbrev pub marks_more : List ℕ
      marks_more = marks ++ 0 ∷ []

      mark_same : (u : ℕ) → u < n → slice_index marks_more u ≡ slice_index marks u
      mark_same u l = let each = m.each in get_or_append_left marks (0 ∷ []) 0 u (omega (arith, each, l))

      mark_child : slice_index marks_more n ≡ 0
      mark_child = ap (slice_index marks_more) (sym m.each) ∙ at_end marks
        where
          at_end : (xs : List ℕ) → slice_index (xs ++ 0 ∷ []) (length xs) ≡ 0
          at_end [] = refl
          at_end (x ∷ xs) = at_end xs

      creator_marked : IsMarked tasks marks Nobody Nobody p creator
      creator_marked = m.marked p creator is

      pub creator_open : is_settled more marks_more p ≡ false
      creator_open =
          let w = creator_marked.within in
          let l = longer_by creator.children (number n) in
          let same = mark_same p inside in
          not_settled more marks_more p (with_child creator n) creator_now (omega (arith, w, l, same))

      child_open : is_settled more marks_more n ≡ false
      child_open = ap (λ (o : Option Task). settles o (slice_index marks_more n)) child_now

      settled_same : (c : ℕ) (x : Task) → slice_get tasks c ≡ Some x → (c ≡ p → ⊥) → is_settled more marks_more c ≡ is_settled tasks marks c
      settled_same c x e ne =
          ap (λ (o : Option Task). settles o (slice_index marks_more c)) (other_now c x ne e ∙ sym e) ∙ ap (settles (slice_get tasks c)) (mark_same c (slice_get_within tasks c x e))

      -- a child that was settled is so still, but for the creator
      settled_still : (t : ℕ) (x : Task) (k c : ℕ) → slice_get tasks t ≡ Some x → slice_get x.children k ≡ Some (number c) → is_settled tasks marks c ≡ true → (c ≡ p) ⊎ (c ≡ p → ⊥) → (is_settled more marks_more c ≡ true) ⊎ Alone p c
      settled_still t x k c e f s (inl a) = inr a
      settled_still t x k c e f s (inr ne) = let h = tree.children t x e k c f in inl (settled_same c h.task h.at_ ne ∙ s)

      open_still : (t : ℕ) (x : Task) (k c : ℕ) → slice_get tasks t ≡ Some x → slice_get x.children k ≡ Some (number c) → is_settled tasks marks c ≡ false → (c ≡ p) ⊎ (c ≡ p → ⊥) → is_settled more marks_more c ≡ false
      open_still t x k c e f s (inl a) = ap (is_settled more marks_more) a ∙ creator_open
      open_still t x k c e f s (inr ne) = let h = tree.children t x e k c f in settled_same c h.task h.at_ ne ∙ s

      other_marked : (t : ℕ) (y : Task) → slice_get tasks t ≡ Some y → IsMarked more marks_more (Alone p) Nobody t y
      other_marked t y e =
          let x = m.marked t y e in
          let same = mark_same t (slice_get_within tasks t y e) in
          let w = x.within in
          record {
            within = omega (arith, w, same);
            behind = λ k c l f. settled_still t y k c e f (sure (x.behind k c (omega (arith, l, same)) f)) (which c p);
            before = λ c f. let g = ap (slice_get y.children) (sym same) ∙ f in inl (open_still t y (slice_index marks t) c e g (sure (x.before c g)) (which c p));
          }

      own_marked : IsMarked more marks_more (Alone p) Nobody p (with_child creator n)
      own_marked =
          let x = creator_marked in
          let same = mark_same p inside in
          let w = x.within in
          let long = longer_by creator.children (number n) in
          record {
            within = omega (arith, w, same, long);
            behind = λ k c l f. behind k c (omega (arith, l, same)) (child_of_creator k c f);
            before = λ c f. inl (before c (child_of_creator (slice_index marks p) c (ap (slice_get (with_child creator n).children) (sym same) ∙ f)));
          }
        where
          behind : (k c : ℕ) → k < slice_index marks p → (slice_get creator.children k ≡ Some (number c)) ⊎ ((k ≡ length creator.children) × (c ≡ n)) → (is_settled more marks_more c ≡ true) ⊎ Alone p c
          behind k c l (inl g) = settled_still p creator k c is g (sure (creator_marked.behind k c l g)) (which c p)
          behind k c l (inr (a, b)) = let w = creator_marked.within in absurd (omega (arith, w, l, a))

          before : (c : ℕ) → (slice_get creator.children (slice_index marks p) ≡ Some (number c)) ⊎ ((slice_index marks p ≡ length creator.children) × (c ≡ n)) → is_settled more marks_more c ≡ false
          before c (inl g) = open_still p creator (slice_index marks p) c is g (sure (creator_marked.before c g)) (which c p)
          before c (inr (a, b)) = ap (is_settled more marks_more) b ∙ child_open

      marked_now : (t : ℕ) (y : Task) → Which t y → IsMarked more marks_more (Alone p) Nobody t y
      marked_now t y (other ne e) = other_marked t y e
      marked_now t y (creating a b) = subst (λ (z : ℕ). IsMarked more marks_more (Alone p) Nobody z y) (sym a) (subst (λ (z : Task). IsMarked more marks_more (Alone p) Nobody p z) (sym b) own_marked)
      marked_now t y (created a b) =
          let zero_ : slice_index marks_more t ≡ 0 = ap (slice_index marks_more) a ∙ mark_child in
          record {
            within = omega (arith, zero_);
            behind = λ k c l f. absurd (omega (arith, l, zero_));
            before = λ c f. absurd (no_place (slice_index marks_more t) (number c) (ap (λ (z : Task). slice_get z.children (slice_index marks_more t)) (sym b) ∙ f));
          }

      pub marked_more : AreMarkedBut more marks_more (Alone p) Nobody
      marked_more = record {
        each = let a = m.each in let b = longer_by marks 0 in let c = longer_by front child in let d = front_long in omega (arith, a, b, c, d);
        marked = λ t y e. marked_now t y (which_task t y e);
      }
