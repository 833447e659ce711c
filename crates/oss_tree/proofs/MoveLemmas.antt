-- What moving one mark leaves.
use Rattle.std.proofs.Common.{◌≡◌, ℕ, ◌<◌, ◌≤◌, ◌+◌, ◌-◌, ◌⊎◌, inl, inr, refl, sym, ap, subst, ◌∙◌, true, false, List, Some, None, length, arith, get_or}
use Rattle.std.specs.Prelude.{slice_get, slice_set, slice_index}
use Rattle.std.proofs.lemmas.List.{get_or-set_same, get_or-set_other, length-set}
use Rattle.std.proofs.lemmas.Option.{slice_get_within, slice_get-get_or, slice_get_read}
use Rattle.oss_tree.specs.declared.task.Task.{Task}
use Rattle.oss_model.specs.declared.task_no.TaskNo.{TaskNo}
use Rattle.oss_tree.specs.Tasks.{IsTree, number}
use Rattle.oss_tree.specs.Marks.{Alone, AreMarked, AreMarkedBut, Below, IsMarked, Nobody, is_settled, settles}
use Rattle.oss_tree.proofs.ListLemmas.{none_some, some_is, which}
use Rattle.oss_tree.proofs.PointLemmas.{same_ends}
use Rattle.oss_tree.proofs.TreeLemmas.{place_is, read_parent, same_number}
use Rattle.oss_tree.proofs.MarkLemmas.{settled_if, settled_is, not_settled, sure}

module _ (tasks : List Task) (marks : List ℕ) (tree : IsTree tasks) where
  -- the creator that a child has is the one among whose children it stands
  pub creator_is : (t : ℕ) (one : Task) (k c : ℕ) (child : Task) (u : ℕ) → slice_get tasks t ≡ Some one → slice_get one.children k ≡ Some (number c) → slice_get tasks c ≡ Some child → child.parent ≡ Some (number u) → t ≡ u
  creator_is t one k c child u e f g h =
      let x = tree.children t one e k c f in
      same_number (some_is x.parent (ap (λ (z : Task). z.parent) (some_is x.at_ g) ∙ h))

  -- the tasks that one may be settled now, where its creator is known
  pub to_below : (from by : ℕ) → AreMarkedBut tasks marks Nobody (Alone from) → ((one : Task) → slice_get tasks from ≡ Some one → one.parent ≡ Some (number by)) → AreMarkedBut tasks marks Nobody (Below tasks by)
  to_below from by m p =
      record {
        each = m.each;
        marked = λ t one e. let x = m.marked t one e in
            record {
              within = x.within;
              behind = x.behind;
              before = λ c f. weaker c (x.before c f);
            };
      }
    where
      weaker : (c : ℕ) → (is_settled tasks marks c ≡ false) ⊎ Alone from c → (is_settled tasks marks c ≡ false) ⊎ Below tasks by c
      weaker c (inl s) = inl s
      weaker c (inr a) = inr (λ one f. p one (ap (slice_get tasks) (sym a) ∙ f))

  -- one that is not settled needs no exception
  pub open_done : (at : ℕ) → AreMarkedBut tasks marks Nobody (Alone at) → is_settled tasks marks at ≡ false → AreMarked tasks marks
  open_done at m s =
      record {
        each = m.each;
        marked = λ t one e. let x = m.marked t one e in
            record {
              within = x.within;
              behind = x.behind;
              before = λ c f. inl (go c (x.before c f));
            };
      }
    where
      go : (c : ℕ) → (is_settled tasks marks c ≡ false) ⊎ Alone at c → is_settled tasks marks c ≡ false
      go c (inl e) = e
      go c (inr a) = ap (is_settled tasks marks) a ∙ s

  no_parent : (at : ℕ) → ((one : Task) → slice_get tasks at ≡ Some one → one.parent ≡ None) → (t : ℕ) (one : Task) (k c : ℕ) → slice_get tasks t ≡ Some one → slice_get one.children k ≡ Some (number c) → c ≡ at → ⊥
  no_parent at p t one k c e f a =
      let x = tree.children t one e k c f in
      none_some (p x.task (ap (slice_get tasks) (sym a) ∙ x.at_)) x.parent

  -- nor does main, which is no child
  pub main_done : (at : ℕ) → AreMarkedBut tasks marks Nobody (Alone at) → ((one : Task) → slice_get tasks at ≡ Some one → one.parent ≡ None) → AreMarked tasks marks
  main_done at m p =
      record {
        each = m.each;
        marked = λ t one e. let x = m.marked t one e in
            record {
              within = x.within;
              behind = x.behind;
              before = λ c f. inl (go t one c e f (x.before c f));
            };
      }
    where
      go : (t : ℕ) (one : Task) (c : ℕ) → slice_get tasks t ≡ Some one → slice_get one.children (slice_index marks t) ≡ Some (number c) → (is_settled tasks marks c ≡ false) ⊎ Alone at c → is_settled tasks marks c ≡ false
      go t one c e f (inl s) = s
      go t one c e f (inr a) = absurd (no_parent at p t one (slice_index marks t) c e f a)

  pub main_reopened : (at : ℕ) → AreMarkedBut tasks marks (Alone at) Nobody → ((one : Task) → slice_get tasks at ≡ Some one → one.parent ≡ None) → AreMarked tasks marks
  main_reopened at m p =
      record {
        each = m.each;
        marked = λ t one e. let x = m.marked t one e in
            record {
              within = x.within;
              behind = λ k c l f. inl (go t one k c e f (x.behind k c l f));
              before = x.before;
            };
      }
    where
      go : (t : ℕ) (one : Task) (k c : ℕ) → slice_get tasks t ≡ Some one → slice_get one.children k ≡ Some (number c) → (is_settled tasks marks c ≡ true) ⊎ Alone at c → is_settled tasks marks c ≡ true
      go t one k c e f (inl s) = s
      go t one k c e f (inr a) = absurd (no_parent at p t one k c e f a)

  -- the marks after that of one task was moved
  module _ (at : ℕ) (one : Task) (is : slice_get tasks at ≡ Some one) (each : length marks ≡ length tasks) (n : ℕ) where
    abbrev pub moved : List ℕ
    moved = slice_set marks at n

    index_same : slice_index moved at ≡ n
    index_same = let l = slice_get_within tasks at one is in get_or-set_same marks at n 0 (omega (arith, l, each))

    index_other : (t : ℕ) → (t ≡ at → ⊥) → slice_index moved t ≡ slice_index marks t
    index_other t ne = get_or-set_other marks at t n 0 ne

    settled_other : (c : ℕ) → (c ≡ at → ⊥) → is_settled tasks moved c ≡ is_settled tasks marks c
    settled_other c ne = ap (settles (slice_get tasks c)) (index_other c ne)

    moved_each : length moved ≡ length tasks
    moved_each = length-set marks at n ∙ each

    child_apart : (k c : ℕ) → slice_get one.children k ≡ Some (number c) → c ≡ at → ⊥
    child_apart k c f a = let l = (tree.children at one is k c f).later in omega (arith, l, a)

    -- one child stands at one place
    one_place : (child : ℕ) → slice_get one.children n ≡ Some (number child) → (k c : ℕ) → slice_get one.children k ≡ Some (number c) → c ≡ child → k ≡ n
    one_place child child_at k c f a =
        let x = tree.children at one is k c f in
        let y = tree.children at one is n child child_at in
        let p : x.task ≡ y.task = some_is x.at_ (ap (slice_get tasks) a ∙ y.at_) in
        (same_ends one.point k one.point n (sym x.point ∙ ap (λ (z : Task). z.point) p ∙ y.point)).1

    -- over more children that are settled

    module _ (m : AreMarkedBut tasks marks Nobody (Below tasks at)) (above : slice_index marks at ≤ n) (within : n ≤ length one.children)
        (settled : (k c : ℕ) → k < n → slice_get one.children k ≡ Some (number c) → is_settled tasks marks c ≡ true)
        (left : (c : ℕ) → slice_get one.children n ≡ Some (number c) → is_settled tasks marks c ≡ false) where
      -- a task that was settled is so still
      stays : (c : ℕ) → is_settled tasks marks c ≡ true → is_settled tasks moved c ≡ true
      stays c s = go (which c at)
        where
          go : (c ≡ at) ⊎ (c ≡ at → ⊥) → is_settled tasks moved c ≡ true
          go (inl a) =
              let p = settled_is tasks marks at one is (ap (is_settled tasks marks) (sym a) ∙ s) in
              let whole = p.whole in
              ap (is_settled tasks moved) a ∙ settled_if tasks moved at one is p.closed (index_same ∙ (omega (arith, whole)))
          go (inr ne) = settled_other c ne ∙ s

      pub advanced : AreMarkedBut tasks moved Nobody (Alone at)
      advanced = record { each = moved_each; marked = λ t other e. go t other e (which t at) }
        where
          own : IsMarked tasks moved Nobody (Alone at) at one
          own = record {
            within = subst (λ (z : ℕ). z ≤ length one.children) (sym index_same) within;
            behind = λ k c l f. inl (stays c (settled k c (subst (λ (z : ℕ). k < z) index_same l) f));
            before = λ c f. let g = ap (slice_get one.children) (sym index_same) ∙ f in inl (settled_other c (child_apart n c g) ∙ left c g);
          }

          free : (t : ℕ) (other : Task) → slice_get tasks t ≡ Some other → (t ≡ at → ⊥) → (k c : ℕ) → slice_get other.children k ≡ Some (number c) → (is_settled tasks marks c ≡ false) ⊎ Below tasks at c → is_settled tasks marks c ≡ false
          free t other e ne k c f (inl s) = s
          free t other e ne k c f (inr b) =
              let x = tree.children t other e k c f in
              absurd (ne (same_number (some_is x.parent (b x.task x.at_))))

          still : (c : ℕ) → is_settled tasks marks c ≡ false → (c ≡ at) ⊎ (c ≡ at → ⊥) → (is_settled tasks moved c ≡ false) ⊎ Alone at c
          still c s (inl a) = inr a
          still c s (inr ne) = inl (settled_other c ne ∙ s)

          go : (t : ℕ) (other : Task) → slice_get tasks t ≡ Some other → (t ≡ at) ⊎ (t ≡ at → ⊥) → IsMarked tasks moved Nobody (Alone at) t other
          go t other e (inl a) =
              let o : one ≡ other = some_is is (ap (slice_get tasks) (sym a) ∙ e) in
              subst (λ (z : ℕ). IsMarked tasks moved Nobody (Alone at) z other) (sym a) (subst (λ (z : Task). IsMarked tasks moved Nobody (Alone at) at z) o own)
          go t other e (inr ne) =
              let x = m.marked t other e in
              record {
                within = subst (λ (z : ℕ). z ≤ length other.children) (sym (index_other t ne)) x.within;
                behind = λ k c l f. inl (stays c (sure (x.behind k c (subst (λ (z : ℕ). k < z) (index_other t ne) l) f)));
                before = λ c f. let g = ap (slice_get other.children) (sym (index_other t ne)) ∙ f in still c (free t other e ne (slice_index marks t) c g (x.before c g)) (which c at);
              }

    -- back to a child that is open again

    module _ (child : ℕ) (m : AreMarkedBut tasks marks (Alone child) Nobody) (below : n < slice_index marks at)
        (child_at : slice_get one.children n ≡ Some (number child)) (open_ : is_settled tasks marks child ≡ false) where
      marked_here : IsMarked tasks marks (Alone child) Nobody at one
      marked_here = m.marked at one is

      pub not_whole : is_settled tasks moved at ≡ false
      not_whole = let w = marked_here.within in not_settled tasks moved at one is (omega (arith, index_same, below, w))

      pub moved_back : AreMarkedBut tasks moved (Alone at) Nobody
      moved_back = record { each = moved_each; marked = λ t other e. go t other e (which t at) }
        where
          held : (k c : ℕ) → k < n → slice_get one.children k ≡ Some (number c) → (is_settled tasks marks c ≡ true) ⊎ Alone child c → is_settled tasks moved c ≡ true
          held k c l f (inl s) = settled_other c (child_apart k c f) ∙ s
          held k c l f (inr a) = let p = one_place child child_at k c f a in absurd (omega (arith, l, p))

          own : IsMarked tasks moved (Alone at) Nobody at one
          own = record {
            within = let w = marked_here.within in omega (arith, index_same, below, w);
            behind = λ k c l f. let h = subst (λ (z : ℕ). k < z) index_same l in inl (held k c h f (marked_here.behind k c (omega (arith, h, below)) f));
            before = λ c f. let g = ap (slice_get one.children) (sym index_same) ∙ f in
                let a : c ≡ child = same_number (some_is g child_at) in
                inl (settled_other c (child_apart n c g) ∙ ap (is_settled tasks marks) a ∙ open_);
          }

          kept : (t : ℕ) (other : Task) → slice_get tasks t ≡ Some other → (t ≡ at → ⊥) → (k c : ℕ) → slice_get other.children k ≡ Some (number c) → (is_settled tasks marks c ≡ true) ⊎ Alone child c → is_settled tasks marks c ≡ true
          kept t other e ne k c f (inl s) = s
          kept t other e ne k c f (inr a) =
              let y = tree.children at one is n child child_at in
              absurd (ne (creator_is t other k c y.task at e f (ap (slice_get tasks) a ∙ y.at_) y.parent))

          still : (c : ℕ) → is_settled tasks marks c ≡ true → (c ≡ at) ⊎ (c ≡ at → ⊥) → (is_settled tasks moved c ≡ true) ⊎ Alone at c
          still c s (inl a) = inr a
          still c s (inr ne) = inl (settled_other c ne ∙ s)

          lower : (c : ℕ) → is_settled tasks marks c ≡ false → (c ≡ at) ⊎ (c ≡ at → ⊥) → is_settled tasks moved c ≡ false
          lower c s (inl a) = ap (is_settled tasks moved) a ∙ not_whole
          lower c s (inr ne) = settled_other c ne ∙ s

          go : (t : ℕ) (other : Task) → slice_get tasks t ≡ Some other → (t ≡ at) ⊎ (t ≡ at → ⊥) → IsMarked tasks moved (Alone at) Nobody t other
          go t other e (inl a) =
              let o : one ≡ other = some_is is (ap (slice_get tasks) (sym a) ∙ e) in
              subst (λ (z : ℕ). IsMarked tasks moved (Alone at) Nobody z other) (sym a) (subst (λ (z : Task). IsMarked tasks moved (Alone at) Nobody at z) o own)
          go t other e (inr ne) =
              let x = m.marked t other e in
              record {
                within = subst (λ (z : ℕ). z ≤ length other.children) (sym (index_other t ne)) x.within;
                behind = λ k c l f. still c (kept t other e ne k c f (x.behind k c (subst (λ (z : ℕ). k < z) (index_other t ne) l) f)) (which c at);
                before = λ c f. let g = ap (slice_get other.children) (sym (index_other t ne)) ∙ f in inl (lower c (sure (x.before c g)) (which c at));
              }

    -- no further than the child that is open again
    pub far_enough : (child : ℕ) → AreMarkedBut tasks marks (Alone child) Nobody → slice_index marks at ≤ n → slice_get one.children n ≡ Some (number child) → AreMarked tasks marks
    far_enough child m low child_at =
        record {
          each = m.each;
          marked = λ t other e. let x = m.marked t other e in
              record {
                within = x.within;
                behind = λ k c l f. inl (go t other e k c l f (x.behind k c l f));
                before = x.before;
              };
        }
      where
        go : (t : ℕ) (other : Task) → slice_get tasks t ≡ Some other → (k c : ℕ) → k < slice_index marks t → slice_get other.children k ≡ Some (number c) → (is_settled tasks marks c ≡ true) ⊎ Alone child c → is_settled tasks marks c ≡ true
        go t other e k c l f (inl s) = s
        go t other e k c l f (inr a) =
            let y = tree.children at one is n child child_at in
            let u : t ≡ at = creator_is t other k c y.task at e f (ap (slice_get tasks) a ∙ y.at_) y.parent in
            let o : other ≡ one = some_is e (ap (slice_get tasks) u ∙ is) in
            let k_is : k ≡ n = one_place child child_at k c (subst (λ (z : Task). slice_get z.children k ≡ Some (number c)) o f) a in
            let lower = ap (slice_index marks) u in
            absurd (omega (arith, l, k_is, lower, low))

  -- the tasks at the places of the children of one

  pub child_within : (at : ℕ) (one : Task) → slice_get tasks at ≡ Some one → (children : List TaskNo) → children ≡ one.children → (k : ℕ) → k < length children → (get_or children k (number 0)).0 < length tasks
  child_within at one is children e k l =
      let here : slice_get one.children k ≡ Some (get_or children k (number 0)) = ap (λ (xs : List TaskNo). slice_get xs k) (sym e) ∙ slice_get-get_or children k (number 0) l in
      let x = tree.children at one is k (get_or children k (number 0)).0 here in
      slice_get_within tasks (get_or children k (number 0)).0 x.task x.at_

module _ (tasks : List Task) (marks : List ℕ) where
  pub settled_more : (children : List TaskNo) (n : ℕ) → n < length children → ((k c : ℕ) → k < n → slice_get children k ≡ Some (number c) → is_settled tasks marks c ≡ true) → is_settled tasks marks (get_or children n (number 0)).0 ≡ true
      → (k c : ℕ) → k < n + 1 → slice_get children k ≡ Some (number c) → is_settled tasks marks c ≡ true
  settled_more children n l before here k c m f = go (which k n)
    where
      go : (k ≡ n) ⊎ (k ≡ n → ⊥) → is_settled tasks marks c ≡ true
      go (inl e) =
          let a : get_or children n (number 0) ≡ number c = some_is (slice_get-get_or children n (number 0) l) (ap (slice_get children) (sym e) ∙ f) in
          ap (is_settled tasks marks) (sym (same_number a)) ∙ here
      go (inr ne) = before k c (omega arith) f

  pub left_at : (children named : List TaskNo) (n : ℕ) → children ≡ named → n < length children → is_settled tasks marks (get_or children n (number 0)).0 ≡ false → (c : ℕ) → slice_get named n ≡ Some (number c) → is_settled tasks marks c ≡ false
  left_at children named n e l s c f =
      let a : get_or children n (number 0) ≡ number c = some_is (slice_get-get_or children n (number 0) l) (ap (λ (xs : List TaskNo). slice_get xs n) e ∙ f) in
      ap (is_settled tasks marks) (sym (same_number a)) ∙ s

  pub none_left : (children named : List TaskNo) (n : ℕ) → children ≡ named → length children ≤ n → (c : ℕ) → slice_get named n ≡ Some (number c) → is_settled tasks marks c ≡ false
  none_left children named n e l c f = let m = slice_get_within children n (number c) (ap (λ (xs : List TaskNo). slice_get xs n) e ∙ f) in absurd (omega (arith, l, m))

-- the creator of a task, and the place of the task among its children

pub record Above (tasks : List Task) (by c place : ℕ) : Type 0 where
  pub creator : Task
  pub at_ : slice_get tasks by ≡ Some creator
  pub is : slice_get creator.children place ≡ Some (number c)
  pub later : by < c

pub above : {tasks : List Task} (tree : IsTree tasks) (c : ℕ) (d : Task) (by : TaskNo) → c < length tasks → (get_or tasks c d).parent ≡ Some by → (one : Task) → one ≡ get_or tasks c one → (place : ℕ) → slice_get one.point (length one.point - 1) ≡ Some place → Above tasks by.0 c place
above {tasks = tasks} tree c d by l e one f place g =
    let p = read_parent tree c d by l e in
    let task : p.task ≡ one = some_is p.at_ (slice_get_read tasks (length tasks) c one refl l f) in
    let at_place : place ≡ p.made_by.place = place_is p.made_by place (ap (λ (t : Task). slice_get t.point (length t.point - 1)) task ∙ g) in
    let later = p.made_by.later in
    let is_ = p.is in
    record {
      creator = p.made_by.creator;
      at_ = ap (slice_get tasks) (sym p.is) ∙ p.made_by.at_;
      is = ap (slice_get p.made_by.creator.children) at_place ∙ p.made_by.is;
      later = omega (arith, later, is_);
    }
