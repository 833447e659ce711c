-- Tasks that are added one after the other.
use Rattle.std.proofs.Common.{◌≡◌, ℕ, suc, ◌+◌, ◌≤◌, ◌⊎◌, inl, inr, refl, sym, subst, ap, ◌∙◌, arith, List, [], ◌∷◌, ◌++◌, append_assoc, length, length-set, length-append, Some, None}
use Rattle.std.specs.Prelude.{slice_get}
use Rattle.std.proofs.lemmas.List.{append-nil}
use Rattle.oss_syntax.specs.declared.access.Access.{Access}
use Rattle.oss_body.specs.declared.body.Body.{Body}
use Rattle.oss_body.specs.Relation.{has_wait}
use Rattle.oss_tree.specs.declared.task.Task.{Task as TreeTask}
use Rattle.oss_tree.specs.Tasks.{MayCreate, changed_to, created_by, given_task, grown}
use Rattle.oss_deps.specs.Seen.{CanOpen, Opens, Seen}
use Rattle.oss_kept_tasks.specs.declared.held.Held.{Held}
use Rattle.oss_core.specs.declared.creating.Newborn.{Newborn}
use Rattle.oss_core.specs.Changes.{noted_new}
use Rattle.oss_core.specs.Kept.{Kept}
use Rattle.oss_core.specs.Putting.{AreAdded, AreNewborns, IsNewborn, MayAdd, OpensAll, entry_of, held_of, with_newborn, with_newborns}
use Rattle.oss_core.proofs.PutFacts.{some_or_none}

-- what is left of an iterator, counted
pub nothing_left : {A : Type 0} {xs : List A} {n : ℕ} → n ≡ length xs → n ≡ 0 → xs ≡ []
nothing_left {xs = []} e z = refl
nothing_left {xs = x ∷ xs} e z = absurd (omega (arith, e, z))

pub counted_begins : {A : Type 0} {n : ℕ} (xs ys : List A) → xs ≡ ys → n ≡ length ys → n ≡ length xs
counted_begins xs ys e c = c ∙ ap length (sym e)

pub counted_next : {A : Type 0} (xs ys : List A) (x : A) (n m : ℕ) → n ≡ length xs → xs ≡ x ∷ ys → m + 1 ≡ n → m ≡ length ys
counted_next xs ys x n m c e d = let a = ap length e in omega (arith, a, c, d)

-- one more body has its new task
pub newborns_more : (xs : List Newborn) (bs : List Body) (x : Newborn) (b : Body) → AreNewborns xs bs → IsNewborn x b → AreNewborns (xs ++ x ∷ []) (bs ++ b ∷ [])
newborns_more [] [] x b h g = (g, tt)
newborns_more [] (c ∷ bs) x b h g = absurd h
newborns_more (y ∷ xs) [] x b h g = absurd h
newborns_more (y ∷ xs) (c ∷ bs) x b h g = (h.0, newborns_more xs bs x b h.1 g)

-- a task that has given up all leaves as many tasks
given_size : (tasks : List TreeTask) (m : ℕ) (accesses : List Access) → length (noted_new accesses m tasks) ≡ length tasks
given_size tasks m (a ∷ rest) = refl
given_size tasks m [] = go (some_or_none (slice_get tasks m))
  where
    go : (slice_get tasks m ≡ None) ⊎ ((one : TreeTask) × (slice_get tasks m ≡ Some one)) → length (changed_to tasks m given_task (slice_get tasks m)) ≡ length tasks
    go (inl e) = ap (λ o. length (changed_to tasks m given_task o)) e
    go (inr (one, e)) = ap (λ o. length (changed_to tasks m given_task o)) e ∙ length-set tasks m (given_task one)

-- a new task is one more
newborn_size : (tasks : List TreeTask) (creator : ℕ) (x : Newborn) → MayCreate tasks creator → length (with_newborn creator x tasks) ≡ suc (length tasks)
newborn_size tasks creator x may =
    given_size (grown tasks creator (has_wait x.held.body)) (length tasks) x.accesses ∙ (ap (λ o. length (created_by tasks creator (has_wait x.held.body) o)) may.at_ ∙ one_more)
  where
    one_more : length (created_by tasks creator (has_wait x.held.body) (Some may.creator)) ≡ suc (length tasks)
    one_more = grind (arith, length-append, length-set)

-- So far some of the tasks were added, and these are left.
pub record IsAdding (creator : ℕ) (all : List Newborn) (start : Kept) (rest : List Newborn) (now : Kept) : Type 0 where
  pub sizes : length now.tree.tasks ≡ length now.tasks
  pub may : MayAdd creator (length now.tasks) rest now.tree.tasks now.seen
  pub tasks : now.tasks ++ held_of rest ≡ start.tasks ++ held_of all
  pub tree : with_newborns creator rest now.tree.tasks ≡ with_newborns creator all start.tree.tasks
  pub prints : now.tree.prints ≡ start.tree.prints
  pub seen : (s : Seen) → OpensAll creator (length now.tasks) rest now.seen s → OpensAll creator (length start.tasks) all start.seen s
  pub cells : now.cells ≡ start.cells

pub adding_begins : (creator : ℕ) (all : List Newborn) (k : Kept) (rest : List Newborn) → rest ≡ all → length k.tree.tasks ≡ length k.tasks → MayAdd creator (length k.tasks) all k.tree.tasks k.seen → IsAdding creator all k rest k
adding_begins creator all k rest e sizes may = subst (λ (xs : List Newborn). IsAdding creator all k xs k) (sym e) (record { sizes = sizes; may = may; tasks = refl; tree = refl; prints = refl; seen = λ s h. h; cells = refl })

module _ (creator : ℕ) (all : List Newborn) (start : Kept) (rest : List Newborn) (now : Kept) (h : IsAdding creator all start rest now) where
  module _ (x : Newborn) (more : List Newborn) (e : rest ≡ x ∷ more) where
    next_may : MayAdd creator (length now.tasks) (x ∷ more) now.tree.tasks now.seen
    next_may = subst (λ (xs : List Newborn). MayAdd creator (length now.tasks) xs now.tree.tasks now.seen) e h.may

    pub adding_room : MayCreate now.tree.tasks creator
    adding_room = next_may.0

    pub adding_opens : (m : ℕ) → m ≡ length now.tree.tasks → CanOpen now.seen (record { task = m; parent = creator; accesses = x.accesses })
    adding_opens m number = subst (λ (n : ℕ). CanOpen now.seen (entry_of n creator x)) (sym (number ∙ h.sizes)) next_may.1

    -- one more is added
    pub adding_more : (m : ℕ) (new : Kept) → m ≡ length now.tree.tasks → new.tasks ≡ now.tasks ++ x.held ∷ [] → new.tree.tasks ≡ with_newborn creator x now.tree.tasks → new.tree.prints ≡ now.tree.prints
        → Opens (record { task = m; parent = creator; accesses = x.accesses }) now.seen new.seen → new.cells ≡ now.cells → IsAdding creator all start more new
    adding_more m new number tasks tree prints op cells = record {
      sizes = ap length tree ∙ newborn_size now.tree.tasks creator x next_may.0 ∙ ap suc h.sizes ∙ sym size;
      may = subst (λ (n : ℕ). MayAdd creator n more new.tree.tasks new.seen) (sym size) (subst (λ (ts : List TreeTask). MayAdd creator (suc (length now.tasks)) more ts new.seen) (sym tree) (next_may.2 new.seen opened));
      tasks = ap (λ (ts : List Held). ts ++ held_of more) tasks ∙ append_assoc now.tasks (x.held ∷ []) (held_of more) ∙ ap (λ (xs : List Newborn). now.tasks ++ held_of xs) (sym e) ∙ h.tasks;
      tree = ap (λ (ts : List TreeTask). with_newborns creator more ts) tree ∙ ap (λ (xs : List Newborn). with_newborns creator xs now.tree.tasks) (sym e) ∙ h.tree;
      prints = prints ∙ h.prints;
      seen = λ s g. h.seen s (subst (λ (xs : List Newborn). OpensAll creator (length now.tasks) xs now.seen s) (sym e) (new.seen, opened, subst (λ (n : ℕ). OpensAll creator n more new.seen s) size g));
      cells = cells ∙ h.cells;
    }
      where
        size : length new.tasks ≡ suc (length now.tasks)
        size = ap length tasks ∙ grind (arith, length-append)

        opened : Opens (entry_of (length now.tasks) creator x) now.seen new.seen
        opened = subst (λ (n : ℕ). Opens (entry_of n creator x) now.seen new.seen) (number ∙ h.sizes) op

  -- all are added
  module _ (e : rest ≡ []) where
    all_tasks : now.tasks ≡ start.tasks ++ held_of all
    all_tasks = sym (append-nil now.tasks) ∙ ap (λ (xs : List Newborn). now.tasks ++ held_of xs) (sym e) ∙ h.tasks

    all_more : length start.tree.tasks ≡ length start.tasks → length start.tree.tasks ≤ length now.tree.tasks
    all_more sizes = let a = h.sizes in let b = ap length all_tasks ∙ length-append start.tasks (held_of all) in omega (arith, sizes, a, b)

    all_tree : now.tree.tasks ≡ with_newborns creator all start.tree.tasks
    all_tree = ap (λ (xs : List Newborn). with_newborns creator xs now.tree.tasks) (sym e) ∙ h.tree

    all_seen : OpensAll creator (length start.tasks) all start.seen now.seen
    all_seen = h.seen now.seen (subst (λ (xs : List Newborn). OpensAll creator (length now.tasks) xs now.seen now.seen) (sym e) (record { opens = refl; given = λ t c. refl; cuts = λ i. refl; reserved = refl }))

    pub all_added : length start.tree.tasks ≡ length start.tasks → AreAdded creator all start now
    all_added sizes = record { tasks = all_tasks; more = all_more sizes; tree = all_tree; prints = h.prints; seen = all_seen; cells = h.cells }
