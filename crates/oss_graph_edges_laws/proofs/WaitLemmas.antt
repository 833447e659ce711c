-- Each edge is a wait that the definitions of waiting name.
use Rattle.std.proofs.Common.{◌≡◌, ℕ, ◌⊎◌, inl, inr, refl, sym, subst, ◌∙◌, true, List, ◌∷◌, Option, Some, None}
use Rattle.oss_syntax.specs.declared.access.Mode.{Mode}
use Rattle.oss_syntax.specs.declared.access.Mode.TheVariants.{Fold, Read, Write}
use Rattle.oss_syntax.specs.declared.access.Op.{Op}
use Rattle.oss_model.specs.Context.{right_of}
use Rattle.oss_model.specs.Forest.{Forest, InRun, IsDone, IsJoinSatisfied, IsRead, IsReadSatisfied, IsWriteSatisfied, join_below_fold, join_below_write, join_top, read_child, read_top, write_child, write_top}
use Rattle.oss_model.specs.Machine.{HasAccess, IsEarlier, State, Task, accesses, find, is_earlier, mode_in, mode_of}
use Rattle.oss_model.specs.Rights.{Right, NoRight, Released, Holds}
use Rattle.oss_task_graph.specs.Edges.{StandsAt}
use Rattle.oss_task_graph.specs.Graphs.{accesses_below, right_in}
use Rattle.oss_task_graph.specs.Groups.{is_held}
use Rattle.oss_graph_edges_laws.specs.Claims.{EdgesAreWaits, IsSatisfied}
use Rattle.oss_graph_edges_laws.proofs.GroupLemmas.{not_both_read, not_one_fold, stands_first, stands_up}

mode_right : {S : Type 0} → (o : Option (Task S)) (c : ℕ) → mode_in o c ≡ mode_of (right_in o c)
mode_right (Some t) c = refl
mode_right None c = refl

read_is : (m : Mode) → IsRead m → m ≡ Read
read_is Read h = refl
read_is Write h = absurd h
read_is (Fold op) h = absurd h

-- a child that has the cell has an access in the state

module _ {S : Type 0} (s : State S) (p : List ℕ) (c : ℕ) where
  held_access : (o : Option (Task S)) → find s.tasks p ≡ o → is_held (right_in o c) ≡ true → HasAccess s c p
  held_access None e h = cc
  held_access (Some t) e h = go (right_of t.body.start.context c) refl h
    where
      go : (r : Right) → right_of t.body.start.context c ≡ r → is_held (right_of t.body.start.context c) ≡ true → HasAccess s c p
      go (Holds m strong) r h = record { task = t; at_ = e; mode = m; strong = strong; right = r }
      go NoRight r h = let x : is_held NoRight ≡ true = subst (λ (y : Right). is_held y ≡ true) r h in cc
      go Released r h = let x : is_held Released ≡ true = subst (λ (y : Right). is_held y ≡ true) r h in cc

module _ {S : Type 0} (s : State S) (q : List ℕ) (c j k : ℕ) (stands : StandsAt (accesses_below s q) j k c) where
  abbrev F : Forest (List ℕ)
  F = accesses s c

  abbrev rights : ℕ → Right
  rights i = accesses_below s q i c

  mode_at : (i : ℕ) → mode_in (find s.tasks (i ∷ q)) c ≡ mode_of (rights i)
  mode_at i = mode_right (find s.tasks (i ∷ q)) c

  earlier : IsEarlier s c (j ∷ q) (k ∷ q)
  earlier = is_earlier (stands_up rights j k stands) (held_access s (j ∷ q) c (find s.tasks (j ∷ q)) refl (stands_first rights j k stands))

  of_write : IsWriteSatisfied F (k ∷ q) → IsDone F (j ∷ q)
  of_write (write_top top all) = all (j ∷ q) earlier
  of_write (write_child child above all) = all (j ∷ q) earlier

  module _ (reads : mode_in (find s.tasks (k ∷ q)) c ≡ Read) where
    not_read : IsRead (mode_in (find s.tasks (j ∷ q)) c) → ⊥
    not_read h = not_both_read rights j k stands (sym (mode_at j) ∙ read_is (mode_in (find s.tasks (j ∷ q)) c) h) (sym (mode_at k) ∙ reads)

    of_read : IsReadSatisfied F (k ∷ q) → IsDone F (j ∷ q)
    of_read (read_top top all) = all (j ∷ q) earlier not_read
    of_read (read_child child above all) = all (j ∷ q) earlier not_read

  module _ (op : Op) (folds : mode_in (find s.tasks (k ∷ q)) c ≡ Fold op) where
    no_run : InRun F op (j ∷ q) (k ∷ q) → ⊥
    no_run run = not_one_fold rights j k stands op (sym (mode_at j) ∙ run.first) (sym (mode_at k) ∙ folds)

    done_of : InRun F op (j ∷ q) (k ∷ q) ⊎ IsDone F (j ∷ q) → IsDone F (j ∷ q)
    done_of (inl run) = absurd (no_run run)
    done_of (inr done) = done

    of_join : IsJoinSatisfied F op (k ∷ q) → IsDone F (j ∷ q)
    of_join (join_top top all) = done_of (all (j ∷ q) earlier)
    of_join (join_below_fold child mode above all) = done_of (all (j ∷ q) earlier)
    of_join (join_below_write child mode above all) = done_of (all (j ∷ q) earlier)

  by_mode : (m : Mode) → mode_in (find s.tasks (k ∷ q)) c ≡ m → IsSatisfied m F (k ∷ q) → IsDone F (j ∷ q)
  by_mode Read e h = of_read e h
  by_mode Write e h = of_write h
  by_mode (Fold op) e h = of_join op e h

pub edges_are_waits : (S : Type 0) → EdgesAreWaits S
edges_are_waits S s q c j k stands h = by_mode s q c j k stands (mode_in (find s.tasks (k ∷ q)) c) refl h
