-- The accesses of a fragment once a task is opened there, or has given it up.
use Rattle.std.proofs.Common.{◌≡◌, ℕ, ◌+◌, ◌<◌, zero, suc, refl, sym, ap, subst, ◌∙◌, List, [], ◌∷◌, ◌++◌, ◌⊎◌, inl, inr, true, false, Some, arith, length}
use Rattle.std.proofs.lemmas.List.{length-set, length_push}
use Rattle.std.proofs.lemmas.Option.{slice_get_within}
use Rattle.std.specs.Prelude.{◌==◌, slice_get}
use Rattle.oss_syntax.specs.declared.access.Mode.{Mode}
use Rattle.oss_deps.proofs.Basics.{bools, some_is, same_at}
use Rattle.oss_access_lists.specs.declared.hang.Hang.{Hang}
use Rattle.oss_access_lists.specs.Steps.{IsHung, IsGift}
use Rattle.oss_access_lists.specs.Tables.{gave_in, given_up, hang_at, last_in, new_hang, next_link, opened_in, wires_of, with_last, with_next}
use Rattle.oss_fragments.specs.declared.fragment.Fragment.{Fragment}
use Rattle.oss_fragments.specs.Here.{Here, AreEntries, IsEntry, here_of}
use Rattle.oss_fragments.specs.Stretches.{IsFragment, HasRoom}
use Rattle.oss_fragments.specs.Changes.{HasSameEdges, IsOpenedIn, IsGivenIn}

length-linked : (hangs : List Hang) (before at : ℕ) → length (next_link hangs before at) ≡ length hangs
length-linked hangs before at = go (bools (before == 0))
  where
    go : ((before == 0) ≡ true) ⊎ ((before == 0) ≡ false) → length (next_link hangs before at) ≡ length hangs
    go (inl h) = rw h refl
    go (inr h) = rw h (length-set hangs before (with_next (hang_at hangs before) at))

pub length-opened : (hangs : List Hang) (above : ℕ) (mode : Mode) → length (opened_in hangs above mode) ≡ length hangs + 1
length-opened hangs above mode =
    length-linked (last_in (hangs ++ new_hang hangs above mode ∷ []) above (length hangs)) (hang_at hangs above).last (length hangs)
    ∙ length-set (hangs ++ new_hang hangs above mode ∷ []) above (with_last (hang_at (hangs ++ new_hang hangs above mode ∷ []) above) (length hangs))
    ∙ length_push hangs (new_hang hangs above mode)

pushed_get : (xs : List ℕ) (y k s : ℕ) → slice_get (xs ++ y ∷ []) k ≡ Some s → ((k < length xs) × (slice_get xs k ≡ Some s)) ⊎ ((k ≡ length xs) × (y ≡ s))
pushed_get [] y zero s e = inr (refl, some_is e)
pushed_get [] y (suc k) s e = absurd cc
pushed_get (x ∷ xs) y zero s e = inl (omega arith, e)
pushed_get (x ∷ xs) y (suc k) s e = go (pushed_get xs y k s e)
  where
    go : ((k < length xs) × (slice_get xs k ≡ Some s)) ⊎ ((k ≡ length xs) × (y ≡ s)) → ((suc k < suc (length xs)) × (slice_get xs k ≡ Some s)) ⊎ ((suc k ≡ suc (length xs)) × (y ≡ s))
    go (inl (l, is)) = inl (omega (arith, l), is)
    go (inr (l, is)) = inr (ap suc l, is)

front_get : (xs : List ℕ) (y k s : ℕ) → slice_get xs k ≡ Some s → slice_get (xs ++ y ∷ []) k ≡ Some s
front_get [] y k s e = absurd cc
front_get (x ∷ xs) y zero s e = e
front_get (x ∷ xs) y (suc k) s e = front_get xs y k s e

-- one more access, of a task with a greater number
pub entries_more : (old new : Here) (number : ℕ) → AreEntries old → ((v t : ℕ) → IsEntry old t v → t < number) → new.tasks ≡ old.tasks ++ number ∷ [] → length new.hangs ≡ length old.hangs + 1 → AreEntries new
entries_more old new number r newest tasks hangs = record {
  size = ap length tasks ∙ length_push old.tasks number ∙ ap (λ (k : ℕ). k + 1) r.size ∙ sym hangs;
  main = subst (λ (xs : List ℕ). slice_get xs 0 ≡ Some 0) (sym tasks) (front_get old.tasks number 0 0 r.main);
  rising = λ j k s t js ks less. go j k s t less (pushed_get old.tasks number j s (subst (λ (xs : List ℕ). slice_get xs j ≡ Some s) tasks js)) (pushed_get old.tasks number k t (subst (λ (xs : List ℕ). slice_get xs k ≡ Some t) tasks ks));
}
  where
    go : (j k s t : ℕ) → j < k → ((j < length old.tasks) × (slice_get old.tasks j ≡ Some s)) ⊎ ((j ≡ length old.tasks) × (number ≡ s)) → ((k < length old.tasks) × (slice_get old.tasks k ≡ Some t)) ⊎ ((k ≡ length old.tasks) × (number ≡ t)) → s < t
    go j k s t less (inl (a, js)) (inl (b, ks)) = r.rising j k s t js ks less
    go j k s t less (inl (a, js)) (inr (b, e)) = omega (arith, newest j s js, e)
    go j k s t less (inr (a, d)) (inl (b, ks)) = absurd (omega (arith, a, b, less))
    go j k s t less (inr (a, d)) (inr (b, e)) = absurd (omega (arith, a, b, less))

-- the same tasks
pub entries_same : (old new : Here) → AreEntries old → new.tasks ≡ old.tasks → length new.hangs ≡ length old.hangs → AreEntries new
entries_same old new r tasks hangs = record {
  size = ap length tasks ∙ r.size ∙ sym hangs;
  main = subst (λ (xs : List ℕ). slice_get xs 0 ≡ Some 0) (sym tasks) r.main;
  rising = subst (λ (xs : List ℕ). (j k s t : ℕ) → slice_get xs j ≡ Some s → slice_get xs k ≡ Some t → j < k → s < t) (sym tasks) r.rising;
}

module _ (a : Fragment) (right : IsFragment a) where
  pub entry_within : (number at : ℕ) → IsEntry (here_of a) number at → at < length a.line.hangs
  entry_within number at is = omega (arith, slice_get_within a.tasks.items at number is, right.entries.size)

  pub entry_some : (number at : ℕ) → (number ≡ 0 → ⊥) → IsEntry (here_of a) number at → at ≡ 0 → ⊥
  entry_some number at n is z = n (same_at (subst (λ (k : ℕ). slice_get a.tasks.items k ≡ Some number) z is) right.entries.main)

  -- a number stands at one place
  pub one_entry : (number j k : ℕ) → IsEntry (here_of a) number j → IsEntry (here_of a) number k → j ≡ k
  one_entry number j k js ks = go (Rattle.oss_deps.proofs.Basics.compared j k)
    where
      go : (j < k) ⊎ ((j ≡ k) ⊎ (k < j)) → j ≡ k
      go (inl h) = absurd (omega (arith, right.entries.rising j k number number js ks h))
      go (inr (inl e)) = e
      go (inr (inr h)) = absurd (omega (arith, right.entries.rising k j number number ks js h))

  pub opened_of : (number parent above : ℕ) (mode : Mode) (b : Fragment) → IsEntry (here_of a) parent above → ((v t : ℕ) → IsEntry (here_of a) t v → t < number) → HasSameEdges a b → b.line.hangs ≡ opened_in a.line.hangs above mode
      → IsHung (wires_of a.line.hangs) (wires_of b.line.hangs) above (length a.line.hangs) → b.line.head ≡ 0 → b.tasks.items ≡ a.tasks.items ++ number ∷ [] → IsOpenedIn number parent mode a b
  opened_of number parent above mode b is newest edges hangs hung settled tasks = record {
    opened = record { above = above; above_is = is; hangs = hangs; hung = hung; tasks = tasks };
    right = record {
      some = omega (arith, edges.lo, edges.hi, right.some);
      within = omega (arith, edges.hi, right.within);
      settled = settled;
      entries = entries_more (here_of a) (here_of b) number right.entries newest tasks (ap length hangs ∙ length-opened a.line.hangs above mode);
    };
  }

  pub given_of : (number at : ℕ) (b : Fragment) → IsEntry (here_of a) number at → HasSameEdges a b → b.line.hangs ≡ gave_in a.line.hangs at → IsGift (wires_of a.line.hangs) (wires_of b.line.hangs) at → b.line.head ≡ 0 → b.tasks.items ≡ a.tasks.items
      → (HasRoom a → HasRoom b) → IsGivenIn number a b
  given_of number at b is edges hangs given settled tasks room = record {
    given = record { entry = at; entry_is = is; hangs = hangs; given = given; tasks = tasks };
    right = record {
      some = omega (arith, edges.lo, edges.hi, right.some);
      within = omega (arith, edges.hi, right.within);
      settled = settled;
      entries = entries_same (here_of a) (here_of b) right.entries tasks (ap length hangs ∙ length-set a.line.hangs at (given_up (hang_at a.line.hangs at)));
    };
    room = room;
  }
