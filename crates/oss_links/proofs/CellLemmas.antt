-- The table of a cell at the calls of a system.
use Rattle.std.proofs.Common.{◌≡◌, ℕ, zero, suc, ◌<◌, ◌≤◌, ◌+◌, refl, sym, subst, ap, ◌∙◌, ◌⊎◌, inl, inr, Bool, true, false, List, [], ◌∷◌, ◌++◌, length, Some, arith, add-one, eq-eqb, eqb-true, length-append}
use Rattle.std.proofs.lemmas.List.{get_or-set_other, length-set}
use Rattle.std.specs.Prelude.{◌==◌, ◌||◌, slice_get}
use Rattle.oss_syntax.specs.declared.access.Mode.{Mode}
use Rattle.oss_model.specs.Rights.{covers}
use Rattle.oss_deps.specs.declared.opened.Open.{Open}
use Rattle.oss_deps.specs.Opens.{AreOrdered, HasOpened, IsOpened, mode_at, names}
use Rattle.oss_deps.specs.Columns.{IsNumber, IsNumberOf}
use Rattle.oss_deps.specs.Seen.{CanOpen, Seen}
use Rattle.oss_deps.proofs.Basics.{or_cases, or_left, or_right, some_is}
use Rattle.oss_deps.proofs.OpenLemmas.{get_in, not_main}
use Rattle.oss_access_lists.specs.declared.hang.Hang.{Hang}
use Rattle.oss_access_lists.specs.Wires.{loose}
use Rattle.oss_access_lists.specs.Steps.{IsGift, IsHung}
use Rattle.oss_access_lists.specs.Tables.{hang_at, last_in, new_hang, next_link, no_hang, opened_in, wires_of, with_last, with_next}
use Rattle.oss_access_lists.proofs.StepLemmas.{same_or}
use Rattle.oss_links.specs.Held.{AreHeld, IsAccessOf, IsAccessOrMain, IsNewAccess, with_task}
use Rattle.oss_links.specs.Numbers.{IsCellHeld, given_by, task_by}
use Rattle.oss_links.proofs.AlikeLemmas.{empty_holds, held_given, held_renamed, held_told}
use Rattle.oss_links.proofs.OpeningLemmas.{openings_hold}
use Rattle.oss_links.proofs.ConditionLemmas.{creator_held, creator_lends}
use Rattle.oss_links.proofs.GrowLemmas.{held_aside}
use Rattle.oss_links.proofs.NumberLemmas.{entry_of_task, given_found, given_none, given_told, task_of_entry, same_bools, task_within, tasks_grow, tasks_stay}

slice_last : {A : Type 0} (xs : List A) (y : A) → slice_get (xs ++ y ∷ []) (length xs) ≡ Some y
slice_last [] y = refl
slice_last (x ∷ xs) y = slice_last xs y

slice_front : (xs : List ℕ) (y u : ℕ) → (u ≡ length xs → ⊥) → slice_get (xs ++ y ∷ []) u ≡ slice_get xs u
slice_front [] y zero m = absurd (m refl)
slice_front [] y (suc u) m = refl
slice_front (x ∷ xs) y zero m = refl
slice_front (x ∷ xs) y (suc u) m = slice_front xs y u (λ e. m (omega (arith, e)))

-- the table has one row more
pub opened_long : (hangs : List Hang) (p : ℕ) (mode : Mode) → length (opened_in hangs p mode) ≡ length hangs + 1
opened_long hangs p mode = linked (hang_at hangs p).last (last_in (hangs ++ new_hang hangs p mode ∷ []) p (length hangs)) ∙ (length-set (hangs ++ new_hang hangs p mode ∷ []) p (with_last (hang_at (hangs ++ new_hang hangs p mode ∷ []) p) (length hangs)) ∙ length-append hangs (new_hang hangs p mode ∷ []))
  where
    linked : (b : ℕ) (rows : List Hang) → length (next_link rows b (length hangs)) ≡ length rows
    linked b rows = go (b == 0) refl
      where
        go : (t : Bool) → (b == 0) ≡ t → length (next_link rows b (length hangs)) ≡ length rows
        go true h = rw h refl
        go false h = rw h (length-set rows b (with_next (hang_at rows b) (length hangs)))

-- an access that is not the new one is of the old table
other_task : (opens : List Open) (numbers : List ℕ) (t e v s : ℕ) → with_task (task_by opens numbers) t e v ≡ Some s → (v ≡ e → ⊥) → task_by opens numbers v ≡ Some s
other_task opens numbers t e v s h n = go (v == e) refl h
  where
    go : (b : Bool) → (v == e) ≡ b → with_task (task_by opens numbers) t e v ≡ Some s → task_by opens numbers v ≡ Some s
    go true k h = absurd (n (eqb-true v e k))
    go false k h = sym (rw k refl) ∙ h

with_other : (opens : List Open) (numbers : List ℕ) (t e v : ℕ) → (v ≡ e → ⊥) → with_task (task_by opens numbers) t e v ≡ task_by opens numbers v
with_other opens numbers t e v n = go (v == e) refl
  where
    go : (b : Bool) → (v == e) ≡ b → with_task (task_by opens numbers) t e v ≡ task_by opens numbers v
    go true k = absurd (n (eqb-true v e k))
    go false k = rw k refl

-- a new table
pub bare_cell : (c : ℕ) → IsCellHeld [] c (no_hang ∷ []) (0 ∷ [])
bare_cell c = record {
  held = empty_holds (λ t k. given_by [] (no_hang ∷ []) (0 ∷ []) t) c (wires_of (no_hang ∷ [])) (IsAccessOf (task_by [] (0 ∷ []))) (record { places = places; lasts = lasts; main_mode = refl; main_holds = refl }) none;
  main = refl;
  main_alone = alone;
  size = refl;
  opened = opened;
}
  where
    alone : (v : ℕ) → slice_get {X = ℕ} (0 ∷ []) v ≡ Some 0 → v ≡ 0
    alone zero h = refl
    alone (suc v) h = absurd cc

    none : (t v : ℕ) → task_by [] (0 ∷ []) v ≡ Some t → ⊥
    none t zero h = cc
    none t (suc v) h = cc

    places : (v : ℕ) → (wires_of (no_hang ∷ [])).place v ≡ loose
    places zero = refl
    places (suc v) = refl

    lasts : (v : ℕ) → (wires_of (no_hang ∷ [])).last v ≡ 0
    lasts zero = refl
    lasts (suc v) = refl

    opened : (v n : ℕ) → slice_get {X = ℕ} (0 ∷ []) v ≡ Some n → n ≤ length {A = Open} []
    opened zero n h = let e : 0 ≡ n = some_is h in omega (arith, e)
    opened (suc v) n h = absurd cc

-- a table to which an access is appended
module _ (opens : List Open) (c : ℕ) (hangs : List Hang) (numbers : List ℕ) (is : IsCellHeld opens c hangs numbers) (o : Open) (p : ℕ) (mode : Mode) (hung : IsHung (wires_of hangs) (wires_of (opened_in hangs p mode)) p (length hangs)) (fresh : IsOpened opens o.task → ⊥) where
  abbrev grown_hangs : List Hang
  grown_hangs = opened_in hangs p mode

  abbrev grown : List ℕ
  grown = numbers ++ (length opens + 1) ∷ []

  task_same : (v : ℕ) → task_by (opens ++ o ∷ []) grown v ≡ with_task (task_by opens numbers) o.task (length hangs) v
  task_same v = tasks_grow opens o numbers is.opened v ∙ ap (λ k. with_task (task_by opens numbers) o.task k v) is.size

  grown_size : length grown ≡ length grown_hangs
  grown_size = length-append numbers ((length opens + 1) ∷ []) ∙ (ap (λ k. k + 1) is.size ∙ sym (opened_long hangs p mode))

  -- nothing else is given up
  pub given_grown : (t : ℕ) → given_by (opens ++ o ∷ []) grown_hangs grown t ≡ given_by opens hangs numbers t
  given_grown t = same_bools (given_by (opens ++ o ∷ []) grown_hangs grown t) (given_by opens hangs numbers t) back forth
    where
      back : given_by (opens ++ o ∷ []) grown_hangs grown t ≡ true → given_by opens hangs numbers t ≡ true
      back h = go (given_found (opens ++ o ∷ []) grown_hangs grown grown_size t h)
        where
          go : (v : ℕ) × (task_by (opens ++ o ∷ []) grown v ≡ Some t) × ((hang_at grown_hangs v).gave ≡ true) → given_by opens hangs numbers t ≡ true
          go (v, e, g) = pick (same_or v (length hangs))
            where
              held_new : v ≡ length hangs → ⊥
              held_new k = let q = sym g ∙ (hung.gave v ∙ (ap (wires_of hangs).gave k ∙ hung.kept)) in cc

              pick : (v ≡ length hangs) ⊎ (v ≡ length hangs → ⊥) → given_by opens hangs numbers t ≡ true
              pick (inl k) = absurd (held_new k)
              pick (inr n) = given_told opens hangs numbers is.size t v (other_task opens numbers o.task (length hangs) v t (sym (task_same v) ∙ e) n) (sym (hung.gave v) ∙ g)

      forth : given_by opens hangs numbers t ≡ true → given_by (opens ++ o ∷ []) grown_hangs grown t ≡ true
      forth h =
          let k = given_found opens hangs numbers is.size t h in
          let l = task_within opens numbers k.0 t k.1 in
          let n : k.0 ≡ length hangs → ⊥ = λ e. let s = is.size in absurd (omega (arith, l, e, s)) in
          given_told (opens ++ o ∷ []) grown_hangs grown grown_size t k.0 (task_same k.0 ∙ (with_other opens numbers o.task (length hangs) k.0 n ∙ k.1)) (hung.gave k.0 ∙ k.2)

  opened_within : (v n : ℕ) → slice_get grown v ≡ Some n → n ≤ length (opens ++ o ∷ [])
  opened_within v n h = go (same_or v (length numbers))
    where
      long : length (opens ++ o ∷ []) ≡ length opens + 1
      long = length-append opens (o ∷ [])

      go : (v ≡ length numbers) ⊎ (v ≡ length numbers → ⊥) → n ≤ length (opens ++ o ∷ [])
      go (inl e) = let k : length opens + 1 ≡ n = some_is (sym (ap (slice_get grown) e ∙ slice_last numbers (length opens + 1)) ∙ h) in omega (arith, k, long)
      go (inr m) = let k = is.opened v n (sym (slice_front numbers (length opens + 1) v m) ∙ h) in omega (arith, k, long)

  alone : (v : ℕ) → slice_get grown v ≡ Some 0 → v ≡ 0
  alone v h = go (same_or v (length numbers))
    where
      go : (v ≡ length numbers) ⊎ (v ≡ length numbers → ⊥) → v ≡ 0
      go (inl e) = let k : length opens + 1 ≡ 0 = some_is (sym (ap (slice_get grown) e ∙ slice_last numbers (length opens + 1)) ∙ h) in absurd (omega (arith, k))
      go (inr m) = is.main_alone v (sym (slice_front numbers (length opens + 1) v m) ∙ h)

  pub cell_opened : IsNewAccess opens (λ t k. given_by opens hangs numbers t) c (wires_of (opened_in hangs p mode)) (IsAccessOf (task_by opens numbers)) o p (length hangs) → IsCellHeld (opens ++ o ∷ []) c (opened_in hangs p mode) (numbers ++ (length opens + 1) ∷ [])
  cell_opened new = record {
    held =
        held_renamed (opens ++ o ∷ []) (λ t k. given_by (opens ++ o ∷ []) grown_hangs grown t) c (wires_of grown_hangs) (IsAccessOf (with_task (task_by opens numbers) o.task (length hangs))) (IsAccessOf (task_by (opens ++ o ∷ []) grown))
        (λ t v r. task_same v ∙ r) (λ t v r. sym (task_same v) ∙ r)
        (held_told (opens ++ o ∷ []) (λ t k. given_by opens hangs numbers t) (λ t k. given_by (opens ++ o ∷ []) grown_hangs grown t) c (wires_of grown_hangs) (IsAccessOf (with_task (task_by opens numbers) o.task (length hangs))) given_grown
        (openings_hold opens (λ t k. given_by opens hangs numbers t) c (wires_of hangs) (wires_of grown_hangs) (task_by opens numbers) o p (length hangs) is.held hung new));
    main = front numbers is.main;
    main_alone = alone;
    size = grown_size;
    opened = opened_within;
  }
    where
      front : (xs : List ℕ) → slice_get xs 0 ≡ Some 0 → slice_get (xs ++ (length opens + 1) ∷ []) 0 ≡ Some 0
      front [] h = absurd cc
      front (x ∷ xs) h = h

-- a table of a cell that the new task does not name
module _ (opens : List Open) (c : ℕ) (hangs : List Hang) (numbers : List ℕ) (is : IsCellHeld opens c hangs numbers) (o : Open) where
  pub given_aside : (t : ℕ) → given_by (opens ++ o ∷ []) hangs numbers t ≡ given_by opens hangs numbers t
  given_aside t =
      same_bools (given_by (opens ++ o ∷ []) hangs numbers t) (given_by opens hangs numbers t)
      (λ h. let k = given_found (opens ++ o ∷ []) hangs numbers is.size t h in given_told opens hangs numbers is.size t k.0 (sym (tasks_stay opens o numbers is.opened k.0) ∙ k.1) k.2)
      (λ h. let k = given_found opens hangs numbers is.size t h in given_told (opens ++ o ∷ []) hangs numbers is.size t k.0 (tasks_stay opens o numbers is.opened k.0 ∙ k.1) k.2)

  pub cell_aside : names c o ≡ false → (IsOpened opens o.task → ⊥) → IsCellHeld (opens ++ o ∷ []) c hangs numbers
  cell_aside none fresh = record {
    held =
        held_renamed (opens ++ o ∷ []) (λ t k. given_by (opens ++ o ∷ []) hangs numbers t) c (wires_of hangs) (IsAccessOf (task_by opens numbers)) (IsAccessOf (task_by (opens ++ o ∷ []) numbers))
        (λ t v r. tasks_stay opens o numbers is.opened v ∙ r) (λ t v r. sym (tasks_stay opens o numbers is.opened v) ∙ r)
        (held_told (opens ++ o ∷ []) (λ t k. given_by opens hangs numbers t) (λ t k. given_by (opens ++ o ∷ []) hangs numbers t) c (wires_of hangs) (IsAccessOf (task_by opens numbers)) given_aside
        (held_aside opens (λ t k. given_by opens hangs numbers t) c (wires_of hangs) (IsAccessOf (task_by opens numbers)) o is.held none fresh));
    main = is.main;
    main_alone = is.main_alone;
    size = is.size;
    opened = λ v n h. let k = is.opened v n h in let l = length-append opens (o ∷ []) in omega (arith, k, l);
  }

-- a table of which an access is given up
module _ (opens : List Open) (c : ℕ) (hangs later : List Hang) (numbers : List ℕ) (is : IsCellHeld opens c hangs numbers) (t g : ℕ) (gift : IsGift (wires_of hangs) (wires_of later) g) (long : length later ≡ length hangs) (access : task_by opens numbers g ≡ Some t) where
  later_size : length numbers ≡ length later
  later_size = is.size ∙ sym long

  pub given_later : (s : ℕ) → given_by opens later numbers s ≡ (given_by opens hangs numbers s || (t == s))
  given_later s = same_bools (given_by opens later numbers s) (given_by opens hangs numbers s || (t == s)) forth back
    where
      forth : given_by opens later numbers s ≡ true → (given_by opens hangs numbers s || (t == s)) ≡ true
      forth h = go (given_found opens later numbers later_size s h)
        where
          go : (v : ℕ) × (task_by opens numbers v ≡ Some s) × ((hang_at later v).gave ≡ true) → (given_by opens hangs numbers s || (t == s)) ≡ true
          go (v, e, b) = pick (same_or v g)
            where
              pick : (v ≡ g) ⊎ (v ≡ g → ⊥) → (given_by opens hangs numbers s || (t == s)) ≡ true
              pick (inl k) = or_right (given_by opens hangs numbers s) (t == s) (eq-eqb t s (some_is (sym access ∙ (ap (task_by opens numbers) (sym k) ∙ e))))
              pick (inr n) = or_left (given_by opens hangs numbers s) (t == s) (given_told opens hangs numbers is.size s v e (sym (gift.others v n) ∙ b))

      back : (given_by opens hangs numbers s || (t == s)) ≡ true → given_by opens later numbers s ≡ true
      back h = go (or_cases (given_by opens hangs numbers s) (t == s) h)
        where
          still : (v : ℕ) → (hang_at hangs v).gave ≡ true → (v ≡ g) ⊎ (v ≡ g → ⊥) → (hang_at later v).gave ≡ true
          still v b (inl k) = ap (wires_of later).gave k ∙ gift.given
          still v b (inr n) = gift.others v n ∙ b

          go : (given_by opens hangs numbers s ≡ true) ⊎ ((t == s) ≡ true) → given_by opens later numbers s ≡ true
          go (inl k) = let f = given_found opens hangs numbers is.size s k in given_told opens later numbers later_size s f.0 f.1 (still f.0 f.2 (same_or f.0 g))
          go (inr k) = given_told opens later numbers later_size s g (access ∙ ap (λ (y : ℕ). Some y) (eqb-true t s k)) gift.given

  pub cell_given : IsCellHeld opens c later numbers
  cell_given = record {
    held = held_given opens (λ s k. given_by opens hangs numbers s) (λ s k. given_by opens later numbers s) c (wires_of hangs) (wires_of later) (IsAccessOf (task_by opens numbers)) t g is.held gift access given_later;
    main = is.main;
    main_alone = is.main_alone;
    size = later_size;
    opened = is.opened;
  }

-- the creator by its number
parent_entry : (opens : List Open) (c : ℕ) (hangs : List Hang) (numbers : List ℕ) (t n p : ℕ) → AreOrdered opens → IsCellHeld opens c hangs numbers → IsNumberOf opens n t → IsAccessOrMain (IsAccessOf (task_by opens numbers)) t p → slice_get numbers p ≡ Some n
parent_entry opens c hangs numbers t n p ord is (inl z) (inl y) = subst (λ (x : ℕ). slice_get numbers x ≡ Some n) (sym y.1) (is.main ∙ ap (λ (x : ℕ). Some x) (sym z.0))
parent_entry opens c hangs numbers t n p ord is (inl z) (inr r) = absurd ((is.held.not_main t p r).0 z.1)
parent_entry opens c hangs numbers t n p ord is (inr (o, (i, k, e), h)) (inl y) = absurd (not_main ord o (get_in opens i o e) (h ∙ y.0))
parent_entry opens c hangs numbers t n p ord is (inr (o, (i, k, e), h)) (inr r) =
    entry_of_task opens numbers p i o ord e (r ∙ ap (λ (x : ℕ). Some x) (sym h)) ∙ ap (λ (x : ℕ). Some x) (sym (k ∙ add-one i))

pub entry_parent : (opens : List Open) (c : ℕ) (hangs : List Hang) (numbers : List ℕ) (t n p : ℕ) → IsCellHeld opens c hangs numbers → IsNumberOf opens n t → slice_get numbers p ≡ Some n → (n ≡ 0 → p ≡ 0) → IsAccessOrMain (IsAccessOf (task_by opens numbers)) t p
entry_parent opens c hangs numbers t n p is (inl z) e main = inl (z.1, main z.0)
entry_parent opens c hangs numbers t n p is (inr (o, (i, k, at), h)) e main =
    inr (task_of_entry opens numbers p i o at (e ∙ ap (λ (x : ℕ). Some x) (k ∙ add-one i)) ∙ ap (λ (x : ℕ). Some x) h)

-- the row of the new access has its mode
pub new_mode : (hangs : List Hang) (p : ℕ) (mode : Mode) → p < length hangs → (hang_at hangs p).last < length hangs → (wires_of (opened_in hangs p mode)).mode (length hangs) ≡ mode
new_mode hangs p mode below behind = ap (λ (h : Hang). h.mode) (linked (hang_at hangs p).last behind (last_in rows p e) ∙ (get_or-set_other rows p e (with_last (hang_at rows p) e) no_hang (λ k. omega (arith, k, below)) ∙ last hangs))
  where
    e : ℕ
    e = length hangs

    rows : List Hang
    rows = hangs ++ new_hang hangs p mode ∷ []

    last : (xs : List Hang) → hang_at (xs ++ new_hang hangs p mode ∷ []) (length xs) ≡ new_hang hangs p mode
    last [] = refl
    last (x ∷ xs) = last xs

    linked : (b : ℕ) → b < e → (all : List Hang) → hang_at (next_link all b e) e ≡ hang_at all e
    linked b l all = go (b == 0) refl
      where
        go : (t : Bool) → (b == 0) ≡ t → hang_at (next_link all b e) e ≡ hang_at all e
        go true h = rw h refl
        go false h = rw h (get_or-set_other all b e (with_next (hang_at all b) e) no_hang (λ k. omega (arith, k, l)))

-- what a system may open
module _ (s : Seen) (c : ℕ) (hangs : List Hang) (numbers : List ℕ) (o : Open) (parent : ℕ) (ord : AreOrdered s.opens) (is : IsCellHeld s.opens c hangs numbers) (can : CanOpen s o) (named : names c o ≡ true) (number : IsNumberOf s.opens parent o.parent) where
  pub cell_lends : ((t : ℕ) → s.given t c ≡ given_by s.opens hangs numbers t)
      → (above : ℕ) × (slice_get numbers above ≡ Some parent) × ((hang_at hangs above).gave ≡ false) × (covers (hang_at hangs above).mode (mode_at c o) ≡ true)
  cell_lends told = (above.0, parent_entry s.opens c hangs numbers o.parent parent above.0 ord is number above.1, lends.0, lends.1)
    where
      held : AreHeld s.opens s.given c (wires_of hangs) (IsAccessOf (task_by s.opens numbers))
      held = held_told s.opens (λ t k. given_by s.opens hangs numbers t) s.given c (wires_of hangs) (IsAccessOf (task_by s.opens numbers)) told is.held

      above : (p : ℕ) × IsAccessOrMain (IsAccessOf (task_by s.opens numbers)) o.parent p
      above = creator_held s c (wires_of hangs) (IsAccessOf (task_by s.opens numbers)) held o can named

      lends : ((wires_of hangs).gave above.0 ≡ false) × (covers ((wires_of hangs).mode above.0) (mode_at c o) ≡ true)
      lends = creator_lends s c (wires_of hangs) (IsAccessOf (task_by s.opens numbers)) held ord o above.0 can named above.1

  pub cell_grows : (above : ℕ) → slice_get numbers above ≡ Some parent → IsHung (wires_of hangs) (wires_of (opened_in hangs above (mode_at c o))) above (length hangs)
      → IsCellHeld (s.opens ++ o ∷ []) c (opened_in hangs above (mode_at c o)) (numbers ++ (length s.opens + 1) ∷ [])
      × ((t : ℕ) → given_by (s.opens ++ o ∷ []) (opened_in hangs above (mode_at c o)) (numbers ++ (length s.opens + 1) ∷ []) t ≡ given_by s.opens hangs numbers t)
  cell_grows above at hung = (
    cell_opened s.opens c hangs numbers is o above (mode_at c o) hung can.fresh (record {
      named = named;
      fresh = can.fresh;
      not_main = can.not_main;
      not_given = given_none s.opens hangs numbers is.size o.task unknown;
      creator = entry_parent s.opens c hangs numbers o.parent parent above is number at (λ z. is.main_alone above (at ∙ ap (λ (x : ℕ). Some x) z));
      mode = new_mode hangs above (mode_at c o) hung.above hung.behind;
    }),
    given_grown s.opens c hangs numbers is o above (mode_at c o) hung can.fresh,
  )
    where
      unknown : (v : ℕ) → task_by s.opens numbers v ≡ Some o.task → ⊥
      unknown v e = let h = is.held.opened o.task v e in can.fresh (record { entry = h.entry; listed = h.listed; number = h.number })

-- a task in the table
pub cell_shows : (opens : List Open) (c : ℕ) (hangs : List Hang) (numbers : List ℕ) (o : Open) (n t : ℕ) → AreOrdered opens → IsCellHeld opens c hangs numbers → IsNumber opens n o → o.task ≡ t → HasOpened opens c t
    → (v : ℕ) × (slice_get numbers v ≡ Some n) × (v ≡ 0 → ⊥) × (task_by opens numbers v ≡ Some t)
cell_shows opens c hangs numbers o n t ord is (i, k, at) e h =
    let r = is.held.held t h in
    (r.0, entry_of_task opens numbers r.0 i o ord at (r.1 ∙ ap (λ (x : ℕ). Some x) (sym e)) ∙ ap (λ (x : ℕ). Some x) (sym (k ∙ add-one i)), (is.held.not_main t r.0 r.1).1, r.1)
