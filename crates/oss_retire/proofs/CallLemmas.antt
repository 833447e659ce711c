-- A table from which retired accesses were left out, where a task is opened or gives up the cell.
use Rattle.std.proofs.Common.{◌≡◌, ℕ, zero, suc, ◌+◌, ◌≤◌, refl, sym, subst, ap, ◌∙◌, List, [], ◌∷◌, ◌++◌, ◌⊎◌, inl, inr, Bool, true, false, Some, arith, add-one, length}
use Rattle.std.specs.Prelude.{◌==◌, ◌||◌, slice_get}
use Rattle.oss_syntax.specs.declared.access.Mode.{Mode}
use Rattle.oss_syntax.specs.declared.access.Mode.TheVariants.{Write}
use Rattle.oss_model.specs.Rights.{covers}
use Rattle.oss_deps.specs.declared.opened.Open.{Open}
use Rattle.oss_deps.specs.Columns.{IsNumber, IsNumberOf}
use Rattle.oss_deps.specs.Opens.{AreOrdered, HasOpened, IsOpened, mode_at, mode_in, names}
use Rattle.oss_deps.specs.Seen.{CanOpen, HasHeldCover, Seen}
use Rattle.oss_deps.proofs.Basics.{bools, clash, or_left, or_right, some_is}
use Rattle.oss_deps.proofs.OpenLemmas.{get_in, in_front, mode_is, not_main}
use Rattle.oss_access_lists.specs.declared.hang.Hang.{Hang}
use Rattle.oss_access_lists.specs.Steps.{IsGift, IsHung}
use Rattle.oss_access_lists.specs.Tables.{hang_at, opened_in, wires_of}
use Rattle.oss_links.specs.Held.{AreHeld, IsAccessOf, IsNewAccess}
use Rattle.oss_links.specs.Numbers.{IsCellHeld, given_by, task_by}
use Rattle.oss_links.proofs.CellLemmas.{cell_aside, cell_given, cell_opened, entry_parent, given_aside, given_grown, given_later, new_mode}
use Rattle.oss_links.proofs.NumberLemmas.{entry_of_task, given_none}
use Rattle.oss_retire.specs.Retired.{AreRetired, left, left_of}
use Rattle.oss_retire.specs.Tables.{IsCellLeft, given_left, retired_by}
use Rattle.oss_retire.proofs.KeepLemmas.{gifts_keep, openings_keep}
use Rattle.oss_retire.proofs.LeftLemmas.{in_left, mode_in_left}
use Rattle.oss_retire.proofs.RemainderLemmas.{left_long}
use Rattle.oss_retire.proofs.TableLemmas.{left_same, entry_left, given_kept, retired_is, task_kept}

-- an open more, which is not retired
left_added : (r : ℕ → Bool) (opens : List Open) (o : Open) → r o.task ≡ false → left_of r (opens ++ o ∷ []) ≡ left_of r opens ++ o ∷ []
left_added r [] o e = ap (λ (x : Open). x ∷ []) (left_same r o e)
left_added r (q ∷ opens) o e = ap (λ (xs : List Open). left r q ∷ xs) (left_added r opens o e)

left_get : (r : ℕ → Bool) (opens : List Open) (i : ℕ) (o : Open) → slice_get opens i ≡ Some o → slice_get (left_of r opens) i ≡ Some (left r o)
left_get r [] i o e = absurd cc
left_get r (q ∷ opens) zero o e = ap (λ (x : Open). Some (left r x)) (some_is e)
left_get r (q ∷ opens) (suc i) o e = left_get r opens i o e

left_number : (r : ℕ → Bool) (opens : List Open) (n t : ℕ) → IsNumberOf opens n t → IsNumberOf (left_of r opens) n t
left_number r opens n t (inl z) = inl z
left_number r opens n t (inr (o, (i, k, at), h)) = inr (left r o, (i, k, left_get r opens i o at), h)

left_fresh : (r : ℕ → Bool) (opens : List Open) (t : ℕ) → (IsOpened opens t → ⊥) → IsOpened (left_of r opens) t → ⊥
left_fresh r opens t fresh h = let w = in_left r opens h.entry h.listed in fresh (record { entry = w.entry; listed = w.listed; number = ap (λ (x : Open). x.task) (sym w.same) ∙ h.number })

writes_cover : (m n : Mode) → m ≡ Write → covers m n ≡ true
writes_cover m n e = subst (λ (x : Mode). covers x n ≡ true) (sym e) refl

-- no number is greater than that of the last open
pub left_opened_within : (opens : List Open) (c : ℕ) (hangs : List Hang) (numbers : List ℕ) → IsCellLeft opens c hangs numbers → (v n : ℕ) → slice_get numbers v ≡ Some n → n ≤ length opens
left_opened_within opens c hangs numbers is v n e = let k = is.held.opened v n e in let l = left_long is.retired opens in omega (arith, k, l)

-- a task is opened
module _ (s : Seen) (c : ℕ) (hangs : List Hang) (numbers : List ℕ) (o : Open) (ord : AreOrdered s.opens) (is : IsCellLeft s.opens c hangs numbers) (told : (t : ℕ) → s.given t c ≡ given_left s.opens c hangs numbers t) (can : CanOpen s o) where
  abbrev r : ℕ → Bool
  r = is.retired

  abbrev kept : List Open
  kept = left_of r s.opens

  abbrev grown : List Open
  grown = s.opens ++ o ∷ []

  not_retired : r o.task ≡ false
  not_retired = go (bools (r o.task))
    where
      go : (r o.task ≡ true) ⊎ (r o.task ≡ false) → r o.task ≡ false
      go (inl e) = let h = is.opened o.task e in absurd (can.fresh (record { entry = h.entry; listed = h.listed; number = h.number }))
      go (inr e) = e

  kept_fresh : IsOpened kept o.task → ⊥
  kept_fresh = left_fresh r s.opens o.task can.fresh

  grown_opened : (t : ℕ) → r t ≡ true → HasOpened grown c t
  grown_opened t e = let h = is.opened t e in record { entry = h.entry; listed = in_front s.opens (o ∷ []) h.listed; number = h.number; named = h.named }

  retired_then : AreRetired grown s.given c r
  retired_then = openings_keep s c o ord can r (gifts_keep s.opens (λ t k. given_left s.opens c hangs numbers t) s.given c (λ t h. told t ∙ h) r is.are) not_retired

  -- what the table tells then
  module _ (later : List Hang) (more : List ℕ) (ordered : AreOrdered grown) (held : IsCellHeld (left_of r grown) c later more) (same : (t : ℕ) → given_by grown later more t ≡ given_by s.opens hangs numbers t) where
    given_then : (t : ℕ) → given_left grown c later more t ≡ given_left s.opens c hangs numbers t
    given_then t =
        ap (λ (b : Bool). b || retired_by grown more c t) (same t)
        ∙ ap (λ (b : Bool). given_by s.opens hangs numbers t || b) (retired_is grown c later more ordered r grown_opened held t ∙ sym (retired_is s.opens c hangs numbers ord r is.opened is.held t))

    left_then : IsCellLeft grown c later more × ((t : ℕ) → given_left grown c later more t ≡ given_left s.opens c hangs numbers t)
    left_then = (
      record {
        retired = r;
        opened = grown_opened;
        held = held;
        are = gifts_keep grown s.given (λ t k. given_left grown c later more t) c (λ t h. given_then t ∙ (sym (told t) ∙ h)) r retired_then;
      },
      given_then,
    )

  -- without the cell
  pub left_aside : AreOrdered grown → names c o ≡ false → IsCellLeft grown c hangs numbers × ((t : ℕ) → given_left grown c hangs numbers t ≡ given_left s.opens c hangs numbers t)
  left_aside ordered none =
      left_then hangs numbers ordered
      (subst (λ (xs : List Open). IsCellHeld xs c hangs numbers) (sym (left_added r s.opens o not_retired)) (cell_aside kept c hangs numbers is.held o none kept_fresh))
      (λ t.
      sym (given_kept r grown hangs numbers t)
      ∙ (ap (λ (xs : List Open). given_by xs hangs numbers t) (left_added r s.opens o not_retired) ∙ (given_aside kept c hangs numbers is.held o t ∙ given_kept r s.opens hangs numbers t)))

  module _ (parent : ℕ) (named : names c o ≡ true) (number : IsNumberOf s.opens parent o.parent) where
    -- the creator's access
    held : AreHeld kept (λ t k. given_by kept hangs numbers t) c (wires_of hangs) (IsAccessOf (task_by kept numbers))
    held = is.held.held

    record Lender (v : ℕ) : Type 0 where
      pub number_is : slice_get numbers v ≡ Some parent
      pub gave : (hang_at hangs v).gave ≡ false
      pub covered : covers (hang_at hangs v).mode (mode_at c o) ≡ true

    lender : IsNumberOf s.opens parent o.parent → (o.parent ≡ 0) ⊎ HasHeldCover s c o → (v : ℕ) × Lender v
    lender (inl z) cover = (
      0,
      record {
        number_is = is.held.main ∙ ap (λ (x : ℕ). Some x) (sym z.0);
        gave = held.wired.main_holds;
        covered = writes_cover (hang_at hangs 0).mode (mode_at c o) held.wired.main_writes;
      },
    )
    lender (inr (q, (i, k, at), h)) (inl z) = absurd (not_main ord q (get_in s.opens i q at) (h ∙ z))
    lender (inr (q, (i, k, at), h)) (inr cover) = (
      v.0,
      record {
        number_is = entry_of_task s.opens numbers v.0 i q ord at (v.1 ∙ ap (λ (x : ℕ). Some x) (sym h)) ∙ ap (λ (x : ℕ). Some x) (sym (k ∙ add-one i));
        gave = sym (held.gave o.parent v.0 (task_kept r s.opens numbers v.0 ∙ v.1)) ∙ not_given;
        covered = subst (λ (x : Mode). covers x (mode_at c o) ≡ true) mode cover.cover.covered;
      },
    )
      where
        -- a retired access is given up
        parent_left : r o.parent ≡ false
        parent_left = go (bools (r o.parent))
          where
            go : (r o.parent ≡ true) ⊎ (r o.parent ≡ false) → r o.parent ≡ false
            go (inr e) = e
            go (inl e) = clash (s.given o.parent c) (told o.parent ∙ or_right (given_by s.opens hangs numbers o.parent) (retired_by s.opens numbers c o.parent) (retired_is s.opens c hangs numbers ord r is.opened is.held o.parent ∙ e)) cover.held

        v : (u : ℕ) × (task_by s.opens numbers u ≡ Some o.parent)
        v = entry_left s.opens c hangs numbers ord r is.opened is.held o.parent parent_left cover.cover.above

        not_given : given_by kept hangs numbers o.parent ≡ false
        not_given = go (bools (given_by s.opens hangs numbers o.parent))
          where
            go : (given_by s.opens hangs numbers o.parent ≡ true) ⊎ (given_by s.opens hangs numbers o.parent ≡ false) → given_by kept hangs numbers o.parent ≡ false
            go (inr e) = given_kept r s.opens hangs numbers o.parent ∙ e
            go (inl e) = clash (s.given o.parent c) (told o.parent ∙ or_left (given_by s.opens hangs numbers o.parent) (retired_by s.opens numbers c o.parent) e) cover.held

        mode : mode_at c cover.cover.above.entry ≡ (hang_at hangs v.0).mode
        mode =
            sym (mode_is c ord cover.cover.above.entry cover.cover.above.listed)
            ∙ (ap (mode_in s.opens c) cover.cover.above.number ∙ (sym (mode_in_left r c s.opens o.parent parent_left) ∙ held.mode o.parent v.0 (task_kept r s.opens numbers v.0 ∙ v.1)))

    -- it is there, not given up, and covers the new one
    pub left_lends : (above : ℕ) × (slice_get numbers above ≡ Some parent) × ((hang_at hangs above).gave ≡ false) × (covers (hang_at hangs above).mode (mode_at c o) ≡ true)
    left_lends = let l = lender number (can.covered c named) in (l.0, l.1.number_is, l.1.gave, l.1.covered)

    -- with the cell
    pub left_grows : AreOrdered grown → (above : ℕ) → slice_get numbers above ≡ Some parent → IsHung (wires_of hangs) (wires_of (opened_in hangs above (mode_at c o))) above (length hangs)
        → IsCellLeft grown c (opened_in hangs above (mode_at c o)) (numbers ++ (length s.opens + 1) ∷ [])
        × ((t : ℕ) → given_left grown c (opened_in hangs above (mode_at c o)) (numbers ++ (length s.opens + 1) ∷ []) t ≡ given_left s.opens c hangs numbers t)
    left_grows ordered above at hung = left_then later more ordered held_then same
      where
        later : List Hang
        later = opened_in hangs above (mode_at c o)

        more : List ℕ
        more = numbers ++ (length s.opens + 1) ∷ []

        long : (length kept + 1) ≡ (length s.opens + 1)
        long = ap (λ (x : ℕ). x + 1) (left_long r s.opens)

        unknown : (v : ℕ) → task_by kept numbers v ≡ Some o.task → ⊥
        unknown v e = let h = held.opened o.task v e in kept_fresh (record { entry = h.entry; listed = h.listed; number = h.number })

        is_new : IsNewAccess kept (λ t k. given_by kept hangs numbers t) c (wires_of later) (IsAccessOf (task_by kept numbers)) o above (length hangs)
        is_new = record {
          named = named;
          fresh = kept_fresh;
          not_main = can.not_main;
          not_given = given_none kept hangs numbers is.held.size o.task unknown;
          creator = entry_parent kept c hangs numbers o.parent parent above is.held (left_number r s.opens parent o.parent number) at (λ z. is.held.main_alone above (at ∙ ap (λ (x : ℕ). Some x) z));
          mode = new_mode hangs above (mode_at c o) hung.above hung.behind;
        }

        held_then : IsCellHeld (left_of r grown) c later more
        held_then =
            subst (λ (xs : List Open). IsCellHeld xs c later more) (sym (left_added r s.opens o not_retired))
            (subst (λ (x : ℕ). IsCellHeld (kept ++ o ∷ []) c later (numbers ++ x ∷ [])) long (cell_opened kept c hangs numbers is.held o above (mode_at c o) hung kept_fresh is_new))

        same : (t : ℕ) → given_by grown later more t ≡ given_by s.opens hangs numbers t
        same t =
            sym (given_kept r grown later more t)
            ∙ (ap (λ (xs : List Open). given_by xs later more t) (left_added r s.opens o not_retired)
            ∙ (ap (λ (x : ℕ). given_by (kept ++ o ∷ []) later (numbers ++ x ∷ []) t) (sym long) ∙ (given_grown kept c hangs numbers is.held o above (mode_at c o) hung kept_fresh t ∙ given_kept r s.opens hangs numbers t)))

-- a task gives up the cell
module _ (opens : List Open) (c : ℕ) (hangs later : List Hang) (numbers : List ℕ) (ord : AreOrdered opens) (is : IsCellLeft opens c hangs numbers) (t g : ℕ) (gift : IsGift (wires_of hangs) (wires_of later) g) (long : length later ≡ length hangs) (access : task_by opens numbers g ≡ Some t) where
  abbrev some : ℕ → Bool
  some = is.retired

  swapped : (a b d : Bool) → ((a || b) || d) ≡ ((a || d) || b)
  swapped true b d = refl
  swapped false true true = refl
  swapped false true false = refl
  swapped false false true = refl
  swapped false false false = refl

  pub left_later : (u : ℕ) → given_left opens c later numbers u ≡ (given_left opens c hangs numbers u || (t == u))
  left_later u =
      ap (λ (b : Bool). b || retired_by opens numbers c u)
      (sym (given_kept some opens later numbers u) ∙ (given_later (left_of some opens) c hangs later numbers is.held t g gift long (task_kept some opens numbers g ∙ access) u ∙ ap (λ (b : Bool). b || (t == u)) (given_kept some opens hangs numbers u)))
      ∙ swapped (given_by opens hangs numbers u) (t == u) (retired_by opens numbers c u)

  pub left_given : IsCellLeft opens c later numbers
  left_given = record {
    retired = some;
    opened = is.opened;
    held = cell_given (left_of some opens) c hangs later numbers is.held t g gift long (task_kept some opens numbers g ∙ access);
    are = gifts_keep opens (λ u k. given_left opens c hangs numbers u) (λ u k. given_left opens c later numbers u) c (λ u h. left_later u ∙ or_left (given_left opens c hangs numbers u) (t == u) h) some is.are;
  }

-- a task that has not given up the cell is in the table
pub left_shows : (opens : List Open) (c : ℕ) (hangs : List Hang) (numbers : List ℕ) (o : Open) (n t : ℕ) → AreOrdered opens → IsCellLeft opens c hangs numbers → IsNumber opens n o → o.task ≡ t → HasOpened opens c t → given_left opens c hangs numbers t ≡ false
    → (v : ℕ) × (slice_get numbers v ≡ Some n) × (v ≡ 0 → ⊥) × (task_by opens numbers v ≡ Some t)
left_shows opens c hangs numbers o n t ord is (i, k, at) e h held = (
  v.0,
  entry_of_task opens numbers v.0 i o ord at (v.1 ∙ ap (λ (x : ℕ). Some x) (sym e)) ∙ ap (λ (x : ℕ). Some x) (sym (k ∙ add-one i)),
  (is.held.held.not_main t v.0 (task_kept is.retired opens numbers v.0 ∙ v.1)).1,
  v.1,
)
  where
    not_retired : is.retired t ≡ false
    not_retired = go (bools (is.retired t))
      where
        go : (is.retired t ≡ true) ⊎ (is.retired t ≡ false) → is.retired t ≡ false
        go (inr f) = f
        go (inl f) = clash (given_left opens c hangs numbers t) (or_right (given_by opens hangs numbers t) (retired_by opens numbers c t) (retired_is opens c hangs numbers ord is.retired is.opened is.held t ∙ f)) held

    v : (u : ℕ) × (task_by opens numbers u ≡ Some t)
    v = entry_left opens c hangs numbers ord is.retired is.opened is.held t not_retired h
