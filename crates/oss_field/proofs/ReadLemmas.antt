-- State words that are read: an entry of a job that the seat holds has a role with the path of its task.
use Rattle.std.proofs.Common.{◌≡◌, ◌⊎◌, inl, inr, sym, subst, refl, ◌∙◌, ap, ℕ, zero, suc, ◌+◌, ◌<◌, ◌≤◌, arith, Bool, true, false, ◌==◌, List, [], ◌∷◌, length, set, Some, None}
use Rattle.std.specs.Prelude.{slice_index, not, ◌&&◌, ◌||◌}
use Rattle.std.specs.Global.{Box}
use Rattle.std.proofs.lemmas.Bool.Decides.{nat_tests}
use mathlib.Core.Option as maybe
use lib.ListN.{get_elem?}
use Rattle.atomic_table.proofs.Lists.{at_map}
use Rattle.oss_body.specs.Mains.{code_main}
use Rattle.oss_code.specs.declared.code.CodeParts.{CodeParts}
use Rattle.oss_jobs.specs.declared.job.Job.{Job}
use Rattle.oss_machine.specs.Frames.{CodeScript}
use Rattle.oss_machine.specs.Machines.{asks}
use Rattle.oss_model.specs.Bodies.{Start}
use Rattle.oss_model.specs.Context.{right_of}
use Rattle.oss_model.specs.Rights.{Right, Holds, NoRight, Released}
use Rattle.oss_ranges.specs.Cells.{is_within}
use Rattle.oss_syntax.specs.declared.access.Mode.{Mode}
use Rattle.oss_words.specs.Bits.{state_at}
use Rattle.oss_words.specs.Sums.{num}
use Rattle.oss_roles.specs.Field.{Field, IsBorne, IsNumberOf, Parts, of_entry, of_main}
use Rattle.oss_roles.specs.Numbers.{cells_below, entry_number, has_cell}
use Rattle.oss_roles.specs.Roles.{Role}
use Rattle.oss_roles.specs.Sights.{Bearing, Sight, Telling}
use Rattle.oss_roles.proofs.NumberLaw.{entries_follow}
use Rattle.oss_roles.proofs.WordClaims.{word_reads_keep}
use Rattle.oss_field.specs.declared.view.SeatView.{SeatView}
use Rattle.oss_field.specs.Known.{Holding, Known, bearing_of, sight_of}
use Rattle.oss_field.specs.Layout.{parts_of, state_word_of}
use Rattle.oss_field.specs.Reading.{after_flags, is_entry_of, is_own, kept_still}
use Rattle.oss_field.specs.Steps.{Steps}
use Rattle.oss_field.specs.Table.{Slot, is_job_of, sights_of, Stands}
use Rattle.oss_field.proofs.TableLemmas.{chained, quiet_stands, read_stands, sits_at}

-- The cell of a number

-- A task has this cell of the first m, and the entry on it has this number.
pub record HasCell (t : ℕ) (own : ℕ → Right) (m e : ℕ) : Type 0 where
  pub cell : ℕ
  pub low : cell < m
  pub has : has_cell (own cell) ≡ true
  pub number : e ≡ entry_number t own cell

-- each number behind a task's own is that of the entry on one of its cells
pub cell_of_number : (t : ℕ) (own : ℕ → Right) (m e : ℕ) → t < e → e ≤ t + cells_below own m → HasCell t own m e
cell_of_number t own zero e more most = absurd (omega (arith, more, most))
cell_of_number t own (suc d) e more most = go (has_cell (own d)) refl (λ l. cell_of_number t own d e more l)
  where
    wider : HasCell t own d e → HasCell t own (suc d) e
    wider h = let l = h.low in record { cell = h.cell; low = omega (arith, l); has = h.has; number = h.number }

    go : (b : Bool) → has_cell (own d) ≡ b → (e ≤ t + cells_below own d → HasCell t own d e) → HasCell t own (suc d) e
    go false h again = let n = ap num h in wider (again (omega (arith, most, n)))
    go true h again =
        let n = ap num h in
        elim (last_or_less (t + cells_below own d) e) [
          | inl l ↦ wider (again l)
          | inr l ↦ record { cell = d; low = omega arith; has = h; number = let x = num (has_cell (own d)) in omega (arith, l, most, n) }
        ]
      where
        last_or_less : (a b : ℕ) → (b ≤ a) ⊎ (a < b)
        last_or_less a b = grind arith

-- a right to a cell that a task has is one by clauses
right_held : (r : Right) → has_cell r ≡ true → (mode : Mode) × (strong : Bool) × (r ≡ Holds mode strong)
right_held (Holds mode strong) h = (mode, strong, refl)
right_held NoRight h = absurd (cc)
right_held Released h = absurd (cc)

both : (a b : Bool) → (a && b) ≡ true → (a ≡ true) × (b ≡ true)
both true true h = (refl, refl)
both true false h = absurd (cc)
both false b h = absurd (cc)

either_or : (a b : Bool) → (a || b) ≡ true → (a ≡ true) ⊎ (b ≡ true)
either_or true b h = inl refl
either_or false b h = inr h

inside_range : (lo hi e : ℕ) → is_within lo hi e ≡ true → (lo ≤ e) × (e < hi)
inside_range lo hi e h = (grind (arith, nat_tests), grind (arith, nat_tests))

not_zero : (t : ℕ) → not (t == 0) ≡ true → t ≡ 0 → ⊥
not_zero zero h q = cc
not_zero (suc t) h q = cc

-- The role of an entry of a job that is held

module _ {main : Start CodeScript} {first : List ℕ} {is_job : Telling CodeScript (Box Job)} (code : CodeParts) (n : ℕ) (k : Parts (Box Job)) (sights : List (Sight CodeScript)) (f : Field (asks code) main first is_job n k sights)
    (id : ℕ) (w : Known) (at : get_elem? sights id ≡ maybe.some (sight_of w)) (m e : ℕ) where
  -- the entry has a role with the path of a job that the seat holds
  pub record IsOwn : Type 0 where
    pub place : ℕ
    pub bearing : Bearing CodeScript
    pub held : get_elem? (sight_of w).bears place ≡ maybe.some bearing
    pub it : Role
    pub is : f.role e ≡ Some it
    pub path : it.path ≡ bearing.path

  own_entry : (i : ℕ) (h : Holding) → get_elem? w.bears i ≡ maybe.some h → is_entry_of m h e ≡ true → IsOwn
  own_entry i h has own =
      let parts = both (not (h.number == 0)) (is_within h.number (h.number + 1 + cells_below (right_of h.body.start.context) m) e) own in
      let range = inside_range h.number (h.number + 1 + cells_below (right_of h.body.start.context) m) e parts.1 in
      by_number h.number h.path borne.number refl refl (not_zero h.number parts.0) range.0 range.1
    where
      bears : get_elem? (sight_of w).bears i ≡ maybe.some (bearing_of h)
      bears = at_map bearing_of w.bears i h has

      borne : IsBorne f.state sights f.net f.role (bearing_of h)
      borne = f.borne id (sight_of w) at i (bearing_of h) bears

      own_role : (r : Role) → f.role h.number ≡ Some r → r.path ≡ h.path → e ≡ h.number → IsOwn
      own_role r is path same = record { place = i; bearing = bearing_of h; held = bears; it = r; is = ap f.role same ∙ is; path = path }

      on_cell : (r : Role) → f.role h.number ≡ Some r → r.path ≡ h.path → h.number < e → e < h.number + 1 + cells_below (right_of h.body.start.context) m → IsOwn
      on_cell r is path more most =
          let c = cell_of_number h.number (right_of h.body.start.context) m e more (omega (arith, most)) in
          let right = right_held (right_of h.body.start.context c.cell) c.has in
          let below = f.roles.below_main h.number r is in
          let x = entries_follow CodeScript (Box Job) is_job (asks code) main first n k sights f id i (sight_of w) (bearing_of h) below.0 c.cell below.1 right.0 right.1 at bears (sym path ∙ below.2) right.2 in
          record { place = i; bearing = bearing_of h; held = bears; it = x.0.it; is = ap f.role (c.number ∙ sym x.3) ∙ x.0.is; path = x.0.path }

      same_or_more : (a b : ℕ) → a ≤ b → (b ≡ a) ⊎ (a < b)
      same_or_more a b l = grind arith

      by_number : (u : ℕ) (p : List ℕ) → IsNumberOf f.role u p → u ≡ h.number → p ≡ h.path → (h.number ≡ 0 → ⊥) → h.number ≤ e → e < h.number + 1 + cells_below (right_of h.body.start.context) m → IsOwn
      by_number u p of_main number same none low high = absurd (none (sym number))
      by_number u p (of_entry r is site path) number same none low high = elim (same_or_more h.number e low) [
        | inl q ↦ own_role r (ap f.role (sym number) ∙ is) (path ∙ same) q
        | inr l ↦ on_cell r (ap f.role (sym number) ∙ is) (path ∙ same) l high
      ]

  own_among : (i : ℕ) (hs : List Holding) → ((j : ℕ) (h : Holding) → get_elem? hs j ≡ maybe.some h → get_elem? w.bears (i + j) ≡ maybe.some h) → is_own m hs e ≡ true → IsOwn
  own_among i [] within own = absurd (cc)
  own_among i (h ∷ hs) within own = elim (either_or (is_entry_of m h e) (is_own m hs e) own) [
    | inl q ↦ own_entry (i + 0) h (within 0 h refl) q
    | inr q ↦ own_among (suc i) hs (λ j g has. subst (λ (z : ℕ). get_elem? w.bears z ≡ maybe.some g) (omega arith) (within (suc j) g has)) q
  ]

  pub own_is : is_own m w.bears e ≡ true → IsOwn
  own_is own = own_among 0 w.bears (λ j h has. subst (λ (z : ℕ). get_elem? w.bears z ≡ maybe.some h) (omega arith) has) own

-- A state word is read

module _ (code : CodeParts) (fuel n id : ℕ) (v : SeatView) (e : ℕ) where
  module _ (ws : List ℕ) (homes : List (maybe.Option Slot)) (views : List SeatView) (stands : Stands code fuel n ws homes views) (sits : get_elem? views id ≡ maybe.some v) where
    abbrev m : ℕ
    m = length code.first

    abbrev x : ℕ
    x = slice_index ws (state_word_of (length code.first) e)

    abbrev l : Known
    l = after_flags (length code.first) e (slice_index ws (state_word_of (length code.first) e)) v.known

    -- what is kept is as it was, or has one entry more of a job that the seat holds
    still_as : (own : Bool) → is_own (length code.first) v.known.bears e ≡ own
        → ((sight_of l).still ≡ (sight_of v.known).still)
        ⊎ ((i : ℕ) × (b : Bearing CodeScript) × (get_elem? (sight_of v.known).bears i ≡ maybe.some b) × (r : Role) × (stands.rule.field.role e ≡ Some r) × (r.path ≡ b.path) × ((sight_of l).still ≡ record { entry = e; state = state_at x; value = None } ∷ (sight_of v.known).still))
    still_as false q = inl (ap (λ (z : Bool). kept_still z e (state_at x) v.known.still) q)
    still_as true q =
        let o = own_is code n (parts_of (length code.first) ws homes stands.cells) (sights_of views) stands.rule.field id v.known (sits_at views id v sits) (length code.first) e q in
        inr (o.place, o.bearing, o.held, o.it, o.is, o.path, ap (λ (z : Bool). kept_still z e (state_at x) v.known.still) q)

    flags_stand : Stands code fuel n ws homes (set views id (record { known = l }))
    flags_stand = quiet_stands code fuel n ws homes views stands id v l sits refl refl (stands.told id v sits) (chained stands
        (word_reads_keep CodeScript (Box Job) (is_job_of code stands.before) (asks code) (code_main code fuel) code.first n (parts_of (length code.first) ws homes stands.cells) (sights_of views) stands.rule.field
        id (sight_of v.known) (sight_of l) e (record {
          sits = sits_at views id v sits;
          ready = refl;
          seen = refl;
          still = still_as (is_own (length code.first) v.known.bears e) refl;
          same = record { words = refl; bears = refl; makes = refl; loaded = refl; joined = refl; owes = refl };
        })))

  pub reads_flags : Steps code fuel n id v (state_word_of (length code.first) e) (λ y. y) (λ y k. k ≡ after_flags (length code.first) e y v.known)
  reads_flags ws homes views stands sits bits =
      let i = state_word_of (length code.first) e in
      let y = slice_index ws i in (
        after_flags (length code.first) e y v.known,
        read_stands code fuel n i ws homes (set views id (record { known = after_flags (length code.first) e y v.known })) (flags_stand ws homes views stands sits),
        refl,
      )
