-- Where the judge finds no fault of clauses, nothing is lacking, released or lent.
use Rattle.std.proofs.Common.{◌≡◌, refl, sym, ap, ◌∙◌, ℕ, ◌<◌, Bool, true, false, List, [], ◌∷◌, Option, Some, None}
use Rattle.std.specs.Prelude.{◌&&◌, ◌||◌, not, if◌then◌else◌, map}
use Rattle.oss_syntax.specs.declared.access.Access.{Access}
use Rattle.oss_syntax.specs.declared.access.Mode.{Mode}
use Rattle.oss_syntax.specs.declared.access.Mode.TheVariants.{Read, Write, Fold as Folding}
use Rattle.oss_syntax.specs.declared.fault.FaultKind.TheVariants as fault
use Rattle.oss_model.specs.Context.{Context, Entry, clause_fault, in_clauses, lacks_right, lent_of, mark_of, release_fault, right_of, wait_on_fault}
use Rattle.oss_model.specs.Rights.{Holds, Mark, NoRight, Released, Right, Touch, any_cell, holds_uncovered, in_access, is_mixed, is_released, joined_right, right_covers, right_from, touch_fault}
use Rattle.oss_model.proofs.JudgeLemmas.{any_cell_none}
use Rattle.oss_needs.specs.declared.clause.Clause.{Clause}
use Rattle.oss_needs.specs.declared.demand.Demand.{Demand}
use Rattle.oss_needs.specs.declared.demand.Demand.TheVariants.{Release, Wait}
use Rattle.oss_needs.specs.Claims.{all_right, said}
use Rattle.oss_needs.specs.Givens.{given_of}
use Rattle.oss_needs.specs.Meeting.{is_met, is_right, mark_behind, mark_by, right_by}
use Rattle.oss_needs.proofs.Bools.{both_true, first_true, is_not, never}
use Rattle.oss_needs.proofs.GivenLemmas.{given_is}
use Rattle.oss_task_needs.specs.Asking.{Asked, asks, creates}
use Rattle.oss_open_needs.specs.Opening.{releases, waits}
use Rattle.oss_lacks.specs.Asking.{range_of}
use Rattle.oss_lent_cells.specs.declared.holder.Holder.{Holder}
use Rattle.oss_lent_cells.specs.Lent.{LentCells}
use Rattle.oss_missing_waits.specs.Holding.{hinderer}
use Rattle.oss_missing_laws.specs.Entries.{demand_by, is_free, right_now}
use Rattle.oss_missing_laws.specs.Programs.{AllUnfolded, IsUnfolded}
use Rattle.oss_missing_laws.proofs.EntryLemmas.{touches}
use Rattle.oss_missing_laws.proofs.KnownLemmas.{IsKnown}

free_none : (o : Option Holder) → is_free o ≡ true → o ≡ None
free_none None e = refl
free_none (Some h) e = never (sym e)

both : (a b : Bool) → a ≡ true → b ≡ true → (a && b) ≡ true
both a b h k = rw h (rw k refl)

-- what stands behind an ask of which the judge finds no fault
pub record IsPassing (given : ℕ → Option Clause) (asked : Asked) (released : ℕ → Bool) (lent : LentCells) (c : ℕ) (t : Touch) : Type 0 where
  pub kept : released c ≡ false
  pub free : hinderer (given c) t (lent c) ≡ None
  pub met : is_met (right_by (given c)) (mark_behind (mark_by (given c)) (asked c)) (demand_by t) ≡ true

three_tests : (a b c : Bool) → (if a then Some fault.MixedAccess else if b then Some fault.Released else if c then Some fault.NotCovered else None) ≡ None → (a ≡ false) × (b ≡ false) × (c ≡ false)
three_tests true b c e = let x : Some fault.MixedAccess ≡ None = e in absurd cc
three_tests false true c e = let x : Some fault.Released ≡ None = e in absurd cc
three_tests false false true e = let x : Some fault.NotCovered ≡ None = e in absurd cc
three_tests false false false e = (refl, refl, refl)

two_tests : (a b : Bool) → (if a then Some fault.Released else if b then Some fault.NotCovered else None) ≡ None → (a ≡ false) × (b ≡ false)
two_tests true b e = let x : Some fault.Released ≡ None = e in absurd cc
two_tests false true e = let x : Some fault.NotCovered ≡ None = e in absurd cc
two_tests false false e = (refl, refl)

is_yes : (b : Bool) → not b ≡ false → b ≡ true
is_yes true h = refl
is_yes false h = sym h

not_unreleased : (r : Bool) (q : Right) → is_released (right_now r q) ≡ false → r ≡ false
not_unreleased true q e = e
not_unreleased false q e = refl

module _ (n : ℕ) (given : ℕ → Option Clause) (asked : Asked) (released : ℕ → Bool) (lent : LentCells) (x : Context) (k : IsKnown n given asked released lent x) where
  pub touch_back : (c : ℕ) (t : Touch) → c < n → touch_fault (right_of x c) (lent_of x c) (mark_of x c) t ≡ None → IsPassing given asked released lent c t
  touch_back c t l e =
      let u = is_free (hinderer (given c) t (lent c)) in
      let m = is_met (right_by (given c)) (mark_behind (mark_by (given c)) (asked c)) (demand_by t) in
      let p : ((not (released c) && u) && m) ≡ true =
      sym (touches.passes (given c) (asked c) (released c) (lent c) t) ∙ sym (ap (λ (y : Entry). is_right (touch_fault y.right y.lent y.mark t)) (k.entry_at c l)) ∙ ap is_right e in
      record {
        kept = is_not (released c) (first_true (not (released c)) u (first_true (not (released c) && u) m p));
        free = free_none (hinderer (given c) t (lent c)) (both_true (not (released c)) u (first_true (not (released c) && u) m p));
        met = both_true (not (released c) && u) m p;
      }

  -- a cell that is named and not released
  named_back : (c : ℕ) → c < n → is_released (right_of x c) ≡ false → (released c ≡ false) × (right_of x c ≡ right_by (given c))
  named_back c l e =
      let r : right_of x c ≡ right_now (released c) (right_by (given c)) = ap (λ (y : Entry). y.right) (k.entry_at c l) in
      let f : released c ≡ false = not_unreleased (released c) (right_by (given c)) (ap (λ (q : Right). is_released q) (sym r) ∙ e) in
      (f, r ∙ ap (λ (b : Bool). right_now b (right_by (given c))) f)

  created_right : (r : Right) (m : Mark) (ds : List Demand) (g : Option Clause) → holds_uncovered r (right_by g) ≡ false → all_right r m ds ≡ true → all_right r m (creates g ds) ≡ true
  created_right r m ds None e h = h
  created_right r m ds (Some c) e h = both (all_right r m ds) (right_covers r c.mode) h (is_yes (right_covers r c.mode) e)

  -- a creation
  pub record IsCreating (final : Bool) (clauses : List Access) (c : ℕ) : Type 0 where
    pub kept : released c ≡ false
    pub unmixed : is_mixed final clauses c ≡ false
    pub right : all_right (right_by (given c)) (mark_by (given c)) (asked c) ≡ true → all_right (right_by (given c)) (mark_by (given c)) (creates (said (given_of final clauses c)) (asked c)) ≡ true

  pub clauses_back : (clauses : List Access) (final : Bool) (c : ℕ) → c < n → in_clauses clauses c ≡ true → clause_fault x clauses final ≡ None → IsCreating final clauses c
  clauses_back clauses final c l i e =
      let t = three_tests (any_cell (is_mixed final clauses) clauses) (any_cell (λ d. is_released (right_of x d)) clauses) (any_cell (λ d. holds_uncovered (right_of x d) (right_from final clauses d)) clauses) e in
      let m : is_mixed final clauses c ≡ false = any_cell_none (is_mixed final clauses) clauses t.0 c i in
      let r = named_back c l (any_cell_none (λ d. is_released (right_of x d)) clauses t.1 c i) in
      let u : holds_uncovered (right_of x c) (right_from final clauses c) ≡ false = any_cell_none (λ d. holds_uncovered (right_of x d) (right_from final clauses d)) clauses t.2 c i in
      record {
        kept = r.0;
        unmixed = m;
        right = created_right (right_by (given c)) (mark_by (given c)) (asked c) (said (given_of final clauses c))
            (ap (λ (q : Right). holds_uncovered q (right_by (said (given_of final clauses c)))) (sym r.1) ∙ ap (λ (q : Right). holds_uncovered (right_of x c) q) ((given_is final clauses c).right m) ∙ u);
      }

  -- a release
  pub record IsReleasing (clauses : List Access) (c : ℕ) : Type 0 where
    pub kept : released c ≡ false
    pub right : all_right (right_by (given c)) (mark_by (given c)) (asked c) ≡ true → all_right (right_by (given c)) (mark_by (given c)) (releases clauses asked c) ≡ true

  abbrev AllCovered : Right → List Access → ℕ → Type 0
  AllCovered r [] c = Unit {0}
  AllCovered r (a ∷ rest) c = (in_access a c ≡ true → right_covers r a.mode ≡ true) × AllCovered r rest c

  write_covers : (r : Right) (m : Mode) → right_covers r Write ≡ true → right_covers r m ≡ true
  write_covers NoRight m e = never (sym e)
  write_covers Released m e = never (sym e)
  write_covers (Holds Write s) m e = refl
  write_covers (Holds Read s) m e = never (sym e)
  write_covers (Holds (Folding op) s) m e = never (sym e)

  -- of two modes that are joined both are covered
  record Covers (r : Right) (m : Mode) (other : Right) : Type 0 where
    first : right_covers r m ≡ true
    second : holds_uncovered r other ≡ false

  abbrev UnfoldedRight : Right → Type 0
  UnfoldedRight (Holds (Folding op) s) = ⊥
  UnfoldedRight _ = Unit {0}

  joined_unfolded : (m : Mode) (s : Bool) (other : Right) → IsUnfolded m → UnfoldedRight other → UnfoldedRight (joined_right m s other)
  joined_unfolded (Folding op) s other f g = absurd f
  joined_unfolded Read s NoRight f g = tt
  joined_unfolded Read s Released f g = tt
  joined_unfolded Read s (Holds Read t) f g = tt
  joined_unfolded Read s (Holds Write t) f g = tt
  joined_unfolded Read s (Holds (Folding op) t) f g = absurd g
  joined_unfolded Write s NoRight f g = tt
  joined_unfolded Write s Released f g = tt
  joined_unfolded Write s (Holds Read t) f g = tt
  joined_unfolded Write s (Holds Write t) f g = tt
  joined_unfolded Write s (Holds (Folding op) t) f g = absurd g

  unfolded_right : (clauses : List Access) (c : ℕ) → AllUnfolded clauses → UnfoldedRight (right_from false clauses c)
  unfolded_right [] c h = tt
  unfolded_right (a ∷ rest) c h = go (in_access a c) (unfolded_right rest c h.1)
    where
      go : (b : Bool) → UnfoldedRight (right_from false rest c) → UnfoldedRight (if b then joined_right a.mode (false || a.strong) (right_from false rest c) else right_from false rest c)
      go true u = joined_unfolded a.mode (false || a.strong) (right_from false rest c) h.0 u
      go false u = u

  joined_back : (r : Right) (m : Mode) (s : Bool) (other : Right) → IsUnfolded m → UnfoldedRight other → holds_uncovered r (joined_right m s other) ≡ false → Covers r m other
  joined_back r (Folding op) s other f g e = absurd f
  joined_back r Read s NoRight f g e = record { first = is_yes (right_covers r Read) e; second = refl }
  joined_back r Read s Released f g e = record { first = is_yes (right_covers r Read) e; second = refl }
  joined_back r Read s (Holds Read t) f g e = record { first = is_yes (right_covers r Read) e; second = e }
  joined_back r Read s (Holds Write t) f g e = record { first = write_covers r Read (is_yes (right_covers r Write) e); second = e }
  joined_back r Read s (Holds (Folding op) t) f g e = absurd g
  joined_back r Write s NoRight f g e = record { first = is_yes (right_covers r Write) e; second = refl }
  joined_back r Write s Released f g e = record { first = is_yes (right_covers r Write) e; second = refl }
  joined_back r Write s (Holds Read t) f g e = record { first = is_yes (right_covers r Write) e; second = ap not (write_covers r Read (is_yes (right_covers r Write) e)) }
  joined_back r Write s (Holds Write t) f g e = record { first = is_yes (right_covers r Write) e; second = e }
  joined_back r Write s (Holds (Folding op) t) f g e = absurd g

  covered_back : (r : Right) (clauses : List Access) (c : ℕ) → AllUnfolded clauses → holds_uncovered r (right_from false clauses c) ≡ false → AllCovered r clauses c
  covered_back r [] c h e = tt
  covered_back r (a ∷ rest) c h e = go (in_access a c) e (λ u. covered_back r rest c h.1 u)
    where
      go : (b : Bool) → holds_uncovered r (if b then joined_right a.mode (false || a.strong) (right_from false rest c) else right_from false rest c) ≡ false
          → (holds_uncovered r (right_from false rest c) ≡ false → AllCovered r rest c) → (b ≡ true → right_covers r a.mode ≡ true) × AllCovered r rest c
      go true u ih = let v = joined_back r a.mode (false || a.strong) (right_from false rest c) h.0 (unfolded_right rest c h.1) u in (λ i. v.first, ih v.second)
      go false u ih = (λ i. never (sym i), ih u)

  asked_right : (r : Right) (m : Mark) (d : Demand) (ds : List Demand) (b : Bool) → (b ≡ true → is_met r (mark_behind m ds) d ≡ true) → all_right r m ds ≡ true → all_right r m (if b then d ∷ ds else ds) ≡ true
  asked_right r m d ds true e h = both (all_right r m ds) (is_met r (mark_behind m ds) d) h (e refl)
  asked_right r m d ds false e h = h

  releases_right : (r : Right) (m : Mark) (clauses : List Access) (more : Asked) (c : ℕ) → AllCovered r clauses c → all_right r m (more c) ≡ true → all_right r m (releases clauses more c) ≡ true
  releases_right r m [] more c h e = e
  releases_right r m (a ∷ rest) more c h e =
      releases_right r m rest (asks (Release a.mode) a.range.lo a.range.hi more) c h.1 (asked_right r m (Release a.mode) (more c) (in_access a c) h.0 e)

  pub release_back : (clauses : List Access) (c : ℕ) → AllUnfolded clauses → c < n → in_clauses clauses c ≡ true → release_fault x clauses ≡ None → IsReleasing clauses c
  release_back clauses c u l i e =
      let t = two_tests (any_cell (λ d. is_released (right_of x d)) clauses) (any_cell (λ d. holds_uncovered (right_of x d) (right_from false clauses d)) clauses) e in
      let r = named_back c l (any_cell_none (λ d. is_released (right_of x d)) clauses t.0 c i) in
      let v : holds_uncovered (right_of x c) (right_from false clauses c) ≡ false = any_cell_none (λ d. holds_uncovered (right_of x d) (right_from false clauses d)) clauses t.1 c i in
      record {
        kept = r.0;
        right = λ h. releases_right (right_by (given c)) (mark_by (given c)) clauses asked c
            (covered_back (right_by (given c)) clauses c u (ap (λ (q : Right). holds_uncovered q (right_from false clauses c)) (sym r.1) ∙ v)) h;
      }

  -- a wait on cells
  pub record IsWaiting (named : List Access) (c : ℕ) : Type 0 where
    pub kept : released c ≡ false
    pub right : all_right (right_by (given c)) (mark_by (given c)) (asked c) ≡ true → all_right (right_by (given c)) (mark_by (given c)) (waits (map range_of named) asked c) ≡ true

  waits_right : (r : Right) (m : Mark) (named : List Access) (more : Asked) (c : ℕ) → lacks_right r ≡ false → all_right r m (more c) ≡ true → all_right r m (waits (map range_of named) more c) ≡ true
  waits_right r m [] more c h e = e
  waits_right r m (a ∷ rest) more c h e = waits_right r m rest (asks Wait a.range.lo a.range.hi more) c h (asked_right r m Wait (more c) (in_access a c) (λ i. ap not h) e)

  pub wait_back : (named : List Access) (c : ℕ) → c < n → in_clauses named c ≡ true → wait_on_fault x named ≡ None → IsWaiting named c
  wait_back named c l i e =
      let t = two_tests (any_cell (λ d. is_released (right_of x d)) named) (any_cell (λ d. lacks_right (right_of x d)) named) e in
      let r = named_back c l (any_cell_none (λ d. is_released (right_of x d)) named t.0 c i) in
      let v : lacks_right (right_of x c) ≡ false = any_cell_none (λ d. lacks_right (right_of x d)) named t.1 c i in
      record {
        kept = r.0;
        right = λ h. waits_right (right_by (given c)) (mark_by (given c)) named asked c (ap (λ (q : Right). lacks_right q) (sym r.1) ∙ v) h;
      }
