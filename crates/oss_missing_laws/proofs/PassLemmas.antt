-- Where nothing is lacking, released or lent, the judge finds no fault of clauses.
use Rattle.std.proofs.Common.{◌≡◌, refl, sym, ap, ◌∙◌, ℕ, zero, suc, ◌+◌, ◌-◌, ◌<◌, ◌≤◌, Bool, true, false, List, [], ◌∷◌, arith, Option, Some, None}
use Rattle.std.specs.Prelude.{◌&&◌, ◌||◌, not, if◌then◌else◌, map, nat_le, nat_lt, is_some}
use Rattle.std.proofs.lemmas.Bool.Decides.{nat_tests}
use Rattle.oss_syntax.specs.declared.access.Access.{Access}
use Rattle.oss_syntax.specs.declared.access.Mode.{Mode}
use Rattle.oss_syntax.specs.declared.access.Mode.TheVariants.{Read, Write, Fold as Folding}
use Rattle.oss_syntax.specs.declared.fault.FaultKind.TheVariants as fault
use Rattle.oss_model.specs.Context.{Context, Entry, clause_fault, in_clauses, lacks_right, lent_of, mark_of, release_fault, right_of, wait_on_fault}
use Rattle.oss_model.specs.Rights.{Holds, Mark, NoRight, Released, Right, Touch, any_cell, any_from, holds_uncovered, in_access, is_mixed, is_released, joined_mode, joined_right, op_eq, right_covers, right_from, right_held, touch_fault}
use Rattle.oss_needs.specs.declared.clause.Clause.{Clause}
use Rattle.oss_needs.specs.declared.clause.Given.{Given}
use Rattle.oss_needs.specs.declared.clause.Given.TheVariants as given
use Rattle.oss_needs.specs.declared.demand.Demand.{Demand}
use Rattle.oss_needs.specs.declared.demand.Demand.TheVariants.{Release, Wait}
use Rattle.oss_needs.specs.Claims.{all_right, is_joined, said}
use Rattle.oss_needs.specs.Givens.{clause_by, given_of, says_both, with_clause}
use Rattle.oss_needs.specs.Meeting.{is_met, is_right, mark_behind, mark_by, right_by}
use Rattle.oss_needs.proofs.Bools.{both_true, is_not, never}
use Rattle.oss_needs.proofs.GivenLemmas.{given_is, given_more}
use Rattle.oss_task_needs.specs.Asking.{Asked, asks, creates}
use Rattle.oss_open_needs.specs.Opening.{releases, waits}
use Rattle.oss_lacks.specs.Asking.{range_of}
use Rattle.oss_lent_cells.specs.Lent.{LentCells}
use Rattle.oss_missing_waits.specs.Holding.{hinderer}
use Rattle.oss_missing_laws.specs.Entries.{demand_by, is_free, right_now}
use Rattle.oss_missing_laws.proofs.EntryLemmas.{is_none, touches}
use Rattle.oss_missing_laws.proofs.GrowLemmas.{releases_more, right_suffix, waits_more}
use Rattle.oss_missing_laws.proofs.KnownLemmas.{IsKnown}

-- No cell of the accesses passes the test.
none_from : (test : ℕ → Bool) (low n : ℕ) → ((c : ℕ) → low ≤ c → c < low + n → test c ≡ false) → any_from test low n ≡ false
none_from test low zero h = refl
none_from test low (suc n) h = ap (λ (b : Bool). b || any_from test (low + 1) n) (h low (omega arith) (omega arith)) ∙ none_from test (low + 1) n (λ c a b. h c (omega arith) (omega arith))

pub none_cell : (test : ℕ → Bool) (xs : List Access) → ((c : ℕ) → in_clauses xs c ≡ true → test c ≡ false) → any_cell test xs ≡ false
none_cell test [] h = refl
none_cell test (a ∷ rest) h =
    ap (λ (b : Bool). b || any_cell test rest) (none_from test a.range.lo (a.range.hi - a.range.lo) (λ c l m. h c (here c l m)))
    ∙ none_cell test rest (λ c e. h c (ap (λ (b : Bool). in_access a c || b) e ∙ or_yes (in_access a c)))
  where
    or_yes : (b : Bool) → (b || true) ≡ true
    or_yes true = refl
    or_yes false = refl

    here : (c : ℕ) → a.range.lo ≤ c → c < a.range.lo + (a.range.hi - a.range.lo) → (in_access a c || in_clauses rest c) ≡ true
    here c l m =
        let o : a.range.lo < a.range.hi = a.range.ordered in
        let x : nat_le a.range.lo c ≡ true = grind (arith, nat_tests, l) in
        let k : c < a.range.hi = omega (arith, l, m, o) in
        let y : nat_lt c a.range.hi ≡ true = grind (arith, nat_tests, k) in
        ap (λ (b : Bool). (b && nat_lt c a.range.hi) || in_clauses rest c) x ∙ ap (λ (b : Bool). b || in_clauses rest c) y

-- a touch
module _ (n : ℕ) (given : ℕ → Option Clause) (asked : Asked) (released : ℕ → Bool) (lent : LentCells) (x : Context) (k : IsKnown n given asked released lent x) where
  all_three : (r h m : Bool) → r ≡ false → h ≡ true → m ≡ true → ((not r && h) && m) ≡ true
  all_three r h m e f g = rw e (rw f (rw g refl))

  pub touch_none : (c : ℕ) (t : Touch) → c < n → released c ≡ false → hinderer (given c) t (lent c) ≡ None → is_met (right_by (given c)) (mark_behind (mark_by (given c)) (asked c)) (demand_by t) ≡ true
      → touch_fault (right_of x c) (lent_of x c) (mark_of x c) t ≡ None
  touch_none c t l e f g =
      is_none (touch_fault (right_of x c) (lent_of x c) (mark_of x c) t)
      (ap (λ (y : Entry). is_right (touch_fault y.right y.lent y.mark t)) (k.entry_at c l)
      ∙ touches.passes (given c) (asked c) (released c) (lent c) t
      ∙ all_three (released c) (is_free (hinderer (given c) t (lent c))) (is_met (right_by (given c)) (mark_behind (mark_by (given c)) (asked c)) (demand_by t)) e (ap is_free f) g)

  -- a right that is not released
  pub right_is : (c : ℕ) → c < n → released c ≡ false → right_of x c ≡ right_by (given c)
  right_is c l e = ap (λ (y : Entry). y.right) (k.entry_at c l) ∙ ap (λ (b : Bool). right_now b (right_by (given c))) e

  unreleased_right : (g : Option Clause) → is_released (right_by g) ≡ false
  unreleased_right None = refl
  unreleased_right (Some c) = refl

  pub not_released : (c : ℕ) → c < n → released c ≡ false → is_released (right_of x c) ≡ false
  not_released c l e = ap (λ (r : Right). is_released r) (right_is c l e) ∙ unreleased_right (given c)

  no_tests : (a b c : Bool) → a ≡ false → b ≡ false → c ≡ false → (if a then Some fault.MixedAccess else if b then Some fault.Released else if c then Some fault.NotCovered else None) ≡ None
  no_tests a b c h l m = rw h (rw l (rw m refl))

  no_two : (a b : Bool) → a ≡ false → b ≡ false → (if a then Some fault.Released else if b then Some fault.NotCovered else None) ≡ None
  no_two a b h l = rw h (rw l refl)

  -- a creation: the new task's right is covered, if it has one
  covered_child : (r : Right) (m : Mark) (ds : List Demand) (g : Option Clause) → all_right r m (creates g ds) ≡ true → holds_uncovered r (right_by g) ≡ false
  covered_child r m ds None e = refl
  covered_child r m ds (Some c) e = ap not (both_true (all_right r m ds) (right_covers r c.mode) e)

  pub clauses_none : (clauses : List Access) (final : Bool) → ((c : ℕ) → in_clauses clauses c ≡ true → c < n) → ((c : ℕ) → c < n → is_mixed final clauses c ≡ false) → ((c : ℕ) → in_clauses clauses c ≡ true → released c ≡ false)
      → ((c : ℕ) → c < n → all_right (right_by (given c)) (mark_by (given c)) (creates (said (given_of final clauses c)) (asked c)) ≡ true) → clause_fault x clauses final ≡ None
  clauses_none clauses final w m e h =
      no_tests (any_cell (is_mixed final clauses) clauses) (any_cell (λ c. is_released (right_of x c)) clauses) (any_cell (λ c. holds_uncovered (right_of x c) (right_from final clauses c)) clauses)
      (none_cell (is_mixed final clauses) clauses (λ c i. m c (w c i)))
      (none_cell (λ c. is_released (right_of x c)) clauses (λ c i. not_released c (w c i) (e c i)))
      (none_cell (λ c. holds_uncovered (right_of x c) (right_from final clauses c)) clauses (λ c i.
      ap (λ (r : Right). holds_uncovered r (right_from final clauses c)) (right_is c (w c i) (e c i))
      ∙ ap (λ (r : Right). holds_uncovered (right_by (given c)) r) (sym ((given_is final clauses c).right (m c (w c i))))
      ∙ covered_child (right_by (given c)) (mark_by (given c)) (asked c) (said (given_of final clauses c)) (h c (w c i))))

  -- a release
  abbrev AllCovered : Right → List Access → ℕ → Type 0
  AllCovered r [] c = Unit {0}
  AllCovered r (a ∷ rest) c = (in_access a c ≡ true → right_covers r a.mode ≡ true) × AllCovered r rest c

  pub released_head : (r : Right) (m : Mark) (d : Demand) (ds : List Demand) (b : Bool) → all_right r m (if b then d ∷ ds else ds) ≡ true → b ≡ true → is_met r (mark_behind m ds) d ≡ true
  released_head r m d ds true e i = both_true (all_right r m ds) (is_met r (mark_behind m ds) d) e
  released_head r m d ds false e i = never (sym i)

  all_covered : (r : Right) (m : Mark) (clauses : List Access) (more : Asked) (c : ℕ) → all_right r m (releases clauses more c) ≡ true → AllCovered r clauses c
  all_covered r m [] more c e = tt
  all_covered r m (a ∷ rest) more c e =
      let next = asks (Release a.mode) a.range.lo a.range.hi more in
      (released_head r m (Release a.mode) (more c) (in_access a c) (right_suffix r m (releases_more rest next c) e), all_covered r m rest next c e)

  joined_covers : (r : Right) (m k : Mode) (s : Bool) → right_covers r m ≡ true → right_covers r k ≡ true → holds_uncovered r (right_held (joined_mode m k) s) ≡ false
  joined_covers r Read Read s e f = ap not e
  joined_covers r Read Write s e f = ap not f
  joined_covers r Read (Folding b) s e f = refl
  joined_covers r Write Read s e f = ap not e
  joined_covers r Write Write s e f = ap not e
  joined_covers r Write (Folding b) s e f = refl
  joined_covers r (Folding a) Read s e f = refl
  joined_covers r (Folding a) Write s e f = refl
  joined_covers r (Folding a) (Folding b) s e f = go (op_eq a b)
    where
      go : (t : Bool) → holds_uncovered r (right_held (if t then Some (Folding a) else None) s) ≡ false
      go true = ap not e
      go false = refl

  joined_right_covers : (r : Right) (m : Mode) (s : Bool) (other : Right) → right_covers r m ≡ true → holds_uncovered r other ≡ false → holds_uncovered r (joined_right m s other) ≡ false
  joined_right_covers r m s NoRight e f = ap not e
  joined_right_covers r m s Released e f = ap not e
  joined_right_covers r m s (Holds k t) e f = joined_covers r m k (s || t) e (is_yes (right_covers r k) f)
    where
      is_yes : (b : Bool) → not b ≡ false → b ≡ true
      is_yes true h = refl
      is_yes false h = sym h

  right_covered : (r : Right) (clauses : List Access) (c : ℕ) → AllCovered r clauses c → holds_uncovered r (right_from false clauses c) ≡ false
  right_covered r [] c h = refl
  right_covered r (a ∷ rest) c h = go (in_access a c) h.0 (right_covered r rest c h.1)
    where
      go : (b : Bool) → (b ≡ true → right_covers r a.mode ≡ true) → holds_uncovered r (right_from false rest c) ≡ false → holds_uncovered r (if b then joined_right a.mode (false || a.strong) (right_from false rest c) else right_from false rest c) ≡ false
      go true i j = joined_right_covers r a.mode (false || a.strong) (right_from false rest c) (i refl) j
      go false i j = j

  pub release_none : (clauses : List Access) → ((c : ℕ) → in_clauses clauses c ≡ true → c < n) → ((c : ℕ) → in_clauses clauses c ≡ true → released c ≡ false)
      → ((c : ℕ) → c < n → all_right (right_by (given c)) (mark_by (given c)) (releases clauses asked c) ≡ true) → release_fault x clauses ≡ None
  release_none clauses w e h =
      no_two (any_cell (λ c. is_released (right_of x c)) clauses) (any_cell (λ c. holds_uncovered (right_of x c) (right_from false clauses c)) clauses)
      (none_cell (λ c. is_released (right_of x c)) clauses (λ c i. not_released c (w c i) (e c i)))
      (none_cell (λ c. holds_uncovered (right_of x c) (right_from false clauses c)) clauses (λ c i.
      ap (λ (r : Right). holds_uncovered r (right_from false clauses c)) (right_is c (w c i) (e c i))
      ∙ right_covered (right_by (given c)) clauses c (all_covered (right_by (given c)) (mark_by (given c)) clauses asked c (h c (w c i)))))

  -- a wait on cells
  waited_right : (r : Right) (m : Mark) (named : List Access) (more : Asked) (c : ℕ) → all_right r m (waits (map range_of named) more c) ≡ true → in_clauses named c ≡ true → lacks_right r ≡ false
  waited_right r m [] more c e i = never (sym i)
  waited_right r m (a ∷ rest) more c e i =
      go (in_access a c) refl i (λ j. waited_right r m rest (asks Wait a.range.lo a.range.hi more) c e j)
    where
      go : (b : Bool) → in_access a c ≡ b → (b || in_clauses rest c) ≡ true → (in_clauses rest c ≡ true → lacks_right r ≡ false) → lacks_right r ≡ false
      go true s j later = is_not (lacks_right r) (released_head r m Wait (more c) (in_access a c) (right_suffix r m (waits_more (map range_of rest) (asks Wait a.range.lo a.range.hi more) c) e) s)
      go false s j later = later j

  pub wait_none : (named : List Access) → ((c : ℕ) → in_clauses named c ≡ true → c < n) → ((c : ℕ) → in_clauses named c ≡ true → released c ≡ false)
      → ((c : ℕ) → c < n → all_right (right_by (given c)) (mark_by (given c)) (waits (map range_of named) asked c) ≡ true) → wait_on_fault x named ≡ None
  wait_none named w e h =
      no_two (any_cell (λ c. is_released (right_of x c)) named) (any_cell (λ c. lacks_right (right_of x c)) named)
      (none_cell (λ c. is_released (right_of x c)) named (λ c i. not_released c (w c i) (e c i)))
      (none_cell (λ c. lacks_right (right_of x c)) named (λ c i.
      ap (λ (r : Right). lacks_right r) (right_is c (w c i) (e c i)) ∙ waited_right (right_by (given c)) (mark_by (given c)) named asked c (h c (w c i)) i))

-- Clauses say something of each cell that they name, where they can be joined.
abbrev is_named : Given → Bool
is_named given.Nothing = false
is_named _ = true

with_named : (c : Clause) (g : Given) → is_named (with_clause c g) ≡ true
with_named c given.Nothing = refl
with_named c given.Mixed = refl
with_named c (given.Says d) = go (joined_mode c.mode d.mode)
  where
    go : (o : Option Mode) → is_named (says_both o c d) ≡ true
    go None = refl
    go (Some m) = refl

named_by : (final : Bool) (clauses : List Access) (c : ℕ) → is_named (given_of final clauses c) ≡ in_clauses clauses c
named_by final [] c = refl
named_by final (a ∷ rest) c = ap is_named (given_more final a rest c) ∙ go (in_access a c) (named_by final rest c)
  where
    go : (b : Bool) → is_named (given_of final rest c) ≡ in_clauses rest c → is_named (if b then with_clause (clause_by final a) (given_of final rest c) else given_of final rest c) ≡ (b || in_clauses rest c)
    go true e = with_named (clause_by final a) (given_of final rest c)
    go false e = e

said_some : (g : Given) → is_joined g ≡ true → is_named g ≡ true → is_some (said g) ≡ true
said_some given.Nothing e f = never (sym f)
said_some given.Mixed e f = never (sym e)
said_some (given.Says d) e f = refl

pub named_some : (final : Bool) (clauses : List Access) (c : ℕ) → is_mixed final clauses c ≡ false → in_clauses clauses c ≡ true → is_some (said (given_of final clauses c)) ≡ true
named_some final clauses c m i = said_some (given_of final clauses c) ((given_is final clauses c).joined ∙ ap not m) (named_by final clauses c ∙ i)

-- Of a cell that they do not name they say nothing.
no_name : (g : Given) → is_named g ≡ false → g ≡ given.Nothing
no_name given.Nothing e = refl
no_name given.Mixed e = never e
no_name (given.Says d) e = never e

pub unnamed_said : (final : Bool) (clauses : List Access) (c : ℕ) → in_clauses clauses c ≡ false → said (given_of final clauses c) ≡ None
unnamed_said final clauses c e = ap said (no_name (given_of final clauses c) (named_by final clauses c ∙ e))

pub unnamed_unmixed : (final : Bool) (clauses : List Access) (c : ℕ) → in_clauses clauses c ≡ false → is_mixed final clauses c ≡ false
unnamed_unmixed final clauses c e = is_not (is_mixed final clauses c) (sym (given_is final clauses c).joined ∙ ap is_joined (no_name (given_of final clauses c) (named_by final clauses c ∙ e)))
