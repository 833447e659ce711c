-- Why a creation, a release or a wait may not be: what its fault says of the cells that it names, and what is told of them.
use Rattle.std.proofs.Common.{◌≡◌, ℕ, zero, suc, ◌+◌, ◌-◌, ◌<◌, ◌≤◌, ◌⊎◌, inl, inr, refl, sym, subst, ap, ◌∙◌, List, [], ◌∷◌, ◌++◌, length, drop, arith, Bool, true, false, true≢false, Option, None, Some, if◌then◌else◌}
use Rattle.std.specs.Prelude.{◌&&◌, ◌||◌, nat_le, Err, IfOk, Ok, Result}
use Rattle.std.proofs.lemmas.Bool.Decides.{nat_tests}
use Rattle.std.proofs.lemmas.List.{append-nil}
use Rattle.oss_syntax.specs.declared.access.Access.{Access}
use Rattle.oss_syntax.specs.declared.access.Mode.{Mode}
use Rattle.oss_syntax.specs.declared.fault.FaultKind.{FaultKind}
use Rattle.oss_syntax.specs.declared.fault.FaultKind.TheVariants as fault
use Rattle.oss_syntax.specs.declared.tree.program.Item.{Item}
use Rattle.oss_model.specs.Bodies.{Ask, Create, Order, Program, Release, WaitOn}
use Rattle.oss_model.specs.Context.{Context, clause_fault, creation_fault, in_clauses, lacks_right, or_else, release_fault, right_of, wait_on_fault}
use Rattle.oss_model.specs.Machine.{State}
use Rattle.oss_model.specs.Rights.{Holds, Mark, NoRight, Released, Right, any_cell, any_from, holds_uncovered, in_access, is_mixed, is_released, right_from}
use Rattle.oss_ranges.specs.Cells.{value_at}
use Rattle.oss_ranges.specs.declared.piece.Piece.{Piece}
use Rattle.oss_pieces.specs.CellSets.{SetOfCells, has}
use Rattle.oss_judge.proofs.TestLemmas.{either, or_left, or_right, or_true}
use Rattle.oss_machine.specs.Frames.{CodeScript}
use Rattle.oss_explanation.specs.declared.explained.Failing.{Failing}
use Rattle.oss_explanation.specs.declared.explained.Reason.{Reason}
use Rattle.oss_explanation.specs.declared.explained.Reason.TheVariants as reasons
use Rattle.oss_explanation.specs.declared.explained.Word.{Word}
use Rattle.oss_explanation.specs.Explanations.{IsReason, names}
use Rattle.oss_explanation.specs.Explanations.IsReason.{creation, deep_after, many_after, mixed, release, released, wait}
use Rattle.oss_explanation.specs.Held.{AreFailing, clause_words, is_listed, once, word_eq, word_of}
use Rattle.oss_explanation.specs.Lives.{IsReleased}
use Rattle.oss_explain.specs.declared.begun.Begun.{Begun}
use Rattle.oss_explain.specs.declared.begun.ReleasedAt.{ReleasedAt}
use Rattle.oss_explain.specs.Directives.{IsCreationUncovered, IsMixedOf, IsReleaseUncovered, is_uncovered}
use Rattle.oss_explain.specs.Failures.{HasCell, is_uncovered_by}
use Rattle.oss_explain.specs.Joining.{AreJoined, mode_held}
use Rattle.oss_explain.specs.Noting.{IsRight}
use Rattle.oss_explain.specs.Owned.{own_of}
use Rattle.oss_explain.specs.Ways.{entry_of}
use Rattle.oss_explain.specs.Reasons.{IsReasonOf, IsReleasedOf, IsReleasedOn}
use Rattle.oss_explain.proofs.HoldingLemmas.{ext}

-- A cell that passes

and_true : (a b : Bool) → (a && b) ≡ true → (a ≡ true) × (b ≡ true)
and_true true b h = (refl, h)
and_true false b h = absurd (true≢false (sym h))

and_both : (a b : Bool) → a ≡ true → b ≡ true → (a && b) ≡ true
and_both a b g h = ap (λ x. x && b) g ∙ h

-- what passes two tests passes the second
pub named_passes : (a b : Bool) → (a && b) ≡ true → b ≡ true
named_passes a b h = (and_true a b h).1

-- one of n cells, from this one on, passes
record Found (test : ℕ → Bool) (low n : ℕ) : Type 0 where
  cell : ℕ
  above : low ≤ cell
  below : cell < low + n
  passes : test cell ≡ true

found_later : (test : ℕ → Bool) (low n : ℕ) → Found test (low + 1) n → Found test low (suc n)
found_later test low n f = record { cell = f.cell; above = omega arith; below = omega arith; passes = f.passes }

found_from : (test : ℕ → Bool) (low n : ℕ) → any_from test low n ≡ true → Found test low n
found_from test low zero h = absurd (true≢false (sym h))
found_from test low (suc n) h =
    either (or_true (test low) (any_from test (low + 1) n) h)
    (λ e. record { cell = low; above = omega arith; below = omega arith; passes = e })
    (λ e. found_later test low n (found_from test (low + 1) n e))

access_high : (a : Access) (c : ℕ) → in_access a c ≡ true → c < a.range.hi
access_high a c h = grind (arith, nat_tests)

within_access : (a : Access) (c : ℕ) → a.range.lo ≤ c → c < a.range.lo + (a.range.hi - a.range.lo) → in_access a c ≡ true
within_access a c l k = grind (arith, nat_tests)

-- a cell that accesses name is one that a program may have
named_within : (xs : List Access) (c : ℕ) → in_clauses xs c ≡ true → c < 1048576
named_within [] c h = absurd (true≢false (sym h))
named_within (a ∷ rest) c h =
    either (or_true (in_access a c) (in_clauses rest c) h)
    (λ e. let high = access_high a c e in let within = a.range.within in omega (arith, high, within))
    (λ e. named_within rest c e)

named_here : (test : ℕ → Bool) (a : Access) (rest : List Access) → Found test a.range.lo (a.range.hi - a.range.lo) → HasCell (λ c. in_clauses (a ∷ rest) c && test c)
named_here test a rest f =
    let named = or_left (in_access a f.cell) (in_clauses rest f.cell) (within_access a f.cell f.above f.below) in
    (f.cell, (named_within (a ∷ rest) f.cell named, and_both (in_clauses (a ∷ rest) f.cell) (test f.cell) named f.passes))

named_later : (test : ℕ → Bool) (a : Access) (rest : List Access) → HasCell (λ c. in_clauses rest c && test c) → HasCell (λ c. in_clauses (a ∷ rest) c && test c)
named_later test a rest (c, (l, h)) =
    let both = and_true (in_clauses rest c) (test c) h in
    (c, (l, and_both (in_clauses (a ∷ rest) c) (test c) (or_right (in_access a c) (in_clauses rest c) both.0) both.1))

has_named : (test : ℕ → Bool) (xs : List Access) → any_cell test xs ≡ true → HasCell (λ c. in_clauses xs c && test c)
has_named test [] h = absurd (true≢false (sym h))
has_named test (a ∷ rest) h =
    either (or_true (any_from test a.range.lo (a.range.hi - a.range.lo)) (any_cell test rest) h)
    (λ e. named_here test a rest (found_from test a.range.lo (a.range.hi - a.range.lo) e))
    (λ e. named_later test a rest (has_named test rest e))

only_test : (xs : List Access) (test : ℕ → Bool) → HasCell (λ c. in_clauses xs c && test c) → HasCell test
only_test xs test (c, (l, h)) = (c, (l, (and_true (in_clauses xs c) (test c) h).1))

-- tests that agree
pub has_same : {p q : ℕ → Bool} → ((c : ℕ) → p c ≡ q c) → HasCell q → HasCell p
has_same e (c, (l, h)) = (c, (l, e c ∙ h))

pub failing_same : (all : List Item) {p q : ℕ → Bool} (f : Failing) → ((c : ℕ) → p c ≡ q c) → AreFailing all p f → AreFailing all q f
failing_same all f e h = subst (λ (t : ℕ → Bool). AreFailing all t f) (ext e) h

-- what a fault of a creation says, by its kind
abbrev pub CreationSays : Context → List Access → Bool → FaultKind → Type 0
CreationSays x clauses final fault.TooDeep = Unit {0}
CreationSays x clauses final fault.TooManyTasks = Unit {0}
CreationSays x clauses final fault.MixedAccess = HasCell (is_mixed final clauses)
CreationSays x clauses final fault.Released = (HasCell (λ c. in_clauses clauses c && is_released (right_of x c))) × (x.depth < 64)
CreationSays x clauses final fault.NotCovered = (HasCell (is_uncovered x final clauses)) × (x.depth < 64)
CreationSays x clauses final _ = ⊥

pub no_creation : (x : Context) (clauses : List Access) (final : Bool) (k : FaultKind) → (k ≡ fault.TooDeep → ⊥) → (k ≡ fault.TooManyTasks → ⊥) → (k ≡ fault.MixedAccess → ⊥) → (k ≡ fault.Released → ⊥)
    → (k ≡ fault.NotCovered → ⊥) → CreationSays x clauses final k → ⊥
no_creation x clauses final fault.TooDeep a b c d e h = a refl
no_creation x clauses final fault.TooManyTasks a b c d e h = b refl
no_creation x clauses final fault.MixedAccess a b c d e h = c refl
no_creation x clauses final fault.Released a b c d e h = d refl
no_creation x clauses final fault.NotCovered a b c d e h = e refl
no_creation x clauses final _ a b c d e h = h

-- what a fault of a release says, and one of a wait
abbrev pub ReleaseSays : Context → List Access → FaultKind → Type 0
ReleaseSays x clauses fault.Released = HasCell (λ c. in_clauses clauses c && is_released (right_of x c))
ReleaseSays x clauses fault.NotCovered = HasCell (is_uncovered x false clauses)
ReleaseSays x clauses _ = ⊥

abbrev pub WaitSays : Context → List Access → FaultKind → Type 0
WaitSays x named fault.Released = HasCell (λ c. in_clauses named c && is_released (right_of x c))
WaitSays x named fault.NotCovered = HasCell (λ c. in_clauses named c && lacks_right (right_of x c))
WaitSays x named _ = ⊥

pub no_release : (x : Context) (clauses : List Access) (k : FaultKind) → (k ≡ fault.Released → ⊥) → (k ≡ fault.NotCovered → ⊥) → ReleaseSays x clauses k → ⊥
no_release x clauses fault.Released a b h = a refl
no_release x clauses fault.NotCovered a b h = b refl
no_release x clauses _ a b h = h

pub no_wait : (x : Context) (named : List Access) (k : FaultKind) → (k ≡ fault.Released → ⊥) → (k ≡ fault.NotCovered → ⊥) → WaitSays x named k → ⊥
no_wait x named fault.Released a b h = a refl
no_wait x named fault.NotCovered a b h = b refl
no_wait x named _ a b h = h

some_same : (k j : FaultKind) → ◌≡◌ {A = Option FaultKind} (Some k) (Some j) → k ≡ j
some_same k j e = cc

none_some : (k : FaultKind) → ◌≡◌ {A = Option FaultKind} None (Some k) → ⊥
none_some k e = cc

shallow : (n : ℕ) → nat_le 64 n ≡ false → n < 64
shallow n h = grind (arith, nat_tests)

-- a fault of a creation
module _ (x : Context) (clauses : List Access) (final : Bool) (kind : FaultKind) where
  creation_told : (k : FaultKind) → ◌≡◌ {A = Option FaultKind} (Some k) (Some kind) → CreationSays x clauses final k → CreationSays x clauses final kind
  creation_told k e h = subst (λ (j : FaultKind). CreationSays x clauses final j) (some_same k kind e) h

  by_clauses : (m r u : Bool) → any_cell (is_mixed final clauses) clauses ≡ m → any_cell (λ c. is_released (right_of x c)) clauses ≡ r → any_cell (is_uncovered x final clauses) clauses ≡ u → x.depth < 64
      → (if m then Some fault.MixedAccess else if r then Some fault.Released else if u then Some fault.NotCovered else None) ≡ Some kind → CreationSays x clauses final kind
  by_clauses true r u is_m is_r is_u few h = creation_told fault.MixedAccess h (only_test clauses (is_mixed final clauses) (has_named (is_mixed final clauses) clauses is_m))
  by_clauses false true u is_m is_r is_u few h = creation_told fault.Released h (has_named (λ c. is_released (right_of x c)) clauses is_r, few)
  by_clauses false false true is_m is_r is_u few h = creation_told fault.NotCovered h (only_test clauses (is_uncovered x final clauses) (has_named (is_uncovered x final clauses) clauses is_u), few)
  by_clauses false false false is_m is_r is_u few h = absurd (none_some kind h)

  by_limits : (a b : Bool) → nat_le 64 x.depth ≡ a → nat_le 65535 x.created ≡ b → or_else (if a then Some fault.TooDeep else if b then Some fault.TooManyTasks else None) (clause_fault x clauses final) ≡ Some kind
      → CreationSays x clauses final kind
  by_limits true b is_a is_b h = creation_told fault.TooDeep h tt
  by_limits false true is_a is_b h = creation_told fault.TooManyTasks h tt
  by_limits false false is_a is_b h =
      by_clauses (any_cell (is_mixed final clauses) clauses) (any_cell (λ c. is_released (right_of x c)) clauses) (any_cell (is_uncovered x final clauses) clauses) refl refl refl (shallow x.depth is_a) h

  creation_says : creation_fault x clauses final ≡ Some kind → CreationSays x clauses final kind
  creation_says h = by_limits (nat_le 64 x.depth) (nat_le 65535 x.created) refl refl h

-- the same by clauses and a kind that are equal to them
pub creation_at : (x : Context) {clauses accesses : List Access} {final other : Bool} {kind k : FaultKind} → clauses ≡ accesses → final ≡ other → kind ≡ k → creation_fault x accesses other ≡ Some kind
    → CreationSays x clauses final k
creation_at x {clauses = clauses} {accesses = accesses} {final = final} {other = other} {kind = kind} {k = k} e f g h =
    subst (λ (j : FaultKind). CreationSays x clauses final j) g
    (creation_says x clauses final kind (ap (λ (cs : List Access). creation_fault x cs final) e ∙ ap (λ (t : Bool). creation_fault x accesses t) f ∙ h))

-- a fault of a release, and one of a wait
module _ (x : Context) (clauses : List Access) (kind : FaultKind) where
  release_by : (r u : Bool) → any_cell (λ c. is_released (right_of x c)) clauses ≡ r → any_cell (is_uncovered x false clauses) clauses ≡ u
      → (if r then Some fault.Released else if u then Some fault.NotCovered else None) ≡ Some kind → ReleaseSays x clauses kind
  release_by true u is_r is_u h = subst (λ (j : FaultKind). ReleaseSays x clauses j) (some_same fault.Released kind h) (has_named (λ c. is_released (right_of x c)) clauses is_r)
  release_by false true is_r is_u h =
      subst (λ (j : FaultKind). ReleaseSays x clauses j) (some_same fault.NotCovered kind h) (only_test clauses (is_uncovered x false clauses) (has_named (is_uncovered x false clauses) clauses is_u))
  release_by false false is_r is_u h = absurd (none_some kind h)

  release_says : release_fault x clauses ≡ Some kind → ReleaseSays x clauses kind
  release_says h = release_by (any_cell (λ c. is_released (right_of x c)) clauses) (any_cell (is_uncovered x false clauses) clauses) refl refl h

  wait_by : (r u : Bool) → any_cell (λ c. is_released (right_of x c)) clauses ≡ r → any_cell (λ c. lacks_right (right_of x c)) clauses ≡ u
      → (if r then Some fault.Released else if u then Some fault.NotCovered else None) ≡ Some kind → WaitSays x clauses kind
  wait_by true u is_r is_u h = subst (λ (j : FaultKind). WaitSays x clauses j) (some_same fault.Released kind h) (has_named (λ c. is_released (right_of x c)) clauses is_r)
  wait_by false true is_r is_u h = subst (λ (j : FaultKind). WaitSays x clauses j) (some_same fault.NotCovered kind h) (has_named (λ c. lacks_right (right_of x c)) clauses is_u)
  wait_by false false is_r is_u h = absurd (none_some kind h)

  wait_says : wait_on_fault x clauses ≡ Some kind → WaitSays x clauses kind
  wait_says h = wait_by (any_cell (λ c. is_released (right_of x c)) clauses) (any_cell (λ c. lacks_right (right_of x c)) clauses) refl refl h

pub release_at : (x : Context) (clauses : List Access) {kind k : FaultKind} → kind ≡ k → release_fault x clauses ≡ Some kind → ReleaseSays x clauses k
release_at x clauses {kind = kind} g h = subst (λ (j : FaultKind). ReleaseSays x clauses j) g (release_says x clauses kind h)

pub wait_at : (x : Context) (named : List Access) {kind k : FaultKind} → kind ≡ k → wait_on_fault x named ≡ Some kind → WaitSays x named k
wait_at x named {kind = kind} g h = subst (λ (j : FaultKind). WaitSays x named j) g (wait_says x named kind h)

-- What is found

less : (m n : ℕ) → (m < n) ⊎ (n ≤ m)
less m n = grind arith

not_named : (xs : List Access) (c : ℕ) → 1048576 ≤ c → in_clauses xs c ≡ false
not_named xs c l = go (in_clauses xs c) refl
  where
    go : (b : Bool) → in_clauses xs c ≡ b → b ≡ false
    go true e = let within = named_within xs c e in absurd (omega (arith, within, l))
    go false e = refl

-- the cells that accesses name and that pass
pub named_so : (xs : List Access) (test set found : ℕ → Bool) → ((c : ℕ) → set c ≡ in_clauses xs c) → ((c : ℕ) → c < 1048576 → found c ≡ (set c && test c)) → ((c : ℕ) → 1048576 ≤ c → found c ≡ false)
    → (c : ℕ) → found c ≡ (in_clauses xs c && test c)
named_so xs test set found same low past c = go (less c 1048576)
  where
    go : (c < 1048576) ⊎ (1048576 ≤ c) → found c ≡ (in_clauses xs c && test c)
    go (inl l) = low c l ∙ ap (λ b. b && test c) (same c)
    go (inr l) = past c l ∙ sym (ap (λ b. b && test c) (not_named xs c l))

uncovered_same : (r given : Right) → is_uncovered_by r (mode_held given) ≡ holds_uncovered r given
uncovered_same r NoRight = refl
uncovered_same r Released = refl
uncovered_same r (Holds m strong) = refl

-- what the right does not cover of the joined modes it does not cover of the clauses
pub uncovered_by_modes : (x : Context) (clauses : List Access) (modes : List (Piece Mode)) (set : SetOfCells) → AreJoined clauses modes → ((c : ℕ) → has set c ≡ is_uncovered_by (right_of x c) (value_at modes c))
    → (final : Bool) (c : ℕ) → has set c ≡ is_uncovered x final clauses c
uncovered_by_modes x clauses modes set joined h final c =
    h c ∙ ap (λ (v : Option Mode). is_uncovered_by (right_of x c) v) (joined final c) ∙ uncovered_same (right_of x c) (right_from final clauses c)

worded : (r given : Right) (m : Mark) → holds_uncovered r given ≡ true → word_of given m ≡ None → ⊥
worded r NoRight m h e = true≢false (sym h)
worded r Released m h e = true≢false (sym h)
worded r (Holds n strong) m h e = cc

-- a cell that is not covered has a word
pub uncovered_word : (x : Context) (final : Bool) (clauses : List Access) (c : ℕ) (m : Mark) → is_uncovered x final clauses c ≡ true → word_of (right_from final clauses c) m ≡ None → ⊥
uncovered_word x final clauses c m h e = worded (right_of x c) (right_from final clauses c) m h e

-- The reason

module _ (all : List Item) (x : Context) (b : Begun) where
  deep_plain : (o : Order CodeScript) → IsReasonOf all x b fault.TooDeep (Create o) reasons.TooDeep
  deep_plain o P s f count e r = deep_after

  pub deep_is : (o : Order CodeScript) {kind : FaultKind} → kind ≡ fault.TooDeep → IsReasonOf all x b kind (Create o) reasons.TooDeep
  deep_is o k = subst (λ (j : FaultKind). IsReasonOf all x b j (Create o) reasons.TooDeep) (sym k) (deep_plain o)

  many_plain : (o : Order CodeScript) → IsReasonOf all x b fault.TooManyTasks (Create o) reasons.TooManyTasks
  many_plain o P s f count e r = many_after

  pub many_is : (o : Order CodeScript) {kind : FaultKind} → kind ≡ fault.TooManyTasks → IsReasonOf all x b kind (Create o) reasons.TooManyTasks
  many_is o k = subst (λ (j : FaultKind). IsReasonOf all x b j (Create o) reasons.TooManyTasks) (sym k) (many_plain o)

  mixed_plain : (o : Order CodeScript) (reason : Reason) → IsMixedOf all (x.final || o.last) o.clauses reason → IsReasonOf all x b fault.MixedAccess (Create o) reason
  mixed_plain o reason h P s f count e r =
      let m : IsMixedOf all (f.context.final || o.last) o.clauses reason = subst (λ (y : Context). IsMixedOf all (y.final || o.last) o.clauses reason) (sym e) h in
      subst (λ (z : Reason). IsReason P entry_of s all f (own_of b.accesses) fault.MixedAccess (Create o) z) (sym m.is) (mixed m.failing)

  -- clauses that cannot be joined
  pub mixed_is : (o : Order CodeScript) {kind : FaultKind} {clauses : List Access} {final : Bool} → kind ≡ fault.MixedAccess → clauses ≡ o.clauses → final ≡ (x.final || o.last) → (reason : Reason) → IsMixedOf all final clauses reason
      → IsReasonOf all x b kind (Create o) reason
  mixed_is o {final = final} k c t reason h =
      subst (λ (j : FaultKind). IsReasonOf all x b j (Create o) reason) (sym k)
      (mixed_plain o reason (subst (λ (u : Bool). IsMixedOf all u o.clauses reason) t (subst (λ (cs : List Access). IsMixedOf all final cs reason) c h)))

  creation_plain : (o : Order CodeScript) (reason : Reason) → IsCreationUncovered all x (x.final || o.last) o.clauses (own_of b.accesses) reason → IsReasonOf all x b fault.NotCovered (Create o) reason
  creation_plain o reason h P s f count e r =
      let m : IsCreationUncovered all f.context (f.context.final || o.last) o.clauses (own_of b.accesses) reason =
      subst (λ (y : Context). IsCreationUncovered all y (y.final || o.last) o.clauses (own_of b.accesses) reason) (sym e) h in
      subst (λ (z : Reason). IsReason P entry_of s all f (own_of b.accesses) fault.NotCovered (Create o) z) (sym m.is) (creation m.failing m.word_is)

  -- clauses of a creation that are not covered
  pub creation_is : (o : Order CodeScript) {kind : FaultKind} {clauses : List Access} {final : Bool} → kind ≡ fault.NotCovered → clauses ≡ o.clauses → final ≡ (x.final || o.last) → (reason : Reason)
      → IsCreationUncovered all x final clauses (own_of b.accesses) reason → IsReasonOf all x b kind (Create o) reason
  creation_is o {final = final} k c t reason h =
      subst (λ (j : FaultKind). IsReasonOf all x b j (Create o) reason) (sym k)
      (creation_plain o reason
      (subst (λ (u : Bool). IsCreationUncovered all x u o.clauses (own_of b.accesses) reason) t (subst (λ (cs : List Access). IsCreationUncovered all x final cs (own_of b.accesses) reason) c h)))

  release_plain : (clauses : List Access) (reason : Reason) → IsReleaseUncovered all x clauses (own_of b.accesses) reason → IsReasonOf all x b fault.NotCovered (Release clauses) reason
  release_plain clauses reason h P s f count e r =
      let m : IsReleaseUncovered all f.context clauses (own_of b.accesses) reason = subst (λ (y : Context). IsReleaseUncovered all y clauses (own_of b.accesses) reason) (sym e) h in
      subst (λ (z : Reason). IsReason P entry_of s all f (own_of b.accesses) fault.NotCovered (Release clauses) z) (sym m.is) (release m.failing m.word_is)

  -- those of a release
  pub release_is : (clauses : List Access) {kind : FaultKind} → kind ≡ fault.NotCovered → (reason : Reason) → IsReleaseUncovered all x clauses (own_of b.accesses) reason → IsReasonOf all x b kind (Release clauses) reason
  release_is clauses k reason h = subst (λ (j : FaultKind). IsReasonOf all x b j (Release clauses) reason) (sym k) (release_plain clauses reason h)

  wait_plain : (named : List Access) (cells : Failing) → AreFailing all (λ c. in_clauses named c && lacks_right (right_of x c)) cells → IsReasonOf all x b fault.NotCovered (WaitOn named) (reasons.WaitNotCovered cells)
  wait_plain named cells h P s f count e r = wait (subst (λ (y : Context). AreFailing all (λ c. in_clauses named c && lacks_right (right_of y c)) cells) (sym e) h)

  -- a wait for cells to which there is no right
  pub wait_is : (named : List Access) {kind : FaultKind} → kind ≡ fault.NotCovered → (cells : Failing) → AreFailing all (λ c. in_clauses named c && lacks_right (right_of x c)) cells
      → IsReasonOf all x b kind (WaitOn named) (reasons.WaitNotCovered cells)
  wait_is named k cells h = subst (λ (j : FaultKind). IsReasonOf all x b j (WaitOn named) (reasons.WaitNotCovered cells)) (sym k) (wait_plain named cells h)

  -- the line of a release
  line_is : (P : Program CodeScript) (s : State CodeScript) (q : List ℕ) (count : ℕ) → IsRight P s q count b → (c line : ℕ) → IsReleasedOn b.released c line → IsReleased P s q c line
  line_is P s q count r c line h = subst (λ (n : ℕ). IsReleased P s q c n) h.1.2 (r.released h.0 h.1.0 c h.1.1)

  named_seen : (ask : Ask CodeScript) (named : List Access) (y : Context) → x ≡ y → ((c : ℕ) → in_clauses named c ≡ names ask c)
      → (c : ℕ) → (in_clauses named c && is_released (right_of x c)) ≡ (names ask c && is_released (right_of y c))
  named_seen ask named y e same c = ap (λ (z : Context). in_clauses named c && is_released (right_of z c)) e ∙ ap (λ (t : Bool). t && is_released (right_of y c)) (same c)

  released_plain : (ask : Ask CodeScript) (named : List Access) (reason : Reason) → ((c : ℕ) → in_clauses named c ≡ names ask c)
      → IsReleasedOf all (λ c. in_clauses named c && is_released (right_of x c)) b.released reason → IsReasonOf all x b fault.Released ask reason
  released_plain ask named reason same h P s f count e r =
      subst (λ (z : Reason). IsReason P entry_of s all f (own_of b.accesses) fault.Released ask z) (sym h.is)
      (released (failing_same all h.cells (named_seen ask named f.context (sym e) same) h.failing) (line_is P s f.path count r h.cells.first h.line h.on_line))

  -- cells that are released
  pub released_is : (ask : Ask CodeScript) (named : List Access) {kind : FaultKind} → kind ≡ fault.Released → ((c : ℕ) → in_clauses named c ≡ names ask c) → (reason : Reason)
      → IsReleasedOf all (λ c. in_clauses named c && is_released (right_of x c)) b.released reason → IsReasonOf all x b kind ask reason
  released_is ask named k same reason h = subst (λ (j : FaultKind). IsReasonOf all x b j ask reason) (sym k) (released_plain ask named reason same h)

-- cells that are released, by a set of them
pub released_as : (all : List Item) {p q : ℕ → Bool} {rs ts : List ReleasedAt} (reason : Reason) → ((c : ℕ) → p c ≡ q c) → rs ≡ ts → IsReleasedOf all p rs reason → IsReleasedOf all q ts reason
released_as all {p = p} {q = q} {rs = rs} {ts = ts} reason e g h = subst (λ (t : ℕ → Bool). IsReleasedOf all t ts reason) (ext e) (subst (λ (us : List ReleasedAt). IsReleasedOf all p us reason) g h)

-- Words, each once

or_swap : (a b c : Bool) → (a || (b || c)) ≡ (b || (a || c))
or_swap true true c = refl
or_swap true false c = refl
or_swap false b c = refl

listed_last : (xs : List Word) (w v : Word) → is_listed (xs ++ w ∷ []) v ≡ is_listed (w ∷ xs) v
listed_last [] w v = refl
listed_last (x ∷ xs) w v = ap (λ (t : Bool). word_eq x v || t) (listed_last xs w v) ∙ or_swap (word_eq x v) (word_eq w v) (is_listed xs v)

once_same : (ws : List Word) (xs ys : List Word) → ((v : Word) → is_listed xs v ≡ is_listed ys v) → once xs ws ≡ once ys ws
once_same [] xs ys h = refl
once_same (w ∷ rest) xs ys h =
    ap (λ (t : Bool). if t then once xs rest else w ∷ once (w ∷ xs) rest) (h w)
    ∙ go (is_listed ys w) (once_same rest xs ys h) (once_same rest (w ∷ xs) (w ∷ ys) (λ v. ap (λ (t : Bool). word_eq w v || t) (h v)))
  where
    go : (t : Bool) → once xs rest ≡ once ys rest → once (w ∷ xs) rest ≡ once (w ∷ ys) rest → (if t then once xs rest else w ∷ once (w ∷ xs) rest) ≡ (if t then once ys rest else w ∷ once (w ∷ ys) rest)
    go true p q = p
    go false p q = ap (λ (vs : List Word). w ∷ vs) q

last_first : (xs ys : List Word) (w : Word) → (xs ++ w ∷ []) ++ ys ≡ xs ++ w ∷ ys
last_first [] ys w = refl
last_first (x ∷ xs) ys w = ap (λ (vs : List Word). x ∷ vs) (last_first xs ys w)

once_known : (xs rest : List Word) (w : Word) → is_listed xs w ≡ true → once xs (w ∷ rest) ≡ once xs rest
once_known xs rest w h = ap (λ (t : Bool). if t then once xs rest else w ∷ once (w ∷ xs) rest) h

once_new : (xs rest : List Word) (w : Word) → is_listed xs w ≡ false → (xs ++ w ∷ []) ++ once (xs ++ w ∷ []) rest ≡ xs ++ once xs (w ∷ rest)
once_new xs rest w h =
    last_first xs (once (xs ++ w ∷ []) rest) w ∙ ap (λ (vs : List Word). xs ++ w ∷ vs) (once_same rest (xs ++ w ∷ []) (w ∷ xs) (listed_last xs w))
    ∙ ap (λ (vs : List Word). xs ++ vs) (sym (ap (λ (t : Bool). if t then once xs rest else w ∷ once (w ∷ xs) rest) h))

-- one word more, if the clause names the cell
words_next : (xs now rest : List Word) (w : Word) (named : Bool) → now ≡ xs ++ once xs (if named then w ∷ [] else []) → now ++ once now rest ≡ xs ++ once xs (if named then w ∷ rest else rest)
words_next xs now rest w false e = ap (λ (vs : List Word). vs ++ once vs rest) (e ∙ append-nil xs)
words_next xs now rest w true e = go (is_listed xs w) refl e
  where
    go : (t : Bool) → is_listed xs w ≡ t → now ≡ xs ++ (if t then [] else w ∷ []) → now ++ once now rest ≡ xs ++ once xs (w ∷ rest)
    go true l k = ap (λ (vs : List Word). vs ++ once vs rest) (k ∙ append-nil xs) ∙ ap (λ (vs : List Word). xs ++ vs) (sym (once_known xs rest w l))
    go false l k = ap (λ (vs : List Word). vs ++ once vs rest) k ∙ once_new xs rest w l

-- the words of one clause more
pub clause_next : (final : Bool) (a : Access) (rest : List Access) (c : ℕ) (xs now : List Word) → now ≡ xs ++ once xs (clause_words final (a ∷ []) c) → now ++ once now (clause_words final rest c) ≡ xs ++ once xs (clause_words final (a ∷ rest) c)
clause_next final a rest c xs now e = words_next xs now (clause_words final rest c) _ (in_access a c) e

pub all_dropped : {A : Type 0} (xs : List A) (n : ℕ) → length xs ≤ n → drop n xs ≡ []
all_dropped [] zero l = refl
all_dropped [] (suc n) l = refl
all_dropped (y ∷ xs) zero l = absurd (omega (arith, l))
all_dropped (y ∷ xs) (suc n) l = all_dropped xs n (omega (arith, l))

-- what two clauses say of an answer that is Ok
pub if_ok_both : {A E : Type 0} {F G H : A → Type 0} (r : Result A E) → ((x : A) → F x → G x → H x) → IfOk r F → IfOk r G → IfOk r H
if_ok_both (Ok x) h f g = h x f g
if_ok_both (Err e) h f g = f
