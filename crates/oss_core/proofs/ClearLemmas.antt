-- What is owed no more, and what a dependency system is told of it.
use Rattle.std.proofs.Common.{◌≡◌, ℕ, suc, ◌<◌, ◌≤◌, ◌⊎◌, inl, inr, refl, sym, ap, subst, ◌∙◌, arith, Bool, true, false, List, [], ◌∷◌, Option, Some, None, ◌↔◌}
use Rattle.std.specs.Prelude.{IsTrue, MatchOption, if◌then◌else◌, is_some, not, nat_le, nat_lt, slice_get, slice_set, ◌==◌, ◌&&◌, ◌||◌}
use Rattle.std.proofs.lemmas.Bool.Decides.{nat_tests}
use Rattle.oss_syntax.specs.declared.access.Range.{Range}
use Rattle.oss_ranges.specs.Cells.{Assigns, Restricts, Rises, is_within, value_at}
use Rattle.oss_ranges.specs.Items.{piece_of}
use Rattle.oss_ranges.specs.declared.piece.Piece.{Piece}
use Rattle.oss_deps.specs.Opens.{HasOpened}
use Rattle.oss_deps.specs.Seen.{Seen, CanGive, Gives, Prepares, in_range, is_end}
use Rattle.oss_kept_tasks.specs.declared.held.Held.{Held}
use Rattle.oss_kept_tasks.specs.declared.held.Owed.{Owed}
use Rattle.oss_core.specs.Changes.{GivesUp, noted_given}
use Rattle.oss_core.specs.Giving.{HasCleared, HoldsCell}
use Rattle.oss_core.specs.Kept.{Kept}
use Rattle.oss_core.proofs.GoingLemmas.{written_is}

below_or : (m n : ℕ) → (m < n) ⊎ (n ≤ m)
below_or m n = grind arith

-- no piece is there just where no cell has a value
pub none_told : (all part : List (Piece Owed)) → Restricts 0 1048576 all part → ((c : ℕ) → 1048576 ≤ c → value_at all c ≡ None) → part ≡ [] → (c : ℕ) → value_at all c ≡ None
none_told all part map past e c = by (below_or c 1048576)
  where
    by : (c < 1048576) ⊎ (1048576 ≤ c) → value_at all c ≡ None
    by (inr h) = past c h
    by (inl l) =
        let w : (nat_le 0 c && nat_lt c 1048576) ≡ true = grind (arith, nat_tests) in
        let k : value_at part c ≡ value_at all c = rw w at (map c) in
        sym k ∙ ap (λ (ps : List (Piece Owed)). value_at ps c) e

either_way : (b : Bool) (o : Option Owed) → (if b then o else o) ≡ o
either_way true o = refl
either_way false o = refl

pub some_told : (all part : List (Piece Owed)) → Restricts 0 1048576 all part → Rises 0 part 1048576 → ((c : ℕ) → value_at all c ≡ None) → part ≡ []
some_told all [] map rises none = refl
some_told all (p ∷ rest) map rises none =
    let within : (nat_le p.lo p.lo && nat_lt p.lo p.hi) ≡ true = let l = rises.1 in grind (arith, nat_tests, l) in
    let here : value_at (p ∷ rest) p.lo ≡ Some p.value = rw within refl in
    let inside : value_at (p ∷ rest) p.lo ≡ None = map p.lo ∙ ap (λ (o : Option Owed). if is_within 0 1048576 p.lo then o else None) (none p.lo) ∙ either_way (is_within 0 1048576 p.lo) None in
    absurd cc

-- the first piece is none just where no cell has a value
pub empty_is : (all part : List (Piece Owed)) → Restricts 0 1048576 all part → Rises 0 part 1048576 → ((c : ℕ) → 1048576 ≤ c → value_at all c ≡ None) → (r : Option (Range × Owed)) (rest : List (Piece Owed))
    → MatchOption r ((part ≡ []) × (rest ≡ [])) (λ x. part ≡ piece_of x ∷ rest) → (b : Bool) → is_some r ≡ not b → (IsTrue b ↔ ((c : ℕ) → value_at all c ≡ None))
empty_is all part map rises past None rest m true e = (λ t. none_told all part map past m.0, λ n. refl)
empty_is all part map rises past None rest m false e = absurd cc
empty_is all part map rises past (Some x) rest m true e = absurd cc
empty_is all part map rises past (Some x) rest m false e = (λ t. absurd cc, λ n. let k = some_told all part map rises n in let f : [] ≡ piece_of x ∷ rest = sym k ∙ m in absurd cc)

-- a task owes a cell no more
pub cleared_is : (tasks : List Held) (v c hi : ℕ) (before after : Held) (last : Bool) → slice_get tasks v ≡ Some before → after.body ≡ before.body → hi ≡ suc c → Assigns c hi None before.owed.pieces after.owed.pieces
    → (IsTrue last ↔ ((k : ℕ) → value_at after.owed.pieces k ≡ None)) → HasCleared v c last tasks (slice_set tasks v after)
cleared_is tasks v c hi before after last was body one assigns last_is = record {
  before = before;
  after = after;
  changed_is = written_is tasks v before after was;
  body = body;
  owed = subst (λ (n : ℕ). Assigns c n None before.owed.pieces after.owed.pieces) one assigns;
  last_is = last_is;
}

-- a cell of a range of one cell
one_cell : (r : Range) (c k : ℕ) → r.lo ≡ c → r.hi ≡ suc c → in_range r k ≡ (c == k)
one_cell r c k lo hi = by (nat_le r.lo k) refl (nat_lt k r.hi) refl (c == k) refl
  where
    by : (a : Bool) → nat_le r.lo k ≡ a → (b : Bool) → nat_lt k r.hi ≡ b → (d : Bool) → (c == k) ≡ d → in_range r k ≡ (c == k)
    by true e true f true g = rw (e, f, g) refl
    by true e true f false g = absurd (grind (arith, nat_tests, e, f, g, lo, hi))
    by true e false f true g = absurd (grind (arith, nat_tests, e, f, g, lo, hi))
    by true e false f false g = rw (e, f, g) refl
    by false e b f true g = absurd (grind (arith, nat_tests, e, f, g, lo, hi))
    by false e b f false g = rw (e, g) refl

-- the cell may be given up once its ends are cuts
pub may_give : (v c : ℕ) (r : Range) → r.lo ≡ c → r.hi ≡ suc c → (old mid : Seen) → HoldsCell old v c → Prepares r old mid → CanGive v r mid
may_give v c r lo hi old mid holds prepared = record {
  begins = prepared.cuts r.lo ∙ at_end (old.cut r.lo) (front r);
  ends = prepared.cuts r.hi ∙ at_end (old.cut r.hi) (back r);
  named = λ k low high. let e = only k low high in rw prepared.opens (subst (λ (d : ℕ). HasOpened old.opens d v) (sym e) holds.opened);
  held = λ k low high. let e = only k low high in prepared.given v k ∙ subst (λ (d : ℕ). old.given v d ≡ false) (sym e) holds.kept;
}
  where
    only : (k : ℕ) → r.lo ≤ k → k < r.hi → k ≡ c
    only k low high = omega (arith, low, high, lo, hi)

    at_end : (a : Bool) {b : Bool} → b ≡ true → (a || b) ≡ true
    at_end true e = refl
    at_end false e = e

    same_is : (n : ℕ) → (n == n) ≡ true
    same_is n = grind (arith, nat_tests)

    front : (q : Range) → is_end q q.lo ≡ true
    front q = rw (same_is q.lo) refl

    back : (q : Range) → is_end q q.hi ≡ true
    back q = at_end (q.hi == q.lo) (same_is q.hi)

-- the parts of a give together
pub gives_up : (v c : ℕ) (old new : Kept) (last : Bool) (r : Range) (mid : Seen) → r.lo ≡ c → r.hi ≡ suc c → HasCleared v r.lo last old.tasks new.tasks → new.tree.tasks ≡ noted_given v last old.tree.tasks → new.tree.prints ≡ old.tree.prints
    → Prepares r old.seen mid → Gives v r mid new.seen → GivesUp v c old new
gives_up v c old new last r mid lo hi cleared tasks prints prepared gives = record {
  before = cleared.before;
  after = cleared.after;
  changed_is = cleared.changed_is;
  body = cleared.body;
  owed = subst (λ (n : ℕ). Assigns n (suc n) None cleared.before.owed.pieces cleared.after.owed.pieces) lo cleared.owed;
  last = last;
  last_is = cleared.last_is;
  tasks = tasks;
  prints = prints;
  opens = gives.opens ∙ prepared.opens;
  given = λ t k. gives.given t k ∙ ap (λ (b : Bool). b || ((v == t) && in_range r k)) (prepared.given t k) ∙ ap (λ (b : Bool). old.seen.given t k || ((v == t) && b)) (one_cell r c k lo hi);
}

-- the same over another memory
abbrev pub given_with : (v c : ℕ) (old new : Kept) (cells : List ℕ) → GivesUp v c old new → GivesUp v c old (record { tasks = new.tasks; tree = new.tree; seen = new.seen; cells = cells })
given_with v c old new cells h = record {
  before = h.before;
  after = h.after;
  changed_is = h.changed_is;
  body = h.body;
  owed = h.owed;
  last = h.last;
  last_is = h.last_is;
  tasks = h.tasks;
  prints = h.prints;
  opens = h.opens;
  given = h.given;
}
