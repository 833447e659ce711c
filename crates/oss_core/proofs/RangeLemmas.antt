-- The cells of a range that a task gives up: its lets, one after the other.
use Rattle.std.proofs.Common.{◌≡◌, ℕ, zero, suc, ◌+◌, ◌<◌, ◌≤◌, ◌⊎◌, refl, sym, subst, ap, ◌∙◌, arith, List, ◌∷◌, Bool, true, false, Some, None, ◌↔◌, length-set}
use Rattle.std.specs.Prelude.{slice_get, slice_set, nat_le, nat_lt, ◌==◌, ◌&&◌, ◌||◌, if◌then◌else◌, IsTrue}
use Rattle.std.proofs.lemmas.Bool.Decides.{nat_tests}
use Rattle.oss_model.specs.Order.{written}
use Rattle.oss_model.specs.Bodies.{Start}
use Rattle.oss_model.specs.Machine.{State, Task}
use Rattle.oss_model.specs.Moves.{CanLet}
use Rattle.oss_ranges.specs.Cells.{Assigns, is_within, value_at}
use Rattle.oss_ranges.specs.declared.piece.Piece.{Piece}
use Rattle.oss_body.specs.Relation.{released_by}
use Rattle.oss_code.specs.declared.code.CodeParts.{CodeParts}
use Rattle.oss_machine.specs.Frames.{CodeScript}
use Rattle.oss_machine.specs.Machines.{asks}
use Rattle.oss_tree.specs.Tasks.{HasPoint}
use Rattle.oss_tree.proofs.ListLemmas.{get_set_other, get_set_same}
use Rattle.oss_wave_laws.specs.Passes.{Visits, gives, visits_none}
use Rattle.oss_kept_tasks.specs.declared.held.Held.{Held}
use Rattle.oss_kept_tasks.specs.declared.held.Owed.{Owed}
use Rattle.oss_kept_tasks.specs.declared.held.Owed.TheVariants as owed
use Rattle.oss_enabled_moves.specs.Enabled.{IsThrough, MayLet}
use Rattle.oss_core.specs.Changes.{Lets}
use Rattle.oss_core.specs.Kept.{IsCore, Kept}
use Rattle.oss_core.specs.Passing.{HasClearedRange, LetsRange}
use Rattle.oss_core.proofs.EntryLemmas.{both, both_of}
use Rattle.oss_core.proofs.ExactLemmas.{let_told}
use Rattle.oss_core.proofs.GivesLemmas.{lets_made}
use Rattle.oss_core.proofs.GoingLemmas.{written_is}
use Rattle.oss_core.proofs.KeepLemmas.{some_is}
use Rattle.oss_core.proofs.TreeFacts.{one_path}
use Rattle.oss_core.proofs.SpanLemmas.{cells_of}
use Rattle.oss_core.proofs.WalkLemmas.{row}

-- a task owes the cells of a range no more
pub range_cleared : (tasks : List Held) (v lo hi : ℕ) (before after : Held) (last : Bool) → slice_get tasks v ≡ Some before → after.body ≡ before.body → Assigns lo hi None before.owed.pieces after.owed.pieces
    → (IsTrue last ↔ ((k : ℕ) → value_at after.owed.pieces k ≡ None)) → HasClearedRange v lo hi last tasks (slice_set tasks v after)
range_cleared tasks v lo hi before after last was body assigns last_is = record {
  before = before;
  after = after;
  changed_is = written_is tasks v before after was;
  body = body;
  owed = assigns;
  last_is = last_is;
}

-- a cell is one of a range just where it is the first, or one of the rest
within_first : (lo hi k : ℕ) → lo < hi → is_within lo hi k ≡ ((lo == k) || is_within (suc lo) hi k)
within_first lo hi k l = by (nat_le lo k) refl (nat_lt k hi) refl (lo == k) refl (nat_le (suc lo) k) refl
  where
    by : (a : Bool) → nat_le lo k ≡ a → (b : Bool) → nat_lt k hi ≡ b → (c : Bool) → (lo == k) ≡ c → (d : Bool) → nat_le (suc lo) k ≡ d → is_within lo hi k ≡ ((lo == k) || is_within (suc lo) hi k)
    by true e true f true g d h = rw (e, f, g) refl
    by true e true f false g true h = rw (e, f, g, h) refl
    by true e true f false g false h = absurd (grind (arith, nat_tests, e, g, h))
    by true e false f true g d h = absurd (grind (arith, nat_tests, f, g, l))
    by true e false f false g true h = rw (e, f, g, h) refl
    by true e false f false g false h = rw (e, f, g, h) refl
    by false e b f true g d h = absurd (grind (arith, nat_tests, e, g))
    by false e b f false g true h = absurd (grind (arith, nat_tests, e, h))
    by false e b f false g false h = rw (e, g, h) refl

-- a cell of a range of one cell
within_one : (lo k : ℕ) → is_within lo (suc lo) k ≡ (lo == k)
within_one lo k = by (nat_le lo k) refl (nat_lt k (suc lo)) refl (lo == k) refl
  where
    by : (a : Bool) → nat_le lo k ≡ a → (b : Bool) → nat_lt k (suc lo) ≡ b → (c : Bool) → (lo == k) ≡ c → is_within lo (suc lo) k ≡ (lo == k)
    by true e true f true g = rw (e, f, g) refl
    by true e true f false g = absurd (grind (arith, nat_tests, e, f, g))
    by true e false f true g = absurd (grind (arith, nat_tests, f, g))
    by true e false f false g = rw (e, f, g) refl
    by false e b f true g = absurd (grind (arith, nat_tests, e, g))
    by false e b f false g = rw (e, g) refl

or_first : (g t a b : Bool) → (g || (t && (a || b))) ≡ ((g || (t && a)) || (t && b))
or_first true t a b = refl
or_first false true a b = refl
or_first false false a b = refl

-- the let of a range of one cell is that of the cell
range_of_one : (v lo : ℕ) (old new : Kept) → LetsRange v lo (suc lo) old new → Lets v lo old new
range_of_one v lo old new l = record {
  gives = record {
    before = l.cleared.before;
    after = l.cleared.after;
    changed_is = l.cleared.changed_is;
    body = l.cleared.body;
    owed = l.cleared.owed;
    last = l.last;
    last_is = l.cleared.last_is;
    tasks = l.tasks;
    prints = l.prints;
    opens = l.opens;
    given = λ t k. l.given t k ∙ ap (λ (b : Bool). old.seen.given t k || ((v == t) && b)) (within_one lo k);
  };
  cells = l.cells;
}

module _ (v lo hi : ℕ) (old new : Kept) (l : LetsRange v lo hi old new) (more : suc lo < hi) (owes : (c : ℕ) → lo ≤ c → c < hi → value_at l.cleared.before.owed.pieces c ≡ Some owed.Let) where
  -- the task owes all cells of the range but the first
  abbrev pub mid_pieces : List (Piece Owed)
  mid_pieces = record { lo = suc lo; hi = hi; value = owed.Let } ∷ l.cleared.after.owed.pieces

  abbrev pub mid_held : Held
  mid_held = record { body = l.cleared.before.body; owed = record { pieces = mid_pieces; spares = 0 } }

  -- what is kept between the let of the first cell and those of the others
  abbrev pub mid_kept : Kept
  mid_kept = record {
    tasks = slice_set old.tasks v mid_held;
    tree = old.tree;
    seen = record { opens = old.seen.opens; given = λ t k. old.seen.given t k || ((v == t) && (lo == k)); cut = old.seen.cut; reserved = old.seen.reserved };
    cells = old.cells;
  }

  -- a cell of the rest of the range
  rest_owed : (c : ℕ) → suc lo ≤ c → c < hi → value_at mid_pieces c ≡ Some owed.Let
  rest_owed c a b = let w : is_within (suc lo) hi c ≡ true = both_of (nat_le (suc lo) c) (nat_lt c hi) (grind (arith, nat_tests, a)) (grind (arith, nat_tests, b)) in rw w refl

  owed_first : Assigns lo (suc lo) None l.cleared.before.owed.pieces mid_pieces
  owed_first c = by (is_within (suc lo) hi c) refl (lo == c) refl
    where
      by : (b : Bool) → is_within (suc lo) hi c ≡ b → (d : Bool) → (lo == c) ≡ d → value_at mid_pieces c ≡ (if is_within lo (suc lo) c then None else value_at l.cleared.before.owed.pieces c)
      by true e true f = let k = both (nat_le (suc lo) c) (nat_lt c hi) e in let a = k.0 in absurd (grind (arith, nat_tests, a, f))
      by true e false f =
          let k = both (nat_le (suc lo) c) (nat_lt c hi) e in
          let a = k.0 in
          let b = k.1 in
          let low : lo ≤ c = grind (arith, nat_tests, a) in
          let high : c < hi = grind (arith, nat_tests, b) in
          ap (λ (x : Bool). if x then Some owed.Let else value_at l.cleared.after.owed.pieces c) e ∙ sym (owes c low high) ∙ sym (ap (λ (x : Bool). if x then None else value_at l.cleared.before.owed.pieces c) (within_one lo c ∙ f))
      by false e true f =
          let w : is_within lo hi c ≡ true = within_first lo hi c (omega (arith, more)) ∙ ap (λ (x : Bool). x || is_within (suc lo) hi c) f in
          ap (λ (x : Bool). if x then Some owed.Let else value_at l.cleared.after.owed.pieces c) e ∙ l.cleared.owed c ∙ ap (λ (x : Bool). if x then None else value_at l.cleared.before.owed.pieces c) w
          ∙ sym (ap (λ (x : Bool). if x then None else value_at l.cleared.before.owed.pieces c) (within_one lo c ∙ f))
      by false e false f =
          let w : is_within lo hi c ≡ false = within_first lo hi c (omega (arith, more)) ∙ ap (λ (x : Bool). x || is_within (suc lo) hi c) f ∙ e in
          ap (λ (x : Bool). if x then Some owed.Let else value_at l.cleared.after.owed.pieces c) e ∙ l.cleared.owed c ∙ ap (λ (x : Bool). if x then None else value_at l.cleared.before.owed.pieces c) w
          ∙ sym (ap (λ (x : Bool). if x then None else value_at l.cleared.before.owed.pieces c) (within_one lo c ∙ f))

  owed_rest : Assigns (suc lo) hi None mid_pieces l.cleared.after.owed.pieces
  owed_rest c = by (is_within (suc lo) hi c) refl
    where
      by : (b : Bool) → is_within (suc lo) hi c ≡ b → value_at l.cleared.after.owed.pieces c ≡ (if is_within (suc lo) hi c then None else value_at mid_pieces c)
      by true e =
          let w : is_within lo hi c ≡ true = within_first lo hi c (omega (arith, more)) ∙ ap (λ (x : Bool). (lo == c) || x) e ∙ or_true (lo == c) in
          l.cleared.owed c ∙ ap (λ (x : Bool). if x then None else value_at l.cleared.before.owed.pieces c) w ∙ sym (ap (λ (x : Bool). if x then None else value_at mid_pieces c) e)
        where
          or_true : (a : Bool) → (a || true) ≡ true
          or_true true = refl
          or_true false = refl
      by false e = sym (ap (λ (x : Bool). if x then None else (if x then Some owed.Let else value_at l.cleared.after.owed.pieces c)) e)

  -- the let of the first cell
  pub first_let : Lets v lo old mid_kept
  first_let = record {
    gives = record {
      before = l.cleared.before;
      after = mid_held;
      changed_is = written_is old.tasks v l.cleared.before mid_held l.cleared.changed_is.was;
      body = refl;
      owed = owed_first;
      last = false;
      last_is = (λ e. absurd cc, λ none. let a = none (suc lo) in let b = rest_owed (suc lo) (omega arith) more in absurd cc);
      tasks = refl;
      prints = refl;
      opens = refl;
      given = λ t k. refl;
    };
    cells = refl;
  }

  -- and those of the others
  pub rest_lets : LetsRange v (suc lo) hi mid_kept new
  rest_lets = record {
    last = l.last;
    cleared = record {
      before = mid_held;
      after = l.cleared.after;
      changed_is = record {
        was = get_set_same old.tasks v l.cleared.before mid_held l.cleared.changed_is.was;
        is = l.cleared.changed_is.is;
        others = λ w n. l.cleared.changed_is.others w n ∙ sym (get_set_other old.tasks v w mid_held n);
        size = l.cleared.changed_is.size ∙ sym (length-set old.tasks v mid_held);
      };
      body = l.cleared.body;
      owed = owed_rest;
      last_is = l.cleared.last_is;
    };
    tasks = l.tasks;
    prints = l.prints;
    opens = l.opens;
    given = λ t k. l.given t k ∙ ap (λ (b : Bool). old.seen.given t k || ((v == t) && b)) (within_first lo hi k (omega (arith, more))) ∙ or_first (old.seen.given t k) (v == t) (lo == k) (is_within (suc lo) hi k);
    cells = l.cells;
  }

  -- which may still be made
  pub rest_may : ((c : ℕ) → lo ≤ c → c < hi → MayLet old.tasks old.tree.tasks v c) → (c : ℕ) → suc lo ≤ c → c < hi → MayLet mid_kept.tasks mid_kept.tree.tasks v c
  rest_may may c low high =
      let m = may c (omega (arith, low)) high in
      let same : m.held ≡ l.cleared.before = some_is (sym m.is ∙ l.cleared.changed_is.was) in
      record {
        held = mid_held;
        is = get_set_same old.tasks v l.cleared.before mid_held l.cleared.changed_is.was;
        gives = record {
          owes = rest_owed c low high;
          gone = subst (λ (h : Held). (released_by h.body c ≡ true) ⊎ IsThrough old.tree.tasks v h.body) same m.gives.gone;
        };
      }

-- a let that may be made can be made of the task with this path
pub can_let : {code : CodeParts} {main : Start CodeScript} {first : List ℕ} {k : Kept} {s : State CodeScript} (core : IsCore code main first k s) (v c : ℕ) (p : List ℕ) → HasPoint k.tree.tasks v (written p) → MayLet k.tasks k.tree.tasks v c
    → (t : Task CodeScript) × CanLet (asks code) s p c t
can_let {code = code} {s = s} core v c p point may =
    let r = let_told core v c may in
    let same : r.0 ≡ p = one_path r.0 p (sym r.2.point ∙ ap (λ t. t.point) (some_is (sym r.2.at_ ∙ point.at_)) ∙ point.point) in
    (r.1, subst (λ (q : List ℕ). CanLet (asks code) s q c r.1) same r.3)

-- the lets of a range are those of its cells, one after the other
pub range_made : (code : CodeParts) (main : Start CodeScript) (first : List ℕ) (count lo : ℕ) (old new : Kept) (s : State CodeScript) → IsCore code main first old s → (v : ℕ) (p : List ℕ) → HasPoint old.tree.tasks v (written p)
    → ((c : ℕ) → lo ≤ c → c < lo + suc count → MayLet old.tasks old.tree.tasks v c) → LetsRange v lo (lo + suc count) old new
    → (n : State CodeScript) × Visits (asks code) s (row p lo (suc count)) (cells_of p lo (suc count) false) n × IsCore code main first new n
range_made code main first zero lo old new s core v p point may l =
    let e : lo + suc zero ≡ suc lo = omega arith in
    let one = range_of_one v lo old new (subst (λ (hi : ℕ). LetsRange v lo hi old new) e l) in
    let can = can_let core v lo p point (may lo (omega arith) (omega arith)) in
    let n = lets_made code main first old new s core v lo p can.0 point can.1 one in
    (n.0, gives can.1 n.1 visits_none, n.2)
range_made code main first (suc count) lo old new s core v p point may l =
    let e : lo + suc (suc count) ≡ suc lo + suc count = omega arith in
    let more : suc lo < lo + suc (suc count) = omega arith in
    let was = l.cleared.changed_is.was in
    let owes : (c : ℕ) → lo ≤ c → c < lo + suc (suc count) → value_at l.cleared.before.owed.pieces c ≡ Some owed.Let
    = λ c low high. let m = may c low high in subst (λ (h : Held). value_at h.owed.pieces c ≡ Some owed.Let) (some_is (sym m.is ∙ was)) m.gives.owes in
    let mid = mid_kept v lo (lo + suc (suc count)) old new l more owes in
    let can = can_let core v lo p point (may lo (omega arith) (omega arith)) in
    let m = lets_made code main first old mid s core v lo p can.0 point can.1 (first_let v lo (lo + suc (suc count)) old new l more owes) in
    let rest = subst (λ (hi : ℕ). LetsRange v (suc lo) hi mid new) e (rest_lets v lo (lo + suc (suc count)) old new l more owes) in
    let able = rest_may v lo (lo + suc (suc count)) old new l more owes may in
    let n = range_made code main first count (suc lo) mid new m.0 m.2 v p point (λ c low high. able c low (subst (λ (hi : ℕ). c < hi) (sym e) high)) rest in
    (n.0, gives can.1 m.1 n.1, n.2)
