-- The cells of a task that has ended, one run after the other.
use Rattle.std.proofs.Common.{◌≡◌, ◌≤◌, ◌<◌, ◌⊎◌, inl, inr, refl, sym, subst, ap, ◌∙◌, ℕ, Bool, true, false, if◌then◌else◌, List, Option, Some, None, arith}
use Rattle.std.proofs.lemmas.Bool.Decides.{nat_tests}
use Rattle.oss_ranges.specs.declared.piece.Piece.{Piece}
use Rattle.oss_ranges.specs.Cells.{is_within, value_at}
use Rattle.oss_span.specs.declared.best.Best.{Best}
use Rattle.oss_span.specs.declared.best.Mark.{Mark}
use Rattle.oss_span.specs.declared.marks.Marks.{Marks}
use Rattle.oss_span.specs.declared.marks.Change.TheVariants.{Close}
use Rattle.oss_span.specs.declared.node.Node.{Node}
use Rattle.oss_span.specs.Bests.{better, better_mark, no_best}
use Rattle.oss_span.specs.Changes.{changed_at}
use Rattle.oss_span.specs.Frames.{AreClosed, Grows, IsClosedCell, IsValue}
use Rattle.oss_span.proofs.TableLemmas.{better_first, better_second, better_one, some_is}

pub value_grows : (base : ℕ) (old new : List Node) (task : ℕ) (m : Marks) (kept : Best) (v : Mark) → Grows old new → IsValue base old task m kept v → IsValue base new task m kept v
value_grows base old new task m kept v g i = record { at_ = i.at_; base_is = i.base_is; end_is = i.end_is; node = g i.at_ _ i.node; ticks = i.ticks }

which : (c from : ℕ) → (c < from) ⊎ (from ≤ c)
which c from = grind arith

within_is : (from to c : ℕ) → from ≤ c → c < to → is_within from to c ≡ true
within_is from to c l h = grind (arith, nat_tests)

within_not : (from to c : ℕ) → (c < from) ⊎ (to ≤ c) → is_within from to c ≡ false
within_not from to c (inl h) = grind (arith, nat_tests)
within_not from to c (inr h) = grind (arith, nat_tests)

module _ (base : ℕ) (old new : List Node) (task : ℕ) (kept : Best) (child first mid last : List (Piece Marks)) (from to : ℕ) (lets : Best) (grows : Grows old new) (some : from < to) (done_ : AreClosed base old task kept child first mid from lets) where
  -- a run of cells of which the task keeps the same
  pub closed_more : (m : Marks) (v : Mark) → ((c : ℕ) → from ≤ c → c < to → value_at child c ≡ Some m) → IsValue base new task m kept v
      → ((c : ℕ) → value_at last c ≡ (if is_within from to c then changed_at (Close (better_mark v m.given) m.mode) (value_at mid c) else value_at mid c))
      → AreClosed base new task kept child first last to (better lets (record { mark = v; cell = from }))
  closed_more m v alike is step = record {
    cell = λ c n l e. cell c n l e (which c from);
    past = λ c l. step c ∙ (ap (λ (b : Bool). if b then changed_at (Close (better_mark v m.given) m.mode) (value_at mid c) else value_at mid c) (within_not from to c (inr l)) ∙ done_.past c (omega (arith, l, some)));
    others = λ c e. other c e (which c from);
    one = one (better_one lets (record { mark = v; cell = from }));
  }
    where
      here : (c : ℕ) → from ≤ c → c < to → value_at last c ≡ changed_at (Close (better_mark v m.given) m.mode) (value_at first c)
      here c l h = step c ∙ (ap (λ (b : Bool). if b then changed_at (Close (better_mark v m.given) m.mode) (value_at mid c) else value_at mid c) (within_is from to c l h) ∙ ap (λ (x : Option Marks). changed_at (Close (better_mark v m.given) m.mode) x) (done_.past c l))

      before : (c : ℕ) → c < from → value_at last c ≡ value_at mid c
      before c l = step c ∙ ap (λ (b : Bool). if b then changed_at (Close (better_mark v m.given) m.mode) (value_at mid c) else value_at mid c) (within_not from to c (inl l))

      cell : (c : ℕ) (n : Marks) → c < to → value_at child c ≡ Some n → (c < from) ⊎ (from ≤ c) → IsClosedCell base new task n kept (value_at first c) (value_at last c) (better lets (record { mark = v; cell = from }))
      cell c n l e (inl k) =
          let d = done_.cell c n k e in
          let b = better_first lets (record { mark = v; cell = from }) in
          let o = d.most in
          record { value = d.value; is_value = value_grows base old new task n kept d.value grows d.is_value; new_is = before c k ∙ d.new_is; most = omega (arith, b, o) }
      cell c n l e (inr k) =
          let q : m ≡ n = some_is m n (sym (alike c k l) ∙ e) in
          record {
            value = v;
            is_value = subst (λ (x : Marks). IsValue base new task x kept v) q is;
            new_is = here c k l ∙ ap (λ (x : Marks). changed_at (Close (better_mark v x.given) x.mode) (value_at first c)) q;
            most = better_second lets (record { mark = v; cell = from });
          }

      other : (c : ℕ) → value_at child c ≡ None → (c < from) ⊎ (from ≤ c) → value_at last c ≡ value_at first c
      other c e (inl k) = before c k ∙ done_.others c e
      other c e (inr k) = go (which c to)
        where
          go : (c < to) ⊎ (to ≤ c) → value_at last c ≡ value_at first c
          go (inl l) = let q = alike c k l in cc
          go (inr l) = step c ∙ (ap (λ (b : Bool). if b then changed_at (Close (better_mark v m.given) m.mode) (value_at mid c) else value_at mid c) (within_not from to c (inr l)) ∙ done_.past c k)

      one : (better lets (record { mark = v; cell = from }) ≡ lets) ⊎ (better lets (record { mark = v; cell = from }) ≡ record { mark = v; cell = from })
          → (better lets (record { mark = v; cell = from }) ≡ no_best) ⊎ ((c : ℕ) × (n : Marks) × (w : Mark) × (value_at child c ≡ Some n) × IsValue base new task n kept w × (better lets (record { mark = v; cell = from }) ≡ record { mark = w; cell = c }))
      one (inr e) = inr (from, m, v, alike from (omega arith) some, is, e)
      one (inl e) = go done_.one
        where
          go : (lets ≡ no_best) ⊎ ((c : ℕ) × (n : Marks) × (w : Mark) × (value_at child c ≡ Some n) × IsValue base old task n kept w × (lets ≡ record { mark = w; cell = c }))
              → (better lets (record { mark = v; cell = from }) ≡ no_best) ⊎ ((c : ℕ) × (n : Marks) × (w : Mark) × (value_at child c ≡ Some n) × IsValue base new task n kept w × (better lets (record { mark = v; cell = from }) ≡ record { mark = w; cell = c }))
          go (inl k) = inl (e ∙ k)
          go (inr (c, n, w, a, i, k)) = inr (c, n, w, a, value_grows base old new task n kept w grows i, e ∙ k)

-- a run of cells of which the task keeps nothing
pub closed_past : (base : ℕ) (nodes : List Node) (task : ℕ) (kept : Best) (child first last : List (Piece Marks)) (from to : ℕ) (lets : Best) → from < to → ((c : ℕ) → from ≤ c → c < to → value_at child c ≡ None) → AreClosed base nodes task kept child first last from lets
    → AreClosed base nodes task kept child first last to lets
closed_past base nodes task kept child first last from to lets some alike d = record { cell = λ c m l e. cell c m l e (which c from); past = λ c l. d.past c (omega (arith, l, some)); others = d.others; one = d.one }
  where
    cell : (c : ℕ) (m : Marks) → c < to → value_at child c ≡ Some m → (c < from) ⊎ (from ≤ c) → IsClosedCell base nodes task m kept (value_at first c) (value_at last c) lets
    cell c m l e (inl k) = d.cell c m k e
    cell c m l e (inr k) = let q = alike c k l in absurd (cc)

-- no cell
pub closed_none : (base : ℕ) (nodes : List Node) (task : ℕ) (kept : Best) (child first : List (Piece Marks)) → AreClosed base nodes task kept child first first 0 no_best
closed_none base nodes task kept child first = record { cell = λ c m l e. absurd (omega (arith, l)); past = λ c l. refl; others = λ c e. refl; one = inl refl }

-- behind fewer nodes
pub value_behind : (base less : ℕ) (nodes : List Node) (task : ℕ) (m : Marks) (kept : Best) (v : Mark) → less ≤ base → IsValue base nodes task m kept v → IsValue less nodes task m kept v
value_behind base less nodes task m kept v l i = record { at_ = i.at_; base_is = (let b = i.base_is in omega (arith, b, l)); end_is = i.end_is; node = i.node; ticks = i.ticks }
