-- The longest runs of cells, one more at a time.
use Rattle.std.proofs.Common.{◌≡◌, ℕ, ◌<◌, ◌≤◌, ◌⊎◌, inl, inr, sym, subst, ap, ◌∙◌, List, [], ◌∷◌, ◌++◌, arith, Bool, true, false}
use Rattle.oss_model.specs.Order.{IsIn, here}
use Rattle.oss_audit.specs.declared.unused.Unused.{Unused}
use Rattle.oss_pieces.specs.CellSets.{SetOfCells, is_left}
use Rattle.oss_audit.specs.Runs.{AddsRun, Covers, HasRuns, HasRunsBefore, IsRun}
use Rattle.oss_audit.specs.Unused.{IsAhead}
use Rattle.oss_audit.proofs.ListLemmas.{in_either, in_left, in_one, in_right, rises_both}

at_most : (m n : ℕ) → (m < n) ⊎ (n ≤ m)
at_most m n = grind arith

never : (b : Bool) → b ≡ true → b ≡ false → ⊥
never b h k = let e : true ≡ false = sym h ∙ k in cc

module _ (point : List ℕ) (declared touched : SetOfCells) where
  pub runs_first : (us : List Unused) → us ≡ [] → HasRunsBefore point declared touched 0 us
  runs_first us e = subst (λ (xs : List Unused). HasRunsBefore point declared touched 0 xs) (sym e) none
    where
      nothing : {u : Unused} → IsIn u [] → ⊥
      nothing h = elim h [ ]

      none : HasRunsBefore point declared touched 0 []
      none = record {
        runs = record { rises = tt; points = λ u i. absurd (nothing i); only = λ c k. absurd (nothing k.listed); all = λ c l h. absurd (omega arith) };
        before = λ u i. absurd (nothing i);
      }

  module _ (start hi : ℕ) (us new : List Unused) (h : HasRunsBefore point declared touched start us) (up : start ≤ hi)
      (left : (c : ℕ) → start ≤ c → c < hi → is_left declared touched c ≡ true) (adds : AddsRun point start hi us new) where
    -- where the run has a cell
    some_added : start < hi → HasRuns point declared touched hi new
    some_added l = go (adds.some l)
      where
        go : (u : Unused) × (new ≡ us ++ u ∷ []) × IsRun point start hi u → HasRuns point declared touched hi new
        go (u, e, is) = subst (λ (xs : List Unused). HasRuns point declared touched hi xs) (sym e) whole_list
          where
            behind : (v w : Unused) → IsIn v us → IsIn w (u ∷ []) → IsAhead v w
            behind v w i j =
                let k : w ≡ u = in_one j in
                let b = h.before v i in
                let p : v.point ≡ w.point = h.runs.points v i ∙ sym is.point_is ∙ ap (λ (x : Unused). x.point) (sym k) in
                let s : w.range.lo ≡ start = ap (λ (x : Unused). x.range.lo) k ∙ is.lo_is in
                inr (p, omega (arith, b, s))

            points : (v : Unused) → IsIn v us ⊎ IsIn v (u ∷ []) → v.point ≡ point
            points v (inl i) = h.runs.points v i
            points v (inr i) = ap (λ (x : Unused). x.point) (in_one i) ∙ is.point_is

            only : (c : ℕ) (k : Covers (us ++ u ∷ []) c) → IsIn k.item us ⊎ IsIn k.item (u ∷ []) → is_left declared touched c ≡ true
            only c k (inl i) = h.runs.only c (record { item = k.item; listed = i; from = k.from; to = k.to })
            only c k (inr i) =
                let a : k.item.range.lo ≡ start = ap (λ (x : Unused). x.range.lo) (in_one i) ∙ is.lo_is in
                let b : k.item.range.hi ≡ hi = ap (λ (x : Unused). x.range.hi) (in_one i) ∙ is.hi_is in
                let f = k.from in
                let t = k.to in
                left c (omega (arith, a, f)) (omega (arith, b, t))

            all : (c : ℕ) → c < hi → is_left declared touched c ≡ true → (c < start) ⊎ (start ≤ c) → Covers (us ++ u ∷ []) c
            all c m k (inl s) = let v = h.runs.all c s k in record { item = v.item; listed = in_left (u ∷ []) v.listed; from = v.from; to = v.to }
            all c m k (inr s) = let a = is.lo_is in let b = is.hi_is in record { item = u; listed = in_right us here; from = omega (arith, a, s); to = omega (arith, b, m) }

            whole_list : HasRuns point declared touched hi (us ++ u ∷ [])
            whole_list = record {
              rises = rises_both us (u ∷ []) h.runs.rises (λ v i. absurd (elim i [ ]), tt) behind;
              points = λ v i. points v (in_either us i);
              only = λ c k. only c k (in_either us k.listed);
              all = λ c m k. all c m k (at_most c start);
            }

    -- the run is added
    pub added : HasRuns point declared touched hi new
    added = go (at_most start hi)
      where
        go : (start < hi) ⊎ (hi ≤ start) → HasRuns point declared touched hi new
        go (inl l) = some_added l
        go (inr l) =
            let e : start ≡ hi = omega (arith, l, up) in
            subst (λ (xs : List Unused). HasRuns point declared touched hi xs) (sym (adds.none l)) (subst (λ (n : ℕ). HasRuns point declared touched n us) e h.runs)

    ends_within : (u : Unused) → IsIn u new → u.range.hi ≤ hi
    ends_within u i = go (at_most start hi)
      where
        some : (v : Unused) → IsRun point start hi v → IsIn u us ⊎ IsIn u (v ∷ []) → u.range.hi ≤ hi
        some v is (inl j) = let b = h.before u j in omega (arith, b, up)
        some v is (inr j) = let e : u.range.hi ≡ hi = ap (λ (x : Unused). x.range.hi) (in_one j) ∙ is.hi_is in omega (arith, e)

        last : (v : Unused) × (new ≡ us ++ v ∷ []) × IsRun point start hi v → u.range.hi ≤ hi
        last (v, e, is) = some v is (in_either us (subst (λ (xs : List Unused). IsIn u xs) e i))

        go : (start < hi) ⊎ (hi ≤ start) → u.range.hi ≤ hi
        go (inl l) = last (adds.some l)
        go (inr l) = let b = h.before u (subst (λ (xs : List Unused). IsIn u xs) (adds.none l) i) in omega (arith, b, up)

    -- behind it a run of cells that are not left
    pub passed : (end : ℕ) → hi < end → ((c : ℕ) → hi ≤ c → c < end → is_left declared touched c ≡ false) → HasRunsBefore point declared touched end new
    passed end m gone =
        record {
          runs = record { rises = added.rises; points = added.points; only = added.only; all = λ c l k. all c l k (at_most c hi) };
          before = λ u i. let b = ends_within u i in omega (arith, b, m);
        }
      where
        all : (c : ℕ) → c < end → is_left declared touched c ≡ true → (c < hi) ⊎ (hi ≤ c) → Covers new c
        all c l k (inl s) = added.all c s k
        all c l k (inr s) = absurd (never (is_left declared touched c) k (gone c s l))
