-- The beginning, where nothing hangs; and the tables of main alone.
use Rattle.std.proofs.Common.{◌≡◌, ℕ, ◌<◌, refl, sym, ap, ◌∙◌, true, [], ◌∷◌, arith}
use Rattle.std.specs.Prelude.{zero, suc}
use Rattle.oss_access_lists.specs.declared.hang.Hang.{Hang}
use Rattle.oss_access_lists.specs.declared.marks.Marks.{Marks}
use Rattle.oss_access_lists.specs.Wires.{Place, loose, first, after, IsBelow, head, tail, Wires}
use Rattle.oss_access_lists.specs.Steps.{IsBeginning}
use Rattle.oss_access_lists.specs.Flags.{Flag, has, IsDue, from_before, from_above, from_last, given, bare, Stands}
use Rattle.oss_access_lists.specs.Tables.{no_hang, no_marks, main_marks, is_none, marks_at, hang_at, wires_of, place_of, AreTables, stop}
use Rattle.oss_access_lists.proofs.SendLemmas.{has_none}
use Rattle.oss_access_lists.proofs.DeliverLemmas.{true_is_not_false}

module _ (w : Wires) (F P : ℕ → Marks) (is : IsBeginning w F P) where
  not_first : (p v : ℕ) → w.place v ≡ first p → ⊥
  not_first p v e = let h = sym (is.loose_all v) ∙ e in cc

  not_after : (u v : ℕ) → w.place v ≡ after u → ⊥
  not_after u v e = let h = sym (is.loose_all v) ∙ e in cc

  none_below : (p v : ℕ) → IsBelow w.place p v → ⊥
  none_below p v (head e) = not_first p v e
  none_below p v (tail {u = u} e b) = not_after u v e

  none_given : (v : ℕ) → w.gave v ≡ true → ⊥
  none_given v h = true_is_not_false h (is.held v)

  none_due : (f : Flag) (v : ℕ) → IsDue w F f v → ⊥
  none_due f t (from_before v e h) = not_after v t e
  none_due f t (from_above v e h) = not_first v t e
  none_due f t (from_last v g e n h) = none_given t g
  none_due f t (given g) = none_given t g
  none_due f t (bare g e) = none_given t g

  -- nothing is due, and no flag stands that is not so
  pub begin_stands : Stands w F P
  begin_stands = record {
    wired = record {
      behind = λ u v e. absurd (not_after u v e);
      below = λ p v e. absurd (not_first p v e);
      not_main = λ v e. not_after 0 v e;
      empty = λ p v e b. none_below p v b;
      listed = λ p v e n. absurd (n (sym e ∙ is.no_last p));
      all_before = λ p u v e b. absurd (none_below p u b);
      covered = λ p v b. absurd (none_below p v b);
      main_writes = is.main_mode;
      main_holds = is.held 0;
    };
    sound = λ f v n h. absurd (true_is_not_false h (is.bare f v n));
    posted = λ f v n h. absurd (true_is_not_false h (is.quiet f v));
    told = λ f v d. absurd (none_due f v d);
    main_reads = is.main_reads;
    main_writes = is.main_writes;
  }

all_loose : (v : ℕ) → hang_at (no_hang ∷ []) v ≡ no_hang
all_loose zero = refl
all_loose (suc v) = refl

none_posted : (v : ℕ) → marks_at (no_marks ∷ []) v ≡ no_marks
none_posted zero = refl
none_posted (suc v) = refl

none_stand : (v : ℕ) → (v ≡ 0 → ⊥) → marks_at (main_marks ∷ []) v ≡ no_marks
none_stand zero n = absurd (n refl)
none_stand (suc v) n = refl

start : IsBeginning (wires_of (no_hang ∷ [])) (marks_at (main_marks ∷ [])) (marks_at (no_marks ∷ []))
start = record {
  loose_all = λ v. ap place_of (all_loose v);
  no_last = λ v. ap (λ (y : Hang). y.last) (all_loose v);
  held = λ v. ap (λ (y : Hang). y.gave) (all_loose v);
  main_mode = refl;
  main_reads = refl;
  main_writes = refl;
  bare = λ f v n. ap (has f) (none_stand v n) ∙ has_none f;
  quiet = λ f v. ap (has f) (none_posted v) ∙ has_none f;
}

loose_of : (v : ℕ) → place_of (hang_at (no_hang ∷ []) v) ≡ loose
loose_of v = ap place_of (all_loose v)

no_next : (v : ℕ) → (x : Place) → place_of (hang_at (no_hang ∷ []) v) ≡ x → (x ≡ loose → ⊥) → ⊥
no_next v x e n = n (sym e ∙ loose_of v)

below_one : (v : ℕ) → v < 1 → v ≡ 0
below_one v l = omega (arith, l)

pub start_tables : AreTables (no_hang ∷ []) (main_marks ∷ []) (no_marks ∷ []) (0 ∷ []) 0
start_tables = record {
  linked = record {
    next_forth = λ v n e. absurd (no_next n (after v) e (λ h. cc));
    next_back = λ v n e z. absurd (z (sym e ∙ ap (λ (y : Hang). y.next) (all_loose v)));
    child_forth = λ v n e. absurd (no_next n (first v) e (λ h. cc));
    child_back = λ v n e z. absurd (z (sym e ∙ ap (λ (y : Hang). y.child) (all_loose v)));
    last_above = λ p v e n. absurd (n (sym e ∙ ap (λ (y : Hang). y.last) (all_loose p)));
  };
  listed = λ v n l. absurd (n (below_one v l));
  within = record {
    next = λ v. let e = ap (λ (y : Hang). y.next) (all_loose v) in omega (arith, e);
    child = λ v. let e = ap (λ (y : Hang). y.child) (all_loose v) in omega (arith, e);
    above = λ v. let e = ap (λ (y : Hang). y.above) (all_loose v) in omega (arith, e);
    last = λ v. let e = ap (λ (y : Hang). y.last) (all_loose v) in omega (arith, e);
  };
  in_all = refl;
  stands = begin_stands (wires_of (no_hang ∷ [])) (marks_at (main_marks ∷ [])) (marks_at (no_marks ∷ [])) start;
  queue = record {
    list = [];
    chain = stop;
    waits = λ v i. elim i [ ];
    all = λ v h. absurd (let k = sym (ap is_none (none_posted v)) ∙ h in cc);
  };
  news = λ f v h. absurd (true_is_not_false h (start.quiet f v));
  as_long = refl;
  as_many = refl;
}
