-- The ticks of links are those of the events that they stand for.
use Rattle.std.proofs.Common.{◌≡◌, ◌≤◌, ◌<◌, ◌⊎◌, inl, inr, refl, sym, subst, ap, ◌∙◌, ℕ, zero, suc, ◌+◌, ◌-◌, ◌^◌, Bool, true, false, List, [], ◌∷◌, arith}
use Rattle.std.specs.Prelude.{nat_eq, nat_le, nat_lt, ◌||◌, ◌&&◌, if◌then◌else◌}
use Rattle.std.proofs.lemmas.Bool.Decides.{nat_tests}
use Rattle.oss_model.specs.Agreement.{MainStarts}
use Rattle.oss_model.specs.Bodies.{Act, Program, Start}
use Rattle.oss_model.specs.Bodies.Act.{Created, Awaited, Waited, WaitedOn, Over, Ticked, Load, Store, Folded, Releases, Printed, Ended, Fault}
use Rattle.oss_model.specs.History.{IsMade}
use Rattle.oss_model.specs.Machine.{At, State, Task}
use Rattle.oss_model.specs.Order.{written}
use Rattle.oss_chain_laws.specs.Chains.{capped, ticks_in}
use Rattle.oss_chain_laws.specs.Happenings.{Happening, Acting, Giving, EndsWith, IsHappening, tick_of}
use Rattle.oss_chain_laws.specs.Runs.{ticks_at}
use Rattle.oss_chain_laws.proofs.LongestLemmas.{has_ticks}
use Rattle.oss_span.specs.declared.link.Link.{Link}
use Rattle.oss_span.specs.Links.{Unfolds, nothing, acts, let_, join, acts_from}
use Rattle.oss_span_check.specs.declared.note.Note.{Note}
use Rattle.oss_span_check.specs.declared.record.Record.{Record}
use Rattle.oss_span_check.specs.declared.sought.Sought.TheVariants as sought
use Rattle.oss_span_check.specs.Holding.{is_tick_in, ticks_of, ticks_with}
use Rattle.oss_span_check.specs.Points.{same_point}
use Rattle.oss_span_check.specs.Queries.{has_at, is_of, is_sought}
use Rattle.oss_span_check.specs.Records.{AreOnce, IsRecord}
use Rattle.oss_span_check.proofs.ListLemmas.{and_parts, any_in, bools}
use Rattle.oss_span_check.proofs.NoteLemmas.{at_found, found_at}
use Rattle.oss_span_check.proofs.OrderLemmas.{Each}
use Rattle.oss_span_check.proofs.PointLemmas.{same_is}

-- one where the test is passed
abbrev one : Bool → ℕ
one b = if b then 1 else 0

-- the values at so many numbers from one on, together
abbrev sum : (ℕ → ℕ) → ℕ → ℕ → ℕ
sum f first zero = 0
sum f first (suc k) = f first + sum f (suc first) k

sum_same : (f g : ℕ → ℕ) (k first : ℕ) → ((m : ℕ) → first ≤ m → m < first + k → f m ≡ g m) → sum f first k ≡ sum g first k
sum_same f g zero first h = refl
sum_same f g (suc k) first h = let a = h first (omega arith) (omega arith) in let b = sum_same f g k (suc first) (λ m l i. h m (omega (arith, l)) (omega (arith, i))) in omega (arith, a, b)

sum_none : (f : ℕ → ℕ) (k first : ℕ) → ((m : ℕ) → f m ≡ 0) → sum f first k ≡ 0
sum_none f zero first h = refl
sum_none f (suc k) first h = let a = h first in let b = sum_none f k (suc first) h in omega (arith, a, b)

one_or : (a b : Bool) → (a ≡ true → b ≡ true → ⊥) → one (a || b) ≡ one a + one b
one_or true true h = absurd (h refl refl)
one_or true false h = omega arith
one_or false b h = omega arith

sum_or : (a b : ℕ → Bool) (k first : ℕ) → ((m : ℕ) → a m ≡ true → b m ≡ true → ⊥) → sum (λ m. one (a m || b m)) first k ≡ sum (λ m. one (a m)) first k + sum (λ m. one (b m)) first k
sum_or a b zero first h = omega arith
sum_or a b (suc k) first h = let x = one_or (a first) (b first) (h first) in let y = sum_or a b k (suc first) h in omega (arith, x, y)

-- one number is one of those from one on, or none of them
sum_one : (n k first : ℕ) → sum (λ m. one (nat_eq n m)) first k ≡ one (nat_le first n && nat_lt (n - first) k)
sum_one n zero first = go (bools (nat_le first n))
  where
    small : nat_lt (n - first) 0 ≡ false
    small = grind (arith, nat_tests)

    go : (nat_le first n ≡ true) ⊎ (nat_le first n ≡ false) → 0 ≡ one (nat_le first n && nat_lt (n - first) 0)
    go (inl e) = sym (ap (λ (b : Bool). one (b && nat_lt (n - first) 0)) e ∙ ap one small)
    go (inr e) = sym (ap (λ (b : Bool). one (b && nat_lt (n - first) 0)) e)
sum_one n (suc k) first = go (which n first) (sum_one n k (suc first))
  where
    which : (a b : ℕ) → (a < b) ⊎ (a ≡ b) ⊎ (b < a)
    which a b = grind arith

    go : (n < first) ⊎ (n ≡ first) ⊎ (first < n) → sum (λ m. one (nat_eq n m)) (suc first) k ≡ one (nat_le (suc first) n && nat_lt (n - suc first) k) → one (nat_eq n first) + sum (λ m. one (nat_eq n m)) (suc first) k ≡ one (nat_le first n && nat_lt (n - first) (suc k))
    go (inl l) h =
        let a : nat_eq n first ≡ false = grind (arith, nat_tests) in
        let b : nat_le (suc first) n ≡ false = grind (arith, nat_tests) in
        let c : nat_le first n ≡ false = grind (arith, nat_tests) in
        let x : one (nat_eq n first) ≡ 0 = ap one a in
        let y : sum (λ m. one (nat_eq n m)) (suc first) k ≡ 0 = h ∙ ap (λ (t : Bool). one (t && nat_lt (n - suc first) k)) b in
        let z : one (nat_le first n && nat_lt (n - first) (suc k)) ≡ 0 = ap (λ (t : Bool). one (t && nat_lt (n - first) (suc k))) c in
        omega (arith, x, y, z)
    go (inr (inl e)) h =
        let a : nat_eq n first ≡ true = grind (arith, nat_tests) in
        let b : nat_le (suc first) n ≡ false = grind (arith, nat_tests) in
        let c : nat_le first n ≡ true = grind (arith, nat_tests) in
        let d : nat_lt (n - first) (suc k) ≡ true = grind (arith, nat_tests) in
        let x : one (nat_eq n first) ≡ 1 = ap one a in
        let y : sum (λ m. one (nat_eq n m)) (suc first) k ≡ 0 = h ∙ ap (λ (t : Bool). one (t && nat_lt (n - suc first) k)) b in
        let z : one (nat_le first n && nat_lt (n - first) (suc k)) ≡ 1 = ap (λ (t : Bool). one (t && nat_lt (n - first) (suc k))) c ∙ ap one d in
        omega (arith, x, y, z)
    go (inr (inr l)) h =
        let a : nat_eq n first ≡ false = grind (arith, nat_tests) in
        let b : nat_le (suc first) n ≡ true = grind (arith, nat_tests) in
        let c : nat_le first n ≡ true = grind (arith, nat_tests) in
        let d : nat_lt (n - suc first) k ≡ nat_lt (n - first) (suc k) = one_less n first k l in
        let x : one (nat_eq n first) ≡ 0 = ap one a in
        let y : sum (λ m. one (nat_eq n m)) (suc first) k ≡ one (nat_lt (n - first) (suc k)) = h ∙ (ap (λ (t : Bool). one (t && nat_lt (n - suc first) k)) b ∙ ap one d) in
        let z : one (nat_le first n && nat_lt (n - first) (suc k)) ≡ one (nat_lt (n - first) (suc k)) = ap (λ (t : Bool). one (t && nat_lt (n - first) (suc k))) c in
        omega (arith, x, y, z)
      where
        one_less : (n first k : ℕ) → first < n → nat_lt (n - suc first) k ≡ nat_lt (n - first) (suc k)
        one_less n first k l = choose (bools (nat_lt (n - first) (suc k)))
          where
            yes_is : nat_lt (n - first) (suc k) ≡ true → nat_lt (n - suc first) k ≡ true
            yes_is e = grind (arith, nat_tests)

            not_is : nat_lt (n - first) (suc k) ≡ false → nat_lt (n - suc first) k ≡ false
            not_is e = grind (arith, nat_tests)

            choose : (nat_lt (n - first) (suc k) ≡ true) ⊎ (nat_lt (n - first) (suc k) ≡ false) → nat_lt (n - suc first) k ≡ nat_lt (n - first) (suc k)
            choose (inl e) = yes_is e ∙ sym e
            choose (inr e) = not_is e ∙ sym e

-- the ticks that are noted of these acts of a task
abbrev noted_ticks : List ℕ → ℕ → ℕ → List Note → ℕ
noted_ticks p first count [] = 0
noted_ticks p first count (x ∷ xs) = one (is_tick_in p first count x) + noted_ticks p first count xs

same_number : (x y : ℕ) → nat_eq x y ≡ true → x ≡ y
same_number x y e = grind (arith, nat_tests)

one_note : (p : List ℕ) (first count : ℕ) (x : Note) → sum (λ m. one (is_of sought.Tick p x && nat_eq x.number m)) first count ≡ one (is_tick_in p first count x)
one_note p first count x = go (bools (is_of sought.Tick p x))
  where
    go : (is_of sought.Tick p x ≡ true) ⊎ (is_of sought.Tick p x ≡ false) → sum (λ m. one (is_of sought.Tick p x && nat_eq x.number m)) first count ≡ one (is_tick_in p first count x)
    go (inl e) =
        sum_same (λ m. one (is_of sought.Tick p x && nat_eq x.number m)) (λ m. one (nat_eq x.number m)) count first (λ m l i. ap (λ (t : Bool). one (t && nat_eq x.number m)) e)
        ∙ (sum_one x.number count first ∙ sym (ap (λ (t : Bool). one (t && (nat_le first x.number && nat_lt (x.number - first) count))) e))
    go (inr e) =
        sum_none (λ m. one (is_of sought.Tick p x && nat_eq x.number m)) count first (λ m. ap (λ (t : Bool). one (t && nat_eq x.number m)) e)
        ∙ sym (ap (λ (t : Bool). one (t && (nat_le first x.number && nat_lt (x.number - first) count))) e)

-- each tick is noted once
ticks_noted : (p : List ℕ) (first count : ℕ) (notes : List Note) → AreOnce notes → noted_ticks p first count notes ≡ sum (λ m. one (has_at notes sought.Tick p m)) first count
ticks_noted p first count [] h = sym (sum_none (λ m. one (has_at [] sought.Tick p m)) count first (λ m. refl))
ticks_noted p first count (x ∷ xs) h =
    let a = one_note p first count x in
    let b = ticks_noted p first count xs h.1 in
    let c : sum (λ m. one (has_at (x ∷ xs) sought.Tick p m)) first count ≡ sum (λ m. one (is_of sought.Tick p x && nat_eq x.number m)) first count + sum (λ m. one (has_at xs sought.Tick p m)) first count =
    sum_or (λ m. is_of sought.Tick p x && nat_eq x.number m) (λ m. has_at xs sought.Tick p m) count first apart in
    omega (arith, a, b, c)
  where
    apart : (m : ℕ) → (is_of sought.Tick p x && nat_eq x.number m) ≡ true → has_at xs sought.Tick p m ≡ true → ⊥
    apart m e f =
        let g = and_parts (is_of sought.Tick p x) (nat_eq x.number m) e in
        let y = any_in (λ y. is_of sought.Tick p y && nat_eq y.number m) xs f in
        let k = and_parts (is_of sought.Tick p y.0) (nat_eq y.0.number m) y.2 in
        let i = and_parts (is_sought sought.Tick x.what) (same_point x.point p) g.0 in
        let j = and_parts (is_sought sought.Tick y.0.what) (same_point y.0.point p) k.0 in
        h.0 y.0 y.1 (same_is {p = x.point} {q = p} i.1 ∙ sym (same_is {p = y.0.point} {q = p} j.1)) (same_number x.number m g.1 ∙ sym (same_number y.0.number m k.1))

-- capped sums

capped_more : (n a b : ℕ) → capped (capped (n + a) + b) ≡ capped (n + (a + b))
capped_more n a b = grind arith

capped_inside : (n a b : ℕ) → capped (n + capped (a + b)) ≡ capped (capped (n + a) + b)
capped_inside n a b = grind arith

capped_none : (n : ℕ) → n ≤ 2 ^ 64 - 1 → capped n ≡ n
capped_none n l = grind arith

capped_small : (n : ℕ) → capped n ≤ 2 ^ 64 - 1
capped_small n = grind arith

ticks_added : (p : List ℕ) (first count n : ℕ) (notes : List Note) → n ≤ 2 ^ 64 - 1 → ticks_with p first count n notes ≡ capped (n + noted_ticks p first count notes)
ticks_added p first count n [] l = sym (ap capped (plus_none n) ∙ capped_none n l)
  where
    plus_none : (n : ℕ) → n + 0 ≡ n
    plus_none n = omega arith
ticks_added p first count n (x ∷ xs) l = go (bools (is_tick_in p first count x)) (λ m k. ticks_added p first count m xs k)
  where
    go : (is_tick_in p first count x ≡ true) ⊎ (is_tick_in p first count x ≡ false) → ((m : ℕ) → m ≤ 2 ^ 64 - 1 → ticks_with p first count m xs ≡ capped (m + noted_ticks p first count xs)) → ticks_with p first count n (x ∷ xs) ≡ capped (n + noted_ticks p first count (x ∷ xs))
    go (inl e) again =
        ap (λ (t : Bool). ticks_with p first count (if t then capped (n + 1) else n) xs) e
        ∙ (again (capped (n + 1)) (capped_small (n + 1)) ∙ (capped_more n 1 (noted_ticks p first count xs) ∙ sym (ap (λ (t : Bool). capped (n + (one t + noted_ticks p first count xs))) e)))
    go (inr e) again =
        ap (λ (t : Bool). ticks_with p first count (if t then capped (n + 1) else n) xs) e
        ∙ (again n l ∙ (ap (λ (m : ℕ). capped (n + m)) (plus (noted_ticks p first count xs)) ∙ sym (ap (λ (t : Bool). capped (n + (one t + noted_ticks p first count xs))) e)))
      where
        plus : (m : ℕ) → m ≡ 0 + m
        plus m = omega arith

tick_zero : {S : Type 0} (a : Act S) → (a ≡ Ticked → ⊥) → tick_of a ≡ 0
tick_zero Ticked h = absurd (h refl)
tick_zero (Load c) h = refl
tick_zero (Store c v) h = refl
tick_zero (Folded c op v slot) h = refl
tick_zero (Created o i) h = refl
tick_zero Awaited h = refl
tick_zero Waited h = refl
tick_zero (WaitedOn named) h = refl
tick_zero (Releases clauses i) h = refl
tick_zero (Printed key text) h = refl
tick_zero Ended h = refl
tick_zero (Fault kind line key) h = refl
tick_zero Over h = refl

ticks_first : {E : Type 0} (weight : E → ℕ) (e : E) (es : List E) → ticks_in weight (e ∷ es) ≡ capped (weight e + ticks_in weight es)
unfolding ticks_in
ticks_first weight e es = refl

no_ticks_in : {E : Type 0} (weight : E → ℕ) → ticks_in weight [] ≡ 0
unfolding ticks_in
no_ticks_in weight = refl

ticks_small : {E : Type 0} (weight : E → ℕ) (es : List E) → ticks_in weight es ≤ 2 ^ 64 - 1
ticks_small weight [] = let e = no_ticks_in weight in omega (arith, e)
ticks_small weight (x ∷ es) = let e = ticks_first weight x es in let l = capped_small (weight x + ticks_in weight es) in omega (arith, e, l)

ticks_from : (weight : Happening → ℕ) (p : List ℕ) (k first : ℕ) (es : List Happening) → ticks_in weight (acts_from p first k es) ≡ capped (sum (λ m. weight (Acting p m)) first k + ticks_in weight es)
ticks_from weight p zero first es = sym (ap capped (plus (ticks_in weight es)) ∙ capped_none (ticks_in weight es) (ticks_small weight es))
  where
    plus : (m : ℕ) → 0 + m ≡ m
    plus m = omega arith
ticks_from weight p (suc k) first es =
    ticks_first weight (Acting p first) (acts_from p (suc first) k es)
    ∙ (ap (λ (n : ℕ). capped (weight (Acting p first) + n)) (ticks_from weight p k (suc first) es)
    ∙ (capped_inside (weight (Acting p first)) (sum (λ m. weight (Acting p m)) (suc first) k) (ticks_in weight es) ∙ capped_again (weight (Acting p first) + sum (λ m. weight (Acting p m)) (suc first) k) (ticks_in weight es)))
  where
    capped_again : (a b : ℕ) → capped (capped a + b) ≡ capped (a + b)
    capped_again a b = grind arith

module _ {S : Type 0} (P : Program S) (main : Start S) (s : State S) (ms : MainStarts main) (made : IsMade P main s) (ended : (p : List ℕ) (u : Task S) → At s p u → (n : ℕ) × EndsWith P s p n) (r : Record) (so : IsRecord P s r) where
  abbrev weight : Happening → ℕ
  weight = ticks_at P s

  tick_noted : (p : List ℕ) (m : ℕ) → IsHappening P s (Acting p m) → weight (Acting p m) ≡ one (has_at r.notes sought.Tick (written p) m)
  tick_noted p m h = go (bools (has_at r.notes sought.Tick (written p) m))
    where
      told : weight (Acting p m) ≡ tick_of h.1
      told = (has_ticks P s).acting h.2

      go : (has_at r.notes sought.Tick (written p) m ≡ true) ⊎ (has_at r.notes sought.Tick (written p) m ≡ false) → weight (Acting p m) ≡ one (has_at r.notes sought.Tick (written p) m)
      go (inl e) =
          let f = at_found P main s made ended r so sought.Tick p m e in
          let q : weight (Acting p m) ≡ tick_of f.act = (has_ticks P s).acting f.does in
          q ∙ (ap tick_of f.sense ∙ sym (ap one e))
      go (inr e) = told ∙ (tick_zero h.1 (λ t. clash (found_at P main s made ended r so sought.Tick p m (record { created = h.0; act = h.1; does = h.2; sense = t })) e) ∙ sym (ap one e))
        where
          clash : {b : Bool} → b ≡ true → b ≡ false → ⊥
          clash x y = cc

  acts_all : (p : List ℕ) (k first : ℕ) (es : List Happening) → Each (IsHappening P s) (acts_from p first k es) → ((m : ℕ) → first ≤ m → m < first + k → IsHappening P s (Acting p m)) × Each (IsHappening P s) es
  acts_all p zero first es h = ((λ m l i. absurd (omega (arith, l, i))), h)
  acts_all p (suc k) first es h = let r = acts_all p k (suc first) es h.1 in ((λ m l i. go m l i (which m first) r.0), r.1)
    where
      which : (a b : ℕ) → (a ≡ b) ⊎ ((a < b) ⊎ (suc b ≤ a))
      which a b = grind arith

      go : (m : ℕ) → first ≤ m → m < first + suc k → (m ≡ first) ⊎ ((m < first) ⊎ (suc first ≤ m)) → ((m : ℕ) → suc first ≤ m → m < suc first + k → IsHappening P s (Acting p m)) → IsHappening P s (Acting p m)
      go m l i (inl e) again = subst (λ (n : ℕ). IsHappening P s (Acting p n)) (sym e) h.0
      go m l i (inr (inl j)) again = absurd (omega (arith, l, j))
      go m l i (inr (inr j)) again = again m j (omega (arith, i))

  acts_ticks : (p : List ℕ) (first k n : ℕ) → n ≤ 2 ^ 64 - 1 → ((m : ℕ) → first ≤ m → m < first + k → IsHappening P s (Acting p m)) → ticks_with (written p) first k n r.notes ≡ capped (n + sum (λ m. weight (Acting p m)) first k)
  acts_ticks p first k n l h =
      ticks_added (written p) first k n r.notes l
      ∙ ap (λ (m : ℕ). capped (n + m))
      (ticks_noted (written p) first k r.notes so.once ∙ sym (sum_same (λ m. weight (Acting p m)) (λ m. one (has_at r.notes sought.Tick (written p) m)) k first (λ m i j. tick_noted p m (h m i j))))

  cell_ticks : (p : List ℕ) (c n : ℕ) (es : List Happening) → capped (n + ticks_in weight es) ≡ capped (n + ticks_in weight (Giving p c ∷ es))
  cell_ticks p c n es = ap (λ (m : ℕ). capped (n + m)) (sym (ticks_first weight (Giving p c) es ∙ (ap capped (plus (ticks_in weight es)) ∙ capped_none (ticks_in weight es) (ticks_small weight es))))
    where
      plus : (m : ℕ) → 0 + m ≡ m
      plus m = omega arith

  ticks_are_from : (n : ℕ) {ls : List Link} {events : List Happening} → n ≤ 2 ^ 64 - 1 → Unfolds P s ls events → Each (IsHappening P s) events → ticks_of r n ls ≡ capped (n + ticks_in weight events)
  ticks_are_from n l nothing h = sym (ap (λ (m : ℕ). capped (n + m)) (no_ticks_in weight) ∙ (ap capped (plus n) ∙ capped_none n l))
    where
      plus : (m : ℕ) → m + 0 ≡ m
      plus m = omega arith
  ticks_are_from n l (acts {p = p} {first = first} {count = k} {rest = ls} {es = es} i u) h =
      let x = acts_all p (suc k) first es h in
      let a = ap (λ (q : List ℕ). ticks_with q first (suc k) n r.notes) i ∙ acts_ticks p first (suc k) n l x.0 in
      ap (λ (m : ℕ). ticks_of r m ls) a
      ∙ (ticks_are_from (capped (n + sum (λ m. weight (Acting p m)) first (suc k))) (capped_small (n + sum (λ m. weight (Acting p m)) first (suc k))) u x.1
      ∙ (sym (capped_inside n (sum (λ m. weight (Acting p m)) first (suc k)) (ticks_in weight es)) ∙ ap (λ (m : ℕ). capped (n + m)) (sym (ticks_from weight p (suc k) first es))))
  ticks_are_from n l (let_ {p = p} {c = c} {es = es} i j u) h = ticks_are_from n l u h.1 ∙ cell_ticks p c n es
  ticks_are_from n l (join {p = p} {c = c} {es = es} i j u) h = ticks_are_from n l u h.1 ∙ cell_ticks p c n es

  -- the ticks of links that stand for events
  pub ticks_are : {ls : List Link} {events : List Happening} → Unfolds P s ls events → Each (IsHappening P s) events → ticks_of r 0 ls ≡ ticks_in weight events
  ticks_are {events = events} u h = ticks_are_from 0 (omega arith) u h ∙ (ap capped (plus (ticks_in weight events)) ∙ capped_none (ticks_in weight events) (ticks_small weight events))
    where
      plus : (m : ℕ) → 0 + m ≡ m
      plus m = omega arith
