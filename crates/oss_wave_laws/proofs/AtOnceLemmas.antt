-- What a whole part leaves, and that a state with just that is one to which the acts of the part lead.
use Rattle.std.proofs.Common.{◌≡◌, ◌≢◌, ℕ, zero, suc, ◌<◌, ◌≤◌, ◌⊎◌, inl, inr, refl, sym, subst, ap, ◌∙◌, arith, List, [], ◌∷◌, ◌++◌, length, Bool, true, false}
use Rattle.std.specs.Prelude.{◌||◌, slice_index}
use Rattle.std.proofs.lemmas.Bool.Decides.{nat_tests}
use Rattle.std.proofs.lemmas.List.{ext_get_or}
use Rattle.oss_model.specs.Order.{IsIn, here, there, IsSuffix, whole, longer}
use Rattle.oss_model.specs.Rights.{Touch, Writes, Folds}
use Rattle.oss_model.specs.Bodies.{Order, Program, Act, Start, Touches, store, folded, stack_from, child_start}
use Rattle.oss_model.specs.Bodies.Act.{Ticked, Load, Store, Folded, Created, Awaited, Waited, WaitedOn, Releases, Printed, Ended, Fault, Over}
use Rattle.oss_model.specs.Machine.{Task, State, At, find}
use Rattle.oss_model.specs.Memory.{Changes}
use Rattle.oss_model.specs.Moves.{act_now, created_now, found_by, cells_after, CanStep, Stepped}
use Rattle.oss_model.specs.Sequence.{Running, Sequential}
use Rattle.oss_model.specs.Agreement.{Setting, Agrees}
use Rattle.oss_model.proofs.MemoryLemmas.{effect, Effect}
use Rattle.oss_model.proofs.MoveLemmas.{which_path, others_forth}
use Rattle.oss_model.proofs.RunLemmas.{no_creation_path, not_child}
use Rattle.oss_model.proofs.TreeLemmas.{at_same, path_found}
use Rattle.oss_wave_laws.specs.Alone.{IsInWave, with_found, NewTouch}
use Rattle.oss_wave_laws.specs.Parts.{Stage, stage_after, act_after, made_by, made_after, IsPart}
use Rattle.oss_wave_laws.specs.Waves.{first_stage, wave_ticks, Takes, takes_none, takes_more}
use Rattle.oss_wave_laws.specs.Claims.{IsSame}
use Rattle.oss_wave_laws.specs.AtOnce.{changes_cell, is_changed, new_from, IsTaken, PartTaken, PartAtOnce}
use Rattle.oss_wave_laws.proofs.SumLemmas.{in_cases, in_none, true_false}
use Rattle.oss_wave_laws.proofs.WaveTheorem.{part_own, runs_agree}
use Rattle.oss_wave_laws.proofs.WaveLemmas.{Taken, taken, takes}
use Rattle.oss_wave_laws.proofs.FallLemmas.{turn_acts}

-- an act that changes a cell is a touch of it
change_touches : {S : Type 0} (act : Act S) (c : ℕ) → changes_cell act c ≡ true → (x : Touch) × Touches act c x false
change_touches {S = S} (Store d v) c e = let f : d ≡ c = grind (arith, nat_tests, e) in (Writes, subst (λ (k : ℕ). Touches {S = S} (Store d v) k Writes false) f store)
change_touches {S = S} (Folded d op v false) c e = let f : d ≡ c = grind (arith, nat_tests, e) in (Folds op, subst (λ (k : ℕ). Touches {S = S} (Folded d op v false) k (Folds op) false) f folded)
change_touches (Folded d op v true) c e = cc
change_touches Ticked c e = cc
change_touches (Load d) c e = cc
change_touches (Created o included) c e = cc
change_touches Awaited c e = cc
change_touches Waited c e = cc
change_touches (WaitedOn named) c e = cc
change_touches (Releases clauses included) c e = cc
change_touches (Printed key text) c e = cc
change_touches Ended c e = cc
change_touches (Fault kind line key) c e = cc
change_touches Over c e = cc

change_shown : {S : Type 0} {act : Act S} {c : ℕ} → Changes act c false → changes_cell act c ≡ true
change_shown (Changes.store {c = c}) = grind (arith, nat_tests)
change_shown (Changes.folded {c = c}) = grind (arith, nat_tests)

-- a cell that an act does not change is as before
unchanged : {S : Type 0} (act : Act S) (c : ℕ) (cells : List ℕ) → c < length cells → changes_cell act c ≡ false → slice_index (cells_after act cells) c ≡ slice_index cells c
unfolding Effect
unchanged act c cells l e = go (effect act c cells l)
  where
    go : Effect act c cells → slice_index (cells_after act cells) c ≡ slice_index cells c
    go (inl h) = absurd (true_false (sym (change_shown h.0) ∙ e))
    go (inr h) = h.1

or_cases : (a b : Bool) → (a || b) ≡ true → (a ≡ true) ⊎ (b ≡ true)
or_cases true b e = inl refl
or_cases false b e = inr e

or_none : (a b : Bool) → (a || b) ≡ false → (a ≡ false) × (b ≡ false)
or_none true b e = cc
or_none false b e = (refl, e)

in_append : {A : Type 0} {x : A} (xs ys : List A) → IsIn x (xs ++ ys) → IsIn x xs ⊎ IsIn x ys
in_append [] ys h = inr h
in_append (z ∷ xs) ys here = inl here
in_append {A = A} {x = x} (z ∷ xs) ys (there h) = go (in_append xs ys h)
  where
    go : IsIn x xs ⊎ IsIn x ys → IsIn x (z ∷ xs) ⊎ IsIn x ys
    go (inl k) = inl (there k)
    go (inr k) = inr k

in_front : {A : Type 0} {x : A} (xs ys : List A) → IsIn x xs → IsIn x (xs ++ ys)
in_front [] ys h = absurd (in_none h)
in_front (z ∷ xs) ys here = here
in_front (z ∷ xs) ys (there h) = there (in_front xs ys h)

in_back : {A : Type 0} {x : A} (xs ys : List A) → IsIn x ys → IsIn x (xs ++ ys)
in_back [] ys h = h
in_back (z ∷ xs) ys h = there (in_back xs ys h)

-- what an act makes is the task of a creation
made_parts : {S : Type 0} (P : Program S) (start : Start S) (found : List ℕ) (act : Act S) (b : Start S) → IsIn b (made_by P start found act) → (o : Order S) × (act ≡ Created o false) × (b ≡ child_start (stack_from P start found).base o)
made_parts P start found (Created o false) b here = (o, refl, refl)
made_parts P start found (Created o false) b (there h) = absurd (in_none h)
made_parts P start found (Created o true) b h = absurd (in_none h)
made_parts P start found Ticked b h = absurd (in_none h)
made_parts P start found (Load d) b h = absurd (in_none h)
made_parts P start found (Store d v) b h = absurd (in_none h)
made_parts P start found (Folded d op v slot) b h = absurd (in_none h)
made_parts P start found Awaited b h = absurd (in_none h)
made_parts P start found Waited b h = absurd (in_none h)
made_parts P start found (WaitedOn named) b h = absurd (in_none h)
made_parts P start found (Releases clauses included) b h = absurd (in_none h)
made_parts P start found (Printed key text) b h = absurd (in_none h)
made_parts P start found Ended b h = absurd (in_none h)
made_parts P start found (Fault kind line key) b h = absurd (in_none h)
made_parts P start found Over b h = absurd (in_none h)

made_one : {S : Type 0} (P : Program S) (start : Start S) (found : List ℕ) (act : Act S) (o : Order S) → act ≡ Created o false → IsIn (child_start (stack_from P start found).base o) (made_by P start found act)
made_one P start found act o e = subst (λ (x : Act _). IsIn (child_start (stack_from P start found).base o) (made_by P start found x)) (sym e) here

-- a path is that of one of these starts, or of none
among : {S : Type 0} (bs : List (Start S)) (q : List ℕ) → ((b : Start S) × IsIn b bs × (q ≡ b.path)) ⊎ ((b : Start S) → IsIn b bs → q ≢ b.path)
among [] q = inr (λ b h e. in_none h)
among {S = S} (x ∷ bs) q = go (which_path q x.path) (among bs q)
  where
    past : (q ≢ x.path) → ((b : Start S) → IsIn b bs → q ≢ b.path) → (b : Start S) → (b ≡ x) ⊎ IsIn b bs → q ≢ b.path
    past ne f b (inl e) g = ne (g ∙ ap (λ (y : Start S). y.path) e)
    past ne f b (inr h) g = f b h g

    go : (q ≡ x.path) ⊎ (q ≢ x.path) → ((b : Start S) × IsIn b bs × (q ≡ b.path)) ⊎ ((b : Start S) → IsIn b bs → q ≢ b.path) → ((b : Start S) × IsIn b (x ∷ bs) × (q ≡ b.path)) ⊎ ((b : Start S) → IsIn b (x ∷ bs) → q ≢ b.path)
    go (inl e) r = inl (x, here, e)
    go (inr ne) (inl r) = inl (r.0, there r.1, r.2)
    go (inr ne) (inr f) = inr (λ b h. past ne f b (in_cases h))

module _ {S : Type 0} (P : Program S) (main : Start S) (cells : List ℕ) (z : Running S) (set_ : Setting main cells) (run : Sequential P main cells z) (s : State S) (s_agrees : Agrees P main cells z s)
    (alone : List ℕ → State S) (n : State S) (wave : IsInWave P s alone n) (p : List ℕ) (t : Task S) (can : CanStep P s p t) (free : alone p ≡ s) (count : ℕ) (is : IsPart P t.body.start (first_stage s t) wave_ticks count) where
  abbrev start : Start S
  start = t.body.start

  abbrev first : Stage
  first = first_stage s t

  abbrev stage : ℕ → Stage
  stage k = stage_after P start first k

  path_t : start.path ≡ p
  path_t = path_found s.tasks p t can.at_

  taken_at : (k : ℕ) {m : State S} → k ≤ count → Takes P p n k m → Taken P main cells z set_ run s s_agrees alone p t k m
  taken_at k l r = taken P main cells z set_ run s s_agrees alone n wave p t can free count is k l r

  agrees_at : (k : ℕ) {m : State S} → k ≤ count → Takes P p n k m → Agrees P main cells z m
  agrees_at k l r = runs_agree P main cells z set_ run s s_agrees (taken_at k l r).wave.run

  n_agrees : Agrees P main cells z n
  n_agrees = runs_agree P main cells z set_ run s s_agrees wave.run

  own_at : (k : ℕ) {m : State S} (d : Taken P main cells z set_ run s s_agrees alone p t k m) → At m p (with_found (stage k).found t)
  own_at k d = d.wave.same p t (with_found (stage k).found t) can.at_ (subst (λ (x : State S). At x p (with_found (stage k).found t)) (sym (part_own p d.a alone)) d.part.at_)

  -- the answers so far are an end of those later
  found_grows : (j k : ℕ) → j ≤ k → IsSuffix (stage j).found (stage k).found
  unfolding stage_after
  found_grows j zero l = let e : j ≡ zero = omega (arith, l) in subst (λ (i : ℕ). IsSuffix (stage i).found (stage zero).found) (sym e) whole
  found_grows j (suc k) l = go (which j k l) (λ m. found_grows j k m)
    where
      which : (a b : ℕ) → a ≤ suc b → (a ≤ b) ⊎ (a ≡ suc b)
      which a b m = grind (arith, m)

      go : (j ≤ k) ⊎ (j ≡ suc k) → (j ≤ k → IsSuffix (stage j).found (stage k).found) → IsSuffix (stage j).found (stage (suc k)).found
      go (inl m) f = longer (f m)
      go (inr e) f = subst (λ (i : ℕ). IsSuffix (stage i).found (stage (suc k)).found) (sym e) whole

  record ChangedAt (k c : ℕ) : Type 0 where
    pub j : ℕ
    pub below : j < k
    pub touch : Touch
    pub touches : Touches (act_after P start first j) c touch false

  changed_at : (k c : ℕ) → is_changed P start first k c ≡ true → ChangedAt k c
  unfolding is_changed
  changed_at zero c e = cc
  changed_at (suc k) c e = go (or_cases (changes_cell (act_after P start first k) c) (is_changed P start first k c) e) (λ f. changed_at k c f)
    where
      go : (changes_cell (act_after P start first k) c ≡ true) ⊎ (is_changed P start first k c ≡ true) → (is_changed P start first k c ≡ true → ChangedAt k c) → ChangedAt (suc k) c
      go (inl f) g = let x = change_touches (act_after P start first k) c f in record { j = k; below = omega arith; touch = x.0; touches = x.1 }
      go (inr f) g = let r = g f in let l = r.below in record { j = r.j; below = omega (arith, l); touch = r.touch; touches = r.touches }

  -- a cell that the part has changed is as the part has it
  changed_same : (k : ℕ) {m : State S} (d : Taken P main cells z set_ run s s_agrees alone p t k m) (c : ℕ) → c < length s.cells → is_changed P start first k c ≡ true → slice_index m.cells c ≡ slice_index (stage k).cells c
  unfolding stage_after
  changed_same k {m = m} d c l e =
      let x = changed_at k c e in
      let new : NewTouch P s d.a p c x.touch = record {
        old = t;
        at_old = can.at_;
        new = with_found (stage k).found t;
        at_new = d.part.at_;
        past = (stage x.j).found;
        answer = found_by (act_after P start first x.j) (stage x.j).cells;
        done_ = found_grows (suc x.j) k x.below;
        since = found_grows zero x.j (omega arith);
        touches = x.touches;
      } in
      let own = sym (part_own p d.a alone) in
      d.wave.touched p t c x.touch can.at_ (subst (λ (y : State S). NewTouch P s y p c x.touch) own new) l ∙ (ap (λ (y : State S). slice_index y.cells c) (part_own p d.a alone) ∙ ap (λ xs. slice_index xs c) d.part.cells)

  -- and all others are as they were
  kept_same : (k : ℕ) {m : State S} → k ≤ count → Takes P p n k m → (c : ℕ) → c < length n.cells → is_changed P start first k c ≡ false → slice_index m.cells c ≡ slice_index n.cells c
  unfolding is_changed
  kept_same zero l takes_none c b e = refl
  kept_same (suc k) {m = m} l (takes_more {a = a} {t = u} r could step) c b e =
      let d = taken_at k (omega (arith, l)) r in
      let f : u ≡ with_found (stage k).found t = at_same a p u _ could.at_ (own_at k d) in
      let h = or_none (changes_cell (act_after P start first k) c) (is_changed P start first k c) e in
      let g : changes_cell (act_now P u.body) c ≡ false = subst (λ (x : Task S). changes_cell (act_now P x.body) c ≡ false) (sym f) h.0 in
      let x = (agrees_at k (omega (arith, l)) r).size in
      let y = n_agrees.size in
      ap (λ xs. slice_index xs c) step.cells ∙ (unchanged (act_now P u.body) c a.cells (omega (arith, b, x, y)) g ∙ kept_same k (omega (arith, l)) r c b h.1)

  -- each task that was made has a path right below
  made_path : (k : ℕ) (b : Start S) → IsIn b (made_after P start first k) → (i : ℕ) × (b.path ≡ i ∷ p)
  unfolding made_after
  made_path zero b h = absurd (in_none h)
  made_path (suc k) b h = go (in_append (made_after P start first k) (made_by P start (stage k).found (act_after P start first k)) h) (λ i. made_path k b i)
    where
      go : IsIn b (made_after P start first k) ⊎ IsIn b (made_by P start (stage k).found (act_after P start first k)) → (IsIn b (made_after P start first k) → (i : ℕ) × (b.path ≡ i ∷ p)) → (i : ℕ) × (b.path ≡ i ∷ p)
      go (inl i) f = f i
      go (inr i) f =
          let m = made_parts P start (stage k).found (act_after P start first k) b i in
          (created_now P (with_found (stage k).found t).body, ap (λ (x : Start S). x.path) m.2 ∙ (no_creation_path P start (stage k).found m.0 ∙ ap (λ (q : List ℕ). created_now P (with_found (stage k).found t).body ∷ q) path_t))

  made_there : (k : ℕ) {m : State S} → k ≤ count → Takes P p n k m → (b : Start S) → IsIn b (made_after P start first k) → At m b.path (new_from b)
  unfolding made_after
  made_there zero l takes_none b h = absurd (in_none h)
  made_there (suc k) {m = m} l (takes_more {a = a} {t = u} r could step) b h =
      go (in_append (made_after P start first k) (made_by P start (stage k).found (act_after P start first k)) h) (λ i. made_there k (omega (arith, l)) r b i)
    where
      now : u ≡ with_found (stage k).found t
      now = at_same a p u _ could.at_ (own_at k (taken_at k (omega (arith, l)) r))

      step_now : Stepped P a p (with_found (stage k).found t) m
      step_now = subst (λ (x : Task S). Stepped P a p x m) now step

      could_now : CanStep P a p (with_found (stage k).found t)
      could_now = subst (λ (x : Task S). CanStep P a p x) now could

      go : IsIn b (made_after P start first k) ⊎ IsIn b (made_by P start (stage k).found (act_after P start first k)) → (IsIn b (made_after P start first k) → At a b.path (new_from b)) → At m b.path (new_from b)
      go (inl i) f =
          let q = made_path k b i in
          others_forth P main a m p (with_found (stage k).found t) (found_by (act_after P start first k) a.cells) (agrees_at k (omega (arith, l)) r).made could_now.at_ could_now.goes step_now.tasks b.path (new_from b)
          (λ e. not_child q.0 p (sym e ∙ q.1)) (f i)
      go (inr i) f =
          let x = made_parts P start (stage k).found (act_after P start first k) b i in
          let path : b.path ≡ created_now P (with_found (stage k).found t).body ∷ p = ap (λ (y : Start S). y.path) x.2 ∙ (no_creation_path P start (stage k).found x.0 ∙ ap (λ (q : List ℕ). created_now P (with_found (stage k).found t).body ∷ q) path_t) in
          subst (λ (y : List ℕ). At m y (new_from b)) (sym path) (subst (λ (y : Start S). At m (created_now P (with_found (stage k).found t).body ∷ p) (new_from y)) (sym x.2) (step_now.tasks.made x.0 x.1))

  others_same : (k : ℕ) {m : State S} → k ≤ count → Takes P p n k m → (q : List ℕ) → q ≢ p → ((b : Start S) → IsIn b (made_after P start first k) → q ≢ b.path) → find m.tasks q ≡ find n.tasks q
  unfolding made_after
  others_same zero l takes_none q ne f = refl
  others_same (suc k) {m = m} l (takes_more {a = a} {t = u} r could step) q ne f =
      step_now.tasks.others q ne (λ o e g. f (child_start (stack_from P start (stage k).found).base o) (in_back (made_after P start first k) (made_by P start (stage k).found (act_after P start first k)) (made_one P start (stage k).found (act_after P start first k) o e))
      (g ∙ sym (no_creation_path P start (stage k).found o ∙ ap (λ (y : List ℕ). created_now P (with_found (stage k).found t).body ∷ y) path_t)))
      ∙ others_same k (omega (arith, l)) r q ne (λ b h. f b (in_front (made_after P start first k) (made_by P start (stage k).found (act_after P start first k)) h))
    where
      now : u ≡ with_found (stage k).found t
      now = at_same a p u _ could.at_ (own_at k (taken_at k (omega (arith, l)) r))

      step_now : Stepped P a p (with_found (stage k).found t) m
      step_now = subst (λ (x : Task S). Stepped P a p x m) now step

  -- what the acts of the part leave
  pub leaves : {m : State S} → Takes P p n count m → IsTaken P s n p t count m
  leaves {m = m} r =
      let d = taken_at count (omega arith) r in
      let x = (agrees_at count (omega arith) r).size in
      let y = n_agrees.size in
      let w = s_agrees.size in
      record {
        size = x ∙ sym y;
        changed = λ c l e. changed_same count d c (omega (arith, l, y, w)) e;
        kept = λ c l e. kept_same count (omega arith) r c l e;
        own = own_at count d;
        made = λ b h. made_there count (omega arith) r b h;
        others = λ q ne f. others_same count (omega arith) r q ne f;
      }

  -- there is one such state
  one_left : (x y : State S) → IsTaken P s n p t count x → IsTaken P s n p t count y → IsSame x y
  one_left x y a b = record { cells = sym (ext_get_or 0 x.cells y.cells (a.size ∙ sym b.size) (λ c l. same_cell c (omega (arith, l, a.size)) (is_changed P start first count c) refl)); tasks = λ q. by_path q (which_path q p) (among (made_after P start first count) q) }
    where
      same_cell : (c : ℕ) → c < length n.cells → (k : Bool) → is_changed P start first count c ≡ k → slice_index x.cells c ≡ slice_index y.cells c
      same_cell c l true e = a.changed c l e ∙ sym (b.changed c l e)
      same_cell c l false e = a.kept c l e ∙ sym (b.kept c l e)

      by_path : (q : List ℕ) → (q ≡ p) ⊎ (q ≢ p) → ((c : Start S) × IsIn c (made_after P start first count) × (q ≡ c.path)) ⊎ ((c : Start S) → IsIn c (made_after P start first count) → q ≢ c.path) → find y.tasks q ≡ find x.tasks q
      by_path q (inl e) h = subst (λ (r : List ℕ). find y.tasks r ≡ find x.tasks r) (sym e) (b.own ∙ sym a.own)
      by_path q (inr ne) (inl c) = subst (λ (r : List ℕ). find y.tasks r ≡ find x.tasks r) (sym c.2) (b.made c.0 c.1 ∙ sym (a.made c.0 c.1))
      by_path q (inr ne) (inr f) = b.others q ne f ∙ sym (a.others q ne f)

  -- the last act may lead to a state that is the same
  takes_other : (k : ℕ) {x y : State S} → 0 < k → IsSame x y → Takes P p n k x → Takes P p n k y
  takes_other zero l same r = absurd (omega (arith, l))
  takes_other (suc k) l same (takes_more r could step) = takes_more r could (record {
    cells = same.cells ∙ step.cells;
    tasks = record { own = same.tasks _ ∙ step.tasks.own; made = λ o e. same.tasks _ ∙ step.tasks.made o e; others = λ q ne f. same.tasks q ∙ step.tasks.others q ne f };
  })

  pub at_once : (m : State S) → IsTaken P s n p t count m → PartTaken P s alone n p t count m
  at_once m h =
      let r = takes P main cells z set_ run s s_agrees alone n wave p t can free count is count (omega arith) in
      let some = turn_acts P s (record { path = p; acts = count }) (record { task = t; can = can; part = is }) in
      let q = takes_other count some (one_left r.0 m (leaves r.1) h) r.1 in
      let d = taken_at count (omega arith) q in
      record { takes = q; a = d.a; part = d.part; wave = d.wave }

pub part_at_once : (S : Type 0) → PartAtOnce S
part_at_once S P main cells z s n m alone p t count set_ run s_agrees wave can free is h = at_once P main cells z set_ run s s_agrees alone n wave p t can free count is m h
