-- An audit has a reply: whether a task has declared a cell, and whether it has touched it, can be found out of the tasks at the end of a run, and the cells that are
-- declared and not touched can be put in order and joined to runs.
use Rattle.std.proofs.Common.{◌≡◌, ◌≢◌, ℕ, zero, suc, ◌+◌, ◌<◌, ◌≤◌, ◌⊎◌, inl, inr, refl, sym, subst, ap, ◌∙◌, arith, List, [], ◌∷◌, ◌++◌, reverse, Bool, true, false}
use Rattle.std.proofs.lemmas.Bool.Decides.{nat_tests}
use Rattle.oss_syntax.specs.declared.access.Access.{Access}
use Rattle.oss_syntax.specs.declared.access.Op.{Op}
use Rattle.oss_model.specs.Bodies.{Act, Order, Program as Asks, Start, Touches, folded, load, stage_act, store}
use Rattle.oss_model.specs.Bodies.Act.{Awaited, Created, Ended, Fault, Folded, Load, Over, Printed, Releases, Store, Ticked, Waited, WaitedOn}
use Rattle.oss_model.specs.Context.{in_clauses}
use Rattle.oss_model.specs.Machine.{Task, State}
use Rattle.oss_model.specs.Memory.{Event, Happened}
use Rattle.oss_model.specs.Order.{IsBefore, IsIn, IsSuffix, here, longer, same, there, whole, written}
use Rattle.oss_model.specs.Rights.{Touch, in_access}
use Rattle.oss_model.proofs.OrderLemmas.{before_not}
use Rattle.oss_model.proofs.SortLemmas.{reverse_same}
use Rattle.oss_wave_laws.specs.Passes.{IsEarlierPlace, Place}
use Rattle.oss_wave_laws.proofs.DecideLemmas.{Decided, all_tasks, both, by_iff, either, if_not, is_number}
use Rattle.oss_wave_laws.proofs.GatherLemmas.{Gathered, Sorted, gather, never_both, places_compared, places_never, places_through}
use Rattle.oss_wave_laws.proofs.SumLemmas.{in_cases, in_none, listed}
use Rattle.oss_chain_laws.proofs.EventLemmas.{in_left, in_right}
use Rattle.oss_chain_laws.proofs.WaitDecides.{is_suffix, suffix_cases, suffix_none}
use Rattle.oss_audit.specs.Unused.{AreUnused, HasDeclared, HasTouched, IsAhead, IsTold, IsUnused, Rises, Tells}
use Rattle.oss_body.specs.Acting.{acting}
use Rattle.oss_audit.specs.declared.unused.Unused.{Unused}
use Rattle.oss_syntax.specs.declared.tree.program.Program.{Program}
use Rattle.oss_meaning.specs.Meaning.{asks_of}
use Rattle.oss_meaning.specs.Results.{IsOutcomeOf, Outcome}
use Rattle.oss_meaning.specs.Results.IsOutcome.{ends as outcome_ends, fails as outcome_fails}
use Rattle.oss_audit.specs.Lines.{audit_text}
use Rattle.oss_audit.specs.Unused.IsAudited.{ends, fails}
use Rattle.oss_model.specs.declared.answer.Answer.TheVariants as answers
use Rattle.oss_top.specs.Audits.{IsAuditReply}
use Rattle.oss_top.specs.Forms.{told_reply}
use Rattle.oss_top.specs.declared.reply.Reply.{Reply}

-- lists of numbers are one, or are not
heads_one : (a b : ℕ) (xs ys : List ℕ) → a ∷ xs ≡ b ∷ ys → a ≡ b
heads_one a b xs ys e = cc

tails_one : (a b : ℕ) (xs ys : List ℕ) → a ∷ xs ≡ b ∷ ys → xs ≡ ys
tails_one a b xs ys e = cc

is_list : (xs ys : List ℕ) → Decided (xs ≡ ys)
is_list [] [] = inl refl
is_list [] (y ∷ ys) = inr (λ e. cc)
is_list (x ∷ xs) [] = inr (λ e. cc)
is_list (x ∷ xs) (y ∷ ys) = by_iff (λ k i. k.0 i ∷ k.1 i) (λ e. (heads_one x y xs ys e, tails_one x y xs ys e)) (both (is_number x y) (is_list xs ys))

is_yes : (b : Bool) → Decided (b ≡ true)
is_yes true = inl refl
is_yes false = inr (λ e. cc)

-- the places of a path below a cell
row : List ℕ → ℕ → List Place
row p zero = []
row p (suc n) = record { path = p; cell = n } ∷ row p n

in_row : (p : List ℕ) (n c : ℕ) → c < n → IsIn (record { path = p; cell = c }) (row p n)
unfolding row
in_row p zero c l = absurd (omega (arith, l))
in_row p (suc n) c l = go (which c n l) (λ m. in_row p n c m)
  where
    which : (a b : ℕ) → a < suc b → (a ≡ b) ⊎ (a < b)
    which a b m = grind (arith, m)

    go : (c ≡ n) ⊎ (c < n) → (c < n → IsIn (record { path = p; cell = c }) (row p n)) → IsIn (record { path = p; cell = c }) (record { path = p; cell = n } ∷ row p n)
    go (inl e) f = subst (λ (m : ℕ). IsIn (record { path = p; cell = c }) (record { path = p; cell = m } ∷ row p n)) e here
    go (inr m) f = there (f m)

-- cells of clauses lie below the sum of the ends of their ranges
ends_of : List Access → ℕ
ends_of [] = 0
ends_of (a ∷ rest) = a.range.hi + ends_of rest

below_ends : (clauses : List Access) (c : ℕ) → in_clauses clauses c ≡ true → c < ends_of clauses
unfolding ends_of
below_ends [] c e = absurd (cc)
below_ends (a ∷ rest) c e = go (in_access a c) (in_clauses rest c) refl refl e (below_ends rest c)
  where
    inside : in_access a c ≡ true → c < a.range.hi
    inside f = grind (arith, nat_tests)

    go : (x y : Bool) → in_access a c ≡ x → in_clauses rest c ≡ y → in_clauses (a ∷ rest) c ≡ true → (in_clauses rest c ≡ true → c < ends_of rest) → c < a.range.hi + ends_of rest
    go true y f g e k = let l = inside f in omega (arith, l)
    go false true f g e k = let l = k g in omega (arith, l)
    go false false f g e k = absurd (cc)

-- and below the greatest number of cells
below_limit : (clauses : List Access) (c : ℕ) → in_clauses clauses c ≡ true → c < 1048576
below_limit [] c e = absurd (cc)
below_limit (a ∷ rest) c e = go (in_access a c) (in_clauses rest c) refl refl e (below_limit rest c)
  where
    inside : in_access a c ≡ true → c < 1048576
    inside f = let w = a.range.within in grind (arith, nat_tests)

    go : (x y : Bool) → in_access a c ≡ x → in_clauses rest c ≡ y → in_clauses (a ∷ rest) c ≡ true → (in_clauses rest c ≡ true → c < 1048576) → c < 1048576
    go true y f g e k = inside f
    go false true f g e k = k g
    go false false f g e k = absurd (cc)

bound_of : {S : Type 0} → Act S → ℕ
bound_of (Created o included) = ends_of o.clauses
bound_of _ = 0

-- which touch of a cell an act is
TouchOf : {S : Type 0} → Act S → ℕ → Type 0
TouchOf a c = (touch : Touch) × (slot : Bool) × Touches a c touch slot

touched_by_load : {S : Type 0} (d c : ℕ) (touch : Touch) (slot : Bool) → Touches {S = S} (Load d) c touch slot → d ≡ c
touched_by_load d c touch slot load = refl

touched_by_store : {S : Type 0} (d v c : ℕ) (touch : Touch) (slot : Bool) → Touches {S = S} (Store d v) c touch slot → d ≡ c
touched_by_store d v c touch slot store = refl

touched_by_fold : {S : Type 0} (d : ℕ) (op : Op) (v : ℕ) (at : Bool) (c : ℕ) (touch : Touch) (slot : Bool) → Touches {S = S} (Folded d op v at) c touch slot → d ≡ c
touched_by_fold d op v at c touch slot folded = refl

touches_cell : {S : Type 0} (a : Act S) (c : ℕ) → Decided (TouchOf a c)
unfolding TouchOf
touches_cell {S = S} (Load d) c = by_iff (λ e. subst (λ (b : ℕ). TouchOf {S = S} (Load d) b) e (Touch.Reads, false, load)) (λ h. touched_by_load d c h.0 h.1 h.2) (is_number d c)
touches_cell {S = S} (Store d v) c = by_iff (λ e. subst (λ (b : ℕ). TouchOf {S = S} (Store d v) b) e (Touch.Writes, false, store)) (λ h. touched_by_store d v c h.0 h.1 h.2) (is_number d c)
touches_cell {S = S} (Folded d op v slot) c = by_iff (λ e. subst (λ (b : ℕ). TouchOf {S = S} (Folded d op v slot) b) e (Touch.Folds op, slot, folded)) (λ h. touched_by_fold d op v slot c h.0 h.1 h.2) (is_number d c)
touches_cell Ticked c = inr (λ h. elim h.2 [ ])
touches_cell (Created o included) c = inr (λ h. elim h.2 [ ])
touches_cell Awaited c = inr (λ h. elim h.2 [ ])
touches_cell Waited c = inr (λ h. elim h.2 [ ])
touches_cell (WaitedOn named) c = inr (λ h. elim h.2 [ ])
touches_cell (Releases clauses included) c = inr (λ h. elim h.2 [ ])
touches_cell (Printed key text) c = inr (λ h. elim h.2 [ ])
touches_cell Ended c = inr (λ h. elim h.2 [ ])
touches_cell (Fault kind line key) c = inr (λ h. elim h.2 [ ])
touches_cell Over c = inr (λ h. elim h.2 [ ])

-- the order of a creation whose clauses name a cell
NamedBy : {S : Type 0} → Act S → ℕ → Type 0
NamedBy a c = (order : Order _) × (included : Bool) × (a ≡ Created order included) × (in_clauses order.clauses c ≡ true)

not_created : {S : Type 0} (a : Act S) → ((order : Order S) (included : Bool) → a ≢ Created order included) → (c : ℕ) → Decided (NamedBy a c)
unfolding NamedBy
not_created a none c = inr (λ h. none h.0 h.1 h.2)

names_cell : {S : Type 0} (a : Act S) (c : ℕ) → Decided (NamedBy a c)
unfolding NamedBy
names_cell {S = S} (Created o included) c = by_iff (λ e. (o, included, refl, e)) (λ h. only h.0 h.1 h.2 h.3) (is_yes (in_clauses o.clauses c))
  where
    one_order : (order : Order S) (flag : Bool) → Created o included ≡ Created order flag → o ≡ order
    one_order order flag e = cc

    only : (order : Order S) (flag : Bool) → Created o included ≡ Created order flag → in_clauses order.clauses c ≡ true → in_clauses o.clauses c ≡ true
    only order flag e f = subst (λ (x : Order S). in_clauses x.clauses c ≡ true) (sym (one_order order flag e)) f
names_cell Ticked c = not_created Ticked (λ o i e. cc) c
names_cell (Load d) c = not_created (Load d) (λ o i e. cc) c
names_cell (Store d v) c = not_created (Store d v) (λ o i e. cc) c
names_cell (Folded d op v slot) c = not_created (Folded d op v slot) (λ o i e. cc) c
names_cell Awaited c = not_created Awaited (λ o i e. cc) c
names_cell Waited c = not_created Waited (λ o i e. cc) c
names_cell (WaitedOn named) c = not_created (WaitedOn named) (λ o i e. cc) c
names_cell (Releases clauses flag) c = not_created (Releases clauses flag) (λ o i e. cc) c
names_cell (Printed key text) c = not_created (Printed key text) (λ o i e. cc) c
names_cell Ended c = not_created Ended (λ o i e. cc) c
names_cell (Fault kind line key) c = not_created (Fault kind line key) (λ o i e. cc) c
names_cell Over c = not_created Over (λ o i e. cc) c

-- Runs of cells

abbrev place : List ℕ → ℕ → Place
place p c = record { path = p; cell = c }

-- What the runs tell is what stands in the list of places.
record AreRuns (places : List Place) (us : List Unused) : Type 0 where
  pub rises : Rises us
  pub points : (u : Unused) → IsIn u us → (q : List ℕ) × (u.point ≡ written q)
  pub only : (q : List ℕ) (c : ℕ) → IsTold us q c → IsIn (place q c) places
  pub all : (q : List ℕ) (c : ℕ) → IsIn (place q c) places → IsTold us q c

one_cell : List ℕ → (c : ℕ) → c < 1048576 → Unused
one_cell p c small = record { point = written p; range = record { lo = c; hi = suc c; ordered = omega arith; within = omega (arith, small) } }

from_here : List ℕ → (c : ℕ) (u : Unused) → u.range.lo ≡ suc c → Unused
from_here p c u next = record { point = written p; range = record { lo = c; hi = u.range.hi; ordered = earlier u.range.ordered; within = u.range.within } }
  where
    earlier : u.range.lo < u.range.hi → c < u.range.hi
    earlier l = omega (arith, l, next)

one_written : (p q : List ℕ) → written p ≡ written q → p ≡ q
one_written p q e = reverse_same p q (tails_one 0 0 (reverse p) (reverse q) e)

one_cell_of : (p q : List ℕ) (c d : ℕ) → place p c ≡ place q d → (p ≡ q) × (c ≡ d)
one_cell_of p q c d e = (ap (λ (a : Place). a.path) e, ap (λ (a : Place). a.cell) e)

module _ (p : List ℕ) (c : ℕ) (places : List Place) (ahead : (b : Place) → IsIn b places → IsEarlierPlace (place p c) b) (small : c < 1048576) where
  -- the first cell of a run is a place behind
  first_cell : (us : List Unused) → AreRuns places us → (u : Unused) → IsIn u us → (q : List ℕ) × (u.point ≡ written q) × IsEarlierPlace (place p c) (place q u.range.lo)
  first_cell us r u i =
      let q = r.points u i in
      let l = u.range.ordered in
      (q.0, q.1, ahead (place q.0 u.range.lo) (r.only q.0 u.range.lo (record { item = u; listed = i; tells = record { point = q.1; from = omega arith; to = l } })))

  told_by_first : (u : Unused) (us : List Unused) (q : List ℕ) (d : ℕ) → Tells u q d → IsTold (u ∷ us) q d
  told_by_first u us q d t = record { item = u; listed = here; tells = t }

  told_behind : (u : Unused) (us : List Unused) (q : List ℕ) (d : ℕ) → IsTold us q d → IsTold (u ∷ us) q d
  told_behind u us q d t = record { item = t.item; listed = there t.listed; tells = t.tells }

  -- a run of one cell in front, where no run behind it goes on with the next cell of the task
  module _ (us : List Unused) (r : AreRuns places us) (apart : (v : Unused) → IsIn v us → v.point ≡ written p → suc c < v.range.lo) where
    ahead_of : (v : Unused) → IsIn v us → IsAhead (one_cell p c small) v
    unfolding one_cell
    ahead_of v i = let f = first_cell us r v i in go f.0 f.1 f.2
      where
        go : (q : List ℕ) → v.point ≡ written q → IsEarlierPlace (place p c) (place q v.range.lo) → IsAhead (one_cell p c small) v
        go q e (inl h) = inl (subst (λ (xs : List ℕ). IsBefore (written p) xs) (sym e) (same h))
        go q e (inr h) = let f : v.point ≡ written p = e ∙ ap written (sym h.0) in inr (sym f, apart v i f)

    alone_in_front : AreRuns (place p c ∷ places) (one_cell p c small ∷ us)
    unfolding one_cell
    alone_in_front = record {
      rises = (ahead_of, r.rises);
      points = λ u i. point_of u (in_cases i);
      only = λ q d t. only_of q d t.item (in_cases t.listed) t.tells;
      all = λ q d i. all_of q d (in_cases i);
    }
      where
        point_of : (u : Unused) → (u ≡ one_cell p c small) ⊎ IsIn u us → (q : List ℕ) × (u.point ≡ written q)
        point_of u (inl e) = (p, ap (λ (x : Unused). x.point) e)
        point_of u (inr i) = r.points u i

        only_here : (q : List ℕ) (d : ℕ) → Tells (one_cell p c small) q d → IsIn (place q d) (place p c ∷ places)
        only_here q d t =
            let e = one_written p q t.point in
            let lo = t.from in
            let hi = t.to in
            let f : c ≡ d = omega (arith, lo, hi) in
            subst (λ (a : Place). IsIn a (place p c ∷ places)) (λ i. record { path = e i; cell = f i }) here

        only_of : (q : List ℕ) (d : ℕ) (u : Unused) → (u ≡ one_cell p c small) ⊎ IsIn u us → Tells u q d → IsIn (place q d) (place p c ∷ places)
        only_of q d u (inl e) t = only_here q d (subst (λ (x : Unused). Tells x q d) e t)
        only_of q d u (inr i) t = there (r.only q d (record { item = u; listed = i; tells = t }))

        all_of : (q : List ℕ) (d : ℕ) → (place q d ≡ place p c) ⊎ IsIn (place q d) places → IsTold (one_cell p c small ∷ us) q d
        all_of q d (inl e) =
            let f = one_cell_of q p d c e in
            let g = f.1 in
            told_by_first (one_cell p c small) us q d (record { point = ap written (sym f.0); from = omega (arith, g); to = omega (arith, g) })
        all_of q d (inr i) = told_behind (one_cell p c small) us q d (r.all q d i)

  -- a run that begins one cell earlier
  module _ (u : Unused) (us : List Unused) (r : AreRuns places (u ∷ us)) (point : u.point ≡ written p) (next : u.range.lo ≡ suc c) where
    ahead_still : (v : Unused) → IsIn v us → IsAhead (from_here p c u next) v
    unfolding from_here
    ahead_still v i = go (r.rises.0 v i)
      where
        go : IsAhead u v → IsAhead (from_here p c u next) v
        go (inl h) = inl (subst (λ (xs : List ℕ). IsBefore xs v.point) point h)
        go (inr h) = inr (sym point ∙ h.0, h.1)

    longer_in_front : AreRuns (place p c ∷ places) (from_here p c u next ∷ us)
    unfolding from_here
    longer_in_front = record {
      rises = (ahead_still, r.rises.1);
      points = λ v i. point_of v (in_cases i);
      only = λ q d t. only_of q d t.item (in_cases t.listed) t.tells;
      all = λ q d i. all_of q d (in_cases i);
    }
      where
        point_of : (v : Unused) → (v ≡ from_here p c u next) ⊎ IsIn v us → (q : List ℕ) × (v.point ≡ written q)
        point_of v (inl e) = (p, ap (λ (x : Unused). x.point) e)
        point_of v (inr i) = r.points v (there i)

        which : (d : ℕ) → c ≤ d → (d ≡ c) ⊎ (suc c ≤ d)
        which d l = grind (arith, l)

        only_here : (q : List ℕ) (d : ℕ) → Tells (from_here p c u next) q d → (d ≡ c) ⊎ (suc c ≤ d) → IsIn (place q d) (place p c ∷ places)
        only_here q d t (inl f) =
            let e = one_written p q t.point in
            subst (λ (a : Place). IsIn a (place p c ∷ places)) (λ i. record { path = e i; cell = sym f i }) here
        only_here q d t (inr l) =
            let hi = t.to in
            there (r.only q d (record { item = u; listed = here; tells = record { point = point ∙ t.point; from = omega (arith, l, next); to = hi } }))

        only_of : (q : List ℕ) (d : ℕ) (v : Unused) → (v ≡ from_here p c u next) ⊎ IsIn v us → Tells v q d → IsIn (place q d) (place p c ∷ places)
        only_of q d v (inl e) t = let k = subst (λ (x : Unused). Tells x q d) e t in only_here q d k (which d k.from)
        only_of q d v (inr i) t = there (r.only q d (record { item = v; listed = there i; tells = t }))

        told_still : (q : List ℕ) (d : ℕ) (v : Unused) → (v ≡ u) ⊎ IsIn v us → Tells v q d → IsTold (from_here p c u next ∷ us) q d
        told_still q d v (inl e) t =
            let k = subst (λ (x : Unused). Tells x q d) e t in
            let lo = k.from in
            told_by_first (from_here p c u next) us q d (record { point = sym point ∙ k.point; from = omega (arith, lo, next); to = k.to })
        told_still q d v (inr i) t = told_behind (from_here p c u next) us q d (record { item = v; listed = i; tells = t })

        all_of : (q : List ℕ) (d : ℕ) → (place q d ≡ place p c) ⊎ IsIn (place q d) places → IsTold (from_here p c u next ∷ us) q d
        all_of q d (inl e) =
            let f = one_cell_of q p d c e in
            let g = f.1 in
            let l = u.range.ordered in
            told_by_first (from_here p c u next) us q d (record { point = ap written (sym f.0); from = omega (arith, g); to = omega (arith, g, l, next) })
        all_of q d (inr i) = let t = r.all q d i in told_still q d t.item (in_cases t.listed) t.tells

  -- one of the two
  with_place : (us : List Unused) → AreRuns places us → (vs : List Unused) × AreRuns (place p c ∷ places) vs
  with_place [] r = (one_cell p c small ∷ [], alone_in_front [] r (λ v i e. absurd (in_none i)))
  with_place (u ∷ us) r = go (both (is_list u.point (written p)) (is_number u.range.lo (suc c)))
    where
      -- a run of the task behind the first one begins later
      later_runs : ((u.point ≡ written p) × (u.range.lo ≡ suc c) → ⊥) → (v : Unused) (i : (v ≡ u) ⊎ IsIn v us) → v.point ≡ written p → suc c < v.range.lo
      later_runs none v (inl e) f =
          let g : u.point ≡ written p = ap (λ (x : Unused). x.point) (sym e) ∙ f in
          let k = first_cell (u ∷ us) r u here in
          let l = behind_here k.0 (sym k.1 ∙ g) k.2 in
          let m : v.range.lo ≡ u.range.lo = ap (λ (x : Unused). x.range.lo) e in
          next_but_one l (λ h. none (g, h)) m
        where
          behind_here : (q : List ℕ) → written q ≡ written p → IsEarlierPlace (place p c) (place q u.range.lo) → c < u.range.lo
          behind_here q e (inl h) = absurd (before_not h (ap reverse (sym (one_written q p e))))
          behind_here q e (inr h) = h.1

          next_but_one : c < u.range.lo → u.range.lo ≢ suc c → v.range.lo ≡ u.range.lo → suc c < v.range.lo
          next_but_one l n m = grind (arith, l, n, m)
      later_runs none v (inr i) f = by_ahead (r.rises.0 v i)
        where
          by_point : (q : List ℕ) → u.point ≡ written q → IsEarlierPlace (place p c) (place q u.range.lo) → IsBefore u.point v.point → ⊥
          by_point q e (inl h) b =
              let k : IsBefore (written q) (written p) = subst (λ (xs : List ℕ). IsBefore xs (written p)) e (subst (λ (ys : List ℕ). IsBefore u.point ys) f b) in
              never_both (written p) (written q) (same h) k
          by_point q e (inr h) b =
              let k : IsBefore (written p) (written p) = subst (λ (xs : List ℕ). IsBefore xs (written p)) (e ∙ ap written (sym h.0)) (subst (λ (ys : List ℕ). IsBefore u.point ys) f b) in
              before_not k refl

          by_ahead : IsAhead u v → suc c < v.range.lo
          by_ahead (inl b) = let k = first_cell (u ∷ us) r u here in absurd (by_point k.0 k.1 k.2 b)
          by_ahead (inr h) =
              let k = first_cell (u ∷ us) r u here in
              let l = u.range.ordered in
              let m = h.1 in
              let n = behind_here k.0 (sym k.1 ∙ h.0 ∙ f) k.2 in
              omega (arith, l, m, n)
            where
              behind_here : (q : List ℕ) → written q ≡ written p → IsEarlierPlace (place p c) (place q u.range.lo) → c < u.range.lo
              behind_here q e (inl h) = absurd (before_not h (ap reverse (sym (one_written q p e))))
              behind_here q e (inr h) = h.1

      go : Decided ((u.point ≡ written p) × (u.range.lo ≡ suc c)) → (vs : List Unused) × AreRuns (place p c ∷ places) vs
      go (inl k) = (from_here p c u k.1 ∷ us, longer_in_front u us r k.0 k.1)
      go (inr none) = (one_cell p c small ∷ u ∷ us, alone_in_front (u ∷ us) r (λ v i f. later_runs none v (in_cases i) f))

runs_of : (places : List Place) → Sorted IsEarlierPlace places_never places → ((a : Place) → IsIn a places → a.cell < 1048576) → (us : List Unused) × AreRuns places us
runs_of [] s f = ([], record { rises = tt; points = λ u i. absurd (in_none i); only = λ q c t. absurd (in_none t.listed); all = λ q c i. absurd (in_none i) })
runs_of (a ∷ places) s f = let r = runs_of places s.1 (λ b i. f b (there i)) in with_place a.path a.cell places s.0 (f a here) r.0 r.1

-- What a state tells

module _ {S : Type 0} (P : Asks S) where
  -- a claim of one of the acts of a body
  SomeAct : Start S → List ℕ → (List ℕ → Type 0) → Type 0
  SomeAct b found F = (answer : ℕ) × (past : List ℕ) × IsSuffix (answer ∷ past) found × F past

  some_act : (b : Start S) (found : List ℕ) (F : List ℕ → Type 0) → ((past : List ℕ) → Decided (F past)) → Decided (SomeAct b found F)
  unfolding SomeAct
  some_act b [] F d = inr (λ h. no_act h.0 h.1 h.2)
    where
      no_act : (answer : ℕ) (past : List ℕ) → IsSuffix (answer ∷ past) [] → ⊥
      no_act answer past h = let e = suffix_none (answer ∷ past) h in cc
  some_act b (v ∷ vs) F d = by_iff forth back (either (d vs) (some_act b vs F d))
    where
      forth : F vs ⊎ SomeAct b vs F → SomeAct b (v ∷ vs) F
      forth (inl f) = (v, vs, whole, f)
      forth (inr h) = (h.0, h.1, longer h.2, h.3)

      by_suffix : (answer : ℕ) (past : List ℕ) → (answer ∷ past ≡ v ∷ vs) ⊎ IsSuffix (answer ∷ past) vs → F past → F vs ⊎ SomeAct b vs F
      by_suffix answer past (inl e) f = inl (subst F (tails_one answer v past vs e) f)
      by_suffix answer past (inr h) f = inr (answer, past, h, f)

      back : SomeAct b (v ∷ vs) F → F vs ⊎ SomeAct b vs F
      back h = by_suffix h.0 h.1 (suffix_cases (h.0 ∷ h.1) vs v h.2) h.3

  module _ (s : State S) where
    -- a claim of one of the acts that are done
    SomeDone : (Start S → List ℕ → Type 0) → List (Task S) → Type 0
    SomeDone F ts = (t : Task S) × IsIn t ts × SomeAct t.body.start t.body.found (F t.body.start)

    some_done : (F : Start S → List ℕ → Type 0) → ((b : Start S) (past : List ℕ) → Decided (F b past)) → (ts : List (Task S)) → Decided (SomeDone F ts)
    unfolding SomeDone
    some_done F d [] = inr (λ h. in_none h.1)
    some_done F d (u ∷ ts) = by_iff forth (λ h. back h.0 (in_cases h.1) h.2) (either (some_act u.body.start u.body.found (F u.body.start) (d u.body.start)) (some_done F d ts))
      where
        forth : SomeAct u.body.start u.body.found (F u.body.start) ⊎ SomeDone F ts → SomeDone F (u ∷ ts)
        forth (inl h) = (u, here, h)
        forth (inr h) = (h.0, there h.1, h.2)

        back : (t : Task S) → (t ≡ u) ⊎ IsIn t ts → SomeAct t.body.start t.body.found (F t.body.start) → SomeAct u.body.start u.body.found (F u.body.start) ⊎ SomeDone F ts
        back t (inl e) h = inl (subst (λ (x : Task S). SomeAct x.body.start x.body.found (F x.body.start)) e h)
        back t (inr i) h = inr (t, i, h)

    -- an event that has happened is an act of a task of the state, and the other way round
    event_of : (t : Task S) → IsIn t (all_tasks P s) → (answer : ℕ) (past : List ℕ) → IsSuffix (answer ∷ past) t.body.found → Happened s (record { start = t.body.start; past = past; answer = answer })
    event_of t i answer past h = record { task = t; at_ = (listed s).only t i; start = refl; found = h }

    done_of : (F : Start S → List ℕ → Type 0) (e : Event S) → Happened s e → F e.start e.past → SomeDone F (all_tasks P s)
    unfolding SomeDone SomeAct
    done_of F e h f =
        (h.task, (listed s).all e.start.path h.task h.at_, (e.answer, e.past, h.found, subst (λ (b : Start S). F b e.past) (sym h.start) f))

    TouchedBy : List ℕ → ℕ → Start S → List ℕ → Type 0
    TouchedBy q c b past = TouchOf (stage_act P b past) c × IsSuffix q (acting P b past).path

    is_touched : (q : List ℕ) (c : ℕ) → Decided (HasTouched P s q c)
    unfolding SomeDone SomeAct TouchedBy TouchOf
    is_touched q c =
        by_iff (λ h. record { event = record { start = h.0.body.start; past = h.2.1; answer = h.2.0 }; happened = event_of h.0 h.1 h.2.0 h.2.1 h.2.2; touch = h.2.3.0.0; slot = h.2.3.0.1; touches = h.2.3.0.2; below = h.2.3.1 })
        (λ t. done_of (TouchedBy q c) t.event t.happened ((t.touch, t.slot, t.touches), t.below))
        (some_done (TouchedBy q c) (λ b past. both (touches_cell (stage_act P b past) c) (is_suffix q (acting P b past).path)) (all_tasks P s))

    -- the path of a task that is created next
    abbrev made_path : Start S → List ℕ → List ℕ
    made_path b past = (acting P b past).context.created ∷ (acting P b past).path

    DeclaredBy : List ℕ → ℕ → Start S → List ℕ → Type 0
    DeclaredBy q c b past = NamedBy (stage_act P b past) c × (q ≡ made_path b past)

    is_declared : (q : List ℕ) (c : ℕ) → Decided (HasDeclared P s q c)
    unfolding SomeDone SomeAct DeclaredBy NamedBy
    is_declared q c =
        by_iff (λ h. record { event = record { start = h.0.body.start; past = h.2.1; answer = h.2.0 }; happened = event_of h.0 h.1 h.2.0 h.2.1 h.2.2; order = h.2.3.0.0; included = h.2.3.0.1; creates = h.2.3.0.2; path = h.2.3.1; named = h.2.3.0.3 })
        (λ t. done_of (DeclaredBy q c) t.event t.happened ((t.order, t.included, t.creates, t.named), t.path))
        (some_done (DeclaredBy q c) (λ b past. both (names_cell (stage_act P b past) c) (is_list q (made_path b past))) (all_tasks P s))

    is_unused : (q : List ℕ) (c : ℕ) → Decided (IsUnused P s q c)
    is_unused q c = by_iff (λ h. record { declared = h.0; untouched = h.1 }) (λ u. (u.declared, u.untouched)) (both (is_declared q c) (if_not (is_touched q c)))

    -- where unused cells may be
    places_behind : Start S → List ℕ → List Place
    places_behind b [] = []
    places_behind b (v ∷ vs) = row (made_path b vs) (bound_of (stage_act P b vs)) ++ places_behind b vs

    places_in : List (Task S) → List Place
    places_in [] = []
    places_in (t ∷ ts) = places_behind t.body.start t.body.found ++ places_in ts

    in_behind : (b : Start S) (found past : List ℕ) (answer c : ℕ) → IsSuffix (answer ∷ past) found → c < bound_of (stage_act P b past) → IsIn (place (made_path b past) c) (places_behind b found)
    unfolding places_behind
    in_behind b [] past answer c h l = let e = suffix_none (answer ∷ past) h in absurd (cc)
    in_behind b (v ∷ vs) past answer c h l = go (suffix_cases (answer ∷ past) vs v h) (λ k. in_behind b vs past answer c k l)
      where
        go : (answer ∷ past ≡ v ∷ vs) ⊎ IsSuffix (answer ∷ past) vs → (IsSuffix (answer ∷ past) vs → IsIn (place (made_path b past) c) (places_behind b vs)) → IsIn (place (made_path b past) c) (row (made_path b vs) (bound_of (stage_act P b vs)) ++ places_behind b vs)
        go (inl e) f =
            let i = in_left (row (made_path b past) (bound_of (stage_act P b past))) (places_behind b vs) (in_row (made_path b past) (bound_of (stage_act P b past)) c l) in
            subst (λ (xs : List ℕ). IsIn (place (made_path b past) c) (row (made_path b xs) (bound_of (stage_act P b xs)) ++ places_behind b vs)) (tails_one answer v past vs e) i
        go (inr k) f = in_right (row (made_path b vs) (bound_of (stage_act P b vs))) (places_behind b vs) (f k)

    in_places : (ts : List (Task S)) (t : Task S) (past : List ℕ) (answer c : ℕ) → IsIn t ts → IsSuffix (answer ∷ past) t.body.found → c < bound_of (stage_act P t.body.start past)
        → IsIn (place (made_path t.body.start past) c) (places_in ts)
    unfolding places_in
    in_places [] t past answer c i h l = absurd (in_none i)
    in_places (u ∷ ts) t past answer c here h l = in_left (places_behind t.body.start t.body.found) (places_in ts) (in_behind t.body.start t.body.found past answer c h l)
    in_places (u ∷ ts) t past answer c (there i) h l = in_right (places_behind u.body.start u.body.found) (places_in ts) (in_places ts t past answer c i h l)

    below_bound : (a : Act S) (order : Order S) (included : Bool) (c : ℕ) → a ≡ Created order included → in_clauses order.clauses c ≡ true → c < bound_of a
    unfolding bound_of
    below_bound a order included c e named = subst (λ (x : Act S). c < bound_of x) (sym e) (below_ends order.clauses c named)

    declared_place : (q : List ℕ) (c : ℕ) → HasDeclared P s q c → IsIn (place q c) (places_in (all_tasks P s))
    declared_place q c d =
        let t = d.happened.task in
        let h : (t.body.start ≡ d.event.start) = d.happened.start in
        let l = below_bound (stage_act P d.event.start d.event.past) d.order d.included c d.creates d.named in
        let i = in_places (all_tasks P s) t d.event.past d.event.answer c ((listed s).all d.event.start.path t d.happened.at_) d.happened.found (subst (λ (b : Start S). c < bound_of (stage_act P b d.event.past)) (sym h) l) in
        subst (λ (p : List ℕ). IsIn (place p c) (places_in (all_tasks P s))) (ap (λ (b : Start S). made_path b d.event.past) h ∙ sym d.path) i

    abbrev IsUnusedPlace : Place → Type 0
    IsUnusedPlace a = IsUnused P s a.path a.cell

    choose : (a : Place) → Unit {0} → ((b : Place) × IsUnusedPlace b × (b ≡ a)) ⊎ (IsUnusedPlace a → ⊥)
    choose a x = go (is_unused a.path a.cell)
      where
        go : Decided (IsUnusedPlace a) → ((b : Place) × IsUnusedPlace b × (b ≡ a)) ⊎ (IsUnusedPlace a → ⊥)
        go (inl u) = inl (a, u, refl)
        go (inr none) = inr none

    -- the unused cells, as runs
    pub some_unused : (us : List Unused) × AreUnused P s us
    some_unused = (r.0, record { rises = r.1.rises; points = r.1.points; some = λ u i. u.range.ordered; only = λ q c t. g.only (place q c) (r.1.only q c t); all = λ q c u. r.1.all q c (listed_place q c u (g.all (place q c) (declared_place q c u.declared))) })
      where
        g : Gathered IsEarlierPlace places_never IsUnusedPlace (λ a b x y. places_compared a b) places_through (λ (a : Place). Unit {0}) (λ (a : Place). IsUnusedPlace a → ⊥) (λ a b. b ≡ a) choose (places_in (all_tasks P s))
        g = gather IsEarlierPlace places_never IsUnusedPlace (λ a b x y. places_compared a b) places_through (λ (a : Place). Unit {0}) (λ (a : Place). IsUnusedPlace a → ⊥) (λ a b. b ≡ a) choose (places_in (all_tasks P s)) (λ a h. tt)

        r : (us : List Unused) × AreRuns g.list us
        r = runs_of g.list g.sorted (λ a i. let d = (g.only a i).declared in below_limit d.order.clauses a.cell d.named)

        listed_place : (q : List ℕ) (c : ℕ) → IsUnused P s q c → ((b : Place) × IsIn b g.list × (b ≡ place q c)) ⊎ (IsUnusedPlace (place q c) → ⊥) → IsIn (place q c) g.list
        listed_place q c u (inl b) = subst (λ (x : Place). IsIn x g.list) b.2 b.1
        listed_place q c u (inr none) = absurd (none u)

-- so an audit has a reply
pub audit_reply : (fuel : ℕ) (p : Program) → (o : Outcome) × IsOutcomeOf p.items fuel o → (reply : Reply) × IsAuditReply fuel p reply
audit_reply fuel p (o, outcome_ends {z = z} run end over) =
    let us = some_unused (asks_of p.items) z.state in (
      told_reply (audit_text us.0) (answers.Done z.printed z.state.cells),
      record {
        answer = answers.Done z.printed z.state.cells;
        text = audit_text us.0;
        audited = record { unused = us.0; audited = ends run end over us.1; text_is = refl };
        is_reply = refl;
      },
    )
audit_reply fuel p (o, outcome_fails {z = z} {kind = kind} {line = line} run end at) = (
  told_reply (audit_text []) (answers.Fault kind line z.printed),
  record {
    answer = answers.Fault kind line z.printed;
    text = audit_text [];
    audited = record { unused = []; audited = fails (outcome_fails run end at) refl; text_is = refl };
    is_reply = refl;
  },
)
