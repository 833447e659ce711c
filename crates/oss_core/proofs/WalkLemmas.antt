-- A pass is put together place by place: what was visited up to a place, and what is left from there on.
use Rattle.std.proofs.Common.{◌≡◌, ℕ, zero, suc, ◌+◌, ◌<◌, ◌⊎◌, inl, inr, refl, sym, subst, ap, ◌∙◌, arith, List, [], ◌∷◌, ◌++◌, append_assoc, reverse, false, true}
use Rattle.oss_syntax.specs.declared.access.Mode.TheVariants.{Fold}
use Rattle.oss_syntax.specs.declared.access.Op.{Op}
use Rattle.oss_model.specs.Order.{IsIn, here, there}
use Rattle.oss_model.specs.Rights.{Holds}
use Rattle.oss_model.specs.Context.{right_of}
use Rattle.oss_model.specs.Bodies.{Program}
use Rattle.oss_model.specs.Machine.{Task, State, At, Owes}
use Rattle.oss_model.specs.Moves.{CanJoin, CanLet, GaveUp, after_giving}
use Rattle.oss_model.proofs.MoveLemmas.{which_path}
use Rattle.oss_model.proofs.OrderLemmas.{before_not}
use Rattle.oss_wave_laws.specs.Passes.{Place, IsEarlierPlace, IsPlace, AreSorted, ArePlaces, GivenUp, IsKept, Visits, IsPass, visits_none, keeps, gives, merges}
use Rattle.oss_wave_laws.proofs.GatherLemmas.{never_both, places_never, places_compared, places_through}
use Rattle.oss_wave_laws.proofs.SumLemmas.{in_cases, in_none}
use Rattle.oss_core.proofs.KeepLemmas.{some_is}

-- the cell of a task as a place
abbrev pub place : List ℕ → ℕ → Place
place p c = record { path = p; cell = c }

-- so many cells of a task from one on
abbrev pub row : List ℕ → ℕ → ℕ → List Place
row p lo zero = []
row p lo (suc n) = place p lo ∷ row p (suc lo) n

-- the cell behind
abbrev pub next : Place → Place
next a = record { path = a.path; cell = suc a.cell }

in_back : {A : Type 0} {x : A} (xs ys : List A) → IsIn x ys → IsIn x (xs ++ ys)
in_back [] ys h = h
in_back (y ∷ xs) ys h = there (in_back xs ys h)

in_either : {A : Type 0} {x : A} (xs ys : List A) → IsIn x (xs ++ ys) → IsIn x xs ⊎ IsIn x ys
in_either [] ys h = inr h
in_either {x = x} (y ∷ xs) ys h = go (in_cases h) (λ k. in_either xs ys k)
  where
    go : (x ≡ y) ⊎ IsIn x (xs ++ ys) → (IsIn x (xs ++ ys) → IsIn x xs ⊎ IsIn x ys) → IsIn x (y ∷ xs) ⊎ IsIn x ys
    go (inl e) f = inl (subst (λ z. IsIn z (y ∷ xs)) (sym e) here)
    go (inr k) f = pick (f k)
      where
        pick : IsIn x xs ⊎ IsIn x ys → IsIn x (y ∷ xs) ⊎ IsIn x ys
        pick (inl i) = inl (there i)
        pick (inr i) = inr i

in_last : {A : Type 0} {x : A} (xs : List A) (y : A) → IsIn x (xs ++ y ∷ []) → IsIn x xs ⊎ (x ≡ y)
in_last {x = x} xs y h = go (in_either xs (y ∷ []) h)
  where
    end : (x ≡ y) ⊎ IsIn x [] → IsIn x xs ⊎ (x ≡ y)
    end (inl e) = inr e
    end (inr k) = absurd (in_none k)

    go : IsIn x xs ⊎ IsIn x (y ∷ []) → IsIn x xs ⊎ (x ≡ y)
    go (inl k) = inl k
    go (inr k) = end (in_cases k)

sorted_back : (xs ys : List Place) → AreSorted (xs ++ ys) → AreSorted ys
sorted_back [] ys h = h
sorted_back (x ∷ xs) ys h = sorted_back xs ys h.1

pub with_none : {A : Type 0} (xs : List A) → xs ++ [] ≡ xs
with_none [] = refl
with_none (x ∷ xs) = ap (λ ys. x ∷ ys) (with_none xs)

-- visits one after the other
pub visits_append : {S : Type 0} {P : Program S} {s m n : State S} {front more : List Place} {done later : List GivenUp} → Visits P s front done m → Visits P m more later n → Visits P s (front ++ more) (done ++ later) n
visits_append visits_none v = v
visits_append (keeps k u) v = keeps k (visits_append u v)
visits_append (gives can go u) v = gives can go (visits_append u v)
visits_append (merges can go u) v = merges can go (visits_append u v)

-- places at which nothing may be given up or joined
pub visits_kept : {S : Type 0} (P : Program S) (s : State S) (places : List Place) → ((a : Place) → IsIn a places → IsKept P s a) → Visits P s places [] s
visits_kept P s [] f = visits_none
visits_kept P s (a ∷ rest) f = keeps (f a here) (visits_kept P s rest (λ b h. f b (there h)))

-- where nothing was given up the state is the same
pub visits_idle : {S : Type 0} (P : Program S) (places : List Place) {s n : State S} → Visits P s places [] n → n ≡ s
visits_idle P [] visits_none = refl
visits_idle P (a ∷ rest) (keeps k v) = visits_idle P rest v

-- all of these cells are below some number
pub cells_below : (places : List Place) → (m : ℕ) × ((a : Place) → IsIn a places → a.cell < m)
cells_below [] = (0, λ a h. absurd (in_none h))
cells_below (x ∷ xs) = go (cells_below xs)
  where
    go : (m : ℕ) × ((a : Place) → IsIn a xs → a.cell < m) → (m : ℕ) × ((a : Place) → IsIn a (x ∷ xs) → a.cell < m)
    go b = (b.0 + suc x.cell, λ a h. pick a (in_cases h))
      where
        pick : (a : Place) → (a ≡ x) ⊎ IsIn a xs → a.cell < b.0 + suc x.cell
        pick a (inl e) = let f : a.cell ≡ x.cell = ap (λ (z : Place). z.cell) e in omega (arith, f)
        pick a (inr k) = let l = b.1 a k in omega (arith, l)

-- a place comes before the one behind it
pub next_later : (a : Place) → IsEarlierPlace a (next a)
next_later a = inr (refl, omega arith)

-- no place comes before itself
pub not_itself : (a : Place) → IsEarlierPlace a a → ⊥
not_itself a h = places_never a a h h

-- what comes behind a place does not come before the one behind it
pub none_between : (a b : Place) → IsEarlierPlace a b → IsEarlierPlace b (next a) → ⊥
none_between a b (inl h) (inl k) = never_both (reverse a.path) (reverse b.path) h k
none_between a b (inl h) (inr k) = before_not h (ap reverse (sym k.0))
none_between a b (inr h) (inl k) = before_not k (ap reverse (sym h.0))
none_between a b (inr h) (inr k) = let x = h.1 in let y = k.1 in omega (arith, x, y)

-- so what comes before the place behind it, and not before the place, is the place
pub it_is : (a b : Place) → (IsEarlierPlace b a → ⊥) → IsEarlierPlace b (next a) → b ≡ a
it_is a b f l = go (places_compared b a)
  where
    go : IsEarlierPlace b a ⊎ (b ≡ a) ⊎ IsEarlierPlace a b → b ≡ a
    go (inl h) = absurd (f h)
    go (inr (inl e)) = e
    go (inr (inr h)) = absurd (none_between a b h l)

module _ {S : Type 0} (P : Program S) (s : State S) (places : List Place) (are : ArePlaces s places) where
  -- each task of the state is one of the beginning, with the same start
  abbrev pub HaveStarts : State S → Type 0
  HaveStarts n = (p : List ℕ) (t : Task S) → At n p t → (u : Task S) × At s p u × (u.body.start ≡ t.body.start)

  -- the places before one were visited
  pub record Walk (to : Place) (told : List GivenUp) (n : State S) : Type 0 where
    pub front : List Place
    pub rest : List Place
    pub whole : places ≡ front ++ rest
    pub before : (a : Place) → IsIn a front → IsEarlierPlace a to
    pub behind : (a : Place) → IsIn a rest → IsEarlierPlace a to → ⊥
    pub visits : Visits P s front told n
    pub starts : HaveStarts n

  in_places : (front rest : List Place) → places ≡ front ++ rest → (a : Place) → IsIn a rest → IsIn a places
  in_places front rest e a h = subst (λ (ps : List Place). IsIn a ps) (sym e) (in_back front rest h)

  sorted_rest : (front rest : List Place) → places ≡ front ++ rest → AreSorted rest
  sorted_rest front rest e = sorted_back front rest (subst AreSorted e are.sorted)

  -- where no place comes before this one nothing was visited yet
  pub walk_begins : (to : Place) → ((a : Place) → IsPlace s a → IsEarlierPlace a to → ⊥) → Walk to [] s
  walk_begins to none = record {
    front = [];
    rest = places;
    whole = refl;
    before = λ a h. absurd (in_none h);
    behind = λ a h l. none a (are.only a h) l;
    visits = visits_none;
    starts = λ p t h. (t, h, refl);
  }

  -- past places that are kept
  pub walk_past : {from to : Place} {told : List GivenUp} {n : State S} → Walk from told n → ((a : Place) → IsEarlierPlace a from → IsEarlierPlace a to) → ((a : Place) → IsPlace s a → (IsEarlierPlace a from → ⊥) → IsEarlierPlace a to → IsKept P n a) → Walk to told n
  walk_past {from = from} {to = to} {told = told} {n = n} w up kept = go w.rest w.front w.whole (λ a h. up a (w.before a h)) w.behind w.visits
    where
      go : (rest front : List Place) → places ≡ front ++ rest → ((a : Place) → IsIn a front → IsEarlierPlace a to) → ((a : Place) → IsIn a rest → IsEarlierPlace a from → ⊥) → Visits P s front told n → Walk to told n
      go [] front whole before behind v = record { front = front; rest = []; whole = whole; before = before; behind = λ a h l. in_none h; visits = v; starts = w.starts }
      go (x ∷ rest) front whole before behind v = by (places_compared x to) (λ wh bf vs. go rest (front ++ x ∷ []) wh bf (λ a h. behind a (there h)) vs)
        where
          stop : (IsEarlierPlace x to → ⊥) → Walk to told n
          stop f = record { front = front; rest = x ∷ rest; whole = whole; before = before; behind = λ a h l. later a l (in_cases h); visits = v; starts = w.starts }
            where
              later : (a : Place) → IsEarlierPlace a to → (a ≡ x) ⊎ IsIn a rest → ⊥
              later a l (inl e) = f (subst (λ (z : Place). IsEarlierPlace z to) e l)
              later a l (inr h) = f (places_through x a to ((sorted_rest front (x ∷ rest) whole).0 a h) l)

          by : IsEarlierPlace x to ⊎ (x ≡ to) ⊎ IsEarlierPlace to x
              → (places ≡ (front ++ x ∷ []) ++ rest → ((a : Place) → IsIn a (front ++ x ∷ []) → IsEarlierPlace a to) → Visits P s (front ++ x ∷ []) told n → Walk to told n) → Walk to told n
          by (inl l) again = again
              (whole ∙ sym (append_assoc front (x ∷ []) rest))
              (λ a h. pick a (in_last front x h))
              (subst (λ (ts : List GivenUp). Visits P s (front ++ x ∷ []) ts n) (with_none told) (visits_append v (keeps (kept x (are.only x (in_places front (x ∷ rest) whole x here)) (behind x here) l) visits_none)))
            where
              pick : (a : Place) → IsIn a front ⊎ (a ≡ x) → IsEarlierPlace a to
              pick a (inl h) = before a h
              pick a (inr e) = subst (λ (z : Place). IsEarlierPlace z to) (sym e) l
          by (inr (inl e)) again = stop (λ l. not_itself to (subst (λ (z : Place). IsEarlierPlace z to) e l))
          by (inr (inr m)) again = stop (λ l. places_never x to l m)

  -- past one place that is kept
  pub walk_kept : {at_ : Place} {told : List GivenUp} {n : State S} → Walk at_ told n → IsKept P n at_ → Walk (next at_) told n
  walk_kept {at_ = at_} {n = n} w k = walk_past w (λ a h. places_through a at_ (next at_) h (next_later at_)) (λ a h f l. subst (λ (z : Place). IsKept P n z) (sym (it_is at_ a f l)) k)

  -- past one place that is given up or joined
  pub walk_given : {at_ : Place} {told : List GivenUp} {g : GivenUp} {n m : State S} → Walk at_ told n → IsPlace s at_ → Visits P n (at_ ∷ []) (g ∷ []) m → HaveStarts m → Walk (next at_) (told ++ g ∷ []) m
  walk_given {at_ = at_} {told = told} {g = g} {n = n} {m = m} w is v starts = go w.rest w.whole w.behind
    where
      not_front : IsIn at_ w.front → ⊥
      not_front h = not_itself at_ (w.before at_ h)

      go : (rest : List Place) → places ≡ w.front ++ rest → ((a : Place) → IsIn a rest → IsEarlierPlace a at_ → ⊥) → Walk (next at_) (told ++ g ∷ []) m
      go [] whole behind = absurd (none (in_either w.front [] (subst (λ (ps : List Place). IsIn at_ ps) whole (are.all at_ is))))
        where
          none : IsIn at_ w.front ⊎ IsIn at_ [] → ⊥
          none (inl h) = not_front h
          none (inr h) = in_none h
      go (x ∷ rest) whole behind = by (in_either w.front (x ∷ rest) (subst (λ (ps : List Place). IsIn at_ ps) whole (are.all at_ is)))
        where
          made : at_ ≡ x → Walk (next at_) (told ++ g ∷ []) m
          made e = record {
            front = w.front ++ x ∷ [];
            rest = rest;
            whole = whole ∙ sym (append_assoc w.front (x ∷ []) rest);
            before = λ a h. pick a (in_last w.front x h);
            behind = λ a h l. none_between at_ a (subst (λ (z : Place). IsEarlierPlace z a) (sym e) ((sorted_rest w.front (x ∷ rest) whole).0 a h)) l;
            visits = visits_append w.visits (subst (λ (z : Place). Visits P n (z ∷ []) (g ∷ []) m) e v);
            starts = starts;
          }
            where
              pick : (a : Place) → IsIn a w.front ⊎ (a ≡ x) → IsEarlierPlace a (next at_)
              pick a (inl h) = places_through a at_ (next at_) (w.before a h) (next_later at_)
              pick a (inr f) = subst (λ (z : Place). IsEarlierPlace z (next at_)) (e ∙ sym f) (next_later at_)

          in_rest : (at_ ≡ x) ⊎ IsIn at_ rest → Walk (next at_) (told ++ g ∷ []) m
          in_rest (inl e) = made e
          in_rest (inr h) = absurd (behind x here ((sorted_rest w.front (x ∷ rest) whole).0 at_ h))

          by : IsIn at_ w.front ⊎ IsIn at_ (x ∷ rest) → Walk (next at_) (told ++ g ∷ []) m
          by (inl h) = absurd (not_front h)
          by (inr h) = in_rest (in_cases h)

  -- a task that gives up a cell goes on to have its start
  gave_starts : {p : List ℕ} {c : ℕ} {t : Task S} {n m : State S} → HaveStarts n → At n p t → GaveUp n p c t m → HaveStarts m
  gave_starts {p = p} {c = c} {t = t} {n = n} {m = m} starts at_ g q v h = go (which_path q p)
    where
      go : (q ≡ p) ⊎ (q ≡ p → ⊥) → (u : Task S) × At s q u × (u.body.start ≡ v.body.start)
      go (inl e) =
          let x = starts p t at_ in
          let same : after_giving c t ≡ v = some_is (sym g.own ∙ subst (λ (r : List ℕ). At m r v) e h) in
          (x.0, subst (λ (r : List ℕ). At s r x.0) (sym e) x.1, x.2 ∙ ap (λ (z : Task S). z.body.start) same)
      go (inr ne) = starts q v (sym (g.others q ne) ∙ h)

  -- the place of a cell that a task may give up
  pub let_place : {p : List ℕ} {c : ℕ} {t : Task S} {n : State S} → HaveStarts n → CanLet P n p c t → IsPlace s (place p c)
  let_place {p = p} {c = c} {t = t} starts can =
      let x = starts p t can.at_ in
      record { task = x.0; at_ = x.1; owes = owed p can.not_main (ap (λ b. right_of b.context c) x.2 ∙ can.right) }
    where
      owed : (q : List ℕ) → (q ≡ [] → ⊥) → right_of (starts p t can.at_).0.body.start.context c ≡ Holds can.mode can.strong → Owes q (starts p t can.at_).0.body.start.context c
      owed [] ne r = absurd (ne refl)
      owed (k ∷ q) ne r = (can.mode, can.strong, r)

  -- the place of a slot that may be joined, where main has none
  pub join_place : {p : List ℕ} {c : ℕ} {op : Op} {t : Task S} {n : State S} → ((u : Task S) (d : ℕ) (o : Op) → At s [] u → right_of u.body.start.context d ≡ Holds (Fold o) true → ⊥) → HaveStarts n → CanJoin P n p c op t → IsPlace s (place p c)
  join_place {p = p} {c = c} {op = op} {t = t} none starts can =
      let x = starts p t can.at_ in
      record { task = x.0; at_ = x.1; owes = owed p x.1 (ap (λ b. right_of b.context c) x.2 ∙ can.right) }
    where
      owed : (q : List ℕ) → At s q (starts p t can.at_).0 → right_of (starts p t can.at_).0.body.start.context c ≡ Holds (Fold op) true → Owes q (starts p t can.at_).0.body.start.context c
      owed [] h r = absurd (none (starts p t can.at_).0 c op h r)
      owed (k ∷ q) h r = (Fold op, true, r)

  -- past a row of cells of one task
  pub walk_row : ((u : Task S) (d : ℕ) (o : Op) → At s [] u → right_of u.body.start.context d ≡ Holds (Fold o) true → ⊥) → (count : ℕ) (p : List ℕ) (lo : ℕ) {told more : List GivenUp} {n m : State S}
      → Walk (place p lo) told n → Visits P n (row p lo count) more m → Walk (place p (lo + count)) (told ++ more) m
  walk_row none zero p lo {told = told} {n = n} w visits_none =
      subst (λ (ts : List GivenUp). Walk (place p (lo + 0)) ts n) (sym (with_none told)) (subst (λ (c : ℕ). Walk (place p c) told n) (omega arith) w)
  walk_row none (suc k) p lo {told = told} {more = more} {m = m} w (keeps kept v) =
      let e : suc lo + k ≡ lo + suc k = omega arith in
      subst (λ (c : ℕ). Walk (place p c) (told ++ more) m) e (walk_row none k p (suc lo) (walk_kept w kept) v)
  walk_row none (suc k) p lo {told = told} {m = m} w (gives {m = mid} {t = t} {done = later} can go v) =
      let e : suc lo + k ≡ lo + suc k = omega arith in
      let g : GivenUp = record { path = p; cell = lo; joined = false } in
      let x = walk_given {g = g} w (let_place w.starts can) (gives can go visits_none) (gave_starts w.starts can.at_ go.tasks) in
      subst (λ (c : ℕ). Walk (place p c) (told ++ g ∷ later) m) e
      (subst (λ (ts : List GivenUp). Walk (place p (suc lo + k)) ts m) (append_assoc told (g ∷ []) later) (walk_row none k p (suc lo) x v))
  walk_row none (suc k) p lo {told = told} {m = m} w (merges {m = mid} {op = op} {t = t} {done = later} can go v) =
      let e : suc lo + k ≡ lo + suc k = omega arith in
      let g : GivenUp = record { path = p; cell = lo; joined = true } in
      let x = walk_given {g = g} w (join_place none w.starts can) (merges can go visits_none) (gave_starts w.starts can.at_ go.tasks) in
      subst (λ (c : ℕ). Walk (place p c) (told ++ g ∷ later) m) e
      (subst (λ (ts : List GivenUp). Walk (place p (suc lo + k)) ts m) (append_assoc told (g ∷ []) later) (walk_row none k p (suc lo) x v))

  -- where all that is left is kept, the pass was made
  pub walk_ends : {to : Place} {told : List GivenUp} {n : State S} → Walk to told n → ((a : Place) → IsPlace s a → (IsEarlierPlace a to → ⊥) → IsKept P n a) → IsPass P s told n
  walk_ends {told = told} {n = n} w kept = record {
    places = places;
    places_are = are;
    visits = subst (λ (ps : List Place). Visits P s ps told n) (sym w.whole)
        (subst (λ (ts : List GivenUp). Visits P s (w.front ++ w.rest) ts n) (with_none told)
        (visits_append w.visits (visits_kept P n w.rest (λ a h. kept a (are.only a (in_places w.front w.rest w.whole a h)) (w.behind a h)))));
  }
