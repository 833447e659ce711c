-- Accesses in rising order, and one access more.
use Rattle.std.proofs.Common.{◌≡◌, ℕ, ◌≤◌, ◌<◌, ◌⊎◌, inl, inr, refl, sym, ap, ◌∙◌, List, [], ◌∷◌, ◌++◌, arith, Bool, true, false, nat_lt, if◌then◌else◌, true≢false, subst}
use Rattle.std.specs.Prelude.{◌||◌, ◌&&◌, Some, None}
use Rattle.std.proofs.lemmas.Bool.Decides.{nat_tests}
use Rattle.oss_syntax.specs.declared.access.Access.{Access}
use Rattle.oss_syntax.specs.declared.access.Mode.{Mode}
use Rattle.oss_model.specs.Rights.{Right, NoRight, Released, Holds, Mark, Written, first_mark, in_access, is_fresh, joined_right, mark_from, right_from}
use Rattle.oss_model.specs.Context.{in_clauses}
use Rattle.oss_judge.specs.Joined.{Adds, Continues, Follows, IsBelow, IsRising, IsRun, held_mark, held_right}
use Rattle.oss_judge.proofs.TestLemmas.{access_low, either}

or_false : (a b : Bool) → a ≡ false → b ≡ false → (a || b) ≡ false
or_false a b g h = ap (λ x. x || b) g ∙ h

neither : (a b : Bool) → (a || b) ≡ false → (a ≡ false) × (b ≡ false)
neither false b h = (refl, h)
neither true b h = absurd (true≢false h)

and_nothing : (a : Bool) → (a && true) ≡ a
and_nothing true = refl
and_nothing false = refl

bool_or : (b : Bool) → (b ≡ true) ⊎ (b ≡ false)
bool_or true = inl refl
bool_or false = inr refl

past_access : (a : Access) (c : ℕ) → a.range.hi ≤ c → in_access a c ≡ false
past_access a c l = grind (arith, nat_tests)

access_high : (a : Access) (c : ℕ) → in_access a c ≡ true → c < a.range.hi
access_high a c h = grind (arith, nat_tests)

none_below : (cell : ℕ) (xs : List Access) (c : ℕ) → IsBelow cell xs → cell ≤ c → in_clauses xs c ≡ false
none_below cell [] c h l = refl
none_below cell (a ∷ rest) c h l = or_false (in_access a c) (in_clauses rest c) (let past = h.0 in past_access a c (omega arith)) (none_below cell rest c h.1 l)

-- accesses that do not name the cell, before others
right_past : (xs ys : List Access) (c : ℕ) → in_clauses xs c ≡ false → right_from false (xs ++ ys) c ≡ right_from false ys c
right_past [] ys c h = refl
right_past (a ∷ rest) ys c h =
    let parts = neither (in_access a c) (in_clauses rest c) h in
    ap (λ b. if b then joined_right a.mode (false || a.strong) (right_from false (rest ++ ys) c) else right_from false (rest ++ ys) c) parts.0 ∙ right_past rest ys c parts.1

fresh_past : (xs ys : List Access) (c : ℕ) → in_clauses xs c ≡ false → is_fresh (xs ++ ys) c ≡ is_fresh ys c
fresh_past [] ys c h = refl
fresh_past (a ∷ rest) ys c h =
    let parts = neither (in_access a c) (in_clauses rest c) h in
    ap (λ b. if b then a.fresh && is_fresh (rest ++ ys) c else is_fresh (rest ++ ys) c) parts.0 ∙ fresh_past rest ys c parts.1

-- a last access that does not name the cell
right_apart : (xs : List Access) (a : Access) (c : ℕ) → in_access a c ≡ false → right_from false (xs ++ a ∷ []) c ≡ right_from false xs c
right_apart [] a c h = ap (λ b. if b then joined_right a.mode (false || a.strong) NoRight else NoRight) h
right_apart (x ∷ rest) a c h = ap (λ r. if in_access x c then joined_right x.mode (false || x.strong) r else r) (right_apart rest a c h)

fresh_apart : (xs : List Access) (a : Access) (c : ℕ) → in_access a c ≡ false → is_fresh (xs ++ a ∷ []) c ≡ is_fresh xs c
fresh_apart [] a c h = ap (λ b. if b then a.fresh && true else true) h
fresh_apart (x ∷ rest) a c h = ap (λ r. if in_access x c then x.fresh && r else r) (fresh_apart rest a c h)

alone : Bool → Mode → Bool → Right
alone b m s = if b then Holds m s else NoRight

-- a last access in place of one that is alike at the cell
right_same : (xs : List Access) (a b : Access) (c : ℕ) → a.mode ≡ b.mode → a.strong ≡ b.strong → in_access a c ≡ in_access b c → right_from false (xs ++ a ∷ []) c ≡ right_from false (xs ++ b ∷ []) c
unfolding alone
right_same [] a b c m s h = ap (λ t. alone t a.mode a.strong) h ∙ ap (λ n. alone (in_access b c) n a.strong) m ∙ ap (λ t. alone (in_access b c) b.mode t) s
right_same (x ∷ rest) a b c m s h = ap (λ r. if in_access x c then joined_right x.mode (false || x.strong) r else r) (right_same rest a b c m s h)

fresh_same : (xs : List Access) (a b : Access) (c : ℕ) → a.fresh ≡ b.fresh → in_access a c ≡ in_access b c → is_fresh (xs ++ a ∷ []) c ≡ is_fresh (xs ++ b ∷ []) c
fresh_same [] a b c f h = ap (λ t. if t then a.fresh && true else true) h ∙ ap (λ t. if in_access b c then t && true else true) f
fresh_same (x ∷ rest) a b c f h = ap (λ r. if in_access x c then x.fresh && r else r) (fresh_same rest a b c f h)

right_here : (xs : List Access) (a : Access) (c : ℕ) → in_clauses xs c ≡ false → in_access a c ≡ true → right_from false (xs ++ a ∷ []) c ≡ Holds a.mode a.strong
unfolding alone
right_here xs a c h t = right_past xs (a ∷ []) c h ∙ ap (λ b. alone b a.mode a.strong) t

fresh_here : (xs : List Access) (a : Access) (c : ℕ) → in_clauses xs c ≡ false → in_access a c ≡ true → is_fresh (xs ++ a ∷ []) c ≡ a.fresh
fresh_here xs a c h t = fresh_past xs (a ∷ []) c h ∙ ap (λ b. if b then a.fresh && true else true) t ∙ and_nothing a.fresh

below_snoc : (n : ℕ) (xs : List Access) (a : Access) → IsBelow n xs → a.range.hi ≤ n → IsBelow n (xs ++ a ∷ [])
below_snoc n [] a h l = (l, tt)
below_snoc n (x ∷ rest) a h l = (h.0, below_snoc n rest a h.1 l)

below_more : (n m : ℕ) (xs : List Access) → n ≤ m → IsBelow n xs → IsBelow m xs
below_more n m [] l h = tt
below_more n m (x ∷ rest) l h = (let k = h.0 in omega arith, below_more n m rest l h.1)

below_front : (n : ℕ) (xs ys : List Access) → IsBelow n (xs ++ ys) → IsBelow n xs
below_front n [] ys h = tt
below_front n (x ∷ rest) ys h = (h.0, below_front n rest ys h.1)

below_end : (n : ℕ) (xs : List Access) (a : Access) → IsBelow n (xs ++ a ∷ []) → a.range.hi ≤ n
below_end n [] a h = h.0
below_end n (x ∷ rest) a h = below_end n rest a h.1

-- what stands before the last access
before_last : (ys : List Access) (last : Access) → IsRising (ys ++ last ∷ []) → IsBelow last.range.lo ys
before_last [] last h = tt
before_last (a ∷ []) last h = (h.0.behind, tt)
before_last (a ∷ b ∷ rest) last h =
    let more = before_last (b ∷ rest) last h.1 in
    let here = h.0.behind in let there = more.0 in let some = b.range.ordered in
    (omega arith, more)

rising_next : (ys : List Access) (last a : Access) → IsRising (ys ++ last ∷ []) → Follows last a → IsRising ((ys ++ last ∷ []) ++ a ∷ [])
rising_next [] last a h f = (f, tt)
rising_next (x ∷ []) last a h f = (h.0, (f, tt))
rising_next (x ∷ y ∷ rest) last a h f = (h.0, rising_next (y ∷ rest) last a h.1 f)

-- The second access has the front of the first, and is alike.
record IsLonger (last b : Access) : Type 0 where
  front : b.range.lo ≡ last.range.lo
  mode : b.mode ≡ last.mode
  strong : b.strong ≡ last.strong
  first : b.fresh ≡ last.fresh

follows_longer : (x last b : Access) → IsLonger last b → Follows x last → Follows x b
follows_longer x last b l f = record {
  behind = (let k = f.behind in let same = l.front in omega arith);
  apart = λ h. f.apart (h.0 ∙ l.front, h.1 ∙ l.mode, h.2 ∙ l.strong, h.3 ∙ l.first);
}

rising_longer : (ys : List Access) (last b : Access) → IsLonger last b → IsRising (ys ++ last ∷ []) → IsRising (ys ++ b ∷ [])
rising_longer [] last b l h = tt
rising_longer (x ∷ []) last b l h = (follows_longer x last b l h.0, tt)
rising_longer (x ∷ y ∷ rest) last b l h = (h.0, rising_longer (y ∷ rest) last b l h.1)

-- what holds at a cell, by whether an access has it
pick : {A : Type 0} (a : Access) (c : ℕ) (here there now : A) → (in_access a c ≡ true → now ≡ here) → (in_access a c ≡ false → now ≡ there) → now ≡ (if in_access a c then here else there)
pick a c here there now f g =
    either (bool_or (in_access a c))
    (λ e. f e ∙ sym (ap (λ b. if b then here else there) e))
    (λ e. g e ∙ sym (ap (λ b. if b then here else there) e))

rights_next : (xs : List Access) (a : Access) → IsBelow a.range.lo xs → (c : ℕ) → right_from false (xs ++ a ∷ []) c ≡ (if in_access a c then Holds a.mode a.strong else right_from false xs c)
rights_next xs a below c =
    pick a c (Holds a.mode a.strong) (right_from false xs c) (right_from false (xs ++ a ∷ []) c)
    (λ e. right_here xs a c (none_below a.range.lo xs c below (access_low a c e)) e)
    (λ e. right_apart xs a c e)

marks_next : (xs : List Access) (a : Access) → IsBelow a.range.lo xs → (c : ℕ) → is_fresh (xs ++ a ∷ []) c ≡ (if in_access a c then a.fresh else is_fresh xs c)
marks_next xs a below c =
    pick a c a.fresh (is_fresh xs c) (is_fresh (xs ++ a ∷ []) c)
    (λ e. fresh_here xs a c (none_below a.range.lo xs c below (access_low a c e)) e)
    (λ e. fresh_apart xs a c e)

-- a first access
pub adds_first : (a : Access) → Adds a [] (a ∷ [])
adds_first a = record { rights = rights_next [] a tt; marks = marks_next [] a tt; below = (omega arith, tt); rising = tt }

-- one behind the last
adds_next : (ys : List Access) (last a : Access) → IsBelow a.range.lo (ys ++ last ∷ []) → IsRising (ys ++ last ∷ []) → (Continues last a → ⊥) → Adds a (ys ++ last ∷ []) ((ys ++ last ∷ []) ++ a ∷ [])
adds_next ys last a below rising apart = record {
  rights = rights_next (ys ++ last ∷ []) a below;
  marks = marks_next (ys ++ last ∷ []) a below;
  below = below_snoc a.range.hi (ys ++ last ∷ []) a (below_more a.range.lo a.range.hi (ys ++ last ∷ []) (let some = a.range.ordered in omega arith) below) (omega arith);
  rising = rising_next ys last a rising (record { behind = below_end a.range.lo ys last below; apart = apart });
}

longer_here : (last a b : Access) (c : ℕ) → last.range.hi ≡ a.range.lo → b.range.lo ≡ last.range.lo → b.range.hi ≡ a.range.hi → in_access a c ≡ true → in_access b c ≡ true
longer_here last a b c end lo hi e = let some = last.range.ordered in grind (arith, nat_tests)

longer_there : (last a b : Access) (c : ℕ) → last.range.hi ≡ a.range.lo → b.range.lo ≡ last.range.lo → b.range.hi ≡ a.range.hi → in_access a c ≡ false → in_access b c ≡ in_access last c
longer_there last a b c end lo hi e = let some = last.range.ordered in let more = a.range.ordered in grind (arith, nat_tests)

none_longer : (ys : List Access) (last a : Access) (c : ℕ) → IsRising (ys ++ last ∷ []) → last.range.hi ≡ a.range.lo → in_access a c ≡ true → in_clauses ys c ≡ false
none_longer ys last a c rising end e =
    none_below last.range.lo ys c (before_last ys last rising) (let some = last.range.ordered in let low = access_low a c e in omega arith)

-- one in place of the last, which it goes on
adds_longer : (ys : List Access) (last a b : Access) → IsBelow a.range.lo (ys ++ last ∷ []) → IsRising (ys ++ last ∷ []) → Continues last a → b.range.lo ≡ last.range.lo → b.range.hi ≡ a.range.hi
    → b.mode ≡ a.mode → b.strong ≡ a.strong → b.fresh ≡ a.fresh → Adds a (ys ++ last ∷ []) (ys ++ b ∷ [])
adds_longer ys last a b below rising on lo hi mode strong fresh = record {
  rights = λ c. pick a c (Holds a.mode a.strong) (right_from false (ys ++ last ∷ []) c) (right_from false (ys ++ b ∷ []) c)
      (λ e. right_here ys b c (none_longer ys last a c rising on.0 e) (longer_here last a b c on.0 lo hi e) ∙ ap (λ m. Holds m b.strong) mode ∙ ap (λ s. Holds a.mode s) strong)
      (λ e. right_same ys b last c (mode ∙ sym on.1) (strong ∙ sym on.2) (longer_there last a b c on.0 lo hi e));
  marks = λ c. pick a c a.fresh (is_fresh (ys ++ last ∷ []) c) (is_fresh (ys ++ b ∷ []) c)
      (λ e. fresh_here ys b c (none_longer ys last a c rising on.0 e) (longer_here last a b c on.0 lo hi e) ∙ fresh)
      (λ e. fresh_same ys b last c (fresh ∙ sym on.3) (longer_there last a b c on.0 lo hi e));
  below = below_snoc a.range.hi ys b (below_more a.range.lo a.range.hi ys (let some = a.range.ordered in omega arith) (below_front a.range.lo ys (last ∷ []) below)) (omega arith);
  rising = rising_longer ys last b (record { front = lo; mode = mode ∙ sym on.1; strong = strong ∙ sym on.2; first = fresh ∙ sym on.3 }) rising;
}

adds_same : (a : Access) (old1 old2 new1 new2 : List Access) → old2 ≡ old1 → new2 ≡ new1 → Adds a old1 new1 → Adds a old2 new2
adds_same a old1 old2 new1 new2 eo en h = subst (λ (xs : List Access). Adds a old2 xs) (sym en) (subst (λ (xs : List Access). Adds a xs new1) (sym eo) h)

-- one in place of the last, which was taken out
pub adds_on : (ys : List Access) (last a b : Access) (old new : List Access) → old ≡ ys ++ last ∷ [] → new ≡ ys ++ b ∷ [] → IsBelow a.range.lo old → IsRising old → Continues last a
    → b.range.lo ≡ last.range.lo → b.range.hi ≡ a.range.hi → b.mode ≡ a.mode → b.strong ≡ a.strong → b.fresh ≡ a.fresh → Adds a old new
adds_on ys last a b old new was now below rising on lo hi mode strong fresh =
    adds_same a (ys ++ last ∷ []) old (ys ++ b ∷ []) new was now
    (adds_longer ys last a b (subst (λ (xs : List Access). IsBelow a.range.lo xs) was below) (subst IsRising was rising) on lo hi mode strong fresh)

-- one behind the last, which was taken out and put back
pub adds_behind : (ys : List Access) (last a : Access) (old mid new : List Access) → old ≡ ys ++ last ∷ [] → mid ≡ ys ++ last ∷ [] → new ≡ mid ++ a ∷ []
    → IsBelow a.range.lo old → IsRising old → (Continues last a → ⊥) → Adds a old new
adds_behind ys last a old mid new was kept now below rising apart =
    adds_same a (ys ++ last ∷ []) old ((ys ++ last ∷ []) ++ a ∷ []) new was (now ∙ ap (λ xs. xs ++ a ∷ []) kept)
    (adds_next ys last a (subst (λ (xs : List Access). IsBelow a.range.lo xs) was below) (subst IsRising was rising) apart)

-- Accesses in rising order give the rights and the marks of the cells below one.
pub record Gives (own : ℕ → Right) (marked : ℕ → Mark) (from : ℕ) (xs : List Access) : Type 0 where
  pub rights : (c : ℕ) → right_from false xs c ≡ (if nat_lt c from then held_right (own c) else NoRight)
  pub marks : (c : ℕ) → mark_from false xs c ≡ (if nat_lt c from then held_mark (own c) (marked c) else Written)
  pub below : IsBelow from xs
  pub rising : IsRising xs

is_below : (c n : ℕ) → c < n → nat_lt c n ≡ true
is_below c n l = grind (arith, nat_tests)

is_not_below : (c n : ℕ) → n ≤ c → nat_lt c n ≡ false
is_not_below c n l = grind (arith, nat_tests)

less_or : (c n : ℕ) → (c < n) ⊎ (n ≤ c)
less_or c n = grind arith

module _ (own : ℕ → Right) (marked : ℕ → Mark) where
  pub gives_nothing : Gives own marked 0 []
  gives_nothing = record {
    rights = λ c. sym (ap (λ b. if b then held_right (own c) else NoRight) (is_not_below c 0 (omega arith)));
    marks = λ c. sym (ap (λ b. if b then held_mark (own c) (marked c) else Written) (is_not_below c 0 (omega arith)));
    below = tt;
    rising = tt;
  }

  outside_run : (a : Access) (from to c : ℕ) → a.range.lo ≡ from → a.range.hi ≡ to → in_access a c ≡ false → nat_lt c from ≡ nat_lt c to
  outside_run a from to c lo hi e = let some = a.range.ordered in grind (arith, nat_tests)

  pub gives_more : (a : Access) (from to : ℕ) (old new : List Access) → IsRun own marked from to (Some a) → Gives own marked from old → Adds a old new → Gives own marked to new
  gives_more a from to old new run before more = record {
    rights = λ c. either (bool_or (in_access a c))
        (λ e. let low : from ≤ c = (let l = access_low a c e in let s = run.0 in omega arith) in
        let high : c < to = (let h = access_high a c e in let s = run.1 in omega arith) in
        more.rights c ∙ ap (λ b. if b then Holds a.mode a.strong else right_from false old c) e ∙ sym (run.2 c low high).0
        ∙ sym (ap (λ b. if b then held_right (own c) else NoRight) (is_below c to high)))
        (λ e. more.rights c ∙ ap (λ b. if b then Holds a.mode a.strong else right_from false old c) e ∙ before.rights c
        ∙ ap (λ b. if b then held_right (own c) else NoRight) (outside_run a from to c run.0 run.1 e));
    marks = λ c. either (bool_or (in_access a c))
        (λ e. let low : from ≤ c = (let l = access_low a c e in let s = run.0 in omega arith) in
        let high : c < to = (let h = access_high a c e in let s = run.1 in omega arith) in
        ap (λ r. first_mark r (is_fresh new c)) (more.rights c ∙ ap (λ b. if b then Holds a.mode a.strong else right_from false old c) e)
        ∙ ap (λ f. first_mark (Holds a.mode a.strong) f) (more.marks c ∙ ap (λ b. if b then a.fresh else is_fresh old c) e)
        ∙ (run.2 c low high).1
        ∙ sym (ap (λ b. if b then held_mark (own c) (marked c) else Written) (is_below c to high)))
        (λ e. ap (λ r. first_mark r (is_fresh new c)) (more.rights c ∙ ap (λ b. if b then Holds a.mode a.strong else right_from false old c) e)
        ∙ ap (λ f. first_mark (right_from false old c) f) (more.marks c ∙ ap (λ b. if b then a.fresh else is_fresh old c) e)
        ∙ before.marks c
        ∙ ap (λ b. if b then held_mark (own c) (marked c) else Written) (outside_run a from to c run.0 run.1 e));
    below = subst (λ (n : ℕ). IsBelow n new) run.1 more.below;
    rising = more.rising;
  }

  -- a cell without a right has no mark
  no_mark : (r : Right) (m : Mark) → held_right r ≡ NoRight → held_mark r m ≡ Written
  no_mark NoRight m h = refl
  no_mark Released m h = refl
  no_mark (Holds mode strong) m h = cc

  below_or : (c from to : ℕ) → from ≤ to → (nat_lt c from ≡ nat_lt c to) ⊎ ((from ≤ c) × (c < to))
  below_or c from to l = grind (arith, nat_tests)

  pub gives_past : (from to : ℕ) (xs : List Access) → from ≤ to → IsRun own marked from to None → Gives own marked from xs → Gives own marked to xs
  gives_past from to xs l run before = record {
    rights = λ c. either (below_or c from to l)
        (λ e. before.rights c ∙ ap (λ b. if b then held_right (own c) else NoRight) e)
        (λ e. before.rights c ∙ ap (λ b. if b then held_right (own c) else NoRight) (is_not_below c from e.0) ∙ sym (run c e.0 e.1)
        ∙ sym (ap (λ b. if b then held_right (own c) else NoRight) (is_below c to e.1)));
    marks = λ c. either (below_or c from to l)
        (λ e. before.marks c ∙ ap (λ b. if b then held_mark (own c) (marked c) else Written) e)
        (λ e. before.marks c ∙ ap (λ b. if b then held_mark (own c) (marked c) else Written) (is_not_below c from e.0) ∙ sym (no_mark (own c) (marked c) (run c e.0 e.1))
        ∙ sym (ap (λ b. if b then held_mark (own c) (marked c) else Written) (is_below c to e.1)));
    below = below_more from to xs l before.below;
    rising = before.rising;
  }

  -- all cells, where none behind has a right
  pub all_rights : (from : ℕ) (xs : List Access) → ((c : ℕ) → from ≤ c → own c ≡ NoRight) → Gives own marked from xs → (c : ℕ) → right_from false xs c ≡ held_right (own c)
  all_rights from xs none before c =
      either (less_or c from)
      (λ e. before.rights c ∙ ap (λ b. if b then held_right (own c) else NoRight) (is_below c from e))
      (λ e. before.rights c ∙ ap (λ b. if b then held_right (own c) else NoRight) (is_not_below c from e) ∙ sym (ap held_right (none c e)))

  pub all_marks : (from : ℕ) (xs : List Access) → ((c : ℕ) → from ≤ c → own c ≡ NoRight) → Gives own marked from xs → (c : ℕ) → mark_from false xs c ≡ held_mark (own c) (marked c)
  all_marks from xs none before c =
      either (less_or c from)
      (λ e. before.marks c ∙ ap (λ b. if b then held_mark (own c) (marked c) else Written) (is_below c from e))
      (λ e. before.marks c ∙ ap (λ b. if b then held_mark (own c) (marked c) else Written) (is_not_below c from e) ∙ sym (ap (λ r. held_mark r (marked c)) (none c e)))
