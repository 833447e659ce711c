-- What a system was told, and which calls that allows.
use Rattle.std.proofs.Common.{Result, Ok, Err, OnOk, OnErr, ◌≡◌, ℕ, ◌+◌, ◌-◌, ◌<◌, ◌≤◌, zero, suc, refl, sym, ap, subst, ◌∙◌, List, [], ◌∷◌, ◌++◌, ◌⊎◌, inl, inr, Bool, true, false, Some, arith, length, get_or, eq-eqb, eqb-true}
use Rattle.std.proofs.lemmas.Bool.Decides.{nat_tests}
use Rattle.std.proofs.lemmas.Option.{slice_get_within, slice_get-get_or}
use Rattle.std.specs.Prelude.{◌==◌, ◌||◌, ◌&&◌, nat_le, nat_lt, slice_get}
use Rattle.oss_syntax.specs.declared.access.Access.{Access}
use Rattle.oss_syntax.specs.declared.access.Mode.{Mode}
use Rattle.oss_syntax.specs.declared.access.Mode.TheVariants.{Fold}
use Rattle.oss_syntax.specs.declared.access.Op.{Op}
use Rattle.oss_syntax.specs.declared.access.Range.{Range}
use Rattle.oss_model.specs.Order.{IsIn}
use Rattle.oss_model.specs.Rights.{covers, in_access}
use Rattle.oss_deps.specs.declared.opened.Open.{Open}
use Rattle.oss_deps.specs.Opens.{AreOpens, HasCover, HasOpened, IsFolding, IsKnown, IsNested, IsOpened, child, main, access_at, mode_at, mode_in, mode_of_access, names}
use Rattle.oss_deps.specs.Columns.{IsNumberOf}
use Rattle.oss_deps.specs.Seen.{CanOpen, Gives, HasHeldCover, IsNew, IsSame, Opens, Prepares, Reserves, Seen, in_range, is_access_end, is_end}
use Rattle.oss_deps_tests.specs.Told.{HasModeOver, IsApart, IsKept, IsLent, IsShallow, IsTold, MayGive, MayOpen, WasGiven}
use Rattle.oss_deps.proofs.Basics.{bools, both, clash, compared, or_cases, or_left, or_right, same_at}
use Rattle.oss_deps.proofs.OpenLemmas.{get_in, in_bounds, in_front, in_get, in_last, mode_is, named_at}
use Rattle.oss_deps.proofs.NewLemmas.{opens_added, opens_none}

-- what is looked up in the list of opens
module _ (opens : List Open) where
  abbrev pub over_opened : (t lo hi : ℕ) (mode : Mode) → HasModeOver opens t lo hi mode → (c : ℕ) → lo ≤ c → c < hi → HasOpened opens c t
  over_opened t lo hi mode has c l h = record { entry = has.entry; listed = has.listed; number = has.number; named = named_at has.entry c has.access (has.over c l h) }

  pub over_mode : (t lo hi : ℕ) (mode : Mode) → (has : HasModeOver opens t lo hi mode) → (c : ℕ) → lo ≤ c → c < hi → mode_at c has.entry ≡ mode
  over_mode t lo hi mode has c l h = ap mode_of_access (has.over c l h) ∙ has.mode_is

  -- what a read of the list gives, where the default of the read is not cited
  pub entry_in : (n t : ℕ) (o : Open) → IsNumberOf opens n t → (n ≡ 0 → ⊥) → IsIn (get_or opens (n - 1) o) opens × ((get_or opens (n - 1) o).task ≡ t)
  entry_in n t o (inl z) l = absurd (l z.0)
  entry_in n t o (inr k) l =
      let at : n - 1 ≡ k.1.0 = omega (arith, k.1.1) in
      let here : slice_get opens (n - 1) ≡ Some k.0 = subst (λ (i : ℕ). slice_get opens i ≡ Some k.0) (sym at) k.1.2 in
      let read = slice_get-get_or opens (n - 1) o (slice_get_within opens (n - 1) k.0 here) in
      (get_in opens (n - 1) (get_or opens (n - 1) o) read, ap (λ (x : Open). x.task) (same_at read here) ∙ k.2)

  pub number_main : (n t : ℕ) → IsNumberOf opens n t → n ≡ 0 → t ≡ 0
  number_main n t (inl z) e = z.1
  number_main n t (inr k) e = absurd (omega (arith, k.1.1, e))

  pub mode_over : (n t lo hi : ℕ) (o : Open) (a : Access) → IsNumberOf opens n t → (n ≡ 0 → ⊥) → ((c : ℕ) → lo ≤ c → c < hi → access_at (get_or opens (n - 1) o).accesses c ≡ Some a) → HasModeOver opens t lo hi a.mode
  mode_over n t lo hi o a number l over = let k = entry_in n t o number l in record { entry = get_or opens (n - 1) o; listed = k.0; number = k.1; access = a; over = over; mode_is = refl }

  pub shallow_main : (t levels : ℕ) → t ≡ 0 → IsShallow opens t levels
  shallow_main t levels e = (0, subst (λ (k : ℕ). IsNested opens k 0) (sym e) main, omega arith)

  pub shallow_child : (o : Open) (levels : ℕ) → IsIn o opens → (levels ≡ 0 → ⊥) → IsShallow opens o.parent (levels - 1) → IsShallow opens o.task levels
  shallow_child o levels i l above = (suc above.0, child o above.0 i above.1, go levels l above.2)
    where
      go : (levels : ℕ) → (levels ≡ 0 → ⊥) → above.0 ≤ levels - 1 → suc above.0 ≤ levels
      go zero l h = absurd (l refl)
      go (suc k) l h = omega (arith, h)

  pub shallow_below : (n t levels : ℕ) (o : Open) → IsNumberOf opens n t → (n ≡ 0 → ⊥) → (levels ≡ 0 → ⊥) → IsShallow opens (get_or opens (n - 1) o).parent (levels - 1) → IsShallow opens t levels
  shallow_below n t levels o number l m above =
      let k = entry_in n t o number l in
      subst (λ (x : ℕ). IsShallow opens x levels) k.1 (shallow_child (get_or opens (n - 1) o) levels k.0 m above)

module _ (opens : List Open) (gives : List (ℕ × Range)) where
  pub told_same : (old new : Seen) → IsSame old new → IsTold old opens gives → IsTold new opens gives
  told_same old new same told = record { opens_are = same.opens ∙ told.opens_are; right = told.right; given = λ t c e. told.given t c (sym (same.given t c) ∙ e) }

  pub told_reserved : (accesses : List Access) (old new : Seen) → Reserves accesses old new → IsTold old opens gives → IsTold new opens gives
  told_reserved accesses old new same told = record { opens_are = same.opens ∙ told.opens_are; right = told.right; given = λ t c e. told.given t c (sym (same.given t c) ∙ e) }

  -- and where memory may have been wanting
  pub told_asked : {A E : Type 0} (r : Result A E) (accesses : List Access) (old new : Seen) → OnOk r (Reserves accesses old new) → OnErr r (IsSame old new) → IsTold old opens gives → IsTold new opens gives
  told_asked (Ok x) accesses old new ok err told = told_reserved accesses old new ok told
  told_asked (Err e) accesses old new ok err told = told_same old new err told

  pub told_prepared : (range : Range) (old new : Seen) → Prepares range old new → IsTold old opens gives → IsTold new opens gives
  told_prepared range old new same told = record { opens_are = same.opens ∙ told.opens_are; right = told.right; given = λ t c e. told.given t c (sym (same.given t c) ∙ e) }

  pub told_opened : (o : Open) (old new : Seen) → CanOpen old o → Opens o old new → IsTold old opens gives → IsTold new (opens ++ o ∷ []) gives
  told_opened o old new can done told = record {
    opens_are = done.opens ∙ ap (λ (xs : List Open). xs ++ o ∷ []) told.opens_are;
    right = subst (λ (xs : List Open). AreOpens (xs ++ o ∷ [])) told.opens_are (opens_added old o (subst AreOpens (sym told.opens_are) told.right) can);
    given = λ t c e. told.given t c (sym (done.given t c) ∙ e);
  }

  pub told_given : (task : ℕ) (range : Range) (old new : Seen) → Gives task range old new → IsTold old opens gives → IsTold new opens (gives ++ (task, range) ∷ [])
  told_given task range old new done told = record {
    opens_are = done.opens ∙ told.opens_are;
    right = told.right;
    given = λ t c e. go t c (or_cases (old.given t c) ((task == t) && in_range range c) (sym (done.given t c) ∙ e));
  }
    where
      more : (t c : ℕ) → WasGiven gives t c → WasGiven (gives ++ (task, range) ∷ []) t c
      more t c w = record { entry = w.entry; listed = in_front gives ((task, range) ∷ []) w.listed; task = w.task; from = w.from; before = w.before }

      go : (t c : ℕ) → (old.given t c ≡ true) ⊎ (((task == t) && in_range range c) ≡ true) → WasGiven (gives ++ (task, range) ∷ []) t c
      go t c (inl e) = more t c (told.given t c e)
      go t c (inr e) =
          let k = both (task == t) (in_range range c) e in
          let l = both (nat_le range.lo c) (nat_lt c range.hi) k.1 in
          record { entry = (task, range); listed = in_last gives (task, range); task = eqb-true task t k.0; from = grind (arith, nat_tests, l.0); before = grind (arith, nat_tests, l.1) }

  pub told_known : (s : Seen) → IsTold s opens gives → (n t : ℕ) → IsNumberOf opens n t → IsKnown s.opens t
  told_known s told n t number = subst (λ (xs : List Open). IsKnown xs t) (sym told.opens_are) (known_number n t number)
    where
      known_number : (n t : ℕ) → IsNumberOf opens n t → IsKnown opens t
      known_number n t (inl z) = inl z.1
      known_number n t (inr k) = inr (record { entry = k.0; listed = get_in opens k.1.0 k.0 k.1.2; number = k.2 })

  pub told_folding : (s : Seen) → IsTold s opens gives → (t lo hi : ℕ) (op : Op) → lo < hi → HasModeOver opens t lo hi (Fold op) → IsFolding s.opens t lo
  told_folding s told t lo hi op l has = subst (λ (xs : List Open). IsFolding xs t lo) (sym told.opens_are) (record {
    opened = over_opened opens t lo hi (Fold op) has lo (omega arith) l;
    op = op;
    mode_is = subst (λ (k : ℕ). mode_in opens lo k ≡ Fold op) has.number (mode_is lo told.right.ordered has.entry has.listed ∙ over_mode opens t lo hi (Fold op) has lo (omega arith) l);
  })

  pub held_here : (s : Seen) → IsTold s opens gives → (t c : ℕ) → (WasGiven gives t c → ⊥) → s.given t c ≡ false
  held_here s told t c h = go (bools (s.given t c))
    where
      go : (s.given t c ≡ true) ⊎ (s.given t c ≡ false) → s.given t c ≡ false
      go (inl e) = absurd (h (told.given t c e))
      go (inr e) = e

  pub may_be_opened : (t p levels : ℕ) (a : Access) → (IsKnown opens t → ⊥) → IsShallow opens p levels → levels < 64 → IsLent opens gives p a → MayOpen opens gives (record { task = t; parent = p; accesses = a ∷ [] })
  may_be_opened t p levels a fresh shallow l lent s told = record {
    not_main = λ e. fresh (inl e);
    fresh = λ k. fresh (inr (subst (λ (xs : List Open). IsOpened xs t) told.opens_are k));
    parent = subst (λ (xs : List Open). IsKnown xs p) (sym told.opens_are) (nested_known p shallow.0 shallow.1);
    shallow = (shallow.0, subst (λ (xs : List Open). IsNested xs p shallow.0) (sym told.opens_are) shallow.1, omega (arith, shallow.2, l));
    rising = tt;
    covered = λ c h. covered c h lent;
  }
    where
      nested_known : (p depth : ℕ) → IsNested opens p depth → IsKnown opens p
      nested_known p depth main = inl refl
      nested_known p depth (child o above i h) = inr (record { entry = o; listed = i; number = refl })

      within : (c : ℕ) → names c (record { task = t; parent = p; accesses = a ∷ [] }) ≡ true → in_access a c ≡ true
      within c h = go (bools (in_access a c))
        where
          go : (in_access a c ≡ true) ⊎ (in_access a c ≡ false) → in_access a c ≡ true
          go (inl e) = e
          go (inr e) = let n : names c (record { task = t; parent = p; accesses = a ∷ [] }) ≡ false = rw e refl in clash (names c (record { task = t; parent = p; accesses = a ∷ [] })) h n

      mode_here : (c : ℕ) → in_access a c ≡ true → mode_at c (record { task = t; parent = p; accesses = a ∷ [] }) ≡ a.mode
      mode_here c e = rw e refl

      covered : (c : ℕ) → names c (record { task = t; parent = p; accesses = a ∷ [] }) ≡ true → IsLent opens gives p a → (p ≡ 0) ⊎ HasHeldCover s c (record { task = t; parent = p; accesses = a ∷ [] })
      covered c h (inl z) = inl z
      covered c h (inr (mode, has, covering, kept)) =
          let e = within c h in
          let b = in_bounds a c e in
          let m : covers (mode_at c has.entry) (mode_at c (record { task = t; parent = p; accesses = a ∷ [] })) ≡ true = rw (over_mode opens p a.range.lo a.range.hi mode has c b.0 b.1, mode_here c e) covering in
          inr (record {
            cover = subst (λ (xs : List Open). HasCover xs c (record { task = t; parent = p; accesses = a ∷ [] })) (sym told.opens_are) (record { above = over_opened opens p a.range.lo a.range.hi mode has c b.0 b.1; covered = m });
            held = held_here s told p c (kept c b.0 b.1);
          })

  pub may_be_given : (t : ℕ) (range : Range) (mode : Mode) → HasModeOver opens t range.lo range.hi mode → IsKept gives t range.lo range.hi → MayGive opens gives t range
  may_be_given t range mode has kept s told begins ends = record {
    begins = begins;
    ends = ends;
    named = λ c l h. subst (λ (xs : List Open). HasOpened xs c t) (sym told.opens_are) (over_opened opens t range.lo range.hi mode has c l h);
    held = λ c l h. held_here s told t c (kept c l h);
  }

-- ranges that were looked at, one after the other
abbrev pub AreApart : List (ℕ × Range) → ℕ → ℕ → ℕ → ℕ → Type 0
AreApart gives t lo hi at = (i : ℕ) (g : ℕ × Range) → slice_get gives i ≡ Some g → i < at → IsApart t lo hi g

pub apart_more : (gives : List (ℕ × Range)) (t lo hi at : ℕ) (g : ℕ × Range) → AreApart gives t lo hi at → slice_get gives at ≡ Some g → IsApart t lo hi g → AreApart gives t lo hi (at + 1)
apart_more gives t lo hi at g before is apart i q e h = go (compared i at)
  where
    go : (i < at) ⊎ ((i ≡ at) ⊎ (at < i)) → IsApart t lo hi q
    go (inl l) = before i q e l
    go (inr (inl s)) = subst (λ (x : ℕ × Range). IsApart t lo hi x) (same_at is (subst (λ (j : ℕ). slice_get gives j ≡ Some q) s e)) apart
    go (inr (inr l)) = absurd (omega (arith, l, h))

pub apart_all : (gives : List (ℕ × Range)) (t lo hi at : ℕ) → AreApart gives t lo hi at → length gives ≤ at → IsKept gives t lo hi
apart_all gives t lo hi at apart l c from before w =
    let i = in_get gives w.listed in
    apart i.0 w.entry i.1 (omega (arith, slice_get_within gives i.0 w.entry i.1, l)) w.task (omega (arith, from, w.before)) (omega (arith, before, w.from))

pub told_new : (s : Seen) → IsNew s → IsTold s [] []
told_new s fresh = record { opens_are = fresh.opens; right = opens_none; given = λ t c e. clash (s.given t c) e (fresh.given t c) }

-- calls that are made again
pub can_same : (o : Open) (old new : Seen) → IsSame old new → CanOpen old o → CanOpen new o
can_same o old new same can = record {
  not_main = can.not_main;
  fresh = λ k. can.fresh (subst (λ (xs : List Open). IsOpened xs o.task) same.opens k);
  parent = subst (λ (xs : List Open). IsKnown xs o.parent) (sym same.opens) can.parent;
  shallow = (can.shallow.0, subst (λ (xs : List Open). IsNested xs o.parent can.shallow.0) (sym same.opens) can.shallow.1, can.shallow.2);
  rising = can.rising;
  covered = λ c n. go c (can.covered c n);
}
  where
    go : (c : ℕ) → (o.parent ≡ 0) ⊎ HasHeldCover old c o → (o.parent ≡ 0) ⊎ HasHeldCover new c o
    go c (inl z) = inl z
    go c (inr h) = inr (record { cover = subst (λ (xs : List Open). HasCover xs c o) (sym same.opens) h.cover; held = same.given o.parent c ∙ h.held })

pub opens_same : (o : Open) (old same new : Seen) → IsSame old same → Opens o same new → Opens o old new
opens_same o old same new s d = record {
  opens = d.opens ∙ ap (λ (xs : List Open). xs ++ o ∷ []) s.opens;
  given = λ t c. d.given t c ∙ s.given t c;
  cuts = λ k. d.cuts k ∙ ap (λ (b : Bool). b || is_access_end o.accesses k) (s.cuts k);
  reserved = d.reserved;
}

pub prepares_same : (range : Range) (old same new : Seen) → IsSame old same → Prepares range same new → Prepares range old new
prepares_same range old same new s d = record {
  opens = d.opens ∙ s.opens;
  given = λ t c. d.given t c ∙ s.given t c;
  cuts = λ k. d.cuts k ∙ ap (λ (b : Bool). b || is_end range k) (s.cuts k);
  reserved = d.reserved;
}

pub reserves_same : (accesses : List Access) (old same new : Seen) → IsSame old same → Reserves accesses same new → Reserves accesses old new
reserves_same accesses old same new s d = record { opens = d.opens ∙ s.opens; given = λ t c. d.given t c ∙ s.given t c; cuts = λ k. d.cuts k ∙ s.cuts k; reserved = d.reserved }

pub prepared_begins : (range : Range) (old new : Seen) → Prepares range old new → new.cut range.lo ≡ true
prepared_begins range old new d = d.cuts range.lo ∙ or_right (old.cut range.lo) (is_end range range.lo) (or_left (range.lo == range.lo) (range.lo == range.hi) (eq-eqb range.lo range.lo refl))

pub prepared_ends : (range : Range) (old new : Seen) → Prepares range old new → new.cut range.hi ≡ true
prepared_ends range old new d = d.cuts range.hi ∙ or_right (old.cut range.hi) (is_end range range.hi) (or_right (range.hi == range.lo) (range.hi == range.hi) (eq-eqb range.hi range.hi refl))
