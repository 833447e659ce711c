-- A new child is entered run by run: what is kept and the parts of its edges are right at the cells so far.
use Rattle.std.proofs.Common.{◌≡◌, ℕ, ◌+◌, ◌≤◌, ◌<◌, ◌⊎◌, inl, inr, refl, sym, subst, ap, ◌∙◌, arith, Bool, true, false, List, [], ◌∷◌, ◌++◌, length, map, take, drop, get_or, suc, Option, Some, Result, Ok, Err}
use Rattle.std.specs.Prelude.{◌&&◌, ◌||◌, if◌then◌else◌, slice_get, IfOk, OnOk}
use Rattle.std.proofs.Math.Seq.{drop-cons}
use Rattle.std.proofs.lemmas.Bool.Decides.{nat_tests}
use Rattle.std.proofs.lemmas.List.{take-append-drop, take_all, take_more}
use Rattle.oss_syntax.specs.declared.access.Access.{Access}
use Rattle.oss_syntax.specs.declared.access.Mode.{Mode}
use Rattle.oss_syntax.specs.declared.access.Range.{Range}
use Rattle.oss_judge.specs.Joined.{IsRising, held_right}
use Rattle.oss_model.specs.Context.{in_clauses}
use Rattle.oss_model.specs.Order.{IsIn}
use Rattle.oss_model.specs.Rights.{Holds, NoRight, Released, Right, in_access, right_from}
use Rattle.oss_ranges.specs.Cells.{Assigns, is_within, value_at}
use Rattle.oss_task_graph.specs.Edges.{Accesses, StandsAt}
use Rattle.oss_task_graph.specs.Groups.{are_strong, is_held}
use Rattle.oss_task_edges.specs.declared.groups.Groups.{Groups}
use Rattle.oss_task_edges.specs.declared.groups.Spot.{Spot}
use Rattle.oss_task_edges.specs.declared.members.Member.{Member}
use Rattle.oss_task_edges.specs.declared.part.Part.{Part}
use Rattle.oss_task_edges.specs.declared.siblings.Siblings.{Siblings}
use Rattle.oss_task_edges.specs.Kept.{AreEntered, Enters, HasAccesses, IsEntered, Keeps, KeptAt, is_strong}
use Rattle.oss_task_edges.specs.Members.{IsChain, height, kept_before, part_of, spot_in}
use Rattle.oss_task_edges.specs.Parts.{AreParts, HasPart, IsPart}
use Rattle.oss_task_edges.proofs.ChainLemmas.{chain_within, in_behind, in_both, in_front, in_map, in_map_back, one_chain}
use Rattle.oss_task_edges.proofs.GroupLemmas.{stands_first, stands_held}
use Rattle.oss_task_edges.proofs.KeptLemmas.{IsSpot, kept_next, kept_past, kept_stays, spot_is, strong_both}

pub bools : (b : Bool) → (b ≡ true) ⊎ (b ≡ false)
bools true = inl refl
bools false = inr refl

-- Cells of a range

pub within_is : (lo hi c : ℕ) → is_within lo hi c ≡ true → (lo ≤ c) × (c < hi)
within_is lo hi c e = (grind (arith, nat_tests, e), grind (arith, nat_tests, e))

pub within_so : (lo hi c : ℕ) → lo ≤ c → c < hi → is_within lo hi c ≡ true
within_so lo hi c a b = grind (arith, nat_tests, a, b)

-- the child is entered at the same cells
pub entered_same : (accesses : Accesses) (n : ℕ) (done now : ℕ → Bool) (s : Siblings) (parts : List Part) → ((c : ℕ) → done c ≡ now c) → IsEntered accesses n done s parts → IsEntered accesses n now s parts
entered_same accesses n done now s parts e h =
    record {
      kept = λ c. subst (λ b. KeptAt (λ i. accesses i c) (if b then n + 1 else n) s.members (value_at s.cells.pieces c)) (e c) (h.kept c);
      only = h.only;
      every = λ j c d. h.every j c (e c ∙ d);
    }

has_part_front : (parts more : List Part) (j c : ℕ) → HasPart parts j c → HasPart (parts ++ more) j c
has_part_front parts more j c h = record { part = h.part; there = in_front more h.there; from_is = h.from_is; cell = h.cell }

-- One run of cells of which the same is kept.
module _ (n : ℕ) (mode : Mode) (strong : Bool) (range : Range) (o : Option Groups) (old new : Siblings) (was now : List Part)
    (alike : (c : ℕ) → range.lo ≤ c → c < range.hi → value_at old.cells.pieces c ≡ o)
    (spot : Spot) (spot_of : spot ≡ spot_in old.members o mode)
    (told : (group : List Member) → IsChain old.members spot.before group → now ≡ was ++ map (part_of range strong) group)
    (at : ℕ) (more : List Member) (members : new.members ≡ old.members ++ more)
    (added : height spot.own ≤ length old.members → slice_get new.members at ≡ Some (record { child = n; mode = mode; strong = strong; older = spot.own }))
    (cells : Assigns range.lo range.hi (Some (record { now = at; before = kept_before mode spot.before })) old.cells.pieces new.cells.pieces) where
  module _ (accesses : Accesses) (done : ℕ → Bool) (free : (c : ℕ) → range.lo ≤ c → c < range.hi → done c ≡ false) (rights : (c : ℕ) → range.lo ≤ c → c < range.hi → accesses n c ≡ Holds mode strong)
      (h : IsEntered accesses n done old was) where
    abbrev inside : ℕ → Bool
    inside c = is_within range.lo range.hi c

    kept_here : (c : ℕ) → range.lo ≤ c → c < range.hi → KeptAt (λ i. accesses i c) n old.members o
    kept_here c a b =
        subst (λ x. KeptAt (λ i. accesses i c) n old.members x) (alike c a b)
        (subst (λ (d : Bool). KeptAt (λ i. accesses i c) (if d then n + 1 else n) old.members (value_at old.cells.pieces c)) (free c a b) (h.kept c))

    is_spot : (c : ℕ) → range.lo ≤ c → c < range.hi → IsSpot (λ i. accesses i c) n old.members spot
    is_spot c a b =
        subst (λ x. IsSpot (λ i. accesses i c) n old.members x) (sym spot_of)
        (spot_is (λ i. accesses i c) n old.members mode strong (rights c a b) o (kept_here c a b))

    abbrev first : IsSpot (λ i. accesses i range.lo) n old.members spot
    first = is_spot range.lo (omega arith) range.ordered

    abbrev group : List Member
    group = first.before.group

    parts_are : now ≡ was ++ map (part_of range strong) group
    parts_are = told group first.before.chain

    -- the group before is one for all cells of the run
    same_group : (c : ℕ) (a : range.lo ≤ c) (b : c < range.hi) → (is_spot c a b).before.group ≡ group
    same_group c a b = one_chain old.members spot.before (is_spot c a b).before.group group (is_spot c a b).before.chain first.before.chain

    -- The parts

    part_right : (m : Member) → IsIn m group → IsPart accesses n (part_of range strong m)
    part_right m i c e =
        let w = within_is range.lo range.hi c e in
        let s = is_spot c w.0 w.1 in
        let k : IsIn m s.before.group = subst (λ (g : List Member). IsIn m g) (sym (same_group c w.0 w.1)) i in
        let r = s.before.are.only m k in
        let both : are_strong (accesses m.child c) (accesses n c) ≡ (is_strong (accesses m.child c) && strong) =
        ap (λ x. are_strong (accesses m.child c) x) (rights c w.0 w.1) ∙ strong_both (accesses m.child c) mode strong (stands_first (λ x. accesses x c) m.child n r.0) in
        (r.0, ap (λ b. b && strong) r.1 ∙ sym both)

    only : (p : Part) → IsIn p now → IsPart accesses n p
    only p i = go (in_both was (subst (λ (xs : List Part). IsIn p xs) parts_are i))
      where
        go : IsIn p was ⊎ IsIn p (map (part_of range strong) group) → IsPart accesses n p
        go (inl k) = h.only p k
        go (inr k) = let r = in_map_back (part_of range strong) group k in subst (λ (q : Part). IsPart accesses n q) (sym r.1.1) (part_right r.0 r.1.0)

    every_here : (j c : ℕ) → range.lo ≤ c → c < range.hi → StandsAt accesses j n c → HasPart now j c
    every_here j c a b s =
        let r = (is_spot c a b).before.are.every j s in
        let i : IsIn r.0 group = subst (λ (g : List Member). IsIn r.0 g) (same_group c a b) r.1.0 in
        record {
          part = part_of range strong r.0;
          there = subst (λ (xs : List Part). IsIn (part_of range strong r.0) xs) (sym parts_are) (in_behind was (in_map (part_of range strong) i));
          from_is = r.1.1;
          cell = within_so range.lo range.hi c a b;
        }

    every : (j c : ℕ) → (done c || inside c) ≡ true → StandsAt accesses j n c → HasPart now j c
    every j c d s = go (bools (inside c))
      where
        go : (inside c ≡ true) ⊎ (inside c ≡ false) → HasPart now j c
        go (inl e) = let w = within_is range.lo range.hi c e in every_here j c w.0 w.1 s
        go (inr e) =
            let was_done : done c ≡ true = outside (done c) (inside c) e d in
            subst (λ (xs : List Part). HasPart xs j c) (sym parts_are) (has_part_front was (map (part_of range strong) group) j c (h.every j c was_done s))
          where
            outside : (x y : Bool) → y ≡ false → (x || y) ≡ true → x ≡ true
            outside true y f g = refl
            outside false y f g = absurd cc

    -- What is kept

    kept_in : (c : ℕ) → range.lo ≤ c → c < range.hi → KeptAt (λ i. accesses i c) (n + 1) new.members (Some (record { now = at; before = kept_before mode spot.before }))
    kept_in c a b =
        let s = is_spot c a b in
        let there_now = added (chain_within old.members spot.own s.own.group s.own.chain) in
        subst (λ (ms : List Member). KeptAt (λ i. accesses i c) (n + 1) ms (Some (record { now = at; before = kept_before mode spot.before }))) (sym members)
        (kept_next (λ i. accesses i c) n old.members mode strong (rights c a b) spot more at (record { child = n; mode = mode; strong = strong; older = spot.own }) s
        (subst (λ (ms : List Member). slice_get ms at ≡ Some (record { child = n; mode = mode; strong = strong; older = spot.own })) members there_now) refl)

    kept : (c : ℕ) → KeptAt (λ i. accesses i c) (if done c || inside c then n + 1 else n) new.members (value_at new.cells.pieces c)
    kept c = go (bools (inside c))
      where
        go : (inside c ≡ true) ⊎ (inside c ≡ false) → KeptAt (λ i. accesses i c) (if done c || inside c then n + 1 else n) new.members (value_at new.cells.pieces c)
        go (inl e) =
            let w = within_is range.lo range.hi c e in
            let value : value_at new.cells.pieces c ≡ Some (record { now = at; before = kept_before mode spot.before }) = cells c ∙ ap (λ (b : Bool). if b then Some (record { now = at; before = kept_before mode spot.before }) else value_at old.cells.pieces c) e in
            let is_done : (done c || inside c) ≡ true = ap (λ b. b || inside c) (free c w.0 w.1) ∙ e in
            subst (λ (b : Bool). KeptAt (λ i. accesses i c) (if b then n + 1 else n) new.members (value_at new.cells.pieces c)) (sym is_done)
            (subst (λ x. KeptAt (λ i. accesses i c) (n + 1) new.members x) (sym value) (kept_in c w.0 w.1))
        go (inr e) =
            let value : value_at new.cells.pieces c ≡ value_at old.cells.pieces c = cells c ∙ ap (λ (b : Bool). if b then Some (record { now = at; before = kept_before mode spot.before }) else value_at old.cells.pieces c) e in
            let is_done : (done c || inside c) ≡ done c = outside (done c) (inside c) e in
            subst (λ (b : Bool). KeptAt (λ i. accesses i c) (if b then n + 1 else n) new.members (value_at new.cells.pieces c)) (sym is_done)
            (subst (λ x. KeptAt (λ i. accesses i c) (if done c then n + 1 else n) new.members x) (sym value)
            (subst (λ (ms : List Member). KeptAt (λ i. accesses i c) (if done c then n + 1 else n) ms (value_at old.cells.pieces c)) (sym members)
            (kept_stays (λ i. accesses i c) (if done c then n + 1 else n) old.members more (value_at old.cells.pieces c) (h.kept c))))
          where
            outside : (x y : Bool) → y ≡ false → (x || y) ≡ x
            outside true y f = refl
            outside false y f = f

  pub enters_run : Enters n mode strong range.lo range.hi old new was now
  enters_run accesses done free rights h = record { kept = kept accesses done free rights h; only = only accesses done free rights h; every = every accesses done free rights h }

-- One run behind others

pub enters_none : (n : ℕ) (mode : Mode) (strong : Bool) (lo : ℕ) (s : Siblings) (parts : List Part) → Enters n mode strong lo lo s s parts parts
enters_none n mode strong lo s parts accesses done free rights h = entered_same accesses n done (λ c. done c || is_within lo lo c) s parts (λ c. sym (nothing c)) h
  where
    nothing : (c : ℕ) → (done c || is_within lo lo c) ≡ done c
    nothing c = go (bools (is_within lo lo c))
      where
        plain : (x y : Bool) → y ≡ false → (x || y) ≡ x
        plain true y f = refl
        plain false y f = f

        go : (is_within lo lo c ≡ true) ⊎ (is_within lo lo c ≡ false) → (done c || is_within lo lo c) ≡ done c
        go (inl e) = let w = within_is lo lo c e in let a = w.0 in let b = w.1 in absurd (omega (arith, a, b))
        go (inr e) = plain (done c) (is_within lo lo c) e

pub enters_more : (n : ℕ) (mode : Mode) (strong : Bool) (lo mid hi : ℕ) (old between new : Siblings) (was between_parts now : List Part) → lo ≤ mid → mid ≤ hi
    → Enters n mode strong lo mid old between was between_parts → Enters n mode strong mid hi between new between_parts now → Enters n mode strong lo hi old new was now
enters_more n mode strong lo mid hi old between new was between_parts now low high first second accesses done free rights h =
    entered_same accesses n (λ c. (done c || is_within lo mid c) || is_within mid hi c) (λ c. done c || is_within lo hi c) new now same_cells
    (second accesses (λ c. done c || is_within lo mid c) (λ c a b. free_now c a b) (λ c a b. rights c (omega (arith, low, a)) b)
    (first accesses done (λ c a b. free c a (omega (arith, high, b))) (λ c a b. rights c a (omega (arith, high, b))) h))
  where
    free_now : (c : ℕ) → mid ≤ c → c < hi → (done c || is_within lo mid c) ≡ false
    free_now c a b = ap (λ (x : Bool). x || is_within lo mid c) (free c (omega (arith, low, a)) b) ∙ not_before
      where
        not_before : is_within lo mid c ≡ false
        not_before = grind (arith, nat_tests, a)

    same_cells : (c : ℕ) → ((done c || is_within lo mid c) || is_within mid hi c) ≡ (done c || is_within lo hi c)
    same_cells c = go (done c)
      where
        go : (d : Bool) → ((d || is_within lo mid c) || is_within mid hi c) ≡ (d || is_within lo hi c)
        go true = refl
        go false = grind (arith, nat_tests, low, high)

-- Access by access

held_as : (x : Right) (m : Mode) (s : Bool) → Holds m s ≡ held_right x → x ≡ Holds m s
held_as (Holds mode strong) m s e = sym e
held_as NoRight m s e = absurd cc
held_as Released m s e = absurd cc

held_not : (x : Right) → NoRight ≡ held_right x → is_held x ≡ true → ⊥
held_not (Holds mode strong) e h = cc
held_not NoRight e h = cc
held_not Released e h = cc

or_false : (x y : Bool) → (x || y) ≡ false → (x ≡ false) × (y ≡ false)
or_false true y e = absurd cc
or_false false y e = (refl, e)

or_true : (x y : Bool) → x ≡ false → (x || y) ≡ true → y ≡ true
or_true true y f e = absurd cc
or_true false y f e = e

rest_rising : (a : Access) (xs : List Access) → IsRising (a ∷ xs) → IsRising xs
rest_rising a [] h = tt
rest_rising a (b ∷ xs) h = h.1

past_access : (a : Access) (xs : List Access) (c : ℕ) → in_access a c ≡ false → right_from false (a ∷ xs) c ≡ right_from false xs c
past_access a xs c e = rw e refl

at_access : (a : Access) (xs : List Access) (c : ℕ) → in_access a c ≡ true → right_from false xs c ≡ NoRight → right_from false (a ∷ xs) c ≡ Holds a.mode a.strong
at_access a xs c e f = rw (e, f) refl

-- accesses that rise: none behind one names a cell before its end
none_behind : (a : Access) (xs : List Access) (c : ℕ) → IsRising (a ∷ xs) → c < a.range.hi → right_from false xs c ≡ NoRight
none_behind a [] c h l = refl
none_behind a (b ∷ xs) c h l = go (bools (in_access b c)) (none_behind b xs c h.1 (let o = b.range.ordered in let m = h.0.behind in omega (arith, o, m, l)))
  where
    go : (in_access b c ≡ true) ⊎ (in_access b c ≡ false) → right_from false xs c ≡ NoRight → right_from false (b ∷ xs) c ≡ NoRight
    go (inl e) again = let w = within_is b.range.lo b.range.hi c e in let k = w.0 in let m = h.0.behind in absurd (omega (arith, k, m, l))
    go (inr e) again = past_access b xs c e ∙ again

-- one that stands before another ends before it
ends_before : (b : Access) (before : List Access) (a : Access) (after : List Access) → IsRising (b ∷ (before ++ a ∷ after)) → b.range.hi ≤ a.range.lo
ends_before b [] a after h = h.0.behind
ends_before b (x ∷ before) a after h =
    let m = h.0.behind in
    let o = x.range.ordered in
    let r = ends_before x before a after h.1 in
    omega (arith, m, o, r)

not_in : (b a : Access) (c : ℕ) → b.range.hi ≤ a.range.lo → in_access a c ≡ true → in_access b c ≡ false
not_in b a c l e = go (bools (in_access b c))
  where
    go : (in_access b c ≡ true) ⊎ (in_access b c ≡ false) → in_access b c ≡ false
    go (inr f) = f
    go (inl f) =
        let w = within_is a.range.lo a.range.hi c e in
        let v = within_is b.range.lo b.range.hi c f in
        let x = w.0 in
        let y = v.1 in
        absurd (omega (arith, x, y, l))

rising_free : (before : List Access) (a : Access) (after : List Access) (c : ℕ) → IsRising (before ++ a ∷ after) → in_access a c ≡ true → in_clauses before c ≡ false
rising_free [] a after c h e = refl
rising_free (b ∷ before) a after c h e =
    ap (λ (x : Bool). x || in_clauses before c) (not_in b a c (ends_before b before a after h) e) ∙ rising_free before a after c (rest_rising b (before ++ a ∷ after) h) e

rising_right : (before : List Access) (a : Access) (after : List Access) (c : ℕ) → IsRising (before ++ a ∷ after) → in_access a c ≡ true → right_from false (before ++ a ∷ after) c ≡ Holds a.mode a.strong
rising_right [] a after c h e = at_access a after c e (none_behind a after c h (within_is a.range.lo a.range.hi c e).1)
rising_right (b ∷ before) a after c h e =
    past_access b (before ++ a ∷ after) c (not_in b a c (ends_before b before a after h) e) ∙ rising_right before a after c (rest_rising b (before ++ a ∷ after) h) e

one_access_more : (before : List Access) (a : Access) (c : ℕ) → in_clauses (before ++ a ∷ []) c ≡ (in_clauses before c || is_within a.range.lo a.range.hi c)
one_access_more [] a c = or_right (in_access a c)
  where
    or_right : (x : Bool) → (x || false) ≡ x
    or_right true = refl
    or_right false = refl
one_access_more (b ∷ before) a c = ap (λ (x : Bool). in_access b c || x) (one_access_more before a c) ∙ sym (or_assoc (in_access b c) (in_clauses before c) (is_within a.range.lo a.range.hi c))
  where
    or_assoc : (x y z : Bool) → ((x || y) || z) ≡ (x || (y || z))
    or_assoc true y z = refl
    or_assoc false y z = refl

-- the child is entered with the accesses so far
abbrev pub EnteredWith : ℕ → List Access → List Access → Siblings → Siblings → List Part → Type 0
EnteredWith n clauses before old new parts = (accesses : Accesses) → Keeps accesses n old → HasAccesses accesses n clauses → IsEntered accesses n (λ c. in_clauses before c) new parts

pub entered_none : (n : ℕ) (clauses : List Access) (s : Siblings) → EnteredWith n clauses [] s s []
entered_none n clauses s accesses keeps has = record { kept = keeps; only = λ p i. absurd (elim i [ ]); every = λ j c d. absurd cc }

pub entered_more : (n : ℕ) (before : List Access) (a : Access) (after : List Access) (old between new : Siblings) (was now : List Part) → IsRising (before ++ a ∷ after)
    → EnteredWith n (before ++ a ∷ after) before old between was → Enters n a.mode a.strong a.range.lo a.range.hi between new was now
    → EnteredWith n (before ++ a ∷ after) (before ++ a ∷ []) old new now
entered_more n before a after old between new was now rising so_far enters accesses keeps has =
    entered_same accesses n (λ c. in_clauses before c || is_within a.range.lo a.range.hi c) (λ c. in_clauses (before ++ a ∷ []) c) new now (λ c. sym (one_access_more before a c))
    (enters accesses (λ c. in_clauses before c) (λ c l m. rising_free before a after c rising (within_so a.range.lo a.range.hi c l m))
    (λ c l m. held_as (accesses n c) a.mode a.strong (sym (rising_right before a after c rising (within_so a.range.lo a.range.hi c l m)) ∙ has c)) (so_far accesses keeps has))

not_named : (clauses : List Access) (c : ℕ) → in_clauses clauses c ≡ false → right_from false clauses c ≡ NoRight
not_named [] c e = refl
not_named (a ∷ rest) c e = let k = or_false (in_access a c) (in_clauses rest c) e in past_access a rest c k.0 ∙ not_named rest c k.1

module _ (n : ℕ) (clauses : List Access) (old new : Siblings) (parts : List Part) (entered : AreEntered n clauses old new parts) (accesses : Accesses) (keeps : Keeps accesses n old) (has : HasAccesses accesses n clauses) where
  all : IsEntered accesses n (λ c. in_clauses clauses c) new parts
  all = entered accesses keeps has

  none_there : (c : ℕ) → in_clauses clauses c ≡ false → is_held (accesses n c) ≡ true → ⊥
  none_there c e = held_not (accesses n c) (sym (not_named clauses c e) ∙ has c)

  pub keeps_next : Keeps accesses (n + 1) new
  keeps_next c = go (in_clauses clauses c) refl (all.kept c)
    where
      go : (b : Bool) → in_clauses clauses c ≡ b → KeptAt (λ i. accesses i c) (if b then n + 1 else n) new.members (value_at new.cells.pieces c) → KeptAt (λ i. accesses i c) (n + 1) new.members (value_at new.cells.pieces c)
      go true e h = h
      go false e h = kept_past (λ i. accesses i c) n new.members (value_at new.cells.pieces c) (none_there c e) h

  pub parts_next : AreParts accesses n parts
  parts_next = record { only = all.only; every = λ j c s. all.every j c (named c (stands_held (λ i. accesses i c) j n s)) s }
    where
      named : (c : ℕ) → is_held (accesses n c) ≡ true → in_clauses clauses c ≡ true
      named c h = go (in_clauses clauses c) refl
        where
          go : (b : Bool) → in_clauses clauses c ≡ b → in_clauses clauses c ≡ true
          go true e = e
          go false e = absurd (none_there c e h)

-- what follows where a call did not want memory
pub on_ok : {A E : Type 0} {T U : Type 0} (r : Result A E) → (T → U) → OnOk r T → OnOk r U
on_ok (Ok x) h t = h t
on_ok (Err e) h t = tt

pub if_ok : {A E : Type 0} {F G : A → Type 0} (r : Result A E) → ((x : A) → F x → G x) → IfOk r F → IfOk r G
if_ok (Ok x) h p = h x p
if_ok (Err e) h p = tt

pub entered_step : (n : ℕ) (xs : List Access) (i : ℕ) (a : Access) (old between new : Siblings) (was now : List Part) → i < length xs → a ≡ get_or xs i a → IsRising xs
    → EnteredWith n xs (take i xs) old between was → Enters n a.mode a.strong a.range.lo a.range.hi between new was now → EnteredWith n xs (take (i + 1) xs) old new now
entered_step n xs i a old between new was now l e rising so_far enters =
    let more : suc i ≡ i + 1 = omega arith in
    let left : drop i xs ≡ a ∷ drop (i + 1) xs = drop-cons xs i a l ∙ ap (λ y. y ∷ drop (suc i) xs) (sym e) ∙ ap (λ k. a ∷ drop k xs) more in
    let split : take i xs ++ a ∷ drop (i + 1) xs ≡ xs = ap (λ ys. take i xs ++ ys) (sym left) ∙ take-append-drop i xs in
    let front : take i xs ++ a ∷ [] ≡ take (i + 1) xs = ap (λ y. take i xs ++ y ∷ []) e ∙ sym (take_more xs i a l) in
    subst (λ (ys : List Access). EnteredWith n ys (take (i + 1) xs) old new now) split
    (subst (λ (ys : List Access). EnteredWith n (take i xs ++ a ∷ drop (i + 1) xs) ys old new now) front
    (entered_more n (take i xs) a (drop (i + 1) xs) old between new was now (subst IsRising (sym split) rising) (subst (λ (ys : List Access). EnteredWith n ys (take i xs) old between was) (sym split) so_far) enters))

pub entered_end : (n : ℕ) (xs : List Access) (i : ℕ) (old new : Siblings) (parts : List Part) → length xs ≤ i → EnteredWith n xs (take i xs) old new parts → AreEntered n xs old new parts
entered_end n xs i old new parts l h = subst (λ (ys : List Access). EnteredWith n xs ys old new parts) (take_all i xs l) h

pub in_any_case : {A E : Type 0} {T : Type 0} (r : Result A E) → T → OnOk r T
in_any_case (Ok x) t = t
in_any_case (Err e) t = tt
