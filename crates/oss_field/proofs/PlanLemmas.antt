-- The roles of a new task's entries: its own, and one for each of its cells, by their numbers.
use Rattle.std.proofs.Common.{◌≡◌, ◌≢◌, ◌⊎◌, inl, inr, sym, subst, refl, ◌∙◌, ap, ℕ, zero, suc, ◌<◌, ◌≤◌, ◌+◌, arith, Bool, true, false, List, [], ◌∷◌, Option, Some, None}
use Rattle.std.specs.Prelude.{◌==◌, ◌&&◌, if◌then◌else◌}
use Rattle.std.proofs.lemmas.Bool.Decides.{eqb_tells, nat_tests}
use Rattle.oss_model.specs.Rights.{Right, Holds, NoRight, Released}
use Rattle.oss_ranges.specs.Cells.{is_within}
use Rattle.oss_syntax.specs.declared.access.Mode.{Mode}
use Rattle.oss_syntax.specs.declared.access.Mode.TheVariants.{Read, Write, Fold}
use Rattle.oss_words.specs.declared.entry.EntryState.{EntryState}
use Rattle.oss_words.specs.Net.{Net, Place, apart, top, first, after}
use Rattle.oss_words.specs.Steps.{no_flags}
use Rattle.oss_words.specs.Sums.{num}
use Rattle.oss_words.specs.Views.{Among, among_first, among_later}
use Rattle.oss_words.proofs.SeatLemmas.{among_none}
use Rattle.oss_roles.specs.Counting.{AreNumbered, stands}
use Rattle.oss_roles.specs.Numbers.{cells_below, entry_number, has_cell}
use Rattle.oss_roles.specs.Roles.{Role, itself, on, Plans}
use Rattle.oss_field.specs.Known.{Unlinked}
use Rattle.oss_field.specs.Making.{drawn_beside, unlinked_from}
use Rattle.oss_field.specs.Plans.{needs_flag, waits_for}

-- the role of a task's own entry, and of that on a cell to which it has a right
abbrev pub own_role : List ℕ → ℕ → Role
own_role p t = record { path = p; site = itself; task = t; mode = Read; strong = false; counts = false }

abbrev pub role_on : List ℕ → ℕ → ℕ → Mode → Bool → Bool → Role
role_on p t c mode strong waits = record { path = p; site = on c; task = t; mode = mode; strong = strong; counts = waits }

abbrev pub cell_role : List ℕ → ℕ → (ℕ → Bool) → ℕ → Right → Option Role
cell_role p t begins c (Holds mode strong) = Some (role_on p t c mode strong (waits_for (Holds mode strong) (begins c)))
cell_role p t begins c NoRight = None
cell_role p t begins c Released = None

abbrev pub choose : Bool → Option Role → Option Role → Option Role
choose true x y = x
choose false x y = y

-- the role of this number among the entries on the first m cells
abbrev pub role_among : List ℕ → ℕ → (ℕ → Right) → (ℕ → Bool) → ℕ → ℕ → Option Role
role_among p t own begins zero e = None
role_among p t own begins (suc d) e = choose (has_cell (own d) && (e == entry_number t own d)) (cell_role p t begins d (own d)) (role_among p t own begins d e)

-- the cells below one that a task has are fewer than those below a later one
pub fewer : (own : ℕ → Right) (m c : ℕ) → c < m → has_cell (own c) ≡ true → cells_below own c < cells_below own m
fewer own zero c l h = absurd (omega (arith, l))
fewer own (suc d) c l h = go (same_or c d (omega (arith, l))) (λ k. fewer own d c k h)
  where
    same_or : (c d : ℕ) → c ≤ d → (c ≡ d) ⊎ (c < d)
    same_or c d l = grind arith

    one : num (has_cell (own c)) ≡ 1
    one = ap num h

    go : (c ≡ d) ⊎ (c < d) → (c < d → cells_below own c < cells_below own d) → cells_below own c < cells_below own (suc d)
    go (inl e) again =
        let here = ap (λ (z : ℕ). num (has_cell (own z))) e in
        let there = ap (λ (z : ℕ). cells_below own z) e in
        omega (arith, one, here, there)
    go (inr k) again = let less = again k in omega (arith, less)

and_false : (b : Bool) → (b && false) ≡ false
and_false true = refl
and_false false = refl

pub has_held : (r : Right) (mode : Mode) (strong : Bool) → r ≡ Holds mode strong → has_cell r ≡ true
has_held r mode strong is = ap has_cell is

module _ (p : List ℕ) (t : ℕ) (own : ℕ → Right) (begins : ℕ → Bool) where
  -- the entry on a cell that the task has has the role of that cell
  pub role_at : (m c : ℕ) → c < m → (mode : Mode) (strong : Bool) → own c ≡ Holds mode strong → role_among p t own begins m (entry_number t own c) ≡ Some (role_on p t c mode strong (waits_for (Holds mode strong) (begins c)))
  role_at zero c l mode strong is = absurd (omega (arith, l))
  role_at (suc d) c l mode strong is = elim (same_or c d (omega (arith, l))) [
    | inl e ↦ here e
    | inr k ↦ ap (λ (b : Bool). choose b (cell_role p t begins d (own d)) (role_among p t own begins d (entry_number t own c))) (skip k) ∙ role_at d c k mode strong is
  ]
    where
      same_or : (c d : ℕ) → c ≤ d → (c ≡ d) ⊎ (c < d)
      same_or c d l = grind arith

      same_number : (x y : ℕ) → x ≡ y → (x == y) ≡ true
      same_number x y q = elim (eqb_tells x y) [ inl h ↦ h.0 | inr h ↦ absurd (h.1 q) ]

      at_last : role_among p t own begins (suc c) (entry_number t own c) ≡ Some (role_on p t c mode strong (waits_for (Holds mode strong) (begins c)))
      at_last =
          ap (λ (b : Bool). choose (has_cell (own c) && b) (cell_role p t begins c (own c)) (role_among p t own begins c (entry_number t own c))) (same_number (entry_number t own c) (entry_number t own c) refl)
          ∙ ap (λ (r : Right). choose (has_cell r && true) (cell_role p t begins c r) (role_among p t own begins c (entry_number t own c))) is

      here : c ≡ d → role_among p t own begins (suc d) (entry_number t own c) ≡ Some (role_on p t c mode strong (waits_for (Holds mode strong) (begins c)))
      here e = subst (λ (z : ℕ). role_among p t own begins (suc z) (entry_number t own c) ≡ Some (role_on p t c mode strong (waits_for (Holds mode strong) (begins c)))) e at_last

      skip : c < d → (has_cell (own d) && (entry_number t own c == entry_number t own d)) ≡ false
      skip k = elim (eqb_tells (entry_number t own c) (entry_number t own d)) [
        | inl q ↦ absurd (let f = fewer own d c k (has_held (own c) mode strong is) in let z : t + 1 + cells_below own c ≡ t + 1 + cells_below own d = q.1 in omega (arith, f, z))
        | inr q ↦ ap (λ (b : Bool). has_cell (own d) && b) q.0 ∙ and_false (has_cell (own d))
      ]

  -- a role among those of the first m cells is that of one of them
  pub record FromCell (m e : ℕ) (r : Role) : Type 0 where
    pub cell : ℕ
    pub low : cell < m
    pub mode : Mode
    pub strong : Bool
    pub right : own cell ≡ Holds mode strong
    pub number : e ≡ entry_number t own cell
    pub it : r ≡ role_on p t cell mode strong (waits_for (Holds mode strong) (begins cell))

  pub role_from : (m e : ℕ) (r : Role) → role_among p t own begins m e ≡ Some r → FromCell m e r
  role_from zero e r is = absurd (let z : None ≡ Some r = is in let bad : ⊥ = cc in bad)
  role_from (suc d) e r is = go (own d) refl (e == entry_number t own d) (eqb_tells e (entry_number t own d)) (λ h. role_from d e r h) is
    where
      wider : FromCell d e r → FromCell (suc d) e r
      wider h = let l = h.low in record { cell = h.cell; low = omega (arith, l); mode = h.mode; strong = h.strong; right = h.right; number = h.number; it = h.it }

      same_role : (x y : Role) → Some x ≡ Some y → y ≡ x
      same_role x y h = cc

      go : (o : Right) → own d ≡ o → (b : Bool) → ((b ≡ true) × (e ≡ entry_number t own d)) ⊎ ((b ≡ false) × (e ≢ entry_number t own d)) → (role_among p t own begins d e ≡ Some r → FromCell d e r)
          → choose (has_cell o && b) (cell_role p t begins d o) (role_among p t own begins d e) ≡ Some r → FromCell (suc d) e r
      go (Holds mode strong) q true (inl y) again h = record {
        cell = d;
        low = omega arith;
        mode = mode;
        strong = strong;
        right = q;
        number = y.1;
        it = same_role (role_on p t d mode strong (waits_for (Holds mode strong) (begins d))) r h;
      }
      go (Holds mode strong) q true (inr y) again h = absurd (let z : true ≡ false = y.0 in let bad : ⊥ = cc in bad)
      go (Holds mode strong) q false y again h = wider (again h)
      go NoRight q b y again h = wider (again h)
      go Released q b y again h = wider (again h)

  -- its number is behind the task's own, and among those of the block
  pub cell_number : (m e : ℕ) (r : Role) → FromCell m e r → (t < e) × (e < t + 1 + cells_below own m)
  cell_number m e r f =
      let q : e ≡ t + 1 + cells_below own f.cell = f.number in
      let l = fewer own m f.cell f.low (has_held (own f.cell) f.mode f.strong f.right) in (omega (arith, q), omega (arith, q, l))

-- what stands first: the task's own role, that of one of its cells, or what was there before
abbrev pub or_role : Option Role → Option Role → Option Role
or_role None old = old
or_role (Some r) old = Some r

-- all roles after those of a new task are given
abbrev pub with_roles : List ℕ → ℕ → (ℕ → Right) → (ℕ → Bool) → ℕ → (ℕ → Option Role) → ℕ → Option Role
with_roles p t own begins m role e = choose (e == t) (Some (own_role p t)) (or_role (role_among p t own begins m e) (role e))

pub is_apart : (x : Place) → (x ≢ apart → ⊥) → x ≡ apart
is_apart apart h = refl
is_apart top h = absurd (h (λ q. let bad : ⊥ = cc in bad))
is_apart (first o) h = absurd (h (λ q. let bad : ⊥ = cc in bad))
is_apart (after o) h = absurd (h (λ q. let bad : ⊥ = cc in bad))

pub site_cell : (c d : ℕ) → on c ≡ on d → c ≡ d
site_cell c d h = cc

waits_strongly : (mode : Mode) (strong begins : Bool) → waits_for (Holds mode strong) begins ≡ true → (strong ≡ true) × (needs_flag mode ≡ true)
waits_strongly Read true false h = (refl, refl)
waits_strongly Write true false h = (refl, refl)
waits_strongly (Fold op) true false h = absurd (let z : false ≡ true = h in let bad : ⊥ = cc in bad)
waits_strongly Read true true h = absurd (let z : false ≡ true = h in let bad : ⊥ = cc in bad)
waits_strongly Write true true h = absurd (let z : false ≡ true = h in let bad : ⊥ = cc in bad)
waits_strongly (Fold op) true true h = absurd (let z : false ≡ true = h in let bad : ⊥ = cc in bad)
waits_strongly mode false begins h = absurd (let z : false ≡ true = h in let bad : ⊥ = cc in bad)

no_flag_stands : (mode : Mode) → needs_flag mode ≡ true → stands mode no_flags ≡ false
no_flag_stands Read h = refl
no_flag_stands Write h = refl
no_flag_stands (Fold op) h = absurd (let z : false ≡ true = h in let bad : ⊥ = cc in bad)

-- a cell that a task has, and its right to it
pub right_held : (r : Right) → has_cell r ≡ true → (mode : Mode) × (strong : Bool) × (r ≡ Holds mode strong)
right_held (Holds mode strong) h = (mode, strong, refl)
right_held NoRight h = absurd (let z : false ≡ true = h in let bad : ⊥ = cc in bad)
right_held Released h = absurd (let z : false ≡ true = h in let bad : ⊥ = cc in bad)

-- The roles after the plan of a task

module _ (p : List ℕ) (t : ℕ) (own : ℕ → Right) (begins : ℕ → Bool) (m : ℕ) (role : ℕ → Option Role) where
  abbrev pub role' : ℕ → Option Role
  role' = with_roles p t own begins m role

  -- where a role is from
  pub data Source (e : ℕ) (r : Role) : Type 0 where
    of_task : e ≡ t → r ≡ own_role p t → Source e r
    of_cell : FromCell p t own begins m e r → Source e r
    of_old : role e ≡ Some r → role' e ≡ role e → Source e r

  pub at_own : role' t ≡ Some (own_role p t)
  at_own = elim (eqb_tells t t) [ inl h ↦ ap (λ (b : Bool). choose b (Some (own_role p t)) (or_role (role_among p t own begins m t) (role t))) h.0 | inr h ↦ absurd (h.1 refl) ]

  behind : (e : ℕ) → e ≢ t → role' e ≡ or_role (role_among p t own begins m e) (role e)
  behind e ne = elim (eqb_tells e t) [ inl h ↦ absurd (ne h.1) | inr h ↦ ap (λ (b : Bool). choose b (Some (own_role p t)) (or_role (role_among p t own begins m e) (role e))) h.0 ]

  pub at_cell : (c : ℕ) → c < m → (mode : Mode) (strong : Bool) → own c ≡ Holds mode strong → role' (entry_number t own c) ≡ Some (role_on p t c mode strong (waits_for (Holds mode strong) (begins c)))
  at_cell c low mode strong is =
      behind (entry_number t own c) (λ q. let z : t + 1 + cells_below own c ≡ t = q in absurd (omega (arith, z)))
      ∙ ap (λ (o : Option Role). or_role o (role (entry_number t own c))) (role_at p t own begins m c low mode strong is)

  -- the role of a number is that of the task, that of one of its cells, or what it was
  pub each_role : (e : ℕ) → ((e ≡ t) × (role' e ≡ Some (own_role p t))) ⊎ (((r : Role) × FromCell p t own begins m e r × (role' e ≡ Some r)) ⊎ (role' e ≡ role e))
  each_role e = elim (eqb_tells e t) [
    | inl h ↦ inl (h.1, ap (λ (b : Bool). choose b (Some (own_role p t)) (or_role (role_among p t own begins m e) (role e))) h.0)
    | inr h ↦ inr (by_cell (role_among p t own begins m e) refl h.1)
  ]
    where
      by_cell : (o : Option Role) → role_among p t own begins m e ≡ o → e ≢ t → ((r : Role) × FromCell p t own begins m e r × (role' e ≡ Some r)) ⊎ (role' e ≡ role e)
      by_cell None q ne = inr (behind e ne ∙ ap (λ (o : Option Role). or_role o (role e)) q)
      by_cell (Some r) q ne = inl (r, role_from p t own begins m e r q, behind e ne ∙ ap (λ (o : Option Role). or_role o (role e)) q)

  pub source : (e : ℕ) (r : Role) → role' e ≡ Some r → Source e r
  source e r is = elim (each_role e) [
    | inl h ↦ of_task h.0 (same (own_role p t) r (sym h.1 ∙ is))
    | inr g ↦ elim g [
      | inl h ↦ of_cell (subst (λ (z : Role). FromCell p t own begins m e z) (sym (same h.0 r (sym h.2 ∙ is))) h.1)
      | inr h ↦ of_old (sym h ∙ is) h
    ]
  ]
    where
      same : (x y : Role) → Some x ≡ Some y → y ≡ x
      same x y h = cc

  pub low_number : (c : ℕ) → c < m → has_cell (own c) ≡ true → (t < entry_number t own c) × (entry_number t own c < t + 1 + cells_below own m)
  low_number c low has = let l = fewer own m c low has in (omega arith, omega (arith, l))

  -- the number of a new role is one of the block
  pub in_block : (e : ℕ) (r : Role) → FromCell p t own begins m e r → (t ≤ e) × (e < t + 1 + cells_below own m)
  in_block e r f = let n = cell_number p t own begins m e r f in let x = n.0 in (omega (arith, x), n.1)

  -- what drawn entries give, and what the rule says of old roles
  module _ (net : Net) (hung : (e : ℕ) → net.place e ≢ apart → (r : Role) × (role e ≡ Some r)) (drawn : (e : ℕ) → t ≤ e → e < t + 1 + cells_below own m → role e ≡ None)
      (fresh : (e : ℕ) (r : Role) → role e ≡ Some r → r.path ≢ p) (old_task : (e : ℕ) (r : Role) → role e ≡ Some r → r.task ≢ t) where
    loose : (e : ℕ) → role e ≡ None → net.place e ≡ apart
    loose e none = is_apart (net.place e) (λ ne. let h = hung e ne in let z : None ≡ Some h.0 = sym none ∙ h.1 in cc)

    unused : role t ≡ None
    unused = drawn t (omega arith) (omega arith)

    one_entry : (e f : ℕ) (r q : Role) → Source e r → Source f q → r.path ≡ p → q.path ≡ p → r.site ≡ q.site → e ≡ f
    one_entry e f r q (of_old is same) y path path' site = absurd (fresh e r is path)
    one_entry e f r q x (of_old is same) path path' site = absurd (fresh f q is path')
    one_entry e f r q (of_task a b) (of_task c d) path path' site = a ∙ sym c
    one_entry e f r q (of_task a b) (of_cell y) path path' site = absurd (let z : itself ≡ on y.cell = ap (λ (x : Role). x.site) (sym b) ∙ (site ∙ ap (λ (x : Role). x.site) y.it) in let bad : ⊥ = cc in bad)
    one_entry e f r q (of_cell x) (of_task c d) path path' site = absurd (let z : on x.cell ≡ itself = ap (λ (w : Role). w.site) (sym x.it) ∙ (site ∙ ap (λ (w : Role). w.site) d) in let bad : ⊥ = cc in bad)
    one_entry e f r q (of_cell x) (of_cell y) path path' site =
        let c : x.cell ≡ y.cell = site_cell x.cell y.cell (ap (λ (w : Role). w.site) (sym x.it) ∙ (site ∙ ap (λ (w : Role). w.site) y.it)) in
        x.number ∙ (ap (λ (z : ℕ). entry_number t own z) c ∙ sym y.number)

    pub plans : role 0 ≡ None → t ≢ 0 → (k : ℕ) (a : List ℕ) → p ≡ k ∷ a → Plans net role role' t p
    plans main pos k a is = record {
      each = λ e. elim (each_role e) [
        | inl h ↦ let none : role e ≡ None = ap role h.0 ∙ unused in inr (none, own_role p t, h.1, refl, refl, loose e none)
        | inr g ↦ elim g [
          | inl h ↦ let b = in_block e h.0 h.1 in let none = drawn e b.0 b.1 in inr (none, h.0, h.2, ap (λ (x : Role). x.path) h.1.it, ap (λ (x : Role). x.task) h.1.it, loose e none)
          | inr h ↦ inl h
        ]
      ];
      fresh = fresh;
      own = (own_role p t, at_own, refl, refl);
      unused = unused;
      not_main = elim (each_role 0) [
        | inl h ↦ absurd (pos (sym h.0))
        | inr g ↦ elim g [
          | inl h ↦ absurd (let b = (cell_number p t own begins m 0 h.0 h.1).0 in omega (arith, b))
          | inr h ↦ h ∙ main
        ]
      ];
      child = (k, a, is);
      one = λ e f r q re rf path path' site. one_entry e f r q (source e r re) (source f q rf) path path' site;
    }

    -- what the count of the new task says of its entries
    module _ (states : ℕ → EntryState) (blank : (e : ℕ) → role e ≡ None → states e ≡ no_flags) where
      waited_by : (e : ℕ) (r : Role) → Source e r → r.task ≡ t → r.counts ≡ true → stands r.mode (states e) ≡ false
      waited_by e r (of_old is same) task counts = absurd (old_task e r is task)
      waited_by e r (of_task q it) task counts = absurd (let z : false ≡ true = ap (λ (x : Role). x.counts) (sym it) ∙ counts in let bad : ⊥ = cc in bad)
      waited_by e r (of_cell x) task counts =
          let b = in_block e r x in
          let w = waits_strongly x.mode x.strong (begins x.cell) (ap (λ (z : Role). z.counts) (sym x.it) ∙ counts) in
          ap (λ (z : Role). stands z.mode (states e)) x.it ∙ (ap (λ (z : EntryState). stands x.mode z) (blank e (drawn e b.0 b.1)) ∙ no_flag_stands x.mode w.1)

      no_more : (e : ℕ) (r : Role) → Source e r → r.task ≡ t → (e ≡ t) ⊎ ((c : ℕ) × (c < m) × (has_cell (own c) ≡ true) × (e ≡ entry_number t own c))
      no_more e r (of_old is same) task = absurd (old_task e r is task)
      no_more e r (of_task q it) task = inl q
      no_more e r (of_cell x) task = inr (x.cell, x.low, has_held (own x.cell) x.mode x.strong x.right, x.number)

      pub numbered : AreNumbered role' states t m own (λ c. waits_for (own c) (begins c))
      numbered = record {
        own_role = (own_role p t, at_own, refl);
        each = λ c low has. let h = right_held (own c) has in
            (role_on p t c h.0 h.1 (waits_for (Holds h.0 h.1) (begins c)), at_cell c low h.0 h.1 h.2, refl, ap (λ (z : Right). waits_for z (begins c)) (sym h.2));
        no_more = λ e r is task. no_more e r (source e r is) task;
        waited = λ e r is task counts. waited_by e r (source e r is) task counts;
      }

  pub strongly : ((e : ℕ) (r : Role) → role e ≡ Some r → r.path ≢ p) → (e : ℕ) (r : Role) → role' e ≡ Some r → r.path ≡ p → r.counts ≡ true → r.strong ≡ true
  strongly fresh e r is path counts = go (source e r is)
    where
      go : Source e r → r.strong ≡ true
      go (of_old old same) = absurd (fresh e r old path)
      go (of_task q it) = absurd (let z : false ≡ true = ap (λ (x : Role). x.counts) (sym it) ∙ counts in let bad : ⊥ = cc in bad)
      go (of_cell x) =
          let w = waits_strongly x.mode x.strong (begins x.cell) (ap (λ (z : Role). z.counts) (sym x.it) ∙ counts) in
          ap (λ (z : Role). z.strong) x.it ∙ w.0

-- Entries that are drawn and not linked

-- one of those that are not linked
pub unlinked_of : (t e k : ℕ) (z : Unlinked) → Among z (unlinked_from t e k) → (z.task ≡ t) × (e ≤ z.entry) × (z.entry < e + k) × (z.state ≡ no_flags) × (z.info ≡ None) × (z.cell ≡ None)
unlinked_of t e zero z a = among_none z a
unlinked_of t e (suc k) z (among_first q) =
    let n : e ≡ z.entry = ap (λ (x : Unlinked). x.entry) q in (sym (ap (λ (x : Unlinked). x.task) q), omega (arith, n), omega (arith, n), sym (ap (λ (x : Unlinked). x.state) q), sym (ap (λ (x : Unlinked). x.info) q), sym (ap (λ (x : Unlinked). x.cell) q))
unlinked_of t e (suc k) z (among_later a) =
    let r = unlinked_of t (suc e) k z a in let x = r.1 in let y = r.2 in (r.0, omega (arith, x), omega (arith, y), r.3, r.4, r.5)

pub unlinked_is : (t e k x : ℕ) → e ≤ x → x < e + k → Among (record { task = t; entry = x; state = no_flags; info = None; cell = None }) (unlinked_from t e k)
unlinked_is t e zero x low high = absurd (omega (arith, low, high))
unlinked_is t e (suc k) x low high = elim (same_or e x low) [
  | inl q ↦ among_first (ap (λ (z : ℕ). record { task = t; entry = z; state = no_flags; info = None; cell = None }) q)
  | inr l ↦ among_later (unlinked_is t (suc e) k x (omega (arith, l)) (omega (arith, high)))
]
  where
    same_or : (c d : ℕ) → c ≤ d → (c ≡ d) ⊎ (c < d)
    same_or c d l = grind arith

-- what is drawn and left
pub drawn_left : (lo hi : ℕ) (l : List ℕ) (e : ℕ) → Among e (drawn_beside lo hi l) → Among e l × (is_within lo hi e ≡ false)
drawn_left lo hi [] e a = among_none e a
drawn_left lo hi (x ∷ l) e a = go (is_within lo hi x) refl (λ b. drawn_left lo hi l e b) a
  where
    go : (b : Bool) → is_within lo hi x ≡ b → (Among e (drawn_beside lo hi l) → Among e l × (is_within lo hi e ≡ false)) → Among e (if b then drawn_beside lo hi l else x ∷ drawn_beside lo hi l) → Among e (x ∷ l) × (is_within lo hi e ≡ false)
    go true q again a = let r = again a in (among_later r.0, r.1)
    go false q again a = elim a [
      | among_first s ↦ (among_first s, ap (λ (z : ℕ). is_within lo hi z) (sym s) ∙ q)
      | among_later b ↦ let r = again b in (among_later r.0, r.1)
    ]

pub not_within : (lo hi e : ℕ) → is_within lo hi e ≡ false → lo ≤ e → e < hi → ⊥
not_within lo hi e h low high = grind (arith, nat_tests)
