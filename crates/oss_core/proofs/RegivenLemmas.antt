-- Cells that tasks of a core have given up are told anew.
use Rattle.std.proofs.Common.{◌≡◌, ◌≤◌, ◌<◌, ◌+◌, ◌⊎◌, inl, inr, ℕ, zero, suc, refl, sym, subst, ap, ◌∙◌, arith, Bool, true, false, List, [], ◌∷◌, length, Result, Ok, Err, Some, None}
use Rattle.std.specs.Prelude.{OnOk, ◌&&◌, if◌then◌else◌, nat_le, nat_lt, slice_get, slice_index_or}
use Rattle.std.proofs.lemmas.Option.{slice_get_within, slice_get-get_or}
use Rattle.std.proofs.lemmas.Bool.Decides.{nat_tests}
use Rattle.oss_syntax.specs.declared.access.Access.{Access}
use Rattle.oss_ranges.specs.Cells.{value_at}
use Rattle.oss_ranges.specs.declared.piece.Piece.{Piece}
use Rattle.oss_deps.specs.declared.opened.Open.{Open}
use Rattle.oss_deps.specs.Opens.{HasOpened, access_at, names}
use Rattle.oss_deps.specs.Seen.{Seen}
use Rattle.oss_judge.specs.Joined as joined
use Rattle.oss_kept_tasks.specs.declared.held.Held.{Held}
use Rattle.oss_kept_tasks.specs.declared.held.Owed.{Owed}
use Rattle.oss_model.specs.Order.{IsIn}
use Rattle.oss_model.specs.Rights.{Right, Holds, in_access}
use Rattle.oss_model.specs.Bodies.{Body}
use Rattle.oss_model.specs.Context.{right_of}
use Rattle.oss_model.specs.Machine.{Task, At}
use Rattle.oss_machine.specs.Frames.{CodeScript}
use Rattle.oss_machine.specs.Machines.{asks}
use Rattle.oss_syntax.specs.declared.access.Mode.{Mode}
use Rattle.oss_syntax.specs.declared.access.Mode.TheVariants.{Read, Write, Fold}
use Rattle.oss_core.specs.Kept.{owed_by, owed_of}
use Rattle.oss_tree.specs.Tasks as tree
use Rattle.oss_core.specs.Retelling.{AreAccesses, AreGaps, AreGiven, AreSome, Between, IsOwedNoMore, IsTold, Named}
use Rattle.oss_core.proofs.CoreLeftLemmas.{main_whole}
use Rattle.oss_core.proofs.EntryLemmas.{bounds, in_none, named_at}
use Rattle.oss_core.proofs.TreeFacts.{at_place, core_started}
use Rattle.oss_core.proofs.KeepLemmas.{some_is}
use Rattle.oss_core.proofs.MatchLemmas.{named_has}
use Rattle.oss_core.proofs.OwedLemmas.{behind, rising_rest}
use Rattle.oss_core.proofs.RetoldLemmas.{linked, rights_of, same_mode}

pub on_ok : {A E P Q : Type 0} (r : Result A E) → (P → Q) → OnOk r P → OnOk r Q
on_ok (Ok x) f p = f p
on_ok (Err e) f p = tt

below_or : (m n : ℕ) → (n < m) ⊎ (m ≤ n)
below_or m n = grind arith

and_both : (a b : Bool) → a ≡ true → b ≡ true → (a && b) ≡ true
and_both true b h k = k
and_both false b h k = absurd (let bad : ⊥ = cc in bad)

false_or : (b : Bool) → (b ≡ true → ⊥) → b ≡ false
false_or true f = absurd (f refl)
false_or false f = refl

true_not : {b : Bool} {A : Type 0} → b ≡ false → b ≡ true → A
true_not h k = let z : false ≡ true = sym h ∙ k in absurd (let bad : ⊥ = cc in bad)

-- accesses that rise name no cell twice
rising_apart : (xs : List Access) (i j : ℕ) (a b : Access) → joined.IsRising xs → slice_get xs i ≡ Some a → slice_get xs j ≡ Some b → i < j → a.range.hi ≤ b.range.lo
rising_apart [] i j a b r h k l = let z : None ≡ Some a = h in absurd (let bad : ⊥ = cc in bad)
rising_apart (x ∷ rest) i zero a b r h k l = absurd (omega (arith, l))
rising_apart (x ∷ rest) zero (suc j) a b r h k l = subst (λ (y : Access). y.range.hi ≤ b.range.lo) (some_is h) (behind x rest j b r k)
rising_apart (x ∷ rest) (suc i) (suc j) a b r h k l = rising_apart rest i j a b (rising_rest x rest r) h k (omega (arith, l))

-- the cells of one access more
module _ (task n : ℕ) (accesses : List Access) (a : Access) (owed : List (Piece Owed)) (old mid : Seen) (rising : joined.IsRising accesses) (is : slice_get accesses n ≡ Some a) (few : n < length accesses)
    (g : AreGaps task (Named n accesses) owed old mid) where
  more : (c : ℕ) → Named n accesses c → Named (n + 1) accesses c
  more c w = let l = w.2 in (w.0, w.1, omega (arith, l), w.3, w.4, w.5)

  pub all_named : ((c : ℕ) → Named (length accesses) accesses c → HasOpened old.opens c task) → (c : ℕ) → a.range.lo ≤ c → c < a.range.hi → HasOpened mid.opens c task
  all_named named c l h = subst (λ os. HasOpened os c task) (sym g.opens) (named c (n, a, few, is, l, h))

  pub all_held : ((c : ℕ) → old.given task c ≡ false) → (c : ℕ) → a.range.lo ≤ c → c < a.range.hi → mid.given task c ≡ false
  all_held held c l h = false_or (mid.given task c) (λ yes. elim (g.sound task c yes) [
    | inl k ↦ true_not (held c) k
    | inr k ↦
        let w = k.1 in
        let before = rising_apart accesses w.0 n w.1 a rising w.3 is w.2 in
        let high = w.5 in
        absurd (omega (arith, before, high, l))
  ])

  pub all_more : (new : Seen) → AreGaps task (Between a.range.lo a.range.hi) owed mid new → AreGaps task (Named (n + 1) accesses) owed old new
  all_more new x = record {
    opens = x.opens ∙ g.opens;
    keeps = λ t c h. x.keeps t c (g.keeps t c h);
    sound = λ t c h. elim (x.sound t c h) [
      | inl k ↦ elim (g.sound t c k) [ inl b ↦ inl b | inr b ↦ inr (b.0, more c b.1, b.2) ]
      | inr k ↦ inr (k.0, (n, a, omega arith, is, k.1.0, k.1.1), k.2)
    ];
    full = λ c w none. full c w none;
  }
    where
      full : (c : ℕ) → Named (n + 1) accesses c → value_at owed c ≡ None → new.given task c ≡ true
      full c w none = elim (below_or n w.0) [
        | inl l ↦ x.keeps task c (g.full c (w.0, w.1, l, w.3, w.4, w.5) none)
        | inr l ↦
            let m = w.2 in
            let at_ : w.0 ≡ n = omega (arith, l, m) in
            let same : w.1 ≡ a = some_is (sym w.3 ∙ (ap (λ (i : ℕ). slice_get accesses i) at_ ∙ is)) in
            x.full c (subst (λ (y : Access). Between y.range.lo y.range.hi c) same (w.4, w.5)) none
      ]

-- accesses that rise have one access at a cell
at_named : (xs : List Access) (i : ℕ) (a : Access) (c : ℕ) → joined.IsRising xs → slice_get xs i ≡ Some a → in_access a c ≡ true → access_at xs c ≡ Some a
at_named [] i a c r is h = let z : None ≡ Some a = is in absurd (let bad : ⊥ = cc in bad)
at_named (x ∷ rest) zero a c r is h = rw (subst (λ (y : Access). in_access y c ≡ true) (sym (some_is is)) h) is
at_named (x ∷ rest) (suc i) a c r is h =
    let before = behind x rest i a r is in
    let w = bounds a c h in
    let out : in_access x c ≡ false = false_or (in_access x c) (λ yes. let v = bounds x c yes in absurd (omega (arith, before, w.0, v.1))) in
    rw out (at_named rest i a c (rising_rest x rest r) is h)

place_named : (xs : List Access) (a : Access) (c : ℕ) → access_at xs c ≡ Some a → (i : ℕ) × (i < length xs) × (slice_get xs i ≡ Some a) × (in_access a c ≡ true)
place_named [] a c h = let z : None ≡ Some a = h in absurd (let bad : ⊥ = cc in bad)
place_named (x ∷ rest) a c h = go (in_access x c) refl (place_named rest a c)
  where
    go : (b : Bool) → in_access x c ≡ b → (access_at rest c ≡ Some a → (i : ℕ) × (i < length rest) × (slice_get rest i ≡ Some a) × (in_access a c ≡ true)) → (i : ℕ) × (i < length (x ∷ rest)) × (slice_get (x ∷ rest) i ≡ Some a) × (in_access a c ≡ true)
    go true e again =
        let same : x ≡ a = some_is (sym (ap (λ (b : Bool). if b then Some x else access_at rest c) e) ∙ h) in
        (0, omega arith, ap Some same, subst (λ (y : Access). in_access y c ≡ true) same e)
    go false e again =
        let k = again (sym (ap (λ (b : Bool). if b then Some x else access_at rest c) e) ∙ h) in
        let l = k.1 in
        (suc k.0, omega (arith, l), k.2, k.3)

in_access_is : (a : Access) (c : ℕ) → a.range.lo ≤ c → c < a.range.hi → in_access a c ≡ true
in_access_is a c l h = and_both (nat_le a.range.lo c) (nat_lt c a.range.hi) (grind (arith, nat_tests, l)) (grind (arith, nat_tests, h))

both_alike : (a b : Bool) → (a ≡ true → b ≡ true) → (b ≡ true → a ≡ true) → a ≡ b
both_alike true b f g = sym (f refl)
both_alike false true f g = g refl
both_alike false false f g = refl

-- a cell that is not owed, though the task has a right to it, is given
owed_none : (given : Bool) (r : Right) {k : ℕ} {q p : List ℕ} {m : Mode} {strong : Bool} → p ≡ k ∷ q → r ≡ Holds m strong → owed_of p given r ≡ None → given ≡ true
owed_none true r path right none = refl
owed_none false r {k = k} {q = q} {p = p} {m = m} {strong = strong} path right none =
    holds m strong (sym (ap (λ (x : Right). owed_by x) right) ∙ (sym (ap (λ (x : List ℕ). owed_of x false r) path) ∙ none))
  where
    holds : (m : Mode) (strong : Bool) → owed_by (Holds m strong) ≡ None → false ≡ true
    holds Read strong h = absurd (let bad : ⊥ = cc in bad)
    holds Write strong h = absurd (let bad : ⊥ = cc in bad)
    holds (Fold op) true h = absurd (let bad : ⊥ = cc in bad)
    holds (Fold op) false h = absurd (let bad : ⊥ = cc in bad)

given_none : (p : List ℕ) (given : Bool) (r : Right) → given ≡ true → owed_of p given r ≡ None
given_none [] given r h = refl
given_none (k ∷ p) true r h = refl
given_none (k ∷ p) false r h = absurd (let bad : ⊥ = cc in bad)

module _ (tasks : List Held) (t : tree.Kept) (some : AreSome tasks t) (seen : Seen) (told : IsTold tasks t.tasks (length t.tasks) 0 seen) where
  -- an entry is that of no main
  entry_child : (o : Open) → IsIn o seen.opens → 0 < o.task
  entry_child o i =
      let e = (told.each o i).0 in
      let later = (some.core.known.tree_is.children o.parent e.creator e.creator_is e.place o.task e.is).later in
      omega (arith, later)

  -- each task but main has an entry
  entry_for : (v : ℕ) → 0 < v → v < length t.tasks → (o : Open) × IsIn o seen.opens × (o.task ≡ v)
  entry_for v pos l =
      let x = slice_get-get_or t.tasks v (some.core.known.tree_is.main) l in
      let h = some.core.known.tree_is.created v (slice_index_or t.tasks v some.core.known.tree_is.main) pos x in
      told.all h.number_is h.place v h.creator h.at_ h.is (inl (slice_get_within t.tasks h.number_is h.creator h.at_))

  as_entry : ℕ → List Access → Open
  as_entry v accesses = record { task = v; parent = 0; accesses = accesses }

  -- the accesses of a task name what its entry names
  named_by : (v c : ℕ) (accesses : List Access) → AreAccesses tasks v accesses → Named (length accesses) accesses c → (o : Open) → IsIn o seen.opens → o.task ≡ v → names c o ≡ true
  unfolding as_entry
  named_by v c accesses has n o i same =
      let l = linked tasks t some o (told.each o i).0 in
      let is = subst (λ (w : ℕ). slice_get some.core.bodies w ≡ Some l.task) same l.task_is in
      let one = at_named accesses n.0 n.1 c has.rising n.3 (in_access_is n.1 c n.4 n.5) in
      (same_mode tasks t some (as_entry v accesses) o l.task.start.context c (rights_of tasks t some v accesses has l.task is) l.rights (named_at (as_entry v accesses) c n.1 one)).0

  named_back : (v c : ℕ) (accesses : List Access) → AreAccesses tasks v accesses → (o : Open) → IsIn o seen.opens → o.task ≡ v → names c o ≡ true → Named (length accesses) accesses c
  unfolding as_entry
  named_back v c accesses has o i same n =
      let l = linked tasks t some o (told.each o i).0 in
      let is = subst (λ (w : ℕ). slice_get some.core.bodies w ≡ Some l.task) same l.task_is in
      let yes = (same_mode tasks t some o (as_entry v accesses) l.task.start.context c l.rights (rights_of tasks t some v accesses has l.task is) n).0 in
      let a = named_has (as_entry v accesses) c yes in
      let p = place_named accesses a.0 c a.1 in
      let w = bounds a.0 c p.3 in
      (p.0, a.0, p.1, p.2, w.0, w.1)

  pub given_begin : AreGiven tasks 1 seen seen
  given_begin = record {
    opens = refl;
    sound = λ u c yes. true_not (told.given u c) yes;
    full = λ u c l h. let pos = entry_child h.entry h.listed in let n = h.number_is in absurd (omega (arith, l, pos, n));
  }

  module _ (v : ℕ) (pos : 1 ≤ v) (few : v < length t.tasks) (mid : Seen) (g : AreGiven tasks v seen mid) where
    pub cells_named : (accesses : List Access) → AreAccesses tasks v accesses → (c : ℕ) → Named (length accesses) accesses c → HasOpened mid.opens c v
    cells_named accesses has c n =
        let o = entry_for v pos few in
        record { entry = o.0; listed = subst (λ os. IsIn o.0 os) (sym g.opens) o.1; number = o.2; named = named_by v c accesses has n o.0 o.1 o.2 }

    pub cells_held : (c : ℕ) → mid.given v c ≡ false
    cells_held c = false_or (mid.given v c) (λ yes. let l = (g.sound v c yes).0 in absurd (omega (arith, l)))

    pub given_more : (new : Seen) → ((accesses : List Access) × AreAccesses tasks v accesses × (held : Held) × (slice_get tasks v ≡ Some held) × AreGaps v (Named (length accesses) accesses) held.owed.pieces mid new)
        → AreGiven tasks (v + 1) seen new
    given_more new x = record {
      opens = x.4.opens ∙ g.opens;
      sound = λ u c yes. elim (x.4.sound u c yes) [
        | inl k ↦ (let h = g.sound u c k in let l = h.0 in (omega (arith, l), h.1))
        | inr k ↦
            let o = entry_for v pos few in
            let e = k.0 in (
              omega (arith, e),
              subst (λ (w : ℕ). IsOwedNoMore tasks seen.opens w c) (sym k.0)
                  (record { entry = o.0; listed = o.1; number_is = o.2; named = named_by v c x.0 x.1 k.1 o.0 o.1 o.2; held = x.2; is = x.3; none = k.2 }),
            )
      ];
      full = λ u c l h. elim (below_or v u) [
        | inl m ↦ x.4.keeps u c (g.full u c m h)
        | inr m ↦
            let e : u ≡ v = omega (arith, l, m) in
            let held : h.held ≡ x.2 = some_is (sym h.is ∙ (ap (λ (w : ℕ). slice_get tasks w) e ∙ x.3)) in
            subst (λ (w : ℕ). new.given w c ≡ true) (sym e)
            (x.4.full c (named_back v c x.0 x.1 h.entry h.listed (h.number_is ∙ e) h.named) (subst (λ (y : Held). value_at y.owed.pieces c ≡ None) held h.none))
      ];
    }

  -- so what is given is what the old system was told
  pub given_same : (new : Seen) → AreGiven tasks (length t.tasks) seen new → (u c : ℕ) → new.given u c ≡ some.seen.given u c
  given_same new g u c = both_alike (new.given u c) (some.seen.given u c) there back
    where
      there : new.given u c ≡ true → some.seen.given u c ≡ true
      there told_so =
          let h = (g.sound u c told_so).1 in
          let l = linked tasks t some h.entry (told.each h.entry h.listed).0 in
          let is = subst (λ (w : ℕ). slice_get some.core.bodies w ≡ Some l.task) h.number_is l.task_is in
          let held = some.core.held.each u l.task h.held is h.is in
          let a = named_has h.entry c h.named in
          owed_none (some.seen.given u c) (right_of l.task.start.context c) l.path (l.rights.held c a.0 a.1) (sym (held.owed_is c) ∙ h.none)

      back : some.seen.given u c ≡ true → new.given u c ≡ true
      back told_so =
          let w = some.core.sound.within u c told_so in
          let x = body_at u w in
          let task = some.core.stands.there u x.0 x.1 in
          let i = (task.3 c).1 told_so in
          let right = (core_started some.core).given x.0.start.path task.0 c task.1 i in
          by_number u refl x task.0 task.1 task.2 i (ap (λ (y : Body CodeScript). right_of y.start.context c) (sym task.2) ∙ right.right) w
        where
          body_at : (v : ℕ) → v < length some.core.bodies → (b : Body CodeScript) × (slice_get some.core.bodies v ≡ Some b)
          body_at v l = at_place some.core.bodies v l

          by_number : (v : ℕ) → u ≡ v → (x : (b : Body CodeScript) × (slice_get some.core.bodies u ≡ Some b)) (task : Task CodeScript) → At some.state x.0.start.path task → task.body ≡ x.0 → IsIn c task.given
              → {m : Mode} {strong : Bool} → right_of x.0.start.context c ≡ Holds m strong → u < length some.core.bodies → new.given u c ≡ true
          by_number zero e x task at_ same i right w =
              let main = some.core.sound.tasks.main in
              let b : x.0 ≡ main.one = some_is (sym x.1 ∙ (ap (λ (n : ℕ). slice_get some.core.bodies n) e ∙ main.is)) in
              let path : x.0.start.path ≡ [] = ap (λ (y : Body CodeScript). y.start.path) b ∙ main.path in
              let none = main_whole (asks some.code) some.main some.first some.core.setting some.core.reached task (subst (λ (p : List ℕ). At some.state p task) path at_) in
              absurd (in_none (subst (λ (xs : List ℕ). IsIn c xs) none.given i))
          by_number (suc v) e x task at_ same i right w =
              let sizes_ = some.core.known.size in
              let few : u < length t.tasks = omega (arith, w, sizes_) in
              let o = entry_for u (omega (arith, e)) few in
              let l = linked tasks t some o.0 (told.each o.0 o.1).0 in
              let b : l.task ≡ x.0 = some_is (sym l.task_is ∙ (ap (λ (n : ℕ). slice_get some.core.bodies n) o.2 ∙ x.1)) in
              let a = l.rights.given c _ _ (ap (λ (y : Body CodeScript). right_of y.start.context c) b ∙ right) in
              let size = some.core.held.size in
              let h = at_place tasks u (omega (arith, w, size)) in
              let held = some.core.held.each u x.0 h.0 x.1 h.1 in
              g.full u c few (record {
                entry = o.0;
                listed = o.1;
                number_is = o.2;
                named = named_at o.0 c a.0 a.1;
                held = h.0;
                is = h.1;
                none = held.owed_is c ∙ given_none x.0.start.path (some.seen.given u c) (right_of x.0.start.context c) told_so;
              })
