-- Listed bodies stand for the state: entries for them are made one after the other.
use Rattle.std.proofs.Common.{◌≡◌, ◌⊎◌, inl, inr, sym, subst, refl, ◌∙◌, ap, ℕ, zero, suc, ◌<◌, arith, Bool, true, List, [], ◌∷◌, ◌++◌, length, Some}
use Rattle.std.specs.Prelude.{slice_get}
use Rattle.std.proofs.lemmas.Option.{slice_get_within}
use Rattle.oss_code.specs.declared.code.CodeParts.{CodeParts}
use Rattle.oss_core.specs.Below.{MayOpen}
use Rattle.oss_core.specs.Kept.{own}
use Rattle.oss_core.specs.Moving.{AreSound}
use Rattle.oss_core.specs.Standing.{AreRightsOf, IsLinked, IsNumbered, StandsFor}
use Rattle.oss_core.proofs.EntryLemmas.{in_added, in_front, in_last, named_at, opens_added, rising_once}
use Rattle.oss_core.proofs.KeepLemmas.{some_is, which}
use Rattle.oss_core.proofs.MatchLemmas.{named_has}
use Rattle.oss_core.proofs.NeedLemmas.{are_rights, opens_rising}
use Rattle.oss_core.proofs.TreeFacts.{at_place}
use Rattle.oss_deps.specs.declared.opened.Open.{Open}
use Rattle.oss_deps.specs.Opens as opens
use Rattle.oss_deps.specs.Opens.{AreOpens, HasCover, IsKnown, IsOpened, Precedes, mode_at, names}
use Rattle.oss_machine.specs.Frames.{CodeScript}
use Rattle.oss_machine.specs.Machines.{asks}
use Rattle.oss_model.specs.Agreement.{Agrees, Setting}
use Rattle.oss_model.specs.Bodies.{Body, Start}
use Rattle.oss_model.specs.Context.{right_of}
use Rattle.oss_model.specs.History.{IsMade}
use Rattle.oss_model.specs.Machine.{Task, State, At}
use Rattle.oss_model.specs.Moves.{Reached, created_now, opening}
use Rattle.oss_model.specs.Order.{IsIn, here, there}
use Rattle.oss_model.specs.Rights.{Holds, covers}
use Rattle.oss_model.specs.Sequence.{Sequential}
use Rattle.oss_model.proofs.AgreementTheorem.{reached_agrees}
use Rattle.oss_model.proofs.StageLemmas.{created_grows, creation_counts}
use Rattle.oss_model.proofs.TreeLemmas.{access_up, at_same}
use Rattle.oss_syntax.specs.declared.access.Access.{Access}
use Rattle.oss_syntax.specs.declared.access.Mode.{Mode}
use Rattle.oss_listed_laws.specs.Listed.{AreAccessesOf, AreGivenBy, AreListed, ListedTasksStand}

-- of a list with one more at its end, one stands before another
precedes_more : {x y : Open} (xs : List Open) (z : Open) → Precedes x y (xs ++ z ∷ []) → Precedes x y xs ⊎ (IsIn x xs × (y ≡ z))
precedes_more [] z (opens.first i) = elim i [ ]
precedes_more [] z (opens.later h) = elim h [ ]
precedes_more {x = x} {y = y} (w ∷ xs) z (opens.first i) = go (in_added xs z i)
  where
    go : IsIn y xs ⊎ (y ≡ z) → Precedes x y (x ∷ xs) ⊎ (IsIn x (x ∷ xs) × (y ≡ z))
    go (inl k) = inl (opens.first k)
    go (inr e) = inr (here, e)
precedes_more {x = x} {y = y} (w ∷ xs) z (opens.later h) = go (precedes_more xs z h)
  where
    go : Precedes x y xs ⊎ (IsIn x xs × (y ≡ z)) → Precedes x y (w ∷ xs) ⊎ (IsIn x (w ∷ xs) × (y ≡ z))
    go (inl k) = inl (opens.later k)
    go (inr e) = inr (there e.0, e.1)

-- numbers of children in order, or not
three : (m n : ℕ) → (m < n) ⊎ ((m ≡ n) ⊎ (n < m))
three m n = grind arith

module _ (code : CodeParts) (main : Start CodeScript) (first : List ℕ) (s : State CodeScript) (bodies : List (Body CodeScript)) (accesses : ℕ → List Access) (given : ℕ → ℕ → Bool)
    (setting : Setting main first) (reached : Reached (asks code) main first s) (listed : AreListed s bodies) (of : AreAccessesOf bodies accesses) (gave : AreGivenBy s bodies given) where
  made : IsMade (asks code) main s
  made = let a : Agrees (asks code) main first (record { state = opening main first; active = []; printed = [] }) s = reached_agrees (asks code) main first (record { state = opening main first; active = []; printed = [] }) setting Sequential.opens s reached in a.made

  numbered : (v : ℕ) (b : Body CodeScript) → slice_get bodies v ≡ Some b → IsNumbered own bodies v b.start.path
  numbered v b is = record { one = b; is = is; path = refl }

  -- the body of the task at the path of a body is that body
  body_is : (v : ℕ) (b : Body CodeScript) (t : Task CodeScript) → slice_get bodies v ≡ Some b → At s b.start.path t → t.body ≡ b
  body_is v b t is at_ = let x = listed.there v b is in ap (λ (y : Task CodeScript). y.body) (at_same s b.start.path t x.0 at_ x.1) ∙ x.2

  -- each body but the first is that of a child
  record Below (c : ℕ) (b : Body CodeScript) : Type 0 where
    number : ℕ
    creator : Body CodeScript
    is : slice_get bodies number ≡ Some creator
    child : ℕ
    path : b.start.path ≡ child ∷ creator.start.path
    below : number < c

  below_of : (c : ℕ) (b : Body CodeScript) → slice_get bodies c ≡ Some b → 0 < c → Below c b
  below_of c b is some = go b.start.path refl
    where
      go : (p : List ℕ) → b.start.path ≡ p → Below c b
      go [] e =
          let same = listed.one c 0 [] (record { one = b; is = is; path = e }) listed.main in
          absurd (omega (arith, same, some))
      go (j ∷ p) e =
          let x = listed.there c b is in
          let mk = made.child j p x.0 (subst (λ (q : List ℕ). At s q x.0) e x.1) in
          let v = listed.back p mk.creator mk.at_ in
          record {
            number = v.0;
            creator = v.1.one;
            is = v.1.is;
            child = j;
            path = e ∙ ap (λ (q : List ℕ). j ∷ q) (sym v.1.path);
            below = listed.creator v.0 c j p v.1 (record { one = b; is = is; path = e });
          }

  -- the accesses of a body give its rights
  rights_are : (v : ℕ) (b : Body CodeScript) → slice_get bodies v ≡ Some b → AreRightsOf (accesses v) b.start.context
  rights_are v b is = let a = of v b is in are_rights (accesses v) b.start.context (opens_rising (accesses v) a.0) a.1

  -- entries for the bodies below a number
  record Upto (n : ℕ) (list : List Open) : Type 0 where
    are : AreOpens list
    each : (o : Open) → IsIn o list → (o.task < n) × IsLinked own bodies o
    all : (v : ℕ) → 0 < v → v < n → IsOpened list v
    order : (o q : Open) → Precedes o q list → o.task < q.task

  begin : Upto 1 []
  begin = record {
    are = record { ordered = opens.none; covered = λ c o i. elim i [ ]; rooted = λ o i. elim i [ ]; once = λ o i. elim i [ ] };
    each = λ o i. elim i [ ];
    all = λ v a b. absurd (omega (arith, a, b));
    order = λ o q p. elim p [ ];
  }

  -- one entry more
  module _ (n : ℕ) (list : List Open) (up : Upto n list) (some : 0 < n) (b : Body CodeScript) (is : slice_get bodies n ≡ Some b) where
    under : Below n b
    under = below_of n b is some

    abbrev next : Open
    next = record { task = n; parent = under.number; accesses = accesses n }

    link : IsLinked own bodies next
    link = record { task = b; creator = under.creator; task_is = is; creator_is = under.is; child = under.child; path = under.path; rights = rights_are n b is }

    known : (m : ℕ) → m ≡ under.number → IsKnown list m
    known zero e = inl refl
    known (suc m) e = let l = under.below in inr (up.all (suc m) (omega arith) (omega (arith, e, l)))

    -- its accesses are covered by those of its creator
    covered : (c : ℕ) → names c next ≡ true → (under.number ≡ 0) ⊎ HasCover list c next
    covered c named = go (known under.number refl)
      where
        go : IsKnown list under.number → (under.number ≡ 0) ⊎ HasCover list c next
        go (inl z) = inl z
        go (inr q) =
            let a = named_has next c named in
            let x = listed.there n b is in
            let right : right_of x.0.body.start.context c ≡ Holds a.0.mode a.0.strong = subst (λ (y : Body CodeScript). right_of y.start.context c ≡ Holds a.0.mode a.0.strong) (sym x.2) ((rights_are n b is).held c a.0 a.1) in
            let above = access_up (asks code) main s c under.child under.creator.start.path a.0.mode made (record { task = x.0; at_ = subst (λ (p : List ℕ). At s p x.0) under.path x.1; strong = a.0.strong; right = right }) in
            let l = (up.each q.entry q.listed).1 in
            let same : l.task ≡ under.creator = some_is (sym l.task_is ∙ (ap (λ (i : ℕ). slice_get bodies i) q.number ∙ under.is)) in
            let task = body_is under.number under.creator above.access.task under.is above.access.at_ in
            let held : right_of l.task.start.context c ≡ Holds above.mode above.access.strong = subst (λ (y : Body CodeScript). right_of y.start.context c ≡ Holds above.mode above.access.strong) (task ∙ sym same) above.access.right in
            let g = l.rights.given c above.mode above.access.strong held in
            let upper : mode_at c q.entry ≡ above.mode = ap opens.mode_of_access g.1 ∙ g.2 in
            let lower : mode_at c next ≡ a.0.mode = ap opens.mode_of_access a.1 in
            inr (record {
              above = record { entry = q.entry; listed = q.listed; number = q.number; named = named_at q.entry c g.0 g.1 };
              covered = ap (λ (m : Mode). covers m (mode_at c next)) upper ∙ (ap (λ (m : Mode). covers above.mode m) lower ∙ above.covers);
            })

    may : MayOpen list next
    may = record {
      not_main = λ e. omega (arith, e, some);
      fresh = λ h. let l = (up.each h.entry h.listed).0 in let e = h.number in omega (arith, l, e);
      parent = known under.number refl;
      covered = covered;
      once = rising_once (accesses n) (opens_rising (accesses n) (of n b is).0);
    }

    more : Upto (suc n) (list ++ next ∷ [])
    more = record {
      are = opens_added list next up.are may;
      each = λ o i. each o (in_added list next i);
      all = λ v l m. all v l m (which v n);
      order = λ o q p. order o q (precedes_more list next p);
    }
      where
        each : (o : Open) → IsIn o list ⊎ (o ≡ next) → (o.task < suc n) × IsLinked own bodies o
        each o (inl i) = let e = up.each o i in let l = e.0 in (omega (arith, l), e.1)
        each o (inr e) = subst (λ (x : Open). (x.task < suc n) × IsLinked own bodies x) (sym e) (omega arith, link)

        all : (v : ℕ) → 0 < v → v < suc n → (v ≡ n) ⊎ (v ≡ n → ⊥) → IsOpened (list ++ next ∷ []) v
        all v l m (inl e) = record { entry = next; listed = in_last list next; number = sym e }
        all v l m (inr d) = let h = up.all v l (grind (arith, m, d)) in record { entry = h.entry; listed = in_front list (next ∷ []) h.listed; number = h.number }

        order : (o q : Open) → Precedes o q list ⊎ (IsIn o list × (q ≡ next)) → o.task < q.task
        order o q (inl p) = up.order o q p
        order o q (inr h) = let l = (up.each o h.0).0 in let e : q.task ≡ n = ap (λ (x : Open). x.task) h.1 in omega (arith, l, e)

  -- entries for all bodies
  build : (n : ℕ) → n < length bodies → (list : List Open) × Upto (suc n) list
  build zero l = ([], begin)
  build (suc n) l =
      let before = build n (omega (arith, l)) in
      let b = at_place bodies (suc n) l in
      (before.0 ++ next (suc n) before.0 before.1 (omega arith) b.0 b.1 ∷ [], more (suc n) before.0 before.1 (omega arith) b.0 b.1)

  module _ (list : List Open) (up : Upto (length bodies) list) where
    in_order : (o q : Open) (l : IsLinked own bodies o) (k : IsLinked own bodies q) → Precedes o q list → o.parent ≡ q.parent → l.child < k.child
    in_order o q l k before parents = go (three l.child k.child)
      where
        creators : l.creator ≡ k.creator
        creators = some_is (sym l.creator_is ∙ (ap (λ (i : ℕ). slice_get bodies i) parents ∙ k.creator_is))

        one : IsNumbered own bodies o.task (l.child ∷ l.creator.start.path)
        one = record { one = l.task; is = l.task_is; path = l.path }

        two : IsNumbered own bodies q.task (k.child ∷ l.creator.start.path)
        two = record { one = k.task; is = k.task_is; path = k.path ∙ ap (λ (x : Body CodeScript). k.child ∷ x.start.path) (sym creators) }

        less : o.task < q.task
        less = up.order o q before

        go : (l.child < k.child) ⊎ ((l.child ≡ k.child) ⊎ (k.child < l.child)) → l.child < k.child
        go (inl m) = m
        go (inr (inl e)) =
            let same = listed.one o.task q.task (k.child ∷ l.creator.start.path) (subst (λ (i : ℕ). IsNumbered own bodies o.task (i ∷ l.creator.start.path)) e one) two in
            let m = less in
            absurd (omega (arith, same, m))
        go (inr (inr m)) =
            let other = listed.order q.task o.task k.child l.child l.creator.start.path two one m in
            let n = less in
            absurd (omega (arith, other, n))

    below : (o : Open) → IsIn o list → (l : IsLinked own bodies o) → l.child < created_now (asks code) l.creator
    below o i l =
        let x = listed.there o.task l.task l.task_is in
        let mk = made.child l.child l.creator.start.path x.0 (subst (λ (p : List ℕ). At s p x.0) l.path x.1) in
        let body = body_is o.parent l.creator mk.creator l.creator_is mk.at_ in
        let grows = created_grows (asks code) mk.creator.body.start mk.happened in
        let counts = creation_counts (asks code) mk.creator.body.start mk.answer mk.past mk.order mk.act in
        let number = mk.number in
        let now : created_now (asks code) mk.creator.body ≡ created_now (asks code) l.creator = ap (λ (y : Body CodeScript). created_now (asks code) y) body in
        omega (arith, grows, counts, number, now)

    sound : AreSound (asks code) own (λ b. Unit {0}) bodies list given
    sound = record {
      tasks = record {
        opens_are = up.are;
        main = listed.main;
        linked = λ o i. (up.each o i).1;
        opened = opened;
        one_number = λ v w a b e f g. listed.one v w b.start.path (record { one = a; is = e; path = g }) (numbered w b f);
        in_order = in_order;
      };
      of_code = λ v b e. tt;
      below = below;
      within = gave.within;
    }
      where
        opened : (v : ℕ) (b : Body CodeScript) → slice_get bodies v ≡ Some b → (v ≡ 0) ⊎ ((o : Open) × IsIn o list × (o.task ≡ v))
        opened zero b is = inl refl
        opened (suc v) b is = let h = up.all (suc v) (omega arith) (slice_get_within bodies (suc v) b is) in inr (h.entry, h.listed, h.number)

  stand : StandsFor own bodies given s.cells s
  stand = record {
    cells_are = refl;
    there = λ v b is. let x = listed.there v b is in (x.0, x.1, x.2, gave.each v b x.0 is x.1);
    back = listed.back;
  }

  pub stands : ((list : List Open) × AreSound (asks code) own (λ b. Unit {0}) bodies list given) × StandsFor own bodies given s.cells s
  stands = (whole (length bodies) refl, stand)
    where
      whole : (n : ℕ) → length bodies ≡ n → (list : List Open) × AreSound (asks code) own (λ b. Unit {0}) bodies list given
      whole zero e = let l = slice_get_within bodies 0 listed.main.one listed.main.is in absurd (omega (arith, l, e))
      whole (suc n) e = let x = build n (omega (arith, e)) in (x.0, sound x.0 (subst (λ (m : ℕ). Upto m x.0) (sym e) x.1))

pub listed_tasks_stand : ListedTasksStand
listed_tasks_stand code main first s bodies accesses given setting reached listed of gave = stands code main first s bodies accesses given setting reached listed of gave
