-- The bodies of the jobs of a table that tells a state are gathered, number by number.
use Rattle.std.proofs.Common.{◌≡◌, ◌⊎◌, inl, inr, sym, subst, refl, ◌∙◌, ap, ℕ, zero, suc, ◌<◌, ◌≤◌, arith, List, [], ◌∷◌, ◌++◌, length, length-append, Some}
use Rattle.std.specs.Prelude.{slice_get}
use Rattle.std.proofs.lemmas.Option.{slice_get_within}
use Rattle.oss_close_laws.specs.Tabled.{AreTabled, ClosedTablesList, IsTask, job_of}
use Rattle.oss_core.specs.Kept.{own}
use Rattle.oss_core.specs.Standing.{IsNumbered}
use Rattle.oss_core.proofs.KeepLemmas.{some_is, which}
use Rattle.oss_core.proofs.TreeFacts.{at_place}
use Rattle.oss_listed_laws.specs.Listed.{AreListed}
use Rattle.oss_machine.specs.Frames.{CodeScript}
use Rattle.oss_machine.specs.Machines.{asks}
use Rattle.oss_model.specs.Bodies.{Body, Program, Start}
use Rattle.oss_model.specs.Machine.{Task, State, At}
use Rattle.oss_model.proofs.TreeLemmas.{path_found}
use Rattle.oss_rest_laws.specs.Rested.{IsNumber, Rested, StandsIn}
use Rattle.oss_roles.specs.Field.{Parts}
use Rattle.oss_roles.specs.Sights.{Telling}
use Rattle.oss_tree.proofs.ListLemmas.{get_added, get_front, get_last}

three : (m n : ℕ) → (m < n) ⊎ ((m ≡ n) ⊎ (n < m))
three m n = grind arith

module _ {J : Type 0} (P : Program CodeScript) (main : Start CodeScript) (first : List ℕ) (is_job : Telling CodeScript J) (n : ℕ) (k : Parts J) (s : State CodeScript) (path : ℕ → List ℕ)
    (r : Rested P main first is_job n k s path) where
  -- what stands in the slot of a task
  stands_in : (t : ℕ) → IsTask n k t → StandsIn is_job k s t (path t)
  stands_in t (inl e) = subst (λ (z : ℕ). StandsIn is_job k s z (path z)) (sym e) (subst (λ (p : List ℕ). StandsIn is_job k s 0 p) (sym r.main_path) r.main_in)
  stands_in t (inr x) = r.stands t x

  -- whether a number is that of a task
  decide : (t : ℕ) → t < n → IsTask n k t ⊎ (IsTask n k t → ⊥)
  decide t l = go (which t 0) (which (k.counts t) 18446744073709551615)
    where
      go : (t ≡ 0) ⊎ (t ≡ 0 → ⊥) → (k.counts t ≡ 18446744073709551615) ⊎ (k.counts t ≡ 18446744073709551615 → ⊥) → IsTask n k t ⊎ (IsTask n k t → ⊥)
      go (inl e) c = inl (inl e)
      go (inr d) (inl e) = inr (λ h. elim h [ inl z ↦ d z | inr x ↦ x.filled e ])
      go (inr d) (inr f) = inl (inr (record { inside = l; other = d; filled = f }))

  -- the numbers and bodies of the tasks below a number
  record Upto (e : ℕ) (numbers : List ℕ) (bodies : List (Body CodeScript)) : Type 0 where
    size : length numbers ≡ length bodies
    below : (v t : ℕ) → slice_get numbers v ≡ Some t → t < e
    task : (v t : ℕ) → slice_get numbers v ≡ Some t → IsTask n k t
    rising : (v w a b : ℕ) → slice_get numbers v ≡ Some a → slice_get numbers w ≡ Some b → v < w → a < b
    all : (t : ℕ) → t < e → IsTask n k t → (v : ℕ) × (slice_get numbers v ≡ Some t)
    stands : (v t : ℕ) (b : Body CodeScript) → slice_get numbers v ≡ Some t → slice_get bodies v ≡ Some b → (x : StandsIn is_job k s t (path t)) × (x.task.body ≡ b)

  begin : Upto 0 [] []
  begin = record {
    size = refl;
    below = λ v t g. absurd cc;
    task = λ v t g. absurd cc;
    rising = λ v w a b g h l. absurd cc;
    all = λ t l h. absurd (omega (arith, l));
    stands = λ v t b g h. absurd cc;
  }

  -- a number that is no task's
  skip : (e : ℕ) (numbers : List ℕ) (bodies : List (Body CodeScript)) → Upto e numbers bodies → (IsTask n k e → ⊥) → Upto (suc e) numbers bodies
  skip e numbers bodies up none = record {
    size = up.size;
    below = λ v t g. let l = up.below v t g in omega (arith, l);
    task = up.task;
    rising = up.rising;
    all = λ t l h. all t l h (which t e);
    stands = up.stands;
  }
    where
      all : (t : ℕ) → t < suc e → IsTask n k t → (t ≡ e) ⊎ (t ≡ e → ⊥) → (v : ℕ) × (slice_get numbers v ≡ Some t)
      all t l h (inl z) = absurd (none (subst (λ (x : ℕ). IsTask n k x) z h))
      all t l h (inr d) = up.all t (grind (arith, l, d)) h

  -- a task more
  module _ (e : ℕ) (numbers : List ℕ) (bodies : List (Body CodeScript)) (up : Upto e numbers bodies) (is : IsTask n k e) where
    x : StandsIn is_job k s e (path e)
    x = stands_in e is

    below : (v t : ℕ) → (slice_get numbers v ≡ Some t) ⊎ ((v ≡ length numbers) × (t ≡ e)) → t < suc e
    below v t (inl g) = let l = up.below v t g in omega (arith, l)
    below v t (inr h) = let z = h.1 in omega (arith, z)

    task : (v t : ℕ) → (slice_get numbers v ≡ Some t) ⊎ ((v ≡ length numbers) × (t ≡ e)) → IsTask n k t
    task v t (inl g) = up.task v t g
    task v t (inr h) = subst (λ (z : ℕ). IsTask n k z) (sym h.1) is

    rising : (v w a b : ℕ) → (slice_get numbers v ≡ Some a) ⊎ ((v ≡ length numbers) × (a ≡ e)) → (slice_get numbers w ≡ Some b) ⊎ ((w ≡ length numbers) × (b ≡ e)) → v < w → a < b
    rising v w a b (inl g) (inl h) l = up.rising v w a b g h l
    rising v w a b (inl g) (inr h) l = let m = up.below v a g in let z = h.1 in omega (arith, m, z)
    rising v w a b (inr g) (inl h) l = let m = slice_get_within numbers w b h in let z = g.0 in absurd (omega (arith, m, z, l))
    rising v w a b (inr g) (inr h) l = let y = g.0 in let z = h.0 in absurd (omega (arith, y, z, l))

    all : (t : ℕ) → t < suc e → IsTask n k t → (t ≡ e) ⊎ (t ≡ e → ⊥) → (v : ℕ) × (slice_get (numbers ++ e ∷ []) v ≡ Some t)
    all t l h (inl z) = (length numbers, get_last numbers e ∙ ap Some (sym z))
    all t l h (inr d) = let y = up.all t (grind (arith, l, d)) h in (y.0, get_front numbers e y.0 t y.1)

    stands : (v t : ℕ) (b : Body CodeScript) → (slice_get numbers v ≡ Some t) ⊎ ((v ≡ length numbers) × (t ≡ e)) → (slice_get bodies v ≡ Some b) ⊎ ((v ≡ length bodies) × (b ≡ x.task.body))
        → (y : StandsIn is_job k s t (path t)) × (y.task.body ≡ b)
    stands v t b (inl g) (inl h) = up.stands v t b g h
    stands v t b (inl g) (inr h) = let m = slice_get_within numbers v t g in let z = h.0 in let size = up.size in absurd (omega (arith, m, z, size))
    stands v t b (inr g) (inl h) = let m = slice_get_within bodies v b h in let z = g.0 in let size = up.size in absurd (omega (arith, m, z, size))
    stands v t b (inr g) (inr h) = subst (λ (z : ℕ). (y : StandsIn is_job k s z (path z)) × (y.task.body ≡ b)) (sym g.1) (x, sym h.1)

    more : Upto (suc e) (numbers ++ e ∷ []) (bodies ++ x.task.body ∷ [])
    more = record {
      size = let a = length-append numbers (e ∷ []) in let b = length-append bodies (x.task.body ∷ []) in let c = up.size in omega (arith, a, b, c);
      below = λ v t g. below v t (get_added numbers e v t g);
      task = λ v t g. task v t (get_added numbers e v t g);
      rising = λ v w a b g h l. rising v w a b (get_added numbers e v a g) (get_added numbers e w b h) l;
      all = λ t l h. all t l h (which t e);
      stands = λ v t b g h. stands v t b (get_added numbers e v t g) (get_added bodies x.task.body v b h);
    }

  build : (e : ℕ) → e ≤ n → (numbers : List ℕ) × (bodies : List (Body CodeScript)) × Upto e numbers bodies
  build zero l = ([], [], begin)
  build (suc e) l = go (build e (omega (arith, l))) (decide e (omega (arith, l)))
    where
      go : (numbers : List ℕ) × (bodies : List (Body CodeScript)) × Upto e numbers bodies → IsTask n k e ⊎ (IsTask n k e → ⊥) → (numbers : List ℕ) × (bodies : List (Body CodeScript)) × Upto (suc e) numbers bodies
      go y (inl is) = (y.0 ++ e ∷ [], y.1 ++ (x e y.0 y.1 y.2 is).task.body ∷ [], more e y.0 y.1 y.2 is)
      go y (inr none) = (y.0, y.1, skip e y.0 y.1 y.2 none)

  -- of all tasks
  module _ (numbers : List ℕ) (bodies : List (Body CodeScript)) (up : Upto n numbers bodies) (some : 0 < n) where
    within : (t : ℕ) → IsTask n k t → t < n
    within t (inl e) = omega (arith, e, some)
    within t (inr y) = y.inside

    -- the path of a body is that of its number
    path_at : (v t : ℕ) (b : Body CodeScript) → slice_get numbers v ≡ Some t → slice_get bodies v ≡ Some b → b.start.path ≡ path t
    path_at v t b g h = let y = up.stands v t b g h in ap (λ (z : Body CodeScript). z.start.path) (sym y.1) ∙ path_found s.tasks (path t) y.0.task y.0.at_

    -- what stands at a place
    record Placed (v : ℕ) (b : Body CodeScript) : Type 0 where
      number : ℕ
      at_ : slice_get numbers v ≡ Some number
      is : IsTask n k number
      path_is : b.start.path ≡ path number

    placed : (v : ℕ) (b : Body CodeScript) → slice_get bodies v ≡ Some b → Placed v b
    placed v b h =
        let l = slice_get_within bodies v b h in
        let size = up.size in
        let t = at_place numbers v (omega (arith, l, size)) in
        record { number = t.0; at_ = t.1; is = up.task v t.0 t.1; path_is = path_at v t.0 b t.1 h }

    -- the place of a task
    place_of : (t : ℕ) → IsTask n k t → (v : ℕ) × IsNumbered own bodies v (path t)
    place_of t is =
        let y = up.all t (within t is) is in
        let l = slice_get_within numbers y.0 t y.1 in
        let size = up.size in
        let b = at_place bodies y.0 (omega (arith, l, size)) in
        (y.0, record { one = b.0; is = b.1; path = path_at y.0 t b.0 y.1 b.1 })

    -- places rise as numbers do
    places_rise : (v w t u : ℕ) → slice_get numbers v ≡ Some t → slice_get numbers w ≡ Some u → t < u → v < w
    places_rise v w t u g h l = go (three v w)
      where
        go : (v < w) ⊎ ((v ≡ w) ⊎ (w < v)) → v < w
        go (inl m) = m
        go (inr (inl e)) = let z : t ≡ u = some_is (sym g ∙ (ap (λ (i : ℕ). slice_get numbers i) e ∙ h)) in absurd (omega (arith, z, l))
        go (inr (inr m)) = let z = up.rising w v u t h g m in absurd (omega (arith, z, l))

    one_place : (v w t u : ℕ) → slice_get numbers v ≡ Some t → slice_get numbers w ≡ Some u → t ≡ u → v ≡ w
    one_place v w t u g h e = go (three v w)
      where
        go : (v < w) ⊎ ((v ≡ w) ⊎ (w < v)) → v ≡ w
        go (inl m) = let z = up.rising v w t u g h m in absurd (omega (arith, z, e))
        go (inr (inl m)) = m
        go (inr (inr m)) = let z = up.rising w v u t h g m in absurd (omega (arith, z, e))

    -- a path is main's just where the number is
    main_number : (t : ℕ) → IsTask n k t → path t ≡ [] → t ≡ 0
    main_number t (inl e) h = e
    main_number t (inr y) h = let c = r.child t y in let z : [] ≡ c.0 ∷ c.1 = sym h ∙ c.2 in absurd (let bad : ⊥ = cc in bad)

    child_number : (t j : ℕ) (p : List ℕ) → IsTask n k t → path t ≡ j ∷ p → IsNumber n k t
    child_number t j p (inl e) h = let z : [] ≡ j ∷ p = sym r.main_path ∙ (ap path (sym e) ∙ h) in absurd (let bad : ⊥ = cc in bad)
    child_number t j p (inr y) h = y

    -- two tasks with one path have one number
    same_number : (t u : ℕ) (p : List ℕ) → IsTask n k t → IsTask n k u → path t ≡ p → path u ≡ p → t ≡ u
    same_number t u [] a b e f = main_number t a e ∙ sym (main_number u b f)
    same_number t u (j ∷ p) a b e f = r.one t u (child_number t j p a e) (child_number u j p b f) (e ∙ sym f)

    first_place : IsNumbered own bodies 0 []
    first_place =
        let y = up.all 0 some (inl refl) in
        let l = slice_get_within numbers y.0 0 y.1 in
        let size = up.size in
        let t = at_place numbers 0 (omega (arith, l)) in
        let b = at_place bodies 0 (omega (arith, l, size)) in
        let zero_ : t.0 ≡ 0 = least y.0 t.0 y.1 t.1 (which y.0 0) in
        record { one = b.0; is = b.1; path = path_at 0 t.0 b.0 t.1 b.1 ∙ (ap path zero_ ∙ r.main_path) }
      where
        least : (v t : ℕ) → slice_get numbers v ≡ Some 0 → slice_get numbers 0 ≡ Some t → (v ≡ 0) ⊎ (v ≡ 0 → ⊥) → t ≡ 0
        least v t g h (inl e) = some_is (sym h ∙ (ap (λ (i : ℕ). slice_get numbers i) (sym e) ∙ g))
        least v t g h (inr d) = let z = up.rising 0 v t 0 h g (grind (arith, d)) in absurd (omega (arith, z))

    back : (p : List ℕ) (u : Task CodeScript) → At s p u → (v : ℕ) × IsNumbered own bodies v p
    back [] u at_ = (0, first_place)
    back (i ∷ p) u at_ =
        let y = r.number i p u at_ in
        let z = place_of y.0 (inr y.1) in
        (z.0, subst (λ (q : List ℕ). IsNumbered own bodies z.0 q) y.2 z.1)

    -- the number of a creator, and of an earlier sibling, is below
    creator : (t u j : ℕ) (p : List ℕ) → IsTask n k t → path t ≡ p → IsNumber n k u → path u ≡ j ∷ p → t < u
    creator t u j [] a e b f = let z = main_number t a e in let other = b.other in grind (arith, z, other)
    creator t u j (i ∷ p) a e b f =
        let y = r.creator u i j p b f in
        let z = same_number t y.number (i ∷ p) a (inr y.is) e y.path_is in
        let l = y.below in
        omega (arith, z, l)

    listed : AreListed s bodies
    listed = record {
      main = first_place;
      there = λ v b h. there v b h (placed v b h);
      back = back;
      one = λ v w p a b. one v w p a b (placed v a.one a.is) (placed w b.one b.is);
      creator = λ v c j p a b. before v c j p a b (placed v a.one a.is) (placed c b.one b.is);
      order = λ v c i j p a b l. order v c i j p a b l (placed v a.one a.is) (placed c b.one b.is);
    }
      where
        there : (v : ℕ) (b : Body CodeScript) → slice_get bodies v ≡ Some b → Placed v b → (t : Task CodeScript) × At s b.start.path t × (t.body ≡ b)
        there v b h y = let z = up.stands v y.number b y.at_ h in (z.0.task, subst (λ (p : List ℕ). At s p z.0.task) (sym y.path_is) z.0.at_, z.1)

        one : (v w : ℕ) (p : List ℕ) (a : IsNumbered own bodies v p) (b : IsNumbered own bodies w p) → Placed v a.one → Placed w b.one → v ≡ w
        one v w p a b y z = one_place v w y.number z.number y.at_ z.at_ (same_number y.number z.number p y.is z.is (sym y.path_is ∙ a.path) (sym z.path_is ∙ b.path))

        before : (v c j : ℕ) (p : List ℕ) (a : IsNumbered own bodies v p) (b : IsNumbered own bodies c (j ∷ p)) → Placed v a.one → Placed c b.one → v < c
        before v c j p a b y z =
            let e : path y.number ≡ p = sym y.path_is ∙ a.path in
            let f : path z.number ≡ j ∷ p = sym z.path_is ∙ b.path in
            places_rise v c y.number z.number y.at_ z.at_ (creator y.number z.number j p y.is e (child_number z.number j p z.is f) f)

        order : (v c i j : ℕ) (p : List ℕ) (a : IsNumbered own bodies v (i ∷ p)) (b : IsNumbered own bodies c (j ∷ p)) → i < j → Placed v a.one → Placed c b.one → v < c
        order v c i j p a b l y z =
            let e : path y.number ≡ i ∷ p = sym y.path_is ∙ a.path in
            let f : path z.number ≡ j ∷ p = sym z.path_is ∙ b.path in
            let x = r.sibling z.number i j p (child_number z.number j p z.is f) f l in
            let same = same_number y.number x.number (i ∷ p) y.is (inr x.is) e x.path_is in
            let m = x.below in
            places_rise v c y.number z.number y.at_ z.at_ (omega (arith, same, m))

    tabled : AreTabled is_job n k s path numbers bodies
    tabled = record {
      size = up.size;
      rising = up.rising;
      task = up.task;
      all = λ t is. up.all t (within t is) is;
      stands = up.stands;
      listed = listed;
    }

  pub tables_list : 0 < n → (numbers : List ℕ) × (bodies : List (Body CodeScript)) × AreTabled is_job n k s path numbers bodies
  tables_list some = let y = build n (omega arith) in (y.0, y.1, tabled y.0 y.1 y.2 some)

pub closed_tables_list : ClosedTablesList
closed_tables_list code main first before n k s path r some = tables_list (asks code) main first (job_of code before) n k s path r some
