-- A lively program has a run by waves.
use Rattle.std.proofs.Common.{◌≡◌, ◌≢◌, ℕ, zero, suc, ◌+◌, ◌<◌, ◌⊎◌, inl, inr, refl, sym, subst, ◌∙◌, arith, List, [], ◌∷◌, ◌++◌, length, reverse, Bool, true, false, Some, None}
use Rattle.oss_syntax.specs.declared.access.Op.{Op}
use Rattle.oss_syntax.specs.declared.access.Mode.TheVariants.{Fold}
use Rattle.oss_model.specs.Order.{IsIn, here, there}
use Rattle.oss_model.specs.Rights.{Right, Holds}
use Rattle.oss_model.specs.Context.{right_of}
use Rattle.oss_model.specs.Bodies.{Order, Program, Start, IsHalt}
use Rattle.oss_model.specs.Bodies.Act.{Created}
use Rattle.oss_model.specs.Machine.{Task, State, At, find, Owes}
use Rattle.oss_model.specs.Moves.{act_now, found_by, after_answer, after_giving, CanStep, CanLet, CanJoin, GaveUp, LetGo, Joined, joined_cells, opening, a_step}
use Rattle.oss_model.specs.Sequence.{Running, Sequential, opens}
use Rattle.oss_model.specs.Agreement.{Setting, Agrees}
use Rattle.oss_model.specs.Answers.{IsStopped}
use Rattle.oss_model.specs.Termination.{IsLively}
use Rattle.oss_model.specs.Potential.{potential}
use Rattle.oss_model.proofs.AgreementTheorem.{opening_agrees}
use Rattle.oss_model.proofs.MoveLemmas.{is_creation}
use Rattle.oss_model.proofs.OrderLemmas.{before_trans, Compared, before, equal, after, compare}
use Rattle.oss_model.proofs.PotentialLemmas.{body_falls, creation_falls}
use Rattle.oss_model.proofs.SortLemmas.{reverse_same}
use Rattle.oss_model.proofs.TreeLemmas.{at_same, path_found}
use Rattle.oss_wave_laws.specs.Alone.{with_found}
use Rattle.oss_wave_laws.specs.Parts.{Stage, stage_after, ticks_after, act_after, stops_after, IsPart}
use Rattle.oss_wave_laws.specs.Waves.{Turn, first_stage, wave_ticks, IsTurn, no_turns, AreTurns, IsWave}
use Rattle.oss_wave_laws.specs.Passes.{Place, IsEarlierPlace, IsPlace, ArePlaces, GivenUp, IsKept, Visits, visits_none, keeps, gives, merges, IsPass, Passes, idles, passes}
use Rattle.oss_wave_laws.specs.Rounds.{Round, Rounds, stopped, follows, trace_of}
use Rattle.oss_wave_laws.specs.Left.{left}
use Rattle.oss_wave_laws.specs.Claims.{HasRunByWaves, HasTrace}
use Rattle.oss_wave_laws.proofs.PartLemmas.{goes_from, one_part}
use Rattle.oss_wave_laws.proofs.WaveLemmas.{made}
use Rattle.oss_wave_laws.proofs.SumLemmas.{in_none, listed, found_here, found_past}
use Rattle.oss_wave_laws.proofs.DecideLemmas.{Decided, all_tasks, most_cells, cell_below, is_there, not_there, owes_it, can_step, can_let, can_join}
use Rattle.oss_wave_laws.proofs.GatherLemmas.{TurnBefore, turns_never, sorted_turns, places_never, places_compared, places_through, sorted_places, Gathered, gather}
use Rattle.oss_wave_laws.proofs.FallLemmas.{turn_acts, some_given, nothing_left, acts_of, turns_behind, visits_behind, passes_behind}

-- an act leaves less to do for its body
potential_falls : {S : Type 0} (P : Program S) (lively : IsLively P) (t : Task S) (v : ℕ) → (IsHalt (act_now P t.body) → ⊥) → potential lively (after_answer v t).body < potential lively t.body
potential_falls P lively t v goes = go (is_creation (act_now P t.body))
  where
    go : ((o : Order _) × (act_now P t.body ≡ Created o false)) ⊎ ((o : Order _) → act_now P t.body ≢ Created o false) → potential lively (after_answer v t).body < potential lively t.body
    go (inl o) = let l = creation_falls P lively t v o.0 o.1 in omega (arith, l)
    go (inr none) = body_falls P lively t v goes none

-- a part comes to its end
module _ {S : Type 0} (P : Program S) (lively : IsLively P) (t : Task S) (first : Stage) (quota : ℕ) where
  abbrev start : Start S
  start = t.body.start

  abbrev at_stage : ℕ → Task S
  at_stage k = with_found (stage_after P start first k).found t

  part_from : (fuel k : ℕ) → potential lively (at_stage k).body < fuel → ((j : ℕ) → j < k → stops_after P start first quota j ≡ false) → (n : ℕ) × IsPart P start first quota n
  unfolding stage_after
  part_from zero k l goes = absurd (omega (arith, l))
  part_from (suc fuel) k l goes = by_test (stops_after P start first quota k) refl (λ m g. part_from fuel (suc k) m g)
    where
      which : (j : ℕ) → j < suc k → (j < k) ⊎ (j ≡ k)
      which j m = grind (arith, m)

      further : stops_after P start first quota k ≡ false → (j : ℕ) → (j < k) ⊎ (j ≡ k) → stops_after P start first quota j ≡ false
      further e j (inl m) = goes j m
      further e j (inr f) = subst (λ (i : ℕ). stops_after P start first quota i ≡ false) (sym f) e

      by_test : (b : Bool) → stops_after P start first quota k ≡ b → (potential lively (at_stage (suc k)).body < fuel → ((j : ℕ) → j < suc k → stops_after P start first quota j ≡ false) → (n : ℕ) × IsPart P start first quota n) → (n : ℕ) × IsPart P start first quota n
      by_test true e on = (k, record { goes = goes; stops = e })
      by_test false e on =
          let g = goes_from (act_after P start first k) k (ticks_after P start first k) quota e in
          let m = potential_falls P lively (at_stage k) (found_by (act_after P start first k) (stage_after P start first k).cells) g.halt in
          on (omega (arith, l, m)) (λ j i. further e j (which j i))

  pub part_ends : (n : ℕ) × IsPart P start first quota n
  part_ends = part_from (suc (potential lively (at_stage zero).body)) zero (omega arith) (λ j l. absurd (omega (arith, l)))

module _ {S : Type 0} (P : Program S) (lively : IsLively P) (s : State S) where
  turn_equal : (a b : Turn) → IsTurn P s a → IsTurn P s b → a.path ≡ b.path → a ≡ b
  turn_equal a b x y e = λ i. record { path = e i; acts = acts i }
    where
      task : x.task ≡ y.task
      task = at_same s b.path x.task y.task (subst (λ (p : List ℕ). At s p x.task) e x.can.at_) y.can.at_

      acts : a.acts ≡ b.acts
      acts = one_part S P y.task.body.start (first_stage s y.task) wave_ticks a.acts b.acts (subst (λ (u : Task S). IsPart P u.body.start (first_stage s u) wave_ticks a.acts) task x.part) y.part

  turns_compared : (a b : Turn) → IsTurn P s a → IsTurn P s b → TurnBefore a b ⊎ (a ≡ b) ⊎ TurnBefore b a
  turns_compared a b x y = go (compare (reverse a.path) (reverse b.path))
    where
      go : Compared (reverse a.path) (reverse b.path) → TurnBefore a b ⊎ (a ≡ b) ⊎ TurnBefore b a
      go (before h) = inl h
      go (equal e) = inr (inl (turn_equal a b x y (reverse_same a.path b.path e)))
      go (after h) = inr (inr h)

  choose_turn : (t : Task S) → At s t.body.start.path t → ((k : Turn) × IsTurn P s k × (k.path ≡ t.body.start.path)) ⊎ (CanStep P s t.body.start.path t → ⊥)
  choose_turn t h = go (can_step P s t.body.start.path t h) (part_ends P lively t (first_stage s t) wave_ticks)
    where
      go : Decided (CanStep P s t.body.start.path t) → (n : ℕ) × IsPart P t.body.start (first_stage s t) wave_ticks n → ((k : Turn) × IsTurn P s k × (k.path ≡ t.body.start.path)) ⊎ (CanStep P s t.body.start.path t → ⊥)
      go (inl can) n = inl (record { path = t.body.start.path; acts = n.0 }, record { task = t; can = can; part = n.1 }, refl)
      go (inr none) n = inr none

  -- the turns of a wave
  pub turns_are : (turns : List Turn) × AreTurns P s turns
  turns_are = (g.list, record { ordered = sorted_turns g.list g.sorted; only = g.only; all = λ p t can. of_task p t can (g.all t ((listed s).all p t can.at_)) })
    where
      g : Gathered TurnBefore turns_never (IsTurn P s) turns_compared (λ a b c h k. before_trans h k) (λ (t : Task S). At s t.body.start.path t) (λ (t : Task S). CanStep P s t.body.start.path t → ⊥) (λ t k. k.path ≡ t.body.start.path) choose_turn (all_tasks P s)
      g = gather TurnBefore turns_never (IsTurn P s) turns_compared (λ a b c h k. before_trans h k) (λ (t : Task S). At s t.body.start.path t) (λ (t : Task S). CanStep P s t.body.start.path t → ⊥) (λ t k. k.path ≡ t.body.start.path) choose_turn (all_tasks P s) (λ t h. (listed s).only t h)

      of_task : (p : List ℕ) (t : Task S) → CanStep P s p t → ((k : Turn) × IsIn k g.list × (k.path ≡ t.body.start.path)) ⊎ (CanStep P s t.body.start.path t → ⊥) → (k : Turn) × IsIn k g.list × (k.path ≡ p)
      of_task p t can (inl k) = (k.0, k.1, k.2 ∙ path_found s.tasks p t can.at_)
      of_task p t can (inr none) = absurd (none (subst (λ (q : List ℕ). CanStep P s q t) (sym (path_found s.tasks p t can.at_)) can))

in_left : {A : Type 0} {x : A} (xs ys : List A) → IsIn x xs → IsIn x (xs ++ ys)
in_left [] ys h = absurd (in_none h)
in_left (y ∷ xs) ys here = here
in_left (y ∷ xs) ys (there h) = there (in_left xs ys h)

in_right : {A : Type 0} {x : A} (xs ys : List A) → IsIn x ys → IsIn x (xs ++ ys)
in_right [] ys h = h
in_right (y ∷ xs) ys h = there (in_right xs ys h)

-- the first cells of a task, and those of several tasks
row : List ℕ → ℕ → List Place
row p zero = []
row p (suc n) = record { path = p; cell = n } ∷ row p n

grid : {S : Type 0} → ℕ → List (Task S) → List Place
grid n [] = []
grid n (t ∷ ts) = row t.body.start.path n ++ grid n ts

in_row : (p : List ℕ) (n c : ℕ) → c < n → IsIn (record { path = p; cell = c }) (row p n)
unfolding row
in_row p zero c l = absurd (omega (arith, l))
in_row p (suc n) c l = go (which c n l) (λ m. in_row p n c m)
  where
    which : (a b : ℕ) → a < suc b → (a ≡ b) ⊎ (a < b)
    which a b m = grind (arith, m)

    go : (c ≡ n) ⊎ (c < n) → (c < n → IsIn (record { path = p; cell = c }) (row p n)) → IsIn (record { path = p; cell = c }) (record { path = p; cell = n } ∷ row p n)
    go (inl e) f = subst (λ (m : ℕ). IsIn (record { path = p; cell = c }) (record { path = p; cell = m } ∷ row p n)) e here
    go (inr m) f = there (f m)

in_grid : {S : Type 0} (n : ℕ) (ts : List (Task S)) (t : Task S) (c : ℕ) → IsIn t ts → c < n → IsIn (record { path = t.body.start.path; cell = c }) (grid n ts)
unfolding grid
in_grid n [] t c h l = absurd (in_none h)
in_grid n (u ∷ ts) t c here l = in_left (row t.body.start.path n) (grid n ts) (in_row t.body.start.path n c l)
in_grid n (u ∷ ts) t c (there h) l = in_right (row u.body.start.path n) (grid n ts) (in_grid n ts t c h l)

module _ {S : Type 0} (P : Program S) (s : State S) where
  choose_place : (a : Place) → Unit {0} → ((b : Place) × IsPlace s b × (b ≡ a)) ⊎ (IsPlace s a → ⊥)
  choose_place a u = go (is_there P s a.path)
    where
      of_task : (t : Task S) → At s a.path t → Decided (Owes a.path t.body.start.context a.cell) → ((b : Place) × IsPlace s b × (b ≡ a)) ⊎ (IsPlace s a → ⊥)
      of_task t h (inl o) = inl (a, record { task = t; at_ = h; owes = o }, refl)
      of_task t h (inr none) = inr (λ k. none (subst (λ (x : Task S). Owes a.path x.body.start.context a.cell) (at_same s a.path k.task t k.at_ h) k.owes))

      go : ((t : Task S) × At s a.path t) ⊎ (find s.tasks a.path ≡ None) → ((b : Place) × IsPlace s b × (b ≡ a)) ⊎ (IsPlace s a → ⊥)
      go (inl t) = of_task t.0 t.1 (owes_it a.path t.0.body.start.context a.cell)
      go (inr e) = inr (λ k. not_there P s a.path k.task e k.at_)

  owes_below : (p : List ℕ) (t : Task S) (c : ℕ) → At s p t → Owes p t.body.start.context c → c < most_cells P s
  owes_below [] t c h o = absurd o
  owes_below (k ∷ p) t c h o = cell_below P s (k ∷ p) t c o.0 o.1 h o.2

  -- the places of a pass
  pub places_are : (places : List Place) × ArePlaces s places
  places_are = (g.list, record { sorted = sorted_places g.list g.sorted; only = g.only; all = λ a h. of_place a h (g.all a (in_all a h)) })
    where
      in_all : (a : Place) → IsPlace s a → IsIn a (grid (most_cells P s) (all_tasks P s))
      in_all a h = subst (λ (q : List ℕ). IsIn (record { path = q; cell = a.cell }) (grid (most_cells P s) (all_tasks P s))) (path_found s.tasks a.path h.task h.at_)
          (in_grid (most_cells P s) (all_tasks P s) h.task a.cell ((listed s).all a.path h.task h.at_) (owes_below a.path h.task a.cell h.at_ h.owes))

      g : Gathered IsEarlierPlace places_never (IsPlace s) (λ a b x y. places_compared a b) places_through (λ (a : Place). Unit {0}) (λ (a : Place). IsPlace s a → ⊥) (λ a b. b ≡ a) choose_place (grid (most_cells P s) (all_tasks P s))
      g = gather IsEarlierPlace places_never (IsPlace s) (λ a b x y. places_compared a b) places_through (λ (a : Place). Unit {0}) (λ (a : Place). IsPlace s a → ⊥) (λ a b. b ≡ a) choose_place (grid (most_cells P s) (all_tasks P s)) (λ a h. tt)

      of_place : (a : Place) → IsPlace s a → ((b : Place) × IsIn b g.list × (b ≡ a)) ⊎ (IsPlace s a → ⊥) → IsIn a g.list
      of_place a h (inl b) = subst (λ (x : Place). IsIn x g.list) b.2 b.1
      of_place a h (inr none) = absurd (none h)

  -- a state in which a task has given up a cell
  giving : List ℕ → ℕ → Task S → State S
  giving cells c t = record { cells = cells; tasks = after_giving c t ∷ s.tasks }

  gave : (cells : List ℕ) (p : List ℕ) (c : ℕ) (t : Task S) → At s p t → GaveUp s p c t (giving cells c t)
  unfolding giving
  gave cells p c t h =
      let e = path_found s.tasks p t h in
      record {
        own = subst (λ (q : List ℕ). find (after_giving c t ∷ s.tasks) q ≡ Some (after_giving c t)) e (found_here (after_giving c t) s.tasks);
        others = λ q ne. found_past (after_giving c t) s.tasks q (λ f. ne (sym f ∙ e));
      }

  let_made : (p : List ℕ) (c : ℕ) (t : Task S) → At s p t → LetGo s p c t (giving s.cells c t)
  unfolding giving
  let_made p c t h = record { cells = refl; tasks = gave s.cells p c t h }

  join_made : (p : List ℕ) (c : ℕ) (op : Op) (t : Task S) → At s p t → Joined P s p c op t (giving (joined_cells P c op t s.cells) c t)
  unfolding giving
  join_made p c op t h = record { cells = refl; tasks = gave (joined_cells P c op t s.cells) p c t h }

  -- what may be done at a place
  data Choice (a : Place) : Type 0 where
    kept : IsKept P s a → Choice a
    given : (t : Task S) → CanLet P s a.path a.cell t → Choice a
    joined : (op : Op) (t : Task S) → CanJoin P s a.path a.cell op t → Choice a

  choice : (a : Place) → Choice a
  choice a = go (is_there P s a.path)
    where
      of_right : (t : Task S) → At s a.path t → (CanLet P s a.path a.cell t → ⊥) → (r : Right) → right_of t.body.start.context a.cell ≡ r → Choice a
      of_right t h none (Holds (Fold op) true) e = by_join (can_join P s a.path a.cell op t h)
        where
          fold_op : (x y : Op) → Holds (Fold x) true ≡ Holds (Fold y) true → x ≡ y
          fold_op x y f = cc

          by_join : Decided (CanJoin P s a.path a.cell op t) → Choice a
          by_join (inl can) = joined op t can
          by_join (inr never) = kept (record {
            no_let = λ u can. none (subst (λ (x : Task S). CanLet P s a.path a.cell x) (at_same s a.path u t can.at_ h) can);
            no_join = λ q u can. let f = at_same s a.path u t can.at_ h in
                let k = subst (λ (x : Task S). CanJoin P s a.path a.cell q x) f can in
                let i : q ≡ op = fold_op q op (sym k.right ∙ e) in
                never (subst (λ (x : Op). CanJoin P s a.path a.cell x t) i k);
          })
      of_right t h none r e = kept (record {
        no_let = λ u can. none (subst (λ (x : Task S). CanLet P s a.path a.cell x) (at_same s a.path u t can.at_ h) can);
        no_join = λ q u can. let f = at_same s a.path u t can.at_ h in let k : right_of t.body.start.context a.cell ≡ Holds (Fold q) true = subst (λ (x : Task S). right_of x.body.start.context a.cell ≡ Holds (Fold q) true) f can.right in
            let i : r ≡ Holds (Fold q) true = sym e ∙ k in cc;
      })

      of_task : (t : Task S) → At s a.path t → Decided (CanLet P s a.path a.cell t) → Choice a
      of_task t h (inl can) = given t can
      of_task t h (inr none) = of_right t h none (right_of t.body.start.context a.cell) refl

      go : ((t : Task S) × At s a.path t) ⊎ (find s.tasks a.path ≡ None) → Choice a
      go (inl t) = of_task t.0 t.1 (can_let P s a.path a.cell t.0 t.1)
      go (inr e) = kept (record { no_let = λ t can. not_there P s a.path t e can.at_; no_join = λ op t can. not_there P s a.path t e can.at_ })

module _ {S : Type 0} (P : Program S) where
  pub record Visited (s : State S) (places : List Place) : Type 0 where
    pub done_ : List GivenUp
    pub state : State S
    pub visits : Visits P s places done_ state

  visited : (places : List Place) (s : State S) → Visited s places
  visited [] s = record { done_ = []; state = s; visits = visits_none }
  visited (a ∷ rest) s = go (choice P s a) (λ m. visited rest m)
    where
      go : Choice P s a → ((m : State S) → Visited m rest) → Visited s (a ∷ rest)
      go (Choice.kept k) f = let v = f s in record { done_ = v.done_; state = v.state; visits = keeps k v.visits }
      go (Choice.given t can) f =
          let v = f (giving P s s.cells a.cell t) in
          record { done_ = record { path = a.path; cell = a.cell; joined = false } ∷ v.done_; state = v.state; visits = gives can (let_made P s a.path a.cell t can.at_) v.visits }
      go (Choice.joined op t can) f =
          let v = f (giving P s (joined_cells P a.cell op t s.cells) a.cell t) in
          record { done_ = record { path = a.path; cell = a.cell; joined = true } ∷ v.done_; state = v.state; visits = merges can (join_made P s a.path a.cell op t can.at_) v.visits }

  pub record Passed (s : State S) : Type 0 where
    pub done_ : List GivenUp
    pub state : State S
    pub is : IsPass P s done_ state

  pub passed : (s : State S) → Passed s
  passed s =
      let places = places_are P s in
      let v = visited places.0 s in
      record { done_ = v.done_; state = v.state; is = record { places = places.0; places_are = places.1; visits = v.visits } }

module _ {S : Type 0} (P : Program S) (main : Start S) (cells : List ℕ) (z : Running S) (set_ : Setting main cells) (run : Sequential P main cells z) (lively : IsLively P) where
  pub record AllPassed (s : State S) : Type 0 where
    pub done_ : List (List GivenUp)
    pub state : State S
    pub passes_are : Passes P s done_ state

  passes_from : (fuel : ℕ) (s : State S) → Agrees P main cells z s → left lively s < fuel → AllPassed s
  passes_from zero s agrees l = absurd (omega (arith, l))
  passes_from (suc fuel) s agrees l = go (passed P s) (λ m a k. passes_from fuel m a k)
    where
      by_done : (done : List GivenUp) (m : State S) → IsPass P s done m → ((m : State S) → Agrees P main cells z m → left lively m < fuel → AllPassed m) → AllPassed s
      by_done [] m p f = record { done_ = []; state = m; passes_are = idles p }
      by_done (g ∷ more) m p f =
          let b = visits_behind P main cells z set_ run lively p.places agrees p.visits in
          let h = b.falls in
          let one : length (g ∷ more) ≡ suc (length more) = refl in
          let r = f m b.agrees (omega (arith, l, h, one)) in
          record { done_ = (g ∷ more) ∷ r.done_; state = r.state; passes_are = passes p r.passes_are }

      go : Passed P s → ((m : State S) → Agrees P main cells z m → left lively m < fuel → AllPassed m) → AllPassed s
      go p f = by_done p.done_ p.state p.is f

  pub all_passed : (s : State S) → Agrees P main cells z s → AllPassed s
  all_passed s agrees = passes_from (suc (left lively s)) s agrees (omega arith)

  pub record AllRounds (s : State S) : Type 0 where
    pub rounds : List Round
    pub state : State S
    pub are : Rounds P s rounds state

  rounds_from : (fuel : ℕ) (s : State S) → Agrees P main cells z s → left lively s < fuel → AllRounds s
  rounds_from zero s agrees l = absurd (omega (arith, l))
  rounds_from (suc fuel) s agrees l = by_turns (turns_are P lively s).0 (turns_are P lively s).1 (passed P s) (λ m a k. rounds_from fuel m a k)
    where
      -- a round whose wave comes to a state, in which less is left, or in which a pass gives up something
      behind : (turns : List Turn) (m : State S) → (IsStopped P s → ⊥) → IsWave P s turns m → (r : AllPassed m) → Agrees P main cells z r.state → left lively r.state < fuel
          → ((n : State S) → Agrees P main cells z n → left lively n < fuel → AllRounds n) → AllRounds s
      behind turns m moving wave r a k f =
          let more = f r.state a k in
          record {
            rounds = record { turns = turns; passes = r.done_ } ∷ more.rounds;
            state = more.state;
            are = follows moving (record { middle = m; wave = wave; behind = r.passes_are }) more.are;
          }

      alone : AreTurns P s [] → (done : List GivenUp) (m : State S) → IsPass P s done m → ((n : State S) → Agrees P main cells z n → left lively n < fuel → AllRounds n) → AllRounds s
      alone turns [] m p f = record { rounds = []; state = s; are = stopped (nothing_left P main cells z set_ run s agrees turns p.places p.places_are p.visits) }
      alone turns (g ∷ more) m p f =
          let b = visits_behind P main cells z set_ run lively p.places agrees p.visits in
          let r = all_passed m b.agrees in
          let c = passes_behind P main cells z set_ run lively b.agrees r.passes_are in
          let h = b.falls in
          let i = c.falls in
          let one : length (g ∷ more) ≡ suc (length more) = refl in
          behind [] s (λ end. end (some_given P s p.places p.visits)) (record { turns_are = turns; acts = no_turns })
          (record { done_ = (g ∷ more) ∷ r.done_; state = r.state; passes_are = passes p r.passes_are }) c.agrees (omega (arith, l, h, i, one)) f

      by_turns : (turns : List Turn) → AreTurns P s turns → Passed P s → ((n : State S) → Agrees P main cells z n → left lively n < fuel → AllRounds n) → AllRounds s
      by_turns [] are p f = alone are p.done_ p.state p.is f
      by_turns (k ∷ rest) are p f =
          let w = made P main cells z set_ run s agrees (k ∷ rest) are in
          let b = turns_behind P main cells z set_ run lively (k ∷ rest) agrees w.1.acts in
          let r = all_passed w.0 b.agrees in
          let c = passes_behind P main cells z set_ run lively b.agrees r.passes_are in
          let h = b.falls in
          let i = c.falls in
          let a = turn_acts P s k (are.only k here) in
          let sum : acts_of P main cells z set_ run lively (k ∷ rest) ≡ k.acts + acts_of P main cells z set_ run lively rest = acts_more k rest in
          behind (k ∷ rest) w.0 (λ end. end (a_step (are.only k here).can)) w.1 r c.agrees (omega (arith, l, h, i, a, sum)) f
        where
          acts_more : (j : Turn) (js : List Turn) → acts_of P main cells z set_ run lively (j ∷ js) ≡ j.acts + acts_of P main cells z set_ run lively js
          acts_more j js = refl

  pub all_rounds : (s : State S) → Agrees P main cells z s → AllRounds s
  all_rounds s agrees = rounds_from (suc (left lively s)) s agrees (omega arith)

pub has_run_by_waves : (S : Type 0) → HasRunByWaves S
has_run_by_waves S P main cells set_ lively =
    let first : Running S = record { state = opening main cells; active = []; printed = [] } in
    let r = all_rounds P main cells first set_ opens lively (opening main cells) (opening_agrees P main cells first set_ opens) in
    (r.rounds, r.state, r.are)

pub has_trace : (S : Type 0) → HasTrace S
has_trace S P main cells set_ lively = let r = has_run_by_waves S P main cells set_ lively in (trace_of r.0 r.1, record { rounds = r.0; state = r.1; runs = r.2; trace_is = refl })
