-- A program has one run by waves.
use Rattle.std.proofs.Common.{◌≡◌, ℕ, zero, suc, refl, sym, subst, ap, ◌∙◌, List, [], ◌∷◌, true, false}
use Rattle.std.specs.Prelude.{map, min, ◌-◌, ◌^◌}
use Rattle.oss_syntax.specs.declared.access.Op.{Op}
use Rattle.oss_syntax.specs.declared.access.Mode.TheVariants.{Fold}
use Rattle.oss_model.specs.Order.{IsIn}
use Rattle.oss_model.specs.Rights.{Holds}
use Rattle.oss_model.specs.Context.{right_of}
use Rattle.oss_model.specs.Bodies.{Program}
use Rattle.oss_model.specs.Machine.{Task, State, At}
use Rattle.oss_model.specs.Moves.{Stepped, CanLet, LetGo, CanJoin, Joined, opening}
use Rattle.oss_model.proofs.TreeLemmas.{at_same}
use Rattle.oss_wave_laws.specs.Parts.{IsPart}
use Rattle.oss_wave_laws.specs.Waves.{Turn, IsTurn, Takes, takes_none, takes_more, TakeTurns, no_turns, turn_first, AreTurns, IsWave, wave_ticks}
use Rattle.oss_wave_laws.specs.Passes.{Place, IsEarlierPlace, IsPlace, ArePlaces, GivenUp, Visits, visits_none, keeps, gives, merges, IsPass, Passes, idles, passes}
use Rattle.oss_wave_laws.specs.Rounds.{Round, IsRound, Rounds, stopped, follows, round_lines, widest, tasks_in, trace_of, weighed}
use Rattle.oss_wave_laws.specs.Left.{AreTasks, summed}
use Rattle.oss_wave_laws.specs.Claims.{IsSame, OneRunByWaves, OneTrace}
use Rattle.oss_wave_laws.proofs.PartLemmas.{one_part}
use Rattle.oss_wave_laws.proofs.GatherLemmas.{sorted_one, TurnBefore, turns_never, turns_sorted, places_never, places_sorted}
use Rattle.oss_wave_laws.proofs.SumLemmas.{chosen, listed, weights_are_summed}
use Rattle.oss_wave_laws.proofs.SameLemmas.{same_itself, same_back, at_forth, at_back, can_step_forth, can_let_forth, can_join_forth, stopped_forth, step_same, let_same, join_same}

module _ {S : Type 0} (P : Program S) where
  -- the turn of a task is settled
  turn_forth : {s n : State S} → IsSame s n → (xs ys : List Turn) → AreTurns P s xs → AreTurns P n ys → (k : Turn) → IsIn k xs → IsIn k ys
  turn_forth {s = s} {n = n} same xs ys a b k h = subst (λ (j : Turn). IsIn j ys) one other.1
    where
      own : IsTurn P s k
      own = a.only k h

      other : (j : Turn) × IsIn j ys × (j.path ≡ k.path)
      other = b.all k.path own.task (can_step_forth P same k.path own.task own.can)

      its : IsTurn P n other.0
      its = b.only other.0 other.1

      task : its.task ≡ own.task
      task = at_same n k.path its.task own.task (subst (λ (p : List ℕ). At n p its.task) other.2 its.can.at_) (at_forth same k.path own.task own.can.at_)

      part_of : (t : Task S) → its.task ≡ t → IsPart P t.body.start (record { cells = n.cells; found = t.body.found }) wave_ticks other.0.acts
      part_of t e = subst (λ (u : Task S). IsPart P u.body.start (record { cells = n.cells; found = u.body.found }) wave_ticks other.0.acts) e its.part

      part : IsPart P own.task.body.start (record { cells = s.cells; found = own.task.body.found }) wave_ticks other.0.acts
      part = subst (λ (cs : List ℕ). IsPart P own.task.body.start (record { cells = cs; found = own.task.body.found }) wave_ticks other.0.acts) same.cells (part_of own.task task)

      acts : other.0.acts ≡ k.acts
      acts = one_part S P own.task.body.start (record { cells = s.cells; found = own.task.body.found }) wave_ticks other.0.acts k.acts part own.part

      one : other.0 ≡ k
      one = λ i. record { path = other.2 i; acts = acts i }

  turns_one : {s n : State S} → IsSame s n → (xs ys : List Turn) → AreTurns P s xs → AreTurns P n ys → xs ≡ ys
  turns_one same xs ys a b =
      sorted_one TurnBefore turns_never xs ys (turns_sorted xs a.ordered) (turns_sorted ys b.ordered)
      (λ k h. turn_forth same xs ys a b k h) (λ k h. turn_forth (same_back same) ys xs b a k h)

  place_forth : {s n : State S} → IsSame s n → (a : Place) → IsPlace s a → IsPlace n a
  place_forth same a h = record { task = h.task; at_ = at_forth same a.path h.task h.at_; owes = h.owes }

  places_one : {s n : State S} → IsSame s n → (xs ys : List Place) → ArePlaces s xs → ArePlaces n ys → xs ≡ ys
  places_one same xs ys a b =
      sorted_one IsEarlierPlace places_never xs ys (places_sorted xs a.sorted) (places_sorted ys b.sorted)
      (λ k h. b.all k (place_forth same k (a.only k h))) (λ k h. a.all k (place_forth (same_back same) k (b.only k h)))

  -- acts of one task lead to one state
  pub takes_same : {s n : State S} → IsSame s n → (p : List ℕ) (k : ℕ) {x y : State S} → Takes P p s k x → Takes P p n k y → IsSame x y
  takes_same same p zero takes_none takes_none = same
  takes_same {s = s} {n = n} same p (suc k) {x = x} {y = y} (takes_more {a = a} {t = t} r can step) (takes_more {a = b} {t = u} q could stepped) = on (takes_same same p k r q)
    where
      on : IsSame a b → IsSame x y
      on e =
          let f : u ≡ t = at_same b p u t could.at_ (at_forth e p t can.at_) in
          step_same P p t e step (subst (λ (z : Task S). Stepped P b p z y) f stepped)

  take_turns_same : (turns : List Turn) {s n x y : State S} → IsSame s n → TakeTurns P s turns x → TakeTurns P n turns y → IsSame x y
  take_turns_same [] same no_turns no_turns = same
  take_turns_same (k ∷ rest) same (turn_first r more) (turn_first q others) = take_turns_same rest (takes_same same k.path k.acts r q) more others

  record OneWave (xs ys : List Turn) (x y : State S) : Type 0 where
    pub turns : xs ≡ ys
    pub same : IsSame x y

  wave_one : {s n x y : State S} → IsSame s n → (xs ys : List Turn) → IsWave P s xs x → IsWave P n ys y → OneWave xs ys x y
  wave_one {n = n} {y = y} same xs ys a b =
      let e = turns_one same xs ys a.turns_are b.turns_are in
      record { turns = e; same = take_turns_same xs same a.acts (subst (λ (ks : List Turn). TakeTurns P n ks y) (sym e) b.acts) }

  record OneWay (xs ys : List GivenUp) (x y : State S) : Type 0 where
    pub done_ : xs ≡ ys
    pub same : IsSame x y

  one_more : {xs ys : List GivenUp} {x y : State S} (g : GivenUp) → OneWay xs ys x y → OneWay (g ∷ xs) (g ∷ ys) x y
  one_more g o = record { done_ = ap (λ (ks : List GivenUp). g ∷ ks) o.done_; same = o.same }

  no_both : {s : State S} (p : List ℕ) (c : ℕ) (op : Op) (t u : Task S) → CanLet P s p c t → CanJoin P s p c op u → ⊥
  no_both {s = s} p c op t u a b = a.no_fold op (subst (λ (x : Task S). right_of x.body.start.context c ≡ Holds (Fold op) true) (at_same s p u t b.at_ a.at_) b.right)

  fold_op : (a b : Op) → Holds (Fold a) true ≡ Holds (Fold b) true → a ≡ b
  fold_op a b e = cc

  visits_one : (places : List Place) {s n x y : State S} {xs ys : List GivenUp} → IsSame s n → Visits P s places xs x → Visits P n places ys y → OneWay xs ys x y
  visits_one [] same visits_none visits_none = record { done_ = refl; same = same }
  visits_one (a ∷ rest) same (keeps k v) (keeps l w) = visits_one rest same v w
  visits_one (a ∷ rest) same (keeps k v) (gives {t = t} can go w) = absurd (k.no_let t (can_let_forth P (same_back same) a.path a.cell t can))
  visits_one (a ∷ rest) same (keeps k v) (merges {op = op} {t = t} can go w) = absurd (k.no_join op t (can_join_forth P (same_back same) a.path a.cell op t can))
  visits_one (a ∷ rest) same (gives {t = t} can go v) (keeps l w) = absurd (l.no_let t (can_let_forth P same a.path a.cell t can))
  visits_one (a ∷ rest) {n = n} same (gives {t = t} can go v) (gives {m = m} {t = u} could gone w) =
      let f : u ≡ t = at_same n a.path u t could.at_ (at_forth same a.path t can.at_) in
      one_more (record { path = a.path; cell = a.cell; joined = false })
      (visits_one rest (let_same a.path a.cell t same go (subst (λ (z : Task S). LetGo n a.path a.cell z m) f gone)) v w)
  visits_one (a ∷ rest) same (gives {t = t} can go v) (merges {op = op} {t = u} could gone w) = absurd (no_both a.path a.cell op t u (can_let_forth P same a.path a.cell t can) could)
  visits_one (a ∷ rest) same (merges {op = op} {t = t} can go v) (keeps l w) = absurd (l.no_join op t (can_join_forth P same a.path a.cell op t can))
  visits_one (a ∷ rest) same (merges {op = op} {t = t} can go v) (gives {t = u} could gone w) = absurd (no_both a.path a.cell op u t could (can_join_forth P same a.path a.cell op t can))
  visits_one (a ∷ rest) {n = n} same (merges {op = op} {t = t} can go v) (merges {m = m} {op = oq} {t = u} could gone w) =
      let f : u ≡ t = at_same n a.path u t could.at_ (at_forth same a.path t can.at_) in
      let r : Holds (Fold oq) true ≡ Holds (Fold op) true = sym could.right ∙ (ap (λ (z : Task S). right_of z.body.start.context a.cell) f ∙ can.right) in
      let g : oq ≡ op = fold_op oq op r in
      one_more (record { path = a.path; cell = a.cell; joined = true })
      (visits_one rest (join_same P a.path a.cell op t same go (subst (λ (q : Op). Joined P n a.path a.cell q t m) g (subst (λ (z : Task S). Joined P n a.path a.cell oq z m) f gone))) v w)

  pass_one : {s n x y : State S} {xs ys : List GivenUp} → IsSame s n → IsPass P s xs x → IsPass P n ys y → OneWay xs ys x y
  pass_one {n = n} {y = y} {ys = ys} same a b =
      let e = places_one same a.places b.places a.places_are b.places_are in
      visits_one a.places same a.visits (subst (λ (ps : List Place). Visits P n ps ys y) (sym e) b.visits)

  pub record OneWays (xs ys : List (List GivenUp)) (x y : State S) : Type 0 where
    pub done_ : xs ≡ ys
    pub same : IsSame x y

  pub passes_one : {s n x y : State S} {xs ys : List (List GivenUp)} → IsSame s n → Passes P s xs x → Passes P n ys y → OneWays xs ys x y
  passes_one same (idles a) (idles b) = record { done_ = refl; same = (pass_one same a b).same }
  passes_one same (idles a) (passes {first = g} {more = gs} b q) = let e : [] ≡ g ∷ gs = (pass_one same a b).done_ in cc
  passes_one same (passes {first = g} {more = gs} a r) (idles b) = let e : g ∷ gs ≡ [] = (pass_one same a b).done_ in cc
  passes_one same (passes {first = g} {more = gs} a r) (passes {first = h} {more = hs} b q) =
      let o = pass_one same a b in
      let k = passes_one o.same r q in
      record { done_ = λ i. o.done_ i ∷ k.done_ i; same = k.same }

  record OneRound (x y : Round) (n m : State S) : Type 0 where
    pub round : x ≡ y
    pub same : IsSame n m

  round_one : {s n x y : State S} (a b : Round) → IsSame s n → IsRound P s a x → IsRound P n b y → OneRound a b x y
  round_one a b same r q =
      let w = wave_one same a.turns b.turns r.wave q.wave in
      let k = passes_one w.same r.behind q.behind in
      record { round = λ i. record { turns = w.turns i; passes = k.done_ i }; same = k.same }

  pub rounds_one : (xs ys : List Round) {s n x y : State S} → IsSame s n → Rounds P s xs x → Rounds P n ys y → (xs ≡ ys) × IsSame x y
  rounds_one [] [] same (stopped h) (stopped k) = (refl, same)
  rounds_one [] (b ∷ ys) same (stopped h) (follows k q others) = absurd (k (stopped_forth P same h))
  rounds_one (a ∷ xs) [] same (follows h r more) (stopped k) = absurd (h (stopped_forth P (same_back same) k))
  rounds_one (a ∷ xs) (b ∷ ys) same (follows h r more) (follows k q others) =
      let o = round_one a b same r q in
      let e = rounds_one xs ys o.same more others in
      ((λ i. o.round i ∷ e.0 i), e.1)

pub one_run_by_waves : (S : Type 0) → OneRunByWaves S
one_run_by_waves S P main cells xs ys n m a b = rounds_one P xs ys (same_itself (opening main cells)) a b

-- states that are one have as many tasks
tasks_same : {S : Type 0} (n m : State S) → IsSame n m → tasks_in n ≡ tasks_in m
tasks_same {S = S} n m same = ap (λ (k : ℕ). min k (2 ^ 64 - 1)) (a ∙ sym b)
  where
    of_n : AreTasks n (chosen [] n.tasks)
    of_n = listed n

    of_m : AreTasks m (chosen [] n.tasks)
    of_m = record {
      all = λ p t h. of_n.all p t (at_back same p t h);
      only = λ t h. at_forth same t.body.start.path t (of_n.only t h);
      once = of_n.once;
    }

    a : weighed (λ (t : Task S). 1) [] n.tasks ≡ summed (λ (t : Task S). 1) (chosen [] n.tasks)
    a = weights_are_summed S n (chosen [] n.tasks) (λ t. 1) of_n

    b : weighed (λ (t : Task S). 1) [] m.tasks ≡ summed (λ (t : Task S). 1) (chosen [] n.tasks)
    b = weights_are_summed S m (chosen [] n.tasks) (λ t. 1) of_m

pub one_trace : (S : Type 0) → OneTrace S
one_trace S P main cells a b x y =
    let e = one_run_by_waves S P main cells x.rounds y.rounds x.state y.state x.runs y.runs in
    let t = tasks_same x.state y.state e.1 in
    let f : trace_of x.rounds x.state ≡ trace_of y.rounds y.state = λ i. record { waves = map round_lines (e.0 i); tasks = t i; widest = widest (e.0 i) } in
    x.trace_is ∙ (f ∙ sym y.trace_is)
