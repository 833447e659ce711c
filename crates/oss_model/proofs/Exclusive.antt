-- Acts that may both happen do not conflict, and a setting for every program.
use Rattle.oss_model.specs.Agreement.{MainStarts, AreWords, Setting, main_start}
use Rattle.std.proofs.Common.{◌≡◌, ◌≢◌, ℕ, inl, inr, refl, sym, subst, ◌∙◌, List, [], ◌∷◌, length, reverse, arith, Bool, true, false, Some}
use Rattle.std.proofs.lemmas.Bool.Decides.{nat_tests}
use Rattle.oss_model.specs.Order.{IsSuffix, whole, IsIn}
use Rattle.oss_model.specs.Rights.{Touch, Reads, Writes, Folds, Conflicts}
use Rattle.oss_model.specs.Bodies.{Order, Program, Act, Start, Touches, load, store, folded, stage_act}
use Rattle.oss_model.specs.Bodies.Act.{Created, Folded}
use Rattle.oss_model.specs.Machine.{Task, State, At, find, same_path, IsReady, accesses}
use Rattle.oss_model.specs.History.{IsMade, IsStarted}
use Rattle.oss_model.specs.Moves.{act_now, after_answer, found_by, cells_after, CanStep, Stepped, CanJoin}
use Rattle.oss_model.specs.Memory.{Event}
use Rattle.oss_model.specs.Forest.{IsJoinSatisfied}
use Rattle.oss_syntax.specs.declared.access.Op.{Op}
use Rattle.oss_model.specs.Claims.{EveryMainIsASetting, StepsExclude, JoinExcludes}
use Rattle.oss_model.proofs.Places.{place, IsEarlierPlace}
use Rattle.oss_model.proofs.ContextLemmas.{main_right}
use Rattle.oss_model.proofs.OrderLemmas.{suffix_drop, Compared, compare}
use Rattle.oss_model.proofs.SortLemmas.{reverse_same}
use Rattle.oss_model.proofs.TreeLemmas.{at_same, path_found, same_path_is}
use Rattle.oss_model.proofs.OrderTheorem.{TouchIn, Granted, in_order}
use Rattle.oss_model.proofs.MemoryLemmas.{n_made, comp_after, last_one}
use Rattle.oss_model.proofs.KeyOrder.{itself}
use Rattle.oss_model.proofs.SequenceLemmas.{stage_of}

pub same_self : (p : List ℕ) → same_path p p ≡ true
same_self [] = refl
same_self (x ∷ p) = grind (arith, nat_tests, same_self p)

-- the state after a step that makes no task
after : {S : Type 0} → Program S → State S → Task S → State S
after P s t = record { cells = cells_after (act_now P t.body) s.cells; tasks = after_answer (found_by (act_now P t.body) s.cells) t ∷ s.tasks }

after_step : {S : Type 0} (P : Program S) (s : State S) (p : List ℕ) (t : Task S) → At s p t → ((o : Order S) → act_now P t.body ≢ Created o false) → Stepped P s p t (after P s t)
unfolding after find
after_step {S = S} P s p t h none =
    let e = path_found s.tasks p t h in
    record {
      cells = refl;
      tasks = record {
        own = subst (λ (q : List ℕ). find (after_answer (found_by (act_now P t.body) s.cells) t ∷ s.tasks) q ≡ Some (after_answer (found_by (act_now P t.body) s.cells) t)) e (rw (same_self t.body.start.path) refl);
        made = λ o a. absurd (none o a);
        others = λ q ne f. other q ne (same_path t.body.start.path q) refl;
      };
    }
  where
    other : (q : List ℕ) → q ≢ p → (b : Bool) → same_path t.body.start.path q ≡ b → find (after_answer (found_by (act_now P t.body) s.cells) t ∷ s.tasks) q ≡ find s.tasks q
    other q ne true k = absurd (ne (sym (same_path_is t.body.start.path q k) ∙ path_found s.tasks p t h))
    other q ne false k = rw k refl

no_creation : {S : Type 0} {a : Act S} {c : ℕ} {t : Touch} {slot : Bool} → Touches a c t slot → (o : Order S) → a ≢ Created o false
no_creation load o e = cc
no_creation store o e = cc
no_creation folded o e = cc

module _ {S : Type 0} (P : Program S) (main : Start S) (s : State S) (ms : MainStarts main) (made : IsMade P main s) (started : IsStarted P s) where
  ready_now : (p : List ℕ) (t : Task S) → CanStep P s p t → IsReady s p t.body.start.context
  ready_now p t can = go t.body.found refl
    where
      go : (f : List ℕ) → t.body.found ≡ f → IsReady s p t.body.start.context
      go [] e = can.ready e
      go (w ∷ ws) e = started.ready p t w ws can.at_ (subst (λ (x : List ℕ). IsSuffix (w ∷ ws) x) (sym e) whole)

  one_first : (p q : List ℕ) (t u : Task S) (c : ℕ) (a b : Touch) → CanStep P s p t → CanStep P s q u → Touches (act_now P t.body) c a false → Touches (act_now P u.body) c b false → Conflicts a false b false → IsEarlierPlace P (stage_of t.body) (stage_of u.body) → ⊥
  one_first p q t u c a b ct cu ha hb clash l =
      let pt = path_found s.tasks p t ct.at_ in
      let pu = path_found s.tasks q u cu.at_ in
      let step = after_step P s p t ct.at_ (no_creation ha) in
      let v = found_by (act_now P t.body) s.cells in
      let xm = n_made P main s (after P s t) p t ms made started ct step in
      let comp = comp_after P main s (after P s t) p t ms made started ct step in
      let e : Event S = record { start = t.body.start; past = t.body.found; answer = v } in
      let tin : TouchIn P main (after P s t) s ms xm made started comp e c a false = record { task = after_answer v t; at_ = subst (λ (z : List ℕ). At (after P s t) z (after_answer v t)) (sym pt) step.tasks.own; start = refl; found = whole; touches = ha } in
      let gr : Granted P main (after P s t) s ms xm made started comp (stage_of u.body) c b false =
      record { task = u; at_ = subst (λ (z : List ℕ). At s z u) (sym pu) cu.at_; start = refl; stage = whole; touches = hb; direct = λ k. subst (λ (z : List ℕ). IsReady s z u.body.start.context) (sym pu) (ready_now q u cu); joined = λ op k1 k2. absurd (cc (k2)) } in
      let r = in_order P main (after P s t) s ms xm made started comp e (stage_of u.body) c a b false false tin gr clash (again l) in
      let w = at_same s p r.happened.task t (subst (λ (z : List ℕ). At s z r.happened.task) pt r.happened.at_) ct.at_ in
      last_one (subst (λ (z : Task S). IsSuffix (v ∷ t.body.found) z.body.found) w r.happened.found) refl
    where
      again : IsEarlierPlace P (stage_of t.body) (stage_of u.body) → IsEarlierPlace P (record { start = t.body.start; past = t.body.found; answer = found_by (act_now P t.body) s.cells }) (stage_of u.body)
      again (inl x) = inl x
      again (inr x) = inr x

  -- two tasks that may both touch a cell now do not clash there
  pub exclusive : (p q : List ℕ) (t u : Task S) (c : ℕ) (a b : Touch) → p ≢ q → CanStep P s p t → CanStep P s q u → Touches (act_now P t.body) c a false → Touches (act_now P u.body) c b false → Conflicts a false b false → Conflicts b false a false → ⊥
  exclusive p q t u c a b ne ct cu ha hb clash clash2 = go (compare (reverse (place P (stage_of t.body))) (reverse (place P (stage_of u.body))))
    where
      go : Compared (reverse (place P (stage_of t.body))) (reverse (place P (stage_of u.body))) → ⊥
      go (Compared.before l) = one_first p q t u c a b ct cu ha hb clash (inl l)
      go (Compared.after l) = one_first q p u t c b a cu ct hb ha clash2 (inl l)
      go (Compared.equal e) =
          let k = reverse_same (place P (stage_of t.body)) (place P (stage_of u.body)) e in
          let m : t.body.start.path ≡ u.body.start.path = cc (k) in
          ne (sym (path_found s.tasks p t ct.at_) ∙ (m ∙ path_found s.tasks q u cu.at_))

  folds_conflict : (a : Touch) (op : Op) → Conflicts a false (Folds op) true
  folds_conflict Reads op = tt
  folds_conflict Writes op = tt
  folds_conflict (Folds q) op = tt

  folds_conflict_back : (a : Touch) (op : Op) → Conflicts (Folds op) true a false
  folds_conflict_back Reads op = tt
  folds_conflict_back Writes op = tt
  folds_conflict_back (Folds q) op = tt

  module _ (p q : List ℕ) (t u : Task S) (c : ℕ) (a : Touch) (op : Op) (past : List ℕ) (v w : ℕ) (ct : CanStep P s p t) (ha : Touches (act_now P t.body) c a false) (cj : CanJoin P s q c op u) (done_ : IsSuffix (v ∷ past) u.body.found) (fold : stage_act P u.body.start past ≡ Folded c op w true) where
    pt : t.body.start.path ≡ p
    pt = path_found s.tasks p t ct.at_

    pu : u.body.start.path ≡ q
    pu = path_found s.tasks q u cj.at_

    abbrev folded_at : Event S
    folded_at = record { start = u.body.start; past = past; answer = v }

    touches_u : Touches (stage_act P u.body.start past) c (Folds op) true
    touches_u = subst (λ (z : Act S). Touches z c (Folds op) true) (sym fold) folded

    same_op : (o : Op) → Folds op ≡ Folds o → op ≡ o
    same_op o e = cc

    -- an act of t that stands before the fold would be done
    step_first : IsEarlierPlace P (stage_of t.body) folded_at → ⊥
    step_first l =
        let step = after_step P s p t ct.at_ (no_creation ha) in
        let v0 = found_by (act_now P t.body) s.cells in
        let xm = n_made P main s (after P s t) p t ms made started ct step in
        let comp = comp_after P main s (after P s t) p t ms made started ct step in
        let e : Event S = record { start = t.body.start; past = t.body.found; answer = v0 } in
        let tin : TouchIn P main (after P s t) s ms xm made started comp e c a false = record { task = after_answer v0 t; at_ = subst (λ (z : List ℕ). At (after P s t) z (after_answer v0 t)) (sym pt) step.tasks.own; start = refl; found = whole; touches = ha } in
        let gr : Granted P main (after P s t) s ms xm made started comp folded_at c (Folds op) true =
        record {
          task = u;
          at_ = subst (λ (z : List ℕ). At s z u) (sym pu) cj.at_;
          start = refl;
          stage = suffix_drop done_;
          touches = touches_u;
          direct = λ k. absurd (cc (k));
          joined = λ o k1 k2. subst (λ (z : List ℕ). IsJoinSatisfied (accesses s c) o z) (sym pu) (subst (λ (z : Op). IsJoinSatisfied (accesses s c) z q) (same_op o k1) cj.satisfied);
        } in
        let r = in_order P main (after P s t) s ms xm made started comp e folded_at c a (Folds op) false true tin gr (folds_conflict a op) (again l) in
        let m = at_same s p r.happened.task t (subst (λ (z : List ℕ). At s z r.happened.task) pt r.happened.at_) ct.at_ in
        last_one (subst (λ (z : Task S). IsSuffix (v0 ∷ t.body.found) z.body.found) m r.happened.found) refl
      where
        again : IsEarlierPlace P (stage_of t.body) folded_at → IsEarlierPlace P (record { start = t.body.start; past = t.body.found; answer = found_by (act_now P t.body) s.cells }) folded_at
        again (inl x) = inl x
        again (inr x) = inr x

    -- a fold that stands before the act of t would be joined
    fold_first : IsEarlierPlace P folded_at (stage_of t.body) → ⊥
    fold_first l =
        let tin : TouchIn P main s s ms made made started (itself s) folded_at c (Folds op) true = record { task = u; at_ = subst (λ (z : List ℕ). At s z u) (sym pu) cj.at_; start = refl; found = done_; touches = touches_u } in
        let gr : Granted P main s s ms made made started (itself s) (stage_of t.body) c a false =
        record { task = t; at_ = subst (λ (z : List ℕ). At s z t) (sym pt) ct.at_; start = refl; stage = whole; touches = ha; direct = λ k. subst (λ (z : List ℕ). IsReady s z t.body.start.context) (sym pt) (ready_now p t ct); joined = λ o k1 k2. absurd (cc (k2)) } in
        let r = in_order P main s s ms made made started (itself s) folded_at (stage_of t.body) c (Folds op) a true false tin gr (folds_conflict_back a op) l in
        let g = r.given refl in
        let m = at_same s q g.task u (subst (λ (z : List ℕ). At s z g.task) pu g.at_) cj.at_ in
        cj.kept (subst (λ (z : Task S). IsIn c z.given) m g.given)

    join_alone : p ≢ q → ⊥
    join_alone ne = go (compare (reverse (place P (stage_of t.body))) (reverse (place P folded_at)))
      where
        go : Compared (reverse (place P (stage_of t.body))) (reverse (place P folded_at)) → ⊥
        go (Compared.before l) = step_first (inl l)
        go (Compared.after l) = fold_first (inl l)
        go (Compared.equal e) =
            let k = reverse_same (place P (stage_of t.body)) (place P folded_at) e in
            let m : t.body.start.path ≡ u.body.start.path = cc (k) in
            ne (sym pt ∙ (m ∙ pu))

conflict_back : (a b : Touch) → Conflicts a false b false → Conflicts b false a false
conflict_back Reads Reads h = h
conflict_back Reads Writes h = tt
conflict_back Reads (Folds op) h = tt
conflict_back Writes Reads h = tt
conflict_back Writes Writes h = tt
conflict_back Writes (Folds op) h = tt
conflict_back (Folds q) Reads h = tt
conflict_back (Folds q) Writes h = tt
conflict_back (Folds q) (Folds op) h = tt

pub steps_exclude : (S : Type 0) → StepsExclude S
steps_exclude S P main cells z s p q t u c a b set_ g ne ct cu ha hb k = exclusive P main s set_.starts g.made g.started p q t u c a b ne ct cu ha hb k (conflict_back a b k)

pub join_excludes : (S : Type 0) → JoinExcludes S
join_excludes S P main cells z s p q t u c a op past v w set_ g ne ct ha cj done_ fold = join_alone P main s set_.starts g.made g.started p q t u c a op past v w ct ha cj done_ fold ne

pub main_setting : {S : Type 0} (o : Order S) (cells : List ℕ) (fuel : ℕ) → AreWords cells → Setting (main_start o (length cells) fuel) cells
main_setting o cells fuel w =
    record {
      starts = record { final = refl; created = refl; path = refl };
      memory = λ c m strong h. (main_right (length cells) fuel c m strong h).0;
      words = w;
      writes = λ c m strong h. (main_right (length cells) fuel c m strong h).1;
    }

pub every_main_is_a_setting : (S : Type 0) → EveryMainIsASetting S
every_main_is_a_setting S order cells fuel w = main_setting order cells fuel w
