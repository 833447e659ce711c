-- What acts of one task alone leave, and that new touches of two tasks do not clash.
use Rattle.std.proofs.Common.{◌≡◌, ◌≢◌, ℕ, ◌⊎◌, inl, inr, refl, sym, subst, ap, ◌∙◌, List, [], ◌∷◌, length, reverse, arith, false}
use Rattle.oss_model.specs.Order.{IsSuffix, whole, longer}
use Rattle.oss_model.specs.Rights.{Touch, Conflicts}
use Rattle.oss_model.specs.Bodies.{Program, Start}
use Rattle.oss_model.specs.Machine.{Task, State, At, IsReady}
use Rattle.oss_model.specs.History.{IsComparable}
use Rattle.oss_model.specs.Moves.{act_now, after_answer, found_by}
use Rattle.oss_model.specs.Memory.{Event}
use Rattle.oss_model.specs.Sequence.{Running, Sequential}
use Rattle.oss_model.specs.Agreement.{Setting, Compatible, Agrees}
use Rattle.oss_model.proofs.Places.{place, IsEarlierPlace}
use Rattle.oss_model.proofs.OrderLemmas.{suffix_drop, suffix_length, Compared, compare}
use Rattle.oss_model.proofs.SortLemmas.{reverse_same}
use Rattle.oss_model.proofs.TreeLemmas.{at_same, path_found}
use Rattle.oss_model.proofs.MoveLemmas.{which_path, StepView, own, new, old, step_view, others_forth}
use Rattle.oss_model.proofs.OrderTheorem.{TouchIn, Granted, in_order}
use Rattle.oss_model.proofs.AgreementTheorem.{step_agrees}
use Rattle.oss_wave_laws.specs.Alone.{RunsAlone, begins, goes, NewTouch}

-- the end of no answers is no answers
none_before : {xs : List ℕ} → IsSuffix xs [] → xs ≡ []
none_before whole = refl

module _ {S : Type 0} (P : Program S) (main : Start S) (cells : List ℕ) (z : Running S) (set_ : Setting main cells) (run : Sequential P main cells z) (s : State S) (s_agrees : Agrees P main cells z s) where
  -- the state after acts of one task alone agrees
  pub alone_agrees : (p : List ℕ) {a : State S} → RunsAlone P p s a → Agrees P main cells z a
  alone_agrees p begins = s_agrees
  alone_agrees p {a = b} (goes {a = a} {t = t} r can step) = step_agrees P main cells z set_ run a b p t (alone_agrees p r) can step

  -- other tasks are there as they were
  pub alone_other : (p : List ℕ) {a : State S} → RunsAlone P p s a → (q : List ℕ) (u : Task S) → q ≢ p → At s q u → At a q u
  alone_other p begins q u ne h = h
  alone_other p {a = b} (goes {a = a} {t = t} r can step) q u ne h =
      others_forth P main a b p t (found_by (act_now P t.body) a.cells) (alone_agrees p r).made can.at_ can.goes step.tasks q u ne (alone_other p r q u ne h)

  -- and all others are new children
  pub alone_back : (p : List ℕ) {a : State S} → RunsAlone P p s a → (q : List ℕ) (u : Task S) → q ≢ p → At a q u → At s q u ⊎ ((k : ℕ) × (q ≡ k ∷ p))
  alone_back p begins q u ne h = inl h
  alone_back p {a = b} (goes {a = a} {t = t} r can step) q u ne h =
      view q u ne (step_view P main a b p t (found_by (act_now P t.body) a.cells) (alone_agrees p r).made can.at_ can.goes step.tasks q u h) (λ g. alone_back p r q u ne g)
    where
      view : (q : List ℕ) (u : Task S) → q ≢ p → StepView P a p t (found_by (act_now P t.body) a.cells) q u → (At a q u → At s q u ⊎ ((k : ℕ) × (q ≡ k ∷ p))) → At s q u ⊎ ((k : ℕ) × (q ≡ k ∷ p))
      view q u ne own back = absurd (ne refl)
      view q u ne (new o e) back = inr (_, refl)
      view q u ne (old n g) back = back g

  -- a task that has gone on by itself
  pub record GoneOn (t : Task S) (a : State S) (p : List ℕ) : Type 0 where
    pub task : Task S
    pub at_ : At a p task
    pub start : task.body.start ≡ t.body.start
    pub found : IsSuffix t.body.found task.body.found

  pub alone_own : (p : List ℕ) {a : State S} → RunsAlone P p s a → (t : Task S) → At s p t → GoneOn t a p
  alone_own p begins t h = record { task = t; at_ = h; start = refl; found = whole }
  alone_own p {a = b} (goes {a = a} {t = u} r can step) t h =
      let g = alone_own p r t h in
      let e : g.task ≡ u = at_same a p g.task u g.at_ can.at_ in
      record {
        task = after_answer (found_by (act_now P u.body) a.cells) u;
        at_ = step.tasks.own;
        start = subst (λ (x : Task S). x.body.start ≡ t.body.start) e g.start;
        found = longer (subst (λ (x : Task S). IsSuffix t.body.found x.body.found) e g.found);
      }

  -- a task that has gone no further has not acted
  pub alone_still : (p : List ℕ) {a : State S} → RunsAlone P p s a → (t w : Task S) → At s p t → At a p w → w.body.found ≡ t.body.found → a ≡ s
  alone_still p begins t w h k e = refl
  alone_still p {a = b} (goes {a = a} {t = u} r can step) t w h k e =
      let g = alone_own p r t h in
      let same_u : g.task ≡ u = at_same a p g.task u g.at_ can.at_ in
      let l = suffix_length (subst (λ (x : Task S). IsSuffix t.body.found x.body.found) same_u g.found) in
      let same_w : w ≡ after_answer (found_by (act_now P u.body) a.cells) u = at_same b p w _ k step.tasks.own in
      let n : length t.body.found ≡ length (found_by (act_now P u.body) a.cells ∷ u.body.found) = ap length (sym e ∙ ap (λ (x : Task S). x.body.found) same_w) in
      absurd (omega arith)

  pub alone_first : (p : List ℕ) {a : State S} → RunsAlone P p s a → (t w : Task S) → At s p t → At a p w → w.body.found ≡ [] → a ≡ s
  alone_first p {a = a} r t w h k e =
      let g = alone_own p r t h in
      let same_w = at_same a p g.task w g.at_ k in
      let f : IsSuffix t.body.found [] = subst (λ (xs : List ℕ). IsSuffix t.body.found xs) (ap (λ (x : Task S). x.body.found) same_w ∙ e) g.found in
      alone_still p r t w h k (e ∙ sym (none_before f))

  module _ (p q : List ℕ) (ne : p ≢ q) {a b : State S} (ra : RunsAlone P p s a) (rb : RunsAlone P q s b) (tp tq : Task S) (hp : At s p tp) (hq : At s q tq) where
    same_body : (t u : Task S) → t ≡ u → IsComparable t.body u.body
    same_body t u e = record { start = ap (λ (x : Task S). x.body.start) e; found = inl (subst (λ (x : Task S). IsSuffix t.body.found x.body.found) e whole) }

    -- the tasks that both states have go together
    pub go_together : Compatible a b
    go_together r t u h k = by_path (which_path r p) (which_path r q)
      where
        of_p : r ≡ p → IsComparable t.body u.body
        of_p e =
            let g = alone_own p ra tp hp in
            let ep : g.task ≡ t = at_same a p g.task t g.at_ (subst (λ (x : List ℕ). At a x t) e h) in
            let eb : tp ≡ u = at_same b p tp u (alone_other q rb p tp ne hp) (subst (λ (x : List ℕ). At b x u) e k) in
            subst (λ (x : Task S). IsComparable x.body u.body) ep (subst (λ (x : Task S). IsComparable g.task.body x.body) eb (record { start = g.start; found = inr g.found }))

        of_q : r ≡ q → IsComparable t.body u.body
        of_q e =
            let g = alone_own q rb tq hq in
            let eq : g.task ≡ u = at_same b q g.task u g.at_ (subst (λ (x : List ℕ). At b x u) e k) in
            let ea : tq ≡ t = at_same a q tq t (alone_other p ra q tq (λ x. ne (sym x)) hq) (subst (λ (x : List ℕ). At a x t) e h) in
            subst (λ (x : Task S). IsComparable x.body u.body) ea (subst (λ (x : Task S). IsComparable tq.body x.body) eq (record { start = sym g.start; found = inl g.found }))

        of_other : r ≢ p → r ≢ q → At s r t ⊎ ((i : ℕ) × (r ≡ i ∷ p)) → At s r u ⊎ ((i : ℕ) × (r ≡ i ∷ q)) → IsComparable t.body u.body
        of_other np nq (inl g) y = same_body t u (at_same b r t u (alone_other q rb r t nq g) k)
        of_other np nq (inr x) (inl g) = same_body t u (at_same a r t u h (alone_other p ra r u np g))
        of_other np nq (inr x) (inr y) = let e : x.0 ∷ p ≡ y.0 ∷ q = sym x.1 ∙ y.1 in let f : p ≡ q = cc (e) in absurd (ne f)

        by_path : (r ≡ p) ⊎ (r ≢ p) → (r ≡ q) ⊎ (r ≢ q) → IsComparable t.body u.body
        by_path (inl e) y = of_p e
        by_path (inr np) (inl e) = of_q e
        by_path (inr np) (inr nq) = of_other np nq (alone_back p ra r t np h) (alone_back q rb r u nq k)

    abbrev pub event_of : {x : State S} {r : List ℕ} {c : ℕ} {touch : Touch} → NewTouch P s x r c touch → Event S
    event_of i = record { start = i.new.body.start; past = i.past; answer = i.answer }

    -- a new touch is not before one of the other task with which it clashes
    pub not_before : (c : ℕ) (x y : Touch) (i : NewTouch P s a p c x) (j : NewTouch P s b q c y) → Conflicts x false y false → IsEarlierPlace P (event_of i) (event_of j) → ⊥
    not_before c x y i j clash l =
        let am = alone_agrees p ra in
        let bm = alone_agrees q rb in
        let pi : i.new.body.start.path ≡ p = path_found a.tasks p i.new i.at_new in
        let pj : j.new.body.start.path ≡ q = path_found b.tasks q j.new j.at_new in
        let tin : TouchIn P main a b set_.starts am.made bm.made bm.started go_together (event_of i) c x false =
        record { task = i.new; at_ = subst (λ (r : List ℕ). At a r i.new) (sym pi) i.at_new; start = refl; found = i.done_; touches = i.touches } in
        let gr : Granted P main a b set_.starts am.made bm.made bm.started go_together (event_of j) c y false =
        record {
          task = j.new;
          at_ = subst (λ (r : List ℕ). At b r j.new) (sym pj) j.at_new;
          start = refl;
          stage = suffix_drop j.done_;
          touches = j.touches;
          direct = λ e. subst (λ (r : List ℕ). IsReady b r j.new.body.start.context) (sym pj) (bm.started.ready q j.new j.answer j.past j.at_new j.done_);
          joined = λ op e f. absurd (cc (f));
        } in
        let r = in_order P main a b set_.starts am.made bm.made bm.started go_together (event_of i) (event_of j) c x y false false tin gr clash l in
        let e : r.happened.task ≡ i.old = at_same b p r.happened.task i.old (subst (λ (v : List ℕ). At b v r.happened.task) pi r.happened.at_) (alone_other q rb p i.old ne i.at_old) in
        let f : IsSuffix (i.answer ∷ i.past) i.old.body.found = subst (λ (v : Task S). IsSuffix (i.answer ∷ i.past) v.body.found) e r.happened.found in
        let l1 = suffix_length f in
        let l2 = suffix_length i.since in
        omega arith

  abbrev pub touch_event : {x : State S} {r : List ℕ} {c : ℕ} {touch : Touch} → NewTouch P s x r c touch → Event S
  touch_event i = record { start = i.new.body.start; past = i.past; answer = i.answer }

  -- new touches of two tasks do not clash
  pub no_clash : (p q : List ℕ) → p ≢ q → {a b : State S} → RunsAlone P p s a → RunsAlone P q s b → (c : ℕ) (x y : Touch) (i : NewTouch P s a p c x) (j : NewTouch P s b q c y) → Conflicts x false y false → Conflicts y false x false → ⊥
  no_clash p q ne {a = a} {b = b} ra rb c x y i j clash back = go (compare (reverse (place P (touch_event i))) (reverse (place P (touch_event j))))
    where
      go : Compared (reverse (place P (touch_event i))) (reverse (place P (touch_event j))) → ⊥
      go (Compared.before l) = not_before p q ne ra rb i.old j.old i.at_old j.at_old c x y i j clash (inl l)
      go (Compared.after l) = not_before q p (λ e. ne (sym e)) rb ra j.old i.old j.at_old i.at_old c y x j i back (inl l)
      go (Compared.equal e) =
          let k = reverse_same (place P (touch_event i)) (place P (touch_event j)) e in
          let m : i.new.body.start.path ≡ j.new.body.start.path = cc (k) in
          ne (sym (path_found a.tasks p i.new i.at_new) ∙ (m ∙ path_found b.tasks q j.new j.at_new))
