-- The kept prints go on being those of the state, move by move.
use Rattle.std.proofs.Common.{◌≡◌, ◌≢◌, ℕ, ◌<◌, ◌⊎◌, inl, inr, refl, sym, subst, ap, ◌∙◌, arith, List, [], ◌∷◌, ◌++◌, length, reverse, None}
use Rattle.oss_model.specs.Order.{IsIn, here, there, IsSuffix, whole}
use Rattle.oss_model.specs.Bodies.{Program, Start, stage_act, stage_key, stage_created}
use Rattle.oss_model.specs.Bodies.Act.{Printed}
use Rattle.oss_model.specs.Machine.{Task, State, At}
use Rattle.oss_model.specs.History.{IsMade, IsStarted}
use Rattle.oss_model.specs.Memory.{Event, key_at, Happened}
use Rattle.oss_model.specs.Answers.{DonePrint}
use Rattle.oss_model.specs.Moves.{act_now, found_by, after_answer, CanStep, Stepped, GaveUp}
use Rattle.oss_model.proofs.GrowLemmas.{Grown}
use Rattle.oss_model.proofs.KeyOrder.{apart_in}
use Rattle.oss_model.proofs.MemoryLemmas.{answer_cases}
use Rattle.oss_model.proofs.MoveLemmas.{which_path, StepView, own, new, old, step_view, step_grown, GaveUpView, gave_view, gave_grown, MayGive}
use Rattle.oss_model.proofs.OrderLemmas.{suffix_trans, suffix_length, before_not, Compared, before, equal, after, compare}
use Rattle.oss_model.proofs.SortLemmas.{reverse_same, in_append}
use Rattle.oss_model.proofs.TreeLemmas.{at_same, path_found}
use Rattle.oss_core.specs.Printing.{InTime, ArePrints}
use Rattle.oss_core.proofs.EntryLemmas.{in_none, in_front, in_last}

in_time_added : {S : Type 0} (P : Program S) (es : List (Event S)) (e : Event S) → InTime P es → ((g : Event S) → IsIn g es → key_at P g ≡ key_at P e → length g.past < length e.past) → InTime P (es ++ e ∷ [])
in_time_added P [] e h f = ((λ g i. absurd (in_none i)), tt)
in_time_added {S = S} P (x ∷ es) e h f = ((λ g i. go g (in_append es i)), in_time_added P es e h.1 (λ g i. f g (there i)))
  where
    go : (g : Event S) → IsIn g es ⊎ (g ≡ e) → key_at P x ≡ key_at P g → length x.past < length g.past
    go g (inl i) k = h.0 g i k
    go g (inr q) k = subst (λ (y : Event S). length x.past < length y.past) (sym q) (f x here (k ∙ ap (λ (y : Event S). key_at P y) q))

module _ {S : Type 0} (P : Program S) (main : Start S) (s : State S) (made : IsMade P main s) where
  -- acts of one key are of one task
  key_path : (q p : List ℕ) (u t : Task S) (past more : List ℕ) → At s q u → At s p t → stage_key P u.body.start past ≡ stage_key P t.body.start more → q ≡ p
  key_path q p u t past more hu ht e = go (which_path q p)
    where
      tail_is : {x y : ℕ} {xs ys : List ℕ} → x ∷ xs ≡ y ∷ ys → xs ≡ ys
      tail_is k = cc

      by_place : q ≢ p → Compared (reverse (stage_created P u.body.start past ∷ q)) (reverse (stage_created P t.body.start more ∷ p)) → q ≡ p
      by_place ne (before l) = absurd (before_not (apart_in P main s made q p u t past more hu ht ne l) (ap reverse e))
      by_place ne (equal k) = tail_is (reverse_same (stage_created P u.body.start past ∷ q) (stage_created P t.body.start more ∷ p) k)
      by_place ne (after l) = absurd (before_not (apart_in P main s made p q t u more past ht hu (λ x. ne (sym x)) l) (ap reverse (sym e)))

      go : (q ≡ p) ⊎ (q ≢ p) → q ≡ p
      go (inl k) = k
      go (inr ne) = by_place ne (compare (reverse (stage_created P u.body.start past ∷ q)) (reverse (stage_created P t.body.start more ∷ p)))

  -- a done act with the key of the next act of a task is an earlier one of its body
  shorter_past : (p : List ℕ) (t : Task S) → At s p t → (g : Event S) → Happened s g → key_at P g ≡ stage_key P t.body.start t.body.found → length g.past < length t.body.found
  shorter_past p t at_ g h k =
      let e : g.start.path ≡ p = key_path g.start.path p h.task t g.past t.body.found h.at_ at_ (ap (λ (b : Start S). stage_key P b g.past) h.start ∙ k) in
      let f : h.task ≡ t = at_same s p h.task t (subst (λ (q : List ℕ). At s q h.task) e h.at_) at_ in
      let l = suffix_length (subst (λ (x : Task S). IsSuffix (g.answer ∷ g.past) x.body.found) f h.found) in
      omega (arith, l)

  module _ (n : State S) (grown : Grown P s n) where
    happened_forth : (e : Event S) → Happened s e → Happened n e
    happened_forth e h =
        let k = grown.keeps e.start.path h.task h.at_ in
        record { task = k.0; at_ = k.1; start = k.2.start ∙ h.start; found = suffix_trans h.found k.2.found }

    print_forth : (e : Event S) → DonePrint P s None e → DonePrint P n None e
    print_forth e d = record { key = d.key; text = d.text; prints = d.prints; within = tt; happened = happened_forth e d.happened }

  module _ (es : List (Event S)) (are : ArePrints P s es) (n : State S) (p : List ℕ) (t : Task S) (can : CanStep P s p t) (step : Stepped P s p t n) where
    abbrev v : ℕ
    v = found_by (act_now P t.body) s.cells

    abbrev now : Event S
    now = record { start = t.body.start; past = t.body.found; answer = v }

    grown : Grown P s n
    grown = step_grown P main s n p t v made can.at_ can.goes step.tasks

    happened_back : (e : Event S) → Happened n e → (e ≡ now) ⊎ Happened s e
    happened_back e h = view e.start.path h.task (step_view P main s n p t v made can.at_ can.goes step.tasks e.start.path h.task h.at_) refl h.start h.found
      where
        view : (q : List ℕ) (u : Task S) → StepView P s p t v q u → q ≡ e.start.path → u.body.start ≡ e.start → IsSuffix (e.answer ∷ e.past) u.body.found → (e ≡ now) ⊎ Happened s e
        view q u own k a f = by_answer (answer_cases f)
          where
            by_answer : ((e.answer ≡ v) × (e.past ≡ t.body.found)) ⊎ IsSuffix (e.answer ∷ e.past) t.body.found → (e ≡ now) ⊎ Happened s e
            by_answer (inl x) = inl (λ i. record { start = sym a i; past = x.1 i; answer = x.0 i })
            by_answer (inr g) = inr (record { task = t; at_ = subst (λ (r : List ℕ). At s r t) k can.at_; start = a; found = g })
        view q u (new o x) k a f = elim f [ ]
        view q u (old ne g) k a f = inr (record { task = u; at_ = subst (λ (r : List ℕ). At s r u) k g; start = a; found = f })

    -- a print
    pub prints_more : (key text : List ℕ) → act_now P t.body ≡ Printed key text → ArePrints P n (es ++ now ∷ [])
    prints_more key text a = record {
      time = in_time_added P es now are.time (λ g i k. shorter_past p t can.at_ g (are.only g i).happened k);
      only = λ e i. only e (in_append es i);
      all = λ e d. all e d (happened_back e d.happened);
    }
      where
        own_path : t.body.start.path ≡ p
        own_path = path_found s.tasks p t can.at_

        new_print : DonePrint P n None now
        new_print = record {
          key = key;
          text = text;
          prints = a;
          within = tt;
          happened = record { task = after_answer v t; at_ = subst (λ (q : List ℕ). At n q (after_answer v t)) (sym own_path) step.tasks.own; start = refl; found = whole };
        }

        only : (e : Event S) → IsIn e es ⊎ (e ≡ now) → DonePrint P n None e
        only e (inl i) = print_forth n grown e (are.only e i)
        only e (inr k) = subst (λ (g : Event S). DonePrint P n None g) (sym k) new_print

        all : (e : Event S) → DonePrint P n None e → (e ≡ now) ⊎ Happened s e → IsIn e (es ++ now ∷ [])
        all e d (inl k) = subst (λ (g : Event S). IsIn g (es ++ now ∷ [])) (sym k) (in_last es now)
        all e d (inr h) = in_front es (now ∷ []) (are.all e (record { key = d.key; text = d.text; prints = d.prints; within = tt; happened = h }))

    -- an act that prints nothing
    pub prints_same : ((key text : List ℕ) → act_now P t.body ≢ Printed key text) → ArePrints P n es
    prints_same none = record { time = are.time; only = λ e i. print_forth n grown e (are.only e i); all = λ e d. all e d (happened_back e d.happened) }
      where
        all : (e : Event S) → DonePrint P n None e → (e ≡ now) ⊎ Happened s e → IsIn e es
        all e d (inl k) = absurd (none d.key d.text (ap (λ (g : Event S). stage_act P g.start g.past) (sym k) ∙ d.prints))
        all e d (inr h) = are.all e (record { key = d.key; text = d.text; prints = d.prints; within = tt; happened = h })

  -- a cell that is given up
  pub prints_kept : (es : List (Event S)) → ArePrints P s es → IsStarted P s → (n : State S) (p : List ℕ) (c : ℕ) (t : Task S) → At s p t → MayGive P s p c t → GaveUp s p c t n → ArePrints P n es
  prints_kept es are started n p c t at_ may gave = record { time = are.time; only = λ e i. print_forth n grown e (are.only e i); all = λ e d. are.all e (record { key = d.key; text = d.text; prints = d.prints; within = tt; happened = back e d.happened }) }
    where
      grown : Grown P s n
      grown = gave_grown P main s n p c t made started at_ may gave

      back : (e : Event S) → Happened n e → Happened s e
      back e h = view e.start.path h.task (gave_view P main s n p c t made started at_ may gave e.start.path h.task h.at_) refl h.start h.found
        where
          view : (q : List ℕ) (u : Task S) → GaveUpView s p c t q u → q ≡ e.start.path → u.body.start ≡ e.start → IsSuffix (e.answer ∷ e.past) u.body.found → Happened s e
          view q u GaveUpView.own k a f = record { task = t; at_ = subst (λ (r : List ℕ). At s r t) k at_; start = a; found = f }
          view q u (GaveUpView.old ne g) k a f = record { task = u; at_ = subst (λ (r : List ℕ). At s r u) k g; start = a; found = f }
