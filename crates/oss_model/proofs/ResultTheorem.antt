-- Where no move is left, the answer of the state is the result of the sequential run.
use Rattle.std.proofs.Common.{◌≡◌, ◌≢◌, ℕ, ◌<◌, ◌≤◌, ◌⊎◌, inl, inr, refl, sym, subst, ap, ◌∙◌, List, [], ◌∷◌, length, reverse, arith, true, Option, Some, None}
use Rattle.std.proofs.lemmas.List.{ext_get_or}
use Rattle.std.specs.Prelude.{◌+◌, slice_index}
use Rattle.oss_syntax.specs.declared.fault.FaultKind.{FaultKind}
use Rattle.oss_model.specs.declared.answer.Answer.{Answer}
use Rattle.oss_model.specs.declared.answer.Answer.TheVariants as answers
use Rattle.oss_model.specs.Order.{IsSuffix, whole, IsBefore, IsEarlierKey}
use Rattle.oss_model.specs.Bodies.{Program, Act, Start, Body, stage_act, stage_created, stage_key, IsHalt, IsFault}
use Rattle.oss_model.specs.Bodies.Act.{Fault, Over}
use Rattle.oss_model.specs.Machine.{Task, State, At, IsComplete, complete}
use Rattle.oss_model.specs.Moves.{act_now, key_now, is_ended, IsClosed, IsLeast}
use Rattle.oss_model.specs.Memory.{Event, key_at, IsEarlierEvent, Happened}
use Rattle.oss_model.specs.Sequence.{Running, Sequential, IsAtEnd}
use Rattle.oss_model.specs.History.{IsMade}
use Rattle.oss_model.specs.Agreement.{Setting, Agrees, AgreesWithRun}
use Rattle.oss_model.specs.Answers.{IsNotPast, DonePrint, texts, IsOutput, IsResult, ends, fails, IsStopped, IsFinished, IsLeastFault, IsAnswer, finished, faulted}
use Rattle.oss_model.specs.Claims.{SameActs, IsStoppedAs, ended, failed, EveryResultIsTheAnswer, EveryAnswerIsTheResult, AnswersAreOne, RunKeepsOutput, ActsUpToFault, ActsUpToEnd}
use Rattle.oss_model.proofs.Places.{place}
use Rattle.oss_model.proofs.OrderLemmas.{suffix_trans, suffix_drop, suffix_length, suffix_linear, suffix_full, before_trans, before_not, Compared, compare}
use Rattle.oss_model.proofs.TreeLemmas.{at_same, over_stops, path_found, next_of}
use Rattle.oss_model.proofs.SortLemmas.{sorted_one, reverse_same}
use Rattle.oss_model.proofs.MoveLemmas.{which_path}
use Rattle.oss_model.proofs.SequenceLemmas.{Stands, stands, stage_of, not_itself}
use Rattle.oss_model.proofs.RecallLemmas.{recalls}
use Rattle.oss_model.proofs.ProgressTheorem.{all_complete, not_over}
use Rattle.oss_model.proofs.KeyOrder.{StageIn, stage_in, apart, apart_in, place_key, placed}
use Rattle.oss_model.proofs.OutputLemmas.{print_key, fault_key, run_output}
use Rattle.oss_model.proofs.AnswerTheorem.{Where, within, beyond, where_is, passed, active_before, active_path, every_stop_is_the_end}

shorter_or : (m n : ℕ) → n ≤ m → (n < m) ⊎ (m ≡ n)
shorter_or m n h = grind arith

no_fault_over : {S : Type 0} {a : Act S} {kind : FaultKind} {line : ℕ} {key : List ℕ} → a ≡ Over → a ≡ Fault kind line key → ⊥
no_fault_over e f = cc

closed_no_fault : {S : Type 0} (P : Program S) (q : List ℕ) (u : Task S) (kind : FaultKind) (line : ℕ) (key : List ℕ) → is_ended P u.body ≡ true → act_now P u.body ≡ Fault kind line key → ⊥
closed_no_fault P q u kind line key o a = no_fault_over (over_stops P u.body.start u.body.found o) a

-- one state has one output up to a bound
one_output : {S : Type 0} (P : Program S) (main : Start S) (s : State S) (bound : Option (List ℕ)) (x y : List ℕ) → IsMade P main s → IsOutput P s bound x → IsOutput P s bound y → x ≡ y
one_output P main s bound x y made a b =
    let l = placed P main s made a.list (λ e i. (a.only e i).happened) a.sorted in
    let m = placed P main s made b.list (λ e i. (b.only e i).happened) b.sorted in
    a.output_is ∙ (ap (λ (z : List (Event _)). texts P z) (sorted_one P a.list b.list l m (λ e i. b.all e (a.only e i)) (λ e i. a.all e (b.only e i))) ∙ sym b.output_is)

-- one state has one answer
pub one_answer : {S : Type 0} (P : Program S) (main : Start S) (s : State S) (a b : Answer) → IsMade P main s → IsAnswer P s a → IsAnswer P s b → a ≡ b
one_answer P main s a b made (finished {output = x} f o) (finished {output = y} g p) = ap (λ (z : List ℕ). answers.Done z s.cells) (one_output P main s None x y made o p)
one_answer P main s a b made (finished f o) (faulted q u {kind = kind} {line = line} {key = key} h e l p) = absurd (complete_no_fault (f q u h) h)
  where
    complete_no_fault : IsComplete P s q → At s q u → ⊥
    complete_no_fault (complete {t = t} at_ over given below) k = closed_no_fault P q u kind line key (subst (λ (z : Task _). is_ended P z.body ≡ true) (at_same s q t u at_ k) over) e
one_answer P main s a b made (faulted q u {kind = kind} {line = line} {key = key} h e l p) (finished f o) = absurd (complete_no_fault (f q u h) h)
  where
    complete_no_fault : IsComplete P s q → At s q u → ⊥
    complete_no_fault (complete {t = t} at_ over given below) k = closed_no_fault P q u kind line key (subst (λ (z : Task _). is_ended P z.body ≡ true) (at_same s q t u at_ k) over) e
one_answer {S = S} P main s a b made (faulted p t {kind = kind} {line = line} {key = key} {output = x} ht e l o) (faulted q u {kind = kind2} {line = line2} {key = key2} {output = y} hu e2 l2 o2) = go (same_key (compare (reverse key) (reverse key2)))
  where
    same_key : Compared (reverse key) (reverse key2) → key ≡ key2
    same_key (Compared.before h) = absurd (l2 p t kind line key ht e h)
    same_key (Compared.equal h) = reverse_same key key2 h
    same_key (Compared.after h) = absurd (l q u kind2 line2 key2 hu e2 h)

    keys : key ≡ key2 → stage_key P t.body.start t.body.found ≡ stage_key P u.body.start u.body.found
    keys k = sym (fault_key P t.body.start t.body.found kind line key e) ∙ (k ∙ fault_key P u.body.start u.body.found kind2 line2 key2 e2)

    same_path : key ≡ key2 → (p ≡ q) ⊎ (p ≢ q) → p ≡ q
    same_path k (inl r) = r
    same_path k (inr ne) = by_place (compare (reverse (stage_created P t.body.start t.body.found ∷ p)) (reverse (stage_created P u.body.start u.body.found ∷ q)))
      where
        by_place : Compared (reverse (stage_created P t.body.start t.body.found ∷ p)) (reverse (stage_created P u.body.start u.body.found ∷ q)) → p ≡ q
        by_place (Compared.before h) = absurd (before_not (apart_in P main s made p q t u t.body.found u.body.found ht hu ne h) (ap (λ (z : List ℕ). reverse z) (keys k)))
        by_place (Compared.equal h) = let r = reverse_same (stage_created P t.body.start t.body.found ∷ p) (stage_created P u.body.start u.body.found ∷ q) h in cc (r)
        by_place (Compared.after h) = absurd (before_not (apart_in P main s made q p u t u.body.found t.body.found hu ht (λ r. ne (sym r)) h) (ap (λ (z : List ℕ). reverse z) (sym (keys k))))

    go : key ≡ key2 → answers.Fault kind line x ≡ answers.Fault kind2 line2 y
    go k =
        let r = same_path k (which_path p q) in
        let same : t ≡ u = at_same s q t u (subst (λ (z : List ℕ). At s z t) r ht) hu in
        let act : Fault kind line key ≡ Fault kind2 line2 key2 = sym e ∙ (ap (λ (z : Task S). act_now P z.body) same ∙ e2) in
        let text : x ≡ y = one_output P main s (Some key2) x y made (subst (λ (z : List ℕ). IsOutput P s (Some z) x) k o) o2 in
        let k1 : kind ≡ kind2 = cc (act) in
        let l1 : line ≡ line2 = cc (act) in
        cc

module _ {S : Type 0} (P : Program S) (main : Start S) (cells : List ℕ) (z : Running S) (s : State S) (set_ : Setting main cells) (run : Sequential P main cells z) (agrees : Agrees P main cells z s) (end : IsAtEnd P z) where
  st : Stands P main z
  st = stands P main cells set_.starts z run

  made : IsMade P main s
  made = agrees.made

  -- a done act of s is in the run, or stands behind the act at which the run is at its end
  abbrev InOrPast : Event S → Type 0
  InOrPast e = Happened z.state e ⊎ ((e.start.path ≢ z.active) × IsBefore (reverse (place P (stage_of end.task.body))) (reverse (place P e)))

  in_or_past : (e : Event S) → Happened s e → InOrPast e
  in_or_past e h = go (where_is P main cells z s set_ run agrees end e.start.path stage refl h.task h.at_ h.start (suffix_drop h.found))
    where
      stage : Event S
      stage = record { start = e.start; past = e.past; answer = 0 }

      behind : e.start.path ≢ z.active → IsBefore (reverse (place P (stage_of end.task.body))) (reverse (place P e)) ⊎ ((place P (stage_of end.task.body) ≡ place P e) × (length end.task.body.found < length e.past)) → InOrPast e
      behind ne (inl l) = inr (ne, l)
      behind ne (inr l) =
          let k : end.task.body.start.path ≡ e.start.path = cc (l.0) in
          absurd (ne (sym k ∙ active_path P main cells z s set_ run agrees end))

      inside : (w : Task S) → At z.state e.start.path w → w.body.start ≡ e.start → IsSuffix e.past w.body.found → (length e.past < length w.body.found) ⊎ (length w.body.found ≡ length e.past) → InOrPast e
      inside w hw sw fw (inl l) =
          let n = next_of fw l in
          inl (record { task = w; at_ = hw; start = sw; found = subst (λ (y : List ℕ). IsSuffix y w.body.found) (one n.0 n.1 (agrees.same e.start.path w h.task hw h.at_).found) n.1 })
        where
          one : (v : ℕ) → IsSuffix (v ∷ e.past) w.body.found → IsSuffix w.body.found h.task.body.found ⊎ IsSuffix h.task.body.found w.body.found → v ∷ e.past ≡ e.answer ∷ e.past
          one v k (inl c) = suffix_full (suffix_linear (suffix_trans k c) h.found (omega arith)) (omega arith)
          one v k (inr c) = suffix_full (suffix_linear k (suffix_trans h.found c) (omega arith)) (omega arith)
      inside w hw sw fw (inr l) =
          let same : e.past ≡ w.body.found = suffix_full fw (omega arith) in
          let goes : IsHalt (act_now P w.body) → ⊥ = λ x.
          let x2 : IsHalt (stage_act P w.body.start e.past) = subst (λ (y : List ℕ). IsHalt (stage_act P w.body.start y)) (sym same) x in
          made.goes e.start.path h.task e.past e.answer h.at_ h.found (subst (λ (y : Start S). IsHalt (stage_act P y e.past)) (sw ∙ sym h.start) x2) in
          let p = passed P main cells z s set_ run agrees end e.start.path w hw goes in
          let m = st.chain e.start.path p.0 w p.1 hw in
          let c : stage_created P e.start e.past ≡ p.0 + 1 = ap (λ (y : List ℕ). stage_created P e.start y) same ∙ (ap (λ (y : Start S). stage_created P y w.body.found) (sym sw) ∙ m) in
          behind (not_itself p.1) (active_before P main cells z s set_ run agrees end e.start.path p.0 0 e refl p.1 (omega arith))

      go : Where P main cells z s set_ run agrees end e.start.path stage → InOrPast e
      go (within w hw sw fw) = inside w hw sw fw (shorter_or (length w.body.found) (length e.past) (suffix_length fw))
      go (beyond j a ne i l) = behind ne l

  -- what s did beyond the run is past the fault
  past_fault : (kind : FaultKind) (line : ℕ) (key : List ℕ) → act_now P end.task.body ≡ Fault kind line key → (e : Event S) → (h : Happened s e) → e.start.path ≢ z.active → IsBefore (reverse (place P (stage_of end.task.body))) (reverse (place P e)) → IsEarlierKey key (key_at P e)
  past_fault kind line key act e h ne l =
      let b = end.task.body in
      let l2 : IsBefore (reverse (stage_created P b.start b.found ∷ z.active)) (reverse (place P e)) = subst (λ (x : List ℕ). IsBefore (reverse (stage_created P b.start b.found ∷ x)) (reverse (place P e))) (path_found z.state.tasks z.active end.task end.at_) l in
      let l3 : IsBefore (reverse (stage_created P b.start b.found ∷ z.active)) (reverse (stage_created P h.task.body.start e.past ∷ e.start.path)) = subst (λ (x : Start S). IsBefore (reverse (stage_created P b.start b.found ∷ z.active)) (reverse (stage_created P x e.past ∷ e.start.path))) (sym h.start) l2 in
      let k = apart P main z.state s st.made made agrees.same z.active e.start.path end.task h.task b.found e.past end.at_ h.at_ (λ q. ne (sym q)) l3 in
      let k2 : IsEarlierKey (stage_key P b.start b.found) (key_at P e) = subst (λ (x : Start S). IsEarlierKey (stage_key P b.start b.found) (stage_key P x e.past)) h.start k in
      subst (λ (x : List ℕ). IsEarlierKey x (key_at P e)) (sym (fault_key P b.start b.found kind line key act)) k2

  -- what s did up to the fault is done in the run
  pub up_to_fault : (kind : FaultKind) (line : ℕ) (key : List ℕ) → act_now P end.task.body ≡ Fault kind line key → (e : Event S) → Happened s e → IsNotPast (Some key) (key_at P e) → Happened z.state e
  up_to_fault kind line key act e h within_ = go (in_or_past e h)
    where
      go : InOrPast e → Happened z.state e
      go (inl k) = k
      go (inr k) = absurd (within_ (past_fault kind line key act e h k.0 k.1))

  -- where the run has ended, what s did is done in the run
  pub up_to_end : act_now P end.task.body ≡ Over → (e : Event S) → Happened s e → Happened z.state e
  up_to_end o e h = go (where_is P main cells z s set_ run agrees end e.start.path after_ refl h.task h.at_ h.start h.found)
    where
      after_ : Event S
      after_ = record { start = e.start; past = e.answer ∷ e.past; answer = 0 }

      no_way : (j : ℕ) (a : List ℕ) → IsSuffix (j ∷ a) [] → ⊥
      no_way j a k = elim k [ ]

      at_main : z.active ≡ []
      at_main = main_or (which_path z.active [])
        where
          main_or : (z.active ≡ []) ⊎ (z.active ≢ []) → z.active ≡ []
          main_or (inl q) = q
          main_or (inr ne) = absurd (not_over P end.task.body (st.alive end.task end.at_ ne) o)

      go : Where P main cells z s set_ run agrees end e.start.path after_ → Happened z.state e
      go (within w hw sw fw) = record { task = w; at_ = hw; start = sw; found = fw }
      go (beyond j a ne i l) = absurd (no_way j a (subst (λ (y : List ℕ). IsSuffix (j ∷ a) y) at_main i))

  same_cells : ((c : ℕ) → c < length cells → slice_index s.cells c ≡ slice_index z.state.cells c) → s.cells ≡ z.state.cells
  same_cells f =
      let a = agrees.size in
      let b = (recalls P main cells set_.starts set_.memory z run).size in
      ext_get_or 0 s.cells z.state.cells (a ∙ sym b) (λ i l. f i (omega arith))

  -- the run's output is the whole output of a state with the same acts
  whole_output : SameActs z.state s → IsOutput P s None z.printed
  whole_output same =
      let o = run_output P main cells set_.starts set_.memory z run in
      record {
        list = o.list;
        sorted = o.sorted;
        only = λ e i. let d = o.only e i in record { key = d.key; text = d.text; prints = d.prints; within = tt; happened = same.forth e d.happened };
        all = λ e d. o.all e (record { key = d.key; text = d.text; prints = d.prints; within = tt; happened = same.back e d.happened });
        output_is = o.output_is;
      }

  all_finished : ((q : List ℕ) (u : Task S) → At s q u → IsClosed P q u) → IsFinished P s
  all_finished f p t h = all_complete P main s made p t h (λ q u g i. f q u g)

  module _ (p : List ℕ) (t : Task S) (at_ : At s p t) (least : IsLeast P s p t) (active : z.active ≡ p) (same : end.task.body ≡ t.body) (forth : (e : Event S) → Happened z.state e → Happened s e) (kind : FaultKind) (line : ℕ) (key : List ℕ) (act : act_now P end.task.body ≡ Fault kind line key) where
    act_t : act_now P t.body ≡ Fault kind line key
    act_t = subst (λ (b : Body S). act_now P b ≡ Fault kind line key) same act

    key_t : key ≡ stage_key P t.body.start t.body.found
    key_t = fault_key P t.body.start t.body.found kind line key act_t

    key_z : key ≡ stage_key P end.task.body.start end.task.body.found
    key_z = fault_key P end.task.body.start end.task.body.found kind line key act

    -- what the run did is not past its fault
    not_past : (e : Event S) → Happened z.state e → IsEarlierKey key (key_at P e) → ⊥
    not_past e h l = go (place_key P main z.state st.made e (stage_of end.task.body) (stage_in P main z.state st.made e h) here_ (st.ahead z.active end.task end.at_ whole e h))
      where
        here_ : StageIn P main z.state st.made (stage_of end.task.body)
        here_ = record { task = end.task; at_ = subst (λ (x : List ℕ). At z.state x end.task) (sym (path_found z.state.tasks z.active end.task end.at_)) end.at_; start = refl; stage = whole }

        l2 : IsEarlierKey (stage_key P end.task.body.start end.task.body.found) (key_at P e)
        l2 = subst (λ (x : List ℕ). IsEarlierKey x (key_at P e)) key_z l

        go : IsEarlierEvent P e (stage_of end.task.body) → ⊥
        go (inl k) = before_not (before_trans l2 k) refl
        go (inr k) = before_not l2 (ap (λ (x : List ℕ). reverse x) (sym k.0))

    fault_output : IsOutput P s (Some key) z.printed
    fault_output =
        let o = run_output P main cells set_.starts set_.memory z run in
        record {
          list = o.list;
          sorted = o.sorted;
          only = λ e i. let d = o.only e i in
              record { key = d.key; text = d.text; prints = d.prints; within = λ l. not_past e d.happened (subst (λ (x : List ℕ). IsEarlierKey key x) (print_key P e.start e.past d.key d.text d.prints) l); happened = forth e d.happened };
          all = λ e d. o.all e (record { key = d.key; text = d.text; prints = d.prints; within = tt; happened = back e d (in_or_past e d.happened) });
          output_is = o.output_is;
        }
      where
        back : (e : Event S) → DonePrint P s (Some key) e → InOrPast e → Happened z.state e
        back e d (inl h) = h
        back e d (inr k) = absurd (d.within (subst (λ (x : List ℕ). IsEarlierKey key x) (sym (print_key P e.start e.past d.key d.text d.prints)) (past_fault kind line key act e d.happened k.0 k.1)))

    least_fault : IsLeastFault P s key
    least_fault q u kind2 line2 other h a l =
        let l2 : IsEarlierKey (key_now P u.body) key = subst (λ (x : List ℕ). IsEarlierKey x key) (fault_key P u.body.start u.body.found kind2 line2 other a) l in
        closed_no_fault P q u kind2 line2 other (least q u h (subst (λ (x : List ℕ). IsEarlierKey (key_now P u.body) x) key_t l2)).ended a

    fault_answer : IsAnswer P s (answers.Fault kind line z.printed)
    fault_answer = faulted p t at_ act_t least_fault fault_output

  -- the answer of s where the run is at main's end
  end_answer : act_now P end.task.body ≡ Over → IsStoppedAs P cells z end s → IsAnswer P s (answers.Done z.printed z.state.cells)
  end_answer o (ended closed over same cells_) =
      subst (λ (x : List ℕ). IsAnswer P s (answers.Done z.printed x)) (same_cells cells_) (finished (all_finished closed) (whole_output same))
  end_answer o (failed p t at_ least fault active same forth) =
      absurd (subst IsFault (ap (λ (b : Body S). act_now P b) (sym same) ∙ o) fault)

  stop_answer : (kind : FaultKind) (line : ℕ) (key : List ℕ) → act_now P end.task.body ≡ Fault kind line key → IsStoppedAs P cells z end s → IsAnswer P s (answers.Fault kind line z.printed)
  stop_answer kind line key a (ended closed over same cells_) = absurd (closed_no_fault P z.active end.task kind line key over a)
  stop_answer kind line key a (failed p t at_ least fault active same forth) = fault_answer p t at_ least active same forth kind line key a

-- the result of the sequential run is an answer of each stopped state
pub result_answers : {S : Type 0} (P : Program S) (main : Start S) (cells : List ℕ) (s : State S) (b : Answer) → Setting main cells → AgreesWithRun P main cells s → IsStopped P s → IsResult P main cells b → IsAnswer P s b
result_answers {S = S} P main cells s b set_ agrees none (ends {z = z} run end o) = end_answer P main cells z s set_ run (agrees z run) end o (every_stop_is_the_end S P main cells z end s set_ run (agrees z run) none)
result_answers {S = S} P main cells s b set_ agrees none (fails {z = z} {kind = kind} {line = line} {key = key} run end a) =
    stop_answer P main cells z s set_ run (agrees z run) end kind line key a (every_stop_is_the_end S P main cells z end s set_ run (agrees z run) none)

pub every_result_is_the_answer : (S : Type 0) → EveryResultIsTheAnswer S
every_result_is_the_answer S P main cells s b set_ agrees none r = result_answers P main cells s b set_ agrees none r

pub answers_are_one : (S : Type 0) → AnswersAreOne S
answers_are_one S P main cells z s a b agrees h k = one_answer P main s a b agrees.made h k

-- the stage of the sequential run behind a result
result_stage : {S : Type 0} (P : Program S) (main : Start S) (cells : List ℕ) (b : Answer) → IsResult P main cells b → (z : Running S) × Sequential P main cells z
result_stage P main cells b (ends {z = z} run end o) = (z, run)
result_stage P main cells b (fails {z = z} run end a) = (z, run)

pub every_answer_is_the_result : (S : Type 0) → EveryAnswerIsTheResult S
every_answer_is_the_result S P main cells s a b set_ agrees none h r =
    let z = result_stage P main cells b r in
    one_answer P main s a b (agrees z.0 z.1).made h (result_answers P main cells s b set_ agrees none r)

pub run_keeps_output : (S : Type 0) → RunKeepsOutput S
run_keeps_output S P main cells z set_ run = run_output P main cells set_.starts set_.memory z run

pub acts_up_to_fault : (S : Type 0) → ActsUpToFault S
acts_up_to_fault S P main cells z s end kind line key e set_ run a act h w = up_to_fault P main cells z s set_ run a end kind line key act e h w

pub acts_up_to_end : (S : Type 0) → ActsUpToEnd S
acts_up_to_end S P main cells z s end e set_ run a o h = up_to_end P main cells z s set_ run a end o e h
