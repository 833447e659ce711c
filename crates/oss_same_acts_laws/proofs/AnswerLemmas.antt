-- States that are alike have the same answer.
use Rattle.std.proofs.Common.{◌≡◌, ℕ, inl, inr, refl, sym, subst, ap, ◌∙◌, List, [], ◌∷◌, ◌++◌, ◌<◌, length, Option, Some, None}
use Rattle.oss_syntax.specs.declared.fault.FaultKind.{FaultKind}
use Rattle.oss_model.specs.declared.answer.Answer.{Answer}
use Rattle.oss_model.specs.declared.answer.Answer.TheVariants as answers
use Rattle.oss_model.specs.Order.{IsIn, here, there, IsSuffix, IsEarlierKey}
use Rattle.oss_model.specs.Bodies.{Program, Act, Frame, Start, stage_act}
use Rattle.oss_model.specs.Bodies.Act.{Printed, Fault}
use Rattle.oss_model.specs.Machine.{State, At}
use Rattle.oss_model.specs.Memory.{Event, key_at, IsEarlierEvent, Happened, IsSorted}
use Rattle.oss_model.specs.Answers.{DonePrint, text_of, texts, IsOutput, IsFinished, IsLeastFault, IsAnswer, finished, faulted}
use Rattle.oss_model.proofs.TreeLemmas.{at_same, path_found}
use Rattle.oss_same_acts_laws.specs.Alike.{AreActsAlike, both_tick, both_load, both_store, both_fold, both_create, both_include, both_await, both_wait, both_wait_on, both_release, both_print, both_end, both_fault, both_over, AreBodiesAlike, IsBisimulation, turned, IsAlike}
use Rattle.oss_same_acts_laws.proofs.TurnLemmas.{acts_back, bisimulation_back, alike_back, at_forth, at_back}
use Rattle.oss_same_acts_laws.proofs.ActLemmas.{now}
use Rattle.oss_same_acts_laws.proofs.MayLemmas.{complete_forth}

module _ {S T : Type 0} {R : Start S → Start T → Type 0} {f : Frame S} {g : Frame T} where
  print_forth : {a : Act S} {b : Act T} → AreActsAlike R f g a b → (key text : List ℕ) → a ≡ Printed key text → b ≡ Printed key text
  print_forth both_print key text e = cc
  print_forth both_tick key text e = cc
  print_forth both_load key text e = cc
  print_forth both_store key text e = cc
  print_forth both_fold key text e = cc
  print_forth (both_create r) key text e = cc
  print_forth both_include key text e = cc
  print_forth both_await key text e = cc
  print_forth both_wait key text e = cc
  print_forth both_wait_on key text e = cc
  print_forth both_release key text e = cc
  print_forth both_end key text e = cc
  print_forth both_fault key text e = cc
  print_forth both_over key text e = cc

  pub fault_forth : {a : Act S} {b : Act T} → AreActsAlike R f g a b → (kind : FaultKind) (line : ℕ) (key : List ℕ) → a ≡ Fault kind line key → b ≡ Fault kind line key
  fault_forth both_fault kind line key e = cc
  fault_forth both_tick kind line key e = cc
  fault_forth both_load kind line key e = cc
  fault_forth both_store kind line key e = cc
  fault_forth both_fold kind line key e = cc
  fault_forth (both_create r) kind line key e = cc
  fault_forth both_include kind line key e = cc
  fault_forth both_await kind line key e = cc
  fault_forth both_wait kind line key e = cc
  fault_forth both_wait_on kind line key e = cc
  fault_forth both_release kind line key e = cc
  fault_forth both_print kind line key e = cc
  fault_forth both_end kind line key e = cc
  fault_forth both_over kind line key e = cc

  text_alike : {a : Act S} {b : Act T} → AreActsAlike R f g a b → text_of a ≡ text_of b
  text_alike both_print = refl
  text_alike both_tick = refl
  text_alike both_load = refl
  text_alike both_store = refl
  text_alike both_fold = refl
  text_alike (both_create r) = refl
  text_alike both_include = refl
  text_alike both_await = refl
  text_alike both_wait = refl
  text_alike both_wait_on = refl
  text_alike both_release = refl
  text_alike both_end = refl
  text_alike both_fault = refl
  text_alike both_over = refl

event_of : {T : Type 0} → Start T → List ℕ → ℕ → Event T
event_of b past answer = record { start = b; past = past; answer = answer }

one_event : {T : Type 0} (b c : Start T) (p q : List ℕ) (v w : ℕ) → b ≡ c → p ≡ q → v ≡ w → event_of b p v ≡ event_of c q w
one_event b c p q v w i j k = cc

-- an act that is done in the second state, of the body that goes together with that of an act of the first
record IsPartner {S T : Type 0} (R : Start S → Start T → Type 0) (n : State T) (e : Event S) (g : Event T) : Type 0 where
  pub start : R e.start g.start
  pub past : e.past ≡ g.past
  pub answer : e.answer ≡ g.answer
  pub happened : Happened n g

-- acts and their partners, in the same order
data ArePartners {S T : Type 0} (R : Start S → Start T → Type 0) (n : State T) : List (Event S) → List (Event T) → Type 0 where
  no_more : ArePartners R n [] []
  one_more : {e : Event S} {g : Event T} {es : List (Event S)} {gs : List (Event T)} → IsPartner R n e g → ArePartners R n es gs → ArePartners R n (e ∷ es) (g ∷ gs)

module _ {S T : Type 0} (P : Program S) (Q : Program T) (R : Start S → Start T → Type 0) (is : IsBisimulation P Q R) {s : State S} {n : State T} (same : IsAlike R s n) where
  partner : (e : Event S) → Happened s e → (g : Event T) × IsPartner R n e g
  partner e h =
      let k = at_forth same e.start.path h.task h.at_ in (
        record { start = k.0.body.start; past = e.past; answer = e.answer },
        record {
          start = subst (λ (b : Start S). R b k.0.body.start) h.start k.2.start;
          past = refl;
          answer = refl;
          happened = record {
            task = k.0;
            at_ = subst (λ (p : List ℕ). At n p k.0) (sym (path_found n.tasks e.start.path k.0 k.1)) k.1;
            start = refl;
            found = subst (λ (xs : List ℕ). IsSuffix (e.answer ∷ e.past) xs) k.2.found h.found;
          };
        },
      )

  -- an act has one partner
  one_partner : (e : Event S) (g x : Event T) → IsPartner R n e g → IsPartner R n e x → g ≡ x
  unfolding event_of
  one_partner e g x a b =
      let p : g.start.path ≡ x.start.path = sym (is e.start g.start a.start).path ∙ (is e.start x.start b.start).path in
      let t = at_same n x.start.path a.happened.task b.happened.task (subst (λ (q : List ℕ). At n q a.happened.task) p a.happened.at_) b.happened.at_ in
      one_event g.start x.start g.past x.past g.answer x.answer (sym a.happened.start ∙ (ap (λ u. u.body.start) t ∙ b.happened.start)) (sym a.past ∙ b.past) (sym a.answer ∙ b.answer)

  -- partners stand alike, and have one key
  there_alike : {e : Event S} {g : Event T} → IsPartner R n e g → AreBodiesAlike P Q R (record { start = e.start; found = e.past }) (record { start = g.start; found = g.past })
  there_alike {e = e} {g = g} k =
      subst (λ (past : List ℕ). AreBodiesAlike P Q R (record { start = e.start; found = e.past }) (record { start = g.start; found = past })) k.past ((is e.start g.start k.start).each e.past)

  earlier_forth : {e x : Event S} {g y : Event T} → IsPartner R n e g → IsPartner R n x y → IsEarlierEvent P e x → IsEarlierEvent Q g y
  earlier_forth {e = e} {x = x} {g = g} {y = y} a b (inl l) =
      inl (subst (λ (k : List ℕ). IsEarlierKey k (key_at Q y)) (there_alike a).key (subst (λ (k : List ℕ). IsEarlierKey (key_at P e) k) (there_alike b).key l))
  earlier_forth {e = e} {x = x} {g = g} {y = y} a b (inr l) =
      inr (sym (there_alike a).key ∙ (l.0 ∙ (there_alike b).key), subst (λ (k : List ℕ). length k < length y.past) a.past (subst (λ (k : List ℕ). length e.past < length k) b.past l.1))

  partners : (es : List (Event S)) → ((e : Event S) → IsIn e es → Happened s e) → (gs : List (Event T)) × ArePartners R n es gs
  partners [] h = ([], no_more)
  partners (e ∷ es) h =
      let a = partner e (h e here) in
      let b = partners es (λ x i. h x (there i)) in
      (a.0 ∷ b.0, one_more a.1 b.1)

  in_back : {es : List (Event S)} {gs : List (Event T)} → ArePartners R n es gs → (g : Event T) → IsIn g gs → (e : Event S) × IsIn e es × IsPartner R n e g
  in_back no_more g i = elim i [ ]
  in_back (one_more {e = e} k rest) g here = (e, here, k)
  in_back (one_more k rest) g (there i) = let a = in_back rest g i in (a.0, there a.1, a.2)

  in_forth : {es : List (Event S)} {gs : List (Event T)} → ArePartners R n es gs → (e : Event S) → IsIn e es → (g : Event T) × IsIn g gs × IsPartner R n e g
  in_forth no_more e i = elim i [ ]
  in_forth (one_more {g = g} k rest) e here = (g, here, k)
  in_forth (one_more k rest) e (there i) = let a = in_forth rest e i in (a.0, there a.1, a.2)

  sorted_forth : {es : List (Event S)} {gs : List (Event T)} → ArePartners R n es gs → IsSorted P es → IsSorted Q gs
  sorted_forth no_more h = tt
  sorted_forth (one_more k rest) h = ((λ y i. let a = in_back rest y i in earlier_forth k a.2 (h.0 a.0 a.1)), sorted_forth rest h.1)

  texts_alike : {es : List (Event S)} {gs : List (Event T)} → ArePartners R n es gs → texts P es ≡ texts Q gs
  texts_alike no_more = refl
  texts_alike (one_more {e = e} {g = g} {es = es} {gs = gs} k rest) =
      ap (λ xs. xs ++ texts P es) (text_alike (there_alike k).acts) ∙ ap (λ xs. text_of (stage_act Q g.start g.past) ++ xs) (texts_alike rest)

  print_too : {bound : Option (List ℕ)} {e : Event S} {g : Event T} → IsPartner R n e g → DonePrint P s bound e → DonePrint Q n bound g
  print_too k h = record { key = h.key; text = h.text; prints = print_forth (there_alike k).acts h.key h.text h.prints; within = h.within; happened = k.happened }

  finished_forth : IsFinished P s → IsFinished Q n
  finished_forth h p u a = let k = at_back same p u a in complete_forth P Q R is same (h p k.0 k.1)

  least_forth : (key : List ℕ) → IsLeastFault P s key → IsLeastFault Q n key
  least_forth key h p u kind line other a e =
      let k = at_back same p u a in
      h p k.0 kind line other k.1 (fault_forth (acts_back (now P Q R is k.2).acts) kind line other e)

module _ {S T : Type 0} (P : Program S) (Q : Program T) (R : Start S → Start T → Type 0) (is : IsBisimulation P Q R) {s : State S} {n : State T} (same : IsAlike R s n) where
  -- a done print is one of the other state
  print_back : {bound : Option (List ℕ)} (g : Event T) → DonePrint Q n bound g → (e : Event S) × DonePrint P s bound e × IsPartner R n e g
  print_back g h =
      let k = partner Q P (turned R) (bisimulation_back is) (alike_back same) g h.happened in
      (k.0, print_too Q P (turned R) (bisimulation_back is) (alike_back same) k.1 h, record { start = k.1.start; past = sym k.1.past; answer = sym k.1.answer; happened = h.happened })

  -- the states have the same output
  pub output_forth : (bound : Option (List ℕ)) (output : List ℕ) → IsOutput P s bound output → IsOutput Q n bound output
  output_forth bound output h =
      let k = partners P Q R is same h.list (λ e i. (h.only e i).happened) in
      record {
        list = k.0;
        sorted = sorted_forth P Q R is same k.1 h.sorted;
        only = λ g i. let a = in_back P Q R is same k.1 g i in print_too P Q R is same a.2 (h.only a.0 a.1);
        all = λ g d. let a = print_back g d in
            let b = in_forth P Q R is same k.1 a.0 (h.all a.0 a.1) in
            subst (λ (x : Event T). IsIn x k.0) (one_partner P Q R is same a.0 b.0 g b.2 a.2) b.1;
        output_is = h.output_is ∙ texts_alike P Q R is same k.1;
      }

  -- and the same answer
  pub answer_forth : (a : Answer) → IsAnswer P s a → IsAnswer Q n a
  answer_forth a (finished {output = output} done out) =
      subst (λ (cells : List ℕ). IsAnswer Q n (answers.Done output cells)) (sym same.cells) (finished (finished_forth P Q R is same done) (output_forth None output out))
  answer_forth a (faulted p t {kind = kind} {line = line} {key = key} {output = output} at_ act least out) =
      let k = at_forth same p t at_ in
      faulted p k.0 k.1 (fault_forth (now P Q R is k.2).acts kind line key act) (least_forth P Q R is same key least) (output_forth (Some key) output out)
