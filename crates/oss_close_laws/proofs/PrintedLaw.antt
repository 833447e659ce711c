-- What listed bodies have printed is gathered, body by body.
use Rattle.std.proofs.Common.{◌≡◌, ◌≢◌, ◌⊎◌, inl, inr, sym, subst, refl, ◌∙◌, ap, ℕ, zero, suc, ◌<◌, arith, List, [], ◌∷◌, ◌++◌, length, map, reverse, Some, None}
use Rattle.std.specs.Prelude.{slice_get}
use Rattle.std.proofs.lemmas.List.{append-nil, map-append}
use Rattle.oss_close_laws.specs.Printed.{ListedBodiesPrint, printed_in}
use Rattle.oss_code.specs.declared.code.CodeParts.{CodeParts}
use Rattle.oss_core.specs.Printing.{InTime}
use Rattle.oss_jobs.specs.Jobs.{printed_since}
use Rattle.oss_listed_laws.specs.Listed.{AreListed}
use Rattle.oss_machine.specs.Frames.{CodeScript}
use Rattle.oss_machine.specs.Machines.{asks}
use Rattle.oss_model.specs.Agreement.{Agrees, Setting}
use Rattle.oss_model.specs.Answers.{DonePrint, text_of}
use Rattle.oss_model.specs.Bodies.{Act, Body, Program, Start, stage_act, stage_created, stage_key}
use Rattle.oss_model.specs.Bodies.Act.{Ticked, Load, Store, Folded, Created, Awaited, Waited, WaitedOn, Releases, Printed, Ended, Fault, Over}
use Rattle.oss_model.specs.History.{IsMade}
use Rattle.oss_model.specs.Machine.{Task, State, At}
use Rattle.oss_model.specs.Memory.{Event, key_at}
use Rattle.oss_model.specs.Moves.{Reached, opening}
use Rattle.oss_model.specs.Order.{IsIn, here, there, IsSuffix, whole, longer, written}
use Rattle.oss_model.specs.Sequence.{Sequential}
use Rattle.oss_model.proofs.AgreementTheorem.{reached_agrees}
use Rattle.oss_model.proofs.KeyOrder.{apart_in}
use Rattle.oss_model.proofs.MemoryLemmas.{answer_cases}
use Rattle.oss_model.proofs.MoveLemmas.{which_path}
use Rattle.oss_model.proofs.OrderLemmas.{suffix_length, before_not, Compared, before, equal, after, compare}
use Rattle.oss_model.proofs.OutputLemmas.{print_key}
use Rattle.oss_model.proofs.SortLemmas.{reverse_same}
use Rattle.oss_model.proofs.TreeLemmas.{at_same}
use Rattle.oss_segment.specs.Made.{printed_by}
use Rattle.oss_tree.specs.declared.output.Print.{Print}
use Rattle.oss_tree.specs.Runs.{print_of}

-- two lists, one behind the other
in_both : {A : Type 0} {z : A} (xs ys : List A) → IsIn z (xs ++ ys) → IsIn z xs ⊎ IsIn z ys
in_both [] ys h = inr h
in_both (x ∷ xs) ys here = inl here
in_both (x ∷ xs) ys (there h) = elim (in_both xs ys h) [ inl i ↦ inl (there i) | inr i ↦ inr i ]

in_fore : {A : Type 0} {z : A} (xs ys : List A) → IsIn z xs → IsIn z (xs ++ ys)
in_fore [] ys h = elim h [ ]
in_fore (x ∷ xs) ys here = here
in_fore (x ∷ xs) ys (there h) = there (in_fore xs ys h)

in_aft : {A : Type 0} {z : A} (xs ys : List A) → IsIn z ys → IsIn z (xs ++ ys)
in_aft [] ys h = h
in_aft (x ∷ xs) ys h = there (in_aft xs ys h)

only_one : {A : Type 0} (x z : A) → IsIn z (x ∷ []) → z ≡ x
only_one x z here = refl
only_one x z (there h) = elim h [ ]

module _ {S : Type 0} (P : Program S) where
  in_time_both : (xs ys : List (Event S)) → InTime P xs → InTime P ys → ((e g : Event S) → IsIn e xs → IsIn g ys → key_at P e ≡ key_at P g → length e.past < length g.past) → InTime P (xs ++ ys)
  in_time_both [] ys a b f = b
  in_time_both (x ∷ xs) ys a b f = ((λ g i k. go g (in_both xs ys i) k), in_time_both xs ys a.1 b (λ e g i j. f e g (there i) j))
    where
      go : (g : Event S) → IsIn g xs ⊎ IsIn g ys → key_at P x ≡ key_at P g → length x.past < length g.past
      go g (inl i) k = a.0 g i k
      go g (inr i) k = f x g here i k

  -- the event of an act that prints
  abbrev by_act : Act S → Event S → List (Event S)
  by_act (Printed key text) e = e ∷ []
  by_act _ e = []

  -- an act prints, or leaves no event
  record Prints (a : Act S) : Type 0 where
    key : List ℕ
    text : List ℕ
    is : a ≡ Printed key text

  record Silent (a : Act S) : Type 0 where
    none : (e : Event S) → by_act a e ≡ []
    says : printed_by a ≡ []
    not : (key text : List ℕ) → a ≢ Printed key text

  which_act : (a : Act S) → Prints a ⊎ Silent a
  which_act (Printed key text) = inl (record { key = key; text = text; is = refl })
  which_act Ticked = inr (record { none = λ e. refl; says = refl; not = λ k t e. cc })
  which_act (Load c) = inr (record { none = λ e. refl; says = refl; not = λ k t e. cc })
  which_act (Store c v) = inr (record { none = λ e. refl; says = refl; not = λ k t e. cc })
  which_act (Folded c op v slot) = inr (record { none = λ e. refl; says = refl; not = λ k t e. cc })
  which_act (Created o i) = inr (record { none = λ e. refl; says = refl; not = λ k t e. cc })
  which_act Awaited = inr (record { none = λ e. refl; says = refl; not = λ k t e. cc })
  which_act Waited = inr (record { none = λ e. refl; says = refl; not = λ k t e. cc })
  which_act (WaitedOn named) = inr (record { none = λ e. refl; says = refl; not = λ k t e. cc })
  which_act (Releases clauses i) = inr (record { none = λ e. refl; says = refl; not = λ k t e. cc })
  which_act Ended = inr (record { none = λ e. refl; says = refl; not = λ k t e. cc })
  which_act (Fault kind line key) = inr (record { none = λ e. refl; says = refl; not = λ k t e. cc })
  which_act Over = inr (record { none = λ e. refl; says = refl; not = λ k t e. cc })

  -- the prints of one body, from its start on
  abbrev event_of : Start S → ℕ → List ℕ → Event S
  event_of b v past = record { start = b; past = past; answer = v }

  abbrev newest : Start S → ℕ → List ℕ → List (Event S)
  newest b v past = by_act (stage_act P b past) (record { start = b; past = past; answer = v })

  abbrev events_since : Start S → List ℕ → List (Event S)
  events_since b [] = []
  events_since b (v ∷ past) = events_since b past ++ by_act (stage_act P b past) (record { start = b; past = past; answer = v })

  newest_prints : (b : Start S) (v : ℕ) (past : List ℕ) → map (print_of P) (newest b v past) ≡ printed_by (stage_act P b past)
  newest_prints b v past = go (which_act (stage_act P b past))
    where
      e : Event S
      e = record { start = b; past = past; answer = v }

      go : Prints (stage_act P b past) ⊎ Silent (stage_act P b past) → map (print_of P) (newest b v past) ≡ printed_by (stage_act P b past)
      go (inl p) =
          let k = print_key P b past p.key p.text p.is in
          let one : print_of P (record { start = b; past = past; answer = v }) ≡ record { at = written p.key; text = p.text } = λ i. record { at = written (sym k i); text = text_of (p.is i) } in
          ap (λ (a : Act S). map (print_of P) (by_act a (record { start = b; past = past; answer = v }))) p.is
          ∙ (ap (λ (z : Print). z ∷ []) one ∙ sym (ap (λ (a : Act S). printed_by a) p.is))
      go (inr p) = ap (λ (z : List (Event S)). map (print_of P) z) (p.none (record { start = b; past = past; answer = v })) ∙ sym p.says

  prints_are : (b : Start S) (found : List ℕ) → printed_since P b [] found ≡ map (print_of P) (events_since b found)
  prints_are b [] = refl
  prints_are b (v ∷ past) =
      ap (λ (z : List ℕ). printed_since P b [] past ++ printed_by (stage_act P b z)) (append-nil past)
      ∙ (ap (λ (z : List Print). z ++ printed_by (stage_act P b past)) (prints_are b past)
      ∙ (ap (λ (z : List Print). map (print_of P) (events_since b past) ++ z) (sym (newest_prints b v past))
      ∙ sym (map-append (print_of P) (events_since b past) (newest b v past))))

  -- an event of a body that prints
  record Made (b : Start S) (found : List ℕ) (e : Event S) : Type 0 where
    start : e.start ≡ b
    done : IsSuffix (e.answer ∷ e.past) found
    prints : Prints (stage_act P e.start e.past)

  newest_only : (b : Start S) (v : ℕ) (past : List ℕ) (e : Event S) → IsIn e (newest b v past) → Made b (v ∷ past) e
  newest_only b v past e i = go (which_act (stage_act P b past))
    where
      go : Prints (stage_act P b past) ⊎ Silent (stage_act P b past) → Made b (v ∷ past) e
      go (inl p) =
          let q : e ≡ record { start = b; past = past; answer = v } = only_one (record { start = b; past = past; answer = v }) e (subst (λ (a : Act S). IsIn e (by_act a (record { start = b; past = past; answer = v }))) p.is i) in
          subst (λ (z : Event S). Made b (v ∷ past) z) (sym q) (record { start = refl; done = whole; prints = p })
      go (inr p) = elim (subst (λ (z : List (Event S)). IsIn e z) (p.none (record { start = b; past = past; answer = v })) i) [ ]

  only_since : (b : Start S) (found : List ℕ) (e : Event S) → IsIn e (events_since b found) → Made b found e
  only_since b [] e i = elim i [ ]
  only_since b (v ∷ past) e i = elim (in_both (events_since b past) (newest b v past) i) [
    | inl old ↦ let m = only_since b past e old in record { start = m.start; done = longer m.done; prints = m.prints }
    | inr new ↦ newest_only b v past e new
  ]

  all_since : (b : Start S) (found : List ℕ) (e : Event S) → Made b found e → IsIn e (events_since b found)
  all_since b [] e m = elim m.done [ ]
  all_since b (v ∷ past) e m = go (answer_cases m.done) (λ f. all_since b past e (record { start = m.start; done = f; prints = m.prints }))
    where
      go : ((e.answer ≡ v) × (e.past ≡ past)) ⊎ IsSuffix (e.answer ∷ e.past) past → (IsSuffix (e.answer ∷ e.past) past → IsIn e (events_since b past)) → IsIn e (events_since b (v ∷ past))
      go (inl q) again =
          let same : e ≡ record { start = b; past = past; answer = v } = λ i. record { start = m.start i; past = q.1 i; answer = q.0 i } in
          let act : stage_act P b past ≡ Printed m.prints.key m.prints.text = sym (λ i. stage_act P (m.start i) (q.1 i)) ∙ m.prints.is in
          in_aft (events_since b past) (newest b v past)
          (subst (λ (a : Act S). IsIn e (by_act a (record { start = b; past = past; answer = v }))) (sym act) (subst (λ (z : Event S). IsIn z (record { start = b; past = past; answer = v } ∷ [])) (sym same) here))
      go (inr f) again = in_fore (events_since b past) (newest b v past) (again f)

  newest_time : (b : Start S) (v : ℕ) (past : List ℕ) → InTime P (newest b v past)
  newest_time b v past = go (which_act (stage_act P b past))
    where
      go : Prints (stage_act P b past) ⊎ Silent (stage_act P b past) → InTime P (newest b v past)
      go (inl p) = subst (λ (a : Act S). InTime P (by_act a (record { start = b; past = past; answer = v }))) (sym p.is) ((λ g i. elim i [ ]), tt)
      go (inr p) = subst (λ (z : List (Event S)). InTime P z) (sym (p.none (record { start = b; past = past; answer = v }))) tt

  time_since : (b : Start S) (found : List ℕ) → InTime P (events_since b found)
  time_since b [] = tt
  time_since b (v ∷ past) = in_time_both (events_since b past) (newest b v past) (time_since b past) (newest_time b v past) (λ e g i j k. before_now e g i j)
    where
      at_now : (g : Event S) → IsIn g (newest b v past) → g.past ≡ past
      at_now g j = go (which_act (stage_act P b past))
        where
          go : Prints (stage_act P b past) ⊎ Silent (stage_act P b past) → g.past ≡ past
          go (inl p) = ap (λ (z : Event S). z.past) (only_one (record { start = b; past = past; answer = v }) g (subst (λ (a : Act S). IsIn g (by_act a (record { start = b; past = past; answer = v }))) p.is j))
          go (inr p) = elim (subst (λ (z : List (Event S)). IsIn g z) (p.none (record { start = b; past = past; answer = v })) j) [ ]

      before_now : (e g : Event S) → IsIn e (events_since b past) → IsIn g (newest b v past) → length e.past < length g.past
      before_now e g i j =
          let l = suffix_length ((only_since b past e i).done) in
          let q = ap (λ (z : List ℕ). length z) (at_now g j) in
          omega (arith, l, q)

  -- the prints of bodies
  abbrev events_in : List (Body S) → List (Event S)
  events_in [] = []
  events_in (b ∷ bodies) = events_since b.start b.found ++ events_in bodies

  all_prints : (bodies : List (Body S)) → printed_in P bodies ≡ map (print_of P) (events_in bodies)
  all_prints [] = refl
  all_prints (b ∷ bodies) =
      ap (λ (z : List Print). z ++ printed_in P bodies) (prints_are b.start b.found)
      ∙ (ap (λ (z : List Print). map (print_of P) (events_since b.start b.found) ++ z) (all_prints bodies)
      ∙ sym (map-append (print_of P) (events_since b.start b.found) (events_in bodies)))

  -- an event of one of the bodies
  record Within (bodies : List (Body S)) (e : Event S) : Type 0 where
    place : ℕ
    body : Body S
    at_ : slice_get bodies place ≡ Some body
    made : Made body.start body.found e

  only_in : (bodies : List (Body S)) (e : Event S) → IsIn e (events_in bodies) → Within bodies e
  only_in [] e i = elim i [ ]
  only_in (b ∷ bodies) e i = elim (in_both (events_since b.start b.found) (events_in bodies) i) [
    | inl mine ↦ record { place = 0; body = b; at_ = refl; made = only_since b.start b.found e mine }
    | inr rest ↦ let w = only_in bodies e rest in record { place = suc w.place; body = w.body; at_ = w.at_; made = w.made }
  ]

  some_body : {x y : Body S} → Some x ≡ Some y → x ≡ y
  some_body q = cc

  all_in : (bodies : List (Body S)) (v : ℕ) (b : Body S) (e : Event S) → slice_get bodies v ≡ Some b → Made b.start b.found e → IsIn e (events_in bodies)
  all_in [] v b e at_ m = absurd (let bad : ⊥ = cc in bad)
  all_in (x ∷ bodies) zero b e at_ m = in_fore (events_since x.start x.found) (events_in bodies) (all_since x.start x.found e (subst (λ (z : Body S). Made z.start z.found e) (sym (some_body at_)) m))
  all_in (x ∷ bodies) (suc v) b e at_ m = in_aft (events_since x.start x.found) (events_in bodies) (all_in bodies v b e at_ m)

  -- events of one key are of one body
  time_in : (bodies : List (Body S)) → ((v w : ℕ) (b c : Body S) (e g : Event S) → slice_get bodies v ≡ Some b → slice_get bodies w ≡ Some c → Made b.start b.found e → Made c.start c.found g → key_at P e ≡ key_at P g → v ≡ w) → InTime P (events_in bodies)
  time_in [] one = tt
  time_in (b ∷ bodies) one =
      in_time_both (events_since b.start b.found) (events_in bodies) (time_since b.start b.found) (time_in bodies (λ v w x y e g p q m n k. let z : suc v ≡ suc w = one (suc v) (suc w) x y e g p q m n k in omega (arith, z)))
      (λ e g i j k. let w = only_in bodies g j in let z : 0 ≡ suc w.place = one 0 (suc w.place) b w.body e g refl w.at_ (only_since b.start b.found e i) w.made k in absurd (omega (arith, z)))

module _ (code : CodeParts) (main : Start CodeScript) (first : List ℕ) (s : State CodeScript) (bodies : List (Body CodeScript)) (setting : Setting main first) (reached : Reached (asks code) main first s) (are : AreListed s bodies) where
  abbrev P : Program CodeScript
  P = asks code

  made : IsMade (asks code) main s
  made = let a : Agrees (asks code) main first (record { state = opening main first; active = []; printed = [] }) s = reached_agrees (asks code) main first (record { state = opening main first; active = []; printed = [] }) setting Sequential.opens s reached in a.made

  key_path : (q p : List ℕ) (u t : Task CodeScript) (past more : List ℕ) → At s q u → At s p t → stage_key (asks code) u.body.start past ≡ stage_key (asks code) t.body.start more → q ≡ p
  key_path q p u t past more hu ht e = go (which_path q p)
    where
      tail_is : {x y : ℕ} {xs ys : List ℕ} → x ∷ xs ≡ y ∷ ys → xs ≡ ys
      tail_is k = cc

      by_place : q ≢ p → Compared (reverse (stage_created (asks code) u.body.start past ∷ q)) (reverse (stage_created (asks code) t.body.start more ∷ p)) → q ≡ p
      by_place ne (before l) = absurd (before_not (apart_in (asks code) main s made q p u t past more hu ht ne l) (ap reverse e))
      by_place ne (equal k) = tail_is (reverse_same (stage_created (asks code) u.body.start past ∷ q) (stage_created (asks code) t.body.start more ∷ p) k)
      by_place ne (after l) = absurd (before_not (apart_in (asks code) main s made p q t u more past ht hu (λ x. ne (sym x)) l) (ap reverse (sym e)))

      go : (q ≡ p) ⊎ (q ≢ p) → q ≡ p
      go (inl k) = k
      go (inr ne) = by_place ne (compare (reverse (stage_created (asks code) u.body.start past ∷ q)) (reverse (stage_created (asks code) t.body.start more ∷ p)))

  one_place : (v w : ℕ) (b c : Body CodeScript) (e g : Event CodeScript) → slice_get bodies v ≡ Some b → slice_get bodies w ≡ Some c → Made (asks code) b.start b.found e → Made (asks code) c.start c.found g → key_at (asks code) e ≡ key_at (asks code) g → v ≡ w
  one_place v w b c e g at_b at_c m n k =
      let t = are.there v b at_b in
      let u = are.there w c at_c in
      let start_b : t.0.body.start ≡ e.start = ap (λ (z : Body CodeScript). z.start) t.2 ∙ sym m.start in
      let start_c : u.0.body.start ≡ g.start = ap (λ (z : Body CodeScript). z.start) u.2 ∙ sym n.start in
      let key : stage_key (asks code) t.0.body.start e.past ≡ stage_key (asks code) u.0.body.start g.past =
      ap (λ (z : Start CodeScript). stage_key (asks code) z e.past) start_b ∙ (k ∙ sym (ap (λ (z : Start CodeScript). stage_key (asks code) z g.past) start_c)) in
      let p = key_path b.start.path c.start.path t.0 u.0 e.past g.past t.1 u.1 key in
      are.one v w c.start.path (record { one = b; is = at_b; path = p }) (record { one = c; is = at_c; path = refl })

  only : (e : Event CodeScript) → IsIn e (events_in (asks code) bodies) → DonePrint (asks code) s None e
  only e i =
      let w = only_in (asks code) bodies e i in
      let t = are.there w.place w.body w.at_ in
      record {
        key = w.made.prints.key;
        text = w.made.prints.text;
        prints = w.made.prints.is;
        within = tt;
        happened = record {
          task = t.0;
          at_ = subst (λ (z : Start CodeScript). At s z.path t.0) (sym w.made.start) t.1;
          start = ap (λ (z : Body CodeScript). z.start) t.2 ∙ sym w.made.start;
          found = subst (λ (z : List ℕ). IsSuffix (e.answer ∷ e.past) z) (sym (ap (λ (z : Body CodeScript). z.found) t.2)) w.made.done;
        };
      }

  all : (e : Event CodeScript) → DonePrint (asks code) s None e → IsIn e (events_in (asks code) bodies)
  all e d =
      let h = d.happened in
      let y = are.back e.start.path h.task h.at_ in
      let b = y.1.one in
      let t = are.there y.0 b y.1.is in
      let same : t.0 ≡ h.task = at_same s e.start.path t.0 h.task (subst (λ (p : List ℕ). At s p t.0) y.1.path t.1) h.at_ in
      let body : b ≡ h.task.body = sym t.2 ∙ ap (λ (z : Task CodeScript). z.body) same in
      all_in (asks code) bodies y.0 b e y.1.is (record {
        start = sym (ap (λ (z : Body CodeScript). z.start) body ∙ h.start);
        done = subst (λ (z : List ℕ). IsSuffix (e.answer ∷ e.past) z) (sym (ap (λ (z : Body CodeScript). z.found) body)) h.found;
        prints = record { key = d.key; text = d.text; is = d.prints };
      })

pub listed_bodies_print : ListedBodiesPrint
listed_bodies_print code main first s bodies setting reached are = (
  events_in (asks code) bodies,
  record {
    time = time_in (asks code) bodies (one_place code main first s bodies setting reached are);
    only = only code main first s bodies setting reached are;
    all = all code main first s bodies setting reached are;
  },
  all_prints (asks code) bodies,
)
