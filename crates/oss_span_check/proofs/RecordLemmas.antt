-- The record of a run tells of the state behind one act more.
use Rattle.std.proofs.Common.{◌≡◌, ◌≢◌, ◌≤◌, ◌<◌, ◌⊎◌, inl, inr, refl, sym, subst, ap, ◌∙◌, ℕ, Bool, true, false, List, [], ◌∷◌, ◌++◌, length, Option, Some, None, arith}
use Rattle.std.specs.Prelude.{nat_le, nat_lt, if◌then◌else◌, cond}
use Rattle.std.proofs.lemmas.Bool.Decides.{nat_tests}
use Rattle.oss_syntax.specs.declared.access.Access.{Access}
use Rattle.oss_judge.specs.Joined.{IsRising, held_right}
use Rattle.oss_model.specs.Agreement.{MainStarts}
use Rattle.oss_model.specs.Bodies.{Act, Order, Program, Start}
use Rattle.oss_model.specs.Bodies.Act.{Created}
use Rattle.oss_model.specs.Context.{right_of}
use Rattle.oss_model.specs.Machine.{At, Task}
use Rattle.oss_model.specs.Moves.{act_now, created_now, found_by, new_task}
use Rattle.oss_model.specs.Order.{IsIn, here, there, written}
use Rattle.oss_model.specs.Rights.{Right, NoRight, Released, Holds, in_access, joined_right, right_from}
use Rattle.oss_model.specs.Sequence.{Running, RunsOn}
use Rattle.oss_model.proofs.MoveLemmas.{StepView, own, new, old, step_view}
use Rattle.oss_model.proofs.SequenceLemmas.{Stands}
use Rattle.oss_chain_laws.specs.Happenings.{Does}
use Rattle.oss_span_check.specs.declared.note.Made.{Made}
use Rattle.oss_span_check.specs.declared.note.Note.{Note}
use Rattle.oss_span_check.specs.declared.note.What.{What}
use Rattle.oss_span_check.specs.declared.record.Record.{Record}
use Rattle.oss_span_check.specs.Following.{with_note}
use Rattle.oss_span_check.specs.Queries.{access_in}
use Rattle.oss_span_check.specs.Records.{AreOnce, AreTwo, HasMade, HasNote, IsMadeSo, IsNoteSo, IsNoted, IsRecord, IsRight, IsSeen, right_by}
use Rattle.oss_span_check.proofs.ListLemmas.{and_parts, bools}
use Rattle.oss_span_check.proofs.PointLemmas.{written_same}
use Rattle.oss_span_check.proofs.StepLemmas.{IsNow, does_back, does_now, does_on, grows, not_before}

-- lists with one more

in_front : {A : Type 0} {x : A} {xs : List A} (ys : List A) → IsIn x xs → IsIn x (xs ++ ys)
in_front ys here = here
in_front ys (there i) = there (in_front ys i)

in_last : {A : Type 0} (xs : List A) (x : A) → IsIn x (xs ++ x ∷ [])
in_last [] x = here
in_last (y ∷ xs) x = there (in_last xs x)

first_cases : {A : Type 0} {x y : A} {xs : List A} → IsIn x (y ∷ xs) → (x ≡ y) ⊎ IsIn x xs
first_cases here = inl refl
first_cases (there i) = inr i

last_cases : {A : Type 0} (xs : List A) (y : A) {x : A} → IsIn x (xs ++ y ∷ []) → IsIn x xs ⊎ (x ≡ y)
last_cases [] y {x = x} i = go (first_cases i)
  where
    go : (x ≡ y) ⊎ IsIn x [] → IsIn x [] ⊎ (x ≡ y)
    go (inl e) = inr e
    go (inr h) = inl h
last_cases (z ∷ xs) y {x = x} i = go (first_cases i) (λ h. last_cases xs y h)
  where
    go : (x ≡ z) ⊎ IsIn x (xs ++ y ∷ []) → (IsIn x (xs ++ y ∷ []) → IsIn x xs ⊎ (x ≡ y)) → IsIn x (z ∷ xs) ⊎ (x ≡ y)
    go (inl e) again = inl (subst (λ (w : _). IsIn w (z ∷ xs)) (sym e) here)
    go (inr h) again = step (again h)
      where
        step : IsIn x xs ⊎ (x ≡ y) → IsIn x (z ∷ xs) ⊎ (x ≡ y)
        step (inl j) = inl (there j)
        step (inr e) = inr e

once_more : (xs : List Note) (y : Note) → AreOnce xs → ((x : Note) → IsIn x xs → AreTwo x y) → AreOnce (xs ++ y ∷ [])
once_more [] y h two = ((λ x i. elim i [ ]), tt)
once_more (x ∷ xs) y h two = (each, once_more xs y h.1 (λ z i. two z (there i)))
  where
    each : (z : Note) → IsIn z (xs ++ y ∷ []) → AreTwo x z
    each z i = go (last_cases xs y i)
      where
        go : IsIn z xs ⊎ (z ≡ y) → AreTwo x z
        go (inl j) = h.0 z j
        go (inr e) = subst (λ (w : Note). AreTwo x w) (sym e) (two x here)

-- the right by the accesses of a body

in_one : (a : Access) (c : ℕ) → in_access a c ≡ true → (a.range.lo ≤ c) × (c < a.range.hi)
in_one a c h = let g = and_parts (nat_le a.range.lo c) (nat_lt c a.range.hi) h in (first g.0, second g.1)
  where
    first : nat_le a.range.lo c ≡ true → a.range.lo ≤ c
    first e = grind (arith, nat_tests)

    second : nat_lt c a.range.hi ≡ true → c < a.range.hi
    second e = grind (arith, nat_tests)

-- no access behind one names a cell before its end
none_behind : (a : Access) (xs : List Access) (c : ℕ) → IsRising (a ∷ xs) → c < a.range.hi → right_from false xs c ≡ NoRight
none_behind a [] c h l = refl
none_behind a (b ∷ xs) c h l = go (bools (in_access b c)) (λ k. none_behind b xs c h.1 k)
  where
    behind : a.range.hi ≤ b.range.lo
    behind = h.0.behind

    go : (in_access b c ≡ true) ⊎ (in_access b c ≡ false) → (c < b.range.hi → right_from false xs c ≡ NoRight) → right_from false (b ∷ xs) c ≡ NoRight
    go (inl e) again = let g = in_one b c e in let k = g.0 in absurd (omega (arith, behind, l, k))
    go (inr e) again =
        ap (λ (t : Bool). if t then joined_right b.mode b.strong (right_from false xs c) else right_from false xs c) e
        ∙ again (let o = b.range.ordered in omega (arith, behind, l, o))

rising_rest : (a : Access) (xs : List Access) → IsRising (a ∷ xs) → IsRising xs
rising_rest a [] h = tt
rising_rest a (b ∷ xs) h = h.1

pub rising_access : (xs : List Access) (c : ℕ) → IsRising xs → right_from false xs c ≡ right_by (access_in xs c)
rising_access [] c h = refl
rising_access (a ∷ xs) c h = go (bools (in_access a c)) (rising_access xs c (rising_rest a xs h))
  where
    go : (in_access a c ≡ true) ⊎ (in_access a c ≡ false) → right_from false xs c ≡ right_by (access_in xs c) → right_from false (a ∷ xs) c ≡ right_by (access_in (a ∷ xs) c)
    go (inl e) again =
        ap (λ (t : Bool). if t then joined_right a.mode a.strong (right_from false xs c) else right_from false xs c) e
        ∙ (ap (λ (x : Right). joined_right a.mode a.strong x) (none_behind a xs c h (in_one a c e).1) ∙ sym (ap (λ (t : Bool). right_by (cond t (Some a) (access_in xs c))) e))
    go (inr e) again =
        ap (λ (t : Bool). if t then joined_right a.mode a.strong (right_from false xs c) else right_from false xs c) e
        ∙ (again ∙ sym (ap (λ (t : Bool). right_by (cond t (Some a) (access_in xs c))) e))

no_right : (o : Option Access) → right_by o ≡ NoRight → o ≡ None
no_right None h = refl
no_right (Some a) h = absurd cc

pub right_is : (right : Right) (o : Option Access) → right_by o ≡ held_right right → IsRight right o
right_is (Holds m b) o h = h
right_is NoRight o h = no_right o h
right_is Released o h = no_right o h

-- one act more

module _ {S : Type 0} (P : Program S) (main : Start S) (cells : List ℕ) (ms : MainStarts main) (z y : Running S) (st : Stands P main z) (r : RunsOn P z y) (record_ : Record) (so : IsRecord P z.state record_) where
  abbrev pub now_what : Option What → Type 0
  now_what None = IsNoted (act_now P r.task.body) → ⊥
  now_what (Some w) = IsSeen w (act_now P r.task.body)

  old_note : (x : Note) → IsIn x record_.notes → IsNoteSo P y.state x
  old_note x i =
      let t = so.notes_so x i in
      record { path = t.path; created = t.created; act = t.act; point = t.point; does = does_on P z.state y.state (grows P main cells ms z y st r) t.does; seen = t.seen }

  new_note : (w : What) (point : List ℕ) → point ≡ written z.active → IsSeen w (act_now P r.task.body) → IsNoteSo P y.state (record { point = point; number = length r.task.body.found; what = w })
  new_note w point e h = record { path = z.active; created = created_now P r.task.body; act = act_now P r.task.body; point = e; does = does_now P main cells ms z y st r; seen = h }

  pub record NotesOn (notes : List Note) : Type 0 where
    pub notes_so : (x : Note) → IsIn x notes → IsNoteSo P y.state x
    pub noted : (p : List ℕ) (n k : ℕ) (a : Act S) → Does P y.state p n k a → IsNoted a → HasNote notes p n
    pub once : AreOnce notes

  pub notes_on : (point : List ℕ) (what : Option What) → point ≡ written z.active → now_what what → NotesOn (with_note record_.notes point (length r.task.body.found) what)
  notes_on point None e h = record { notes_so = old_note; noted = λ p n k a d i. go p n k a i (does_back P main cells ms z y st r d); once = so.once }
    where
      go : (p : List ℕ) (n k : ℕ) (a : Act S) → IsNoted a → Does P z.state p n k a ⊎ IsNow P main cells ms z y st r p n a → HasNote record_.notes p n
      go p n k a i (inl d) = so.noted p n k a d i
      go p n k a i (inr x) = absurd (h (subst IsNoted x.act i))
  notes_on point (Some w) e h = record { notes_so = λ x i. each x (last_cases record_.notes last i); noted = λ p n k a d i. go p n k a i (does_back P main cells ms z y st r d); once = once_more record_.notes last so.once two }
    where
      last : Note
      last = record { point = point; number = length r.task.body.found; what = w }

      each : (x : Note) → IsIn x record_.notes ⊎ (x ≡ last) → IsNoteSo P y.state x
      each x (inl i) = old_note x i
      each x (inr q) = subst (λ (v : Note). IsNoteSo P y.state v) (sym q) (new_note w point e h)

      go : (p : List ℕ) (n k : ℕ) (a : Act S) → IsNoted a → Does P z.state p n k a ⊎ IsNow P main cells ms z y st r p n a → HasNote (record_.notes ++ last ∷ []) p n
      go p n k a i (inl d) = let x = so.noted p n k a d i in record { note = x.note; listed = in_front (last ∷ []) x.listed; point = x.point; number = x.number }
      go p n k a i (inr x) = record { note = last; listed = in_last record_.notes last; point = e ∙ ap (λ (q : List ℕ). written q) (sym x.path); number = sym x.number }

      two : (x : Note) → IsIn x record_.notes → AreTwo x last
      two x i p n =
          let t = so.notes_so x i in
          let q : t.path ≡ z.active = written_same t.path z.active (sym t.point ∙ (p ∙ e)) in
          not_before P main cells ms z y st r (subst (λ (m : ℕ). Does P z.state z.active m t.created t.act) n (subst (λ (v : List ℕ). Does P z.state v x.number t.created t.act) q t.does))

  -- tasks

  viewed : (q : List ℕ) (u : Task S) → At y.state q u → StepView P z.state z.active r.task (found_by (act_now P r.task.body) z.state.cells) q u
  viewed q u h = step_view P main z.state y.state z.active r.task (found_by (act_now P r.task.body) z.state.cells) st.made r.at_ r.goes r.tasks q u h

  old_made : (m : Made) → IsIn m record_.made → IsMadeSo P y.state m
  old_made m i =
      let t = so.made_so m i in
      let ex = grows P main cells ms z y st r in
      let g = ex.grown (t.number ∷ t.path) t.task t.at_ in
      record {
        number = t.number;
        path = t.path;
        task = g.0;
        order = t.order;
        point = t.point;
        at_ = g.1;
        does = does_on P z.state y.state ex t.does;
        wait = t.wait ∙ ap (λ (b : Start S). b.order.wait) (sym g.2);
        rights = λ c. subst (λ (b : Start S). IsRight (right_of b.context c) (access_in m.accesses c)) (sym g.2) (t.rights c);
      }

  pub record MadeOn (made : List Made) : Type 0 where
    pub made_so : (m : Made) → IsIn m made → IsMadeSo P y.state m
    pub made_all : (k : ℕ) (p : List ℕ) (t : Task S) → At y.state (k ∷ p) t → HasMade made (k ∷ p)

  nil_no : (k : ℕ) (p : List ℕ) → [] ≡ k ∷ p → ⊥
  nil_no k p e = cc

  has_old : (q : List ℕ) (u : Task S) → At z.state q u → (k : ℕ) (p : List ℕ) → q ≡ k ∷ p → HasMade record_.made (k ∷ p)
  has_old q u h k p e = so.made k p u (subst (λ (v : List ℕ). At z.state v u) e h)

  pub made_same : ((o : Order S) → act_now P r.task.body ≢ Created o false) → MadeOn record_.made
  made_same none = record { made_so = old_made; made_all = λ k p t h. go (k ∷ p) t (viewed (k ∷ p) t h) k p refl }
    where
      go : (q : List ℕ) (u : Task S) → StepView P z.state z.active r.task (found_by (act_now P r.task.body) z.state.cells) q u → (k : ℕ) (p : List ℕ) → q ≡ k ∷ p → HasMade record_.made (k ∷ p)
      go q u own k p e = has_old z.active r.task r.at_ k p e
      go q u (new o a) k p e = absurd (none o a)
      go q u (old ne h) k p e = has_old q u h k p e

  pub made_more : (o : Order S) → act_now P r.task.body ≡ Created o false → (m : Made) → m.point ≡ written (created_now P r.task.body ∷ z.active) → m.number ≡ length r.task.body.found → m.wait ≡ (new_task P r.task.body o).body.start.order.wait
      → ((c : ℕ) → right_from false m.accesses c ≡ held_right (right_of (new_task P r.task.body o).body.start.context c)) → IsRising m.accesses → MadeOn (record_.made ++ m ∷ [])
  made_more o a m point number wait rights rising = record { made_so = λ x i. each x (last_cases record_.made m i); made_all = λ k p t h. go (k ∷ p) t (viewed (k ∷ p) t h) k p refl }
    where
      creates : Does P y.state z.active m.number (created_now P r.task.body) (Created o false)
      creates = subst (λ (n : ℕ). Does P y.state z.active n (created_now P r.task.body) (Created o false)) (sym number) (subst (λ (x : Act S). Does P y.state z.active (length r.task.body.found) (created_now P r.task.body) x) a (does_now P main cells ms z y st r))

      last : IsMadeSo P y.state m
      last = record {
        number = created_now P r.task.body;
        path = z.active;
        task = new_task P r.task.body o;
        order = o;
        point = point;
        at_ = r.tasks.made o a;
        does = creates;
        wait = wait;
        rights = λ c. right_is (right_of (new_task P r.task.body o).body.start.context c) (access_in m.accesses c) (sym (rising_access m.accesses c rising) ∙ rights c);
      }

      each : (x : Made) → IsIn x record_.made ⊎ (x ≡ m) → IsMadeSo P y.state x
      each x (inl i) = old_made x i
      each x (inr q) = subst (λ (v : Made). IsMadeSo P y.state v) (sym q) last

      more : {p : List ℕ} → HasMade record_.made p → HasMade (record_.made ++ m ∷ []) p
      more x = record { item = x.item; listed = in_front (m ∷ []) x.listed; point = x.point }

      go : (q : List ℕ) (u : Task S) → StepView P z.state z.active r.task (found_by (act_now P r.task.body) z.state.cells) q u → (k : ℕ) (p : List ℕ) → q ≡ k ∷ p → HasMade (record_.made ++ m ∷ []) (k ∷ p)
      go q u own k p e = more (has_old z.active r.task r.at_ k p e)
      go q u (new o2 a2) k p e = record { item = m; listed = in_last record_.made m; point = point ∙ ap (λ (v : List ℕ). written v) e }
      go q u (old ne h) k p e = more (has_old q u h k p e)

  -- the record behind the act
  pub record_on : (next : Record) → NotesOn next.notes → MadeOn next.made → IsRecord P y.state next
  record_on next n m = record { notes_so = n.notes_so; noted = n.noted; once = n.once; made_so = m.made_so; made = m.made_all }
