-- What the core keeps goes on standing for the state of the machine, move by move.
use Rattle.std.proofs.Common.{◌≡◌, ◌≢◌, ℕ, refl, sym, subst, ap, ◌∙◌, List, [], ◌∷◌, ◌⊎◌, inl, inr, Bool, true, false, arith, Some, ◌↔◌}
use Rattle.std.specs.Prelude.{slice_get, ◌==◌}
use Rattle.std.proofs.lemmas.Bool.Decides.{nat_tests}
use Rattle.oss_model.specs.Order.{IsIn, here, there}
use Rattle.oss_model.specs.Bodies.{Order, Program, Start, Body, IsHalt}
use Rattle.oss_model.specs.Bodies.Act.{Created}
use Rattle.oss_model.specs.Machine.{Task, State, At, find, same_path}
use Rattle.oss_model.specs.Moves.{act_now, found_by, cells_after, after_answer, after_giving, TaskStep, Stepped, GaveUp, LetGo}
use Rattle.oss_model.specs.Sequence.{Running}
use Rattle.oss_model.proofs.TreeLemmas.{at_same, same_path_is, path_found}
use Rattle.oss_model.proofs.Exclusive.{same_self}
use Rattle.oss_model.proofs.MoveLemmas.{which_path}
use Rattle.oss_model.proofs.RunLemmas.{next}
use Rattle.oss_deps.specs.declared.opened.Open.{Open}
use Rattle.oss_core.specs.Standing.{AreRightsOf, IsNumbered, IsLinked, AreTasks, StandsFor}

pub some_is : {A : Type 0} {a b : A} → Some a ≡ Some b → a ≡ b
some_is e = cc

pub which : (v w : ℕ) → (v ≡ w) ⊎ (v ≡ w → ⊥)
which v w = go (v == w) refl
  where
    go : (b : Bool) → (v == w) ≡ b → (v ≡ w) ⊎ (v ≡ w → ⊥)
    go true e = inl (grind (arith, nat_tests, e))
    go false e = inr (λ h. absurd (grind (arith, nat_tests, e, h)))

-- each body of the one list is in the other, with the same start
abbrev pub HaveStarts : {S B : Type 0} → (B → Body S) → List B → List B → Type 0
HaveStarts {B = B} body xs ys = (w : ℕ) (a : B) → slice_get xs w ≡ Some a → (b : B) × (slice_get ys w ≡ Some b) × ((body b).start ≡ (body a).start)

abbrev pub link_over : {S B : Type 0} (body : B → Body S) (xs ys : List B) (f : HaveStarts body xs ys) (o : Open) → IsLinked body xs o → IsLinked body ys o
link_over body xs ys f o l =
    let t = f o.task l.task l.task_is in
    let u = f o.parent l.creator l.creator_is in
    record {
      task = t.0;
      creator = u.0;
      task_is = t.1;
      creator_is = u.1;
      child = l.child;
      path = ap (λ (x : Start _). x.path) t.2 ∙ l.path ∙ ap (λ (x : Start _). l.child ∷ x.path) (sym u.2);
      rights = subst (λ (x : Start _). AreRightsOf o.accesses x.context) (sym t.2) l.rights;
    }

pub tasks_keep : {S B : Type 0} (body : B → Body S) (xs ys : List B) (list : List Open) → HaveStarts body xs ys → HaveStarts body ys xs → AreTasks body xs list → AreTasks body ys list
tasks_keep body xs ys list f g t =
    record {
      opens_are = t.opens_are;
      main = let m = f 0 t.main.one t.main.is in record { one = m.0; is = m.1; path = ap (λ (x : Start _). x.path) m.2 ∙ t.main.path };
      linked = λ o i. link_over body xs ys f o (t.linked o i);
      opened = λ v b h. let m = g v b h in t.opened v m.0 m.1;
      one_number = λ v w a b h k e.
          let m = g v a h in
          let n = g w b k in
          t.one_number v w m.0 n.0 m.1 n.1 (ap (λ (x : Start _). x.path) m.2 ∙ e ∙ ap (λ (x : Start _). x.path) (sym n.2));
      in_order = λ o q l k p e. t.in_order o q (link_over body ys xs g o l) (link_over body ys xs g q k) p e;
    }

-- one body of the list is another now
pub record Changed {B : Type 0} (xs ys : List B) (v : ℕ) (b : B) : Type 0 where
  pub now : slice_get ys v ≡ Some b
  pub others : (w : ℕ) → (w ≡ v → ⊥) → slice_get ys w ≡ slice_get xs w

pub changed_starts : {S B : Type 0} (body : B → Body S) (xs ys : List B) (v : ℕ) (a b : B) → Changed xs ys v b → slice_get xs v ≡ Some a → (body b).start ≡ (body a).start → HaveStarts body xs ys
changed_starts {B = B} body xs ys v a b ch is e w x h = go (which w v)
  where
    go : (w ≡ v) ⊎ (w ≡ v → ⊥) → (y : B) × (slice_get ys w ≡ Some y) × ((body y).start ≡ (body x).start)
    go (inl k) = (b, ap (λ (z : ℕ). slice_get ys z) k ∙ ch.now, e ∙ ap (λ (z : B). (body z).start) (some_is (sym is ∙ ap (λ (z : ℕ). slice_get xs z) (sym k) ∙ h)))
    go (inr n) = (x, ch.others w n ∙ h, refl)

pub changed_back : {S B : Type 0} (body : B → Body S) (xs ys : List B) (v : ℕ) (a b : B) → Changed xs ys v b → slice_get xs v ≡ Some a → (body b).start ≡ (body a).start → HaveStarts body ys xs
changed_back {B = B} body xs ys v a b ch is e w x h = go (which w v)
  where
    go : (w ≡ v) ⊎ (w ≡ v → ⊥) → (y : B) × (slice_get xs w ≡ Some y) × ((body y).start ≡ (body x).start)
    go (inl k) = (a, ap (λ (z : ℕ). slice_get xs z) k ∙ is, sym e ∙ ap (λ (z : B). (body z).start) (some_is (sym ch.now ∙ ap (λ (z : ℕ). slice_get ys z) (sym k) ∙ h)))
    go (inr n) = (x, sym (ch.others w n) ∙ h, refl)

-- the task of a state with a number
pub record TaskOf {S B : Type 0} (body : B → Body S) (bodies : List B) (s : State S) (v : ℕ) (p : List ℕ) (t : Task S) : Type 0 where
  pub has : IsNumbered body bodies v p
  pub at_ : At s p t

module _ {S B : Type 0} (P : Program S) (body : B → Body S) (bodies more : List B) (list : List Open) (given : ℕ → ℕ → Bool) (cells : List ℕ) (s : State S)
    (tasks : AreTasks body bodies list) (stands : StandsFor body bodies given cells s) (v : ℕ) (p : List ℕ) (t : Task S) (own : TaskOf body bodies s v p t) where
  pub own_body : t.body ≡ body own.has.one
  own_body =
      let r = stands.there v own.has.one own.has.is in
      ap (λ (x : Task S). x.body) (at_same s p t r.0 own.at_ (subst (λ (q : List ℕ). At s q r.0) own.has.path r.1)) ∙ r.2

  pub own_given : (c : ℕ) → (IsIn c t.given ↔ given v c ≡ true)
  own_given c =
      let r = stands.there v own.has.one own.has.is in
      let e : r.0 ≡ t = at_same s p r.0 t (subst (λ (q : List ℕ). At s q r.0) own.has.path r.1) own.at_ in
      subst (λ (x : Task S). IsIn c x.given ↔ given v c ≡ true) e (r.3 c)

  pub other_path : (w : ℕ) (b : B) → slice_get bodies w ≡ Some b → (w ≡ v → ⊥) → (body b).start.path ≢ p
  other_path w b h n e = n (tasks.one_number w v b own.has.one h own.has.is (e ∙ sym own.has.path))

  -- an act of the task that creates nothing: the body has gone on, and all else is as before
  pub record ActDone (next_body : B) (n : State S) : Type 0 where
    pub stepped : Stepped P s p t n
    pub tasks_are : AreTasks body more list
    pub stand_for : StandsFor body more given (cells_after (act_now P t.body) cells) n

  pub step_keeps : (b : B) → (IsHalt (act_now P t.body) → ⊥) → ((o : Order S) → act_now P t.body ≢ Created o false) → Changed bodies more v b → body b ≡ (after_answer (found_by (act_now P t.body) s.cells) t).body → (n : State S) × ActDone b n
  step_keeps b g alone ch e =
      let x = next P z t own.at_ g in
      let n : State S = record { cells = cells_after (act_now P t.body) s.cells; tasks = x.stage.state.tasks } in
      let k = x.runs.tasks in
      let same : x.runs.task ≡ t = at_same s p x.runs.task t x.runs.at_ own.at_ in
      let steps : TaskStep P s p t (found_by (act_now P t.body) s.cells) n = task_step n (subst (λ (u : Task S). TaskStep P s p u (found_by (act_now P u.body) s.cells) x.stage.state) same k) in (
        n,
        record {
          stepped = record { cells = refl; tasks = steps };
          tasks_are = tasks_keep body bodies more list (changed_starts body bodies more v own.has.one b ch own.has.is start_same) (changed_back body bodies more v own.has.one b ch own.has.is start_same) tasks;
          stand_for = record { cells_are = ap (λ (cs : List ℕ). cells_after (act_now P t.body) cs) stands.cells_are; there = there_ n steps; back = back_ n steps };
        },
      )
    where
      z : Running S
      z = record { state = s; active = p; printed = [] }

      start_same : (body b).start ≡ (body own.has.one).start
      start_same = ap (λ (x : Body S). x.start) e ∙ ap (λ (x : Body S). x.start) own_body

      path_same : (body b).start.path ≡ p
      path_same = ap (λ (x : Start S). x.path) start_same ∙ own.has.path

      task_step : (n : State S) {y : State S} → TaskStep P s p t (found_by (act_now P t.body) s.cells) y → TaskStep P s p t (found_by (act_now P t.body) s.cells) (record { cells = n.cells; tasks = y.tasks })
      task_step n k = record { own = k.own; made = k.made; others = k.others }

      others_ : (n : State S) → TaskStep P s p t (found_by (act_now P t.body) s.cells) n → (q : List ℕ) → q ≢ p → find n.tasks q ≡ find s.tasks q
      others_ n k q ne = k.others q ne (λ o a. absurd (alone o a))

      there_ : (n : State S) → TaskStep P s p t (found_by (act_now P t.body) s.cells) n → (w : ℕ) (y : B) → slice_get more w ≡ Some y → (u : Task S) × At n (body y).start.path u × (u.body ≡ body y) × ((c : ℕ) → (IsIn c u.given ↔ given w c ≡ true))
      there_ n k w y h = go (which w v)
        where
          go : (w ≡ v) ⊎ (w ≡ v → ⊥) → (u : Task S) × At n (body y).start.path u × (u.body ≡ body y) × ((c : ℕ) → (IsIn c u.given ↔ given w c ≡ true))
          go (inl q) =
              let f : b ≡ y = some_is (sym ch.now ∙ ap (λ (i : ℕ). slice_get more i) (sym q) ∙ h) in (
                after_answer (found_by (act_now P t.body) s.cells) t,
                subst (λ (r : List ℕ). At n r (after_answer (found_by (act_now P t.body) s.cells) t)) (sym path_same ∙ ap (λ (i : B). (body i).start.path) f) k.own,
                sym e ∙ ap body f,
                λ c. subst (λ (i : ℕ). IsIn c t.given ↔ given i c ≡ true) (sym q) (own_given c),
              )
          go (inr q) =
              let i = sym (ch.others w q) ∙ h in
              let r = stands.there w y i in
              (r.0, others_ n k (body y).start.path (other_path w y i q) ∙ r.1, r.2, r.3)

      back_ : (n : State S) → TaskStep P s p t (found_by (act_now P t.body) s.cells) n → (q : List ℕ) (u : Task S) → At n q u → (w : ℕ) × IsNumbered body more w q
      back_ n k q u h = go (which_path q p)
        where
          another : (w : ℕ) (r : IsNumbered body bodies w q) → q ≢ p → (w ≡ v) ⊎ (w ≡ v → ⊥) → (w : ℕ) × IsNumbered body more w q
          another w r ne (inl i) =
              let f : r.one ≡ own.has.one = some_is (sym r.is ∙ ap (λ (j : ℕ). slice_get bodies j) i ∙ own.has.is) in
              absurd (ne (sym r.path ∙ ap (λ (j : B). (body j).start.path) f ∙ own.has.path))
          another w r ne (inr i) = (w, record { one = r.one; is = ch.others w i ∙ r.is; path = r.path })

          go : (q ≡ p) ⊎ (q ≢ p) → (w : ℕ) × IsNumbered body more w q
          go (inl i) = (v, record { one = b; is = ch.now; path = path_same ∙ sym i })
          go (inr ne) = let r = stands.back q u (sym (others_ n k q ne) ∙ h) in another r.0 r.1 ne (which r.0 v)

  -- the task gives up a cell
  no_path : (q : List ℕ) → q ≢ p → same_path p q ≡ false
  no_path q ne = go (same_path p q) refl
    where
      go : (b : Bool) → same_path p q ≡ b → same_path p q ≡ false
      go true e = absurd (ne (sym (same_path_is p q e)))
      go false e = e

  path_t : t.body.start.path ≡ p
  path_t = path_found s.tasks p t own.at_

  gave : (c : ℕ) → GaveUp s p c t (record { cells = s.cells; tasks = after_giving c t ∷ s.tasks })
  unfolding find
  gave c = record {
    own = rw (path_t, same_self p) refl;
    others = λ q ne. rw (path_t, no_path q ne) refl;
  }

  -- one more pair of task and cell is given
  abbrev pub Gives : (ℕ → ℕ → Bool) → ℕ → Type 0
  Gives after c = (w k : ℕ) → (after w k ≡ true ↔ ((given w k ≡ true) ⊎ ((w ≡ v) × (k ≡ c))))

  pub let_keeps : (after : ℕ → ℕ → Bool) (c : ℕ) → Gives after c → (n : State S) × LetGo s p c t n × StandsFor body bodies after cells n
  let_keeps after c gives =
      let n : State S = record { cells = s.cells; tasks = after_giving c t ∷ s.tasks } in
      (n, record { cells = refl; tasks = gave c }, record { cells_are = stands.cells_are; there = there_; back = back_ })
    where
      now : State S
      now = record { cells = s.cells; tasks = after_giving c t ∷ s.tasks }

      in_more : {c k : ℕ} {ks : List ℕ} → IsIn k (c ∷ ks) → (k ≡ c) ⊎ IsIn k ks
      in_more here = inl refl
      in_more (there i) = inr i

      own_more : (k : ℕ) → (IsIn k (c ∷ t.given) ↔ after v k ≡ true)
      own_more k = (λ i. (gives v k).1 (forth (in_more i)), λ h. back ((gives v k).0 h))
        where
          forth : (k ≡ c) ⊎ IsIn k t.given → (given v k ≡ true) ⊎ ((v ≡ v) × (k ≡ c))
          forth (inl e) = inr (refl, e)
          forth (inr i) = inl ((own_given k).0 i)

          back : (given v k ≡ true) ⊎ ((v ≡ v) × (k ≡ c)) → IsIn k (c ∷ t.given)
          back (inl g) = there ((own_given k).1 g)
          back (inr g) = subst (λ (x : ℕ). IsIn k (x ∷ t.given)) g.1 here

      other_same : (w k : ℕ) → (w ≡ v → ⊥) → (given w k ≡ true ↔ after w k ≡ true)
      other_same w k ne = (λ h. (gives w k).1 (inl h), λ h. go ((gives w k).0 h))
        where
          go : (given w k ≡ true) ⊎ ((w ≡ v) × (k ≡ c)) → given w k ≡ true
          go (inl g) = g
          go (inr g) = absurd (ne g.0)

      there_ : (w : ℕ) (y : B) → slice_get bodies w ≡ Some y → (u : Task S) × At (record { cells = s.cells; tasks = after_giving c t ∷ s.tasks }) (body y).start.path u × (u.body ≡ body y) × ((k : ℕ) → (IsIn k u.given ↔ after w k ≡ true))
      there_ w y h = go (which w v)
        where
          go : (w ≡ v) ⊎ (w ≡ v → ⊥) → (u : Task S) × At (record { cells = s.cells; tasks = after_giving c t ∷ s.tasks }) (body y).start.path u × (u.body ≡ body y) × ((k : ℕ) → (IsIn k u.given ↔ after w k ≡ true))
          go (inl q) =
              let f : own.has.one ≡ y = some_is (sym own.has.is ∙ ap (λ (i : ℕ). slice_get bodies i) (sym q) ∙ h) in (
                after_giving c t,
                subst (λ (r : List ℕ). At (record { cells = s.cells; tasks = after_giving c t ∷ s.tasks }) r (after_giving c t)) (sym own.has.path ∙ ap (λ (i : B). (body i).start.path) f) (gave c).own,
                own_body ∙ ap body f,
                λ k. subst (λ (i : ℕ). IsIn k (c ∷ t.given) ↔ after i k ≡ true) (sym q) (own_more k),
              )
          go (inr q) =
              let r = stands.there w y h in
              (r.0, (gave c).others (body y).start.path (other_path w y h q) ∙ r.1, r.2, λ k. ((λ i. (other_same w k q).0 ((r.3 k).0 i)), λ i. (r.3 k).1 ((other_same w k q).1 i)))

      back_ : (q : List ℕ) (u : Task S) → At (record { cells = s.cells; tasks = after_giving c t ∷ s.tasks }) q u → (w : ℕ) × IsNumbered body bodies w q
      back_ q u h = go (which_path q p)
        where
          go : (q ≡ p) ⊎ (q ≢ p) → (w : ℕ) × IsNumbered body bodies w q
          go (inl i) = (v, record { one = own.has.one; is = own.has.is; path = own.has.path ∙ sym i })
          go (inr ne) = stands.back q u (sym ((gave c).others q ne) ∙ h)
