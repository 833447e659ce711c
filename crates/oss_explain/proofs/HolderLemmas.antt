-- A cell is lent exactly where a child holds it.
use Rattle.std.proofs.Common.{◌≡◌, ◌↔◌, ℕ, ◌⊎◌, inl, inr, refl, sym, subst, ap, ◌∙◌, List, [], ◌∷◌, Bool, true, false}
use Rattle.oss_model.specs.Bodies.{Frame, Program, Start, child_start, stack_from, stage_act, stage_key, top_frame}
use Rattle.oss_model.specs.Context.{Context, child_context, lent_of, right_of}
use Rattle.oss_model.specs.History.{IsMade}
use Rattle.oss_model.specs.Machine.{At, State, Task}
use Rattle.oss_model.specs.Memory.{Event}
use Rattle.oss_model.specs.Order.{IsSuffix, longer, whole}
use Rattle.oss_model.specs.Rights.{Lending, Touch}
use Rattle.oss_model.proofs.BodyLemmas.{stack_ok}
use Rattle.oss_model.proofs.KeyLemmas.{key_form}
use Rattle.oss_model.proofs.StageLemmas.{creating, no_inner_of_open}
use Rattle.oss_model.proofs.TreeLemmas.{at_same, path_found, task_above}
use Rattle.oss_body.specs.Acting.{acting}
use Rattle.oss_explanation.specs.Lives.{IsEventOf, IsHolder, actor, born_with, hinders, line_at, waits_for}
use Rattle.oss_explain.proofs.LendingLemmas.{Hindered, LendsNothing, LentAt, child_lends_nothing, final_lends_nothing, lent_at, lent_still, not_free}

-- A child hinders the touch of the cell by the task at this path.
abbrev pub HasHolder : {S : Type 0} → Program S → State S → List ℕ → ℕ → Touch → Type 0
HasHolder P s q c touch = (k : ℕ) × ((line : ℕ) × ((x : Context) × IsHolder P s q c touch k line x))

suffix_split : {q r : List ℕ} → IsSuffix q r → (q ≡ r) ⊎ ((j : ℕ) × IsSuffix (j ∷ q) r)
suffix_split whole = inl refl
suffix_split {q = q} (longer {y = y} {ys = ys} h) = go (suffix_split h)
  where
    go : (q ≡ ys) ⊎ ((j : ℕ) × IsSuffix (j ∷ q) ys) → (q ≡ y ∷ ys) ⊎ ((j : ℕ) × IsSuffix (j ∷ q) (y ∷ ys))
    go (inl e) = inr (y, subst (λ (x : List ℕ). IsSuffix (y ∷ q) (y ∷ x)) e whole)
    go (inr (j, k)) = inr (j, longer k)

rest_same : (j k : ℕ) (p q : List ℕ) → j ∷ p ≡ k ∷ q → p ≡ q
rest_same j k p q e = cc

-- The task that acts in a body

module _ {S : Type 0} (P : Program S) (b : Start S) (past : List ℕ) where
  acting_below : IsSuffix b.path (acting P b past).path
  unfolding stage_key
  acting_below =
      let k = key_form P b past in
      subst (λ (q : List ℕ). IsSuffix b.path q) (sym (rest_same (acting P b past).context.created k.number (acting P b past).path k.path k.key)) k.below

  acting_base : b.context.final ≡ false → acting P b past ≡ (stack_from P b past).base
  acting_base open_ =
      let s = stack_from P b past in
      ap (λ (z : List (Frame S)). top_frame s.base z) (no_inner_of_open b.context b.path s.base s.inner (stack_ok P b past) open_)

  acting_path : b.context.final ≡ false → (acting P b past).path ≡ b.path
  acting_path open_ = ap (λ (f : Frame S). f.path) (acting_base open_) ∙ (stack_ok P b past).path

module _ {S : Type 0} (P : Program S) (main : Start S) (nothing : LendsNothing main.context) (s : State S) (made : IsMade P main s) where
  -- each task has lent nothing at its start
  starts_free : (p : List ℕ) (t : Task S) → At s p t → LendsNothing t.body.start.context
  unfolding child_start
  starts_free [] t h =
      subst (λ (x : Start S). LendsNothing x.context) (sym made.main_start ∙ ap (λ (x : Task S). x.body.start) (at_same s [] made.main_task t made.main_at h)) nothing
  starts_free (k ∷ p) t h =
      let b = made.child k p t h in
      let f = stack_from P b.creator.body.start b.past in
      subst (λ (x : Start S). LendsNothing x.context) (sym b.start) (child_lends_nothing f.base.context b.order.clauses b.order.last)

  -- where a task of the state has the path of the one that acts in a body, that is the body's own
  one_path : (p : List ℕ) (t : Task S) → At s p t → (past : List ℕ) (u : Task S) → At s (acting P t.body.start past).path u → p ≡ (acting P t.body.start past).path
  one_path p t h past u k = split t.body.start.context.final refl
    where
      own : t.body.start.path ≡ p
      own = path_found s.tasks p t h

      deeper : t.body.start.context.final ≡ true → (p ≡ (acting P t.body.start past).path) ⊎ ((j : ℕ) × IsSuffix (j ∷ p) (acting P t.body.start past).path) → p ≡ (acting P t.body.start past).path
      deeper final (inl e) = e
      deeper final (inr (j, i)) =
          let w = task_above P main s (j ∷ p) u made i k in
          let b = made.child j p w.0 w.1 in
          let o = (creating P b.creator.body.start b.past b.order b.act).open_ in
          let e : true ≡ false = sym final ∙ ap (λ (x : Task S). x.body.start.context.final) (at_same s p t b.creator h b.at_) ∙ o in
          cc

      split : (final : Bool) → t.body.start.context.final ≡ final → p ≡ (acting P t.body.start past).path
      split false e = sym own ∙ sym (acting_path P t.body.start past e)
      split true e = deeper e (suffix_split (subst (λ (q : List ℕ). IsSuffix q (acting P t.body.start past).path) own (acting_below P t.body.start past)))

  -- an event of the task at a path lies in the body of the task at that path, if there is one
  pub event_own : (q : List ℕ) (t : Task S) → At s q t → (e : Event S) → IsEventOf P s q e → (e.start ≡ t.body.start) × IsSuffix (e.answer ∷ e.past) t.body.found
  event_own q t h e own =
      let g = own.happened in
      let path : (acting P g.task.body.start e.past).path ≡ q = ap (λ (x : Start S). (acting P x e.past).path) g.start ∙ own.path in
      let same : e.start.path ≡ q = one_path e.start.path g.task g.at_ e.past t (subst (λ (x : List ℕ). At s x t) (sym path) h) ∙ path in
      let u : g.task ≡ t = at_same s q g.task t (subst (λ (x : List ℕ). At s x g.task) same g.at_) h in
      (sym g.start ∙ ap (λ (x : Task S). x.body.start) u, subst (λ (x : Task S). IsSuffix (e.answer ∷ e.past) x.body.found) u g.found)

  module _ (p : List ℕ) (t : Task S) (h : At s p t) (c : ℕ) (touch : Touch) where
    abbrev f : Frame S
    f = acting P t.body.start t.body.found

    own_path : t.body.start.path ≡ p
    own_path = path_found s.tasks p t h

    at_own : At s t.body.start.path t
    at_own = subst (λ (q : List ℕ). At s q t) (sym own_path) h

    -- a task of the body of a final one has no holder
    no_holder : t.body.start.context.final ≡ true → HasHolder P s f.path c touch → ⊥
    no_holder final (k, (line, (x, g))) =
        let e = g.event in
        let u = g.own.happened in
        let open_ = (creating P e.start e.past g.order g.creates).open_ in
        let there : At s f.path u.task = subst (λ (q : List ℕ). At s q u.task) (sym (acting_path P e.start e.past open_) ∙ g.own.path) u.at_ in
        let same : p ≡ f.path = one_path p t h t.body.found u.task there in
        let one : t ≡ u.task = at_same s f.path t u.task (subst (λ (q : List ℕ). At s q t) same h) there in
        let no : true ≡ false = sym final ∙ ap (λ (y : Task S). y.body.start.context.final) one ∙ ap (λ (y : Start S). y.context.final) u.start ∙ open_ in
        cc

    module _ (open_ : t.body.start.context.final ≡ false) where
      own : f.path ≡ t.body.start.path
      own = acting_path P t.body.start t.body.found open_

      there : At s f.path t
      there = subst (λ (q : List ℕ). At s q t) (sym own) at_own

      event_at : (l : LentAt P t.body.start t.body.found c touch) → Event S
      event_at l = record { start = t.body.start; past = l.before; answer = l.answer }

      holder_of : LentAt P t.body.start t.body.found c touch → HasHolder P s f.path c touch
      holder_of l =
          let e : Event S = record { start = t.body.start; past = l.before; answer = l.answer } in (
            (actor P e).context.created,
            (
              line_at P e,
              (
                born_with P e l.order,
                record {
                  event = e;
                  own = record { happened = record { task = t; at_ = at_own; start = refl; found = l.happened }; path = acting_path P t.body.start l.before open_ ∙ sym own };
                  order = l.order;
                  creates = l.creates;
                  lends = l.lends;
                  number = refl;
                  on_line = refl;
                  context = refl;
                  hindering = subst (λ (g : Frame S). hinders touch (right_of (child_context g.context l.order.clauses l.order.last) c) ≡ true) (sym (acting_base P t.body.start l.before open_)) l.hindering;
                  since = λ d m after waits.
                      let k = event_own f.path t there d m in
                      l.since d.answer d.past k.1 after (subst (λ (x : Start S). waits_for (stage_act P x d.past) c ≡ true) k.0 waits);
                },
              ),
            ),
          )

      held_at : HasHolder P s f.path c touch → LentAt P t.body.start t.body.found c touch
      held_at (k, (line, (x, g))) =
          let e = g.event in
          let m = event_own f.path t there e g.own in
          let o = (creating P e.start e.past g.order g.creates).open_ in
          let at : At s e.start.path t = subst (λ (y : Start S). At s y.path t) (sym m.0) at_own in
          let born = subst (λ (y : Context). hinders touch (right_of y c) ≡ true) g.context g.hindering in
          subst (λ (y : Start S). LentAt P y t.body.found c touch) m.0 (record {
            before = e.past;
            answer = e.answer;
            order = g.order;
            happened = m.1;
            creates = g.creates;
            lends = g.lends;
            hindering = subst (λ (y : Frame S). hinders touch (right_of (child_context y.context g.order.clauses g.order.last) c) ≡ true) (acting_base P e.start e.past o) born;
            since = λ w ws i l waits.
                g.since (record { start = e.start; past = ws; answer = w })
                (record { happened = record { task = t; at_ = at; start = sym m.0; found = i }; path = acting_path P e.start ws o ∙ sym (acting_path P e.start e.past o) ∙ g.own.path }) l waits;
          })

      lent_base : lent_of f.context c ≡ lent_of (stack_from P t.body.start t.body.found).base.context c
      lent_base = ap (λ (g : Frame S). lent_of g.context c) (acting_base P t.body.start t.body.found open_)

      open_held : Hindered touch (lent_of f.context c) ↔ HasHolder P s f.path c touch
      open_held = (
        λ k. holder_of (lent_at P t.body.start c touch (starts_free p t h) open_ t.body.found (subst (λ (l : Lending). Hindered touch l) lent_base k)),
        λ k. subst (λ (l : Lending). Hindered touch l) (sym lent_base) (lent_still P t.body.start c touch t.body.found (held_at k)),
      )

    -- The task that acts in the body of this one has lent the cell so that it hinders the touch exactly where a child of it hinders that: for a read, where it is lent for writing; else where it is
    -- lent at all.
    pub lent_is_held : Hindered touch (lent_of f.context c) ↔ HasHolder P s f.path c touch
    lent_is_held = split t.body.start.context.final refl
      where
        split : (final : Bool) → t.body.start.context.final ≡ final → Hindered touch (lent_of f.context c) ↔ HasHolder P s f.path c touch
        split false e = open_held e
        split true e = (
          λ k. absurd (not_free touch (lent_of f.context c) (final_lends_nothing P t.body.start e (starts_free p t h) t.body.found c) k),
          λ k. absurd (no_holder e k),
        )
