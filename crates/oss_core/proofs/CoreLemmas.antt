-- What a core keeps of one task of the state for which it stands.
use Rattle.std.proofs.Common.{◌≡◌, ℕ, sym, subst, ap, ◌∙◌, List, [], ◌⊎◌, inl, inr, Bool, true, arith, Some, ◌↔◌}
use Rattle.std.specs.Prelude.{slice_get}
use Rattle.std.proofs.lemmas.Option.{slice_get_within}
use Rattle.oss_model.specs.Order.{IsIn, written}
use Rattle.oss_model.specs.Bodies.{Start, Body}
use Rattle.oss_model.specs.Machine.{Task, State, At}
use Rattle.oss_model.specs.History.{IsMade, IsStarted}
use Rattle.oss_model.specs.Moves.{opening}
use Rattle.oss_model.specs.Sequence.Sequential.{opens}
use Rattle.oss_model.specs.Agreement.{Agrees}
use Rattle.oss_model.proofs.AgreementTheorem.{every_state_agrees}
use Rattle.oss_model.proofs.SortLemmas.{reverse_same}
use Rattle.oss_model.proofs.TreeLemmas.{path_found}
use Rattle.oss_code.specs.declared.code.CodeParts.{CodeParts}
use Rattle.oss_machine.specs.Frames.{CodeScript}
use Rattle.oss_machine.specs.Machines.{asks}
use Rattle.oss_tree.specs.declared.task.Task.{Task as TreeTask}
use Rattle.oss_tree.specs.Tasks.{HasPoint}
use Rattle.oss_tree.proofs.ListLemmas.{there_is}
use Rattle.oss_kept_tasks.specs.declared.held.Held.{Held}
use Rattle.oss_core.specs.Kept.{IsCore, IsHeld, IsKnown, Kept, own}
use Rattle.oss_core.specs.Moving.{Grown}
use Rattle.oss_core.specs.Standing.{IsNumbered}
use Rattle.oss_core.proofs.KeepLemmas.{some_is, which, Changed, TaskOf, own_body, own_given}
use Rattle.oss_core.proofs.MatchLemmas.{tail_is}

-- two lists side by side, each of which changes at one place: what holds of each two elements goes on to hold
pub sides_change : {A B : Type 0} (Q R : ℕ → A → B → Type 0) (xs more : List A) (ys next : List B) (v : ℕ) (a : A) (b : B) → Changed xs more v a → Changed ys next v b
    → ((w : ℕ) (x : A) (y : B) → slice_get xs w ≡ Some x → slice_get ys w ≡ Some y → Q w x y) → ((w : ℕ) (x : A) (y : B) → (w ≡ v → ⊥) → Q w x y → R w x y) → R v a b
    → (w : ℕ) (x : A) (y : B) → slice_get more w ≡ Some x → slice_get next w ≡ Some y → R w x y
sides_change {A = A} {B = B} Q R xs more ys next v a b ca cb q f r w x y h k = go (which w v)
  where
    go : (w ≡ v) ⊎ (w ≡ v → ⊥) → R w x y
    go (inl e) =
        let i : a ≡ x = some_is (sym ca.now ∙ ap (λ (z : ℕ). slice_get more z) (sym e) ∙ h) in
        let j : b ≡ y = some_is (sym cb.now ∙ ap (λ (z : ℕ). slice_get next z) (sym e) ∙ k) in
        subst (λ (z : ℕ). R z x y) (sym e) (subst (λ (z : A). R v z y) i (subst (λ (z : B). R v a z) j r))
    go (inr n) = f w x y n (q w x y (sym (ca.others w n) ∙ h) (sym (cb.others w n) ∙ k))

-- the same, where each list also has one element more
pub sides_grow : {A B : Type 0} (Q R : ℕ → A → B → Type 0) (xs more : List A) (ys next : List B) (v : ℕ) (a : A) (b : B) (m : ℕ) (new : A) (child : B) → Grown xs more v a m new → Grown ys next v b m child
    → ((w : ℕ) (x : A) (y : B) → slice_get xs w ≡ Some x → slice_get ys w ≡ Some y → Q w x y) → ((w : ℕ) (x : A) (y : B) → Q w x y → R w x y) → R v a b → R m new child
    → (w : ℕ) (x : A) (y : B) → slice_get more w ≡ Some x → slice_get next w ≡ Some y → R w x y
sides_grow {A = A} {B = B} Q R xs more ys next v a b m new child ca cb q f r s w x y h k = go (which w v) (which w m)
  where
    go : (w ≡ v) ⊎ (w ≡ v → ⊥) → (w ≡ m) ⊎ (w ≡ m → ⊥) → R w x y
    go (inl e) _ =
        let i : a ≡ x = some_is (sym ca.now ∙ ap (λ (z : ℕ). slice_get more z) (sym e) ∙ h) in
        let j : b ≡ y = some_is (sym cb.now ∙ ap (λ (z : ℕ). slice_get next z) (sym e) ∙ k) in
        subst (λ (z : ℕ). R z x y) (sym e) (subst (λ (z : A). R v z y) i (subst (λ (z : B). R v a z) j r))
    go (inr n) (inl e) =
        let i : new ≡ x = some_is (sym ca.new ∙ ap (λ (z : ℕ). slice_get more z) (sym e) ∙ h) in
        let j : child ≡ y = some_is (sym cb.new ∙ ap (λ (z : ℕ). slice_get next z) (sym e) ∙ k) in
        subst (λ (z : ℕ). R z x y) (sym e) (subst (λ (z : A). R m z y) i (subst (λ (z : B). R m new z) j s))
    go (inr n) (inr d) = f w x y (q w x y (sym (ca.others w n d) ∙ h) (sym (cb.others w n d) ∙ k))

-- what is kept of a task, where the cells given up are told otherwise
pub held_same : (code : CodeParts) (given after : ℕ → Bool) (b : Body CodeScript) (held : Held) → ((c : ℕ) → after c ≡ given c) → IsHeld code given b held → IsHeld code after b held
held_same code given after b held e h = record { body_is = h.body_is; owed_is = λ c. rw (e c) (h.owed_is c) }

-- what is known of a task, where the cells given up are told otherwise
pub known_same : (code : CodeParts) (given after : ℕ → Bool) (b : Body CodeScript) (one : TreeTask) → ((c : ℕ) → after c ≡ given c) → IsKnown (asks code) given b one → IsKnown (asks code) after b one
known_same code given after b one e h = record {
  point = h.point;
  ended = h.ended;
  gave_all = ((λ g c o. e c ∙ h.gave_all.0 g c o), (λ f. h.gave_all.1 (λ c o. sym (e c) ∙ f c o)));
}

module _ (code : CodeParts) (main : Start CodeScript) (first : List ℕ) (old : Kept) (s : State CodeScript) (core : IsCore code main first old s) where
  -- the state agrees with the sequential run
  agrees : Agrees (asks code) main first (record { state = opening main first; active = []; printed = [] }) s
  agrees = every_state_agrees CodeScript (asks code) main first (record { state = opening main first; active = []; printed = [] }) s core.setting opens core.reached

  -- its tasks were made as they should
  pub made : IsMade (asks code) main s
  made = agrees.made

  -- and they have started as they should
  pub started : IsStarted (asks code) s
  started = agrees.started

  module _ (v : ℕ) (p : List ℕ) (t : Task CodeScript) (point : HasPoint old.tree.tasks v (written p)) (at_ : At s p t) where
    -- the body with the number of the task
    has : IsNumbered own core.bodies v p
    has =
        let l = slice_get_within old.tree.tasks v point.task point.at_ in
        let z = core.known.size in
        let b = there_is core.bodies v (omega (arith, l, z)) in
        let k = core.known.each v b.0 point.task b.1 point.at_ in
        record { one = b.0; is = b.1; path = reverse_same b.0.start.path p (tail_is (sym k.point ∙ point.point)) }

    -- the task has the number
    pub own_task : TaskOf own core.bodies s v p t
    own_task = record { has = has; at_ = at_ }

    -- its body stands at the number
    pub body_at : slice_get core.bodies v ≡ Some t.body
    unfolding own_task
    body_at = has.is ∙ ap Some (sym (own_body (asks code) own core.bodies core.bodies old.seen.opens old.seen.given old.cells s core.sound.tasks core.stands v p t own_task))

    -- its path
    pub own_path : t.body.start.path ≡ p
    own_path = path_found s.tasks p t at_

    -- what is kept of it
    pub held_at : (h : Held) → slice_get old.tasks v ≡ Some h → IsHeld code (old.seen.given v) t.body h
    held_at h e = core.held.each v t.body h body_at e

    -- what is known of it
    pub known_at : IsKnown (asks code) (old.seen.given v) t.body point.task
    known_at = core.known.each v t.body point.task body_at point.at_

    -- the cells that it has given up
    pub given_at : (c : ℕ) → (IsIn c t.given ↔ old.seen.given v c ≡ true)
    given_at = own_given (asks code) own core.bodies core.bodies old.seen.opens old.seen.given old.cells s core.sound.tasks core.stands v p t own_task
