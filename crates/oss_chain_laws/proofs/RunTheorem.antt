-- What the sequential run leaves as it goes on, and what stands in the way of the join of a task that has ended.
use Rattle.std.proofs.Common.{◌≡◌, ◌≢◌, ℕ, suc, ◌⊎◌, inl, inr, refl, sym, subst, ◌∙◌, List, [], ◌∷◌, Bool, true, false}
use Rattle.oss_syntax.specs.declared.access.Op.{Op}
use Rattle.oss_syntax.specs.declared.access.Mode.TheVariants.{Read, Write, Fold}
use Rattle.oss_model.specs.Order.{IsSuffix}
use Rattle.oss_model.specs.Rights.{Right, NoRight, Released, Holds}
use Rattle.oss_model.specs.Context.{right_of}
use Rattle.oss_model.specs.Bodies.{Order, Program, Act, Frame, Start}
use Rattle.oss_model.specs.Bodies.Act.{Created, Awaited, Waited, WaitedOn, Over, Ticked, Load, Store, Folded, Releases, Printed, Ended, Fault}
use Rattle.oss_model.specs.Machine.{Task, State, At}
use Rattle.oss_model.specs.Moves.{created_now}
use Rattle.oss_model.specs.History.{IsMade}
use Rattle.oss_model.proofs.StageLemmas.{own_creation}
use Rattle.oss_model.proofs.TreeLemmas.{at_same, mode_is}
use Rattle.oss_chain_laws.specs.Chains.{Best, no_chain}
use Rattle.oss_chain_laws.specs.Happenings.{Happening, EndsWith}
use Rattle.oss_chain_laws.specs.Tables.{InJoinWay}
use Rattle.oss_chain_laws.specs.Pass.{Kept, IsKept}
use Rattle.oss_chain_laws.proofs.PassLemmas.{Most, same, no_most}
use Rattle.oss_chain_laws.proofs.EndTheorem.{InOwnJoinWay}

-- each task of the one state is in the other, and has gone on there
pub record Extends {S : Type 0} (x s : State S) : Type 0 where
  pub grown : (q : List ℕ) (u : Task S) → At x q u → (w : Task S) × At s q w × (w.body.start ≡ u.body.start) × IsSuffix u.body.found w.body.found

-- what the task of an act has created by it: one more, or none
pub skips : {S : Type 0} (inner : List (Frame S)) (a : Act S) → (own_creation inner a ≡ 0) ⊎ ((o : Order S) × (i : Bool) × (own_creation inner a ≡ 1) × (a ≡ Created o i))
skips [] (Created o i) = inr (o, i, refl, refl)
skips [] Ticked = inl refl
skips [] (Load c) = inl refl
skips [] (Store c w) = inl refl
skips [] (Folded c op w b) = inl refl
skips [] Awaited = inl refl
skips [] Waited = inl refl
skips [] (WaitedOn named) = inl refl
skips [] (Releases clauses b) = inl refl
skips [] (Printed key text) = inl refl
skips [] Ended = inl refl
skips [] (Fault kind line key) = inl refl
skips [] Over = inl refl
skips (f ∷ fs) a = inl refl

module _ {S : Type 0} (P : Program S) (main : Start S) (s : State S) (made : IsMade P main s) (weight : Happening → ℕ) where
  -- a task that has ended
  module _ (j : ℕ) (p : List ℕ) (e : ℕ) (w : Task S) (t : Kept) (at_ : At s (j ∷ p) w) (last : EndsWith P s (j ∷ p) e) (kept : IsKept P s weight (j ∷ p) (suc e) (created_now P w.body) t) where
    abbrev pub own_of : Right → ℕ → Best Happening
    own_of (Holds (Fold op) true) c = t.join_way op c
    own_of _ c = no_chain

    no_join : (c : ℕ) (r : Right) → right_of w.body.start.context c ≡ r → ((op : Op) → r ≢ Holds (Fold op) true) → (f : Happening) → InOwnJoinWay P main s made weight j p e w t at_ last kept c f → ⊥
    no_join c r h ne f (op, x, y) = ne op (sym h ∙ subst (λ (z : Task S). right_of z.body.start.context c ≡ Holds (Fold op) true) (at_same s (j ∷ p) x.task w x.at_ at_) x.right_is)

    pub own_most : (c : ℕ) (r : Right) → right_of w.body.start.context c ≡ r → Most P s weight (InOwnJoinWay P main s made weight j p e w t at_ last kept c) (own_of r c)
    own_most c (Holds (Fold op) true) h =
        same P s weight (InJoinWay s c op (j ∷ p)) (InOwnJoinWay P main s made weight j p e w t at_ last kept c) (t.join_way op c) (λ f x. (op, record { task = w; at_ = at_; right_is = h }, x)) back
        (kept.join_way op c (λ q. cc) (record { task = w; at_ = at_; mode = Fold op; strong = true; right = h }) (mode_is s c (j ∷ p) (Fold op) (record { task = w; at_ = at_; strong = true; right = h })))
      where
        back : (f : Happening) → InOwnJoinWay P main s made weight j p e w t at_ last kept c f → InJoinWay s c op (j ∷ p) f
        back f (other, r, x) =
            let y : right_of w.body.start.context c ≡ Holds (Fold other) true = subst (λ (z : Task S). right_of z.body.start.context c ≡ Holds (Fold other) true) (at_same s (j ∷ p) r.task w r.at_ at_) r.right_is in
            let q : Holds (Fold other) true ≡ Holds (Fold op) true = sym y ∙ h in
            let i : other ≡ op = cc (q) in
            subst (λ (z : Op). InJoinWay s c z (j ∷ p) f) i x
    own_most c NoRight h = no_most P s weight (InOwnJoinWay P main s made weight j p e w t at_ last kept c) (no_join c NoRight h (λ op q. cc))
    own_most c Released h = no_most P s weight (InOwnJoinWay P main s made weight j p e w t at_ last kept c) (no_join c Released h (λ op q. cc))
    own_most c (Holds Read b) h = no_most P s weight (InOwnJoinWay P main s made weight j p e w t at_ last kept c) (no_join c (Holds Read b) h (λ op q. cc))
    own_most c (Holds Write b) h = no_most P s weight (InOwnJoinWay P main s made weight j p e w t at_ last kept c) (no_join c (Holds Write b) h (λ op q. cc))
    own_most c (Holds (Fold op) false) h = no_most P s weight (InOwnJoinWay P main s made weight j p e w t at_ last kept c) (no_join c (Holds (Fold op) false) h (λ op q. cc))
