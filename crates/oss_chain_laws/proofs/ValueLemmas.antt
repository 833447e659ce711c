-- Which cells an act releases.
use Rattle.std.proofs.Common.{◌≡◌, ◌≢◌, ℕ, ◌⊎◌, inl, inr, refl, sym, subst, ◌∙◌, List, Bool, true, false}
use Rattle.std.specs.Prelude.{◌&&◌, not}
use Rattle.oss_syntax.specs.declared.access.Access.{Access}
use Rattle.oss_syntax.specs.declared.access.Op.{Op}
use Rattle.oss_syntax.specs.declared.access.Mode.TheVariants.{Read, Write, Fold}
use Rattle.oss_model.specs.Rights.{Right, NoRight, Released, Holds}
use Rattle.oss_model.specs.Context.{in_clauses, right_of}
use Rattle.oss_model.specs.Bodies.{Program, Act}
use Rattle.oss_model.specs.Bodies.Act.{Created, Awaited, Waited, WaitedOn, Over, Ticked, Load, Store, Folded, Releases, Printed, Ended, Fault}
use Rattle.oss_model.specs.Machine.{Task, State}
use Rattle.oss_model.proofs.TreeLemmas.{at_same}
use Rattle.oss_chain_laws.specs.Happenings.{Happening, Does, StartsWith, Frees}
use Rattle.oss_chain_laws.proofs.WaitLemmas.{does_same}

abbrev pub is_strong_fold : Right → Bool
is_strong_fold (Holds (Fold op) true) = true
is_strong_fold _ = false

fold_is : (r : Right) (op : Op) → r ≡ Holds (Fold op) true → is_strong_fold r ≡ true
fold_is r op h = subst (λ (z : Right). is_strong_fold z ≡ true) (sym h) refl

fold_of : (r : Right) → is_strong_fold r ≡ true → (op : Op) × (r ≡ Holds (Fold op) true)
fold_of NoRight h = cc
fold_of Released h = cc
fold_of (Holds Read b) h = cc
fold_of (Holds Write b) h = cc
fold_of (Holds (Fold op) true) h = (op, refl)
fold_of (Holds (Fold op) false) h = cc

-- whether an act is a release by the task itself
is_release : {S : Type 0} (a : Act S) → ((clauses : List Access) × (a ≡ Releases clauses false)) ⊎ ((clauses : List Access) → a ≢ Releases clauses false)
is_release (Releases clauses false) = inl (clauses, refl)
is_release (Releases clauses true) = inr (λ x e. cc)
is_release Ticked = inr (λ x e. cc)
is_release (Load c) = inr (λ x e. cc)
is_release (Store c w) = inr (λ x e. cc)
is_release (Folded c op w b) = inr (λ x e. cc)
is_release (Created o b) = inr (λ x e. cc)
is_release Awaited = inr (λ x e. cc)
is_release Waited = inr (λ x e. cc)
is_release (WaitedOn named) = inr (λ x e. cc)
is_release (Printed key text) = inr (λ x e. cc)
is_release Ended = inr (λ x e. cc)
is_release (Fault kind line key) = inr (λ x e. cc)
is_release Over = inr (λ x e. cc)

module _ {S : Type 0} (P : Program S) (s : State S) (weight : Happening → ℕ) where
  and_parts : (a b : Bool) → (a && b) ≡ true → (a ≡ true) × (b ≡ true)
  and_parts true true h = (refl, refl)
  and_parts true false h = cc
  and_parts false b h = cc

  and_not : (a b : Bool) → (a && b) ≡ false → a ≡ true → b ≡ false
  and_not true b h e = h
  and_not false b h e = cc

  not_true : (b : Bool) → not b ≡ true → b ≡ false
  not_true true h = cc
  not_true false h = refl

  not_false : (b : Bool) → not b ≡ false → b ≡ true
  not_false true h = refl
  not_false false h = cc

  -- the cells that an act releases: those of its clauses that are none of a strong reduction
  abbrev pub releases_of : {p : List ℕ} {n k : ℕ} {a : Act S} → List Access → Does P s p n k a → ℕ → Bool
  releases_of clauses d c = in_clauses clauses c && not (is_strong_fold (right_of d.task.body.start.context c))

  pub released_frees : (p : List ℕ) (n k : ℕ) (clauses : List Access) (d : Does P s p n k (Releases clauses false)) (c : ℕ) → releases_of clauses d c ≡ true → Frees P s p c n
  released_frees p n k clauses d c h =
      let q = and_parts (in_clauses clauses c) (not (is_strong_fold (right_of d.task.body.start.context c))) h in
      record { created = k; clauses = clauses; does = d; named = q.0; plain = plain (not_true _ q.1) }
    where
      plain : is_strong_fold (right_of d.task.body.start.context c) ≡ false → (op : Op) → StartsWith s p c (Holds (Fold op) true) → ⊥
      plain h op r =
          let e : right_of d.task.body.start.context c ≡ Holds (Fold op) true = subst (λ (z : Task S). right_of z.body.start.context c ≡ Holds (Fold op) true) (at_same s p r.task d.task r.at_ d.at_) r.right_is in
          let k = fold_is (right_of d.task.body.start.context c) op e in
          cc

  pub released_keeps : (p : List ℕ) (n k : ℕ) (clauses : List Access) (d : Does P s p n k (Releases clauses false)) (c : ℕ) → releases_of clauses d c ≡ false → Frees P s p c n → ⊥
  released_keeps p n k clauses d c h f =
      let q : Releases f.clauses false ≡ Releases clauses false = (does_same P s f.does d).1 in
      let r : f.clauses ≡ clauses = cc (q) in
      let i = and_not (in_clauses clauses c) (not (is_strong_fold (right_of d.task.body.start.context c))) h (subst (λ (z : List Access). in_clauses z c ≡ true) r f.named) in
      let x = fold_of (right_of d.task.body.start.context c) (not_false _ i) in
      f.plain x.0 (record { task = d.task; at_ = d.at_; right_is = x.1 })

  pub other_keeps : (p : List ℕ) (n k : ℕ) (a : Act S) → Does P s p n k a → ((clauses : List Access) → a ≢ Releases clauses false) → (c : ℕ) → Frees P s p c n → ⊥
  other_keeps p n k a d none c f = none f.clauses (sym (does_same P s f.does d).1)

  -- which cells an act releases can be told
  pub record Releasing (p : List ℕ) (n : ℕ) : Type 0 where
    pub test : ℕ → Bool
    pub frees : (c : ℕ) → test c ≡ true → Frees P s p c n
    pub keeps : (c : ℕ) → test c ≡ false → Frees P s p c n → ⊥

  pub releasing : (p : List ℕ) (n k : ℕ) (a : Act S) → Does P s p n k a → Releasing p n
  releasing p n k a d = go (is_release a)
    where
      plain : (c : ℕ) → is_strong_fold (right_of d.task.body.start.context c) ≡ false → (op : Op) → StartsWith s p c (Holds (Fold op) true) → ⊥
      plain c h op r =
          let e : right_of d.task.body.start.context c ≡ Holds (Fold op) true = subst (λ (z : Task S). right_of z.body.start.context c ≡ Holds (Fold op) true) (at_same s p r.task d.task r.at_ d.at_) r.right_is in
          let k = fold_is (right_of d.task.body.start.context c) op e in
          cc

      go : ((clauses : List Access) × (a ≡ Releases clauses false)) ⊎ ((clauses : List Access) → a ≢ Releases clauses false) → Releasing p n
      go (inl (clauses, e)) = record {
        test = λ c. in_clauses clauses c && not (is_strong_fold (right_of d.task.body.start.context c));
        frees = λ c h.
            let q = and_parts (in_clauses clauses c) (not (is_strong_fold (right_of d.task.body.start.context c))) h in
            record { created = k; clauses = clauses; does = subst (λ (z : Act S). Does P s p n k z) e d; named = q.0; plain = plain c (not_true _ q.1) };
        keeps = λ c h f.
            let q : Releases f.clauses false ≡ Releases clauses false = (does_same P s f.does d).1 ∙ e in
            let r : f.clauses ≡ clauses = cc (q) in
            let i = and_not (in_clauses clauses c) (not (is_strong_fold (right_of d.task.body.start.context c))) h (subst (λ (z : List Access). in_clauses z c ≡ true) r f.named) in
            let x = fold_of (right_of d.task.body.start.context c) (not_false _ i) in
            f.plain x.0 (record { task = d.task; at_ = d.at_; right_is = x.1 });
      }
      go (inr none) = record { test = λ c. false; frees = λ c h. cc; keeps = λ c h f. none f.clauses (sym (does_same P s f.does d).1) }
