-- Which task stands before the fault with the least key, task by task.
use Rattle.std.proofs.Common.{◌≡◌, ℕ, ◌+◌, ◌<◌, ◌⊎◌, inl, inr, refl, sym, subst, ◌∙◌, arith, Bool, true, false, List, [], ◌∷◌, length, Option, Some, None, ◌↔◌}
use Rattle.std.specs.Prelude.{IsTrue, MatchOption, slice_get, ◌==◌}
use Rattle.std.proofs.lemmas.Bool.Decides.{nat_tests}
use Rattle.std.proofs.lemmas.List.{reverse-reverse}
use Rattle.std.proofs.lemmas.Option.{slice_get_within}
use Rattle.oss_syntax.specs.declared.fault.FaultKind.{FaultKind}
use Rattle.oss_model.specs.Order.{IsBefore, written}
use Rattle.oss_model.specs.Points.{IsPoint}
use Rattle.oss_body.specs.declared.act.Act.TheVariants as acts
use Rattle.oss_body.specs.declared.body.Body.{Body}
use Rattle.oss_body.specs.Places.{unwritten}
use Rattle.oss_model.proofs.OrderLemmas.{before_not, before_trans}
use Rattle.oss_kept_tasks.specs.declared.faults.FaultSeen.{FaultSeen}
use Rattle.oss_kept_tasks.specs.declared.held.Held.{Held}
use Rattle.oss_kept_tasks.specs.FirstFault.{AreKeyed, HasNoFault, IsFaultAt, IsFaultOf, IsFaultless, IsFirstFault, IsKeyedAt, IsLeastFaultAt, IsLeastTo}

some_is : {A : Type 0} {a b : A} → Some a ≡ Some b → a ≡ b
some_is e = cc

pub which : (v w : ℕ) → (v ≡ w) ⊎ (v ≡ w → ⊥)
which v w = go (v == w) refl
  where
    go : (b : Bool) → (v == w) ≡ b → (v ≡ w) ⊎ (v ≡ w → ⊥)
    go true e = inl (grind (arith, nat_tests, e))
    go false e = inr (λ h. absurd (grind (arith, nat_tests, e, h)))

-- a point is written as its path
pub point_written : (key : List ℕ) → IsPoint key → written (unwritten key) ≡ key
point_written [] h = let e = h.main in cc
point_written (n ∷ rest) h = let e = h.main in rw (reverse-reverse rest) (cc)

-- a fault by its parts
record SameFault (kind other : FaultKind) (line row : ℕ) (key place : List ℕ) : Type 0 where
  pub kind_is : kind ≡ other
  pub line_is : line ≡ row
  pub key_is : key ≡ place

one_fault : (b : Body) (kind other : FaultKind) (line row : ℕ) (key place : List ℕ) → IsFaultOf b kind line key → IsFaultOf b other row place → SameFault kind other line row key place
one_fault b kind other line row key place x y = let e : acts.Fault kind line key ≡ acts.Fault other row place = sym x.act ∙ y.act in record { kind_is = cc; line_is = cc; key_is = cc }

of_fault : (tasks : List Held) (v : ℕ) (held : Held) → slice_get tasks v ≡ Some held → (kind : FaultKind) (line : ℕ) (key : List ℕ) → IsFaultAt tasks v kind line key → IsFaultOf held.body kind line key
of_fault tasks v held is kind line key f = let e : f.held ≡ held = some_is (sym f.is ∙ is) in subst (λ (h : Held). IsFaultOf h.body kind line key) e (record { running = f.running; act = f.act })

-- what is told of the key of one task
pub keyed_point : (tasks : List Held) (at_ : ℕ) (held : Held) (kind : FaultKind) (line : ℕ) (key : List ℕ) → slice_get tasks at_ ≡ Some held → IsFaultOf held.body kind line key → IsPoint key → IsKeyedAt tasks at_
keyed_point tasks at_ held kind line key is fault point = λ other k l place there_ running act.
    let e : held ≡ other = some_is (sym is ∙ there_) in
    let same = one_fault held.body kind k line l key place fault (subst (λ (h : Held). IsFaultOf h.body k l place) (sym e) (record { running = running; act = act })) in
    subst (λ (p : List ℕ). written (unwritten p) ≡ p) same.key_is (point_written key point)

pub keyed_none : (tasks : List Held) (at_ : ℕ) (held : Held) → slice_get tasks at_ ≡ Some held → HasNoFault held.body → IsKeyedAt tasks at_
keyed_none tasks at_ held is none = λ other k l place there_ running act.
    let e : held ≡ other = some_is (sym is ∙ there_) in
    absurd (none k l place (subst (λ (h : Held). IsFaultOf h.body k l place) (sym e) (record { running = running; act = act })))

below_split : (w n : ℕ) → w < n + 1 → (w ≡ n) ⊎ (w ≡ n → ⊥) → (w ≡ n) ⊎ (w < n)
below_split w n l (inl e) = inl e
below_split w n l (inr d) = inr (grind (arith, l, d))

module _ (tasks : List Held) (at_ : ℕ) (held : Held) (is : slice_get tasks at_ ≡ Some held) where
  -- a task that stands before no fault changes nothing
  pub least_none : HasNoFault held.body → (least : Option ℕ) → IsLeastTo tasks at_ least → IsLeastTo tasks (at_ + 1) least
  least_none none None told = λ v kind line key l f. go v kind line key (below_split v at_ l (which v at_)) f
    where
      go : (v : ℕ) (kind : FaultKind) (line : ℕ) (key : List ℕ) → (v ≡ at_) ⊎ (v < at_) → IsFaultAt tasks v kind line key → ⊥
      go v kind line key (inr l) f = told v kind line key l f
      go v kind line key (inl e) f = none kind line key (of_fault tasks at_ held is kind line key (subst (λ (n : ℕ). IsFaultAt tasks n kind line key) e f))
  least_none none (Some best) told = (told.0, told.1, told.2, record { fault = told.3.fault; least = λ w other row place l f. go w other row place (below_split w at_ l (which w at_)) f })
    where
      go : (w : ℕ) (other : FaultKind) (row : ℕ) (place : List ℕ) → (w ≡ at_) ⊎ (w < at_) → IsFaultAt tasks w other row place → IsBefore place told.2 → ⊥
      go w other row place (inr l) f = told.3.least w other row place l f
      go w other row place (inl e) f = absurd (none other row place (of_fault tasks at_ held is other row place (subst (λ (n : ℕ). IsFaultAt tasks n other row place) e f)))

  module _ (kind : FaultKind) (line : ℕ) (key : List ℕ) (fault : IsFaultOf held.body kind line key) (point : IsPoint key) where
    fault_here : IsFaultAt tasks at_ kind line key
    fault_here = record { held = held; is = is; running = fault.running; act = fault.act; keyed = point_written key point }

    key_here : (w : ℕ) (other : FaultKind) (row : ℕ) (place : List ℕ) → w ≡ at_ → IsFaultAt tasks w other row place → key ≡ place
    key_here w other row place e f = (one_fault held.body kind other line row key place fault (of_fault tasks at_ held is other row place (subst (λ (n : ℕ). IsFaultAt tasks n other row place) e f))).key_is

    not_itself : (p : List ℕ) → IsBefore p p → ⊥
    not_itself p l = before_not l refl

    -- the first fault
    pub least_first : IsLeastTo tasks at_ None → IsLeastTo tasks (at_ + 1) (Some at_)
    least_first told = (kind, line, key, record { fault = fault_here; least = λ w other row place l f. go w other row place (below_split w at_ l (which w at_)) f })
      where
        go : (w : ℕ) (other : FaultKind) (row : ℕ) (place : List ℕ) → (w ≡ at_) ⊎ (w < at_) → IsFaultAt tasks w other row place → IsBefore place key → ⊥
        go w other row place (inr l) f = absurd (told w other row place l f)
        go w other row place (inl e) f = λ b. not_itself key (subst (λ (p : List ℕ). IsBefore p key) (sym (key_here w other row place e f)) b)

    module _ (best : ℕ) (held_best : Held) (best_is : slice_get tasks best ≡ Some held_best) (told : IsLeastTo tasks at_ (Some best)) where
      best_key : (kind2 : FaultKind) (line2 : ℕ) (other : List ℕ) → IsFaultOf held_best.body kind2 line2 other → other ≡ told.2
      best_key k l other f = (one_fault held_best.body k told.0 l told.1 other told.2 f (of_fault tasks best held_best best_is told.0 told.1 told.2 told.3.fault)).key_is

      pub best_fault : IsFaultOf held_best.body told.0 told.1 told.2
      best_fault = of_fault tasks best held_best best_is told.0 told.1 told.2 told.3.fault

      -- a fault with an earlier key
      pub least_earlier : IsBefore key told.2 → IsLeastTo tasks (at_ + 1) (Some at_)
      least_earlier b = (kind, line, key, record { fault = fault_here; least = λ w other row place l f. go w other row place (below_split w at_ l (which w at_)) f })
        where
          go : (w : ℕ) (other : FaultKind) (row : ℕ) (place : List ℕ) → (w ≡ at_) ⊎ (w < at_) → IsFaultAt tasks w other row place → IsBefore place key → ⊥
          go w other row place (inr l) f = λ e. told.3.least w other row place l f (before_trans e b)
          go w other row place (inl e) f = λ d. not_itself key (subst (λ (p : List ℕ). IsBefore p key) (sym (key_here w other row place e f)) d)

      -- and one with a later one
      pub least_later : (IsBefore key told.2 → ⊥) → IsLeastTo tasks (at_ + 1) (Some best)
      least_later n = (told.0, told.1, told.2, record { fault = told.3.fault; least = λ w other row place l f. go w other row place (below_split w at_ l (which w at_)) f })
        where
          go : (w : ℕ) (other : FaultKind) (row : ℕ) (place : List ℕ) → (w ≡ at_) ⊎ (w < at_) → IsFaultAt tasks w other row place → IsBefore place told.2 → ⊥
          go w other row place (inr l) f = told.3.least w other row place l f
          go w other row place (inl e) f = λ b. n (subst (λ (p : List ℕ). IsBefore p told.2) (sym (key_here w other row place e f)) b)

-- of all tasks
pub all_keyed : (tasks : List Held) → ((v : ℕ) → v < length tasks → IsKeyedAt tasks v) → AreKeyed tasks
all_keyed tasks f = λ v held kind line key is. f v (slice_get_within tasks v held is) held kind line key is

within : (tasks : List Held) (v : ℕ) (kind : FaultKind) (line : ℕ) (key : List ℕ) → IsFaultAt tasks v kind line key → v < length tasks
within tasks v kind line key f = slice_get_within tasks v f.held f.is

pub faultless : (tasks : List Held) → IsLeastTo tasks (length tasks) None → IsFaultless tasks
faultless tasks told = λ v kind line key f. told v kind line key (within tasks v kind line key f) f

pub least_at : (tasks : List Held) (v : ℕ) (told : IsLeastTo tasks (length tasks) (Some v)) → (kind : FaultKind) × (line : ℕ) × (key : List ℕ) × IsLeastFaultAt tasks v kind line key
least_at tasks v told = (told.0, told.1, told.2, record { fault = told.3.fault; least = λ w other row place f. told.3.least w other row place (within tasks w other row place f) f })

-- the key of the fault of a body
pub seen_key : (b : Body) (kind other : FaultKind) (line row : ℕ) (key place : List ℕ) → IsFaultOf b kind line key → IsFaultOf b other row place → key ≡ place
seen_key b kind other line row key place x y = (one_fault b kind other line row key place x y).key_is

pub before_is : (k a b : List ℕ) → a ≡ b → IsBefore k a → (IsTrue true ↔ IsBefore k b)
before_is k a b e h = (λ t. subst (λ (p : List ℕ). IsBefore k p) e h, λ l. refl)

pub same_not : (k a b : List ℕ) → a ≡ b → k ≡ a → (IsTrue false ↔ IsBefore k b)
same_not k a b e h = (λ t. absurd cc, λ l. absurd (before_not l (h ∙ e)))

pub after_not : (k a b : List ℕ) → a ≡ b → IsBefore a k → (IsTrue false ↔ IsBefore k b)
after_not k a b e h = (λ t. absurd cc, λ l. absurd (before_not (before_trans (subst (λ (p : List ℕ). IsBefore p k) e h) l) refl))

-- the least fault, by what is seen of it
pub least_seen : (tasks : List Held) (v : ℕ) (held : Held) → slice_get tasks v ≡ Some held → (kind other : FaultKind) (line row : ℕ) (key place : List ℕ) → IsFaultOf held.body kind line key → IsLeastFaultAt tasks v other row place → IsLeastFaultAt tasks v kind line key
least_seen tasks v held is kind other line row key place fault least =
    let same = one_fault held.body kind other line row key place fault (of_fault tasks v held is other row place least.fault) in
    subst (λ (k : FaultKind). IsLeastFaultAt tasks v k line key) (sym same.kind_is) (subst (λ (n : ℕ). IsLeastFaultAt tasks v other n key) (sym same.line_is) (subst (λ (p : List ℕ). IsLeastFaultAt tasks v other row p) (sym same.key_is) least))

-- the fault that is seen of the body of that task is the first
pub first_seen : (tasks : List Held) (v : ℕ) (held : Held) → slice_get tasks v ≡ Some held → (kind : FaultKind) × (line : ℕ) × (key : List ℕ) × IsLeastFaultAt tasks v kind line key → (seen : Option FaultSeen)
    → MatchOption seen (HasNoFault held.body) (λ one. IsFaultOf held.body one.kind one.line one.key.now) → MatchOption seen (IsFaultless tasks) (λ one. IsFirstFault tasks one.kind one.line one.key.now)
first_seen tasks v held is least None none = absurd (none least.0 least.1 least.2 (of_fault tasks v held is least.0 least.1 least.2 least.3.fault))
first_seen tasks v held is least (Some one) fault = (v, least_seen tasks v held is one.kind least.0 one.line least.1 one.key.now least.2 fault least.3)
