-- A task is ready just where all that its first act names is given up.
use Rattle.std.proofs.Common.{◌≡◌, ℕ, zero, suc, ◌+◌, ◌<◌, refl, sym, subst, ◌∙◌, List, [], ◌∷◌, length, arith, true}
use Rattle.oss_syntax.specs.declared.access.Mode.TheVariants.{Read, Write}
use Rattle.oss_model.specs.Context.{Context}
use Rattle.oss_model.specs.Bodies.{Program, Start}
use Rattle.oss_model.specs.Machine.{Task, State, At, HasAccess, accesses, IsTop, is_top, IsChild, is_child, IsReady}
use Rattle.oss_model.specs.History.{IsMade}
use Rattle.oss_model.proofs.ForestLemmas.{Known, top, below}
use Rattle.oss_chain_laws.specs.Happenings.{Happening}
use Rattle.oss_chain_laws.specs.Claims.{NamesGiven, ReadyIsAllGiven}
use Rattle.oss_chain_laws.proofs.NameLemmas.{IsTree, GoesDown, goes_down, write_given, read_given, given_write, given_read}
use Rattle.oss_chain_laws.proofs.PassTheorem.{above_access}
use Rattle.oss_chain_laws.proofs.SettleLemmas.{deepest, within}

abbrev above_it : List ℕ → List ℕ
above_it [] = []
above_it (k ∷ p) = p

module _ {S : Type 0} (s : State S) (c : ℕ) where
  parent_is : {p v : List ℕ} → IsChild s c p v → p ≡ above_it v
  parent_is (is_child up down) = refl

  top_is : {v : List ℕ} → IsTop s c v → above_it v ≡ []
  top_is (is_top a) = refl

  no_creator : {v : List ℕ} → IsChild s c [] v → ⊥
  no_creator h = elim h [ ]

  pub state_tree : IsTree (accesses s c)
  state_tree = record {
    one_above = λ p q v h k. parent_is h ∙ sym (parent_is k);
    none_above = λ p v h t. no_creator (subst (λ (z : List ℕ). IsChild s c z v) (parent_is h ∙ top_is t) h);
  }

  child_longer : {u v : List ℕ} → IsChild s c u v → (length v ≡ suc (length u)) × HasAccess s c v
  child_longer (is_child up down) = (refl, down)

  down_by : (n : ℕ) (u : List ℕ) → deepest s.tasks < length u + n → GoesDown (accesses s c) u
  down_by zero u l = goes_down (λ v h. let k = child_longer h in let d = within s.tasks v k.1.task k.1.at_ in let e = k.0 in absurd (omega (arith, l, d, e)))
  down_by (suc n) u l = goes_down (λ v h. let k = child_longer h in let e = k.0 in down_by n v (omega (arith, l, e)))

  pub state_down : (u : List ℕ) → GoesDown (accesses s c) u
  state_down u = down_by (suc (deepest s.tasks)) u (omega arith)

module _ {S : Type 0} (P : Program S) (main : Start S) (s : State S) (made : IsMade P main s) (weight : Happening → ℕ) where
  known : (c : ℕ) (k : ℕ) (p : List ℕ) → HasAccess s c (k ∷ p) → Known (accesses s c) (k ∷ p)
  known c k [] a = top (is_top a)
  known c k (j ∷ p) a = let u = above_access P main s made weight c k (j ∷ p) a in below (is_child u a) (known c j p u)

  pub ready_given : (k : ℕ) (p : List ℕ) (x : Context) → IsReady s (k ∷ p) x → NamesGiven s (k ∷ p) x
  ready_given k p x h = record {
    reads = λ c r q n. read_given (accesses s c) (state_tree s c) (k ∷ p) q (h.0 c r) n;
    writes = λ c r q n. write_given (accesses s c) (state_tree s c) (k ∷ p) q (h.1 c r) n;
  }

  pub given_ready : (k : ℕ) (p : List ℕ) (t : Task S) → At s (k ∷ p) t → NamesGiven s (k ∷ p) t.body.start.context → IsReady s (k ∷ p) t.body.start.context
  given_ready k p t h g = (
    λ c r. given_read (accesses s c) (state_tree s c) (state_down s c) (k ∷ p) (known c k p (record { task = t; at_ = h; mode = Read; strong = true; right = r })) (λ q n. g.reads c r q n),
    λ c r. given_write (accesses s c) (state_tree s c) (state_down s c) (k ∷ p) (known c k p (record { task = t; at_ = h; mode = Write; strong = true; right = r })) (λ q n. g.writes c r q n),
  )

pub ready_is_all_given : (S : Type 0) → ReadyIsAllGiven S
ready_is_all_given S P main s k p t made h = (λ r. ready_given P main s made (λ e. 0) k p t.body.start.context r, λ g. given_ready P main s made (λ e. 0) k p t h g)
