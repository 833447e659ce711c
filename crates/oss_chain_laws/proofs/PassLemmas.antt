-- What is kept in the pass stays right: after an act, for a task that is created, and when a child has ended.
use Rattle.std.proofs.Common.{◌≡◌, ◌≢◌, ℕ, suc, ◌<◌, ◌≤◌, ◌⊎◌, inl, inr, refl, sym, subst, ap, List, [], ◌∷◌, arith, Bool, true, false}
use Rattle.std.specs.Prelude.{if◌then◌else◌}
use Rattle.oss_syntax.specs.declared.access.Op.{Op}
use Rattle.oss_model.specs.Order.{IsSuffix}
use Rattle.oss_model.specs.Bodies.{Order, Program, stage_created}
use Rattle.oss_model.specs.Bodies.Act.{Created}
use Rattle.oss_model.specs.Machine.{Task, State}
use Rattle.oss_model.proofs.StageLemmas.{created_grows, creation_counts}
use Rattle.oss_model.proofs.OrderLemmas.{suffix_drop, suffix_linear}
use Rattle.oss_model.proofs.TreeLemmas.{at_same}
use Rattle.oss_chain_laws.specs.Chains.{Best, IsMost, better, no_chain}
use Rattle.oss_chain_laws.specs.Happenings.{Happening, Acting, Does, Frees, WaitsFor}
use Rattle.oss_chain_laws.specs.Tables.{GivenBelow, ChangedBelow, LeftBelow, JustBefore, act_before, BeforeRun, FreedBefore, freed_before}
use Rattle.oss_chain_laws.specs.Pass.{Kept, IsKept, acted}
use Rattle.oss_chain_laws.proofs.ChainLemmas.{most_none, most_same, most_either}
use Rattle.oss_chain_laws.proofs.TableLemmas.{none_given, none_changed, none_left}

pub bools : (b : Bool) → (b ≡ true) ⊎ (b ≡ false)
bools true = inl refl
bools false = inr refl

pub not_nil : {k : ℕ} {p : List ℕ} → k ∷ p ≢ []
not_nil e = cc

last_of : (i n : ℕ) → i < suc n → (i < n) ⊎ (i ≡ n)
last_of i n h = grind arith

module _ {S : Type 0} (P : Program S) (s : State S) (weight : Happening → ℕ) where
  -- the number is the greatest length of a chain that ends in such an event
  abbrev pub Most : (Happening → Type 0) → Best Happening → Type 0
  Most Q m = IsMost (WaitsFor P s) weight Q m

  pub same : (Q R : Happening → Type 0) (m : Best Happening) → ((f : Happening) → Q f → R f) → ((f : Happening) → R f → Q f) → Most Q m → Most R m
  same Q R m forth back q = most_same (WaitsFor P s) weight Q R m forth back q

  pub either_most : (Q R : Happening → Type 0) (m n : Best Happening) → Most Q m → Most R n → Most (λ f. Q f ⊎ R f) (better m n)
  either_most Q R m n q r = most_either (WaitsFor P s) weight Q R m n q r

  pub no_most : (Q : Happening → Type 0) → ((f : Happening) → Q f → ⊥) → Most Q no_chain
  no_most Q h = most_none (WaitsFor P s) weight Q h

  pub none_freed : (p : List ℕ) (c : ℕ) (f : Happening) → FreedBefore P s p c 0 f → ⊥
  none_freed p c f (freed_before i l d) = omega (arith, l)

  pub none_before : (c : ℕ) (op : Op) (q : List ℕ) (f : Happening) → BeforeRun s c op q 0 f → ⊥
  none_before c op q f (BeforeRun.before_run i l out g) = omega (arith, l)

  -- main, before its first act
  main_before : (f : Happening) → JustBefore P s [] 0 f → ⊥
  main_before f h = elim h [ ]

  abbrev pub of_main : Kept
  of_main = record { last = no_chain; left = no_chain; newest = no_chain; given = λ c. no_chain; changed = λ c. no_chain; before = λ op c. no_chain; is_freed = λ c. false; freed = λ c. no_chain; write_way = λ c. no_chain; read_way = λ c. no_chain; join_way = λ op c. no_chain }

  pub main_kept : IsKept P s weight [] 0 0 of_main
  main_kept = record {
    last = no_most (JustBefore P s [] 0) main_before;
    left = no_most (LeftBelow P s [] 0) (none_left P s []);
    newest = λ i e. absurd (omega (arith, e));
    given = λ c. no_most (GivenBelow s c [] 0) (none_given P s c []);
    changed = λ c. no_most (ChangedBelow s c [] 0) (none_changed P s c []);
    before = λ op c. no_most (BeforeRun s c op [] 0) (none_before c op []);
    freed = λ c. no_most (FreedBefore P s [] c 0) (none_freed [] c);
    is_freed = λ c e. cc;
    not_freed = λ c e i l d. omega (arith, l);
    write_way = λ c ne a. absurd (ne refl);
    read_way = λ c ne a. absurd (ne refl);
    join_way = λ op c ne a m. absurd (ne refl);
  }

  pub act_only : (p : List ℕ) (n : ℕ) (f : Happening) → JustBefore P s p (suc n) f → f ≡ Acting p n
  act_only p n f act_before = refl

  -- an act keeps all, and its cells that it releases have its value
  module _ (p : List ℕ) (n m : ℕ) (v : Best Happening) (releases : ℕ → Bool) (t : Kept) (kept : IsKept P s weight p n m t) (value : Most (λ f. f ≡ Acting p n) v)
      (frees : (c : ℕ) → releases c ≡ true → Frees P s p c n) (keeps : (c : ℕ) → releases c ≡ false → Frees P s p c n → ⊥) where
    own_forth : (f : Happening) → f ≡ Acting p n → JustBefore P s p (suc n) f
    own_forth f e = subst (λ (z : Happening). JustBefore P s p (suc n) z) (sym e) act_before

    freed_forth : (c : ℕ) → releases c ≡ true → (f : Happening) → FreedBefore P s p c n f ⊎ (f ≡ Acting p n) → FreedBefore P s p c (suc n) f
    freed_forth c r f (inl (freed_before i l d)) = freed_before i (omega (arith, l)) d
    freed_forth c r f (inr e) = subst (λ (z : Happening). FreedBefore P s p c (suc n) z) (sym e) (freed_before n (omega arith) (frees c r))

    freed_back : (c : ℕ) (f : Happening) → FreedBefore P s p c (suc n) f → FreedBefore P s p c n f ⊎ (f ≡ Acting p n)
    freed_back c f (freed_before i l d) = go (last_of i n l)
      where
        go : (i < n) ⊎ (i ≡ n) → FreedBefore P s p c n (Acting p i) ⊎ (Acting p i ≡ Acting p n)
        go (inl k) = inl (freed_before i k d)
        go (inr e) = inr (ap (λ (z : ℕ). Acting p z) e)

    freed_less : (c : ℕ) → releases c ≡ false → (f : Happening) → FreedBefore P s p c (suc n) f → FreedBefore P s p c n f
    freed_less c r f (freed_before i l d) = go (last_of i n l)
      where
        go : (i < n) ⊎ (i ≡ n) → FreedBefore P s p c n (Acting p i)
        go (inl k) = freed_before i k d
        go (inr e) = absurd (keeps c r (subst (λ (z : ℕ). Frees P s p c z) e d))

    freed_more : (c : ℕ) (f : Happening) → FreedBefore P s p c n f → FreedBefore P s p c (suc n) f
    freed_more c f (freed_before i l d) = freed_before i (omega (arith, l)) d

    freed_next : (c : ℕ) (b : Bool) → releases c ≡ b → Most (FreedBefore P s p c (suc n)) (if b then better (t.freed c) v else t.freed c)
    freed_next c true r = same (λ f. FreedBefore P s p c n f ⊎ (f ≡ Acting p n)) (FreedBefore P s p c (suc n)) (better (t.freed c) v) (freed_forth c r) (freed_back c) (either_most (FreedBefore P s p c n) (λ f. f ≡ Acting p n) (t.freed c) v (kept.freed c) value)
    freed_next c false r = same (FreedBefore P s p c n) (FreedBefore P s p c (suc n)) (t.freed c) (freed_more c) (freed_less c r) (kept.freed c)

    is_freed_next : (c : ℕ) (b : Bool) → releases c ≡ b → (if b then true else t.is_freed c) ≡ true → (i : ℕ) × (i < suc n) × Frees P s p c i
    is_freed_next c true r h = (n, omega arith, frees c r)
    is_freed_next c false r h = let k = kept.is_freed c h in let l = k.1 in (k.0, omega (arith, l), k.2)

    not_freed_next : (c : ℕ) (b : Bool) → releases c ≡ b → (if b then true else t.is_freed c) ≡ false → (i : ℕ) → i < suc n → Frees P s p c i → ⊥
    not_freed_next c true r h i l d = cc
    not_freed_next c false r h i l d = go (last_of i n l)
      where
        go : (i < n) ⊎ (i ≡ n) → ⊥
        go (inl k) = kept.not_freed c h i k d
        go (inr e) = keeps c r (subst (λ (z : ℕ). Frees P s p c z) e d)

    pub acted_kept : IsKept P s weight p (suc n) m (acted v releases t)
    acted_kept = record {
      last = same (λ f. f ≡ Acting p n) (JustBefore P s p (suc n)) v own_forth (act_only p n) value;
      left = kept.left;
      newest = kept.newest;
      given = kept.given;
      changed = kept.changed;
      before = kept.before;
      freed = λ c. freed_next c (releases c) refl;
      is_freed = λ c h. is_freed_next c (releases c) refl h;
      not_freed = λ c h i l d. not_freed_next c (releases c) refl h i l d;
      write_way = kept.write_way;
      read_way = kept.read_way;
      join_way = kept.join_way;
    }

  -- a creation is made once
  creation_once : (p : List ℕ) (k m n : ℕ) (o r : Order S) → Does P s p m k (Created o false) → Does P s p n k (Created r false) → (m < n) → ⊥
  creation_once p k m n o r d e l =
      let t : e.task ≡ d.task = at_same s p e.task d.task e.at_ d.at_ in
      let f : IsSuffix (e.answer ∷ e.past) d.task.body.found = subst (λ (z : Task S). IsSuffix (e.answer ∷ e.past) z.body.found) t e.done_ in
      let g : IsSuffix (d.answer ∷ d.past) e.past = suffix_linear d.done_ (suffix_drop f) (omega (arith, d.number_is, e.number_is, l)) in
      let c = creation_counts P d.task.body.start d.answer d.past o d.act_is in
      let h : stage_created P d.task.body.start (d.answer ∷ d.past) ≤ stage_created P d.task.body.start e.past = created_grows P d.task.body.start g in
      let i : stage_created P e.task.body.start e.past ≡ stage_created P d.task.body.start e.past = ap (λ (z : Task S). stage_created P z.body.start e.past) t in
      omega (arith, c, h, i, d.created_is, e.created_is)

  pub one_creation : (p : List ℕ) (k m n : ℕ) (o r : Order S) → Does P s p m k (Created o false) → Does P s p n k (Created r false) → m ≡ n
  one_creation p k m n o r d e = go (which m n)
    where
      which : (m n : ℕ) → (m < n) ⊎ (m ≡ n) ⊎ (n < m)
      which m n = grind arith

      go : (m < n) ⊎ (m ≡ n) ⊎ (n < m) → m ≡ n
      go (inl l) = absurd (creation_once p k m n o r d e l)
      go (inr (inl q)) = q
      go (inr (inr l)) = absurd (creation_once p k n m r o e d l)
