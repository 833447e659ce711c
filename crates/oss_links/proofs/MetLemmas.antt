-- A task is met where the flags stand for which its accesses ask.
use Rattle.std.proofs.Common.{◌≡◌, ℕ, refl, subst, ap, ◌⊎◌, inl, inr, Bool, true, false, List, Some, ◌↔◌}
use Rattle.std.specs.Prelude.{◌||◌, not}
use Rattle.oss_syntax.specs.declared.access.Access.{Access}
use Rattle.oss_syntax.specs.declared.access.Mode.{Mode}
use Rattle.oss_syntax.specs.declared.access.Mode.TheVariants.{Read, Write, Fold}
use Rattle.oss_model.specs.Order.{IsIn}
use Rattle.oss_model.specs.Rights.{in_access}
use Rattle.oss_deps.specs.declared.opened.Open.{Open}
use Rattle.oss_deps.specs.Opens.{access_at, is_some_access, names, AreOpens, AreOrdered, Asks, IsMet}
use Rattle.oss_deps.proofs.Basics.{bools}
use Rattle.oss_deps.proofs.OpenLemmas.{access_found, not_main, one_entry}
use Rattle.oss_access_lists.specs.declared.marks.Marks.{Marks}
use Rattle.oss_links.specs.Readings.{AreLet, TellOfEach, TellOfTask, is_let, is_let_go}

named_by : (o : Open) (c : ℕ) (a : Access) → access_at o.accesses c ≡ Some a → names c o ≡ true
named_by o c a e = ap is_some_access e

let_strong : (a : Access) (x : Marks) → a.strong ≡ true → is_let_go a x ≡ true → is_let a.mode x ≡ true
let_strong a x s h = go a.strong s h
  where
    go : (b : Bool) → b ≡ true → (not b || is_let a.mode x) ≡ true → is_let a.mode x ≡ true
    go true e h = h
    go false e h = absurd cc

let_weak : (a : Access) (x : Marks) → a.strong ≡ false → is_let_go a x ≡ true
let_weak a x s = go a.strong s
  where
    go : (b : Bool) → b ≡ false → (not b || is_let a.mode x) ≡ true
    go true e = absurd cc
    go false e = refl

strong_let : (a : Access) (x : Marks) → is_let a.mode x ≡ true → is_let_go a x ≡ true
strong_let a x h = go a.strong
  where
    go : (b : Bool) → (not b || is_let a.mode x) ≡ true
    go true = h
    go false = refl

module _ (opens : List Open) (given : ℕ → ℕ → Bool) (o : Open) (marks : ℕ → Marks) (are : AreOpens opens) (i : IsIn o opens) (tell : TellOfEach opens given o marks) where
  -- the access that asks is one of the entry
  asks_here : (c : ℕ) (m : Mode) (k : Asks opens o.task c m) → access_at o.accesses c ≡ Some k.access
  asks_here c m k = subst (λ (q : Open). access_at q.accesses c ≡ Some k.access) (one_entry are.ordered k.entry o k.listed i k.number) k.at_

  let_of : AreLet o marks → (c : ℕ) (m : Mode) → Asks opens o.task c m → is_let m (marks c) ≡ true
  let_of all c m k =
      let e = asks_here c m k in
      let q = access_found o.accesses c k.access e in
      subst (λ (y : Mode). is_let y (marks c) ≡ true) k.mode_is (let_strong k.access (marks c) k.strong (all k.access c q.0 q.1))

  tells_at : (c : ℕ) (m : Mode) → Asks opens o.task c m → TellOfTask opens given c o.task (marks c)
  tells_at c m k = tell c (named_by o c k.access (asks_here c m k))

  let_met : AreLet o marks → IsMet opens given o.task
  let_met all = record {
    reads = λ c k. (tells_at c Read k).reads.0 (let_of all c Read k);
    writes = λ c k. (tells_at c Write k).writes.0 (let_of all c Write k);
  }

  asks_of : (a : Access) (c : ℕ) → IsIn a o.accesses → in_access a c ≡ true → a.strong ≡ true → Asks opens o.task c a.mode
  asks_of a c j h s = record { entry = o; listed = i; number = refl; access = a; at_ = are.once o i a c j h; mode_is = refl; strong = s }

  met_mode : IsMet opens given o.task → (a : Access) (c : ℕ) (m : Mode) → a.mode ≡ m → Asks opens o.task c a.mode → is_let m (marks c) ≡ true
  met_mode met a c Read e k = let q = subst (λ (y : Mode). Asks opens o.task c y) e k in (tells_at c Read q).reads.1 (met.reads c q)
  met_mode met a c Write e k = let q = subst (λ (y : Mode). Asks opens o.task c y) e k in (tells_at c Write q).writes.1 (met.writes c q)
  met_mode met a c (Fold op) e k = refl

  met_let : IsMet opens given o.task → AreLet o marks
  met_let met a c j h = go (bools a.strong)
    where
      go : (a.strong ≡ true) ⊎ (a.strong ≡ false) → is_let_go a (marks c) ≡ true
      go (inl s) = strong_let a (marks c) (met_mode met a c a.mode refl (asks_of a c j h s))
      go (inr s) = let_weak a (marks c) s

  pub met_by_flags : AreLet o marks ↔ IsMet opens given o.task
  met_by_flags = (let_met, met_let)

-- main asks for nothing
pub main_is_met : (opens : List Open) (given : ℕ → ℕ → Bool) → AreOrdered opens → IsMet opens given 0
main_is_met opens given ordered = record {
  reads = λ c k. absurd (not_main ordered k.entry k.listed k.number);
  writes = λ c k. absurd (not_main ordered k.entry k.listed k.number);
}
