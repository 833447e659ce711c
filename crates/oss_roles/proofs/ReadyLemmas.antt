-- A count of 0 says that the task is there and ready; and what the flags of the last children say of waits.
use Rattle.std.proofs.Common.{◌≡◌, ◌≢◌, ◌⊎◌, inl, inr, sym, subst, refl, ◌∙◌, ap, ℕ, ◌<◌, ◌+◌, arith, Bool, true, false, List, ◌∷◌, Option, Some}
use Rattle.std.specs.Prelude.{not, ◌&&◌, ◌==◌}
use Rattle.std.proofs.lemmas.Bool.Decides.{eqb_tells}
use Rattle.oss_syntax.specs.declared.access.Mode.{Mode}
use Rattle.oss_syntax.specs.declared.access.Mode.TheVariants.{Read, Write}
use Rattle.oss_syntax.specs.declared.access.Access.{Access}
use Rattle.oss_model.specs.Bodies.{Program, Start}
use Rattle.oss_model.specs.Bodies.Act.{Awaited, Waited, WaitedOn}
use Rattle.oss_model.specs.Context.{in_clauses}
use Rattle.oss_model.specs.Forest.{Forest, IsDone}
use Rattle.oss_model.specs.History.{IsMade}
use Rattle.oss_model.specs.Machine.{Task, State, At, HasAccess, accesses, IsReady, IsComplete, IsWaitMet}
use Rattle.oss_words.specs.declared.entry.EntryState.{EntryState}
use Rattle.oss_words.specs.declared.entry.EntryInfo.{EntryInfo}
use Rattle.oss_words.specs.Net.{Net, apart, forest}
use Rattle.oss_words.specs.Sums.{num}
use Rattle.oss_words.specs.Truth.{Truth}
use Rattle.oss_words.proofs.CauseLemmas.{bools}
use Rattle.oss_words.proofs.SumLemmas.{below_at}
use Rattle.oss_roles.specs.Roles.{Role, Site, itself, on, Filed, AreRoles, AreFiled, AreGiven}
use Rattle.oss_roles.specs.Counting.{stands, weight, AreCounts}
use Rattle.oss_roles.proofs.CarryLemmas.{read_carries, write_carries, done_carries, complete_carries, siblings_done}

num_zero : (b : Bool) → num b ≡ 0 → b ≡ false
num_zero true h = let k : ⊥ = omega (arith, h) in absurd k
num_zero false h = refl

same_test : (x y : ℕ) → x ≡ y → (x == y) ≡ true
same_test x y e = elim (eqb_tells x y) [ inl h ↦ h.0 | inr h ↦ absurd (h.1 e) ]

-- an entry of the task t that adds nothing stands, or does not count
adds_nothing : (t : ℕ) (r : Role) (c : EntryState) → r.task ≡ t → weight t (Some r) c ≡ 0 → (stands r.mode c ≡ true) ⊎ (r.counts ≡ false)
adds_nothing t r c same h = go (bools r.counts) (bools (stands r.mode c))
  where
    go : (r.counts ≡ true) ⊎ (r.counts ≡ false) → (stands r.mode c ≡ true) ⊎ (stands r.mode c ≡ false) → (stands r.mode c ≡ true) ⊎ (r.counts ≡ false)
    go (inr k) d = inr k
    go (inl k) (inl d) = inl d
    go (inl k) (inr d) =
        let e = same_test r.task t same in
        let z : num ((r.task == t) && (r.counts && not (stands r.mode c))) ≡ 0 = h in
        let one : num ((r.task == t) && (r.counts && not (stands r.mode c))) ≡ 1 = rw (e, k, d) refl in
        absurd (let o = one in omega (arith, z, o))

module _ {S : Type 0} (P : Program S) (main : Start S) (s : State S) (made : IsMade P main s)
    (n : ℕ) (net : Net) (gave : ℕ → Bool) (states : ℕ → EntryState) (infos : ℕ → EntryInfo) (role : ℕ → Option Role) (joined : ℕ → Type 0)
    (roles : AreRoles net infos role) (filed : AreFiled s net role) (given : AreGiven P s net role gave joined)
    (inside : (e : ℕ) → net.place e ≢ apart → e < n) (truth : Truth n net gave states) where
  abbrev N : Forest ℕ
  N = forest net gave

  module _ (opened : ℕ → Bool) (owed count : ℕ → ℕ) (counts : AreCounts s n net role states opened owed count) where
    -- each entry of a task whose count is 0 has the flag that it needs
    flag_stands : (t : ℕ) (q : Role) → role t ≡ Some q → q.site ≡ itself → count t ≡ 0 → (e : ℕ) (r : Role) → role e ≡ Some r → net.place e ≢ apart → r.path ≡ q.path → r.strong ≡ true → stands r.mode (states e) ≡ true
    flag_stands t q is at spent e r eis h path strong =
        let own = roles.number e r eis in
        let same : r.task ≡ t = roles.one r.task t own.0 q own.1 is (own.2 ∙ path) (own.3 ∙ sym at) in
        let sum = counts.sum t q is at in
        let one = below_at (λ x. weight t (role x) (states x)) n e (inside e h) in
        let none : weight t (role e) (states e) ≡ 0 = omega (arith, sum, one, spent) in
        elim (adds_nothing t r (states e) same (ap (λ (z : Option Role). weight t z (states e)) (sym eis) ∙ none)) [
          | inl d ↦ d
          | inr d ↦ counts.open_start e r eis h d strong
        ]

    is_opened : (t : ℕ) (q : Role) → role t ≡ Some q → q.site ≡ itself → count t ≡ 0 → (u : Task S) × At s q.path u
    is_opened t q is at spent =
        let sum = counts.sum t q is at in
        let h : num (not (opened t)) ≡ 0 = omega (arith, sum, spent) in
        (counts.opened_is t q is at).0 (go (opened t) h)
      where
        go : (b : Bool) → num (not b) ≡ 0 → b ≡ true
        go true h = refl
        go false h = let k : ⊥ = omega (arith, h) in absurd k

    ready_at : (t : ℕ) (q : Role) → role t ≡ Some q → q.site ≡ itself → count t ≡ 0 → (k : ℕ) (p : List ℕ) → q.path ≡ k ∷ p → (u : Task S) → At s (k ∷ p) u → IsReady s (k ∷ p) u.body.start.context
    ready_at t q is at spent k p path u there = (
      (λ c right.
          let a : HasAccess s c (k ∷ p) = record { task = u; at_ = there; mode = Read; strong = true; right = right } in
          let x = filed.access k c p a in
          let y = x.0 in
          let stands_is = flag_stands t q is at spent y.entry y.it y.is y.hangs (y.path ∙ sym path) x.2 in
          let flag : (states y.entry).reads ≡ true = subst (λ (z : Mode). stands z (states y.entry) ≡ true) x.1 stands_is in
          read_carries P main s made net gave infos role joined roles filed given (k ∷ p) c y.entry y.it y.is y.hangs y.site y.path a ((truth y.entry (inside y.entry y.hangs) y.hangs).reads flag)),
      (λ c right.
          let a : HasAccess s c (k ∷ p) = record { task = u; at_ = there; mode = Write; strong = true; right = right } in
          let x = filed.access k c p a in
          let y = x.0 in
          let stands_is = flag_stands t q is at spent y.entry y.it y.is y.hangs (y.path ∙ sym path) x.2 in
          let flag : (states y.entry).writes ≡ true = subst (λ (z : Mode). stands z (states y.entry) ≡ true) x.1 stands_is in
          write_carries P main s made net gave infos role joined roles filed given (k ∷ p) c y.entry y.it y.is y.hangs y.site y.path a ((truth y.entry (inside y.entry y.hangs) y.hangs).writes flag)),
    )

    -- a task whose count is 0 is there, and ready
    pub counted_ready : (t : ℕ) (q : Role) → role t ≡ Some q → q.site ≡ itself → count t ≡ 0 → (u : Task S) × At s q.path u × IsReady s q.path u.body.start.context
    counted_ready t q is at spent =
        let k = roles.below_main t q is in
        let o = is_opened t q is at spent in
        let there : At s (k.0 ∷ k.1) o.0 = subst (λ (z : List ℕ). At s z o.0) k.2 o.1 in
        (o.0, o.1, subst (λ (z : List ℕ). IsReady s z o.0.body.start.context) (sym k.2) (ready_at t q is at spent k.0 k.1 k.2 o.0 there))

  -- the last child of p on a site: each child of p that is there has a number up to its
  pub record IsLastChild (p : List ℕ) (y : Site) (created : ℕ) (o : ℕ) : Type 0 where
    pub it : Role
    pub is : role o ≡ Some it
    pub hangs : net.place o ≢ apart
    pub number : ℕ
    pub path : it.path ≡ number ∷ p
    pub site : it.site ≡ y
    pub last : (j : ℕ) → j < created → Filed net role (j ∷ p) y → (j ≡ number) ⊎ (j < number)

  children_done : (p : List ℕ) (y : Site) (created o : ℕ) → (l : IsLastChild p y created o) → (states o).clear ≡ true → (states o).done ≡ true → (j : ℕ) → j < created → (x : Filed net role (j ∷ p) y) → IsDone N x.entry
  children_done p y created o l clear done j less x =
      let holds = truth o (inside o l.hangs) l.hangs in
      let x' : Filed net role (j ∷ p) l.it.site = record { entry = x.entry; it = x.it; is = x.is; hangs = x.hangs; path = x.path; site = x.site ∙ sym l.site } in
      siblings_done P main s made net gave infos role joined roles filed given o l.it l.number p l.is l.hangs l.path (holds.done done) (holds.clear clear) j (l.last j less x) x'

  -- a wait for all children is met if the own entry of the last one is clear and done
  pub wait_met : (p : List ℕ) (created o : ℕ) → IsLastChild p itself created o → (states o).clear ≡ true → (states o).done ≡ true → IsWaitMet P s p created Waited
  wait_met p created o l clear done k u less there =
      let x = filed.task k p u there in
      subst (λ (z : List ℕ). IsComplete P s z) x.path (complete_carries P main s made net gave infos role joined roles filed given x.entry x.it x.is x.hangs x.site (children_done p itself created o l clear done k less x))

  -- an await of the newest child is met if its own entry is done
  pub await_met : (p : List ℕ) (created o : ℕ) (q : Role) → role o ≡ Some q → net.place o ≢ apart → q.site ≡ itself → (k : ℕ) → q.path ≡ k ∷ p → k + 1 ≡ created → (states o).done ≡ true → IsWaitMet P s p created Awaited
  await_met p created o q is h at k path newest done j u same there =
      let e : q.path ≡ j ∷ p = path ∙ ap (λ (z : ℕ). z ∷ p) (omega (arith, newest, same)) in
      subst (λ (z : List ℕ). IsComplete P s z) e (complete_carries P main s made net gave infos role joined roles filed given o q is h at ((truth o (inside o h) h).done done))

  -- a wait on cells is met if on each of them no child has an access, or the last one is clear and done
  pub wait_on_met : (p : List ℕ) (created : ℕ) (named : List Access)
      → ((c : ℕ) → in_clauses named c ≡ true → ((j : ℕ) → j < created → Filed net role (j ∷ p) (on c) → ⊥) ⊎ ((o : ℕ) × IsLastChild p (on c) created o × ((states o).clear ≡ true) × ((states o).done ≡ true)))
      → IsWaitMet P s p created (WaitedOn named)
  wait_on_met p created named all j c less within a =
      let y = (filed.access j c p a).0 in
      elim (all c within) [
        | inl none ↦ absurd (none j less y)
        | inr l ↦ subst (λ (z : List ℕ). IsDone (accesses s c) z) y.path (done_carries P main s made net gave infos role joined roles filed given c y.entry y.it y.is y.hangs y.site (children_done p (on c) created l.0 l.1 l.2 l.3 j less y))
      ]
