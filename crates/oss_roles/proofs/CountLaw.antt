-- Counts after each kind of step that touches them.
use Rattle.std.proofs.Common.{◌≡◌, ◌≢◌, ◌⊎◌, inl, inr, sym, subst, refl, ◌∙◌, ap, ℕ, zero, suc, ◌<◌, ◌+◌, arith, Bool, true, false, Option, Some, None}
use Rattle.std.specs.Prelude.{not, ◌&&◌, ◌==◌}
use Rattle.std.proofs.lemmas.Bool.Decides.{eqb_tells}
use Rattle.oss_syntax.specs.declared.access.Mode.{Mode}
use Rattle.oss_syntax.specs.declared.access.Mode.TheVariants.{Read, Write, Fold}
use Rattle.oss_model.specs.Machine.{State}
use Rattle.oss_words.specs.declared.entry.EntryState.{EntryState}
use Rattle.oss_words.specs.declared.entry.EntryInfo.{EntryInfo}
use Rattle.oss_words.specs.Causes.{Sets, sets_done, sets_folds, sets_reads, sets_writes, sets_clear}
use Rattle.oss_words.specs.Net.{Net, apart}
use Rattle.oss_words.specs.Sums.{below, num}
use Rattle.oss_words.proofs.CauseLemmas.{bools, clash}
use Rattle.oss_words.proofs.SumLemmas.{below_change, same_number}
use Rattle.oss_roles.specs.Roles.{Role, itself, AreRoles}
use Rattle.oss_roles.specs.Counting.{stands, needed, weight, owing, AreCounts}

-- the flag that is set, and whether it is the one that is needed
data SetFlag (m : Mode) (a c : EntryState) (f : ℕ) : Type 0 where
  it_is : needed m f ≡ true → stands m a ≡ false → stands m c ≡ true → SetFlag m a c f
  another : needed m f ≡ false → stands m c ≡ stands m a → SetFlag m a c f

set_flag : (m : Mode) (a c : EntryState) (f : ℕ) → Sets a c f → SetFlag m a c f
set_flag Read a c f (sets_done h e) = another refl (ap (λ (z : EntryState). z.reads) e)
set_flag Read a c f (sets_folds h e) = another refl (ap (λ (z : EntryState). z.reads) e)
set_flag Read a c f (sets_reads h e) = it_is refl h (ap (λ (z : EntryState). z.reads) e)
set_flag Read a c f (sets_writes h e) = another refl (ap (λ (z : EntryState). z.reads) e)
set_flag Read a c f (sets_clear h e) = another refl (ap (λ (z : EntryState). z.reads) e)
set_flag Write a c f (sets_done h e) = another refl (ap (λ (z : EntryState). z.writes) e)
set_flag Write a c f (sets_folds h e) = another refl (ap (λ (z : EntryState). z.writes) e)
set_flag Write a c f (sets_reads h e) = another refl (ap (λ (z : EntryState). z.writes) e)
set_flag Write a c f (sets_writes h e) = it_is refl h (ap (λ (z : EntryState). z.writes) e)
set_flag Write a c f (sets_clear h e) = another refl (ap (λ (z : EntryState). z.writes) e)
set_flag (Fold op) a c f s = another refl refl

-- what is set of an entry is what its task's count need not wait for any more
moves : (t : ℕ) (r : Role) (i : EntryInfo) (a c : EntryState) (f : ℕ) → i.task ≡ r.task → i.strong ≡ r.strong → i.mode ≡ r.mode
    → (r.counts ≡ false → r.strong ≡ true → stands r.mode a ≡ true) → (r.counts ≡ true → r.strong ≡ true) → Sets a c f
    → weight t (Some r) a ≡ weight t (Some r) c + owing t i f
moves t r i a c f task strong mode starts must sets = go (set_flag r.mode a c f sets) (bools r.counts) (bools r.strong)
  where
    owing_is : owing t i f ≡ num ((r.task == t) && (r.strong && needed r.mode f))
    owing_is = rw (task, strong, mode) refl

    nothing : (b : Bool) → num (b && false) ≡ 0
    nothing true = refl
    nothing false = refl

    go : SetFlag r.mode a c f → (r.counts ≡ true) ⊎ (r.counts ≡ false) → (r.strong ≡ true) ⊎ (r.strong ≡ false) → weight t (Some r) a ≡ weight t (Some r) c + owing t i f
    go (it_is n before now) (inl k) (inl d) =
        let x : weight t (Some r) a ≡ num ((r.task == t) && true) = rw (k, before) refl in
        let y : weight t (Some r) c ≡ num ((r.task == t) && false) = rw (k, now) refl in
        let z : owing t i f ≡ num ((r.task == t) && true) = owing_is ∙ rw (d, n) refl in
        let w = nothing (r.task == t) in
        omega (arith, x, y, z, w)
    go (it_is n before now) (inl k) (inr d) = absurd (clash (must k) d)
    go (it_is n before now) (inr k) (inl d) = absurd (clash (starts k d) before)
    go (it_is n before now) (inr k) (inr d) =
        let x : weight t (Some r) a ≡ num ((r.task == t) && false) = rw k refl in
        let y : weight t (Some r) c ≡ num ((r.task == t) && false) = rw k refl in
        let z : owing t i f ≡ num ((r.task == t) && false) = owing_is ∙ rw d refl in
        let w = nothing (r.task == t) in
        omega (arith, x, y, z, w)
    go (another n same) k d =
        let x : weight t (Some r) a ≡ weight t (Some r) c = ap (λ (z : Bool). num ((r.task == t) && (r.counts && not z))) (sym same) in
        let z : owing t i f ≡ 0 = owing_is ∙ off (r.task == t) r.strong n in
        omega (arith, x, z)
      where
        off : (x y : Bool) → needed r.mode f ≡ false → num (x && (y && needed r.mode f)) ≡ 0
        off true true n = ap num n
        off true false n = refl
        off false y n = refl

module _ {S : Type 0} (s : State S) (n : ℕ) (net : Net) (infos : ℕ → EntryInfo) (role : ℕ → Option Role) (states states' : ℕ → EntryState) (opened : ℕ → Bool) (owed count : ℕ → ℕ)
    (roles : AreRoles net infos role) (counts : AreCounts s n net role states opened owed count) where
  -- a flag is set, and its seat owes the count down from then on
  pub set_counts : (e f : ℕ) → e < n → net.place e ≢ apart → (infos e).mode ≡ net.mode e → Sets (states e) (states' e) f → ((j : ℕ) → j ≢ e → states' j ≡ states j)
      → (owed' : ℕ → ℕ) → ((t : ℕ) → owed' t ≡ owed t + owing t (infos e) f) → AreCounts s n net role states' opened owed' count
  set_counts e f inside h mode sets others owed' more =
      let r = roles.hung e h in
      let told = roles.told e r.0 r.1 h in
      let change = λ (t : ℕ). moves t r.0 (infos e) (states e) (states' e) f told.2 told.1 (mode ∙ told.0) (counts.open_start e r.0 r.1 h) (counts.strong e r.0 r.1) sets in
      record {
        sum = λ t q is at.
            let old = counts.sum t q is at in
            let change' : below (λ x. weight t (role x) (states' x)) n + weight t (role e) (states e) ≡ below (λ x. weight t (role x) (states x)) n + weight t (role e) (states' e) =
            below_change (λ x. weight t (role x) (states' x)) (λ x. weight t (role x) (states x)) n e inside (λ j ne. ap (λ (z : EntryState). weight t (role j) z) (others j ne)) in
            let one : weight t (role e) (states e) ≡ weight t (role e) (states' e) + owing t (infos e) f = subst (λ (z : Option Role). weight t z (states e) ≡ weight t z (states' e) + owing t (infos e) f) (sym r.1) (change t) in
            let add = more t in
            omega (arith, old, change', one, add);
        blank = λ t ne low none.
            let old = counts.blank t ne low none in
            let own = roles.number e r.0 r.1 in
            (old.0, more t ∙ quiet t none own told.2 ∙ old.1);
        main = counts.main;
        opened_is = counts.opened_is;
        open_start = λ x q is g off strong. elim (same_number x e) [
          | inl z ↦ still x q z (counts.open_start x q is g off strong)
          | inr ne ↦ subst (λ (c : EntryState). stands q.mode c ≡ true) (sym (others x ne)) (counts.open_start x q is g off strong)
        ];
        strong = counts.strong;
      }
    where
      -- a number that is no task's is not that of an entry
      quiet : (t : ℕ) → ((q : Role) → role t ≡ Some q → q.site ≡ itself → ⊥) → (own : (q : Role) × (role (roles.hung e h).0.task ≡ Some q) × (q.path ≡ (roles.hung e h).0.path) × (q.site ≡ itself)) → (infos e).task ≡ (roles.hung e h).0.task → owed t + owing t (infos e) f ≡ owed t
      quiet t none own task =
          let zero : owing t (infos e) f ≡ 0 = go (eqb_tells (infos e).task t) in
          omega (arith, zero)
        where
          go : ((((infos e).task == t) ≡ true) × ((infos e).task ≡ t)) ⊎ ((((infos e).task == t) ≡ false) × ((infos e).task ≢ t)) → owing t (infos e) f ≡ 0
          go (inl k) = absurd (none own.0 (ap role (sym k.1 ∙ task) ∙ own.1) own.3)
          go (inr k) = rw k.0 refl

      still : (x : ℕ) (q : Role) → x ≡ e → stands q.mode (states x) ≡ true → stands q.mode (states' x) ≡ true
      still x q z k = subst (λ (y : ℕ). stands q.mode (states' y) ≡ true) (sym z) (on_set (set_flag q.mode (states e) (states' e) f sets) (subst (λ (y : ℕ). stands q.mode (states y) ≡ true) z k))
        where
          on_set : SetFlag q.mode (states e) (states' e) f → stands q.mode (states e) ≡ true → stands q.mode (states' e) ≡ true
          on_set (it_is u before now) k = now
          on_set (another u same) k = same ∙ k

  -- a step that changes no flag that is needed
  pub same_counts : ((j : ℕ) → ((states' j).reads ≡ (states j).reads) × ((states' j).writes ≡ (states j).writes)) → AreCounts s n net role states' opened owed count
  same_counts same =
      record {
        sum = λ t q is at. counts.sum t q is at ∙ ap (λ (z : ℕ). num (not (opened t)) + z + owed t) (below_all (λ x. weight t (role x) (states x)) (λ x. weight t (role x) (states' x)) (λ x. keeps t (role x) x) n);
        blank = counts.blank;
        main = counts.main;
        opened_is = counts.opened_is;
        open_start = λ x q is g off strong. stands_same q.mode x ∙ counts.open_start x q is g off strong;
        strong = counts.strong;
      }
    where
      stands_same : (m : Mode) (x : ℕ) → stands m (states' x) ≡ stands m (states x)
      stands_same Read x = (same x).0
      stands_same Write x = (same x).1
      stands_same (Fold op) x = refl

      keeps : (t : ℕ) (r : Option Role) (x : ℕ) → weight t r (states x) ≡ weight t r (states' x)
      keeps t None x = refl
      keeps t (Some r) x = ap (λ (z : Bool). num ((r.task == t) && (r.counts && not z))) (sym (stands_same r.mode x))

      below_all : (f g : ℕ → ℕ) → ((x : ℕ) → f x ≡ g x) → (k : ℕ) → below f k ≡ below g k
      below_all f g e zero = refl
      below_all f g e (suc k) = let a = e k in let b = below_all f g e k in omega (arith, a, b)

-- a count down that was owed
pub down_counts : {S : Type 0} (s : State S) (n : ℕ) (net : Net) (role : ℕ → Option Role) (states : ℕ → EntryState) (opened : ℕ → Bool) (owed owed' count count' : ℕ → ℕ)
    → AreCounts s n net role states opened owed count → (t : ℕ) → 0 < owed t → owed' t + 1 ≡ owed t → count' t + 1 ≡ count t → ((j : ℕ) → j ≢ t → (owed' j ≡ owed j) × (count' j ≡ count j)) → t ≢ 0
    → AreCounts s n net role states opened owed' count'
down_counts s n net role states opened owed owed' count count' counts t due less down others pos =
    record {
      sum = λ j q is at. elim (same_number j t) [
        | inl e ↦ subst (λ (z : ℕ). (q : Role) → role z ≡ Some q → q.site ≡ itself → count' z ≡ num (not (opened z)) + below (λ x. weight z (role x) (states x)) n + owed' z) (sym e) (λ q' is' at'. let old = counts.sum t q' is' at' in omega (arith, old, less, down)) q is at
        | inr ne ↦ let o = others j ne in o.1 ∙ counts.sum j q is at ∙ ap (λ (z : ℕ). num (not (opened j)) + below (λ x. weight j (role x) (states x)) n + z) (sym o.0)
      ];
      blank = λ j ne low none. elim (same_number j t) [
        | inl e ↦ let k = counts.blank j ne low none in let z : owed j ≡ owed t = ap owed e in absurd (let a = k.1 in omega (arith, a, z, due))
        | inr nt ↦ let o = others j nt in let k = counts.blank j ne low none in (o.1 ∙ k.0, o.0 ∙ k.1)
      ];
      main = (others 0 (λ e. pos (sym e))).1 ∙ counts.main;
      opened_is = counts.opened_is;
      open_start = counts.open_start;
      strong = counts.strong;
    }
