-- A longest chain of the pass, told of its events.
use Rattle.std.proofs.Common.{◌≡◌, ◌≤◌, ◌⊎◌, inl, inr, refl, sym, subst, ap, ◌∙◌, ℕ, suc, Bool, true, false, List, [], ◌∷◌, length, Option, arith}
use Rattle.std.specs.Prelude.{if◌then◌else◌, nat_le, reverse}
use Rattle.std.proofs.lemmas.Bool.Decides.{nat_tests}
use Rattle.oss_model.specs.Bodies.{Act, Program, Start, stage_act}
use Rattle.oss_model.specs.Machine.{HasAccess, State, Task}
use Rattle.oss_model.specs.Order.{IsIn, here, there, IsSuffix, whole, longer}
use Rattle.oss_model.specs.Sequence.{Running, Sequential, opens, runs_on}
use Rattle.oss_model.proofs.OrderLemmas.{suffix_drop, suffix_length}
use Rattle.oss_chain_laws.specs.Chains.{Best, IsMost, IsTrail, none, more, ticks_in}
use Rattle.oss_chain_laws.specs.Happenings.{Happening, Acting, Giving, Does, HasTicks, IsHappening, IsLeft, last_act, last_cell, WaitsFor, follows, begins, reads, writes, waits, awaits, waits_on, released, ends, ends_below, joins, tick_of}
use Rattle.oss_chain_laws.specs.Runs.{IsEventChain, IsLongest, Ticks, no_ticks, more_ticks, answers_before, ticks_at, ticks_of_act}
use Rattle.oss_chain_laws.proofs.ReverseLemmas.{in_reverse, no_ticks_in, ticks_reverse, twice}
use Rattle.oss_chain_laws.proofs.CountLemmas.{AreCounted, event_of}
use Rattle.oss_chain_laws.proofs.WaitLemmas.{one_before, ended_at, join_ahead, read_ahead, under, write_ahead}

-- the run of ticks is the sequential run
pub ticks_run : {S : Type 0} (P : Program S) (main : Start S) (cells : List ℕ) {z : Running S} {n : ℕ} → Ticks P main cells z n → Sequential P main cells z
ticks_run P main cells no_ticks = opens
ticks_run P main cells (more_ticks t r) = runs_on (ticks_run P main cells t) r

answers_all : (n : ℕ) (xs : List ℕ) → length xs ≤ n → answers_before n xs ≡ xs
answers_all n [] h = refl
answers_all n (v ∷ vs) h = let e : nat_le (length (v ∷ vs)) n ≡ true = grind (arith, nat_tests) in ap (λ (b : Bool). if b then v ∷ vs else answers_before n vs) e

answers_are : {past xs : List ℕ} → IsSuffix past xs → (n : ℕ) → length past ≡ n → answers_before n xs ≡ past
answers_are {past = past} whole n h = answers_all n past (omega (arith, h))
answers_are {past = past} (longer {y = y} {ys = ys} s) n h =
    let l = suffix_length s in
    let e : nat_le (length (y ∷ ys)) n ≡ false = many (length ys) (length past) n l h in
    ap (λ (b : Bool). if b then y ∷ ys else answers_before n ys) e ∙ answers_are s n h
  where
    many : (k m n : ℕ) → m ≤ k → m ≡ n → nat_le (suc k) n ≡ false
    many k m n l h = grind (arith, nat_tests)

-- the ticks of a state are those of its events
pub has_ticks : {S : Type 0} (P : Program S) (s : State S) → HasTicks P s (ticks_at P s)
has_ticks P s = record { acting = λ d. act d; giving = λ p c. refl }
  where
    act : {p : List ℕ} {n k : ℕ} {a : Act _} → Does P s p n k a → ticks_at P s (Acting p n) ≡ tick_of a
    act {n = n} d =
        ap (λ (t : Option (Task _)). ticks_of_act P t n) d.at_ ∙ (ap (λ (past : List ℕ). tick_of (stage_act P d.task.body.start past)) (answers_are (suffix_drop d.done_) n d.number_is) ∙ ap (λ (b : Act _). tick_of b) d.act_is)

module _ {S : Type 0} (P : Program S) (s : State S) where
  -- what is waited for is an event
  given : (c i : ℕ) (p q : List ℕ) → IsSuffix (i ∷ p) q → HasAccess s c q → IsHappening P s (Giving q c)
  given c i p [] b a = let l = suffix_length b in absurd (omega (arith, l))
  given c i p (k ∷ q) b a = a

  left : (i : ℕ) (p q : List ℕ) (f : Happening) → IsSuffix (i ∷ p) q → IsLeft P s q f → IsHappening P s f
  left i p q f b (last_act e) = ended_at P s e
  left i p q f b (last_cell {c = c} a) = given c i p q b a

  happens : (e f : Happening) → WaitsFor P s e f → IsHappening P s f
  happens e f (follows d) = let b = one_before P s d in (b.0, b.1, b.2)
  happens e f (begins d b) = (_, _, d)
  happens e f (reads {q = q} {c = c} d r n) = let a = read_ahead P s c n in given c a.first a.path q a.below_first a.access
  happens e f (writes {q = q} {c = c} d r n) = let a = write_ahead P s c n in given c a.first a.path q a.below_first a.access
  happens e f (waits {p = p} {q = q} {i = i} d l b k) = left i p q f b k
  happens e f (awaits {p = p} {q = q} {i = i} d b k) = left i p q f b k
  happens e f (waits_on {p = p} {q = q} {i = i} {c = c} d l m a b) = let r = under P s c b a in given c i p q r.0 r.1
  happens e f (released a d) = (_, _, d.does)
  happens e f (ends d b) = ended_at P s b
  happens e f (ends_below {p = p} {q = q} {i = i} {j = j} d b k) = left i (j ∷ p) q f b k
  happens e f (joins {q = q} {c = c} {op = op} r n) = let a = join_ahead P s c op n in given c a.first a.path q a.below_first a.access

  -- all of a chain that ends in an event are
  all_happen : (e f : Happening) (es : List Happening) → IsHappening P s f → IsTrail (WaitsFor P s) (f ∷ es) → IsIn e (f ∷ es) → IsHappening P s e
  all_happen e f es h t here = h
  all_happen e f (g ∷ es) h (more w t) (there i) = all_happen e g es (happens f g w) t i
  all_happen e f [] h t (there i) = elim i [ ]

  first_happens : (other : List Happening) (f : Happening) (es : List Happening) → IsEventChain P s other → reverse other ≡ f ∷ es → IsHappening P s f
  first_happens other f es c q = (c.happen f (in_reverse other (subst (λ (xs : List Happening). IsIn f xs) (sym q) here))).happens

  -- what the pass finds is a longest chain, where all acts are counted
  module _ (b : Best Happening) (m : IsMost (WaitsFor P s) (ticks_at P s) (IsHappening P s) b) where
    is_trail : IsTrail (WaitsFor P s) b.chain
    is_trail = go m.reached
      where
        go : ((b.ticks ≡ 0) × (b.chain ≡ [])) ⊎ ((f : Happening) × IsHappening P s f × (es : List Happening) × (b.chain ≡ f ∷ es) × IsTrail (WaitsFor P s) (f ∷ es) × (ticks_in (ticks_at P s) (f ∷ es) ≡ b.ticks)) → IsTrail (WaitsFor P s) b.chain
        go (inl z) = subst (λ (xs : List Happening). IsTrail (WaitsFor P s) xs) (sym z.1) none
        go (inr (f, h, es, c, t, e)) = subst (λ (xs : List Happening). IsTrail (WaitsFor P s) xs) (sym c) t

    each_happens : (e : Happening) → IsIn e b.chain → IsHappening P s e
    each_happens e i = go m.reached
      where
        go : ((b.ticks ≡ 0) × (b.chain ≡ [])) ⊎ ((f : Happening) × IsHappening P s f × (es : List Happening) × (b.chain ≡ f ∷ es) × IsTrail (WaitsFor P s) (f ∷ es) × (ticks_in (ticks_at P s) (f ∷ es) ≡ b.ticks)) → IsHappening P s e
        go (inl z) = let h : IsIn e [] = subst (λ (xs : List Happening). IsIn e xs) z.1 i in elim h [ ]
        go (inr (f, h, es, c, t, q)) = all_happen e f es h t (subst (λ (xs : List Happening). IsIn e xs) c i)

    ticks_are : ticks_in (ticks_at P s) b.chain ≡ b.ticks
    ticks_are = go m.reached
      where
        go : ((b.ticks ≡ 0) × (b.chain ≡ [])) ⊎ ((f : Happening) × IsHappening P s f × (es : List Happening) × (b.chain ≡ f ∷ es) × IsTrail (WaitsFor P s) (f ∷ es) × (ticks_in (ticks_at P s) (f ∷ es) ≡ b.ticks)) → ticks_in (ticks_at P s) b.chain ≡ b.ticks
        go (inl z) = ap (λ (xs : List Happening). ticks_in (ticks_at P s) xs) z.1 ∙ (no_ticks_in (ticks_at P s) ∙ sym z.0)
        go (inr (f, h, es, c, t, e)) = ap (λ (xs : List Happening). ticks_in (ticks_at P s) xs) c ∙ e

    pub span_ticks : ticks_in (ticks_at P s) (reverse b.chain) ≡ b.ticks
    span_ticks = ticks_reverse (ticks_at P s) b.chain ∙ ticks_are

    no_longer : (other : List Happening) → IsEventChain P s other → ticks_in (ticks_at P s) other ≤ b.ticks
    no_longer other c = go (reverse other) refl
      where
        go : (xs : List Happening) → reverse other ≡ xs → ticks_in (ticks_at P s) other ≤ b.ticks
        go [] q = let e : ticks_in (ticks_at P s) other ≡ 0 = sym (ticks_reverse (ticks_at P s) other) ∙ (ap (λ (ys : List Happening). ticks_in (ticks_at P s) ys) q ∙ no_ticks_in (ticks_at P s)) in omega (arith, e)
        go (f ∷ es) q =
            let e : ticks_in (ticks_at P s) other ≡ ticks_in (ticks_at P s) (f ∷ es) = sym (ticks_reverse (ticks_at P s) other) ∙ ap (λ (ys : List Happening). ticks_in (ticks_at P s) ys) q in
            let l = m.most f (first_happens other f es c q) es (subst (λ (ys : List Happening). IsTrail (WaitsFor P s) ys) q c.waits) in
            omega (arith, e, l)

    pub longest : AreCounted s → IsLongest P s (reverse b.chain)
    longest few = record {
      is_chain = record { happen = λ e i. event_of P s few e (each_happens e (in_reverse b.chain i)); waits = subst (λ (xs : List Happening). IsTrail (WaitsFor P s) xs) (sym (twice b.chain)) is_trail };
      most = λ other c. let l = no_longer other c in let e = span_ticks in omega (arith, l, e);
    }
