-- Both walks number the tasks of a run alike.
use Rattle.std.proofs.Common.{◌≡◌, refl, sym, subst, ap, ◌∙◌, ℕ, zero, suc, Bool, true, false, List, [], ◌∷◌, ◌++◌, length, Option, Some, None}
use Rattle.std.specs.Prelude.{◌&&◌, ◌==◌, not, if◌then◌else◌, is_some, slice_set}
use Rattle.oss_model.specs.Bodies.{Ask, Frame, Program, Start, ask_of}
use Rattle.oss_model.specs.Context.{in_clauses}
use Rattle.oss_model.specs.Rights.{Folds, Reads, Touch, Writes}
use Rattle.oss_model.specs.Sequence.{IsAtEnd, Running}
use Rattle.oss_freed.specs.Freed.{freed}
use Rattle.oss_lent_cells.specs.Lent.{nothing_lent}
use Rattle.oss_lacks.specs.Asking.{Asking, asked_by, asking, behind_ask, created_by, tell_creator}
use Rattle.oss_lacks.specs.Nests.{Nest, Numbered, all_closed_to, closed, closed_to, opened, with_acting}
use Rattle.oss_lacks.specs.Walks.{Walks, at_stop, behind}
use Rattle.oss_missing_waits.specs.Holding.{Holding, hinderer, lent_when, new_task, releases, touched, waits_on, with_lent}
use Rattle.oss_missing_waits.specs.Waits.{IsBehind, IsBehindAsk, IsBehindIf, IsTouched, Mended, Waits, at_stop as held_at_stop, tell_nothing}
use Rattle.oss_missing_waits.proofs.FollowLemmas.{before_path, lent_path, use_path}
use Rattle.oss_missing_laws.specs.Numbers.{AreOneByOne}
use Rattle.oss_missing_laws.proofs.PairLemmas.{Pair, paired}
use Rattle.oss_missing_laws.proofs.PairLemmas.Pair.{pair_on, pair_opens}

-- These are the same open tasks.
abbrev AreOpen : List (Numbered Asking) → List (Numbered Holding) → Type 0
AreOpen [] [] = Unit {0}
AreOpen (k ∷ ks) (h ∷ hs) = ((k.number ≡ h.number) × (k.task.path ≡ h.task.path)) × AreOpen ks hs
AreOpen _ _ = ⊥

-- Both nests know the same tasks.
record AreAlike (n : Nest Asking) (m : Nest Holding) : Type 0 where
  number : n.acting.number ≡ m.acting.number
  path : n.acting.task.path ≡ m.acting.task.path
  above : AreOpen n.above m.above
  ended : AreOneByOne n.ended m.ended

same_length : (ts : List (Option Asking)) (hs : List (Option Holding)) → AreOneByOne ts hs → length ts ≡ length hs
same_length [] [] e = refl
same_length [] (h ∷ hs) e = absurd e
same_length (None ∷ ts) [] e = absurd e
same_length (Some t ∷ ts) [] e = absurd e
same_length (None ∷ ts) (None ∷ hs) e = ap suc (same_length ts hs e)
same_length (None ∷ ts) (Some h ∷ hs) e = absurd e
same_length (Some t ∷ ts) (None ∷ hs) e = absurd e
same_length (Some t ∷ ts) (Some h ∷ hs) e = ap suc (same_length ts hs e.1)

more_alike : (ts : List (Option Asking)) (hs : List (Option Holding)) → AreOneByOne ts hs → AreOneByOne (ts ++ None ∷ []) (hs ++ None ∷ [])
more_alike [] [] e = tt
more_alike [] (h ∷ hs) e = absurd e
more_alike (None ∷ ts) [] e = absurd e
more_alike (Some t ∷ ts) [] e = absurd e
more_alike (None ∷ ts) (None ∷ hs) e = more_alike ts hs e
more_alike (None ∷ ts) (Some h ∷ hs) e = absurd e
more_alike (Some t ∷ ts) (None ∷ hs) e = absurd e
more_alike (Some t ∷ ts) (Some h ∷ hs) e = (e.0, more_alike ts hs e.1)

set_alike : (ts : List (Option Asking)) (hs : List (Option Holding)) (i : ℕ) (t : Asking) (h : Holding) → t.path ≡ h.path → AreOneByOne ts hs → AreOneByOne (slice_set ts i (Some t)) (slice_set hs i (Some h))
set_alike [] [] i t h p e = tt
set_alike [] (x ∷ hs) i t h p e = absurd e
set_alike (None ∷ ts) [] i t h p e = absurd e
set_alike (Some u ∷ ts) [] i t h p e = absurd e
set_alike (None ∷ ts) (None ∷ hs) zero t h p e = (p, e)
set_alike (None ∷ ts) (None ∷ hs) (suc i) t h p e = set_alike ts hs i t h p e
set_alike (None ∷ ts) (Some x ∷ hs) i t h p e = absurd e
set_alike (Some u ∷ ts) (None ∷ hs) i t h p e = absurd e
set_alike (Some u ∷ ts) (Some x ∷ hs) zero t h p e = (p, e.1)
set_alike (Some u ∷ ts) (Some x ∷ hs) (suc i) t h p e = (e.0, set_alike ts hs i t h p e.1)

-- A task has ended, by its number.
ended_alike : (k : Numbered Asking) (l : Numbered Holding) (ts : List (Option Asking)) (hs : List (Option Holding)) → k.number ≡ l.number → k.task.path ≡ l.task.path → AreOneByOne ts hs
    → AreOneByOne (slice_set ts k.number (Some k.task)) (slice_set hs l.number (Some l.task))
ended_alike k l ts hs n p e = subst (λ (i : ℕ). AreOneByOne (slice_set ts k.number (Some k.task)) (slice_set hs i (Some l.task))) n (set_alike ts hs k.number k.task l.task p e)

closed_alike : (k : Numbered Asking) (l : Numbered Holding) (above : List (Numbered Asking)) (over : List (Numbered Holding)) (ts : List (Option Asking)) (hs : List (Option Holding)) → k.number ≡ l.number → k.task.path ≡ l.task.path
    → AreOpen above over → AreOneByOne ts hs → AreAlike (closed_to tell_creator k above ts) (closed_to tell_nothing l over hs)
closed_alike k l [] [] ts hs n p a e = record { number = n; path = p; above = tt; ended = e }
closed_alike k l [] (d ∷ over) ts hs n p a e = absurd a
closed_alike k l (c ∷ above) [] ts hs n p a e = absurd a
closed_alike k l (c ∷ above) (d ∷ over) ts hs n p a e = record { number = a.0.0; path = a.0.1; above = a.1; ended = ended_alike k l ts hs n p e }

-- All that are open have ended.
all_alike : (k : Numbered Asking) (l : Numbered Holding) (above : List (Numbered Asking)) (over : List (Numbered Holding)) (ts : List (Option Asking)) (hs : List (Option Holding)) → k.number ≡ l.number → k.task.path ≡ l.task.path
    → AreOpen above over → AreOneByOne ts hs → AreOneByOne (all_closed_to tell_creator k above ts).ended (all_closed_to tell_nothing l over hs).ended
all_alike k l [] [] ts hs n p a e = e
all_alike k l [] (d ∷ over) ts hs n p a e = absurd a
all_alike k l (c ∷ above) [] ts hs n p a e = absurd a
all_alike k l (c ∷ above) (d ∷ over) ts hs n p a e =
    all_alike (record { number = c.number; task = tell_creator k.task c.task }) (record { number = d.number; task = tell_nothing l.task d.task }) above over (slice_set ts k.number (Some k.task)) (slice_set hs l.number (Some l.task)) a.0.0 a.0.1 a.1
    (ended_alike k l ts hs n p e)

-- Of the acting task something else is known.
acting_alike : (t : Asking) (h : Holding) (n : Nest Asking) (m : Nest Holding) → t.path ≡ n.acting.task.path → h.path ≡ m.acting.task.path → AreAlike n m → AreAlike (with_acting t n) (with_acting h m)
acting_alike t h n m p q a = record { number = a.number; path = p ∙ a.path ∙ sym q; above = a.above; ended = a.ended }

opened_alike : (t : Asking) (h : Holding) (n : Nest Asking) (m : Nest Holding) → t.path ≡ h.path → AreAlike n m → AreAlike (opened t n) (opened h m)
opened_alike t h n m p a = record { number = same_length n.ended m.ended a.ended; path = p; above = ((a.number, a.path), a.above); ended = more_alike n.ended m.ended a.ended }

module _ {S : Type 0} (w : Mended) (f : Frame S) (line : ℕ) where
  turned : (n : Nest Asking) (m m2 : Nest Holding) → m2 ≡ m → AreAlike n m → AreAlike n m2
  turned n m m2 e a = subst (λ (x : Nest Holding). AreAlike n x) (sym e) a

  -- an ask of which the second walk notes nothing
  noted_none : (q : Ask S) (n : Nest Asking) (m m2 : Nest Holding) → m2 ≡ m → AreAlike n m → AreAlike (with_acting (asking (asked_by q) n.acting.task) n) m2
  noted_none q n m m2 e a = turned (with_acting (asking (asked_by q) n.acting.task) n) m m2 e (acting_alike (asking (asked_by q) n.acting.task) m.acting.task n m refl refl a)

  noted_touch : (q : Ask S) (touch : Touch) (c : ℕ) (n : Nest Asking) (m m2 : Nest Holding) → IsTouched touch c line m m2 → AreAlike n m → AreAlike (with_acting (asking (asked_by q) n.acting.task) n) m2
  noted_touch q touch c n m m2 b a =
      let p : (touched touch c line b.used).path ≡ m.acting.task.path = before_path touch c line (hinderer (b.used.has c) touch (b.used.lent c)) b.used ∙ use_path (λ d. c == d) line m.acting.task b.used b.use_is in
      turned (with_acting (asking (asked_by q) n.acting.task) n) (with_acting (touched touch c line b.used) m) m2 b.new_is (acting_alike (asking (asked_by q) n.acting.task) (touched touch c line b.used) n m refl p a)

  asked_alike : (q : Ask S) (n : Nest Asking) (m m2 : Nest Holding) → IsBehindAsk w f q line m m2 → AreAlike n m → AreAlike (behind_ask f q line n) m2
  asked_alike (Ask.Create o) n m m2 b a =
      let lends : Bool = o.when && not f.context.final in
      let t : Holding = lent_when lends f.context.created line (w (length m.ended)) b.used in
      let p : t.path ≡ m.acting.task.path = lent_path lends f.context.created line (w (length m.ended)) b.used ∙ use_path (λ d. is_some (w (length m.ended) d)) line m.acting.task b.used b.use_is in
      let k : AreAlike n (with_acting t m) = record { number = a.number; path = a.path ∙ sym p; above = a.above; ended = a.ended } in
      turned (opened (created_by f o line) n) (opened (new_task (f.context.created ∷ f.path) line (w (length m.ended))) (with_acting t m)) m2 b.new_is
      (opened_alike (created_by f o line) (new_task (f.context.created ∷ f.path) line (w (length m.ended))) n (with_acting t m) refl k)
  asked_alike Ask.End n m m2 b a =
      turned (closed tell_creator n) (closed tell_nothing m) m2 b (closed_alike n.acting m.acting n.above m.above n.ended m.ended a.number a.path a.above a.ended)
  asked_alike Ask.Begin n m m2 b a = noted_none Ask.Begin n m m2 b a
  asked_alike Ask.Tick n m m2 b a = noted_none Ask.Tick n m m2 b a
  asked_alike (Ask.Read c) n m m2 b a = noted_touch (Ask.Read c) Reads c n m m2 b a
  asked_alike (Ask.Write c v) n m m2 b a = noted_touch (Ask.Write c v) Writes c n m m2 b a
  asked_alike (Ask.Fold c op v) n m m2 b a = noted_touch (Ask.Fold c op v) (Folds op) c n m m2 b a
  asked_alike Ask.Await n m m2 b a = noted_none Ask.Await n m m2 b a
  asked_alike Ask.Wait n m m2 b a =
      turned (with_acting (asking (asked_by {S = S} Ask.Wait) n.acting.task) n) (with_acting (with_lent nothing_lent m.acting.task) m) m2 b
      (acting_alike (asking (asked_by {S = S} Ask.Wait) n.acting.task) (with_lent nothing_lent m.acting.task) n m refl refl a)
  asked_alike (Ask.WaitOn named) n m m2 b a =
      turned (with_acting (asking (asked_by {S = S} (Ask.WaitOn named)) n.acting.task) n) (with_acting (waits_on named b.used) m) m2 b.new_is
      (acting_alike (asking (asked_by {S = S} (Ask.WaitOn named)) n.acting.task) (waits_on named b.used) n m refl (use_path (in_clauses named) line m.acting.task b.used b.use_is) a)
  asked_alike (Ask.Release clauses) n m m2 b a =
      turned (with_acting (asking (asked_by {S = S} (Ask.Release clauses)) n.acting.task) n) (with_acting (releases clauses b.used) m) m2 b.new_is
      (acting_alike (asking (asked_by {S = S} (Ask.Release clauses)) n.acting.task) (releases clauses b.used) n m refl (use_path (in_clauses clauses) line m.acting.task b.used b.use_is) a)
  asked_alike (Ask.Print text) n m m2 b a = noted_none (Ask.Print text) n m m2 b a
  asked_alike (Ask.Fails kind) n m m2 b a = noted_none (Ask.Fails kind) n m m2 b a

module _ {S : Type 0} (w : Mended) (P : Program S) (main : Start S) (first : List ℕ) where
  act_alike : (f : Frame S) (n : Nest Asking) (m m2 : Nest Holding) → IsBehind w P f m m2 → AreAlike n m → AreAlike (behind P f n) m2
  act_alike f n m m2 b a = go f.awaits b
    where
      go : (x : Bool) → IsBehindIf x w f (ask_of P f).ask (ask_of P f).line m m2 → AreAlike (if x then n else behind_ask f (ask_of P f).ask (ask_of P f).line n) m2
      go true i = turned w f (ask_of P f).line n m m2 i a
      go false i = asked_alike w f (ask_of P f).line (ask_of P f).ask n m m2 i a

  pair_alike : {z : Running S} {n : Nest Asking} {m : Nest Holding} → Pair w P main first z n m → AreAlike n m
  pair_alike pair_opens = record { number = refl; path = refl; above = tt; ended = tt }
  pair_alike (pair_on {f = f} {n = n} {m = m} {m2 = m2} p a r b) = act_alike f n m m2 b (pair_alike p)

pub walks_number_alike : (S : Type 0) (w : Mended) (P : Program S) (main : Start S) (first : List ℕ) (z y : Running S) (n : Nest Asking) (m : Nest Holding) → Walks P main first z n → IsAtEnd (freed (length first) P) z
    → Waits w P main first y m → IsAtEnd (freed (length first) P) y → AreOneByOne (at_stop n).ended (held_at_stop m).ended
walks_number_alike S w P main first z y n m h stop k last =
    let a = pair_alike w P main first (paired w P main first z y n m h stop k last) in
    all_alike n.acting m.acting n.above m.above n.ended m.ended a.number a.path a.above a.ended
