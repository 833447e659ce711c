-- All accesses of a task are written into the book.
use Rattle.std.proofs.Common.{◌≡◌, ℕ, zero, suc, ◌<◌, ◌≤◌, ◌+◌, ◌-◌, ◌⊎◌, inl, inr, refl, sym, ap, subst, ◌∙◌, List, [], ◌∷◌, Option, Some, None, length, take, arith}
use Rattle.std.specs.Prelude.{slice_get}
use Rattle.std.proofs.Math.ListN.{get_or}
use Rattle.oss_syntax.specs.declared.access.Access.{Access}
use Rattle.oss_model.specs.Order.{IsIn}
use Rattle.oss_deps.specs.declared.opened.Open.{Open}
use Rattle.oss_deps.specs.Opens.{IsRising}
use Rattle.oss_deps.specs.Seen.{Seen}
use Rattle.oss_deps.proofs.Basics.{compared, some_is}
use Rattle.oss_deps.proofs.OpenLemmas.{get_in, in_get}
use Rattle.oss_word_deps.specs.declared.entry.Job.{Job}
use Rattle.oss_word_deps.specs.Booked.{cell_count}
use Rattle.oss_word_deps.specs.Growing.{HasAdded, HasNew, IsFrontOf, IsGrowing, IsOpening, MayAdd, MayExtend, IsCreator}
use Rattle.oss_word_deps.specs.Ledger.{Ledger}
use Rattle.oss_word_deps.proofs.LedgerLemmas.{get_within}
use Rattle.oss_word_deps.proofs.LookupLemmas.{get_is}
use Rattle.oss_word_deps.proofs.WritingLemmas.{begins, front_length, front_refl, growing_later, opening}

-- an access of rising ones begins where those before it end, or behind
rising_rest : (a : Access) (rest : List Access) → IsRising (a ∷ rest) → IsRising rest
rising_rest a [] r = tt
rising_rest a (b ∷ rest) r = r.1

first_ends : (a : Access) (rest : List Access) → IsRising (a ∷ rest) → (j : ℕ) (b : Access) → slice_get rest j ≡ Some b → a.range.hi ≤ b.range.lo
first_ends a [] r j b h = absurd cc
first_ends a (x ∷ rest) r zero b h = let e : x ≡ b = some_is h in let k = ap (λ (z : Access). z.range.lo) e in omega (arith, r.0, k)
first_ends a (x ∷ rest) r (suc j) b h = let k = first_ends x rest r.1 j b h in omega (arith, r.0, x.range.ordered, k)

pub rising_places : (xs : List Access) → IsRising xs → (i j : ℕ) (a b : Access) → i < j → slice_get xs i ≡ Some a → slice_get xs j ≡ Some b → a.range.hi ≤ b.range.lo
rising_places [] r i j a b less g h = absurd cc
rising_places (x ∷ xs) r i zero a b less g h = absurd (omega (arith, less))
rising_places (x ∷ xs) r zero (suc j) a b less g h = let e : x ≡ a = some_is g in subst (λ (z : Access). z.range.hi ≤ b.range.lo) e (first_ends x xs r j b h)
rising_places (x ∷ xs) r (suc i) (suc j) a b less g h = rising_places xs (rising_rest x xs r) i j a b (omega (arith, less)) g h

-- how many cells there are
pub count_next : (xs : List Access) (i : ℕ) (a : Access) → slice_get xs i ≡ Some a → cell_count (take (i + 1) xs) ≡ cell_count (take i xs) + (a.range.hi - a.range.lo)
count_next [] i a h = absurd cc
count_next (x ∷ xs) zero a h = let e : x ≡ a = some_is h in let k = ap (λ (z : Access). z.range.hi - z.range.lo) e in omega (arith, k)
count_next (x ∷ xs) (suc i) a h = let k = count_next xs i a h in let e : suc i + 1 ≡ suc (i + 1) = omega arith in rw e (omega (arith, k))

pub count_within : (xs : List Access) (i : ℕ) (a : Access) → slice_get xs i ≡ Some a → cell_count (take i xs) + (a.range.hi - a.range.lo) ≤ cell_count xs
count_within [] i a h = absurd cc
count_within (x ∷ xs) zero a h = let e : x ≡ a = some_is h in let k = ap (λ (z : Access). z.range.hi - z.range.lo) e in omega (arith, k)
count_within (x ∷ xs) (suc i) a h = let k = count_within xs i a h in omega (arith, k)

pub count_all : (xs : List Access) (i : ℕ) → length xs ≤ i → cell_count (take i xs) ≡ cell_count xs
count_all [] zero h = refl
count_all [] (suc i) h = refl
count_all (x ∷ xs) zero h = absurd (omega (arith, h))
count_all (x ∷ xs) (suc i) h = ap (λ (n : ℕ). (x.range.hi - x.range.lo) + n) (count_all xs i (omega (arith, h)))

-- the first i accesses are written
pub record IsWriting (s : Seen) (o : Open) (depth first i : ℕ) (accesses : List Access) (l n : Ledger) : Type 0 where
  pub upto : ℕ
  pub growing : IsGrowing s o depth first upto n
  pub behind : (j : ℕ) (a : Access) → i ≤ j → slice_get accesses j ≡ Some a → upto ≤ a.range.lo
  pub front : IsFrontOf l n
  pub jobs : n.jobs ≡ l.jobs
  pub written : (j : ℕ) (a : Access) (c : ℕ) → j < i → slice_get accesses j ≡ Some a → a.range.lo ≤ c → c < a.range.hi → HasNew n.entries first c

pub writing_begins : (s : Seen) (o : Open) (creator : Option Job) (accesses : List Access) (l : Ledger) (may : MayExtend s o creator l) (depth : ℕ) (top : creator ≡ None → depth ≡ 1) (deep : (job : Job) → creator ≡ Some job → depth ≡ 1 + job.depth)
    → IsWriting s o depth (length l.entries + 1) 0 accesses l l
writing_begins s o creator accesses l may depth top deep = record {
  upto = 0;
  growing = begins s o creator l may depth top deep;
  behind = λ j a h k. omega arith;
  front = front_refl l;
  jobs = refl;
  written = λ j a c h k f g. absurd (omega (arith, h));
}

-- the next access may be
pub writing_may : (s : Seen) (o : Open) (depth first i : ℕ) (creator : Option Job) (accesses : List Access) (l n : Ledger) (a : Access) → IsOpening s o depth first creator l.jobs → o.accesses ≡ accesses → IsWriting s o depth first i accesses l n
    → slice_get accesses i ≡ Some a → first < 16777216 → MayAdd s o depth first a.range.lo creator a a.range.lo n
writing_may s o depth first i creator accesses l n a opening same w is few = record {
  opening = record {
    opens_are = opening.opens_are;
    can = opening.can;
    given_by = opening.given_by;
    shallow = opening.shallow;
    creator_is = subst (λ (jobs : List Job). IsCreator jobs creator o.parent depth) (sym w.jobs) opening.creator_is;
  };
  growing = growing_later s o depth first w.upto a.range.lo n (w.behind i a (omega arith) is) w.growing;
  few = few;
  listed = subst (λ (xs : List Access). IsIn a xs) (sym same) (get_in accesses i a is);
  from = omega arith;
  before = a.range.ordered;
  behind = omega arith;
}

pub writing_next : (s : Seen) (o : Open) (depth first i : ℕ) (accesses : List Access) (l n m : Ledger) (a : Access) → IsRising accesses → IsWriting s o depth first i accesses l n → slice_get accesses i ≡ Some a
    → IsGrowing s o depth first a.range.hi m × HasAdded first a a.range.hi n m → IsWriting s o depth first (i + 1) accesses l m
writing_next s o depth first i accesses l n m a rising w is so = record {
  upto = a.range.hi;
  growing = so.0;
  behind = λ j b h k. rising_places accesses rising i j a b (omega (arith, h)) is k;
  front = record {
    entries = λ v e h. so.1.front.entries v e (w.front.entries v e h);
    back = λ v e h k. w.front.back v e h (so.1.front.back v e (let f = front_length l n w.front in omega (arith, f, h)) k);
    given = λ v. so.1.front.given v ∙ w.front.given v;
  };
  jobs = so.1.jobs ∙ w.jobs;
  written = λ j b c h k f g. go j b c k f g (compared j i) h;
}
  where
    go : (j : ℕ) (b : Access) (c : ℕ) → slice_get accesses j ≡ Some b → b.range.lo ≤ c → c < b.range.hi → (j < i) ⊎ ((j ≡ i) ⊎ (i < j)) → j < i + 1 → HasNew m.entries first c
    go j b c k f g (inl h) _ = so.1.kept c (w.written j b c h k f g)
    go j b c k f g (inr (inl h)) _ =
        let e : a ≡ b = some_is (sym is ∙ (ap (slice_get accesses) (sym h) ∙ k)) in
        so.1.added c (subst (λ (x : Access). x.range.lo ≤ c) (sym e) f) (subst (λ (x : Access). c < x.range.hi) (sym e) g)
    go j b c k f g (inr (inr h)) l = absurd (omega (arith, h, l))

-- all of them
pub all_written : (s : Seen) (o : Open) (depth first i : ℕ) (accesses : List Access) (l n : Ledger) → o.accesses ≡ accesses → IsWriting s o depth first i accesses l n → length accesses ≤ i
    → (a : Access) (c : ℕ) → IsIn a o.accesses → a.range.lo ≤ c → c < a.range.hi → HasNew n.entries first c
all_written s o depth first i accesses l n same w end a c listed from before =
    let k = in_get accesses (subst (λ (xs : List Access). IsIn a xs) same listed) in
    w.written k.0 a c (let h = get_within accesses k.0 a k.1 in omega (arith, h, end)) k.1 from before

-- the item of a list that is gone through
pub item_is : {A : Type 0} (xs : List A) (i : ℕ) (item : A) → i < length xs → item ≡ get_or xs i item → slice_get xs i ≡ Some item
item_is {A = A} xs i item less is = get_is xs i item less ∙ ap (λ (a : A). Some a) (sym is)

module _ (s : Seen) (o : Open) (creator : Option Job) (accesses : List Access) (l : Ledger) (may : MayExtend s o creator l) (same : o.accesses ≡ accesses) (depth first : ℕ) (top : creator ≡ None → depth ≡ 1)
    (deep : (job : Job) → creator ≡ Some job → depth ≡ 1 + job.depth) (first_is : length l.entries + 1 ≡ first) where
  pub written_none : IsWriting s o depth first 0 accesses l l
  written_none = subst (λ (f : ℕ). IsWriting s o depth f 0 accesses l l) first_is (writing_begins s o creator accesses l may depth top deep)

  pub may_write : (n : Ledger) (i : ℕ) (a : Access) → IsWriting s o depth first i accesses l n → slice_get accesses i ≡ Some a → length n.entries + (a.range.hi - a.range.lo) < 16777216 → MayAdd s o depth first a.range.lo creator a a.range.lo n
  may_write n i a w is less = writing_may s o depth first i creator accesses l n a (subst (λ (f : ℕ). IsOpening s o depth f creator l.jobs) first_is (opening s o creator l may depth top deep)) same w is (let f = w.growing.from.1 in omega (arith, f, less, a.range.ordered))
