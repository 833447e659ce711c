-- Entries and labels in lists: which stand beside each other, and in which bounds they are.
use Rattle.std.proofs.Common.{◌≡◌, ◌⊎◌, inl, inr, ℕ, zero, suc, ◌+◌, ◌<◌, ◌≤◌, List, [], ◌∷◌, ◌++◌, length, Option, refl, arith, length-append}
use Rattle.std.specs.Prelude.{slice_index_or}
use Rattle.oss_syntax.specs.declared.tree.pragma.Clause.{Clause}
use Rattle.oss_labels.specs.Labels.{StmtLabels, both_labels, loop_labels, no_labels, task_labels}

-- a label, or none
abbrev pub Label : Type 0
Label = Option (List ℕ)

-- The entry and the label have one place in their lists.
abbrev pub Paired : List ℕ → List Label → ℕ → Label → Type 0
Paired [] ls e l = ⊥
Paired (f ∷ es) [] e l = ⊥
Paired (f ∷ es) (k ∷ ls) e l = ((f ≡ e) × (k ≡ l)) ⊎ Paired es ls e l

pub paired_left : (es fs : List ℕ) (ls ks : List Label) (e : ℕ) (l : Label) → Paired es ls e l → Paired (es ++ fs) (ls ++ ks) e l
paired_left [] fs ls ks e l h = absurd h
paired_left (x ∷ es) fs [] ks e l h = absurd h
paired_left (x ∷ es) fs (y ∷ ls) ks e l (inl here) = inl here
paired_left (x ∷ es) fs (y ∷ ls) ks e l (inr more) = inr (paired_left es fs ls ks e l more)

pub paired_right : (es fs : List ℕ) (ls ks : List Label) (e : ℕ) (l : Label) → length es ≡ length ls → Paired fs ks e l → Paired (es ++ fs) (ls ++ ks) e l
paired_right [] fs [] ks e l long h = h
paired_right [] fs (y ∷ ls) ks e l long h = absurd (omega (arith, long))
paired_right (x ∷ es) fs [] ks e l long h = absurd (omega (arith, long))
paired_right (x ∷ es) fs (y ∷ ls) ks e l long h = inr (paired_right es fs ls ks e l (omega (arith, long)) h)

later : {A B C : Type 0} → (B ⊎ C) → (A ⊎ B) ⊎ C
later (inl b) = inl (inr b)
later (inr c) = inr c

pub paired_split : (es fs : List ℕ) (ls ks : List Label) (e : ℕ) (l : Label) → length es ≡ length ls → Paired (es ++ fs) (ls ++ ks) e l → Paired es ls e l ⊎ Paired fs ks e l
paired_split [] fs [] ks e l long h = inr h
paired_split [] fs (y ∷ ls) ks e l long h = absurd (omega (arith, long))
paired_split (x ∷ es) fs [] ks e l long h = absurd (omega (arith, long))
paired_split (x ∷ es) fs (y ∷ ls) ks e l long (inl here) = inl (inl here)
paired_split (x ∷ es) fs (y ∷ ls) ks e l long (inr more) = later (paired_split es fs ls ks e l (omega (arith, long)) more)

-- Bounds

-- the entries rise, from one place on and below another
abbrev pub Rising : ℕ → ℕ → List ℕ → Type 0
Rising from to [] = Unit {0}
Rising from to (x ∷ xs) = (from ≤ x) × (x < to) × Rising (x + 1) to xs

pub rising_within : (from to least most : ℕ) (xs : List ℕ) → least ≤ from → to ≤ most → Rising from to xs → Rising least most xs
rising_within from to least most [] le few h = tt
rising_within from to least most (x ∷ xs) le few h = (omega (arith, le, h.0), omega (arith, few, h.1), rising_within (x + 1) to (x + 1) most xs (omega arith) few h.2)

pub rising_both : (from mid next to : ℕ) (xs ys : List ℕ) → from ≤ next → mid ≤ next → mid ≤ to → Rising from mid xs → Rising next to ys → Rising from to (xs ++ ys)
rising_both from mid next to [] ys le less few h k = rising_within next to from to ys le (omega arith) k
rising_both from mid next to (x ∷ xs) ys le less few h k = (h.0, omega (arith, few, h.1), rising_both (x + 1) mid next to xs ys (omega (arith, h.1, less)) less few h.2 k)

-- none of the entries is this one
abbrev pub NotIn : ℕ → List ℕ → Type 0
NotIn x [] = Unit {0}
NotIn x (y ∷ ys) = (x ≡ y → ⊥) × NotIn x ys

-- the entries are different, from one place on and below another
abbrev pub Apart : ℕ → ℕ → List ℕ → Type 0
Apart from to [] = Unit {0}
Apart from to (x ∷ xs) = (from ≤ x) × (x < to) × NotIn x xs × Apart from to xs

pub apart_within : (from to least most : ℕ) (xs : List ℕ) → least ≤ from → to ≤ most → Apart from to xs → Apart least most xs
apart_within from to least most [] le few h = tt
apart_within from to least most (x ∷ xs) le few h = (omega (arith, le, h.0), omega (arith, few, h.1), h.2, apart_within from to least most xs le few h.3)

pub not_in_both : (x : ℕ) (xs ys : List ℕ) → NotIn x xs → NotIn x ys → NotIn x (xs ++ ys)
not_in_both x [] ys h k = k
not_in_both x (y ∷ xs) ys h k = (h.0, not_in_both x xs ys h.1 k)

-- one below all, and one above all
pub not_below : (x from to : ℕ) (xs : List ℕ) → x < from → Apart from to xs → NotIn x xs
not_below x from to [] less h = tt
not_below x from to (y ∷ xs) less h = (λ e. omega (arith, less, h.0, e), not_below x from to xs less h.3)

pub not_above : (x from to : ℕ) (xs : List ℕ) → to ≤ x → Apart from to xs → NotIn x xs
not_above x from to [] le h = tt
not_above x from to (y ∷ xs) le h = (λ e. omega (arith, le, h.1, e), not_above x from to xs le h.3)

pub apart_both : (from mid next to : ℕ) (xs ys : List ℕ) → from ≤ next → mid ≤ next → mid ≤ to → Apart from mid xs → Apart next to ys → Apart from to (xs ++ ys)
apart_both from mid next to [] ys le less few h k = apart_within next to from to ys le (omega arith) k
apart_both from mid next to (x ∷ xs) ys le less few h k =
    (h.0, omega (arith, few, h.1), not_in_both x xs ys h.2 (not_below x next to ys (omega (arith, less, h.1)) k), apart_both from mid next to xs ys le less few h.3 k)

-- the same, the greater ones first
pub apart_turned : (from mid next to : ℕ) (xs ys : List ℕ) → from ≤ next → mid ≤ next → mid ≤ to → Apart from mid xs → Apart next to ys → Apart from to (ys ++ xs)
apart_turned from mid next to xs [] le less few h k = apart_within from mid from to xs (omega arith) few h
apart_turned from mid next to xs (y ∷ ys) le less few h k =
    (omega (arith, le, k.0), k.1, not_in_both y ys xs k.2 (not_above y from mid xs (omega (arith, less, k.0)) h), apart_turned from mid next to xs ys le less few h k.3)

-- what is not in a list stands at no place of it
pub not_at : (x d : ℕ) (xs : List ℕ) (k : ℕ) → NotIn x xs → k < length xs → slice_index_or xs k d ≡ x → ⊥
not_at x d [] k h less e = omega (arith, less)
not_at x d (y ∷ xs) zero h less e = h.0 (omega (arith, e))
not_at x d (y ∷ xs) (suc k) h less e = not_at x d xs k h.1 (omega (arith, less)) e

-- so different entries stand at one place each
pub apart_one : (from to d e : ℕ) (xs : List ℕ) (j k : ℕ) → Apart from to xs → j < length xs → k < length xs → slice_index_or xs j d ≡ slice_index_or xs k e → j ≡ k
apart_one from to d e [] j k h less few same = absurd (omega (arith, less))
apart_one from to d e (x ∷ xs) zero zero h less few same = refl
apart_one from to d e (x ∷ xs) zero (suc k) h less few same = absurd (not_at x e xs k h.2 (omega (arith, few)) (omega (arith, same)))
apart_one from to d e (x ∷ xs) (suc j) zero h less few same = absurd (not_at x d xs j h.2 (omega (arith, less)) (omega (arith, same)))
apart_one from to d e (x ∷ xs) (suc j) (suc k) h less few same = omega (arith, apart_one from to d e xs j k h.3 (omega (arith, less)) (omega (arith, few)) same)

pub apart_bounds : (from to d : ℕ) (xs : List ℕ) (k : ℕ) → Apart from to xs → k < length xs → (from ≤ slice_index_or xs k d) × (slice_index_or xs k d < to)
apart_bounds from to d [] k h less = absurd (omega (arith, less))
apart_bounds from to d (x ∷ xs) zero h less = (h.0, h.1)
apart_bounds from to d (x ∷ xs) (suc k) h less = apart_bounds from to d xs k h.3 (omega (arith, less))

-- Entries in the order of the code and in that of the text

-- The entries of creations as they stand in a code, and the same entries in the order of the text, each with the label of its task; they are within these bounds.
pub record Agrees (from to : ℕ) (ms es : List ℕ) (ls : StmtLabels) : Type 0 where
  pub coded : length ms ≡ length ls.in_code
  pub numbered : length es ≡ length ls.in_text
  pub forth : (e : ℕ) (l : Label) → Paired ms ls.in_code e l → Paired es ls.in_text e l
  pub back : (e : ℕ) (l : Label) → Paired es ls.in_text e l → Paired ms ls.in_code e l
  pub rising : Rising from to ms
  pub apart : Apart from to es

pub agrees_none : (from to : ℕ) → Agrees from to [] [] no_labels
agrees_none from to = record { coded = refl; numbered = refl; forth = λ e l h. h; back = λ e l h. h; rising = tt; apart = tt }

pub agrees_within : {from to : ℕ} {ms es : List ℕ} {ls : StmtLabels} (least most : ℕ) → least ≤ from → to ≤ most → Agrees from to ms es ls → Agrees least most ms es ls
agrees_within {from = from} {to = to} {ms = ms} {es = es} least most le few h = record {
  coded = h.coded;
  numbered = h.numbered;
  forth = h.forth;
  back = h.back;
  rising = rising_within from to least most ms le few h.rising;
  apart = apart_within from to least most es le few h.apart;
}

abbrev either : {A B C : Type 0} → (A → C) → (B → C) → A ⊎ B → C
either f g (inl a) = f a
either f g (inr b) = g b

pub agrees_both : {from mid next to : ℕ} {ms ns es fs : List ℕ} {ls ks : StmtLabels} → from ≤ next → mid ≤ next → mid ≤ to
    → Agrees from mid ms es ls → Agrees next to ns fs ks → Agrees from to (ms ++ ns) (es ++ fs) (both_labels ls ks)
agrees_both {from = from} {mid = mid} {next = next} {to = to} {ms = ms} {ns = ns} {es = es} {fs = fs} {ls = ls} {ks = ks} le less few h k = record {
  coded = omega (arith, h.coded, k.coded, length-append ms ns, length-append ls.in_code ks.in_code);
  numbered = omega (arith, h.numbered, k.numbered, length-append es fs, length-append ls.in_text ks.in_text);
  forth = λ e l p.
      either (λ q. paired_left es fs ls.in_text ks.in_text e l (h.forth e l q)) (λ q. paired_right es fs ls.in_text ks.in_text e l h.numbered (k.forth e l q))
      (paired_split ms ns ls.in_code ks.in_code e l h.coded p);
  back = λ e l p.
      either (λ q. paired_left ms ns ls.in_code ks.in_code e l (h.back e l q)) (λ q. paired_right ms ns ls.in_code ks.in_code e l h.coded (k.back e l q))
      (paired_split es fs ls.in_text ks.in_text e l h.numbered p);
  rising = rising_both from mid next to ms ns le less few h.rising k.rising;
  apart = apart_both from mid next to es fs le less few h.apart k.apart;
}

-- the body of a loop, and its last part, which stands behind it in the code
pub agrees_loop : {from mid next to : ℕ} {ms ns es fs : List ℕ} {ls ks : StmtLabels} → from ≤ next → mid ≤ next → mid ≤ to
    → Agrees from mid ms es ls → Agrees next to ns fs ks → Agrees from to (ms ++ ns) (fs ++ es) (loop_labels ks ls)
agrees_loop {from = from} {mid = mid} {next = next} {to = to} {ms = ms} {ns = ns} {es = es} {fs = fs} {ls = ls} {ks = ks} le less few h k = record {
  coded = omega (arith, h.coded, k.coded, length-append ms ns, length-append ls.in_code ks.in_code);
  numbered = omega (arith, h.numbered, k.numbered, length-append fs es, length-append ks.in_text ls.in_text);
  forth = λ e l p.
      either (λ q. paired_right fs es ks.in_text ls.in_text e l k.numbered (h.forth e l q)) (λ q. paired_left fs es ks.in_text ls.in_text e l (k.forth e l q))
      (paired_split ms ns ls.in_code ks.in_code e l h.coded p);
  back = λ e l p.
      either (λ q. paired_right ms ns ls.in_code ks.in_code e l h.coded (k.back e l q)) (λ q. paired_left ms ns ls.in_code ks.in_code e l (h.back e l q))
      (paired_split fs es ks.in_text ls.in_text e l k.numbered p);
  rising = rising_both from mid next to ms ns le less few h.rising k.rising;
  apart = apart_turned from mid next to es fs le less few h.apart k.apart;
}

-- a task, and those in its body
pub agrees_task : {next to : ℕ} {ms es : List ℕ} {ls : StmtLabels} (from entry : ℕ) (clauses : List Clause) → from ≤ entry → entry < to → next ≡ entry + 1
    → Agrees next to ms es ls → Agrees from to (entry ∷ ms) (entry ∷ es) (task_labels clauses ls)
agrees_task {next = next} {to = to} {ms = ms} {es = es} {ls = ls} from entry clauses le few n h = record {
  coded = omega (arith, h.coded);
  numbered = omega (arith, h.numbered);
  forth = λ e l p. either (λ q. inl q) (λ q. inr (h.forth e l q)) p;
  back = λ e l p. either (λ q. inl q) (λ q. inr (h.back e l q)) p;
  rising = (le, few, rising_within next to (entry + 1) to ms (omega (arith, n)) (omega arith) h.rising);
  apart = (le, few, not_below entry next to es (omega (arith, n)) h.apart, apart_within next to from to es (omega (arith, n, le)) (omega arith) h.apart);
}
