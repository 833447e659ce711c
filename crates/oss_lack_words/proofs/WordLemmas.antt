-- Words, each once.
use Rattle.std.proofs.Common.{◌≡◌, ℕ, zero, suc, ◌+◌, ◌-◌, ◌<◌, ◌≤◌, refl, sym, ap, ◌∙◌, List, [], ◌∷◌, ◌++◌, arith, Bool, true, false, if◌then◌else◌}
use Rattle.std.specs.Prelude.{◌||◌}
use Rattle.std.proofs.lemmas.List.{append-nil}
use Rattle.oss_syntax.specs.declared.access.Access.{Access}
use Rattle.oss_model.specs.Rights.{any_from}
use Rattle.oss_explanation.specs.declared.explained.Word.{Word}
use Rattle.oss_explanation.specs.Held.{clause_word, is_listed, once, word_eq}
use Rattle.oss_lack_words.specs.Told.{words_for}

or_swap : (a b c : Bool) → (a || (b || c)) ≡ (b || (a || c))
or_swap true true c = refl
or_swap true false c = refl
or_swap false b c = refl

listed_last : (xs : List Word) (w v : Word) → is_listed (xs ++ w ∷ []) v ≡ is_listed (w ∷ xs) v
listed_last [] w v = refl
listed_last (x ∷ xs) w v = ap (λ (t : Bool). word_eq x v || t) (listed_last xs w v) ∙ or_swap (word_eq x v) (word_eq w v) (is_listed xs v)

-- which words are known is all that counts
once_same : (ws : List Word) (xs ys : List Word) → ((v : Word) → is_listed xs v ≡ is_listed ys v) → once xs ws ≡ once ys ws
once_same [] xs ys h = refl
once_same (w ∷ rest) xs ys h =
    ap (λ (t : Bool). if t then once xs rest else w ∷ once (w ∷ xs) rest) (h w)
    ∙ go (is_listed ys w) (once_same rest xs ys h) (once_same rest (w ∷ xs) (w ∷ ys) (λ v. ap (λ (t : Bool). word_eq w v || t) (h v)))
  where
    go : (t : Bool) → once xs rest ≡ once ys rest → once (w ∷ xs) rest ≡ once (w ∷ ys) rest → (if t then once xs rest else w ∷ once (w ∷ xs) rest) ≡ (if t then once ys rest else w ∷ once (w ∷ ys) rest)
    go true p q = p
    go false p q = ap (λ (vs : List Word). w ∷ vs) q

last_first : (xs ys : List Word) (w : Word) → (xs ++ w ∷ []) ++ ys ≡ xs ++ w ∷ ys
last_first [] ys w = refl
last_first (x ∷ xs) ys w = ap (λ (vs : List Word). x ∷ vs) (last_first xs ys w)

once_known : (xs rest : List Word) (w : Word) → is_listed xs w ≡ true → once xs (w ∷ rest) ≡ once xs rest
once_known xs rest w h = ap (λ (t : Bool). if t then once xs rest else w ∷ once (w ∷ xs) rest) h

once_new : (xs rest : List Word) (w : Word) → is_listed xs w ≡ false → (xs ++ w ∷ []) ++ once (xs ++ w ∷ []) rest ≡ xs ++ once xs (w ∷ rest)
once_new xs rest w h =
    last_first xs (once (xs ++ w ∷ []) rest) w ∙ ap (λ (vs : List Word). xs ++ w ∷ vs) (once_same rest (xs ++ w ∷ []) (w ∷ xs) (listed_last xs w))
    ∙ ap (λ (vs : List Word). xs ++ vs) (sym (ap (λ (t : Bool). if t then once xs rest else w ∷ once (w ∷ xs) rest) h))

-- one word more, if its clause names a cell
words_next : (xs now rest : List Word) (w : Word) (named : Bool) → now ≡ xs ++ once xs (if named then w ∷ [] else []) → now ++ once now rest ≡ xs ++ once xs (if named then w ∷ rest else rest)
words_next xs now rest w false e = ap (λ (vs : List Word). vs ++ once vs rest) (e ∙ append-nil xs)
words_next xs now rest w true e = go (is_listed xs w) refl e
  where
    go : (t : Bool) → is_listed xs w ≡ t → now ≡ xs ++ (if t then [] else w ∷ []) → now ++ once now rest ≡ xs ++ once xs (w ∷ rest)
    go true l k = ap (λ (vs : List Word). vs ++ once vs rest) (k ∙ append-nil xs) ∙ ap (λ (vs : List Word). xs ++ vs) (sym (once_known xs rest w l))
    go false l k = ap (λ (vs : List Word). vs ++ once vs rest) k ∙ once_new xs rest w l

-- the words of one clause more
pub clause_next : (test : ℕ → Bool) (final : Bool) (a : Access) (rest : List Access) (xs now : List Word) → now ≡ xs ++ once xs (words_for test final (a ∷ [])) → now ++ once now (words_for test final rest) ≡ xs ++ once xs (words_for test final (a ∷ rest))
clause_next test final a rest xs now e = words_next xs now (words_for test final rest) (clause_word final a) (any_from test a.range.lo (a.range.hi - a.range.lo)) e

-- A test of the cells of a range, run by run.

any_step : (test : ℕ → Bool) (i hi : ℕ) → i < hi → any_from test i (hi - i) ≡ (test i || any_from test (i + 1) (hi - (i + 1)))
any_step test i hi l = ap (any_from test i) (let e : hi - i ≡ suc (hi - (i + 1)) = omega arith in e)

fails_on : (test : ℕ → Bool) (n i hi : ℕ) → i + n ≤ hi → ((c : ℕ) → i ≤ c → c < i + n → test c ≡ false)
    → any_from test (i + n) (hi - (i + n)) ≡ any_from test i (hi - i)
fails_on test zero i hi l fails = ap (λ k. any_from test k (hi - k)) (omega arith)
fails_on test (suc n) i hi l fails =
    ap (λ k. any_from test k (hi - k)) (let e : i + suc n ≡ (i + 1) + n = omega arith in e)
    ∙ fails_on test n (i + 1) hi (omega arith) (λ c low high. fails c (omega arith) (omega arith))
    ∙ sym (any_step test i hi (omega arith) ∙ ap (λ b. b || any_from test (i + 1) (hi - (i + 1))) (fails i (omega arith) (omega arith)))

-- each cell of a run fails
pub run_fails : (test : ℕ → Bool) (i to hi : ℕ) → i < to → to ≤ hi → ((c : ℕ) → i ≤ c → c < to → test c ≡ false)
    → any_from test to (hi - to) ≡ any_from test i (hi - i)
run_fails test i to hi low high fails =
    let same : i + (to - i) ≡ to = omega arith in
    sym (ap (λ k. any_from test k (hi - k)) same) ∙ fails_on test (to - i) i hi (omega arith) (λ c l k. fails c l (omega arith))

-- a run's first cell passes
pub run_passes : (test : ℕ → Bool) (i hi : ℕ) → i < hi → test i ≡ true → any_from test i (hi - i) ≡ true
run_passes test i hi l h = any_step test i hi l ∙ ap (λ b. b || any_from test (i + 1) (hi - (i + 1))) h
