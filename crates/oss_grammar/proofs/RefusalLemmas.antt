-- Tokens have one answer at most: how far they begin a text is one place, and so is the first token that passes a limit.
use Rattle.std.proofs.Common.{arith, sym, ap, subst, ◌∙◌, ◌≡◌, ◌≤◌, refl, ℕ, ◌+◌, ◌-◌, List, [], ◌∷◌, ◌++◌, length, append_assoc, Ok, Err}
use Rattle.std.specs.Prelude.{take, drop}
use Rattle.std.proofs.lemmas.List.{length-drop}
use Rattle.oss_syntax.specs.declared.token.Token.{Token}
use Rattle.oss_syntax.specs.declared.refusal.Refused.{Refused as RefusedData}
use Rattle.oss_syntax.specs.declared.refusal.Refusal.TheVariants.{Refused}
use Rattle.oss_syntax.specs.declared.refusal.RefusedKind.{RefusedKind}
use Rattle.oss_grammar.specs.Refusals.{Language, Reaches, IsExcess, IsWithin, IsRead, Refuses, IsAnswer, HasOneValue, IsAnsweredOnce, kind_of, is_in_pragma}
use Rattle.oss_grammar.specs.Fronts.{Viable}
use Rattle.oss_grammar.specs.Refusals.Refuses.{too_large, at_token, at_end}

pub first_is : (x y : Token) (xs ys : List Token) → x ∷ xs ≡ y ∷ ys → x ≡ y
first_is x y xs ys e = cc

rest_is : (x y : Token) (xs ys : List Token) → x ∷ xs ≡ y ∷ ys → xs ≡ ys
rest_is x y xs ys e = cc

-- two ways to cut one list
data Cuts (f r g s : List Token) : Type 0 where
  same : f ≡ g → r ≡ s → Cuts f r g s
  before : (t : Token) (m : List Token) → g ≡ f ++ (t ∷ m) → r ≡ t ∷ (m ++ s) → Cuts f r g s
  behind : (t : Token) (m : List Token) → f ≡ g ++ (t ∷ m) → s ≡ t ∷ (m ++ r) → Cuts f r g s

longer : (x y : Token) (f r g s : List Token) → x ≡ y → Cuts f r g s → Cuts (x ∷ f) r (y ∷ g) s
longer x y f r g s e (same p q) = same (cc) q
longer x y f r g s e (before t m p q) = before t m (cc) q
longer x y f r g s e (behind t m p q) = behind t m (cc) q

cuts : (f r g s : List Token) → f ++ r ≡ g ++ s → Cuts f r g s
cuts [] r [] s e = same refl e
cuts [] r (x ∷ g) s e = before x g refl e
cuts (x ∷ f) r [] s e = behind x f refl (sym e)
cuts (x ∷ f) r (y ∷ g) s e = longer x y f r g s (first_is x y (f ++ r) (g ++ s) e) (cuts f r g s (rest_is x y (f ++ r) (g ++ s) e))

-- a front of a viable front is viable
viable_cut : {A : Type 0} (G : List Token → A → Type 0) (f m : List Token) → Viable G (f ++ m) → Viable G f
viable_cut G f m v = record { more = m ++ v.more; value = v.value; member = subst (λ xs. G xs v.value) (append_assoc f m v.more) v.member }

viable_first : {A : Type 0} (G : List Token → A → Type 0) (f : List Token) (t : Token) (m : List Token) → Viable G (f ++ (t ∷ m)) → Viable G (f ++ (t ∷ []))
viable_first G f t m v = viable_cut G (f ++ (t ∷ [])) m (subst (λ xs. Viable G xs) (sym (append_assoc f (t ∷ []) m)) v)

pub reaches_once : {A : Type 0} (G : List Token → A → Type 0) (ts f r g s : List Token) → Reaches G ts f r → Reaches G ts g s → (f ≡ g) × (r ≡ s)
reaches_once G ts f r g s a b = from_cuts (cuts f r g s (sym a.split ∙ b.split)) where
  from_cuts : Cuts f r g s → (f ≡ g) × (r ≡ s)
  from_cuts (same p q) = (p, q)
  from_cuts (before t m p q) = absurd (a.ends t (m ++ s) q (viable_first G f t m (subst (λ xs. Viable G xs) p b.begins)))
  from_cuts (behind t m p q) = absurd (b.ends t (m ++ r) q (viable_first G g t m (subst (λ xs. Viable G xs) p a.begins)))

excess_viable : {A : Type 0} (L : Language A) (f : List Token) (t : Token) → IsExcess L f t → Viable L.Has (f ++ (t ∷ []))
excess_viable L f t x = x.begun

pub no_excess : {A : Type 0} (L : Language A) (ts f : List Token) (t : Token) (m g s : List Token) → ts ≡ f ++ (t ∷ m) → IsExcess L f t → Reaches L.Has ts g s → IsWithin L g → ⊥
no_excess L ts f t m g s split x b within = from_cuts (cuts f (t ∷ m) g s (sym split ∙ b.split)) where
  from_cuts : Cuts f (t ∷ m) g s → ⊥
  from_cuts (same p q) = b.ends t m (sym q) (subst (λ xs. Viable L.Has (xs ++ (t ∷ []))) p (excess_viable L f t x))
  from_cuts (before u n p q) = within f t n (p ∙ ap (λ y. f ++ (y ∷ n)) (sym (first_is t u m (n ++ s) q))) x
  from_cuts (behind u n p q) = b.ends u (n ++ t ∷ m) q
      (viable_first L.Has g u n (viable_cut L.Has (g ++ (u ∷ n)) (t ∷ []) (subst (λ xs. Viable L.Has (xs ++ (t ∷ []))) p (excess_viable L f t x))))

pub excess_once : {A : Type 0} (L : Language A) (ts f : List Token) (t : Token) (m g : List Token) (u : Token) (n : List Token)
    → ts ≡ f ++ (t ∷ m) → IsExcess L f t → IsWithin L f → ts ≡ g ++ (u ∷ n) → IsExcess L g u → IsWithin L g → t ≡ u
excess_once L ts f t m g u n a x within b y other = from_cuts (cuts f (t ∷ m) g (u ∷ n) (sym a ∙ b)) where
  from_cuts : Cuts f (t ∷ m) g (u ∷ n) → t ≡ u
  from_cuts (same p q) = first_is t u m n q
  from_cuts (before v k p q) = absurd (other f t k (p ∙ ap (λ y. f ++ (y ∷ k)) (sym (first_is t v m (k ++ u ∷ n) q))) x)
  from_cuts (behind v k p q) = absurd (within g u k (p ∙ ap (λ y. g ++ (y ∷ k)) (sym (first_is u v n (k ++ t ∷ m) q))) y)

no_read : {A : Type 0} (L : Language A) (begun ts : List Token) (value : A) (rest : List Token) (kind : RefusedKind) (line token : ℕ)
    → IsRead L ts value rest → Refuses L begun ts kind line token → ⊥
no_read L begun ts value rest kind line token read (too_large f t m split x within) = no_excess L ts f t m read.front rest split x read.reaches read.within
no_read L begun ts value rest kind line token read (at_token f t m reaches none within) =
    let e = reaches_once L.Has ts read.front rest f (t ∷ m) read.reaches reaches in none value (subst (λ xs. L.Has xs value) e.0 read.member)
no_read L begun ts value rest kind line token read (at_end reaches none within) =
    let e = reaches_once L.Has ts read.front rest ts [] read.reaches reaches in none value (subst (λ xs. L.Has xs value) e.0 read.member)

refused_once : {A : Type 0} (L : Language A) (front ts : List Token) (kind other : RefusedKind) (line at token number : ℕ)
    → Refuses L front ts kind line token → Refuses L front ts other at number → (kind ≡ other) × (line ≡ at) × (token ≡ number)
refused_once L front ts kind other line at token number (too_large f t m split x within) (too_large g u n split' y within') =
    let e : t ≡ u = excess_once L ts f t m g u n split x within split' y within' in (refl, ap (λ (v : Token). v.line) e, refl)
refused_once L front ts kind other line at token number (too_large f t m split x within) (at_token g u n reaches none within') = absurd (no_excess L ts f t m g (u ∷ n) split x reaches within')
refused_once L front ts kind other line at token number (too_large f t m split x within) (at_end reaches none within') = absurd (no_excess L ts f t m ts [] split x reaches within')
refused_once L front ts kind other line at token number (at_token g u n reaches none within') (too_large f t m split x within) = absurd (no_excess L ts f t m g (u ∷ n) split x reaches within')
refused_once L front ts kind other line at token number (at_end reaches none within') (too_large f t m split x within) = absurd (no_excess L ts f t m ts [] split x reaches within')
refused_once L front ts kind other line at token number (at_token f t m a none within) (at_token g u n b none' within') =
    let e = reaches_once L.Has ts f (t ∷ m) g (u ∷ n) a b in
    let same_front : f ≡ g = e.0 in
    let same_token : t ≡ u = first_is t u m n e.1 in (
      ap (λ (v : Token). kind_of (is_in_pragma (front ++ f) v.what) v.what) same_token ∙ ap (λ xs. kind_of (is_in_pragma (front ++ xs) u.what) u.what) same_front,
      ap (λ (v : Token). v.line) same_token,
      ap (λ (xs : List Token). length front + length xs) same_front,
    )
refused_once L front ts kind other line at token number (at_token f t m a none within) (at_end b none' within') =
    let e = reaches_once L.Has ts f (t ∷ m) ts [] a b in absurd (grind arith)
refused_once L front ts kind other line at token number (at_end b none' within') (at_token f t m a none within) =
    let e = reaches_once L.Has ts f (t ∷ m) ts [] a b in absurd (grind arith)
refused_once L front ts kind other line at token number (at_end a none within) (at_end b none' within') = (refl, refl, refl)

same_place : (ts : List Token) (n m : ℕ) → n ≤ length ts → m ≤ length ts → drop n ts ≡ drop m ts → n ≡ m
same_place ts n m a b e =
    let l : length ts - n ≡ length ts - m = sym (length-drop n ts) ∙ (ap length e ∙ length-drop m ts) in omega arith

same_pair : {A : Type 0} (p q : A × ℕ) → p.0 ≡ q.0 → p.1 ≡ q.1 → p ≡ q
same_pair p q a b = λ i. (a i, b i)

pub same_refused : (r s : RefusedData) → r.kind ≡ s.kind → r.line ≡ s.line → r.token ≡ s.token → r ≡ s
same_refused r s a b c = λ i. record { kind = a i; line = b i; token = c i }

-- a grammar whose lists have one value at most gives one answer at most
pub answered_once : {A : Type 0} (L : Language A) → HasOneValue L.Has → (tokens : List Token) (at : ℕ) → IsAnsweredOnce L tokens at
answered_once {A} L one tokens at = record { one_value = one_value; no_both = no_both; one_refusal = one_refusal } where
  one_value : (read other : A × ℕ) → IsAnswer L tokens at (Ok read) → IsAnswer L tokens at (Ok other) → read ≡ other
  one_value read other a b =
      let e = reaches_once L.Has (drop at tokens) a.2.front (drop read.1 tokens) b.2.front (drop other.1 tokens) a.2.reaches b.2.reaches in
      same_pair read other (one b.2.front read.0 other.0 (subst (λ xs. L.Has xs read.0) e.0 a.2.member) b.2.member) (same_place tokens read.1 other.1 a.1 b.1 e.1)

  no_both : (read : A × ℕ) (refused : RefusedData) → IsAnswer L tokens at (Ok read) → IsAnswer L tokens at (Err (Refused refused)) → ⊥
  no_both read refused a b = no_read L (take at tokens) (drop at tokens) read.0 (drop read.1 tokens) refused.kind refused.line refused.token a.2 b

  one_refusal : (refused other : RefusedData) → IsAnswer L tokens at (Err (Refused refused)) → IsAnswer L tokens at (Err (Refused other)) → refused ≡ other
  one_refusal refused other a b =
      let e = refused_once L (take at tokens) (drop at tokens) refused.kind other.kind refused.line other.line refused.token other.token a b in
      same_refused refused other e.0 e.1 e.2
