-- Readers of texts that may go on with an `else`, or may not, by how they end: a reader takes an `else` where one can go on. Beside
-- the grammar there is the part of it whose texts do not go on so; these are read whatever follows, and what a reader takes before an
-- `else` is one of them.
use Rattle.std.proofs.Common.{◌≡◌, Bool, true, false, List, [], ◌∷◌, ◌++◌, refl, sym, ap, ◌∙◌, subst, append_assoc, ◌⊎◌, inl, inr, Result, Ok, Err}
use Rattle.std.proofs.lemmas.List.{append_cancel_right}
use Rattle.oss_syntax.specs.declared.token.Token.{Token}
use Rattle.oss_grammar.specs.Fronts.{Viable}
use Rattle.oss_grammar.specs.Grammar.{Mapped, Either}
use Rattle.oss_grammar.specs.Grammar.Either.{one_way, other_way}
use Rattle.oss_grammar.specs.Reading.{Stop, begins, never, go_on, read_then, read_mapped, read_either}
use Rattle.oss_grammar.proofs.Parts.{IsRead, Sinks, Exact, Begun, ok_is, taken, member_begins, deep_begins, exact_as}
use Rattle.oss_grammar.proofs.PartLemmas.{Then, ThenDeep, exact_then, exact_mapped, EitherDeep, exact_either}
use Rattle.oss_grammar.proofs.PartLemmas.ThenDeep.{in_first, in_second}
use Rattle.oss_grammar.proofs.PartLemmas.EitherDeep.{one_deep, other_deep}
use Rattle.oss_expressions.proofs.TokenLemmas.{begins_never, exact_closed}

pub record Ending {A : Type 0} (goes : Token → Bool) (f : List Token → Result (A × List Token) Stop) (U C : List Token → A → Type 0) (B : List Token → Token → Type 0) : Type 0 where
  pub whole : Exact f U B goes
  pub closed : (xs : List Token) (a : A) → C xs a → ((rest : List Token) → f (xs ++ rest) ≡ Ok (a, rest)) ⊎ Sinks f B xs
  pub ends : (ts : List Token) (a : A) (rest : List Token) → f ts ≡ Ok (a, rest) → begins goes rest ≡ true → (front : List Token) → ts ≡ front ++ rest → C front a

module _ (goes : Token → Bool) where
  -- what goes on with nothing
  pub ending_closed : {A : Type 0} {f : List Token → Result (A × List Token) Stop} {U : List Token → A → Type 0} {B : List Token → Token → Type 0} → Exact f U B never → Ending goes f U U B
  ending_closed {A} {f} {U} {B} part = record { whole = exact_closed goes part; closed = λ xs a w. closed xs a (part.again xs a w); ends = ends } where
    closed : (xs : List Token) (a : A) → ((rest : List Token) → begins never rest ≡ false → f (xs ++ rest) ≡ Ok (a, rest)) ⊎ Sinks f B xs → ((rest : List Token) → f (xs ++ rest) ≡ Ok (a, rest)) ⊎ Sinks f B xs
    closed xs a (inl read) = inl (λ rest. read rest (begins_never rest))
    closed xs a (inr s) = inr s

    ends : (ts : List Token) (a : A) (rest : List Token) → f ts ≡ Ok (a, rest) → begins goes rest ≡ true → (front : List Token) → ts ≡ front ++ rest → U front a
    ends ts a rest e begun front split = let w = taken part ts a rest e in subst (λ xs. U xs a) (append_cancel_right w.front front rest (sym w.split ∙ split)) w.whole

  -- the same with other relations that tell the same
  pub ending_as : {A : Type 0} {f : List Token → Result (A × List Token) Stop} {U C K D : List Token → A → Type 0} {B Q : List Token → Token → Type 0}
      → ((xs : List Token) (a : A) → U xs a → K xs a) → ((xs : List Token) (a : A) → K xs a → U xs a) → ((xs : List Token) (a : A) → C xs a → D xs a) → ((xs : List Token) (a : A) → D xs a → C xs a)
      → ((xs : List Token) (t : Token) → B xs t → Q xs t) → ((xs : List Token) (t : Token) → Q xs t → B xs t) → Ending goes f U C B → Ending goes f K D Q
  ending_as {A} {f} {U} {C} {K} {D} {B} {Q} into back inside outside deeper upper part = record {
    whole = exact_as into back deeper upper part.whole;
    closed = λ xs a w. closed xs a (part.closed xs a (outside xs a w));
    ends = λ ts a rest e begun front split. inside front a (part.ends ts a rest e begun front split);
  } where
    closed : (xs : List Token) (a : A) → ((rest : List Token) → f (xs ++ rest) ≡ Ok (a, rest)) ⊎ Sinks f B xs → ((rest : List Token) → f (xs ++ rest) ≡ Ok (a, rest)) ⊎ Sinks f Q xs
    closed xs a (inl read) = inl read
    closed xs a (inr s) = inr (record { front = s.front; token = s.token; more = s.more; split = s.split; deep = deeper s.front s.token s.deep; steady = s.steady })

  -- a part, of whose value another is made
  module _ {A B : Type 0} (make : A → B) {f : List Token → Result (A × List Token) Stop} {U C : List Token → A → Type 0} {D : List Token → Token → Type 0} (part : Ending goes f U C D) where
    mapped_closed : (xs : List Token) (b : B) → (w : Mapped make C xs b) → ((rest : List Token) → f (xs ++ rest) ≡ Ok (w.part, rest)) ⊎ Sinks f D xs
        → ((rest : List Token) → read_mapped make f (xs ++ rest) ≡ Ok (b, rest)) ⊎ Sinks (read_mapped make f) D xs
    mapped_closed xs b w (inl read) = inl (λ rest. ap (λ o. go_on o (λ a rest. Ok (make a, rest))) (read rest) ∙ ap (λ c. Ok (c, rest)) w.made)
    mapped_closed xs b w (inr s) = inr (record {
      front = s.front;
      token = s.token;
      more = s.more;
      split = s.split;
      deep = s.deep;
      steady = λ other. ap (λ o. go_on o (λ a rest. Ok (make a, rest))) (s.steady other);
    })

    mapped_ends : (ts : List Token) (b : B) (rest : List Token) (r : Result (A × List Token) Stop) → f ts ≡ r → go_on r (λ a rest. Ok (make a, rest)) ≡ Ok (b, rest) → begins goes rest ≡ true
        → (front : List Token) → ts ≡ front ++ rest → Mapped make C front b
    mapped_ends ts b rest (Err stop) e told begun front split = absurd (cc)
    mapped_ends ts b rest (Ok p) e told begun front split =
        let q : B × List Token = (make p.0, p.1) in let r : B × List Token = (b, rest) in
        let same : q ≡ r = ok_is (go_on (Ok p) (λ a rest. Ok (make a, rest))) q r refl told in
        let left : p.1 ≡ rest = ap (λ (x : B × List Token). x.1) same in
        let read : f ts ≡ Ok (p.0, rest) = e ∙ ap (λ ys. Ok (p.0, ys)) left in
        record { part = p.0; made = ap (λ (x : B × List Token). x.0) same; whole = part.ends ts p.0 rest read begun front split }

    pub ending_mapped : Ending goes (read_mapped make f) (Mapped make U) (Mapped make C) D
    ending_mapped = record {
      whole = exact_mapped make part.whole;
      closed = λ xs b w. mapped_closed xs b w (part.closed xs w.part w.whole);
      ends = λ ts b rest e begun front split. mapped_ends ts b rest (f ts) refl e begun front split;
    }

  -- a part with which nothing goes on, and then one that its value chooses
  module _ {A B : Type 0} {f : List Token → Result (A × List Token) Stop} {go : A → List Token → Result (B × List Token) Stop} {U : List Token → A → Type 0} {V C : A → List Token → B → Type 0}
      {D : List Token → Token → Type 0} {E : A → List Token → Token → Type 0} (head : Exact f U D never) (tail : (a : A) → Ending goes (go a) (V a) (C a) (E a)) (some : (a : A) → Viable (V a) []) where
    then_first : (xs more : List Token) → Sinks f D xs → Sinks (read_then f go) (ThenDeep D U E) (xs ++ more)
    then_first xs more s = record {
      front = s.front;
      token = s.token;
      more = s.more ++ more;
      deep = in_first s.deep;
      split = ap (λ ys. ys ++ more) s.split ∙ append_assoc s.front (s.token ∷ s.more) more;
      steady = λ other. ap (λ o. go_on o go) (s.steady other);
    }

    then_next : (xs ys : List Token) (a : A) → U xs a → ((other : List Token) → begins never other ≡ false → f (xs ++ other) ≡ Ok (a, other)) → Sinks (go a) (E a) ys → Sinks (read_then f go) (ThenDeep D U E) (xs ++ ys)
    then_next xs ys a w read s = record {
      front = xs ++ s.front;
      token = s.token;
      more = s.more;
      deep = in_second xs s.front a refl w s.deep;
      split = ap (λ zs. xs ++ zs) s.split ∙ sym (append_assoc xs s.front (s.token ∷ s.more));
      steady = λ other.
          ap (read_then f go) (append_assoc xs s.front (s.token ∷ other))
          ∙ (ap (λ o. go_on o go) (read (s.front ++ (s.token ∷ other)) (begins_never (s.front ++ (s.token ∷ other)))) ∙ s.steady other);
    }

    then_closed : (xs : List Token) (b : B) → (w : Then U C xs b) → ((other : List Token) → begins never other ≡ false → f (w.front ++ other) ≡ Ok (w.value, other)) ⊎ Sinks f D w.front
        → ((rest : List Token) → go w.value (w.back ++ rest) ≡ Ok (b, rest)) ⊎ Sinks (go w.value) (E w.value) w.back
        → ((rest : List Token) → read_then f go (xs ++ rest) ≡ Ok (b, rest)) ⊎ Sinks (read_then f go) (ThenDeep D U E) xs
    then_closed xs b w (inl one) (inl two) = inl (λ rest.
        ap (read_then f go) (ap (λ ys. ys ++ rest) w.split ∙ append_assoc w.front w.back rest)
        ∙ (ap (λ o. go_on o go) (one (w.back ++ rest) (begins_never (w.back ++ rest))) ∙ two rest))
    then_closed xs b w (inl one) (inr s) = inr (subst (λ ys. Sinks (read_then f go) (ThenDeep D U E) ys) (sym w.split) (then_next w.front w.back w.value w.before one s))
    then_closed xs b w (inr s) two = inr (subst (λ ys. Sinks (read_then f go) (ThenDeep D U E) ys) (sym w.split) (then_first w.front w.back s))

    then_ends : (ts : List Token) (b : B) (rest : List Token) (r : Result (A × List Token) Stop) → f ts ≡ r → IsRead f U D ts r → go_on r go ≡ Ok (b, rest) → begins goes rest ≡ true
        → (front : List Token) → ts ≡ front ++ rest → Then U C front b
    then_ends ts b rest (Err stop) e w told begun front split = absurd (cc)
    then_ends ts b rest (Ok p) e w told begun front split =
        let u = taken (tail p.0).whole p.1 b rest told in
        let all : front ≡ w.front ++ u.front = append_cancel_right front (w.front ++ u.front) rest (sym split ∙ (w.split ∙ (ap (λ ys. w.front ++ ys) u.split ∙ sym (append_assoc w.front u.front rest)))) in
        record { front = w.front; back = u.front; value = p.0; split = all; before = w.whole; behind = (tail p.0).ends p.1 b rest told begun u.front u.split }

    pub ending_then : Ending goes (read_then f go) (Then U V) (Then U C) (ThenDeep D U E)
    ending_then = record {
      whole = exact_then head (λ a. (tail a).whole) (λ a ys b rest w free. begins_never (ys ++ rest)) (λ a ys t rest w. begins_never (ys ++ (t ∷ rest))) some;
      closed = λ xs b w. then_closed xs b w (head.again w.front w.value w.before) ((tail w.value).closed w.back b w.behind);
      ends = λ ts b rest e begun front split. then_ends ts b rest (f ts) refl (head.reads ts) e begun front split;
    }

  -- one of two, by the first token
  module _ {A : Type 0} (starts : Token → Bool) {f g : List Token → Result (A × List Token) Stop} {U V C E : List Token → A → Type 0} {D F : List Token → Token → Type 0}
      (left : Ending goes f U C D) (begins_left : Begun f starts) (right : Ending goes g V E F) {others : Token → Bool} (begins_right : Begun g others)
      (inside_left : (xs : List Token) (a : A) → C xs a → U xs a) (inside_right : (xs : List Token) (a : A) → E xs a → V xs a) (apart : (t : Token) → others t ≡ true → starts t ≡ false) where
    none_starts : (ts : List Token) → begins others ts ≡ true → begins starts ts ≡ false
    none_starts [] e = refl
    none_starts (t ∷ ts) e = apart t e

    take_first : (ts : List Token) → begins starts ts ≡ true → read_either starts f g ts ≡ f ts
    take_first ts e = rw e refl

    take_second : (ts : List Token) → begins starts ts ≡ false → read_either starts f g ts ≡ g ts
    take_second ts e = rw e refl

    one_closed : (xs : List Token) (a : A) → C xs a → ((rest : List Token) → f (xs ++ rest) ≡ Ok (a, rest)) ⊎ Sinks f D xs
        → ((rest : List Token) → read_either starts f g (xs ++ rest) ≡ Ok (a, rest)) ⊎ Sinks (read_either starts f g) (EitherDeep D F) xs
    one_closed xs a w (inl read) = inl (λ rest. take_first (xs ++ rest) (member_begins left.whole begins_left xs a rest (inside_left xs a w)) ∙ read rest)
    one_closed xs a w (inr s) = inr (record {
      front = s.front;
      token = s.token;
      more = s.more;
      split = s.split;
      deep = one_deep s.deep;
      steady = λ other. take_first (s.front ++ (s.token ∷ other)) (deep_begins left.whole begins_left s.front s.token other s.deep) ∙ s.steady other;
    })

    other_closed : (xs : List Token) (a : A) → E xs a → ((rest : List Token) → g (xs ++ rest) ≡ Ok (a, rest)) ⊎ Sinks g F xs
        → ((rest : List Token) → read_either starts f g (xs ++ rest) ≡ Ok (a, rest)) ⊎ Sinks (read_either starts f g) (EitherDeep D F) xs
    other_closed xs a w (inl read) = inl (λ rest. take_second (xs ++ rest) (none_starts (xs ++ rest) (member_begins right.whole begins_right xs a rest (inside_right xs a w))) ∙ read rest)
    other_closed xs a w (inr s) = inr (record {
      front = s.front;
      token = s.token;
      more = s.more;
      split = s.split;
      deep = other_deep s.deep;
      steady = λ other. take_second (s.front ++ (s.token ∷ other)) (none_starts (s.front ++ (s.token ∷ other)) (deep_begins right.whole begins_right s.front s.token other s.deep)) ∙ s.steady other;
    })

    either_closed : (xs : List Token) (a : A) → Either C E xs a → ((rest : List Token) → read_either starts f g (xs ++ rest) ≡ Ok (a, rest)) ⊎ Sinks (read_either starts f g) (EitherDeep D F) xs
    either_closed xs a (one_way w) = one_closed xs a w (left.closed xs a w)
    either_closed xs a (other_way w) = other_closed xs a w (right.closed xs a w)

    either_ends : (ts : List Token) (a : A) (rest : List Token) (b : Bool) → begins starts ts ≡ b → read_either starts f g ts ≡ Ok (a, rest) → begins goes rest ≡ true → (front : List Token) → ts ≡ front ++ rest → Either C E front a
    either_ends ts a rest true s e begun front split = one_way (left.ends ts a rest (sym (take_first ts s) ∙ e) begun front split)
    either_ends ts a rest false s e begun front split = other_way (right.ends ts a rest (sym (take_second ts s) ∙ e) begun front split)

    pub ending_either : Ending goes (read_either starts f g) (Either U V) (Either C E) (EitherDeep D F)
    ending_either = record {
      whole = exact_either starts left.whole begins_left right.whole (λ ys b rest w free. none_starts (ys ++ rest) (member_begins right.whole begins_right ys b rest w))
          (λ ys t rest w. none_starts (ys ++ (t ∷ rest)) (deep_begins right.whole begins_right ys t rest w));
      closed = either_closed;
      ends = λ ts a rest e begun front split. either_ends ts a rest (begins starts ts) refl e begun front split;
    }
