-- Readers are exact for each way in which grammars are put together, if those of the parts are.
use Rattle.std.proofs.Common.{◌≡◌, Bool, true, false, ◌||◌, if◌then◌else◌, List, [], ◌∷◌, ◌++◌, refl, sym, ap, ◌∙◌, subst, append_assoc, ◌⊎◌, inl, inr, Option, Some, None, is_some, Result, Ok, Err}
use Rattle.std.proofs.Common.{arith, ◌<◌, ◌+◌, length}
use Rattle.std.proofs.lemmas.List.{append-nil, length-append}
use Rattle.oss_syntax.specs.declared.token.Token.{Token}
use Rattle.oss_grammar.specs.Fronts.{Viable}
use Rattle.oss_grammar.specs.Grammar.{One, Mapped, Either}
use Rattle.oss_grammar.specs.Grammar.Either.{one_way, other_way}
use Rattle.oss_grammar.specs.Reading.{Stop, begins, has, one_of, go_on, token_told, read_one, read_then, read_nothing, read_mapped, read_either, read_too_deep}
use Rattle.oss_grammar.specs.Reading.Stop.{Syntax, Deep}
use Rattle.oss_grammar.proofs.Parts.{AtSame, Taken, Stopped, IsRead, Sinks, Exact, Begun, same_behind, still_begins, still_fails, member_begins, deep_begins, not_empty, taken, stopped, takes_some}

-- no limit is passed
pub data Nowhere (xs : List Token) (t : Token) : Type 0 where

pub nowhere : {X : Type 0} (xs : List Token) (t : Token) → Nowhere xs t → X
nowhere xs t w = elim w [ ]

-- one token
module _ {A : Type 0} (test : Token → Option A) (some : Token) (value : A) (passes : test some ≡ Some value) where
  one_viable : Viable (One test) []
  one_viable = record { more = some ∷ []; value = value; member = record { token = some; only = refl; passes = passes } }

  one_read : (t : Token) (rest : List Token) (o : Option A) → test t ≡ o → IsRead (read_one test) (One test) Nowhere (t ∷ rest) (token_told t rest o)
  one_read t rest None e = record { front = []; split = refl; viable = one_viable; steady = stops } where
    stops : (other : List Token) → AtSame (t ∷ rest) other → read_one test other ≡ Err (Syntax other)
    stops [] same = refl
    stops (u ∷ other) same = let gone : test u ≡ None = ap test (sym same) ∙ e in rw gone refl
  one_read t rest (Some a) e = record { front = t ∷ []; split = refl; whole = record { token = t; only = refl; passes = e }; steady = λ other same. rw e refl }

  one_told : (ts : List Token) → IsRead (read_one test) (One test) Nowhere ts (read_one test ts)
  one_told [] = record { front = []; split = refl; viable = one_viable; steady = stops } where
    stops : (other : List Token) → AtSame [] other → read_one test other ≡ Err (Syntax other)
    stops [] same = refl
    stops (u ∷ other) same = absurd same
  one_told (t ∷ rest) = one_read t rest (test t) refl

  pub exact_one : (goes : Token → Bool) → Exact (read_one test) (One test) Nowhere goes
  exact_one goes = record {
    reads = one_told;
    again = λ xs a w. inl (λ rest free. rw w.only (rw w.passes refl));
    sinks = λ xs t w. nowhere xs t w;
    begun = λ xs t w. nowhere xs t w;
  }

pub begun_one : {A : Type 0} (test : Token → Option A) → Begun (read_one test) (has test)
begun_one {A} test = record { accepts = λ t rest s e. accepted t rest (test t) refl s e; refuses = refused } where
  accepted : (t : Token) (rest : List Token) (o : Option A) → test t ≡ o → is_some (test t) ≡ true → read_one test (t ∷ rest) ≡ Err (Syntax (t ∷ rest)) → ⊥
  accepted t rest (Some a) e s stop = let told : read_one test (t ∷ rest) ≡ Ok (a, rest) = rw e refl in absurd (cc)
  accepted t rest None e s stop = let no : is_some (test t) ≡ false = rw e refl in absurd (cc)

  refused_by : (t : Token) (rest : List Token) (o : Option A) → test t ≡ o → is_some (test t) ≡ false → read_one test (t ∷ rest) ≡ Err (Syntax (t ∷ rest))
  refused_by t rest None e s = rw e refl
  refused_by t rest (Some a) e s = let yes : is_some (test t) ≡ true = rw e refl in absurd (cc)

  refused : (ts : List Token) → begins (has test) ts ≡ false → read_one test ts ≡ Err (Syntax ts)
  refused [] s = refl
  refused (t ∷ rest) s = refused_by t rest (test t) refl s

-- nothing
pub record Nothing {A : Type 0} (value : A) (xs : List Token) (a : A) : Type 0 where
  pub nothing : xs ≡ []
  pub same : value ≡ a

pub exact_nothing : {A : Type 0} (value : A) (goes : Token → Bool) → Exact (read_nothing value) (Nothing value) Nowhere goes
exact_nothing value goes = record {
  reads = λ ts. record { front = []; split = refl; whole = record { nothing = refl; same = refl }; steady = λ other same. refl };
  again = λ xs a w. inl (λ rest free. rw w.nothing (rw w.same refl));
  sinks = λ xs t w. nowhere xs t w;
  begun = λ xs t w. nowhere xs t w;
}

-- no level is left
module _ {A : Type 0} {U : List Token → A → Type 0} {B : List Token → Token → Type 0} (deepens : Token → Bool)
    (at_once : (t : Token) → deepens t ≡ true → B [] t) (some : Viable U []) (first : (xs : List Token) (a : A) → U xs a → begins deepens xs ≡ true)
    (deep_first : (xs : List Token) (t : Token) → B xs t → begins deepens (xs ++ (t ∷ [])) ≡ true) (begun : (xs : List Token) (t : Token) → B xs t → Viable U (xs ++ (t ∷ []))) where
  deep_sinks : (xs : List Token) → begins deepens xs ≡ true → Sinks {A = A} (read_too_deep deepens) B xs
  deep_sinks [] e = absurd (cc)
  deep_sinks (t ∷ xs) e = record { front = []; token = t; more = xs; split = refl; deep = at_once t e; steady = λ other. rw e refl }

  too_deep_told : (ts : List Token) (b : Bool) → begins deepens ts ≡ b → IsRead (read_too_deep deepens) U B ts (if b then Err (Deep ts) else Err (Syntax ts))
  too_deep_told [] true e = absurd (cc)
  too_deep_told (t ∷ ts) true e = record { front = []; token = t; behind = ts; at = refl; split = refl; deep = at_once t e }
  too_deep_told ts false e = record {
    front = [];
    split = refl;
    viable = some;
    steady = λ other same. let fails : begins deepens other ≡ false = still_fails deepens [] ts ts other e refl same in rw fails refl;
  }

  pub exact_too_deep : (goes : Token → Bool) → Exact (read_too_deep deepens) U B goes
  exact_too_deep goes = record {
    reads = λ ts. too_deep_told ts (begins deepens ts) refl;
    again = λ xs a w. inr (deep_sinks xs (first xs a w));
    sinks = λ xs t w. deep_sinks (xs ++ (t ∷ [])) (deep_first xs t w);
    begun = begun;
  }

pub begun_too_deep : {A : Type 0} (deepens : Token → Bool) → Begun (read_too_deep {A = A} deepens) deepens
begun_too_deep {A} deepens = record {
  accepts = λ t rest s e. let told : read_too_deep {A = A} deepens (t ∷ rest) ≡ Err (Deep (t ∷ rest)) = rw s refl in absurd (cc);
  refuses = λ ts s. rw s refl;
}

-- a part, of whose value another is made
module _ {A B : Type 0} (make : A → B) {f : List Token → Result (A × List Token) Stop} {U : List Token → A → Type 0} {D : List Token → Token → Type 0} {goes : Token → Bool} (part : Exact f U D goes) where
  mapped_viable : (xs : List Token) → Viable U xs → Viable (Mapped make U) xs
  mapped_viable xs v = record { more = v.more; value = make v.value; member = record { part = v.value; made = refl; whole = v.member } }

  mapped_read : (ts : List Token) (r : Result (A × List Token) Stop) → IsRead f U D ts r → IsRead (read_mapped make f) (Mapped make U) D ts (go_on r (λ a rest. Ok (make a, rest)))
  mapped_read ts (Ok p) w = record {
    front = w.front;
    split = w.split;
    whole = record { part = p.0; made = refl; whole = w.whole };
    steady = λ other same. ap (λ o. go_on o (λ a rest. Ok (make a, rest))) (w.steady other same);
  }
  mapped_read ts (Err (Syntax place)) w = record {
    front = w.front;
    split = w.split;
    viable = mapped_viable w.front w.viable;
    steady = λ other same. ap (λ o. go_on o (λ a rest. Ok (make a, rest))) (w.steady other same);
  }
  mapped_read ts (Err (Deep place)) w = w

  mapped_sinks : (xs : List Token) → Sinks f D xs → Sinks (read_mapped make f) D xs
  mapped_sinks xs s = record {
    front = s.front;
    token = s.token;
    more = s.more;
    split = s.split;
    deep = s.deep;
    steady = λ other. ap (λ o. go_on o (λ a rest. Ok (make a, rest))) (s.steady other);
  }

  mapped_again : (xs : List Token) (value : B) → Mapped make U xs value
      → ((rest : List Token) → begins goes rest ≡ false → read_mapped make f (xs ++ rest) ≡ Ok (value, rest)) ⊎ Sinks (read_mapped make f) D xs
  mapped_again xs value w = from_again (part.again xs w.part w.whole) where
    from_again : ((rest : List Token) → begins goes rest ≡ false → f (xs ++ rest) ≡ Ok (w.part, rest)) ⊎ Sinks f D xs
        → ((rest : List Token) → begins goes rest ≡ false → read_mapped make f (xs ++ rest) ≡ Ok (value, rest)) ⊎ Sinks (read_mapped make f) D xs
    from_again (inl read) = inl (λ rest free. rw (read rest free) (ap (λ b. Ok (b, rest)) w.made))
    from_again (inr s) = inr (mapped_sinks xs s)

  pub exact_mapped : Exact (read_mapped make f) (Mapped make U) D goes
  exact_mapped = record {
    reads = λ ts. mapped_read ts (f ts) (part.reads ts);
    again = mapped_again;
    sinks = λ xs t w. mapped_sinks (xs ++ (t ∷ [])) (part.sinks xs t w);
    begun = λ xs t w. mapped_viable (xs ++ (t ∷ [])) (part.begun xs t w);
  }

-- what begins a part begins what goes on behind it
then_accepts : {A B : Type 0} (f : List Token → Result (A × List Token) Stop) (go : A → List Token → Result (B × List Token) Stop) (t : Token) (rest : List Token) (o : Result (A × List Token) Stop) → f (t ∷ rest) ≡ o
    → (f (t ∷ rest) ≡ Err (Syntax (t ∷ rest)) → ⊥) → ((a : A) (mid : List Token) → f (t ∷ rest) ≡ Ok (a, mid) → go a mid ≡ Err (Syntax (t ∷ rest)) → ⊥) → go_on o go ≡ Err (Syntax (t ∷ rest)) → ⊥
then_accepts f go t rest (Err stop) e not_first not_second told = not_first (cc)
then_accepts f go t rest (Ok p) e not_first not_second told = not_second p.0 p.1 e told

pub begun_mapped : {A B : Type 0} (make : A → B) {f : List Token → Result (A × List Token) Stop} {starts : Token → Bool} → Begun f starts → Begun (read_mapped make f) starts
begun_mapped make {f} {starts} first = record {
  accepts = λ t rest s told. then_accepts f (λ a rest. Ok (make a, rest)) t rest (f (t ∷ rest)) refl (first.accepts t rest s) (λ a mid e w. absurd (cc)) told;
  refuses = λ ts s. rw (first.refuses ts s) refl;
}

-- a part, and then one that its value chooses
pub record Then {A B : Type 0} (U : List Token → A → Type 0) (V : A → List Token → B → Type 0) (xs : List Token) (b : B) : Type 0 where
  pub front : List Token
  pub back : List Token
  pub value : A
  pub split : xs ≡ front ++ back
  pub before : U front value
  pub behind : V value back b

pub data ThenDeep {A : Type 0} (D : List Token → Token → Type 0) (U : List Token → A → Type 0) (E : A → List Token → Token → Type 0) (xs : List Token) (t : Token) : Type 0 where
  in_first : D xs t → ThenDeep D U E xs t
  in_second : (front back : List Token) (a : A) → xs ≡ front ++ back → U front a → E a back t → ThenDeep D U E xs t

module _ {A B : Type 0} {f : List Token → Result (A × List Token) Stop} {go : A → List Token → Result (B × List Token) Stop} {U : List Token → A → Type 0} {V : A → List Token → B → Type 0}
    {D : List Token → Token → Type 0} {E : A → List Token → Token → Type 0} {first second : Token → Bool} (left : Exact f U D first) (right : (a : A) → Exact (go a) (V a) (E a) second)
    (apart : (a : A) (ys : List Token) (b : B) (rest : List Token) → V a ys b → begins second rest ≡ false → begins first (ys ++ rest) ≡ false)
    (apart_deep : (a : A) (ys : List Token) (t : Token) (rest : List Token) → E a ys t → begins first (ys ++ (t ∷ rest)) ≡ false) (some : (a : A) → Viable (V a) []) where
  then_complete : (xs : List Token) → Viable U xs → Viable (Then U V) xs
  then_complete xs v = let s = some v.value in record {
    more = v.more ++ s.more;
    value = s.value;
    member = record { front = xs ++ v.more; back = s.more; value = v.value; split = sym (append_assoc xs v.more s.more); before = v.member; behind = s.member };
  }

  then_second : (ts : List Token) (a : A) (mid : List Token) → Taken f U ts a mid → (r : Result (B × List Token) Stop) → IsRead (go a) (V a) (E a) mid r → IsRead (read_then f go) (Then U V) (ThenDeep D U E) ts r
  then_second ts a mid t (Ok q) u = record {
    front = t.front ++ u.front;
    split = t.split ∙ (ap (λ xs. t.front ++ xs) u.split ∙ sym (append_assoc t.front u.front q.1));
    whole = record { front = t.front; back = u.front; value = a; split = refl; before = t.whole; behind = u.whole };
    steady = λ other same.
        ap (read_then f go) (append_assoc t.front u.front other)
        ∙ (ap (λ o. go_on o go) (t.steady (u.front ++ other) (same_behind u.front mid q.1 other u.split same)) ∙ u.steady other same);
  }
  then_second ts a mid t (Err (Syntax place)) u = record {
    front = t.front ++ u.front;
    split = t.split ∙ (ap (λ xs. t.front ++ xs) u.split ∙ sym (append_assoc t.front u.front place));
    viable = record {
      more = u.viable.more;
      value = u.viable.value;
      member = record { front = t.front; back = u.front ++ u.viable.more; value = a; split = append_assoc t.front u.front u.viable.more; before = t.whole; behind = u.viable.member };
    };
    steady = λ other same.
        ap (read_then f go) (append_assoc t.front u.front other)
        ∙ (ap (λ o. go_on o go) (t.steady (u.front ++ other) (same_behind u.front mid place other u.split same)) ∙ u.steady other same);
  }
  then_second ts a mid t (Err (Deep place)) u = record {
    front = t.front ++ u.front;
    token = u.token;
    behind = u.behind;
    at = u.at;
    split = t.split ∙ (ap (λ xs. t.front ++ xs) u.split ∙ sym (append_assoc t.front u.front place));
    deep = in_second t.front u.front a refl t.whole u.deep;
  }

  then_told : (ts : List Token) (o : Result (A × List Token) Stop) → IsRead f U D ts o → IsRead (read_then f go) (Then U V) (ThenDeep D U E) ts (go_on o go)
  then_told ts (Ok p) t = then_second ts p.0 p.1 t (go p.0 p.1) ((right p.0).reads p.1)
  then_told ts (Err (Syntax place)) t = record { front = t.front; split = t.split; viable = then_complete t.front t.viable; steady = λ other same. ap (λ o. go_on o go) (t.steady other same) }
  then_told ts (Err (Deep place)) t = record { front = t.front; token = t.token; behind = t.behind; at = t.at; split = t.split; deep = in_first t.deep }

  sinks_first : (xs more : List Token) → Sinks f D xs → Sinks (read_then f go) (ThenDeep D U E) (xs ++ more)
  sinks_first xs more s = record {
    front = s.front;
    token = s.token;
    more = s.more ++ more;
    split = ap (λ ys. ys ++ more) s.split ∙ append_assoc s.front (s.token ∷ s.more) more;
    deep = in_first s.deep;
    steady = λ other. ap (λ o. go_on o go) (s.steady other);
  }

  sinks_second : (xs ys : List Token) (a : A) → U xs a → ((other : List Token) → begins first other ≡ false → f (xs ++ other) ≡ Ok (a, other)) → Sinks (go a) (E a) ys
      → Sinks (read_then f go) (ThenDeep D U E) (xs ++ ys)
  sinks_second xs ys a w read s = record {
    front = xs ++ s.front;
    token = s.token;
    more = s.more;
    split = ap (λ zs. xs ++ zs) s.split ∙ sym (append_assoc xs s.front (s.token ∷ s.more));
    deep = in_second xs s.front a refl w s.deep;
    steady = λ other.
        ap (read_then f go) (append_assoc xs s.front (s.token ∷ other))
        ∙ (ap (λ o. go_on o go) (read (s.front ++ (s.token ∷ other)) (apart_deep a s.front s.token other s.deep)) ∙ s.steady other);
  }

  then_again : (xs : List Token) (b : B) → Then U V xs b → ((rest : List Token) → begins second rest ≡ false → read_then f go (xs ++ rest) ≡ Ok (b, rest)) ⊎ Sinks (read_then f go) (ThenDeep D U E) xs
  then_again xs b w = from_first (left.again w.front w.value w.before) where
    from_second : ((other : List Token) → begins first other ≡ false → f (w.front ++ other) ≡ Ok (w.value, other))
        → ((rest : List Token) → begins second rest ≡ false → go w.value (w.back ++ rest) ≡ Ok (b, rest)) ⊎ Sinks (go w.value) (E w.value) w.back
        → ((rest : List Token) → begins second rest ≡ false → read_then f go (xs ++ rest) ≡ Ok (b, rest)) ⊎ Sinks (read_then f go) (ThenDeep D U E) xs
    from_second one (inl two) = inl (λ rest free.
        ap (read_then f go) (ap (λ ys. ys ++ rest) w.split ∙ append_assoc w.front w.back rest)
        ∙ (ap (λ o. go_on o go) (one (w.back ++ rest) (apart w.value w.back b rest w.behind free)) ∙ two rest free))
    from_second one (inr s) = inr (subst (λ ys. Sinks (read_then f go) (ThenDeep D U E) ys) (sym w.split) (sinks_second w.front w.back w.value w.before one s))

    from_first : ((other : List Token) → begins first other ≡ false → f (w.front ++ other) ≡ Ok (w.value, other)) ⊎ Sinks f D w.front
        → ((rest : List Token) → begins second rest ≡ false → read_then f go (xs ++ rest) ≡ Ok (b, rest)) ⊎ Sinks (read_then f go) (ThenDeep D U E) xs
    from_first (inl one) = from_second one ((right w.value).again w.back b w.behind)
    from_first (inr s) = inr (subst (λ ys. Sinks (read_then f go) (ThenDeep D U E) ys) (sym w.split) (sinks_first w.front w.back s))

  then_sinks : (xs : List Token) (t : Token) → ThenDeep D U E xs t → Sinks (read_then f go) (ThenDeep D U E) (xs ++ (t ∷ []))
  then_sinks xs t (in_first d) = subst (λ ys. Sinks (read_then f go) (ThenDeep D U E) ys) (append-nil (xs ++ (t ∷ []))) (sinks_first (xs ++ (t ∷ [])) [] (left.sinks xs t d))
  then_sinks xs t (in_second front back a e w d) = subst (λ ys. Sinks (read_then f go) (ThenDeep D U E) ys) (sym whole) (from_first (left.again front a w)) where
    whole : xs ++ (t ∷ []) ≡ front ++ (back ++ (t ∷ []))
    whole = ap (λ ys. ys ++ (t ∷ [])) e ∙ append_assoc front back (t ∷ [])

    from_first : ((other : List Token) → begins first other ≡ false → f (front ++ other) ≡ Ok (a, other)) ⊎ Sinks f D front → Sinks (read_then f go) (ThenDeep D U E) (front ++ (back ++ (t ∷ [])))
    from_first (inl one) = sinks_second front (back ++ (t ∷ [])) a w one ((right a).sinks back t d)
    from_first (inr s) = sinks_first front (back ++ (t ∷ [])) s

  then_begun : (xs : List Token) (t : Token) → ThenDeep D U E xs t → Viable (Then U V) (xs ++ (t ∷ []))
  then_begun xs t (in_first d) = then_complete (xs ++ (t ∷ [])) (left.begun xs t d)
  then_begun xs t (in_second front back a e w d) = let v = (right a).begun back t d in record {
    more = v.more;
    value = v.value;
    member = record {
      front = front;
      back = (back ++ (t ∷ [])) ++ v.more;
      value = a;
      before = w;
      behind = v.member;
      split = ap (λ ys. ys ++ v.more) (ap (λ ys. ys ++ (t ∷ [])) e ∙ append_assoc front back (t ∷ [])) ∙ append_assoc front (back ++ (t ∷ [])) v.more;
    };
  }

  pub exact_then : Exact (read_then f go) (Then U V) (ThenDeep D U E) second
  exact_then = record { reads = λ ts. then_told ts (f ts) (left.reads ts); again = then_again; sinks = then_sinks; begun = then_begun }

  module _ {starts : Token → Bool} (begins_first : Begun f starts) where
    shorter : (ts : List Token) (a : A) (mid place : List Token) → length mid < length ts → Stopped (go a) (V a) mid place → ts ≡ place → ⊥
    shorter ts a mid place less w e =
        let size : length mid ≡ length w.front + length place = ap length w.split ∙ length-append w.front place in
        let same : length ts ≡ length place = ap length e in absurd (omega arith)

    less_left : (t : Token) (rest xs mid : List Token) → t ∷ rest ≡ xs ++ mid → (xs ≡ [] → ⊥) → length mid < length (t ∷ rest)
    less_left t rest [] mid e some = absurd (some refl)
    less_left t rest (x ∷ xs) mid e some =
        let size : length (t ∷ rest) ≡ length (x ∷ xs) + length mid = ap length e ∙ length-append (x ∷ xs) mid in omega arith

    pub begun_then : Begun (read_then f go) starts
    begun_then = record {
      accepts = λ t rest s told. then_accepts f go t rest (f (t ∷ rest)) refl (begins_first.accepts t rest s)
          (λ a mid e u.
          let w : Taken f U (t ∷ rest) a mid = taken left (t ∷ rest) a mid e in
          let less : length mid < length (t ∷ rest) = less_left t rest w.front mid w.split (takes_some left begins_first (t ∷ rest) a mid e w) in
          shorter (t ∷ rest) a mid (t ∷ rest) less (stopped (right a) mid (t ∷ rest) u) refl) told;
      refuses = λ ts s. rw (begins_first.refuses ts s) refl;
    }

-- a limit is passed in one of two
pub data EitherDeep (D E : List Token → Token → Type 0) (xs : List Token) (t : Token) : Type 0 where
  one_deep : D xs t → EitherDeep D E xs t
  other_deep : E xs t → EitherDeep D E xs t

-- one of two, by the first token
module _ {A : Type 0} (starts : Token → Bool) {f g : List Token → Result (A × List Token) Stop} {U V : List Token → A → Type 0} {D E : List Token → Token → Type 0} {goes : Token → Bool}
    (left : Exact f U D goes) (begins_left : Begun f starts) (right : Exact g V E goes)
    (apart : (ys : List Token) (b : A) (rest : List Token) → V ys b → begins goes rest ≡ false → begins starts (ys ++ rest) ≡ false)
    (apart_deep : (ys : List Token) (t : Token) (rest : List Token) → E ys t → begins starts (ys ++ (t ∷ rest)) ≡ false) where
  take_first : (ts : List Token) → begins starts ts ≡ true → read_either starts f g ts ≡ f ts
  take_first ts e = rw e refl

  take_second : (ts : List Token) → begins starts ts ≡ false → read_either starts f g ts ≡ g ts
  take_second ts e = rw e refl

  first_taken : (ts : List Token) (p : A × List Token) → begins starts ts ≡ true → (w : Taken f U ts p.0 p.1) → (xs : List Token) → w.front ≡ xs
      → Taken (read_either starts f g) (Either U V) ts p.0 p.1
  first_taken ts p e w [] none = absurd (not_empty left begins_left p.0 (subst (λ xs. U xs p.0) none w.whole))
  first_taken ts p e w (x ∷ xs) some = record {
    front = w.front;
    split = w.split;
    whole = one_way w.whole;
    steady = λ other same.
        let begun : begins starts (w.front ++ other) ≡ true = ap (λ ys. begins starts (ys ++ other)) some ∙ still_begins starts x xs ts p.1 other true e (w.split ∙ ap (λ ys. ys ++ p.1) some) in
        take_first (w.front ++ other) begun ∙ w.steady other same;
  }

  stops_at_once : (ts : List Token) → begins starts ts ≡ true → f ts ≡ Err (Syntax ts) → ⊥
  stops_at_once [] e told = absurd (cc)
  stops_at_once (t ∷ rest) e told = begins_left.accepts t rest e told

  first_stopped : (ts place : List Token) → begins starts ts ≡ true → f ts ≡ Err (Syntax place) → (w : Stopped f U ts place) → (xs : List Token) → w.front ≡ xs
      → Stopped (read_either starts f g) (Either U V) ts place
  first_stopped ts place e told w [] none =
      let all : ts ≡ place = w.split ∙ ap (λ ys. ys ++ place) none in absurd (stops_at_once ts e (told ∙ ap (λ ys. Err (Syntax ys)) (sym all)))
  first_stopped ts place e told w (x ∷ xs) some = record {
    front = w.front;
    split = w.split;
    viable = record { more = w.viable.more; value = w.viable.value; member = one_way w.viable.member };
    steady = λ other same.
        let begun : begins starts (w.front ++ other) ≡ true = ap (λ ys. begins starts (ys ++ other)) some ∙ still_begins starts x xs ts place other true e (w.split ∙ ap (λ ys. ys ++ place) some) in
        take_first (w.front ++ other) begun ∙ w.steady other same;
  }

  read_first : (ts : List Token) → begins starts ts ≡ true → (r : Result (A × List Token) Stop) → f ts ≡ r → IsRead f U D ts r → IsRead (read_either starts f g) (Either U V) (EitherDeep D E) ts r
  read_first ts e (Ok p) told w = first_taken ts p e w w.front refl
  read_first ts e (Err (Syntax place)) told w = first_stopped ts place e told w w.front refl
  read_first ts e (Err (Deep place)) told w = record { front = w.front; token = w.token; behind = w.behind; at = w.at; split = w.split; deep = one_deep w.deep }

  read_second : (ts : List Token) → begins starts ts ≡ false → (r : Result (A × List Token) Stop) → IsRead g V E ts r → IsRead (read_either starts f g) (Either U V) (EitherDeep D E) ts r
  read_second ts e (Ok p) w = record {
    front = w.front;
    split = w.split;
    whole = other_way w.whole;
    steady = λ other same. take_second (w.front ++ other) (still_fails starts w.front ts p.1 other e w.split same) ∙ w.steady other same;
  }
  read_second ts e (Err (Syntax place)) w = record {
    front = w.front;
    split = w.split;
    viable = record { more = w.viable.more; value = w.viable.value; member = other_way w.viable.member };
    steady = λ other same. take_second (w.front ++ other) (still_fails starts w.front ts place other e w.split same) ∙ w.steady other same;
  }
  read_second ts e (Err (Deep place)) w = record { front = w.front; token = w.token; behind = w.behind; at = w.at; split = w.split; deep = other_deep w.deep }

  either_told : (ts : List Token) (b : Bool) → begins starts ts ≡ b → IsRead (read_either starts f g) (Either U V) (EitherDeep D E) ts (read_either starts f g ts)
  either_told ts true e = subst (λ r. IsRead (read_either starts f g) (Either U V) (EitherDeep D E) ts r) (sym (take_first ts e)) (read_first ts e (f ts) refl (left.reads ts))
  either_told ts false e = subst (λ r. IsRead (read_either starts f g) (Either U V) (EitherDeep D E) ts r) (sym (take_second ts e)) (read_second ts e (g ts) (right.reads ts))

  sinks_one : (xs : List Token) → Sinks f D xs → Sinks (read_either starts f g) (EitherDeep D E) xs
  sinks_one xs s = record {
    front = s.front;
    token = s.token;
    more = s.more;
    split = s.split;
    deep = one_deep s.deep;
    steady = λ other. take_first (s.front ++ (s.token ∷ other)) (deep_begins left begins_left s.front s.token other s.deep) ∙ s.steady other;
  }

  sinks_other : (xs : List Token) → Sinks g E xs → Sinks (read_either starts f g) (EitherDeep D E) xs
  sinks_other xs s = record {
    front = s.front;
    token = s.token;
    more = s.more;
    split = s.split;
    deep = other_deep s.deep;
    steady = λ other. take_second (s.front ++ (s.token ∷ other)) (apart_deep s.front s.token other s.deep) ∙ s.steady other;
  }

  either_again : (xs : List Token) (a : A) → Either U V xs a
      → ((rest : List Token) → begins goes rest ≡ false → read_either starts f g (xs ++ rest) ≡ Ok (a, rest)) ⊎ Sinks (read_either starts f g) (EitherDeep D E) xs
  either_again xs a (one_way w) = from (left.again xs a w) where
    from : ((rest : List Token) → begins goes rest ≡ false → f (xs ++ rest) ≡ Ok (a, rest)) ⊎ Sinks f D xs
        → ((rest : List Token) → begins goes rest ≡ false → read_either starts f g (xs ++ rest) ≡ Ok (a, rest)) ⊎ Sinks (read_either starts f g) (EitherDeep D E) xs
    from (inl read) = inl (λ rest free. take_first (xs ++ rest) (member_begins left begins_left xs a rest w) ∙ read rest free)
    from (inr s) = inr (sinks_one xs s)
  either_again xs a (other_way w) = from (right.again xs a w) where
    from : ((rest : List Token) → begins goes rest ≡ false → g (xs ++ rest) ≡ Ok (a, rest)) ⊎ Sinks g E xs
        → ((rest : List Token) → begins goes rest ≡ false → read_either starts f g (xs ++ rest) ≡ Ok (a, rest)) ⊎ Sinks (read_either starts f g) (EitherDeep D E) xs
    from (inl read) = inl (λ rest free. take_second (xs ++ rest) (apart xs a rest w free) ∙ read rest free)
    from (inr s) = inr (sinks_other xs s)

  either_sinks : (xs : List Token) (t : Token) → EitherDeep D E xs t → Sinks (read_either starts f g) (EitherDeep D E) (xs ++ (t ∷ []))
  either_sinks xs t (one_deep w) = sinks_one (xs ++ (t ∷ [])) (left.sinks xs t w)
  either_sinks xs t (other_deep w) = sinks_other (xs ++ (t ∷ [])) (right.sinks xs t w)

  either_begun : (xs : List Token) (t : Token) → EitherDeep D E xs t → Viable (Either U V) (xs ++ (t ∷ []))
  either_begun xs t (one_deep w) = let v = left.begun xs t w in record { more = v.more; value = v.value; member = one_way v.member }
  either_begun xs t (other_deep w) = let v = right.begun xs t w in record { more = v.more; value = v.value; member = other_way v.member }

  pub exact_either : Exact (read_either starts f g) (Either U V) (EitherDeep D E) goes
  exact_either = record { reads = λ ts. either_told ts (begins starts ts) refl; again = either_again; sinks = either_sinks; begun = either_begun }

-- one of two that begin differently begins as either does
pub begun_either : {A : Type 0} (starts : Token → Bool) {f g : List Token → Result (A × List Token) Stop} {others : Token → Bool} → Begun f starts → Begun g others
    → Begun (read_either starts f g) (one_of starts others)
begun_either starts {f} {g} {others} left right = record { accepts = λ t rest s told. accepted t rest (starts t) refl s told; refuses = refused } where
  accepted : (t : Token) (rest : List Token) (b : Bool) → starts t ≡ b → (starts t || others t) ≡ true → read_either starts f g (t ∷ rest) ≡ Err (Syntax (t ∷ rest)) → ⊥
  accepted t rest true e s told = let same : read_either starts f g (t ∷ rest) ≡ f (t ∷ rest) = rw e refl in left.accepts t rest e (sym same ∙ told)
  accepted t rest false e s told =
      let same : read_either starts f g (t ∷ rest) ≡ g (t ∷ rest) = rw e refl in
      let begun : others t ≡ true = ap (λ b. b || others t) (sym e) ∙ s in right.accepts t rest begun (sym same ∙ told)

  refused_by : (t : Token) (rest : List Token) (b : Bool) → starts t ≡ b → (starts t || others t) ≡ false → read_either starts f g (t ∷ rest) ≡ Err (Syntax (t ∷ rest))
  refused_by t rest true e s = absurd (cc)
  refused_by t rest false e s =
      let same : read_either starts f g (t ∷ rest) ≡ g (t ∷ rest) = rw e refl in
      let gone : others t ≡ false = ap (λ b. b || others t) (sym e) ∙ s in same ∙ right.refuses (t ∷ rest) gone

  refused : (ts : List Token) → begins (one_of starts others) ts ≡ false → read_either starts f g ts ≡ Err (Syntax ts)
  refused [] s = right.refuses [] refl
  refused (t ∷ rest) s = refused_by t rest (starts t) refl s
