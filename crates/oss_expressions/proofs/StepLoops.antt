-- How steps go on, as a loop needs it, and that a step takes a token.
use Rattle.std.proofs.Common.{◌≡◌, ℕ, zero, suc, ◌<◌, ◌≤◌, Bool, true, false, List, [], ◌∷◌, length, refl, sym, ap, ◌∙◌, arith, Option, Some, None, Result, Ok, Err}
use Rattle.oss_syntax.specs.declared.token.Token.{Token}
use Rattle.oss_grammar.specs.Reading.{Reader, Stop, begins, go_on, read_then, token_told, read_one, read_nothing, read_mapped, read_both, read_either, read_steps_within, read_steps, read_too_deep}

-- A reader that takes a token at least, where it reads a value, and one that takes any number.
pub record Takes {A : Type 0} (f : Reader A) : Type 0 where
  pub less : (ts : List Token) (value : A) (rest : List Token) → f ts ≡ Ok (value, rest) → length rest < length ts

pub record Keeps {A : Type 0} (f : Reader A) : Type 0 where
  pub most : (ts : List Token) (value : A) (rest : List Token) → f ts ≡ Ok (value, rest) → length rest ≤ length ts

pub keeps : {A : Type 0} {f : Reader A} → Takes f → Keeps f
keeps takes = record { most = λ ts value rest e. let h = takes.less ts value rest e in omega arith }

-- what a reader that goes on has read
record Then {A B : Type 0} (o : Result (A × List Token) Stop) (go : A → List Token → Result (B × List Token) Stop) (value : B) (rest : List Token) : Type 0 where
  part : A
  left : List Token
  before : o ≡ Ok (part, left)
  after : go part left ≡ Ok (value, rest)

then_is : {A B : Type 0} (o : Result (A × List Token) Stop) (go : A → List Token → Result (B × List Token) Stop) (value : B) (rest : List Token) → go_on o go ≡ Ok (value, rest) → Then o go value rest
then_is (Err stop) go value rest e = absurd (cc)
then_is (Ok p) go value rest e = record { part = p.0; left = p.1; before = refl; after = e }

-- what a reader tells
abbrev pub told : {A : Type 0} → A → List Token → Result (A × List Token) Stop
told a rest = Ok (a, rest)

abbrev pub halted : (A : Type 0) → Stop → Result (A × List Token) Stop
halted A stop = Err stop

pub ok_rest : {A : Type 0} (a b : A) (xs ys : List Token) → told a xs ≡ told b ys → xs ≡ ys
ok_rest {A} a b xs ys e = let p : A × List Token = (a, xs) in let q : A × List Token = (b, ys) in let s : p ≡ q = cc in ap (λ (r : A × List Token). r.1) s

ok_value : {A : Type 0} (a b : A) (xs ys : List Token) → told a xs ≡ told b ys → a ≡ b
ok_value {A} a b xs ys e = let p : A × List Token = (a, xs) in let q : A × List Token = (b, ys) in let s : p ≡ q = cc in ap (λ (r : A × List Token). r.0) s

one_less : {A : Type 0} (t : Token) (ts : List Token) (o : Option A) (value : A) (rest : List Token) → token_told t ts o ≡ Ok (value, rest) → length rest < length (t ∷ ts)
one_less t ts None value rest e = absurd (cc)
one_less t ts (Some a) value rest e = let same : ts ≡ rest = ok_rest a value ts rest e in rw (sym same) (omega arith)

one_first : {A : Type 0} (test : Token → Option A) (ts : List Token) (value : A) (rest : List Token) → read_one test ts ≡ Ok (value, rest) → length rest < length ts
one_first test [] value rest e = absurd (cc)
one_first test (t ∷ ts) value rest e = one_less t ts (test t) value rest e

pub takes_one : {A : Type 0} (test : Token → Option A) → Takes (read_one test)
takes_one test = record { less = one_first test }

pub keeps_nothing : {A : Type 0} (value : A) → Keeps (read_nothing value)
keeps_nothing value = record { most = λ ts other rest e. let same : ts ≡ rest = ok_rest value other ts rest e in rw same (omega arith) }

pub takes_mapped : {A B : Type 0} (make : A → B) {f : Reader A} → Takes f → Takes (read_mapped make f)
takes_mapped make {f = f} part = record {
  less = λ ts value rest e.
      let w = then_is (f ts) (λ a left. Ok (make a, left)) value rest e in
      let h = part.less ts w.part w.left w.before in
      let same : w.left ≡ rest = ok_rest (make w.part) value w.left rest w.after in
      rw (sym same) h;
}

pub keeps_mapped : {A B : Type 0} (make : A → B) {f : Reader A} → Keeps f → Keeps (read_mapped make f)
keeps_mapped make {f = f} part = record {
  most = λ ts value rest e.
      let w = then_is (f ts) (λ a left. Ok (make a, left)) value rest e in
      let h = part.most ts w.part w.left w.before in
      let same : w.left ≡ rest = ok_rest (make w.part) value w.left rest w.after in
      rw (sym same) h;
}

-- a part that takes a token, and then one that its value chooses
pub takes_then : {A B : Type 0} {f : Reader A} (go : A → Reader B) → Takes f → ((a : A) → Keeps (go a)) → Takes (read_then f go)
takes_then {f = f} go part second = record {
  less = λ ts value rest e.
      let w = then_is (f ts) go value rest e in
      let h = part.less ts w.part w.left w.before in
      let k = (second w.part).most w.left value rest w.after in
      omega arith;
}

pub takes_both : {A B : Type 0} {f : Reader A} {g : Reader B} → Takes f → Keeps g → Takes (read_both f g)
takes_both {A} {B} {f = f} {g = g} part second = record {
  less = λ ts value rest e.
      let w = then_is (f ts) (λ a left. go_on (g left) (λ b end. Ok ((a, b), end))) value rest e in
      let h = part.less ts w.part w.left w.before in
      let v = then_is (g w.left) (λ b end. Ok ((w.part, b), end)) value rest w.after in
      let k = second.most w.left v.part v.left v.before in
      let same : v.left ≡ rest = ok_rest {A = A × B} (w.part, v.part) value v.left rest v.after in
      rw (sym same) (omega arith);
}

keeps_both : {A B : Type 0} {f : Reader A} {g : Reader B} → Keeps f → Keeps g → Keeps (read_both f g)
keeps_both {A} {B} {f = f} {g = g} part second = record {
  most = λ ts value rest e.
      let w = then_is (f ts) (λ a left. go_on (g left) (λ b end. Ok ((a, b), end))) value rest e in
      let h = part.most ts w.part w.left w.before in
      let v = then_is (g w.left) (λ b end. Ok ((w.part, b), end)) value rest w.after in
      let k = second.most w.left v.part v.left v.before in
      let same : v.left ≡ rest = ok_rest {A = A × B} (w.part, v.part) value v.left rest v.after in
      rw (sym same) (omega arith);
}

either_less : {A : Type 0} (starts : Token → Bool) {f g : Reader A} → Takes f → Takes g → (b : Bool) (ts : List Token) (value : A) (rest : List Token) → begins starts ts ≡ b
    → read_either starts f g ts ≡ Ok (value, rest) → length rest < length ts
either_less starts one other true ts value rest e r = one.less ts value rest (rw e at r)
either_less starts one other false ts value rest e r = other.less ts value rest (rw e at r)

pub takes_either : {A : Type 0} (starts : Token → Bool) {f g : Reader A} → Takes f → Takes g → Takes (read_either starts f g)
takes_either starts one other = record { less = λ ts value rest r. either_less starts one other (begins starts ts) ts value rest refl r }

either_most : {A : Type 0} (starts : Token → Bool) {f g : Reader A} → Keeps f → Keeps g → (b : Bool) (ts : List Token) (value : A) (rest : List Token) → begins starts ts ≡ b
    → read_either starts f g ts ≡ Ok (value, rest) → length rest ≤ length ts
either_most starts one other true ts value rest e r = one.most ts value rest (rw e at r)
either_most starts one other false ts value rest e r = other.most ts value rest (rw e at r)

pub keeps_either : {A : Type 0} (starts : Token → Bool) {f g : Reader A} → Keeps f → Keeps g → Keeps (read_either starts f g)
keeps_either starts one other = record { most = λ ts value rest r. either_most starts one other (begins starts ts) ts value rest refl r }

pub too_deep : {A : Type 0} (deepens : Token → Bool) (b : Bool) (ts : List Token) (value : A) (rest : List Token) → begins deepens ts ≡ b → read_too_deep deepens ts ≡ Ok (value, rest) → length rest < length ts
too_deep {A} deepens true ts value rest e r = let none : halted A (Stop.Deep ts) ≡ Ok (value, rest) = rw e at r in absurd (cc)
too_deep {A} deepens false ts value rest e r = let none : halted A (Stop.Syntax ts) ≡ Ok (value, rest) = rw e at r in absurd (cc)

-- steps, none of which gives tokens back
steps_most : {S : Type 0} (starts : S → Token → Bool) (step : S → Reader S) → ((s : S) → Keeps (step s)) → (n : ℕ) (s : S) (b : Bool) (ts : List Token) (value : S) (rest : List Token) → begins (starts s) ts ≡ b
    → read_steps_within starts step n s ts ≡ told value rest → length rest ≤ length ts
steps_most {S = S} starts step each zero s true ts value rest e r = absurd (let none : halted S (Stop.Syntax ts) ≡ told value rest = rw e at r in cc)
steps_most starts step each zero s false ts value rest e r =
    let read : told s ts ≡ told value rest = rw e at r in let same : ts ≡ rest = ok_rest s value ts rest read in rw same (omega arith)
steps_most starts step each (suc n) s false ts value rest e r =
    let read : told s ts ≡ told value rest = rw e at r in let same : ts ≡ rest = ok_rest s value ts rest read in rw same (omega arith)
steps_most starts step each (suc n) s true ts value rest e r =
    let w = then_is (step s ts) (λ next left. read_steps_within starts step n next left) value rest (rw e at r) in
    let h = (each s).most ts w.part w.left w.before in
    let k = steps_most starts step each n w.part (begins (starts w.part) w.left) w.left value rest refl w.after in
    omega arith

pub keeps_steps : {S : Type 0} (starts : S → Token → Bool) (step : S → Reader S) → ((s : S) → Keeps (step s)) → (s : S) → Keeps (read_steps starts step s)
unfolding read_steps
keeps_steps starts step each s = record { most = λ ts value rest r. steps_most starts step each (length ts) s (begins (starts s) ts) ts value rest refl r }

-- Steps that join a part to the value so far, as a loop needs it.
pub record Repeats {S A : Type 0} (starts : S → Token → Bool) (join : S → A → S) (part : S → Reader A) : Type 0 where
  pub stop : (s : S) (ts : List Token) → begins (starts s) ts ≡ false → read_steps starts (λ s. read_mapped (join s) (part s)) s ts ≡ told s ts
  pub fail : (s : S) (ts : List Token) (why : Stop) → begins (starts s) ts ≡ true → part s ts ≡ Err why → read_steps starts (λ s. read_mapped (join s) (part s)) s ts ≡ Err why
  pub go : (s : S) (ts : List Token) (a : A) (rest : List Token) → begins (starts s) ts ≡ true → part s ts ≡ told a rest
      → read_steps starts (λ s. read_mapped (join s) (part s)) s ts ≡ read_steps starts (λ s. read_mapped (join s) (part s)) (join s a) rest
  pub less : (s : S) (ts : List Token) (a : A) (rest : List Token) → part s ts ≡ told a rest → length rest < length ts

module _ {S A : Type 0} (starts : S → Token → Bool) (join : S → A → S) (part : S → Reader A) (each : (s : S) → Takes (part s)) where
  abbrev step : S → Reader S
  step s = read_mapped (join s) (part s)

  stops : (n : ℕ) (s : S) (ts : List Token) → begins (starts s) ts ≡ false → read_steps_within starts step n s ts ≡ told s ts
  stops zero s ts e = rw e refl
  stops (suc n) s ts e = rw e refl

  -- more room for steps than tokens changes nothing
  same_behind : (m n : ℕ) (s : S) (ts : List Token) (o : Result (A × List Token) Stop) → part s ts ≡ o
      → ((next : S) (rest : List Token) → length rest < length ts → read_steps_within starts step m next rest ≡ read_steps_within starts step n next rest)
      → go_on (go_on o (λ a rest. told (join s a) rest)) (λ next rest. read_steps_within starts step m next rest)
      ≡ go_on (go_on o (λ a rest. told (join s a) rest)) (λ next rest. read_steps_within starts step n next rest)
  same_behind m n s ts (Err why) r same = refl
  same_behind m n s ts (Ok p) r same = same (join s p.0) p.1 ((each s).less ts p.0 p.1 r)

  enough : (m n : ℕ) (b : Bool) (s : S) (ts : List Token) → begins (starts s) ts ≡ b → length ts ≤ m → length ts ≤ n → read_steps_within starts step m s ts ≡ read_steps_within starts step n s ts
  enough m n false s ts e small small' = stops m s ts e ∙ sym (stops n s ts e)
  enough m n true s [] e small small' = absurd (cc)
  enough zero n true s (t ∷ ts) e small small' = absurd (omega arith)
  enough (suc m) zero true s (t ∷ ts) e small small' = absurd (omega arith)
  enough (suc m) (suc n) true s (t ∷ ts) e small small' =
      rw e (same_behind m n s (t ∷ ts) (part s (t ∷ ts)) refl (λ next rest less. enough m n (begins (starts next) rest) next rest refl (omega arith) (omega arith)))

  steps_stop : (s : S) (ts : List Token) → begins (starts s) ts ≡ false → read_steps starts step s ts ≡ told s ts
  unfolding read_steps
  steps_stop s ts e = stops (length ts) s ts e

  steps_fail : (s : S) (ts : List Token) (why : Stop) → begins (starts s) ts ≡ true → part s ts ≡ Err why → read_steps starts step s ts ≡ Err why
  unfolding read_steps
  steps_fail s [] why e r = absurd (cc)
  steps_fail s (t ∷ ts) why e r = rw (e, r) refl

  steps_go : (s : S) (ts : List Token) (a : A) (rest : List Token) → begins (starts s) ts ≡ true → part s ts ≡ told a rest → read_steps starts step s ts ≡ read_steps starts step (join s a) rest
  unfolding read_steps
  steps_go s [] a rest e r = absurd (cc)
  steps_go s (t ∷ ts) a rest e r =
      let less : length rest < length (t ∷ ts) = (each s).less (t ∷ ts) a rest r in
      rw (e, r) (enough (length ts) (length rest) (begins (starts (join s a)) rest) (join s a) rest refl (omega arith) (omega arith))

  pub repeats : Repeats starts join part
  repeats = record { stop = steps_stop; fail = steps_fail; go = steps_go; less = λ s ts a rest r. (each s).less ts a rest r }
