-- What is proved of a reader against a grammar without a limit and the places at which it passes one, and what follows at once.
use Rattle.std.proofs.Common.{◌≡◌, Bool, true, false, List, [], ◌∷◌, ◌++◌, refl, sym, ap, ◌∙◌, subst, append_assoc, ◌⊎◌, inl, inr, Result, Ok, Err}
use Rattle.std.proofs.lemmas.List.{append-nil}
use Rattle.oss_syntax.specs.declared.token.Token.{Token}
use Rattle.oss_grammar.specs.Fronts.{Viable}
use Rattle.oss_grammar.specs.Reading.{Stop, begins}
use Rattle.oss_grammar.specs.Reading.Stop.{Syntax, Deep}

-- other tokens are none, or begin with the same one
abbrev pub AtSame : List Token → List Token → Type 0
AtSame place [] = Unit
AtSame [] (u ∷ other) = ⊥
AtSame (t ∷ behind) (u ∷ other) = t ≡ u

-- what a reader took: the front is in the grammar, and it is read so whatever stands behind the token that follows, also at the end
pub record Taken {A : Type 0} (f : List Token → Result (A × List Token) Stop) (U : List Token → A → Type 0) (ts : List Token) (value : A) (rest : List Token) : Type 0 where
  pub front : List Token
  pub split : ts ≡ front ++ rest
  pub whole : U front value
  pub steady : (other : List Token) → AtSame rest other → f (front ++ other) ≡ Ok (value, other)

-- where a reader stopped for syntax: the front can be completed, and reading stops there whatever stands behind the token at which
-- it stopped, also at the end
pub record Stopped {A : Type 0} (f : List Token → Result (A × List Token) Stop) (U : List Token → A → Type 0) (ts place : List Token) : Type 0 where
  pub front : List Token
  pub split : ts ≡ front ++ place
  pub viable : Viable U front
  pub steady : (other : List Token) → AtSame place other → f (front ++ other) ≡ Err (Syntax other)

-- where a limit is passed
pub record Sunk (B : List Token → Token → Type 0) (ts place : List Token) : Type 0 where
  pub front : List Token
  pub token : Token
  pub behind : List Token
  pub at : place ≡ token ∷ behind
  pub split : ts ≡ front ++ place
  pub deep : B front token

abbrev pub IsRead : {A : Type 0} → (List Token → Result (A × List Token) Stop) → (List Token → A → Type 0) → (List Token → Token → Type 0) → List Token → Result (A × List Token) Stop → Type 0
IsRead f U B ts (Ok read) = Taken f U ts read.0 read.1
IsRead f U B ts (Err (Syntax place)) = Stopped f U ts place
IsRead f U B ts (Err (Deep place)) = Sunk B ts place

-- within these tokens a limit is passed, and reading stops there whatever follows
pub record Sinks {A : Type 0} (f : List Token → Result (A × List Token) Stop) (B : List Token → Token → Type 0) (xs : List Token) : Type 0 where
  pub front : List Token
  pub token : Token
  pub more : List Token
  pub split : xs ≡ front ++ (token ∷ more)
  pub deep : B front token
  pub steady : (other : List Token) → f (front ++ (token ∷ other)) ≡ Err (Deep (token ∷ other))

-- a reader reads a grammar exactly, as far as no limit is passed: what it tells is so; what is in the grammar is read where nothing
-- follows with which it may go on; and it stops where a limit is passed
pub record Exact {A : Type 0} (f : List Token → Result (A × List Token) Stop) (U : List Token → A → Type 0) (B : List Token → Token → Type 0) (goes : Token → Bool) : Type 0 where
  pub reads : (ts : List Token) → IsRead f U B ts (f ts)
  pub again : (xs : List Token) (value : A) → U xs value → ((rest : List Token) → begins goes rest ≡ false → f (xs ++ rest) ≡ Ok (value, rest)) ⊎ Sinks f B xs
  pub sinks : (xs : List Token) (t : Token) → B xs t → Sinks f B (xs ++ (t ∷ []))
  pub begun : (xs : List Token) (t : Token) → B xs t → Viable U (xs ++ (t ∷ []))

-- a reader stops at once just where the first token fails the test
pub record Begun {A : Type 0} (f : List Token → Result (A × List Token) Stop) (starts : Token → Bool) : Type 0 where
  pub accepts : (t : Token) (rest : List Token) → starts t ≡ true → f (t ∷ rest) ≡ Err (Syntax (t ∷ rest)) → ⊥
  pub refuses : (ts : List Token) → begins starts ts ≡ false → f ts ≡ Err (Syntax ts)

pub ok_is : {A B : Type 0} (o : Result A B) (p q : A) → o ≡ Ok p → o ≡ Ok q → p ≡ q
ok_is o p q e e' = cc

pub begun_or_not : (b : Bool) → (b ≡ true) ⊎ (b ≡ false)
begun_or_not true = inl refl
begun_or_not false = inr refl

-- a front of a front that can be completed can be completed
pub viable_front : {A : Type 0} (U : List Token → A → Type 0) (xs ys : List Token) → Viable U (xs ++ ys) → Viable U xs
viable_front U xs ys v = record { more = ys ++ v.more; value = v.value; member = subst (λ zs. U zs v.value) (append_assoc xs ys v.more) v.member }

pub viable_whole : {A : Type 0} (U : List Token → A → Type 0) (xs : List Token) (value : A) → U xs value → Viable U xs
viable_whole U xs value w = record { more = []; value = value; member = subst (λ zs. U zs value) (sym (append-nil xs)) w }

-- what begins as what was taken before it does
pub same_behind : (xs mid rest other : List Token) → mid ≡ xs ++ rest → AtSame rest other → AtSame mid (xs ++ other)
same_behind [] mid rest other e same = subst (λ ys. AtSame ys other) (sym e) same
same_behind (x ∷ xs) mid rest other e same = subst (λ ys. AtSame ys (x ∷ (xs ++ other))) (sym e) refl

pub still_begins : (test : Token → Bool) (x : Token) (xs ts place other : List Token) (b : Bool) → begins test ts ≡ b → ts ≡ (x ∷ xs) ++ place → begins test ((x ∷ xs) ++ other) ≡ b
still_begins test x xs ts place other b e split = ap (begins test) (sym split) ∙ e

pub still_fails : (test : Token → Bool) (xs ts place other : List Token) → begins test ts ≡ false → ts ≡ xs ++ place → AtSame place other → begins test (xs ++ other) ≡ false
still_fails test (x ∷ xs) ts place other e split same = still_begins test x xs ts place other false e split
still_fails test [] ts place [] e split same = refl
still_fails test [] ts [] (u ∷ other) e split same = absurd same
still_fails test [] ts (t ∷ behind) (u ∷ other) e split same = ap test (sym same) ∙ (ap (begins test) (sym split) ∙ e)

-- where a limit is passed, reading stops for it with more behind
pub sinks_read : {A : Type 0} {f : List Token → Result (A × List Token) Stop} {B : List Token → Token → Type 0} (xs : List Token) (s : Sinks f B xs) (rest : List Token)
    → f (xs ++ rest) ≡ Err (Deep (s.token ∷ (s.more ++ rest)))
sinks_read {f = f} xs s rest = ap f (ap (λ ys. ys ++ rest) s.split ∙ append_assoc s.front (s.token ∷ s.more) rest) ∙ s.steady (s.more ++ rest)

module _ {A : Type 0} {f : List Token → Result (A × List Token) Stop} {U : List Token → A → Type 0} {B : List Token → Token → Type 0} {goes : Token → Bool} (part : Exact f U B goes) where
  pub taken : (ts : List Token) (value : A) (rest : List Token) → f ts ≡ Ok (value, rest) → Taken f U ts value rest
  taken ts value rest e = subst (λ r. IsRead f U B ts r) e (part.reads ts)

  pub stopped : (ts place : List Token) → f ts ≡ Err (Syntax place) → Stopped f U ts place
  stopped ts place e = subst (λ r. IsRead f U B ts r) e (part.reads ts)

  pub sunk : (ts place : List Token) → f ts ≡ Err (Deep place) → Sunk B ts place
  sunk ts place e = subst (λ r. IsRead f U B ts r) e (part.reads ts)

  module _ {starts : Token → Bool} (first : Begun f starts) where
    -- the grammar has not the empty list
    pub not_empty : (value : A) → U [] value → ⊥
    not_empty value w = from_again (part.again [] value w) where
      from_again : ((rest : List Token) → begins goes rest ≡ false → f rest ≡ Ok (value, rest)) ⊎ Sinks f B [] → ⊥
      from_again (inl read) = let e : f [] ≡ Ok (value, []) = read [] refl in let stop : f [] ≡ Err (Syntax []) = first.refuses [] refl in absurd (cc)
      from_again (inr s) = let e : f [] ≡ Err (Deep (s.token ∷ (s.more ++ []))) = sinks_read [] s [] in let stop : f [] ≡ Err (Syntax []) = first.refuses [] refl in absurd (cc)

    -- each text of it begins as the test says, and so does each front behind which a limit is passed
    pub first_token : (t : Token) (xs : List Token) (value : A) → U (t ∷ xs) value → (b : Bool) → starts t ≡ b → b ≡ true
    first_token t xs value w true e = refl
    first_token t xs value w false e = from_again (part.again (t ∷ xs) value w) where
      from_again : ((rest : List Token) → begins goes rest ≡ false → f ((t ∷ xs) ++ rest) ≡ Ok (value, rest)) ⊎ Sinks f B (t ∷ xs) → false ≡ true
      from_again (inl read) =
          let o : f (t ∷ (xs ++ [])) ≡ Ok (value, []) = read [] refl in let stop : f (t ∷ (xs ++ [])) ≡ Err (Syntax (t ∷ (xs ++ []))) = first.refuses (t ∷ (xs ++ [])) e in absurd (cc)
      from_again (inr s) =
          let o : f (t ∷ (xs ++ [])) ≡ Err (Deep (s.token ∷ (s.more ++ []))) = sinks_read (t ∷ xs) s [] in
          let stop : f (t ∷ (xs ++ [])) ≡ Err (Syntax (t ∷ (xs ++ []))) = first.refuses (t ∷ (xs ++ [])) e in absurd (cc)

    pub member_begins : (xs : List Token) (value : A) (rest : List Token) → U xs value → begins starts (xs ++ rest) ≡ true
    member_begins [] value rest w = absurd (not_empty value w)
    member_begins (t ∷ xs) value rest w = first_token t xs value w (starts t) refl

    pub deep_begins : (xs : List Token) (t : Token) (rest : List Token) → B xs t → begins starts (xs ++ (t ∷ rest)) ≡ true
    deep_begins [] t rest w = let v = part.begun [] t w in first_token t v.more v.value v.member (starts t) refl
    deep_begins (x ∷ xs) t rest w = let v = part.begun (x ∷ xs) t w in first_token x ((xs ++ (t ∷ [])) ++ v.more) v.value v.member (starts x) refl

    pub some_member : (t : Token) (xs : List Token) (value : A) → U (t ∷ xs) value → starts t ≡ true
    some_member t xs value w = first_token t xs value w (starts t) refl

    -- what begins a part takes at least one token
    pub takes_some : (ts : List Token) (value : A) (rest : List Token) → f ts ≡ Ok (value, rest) → (w : Taken f U ts value rest) → w.front ≡ [] → ⊥
    takes_some ts value rest e w none = not_empty value (subst (λ xs. U xs value) none w.whole)

-- the same with another grammar that has the same texts, and other places of the same limit
pub exact_as : {A : Type 0} {f : List Token → Result (A × List Token) Stop} {U K : List Token → A → Type 0} {B Q : List Token → Token → Type 0} {goes : Token → Bool}
    → ((xs : List Token) (a : A) → U xs a → K xs a) → ((xs : List Token) (a : A) → K xs a → U xs a) → ((xs : List Token) (t : Token) → B xs t → Q xs t) → ((xs : List Token) (t : Token) → Q xs t → B xs t)
    → Exact f U B goes → Exact f K Q goes
exact_as {A} {f} {U} {K} {B} {Q} {goes} into back deeper upper part = record {
  reads = λ ts. read_as ts (f ts) (part.reads ts);
  again = λ xs value w. again_as xs value (part.again xs value (back xs value w));
  sinks = λ xs t w. sinks_as (xs ++ (t ∷ [])) (part.sinks xs t (upper xs t w));
  begun = λ xs t w. viable_as (xs ++ (t ∷ [])) (part.begun xs t (upper xs t w));
} where
  viable_as : (xs : List Token) → Viable U xs → Viable K xs
  viable_as xs v = record { more = v.more; value = v.value; member = into (xs ++ v.more) v.value v.member }

  read_as : (ts : List Token) (r : Result (A × List Token) Stop) → IsRead f U B ts r → IsRead f K Q ts r
  read_as ts (Ok p) w = record { front = w.front; split = w.split; whole = into w.front p.0 w.whole; steady = w.steady }
  read_as ts (Err (Syntax place)) w = record { front = w.front; split = w.split; viable = viable_as w.front w.viable; steady = w.steady }
  read_as ts (Err (Deep place)) w = record { front = w.front; token = w.token; behind = w.behind; at = w.at; split = w.split; deep = deeper w.front w.token w.deep }

  sinks_as : (xs : List Token) → Sinks f B xs → Sinks f Q xs
  sinks_as xs s = record { front = s.front; token = s.token; more = s.more; split = s.split; deep = deeper s.front s.token s.deep; steady = s.steady }

  again_as : (xs : List Token) (value : A) → ((rest : List Token) → begins goes rest ≡ false → f (xs ++ rest) ≡ Ok (value, rest)) ⊎ Sinks f B xs
      → ((rest : List Token) → begins goes rest ≡ false → f (xs ++ rest) ≡ Ok (value, rest)) ⊎ Sinks f Q xs
  again_as xs value (inl read) = inl read
  again_as xs value (inr s) = inr (sinks_as xs s)

-- the same of a reader that tells the same
pub exact_same : {A : Type 0} {f g : List Token → Result (A × List Token) Stop} {U : List Token → A → Type 0} {B : List Token → Token → Type 0} {goes : Token → Bool}
    → f ≡ g → Exact f U B goes → Exact g U B goes
exact_same {U = U} {B = B} {goes = goes} e part = subst (λ h. Exact h U B goes) e part

-- fewer tokens may follow
pub exact_before : {A : Type 0} {f : List Token → Result (A × List Token) Stop} {U : List Token → A → Type 0} {B : List Token → Token → Type 0} (goes less : Token → Bool)
    → ((rest : List Token) → begins less rest ≡ false → begins goes rest ≡ false) → Exact f U B goes → Exact f U B less
exact_before {A} {f} {U} {B} goes less fewer part = record { reads = part.reads; again = λ xs value w. again_before xs value (part.again xs value w); sinks = part.sinks; begun = part.begun } where
  again_before : (xs : List Token) (value : A) → ((rest : List Token) → begins goes rest ≡ false → f (xs ++ rest) ≡ Ok (value, rest)) ⊎ Sinks f B xs
      → ((rest : List Token) → begins less rest ≡ false → f (xs ++ rest) ≡ Ok (value, rest)) ⊎ Sinks f B xs
  again_before xs value (inl read) = inl (λ rest free. read rest (fewer rest free))
  again_before xs value (inr s) = inr s
