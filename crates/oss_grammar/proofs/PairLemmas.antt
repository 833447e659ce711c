-- A part before one whose first token is known: the forms of `exact_then` that most of a grammar needs.
use Rattle.std.proofs.Common.{◌≡◌, Bool, true, false, List, [], ◌∷◌, ◌++◌, refl, sym, ◌∙◌, subst, Result}
use Rattle.std.proofs.lemmas.List.{append-nil}
use Rattle.oss_syntax.specs.declared.token.Token.{Token}
use Rattle.oss_grammar.specs.Fronts.{Viable}
use Rattle.oss_grammar.specs.Grammar.{Both, Mapped}
use Rattle.oss_grammar.specs.Reading.{Stop, begins, read_then, read_mapped, read_both}
use Rattle.oss_grammar.proofs.Parts.{Exact, Begun, stopped, member_begins, deep_begins, exact_as}
use Rattle.oss_grammar.proofs.PartLemmas.{Then, ThenDeep, exact_then, begun_then, exact_mapped, begun_mapped}
use Rattle.oss_grammar.proofs.StepLemmas.{none_goes}

-- a part has some text
pub some_text : {A : Type 0} {f : List Token → Result (A × List Token) Stop} {U : List Token → A → Type 0} {B : List Token → Token → Type 0} {goes starts : Token → Bool} → Exact f U B goes → Begun f starts → Viable U []
some_text {U = U} part first = let w = stopped part [] [] (first.refuses [] refl) in subst (λ ys. Viable U ys) (sym (w.split ∙ append-nil w.front)) w.viable

-- a part, and then one that its value chooses, whose first token goes on with nothing
module _ {A B : Type 0} {f : List Token → Result (A × List Token) Stop} {go : A → List Token → Result (B × List Token) Stop} {U : List Token → A → Type 0} {V : A → List Token → B → Type 0}
    {D : List Token → Token → Type 0} {E : A → List Token → Token → Type 0} {first second : Token → Bool} {starts : A → Token → Bool} (left : Exact f U D first) (right : (a : A) → Exact (go a) (V a) (E a) second)
    (begun : (a : A) → Begun (go a) (starts a)) (follow : (a : A) (t : Token) → starts a t ≡ true → first t ≡ false) where
  next_apart : (a : A) (ys : List Token) (b : B) (rest : List Token) → V a ys b → begins second rest ≡ false → begins first (ys ++ rest) ≡ false
  next_apart a ys b rest w free = none_goes (starts a) first (follow a) (ys ++ rest) (member_begins (right a) (begun a) ys b rest w)

  next_apart_deep : (a : A) (ys : List Token) (t : Token) (rest : List Token) → E a ys t → begins first (ys ++ (t ∷ rest)) ≡ false
  next_apart_deep a ys t rest w = none_goes (starts a) first (follow a) (ys ++ (t ∷ rest)) (deep_begins (right a) (begun a) ys t rest w)

  pub exact_next : Exact (read_then f go) (Then U V) (ThenDeep D U E) second
  exact_next = exact_then left right next_apart next_apart_deep (λ a. some_text (right a) (begun a))

  pub begun_next : {starts_first : Token → Bool} → Begun f starts_first → Begun (read_then f go) starts_first
  begun_next begins_first = begun_then left right next_apart next_apart_deep (λ a. some_text (right a) (begun a)) begins_first

-- a part, and then another whose first token goes on with nothing
module _ {A B : Type 0} {f : List Token → Result (A × List Token) Stop} {g : List Token → Result (B × List Token) Stop} {U : List Token → A → Type 0} {V : List Token → B → Type 0}
    {D E : List Token → Token → Type 0} {first second : Token → Bool} {starts : Token → Bool} (left : Exact f U D first) (right : Exact g V E second)
    (begun : Begun g starts) (follow : (t : Token) → starts t ≡ true → first t ≡ false) where
  abbrev with_first : A → B → A × B
  with_first a b = (a, b)

  paired : (a : A) → Exact (read_mapped (with_first a) g) (Mapped (with_first a) V) E second
  paired a = exact_mapped (with_first a) right

  begun_paired : (a : A) → Begun (read_mapped (with_first a) g) starts
  begun_paired a = begun_mapped (with_first a) begun

  joined : (xs : List Token) (p : A × B) → Then U (λ a. Mapped (with_first a) V) xs p → Both U V xs p
  joined xs p w = record {
    front = w.front;
    back = w.back;
    split = w.split;
    before = subst (λ (q : A × B). U w.front q.0) w.behind.made w.before;
    behind = subst (λ (q : A × B). V w.back q.1) w.behind.made w.behind.whole;
  }

  parted : (xs : List Token) (p : A × B) → Both U V xs p → Then U (λ a. Mapped (with_first a) V) xs p
  parted xs p w = record { front = w.front; back = w.back; value = p.0; split = w.split; before = w.before; behind = record { part = p.1; made = refl; whole = w.behind } }

  pub exact_both : Exact (read_both f g) (Both U V) (ThenDeep D U (λ a. E)) second
  exact_both = exact_as joined parted (λ xs t w. w) (λ xs t w. w) (exact_next left paired begun_paired (λ a. follow))

  pub begun_both : {starts_first : Token → Bool} → Begun f starts_first → Begun (read_both f g) starts_first
  begun_both begins_first = begun_next left paired begun_paired (λ a. follow) begins_first
