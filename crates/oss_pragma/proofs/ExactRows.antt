-- Readers of any number of parts, each of which may depend on those before it, are exact, if those of the parts are.
use Rattle.std.proofs.Common.{◌≡◌, Bool, true, false, List, [], ◌∷◌, ◌++◌, refl, sym, ap, ◌∙◌, subst, append_assoc, Result}
use Rattle.std.proofs.lemmas.List.{append-nil}
use Rattle.oss_syntax.specs.declared.token.Token.{Token}
use Rattle.oss_grammar.specs.Grammar.{Mapped}
use Rattle.oss_grammar.specs.Reading.{Stop, read_mapped, read_steps}
use Rattle.oss_grammar.proofs.Parts.{Exact, Begun, exact_as}
use Rattle.oss_grammar.proofs.PartLemmas.{exact_mapped, begun_mapped}
use Rattle.oss_grammar.proofs.StepLemmas.{Steps, StepsDeep, exact_steps}
use Rattle.oss_grammar.proofs.StepLemmas.Steps.{over, once_more}
use Rattle.oss_grammar.proofs.StepLemmas.StepsDeep.{in_this, in_later}
use Rattle.oss_expressions.specs.ExpressionReading.{and_then}

-- any number of parts, each behind those that were found before it
pub data Rows {A : Type 0} (G : List A → List Token → A → Type 0) : List A → List Token → List A → Type 0 where
  no_row : {found : List A} {xs : List Token} → xs ≡ [] → Rows G found xs []
  next_row : {found more : List A} {v : A} {xs : List Token} (front back : List Token) → xs ≡ front ++ back → G found front v → Rows G (and_then found v) back more → Rows G found xs (v ∷ more)

-- the parts that were found, and these behind them
pub record RowsEnd {A : Type 0} (G : List A → List Token → A → Type 0) (found : List A) (xs : List Token) (all : List A) : Type 0 where
  pub more : List A
  pub ends : found ++ more ≡ all
  pub rows : Rows G found xs more

-- a limit is passed in a part behind others
pub record RowsDeep {A : Type 0} (G : List A → List Token → A → Type 0) (D : List A → List Token → Token → Type 0) (found : List A) (xs : List Token) (t : Token) : Type 0 where
  pub front : List Token
  pub back : List Token
  pub more : List A
  pub split : xs ≡ front ++ back
  pub rows : Rows G found front more
  pub deep : D (found ++ more) back t

module _ {A : Type 0} {starts : List A → Token → Bool} {f : List A → List Token → Result (A × List Token) Stop} {G : List A → List Token → A → Type 0} {D : List A → List Token → Token → Type 0} {part_goes goes : Token → Bool}
    (part : (found : List A) → Exact (f found) (G found) (D found) part_goes) (first : (found : List A) → Begun (f found) (starts found))
    (apart : (found : List A) (t : Token) → starts found t ≡ true → part_goes t ≡ false) (covers : (found : List A) (t : Token) → goes t ≡ false → starts found t ≡ false) (includes : (t : Token) → goes t ≡ false → part_goes t ≡ false) where
  abbrev Stepped : List A → List Token → List A → Type 0
  Stepped found xs next = Mapped (and_then found) (G found) xs next

  one_more : (found more all : List A) (v : A) (next : List A) → and_then found v ≡ next → next ++ more ≡ all → found ++ (v ∷ more) ≡ all
  one_more found more all v next made ends = sym (append_assoc found (v ∷ []) more) ∙ (ap (λ ys. ys ++ more) made ∙ ends)

  rows_into : (found : List A) (xs : List Token) (all : List A) → Steps Stepped found xs all → RowsEnd G found xs all
  rows_into found xs all (over e) = record { more = []; ends = append-nil found; rows = no_row e }
  rows_into found xs all (once_more {next = next} front back e w more) =
      let r : RowsEnd G next back all = rows_into next back all more in
      record { more = w.part ∷ r.more; ends = one_more found r.more all w.part next w.made r.ends; rows = next_row front back e w.whole (subst (λ z. Rows G z back r.more) (sym w.made) r.rows) }

  stepped : (found : List A) (xs : List Token) (more : List A) → Rows G found xs more → Steps Stepped found xs (found ++ more)
  stepped found xs more (no_row e) = subst (λ z. Steps Stepped found xs z) (sym (append-nil found)) (over e)
  stepped found xs more (next_row {more = rest} {v = v} front back e w r) =
      once_more front back e (record { part = v; made = refl; whole = w })
      (subst (λ z. Steps Stepped (and_then found v) back z) (append_assoc found (v ∷ []) rest) (stepped (and_then found v) back rest r))

  rows_back : (found : List A) (xs : List Token) (all : List A) → RowsEnd G found xs all → Steps Stepped found xs all
  rows_back found xs all w = subst (λ z. Steps Stepped found xs z) w.ends (stepped found xs w.more w.rows)

  rows_deeper : (found : List A) (xs : List Token) (t : Token) → StepsDeep Stepped D found xs t → RowsDeep G D found xs t
  rows_deeper found xs t (in_this d) = record { front = []; back = xs; more = []; split = refl; rows = no_row refl; deep = subst (λ z. D z xs t) (sym (append-nil found)) d }
  rows_deeper found xs t (in_later {next = next} front back e w d) =
      let r : RowsDeep G D next back t = rows_deeper next back t d in record {
        front = front ++ r.front;
        back = r.back;
        more = w.part ∷ r.more;
        split = e ∙ (ap (λ ys. front ++ ys) r.split ∙ sym (append_assoc front r.front r.back));
        rows = next_row front r.front refl w.whole (subst (λ z. Rows G z r.front r.more) (sym w.made) r.rows);
        deep = subst (λ z. D z r.back t) (sym (one_more found r.more (next ++ r.more) w.part next w.made refl)) r.deep;
      }

  rows_upper_by : (found : List A) (front back : List Token) (more : List A) (t : Token) → Rows G found front more → D (found ++ more) back t → StepsDeep Stepped D found (front ++ back) t
  rows_upper_by found front back more t (no_row e) d =
      subst (λ ys. StepsDeep Stepped D found (ys ++ back) t) (sym e) (in_this (subst (λ z. D z back t) (append-nil found) d))
  rows_upper_by found front back more t (next_row {more = rest} {v = v} one left e w r) d =
      in_later one (left ++ back) (ap (λ ys. ys ++ back) e ∙ append_assoc one left back) (record { part = v; made = refl; whole = w })
      (rows_upper_by (and_then found v) left back rest t r (subst (λ z. D z back t) (sym (append_assoc found (v ∷ []) rest)) d))

  rows_upper : (found : List A) (xs : List Token) (t : Token) → RowsDeep G D found xs t → StepsDeep Stepped D found xs t
  rows_upper found xs t w = subst (λ ys. StepsDeep Stepped D found ys t) (sym w.split) (rows_upper_by found w.front w.back w.more t w.rows w.deep)

  step_part : (found : List A) → Exact (read_mapped (and_then found) (f found)) (Stepped found) (D found) part_goes
  step_part found = exact_mapped (and_then found) (part found)

  step_first : (found : List A) → Begun (read_mapped (and_then found) (f found)) (starts found)
  step_first found = begun_mapped (and_then found) (first found)

  pub exact_rows : (found : List A) → Exact (read_steps starts (λ found. read_mapped (and_then found) (f found)) found) (RowsEnd G found) (RowsDeep G D found) goes
  exact_rows found = exact_as (rows_into found) (rows_back found) (rows_deeper found) (rows_upper found) (exact_steps step_part step_first apart covers includes found)
