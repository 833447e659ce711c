-- Tokens and rules between two lines, all on lines of which something holds, as that they are lines of tokens.
use Rattle.std.proofs.Common.{◌≡◌, inl, inr, ℕ, ◌≤◌, Bool, true, false, List, [], ◌∷◌, ◌++◌, map, refl, sym, subst, arith}
use Rattle.std.specs.Prelude.{nat_lt}
use Rattle.std.proofs.lemmas.Bool.{cases_Bool}
use Rattle.oss_syntax.specs.declared.refusal.Refused.{Refused}
use Rattle.oss_syntax.specs.declared.refusal.RefusedKind.{RefusedKind}
use Rattle.oss_syntax.specs.declared.refusal.RefusedKind.TheVariants as refused
use Rattle.oss_syntax.specs.declared.token.Token.{Token}
use Rattle.oss_grammar.specs.declared.kinds.Wanted.{Wanted}
use Rattle.oss_grammar.specs.Broken.{broken, insert, rank, where_so}
use Rattle.oss_grammar.specs.Kinds.{Findings, all_of, allows, placed, unless}
use Rattle.oss_grammar.specs.Places.{IsOneOf}
use Rattle.oss_grammar.specs.Places.IsOneOf.{first_of_them, later_of_them}
use Rattle.oss_grammar.specs.RuleOrder.{RisesFrom, token_lines}
use Rattle.oss_grammar.specs.RuleOrder.RisesFrom.{no_more, next}
use Rattle.oss_grammar.proofs.PlaceLemmas.{none_of}

-- The lines of tokens rise from one line, and end with no more than another; and each is such a line.
pub data Span (P : ℕ → Type 0) (high : ℕ) : ℕ → List Token → Type 0 where
  span_end : {low : ℕ} → low ≤ high → Span P high low []
  span_next : {low : ℕ} {t : Token} {ts : List Token} → low ≤ t.line → P t.line → Span P high t.line ts → Span P high low (t ∷ ts)

-- The same of rules.
pub data Within (P : ℕ → Type 0) (high : ℕ) : ℕ → List Refused → Type 0 where
  within_end : {low : ℕ} → low ≤ high → Within P high low []
  within_next : {low : ℕ} {rule : Refused} {rest : List Refused} → low ≤ rule.line → P rule.line → Within P high rule.line rest → Within P high low (rule ∷ rest)

-- All rules are on one line.
pub data AllOn (line : ℕ) : List Refused → Type 0 where
  on_end : AllOn line []
  on_next : {rule : Refused} {rest : List Refused} → rule.line ≡ line → AllOn line rest → AllOn line (rule ∷ rest)

-- tokens
pub span_order : {P : ℕ → Type 0} {high low : ℕ} {ts : List Token} → Span P high low ts → low ≤ high
span_order (span_end h) = h
span_order (span_next h on w) = (let more = span_order w in omega arith)

pub span_lower : {P : ℕ → Type 0} {high low lower : ℕ} {ts : List Token} → lower ≤ low → Span P high low ts → Span P high lower ts
span_lower le (span_end h) = span_end (omega arith)
span_lower le (span_next h on w) = span_next (omega arith) on w

pub first_on : {P : ℕ → Type 0} {high low : ℕ} {t : Token} {ts : List Token} → Span P high low (t ∷ ts) → low ≤ t.line
first_on (span_next h on w) = h

pub first_is : {P : ℕ → Type 0} {high low : ℕ} {t : Token} {ts : List Token} → Span P high low (t ∷ ts) → P t.line
first_is (span_next h on w) = on

pub behind_first : {P : ℕ → Type 0} {high low : ℕ} {t : Token} {ts : List Token} → Span P high low (t ∷ ts) → Span P high t.line ts
behind_first (span_next h on w) = w

pub skip : {P : ℕ → Type 0} {high low : ℕ} {t : Token} {ts : List Token} → Span P high low (t ∷ ts) → Span P high low ts
skip (span_next h on w) = span_lower h w

-- a front and what stands behind it
pub record Cut (P : ℕ → Type 0) (high low : ℕ) (front back : List Token) : Type 0 where
  pub middle : ℕ
  pub before : Span P middle low front
  pub behind : Span P high middle back

pub cut : {P : ℕ → Type 0} {high low : ℕ} (front back : List Token) → Span P high low (front ++ back) → Cut P high low front back
cut {low = low} [] back w = record { middle = low; before = span_end (omega arith); behind = w }
cut {P = P} {high = high} {low = low} (t ∷ front) back (span_next h on w) = put (cut front back w) where
  put : Cut P high t.line front back → Cut P high low (t ∷ front) back
  put c = record { middle = c.middle; before = span_next h on c.before; behind = c.behind }

pub span_of : {P : ℕ → Type 0} {high low : ℕ} {ts us : List Token} → ts ≡ us → Span P high low ts → Span P high low us
span_of {P = P} {high = high} {low = low} e w = subst (λ (xs : List Token). Span P high low xs) e w

pub record Spans (P : ℕ → Type 0) (low : ℕ) (ts : List Token) : Type 0 where
  pub high : ℕ
  pub span : Span P high low ts

pub spans : {P : ℕ → Type 0} {low : ℕ} (ts : List Token) → ((line : ℕ) → IsOneOf line (token_lines ts) → P line) → RisesFrom low (token_lines ts) → Spans P low ts
spans {low = low} [] on w = record { high = low; span = span_end (omega arith) }
spans {P = P} {low = low} (t ∷ ts) on (next h w) = put (spans ts (λ line is. on line (later_of_them is)) w) where
  put : Spans P t.line ts → Spans P low (t ∷ ts)
  put s = record { high = s.high; span = span_next h (on t.line (first_of_them refl)) s.span }

-- rules
pub within_order : {P : ℕ → Type 0} {high low : ℕ} {xs : List Refused} → Within P high low xs → low ≤ high
within_order (within_end h) = h
within_order (within_next h on w) = (let more = within_order w in omega arith)

pub within_lower : {P : ℕ → Type 0} {high low lower : ℕ} {xs : List Refused} → lower ≤ low → Within P high low xs → Within P high lower xs
within_lower le (within_end h) = within_end (omega arith)
within_lower le (within_next h on w) = within_next (omega arith) on w

pub within_higher : {P : ℕ → Type 0} {high higher low : ℕ} {xs : List Refused} → high ≤ higher → Within P high low xs → Within P higher low xs
within_higher le (within_end h) = within_end (omega arith)
within_higher le (within_next h on w) = within_next h on (within_higher le w)

pub within_both : {P : ℕ → Type 0} {high middle low : ℕ} {xs ys : List Refused} → Within P middle low xs → Within P high middle ys → Within P high low (xs ++ ys)
within_both (within_end h) v = within_lower h v
within_both (within_next h on w) v = within_next h on (within_both w v)

pub within_of : {P : ℕ → Type 0} {high low : ℕ} {xs ys : List Refused} → xs ≡ ys → Within P high low ys → Within P high low xs
within_of {P = P} {high = high} {low = low} e w = subst (λ (zs : List Refused). Within P high low zs) (sym e) w

pub within_rises : {P : ℕ → Type 0} {high low : ℕ} {xs : List Refused} → Within P high low xs → RisesFrom low (map (λ rule. rule.line) xs)
within_rises (within_end h) = no_more
within_rises (within_next h on w) = next h (within_rises w)

pub within_on : {P : ℕ → Type 0} {high low : ℕ} {xs : List Refused} (rule : Refused) → Within P high low xs → IsOneOf rule xs → P rule.line
within_on rule (within_end h) is = none_of is
within_on {P = P} rule (within_next h on w) (first_of_them e) = subst (λ (b : Refused). P b.line) e on
within_on rule (within_next h on w) (later_of_them is) = within_on rule w is

-- rules on one line, and those behind them
pub on_then : {P : ℕ → Type 0} {line high low : ℕ} {xs ys : List Refused} → low ≤ line → P line → AllOn line xs → Within P high line ys → Within P high low (xs ++ ys)
on_then le has on_end w = within_lower le w
on_then {P = P} le has (on_next e on) w = within_next (omega (arith, e)) (subst P (sym e) has) (on_then (omega (arith, e)) has on w)

pub on_both : {line : ℕ} {xs ys : List Refused} → AllOn line xs → AllOn line ys → AllOn line (xs ++ ys)
on_both on_end v = v
on_both (on_next e on) v = on_next e (on_both on v)

pub on_one : (kind : RefusedKind) (line : ℕ) → AllOn line (broken kind line ∷ [])
on_one kind line = on_next refl on_end

pub on_where : (b : Bool) (kind : RefusedKind) (line : ℕ) → AllOn line (where_so b kind line)
on_where true kind line = on_one kind line
on_where false kind line = on_end

pub on_insert : {line : ℕ} {xs : List Refused} (b : Refused) → b.line ≡ line → AllOn line xs → AllOn line (insert b xs)
on_insert b same on_end = on_next same on_end
on_insert {line} b same (on_next {rule = c} {rest = rest} e on) = (let more : AllOn line (insert b rest) = on_insert b same on in elim (cases_Bool (nat_lt (rank b.kind) (rank c.kind))) [
  | inl before ↦ (rw before (on_next same (on_next e on)))
  | inr behind ↦ (rw behind (on_next e more))
])

pub where_then : {P : ℕ → Type 0} {high low line : ℕ} {ys : List Refused} (b : Bool) (kind : RefusedKind) → low ≤ line → P line → Within P high line ys → Within P high low (where_so b kind line ++ ys)
where_then {line = line} b kind le has w = on_then le has (on_where b kind line) w

pub where_within : {P : ℕ → Type 0} {high low line : ℕ} (b : Bool) (kind : RefusedKind) → low ≤ line → line ≤ high → P line → Within P high low (where_so b kind line)
where_within true kind le he has = within_next le has (within_end he)
where_within false kind le he has = within_end (omega arith)

-- What is found of an expression between two lines: its first token is on this line, and the rules behind it rise.
pub record Lies (P : ℕ → Type 0) (high low line : ℕ) (f : Findings) : Type 0 where
  pub at : f.line ≡ line
  pub low_is : low ≤ line
  pub has : P line
  pub first : AllOn line f.at_first
  pub behind : Within P high line f.behind

pub lies_all : {P : ℕ → Type 0} {high low line : ℕ} {f : Findings} → Lies P high low line f → Within P high low (all_of f)
lies_all l = on_then l.low_is l.has l.first l.behind

pub lies_of : {P : ℕ → Type 0} {high low line : ℕ} {f g : Findings} → f ≡ g → Lies P high low line g → Lies P high low line f
lies_of {P = P} {high = high} {low = low} {line = line} e l = subst (λ (h : Findings). Lies P high low line h) (sym e) l

pub lies_unless : {P : ℕ → Type 0} {high low line : ℕ} (b : Bool) (f : Findings) → Lies P high low line f → Lies P high low line (unless b f)
lies_unless true f l = l
lies_unless false f l = record { at = l.at; low_is = l.low_is; has = l.has; first = on_insert (broken refused.WrongKind f.line) l.at l.first; behind = l.behind }

pub lies_placed : {P : ℕ → Type 0} {high low line : ℕ} (w : Wanted) (f : Findings) → Lies P high low line f → Lies P high low line (placed w f)
lies_placed w f l = lies_unless (allows w f.kind) f l

pub lies_higher : {P : ℕ → Type 0} {high higher low line : ℕ} {f : Findings} → high ≤ higher → Lies P high low line f → Lies P higher low line f
lies_higher le l = record { at = l.at; low_is = l.low_is; has = l.has; first = l.first; behind = within_higher le l.behind }
