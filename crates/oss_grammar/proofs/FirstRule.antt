-- The first rule that a program breaks is on the least line of them all, NoMain aside.
use Rattle.std.proofs.Common.{◌≡◌, ℕ, ◌≤◌, Bool, List, [], ◌∷◌, ◌++◌, sym, ap, ◌∙◌, inl, inr, Some, arith}
use Rattle.oss_syntax.specs.declared.refusal.Refused.{Refused}
use Rattle.oss_syntax.specs.declared.refusal.RefusedKind.TheVariants as refused
use Rattle.oss_grammar.specs.Broken.{first, where_so}
use Rattle.oss_grammar.specs.Places.{IsOneOf}
use Rattle.oss_grammar.specs.Places.IsOneOf.{first_of_them, later_of_them}
use Rattle.oss_grammar.proofs.KindLemmas.{where_told}
use Rattle.oss_grammar.proofs.LineSpans.{Within}
use Rattle.oss_grammar.proofs.LineSpans.Within.{within_end, within_next}
use Rattle.oss_grammar.proofs.PlaceLemmas.{none_of, one_of_two}

-- the first of rules between two lines is on the least line
least_of : {P : ℕ → Type 0} {high low : ℕ} {xs : List Refused} (rule : Refused) → Within P high low xs → IsOneOf rule xs → low ≤ rule.line
least_of rule (within_end h) w = none_of w
least_of rule (within_next h on more) (first_of_them e) = (let same = ap (λ (b : Refused). b.line) e in omega arith)
least_of rule (within_next {rule = b} h on more) (later_of_them w) = (let later : b.line ≤ rule.line = least_of rule more w in omega arith)

first_least : {P : ℕ → Type 0} {high low : ℕ} (told rule : Refused) (xs : List Refused) → Within P high low xs → first xs ≡ Some told → IsOneOf rule xs → told.line ≤ rule.line
first_least told rule [] within is w = none_of w
first_least told rule (b ∷ xs) (within_next h on more) is (first_of_them e) = (let same : b ≡ told = cc in let line = ap (λ (c : Refused). c.line) (sym same ∙ e) in omega arith)
first_least told rule (b ∷ xs) (within_next h on more) is (later_of_them w) = (let same : b ≡ told = cc in let line = ap (λ (c : Refused). c.line) same in let later = least_of rule more w in omega arith)

-- NoMain stands behind all others
behind_others : {C : Type 0} (b : Bool) (rule : Refused) → (rule.kind ≡ refused.NoMain → ⊥) → IsOneOf rule (where_so b refused.NoMain 1) → C
behind_others b rule other w = absurd (other (ap (λ (c : Refused). c.kind) (sym (where_told b refused.NoMain 1 w).1)))

pub before_main : {P : ℕ → Type 0} {high low : ℕ} (b : Bool) (told rule : Refused) (xs : List Refused) → Within P high low xs → first (xs ++ where_so b refused.NoMain 1) ≡ Some told
    → (rule.kind ≡ refused.NoMain → ⊥) → IsOneOf rule (xs ++ where_so b refused.NoMain 1) → told.line ≤ rule.line
before_main b told rule [] within is other w = behind_others b rule other w
before_main b told rule (c ∷ xs) within is other w = elim (one_of_two (c ∷ xs) (where_so b refused.NoMain 1) w) [
  | inl u ↦ first_least told rule (c ∷ xs) within is u
  | inr u ↦ behind_others b rule other u
]
