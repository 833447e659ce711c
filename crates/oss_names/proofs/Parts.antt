-- Lists of parts, from one on: what the first of those left breaks, and what those behind it break.
use Rattle.std.proofs.Common.{◌≡◌, ℕ, ◌+◌, ◌<◌, ◌≤◌, ◌==◌, Bool, true, false, not, ◌&&◌, ◌||◌, List, [], ◌∷◌, ◌++◌, length, drop, get_or, Option, Some, None, refl, sym, ap, ◌∙◌, arith}
use Rattle.std.proofs.lemmas.List.{drop_more}
use Rattle.std.proofs.lemmas.Bool.Decides.{nat_tests}
use Rattle.oss_syntax.specs.declared.tree.expr.Expr.{Expr}
use Rattle.oss_syntax.specs.declared.tree.pragma.Clause.{Clause}
use Rattle.oss_syntax.specs.declared.tree.pragma.Section.{Section}
use Rattle.oss_syntax.specs.declared.tree.program.Item.{Item}
use Rattle.oss_syntax.specs.declared.tree.program.Local.{Local}
use Rattle.oss_grammar.specs.declared.kinds.Wanted.TheVariants as wanted
use Rattle.oss_syntax.specs.declared.refusal.Refused.{Refused}
use Rattle.oss_syntax.specs.declared.refusal.RefusedKind.{RefusedKind}
use Rattle.oss_syntax.specs.declared.refusal.RefusedKind.TheVariants as refused
use Rattle.oss_grammar.specs.Broken.{first, where_so}
use Rattle.oss_grammar.specs.ExpressionRules.{value_rules}
use Rattle.oss_grammar.specs.Scopes.{meaning, or_else}
use Rattle.oss_grammar.specs.SectionRules.{begins_with_base, ends_with_base, form_rules, is_missing, is_wrong_section, loop_clause_rules, loop_clauses_rules, section_rules, sections_in, sections_rules}
use Rattle.oss_grammar.specs.StaticRules.{numbers_rules}
use Rattle.oss_types.proofs.Firsts.{first-append}

-- what no part of a list breaks
pub none-right : (a b : Option Refused) → or_else a b ≡ None → b ≡ None
none-right None b e = e
none-right (Some x) b e = absurd (cc)

pub none-left : (a b : Option Refused) → or_else a b ≡ None → a ≡ None
none-left None b e = refl
none-left (Some x) b e = e

pub append-right : (xs ys : List Refused) → first (xs ++ ys) ≡ None → first ys ≡ None
append-right xs ys e = none-right (first xs) (first ys) (sym (first-append xs ys) ∙ e)

pub append-left : (xs ys : List Refused) → first (xs ++ ys) ≡ None → first xs ≡ None
append-left xs ys e = none-left (first xs) (first ys) (sym (first-append xs ys) ∙ e)

pub not-so : (b : Bool) (kind : RefusedKind) (line : ℕ) → first (where_so b kind line) ≡ None → b ≡ false
not-so false kind line e = refl
not-so true kind line e = absurd (cc)

pub no-rule : (rules : List Refused) → first rules ≡ None → rules ≡ []
no-rule [] e = refl
no-rule (r ∷ rules) e = absurd (cc)

module _ (all : List Item) (locals : List Local) where
  pub numbers-left : (es : List Expr) (i : ℕ) (e : Expr) → i < length es → e ≡ get_or es i e
      → first (numbers_rules all locals (drop i es)) ≡ or_else (first (value_rules all locals wanted.Number e)) (first (numbers_rules all locals (drop (i + 1) es)))
  numbers-left es i e within at =
      ap (λ xs. first (numbers_rules all locals xs)) (drop_more es i e within)
      ∙ ap (λ x. first (numbers_rules all locals (x ∷ drop (i + 1) es))) (sym at)
      ∙ first-append (value_rules all locals wanted.Number e) (numbers_rules all locals (drop (i + 1) es))

  pub sections-left : (fold : Bool) (n : ℕ) (ss : List Section) (i : ℕ) (s : Section) → i < length ss → s ≡ get_or ss i s
      → first (sections_rules all locals fold n (drop i ss)) ≡ or_else (first (section_rules all locals fold n s)) (first (sections_rules all locals fold (n + 1) (drop (i + 1) ss)))
  sections-left fold n ss i s within at =
      ap (λ xs. first (sections_rules all locals fold n xs)) (drop_more ss i s within)
      ∙ ap (λ x. first (sections_rules all locals fold n (x ∷ drop (i + 1) ss))) (sym at)
      ∙ first-append (section_rules all locals fold n s) (sections_rules all locals fold (n + 1) (drop (i + 1) ss))

  pub clauses-left : (outer : List Local) (n : ℕ) (cs : List Clause) (i : ℕ) (c : Clause) → i < length cs → c ≡ get_or cs i c
      → first (loop_clauses_rules all outer locals n (drop i cs)) ≡ or_else (first (loop_clause_rules all outer locals n c)) (first (loop_clauses_rules all outer locals (n + length (sections_in c)) (drop (i + 1) cs)))
  clauses-left outer n cs i c within at =
      ap (λ xs. first (loop_clauses_rules all outer locals n xs)) (drop_more cs i c within)
      ∙ ap (λ x. first (loop_clauses_rules all outer locals n (x ∷ drop (i + 1) cs))) (sym at)
      ∙ first-append (loop_clause_rules all outer locals n c) (loop_clauses_rules all outer locals (n + length (sections_in c)) (drop (i + 1) cs))

  -- a section that breaks no rule is not the 65th
  pub not-last : (fold : Bool) (n : ℕ) (s : Section) → first (section_rules all locals fold n s) ≡ None → (n == 64) ≡ false
  not-last fold n s e =
      let m = meaning all locals s.base in
      let unknown = where_so (begins_with_base s.form && is_missing m) refused.UnknownName s.line in
      let wrong = where_so (is_wrong_section fold s.form m) refused.WrongKind s.line in
      let large = where_so (n == 64) refused.TooLarge s.line in
      let inside = form_rules all locals s.form in
      let between = where_so (not (begins_with_base s.form || ends_with_base s.form) && is_missing m) refused.UnknownName s.base_line in
      let last = between ++ (inside ++ where_so (ends_with_base s.form && is_missing m) refused.UnknownName s.base_line) in
      not-so (n == 64) refused.TooLarge s.line (append-left large last (append-right wrong (large ++ last) (append-right unknown (wrong ++ (large ++ last)) e)))

  pub room : (fold : Bool) (n : ℕ) (s : Section) → n ≤ 64 → first (section_rules all locals fold n s) ≡ None → n + 1 ≤ 64
  room fold n s few e = let less = not-last fold n s e in grind (arith, nat_tests)

-- the first rule of two parts, from those that are told of each
pub first-both : (xs ys : List Refused) (a b : Option Refused) → a ≡ first xs → b ≡ first ys → or_else a b ≡ first (xs ++ ys)
first-both xs ys a b one other = ap (λ o. or_else o b) one ∙ ap (or_else (first xs)) other ∙ sym (first-append xs ys)
