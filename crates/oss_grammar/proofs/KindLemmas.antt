-- Which kinds of rules expressions, sections and declarators break.
use Rattle.std.proofs.Common.{◌≡◌, ℕ, Bool, true, false, not, List, [], ◌∷◌, ◌++◌, refl, length, map, sym, ap, ◌∙◌, ◌⊎◌, inl, inr, Option, Some, None}
use Rattle.std.proofs.lemmas.Bool.{cases_Bool}
use Rattle.std.specs.Prelude.{nat_lt, ◌==◌, ◌&&◌, ◌||◌, is_some}
use Rattle.oss_syntax.specs.declared.refusal.Refused.{Refused}
use Rattle.oss_syntax.specs.declared.refusal.RefusedKind.{RefusedKind}
use Rattle.oss_syntax.specs.declared.refusal.RefusedKind.TheVariants as refused
use Rattle.oss_syntax.specs.declared.tree.expr.BinOp.{BinOp}
use Rattle.oss_syntax.specs.declared.tree.expr.UnOp.{UnOp}
use Rattle.oss_syntax.specs.declared.tree.expr.UnOp.TheVariants as prefix
use Rattle.oss_syntax.specs.declared.tree.expr.Expr.{Expr}
use Rattle.oss_syntax.specs.declared.tree.program.Function.{Function}
use Rattle.oss_syntax.specs.declared.tree.program.Item.{Item}
use Rattle.oss_syntax.specs.declared.tree.program.Kind.{Kind}
use Rattle.oss_syntax.specs.declared.tree.program.Local.{Local}
use Rattle.oss_grammar.specs.declared.kinds.Named.{Named}
use Rattle.oss_grammar.specs.declared.kinds.Named.TheVariants as named
use Rattle.oss_grammar.specs.declared.kinds.Wanted.{Wanted}
use Rattle.oss_grammar.specs.declared.kinds.Wanted.TheVariants as wanted
use Rattle.oss_grammar.specs.Broken.{broken, insert, rank, where_so}
use Rattle.oss_grammar.specs.ExpressionRules.{argument_rules, argument_wanted, call_findings, call_rules, findings, parameters_behind, parameters_of, value_rules}
use Rattle.oss_grammar.specs.Formats.{conversions_of}
use Rattle.oss_grammar.specs.Kinds.{Findings, all_of, allows, has_address, left_wanted, name_rules, placed, unary_findings, unless, wanted_by}
use Rattle.oss_grammar.specs.Scopes.{function_named, is_main, meaning}
use Rattle.oss_grammar.specs.SectionRules.{optional_rules}
use Rattle.oss_grammar.specs.StaticRules.{assign_rules, format_rules, numbers_rules, or_anything, print_rules, returned_rules, target_wanted}
use Rattle.oss_grammar.specs.Places.{IsOneOf}
use Rattle.oss_grammar.specs.Places.IsOneOf.{first_of_them, later_of_them}
use Rattle.oss_grammar.proofs.PlaceLemmas.{none_of, one_of_two}
use Rattle.oss_grammar.proofs.RuleEquations.{found-number, found-name, found-index, found-unary, found-binary, found-call}
use Rattle.oss_grammar.proofs.TreeInduction.{Each, ExprParts, expr_induction}
use Rattle.oss_grammar.proofs.TreeInduction.Each.{each_none, each_more}
use Rattle.oss_grammar.proofs.TreeInduction.ExprParts.{is_number, is_name, is_index, is_unary, is_binary, is_applied}

-- all rules of a list are of such kinds
pub record Only (test : RefusedKind → Bool) (xs : List Refused) : Type 0 where
  pub each : (x : Refused) → IsOneOf x xs → test x.kind ≡ true

pub only_none : (test : RefusedKind → Bool) → Only test []
only_none test = record { each = λ x w. none_of w }

pub only_one : (test : RefusedKind → Bool) (b : Refused) → test b.kind ≡ true → Only test (b ∷ [])
only_one test b fits = record { each = one } where
  one : (x : Refused) → IsOneOf x (b ∷ []) → test x.kind ≡ true
  one x (first_of_them e) = ap (λ (c : Refused). test c.kind) (sym e) ∙ fits
  one x (later_of_them w) = none_of w

pub only_two : {test : RefusedKind → Bool} {xs ys : List Refused} → Only test xs → Only test ys → Only test (xs ++ ys)
only_two {test} {xs} {ys} a b = record { each = λ x w. either x (one_of_two xs ys w) } where
  either : (x : Refused) → IsOneOf x xs ⊎ IsOneOf x ys → test x.kind ≡ true
  either x (inl w) = a.each x w
  either x (inr w) = b.each x w

pub only_where : (test : RefusedKind → Bool) (b : Bool) (kind : RefusedKind) (line : ℕ) → test kind ≡ true → Only test (where_so b kind line)
only_where test false kind line fits = only_none test
only_where test true kind line fits = only_one test (broken kind line) fits

-- a rule where it is broken
pub where_told : {x : Refused} (b : Bool) (kind : RefusedKind) (line : ℕ) → IsOneOf x (where_so b kind line) → (b ≡ true) × (broken kind line ≡ x)
where_told false kind line w = none_of w
where_told true kind line (first_of_them e) = (refl, e)
where_told true kind line (later_of_them w) = none_of w

pub where_tells : {b : Bool} {m n : ℕ} (kind : RefusedKind) → b ≡ true → m ≡ n → IsOneOf (broken kind n) (where_so b kind m)
where_tells kind is same = rw is (first_of_them (ap (λ (l : ℕ). broken kind l) same))

pub same_line : {kind : RefusedKind} {m n : ℕ} → broken kind m ≡ broken kind n → m ≡ n
same_line e = ap (λ (b : Refused). b.line) e

-- a rule that is put at its place among others
deeper : {x : Refused} {b : Refused} {rest : List Refused} (c : Refused) → IsOneOf x (b ∷ rest) → IsOneOf x (b ∷ c ∷ rest)
deeper c (first_of_them e) = first_of_them e
deeper c (later_of_them u) = later_of_them (later_of_them u)

swapped : {x : Refused} (b c : Refused) {xs rest : List Refused} → (IsOneOf x xs → IsOneOf x (b ∷ rest)) → IsOneOf x (c ∷ xs) → IsOneOf x (b ∷ c ∷ rest)
swapped b c inner (first_of_them e) = later_of_them (first_of_them e)
swapped b c inner (later_of_them u) = deeper c (inner u)

pub inserted : {x : Refused} (b : Refused) (xs : List Refused) → IsOneOf x (insert b xs) → IsOneOf x (b ∷ xs)
inserted b [] w = w
inserted {x} b (c ∷ rest) w = elim (cases_Bool (nat_lt (rank b.kind) (rank c.kind))) [
  | inl before ↦ (rw before at w)
  | inr behind ↦ swapped b c (inserted b rest) (rw behind at w)
]

past_first : {x : Refused} (c : Refused) {xs ys : List Refused} → (IsOneOf x xs → IsOneOf x ys) → IsOneOf x (c ∷ xs) → IsOneOf x (c ∷ ys)
past_first c inner (first_of_them e) = first_of_them e
past_first c inner (later_of_them u) = later_of_them (inner u)

-- the others stay
pub still_told : {x : Refused} (b : Refused) (xs : List Refused) → IsOneOf x xs → IsOneOf x (insert b xs)
still_told b [] w = none_of w
still_told {x} b (c ∷ rest) w = elim (cases_Bool (nat_lt (rank b.kind) (rank c.kind))) [
  | inl before ↦ (rw before (later_of_them w))
  | inr behind ↦ (rw behind (past_first c (still_told b rest) w))
]

pub only_insert : {test : RefusedKind → Bool} (b : Refused) {xs : List Refused} → test b.kind ≡ true → Only test xs → Only test (insert b xs)
only_insert {test} b {xs} fits a = record { each = λ x w. (only_two (only_one test b fits) a).each x (inserted b xs w) }

-- what is found of an expression has rules of such kinds alone
pub record OnlyFound (test : RefusedKind → Bool) (f : Findings) : Type 0 where
  pub at_first : Only test f.at_first
  pub behind : Only test f.behind

module _ (test : RefusedKind → Bool) (unknown : test refused.UnknownName ≡ true) (wrong : test refused.WrongKind ≡ true) (count : test refused.WrongCount ≡ true) where
  only_unless : (b : Bool) (f : Findings) → OnlyFound test f → OnlyFound test (unless b f)
  only_unless true f a = a
  only_unless false f a = record { at_first = only_insert (broken refused.WrongKind f.line) wrong a.at_first; behind = a.behind }

  only_placed : (w : Wanted) (f : Findings) → OnlyFound test f → OnlyFound test (placed w f)
  only_placed w f a = only_unless (allows w f.kind) f a

  only_all : (f : Findings) → OnlyFound test f → Only test (all_of f)
  only_all f a = only_two a.at_first a.behind

  only_at : (w : Wanted) (f : Findings) → OnlyFound test f → Only test (all_of (placed w f))
  only_at w f a = only_all (placed w f) (only_placed w f a)

  only_name : (m : Named) (line : ℕ) → Only test (name_rules m line)
  only_name named.Missing line = only_one test (broken refused.UnknownName line) unknown
  only_name named.Function line = only_one test (broken refused.WrongKind line) wrong
  only_name (named.Local k) line = only_none test
  only_name (named.Scalar k) line = only_none test
  only_name (named.Array k) line = only_none test
  only_name (named.Grid k) line = only_none test

  only_unary : (o : UnOp) (line : ℕ) (f : Findings) → OnlyFound test f → OnlyFound test (unary_findings line o f)
  only_unary prefix.Minus line f a = record { at_first = only_none test; behind = only_at wanted.Number f a }
  only_unary prefix.Plus line f a = record { at_first = only_none test; behind = only_at wanted.Number f a }
  only_unary prefix.Invert line f a = record { at_first = only_none test; behind = only_at wanted.Number f a }
  only_unary prefix.Not line f a = record { at_first = only_none test; behind = only_at wanted.Number f a }
  only_unary prefix.Deref line f a = record { at_first = only_none test; behind = only_at wanted.Pointer f a }
  only_unary prefix.Address line f a = record { at_first = only_none test; behind = only_all (unless (has_address f.kind f.object) f) (only_unless (has_address f.kind f.object) f a) }

  only_call : (m : Named) (f : Option Function) (line : ℕ) (as_statement : Bool) (n : ℕ) → Only test (call_rules m f line as_statement n)
  only_call named.Missing f line as_statement n = only_one test (broken refused.UnknownName line) unknown
  only_call named.Function None line as_statement n = only_none test
  only_call named.Function (Some f) line as_statement n =
      only_two (only_where test (is_main f.name || (is_some f.mark && not as_statement)) refused.WrongKind line wrong) (only_where test (not (n == length f.params)) refused.WrongCount line count)
  only_call (named.Local k) f line as_statement n = only_one test (broken refused.WrongKind line) wrong
  only_call (named.Scalar k) f line as_statement n = only_one test (broken refused.WrongKind line) wrong
  only_call (named.Array k) f line as_statement n = only_one test (broken refused.WrongKind line) wrong
  only_call (named.Grid k) f line as_statement n = only_one test (broken refused.WrongKind line) wrong

  module _ (all : List Item) (locals : List Local) where
    abbrev IsOnly : Expr → Type 0
    IsOnly e = OnlyFound test (findings all locals e)

    only_arguments : (params : List Local) (es : List Expr) → Each IsOnly es → Only test (argument_rules params (map (findings all locals) es))
    only_arguments params [] each_none = only_none test
    only_arguments params (e ∷ es) (each_more a more) = only_two (only_at (argument_wanted params) (findings all locals e) a) (only_arguments (parameters_behind params) es more)

    only_called : (name : List ℕ) (line : ℕ) (as_statement : Bool) (es : List Expr) → Each IsOnly es → OnlyFound test (call_findings all locals name line as_statement (map (findings all locals) es))
    only_called name line as_statement es each = record {
      at_first = only_call (meaning all locals name) (function_named all name) line as_statement (length (map (findings all locals) es));
      behind = only_arguments (parameters_of (meaning all locals name) (function_named all name)) es each;
    }

    only_by : (e : Expr) → ExprParts IsOnly e.what → IsOnly e
    only_by e (is_number value unsigned is) = rw (found-number all locals e value unsigned is) (record { at_first = only_none test; behind = only_none test })
    only_by e (is_name name is) = rw (found-name all locals e name is) (record { at_first = only_name (meaning all locals name) e.line; behind = only_none test })
    only_by e (is_index a b is u v) = rw (found-index all locals e a b is) (record {
      at_first = (only_placed wanted.Indexed (findings all locals a) u).at_first;
      behind = only_two (only_placed wanted.Indexed (findings all locals a) u).behind (only_at wanted.Number (findings all locals b) v);
    })
    only_by e (is_unary o a is u) = rw (found-unary all locals e o a is) (only_unary o e.line (findings all locals a) u)
    only_by e (is_binary o a b is u v) = rw (found-binary all locals e o a b is) (record {
      at_first = (only_placed (left_wanted o) (findings all locals a) u).at_first;
      behind = only_two (only_placed (left_wanted o) (findings all locals a) u).behind (only_at wanted.Number (findings all locals b) v);
    })
    only_by e (is_applied name es is each) = rw (found-call all locals e name es is) (only_called name e.line false es each)

    pub only_expr : (e : Expr) → OnlyFound test (findings all locals e)
    only_expr = expr_induction IsOnly only_by

    each_only : (es : List Expr) → Each IsOnly es
    each_only [] = each_none
    each_only (e ∷ es) = each_more (only_expr e) (each_only es)

    pub only_call_statement : (name : List ℕ) (line : ℕ) (es : List Expr) → Only test (all_of (call_findings all locals name line true (map (findings all locals) es)))
    only_call_statement name line es = only_all (call_findings all locals name line true (map (findings all locals) es)) (only_called name line true es (each_only es))

    pub only_value : (w : Wanted) (e : Expr) → Only test (value_rules all locals w e)
    only_value w e = only_at w (findings all locals e) (only_expr e)

    pub only_optional : (e : Option Expr) → Only test (optional_rules all locals e)
    only_optional None = only_none test
    only_optional (Some e) = only_value wanted.Number e

    pub only_numbers : (es : List Expr) → Only test (numbers_rules all locals es)
    only_numbers [] = only_none test
    only_numbers (e ∷ es) = only_two (only_value wanted.Number e) (only_numbers es)

    only_format : (o : Option ℕ) (n line : ℕ) → Only test (format_rules o n line)
    only_format None n line = only_one test (broken refused.WrongKind line) wrong
    only_format (Some m) n line = only_where test (not (m == n)) refused.WrongCount line count

    pub only_print : (line : ℕ) (format : List ℕ) (es : List Expr) → Only test (print_rules all locals line format es)
    only_print line format es = only_two (only_format (conversions_of format) (length es) line) (only_numbers es)

    pub only_assign : (o : Option BinOp) (target e : Expr) → Only test (assign_rules all locals o target e)
    only_assign o target e = only_two (only_all (unless allowed f) (only_unless allowed f (only_expr target))) (only_at (or_anything (target_wanted o f.kind f.object)) (findings all locals e) (only_expr e)) where
      f : Findings
      f = findings all locals target

      allowed : Bool
      allowed = is_some (target_wanted o f.kind f.object)

    pub only_returned : (result : Kind) (e : Option Expr) → Only test (returned_rules all locals result e)
    only_returned result None = only_none test
    only_returned result (Some e) = only_value (wanted_by result) e
