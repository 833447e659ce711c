-- UnknownName is told of an expression exactly where a name that means nothing is used in it.
use Rattle.std.proofs.Common.{◌≡◌, ℕ, ◌==◌, ◌&&◌, ◌||◌, Bool, true, false, not, List, [], ◌∷◌, ◌++◌, length, map, refl, sym, ap, subst, ◌⊎◌, inl, inr, Option, Some, None, append_assoc}
use Rattle.std.specs.Prelude.{is_some}
use Rattle.oss_syntax.specs.declared.refusal.Refused.{Refused}
use Rattle.oss_syntax.specs.declared.refusal.RefusedKind.TheVariants as refused
use Rattle.oss_syntax.specs.declared.tree.expr.UnOp.{UnOp}
use Rattle.oss_syntax.specs.declared.tree.expr.UnOp.TheVariants as prefix
use Rattle.oss_syntax.specs.declared.tree.expr.Expr.{Expr}
use Rattle.oss_syntax.specs.declared.tree.program.Function.{Function}
use Rattle.oss_syntax.specs.declared.tree.program.Item.{Item}
use Rattle.oss_syntax.specs.declared.tree.program.Local.{Local}
use Rattle.oss_grammar.specs.declared.kinds.Named.{Named}
use Rattle.oss_grammar.specs.declared.kinds.Named.TheVariants as named
use Rattle.oss_grammar.specs.declared.kinds.Wanted.{Wanted}
use Rattle.oss_grammar.specs.declared.kinds.Wanted.TheVariants as wanted
use Rattle.oss_grammar.specs.Broken.{broken, insert, where_so}
use Rattle.oss_grammar.specs.ExpressionRules.{argument_rules, argument_wanted, call_rules, findings, parameters_behind, parameters_of, value_rules}
use Rattle.oss_grammar.specs.Kinds.{Findings, all_of, allows, has_address, left_wanted, name_rules, placed, unary_findings, unless}
use Rattle.oss_grammar.specs.Places.{IsOneOf}
use Rattle.oss_grammar.specs.Places.IsOneOf.{first_of_them, later_of_them}
use Rattle.oss_grammar.specs.Scopes.{function_named, is_main, meaning}
use Rattle.oss_grammar.specs.UnknownNames.{Uses}
use Rattle.oss_grammar.specs.UnknownNames.Uses.{as_value, as_callee, in_array, in_index, in_operand, in_left, in_right, in_argument}
use Rattle.oss_grammar.proofs.KindLemmas.{inserted, still_told, where_told, same_line}
use Rattle.oss_grammar.proofs.PlaceLemmas.{none_of, one_of_left, one_of_right, one_of_two}
use Rattle.oss_grammar.proofs.RuleEquations.{found-number, found-name, found-index, found-unary, found-binary, found-call}
use Rattle.oss_grammar.proofs.TreeInduction.{Each, ExprParts, expr_induction}
use Rattle.oss_grammar.proofs.TreeInduction.Each.{each_none, each_more}
use Rattle.oss_grammar.proofs.TreeInduction.ExprParts.{is_number, is_name, is_index, is_unary, is_binary, is_applied}

-- the last of three lists, or one of the first two
three_of : {x : Refused} (p q r : List Refused) → IsOneOf x (p ++ (q ++ r)) → IsOneOf x (p ++ q) ⊎ IsOneOf x r
three_of {x} p q r w = one_of_two (p ++ q) r (rw append_assoc w)

of_three : {x : Refused} (p q r : List Refused) → IsOneOf x (p ++ q) ⊎ IsOneOf x r → IsOneOf x (p ++ (q ++ r))
of_three {x} p q r w = (let e : IsOneOf x ((p ++ q) ++ r) = put w in rw append_assoc at e) where
  put : IsOneOf x (p ++ q) ⊎ IsOneOf x r → IsOneOf x ((p ++ q) ++ r)
  put (inl u) = one_of_left r u
  put (inr u) = one_of_right (p ++ q) u

-- one rule is of one kind
pub other_kind : {C : Type 0} {m n : ℕ} → broken refused.WrongKind m ≡ broken refused.UnknownName n → C
other_kind e = let kinds : refused.WrongKind ≡ refused.UnknownName = ap (λ (b : Refused). b.kind) e in absurd (cc)

other_count : {C : Type 0} {m n : ℕ} → broken refused.WrongCount m ≡ broken refused.UnknownName n → C
other_count e = let kinds : refused.WrongCount ≡ refused.UnknownName = ap (λ (b : Refused). b.kind) e in absurd (cc)

module _ (line : ℕ) where
  abbrev pub x : Refused
  x = broken refused.UnknownName line

  -- where an expression stands adds no unknown name
  past_wrong : (m : ℕ) (xs : List Refused) → IsOneOf x (broken refused.WrongKind m ∷ xs) → IsOneOf x xs
  past_wrong m xs (first_of_them e) = other_kind e
  past_wrong m xs (later_of_them w) = w

  pub unless_found : (b : Bool) (f : Findings) → IsOneOf x (all_of (unless b f)) → IsOneOf x (all_of f)
  unless_found true f w = w
  unless_found false f w = put (one_of_two (insert (broken refused.WrongKind f.line) f.at_first) f.behind w) where
    put : IsOneOf x (insert (broken refused.WrongKind f.line) f.at_first) ⊎ IsOneOf x f.behind → IsOneOf x (all_of f)
    put (inl u) = one_of_left f.behind (past_wrong f.line f.at_first (inserted (broken refused.WrongKind f.line) f.at_first u))
    put (inr u) = one_of_right f.at_first u

  pub unless_told : (b : Bool) (f : Findings) → IsOneOf x (all_of f) → IsOneOf x (all_of (unless b f))
  unless_told true f w = w
  unless_told false f w = put (one_of_two f.at_first f.behind w) where
    put : IsOneOf x f.at_first ⊎ IsOneOf x f.behind → IsOneOf x (all_of (unless false f))
    put (inl u) = one_of_left f.behind (still_told (broken refused.WrongKind f.line) f.at_first u)
    put (inr u) = one_of_right (insert (broken refused.WrongKind f.line) f.at_first) u

  pub placed_found : (w : Wanted) (f : Findings) → IsOneOf x (all_of (placed w f)) → IsOneOf x (all_of f)
  placed_found w f u = unless_found (allows w f.kind) f u

  pub placed_told : (w : Wanted) (f : Findings) → IsOneOf x (all_of f) → IsOneOf x (all_of (placed w f))
  placed_told w f u = unless_told (allows w f.kind) f u

  unary_found : (o : UnOp) (l : ℕ) (f : Findings) → IsOneOf x (all_of (unary_findings l o f)) → IsOneOf x (all_of f)
  unary_found prefix.Minus l f w = placed_found wanted.Number f w
  unary_found prefix.Plus l f w = placed_found wanted.Number f w
  unary_found prefix.Invert l f w = placed_found wanted.Number f w
  unary_found prefix.Not l f w = placed_found wanted.Number f w
  unary_found prefix.Deref l f w = placed_found wanted.Pointer f w
  unary_found prefix.Address l f w = unless_found (has_address f.kind f.object) f w

  unary_told : (o : UnOp) (l : ℕ) (f : Findings) → IsOneOf x (all_of f) → IsOneOf x (all_of (unary_findings l o f))
  unary_told prefix.Minus l f w = placed_told wanted.Number f w
  unary_told prefix.Plus l f w = placed_told wanted.Number f w
  unary_told prefix.Invert l f w = placed_told wanted.Number f w
  unary_told prefix.Not l f w = placed_told wanted.Number f w
  unary_told prefix.Deref l f w = placed_told wanted.Pointer f w
  unary_told prefix.Address l f w = unless_told (has_address f.kind f.object) f w

  -- a name, and what is called
  name_found : (m : Named) (l : ℕ) → IsOneOf x (name_rules m l) → (m ≡ named.Missing) × (l ≡ line)
  name_found named.Missing l (first_of_them e) = (refl, same_line e)
  name_found named.Missing l (later_of_them w) = none_of w
  name_found named.Function l (first_of_them e) = other_kind e
  name_found named.Function l (later_of_them w) = none_of w
  name_found (named.Local k) l w = none_of w
  name_found (named.Scalar k) l w = none_of w
  name_found (named.Array k) l w = none_of w
  name_found (named.Grid k) l w = none_of w

  name_told : {m : Named} {l : ℕ} → m ≡ named.Missing → l ≡ line → IsOneOf x (name_rules m l)
  name_told e same = rw e (first_of_them (ap (λ (i : ℕ). broken refused.UnknownName i) same))

  pub callee_found : (m : Named) (f : Option Function) (l : ℕ) (as_statement : Bool) (n : ℕ) → IsOneOf x (call_rules m f l as_statement n) → (m ≡ named.Missing) × (l ≡ line)
  callee_found named.Missing f l as_statement n (first_of_them e) = (refl, same_line e)
  callee_found named.Missing f l as_statement n (later_of_them w) = none_of w
  callee_found named.Function None l as_statement n w = none_of w
  callee_found named.Function (Some f) l as_statement n w = either (one_of_two (where_so wrong refused.WrongKind l) (where_so count refused.WrongCount l) w) where
    wrong : Bool
    wrong = is_main f.name || (is_some f.mark && not as_statement)

    count : Bool
    count = not (n == length f.params)

    either : IsOneOf x (where_so wrong refused.WrongKind l) ⊎ IsOneOf x (where_so count refused.WrongCount l) → (named.Function ≡ named.Missing) × (l ≡ line)
    either (inl u) = other_kind (where_told wrong refused.WrongKind l u).1
    either (inr u) = other_count (where_told count refused.WrongCount l u).1
  callee_found (named.Local k) f l as_statement n (first_of_them e) = other_kind e
  callee_found (named.Local k) f l as_statement n (later_of_them w) = none_of w
  callee_found (named.Scalar k) f l as_statement n (first_of_them e) = other_kind e
  callee_found (named.Scalar k) f l as_statement n (later_of_them w) = none_of w
  callee_found (named.Array k) f l as_statement n (first_of_them e) = other_kind e
  callee_found (named.Array k) f l as_statement n (later_of_them w) = none_of w
  callee_found (named.Grid k) f l as_statement n (first_of_them e) = other_kind e
  callee_found (named.Grid k) f l as_statement n (later_of_them w) = none_of w

  pub callee_told : {m : Named} (f : Option Function) {l : ℕ} (as_statement : Bool) (n : ℕ) → m ≡ named.Missing → l ≡ line → IsOneOf x (call_rules m f l as_statement n)
  callee_told f as_statement n e same = rw e (first_of_them (ap (λ (i : ℕ). broken refused.UnknownName i) same))

  module _ (all : List Item) (locals : List Local) where
    pub record UnknownUse (e : Expr) : Type 0 where
      pub name : List ℕ
      pub uses : Uses name line e
      pub means : meaning all locals name ≡ named.Missing

    pub record UnknownIn (es : List Expr) : Type 0 where
      pub value : Expr
      pub is_listed : IsOneOf value es
      pub use_in : UnknownUse value

    abbrev IsFound : Expr → Type 0
    IsFound e = IsOneOf x (all_of (findings all locals e)) → UnknownUse e

    arguments_found : (params : List Local) (es : List Expr) → Each IsFound es → IsOneOf x (argument_rules params (map (findings all locals) es)) → UnknownIn es
    arguments_found params [] each_none w = none_of w
    arguments_found params (e ∷ es) (each_more found more) w =
        put (elim (one_of_two (all_of (placed (argument_wanted params) (findings all locals e))) (argument_rules (parameters_behind params) (map (findings all locals) es)) w) [
          | inl u ↦ inl (found (placed_found (argument_wanted params) (findings all locals e) u))
          | inr u ↦ inr (arguments_found (parameters_behind params) es more u)
        ])
      where
        put : UnknownUse e ⊎ UnknownIn es → UnknownIn (e ∷ es)
        put (inl u) = record { value = e; is_listed = first_of_them refl; use_in = u }
        put (inr u) = record { value = u.value; is_listed = later_of_them u.is_listed; use_in = u.use_in }

    moved : {f g : Findings} → f ≡ g → IsOneOf x (all_of f) → IsOneOf x (all_of g)
    moved e w = subst (λ (i : Findings). IsOneOf x (all_of i)) e w

    found_by : (e : Expr) → ExprParts IsFound e.what → IsFound e
    found_by e (is_number value unsigned is) w = none_of (moved (found-number all locals e value unsigned is) w)
    found_by e (is_name name is) w = put (one_of_two (name_rules (meaning all locals name) e.line) [] (moved (found-name all locals e name is) w)) where
      put : IsOneOf x (name_rules (meaning all locals name) e.line) ⊎ IsOneOf x [] → UnknownUse e
      put (inl u) = record { name = name; uses = as_value is (name_found (meaning all locals name) e.line u).1; means = (name_found (meaning all locals name) e.line u).0 }
      put (inr u) = none_of u
    found_by e (is_index a b is u v) w = put (three_of pa.at_first pa.behind (all_of pb) (moved (found-index all locals e a b is) w)) where
      pa : Findings
      pa = placed wanted.Indexed (findings all locals a)

      pb : Findings
      pb = placed wanted.Number (findings all locals b)

      in_a : UnknownUse a → UnknownUse e
      in_a n = record { name = n.name; uses = in_array a b is n.uses; means = n.means }

      in_b : UnknownUse b → UnknownUse e
      in_b n = record { name = n.name; uses = in_index a b is n.uses; means = n.means }

      put : IsOneOf x (all_of pa) ⊎ IsOneOf x (all_of pb) → UnknownUse e
      put (inl y) = in_a (u (placed_found wanted.Indexed (findings all locals a) y))
      put (inr y) = in_b (v (placed_found wanted.Number (findings all locals b) y))
    found_by e (is_unary o a is u) w = put (u (unary_found o e.line (findings all locals a) (moved (found-unary all locals e o a is) w))) where
      put : UnknownUse a → UnknownUse e
      put n = record { name = n.name; uses = in_operand o a is n.uses; means = n.means }
    found_by e (is_binary o a b is u v) w = put (three_of pa.at_first pa.behind (all_of pb) (moved (found-binary all locals e o a b is) w)) where
      pa : Findings
      pa = placed (left_wanted o) (findings all locals a)

      pb : Findings
      pb = placed wanted.Number (findings all locals b)

      in_a : UnknownUse a → UnknownUse e
      in_a n = record { name = n.name; uses = in_left o a b is n.uses; means = n.means }

      in_b : UnknownUse b → UnknownUse e
      in_b n = record { name = n.name; uses = in_right o a b is n.uses; means = n.means }

      put : IsOneOf x (all_of pa) ⊎ IsOneOf x (all_of pb) → UnknownUse e
      put (inl y) = in_a (u (placed_found (left_wanted o) (findings all locals a) y))
      put (inr y) = in_b (v (placed_found wanted.Number (findings all locals b) y))
    found_by e (is_applied name es is each) w = put (one_of_two callee arguments (moved (found-call all locals e name es is) w)) where
      callee : List Refused
      callee = call_rules (meaning all locals name) (function_named all name) e.line false (length (map (findings all locals) es))

      arguments : List Refused
      arguments = argument_rules (parameters_of (meaning all locals name) (function_named all name)) (map (findings all locals) es)

      in_some : UnknownIn es → UnknownUse e
      in_some n = record { name = n.use_in.name; uses = in_argument name es n.value is n.is_listed n.use_in.uses; means = n.use_in.means }

      at_callee : (meaning all locals name ≡ named.Missing) × (e.line ≡ line) → UnknownUse e
      at_callee c = record { name = name; uses = as_callee es is c.1; means = c.0 }

      put : IsOneOf x callee ⊎ IsOneOf x arguments → UnknownUse e
      put (inl u) = at_callee (callee_found (meaning all locals name) (function_named all name) e.line false (length (map (findings all locals) es)) u)
      put (inr u) = in_some (arguments_found (parameters_of (meaning all locals name) (function_named all name)) es each u)

    pub use_found : (e : Expr) → IsFound e
    use_found = expr_induction IsFound found_by

    each_found : (es : List Expr) → Each IsFound es
    each_found [] = each_none
    each_found (e ∷ es) = each_more (use_found e) (each_found es)

    pub passed_found : (params : List Local) (es : List Expr) → IsOneOf x (argument_rules params (map (findings all locals) es)) → UnknownIn es
    passed_found params es w = arguments_found params es (each_found es) w

    pub value_found : (w : Wanted) (e : Expr) → IsOneOf x (value_rules all locals w e) → UnknownUse e
    value_found w e u = use_found e (placed_found w (findings all locals e) u)

    -- and the other way
    pub passed_told : (params : List Local) (es : List Expr) (e : Expr) → IsOneOf e es → IsOneOf x (all_of (findings all locals e)) → IsOneOf x (argument_rules params (map (findings all locals) es))
    passed_told params [] e is w = none_of is
    passed_told params (a ∷ es) e (first_of_them same) w =
        one_of_left _ (placed_told (argument_wanted params) (findings all locals a) (subst (λ (i : Expr). IsOneOf x (all_of (findings all locals i))) (sym same) w))
    passed_told params (a ∷ es) e (later_of_them is) w = one_of_right (all_of (placed (argument_wanted params) (findings all locals a))) (passed_told (parameters_behind params) es e is w)

    back : {f g : Findings} → f ≡ g → IsOneOf x (all_of g) → IsOneOf x (all_of f)
    back e w = subst (λ (i : Findings). IsOneOf x (all_of i)) (sym e) w

    pub use_told : {name : List ℕ} {e : Expr} → meaning all locals name ≡ named.Missing → Uses name line e → IsOneOf x (all_of (findings all locals e))
    use_told {name} {e} m (as_value is same) = back (found-name all locals e name is) (one_of_left [] (name_told m same))
    use_told {name} {e} m (as_callee es is same) = back (found-call all locals e name es is) (one_of_left _ (callee_told (function_named all name) false (length (map (findings all locals) es)) m same))
    use_told {name} {e} m (in_array a b is u) =
        back (found-index all locals e a b is) (of_three (placed wanted.Indexed (findings all locals a)).at_first (placed wanted.Indexed (findings all locals a)).behind (all_of (placed wanted.Number (findings all locals b)))
        (inl (placed_told wanted.Indexed (findings all locals a) (use_told m u))))
    use_told {name} {e} m (in_index a b is u) =
        back (found-index all locals e a b is) (of_three (placed wanted.Indexed (findings all locals a)).at_first (placed wanted.Indexed (findings all locals a)).behind (all_of (placed wanted.Number (findings all locals b)))
        (inr (placed_told wanted.Number (findings all locals b) (use_told m u))))
    use_told {name} {e} m (in_operand o a is u) = back (found-unary all locals e o a is) (unary_told o e.line (findings all locals a) (use_told m u))
    use_told {name} {e} m (in_left o a b is u) =
        back (found-binary all locals e o a b is) (of_three (placed (left_wanted o) (findings all locals a)).at_first (placed (left_wanted o) (findings all locals a)).behind (all_of (placed wanted.Number (findings all locals b)))
        (inl (placed_told (left_wanted o) (findings all locals a) (use_told m u))))
    use_told {name} {e} m (in_right o a b is u) =
        back (found-binary all locals e o a b is) (of_three (placed (left_wanted o) (findings all locals a)).at_first (placed (left_wanted o) (findings all locals a)).behind (all_of (placed wanted.Number (findings all locals b)))
        (inr (placed_told wanted.Number (findings all locals b) (use_told m u))))
    use_told {name} {e} m (in_argument callee es argument is listed u) =
        back (found-call all locals e callee es is) (one_of_right (call_rules (meaning all locals callee) (function_named all callee) e.line false (length (map (findings all locals) es)))
        (passed_told (parameters_of (meaning all locals callee) (function_named all callee)) es argument listed (use_told m u)))

    pub value_told : {name : List ℕ} (w : Wanted) (e : Expr) → meaning all locals name ≡ named.Missing → Uses name line e → IsOneOf x (value_rules all locals w e)
    value_told w e m u = placed_told w (findings all locals e) (use_told m u)
