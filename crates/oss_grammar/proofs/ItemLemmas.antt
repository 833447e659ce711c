-- The rules of functions and items, and those of the statements in them.
use Rattle.std.proofs.Common.{◌≡◌, ℕ, ◌+◌, List, [], ◌∷◌, ◌++◌, sym, subst, ◌⊎◌, inl, inr}
use Rattle.oss_syntax.specs.declared.refusal.Refused.{Refused}
use Rattle.oss_syntax.specs.declared.refusal.RefusedKind.TheVariants as refused
use Rattle.oss_syntax.specs.declared.tree.program.Function.{Function}
use Rattle.oss_syntax.specs.declared.tree.program.GlobalDef.{GlobalDef}
use Rattle.oss_syntax.specs.declared.tree.program.Item.{Item}
use Rattle.oss_syntax.specs.declared.tree.program.Item.TheVariants as items
use Rattle.oss_syntax.specs.declared.tree.program.Local.{Local}
use Rattle.oss_grammar.specs.Broken.{where_so}
use Rattle.oss_grammar.specs.Layout.{cells_of}
use Rattle.oss_grammar.specs.Places.{IsOneOf}
use Rattle.oss_grammar.proofs.ScopedPlaces.{scope_behind}
use Rattle.oss_grammar.specs.Places.IsOneOf.{first_of_them, later_of_them}
use Rattle.oss_grammar.specs.ProgramRules.{body_around, function_rules, global_rules, is_wrong_function, items_rules, mark_rules}
use Rattle.oss_grammar.specs.Scopes.{is_again}
use Rattle.oss_grammar.specs.StaticRules.{declare_all, rules_of_all}
use Rattle.oss_grammar.proofs.PlaceLemmas.{none_of, one_of_left, one_of_right, one_of_two, declared_scope}

-- Where a rule of a function stands: in its pragma, at its name, in its parameters or in its body.
pub data FunctionPart (all : List Item) (i : ℕ) (f : Function) (x : Refused) : Type 0 where
  in_mark : IsOneOf x (mark_rules all (scope_behind 0 f.params []) f.mark) → FunctionPart all i f x
  at_name : IsOneOf x (where_so (is_again all i f.name) refused.DuplicateName f.line) → FunctionPart all i f x
  at_kind : IsOneOf x (where_so (is_wrong_function f) refused.WrongKind f.line) → FunctionPart all i f x
  in_params : IsOneOf x (declare_all all 0 f.params []).broken → FunctionPart all i f x
  in_body : IsOneOf x (rules_of_all f.body all (body_around f.result) (scope_behind 0 f.params [])).broken → FunctionPart all i f x

module _ (all : List Item) (i : ℕ) (f : Function) where
  abbrev ls : List Local
  ls = (declare_all all 0 f.params []).locals

  abbrev behind_kind : List Refused
  behind_kind = (declare_all all 0 f.params []).broken ++ (rules_of_all f.body all (body_around f.result) ls).broken

  abbrev behind_name : List Refused
  behind_name = where_so (is_wrong_function f) refused.WrongKind f.line ++ behind_kind

  abbrev behind_mark : List Refused
  behind_mark = where_so (is_again all i f.name) refused.DuplicateName f.line ++ behind_name

  scope : ls ≡ scope_behind 0 f.params []
  scope = declared_scope all 0 f.params []

  module _ (x : Refused) where
    by_kind : IsOneOf x (declare_all all 0 f.params []).broken ⊎ IsOneOf x (rules_of_all f.body all (body_around f.result) ls).broken → FunctionPart all i f x
    by_kind (inl w) = in_params w
    by_kind (inr w) = in_body (subst (λ (ms : List Local). IsOneOf x (rules_of_all f.body all (body_around f.result) ms).broken) scope w)

    by_name : IsOneOf x (where_so (is_wrong_function f) refused.WrongKind f.line) ⊎ IsOneOf x behind_kind → FunctionPart all i f x
    by_name (inl w) = at_kind w
    by_name (inr w) = by_kind (one_of_two (declare_all all 0 f.params []).broken (rules_of_all f.body all (body_around f.result) ls).broken w)

    by_mark : IsOneOf x (where_so (is_again all i f.name) refused.DuplicateName f.line) ⊎ IsOneOf x behind_name → FunctionPart all i f x
    by_mark (inl w) = at_name w
    by_mark (inr w) = by_name (one_of_two (where_so (is_wrong_function f) refused.WrongKind f.line) behind_kind w)

    by_all : IsOneOf x (mark_rules all ls f.mark) ⊎ IsOneOf x behind_mark → FunctionPart all i f x
    by_all (inl w) = in_mark (subst (λ (ms : List Local). IsOneOf x (mark_rules all ms f.mark)) scope w)
    by_all (inr w) = by_mark (one_of_two (where_so (is_again all i f.name) refused.DuplicateName f.line) behind_name w)

    pub function_part : IsOneOf x (function_rules all i f) → FunctionPart all i f x
    function_part w = by_all (one_of_two (mark_rules all ls f.mark) behind_mark w)

    pub part_told : FunctionPart all i f x → IsOneOf x (function_rules all i f)
    part_told (in_mark w) = one_of_left behind_mark (subst (λ (ms : List Local). IsOneOf x (mark_rules all ms f.mark)) (sym scope) w)
    part_told (at_name w) = one_of_right (mark_rules all ls f.mark) (one_of_left behind_name w)
    part_told (at_kind w) = one_of_right (mark_rules all ls f.mark) (one_of_right (where_so (is_again all i f.name) refused.DuplicateName f.line) (one_of_left behind_kind w))
    part_told (in_params w) =
        one_of_right (mark_rules all ls f.mark) (one_of_right (where_so (is_again all i f.name) refused.DuplicateName f.line) (one_of_right (where_so (is_wrong_function f) refused.WrongKind f.line)
        (one_of_left (rules_of_all f.body all (body_around f.result) ls).broken w)))
    part_told (in_body w) =
        one_of_right (mark_rules all ls f.mark) (one_of_right (where_so (is_again all i f.name) refused.DuplicateName f.line) (one_of_right (where_so (is_wrong_function f) refused.WrongKind f.line)
        (one_of_right (declare_all all 0 f.params []).broken (subst (λ (ms : List Local). IsOneOf x (rules_of_all f.body all (body_around f.result) ms).broken) (sym scope) w))))

-- Where a rule of some items stands: at a global or in a function, at its place among them.
pub data ItemPart (all : List Item) (x : Refused) : ℕ → ℕ → List Item → Type 0 where
  at_global : {i before : ℕ} {rest : List Item} (g : GlobalDef) → IsOneOf x (global_rules all i before g) → ItemPart all x i before (items.Global g ∷ rest)
  at_function : {i before : ℕ} {rest : List Item} (f : Function) → FunctionPart all i f x → ItemPart all x i before (items.Function f ∷ rest)
  behind_global : {i before : ℕ} {rest : List Item} (g : GlobalDef) → ItemPart all x (i + 1) (before + cells_of g.cells) rest → ItemPart all x i before (items.Global g ∷ rest)
  behind_function : {i before : ℕ} {rest : List Item} (f : Function) → ItemPart all x (i + 1) before rest → ItemPart all x i before (items.Function f ∷ rest)

module _ (all : List Item) (x : Refused) where
  either_global : (i before : ℕ) (g : GlobalDef) (rest : List Item) → IsOneOf x (global_rules all i before g) ⊎ ItemPart all x (i + 1) (before + cells_of g.cells) rest → ItemPart all x i before (items.Global g ∷ rest)
  either_global i before g rest (inl w) = at_global g w
  either_global i before g rest (inr w) = behind_global g w

  either_function : (i before : ℕ) (f : Function) (rest : List Item) → IsOneOf x (function_rules all i f) ⊎ ItemPart all x (i + 1) before rest → ItemPart all x i before (items.Function f ∷ rest)
  either_function i before f rest (inl w) = at_function f (function_part all i f x w)
  either_function i before f rest (inr w) = behind_function f w

  pub item_part : (i before : ℕ) (rest : List Item) → IsOneOf x (items_rules all i before rest) → ItemPart all x i before rest
  item_part i before [] w = none_of w
  item_part i before (items.Global g ∷ rest) w =
      either_global i before g rest (elim (one_of_two (global_rules all i before g) (items_rules all (i + 1) (before + cells_of g.cells) rest) w) [
        | inl u ↦ inl u
        | inr u ↦ inr (item_part (i + 1) (before + cells_of g.cells) rest u)
      ])
  item_part i before (items.Function f ∷ rest) w =
      either_function i before f rest (elim (one_of_two (function_rules all i f) (items_rules all (i + 1) before rest) w) [
        | inl u ↦ inl u
        | inr u ↦ inr (item_part (i + 1) before rest u)
      ])

  pub item_told : {i before : ℕ} {rest : List Item} → ItemPart all x i before rest → IsOneOf x (items_rules all i before rest)
  item_told (at_global g w) = one_of_left _ w
  item_told {i = i} (at_function f w) = one_of_left _ (part_told all i f x w)
  item_told {i = i} {before = before} (behind_global g w) = one_of_right (global_rules all i before g) (item_told w)
  item_told {i = i} (behind_function f w) = one_of_right (function_rules all i f) (item_told w)

-- a rule of a function wherever it stands among the items
module _ (all : List Item) (x : Refused) (f : Function) (told : (i : ℕ) → FunctionPart all i f x) where
  pub function_told : (i before : ℕ) (rest : List Item) → IsOneOf (items.Function f) rest → ItemPart all x i before rest
  function_told i before [] is = none_of is
  function_told i before (items.Global g ∷ rest) (first_of_them e) = absurd (cc)
  function_told i before (items.Global g ∷ rest) (later_of_them is) = behind_global g (function_told (i + 1) (before + cells_of g.cells) rest is)
  function_told i before (items.Function g ∷ rest) (first_of_them e) = at_function g (let same : f ≡ g = cc in subst (λ (h : Function). FunctionPart all i h x) same (told i))
  function_told i before (items.Function g ∷ rest) (later_of_them is) = behind_function g (function_told (i + 1) before rest is)
