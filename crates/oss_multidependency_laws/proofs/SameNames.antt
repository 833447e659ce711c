-- In a program with its multidependencies unrolled each name stands for what it stood for, and each expression means what it meant.
use Rattle.std.proofs.Common.{◌≡◌, ◌∙◌, ℕ, ◌+◌, Bool, List, [], ◌∷◌, ◌++◌, map, Option, Some, None, option_map, refl, ap}
use Rattle.std.specs.Prelude.{if◌then◌else◌, is_some, replicate, reverse, slice_get, sum}
use Rattle.std.specs.Str.{bytes_eq}
use Rattle.std.proofs.lemmas.Option.{slice_get-map}
use Rattle.oss_syntax.specs.declared.tree.expr.ExprKind.TheOpen.{ExprKind-F, Expr-F}
use Rattle.oss_syntax.specs.declared.tree.expr.ExprKind.TheOpen as open_expr
use Rattle.oss_syntax.specs.declared.tree.expr.ExprKind.TheFolds.{fold-Expr}
use Rattle.oss_syntax.specs.declared.tree.pragma.Section.{Section}
use Rattle.oss_syntax.specs.declared.tree.pragma.TaskMark.{TaskMark}
use Rattle.oss_syntax.specs.declared.tree.program.Function.{Function}
use Rattle.oss_syntax.specs.declared.tree.program.Item.{Item}
use Rattle.oss_syntax.specs.declared.tree.program.Item.TheVariants as items
use Rattle.oss_syntax.specs.declared.tree.program.Local.{Local}
use Rattle.oss_grammar.specs.Layout.{cells_in, cells_of, sizes_of}
use Rattle.oss_grammar.specs.Values.{kept}
use Rattle.oss_meaning.specs.declared.names.Found.{Found}
use Rattle.oss_meaning.specs.declared.names.Found.TheVariants as names
use Rattle.oss_meaning.specs.Expressions.{Sense, arguments, call_value, called_kind, called_or_created, expr_step, given_kind, index_sense, is_task_function, name_place, name_value, prefix_sense, sense_of, typed_name, typed_value, value_sense}
use Rattle.oss_meaning.specs.Names.{found, functions_of, global_found, item_found, item_from, local_from, or_found}
use Rattle.oss_meaning.specs.Pointers.{Extent, extents_from, extents_of}
use Rattle.oss_meaning.specs.Results.{first_cells}
use Rattle.oss_multidependency_laws.specs.Unrolling.{function_unrolled, item_unrolled, items_unrolled, unrolled_mark}

module _ (chosen : Section → Bool) where
  functions_from : (rest : List Item) → functions_of (map (item_unrolled chosen) rest) ≡ map (function_unrolled chosen) (functions_of rest)
  functions_from [] = refl
  functions_from (items.Global g ∷ rest) = functions_from rest
  functions_from (items.Function f ∷ rest) = ap (λ l. function_unrolled chosen f ∷ l) (functions_from rest)

  item_from_same : (g f : ℕ) (rest : List Item) (name : List ℕ) → item_from g f (map (item_unrolled chosen) rest) name ≡ item_from g f rest name
  item_from_same g f [] name = refl
  item_from_same g f (items.Global d ∷ rest) name =
      ap (λ x. if bytes_eq d.name name then global_found d.cells d.columns g d.kind else x) (item_from_same (g + 1) f rest name)
  item_from_same g f (items.Function d ∷ rest) name = ap (λ x. if bytes_eq d.name name then names.Function f else x) (item_from_same g (f + 1) rest name)

  extents_same_from : (start : ℕ) (rest : List Item) → extents_from start (map (item_unrolled chosen) rest) ≡ extents_from start rest
  extents_same_from start [] = refl
  extents_same_from start (items.Global d ∷ rest) =
      ap {B = List Extent} (λ l. record { start = start; count = cells_of d.cells; columns = d.columns } ∷ l) (extents_same_from (start + cells_of d.cells) rest)
  extents_same_from start (items.Function f ∷ rest) = extents_same_from start rest

  sizes_same : (rest : List Item) → sizes_of (map (item_unrolled chosen) rest) ≡ sizes_of rest
  sizes_same [] = refl
  sizes_same (items.Global g ∷ rest) = ap (λ l. cells_of g.cells ∷ l) (sizes_same rest)
  sizes_same (items.Function f ∷ rest) = sizes_same rest

  -- the cells at the start
  pub first_cells_same : (rest : List Item) → first_cells (map (item_unrolled chosen) rest) ≡ first_cells rest
  first_cells_same [] = refl
  first_cells_same (items.Global d ∷ rest) = ap (λ l. replicate (cells_of d.cells) (kept d.kind d.first) ++ l) (first_cells_same rest)
  first_cells_same (items.Function f ∷ rest) = first_cells_same rest

  task_same : (o : Option Function) → is_task_function (option_map (function_unrolled chosen) o) ≡ is_task_function o
  task_same None = refl
  task_same (Some f) = marked f.mark
    where
      marked : (m : Option TaskMark) → is_some (option_map (unrolled_mark chosen) m) ≡ is_some m
      marked None = refl
      marked (Some mark) = refl

  given_same : (o : Option Function) → given_kind (option_map (function_unrolled chosen) o) ≡ given_kind o
  given_same None = refl
  given_same (Some f) = refl

  module _ (all : List Item) where
    abbrev flat : List Item
    flat = items_unrolled chosen all

    pub functions_same : functions_of flat ≡ map (function_unrolled chosen) (functions_of all)
    functions_same = functions_from all

    pub function_same : (f : ℕ) → slice_get (functions_of flat) f ≡ option_map (function_unrolled chosen) (slice_get (functions_of all) f)
    function_same f = ap (λ l. slice_get l f) functions_same ∙ slice_get-map (function_unrolled chosen) (functions_of all) f

    pub item_same : (name : List ℕ) → item_found flat name ≡ item_found all name
    item_same name = item_from_same 0 0 all name

    pub found_same : (scope : List Local) (name : List ℕ) → found flat scope name ≡ found all scope name
    found_same scope name = ap (λ x. or_found (local_from 0 scope name) x) (item_same name)

    pub extents_same : extents_of flat ≡ extents_of all
    extents_same = extents_same_from 0 all

    pub cells_same : cells_in flat ≡ cells_in all
    cells_same = ap sum (sizes_same all)

    is_task_same : (f : ℕ) → is_task_function (slice_get (functions_of flat) f) ≡ is_task_function (slice_get (functions_of all) f)
    is_task_same f = ap is_task_function (function_same f) ∙ task_same (slice_get (functions_of all) f)

    pub called_same : (f : Found) (es : List Sense) → call_value flat f es ≡ call_value all f es
    called_same (names.Function f) es = λ i. λ line here locals go. arguments es line here locals [] (λ made. called_or_created (is_task_same f i) f line here (reverse made) go)
    called_same (names.Variable slot k) es = refl
    called_same (names.Scalar g n) es = refl
    called_same (names.Array g n) es = refl
    called_same (names.Grid g n) es = refl
    called_same names.Unknown es = refl

    kind_same : (f : Found) → called_kind flat f ≡ called_kind all f
    kind_same (names.Function f) = ap given_kind (function_same f) ∙ given_same (slice_get (functions_of all) f)
    kind_same (names.Variable slot k) = refl
    kind_same (names.Scalar g n) = refl
    kind_same (names.Array g n) = refl
    kind_same (names.Grid g n) = refl
    kind_same names.Unknown = refl

    step_same : (scope : List Local) (x : ExprKind-F Sense Sense) → expr_step flat scope x ≡ expr_step all scope x
    step_same scope (open_expr.Number n unsigned) = refl
    step_same scope (open_expr.Name name) = λ i. record {
      typed = typed_name (found_same scope name i);
      value = name_value (extents_same i) (found_same scope name i);
      place = name_place (found_same scope name i);
      indexed = name_value (extents_same i) (found_same scope name i);
    }
    step_same scope (open_expr.Index a e) = ap (λ g. index_sense g a e) extents_same
    step_same scope (open_expr.Unary o e) = ap (λ g. prefix_sense g o e) extents_same
    step_same scope (open_expr.Binary o a b) = refl
    step_same scope (open_expr.Call name es) =
        ap (λ f. value_sense (typed_value (called_kind flat f)) (call_value flat f es)) (item_same name)
        ∙ (λ i. value_sense (typed_value (kind_same (item_found all name) i)) (called_same (item_found all name) es i))

    -- Each expression means what it meant.
    pub sense_same : (scope : List Local) → sense_of flat scope ≡ sense_of all scope
    sense_same scope = λ i. fold-Expr Sense Sense (λ x. step_same scope x i) (λ e. e.what)
