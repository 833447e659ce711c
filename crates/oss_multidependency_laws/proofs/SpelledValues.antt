-- An expression in which a number stands in place of the newest local means what the expression means where that local has this number.
use Rattle.std.proofs.Common.{◌≡◌, ◌∙◌, ℕ, Bool, true, false, List, [], ◌∷◌, ◌++◌, length, map, reverse, refl, sym, ap, subst, rules}
use Rattle.std.specs.Prelude.{if◌then◌else◌, slice_get}
use Rattle.std.specs.Str.{bytes_eq}
use Rattle.oss_syntax.specs.declared.tree.expr.BinOp.{BinOp}
use Rattle.oss_syntax.specs.declared.tree.expr.BinOp.TheVariants as op
use Rattle.oss_syntax.specs.declared.tree.expr.Expr.{Expr}
use Rattle.oss_syntax.specs.declared.tree.expr.ExprKind.TheOpen as open_expr
use Rattle.oss_syntax.specs.declared.tree.expr.ExprKind.TheFolds.{the_lemmas as expr_folds}
use Rattle.oss_syntax.specs.declared.tree.expr.ExprKind.TheVariants as exprs
use Rattle.oss_syntax.specs.declared.tree.expr.UnOp.{UnOp}
use Rattle.oss_syntax.specs.declared.tree.expr.UnOp.TheVariants as prefix
use Rattle.oss_syntax.specs.declared.tree.program.Item.{Item}
use Rattle.oss_syntax.specs.declared.tree.program.Kind.{Kind}
use Rattle.oss_syntax.specs.declared.tree.program.Kind.TheVariants as kind
use Rattle.oss_syntax.specs.declared.tree.program.Local.{Local}
use Rattle.oss_syntax.specs.declared.tree.program.NumKind.TheVariants as num
use Rattle.oss_grammar.specs.Kinds.{binary_kind, value_kind}
use Rattle.oss_grammar.specs.declared.kinds.ValueKind.{ValueKind}
use Rattle.oss_grammar.specs.declared.kinds.ValueKind.TheVariants as value_kinds
use Rattle.oss_grammar.proofs.TreeInduction.{Each, ExprParts, expr_induction}
use Rattle.oss_grammar.proofs.TreeInduction.Each.{each_none, each_more}
use Rattle.oss_grammar.proofs.TreeInduction.ExprParts.{is_number, is_name, is_index, is_unary, is_binary, is_applied}
use Rattle.oss_meaning.specs.declared.names.Found.{Found}
use Rattle.oss_meaning.specs.declared.names.Found.TheVariants as names
use Rattle.oss_meaning.specs.declared.names.Target.{Target}
use Rattle.oss_meaning.specs.declared.names.Target.TheVariants as target
use Rattle.oss_meaning.specs.declared.names.Typed.{Typed}
use Rattle.oss_meaning.specs.declared.value.Value.{Value}
use Rattle.oss_meaning.specs.declared.value.Value.TheVariants as value
use Rattle.oss_meaning.specs.Expressions.{Evaluation, Here, Sense, TreeRun, arguments, binary_value, both, both_then, call_value, called_or_created, expr_step, index_indexed, index_place, index_sense, index_value, is_task_function, loaded, name_place, name_value, no_place, prefix_place, prefix_sense, prefix_value, sense_of, then_load, typed_index, typed_name, typed_prefix, unless_fault}
use Rattle.oss_meaning.specs.Names.{found, functions_of, item_found}
use Rattle.oss_meaning.specs.Operators.{is_zero, operated_by, prefixed, truth_of}
use Rattle.oss_meaning.specs.Pointers.{Extent, element_of, extents_of, moved, number_in, row_of}
use Rattle.oss_meaning.proofs.FormLemmas.{sense-number, sense-name, sense-index, sense-unary, sense-binary, sense-call}
use Rattle.oss_multidependency_laws.specs.Unrolling.{is_signed, name_or_number, spelled}
use Rattle.oss_multidependency_laws.proofs.SpelledNames.{IsWithin, found_within, front_value, newest_value, other_found, own_found}

-- a place in a variable counts as no place: no operator of an expression asks for it
abbrev pub settled : Target → Target
settled (target.Local slot k) = target.Nothing
settled t = t

abbrev typed_with : ValueKind → Target → Typed
typed_with k t = record { kind = k; target = t }

index_settled : (k : ValueKind) (t : Target) → typed_index (typed_with k t) ≡ typed_index (typed_with k (settled t))
index_settled k target.Nothing = refl
index_settled k (target.Local slot t) = refl
index_settled k (target.Cell n) = refl
index_settled k (target.Grid g n) = refl
index_settled k (target.Row g n) = refl

place_settled : (globals : List Extent) (t : Target) (a e : Sense) → index_place globals t a e ≡ index_place globals (settled t) a e
place_settled globals target.Nothing a e = refl
place_settled globals (target.Local slot t) a e = refl
place_settled globals (target.Cell n) a e = refl
place_settled globals (target.Grid g n) a e = refl
place_settled globals (target.Row g n) a e = refl

value_settled : (globals : List Extent) (t : Target) (a e : Sense) → index_value globals t a e ≡ index_value globals (settled t) a e
value_settled globals target.Nothing a e = refl
value_settled globals (target.Local slot t) a e = refl
value_settled globals (target.Cell n) a e = refl
value_settled globals (target.Grid g n) a e = refl
value_settled globals (target.Row g n) a e = refl

indexed_settled : (globals : List Extent) (t : Target) (a e : Sense) → index_indexed globals t a e ≡ index_indexed globals (settled t) a e
indexed_settled globals target.Nothing a e = refl
indexed_settled globals (target.Local slot t) a e = refl
indexed_settled globals (target.Cell n) a e = refl
indexed_settled globals (target.Grid g n) a e = refl
indexed_settled globals (target.Row g n) a e = refl

prefix_settled : (o : UnOp) (k : ValueKind) (t : Target) → typed_prefix o (typed_with k t) ≡ typed_prefix o (typed_with k (settled t))
prefix_settled o k target.Nothing = refl
prefix_settled prefix.Minus k (target.Local slot t) = refl
prefix_settled prefix.Plus k (target.Local slot t) = refl
prefix_settled prefix.Not k (target.Local slot t) = refl
prefix_settled prefix.Invert k (target.Local slot t) = refl
prefix_settled prefix.Deref k (target.Local slot t) = refl
prefix_settled prefix.Address k (target.Local slot t) = refl
prefix_settled o k (target.Cell n) = refl
prefix_settled o k (target.Grid g n) = refl
prefix_settled o k (target.Row g n) = refl

signed_kind : (k : Kind) → is_signed k ≡ true → value_kind k ≡ value_kinds.Signed
signed_kind (kind.Num num.Int) e = refl
signed_kind (kind.Num num.Long) e = refl
signed_kind (kind.Num num.Ulong) e = absurd (subst IsNot e tt)
  where
    IsNot : Bool → Type 0
    IsNot true = ⊥
    IsNot false = Unit {0}
signed_kind (kind.Pointer n) e = absurd (subst IsNot e tt)
  where
    IsNot : Bool → Type 0
    IsNot true = ⊥
    IsNot false = Unit {0}
signed_kind kind.Nothing e = absurd (subst IsNot e tt)
  where
    IsNot : Bool → Type 0
    IsNot true = ⊥
    IsNot false = Unit {0}

module _ (name : List ℕ) (k line : ℕ) where
  spelled-number : (n : ℕ) (u : Bool) → spelled name k (record { what = exprs.Number n u; line = line }) ≡ record { what = exprs.Number n u; line = line }
  spelled-number n u = search (rules, expr_folds)

  spelled-name : (text : List ℕ) → spelled name k (record { what = exprs.Name text; line = line }) ≡ record { what = name_or_number (bytes_eq name text) text k; line = line }
  spelled-name text = search (rules, expr_folds)

  spelled-index : (a e : Expr) → spelled name k (record { what = exprs.Index a e; line = line }) ≡ record { what = exprs.Index (spelled name k a) (spelled name k e); line = line }
  spelled-index a e = search (rules, expr_folds)

  spelled-unary : (o : UnOp) (e : Expr) → spelled name k (record { what = exprs.Unary o e; line = line }) ≡ record { what = exprs.Unary o (spelled name k e); line = line }
  spelled-unary o e = search (rules, expr_folds)

  spelled-binary : (o : BinOp) (a b : Expr) → spelled name k (record { what = exprs.Binary o a b; line = line }) ≡ record { what = exprs.Binary o (spelled name k a) (spelled name k b); line = line }
  spelled-binary o a b = search (rules, expr_folds)

  spelled-call : (text : List ℕ) (es : List Expr) → spelled name k (record { what = exprs.Call text es; line = line }) ≡ record { what = exprs.Call text (map (spelled name k) es); line = line }
  spelled-call text es = search (rules, expr_folds)

module _ (all : List Item) (scope : List Local) (v : Local) (k : ℕ) (signed : is_signed v.kind ≡ true) where
  -- one evaluation, the variable being the newest local with this number, and another without that local
  abbrev pub Gives : Evaluation → Evaluation → Type 0
  Gives a b = (line : ℕ) (here : Here) (locals : List Value) → length locals ≡ length scope → (go : Value → TreeRun) → a line here (locals ++ value.Num k ∷ []) go ≡ b line here locals go

  pub record SpellsAs (a b : Sense) : Type 0 where
    pub kind : a.typed.kind ≡ b.typed.kind
    pub target : settled a.typed.target ≡ settled b.typed.target
    pub value : Gives a.value b.value
    pub place : Gives a.place b.place
    pub indexed : Gives a.indexed b.indexed

  nowhere : Gives no_place no_place
  nowhere line here locals size go = refl

  then_load_gives : (a b : Evaluation) → Gives a b → Gives (then_load (extents_of all) a) (then_load (extents_of all) b)
  then_load_gives a b ok line here locals size go = ok line here locals size (λ p. loaded (extents_of all) line p go)

  both_give : (a b c d : Evaluation) → Gives a b → Gives c d → (line : ℕ) (here : Here) (locals : List Value) → length locals ≡ length scope → (go : Value → Value → TreeRun)
      → both a c line here (locals ++ value.Num k ∷ []) go ≡ both b d line here locals go
  both_give a b c d left right line here locals size go =
      left line here locals size (λ x. c line here (locals ++ value.Num k ∷ []) (λ w. go x w))
      ∙ ap (λ (f : Value → TreeRun). b line here locals f) (λ i. λ x. right line here locals size (λ w. go x w) i)

  number_ok : (n : ℕ) (u : Bool) → SpellsAs (expr_step all (scope ++ v ∷ []) (open_expr.Number n u)) (expr_step all scope (open_expr.Number n u))
  number_ok n u = record { kind = refl; target = refl; value = λ line here locals size go. refl; place = nowhere; indexed = λ line here locals size go. refl }

  abbrev sense_found : Found → Sense
  sense_found f = record { typed = typed_name f; value = name_value (extents_of all) f; place = name_place f; indexed = name_value (extents_of all) f }

  found_value : (f : Found) → IsWithin (length scope) f → Gives (name_value (extents_of all) f) (name_value (extents_of all) f)
  found_value (names.Variable slot t) h line here locals size go = ap go (front_value locals (value.Num k) value.Nowhere slot (subst (λ n. Below slot n) (sym size) h))
    where
      Below : ℕ → ℕ → Type 0
      Below a b = IsWithin b (names.Variable a t)
  found_value (names.Scalar g t) h line here locals size go = refl
  found_value (names.Array g t) h line here locals size go = refl
  found_value (names.Grid g t) h line here locals size go = refl
  found_value (names.Function f) h line here locals size go = refl
  found_value names.Unknown h line here locals size go = refl

  found_place : (f : Found) → Gives (name_place f) (name_place f)
  found_place (names.Variable slot t) line here locals size go = refl
  found_place (names.Scalar g t) line here locals size go = refl
  found_place (names.Array g t) line here locals size go = refl
  found_place (names.Grid g t) line here locals size go = refl
  found_place (names.Function f) line here locals size go = refl
  found_place names.Unknown line here locals size go = refl

  found_ok : (f : Found) → IsWithin (length scope) f → SpellsAs (sense_found f) (sense_found f)
  found_ok f h = record { kind = refl; target = refl; value = found_value f h; place = found_place f; indexed = found_value f h }

  variable_value : Gives (name_value (extents_of all) (names.Variable (length scope) v.kind)) (λ line here locals go. go (value.Num k))
  variable_value line here locals size go = ap go (newest_value locals (value.Num k) value.Nowhere (length scope) size)

  variable_ok : SpellsAs (sense_found (names.Variable (length scope) v.kind)) (expr_step all scope (open_expr.Number k false))
  variable_ok = record {
    kind = signed_kind v.kind signed;
    target = refl;
    value = variable_value;
    place = λ line here locals size go. refl;
    indexed = variable_value;
  }

  name_ok : (text : List ℕ) (line : ℕ) (own : Bool) → bytes_eq v.name text ≡ own → SpellsAs (expr_step all (scope ++ v ∷ []) (open_expr.Name text)) (sense_of all scope (record { what = name_or_number own text k; line = line }))
  name_ok text line true e =
      subst (λ s. SpellsAs (expr_step all (scope ++ v ∷ []) (open_expr.Name text)) s) (sym (sense-number all scope line k false))
      (subst (λ f. SpellsAs (sense_found f) (expr_step all scope (open_expr.Number k false))) (sym (own_found all scope v text e)) variable_ok)
  name_ok text line false e =
      subst (λ s. SpellsAs (expr_step all (scope ++ v ∷ []) (open_expr.Name text)) s) (sym (sense-name all scope line text))
      (subst (λ f. SpellsAs (sense_found f) (expr_step all scope (open_expr.Name text))) (sym (other_found all scope v text e)) (found_ok (found all scope text) (found_within all scope text)))

  module _ (a b c d : Sense) (left : SpellsAs a b) (right : SpellsAs c d) where
    place_at : (t : Target) → Gives (index_place (extents_of all) t a c) (index_place (extents_of all) t b d)
    place_at (target.Grid g n) line here locals size go = right.value line here locals size (λ x. go (row_of (extents_of all) g (number_in x)))
    place_at (target.Row g n) line here locals size go =
        both_give a.indexed b.indexed c.value d.value left.indexed right.value line here locals size (λ x w. go (element_of (extents_of all) g (number_in x) (number_in w)))
    place_at target.Nothing line here locals size go = both_give a.value b.value c.value d.value left.value right.value line here locals size (λ p x. go (moved false p x))
    place_at (target.Local slot t) line here locals size go = both_give a.value b.value c.value d.value left.value right.value line here locals size (λ p x. go (moved false p x))
    place_at (target.Cell n) line here locals size go = both_give a.value b.value c.value d.value left.value right.value line here locals size (λ p x. go (moved false p x))

    value_at_ : (t : Target) → Gives (index_value (extents_of all) t a c) (index_value (extents_of all) t b d)
    value_at_ (target.Grid g n) = place_at (target.Grid g n)
    value_at_ (target.Row g n) = then_load_gives (index_place (extents_of all) (target.Row g n) a c) (index_place (extents_of all) (target.Row g n) b d) (place_at (target.Row g n))
    value_at_ target.Nothing = then_load_gives (index_place (extents_of all) target.Nothing a c) (index_place (extents_of all) target.Nothing b d) (place_at target.Nothing)
    value_at_ (target.Local slot t) = then_load_gives (index_place (extents_of all) (target.Local slot t) a c) (index_place (extents_of all) (target.Local slot t) b d) (place_at (target.Local slot t))
    value_at_ (target.Cell n) = then_load_gives (index_place (extents_of all) (target.Cell n) a c) (index_place (extents_of all) (target.Cell n) b d) (place_at (target.Cell n))

    indexed_at : (t : Target) → Gives (index_indexed (extents_of all) t a c) (index_indexed (extents_of all) t b d)
    indexed_at (target.Grid g n) = right.value
    indexed_at (target.Row g n) = value_at_ (target.Row g n)
    indexed_at target.Nothing = value_at_ target.Nothing
    indexed_at (target.Local slot t) = value_at_ (target.Local slot t)
    indexed_at (target.Cell n) = value_at_ (target.Cell n)

    -- what is so at one place, is so at two that count as one
    across : (F : Target → Sense → Sense → Evaluation) → ((t : Target) (x y : Sense) → F t x y ≡ F (settled t) x y) → ((t : Target) → Gives (F t a c) (F t b d)) → Gives (F a.typed.target a c) (F b.typed.target b d)
    across F same at =
        subst (λ e. Gives e (F b.typed.target b d)) (sym (same a.typed.target a c))
        (subst (λ e. Gives (F (settled a.typed.target) a c) e) (sym (same b.typed.target b d))
        (subst (λ t. Gives (F (settled a.typed.target) a c) (F t b d)) left.target (at (settled a.typed.target))))

    index_typed : typed_index a.typed ≡ typed_index b.typed
    index_typed =
        index_settled a.typed.kind a.typed.target ∙ ap (λ t. typed_index (typed_with a.typed.kind t)) left.target
        ∙ ap (λ q. typed_index (typed_with q (settled b.typed.target))) left.kind ∙ sym (index_settled b.typed.kind b.typed.target)

    index_ok : SpellsAs (index_sense (extents_of all) a c) (index_sense (extents_of all) b d)
    index_ok = record {
      kind = ap (λ (t : Typed). t.kind) index_typed;
      target = ap (λ (t : Typed). settled t.target) index_typed;
      value = across (λ t x y. index_value (extents_of all) t x y) (λ t x y. value_settled (extents_of all) t x y) value_at_;
      place = across (λ t x y. index_place (extents_of all) t x y) (λ t x y. place_settled (extents_of all) t x y) place_at;
      indexed = across (λ t x y. index_indexed (extents_of all) t x y) (λ t x y. indexed_settled (extents_of all) t x y) indexed_at;
    }

    operated_give : (o : BinOp) → Gives (both_then o a c) (both_then o b d)
    operated_give o line here locals size go =
        both_give a.value b.value c.value d.value left.value right.value line here locals size (λ x w. unless_fault (operated_by o a.typed.kind c.typed.kind x w) line go)
        ∙ ap (λ q. both b.value d.value line here locals (λ x w. unless_fault (operated_by o q c.typed.kind x w) line go)) left.kind
        ∙ ap (λ q. both b.value d.value line here locals (λ x w. unless_fault (operated_by o b.typed.kind q x w) line go)) right.kind

    binary_gives : (o : BinOp) → Gives (binary_value o a c) (binary_value o b d)
    binary_gives op.AndAlso line here locals size go =
        left.value line here locals size (λ x. if is_zero x then go (value.Num 0) else c.value line here (locals ++ value.Num k ∷ []) (λ w. go (truth_of w)))
        ∙ ap (λ (f : Value → TreeRun). b.value line here locals f) (λ i. λ x. if is_zero x then go (value.Num 0) else right.value line here locals size (λ w. go (truth_of w)) i)
    binary_gives op.OrElse line here locals size go =
        left.value line here locals size (λ x. if is_zero x then c.value line here (locals ++ value.Num k ∷ []) (λ w. go (truth_of w)) else go (value.Num 1))
        ∙ ap (λ (f : Value → TreeRun). b.value line here locals f) (λ i. λ x. if is_zero x then right.value line here locals size (λ w. go (truth_of w)) i else go (value.Num 1))
    binary_gives op.Or line here locals size go = operated_give op.Or line here locals size go
    binary_gives op.Xor line here locals size go = operated_give op.Xor line here locals size go
    binary_gives op.And line here locals size go = operated_give op.And line here locals size go
    binary_gives op.Equal line here locals size go = operated_give op.Equal line here locals size go
    binary_gives op.Differ line here locals size go = operated_give op.Differ line here locals size go
    binary_gives op.Less line here locals size go = operated_give op.Less line here locals size go
    binary_gives op.LessEqual line here locals size go = operated_give op.LessEqual line here locals size go
    binary_gives op.More line here locals size go = operated_give op.More line here locals size go
    binary_gives op.MoreEqual line here locals size go = operated_give op.MoreEqual line here locals size go
    binary_gives op.Left line here locals size go = operated_give op.Left line here locals size go
    binary_gives op.Right line here locals size go = operated_give op.Right line here locals size go
    binary_gives op.Add line here locals size go = operated_give op.Add line here locals size go
    binary_gives op.Sub line here locals size go = operated_give op.Sub line here locals size go
    binary_gives op.Mul line here locals size go = operated_give op.Mul line here locals size go
    binary_gives op.Div line here locals size go = operated_give op.Div line here locals size go
    binary_gives op.Rem line here locals size go = operated_give op.Rem line here locals size go

    binary_ok : (o : BinOp) → SpellsAs (expr_step all (scope ++ v ∷ []) (open_expr.Binary o a c)) (expr_step all scope (open_expr.Binary o b d))
    binary_ok o = record {
      kind = ap (λ q. binary_kind o q c.typed.kind) left.kind ∙ ap (λ q. binary_kind o b.typed.kind q) right.kind;
      target = refl;
      value = binary_gives o;
      place = nowhere;
      indexed = binary_gives o;
    }

  module _ (a b : Sense) (left : SpellsAs a b) where
    prefix_typed : (o : UnOp) → typed_prefix o a.typed ≡ typed_prefix o b.typed
    prefix_typed o =
        prefix_settled o a.typed.kind a.typed.target ∙ ap (λ t. typed_prefix o (typed_with a.typed.kind t)) left.target
        ∙ ap (λ q. typed_prefix o (typed_with q (settled b.typed.target))) left.kind ∙ sym (prefix_settled o b.typed.kind b.typed.target)

    prefix_gives : (o : UnOp) → Gives (prefix_value (extents_of all) o a) (prefix_value (extents_of all) o b)
    prefix_gives prefix.Deref line here locals size go = then_load_gives a.value b.value left.value line here locals size go
    prefix_gives prefix.Address line here locals size go = left.place line here locals size go
    prefix_gives prefix.Minus line here locals size go = left.value line here locals size (λ x. go (prefixed prefix.Minus x))
    prefix_gives prefix.Plus line here locals size go = left.value line here locals size (λ x. go (prefixed prefix.Plus x))
    prefix_gives prefix.Not line here locals size go = left.value line here locals size (λ x. go (prefixed prefix.Not x))
    prefix_gives prefix.Invert line here locals size go = left.value line here locals size (λ x. go (prefixed prefix.Invert x))

    prefix_places : (o : UnOp) → Gives (prefix_place o a) (prefix_place o b)
    prefix_places prefix.Deref = left.value
    prefix_places prefix.Address = nowhere
    prefix_places prefix.Minus = nowhere
    prefix_places prefix.Plus = nowhere
    prefix_places prefix.Not = nowhere
    prefix_places prefix.Invert = nowhere

    prefix_ok : (o : UnOp) → SpellsAs (prefix_sense (extents_of all) o a) (prefix_sense (extents_of all) o b)
    prefix_ok o = record {
      kind = ap (λ (t : Typed). t.kind) (prefix_typed o);
      target = ap (λ (t : Typed). settled t.target) (prefix_typed o);
      value = prefix_gives o;
      place = prefix_places o;
      indexed = prefix_gives o;
    }

  -- an expression and the one with the number
  abbrev Spells : Expr → Type 0
  Spells e = SpellsAs (sense_of all (scope ++ v ∷ []) e) (sense_of all scope (spelled v.name k e))

  arguments_give : {es : List Expr} → Each Spells es → (line : ℕ) (here : Here) (locals : List Value) → length locals ≡ length scope → (made : List Value) (go : List Value → TreeRun)
      → arguments (map (sense_of all (scope ++ v ∷ [])) es) line here (locals ++ value.Num k ∷ []) made go ≡ arguments (map (sense_of all scope) (map (spelled v.name k) es)) line here locals made go
  arguments_give each_none line here locals size made go = refl
  arguments_give (each_more {x} {xs} ok oks) line here locals size made go =
      ok.value line here locals size (λ w. arguments (map (sense_of all (scope ++ v ∷ [])) xs) line here (locals ++ value.Num k ∷ []) (w ∷ made) go)
      ∙ ap (λ (f : Value → TreeRun). (sense_of all scope (spelled v.name k x)).value line here locals f) (λ i. λ w. arguments_give oks line here locals size (w ∷ made) go i)

  call_gives : (f : Found) (es : List Expr) → Each Spells es → Gives (call_value all f (map (sense_of all (scope ++ v ∷ [])) es)) (call_value all f (map (sense_of all scope) (map (spelled v.name k) es)))
  call_gives (names.Function f) es oks line here locals size go =
      arguments_give oks line here locals size [] (λ made. called_or_created (is_task_function (slice_get (functions_of all) f)) f line here (reverse made) go)
  call_gives (names.Variable slot t) es oks line here locals size go = refl
  call_gives (names.Scalar g t) es oks line here locals size go = refl
  call_gives (names.Array g t) es oks line here locals size go = refl
  call_gives (names.Grid g t) es oks line here locals size go = refl
  call_gives names.Unknown es oks line here locals size go = refl

  call_ok : (text : List ℕ) (es : List Expr) → Each Spells es
      → SpellsAs (expr_step all (scope ++ v ∷ []) (open_expr.Call text (map (sense_of all (scope ++ v ∷ [])) es))) (expr_step all scope (open_expr.Call text (map (sense_of all scope) (map (spelled v.name k) es))))
  call_ok text es oks = record { kind = refl; target = refl; value = call_gives (item_found all text) es oks; place = nowhere; indexed = call_gives (item_found all text) es oks }

  -- both sides as they compute
  shown : (e : Expr) (x y : Sense) → sense_of all (scope ++ v ∷ []) e ≡ x → sense_of all scope (spelled v.name k e) ≡ y → SpellsAs x y → Spells e
  shown e x y p q ok = subst (λ s. SpellsAs s (sense_of all scope (spelled v.name k e))) (sym p) (subst (λ s. SpellsAs x s) (sym q) ok)

  step : (e : Expr) → ExprParts Spells e.what → Spells e
  step e (is_number n u is) = subst (λ w. Spells (record { what = w; line = e.line })) (sym is)
      (shown (record { what = exprs.Number n u; line = e.line }) _ _ (sense-number all (scope ++ v ∷ []) e.line n u)
      (ap (sense_of all scope) (spelled-number v.name k e.line n u) ∙ sense-number all scope e.line n u) (number_ok n u))
  step e (is_name text is) = subst (λ w. Spells (record { what = w; line = e.line })) (sym is)
      (shown (record { what = exprs.Name text; line = e.line }) _ _ (sense-name all (scope ++ v ∷ []) e.line text)
      (ap (sense_of all scope) (spelled-name v.name k e.line text)) (name_ok text e.line (bytes_eq v.name text) refl))
  step e (is_index a c is oka okc) = subst (λ w. Spells (record { what = w; line = e.line })) (sym is)
      (shown (record { what = exprs.Index a c; line = e.line }) _ _ (sense-index all (scope ++ v ∷ []) e.line a c)
      (ap (sense_of all scope) (spelled-index v.name k e.line a c) ∙ sense-index all scope e.line (spelled v.name k a) (spelled v.name k c))
      (index_ok (sense_of all (scope ++ v ∷ []) a) (sense_of all scope (spelled v.name k a)) (sense_of all (scope ++ v ∷ []) c) (sense_of all scope (spelled v.name k c)) oka okc))
  step e (is_unary o a is oka) = subst (λ w. Spells (record { what = w; line = e.line })) (sym is)
      (shown (record { what = exprs.Unary o a; line = e.line }) _ _ (sense-unary all (scope ++ v ∷ []) e.line o a)
      (ap (sense_of all scope) (spelled-unary v.name k e.line o a) ∙ sense-unary all scope e.line o (spelled v.name k a))
      (prefix_ok (sense_of all (scope ++ v ∷ []) a) (sense_of all scope (spelled v.name k a)) oka o))
  step e (is_binary o a c is oka okc) = subst (λ w. Spells (record { what = w; line = e.line })) (sym is)
      (shown (record { what = exprs.Binary o a c; line = e.line }) _ _ (sense-binary all (scope ++ v ∷ []) e.line o a c)
      (ap (sense_of all scope) (spelled-binary v.name k e.line o a c) ∙ sense-binary all scope e.line o (spelled v.name k a) (spelled v.name k c))
      (binary_ok (sense_of all (scope ++ v ∷ []) a) (sense_of all scope (spelled v.name k a)) (sense_of all (scope ++ v ∷ []) c) (sense_of all scope (spelled v.name k c)) oka okc o))
  step e (is_applied text es is oks) = subst (λ w. Spells (record { what = w; line = e.line })) (sym is)
      (shown (record { what = exprs.Call text es; line = e.line }) _ _ (sense-call all (scope ++ v ∷ []) e.line text es)
      (ap (sense_of all scope) (spelled-call v.name k e.line text es) ∙ sense-call all scope e.line text (map (spelled v.name k) es)) (call_ok text es oks))

  -- Each expression means what the one with the number means.
  pub spells : (e : Expr) → SpellsAs (sense_of all (scope ++ v ∷ []) e) (sense_of all scope (spelled v.name k e))
  spells = expr_induction Spells step
