-- An expression goes on alike at two places where calls and creations go on alike.
use Rattle.std.proofs.Common.{◌≡◌, ◌∙◌, ℕ, suc, ◌+◌, Bool, true, false, List, [], ◌∷◌, length, map, reverse, refl, sym, subst, arith, rules}
use Rattle.std.specs.Prelude.{◌&&◌, if◌then◌else◌, nat_le, pos, slice_get}
use Rattle.std.proofs.lemmas.List.{length-map, length-reverse}
use Rattle.oss_syntax.specs.declared.fault.FaultKind.TheVariants as fault
use Rattle.oss_syntax.specs.declared.tree.expr.BinOp.{BinOp}
use Rattle.oss_syntax.specs.declared.tree.expr.BinOp.TheVariants as op
use Rattle.oss_syntax.specs.declared.tree.expr.Expr.{Expr}
use Rattle.oss_syntax.specs.declared.tree.expr.ExprKind.TheFolds.{the_lemmas as expr_folds}
use Rattle.oss_syntax.specs.declared.tree.expr.ExprKind.TheVariants as exprs
use Rattle.oss_syntax.specs.declared.tree.expr.UnOp.{UnOp}
use Rattle.oss_syntax.specs.declared.tree.expr.UnOp.TheVariants as prefix
use Rattle.oss_syntax.specs.declared.tree.program.Item.{Item}
use Rattle.oss_syntax.specs.declared.tree.program.Local.{Local}
use Rattle.oss_grammar.proofs.TreeInduction.{Each, ExprParts, expr_induction}
use Rattle.oss_grammar.proofs.TreeInduction.Each.{each_none, each_more}
use Rattle.oss_grammar.proofs.TreeInduction.ExprParts.{is_number, is_name, is_index, is_unary, is_binary, is_applied}
use Rattle.oss_model.specs.Bodies.Ask.{Fails, Tick}
use Rattle.oss_meaning.specs.declared.names.Found.{Found}
use Rattle.oss_meaning.specs.declared.names.Found.TheVariants as names
use Rattle.oss_meaning.specs.declared.names.Target.{Target}
use Rattle.oss_meaning.specs.declared.names.Target.TheVariants as target
use Rattle.oss_meaning.specs.declared.value.Value.{Value}
use Rattle.oss_meaning.specs.declared.value.Value.TheVariants as value
use Rattle.oss_meaning.specs.Expressions.{Evaluation, Here, Sense, TreeRun, TreeScript, arguments, binary_value, both, both_then, call_value, called, called_or_created, index_indexed, index_place, index_sense, index_value, is_task_function, name_place, name_value, no_place, prefix_place, prefix_value, sense_of, then_load, value_at}
use Rattle.oss_meaning.specs.Names.{found, functions_of, item_found}
use Rattle.oss_meaning.specs.Operators.{is_zero, operated_by, prefixed, truth_of}
use Rattle.oss_meaning.specs.Pointers.{Extent, element_of, extents_of, moved, number_in, row_of}
use Rattle.oss_meaning.specs.Runs.{ending}
use Rattle.oss_meaning.proofs.FormLemmas.{sense-number, sense-name, sense-index, sense-unary, sense-binary, sense-call}
use Rattle.oss_multidependency_laws.specs.Fitting.{all_hold, fits, function_takes, takes}
use Rattle.oss_multidependency_laws.proofs.AlikeRuns.{Like, asking_like, ending_like, if_like, loaded_like, unless_like}

-- Tests

abbrev IsYes : Bool → Type 0
IsYes true = Unit {0}
IsYes false = ⊥

pub and_left : (a b : Bool) → (a && b) ≡ true → a ≡ true
and_left true b e = refl
and_left false b e = absurd (subst IsYes (sym e) tt)

pub and_right : (a b : Bool) → (a && b) ≡ true → b ≡ true
and_right true b e = e
and_right false b e = absurd (subst IsYes (sym e) tt)

-- What fits, by forms

module _ (all : List Item) (line : ℕ) where
  pub fits-index : (a e : Expr) → fits all (record { what = exprs.Index a e; line = line }) ≡ (fits all a && fits all e)
  fits-index a e = search (rules, expr_folds)

  pub fits-unary : (o : UnOp) (e : Expr) → fits all (record { what = exprs.Unary o e; line = line }) ≡ fits all e
  fits-unary o e = search (rules, expr_folds)

  pub fits-binary : (o : BinOp) (a b : Expr) → fits all (record { what = exprs.Binary o a b; line = line }) ≡ (fits all a && fits all b)
  fits-binary o a b = search (rules, expr_folds)

  pub fits-call : (text : List ℕ) (es : List Expr) → fits all (record { what = exprs.Call text es; line = line }) ≡ (all_hold (map (fits all) es) && takes all (item_found all text) (length (map (fits all) es)))
  fits-call text es = search (rules, expr_folds)

module _ (all : List Item) (Good : TreeScript → Type 0) where
  -- a function has so many parameters
  abbrev pub Takes : ℕ → ℕ → Type 0
  Takes f n = function_takes (slice_get (functions_of all) f) n ≡ true

  -- what goes on with a value
  abbrev pub Goes : (Value → TreeRun) → (Value → TreeRun) → Type 0
  Goes go on = (v : Value) → Like Good (go v) (on v)

  -- Two places where calls with as many arguments as parameters go on alike, and creations at such calls.
  pub record HereLike (a b : Here) : Type 0 where
    pub frames : a.frames ≡ b.frames
    pub turns : a.turns ≡ b.turns
    pub call : (f : ℕ) (vs : List Value) (frames : ℕ) (go on : Value → TreeRun) → Takes f (length vs) → Goes go on → Like Good (a.call f vs frames go) (b.call f vs frames on)
    pub create : (f : ℕ) (vs : List Value) (line : ℕ) (go on : Value → TreeRun) → Takes f (length vs) → Goes go on → Like Good (a.create f vs line go) (b.create f vs line on)

  -- an evaluation that goes on alike at two such places
  abbrev pub Even : Evaluation → Type 0
  Even a = (line : ℕ) (x y : Here) → HereLike x y → (locals : List Value) (go on : Value → TreeRun) → Goes go on → Like Good (a line x locals go) (a line y locals on)

  pub record EvenSense (s : Sense) : Type 0 where
    pub value : Even s.value
    pub place : Even s.place
    pub indexed : Even s.indexed

  abbrev pub AllEven : List Sense → Type 0
  AllEven [] = Unit {0}
  AllEven (s ∷ rest) = EvenSense s × AllEven rest

  nowhere : Even no_place
  nowhere line x y h locals go on ok = ok value.Nowhere

  then_load_even : (globals : List Extent) (a : Evaluation) → Even a → Even (then_load globals a)
  then_load_even globals a even line x y h locals go on ok = even line x y h locals _ _ (λ p. loaded_like Good globals line p go on ok)

  both_even : (a b : Evaluation) → Even a → Even b → (line : ℕ) (x y : Here) → HereLike x y → (locals : List Value) (go on : Value → Value → TreeRun) → ((v w : Value) → Like Good (go v w) (on v w))
      → Like Good (both a b line x locals go) (both a b line y locals on)
  both_even a b left right line x y h locals go on ok = left line x y h locals _ _ (λ v. right line x y h locals _ _ (λ w. ok v w))

  -- Names

  name_even : (globals : List Extent) (f : Found) → Even (name_value globals f)
  name_even globals (names.Variable slot k) line x y h locals go on ok = ok (value_at locals slot)
  name_even globals (names.Scalar g n) line x y h locals go on ok = loaded_like Good globals line (value.Place g (pos 0)) go on ok
  name_even globals (names.Array g n) line x y h locals go on ok = ok (value.Place g (pos 0))
  name_even globals (names.Grid g n) line x y h locals go on ok = ok (value.Place g (pos 0))
  name_even globals (names.Function f) line x y h locals go on ok = ok value.Nowhere
  name_even globals names.Unknown line x y h locals go on ok = ok value.Nowhere

  place_even : (f : Found) → Even (name_place f)
  place_even (names.Variable slot k) line x y h locals go on ok = ok value.Nowhere
  place_even (names.Scalar g n) line x y h locals go on ok = ok (value.Place g (pos 0))
  place_even (names.Array g n) line x y h locals go on ok = ok value.Nowhere
  place_even (names.Grid g n) line x y h locals go on ok = ok value.Nowhere
  place_even (names.Function f) line x y h locals go on ok = ok value.Nowhere
  place_even names.Unknown line x y h locals go on ok = ok value.Nowhere

  -- Indices and operators

  module _ (globals : List Extent) (a b : Sense) (left : EvenSense a) (right : EvenSense b) where
    place_at : (t : Target) → Even (index_place globals t a b)
    place_at (target.Grid g n) line x y h locals go on ok = right.value line x y h locals _ _ (λ v. ok (row_of globals g (number_in v)))
    place_at (target.Row g n) line x y h locals go on ok =
        both_even a.indexed b.value left.indexed right.value line x y h locals _ _ (λ v w. ok (element_of globals g (number_in v) (number_in w)))
    place_at target.Nothing line x y h locals go on ok = both_even a.value b.value left.value right.value line x y h locals _ _ (λ p v. ok (moved false p v))
    place_at (target.Local slot t) line x y h locals go on ok = both_even a.value b.value left.value right.value line x y h locals _ _ (λ p v. ok (moved false p v))
    place_at (target.Cell n) line x y h locals go on ok = both_even a.value b.value left.value right.value line x y h locals _ _ (λ p v. ok (moved false p v))

    value_in : (t : Target) → Even (index_value globals t a b)
    value_in (target.Grid g n) = place_at (target.Grid g n)
    value_in (target.Row g n) = then_load_even globals (index_place globals (target.Row g n) a b) (place_at (target.Row g n))
    value_in target.Nothing = then_load_even globals (index_place globals target.Nothing a b) (place_at target.Nothing)
    value_in (target.Local slot t) = then_load_even globals (index_place globals (target.Local slot t) a b) (place_at (target.Local slot t))
    value_in (target.Cell n) = then_load_even globals (index_place globals (target.Cell n) a b) (place_at (target.Cell n))

    indexed_in : (t : Target) → Even (index_indexed globals t a b)
    indexed_in (target.Grid g n) = right.value
    indexed_in (target.Row g n) = value_in (target.Row g n)
    indexed_in target.Nothing = value_in target.Nothing
    indexed_in (target.Local slot t) = value_in (target.Local slot t)
    indexed_in (target.Cell n) = value_in (target.Cell n)

    index_even : EvenSense (index_sense globals a b)
    index_even = record { value = value_in a.typed.target; place = place_at a.typed.target; indexed = indexed_in a.typed.target }

    operated_even : (o : BinOp) → Even (both_then o a b)
    operated_even o line x y h locals go on ok =
        both_even a.value b.value left.value right.value line x y h locals _ _ (λ v w. unless_like Good (operated_by o a.typed.kind b.typed.kind v w) line go on ok)

    binary_even : (o : BinOp) → Even (binary_value o a b)
    binary_even op.AndAlso line x y h locals go on ok =
        left.value line x y h locals _ _ (λ v. if_like Good (is_zero v) _ _ _ _ (ok (value.Num 0)) (right.value line x y h locals _ _ (λ w. ok (truth_of w))))
    binary_even op.OrElse line x y h locals go on ok =
        left.value line x y h locals _ _ (λ v. if_like Good (is_zero v) _ _ _ _ (right.value line x y h locals _ _ (λ w. ok (truth_of w))) (ok (value.Num 1)))
    binary_even op.Or line x y h locals go on ok = operated_even op.Or line x y h locals go on ok
    binary_even op.Xor line x y h locals go on ok = operated_even op.Xor line x y h locals go on ok
    binary_even op.And line x y h locals go on ok = operated_even op.And line x y h locals go on ok
    binary_even op.Equal line x y h locals go on ok = operated_even op.Equal line x y h locals go on ok
    binary_even op.Differ line x y h locals go on ok = operated_even op.Differ line x y h locals go on ok
    binary_even op.Less line x y h locals go on ok = operated_even op.Less line x y h locals go on ok
    binary_even op.LessEqual line x y h locals go on ok = operated_even op.LessEqual line x y h locals go on ok
    binary_even op.More line x y h locals go on ok = operated_even op.More line x y h locals go on ok
    binary_even op.MoreEqual line x y h locals go on ok = operated_even op.MoreEqual line x y h locals go on ok
    binary_even op.Left line x y h locals go on ok = operated_even op.Left line x y h locals go on ok
    binary_even op.Right line x y h locals go on ok = operated_even op.Right line x y h locals go on ok
    binary_even op.Add line x y h locals go on ok = operated_even op.Add line x y h locals go on ok
    binary_even op.Sub line x y h locals go on ok = operated_even op.Sub line x y h locals go on ok
    binary_even op.Mul line x y h locals go on ok = operated_even op.Mul line x y h locals go on ok
    binary_even op.Div line x y h locals go on ok = operated_even op.Div line x y h locals go on ok
    binary_even op.Rem line x y h locals go on ok = operated_even op.Rem line x y h locals go on ok

  module _ (globals : List Extent) (a : Sense) (even : EvenSense a) where
    prefix_even : (o : UnOp) → Even (prefix_value globals o a)
    prefix_even prefix.Deref line x y h locals go on ok = then_load_even globals a.value even.value line x y h locals go on ok
    prefix_even prefix.Address line x y h locals go on ok = even.place line x y h locals go on ok
    prefix_even prefix.Minus line x y h locals go on ok = even.value line x y h locals _ _ (λ v. ok (prefixed prefix.Minus v))
    prefix_even prefix.Plus line x y h locals go on ok = even.value line x y h locals _ _ (λ v. ok (prefixed prefix.Plus v))
    prefix_even prefix.Not line x y h locals go on ok = even.value line x y h locals _ _ (λ v. ok (prefixed prefix.Not v))
    prefix_even prefix.Invert line x y h locals go on ok = even.value line x y h locals _ _ (λ v. ok (prefixed prefix.Invert v))

    prefix_places : (o : UnOp) → Even (prefix_place o a)
    prefix_places prefix.Deref = even.value
    prefix_places prefix.Address = nowhere
    prefix_places prefix.Minus = nowhere
    prefix_places prefix.Plus = nowhere
    prefix_places prefix.Not = nowhere
    prefix_places prefix.Invert = nowhere

  -- Calls

  -- expressions from left to right, of which as many values come as there are expressions
  pub arguments_even : (ss : List Sense) → AllEven ss → (line : ℕ) (x y : Here) → HereLike x y → (locals made : List Value) (go on : List Value → TreeRun)
      → ((vs : List Value) → length vs ≡ length ss + length made → Like Good (go vs) (on vs)) → Like Good (arguments ss line x locals made go) (arguments ss line y locals made on)
  arguments_even [] even line x y h locals made go on ok = ok made (omega arith)
  arguments_even (s ∷ rest) even line x y h locals made go on ok =
      even.0.value line x y h locals _ _ (λ v. arguments_even rest even.1 line x y h locals (v ∷ made) go on (λ vs e. ok vs (e ∙ omega arith)))

  called_even : (f line : ℕ) (x y : Here) → HereLike x y → (vs : List Value) → Takes f (length vs) → (go on : Value → TreeRun) → Goes go on → Like Good (called f line x vs go) (called f line y vs on)
  called_even f line x y h vs fit go on ok = asking_like Good Tick Tick line _ _ refl tt (λ t.
      subst (λ n. Like Good (framed x.frames x go) (framed n y on)) h.frames
      (if_like Good (nat_le 256 x.frames) _ _ _ _ (ending_like Good (Fails fault.TooDeep) line tt) (h.call f vs (suc x.frames) go on fit ok)))
    where
      framed : ℕ → Here → (Value → TreeRun) → TreeRun
      framed n z k = if nat_le 256 n then ending (Fails fault.TooDeep) line else z.call f vs (suc n) k

  either_even : (b : Bool) (f line : ℕ) (x y : Here) → HereLike x y → (vs : List Value) → Takes f (length vs) → (go on : Value → TreeRun) → Goes go on
      → Like Good (called_or_created b f line x vs go) (called_or_created b f line y vs on)
  either_even false f line x y h vs fit go on ok = called_even f line x y h vs fit go on ok
  either_even true f line x y h vs fit go on ok = h.create f vs line go on fit ok

  pub call_even : (f : Found) (ss : List Sense) → AllEven ss → takes all f (length ss) ≡ true → Even (call_value all f ss)
  call_even (names.Function f) ss even fit line x y h locals go on ok = arguments_even ss even line x y h locals [] _ _ (λ vs e.
      either_even (is_task_function (slice_get (functions_of all) f)) f line x y h (reverse vs) (subst (λ n. Takes f n) (sym (length-reverse vs ∙ e ∙ omega arith)) fit) go on ok)
  call_even (names.Variable slot k) ss even fit line x y h locals go on ok = ok (value.Num 0)
  call_even (names.Scalar g n) ss even fit line x y h locals go on ok = ok (value.Num 0)
  call_even (names.Array g n) ss even fit line x y h locals go on ok = ok (value.Num 0)
  call_even (names.Grid g n) ss even fit line x y h locals go on ok = ok (value.Num 0)
  call_even names.Unknown ss even fit line x y h locals go on ok = ok (value.Num 0)

  module _ (scope : List Local) where
    abbrev IsEven : Expr → Type 0
    IsEven e = fits all e ≡ true → EvenSense (sense_of all scope e)

    each_even : {es : List Expr} → Each IsEven es → all_hold (map (fits all) es) ≡ true → AllEven (map (sense_of all scope) es)
    each_even each_none e = tt
    each_even (each_more {x} {xs} ok oks) e = (ok (and_left (fits all x) (all_hold (map (fits all) xs)) e), each_even oks (and_right (fits all x) (all_hold (map (fits all) xs)) e))

    shown : (e : Expr) (s : Sense) → sense_of all scope e ≡ s → EvenSense s → EvenSense (sense_of all scope e)
    shown e s is even = subst EvenSense (sym is) even

    step : (e : Expr) → ExprParts IsEven e.what → IsEven e
    step e (is_number n u is) = subst (λ w. IsEven (record { what = w; line = e.line })) (sym is) (λ fit.
        shown (record { what = exprs.Number n u; line = e.line }) _ (sense-number all scope e.line n u)
        (record { value = λ line x y h locals go on ok. ok (value.Num n); place = nowhere; indexed = λ line x y h locals go on ok. ok (value.Num n) }))
    step e (is_name text is) = subst (λ w. IsEven (record { what = w; line = e.line })) (sym is) (λ fit.
        shown (record { what = exprs.Name text; line = e.line }) _ (sense-name all scope e.line text)
        (record { value = name_even (extents_of all) (found all scope text); place = place_even (found all scope text); indexed = name_even (extents_of all) (found all scope text) }))
    step e (is_index a b is oka okb) = subst (λ w. IsEven (record { what = w; line = e.line })) (sym is) (λ fit.
        let fit = sym (fits-index all e.line a b) ∙ fit in
        shown (record { what = exprs.Index a b; line = e.line }) _ (sense-index all scope e.line a b)
        (index_even (extents_of all) (sense_of all scope a) (sense_of all scope b) (oka (and_left (fits all a) (fits all b) fit)) (okb (and_right (fits all a) (fits all b) fit))))
    step e (is_unary o a is oka) = subst (λ w. IsEven (record { what = w; line = e.line })) (sym is) (λ fit.
        let even = oka (sym (fits-unary all e.line o a) ∙ fit) in
        shown (record { what = exprs.Unary o a; line = e.line }) _ (sense-unary all scope e.line o a)
        (record { value = prefix_even (extents_of all) (sense_of all scope a) even o; place = prefix_places (extents_of all) (sense_of all scope a) even o; indexed = prefix_even (extents_of all) (sense_of all scope a) even o }))
    step e (is_binary o a b is oka okb) = subst (λ w. IsEven (record { what = w; line = e.line })) (sym is) (λ fit.
        let fit = sym (fits-binary all e.line o a b) ∙ fit in
        let even = binary_even (extents_of all) (sense_of all scope a) (sense_of all scope b) (oka (and_left (fits all a) (fits all b) fit)) (okb (and_right (fits all a) (fits all b) fit)) o in
        shown (record { what = exprs.Binary o a b; line = e.line }) _ (sense-binary all scope e.line o a b) (record { value = even; place = nowhere; indexed = even }))
    step e (is_applied text es is oks) = subst (λ w. IsEven (record { what = w; line = e.line })) (sym is) (λ fit.
        let fit = sym (fits-call all e.line text es) ∙ fit in
        let few : length (map (fits all) es) ≡ length (map (sense_of all scope) es) = length-map es (fits all) ∙ sym (length-map es (sense_of all scope)) in
        let even = call_even (item_found all text) (map (sense_of all scope) es) (each_even oks (and_left (all_hold (map (fits all) es)) _ fit))
        (subst (λ n. takes all (item_found all text) n ≡ true) few (and_right (all_hold (map (fits all) es)) _ fit)) in
        shown (record { what = exprs.Call text es; line = e.line }) _ (sense-call all scope e.line text es) (record { value = even; place = nowhere; indexed = even }))

    -- Each expression in which calls fit goes on alike.
    pub even_sense : (e : Expr) → fits all e ≡ true → EvenSense (sense_of all scope e)
    even_sense = expr_induction IsEven step

    pub all_even : (es : List Expr) → all_hold (map (fits all) es) ≡ true → AllEven (map (sense_of all scope) es)
    all_even [] e = tt
    all_even (x ∷ xs) e = (even_sense x (and_left (fits all x) (all_hold (map (fits all) xs)) e), all_even xs (and_right (fits all x) (all_hold (map (fits all) xs)) e))
