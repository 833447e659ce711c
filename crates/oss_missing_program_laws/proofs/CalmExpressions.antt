-- An expression goes on calmly at three places where calls and creations do.
use Rattle.std.proofs.Common.{◌≡◌, ℕ, suc, Bool, true, false, List, [], ◌∷◌, map, reverse, sym, subst}
use Rattle.std.specs.Prelude.{if◌then◌else◌, nat_le, pos, slice_get}
use Rattle.oss_syntax.specs.declared.fault.FaultKind.TheVariants as fault
use Rattle.oss_syntax.specs.declared.tree.expr.BinOp.{BinOp}
use Rattle.oss_syntax.specs.declared.tree.expr.BinOp.TheVariants as op
use Rattle.oss_syntax.specs.declared.tree.expr.Expr.{Expr}
use Rattle.oss_syntax.specs.declared.tree.expr.ExprKind.TheVariants as exprs
use Rattle.oss_syntax.specs.declared.tree.expr.UnOp.{UnOp}
use Rattle.oss_syntax.specs.declared.tree.expr.UnOp.TheVariants as prefix
use Rattle.oss_syntax.specs.declared.tree.program.Item.{Item}
use Rattle.oss_syntax.specs.declared.tree.program.Local.{Local}
use Rattle.oss_grammar.proofs.TreeInduction.{Each, ExprParts, expr_induction}
use Rattle.oss_grammar.proofs.TreeInduction.Each.{each_none, each_more}
use Rattle.oss_grammar.proofs.TreeInduction.ExprParts.{is_number, is_name, is_index, is_unary, is_binary, is_applied}
use Rattle.oss_model.specs.Bodies.Ask.{Fails, Tick}
use Rattle.oss_meaning.specs.declared.names.Found.{Found}
use Rattle.oss_meaning.specs.declared.names.Found.TheVariants as names
use Rattle.oss_meaning.specs.declared.names.Target.{Target}
use Rattle.oss_meaning.specs.declared.names.Target.TheVariants as target
use Rattle.oss_meaning.specs.declared.value.Value.{Value}
use Rattle.oss_meaning.specs.declared.value.Value.TheVariants as value
use Rattle.oss_meaning.specs.Expressions.{Evaluation, Here, Sense, TreeRun, arguments, binary_value, both, both_then, call_value, called, called_or_created, index_indexed, index_place, index_sense, index_value, is_task_function, name_place, name_value, no_place, prefix_place, prefix_value, sense_of, then_load, value_at}
use Rattle.oss_meaning.specs.Names.{found, functions_of, item_found}
use Rattle.oss_meaning.specs.Operators.{is_zero, operated_by, prefixed, truth_of}
use Rattle.oss_meaning.specs.Pointers.{Extent, element_of, extents_of, moved, number_in, row_of}
use Rattle.oss_meaning.specs.Runs.{ending}
use Rattle.oss_meaning.proofs.FormLemmas.{sense-number, sense-name, sense-index, sense-unary, sense-binary, sense-call}
use Rattle.oss_missing_program_laws.proofs.CalmRuns.{Calm, Level, asking_calm, ending_calm, if_calm, loaded_calm, unless_calm, weakened}
use Rattle.oss_missing_program_laws.proofs.CalmRuns.Level.{outside}

module _ (W : Type 0) (l : Level) where
  -- what goes on with a value
  abbrev pub Goes : (Value → TreeRun) → (Value → TreeRun) → (Value → TreeRun) → Type 0
  Goes go on more = (v : Value) → Calm W l (go v) (on v) (more v)

  -- Three places, each of which may make one turn more than the one before it, where calls and creations go on calmly.
  pub record HereCalm (x y z : Here) : Type 0 where
    pub frames : x.frames ≡ y.frames
    pub others : x.frames ≡ z.frames
    pub turns : y.turns ≡ suc x.turns
    pub longer : z.turns ≡ suc (suc x.turns)
    pub call : (f : ℕ) (vs : List Value) (frames : ℕ) (go on more : Value → TreeRun) → ((v : Value) → Calm W outside (go v) (on v) (more v))
        → Calm W outside (x.call f vs frames go) (y.call f vs frames on) (z.call f vs frames more)
    pub create : (f : ℕ) (vs : List Value) (line : ℕ) (go on more : Value → TreeRun) → Goes go on more → Calm W l (x.create f vs line go) (y.create f vs line on) (z.create f vs line more)

  -- an evaluation that goes on calmly at such places
  abbrev pub Steady : Evaluation → Type 0
  Steady a = (line : ℕ) (x y z : Here) → HereCalm x y z → (locals : List Value) (go on more : Value → TreeRun) → Goes go on more → Calm W l (a line x locals go) (a line y locals on) (a line z locals more)

  pub record SteadySense (s : Sense) : Type 0 where
    pub value : Steady s.value
    pub place : Steady s.place
    pub indexed : Steady s.indexed

  abbrev pub AllSteady : List Sense → Type 0
  AllSteady [] = Unit {0}
  AllSteady (s ∷ rest) = SteadySense s × AllSteady rest

  nowhere : Steady no_place
  nowhere line x y z h locals go on more ok = ok value.Nowhere

  then_load_steady : (globals : List Extent) (a : Evaluation) → Steady a → Steady (then_load globals a)
  then_load_steady globals a steady line x y z h locals go on more ok = steady line x y z h locals _ _ _ (λ p. loaded_calm W l globals line p go on more ok)

  both_steady : (a b : Evaluation) → Steady a → Steady b → (line : ℕ) (x y z : Here) → HereCalm x y z → (locals : List Value) (go on more : Value → Value → TreeRun)
      → ((v w : Value) → Calm W l (go v w) (on v w) (more v w)) → Calm W l (both a b line x locals go) (both a b line y locals on) (both a b line z locals more)
  both_steady a b left right line x y z h locals go on more ok = left line x y z h locals _ _ _ (λ v. right line x y z h locals _ _ _ (λ w. ok v w))

  -- Names

  name_steady : (globals : List Extent) (f : Found) → Steady (name_value globals f)
  name_steady globals (names.Variable slot k) line x y z h locals go on more ok = ok (value_at locals slot)
  name_steady globals (names.Scalar g n) line x y z h locals go on more ok = loaded_calm W l globals line (value.Place g (pos 0)) go on more ok
  name_steady globals (names.Array g n) line x y z h locals go on more ok = ok (value.Place g (pos 0))
  name_steady globals (names.Grid g n) line x y z h locals go on more ok = ok (value.Place g (pos 0))
  name_steady globals (names.Function f) line x y z h locals go on more ok = ok value.Nowhere
  name_steady globals names.Unknown line x y z h locals go on more ok = ok value.Nowhere

  place_steady : (f : Found) → Steady (name_place f)
  place_steady (names.Variable slot k) line x y z h locals go on more ok = ok value.Nowhere
  place_steady (names.Scalar g n) line x y z h locals go on more ok = ok (value.Place g (pos 0))
  place_steady (names.Array g n) line x y z h locals go on more ok = ok value.Nowhere
  place_steady (names.Grid g n) line x y z h locals go on more ok = ok value.Nowhere
  place_steady (names.Function f) line x y z h locals go on more ok = ok value.Nowhere
  place_steady names.Unknown line x y z h locals go on more ok = ok value.Nowhere

  -- Indices and operators

  module _ (globals : List Extent) (a b : Sense) (left : SteadySense a) (right : SteadySense b) where
    place_at : (t : Target) → Steady (index_place globals t a b)
    place_at (target.Grid g n) line x y z h locals go on more ok = right.value line x y z h locals _ _ _ (λ v. ok (row_of globals g (number_in v)))
    place_at (target.Row g n) line x y z h locals go on more ok =
        both_steady a.indexed b.value left.indexed right.value line x y z h locals _ _ _ (λ v w. ok (element_of globals g (number_in v) (number_in w)))
    place_at target.Nothing line x y z h locals go on more ok = both_steady a.value b.value left.value right.value line x y z h locals _ _ _ (λ p v. ok (moved false p v))
    place_at (target.Local slot t) line x y z h locals go on more ok = both_steady a.value b.value left.value right.value line x y z h locals _ _ _ (λ p v. ok (moved false p v))
    place_at (target.Cell n) line x y z h locals go on more ok = both_steady a.value b.value left.value right.value line x y z h locals _ _ _ (λ p v. ok (moved false p v))

    value_in : (t : Target) → Steady (index_value globals t a b)
    value_in (target.Grid g n) = place_at (target.Grid g n)
    value_in (target.Row g n) = then_load_steady globals (index_place globals (target.Row g n) a b) (place_at (target.Row g n))
    value_in target.Nothing = then_load_steady globals (index_place globals target.Nothing a b) (place_at target.Nothing)
    value_in (target.Local slot t) = then_load_steady globals (index_place globals (target.Local slot t) a b) (place_at (target.Local slot t))
    value_in (target.Cell n) = then_load_steady globals (index_place globals (target.Cell n) a b) (place_at (target.Cell n))

    indexed_in : (t : Target) → Steady (index_indexed globals t a b)
    indexed_in (target.Grid g n) = right.value
    indexed_in (target.Row g n) = value_in (target.Row g n)
    indexed_in target.Nothing = value_in target.Nothing
    indexed_in (target.Local slot t) = value_in (target.Local slot t)
    indexed_in (target.Cell n) = value_in (target.Cell n)

    index_steady : SteadySense (index_sense globals a b)
    index_steady = record { value = value_in a.typed.target; place = place_at a.typed.target; indexed = indexed_in a.typed.target }

    operated_steady : (o : BinOp) → Steady (both_then o a b)
    operated_steady o line x y z h locals go on more ok =
        both_steady a.value b.value left.value right.value line x y z h locals _ _ _ (λ v w. unless_calm W l (operated_by o a.typed.kind b.typed.kind v w) line go on more ok)

    binary_steady : (o : BinOp) → Steady (binary_value o a b)
    binary_steady op.AndAlso line x y z h locals go on more ok =
        left.value line x y z h locals _ _ _ (λ v. if_calm W l (is_zero v) _ _ _ _ _ _ (ok (value.Num 0)) (right.value line x y z h locals _ _ _ (λ w. ok (truth_of w))))
    binary_steady op.OrElse line x y z h locals go on more ok =
        left.value line x y z h locals _ _ _ (λ v. if_calm W l (is_zero v) _ _ _ _ _ _ (right.value line x y z h locals _ _ _ (λ w. ok (truth_of w))) (ok (value.Num 1)))
    binary_steady op.Or line x y z h locals go on more ok = operated_steady op.Or line x y z h locals go on more ok
    binary_steady op.Xor line x y z h locals go on more ok = operated_steady op.Xor line x y z h locals go on more ok
    binary_steady op.And line x y z h locals go on more ok = operated_steady op.And line x y z h locals go on more ok
    binary_steady op.Equal line x y z h locals go on more ok = operated_steady op.Equal line x y z h locals go on more ok
    binary_steady op.Differ line x y z h locals go on more ok = operated_steady op.Differ line x y z h locals go on more ok
    binary_steady op.Less line x y z h locals go on more ok = operated_steady op.Less line x y z h locals go on more ok
    binary_steady op.LessEqual line x y z h locals go on more ok = operated_steady op.LessEqual line x y z h locals go on more ok
    binary_steady op.More line x y z h locals go on more ok = operated_steady op.More line x y z h locals go on more ok
    binary_steady op.MoreEqual line x y z h locals go on more ok = operated_steady op.MoreEqual line x y z h locals go on more ok
    binary_steady op.Left line x y z h locals go on more ok = operated_steady op.Left line x y z h locals go on more ok
    binary_steady op.Right line x y z h locals go on more ok = operated_steady op.Right line x y z h locals go on more ok
    binary_steady op.Add line x y z h locals go on more ok = operated_steady op.Add line x y z h locals go on more ok
    binary_steady op.Sub line x y z h locals go on more ok = operated_steady op.Sub line x y z h locals go on more ok
    binary_steady op.Mul line x y z h locals go on more ok = operated_steady op.Mul line x y z h locals go on more ok
    binary_steady op.Div line x y z h locals go on more ok = operated_steady op.Div line x y z h locals go on more ok
    binary_steady op.Rem line x y z h locals go on more ok = operated_steady op.Rem line x y z h locals go on more ok

  module _ (globals : List Extent) (a : Sense) (steady : SteadySense a) where
    prefix_steady : (o : UnOp) → Steady (prefix_value globals o a)
    prefix_steady prefix.Deref line x y z h locals go on more ok = then_load_steady globals a.value steady.value line x y z h locals go on more ok
    prefix_steady prefix.Address line x y z h locals go on more ok = steady.place line x y z h locals go on more ok
    prefix_steady prefix.Minus line x y z h locals go on more ok = steady.value line x y z h locals _ _ _ (λ v. ok (prefixed prefix.Minus v))
    prefix_steady prefix.Plus line x y z h locals go on more ok = steady.value line x y z h locals _ _ _ (λ v. ok (prefixed prefix.Plus v))
    prefix_steady prefix.Not line x y z h locals go on more ok = steady.value line x y z h locals _ _ _ (λ v. ok (prefixed prefix.Not v))
    prefix_steady prefix.Invert line x y z h locals go on more ok = steady.value line x y z h locals _ _ _ (λ v. ok (prefixed prefix.Invert v))

    prefix_places : (o : UnOp) → Steady (prefix_place o a)
    prefix_places prefix.Deref = steady.value
    prefix_places prefix.Address = nowhere
    prefix_places prefix.Minus = nowhere
    prefix_places prefix.Plus = nowhere
    prefix_places prefix.Not = nowhere
    prefix_places prefix.Invert = nowhere

  -- Calls

  pub arguments_calm : (ss : List Sense) → AllSteady ss → (line : ℕ) (x y z : Here) → HereCalm x y z → (locals made : List Value) (go on more : List Value → TreeRun)
      → ((vs : List Value) → Calm W l (go vs) (on vs) (more vs)) → Calm W l (arguments ss line x locals made go) (arguments ss line y locals made on) (arguments ss line z locals made more)
  arguments_calm [] steady line x y z h locals made go on more ok = ok made
  arguments_calm (s ∷ rest) steady line x y z h locals made go on more ok =
      steady.0.value line x y z h locals _ _ _ (λ v. arguments_calm rest steady.1 line x y z h locals (v ∷ made) go on more ok)

  called_calm : (f line : ℕ) (x y z : Here) → HereCalm x y z → (vs : List Value) (go on more : Value → TreeRun) → Goes go on more → Calm W l (called f line x vs go) (called f line y vs on) (called f line z vs more)
  called_calm f line x y z h vs go on more ok = asking_calm W l Tick line _ _ _ tt (λ t.
      subst (λ n. Calm W outside (framed x.frames x go) (framed n y on) (framed z.frames z more)) h.frames
      (subst (λ n. Calm W outside (framed x.frames x go) (framed x.frames y on) (framed n z more)) h.others
      (if_calm W outside (nat_le 256 x.frames) _ _ _ _ _ _ (ending_calm W outside (Fails fault.TooDeep) line tt) (h.call f vs (suc x.frames) go on more (λ v. weakened W l _ _ _ (ok v))))))
    where
      framed : ℕ → Here → (Value → TreeRun) → TreeRun
      framed n u k = if nat_le 256 n then ending (Fails fault.TooDeep) line else u.call f vs (suc n) k

  either_calm : (b : Bool) (f line : ℕ) (x y z : Here) → HereCalm x y z → (vs : List Value) (go on more : Value → TreeRun) → Goes go on more
      → Calm W l (called_or_created b f line x vs go) (called_or_created b f line y vs on) (called_or_created b f line z vs more)
  either_calm false f line x y z h vs go on more ok = called_calm f line x y z h vs go on more ok
  either_calm true f line x y z h vs go on more ok = h.create f vs line go on more ok

  module _ (all : List Item) where
    pub call_steady : (f : Found) (ss : List Sense) → AllSteady ss → Steady (call_value all f ss)
    call_steady (names.Function f) ss steady line x y z h locals go on more ok =
        arguments_calm ss steady line x y z h locals [] _ _ _ (λ vs. either_calm (is_task_function (slice_get (functions_of all) f)) f line x y z h (reverse vs) go on more ok)
    call_steady (names.Variable slot k) ss steady line x y z h locals go on more ok = ok (value.Num 0)
    call_steady (names.Scalar g n) ss steady line x y z h locals go on more ok = ok (value.Num 0)
    call_steady (names.Array g n) ss steady line x y z h locals go on more ok = ok (value.Num 0)
    call_steady (names.Grid g n) ss steady line x y z h locals go on more ok = ok (value.Num 0)
    call_steady names.Unknown ss steady line x y z h locals go on more ok = ok (value.Num 0)

    module _ (scope : List Local) where
      abbrev IsSteady : Expr → Type 0
      IsSteady e = SteadySense (sense_of all scope e)

      each_steady : {es : List Expr} → Each IsSteady es → AllSteady (map (sense_of all scope) es)
      each_steady each_none = tt
      each_steady (each_more ok oks) = (ok, each_steady oks)

      shown : (e : Expr) (s : Sense) → sense_of all scope e ≡ s → SteadySense s → IsSteady e
      shown e s is steady = subst SteadySense (sym is) steady

      step : (e : Expr) → ExprParts IsSteady e.what → IsSteady e
      step e (is_number n u is) = subst (λ w. IsSteady (record { what = w; line = e.line })) (sym is)
          (shown (record { what = exprs.Number n u; line = e.line }) _ (sense-number all scope e.line n u)
          (record { value = λ line x y z h locals go on more ok. ok (value.Num n); place = nowhere; indexed = λ line x y z h locals go on more ok. ok (value.Num n) }))
      step e (is_name text is) = subst (λ w. IsSteady (record { what = w; line = e.line })) (sym is)
          (shown (record { what = exprs.Name text; line = e.line }) _ (sense-name all scope e.line text)
          (record { value = name_steady (extents_of all) (found all scope text); place = place_steady (found all scope text); indexed = name_steady (extents_of all) (found all scope text) }))
      step e (is_index a b is oka okb) = subst (λ w. IsSteady (record { what = w; line = e.line })) (sym is)
          (shown (record { what = exprs.Index a b; line = e.line }) _ (sense-index all scope e.line a b) (index_steady (extents_of all) (sense_of all scope a) (sense_of all scope b) oka okb))
      step e (is_unary o a is oka) = subst (λ w. IsSteady (record { what = w; line = e.line })) (sym is)
          (shown (record { what = exprs.Unary o a; line = e.line }) _ (sense-unary all scope e.line o a)
          (record { value = prefix_steady (extents_of all) (sense_of all scope a) oka o; place = prefix_places (extents_of all) (sense_of all scope a) oka o; indexed = prefix_steady (extents_of all) (sense_of all scope a) oka o }))
      step e (is_binary o a b is oka okb) = subst (λ w. IsSteady (record { what = w; line = e.line })) (sym is)
          (let steady = binary_steady (extents_of all) (sense_of all scope a) (sense_of all scope b) oka okb o in
          shown (record { what = exprs.Binary o a b; line = e.line }) _ (sense-binary all scope e.line o a b) (record { value = steady; place = nowhere; indexed = steady }))
      step e (is_applied text es is oks) = subst (λ w. IsSteady (record { what = w; line = e.line })) (sym is)
          (let steady = call_steady (item_found all text) (map (sense_of all scope) es) (each_steady oks) in
          shown (record { what = exprs.Call text es; line = e.line }) _ (sense-call all scope e.line text es) (record { value = steady; place = nowhere; indexed = steady }))

      -- Each expression goes on calmly.
      pub steady_sense : (e : Expr) → SteadySense (sense_of all scope e)
      steady_sense = expr_induction IsSteady step

      pub all_steady : (es : List Expr) → AllSteady (map (sense_of all scope) es)
      all_steady [] = tt
      all_steady (e ∷ rest) = (steady_sense e, all_steady rest)
