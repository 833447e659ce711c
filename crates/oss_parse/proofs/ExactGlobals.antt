-- The declarators of globals are read exactly, behind their type and the first name.
use Rattle.std.proofs.Common.{◌≡◌, ℕ, Bool, true, false, ◌||◌, List, [], ◌∷◌, ◌++◌, map, refl, sym, ap, ◌∙◌, subst, Some, None}
use Rattle.std.specs.Prelude.{codes}
use Rattle.std.proofs.lemmas.List.{append-nil}
use Rattle.oss_syntax.specs.declared.token.Token.{Token}
use Rattle.oss_syntax.specs.declared.token.TokenKind.{TokenKind}
use Rattle.oss_syntax.specs.declared.token.TokenKind.TheVariants as kinds
use Rattle.oss_syntax.specs.declared.tree.program.GlobalDef.{GlobalDef}
use Rattle.oss_syntax.specs.declared.tree.program.Item.{Item}
use Rattle.oss_syntax.specs.declared.tree.program.Item.TheVariants as items
use Rattle.oss_syntax.specs.declared.tree.program.NumKind.{NumKind}
use Rattle.oss_grammar.specs.Fronts.{Viable}
use Rattle.oss_grammar.specs.Grammar.{One, Mapped, Either}
use Rattle.oss_grammar.specs.Grammar.Either.{one_way, other_way}
use Rattle.oss_grammar.specs.OneToken.{IsSymbol, IsIndexOpen, IsIndexClose, IsComma}
use Rattle.oss_grammar.specs.Programs.{IsFirstValue, IsGlobal, IsGlobals, cells_of_rows}
use Rattle.oss_grammar.specs.Programs.IsFirstValue.{plain_value, negative_value}
use Rattle.oss_grammar.specs.Programs.IsGlobal.{scalar_global, first_global, array_global, grid_global}
use Rattle.oss_grammar.specs.Programs.IsGlobals.{last_global, next_global}
use Rattle.oss_grammar.specs.Reading.{begins, has, one_of, never, read_one, read_then, read_mapped}
use Rattle.oss_grammar.specs.Values.{negated}
use Rattle.oss_grammar.proofs.Parts.{Exact, Begun, exact_as, member_begins}
use Rattle.oss_grammar.proofs.PartLemmas.{Nowhere, nowhere, exact_one, begun_one, Nothing, exact_nothing, exact_mapped, begun_mapped, Then, ThenDeep, exact_then, begun_then, EitherDeep, exact_either, begun_either}
use Rattle.oss_grammar.proofs.PartLemmas.EitherDeep.{one_deep, other_deep}
use Rattle.oss_grammar.proofs.PairLemmas.{some_text}
use Rattle.oss_grammar.proofs.StepLemmas.{none_goes, fewer_go}
use Rattle.oss_expressions.specs.ExpressionReading.{and_then, read_more}
use Rattle.oss_expressions.specs.TokenValues.{symbol_at, name_at}
use Rattle.oss_expressions.specs.declared.cursor.Named.{Named}
use Rattle.oss_expressions.proofs.ExactPairs.{Trailed, exact_trailed, Bracketed, BracketedDeep, exact_bracketed, begun_bracketed, read_behind, Behind, exact_behind, begun_behind, exact_or}
use Rattle.oss_expressions.proofs.ListLemmas.{comma}
use Rattle.oss_expressions.proofs.TokenLemmas.{begins_never, exact_closed, opening, on_symbol, not_symbol, has_symbol, symbol_token, symbol_value}
use Rattle.oss_pragma.proofs.ExactRows.{Rows, RowsEnd, RowsDeep, exact_rows}
use Rattle.oss_pragma.proofs.ExactRows.Rows.{no_row, next_row}
use Rattle.oss_parse.specs.ProgramReading.{value_in, value_at, read_first_value, scalar_of, array_of, grid_of, read_size, read_array_from, read_global_from, read_global, globals_of, read_globals_from}
use Rattle.oss_parse.proofs.ExactKinds.{NameToken, exact_name, begun_name}

-- the value of a number
data ValueIs (k : TokenKind) (value : ℕ) : Type 0 where
  value_is : (unsigned : Bool) → k ≡ kinds.Number value unsigned → ValueIs k value

value_what : (k : TokenKind) (value : ℕ) → value_in k ≡ Some value → ValueIs k value
value_what (kinds.Number v u) value e = value_is u (ap (λ v. kinds.Number v u) (some_same v value e)) where
  some_same : (a b : ℕ) → Some a ≡ Some b → a ≡ b
  some_same a b e = cc
value_what (kinds.Name w) value e = absurd (cc)
value_what (kinds.Symbol w) value e = absurd (cc)
value_what (kinds.Keyword w) value e = absurd (cc)
value_what (kinds.Text w) value e = absurd (cc)
value_what kinds.PragmaOss value e = absurd (cc)
value_what kinds.PragmaEnd value e = absurd (cc)
value_what kinds.Directive value e = absurd (cc)

value_told : (t : Token) (value : ℕ) (unsigned : Bool) → t.what ≡ kinds.Number value unsigned → value_at t ≡ Some value
value_told t value unsigned e = ap value_in e

exact_value : Exact (read_one value_at) (One value_at) Nowhere never
exact_value = exact_one value_at (record { what = kinds.Number 0 false; line = 0 }) 0 refl never

value_viable : Viable (One value_at) []
value_viable = some_text exact_value (begun_one value_at)

-- the initial value of a global
abbrev FirstValued : List Token → ℕ → Type 0
FirstValued = Either (Mapped negated (Behind (codes "-") (One value_at))) (One value_at)

first_value_into : (xs : List Token) (value : ℕ) → FirstValued xs value → IsFirstValue xs value
first_value_into xs value (one_way w) = subst (λ v. IsFirstValue xs v) w.made (on (value_what w.whole.behind.token.what w.part w.whole.behind.passes)) where
  on : ValueIs w.whole.behind.token.what w.part → IsFirstValue xs (negated w.part)
  on (value_is u is) = negative_value w.whole.mark w.whole.behind.token w.part u (w.whole.split ∙ ap (λ ys. w.whole.mark ∷ ys) w.whole.behind.only) w.whole.marks is
first_value_into xs value (other_way w) = on (value_what w.token.what value w.passes) where
  on : ValueIs w.token.what value → IsFirstValue xs value
  on (value_is u is) = plain_value w.token value u w.only is

first_value_back : (xs : List Token) (value : ℕ) → IsFirstValue xs value → FirstValued xs value
first_value_back xs value (plain_value t v u e n) = other_way (record { token = t; only = e; passes = value_told t v u n })
first_value_back xs value (negative_value mark t v u e s n) =
    one_way (record { part = v; made = refl; whole = record { mark = mark; back = t ∷ []; split = e; marks = s; behind = record { token = t; only = refl; passes = value_told t v u n } } })

first_value_deeper : (xs : List Token) (t : Token) → EitherDeep (BracketedDeep (codes "-") Nowhere) Nowhere xs t → Nowhere xs t
first_value_deeper xs t (one_deep d) = nowhere d.inner t d.deep
first_value_deeper xs t (other_deep d) = d

value_no_minus : (t : Token) → has value_at t ≡ true → has (symbol_at (codes "-")) t ≡ false
value_no_minus t e = not_symbol (has value_at) (codes "-") (λ line. refl) t e

exact_first_value : Exact read_first_value IsFirstValue Nowhere never
unfolding read_first_value
exact_first_value = exact_as first_value_into first_value_back first_value_deeper (λ xs t d. other_deep d)
    (exact_or (has (symbol_at (codes "-"))) (has value_at) (exact_mapped negated (exact_behind (codes "-") exact_value value_viable refl)) (begun_mapped negated (begun_behind (codes "-") exact_value value_viable refl))
    exact_value (begun_one value_at) value_no_minus)

begun_first_value : Begun read_first_value (one_of (has (symbol_at (codes "-"))) (has value_at))
unfolding read_first_value
begun_first_value = begun_either (has (symbol_at (codes "-"))) (begun_mapped negated (begun_behind (codes "-") exact_value value_viable refl)) (begun_one value_at)

-- what stands behind the name of a global
pub data GlobalFrom (numbers : NumKind) (name : Named) (xs : List Token) : GlobalDef → Type 0 where
  scalar_from : xs ≡ [] → GlobalFrom numbers name xs (scalar_of numbers name 0)
  first_from : {value : ℕ} (mark : Token) (back : List Token) → xs ≡ mark ∷ back → IsSymbol (codes "=") mark → IsFirstValue back value → GlobalFrom numbers name xs (scalar_of numbers name value)
  array_from : (opened number : Token) (cells : ℕ) (unsigned : Bool) (closed : Token) → xs ≡ opened ∷ number ∷ closed ∷ [] → IsIndexOpen opened → number.what ≡ kinds.Number cells unsigned → IsIndexClose closed
      → GlobalFrom numbers name xs (array_of numbers name cells)
  grid_from : (opened number : Token) (rows : ℕ) (unsigned : Bool) (closed again second : Token) (columns : ℕ) (other : Bool) (ended : Token) → xs ≡ opened ∷ number ∷ closed ∷ again ∷ second ∷ ended ∷ []
      → IsIndexOpen opened → number.what ≡ kinds.Number rows unsigned → IsIndexClose closed → IsIndexOpen again → second.what ≡ kinds.Number columns other → IsIndexClose ended
      → GlobalFrom numbers name xs (grid_of numbers name rows columns)

-- a number in brackets
abbrev Size : List Token → ℕ → Type 0
Size = Bracketed (codes "[") (codes "]") (One value_at)

abbrev SizeDeep : List Token → Token → Type 0
SizeDeep = BracketedDeep (codes "[") Nowhere

size_split : (xs : List Token) (n : ℕ) → (b : Size xs n) → xs ≡ b.opened ∷ b.inside.token ∷ b.closed ∷ []
size_split xs n b = b.split ∙ ap (λ ys. b.opened ∷ (ys ++ (b.closed ∷ []))) b.inside.only

size_one : (opened number : Token) (n : ℕ) (unsigned : Bool) (closed : Token) → IsIndexOpen opened → number.what ≡ kinds.Number n unsigned → IsIndexClose closed → Size (opened ∷ number ∷ closed ∷ []) n
size_one opened number n u closed o is c = record { opened = opened; inner = number ∷ []; closed = closed; split = refl; opens = o; closes = c; inside = record { token = number; only = refl; passes = value_told number n u is } }

exact_size : Exact read_size Size SizeDeep never
unfolding read_size
exact_size = exact_bracketed (codes "[") (codes "]") exact_value value_viable (λ t e. refl) refl refl

begun_size : Begun read_size (has (symbol_at (codes "[")))
unfolding read_size
begun_size = begun_bracketed (codes "[") (codes "]") exact_value value_viable (λ t e. refl) refl refl

-- with these tokens a global goes on behind its name
abbrev global_goes : Token → Bool
global_goes = one_of (has (symbol_at (codes "="))) (has (symbol_at (codes "[")))

or_no_first : (p q : Bool) → (p || q) ≡ false → p ≡ false
or_no_first false q e = refl
or_no_first true q e = absurd (cc)

or_no_second : (p q : Bool) → (p || q) ≡ false → q ≡ false
or_no_second false q e = e
or_no_second true q e = absurd (cc)

no_equal : (t : Token) → global_goes t ≡ false → has (symbol_at (codes "=")) t ≡ false
no_equal t e = or_no_first (has (symbol_at (codes "=")) t) (has (symbol_at (codes "[")) t) e

no_bracket : (t : Token) → global_goes t ≡ false → has (symbol_at (codes "[")) t ≡ false
no_bracket t e = or_no_second (has (symbol_at (codes "=")) t) (has (symbol_at (codes "[")) t) e

module _ (numbers : NumKind) (name : Named) where
  -- how many columns there are, or none
  abbrev ArrayFrom : ℕ → List Token → GlobalDef → Type 0
  ArrayFrom rows = Either (Mapped (grid_of numbers name rows) Size) (Nothing (array_of numbers name rows))

  abbrev ArrayFromDeep : List Token → Token → Type 0
  ArrayFromDeep = EitherDeep SizeDeep Nowhere

  abbrev Arrayed : List Token → GlobalDef → Type 0
  Arrayed = Then Size ArrayFrom

  abbrev ArrayedDeep : List Token → Token → Type 0
  ArrayedDeep = ThenDeep SizeDeep Size (λ rows. ArrayFromDeep)

  abbrev Assigned : List Token → GlobalDef → Type 0
  Assigned = Mapped (scalar_of numbers name) (Behind (codes "=") IsFirstValue)

  abbrev From : List Token → GlobalDef → Type 0
  From = Either Assigned (Either Arrayed (Nothing (scalar_of numbers name 0)))

  abbrev FromDeep : List Token → Token → Type 0
  FromDeep = EitherDeep (BracketedDeep (codes "=") Nowhere) (EitherDeep ArrayedDeep Nowhere)

  array_into : (xs one two : List Token) (rows : ℕ) (g : GlobalDef) → xs ≡ one ++ two → Size one rows → ArrayFrom rows two g → GlobalFrom numbers name xs g
  array_into xs one two rows g s b (other_way r) = subst (λ g. GlobalFrom numbers name xs g) r.same (on (value_what b.inside.token.what rows b.inside.passes)) where
    on : ValueIs b.inside.token.what rows → GlobalFrom numbers name xs (array_of numbers name rows)
    on (value_is u is) = array_from b.opened b.inside.token rows u b.closed (s ∙ (ap (λ ys. one ++ ys) r.nothing ∙ (append-nil one ∙ size_split one rows b))) b.opens is b.closes
  array_into xs one two rows g s b (one_way r) =
      subst (λ g. GlobalFrom numbers name xs g) r.made (on (value_what b.inside.token.what rows b.inside.passes) (value_what r.whole.inside.token.what r.part r.whole.inside.passes))
    where
      c : Size two r.part
      c = r.whole

      all : xs ≡ b.opened ∷ b.inside.token ∷ b.closed ∷ c.opened ∷ c.inside.token ∷ c.closed ∷ []
      all = s ∙ (ap (λ ys. ys ++ two) (size_split one rows b) ∙ ap (λ ys. b.opened ∷ b.inside.token ∷ b.closed ∷ ys) (size_split two r.part c))

      on : ValueIs b.inside.token.what rows → ValueIs c.inside.token.what r.part → GlobalFrom numbers name xs (grid_of numbers name rows r.part)
      on (value_is u is) (value_is v at) = grid_from b.opened b.inside.token rows u b.closed c.opened c.inside.token r.part v c.closed all b.opens is b.closes c.opens at c.closes

  from_into : (xs : List Token) (g : GlobalDef) → From xs g → GlobalFrom numbers name xs g
  from_into xs g (one_way w) = subst (λ g. GlobalFrom numbers name xs g) w.made (first_from w.whole.mark w.whole.back w.whole.split w.whole.marks w.whole.behind)
  from_into xs g (other_way (one_way w)) = array_into xs w.front w.back w.value g w.split w.before w.behind
  from_into xs g (other_way (other_way w)) = subst (λ g. GlobalFrom numbers name xs g) w.same (scalar_from w.nothing)

  from_back : (xs : List Token) (g : GlobalDef) → GlobalFrom numbers name xs g → From xs g
  from_back xs g (scalar_from none) = other_way (other_way (record { nothing = none; same = refl }))
  from_back xs g (first_from {value = v} mark back e s w) = one_way (record { part = v; made = refl; whole = record { mark = mark; back = back; split = e; marks = s; behind = w } })
  from_back xs g (array_from opened number cells u closed e o n c) = other_way (one_way (record {
    front = opened ∷ number ∷ closed ∷ [];
    back = [];
    value = cells;
    split = e;
    before = size_one opened number cells u closed o n c;
    behind = other_way (record { nothing = refl; same = refl });
  }))
  from_back xs g (grid_from opened number rows u closed again second columns v ended e o n c a m d) = other_way (one_way (record {
    front = opened ∷ number ∷ closed ∷ [];
    back = again ∷ second ∷ ended ∷ [];
    value = rows;
    split = e;
    before = size_one opened number rows u closed o n c;
    behind = one_way (record { part = columns; made = refl; whole = size_one again second columns v ended a m d });
  }))

  from_deeper : (xs : List Token) (t : Token) → FromDeep xs t → Nowhere xs t
  from_deeper xs t (one_deep d) = nowhere d.inner t d.deep
  from_deeper xs t (other_deep (one_deep (ThenDeep.in_first d))) = nowhere d.inner t d.deep
  from_deeper xs t (other_deep (one_deep (ThenDeep.in_second front back rows e w (one_deep d)))) = nowhere d.inner t d.deep
  from_deeper xs t (other_deep (one_deep (ThenDeep.in_second front back rows e w (other_deep d)))) = nowhere back t d
  from_deeper xs t (other_deep (other_deep d)) = d

  exact_assigned : Exact (read_mapped (scalar_of numbers name) (read_behind (codes "=") read_first_value)) Assigned (BracketedDeep (codes "=") Nowhere) never
  exact_assigned = exact_mapped (scalar_of numbers name) (exact_behind (codes "=") exact_first_value (some_text exact_first_value begun_first_value) refl)

  begun_assigned : Begun (read_mapped (scalar_of numbers name) (read_behind (codes "=") read_first_value)) (has (symbol_at (codes "=")))
  begun_assigned = begun_mapped (scalar_of numbers name) (begun_behind (codes "=") exact_first_value (some_text exact_first_value begun_first_value) refl)

  exact_array_from : (rows : ℕ) → Exact (read_array_from numbers name rows) (ArrayFrom rows) ArrayFromDeep global_goes
  unfolding read_array_from
  exact_array_from rows = exact_either (has (symbol_at (codes "["))) (exact_closed global_goes (exact_mapped (grid_of numbers name rows) exact_size)) (begun_mapped (grid_of numbers name rows) begun_size)
      (exact_nothing (array_of numbers name rows) global_goes)
      (λ ys b rest w free. ap (λ zs. begins (has (symbol_at (codes "["))) (zs ++ rest)) w.nothing ∙ fewer_go global_goes (has (symbol_at (codes "["))) no_bracket rest free)
      (λ ys t rest d. nowhere ys t d)

  array_viable : (rows : ℕ) → Viable (ArrayFrom rows) []
  array_viable rows = record { more = []; value = array_of numbers name rows; member = other_way (record { nothing = refl; same = refl }) }

  exact_arrayed : Exact (read_then read_size (read_array_from numbers name)) Arrayed ArrayedDeep global_goes
  exact_arrayed = exact_then exact_size exact_array_from (λ rows ys b rest w free. begins_never (ys ++ rest)) (λ rows ys t rest d. begins_never (ys ++ (t ∷ rest))) array_viable

  begun_arrayed : Begun (read_then read_size (read_array_from numbers name)) (has (symbol_at (codes "[")))
  begun_arrayed = begun_then exact_size exact_array_from (λ rows ys b rest w free. begins_never (ys ++ rest)) (λ rows ys t rest d. begins_never (ys ++ (t ∷ rest))) array_viable begun_size

  bracket_no_equal : (t : Token) → has (symbol_at (codes "[")) t ≡ true → has (symbol_at (codes "=")) t ≡ false
  bracket_no_equal t e = on_symbol (has (symbol_at (codes "="))) (codes "[") false (λ line. refl) t (has_symbol (codes "[") t e)

  array_apart : (ys : List Token) (g : GlobalDef) (rest : List Token) → Either Arrayed (Nothing (scalar_of numbers name 0)) ys g → begins global_goes rest ≡ false → begins (has (symbol_at (codes "="))) (ys ++ rest) ≡ false
  array_apart ys g rest (one_way w) free = none_goes (has (symbol_at (codes "["))) (has (symbol_at (codes "="))) bracket_no_equal (ys ++ rest) (member_begins exact_arrayed begun_arrayed ys g rest w)
  array_apart ys g rest (other_way w) free = ap (λ zs. begins (has (symbol_at (codes "="))) (zs ++ rest)) w.nothing ∙ fewer_go global_goes (has (symbol_at (codes "="))) no_equal rest free

  array_apart_deep : (ys : List Token) (t : Token) (rest : List Token) → EitherDeep ArrayedDeep Nowhere ys t → begins (has (symbol_at (codes "="))) (ys ++ (t ∷ rest)) ≡ false
  array_apart_deep ys t rest d = let none = from_deeper ys t (other_deep d) in nowhere ys t none

  exact_from : Exact (read_global_from numbers name) (GlobalFrom numbers name) Nowhere global_goes
  unfolding read_global_from
  exact_from = exact_as from_into from_back from_deeper (λ xs t d. other_deep (other_deep d))
      (exact_either (has (symbol_at (codes "="))) (exact_closed global_goes exact_assigned) begun_assigned
      (exact_either (has (symbol_at (codes "["))) exact_arrayed begun_arrayed (exact_nothing (scalar_of numbers name 0) global_goes)
      (λ ys b rest w free. ap (λ zs. begins (has (symbol_at (codes "["))) (zs ++ rest)) w.nothing ∙ fewer_go global_goes (has (symbol_at (codes "["))) no_bracket rest free)
      (λ ys t rest d. nowhere ys t d))
      array_apart array_apart_deep)

  from_viable : Viable (GlobalFrom numbers name) []
  from_viable = record { more = []; value = scalar_of numbers name 0; member = scalar_from refl }

-- a global, with its name
global_into_by : (numbers : NumKind) (name : Named) (t : Token) (xs back : List Token) (g : GlobalDef) → xs ≡ t ∷ back → t.what ≡ kinds.Name name.name → t.line ≡ name.line → GlobalFrom numbers name back g → IsGlobal numbers xs g
global_into_by numbers name t xs back g e n at (scalar_from none) =
    subst (λ line. IsGlobal numbers xs (record { name = name.name; kind = numbers; cells = None; columns = None; first = 0; line = line })) at (scalar_global t name.name (e ∙ ap (λ ys. t ∷ ys) none) n)
global_into_by numbers name t xs back g e n at (first_from {value = v} mark rest s m w) =
    subst (λ line. IsGlobal numbers xs (record { name = name.name; kind = numbers; cells = None; columns = None; first = v; line = line })) at (first_global t name.name mark rest (e ∙ ap (λ ys. t ∷ ys) s) n m w)
global_into_by numbers name t xs back g e n at (array_from opened number cells u closed s o v c) =
    subst (λ line. IsGlobal numbers xs (record { name = name.name; kind = numbers; cells = Some cells; columns = None; first = 0; line = line })) at
    (array_global t name.name opened number cells u closed (e ∙ ap (λ ys. t ∷ ys) s) n o v c)
global_into_by numbers name t xs back g e n at (grid_from opened number rows u closed again second columns w ended s o v c a m d) =
    subst (λ line. IsGlobal numbers xs (record { name = name.name; kind = numbers; cells = Some (cells_of_rows rows columns); columns = Some columns; first = 0; line = line })) at
    (grid_global t name.name opened number rows u closed again second columns w ended (e ∙ ap (λ ys. t ∷ ys) s) n o v c a m d)

-- a name with its token, and what stands behind it
pub record Split (V : Named → List Token → Type 0) (xs : List Token) : Type 0 where
  pub t : Token
  pub word : List ℕ
  pub back : List Token
  pub split : xs ≡ t ∷ back
  pub what : t.what ≡ kinds.Name word
  pub behind : V (record { name = word; line = t.line }) back

global_split : (numbers : NumKind) (xs : List Token) (g : GlobalDef) → IsGlobal numbers xs g → Split (λ name ys. GlobalFrom numbers name ys g) xs
global_split numbers xs g (scalar_global t word e n) = record { t = t; word = word; back = []; split = e; what = n; behind = scalar_from refl }
global_split numbers xs g (first_global t word mark back e n m w) = record { t = t; word = word; back = mark ∷ back; split = e; what = n; behind = first_from mark back refl m w }
global_split numbers xs g (array_global t word opened number cells u closed e n o v c) =
    record { t = t; word = word; back = opened ∷ number ∷ closed ∷ []; split = e; what = n; behind = array_from opened number cells u closed refl o v c }
global_split numbers xs g (grid_global t word opened number rows u closed again second columns w ended e n o v c a m d) = record {
  t = t;
  word = word;
  back = opened ∷ number ∷ closed ∷ again ∷ second ∷ ended ∷ [];
  split = e;
  what = n;
  behind = grid_from opened number rows u closed again second columns w ended refl o v c a m d;
}

module _ (numbers : NumKind) where
  global_into : (xs : List Token) (g : GlobalDef) → Then NameToken (GlobalFrom numbers) xs g → IsGlobal numbers xs g
  global_into xs g w = let n = w.before in global_into_by numbers w.value n.token xs w.back g (w.split ∙ ap (λ ys. ys ++ w.back) n.only) n.what n.at w.behind

  global_back : (xs : List Token) (g : GlobalDef) → IsGlobal numbers xs g → Then NameToken (GlobalFrom numbers) xs g
  global_back xs g w = let s = global_split numbers xs g w in record {
    front = s.t ∷ [];
    back = s.back;
    value = record { name = s.word; line = s.t.line };
    split = s.split;
    before = record { token = s.t; only = refl; what = s.what; at = refl };
    behind = s.behind;
  }

  then_nowhere : (xs : List Token) (t : Token) → ThenDeep Nowhere NameToken (λ name. Nowhere) xs t → Nowhere xs t
  then_nowhere xs t (ThenDeep.in_first d) = d
  then_nowhere xs t (ThenDeep.in_second front back a e w d) = nowhere back t d

  exact_global : Exact (read_global numbers) (IsGlobal numbers) Nowhere global_goes
  unfolding read_global
  exact_global = exact_as global_into global_back then_nowhere (λ xs t d. ThenDeep.in_first d)
      (exact_then exact_name (exact_from numbers) (λ name ys b rest w free. begins_never (ys ++ rest)) (λ name ys t rest d. begins_never (ys ++ (t ∷ rest))) (from_viable numbers))

  begun_global : Begun (read_global numbers) (has name_at)
  unfolding read_global
  begun_global = begun_then exact_name (exact_from numbers) (λ name ys b rest w free. begins_never (ys ++ rest)) (λ name ys t rest d. begins_never (ys ++ (t ∷ rest))) (from_viable numbers) begun_name

  -- more globals, each behind a comma
  abbrev Next : List GlobalDef → List Token → GlobalDef → Type 0
  Next found = Behind (codes ",") (IsGlobal numbers)

  abbrev NextDeep : List GlobalDef → List Token → Token → Type 0
  NextDeep found = BracketedDeep (codes ",") Nowhere

  abbrev globals_go : Token → Bool
  globals_go = one_of comma global_goes

  comma_no_global : (t : Token) → IsComma t → global_goes t ≡ false
  comma_no_global t e = on_symbol global_goes (codes ",") false (λ line. refl) t e

  exact_more : (found : List GlobalDef) → Exact (read_more (read_global numbers) found) (RowsEnd Next found) (RowsDeep Next NextDeep found) globals_go
  unfolding read_more
  exact_more found = exact_rows (λ found. exact_behind (codes ",") exact_global (some_text exact_global begun_global) refl) (λ found. begun_behind (codes ",") exact_global (some_text exact_global begun_global) refl)
      (λ found t e. comma_no_global t (has_symbol (codes ",") t e)) (λ found t e. or_no_first (comma t) (global_goes t) e) (λ t e. or_no_second (comma t) (global_goes t) e) found

  rows_apart : (found : List GlobalDef) (ys : List Token) (more : List GlobalDef) (rest : List Token) → Rows Next found ys more → begins globals_go rest ≡ false → begins global_goes (ys ++ rest) ≡ false
  rows_apart found ys more rest (no_row e) free = ap (λ zs. begins global_goes (zs ++ rest)) e ∙ fewer_go globals_go global_goes (λ t e. or_no_second (comma t) (global_goes t) e) rest free
  rows_apart found ys more rest (next_row front back e w r) free = ap (λ zs. begins global_goes (zs ++ rest)) (e ∙ ap (λ zs. zs ++ back) w.split) ∙ comma_no_global w.mark w.marks

  more_nowhere : {Y : Type 0} (found : List GlobalDef) (ys : List Token) (t : Token) → RowsDeep Next NextDeep found ys t → Y
  more_nowhere found ys t d = nowhere d.deep.inner t d.deep.deep

  globals_rows : (found : List GlobalDef) (mark : Token) (xs : List Token) (gs : List GlobalDef) → IsComma mark → IsGlobals numbers xs gs → Rows Next found (mark ∷ xs) gs
  globals_rows found mark xs gs c (last_global w) =
      next_row (mark ∷ xs) [] (sym (append-nil (mark ∷ xs))) (record { mark = mark; back = xs; split = refl; marks = c; behind = w }) (no_row refl)
  globals_rows found mark xs gs c (next_global {g = g} {more = more} front other back e d w v) =
      next_row (mark ∷ front) (other ∷ back) (ap (λ ys. mark ∷ ys) e) (record { mark = mark; back = front; split = refl; marks = c; behind = w }) (globals_rows (and_then found g) other back more d v)

  rows_globals : (found : List GlobalDef) (xs front back : List Token) (g : GlobalDef) (more : List GlobalDef) → xs ≡ front ++ back → IsGlobal numbers front g → Rows Next found back more → IsGlobals numbers xs (g ∷ more)
  rows_globals found xs front back g more e w (no_row none) = last_global (subst (λ ys. IsGlobal numbers ys g) (sym (e ∙ (ap (λ ys. front ++ ys) none ∙ append-nil front))) w)
  rows_globals found xs front back g more e w (next_row {more = rest} {v = v} one left s n r) =
      next_global front n.mark (n.back ++ left) (e ∙ ap (λ ys. front ++ ys) (s ∙ ap (λ ys. ys ++ left) n.split)) n.marks w (rows_globals (and_then found v) (n.back ++ left) n.back left v rest refl n.behind r)

  abbrev GlobalsFrom : Named → List Token → List GlobalDef → Type 0
  GlobalsFrom name = Then (GlobalFrom numbers name) (λ g. RowsEnd Next (g ∷ []))

  globals_nowhere : (name : Named) (xs : List Token) (t : Token) → ThenDeep Nowhere (GlobalFrom numbers name) (λ g. RowsDeep Next NextDeep (g ∷ [])) xs t → Nowhere xs t
  globals_nowhere name xs t (ThenDeep.in_first d) = d
  globals_nowhere name xs t (ThenDeep.in_second front back g e w d) = more_nowhere (g ∷ []) back t d

  exact_globals : (name : Named) → Exact (read_then (read_global_from numbers name) (λ first. read_more (read_global numbers) (first ∷ []))) (GlobalsFrom name) Nowhere globals_go
  exact_globals name = exact_as (λ xs gs w. w) (λ xs gs w. w) (globals_nowhere name) (λ xs t d. ThenDeep.in_first d)
      (exact_then (exact_from numbers name) (λ g. exact_more (g ∷ []))
      (λ g ys gs rest w free. rows_apart (g ∷ []) ys w.more rest w.rows free) (λ g ys t rest d. more_nowhere (g ∷ []) ys t d)
      (λ g. record { more = []; value = g ∷ []; member = record { more = []; ends = refl; rows = no_row refl } }))

  -- globals behind their type, with the `;`
  pub record TypedGlobals (xs : List Token) (found : List Item) : Type 0 where
    pub gs : List GlobalDef
    pub middle : List Token
    pub mark : Token
    pub split : xs ≡ middle ++ (mark ∷ [])
    pub globals : IsGlobals numbers middle gs
    pub marks : IsSymbol (codes ";") mark
    pub made : map items.Global gs ≡ found

  abbrev pub GlobalsTail : Named → List Token → List Item → Type 0
  GlobalsTail name = Mapped globals_of (Trailed (symbol_at (codes ";")) (GlobalsFrom name))

  semicolon_apart : (t : Token) → has (symbol_at (codes ";")) t ≡ true → globals_go t ≡ false
  semicolon_apart t e = on_symbol globals_go (codes ";") false (λ line. refl) t (has_symbol (codes ";") t e)

  pub exact_globals_from : (name : Named) → Exact (read_globals_from numbers name) (GlobalsTail name) Nowhere never
  unfolding read_globals_from
  exact_globals_from name = exact_mapped globals_of (exact_trailed (symbol_at (codes ";")) (exact_globals name) semicolon_apart (record { what = kinds.Symbol (codes ";"); line = 0 }) 0 refl)

  pub tail_globals : (name : Named) (t : Token) (xs back : List Token) (found : List Item) → xs ≡ t ∷ back → t.what ≡ kinds.Name name.name → t.line ≡ name.line → GlobalsTail name back found → TypedGlobals xs found
  tail_globals name t xs back found e n at w = let b = w.whole in let g = b.inside in record {
    gs = g.value ∷ g.behind.more;
    middle = t ∷ b.inner;
    mark = b.closed;
    split = e ∙ ap (λ ys. t ∷ ys) b.split;
    globals = rows_globals (g.value ∷ []) (t ∷ b.inner) (t ∷ g.front) g.back g.value g.behind.more (ap (λ ys. t ∷ ys) g.split) (global_into_by numbers name t (t ∷ g.front) g.front g.value refl n at g.before) g.behind.rows;
    marks = symbol_token (codes ";") b.closed w.part.1 b.passes;
    made = ap (λ gs. map items.Global gs) g.behind.ends ∙ w.made;
  }

  globals_split : (xs : List Token) (gs : List GlobalDef) → IsGlobals numbers xs gs → Split (λ name ys. GlobalsFrom name ys gs) xs
  globals_split xs gs (last_global {g = g} w) = let s = global_split numbers xs g w in record {
    t = s.t;
    word = s.word;
    back = s.back;
    split = s.split;
    what = s.what;
    behind = record { front = s.back; back = []; value = g; split = sym (append-nil s.back); before = s.behind; behind = record { more = []; ends = refl; rows = no_row refl } };
  }
  globals_split xs gs (next_global {g = g} {more = more} front mark back e c w v) = let s = global_split numbers front g w in record {
    t = s.t;
    word = s.word;
    back = s.back ++ (mark ∷ back);
    split = e ∙ ap (λ ys. ys ++ (mark ∷ back)) s.split;
    what = s.what;
    behind = record { front = s.back; back = mark ∷ back; value = g; split = refl; before = s.behind; behind = record { more = more; ends = refl; rows = globals_rows (g ∷ []) mark back more c v } };
  }

  pub globals_tail : (xs : List Token) (found : List Item) → TypedGlobals xs found → Split (λ name ys. GlobalsTail name ys found) xs
  globals_tail xs found w = let s = globals_split w.middle w.gs w.globals in record {
    t = s.t;
    word = s.word;
    back = s.back ++ (w.mark ∷ []);
    split = w.split ∙ ap (λ ys. ys ++ (w.mark ∷ [])) s.split;
    what = s.what;
    behind = record { part = (w.gs, w.mark.line); made = w.made; whole = record { inner = s.back; closed = w.mark; split = refl; passes = symbol_value (codes ";") w.mark w.marks; inside = s.behind } };
  }

  -- they begin with no bracket, and there are some
  start_apart : (name : Named) (found : List GlobalDef) (front back : List Token) (closed : Token) (rest : List Token) (g : GlobalDef) (more : List GlobalDef)
      → GlobalFrom numbers name front g → Rows Next found back more → IsSymbol (codes ";") closed → begins opening (((front ++ back) ++ (closed ∷ [])) ++ rest) ≡ false
  start_apart name found front back closed rest g more (scalar_from none) (no_row e) s =
      ap (λ ys. begins opening (((ys ++ back) ++ (closed ∷ [])) ++ rest)) none ∙ (ap (λ ys. begins opening ((ys ++ (closed ∷ [])) ++ rest)) e ∙ on_symbol opening (codes ";") false (λ line. refl) closed s)
  start_apart name found front back closed rest g more (scalar_from none) (next_row one left e w r) s =
      ap (λ ys. begins opening (((ys ++ back) ++ (closed ∷ [])) ++ rest)) none
      ∙ (ap (λ ys. begins opening ((ys ++ (closed ∷ [])) ++ rest)) (e ∙ ap (λ ys. ys ++ left) w.split) ∙ on_symbol opening (codes ",") false (λ line. refl) w.mark w.marks)
  start_apart name found front back closed rest g more (first_from mark inner e m w) r s =
      ap (λ ys. begins opening (((ys ++ back) ++ (closed ∷ [])) ++ rest)) e ∙ on_symbol opening (codes "=") false (λ line. refl) mark m
  start_apart name found front back closed rest g more (array_from opened number cells u last e o n c) r s =
      ap (λ ys. begins opening (((ys ++ back) ++ (closed ∷ [])) ++ rest)) e ∙ on_symbol opening (codes "[") false (λ line. refl) opened o
  start_apart name found front back closed rest g more (grid_from opened number rows u last again second columns v ended e o n c a m d) r s =
      ap (λ ys. begins opening (((ys ++ back) ++ (closed ∷ [])) ++ rest)) e ∙ on_symbol opening (codes "[") false (λ line. refl) opened o

  pub tail_apart : (name : Named) (ys : List Token) (found : List Item) (rest : List Token) → GlobalsTail name ys found → begins opening (ys ++ rest) ≡ false
  tail_apart name ys found rest w = let b = w.whole in let g = b.inside in
      ap (λ zs. begins opening (zs ++ rest)) (b.split ∙ ap (λ zs. zs ++ (b.closed ∷ [])) g.split)
      ∙ start_apart name (g.value ∷ []) g.front g.back b.closed rest g.value g.behind.more g.before g.behind.rows (symbol_token (codes ";") b.closed w.part.1 b.passes)

  pub tail_viable : (name : Named) → Viable (GlobalsTail name) []
  tail_viable name = record {
    more = record { what = kinds.Symbol (codes ";"); line = 0 } ∷ [];
    value = items.Global (scalar_of numbers name 0) ∷ [];
    member = record {
      part = (scalar_of numbers name 0 ∷ [], 0);
      made = refl;
      whole = record {
        inner = [];
        closed = record { what = kinds.Symbol (codes ";"); line = 0 };
        split = refl;
        passes = refl;
        inside = record { front = []; back = []; value = scalar_of numbers name 0; split = refl; before = scalar_from refl; behind = record { more = []; ends = refl; rows = no_row refl } };
      };
    };
  }
