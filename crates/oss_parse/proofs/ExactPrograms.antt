-- Programs are read exactly, by exact readers of expressions and of what stands in a block.
use Rattle.std.proofs.Common.{◌≡◌, ℕ, Bool, true, false, List, [], ◌∷◌, ◌++◌, refl, sym, ap, ◌∙◌, subst, append_assoc, Option, Some, None, is_some}
use Rattle.std.specs.Prelude.{codes}
use Rattle.std.proofs.lemmas.List.{append-nil}
use Rattle.oss_syntax.specs.declared.token.Token.{Token}
use Rattle.oss_syntax.specs.declared.token.TokenKind.{TokenKind}
use Rattle.oss_syntax.specs.declared.token.TokenKind.TheVariants as kinds
use Rattle.oss_syntax.specs.declared.tree.expr.Expr.{Expr}
use Rattle.oss_syntax.specs.declared.tree.pragma.TaskMark.{TaskMark}
use Rattle.oss_syntax.specs.declared.tree.program.Item.{Item}
use Rattle.oss_syntax.specs.declared.tree.program.Item.TheVariants as items
use Rattle.oss_syntax.specs.declared.tree.program.Kind.{Kind}
use Rattle.oss_syntax.specs.declared.tree.program.Kind.TheVariants as kind
use Rattle.oss_syntax.specs.declared.tree.program.Local.{Local}
use Rattle.oss_syntax.specs.declared.tree.program.NumKind.{NumKind}
use Rattle.oss_syntax.specs.declared.tree.program.Program.{Program}
use Rattle.oss_syntax.specs.declared.tree.stmt.Stmt.{Stmt}
use Rattle.oss_grammar.specs.Expressions.{IsWhole}
use Rattle.oss_grammar.specs.Fronts.{Viable}
use Rattle.oss_grammar.specs.Grammar.{One, Mapped, Either}
use Rattle.oss_grammar.specs.Grammar.Either.{one_way, other_way}
use Rattle.oss_grammar.specs.Levels.{IsExcessBehind, IsExpressionExcess, most_levels}
use Rattle.oss_grammar.specs.OneToken.{IsSymbol, IsOpen, IsClose}
use Rattle.oss_grammar.specs.Programs.{IsMark, IsResult, IsParameters, IsItem, IsProgramItems, IsProgram}
use Rattle.oss_grammar.specs.Programs.IsMark.{no_mark, some_mark}
use Rattle.oss_grammar.specs.Programs.IsResult.{number_result, void_result}
use Rattle.oss_grammar.specs.Programs.IsFunction.{function}
use Rattle.oss_grammar.specs.Programs.IsItem.{globals, one_function}
use Rattle.oss_grammar.specs.Programs.IsProgramItems.{no_items, more_items}
use Rattle.oss_grammar.specs.Programs.IsProgram.{program}
use Rattle.oss_grammar.specs.Reading.{Reader, begins, has, one_of, never, read_one, read_then, read_mapped}
use Rattle.oss_grammar.specs.SimpleStatements.{IsNumKind, first_line}
use Rattle.oss_grammar.specs.StatementLimits.{OpensMark, IsItemsExcess, IsProgramExcess}
use Rattle.oss_grammar.specs.StatementLimits.IsProgramExcess.{in_marked, in_body, in_later_item}
use Rattle.oss_grammar.specs.Statements.{IsItems}
use Rattle.oss_grammar.proofs.Parts.{Exact, Begun, exact_as}
use Rattle.oss_grammar.proofs.PartLemmas.{Nowhere, nowhere, begun_one, exact_mapped, begun_mapped, Then, ThenDeep, exact_then, begun_then, EitherDeep, exact_either, begun_either}
use Rattle.oss_grammar.proofs.PartLemmas.EitherDeep.{one_deep, other_deep}
use Rattle.oss_grammar.proofs.PairLemmas.{some_text}
use Rattle.oss_grammar.proofs.StepLemmas.{Steps, StepsDeep, exact_steps}
use Rattle.oss_grammar.proofs.StepLemmas.Steps.{over, once_more}
use Rattle.oss_grammar.proofs.StepLemmas.StepsDeep.{in_this, in_later}
use Rattle.oss_expressions.specs.ExpressionReading.{read_expression}
use Rattle.oss_expressions.specs.TokenValues.{symbol_at, keyword_at, start_in, start_at, name_at, begins_expression}
use Rattle.oss_expressions.specs.declared.cursor.Named.{Named}
use Rattle.oss_expressions.proofs.ExactExpressions.{exact_expression, begun_expression}
use Rattle.oss_expressions.proofs.ExactPairs.{exact_or}
use Rattle.oss_expressions.proofs.TokenLemmas.{begins_never, opening, goes_on}
use Rattle.oss_parse.specs.ProgramReading.{read_function_from, read_result, read_typed_from, read_typed, read_void, read_marked, read_program_item, begins_program_item, read_program_items, program_of}
use Rattle.oss_parse.specs.SimpleReading.{begins_kind}
use Rattle.oss_parse.proofs.ExactFunctions.{kind_no_void, exact_void_word, exact_result, begun_result, Marked, exact_mark, begun_mark, FunctionTail, FunctionDeep, exact_function_from, begun_function_from}
use Rattle.oss_parse.proofs.ExactGlobals.{TypedGlobals, GlobalsTail, exact_globals_from, tail_globals, globals_tail, tail_apart, tail_viable}
use Rattle.oss_parse.proofs.ExactKinds.{keyword_told, keyword_value, NumKinded, exact_num_kind, begun_num_kind, NameToken, exact_name, begun_name}

abbrev void_at : Token → Option ℕ
void_at = keyword_at (codes "void")

-- where an item passes a limit: in the pragma before a function, or in its block
pub data ItemExcess (X Z : List Token → Token → Type 0) (xs : List Token) (t : Token) : Type 0 where
  mark_excess : IsExcessBehind OpensMark X xs t → ItemExcess X Z xs t
  body_excess : {mark : Option TaskMark} {result : Kind} {params : List Local} (marked front : List Token) (name : Token) (word : List ℕ) (opened : Token) (inner : List Token) (closed begins : Token) (within : List Token)
      → xs ≡ marked ++ (front ++ (name ∷ opened ∷ (inner ++ (closed ∷ begins ∷ within))))
      → IsMark marked mark → IsResult front result → name.what ≡ kinds.Name word → IsOpen opened → IsParameters inner params → IsClose closed
      → IsSymbol (codes "{") begins → Z within t → ItemExcess X Z xs t

-- where a program passes one: in its first item, or in one behind others
pub data ProgramExcess (X Z : List Token → Token → Type 0) : List Token → Token → Type 0 where
  first_excess : {xs : List Token} {t : Token} → ItemExcess X Z xs t → ProgramExcess X Z xs t
  later_excess : {xs : List Token} {t : Token} {found : List Item} (front back : List Token) → xs ≡ front ++ back → IsItem front found → ProgramExcess X Z back t → ProgramExcess X Z xs t

-- a token that begins no pragma
no_start_in : (test : Token → Bool) → ((line : ℕ) → test (record { what = kinds.PragmaOss; line = line }) ≡ false) → (k : TokenKind) (line : ℕ) → test (record { what = k; line = line }) ≡ true → is_some (start_in k line) ≡ false
no_start_in test told kinds.PragmaOss line e = let never_so : test (record { what = kinds.PragmaOss; line = line }) ≡ false = told line in absurd (cc)
no_start_in test told kinds.PragmaEnd line e = refl
no_start_in test told kinds.Directive line e = refl
no_start_in test told (kinds.Name w) line e = refl
no_start_in test told (kinds.Symbol w) line e = refl
no_start_in test told (kinds.Keyword w) line e = refl
no_start_in test told (kinds.Number v u) line e = refl
no_start_in test told (kinds.Text w) line e = refl

others_no_start : (t : Token) → one_of (has void_at) begins_kind t ≡ true → has start_at t ≡ false
others_no_start t e = no_start_in (one_of (has void_at) begins_kind) (λ line. refl) t.what t.line e

-- a function behind its type
abbrev NamedFunction : Option TaskMark → Kind → List Token → List Item → Type 0
NamedFunction mark result = Then NameToken (FunctionTail mark result)

function_item : (xs marked front back : List Token) (mark : Option TaskMark) (result : Kind) (found : List Item) → xs ≡ marked ++ (front ++ back) → IsMark marked mark → IsResult front result → NamedFunction mark result back found → IsItem xs found
function_item xs marked front back mark result found e m r w = let n = w.before in let f = w.behind in
    subst (λ found. IsItem xs found)
    (ap (λ line. items.Function (record { name = w.value.name; result = result; params = f.params; mark = mark; body = f.body; line = line }) ∷ []) n.at ∙ f.made)
    (one_function (function marked front n.token w.value.name f.opened f.inner f.closed f.begins f.within f.ends
    (e ∙ ap (λ ys. marked ++ (front ++ ys)) (w.split ∙ (ap (λ ys. ys ++ w.back) n.only ∙ ap (λ ys. n.token ∷ ys) f.split))) m r n.what f.opens f.are f.closes f.starts f.holds f.stops))

function_named : (mark : Option TaskMark) (result : Kind) (xs : List Token) (found : List Item) (t : Token) (word : List ℕ) (back : List Token) → xs ≡ t ∷ back → t.what ≡ kinds.Name word
    → FunctionTail mark result (record { name = word; line = t.line }) back found → NamedFunction mark result xs found
function_named mark result xs found t word back e n w =
    record { front = t ∷ []; back = back; value = record { name = word; line = t.line }; split = e; before = record { token = t; only = refl; what = n; at = refl }; behind = w }

-- the forms of an item
abbrev TypedFrom : NumKind → Named → List Token → List Item → Type 0
TypedFrom numbers name = Either (FunctionTail None (kind.Num numbers) name) (GlobalsTail numbers name)

abbrev TypedItem : List Token → List Item → Type 0
TypedItem = Then NumKinded (λ k. Then NameToken (TypedFrom k.0))

abbrev VoidItem : List Token → List Item → Type 0
VoidItem = Then (One void_at) (λ line. NamedFunction None kind.Nothing)

abbrev MarkedItem : List Token → List Item → Type 0
MarkedItem = Then Marked (λ mark. Then IsResult (NamedFunction mark))

abbrev ItemRead : List Token → List Item → Type 0
ItemRead = Either MarkedItem (Either VoidItem TypedItem)

typed_into : (xs front back : List Token) (numbers : NumKind) (found : List Item) → xs ≡ front ++ back → IsNumKind front numbers → (w : Then NameToken (TypedFrom numbers) back found) → TypedFrom numbers w.value w.back found → IsItem xs found
typed_into xs front back numbers found e n w (one_way f) =
    function_item xs [] front back None (kind.Num numbers) found e (no_mark refl) (number_result n) (record { front = w.front; back = w.back; value = w.value; split = w.split; before = w.before; behind = f })
typed_into xs front back numbers found e n w (other_way g) =
    let p : TypedGlobals numbers back found = tail_globals numbers w.value w.before.token back w.back found (w.split ∙ ap (λ ys. ys ++ w.back) w.before.only) w.before.what w.before.at g in
    subst (λ found. IsItem xs found) p.made (globals front p.middle p.mark (e ∙ ap (λ ys. front ++ ys) p.split) n p.globals p.marks)

item_into : (xs : List Token) (found : List Item) → ItemRead xs found → IsItem xs found
item_into xs found (one_way w) = let m = w.before in let r = w.behind in
    function_item xs w.front r.front r.back w.value r.value found (w.split ∙ ap (λ ys. w.front ++ ys) r.split) (subst (λ m. IsMark w.front m) m.some (some_mark m.pragma)) r.before r.behind
item_into xs found (other_way (one_way w)) =
    function_item xs [] w.front w.back None kind.Nothing found w.split (no_mark refl) (void_result w.before.token w.before.only (keyword_told (codes "void") w.before.token w.value w.before.passes)) w.behind
item_into xs found (other_way (other_way w)) = typed_into xs w.front w.back w.value.0 found w.split w.before.typed w.behind w.behind.behind

function_back : (xs marked front back : List Token) (mark : Option TaskMark) (result : Kind) (found : List Item) → xs ≡ marked ++ (front ++ back) → IsMark marked mark → IsResult front result → NamedFunction mark result back found → ItemRead xs found
function_back xs marked front back mark result found e (some_mark {mark = m} p) r w = one_way (record {
  front = marked;
  back = front ++ back;
  value = Some m;
  split = e;
  before = record { mark = m; some = refl; pragma = p };
  behind = record { front = front; back = back; value = result; split = refl; before = r; behind = w };
})
function_back xs marked front back mark result found e (no_mark none) (void_result t only v) w = other_way (one_way (record {
  front = front;
  back = back;
  value = t.line;
  split = e ∙ ap (λ ys. ys ++ (front ++ back)) none;
  before = record { token = t; only = only; passes = keyword_value (codes "void") t v };
  behind = w;
}))
function_back xs marked front back mark result found e (no_mark none) (number_result {numbers = numbers} n) w = other_way (other_way (record {
  front = front;
  back = back;
  value = (numbers, first_line front);
  split = e ∙ ap (λ ys. ys ++ (front ++ back)) none;
  before = record { typed = n; at = refl };
  behind = record { front = w.front; back = w.back; value = w.value; split = w.split; before = w.before; behind = one_way w.behind };
}))

item_back : (xs : List Token) (found : List Item) → IsItem xs found → ItemRead xs found
item_back xs found (globals {numbers = numbers} {gs = gs} front middle mark e n g s) =
    let p = globals_tail numbers (middle ++ (mark ∷ [])) found (record { gs = gs; middle = middle; mark = mark; split = refl; globals = g; marks = s; made = refl }) in other_way (other_way (record {
      front = front;
      back = middle ++ (mark ∷ []);
      value = (numbers, first_line front);
      split = e;
      before = record { typed = n; at = refl };
      behind = record { front = p.t ∷ []; back = p.back; value = record { name = p.word; line = p.t.line }; split = p.split; before = record { token = p.t; only = refl; what = p.what; at = refl }; behind = other_way p.behind };
    }))
item_back xs found (one_function (function {mark = mark} {result = result} {params = params} {body = body} marked front t word opened inner closed begins within ends e m r n o p c s w u)) =
    function_back xs marked front (t ∷ opened ∷ (inner ++ (closed ∷ begins ∷ (within ++ (ends ∷ []))))) mark result found e m r
    (function_named mark result (t ∷ opened ∷ (inner ++ (closed ∷ begins ∷ (within ++ (ends ∷ []))))) found t word (opened ∷ (inner ++ (closed ∷ begins ∷ (within ++ (ends ∷ []))))) refl n
    (record {
      opened = opened;
      inner = inner;
      closed = closed;
      begins = begins;
      within = within;
      ends = ends;
      params = params;
      body = body;
      split = refl;
      opens = o;
      are = p;
      closes = c;
      starts = s;
      holds = w;
      stops = u;
      made = refl;
    }))

module _ {expression : Reader Expr} {X : List Token → Token → Type 0} (part : Exact expression IsWhole X goes_on) (first : Begun expression begins_expression)
    {body : Reader (List Stmt)} {Z : List Token → Token → Type 0} {goes_inside : Token → Bool} (inside : Exact body IsItems Z goes_inside)
    (ends_it : (t : Token) → has (symbol_at (codes "}")) t ≡ true → goes_inside t ≡ false) where
  -- the places where the forms of an item pass a limit
  abbrev NamedDeep : List Token → Token → Type 0
  NamedDeep = ThenDeep Nowhere NameToken (λ name. FunctionDeep Z)

  abbrev TypedDeep : List Token → Token → Type 0
  TypedDeep = ThenDeep Nowhere NumKinded (λ k. ThenDeep Nowhere NameToken (λ name. EitherDeep (FunctionDeep Z) Nowhere))

  abbrev VoidDeep : List Token → Token → Type 0
  VoidDeep = ThenDeep Nowhere (One void_at) (λ line. NamedDeep)

  abbrev MarkedDeep : List Token → Token → Type 0
  MarkedDeep = ThenDeep (IsExcessBehind OpensMark X) Marked (λ mark. ThenDeep Nowhere IsResult (λ result. NamedDeep))

  abbrev ItemDeep : List Token → Token → Type 0
  ItemDeep = EitherDeep MarkedDeep (EitherDeep VoidDeep TypedDeep)

  function_place : (xs marked front middle back : List Token) (mark : Option TaskMark) (result : Kind) (name : Named) (t : Token) → xs ≡ marked ++ (front ++ (middle ++ back)) → IsMark marked mark → IsResult front result → NameToken middle name
      → FunctionDeep Z back t → ItemExcess X Z xs t
  function_place xs marked front middle back mark result name t e m r n d =
      body_excess marked front n.token name.name d.opened d.inner d.closed d.begins d.within
      (e ∙ ap (λ ys. marked ++ (front ++ ys)) (ap (λ ys. ys ++ back) n.only ∙ ap (λ ys. n.token ∷ ys) d.split)) m r n.what d.opens d.are d.closes d.starts d.deep

  item_deeper : (xs : List Token) (t : Token) → ItemDeep xs t → ItemExcess X Z xs t
  item_deeper xs t (one_deep (ThenDeep.in_first d)) = mark_excess d
  item_deeper xs t (one_deep (ThenDeep.in_second marked others m e w (ThenDeep.in_first d))) = nowhere others t d
  item_deeper xs t (one_deep (ThenDeep.in_second marked others m e w (ThenDeep.in_second front rest r s v (ThenDeep.in_first d)))) = nowhere rest t d
  item_deeper xs t (one_deep (ThenDeep.in_second marked others m e w (ThenDeep.in_second front rest r s v (ThenDeep.in_second middle back name z n d)))) =
      function_place xs marked front middle back m r name t (e ∙ ap (λ ys. marked ++ ys) (s ∙ ap (λ ys. front ++ ys) z)) (subst (λ m. IsMark marked m) w.some (some_mark w.pragma)) v n d
  item_deeper xs t (other_deep (one_deep (ThenDeep.in_first d))) = nowhere xs t d
  item_deeper xs t (other_deep (one_deep (ThenDeep.in_second front rest line e w (ThenDeep.in_first d)))) = nowhere rest t d
  item_deeper xs t (other_deep (one_deep (ThenDeep.in_second front rest line e w (ThenDeep.in_second middle back name z n d)))) =
      function_place xs [] front middle back None kind.Nothing name t (e ∙ ap (λ ys. front ++ ys) z) (no_mark refl) (void_result w.token w.only (keyword_told (codes "void") w.token line w.passes)) n d
  item_deeper xs t (other_deep (other_deep (ThenDeep.in_first d))) = nowhere xs t d
  item_deeper xs t (other_deep (other_deep (ThenDeep.in_second front rest k e w (ThenDeep.in_first d)))) = nowhere rest t d
  item_deeper xs t (other_deep (other_deep (ThenDeep.in_second front rest k e w (ThenDeep.in_second middle back name z n (one_deep d))))) =
      function_place xs [] front middle back None (kind.Num k.0) name t (e ∙ ap (λ ys. front ++ ys) z) (no_mark refl) (number_result w.typed) n d
  item_deeper xs t (other_deep (other_deep (ThenDeep.in_second front rest k e w (ThenDeep.in_second middle back name z n (other_deep d))))) = nowhere back t d

  named_deep : (xs : List Token) (name : Token) (word : List ℕ) (back : List Token) (t : Token) → xs ≡ name ∷ back → name.what ≡ kinds.Name word → FunctionDeep Z back t → NamedDeep xs t
  named_deep xs name word back t e n d = ThenDeep.in_second (name ∷ []) back (record { name = word; line = name.line }) e (record { token = name; only = refl; what = n; at = refl }) d

  function_upper : (xs marked front back : List Token) (name : Token) (word : List ℕ) (mark : Option TaskMark) (result : Kind) (t : Token) → xs ≡ marked ++ (front ++ (name ∷ back)) → IsMark marked mark → IsResult front result
      → name.what ≡ kinds.Name word → FunctionDeep Z back t → ItemDeep xs t
  function_upper xs marked front back name word mark result t e (some_mark {mark = m} p) r n d =
      one_deep (ThenDeep.in_second marked (front ++ (name ∷ back)) (Some m) e (record { mark = m; some = refl; pragma = p })
      (ThenDeep.in_second front (name ∷ back) result refl r (named_deep (name ∷ back) name word back t refl n d)))
  function_upper xs marked front back name word mark result t e (no_mark none) (void_result w only v) n d =
      other_deep (one_deep (ThenDeep.in_second front (name ∷ back) w.line (e ∙ ap (λ ys. ys ++ (front ++ (name ∷ back))) none) (record { token = w; only = only; passes = keyword_value (codes "void") w v })
      (named_deep (name ∷ back) name word back t refl n d)))
  function_upper xs marked front back name word mark result t e (no_mark none) (number_result {numbers = numbers} k) n d =
      other_deep (other_deep (ThenDeep.in_second front (name ∷ back) (numbers, first_line front) (e ∙ ap (λ ys. ys ++ (front ++ (name ∷ back))) none) (record { typed = k; at = refl })
      (ThenDeep.in_second (name ∷ []) back (record { name = word; line = name.line }) refl (record { token = name; only = refl; what = n; at = refl }) (one_deep d))))

  item_upper : (xs : List Token) (t : Token) → ItemExcess X Z xs t → ItemDeep xs t
  item_upper xs t (mark_excess d) = one_deep (ThenDeep.in_first d)
  item_upper xs t (body_excess {mark = mark} {result = result} {params = params} marked front name word opened inner closed begins within e m r n o p c s d) =
      function_upper xs marked front (opened ∷ (inner ++ (closed ∷ begins ∷ within))) name word mark result t e m r n
      (record { opened = opened; inner = inner; closed = closed; begins = begins; within = within; params = params; split = refl; opens = o; are = p; closes = c; starts = s; deep = d })

  -- the forms of an item are read
  exact_named_function : (mark : Option TaskMark) (result : Kind) → Exact (read_then (read_one name_at) (read_function_from body mark result)) (NamedFunction mark result) NamedDeep never
  exact_named_function mark result = exact_then exact_name (exact_function_from inside ends_it mark result) (λ name ys b rest w free. begins_never (ys ++ rest)) (λ name ys t rest d. begins_never (ys ++ (t ∷ rest)))
      (λ name. some_text (exact_function_from inside ends_it mark result name) (begun_function_from inside ends_it mark result name))

  begun_named_function : (mark : Option TaskMark) (result : Kind) → Begun (read_then (read_one name_at) (read_function_from body mark result)) (has name_at)
  begun_named_function mark result = begun_then exact_name (exact_function_from inside ends_it mark result) (λ name ys b rest w free. begins_never (ys ++ rest)) (λ name ys t rest d. begins_never (ys ++ (t ∷ rest)))
      (λ name. some_text (exact_function_from inside ends_it mark result name) (begun_function_from inside ends_it mark result name)) begun_name

  exact_typed_from : (numbers : NumKind) (name : Named) → Exact (read_typed_from body numbers name) (TypedFrom numbers name) (EitherDeep (FunctionDeep Z) Nowhere) never
  unfolding read_typed_from
  exact_typed_from numbers name = exact_either opening (exact_function_from inside ends_it None (kind.Num numbers) name) (begun_function_from inside ends_it None (kind.Num numbers) name) (exact_globals_from numbers name)
      (λ ys found rest w free. tail_apart numbers name ys found rest w) (λ ys t rest d. nowhere ys t d)

  typed_from_viable : (numbers : NumKind) (name : Named) → Viable (TypedFrom numbers name) []
  typed_from_viable numbers name = let v = tail_viable numbers name in record { more = v.more; value = v.value; member = other_way v.member }

  exact_named_item : (k : NumKind × ℕ) → Exact (read_then (read_one name_at) (read_typed_from body k.0)) (Then NameToken (TypedFrom k.0)) (ThenDeep Nowhere NameToken (λ name. EitherDeep (FunctionDeep Z) Nowhere)) never
  exact_named_item k = exact_then exact_name (exact_typed_from k.0) (λ name ys b rest w free. begins_never (ys ++ rest)) (λ name ys t rest d. begins_never (ys ++ (t ∷ rest))) (typed_from_viable k.0)

  begun_named_item : (k : NumKind × ℕ) → Begun (read_then (read_one name_at) (read_typed_from body k.0)) (has name_at)
  begun_named_item k = begun_then exact_name (exact_typed_from k.0) (λ name ys b rest w free. begins_never (ys ++ rest)) (λ name ys t rest d. begins_never (ys ++ (t ∷ rest))) (typed_from_viable k.0) begun_name

  exact_typed : Exact (read_typed body) TypedItem TypedDeep never
  unfolding read_typed
  exact_typed = exact_then exact_num_kind exact_named_item (λ k ys b rest w free. begins_never (ys ++ rest)) (λ k ys t rest d. begins_never (ys ++ (t ∷ rest))) (λ k. some_text (exact_named_item k) (begun_named_item k))

  begun_typed : Begun (read_typed body) begins_kind
  unfolding read_typed
  begun_typed = begun_then exact_num_kind exact_named_item (λ k ys b rest w free. begins_never (ys ++ rest)) (λ k ys t rest d. begins_never (ys ++ (t ∷ rest))) (λ k. some_text (exact_named_item k) (begun_named_item k)) begun_num_kind

  exact_void_item : Exact (read_void body) VoidItem VoidDeep never
  unfolding read_void
  exact_void_item = exact_then exact_void_word (λ line. exact_named_function None kind.Nothing) (λ line ys b rest w free. begins_never (ys ++ rest)) (λ line ys t rest d. begins_never (ys ++ (t ∷ rest)))
      (λ line. some_text (exact_named_function None kind.Nothing) (begun_named_function None kind.Nothing))

  begun_void_item : Begun (read_void body) (has void_at)
  unfolding read_void
  begun_void_item = begun_then exact_void_word (λ line. exact_named_function None kind.Nothing) (λ line ys b rest w free. begins_never (ys ++ rest)) (λ line ys t rest d. begins_never (ys ++ (t ∷ rest)))
      (λ line. some_text (exact_named_function None kind.Nothing) (begun_named_function None kind.Nothing)) (begun_one void_at)

  exact_resulting : (mark : Option TaskMark) → Exact (read_then read_result (λ result. read_then (read_one name_at) (read_function_from body mark result))) (Then IsResult (NamedFunction mark)) (ThenDeep Nowhere IsResult (λ result. NamedDeep)) never
  exact_resulting mark = exact_then exact_result (exact_named_function mark) (λ result ys b rest w free. begins_never (ys ++ rest)) (λ result ys t rest d. begins_never (ys ++ (t ∷ rest)))
      (λ result. some_text (exact_named_function mark result) (begun_named_function mark result))

  begun_resulting : (mark : Option TaskMark) → Begun (read_then read_result (λ result. read_then (read_one name_at) (read_function_from body mark result))) (one_of (has void_at) begins_kind)
  begun_resulting mark = begun_then exact_result (exact_named_function mark) (λ result ys b rest w free. begins_never (ys ++ rest)) (λ result ys t rest d. begins_never (ys ++ (t ∷ rest)))
      (λ result. some_text (exact_named_function mark result) (begun_named_function mark result)) begun_result

  exact_marked : Exact (read_marked expression body) MarkedItem MarkedDeep never
  unfolding read_marked
  exact_marked = exact_then (exact_mark part first) exact_resulting (λ mark ys b rest w free. begins_never (ys ++ rest)) (λ mark ys t rest d. begins_never (ys ++ (t ∷ rest))) (λ mark. some_text (exact_resulting mark) (begun_resulting mark))

  begun_marked : Begun (read_marked expression body) (has start_at)
  unfolding read_marked
  begun_marked = begun_then (exact_mark part first) exact_resulting (λ mark ys b rest w free. begins_never (ys ++ rest)) (λ mark ys t rest d. begins_never (ys ++ (t ∷ rest))) (λ mark. some_text (exact_resulting mark) (begun_resulting mark))
      (begun_mark part first)

  -- an item of a program is read
  pub exact_program_item : Exact (read_program_item expression body) IsItem (ItemExcess X Z) never
  unfolding read_program_item
  exact_program_item = exact_as item_into item_back item_deeper item_upper
      (exact_or (has start_at) (one_of (has void_at) begins_kind) exact_marked begun_marked (exact_or (has void_at) begins_kind exact_void_item begun_void_item exact_typed begun_typed kind_no_void)
      (begun_either (has void_at) begun_void_item begun_typed) others_no_start)

  pub begun_program_item : Begun (read_program_item expression body) begins_program_item
  unfolding read_program_item
  begun_program_item = begun_either (has start_at) begun_marked (begun_either (has void_at) begun_void_item begun_typed)

  -- items, behind those that were found
  abbrev Stepped : List Item → List Token → List Item → Type 0
  Stepped found = Mapped (λ more. found ++ more) IsItem

  record ItemsEnd (found : List Item) (xs : List Token) (all : List Item) : Type 0 where
    more : List Item
    ends : found ++ more ≡ all
    rows : IsProgramItems xs more

  items_end : (found : List Item) (xs : List Token) (all : List Item) → Steps Stepped found xs all → ItemsEnd found xs all
  items_end found xs all (over e) = record { more = []; ends = append-nil found; rows = no_items e }
  items_end found xs all (once_more {next = next} front back e w v) =
      let r : ItemsEnd next back all = items_end next back all v in
      record { more = w.part ++ r.more; ends = sym (append_assoc found w.part r.more) ∙ (ap (λ ys. ys ++ r.more) w.made ∙ r.ends); rows = more_items front back e w.whole r.rows }

  items_steps : (found : List Item) (xs : List Token) (more : List Item) → IsProgramItems xs more → Steps Stepped found xs (found ++ more)
  items_steps found xs more (no_items e) = subst (λ ys. Steps Stepped found xs ys) (sym (append-nil found)) (over e)
  items_steps found xs more (more_items {first = one} {more = rest} front back e w v) =
      subst (λ ys. Steps Stepped found xs ys) (append_assoc found one rest) (once_more front back e (record { part = one; made = refl; whole = w }) (items_steps (found ++ one) back rest v))

  program_into : (xs : List Token) (all : List Item) → Steps Stepped [] xs all → IsProgramItems xs all
  program_into xs all w = let r : ItemsEnd [] xs all = items_end [] xs all w in subst (λ ys. IsProgramItems xs ys) r.ends r.rows

  program_deeper : (found : List Item) (xs : List Token) (t : Token) → StepsDeep Stepped (λ found. ItemExcess X Z) found xs t → ProgramExcess X Z xs t
  program_deeper found xs t (in_this d) = first_excess d
  program_deeper found xs t (in_later {next = next} front back e w d) = later_excess front back e w.whole (program_deeper next back t d)

  program_upper : (found : List Item) (xs : List Token) (t : Token) → ProgramExcess X Z xs t → StepsDeep Stepped (λ found. ItemExcess X Z) found xs t
  program_upper found xs t (first_excess d) = in_this d
  program_upper found xs t (later_excess {found = one} front back e w d) = in_later front back e (record { part = one; made = refl; whole = w }) (program_upper (found ++ one) back t d)

  -- the items of a program are read
  pub exact_program_items : Exact (read_program_items expression body) IsProgramItems (ProgramExcess X Z) begins_program_item
  unfolding read_program_items
  exact_program_items = exact_as program_into (λ xs all w. items_steps [] xs all w) (program_deeper []) (program_upper [])
      (exact_steps (λ found. exact_mapped (λ more. found ++ more) exact_program_item) (λ found. begun_mapped (λ more. found ++ more) begun_program_item) (λ found t e. refl) (λ found t e. e) (λ t e. refl) [])

  -- a program is read
  pub exact_program : Exact (read_mapped program_of (read_program_items expression body)) IsProgram (ProgramExcess X Z) begins_program_item
  exact_program = exact_as into back (λ xs t d. d) (λ xs t d. d) (exact_mapped program_of exact_program_items) where
    into : (xs : List Token) (p : Program) → Mapped program_of IsProgramItems xs p → IsProgram xs p
    into xs p w = subst (λ p. IsProgram xs p) w.made (program w.whole)

    back : (xs : List Token) (p : Program) → IsProgram xs p → Mapped program_of IsProgramItems xs p
    back xs p (program {found = found} w) = record { part = found; made = refl; whole = w }

-- with the limits of the language these are the places that the grammar tells
pub excess_into : (xs : List Token) (t : Token) → ProgramExcess IsExpressionExcess (IsItemsExcess IsExpressionExcess most_levels) xs t → IsProgramExcess xs t
excess_into xs t (first_excess (mark_excess d)) = in_marked d
excess_into xs t (first_excess (body_excess marked front name word opened inner closed begins within e m r n o p c s d)) = in_body marked front name word opened inner closed begins within e m r n o p c s d
excess_into xs t (later_excess front back e w d) = in_later_item front back e w (excess_into back t d)

pub excess_back : (xs : List Token) (t : Token) → IsProgramExcess xs t → ProgramExcess IsExpressionExcess (IsItemsExcess IsExpressionExcess most_levels) xs t
excess_back xs t (in_marked d) = first_excess (mark_excess d)
excess_back xs t (in_body marked front name word opened inner closed begins within e m r n o p c s d) = first_excess (body_excess marked front name word opened inner closed begins within e m r n o p c s d)
excess_back xs t (in_later_item front back e w d) = later_excess front back e w (excess_back back t d)

-- a program with the limits of the language is read, where what stands in a block is
pub exact_limited_program : {body : Reader (List Stmt)} {goes_inside : Token → Bool} → Exact body IsItems (IsItemsExcess IsExpressionExcess most_levels) goes_inside
    → ((t : Token) → has (symbol_at (codes "}")) t ≡ true → goes_inside t ≡ false) → Exact (read_mapped program_of (read_program_items read_expression body)) IsProgram IsProgramExcess begins_program_item
exact_limited_program inside ends_it = exact_as (λ xs p w. w) (λ xs p w. w) excess_into excess_back (exact_program exact_expression begun_expression inside ends_it)
