-- A program as which a text is accepted fits, its task loops written out.
use Rattle.std.proofs.Common.{◌≡◌, ◌∙◌, ℕ, suc, ◌+◌, Bool, true, false, nat_lt, if◌then◌else◌, cond, List, [], ◌∷◌, ◌++◌, length, map, Option, Some, None, option_map, position, refl, sym, ap, subst, arith, length-append, append_assoc}
use Rattle.std.specs.List.{position_or_len}
use Rattle.std.specs.Prelude.{◌&&◌, ◌||◌, ◌==◌, codes, is_some, not, slice_get}
use Rattle.std.specs.Str.{bytes_eq}
use Rattle.std.proofs.lemmas.Bool.Decides.{nat_tests}
use Rattle.oss_syntax.specs.declared.refusal.RefusedKind.TheVariants as refused
use Rattle.oss_syntax.specs.declared.token.Token.{Token}
use Rattle.oss_syntax.specs.declared.tree.pragma.TaskMark.{TaskMark}
use Rattle.oss_syntax.specs.declared.tree.program.Function.{Function}
use Rattle.oss_syntax.specs.declared.tree.program.GlobalDef.{GlobalDef}
use Rattle.oss_syntax.specs.declared.tree.program.Item.{Item}
use Rattle.oss_syntax.specs.declared.tree.program.Item.TheVariants as items
use Rattle.oss_syntax.specs.declared.tree.program.Local.{Local}
use Rattle.oss_syntax.specs.declared.tree.program.NumKind.{NumKind}
use Rattle.oss_syntax.specs.declared.tree.program.Program.{Program}
use Rattle.oss_grammar.specs.Broken.{where_so}
use Rattle.oss_grammar.specs.Layout.{cells_of}
use Rattle.oss_grammar.specs.Parsing.{IsProgramText}
use Rattle.oss_grammar.specs.ProgramRules.{body_around, function_rules, global_rules, has_main, is_wrong_function, items_rules, mark_rules, program_rules, returns_int, returns_nothing}
use Rattle.oss_grammar.specs.Programs.{IsFunction, IsItem, IsProgram, IsProgramItems}
use Rattle.oss_grammar.specs.Programs.IsFunction.{function}
use Rattle.oss_grammar.specs.Programs.IsItem.{globals, one_function}
use Rattle.oss_grammar.specs.Programs.IsProgram.{program}
use Rattle.oss_grammar.specs.Programs.IsProgramItems.{more_items, no_items}
use Rattle.oss_grammar.specs.Scopes.{is_again, is_main, item_at, item_name, item_named, item_place}
use Rattle.oss_grammar.specs.Statements.{IsItems}
use Rattle.oss_grammar.specs.StaticRules.{declare_all, rules_of_all}
use Rattle.oss_grammar.specs.TaskLoops.{item_written, program_written, written_out}
use Rattle.oss_meaning.specs.Names.{functions_of, global_found, item_found, item_from}
use Rattle.oss_meaning.specs.declared.names.Found.{Found}
use Rattle.oss_meaning.specs.declared.names.Found.TheVariants as names
use Rattle.oss_multidependency_laws.specs.Fitting.{body_fits, function_fits, function_takes, functions_fit, mark_fits, program_fits, takes}
use Rattle.oss_multidependency_laws.proofs.RulesFit.{and_both, clauses_fits, nil_left, nil_right, not_so}
use Rattle.oss_multidependency_laws.proofs.TextsFit.{items_stand}

-- Names

less_first : (m : ℕ) → nat_lt 0 (suc m) ≡ true
less_first m = grind (arith, nat_tests)

less_more : (n m : ℕ) → nat_lt (1 + n) (suc m) ≡ nat_lt n m
less_more n m = grind (arith, nat_tests)

one_on : (b : Bool) (n : ℕ) → cond b (Some (1 + n)) None ≡ option_map (λ k. suc k) (cond b (Some n) None)
one_on true n = ap Some (omega arith)
one_on false n = refl

place_here : {X : Type 0} (p : X → Bool) (x : X) (xs : List X) → p x ≡ true → position p (x ∷ xs) ≡ Some 0
place_here p x xs e = rw e (ap (λ b. cond b (Some 0) None) (less_first (length xs)))

place_behind : {X : Type 0} (p : X → Bool) (x : X) (xs : List X) → p x ≡ false → position p (x ∷ xs) ≡ option_map (λ k. suc k) (position p xs)
place_behind p x xs e =
    rw e (ap (λ b. cond b (Some (1 + position_or_len p xs)) None) (less_more (position_or_len p xs) (length xs)) ∙ one_on (nat_lt (position_or_len p xs) (length xs)) (position_or_len p xs))

-- the item of a name among more items
named_here : (x : Item) (rest : List Item) (name : List ℕ) → bytes_eq (item_name x) name ≡ true → item_named (x ∷ rest) name ≡ Some x
named_here x rest name e = ap (item_at (x ∷ rest)) (place_here (λ other. bytes_eq other name) (item_name x) (map item_name rest) e)

behind_at : (x : Item) (rest : List Item) (o : Option ℕ) → item_at (x ∷ rest) (option_map (λ k. suc k) o) ≡ item_at rest o
behind_at x rest None = refl
behind_at x rest (Some k) = refl

named_behind : (x : Item) (rest : List Item) (name : List ℕ) → bytes_eq (item_name x) name ≡ false → item_named (x ∷ rest) name ≡ item_named rest name
named_behind x rest name e =
    ap (item_at (x ∷ rest)) (place_behind (λ other. bytes_eq other name) (item_name x) (map item_name rest) e) ∙ behind_at x rest (item_place rest name)

nothing_at : (o : Option ℕ) (x : Item) → item_at [] o ≡ Some x → ⊥
nothing_at None x e = cc
nothing_at (Some k) x e = cc

seam : (pre : List Function) (f : Function) (rest : List Function) → slice_get (pre ++ f ∷ rest) (length pre) ≡ Some f
seam [] f rest = refl
seam (p ∷ pre) f rest = seam pre f rest

-- a function, its task loops written out
abbrev written_function : Function → Function
written_function f = record f { body = map written_out f.body }

module _ (whole : List Item) where
  takes_if : (b : Bool) (x y : Found) (n : ℕ) → (b ≡ true → takes whole x n ≡ true) → (b ≡ false → takes whole y n ≡ true) → takes whole (if b then x else y) n ≡ true
  takes_if true x y n one other = one refl
  takes_if false x y n one other = other refl

  global_takes : (cells columns : Option ℕ) (g : ℕ) (k : NumKind) (n : ℕ) → takes whole (global_found cells columns g k) n ≡ true
  global_takes None columns g k n = refl
  global_takes (Some c) None g k n = refl
  global_takes (Some c) (Some m) g k n = refl

  -- the functions of the program from here on
  module _ (pre : List Function) (f : Function) (rest : List Item) (are : functions_of whole ≡ pre ++ functions_of (map item_written (items.Function f ∷ rest))) where
    own_takes : (n : ℕ) → (n == length f.params) ≡ true → takes whole (names.Function (length pre)) n ≡ true
    own_takes n fit = ap (λ o. function_takes o n) (ap (λ l. slice_get l (length pre)) are ∙ seam pre (written_function f) (functions_of (map item_written rest))) ∙ fit

    rest_are : functions_of whole ≡ (pre ++ written_function f ∷ []) ++ functions_of (map item_written rest)
    rest_are = are ∙ sym (append_assoc pre (written_function f ∷ []) (functions_of (map item_written rest)))

    one_more : length (pre ++ written_function f ∷ []) ≡ length pre + 1
    one_more = omega (arith, length-append pre (written_function f ∷ []))

  -- a function that a name stands for may be called with as many arguments as it has parameters
  named_takes : (rest : List Item) (pre : List Function) (g : ℕ) → functions_of whole ≡ pre ++ functions_of (map item_written rest) → (name : List ℕ) (d : Function) → item_named rest name ≡ Some (items.Function d)
      → (n : ℕ) → (n == length d.params) ≡ true → takes whole (item_from g (length pre) (map item_written rest) name) n ≡ true
  named_takes [] pre g are name d is n fit = absurd (nothing_at (item_place [] name) (items.Function d) is)
  named_takes (items.Global x ∷ rest) pre g are name d is n fit =
      takes_if (bytes_eq x.name name) (global_found x.cells x.columns g x.kind) (item_from (g + 1) (length pre) (map item_written rest) name) n
      (λ e. global_takes x.cells x.columns g x.kind n)
      (λ e. named_takes rest pre (g + 1) are name d (sym (named_behind (items.Global x) rest name e) ∙ is) n fit)
  named_takes (items.Function f ∷ rest) pre g are name d is n fit =
      takes_if (bytes_eq f.name name) (names.Function (length pre)) (item_from g (length pre + 1) (map item_written rest) name) n
      (λ e. own_takes pre f rest are n (subst (λ (k : ℕ). (n == k) ≡ true) (ap params_in (sym is ∙ named_here (items.Function f) rest name e)) fit))
      (λ e. subst (λ k. takes whole (item_from g k (map item_written rest) name) n ≡ true) (one_more pre f rest are)
      (named_takes rest (pre ++ written_function f ∷ []) g (rest_are pre f rest are) name d (sym (named_behind (items.Function f) rest name e) ∙ is) n fit))
    where
      params_in : Option Item → ℕ
      params_in (Some (items.Function h)) = length h.params
      params_in (Some (items.Global h)) = 0
      params_in None = 0

  -- `main` has no parameters
  wrong_main : (m a r x : Bool) → ((m && (not a || r)) || x) ≡ false → m ≡ true → a ≡ true
  wrong_main true true r x e h = refl
  wrong_main true false r x e h = absurd (cc)
  wrong_main false a r x e h = absurd (cc)

  none_told : (k : ℕ) → (k == 0) ≡ true → (0 == k) ≡ true
  none_told k e = let none : k ≡ 0 = grind (arith, nat_tests) in ap (λ j. 0 == j) none

  main_takes : (all : List Item) (rest : List Item) (i before : ℕ) (pre : List Function) (g : ℕ) → functions_of whole ≡ pre ++ functions_of (map item_written rest) → items_rules all i before rest ≡ []
      → takes whole (item_from g (length pre) (map item_written rest) (codes "main")) 0 ≡ true
  main_takes all [] i before pre g are none = refl
  main_takes all (items.Global x ∷ rest) i before pre g are none =
      takes_if (bytes_eq x.name (codes "main")) (global_found x.cells x.columns g x.kind) (item_from (g + 1) (length pre) (map item_written rest) (codes "main")) 0
      (λ e. global_takes x.cells x.columns g x.kind 0)
      (λ e. main_takes all rest (i + 1) (before + cells_of x.cells) pre (g + 1) are (nil_right (global_rules all i before x) (items_rules all (i + 1) (before + cells_of x.cells) rest) none))
  main_takes all (items.Function f ∷ rest) i before pre g are none =
      let own = nil_left (function_rules all i f) (items_rules all (i + 1) before rest) none in
      let params = declare_all all 0 f.params [] in
      let wrong = nil_left (where_so (is_wrong_function f) refused.WrongKind f.line) _ (nil_right (where_so (is_again all i f.name) refused.DuplicateName f.line) _ (nil_right (mark_rules all params.locals f.mark) _ own)) in
      takes_if (bytes_eq f.name (codes "main")) (names.Function (length pre)) (item_from g (length pre + 1) (map item_written rest) (codes "main")) 0
      (λ e. own_takes pre f rest are 0 (none_told (length f.params)
      (wrong_main (is_main f.name) (length f.params == 0) (not (returns_int f.result)) (is_some f.mark && (is_main f.name || not (returns_nothing f.result))) (not_so (is_wrong_function f) refused.WrongKind f.line wrong) e)))
      (λ e. subst (λ k. takes whole (item_from g k (map item_written rest) (codes "main")) 0 ≡ true) (one_more pre f rest are)
      (main_takes all rest (i + 1) before (pre ++ written_function f ∷ []) g (rest_are pre f rest are) (nil_right (function_rules all i f) (items_rules all (i + 1) before rest) none)))

-- Functions

-- the body of each function is one of the grammar
abbrev HaveBodies : List Item → Type 0
HaveBodies [] = Unit {0}
HaveBodies (items.Global g ∷ rest) = HaveBodies rest
HaveBodies (items.Function f ∷ rest) = ((ts : List Token) × IsItems ts f.body) × HaveBodies rest

bodies_append : (xs ys : List Item) → HaveBodies xs → HaveBodies ys → HaveBodies (xs ++ ys)
bodies_append [] ys h k = k
bodies_append (items.Global g ∷ xs) ys h k = bodies_append xs ys h k
bodies_append (items.Function f ∷ xs) ys h k = (h.0, bodies_append xs ys h.1 k)

globals_bodies : (gs : List GlobalDef) → HaveBodies (map items.Global gs)
globals_bodies [] = tt
globals_bodies (g ∷ rest) = globals_bodies rest

function_body : {ts : List Token} {f : Function} → IsFunction ts f → (us : List Token) × IsItems us f.body
function_body (function marked front t word opened inner closed begins within ends split mark result named opens params closes begin body end) = (within, body)

item_bodies : {ts : List Token} {found : List Item} → IsItem ts found → HaveBodies found
item_bodies (globals {gs = gs} front middle mark split kind are ends) = globals_bodies gs
item_bodies (one_function is) = (function_body is, tt)

items_bodies : {ts : List Token} {found : List Item} → IsProgramItems ts found → HaveBodies found
items_bodies (no_items none) = tt
items_bodies (more_items {first = one} {more = more} front back split is rest) = bodies_append one more (item_bodies is) (items_bodies rest)

program_bodies : {ts : List Token} {p : Program} → IsProgram ts p → HaveBodies p.items
program_bodies (program are) = items_bodies are

module _ (all : List Item) where
  abbrev other : List Item
  other = map item_written all

  same : (name : List ℕ) (f : Function) → item_named all name ≡ Some (items.Function f) → (n : ℕ) → (n == length f.params) ≡ true → takes other (item_found other name) n ≡ true
  same name f is n fit = named_takes other all [] 0 refl name f is n fit

  marks_fit : (locals : List Local) (m : Option TaskMark) → mark_rules all locals m ≡ [] → mark_fits other m ≡ true
  marks_fit locals None h = refl
  marks_fit locals (Some mark) h = clauses_fits all other same locals 0 mark.clauses h

  fit_from : (rest : List Item) (i before : ℕ) → HaveBodies rest → items_rules all i before rest ≡ [] → functions_fit other (functions_of (map item_written rest)) ≡ true
  fit_from [] i before bodies h = refl
  fit_from (items.Global g ∷ rest) i before bodies h = fit_from rest (i + 1) (before + cells_of g.cells) bodies (nil_right (global_rules all i before g) (items_rules all (i + 1) (before + cells_of g.cells) rest) h)
  fit_from (items.Function f ∷ rest) i before bodies h =
      let params = declare_all all 0 f.params [] in
      let own = nil_left (function_rules all i f) (items_rules all (i + 1) before rest) h in
      let behind = nil_right (where_so (is_wrong_function f) refused.WrongKind f.line) _ (nil_right (where_so (is_again all i f.name) refused.DuplicateName f.line) _ (nil_right (mark_rules all params.locals f.mark) _ own)) in
      and_both (function_fits other (written_function f)) (functions_fit other (functions_of (map item_written rest)))
      (and_both (mark_fits other f.mark) (body_fits other (map written_out f.body)) (marks_fit params.locals f.mark (nil_left (mark_rules all params.locals f.mark) _ own))
      (items_stand all other same (body_around f.result) params.locals bodies.0.1 (nil_right params.broken (rules_of_all f.body all (body_around f.result) params.locals).broken behind)))
      (fit_from rest (i + 1) before bodies.1 (nil_right (function_rules all i f) (items_rules all (i + 1) before rest) h))

-- A program that breaks no rule fits, its task loops written out.
pub accepted_fits : (text : List ℕ) (p : Program) → IsProgramText text p → program_rules p ≡ [] → program_fits (program_written p).items ≡ true
accepted_fits text p is obeys =
    let none = nil_left (items_rules p.items 0 0 p.items) (where_so (not (has_main p.items)) refused.NoMain 1) obeys in
    and_both (functions_fit (other p.items) (functions_of (other p.items))) (takes (other p.items) (item_found (other p.items) (codes "main")) 0) (fit_from p.items p.items 0 0 (program_bodies is.is_program) none)
    (main_takes (other p.items) p.items p.items 0 0 [] 0 refl none)
