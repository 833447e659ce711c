-- Clauses that a task or a task loop has once at most: counting those of a kind, and asking whether one stands among those that were found.
use Rattle.std.proofs.Common.{arith, ◌≡◌, ◌≤◌, ◌+◌, ℕ, suc, Bool, true, false, ◌||◌, ◌&&◌, not, if◌then◌else◌, List, [], ◌∷◌, ◌++◌, refl, sym, ap, ◌∙◌, Some, None, is_some}
use Rattle.std.specs.List.{count_by, list_any}
use Rattle.std.proofs.Math.Bool.{cond}
use Rattle.std.proofs.lemmas.List.Recursion.{is_count_by}
use Rattle.oss_syntax.specs.declared.access.Mode.{Mode}
use Rattle.oss_syntax.specs.declared.token.Token.{Token}
use Rattle.oss_syntax.specs.declared.tree.expr.Expr.{Expr}
use Rattle.oss_syntax.specs.declared.tree.pragma.Clause.{Clause}
use Rattle.oss_syntax.specs.declared.tree.pragma.Clause.TheVariants as clause
use Rattle.oss_syntax.specs.declared.tree.pragma.Section.{Section}
use Rattle.oss_grammar.specs.Pragmas.{Single, is_single, HasEachOnce, HasNoGrain}
use Rattle.oss_grammar.specs.Pragmas.Single.{once_if, once_final, once_wait, once_label, once_priority, once_grain}
use Rattle.oss_grammar.specs.Reading.{has}
use Rattle.oss_expressions.specs.ExpressionReading.{and_then}
use Rattle.oss_expressions.specs.TokenValues.{stands, single_at, is_single_word}
use Rattle.oss_expressions.specs.declared.kinds.TaskKind.{TaskKind}
use Rattle.oss_expressions.specs.declared.kinds.TaskKind.TheVariants as task_kind
use Rattle.oss_pragma.specs.PragmaReading.{no_grain, counted_with, found_of}

module _ {A : Type 0} (counts : A → Bool) where
  abbrev tally : List A → ℕ
  tally [] = 0
  tally (t ∷ ts) = cond (counts t) (1 + tally ts) (tally ts)

  tally_is : (ts : List A) → tally ts ≡ count_by counts ts
  tally_is = is_count_by tally counts refl (λ t ts. refl)

  -- one more, or none
  pub count_yes : (t : A) (ts : List A) → counts t ≡ true → count_by counts (t ∷ ts) ≡ suc (count_by counts ts)
  count_yes t ts e =
      let one : tally (t ∷ ts) ≡ 1 + tally ts = rw e refl in
      let all : tally (t ∷ ts) ≡ count_by counts (t ∷ ts) = tally_is (t ∷ ts) in let rest : tally ts ≡ count_by counts ts = tally_is ts in omega arith

  pub count_no : (t : A) (ts : List A) → counts t ≡ false → count_by counts (t ∷ ts) ≡ count_by counts ts
  count_no t ts e = let none : tally (t ∷ ts) ≡ tally ts = rw e refl in sym (tally_is (t ∷ ts)) ∙ (none ∙ tally_is ts)

  none_more : (n : ℕ) → n ≡ count_by counts [] + n
  none_more n = let z : count_by counts [] ≡ 0 = refl in omega arith

  pub count_append : (xs ys : List A) → count_by counts (xs ++ ys) ≡ count_by counts xs + count_by counts ys
  count_append [] ys = none_more (count_by counts ys)
  count_append (x ∷ xs) ys = on (counts x) refl (count_append xs ys) where
    on : (b : Bool) → counts x ≡ b → count_by counts (xs ++ ys) ≡ count_by counts xs + count_by counts ys → count_by counts ((x ∷ xs) ++ ys) ≡ count_by counts (x ∷ xs) + count_by counts ys
    on true e more =
        let all : count_by counts (x ∷ (xs ++ ys)) ≡ suc (count_by counts (xs ++ ys)) = count_yes x (xs ++ ys) e in
        let one : count_by counts (x ∷ xs) ≡ suc (count_by counts xs) = count_yes x xs e in omega arith
    on false e more =
        let all : count_by counts (x ∷ (xs ++ ys)) ≡ count_by counts (xs ++ ys) = count_no x (xs ++ ys) e in
        let one : count_by counts (x ∷ xs) ≡ count_by counts xs = count_no x xs e in omega arith

  -- none counts where none is any
  pub count_none : (xs : List A) → list_any counts xs ≡ false → count_by counts xs ≡ 0
  count_none [] e = refl
  count_none (x ∷ xs) e = on (counts x) refl (count_none xs) where
    on : (b : Bool) → counts x ≡ b → (list_any counts xs ≡ false → count_by counts xs ≡ 0) → count_by counts (x ∷ xs) ≡ 0
    on true c more = let yes : list_any counts (x ∷ xs) ≡ true = ap (λ b. b || list_any counts xs) c in absurd (cc)
    on false c more = count_no x xs c ∙ more (sym (ap (λ b. b || list_any counts xs) c) ∙ e)

  pub none_counts : (xs : List A) → count_by counts xs ≡ 0 → list_any counts xs ≡ false
  none_counts [] e = refl
  none_counts (x ∷ xs) e = on (counts x) refl (none_counts xs) where
    on : (b : Bool) → counts x ≡ b → (count_by counts xs ≡ 0 → list_any counts xs ≡ false) → list_any counts (x ∷ xs) ≡ false
    on true c more = let one : count_by counts (x ∷ xs) ≡ suc (count_by counts xs) = count_yes x xs c in absurd (omega arith)
    on false c more = ap (λ b. b || list_any counts xs) c ∙ more (sym (count_no x xs c) ∙ e)

-- no clause of the kind of this one was found
abbrev pub IsNew : List Clause → Clause → Type 0
IsNew found c = (s : Single) → is_single s c ≡ true → stands s found ≡ false

pub depend_new : (found : List Clause) (mode : Mode) (strong fresh : Bool) (sections : List Section) → IsNew found (clause.Depend mode strong fresh sections)
depend_new found mode strong fresh sections once_if e = absurd (cc)
depend_new found mode strong fresh sections once_final e = absurd (cc)
depend_new found mode strong fresh sections once_wait e = absurd (cc)
depend_new found mode strong fresh sections once_label e = absurd (cc)
depend_new found mode strong fresh sections once_priority e = absurd (cc)
depend_new found mode strong fresh sections once_grain e = absurd (cc)

pub if_new : (found : List Clause) (v : Expr) → stands once_if found ≡ false → IsNew found (clause.If v)
if_new found v free once_if e = free
if_new found v free once_final e = absurd (cc)
if_new found v free once_wait e = absurd (cc)
if_new found v free once_label e = absurd (cc)
if_new found v free once_priority e = absurd (cc)
if_new found v free once_grain e = absurd (cc)

pub final_new : (found : List Clause) (v : Expr) → stands once_final found ≡ false → IsNew found (clause.Final v)
final_new found v free once_if e = absurd (cc)
final_new found v free once_final e = free
final_new found v free once_wait e = absurd (cc)
final_new found v free once_label e = absurd (cc)
final_new found v free once_priority e = absurd (cc)
final_new found v free once_grain e = absurd (cc)

pub wait_new : (found : List Clause) → stands once_wait found ≡ false → IsNew found clause.Wait
wait_new found free once_if e = absurd (cc)
wait_new found free once_final e = absurd (cc)
wait_new found free once_wait e = free
wait_new found free once_label e = absurd (cc)
wait_new found free once_priority e = absurd (cc)
wait_new found free once_grain e = absurd (cc)

pub label_new : (found : List Clause) (bytes : List ℕ) → stands once_label found ≡ false → IsNew found (clause.Label bytes)
label_new found bytes free once_if e = absurd (cc)
label_new found bytes free once_final e = absurd (cc)
label_new found bytes free once_wait e = absurd (cc)
label_new found bytes free once_label e = free
label_new found bytes free once_priority e = absurd (cc)
label_new found bytes free once_grain e = absurd (cc)

pub priority_new : (found : List Clause) (v : Expr) → stands once_priority found ≡ false → IsNew found (clause.Priority v)
priority_new found v free once_if e = absurd (cc)
priority_new found v free once_final e = absurd (cc)
priority_new found v free once_wait e = absurd (cc)
priority_new found v free once_label e = absurd (cc)
priority_new found v free once_priority e = free
priority_new found v free once_grain e = absurd (cc)

pub grain_new : (found : List Clause) (v : Expr) → stands once_grain found ≡ false → IsNew found (clause.Grain v)
grain_new found v free once_if e = absurd (cc)
grain_new found v free once_final e = absurd (cc)
grain_new found v free once_wait e = absurd (cc)
grain_new found v free once_label e = absurd (cc)
grain_new found v free once_priority e = absurd (cc)
grain_new found v free once_grain e = free

-- where each was found once at most, and this one is new, each is found once at most with it
pub once_with : (found : List Clause) (c : Clause) → HasEachOnce found → IsNew found c → HasEachOnce (and_then found c)
once_with found c once new s = on (is_single s c) refl where
  on : (b : Bool) → is_single s c ≡ b → count_by (is_single s) (found ++ (c ∷ [])) ≤ 1
  on true e =
      let none : count_by (is_single s) found ≡ 0 = count_none (is_single s) found (new s e) in
      let all : count_by (is_single s) (found ++ (c ∷ [])) ≡ count_by (is_single s) found + count_by (is_single s) (c ∷ []) = count_append (is_single s) found (c ∷ []) in
      let one : count_by (is_single s) (c ∷ []) ≡ suc (count_by (is_single s) []) = count_yes (is_single s) c [] e in
      let zero_of : count_by (is_single s) [] ≡ 0 = refl in omega arith
  on false e =
      let few : count_by (is_single s) found ≤ 1 = once s in
      let all : count_by (is_single s) (found ++ (c ∷ [])) ≡ count_by (is_single s) found + count_by (is_single s) (c ∷ []) = count_append (is_single s) found (c ∷ []) in
      let one : count_by (is_single s) (c ∷ []) ≡ count_by (is_single s) [] = count_no (is_single s) c [] e in
      let zero_of : count_by (is_single s) [] ≡ 0 = refl in omega arith

-- where each is found once at most in the end, the next one is new
pub new_behind : (found : List Clause) (c : Clause) (more : List Clause) → HasEachOnce (found ++ (c ∷ more)) → IsNew found c
new_behind found c more once s e =
    let few : count_by (is_single s) (found ++ (c ∷ more)) ≤ 1 = once s in
    let all : count_by (is_single s) (found ++ (c ∷ more)) ≡ count_by (is_single s) found + count_by (is_single s) (c ∷ more) = count_append (is_single s) found (c ∷ more) in
    let one : count_by (is_single s) (c ∷ more) ≡ suc (count_by (is_single s) more) = count_yes (is_single s) c more e in
    none_counts (is_single s) found (omega arith)

pub once_none : HasEachOnce []
once_none s = let z : count_by (is_single s) [] ≡ 0 = refl in omega arith

-- a task counts a grainsize before its clauses: with it, each stands once just where each does without it and none is a grainsize
pub once_counted : (cs : List Clause) → HasEachOnce cs → HasNoGrain cs → HasEachOnce (no_grain ∷ cs)
once_counted cs once none s = on (is_single s no_grain) refl where
  grain_alone : (s : Single) → is_single s no_grain ≡ true → count_by (is_single s) cs ≡ 0
  grain_alone once_if e = absurd (cc)
  grain_alone once_final e = absurd (cc)
  grain_alone once_wait e = absurd (cc)
  grain_alone once_label e = absurd (cc)
  grain_alone once_priority e = absurd (cc)
  grain_alone once_grain e = none

  on : (b : Bool) → is_single s no_grain ≡ b → count_by (is_single s) (no_grain ∷ cs) ≤ 1
  on true e =
      let all : count_by (is_single s) (no_grain ∷ cs) ≡ suc (count_by (is_single s) cs) = count_yes (is_single s) no_grain cs e in
      let rest : count_by (is_single s) cs ≡ 0 = grain_alone s e in omega arith
  on false e =
      let all : count_by (is_single s) (no_grain ∷ cs) ≡ count_by (is_single s) cs = count_no (is_single s) no_grain cs e in
      let few : count_by (is_single s) cs ≤ 1 = once s in omega arith

pub once_found : (cs : List Clause) → HasEachOnce (no_grain ∷ cs) → HasEachOnce cs
once_found cs once s = on (is_single s no_grain) refl where
  on : (b : Bool) → is_single s no_grain ≡ b → count_by (is_single s) cs ≤ 1
  on true e =
      let all : count_by (is_single s) (no_grain ∷ cs) ≡ suc (count_by (is_single s) cs) = count_yes (is_single s) no_grain cs e in
      let few : count_by (is_single s) (no_grain ∷ cs) ≤ 1 = once s in omega arith
  on false e =
      let all : count_by (is_single s) (no_grain ∷ cs) ≡ count_by (is_single s) cs = count_no (is_single s) no_grain cs e in
      let few : count_by (is_single s) (no_grain ∷ cs) ≤ 1 = once s in omega arith

pub none_found_of : (cs : List Clause) → HasEachOnce (no_grain ∷ cs) → HasNoGrain cs
none_found_of cs once =
    let all : count_by (is_single once_grain) (no_grain ∷ cs) ≡ suc (count_by (is_single once_grain) cs) = count_yes (is_single once_grain) no_grain cs refl in
    let few : count_by (is_single once_grain) (no_grain ∷ cs) ≤ 1 = once once_grain in omega arith

-- what stands before the clauses stays there
pub counted_more : (kind : TaskKind) (found : List Clause) (c : Clause) → and_then (counted_with kind found) c ≡ counted_with kind (and_then found c)
counted_more task_kind.Task found c = refl
counted_more task_kind.Loop found c = refl

pub counted_all : (kind : TaskKind) (found : List Clause) → counted_with kind [] ++ found ≡ counted_with kind found
counted_all task_kind.Task found = refl
counted_all task_kind.Loop found = refl

pub found_counted : (kind : TaskKind) (found : List Clause) → found_of kind (counted_with kind found) ≡ found
found_counted task_kind.Task found = refl
found_counted task_kind.Loop found = refl

pub none_counted : (kind : TaskKind) → HasEachOnce (counted_with kind [])
none_counted task_kind.Task = once_counted [] once_none refl
none_counted task_kind.Loop = once_none

-- the word of such a clause tells its line where none was found
told_by : (w st : Bool) (line n : ℕ) → (if w && not st then Some line else None) ≡ Some n → (w ≡ true) × (st ≡ false)
told_by true false line n e = (refl, refl)
told_by true true line n e = absurd (cc)
told_by false st line n e = absurd (cc)

pub single_told : (s : Single) (found : List Clause) (t : Token) (n : ℕ) → single_at s found t ≡ Some n → (is_single_word s t.what ≡ true) × (stands s found ≡ false)
single_told s found t n e = told_by (is_single_word s t.what) (stands s found) t.line n e

pub tells_single : (s : Single) (found : List Clause) (t : Token) → is_single_word s t.what ≡ true → stands s found ≡ false → single_at s found t ≡ Some t.line
tells_single s found t e free = rw e (rw free refl)

one_of_word : (w st : Bool) (line : ℕ) → is_some (if w && not st then Some line else None) ≡ true → w ≡ true
one_of_word true st line e = refl
one_of_word false st line e = absurd (cc)

pub has_single : (s : Single) (found : List Clause) (t : Token) → has (single_at s found) t ≡ true → is_single_word s t.what ≡ true
has_single s found t e = one_of_word (is_single_word s t.what) (stands s found) t.line e

none_left : (w st : Bool) (line : ℕ) → st ≡ true → is_some (if w && not st then Some line else None) ≡ false
none_left true true line e = refl
none_left false true line e = refl
none_left w false line e = absurd (cc)

pub no_single : (s : Single) (found : List Clause) → stands s found ≡ true → (t : Token) → has (single_at s found) t ≡ false
no_single s found e t = none_left (is_single_word s t.what) (stands s found) t.line e
