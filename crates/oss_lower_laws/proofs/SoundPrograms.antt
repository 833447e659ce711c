-- The code of a program is sound.
use Rattle.std.proofs.Common.{◌≡◌, ◌∙◌, ℕ, zero, suc, ◌+◌, ◌-◌, ◌≤◌, List, [], ◌∷◌, ◌++◌, length, map, Option, Some, None, Bool, true, false, refl, sym, ap, subst, arith, length-append, append_assoc}
use Rattle.std.specs.Prelude.{All, if◌then◌else◌, slice_get, slice_index_or}
use Rattle.std.specs.Str.{bytes_eq}
use Rattle.std.proofs.lemmas.List.{length-map}
use Rattle.oss_syntax.specs.declared.tree.pragma.TaskMark.{TaskMark}
use Rattle.oss_syntax.specs.declared.tree.program.Function.{Function}
use Rattle.oss_syntax.specs.declared.tree.program.Item.{Item}
use Rattle.oss_syntax.specs.declared.tree.program.Item.TheVariants as items
use Rattle.oss_syntax.specs.declared.tree.program.Local.{Local}
use Rattle.oss_meaning.specs.declared.names.Found.{Found}
use Rattle.oss_meaning.specs.declared.names.Found.TheVariants as names
use Rattle.oss_meaning.specs.Meaning.{main_number}
use Rattle.oss_meaning.specs.Names.{functions_of, global_found, item_found, item_from}
use Rattle.oss_code.specs.Soundness.{IsAtDepth, IsFunction, IsSound, IsSoundAt}
use Rattle.oss_code.specs.declared.code.CodeParts.{CodeParts}
use Rattle.oss_code.specs.declared.instr.Instr.{Instr}
use Rattle.oss_code.specs.declared.instr.Instr.TheVariants as i
use Rattle.oss_lower_laws.specs.declared.lined.Lined.{Lined}
use Rattle.oss_lower_laws.specs.ExpressionCode.{one}
use Rattle.oss_lower_laws.specs.SectionCode.{created_code}
use Rattle.oss_lower_laws.specs.StatementCode.{codes_in_order, enclosed_code, end_length, stmt_codes}
use Rattle.oss_lower_laws.specs.Lowered.{IsLowered, bodies_from, body_code, body_entry, body_place, bound_code, end_entry, entered_code, entries_from, first_entry, function_code, function_codes, function_spot, head_code, program_code}
use Rattle.oss_lower_laws.specs.Programs.{CodesAreSound}
use Rattle.oss_lower_laws.proofs.FlowLemmas.{DepthsAt, Flows, SoundFrom, at_depth, depths_back, depths_front, flows_none, flows_one, flows_then, return_sound, simple_sound, skip_sound, sound_append}
use Rattle.oss_lower_laws.proofs.PlaceLemmas.{IsSomething, body_behind, value_or}
use Rattle.oss_lower_laws.proofs.SoundExpressions.{FunctionsThere, created_sound}
use Rattle.oss_lower_laws.proofs.SoundStatements.{enclosed_sound, list_sound}

-- Lists

seam : {A B : Type 0} (f : A → B) (pre : List A) (x : A) (xs : List A) → slice_get (map f (pre ++ x ∷ xs)) (length pre) ≡ Some (f x)
seam f [] x xs = refl
seam f (p ∷ pre) x xs = seam f pre x xs

-- depths that are those of a list stand there
depths_all : (code : CodeParts) (xs pre : List Lined) → code.depths ≡ map (λ l. l.depth) (pre ++ xs) → DepthsAt code (length pre) xs
depths_all code [] pre same = tt
depths_all code (x ∷ xs) pre same =
    let over : (pre ++ x ∷ []) ++ xs ≡ pre ++ (x ∷ xs) = append_assoc pre (x ∷ []) xs in
    let one_more : length (pre ++ x ∷ []) ≡ length pre + 1 = omega (arith, length-append pre (x ∷ [])) in (
      ap (λ l. slice_get l (length pre)) same ∙ seam (λ l. l.depth) pre x xs,
      subst (λ m. DepthsAt code m xs) one_more (depths_all code xs (pre ++ x ∷ []) (same ∙ ap (λ l. map (λ y. y.depth) l) (sym over))),
    )

-- each instruction of a sound piece is sound
sound_at : (code : CodeParts) (xs : List Lined) (from : ℕ) → SoundFrom code from xs → (j depth : ℕ) (what : Instr)
    → slice_get (map (λ l. l.what) xs) j ≡ Some what → slice_get (map (λ l. l.depth) xs) j ≡ Some depth → IsSoundAt code (from + j) depth what
sound_at code [] from sound j depth what is deep = absurd (subst IsSomething (sym is) tt)
sound_at code (x ∷ xs) from sound zero depth what is deep =
    let same : x.what ≡ what = ap (λ o. value_or o x.what) is in
    let depths_are : x.depth ≡ depth = ap (λ o. value_or o x.depth) deep in
    let here : from ≡ from + 0 = omega arith in
    subst (λ w. IsSoundAt code (from + 0) depth w) same (subst (λ d. IsSoundAt code (from + 0) d x.what) depths_are (subst (λ q. IsSoundAt code q x.depth x.what) here sound.0))
sound_at code (x ∷ xs) from sound (suc j) depth what is deep =
    let there : from + 1 + j ≡ from + suc j = omega arith in
    subst (λ q. IsSoundAt code q depth what) there (sound_at code xs (from + 1) sound.1 j depth what is deep)

-- Names of functions

-- a function that is found is there
abbrev NumberOf : Found → ℕ → Type 0
NumberOf (names.Function k) f = k ≡ f
NumberOf _ f = ⊥

number_is : (o : Found) (f : ℕ) → o ≡ names.Function f → NumberOf o f
number_is o f e = subst (λ x. NumberOf x f) (sym e) refl

no_function : (cells columns : Option ℕ) (g : ℕ) (k : _) (f : ℕ) → NumberOf (global_found cells columns g k) f → ⊥
no_function None columns g k f h = h
no_function (Some c) None g k f h = h
no_function (Some c) (Some m) g k f h = h

found_there : (all : List Item) (g first : ℕ) (name : List ℕ) (f : ℕ) → NumberOf (item_from g first all name) f → (first ≤ f) × IsSomething (slice_get (functions_of all) (f - first))
found_there [] g first name f h = absurd h
found_there (items.Global d ∷ rest) g first name f h = by_name (bytes_eq d.name name) h (found_there rest (g + 1) first name f)
  where
    by_name : (same : Bool) → NumberOf (if same then global_found d.cells d.columns g d.kind else item_from (g + 1) first rest name) f
        → (NumberOf (item_from (g + 1) first rest name) f → (first ≤ f) × IsSomething (slice_get (functions_of rest) (f - first)))
        → (first ≤ f) × IsSomething (slice_get (functions_of rest) (f - first))
    by_name true k later = absurd (no_function d.cells d.columns g d.kind f k)
    by_name false k later = later k
found_there (items.Function d ∷ rest) g first name f h = by_name (bytes_eq d.name name) h (found_there rest g (first + 1) name f)
  where
    by_name : (same : Bool) → NumberOf (if same then names.Function first else item_from g (first + 1) rest name) f
        → (NumberOf (item_from g (first + 1) rest name) f → (first + 1 ≤ f) × IsSomething (slice_get (functions_of rest) (f - (first + 1))))
        → (first ≤ f) × IsSomething (slice_get (d ∷ functions_of rest) (f - first))
    by_name true k later =
        let here : 0 ≡ f - first = omega (arith, k) in
        (omega (arith, k), subst (λ j. IsSomething (slice_get (d ∷ functions_of rest) j)) here tt)
    by_name false k later =
        let there = later k in
        let further : suc (f - (first + 1)) ≡ f - first = omega (arith, there.0) in
        (omega (arith, there.0), subst (λ j. IsSomething (slice_get (d ∷ functions_of rest) j)) further there.1)

module _ (all : List Item) (code : CodeParts) (low : IsLowered all code) where
  -- the depths of the whole code
  at_program : DepthsAt code 0 (program_code all)
  at_program = depths_all code (program_code all) [] low.depths

  at_functions : DepthsAt code first_entry (function_codes all (functions_of all))
  at_functions = at_program.1.1.1

  -- what begins a function
  starts : (f : Function) (from : ℕ) → DepthsAt code from (function_code all f) → IsAtDepth code from 0
  starts f from depths = by_params f.params f.mark (depths_front code from (head_code all f) _ depths)
    where
      by_params : (ps : List Local) (mark : Option TaskMark) → DepthsAt code from (bound_code f.line 0 ps ++ entered_code all f mark) → IsAtDepth code from 0
      by_params [] None h = h.0
      by_params [] (Some mark) h = h.0
      by_params (p ∷ ps) mark h = h.0

  -- functions are there, and begin with no value
  function_there : (fs : List Function) (from : ℕ) → DepthsAt code from (function_codes all fs) → (f : ℕ) → IsSomething (slice_get fs f) → IsFunction code (slice_get (entries_from all from fs) f)
  function_there [] from depths f h = absurd h
  function_there (g ∷ fs) from depths zero h = starts g from (depths_front code from (function_code all g) _ depths)
  function_there (g ∷ fs) from depths (suc f) h = function_there fs (from + length (function_code all g)) (depths_back code from (function_code all g) _ depths) f h

  there : FunctionsThere all code
  there name f is =
      let found = found_there all 0 0 name f (number_is (item_found all name) f is) in
      let same : f - 0 ≡ f = omega arith in
      subst (λ fs. IsFunction code (slice_get fs f)) (sym low.functions)
      (function_there (functions_of all) first_entry at_functions f (subst (λ j. IsSomething (slice_get (functions_of all) j)) same found.1))

  -- A function

  bound_sound : (line slot : ℕ) (ps : List Local) (pc : ℕ) → Flows code pc (bound_code line slot ps) 0 0
  bound_sound line slot [] pc = flows_none code pc 0
  bound_sound line slot (p ∷ ps) pc =
      flows_then code pc (one line 0 (i.Local slot)) (one line 1 (i.SetLocal slot p.kind) ++ bound_code line (slot + 1) ps) 0 1 0
      (flows_one code pc line 0 0 1 1 (i.Local slot) (record { takes_is = refl; leaves_is = refl; leads_is = refl; enters_is = refl }) (omega arith) (omega arith))
      (flows_then code (pc + 1) (one line 1 (i.SetLocal slot p.kind)) (bound_code line (slot + 1) ps) 1 0 0
      (flows_one code (pc + 1) line 1 1 0 0 (i.SetLocal slot p.kind) (record { takes_is = refl; leaves_is = refl; leads_is = refl; enters_is = refl }) (omega arith) (omega arith))
      (bound_sound line (slot + 1) ps _))

  entered_sound : (f : Function) (mark : Option TaskMark) (pc : ℕ) → DepthsAt code pc (entered_code all f mark) → IsAtDepth code (pc + length (entered_code all f mark) + end_length) 0
      → IsAtDepth code pc 0 × SoundFrom code pc (entered_code all f mark)
  entered_sound f None pc depths body = (depths.0, (skip_sound code pc 0 end_length (pc + 1 + end_length) refl body, tt))
  entered_sound f (Some mark) pc depths body = (
    creation_part.0,
    sound_append code pc creation _ creation_part.1
        (simple_sound code p1 0 0 1 1 (i.Push 0) (record { takes_is = refl; leaves_is = refl; leads_is = refl; enters_is = refl }) (omega arith) (omega arith) rest.1.0, (return_sound code (p1 + 1), tt)),
  )
    where
      creation : List Lined
      creation = created_code all f.params (2 + end_length) mark.clauses f.line

      last : List Lined
      last = one f.line 0 (i.Push 0) ++ one f.line 1 i.Return

      p1 : ℕ
      p1 = pc + length creation

      rest : DepthsAt code p1 last
      rest = depths_back code pc creation last depths

      creation_part : IsAtDepth code pc 0 × SoundFrom code pc creation
      creation_part =
          created_sound all code there f.params (2 + end_length) mark.clauses pc f.line (pc + length (creation ++ last) + end_length) (omega (arith, length-append creation last)) body
          (depths_front code pc creation last depths) rest.0

  function_sound : (f : Function) (from : ℕ) → DepthsAt code from (function_code all f) → IsAtDepth code (body_entry all f from) 0 × SoundFrom code from (function_code all f)
  function_sound f from depths = (
    at_depth code _ _ 0 0 (omega arith) refl body_part.0,
    sound_append code from (head_code all f) _ (sound_append code from bounds (entered_code all f f.mark) bound_part.1 entered_part.1) body_part.1,
  )
    where
      bounds : List Lined
      bounds = bound_code f.line 0 f.params

      p1 : ℕ
      p1 = from + length bounds

      head_depths : DepthsAt code from (bounds ++ entered_code all f f.mark)
      head_depths = depths_front code from (head_code all f) _ depths

      body_part : IsAtDepth code (from + length (head_code all f) + end_length) 0 × SoundFrom code (from + length (head_code all f)) (enclosed_code f.line f.result (body_code all f))
      body_part = enclosed_sound code (codes_in_order (stmt_codes all f.body)) (list_sound all code there f.body) (function_spot f) (from + length (head_code all f)) f.line (depths_back code from (head_code all f) _ depths)

      entered_part : IsAtDepth code p1 0 × SoundFrom code p1 (entered_code all f f.mark)
      entered_part =
          entered_sound f f.mark p1 (depths_back code from bounds _ head_depths)
          (at_depth code _ _ 0 0 (omega (arith, length-append bounds (entered_code all f f.mark))) refl body_part.0)

      bound_part : IsAtDepth code from 0 × SoundFrom code from bounds
      bound_part = bound_sound f.line 0 f.params from (depths_front code from bounds _ head_depths) entered_part.0

  -- Functions

  functions_sound : (fs : List Function) (from : ℕ) → DepthsAt code from (function_codes all fs) → SoundFrom code from (function_codes all fs)
  functions_sound [] from depths = tt
  functions_sound (g ∷ fs) from depths =
      sound_append code from (function_code all g) _ (function_sound g from (depths_front code from (function_code all g) _ depths)).1
      (functions_sound fs (from + length (function_code all g)) (depths_back code from (function_code all g) _ depths))

  body_there : (fs : List Function) (from : ℕ) → DepthsAt code from (function_codes all fs) → (f d : ℕ) → IsAtDepth code d 0 → IsAtDepth code (slice_index_or (bodies_from all from fs) f d) 0
  body_there [] from depths f d h = h
  body_there (g ∷ fs) from depths zero d h = (function_sound g from (depths_front code from (function_code all g) _ depths)).0
  body_there (g ∷ fs) from depths (suc f) d h = body_there fs (from + length (function_code all g)) (depths_back code from (function_code all g) _ depths) f d h

  entries_deep : (fs : List Function) (from : ℕ) → DepthsAt code from (function_codes all fs) → All (λ entry. IsAtDepth code entry 0) (entries_from all from fs)
  entries_deep [] from depths k d less = absurd (omega (arith, less))
  entries_deep (g ∷ fs) from depths zero d less = starts g from (depths_front code from (function_code all g) _ depths)
  entries_deep (g ∷ fs) from depths (suc k) d less =
      entries_deep fs (from + length (function_code all g)) (depths_back code from (function_code all g) _ depths) k d (omega (arith, less))

  -- The whole code

  whole_sound : SoundFrom code 0 (program_code all)
  whole_sound = (
    skip_sound code 0 0 (main_place - 1) main_place (omega (arith, body_behind all (functions_of all) first_entry (main_number all) end_entry (omega arith) (omega arith)))
        (body_there (functions_of all) first_entry at_functions (main_number all) end_entry at_program.1.0),
    (
      simple_sound code 1 0 0 1 1 (i.Push 0) (record { takes_is = refl; leaves_is = refl; leads_is = refl; enters_is = refl }) (omega arith) (omega arith) at_program.1.1.0,
      (return_sound code 2, functions_sound (functions_of all) first_entry at_functions),
    ),
  )
    where
      main_place : ℕ
      main_place = body_place all (main_number all)

  pub code_sound : IsSound code
  code_sound = record {
    lined = ap (λ l. length l) low.lines ∙ length-map (program_code all) _ ∙ sym (ap (λ l. length l) low.instrs ∙ length-map (program_code all) _);
    deep = ap (λ l. length l) low.depths ∙ length-map (program_code all) _ ∙ sym (ap (λ l. length l) low.instrs ∙ length-map (program_code all) _);
    main = at_program.0;
    functions = subst (λ fs. All (λ entry. IsAtDepth code entry 0) fs) (sym low.functions) (entries_deep (functions_of all) first_entry at_functions);
    each = λ at depth what is deep.
        subst (λ q. IsSoundAt code q depth what) (omega arith)
        (sound_at code (program_code all) 0 whole_sound at depth what (sym (ap (λ l. slice_get l at) low.instrs) ∙ is) (sym (ap (λ l. slice_get l at) low.depths) ∙ deep));
  }

pub codes_are_sound : CodesAreSound
codes_are_sound all code low = code_sound all code low
