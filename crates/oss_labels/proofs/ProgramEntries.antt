-- The creations in the code of a program lead to where the bodies of its task functions and of its task statements begin, which are different places.
use Rattle.std.proofs.Common.{◌≡◌, ◌∙◌, ◌⊎◌, inl, inr, ℕ, zero, suc, ◌+◌, ◌<◌, ◌≤◌, List, [], ◌∷◌, ◌++◌, length, Option, Some, None, refl, sym, ap, subst, arith, length-append, append_assoc}
use Rattle.std.specs.Prelude.{slice_get, slice_index_or}
use Rattle.oss_syntax.specs.declared.tree.pragma.TaskMark.{TaskMark}
use Rattle.oss_syntax.specs.declared.tree.program.Function.{Function}
use Rattle.oss_syntax.specs.declared.tree.program.Item.{Item}
use Rattle.oss_syntax.specs.declared.tree.program.Local.{Local}
use Rattle.oss_code.specs.declared.instr.Instr.TheVariants as i
use Rattle.oss_lower_laws.specs.ExpressionCode.{one}
use Rattle.oss_lower_laws.specs.SectionCode.{created_code}
use Rattle.oss_lower_laws.specs.StatementCode.{enclosed_code, end_length, entries_in_order, stmt_codes}
use Rattle.oss_lower_laws.specs.Lowered.{bodies_from, body_code, body_entry, bound_code, entered_code, function_code, function_codes, function_spot, head_code, statements_from}
use Rattle.oss_labels.specs.Creations.{labels_in_code, marked}
use Rattle.oss_labels.specs.Labels.{StmtLabels, body_labels, function_label, label_in, mark_label, statement_labels}
use Rattle.oss_labels.proofs.CreatedLists.{IsPlain, made, made_append, made_before, made_behind, plain_none, plain_one, plain_then}
use Rattle.oss_labels.proofs.EntryLists.{Agrees, Apart, Label, NotIn, Paired, Rising, apart_both, apart_within, not_above, not_below, not_in_both, paired_left, paired_right, paired_split, rising_both, rising_within}
use Rattle.oss_labels.proofs.PlainSections.{created_made}
use Rattle.oss_labels.proofs.StatementEntries.{Stands, body_stands, enclosed_long, enclosed_made}

-- what a task function is created by: its creation leads to its body, which begins here
abbrev entered_at : Option TaskMark → ℕ → List ℕ
entered_at None entry = []
entered_at (Some mark) entry = entry ∷ []

-- A pragma gives the body that begins here this label.
abbrev MarksHere : Option TaskMark → ℕ → ℕ → Label → Type 0
MarksHere None at e l = ⊥
MarksHere (Some mark) at e l = (at ≡ e) × (label_in mark.clauses ≡ l)

bound_plain : (line slot : ℕ) (ps : List Local) → IsPlain (bound_code line slot ps)
bound_plain line slot [] = plain_none
bound_plain line slot (p ∷ ps) = plain_then (plain_one line 0 (i.Local slot) (λ at. refl)) (plain_then (plain_one line 1 (i.SetLocal slot p.kind) (λ at. refl)) (bound_plain line (slot + 1) ps))

either : {A B C : Type 0} → (A → C) → (B → C) → A ⊎ B → C
either f g (inl a) = f a
either f g (inr b) = g b

module _ (all : List Item) where
  -- Functions

  -- where the bodies of the task statements of a function begin, which begins here
  abbrev own_entries : Function → ℕ → List ℕ
  own_entries f at = entries_in_order (stmt_codes all f.body) (function_spot f) (body_entry all f at)

  own_stands : (f : Function) (at : ℕ) → Stands (body_entry all f at) (body_code all f) (own_entries f at) (body_labels f.body)
  own_stands f at = body_stands all f.body (function_spot f) (body_entry all f at)

  entered_made : (f : Function) (o : Option TaskMark) (at entry : ℕ) → entry ≡ at + length (entered_code all f o) + end_length → made at (entered_code all f o) ≡ entered_at o entry
  entered_made f None at entry e = refl
  entered_made f (Some mark) at entry e =
      let creation = created_code all f.params (2 + end_length) mark.clauses f.line in
      let last = one f.line 0 (i.Push 0) ++ one f.line 1 i.Return in
      made_before at creation last (plain_then (plain_one f.line 0 (i.Push 0) (λ p. refl)) (plain_one f.line 1 i.Return (λ p. refl)))
      ∙ created_made all f.params (2 + end_length) mark.clauses f.line at entry (omega (arith, e, length-append creation last))

  function_made : (f : Function) (at : ℕ) → made at (function_code all f) ≡ entered_at f.mark (body_entry all f at) ++ made (body_entry all f at) (body_code all f)
  function_made f at =
      let bounds = bound_code f.line 0 f.params in
      let entered = entered_code all f f.mark in
      let from = at + length bounds in
      let to = at + length (head_code all f) in
      let entry = body_entry all f at in
      let long : length (head_code all f) ≡ length bounds + length entered = length-append bounds entered in
      made_append at to (head_code all f) (enclosed_code f.line f.result (body_code all f)) refl
      ∙ ap (λ ms. ms ++ made to (enclosed_code f.line f.result (body_code all f))) (made_behind at from bounds entered refl (bound_plain f.line 0 f.params) ∙ entered_made f f.mark from entry (omega (arith, long)))
      ∙ ap (λ ms. entered_at f.mark entry ++ ms) (enclosed_made f.line f.result (body_code all f) to entry (omega arith))

  -- the body of a function begins in it, and behind its end nothing of it stands
  function_long : (f : Function) (at : ℕ) → body_entry all f at + length (body_code all f) + end_length ≡ at + length (function_code all f)
  function_long f at = omega (arith, length-append (head_code all f) (enclosed_code f.line f.result (body_code all f)), enclosed_long f.line f.result (body_code all f))

  entered_rises : (o : Option TaskMark) (from entry : ℕ) → from ≤ entry → Rising from (entry + 1) (entered_at o entry)
  entered_rises None from entry le = tt
  entered_rises (Some mark) from entry le = (le, omega arith, tt)

  entered_long : (o : Option TaskMark) (entry : ℕ) → length (entered_at o entry) ≡ length (marked o)
  entered_long None entry = refl
  entered_long (Some mark) entry = refl

  entered_forth : (o : Option TaskMark) (entry e : ℕ) (l : Label) → Paired (entered_at o entry) (marked o) e l → MarksHere o entry e l
  entered_forth None entry e l p = p
  entered_forth (Some mark) entry e l p = either (λ q. q) (λ q. absurd q) p

  entered_back : (o : Option TaskMark) (entry e : ℕ) (l : Label) → MarksHere o entry e l → Paired (entered_at o entry) (marked o) e l
  entered_back None entry e l p = p
  entered_back (Some mark) entry e l p = inl p

  -- Programs

  -- One of these functions, the first of which begins here, is a task function whose body begins there, and has this label.
  abbrev pub Marks : ℕ → List Function → ℕ → Label → Type 0
  Marks from [] e l = ⊥
  Marks from (f ∷ rest) e l = MarksHere f.mark (body_entry all f from) e l ⊎ Marks (from + length (function_code all f)) rest e l

  -- The creations of functions lead to their bodies and to those of the task statements in them.
  pub record AllAgree (from : ℕ) (fs : List Function) : Type 0 where
    pub coded : length (made from (function_codes all fs)) ≡ length (labels_in_code fs)
    pub numbered : length (statements_from all from fs) ≡ length (statement_labels fs)
    pub forth : (e : ℕ) (l : Label) → Paired (made from (function_codes all fs)) (labels_in_code fs) e l → Marks from fs e l ⊎ Paired (statements_from all from fs) (statement_labels fs) e l
    pub marks : (e : ℕ) (l : Label) → Marks from fs e l → Paired (made from (function_codes all fs)) (labels_in_code fs) e l
    pub statements : (e : ℕ) (l : Label) → Paired (statements_from all from fs) (statement_labels fs) e l → Paired (made from (function_codes all fs)) (labels_in_code fs) e l
    pub rising : Rising from (from + length (function_codes all fs)) (made from (function_codes all fs))
    pub apart : Apart from (from + length (function_codes all fs)) (statements_from all from fs)

  module _ (f : Function) (fs : List Function) (from next : ℕ) (n : next ≡ from + length (function_code all f)) (rest : AllAgree next fs) where
    abbrev entry : ℕ
    entry = body_entry all f from

    abbrev here : List ℕ
    here = entered_at f.mark entry

    abbrev inside : List ℕ
    inside = made entry (body_code all f)

    abbrev behind : List ℕ
    behind = made next (function_codes all fs)

    abbrev own : List ℕ
    own = own_entries f from

    abbrev others : List ℕ
    others = statements_from all next fs

    abbrev ls : StmtLabels
    ls = body_labels f.body

    abbrev all_labels : List Label
    all_labels = marked f.mark ++ (ls.in_code ++ labels_in_code fs)

    agrees : Agrees (entry + 1) (entry + length (body_code all f)) inside own ls
    agrees = own_stands f from

    abbrev Made : List ℕ → Type 0
    Made ms = made from (function_codes all (f ∷ fs)) ≡ ms

    made_is : Made (here ++ (inside ++ behind))
    made_is =
        made_append from next (function_code all f) (function_codes all fs) n
        ∙ ap (λ ms. ms ++ behind) (function_made f from)
        ∙ append_assoc here inside behind

    bounds : (from ≤ entry) × (entry + length (body_code all f) ≤ next)
    bounds = (omega arith, omega (arith, n, function_long f from))

    whole_long : next + length (function_codes all fs) ≡ from + length (function_codes all (f ∷ fs))
    whole_long = omega (arith, n, length-append (function_code all f) (function_codes all fs))

    abbrev top : ℕ
    top = from + length (function_codes all (f ∷ fs))

    all_forth : (e : ℕ) (l : Label) → Paired (here ++ (inside ++ behind)) all_labels e l → Marks from (f ∷ fs) e l ⊎ Paired (own ++ others) (ls.in_text ++ statement_labels fs) e l
    all_forth e l p =
        either (λ q. inl (inl (entered_forth f.mark entry e l q)))
        (λ q. either (λ r. inr (paired_left own others ls.in_text (statement_labels fs) e l (agrees.forth e l r)))
        (λ r. either (λ m. inl (inr (subst (λ k. Marks k fs e l) n m))) (λ s. inr (paired_right own others ls.in_text (statement_labels fs) e l agrees.numbered s)) (rest.forth e l r))
        (paired_split inside behind ls.in_code (labels_in_code fs) e l agrees.coded q))
        (paired_split here (inside ++ behind) (marked f.mark) (ls.in_code ++ labels_in_code fs) e l (entered_long f.mark entry) p)

    first_of_all : (e : ℕ) (l : Label) → Paired here (marked f.mark) e l → Paired (here ++ (inside ++ behind)) all_labels e l
    first_of_all e l p = paired_left here (inside ++ behind) (marked f.mark) (ls.in_code ++ labels_in_code fs) e l p

    inside_of_all : (e : ℕ) (l : Label) → Paired inside ls.in_code e l → Paired (here ++ (inside ++ behind)) all_labels e l
    inside_of_all e l p =
        paired_right here (inside ++ behind) (marked f.mark) (ls.in_code ++ labels_in_code fs) e l (entered_long f.mark entry) (paired_left inside behind ls.in_code (labels_in_code fs) e l p)

    behind_of_all : (e : ℕ) (l : Label) → Paired behind (labels_in_code fs) e l → Paired (here ++ (inside ++ behind)) all_labels e l
    behind_of_all e l p =
        paired_right here (inside ++ behind) (marked f.mark) (ls.in_code ++ labels_in_code fs) e l (entered_long f.mark entry)
        (paired_right inside behind ls.in_code (labels_in_code fs) e l agrees.coded p)

    all_marks : (e : ℕ) (l : Label) → Marks from (f ∷ fs) e l → Paired (here ++ (inside ++ behind)) all_labels e l
    all_marks e l (inl m) = first_of_all e l (entered_back f.mark entry e l m)
    all_marks e l (inr m) = behind_of_all e l (rest.marks e l (subst (λ k. Marks k fs e l) (sym n) m))

    all_statements : (e : ℕ) (l : Label) → Paired (own ++ others) (ls.in_text ++ statement_labels fs) e l → Paired (here ++ (inside ++ behind)) all_labels e l
    all_statements e l p =
        either (λ q. inside_of_all e l (agrees.back e l q)) (λ q. behind_of_all e l (rest.statements e l q))
        (paired_split own others ls.in_text (statement_labels fs) e l agrees.numbered p)

    all_rise : Rising from top (here ++ (inside ++ behind))
    all_rise =
        rising_both from (entry + 1) (entry + 1) top here (inside ++ behind) (omega (arith, bounds.0)) (omega arith) (omega (arith, bounds.1, whole_long, function_long f from, n))
        (entered_rises f.mark from entry bounds.0)
        (rising_both (entry + 1) (entry + length (body_code all f)) next top inside behind (omega (arith, function_long f from, n)) bounds.1 (omega (arith, bounds.1, whole_long))
        agrees.rising (rising_within next (next + length (function_codes all fs)) next top behind (omega arith) (omega (arith, whole_long)) rest.rising))

    all_apart : Apart from top (own ++ others)
    all_apart =
        apart_both from (entry + length (body_code all f)) next top own others (omega (arith, n)) bounds.1 (omega (arith, bounds.1, whole_long))
        (apart_within (entry + 1) (entry + length (body_code all f)) from (entry + length (body_code all f)) own (omega (arith, bounds.0)) (omega arith) agrees.apart)
        (apart_within next (next + length (function_codes all fs)) next top others (omega arith) (omega (arith, whole_long)) rest.apart)

    one_more : AllAgree from (f ∷ fs)
    one_more = record {
      coded = ap length made_is
          ∙ omega (
            arith,
            length-append here (inside ++ behind),
            length-append inside behind,
            length-append (marked f.mark) (ls.in_code ++ labels_in_code fs),
            length-append ls.in_code (labels_in_code fs),
            entered_long f.mark entry,
            agrees.coded,
            rest.coded,
          );
      numbered = ap (λ k. length (own ++ statements_from all k fs)) (sym n) ∙ omega (arith, length-append own others, length-append ls.in_text (statement_labels fs), agrees.numbered, rest.numbered);
      forth = λ e l p. subst (λ k. Marks from (f ∷ fs) e l ⊎ Paired (own ++ statements_from all k fs) (ls.in_text ++ statement_labels fs) e l) n (all_forth e l (subst (λ ms. Paired ms all_labels e l) made_is p));
      marks = λ e l m. subst (λ ms. Paired ms all_labels e l) (sym made_is) (all_marks e l m);
      statements = λ e l p.
          subst (λ ms. Paired ms all_labels e l) (sym made_is) (all_statements e l (subst (λ k. Paired (own ++ statements_from all k fs) (ls.in_text ++ statement_labels fs) e l) (sym n) p));
      rising = subst (λ ms. Rising from top ms) (sym made_is) all_rise;
      apart = subst (λ k. Apart from top (own ++ statements_from all k fs)) n all_apart;
    }

  pub all_agree : (fs : List Function) (from : ℕ) → AllAgree from fs
  all_agree [] from = record { coded = refl; numbered = refl; forth = λ e l p. absurd p; marks = λ e l m. m; statements = λ e l p. p; rising = tt; apart = tt }
  all_agree (f ∷ fs) from = one_more f fs from (from + length (function_code all f)) refl (all_agree fs (from + length (function_code all f)))

  -- Where bodies begin

  body_within : (f : Function) (from : ℕ) → (from ≤ body_entry all f from) × (body_entry all f from < from + length (function_code all f))
  body_within f from = (omega arith, omega (arith, function_long f from))

  pub bodies_apart : (fs : List Function) (from : ℕ) → Apart from (from + length (function_codes all fs)) (bodies_from all from fs)
  bodies_apart [] from = tt
  bodies_apart (f ∷ fs) from =
      let next = from + length (function_code all f) in
      let whole = length-append (function_code all f) (function_codes all fs) in
      let inside = body_within f from in
      let rest = bodies_apart fs next in (
        inside.0,
        omega (arith, inside.1, whole),
        not_below (body_entry all f from) next (next + length (function_codes all fs)) (bodies_from all next fs) inside.1 rest,
        apart_within next (next + length (function_codes all fs)) from (from + length (function_codes all (f ∷ fs))) (bodies_from all next fs) (omega arith) (omega (arith, whole)) rest,
      )

  bodies_behind : (fs : List Function) (from k d : ℕ) → k < length (bodies_from all from fs) → from ≤ slice_index_or (bodies_from all from fs) k d
  bodies_behind [] from k d less = absurd (omega (arith, less))
  bodies_behind (f ∷ fs) from zero d less = (body_within f from).0
  bodies_behind (f ∷ fs) from (suc k) d less = omega (arith, bodies_behind fs (from + length (function_code all f)) k d (omega (arith, less)))

  -- no body of a function begins where that of a task statement does
  pub never_both : (fs : List Function) (from number d : ℕ) → number < length (bodies_from all from fs) → NotIn (slice_index_or (bodies_from all from fs) number d) (statements_from all from fs)
  never_both [] from number d less = absurd (omega (arith, less))
  never_both (f ∷ fs) from zero d less =
      let next = from + length (function_code all f) in
      let entry = body_entry all f from in
      not_in_both entry (own_entries f from) (statements_from all next fs)
      (not_below entry (entry + 1) (entry + length (body_code all f)) (own_entries f from) (omega arith) (own_stands f from).apart)
      (not_below entry next (next + length (function_codes all fs)) (statements_from all next fs) (body_within f from).1 (all_agree fs next).apart)
  never_both (f ∷ fs) from (suc number) d less =
      let next = from + length (function_code all f) in
      let entry = body_entry all f from in
      let body = slice_index_or (bodies_from all next fs) number d in
      let there : number < length (bodies_from all next fs) = omega (arith, less) in
      not_in_both body (own_entries f from) (statements_from all next fs)
      (not_above body (entry + 1) (entry + length (body_code all f)) (own_entries f from) (omega (arith, function_long f from, bodies_behind fs next number d there)) (own_stands f from).apart)
      (never_both fs next number d there)

  -- Labels of task functions

  -- there are as many bodies of functions as functions
  pub bodies_long : (fs : List Function) (from : ℕ) → length (bodies_from all from fs) ≡ length fs
  bodies_long [] from = refl
  bodies_long (f ∷ fs) from = omega (arith, bodies_long fs (from + length (function_code all f)))

  -- Such a function has a number.
  pub record IsNumbered (fs : List Function) (from e : ℕ) (l : Label) : Type 0 where
    pub number : ℕ
    pub there : number < length fs
    pub entry_is : (d : ℕ) → slice_index_or (bodies_from all from fs) number d ≡ e
    pub label_is : function_label (slice_get fs number) ≡ l

  marks_here : (o : Option TaskMark) (at e : ℕ) (l : Label) → MarksHere o at e l → (at ≡ e) × (mark_label o ≡ l)
  marks_here None at e l h = absurd h
  marks_here (Some mark) at e l h = h

  pub numbered_of : (fs : List Function) (from e : ℕ) (l : Label) → Marks from fs e l → IsNumbered fs from e l
  numbered_of [] from e l h = absurd h
  numbered_of (f ∷ fs) from e l (inl h) =
      let h2 = marks_here f.mark (body_entry all f from) e l h in
      record { number = 0; there = omega arith; entry_is = λ d. h2.0; label_is = h2.1 }
  numbered_of (f ∷ fs) from e l (inr h) =
      let more = numbered_of fs (from + length (function_code all f)) e l h in
      record { number = suc more.number; there = omega (arith, more.there); entry_is = more.entry_is; label_is = more.label_is }

  marked_here : (o : Option TaskMark) (at : ℕ) (text : List ℕ) → mark_label o ≡ Some text → MarksHere o at at (Some text)
  marked_here None at text e = absurd (cc)
  marked_here (Some mark) at text e = (refl, e)

  pub marks_of : (fs : List Function) (from number d : ℕ) (text : List ℕ) → function_label (slice_get fs number) ≡ Some text → Marks from fs (slice_index_or (bodies_from all from fs) number d) (Some text)
  marks_of [] from number d text e = absurd (cc)
  marks_of (f ∷ fs) from zero d text e = inl (marked_here f.mark (body_entry all f from) text e)
  marks_of (f ∷ fs) from (suc number) d text e = inr (marks_of fs (from + length (function_code all f)) number d text e)
