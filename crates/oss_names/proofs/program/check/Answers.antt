use Rattle.std.proofs.lemmas.Grind.{common_steps}
use Rattle.std.proofs.Common.{◌≡◌, ◌+◌, ◌++◌, ◌∙◌, [], ◌∷◌, Some, None, Err, ap, arith, drop, rules, subst, sym}
use Rattle.oss_syntax.specs.declared.refusal.Refusal.TheVariants as refusal
use Rattle.oss_grammar.specs.Broken.{first}
use Rattle.oss_grammar.specs.Layout.{cells_of, sizes_of}
use Rattle.oss_grammar.specs.ProgramRules.{function_rules, global_rules, has_main, items_rules}
use Rattle.oss_grammar.specs.Scopes.{or_else}
use Rattle.oss_names.specs.PartChecks.{TellsFirst}
use Rattle.oss_names.specs.Resolved.{IsChecked, bounds_of}
use Rattle.oss_names.proofs.EndLemmas.{tells-before}
use Rattle.oss_types.proofs.Firsts.{first-append, part-whole}
use Rattle.oss_names.proofs.ProgramLemmas.{all-well, bounds-more, checked-err, function-left, global-cells, global-left, main-missing, sizes-function, sizes-global}
use Rattle.oss_names.proofs.program.check.Goals as goal
use Rattle.oss_names.proofs.program.check.Goals.{in-Global+in-None+in-Ok-note, in-Function+in_ok-check_function-in-Function}

pub returns-in-Some : goal.returns-in-Some
returns-in-Some c =
    let q = c.args.program.now in
    let xs = c.as_slice-items.result.now in
    let p = c.loop-item.place in
    let n = c.loop-item.cells in
    let i = c.loop-item.item-index in
    let g = c.in-Global.global in
    let here : first (global_rules xs p n g) ≡ Some c.in-Some.broken = ap (λ all. first (global_rules all p n g)) (sym c.in-Ok.ensures) ∙ sym c.refusal_of_global.ensures ∙ c.in-Some.is in
    let rest = items_rules xs (p + 1) (n + cells_of g.cells) (drop (i + 1) xs) in
    let same : first (global_rules xs p n g ++ rest) ≡ first (items_rules q.items 0 0 q.items) =
    first-append (global_rules xs p n g) rest ∙ sym (global-left xs xs p n i c.item-item.result c.loop-item-test.true c.item-item.is g c.in-Global.is) ∙ c.loop-item.invariant.same ∙ ap (λ ys. first (items_rules ys 0 0 ys)) c.as_slice-items.ensures in
    checked-err q (refusal.Refused c.in-Some.broken) (global_rules xs p n g ++ rest) same (first-append (global_rules xs p n g) rest ∙ ap (λ o. or_else o (first rest)) here)

pub returns-in_err-check_function-in-Function : goal.returns-in_err-check_function-in-Function
returns-in_err-check_function-in-Function c =
    let q = c.args.program.now in
    let xs = c.as_slice-items.result.now in
    let p = c.loop-item.place in
    let n = c.loop-item.cells in
    let i = c.loop-item.item-index in
    let f = c.in-Function.function in
    let e = c.in_err-check_function-in-Function.field-0.0 in
    let handed : c.from_residual.result ≡ Err e = search rules in
    let here : TellsFirst {U = Unit {0}} (function_rules xs p f) (Err e) = subst (λ all. TellsFirst {U = Unit {0}} (function_rules all p f) (Err e)) c.in-Ok.ensures c.in_err-check_function-in-Function.ensures in
    let rest = items_rules xs (p + 1) n (drop (i + 1) xs) in
    let same : first (function_rules xs p f ++ rest) ≡ first (items_rules q.items 0 0 q.items) =
    ap first (sym (function-left xs xs p n i c.item-item.result c.loop-item-test.true c.item-item.is f c.in-Function.is)) ∙ c.loop-item.invariant.same ∙ ap (λ ys. first (items_rules ys 0 0 ys)) c.as_slice-items.ensures in
    subst (IsChecked q) (sym handed) (checked-err q e (function_rules xs p f ++ rest) same (tells-before (Unit {0}) (Unit {0}) (function_rules xs p f) rest e here))

pub loop-item-preserved : goal.loop-item-preserved
loop-item-preserved c =
    let xs = c.as_slice-items.result.now in
    let p = c.loop-item.place in
    let n = c.loop-item.cells in
    let i = c.loop-item.item-index in
    let item = c.item-item.result in
    let within = c.loop-item-test.true in
    let at = c.item-item.is in
    let whole = first (items_rules xs 0 0 xs) in
    let left = first (items_rules xs p n (drop i xs)) in
    let old = c.loop-item.bounds.items in
    elim c.match-item.branch [
      | in-Global+in-None+in-Ok-note w ↦
          let g = w.in-Global.global in
          let size = cells_of g.cells in
          let rest = drop (i + 1) xs in
          let none : first (global_rules xs p n g) ≡ None = ap (λ all. first (global_rules all p n g)) (sym c.in-Ok.ensures) ∙ sym w.refusal_of_global.ensures ∙ w.in-None.is in
          let more : c.match-item.cells ≡ n + size = w.cells-is ∙ w.behind-cells.ensures in
          let bounds : c.match-item.bounds.items ≡ old ++ n ∷ [] = ap (λ b. b.items) w.bounds-is ∙ w.in-Ok-note.ensures.added in
          record {
            same = ap (λ k. first (items_rules xs (p + 1) k rest)) more
                ∙ part-whole whole left (first (global_rules xs p n g)) (first (items_rules xs (p + 1) (n + size) rest)) c.loop-item.invariant.same (global-left xs xs p n i item within at g w.in-Global.is) none;
            lie = ap (λ k. c.match-item.bounds.items ++ bounds_of k (sizes_of rest)) more
                ∙ bounds-more old c.match-item.bounds.items n size (sizes_of rest) (bounds_of 0 (sizes_of xs)) bounds (ap (λ ss. old ++ bounds_of n ss) (sym (sizes-global xs xs p n i item within at g w.in-Global.is)) ∙ c.loop-item.invariant.lie);
            counted = ap (λ k. k + 1) c.loop-item.invariant.counted;
            few = let small = (global-cells xs p n g none).1 in omega (arith, small, more);
          }
      | in-Function+in_ok-check_function-in-Function w ↦
          let f = w.in-Function.function in
          let rest = drop (i + 1) xs in
          let none : first (function_rules xs p f) ≡ None = ap (λ all. first (function_rules all p f)) (sym c.in-Ok.ensures) ∙ w.in_ok-check_function-in-Function.ensures in
          record {
            same = ap (λ k. first (items_rules xs (p + 1) k rest)) w.cells-is
                ∙ part-whole whole left (first (function_rules xs p f)) (first (items_rules xs (p + 1) n rest)) c.loop-item.invariant.same
                (ap first (function-left xs xs p n i item within at f w.in-Function.is) ∙ first-append (function_rules xs p f) (items_rules xs (p + 1) n rest)) none;
            lie = ap (λ k. c.match-item.bounds.items ++ bounds_of k (sizes_of rest)) w.cells-is ∙ ap (λ b. b.items ++ bounds_of n (sizes_of rest)) w.bounds-is
                ∙ ap (λ ss. old ++ bounds_of n ss) (sym (sizes-function xs xs p n i item within at f w.in-Function.is)) ∙ c.loop-item.invariant.lie;
            counted = ap (λ k. k + 1) c.loop-item.invariant.counted;
            few = let small = c.loop-item.invariant.few in omega (arith, small, w.cells-is);
          }
    ]

pub returns-then-not-has_a_main : goal.returns-then-not-has_a_main
returns-then-not-has_a_main c =
    let q = c.args.program.now in
    let xs = c.as_slice-items.result.now in
    let none : drop c.loop-item.item-index xs ≡ [] = grind (arith, common_steps) in
    let well : first (items_rules q.items 0 0 q.items) ≡ None =
    ap (λ ys. first (items_rules ys 0 0 ys)) (sym c.as_slice-items.ensures) ∙ sym c.loop-item.invariant.same ∙ ap (λ ys. first (items_rules xs c.loop-item.place c.loop-item.cells ys)) none in
    main-missing q well (ap has_main (sym c.as_slice-items.ensures) ∙ sym c.has_a_main.ensures ∙ c.if-not-has_a_main.true) ∙ ap Some (sym c.refused.ensures)

pub returns-in-Ok-note-2 : goal.returns-in-Ok-note-2
returns-in-Ok-note-2 c =
    let q = c.args.program.now in
    let xs = c.as_slice-items.result.now in
    let none : drop c.loop-item.item-index xs ≡ [] = grind (arith, common_steps) in
    let well : first (items_rules q.items 0 0 q.items) ≡ None =
    ap (λ ys. first (items_rules ys 0 0 ys)) (sym c.as_slice-items.ensures) ∙ sym c.loop-item.invariant.same ∙ ap (λ ys. first (items_rules xs c.loop-item.place c.loop-item.cells ys)) none in (
      all-well q well (ap has_main (sym c.as_slice-items.ensures) ∙ sym c.has_a_main.ensures ∙ c.if-not-has_a_main.false),
      c.in-Ok-note-2.ensures.added ∙ ap (λ ys. c.loop-item.bounds.items ++ bounds_of c.loop-item.cells (sizes_of ys)) (sym none) ∙ c.loop-item.invariant.lie ∙ ap (λ ys. bounds_of 0 (sizes_of ys)) c.as_slice-items.ensures,
    )
