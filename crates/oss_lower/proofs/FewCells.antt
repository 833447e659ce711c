-- The code of a program that is known has at most 1,048,576 cells.
use Rattle.std.proofs.Common.{◌≡◌, ◌∙◌, ◌≤◌, ℕ, List, length, Result, Ok, Err, refl, sym, ap, arith}
use Rattle.std.specs.Prelude.{IfOk}
use Rattle.std.proofs.Math.Seq.{take-length}
use Rattle.std.specs.List.{sum}
use Rattle.oss_syntax.specs.declared.tree.program.Program.{Program}
use Rattle.oss_grammar.specs.Layout.{cells_in, sizes_of}
use Rattle.oss_meaning.specs.Results.{first_cells}
use Rattle.oss_names.specs.Resolved.{IsWrittenOut, bounds_of}
use Rattle.oss_names.proofs.LayoutLemmas.{bound-fits}
use Rattle.oss_lower_laws.proofs.OutcomeLaws.{cells_are}

pub few_cells : (p : Program) (cells : List ℕ) → IsWrittenOut p → cells ≡ first_cells p.items → length cells ≤ 1048576
few_cells p cells well is =
    let few : cells_in p.items ≤ 1048576 =
    bound-fits p (bounds_of 0 (sizes_of p.items)) well refl (length (sizes_of p.items)) (cells_in p.items) (ap sum (sym (take-length (sizes_of p.items)))) in
    let same : length cells ≡ cells_in p.items = ap length is ∙ cells_are p.items in
    omega (arith, few, same)

pub if_ok : {A E : Type 0} {P Q : A → Type 0} (r : Result A E) → ((a : A) → P a → Q a) → IfOk r P → IfOk r Q
if_ok (Ok a) f p = f a p
if_ok (Err e) f p = p
