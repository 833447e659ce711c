use Rattle.std.proofs.Common.{◌≡◌, sym, subst, ℕ, ◌+◌, ◌%◌, ◌^◌, arith, length}
use Rattle.std.specs.Prelude.{bit_and, bit_or, bit_xor}
use Rattle.oss_syntax.specs.declared.access.Op.{Op}
use Rattle.oss_syntax.specs.declared.access.Op.TheVariants.{Add, And, Or, Xor}
use Rattle.oss_field.specs.Folding.{MayCombine, combined}
use Rattle.oss_field.specs.Steps.{Steps}
use Rattle.oss_field.proofs.FoldCellLemmas.{combines}
use Rattle.oss_field.proofs.folding.combine_cell.Goals as goal

pub fold_add-requires-clause-inside : goal.fold_add-requires-clause-inside
fold_add-requires-clause-inside c = let i = c.cell_place-word.ensures in let w = c.requires.on.words in let m = c.requires.cells in let l = c.requires.may.inside in omega (arith, i, w, m, l)

pub fold_add-requires-clause-keeps : goal.fold_add-requires-clause-keeps
fold_add-requires-clause-keeps c =
    let key = c.args.words.now.key in
    let id = c.args.seat.now.id in
    let v = c.args.seat.now.me.0 in
    subst (λ (i : ℕ). Steps key.code.value key.fuel key.entries id v i (λ x. (x + c.args.value) % 2 ^ 64) (λ x l. l ≡ combined c.args.entry c.args.cell x v.known)) (sym c.cell_place-word.ensures)
    (combines key.code.value key.fuel key.entries id v c.args.entry c.args._info Add c.args.cell c.args.value
    (subst (λ (o : Op). MayCombine (length key.code.value.first) v.known c.args.entry c.args._info o c.args.cell c.args.value) c.in-Add.is
    (subst (λ (m : ℕ). MayCombine m v.known c.args.entry c.args._info c.args.op c.args.cell c.args.value) c.requires.cells c.requires.may)))

pub fold_and-requires-clause-inside : goal.fold_and-requires-clause-inside
fold_and-requires-clause-inside c = let i = c.cell_place-word.ensures in let w = c.requires.on.words in let m = c.requires.cells in let l = c.requires.may.inside in omega (arith, i, w, m, l)

pub fold_and-requires-clause-keeps : goal.fold_and-requires-clause-keeps
fold_and-requires-clause-keeps c =
    let key = c.args.words.now.key in
    let id = c.args.seat.now.id in
    let v = c.args.seat.now.me.0 in
    subst (λ (i : ℕ). Steps key.code.value key.fuel key.entries id v i (λ x. bit_and x c.args.value) (λ x l. l ≡ combined c.args.entry c.args.cell x v.known)) (sym c.cell_place-word.ensures)
    (combines key.code.value key.fuel key.entries id v c.args.entry c.args._info And c.args.cell c.args.value
    (subst (λ (o : Op). MayCombine (length key.code.value.first) v.known c.args.entry c.args._info o c.args.cell c.args.value) c.in-And.is
    (subst (λ (m : ℕ). MayCombine m v.known c.args.entry c.args._info c.args.op c.args.cell c.args.value) c.requires.cells c.requires.may)))

pub fold_or-requires-clause-inside : goal.fold_or-requires-clause-inside
fold_or-requires-clause-inside c = let i = c.cell_place-word.ensures in let w = c.requires.on.words in let m = c.requires.cells in let l = c.requires.may.inside in omega (arith, i, w, m, l)

pub fold_or-requires-clause-keeps : goal.fold_or-requires-clause-keeps
fold_or-requires-clause-keeps c =
    let key = c.args.words.now.key in
    let id = c.args.seat.now.id in
    let v = c.args.seat.now.me.0 in
    subst (λ (i : ℕ). Steps key.code.value key.fuel key.entries id v i (λ x. bit_or x c.args.value) (λ x l. l ≡ combined c.args.entry c.args.cell x v.known)) (sym c.cell_place-word.ensures)
    (combines key.code.value key.fuel key.entries id v c.args.entry c.args._info Or c.args.cell c.args.value
    (subst (λ (o : Op). MayCombine (length key.code.value.first) v.known c.args.entry c.args._info o c.args.cell c.args.value) c.in-Or.is
    (subst (λ (m : ℕ). MayCombine m v.known c.args.entry c.args._info c.args.op c.args.cell c.args.value) c.requires.cells c.requires.may)))

pub fold_xor-requires-clause-inside : goal.fold_xor-requires-clause-inside
fold_xor-requires-clause-inside c = let i = c.cell_place-word.ensures in let w = c.requires.on.words in let m = c.requires.cells in let l = c.requires.may.inside in omega (arith, i, w, m, l)

pub fold_xor-requires-clause-keeps : goal.fold_xor-requires-clause-keeps
fold_xor-requires-clause-keeps c =
    let key = c.args.words.now.key in
    let id = c.args.seat.now.id in
    let v = c.args.seat.now.me.0 in
    subst (λ (i : ℕ). Steps key.code.value key.fuel key.entries id v i (λ x. bit_xor x c.args.value) (λ x l. l ≡ combined c.args.entry c.args.cell x v.known)) (sym c.cell_place-word.ensures)
    (combines key.code.value key.fuel key.entries id v c.args.entry c.args._info Xor c.args.cell c.args.value
    (subst (λ (o : Op). MayCombine (length key.code.value.first) v.known c.args.entry c.args._info o c.args.cell c.args.value) c.in-Xor.is
    (subst (λ (m : ℕ). MayCombine m v.known c.args.entry c.args._info c.args.op c.args.cell c.args.value) c.requires.cells c.requires.may)))
