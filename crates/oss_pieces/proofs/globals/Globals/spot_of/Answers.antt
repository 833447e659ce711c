use Rattle.std.proofs.Common.{rules, ◌≡◌, ◌≤◌, ◌<◌, ℕ, length, ◌-◌, List, get_or, sym, ◌∙◌, ap, subst, arith, vec_len}
use Rattle.std.specs.Prelude.{slice_index}
use Rattle.std.specs.List.Sorted.{IsNonDecreasing}
use Rattle.oss_syntax.specs.declared.tree.program.GlobalDef.{GlobalDef}
use Rattle.oss_pieces.specs.Begins.{begins_from, name_at, name_in}
use Rattle.oss_pieces.specs.Names.{cell_name}
use Rattle.oss_pieces.specs.Numbered.{globals_of}
use Rattle.oss_pieces.proofs.CellLemmas.{among_globals, as_long, as_many, item_of_map, last_begun, name_among, none_begun, rising, whatever_behind}
use Rattle.oss_pieces.proofs.globals.Globals.spot_of.Goals as goal

-- no number before the last of those that begin is above the cell
none_above : (xs : List ℕ) (n k cell : ℕ) → 1 ≤ n → k ≡ n - 1 → ((j : ℕ) → j < n → slice_index xs j ≤ cell) → (j : ℕ) → j ≤ k → slice_index xs j ≤ cell
none_above xs n k cell some e before j le = before j (omega (arith, e))

all_above : (xs : List ℕ) (n k cell : ℕ) → k ≡ n - 1 → ((j : ℕ) → n ≤ j → j < length xs → cell < slice_index xs j) → (j : ℕ) → k < j → j < length xs → cell < slice_index xs j
all_above xs n k cell e behind j lt there = behind j (omega (arith, e)) there

pub begun-requires : goal.begun-requires
begun-requires c =
    let same : c.as_slice.result.now ≡ begins_from 0 (globals_of c.self.inside.items.now) = c.as_slice.ensures.value ∙ c.self.invariant.1 in
    subst (λ (xs : List ℕ). IsNonDecreasing xs) (sym same) (rising (globals_of c.self.inside.items.now) 0 (omega arith))

pub returns-in_err-number : goal.returns-in_err-number
returns-in_err-number c =
    let same : c.as_slice.result.now ≡ begins_from 0 (globals_of c.self.inside.items.now) = c.as_slice.ensures.value ∙ c.self.invariant.1 in
    let no : 1 ≤ c.begun.result → ⊥ = c.in_err-number.ensures in
    let none : c.begun.result ≡ 0 = omega (arith, no) in
    let behind : (j : ℕ) → 0 ≤ j → j < length (begins_from 0 (globals_of c.self.inside.items.now)) → c.args.cell < slice_index (begins_from 0 (globals_of c.self.inside.items.now)) j =
    subst (λ (xs : List ℕ). (j : ℕ) → 0 ≤ j → j < length xs → c.args.cell < slice_index xs j) same (λ j le there. let h = c.begun.ensures.behind j (omega (arith, none)) there in omega (arith, h, c.from-cell.ensures)) in
    ap name_at c.from_residual.ensures ∙ none_begun (globals_of c.self.inside.items.now) c.args.cell behind ∙ sym (among_globals c.self.inside.items.now c.args.cell) ∙ ap (λ all. cell_name all c.args.cell) c.self.view_is

pub index-global-requires : goal.index-global-requires
index-global-requires c =
    let same : c.as_slice.result.now ≡ begins_from 0 (globals_of c.self.inside.items.now) = c.as_slice.ensures.value ∙ c.self.invariant.1 in
    let size : vec_len c.self.inside.list ≡ length c.self.inside.list.items = search rules in
    let number = c.in_ok-number.ensures in
    omega (arith, c.begun.ensures.there, number.0, number.1, size, ap length same, as_many (globals_of c.self.inside.items.now) 0, ap length c.self.invariant.0, as_long (λ d. d.now) c.self.inside.list.items)

pub returns : goal.returns
returns c =
    let k : ℕ = c.in_ok-number.number in
    let number = c.in_ok-number.ensures in
    let same : c.as_slice.result.now ≡ begins_from 0 (globals_of c.self.inside.items.now) = c.as_slice.ensures.value ∙ c.self.invariant.1 in
    let there : k < length (begins_from 0 (globals_of c.self.inside.items.now)) = omega (arith, c.begun.ensures.there, number.0, number.1, ap length same) in
    let there_too : k < length (globals_of c.self.inside.items.now) = omega (arith, there, as_many (globals_of c.self.inside.items.now) 0) in
    let begin : slice_index (begins_from 0 (globals_of c.self.inside.items.now)) k ≡ c.index-begin.result.now =
    whatever_behind (begins_from 0 (globals_of c.self.inside.items.now)) k 0 c.index-begin.result.now there
    ∙ ap (λ (xs : List ℕ). get_or xs k c.index-begin.result.now) (sym c.self.invariant.1) ∙ sym c.index-begin.ensures in
    let global : c.index-global.result.now.now ≡ get_or (globals_of c.self.inside.items.now) k c.index-global.result.now.now =
    ap (λ b. b.now) c.index-global.ensures ∙ item_of_map (λ b. b.now) c.self.inside.list.items k c.index-global.result.now
    ∙ ap (λ (ds : List GlobalDef). get_or ds k c.index-global.result.now.now) c.self.invariant.0 in
    let before : (j : ℕ) → j ≤ k → slice_index (begins_from 0 (globals_of c.self.inside.items.now)) j ≤ c.from-cell.result =
    subst (λ (xs : List ℕ). (j : ℕ) → j ≤ k → slice_index xs j ≤ c.from-cell.result) same (none_above c.as_slice.result.now c.begun.result k c.from-cell.result number.0 number.1 c.begun.ensures.before) in
    let behind : (j : ℕ) → k < j → j < length (begins_from 0 (globals_of c.self.inside.items.now)) → c.from-cell.result < slice_index (begins_from 0 (globals_of c.self.inside.items.now)) j =
    subst (λ (xs : List ℕ). (j : ℕ) → k < j → j < length xs → c.from-cell.result < slice_index xs j) same (all_above c.as_slice.result.now c.begun.result k c.from-cell.result number.1 c.begun.ensures.behind) in
    let held = last_begun (globals_of c.self.inside.items.now) 0 c.from-cell.result k c.index-global.result.now.now (omega arith) (omega (arith, c.from-cell.ensures, c.ranges.cell.fits)) there_too before behind in
    let whole : c.from-cell.result - 0 ≡ c.from-cell.result = omega arith in
    ap (λ (g : GlobalDef). name_in g (c.from-cell.result - c.index-begin.result.now)) global
    ∙ ap (λ (n : ℕ). name_in (get_or (globals_of c.self.inside.items.now) k c.index-global.result.now.now) (c.from-cell.result - n)) (sym begin)
    ∙ sym held ∙ ap (λ (n : ℕ). name_among (globals_of c.self.inside.items.now) n) whole
    ∙ sym (among_globals c.self.inside.items.now c.from-cell.result)
    ∙ ap (λ all. cell_name all c.from-cell.result) c.self.view_is ∙ ap (λ (n : ℕ). cell_name c.args.self.now n) c.from-cell.ensures
