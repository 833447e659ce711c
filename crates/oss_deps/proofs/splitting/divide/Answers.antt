use Rattle.std.proofs.Common.{sym, ap, ◌∙◌, List, ◌++◌, ◌∷◌, [], length, set, arith}
use Rattle.std.specs.Prelude.{slice_get}
use Rattle.oss_deps.specs.declared.column.Column.{Column}
use Rattle.oss_deps.proofs.Basics.{same_at}
use Rattle.oss_deps.proofs.AskLemmas.{column_read}
use Rattle.oss_deps.proofs.DivideLemmas.{assigned_as, inside_ends, inside_within, divided_of}
use Rattle.oss_deps.proofs.splitting.divide.Goals as goal

pub returns-clause-ok : goal.returns-clause-ok
returns-clause-ok c =
    let part = c.in_ok-part.ensures in
    divided_of c.args.map.now.pieces c.args.columns.now.items c.assign.new.self.pieces c.push_reserved.new.self.items c.args.at c.args.cell c.index_mut.result.now c.in_ok-part.part
    (ap (λ (xs : List Column). slice_get xs c.args.at) (sym c.reserve-2.ensures.items) ∙ (column_read c.reserve-2.new.self.items c.args.at c.index_mut.result.now (omega (arith, (inside_within c.args.map.now.pieces c.args.columns.now.items c.args.at c.args.cell c.requires.stretches c.requires.here), ap length c.reserve-2.ensures.items)) c.index_mut.ensures.value)) (c.requires.begins c.index_mut.result.now (ap (λ (xs : List Column). slice_get xs c.args.at) (sym c.reserve-2.ensures.items) ∙ (column_read c.reserve-2.new.self.items c.args.at c.index_mut.result.now (omega (arith, (inside_within c.args.map.now.pieces c.args.columns.now.items c.args.at c.args.cell c.requires.stretches c.requires.here), ap length c.reserve-2.ensures.items)) c.index_mut.ensures.value)))
    (inside_ends c.args.map.now.pieces c.args.columns.now.items c.args.at c.args.cell c.index_mut.result.now c.requires.stretches c.requires.here (ap (λ (xs : List Column). slice_get xs c.args.at) (sym c.reserve-2.ensures.items) ∙ (column_read c.reserve-2.new.self.items c.args.at c.index_mut.result.now (omega (arith, (inside_within c.args.map.now.pieces c.args.columns.now.items c.args.at c.args.cell c.requires.stretches c.requires.here), ap length c.reserve-2.ensures.items)) c.index_mut.ensures.value)))
    (c.push_reserved.ensures.items ∙ ap (λ (xs : List Column). set xs c.args.at (record c.index_mut.result.now { hi = c.args.cell }) ++ c.in_ok-part.part ∷ []) c.reserve-2.ensures.items)
    part.lo (part.hi ∙ ap (λ (x : Column). x.hi) (same_at (column_read c.reserve-2.new.self.items c.args.at c.index.result.now (omega (arith, (inside_within c.args.map.now.pieces c.args.columns.now.items c.args.at c.args.cell c.requires.stretches c.requires.here), ap length c.reserve-2.ensures.items)) c.index.ensures) (column_read c.reserve-2.new.self.items c.args.at c.index_mut.result.now (omega (arith, (inside_within c.args.map.now.pieces c.args.columns.now.items c.args.at c.args.cell c.requires.stretches c.requires.here), ap length c.reserve-2.ensures.items)) c.index_mut.ensures.value))) part.asked (part.frames ∙ ap (λ (x : Column). x.frames.items) (same_at (column_read c.reserve-2.new.self.items c.args.at c.index.result.now (omega (arith, (inside_within c.args.map.now.pieces c.args.columns.now.items c.args.at c.args.cell c.requires.stretches c.requires.here), ap length c.reserve-2.ensures.items)) c.index.ensures) (column_read c.reserve-2.new.self.items c.args.at c.index_mut.result.now (omega (arith, (inside_within c.args.map.now.pieces c.args.columns.now.items c.args.at c.args.cell c.requires.stretches c.requires.here), ap length c.reserve-2.ensures.items)) c.index_mut.ensures.value))) (part.marks ∙ ap (λ (x : Column). x.marks.items) (same_at (column_read c.reserve-2.new.self.items c.args.at c.index.result.now (omega (arith, (inside_within c.args.map.now.pieces c.args.columns.now.items c.args.at c.args.cell c.requires.stretches c.requires.here), ap length c.reserve-2.ensures.items)) c.index.ensures) (column_read c.reserve-2.new.self.items c.args.at c.index_mut.result.now (omega (arith, (inside_within c.args.map.now.pieces c.args.columns.now.items c.args.at c.args.cell c.requires.stretches c.requires.here), ap length c.reserve-2.ensures.items)) c.index_mut.ensures.value))) part.room
    (assigned_as c.args.cell c.in_ok-part.part.hi c.index_mut.result.now.hi c.len-new.result (length c.args.columns.now.items) c.reserve.new.self.pieces c.args.map.now.pieces c.assign.new.self.pieces c.in_ok-assign.ensures.map
    (part.hi ∙ ap (λ (x : Column). x.hi) (same_at (column_read c.reserve-2.new.self.items c.args.at c.index.result.now (omega (arith, (inside_within c.args.map.now.pieces c.args.columns.now.items c.args.at c.args.cell c.requires.stretches c.requires.here), ap length c.reserve-2.ensures.items)) c.index.ensures) (column_read c.reserve-2.new.self.items c.args.at c.index_mut.result.now (omega (arith, (inside_within c.args.map.now.pieces c.args.columns.now.items c.args.at c.args.cell c.requires.stretches c.requires.here), ap length c.reserve-2.ensures.items)) c.index_mut.ensures.value))) (omega (arith, c.len-new.ensures, c.reserve-2.new.self.ok.0, ap length c.reserve-2.ensures.items)) c.reserve.ensures.same)
