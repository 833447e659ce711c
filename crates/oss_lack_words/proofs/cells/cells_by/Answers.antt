use Rattle.std.proofs.Common.{◌∙◌, sym, ap, arith, Option}
use Rattle.oss_explanation.specs.Held.{is_word}
use Rattle.oss_pieces.specs.CellSets.{has}
use Rattle.oss_needs.specs.declared.lack.Lack.{Lack}
use Rattle.oss_ranges.specs.Cells.{value_at}
use Rattle.oss_lack_words.specs.Telling.{told}
use Rattle.oss_lack_words.proofs.TellLemmas.{run_without}
use Rattle.oss_lack_words.proofs.cells.cells_by.Goals as goal

pub runs-preserved : goal.runs-preserved
runs-preserved c =
    let some = c.run_from-lack.ensures.some in
    record {
      within = c.run_from-lack.ensures.within;
      so_far =
          run_without (λ e. is_word (told c.args.place (value_at c.args.lacks.now.pieces e)) c.args.word) (has c.runs.cells) c.runs.from c.run_from-lack.result.1 c.runs.invariant.so_far c.runs.invariant.past
          (λ e l h. ap (λ (v : Option Lack). is_word (told c.args.place v) c.args.word) (c.run_from-lack.ensures.alike e l h) ∙ sym c.is_told.ensures ∙ c.if-is_told.false);
      past = λ e l. c.runs.invariant.past e (omega (arith, some, l));
    }
