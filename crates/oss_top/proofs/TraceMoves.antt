-- A trace of the code of a program is one of the program, so what the machine does by waves tells of the program itself.
use Rattle.std.proofs.Common.{ℕ, List, subst, sym}
use Rattle.oss_syntax.specs.declared.tree.program.Item.{Item}
use Rattle.oss_wave_laws.specs.Rounds.{IsTrace, Trace}
use Rattle.oss_same_acts_laws.specs.Alike.{turned}
use Rattle.oss_same_acts_laws.proofs.RoundLemmas.{trace_forth}
use Rattle.oss_same_acts_laws.proofs.TurnLemmas.{bisimulation_back}
use Rattle.oss_meaning.specs.Meaning.{asks_of}
use Rattle.oss_meaning.specs.Results.{first_cells, main_of}
use Rattle.oss_code.specs.declared.code.CodeParts.{CodeParts}
use Rattle.oss_machine.specs.Machines.{asks}
use Rattle.oss_body.specs.Mains.{code_main}
use Rattle.oss_lower_laws.specs.Programs.{IsCodeOf}
use Rattle.oss_lower_laws.proofs.OutcomeLaws.{start_is}
use Rattle.oss_span_laws.proofs.CodeMoves.{codes_do_the_same, is_moved}

module _ (all : List Item) (code : CodeParts) (of : IsCodeOf all code) (fuel : ℕ) (trace : Trace) where
  -- the trace of the code is that of the program
  pub traces_of_code : IsTrace (asks code) (code_main code fuel) code.first trace → IsTrace (asks_of all) (main_of all fuel) (first_cells all) trace
  traces_of_code h =
      trace_forth (asks code) (asks_of all) (turned (is_moved all code of)) (bisimulation_back (codes_do_the_same all code of)) (code_main code fuel) (main_of all fuel) (first_cells all) trace (start_is all code of fuel)
      (subst (λ (cells : List ℕ). IsTrace (asks code) (code_main code fuel) cells trace) of.first h)

  -- and that of the program is one of the code
  pub traces_in_code : IsTrace (asks_of all) (main_of all fuel) (first_cells all) trace → IsTrace (asks code) (code_main code fuel) code.first trace
  traces_in_code h =
      subst (λ (cells : List ℕ). IsTrace (asks code) (code_main code fuel) cells trace) (sym of.first)
      (trace_forth (asks_of all) (asks code) (is_moved all code of) (codes_do_the_same all code of) (main_of all fuel) (code_main code fuel) (first_cells all) trace (start_is all code of fuel) h)
