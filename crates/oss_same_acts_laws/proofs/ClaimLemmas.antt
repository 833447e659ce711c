-- The claims, each by its lemma, which holds for all relations.
use Rattle.oss_same_acts_laws.specs.Claims.{tells, ProgramsDoAsThemselves, OpeningsAreAlike, TasksHavePartners, StepsAreAlike, LetsAreAlike, JoinsAreAlike, MovesAreAlike, RunsAreAlike, CompleteAlike, StoppedAlike, AnswersAreAlike, ResultsAreAlike, BisimulationsTurn, StatesTurn}
use Rattle.oss_same_acts_laws.specs.AlikeWaves.{RunsByWavesAreAlike, TracesAreAlike}
use Rattle.oss_same_acts_laws.proofs.RelationLemmas.{bisimulation_itself}
use Rattle.oss_same_acts_laws.proofs.TurnLemmas.{bisimulation_back, alike_back, at_forth}
use Rattle.oss_same_acts_laws.proofs.MayLemmas.{complete_forth, stopped_forth}
use Rattle.oss_same_acts_laws.proofs.AlikeTheorem.{opening_alike, step_forth, let_forth, join_forth, move_too, run_too}
use Rattle.oss_same_acts_laws.proofs.AnswerLemmas.{answer_forth}
use Rattle.oss_same_acts_laws.proofs.ResultLemmas.{result_forth}
use Rattle.oss_same_acts_laws.proofs.RoundLemmas.{run_by_waves_too, trace_forth}

pub programs_do_as_themselves : (S : Type 0) → ProgramsDoAsThemselves S
programs_do_as_themselves S P = bisimulation_itself P

pub openings_are_alike : (S T : Type 0) → OpeningsAreAlike S T
openings_are_alike S T P Q test main other cells is r = opening_alike P Q (tells test) is main other cells r

pub tasks_have_partners : (S T : Type 0) → TasksHavePartners S T
tasks_have_partners S T test s n p t same h = at_forth same p t h

pub steps_are_alike : (S T : Type 0) → StepsAreAlike S T
steps_are_alike S T P Q test s x n p t is same can a = step_forth P Q (tells test) is same p t can a

pub lets_are_alike : (S T : Type 0) → LetsAreAlike S T
lets_are_alike S T P Q test s x n p c t is same can a = let_forth P Q (tells test) is same p c t can a

pub joins_are_alike : (S T : Type 0) → JoinsAreAlike S T
joins_are_alike S T P Q test s x n p c op t is same can a = join_forth P Q (tells test) is same p c op t can a

pub complete_alike : (S T : Type 0) → CompleteAlike S T
complete_alike S T P Q test s n p is same h = complete_forth P Q (tells test) is same h

pub stopped_alike : (S T : Type 0) → StoppedAlike S T
stopped_alike S T P Q test s n is same h = stopped_forth P Q (tells test) is same h

pub bisimulations_turn : (S T : Type 0) → BisimulationsTurn S T
bisimulations_turn S T P Q test is = bisimulation_back is

pub states_turn : (S T : Type 0) → StatesTurn S T
states_turn S T test s n same = alike_back same

pub moves_are_alike : (S T : Type 0) → MovesAreAlike S T
moves_are_alike S T P Q test s x n is same a = move_too P Q (tells test) is same a

pub runs_are_alike : (S T : Type 0) → RunsAreAlike S T
runs_are_alike S T P Q test main other cells s is r h = run_too P Q (tells test) is main other cells r h

pub answers_are_alike : (S T : Type 0) → AnswersAreAlike S T
answers_are_alike S T P Q test s n a is same h = answer_forth P Q (tells test) is same a h

pub results_are_alike : (S T : Type 0) → ResultsAreAlike S T
results_are_alike S T P Q test main other cells a is r h = result_forth P Q (tells test) is main other cells r a h

pub runs_by_waves_are_alike : (S T : Type 0) → RunsByWavesAreAlike S T
runs_by_waves_are_alike S T P Q test main other cells rounds n is r h = run_by_waves_too P Q (tells test) is main other cells rounds n r h

pub traces_are_alike : (S T : Type 0) → TracesAreAlike S T
traces_are_alike S T P Q test main other cells trace is r h = trace_forth P Q (tells test) is main other cells trace r h
