-- Rounds: a wave with the passes behind it, one round after the other, and the end, where no move is left.
use Rattle.std.proofs.Common.{◌≡◌, ◌≢◌, ℕ, ◌<◌, refl, sym, ap, ◌∙◌, subst, arith, List, [], ◌∷◌, ◌++◌, length, append_assoc, max}
use Rattle.std.specs.Prelude.{map}
use Rattle.std.specs.List.{flat_map}
use Rattle.std.proofs.lemmas.List.{append-nil}
use Rattle.oss_model.specs.Answers.{IsStopped}
use Rattle.oss_model.specs.Bodies.{Start}
use Rattle.oss_model.specs.Machine.{State, Task}
use Rattle.oss_model.specs.Moves.{CanStep, SomeMove, a_join, a_let, a_step}
use Rattle.oss_model.specs.Order.{IsIn, here}
use Rattle.oss_wave_laws.specs.Rounds.{Line, Round, Rounds, follows, pass_lines, round_lines, stopped, turn_line, widest}
use Rattle.oss_wave_laws.specs.Waves.{IsWave, TakeTurns, Turn, no_turns}
use Rattle.oss_wave_laws.proofs.MovesLemmas.{rounds_end}
use Rattle.oss_code.specs.declared.code.CodeParts.{CodeParts}
use Rattle.oss_machine.specs.Frames.{CodeScript}
use Rattle.oss_machine.specs.Machines.{asks}
use Rattle.oss_core.specs.CoreLeft.{core_left}
use Rattle.oss_core.specs.Kept.{IsCore, IsRunning, Kept}
use Rattle.oss_core.proofs.CoreLeftLemmas.{memory_size}
use Rattle.oss_core.proofs.FallLemmas.{core_rounds_fall}
use Rattle.oss_sched.specs.declared.moves.TextMove.{TextMove}
use Rattle.oss_waves.specs.declared.rounds.Ran.{Ran}
use Rattle.oss_waves.specs.declared.rounds.Went.{Went}
use Rattle.oss_waves.specs.declared.rounds.Went.TheVariants.{On, Stopped}
use Rattle.oss_waves.specs.Rounding.{HasMadePasses, HasMadeRounds, HasMadeWave, HaveRoundsGone, IsAtRest, IsFinal, IsResting, IsRoundOf, NoneActs, RoundMade}
use Rattle.oss_waves.specs.WaveRuns.{lines_of}
use Rattle.oss_waves.proofs.ListLemmas.{map_both}

-- a wave without turns leaves the state as it is
same_state : (code : CodeParts) {s n : State CodeScript} → TakeTurns (asks code) s [] n → n ≡ s
same_state code no_turns = refl

-- where a wave has no turn no task may act
pub none_acts : (code : CodeParts) (old new : Kept) (before after : List TextMove) (count : ℕ) → count ≡ 0 → HasMadeWave code old new before after count
    → (main : Start CodeScript) (first : List ℕ) (s : State CodeScript) → IsCore code main first old s → NoneActs code main first s new
none_acts code old new before after count zero_is waved main first s core =
    let w = waved main first s core in
    let none = empty w.turns (sym w.count_is ∙ zero_is) in
    let still = same_state code (subst (λ (turns : List Turn). TakeTurns (asks code) s turns w.state) none w.wave.acts) in
    record { core = subst (λ (n : State CodeScript). IsCore code main first new n) still w.core; no_step = λ p t can. let k = w.wave.turns_are.all p t can in absurd (in_empty w.turns none k.0 k.1) }
  where
    empty : (xs : List Turn) → length xs ≡ 0 → xs ≡ []
    empty [] e = refl
    empty (x ∷ xs) e = absurd (omega (arith, e))

    in_nil : (k : Turn) → IsIn k [] → ⊥
    in_nil k h = elim h [ ]

    in_empty : (xs : List Turn) → xs ≡ [] → (k : Turn) → IsIn k xs → ⊥
    in_empty xs e k h = in_nil k (subst (λ (ys : List Turn). IsIn k ys) e h)

-- behind a wave the core still stands for a state of the machine
pub wave_running : (code : CodeParts) (old new : Kept) (before after : List TextMove) (count : ℕ) → IsRunning code old → HasMadeWave code old new before after count → IsRunning code new
wave_running code old new before after count running waved =
    let w = waved running.main running.first running.state running.core in
    record { main = running.main; first = running.first; state = w.state; core = w.core }

-- a wave in which some task had a turn, and the passes behind it, are a round
pub round_made : (code : CodeParts) (old mid new : Kept) (before between after : List TextMove) (count : ℕ) → count ≢ 0 → HasMadeWave code old mid before between count → HasMadePasses code mid new between after
    → (main : Start CodeScript) (first : List ℕ) (s : State CodeScript) → IsCore code main first old s → RoundMade code main first s new before after count
round_made code old mid new before between after count some waved passed main first s core =
    let w = waved main first s core in
    let p = passed main first w.state w.core in
    record {
      state = p.state;
      round = record { turns = w.turns; passes = p.lists };
      moving = λ still. still (can_move w.turns (λ e. some (w.count_is ∙ ap length e)) w.wave);
      is_round = record { middle = w.state; wave = w.wave; behind = p.passes };
      core = p.core;
      lines = p.lines ∙ (ap (λ (xs : List Line). xs ++ flat_map pass_lines p.lists) w.lines ∙ append_assoc (lines_of before) (map turn_line w.turns) (flat_map pass_lines p.lists));
      turns_are = w.count_is;
      rest = p.rest;
    }
  where
    can_move : {m : State CodeScript} (turns : List Turn) → turns ≢ [] → IsWave (asks code) s turns m → SomeMove (asks code) s
    can_move [] ne w = absurd (ne refl)
    can_move (k ∷ rest) ne w = a_step (w.turns_are.only k here).can

-- what came of a round in which some task had a turn, noted on its own
pub went_on : (code : CodeParts) (old new : Kept) (went : Went) (turns : ℕ) (before after : List TextMove) → went ≡ On turns → before ≡ [] → IsRoundOf went code old new before after → IsRoundOf (On turns) code old new [] after
went_on code old new went turns before after e f h = subst (λ (b : List TextMove). IsRoundOf (On turns) code old new b after) f (subst (λ (w : Went). IsRoundOf w code old new before after) e h)

-- and of one in which none had
pub went_nowhere : (code : CodeParts) (old new : Kept) (went : Went) (before after : List TextMove) → went ≡ Stopped → IsRoundOf went code old new before after → IsRoundOf Stopped code old new before after
went_nowhere code old new went before after e h = subst (λ (w : Went). IsRoundOf w code old new before after) e h

-- no round as yet
pub no_rounds : (code : CodeParts) (k : Kept) → HaveRoundsGone code k k [] 0
no_rounds code k main first s core rest = record { state = s; rounds = []; leads = λ more n h. h; core = core; rest = rest; lines = refl; most_is = refl }

-- the core is at rest behind each round
pub rounds_resting : (code : CodeParts) (old now : Kept) (waves : List (List TextMove)) (most : ℕ) → IsResting code old → HaveRoundsGone code old now waves most → IsResting code now
rounds_resting code old now waves most resting gone =
    let r = gone resting.main resting.first resting.state resting.core resting.rest in
    record { main = resting.main; first = resting.first; state = r.state; core = r.core; rest = r.rest }

pub resting_runs : (code : CodeParts) (k : Kept) → IsResting code k → IsRunning code k
resting_runs code k resting = record { main = resting.main; first = resting.first; state = resting.state; core = resting.core }

-- and its memory is as large as before
pub rounds_room : (code : CodeParts) (old now : Kept) (waves : List (List TextMove)) (most : ℕ) → IsResting code old → HaveRoundsGone code old now waves most → length now.cells ≡ length old.cells
rounds_room code old now waves most resting gone = let r = gone resting.main resting.first resting.state resting.core resting.rest in memory_size r.core ∙ sym (memory_size resting.core)

-- the most turns of one more round
widest_one : (rounds : List Round) (round : Round) → widest (rounds ++ round ∷ []) ≡ max (widest rounds) (length round.turns)
widest_one [] round = grind arith
widest_one (x ∷ rounds) round = let r = widest_one rounds round in rw r (grind arith)

-- one more round
pub one_round : (code : CodeParts) (old mid new : Kept) (waves : List (List TextMove)) (most : ℕ) (lines : List TextMove) (count after : ℕ) → HaveRoundsGone code old mid waves most
    → ((main : Start CodeScript) (first : List ℕ) (s : State CodeScript) → IsCore code main first mid s → RoundMade code main first s new [] lines count) → after ≡ max most count → HaveRoundsGone code old new (waves ++ lines ∷ []) after
one_round code old mid new waves most lines count after gone made after_is main first s core rest =
    let r = gone main first s core rest in
    let q = made main first r.state r.core in
    record {
      state = q.state;
      rounds = r.rounds ++ q.round ∷ [];
      leads = λ more n h. subst (λ (rounds : List Round). Rounds (asks code) s rounds n) (sym (append_assoc r.rounds (q.round ∷ []) more)) (r.leads (q.round ∷ more) n (follows q.moving q.is_round h));
      core = q.core;
      rest = q.rest;
      lines = map_both lines_of waves (lines ∷ []) ∙ (ap (λ (xs : List (List Line)). xs ++ (lines_of lines ∷ [])) r.lines ∙ (ap (λ (xs : List Line). map round_lines r.rounds ++ (xs ∷ [])) q.lines ∙ sym (map_both round_lines r.rounds (q.round ∷ []))));
      most_is = after_is ∙ (ap (λ (n : ℕ). max n count) r.most_is ∙ (ap (λ (n : ℕ). max (widest r.rounds) n) q.turns_are ∙ sym (widest_one r.rounds q.round)));
    }

-- less is left to do behind it
pub round_falls : (code : CodeParts) (old mid new : Kept) (waves : List (List TextMove)) (most : ℕ) (lines : List TextMove) (count : ℕ) → IsResting code old → HaveRoundsGone code old mid waves most
    → ((main : Start CodeScript) (first : List ℕ) (s : State CodeScript) → IsCore code main first mid s → RoundMade code main first s new [] lines count) → core_left code new < core_left code mid
round_falls code old mid new waves most lines count resting gone made =
    let r = gone resting.main resting.first resting.state resting.core resting.rest in
    let q = made resting.main resting.first r.state r.core in
    core_rounds_fall code resting.main resting.first mid new r.state q.state q.round r.core q.core q.moving q.is_round

-- where nothing may be given up and no task may act no move is left
pub is_stopped : (code : CodeParts) {s : State CodeScript} → IsAtRest (asks code) s → ((p : List ℕ) (t : Task CodeScript) → CanStep (asks code) s p t → ⊥) → IsStopped (asks code) s
is_stopped code rest none (a_step {p = p} {t = t} can) = none p t can
is_stopped code rest none (a_let {p = p} {c = c} {t = t} can) = rest.no_let p c t can
is_stopped code rest none (a_join {p = p} {c = c} {op = op} {t = t} can) = rest.no_join p c op t can

-- so these were all rounds
pub last_round : (code : CodeParts) (old mid new : Kept) (ran : Ran) → HaveRoundsGone code old mid ran.waves ran.widest
    → ((main : Start CodeScript) (first : List ℕ) (s : State CodeScript) → IsCore code main first mid s → NoneActs code main first s new) → HasMadeRounds code old new ran
last_round code old mid new ran gone none main first s core rest =
    let r = gone main first s core rest in
    let q = none main first r.state r.core in
    record {
      state = r.state;
      rounds = r.rounds;
      are_rounds = subst (λ (rounds : List Round). Rounds (asks code) s rounds r.state) (append-nil r.rounds) (r.leads [] r.state (stopped (is_stopped code r.rest q.no_step)));
      core = q.core;
      lines = r.lines;
      most_is = r.most_is;
    }

-- and behind them the core is final
pub is_final : (code : CodeParts) (old new : Kept) (ran : Ran) → IsResting code old → HasMadeRounds code old new ran → IsFinal code new
is_final code old new ran resting made =
    let r = made resting.main resting.first resting.state resting.core resting.rest in
    record { main = resting.main; first = resting.first; state = r.state; core = r.core; stopped = rounds_end r.rounds r.are_rounds }
