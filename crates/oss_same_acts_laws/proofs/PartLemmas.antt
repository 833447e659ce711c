-- Bodies that begin alike have the same part of a wave: their acts leave the same memory and find the same, and the part stops before the same act.
use Rattle.std.proofs.Common.{◌≡◌, ℕ, zero, suc, ◌+◌, refl, sym, ap, ◌∙◌, ◌∷◌}
use Rattle.oss_model.specs.Bodies.{Program, Act, Frame, Start, stage_act}
use Rattle.oss_wave_laws.specs.Parts.{stops_before, Stage, next_stage, stage_after, one_tick, ticks_after, stops_after, IsPart}
use Rattle.oss_same_acts_laws.specs.Alike.{AreActsAlike, both_tick, both_load, both_store, both_fold, both_create, both_include, both_await, both_wait, both_wait_on, both_release, both_print, both_end, both_fault, both_over, IsBisimulation}
use Rattle.oss_same_acts_laws.proofs.ActLemmas.{found_alike, cells_alike}

module _ {S T : Type 0} {R : Start S → Start T → Type 0} {f : Frame S} {g : Frame T} where
  tick_alike : {a : Act S} {b : Act T} → AreActsAlike R f g a b → one_tick a ≡ one_tick b
  tick_alike both_tick = refl
  tick_alike both_load = refl
  tick_alike both_store = refl
  tick_alike both_fold = refl
  tick_alike (both_create r) = refl
  tick_alike both_include = refl
  tick_alike both_await = refl
  tick_alike both_wait = refl
  tick_alike both_wait_on = refl
  tick_alike both_release = refl
  tick_alike both_print = refl
  tick_alike both_end = refl
  tick_alike both_fault = refl
  tick_alike both_over = refl

  stop_alike : {a : Act S} {b : Act T} → AreActsAlike R f g a b → (count ticks quota : ℕ) → stops_before a count ticks quota ≡ stops_before b count ticks quota
  stop_alike both_tick count ticks quota = refl
  stop_alike both_load count ticks quota = refl
  stop_alike both_store count ticks quota = refl
  stop_alike both_fold count ticks quota = refl
  stop_alike (both_create r) count ticks quota = refl
  stop_alike both_include count ticks quota = refl
  stop_alike both_await count ticks quota = refl
  stop_alike both_wait count ticks quota = refl
  stop_alike both_wait_on count ticks quota = refl
  stop_alike both_release count ticks quota = refl
  stop_alike both_print count ticks quota = refl
  stop_alike both_end count ticks quota = refl
  stop_alike both_fault count ticks quota = refl
  stop_alike both_over count ticks quota = refl

module _ {S T : Type 0} (P : Program S) (Q : Program T) (R : Start S → Start T → Type 0) (is : IsBisimulation P Q R) {b : Start S} {e : Start T} (r : R b e) where
  next_alike : (s : Stage) → next_stage P b s ≡ next_stage Q e s
  next_alike s = let a = ((is b e r).each s.found).acts in λ i. record { cells = cells_alike a s.cells i; found = found_alike a s.cells i ∷ s.found }

  -- they come to the same stage
  stage_alike : (s : Stage) (n : ℕ) → stage_after P b s n ≡ stage_after Q e s n
  unfolding stage_after
  stage_alike s zero = refl
  stage_alike s (suc n) = ap (next_stage P b) (stage_alike s n) ∙ next_alike (stage_after Q e s n)

  one_more_tick : (s : Stage) (n : ℕ) → one_tick (stage_act P b (stage_after P b s n).found) ≡ one_tick (stage_act Q e (stage_after Q e s n).found)
  one_more_tick s n = ap (λ (x : Stage). one_tick (stage_act P b x.found)) (stage_alike s n) ∙ tick_alike ((is b e r).each (stage_after Q e s n).found).acts

  -- with as many ticks
  ticks_alike : (s : Stage) (n : ℕ) → ticks_after P b s n ≡ ticks_after Q e s n
  unfolding ticks_after
  ticks_alike s zero = refl
  ticks_alike s (suc n) =
      ap (λ (k : ℕ). k + one_tick (stage_act P b (stage_after P b s n).found)) (ticks_alike s n) ∙ ap (λ (k : ℕ). ticks_after Q e s n + k) (one_more_tick s n)

  stops_alike : (s : Stage) (quota n : ℕ) → stops_after P b s quota n ≡ stops_after Q e s quota n
  stops_alike s quota n =
      ap (λ (x : Stage). stops_before (stage_act P b x.found) n (ticks_after P b s n) quota) (stage_alike s n)
      ∙ (ap (λ (k : ℕ). stops_before (stage_act P b (stage_after Q e s n).found) n k quota) (ticks_alike s n)
      ∙ stop_alike ((is b e r).each (stage_after Q e s n).found).acts n (ticks_after Q e s n) quota)

  -- so their parts have as many acts
  pub part_forth : (s : Stage) (quota count : ℕ) → IsPart P b s quota count → IsPart Q e s quota count
  part_forth s quota count h = record { goes = λ k l. sym (stops_alike s quota k) ∙ h.goes k l; stops = sym (stops_alike s quota count) ∙ h.stops }
