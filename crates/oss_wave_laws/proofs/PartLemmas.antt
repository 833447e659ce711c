-- The acts of a part are acts that its body may do alone, and a body has one part.
use Rattle.std.proofs.Common.{◌≡◌, ◌⊎◌, inl, inr, ℕ, zero, suc, ◌<◌, refl, sym, ◌∙◌, arith, true, false}
use Rattle.std.proofs.lemmas.Bool.Decides.{nat_tests}
use Rattle.oss_model.specs.Bodies.{Program, Act, Start, IsHalt}
use Rattle.oss_model.specs.Bodies.Act.{Ticked, Load, Store, Folded, Created, Awaited, Waited, WaitedOn, Releases, Printed, Ended, Fault, Over}
use Rattle.oss_wave_laws.specs.Alone.{IsWaiting, RunsPart, part_begins, part_goes}
use Rattle.oss_wave_laws.specs.Parts.{Stage, stops_before, stage_after, act_after, ticks_after, stops_after, IsPart, PartRuns, OnePart}

-- what the part does not stop before
pub record Goes {S : Type 0} (act : Act S) (count : ℕ) : Type 0 where
  pub halt : IsHalt act → ⊥
  pub first : IsWaiting act → count ≡ 0

any_way : {S : Type 0} (act : Act S) (count : ℕ) → (IsHalt act → ⊥) → (IsWaiting act → ⊥) → Goes act count
any_way act count h w = record { halt = h; first = λ x. absurd (w x) }

pub goes_from : {S : Type 0} (act : Act S) (count ticks quota : ℕ) → stops_before act count ticks quota ≡ false → Goes act count
goes_from Ticked count ticks quota e = any_way Ticked count (λ x. x) (λ x. x)
goes_from (Load c) count ticks quota e = any_way (Load c) count (λ x. x) (λ x. x)
goes_from (Store c v) count ticks quota e = any_way (Store c v) count (λ x. x) (λ x. x)
goes_from (Folded c op v slot) count ticks quota e = any_way (Folded c op v slot) count (λ x. x) (λ x. x)
goes_from (Created o included) count ticks quota e = any_way (Created o included) count (λ x. x) (λ x. x)
goes_from Awaited count ticks quota e = record { halt = λ x. x; first = λ x. grind (arith, nat_tests) }
goes_from Waited count ticks quota e = record { halt = λ x. x; first = λ x. grind (arith, nat_tests) }
goes_from (WaitedOn named) count ticks quota e = record { halt = λ x. x; first = λ x. grind (arith, nat_tests) }
goes_from (Releases clauses included) count ticks quota e = any_way (Releases clauses included) count (λ x. x) (λ x. x)
goes_from (Printed key text) count ticks quota e = any_way (Printed key text) count (λ x. x) (λ x. x)
goes_from Ended count ticks quota e = any_way Ended count (λ x. x) (λ x. x)
goes_from (Fault kind line key) count ticks quota e = cc
goes_from Over count ticks quota e = cc

-- where nothing is done yet
at_first : {S : Type 0} (P : Program S) (start : Start S) (s : Stage) (n : ℕ) → n ≡ 0 → (stage_after P start s n).found ≡ s.found
unfolding stage_after
at_first P start s n e = rw e refl

-- so many acts, none of which the part stops before, are acts that the body may do alone
pub runs_so_far : {S : Type 0} (P : Program S) (start : Start S) (s : Stage) (quota n : ℕ) → ((k : ℕ) → k < n → stops_after P start s quota k ≡ false) → RunsPart P start s.cells s.found (stage_after P start s n).cells (stage_after P start s n).found
unfolding stage_after
runs_so_far P start s quota zero h = part_begins
runs_so_far P start s quota (suc n) h =
    let g = goes_from (act_after P start s n) n (ticks_after P start s n) quota (h n (omega arith)) in
    part_goes (runs_so_far P start s quota n (λ k l. h k (omega (arith, l)))) g.halt (λ w. at_first P start s n (g.first w))

pub part_runs : (S : Type 0) → PartRuns S
part_runs S P start first quota count is = runs_so_far P start first quota count is.goes

pub one_part : (S : Type 0) → OnePart S
one_part S P start first quota m n is js = go (three m n)
  where
    three : (a b : ℕ) → (a < b) ⊎ (a ≡ b) ⊎ (b < a)
    three a b = grind arith

    never : (a b : ℕ) → IsPart P start first quota a → IsPart P start first quota b → a < b → ⊥
    never a b ia ib l = let f : true ≡ false = sym ia.stops ∙ ib.goes a l in cc

    go : (m < n) ⊎ (m ≡ n) ⊎ (n < m) → m ≡ n
    go (inl l) = absurd (never m n is js l)
    go (inr (inl e)) = e
    go (inr (inr l)) = absurd (never n m js is l)
