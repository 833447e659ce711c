-- What is told of the ticks and longest chains of a code is what is told of its program.
use Rattle.std.proofs.Common.{◌≡◌, ◌∙◌, ◌≤◌, ℕ, List, [], ◌∷◌, refl, sym, ap, subst, arith}
use Rattle.oss_syntax.specs.declared.access.Op.{Op}
use Rattle.oss_syntax.specs.declared.tree.program.Item.{Item}
use Rattle.oss_model.specs.Agreement.{AreWords}
use Rattle.oss_model.specs.Answers.{IsResult}
use Rattle.oss_model.specs.Answers.IsResult.{ends as result_ends, fails as result_fails}
use Rattle.oss_model.specs.Bodies.{Act, Program, Start}
use Rattle.oss_model.specs.Bodies.Act.{Over}
use Rattle.oss_model.specs.Machine.{At, State}
use Rattle.oss_model.specs.Moves.{act_now}
use Rattle.oss_model.specs.Sequence.{IsAtEnd, Running}
use Rattle.oss_model.specs.declared.answer.Answer.{Answer}
use Rattle.oss_model.specs.declared.answer.Answer.TheVariants as answers
use Rattle.oss_same_acts_laws.specs.Alike.{IsAlike, IsBisimulation, turned}
use Rattle.oss_same_acts_laws.proofs.ActLemmas.{halt_back, now}
use Rattle.oss_same_acts_laws.proofs.RelationLemmas.{bisimulation_itself, is_one}
use Rattle.oss_same_acts_laws.proofs.ResultLemmas.{over_forth}
use Rattle.oss_same_acts_laws.proofs.TurnLemmas.{acts_back, alike_back, at_forth, bisimulation_back}
use Rattle.oss_meaning.specs.Meaning.{asks_of}
use Rattle.oss_meaning.specs.Results.{IsOutcome, Outcome, first_cells, main_of}
use Rattle.oss_meaning.specs.Results.IsOutcome.{ends as outcome_ends, fails as outcome_fails}
use Rattle.oss_code.specs.declared.code.CodeParts.{CodeParts}
use Rattle.oss_machine.specs.Machines.{asks}
use Rattle.oss_body.specs.Mains.{code_main}
use Rattle.oss_lower_laws.specs.Programs.{IsCodeOf}
use Rattle.oss_lower_laws.proofs.OneResult.{one_end, one_result}
use Rattle.oss_lower_laws.proofs.OutcomeLaws.{main_outcomes_alike, start_is}
use Rattle.oss_chain_laws.specs.Chains.{capped, ticks_in}
use Rattle.oss_chain_laws.specs.Happenings.{Happening}
use Rattle.oss_chain_laws.specs.Runs.{IsLongest, ticks_at}
use Rattle.oss_span.specs.Links.{IsJoined, Unfolds, acts, join, let_, nothing}
use Rattle.oss_span.specs.Spans.{Spans, done, fails}
use Rattle.oss_span.specs.declared.link.Link.{Link}
use Rattle.oss_span_laws.specs.Claims.{SpansAgree, SpansAlike}
use Rattle.oss_span_laws.proofs.ChainMoves.{chain_forth, longest_forth, starts_forth, ticks_alike}
use Rattle.oss_span_laws.proofs.CodeMoves.{codes_do_the_same, is_moved}
use Rattle.oss_span_laws.proofs.TickMoves.{one_work, run_of, ticks_too, to_alike}

module _ {S T : Type 0} (P : Program S) (Q : Program T) (R : Start S → Start T → Type 0) (is : IsBisimulation P Q R) {s : State S} {n : State T} (same : IsAlike R s n) where
  joined_forth : (p : List ℕ) (c : ℕ) → IsJoined s p c → IsJoined n p c
  joined_forth p c (op, h) = (op, starts_forth P Q R is same h)

  joined_back : (p : List ℕ) (c : ℕ) → IsJoined n p c → IsJoined s p c
  joined_back p c (op, h) = (op, starts_forth Q P (turned R) (bisimulation_back is) (alike_back same) h)

  links_forth : {links : List Link} {es : List Happening} → Unfolds P s links es → Unfolds Q n links es
  links_forth nothing = nothing
  links_forth (acts e h) = acts e (links_forth h)
  links_forth (let_ {p = p} {c = c} e other h) = let_ e (λ j. other (joined_back p c j)) (links_forth h)
  links_forth (join {p = p} {c = c} e j h) = join e (joined_forth p c j) (links_forth h)

module _ {S T : Type 0} (P : Program S) (Q : Program T) (R : Start S → Start T → Type 0) (is : IsBisimulation P Q R) (main : Start S) (other : Start T) (cells : List ℕ) (begin : R main other)
    (faults : (o : Outcome) → IsOutcome P main cells o → IsOutcome Q other cells o) where
  -- What is told of one program is told of the other, which begins alike.
  spans_forth : {a : Answer} {work span : ℕ} {chain : List Link} → Spans P main cells a work span chain → Spans Q other cells a work span chain
  spans_forth (done {z = z} {chain = chain} work events run end over unfolds longest) =
      let (y, count, same) = ticks_too P Q R is main other cells begin run in
      let u = at_forth same.state y.active end.task (subst (λ (p : List ℕ). At z.state p end.task) same.active end.at_) in
      let here : IsAtEnd Q y = record { task = u.0; at_ = u.1; stops = halt_back (acts_back (now P Q R is u.2).acts) end.stops } in
      let told = done work events count here (over_forth (now P Q R is u.2).acts over) (links_forth P Q R is same.state unfolds) (longest_forth P Q R is same.state events longest) in
      subst (λ (k : ℕ). Spans Q other cells (answers.Done z.printed z.state.cells) (capped work) k chain) (sym (ticks_alike P Q R is same.state events))
      (subst (λ (output : List ℕ). Spans Q other cells (answers.Done output z.state.cells) (capped work) (ticks_in (ticks_at Q y.state) events) chain) (sym same.printed)
      (subst (λ (memory : List ℕ). Spans Q other cells (answers.Done y.printed memory) (capped work) (ticks_in (ticks_at Q y.state) events) chain) (sym same.state.cells) told))
  spans_forth (fails tasks entries h) = fails tasks entries (faults _ h)

module _ (all : List Item) (code : CodeParts) (of : IsCodeOf all code) (words : AreWords code.first) (fuel : ℕ) (a : Answer) (work span : ℕ) (chain : List Link) where
  abbrev there : List ℕ → Type 0
  there cells = Spans (asks code) (code_main code fuel) cells a work span chain

  forth : Spans (asks_of all) (main_of all fuel) (first_cells all) a work span chain → there code.first
  forth h = subst there (sym of.first) (spans_forth (asks_of all) (asks code) (is_moved all code of) (codes_do_the_same all code of) (main_of all fuel) (code_main code fuel) (first_cells all) (start_is all code of fuel)
      (λ o w. subst (λ (cells : List ℕ). IsOutcome (asks code) (code_main code fuel) cells o) of.first ((main_outcomes_alike all code of words fuel o).0 w)) h)

  back : there code.first → Spans (asks_of all) (main_of all fuel) (first_cells all) a work span chain
  back h = spans_forth (asks code) (asks_of all) (turned (is_moved all code of)) (bisimulation_back (codes_do_the_same all code of)) (code_main code fuel) (main_of all fuel) (first_cells all) (start_is all code of fuel)
      (λ o w. (main_outcomes_alike all code of words fuel o).1 (subst (λ (cells : List ℕ). IsOutcome (asks code) (code_main code fuel) cells o) (sym of.first) w)) (subst there of.first h)

pub spans_alike : SpansAlike
spans_alike all code of words fuel a work span chain = (forth all code of words fuel a work span chain, back all code of words fuel a work span chain)

-- What is told of one program twice

module _ {S : Type 0} (P : Program S) (main : Start S) (first : List ℕ) where
  result_of : (o : Outcome) → IsOutcome P main first o → IsResult P main first o.answer
  result_of o (outcome_ends run end over) = result_ends run end over
  result_of o (outcome_fails run end fault) = result_fails run end fault

  span_result : {a : Answer} {work span : ℕ} {chain : List Link} → Spans P main first a work span chain → IsResult P main first a
  span_result (done work events run end over unfolds longest) = result_ends (run_of P main first run) end over
  span_result (fails tasks entries h) = result_of _ h

  -- no longest chain has fewer ticks than another
  at_most : (z w : Running S) (es fs : List Happening) → IsAlike is_one z.state w.state → IsLongest P z.state es → IsLongest P w.state fs → ticks_in (ticks_at P z.state) es ≤ ticks_in (ticks_at P w.state) fs
  at_most z w es fs same h k =
      subst (λ (n : ℕ). n ≤ ticks_in (ticks_at P w.state) fs) (sym (ticks_alike P P is_one (bisimulation_itself P) same es)) (k.most es (chain_forth P P is_one (bisimulation_itself P) same es h.is_chain))

  numbers_agree : {a b : Answer} {work other span least : ℕ} {chain links : List Link} → Spans P main first a work span chain → Spans P main first b other least links → a ≡ b → (work ≡ other) × (span ≡ least)
  numbers_agree (done {z = z} n events run end over unfolds longest) (done {z = w} m others run' last over' unfolds' longest') e =
      let same = one_end P (run_of P main first run) end (run_of P main first run') last in
      let back = one_end P (run_of P main first run') last (run_of P main first run) end in
      let l = at_most z w events others (to_alike P same).state longest longest' in
      let m = at_most w z others events (to_alike P back).state longest' longest in
      (ap capped (one_work P main first run end run' last), equal _ _ l m)
    where
      equal : (x y : ℕ) → x ≤ y → y ≤ x → x ≡ y
      equal x y l m = omega (arith, l, m)
  numbers_agree (done n events run end over unfolds longest) (fails tasks entries h) e = absurd cc
  numbers_agree (fails tasks entries h) (done n events run end over unfolds longest) e = absurd cc
  numbers_agree (fails tasks entries h) (fails tasks' entries' h') e = (refl, refl)

pub spans_agree : (S : Type 0) → SpansAgree S
spans_agree S P main first a b work other span least chain links h k =
    let e = one_result P a b (span_result P main first h) (span_result P main first k) in
    let (m, n) = numbers_agree P main first h k e in
    (e, m, n)
