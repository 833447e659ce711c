-- A part with one more act, at its beginning and where it stops.
use Rattle.std.proofs.Common.{◌≡◌, ◌⊎◌, inl, inr, ℕ, suc, ◌+◌, ◌-◌, ◌^◌, ◌<◌, ◌≤◌, refl, sym, subst, ap, ◌∙◌, arith, List, [], ◌∷◌, ◌++◌, Bool, true, false}
use Rattle.std.specs.Prelude.{min, nat_le, not}
use Rattle.std.proofs.lemmas.Bool.Decides.{nat_tests}
use Rattle.std.proofs.Math.Logic.{∥∥₁_map}
use Rattle.std.proofs.lemmas.Grind.{not_there}
use Rattle.oss_model.specs.Bodies.{Act as Meant, IsHalt, Program, Start}
use Rattle.oss_model.specs.Bodies.Act.{Awaited, Waited, WaitedOn, Load}
use Rattle.oss_model.specs.Moves.{found_by}
use Rattle.oss_model.proofs.TreeLemmas.{over_stops}
use Rattle.oss_ranges.specs.declared.piece.Piece.{Piece}
use Rattle.oss_wave_laws.specs.Parts.{Stage, act_after, made_after, one_tick, stage_after, stops_after, stops_before, ticks_after}
use Rattle.oss_wave_laws.proofs.PartLemmas.{goes_from}
use Rattle.oss_code.specs.declared.code.CodeParts.{CodeParts}
use Rattle.oss_machine.specs.Frames.{CodeScript}
use Rattle.oss_machine.specs.Machines.{asks}
use Rattle.oss_body.specs.declared.act.Act.{Act}
use Rattle.oss_body.specs.declared.body.Body.{Body}
use Rattle.oss_body.specs.Acts.{act_seen, answer_to, creates, goes_on}
use Rattle.oss_body.specs.Relation.{IsBody, is_over, pending_of}
use Rattle.oss_tree.specs.declared.output.Print.{Print}
use Rattle.oss_segment.specs.declared.segment.Segment.{Segment}
use Rattle.oss_body.specs.Left.{body_left}
use Rattle.oss_segment.specs.Made.{AddsWhen, AreNew, printed_after, printed_by}
use Rattle.oss_segment.specs.Segments.{HasCome, IsKeyed, IsKnown, IsNext, IsSegment, Went, first_of, went_none, went_on, went_new, with_print}
use Rattle.oss_segment.specs.Writes.{Leaves, Shows}
use Rattle.oss_segment.proofs.LeftLemmas.{left_falls}
use Rattle.oss_segment.proofs.MadeLemmas.{children_more, finds_nothing, prints_more, prints_nothing}
use Rattle.oss_segment.proofs.WriteLemmas.{shows, written_more, written_none}

-- whether a part stops is told by its count as far as that goes
counts_so : (n : ℕ) → nat_le (min n (2 ^ 64 - 1)) 0 ≡ nat_le n 0
counts_so n = grind (arith, nat_tests)

same_stop : (act : Meant CodeScript) (n ticks quota : ℕ) → stops_before act (min n (2 ^ 64 - 1)) ticks quota ≡ stops_before act n ticks quota
same_stop Awaited n ticks quota = ap not (counts_so n)
same_stop Waited n ticks quota = ap not (counts_so n)
same_stop (WaitedOn named) n ticks quota = ap not (counts_so n)
same_stop _ n ticks quota = refl

more_counted : (n : ℕ) → min (min n (2 ^ 64 - 1) + 1) (2 ^ 64 - 1) ≡ min (suc n) (2 ^ 64 - 1)
more_counted n = grind arith

-- the answer to an act is what it finds
answer_is : (act : Meant CodeScript) (cells : List ℕ) → answer_to act (found_by act cells) ≡ found_by act cells
answer_is (Load c) cells = refl
answer_is _ cells = refl

-- What an act has done for a part: this is what the functions tell of the act that stood next.
pub record Done (code : CodeParts) (memory : List ℕ) (quota : ℕ) (a : Act) (old new : Segment) : Type 0 where
  pub running : is_over old.body ≡ false
  pub goes : goes_on a ≡ true
  pub stays : stops_before (act_seen a) old.count old.ticks quota ≡ false
  pub ticks : new.ticks ≡ old.ticks + one_tick (act_seen a)
  pub count : new.count ≡ min (old.count + 1) (2 ^ 64 - 1)
  pub loaded : ℕ
  pub writes : (cells : List ℕ) → Shows memory old.writes.pieces cells → Leaves (act_seen a) cells old.writes.pieces new.writes.pieces
  pub finds : (cells : List ℕ) → Shows memory old.writes.pieces cells → loaded ≡ found_by (act_seen a) cells
  pub prints : new.prints.items ≡ with_print a old.prints.items
  pub keyed : IsKeyed a
  pub adds : AddsWhen (creates (pending_of old.body)) code old.body old.children.items new.children.items
  pub next : IsNext code loaded old.body new.body

module _ (code : CodeParts) (start : Start CodeScript) (found memory : List ℕ) (quota : ℕ) (begun : Body) (n : ℕ) (old : Segment) (is : HasCome code start found memory quota begun n old) where
  abbrev P : Program CodeScript
  P = asks code

  abbrev first : Stage
  first = first_of found memory

  abbrev now : Stage
  now = stage_after P start first n

  abbrev act : Meant CodeScript
  act = act_after P start first n

  -- one more act is done
  module _ (new : Segment) (d : Done code memory quota (pending_of old.body) old new) where
    seen : act_seen (pending_of old.body) ≡ act
    seen = is.body.act d.running

    shown : Shows memory old.writes.pieces now.cells
    shown = shows P start first n old.writes.pieces is.writes

    found_is : d.loaded ≡ found_by act now.cells
    found_is = d.finds now.cells shown ∙ ap (λ (a : Meant CodeScript). found_by a now.cells) seen

    answered : answer_to (act_seen (pending_of old.body)) d.loaded ≡ found_by act now.cells
    answered = ap (λ (a : Meant CodeScript). answer_to a d.loaded) seen ∙ ap (answer_to act) found_is ∙ answer_is act now.cells

    body_is : IsBody code start (found_by act now.cells ∷ now.found) new.body
    body_is = subst (λ (v : ℕ). IsBody code start (v ∷ now.found) new.body) answered (d.next start now.found is.body)

    stays_so : stops_after P start first quota n ≡ false
    stays_so =
        sym (same_stop act n (ticks_after P start first n) quota)
        ∙ ap (λ (k : ℕ). stops_before act k (ticks_after P start first n) quota) (sym is.count)
        ∙ ap (λ (t : ℕ). stops_before act old.count t quota) (sym is.ticks)
        ∙ ap (λ (a : Meant CodeScript). stops_before a old.count old.ticks quota) (sym seen)
        ∙ d.stays

    way_is : Went code start first begun (suc n) new.body new.children.items new.prints.items
    way_is = go (creates (pending_of old.body)) refl d.adds
      where
        go : (t : Bool) → creates (pending_of old.body) ≡ t → AddsWhen t code old.body old.children.items new.children.items → Went code start first begun (suc n) new.body new.children.items new.prints.items
        go true e (child, more, is_child) =
            let none : new.prints.items ≡ old.prints.items = d.prints ∙ prints_nothing (pending_of old.body) old.prints.items e in
            let next : IsNext code 0 old.body new.body = λ s f i. subst (λ (v : ℕ). IsBody code s (v ∷ f) new.body) (finds_nothing (pending_of old.body) d.loaded e) (d.next s f i) in
            rw (none, more) (went_new new.body child is.way d.running d.goes e is_child next)
        go false e same =
            let next : IsNext code (found_by act now.cells) old.body new.body = subst (λ (v : ℕ). IsNext code v old.body new.body) found_is d.next in
            let printed = d.prints in
            rw (printed, same) (went_on new.body is.way d.running d.goes e d.keyed next)

    goes_so : (k : ℕ) → k < suc n → stops_after P start first quota k ≡ false
    goes_so k l = go (which k l)
      where
        which : (k : ℕ) → k < suc n → (k < n) ⊎ (k ≡ n)
        which k l = grind (arith, l)

        go : (k < n) ⊎ (k ≡ n) → stops_after P start first quota k ≡ false
        go (inl m) = is.goes k m
        go (inr e) = subst (λ (j : ℕ). stops_after P start first quota j ≡ false) (sym e) stays_so

    pub more : HasCome code start found memory quota begun (suc n) new
    unfolding stage_after ticks_after made_after printed_after
    more =
        record {
          goes = goes_so;
          ticks = d.ticks ∙ ap (λ (t : ℕ). t + one_tick (act_seen (pending_of old.body))) is.ticks ∙ ap (λ (a : Meant CodeScript). ticks_after P start first n + one_tick a) seen;
          count = d.count ∙ ap (λ (k : ℕ). min (k + 1) (2 ^ 64 - 1)) is.count ∙ more_counted n;
          body = body_is;
          writes = written_more P start first n old.writes.pieces new.writes.pieces is.writes (subst (λ (a : Meant CodeScript). Leaves a now.cells old.writes.pieces new.writes.pieces) seen (d.writes now.cells shown));
          children = children_more code start now.found old.body (made_after P start first n) old.children.items new.children.items is.body seen is.children d.adds;
          prints =
              d.prints
              ∙ prints_more (pending_of old.body) old.prints.items d.keyed
              ∙ ap (λ (ps : List Print). ps ++ printed_by (act_seen (pending_of old.body))) is.prints
              ∙ ap (λ (a : Meant CodeScript). printed_after P start first n ++ printed_by a) seen;
          way = way_is;
        }

  -- the part stops at the end of its body
  pub ended_stops : is_over old.body ≡ true → stops_after P start first quota n ≡ true
  ended_stops e = subst (λ (a : Meant CodeScript). stops_before a n (ticks_after P start first n) quota ≡ true) (sym (over_stops P start now.found (sym is.body.ended ∙ e))) refl

  -- and where its next act tells
  pub act_stops : is_over old.body ≡ false → stops_before (act_seen (pending_of old.body)) old.count old.ticks quota ≡ true → stops_after P start first quota n ≡ true
  act_stops r e =
      sym (same_stop act n (ticks_after P start first n) quota)
      ∙ ap (λ (k : ℕ). stops_before act k (ticks_after P start first n) quota) (sym is.count)
      ∙ ap (λ (t : ℕ). stops_before act old.count t quota) (sym is.ticks)
      ∙ ap (λ (a : Meant CodeScript). stops_before a old.count old.ticks quota) (sym (is.body.act r))
      ∙ e

  -- then that is the whole part
  pub stopped : stops_after P start first quota n ≡ true → IsSegment code start found memory quota begun old
  stopped e = record { acts = n; part = record { goes = is.goes; stops = e }; count = is.count; body = is.body; writes = is.writes; children = is.children; prints = is.prints; way = is.way }

-- a part at its beginning
pub begins : (code : CodeParts) (start : Start CodeScript) (found memory : List ℕ) (quota : ℕ) (begun : Body) (s : Segment) → IsBody code start found begun → s.body ≡ begun → s.writes.pieces ≡ [] → s.children.items ≡ [] → s.prints.items ≡ []
    → s.count ≡ 0 → s.ticks ≡ 0 → HasCome code start found memory quota begun 0 s
unfolding stage_after ticks_after made_after printed_after
begins code start found memory quota begun s is body writes children prints count ticks =
    record {
      goes = λ k l. absurd (omega (arith, l));
      ticks = ticks;
      count = count;
      body = subst (λ (b : Body). IsBody code start found b) (sym body) is;
      writes = subst (λ (ws : List (Piece ℕ)). Rattle.oss_segment.specs.Writes.AreWritten (asks code) start (first_of found memory) 0 ws) (sym writes) (written_none (asks code) start (first_of found memory));
      children = subst (λ (bs : List Body). AreNew code [] bs) (sym children) tt;
      prints = prints;
      way = rw (body, children, prints) went_none;
    }

-- What is left falls with an act that is done
pub falls : (code : CodeParts) (start : Start CodeScript) (found : List ℕ) (loaded : ℕ) (count ticks quota : ℕ) (old new : Body) → IsBody code start found old → is_over old ≡ false
    → stops_before (act_seen (pending_of old)) count ticks quota ≡ false → IsNext code loaded old new → body_left code new < body_left code old
falls code start found loaded count ticks quota old new is running stays next =
    left_falls code start found (answer_to (act_seen (pending_of old)) loaded) old new is (next start found is)
    (λ h. (goes_from (act_seen (pending_of old)) count ticks quota stays).halt (subst IsHalt (sym (is.act running)) h))

less_or_not : (a b : ℕ) → (a < b) ⊎ (b ≤ a)
less_or_not a b = grind arith

-- what a fact gives that is there, though it is not told which
pub less_by : {A : Type 0} (a b : ℕ) → ∥ A ∥₁ → (A → a < b) → a < b
less_by a b there f = go (less_or_not a b)
  where
    go : (a < b) ⊎ (b ≤ a) → a < b
    go (inl l) = l
    go (inr l) = absurd (not_there there (λ x. let k = f x in omega (arith, k, l)))

-- the body behind a part is one of the same task
pub known_behind : (code : CodeParts) (memory : List ℕ) (quota : ℕ) (old : Body) (s : Segment) → IsKnown code old
    → ((start : Start CodeScript) (found : List ℕ) → IsBody code start found old → IsSegment code start found memory quota old s) → IsKnown code s.body
known_behind code memory quota old s known part =
    ∥∥₁_map known (λ k. (k.0, (stage_after (asks code) k.0 (first_of k.1 memory) (part k.0 k.1 k.2).acts).found, (part k.0 k.1 k.2).body))
