-- A stage at which both runs stand side by side, and what one act of both makes of it.
use Rattle.std.proofs.Common.{◌≡◌, refl, sym, subst, ap, ◌∙◌, ℕ, List, ◌∷◌, length, Option}
use Rattle.oss_model.specs.Context.{Context}
use Rattle.oss_model.specs.Bodies.{Act, Ask, Frame, Order, Program, Start, answered_frame, frame_after, settled_frame, with_context}
use Rattle.oss_model.specs.Bodies.Act.{Over}
use Rattle.oss_model.specs.Moves.{act_now}
use Rattle.oss_model.specs.Sequence.{IsAtEnd, Running, RunsOn, Sequential, printed_after}
use Rattle.oss_model.specs.Agreement.{main_start}
use Rattle.oss_model.proofs.BodyLemmas.{settle_same}
use Rattle.oss_needs.specs.declared.clause.Clause.{Clause}
use Rattle.oss_freed.specs.Freed.{freed}
use Rattle.oss_free_tasks.specs.OpenTasks.{Goes, Stands}
use Rattle.oss_free_tasks.proofs.FreeTurns.{settled_freed}
use Rattle.oss_lacks.specs.Asking.{Asking, asked_by, asking}
use Rattle.oss_lacks.specs.Nests.{Nest, with_acting}
use Rattle.oss_missing_waits.specs.Holding.{Holding}
use Rattle.oss_missing_laws.proofs.AlikeLemmas.{IsAlike, IsBeside, even, settled_alike}
use Rattle.oss_missing_laws.proofs.KnownLemmas.{IsKnown}
use Rattle.oss_missing_laws.proofs.LevelLemmas.{AreTogether, IsTogether, Twin, asked_nest, frees, given_at, head_of, held_nest, nothing_pending, owns, rehead}
use Rattle.oss_missing_laws.proofs.SameLemmas.{IsSame, one_step, prints}

-- tasks behind one more answer
pub more_alike : {S : Type 0} {f g : Frame S} (v : ℕ) (x y : Context) → IsAlike f g → x.ticks ≡ y.ticks → x.fuel ≡ y.fuel → x.created ≡ y.created → x.depth ≡ y.depth → x.final ≡ y.final
    → IsAlike (answered_frame v (with_context x f)) (answered_frame v (with_context y g))
more_alike v x y a t u c d k = record { script = a.script; answers = ap (λ (vs : List ℕ). v ∷ vs) a.answers; ticks = t; fuel = u; created = c; depth = d; final = k; awaits = a.awaits }

module _ {S : Type 0} (P : Program S) (order : Order S) (first : List ℕ) (fuel : ℕ) where
  abbrev pub free_run : Program S
  free_run = freed (length first) P

  abbrev pub start : Start S
  start = main_start order (length first) fuel

  -- Both stand at these tasks, with the same memory and output.
  pub record Level (z : Running S) (t : Twin S) (rest : List (Twin S)) : Type 0 where
    pub cells : List ℕ
    pub owned : Stands P start first (t.own ∷ owns rest) cells
    pub freely : Stands free_run start first (t.free ∷ frees rest) cells
    pub same : IsSame free_run freely.stage z
    pub printed : owned.stage.printed ≡ freely.stage.printed
    pub together : AreTogether P (length first) nothing_pending t rest

  -- Main has ended in both.
  pub record IsOver (z : Running S) : Type 0 where
    pub stage : Running S
    pub run : Sequential P start first stage
    pub end : IsAtEnd P stage
    pub over : act_now P end.task.body ≡ Over
    pub other : Running S
    pub last : IsAtEnd free_run other
    pub over_too : act_now free_run last.task.body ≡ Over
    pub same : IsSame free_run other z
    pub cells : stage.state.cells ≡ other.state.cells
    pub printed : stage.printed ≡ other.printed

  pub data Reach (z : Running S) (n : Nest Asking) (m : Nest Holding) : Type 0 where
    stand : (t : Twin S) (rest : List (Twin S)) (ca : List (Option Asking)) (ch : List (Option Holding)) → Level z t rest → length ch ≡ length ca → n ≡ asked_nest t rest ca → m ≡ held_nest t rest ch → Reach z n m
    done : IsOver z → Reach z n m

  module _ (z y : Running S) (t : Twin S) (rest : List (Twin S)) (l : Level z t rest) (r : RunsOn free_run z y) where
    pub gone : (u : Twin S) (more : List (Twin S)) (ca : List (Option Asking)) (ch : List (Option Holding)) (cells : List ℕ)
        → Goes P start first l.owned.stage (t.own ∷ owns rest) (u.own ∷ owns more) cells
        → Goes free_run start first l.freely.stage (t.free ∷ frees rest) (u.free ∷ frees more) cells
        → ((out : List ℕ) → printed_after (act_now P l.owned.body) out ≡ printed_after (act_now free_run l.freely.body) out)
        → AreTogether P (length first) nothing_pending u more → length ch ≡ length ca → Reach y (asked_nest u more ca) (held_nest u more ch)
    gone u more ca ch cells gp gf out h k =
        let level : Level y u more = record {
          cells = cells;
          owned = gp.stands;
          freely = gf.stands;
          same = one_step free_run l.freely.stage z gf.stands.stage y l.same gf.runs r;
          printed = prints P start first t.own (owns rest) l.cells l.owned gp.stands.stage gp.runs
              ∙ ap (λ (x : List ℕ). printed_after (act_now P l.owned.body) x) l.printed
              ∙ out l.freely.stage.printed
              ∙ sym (prints free_run start first t.free (frees rest) l.cells l.freely gf.stands.stage gf.runs);
          together = h;
        } in
        stand u more ca ch level k refl refl

    -- an act of the first task, which goes on
    pub plain : (q : Ask S) (a b : Act S) (v : ℕ) (cells : List ℕ) (h : Holding) (ca : List (Option Asking)) (ch : List (Option Holding)) → length ch ≡ length ca
        → act_now P l.owned.body ≡ a → act_now free_run l.freely.body ≡ b
        → Goes P start first l.owned.stage (t.own ∷ owns rest) (settled_frame P (frame_after a v t.own) ∷ owns rest) cells
        → Goes free_run start first l.freely.stage (t.free ∷ frees rest) (settled_frame free_run (frame_after b v t.free) ∷ frees rest) cells
        → ((out : List ℕ) → printed_after a out ≡ printed_after b out)
        → IsAlike (frame_after a v t.own) (frame_after b v t.free)
        → h.has ≡ t.held.task.has
        → IsKnown (length first) (given_at rest t.asked.task) (asked_by q t.asked.task.asked) h.released h.lent (frame_after a v t.own).context
        → Reach y (with_acting (asking (asked_by q) t.asked.task) (asked_nest t rest ca)) (with_acting h (held_nest t rest ch))
    plain q a b v cells h ca ch k ea eb gp gf out al has kn =
        let f : Frame S = frame_after a v t.own in
        let g : Frame S = frame_after b v t.free in
        let u : Twin S = record { own = settled_frame P f; free = settled_frame free_run g; asked = record { number = t.asked.number; task = asking (asked_by q) t.asked.task }; held = record { number = t.held.number; task = h } } in
        let old = head_of P (length first) nothing_pending t rest l.together in
        let new : IsTogether P (length first) (given_at rest t.asked.task) nothing_pending u = record {
          beside = subst (λ (x : Frame S). IsBeside P (settled_frame P f) x) (sym (settled_freed P (length first) g)) (even (settled_alike P f g al));
          known = subst (λ (x : Context). IsKnown (length first) (given_at rest t.asked.task) (asked_by q t.asked.task.asked) h.released h.lent x) (sym (settle_same P f).context) kn;
          has = λ c i. ap (λ (x : ℕ → Option Clause). x c) has ∙ old.has c i;
        } in
        gone u rest ca ch cells gp gf (λ o. ap (λ (x : Act S). printed_after x o) ea ∙ out o ∙ sym (ap (λ (x : Act S). printed_after x o) eb)) (rehead P (length first) nothing_pending nothing_pending t u rest l.together refl new) k
