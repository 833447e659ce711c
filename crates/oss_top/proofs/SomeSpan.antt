-- A span has a reply: the sequential run of a program has so many ticks, a longest chain of its events, and links that stand for it.
use Rattle.std.proofs.Common.{ℕ, inl, inr, refl, List, [], ◌∷◌}
use Rattle.oss_syntax.specs.declared.tree.program.Program.{Program}
use Rattle.oss_model.specs.Agreement.{MainStarts}
use Rattle.oss_model.specs.Bodies.{Program as Asks, Start}
use Rattle.oss_model.specs.Machine.{State}
use Rattle.oss_model.specs.Order.{written}
use Rattle.oss_model.specs.Sequence.{Running, Sequential, opens, runs_on}
use Rattle.oss_model.specs.declared.answer.Answer.{Answer}
use Rattle.oss_wave_laws.proofs.DecideLemmas.{Decided}
use Rattle.oss_meaning.specs.Meaning.{asks_of}
use Rattle.oss_meaning.specs.Results.{IsOutcome, IsOutcomeOf, Outcome, first_cells, main_of, tasks_in, entries_in}
use Rattle.oss_meaning.specs.Results.IsOutcome.{ends as outcome_ends, fails as outcome_fails}
use Rattle.oss_chain_laws.specs.Chains.{capped, ticks_in}
use Rattle.oss_chain_laws.specs.Happenings.{Happening, Acting, Giving}
use Rattle.oss_chain_laws.specs.Runs.{Ticks, more_ticks, no_ticks, ticks_at}
use Rattle.oss_chain_laws.proofs.LongestTheorem.{every_run_has_a_span}
use Rattle.oss_chain_laws.proofs.WaitDecides.{starts_fold}
use Rattle.oss_span.specs.Links.{IsJoined, Unfolds, acts, join, let_, nothing}
use Rattle.oss_span.specs.Reply.{span_text}
use Rattle.oss_span.specs.Spans.{Spans}
use Rattle.oss_span.specs.Spans.Spans.{done as span_done, fails as span_fails}
use Rattle.oss_span.specs.declared.link.Link.{Link}
use Rattle.oss_span.specs.declared.link.Link.TheVariants as links
use Rattle.oss_top.specs.Forms.{told_reply}
use Rattle.oss_top.specs.Spans.{IsSpanReply}
use Rattle.oss_top.specs.declared.reply.Reply.{Reply}

module _ {S : Type 0} (P : Asks S) where
  -- links for a list of events: one for each
  some_links : (s : State S) (es : List Happening) → (chain : List Link) × Unfolds P s chain es
  some_links s [] = ([], nothing)
  some_links s (Acting p n ∷ es) = let r = some_links s es in (links.Acts (written p) n 1 ∷ r.0, acts refl r.1)
  some_links s (Giving p c ∷ es) = go (starts_fold P s p c) (some_links s es)
    where
      go : Decided (IsJoined s p c) → (chain : List Link) × Unfolds P s chain es → (chain : List Link) × Unfolds P s chain (Giving p c ∷ es)
      go (inl h) r = (links.Join (written p) c ∷ r.0, join refl h r.1)
      go (inr none) r = (links.Let (written p) c ∷ r.0, let_ refl none r.1)

  -- how many ticks a run has
  some_ticks : (main : Start S) (cells : List ℕ) (z : Running S) → Sequential P main cells z → (n : ℕ) × Ticks P main cells z n
  some_ticks main cells z opens = (0, no_ticks)
  some_ticks main cells z (runs_on {z = y} run step) = let r = some_ticks main cells y run in (_, more_ticks r.1 step)

  pub record SomeSpan (main : Start S) (cells : List ℕ) (answer : Answer) : Type 0 where
    pub work : ℕ
    pub ticks : ℕ
    pub chain : List Link
    pub spans : Spans P main cells answer work ticks chain

  pub some_span : (main : Start S) (cells : List ℕ) → MainStarts main → (o : Outcome) → IsOutcome P main cells o → SomeSpan main cells o.answer
  some_span main cells ms o (outcome_ends {z = z} run end over) =
      let events = every_run_has_a_span S P main cells z end (ticks_at P z.state) ms run over in
      let chain = some_links z.state events.0 in
      let work = some_ticks main cells z run in
      record { work = capped work.0; ticks = ticks_in (ticks_at P z.state) events.0; chain = chain.0; spans = span_done work.0 events.0 work.1 end over chain.1 events.1 }
  some_span main cells ms o (outcome_fails {z = z} run end at) = record { work = 0; ticks = 0; chain = []; spans = span_fails (tasks_in z.state) (entries_in z.state) (outcome_fails run end at) }

-- so a span has a reply
pub span_reply : (fuel : ℕ) (p : Program) → MainStarts (main_of p.items fuel) → (o : Outcome) → IsOutcomeOf p.items fuel o → (reply : Reply) × IsSpanReply fuel p reply
span_reply fuel p ms o is =
    let r = some_span (asks_of p.items) (main_of p.items fuel) (first_cells p.items) ms o is in (
      told_reply (span_text r.work r.ticks r.chain) o.answer,
      record {
        answer = o.answer;
        text = span_text r.work r.ticks r.chain;
        told = record { work = r.work; span = r.ticks; chain = r.chain; spanned = r.spans; text_is = refl };
        is_reply = refl;
      },
    )
