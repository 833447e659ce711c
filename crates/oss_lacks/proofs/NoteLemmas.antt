-- What is noted of one ask.
use Rattle.std.proofs.Common.{◌≡◌, ℕ, refl, sym, subst, ap, ◌∙◌, List, [], ◌∷◌, Bool, Option}
use Rattle.std.specs.Prelude.{map}
use Rattle.oss_syntax.specs.declared.access.Access.{Access}
use Rattle.oss_syntax.specs.declared.access.Range.{Range}
use Rattle.oss_model.specs.Bodies.{Ask}
use Rattle.oss_model.specs.Marks.{AsksFor}
use Rattle.oss_meaning.specs.Clauses.{waited_for}
use Rattle.oss_meaning.specs.Sections.{declared_on}
use Rattle.oss_code.specs.declared.order.TaskOrder.{TaskOrder}
use Rattle.oss_machine.specs.Asks.{meant_ask, meant_order}
use Rattle.oss_machine.specs.declared.ask.Ask.{Ask as CodeAsk}
use Rattle.oss_machine.specs.declared.ask.Ask.TheVariants as ask
use Rattle.oss_machine.specs.Frames.{CodeScript}
use Rattle.oss_task_needs.specs.Asking.{Asked}
use Rattle.oss_open_needs.specs.Opening.{releases, waits}
use Rattle.oss_lacks.specs.declared.following.Following.{Following}
use Rattle.oss_lacks.specs.Asking.{Asking, asked_by, range_of}
use Rattle.oss_lacks.specs.Following.{Asks, Ends, Follows, IsFollowing, Notes, Opens}
use Rattle.oss_lacks.specs.Nests.{Nest, Numbered}
use Rattle.oss_lacks.proofs.DeedLemmas.{IsPlain, plain_behind}

pub notes_plain : (q : Ask CodeScript) (line created : ℕ) (final : Bool) (old new : Following) → IsPlain q → Asks (asked_by q) old new → Notes q line created final old new
notes_plain q line created final old new p asks f n way made last s = subst (λ (m : Nest Asking). IsFollowing m new) (sym (plain_behind f q line n p)) (asks n s)

named_ranges : (ranges : List Range) → map range_of (declared_on waited_for ranges) ≡ ranges
named_ranges [] = refl
named_ranges (r ∷ rest) = ap (λ (rs : List Range). r ∷ rs) (named_ranges rest)

module _ {code : CodeAsk} (line created : ℕ) (final : Bool) (old new : Following) where
  -- the ask of the code is this one
  pub asked_so : {q : CodeAsk} → code ≡ q → Notes (meant_ask q) line created final old new → Notes (meant_ask code) line created final old new
  asked_so e h = subst (λ (x : CodeAsk). Notes (meant_ask x) line created final old new) (sym e) h

  pub noted_plain : {q : CodeAsk} → code ≡ q → IsPlain (meant_ask q) → Asks (asked_by (meant_ask q)) old new → Notes (meant_ask code) line created final old new
  noted_plain {q = q} e p asks = asked_so e (notes_plain (meant_ask q) line created final old new p asks)

  pub noted_wait : {ranges given : List Range} → code ≡ ask.WaitOn ranges → given ≡ ranges → Asks (waits given) old new → Notes (meant_ask code) line created final old new
  noted_wait {ranges = ranges} e g asks =
      asked_so e (notes_plain (Ask.WaitOn (declared_on waited_for ranges)) line created final old new tt
      (subst (λ (rs : List Range). Asks (waits rs) old new) (g ∙ sym (named_ranges ranges)) asks))

  pub noted_release : {clauses given : List Access} → code ≡ ask.Release clauses → given ≡ clauses → Asks (releases given) old new → Notes (meant_ask code) line created final old new
  noted_release {clauses = clauses} e g asks =
      asked_so e (notes_plain (Ask.Release clauses) line created final old new tt (subst (λ (xs : List Access). Asks (releases xs) old new) g asks))

  pub noted_create : {order given : TaskOrder} → code ≡ ask.Create order → given ≡ order → Opens (meant_order given) line created final old new → Notes (meant_ask code) line created final old new
  noted_create {order = order} e g opens = asked_so e (subst (λ (o : TaskOrder). Opens (meant_order o) line created final old new) g opens)

  pub noted_end : code ≡ ask.End → Ends old new → Notes (meant_ask code) line created final old new
  noted_end e ends = asked_so e (λ f n way made last s. ends n s)

-- what it touches
pub asked_cell : {code q : CodeAsk} → code ≡ q → (c : ℕ) → AsksFor (meant_ask q) c → AsksFor (meant_ask code) c
asked_cell e c h = subst (λ (x : CodeAsk). AsksFor (meant_ask x) c) (sym e) h

-- Nothing is noted of the other asks.
pub noted_none : {code q : CodeAsk} (line created : ℕ) (final : Bool) (k : Following) → code ≡ q → IsPlain (meant_ask q) → ((asked : Asked) → asked_by (meant_ask q) asked ≡ asked) → Notes (meant_ask code) line created final k k
noted_none {q = q} line created final k e p same = noted_plain line created final k k e p (λ n s. still n.acting.number n.acting.task.path n.acting.task.line n.acting.task.clauses n.acting.task.final n.acting.task.asked (asked_by (meant_ask q) n.acting.task.asked) n.above n.ended (sym (same n.acting.task.asked)) s)
  where
    still : (number : ℕ) (path : List ℕ) (at_line : ℕ) (clauses : List Access) (last : Bool) (asked now : Asked) (above : List (Numbered Asking)) (ended : List (Option Asking)) → asked ≡ now
        → Follows (record { number = number; task = record { path = path; line = at_line; clauses = clauses; final = last; asked = asked } }) above ended k
        → Follows (record { number = number; task = record { path = path; line = at_line; clauses = clauses; final = last; asked = now } }) above ended k
    still number path at_line clauses last asked now above ended e h =
        subst (λ (x : Asked). Follows (record { number = number; task = record { path = path; line = at_line; clauses = clauses; final = last; asked = x } }) above ended k) e h
