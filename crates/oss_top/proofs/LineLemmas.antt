-- The lines behind the output of a run: none in most modes, those of one worker, and that two texts of an order are one.
use Rattle.std.proofs.Common.{◌≡◌, ◌∙◌, ◌<◌, ℕ, Bool, true, false, List, [], ◌∷◌, ◌++◌, refl, sym, ap, subst}
use Rattle.std.specs.Prelude.{IsPermutation}
use Rattle.std.proofs.lemmas.List.{append-nil}
use Rattle.oss_syntax.specs.declared.tree.program.Program.{Program}
use Rattle.oss_model.specs.Order.{IsIn, here, there}
use Rattle.oss_model.specs.declared.answer.Answer.{Answer}
use Rattle.oss_model.specs.declared.answer.Answer.TheVariants.{Done, Fault}
use Rattle.oss_meaning.specs.Expressions.{TreeScript}
use Rattle.oss_meaning.specs.Meaning.{asks_of}
use Rattle.oss_meaning.specs.Results.{first_cells, main_of}
use Rattle.oss_prior_laws.proofs.OneOrderLemmas.{one_order}
use Rattle.oss_report.specs.Runs.{order_text, who_line, who_text}
use Rattle.oss_command.specs.Commands.{AreFit, HasLinesFor, is_by_workers}
use Rattle.oss_command.specs.declared.options.Options.{Options}
use Rattle.oss_command.specs.declared.options.RunMode.{RunMode}
use Rattle.oss_command.specs.declared.options.RunMode.TheVariants as mode
use Rattle.oss_top.specs.Forms.{answer_reply, done_reply, dump_behind, run_reply}
use Rattle.oss_top.specs.Workers.{AreLinesOf, AreSortedPoints, AreToldOf, Beginning, IsAsked, IsOrderOf, IsOrderText, IsToldByOne, IsWhoText, lines_in, points_in}

-- the options of another mode ask for no lines
pub no_lines_asked : (options : Options) → AreFit options → is_by_workers options.mode ≡ false → (options.who ≡ false) × (options.order ≡ false)
no_lines_asked options fit e = on options.mode fit.lines e where
  on : (m : RunMode) → HasLinesFor m options.who options.order → is_by_workers m ≡ false → (options.who ≡ false) × (options.order ≡ false)
  on mode.Serial h e = h
  on mode.Waves h e = h
  on mode.Workers h e = absurd (cc)

-- then there are none
pub no_lines : (options : Options) (p : Program) → options.who ≡ false → options.order ≡ false → AreLinesOf options p []
no_lines options p who order = record {
  who = [];
  order = [];
  who_is = subst (λ (b : Bool). IsAsked b (IsWhoText p options.fuel options.workers) []) (sym who) refl;
  order_is = subst (λ (b : Bool). IsAsked b (IsOrderText p options.fuel) []) (sym order) refl;
  lines_are = refl;
}

-- and the reply to a run without lines is that of its answer
pub without_lines : (dump : Bool) (p : Program) (a : Answer) → answer_reply dump p a ≡ run_reply dump p [] a
without_lines dump p (Done text cells) = ap (λ (t : List ℕ). done_reply t) (sym (append-nil (text ++ dump_behind dump p cells)))
without_lines dump p (Fault kind line text) = refl

-- what is asked for
asked_more : (b : Bool) (A B : List ℕ → Type 0) (text : List ℕ) → ((t : List ℕ) → A t → B t) → IsAsked b A text → IsAsked b B text
asked_more false A B text more is = is
asked_more true A B text more is = more text is

-- tasks that the worker 0 began
abbrev by_zero : List (List ℕ) → List Beginning
by_zero [] = []
by_zero (p ∷ ps) = record { point = p; worker = 0 } ∷ by_zero ps

points_by_zero : (ps : List (List ℕ)) → points_in (by_zero ps) ≡ ps
points_by_zero [] = refl
points_by_zero (p ∷ ps) = ap (λ (qs : List (List ℕ)). p ∷ qs) (points_by_zero ps)

lines_by_zero : (ps : List (List ℕ)) → who_text 0 ps ≡ lines_in (by_zero ps)
lines_by_zero [] = refl
lines_by_zero (p ∷ ps) = ap (λ (text : List ℕ). who_line 0 p ++ text) (lines_by_zero ps)

zero_below : (workers : ℕ) (ps : List (List ℕ)) → 0 < workers → (b : Beginning) → IsIn b (by_zero ps) → b.worker < workers
zero_below workers [] some b i = elim i [ ]
zero_below workers (p ∷ ps) some b here = some
zero_below workers (p ∷ ps) some b (there i) = zero_below workers ps some b i

who_by_one : (p : Program) (fuel workers : ℕ) (order : List (List ℕ)) (text : List ℕ) → 0 < workers → IsOrderOf p fuel order → IsToldByOne order text → IsWhoText p fuel workers text
who_by_one p fuel workers order text some is told = record {
  order = order;
  is_order = is;
  tasks = by_zero told.sorted;
  each = subst (λ (ps : List (List ℕ)). IsPermutation order ps) (sym (points_by_zero told.sorted)) told.each;
  sorted = subst (λ (ps : List (List ℕ)). AreSortedPoints ps) (sym (points_by_zero told.sorted)) told.in_order;
  below = zero_below workers told.sorted some;
  text_is = told.text_is ∙ lines_by_zero told.sorted;
}

-- the lines of a run by one worker
pub lines_by_one : (options : Options) (p : Program) (order : List (List ℕ)) (lines : List ℕ) → 0 < options.workers → IsOrderOf p options.fuel order → AreToldOf options order lines → AreLinesOf options p lines
lines_by_one options p order lines some is told = record {
  who = told.who;
  order = told.told;
  who_is = asked_more options.who (IsToldByOne order) (IsWhoText p options.fuel options.workers) told.who (λ text by. who_by_one p options.fuel options.workers order text some is by) told.who_is;
  order_is = asked_more options.order (λ text. text ≡ order_text order) (IsOrderText p options.fuel) told.told (λ text e. record { order = order; is_order = is; text_is = e }) told.order_is;
  lines_are = told.lines_are;
}

-- a program has one text of its order
order_texts_once : (p : Program) (fuel : ℕ) (b : Bool) (text other : List ℕ) → IsAsked b (IsOrderText p fuel) text → IsAsked b (IsOrderText p fuel) other → text ≡ other
order_texts_once p fuel false text other x y = x ∙ sym y
order_texts_once p fuel true text other x y =
    x.text_is ∙ ap order_text (one_order TreeScript (asks_of p.items) (main_of p.items fuel) (first_cells p.items) x.order y.order x.is_order y.is_order) ∙ sym y.text_is

-- lines that do not tell of workers are settled by the program
pub lines_once : (options : Options) (p : Program) (lines others : List ℕ) → options.who ≡ false → AreLinesOf options p lines → AreLinesOf options p others → lines ≡ others
lines_once options p lines others who x y =
    let none : x.who ≡ [] = subst (λ (b : Bool). IsAsked b (IsWhoText p options.fuel options.workers) x.who) who x.who_is in
    let nothing : y.who ≡ [] = subst (λ (b : Bool). IsAsked b (IsWhoText p options.fuel options.workers) y.who) who y.who_is in
    x.lines_are ∙ ap (λ (t : List ℕ). t ++ x.order) (none ∙ sym nothing) ∙ ap (λ (t : List ℕ). y.who ++ t) (order_texts_once p options.fuel options.order x.order y.order x.order_is y.order_is) ∙ sym y.lines_are

-- the text of an order, if it is asked for
order_text_for : (p : Program) (fuel : ℕ) (order : List (List ℕ)) → IsOrderOf p fuel order → (b : Bool) → (text : List ℕ) × IsAsked b (IsOrderText p fuel) text
order_text_for p fuel order is false = ([], refl)
order_text_for p fuel order is true = (order_text order, record { order = order; is_order = is; text_is = refl })

-- so there are lines that do not tell of workers
pub lines_of_order : (options : Options) (p : Program) → options.who ≡ false → (order : List (List ℕ)) → IsOrderOf p options.fuel order → (lines : List ℕ) × AreLinesOf options p lines
lines_of_order options p who order is =
    let (text, told) = order_text_for p options.fuel order is options.order in (
      text,
      record {
        who = [];
        order = text;
        who_is = subst (λ (b : Bool). IsAsked b (IsWhoText p options.fuel options.workers) []) (sym who) refl;
        order_is = told;
        lines_are = refl;
      },
    )
