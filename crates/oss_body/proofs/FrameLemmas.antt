-- One task of a body, as it is kept.
use Rattle.std.proofs.Common.{◌≡◌, ℕ, refl, sym, ap, subst, ◌∙◌, List, ◌∷◌, Bool, true, false}
use Rattle.oss_code.specs.declared.code.CodeParts.{CodeParts}
use Rattle.oss_code.specs.declared.order.TaskOrder.{TaskOrder}
use Rattle.oss_machine.specs.Asks.{meant_order, script_of}
use Rattle.oss_machine.specs.Frames.{CodeScript}
use Rattle.oss_machine.specs.Machines.{Standing, asks, machine_at, machine_start}
use Rattle.oss_model.proofs.BodyLemmas.{settle_same}
use Rattle.oss_model.proofs.OrderLemmas.{reverse_cons}
use Rattle.oss_model.specs.Bodies.{Act as MeantAct, Ask, Frame as Meant, act_of_ask, ask_of, child_frame, frame_act, past_ask, past_silent, settled_frame}
use Rattle.oss_model.specs.Rights.{Right}
use Rattle.oss_model.specs.Bodies.Ask.{Await, Begin, Create, End, Fails, Fold, Print, Read, Release, Tick, Wait, WaitOn, Write}
use Rattle.oss_machine.specs.Hastes.{is_quick_ask}
use Rattle.oss_model.specs.Context.{Context, child_context}
use Rattle.oss_model.specs.Order.{written}
use Rattle.oss_body.specs.Kept.{kept}
use Rattle.oss_body.specs.Places.{Framed, Placed, key_at, place_of}

-- the task that a creation makes
pub child_is : (code : CodeParts) (o : TaskOrder) (f : Meant CodeScript) (x : Framed) (context : Context) (key : List ℕ) (p : Placed) (child : Framed) → x ≡ kept code f → key ≡ key_at x.place → context ≡ child_context f.context o.accesses o.last
    → p ≡ record { context = context; path = key } → child ≡ record { machine = machine_start code (script_of o); place = p; awaits = false } → child ≡ kept code (child_frame f (meant_order o))
child_is code o f x context key p child e k c h n =
    let path : key ≡ written (f.context.created ∷ f.path) = k ∙ ap (λ (y : Framed). key_at y.place) e ∙ ap (λ (r : List ℕ). 0 ∷ r) (sym (reverse_cons f.context.created f.path)) in
    n ∙ (λ i. record { machine = machine_start code (script_of o); place = (h ∙ (λ j. record { context = c j; path = path j })) i; awaits = false })

-- a task that has gone on to its next act
pub settled_kept : (code : CodeParts) (f : Meant CodeScript) (m : Standing) (p : Placed) (awaits : Bool) → m ≡ machine_at code (settled_frame (asks code) f).script (settled_frame (asks code) f).answers → p ≡ place_of f → awaits ≡ f.awaits
    → ◌≡◌ {A = Framed} record { machine = m; place = p; awaits = awaits } (kept code (settled_frame (asks code) f))
settled_kept code f m p awaits e h w =
    let k = settle_same (asks code) f in
    λ i. record { machine = e i; place = (h ∙ (λ j. record { context = sym k.context j; path = written (sym k.path j) })) i; awaits = (w ∙ sym k.awaits) i }

-- where it stands then
pub settled_place_is : (code : CodeParts) (f : Meant CodeScript) (p : Placed) → p ≡ place_of f → p ≡ place_of (settled_frame (asks code) f)
settled_place_is code f p h = let k = settle_same (asks code) f in h ∙ (λ j. record { context = sym k.context j; path = written (sym k.path j) })

-- a task whose next ask is a tick, a touch or a fault stands before its next act already
past_same : (code : CodeParts) (f : Meant CodeScript) (a : Ask CodeScript) → is_quick_ask a ≡ true → past_ask (asks code) f a ≡ f
past_same code f Tick h = refl
past_same code f (Read c) h = refl
past_same code f (Write c v) h = refl
past_same code f (Fails kind) h = refl
past_same code f Begin h = absurd cc
past_same code f (Fold c op v) h = absurd cc
past_same code f (Create o) h = absurd cc
past_same code f Await h = absurd cc
past_same code f Wait h = absurd cc
past_same code f (WaitOn named) h = absurd cc
past_same code f (Release clauses) h = absurd cc
past_same code f (Print text) h = absurd cc
past_same code f End h = refl

pub quick_settled : (code : CodeParts) (f : Meant CodeScript) → is_quick_ask (ask_of (asks code) f).ask ≡ true → settled_frame (asks code) f ≡ f
quick_settled code f h = let e = past_same code f (ask_of (asks code) f).ask h in ap (past_silent (asks code)) e ∙ e

-- the task that acts, after a tick or a touch that it makes at once
pub at_once_kept : (code : CodeParts) (g : Meant CodeScript) (m : Standing) (p : Placed) (awaits : Bool) → m ≡ machine_at code g.script g.answers → p ≡ place_of g → awaits ≡ g.awaits → is_quick_ask m.asked.ask ≡ true
    → ◌≡◌ {A = Framed} record { machine = m; place = p; awaits = awaits } (kept code (settled_frame (asks code) g))
at_once_kept code g m p awaits e h w q =
    (λ i. record { machine = e i; place = h i; awaits = w i })
    ∙ ap (kept code) (sym (quick_settled code g (subst (λ (s : Standing). is_quick_ask s.asked.ask ≡ true) e q)))

pub at_once_act : (code : CodeParts) (g : Meant CodeScript) (m : Standing) (slots : ℕ → Right) (included : Bool) (act : MeantAct CodeScript) → m ≡ machine_at code g.script g.answers → g.awaits ≡ false → is_quick_ask m.asked.ask ≡ true
    → act ≡ act_of_ask slots included g m.asked.ask m.asked.line → act ≡ frame_act (asks code) slots included (settled_frame (asks code) g) (settled_frame (asks code) g).awaits
at_once_act code g m slots included act e w q h =
    let same = quick_settled code g (subst (λ (s : Standing). is_quick_ask s.asked.ask ≡ true) e q) in
    h
    ∙ ap (λ (s : Standing). act_of_ask slots included g s.asked.ask s.asked.line) e
    ∙ ap (λ (b : Bool). frame_act (asks code) slots included g b) (sym w)
    ∙ ap (λ (k : Meant CodeScript). frame_act (asks code) slots included k k.awaits) (sym same)
