use Rattle.std.proofs.Common.{◌≡◌, ℕ, ◌<◌, refl, ap, subst, sym, ◌∙◌, arith, Some}
use Rattle.std.specs.Prelude.{Vec}
use Rattle.std.specs.declared.alloc.Global.{Global}
use Rattle.oss_machine.specs.Rushes.{Rushes}
use Rattle.oss_machine.proofs.RushLemmas.{unmoved}
use Rattle.oss_model.specs.Bodies.{act_of_ask}
use Rattle.oss_body.specs.declared.act.Act.{Act}
use Rattle.oss_body.specs.Acts.{HasContext, act_seen}
use Rattle.oss_body.specs.Places.{Framed}
use Rattle.oss_body.specs.Touches.{IsMade}
use Rattle.oss_body.proofs.Advancing.{stays}
use Rattle.oss_body.proofs.RushLemmas.{IsThere, not_rushed, rushed, rushed_body, rushed_key, some_key}
use Rattle.oss_body.proofs.StackLemmas.{tasks_of}
use Rattle.oss_body.proofs.body.Body.rush.Goals as goal

pub returns-then-is_none-clause-rushed : goal.returns-then-is_none-clause-rushed
returns-then-is_none-clause-rushed c = λ start found is.
    not_rushed c.args.code.now start c.args.self.now.tasks.below found c.args.cells.now.items c.args.cells.now.items c.args.self.now is refl

-- nothing has happened
pub returns-then-count-eq0-clause-rushed : goal.returns-then-count-eq0-clause-rushed
returns-then-count-eq0-clause-rushed c = λ start found is.
    let code = c.args.code.now in
    let old = c.args.self.now in
    let new = c.rush-count.new.self in
    let same =
    unmoved IsMade code
    (subst (λ (n : ℕ). Rushes IsMade code old.tasks.top.machine old.tasks.top.place c.args.cells.now n new.machine new.place c.rush-count.new.cells) c.if-count-eq0.true c.rush-count.ensures.rushes) in
    let top : ◌≡◌ {A = Framed} new old.tasks.top = λ i. record { machine = same.0 i; place = same.1 i; awaits = c.rush-count.ensures.awaits i } in
    not_rushed code start old.tasks.below found c.args.cells.now.items c.rush-count.new.cells.items _
    (stays code start found old _ refl refl (ap (λ (t : Framed). tasks_of t old.tasks.below old.tasks.ended) top) refl is) (ap (λ (v : Vec ℕ Global). v.items) same.2)

pub quick_act-act-requires-clause-key : goal.quick_act-act-requires-clause-key
quick_act-act-requires-clause-key c =
    some_key c.args.self.now.key c.args.self.now.tasks.top.place c.args.self.now.keyed (λ e. let h = rw e at c.is_none.ensures in let g = c.if-is_none.false in let k = rw g at h in cc)
    ∙ ap Some (sym (rushed_key c.rush-count.ensures.rushes))

pub returns-clause-rushed : goal.returns-clause-rushed
returns-clause-rushed c = λ start found is.
    let code = c.args.code.now in
    let old = c.args.self.now in
    let running = c.requires.running in
    let top = c.rush-count.new.self in
    let none = c.if-count-eq0.false in
    let some : 0 < c.rush-count.result = omega (arith, none) in
    let before = c.rush-count.ensures.calm some in
    let after = c.rush-count.ensures.awaits ∙ before in
    let there : IsThere code start old.tasks.below found old.tasks.top.machine old.tasks.top.place =
    (λ i. tasks_of (record { machine = old.tasks.top.machine; place = old.tasks.top.place; awaits = sym before i }) old.tasks.below (sym running i)) ∙ is.tasks running in
    let all = rushed code start old.tasks.below found c.rush-count.ensures.rushes there in
    let kept_act = sym c.replace.ensures.after in
    rushed_body code start old.tasks.below found c.args.cells.now.items c.rush-count.new.cells.items c.rush-count.result old _ top.machine top.place is all some refl refl
    (λ i. tasks_of (record { machine = top.machine; place = top.place; awaits = after i }) old.tasks.below (running i))
    (λ slots included f e. subst (λ (a : Act). act_seen a ≡ act_of_ask slots included f top.machine.asked.ask top.machine.asked.line) kept_act (c.quick_act-act.ensures.act slots included f e))
    (subst (λ (a : Act). HasContext top.place.context a) kept_act c.quick_act-act.ensures.child)
