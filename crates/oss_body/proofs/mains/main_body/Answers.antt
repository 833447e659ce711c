use Rattle.std.proofs.Common.{◌≡◌, ℕ, List, length, subst, ap, ◌∙◌}
use Rattle.std.specs.Prelude.{[]}
use Rattle.oss_code.specs.declared.code.CodeParts.{CodeParts}
use Rattle.oss_machine.specs.Asks.{meant_order}
use Rattle.oss_machine.specs.Frames.{CodeScript}
use Rattle.oss_model.specs.Bodies.{Order, Start}
use Rattle.oss_model.specs.Context.{Context, main_context}
use Rattle.oss_body.specs.Mains.{code_main, main_order}
use Rattle.oss_body.specs.Relation.{IsBody}
use Rattle.oss_body.specs.declared.body.Body.{Body}
use Rattle.oss_body.proofs.Results.{if_ok}
use Rattle.oss_body.proofs.mains.main_body.Goals as goal

-- a start with main's order and main's context is that of main
starts_main : (code : CodeParts) (fuel : ℕ) (body : Body) (order : Order CodeScript) (context : Context) → order ≡ main_order → context ≡ main_context (length code.first) fuel → IsBody code (record { order = order; context = context; path = [] }) [] body
    → IsBody code (code_main code fuel) [] body
starts_main code fuel body order context e f is = subst (λ (x : Start CodeScript). IsBody code x [] body) (λ i. record { order = e i; context = f i; path = [] }) is

pub returns : goal.returns
returns c = if_ok c.start.result (λ body started.
    starts_main c.args.code.now c.args.fuel body (meant_order c.main_order-order.result) c.in_ok-context.context c.main_order-order.ensures
    (c.in_ok-context.ensures ∙ ap (λ (xs : List ℕ). main_context (length xs) c.args.fuel) (c.as_slice.ensures ∙ c.first.ensures)) (started [] c.in_ok-point.ensures)) c.start.ensures
