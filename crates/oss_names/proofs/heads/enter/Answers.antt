use Rattle.std.proofs.Common.{◌∙◌, Ok, Err, sym}
use Rattle.oss_syntax.specs.declared.refusal.Refusal.TheVariants as refusal
use Rattle.oss_grammar.specs.StaticRules.{head_rules}
use Rattle.oss_names.proofs.EndLemmas.{ends-more}
use Rattle.oss_names.proofs.HeadLemmas.{head-told, loop_more}
use Rattle.oss_names.proofs.heads.enter.Goals as goal

pub returns-in-Some : goal.returns-in-Some
returns-in-Some c =
    let all = c.args.globals.now in
    let ls = c.args.locals.now in
    let head = c.args.head.now in
    ends-more ls (loop_more head) c.add_locals.new.locals (head_rules all ls head) (Err (refusal.Refused c.in-Some.broken)) c.in-Ok.ensures
    (sym (head-told all ls c.add_locals.new.locals head c.len-outer.result c.as_slice.result.now c.loop_clauses-clauses.result c.refusal_of_head-behind.result
    c.len-outer.ensures c.in-Ok.ensures c.as_slice.ensures c.loop_clauses-clauses.ensures c.refusal_of_head-behind.ensures) ∙ sym c.before-2.ensures ∙ c.in-Some.is)

pub returns-in-None : goal.returns-in-None
returns-in-None c =
    let all = c.args.globals.now in
    let ls = c.args.locals.now in
    let head = c.args.head.now in
    ends-more ls (loop_more head) c.add_locals.new.locals (head_rules all ls head) (Ok tt) c.in-Ok.ensures
    (sym (head-told all ls c.add_locals.new.locals head c.len-outer.result c.as_slice.result.now c.loop_clauses-clauses.result c.refusal_of_head-behind.result
    c.len-outer.ensures c.in-Ok.ensures c.as_slice.ensures c.loop_clauses-clauses.ensures c.refusal_of_head-behind.ensures) ∙ sym c.before-2.ensures ∙ c.in-None.is)
