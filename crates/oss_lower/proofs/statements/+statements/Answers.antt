use Rattle.std.proofs.Common.{◌≡◌, ◌≤◌, ◌<◌, IfSome, ◌+◌, ◌-◌, ◌++◌, ◌∷◌, ◌∙◌, ap, arith, drop, length, length-append, option_map, subst, sym, take}
use Rattle.std.proofs.lemmas.List.{drop_more}
use Rattle.std.specs.Option.{option_copied}
use Rattle.oss_code.specs.declared.instr.Instr.TheVariants as i
use Rattle.oss_lower_expressions.specs.declared.listing.Jump.TheVariants as jump
use Rattle.oss_lower_laws.specs.ExpressionCode.{one}
use Rattle.oss_lower.specs.Spots.{spot_at}
use Rattle.oss_lower_laws.specs.StatementCode.{codes_in_order, pads_code, part_code, stmt_code, stmt_codes, test_code}
use Rattle.oss_lower.proofs.SpotLemmas.{prefix-trans, stays, still-behind}
use Rattle.oss_lower.proofs.StmtWeights.{weight, weights, weight-one}
use Rattle.oss_lower.proofs.WrittenLemmas.{choice-written, fill-size, for-written, order-step, test-within, turns-written}
use Rattle.oss_lower.proofs.statements.+statements.Goals as goal

pub statements-statement-requires : goal.statements-statement-requires
statements-statement-requires t c =
    let ss = c.args.list.now in
    let s = c.one-item.result in
    let smaller : weight s ≤ weights ss = subst (λ x. weight x ≤ weights ss) (sym c.one-item.is) (weight-one ss c.loop-one.one-index s c.loop-one-test.true) in
    (omega arith, c.loop-one.invariant.behind)

pub statements-loop-one-preserved : goal.statements-loop-one-preserved
statements-loop-one-preserved t c =
    let all = c.args.names.now in
    let a = c.args.around in
    let ss = c.args.list.now in
    let j = c.loop-one.one-index in
    let s = c.one-item.result in
    let mid = c.loop-one.scope in
    let out = c.loop-one.out in
    let now = c.statement.new.scope in
    let new = c.statement.new.out in
    let rest = drop (j + 1) ss in
    let is = c.loop-one.invariant in
    let written = c.in_ok-statement.ensures in
    let size = ap length written.code ∙ length-append out ((stmt_code all s).code (spot_at a mid (length out))) in
    let more : length out ≤ length new = omega arith in
    let front : take (length mid) now ≡ mid = ap (take (length mid)) written.scope ∙ stays all s mid in
    let whole : s ∷ rest ≡ drop j ss = ap (λ x. x ∷ rest) c.one-item.is ∙ sym (drop_more ss j s c.loop-one-test.true) in
    record {
      behind = still-behind a (length out) (length new) is.behind more;
      scope = prefix-trans c.args.scope.now mid now is.scope front;
      code = order-step a all s rest mid now out new is.behind written.code written.scope
          ∙ ap (λ xs. out ++ codes_in_order (stmt_codes all xs) (spot_at a mid (length out))) whole ∙ is.code;
    }

pub choice-returns-clause-code : goal.choice-returns-clause-code
choice-returns-clause-code t c =
    let all = c.args.names.now in
    let a = c.args.around in
    let scope = c.args.scope.now in
    let other = option_map (stmt_code all) (option_copied c.args.other) in
    let o6 = c.fill.new.self in
    let same = c.in_ok-inside.ensures.scope in
    choice-written a all c.args.line c.args.test.now (stmt_code all c.args.side.now) other scope
    c.args.out.now c.push.new.self c.value.new.out c.push-2.new.self c.inside.new.out c.push-3.new.self o6 c.inside_part.new.out c.fill-2.new.self
    c.requires c.in_ok-push.ensures c.in_ok-value.ensures.code c.in_ok-push-2.ensures c.in_ok-inside.ensures.code c.in_ok-push-3.ensures
    (λ before after l is at. c.in_ok-fill.ensures.filled before after l is (c.len-test_at.ensures ∙ at))
    (c.in_ok-inside_part.ensures.code ∙ ap (λ q. o6 ++ part_code other (spot_at a q (length o6))) same)
    (λ before after l is at. c.in_ok-fill-2.ensures.filled before after l is (c.len-end_at.ensures ∙ at))

pub for_loop-returns-clause-code : goal.for_loop-returns-clause-code
for_loop-returns-clause-code t c =
    let all = c.args.names.now in
    let scope = c.args.scope.now in
    let first = option_copied c.args.parts.first in
    let parts = c.in_ok-first_part.ensures in
    let made = c.in_ok-turns.ensures in
    for-written c.args.around all c.args.line (option_map (stmt_code all) first) (option_copied c.args.parts.test) (option_map (stmt_code all) (option_copied c.args.parts.last)) (stmt_code all c.args.parts.body.now)
    scope c.first_part.new.scope c.args.out.now c.push.new.self c.first_part.new.out c.turns.new.out c.push-2.new.self
    c.requires c.in_ok-push.ensures parts.code parts.scope made.code
    (c.in_ok-push-2.ensures ∙ ap (λ n. c.turns.new.out ++ one c.args.line 0 (i.Keep n)) c.len-count.ensures)

pub turns-returns-clause-code : goal.turns-returns-clause-code
turns-returns-clause-code t c =
    let all = c.args.names.now in
    let a = c.args.around in
    let line = c.args.line in
    let scope = c.args.scope.now in
    let test = option_copied c.args.parts.test in
    let last = option_map (stmt_code all) (option_copied c.args.parts.last) in
    let o0 = c.args.out.now in
    let o1 = c.pads.new.out in
    let o4 = c.fill.new.self in
    let o5 = c.inside_part.new.out in
    let start = c.len-start.result in
    let same = c.in_ok-inside.ensures.scope in
    let e1 : o1 ≡ o0 ++ pads_code line (length scope) 0 0 = c.in_ok-pads.ensures ∙ ap (λ n. o0 ++ pads_code line n 0 0) c.len-kept.ensures in
    let size = c.len-start.ensures ∙ ap length e1 ∙ length-append o0 (pads_code line (length scope) 0 0) in
    let stop : start - 5 ≡ length o0 + 1 = omega arith in
    let again : start - 3 ≡ length o0 + 3 = omega arith in
    let next : start - 2 ≡ length o0 + 4 = omega arith in
    let leave : start - 4 ≡ length o0 + 2 = omega arith in
    let begins : start ≡ length o0 + 6 = omega arith in
    turns-written a c.of_loop.result all line last (stmt_code all c.args.parts.body.now) scope
    o0 o1 c.tested.new.out c.inside.new.out o4 o5 c.push.new.self c.fill-2.new.self
    c.requires
    (c.of_loop.ensures ∙ ap (λ n. record { result = a.result; stop = n; again = start - 3 }) stop ∙ ap (λ n. record { result = a.result; stop = length o0 + 1; again = n }) again)
    c.passed.new.out c.in_ok-test_at.test_at c.in_ok-passed.ensures.some c.in_ok-passed.ensures.none
    test c.in_ok-test_at.ensures.place e1 c.in_ok-test_at.ensures.code c.in_ok-inside.ensures.code
    (λ before after l is at. c.in_ok-fill.ensures.filled before after l is (next ∙ at))
    (c.in_ok-inside_part.ensures.code ∙ ap (λ q. o4 ++ part_code last (spot_at a q (length o4))) same)
    (c.in_ok-push.ensures ∙ ap (λ n. o5 ++ one line 0 (i.Again n)) (c.in_ok-back.ensures.same ∙ ap (λ n. n - start) c.len-written.ensures ∙ ap (λ n. length o5 - n) begins))
    (λ before after l is at. c.in_ok-fill-2.ensures.filled before after l is (leave ∙ at))

pub turns-inside_part-requires : goal.turns-inside_part-requires
turns-inside_part-requires t c =
    let start = c.len-start.result in
    let m0 = c.len-start.ensures in
    let m1 = ap length c.in_ok-pads.ensures ∙ length-append c.args.out.now _ in
    let m2 = ap length c.in_ok-test_at.ensures.code ∙ length-append c.pads.new.out _ in
    let m3 = ap length c.in_ok-inside.ensures.code ∙ length-append c.tested.new.out _ in
    let before : start - 2 < length c.inside.new.out = omega arith in
    let m4 = fill-size jump.Always 0 (start - 2) c.inside.new.out c.fill.new.self before c.in_ok-fill.ensures.filled in
    let more : length c.args.out.now ≤ length c.fill.new.self = omega arith in
    (omega arith, still-behind c.args.around (length c.args.out.now) (length c.fill.new.self) c.requires more)

pub turns-overflow_sub-written : goal.turns-overflow_sub-written
turns-overflow_sub-written t c =
    let start = c.len-start.result in
    let m0 = c.len-start.ensures in
    let m1 = ap length c.in_ok-pads.ensures ∙ length-append c.args.out.now _ in
    let m2 = ap length c.in_ok-test_at.ensures.code ∙ length-append c.pads.new.out _ in
    let m3 = ap length c.in_ok-inside.ensures.code ∙ length-append c.tested.new.out _ in
    let before : start - 2 < length c.inside.new.out = omega arith in
    let m4 = fill-size jump.Always 0 (start - 2) c.inside.new.out c.fill.new.self before c.in_ok-fill.ensures.filled in
    let m5 = ap length c.in_ok-inside_part.ensures.code ∙ length-append c.fill.new.self _ in
    let m6 = c.len-written.ensures in
    omega arith

pub turns-fill-requires-2 : goal.turns-fill-requires-2
turns-fill-requires-2 t c =
    let start = c.len-start.result in
    let m0 = c.len-start.ensures in
    let m1 = ap length c.in_ok-pads.ensures ∙ length-append c.args.out.now _ in
    let m2 = ap length c.in_ok-test_at.ensures.code ∙ length-append c.pads.new.out _ in
    let m3 = ap length c.in_ok-inside.ensures.code ∙ length-append c.tested.new.out _ in
    let before : start - 2 < length c.inside.new.out = omega arith in
    let m4 = fill-size jump.Always 0 (start - 2) c.inside.new.out c.fill.new.self before c.in_ok-fill.ensures.filled in
    let m5 = ap length c.in_ok-inside_part.ensures.code ∙ length-append c.fill.new.self _ in
    let m6 = ap length c.in_ok-push.ensures ∙ length-append c.inside_part.new.out _ in
    omega arith

pub turns-passed-requires : goal.turns-passed-requires
turns-passed-requires t c =
    let start = c.len-start.result in
    let m0 = c.len-start.ensures in
    let m1 = ap length c.in_ok-pads.ensures ∙ length-append c.args.out.now _ in
    let m2 = ap length c.in_ok-test_at.ensures.code ∙ length-append c.pads.new.out _ in
    let m3 = ap length c.in_ok-inside.ensures.code ∙ length-append c.tested.new.out _ in
    let before : start - 2 < length c.inside.new.out = omega arith in
    let m4 = fill-size jump.Always 0 (start - 2) c.inside.new.out c.fill.new.self before c.in_ok-fill.ensures.filled in
    let m5 = ap length c.in_ok-inside_part.ensures.code ∙ length-append c.fill.new.self _ in
    let m6 = ap length c.in_ok-push.ensures ∙ length-append c.inside_part.new.out _ in
    let before_that : start - 4 < length c.push.new.self = omega arith in
    let m7 = fill-size jump.Always 0 (start - 4) c.push.new.self c.fill-2.new.self before_that c.in_ok-fill-2.ensures.filled in
    let all = c.args.names.now in
    let line = c.args.line in
    let scope = c.args.scope.now in
    let fits : length c.pads.new.out + length (test_code all (option_copied c.args.parts.test) line scope 0) ≤ length c.fill-2.new.self = omega arith in
    subst (λ p. IfSome p (λ place. place < length c.fill-2.new.self)) (sym c.in_ok-test_at.ensures.place)
    (test-within all line scope (length c.pads.new.out) (length c.fill-2.new.self) (option_copied c.args.parts.test) fits)
