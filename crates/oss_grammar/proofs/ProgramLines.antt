-- The rules of a program rise with the lines of its tokens.
use Rattle.std.proofs.Common.{◌≡◌, ℕ, ◌+◌, ◌≤◌, Bool, true, false, not, List, [], ◌∷◌, ◌++◌, map, refl, sym, ap, ◌∙◌, subst, Option, Some, None, arith}
use Rattle.oss_syntax.specs.declared.refusal.Refused.{Refused}
use Rattle.oss_syntax.specs.declared.refusal.RefusedKind.{RefusedKind}
use Rattle.oss_syntax.specs.declared.refusal.RefusedKind.TheVariants as refused
use Rattle.oss_syntax.specs.declared.token.Token.{Token}
use Rattle.oss_syntax.specs.declared.token.TokenKind.{TokenKind}
use Rattle.oss_syntax.specs.declared.tree.pragma.TaskMark.{TaskMark}
use Rattle.oss_syntax.specs.declared.tree.program.Function.{Function}
use Rattle.oss_syntax.specs.declared.tree.program.GlobalDef.{GlobalDef}
use Rattle.oss_syntax.specs.declared.tree.program.Item.{Item}
use Rattle.oss_syntax.specs.declared.tree.program.Item.TheVariants as items
use Rattle.oss_syntax.specs.declared.tree.program.Local.{Local}
use Rattle.oss_syntax.specs.declared.tree.program.NumKind.{NumKind}
use Rattle.oss_syntax.specs.declared.tree.program.Program.{Program}
use Rattle.oss_grammar.specs.Broken.{where_so}
use Rattle.oss_grammar.specs.Layout.{cells_of}
use Rattle.oss_grammar.specs.Places.{IsOneOf}
use Rattle.oss_grammar.specs.ProgramRules.{body_around, function_rules, has_main, is_wrong_function, items_rules, mark_rules, passes_cells, program_rules}
use Rattle.oss_grammar.specs.Programs.{IsGlobal, IsGlobals, IsParameter, IsParameterList, IsParameters, IsMark, IsFunction, IsItem, IsProgramItems, IsProgram}
use Rattle.oss_grammar.specs.Programs.IsGlobal.{scalar_global, first_global, array_global, grid_global}
use Rattle.oss_grammar.specs.Programs.IsGlobals.{last_global, next_global}
use Rattle.oss_grammar.specs.Programs.IsParameter.{parameter}
use Rattle.oss_grammar.specs.Programs.IsParameterList.{last_parameter, next_parameter}
use Rattle.oss_grammar.specs.Programs.IsParameters.{no_parameters, void_parameters, some_parameters}
use Rattle.oss_grammar.specs.Programs.IsMark.{no_mark, some_mark}
use Rattle.oss_grammar.specs.Programs.IsFunction.{function}
use Rattle.oss_grammar.specs.Programs.IsItem.{globals, one_function}
use Rattle.oss_grammar.specs.Programs.IsProgramItems.{no_items, more_items}
use Rattle.oss_grammar.specs.Programs.IsProgram.{program}
use Rattle.oss_grammar.specs.RuleOrder.{FirstIsLeast, RisesFrom, RulesRise, RulesOfTextRise, rule_lines, rules_at_tokens, token_lines, unless_no_main}
use Rattle.oss_grammar.specs.RuleOrder.RisesFrom.{no_more, next}
use Rattle.oss_grammar.specs.Scopes.{is_again, is_local_again}
use Rattle.oss_grammar.specs.StaticRules.{declare_all, local_rules, with_local}
use Rattle.oss_grammar.specs.Tokens.{Tokens, found_before}
use Rattle.oss_grammar.specs.Tokens.Tokens.{done, step}
use Rattle.oss_grammar.specs.declared.line_part.LinePart.{LinePart}
use Rattle.oss_grammar.proofs.BodyLines.{items_lie}
use Rattle.oss_grammar.proofs.ClauseLines.{pragma_lies}
use Rattle.oss_grammar.proofs.ExpressionLines.{between}
use Rattle.oss_grammar.proofs.FirstRule.{before_main}
use Rattle.oss_grammar.proofs.LineSpans.{Spans, Span, Within, behind_first, cut, first_is, first_on, on_both, on_then, on_where, skip, span_of, span_order, spans, where_then, within_both, within_higher, within_lower, within_on, within_rises}
use Rattle.oss_grammar.proofs.LineSpans.Within.{within_end, within_next}
use Rattle.oss_grammar.proofs.StatementLines.{declared_from, declared_is, declared_to, local_then}

module _ (all : List Item) where
  -- functions
  parameter_lies : {P : ℕ → Type 0} {ts : List Token} {l : Local} {high low : ℕ} (locals : List Local) → IsParameter ts l → Span P high low ts → Within P high low (local_rules all 0 l locals)
  parameter_lies {l = l} locals (parameter front back split k d) w =
      (let q = cut front back (span_of split w) in
      let from = declared_from all d q.behind in
      let order = span_order q.before in
      local_then all 0 l locals (omega arith) (declared_is all d q.behind) (within_end (declared_to all d q.behind)))

  parameters_lie : {P : ℕ → Type 0} {ts : List Token} {ls : List Local} {high low : ℕ} (locals : List Local) → IsParameterList ts ls → Span P high low ts → Within P high low (declare_all all 0 ls locals).broken
  parameters_lie locals (last_parameter d) w = within_both (parameter_lies locals d w) (within_end (omega arith))
  parameters_lie locals (next_parameter {l = l} front comma back split is d more) w =
      (let q = cut front (comma ∷ back) (span_of split w) in
      within_both (parameter_lies locals d q.before) (parameters_lie (with_local (is_local_again 0 locals l.name) l locals) more (skip q.behind)))

  all_parameters_lie : {P : ℕ → Type 0} {ts : List Token} {ls : List Local} {high low : ℕ} → IsParameters ts ls → Span P high low ts → Within P high low (declare_all all 0 ls []).broken
  all_parameters_lie (no_parameters split) w = within_end (span_order w)
  all_parameters_lie (void_parameters t split is) w = within_end (span_order w)
  all_parameters_lie (some_parameters d) w = parameters_lie [] d w

  mark_lies : {P : ℕ → Type 0} {ts : List Token} {mark : Option TaskMark} {high low : ℕ} (locals : List Local) → IsMark ts mark → Span P high low ts → Within P high low (mark_rules all locals mark)
  mark_lies locals (no_mark split) w = within_end (span_order w)
  mark_lies locals (some_mark d) w = pragma_lies all locals locals d w

  function_lies : {P : ℕ → Type 0} {ts : List Token} {f : Function} {high low : ℕ} (i : ℕ) → IsFunction ts f → Span P high low ts → Within P high low (function_rules all i f)
  function_lies {f = f} i (function {params = params} marked front t word opened inner closed begins within ends split mark result is1 is2 ps is3 is4 body is5) w =
      (let q = cut marked (front ++ (t ∷ opened ∷ (inner ++ (closed ∷ begins ∷ (within ++ (ends ∷ [])))))) (span_of split w) in
      let r = cut front (t ∷ opened ∷ (inner ++ (closed ∷ begins ∷ (within ++ (ends ∷ []))))) q.behind in
      let p = cut inner (closed ∷ begins ∷ (within ++ (ends ∷ []))) (skip (behind_first r.behind)) in
      let b = between within ends [] (skip (skip p.behind)) in
      let order = span_order r.before in
      let from = first_on r.behind in
      let has = first_is r.behind in
      let ls = (declare_all all 0 params []).locals in
      within_both (mark_lies ls mark q.before)
      (where_then (is_again all i f.name) refused.DuplicateName (omega arith) has
      (where_then (is_wrong_function f) refused.WrongKind (omega arith) has
      (within_both (all_parameters_lie ps p.before) (within_higher b.ends (items_lie all (body_around f.result) ls body b.span))))))

  -- globals
  global_from : {P : ℕ → Type 0} {numbers : NumKind} {ts : List Token} {g : GlobalDef} {high low : ℕ} → IsGlobal numbers ts g → Span P high low ts → low ≤ g.line
  global_from (scalar_global t word split is) w = first_on (span_of split w)
  global_from (first_global t word mark back split is1 is2 d) w = first_on (span_of split w)
  global_from (array_global t word opened number cells unsigned closed split is1 is2 is3 is4) w = first_on (span_of split w)
  global_from (grid_global t word opened number rows unsigned closed again second columns other ended split is1 is2 is3 is4 is5 is6 is7) w = first_on (span_of split w)

  global_to : {P : ℕ → Type 0} {numbers : NumKind} {ts : List Token} {g : GlobalDef} {high low : ℕ} → IsGlobal numbers ts g → Span P high low ts → g.line ≤ high
  global_to (scalar_global t word split is) w = span_order (behind_first (span_of split w))
  global_to (first_global t word mark back split is1 is2 d) w = span_order (behind_first (span_of split w))
  global_to (array_global t word opened number cells unsigned closed split is1 is2 is3 is4) w = span_order (behind_first (span_of split w))
  global_to (grid_global t word opened number rows unsigned closed again second columns other ended split is1 is2 is3 is4 is5 is6 is7) w = span_order (behind_first (span_of split w))

  global_is : {P : ℕ → Type 0} {numbers : NumKind} {ts : List Token} {g : GlobalDef} {high low : ℕ} → IsGlobal numbers ts g → Span P high low ts → P g.line
  global_is (scalar_global t word split is) w = first_is (span_of split w)
  global_is (first_global t word mark back split is1 is2 d) w = first_is (span_of split w)
  global_is (array_global t word opened number cells unsigned closed split is1 is2 is3 is4) w = first_is (span_of split w)
  global_is (grid_global t word opened number rows unsigned closed again second columns other ended split is1 is2 is3 is4 is5 is6 is7) w = first_is (span_of split w)

  -- items behind which others stand
  abbrev Behind : (ℕ → Type 0) → ℕ → ℕ → List Item → Type 0
  Behind P high low rest = (i before : ℕ) → Within P high low (items_rules all i before rest)

  global_then : {P : ℕ → Type 0} {numbers : NumKind} {ts : List Token} {g : GlobalDef} {middle low : ℕ} (high i before : ℕ) (rest : List Item) → IsGlobal numbers ts g → Span P middle low ts → Behind P high middle rest
      → Within P high low (items_rules all i before (items.Global g ∷ rest))
  global_then {g = g} high i before rest d w go =
      on_then (global_from d w) (global_is d w) (on_both (on_where (is_again all i g.name) refused.DuplicateName g.line) (on_where (passes_cells before g.cells) refused.TooLarge g.line))
      (within_lower (global_to d w) (go (i + 1) (before + cells_of g.cells)))

  globals_then : {P : ℕ → Type 0} {numbers : NumKind} {ts : List Token} {gs : List GlobalDef} {middle low : ℕ} (high i before : ℕ) (rest : List Item) → IsGlobals numbers ts gs → Span P middle low ts → Behind P high middle rest
      → Within P high low (items_rules all i before (map items.Global gs ++ rest))
  globals_then high i before rest (last_global d) w go = global_then high i before rest d w go
  globals_then high i before rest (next_global {g = g} {more = gs} front comma back split is d more) w go =
      (let q = cut front (comma ∷ back) (span_of split w) in
      global_then high i before (map items.Global gs ++ rest) d q.before (λ j cells. globals_then high j cells rest more (skip q.behind) go))

  item_then : {P : ℕ → Type 0} {ts : List Token} {first : List Item} {middle low : ℕ} (high i before : ℕ) (rest : List Item) → IsItem ts first → Span P middle low ts → Behind P high middle rest
      → Within P high low (items_rules all i before (first ++ rest))
  item_then high i before rest (globals front between_them mark split k d is) w go =
      (let q = cut front (between_them ++ (mark ∷ [])) (span_of split w) in
      let r = cut between_them (mark ∷ []) q.behind in
      let order = span_order r.behind in
      let first = span_order q.before in
      within_lower first (globals_then high i before rest d r.before (λ j cells. within_lower order (go j cells))))
  item_then high i before rest (one_function d) w go = within_both (function_lies i d w) (go (i + 1) before)

  items_all_lie : {P : ℕ → Type 0} {ts : List Token} {found : List Item} {high low : ℕ} → IsProgramItems ts found → Span P high low ts → Behind P high low found
  items_all_lie (no_items split) w i before = within_end (span_order w)
  items_all_lie {high = high} (more_items {more = more} front back split d others) w i before =
      (let q = cut front back (span_of split w) in item_then high i before more d q.before (items_all_lie others q.behind))

-- without NoMain
at_token : {P : ℕ → Type 0} {high low : ℕ} (kind : RefusedKind) (rule : Refused) {behind : List Refused} → low ≤ rule.line → P rule.line → Within P high rule.line behind → Within P high low (unless_no_main kind rule behind)
at_token refused.NoMain rule le has w = within_lower le w
at_token _ rule le has w = within_next le has w

at_tokens : {P : ℕ → Type 0} {high low : ℕ} {xs : List Refused} → Within P high low xs → Within P high low (rules_at_tokens xs)
at_tokens (within_end h) = within_end h
at_tokens (within_next {rule = rule} h on w) = at_token rule.kind rule h on (at_tokens w)

past_token : (kind : RefusedKind) (rule : Refused) (xs ys : List Refused) → unless_no_main kind rule (xs ++ ys) ≡ unless_no_main kind rule xs ++ ys
past_token refused.NoMain rule xs ys = refl
past_token _ rule xs ys = refl

no_main_left : (xs : List Refused) (b : Bool) → rules_at_tokens (xs ++ where_so b refused.NoMain 1) ≡ rules_at_tokens xs ++ []
no_main_left [] true = refl
no_main_left [] false = refl
no_main_left (rule ∷ xs) b = ap (λ (more : List Refused). unless_no_main rule.kind rule more) (no_main_left xs b) ∙ past_token rule.kind rule (rules_at_tokens xs) []

program_lies : {P : ℕ → Type 0} {ts : List Token} {p : Program} {high low : ℕ} → IsProgram ts p → Span P high low ts → Within P high low (rules_at_tokens (program_rules p))
program_lies {P = P} {p = p} {high = high} {low = low} (program d) w =
    (let tokens : Within P high low (rules_at_tokens (items_rules p.items 0 0 p.items) ++ []) = within_both (at_tokens (items_all_lie p.items d w 0 0)) (within_end (omega arith)) in
    subst (λ (xs : List Refused). Within P high low xs) (sym (no_main_left (items_rules p.items 0 0 p.items) (not (has_main p.items)))) tokens)

-- the lines of these tokens
abbrev IsLineOf : List Token → ℕ → Type 0
IsLineOf tokens line = IsOneOf line (token_lines tokens)

spans_own : (tokens : List Token) (from : ℕ) → RisesFrom from (token_lines tokens) → Spans (IsLineOf tokens) from tokens
spans_own tokens from rises = spans tokens (λ line is. is) rises

from_tokens : (tokens : List Token) (p : Program) (from : ℕ) → RisesFrom from (token_lines tokens) → IsProgram tokens p → RisesFrom from (rule_lines p)
from_tokens tokens p from rises is = (let s = spans_own tokens from rises in within_rises (program_lies is s.span))

on_tokens : (tokens : List Token) (p : Program) (from : ℕ) → RisesFrom from (token_lines tokens) → IsProgram tokens p → (rule : Refused) → IsOneOf rule (rules_at_tokens (program_rules p))
    → IsOneOf rule.line (token_lines tokens)
on_tokens tokens p from rises is rule listed = (let s = spans_own tokens from rises in within_on rule (program_lies is s.span) listed)

least_told : {P : ℕ → Type 0} {ts : List Token} {p : Program} {high low : ℕ} → IsProgram ts p → Span P high low ts → FirstIsLeast p
least_told {p = p} (program d) w told rule is listed other = before_main (not (has_main p.items)) told rule (items_rules p.items 0 0 p.items) (items_all_lie p.items d w 0 0) is other listed

least_from : (tokens : List Token) (p : Program) (from : ℕ) → RisesFrom from (token_lines tokens) → IsProgram tokens p → FirstIsLeast p
least_from tokens p from rises is told rule = (let s = spans_own tokens from rises in least_told is s.span told rule)

pub rules_rise : (tokens : List Token) → RulesRise tokens
rules_rise tokens = record {
  rise = λ p from rises is. from_tokens tokens p from rises is;
  on_tokens = λ p from rises is rule listed. on_tokens tokens p from rises is rule listed;
  least = λ p from rises is told rule. least_from tokens p from rises is told rule;
}

-- the lines of the tokens of a text rise
rises_lower : {from lower : ℕ} {xs : List ℕ} → lower ≤ from → RisesFrom from xs → RisesFrom lower xs
rises_lower le no_more = no_more
rises_lower le (next h w) = next (omega arith) w

front_rises : (what : Option TokenKind) (line lines : ℕ) (more : List Token) → RisesFrom (line + lines) (token_lines more) → RisesFrom line (token_lines (found_before what line more))
front_rises None line lines more w = rises_lower (omega arith) w
front_rises (Some kind) line lines more w = next (omega arith) (rises_lower (omega arith) w)

tokens_rise : {part : LinePart} {line : ℕ} {text : List ℕ} {tokens : List Token} → Tokens part line text tokens → RisesFrom line (token_lines tokens)
tokens_rise (done end) = no_more
tokens_rise {line = line} (step front more is rest found) = subst (λ (ts : List Token). RisesFrom line (token_lines ts)) (sym found) (front_rises front.what line front.lines more (tokens_rise rest))

pub rules_of_text_rise : (text : List ℕ) → RulesOfTextRise text
rules_of_text_rise text = record {
  rise = λ p is. from_tokens is.tokens p 1 (tokens_rise is.are_tokens) is.is_program;
  on_tokens = λ p is rule listed. on_tokens is.tokens p 1 (tokens_rise is.are_tokens) is.is_program rule listed;
  least = λ p is told rule. least_from is.tokens p 1 (tokens_rise is.are_tokens) is.is_program told rule;
}
