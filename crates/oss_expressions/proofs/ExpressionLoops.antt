-- Readers of expressions take a token at least, and how their loops go on.
use Rattle.std.proofs.Common.{◌≡◌, ℕ, zero, suc, ◌+◌, ◌-◌, ◌<◌, List, [], ◌∷◌, codes, refl, ap, ◌∙◌, arith, Result, Ok, Err}
use Rattle.oss_syntax.specs.declared.token.Token.{Token}
use Rattle.oss_syntax.specs.declared.tree.expr.Expr.{Expr}
use Rattle.oss_grammar.specs.Reading.{Reader, Stop, begins, has, go_on, read_then, read_nothing, read_mapped, read_either}
use Rattle.oss_expressions.specs.TokenValues.{symbol_at, name_at, number_at, prefix_at, operator_at, begins_expression}
use Rattle.oss_expressions.specs.ExpressionReading.{latter, former, middle, and_then, read_next, read_more, read_list, named_expression, call_of, indexed, prefixed_by, joined_to, read_arguments, read_call, read_named, read_brackets, read_primary, read_index, read_second_index, read_postfix, read_prefixed, read_operation, read_operations, read_levels, binary_levels, read_unary, read_whole}
use Rattle.oss_expressions.specs.Operands.{read_operand, read_above}
use Rattle.oss_expressions.specs.declared.cursor.Named.{Named}
use Rattle.oss_expressions.specs.declared.cursor.Unread.{Unread}
use Rattle.oss_expressions.specs.declared.cursor.Unread.TheVariants as unread
use Rattle.oss_expressions.specs.Told.{ReadsAs}
use Rattle.oss_expressions.proofs.StepLoops.{Takes, Keeps, keeps, takes_one, keeps_nothing, takes_mapped, takes_then, takes_both, takes_either, keeps_either, keeps_steps, too_deep, Repeats, repeats}

-- a part that stops reading stops the whole at the same place
pub reads_as_err : {A B : Type 0} (part : Result (A × List Token) Stop) (whole : Result (B × List Token) Stop) (u : Unread) (rest : List Token)
    → ReadsAs part (Err u) rest → ((why : Stop) → part ≡ Err why → whole ≡ Err why) → ReadsAs whole (Err u) rest
reads_as_err part whole unread.Syntax rest fault hence = hence (Stop.Syntax rest) fault
reads_as_err part whole unread.Deep rest fault hence = hence (Stop.Deep rest) fault
reads_as_err part whole (unread.Memory e) rest fault hence = tt

pub takes_next : {A : Type 0} {f : Reader A} → Takes f → Takes (read_next f)
takes_next part = takes_mapped latter (takes_both (takes_one (symbol_at (codes ","))) (keeps part))

pub keeps_more : {A : Type 0} {f : Reader A} → Takes f → (found : List A) → Keeps (read_more f found)
unfolding read_more
keeps_more {f = f} part found = keeps_steps (λ found. has (symbol_at (codes ","))) (λ found. read_mapped (and_then found) (read_next f)) (λ found. keeps (takes_mapped (and_then found) (takes_next part))) found

pub takes_list : {A : Type 0} {f : Reader A} → Takes f → Takes (read_list f)
takes_list {f = f} part = takes_then (λ first. read_more f (first ∷ [])) part (λ first. keeps_more part (first ∷ []))

pub repeats_more : {A : Type 0} {f : Reader A} → Takes f → Repeats {S = List A} (λ found. has (symbol_at (codes ","))) and_then (λ found. read_next f)
repeats_more {f = f} part = repeats (λ found. has (symbol_at (codes ","))) and_then (λ found. read_next f) (λ found. takes_next part)

module _ {inner : Reader Expr} (takes : Takes inner) where
  takes_arguments : Takes (read_arguments inner)
  unfolding read_arguments
  takes_arguments = takes_either (has (symbol_at (codes ")"))) (takes_mapped (λ line. []) (takes_one (symbol_at (codes ")"))))
      (takes_mapped former (takes_both (takes_list takes) (keeps (takes_one (symbol_at (codes ")"))))))

  takes_call : (name : Named) → Takes (read_call inner name)
  unfolding read_call
  takes_call name = takes_mapped (call_of name) (takes_mapped latter (takes_both (takes_one (symbol_at (codes "("))) (keeps takes_arguments)))

  takes_named : Takes (read_named inner)
  unfolding read_named
  takes_named = takes_then (λ name. read_either (has (symbol_at (codes "("))) (read_call inner name) (read_nothing (named_expression name))) (takes_one name_at)
      (λ name. keeps_either (has (symbol_at (codes "("))) (keeps (takes_call name)) (keeps_nothing (named_expression name)))

  pub takes_brackets : Takes (read_brackets inner)
  unfolding read_brackets
  takes_brackets = takes_mapped middle (takes_both (takes_one (symbol_at (codes "("))) (keeps (takes_both takes (keeps (takes_one (symbol_at (codes ")")))))))

  takes_primary : Takes (read_primary inner)
  unfolding read_primary
  takes_primary = takes_either (has number_at) (takes_one number_at) (takes_either (has name_at) takes_named takes_brackets)

  takes_index : Takes (read_index inner)
  unfolding read_index
  takes_index = takes_mapped middle (takes_both (takes_one (symbol_at (codes "["))) (keeps (takes_both takes (keeps (takes_one (symbol_at (codes "]")))))))

  keeps_second_index : (row : Expr) → Keeps (read_second_index inner row)
  unfolding read_second_index
  keeps_second_index row = keeps_either (has (symbol_at (codes "["))) (keeps (takes_mapped (indexed row) takes_index)) (keeps_nothing row)

  takes_postfix : Takes (read_postfix inner)
  unfolding read_postfix
  takes_postfix = takes_then (λ base. read_either (has (symbol_at (codes "["))) (read_then (read_mapped (indexed base) (read_index inner)) (read_second_index inner)) (read_nothing base)) takes_primary
      (λ base. keeps_either (has (symbol_at (codes "["))) (keeps (takes_then (read_second_index inner) (takes_mapped (indexed base) takes_index) keeps_second_index)) (keeps_nothing base))

  pub takes_prefixed : {operand : Reader Expr} → Takes operand → Takes (read_prefixed operand inner)
  unfolding read_prefixed
  takes_prefixed operand = takes_either (has prefix_at) (takes_mapped prefixed_by (takes_both (takes_one prefix_at) (keeps operand))) takes_postfix

pub takes_operation : {f : Reader Expr} (level : ℕ) → Takes f → Takes (read_operation level f)
unfolding read_operation
takes_operation level takes = takes_both (takes_one (operator_at level)) (keeps takes)

keeps_operations : {f : Reader Expr} (level : ℕ) → Takes f → (left : Expr) → Keeps (read_operations level f left)
unfolding read_operations
keeps_operations {f = f} level takes left = keeps_steps (λ left. has (operator_at level)) (λ left. read_mapped (joined_to left) (read_operation level f)) (λ left. keeps (takes_mapped (joined_to left) (takes_operation level takes))) left

pub takes_levels : {f : Reader Expr} (more : ℕ) → Takes f → Takes (read_levels more f)
unfolding read_levels
takes_levels zero takes = record { less = λ ts value rest e. takes.less ts value rest e }
takes_levels {f = f} (suc more) takes =
    let below = takes_levels more takes in
    let whole = takes_then (read_operations (suc (suc (suc more))) (read_levels more f)) below (λ left. keeps_operations (suc (suc (suc more))) below left) in
    record { less = λ ts value rest e. whole.less ts value rest e }

record Levelled (n : ℕ) : Type 0 where
  unary : Takes (read_unary n)
  whole : Takes (read_whole n)

levelled : (n : ℕ) → Levelled n
levelled zero = record {
  unary = record { less = λ ts value rest e. too_deep begins_expression (begins begins_expression ts) ts value rest refl e };
  whole = record { less = λ ts value rest e. too_deep begins_expression (begins begins_expression ts) ts value rest refl e };
}
levelled (suc n) =
    let before = levelled n in
    let operand = takes_prefixed before.whole before.unary in
    let all = takes_levels binary_levels operand in
    record { unary = record { less = λ ts value rest e. operand.less ts value rest e }; whole = record { less = λ ts value rest e. all.less ts value rest e } }

pub takes_whole : (n : ℕ) → Takes (read_whole n)
takes_whole n = (levelled n).whole

takes_above : (more levels : ℕ) → Takes (read_above more levels)
takes_above more levels = takes_levels more (takes_prefixed (levelled levels).whole (levelled levels).unary)

pub repeats_values : (levels : ℕ) → Repeats {S = List Expr} (λ found. has (symbol_at (codes ","))) and_then (λ found. read_next (read_whole levels))
repeats_values levels = repeats_more (takes_whole levels)

pub repeats_operations : (level more levels : ℕ) → Repeats {S = Expr} (λ left. has (operator_at level)) joined_to (λ left. read_operation level (read_above more levels))
repeats_operations level more levels =
    repeats (λ left. has (operator_at level)) joined_to (λ left. read_operation level (read_above more levels)) (λ left. takes_operation level (takes_above more levels))

-- the levels of binary operators, from the loosest down
pub above_none : (levels : ℕ) (ts : List Token) → read_above 0 levels ts ≡ read_operand levels ts
unfolding read_levels
above_none levels ts = refl

above_is : (more levels : ℕ) (ts : List Token) → 0 < more
    → read_above more levels ts ≡ go_on (read_above (more - 1) levels ts) (read_operations (more + 2) (read_above (more - 1) levels))
unfolding read_levels
above_is zero levels ts some = absurd (omega arith)
above_is (suc more) levels ts some =
    let less : suc more - 1 ≡ more = omega arith in
    let same : suc more + 2 ≡ suc (suc (suc more)) = omega arith in
    rw (less, same) refl

pub above_fail : (more levels : ℕ) (ts : List Token) (why : Stop) → 0 < more → read_above (more - 1) levels ts ≡ Err why → read_above more levels ts ≡ Err why
above_fail more levels ts why some e = above_is more levels ts some ∙ ap (λ o. go_on o (read_operations (more + 2) (read_above (more - 1) levels))) e

pub above_go : (more levels : ℕ) (ts : List Token) (left : Expr) (rest : List Token) → 0 < more → read_above (more - 1) levels ts ≡ Ok (left, rest)
    → read_above more levels ts ≡ read_operations (more + 2) (read_above (more - 1) levels) left rest
above_go more levels ts left rest some e = above_is more levels ts some ∙ ap (λ o. go_on o (read_operations (more + 2) (read_above (more - 1) levels))) e

-- what stands behind a prefix, and a whole expression, where levels are left
pub unary_some : (levels : ℕ) (ts : List Token) → 0 < levels → read_unary levels ts ≡ read_operand (levels - 1) ts
unary_some zero ts some = absurd (omega arith)
unary_some (suc levels) ts some = let less : suc levels - 1 ≡ levels = omega arith in rw less refl

pub whole_some : (levels : ℕ) (ts : List Token) → 0 < levels → read_whole levels ts ≡ read_above 10 (levels - 1) ts
whole_some zero ts some = absurd (omega arith)
whole_some (suc levels) ts some = let less : suc levels - 1 ≡ levels = omega arith in rw less refl
