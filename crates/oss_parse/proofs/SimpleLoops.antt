-- Readers of simple statements and declarations take a token at least, and how their loops go on.
use Rattle.std.proofs.Common.{◌≡◌, ℕ, ◌≤◌, List, [], length, codes, refl, arith, Some, None, Result, Ok, Err}
use Rattle.oss_syntax.specs.declared.token.Token.{Token}
use Rattle.oss_syntax.specs.declared.tree.expr.Expr.{Expr}
use Rattle.oss_syntax.specs.declared.tree.program.Kind.{Kind}
use Rattle.oss_syntax.specs.declared.tree.program.Local.{Local}
use Rattle.oss_syntax.specs.declared.tree.program.NumKind.{NumKind}
use Rattle.oss_grammar.specs.Levels.{is_operator}
use Rattle.oss_grammar.specs.Reading.{Reader, Stop, has, go_on, read_one, read_then, read_nothing, read_mapped, read_both, read_either}
use Rattle.oss_expressions.specs.TokenValues.{symbol_at, keyword_at, name_at}
use Rattle.oss_expressions.specs.ExpressionReading.{latter, former, middle, and_then, named_expression, indexed, read_next, read_list, read_arguments, read_expression}
use Rattle.oss_expressions.specs.declared.cursor.Named.{Named}
use Rattle.oss_expressions.proofs.StepLoops.{Takes, Keeps, keeps, takes_one, keeps_nothing, takes_mapped, keeps_mapped, takes_then, takes_both, takes_either, keeps_either, Repeats}
use Rattle.oss_expressions.proofs.ExpressionLoops.{takes_whole, takes_list, repeats_more}
use Rattle.oss_expressions.proofs.SightLemmas.{takes_counted}
use Rattle.oss_parse.specs.SimpleReading.{star, assignment_at, step_at, deref_at, assigned_to, stepped_by, step_before, call_statement, read_element, read_target_again, read_target_from, read_pointed_at, read_starred, read_target, read_assigned, read_step_first, read_called, read_simple_from, read_simple, pointer_to, number_of, read_declared, local_of, read_local, single_kind_at, ulong_of, read_num_kind, declared_at, read_declaration}

-- two readers, neither of which gives tokens back
keeps_go : {A B : Type 0} (o : Result (A × List Token) Stop) (go : A → List Token → Result (B × List Token) Stop) (ts : List Token)
    → ((a : A) (left : List Token) → o ≡ Ok (a, left) → length left ≤ length ts) → ((a : A) → Keeps (go a))
    → (value : B) (rest : List Token) → go_on o go ≡ Ok (value, rest) → length rest ≤ length ts
keeps_go (Err stop) go ts most second value rest e = absurd (cc)
keeps_go (Ok p) go ts most second value rest e = let h = most p.0 p.1 refl in let k = (second p.0).most p.1 value rest e in omega arith

pub keeps_then : {A B : Type 0} {f : Reader A} (go : A → Reader B) → Keeps f → ((a : A) → Keeps (go a)) → Keeps (read_then f go)
keeps_then {f = f} go part second = record { most = λ ts value rest e. keeps_go (f ts) go ts (λ a left same. part.most ts a left same) second value rest e }

pub keeps_both : {A B : Type 0} {f : Reader A} {g : Reader B} → Keeps f → Keeps g → Keeps (read_both f g)
keeps_both {A} {B} {f = f} {g = g} part second = record {
  most = λ ts value rest e. (keeps_then {A = A} {B = A × B} {f = f} (λ a. read_mapped (λ (b : B). (a, b)) g) part (λ a. keeps_mapped (λ (b : B). (a, b)) second)).most ts value rest e;
}

pub takes_expression : Takes read_expression
unfolding read_expression
takes_expression = takes_counted is_operator 256 (takes_whole 64)

pub repeats_values : Repeats {S = List Expr} (λ found. has (symbol_at (codes ","))) and_then (λ found. read_next read_expression)
repeats_values = repeats_more takes_expression

-- an expression between two symbols
pub takes_between : (before behind : List ℕ) → Takes (read_mapped middle (read_both (read_one (symbol_at before)) (read_both read_expression (read_one (symbol_at behind)))))
takes_between before behind = takes_mapped middle (takes_both (takes_one (symbol_at before)) (keeps (takes_both takes_expression (keeps (takes_one (symbol_at behind))))))

takes_element : (base : Expr) → Takes (read_element read_expression base)
takes_element base = takes_mapped (indexed base) (takes_between (codes "[") (codes "]"))

keeps_target_again : (base : Expr) → Keeps (read_target_again read_expression base)
unfolding read_target_again
keeps_target_again base = keeps_either (has (symbol_at (codes "["))) (keeps (takes_element base)) (keeps_nothing base)

keeps_target_from : (name : Named) → Keeps (read_target_from read_expression name)
unfolding read_target_from
keeps_target_from name =
    keeps_either (has (symbol_at (codes "["))) (keeps (takes_then (read_target_again read_expression) (takes_element (named_expression name)) keeps_target_again)) (keeps_nothing (named_expression name))

takes_pointed_at : (line : ℕ) → Takes (read_pointed_at read_expression line)
unfolding read_pointed_at
takes_pointed_at line = takes_either (has name_at) (takes_mapped (λ name. deref_at line (named_expression name)) (takes_one name_at)) (takes_mapped (deref_at line) (takes_between (codes "(") (codes ")")))

takes_starred : Takes (read_starred read_expression)
unfolding read_starred
takes_starred = takes_then (read_pointed_at read_expression) (takes_one (symbol_at (codes "*"))) (λ line. keeps (takes_pointed_at line))

takes_target : Takes (read_target read_expression)
unfolding read_target
takes_target = takes_either star takes_starred (takes_then (read_target_from read_expression) (takes_one name_at) keeps_target_from)

takes_assigned : (target : Expr) → Takes (read_assigned read_expression target)
unfolding read_assigned
takes_assigned target = takes_either (has step_at) (takes_mapped (stepped_by target) (takes_one step_at)) (takes_mapped (assigned_to target) (takes_both (takes_one assignment_at) (keeps takes_expression)))

takes_step_first : Takes (read_step_first read_expression)
unfolding read_step_first
takes_step_first = takes_mapped step_before (takes_both (takes_one step_at) (keeps takes_target))

takes_arguments : Takes (read_arguments read_expression)
unfolding read_arguments
takes_arguments = takes_either (has (symbol_at (codes ")"))) (takes_mapped (λ line. []) (takes_one (symbol_at (codes ")"))))
    (takes_mapped former (takes_both (takes_list takes_expression) (keeps (takes_one (symbol_at (codes ")"))))))

takes_called : (name : Named) → Takes (read_called read_expression name)
unfolding read_called
takes_called name = takes_mapped (call_statement name) (takes_mapped latter (takes_both (takes_one (symbol_at (codes "("))) (keeps takes_arguments)))

keeps_simple_from : (name : Named) → Keeps (read_simple_from read_expression name)
unfolding read_simple_from
keeps_simple_from name = keeps_either (has (symbol_at (codes "("))) (keeps (takes_called name)) (keeps_then (read_assigned read_expression) (keeps_target_from name) (λ target. keeps (takes_assigned target)))

pub takes_simple : Takes (read_simple read_expression)
unfolding read_simple
takes_simple =
    takes_either (has step_at) takes_step_first
    (takes_either star (takes_then (read_assigned read_expression) takes_starred (λ target. keeps (takes_assigned target))) (takes_then (read_simple_from read_expression) (takes_one name_at) keeps_simple_from))

pub takes_num_kind : Takes read_num_kind
unfolding read_num_kind
takes_num_kind = takes_either (has single_kind_at) (takes_one single_kind_at)
    (takes_mapped ulong_of (takes_both (takes_one (keyword_at (codes "unsigned"))) (keeps (takes_one (keyword_at (codes "long"))))))

pub takes_declared : (numbers : NumKind) → Takes (read_declared numbers)
unfolding read_declared
takes_declared numbers = takes_either star (takes_mapped (pointer_to numbers) (takes_both (takes_one (symbol_at (codes "*"))) (keeps (takes_one name_at))))
    (takes_mapped (number_of numbers) (takes_one name_at))

-- the value of a local
abbrev read_value : Kind × Named → Reader Local
read_value d = read_mapped (λ value. local_of d (Some value)) (read_mapped latter (read_both (read_one (symbol_at (codes "="))) read_expression))

takes_value : (d : Kind × Named) → Takes (read_value d)
takes_value d = takes_mapped (λ value. local_of d (Some value)) (takes_mapped latter (takes_both (takes_one (symbol_at (codes "="))) (keeps takes_expression)))

pub takes_local : (numbers : NumKind) → Takes (read_local read_expression numbers)
unfolding read_local
takes_local numbers = takes_then (λ d. read_either (has (symbol_at (codes "="))) (read_value d) (read_nothing (local_of d None))) (takes_declared numbers)
    (λ d. keeps_either (has (symbol_at (codes "="))) (keeps (takes_value d)) (keeps_nothing (local_of d None)))

pub repeats_locals : (numbers : NumKind) → Repeats {S = List Local} (λ found. has (symbol_at (codes ","))) and_then (λ found. read_next (read_local read_expression numbers))
repeats_locals numbers = repeats_more (takes_local numbers)

pub takes_declaration : Takes (read_declaration read_expression)
unfolding read_declaration
takes_declaration = takes_then (λ k. read_mapped (declared_at k.1) (read_list (read_local read_expression k.0))) takes_num_kind (λ k. keeps (takes_mapped (declared_at k.1) (takes_list (takes_local k.0))))
