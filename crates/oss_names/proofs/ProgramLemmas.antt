-- The rules of items from one on, and of whole programs.
use Rattle.std.proofs.Common.{◌≡◌, ℕ, ◌+◌, ◌<◌, ◌≤◌, ◌==◌, nat_lt, ◌||◌, Bool, true, false, not, List, [], ◌∷◌, ◌++◌, append_assoc, length, drop, get_or, Option, Some, None, Result, Err, refl, sym, ap, ◌∙◌, arith}
use Rattle.std.proofs.lemmas.List.{drop_more}
use Rattle.std.proofs.lemmas.Bool.Decides.{nat_tests}
use Rattle.oss_syntax.specs.declared.tree.program.Function.{Function}
use Rattle.oss_syntax.specs.declared.tree.program.GlobalDef.{GlobalDef}
use Rattle.oss_syntax.specs.declared.tree.program.Item.{Item}
use Rattle.oss_syntax.specs.declared.tree.program.Item.TheVariants as items
use Rattle.oss_syntax.specs.declared.tree.program.Program.{Program}
use Rattle.oss_syntax.specs.declared.refusal.Refusal.{Refusal}
use Rattle.oss_syntax.specs.declared.refusal.Refusal.TheVariants as refusal
use Rattle.oss_syntax.specs.declared.refusal.Refused.{Refused}
use Rattle.oss_syntax.specs.declared.refusal.RefusedKind.TheVariants as refused
use Rattle.oss_grammar.specs.Broken.{broken, first, where_so}
use Rattle.oss_grammar.specs.Layout.{cells_of, sizes_of}
use Rattle.oss_grammar.specs.ProgramRules.{function_rules, global_rules, has_main, items_rules, passes_cells, program_rules, refusal_of}
use Rattle.oss_grammar.specs.Scopes.{is_again, or_else}
use Rattle.oss_names.specs.PartChecks.{TellsFirst}
use Rattle.oss_names.specs.Resolved.{IsChecked, bounds_of}
use Rattle.oss_names.proofs.EndLemmas.{tells-behind}
use Rattle.oss_types.proofs.Firsts.{first-append}
use Rattle.oss_names.proofs.Parts.{append-right, no-rule, none-left, none-right, not-so}

-- three parts, and what stands behind them
kept : (a b c e : Option Refused) (r : Refused) → or_else a (or_else b c) ≡ Some r → or_else a (or_else b (or_else c e)) ≡ Some r
kept (Some x) b c e r h = h
kept None (Some x) c e r h = h
kept None None (Some x) e r h = h
kept None None None e r h = absurd (cc)

module _ (A B C E : List Refused) where
  parts : first (A ++ (B ++ (C ++ E))) ≡ or_else (first A) (or_else (first B) (or_else (first C) (first E)))
  parts = first-append A (B ++ (C ++ E)) ∙ ap (or_else (first A)) (first-append B (C ++ E) ∙ ap (or_else (first B)) (first-append C E))

  pub front-broken : (r : Refused) → or_else (first A) (or_else (first B) (first C)) ≡ Some r → first (A ++ (B ++ (C ++ E))) ≡ Some r
  front-broken r h = parts ∙ kept (first A) (first B) (first C) (first E) r h

  pub front-whole : (r : Result (Unit {0}) Refusal) → or_else (first A) (or_else (first B) (first C)) ≡ None → TellsFirst E r → TellsFirst (A ++ (B ++ (C ++ E))) r
  front-whole r h told =
      let a = none-left (first A) (or_else (first B) (first C)) h in
      let bc = none-right (first A) (or_else (first B) (first C)) h in
      let b = none-left (first B) (first C) bc in
      let c = none-right (first B) (first C) bc in
      tells-behind A (B ++ (C ++ E)) r a (tells-behind B (C ++ E) r b (tells-behind C E r c told))

module _ (all xs : List Item) (p n i : ℕ) (item : Item) (within : i < length xs) (at : item ≡ get_or xs i item) where
  left : items_rules all p n (drop i xs) ≡ items_rules all p n (item ∷ drop (i + 1) xs)
  left = ap (items_rules all p n) (drop_more xs i item within) ∙ ap (λ x. items_rules all p n (x ∷ drop (i + 1) xs)) (sym at)

  sizes : sizes_of (drop i xs) ≡ sizes_of (item ∷ drop (i + 1) xs)
  sizes = ap sizes_of (drop_more xs i item within) ∙ ap (λ x. sizes_of (x ∷ drop (i + 1) xs)) (sym at)

  pub global-left : (g : GlobalDef) → item ≡ items.Global g
      → first (items_rules all p n (drop i xs)) ≡ or_else (first (global_rules all p n g)) (first (items_rules all (p + 1) (n + cells_of g.cells) (drop (i + 1) xs)))
  global-left g is =
      ap first (left ∙ ap (λ x. items_rules all p n (x ∷ drop (i + 1) xs)) is)
      ∙ first-append (global_rules all p n g) (items_rules all (p + 1) (n + cells_of g.cells) (drop (i + 1) xs))

  pub function-left : (f : Function) → item ≡ items.Function f → items_rules all p n (drop i xs) ≡ function_rules all p f ++ items_rules all (p + 1) n (drop (i + 1) xs)
  function-left f is = left ∙ ap (λ x. items_rules all p n (x ∷ drop (i + 1) xs)) is

  pub sizes-global : (g : GlobalDef) → item ≡ items.Global g → sizes_of (drop i xs) ≡ cells_of g.cells ∷ sizes_of (drop (i + 1) xs)
  sizes-global g is = sizes ∙ ap (λ x. sizes_of (x ∷ drop (i + 1) xs)) is

  pub sizes-function : (f : Function) → item ≡ items.Function f → sizes_of (drop i xs) ≡ sizes_of (drop (i + 1) xs)
  sizes-function f is = sizes ∙ ap (λ x. sizes_of (x ∷ drop (i + 1) xs)) is

-- one more bound
pub bounds-more : (bounds more : List ℕ) (n size : ℕ) (rest : List ℕ) (whole : List ℕ) → more ≡ bounds ++ n ∷ [] → bounds ++ bounds_of n (size ∷ rest) ≡ whole → more ++ bounds_of (n + size) rest ≡ whole
bounds-more bounds more n size rest whole is h = ap (λ bs. bs ++ bounds_of (n + size) rest) is ∙ append_assoc bounds (n ∷ []) (bounds_of (n + size) rest) ∙ h

-- a global that breaks no rule has a cell, and there are not too many with it
not-either : (a b : Bool) → (a || b) ≡ false → (a ≡ false) × (b ≡ false)
not-either false b h = (refl, h)
not-either true b h = absurd (cc)

pub global-cells : (all : List Item) (p n : ℕ) (g : GlobalDef) → first (global_rules all p n g) ≡ None → (0 < cells_of g.cells) × (n + cells_of g.cells ≤ 1048576)
global-cells all p n g h =
    let passes : passes_cells n g.cells ≡ false = not-so (passes_cells n g.cells) refused.TooLarge g.line (append-right (where_so (is_again all p g.name) refused.DuplicateName g.line) (where_so (passes_cells n g.cells) refused.TooLarge g.line) h) in
    let both = not-either (cells_of g.cells == 0) (nat_lt 1048576 (n + cells_of g.cells)) passes in
    let some = both.0 in
    let few = both.1 in
    (grind (arith, nat_tests), grind (arith, nat_tests))

-- what the whole check tells
pub checked-err : (q : Program) (e : Refusal) (rules : List Refused) → first rules ≡ first (items_rules q.items 0 0 q.items) → TellsFirst {U = Unit {0}} rules (Err e) → IsChecked q (Err e)
checked-err q (refusal.Refused r) rules same told =
    first-append (items_rules q.items 0 0 q.items) (where_so (not (has_main q.items)) refused.NoMain 1)
    ∙ ap (λ o. or_else o (first (where_so (not (has_main q.items)) refused.NoMain 1))) (sym same ∙ told)
checked-err q (refusal.Memory e) rules same told = tt

pub main-missing : (q : Program) → first (items_rules q.items 0 0 q.items) ≡ None → has_main q.items ≡ false → refusal_of q ≡ Some (broken refused.NoMain 1)
main-missing q none no_main =
    first-append (items_rules q.items 0 0 q.items) (where_so (not (has_main q.items)) refused.NoMain 1)
    ∙ ap (λ o. or_else o (first (where_so (not (has_main q.items)) refused.NoMain 1))) none
    ∙ ap (λ b. first (where_so (not b) refused.NoMain 1)) no_main

pub all-well : (q : Program) → first (items_rules q.items 0 0 q.items) ≡ None → has_main q.items ≡ true → program_rules q ≡ []
all-well q none main =
    no-rule (program_rules q)
    (first-append (items_rules q.items 0 0 q.items) (where_so (not (has_main q.items)) refused.NoMain 1)
    ∙ ap (λ o. or_else o (first (where_so (not (has_main q.items)) refused.NoMain 1))) none
    ∙ ap (λ b. first (where_so (not b) refused.NoMain 1)) main)
