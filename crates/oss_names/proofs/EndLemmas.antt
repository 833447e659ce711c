-- How the checks of parts of a text end together.
use Rattle.std.proofs.Common.{◌≡◌, ℕ, false, ◌+◌, ◌<◌, nat_le, List, [], ◌∷◌, ◌++◌, length, take, drop, get_or, None, Result, Ok, Err, refl, sym, ap, ◌∙◌, subst}
use Rattle.std.proofs.lemmas.List.{drop_more}
use Rattle.oss_syntax.specs.declared.tree.program.Item.{Item}
use Rattle.oss_syntax.specs.declared.tree.program.Local.{Local}
use Rattle.oss_syntax.specs.declared.tree.stmt.Stmt.{Stmt}
use Rattle.oss_grammar.specs.declared.kinds.Around.{Around}
use Rattle.oss_syntax.specs.declared.refusal.Refusal.{Refusal}
use Rattle.oss_syntax.specs.declared.refusal.Refusal.TheVariants as refusal
use Rattle.oss_syntax.specs.declared.refusal.Refused.{Refused}
use Rattle.oss_syntax.specs.declared.refusal.RefusedKind.TheVariants as refused
use Rattle.oss_grammar.specs.Broken.{first, where_so}
use Rattle.oss_grammar.specs.Scopes.{or_else}
use Rattle.oss_grammar.specs.StaticRules.{Judged, alone, declare_one, first_rules, judged, local_rules, rules_of, rules_of_all, then_judge, with_local}
use Rattle.oss_grammar.specs.Scopes.{is_local_again}
use Rattle.oss_names.specs.PartChecks.{IsPartChecked, LeavesInScope, TellsFirst}
use Rattle.oss_types.proofs.Firsts.{first-append}
use Rattle.oss_names.proofs.Parts.{append-left, not-so}

-- old locals that stand in front of those in the middle stand in front of the new ones
pub prefix-trans : (old mid now : List Local) → take (length old) mid ≡ old → take (length mid) now ≡ mid → take (length old) now ≡ old
prefix-trans [] mid now a b = refl
prefix-trans (o ∷ old) [] now a b = absurd (cc)
prefix-trans (o ∷ old) (m ∷ mid) [] a b = absurd (cc)
prefix-trans (o ∷ old) (m ∷ mid) (n ∷ now) a b =
    let here : n ≡ m = cc in
    let there : m ≡ o = cc in
    let rest : take (length old) now ≡ old = prefix-trans old mid now (cc) (cc) in
    cc

pub prefix-same : (old : List Local) → take (length old) old ≡ old
prefix-same [] = refl
prefix-same (o ∷ old) = ap (λ xs. o ∷ xs) (prefix-same old)

pub prefix-many : (old more : List Local) → take (length old) (old ++ more) ≡ old
prefix-many [] more = refl
prefix-many (o ∷ old) more = ap (λ xs. o ∷ xs) (prefix-many old more)

-- a refusal that tells of a part tells of the part and of what stands behind it
pub tells-before : (V U : Type 0) (xs ys : List Refused) (e : Refusal) → TellsFirst {U = V} xs (Err e) → TellsFirst {U = U} (xs ++ ys) (Err e)
tells-before V U xs ys (refusal.Refused r) told = first-append xs ys ∙ ap (λ o. or_else o (first ys)) told
tells-before V U xs ys (refusal.Memory e) told = tt

module _ {U : Type 0} where
  pub tells-behind : (xs ys : List Refused) (r : Result U Refusal) → first xs ≡ None → TellsFirst ys r → TellsFirst (xs ++ ys) r
  tells-behind xs ys (Ok u) none told = first-append xs ys ∙ ap (λ o. or_else o (first ys)) none ∙ told
  tells-behind xs ys (Err (refusal.Refused r)) none told = first-append xs ys ∙ ap (λ o. or_else o (first ys)) none ∙ told
  tells-behind xs ys (Err (refusal.Memory e)) none told = tt

  leaves-behind : (old mid after : List Local) (r : Result U Refusal) (now : List Local) → take (length old) mid ≡ old → LeavesInScope mid after r now → LeavesInScope old after r now
  leaves-behind old mid after (Ok u) now a l = (l.0, prefix-trans old mid now a l.1)
  leaves-behind old mid after (Err e) now a l = tt

  -- a part that breaks no rule, and the part behind it
  pub ends-then : {V : Type 0} (old mid now : List Local) (j : Judged) (go : List Local → Judged) (v : V) (r : Result U Refusal) → IsPartChecked old j (Ok v) mid → IsPartChecked mid (go mid) r now → IsPartChecked old (then_judge j go) r now
  ends-then old mid now j go v r here there =
      let At : List Local → Type 0 = λ m. TellsFirst (go m).broken r × LeavesInScope mid (go m).locals r now in
      let moved = subst At here.leaves.0 (there.tells, there.leaves) in
      record {
        tells = tells-behind j.broken (go j.locals).broken r here.tells moved.0;
        leaves = leaves-behind old mid (go j.locals).locals r now here.leaves.1 moved.1;
      }

  -- a part that breaks a rule
  pub ends-stop : {V : Type 0} (old mid now : List Local) (j : Judged) (go : List Local → Judged) (e : Refusal) → IsPartChecked {U = V} old j (Err e) mid → IsPartChecked {U = U} old (then_judge j go) (Err e) now
  ends-stop {V} old mid now j go e here = record { tells = tells-before V U j.broken (go j.locals).broken e here.tells; leaves = tt }

  leaves-alone : (old after mid : List Local) (r : Result U Refusal) (now : List Local) → LeavesInScope old after r mid → now ≡ take (length old) mid → LeavesInScope old old r now
  leaves-alone old after mid (Ok u) now l is = (is ∙ l.1, ap (take (length old)) (is ∙ l.1) ∙ prefix-same old)
  leaves-alone old after mid (Err e) now l is = tt

  leaves-more : (old more now : List Local) (r : Result U Refusal) → now ≡ old ++ more → LeavesInScope old (old ++ more) r now
  leaves-more old more now (Ok u) is = (is, ap (take (length old)) is ∙ prefix-many old more)
  leaves-more old more now (Err e) is = tt

  -- a part that puts more locals in scope
  pub ends-more : (old more now : List Local) (rules : List Refused) (r : Result U Refusal) → now ≡ old ++ more → TellsFirst rules r → IsPartChecked old (judged rules (old ++ more)) r now
  ends-more old more now rules r is told = record { tells = told; leaves = leaves-more old more now r is }

  -- a scope that is left
  pub ends-alone : (old mid now : List Local) (j : Judged) (r : Result U Refusal) (count : ℕ) → IsPartChecked old j r mid → count ≡ length old → now ≡ take count mid → IsPartChecked old (alone j old) r now
  ends-alone old mid now j r count here size is =
      record { tells = here.tells; leaves = leaves-alone old j.locals mid r now here.leaves (is ∙ ap (λ n. take n mid) size) }

  -- what a check tells is the first of its rules
  pub ends-along : (old now : List Local) (j k : Judged) (r : Result U Refusal) → k ≡ j → IsPartChecked old j r now → IsPartChecked old k r now
  ends-along old now j k r e h = subst (λ x. IsPartChecked old x r now) (sym e) h

  -- a refusal that is handed on
  pub ends-told : (old now : List Local) (j : Judged) (r s : Result U Refusal) → s ≡ r → IsPartChecked old j r now → IsPartChecked old j s now
  ends-told old now j r s is h = subst (λ x. IsPartChecked old j x now) (sym is) h

-- the statements from one on
pub statements-left : (all : List Item) (a : Around) (locals : List Local) (ss : List Stmt) (i : ℕ) (s : Stmt) → i < length ss → s ≡ get_or ss i s
    → rules_of_all (drop i ss) all a locals ≡ then_judge (rules_of s all a locals) (λ more. rules_of_all (drop (i + 1) ss) all a more)
statements-left all a locals ss i s within at =
    ap (λ xs. rules_of_all xs all a locals) (drop_more ss i s within)
    ∙ ap (λ x. rules_of_all (x ∷ drop (i + 1) ss) all a locals) (sym at)

-- a local that breaks no rule is new in its scope, and stands behind the others
pub local-declared : (all : List Item) (start : ℕ) (d : Local) (ls now : List Local) → first (local_rules all start d ls) ≡ None → now ≡ ls ++ d ∷ []
    → IsPartChecked {U = Unit {0}} ls (declare_one all start d ls) (Ok tt) now
local-declared all start d ls now none is =
    let again = where_so (is_local_again start ls d.name) refused.DuplicateName d.line in
    let others = where_so (nat_le 255 (length ls)) refused.TooLarge d.line ++ first_rules all ls d in
    let fresh : is_local_again start ls d.name ≡ false = not-so (is_local_again start ls d.name) refused.DuplicateName d.line (append-left again others none) in
    record {
      tells = none;
      leaves = (is ∙ ap (λ b. with_local b d ls) (sym fresh), ap (take (length ls)) is ∙ prefix-many ls (d ∷ []));
    }
