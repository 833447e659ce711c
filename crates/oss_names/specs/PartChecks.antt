-- How a check of a part of a text ends, whose locals before it were `old`: the part breaks no rule, and the locals behind it are in
-- scope, the old ones first; or the first rule that it breaks is told. Want of memory says nothing.
-- Read against: the check of `long y = 1;` behind the local `x` leaves `x` and `y` in scope; that of `long y = z, x = z;` on lines 2
-- and 3, where there is no `z`, tells UnknownName on line 2, and what it leaves in scope is not said.
use Rattle.std.specs.Prelude.{◌≡◌, List, length, take, Some, None, Result, Ok, Err}
use Rattle.oss_syntax.specs.declared.tree.program.Local.{Local}
use Rattle.oss_syntax.specs.declared.refusal.Refusal.{Refusal}
use Rattle.oss_syntax.specs.declared.refusal.Refusal.TheVariants as refusal
use Rattle.oss_syntax.specs.declared.refusal.Refused.{Refused}
use Rattle.oss_grammar.specs.Broken.{first}
use Rattle.oss_grammar.specs.StaticRules.{Judged}

-- the first of these rules is told, or there is none
abbrev pub TellsFirst : {U : Type 0} → List Refused → Result U Refusal → Type 0
TellsFirst rules (Ok u) = first rules ≡ None
TellsFirst rules (Err (refusal.Refused r)) = first rules ≡ Some r
TellsFirst rules (Err (refusal.Memory e)) = Unit {0}

-- the locals behind the part are in scope, and those before it stand first; where the check did not pass nothing is said of them
abbrev pub LeavesInScope : {U : Type 0} → List Local → List Local → Result U Refusal → List Local → Type 0
LeavesInScope old after (Ok u) now = (now ≡ after) × (take (length old) now ≡ old)
LeavesInScope old after (Err e) now = Unit {0}

-- the check of a part, of which `j` is found, ends so
pub record IsPartChecked {U : Type 0} (old : List Local) (j : Judged) (result : Result U Refusal) (now : List Local) : Type 0 where
  pub tells : TellsFirst j.broken result
  pub leaves : LeavesInScope old j.locals result now
