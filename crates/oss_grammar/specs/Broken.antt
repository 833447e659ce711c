-- Broken rules: each with its kind and the line of its token, in text order; at one token in the order of the table of rules, and
-- the first of all is told.
-- Read against: of an unknown name on line 2 and an array of 0 cells on line 3 the first is `UnknownName at line 2`; of a call on
-- line 5 that is not allowed and has too few arguments it is `WrongKind at line 5`.
use Rattle.std.specs.Prelude.{ℕ, nat_lt, Bool, true, false, if◌then◌else◌, List, [], ◌∷◌, Option, Some, None}
use Rattle.oss_syntax.specs.declared.refusal.Refused.{Refused}
use Rattle.oss_syntax.specs.declared.refusal.RefusedKind.{RefusedKind}
use Rattle.oss_syntax.specs.declared.refusal.RefusedKind.TheVariants as refused

-- a rule of this kind is broken by a token on this line: an unknown name on line 2 is `broken refused.UnknownName 2`
abbrev pub broken : RefusedKind → ℕ → Refused
broken kind line = record { kind = kind; line = line; token = 0 }

-- a rule, where it is broken
abbrev pub where_so : Bool → RefusedKind → ℕ → List Refused
where_so false kind line = []
where_so true kind line = broken kind line ∷ []

-- the place of a rule in the table: of two rules that one token breaks, that on names comes before that on kinds
abbrev pub rank : RefusedKind → ℕ
rank refused.DuplicateName = 0
rank refused.UnknownName = 1
rank refused.WrongKind = 2
rank refused.WrongCount = 3
rank refused.BadJump = 4
rank refused.TooLarge = 5
rank refused.NoMain = 6
rank _ = 7

-- one more broken rule of a token, at its place among the others: `WrongKind` stands behind `UnknownName` and before `WrongCount`
abbrev pub insert : Refused → List Refused → List Refused
insert b [] = b ∷ []
insert b (c ∷ rest) = if nat_lt (rank b.kind) (rank c.kind) then b ∷ c ∷ rest else c ∷ insert b rest

-- the first of the broken rules
abbrev pub first : List Refused → Option Refused
first [] = None
first (b ∷ rest) = Some b
