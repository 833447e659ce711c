-- What holds of one task and one cell: something is lacking exactly where the judge finds a fault; what is reported mends it and can be joined; and in two ways a
-- lesser clause would not do.
-- Read against: a task with `weakin(x)` that loads x and then stores into it. It lacks `inout(x)`; with both each demand is met. With `weakinout(x)` in its place
-- both are weak, and neither demand is met; with `in(x)` in its place the store is not. The language joins `inout` with `in` to one that writes.
use Rattle.std.specs.Prelude.{◌≡◌, ◌&&◌, ℕ, Bool, true, false, not, List, [], ◌∷◌, Option, Some, None}
use Rattle.oss_syntax.specs.declared.access.Access.{Access}
use Rattle.oss_syntax.specs.declared.access.Mode.TheVariants.{Read}
use Rattle.oss_needs.specs.declared.clause.Clause.{Clause}
use Rattle.oss_needs.specs.declared.clause.Given.{Given}
use Rattle.oss_needs.specs.declared.clause.Given.TheVariants as given
use Rattle.oss_needs.specs.declared.demand.Demand.{Demand}
use Rattle.oss_needs.specs.declared.lack.Lack.{Lack}
use Rattle.oss_needs.specs.declared.lack.Lack.TheVariants as lack
use Rattle.oss_needs.specs.Givens.{given_of}
use Rattle.oss_needs.specs.Meeting.{all_met, is_met, mark_behind, mark_by, right_by}
use Rattle.oss_model.specs.Rights.{Mark, Right, is_mixed, joined_mode, mark_from, right_from}
use Rattle.oss_needs.specs.Lacks.{joined, lack_of, mended, mended_by, mode_eq}

-- What clauses say together, where they can be joined.
abbrev pub said : Given → Option Clause
said given.Nothing = None
said given.Mixed = None
said (given.Says c) = Some c

-- The clauses can be joined.
abbrev pub is_joined : Given → Bool
is_joined given.Mixed = false
is_joined _ = true

-- Nothing is lacking.
abbrev pub is_nothing : Lack → Bool
is_nothing lack.Nothing = true
is_nothing _ = false

-- Clauses that can be joined lack something exactly where a demand is not met.
abbrev pub LacksAreTold : Type 0
LacksAreTold = (g : Given) (ds : List Demand) → is_joined g ≡ true → is_nothing (lack_of g ds) ≡ all_met (said g) ds

-- Once what is lacking is mended, each demand is met.
abbrev pub MendedIsMet : Type 0
MendedIsMet = (g : Given) (ds : List Demand) → all_met (mended g ds) ds ≡ true

-- The language joins a clause that is lacking beside another one with that, as is told.
abbrev pub AddedIsJoined : Type 0
AddedIsJoined = (c d : Clause) (ds : List Demand) → lack_of (given.Says c) ds ≡ lack.Adds d → joined_mode d.mode c.mode ≡ Some (joined d c).mode

-- The clause that is lacking, and the lack with another clause in its place.
abbrev pub clause_of : Lack → Option Clause
clause_of lack.Nothing = None
clause_of (lack.Adds c) = Some c
clause_of (lack.Replaces c) = Some c

abbrev pub with_clause : Lack → Clause → Lack
with_clause lack.Nothing c = lack.Nothing
with_clause (lack.Adds old) c = lack.Adds c
with_clause (lack.Replaces old) c = lack.Replaces c

-- The clause, but weak; and the clause, but to read.
abbrev pub weakened : Clause → Clause
weakened c = record { mode = c.mode; strong = false; fresh = c.fresh }

abbrev pub reading : Clause → Clause
reading c = record { mode = Read; strong = c.strong; fresh = false }

-- With a weak clause in place of the strong one that is lacking, and nothing strong beside it, a demand is not met; nor with one to read in place of one
-- of another mode, if nothing beside it is more.
pub record FewerAreNotMet : Type 0 where
  pub weak : (g : Given) (ds : List Demand) (c e : Clause) → clause_of (lack_of g ds) ≡ Some c → c.strong ≡ true → mended_by g (with_clause (lack_of g ds) (weakened c)) ≡ Some e
      → e.strong ≡ false → all_met (Some e) ds ≡ false
  pub read : (g : Given) (ds : List Demand) (c e : Clause) → clause_of (lack_of g ds) ≡ Some c → mode_eq c.mode Read ≡ false → mended_by g (with_clause (lack_of g ds) (reading c)) ≡ Some e
      → e.mode ≡ Read → all_met (Some e) ds ≡ false

-- Where clauses can be joined, what they say together gives the right that the judge gives to the new task, and the mark with which the cell begins.
pub record GivenIsRight (final : Bool) (clauses : List Access) (c : ℕ) : Type 0 where
  pub joined : is_joined (given_of final clauses c) ≡ not (is_mixed final clauses c)
  pub right : is_mixed final clauses c ≡ false → right_by (said (given_of final clauses c)) ≡ right_from final clauses c
  pub mark : is_mixed final clauses c ≡ false → mark_by (said (given_of final clauses c)) ≡ mark_from final clauses c

-- The judge finds no fault of what is asked of a cell, act by act, under this right and with this mark at the beginning.
abbrev pub all_right : Right → Mark → List Demand → Bool
all_right r m [] = true
all_right r m (d ∷ ds) = all_right r m ds && is_met r (mark_behind m ds) d

-- The clauses of a task lack nothing of a cell for which they can be joined exactly where the judge finds no fault of what the task asks of it.
abbrev pub LacksAreFaults : Type 0
LacksAreFaults = (final : Bool) (clauses : List Access) (c : ℕ) (ds : List Demand) → is_mixed final clauses c ≡ false
    → is_nothing (lack_of (given_of final clauses c) ds) ≡ all_right (right_from final clauses c) (mark_from final clauses c) ds
