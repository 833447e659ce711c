-- What is told of an ask.
use Rattle.std.proofs.Common.{◌≡◌, List, subst, refl}
use Rattle.oss_syntax.specs.declared.access.Access.{Access}
use Rattle.oss_syntax.specs.declared.fault.FaultKind.{FaultKind}
use Rattle.oss_syntax.specs.declared.fault.FaultKind.TheVariants as fault
use Rattle.oss_syntax.specs.declared.tree.program.Item.{Item}
use Rattle.oss_model.specs.Bodies.{Release, WaitOn}
use Rattle.oss_model.specs.Context.{in_clauses}
use Rattle.oss_machine.specs.Frames.{CodeScript}
use Rattle.oss_pieces.specs.declared.piece.Piece.{Piece}
use Rattle.oss_pieces.specs.Pieces.{ArePieces}
use Rattle.oss_explanation.specs.declared.explained.Deed.TheVariants as deed
use Rattle.oss_explanation.specs.Explanations.{IsDeed, IsMiss}
use Rattle.oss_explanation.specs.Explanations.IsDeed.{releases, waits_on}

pub released_deed : (all : List Item) (xs ys : List Access) (ps : List Piece) → xs ≡ ys → ArePieces (in_clauses xs) all 0 0 ps → IsDeed {S = CodeScript} all (Release ys) (deed.Releases ps)
released_deed all xs ys ps e h = subst (λ (zs : List Access). IsDeed {S = CodeScript} all (Release zs) (deed.Releases ps)) e (releases h)

pub waited_deed : (all : List Item) (xs ys : List Access) (ps : List Piece) → xs ≡ ys → ArePieces (in_clauses xs) all 0 0 ps → IsDeed {S = CodeScript} all (WaitOn ys) (deed.WaitsOn ps)
waited_deed all xs ys ps e h = subst (λ (zs : List Access). IsDeed {S = CodeScript} all (WaitOn zs) (deed.WaitsOn ps)) e (waits_on h)

pub is_miss : (k : FaultKind) → (k ≡ fault.TooDeep → ⊥) → (k ≡ fault.DivideByZero → ⊥) → (k ≡ fault.ShiftRange → ⊥) → IsMiss k
is_miss fault.TooDeep a b c = a refl
is_miss fault.DivideByZero a b c = b refl
is_miss fault.ShiftRange a b c = c refl
is_miss fault.OutOfFuel a b c = tt
is_miss fault.TooManyTasks a b c = tt
is_miss fault.OutOfRange a b c = tt
is_miss fault.MixedAccess a b c = tt
is_miss fault.Released a b c = tt
is_miss fault.NoRight a b c = tt
is_miss fault.NotCovered a b c = tt
is_miss fault.BadReduction a b c = tt
is_miss fault.Lent a b c = tt
is_miss fault.Unwritten a b c = tt
