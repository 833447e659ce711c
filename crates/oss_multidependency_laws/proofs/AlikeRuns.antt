-- Two runs that ask alike after the same answers, each cell of an ask in an access of its own, and create with good scripts alone.
use Rattle.std.proofs.Common.{◌≡◌, ℕ, Bool, true, false, List, [], ◌∷◌, Option, Some, None, refl, ap}
use Rattle.std.specs.Prelude.{if◌then◌else◌, Result, Ok, Err}
use Rattle.oss_syntax.specs.declared.fault.FaultKind.{FaultKind}
use Rattle.oss_syntax.specs.declared.fault.FaultKind.TheVariants as fault
use Rattle.oss_model.specs.Bodies.{Ask, Asked}
use Rattle.oss_model.specs.Bodies.Ask.{Fails, Read}
use Rattle.oss_meaning.specs.declared.value.Value.{Value}
use Rattle.oss_meaning.specs.declared.value.Value.TheVariants as value
use Rattle.oss_meaning.specs.Expressions.{TreeRun, TreeScript, at_cell, loaded, unless_fault}
use Rattle.oss_meaning.specs.Pointers.{Extent, cell_of}
use Rattle.oss_meaning.specs.Runs.{asking, ending}
use Rattle.oss_multidependency_laws.specs.Grouping.{plain_ask, plain_asked}
use Rattle.oss_multidependency_laws.proofs.PlainBodies.{IsGoodAsk}

module _ (Good : TreeScript → Type 0) where
  -- two asks that are one with each cell alone; a creation runs a good script
  pub record AsksAlike (a b : Asked TreeScript) : Type 0 where
    pub same : plain_asked a ≡ plain_asked b
    pub good : IsGoodAsk Good a.ask

  -- two runs that ask so after all answers
  abbrev pub Like : TreeRun → TreeRun → Type 0
  Like r q = (answers : List ℕ) → AsksAlike (r answers) (q answers)

  pub asking_like : (a b : Ask TreeScript) (line : ℕ) (go on : ℕ → TreeRun) → plain_ask a ≡ plain_ask b → IsGoodAsk Good a → ((v : ℕ) → Like (go v) (on v)) → Like (asking a line go) (asking b line on)
  asking_like a b line go on same good rest [] = record { same = ap {B = Asked TreeScript} (λ x. record { ask = x; line = line }) same; good = good }
  asking_like a b line go on same good rest (v ∷ vs) = rest v vs

  pub ending_like : (a : Ask TreeScript) (line : ℕ) → IsGoodAsk Good a → Like (ending a line) (ending a line)
  ending_like a line good answers = record { same = refl; good = good }

  pub if_like : (b : Bool) (r q s t : TreeRun) → Like r q → Like s t → Like (if b then r else s) (if b then q else t)
  if_like true r q s t one other = one
  if_like false r q s t one other = other

  pub cell_like : (o : Option ℕ) (line : ℕ) (go on : ℕ → TreeRun) → ((c : ℕ) → Like (go c) (on c)) → Like (at_cell o line go) (at_cell o line on)
  cell_like None line go on ok = ending_like (Fails fault.OutOfRange) line tt
  cell_like (Some c) line go on ok = ok c

  pub loaded_like : (globals : List Extent) (line : ℕ) (p : Value) (go on : Value → TreeRun) → ((v : Value) → Like (go v) (on v)) → Like (loaded globals line p go) (loaded globals line p on)
  loaded_like globals line p go on ok =
      cell_like (cell_of globals p) line (λ c. asking (Read c) line (λ v. go (value.Num v))) (λ c. asking (Read c) line (λ v. on (value.Num v)))
      (λ c. asking_like (Read c) (Read c) line (λ v. go (value.Num v)) (λ v. on (value.Num v)) refl tt (λ v. ok (value.Num v)))

  pub unless_like : {A : Type 0} (r : Result A FaultKind) (line : ℕ) (go on : A → TreeRun) → ((v : A) → Like (go v) (on v)) → Like (unless_fault r line go) (unless_fault r line on)
  unless_like (Ok v) line go on ok = ok v
  unless_like (Err kind) line go on ok = ending_like (Fails kind) line tt
