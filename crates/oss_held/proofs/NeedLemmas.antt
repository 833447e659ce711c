-- What a held state at the beginning needs: one entry, that of main.
use Rattle.std.proofs.Common.{◌≡◌, ℕ, refl, sym, subst, List, [], ◌∷◌}
use Rattle.oss_code.specs.declared.code.CodeParts.{CodeParts}
use Rattle.oss_core.specs.Kept.{IsCore}
use Rattle.oss_body.specs.Mains.{code_main}
use Rattle.oss_machine.specs.Frames.{CodeScript}
use Rattle.oss_model.specs.Machine.{At, Task, find}
use Rattle.oss_model.specs.Moves.{opening}
use Rattle.oss_held.specs.Needs.{IsNeeded, none}
use Rattle.oss_held.specs.States.{Contents, IsHeldState, kept_in}

-- no task but main is there at the beginning
none_else : (code : CodeParts) (fuel k : ℕ) (p : List ℕ) (t : Task CodeScript) → At (opening (code_main code fuel) code.first) (k ∷ p) t → ⊥
unfolding find
none_else code fuel k p t at = cc

-- main alone needs its entry
pub main_needs : (code : CodeParts) (fuel : ℕ) → IsNeeded (opening (code_main code fuel) code.first) 1
main_needs code fuel = record {
  others = [];
  are = record { exact = λ t. ((λ i. elim i [ ]), (λ h. absurd (none_else code fuel h.0 h.1 t h.2))); once = λ i j t u e f g. absurd cc };
  entries = 0;
  have = none;
  count = refl;
}

-- a held state at the beginning
pub begins : (code : CodeParts) (fuel : ℕ) (h : Contents) → IsCore code (code_main code fuel) code.first (kept_in h) (opening (code_main code fuel) code.first) → h.entries ≡ 1 → IsHeldState code fuel h (opening (code_main code fuel) code.first)
begins code fuel h core e = record { core = core; needed = subst (IsNeeded (opening (code_main code fuel) code.first)) (sym e) (main_needs code fuel) }
