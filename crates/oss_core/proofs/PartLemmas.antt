-- Parts of a core with another dependency system, which was told the same.
use Rattle.std.proofs.Common.{◌∙◌, ℕ, List, length, sym, subst}
use Rattle.oss_code.specs.declared.code.CodeParts.{CodeParts}
use Rattle.oss_deps.specs.Seen.{Seen}
use Rattle.oss_machine.specs.Frames.{CodeScript}
use Rattle.oss_machine.specs.Machines.{asks}
use Rattle.oss_model.specs.Bodies.{Start}
use Rattle.oss_model.specs.Machine.{State}
use Rattle.oss_core.specs.declared.parts.CoreParts.{CoreParts as Parts}
use Rattle.oss_core.specs.Kept.{IsCore, own}
use Rattle.oss_core.specs.Moving.{AreSound}
use Rattle.oss_core.specs.Parts.{AreParts, IsToldOf, kept_with}
use Rattle.oss_core.specs.Retelling.{AreGiven, AreSome, IsTold}
use Rattle.oss_core.proofs.CoreLemmas.{held_same, known_same}
use Rattle.oss_core.proofs.RegivenLemmas.{given_same}
use Rattle.oss_core.proofs.RetoldLemmas.{told_all}

pub told_again : (code : CodeParts) (main : Start CodeScript) (first : List ℕ) (p : Parts) (s : State CodeScript) (seen now : Seen)
    (core : IsCore code main first (kept_with seen p) s) → IsToldOf code core.bodies seen now → IsCore code main first (kept_with now p) s
told_again code main first p s seen now core told = record {
  setting = core.setting;
  depth = core.depth;
  reached = core.reached;
  bodies = core.bodies;
  sound = told.sound;
  stands = record {
    cells_are = core.stands.cells_are;
    there = λ v b is.
        let t = core.stands.there v b is in
        (t.0, t.1, t.2, λ c. ((λ i. told.given v c ∙ (t.3 c).0 i), (λ g. (t.3 c).1 (sym (told.given v c) ∙ g))));
    back = core.stands.back;
  };
  held = record { size = core.held.size; each = λ v b h e f. held_same code (seen.given v) (now.given v) b h (told.given v) (core.held.each v b h e f) };
  known = record { tree_is = core.known.tree_is; size = core.known.size; each = λ v b t e f. known_same code (seen.given v) (now.given v) b t (told.given v) (core.known.each v b t e f) };
  done = core.done;
  are_prints = core.are_prints;
  prints_are = core.prints_are;
}

-- Parts with a system that was told anew of all tasks, and of all cells that they have given up.
pub retold : (code : CodeParts) (main : Start CodeScript) (first : List ℕ) (p : Parts) (s : State CodeScript) (mid now : Seen) → AreParts code main first p s
    → IsTold p.tasks.items p.tree.tasks (length p.tree.tasks) 0 mid → AreGiven p.tasks.items (length p.tree.tasks) mid now → IsCore code main first (kept_with now p) s
retold code main first p s mid now parts told given =
    let some : AreSome p.tasks.items p.tree = record { code = code; main = main; first = first; seen = parts.0; cells = p.cells.items; state = s; core = parts.1 } in
    told_again code main first p s parts.0 now parts.1 (record {
      sound = subst (λ os. AreSound (asks code) own (λ b. Unit {0}) parts.1.bodies os now.given) (sym given.opens)
          (told_all p.tasks.items p.tree some mid told now.given (given_same p.tasks.items p.tree some mid told now given));
      given = given_same p.tasks.items p.tree some mid told now given;
    })
