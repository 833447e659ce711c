-- How a run of the tree is followed by a body of the code: silent steps, asks, and what comes to no further ask.
use Rattle.std.proofs.Common.{◌≡◌, ◌∙◌, ℕ, ◌<◌, ◌≤◌, List, [], ◌∷◌, ◌++◌, length, refl, sym, ap, arith, reverse, append_assoc}
use Rattle.std.proofs.lemmas.Grind.{reverse_onto}
use Rattle.std.proofs.lemmas.List.{append-nil}
use Rattle.oss_model.specs.Bodies.{Ask, Asked}
use Rattle.oss_meaning.specs.Expressions.{TaskBody, TreeRun, TreeScript}
use Rattle.oss_meaning.specs.Runs.{asking, ending}
use Rattle.oss_code.specs.declared.code.CodeParts.{CodeParts}
use Rattle.oss_machine.specs.Frames.{CodeScript, Config, start_of}
use Rattle.oss_machine.specs.Machines.{Standing, asked_in, asked_now, asks, machine_at, resumed, settled, standing}
use Rattle.oss_machine.specs.Steps.{Goes, Waits, one_step}
use Rattle.oss_machine.proofs.SettleLemmas.{resumed_waits, settled_goes, settled_waits}
use Rattle.oss_lower_laws.specs.Programs.{moved_ask, moved_asked}

module _ (code : CodeParts) where
  -- what a body that stands so asks after these answers, the oldest first
  abbrev pub run_of : Config → List ℕ → Asked CodeScript
  run_of c [] = asked_now code (settled code c)
  run_of c (v ∷ vs) = run_of (resumed code v (settled code c)) vs

  same_run : (c d : Config) → settled code d ≡ settled code c → (answers : List ℕ) → run_of d answers ≡ run_of c answers
  same_run c d e [] = ap (λ x. asked_now code x) e
  same_run c d e (v ∷ vs) = ap (λ x. run_of (resumed code v x) vs) e

  waits_asked : (c : Config) (asked : Asked CodeScript) (next : ℕ → Config) → one_step code c ≡ Waits asked next → run_of c [] ≡ asked
  waits_asked c asked next e = ap (λ x. asked_now code x) (settled_waits code c asked next e) ∙ ap asked_in e

  waits_resumed : (c : Config) (asked : Asked CodeScript) (next : ℕ → Config) (v : ℕ) (vs : List ℕ) → one_step code c ≡ Waits asked next → run_of c (v ∷ vs) ≡ run_of (next v) vs
  waits_resumed c asked next v vs e =
      ap (λ x. run_of (resumed code v x) vs) (settled_waits code c asked next e) ∙ ap (λ x. run_of x vs) (resumed_waits code c v asked next e)

  -- For so many answers, a run of the tree is followed by the body that stands so.
  module _ (places : TaskBody → ℕ) where
    abbrev pub Follows : ℕ → Config → TreeRun → Type 0
    Follows n c r = (answers : List ℕ) → length answers ≤ n → moved_asked places (r answers) ≡ run_of c answers

    pub fewer_follow : (m n : ℕ) (c : Config) (r : TreeRun) → m ≤ n → Follows n c r → Follows m c r
    fewer_follow m n c r le follows answers h = follows answers (omega (arith, h, le))

    pub follow_goes : (n : ℕ) (c d : Config) (r : TreeRun) → one_step code c ≡ Goes d → Follows n d r → Follows n c r
    follow_goes n c d r e follows answers h = follows answers h ∙ same_run c d (settled_goes code c d e) answers

    pub follow_waits : (n : ℕ) (c : Config) (a : Ask TreeScript) (line : ℕ) (go : ℕ → TreeRun) (next : ℕ → Config)
        → one_step code c ≡ Waits (record { ask = moved_ask places a; line = line }) next
        → ((m v : ℕ) → m < n → Follows m (next v) (go v)) → Follows n c (asking a line go)
    follow_waits n c a line go next e follows [] h = sym (waits_asked c _ next e)
    follow_waits n c a line go next e follows (v ∷ vs) h = follows (length vs) v (omega (arith, h)) vs (omega arith) ∙ sym (waits_resumed c _ next v vs e)

    pub follow_stays : (n : ℕ) (c : Config) (a : Ask TreeScript) (line : ℕ)
        → one_step code c ≡ Waits (record { ask = moved_ask places a; line = line }) (λ t. c) → Follows n c (ending a line)
    follow_stays n c a line e [] h = sym (waits_asked c _ (λ t. c) e)
    follow_stays n c a line e (v ∷ vs) h = follow_stays n c a line e vs (omega (arith, h)) ∙ sym (waits_resumed c _ (λ t. c) v vs e)

    -- where no answer is left, the ask is all that is seen
    pub follow_once : (n : ℕ) (c : Config) (a : Ask TreeScript) (line : ℕ) (r : TreeRun) (next : ℕ → Config) → n ≤ 0 → r [] ≡ record { ask = a; line = line }
        → one_step code c ≡ Waits (record { ask = moved_ask places a; line = line }) next → Follows n c r
    follow_once n c a line r next none is e [] h = ap (λ x. moved_asked places x) is ∙ sym (waits_asked c _ next e)
    follow_once n c a line r next none is e (v ∷ vs) h = absurd (omega (arith, h, none))

-- Answers, the newest first

-- a machine that goes on from where it waits
run_from : CodeParts → Standing → List ℕ → Asked CodeScript
run_from code m [] = m.asked
run_from code m (v ∷ vs) = run_of code (resumed code v m.config) vs

run_is : (code : CodeParts) (c : Config) (later : List ℕ) → run_of code c later ≡ run_from code (standing code (settled code c)) later
unfolding run_from
run_is code c [] = refl
run_is code c (v ∷ vs) = refl

run_after : (code : CodeParts) (s : CodeScript) (answers later : List ℕ) → run_of code (start_of s) (reverse answers ++ later) ≡ run_from code (machine_at code s answers) later
unfolding run_from
run_after code s [] later = run_is code (start_of s) later
run_after code s (v ∷ vs) later =
    let over : reverse (v ∷ vs) ++ later ≡ reverse vs ++ (v ∷ later) = ap (λ l. l ++ later) (reverse_onto vs v []) ∙ append_assoc (reverse vs) (v ∷ []) later in
    ap (λ l. run_of code (start_of s) l) over ∙ run_after code s vs (v ∷ later) ∙ run_is code (resumed code v (machine_at code s vs).config) later

-- A machine with its answers, the newest first, asks what a body asks with them in their order.
pub asks_is : (code : CodeParts) (s : CodeScript) (answers : List ℕ) → run_of code (start_of s) (reverse answers) ≡ asks code s answers
unfolding run_from
asks_is code s answers = ap (λ l. run_of code (start_of s) l) (sym (append-nil (reverse answers))) ∙ run_after code s answers []
