-- At most six messages come to an entry: what all seats have delivered is at most six times the number of entries.
use Rattle.std.proofs.Common.{ℕ, ◌≤◌, ◌*◌, arith, Bool, true, false, not, ◌&&◌, List, ◌++◌}
use Rattle.oss_words.specs.declared.message.Message.{Message}
use Rattle.oss_words.specs.declared.entry.EntryState.{EntryState}
use Rattle.oss_words.specs.declared.entry.EntryInfo.{EntryInfo}
use Rattle.oss_words.specs.Sums.{total, below}
use Rattle.oss_words.specs.Net.{Net, Place}
use Rattle.oss_words.specs.Causes.{part, got, starts_open, starts_clear}
use Rattle.oss_words.specs.Rule.{Rule}
use Rattle.oss_words.specs.Views.{View}
use Rattle.oss_words.proofs.SumLemmas.{total_append}
use Rattle.oss_words.proofs.BoundLemmas.{below_le}

part_one : (b : Bool) (y f : ℕ) → total (λ (m : Message). 1) (part b y f) ≤ 1
part_one true y f = omega arith
part_one false y f = omega arith

got_six : (p : Place) (e : ℕ) (c : EntryState) → total (λ (m : Message). 1) (got p e c) ≤ 6
got_six p e c =
    let m0 = total_append (λ (m : Message). 1) (part (c.done && c.headed) e 1) ((part (c.folds && not (starts_open p)) e 2 ++ (part (c.reads && not (starts_open p)) e 3 ++ (part (c.writes && not (starts_open p)) e 4 ++ (part (c.clear && not (starts_clear p)) e 5 ++ part (c.given && c.left) e 0))))) in
    let m1 = total_append (λ (m : Message). 1) (part (c.folds && not (starts_open p)) e 2) ((part (c.reads && not (starts_open p)) e 3 ++ (part (c.writes && not (starts_open p)) e 4 ++ (part (c.clear && not (starts_clear p)) e 5 ++ part (c.given && c.left) e 0)))) in
    let m2 = total_append (λ (m : Message). 1) (part (c.reads && not (starts_open p)) e 3) ((part (c.writes && not (starts_open p)) e 4 ++ (part (c.clear && not (starts_clear p)) e 5 ++ part (c.given && c.left) e 0))) in
    let m3 = total_append (λ (m : Message). 1) (part (c.writes && not (starts_open p)) e 4) ((part (c.clear && not (starts_clear p)) e 5 ++ part (c.given && c.left) e 0)) in
    let m4 = total_append (λ (m : Message). 1) (part (c.clear && not (starts_clear p)) e 5) (part (c.given && c.left) e 0) in
    let x0 = part_one (c.done && c.headed) e 1 in
    let x1 = part_one (c.folds && not (starts_open p)) e 2 in
    let x2 = part_one (c.reads && not (starts_open p)) e 3 in
    let x3 = part_one (c.writes && not (starts_open p)) e 4 in
    let x4 = part_one (c.clear && not (starts_clear p)) e 5 in
    let x5 = part_one (c.given && c.left) e 0 in
    omega (arith, m0, m1, m2, m3, m4, x0, x1, x2, x3, x4, x5)

pub work_bound : (n : ℕ) (place : ℕ → Place) (states : ℕ → EntryState) → below (λ e. total (λ (m : Message). 1) (got (place e) e (states e))) n ≤ n * 6
work_bound n place states = below_le (λ e. total (λ (m : Message). 1) (got (place e) e (states e))) n 6 (λ e. got_six (place e) e (states e))

pub work_bounded : (n : ℕ) (net : Net) (gave : ℕ → Bool) (states : ℕ → EntryState) (infos : ℕ → EntryInfo) (draw : ℕ) (views : List View) → Rule n net gave states infos draw views → total (λ (v : View). v.delivered) views ≤ n * 6
work_bounded n net gave states infos draw views rule = let a = rule.seats.work in let b = work_bound n net.place states in omega (arith, a, b)
