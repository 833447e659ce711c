-- A text has one reading.
use Rattle.std.proofs.Common.{◌≡◌, ℕ, refl, sym, ◌∙◌, inl, inr, List}
use Rattle.std.proofs.lemmas.Bool.{eqb-false}
use Rattle.oss_sched.specs.declared.moves.TextMove.{TextMove}
use Rattle.oss_sched.specs.declared.moves.TextMove.TheVariants.{Step, Let, Join}
use Rattle.oss_sched.specs.Schedules.{IsFirstWrong, IsMoveLine, IsReadOnce, IsRemark, IsSchedule, move_text}
use Rattle.oss_sched.specs.Schedules.IsSchedule.{over, remark, asked}
use Rattle.oss_sched.specs.Schedules.IsFirstWrong.{here, later}
use Rattle.oss_sched.proofs.CutLemmas.{some_is}
use Rattle.oss_sched.proofs.MoveLemmas.{move_again}

one_move : (line : List ℕ) (what other : TextMove) → IsMoveLine line what → IsMoveLine line other → what ≡ other
one_move line what other is also = some_is what other (sym (move_again line what is) ∙ move_again line other also)

-- a move begins with its verb
no_remark_text : (what : TextMove) → IsRemark (move_text what) → ⊥
no_remark_text (Step point count) is = eqb-false 115 35 refl is
no_remark_text (Let point first count) is = eqb-false 108 35 refl is
no_remark_text (Join point first count) is = eqb-false 106 35 refl is

no_remark : (line : List ℕ) (what : TextMove) → IsRemark line → IsMoveLine line what → ⊥
no_remark line what silent is = no_remark_text what (rw is.text at silent)

one_list : {lines : List (List ℕ)} {moves others : List TextMove} → IsSchedule lines moves → IsSchedule lines others → moves ≡ others
one_list over over = refl
one_list (remark silent rest) (remark also other) = one_list rest other
one_list (remark {line = line} silent rest) (asked {what = what} is other) = absurd (no_remark line what silent is)
one_list (asked {line = line} {what = what} is rest) (remark silent other) = absurd (no_remark line what silent is)
one_list (asked {line = line} {what = what} {moves = moves} is rest) (asked {what = what'} {moves = moves'} also other) =
    let same : what ≡ what' = one_move line what what' is also in
    let more : moves ≡ moves' = one_list rest other in
    cc

no_both : {lines : List (List ℕ)} {moves : List TextMove} {number at : ℕ} → IsSchedule lines moves → IsFirstWrong number lines at → ⊥
no_both over wrong = elim wrong [ ]
no_both (remark silent rest) (here wrong) = wrong (inl silent)
no_both (remark silent rest) (later right more) = no_both rest more
no_both (asked {what = what} is rest) (here wrong) = wrong (inr (what, is))
no_both (asked is rest) (later right more) = no_both rest more

one_line : {lines : List (List ℕ)} {number at other : ℕ} → IsFirstWrong number lines at → IsFirstWrong number lines other → at ≡ other
one_line (here wrong) (here also) = refl
one_line (here wrong) (later right more) = absurd (wrong right)
one_line (later right more) (here wrong) = absurd (wrong right)
one_line (later right more) (later also other) = one_line more other

pub read_once : (text : List ℕ) → IsReadOnce text
read_once text = record {
  one_list = λ moves others is also. one_list is also;
  no_both = λ moves number is wrong. no_both is wrong;
  one_line = λ number other is also. one_line is also;
  one_move = λ what other is also. one_move text what other is also;
  no_remark = λ what silent is. no_remark text what silent is;
}
