-- What is read of a line is what the line is.
use Rattle.std.proofs.Common.{◌≡◌, ◌≤◌, ℕ, Bool, true, false, refl, sym, ap, ◌∙◌, inl, inr, List, [], ◌∷◌, ◌++◌, Option, Some, None, arith, if◌then◌else◌}
use Rattle.std.specs.Prelude.{◌↔◌, codes, IfOk, Result, Ok, Err}
use Rattle.std.specs.Fmt.{decimal}
use Rattle.std.specs.Str.{bytes_eq}
use Rattle.std.proofs.lemmas.Bool.{eqb-true, eq-eqb}
use Rattle.std.proofs.lemmas.Slice.Eq.{bytes_eq-Decides}
use Rattle.oss_model.specs.Points.{IsPointText, IsTaskPoint, text_of}
use Rattle.oss_model.proofs.PointLemmas.{point_read}
use Rattle.oss_sched.specs.declared.moves.TextMove.{TextMove}
use Rattle.oss_sched.specs.declared.moves.TextMove.TheVariants.{Step, Let, Join}
use Rattle.oss_sched.specs.declared.told.Told.{Told}
use Rattle.oss_sched.specs.declared.told.Told.TheVariants.{Nothing, Move, Wrong}
use Rattle.oss_sched.specs.declared.told.CellVerb.{CellVerb}
use Rattle.oss_sched.specs.declared.told.CellVerb.TheVariants as verb
use Rattle.oss_sched.specs.Schedules.{IsCellRun, IsMoveLine, IsRemark, IsWithinLimits, IsWrongLine, cells_text, move_text}
use Rattle.oss_sched.specs.Reading.{cells_cut, cells_in, cells_made, cells_move, cut_at, is_remark, move_cut, move_in, named_move, number_in, point_in, run_cut, run_in, run_made, step_cut, step_in, step_made, told_in, told_of}
use Rattle.oss_sched.proofs.ByteLemmas.{decimal_from, point_from}
use Rattle.oss_sched.proofs.CutLemmas.{cut_again, cut_taken, some_is}
use Rattle.oss_sched.proofs.NumberLemmas.{within_again, within_taken}

-- points

point_is : (text : List ℕ) (o : Option (List ℕ)) → ((p : List ℕ) → (o ≡ Some p) ↔ IsPointText text p) → o ≡ point_in text
point_is text (Some p) tells = sym ((point_read text p).1 ((tells p).0 refl))
point_is text None tells = by (point_in text) refl where
  by : (o : Option (List ℕ)) → point_in text ≡ o → None ≡ point_in text
  by None is = sym is
  by (Some p) is = let found : None ≡ Some p = (tells p).1 ((point_read text p).0 is) in cc

pub point_ok : {E : Type 0} (text : List ℕ) (r : Result (Option (List ℕ)) E) → IfOk r (λ o. (p : List ℕ) → (o ≡ Some p) ↔ IsPointText text p) → IfOk r (λ o. o ≡ point_in text)
point_ok text (Ok o) tells = point_is text o tells
point_ok text (Err e) tells = tt

point_taken : (text p : List ℕ) → point_in text ≡ Some p → IsPointText text p
point_taken text p e = (point_read text p).0 e

point_again : (p : List ℕ) → IsTaskPoint p → point_in (text_of p) ≡ Some p
point_again p is = (point_read (text_of p) p).1 (is, refl)

-- runs of cells

run_taken : (text : List ℕ) (run : ℕ × ℕ) → run_in text ≡ Some run → (text ≡ decimal run.0 ++ 32 ∷ decimal run.1) × IsCellRun run.0 run.1
unfolding run_in
run_taken text run e = by (cut_at text) refl e where
  made : (parts : List ℕ × List ℕ) (first count : Option ℕ) → text ≡ parts.0 ++ 32 ∷ parts.1 → number_in 0 1048575 parts.0 ≡ first → number_in 1 1048576 parts.1 ≡ count → run_made first count ≡ Some run → (text ≡ decimal run.0 ++ 32 ∷ decimal run.1) × IsCellRun run.0 run.1
  made parts None count split f c g = cc
  made parts (Some first) None split f c g = cc
  made parts (Some first) (Some count) split f c g =
      let pair : ℕ × ℕ = (first, count) in
      let is : pair ≡ run = some_is pair run g in
      let front = within_taken 0 1048575 parts.0 first f in
      let back = within_taken 1 1048576 parts.1 count c in
      rw (← is) (split ∙ ap (λ w. w ++ 32 ∷ parts.1) front.0 ∙ ap (λ w. decimal first ++ 32 ∷ w) back.0, (front.2, back.1, back.2))

  by : (cut : Option (List ℕ × List ℕ)) → cut_at text ≡ cut → run_cut cut ≡ Some run → (text ≡ decimal run.0 ++ 32 ∷ decimal run.1) × IsCellRun run.0 run.1
  by None is f = cc
  by (Some parts) is f = made parts (number_in 0 1048575 parts.0) (number_in 1 1048576 parts.1) (cut_taken text parts is) refl refl f

run_again : (first count : ℕ) → IsCellRun first count → run_in (decimal first ++ 32 ∷ decimal count) ≡ Some (first, count)
unfolding run_in
run_again first count is =
    let low : 0 ≤ first = omega arith in
    let few : first ≤ 1048575 = is.0 in
    let some : 1 ≤ count = is.1 in
    let short : count ≤ 1048576 = is.2 in
    rw (cut_again (decimal first) (decimal count) (decimal_from first), within_again 0 1048575 first low few (omega arith), within_again 1 1048576 count some short (omega arith)) refl

-- moves on cells

record CellsTaken (name : CellVerb) (text : List ℕ) (what : TextMove) : Type 0 where
  point : List ℕ
  first : ℕ
  count : ℕ
  is : what ≡ cells_move name point first count
  task : IsTaskPoint point
  run : IsCellRun first count
  split : text ≡ cells_text point first count

cells_taken : (name : CellVerb) (text : List ℕ) (what : TextMove) → cells_in name text ≡ Some what → CellsTaken name text what
unfolding cells_in
cells_taken name text what e = by (cut_at text) refl e where
  made : (parts : List ℕ × List ℕ) (point : Option (List ℕ)) (run : Option (ℕ × ℕ)) → text ≡ parts.0 ++ 32 ∷ parts.1 → point_in parts.0 ≡ point → run_in parts.1 ≡ run → cells_made name point run ≡ Some what → CellsTaken name text what
  made parts None run split p r g = cc
  made parts (Some point) None split p r g = cc
  made parts (Some point) (Some run) split p r g =
      let at = point_taken parts.0 point p in
      let cells = run_taken parts.1 run r in
      record {
        point = point;
        first = run.0;
        count = run.1;
        is = sym (some_is (cells_move name point run.0 run.1) what g);
        task = at.0;
        run = cells.1;
        split = split ∙ ap (λ w. w ++ 32 ∷ parts.1) at.1 ∙ ap (λ w. text_of point ++ 32 ∷ w) cells.0;
      }

  by : (cut : Option (List ℕ × List ℕ)) → cut_at text ≡ cut → cells_cut name cut ≡ Some what → CellsTaken name text what
  by None is f = cc
  by (Some parts) is f = made parts (point_in parts.0) (run_in parts.1) (cut_taken text parts is) refl refl f

cells_again : (name : CellVerb) (point : List ℕ) (first count : ℕ) → IsTaskPoint point → IsCellRun first count → cells_in name (cells_text point first count) ≡ Some (cells_move name point first count)
unfolding cells_in
cells_again name point first count task run =
    rw (cut_again (text_of point) (decimal first ++ 32 ∷ decimal count) (point_from point), point_again point task, run_again first count run) refl

-- steps

record StepTaken (text : List ℕ) (what : TextMove) : Type 0 where
  point : List ℕ
  count : ℕ
  is : what ≡ Step point count
  task : IsTaskPoint point
  some : 1 ≤ count
  small : count ≤ 18446744073709551615
  split : text ≡ text_of point ++ 32 ∷ decimal count

step_taken : (text : List ℕ) (what : TextMove) → step_in text ≡ Some what → StepTaken text what
unfolding step_in
step_taken text what e = by (cut_at text) refl e where
  made : (parts : List ℕ × List ℕ) (point : Option (List ℕ)) (count : Option ℕ) → text ≡ parts.0 ++ 32 ∷ parts.1 → point_in parts.0 ≡ point → number_in 1 18446744073709551615 parts.1 ≡ count → step_made point count ≡ Some what → StepTaken text what
  made parts None count split p c g = cc
  made parts (Some point) None split p c g = cc
  made parts (Some point) (Some count) split p c g =
      let at = point_taken parts.0 point p in
      let number = within_taken 1 18446744073709551615 parts.1 count c in
      record {
        point = point;
        count = count;
        is = sym (some_is (Step point count) what g);
        task = at.0;
        some = number.1;
        small = number.2;
        split = split ∙ ap (λ w. w ++ 32 ∷ parts.1) at.1 ∙ ap (λ w. text_of point ++ 32 ∷ w) number.0;
      }

  by : (cut : Option (List ℕ × List ℕ)) → cut_at text ≡ cut → step_cut cut ≡ Some what → StepTaken text what
  by None is f = cc
  by (Some parts) is f = made parts (point_in parts.0) (number_in 1 18446744073709551615 parts.1) (cut_taken text parts is) refl refl f

step_again : (point : List ℕ) (count : ℕ) → IsTaskPoint point → 1 ≤ count → count ≤ 18446744073709551615 → step_in (text_of point ++ 32 ∷ decimal count) ≡ Some (Step point count)
unfolding step_in
step_again point count task some small =
    rw (cut_again (text_of point) (decimal count) (point_from point), point_again point task, within_again 1 18446744073709551615 count some small (omega arith)) refl

-- lines

step_line : (line rest : List ℕ) (what : TextMove) → line ≡ codes "step " ++ rest → step_in rest ≡ Some what → IsMoveLine line what
step_line line rest what split e =
    let taken = step_taken rest what e in
    rw taken.is (record { limits = (taken.task, taken.some, taken.small); text = split ∙ ap (λ w. codes "step " ++ w) taken.split })

let_line : (line rest : List ℕ) (what : TextMove) → line ≡ codes "let " ++ rest → cells_in verb.Let rest ≡ Some what → IsMoveLine line what
let_line line rest what split e =
    let taken = cells_taken verb.Let rest what e in
    rw taken.is (record { limits = (taken.task, taken.run); text = split ∙ ap (λ w. codes "let " ++ w) taken.split })

join_line : (line rest : List ℕ) (what : TextMove) → line ≡ codes "join " ++ rest → cells_in verb.Join rest ≡ Some what → IsMoveLine line what
join_line line rest what split e =
    let taken = cells_taken verb.Join rest what e in
    rw taken.is (record { limits = (taken.task, taken.run); text = split ∙ ap (λ w. codes "join " ++ w) taken.split })

named_taken : (line word rest : List ℕ) (what : TextMove) → line ≡ word ++ 32 ∷ rest → named_move word rest ≡ Some what → IsMoveLine line what
unfolding named_move
named_taken line word rest what split e = by (bytes_eq word (codes "step")) (bytes_eq word (codes "let")) (bytes_eq word (codes "join")) refl refl refl e where
  by : (t u v : Bool) → bytes_eq word (codes "step") ≡ t → bytes_eq word (codes "let") ≡ u → bytes_eq word (codes "join") ≡ v
      → (if t then step_in rest else (if u then cells_in verb.Let rest else (if v then cells_in verb.Join rest else None))) ≡ Some what → IsMoveLine line what
  by true u v s l j f = step_line line rest what (split ∙ ap (λ w. w ++ 32 ∷ rest) ((bytes_eq-Decides word (codes "step")).0 s)) f
  by false true v s l j f = let_line line rest what (split ∙ ap (λ w. w ++ 32 ∷ rest) ((bytes_eq-Decides word (codes "let")).0 l)) f
  by false false true s l j f = join_line line rest what (split ∙ ap (λ w. w ++ 32 ∷ rest) ((bytes_eq-Decides word (codes "join")).0 j)) f
  by false false false s l j f = cc

pub move_taken : (line : List ℕ) (what : TextMove) → move_in line ≡ Some what → IsMoveLine line what
unfolding move_in
move_taken line what e = by (cut_at line) refl e where
  by : (cut : Option (List ℕ × List ℕ)) → cut_at line ≡ cut → move_cut cut ≡ Some what → IsMoveLine line what
  by None is f = cc
  by (Some parts) is f = named_taken line parts.0 parts.1 what (cut_taken line parts is) f

text_again : (what : TextMove) → IsWithinLimits what → move_in (move_text what) ≡ Some what
unfolding move_in named_move
text_again (Step point count) is =
    rw (cut_again (codes "step") (text_of point ++ 32 ∷ decimal count) refl) (step_again point count is.0 is.1 is.2)
text_again (Let point first count) is =
    rw (cut_again (codes "let") (cells_text point first count) refl) (cells_again verb.Let point first count is.0 is.1)
text_again (Join point first count) is =
    rw (cut_again (codes "join") (cells_text point first count) refl) (cells_again verb.Join point first count is.0 is.1)

pub move_again : (line : List ℕ) (what : TextMove) → IsMoveLine line what → move_in line ≡ Some what
move_again line what is = ap move_in is.text ∙ text_again what is.limits

-- what a line tells

remark_is : (line : List ℕ) → is_remark line ≡ true → IsRemark line
remark_is [] is = tt
remark_is (b ∷ more) is = eqb-true b 35 is

remark_again : (line : List ℕ) → IsRemark line → is_remark line ≡ true
remark_again [] is = refl
remark_again (b ∷ more) is = eq-eqb b 35 is

-- what a line that tells this is
abbrev Tells : List ℕ → Told → Type 0
Tells line Nothing = IsRemark line
Tells line (Move what) = IsMoveLine line what
Tells line Wrong = IsWrongLine line

pub line_tells : (line : List ℕ) (told : Told) → told_in line ≡ told → Tells line told
unfolding told_in
line_tells line told e = by (is_remark line) (move_in line) refl refl e where
  found : (o : Option TextMove) → is_remark line ≡ false → move_in line ≡ o → Tells line (told_of o)
  found (Some what) r is = move_taken line what is
  found None r is =
      λ right. (elim right [
        | inl remark ↦ let silent : is_remark line ≡ true = remark_again line remark in cc
        | inr asked ↦ let again : move_in line ≡ Some asked.0 = move_again line asked.0 asked.1 in cc
      ])

  by : (t : Bool) (o : Option TextMove) → is_remark line ≡ t → move_in line ≡ o → (if t then Nothing else told_of o) ≡ told → Tells line told
  by true o r is f = rw (← f) (remark_is line r)
  by false o r is f = rw (← f) (found o r is)
