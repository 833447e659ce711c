use Rattle.std.proofs.Common.{◌≡◌, ℕ, sym, subst, List, None}
use Rattle.std.specs.Prelude.{MatchOption}
use Rattle.oss_deps.specs.declared.frame.Frame.{Frame}
use Rattle.oss_deps.specs.declared.frame.Mark.{Mark}
use Rattle.oss_deps.specs.Columns.{IsPlaceOf}
use Rattle.oss_deps.specs.Places.{IsFirstOf, first_at}
use Rattle.oss_deps.proofs.LookupLemmas.{one_place_of}
use Rattle.oss_deps.proofs.column.Column.undone_child.Goals as goal

pub returns-in-Some-clause-some : goal.returns-in-Some-clause-some
returns-in-Some-clause-some c = λ k p.
    let q = subst (λ (xs : List Frame). IsPlaceOf xs c.args.number c.in-Some.at) c.as_slice.ensures.value c.in-Some.ensures.found in
    let same = one_place_of c.args.self.now.frames.items c.requires.linked c.args.number c.in-Some.at k q p in
    let told = subst (λ (xs : List Frame). MatchOption c.first_task.result (first_at c.as_slice-in-Some-2.result.now c.in-Some.at ≡ None) (λ t. IsFirstOf xs c.as_slice-in-Some-2.result.now c.in-Some.at t.0)) c.as_slice-in-Some.ensures.value c.first_task.ensures in
    let here = subst (λ (xs : List Mark). MatchOption c.first_task.result (first_at xs c.in-Some.at ≡ None) (λ t. IsFirstOf c.args.self.now.frames.items xs c.in-Some.at t.0)) c.as_slice-in-Some-2.ensures.value told in
    subst (λ (j : ℕ). MatchOption c.first_task.result (first_at c.args.self.now.marks.items j ≡ None) (λ t. IsFirstOf c.args.self.now.frames.items c.args.self.now.marks.items j t.0)) same here

pub returns-in-Some-clause-none : goal.returns-in-Some-clause-none
returns-in-Some-clause-none c = λ n. absurd (n c.in-Some.at (subst (λ (xs : List Frame). IsPlaceOf xs c.args.number c.in-Some.at) c.as_slice.ensures.value c.in-Some.ensures.found))

pub returns-in-None-clause-some : goal.returns-in-None-clause-some
returns-in-None-clause-some c = λ k p. absurd (c.in-None.ensures.none k (subst (λ (xs : List Frame). IsPlaceOf xs c.args.number k) (sym c.as_slice.ensures.value) p))
