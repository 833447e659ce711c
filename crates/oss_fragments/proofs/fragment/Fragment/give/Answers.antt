use Rattle.std.proofs.Common.{◌≡◌, ℕ, subst, List, Some}
use Rattle.std.specs.Prelude.{slice_get}
use Rattle.oss_fragments.specs.Here.{here_of, IsEntry}
use Rattle.oss_fragments.proofs.EntryLemmas.{given_of}
use Rattle.oss_fragments.proofs.fragment.Fragment.give.Goals as goal

pub returns-clause-given : goal.returns-clause-given
returns-clause-given c =
    let found : IsEntry (here_of c.args.self.now) c.args.number c.in-Some.at = subst (λ (xs : List ℕ). slice_get xs c.in-Some.at ≡ Some c.args.number) c.as_slice.ensures.value c.in-Some.ensures.found in
    given_of c.args.self.now c.requires.right c.args.number c.in-Some.at c.drop_at.new.self found c.drop_at.ensures.edges c.drop_at.ensures.hangs c.drop_at.ensures.given c.drop_at.ensures.settled c.drop_at.ensures.tasks c.drop_at.ensures.room
