use Rattle.std.proofs.Common.{◌≡◌, ℕ, subst, true, List, Some}
use Rattle.std.specs.Prelude.{slice_get}
use Rattle.oss_model.specs.Rights.{covers}
use Rattle.oss_access_lists.specs.Tables.{hang_at}
use Rattle.oss_fragments.specs.Here.{here_of, IsEntry}
use Rattle.oss_fragments.proofs.EntryLemmas.{one_entry, opened_of}
use Rattle.oss_fragments.proofs.fragment.Fragment.open.Goals as goal

pub hang-requires-clause-covered : goal.hang-requires-clause-covered
hang-requires-clause-covered c =
    let found : IsEntry (here_of c.args.self.now) c.args.parent c.in-Some.above = subst (λ (xs : List ℕ). slice_get xs c.in-Some.above ≡ Some c.args.parent) c.as_slice.ensures.value c.in-Some.ensures.found in
    subst (λ (v : ℕ). covers (hang_at c.args.self.now.line.hangs v).mode c.args.mode ≡ true) (one_entry c.args.self.now c.requires.right c.args.parent c.requires.may.above c.in-Some.above c.requires.may.above_is found) c.requires.may.covered

pub returns-clause-opened : goal.returns-clause-opened
returns-clause-opened c =
    let found : IsEntry (here_of c.args.self.now) c.args.parent c.in-Some.above = subst (λ (xs : List ℕ). slice_get xs c.in-Some.above ≡ Some c.args.parent) c.as_slice.ensures.value c.in-Some.ensures.found in
    opened_of c.args.self.now c.requires.right c.args.number c.args.parent c.in-Some.above c.args.mode c.hang.new.self found c.requires.may.newest c.hang.ensures.edges c.hang.ensures.hangs c.hang.ensures.hung c.hang.ensures.settled c.hang.ensures.tasks
