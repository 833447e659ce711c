use Rattle.std.proofs.Common.{◌≡◌, ℕ, List, ◌++◌, OnOk, subst}
use Rattle.oss_missing_text.proofs.TextLemmas.{few}
use Rattle.oss_missing_text.proofs.names.Names.add_few.Goals as goal

pub returns : goal.returns
returns c =
    subst (λ (xs : List ℕ). OnOk c.add_pieces.result (c.add_pieces.new.text.items ≡ c.args.text.now.items ++ xs)) (few c.args.self.now c.args.pieces.now c.requires) c.add_pieces.ensures
