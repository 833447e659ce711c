use Rattle.std.proofs.Common.{ℕ, List, sym, ap, subst, ◌∙◌, ◌+◌, ◌++◌, [], ◌∷◌}
use Rattle.oss_access_lists.specs.declared.marks.Marks.{Marks}
use Rattle.oss_retire.specs.declared.copying.Copy.{Copy as Kept}
use Rattle.oss_retire.specs.Copies.{AreCopied}
use Rattle.oss_retire.specs.Remainder.{is_spent}
use Rattle.oss_retire.proofs.CopyLemmas.{left_out}
use Rattle.oss_retire.proofs.copying.Copy.add.Goals as goal
use Rattle.oss_retire.proofs.copying.Copy.add.Goals.{then-is_spent, else-is_spent+in_ok-place}

pub keep-requires-clause-not_spent : goal.keep-requires-clause-not_spent
keep-requires-clause-not_spent c = ap (λ (m : Marks). is_spent m) (sym c.flags.ensures.stand) ∙ sym c.is_spent.ensures ∙ c.if-is_spent.false

pub returns-clause-copied : goal.returns-clause-copied
returns-clause-copied c =
    subst (λ (x : List ℕ). AreCopied c.args.line.now.hangs c.args.line.now.stand c.args.numbers.now (c.args.at + 1) c.if-is_spent.self.line.hangs c.if-is_spent.self.numbers.items c.push.new.self.items x) (sym c.in_ok-push-2.ensures.items)
    (subst (λ (x : List ℕ). AreCopied c.args.line.now.hangs c.args.line.now.stand c.args.numbers.now (c.args.at + 1) c.if-is_spent.self.line.hangs c.if-is_spent.self.numbers.items x (c.if-is_spent.self.owners.items ++ c.owner_of-owner.result ∷ [])) (sym c.in_ok-push.ensures.items)
    (elim c.if-is_spent.branch [
      | then-is_spent w ↦ subst (λ (s : Kept). AreCopied c.args.line.now.hangs c.args.line.now.stand c.args.numbers.now (c.args.at + 1) s.line.hangs s.numbers.items (s.places.items ++ c.if-is_spent.place ∷ []) (s.owners.items ++ c.owner_of-owner.result ∷ [])) (sym w.self-is)
          (left_out c.args.line.now.hangs c.args.line.now.stand c.args.numbers.now c.args.self.now.line.hangs c.args.self.now.numbers.items c.args.self.now.places.items c.args.self.now.owners.items c.args.at c.requires.copied c.if-is_spent.place c.owner_of-owner.result
          c.requires.within.0 c.owner_of-owner.ensures c.is_settled-settled.ensures.wired (ap (λ (m : Marks). is_spent m) (sym c.flags.ensures.stand) ∙ sym c.is_spent.ensures ∙ w.if-is_spent.true) w.place-is)
      | else-is_spent+in_ok-place w ↦ subst (λ (s : Kept). AreCopied c.args.line.now.hangs c.args.line.now.stand c.args.numbers.now (c.args.at + 1) s.line.hangs s.numbers.items (s.places.items ++ c.if-is_spent.place ∷ []) (s.owners.items ++ c.owner_of-owner.result ∷ [])) (sym w.self-is)
          (subst (λ (p : ℕ). AreCopied c.args.line.now.hangs c.args.line.now.stand c.args.numbers.now (c.args.at + 1) w.keep.new.self.line.hangs w.keep.new.self.numbers.items (w.keep.new.self.places.items ++ p ∷ []) (w.keep.new.self.owners.items ++ c.owner_of-owner.result ∷ [])) (sym w.place-is) w.in_ok-place.ensures.copied)
    ]))
