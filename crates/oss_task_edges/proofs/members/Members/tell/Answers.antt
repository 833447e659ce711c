use Rattle.std.proofs.Common.{◌≡◌, ◌∙◌, ◌++◌, ◌∷◌, [], List, map, sym, ap, append_assoc}
use Rattle.std.proofs.lemmas.List.{append-nil}
use Rattle.oss_task_edges.specs.declared.members.Member.{Member}
use Rattle.oss_task_edges.specs.declared.part.Part.{Part}
use Rattle.oss_task_edges.specs.Members.{part_of}
use Rattle.oss_task_edges.proofs.ChainLemmas.{chain_end, chain_step, older_less}
use Rattle.oss_task_edges.proofs.members.Members.tell.Goals as goal

pub group-preserved : goal.group-preserved
group-preserved c = λ group g.
    let inv = c.group.invariant group g in
    let f = part_of c.args.range c.args.strong in
    let m = c.in-Some.member in
    let step = chain_step c.args.self.now c.group.place m inv.0 inv.1.0 (sym c.at.ensures.found ∙ c.in-Some.is) in
    let pushed : c.push.new.self.items ≡ c.group.parts.items ++ f m ∷ [] = c.in_ok-push.ensures.items ∙ ap (λ (p : Part). c.group.parts.items ++ p ∷ []) c.part_of.ensures in (
      step.0,
      (
        step.1.0,
        ap (λ (xs : List Part). xs ++ map f step.0) pushed ∙ append_assoc c.group.parts.items (f m ∷ []) (map f step.0)
            ∙ ap (λ (ms : List Member). c.group.parts.items ++ map f ms) (sym step.1.1) ∙ inv.1.1,
      ),
    )

pub returns : goal.returns
returns c = λ group g.
    let inv = c.group.invariant group g in
    let f = part_of c.args.range c.args.strong in
    let e : inv.0 ≡ [] = chain_end c.args.self.now c.group.place inv.0 inv.1.0 (sym c.at.ensures.found ∙ c.in_default.is) in
    sym (append-nil c.group.parts.items) ∙ ap (λ (ms : List Member). c.group.parts.items ++ map f ms) (sym e) ∙ inv.1.1

pub group-smaller : goal.group-smaller
group-smaller c = older_less c.args.self.now c.group.place c.in-Some.member c.at.ensures.behind (sym c.at.ensures.found ∙ c.in-Some.is)
