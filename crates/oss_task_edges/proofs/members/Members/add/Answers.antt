use Rattle.std.proofs.Common.{◌≡◌, ◌∙◌, ◌+◌, ◌≤◌, ◌++◌, ◌∷◌, [], List, length, ap, arith, subst, sym, Some, rules}
use Rattle.std.specs.Prelude.{slice_get}
use Rattle.oss_task_edges.specs.declared.members.Member.{Member}
use Rattle.oss_task_edges.specs.Members.{AreBehind, height}
use Rattle.oss_task_edges.proofs.ChainLemmas.{behind_more, last_there}
use Rattle.oss_task_edges.proofs.members.Members.add.Goals as goal
use Rattle.oss_task_edges.proofs.members.Members.add.Goals.{in-Some+else-eq, in-None}

pub invariant_of-self-2 : goal.invariant_of-self-2
invariant_of-self-2 c =
    let w : Member = record { child = c.args.child; mode = c.args.mode; strong = c.args.strong; older = c.known.result } in
    let k : height c.known.result ≤ 0 + length c.args.self.now = (let within = c.known.ensures.within in omega (arith, within)) in
    let within : height c.known.result ≤ 0 + length c.self.inside.items.items = subst (λ (ms : List Member). height c.known.result ≤ 0 + length ms) (sym c.self.view_is) k in
    let same : c.match-last.self-inside.items.items ≡ c.self.inside.items.items = elim c.match-last.branch [
      | in-Some+else-eq v ↦ cc
      | in-None v ↦ cc
    ] in
    subst (λ (ms : List Member). AreBehind 0 ms) (sym (c.in_ok-push.ensures.items ∙ ap (λ (ms : List Member). ms ++ w ∷ []) same)) (behind_more 0 c.self.inside.items.items w c.self.invariant within)

pub returns-clause-there : goal.returns-clause-there
returns-clause-there c = λ h.
    let w : Member = record { child = c.args.child; mode = c.args.mode; strong = c.args.strong; older = c.known.result } in
    let at : c.len-at.result ≡ length c.match-last.self-inside.items.items = search rules in
    ap (λ (ms : List Member). slice_get ms c.len-at.result) c.in_ok-push.ensures.items ∙ last_there c.match-last.self-inside.items.items c.len-at.result w at
    ∙ ap (λ o. Some (record { child = c.args.child; mode = c.args.mode; strong = c.args.strong; older = o })) (c.known.ensures.same h)
