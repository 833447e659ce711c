use Rattle.std.proofs.Common.{◌≡◌, ℕ, sym, ap, subst, ◌∙◌, arith}
use Rattle.std.proofs.lemmas.List.{get_or_read_under}
use Rattle.oss_access_lists.specs.declared.hang.Hang.{Hang}
use Rattle.oss_access_lists.specs.Tables.{hang_at, wires_of}
use Rattle.oss_access_lists.specs.Wires.{IsBelow}
use Rattle.oss_retire.specs.Copies.{at_}
use Rattle.oss_retire.proofs.CopyLemmas.{before_less, owner_first, owner_next}
use Rattle.oss_retire.proofs.copying.Copy.owner_of.Goals as goal

pub index-requires : goal.index-requires
index-requires c =
    let within = c.requires.within in
    let low = within.0 in
    let listed = c.is_settled-settled.ensures.listed c.args.at (λ z. omega (arith, low, z)) within.1 in
    let same = ap (λ (h : Hang). h.before) c.hang-hang.ensures in
    let less = before_less c.args.line.now.hangs c.args.at c.is_settled-settled.ensures.wired listed (λ z. c.if-hang-eq0.false (same ∙ z)) in
    let owned = c.requires.copied.owned in
    omega (arith, less, same, owned)

pub returns-then-hang-eq0 : goal.returns-then-hang-eq0
returns-then-hang-eq0 c =
    let within = c.requires.within in
    let low = within.0 in
    let listed = c.is_settled-settled.ensures.listed c.args.at (λ z. omega (arith, low, z)) within.1 in
    subst (λ (p : ℕ). IsBelow (wires_of c.args.line.now.hangs).place p c.args.at) (sym (ap (λ (h : Hang). h.above) c.hang-hang.ensures))
    (owner_first c.args.line.now.hangs c.args.at listed (sym (ap (λ (h : Hang). h.before) c.hang-hang.ensures) ∙ c.if-hang-eq0.true))

pub returns-else-hang-eq0 : goal.returns-else-hang-eq0
returns-else-hang-eq0 c =
    let within = c.requires.within in
    let low = within.0 in
    let listed = c.is_settled-settled.ensures.listed c.args.at (λ z. omega (arith, low, z)) within.1 in
    let same = ap (λ (h : Hang). h.before) c.hang-hang.ensures in
    let later : (hang_at c.args.line.now.hangs c.args.at).before ≡ 0 → ⊥ = λ z. c.if-hang-eq0.false (same ∙ z) in
    let less = before_less c.args.line.now.hangs c.args.at c.is_settled-settled.ensures.wired listed later in
    let owned = c.requires.copied.owned in
    let owner : ℕ = at_ c.args.self.now.owners.items c.hang-hang.result.before in
    let read = get_or_read_under c.args.self.now.owners.items c.hang-hang.result.before c.args.at c.index.result.now 0 c.index.ensures (omega (arith, less, same)) (sym owned) in
    subst (λ (p : ℕ). IsBelow (wires_of c.args.line.now.hangs).place p c.args.at) (sym read)
    (owner_next c.args.line.now.hangs c.args.at owner listed later (subst (λ (b : ℕ). IsBelow (wires_of c.args.line.now.hangs).place owner b) same (c.requires.copied.owner c.hang-hang.result.before (omega (arith, less, same)) c.if-hang-eq0.false)))
