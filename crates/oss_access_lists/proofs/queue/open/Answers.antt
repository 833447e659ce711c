use Rattle.std.proofs.Common.{rules, ◌≡◌, length, sym, subst, ap, ◌∙◌}
use Rattle.std.specs.Prelude.{if◌then◌else◌}
use Rattle.oss_access_lists.specs.Steps.{IsHung}
use Rattle.oss_access_lists.specs.Tables.{first_flags, wires_of}
use Rattle.oss_access_lists.proofs.OpenLemmas as opens
use Rattle.oss_access_lists.proofs.queue.open.Goals as goal

pub returns-then-is_none-clause-tables : goal.returns-then-is_none-clause-tables
returns-then-is_none-clause-tables c =
    opens.tables_made c.args.hangs.now.items c.args.stand.now.items c.args.posted.now.items c.args.behind.now.items c.args.head c.args.above c.args.mode c.requires.tables c.requires.within c.requires.held c.requires.covered
    c.hang_on.new.hangs.items c.hang_on.new.stand.items c.hang_on.new.posted.items c.hang_on.new.behind.items c.first_flags-flags.result c.args.head
    c.in_ok-hang_on.ensures.hangs c.in_ok-hang_on.ensures.stand c.in_ok-hang_on.ensures.posted c.in_ok-hang_on.ensures.behind
    (c.first_flags-flags.ensures ∙ (ap (λ y. first_flags y c.as_slice-2.result.now c.args.above c.args.mode) c.as_slice.ensures.value ∙ ap (λ y. first_flags c.args.hangs.now.items y c.args.above c.args.mode) c.as_slice-2.ensures.value))
    (ap (λ y. if y then c.args.head else length c.args.hangs.now.items) c.if-is_none.ensures)

pub returns-clause-tables : goal.returns-clause-tables
returns-clause-tables c =
    let at : c.len-at.result ≡ length c.args.hangs.now.items = search rules in
    opens.tables_made c.args.hangs.now.items c.args.stand.now.items c.args.posted.now.items c.args.behind.now.items c.args.head c.args.above c.args.mode c.requires.tables c.requires.within c.requires.held c.requires.covered
    c.hang_on.new.hangs.items c.hang_on.new.stand.items c.hang_on.new.posted.items c.hang_on.new.behind.items c.first_flags-flags.result c.len-at.result
    c.in_ok-hang_on.ensures.hangs c.in_ok-hang_on.ensures.stand c.in_ok-hang_on.ensures.posted c.in_ok-hang_on.ensures.behind
    (c.first_flags-flags.ensures ∙ (ap (λ y. first_flags y c.as_slice-2.result.now c.args.above c.args.mode) c.as_slice.ensures.value ∙ ap (λ y. first_flags c.args.hangs.now.items y c.args.above c.args.mode) c.as_slice-2.ensures.value))
    (at ∙ ap (λ y. if y then c.args.head else length c.args.hangs.now.items) c.if-is_none.ensures)

pub returns-then-is_none-clause-hung : goal.returns-then-is_none-clause-hung
returns-then-is_none-clause-hung c =
    subst (λ y. IsHung (wires_of c.args.hangs.now.items) (wires_of y) c.args.above (length c.args.hangs.now.items)) (sym c.in_ok-hang_on.ensures.hangs)
    (opens.hung c.args.hangs.now.items c.args.stand.now.items c.args.posted.now.items c.args.behind.now.items c.args.head c.args.above c.args.mode c.requires.tables c.requires.within c.requires.held c.requires.covered)

pub returns-clause-hung : goal.returns-clause-hung
returns-clause-hung c =
    subst (λ y. IsHung (wires_of c.args.hangs.now.items) (wires_of y) c.args.above (length c.args.hangs.now.items)) (sym c.in_ok-hang_on.ensures.hangs)
    (opens.hung c.args.hangs.now.items c.args.stand.now.items c.args.posted.now.items c.args.behind.now.items c.args.head c.args.above c.args.mode c.requires.tables c.requires.within c.requires.held c.requires.covered)
