use Rattle.oss_access_lists.proofs.StartLemmas.{start_tables}
use Rattle.oss_access_lists.proofs.access_list.AccessList.new.Goals as goal

pub invariant_of-result : goal.invariant_of-result
invariant_of-result c =
    rw (c.in_ok-hangs.ensures, c.in_ok-stand.ensures, c.in_ok-posted.ensures, c.in_ok-behind.ensures, c.no_hang.ensures, c.main_marks.ensures, c.no_marks.ensures) start_tables
