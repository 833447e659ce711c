use Rattle.oss_deps_tests.proofs.told.Told.may_open.Goals as goal

pub returns : goal.returns
returns g c = rw (← c.as_slice.ensures.value, ← c.as_slice-2.ensures.value) c.may_open.ensures
