use Rattle.std.proofs.Common.{length}
use Rattle.oss_retire.proofs.RemainderLemmas.{remainder}
use Rattle.oss_retire.proofs.RisingLemmas.{rising_copied}
use Rattle.oss_retire.proofs.copying.Copy.told.Goals as goal

pub returns-clause-remainder : goal.returns-clause-remainder
returns-clause-remainder c = λ opens cell ord is. remainder opens cell c.args.line.now.hangs c.args.line.now.stand c.args.numbers.now c.args.self.line.hangs c.args.self.numbers.items c.args.self.places.items c.args.self.owners.items ord is
    (c.is_settled-settled.ensures.rest c.requires.settled) c.is_settled-settled.ensures.listed c.is_settled-wired.ensures.wired c.requires.copied c.requires.given

pub returns-clause-rising : goal.returns-clause-rising
returns-clause-rising c = λ rising. rising_copied c.args.line.now.hangs c.args.line.now.stand c.args.numbers.now (length c.args.line.now.hangs) c.args.self.line.hangs c.args.self.numbers.items c.args.self.places.items c.args.self.owners.items c.requires.copied rising
