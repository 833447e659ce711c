use Rattle.std.proofs.Common.{◌≡◌, ℕ, [], subst, sym, Option, rules}
use Rattle.std.specs.Prelude.{IfSome}
use Rattle.oss_word_deps.specs.Known.{Follows, IsAlone, IsBare, Owned}
use Rattle.oss_word_deps.specs.Ledger.{Ledger}
use Rattle.oss_word_deps.proofs.OpenLemmas.{empty_booked, empty_follows, empty_sound, zero_at}
use Rattle.oss_word_deps.proofs.words.Words.new.Goals as goal

pub invariant_of-result : goal.invariant_of-result
invariant_of-result c =
    let own = subst (λ (o : Option Owned). IfSome o (λ own. (own.size ≡ c.args.size) × IsBare own.known × IsAlone own.known c.args.size × (own.known.view.held ≡ []))) c.in-Some.is c.in_ok-net.ensures in
    let l : Ledger = record { entries = c.new.result.items; marks = c.new-2.result.items; jobs = c.new-3.result.items; mains = c.in_ok-mains.mains.items } in
    let entries : c.new.result.items ≡ [] = search rules in
    let marks : c.new-2.result.items ≡ [] = search rules in
    (subst (λ (n : ℕ). Follows c.in-Some.net.known n l) (sym own.0) (empty_follows l c.in-Some.net.known c.args.size entries marks c.requires.0 c.requires.1 own.2 own.3 own.1.links own.1.gives), empty_sound l entries marks c.in_ok-mains.ensures.0)

pub returns-in-Some-clause-booked : goal.returns-in-Some-clause-booked
returns-in-Some-clause-booked c =
    let entries : c.new.result.items ≡ [] = search rules in
    let jobs : c.new-3.result.items ≡ [] = search rules in
    empty_booked (record { entries = c.new.result.items; marks = c.new-2.result.items; jobs = c.new-3.result.items; mains = c.in_ok-mains.mains.items }) entries jobs (zero_at c.in_ok-mains.mains.items c.in_ok-mains.ensures.1)
